use Rattle.std.proofs.Common.{◌≡◌, ◌≤◌, IsSome, IsTrue}
use Rattle.o2_swapmap.specs.Piles.{all_of}
use Rattle.o2_store.specs.Idle.{Idles}
use Rattle.o2_store.specs.Leaving.{LeaveFor}
use Rattle.o2_store.specs.Loads.{live_load}
use Rattle.o2_store.specs.Pictures.{picture, HasPicture}
use Rattle.o2_store.specs.Shelf.{AreClean, HasAll, KeepsAll, place_of}
use Rattle.o2_service.specs.Needs.{AreLive, ArePresent, AreWhole, OnlyNeededComes, Stays, all_needed}
use Rattle.o2_service.specs.Told.{Follows}
use Rattle.o2_service.proofs.Reading.{HasAsked, Waits}
use Rattle.o2_service.proofs.serving.bring_all.Given as goal

abbrev pub invariant-loop-k : goal.invariant-loop-k
invariant-loop-k g l =
    let S = g.S.SwapDevice in
    record {
      keeps : KeepsAll (S.told l.swap) (picture l.images) l.initial.store (S.block l.initial.swap) l.store (S.block l.swap);
      clean : AreClean l.store (picture l.images);
      blocks : S.blocks l.swap ≡ S.blocks l.initial.swap;
      told : IsTrue (S.told l.swap) → IsTrue (S.told l.initial.swap);
      map : all_of l.store.swap ≡ all_of l.initial.store.swap;
      live : AreLive l.store l.need;
      whole : AreWhole l.store l.need;
      pictured : HasAll (HasPicture l.images) l.store;
      stays : Stays l.need l.initial.store l.store;
      only : OnlyNeededComes l.need l.initial.store l.store;
      leave : LeaveFor l.initial.store l.store 0;
      here : ArePresent l.store l.need l.k;
      fits : all_needed l.store l.need ≤ l.store.places.size;
      follows : Follows l.initial.regions l.store l.regions;
      idle : Idles (live_load l.initial.store) l.initial.store l.store l.initial.swap l.swap;
      waits : Waits l.initial.store l.store l.need;
      asked : HasAsked l.initial.store l.need (λ k. IsSome (place_of l.store k)) (S.asked l.initial.swap) (S.asked l.swap);
      faults : S.faults l.initial.swap ≤ S.faults l.swap;
    }
