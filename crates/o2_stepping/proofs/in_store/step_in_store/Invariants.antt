use Rattle.std.proofs.Common.{◌≡◌, ℕ, ◌+◌, ◌-◌, ◌≤◌, List, length, true}
use Rattle.std.specs.Prelude.{IsTrue}
use Rattle.o2_isa.specs.Presence.{is_in}
use Rattle.o2_segbus.specs.Frames.{CanStep}
use Rattle.o2_segbus.specs.Seen.{present_in}
use Rattle.o2_service.specs.Needs.{AreLive, AreWhole, OnlyNeededComes, size_in}
use Rattle.o2_stands.specs.Stands.{IsReady}
use Rattle.o2_world.specs.Known.{Known}
use Rattle.o2_run.specs.Room.{touched}
use Rattle.o2_stepping.specs.Goings.{GoForRoom}
use Rattle.o2_stepping.specs.Rooms.{AreNeeded, ages_of, left_in, needed_names, seated_in}
use Rattle.o2_stepping.specs.Shapes.{SameShape}
use Rattle.o2_stepping.specs.Worlds.{away_of, before_in, bytes_with, parts_of}
use Rattle.o2_store.specs.Idle.{Idles}
use Rattle.o2_store.specs.Loads.{live_load}
use Rattle.o2_stepping.proofs.in_store.step_in_store.Given as goal

abbrev pub invariant-tries : goal.invariant-tries
invariant-tries g l =
    let S = g.S.SwapDevice in
    record {
      cpu : l.cpu ≡ l.fn.cpu;
      input : l.input ≡ l.fn.input;
      console : l.console ≡ l.fn.console;
      report : l.report ≡ l.fn.report;
      avail : l.services.avail ≡ l.fn.services.avail;
      shape : SameShape l.fn.store l.fn.regions l.store l.regions;
      ready : IsReady (parts_of l.store l.regions l.images (S.blocks l.swap) (S.block l.swap));
      blocks : S.blocks l.swap ≡ S.blocks l.fn.swap;
      told : IsTrue (S.told l.swap) → IsTrue (S.told l.fn.swap);
      faults : S.faults l.fn.swap ≤ S.faults l.swap;
      bytes : IsTrue (S.told l.swap) → (n : ℕ) → bytes_with (away_of l.store l.regions l.images (S.blocks l.swap) (S.block l.swap)) l.store n
          ≡ bytes_with (away_of l.fn.store l.fn.regions l.images (S.blocks l.fn.swap) (S.block l.fn.swap)) l.fn.store n;
      idle : Idles (live_load l.fn.store) l.fn.store l.store l.fn.swap l.swap;
      only : OnlyNeededComes l.need l.fn.store l.store;
      leave : GoForRoom l.fn.store l.store;
      live : AreLive l.store l.need;
      whole : AreWhole l.store l.need;
      seats : AreNeeded l.need (seated_in l.regions l.pid l.cpu);
      can_step : l.here ≡ true → CanStep l.store l.regions l.pid l.cpu;
      here : l.here ≡ true → (n : ℕ) → is_in n (ages_of l.need) ≡ true → present_in l.store n ≡ true;
      sizes : (k : ℕ) → size_in l.need k ≡ 0;
      named : (bytes : List ℕ) (known : Known) → IsTrue (S.told l.swap) → (n : ℕ) → is_in n (ages_of l.need) ≡ true
          → is_in n (needed_names (before_in (away_of l.fn.store l.fn.regions l.images (S.blocks l.fn.swap) (S.block l.fn.swap)) l.fn.store l.fn.regions l.pid l.fn.cpu bytes known)) ≡ true;
      left : (bytes : List ℕ) (known : Known) → IsTrue (S.told l.swap)
          → left_in (touched (before_in (away_of l.fn.store l.fn.regions l.images (S.blocks l.fn.swap) (S.block l.fn.swap)) l.fn.store l.fn.regions l.pid l.fn.cpu bytes known)) l.need + length l.need ≤ 7;
    }

abbrev pub decreases-tries : goal.decreases-tries
decreases-tries g l = 16 - length l.need
