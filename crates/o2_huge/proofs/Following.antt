-- What a call on a run asks goes on to hold behind a new size, and what it leaves goes by its ruling.
use Rattle.std.proofs.Common.{◌≡◌, inl, inr, ℕ, Bool, List, refl, ◌∙◌, arith}
use Rattle.o2_image.specs.ImageList.{ImageList}
use Rattle.o2_isa.specs.declared.cpu.Cpu.{Cpu}
use Rattle.o2_place.specs.declared.seg_id.SegId.{SegId}
use Rattle.o2_regions.specs.declared.answer.Answer.{Answer}
use Rattle.o2_regions.specs.declared.answer.Roomed.TheVariants.{Done}
use Rattle.o2_regions.specs.declared.held.Held.{Held}
use Rattle.o2_regions.specs.Maps.{Maps}
use Rattle.o2_store.specs.Idle.{NoneTaken}
use Rattle.o2_store.specs.Shelf.{AreClean, Shelf}
use Rattle.o2_store.specs.Pictures.{picture}
use Rattle.o2_changes.specs.Order.{IsInOrder}
use Rattle.o2_changes.proofs.Framing.{for_refl}
use Rattle.o2_changes.proofs.KeepingHolds.{holds_refl}
use Rattle.o2_stands.specs.Parts.{Parts}
use Rattle.o2_stands.proofs.Moves.{held_same}
use Rattle.o2_world.specs.Changes.{Change}
use Rattle.o2_world.specs.Rulings.{Ruling, refusal}
use Rattle.o2_segs.proofs.Resizing.{refusal_moved}
use Rattle.o2_segs.proofs.Rows.{refusal_answers}
use Rattle.o2_huge.specs.Frames.{FollowsRuling, HoldsRun, MayHave, SizesRun, StopsFor}
use Rattle.o2_huge.specs.Growth.{FirstSized}
use Rattle.o2_huge.specs.Members.{MayMake}
use Rattle.o2_huge.specs.Resized.{KeepsRest}
use Rattle.o2_huge.proofs.Asking.{without_refused}
use Rattle.o2_huge.proofs.Keeping.{limits_kept}
use Rattle.o2_huge.proofs.Shares.{vacant_still}

-- Where the same is held, and as much is reserved, a run is held still, and may have as many segments.

pub run_held : (m n : Maps) (pid first count members : ℕ) (h : Held) → n.held ≡ m.held → HoldsRun m pid first count members h → HoldsRun n pid first count members h
run_held m n pid first count members h same run = record {
  inside = run.inside;
  some = run.some;
  few = run.few;
  held = held_same m n pid first same ∙ run.held;
  all = λ i low high. (let x = run.all i low high in record { held = x.held; there = held_same m n pid i same ∙ x.there; run = x.run });
}

pub may_have_still : (m n : Maps) (pid first count members segments : ℕ) → n.reserved ≡ m.reserved → n.held ≡ m.held → MayHave m pid first count members segments → MayHave n pid first count members segments
may_have_still m n pid first count members segments reserved held may = record {
  wanted = may.wanted;
  enough = may.enough;
  short = may.short;
  vacant = λ i low high. vacant_still m n pid i reserved (λ q. held_same m n q i held) (may.vacant i low high);
}

pub may_make_still : (s t : Shelf) (m n : Maps) (pid count : ℕ) → KeepsRest s t → n.processes ≡ m.processes → IsInOrder t n → MayMake s m pid count → MayMake t n pid count
may_make_still s t m n pid count rest processes order may = record {
  process = (may.process.0, (let a = may.process.1 in omega (arith, a, processes)));
  order = order;
  made = (let a = may.made in let b = rest.made in omega (arith, a, b));
  room = (let a = may.room in let b = rest.live in let d = rest.most in omega (arith, a, b, d));
}

-- Stops: where the one list's first change is the other's, where the one stop comes to the other, and where there is none.

pub stops_as : (s : Shelf) (keep : List SegId) (cs ds : List Change) (lacks fills idles lacks_then fills_then idles_then : Type 0)
    → ((says : SegId → ℕ → Type 0) → FirstSized s cs says → FirstSized s ds says) → (lacks_then → lacks) → (fills_then → fills) → (idles → idles_then)
    → StopsFor s keep cs lacks fills idles → StopsFor s keep ds lacks_then fills_then idles_then
stops_as s keep cs ds lacks fills idles lacks_then fills_then idles_then first a b d stops = record {
  no_room = λ e. first _ (stops.no_room (a e));
  all_load = λ e. first _ (stops.all_load (b e));
  idle = λ none. elim (stops.idle none) [ inl i ↦ inl (d i) | inr more ↦ inr (first _ more) ];
}

pub never_stops : (s : Shelf) (keep : List SegId) (cs : List Change) (lacks fills idles : Type 0) → (lacks → ⊥) → (fills → ⊥) → (NoneTaken s.swap → idles) → StopsFor s keep cs lacks fills idles
never_stops s keep cs lacks fills idles a b d = record {
  no_room = λ e. absurd (a e);
  all_load = λ e. absurd (b e);
  idle = λ none. inl (d none);
}

-- A call that is refused, and changes nothing.

pub refused_row : (r : Ruling) (error : ℕ) (p : Parts) (pid : ℕ) (s : Shelf) (m : Maps) (images : ImageList) (told : Bool) (block : ℕ → List ℕ) (c : Cpu) (a : Answer) → p.shelf ≡ s → p.maps ≡ m
    → r ≡ refusal error → a ≡ record { error = error; value = 0 } → FollowsRuling r p pid s s m m images told block block c c (Done a)
refused_row r error p pid s m images told block c a es em is answer = record {
  answer = refusal_answers r error a is answer;
  registers = without_refused r error c is;
  world = λ w x ei eb tells at may q. refusal_moved p s m block w r error es em eb is q;
  holds = inl (holds_refl m);
}

pub refused_run : (images : ImageList) (keep : List SegId) (s : Shelf) (m : Maps) → IsInOrder s m → AreClean s (picture images) → SizesRun images keep s m s m 4096
refused_run images keep s m order clean = record {
  limits = limits_kept s m 4096;
  processes = refl;
  kept = λ k named some here. here;
  goes_on = for_refl images s m order clean;
}
