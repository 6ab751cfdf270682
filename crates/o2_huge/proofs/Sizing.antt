-- The last member that stays of a run gets a size.
use Rattle.std.proofs.Common.{◌≡◌, ℕ, suc, ◌+◌, Bool, true, false, eqb, inl, inr, List, [], ◌∷◌, length, Option, Some, None, IsSome, is_some, option_map, refl, sym, ap, ◌∙◌, subst, arith}
use Rattle.std.proofs.lemmas.Bool.{cases_eq, cond-true, cond-false, false≢true}
use Rattle.o2_entries.specs.declared.Attr.{Attr}
use Rattle.o2_entries.specs.declared.Entry.{Entry}
use Rattle.o2_entries.specs.Tables.{live_numbers, slot_at}
use Rattle.o2_image.specs.ImageList.{ImageList}
use Rattle.o2_regions.specs.declared.answer.Answer.{Answer}
use Rattle.o2_regions.specs.declared.answer.Roomed.{Roomed}
use Rattle.o2_regions.specs.declared.answer.Roomed.TheVariants.{Done, NoRoom, SwapFull, SwapFault}
use Rattle.o2_regions.specs.declared.held.Held.{Held}
use Rattle.o2_regions.specs.Maps.{Maps}
use Rattle.o2_place.specs.declared.seg_id.SegId.{SegId}
use Rattle.o2_store.specs.declared.brought.Brought.{Brought}
use Rattle.o2_store.specs.declared.brought.Brought.TheVariants.{Here, NoRoom as BroughtNoRoom, Stale, SwapFault as BroughtSwapFault, SwapFull as BroughtSwapFull}
use Rattle.o2_store.specs.Shelf.{Pictures, SameTables, Shelf, entry, entry_of}
use Rattle.o2_store.specs.Sizes.{Resizes}
use Rattle.o2_changes.specs.Worlds.{MatchesSize}
use Rattle.o2_stands.specs.Moves.{moved}
use Rattle.o2_stands.specs.Stands.{Matches}
use Rattle.o2_world.specs.Changes.{Change, Resizes as ResizesChange, with_changes}
use Rattle.o2_world.specs.Rulings.{full_size}
use Rattle.o2_segs.specs.Answers.{stop_of}
use Rattle.o2_segs.specs.Made.{IsStop}
use Rattle.o2_segs.proofs.Selecting.{entry_is}
use Rattle.o2_huge.specs.Growth.{FirstSized, sized_there}
use Rattle.o2_huge.specs.Resized.{KeepsRest, MatchesSized, is_done}

-- what is read of a live segment's size
pub size_read : (s : Shelf) (id : SegId) (size : ℕ) → IsSome (entry_of s id) → Some size ≡ option_map (λ (e : Entry). e.size) (entry_of s id) → size ≡ (entry s id.key).size
size_read s id size live e =
    let z : Some size ≡ Some (entry s id.key).size = e ∙ ap (option_map (λ (x : Entry). x.size)) (entry_is s id.age id.key live) in
    cc

pub size_known : (s : Shelf) (id : SegId) → IsSome (entry_of s id) → ◌≡◌ {A = Option ℕ} None (option_map (λ (e : Entry). e.size) (entry_of s id)) → ⊥
size_known s id live e = let z : ◌≡◌ {A = Option ℕ} None (Some (entry s id.key).size) = e ∙ ap (option_map (λ (x : Entry). x.size)) (entry_is s id.age id.key live) in cc

-- the change, where it has the size, and where it hasn't
pub not_sized : (s : Shelf) (size bytes : ℕ) (h : Held) → bytes ≡ full_size size → (eqb (entry s h.id.key).size bytes) ≡ true → sized_there s size (Some h) ≡ []
not_sized s size bytes h e same = cond-true (eqb (entry s h.id.key).size (full_size size)) [] _ (ap (eqb (entry s h.id.key).size) (sym e) ∙ same)

pub is_sized : (s : Shelf) (size bytes : ℕ) (h : Held) → bytes ≡ full_size size → (eqb (entry s h.id.key).size bytes) ≡ false → sized_there s size (Some h) ≡ ResizesChange h.id.age bytes ∷ []
is_sized s size bytes h e other =
    cond-false (eqb (entry s h.id.key).size (full_size size)) [] (ResizesChange h.id.age (full_size size) ∷ []) (ap (eqb (entry s h.id.key).size) (sym e) ∙ other)
    ∙ ap (λ (n : ℕ). ResizesChange h.id.age n ∷ []) (sym e)

pub none_matches : (s : Shelf) (m : Maps) (images : ImageList) (told : Bool) (block : ℕ → List ℕ) → MatchesSized s s m m images told block block []
unfolding with_changes
none_matches s m images told block = record {
  world = λ p w es em ei eb tells q.
      subst (λ (x : Shelf). Matches (moved p x m block) w) es (subst (λ (x : Maps). Matches (moved p p.shelf x block) w) em (subst (λ (x : ℕ → List ℕ). Matches (moved p p.shelf p.maps x) w) eb q));
}

pub size_matches : (s t : Shelf) (m n : Maps) (images : ImageList) (told : Bool) (before after : ℕ → List ℕ) (id : SegId) (size : ℕ)
    → MatchesSize s t m n images told before after id size → MatchesSized s t m n images told before after (ResizesChange id.age size ∷ [])
unfolding with_changes
size_matches s t m n images told before after id size a = record { world = λ p w es em ei eb tells q. a.world p w es em ei eb tells q }

-- How many live stays.

pub live_same : (first : ℕ) (es fs : List (Option Entry)) → length fs ≡ length es → ((k : ℕ) → is_some (slot_at fs k) ≡ is_some (slot_at es k)) → length (live_numbers first fs) ≡ length (live_numbers first es)
live_same first [] [] long same = refl
live_same first [] (f ∷ fs) long same = absurd (cc)
live_same first (e ∷ es) [] long same = absurd (cc)
live_same first (None ∷ es) (None ∷ fs) long same = live_same (first + 1) es fs (omega (arith, long)) (λ k. same (suc k))
live_same first (Some e ∷ es) (Some f ∷ fs) long same = ap suc (live_same (first + 1) es fs (omega (arith, long)) (λ k. same (suc k)))
live_same first (None ∷ es) (Some f ∷ fs) long same = absurd (false≢true (sym (same 0)))
live_same first (Some e ∷ es) (None ∷ fs) long same = absurd (false≢true (same 0))

pub rest_same : (s : Shelf) → KeepsRest s s
rest_same s = record { size = refl; most = refl; made = refl; live = refl; alive = λ k. refl; flags = λ k. refl }

pub rest_moved : (s t : Shelf) → SameTables s t → KeepsRest s t
rest_moved s t tables = record {
  size = tables.size;
  most = tables.count;
  made = tables.made;
  live = live_same 0 s.entries t.entries tables.count (λ k. (tables.same k).live);
  alive = λ k. (tables.same k).live;
  flags = λ k. ap (λ (a : Attr). a.flags) (tables.same k).attr;
}

pub rest_sized : (told : Bool) (pic : Pictures) (s t : Shelf) (before after : ℕ → List ℕ) (key size : ℕ) → Resizes told pic s before t after key size → KeepsRest s t
rest_sized told pic s t before after key size r = record {
  size = r.whole;
  most = r.count;
  made = r.made;
  live = live_same 0 s.entries t.entries r.count alive;
  alive = alive;
  flags = λ k. elim (cases_eq k key) [
    | inl e ↦ ap (λ (j : ℕ). (entry t j).attr.flags) e ∙ ap (λ (a : Attr). a.flags) r.here.attr ∙ ap (λ (j : ℕ). (entry s j).attr.flags) (sym e)
    | inr other ↦ ap (λ (a : Attr). a.flags) (r.same k other).attr
  ];
}
  where
    alive : (k : ℕ) → is_some (slot_at t.entries k) ≡ is_some (slot_at s.entries k)
    alive k = elim (cases_eq k key) [
      | inl e ↦ ap (λ (j : ℕ). is_some (slot_at t.entries j)) e ∙ r.here.live ∙ ap (λ (j : ℕ). is_some (slot_at s.entries j)) (sym e)
      | inr other ↦ (r.same k other).live
    ]

-- the cause of a stop is told of the change
pub first_sized : (s : Shelf) (id : SegId) (size : ℕ) (cs : List Change) (says : SegId → ℕ → Type 0) → IsSome (entry_of s id) → cs ≡ ResizesChange id.age size ∷ [] → says id size → FirstSized s cs says
first_sized s id size cs says live e h = record { id = id; size = size; live = live; rest = []; change = e; holds = h }

pub first_as : (s : Shelf) (cs ds : List Change) (says : SegId → ℕ → Type 0) → cs ≡ ds → FirstSized s cs says → FirstSized s ds says
first_as s cs ds says e a = record { id = a.id; size = a.size; live = a.live; rest = a.rest; change = sym e ∙ a.change; holds = a.holds }

-- Stops.

pub stop_is : (a : Brought) (r : Roomed) → Some r ≡ stop_of a → IsStop r
stop_is Here r e = absurd (cc)
stop_is BroughtNoRoom r e = let z : r ≡ NoRoom = cc in subst IsStop (sym z) tt
stop_is BroughtSwapFull r e = let z : r ≡ SwapFull = cc in subst IsStop (sym z) tt
stop_is BroughtSwapFault r e = let z : r ≡ SwapFault = cc in subst IsStop (sym z) tt
stop_is Stale r e = absurd (cc)

pub same_stop : (r s : Roomed) → Some r ≡ Some s → r ≡ s
same_stop r s e = cc

pub not_done : (r : Roomed) → IsStop r → is_done r ≡ false
not_done (Done a) stop = absurd stop
not_done NoRoom stop = refl
not_done SwapFull stop = refl
not_done SwapFault stop = refl

pub never_done : (r : Roomed) (a : Answer) (X : Type 0) → IsStop r → r ≡ Done a → X
never_done (Done b) a X stop e = absurd stop
never_done NoRoom a X stop e = absurd (cc)
never_done SwapFull a X stop e = absurd (cc)
never_done SwapFault a X stop e = absurd (cc)

pub done_is : (a b : Answer) → ◌≡◌ {A = Roomed} (Done a) (Done b) → b ≡ a
done_is a b e = cc
