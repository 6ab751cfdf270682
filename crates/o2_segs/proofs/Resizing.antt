-- What the row of a new size comes to.
use Rattle.std.proofs.Common.{◌≡◌, ℕ, ◌<◌, ◌/◌, ◌%◌, ◌&&◌, ◌||◌, ◌==◌, Some, None, Bool, true, false, nat_lt, not, option_map, List, [], ◌∷◌, sym, ap, ◌∙◌, subst, arith, if◌then◌else◌}
use Rattle.std.proofs.lemmas.Bool.{cond-true, cond-false}
use Rattle.o2_desc.specs.Bits.{has_bit}
use Rattle.o2_regions.specs.declared.answer.Roomed.{Roomed}
use Rattle.o2_regions.specs.declared.held.Held.{Held as HeldThere}
use Rattle.o2_regions.specs.Maps.{Maps}
use Rattle.o2_place.specs.declared.seg_id.SegId.{SegId}
use Rattle.o2_segbus.specs.Seen.{AreNamed}
use Rattle.o2_store.specs.Shelf.{Shelf, entry}
use Rattle.o2_store.specs.declared.brought.Brought.{Brought}
use Rattle.o2_stands.specs.Stands.{Matches}
use Rattle.o2_world.specs.World.{World}
use Rattle.o2_world.specs.Changes.{Change, Resizes, with_all, with_change, with_changes}
use Rattle.o2_world.specs.Rulings.{Ruling, full_size, grants, is_alias, reallocation, reallocation_of, reallocation_with, refusal, resizes_with}
use Rattle.o2_stands.specs.Knows.{Others, known_in, marks_under}
use Rattle.o2_stands.specs.Moves.{moved}
use Rattle.o2_stands.specs.Parts.{Parts, cause_of, held_of}
use Rattle.o2_segs.specs.Answers.{changes_roomed, stop_of}
use Rattle.o2_segs.proofs.Rows.{at_maps}
use Rattle.o2_segs.proofs.Selecting.{marks_are, named_in, under, under_held, under_is}
use Rattle.o2_segs.proofs.Stops.{stop_changes}

-- a size that a segment keeps
abbrev pub keeps : Shelf → ℕ → ℕ → Bool
keeps s k size = (entry s k).attr.clean || ((entry s k).attr.shared && (not (has_bit (entry s k).attr.flags 3) && nat_lt size (entry s k).size))

pub realloc_none : (p : Parts) (o : Others) (m : Maps) (pid size s : ℕ) → p.maps ≡ m → under m pid s ≡ None → reallocation (known_in p o) pid size s ≡ refusal 5
realloc_none p o m pid size s em e = ap (reallocation_of (known_in p o) (full_size size)) (under_is p o pid s ∙ ap (option_map (held_of p.maps pid (s / 8))) (at_maps p m pid s None em e))

pub realloc_fixed : (p : Parts) (o : Others) (m : Maps) (pid size s : ℕ) (h : HeldThere) → p.maps ≡ m → under m pid s ≡ Some h → (is_alias (cause_of h.cause) || not (h.reserved == 0)) ≡ true → reallocation (known_in p o) pid size s ≡ refusal 5
realloc_fixed p o m pid size s h em e t =
    ap (reallocation_of (known_in p o) (full_size size)) (under_is p o pid s ∙ ap (option_map (held_of p.maps pid (s / 8))) (at_maps p m pid s (Some h) em e))
    ∙ cond-true (is_alias (cause_of h.cause) || not (h.reserved == 0)) (refusal 5) (reallocation_with h.id.age (full_size size) ((known_in p o).segment h.id.age)) t

tried : (p : Parts) (o : Others) (sh : Shelf) (m : Maps) (pid size s : ℕ) (h : HeldThere) → p.shelf ≡ sh → p.maps ≡ m → AreNamed sh m → under m pid s ≡ Some h → (is_alias (cause_of h.cause) || not (h.reserved == 0)) ≡ false
    → reallocation (known_in p o) pid size s ≡ reallocation_with h.id.age (full_size size) (Some (marks_under p o h.id.age h.id.key))
tried p o sh m pid size s h es em named e t =
    ap (reallocation_of (known_in p o) (full_size size)) (under_is p o pid s ∙ ap (option_map (held_of p.maps pid (s / 8))) (at_maps p m pid s (Some h) em e))
    ∙ cond-false (is_alias (cause_of h.cause) || not (h.reserved == 0)) (refusal 5) (reallocation_with h.id.age (full_size size) ((known_in p o).segment h.id.age)) t
    ∙ ap (reallocation_with h.id.age (full_size size)) (marks_are p o (named_in p sh m es em named) pid (s / 8) h (under_held p.maps pid s h (at_maps p m pid s (Some h) em e)).1)

pub realloc_kept : (p : Parts) (o : Others) (sh : Shelf) (m : Maps) (pid size s : ℕ) (h : HeldThere) → p.shelf ≡ sh → p.maps ≡ m → AreNamed sh m → under m pid s ≡ Some h → (is_alias (cause_of h.cause) || not (h.reserved == 0)) ≡ false
    → keeps sh h.id.key (full_size size) ≡ true → reallocation (known_in p o) pid size s ≡ refusal 5
realloc_kept p o sh m pid size s h es em named e t k =
    tried p o sh m pid size s h es em named e t
    ∙ cond-true (keeps p.shelf h.id.key (full_size size)) (refusal 5) (grants 0 (resizes_with h.id.age (full_size size) (entry p.shelf h.id.key).attr.gone)) (subst (λ (x : Shelf). keeps x h.id.key (full_size size) ≡ true) (sym es) k)

pub realloc_done : (p : Parts) (o : Others) (sh : Shelf) (m : Maps) (pid size s : ℕ) (h : HeldThere) → p.shelf ≡ sh → p.maps ≡ m → AreNamed sh m → under m pid s ≡ Some h → (is_alias (cause_of h.cause) || not (h.reserved == 0)) ≡ false
    → keeps sh h.id.key (full_size size) ≡ false → (gone : Bool) → (entry sh h.id.key).attr.gone ≡ gone → reallocation (known_in p o) pid size s ≡ grants 0 (resizes_with h.id.age (full_size size) gone)
realloc_done p o sh m pid size s h es em named e t k gone mark =
    tried p o sh m pid size s h es em named e t
    ∙ cond-false (keeps p.shelf h.id.key (full_size size)) (refusal 5) (grants 0 (resizes_with h.id.age (full_size size) (entry p.shelf h.id.key).attr.gone)) (subst (λ (x : Shelf). keeps x h.id.key (full_size size) ≡ false) (sym es) k)
    ∙ ap (λ (b : Bool). grants 0 (resizes_with h.id.age (full_size size) b)) (ap (λ (x : Shelf). (entry x h.id.key).attr.gone) es ∙ mark)

-- A new size as the change of the row, and a stop, which changes nothing.

pub sized_matches : (p : Parts) (w : World) (t : Shelf) (n : Maps) (block : ℕ → List ℕ) (id : SegId) (size m : ℕ) (r : Ruling) → r
    ≡ grants 0 (Resizes id.age size ∷ []) → m ≡ size → Matches (moved p t n block) (with_change w (Resizes id.age m))
    → Matches (moved p t n block) (with_all w r.changes)
unfolding with_changes
sized_matches p w t n block id size m r e same q =
    subst (λ (x : Ruling). Matches (moved p t n block) (with_all w x.changes)) (sym e) (subst (λ (x : ℕ). Matches (moved p t n block) (with_change w (Resizes id.age x))) same q)

pub stopped_matches : (p : Parts) (w : World) (t : Shelf) (n : Maps) (block : ℕ → List ℕ) (r : Ruling) (a : Brought) (stop : Roomed) → Some stop ≡ stop_of a → Matches (moved p t n block) w → Matches (moved p t n block) (with_all w (changes_roomed r stop))
unfolding with_changes
stopped_matches p w t n block r a stop e q = subst (λ (cs : List Change). Matches (moved p t n block) (with_all w cs)) (sym (stop_changes r a stop e)) q

-- an error where segments may have come and gone: nothing has changed
pub refusal_moved : (p : Parts) (s : Shelf) (m : Maps) (block : ℕ → List ℕ) (w : World) (r : Ruling) (error : ℕ) → p.shelf ≡ s → p.maps ≡ m → p.block ≡ block → r ≡ refusal error → Matches p w → Matches (moved p s m block) (with_all w r.changes)
unfolding with_changes
refusal_moved p s m block w r error es em eb e q =
    subst (λ (x : Ruling). Matches (moved p s m block) (with_all w x.changes)) (sym e)
    (subst (λ (x : Shelf). Matches (moved p x m block) w) es (subst (λ (x : Maps). Matches (moved p p.shelf x block) w) em (subst (λ (x : ℕ → List ℕ). Matches (moved p p.shelf p.maps x) w) eb q)))

-- A size as a word.

zero_is : (n : ℕ) → (n == 0) ≡ true → n ≡ 0
zero_is n e = grind arith

same_word : (n : ℕ) → n < 65536 → n % 65536 ≡ n
same_word n low = omega (arith, low)

pub full_zero : (n : ℕ) → (n == 0) ≡ true → 65536 ≡ full_size n
full_zero n e = ap full_size (sym (zero_is n e))

pub full_some : (n : ℕ) → n < 65536 → (n == 0) ≡ false → n ≡ full_size n
full_some n low e =
    sym (ap (λ (k : ℕ). if k == 0 then 65536 else k) (same_word n low) ∙ ap (λ (b : Bool). if b then 65536 else n) e)
