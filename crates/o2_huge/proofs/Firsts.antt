-- Lists of changes whose first is that of a size.
use Rattle.std.proofs.Common.{◌≡◌, ℕ, ◌+◌, ◌-◌, Bool, true, false, List, [], ◌∷◌, ◌++◌, Option, Some, None, IsSome, if◌then◌else◌, sym, ap, ◌∙◌}
use Rattle.std.specs.Prelude.{nat_lt}
use Rattle.o2_place.specs.declared.seg_id.SegId.{SegId}
use Rattle.o2_regions.specs.declared.held.Held.{Held}
use Rattle.o2_regions.specs.Maps.{Maps, held_at, holds_of}
use Rattle.o2_store.specs.Shelf.{Shelf}
use Rattle.o2_world.specs.Changes.{Change, Resizes}
use Rattle.o2_world.specs.HugeRulings.{new_members, segments_of, sizes_of}
use Rattle.o2_world.specs.Rulings.{Ruling, grants, indexes, refusal}
use Rattle.o2_huge.specs.Growth.{EachFirstSized, lost_in, lost_there, shares_in}
use Rattle.o2_huge.specs.Resized.{changed_in, flags_there}

pub each_as : (s : Shelf) (cs ds : List Change) (says : SegId → ℕ → Type 0) → cs ≡ ds → EachFirstSized s cs says → EachFirstSized s ds says
each_as s cs ds says e x = record { name = x.name; size = x.size; rest = x.rest; change = sym e ∙ x.change; each = x.each }

-- no list without a change is one
pub none_first : (s : Shelf) (cs : List Change) (says : SegId → ℕ → Type 0) → cs ≡ [] → EachFirstSized s cs says → ⊥
none_first s cs says e x = (let z : ◌≡◌ {A = List Change} [] (Resizes x.name x.size ∷ x.rest) = sym e ∙ x.change in cc)

pub refused_first : (s : Shelf) (r : Ruling) (error : ℕ) (says : SegId → ℕ → Type 0) → r ≡ refusal error → EachFirstSized s r.changes says → ⊥
refused_first s r error says e x = none_first s r.changes says (ap (λ (y : Ruling). y.changes) e) x

-- members that come or go have no size changed
none_made : (next first count flags : ℕ) (ps : List (ℕ × ℕ)) (is zs : List ℕ) (name size : ℕ) (rest : List Change) → new_members next first count flags ps is zs ≡ Resizes name size ∷ rest → ⊥
none_made next first count flags ps [] zs name size rest e = cc
none_made next first count flags ps (i ∷ is) [] name size rest e = cc
none_made next first count flags ps (i ∷ is) (z ∷ zs) name size rest e = cc

none_lost : (m : Maps) (n : ℕ) (is : List ℕ) (name size : ℕ) (rest : List Change) → lost_in m n is ≡ Resizes name size ∷ rest → ⊥
none_lost m n [] name size rest e = cc
none_lost m n (i ∷ is) name size rest e = go (held_at m n i) e (none_lost m n is name size rest)
  where
    go : (o : Option Held) → lost_there n i o ++ lost_in m n is ≡ Resizes name size ∷ rest → (lost_in m n is ≡ Resizes name size ∷ rest → ⊥) → ⊥
    go None f g = g f
    go (Some h) f g = cc

pub none_changed : (s : Shelf) (m : Maps) (pid first count n segs part name size : ℕ) (rest : List Change) → changed_in s m pid first count n segs part ≡ Resizes name size ∷ rest → ⊥
none_changed s m pid first count n segs part name size rest e = go (nat_lt n (segments_of segs part)) e
  where
    go : (b : Bool) → (if b
        then new_members s.made first count (flags_there s (held_at m pid first)) ((pid, holds_of (held_at m pid first)) ∷ shares_in m pid first) (indexes (first + n) (segments_of segs part - n)) (sizes_of (segs - n) part)
        else lost_in m pid (indexes (first + segments_of segs part) (n - segments_of segs part))) ≡ Resizes name size ∷ rest → ⊥
    go true f = none_made s.made first count (flags_there s (held_at m pid first)) ((pid, holds_of (held_at m pid first)) ∷ shares_in m pid first) (indexes (first + n) (segments_of segs part - n)) (sizes_of (segs - n) part) name size rest f
    go false f = none_lost m pid (indexes (first + segments_of segs part) (n - segments_of segs part)) name size rest f

-- the first one of two lists, where the second one's isn't such a change
each_front : (s : Shelf) (cs ds : List Change) (says : SegId → ℕ → Type 0) → ((name size : ℕ) (rest : List Change) → ds ≡ Resizes name size ∷ rest → ⊥) → EachFirstSized s (cs ++ ds) says → EachFirstSized s cs says
each_front s [] ds says none x = absurd (none x.name x.size x.rest x.change)
each_front s (d ∷ cs) ds says none x = record {
  name = x.name;
  size = x.size;
  rest = cs;
  change = (let f : d ∷ (cs ++ ds) ≡ Resizes x.name x.size ∷ x.rest = x.change in let e : d ≡ Resizes x.name x.size = cc in ap (λ (y : Change). y ∷ cs) e);
  each = x.each;
}

pub each_granted : (s : Shelf) (r : Ruling) (value : ℕ) (cs ds : List Change) (says : SegId → ℕ → Type 0) → r ≡ grants value (cs ++ ds) → ((name size : ℕ) (rest : List Change) → ds ≡ Resizes name size ∷ rest → ⊥)
    → EachFirstSized s r.changes says → EachFirstSized s cs says
each_granted s r value cs ds says e none x = each_front s cs ds says none (each_as s r.changes (cs ++ ds) says (ap (λ (y : Ruling). y.changes) e) x)
