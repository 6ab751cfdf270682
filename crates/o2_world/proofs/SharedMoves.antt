-- What each call that shares segments changes, by its shape.
use Rattle.std.proofs.Common.{◌≡◌, inl, inr, ℕ, ◌≤◌, ◌==◌, ◌/◌, nat_le, not, ◌&&◌, ◌||◌, Bool, true, false, cond, List, [], ◌∷◌, Option, Some, None, if◌then◌else◌, ap, sym, ◌∙◌, refl, arith, subst}
use Rattle.std.specs.Prelude.{is_some}
use Rattle.o2_base.specs.Selectors.{selector_of}
use Rattle.o2_desc.specs.Bits.{has_bit}
use Rattle.o2_desc.specs.Choice.{IsChosen}
use Rattle.o2_desc.proofs.Choices.{chosen_law}
use Rattle.o2_isa.specs.declared.cpu.Cpu.{Cpu}
use Rattle.o2_isa.specs.View.{is_local}
use Rattle.o2_world.specs.World.{Held}
use Rattle.o2_world.specs.Known.{Known, Marks}
use Rattle.o2_world.specs.CallParts.{Before}
use Rattle.o2_world.specs.Rulings.{Ruling, by_load, free_index, grants, held_under, is_later, members, refusal}
use Rattle.o2_world.specs.SharedNames.{name_by, text_at}
use Rattle.o2_world.specs.SharedRulings.{each_more, getting, getting_at, getting_from, giving_of, held_by, holder, index_of, is_share, is_shared, is_shared_with, lacks_flag, marks_by_call, naming, naming_at, shared_from, sharing, sharing_at, sharing_from, sharing_of}
use Rattle.o2_world.specs.Calls.{getting_by, giving_by, naming_by, sharing_by}
use Rattle.o2_world.specs.Moves.{AllMoves, Each, IsOfText, IsShared, NoneMoves, OneNamed, OwnMoves, SomeShared}
use Rattle.o2_world.specs.RowLaws.{RuledMoves}
use Rattle.o2_world.proofs.SegmentMoves.{free_by, held_there}

none : (b : Before) (cpu : Cpu) → AllMoves b cpu []
none b cpu = OwnMoves (NoneMoves refl)

rules : (b : Before) (cpu : Cpu) (t : Bool) (r q : Ruling) → AllMoves b cpu r.changes → AllMoves b cpu q.changes → AllMoves b cpu (cond t r q).changes
rules b cpu true r q h k = h
rules b cpu false r q h k = k

-- Each of some segments is shared.

both : (a b : Bool) → (a && b) ≡ true → (a ≡ true) × (b ≡ true)
both true b e = (refl, e)
both false b e = absurd (cc)

not_false : (a : Bool) → not a ≡ false → a ≡ true
not_false true e = refl
not_false false e = absurd (cc)

both_false : (a b : Bool) → (a || b) ≡ false → (a ≡ false) × (b ≡ false)
both_false true b e = absurd (cc)
both_false false b e = (refl, e)

at_least : (n m : ℕ) → nat_le n m ≡ true → n ≤ m
at_least n m e = grind arith

marked : (flag : ℕ) (o : Option Marks) → is_shared_with flag o ≡ true → (m : Marks) × (o ≡ Some m) × (m.shared ≡ true)
marked flag None e = absurd (cc)
marked flag (Some m) e = (m, refl, (both m.shared (has_bit m.flags flag) e).0)

held_marks : (k : Known) (flag n i : ℕ) (o : Option Held) → k.held n i ≡ o → 4096 ≤ i → is_shared_with flag (marks_by_call k o) ≡ true → IsShared k n i
held_marks k flag n i None at high e = absurd (cc)
held_marks k flag n i (Some h) at high e = go (by_load h.cause) refl e
  where
    go : (t : Bool) → by_load h.cause ≡ t → is_shared_with flag (if t then None else k.segment h.name) ≡ true → IsShared k n i
    go true is f = absurd (cc)
    go false is f = let m = marked flag (k.segment h.name) f in record { held = h; there = at; high = high; called = is; marks = m.0; segment = m.1; shared = m.2 }

one_shared : (k : Known) (flag n i : ℕ) → not (nat_le shared_from i && is_shared_with flag (marks_by_call k (k.held n i))) ≡ false → IsShared k n i
one_shared k flag n i e =
    let x = both (nat_le shared_from i) (is_shared_with flag (marks_by_call k (k.held n i))) (not_false _ e) in
    held_marks k flag n i (k.held n i) refl (at_least 4096 i x.0) x.1

all_shared : (k : Known) (flag n : ℕ) (is : List ℕ) → lacks_flag k flag n is ≡ false → Each (IsShared k n) is
all_shared k flag n [] e = tt
all_shared k flag n (i ∷ is) e =
    let x = both_false (not (nat_le shared_from i && is_shared_with flag (marks_by_call k (k.held n i)))) (lacks_flag k flag n is) e in
    (one_shared k flag n i x.0, all_shared k flag n is x.1)

-- Rulings.

module _ (b : Before) (cpu : Cpu) where
  abbrev k : Known
  k = b.known

  at_name : (size : ℕ) (name : List ℕ) (o : Option ℕ) → free_index k 0 ≡ o → AllMoves b cpu (naming_at k b.number size name o).changes
  at_name size name None e = none b cpu
  at_name size name (Some i) e = OneNamed size i name (free_by k b.number 0 i (inr refl) e) refl

  naming_moves : (size : ℕ) (o : Option (List ℕ)) → AllMoves b cpu (naming k b.number size o).changes
  naming_moves size None = none b cpu
  naming_moves size (Some name) =
      rules b cpu (is_some (k.text name)) _ _ (none b cpu)
      (rules b cpu (nat_le k.most k.count) _ _ (none b cpu) (at_name size name (free_index k 0) refl))

  share_here : (q i from : ℕ) (o : Option Held) → k.held from i ≡ o → 4096 ≤ i → is_share k q o ≡ true → IsShared k from i
  share_here q i from None at high e = absurd (cc)
  share_here q i from (Some h) at high e = by (by_load h.cause) refl (both (h.name == q) (is_shared (marks_by_call k (Some h))) e).1
    where
      go : by_load h.cause ≡ false → (o : Option Marks) → k.segment h.name ≡ o → is_shared o ≡ true → IsShared k from i
      go called None there s = absurd (cc)
      go called (Some m) there s = record { held = h; there = at; high = high; called = called; marks = m; segment = there; shared = s }

      by : (t : Bool) → by_load h.cause ≡ t → is_shared (if t then None else k.segment h.name) ≡ true → IsShared k from i
      by true is s = absurd (cc)
      by false is s = go is (k.segment h.name) refl s

  share_named : (q i from : ℕ) (text : List ℕ) (o : Option Held) → k.held from i ≡ o → k.text text ≡ Some q → is_share k q o ≡ true → IsOfText k from (i ∷ [])
  share_named q i from text None at named e = absurd (cc)
  share_named q i from text (Some h) at named e =
      record { index = i; held = h; there = at; text = text; named = named ∙ ap Some (sym (same_number h.name q (both (h.name == q) (is_shared (marks_by_call k (Some h))) e).0)); are = refl }
    where
      same_number : (n m : ℕ) → (n == m) ≡ true → n ≡ m
      same_number n m f = grind arith

  from_moves : (q i : ℕ) (text : List ℕ) (o : Option ℕ) → holder k i ≡ o → k.text text ≡ Some q → 4096 ≤ i → is_share k q (held_by k i o) ≡ true
      → AllMoves b cpu (sharing_from k b.number i o).changes
  from_moves q i text None at named high e = absurd (cc)
  from_moves q i text (Some from) at named high e =
      SomeShared from b.number (i ∷ [])
      (record { whole = inr (share_named q i from text (k.held from i) refl named e); shared = (share_here q i from (k.held from i) refl high e, tt); lives = inl refl }) refl

  place_moves : (q : ℕ) (text : List ℕ) (o : Option ℕ) → k.text text ≡ Some q → index_of k q ≡ o → AllMoves b cpu (sharing_at k b.number o).changes
  place_moves q text None named e = none b cpu
  place_moves q text (Some i) named e =
      let taken : ℕ → Bool = λ (i : ℕ). not (is_share k q (held_by k i (holder k i))) in
      let law : IsChosen taken 4096 8192 1 (Some i) = subst (IsChosen taken 4096 8192 1) e (chosen_law taken 4096 8192 1) in
      from_moves q i text (holder k i) refl named law.0.0 (not_false _ (law.0.2 i (omega arith) (omega arith)))

  text_moves : (text : List ℕ) (o : Option ℕ) → k.text text ≡ o → AllMoves b cpu (sharing_of k b.number o).changes
  text_moves text None named = none b cpu
  text_moves text (Some q) named = place_moves q text (index_of k q) named refl

  sharing_moves : (o : Option (List ℕ)) → AllMoves b cpu (sharing k b.number o).changes
  sharing_moves None = none b cpu
  sharing_moves (Some name) = text_moves name (k.text name) refl

  given_moves : (i pid : ℕ) (o : Option Held) → ((h : Held) → o ≡ Some h → k.held b.number i ≡ Some h) → AllMoves b cpu (giving_of k b.number i pid o).changes
  given_moves i pid None at = none b cpu
  given_moves i pid (Some h) at = go (is_later i h || lacks_flag k 0 b.number is) (k.lives pid) refl refl
    where
      is : List ℕ
      is = members k b.number i h

      go : (t l : Bool) → (is_later i h || lacks_flag k 0 b.number (members k b.number i h)) ≡ t → k.lives pid ≡ l
          → let r : Ruling = if t then refusal 5 else (if l then grants (selector_of i) (each_more k b.number pid (members k b.number i h)) else refusal 303) in AllMoves b cpu r.changes
      go true l e f = none b cpu
      go false false e f = none b cpu
      go false true e f =
          SomeShared b.number pid is (record { whole = inl (record { index = i; held = h; there = at h refl; are = refl }); shared = all_shared k 0 b.number is (both_false (is_later i h) (lacks_flag k 0 b.number is) e).1; lives = inr f }) refl

  got_moves : (i from : ℕ) (o : Option Held) → k.held from i ≡ o → AllMoves b cpu (getting_from k b.number i from o).changes
  got_moves i from None at = none b cpu
  got_moves i from (Some h) at = go (is_later i h || lacks_flag k 1 from (members k from i h)) refl
    where
      go : (t : Bool) → (is_later i h || lacks_flag k 1 from (members k from i h)) ≡ t
          → let r : Ruling = if t then refusal 5 else grants 0 (each_more k from b.number (members k from i h)) in AllMoves b cpu r.changes
      go true e = none b cpu
      go false e =
          let is = members k from i h in
          SomeShared from b.number is (record { whole = inl (record { index = i; held = h; there = at; are = refl }); shared = all_shared k 1 from is (both_false (is_later i h) (lacks_flag k 1 from is) e).1; lives = inl refl }) refl

  holder_moves : (i : ℕ) (o : Option ℕ) → AllMoves b cpu (getting_at k b.number i o).changes
  holder_moves i None = none b cpu
  holder_moves i (Some from) = got_moves i from (k.held from i) refl

  getting_moves : (s : ℕ) → AllMoves b cpu (getting k b.number s).changes
  getting_moves s = rules b cpu (is_local s) _ _ (holder_moves (s / 8) (holder k (s / 8))) (none b cpu)

-- What each ruling on a shared segment changes, by the words of its call.

pub naming_is : RuledMoves naming_by
naming_is = record { moves = λ b a c same. naming_moves b _ (a 4) (name_by (text_at b.view (a 3) (a 2))) }

pub sharing_is : RuledMoves sharing_by
sharing_is = record { moves = λ b a c same. sharing_moves b _ (name_by (text_at b.view (a 3) (a 2))) }

pub giving_is : RuledMoves giving_by
giving_is = record { moves = λ b a c same. given_moves b _ (a 3 / 8) (a 2) (held_under b.known b.number (a 3)) (λ h e. held_there b.known b.number (a 3) h e) }

pub getting_is : RuledMoves getting_by
getting_is = record { moves = λ b a c same. getting_moves b _ (a 0) }
