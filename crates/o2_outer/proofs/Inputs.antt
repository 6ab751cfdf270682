-- What a take, and what calls it, leaves of the texts that an input may be.
use Rattle.std.proofs.Common.{◌≡◌, ◌≤◌, ◌<◌, ◌+◌, ◌-◌, min, ℕ, Bool, true, false, ◌&&◌, nat_eq, List, [], ◌++◌, Option, Some, None, take, drop, take-add, length, length-drop, ap, sym, subst, ◌∙◌, refl, arith, append-nil, append_assoc, unwrap_or}
use Rattle.std.proofs.lemmas.List.{length-take-le, length-append, take_at, drop_at}
use Rattle.std.proofs.lemmas.Bool.Decides.{nat_tests}
use Rattle.std.proofs.lemmas.List.Prefix.{front_rest}
use Rattle.o2_outer.specs.declared.source.Took.{Took}
use Rattle.o2_outer.specs.declared.source.Took.TheVariants as took
use Rattle.o2_outer.specs.Answers.{Gives, TookAtMost}
use Rattle.o2_outer.specs.Sources.{past_at}
use Rattle.o2_outer.specs.Streams.{stream_past}
use Rattle.o2_outer.specs.Inputs.{Past, Adds, AddsTaken, GoesOn, MayBe, rest_of, IsSeenAs, left_as}

pub goes_same : (p : Past) → GoesOn p p
goes_same p = record { front = ([], sym (append-nil p.given)); ended = λ e. (refl, e) }

pub goes_then : (a b c : Past) → GoesOn a b → GoesOn b c → GoesOn a c
goes_then a b c x y = record {
  front = (x.front.0 ++ y.front.0, y.front.1 ∙ ap (λ (z : List ℕ). z ++ y.front.0) x.front.1 ∙ append_assoc a.given x.front.0 y.front.0);
  ended = λ e. let u = x.ended e in let v = y.ended u.1 in (v.0 ∙ u.0, v.1);
}

-- what the input may be later it may be now
may_be_before : (text : List ℕ) (a b : Past) → GoesOn a b → MayBe text b → MayBe text a
may_be_before text a b g m = record {
  front = (g.front.0 ++ m.front.0, m.front.1 ∙ ap (λ (z : List ℕ). z ++ m.front.0) g.front.1 ∙ append_assoc a.given g.front.0 m.front.0);
  whole = λ e. let u = g.ended e in m.whole u.1 ∙ u.0;
}

pub seen_before : (seen : Option (List ℕ)) (a b : Past) → GoesOn a b → IsSeenAs seen b → IsSeenAs seen a
seen_before None a b g m = tt
seen_before (Some text) a b g m = may_be_before text a b g m

-- there is such a text
pub may_be_given : (p : Past) → MayBe p.given p
may_be_given p = record { front = ([], sym (append-nil p.given)); whole = λ e. refl }

pub goes_taken : (a b : Past) (into : List ℕ) (r : Took) → Adds a b into r → GoesOn a b
goes_taken a b into (took.Done n) x = record {
  front = (take n into, x.given);
  ended = λ e. let u = x.ended e in (x.given ∙ ap (λ (k : ℕ). a.given ++ take k into) u.0 ∙ append-nil a.given, u.1);
}
goes_taken a b into took.Failed x = subst (λ (p : Past). GoesOn a p) (sym x) (goes_same a)

-- the number of bytes that came, where nothing is left behind fewer than were asked for
least_of : (i n y : ℕ) → n ≤ i → (n < i → y ≡ 0) → n ≡ min i (n + y)
least_of i n y le none = grind arith

-- a take gives a front of what is left of such a text
module _ (text : List ℕ) (a b : Past) (into : List ℕ) (n : ℕ) (le : n ≤ length into) (x : AddsTaken a b into n) (m : MayBe text b) where
  abbrev r : List ℕ
  r = m.front.0

  size : length (take n into) ≡ n
  size = length-take-le n into le

  before : rest_of text a ≡ take n into ++ r
  before = front_rest text a.given (take n into ++ r) (m.front.1 ∙ ap (λ (z : List ℕ). z ++ r) x.given ∙ append_assoc a.given (take n into) r)

  behind : rest_of text b ≡ r
  behind = front_rest text b.given r m.front.1

  none : n < length into → r ≡ []
  none less = sym behind ∙ front_rest text b.given [] (m.whole (x.short less) ∙ sym (append-nil b.given))

  total : length (rest_of text a) ≡ n + length r
  total = ap (λ (z : List ℕ). length z) before ∙ length-append (take n into) r ∙ ap (λ (k : ℕ). k + length r) size

  pub taken : (n ≡ min (length into) (length (rest_of text a))) × (take n into ≡ take n (rest_of text a)) × (Some (rest_of text b) ≡ Some (drop n (rest_of text a)))
  taken = (
    least_of (length into) n (length r) le (λ less. ap (λ (z : List ℕ). length z) (none less)) ∙ ap (λ (k : ℕ). min (length into) k) (sym total),
    sym (ap (λ (z : List ℕ). take n z) before ∙ take_at (take n into) r n size),
    ap Some (behind ∙ sym (ap (λ (z : List ℕ). drop n z) before ∙ drop_at (take n into) r n size)),
  )

-- a take, however the input is seen
pub gives_seen : (seen told later : Option (List ℕ)) (a b : Past) (into : List ℕ) (most : ℕ) (r : Took) → length into ≡ most → TookAtMost most r → Adds a b into r → IsSeenAs seen b
    → Gives told later into r → Gives (left_as seen told a) (left_as seen later b) into r
gives_seen None told later a b into most r len le adds m gives = gives
gives_seen (Some text) told later a b into most (took.Done n) len le adds m gives = λ t e.
    subst (λ (z : List ℕ). (n ≡ min (length into) (length z)) × (take n into ≡ take n z) × (Some (rest_of text b) ≡ Some (drop n z))) (ap (λ (o : Option (List ℕ)). unwrap_or o []) e)
    (taken text a b into n (subst (λ (k : ℕ). n ≤ k) (sym len) le) adds m)
gives_seen (Some text) told later a b into most took.Failed len le adds m gives = λ t e. ap (λ (p : Past). Some (rest_of text p)) adds

-- The forms.

at_end : (a n i l : ℕ) → a ≤ l → n ≡ min i (l - a) → n < i → nat_eq (a + n) l ≡ true
at_end a n i l within count less = grind (arith, nat_tests)

nothing_more : (a n i l : ℕ) → nat_eq a l ≡ true → n ≡ min i (l - a) → n ≡ 0
nothing_more a n i l over count = grind (arith, nat_tests)

still_at_end : (a n l : ℕ) → nat_eq a l ≡ true → n ≡ 0 → nat_eq (a + n) l ≡ true
still_at_end a n l over none = grind (arith, nat_tests)

-- bytes in memory that are given from a place on
pub adds_front : (a n : ℕ) (xs into : List ℕ) → a ≤ length xs → n ≡ min (length into) (length (drop a xs)) → take n into ≡ take n (drop a xs) → Adds (past_at a xs) (past_at (a + n) xs) into (took.Done n)
adds_front a n xs into within count front =
    let size : n ≡ min (length into) (length xs - a) = count ∙ ap (λ (k : ℕ). min (length into) k) (length-drop a xs) in
    record {
      given = take-add a n xs ∙ ap (λ (z : List ℕ). take a xs ++ z) (sym front);
      short = λ less. at_end a n (length into) (length xs) within size less;
      ended = λ over. let none = nothing_more a n (length into) (length xs) over size in (none, still_at_end a n (length xs) over none);
    }

none_held : (h : ℕ) → nat_eq h 0 ≡ true → h ≡ 0
none_held h is = grind (arith, nat_tests)

is_none_held : (h : ℕ) → h ≡ 0 → nat_eq h 0 ≡ true
is_none_held h is = grind (arith, nat_tests)

-- bytes that were read ahead: a take of fewer than are asked for takes all that are held, and the reader has ended
short_end : (e : Bool) (h n i : ℕ) → n ≡ min i h → (h < i → e ≡ true) → n < i → (e && nat_eq (h - n) 0) ≡ true
short_end true h n i count end less = is_none_held (h - n) (omega (arith, count, less))
short_end false h n i count end less = end (omega (arith, count, less))

over_stays : (e : Bool) (h n i : ℕ) → (e && nat_eq h 0) ≡ true → n ≡ min i h → (n ≡ 0) × ((e && nat_eq (h - n) 0) ≡ true)
over_stays true h n i over count = let none = none_held h over in (omega (arith, count, none), is_none_held (h - n) (omega (arith, none)))
over_stays false h n i over count = absurd (cc)

pub is_over : (e : Bool) (h : ℕ) → (e && nat_eq h 0) ≡ true → e ≡ true
is_over true h over = refl
is_over false h over = absurd (cc)

pub adds_held : (given later into : List ℕ) (e : Bool) (h n i : ℕ) → later ≡ given ++ take n into → n ≡ min i h → length into ≡ i → (h < i → e ≡ true)
    → AddsTaken (stream_past given e h) (stream_past later e (h - n)) into n
adds_held given later into e h n i adds count len end = record {
  given = adds;
  short = λ less. short_end e h n i count end (subst (λ (k : ℕ). n < k) len less);
  ended = λ over. over_stays e h n i over count;
}

-- a take from what a reader that has ended left, or from what was read now
pub adds_after : (old now new : Past) (into : List ℕ) (n : ℕ) → now.given ≡ old.given → (old.ended ≡ true → now.ended ≡ true) → AddsTaken now new into n → AddsTaken old new into n
adds_after old now new into n same over x = record {
  given = x.given ∙ ap (λ (z : List ℕ). z ++ take n into) same;
  short = x.short;
  ended = λ e. x.ended (over e);
}
