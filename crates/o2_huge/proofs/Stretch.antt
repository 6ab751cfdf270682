-- Indexes in a row: which of them pass a test, and what the row of DosReallocHuge makes of them.
use Rattle.std.proofs.Common.{◌≡◌, ℕ, zero, suc, ◌+◌, ◌-◌, ◌*◌, ◌<◌, ◌≤◌, ◌==◌, ◌||◌, if◌then◌else◌, Bool, true, false, cond, List, [], ◌∷◌, ◌++◌, length, replicate, filter, drop, min, nat_lt, refl, sym, ap, ◌∙◌, arith}
use Rattle.std.proofs.lemmas.Bool.{cond-true, cond-false, eqb-true}
use Rattle.std.proofs.lemmas.Bool.Decides.{nat_tests}
use Rattle.o2_isa.specs.declared.cpu.Cpu.{Cpu}
use Rattle.o2_world.specs.Changes.{Change, Makes}
use Rattle.o2_world.specs.Known.{Known}
use Rattle.o2_world.specs.HugeRulings.{all_bytes, all_hold, names_one, new_members, resized_members, resized_one, segments_of, size_in, sizes_of}
use Rattle.o2_world.specs.Rulings.{in_use, indexes, is_index, made_segment}
use Rattle.o2_world.specs.SharedRulings.{marks_under}

no_index : (f : ℕ → Bool) (a t : ℕ) → ((j : ℕ) → a ≤ j → j < a + t → f j ≡ false) → filter f (indexes a t) ≡ []
no_index f a zero none = refl
no_index f a (suc t) none =
    cond-false (f a) (a ∷ filter f (indexes (a + 1) t)) (filter f (indexes (a + 1) t)) (none a (omega arith) (omega arith))
    ∙ no_index f (a + 1) t (λ j low high. none j (omega (arith, low)) (omega (arith, high)))

all_indexes : (f : ℕ → Bool) (a t : ℕ) → ((j : ℕ) → a ≤ j → j < a + t → f j ≡ true) → filter f (indexes a t) ≡ indexes a t
all_indexes f a zero all = refl
all_indexes f a (suc t) all =
    cond-true (f a) (a ∷ filter f (indexes (a + 1) t)) (filter f (indexes (a + 1) t)) (all a (omega arith) (omega arith))
    ∙ ap (λ (is : List ℕ). a ∷ is) (all_indexes f (a + 1) t (λ j low high. all j (omega (arith, low)) (omega (arith, high))))

-- the first ones alone pass
pub fronts : (f : ℕ → Bool) (a n t : ℕ) → n ≤ t → ((j : ℕ) → a ≤ j → j < a + n → f j ≡ true) → ((j : ℕ) → a + n ≤ j → j < a + t → f j ≡ false) → filter f (indexes a t) ≡ indexes a n
fronts f a zero t few all none = no_index f a t (λ j low high. none j (omega (arith, low)) high)
fronts f a (suc n) zero few all none = absurd (omega (arith, few))
fronts f a (suc n) (suc t) few all none =
    cond-true (f a) (a ∷ filter f (indexes (a + 1) t)) (filter f (indexes (a + 1) t)) (all a (omega arith) (omega arith))
    ∙ ap (λ (is : List ℕ). a ∷ is) (fronts f (a + 1) n t (omega (arith, few)) (λ j low high. all j (omega (arith, low)) (omega (arith, high))) (λ j low high. none j (omega (arith, low)) (omega (arith, high))))

-- all but the first ones pass
pub backs : (f : ℕ → Bool) (a n t : ℕ) → n ≤ t → ((j : ℕ) → a ≤ j → j < a + n → f j ≡ false) → ((j : ℕ) → a + n ≤ j → j < a + t → f j ≡ true) → filter f (indexes a t) ≡ indexes (a + n) (t - n)
backs f a zero t few none all =
    let x : a + 0 ≡ a = omega arith in
    let y : t - 0 ≡ t = omega arith in
    all_indexes f a t (λ j low high. all j (omega (arith, low)) high) ∙ sym (ap (λ (k : ℕ). indexes k (t - 0)) x ∙ ap (indexes a) y)
backs f a (suc n) zero few none all = absurd (omega (arith, few))
backs f a (suc n) (suc t) few none all =
    let x : a + 1 + n ≡ a + suc n = omega arith in
    let y : t - n ≡ suc t - suc n = omega arith in
    cond-false (f a) (a ∷ filter f (indexes (a + 1) t)) (filter f (indexes (a + 1) t)) (none a (omega arith) (omega arith))
    ∙ backs f (a + 1) n t (omega (arith, few)) (λ j low high. none j (omega (arith, low)) (omega (arith, high))) (λ j low high. all j (omega (arith, low)) (omega (arith, high)))
    ∙ ap (λ (k : ℕ). indexes k (t - n)) x ∙ ap (indexes (a + suc n)) y

pub drop_indexes : (m a n : ℕ) → drop m (indexes a n) ≡ indexes (a + m) (n - m)
drop_indexes zero a n = let x : a + 0 ≡ a = omega arith in let y : n - 0 ≡ n = omega arith in sym (ap (λ (k : ℕ). indexes k (n - 0)) x ∙ ap (indexes a) y)
drop_indexes (suc m) a zero = let x : 0 - suc m ≡ 0 = omega arith in sym (ap (indexes (a + suc m)) x)
drop_indexes (suc m) a (suc n) =
    let x : a + 1 + m ≡ a + suc m = omega arith in
    let y : n - m ≡ suc n - suc m = omega arith in
    drop_indexes m (a + 1) n ∙ ap (λ (k : ℕ). indexes k (n - m)) x ∙ ap (indexes (a + suc m)) y

drop_full : (n segs : ℕ) (zs : List ℕ) → n ≤ segs → drop n (replicate segs 0 ++ zs) ≡ replicate (segs - n) 0 ++ zs
drop_full zero segs zs few = let x : segs - 0 ≡ segs = omega arith in sym (ap (λ (k : ℕ). replicate k 0 ++ zs) x)
drop_full (suc n) zero zs few = absurd (omega (arith, few))
drop_full (suc n) (suc segs) zs few = let x : segs - n ≡ suc segs - suc n = omega arith in drop_full n segs zs (omega (arith, few)) ∙ ap (λ (k : ℕ). replicate k 0 ++ zs) x

-- the sizes of the members behind the first ones
pub drop_sizes : (n segs part : ℕ) → n ≤ segs → drop n (sizes_of segs part) ≡ sizes_of (segs - n) part
drop_sizes n segs part few = drop_full n segs (if part == 0 then [] else part ∷ []) few

-- new members come at the first ones of what is left
pub members_front : (name first count flags : ℕ) (ps : List (ℕ × ℕ)) (a t : ℕ) (zs : List ℕ) → length zs ≤ t
    → new_members name first count flags ps (indexes a t) zs ≡ new_members name first count flags ps (indexes a (length zs)) zs
members_front name first count flags ps a zero [] few = refl
members_front name first count flags ps a (suc t) [] few = refl
members_front name first count flags ps a zero (z ∷ zs) few = absurd (omega (arith, few))
members_front name first count flags ps a (suc t) (z ∷ zs) few =
    ap (λ (cs : List Change). Makes (made_segment z flags) ∷ (all_hold name first count a ps ++ cs)) (members_front (name + 1) first count flags ps (a + 1) t zs (omega (arith, few)))

pub no_members : (name first count flags : ℕ) (ps : List (ℕ × ℕ)) (is : List ℕ) → new_members name first count flags ps is [] ≡ []
no_members name first count flags ps [] = refl
no_members name first count flags ps (i ∷ is) = refl

-- so many are wanted more
pub more_wanted : (n segs part : ℕ) → n < segments_of segs part → segments_of (segs - n) part ≡ segments_of segs part - n
more_wanted n segs part = go (part == 0)
  where
    go : (b : Bool) → n < cond b segs (segs + 1) → cond b (segs - n) (segs - n + 1) ≡ cond b segs (segs + 1) - n
    go true l = refl
    go false l = omega (arith, l)

-- Selectors.

or_swap : (a b c d : Bool) → ((a || b) || (c || d)) ≡ ((a || c) || (b || d))
or_swap true b c d = refl
or_swap false true true d = refl
or_swap false true false d = refl
or_swap false false c d = refl

pub used_by_both : (c : Cpu) (is : List ℕ) → in_use c is ≡ (names_one c.cs is || names_one c.ss is)
used_by_both c [] = refl
used_by_both c (i ∷ is) =
    ap (λ (b : Bool). (is_index c.cs i || is_index c.ss i) || b) (used_by_both c is)
    ∙ or_swap (is_index c.cs i) (is_index c.ss i) (names_one c.cs is) (names_one c.ss is)

-- Bytes of members, of which all but the last have 65,536.

pub bytes_are : (k : Known) (pid a n : ℕ) → ((j : ℕ) → a ≤ j → j < a + n → size_in (marks_under k (k.held pid j)) ≡ 65536)
    → all_bytes k pid (indexes a (suc n)) ≡ n * 65536 + size_in (marks_under k (k.held pid (a + n)))
bytes_are k pid a zero full =
    let x : a + 0 ≡ a = omega arith in
    let s : ℕ = size_in (marks_under k (k.held pid a)) in
    let e : s + 0 ≡ 0 * 65536 + s = omega arith in
    e ∙ ap (λ (j : ℕ). 0 * 65536 + size_in (marks_under k (k.held pid j))) (sym x)
bytes_are k pid a (suc n) full =
    let x : a + 1 + n ≡ a + suc n = omega arith in
    let s : ℕ = size_in (marks_under k (k.held pid (a + suc n))) in
    let e : 65536 + (n * 65536 + s) ≡ suc n * 65536 + s = omega arith in
    ap (λ (b : ℕ). b + all_bytes k pid (indexes (a + 1) (suc n))) (full a (omega arith) (omega arith))
    ∙ ap (λ (b : ℕ). 65536 + b) (bytes_are k pid (a + 1) n (λ j low high. full j (omega (arith, low)) (omega (arith, high))) ∙ ap (λ (j : ℕ). n * 65536 + size_in (marks_under k (k.held pid j))) x)
    ∙ e

-- Sizes of members that stay: the last of them alone gets another one.

append_none : (xs : List Change) → xs ++ [] ≡ xs
append_none [] = refl
append_none (x ∷ xs) = ap (λ (ys : List Change). x ∷ ys) (append_none xs)

module _ (k : Known) (pid : ℕ) where
  -- the change of the member at an index
  abbrev sized : ℕ → ℕ → List Change
  sized z j = resized_one z (k.held pid j) (marks_under k (k.held pid j))

  none_more : (a n : ℕ) → resized_members k pid (indexes a n) [] ≡ []
  none_more a zero = refl
  none_more a (suc n) = refl

  single : (a n z : ℕ) → resized_members k pid (indexes a (suc n)) (z ∷ []) ≡ sized z a
  single a n z = ap (λ (cs : List Change). sized z a ++ cs) (none_more (a + 1) n) ∙ append_none (sized z a)

  -- One segment more at the front.

  one_more : (segs part : ℕ) → segments_of (suc segs) part ≡ segments_of segs part + 1
  one_more segs part = go (part == 0)
    where
      go : (b : Bool) → cond b (suc segs) (suc segs + 1) ≡ cond b segs (segs + 1) + 1
      go true = omega arith
      go false = omega arith

  none_left : (segs part : ℕ) → segments_of segs part ≡ 0 → (sizes_of segs part ≡ []) × (part ≡ 0)
  none_left segs part = go segs (part == 0) refl
    where
      go : (x : ℕ) (b : Bool) → (part == 0) ≡ b → cond b x (x + 1) ≡ 0 → (replicate x 0 ++ cond b [] (part ∷ []) ≡ []) × (part ≡ 0)
      go zero true e z = (refl, eqb-true part 0 e)
      go (suc x) true e z = absurd (omega (arith, z))
      go x false e z = absurd (omega (arith, z))

  abbrev IsSizedAs : (a n segs part : ℕ) → Type 0
  IsSizedAs a n segs part =
      resized_members k pid (indexes a (suc n)) (sizes_of segs part) ≡ sized (if nat_lt (suc n) (segments_of segs part) then 0 else part) (a + (min (suc n) (segments_of segs part) - 1))

  -- it is the only one
  one_alone : (a n segs part : ℕ) → segments_of segs part ≡ 0 → IsSizedAs a n (suc segs) part
  one_alone a n segs part is =
      (let nothing = none_left segs part is in
      let m : segments_of (suc segs) part ≡ 1 = (let x = one_more segs part in omega (arith, x, is)) in
      let t : nat_lt (suc n) 1 ≡ false = grind (arith, nat_tests) in
      let j : a + (min (suc n) 1 - 1) ≡ a = omega arith in
      ap (λ (zs : List ℕ). resized_members k pid (indexes a (suc n)) (0 ∷ zs)) nothing.0 ∙ single a n 0
      ∙ sym (ap (λ (x : ℕ). sized (if nat_lt (suc n) x then 0 else part) (a + (min (suc n) x - 1))) m ∙ ap (λ (b : Bool). sized (cond b 0 part) (a + (min (suc n) 1 - 1))) t ∙ ap (sized part) j ∙ ap (λ (z : ℕ). sized z a) nothing.1))

  -- it alone stays
  one_stays : (a segs part m : ℕ) → segments_of segs part ≡ suc m → IsSizedAs a zero (suc segs) part
  one_stays a segs part m is =
      (let x : segments_of (suc segs) part ≡ m + 2 = (let y = one_more segs part in omega (arith, y, is)) in
      let t : nat_lt 1 (m + 2) ≡ true = grind (arith, nat_tests) in
      let j : a + (min 1 (m + 2) - 1) ≡ a = omega arith in
      append_none (sized 0 a)
      ∙ sym (ap (λ (y : ℕ). sized (if nat_lt 1 y then 0 else part) (a + (min 1 y - 1))) x ∙ ap (λ (b : Bool). sized (cond b 0 part) (a + (min 1 (m + 2) - 1))) t ∙ ap (sized 0) j))

  -- others behind it stay, too
  one_before : (a n segs part : ℕ) → 0 < segments_of segs part → sized 0 a ≡ [] → IsSizedAs (a + 1) n segs part → IsSizedAs a (suc n) (suc segs) part
  one_before a n segs part some full rest =
      (let x : segments_of (suc segs) part ≡ segments_of segs part + 1 = one_more segs part in
      let t : nat_lt (suc n) (segments_of segs part) ≡ nat_lt (suc (suc n)) (segments_of segs part + 1) = grind (arith, nat_tests) in
      let j : a + 1 + (min (suc n) (segments_of segs part) - 1) ≡ a + (min (suc (suc n)) (segments_of segs part + 1) - 1) = omega (arith, some) in
      ap (λ (cs : List Change). cs ++ resized_members k pid (indexes (a + 1) (suc n)) (sizes_of segs part)) full
      ∙ rest
      ∙ ap (λ (b : Bool). sized (cond b 0 part) (a + 1 + (min (suc n) (segments_of segs part) - 1))) t
      ∙ ap (sized (if nat_lt (suc (suc n)) (segments_of segs part + 1) then 0 else part)) j
      ∙ ap (λ (y : ℕ). sized (if nat_lt (suc (suc n)) y then 0 else part) (a + (min (suc (suc n)) y - 1))) (sym x))

  part_alone : (a n part : ℕ) (b : Bool) → (part == 0) ≡ b → 0 < cond b 0 1
      → resized_members k pid (indexes a (suc n)) (cond b [] (part ∷ [])) ≡ sized (if nat_lt (suc n) (cond b 0 1) then 0 else part) (a + (min (suc n) (cond b 0 1) - 1))
  part_alone a n part true e h = absurd (omega (arith, h))
  part_alone a n part false e h =
      (let t : nat_lt (suc n) 1 ≡ false = grind (arith, nat_tests) in
      let j : a + (min (suc n) 1 - 1) ≡ a = omega arith in
      single a n part ∙ sym (ap (λ (b : Bool). sized (cond b 0 part) (a + (min (suc n) 1 - 1))) t ∙ ap (sized part) j))

  pub resized_are : (a n segs part : ℕ) → 0 < segments_of segs part → ((j : ℕ) → a ≤ j → j < a + n → sized 0 j ≡ []) → IsSizedAs a n segs part
  resized_are a n zero part some full = part_alone a n part (part == 0) refl some
  resized_are a zero (suc segs) part some full = go (segments_of segs part) refl
    where
      go : (x : ℕ) → segments_of segs part ≡ x → IsSizedAs a zero (suc segs) part
      go zero is = one_alone a zero segs part is
      go (suc m) is = one_stays a segs part m is
  resized_are a (suc n) (suc segs) part some full =
      go (segments_of segs part) refl (λ more. resized_are (a + 1) n segs part more (λ i low high. full i (omega (arith, low)) (omega (arith, high))))
    where
      go : (x : ℕ) → segments_of segs part ≡ x → (0 < segments_of segs part → IsSizedAs (a + 1) n segs part) → IsSizedAs a (suc n) (suc segs) part
      go zero is rest = one_alone a (suc n) segs part is
      go (suc m) is rest = (let more : 0 < segments_of segs part = omega (arith, is) in one_before a n segs part more (full a (omega arith) (omega arith)) (rest more))
