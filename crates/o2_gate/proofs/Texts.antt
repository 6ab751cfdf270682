-- The text at the front of bytes, and what a view shows of it.
use Rattle.std.proofs.Common.{◌≡◌, ℕ, zero, suc, ◌+◌, ◌-◌, ◌<◌, ◌≤◌, ◌++◌, ◌==◌, ◌&&◌, Bool, true, false, cond, List, [], ◌∷◌, length, take, drop, replicate, get_or, Option, Some, None, option_map, ap, sym, ◌∙◌, refl, arith}
use Rattle.std.specs.Prelude.{position, nat_le, nat_lt}
use Rattle.std.specs.List.{position_or_len}
use Rattle.std.proofs.lemmas.List.Sums.{fails_before_first}
use Rattle.std.proofs.lemmas.Bool.Decides.{nat_tests}
use Rattle.std.proofs.lemmas.List.{append-nil, append_assoc}
use Rattle.std.proofs.Math.Seq.{take-append_seam}
use Rattle.std.proofs.lemmas.List.Quantifiers.{position-Some}
use Rattle.std.proofs.lemmas.Bool.{cond-false, eqb-true}
use Rattle.std.specs.List.{list_all}
use Rattle.o2_world.specs.Known.{same_text}
use Rattle.o2_world.specs.SharedNames.{before_zero, folded, is_name, is_name_byte, looked_at, name_by, name_front, name_most}
use Rattle.o2_gate.specs.Texts.{IsCutOff, IsTextOf}

-- none of them is a zero
abbrev AreSome : List ℕ → Type 0
AreSome [] = Unit {0}
AreSome (x ∷ xs) = ((x == 0) ≡ false) × AreSome xs

-- A zero behind bytes that are none.

text_front : (ps rest : List ℕ) (n : ℕ) → AreSome ps → length ps < n → before_zero (take n (ps ++ 0 ∷ rest)) ≡ Some ps
text_front [] rest zero some short = absurd (omega (arith, short))
text_front [] rest (suc n) some short = refl
text_front (x ∷ ps) rest zero some short = absurd (omega (arith, short))
text_front (x ∷ ps) rest (suc n) some short =
    cond-false (x == 0) (Some []) (option_map (λ (t : List ℕ). x ∷ t) (before_zero (take n (ps ++ 0 ∷ rest)))) some.0
    ∙ ap (option_map (λ (t : List ℕ). x ∷ t)) (text_front ps rest n some.1 (omega (arith, short)))

size_front : (ps rest : List ℕ) (n : ℕ) → AreSome ps → length ps < n → looked_at n (ps ++ 0 ∷ rest) ≡ length ps + 1
size_front [] rest zero some short = absurd (omega (arith, short))
size_front [] rest (suc n) some short = refl
size_front (x ∷ ps) rest zero some short = absurd (omega (arith, short))
size_front (x ∷ ps) rest (suc n) some short =
    cond-false (x == 0) 1 (suc (looked_at n (ps ++ 0 ∷ rest))) some.0 ∙ ap suc (size_front ps rest n some.1 (omega (arith, short)))
    ∙ (let e : suc (length ps + 1) ≡ suc (length ps) + 1 = omega arith in e)

-- No zero.

text_none : (xs : List ℕ) → AreSome xs → before_zero xs ≡ None
text_none [] some = refl
text_none (x ∷ xs) some = cond-false (x == 0) (Some []) (option_map (λ (t : List ℕ). x ∷ t) (before_zero xs)) some.0 ∙ ap (option_map (λ (t : List ℕ). x ∷ t)) (text_none xs some.1)

size_none : (xs rest : List ℕ) (n : ℕ) → AreSome xs → n ≤ length xs → looked_at n (xs ++ rest) ≡ n
size_none xs rest zero some far = refl
size_none [] rest (suc n) some far = absurd (omega (arith, far))
size_none (x ∷ xs) rest (suc n) some far = cond-false (x == 0) 1 (suc (looked_at n (xs ++ rest))) some.0 ∙ ap suc (size_none xs rest n some.1 (omega (arith, far)))

size_cut : (xs : List ℕ) (n : ℕ) → AreSome xs → looked_at n xs ≡ n
size_cut xs zero some = refl
size_cut [] (suc n) some = refl
size_cut (x ∷ xs) (suc n) some = cond-false (x == 0) 1 (suc (looked_at n xs)) some.0 ∙ ap suc (size_cut xs n some.1)

take_all : (xs rest : List ℕ) (n : ℕ) → length xs ≡ n → take n (xs ++ rest) ≡ xs
take_all xs rest n e = ap (λ (k : ℕ). take k (xs ++ rest)) (sym e) ∙ take-append_seam xs rest

-- The first zero parts them.

record Parts (xs : List ℕ) (i : ℕ) : Type 0 where
  rest : List ℕ
  whole : xs ≡ take i xs ++ 0 ∷ rest
  some : AreSome (take i xs)
  long : length (take i xs) ≡ i

parts_at : (xs : List ℕ) (i : ℕ) → i < length xs → get_or xs i 0 ≡ 0 → ((k : ℕ) → k < i → (get_or xs k 0 == 0) ≡ false) → Parts xs i
parts_at [] i inside here before = absurd (omega (arith, inside))
parts_at (x ∷ xs) zero inside here before = record { rest = xs; whole = ap (λ (y : ℕ). y ∷ xs) here; some = tt; long = refl }
parts_at (x ∷ xs) (suc i) inside here before =
    let p = parts_at xs i (omega (arith, inside)) here (λ k less. before (suc k) (omega (arith, less))) in
    record { rest = p.rest; whole = ap (λ (ys : List ℕ). x ∷ ys) p.whole; some = (before 0 (omega arith), p.some); long = ap suc p.long }

parts : (xs : List ℕ) (i : ℕ) → position (λ (x : ℕ). x == 0) xs ≡ Some i → Parts xs i
parts xs i e =
    let p = position-Some (λ (x : ℕ). x == 0) xs i 0 e in
    parts_at xs i p.0 (eqb-true (get_or xs i 0) 0 p.1) p.2

append_cons : (ps : List ℕ) (rest more : List ℕ) → (ps ++ 0 ∷ rest) ++ more ≡ ps ++ 0 ∷ (rest ++ more)
append_cons ps rest more = append_assoc ps (0 ∷ rest) more

zeros : (n : ℕ) → 0 < n → replicate {A = ℕ} n 0 ≡ 0 ∷ replicate (n - 1) 0
zeros zero l = absurd (omega (arith, l))
zeros (suc n) l = ap (λ (k : ℕ). 0 ∷ replicate k 0) (omega arith)

whole_front : (ps rest : List ℕ) → AreSome ps → before_zero (ps ++ 0 ∷ rest) ≡ Some ps
whole_front [] rest some = refl
whole_front (x ∷ ps) rest some = cond-false (x == 0) (Some []) (option_map (λ (t : List ℕ). x ∷ t) (before_zero (ps ++ 0 ∷ rest))) some.0 ∙ ap (option_map (λ (t : List ℕ). x ∷ t)) (whole_front ps rest some.1)

pub zero_text : (xs : List ℕ) (i : ℕ) → length xs ≤ 129 → i < length xs → position (λ (x : ℕ). x == 0) xs ≡ Some i → IsTextOf xs (take i xs ++ replicate (129 - length (take i xs)) 0)
zero_text xs i most inside e =
    let p = parts xs i e in
    let short : length (take i xs) < 129 = (let l = p.long in omega (arith, l, most, inside)) in
    let own : (take i xs ++ replicate (129 - length (take i xs)) 0) ≡ take i xs ++ 0 ∷ replicate (129 - length (take i xs) - 1) 0 = ap (λ (zs : List ℕ). take i xs ++ zs) (zeros (129 - length (take i xs)) (omega (arith, short))) in
    record {
      text_is = λ rest.
          ap (λ (ys : List ℕ). before_zero (take 129 (ys ++ rest))) p.whole
          ∙ ap (λ (ys : List ℕ). before_zero (take 129 ys)) (append_cons (take i xs) p.rest rest)
          ∙ text_front (take i xs) (p.rest ++ rest) 129 p.some short
          ∙ sym (ap before_zero own ∙ whole_front (take i xs) (replicate (129 - length (take i xs) - 1) 0) p.some);
      size_is = λ rest.
          ap (λ (ys : List ℕ). looked_at 129 (ys ++ rest)) p.whole
          ∙ ap (looked_at 129) (append_cons (take i xs) p.rest rest)
          ∙ size_front (take i xs) (p.rest ++ rest) 129 p.some short
          ∙ sym (ap (looked_at 129) own ∙ size_front (take i xs) (replicate (129 - length (take i xs) - 1) 0) 129 p.some short);
      fits = (let size : looked_at 129 (take i xs ++ replicate (129 - length (take i xs)) 0) ≡ length (take i xs) + 1 = ap (looked_at 129) own ∙ size_front (take i xs) (replicate (129 - length (take i xs) - 1) 0) 129 p.some short in
          let l = p.long in
          omega (arith, size, l, inside));
    }

-- No zero among them.

some_at : (xs : List ℕ) → ((k : ℕ) → k < length xs → (get_or xs k 0 == 0) ≡ false) → AreSome xs
some_at [] each = tt
some_at (x ∷ xs) each = (each 0 (omega arith), some_at xs (λ k less. each (suc k) (omega (arith, less))))

none_some : (xs : List ℕ) → ◌≡◌ {A = Option ℕ} (position (λ (x : ℕ). x == 0) xs) None → AreSome xs
none_some xs e = some_at xs (λ k less. fails_before_first (λ (x : ℕ). x == 0) xs k 0 (let l = all (position_or_len (λ (x : ℕ). x == 0) xs) (length xs) e in omega (arith, l, less)))
  where
    all : (i n : ℕ) → ◌≡◌ {A = Option ℕ} (cond (nat_lt i n) (Some i) None) None → n ≤ i
    all i n e = by_test (nat_lt i n) refl e
      where
        past : nat_lt i n ≡ false → n ≤ i
        past t = grind (arith, nat_tests)

        by_test : (b : Bool) → nat_lt i n ≡ b → ◌≡◌ {A = Option ℕ} (cond b (Some i) None) None → n ≤ i
        by_test true t e = absurd (cc)
        by_test false t e = past t

pub none_text : (xs : List ℕ) → length xs ≡ 129 → ◌≡◌ {A = Option ℕ} (position (λ (x : ℕ). x == 0) xs) None → IsTextOf xs (xs ++ replicate (129 - length xs) 0)
none_text xs long e =
    let some = none_some xs e in
    let own : before_zero (xs ++ replicate (129 - length xs) 0) ≡ before_zero xs = ap before_zero (bare xs (129 - length xs) (omega (arith, long))) in
    record {
      text_is = λ rest. ap before_zero (take_all xs rest 129 long) ∙ sym own;
      size_is = λ rest. size_none xs rest 129 some (omega (arith, long)) ∙ sym (size_none xs (replicate (129 - length xs) 0) 129 some (omega (arith, long)));
      fits = (let size = size_none xs (replicate (129 - length xs) 0) 129 some (omega (arith, long)) in omega (arith, size, long));
    }
  where
    bare : (ys : List ℕ) (n : ℕ) → n ≡ 0 → (ys ++ replicate n 0) ≡ ys
    bare ys n none = ap (λ (k : ℕ). ys ++ replicate k 0) none ∙ ends ys
      where
        ends : (zs : List ℕ) → (zs ++ []) ≡ zs
        ends zs = append-nil zs

pub none_cut : (xs : List ℕ) → length xs < 129 → ◌≡◌ {A = Option ℕ} (position (λ (x : ℕ). x == 0) xs) None → IsCutOff xs
none_cut xs few e = record { few = few; size_is = size_cut xs 129 (none_some xs e) }

-- The name that a text gives.

pub zero_name : (xs : List ℕ) (i : ℕ) → position (λ (x : ℕ). x == 0) xs ≡ Some i → before_zero xs ≡ Some (take i xs)
zero_name xs i e = (let p = parts xs i e in ap before_zero p.whole ∙ whole_front (take i xs) p.rest p.some)

pub none_name : (xs : List ℕ) → length xs ≡ 129 → ◌≡◌ {A = Option ℕ} (position (λ (x : ℕ). x == 0) xs) None → name_by (Some xs) ≡ name_by (before_zero xs)
none_name xs long e = cond-false (is_name xs) (Some (folded xs)) None
    (no_name (same_text (take 10 (folded xs)) name_front) (nat_lt 10 (length xs)) (nat_le (length xs) name_most)
    (list_all is_name_byte (drop 10 xs)) (too_long (length xs) long)) ∙ sym (ap name_by (text_none xs (none_some xs e)))
  where
    too_long : (n : ℕ) → n ≡ 129 → nat_le n 128 ≡ false
    too_long n l = grind (arith, nat_tests)

    no_name : (a b c d : Bool) → c ≡ false → (a && (b && (c && d))) ≡ false
    no_name a b c d l = grind arith
