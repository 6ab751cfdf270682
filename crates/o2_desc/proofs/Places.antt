-- Writes of some bits of a word, bit by bit.
use Rattle.std.proofs.Common.{◌≡◌, inl, inr, ℕ, zero, suc, ◌<◌, min, max, arith, refl, sym, ◌∙◌, subst}
use Rattle.std.specs.Int.RustNames.{bit_and, bit_or}
use Rattle.std.specs.Int.{bit_at}
use Rattle.std.proofs.lemmas.Nat.Bits.{bit_at_and, bit_at_or, bit_at-lt}
use Rattle.std.proofs.lemmas.Bool.{cases_eq}
use Rattle.o2_desc.specs.Bits.{with_places, flag_places, popped_places, loaded_places, no_flags, TakesPlaces}

-- P of each number below n
abbrev Each : (ℕ → Type 0) → ℕ → Type 0
Each P zero = Unit {0}
Each P (suc n) = Each P n × P n

at_each : (P : ℕ → Type 0) (n : ℕ) → Each P n → (k : ℕ) → k < n → P k
at_each P zero all k h = absurd (omega arith)
at_each P (suc n) all k h = elim (cases_eq k n) [
  | inl same ↦ subst P (sym same) all.1
  | inr other ↦ at_each P n all.0 k (omega arith)
]

mixed : (old word m n k : ℕ) → bit_at (bit_or (bit_and old m) (bit_and word n)) k ≡ max (min (bit_at old k) (bit_at m k)) (min (bit_at word k) (bit_at n k))
mixed old word m n k = rw (bit_at_or (bit_and old m) (bit_and word n) k, bit_at_and old m k, bit_at_and word n k) refl

kept : (old word m n k : ℕ) → bit_at m k ≡ 1 → bit_at n k ≡ 0 → bit_at (bit_or (bit_and old m) (bit_and word n)) k ≡ bit_at old k
kept old word m n k e f = mixed old word m n k ∙ rw (e, f) (omega (arith, bit_at-lt old k, bit_at-lt word k))

written : (old word m n k : ℕ) → bit_at m k ≡ 0 → bit_at n k ≡ 1 → bit_at (bit_or (bit_and old m) (bit_and word n)) k ≡ bit_at word k
written old word m n k e f = mixed old word m n k ∙ rw (e, f) (omega (arith, bit_at-lt old k, bit_at-lt word k))

pub TakesPlaces-popped : (old word : ℕ) → TakesPlaces popped_places old word (with_places popped_places old word)
TakesPlaces-popped old word =
    let w = λ (k : ℕ) (e : bit_at 45610 k ≡ 0) (f : bit_at 19925 k ≡ 1). written old word 45610 19925 k e f in
    let s = λ (k : ℕ) (e : bit_at 45610 k ≡ 1) (f : bit_at 19925 k ≡ 0). kept old word 45610 19925 k e f in
    at_each _ 16 (
      (
        (
          (
            (
              (
                (
                  (
                    (
                      (
                        ((((((tt, w 0 refl refl), s 1 refl refl), w 2 refl refl), s 3 refl refl), w 4 refl refl), s 5 refl refl),
                        w 6
                            refl refl,
                      ),
                      w 7 refl refl,
                    ),
                    w 8 refl refl,
                  ),
                  s 9 refl refl,
                ),
                w 10 refl refl,
              ),
              w 11 refl refl,
            ),
            s 12 refl refl,
          ),
          s 13 refl refl,
        ),
        w 14
            refl refl,
      ),
      s 15 refl refl,
    )

pub TakesPlaces-loaded : (old word : ℕ) → TakesPlaces loaded_places old word (with_places loaded_places old word)
TakesPlaces-loaded old word =
    let w = λ (k : ℕ) (e : bit_at 65322 k ≡ 0) (f : bit_at 213 k ≡ 1). written old word 65322 213 k e f in
    let s = λ (k : ℕ) (e : bit_at 65322 k ≡ 1) (f : bit_at 213 k ≡ 0). kept old word 65322 213 k e f in
    at_each _ 16 (
      (
        (
          (
            (
              (
                (
                  (
                    (
                      (
                        ((((((tt, w 0 refl refl), s 1 refl refl), w 2 refl refl), s 3 refl refl), w 4 refl refl), s 5 refl refl),
                        w 6
                            refl refl,
                      ),
                      w 7 refl refl,
                    ),
                    s 8 refl refl,
                  ),
                  s 9 refl refl,
                ),
                s 10 refl refl,
              ),
              s 11 refl refl,
            ),
            s 12 refl refl,
          ),
          s 13 refl refl,
        ),
        s 14
            refl refl,
      ),
      s 15 refl refl,
    )

pub TakesPlaces-shown : (word : ℕ) → TakesPlaces flag_places no_flags word (with_places flag_places no_flags word)
TakesPlaces-shown word =
    let w = λ (k : ℕ) (e : bit_at 32810 k ≡ 0) (f : bit_at 32725 k ≡ 1). written 2 word 32810 32725 k e f in
    let s = λ (k : ℕ) (e : bit_at 32810 k ≡ 1) (f : bit_at 32725 k ≡ 0). kept 2 word 32810 32725 k e f in
    at_each _ 16 (
      (
        (
          (
            (
              (
                (
                  (
                    (
                      (
                        ((((((tt, w 0 refl refl), s 1 refl refl), w 2 refl refl), s 3 refl refl), w 4 refl refl), s 5 refl refl),
                        w 6
                            refl refl,
                      ),
                      w 7 refl refl,
                    ),
                    w 8 refl refl,
                  ),
                  w 9 refl refl,
                ),
                w 10 refl refl,
              ),
              w 11 refl refl,
            ),
            w 12 refl refl,
          ),
          w 13 refl refl,
        ),
        w 14
            refl refl,
      ),
      s 15 refl refl,
    )
