-- Pairs of hexadecimal digits, digit by digit.
use Rattle.std.proofs.Common.{◌≡◌, ◌∙◌, ◌+◌, ◌*◌, ◌≤◌, ap, sym, refl, ℕ, List, [], ◌∷◌, ◌++◌, length, append_assoc, append-nil, arith}
use Rattle.std.specs.Prelude.{Option, Some, None, option_map, option_and_then}
use Rattle.std.proofs.lemmas.Bool.Decides.{nat_tests}
use Rattle.os2vectors.specs.Words.{digit_value, pair_bytes, few}

-- before the first digit no byte has been read
pub none_yet : (o : Option (List ℕ)) → option_map (λ bs. [] ++ bs) o ≡ o
none_yet None = refl
none_yet (Some bs) = refl

-- the first digit of a pair is kept
pub kept : (done : List ℕ) (d c : ℕ) (cs : List ℕ) → digit_value c ≡ Some d → option_map (λ bs. done ++ bs) (pair_bytes cs (Some d)) ≡ option_map (λ bs. done ++ bs) (pair_bytes (c ∷ cs) None)
kept done d c cs e = ap (λ (o : Option ℕ). option_map (λ bs. done ++ bs) (option_and_then (λ x. pair_bytes cs (Some x)) o)) (sym e)

pushed : (done : List ℕ) (b : ℕ) (o : Option (List ℕ)) → option_map (λ bs. (done ++ b ∷ []) ++ bs) o ≡ option_map (λ bs. done ++ bs) (option_map (λ bs. b ∷ bs) o)
pushed done b None = refl
pushed done b (Some bs) = ap Some (append_assoc done (b ∷ []) bs)

-- the second makes a byte
pub made : (done : List ℕ) (h d c : ℕ) (cs : List ℕ) → digit_value c ≡ Some d → option_map (λ bs. (done ++ (h * 16 + d) ∷ []) ++ bs) (pair_bytes cs None)
    ≡ option_map (λ bs. done ++ bs) (pair_bytes (c ∷ cs) (Some h))
made done h d c cs e = pushed done (h * 16 + d) (pair_bytes cs None)
    ∙ ap (λ (o : Option ℕ). option_map (λ bs. done ++ bs) (option_and_then (λ x. option_map (λ bs. (h * 16 + x) ∷ bs) (pair_bytes cs None)) o)) (sym e)

-- what is no digit has no bytes
pub undigit : (c : ℕ) (cs : List ℕ) (high : Option ℕ) → digit_value c ≡ None → pair_bytes (c ∷ cs) high ≡ None
undigit c cs None e = ap (λ (o : Option ℕ). option_and_then (λ x. pair_bytes cs (Some x)) o) e
undigit c cs (Some h) e = ap (λ (o : Option ℕ). option_and_then (λ x. option_map (λ bs. (h * 16 + x) ∷ bs) (pair_bytes cs None)) o) e

-- those that are few are all of them
pub few_some : (bs : List ℕ) → 1 ≤ length bs → length bs ≤ 10 → few (Some (bs ++ [])) ≡ Some bs
few_some bs some most = ap (λ (l : List ℕ). few (Some l)) (append-nil bs) ∙ grind (arith, nat_tests)

pub few_not : (bs : List ℕ) → (length bs ≤ 10 → length bs ≡ 0) → few (Some (bs ++ [])) ≡ None
few_not bs bad = ap (λ (l : List ℕ). few (Some l)) (append-nil bs) ∙ grind (arith, nat_tests)
