-- Decimal digits without a leading zero are a numeral.
use Rattle.std.proofs.Common.{◌≡◌, ℕ, ◌<◌, ◌≤◌, List, [], ◌∷◌, Bool, true, false, Err, refl, ap, length, drop, cond, arith, ◌==◌}
use Rattle.std.specs.Prelude.{nat_le, not, ◌&&◌, ◌||◌, slice_index}
use Rattle.std.specs.List.{list_all}
use Rattle.std.specs.Char.{digit_value, is_ascii_digit}
use Rattle.std.specs.Str.Parse.{AllDigits, IsNumeral, digits_value, without_leading_plus}
use Rattle.std.proofs.lemmas.Bool.{leb-true}
use Rattle.std.proofs.lemmas.Bool.{ne_eqb}
use Rattle.std.proofs.lemmas.Str.{digit_value_digit}
use Rattle.o2_base.specs.declared.faults.Key.TheVariants as key
use Rattle.o2_base.specs.declared.faults.MachineFault.TheVariants.{Limit}
use Rattle.o2_conf.specs.Script.{is_decimal, number_of}

both : (a b : Bool) → a && b ≡ true → (a ≡ true) × (b ≡ true)
both true b e = (refl, e)
both false b e = absurd cc

digit_is : (c : ℕ) → is_ascii_digit c ≡ true → digit_value c < 10
digit_is c e =
    let r = both (nat_le 48 c) (nat_le c 57) e in
    let low = leb-true _ _ r.0 in
    let high = leb-true _ _ r.1 in
    let v = digit_value_digit c (low, high) in
    omega arith

all_digits : (ds : List ℕ) → list_all is_ascii_digit ds ≡ true → AllDigits 10 ds
all_digits [] e = tt
all_digits (d ∷ ds) e = let b = both (is_ascii_digit d) (list_all is_ascii_digit ds) e in (digit_is d b.0, all_digits ds b.1)

no_plus : (ds : List ℕ) → 1 ≤ length ds → list_all is_ascii_digit ds ≡ true → without_leading_plus ds ≡ ds
no_plus [] some e = refl
no_plus (d ∷ ds) some e =
    let b = both (is_ascii_digit d) (list_all is_ascii_digit ds) e in
    let low = leb-true _ _ (both (nat_le 48 d) (nat_le d 57) b.0).0 in
    let plus : (d == 43) ≡ false = ne_eqb _ _ (λ e. omega arith) in
    ap (λ (b : Bool). drop (cond b 1 0) (d ∷ ds)) plus

numeral : (ds : List ℕ) → is_decimal ds ≡ true → IsNumeral 10 ds × (without_leading_plus ds ≡ ds)
numeral ds e =
    let a = both (nat_le 1 (length ds)) ((length ds == 1 || not (slice_index ds 0 == 48)) && list_all is_ascii_digit ds) e in
    let b = both (length ds == 1 || not (slice_index ds 0 == 48)) (list_all is_ascii_digit ds) a.1 in
    let some = leb-true _ _ a.0 in
    ((some, all_digits ds b.1), no_plus ds some b.1)

-- digits that no u64 holds are above each limit
pub too_large : (most : ℕ) (ds : List ℕ) → is_decimal ds ≡ true → most < 18446744073709551616
    → (IsNumeral 10 (without_leading_plus ds) × (digits_value 10 (without_leading_plus ds) < 18446744073709551616) → ⊥) → number_of most ds ≡ Err (Limit key.Script)
too_large most ds e small none = go (nat_le 1 (digits_value 10 ds)) (nat_le (digits_value 10 ds) most) refl refl
  where
    go : (a b : Bool) → nat_le 1 (digits_value 10 ds) ≡ a → nat_le (digits_value 10 ds) most ≡ b → number_of most ds ≡ Err (Limit key.Script)
    go true true one le =
        let n = numeral ds e in
        let fits : digits_value 10 ds ≤ most = leb-true _ _ le in
        absurd (none (rw n.1 (n.0, omega arith)))
    go true false one le = rw (one, le) refl
    go false b one le = rw one refl
