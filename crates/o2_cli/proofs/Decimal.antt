-- The decimal digits of a number below 2 ^ 128, by its last digit.
use Rattle.std.proofs.Common.{◌≡◌, ℕ, ◌+◌, ◌/◌, ◌%◌, ◌^◌, ◌<◌, ◌≤◌, [], ◌∷◌, ◌++◌, length, decimal, ap, ◌∙◌, length-append, lit<, arith}
use Rattle.std.proofs.lemmas.Fmt.{decimal_step_wide, decimal_digit, length-decimal-le_wide}

wide : (n : ℕ) → n < 2 ^ 128 → n < 10 ^ 64
wide n small = let less : 2 ^ 128 < 10 ^ 64 = lit< tt in omega (arith, small, less)

pub decimal_one : (n : ℕ) → n < 10 → decimal n ≡ (48 + n) ∷ []
decimal_one n h = decimal_digit n h

pub length_one : (n : ℕ) → n < 10 → length (decimal n) ≡ 1
length_one n h = ap length (decimal_digit n h)

pub decimal_more : (n : ℕ) → 10 ≤ n → n < 2 ^ 128 → decimal n ≡ decimal (n / 10) ++ (48 + n % 10) ∷ []
decimal_more n h s = decimal_step_wide n h (wide n s)

pub length_more : (n : ℕ) → 10 ≤ n → n < 2 ^ 128 → length (decimal n) ≡ length (decimal (n / 10)) + 1
length_more n h s = ap length (decimal_more n h s) ∙ length-append (decimal (n / 10)) ((48 + n % 10) ∷ [])

pub length_most : (n : ℕ) → n < 2 ^ 128 → length (decimal n) ≤ 39
length_most n h = let less : 2 ^ 128 < 10 ^ 39 = lit< tt in length-decimal-le_wide 39 n (lit< tt) (omega (arith, h, less)) (wide n h)
