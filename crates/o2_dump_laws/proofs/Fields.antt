-- What stands from a place of a file on, and its fields.
use Rattle.std.proofs.Common.{◌≡◌, ℕ, ◌+◌, ◌*◌, ◌/◌, ◌%◌, ◌<◌, ◌≤◌, ◌^◌, Bool, true, List, [], ◌∷◌, ◌++◌, length, take, drop, get_or, Result, Ok, refl, sym, ap, ◌∙◌, append_assoc, length-append, arith}
use Rattle.std.specs.Prelude.{nat_le, nat_lt, ◌&&◌}
use Rattle.std.proofs.Math.Seq.{drop-append-add, take-append_seam}
use Rattle.std.proofs.lemmas.List.{get_or-append-add}
use Rattle.std.proofs.lemmas.Nat.{from_le_bytes-to_le_bytes_2, from_le_bytes-to_le_bytes_4, from_le_bytes-to_le_bytes_8}
use Rattle.std.proofs.lemmas.Bool.Decides.{nat_tests}
use Rattle.o2_ne.specs.Words.{long_at, string_at, word_at}
use Rattle.o2_ne.specs.Checks.{Check, all_hold, ◌>>=◌}
use Rattle.o2_dump.specs.FileFields.{quad_at, whole}

-- these bytes stand at the end of a file, from place p on
pub record StandsAt (file : List ℕ) (p : ℕ) (xs : List ℕ) : Type 0 where
  pub front : List ℕ
  pub splits : file ≡ front ++ xs
  pub place : p ≡ length front

-- behind the first of them the others stand
pub stands_next : (file : List ℕ) (p q : ℕ) (xs ys zs : List ℕ) → StandsAt file p xs → xs ≡ ys ++ zs → q ≡ p + length ys → StandsAt file q zs
stands_next file p q xs ys zs h e f = record {
  front = h.front ++ ys;
  splits = h.splits ∙ (ap (λ (z : List ℕ). h.front ++ z) e ∙ sym (append_assoc h.front ys zs));
  place = omega (arith, h.place, length-append h.front ys);
}

pub file_length : (file : List ℕ) (p : ℕ) (xs : List ℕ) → StandsAt file p xs → length file ≡ p + length xs
file_length file p xs h = let e : length file ≡ length h.front + length xs = ap length h.splits ∙ length-append h.front xs in omega (arith, h.place)

byte_is : (file : List ℕ) (p q j : ℕ) (xs : List ℕ) → StandsAt file p xs → q ≡ p + j → get_or file q 0 ≡ get_or xs j 0
byte_is file p q j xs h e =
    let f : q ≡ length h.front + j = omega (arith, h.place) in
    ap (λ (z : List ℕ). get_or z q 0) h.splits ∙ (ap (λ (z : ℕ). get_or (h.front ++ xs) z 0) f ∙ get_or-append-add h.front xs j 0)

pub byte_at_is : (file : List ℕ) (p q j n : ℕ) (xs : List ℕ) → StandsAt file p xs → q ≡ p + j → get_or xs j 0 ≡ n → get_or file q 0 ≡ n
byte_at_is file p q j n xs h e a = byte_is file p q j xs h e ∙ a

pub word_joins : (n : ℕ) → n < 2 ^ 16 → n % 256 + 256 * (n / 256 % 256) ≡ n
word_joins n h = omega (arith, from_le_bytes-to_le_bytes_2 n h)

pub long_joins : (n : ℕ) → n < 2 ^ 32 → n % 256 + 256 * (n / 256 % 256) + 65536 * (n / 65536 % 256) + 16777216 * (n / 16777216 % 256) ≡ n
long_joins n h = omega (arith, from_le_bytes-to_le_bytes_4 n h)

pub word_is : (file : List ℕ) (p q j n : ℕ) (xs : List ℕ) → StandsAt file p xs → q ≡ p + j → get_or xs j 0 ≡ n % 256 → get_or xs (j + 1) 0 ≡ n / 256 % 256
    → n < 2 ^ 16 → word_at file q ≡ n
word_is file p q j n xs h e a b fits =
    let one : get_or file q 0 ≡ n % 256 = byte_at_is file p q j (n % 256) xs h e a in
    let two : get_or file (q + 1) 0 ≡ n / 256 % 256 = byte_at_is file p (q + 1) (j + 1) (n / 256 % 256) xs h (omega arith) b in
    omega (arith, one, two, word_joins n fits)

pub long_is : (file : List ℕ) (p q j n : ℕ) (xs : List ℕ) → StandsAt file p xs → q ≡ p + j → get_or xs j 0 ≡ n % 256 → get_or xs (j + 1) 0 ≡ n / 256 % 256
    → get_or xs (j + 2) 0 ≡ n / 65536 % 256 → get_or xs (j + 3) 0 ≡ n / 16777216 % 256 → n < 2 ^ 32 → long_at file q ≡ n
long_is file p q j n xs h e a b c d fits =
    let one : get_or file q 0 ≡ n % 256 = byte_at_is file p q j (n % 256) xs h e a in
    let two : get_or file (q + 1) 0 ≡ n / 256 % 256 = byte_at_is file p (q + 1) (j + 1) (n / 256 % 256) xs h (omega arith) b in
    let three : get_or file (q + 2) 0 ≡ n / 65536 % 256 = byte_at_is file p (q + 2) (j + 2) (n / 65536 % 256) xs h (omega arith) c in
    let four : get_or file (q + 3) 0 ≡ n / 16777216 % 256 = byte_at_is file p (q + 3) (j + 3) (n / 16777216 % 256) xs h (omega arith) d in
    omega (arith, one, two, three, four, long_joins n fits)

quad_joins : (n : ℕ) → n < 2 ^ 64
    → n % 256 + 256 * (n / 256 % 256) + 65536 * (n / 65536 % 256) + 16777216 * (n / 16777216 % 256) + 4294967296 * (n / 4294967296 % 256) + 1099511627776 * (n / 1099511627776 % 256)
    + 281474976710656 * (n / 281474976710656 % 256) + 72057594037927936 * (n / 72057594037927936 % 256) ≡ n
quad_joins n h = omega (arith, from_le_bytes-to_le_bytes_8 n h)

pub quad_is : (file : List ℕ) (p q j n : ℕ) (xs : List ℕ) → StandsAt file p xs → q ≡ p + j → get_or xs j 0 ≡ n % 256 → get_or xs (j + 1) 0 ≡ n / 256 % 256
    → get_or xs (j + 2) 0 ≡ n / 65536 % 256 → get_or xs (j + 3) 0 ≡ n / 16777216 % 256 → get_or xs (j + 4) 0 ≡ n / 4294967296 % 256 → get_or xs (j + 5) 0 ≡ n / 1099511627776 % 256
    → get_or xs (j + 6) 0 ≡ n / 281474976710656 % 256 → get_or xs (j + 7) 0 ≡ n / 72057594037927936 % 256 → n < 2 ^ 64 → quad_at file q ≡ n
quad_is file p q j n xs h e a b c d r s t u fits =
    let one : get_or file q 0 ≡ n % 256 = byte_at_is file p q j (n % 256) xs h e a in
    let two : get_or file (q + 1) 0 ≡ n / 256 % 256 = byte_at_is file p (q + 1) (j + 1) (n / 256 % 256) xs h (omega arith) b in
    let three : get_or file (q + 2) 0 ≡ n / 65536 % 256 = byte_at_is file p (q + 2) (j + 2) (n / 65536 % 256) xs h (omega arith) c in
    let four : get_or file (q + 3) 0 ≡ n / 16777216 % 256 = byte_at_is file p (q + 3) (j + 3) (n / 16777216 % 256) xs h (omega arith) d in
    let five : get_or file (q + 4) 0 ≡ n / 4294967296 % 256 = byte_at_is file p (q + 4) (j + 4) (n / 4294967296 % 256) xs h (omega arith) r in
    let six : get_or file (q + 4 + 1) 0 ≡ n / 1099511627776 % 256 = byte_at_is file p (q + 4 + 1) (j + 5) (n / 1099511627776 % 256) xs h (omega arith) s in
    let seven : get_or file (q + 4 + 2) 0 ≡ n / 281474976710656 % 256 = byte_at_is file p (q + 4 + 2) (j + 6) (n / 281474976710656 % 256) xs h (omega arith) t in
    let eight : get_or file (q + 4 + 3) 0 ≡ n / 72057594037927936 % 256 = byte_at_is file p (q + 4 + 3) (j + 7) (n / 72057594037927936 % 256) xs h (omega arith) u in
    omega (arith, one, two, three, four, five, six, seven, eight, quad_joins n fits)

-- some of these bytes
pub string_is : (file : List ℕ) (p n : ℕ) (xs ys : List ℕ) → StandsAt file p (xs ++ ys) → n ≡ length xs → string_at file p n ≡ xs
string_is file p n xs ys h e =
    let f : p ≡ length h.front + 0 = omega (arith, h.place) in
    ap (λ (z : ℕ). take n (drop z file)) f
    ∙ (ap (λ (z : List ℕ). take n (drop (length h.front + 0) z)) h.splits
    ∙ (ap (take n) (drop-append-add h.front (xs ++ ys) 0)
    ∙ (ap (λ (z : ℕ). take z (xs ++ ys)) e ∙ take-append_seam xs ys)))

-- ---- checks

pub fits_in : (file : List ℕ) (q n : ℕ) → q + n ≤ length file → (whole file q n).holds ≡ true
fits_in file q n h = grind (arith, nat_tests)

pub at_most : (a b : ℕ) → a ≤ b → nat_le a b ≡ true
at_most a b h = grind (arith, nat_tests)

pub below : (a b : ℕ) → a < b → nat_lt a b ≡ true
below a b h = grind (arith, nat_tests)

pub both_true : (a b : Bool) → a ≡ true → b ≡ true → (a && b) ≡ true
both_true a b p q = rw (p, q) refl

pub one_holds : {F : Type 0} (a : Check F) → a.holds ≡ true → all_hold (a ∷ []) ≡ Ok tt
one_holds a p = rw p refl

pub two_hold : {F : Type 0} (a b : Check F) → a.holds ≡ true → b.holds ≡ true → all_hold (a ∷ b ∷ []) ≡ Ok tt
two_hold a b p q = rw (p, q) refl

pub three_hold : {F : Type 0} (a b c : Check F) → a.holds ≡ true → b.holds ≡ true → c.holds ≡ true → all_hold (a ∷ b ∷ c ∷ []) ≡ Ok tt
three_hold a b c p q r = rw (p, q, r) refl

pub five_hold : {F : Type 0} (a b c d e : Check F) → a.holds ≡ true → b.holds ≡ true → c.holds ≡ true → d.holds ≡ true → e.holds ≡ true
    → all_hold (a ∷ b ∷ c ∷ d ∷ e ∷ []) ≡ Ok tt
five_hold a b c d e p q r s t = rw (p, q, r, s, t) refl

pub eight_hold : {F : Type 0} (a b c d e f g h : Check F) → a.holds ≡ true → b.holds ≡ true → c.holds ≡ true → d.holds ≡ true → e.holds ≡ true → f.holds ≡ true
    → g.holds ≡ true → h.holds ≡ true → all_hold (a ∷ b ∷ c ∷ d ∷ e ∷ f ∷ g ∷ h ∷ []) ≡ Ok tt
eight_hold a b c d e f g h p q r s t u v w = rw (p, q, r, s, t, u, v, w) refl

pub ten_hold : {F : Type 0} (a b c d e f g h i j : Check F) → a.holds ≡ true → b.holds ≡ true → c.holds ≡ true → d.holds ≡ true → e.holds ≡ true → f.holds ≡ true
    → g.holds ≡ true → h.holds ≡ true → i.holds ≡ true → j.holds ≡ true → all_hold (a ∷ b ∷ c ∷ d ∷ e ∷ f ∷ g ∷ h ∷ i ∷ j ∷ []) ≡ Ok tt
ten_hold a b c d e f g h i j p q r s t u v w x y = rw (p, q, r, s, t, u, v, w, x, y) refl

-- what passes its checks, and comes to a value
pub passes : {S F : Type 0} (r : Result (Unit {0}) F) (a b : S) → r ≡ Ok tt → a ≡ b → (r >>= (λ _. Ok a)) ≡ Ok b
passes r a b e f = rw e (ap Ok f)

pub goes_on : {A S F : Type 0} (r : Result A F) (x : A) (f : A → Result S F) (s : Result S F) → r ≡ Ok x → f x ≡ s → (r >>= f) ≡ s
goes_on r x f s e g = rw e g
