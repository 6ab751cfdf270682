-- Arguments and values are read back, up to the end of their list.
use Rattle.std.proofs.Common.{◌≡◌, refl, ap, ◌∙◌, ℕ, zero, suc, ◌/◌, ◌≤◌, ◌==◌, ◌||◌, Bool, true, false, List, [], ◌∷◌, ◌++◌, length, arith}
use Rattle.std.specs.Prelude.{flat_map}
use Rattle.std.proofs.lemmas.Bool.{eqb-true}
use Rattle.o2_world.specs.declared.types.Argument.{Argument}
use Rattle.o2_world.specs.declared.types.Argument.TheVariants.{Word, Long, Far}
use Rattle.o2_world.specs.Text.{hex4, argument_text}
use Rattle.o2_read_report.proofs.Splits.{char, skip}
use Rattle.o2_read_report.proofs.Digits.{digit_no_mark, hex, hex_read}

-- a line end, or a blank and an equals sign
abbrev pub is_end : List ℕ → Bool
is_end t = (char 0 t == 10) || (char 1 t == 61)

-- it ends a word
abbrev pub stops : ℕ → Bool
stops c = (c == 32) || (c == 10)

abbrev pub more_of : Argument → List Argument × List ℕ → List Argument × List ℕ
more_of a r = (a ∷ r.0, r.1)

-- by three tests: a text ends, a colon stands behind the first word, a word ends there
abbrev pub by_tests : (List ℕ → List Argument × List ℕ) → List ℕ → (ends colon stop : Bool) → List Argument × List ℕ
by_tests more t true colon stop = ([], t)
by_tests more t false true stop = more_of (Far (hex (skip 1 t)) (hex (skip 6 t))) (more (skip 10 t))
by_tests more t false false true = more_of (Word (hex (skip 1 t))) (more (skip 5 t))
by_tests more t false false false = more_of (Long (hex (skip 1 t)) (hex (skip 5 t))) (more (skip 9 t))

-- of so many arguments at most, and what comes behind them
abbrev pub arguments : ℕ → List ℕ → List Argument × List ℕ
arguments zero t = ([], t)
arguments (suc n) t = by_tests (arguments n) t (is_end t) (char 5 t == 58) (stops (char 5 t))

tests : (more : List ℕ → List Argument × List ℕ) (t : List ℕ) (a b c : Bool) → is_end t ≡ a → (char 5 t == 58) ≡ b → stops (char 5 t) ≡ c
    → by_tests more t (is_end t) (char 5 t == 58) (stops (char 5 t)) ≡ by_tests more t a b c
tests more t a b c p q r =
    ap (λ (x : Bool). by_tests more t x (char 5 t == 58) (stops (char 5 t))) p ∙ ap (λ (x : Bool). by_tests more t a x (stops (char 5 t))) q
    ∙ ap (λ (x : Bool). by_tests more t a b x) r

head_stops : (given : List Argument) (y : List ℕ) → stops (char 0 y) ≡ true → stops (char 0 (flat_map argument_text given ++ y)) ≡ true
head_stops [] y h = h
head_stops (Word n ∷ given) y h = refl
head_stops (Long high low ∷ given) y h = refl
head_stops (Far s o ∷ given) y h = refl

not_both : (b : Bool) → b ≡ true → b ≡ false → ⊥
not_both b p q = cc

no_colon : (c : ℕ) → stops c ≡ true → (c == 58) ≡ false
no_colon c h = go (c == 58) refl
  where
    go : (b : Bool) → (c == 58) ≡ b → (c == 58) ≡ false
    go true e = absurd (not_both (stops c) h (ap (λ (x : ℕ). stops x) (eqb-true c 58 e)))
    go false e = e

either_no : (a b : Bool) → a ≡ false → b ≡ false → (a || b) ≡ false
either_no a b p q = ap (λ (t : Bool). t || b) p ∙ q

pub arguments_read : (given : List Argument) (n : ℕ) (y : List ℕ) → length given ≤ n → is_end y ≡ true → stops (char 0 y) ≡ true
    → arguments n (flat_map argument_text given ++ y) ≡ (given, y)
unfolding hex4
arguments_read [] zero y few ends stop = refl
arguments_read [] (suc n) y few ends stop = tests (arguments n) y true (char 5 y == 58) (stops (char 5 y)) ends refl refl
arguments_read (a ∷ given) zero y few ends stop = absurd (omega arith)
arguments_read (Word n ∷ given) (suc k) y few ends stop =
    let rest = flat_map argument_text given ++ y in
    let s = head_stops given y stop in
    tests (arguments k) (32 ∷ (hex4 n ++ rest)) false false true (digit_no_mark (n / 4096)).equals (no_colon (char 0 rest) s) s
    ∙ ap (λ (m : ℕ). more_of (Word m) (arguments k rest)) (hex_read n rest)
    ∙ ap (more_of (Word n)) (arguments_read given k y (omega (arith, few)) ends stop)
arguments_read (Long high low ∷ given) (suc k) y few ends stop =
    let rest = flat_map argument_text given ++ y in
    let d = digit_no_mark (low / 4096) in
    tests (arguments k) (32 ∷ (hex4 high ++ (hex4 low ++ rest))) false false false (digit_no_mark (high / 4096)).equals d.colon (either_no _ _ d.blank d.line_end)
    ∙ ap (λ (m : ℕ). more_of (Long m (hex (hex4 low ++ rest))) (arguments k rest)) (hex_read high (hex4 low ++ rest))
    ∙ ap (λ (m : ℕ). more_of (Long high m) (arguments k rest)) (hex_read low rest)
    ∙ ap (more_of (Long high low)) (arguments_read given k y (omega (arith, few)) ends stop)
arguments_read (Far s o ∷ given) (suc k) y few ends stop =
    let rest = flat_map argument_text given ++ y in
    let t = 32 ∷ (hex4 s ++ (58 ∷ (hex4 o ++ rest))) in
    tests (arguments k) t false true (stops (char 5 t)) (digit_no_mark (s / 4096)).equals refl refl
    ∙ ap (λ (m : ℕ). more_of (Far m (hex (hex4 o ++ rest))) (arguments k rest)) (hex_read s (58 ∷ (hex4 o ++ rest)))
    ∙ ap (λ (m : ℕ). more_of (Far s m) (arguments k rest)) (hex_read o rest)
    ∙ ap (more_of (Far s o)) (arguments_read given k y (omega (arith, few)) ends stop)
