-- The word of a verb tells it, and behind `bench` the number that is its operand.
use Rattle.std.proofs.Common.{◌≡◌, ◌∙◌, ℕ, zero, suc, ◌<◌, ◌≤◌, ◌^◌, List, [], ◌∷◌, Option, Some, None, Result, Ok, Err, true, false, refl, ap, sym, subst, arith, get_or, decimal}
use Rattle.std.specs.Prelude.{IsSome, MatchOption, String, nat_lt}
use Rattle.std.specs.Result.{result_unwrap_or}
use Rattle.std.specs.declared.alloc.Global.{Global}
use Rattle.std.specs.Str.Parse.{ParsesUnsigned, IsNumeral, digits_value, without_leading_plus}
use Rattle.std.proofs.lemmas.Bool.{ltb-true, ltb-false}
use Rattle.std.proofs.lemmas.Fmt.{decimal_injective, decimal-digits_value, decimal_digit, first_decimal, parse-decimal}
use Rattle.std.proofs.lemmas.Result.{OkIff-at_ok}
use Rattle.std.proofs.lemmas.Str.Parse.{numerals_by_value, tells_digits, without_leading_plus_none}
use Rattle.o2_words.specs.Words.{HasCount, IsCommandFor, IsCount, IsName, IsOperand, verb_text}
use Rattle.o2_words.specs.declared.words.Verb.{Verb}
use Rattle.o2_words.specs.declared.words.Verb.TheVariants.{Exe, Run, Check, Dump, Bench}

abbrev first_letter : List ℕ → ℕ
first_letter [] = 0
first_letter (x ∷ xs) = x

one_count : (text : List ℕ) (m n : ℕ) → IsCount text m → IsCount text n → m ≡ n
one_count text m n f g =
    let little : 64 < 2 ^ 64 = omega arith in
    decimal_injective m n (omega (arith, f.few, little)) (omega (arith, g.few, little)) (sym f.digits ∙ g.digits)

-- the first letters tell verbs apart
pub one_verb : (v w : Verb) (text : List ℕ) → verb_text v ≡ verb_text w → IsOperand v text → IsOperand w text → v ≡ w
one_verb Exe Exe text e f g = refl
one_verb Run Run text e f g = refl
one_verb Check Check text e f g = refl
one_verb Dump Dump text e f g = refl
one_verb (Bench m) (Bench n) text e f g = ap (λ (k : ℕ). Bench k) (one_count text m n f g)
one_verb v w text e f g = let letter : first_letter (verb_text v) ≡ first_letter (verb_text w) = ap first_letter e in absurd (omega (arith, letter))

-- a verb whose operand is the name of a file
abbrev pub OfFile : Verb → Type 0
OfFile (Bench count) = ⊥
OfFile _ = Unit {0}

-- another word, or an operand that is no name
no_file : (v w : Verb) (text : List ℕ) → OfFile v → verb_text v ≡ verb_text w → (IsName text → ⊥) → IsOperand w text → ⊥
no_file Exe Exe text of e none f = none f
no_file Run Run text of e none f = none f
no_file Check Check text of e none f = none f
no_file Dump Dump text of e none f = none f
no_file (Bench m) w text of e none f = absurd of
no_file v w text of e none f = let letter : first_letter (verb_text v) ≡ first_letter (verb_text w) = ap first_letter e in absurd (omega (arith, letter))

no_bench : (n : ℕ) (w : Verb) (text : List ℕ) → verb_text (Bench n) ≡ verb_text w → ((count : ℕ) → IsCount text count → ⊥) → IsOperand w text → ⊥
no_bench n (Bench m) text e none f = none m f
no_bench n w text e none f = let letter : 98 ≡ first_letter (verb_text w) = ap first_letter e in absurd (omega (arith, letter))

named_operand : (v : Verb) (text : List ℕ) → OfFile v → IsName text → IsOperand v text
named_operand Exe text of n = n
named_operand Run text of n = n
named_operand Check text of n = n
named_operand Dump text of n = n
named_operand (Bench m) text of n = absurd of

abbrev pub Finds : (word text : List ℕ) → Option Verb → Type 0
Finds word text r = MatchOption r ((verb : Verb) → word ≡ verb_text verb → IsOperand verb text → ⊥) (λ (verb : Verb). (word ≡ verb_text verb) × IsOperand verb text)

pub file_found : (word text : List ℕ) (v : Verb) (r : Option Verb) → OfFile v → word ≡ verb_text v
    → MatchOption r (IsName text → ⊥) (λ (w : Verb). (w ≡ v) × IsName text) → Finds word text r
file_found word text v None of is none = λ w e f. no_file v w text of (sym is ∙ e) none f
file_found word text v (Some w) of is found = (is ∙ ap verb_text (sym found.0), subst (λ (z : Verb). IsOperand z text) (sym found.0) (named_operand v text of found.1))

pub bench_found : (word text : List ℕ) (r : Option Verb) → word ≡ verb_text (Bench 1)
    → MatchOption r ((count : ℕ) → IsCount text count → ⊥) (λ (w : Verb). (count : ℕ) × (w ≡ Bench count) × IsCount text count) → Finds word text r
bench_found word text None is none = λ w e f. no_bench 1 w text (sym is ∙ e) none f
bench_found word text (Some w) is found = (is ∙ ap verb_text (sym found.1), subst (λ (z : Verb). IsOperand z text) (sym found.1) found.2)

-- a word with an operand that a verb may have is found to be one
pub is_found : (word text : List ℕ) (r : Option Verb) → Finds word text r → (v : Verb) → word ≡ verb_text v → IsOperand v text → IsSome r
is_found word text None none v e f = absurd (none v e f)
is_found word text (Some w) found v e f = refl

pub found_as : (word text : List ℕ) (r : Option Verb) → Finds word text r → (v : Verb) → r ≡ Some v → (word ≡ verb_text v) × IsOperand v text
found_as word text r found v is = subst (λ (o : Option Verb). Finds word text o) is found

pub has_count : (v : Verb) (text : List ℕ) → IsOperand v text → HasCount v
has_count Exe text f = tt
has_count Run text f = tt
has_count Check text f = tt
has_count Dump text f = tt
has_count (Bench count) text f = (f.some, f.few)

-- no verb has any other word
pub no_verb : (word : List ℕ) → (word ≡ verb_text Exe → ⊥) → (word ≡ verb_text Run → ⊥) → (word ≡ verb_text Check → ⊥) → (word ≡ verb_text Dump → ⊥) → (word ≡ verb_text (Bench 1) → ⊥)
    → (v : Verb) → word ≡ verb_text v → ⊥
no_verb word e r c d b Exe is = e is
no_verb word e r c d b Run is = r is
no_verb word e r c d b Check is = c is
no_verb word e r c d b Dump is = d is
no_verb word e r c d b (Bench n) is = b is

-- the number of a bench, as it is read

-- it begins above the digit zero
begins_above : (text : List ℕ) (count : ℕ) → IsCount text count → 48 < get_or text 0 0
begins_above text count f =
    let little : 64 < 2 ^ 64 = omega arith in
    let front : 48 < get_or (decimal count) 0 0 = first_decimal count (omega (arith, f.some)) (omega (arith, f.few, little)) in
    subst (λ (t : List ℕ). 48 < get_or t 0 0) (sym f.digits) front

pub no_zero : (text : List ℕ) (count : ℕ) → nat_lt 48 (get_or text 0 0) ≡ false → IsCount text count → ⊥
no_zero text count low f = let above = begins_above text count f in let below = ltb-false _ _ low in absurd (omega (arith, above, below))

pub count_is_name : (text : List ℕ) (count : ℕ) → IsCount text count → IsName text
count_is_name [] count f = let above : 48 < 0 = begins_above [] count f in absurd (omega (arith, above))
count_is_name (x ∷ xs) count f = λ dash. let above : 48 < x = begins_above (x ∷ xs) count f in absurd (omega (arith, above, dash))

at_least_one : (count : ℕ) (text : List ℕ) → text ≡ decimal count → 48 < get_or text 0 0 → 1 ≤ count
at_least_one zero text is above =
    let front : get_or text 0 0 ≡ 48 = ap (λ (t : List ℕ). get_or t 0 0) (is ∙ decimal_digit 0 (omega arith)) in
    absurd (omega (arith, above, front))
at_least_one (suc n) text is above = omega arith

module _ {E : Type 0} where
  pub count_read : (text : List ℕ) (count : ℕ) (r : Result ℕ E) → ParsesUnsigned 16 10 text r → IsCount text count → r ≡ Ok count
  count_read text count r h f =
      let little : 64 < 2 ^ 16 = omega arith in
      let large : 64 < 2 ^ 64 = omega arith in
      parse-decimal 16 count text r (omega (arith, f.few, little)) (omega (arith, f.few, large)) f.digits h

  pub is_count : (text : List ℕ) (count : ℕ) (r : Result ℕ E) → nat_lt 48 (get_or text 0 0) ≡ true → ParsesUnsigned 16 10 text r → r ≡ Ok count → count ≤ 64 → IsCount text count
  is_count text count r high h is few =
      let above : 48 < get_or text 0 0 = ltb-true _ _ high in
      let unsigned : without_leading_plus text ≡ text = without_leading_plus_none text (λ plus. omega (arith, above, plus)) in
      let read = OkIff-at_ok r _ _ count h is in
      let numeral : IsNumeral 10 text = subst (λ (t : List ℕ). IsNumeral 10 t) unsigned read.0.0 in
      let value : count ≡ digits_value 10 text = read.1 ∙ ap (digits_value 10) unsigned in
      let small : digits_value 10 text < 2 ^ 16 = subst (λ (t : List ℕ). digits_value 10 t < 2 ^ 16) unsigned read.0.1 in
      let little : 2 ^ 16 < 2 ^ 64 = omega arith in
      let digits : decimal (digits_value 10 text) ≡ text =
      decimal-digits_value (numerals_by_value _ tells_digits) text numeral.1 numeral.0 (λ zero. omega (arith, above, zero)) (omega (arith, small, little)) in
      let is_text : text ≡ decimal count = sym digits ∙ ap decimal (sym value) in
      record { some = at_least_one count text is_text above; few = few; digits = is_text }

abbrev first_word : List (List ℕ) → List ℕ
first_word [] = []
first_word (w ∷ ws) = w

abbrev second_word : List (List ℕ) → List ℕ
second_word [] = []
second_word (w ∷ ws) = first_word ws

-- words are one command
pub one_command : (words : List (String Global)) (v w : Verb) (text other : List ℕ) → IsCommandFor words v text → IsCommandFor words w other → v ≡ w
one_command words v w text other f g =
    let same : text ≡ other = ap second_word (sym f.two ∙ g.two) in
    one_verb v w text (ap first_word (sym f.two ∙ g.two)) f.is_operand (subst (λ (t : List ℕ). IsOperand w t) (sym same) g.is_operand)

-- a number that is read is one such number, and no other
module _ {E : Type 0} where
  pub too_large : (text : List ℕ) (count n : ℕ) (r : Result ℕ E) → ParsesUnsigned 16 10 text r → r ≡ Ok n → 64 < n → IsCount text count → ⊥
  too_large text count n r h is large f =
      let same : count ≡ n = ap (λ (x : Result ℕ E). result_unwrap_or x 0) (sym (count_read text count r h f) ∙ is) in
      absurd (omega (arith, f.few, same, large))

  pub unread : (text : List ℕ) (count : ℕ) (r : Result ℕ E) (e : E) → ParsesUnsigned 16 10 text r → r ≡ Err e → IsCount text count → ⊥
  unread text count r e h err f = let clash : ◌≡◌ {A = Result ℕ E} (Ok count) (Err e) = sym (count_read text count r h f) ∙ err in absurd (cc)
