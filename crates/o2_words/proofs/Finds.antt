-- From what `clap`'s getters answer to what it found.
use Rattle.std.proofs.Common.{◌≡◌, ◌∙◌, List, Option, Some, None, Box, codes, option_map, refl, sym, ap, ap₂}
use Rattle.std.proofs.lemmas.Option.{none-some}
use Rattle.std.specs.Prelude.{IsSome, option_and_then, unwrap_or}
use Rattle.std.specs.Borrow.{Bor}
use Rattle.clap.specs.Words.{Row, Text, first_of, first_value, found_of, rows_of, subcommand_name_of, subcommand_rows, subcommand_rows_of}
use Rattle.clap.specs.declared.parser.matches.ArgMatches.{ArgMatches}
use Rattle.clap.specs.declared.parser.matches.ArgMatches.TheViews.{out-ArgMatches, out-SubCommand}
use Rattle.clap.specs.declared.parser.matches.SubCommand.{SubCommand}
use Rattle.clap.proofs.WalkLemmas.{first_value-rows}
use Rattle.std.specs.Box.{box_value}
use Rattle.o2_words.specs.Grammar.{operand_in}

module _ {Z : Type 0} where
  pub name_in : (s : Option (Box SubCommand Z)) → option_map (λ b. (out-SubCommand (box_value b)).name.now) s ≡ option_map (λ p. p.0) (subcommand_rows s)
  name_in None = refl
  name_in (Some b) = refl

pub name_in_matches : (m : ArgMatches) → subcommand_name_of m ≡ option_map (λ p. p.0) (subcommand_rows_of m)
name_in_matches m = name_in (out-ArgMatches m).subcommand

abbrev pub answer_in : Option (Bor Text × Bor ArgMatches) → Option (Text × Option Text)
answer_in = option_map (λ p. (p.0.now, first_value (found_of p.1.now) (codes "OPERAND")))

some_is : {X : Type 0} (d x y : X) → Some x ≡ Some y → x ≡ y
some_is d x y e = ap (λ o. unwrap_or o d) e

pub found_by : (sub : Option (Bor Text × Bor ArgMatches)) (r : Option (Text × List Row)) → option_map (λ p. p.0.now) sub ≡ option_map (λ p. p.0) r
    → option_map (λ p. rows_of (found_of p.1.now)) sub ≡ option_map (λ p. p.1) r → answer_in sub ≡ operand_in r
found_by None None names rows = refl
found_by None (Some q) names rows = absurd (none-some _ names)
found_by (Some p) None names rows = absurd (none-some _ (sym names))
found_by (Some p) (Some q) names rows = ap₂ (λ a b. Some (a, b)) (some_is p.0.now _ _ names) (first_value-rows (found_of p.1.now) (codes "OPERAND") ∙ ap (first_of (codes "OPERAND")) (some_is q.1 _ _ rows))

-- what the subcommand's answer shows of what was found
pub shown : (m : ArgMatches) (sub : Option (Bor Text × Bor ArgMatches)) (p : Bor Text × Bor ArgMatches) → option_map (λ q. q.0.now) sub ≡ subcommand_name_of m
    → option_map (λ q. rows_of (found_of q.1.now)) sub ≡ option_map (λ q. q.1) (subcommand_rows_of m) → sub ≡ Some p
    → operand_in (subcommand_rows_of m) ≡ Some (p.0.now, first_value (found_of p.1.now) (codes "OPERAND"))
shown m sub p names rows is = sym (found_by sub (subcommand_rows_of m) (names ∙ name_in_matches m) rows) ∙ ap answer_in is

-- a file that was found is there
pub is_there : (found : Option (Text × Option Text)) (word other name : Text) (file : Option Text) (given : Option (Bor Text)) → found ≡ Some (word, file) → found ≡ Some (other, Some name)
    → option_map (λ s. s.now) given ≡ file → IsSome given
is_there found word other name file None at is e = absurd (none-some name (e ∙ ap (option_and_then (λ (p : Text × Option Text). p.1)) (sym at ∙ is)))
is_there found word other name file (Some s) at is e = refl

-- two ways to find one row
pub word_is : (found : Option (Text × Option Text)) (word other : Text) (text name : Option Text) → found ≡ Some (word, text) → found ≡ Some (other, name) → word ≡ other
word_is found word other text name at is = ap (λ (o : Option (Text × Option Text)). unwrap_or (option_map (λ p. p.0) o) word) (sym at ∙ is)

pub operand_is : (found : Option (Text × Option Text)) (word other text name : Text) → found ≡ Some (word, Some text) → found ≡ Some (other, Some name) → text ≡ name
operand_is found word other text name at is = ap (λ (o : Option (Text × Option Text)). unwrap_or (option_and_then (λ (p : Text × Option Text). p.1) o) text) (sym at ∙ is)
