-- What `clap` does with the words of a command.
use Rattle.std.proofs.Common.{◌≡◌, ℕ, [], ◌∷◌, Some, None, arith, true, false, refl}
use Rattle.std.proofs.lemmas.Grind.{common_steps}
use Rattle.std.specs.Prelude.{◌==◌}
use Rattle.std.specs.Str.{bytes_eq}
use Rattle.clap.specs.Lexer.{long_of, short_of}
use Rattle.clap.specs.Words.{Text, is_simple, subcommand_of, takes}
use Rattle.clap.proofs.OnLiterals.{clap_on_literals}
use Rattle.o2_words.specs.Grammar.{operand_in, program_app}
use Rattle.o2_words.proofs.Verbs.{count_is_name}
use Rattle.o2_words.specs.Words.{IsName, IsOperand, verb_text}
use Rattle.o2_words.specs.declared.words.Verb.{Verb}
use Rattle.o2_words.specs.declared.words.Verb.TheVariants.{Exe, Run, Check, Dump, Bench}

pub simple : is_simple program_app ≡ true
unfolding clap_on_literals
simple = refl

-- the word is no `--`, no long option and no short one
pub record IsPlain (name : Text) : Type 0 where
  pub dashes : bytes_eq name (45 ∷ 45 ∷ []) ≡ false
  pub long : long_of name ≡ None
  pub short : short_of name ≡ None

plain_first : (x : ℕ) (xs : Text) → (x == 45) ≡ false → IsPlain (x ∷ xs)
plain_first x xs e = record { dashes = rw e refl; long = rw e refl; short = rw e refl }

pub plain : (name : Text) → IsName name → IsPlain name
plain [] h = absurd h
plain (x ∷ xs) h = plain_first x xs (grind (arith, common_steps))

-- and so is each operand: a number begins with a digit
pub plain_operand : (verb : Verb) (text : Text) → IsOperand verb text → IsPlain text
plain_operand Exe text h = plain text h
plain_operand Run text h = plain text h
plain_operand Check text h = plain text h
plain_operand Dump text h = plain text h
plain_operand (Bench count) text h = plain text (count_is_name text count h)

pub taken : (verb : Verb) (name : Text) → IsPlain name → takes program_app (verb_text verb ∷ name ∷ []) ≡ true
unfolding clap_on_literals
taken Exe name p = rw (p.dashes, p.long, p.short) refl
taken Run name p = rw (p.dashes, p.long, p.short) refl
taken Check name p = rw (p.dashes, p.long, p.short) refl
taken Dump name p = rw (p.dashes, p.long, p.short) refl
taken (Bench count) name p = rw (p.dashes, p.long, p.short) refl

pub operand_met : (verb : Verb) (name : Text) → IsPlain name → operand_in (subcommand_of program_app (verb_text verb ∷ name ∷ [])) ≡ Some (verb_text verb, Some name)
unfolding clap_on_literals
operand_met Exe name p = rw (p.dashes, p.long, p.short) refl
operand_met Run name p = rw (p.dashes, p.long, p.short) refl
operand_met Check name p = rw (p.dashes, p.long, p.short) refl
operand_met Dump name p = rw (p.dashes, p.long, p.short) refl
operand_met (Bench count) name p = rw (p.dashes, p.long, p.short) refl
