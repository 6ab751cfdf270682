-- Which words are a command.
use Rattle.std.specs.Prelude.{◌≡◌, ◌≢◌, ◌≤◌, ℕ, List, [], ◌∷◌, String, string_bytes, codes, decimal, map}
use Rattle.std.specs.declared.alloc.Global.{Global}
use Rattle.o2_words.specs.declared.words.Verb.{Verb}
use Rattle.o2_words.specs.declared.words.Verb.TheVariants.{Exe, Run, Check, Dump, Bench}

-- the word that stands for what is done
abbrev pub verb_text : Verb → List ℕ
verb_text Exe = codes "exe"
verb_text Run = codes "run"
verb_text Check = codes "check"
verb_text Dump = codes "dump"
verb_text (Bench count) = codes "bench"

-- the name of a file: it isn't empty and doesn't begin with a dash (45)
abbrev pub IsName : List ℕ → Type 0
IsName [] = ⊥
IsName (first ∷ rest) = first ≢ 45

-- a number of processes, 1 to 64, in decimal without leading zeros
pub record IsCount (text : List ℕ) (count : ℕ) : Type 0 where
  pub some : 1 ≤ count
  pub few : count ≤ 64
  pub digits : text ≡ decimal count

-- what stands behind the verb: the number of a bench's processes, and of each other command the name of a file
abbrev pub IsOperand : Verb → List ℕ → Type 0
IsOperand Exe text = IsName text
IsOperand Run text = IsName text
IsOperand Check text = IsName text
IsOperand Dump text = IsName text
IsOperand (Bench count) text = IsCount text count

-- the number in a verb is one that a bench may have
abbrev pub HasCount : Verb → Type 0
HasCount (Bench count) = (1 ≤ count) × (count ≤ 64)
HasCount _ = Unit {0}

-- the words are two, the verb's and its operand
pub record IsCommandFor (words : List (String Global)) (verb : Verb) (operand : List ℕ) : Type 0 where
  pub two : map string_bytes words ≡ verb_text verb ∷ operand ∷ []
  pub is_operand : IsOperand verb operand

abbrev pub IsCommand : List (String Global) → Type 0
IsCommand words = (verb : Verb) × (operand : List ℕ) × IsCommandFor words verb operand
