-- Which files a command asks for.
use Rattle.std.specs.Prelude.{◌≡◌, ℕ, ◌++◌, ◌∷◌, [], List, take, Result, Ok, Err}
use Rattle.o2_words.specs.declared.words.Verb.{Verb}
use Rattle.o2_words.specs.declared.words.Verb.TheVariants.{Exe, Run, Check, Dump, Bench}
use Rattle.o2_conf.specs.declared.conf.Conf.{Conf}
use Rattle.o2_open.specs.declared.fault.OpenFault.{OpenFault}
use Rattle.o2_open.specs.Loads.{Contents, machine_in}

-- the modules that a machine file lists; none where it is refused
abbrev pub listed : Result Conf OpenFault → List (List ℕ)
listed (Ok c) = c.modules
listed (Err e) = []

-- the operand, and where it is a machine file the modules that it lists; a bench has no file
abbrev pub names_in : Verb → Contents → (operand : List ℕ) → List (List ℕ)
names_in Exe contents operand = operand ∷ []
names_in Run contents operand = operand ∷ listed (machine_in contents operand)
names_in Check contents operand = operand ∷ listed (machine_in contents operand)
names_in Dump contents operand = operand ∷ listed (machine_in contents operand)
names_in (Bench count) contents operand = []

-- the first ones of these names are asked for, in their order, each once, and no other
pub record AsksFirst (names before after : List (List ℕ)) : Type 0 where
  pub count : ℕ
  pub asked : after ≡ before ++ take count names
