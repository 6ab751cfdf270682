-- The bytes of a process's environment segment: each string with a zero byte, a zero byte, then the command line: the module's
-- name with a zero byte, and the arguments with two.
use Rattle.std.specs.Prelude.{ℕ, List, [], ◌∷◌, ◌++◌, length, flat_map}
use Rattle.o2_conf.specs.declared.process.Process.{Process}

abbrev pub environment_front : List (List ℕ) → List ℕ
environment_front strings = flat_map (λ (s : List ℕ). s ++ 0 ∷ []) strings ++ 0 ∷ []

abbrev pub environment : List (List ℕ) → List ℕ → List ℕ → List ℕ
environment strings name arguments = environment_front strings ++ name ++ 0 ∷ [] ++ arguments ++ 0 ∷ 0 ∷ []

-- of a process of the machine file
abbrev pub environment_bytes : Process → List ℕ
environment_bytes p = environment p.environment p.«module» p.arguments

-- where its command line begins
abbrev pub command_place : Process → ℕ
command_place p = length (environment_front p.environment)
