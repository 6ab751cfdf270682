-- What was fetched, the last first, and over which files that would have come.
use Rattle.std.specs.Prelude.{ℕ, List, [], ◌∷◌, Option}
use Rattle.o2_outer.specs.declared.files.Fetch.{Fetch}
use Rattle.o2_outer.specs.Answers.{Answers}

-- a name, how many bytes were asked for at most, and what came
abbrev pub Fetched : Type 0
Fetched = List ℕ × (ℕ × Fetch)

abbrev pub AreOver : (List ℕ → Option (List ℕ)) → List Fetched → Type 0
AreOver files [] = Unit {0}
AreOver files (f ∷ fs) = Answers files f.0 f.1.0 f.1.1 × AreOver files fs
