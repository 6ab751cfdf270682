-- What a device or files were asked for.
use Rattle.std.specs.Prelude.{List, [], ◌∷◌, ◌++◌}

-- blocks or names in their order, by notes of which the last stands first
abbrev pub asked_for : {A B C : Type 0} → List (A × (B × C)) → List A
asked_for [] = []
asked_for (a ∷ rest) = asked_for rest ++ a.0 ∷ []
