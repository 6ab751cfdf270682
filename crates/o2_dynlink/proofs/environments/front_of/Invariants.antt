use Rattle.std.proofs.Common.{◌≡◌, ◌∷◌, [], ℕ, List, ◌++◌, drop}
use Rattle.std.specs.List.{flat_map}
use Rattle.o2_dynlink.proofs.environments.front_of.Given as goal

abbrev pub invariant-loop-string : goal.invariant-loop-string
invariant-loop-string l =
    l.bytes.items ++ flat_map (λ (s : List ℕ). s ++ 0 ∷ []) (drop l.string-index l.strings) ≡ flat_map (λ (s : List ℕ). s ++ 0 ∷ []) l.strings
