use Rattle.std.proofs.Common.{◌≡◌, ◌++◌, drop, map}
use Rattle.o2_dynlink.specs.Reached.{refers}
use Rattle.o2_dynlink.proofs.reached.columns_of.Given as goal

abbrev pub invariant-loop-library : goal.invariant-loop-library
invariant-loop-library l =
    map (λ c. c.items) l.columns.items ++ map (λ x. map (λ m. refers l.shim m x) l.modules) (drop l.library-index l.modules)
    ≡ map (λ x. map (λ m. refers l.shim m x) l.modules) l.modules
