use Rattle.std.proofs.Common.{◌≡◌, ◌++◌, drop, map}
use Rattle.o2_dynlink.specs.Reached.{libraries_of}
use Rattle.o2_dynlink.proofs.reached.libraries_of_all.Given as goal

abbrev pub invariant-loop-place : goal.invariant-loop-place
invariant-loop-place l =
    map (λ v. v.items) l.lists.items ++ map (libraries_of l.shim l.modules) (drop l.place-index l.places) ≡ map (libraries_of l.shim l.modules) l.places
