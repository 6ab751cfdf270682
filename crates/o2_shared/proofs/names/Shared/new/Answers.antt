use Rattle.std.proofs.Common.{◌≡◌, ℕ, None, Option, replicate, ap, ◌∙◌, arith}
use Rattle.o2_shared.specs.declared.names.Name.{Name}
use Rattle.o2_shared.proofs.names.Shared.new.Goals as goal

pub returns : goal.returns
returns c = (let all : c.loop.counter ≡ 4096 = omega arith in c.loop.invariant.so_far ∙ ap (λ (n : ℕ). replicate {A = Option Name} n None) all)
