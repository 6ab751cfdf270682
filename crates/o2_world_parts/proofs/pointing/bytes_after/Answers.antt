use Rattle.std.proofs.Common.{ℕ, List, ap, arith, get_or, ◌∙◌}
use Rattle.std.specs.Prelude.{if◌then◌else◌}
use Rattle.o2_isa.specs.Parts.{put_part}
use Rattle.o2_world.specs.Views.{bytes_in, holds_in}
use Rattle.o2_world_parts.proofs.Writing.{behind_more, get_same, written_min}
use Rattle.o2_world_parts.proofs.pointing.bytes_after.Goals as goal

pub loop-k-preserved : goal.loop-k-preserved
loop-k-preserved c =
    let t : ℕ × ℕ = get_or c.args.targets.now c.loop-k.k (0, 0) in
    behind_more (holds_in c.args.held.now) c.args.targets.now c.args.parts.now (bytes_in c.args.names.now) c.args.name c.loop-k.k t c.index-parts-k.result c.loop-k.bytes.items
    c.in_ok-bytes-2.bytes.items c.is_behind-behind.result (omega (arith, c.loop-k-test.true, c.min-count.ensures)) (omega (arith, c.loop-k-test.true, c.min-count.ensures))
    (get_same c.args.targets.now c.loop-k.k (0, 0) t (omega (arith, c.loop-k-test.true, c.min-count.ensures))) c.index-parts-k.is c.loop-k.invariant c.is_behind-behind.ensures
    (c.in_ok-bytes-2.ensures
    ∙ (ap (λ (xs : List ℕ). if c.is_behind-behind.result then put_part xs t.1 c.as_slice-part.result.now else xs) c.deref.ensures.value
    ∙ ap (λ (q : List ℕ). if c.is_behind-behind.result then put_part c.loop-k.bytes.items t.1 q else c.loop-k.bytes.items) c.as_slice-part.ensures))

pub returns : goal.returns
returns c =
    c.loop-k.invariant
    ∙ written_min (holds_in c.args.held.now) c.args.targets.now c.args.parts.now (bytes_in c.args.names.now) c.args.name c.loop-k.k (λ a b. omega (arith, a, b, c.loop-k-test.false, c.min-count.ensures))
