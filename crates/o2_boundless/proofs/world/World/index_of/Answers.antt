use Rattle.std.proofs.Common.{◌≡◌, ℕ, ◌+◌, ◌-◌, ap, sym, ◌∙◌, arith}
use Rattle.o2_desc.specs.Choice.{first_open}
use Rattle.o2_world.specs.Known.{Known}
use Rattle.o2_boundless.specs.Shown.{known_by}
use Rattle.o2_boundless.specs.Sharing.{is_no_share}
use Rattle.o2_boundless.proofs.Indexes.{first_open-none}
use Rattle.o2_boundless.proofs.Walks.{share_here, share_next}
use Rattle.o2_boundless.proofs.world.World.index_of.Goals as goal

pub returns-then-is_share-clause-index : goal.returns-then-is_share-clause-index
returns-then-is_share-clause-index c =
    let k : Known = known_by c.args.self.now in
    let i : ℕ = c.loop-index.index in
    sym (c.loop-index.invariant ∙ share_here k c.args.name i (8192 - i) (omega arith) (sym c.in_ok-is_share.ensures ∙ c.if-is_share.true))

pub loop-index-preserved : goal.loop-index-preserved
loop-index-preserved c =
    let k : Known = known_by c.args.self.now in
    let i : ℕ = c.loop-index.index in
    let less : 8192 - i - 1 ≡ 8192 - (i + 1) = omega arith in
    c.loop-index.invariant
    ∙ (share_next k c.args.name i (8192 - i) (omega arith) (sym c.in_ok-is_share.ensures ∙ c.if-is_share.false)
    ∙ ap (λ (n : ℕ). first_open (is_no_share k c.args.name) 1 (i + 1) n) less)

pub returns-clause-index : goal.returns-clause-index
returns-clause-index c =
    let k : Known = known_by c.args.self.now in
    let i : ℕ = c.loop-index.index in
    let none : 8192 - i ≡ 0 = omega arith in
    sym (c.loop-index.invariant ∙ (ap (λ (n : ℕ). first_open (is_no_share k c.args.name) 1 i n) none ∙ first_open-none (is_no_share k c.args.name) 1 i))
