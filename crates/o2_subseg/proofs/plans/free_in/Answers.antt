use Rattle.std.proofs.Common.{◌≡◌, ℕ, Some, option_map, sym, subst, ◌∙◌, arith, rules}
use Rattle.o2_subseg.specs.declared.scan.Seek.TheVariants.{Offset}
use Rattle.o2_world.specs.Heaps.{heap_of}
use Rattle.o2_subseg.specs.Plans.{Plans}
use Rattle.o2_world.specs.HeapRulings.{giving_back}
use Rattle.o2_subseg.specs.Spots.{spot_of}
use Rattle.o2_subseg.proofs.Words.{AreBytes}
use Rattle.o2_subseg.proofs.Planned.{plan_no_range, range_of}
use Rattle.o2_subseg.proofs.plans.free_in.Goals as goal

pub free_at-requires-clause-range : goal.free_at-requires-clause-range
free_at-requires-clause-range c = range_of c.in-Some.range c.args.size c.args.offset c.args.count c.args.spot.size c.in-Some.ensures

pub free_at-requires-clause-rounded : goal.free_at-requires-clause-rounded
free_at-requires-clause-rounded c = c.in-Some.ensures.long ∙ c.requires.rounded

pub free_at-requires-clause-searched : goal.free_at-requires-clause-searched
free_at-requires-clause-searched c =
    let P : ℕ → Type 0 = λ n. Some c.args.spot ≡ option_map (spot_of (Offset n)) (heap_of c.args.bytes.now) in
    subst P (sym c.in-Some.ensures.at) c.requires.searched

pub returns-in-Some : goal.returns-in-Some
returns-in-Some c =
    let P : ℕ → Type 0 = λ n. Plans c.free_at.result (giving_back n c.args.size c.args.bytes.now) c.args.bytes.now in
    subst P c.in-Some.ensures.at c.free_at.ensures

pub returns-in-None : goal.returns-in-None
returns-in-None c =
    let are : AreBytes c.args.bytes.now = record { small = λ k. omega (arith, c.type_inv.bytes k) } in
    plan_no_range _ c.args.bytes.now c.args.offset c.args.size c.args.count (Offset c.args.offset) c.args.spot are c.requires.rounded c.requires.searched c.in-None.ensures
    (search rules) (search rules) (search rules)
