use Rattle.std.proofs.Common.{arith, subst, ℕ}
use Rattle.o2_compact.specs.Parts.{OpensGap, StayBut}
use Rattle.o2_compact.proofs.Steps.{opens_after, placed_after, at_rank, grown_here, grows_here, stays_reshaped, no_room_behind}
use Rattle.o2_compact.proofs.open_gap.Goals as goal

pub overflow_sub-gap_end : goal.overflow_sub-gap_end
overflow_sub-gap_end c =
    let r = c.in-Some.ensures.some in
    let a = at_rank c.args.places.now c.in-Some.k c.args.id c.range_at-was.result c.law.ensures.layout r.0 r.1 c.range_at-was.ensures in
    omega (arith, a.below, c.gap_end.ensures)

pub reshape-requires-clause-some : goal.reshape-requires-clause-some
reshape-requires-clause-some c =
    let r = c.in-Some.ensures.some in
    let a = at_rank c.args.places.now c.in-Some.k c.args.id c.range_at-was.result c.law.ensures.layout r.0 r.1 c.range_at-was.ensures in
    omega (arith, a.some, a.long, c.requires.longer)

pub reshape-requires-clause-above : goal.reshape-requires-clause-above
reshape-requires-clause-above c =
    let r = c.in-Some.ensures.some in
    (at_rank c.args.places.now c.in-Some.k c.args.id c.range_at-was.result c.law.ensures.layout r.0 r.1 c.range_at-was.ensures).above

pub reshape-requires-clause-below : goal.reshape-requires-clause-below
reshape-requires-clause-below c =
    let r = c.in-Some.ensures.some in
    let a = at_rank c.args.places.now c.in-Some.k c.args.id c.range_at-was.result c.law.ensures.layout r.0 r.1 c.range_at-was.ensures in
    omega (arith, a.below, c.gap_end.ensures, c.if-len-gap_end.true)

pub returns-then-len-gap_end-clause-opens : goal.returns-then-len-gap_end-clause-opens
returns-then-len-gap_end-clause-opens c =
    let r = c.in-Some.ensures.some in
    let a = at_rank c.args.places.now c.in-Some.k c.args.id c.range_at-was.result c.law.ensures.layout r.0 r.1 c.range_at-was.ensures in
    grown_here c.args.phys.now c.args.places.now c.reshape.new.self c.in-Some.k c.args.id c.args.len c.range_at-was.result c.law.ensures.layout r.0 r.1 c.range_at-was.ensures (omega (arith, a.long, c.requires.longer)) c.reshape.ensures.reshaped

pub returns-then-len-gap_end-clause-in_place : goal.returns-then-len-gap_end-clause-in_place
returns-then-len-gap_end-clause-in_place c =
    let r = c.in-Some.ensures.some in
    grows_here c.args.places.now c.reshape.new.self c.in-Some.k c.args.id c.args.len c.range_at-was.result c.law.ensures.layout r.0 r.1 c.range_at-was.ensures c.reshape.ensures.reshaped

pub returns-then-len-gap_end-clause-alone : goal.returns-then-len-gap_end-clause-alone
returns-then-len-gap_end-clause-alone c =
    let r = c.in-Some.ensures.some in
    λ at free. (stays_reshaped c.args.places.now c.reshape.new.self c.in-Some.k c.args.id c.range_at-was.result.at c.args.len c.law.ensures.layout r.0 r.1 c.reshape.ensures.reshaped).1

pub move_away-requires-clause-id : goal.move_away-requires-clause-id
move_away-requires-clause-id c =
    let r = c.in-Some.ensures.some in
    let a = at_rank c.args.places.now c.in-Some.k c.args.id c.range_at-was.result c.law.ensures.layout r.0 r.1 c.range_at-was.ensures in
    omega (arith, a.same, c.requires.id)

pub move_away-requires-clause-placed : goal.move_away-requires-clause-placed
move_away-requires-clause-placed c =
    let r = c.in-Some.ensures.some in
    let a = at_rank c.args.places.now c.in-Some.k c.args.id c.range_at-was.result c.law.ensures.layout r.0 r.1 c.range_at-was.ensures in
    rw a.same a.here

pub move_away-requires-clause-longer : goal.move_away-requires-clause-longer
move_away-requires-clause-longer c =
    let r = c.in-Some.ensures.some in
    let a = at_rank c.args.places.now c.in-Some.k c.args.id c.range_at-was.result c.law.ensures.layout r.0 r.1 c.range_at-was.ensures in
    omega (arith, a.long, c.requires.longer)

pub returns-in-Some-fit-clause-opens : goal.returns-in-Some-fit-clause-opens
returns-in-Some-fit-clause-opens c =
    let r = c.in-Some.ensures.some in
    let a = at_rank c.args.places.now c.in-Some.k c.args.id c.range_at-was.result c.law.ensures.layout r.0 r.1 c.range_at-was.ensures in
    subst (λ (x : ℕ). OpensGap c.args.phys.now c.args.places.now c.move_away.new.phys c.move_away.new.places x c.args.len) a.same c.move_away.ensures.opens

pub returns-in-Some-fit-clause-in_place : goal.returns-in-Some-fit-clause-in_place
returns-in-Some-fit-clause-in_place c =
    let r = c.in-Some.ensures.some in
    let a = at_rank c.args.places.now c.in-Some.k c.args.id c.range_at-was.result c.law.ensures.layout r.0 r.1 c.range_at-was.ensures in
    no_room_behind c.args.places.now c.move_away.new.places c.in-Some.k c.args.id c.args.len c.gap_end.result c.range_at-was.result c.law.ensures.layout r.0 r.1 c.range_at-was.ensures (omega (arith, a.long, c.requires.longer)) c.gap_end.ensures
    (omega (arith, a.below, c.gap_end.ensures, c.if-len-gap_end.false)) c.law.ensures.free c.law.ensures.end

pub returns-in-Some-fit-clause-alone : goal.returns-in-Some-fit-clause-alone
returns-in-Some-fit-clause-alone c =
    let r = c.in-Some.ensures.some in
    let a = at_rank c.args.places.now c.in-Some.k c.args.id c.range_at-was.result c.law.ensures.layout r.0 r.1 c.range_at-was.ensures in
    λ at free. subst (StayBut c.args.places.now c.move_away.new.places) a.same c.move_away.ensures.alone

pub widen-requires-clause-placed : goal.widen-requires-clause-placed
widen-requires-clause-placed c = placed_after c.args.phys.now c.close_up.new.phys c.args.places.now c.close_up.new.places c.args.id c.close_up.ensures.kept c.requires.placed

pub widen-requires-clause-longer : goal.widen-requires-clause-longer
widen-requires-clause-longer c = omega (arith, c.close_up.ensures.kept.lengths c.args.id, c.requires.longer)

pub widen-requires-clause-room : goal.widen-requires-clause-room
widen-requires-clause-room c = let k = c.close_up.ensures.kept in omega (arith, k.lengths c.args.id, c.requires.room, k.load, k.size)

pub returns-clause-opens : goal.returns-clause-opens
returns-clause-opens c = opens_after c.args.phys.now c.close_up.new.phys c.widen.new.phys c.args.places.now c.close_up.new.places c.widen.new.places c.args.id c.args.len c.close_up.ensures.kept c.widen.ensures

pub returns-clause-in_place : goal.returns-clause-in_place
returns-clause-in_place c =
    let r = c.in-Some.ensures.some in
    let a = at_rank c.args.places.now c.in-Some.k c.args.id c.range_at-was.result c.law.ensures.layout r.0 r.1 c.range_at-was.ensures in
    no_room_behind c.args.places.now c.widen.new.places c.in-Some.k c.args.id c.args.len c.gap_end.result c.range_at-was.result c.law.ensures.layout r.0 r.1 c.range_at-was.ensures (omega (arith, a.long, c.requires.longer)) c.gap_end.ensures
    (omega (arith, a.below, c.gap_end.ensures, c.if-len-gap_end.false)) c.law.ensures.free c.law.ensures.end
