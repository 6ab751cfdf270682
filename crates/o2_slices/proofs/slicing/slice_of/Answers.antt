use Rattle.std.proofs.Common.{ℕ, [], Option, sym, refl, subst, arith}
use Rattle.o2_world.specs.declared.types.State.TheVariants.{Live}
use Rattle.o2_stands.specs.Parts.{Running}
use Rattle.o2_stands.specs.Stands.{Stands}
use Rattle.o2_slices.specs.Slices.{Seat, seat}
use Rattle.o2_space.specs.declared.space.Proc.{Proc}
use Rattle.o2_slices.specs.Laters.{StandsLater}
use Rattle.o2_space.specs.Parts.{running_at}
use Rattle.o2_shared.proofs.Staying.{stay_in_place}
use Rattle.o2_space.proofs.SharedKept.{few_as, shape_grows, shape_shares}
use Rattle.o2_space.proofs.Whole.{whole_same}
use Rattle.o2_space.proofs.Alike.{made, ready_as, set_as}
use Rattle.o2_space.proofs.Commits.{count_put, marked_put, now}
use Rattle.o2_slices.proofs.Laters.{sliced_later}
use Rattle.o2_slices.proofs.Seats.{runs_before, runs_behind, sliced_keeps}
use Rattle.o2_slices.proofs.slicing.slice_of.Goals as goal

pub slice_in_store-done-requires-clause-process : goal.slice_in_store-done-requires-clause-process
slice_in_store-done-requires-clause-process c = (c.requires.some, (let a = c.requires.there in let b = c.requires.together.over.numbers in omega (arith, a, b)))

pub slice_in_store-done-requires-clause-named : goal.slice_in_store-done-requires-clause-named
slice_in_store-done-requires-clause-named c = (c.requires.together.over.ready (λ k. [])).named

pub slice_in_store-done-requires-clause-settled : goal.slice_in_store-done-requires-clause-settled
slice_in_store-done-requires-clause-settled c = (c.requires.together.over.ready (λ k. [])).settled

pub returns-clause-later : goal.returns-clause-later
returns-clause-later c = λ device block s w stands set runs wordless chosen turn budget.
    let m = c.args.space.now in
    let pid = c.args.pid in
    let y : Proc = c.index.result.now in
    let new = c.slice_in_store-done.new in
    let k = c.slice_in_store-done.result in
    let a : Seat = seat m.store m.regions y.cpu in
    let b : Seat = seat new.store new.regions new.cpu in
    let before = runs_before m.procs.items pid c.requires.some c.requires.there y c.index.ensures m.ends c.requires.together.over.marked c.requires.live in
    let behind = runs_behind m.procs.items pid c.requires.some c.requires.there (record { cpu = new.cpu; state = Live }) in
    let within = c.slice_in_store-done.ensures.within in
    subst (λ (f : ℕ → Option Running). StandsLater (made new.store new.regions m.images device block f) s w k) (sym behind)
    (sliced_later pid m.images device block (running_at m.procs.items) s w runs wordless chosen k a b c.slice_in_store-done.ensures.sliced
    (record {
      stands = subst (λ (f : ℕ → Option Running). Stands (made m.store m.regions m.images device block f) w) before stands;
      set = set_as m.store m.regions m.images device block block (running_at m.procs.items) _ s set;
      lawful = c.lawful.ensures;
    })
    (omega (arith, turn, within)) (omega (arith, budget, within)))

pub returns-clause-together : goal.returns-clause-together
returns-clause-together c = λ device together.
    let m = c.args.space.now in
    let pid = c.args.pid in
    let y : Proc = c.index.result.now in
    let new = c.slice_in_store-done.new in
    let x : Proc = record { cpu = new.cpu; state = Live } in
    let keeps = sliced_keeps pid c.slice_in_store-done.result (seat m.store m.regions y.cpu) (seat new.store new.regions new.cpu) c.slice_in_store-done.ensures.sliced in
    record {
      ready = λ block.
          ready_as new.store new.regions m.images device block block (running_at m.procs.items) (running_at (now m.procs.items pid x c.requires.some c.requires.there))
          (keeps.ready m.images device block (running_at m.procs.items) (together.ready block));
      numbers = (let a = together.numbers in let b = count_put m.procs.items pid x c.requires.some c.requires.there in let d = keeps.shape.holds.processes in omega (arith, a, b, d));
      marked = marked_put m.procs.items pid x c.requires.some c.requires.there m.ends together.marked c.requires.live;
      whole = whole_same m.regions new.regions keeps.shape.holds.processes keeps.shape.holds.lengths together.whole;
      one = (shape_shares m.store new.store m.regions new.regions keeps.shape).one together.one;
      places = stay_in_place m.store new.store m.regions new.regions m.names together.places (shape_shares m.store new.store m.regions new.regions keeps.shape) (shape_grows m.store new.store m.regions new.regions keeps.shape);
    }

pub returns-clause-tables : goal.returns-clause-tables
returns-clause-tables c =
    let m = c.args.space.now in
    let y : Proc = c.index.result.now in
    let new = c.slice_in_store-done.new in
    (sliced_keeps c.args.pid c.slice_in_store-done.result (seat m.store m.regions y.cpu) (seat new.store new.regions new.cpu) c.slice_in_store-done.ensures.sliced).shape.tables

pub returns-clause-blocks : goal.returns-clause-blocks
returns-clause-blocks c =
    let m = c.args.space.now in
    let y : Proc = c.index.result.now in
    let new = c.slice_in_store-done.new in
    (sliced_keeps c.args.pid c.slice_in_store-done.result (seat m.store m.regions y.cpu) (seat new.store new.regions new.cpu) c.slice_in_store-done.ensures.sliced).swap

pub returns-clause-keeps : goal.returns-clause-keeps
returns-clause-keeps c =
    let m = c.args.space.now in
    let new = c.slice_in_store-done.new in
    let shape = (sliced_keeps c.args.pid c.slice_in_store-done.result (seat m.store m.regions c.index.result.now.cpu) (seat new.store new.regions new.cpu) c.slice_in_store-done.ensures.sliced).shape in
    record {
      memory = shape.tables.size;
      segments = shape.tables.count;
      blocks = shape.swap;
      count = count_put m.procs.items c.args.pid (record { cpu = new.cpu; state = Live }) c.requires.some c.requires.there;
      processes = shape.holds.processes;
      avail = refl;
      images = refl;
    }

pub returns-clause-adds : goal.returns-clause-adds
returns-clause-adds c =
    let m = c.args.space.now in
    let new = c.slice_in_store-done.new in
    let shape = (sliced_keeps c.args.pid c.slice_in_store-done.result (seat m.store m.regions c.index.result.now.cpu) (seat new.store new.regions new.cpu) c.slice_in_store-done.ensures.sliced).shape in
    record { made = shape.tables.made; held = few_as m.regions new.regions shape.holds.held }
