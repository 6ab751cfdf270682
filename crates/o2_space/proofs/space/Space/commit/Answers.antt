use Rattle.std.proofs.Common.{◌≡◌, [], true, false, ap, sym, ◌∙◌, refl, arith}
use Rattle.std.proofs.lemmas.Bool.{false≢true}
use Rattle.o2_world.specs.World.{is_live as lives_on}
use Rattle.o2_space.specs.declared.space.Proc.{Proc}
use Rattle.o2_space.specs.Parts.{parts_in, running_at, running_in}
use Rattle.o2_space.proofs.Whole.{whole_same}
use Rattle.o2_shared.proofs.Staying.{stay_in_place}
use Rattle.o2_space.proofs.SharedKept.{ended_few, ended_lived, ended_shares}
use Rattle.o2_space.proofs.Alike.{ready_as}
use Rattle.o2_space.proofs.Commits.{count_put, marked_end, marked_put, now, parts_put, stands_ended, stands_live}
use Rattle.o2_space.proofs.space.Space.commit.Goals as goal

pub returns-then-not-is_live-clause-stands : goal.returns-then-not-is_live-clause-stands
returns-then-not-is_live-clause-stands c = λ device block ps names next reserved x r stands found live cpu state.
    let m = c.args.self.now in
    let y : Proc = record { cpu = c.args.cpu.now; state = c.args.state } in
    stands_ended m.procs.items c.args.pid y c.requires.process.0 c.requires.there (parts_in m device block) ps names next reserved x r refl stands found cpu (sym state)
    c.end.new.store c.end.new.regions c.end.ensures.behind (ap lives_on state ∙ sym c.if-not-is_live.ensures)

pub returns-else-not-is_live-clause-stands : goal.returns-else-not-is_live-clause-stands
returns-else-not-is_live-clause-stands c = λ device block ps names next reserved x r stands found live cpu state.
    let m = c.args.self.now in
    let y : Proc = record { cpu = c.args.cpu.now; state = c.args.state } in
    stands_live m.procs.items c.args.pid y c.requires.process.0 c.requires.there (parts_in m device block) ps names next reserved x r refl stands found cpu (sym state)
    (ap lives_on state ∙ sym c.if-not-is_live.ensures) live

pub returns-then-not-is_live-clause-together : goal.returns-then-not-is_live-clause-together
returns-then-not-is_live-clause-together c = λ device here together.
    let m = c.args.self.now in
    let y : Proc = record { cpu = c.args.cpu.now; state = c.args.state } in
    let t = c.end.new.store in
    let n = c.end.new.regions in
    let dead : lives_on c.args.state ≡ false = sym c.if-not-is_live.ensures in
    record {
      ready = λ block.
          ready_as t n m.images device block block (running_at m.procs.items) (running_at (now m.procs.items c.args.pid y c.requires.process.0 c.requires.there))
          (c.end.ensures.behind.ready (parts_in m device block) (together.ready block));
      numbers = (let a = together.numbers in let b = count_put m.procs.items c.args.pid y c.requires.process.0 c.requires.there in let d = c.end.ensures.maps.processes in omega (arith, a, b, d));
      marked = marked_end m.procs.items c.args.pid y c.requires.process.0 c.requires.there c.end.new.ends (parts_in m device (λ k. [])) refl
          (c.end.ensures.marked (parts_in m device (λ k. [])) (running_in y) dead together.marked);
      whole = whole_same m.regions n c.end.ensures.maps.processes c.end.ensures.maps.lengths together.whole;
      one = (ended_shares m.store t m.regions n c.args.pid c.end.ensures.maps c.end.ensures.store).one together.one;
      places = stay_in_place m.store t m.regions n m.names together.places (ended_shares m.store t m.regions n c.args.pid c.end.ensures.maps c.end.ensures.store) (let e = c.end.ensures.store.made in omega (arith, e));
    }

pub returns-else-not-is_live-clause-together : goal.returns-else-not-is_live-clause-together
returns-else-not-is_live-clause-together c = λ device here together.
    let m = c.args.self.now in
    let y : Proc = record { cpu = c.args.cpu.now; state = c.args.state } in
    let live : lives_on c.args.state ≡ true = sym c.if-not-is_live.ensures in
    record {
      ready = λ block. ready_as m.store m.regions m.images device block block (running_at m.procs.items) (running_at (now m.procs.items c.args.pid y c.requires.process.0 c.requires.there)) (together.ready block);
      numbers = (let a = together.numbers in let b = count_put m.procs.items c.args.pid y c.requires.process.0 c.requires.there in omega (arith, a, b));
      marked = marked_put m.procs.items c.args.pid y c.requires.process.0 c.requires.there m.ends together.marked (here ∙ sym live);
      whole = together.whole;
      one = together.one;
      places = together.places;
    }

pub returns-then-not-is_live-clause-put : goal.returns-then-not-is_live-clause-put
returns-then-not-is_live-clause-put c = λ live device block. absurd (false≢true (c.if-not-is_live.ensures ∙ live))

pub returns-else-not-is_live-clause-put : goal.returns-else-not-is_live-clause-put
returns-else-not-is_live-clause-put c = λ live device block.
    let m = c.args.self.now in
    parts_put m.procs.items c.args.pid (record { cpu = c.args.cpu.now; state = c.args.state }) c.requires.process.0 c.requires.there (parts_in m device block) refl

pub returns-then-not-is_live-clause-behind : goal.returns-then-not-is_live-clause-behind
returns-then-not-is_live-clause-behind c = record {
  lived = λ id old alive. ended_lived c.args.self.now.store c.end.new.store c.args.self.now.regions c.end.new.regions c.args.pid c.end.ensures.maps c.end.ensures.store id alive;
}

pub returns-else-not-is_live-clause-behind : goal.returns-else-not-is_live-clause-behind
returns-else-not-is_live-clause-behind c = record { lived = λ id old alive. alive }

pub returns-then-not-is_live-clause-unused : goal.returns-then-not-is_live-clause-unused
returns-then-not-is_live-clause-unused c = c.end.ensures.unused

pub returns-else-not-is_live-clause-unused : goal.returns-else-not-is_live-clause-unused
returns-else-not-is_live-clause-unused c = λ none. none

pub returns-then-not-is_live-clause-keeps : goal.returns-then-not-is_live-clause-keeps
returns-then-not-is_live-clause-keeps c =
    let e = c.end.ensures in
    record {
      memory = e.store.size;
      segments = e.store.count;
      blocks = e.store.map;
      count = count_put c.args.self.now.procs.items c.args.pid (record { cpu = c.args.cpu.now; state = c.args.state }) c.requires.process.0 c.requires.there;
      processes = e.maps.processes;
      avail = refl;
      images = refl;
    }

pub returns-else-not-is_live-clause-keeps : goal.returns-else-not-is_live-clause-keeps
returns-else-not-is_live-clause-keeps c = record {
  memory = refl;
  segments = refl;
  blocks = refl;
  count = count_put c.args.self.now.procs.items c.args.pid (record { cpu = c.args.cpu.now; state = c.args.state }) c.requires.process.0 c.requires.there;
  processes = refl;
  avail = refl;
  images = refl;
}

pub returns-then-not-is_live-clause-adds : goal.returns-then-not-is_live-clause-adds
returns-then-not-is_live-clause-adds c =
    let m = c.args.self.now in
    let e = c.end.ensures in
    record { made = e.store.made; held = ended_few m.store c.end.new.store m.regions c.end.new.regions c.args.pid e.maps e.store }

pub returns-else-not-is_live-clause-adds : goal.returns-else-not-is_live-clause-adds
returns-else-not-is_live-clause-adds c = record { made = refl; held = λ k most. most }
