use Rattle.std.proofs.Common.{arith}
use Rattle.std.specs.Prelude.{nat_lt}
use Rattle.o2_ends.proofs.Behind.{behind_all}
use Rattle.o2_ends.proofs.Freed.{frees_all, frees_next, nothing_held}
use Rattle.o2_ends.proofs.Letting.{empty_behind, gone_not, has_before, held_behind, lets_all, lets_more, lets_same, sheds_more, sheds_same}
use Rattle.o2_ends.proofs.Next.{next_is, next_none}
use Rattle.o2_ends.proofs.ending.let_go.Goals as goal

pub let_go_at-requires-clause-index : goal.let_go_at-requires-clause-index
let_go_at-requires-clause-index c = (next_is c.loop-index.regions c.args.pid c.loop-index.from c.in-Some.index c.in-Some.ensures).high

pub let_go_at-requires-clause-some : goal.let_go_at-requires-clause-some
let_go_at-requires-clause-some c = (next_is c.loop-index.regions c.args.pid c.loop-index.from c.in-Some.index c.in-Some.ensures).some

pub overflow_add-from : goal.overflow_add-from
overflow_add-from c = (let n = (next_is c.loop-index.regions c.args.pid c.loop-index.from c.in-Some.index c.in-Some.ensures).high in omega (arith, n))

pub loop-index-smaller : goal.loop-index-smaller
loop-index-smaller c = (let n = next_is c.loop-index.regions c.args.pid c.loop-index.from c.in-Some.index c.in-Some.ensures in omega (arith, n.low, n.high))

pub loop-index-preserved : goal.loop-index-preserved
loop-index-preserved c =
    let l = c.args.regions.now in
    let m = c.loop-index.regions in
    let n = c.let_go_at.new.regions in
    let i = c.loop-index.invariant in
    let e = c.let_go_at.ensures in
    let pid = c.args.pid in
    let at = c.in-Some.index in
    let x = next_is m pid c.loop-index.from at c.in-Some.ensures in
    let p = i.process in
    let q = e.maps.processes in
    record {
      process = (p.0, (let a = p.1 in omega (arith, a, q)));
      low = omega (arith, x.high);
      maps = lets_more l m n pid c.loop-index.from at x.low x.clear i.bare i.maps e.maps;
      frees = frees_next l m n pid c.loop-index.from at x.low x.high x.some x.clear i.maps e.maps i.frees e.frees;
      store = sheds_more c.args.store.now c.loop-index.store c.let_go_at.new.store l m n
          (gone_not l m pid (λ j. nat_lt j c.loop-index.from) i.maps) (has_before m n pid _ e.maps) i.store e.store;
      unused = λ none. e.unused (i.unused none);
      held = held_behind c.loop-index.store c.let_go_at.new.store m n pid _ i.held e.maps e.store;
      bare = empty_behind m n pid _ i.bare e.maps;
    }

pub release_own-requires-clause-none : goal.release_own-requires-clause-none
release_own-requires-clause-none c =
    let i = c.loop-index.invariant in
    nothing_held c.args.regions.now c.loop-index.regions c.args.pid
    (lets_all c.args.regions.now c.loop-index.regions c.args.pid c.loop-index.from (next_none c.loop-index.regions c.args.pid c.loop-index.from c.in_default.ensures) i.bare i.maps)

pub returns-clause-maps : goal.returns-clause-maps
returns-clause-maps c =
    let i = c.loop-index.invariant in
    lets_same c.args.regions.now c.loop-index.regions c.release_own.new.regions c.args.pid _ c.release_own.ensures.maps
    (lets_all c.args.regions.now c.loop-index.regions c.args.pid c.loop-index.from (next_none c.loop-index.regions c.args.pid c.loop-index.from c.in_default.ensures) i.bare i.maps)

pub returns-clause-frees : goal.returns-clause-frees
returns-clause-frees c =
    let i = c.loop-index.invariant in
    frees_all c.args.regions.now c.loop-index.regions c.release_own.new.regions c.args.pid c.loop-index.from
    (next_none c.loop-index.regions c.args.pid c.loop-index.from c.in_default.ensures) i.maps i.frees c.release_own.ensures

pub returns-clause-store : goal.returns-clause-store
returns-clause-store c = sheds_same c.args.store.now c.loop-index.store c.args.regions.now c.loop-index.regions c.release_own.new.regions c.release_own.ensures.maps c.loop-index.invariant.store

pub returns-clause-behind : goal.returns-clause-behind
returns-clause-behind c =
    let i = c.loop-index.invariant in
    let l = c.args.regions.now in
    let m = c.loop-index.regions in
    let n = c.release_own.new.regions in
    let none = next_none m c.args.pid c.loop-index.from c.in_default.ensures in
    behind_all c.args.store.now l c.loop-index.store n c.args.pid c.law.ensures.shelf c.law-2.ensures c.law-3.ensures
    (lets_same l m n c.args.pid _ c.release_own.ensures.maps (lets_all l m c.args.pid c.loop-index.from none i.bare i.maps))
    (sheds_same c.args.store.now c.loop-index.store l m n c.release_own.ensures.maps i.store)
    (frees_all l m n c.args.pid c.loop-index.from none i.maps i.frees c.release_own.ensures)
