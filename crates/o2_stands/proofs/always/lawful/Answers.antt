use Rattle.std.proofs.Common.{arith}
use Rattle.o2_segbus.proofs.Writings.{inside_is}
use Rattle.o2_stands.proofs.always.lawful.Goals as goal

pub returns : goal.returns
returns c = record {
  shelf = c.law.ensures.shelf;
  inside = inside_is c.args.store.now c.law.ensures.shelf c.law.ensures.within;
  room = (let e = c.law.ensures in omega (arith, e.sum, e.room));
  maps = c.law-2.ensures;
}
