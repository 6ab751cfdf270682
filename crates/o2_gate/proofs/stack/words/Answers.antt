use Rattle.std.proofs.Common.{arith}
use Rattle.std.proofs.lemmas.Grind.{common_steps}
use Rattle.o2_isa.specs.View.{View}
use Rattle.o2_gate.specs.Befores.{boundless}
use Rattle.o2_gate.proofs.Words.{has_more, no_word, same_more, word_there}
use Rattle.o2_gate.proofs.stack.words.Goals as goal

pub returns-in-None : goal.returns-in-None
returns-in-None g c = λ f bound. no_word (boundless f (g.B.Bus.view c.args.bus.now)) c.args.cpu.now c.args.count c.loop-i.i c.word.result c.loop-i-test.true (c.word.ensures f bound) c.in-None.is

pub loop-i-preserved : goal.loop-i-preserved
loop-i-preserved g c = record {
  has = λ f bound. let v : View = boundless f (g.B.Bus.view c.args.bus.now) in
      has_more v c.args.cpu.now c.loop-i.i c.in-Some.word (c.loop-i.invariant.has f bound) (word_there v c.args.cpu.now c.loop-i.i c.in-Some.word c.word.result (c.word.ensures f bound) c.in-Some.is);
  same = λ f bound. let v : View = boundless f (g.B.Bus.view c.args.bus.now) in
      same_more v c.args.cpu.now c.loop-i.words c.loop-i.i c.in-Some.word (let a = c.loop-i.invariant.size in let b = c.loop-i-test.true in let d = c.requires in omega (arith, a, b, d)) (c.loop-i.invariant.same f bound)
      (word_there v c.args.cpu.now c.loop-i.i c.in-Some.word c.word.result (c.word.ensures f bound) c.in-Some.is);
  size = grind (arith, common_steps, c.loop-i.invariant.size);
}
