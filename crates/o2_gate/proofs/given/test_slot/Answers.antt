use Rattle.std.proofs.Common.{ℕ, ◌+◌, ◌-◌, ◌*◌, true, false, ap}
use Rattle.o2_isa.specs.View.{View}
use Rattle.o2_gate.specs.Given.{word_in}
use Rattle.o2_gate.proofs.Walks.{by_slot, counts}
use Rattle.o2_gate.proofs.given.test_slot.Goals as goal

pub returns-in-Reads-clause-tells : goal.returns-in-Reads-clause-tells
returns-in-Reads-clause-tells g c =
    let v : View = g.B.Bus.view c.args.bus.now in
    let w : ℕ → ℕ = word_in c.args.words.now in
    by_slot v w c.args.place c.args.slot c.in-Reads.is c.test.result
    (counts v false (w (c.args.place + 1)) (w c.args.place) c.count_at-count.result (w (c.args.place - 1)) c.count_at-count.ensures.value c.test.result c.test.ensures.tells)

pub returns-in-Writes-clause-tells : goal.returns-in-Writes-clause-tells
returns-in-Writes-clause-tells g c =
    let v : View = g.B.Bus.view c.args.bus.now in
    let w : ℕ → ℕ = word_in c.args.words.now in
    by_slot v w c.args.place c.args.slot c.in-Writes.is c.test-in-Writes.result
    (counts v true (w (c.args.place + 1)) (w c.args.place) c.count_at-count.result (w (c.args.place - 1)) c.count_at-count.ensures.value c.test-in-Writes.result c.test-in-Writes.ensures.tells)

pub returns-in-ToWord-clause-tells : goal.returns-in-ToWord-clause-tells
returns-in-ToWord-clause-tells g c = by_slot (g.B.Bus.view c.args.bus.now) (word_in c.args.words.now) c.args.place c.args.slot c.in-ToWord.is c.test-in-ToWord.result c.test-in-ToWord.ensures.tells

pub returns-in-ToLong-clause-tells : goal.returns-in-ToLong-clause-tells
returns-in-ToLong-clause-tells g c = by_slot (g.B.Bus.view c.args.bus.now) (word_in c.args.words.now) c.args.place c.args.slot c.in-ToLong.is c.test-in-ToLong.result c.test-in-ToLong.ensures.tells

pub returns-in-ToWords-clause-tells : goal.returns-in-ToWords-clause-tells
returns-in-ToWords-clause-tells g c =
    let v : View = g.B.Bus.view c.args.bus.now in
    let w : ℕ → ℕ = word_in c.args.words.now in
    by_slot v w c.args.place c.args.slot c.in-ToWords.is c.test-in-ToWords.result
    (counts v true (w (c.args.place + 1)) (w c.args.place) (2 * c.from-count.result) (2 * c.in-ToWords.all) (ap (λ (n : ℕ). 2 * n) c.from-count.ensures) c.test-in-ToWords.result c.test-in-ToWords.ensures.tells)
