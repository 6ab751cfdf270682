use Rattle.std.proofs.Common.{[], refl, subst, sym}
use Rattle.o2_words.specs.Words.{HasCount}
use Rattle.o2_words.specs.declared.words.Verb.{Verb}
use Rattle.o2_open.specs.Names.{AsksFirst, names_in}
use Rattle.o2_open.proofs.Asking.{asks_none, asks_one}
use Rattle.o2_open.proofs.opening.open.Goals as goal

pub open_bench-requires-clause-some : goal.open_bench-requires-clause-some
open_bench-requires-clause-some g c = (subst (λ (v : Verb). HasCount v) c.in-Bench.is c.requires.count).0

pub open_bench-requires-clause-few : goal.open_bench-requires-clause-few
open_bench-requires-clause-few g c = (subst (λ (v : Verb). HasCount v) c.in-Bench.is c.requires.count).1

pub returns-in-Bench-clause-refuses : goal.returns-in-Bench-clause-refuses
returns-in-Bench-clause-refuses g c = c.open_bench.ensures.refuses _

pub returns-in-Exe-clause-asks : goal.returns-in-Exe-clause-asks
returns-in-Exe-clause-asks g c = λ contents h.
    subst (λ (v : Verb). AsksFirst (names_in v contents c.args.name.now) (g.F.Files.asked c.args.files.now) (g.F.Files.asked c.open_exe.new.files)) (sym c.in-Exe.is) (asks_one c.args.name.now [] _ _ c.open_exe.ensures.asks)

pub returns-in-Run-clause-asks : goal.returns-in-Run-clause-asks
returns-in-Run-clause-asks g c = λ contents h.
    subst (λ (v : Verb). AsksFirst (names_in v contents c.args.name.now) (g.F.Files.asked c.args.files.now) (g.F.Files.asked c.open_run.new.files)) (sym c.in-Run.is) (c.open_run.ensures.asks contents h)

pub returns-in-Check-clause-asks : goal.returns-in-Check-clause-asks
returns-in-Check-clause-asks g c = λ contents h.
    subst (λ (v : Verb). AsksFirst (names_in v contents c.args.name.now) (g.F.Files.asked c.args.files.now) (g.F.Files.asked c.open_run-in-Check.new.files)) (sym c.in-Check.is) (c.open_run-in-Check.ensures.asks contents h)

pub returns-in-Dump-clause-asks : goal.returns-in-Dump-clause-asks
returns-in-Dump-clause-asks g c = λ contents h.
    subst (λ (v : Verb). AsksFirst (names_in v contents c.args.name.now) (g.F.Files.asked c.args.files.now) (g.F.Files.asked c.open_run-in-Dump.new.files)) (sym c.in-Dump.is) (c.open_run-in-Dump.ensures.asks contents h)

pub returns-in-Bench-clause-asks : goal.returns-in-Bench-clause-asks
returns-in-Bench-clause-asks g c = λ contents h.
    subst (λ (v : Verb). AsksFirst (names_in v contents c.args.name.now) (g.F.Files.asked c.args.files.now) (g.F.Files.asked c.args.files.now)) (sym c.in-Bench.is) (asks_none _ _ _ refl)
