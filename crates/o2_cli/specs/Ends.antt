-- What both texts have of a run, its puts and the input that is left, by the command: of `exe` and `run` those of the run itself. A check
-- runs nothing.
use Rattle.std.specs.Prelude.{ℕ, List, Option}
use Rattle.o2_words.specs.declared.words.Verb.{Verb}
use Rattle.o2_words.specs.declared.words.Verb.TheVariants.{Exe, Run, Check, Dump, Bench}
use Rattle.o2_run.specs.Ended.{HasPartRun, HasStoppedTexts, HasWholeRun}
use Rattle.o2_run.specs.Pieces.{Counts}
use Rattle.o2_run.specs.declared.steps.Stop.{Stop}
use Rattle.o2_machine.specs.Lasts.{machine_swaps}
use Rattle.o2_cli.specs.Opening.{Opened}
use Rattle.o2_cli.specs.DumpTexts.{HasDumpPart, HasDumpRun, HasDumpStop}
use Rattle.o2_cli.specs.BenchTexts.{HasBenchPart, HasBenchRun, HasBenchStopped}

-- where all is done, over a device of so many blocks
abbrev pub HasEnd : Verb → (blocks : ℕ) → Opened → (left console_old console_new report_old report_new : Option (List ℕ)) → Counts → Type 0
HasEnd Exe blocks o j c d r q n = HasWholeRun machine_swaps o.setting o.world j c d r q n
HasEnd Run blocks o j c d r q n = HasWholeRun machine_swaps o.setting o.world j c d r q n
HasEnd Check blocks o j c d r q n = ⊥
HasEnd Dump blocks o j c d r q n = HasDumpRun blocks o j c d r q n
HasEnd (Bench count) blocks o j c d r q n = HasBenchRun count o j c d r q n

-- where a sink failed; `fault` says that the last put of the report did
abbrev pub HasPart : Verb → (blocks : ℕ) → Opened → (left console_old console_new report_old report_new : Option (List ℕ)) → (fault : Type 0)
    → Counts → Type 0
HasPart Exe blocks o j c d r q e n = HasPartRun machine_swaps o.setting o.world j c d r q n
HasPart Run blocks o j c d r q e n = HasPartRun machine_swaps o.setting o.world j c d r q n
HasPart Check blocks o j c d r q e n = ⊥
HasPart Dump blocks o j c d r q e n = HasDumpPart blocks o j c d r q e n
HasPart (Bench count) blocks o j c d r q e n = HasBenchPart count o j c d r q n

-- where the run is stopped so, before a step; `fault` says that the last put of the report failed, and the device has so many blocks
abbrev pub HasStop : Verb → (blocks : ℕ) → Opened → Stop → (left console_old console_new report_old report_new : Option (List ℕ)) → (fault : Type 0)
    → Counts → Type 0
HasStop Exe blocks o why j c d r q e n = HasStoppedTexts machine_swaps blocks o.setting o.world why j c d r q e n
HasStop Run blocks o why j c d r q e n = HasStoppedTexts machine_swaps blocks o.setting o.world why j c d r q e n
HasStop Check blocks o why j c d r q e n = ⊥
HasStop Dump blocks o why j c d r q e n = HasDumpStop blocks o why j c d r q e n
HasStop (Bench count) blocks o why j c d r q e n = HasBenchStopped blocks o why j c d r q e n
