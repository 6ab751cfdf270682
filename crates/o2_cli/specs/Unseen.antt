-- A run whose programs write nowhere: what they write is counted, and the console has something else of it, or nothing.
use Rattle.std.specs.Prelude.{◌≡◌, ℕ, List, [], Option, Some}
use Rattle.o2_world.specs.World.{World}
use Rattle.o2_world.specs.Run.{after, ready}
use Rattle.o2_run.specs.Ended.{HasPartRun, HasStoppedTexts, HasWholeRun}
use Rattle.o2_run.specs.Pieces.{Counts, counts}
use Rattle.o2_run.specs.declared.steps.Stop.{Stop}
use Rattle.o2_machine.specs.Lasts.{machine_swaps}
use Rattle.o2_cli.specs.Opening.{Opened}

-- what the programs wrote, and by how many pieces
pub record Written : Type 0 where
  pub bytes : List ℕ
  pub pieces : ℕ

-- the counts of a run's puts, where the programs' pieces are not the console's
abbrev pub beside : Written → Counts → Counts
beside written n = counts 0 written.pieces n.report_old n.report_new n.ahead

-- nothing is put on the console
pub record IsQuiet (console_old console_new : Option (List ℕ)) (puts : Counts) : Type 0 where
  pub same : console_new ≡ console_old
  pub none_put : puts.console_new ≡ puts.console_old

-- the run is over, and P holds of the world at its end
pub record IsOver (o : Opened) (left report_old report_new : Option (List ℕ)) (puts : Counts) (P : World → Type 0) : Type 0 where
  pub written : Written
  pub run : HasWholeRun machine_swaps o.setting o.world left (Some []) (Some written.bytes) report_old report_new (beside written puts)
  pub behind : P (after o.setting o.world run.texts.last)

-- the report failed in the run
pub record IsPart (o : Opened) (left report_old report_new : Option (List ℕ)) (puts : Counts) : Type 0 where
  pub written : Written
  pub run : HasPartRun machine_swaps o.setting o.world left (Some []) (Some written.bytes) report_old report_new (beside written puts)

-- the run is stopped so, and P holds of the world before the step, behind the words `discard` that come before it
pub record IsStopped (blocks : ℕ) (o : Opened) (why : Stop) (left report_old report_new : Option (List ℕ)) (fault : Type 0) (puts : Counts)
    (P : World → Type 0) : Type 0 where
  pub written : Written
  pub run : HasStoppedTexts machine_swaps blocks o.setting o.world why left (Some []) (Some written.bytes) report_old report_new fault
      (beside written puts)
  pub behind : P (ready (after o.setting o.world run.steps))
