-- Want of memory is told where nothing was put.
use Rattle.std.proofs.Common.{inl, inr, ◌≡◌, ◌<◌, ◌⊎◌, ℕ, arith, ap}
use Rattle.o2_cli.specs.declared.status.Status.{Status}
use Rattle.o2_cli.specs.declared.status.Status.TheVariants as status
use Rattle.o2_cli.specs.Top.{OnUnrun}
use Rattle.o2_cli.specs.Done.{HasMemory}

same_counts : (a b c d : ℕ) → b ≡ a → d ≡ c → (a < b) ⊎ (c < d) → ⊥
same_counts a b c d first second (inl more) = absurd (omega (arith, first, more))
same_counts a b c d first second (inr more) = absurd (omega (arith, second, more))

-- both sinks are as they were where nothing ran
pub memory_first : {X Y : Type 0} (puts : X → ℕ) (pieces : Y → ℕ) (report_old report_new : X) (console_old console_new : Y) (result : Status)
    → OnUnrun result (report_new ≡ report_old) → OnUnrun result (console_new ≡ console_old)
    → (puts report_old < puts report_new) ⊎ (pieces console_old < pieces console_new) → HasMemory result
memory_first puts pieces r q c d status.NoMemory report console more = same_counts (puts r) (puts q) (pieces c) (pieces d) (ap puts report) (ap pieces console) more
memory_first puts pieces r q c d status.Fine report console more = tt
memory_first puts pieces r q c d status.BadWords report console more = tt
memory_first puts pieces r q c d (status.NoFile name) report console more = tt
memory_first puts pieces r q c d (status.BadMachine fault) report console more = tt
memory_first puts pieces r q c d (status.BadModule name fault) report console more = tt
memory_first puts pieces r q c d status.FileFault report console more = tt
memory_first puts pieces r q c d status.InputFault report console more = tt
memory_first puts pieces r q c d status.SinkFault report console more = tt
memory_first puts pieces r q c d status.NoRoom report console more = tt
memory_first puts pieces r q c d status.SwapFull report console more = tt
memory_first puts pieces r q c d status.SwapFault report console more = tt
