-- What the start of one process comes to.
use Rattle.std.specs.Prelude.{◌≡◌, ℕ, Result, Ok, Err}
use Rattle.o2_base.specs.declared.memory.Fail.{Fail}
use Rattle.o2_base.specs.declared.memory.Fail.TheVariants.{NoMemory, Bad}
use Rattle.o2_base.specs.declared.faults.ModuleFault.{ModuleFault}
use Rattle.o2_isa.specs.declared.cpu.Cpu.{Cpu}
use Rattle.o2_world.specs.Starts.{Built, Start, first_cpu, holdings, started_as, with_holdings, with_started}
use Rattle.o2_load.specs.Holds.{Names, Stage, IsHolding}

-- the process has started, and all that it holds is held
pub record HasStarted (names : Names) (new : Stage) (most pid : ℕ) (s : Start) (b : Built) (registers : Cpu) : Type 0 where
  pub holds : IsHolding names new most pid (with_holdings b (holdings pid s))
  pub cpu : registers ≡ first_cpu s
  pub starts : started_as most pid s b ≡ Ok (with_started pid s (with_holdings b (holdings pid s)))

-- it has started, or is refused, or there is no memory
abbrev pub StartsAs : Names → Stage → (most pid : ℕ) → Start → Built → Result Cpu (Fail ModuleFault) → Type 0
StartsAs names new most pid s b (Ok cpu) = HasStarted names new most pid s b cpu
StartsAs names new most pid s b (Err (Bad fault)) = started_as most pid s b ≡ Err (pid, fault)
StartsAs names new most pid s b (Err NoMemory) = Unit {0}
