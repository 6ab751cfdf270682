-- What holds of every setting that is read.
use Rattle.std.specs.Prelude.{◌≡◌, ℕ, ◌≤◌, ◌%◌, All, length}
use Rattle.o2_conf.specs.declared.conf.Conf.{Conf}
use Rattle.o2_conf.specs.declared.numbers.Numbers.{Numbers}
use Rattle.o2_conf.specs.declared.process.Process.{Process}
use Rattle.o2_conf.specs.Processes.{environment_size}

abbrev pub IsFrom : ℕ → ℕ → ℕ → Type 0
IsFrom low high n = (low ≤ n) × (n ≤ high)

-- the environment of a process fits a segment
abbrev pub HasEnvironment : Process → Type 0
HasEnvironment p = environment_size p.«module» p.arguments p.environment ≤ 65536

pub record NumbersLimits (n : Numbers) : Type 0 where
  pub memory : IsFrom 4096 16777216 n.memory
  pub paragraphs : n.memory % 16 ≡ 0
  pub swap : n.swap ≤ 65536
  pub segments : IsFrom 1 65535 n.segments
  pub budget : n.budget ≤ 4000000000
  pub quantum : IsFrom 1 1000000 n.quantum

pub record IsWithinLimits (c : Conf) : Type 0 where
  pub memory : IsFrom 4096 16777216 c.memory
  pub paragraphs : c.memory % 16 ≡ 0
  pub swap : c.swap ≤ 65536
  pub segments : IsFrom 1 65535 c.segments
  pub budget : c.budget ≤ 4000000000
  pub quantum : IsFrom 1 1000000 c.quantum
  pub modules : IsFrom 1 64 (length c.modules)
  pub process : IsFrom 1 64 (length c.process)
  pub environments : All HasEnvironment c.process
  pub script : length c.script ≤ 100000
