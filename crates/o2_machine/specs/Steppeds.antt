-- The schedule after a step.
use Rattle.std.specs.Prelude.{ℕ, ◌-◌, Bool, false, slice_set, if◌then◌else◌}
use Rattle.o2_conf.specs.Dispatch.{counted}
use Rattle.o2_sched.specs.Schedule.{Schedule, next_of}

-- one step is counted; a process that doesn't go on has no turn any more
abbrev pub stepped_sched : Schedule → ℕ → (lives : Bool) → Schedule
stepped_sched s number lives = record {
  dispatch = counted (next_of s);
  flags = if lives then s.flags else slice_set s.flags (number - 1) false;
  quantum = s.quantum;
}
