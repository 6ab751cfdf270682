-- How many blocks a device in memory has, and what it answers.
use Rattle.std.specs.Prelude.{ℕ, Bool, List, Option, length, if◌then◌else◌, ◌||◌, nat_eq, slice_set, Some, None, false}
use Rattle.o2_outer.specs.declared.sure.SureSwap.{SureSwap}
use Rattle.o2_outer.specs.declared.mem_swap.MemSwap.{MemSwap}
use Rattle.o2_outer.specs.declared.swap.Dev.{Dev}
use Rattle.o2_outer.specs.declared.swap.Dev.TheVariants as dev
use Rattle.o2_outer.specs.Asked.{asked_for}
use Rattle.o2_outer.specs.Planned.{fails_next, next_call}

abbrev pub swap_blocks : SureSwap → ℕ
swap_blocks s = length s.blocks.items

abbrev pub swap_contents : SureSwap → List (List ℕ)
swap_contents s = s.blocks.items

abbrev pub mem_blocks : MemSwap → List (List ℕ)
mem_blocks s = s.blocks.items

-- which blocks it was asked for
abbrev pub mem_asked : MemSwap → List ℕ
mem_asked s = asked_for s.asked.items

-- how many calls there were, and which of them are to fail
abbrev pub mem_calls : MemSwap → ℕ
mem_calls s = s.calls

abbrev pub mem_calls_to_fail : MemSwap → List ℕ
mem_calls_to_fail s = s.fails.items

-- how many writes were tried, and which one is to fail
abbrev pub mem_write_tries : MemSwap → ℕ
mem_write_tries s = s.tries

abbrev pub mem_failing_write : MemSwap → Option ℕ
mem_failing_write s = s.failing_write

-- how many writes were done
abbrev pub mem_writes : MemSwap → ℕ
mem_writes s = s.writes

abbrev pub mem_swap_faults : MemSwap → ℕ
mem_swap_faults s = s.faults

-- a number that is given is this one
abbrev pub is_number : Option ℕ → ℕ → Bool
is_number None n = false
is_number (Some k) n = nat_eq k n

-- whether the next call fails, as a read and as a write
abbrev pub read_fails : MemSwap → Bool
read_fails s = fails_next s.calls s.fails.items

abbrev pub write_fails : MemSwap → Bool
write_fails s = fails_next s.calls s.fails.items || is_number s.failing_write (next_call s.tries)

-- how many writes were done after the next call, a write
abbrev pub writes_after : MemSwap → ℕ
writes_after s = if write_fails s then s.writes else next_call s.writes

abbrev pub device_answer : Bool → Dev
device_answer fails = if fails then dev.Failed else dev.Done

-- the blocks after the next call, a write
abbrev pub blocks_written : MemSwap → ℕ → List ℕ → List (List ℕ)
blocks_written s i from = if write_fails s then s.blocks.items else slice_set s.blocks.items i from
