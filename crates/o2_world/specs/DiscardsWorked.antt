-- Rows of the word `discard`, and of the calls that make anew what it took, as the definitions compute them from the opening of `hello`.
use Rattle.std.specs.Prelude.{ℕ, Bool, true, List, [], ◌∷◌, ◌==◌, if◌then◌else◌, replicate, Option, Some, None}
use Rattle.o2_conf.specs.declared.script.Word.TheVariants.{Slice, Discard}
use Rattle.o2_isa.specs.declared.cpu.Loaded.{Loaded}
use Rattle.o2_isa.specs.declared.cpu.Loaded.TheVariants as loaded
use Rattle.o2_isa.specs.declared.cpu.Purpose.{Purpose}
use Rattle.o2_isa.specs.Steps.{selector}
use Rattle.o2_isa.specs.View.{View, probe_of, rights_at, size_at}
use Rattle.o2_world.specs.World.{World, Process}
use Rattle.o2_world.specs.Holders.{process_at}
use Rattle.o2_world.specs.Views.{bytes_in, view_of, with_bytes}
use Rattle.o2_world.specs.CallParts.{Before, Effect, may_read}
use Rattle.o2_world.specs.Changes.{at_number}
use Rattle.o2_world.specs.Run.{with_word}
use Rattle.o2_world.specs.SegmentsWorked.{after_calls, aliases, allocs, calls, one_process, told_after, two_processes, unlocks}
use Rattle.o2_world.specs.Hello.{hello_world}

-- a segment of 16 bytes under selector 0027, unlocked, with bytes of 7
abbrev pub with_sevens : World → World
with_sevens w = record w { names = with_bytes w.names (λ n. if n == 3 then replicate 16 7 else bytes_in w.names n) }

abbrev pub unlocked : World
unlocked = with_sevens (after_calls one_process (allocs 16 4 ∷ unlocks 0x27 ∷ []))

-- the lines of calls behind a word
abbrev pub told_behind : List (Before → Effect) → List ℕ
told_behind rows = told_after 7 (with_word unlocked) rows

-- the bytes of the segment behind a word and calls
abbrev pub bytes_behind : List (Before → Effect) → List ℕ
bytes_behind rows = bytes_in (after_calls (with_word unlocked) rows).names 3

-- What the first process sees behind the word.

abbrev pub seen_by : {X : Type 0} → X → (View → X) → World → Option Process → X
seen_by none f w None = none
seen_by none f w (Some p) = f (view_of w.names p)

abbrev pub seen_behind : {X : Type 0} → X → (View → X) → X
seen_behind none f = let w = with_word unlocked in seen_by none f w (process_at w.processes 1)

abbrev pub load_behind : Purpose → Loaded
load_behind purpose = seen_behind loaded.Done (λ v. probe_of v purpose (selector 0x27))

abbrev pub size_behind : Option ℕ
size_behind = seen_behind None (λ v. size_at v 0x27)

abbrev pub rights_behind : Option ℕ
rights_behind = seen_behind None (λ v. rights_at v 0x27)

-- whether so many bytes behind it may be read
abbrev pub may_read_behind : (count : ℕ) → Bool
may_read_behind count = seen_behind true (λ v. may_read v 0x27 0 count)

-- Registers that hold it as the word comes.

abbrev pub with_ds : (number ds : ℕ) → World → World
with_ds number ds w = record w { processes = at_number number (λ (p : Process). record p { cpu = record p.cpu { ds = ds } }) w.processes }

abbrev pub with_cs : (number cs : ℕ) → World → World
with_cs number cs w = record w { processes = at_number number (λ (p : Process). record p { cpu = record p.cpu { cs = cs } }) w.processes }

-- the code alias of it, under selector 002F
abbrev pub aliased : World
aliased = after_calls unlocked (aliases 0x27 ∷ [])

-- A segment of 32 bytes with these flags, which two processes share under selector 8007.
abbrev pub given_to_two : (flags : ℕ) → World
given_to_two flags = after_calls two_processes (allocs 32 flags ∷ calls 14 (0x8007 ∷ 2 ∷ 0x17 ∷ 0 ∷ []) ∷ unlocks 0x8007 ∷ [])

-- Words of a script over the whole run of `hello`.
abbrev pub worded_hello : World
worded_hello = let w = hello_world 1000000 in record w { dispatch = record w.dispatch { script = Discard ∷ Slice 9 5 ∷ Discard ∷ Slice 1 4 ∷ Discard ∷ [] } }
