-- Rows of the calls that share segments, as the definitions compute them for two processes of one program, whose data has names.
use Rattle.std.specs.Prelude.{ℕ, false, List, [], ◌∷◌, ◌++◌, codes, drop, map, replicate, get_or}
use Rattle.o2_desc.specs.Bits.{readable_code, writable_data}
use Rattle.o2_world.specs.declared.types.State.TheVariants.{Exited}
use Rattle.o2_world.specs.World.{World, Reserve}
use Rattle.o2_world.specs.Holders.{process_at}
use Rattle.o2_world.specs.Changes.{Finishes, with_all}
use Rattle.o2_world.specs.CallParts.{Before, Effect}
use Rattle.o2_world.specs.Run.{next_dispatch}
use Rattle.o2_world.specs.Views.{bytes_in}
use Rattle.o2_world.specs.Text.{lines_text}
use Rattle.o2_world.specs.Starts.{Loaded, Start, opening_of}
use Rattle.o2_world.specs.Hello.{hello, hello_code, hello_process, hello_setting, opened}
use Rattle.o2_world.specs.SegmentsWorked.{calls, called_at}

-- \sharemem\a at 0, \SHAREMEM\A at 12, \sharemem\ alone at 24, one with a blank at 35, and zeros from 49 on
abbrev pub names_data : List ℕ
names_data =
    92 ∷ codes "sharemem" ++ 92 ∷ codes "a" ++ 0 ∷ 92 ∷ codes "SHAREMEM" ++ 92 ∷ codes "A" ++ 0 ∷ 92 ∷ codes "sharemem" ++ 92 ∷ 0
    ∷ 92 ∷ codes "sharemem" ++ 92 ∷ codes "b c" ++ replicate 16 0

abbrev pub sharer : Loaded
sharer = record hello {
  segments =
      record { index = 1; rights = readable_code; common = false; image = hello_code }
      ∷ record { index = 2; rights = writable_data; common = false; image = names_data }
      ∷ [];
}

abbrev pub sharing_process : Start
sharing_process = record hello_process { program = sharer }

abbrev pub two_sharers : World
two_sharers = opened (opening_of (hello_setting 1000000) [] [] [] (sharing_process ∷ sharing_process ∷ []))

-- a call of a process
abbrev pub call_of : World → ℕ × (Before → Effect) → World
call_of w c = called_at (hello_setting 1000000) w (record (next_dispatch (hello_setting 1000000) w) { current = c.0 }) c.1 (process_at w.processes c.0)

abbrev pub calls_of : World → List (ℕ × (Before → Effect)) → World
calls_of w [] = w
calls_of w (c ∷ cs) = calls_of (call_of w c) cs

-- the lines of calls behind those of the starts
abbrev pub lines_behind : World → List (ℕ × (Before → Effect)) → List ℕ
lines_behind w cs = lines_text (drop 8 (calls_of w cs).lines)

abbrev pub told_by_two : List (ℕ × (Before → Effect)) → List ℕ
told_by_two cs = lines_behind two_sharers cs

-- the first process has ended
abbrev pub one_left : World
one_left = with_all two_sharers (Finishes 1 (Exited 0) ∷ [])

-- the calls by their arguments, with pointers into the data: names by their offsets, and values at 52
abbrev pub names : (size at : ℕ) → Before → Effect
names size at = calls 12 (size ∷ 0x17 ∷ at ∷ 0x17 ∷ 52 ∷ [])

abbrev pub shares : (at : ℕ) → Before → Effect
shares at = calls 13 (0x17 ∷ at ∷ 0x17 ∷ 52 ∷ [])

abbrev pub gives : (selector pid : ℕ) → Before → Effect
gives selector pid = calls 14 (selector ∷ pid ∷ 0x17 ∷ 52 ∷ [])

abbrev pub gets : (selector : ℕ) → Before → Effect
gets selector = calls 15 (selector ∷ [])

-- a byte of a name behind calls
abbrev pub byte_behind : World → List (ℕ × (Before → Effect)) → (name at : ℕ) → ℕ
byte_behind w cs name at = get_or (bytes_in (calls_of w cs).names name) at 256

-- the names of the texts behind calls, and what is reserved: region, first index and number
abbrev pub texts_behind : World → List (ℕ × (Before → Effect)) → List ℕ
texts_behind w cs = map (λ (t : List ℕ × ℕ). t.1) (calls_of w cs).texts

abbrev pub reserves_behind : World → List (ℕ × (Before → Effect)) → List (ℕ × ℕ × ℕ)
reserves_behind w cs = map (λ (r : Reserve). (r.region, r.first, r.count)) (calls_of w cs).reserved
