-- The calls of DOSCALLS by the OS/2 1.3 Programmer's Reference, each a row of one table.
use Rattle.std.specs.Prelude.{ℕ, ◌+◌, ◌*◌, ◌==◌, Bool, List, [], ◌∷◌, ◌++◌, length, take, drop, not, codes, if◌then◌else◌, ◌&&◌, ◌||◌, Option, Some, None}
use Rattle.o2_world.specs.declared.types.Argument.TheVariants as shown
use Rattle.o2_world.specs.declared.types.Slot.{Slot}
use Rattle.o2_world.specs.declared.types.Slot.TheVariants.{Word, Long, Reads, Writes, Text, ToWord, ToLong, ToWords, Heap}
use Rattle.o2_world.specs.Map.{get}
use Rattle.o2_world.specs.Rulings.{Ruling, grants, aliasing, allocation, freeing, locking, reallocation, sizing, unlocking}
use Rattle.o2_world.specs.SharedNames.{name_by, text_at}
use Rattle.o2_world.specs.SharedRulings.{getting, giving, naming, sharing}
use Rattle.o2_world.specs.HugeRulings.{huge_allocation, huge_reallocation, huge_shift}
use Rattle.o2_world.specs.HeapRulings.{HeapRuling, giving_back, setting_up, taking}
use Rattle.o2_world.specs.SemRulings.{SemRuling, Becomes, Waiting, Refuses, number_in, requesting, waiting_for}
pub use Rattle.o2_world.specs.CallParts.{Effect, Before, trapped, trap_code, word_of, has_arguments, word_bytes, long_bytes, returned, may_read, may_write}
unfoldable pub use Rattle.o2_world.specs.CallParts.{argument, is_good, range_of, put_at_pointer}
use Rattle.o2_world.specs.Slots.{are_good, may_have_heap, parts_in, pointers_in, values_in}
use Rattle.o2_world.specs.Outcomes.{CallRow, Outcome, Does, Fails, Waits, Leaves, row, ruled, served}

-- The rulings by the words of the call.

-- DosAllocSeg(size, psel, flags)
abbrev pub allocation_by : Before → (ℕ → ℕ) → Ruling
allocation_by b a = allocation b.known b.number (a 3) (a 0)

-- DosReallocSeg(size, sel)
abbrev pub reallocation_by : Before → (ℕ → ℕ) → Ruling
reallocation_by b a = reallocation b.known b.number (a 1) (a 0)

-- DosFreeSeg(sel)
abbrev pub freeing_by : Before → (ℕ → ℕ) → Ruling
freeing_by b a = freeing b.known b.number (a 0) b.cpu

-- DosSizeSeg(sel, psize)
abbrev pub sizing_by : Before → (ℕ → ℕ) → Ruling
sizing_by b a = sizing b.known b.number (a 2)

-- DosLockSeg(sel)
abbrev pub locking_by : Before → (ℕ → ℕ) → Ruling
locking_by b a = locking b.known b.number (a 0)

-- DosUnlockSeg(sel)
abbrev pub unlocking_by : Before → (ℕ → ℕ) → Ruling
unlocking_by b a = unlocking b.known b.number (a 0)

-- DosCreateCSAlias(sel, psel)
abbrev pub aliasing_by : Before → (ℕ → ℕ) → Ruling
aliasing_by b a = aliasing b.known b.number (a 2)

-- DosAllocShrSeg(size, name, psel)
abbrev pub naming_by : Before → (ℕ → ℕ) → Ruling
naming_by b a = naming b.known b.number (a 4) (name_by (text_at b.view (a 3) (a 2)))

-- DosGetShrSeg(name, psel)
abbrev pub sharing_by : Before → (ℕ → ℕ) → Ruling
sharing_by b a = sharing b.known b.number (name_by (text_at b.view (a 3) (a 2)))

-- DosGiveSeg(sel, pid, psel)
abbrev pub giving_by : Before → (ℕ → ℕ) → Ruling
giving_by b a = giving b.known b.number (a 3) (a 2)

-- DosGetSeg(sel)
abbrev pub getting_by : Before → (ℕ → ℕ) → Ruling
getting_by b a = getting b.known b.number (a 0)

-- DosAllocHuge(segs, part, psel, max, flags)
abbrev pub huge_allocation_by : Before → (ℕ → ℕ) → Ruling
huge_allocation_by b a = huge_allocation b.known b.number (a 5) (a 4) (a 1) (a 0)

-- DosReallocHuge(segs, part, sel)
abbrev pub huge_reallocation_by : Before → (ℕ → ℕ) → Ruling
huge_reallocation_by b a = huge_reallocation b.known b.number (a 2) (a 1) (a 0) b.cpu

-- DosGetHugeShift(pshift)
abbrev pub shift_by : Before → (ℕ → ℕ) → Ruling
shift_by b a = grants huge_shift []

-- DosMemAvail(psize): the number that the machine file gives
abbrev pub avail_by : Before → (ℕ → ℕ) → Ruling
avail_by b a = grants b.known.avail []

-- The other calls.

-- DosExit(action, code): the process ends with the code, whatever the action is
abbrev pub exiting : Before → (ℕ → ℕ) → Outcome
exiting b a = Leaves (a 1) (a 0)

-- DosGetPID(pinfo): three words, the process's number, its thread's number 1, and its parent's number, which is 0 for a process of
-- the machine file
abbrev pub pid_bytes : ℕ → List ℕ
pid_bytes number = word_bytes number ++ word_bytes 1 ++ word_bytes 0

abbrev pub telling_pid : Before → (ℕ → ℕ) → Outcome
telling_pid b a = Does (record {
  values = shown.Word b.number ∷ shown.Word 1 ∷ shown.Word 0 ∷ [];
  parts = pid_bytes b.number ∷ [];
  changes = [];
  input = b.input;
  piece = [];
})

-- DosRead(handle, buffer, count, pdone): 6 unless the handle is 0. The next bytes of the input go to the buffer, fewer than count
-- only where the input ends, and then their number is written to pdone.
abbrev pub read_slots : List Slot
read_slots = Word ∷ Writes ∷ Word ∷ ToWord ∷ []

abbrev pub reading : Before → (ℕ → ℕ) → Outcome
reading b a =
    let got = take (a 2) b.input in
    if a 5 == 0
    then Does (record {
      values = shown.Word (length got) ∷ [];
      parts = got ∷ word_bytes (length got) ∷ [];
      changes = [];
      input = drop (a 2) b.input;
      piece = [];
    })
    else Fails 6 (shown.Word 0 ∷ [])

-- DosWrite(handle, buffer, count, pdone): 6 unless the handle is 1 or 2. The bytes go to the console, and their number is written
-- to pdone.
abbrev pub is_console : ℕ → Bool
is_console handle = (handle == 1) || (handle == 2)

abbrev pub writing : Before → (ℕ → ℕ) → Outcome
writing b a =
    if is_console (a 5)
    then Does (record {
      values = shown.Word (a 2) ∷ [];
      parts = word_bytes (a 2) ∷ [];
      changes = [];
      input = b.input;
      piece = range_of b.view.held b.view.bytes (a 4) (a 3) (a 2);
    })
    else Fails 6 (shown.Word (a 2) ∷ [])

-- Heaps inside a segment: the bytes of the segment as far as a heap may reach, whose size is a word that is a multiple of 4.
abbrev pub heap_most : ℕ
heap_most = 65532

abbrev pub heap_bytes : Before → (s : ℕ) → List ℕ
heap_bytes b s = range_of b.view.held b.view.bytes s 0 heap_most

-- The heap comes first among what is written, and then the value. 315 where the selector isn't that of data that can be written.
abbrev pub by_heap : List Slot → Before → HeapRuling → Outcome
by_heap slots b r =
    if r.error == 0
    then Does (record { values = values_in slots r.value; parts = r.bytes ∷ parts_in slots r.value; changes = []; input = b.input; piece = [] })
    else Fails r.error []

abbrev pub on_heap : List Slot → Before → (s : ℕ) → (List ℕ → HeapRuling) → Outcome
on_heap slots b s ruling = if may_have_heap b.view s then by_heap slots b (ruling (heap_bytes b s)) else Fails 315 []

-- DosSubSet(sel, flags, size)
abbrev pub set_slots : List Slot
set_slots = Heap ∷ Word ∷ Word ∷ []

abbrev pub setting_heap : Before → (ℕ → ℕ) → Outcome
setting_heap b a = on_heap set_slots b (a 2) (setting_up (a 1) (a 0))

-- DosSubAlloc(sel, poffset, size)
abbrev pub alloc_slots : List Slot
alloc_slots = Heap ∷ ToWord ∷ Word ∷ []

abbrev pub taking_of_heap : Before → (ℕ → ℕ) → Outcome
taking_of_heap b a = on_heap alloc_slots b (a 3) (taking (a 0))

-- DosSubFree(sel, offset, size)
abbrev pub free_slots : List Slot
free_slots = Heap ∷ Word ∷ Word ∷ []

abbrev pub giving_to_heap : Before → (ℕ → ℕ) → Outcome
giving_to_heap b a = on_heap free_slots b (a 2) (giving_back (a 1) (a 0))

-- RAM semaphores: four bytes anywhere that the caller may write.
abbrev pub semaphore_at : Before → (s offset : ℕ) → ℕ
semaphore_at b s offset = number_in (range_of b.view.held b.view.bytes s offset 4)

-- how a ruling on a semaphore comes out; `written` says what is written of the number behind the call
abbrev pub by_semaphore : (written : ℕ → List (List ℕ)) → Before → SemRuling → Outcome
by_semaphore written b (Becomes number) =
    Does (record { values = []; parts = written number; changes = []; input = b.input; piece = [] })
by_semaphore written b Waiting = Waits
by_semaphore written b (Refuses error) = Fails error []

abbrev pub number_written : ℕ → List (List ℕ)
number_written number = long_bytes number ∷ []

abbrev pub nothing_written : ℕ → List (List ℕ)
nothing_written number = []

-- the timeout of a call, whose words are the last two
abbrev pub timeout_in : (ℕ → ℕ) → ℕ
timeout_in a = a 0 + 65536 * a 1

-- DosSemRequest(psem, timeout) and DosSemWait(psem, timeout)
abbrev pub wanted_slots : List Slot
wanted_slots = ToWords 2 ∷ Long ∷ []

abbrev pub requesting_semaphore : Before → (ℕ → ℕ) → Outcome
requesting_semaphore b a = by_semaphore number_written b (requesting (semaphore_at b (a 3) (a 2)) b.number (timeout_in a))

-- nothing is written by a wait, though its pointer is tested for writing
abbrev pub waiting_for_semaphore : Before → (ℕ → ℕ) → Outcome
waiting_for_semaphore b a = by_semaphore nothing_written b (waiting_for (semaphore_at b (a 3) (a 2)) (timeout_in a))

-- DosSemClear(psem) and DosSemSet(psem)
abbrev pub clearing_semaphore : Before → (ℕ → ℕ) → Outcome
clearing_semaphore b a = by_semaphore number_written b (Becomes 0)

abbrev pub setting_semaphore : Before → (ℕ → ℕ) → Outcome
setting_semaphore b a = by_semaphore number_written b (Becomes 0xFFFF)

-- the rows by the numbers of their services: each service that is built has one
abbrev pub rows : List (ℕ × CallRow)
rows =
    (1, row (codes "DosExit") (Word ∷ Word ∷ []) exiting) ∷
    (2, row (codes "DosGetPID") (ToWords 3 ∷ []) telling_pid) ∷
    (3, row (codes "DosRead") read_slots reading) ∷
    (4, row (codes "DosWrite") (Word ∷ Reads ∷ Word ∷ ToWord ∷ []) writing) ∷
    (5, ruled (codes "DosAllocSeg") (Word ∷ ToWord ∷ Word ∷ []) allocation_by) ∷
    (6, ruled (codes "DosReallocSeg") (Word ∷ Word ∷ []) reallocation_by) ∷
    (7, ruled (codes "DosFreeSeg") (Word ∷ []) freeing_by) ∷
    (8, ruled (codes "DosSizeSeg") (Word ∷ ToLong ∷ []) sizing_by) ∷
    (9, ruled (codes "DosLockSeg") (Word ∷ []) locking_by) ∷
    (10, ruled (codes "DosUnlockSeg") (Word ∷ []) unlocking_by) ∷
    (11, ruled (codes "DosCreateCSAlias") (Word ∷ ToWord ∷ []) aliasing_by) ∷
    (12, ruled (codes "DosAllocShrSeg") (Word ∷ Text ∷ ToWord ∷ []) naming_by) ∷
    (13, ruled (codes "DosGetShrSeg") (Text ∷ ToWord ∷ []) sharing_by) ∷
    (14, ruled (codes "DosGiveSeg") (Word ∷ Word ∷ ToWord ∷ []) giving_by) ∷
    (15, ruled (codes "DosGetSeg") (Word ∷ []) getting_by) ∷
    (16, ruled (codes "DosAllocHuge") (Word ∷ Word ∷ ToWord ∷ Word ∷ Word ∷ []) huge_allocation_by) ∷
    (17, ruled (codes "DosReallocHuge") (Word ∷ Word ∷ Word ∷ []) huge_reallocation_by) ∷
    (18, ruled (codes "DosGetHugeShift") (ToWord ∷ []) shift_by) ∷
    (19, ruled (codes "DosMemAvail") (ToLong ∷ []) avail_by) ∷
    (20, row (codes "DosSubSet") set_slots setting_heap) ∷
    (21, row (codes "DosSubAlloc") alloc_slots taking_of_heap) ∷
    (22, row (codes "DosSubFree") free_slots giving_to_heap) ∷
    (25, row (codes "DosSemRequest") wanted_slots requesting_semaphore) ∷
    (26, row (codes "DosSemClear") (ToWords 2 ∷ []) clearing_semaphore) ∷
    (27, row (codes "DosSemWait") wanted_slots waiting_for_semaphore) ∷
    (28, row (codes "DosSemSet") (ToWords 2 ∷ []) setting_semaphore) ∷
    []

unfoldable pub row_of : (service : ℕ) → Option CallRow
row_of service = get rows service

-- a number without a row is that of no call: its gate names nothing
abbrev pub served_by : Option CallRow → Before → ℕ → Effect
served_by None b next = trapped b 13
served_by (Some r) b next = served r b next

-- the call of a service that comes back to `next`
abbrev pub serviced : Before → ℕ → ℕ → Effect
serviced b service next = served_by (row_of service) b next

-- a DosRead goes to the input: its pointers are good, its handle is 0, and it wants at least one byte
abbrev pub asks_input : Before → (ℕ → ℕ) → Bool
asks_input b a = are_good b.view (pointers_in read_slots b.view a) && ((a 5 == 0) && not (a 2 == 0))

unfoldable pub asks : Before → Bool
asks b = has_arguments b.view b.cpu 6 && asks_input b (argument b.view b.cpu)
