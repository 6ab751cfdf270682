-- The calls on a heap inside a segment: the test of the heap's selector, and what each is over the segment's bytes.
use Rattle.std.specs.Prelude.{◌≡◌, ℕ, ◌==◌, ◌&&◌, min, Bool, true, false, List, [], ◌∷◌, ◌++◌, nat_le, drop, Option, Some, None, if◌then◌else◌}
use Rattle.o2_base.specs.declared.selector.Selector.{Selector}
use Rattle.o2_isa.specs.View.{View, Filling, is_writable, whole}
use Rattle.o2_isa.specs.Pointers.{is_ready, range_of}
use Rattle.o2_isa.specs.Presence.{IsMissed}
use Rattle.o2_world.specs.declared.types.Slot.{Slot}
use Rattle.o2_world.specs.Calls.{Before, heap_most}
use Rattle.o2_world.specs.Heaps.{put_words}
use Rattle.o2_world.specs.HeapRulings.{HeapRuling, giving_back, setting_up, taking}
use Rattle.o2_world.specs.Outcomes.{Outcome, Does}
use Rattle.o2_world.specs.Slots.{Pointer, may_have_heap, parts_in, pointers_in, values_in, words_in}
use Rattle.o2_subseg.specs.declared.plan.Plan.{Plan}
use Rattle.o2_subseg.specs.Plans.{words_of}
use Rattle.o2_run.specs.Room.{heaped, pointed}
use Rattle.o2_gate.specs.declared.pointer.Pointed.{Pointed}
use Rattle.o2_gate.specs.declared.pointer.Pointed.TheVariants.{Good, Bad, Missed}
use Rattle.o2_gate.specs.Befores.{boundless}
use Rattle.o2_gate.specs.Pointed.{ArePresent, IsAway}

-- the calls on heaps by the numbers of their services
abbrev pub is_heap_call : (service : ℕ) → Bool
is_heap_call service = nat_le 20 service && nat_le service 22

abbrev pub heap_by : (selector : ℕ) → Pointer
heap_by s = record { selector = s; offset = 0; count = 1; good = is_writable }

-- the arguments behind the heap, which is the first one
abbrev pub behind_heap : (service : ℕ) → List Slot → List Slot
behind_heap service slots = if is_heap_call service then drop 1 slots else []

abbrev pub ruling_by : (service : ℕ) → (ℕ → ℕ) → List ℕ → HeapRuling
ruling_by service a bytes =
    if service == 20 then setting_up (a 1) (a 0) bytes
    else if service == 21 then taking (a 0) bytes
    else giving_back (a 1) (a 0) bytes

-- the bytes of a segment, as far as a heap may reach
abbrev pub front_of : Filling → View → (s : ℕ) → List ℕ
front_of f v s = range_of v.held (whole f v).bytes s 0 heap_most

-- how far a heap may reach by the size that a bus tells
abbrev pub reach_of : Option ℕ → ℕ
reach_of None = 1
reach_of (Some size) = min size heap_most

-- a plan as a ruling over the bytes that it was made for
abbrev pub planned : Plan → List ℕ → HeapRuling
planned p bytes = record { error = p.answer.error; value = p.answer.value; bytes = put_words bytes (words_of p) }

-- a ruling that is done: the heap comes first among what is written, and then the value
abbrev pub done_by : List Slot → Before → HeapRuling → Outcome
done_by slots b r =
    Does (record { values = values_in slots r.value; parts = r.bytes ∷ parts_in slots r.value; changes = []; input = b.input; piece = [] })

-- the selector of a call's heap
abbrev pub selector_of : (service : ℕ) → List Slot → (ℕ → ℕ) → ℕ
selector_of service slots a = a (words_in (behind_heap service slots))

-- the names of a call's pointers, and then that of its heap
abbrev pub heap_names : View → List Slot → (ℕ → ℕ) → (selector : ℕ) → List ℕ
heap_names v slots a s = pointed v (pointers_in slots v a) ++ heaped v (heap_by s ∷ [])

-- Over what a bus shows, whatever is in place of what is absent.

-- a heap may lie behind the selector, and its segment is present
pub record IsHeapThere (v : View) (s : ℕ) : Type 0 where
  pub may : (f : Filling) → may_have_heap (boundless f v) s ≡ true
  pub ready : is_ready is_writable v s 0 1 ≡ true
  pub names : (f : Filling) → ArePresent v (heaped (boundless f v) (heap_by s ∷ []))

-- or none lies there
pub record IsNoHeap (v : View) (s : ℕ) : Type 0 where
  pub may : (f : Filling) → may_have_heap (boundless f v) s ≡ false

-- or its segment isn't present
pub record IsHeapMissed (v : View) (s : ℕ) (missed : Selector) : Type 0 where
  pub away : IsAway v missed
  pub named : (f : Filling) → IsMissed v missed (heaped (boundless f v) (heap_by s ∷ []))

abbrev pub TellsHeap : View → (s : ℕ) → Pointed → Type 0
TellsHeap v s Good = IsHeapThere v s
TellsHeap v s Bad = IsNoHeap v s
TellsHeap v s (Missed t) = IsHeapMissed v s t
