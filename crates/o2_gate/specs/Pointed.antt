-- What a test of pointers tells.
use Rattle.std.specs.Prelude.{◌≡◌, ℕ, ◌+◌, nat_le, Bool, true, false, not, ◌&&◌, ◌||◌, Option, Some, None, List, [], ◌∷◌, if◌then◌else◌}
use Rattle.o2_base.specs.declared.selector.Selector.{Selector}
use Rattle.o2_isa.specs.View.{View, Hold, Filling, is_readable, is_writable, found}
use Rattle.o2_isa.specs.Presence.{IsMissed, is_in}
use Rattle.o2_isa.specs.Pointers.{is_ready}
use Rattle.o2_world.specs.SharedNames.{text_size}
use Rattle.o2_world.specs.Slots.{Pointer, are_good, is_for_writing}
use Rattle.o2_run.specs.Room.{pointed}
use Rattle.o2_gate.specs.declared.pointer.Pointed.{Pointed}
use Rattle.o2_gate.specs.declared.pointer.Pointed.TheVariants.{Good, Bad, Missed}
use Rattle.o2_gate.specs.Befores.{boundless}

-- a pointer to bytes that are read, or to bytes that are written
abbrev pub pointer : (writes : Bool) → (selector offset count : ℕ) → Pointer
pointer writes s o n = record { selector = s; offset = o; count = n; good = if writes then is_writable else is_readable }

-- a range lies in what a selector names, by its size
abbrev pub lies_within : View → (offset count : ℕ) → Option Hold → Bool
lies_within v offset count None = false
lies_within v offset count (Some h) = nat_le (offset + count) (v.size h.name)

-- a range lies in what the selector names, which can be written where bytes are to be written
abbrev pub allows : (writes : Bool) → View → (s offset count : ℕ) → Bool
allows writes v s offset count = (not writes || is_for_writing (found v s)) && lies_within v offset count (found v s)

abbrev pub are_ready : View → List Pointer → Bool
are_ready v [] = true
are_ready v (p ∷ ps) = is_ready p.good v p.selector p.offset p.count && are_ready v ps

-- each of the names is present
abbrev pub ArePresent : View → List ℕ → Type 0
ArePresent v names = (n : ℕ) → is_in n names ≡ true → v.present n ≡ true

-- Pointers by what is seen: how many bytes one to a text is for is told by the text.

abbrev pub Pointers : Type 0
Pointers = View → List Pointer

abbrev pub only : Pointer → Pointers
only p v = p ∷ []

abbrev pub text_pointer : (selector offset : ℕ) → Pointers
text_pointer s o v = pointer false s o (text_size v s o) ∷ []

-- Over what a bus shows, whatever is in place of what is absent.

pub record IsGoodTest (v : View) (ps : Pointers) : Type 0 where
  pub good : (f : Filling) → are_good (boundless f v) (ps (boundless f v)) ≡ true
  pub ready : (f : Filling) → are_ready v (ps (boundless f v)) ≡ true
  pub names : (f : Filling) → ArePresent v (pointed (boundless f v) (ps (boundless f v)))

pub record IsBadTest (v : View) (ps : Pointers) : Type 0 where
  pub good : (f : Filling) → are_good (boundless f v) (ps (boundless f v)) ≡ false
  pub names : (f : Filling) → ArePresent v (pointed (boundless f v) (ps (boundless f v)))

-- the selector names a segment that isn't present, and wasn't discarded
pub record IsAway (v : View) (s : Selector) : Type 0 where
  pub hold : Hold
  pub found_it : found v s.0 ≡ Some hold
  pub absent : v.present hold.name ≡ false
  pub whole : v.discarded hold.name ≡ false

pub record IsMissedTest (v : View) (s : Selector) (ps : Pointers) : Type 0 where
  pub away : IsAway v s
  pub missed : (f : Filling) → IsMissed v s (pointed (boundless f v) (ps (boundless f v)))

-- the boundless machine's pointers, tested in order over a bus with this view: all are good, one is bad, or a name is missed
-- that has passed
abbrev pub Tells : View → Pointers → Pointed → Type 0
Tells v ps Good = IsGoodTest v ps
Tells v ps Bad = IsBadTest v ps
Tells v ps (Missed s) = IsMissedTest v s ps
