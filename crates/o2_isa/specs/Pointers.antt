-- Pointers that a program hands to a call: a selector, and a range of bytes behind it.
use Rattle.std.specs.Prelude.{◌≡◌, ℕ, ◌+◌, Bool, true, false, ◌&&◌, ◌||◌, ◌==◌, nat_le, if◌then◌else◌, List, [], length, take, drop, Option, Some, None}
use Rattle.o2_isa.specs.declared.cpu.Purpose.TheVariants.{DataReg}
use Rattle.o2_isa.specs.declared.cpu.Loaded.{Loaded}
use Rattle.o2_isa.specs.declared.cpu.Loaded.TheVariants as loaded
use Rattle.o2_isa.specs.Parts.{put_part}
use Rattle.o2_isa.specs.View.{View, Hold, is_readable, is_writable, bound_in, probe_of}
use Rattle.o2_isa.specs.Steps.{selector}

-- the load rules pass, whether or not the segment is present
abbrev pub is_passed : Loaded → Bool
is_passed loaded.Done = true
is_passed (loaded.Miss s) = true
is_passed (loaded.Trap vector code) = false
is_passed (loaded.Gate service) = false

-- the selector may be loaded into ES, where a null one names nothing
abbrev pub is_for_es : View → ℕ → Bool
is_for_es v s = is_passed (probe_of v DataReg (selector s))

-- a range lies in what is held, which has such rights
abbrev pub has_range : (ℕ → List ℕ) → (ℕ → Bool) → (offset count : ℕ) → Option Hold → Bool
has_range bytes ok offset count None = false
has_range bytes ok offset count (Some h) = ok h.rights && nat_le (offset + count) (length (bytes h.name))

-- A pointer is good where its selector may be loaded into ES and isn't null, and its range lies in a segment with the rights.
-- For a range of no bytes neither is looked at.
unfoldable pub is_good : (ℕ → Bool) → View → (s offset count : ℕ) → Bool
is_good ok v s offset count = (count == 0) || (is_for_es v s && has_range v.bytes ok offset count (bound_in v.held s))

abbrev pub may_read : View → (s offset count : ℕ) → Bool
may_read v s offset count = is_good is_readable v s offset count

abbrev pub may_write : View → (s offset count : ℕ) → Bool
may_write v s offset count = is_good is_writable v s offset count

-- The bytes behind a pointer.

abbrev pub range_in : (ℕ → List ℕ) → (offset count : ℕ) → Option Hold → List ℕ
range_in bytes offset count None = []
range_in bytes offset count (Some h) = take count (drop offset (bytes h.name))

unfoldable pub range_of : (ℕ → Option Hold) → (ℕ → List ℕ) → (s offset count : ℕ) → List ℕ
range_of held bytes s offset count = if count == 0 then [] else range_in bytes offset count (bound_in held s)

abbrev pub put_in : (ℕ → List ℕ) → (offset : ℕ) → List ℕ → Option Hold → ℕ → List ℕ
put_in bytes offset part None n = bytes n
put_in bytes offset part (Some h) n = if n == h.name then put_part (bytes n) offset part else bytes n

-- the bytes of all names after a write behind a pointer
unfoldable pub put_at_pointer : (ℕ → Option Hold) → (ℕ → List ℕ) → (s offset : ℕ) → List ℕ → ℕ → List ℕ
put_at_pointer held bytes s offset part = put_in bytes offset part (bound_in held s)

-- The same for a memory where segments may be absent.

-- a range lies in what is held, which is present and has such rights
abbrev pub has_present_range : (ℕ → Bool) → View → (offset count : ℕ) → Option Hold → Bool
has_present_range ok v offset count None = false
has_present_range ok v offset count (Some h) = v.present h.name && (ok h.rights && nat_le (offset + count) (length (v.bytes h.name)))

-- the range behind a selector lies in a segment that is present; one of no bytes is not looked at
unfoldable pub is_ready : (ℕ → Bool) → View → (s offset count : ℕ) → Bool
is_ready ok v s offset count = (count == 0) || has_present_range ok v offset count (bound_in v.held s)

-- the view with a part put behind a pointer
abbrev pub with_part : View → (s offset : ℕ) → List ℕ → View
with_part v s offset part = record v { bytes = put_at_pointer v.held v.bytes s offset part }

-- nothing but bytes has changed
abbrev pub KeepsAllButBytes : View → View → Type 0
KeepsAllButBytes old new = new ≡ record old { bytes = new.bytes }
