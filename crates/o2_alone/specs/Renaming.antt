-- Other numbers for names. What a step does goes by what its process holds, by the bytes and marks of that, and by which indexes are taken,
-- and not by the numbers that its segments have in the world.
use Rattle.std.specs.Prelude.{◌≡◌, ℕ, ◌+◌, ◌-◌, ◌/◌, ◌%◌, ◌==◌, ◌&&◌, ◌||◌, Bool, true, false, not, if◌then◌else◌, nat_le, nat_lt, List, [], ◌∷◌, length, drop, map, Option, Some, None, option_map, Result, Ok, Err}
use Rattle.o2_isa.specs.declared.cpu.Cpu.{Cpu}
use Rattle.o2_isa.specs.declared.cpu.Stop.{Stop}
use Rattle.o2_isa.specs.declared.cpu.Stop.TheVariants as stop
use Rattle.o2_isa.specs.declared.instr.Sreg.{Sreg}
use Rattle.o2_isa.specs.View.{View, Hold, in_register}
use Rattle.o2_isa.specs.Steps.{State as Machine, state}
use Rattle.o2_isa.specs.Step.{stepped}
use Rattle.o2_world.specs.Map.{get}
use Rattle.o2_world.specs.World.{Held}
use Rattle.o2_world.specs.Changes.{Change, Makes, Resizes, Locks, Marks, Holds, Drops, Finishes, Reserves, Frees, Names}
use Rattle.o2_world.specs.Known.{Known}
use Rattle.o2_world.specs.CallParts.{Before, Effect, argument, has_arguments}
use Rattle.o2_world.specs.Slots.{are_good, pointers_in, words_in}
use Rattle.o2_world.specs.Outcomes.{CallRow}
use Rattle.o2_world.specs.Calls.{row_of}
use Rattle.o2_world.specs.Rulings.{Ruling, held_under, in_use, is_in_run, members}
use Rattle.o2_world.specs.SharedRulings.{shared_from}
use Rattle.o2_world.specs.HugeRulings.{all_bytes, bytes_of, is_first, is_huge_fault, segments_of}

abbrev pub Renaming : Type 0
Renaming = ℕ → ℕ

abbrev pub renamed_hold : Renaming → Hold → Hold
renamed_hold f h = record h { name = f h.name }

abbrev pub renamed_held : Renaming → Held → Held
renamed_held f h = record h { name = f h.name }

-- Views.

-- some index of the map holds it
abbrev pub IsIn : (ℕ → Option Hold) → Hold → Type 0
IsIn held h = (i : ℕ) × (held i ≡ Some h)

-- no two names of the map get one number
abbrev pub KeepsApart : Renaming → (ℕ → Option Hold) → Type 0
KeepsApart f held = (g h : Hold) → IsIn held g → IsIn held h → f g.name ≡ f h.name → g.name ≡ h.name

-- of the names of the map the same bytes
abbrev pub SameBytes : Renaming → (ℕ → Option Hold) → (bytes others : ℕ → List ℕ) → Type 0
SameBytes f held bytes others = (h : Hold) → IsIn held h → others (f h.name) ≡ bytes h.name

-- A view with other numbers for its names: under each selector the same rights, size, marks and bytes. Of names that the process doesn't
-- hold nothing is said, and a segment register holds what the map has.
pub record IsRenamedView (f : Renaming) (v other : View) : Type 0 where
  pub held : (i : ℕ) → other.held i ≡ option_map (renamed_hold f) (v.held i)
  pub gate : (i : ℕ) → other.gate i ≡ v.gate i
  pub registers : (r : Sreg) → in_register other.registers r ≡ option_map (renamed_hold f) (in_register v.registers r)
  pub bound : (r : Sreg) (h : Hold) → in_register v.registers r ≡ Some h → IsIn v.held h
  pub size : (h : Hold) → IsIn v.held h → other.size (f h.name) ≡ v.size h.name
  pub present : (h : Hold) → IsIn v.held h → other.present (f h.name) ≡ v.present h.name
  pub discarded : (h : Hold) → IsIn v.held h → other.discarded (f h.name) ≡ v.discarded h.name
  pub bytes : SameBytes f v.held v.bytes other.bytes
  pub apart : KeepsApart f v.held

-- What a step comes to over both: the same registers and views that are alike again, or the same stop.
pub record IsRenamedState (f : Renaming) (s other : Machine) : Type 0 where
  pub cpu : other.cpu ≡ s.cpu
  pub view : IsRenamedView f s.view other.view

abbrev pub IsRenamedResult : Renaming → Result Machine Stop → Result Machine Stop → Type 0
IsRenamedResult f (Ok s) (Ok other) = IsRenamedState f s other
IsRenamedResult f (Err d) (Err e) = e ≡ d
IsRenamedResult f (Ok s) (Err e) = ⊥
IsRenamedResult f (Err d) (Ok other) = ⊥

-- What is known of the machine.

-- a process holds it under some index
abbrev pub IsHeldBy : Known → (number : ℕ) → Held → Type 0
IsHeldBy k number h = (i : ℕ) × (k.held number i ≡ Some h)

-- Of the process itself the same with other numbers; of other processes and of the region that all share nothing.
pub record IsRenamedKnown (f : Renaming) (number : ℕ) (k other : Known) : Type 0 where
  pub held : (i : ℕ) → other.held number i ≡ option_map (renamed_held f) (k.held number i)
  pub segment : (h : Held) → IsHeldBy k number h → other.segment (f h.name) ≡ k.segment h.name
  pub taken : (i : ℕ) → other.taken number i ≡ k.taken number i
  pub next : other.next ≡ f k.next
  pub avail : other.avail ≡ k.avail

pub record IsRenamed (f : Renaming) (b other : Before) : Type 0 where
  pub number : other.number ≡ b.number
  pub cpu : other.cpu ≡ b.cpu
  pub view : IsRenamedView f b.view other.view
  pub known : IsRenamedKnown f b.number b.known other.known

-- What a call goes by beside that: the input, what other processes hold, the region that all share, and whether so many more segments
-- may live.

-- names that come one after the other are numbered so in both
abbrev pub AreNumberedAlike : Renaming → (k other : Known) → Type 0
AreNumberedAlike f k other = (j : ℕ) → other.next + j ≡ f (k.next + j)

-- so many more segments may not live
abbrev pub is_full_for : (count : ℕ) → Known → Bool
is_full_for count k = nat_lt k.most (k.count + count)

-- by the words of the call
pub record Asking : Type 0 where
  -- the input
  pub input : Bool
  -- what other processes hold, or what they can tell
  pub others : Before → (ℕ → ℕ) → Bool
  -- which indexes of the region that all share are taken
  pub region : (ℕ → ℕ) → Bool
  -- it may make more than one segment
  pub many : Bool
  -- for how many more segments it asks, where all conditions that come first are met
  pub segments : Before → (ℕ → ℕ) → Option ℕ

abbrev pub asks_nothing : Asking
asks_nothing = record { input = false; others = λ b a. false; region = λ a. false; many = false; segments = λ b a. None }

abbrev pub asks_input : Asking
asks_input = record asks_nothing { input = true }

abbrev pub asks_others : Asking
asks_others = record asks_nothing { others = λ b a. true }

abbrev pub some_where : Bool → ℕ → Option ℕ
some_where t n = if t then Some n else None

-- the flags of a segment that can be given or got, which has an index of the region that all share
abbrev pub are_for_others : ℕ → Bool
are_for_others flags = not (flags % 4 == 0)

-- DosAllocSeg: its flags are good
abbrev pub asks_segment : Asking
asks_segment = record asks_nothing { region = λ a. are_for_others (a 0); segments = λ b a. some_where (not (nat_lt 15 (a 0))) 1 }

-- DosAllocHuge: its sizes and its flags are good
abbrev pub asks_run : Asking
asks_run = record asks_nothing {
  region = λ a. are_for_others (a 0);
  many = true;
  segments = λ b a. let m = segments_of (a 5) (a 4) in some_where (not (is_huge_fault m (a 1) (a 0))) m;
}

-- all conditions of a DosReallocHuge are met that come before that question
abbrev pub comes_to_room : Known → (number index segs part : ℕ) → Cpu → Held → Bool
comes_to_room k n i segs part c h =
    let is = members k n i h in
    let m = segments_of segs part in
    is_first i h && (not (m == 0) && (not (nat_lt h.reserved m)
    && not ((nat_le shared_from h.first && nat_lt (bytes_of segs part) (all_bytes k n is)) || in_use c (drop m is))))

-- how many members come to a run
abbrev pub new_in_run : Known → (number index segs part : ℕ) → Cpu → Option Held → Option ℕ
new_in_run k n i segs part c None = None
new_in_run k n i segs part c (Some h) = some_where (comes_to_room k n i segs part c h) (segments_of segs part - length (members k n i h))

-- a run with indexes of the region that all share
abbrev pub is_shared_run : Held → Bool
is_shared_run h = is_in_run h && nat_lt 4096 (h.first + h.reserved)

abbrev pub reaches_shared : Option Held → Bool
reaches_shared None = false
reaches_shared (Some h) = is_shared_run h

-- DosReallocHuge
abbrev pub asks_members : Asking
asks_members = record asks_nothing {
  others = λ b a. reaches_shared (held_under b.known b.number (a 0));
  many = true;
  segments = λ b a. new_in_run b.known b.number (a 0 / 8) (a 2) (a 1) b.cpu (held_under b.known b.number (a 0));
}

-- the services whose calls go by more than what their process holds
abbrev pub askings : List (ℕ × Asking)
askings =
    (3, asks_input) ∷ (5, asks_segment) ∷ (12, asks_others) ∷ (13, asks_others) ∷ (14, asks_others) ∷ (15, asks_others) ∷
    (16, asks_run) ∷ (17, asks_members) ∷ []

abbrev pub asking_by : Option Asking → Asking
asking_by None = asks_nothing
asking_by (Some asking) = asking

unfoldable pub asking_of : (service : ℕ) → Asking
asking_of service = asking_by (get askings service)

-- the words of a row lie in the stack, and its pointers are good
abbrev pub comes_in : Before → Option CallRow → Bool
comes_in b None = false
comes_in b (Some r) = has_arguments b.view b.cpu (words_in r.slots) && are_good b.view (pointers_in r.slots b.view (argument b.view b.cpu))

-- for how many more segments the call of a service asks
abbrev pub asked : Before → (service : ℕ) → Option ℕ
asked b service = if comes_in b (row_of service) then (asking_of service).segments b (argument b.view b.cpu) else None

-- What it goes by is alike. Of a call that goes by what other processes hold nothing is said.
pub record GoesAlike (f : Renaming) (asking : Asking) (a : ℕ → ℕ) (segments : Option ℕ) (b other : Before) : Type 0 where
  pub input : asking.input ≡ true → other.input ≡ b.input
  pub alone : asking.others b a ≡ false
  pub region : asking.region a ≡ true → (i : ℕ) → other.known.taken 0 i ≡ b.known.taken 0 i
  pub names : asking.many ≡ true → AreNumberedAlike f b.known other.known
  pub room : (n : ℕ) → segments ≡ Some n → is_full_for n other.known ≡ is_full_for n b.known

abbrev pub IsCalledAlike : Renaming → (service : ℕ) → Before → Before → Type 0
IsCalledAlike f service b other = GoesAlike f (asking_of service) (argument b.view b.cpu) (asked b service) b other

abbrev pub IsAskedAlike : Renaming → Option ℕ → Before → Before → Type 0
IsAskedAlike f None b other = Unit {0}
IsAskedAlike f (Some service) b other = IsCalledAlike f service b other

-- What calls and steps come to.

abbrev pub called_by : Result Machine Stop → Option ℕ
called_by (Ok s) = None
called_by (Err (stop.Trap vector code)) = None
called_by (Err (stop.Gate service next)) = Some service
called_by (Err (stop.Miss s)) = None

-- the service that a step calls
abbrev pub call_of : Before → Option ℕ
call_of b = called_by (stepped (state b.cpu b.view))

abbrev pub renamed_change : Renaming → Change → Change
renamed_change f (Makes s) = Makes s
renamed_change f (Resizes name size) = Resizes (f name) size
renamed_change f (Locks name count) = Locks (f name) count
renamed_change f (Marks name discarded) = Marks (f name) discarded
renamed_change f (Holds p i h) = Holds p i (renamed_held f h)
renamed_change f (Drops p i count) = Drops p i count
renamed_change f (Finishes p state) = Finishes p state
renamed_change f (Reserves r) = Reserves r
renamed_change f (Frees region first) = Frees region first
renamed_change f (Names text name) = Names text (f name)

abbrev pub renamed_changes : Renaming → List Change → List Change
renamed_changes f cs = map (renamed_change f) cs

abbrev pub renamed_ruling : Renaming → Ruling → Ruling
renamed_ruling f r = record r { changes = renamed_changes f r.changes }

-- what two steps do is the same but for the numbers of names, and for the input that they leave where they had others
pub record IsRenamedEffect (f : Renaming) (b alike : Before) (e other : Effect) : Type 0 where
  pub cpu : other.cpu ≡ e.cpu
  pub state : other.state ≡ e.state
  pub bytes : SameBytes f b.view.held e.bytes other.bytes
  pub changes : other.changes ≡ renamed_changes f e.changes
  pub input : alike.input ≡ b.input → other.input ≡ e.input
  pub piece : other.piece ≡ e.piece
  pub lines : other.lines ≡ e.lines
  pub waits : other.waits ≡ e.waits
