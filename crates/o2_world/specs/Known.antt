-- What the rows of the calls read of the machine beside what the process sees: look-ups alone, so that a world and a machine
-- answer them alike.
use Rattle.std.specs.Prelude.{ℕ, zero, suc, ◌+◌, Bool, true, false, List, [], ◌∷◌, length, if◌then◌else◌, ◌==◌, ◌&&◌, ◌||◌, nat_le, nat_lt, Option, Some, None, option_map, is_some}
use Rattle.std.specs.List.{list_any}
use Rattle.o2_world.specs.Map.{Map, get}
use Rattle.o2_world.specs.World.{World, Setting, Process, Segment, Held, Reserve, is_live}
use Rattle.o2_world.specs.Holders.{process_at}
use Rattle.o2_world.specs.Sound.{held_of}

-- a segment without its bytes
pub record Marks : Type 0 where
  pub size : ℕ
  pub clean : Bool
  pub code : Bool
  pub flags : ℕ
  pub lock : ℕ
  pub shared : Bool
  pub discarded : Bool

pub record Known : Type 0 where
  -- what a process, from 1, holds under an index
  pub held : (process index : ℕ) → Option Held
  pub segment : (name : ℕ) → Option Marks
  -- an index of a process's region, or with 0 of the shared one, is held or reserved
  pub taken : (region index : ℕ) → Bool
  pub text : List ℕ → Option ℕ
  pub lives : (process : ℕ) → Bool
  -- how many processes there are, from 1 on, those that have ended too
  pub processes : ℕ
  -- how many names live, the most that may, and the next
  pub count : ℕ
  pub most : ℕ
  pub next : ℕ
  -- what the machine file gives as free memory
  pub avail : ℕ

abbrev pub marks_of : Segment → Marks
marks_of s = record { size = length s.bytes; clean = s.clean; code = s.code; flags = s.flags; lock = s.lock; shared = s.shared; discarded = s.discarded }

abbrev pub held_at : List Process → ℕ → ℕ → Option Held
held_at ps n i = held_of (process_at ps n) i

abbrev pub holds_index : List Process → ℕ → Bool
holds_index ps i = list_any (λ (p : Process). is_some (get p.held i)) ps

abbrev pub reserves : ℕ → ℕ → Reserve → Bool
reserves region i r = (r.region == region) && (nat_le r.first i && nat_lt i (r.first + r.count))

-- a shared index is reserved for the whole run
abbrev pub is_for_the_run : ℕ → Reserve → Bool
is_for_the_run i r = r.stays && reserves 0 i r

abbrev pub taken_in : World → ℕ → ℕ → Bool
taken_in w region i = (if region == 0 then holds_index w.processes i else is_some (held_at w.processes region i)) || list_any (reserves region i) w.reserved

abbrev pub same_text : List ℕ → List ℕ → Bool
same_text [] [] = true
same_text (x ∷ xs) (y ∷ ys) = (x == y) && same_text xs ys
same_text [] (y ∷ ys) = false
same_text (x ∷ xs) [] = false

abbrev pub text_name : List (List ℕ × ℕ) → List ℕ → Option ℕ
text_name [] text = None
text_name (t ∷ ts) text = if same_text t.0 text then Some t.1 else text_name ts text

abbrev pub lives_at : Option Process → Bool
lives_at None = false
lives_at (Some p) = is_live p.state

-- how many names below n live
unfoldable pub live_below : Map Segment → ℕ → ℕ
live_below names zero = 0
live_below names (suc n) = if is_some (get names n) then live_below names n + 1 else live_below names n

abbrev pub known_of : Setting → World → Known
known_of s w = record {
  held = held_at w.processes;
  segment = λ n. option_map marks_of (get w.names n);
  taken = taken_in w;
  text = text_name w.texts;
  lives = λ n. lives_at (process_at w.processes n);
  processes = length w.processes;
  count = live_below w.names w.next_name;
  most = s.segments;
  next = w.next_name;
  avail = s.avail;
}
