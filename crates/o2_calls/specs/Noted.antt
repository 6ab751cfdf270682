-- What came to processes by a call, or went from them, by what they hold before it and behind it.
use Rattle.std.specs.Prelude.{◌≡◌, ℕ, zero, suc, ◌+◌, ◌-◌, ◌/◌, ◌==◌, nat_le, nat_lt, Bool, true, false, List, [], ◌∷◌, flat_map, if◌then◌else◌, Option, Some, None}
use Rattle.std.specs.List.{list_all}
use Rattle.o2_isa.specs.View.{is_local}
use Rattle.o2_regions.specs.declared.answer.Roomed.{Roomed}
use Rattle.o2_regions.specs.declared.answer.Roomed.TheVariants.{Done, NoRoom, SwapFull, SwapFault}
use Rattle.o2_regions.specs.declared.held.Held.{Held}
use Rattle.o2_regions.specs.Maps.{Maps, end_of, held_at, region_of}
use Rattle.o2_world.specs.Changes.{Change, moved_lines}
use Rattle.o2_world.specs.HugeRulings.{segments_of}
use Rattle.o2_world.specs.Rulings.{indexes}
use Rattle.o2_world.specs.SharedRulings.{shared_from}
use Rattle.o2_gate.specs.declared.requests.SegmentArguments.{SegmentArguments}
use Rattle.o2_gate.specs.declared.requests.SegmentArguments.TheVariants.{Alloc, Realloc, Free, Size, Lock, Unlock, Alias, Shared, Huge}
use Rattle.o2_gate.specs.declared.requests.HugeArguments.{HugeArguments}
use Rattle.o2_gate.specs.declared.requests.HugeArguments.TheVariants as huge
use Rattle.o2_gate.specs.declared.moves.Block.{Block}
use Rattle.o2_gate.specs.MovedLines.{AreInside, all_lines}
use Rattle.o2_gate.specs.declared.requests.SharedArguments.{SharedArguments}
use Rattle.o2_gate.specs.declared.requests.SharedArguments.TheVariants as shared
use Rattle.o2_huge.specs.Growth.{is_of_run}
use Rattle.o2_huge.specs.Resized.{is_member_in}
use Rattle.o2_calls.specs.declared.noting.Counted.{Counted}

-- how many members of a run a process holds from an index on, one behind the other, of so many indexes
abbrev pub members_from : Maps → (pid first index count : ℕ) → ℕ
members_from m pid first i zero = 0
members_from m pid first i (suc n) = if is_member_in m pid first i then suc (members_from m pid first (i + 1) n) else 0

-- how many indexes a call names by one that is held: those of a run, or that of a segment alone; and how often it is held
abbrev pub counted_there : Maps → (pid index : ℕ) → Option Held → Counted
counted_there m pid i None = record { members = 0; holds = 0 }
counted_there m pid i (Some h) = record {
  members = if is_of_run i h then members_from m pid i i (end_of (region_of pid i) - i) else 1;
  holds = h.holds;
}

abbrev pub counted_under : Maps → (pid selector : ℕ) → Counted
counted_under m pid s = counted_there m pid (s / 8) (if is_local s then held_at m pid (s / 8) else None)

-- of a call that frees, gives, or sizes a run
abbrev pub counted_by : SegmentArguments → Maps → (pid : ℕ) → Counted
counted_by (Alloc size flags) m pid = record { members = 0; holds = 0 }
counted_by (Realloc size selector) m pid = record { members = 0; holds = 0 }
counted_by (Free selector) m pid = counted_under m pid selector
counted_by (Size selector) m pid = record { members = 0; holds = 0 }
counted_by (Lock selector) m pid = record { members = 0; holds = 0 }
counted_by (Unlock selector) m pid = record { members = 0; holds = 0 }
counted_by (Alias selector) m pid = record { members = 0; holds = 0 }
counted_by (Shared (shared.Name size t)) m pid = record { members = 0; holds = 0 }
counted_by (Shared (shared.Share t)) m pid = record { members = 0; holds = 0 }
counted_by (Shared (shared.Give selector to)) m pid = counted_under m pid selector
counted_by (Shared (shared.Get selector)) m pid = record { members = 0; holds = 0 }
counted_by (Huge (huge.Alloc segs part most flags)) m pid = record { members = 0; holds = 0 }
counted_by (Huge (huge.Realloc segs part selector)) m pid = counted_under m pid selector
counted_by (Huge huge.Shift) m pid = record { members = 0; holds = 0 }

abbrev pub came : (process index count holds : ℕ) → Block
came p i n h = record { process = p; index = i; count = n; holds = h; came = true }

abbrev pub went : (process index count holds : ℕ) → Block
went p i n h = record { process = p; index = i; count = n; holds = h; came = false }

-- new members of a run, for a process that holds its first one
abbrev pub share_block : (first index count process : ℕ) → Option Held → List Block
share_block first i n q None = []
share_block first i n q (Some h) = if is_of_run first h then came q i n h.holds ∷ [] else []

-- the caller alone has a run below the shared indexes, and others may hold one there
abbrev pub grown : Maps → (pid first index count holds : ℕ) → List Block
grown m pid first i n holds =
    if nat_lt first shared_from
    then came pid i n holds ∷ []
    else flat_map (λ (q : ℕ). share_block first i n q (held_at m q first)) (indexes 1 m.processes)

-- a run of so many members that is to have so many
abbrev pub sized_blocks : Maps → (pid first : ℕ) → Counted → (wanted : ℕ) → List Block
sized_blocks m pid first c wanted =
    if nat_lt c.members wanted
    then grown m pid first (first + c.members) (wanted - c.members) c.holds
    else (if nat_lt wanted c.members then went pid (first + wanted) (c.members - wanted) c.holds ∷ [] else [])

abbrev pub shared_blocks : SharedArguments → (pid : ℕ) → Counted → Maps → (value : ℕ) → List Block
shared_blocks (shared.Name size t) pid c n value = came pid (value / 8) 1 1 ∷ []
shared_blocks (shared.Share t) pid c n value = came pid (value / 8) 1 1 ∷ []
shared_blocks (shared.Give selector to) pid c n value = came to (selector / 8) c.members 1 ∷ []
shared_blocks (shared.Get selector) pid c n value = came pid (selector / 8) (counted_under n pid selector).members 1 ∷ []

abbrev pub huge_blocks : HugeArguments → (pid : ℕ) → Counted → Maps → (value : ℕ) → List Block
huge_blocks (huge.Alloc segs part most flags) pid c n value = came pid (value / 8) (segments_of segs part) 1 ∷ []
huge_blocks (huge.Realloc segs part selector) pid c n value = sized_blocks n pid (selector / 8) c (segments_of segs part)
huge_blocks huge.Shift pid c n value = []

-- what a call that came to no error did, by what was counted before it and what is held behind it
abbrev pub blocks_of : SegmentArguments → (pid : ℕ) → Counted → Maps → (value : ℕ) → List Block
blocks_of (Alloc size flags) pid c n value = came pid (value / 8) 1 1 ∷ []
blocks_of (Realloc size selector) pid c n value = []
blocks_of (Free selector) pid c n value = went pid (selector / 8) c.members 1 ∷ []
blocks_of (Size selector) pid c n value = []
blocks_of (Lock selector) pid c n value = []
blocks_of (Unlock selector) pid c n value = []
blocks_of (Alias selector) pid c n value = came pid (value / 8) 1 1 ∷ []
blocks_of (Shared a) pid c n value = shared_blocks a pid c n value
blocks_of (Huge a) pid c n value = huge_blocks a pid c n value

-- the indexes of a table alone have lines
abbrev pub is_inside : Block → Bool
is_inside b = nat_le (b.index + b.count) 8192

abbrev pub in_table : List Block → List Block
in_table bs = if list_all is_inside bs then bs else []

-- and at an error or a stop nothing came and nothing went
abbrev pub noted : SegmentArguments → (pid : ℕ) → Counted → Maps → Roomed → List Block
noted a pid c n (Done x) = if x.error == 0 then in_table (blocks_of a pid c n x.value) else []
noted a pid c n NoRoom = []
noted a pid c n SwapFull = []
noted a pid c n SwapFault = []

-- What was noted has the lines of these changes of the call of this name, and lies in the table.
pub record AreTold (cause : List ℕ) (bs : List Block) (cs : List Change) : Type 0 where
  pub lines : all_lines cause bs ≡ moved_lines cause cs
  pub inside : AreInside bs
