-- What the calls of DOSCALLS that share segments between processes come to, by what is known of the machine. A segment is shared
-- where it stands under an index that all processes share, and is marked so.
use Rattle.std.specs.Prelude.{ℕ, ◌/◌, Bool, true, false, not, List, [], ◌∷◌, ◌++◌, find, if◌then◌else◌, ◌==◌, nat_le, ◌&&◌, ◌||◌, Option, Some, None, is_some}
use Rattle.std.specs.List.{list_any}
use Rattle.o2_base.specs.Selectors.{selector_of}
use Rattle.o2_desc.specs.Bits.{has_bit}
use Rattle.o2_desc.specs.Choice.{chosen}
use Rattle.o2_isa.specs.View.{is_local}
use Rattle.o2_world.specs.World.{Segment, Held, ByCall}
use Rattle.o2_world.specs.Changes.{Change, Makes, Holds, Names}
use Rattle.o2_world.specs.Known.{Known, Marks}
use Rattle.o2_world.specs.Rulings.{Ruling, refusal, grants, by_load, free_index, held_by_call, held_under, indexes, is_later, made_segment, members}

-- the first index that all processes share
abbrev pub shared_from : ℕ
shared_from = 4096

-- the first process that holds an index, by its number
abbrev pub holder : Known → (index : ℕ) → Option ℕ
holder k i = find (λ (n : ℕ). is_some (k.held n i)) (indexes 1 k.processes)

abbrev pub held_by : Known → (index : ℕ) → Option ℕ → Option Held
held_by k i None = None
held_by k i (Some n) = k.held n i

-- Holds that one process gets of what another holds under the same index: one more, by a call.

abbrev pub one_more : (to index : ℕ) → Option Held → List Change
one_more to i None = []
one_more to i (Some h) = Holds to i (record h { holds = 1; cause = ByCall }) ∷ []

abbrev pub each_more : Known → (from to : ℕ) → List ℕ → List Change
each_more k from to [] = []
each_more k from to (i ∷ is) = one_more to i (k.held from i) ++ each_more k from to is

-- Flags: 0 is that of a giveable segment, 1 that of a gettable one.

abbrev pub marks_under : Known → Option Held → Option Marks
marks_under k None = None
marks_under k (Some h) = k.segment h.name

-- of what a call gave alone: what came with a module isn't shared by calls
abbrev pub marks_by_call : Known → Option Held → Option Marks
marks_by_call k None = None
marks_by_call k (Some h) = if by_load h.cause then None else k.segment h.name

abbrev pub is_shared_with : (flag : ℕ) → Option Marks → Bool
is_shared_with flag None = false
is_shared_with flag (Some m) = m.shared && has_bit m.flags flag

-- one of these isn't shared, or hasn't the flag: each member of a run must
abbrev pub lacks_flag : Known → (flag process : ℕ) → List ℕ → Bool
lacks_flag k flag n is = list_any (λ (i : ℕ). not (nat_le shared_from i && is_shared_with flag (marks_by_call k (k.held n i)))) is

-- DosAllocShrSeg(size, name, psel): 123 where the text is no name, 183 where the name lives, 8 where no shared index is free, or no
-- more names may live. A segment of zeros that is shared, without flags, and its name.

abbrev pub shared_segment : (size : ℕ) → Segment
shared_segment size = record (made_segment size 0) { shared = true }

abbrev pub naming_at : Known → (number size : ℕ) → (name : List ℕ) → Option ℕ → Ruling
naming_at k n size name None = refusal 8
naming_at k n size name (Some i) =
    grants (selector_of i) (Makes (shared_segment size) ∷ Holds n i (held_by_call k.next) ∷ Names name k.next ∷ [])

abbrev pub naming : Known → (number size : ℕ) → Option (List ℕ) → Ruling
naming k n size None = refusal 123
naming k n size (Some name) =
    if is_some (k.text name) then refusal 183
    else (if nat_le k.most k.count then refusal 8 else naming_at k n size name (free_index k 0))

-- DosGetShrSeg(name, psel): 123 where the text is no name, 2 where the name doesn't live. The caller holds its segment once more.

abbrev pub is_shared : Option Marks → Bool
is_shared None = false
is_shared (Some m) = m.shared

-- a segment of that name, which is shared
abbrev pub is_share : Known → (name : ℕ) → Option Held → Bool
is_share k q None = false
is_share k q (Some h) = (h.name == q) && is_shared (marks_by_call k (Some h))

-- the shared index of a name
abbrev pub index_of : Known → (name : ℕ) → Option ℕ
index_of k q = chosen (λ (i : ℕ). not (is_share k q (held_by k i (holder k i)))) 4096 8192 1

abbrev pub sharing_from : Known → (number index : ℕ) → Option ℕ → Ruling
sharing_from k n i None = refusal 2
sharing_from k n i (Some from) = grants (selector_of i) (each_more k from n (i ∷ []))

abbrev pub sharing_at : Known → (number : ℕ) → Option ℕ → Ruling
sharing_at k n None = refusal 2
sharing_at k n (Some i) = sharing_from k n i (holder k i)

abbrev pub sharing_of : Known → (number : ℕ) → Option ℕ → Ruling
sharing_of k n None = refusal 2
sharing_of k n (Some q) = sharing_at k n (index_of k q)

abbrev pub sharing : Known → (number : ℕ) → Option (List ℕ) → Ruling
sharing k n None = refusal 123
sharing k n (Some name) = sharing_of k n (k.text name)

-- DosGiveSeg(sel, pid, psel): 5 where sel isn't held, isn't giveable (flag 1), or is in a run but not its first; 303 where pid
-- is no process that lives. A hold more of pid, for each member of a run; its value is the same selector.

abbrev pub giving_of : Known → (number index pid : ℕ) → Option Held → Ruling
giving_of k n i pid None = refusal 5
giving_of k n i pid (Some h) =
    let is = members k n i h in
    if is_later i h || lacks_flag k 0 n is then refusal 5
    else (if k.lives pid then grants (selector_of i) (each_more k n pid is) else refusal 303)

abbrev pub giving : Known → (number selector pid : ℕ) → Ruling
giving k n selector pid = giving_of k n (selector / 8) pid (held_under k n selector)

-- DosGetSeg(sel): 5 where nobody holds a shared segment under that selector, it isn't gettable (flag 2), or it is in a run but not
-- its first. A hold more of the caller, for each member of a run.

abbrev pub getting_from : Known → (number index from : ℕ) → Option Held → Ruling
getting_from k n i from None = refusal 5
getting_from k n i from (Some h) =
    let is = members k from i h in
    if is_later i h || lacks_flag k 1 from is then refusal 5 else grants 0 (each_more k from n is)

abbrev pub getting_at : Known → (number index : ℕ) → Option ℕ → Ruling
getting_at k n i None = refusal 5
getting_at k n i (Some from) = getting_from k n i from (k.held from i)

abbrev pub getting : Known → (number selector : ℕ) → Ruling
getting k n selector = if is_local selector then getting_at k n (selector / 8) (holder k (selector / 8)) else refusal 5
