-- A call of DOSCALLS is a row: its name, its slots, and how it comes out. All that goes for every call is said here once, over a row.
use Rattle.std.specs.Prelude.{ℕ, ◌==◌, nat_le, Bool, false, List, [], ◌∷◌, if◌then◌else◌, Option, Some, None}
use Rattle.o2_world.specs.declared.types.Argument.{Argument}
use Rattle.o2_world.specs.declared.types.Slot.{Slot}
use Rattle.o2_world.specs.declared.types.State.TheVariants.{Live, Exited}
use Rattle.o2_world.specs.World.{Held, Calls, Exits, Ends}
use Rattle.o2_world.specs.Changes.{Change, Makes, Resizes, Locks, Marks, Holds, Drops, Finishes, Reserves, Frees, Names, moved_lines}
use Rattle.o2_world.specs.Known.{Known}
use Rattle.o2_world.specs.CallParts.{Before, Effect, argument, has_arguments, returned, trapped, waiting}
use Rattle.o2_world.specs.Rulings.{Ruling}
use Rattle.o2_world.specs.HugeRulings.{without}
use Rattle.o2_world.specs.Slots.{are_good, parts_in, pointers_in, put_all, shown_in, targets_in, values_in, words_in}

-- What a call that is done gives: the values of its line, the parts that are written, each behind the next pointer that is for
-- writing, what changes beside bytes, the input left, and the piece for the console.
pub record Done : Type 0 where
  pub values : List Argument
  pub parts : List (List ℕ)
  pub changes : List Change
  pub input : List ℕ
  pub piece : List ℕ

-- How a call comes out whose arguments lie in the stack and whose pointers are good. At an error nothing is written and nothing
-- changes.
pub data Outcome : Type 0 where
  Fails : (error : ℕ) → (values : List Argument) → Outcome
  Does : Done → Outcome
  -- the call waits: nothing is as it wasn't, and the process's next step is this call again
  Waits : Outcome
  -- the process ends
  Leaves : (action code : ℕ) → Outcome

pub record CallRow : Type 0 where
  pub name : List ℕ
  pub slots : List Slot
  -- by what the call starts from, and its words
  pub outcome : Before → (ℕ → ℕ) → Outcome

abbrev pub row : List ℕ → List Slot → (Before → (ℕ → ℕ) → Outcome) → CallRow
row name slots outcome = record { name = name; slots = slots; outcome = outcome }

-- A ruling says an error, or a value and what changes. The value goes behind the call's pointer, where it has one.
abbrev pub by_ruling : List Slot → Before → Ruling → Outcome
by_ruling slots b r =
    if r.error == 0
    then Does (record { values = values_in slots r.value; parts = parts_in slots r.value; changes = r.changes; input = b.input; piece = [] })
    else Fails r.error []

abbrev pub ruled : List ℕ → List Slot → (Before → (ℕ → ℕ) → Ruling) → CallRow
ruled name slots ruling = row name slots (λ b a. by_ruling slots b (ruling b a))

-- What goes for every call.

-- the indexes of which a process holds nothing any more
abbrev pub is_gone : ℕ → Option Held → Bool
is_gone count None = false
is_gone count (Some h) = nat_le h.holds count

abbrev pub gone_by : Known → Change → List ℕ → List ℕ
gone_by k (Drops p i count) is = if is_gone count (k.held p i) then i ∷ is else is
gone_by k (Makes s) is = is
gone_by k (Resizes n size) is = is
gone_by k (Locks n count) is = is
gone_by k (Marks n discarded) is = is
gone_by k (Holds p i h) is = is
gone_by k (Finishes p state) is = is
gone_by k (Reserves r) is = is
gone_by k (Frees region first) is = is
gone_by k (Names text name) is = is

abbrev pub gone_indexes : Known → List Change → List ℕ
gone_indexes k [] = []
gone_indexes k (c ∷ cs) = gone_by k c (gone_indexes k cs)

-- the effect of a call that comes out so: DS and ES that name what is gone become 0
abbrev pub come_out : CallRow → Before → (next : ℕ) → (ℕ → ℕ) → Outcome → Effect
come_out r b next a (Fails error values) = record {
  cpu = returned b.cpu next (words_in r.slots) error;
  state = Live;
  bytes = b.view.bytes;
  changes = [];
  input = b.input;
  piece = [];
  lines = Calls b.number r.name (shown_in r.slots a) error values ∷ [];
  waits = false;
}
come_out r b next a (Does d) = record {
  cpu = without (returned b.cpu next (words_in r.slots) 0) (gone_indexes b.known d.changes);
  state = Live;
  bytes = put_all b.view.held (targets_in r.slots a) d.parts b.view.bytes;
  changes = d.changes;
  input = d.input;
  piece = d.piece;
  lines = Calls b.number r.name (shown_in r.slots a) 0 d.values ∷ moved_lines r.name d.changes;
  waits = false;
}
come_out r b next a Waits = waiting b
come_out r b next a (Leaves action code) = record {
  cpu = b.cpu;
  state = Exited code;
  bytes = b.view.bytes;
  changes = [];
  input = b.input;
  piece = [];
  lines = Exits b.number action code ∷ Ends b.number code ∷ [];
  waits = false;
}

-- a call by its words: a bad pointer is exception 13
abbrev pub worded : CallRow → Before → (next : ℕ) → (ℕ → ℕ) → Effect
worded r b next a = if are_good b.view (pointers_in r.slots b.view a) then come_out r b next a (r.outcome b a) else trapped b 13

-- the call by a row, which comes back to `next`: words that don't lie in the stack are exception 12
unfoldable pub served : CallRow → Before → (next : ℕ) → Effect
served r b next = if has_arguments b.view b.cpu (words_in r.slots) then worded r b next (argument b.view b.cpu) else trapped b 12
