-- The calls that are made over the bus.
use Rattle.std.specs.Prelude.{ℕ, List, [], ◌∷◌, length}
use Rattle.o2_world.specs.declared.types.Argument.TheVariants as shown
use Rattle.o2_world.specs.declared.types.Slot.{Slot}
use Rattle.o2_world.specs.declared.types.Slot.TheVariants.{Word, Reads, ToWord, ToLong, ToWords}
use Rattle.o2_world.specs.Calls.{Before, range_of, word_bytes}
use Rattle.o2_world.specs.Outcomes.{Outcome, Does}

abbrev pub pid_slots : List Slot
pid_slots = ToWords 3 ∷ []

abbrev pub write_slots : List Slot
write_slots = Word ∷ Reads ∷ Word ∷ ToWord ∷ []

abbrev pub avail_slots : List Slot
avail_slots = ToLong ∷ []

-- a DosRead that got these bytes, and left the rest of the input
abbrev pub got_bytes : (got rest : List ℕ) → Outcome
got_bytes got rest = Does (record {
  values = shown.Word (length got) ∷ [];
  parts = got ∷ word_bytes (length got) ∷ [];
  changes = [];
  input = rest;
  piece = [];
})

-- a DosWrite whose bytes went to the console
abbrev pub wrote : Before → (ℕ → ℕ) → Outcome
wrote b a = Does (record {
  values = shown.Word (a 2) ∷ [];
  parts = word_bytes (a 2) ∷ [];
  changes = [];
  input = b.input;
  piece = range_of b.view.held b.view.bytes (a 4) (a 3) (a 2);
})
