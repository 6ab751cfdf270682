-- What the rows of the calls read of a machine over a store, beside what the process sees: the same look-ups as those of a world.
use Rattle.std.specs.Prelude.{◌≡◌, ℕ, zero, suc, Bool, false, List, length, Option, Some, None, option_map}
use Rattle.o2_entries.specs.Tables.{live_numbers}
use Rattle.o2_regions.specs.declared.held.Region.{Region}
use Rattle.o2_regions.specs.declared.held.Region.TheVariants.{Private, Shared}
use Rattle.o2_regions.specs.Maps.{Maps, is_taken}
use Rattle.o2_store.specs.Shelf.{entry}
use Rattle.o2_segbus.specs.Seen.{key_of}
use Rattle.o2_world.specs.Map.{get}
use Rattle.o2_world.specs.World.{Segment, Setting, World}
use Rattle.o2_world.specs.Known.{Known, Marks, text_name}
use Rattle.o2_stands.specs.Parts.{Parts, goes_on, held_in}
use Rattle.o2_stands.specs.Stands.{IsIndex, number_of}

-- what the store doesn't have: whether a name is code, the texts' names, how many processes there are, and the number that
-- DosMemAvail gives
pub record Others : Type 0 where
  pub code : ℕ → Bool
  pub text : List ℕ → Option ℕ
  pub processes : ℕ
  pub avail : ℕ

-- the marks of a name whose segment has this number
abbrev pub marks_under : Parts → Others → ℕ → ℕ → Marks
marks_under p o n k = record {
  size = (entry p.shelf k).size;
  clean = (entry p.shelf k).attr.clean;
  code = o.code n;
  flags = (entry p.shelf k).attr.flags;
  lock = (entry p.shelf k).attr.lock;
  shared = (entry p.shelf k).attr.shared;
  discarded = (entry p.shelf k).attr.gone;
}

-- the region of a number, where 0 is the shared one
abbrev pub region_by : ℕ → Region
region_by zero = Shared
region_by (suc n) = Private (suc n)

abbrev pub known_in : Parts → Others → Known
known_in p o = record {
  held = held_in p.maps;
  segment = λ n. option_map (marks_under p o n) (key_of p.shelf n);
  taken = λ region i. is_taken p.maps (region_by region) i;
  text = o.text;
  lives = λ n. goes_on (p.running n);
  processes = o.processes;
  count = length (live_numbers 0 p.shelf.entries);
  most = length p.shelf.entries;
  next = p.shelf.made;
  avail = o.avail;
}

abbrev pub code_of : Option Segment → Bool
code_of None = false
code_of (Some s) = s.code

-- what the store doesn't have of a world
abbrev pub others_of : Setting → World → Others
others_of s w = record {
  code = λ n. code_of (get w.names n);
  text = text_name w.texts;
  processes = length w.processes;
  avail = s.avail;
}

-- The same is known, look-up by look-up; of taken indexes those that the maps have.
pub record KnowsAs (m : Maps) (k l : Known) : Type 0 where
  pub held : (n i : ℕ) → k.held n i ≡ l.held n i
  pub segment : (n : ℕ) → k.segment n ≡ l.segment n
  pub taken : (g : Region) (i : ℕ) → IsIndex m g i → k.taken (number_of g) i ≡ l.taken (number_of g) i
  pub text : (t : List ℕ) → k.text t ≡ l.text t
  pub lives : (n : ℕ) → k.lives n ≡ l.lives n
  pub processes : k.processes ≡ l.processes
  pub count : k.count ≡ l.count
  pub most : k.most ≡ l.most
  pub next : k.next ≡ l.next
  pub avail : k.avail ≡ l.avail
