-- What a memory and the lists beside it hold of a start.
use Rattle.std.specs.Prelude.{◌≡◌, true, ℕ, ◌<◌, ◌≤◌, ◌++◌, All, List, replicate, Option, Some, None, Result, Ok, Err, if◌then◌else◌, ◌==◌}
use Rattle.o2_base.specs.declared.memory.Fail.{Fail}
use Rattle.o2_base.specs.declared.memory.Fail.TheVariants.{NoMemory, Bad}
use Rattle.o2_base.specs.declared.faults.ModuleFault.{ModuleFault}
use Rattle.o2_base.specs.declared.faults.ModuleFault.TheVariants.{NoSegment}
use Rattle.o2_image.specs.Getters.{is_library, nth}
use Rattle.o2_image.specs.ImageList.{ImageList, Exists, image_front}
use Rattle.o2_image.specs.Parts.{Parts}
use Rattle.o2_dynlink.specs.Outcome.{LinkedParts, modules_of}
use Rattle.o2_dynlink.specs.Selectors.{index_of}
use Rattle.o2_world.specs.declared.types.Made.{Made}
use Rattle.o2_world.specs.Map.{get}
use Rattle.o2_world.specs.World.{Segment, Held}
use Rattle.o2_world.specs.Starts.{Built, Holding, segment_of, named, holds_as, with_holding, with_holdings}
use Rattle.o2_load.specs.declared.build.Build.{Build}
use Rattle.o2_load.specs.declared.starting_memory.Grip.{Grip}
use Rattle.o2_load.specs.Memory.{Memory}

-- the holding that a grip is, with these bytes
abbrev pub gripped : Grip → List ℕ → Holding
gripped g bytes = record { index = g.index; place = g.place; number = g.number; rights = g.rights; common = g.common; bytes = bytes }

-- the first bytes of a grip's image, with zeros behind them
abbrev pub bytes_with_room : ImageList → Grip → ℕ → ℕ → List ℕ
bytes_with_room images g size room = image_front images g.place g.number size ++ replicate room 0

-- the segment of the name that is made for a grip
abbrev pub new_segment : ImageList → Grip → ℕ → ℕ → Segment
new_segment images g size room = segment_of (gripped g (bytes_with_room images g size room))

-- of each name the segment that it has with some images, or none
abbrev pub Names : Type 1
Names = ℕ → Option Segment → Type 0

-- a memory, the common names, and the selectors of the process that starts
pub record Stage : Type 0 where
  pub memory : Memory
  pub made : List Made
  pub selectors : List ℕ

abbrev pub stage : {S : Type 0} → Memory → Build S → Stage
stage m b = record { memory = m; made = b.made; selectors = b.selectors.items }

-- the names so far, no more than so many, and what the process that starts holds so far
pub record IsHolding (names : Names) (x : Stage) (bound pid : ℕ) (b : Built) : Type 0 where
  pub count : x.memory.count ≡ b.next_name
  pub most : x.memory.most ≡ bound
  pub fits : x.memory.count ≤ x.memory.most
  pub named : (n : ℕ) → names n (get b.names n)
  pub made : b.made ≡ x.made
  pub selectors : b.selectors ≡ x.selectors
  pub held : (i : ℕ) → get b.held i ≡ x.memory.held pid i

-- a memory is whole, the common names are names, and each process may hold its own indexes and those of the libraries' segments
pub record IsReady (kept : Type 0) (m : Memory) (common : List Made) (l : LinkedParts) : Type 0 where
  pub whole : kept
  pub made : All (λ (d : Made). d.name < m.count) common
  pub own : (pid i : ℕ) → Exists l.programs pid → 0 < i → i < 4096 → m.takes pid i ≡ true
  pub shared : (pid place n i : ℕ) (p : Parts) → Exists l.programs pid → nth (modules_of l.images) place ≡ Some p → is_library p ≡ true → index_of (modules_of l.images) place n ≡ Some i
      → m.takes pid i ≡ true

-- the process holds that at an index, and elsewhere what it held
abbrev pub HoldsAt : Memory → Memory → (pid index : ℕ) → Held → Type 0
HoldsAt old new pid index h = (i : ℕ) → new.held pid i ≡ (if index == i then Some h else old.held pid i)

-- more names are wanted than there may be
pub record IsOver (f : ModuleFault) (most : ℕ) (b : Built) : Type 0 where
  pub fault : f ≡ NoSegment
  pub over : most < b.next_name

-- on a refusal
abbrev pub OnBad : {X : Type 0} → Result X (Fail ModuleFault) → (ModuleFault → Type 0) → Type 0
OnBad (Ok x) P = Unit {0}
OnBad (Err (Bad f)) P = P f
OnBad (Err NoMemory) P = Unit {0}

-- it has come to that, or was refused for want of names
abbrev pub ComesTo : {X : Type 0} → Names → Stage → (most pid : ℕ) → Built → Result X (Fail ModuleFault) → Type 0
ComesTo names x most pid b (Ok done) = IsHolding names x most pid b
ComesTo names x most pid b (Err (Bad fault)) = IsOver fault most b
ComesTo names x most pid b (Err NoMemory) = Unit {0}

-- a new name
abbrev pub Makes : Names → Stage → Names → Stage → Holding → Result ℕ (Fail ModuleFault) → Type 0
Makes before old after new h r = (most pid : ℕ) (b : Built) → IsHolding before old most pid b → ComesTo after new most pid (named b h) r

-- a new name that the process holds
abbrev pub AddsNew : Names → Stage → Names → Stage → ℕ → Holding → Result (Unit {0}) (Fail ModuleFault) → Type 0
AddsNew before old after new pid h r = (most : ℕ) (b : Built) → IsHolding before old most pid b → ComesTo after new most pid (holds_as b h None) r

-- one step more
abbrev pub Adds : Names → Stage → Names → Stage → ℕ → Holding → Result (Unit {0}) (Fail ModuleFault) → Type 0
Adds before old after new pid h r = (most : ℕ) (b : Built) → IsHolding before old most pid b → ComesTo after new most pid (with_holding b h) r

-- many steps more
abbrev pub AddsAll : Names → Stage → Names → Stage → ℕ → List Holding → Result (Unit {0}) (Fail ModuleFault) → Type 0
AddsAll before old after new pid hs r = (most : ℕ) (b : Built) → IsHolding before old most pid b → ComesTo after new most pid (with_holdings b hs) r
