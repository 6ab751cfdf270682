-- Who is present, who was used, and whose turn is next.
use Rattle.std.specs.Prelude.{◌≡◌, ◌≢◌, ◌⊎◌, ℕ, ◌<◌, ◌≤◌, List, length, true, false, slice_index, slice_index_or, nat_lt, ◌==◌, if◌then◌else◌}
use Rattle.o2_place.specs.declared.clock.Mark.{Mark}

abbrev pub no_mark : Mark
no_mark = record { present = false; used = false }

-- the mark of an id
abbrev pub mark_of : List Mark → ℕ → Mark
mark_of ms id = slice_index_or ms id no_mark

abbrev pub IsPresent : List Mark → ℕ → Type 0
IsPresent ms id = (mark_of ms id).present ≡ true

abbrev pub IsUnused : List Mark → ℕ → Type 0
IsUnused ms id = (mark_of ms id).used ≡ false

-- the id isn't in the list
abbrev pub IsOutside : List ℕ → ℕ → Type 0
IsOutside keep id = (k : ℕ) → k < length keep → slice_index keep k ≢ id

-- the id stands in the list
abbrev pub IsKept : List ℕ → ℕ → Type 0
IsKept keep id = (k : ℕ) × (k < length keep) × (slice_index keep k ≡ id)

-- the marks of the same ids say present, and no other id's says used
pub record OnlyUnmarks (old new : List Mark) : Type 0 where
  pub size : length new ≡ length old
  pub present : (id : ℕ) → (mark_of new id).present ≡ (mark_of old id).present
  pub used : (id : ℕ) → IsUnused old id → IsUnused new id

-- an id that is present and outside the list, and that is unused if any such id is
pub record IsVictim (ms : List Mark) (keep : List ℕ) (id : ℕ) : Type 0 where
  pub present : IsPresent ms id
  pub outside : IsOutside keep id
  pub unused : (k : ℕ) → IsPresent ms k → IsOutside keep k → IsUnused ms k → IsUnused ms id

-- the ring has each id below n once, and turns says where
pub record IsRing (ring turns : List ℕ) (n : ℕ) : Type 0 where
  pub ring_long : length ring ≡ n
  pub turns_long : length turns ≡ n
  pub there : (j : ℕ) → j < n → (slice_index ring j < n) × (slice_index turns (slice_index ring j) ≡ j)
  pub back : (id : ℕ) → id < n → (slice_index turns id < n) × (slice_index ring (slice_index turns id) ≡ id)

-- the present ids are the first so many of the ring, and the hand stands at one of them or behind the last
pub record IsClock (ms : List Mark) (ring turns : List ℕ) (count hand : ℕ) : Type 0 where
  pub cycle : IsRing ring turns (length ms)
  pub some : count ≤ length ms
  pub present : (id : ℕ) → id < length ms → (mark_of ms id).present ≡ nat_lt (slice_index turns id) count
  pub within : hand ≤ count

-- where the id that stood at a place stands after the ids at i and j changed places
abbrev pub turn_after : ℕ → ℕ → ℕ → ℕ
turn_after place i j = if place == i then j else if place == j then i else place

-- the id at each place from low up to high is in the list, or was used and is unused now
abbrev pub HasPassed : List Mark → List Mark → List ℕ → List ℕ → ℕ → ℕ → Type 0
HasPassed old new ring keep low high = (j : ℕ) → low ≤ j → j < high → IsKept keep (slice_index ring j) ⊎ (((mark_of old (slice_index ring j)).used ≡ true) × IsUnused new (slice_index ring j))

-- from the hand on, and round from the last place to place 0, place j comes before place p
abbrev pub ComesBefore : ℕ → ℕ → ℕ → Type 0
ComesBefore hand j p = ((hand ≤ j) × (j < p)) ⊎ ((p < hand) × ((hand ≤ j) ⊎ (j < p)))

-- the id at a place may go: all that come before it are in the list, or it was unused and they are passed; where it was used, all are passed
pub record IsChosen (old new : List Mark) (ring keep : List ℕ) (hand count place : ℕ) : Type 0 where
  pub below : place < count
  pub outside : IsOutside keep (slice_index ring place)
  pub before : (j : ℕ) → j < count → ComesBefore hand j place → IsKept keep (slice_index ring j) ⊎ (((mark_of old (slice_index ring j)).used ≡ true) × IsUnused new (slice_index ring j) × IsUnused old (slice_index ring place))
  pub round : (mark_of old (slice_index ring place)).used ≡ true → HasPassed old new ring keep 0 count

-- the marks by id, the place of each id in the ring, the present ones first, and the place that the hand stands before
pub record Turns : Type 0 where
  pub marks : List Mark
  pub places : List ℕ
  pub hand : ℕ

abbrev pub place_in : Turns → ℕ → ℕ
place_in t id = slice_index t.places id

-- the present ids that come before this one are in the list; or they were used, are unused now, and it was unused
abbrev pub IsNext : Turns → List Mark → List ℕ → ℕ → Type 0
IsNext old new keep id = (k : ℕ) → IsPresent old.marks k → ComesBefore old.hand (place_in old k) (place_in old id) → IsKept keep k ⊎ (((mark_of old.marks k).used ≡ true) × IsUnused new k × IsUnused old.marks id)

-- no present id outside the list is unused
abbrev pub NoneUnused : List Mark → List ℕ → Type 0
NoneUnused ms keep = (k : ℕ) → IsPresent ms k → IsOutside keep k → IsUnused ms k → ⊥

-- every present id outside the list is unused
abbrev pub AllUnused : List Mark → List Mark → List ℕ → Type 0
AllUnused old new keep = (k : ℕ) → IsPresent old k → IsOutside keep k → IsUnused new k
