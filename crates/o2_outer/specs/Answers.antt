-- What each answer of the outside says of what it holds.
use Rattle.std.specs.Prelude.{◌≡◌, ℕ, ◌+◌, ◌≤◌, ◌<◌, min, take, drop, List, length, Option, Some, None}
use Rattle.o2_outer.specs.declared.sink.Put.{Put}
use Rattle.o2_outer.specs.declared.sink.Put.TheVariants.{Done, Failed}
use Rattle.o2_outer.specs.declared.source.Took.{Took}
use Rattle.o2_outer.specs.declared.source.Took.TheVariants as took
use Rattle.o2_outer.specs.declared.swap.Dev.{Dev}
use Rattle.o2_outer.specs.declared.swap.Dev.TheVariants as dev
use Rattle.o2_outer.specs.declared.files.Fetch.{Fetch}
use Rattle.o2_outer.specs.declared.files.Fetch.TheVariants as fetched
use Rattle.o2_outer.specs.Texts.{Rose, risen, Gains, GainsSome, IsPrefix}

-- what a put does to the bytes taken: a fault takes a front of the piece
abbrev pub Takes : Option (List ℕ) → Option (List ℕ) → List ℕ → Put → Type 0
Takes old new piece Done = Gains old new piece
Takes old new piece Failed = GainsSome old new (λ front. IsPrefix front piece)

-- so many puts where all were done, and no more where one failed
abbrev pub Puts : ℕ → ℕ → ℕ → Put → Type 0
Puts old new n Done = new ≡ old + n
Puts old new n Failed = (old ≤ new) × (new ≤ old + n)

-- a fact for one answer
abbrev pub OnFailed : Put → Type 0 → Type 0
OnFailed Done P = Unit {0}
OnFailed Failed P = P

abbrev pub OnDone : Put → Type 0 → Type 0
OnDone Done P = P
OnDone Failed P = Unit {0}

-- the count of faults by the answer of a call: one more at a fault, and else as it was
abbrev pub CountsPut : ℕ → ℕ → Put → Type 0
CountsPut before now Done = now ≡ before
CountsPut before now Failed = now ≡ risen before

abbrev pub CountsTook : ℕ → ℕ → Took → Type 0
CountsTook before now (took.Done n) = now ≡ before
CountsTook before now took.Failed = now ≡ risen before

abbrev pub CountsFetch : ℕ → ℕ → Fetch → Type 0
CountsFetch before now fetched.Failed = now ≡ risen before
CountsFetch before now _ = now ≡ before

abbrev pub CountsDev : ℕ → ℕ → Dev → Type 0
CountsDev before now dev.Done = now ≡ before
CountsDev before now dev.Failed = now ≡ risen before

-- what a fetch answers over files that are told
abbrev pub Answers : (List ℕ → Option (List ℕ)) → List ℕ → ℕ → Fetch → Type 0
Answers files name most (fetched.Got bytes) = files name ≡ Some bytes
Answers files name most fetched.NoFile = files name ≡ None
Answers files name most fetched.TooLong = (bytes : List ℕ) × (files name ≡ Some bytes) × (most < length bytes)
Answers files name most fetched.Failed = Unit {0}
Answers files name most fetched.NoMemory = Unit {0}

abbrev pub IsBounded : ℕ → Fetch → Type 0
IsBounded most (fetched.Got bytes) = length bytes ≤ most
IsBounded most _ = Unit {0}

-- what a fetch gave is all that an open file tells that it has, and one that is too long tells more than the limit
abbrev pub IsReadFrom : {F : Type 0} → (remaining : F → Option (List ℕ)) → (most : ℕ) → Fetch → Type 0
IsReadFrom remaining most (fetched.Got bytes) = (file : _) × ((t : List ℕ) → remaining file ≡ Some t → bytes ≡ t)
IsReadFrom remaining most fetched.TooLong = (file : _) × ((t : List ℕ) → remaining file ≡ Some t → most < length t)
IsReadFrom remaining most fetched.NoFile = Unit {0}
IsReadFrom remaining most fetched.Failed = Unit {0}
IsReadFrom remaining most fetched.NoMemory = Unit {0}

abbrev pub FetchHasCause : ℕ → ℕ → Fetch → Type 0
FetchHasCause before now fetched.Failed = Rose before now
FetchHasCause before now _ = Unit {0}

-- what a take gives of the bytes left, where they are told: as many as fit, and a fault takes none
abbrev pub Gives : Option (List ℕ) → Option (List ℕ) → List ℕ → Took → Type 0
Gives old new into (took.Done n) = (t : List ℕ) → old ≡ Some t → (n ≡ min (length into) (length t)) × (take n into ≡ take n t) × (new ≡ Some (drop n t))
Gives old new into took.Failed = (t : List ℕ) → old ≡ Some t → new ≡ old

abbrev pub TookAtMost : ℕ → Took → Type 0
TookAtMost most (took.Done n) = n ≤ most
TookAtMost most took.Failed = Unit {0}

abbrev pub TookHasCause : ℕ → ℕ → Took → Type 0
TookHasCause before now (took.Done n) = Unit {0}
TookHasCause before now took.Failed = Rose before now

-- a fault of a device comes only where its count rose, and the count never falls
pub record HasCause (before now : ℕ) (result : Dev) : Type 0 where
  pub later : before ≤ now
  pub failed : result ≡ dev.Failed → Rose before now
