-- What a source has given, and which texts the whole of it may be.
use Rattle.std.specs.Prelude.{◌≡◌, ◌<◌, ℕ, Bool, true, List, ◌++◌, Option, Some, None, take, drop, length}
use Rattle.o2_outer.specs.declared.source.Took.{Took}
use Rattle.o2_outer.specs.declared.source.Took.TheVariants as took
use Rattle.o2_outer.specs.Texts.{IsPrefix}

-- the bytes that a source has given, and whether it has ended
pub record Past : Type 0 where
  pub given : List ℕ
  pub ended : Bool

-- a take adds the bytes that stand at the front of the slice; where they are fewer than were asked for the source has ended, and
-- one that has ended gives nothing more
pub record AddsTaken (old new : Past) (into : List ℕ) (n : ℕ) : Type 0 where
  pub given : new.given ≡ old.given ++ take n into
  pub short : n < length into → new.ended ≡ true
  pub ended : old.ended ≡ true → (n ≡ 0) × (new.ended ≡ true)

-- by the answer; a fault adds nothing
abbrev pub Adds : Past → Past → List ℕ → Took → Type 0
Adds old new into (took.Done n) = AddsTaken old new into n
Adds old new into took.Failed = new ≡ old

-- what was given stays so, and a source that has ended gives nothing more
pub record GoesOn (old new : Past) : Type 0 where
  pub front : IsPrefix old.given new.given
  pub ended : old.ended ≡ true → (new.given ≡ old.given) × (new.ended ≡ true)

-- the whole of a source may be this text: what it has given is a front of it, and all of it where it has ended
pub record MayBe (text : List ℕ) (past : Past) : Type 0 where
  pub front : IsPrefix past.given text
  pub whole : past.ended ≡ true → text ≡ past.given

-- what of the text isn't given yet
abbrev pub rest_of : List ℕ → Past → List ℕ
rest_of text past = drop (length past.given) text

-- An input is seen by what it tells, where no text is named, or as this text, which the whole of it may be.

abbrev pub IsSeenAs : Option (List ℕ) → Past → Type 0
IsSeenAs None past = Unit {0}
IsSeenAs (Some text) past = MayBe text past

-- what is left of it, seen so
abbrev pub left_as : Option (List ℕ) → (told : Option (List ℕ)) → Past → Option (List ℕ)
left_as None told past = told
left_as (Some text) told past = Some (rest_of text past)
