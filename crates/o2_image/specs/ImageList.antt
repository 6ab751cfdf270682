-- The images of a run: those of the modules' segments, and those of the processes' environments.
use Rattle.std.specs.Prelude.{ℕ, ◌≤◌, ◌<◌, ◌==◌, ◌&&◌, Bool, true, false, List, [], ◌∷◌, Option, Some, None, get_or, length, if◌then◌else◌, IsTrue}
use Rattle.std.specs.Prelude.{MatchBool}
use Rattle.o2_image.specs.Getters.{nth, nth_list}
use Rattle.o2_image.specs.Images.{Target, image, segment_image}
use Rattle.o2_image.specs.Parts.{Parts}

-- as many lists, each as long as the other at its place
abbrev pub same_shape : {A B : Type 0} → List (List A) → List (List B) → Bool
same_shape [] [] = true
same_shape [] (ys ∷ yss) = false
same_shape (xs ∷ xss) [] = false
same_shape (xs ∷ xss) (ys ∷ yss) = length xs == length ys && same_shape xss yss

-- each record of the module has a target, and there is no other
abbrev pub Belongs : Parts → List (List Target) → Type 0
Belongs m targets = IsTrue (same_shape targets m.relocs)

-- an item of this number, from 1, exists
abbrev pub Exists : {X : Type 0} → List X → ℕ → Type 0
Exists xs n = (1 ≤ n) × (n ≤ length xs)

-- a module, and the targets of its records
abbrev pub Resolution : Type 0
Resolution = Parts × List (List Target)

pub record ImageList : Type 0 where
  pub modules : List Resolution
  pub environments : List (List ℕ)

abbrev pub AllBelong : List Resolution → Type 0
AllBelong ms = (k : ℕ) (d : Resolution) → k < length ms → Belongs (get_or ms k d).0 (get_or ms k d).1

-- the module at a place, and a segment of it; or at place 0 a process, for its environment
abbrev pub HasSegmentOf : Option Resolution → ℕ → Type 0
HasSegmentOf None seg = ⊥
HasSegmentOf (Some m) seg = Exists m.0.segments seg

abbrev pub HasImage : ImageList → ℕ → ℕ → Type 0
HasImage images n seg = MatchBool (n == 0) (Exists images.environments seg) (HasSegmentOf (nth images.modules n) seg)

-- the first `len` bytes of it
abbrev pub module_front : Option Resolution → ℕ → ℕ → List ℕ
module_front None seg len = image [] [] len
module_front (Some m) seg len = segment_image m.0 m.1 seg len

abbrev pub image_front : ImageList → ℕ → ℕ → ℕ → List ℕ
image_front images n seg len =
    if n == 0 then image (nth_list images.environments seg) [] len else module_front (nth images.modules n) seg len
