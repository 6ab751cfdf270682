-- All changes of a call on a huge allocation are so, where each kind of them is.
use Rattle.std.proofs.Common.{◌≡◌, ◌⊎◌, ℕ, ◌+◌, ◌==◌, Bool, true, false, List, [], ◌∷◌, ◌++◌, Option, Some, None, if◌then◌else◌, sym, subst}
use Rattle.o2_world.specs.World.{Held}
use Rattle.o2_isa.specs.declared.cpu.Cpu.{Cpu}
use Rattle.o2_world.specs.Changes.{Change, Makes, Resizes, Holds, Drops, Reserves}
use Rattle.o2_world.specs.Known.{Known, Marks}
use Rattle.o2_world.specs.CallParts.{Before}
use Rattle.o2_world.specs.Rulings.{full_size, made_segment}
use Rattle.o2_world.specs.SharedRulings.{marks_under}
use Rattle.o2_world.specs.HugeRulings.{all_dropped, all_hold, dropped_members, held_in_run, new_members, resized_members, resized_one, run_reserve}
use Rattle.o2_world.specs.Moves.{AreHolders, IsHolder, NoRun, RunMade, RunMoves, RunSized}

abbrev pub AllBy : (Change → Type 0) → List Change → Type 0
AllBy P [] = Unit {0}
AllBy P (c ∷ cs) = P c × AllBy P cs

all_append : (P : Change → Type 0) (xs ys : List Change) → AllBy P xs → AllBy P ys → AllBy P (xs ++ ys)
all_append P [] ys a b = b
all_append P (x ∷ xs) ys a b = (a.0, all_append P xs ys a.1 b)

-- each kind of change is so, of those who hold the run
pub record PartsAre (b : Before) (P : Change → Type 0) : Type 0 where
  pub makes : (size flags : ℕ) → P (Makes (made_segment size flags))
  pub resizes : (name size : ℕ) → P (Resizes name size)
  pub holds : (q : ℕ × ℕ) (i : ℕ) (h : Held) → IsHolder b q → P (Holds q.0 i h)
  pub drops : (i count : ℕ) → P (Drops b.number i count)
  pub reserves : (region first count : ℕ) → (region ≡ b.number) ⊎ (region ≡ 0) → P (Reserves (run_reserve region first count))

module _ (b : Before) (P : Change → Type 0) (parts : PartsAre b P) where
  holds_all : (name first count i : ℕ) (ps : List (ℕ × ℕ)) → AreHolders b ps → AllBy P (all_hold name first count i ps)
  holds_all name first count i [] holders = tt
  holds_all name first count i (p ∷ ps) holders = (parts.holds p i (held_in_run name first count p.1) holders.0, holds_all name first count i ps holders.1)

  members_all : (name first count flags : ℕ) (ps : List (ℕ × ℕ)) (is zs : List ℕ) → AreHolders b ps → AllBy P (new_members name first count flags ps is zs)
  members_all name first count flags ps [] zs holders = tt
  members_all name first count flags ps (i ∷ is) [] holders = tt
  members_all name first count flags ps (i ∷ is) (z ∷ zs) holders = (
    parts.makes z flags,
    all_append P (all_hold name first count i ps) (new_members (name + 1) first count flags ps is zs) (holds_all name first count i ps holders) (members_all (name + 1) first count flags ps is zs holders),
  )

  sized_one : (size : ℕ) (o : Option Held) (m : Option Marks) → AllBy P (resized_one size o m)
  sized_one size None None = tt
  sized_one size None (Some m) = tt
  sized_one size (Some h) None = tt
  sized_one size (Some h) (Some m) = go (m.size == full_size size)
    where
      go : (t : Bool) → AllBy P (if t then [] else Resizes h.name (full_size size) ∷ [])
      go true = tt
      go false = (parts.resizes h.name (full_size size), tt)

  sized_all : (k : Known) (n : ℕ) (is zs : List ℕ) → AllBy P (resized_members k n is zs)
  sized_all k n [] zs = tt
  sized_all k n (i ∷ is) [] = tt
  sized_all k n (i ∷ is) (z ∷ zs) =
      all_append P (resized_one z (k.held n i) (marks_under k (k.held n i))) (resized_members k n is zs) (sized_one z (k.held n i) (marks_under k (k.held n i))) (sized_all k n is zs)

  dropped_one : (i : ℕ) (o : Option Held) → AllBy P (all_dropped b.number i o)
  dropped_one i None = tt
  dropped_one i (Some h) = (parts.drops i h.holds, tt)

  dropped_all : (k : Known) (is : List ℕ) → AllBy P (dropped_members k b.number is)
  dropped_all k [] = tt
  dropped_all k (i ∷ is) = all_append P (all_dropped b.number i (k.held b.number i)) (dropped_members k b.number is) (dropped_one i (k.held b.number i)) (dropped_all k is)

  pub run_parts : (cpu : Cpu) (cs : List Change) → RunMoves b cpu cs → AllBy P cs
  run_parts cpu cs (NoRun is) = subst (AllBy P) (sym is) tt
  run_parts cpu cs (RunMade region first count flags i z xs zs which positive growth is) =
      subst (AllBy P) (sym is)
      (all_append P (new_members b.known.next first count flags ((b.number, 1) ∷ []) (i ∷ xs) (z ∷ zs)) (Reserves (run_reserve region first count) ∷ [])
      (members_all b.known.next first count flags ((b.number, 1) ∷ []) (i ∷ xs) (z ∷ zs) growth.holders)
      (parts.reserves region first count which, tt))
  run_parts cpu cs (RunSized first count flags holds others kept sizes xs zs gone growth cut is) =
      let ms : List Change = new_members b.known.next first count flags ((b.number, holds) ∷ others) xs zs in
      subst (AllBy P) (sym is)
      (all_append P (resized_members b.known b.number kept sizes) (ms ++ dropped_members b.known b.number gone)
      (sized_all b.known b.number kept sizes)
      (all_append P ms (dropped_members b.known b.number gone)
      (members_all b.known.next first count flags ((b.number, holds) ∷ others) xs zs growth.holders)
      (dropped_all b.known gone)))
