-- The starts of linked modules are all over one table of modules, so isolation holds for them.
use Rattle.std.proofs.Common.{◌≡◌, refl, ap, ℕ, zero, suc, ◌+◌, ◌-◌, ◌<◌, List, [], ◌∷◌, map, arith}
use Rattle.std.specs.Prelude.{Option, Some, None, slice_get, Ok}
use Rattle.std.specs.List.{All}
use Rattle.o2_conf.specs.declared.conf.Conf.{Conf}
use Rattle.o2_conf.specs.declared.process.Process.{Process}
use Rattle.o2_conf.specs.declared.script.Word.{Word}
use Rattle.o2_conf.specs.Limits.{HasEnvironment}
use Rattle.o2_image.specs.Getters.{nth, nth_list}
use Rattle.o2_image.specs.ImageList.{ImageList, Resolution}
use Rattle.o2_image.specs.Parts.{Parts}
use Rattle.o2_image.specs.Whole.{IsRunnable}
use Rattle.o2_dynlink.specs.Linking.{linked_of}
use Rattle.o2_dynlink.specs.Outcome.{LinkedParts}
use Rattle.o2_world.specs.World.{World, Setting}
use Rattle.o2_world.specs.Starts.{Loaded, Start, opening_of}
use Rattle.o2_load.specs.Loads.{library_ranges, loaded, loaded_at, program_place, start_of, starts_of}
use Rattle.o2_load.proofs.Apart.{linked_apart}
use Rattle.o2_load.proofs.Fits.{linked_starts_fit}
use Rattle.o2_load.proofs.Overs.{linked_starts_over}
use Rattle.o2_alone.specs.Isolation.{IsOver, RunsAlone}
use Rattle.o2_alone.proofs.OpenedAlike.{isolation}
use Rattle.o2_isolation.specs.Strangers.{IsStranger}
use Rattle.o2_isolation.proofs.SharedRuns.{keeps, opened_unshared}

-- a module is that of its own place
own_place : (images : ImageList) (place : ℕ) → loaded images (loaded images place).place ≡ loaded images place
own_place images place = go (nth images.modules place) refl
  where
    go : (o : Option Resolution) → nth images.modules place ≡ o → loaded images (loaded_at images place o).place ≡ loaded_at images place o
    go None e = refl
    go (Some m) e = ap (loaded_at images place) e

all_own : (images : ImageList) (places : List ℕ) → All (λ (m : Loaded). loaded images m.place ≡ m) (map (loaded images) places)
all_own images [] k d low = absurd (omega (arith, low))
all_own images (p ∷ places) zero d low = own_place images p
all_own images (p ∷ places) (suc k) d low = all_own images places k d (omega (arith, low))

one_over : (l : LinkedParts) (pid : ℕ) (p : Process) → IsOver (loaded l.images) (start_of l pid p)
one_over l pid p = record { program = own_place l.images (program_place l pid); libraries = all_own l.images (nth_list l.libraries pid) }

all_over : (l : LinkedParts) (pid : ℕ) (ps : List Process) → All (IsOver (loaded l.images)) (starts_of l pid ps)
all_over l pid [] k d low = absurd (omega (arith, low))
all_over l pid (p ∷ ps) zero d low = one_over l pid p
all_over l pid (p ∷ ps) (suc k) d low = all_over l (pid + 1) ps k d (omega (arith, low))

pub linked_isolation : (s : Setting) (script : List Word) (input : List ℕ) (ms : List Parts) (c : Conf) (l : LinkedParts) (w : World) → All IsRunnable ms → All HasEnvironment c.process → linked_of ms c ≡ Ok l
    → opening_of s (library_ranges l) script input (starts_of l 1 c.process) ≡ Ok w
    → (number : ℕ) (start : Start) → 0 < number → slice_get (starts_of l 1 c.process) (number - 1) ≡ Some start
    → RunsAlone s (library_ranges l) input number start w
linked_isolation s script input ms c l w all fits e o =
    isolation (loaded l.images) s (library_ranges l) script input (starts_of l 1 c.process) w (linked_apart ms c l all e) (linked_starts_fit ms c l all e) (linked_starts_over ms c l all fits e) (all_over l 1 c.process) o

-- of a process's calls of DosReallocHuge nothing is asked
pub linked_strangers : (s : Setting) (script : List Word) (input : List ℕ) (ms : List Parts) (c : Conf) (l : LinkedParts) (w : World) → All IsRunnable ms → All HasEnvironment c.process → linked_of ms c ≡ Ok l
    → opening_of s (library_ranges l) script input (starts_of l 1 c.process) ≡ Ok w
    → (number : ℕ) (start : Start) → 0 < number → slice_get (starts_of l 1 c.process) (number - 1) ≡ Some start
    → IsStranger s (library_ranges l) input number start w
linked_strangers s script input ms c l w all fits e o number start some at =
    let run = linked_isolation s script input ms c l w all fits e o number start some at in
    record {
      alone = run.world;
      begins = run.begins;
      isolated = λ k stays. run.isolated k (keeps number s w run.world (opened_unshared s (library_ranges l) script input (starts_of l 1 c.process) w o number) k stays);
    }
