-- The world that linked modules open is sound, and told by its lines.
use Rattle.std.proofs.Common.{◌≡◌, ◌≤◌, ℕ, true, List, length, Some, ap, ◌∙◌}
use Rattle.std.specs.Prelude.{Ok}
use Rattle.std.specs.List.{All, list_any}
use Rattle.o2_conf.specs.declared.conf.Conf.{Conf}
use Rattle.o2_conf.specs.declared.script.Word.{Word}
use Rattle.o2_conf.specs.Limits.{HasEnvironment}
use Rattle.o2_image.specs.Getters.{is_library, nth}
use Rattle.o2_image.specs.Parts.{Parts}
use Rattle.o2_image.specs.Whole.{IsRunnable}
use Rattle.o2_dynlink.specs.Linking.{linked_of}
use Rattle.o2_dynlink.specs.Outcome.{LinkedParts}
use Rattle.o2_world.specs.World.{World, Setting}
use Rattle.o2_world.specs.Starts.{opening_of}
use Rattle.o2_world.specs.Tied.{IsSound}
use Rattle.o2_world.specs.Reach.{IsTold}
use Rattle.o2_world.specs.Known.{is_for_the_run}
use Rattle.o2_world.proofs.Openings.{opening_sound, opening_reserves, opening_told}
use Rattle.o2_load.specs.Loads.{loaded, starts_of, library_ranges, index_at}
use Rattle.o2_load.proofs.Fits.{linked_starts_fit}
use Rattle.o2_load.proofs.Apart.{linked_apart}
use Rattle.o2_load.proofs.Overs.{linked_starts_over}
use Rattle.o2_load.proofs.Reserved.{linked_reserved}

pub linked_opening_sound : (s : Setting) (reserved : List (ℕ × ℕ)) (script : List Word) (input : List ℕ) (ms : List Parts) (c : Conf) (l : LinkedParts) (w : World) → All IsRunnable ms → All HasEnvironment c.process → linked_of ms c ≡ Ok l
    → opening_of s reserved script input (starts_of l 1 c.process) ≡ Ok w → IsSound w
linked_opening_sound s reserved script input ms c l w all fits e o =
    opening_sound (loaded l.images) s reserved script input (starts_of l 1 c.process) w (linked_apart ms c l all e) (linked_starts_fit ms c l all e) (linked_starts_over ms c l all fits e) o

pub linked_opening_reserves : (s : Setting) (script : List Word) (input : List ℕ) (ms : List Parts) (c : Conf) (l : LinkedParts) (w : World)
    → linked_of ms c ≡ Ok l → opening_of s (library_ranges l) script input (starts_of l 1 c.process) ≡ Ok w
    → (place n : ℕ) (m : Parts) → nth ms place ≡ Some m → is_library m ≡ true → 1 ≤ n → n ≤ length m.segments
    → list_any (is_for_the_run (index_at l.images place n)) w.reserved ≡ true
linked_opening_reserves s script input ms c l w e o place n m at is low high =
    ap (list_any (is_for_the_run (index_at l.images place n))) (opening_reserves s (library_ranges l) script input (starts_of l 1 c.process) w o)
    ∙ linked_reserved ms c l e place n m at is low high

pub linked_opening_told : (s : Setting) (reserved : List (ℕ × ℕ)) (script : List Word) (input : List ℕ) (ms : List Parts) (c : Conf) (l : LinkedParts) (w : World) → All IsRunnable ms → linked_of ms c ≡ Ok l
    → opening_of s reserved script input (starts_of l 1 c.process) ≡ Ok w → IsTold w
linked_opening_told s reserved script input ms c l w all e o = opening_told s reserved script input (starts_of l 1 c.process) w (linked_starts_fit ms c l all e) o
