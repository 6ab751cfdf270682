-- What is held is the reach of the report: in a world that is sound and told, along its run, and in a machine that stands for it.
use Rattle.std.proofs.Common.{List, ◌≡◌, ℕ, ◌-◌, ◌<◌, ◌==◌, Bool, true, false, if◌then◌else◌, Option, Some, None, ap, sym, ◌∙◌, refl, arith}
use Rattle.std.specs.Prelude.{is_some, nat_lt, option_map, slice_get}
use Rattle.o2_regions.specs.declared.held.Held.{Held as HeldThere}
use Rattle.o2_regions.specs.Maps.{Maps, held_at as held_there, holds_of as holds_there}
use Rattle.o2_stands.specs.Parts.{held_in as held_in_maps, held_of as held_of_maps}
use Rattle.o2_world.specs.World.{Held, Process, Setting, World}
use Rattle.o2_world.specs.Known.{held_at}
use Rattle.o2_world.specs.Reach.{IsTold, holds_at, holds_of}
use Rattle.o2_world.specs.Run.{after}
use Rattle.o2_world.specs.Sound.{held_in, held_of}
use Rattle.o2_world.specs.Tied.{IsSound}
use Rattle.o2_world.proofs.Numbers.{not_zero}
use Rattle.o2_world.proofs.RunReach.{reach_is}
use Rattle.o2_world.proofs.StepTold.{told_along}
use Rattle.o2_machine.specs.declared.machine.Machine.{Machine}
use Rattle.o2_machine.specs.Reaches.{HoldByLines, ReachesByLines}
use Rattle.o2_machine.specs.StandsFor.{StandsFor}

-- what the process of a number holds is what that at its place holds
by_number : (ps : List Process) (q i : ℕ) (zero_number : Bool) → held_of (if zero_number then None else slice_get ps (q - 1)) i ≡ (if zero_number then None else held_in ps (q - 1) i)
by_number ps q i true = refl
by_number ps q i false = refl

often_by : (zero_number : Bool) (o : Option Held) → (if zero_number then 0 else holds_of o) ≡ holds_of (if zero_number then None else o)
often_by true o = refl
often_by false o = refl

pub held_often : (w : World) (q i : ℕ) → holds_at w q i ≡ holds_of (held_at w.processes q i)
held_often w q i = often_by (q == 0) (held_in w.processes (q - 1) i) ∙ ap holds_of (sym (by_number w.processes q i (q == 0)))

some_times : (n : ℕ) → 0 < n → true ≡ nat_lt 0 n
some_times n some = grind (arith, some)

-- it holds something there exactly where it holds it once or more
pub held_there_if : (w : World) → IsSound w → (q i : ℕ) → 0 < q → is_some (held_at w.processes q i) ≡ nat_lt 0 (holds_at w q i)
held_there_if w sound q i some = go (held_at w.processes q i) refl ∙ ap (nat_lt 0) (sym (held_often w q i))
  where
    here : held_at w.processes q i ≡ held_in w.processes (q - 1) i
    here = by_number w.processes q i (q == 0) ∙ ap (λ (b : Bool). if b then None else held_in w.processes (q - 1) i) (not_zero q some)

    go : (o : Option Held) → held_at w.processes q i ≡ o → is_some o ≡ nat_lt 0 (holds_of o)
    go None e = refl
    go (Some h) e = some_times h.holds (sound.tied.held (q - 1) i h (sym here ∙ e)).1

pub reaches_by_lines : (s : Setting) (w : World) → IsSound w → IsTold w → ReachesByLines s w
reaches_by_lines s w sound told = record {
  often = λ k q i some. sym (reach_is (after s w k) (along k).1 q i some);
  held = λ k q i some. held_there_if (after s w k) (along k).0 q i some ∙ ap (nat_lt 0) (sym (reach_is (after s w k) (along k).1 q i some));
} where
  along : (k : ℕ) → IsSound (after s w k) × IsTold (after s w k)
  along k = told_along s w sound told k

maps_often : (m : Maps) (q i : ℕ) (o : Option HeldThere) → holds_of (option_map (held_of_maps m q i) o) ≡ holds_there o
maps_often m q i None = refl
maps_often m q i (Some h) = refl

maps_held : (m : Maps) (q i : ℕ) (o : Option HeldThere) → is_some (option_map (held_of_maps m q i) o) ≡ is_some o
maps_held m q i None = refl
maps_held m q i (Some h) = refl

in_maps_often : (m : Maps) (q i : ℕ) → holds_of (held_in_maps m q i) ≡ holds_there (held_there m q i)
unfolding held_in_maps
in_maps_often m q i = maps_often m q i (held_there m q i)

in_maps_held : (m : Maps) (q i : ℕ) → is_some (held_in_maps m q i) ≡ is_some (held_there m q i)
unfolding held_in_maps
in_maps_held m q i = maps_held m q i (held_there m q i)

pub hold_by_lines : (m : Machine) (device : ℕ) (block : ℕ → List ℕ) (s : Setting) (w : World) → StandsFor m device block s w → HoldByLines m.space.regions w
hold_by_lines m device block s w stands = record {
  often = λ q i some. sym (in_maps_often m.space.regions q i) ∙ (ap holds_of (sym (stands.space.held q i)) ∙ (sym (held_often w q i) ∙ sym (reach_is w stands.told q i some)));
  held = λ q i some. sym (in_maps_held m.space.regions q i) ∙ (ap is_some (sym (stands.space.held q i)) ∙ (held_there_if w stands.sound q i some ∙ ap (nat_lt 0) (sym (reach_is w stands.told q i some))));
}
