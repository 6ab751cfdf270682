-- What a process of the world sees is what its step in the store starts from.
use Rattle.std.proofs.Common.{◌≡◌, ℕ, List, Option, Some, None, ap, sym, ◌∙◌, refl, cond}
use Rattle.o2_isa.specs.declared.cpu.Cpu.{Cpu}
use Rattle.o2_isa.specs.View.{View, Filling, Hidden, no_hidden, no_rest}
use Rattle.o2_segbus.specs.Seen.{bytes_in as bytes_there, key_of, present_in, seen_with}
use Rattle.o2_world.specs.Holders.{process_at}
use Rattle.o2_world.specs.Known.{known_of}
use Rattle.o2_world.specs.Views.{bytes_in, view_of}
use Rattle.o2_world.specs.World.{Process, Setting, World}
use Rattle.o2_world.specs.Run.{before}
use Rattle.o2_stands.specs.Parts.{Parts, away_in, away_under}
use Rattle.o2_stands.specs.Stands.{AreLawful, Stands}
use Rattle.o2_stands.proofs.Views.{name_bytes, view_is}
use Rattle.o2_stepping.specs.Worlds.{away_of, before_in, bytes_with, parts_of, world_view}

-- the bytes of names that are out of memory don't hang on the processes
pub away_is : (p : Parts) (n : ℕ) → away_of p.shelf p.maps p.images p.device p.block n ≡ away_in p n
unfolding away_in
away_is p n = go (key_of p.shelf n)
  where
    go : (o : Option ℕ) → away_under (parts_of p.shelf p.maps p.images p.device p.block) o ≡ away_under p o
    go None = refl
    go (Some k) = refl

-- the bytes of all names for what is hidden
abbrev whole_hidden : Hidden
whole_hidden = record no_hidden { away = λ n out. out n }

abbrev filling : Parts → Filling
filling p = record { blocks = away_of p.shelf p.maps p.images p.device p.block; hidden = no_hidden }

module _ (p : Parts) (w : World) (lawful : AreLawful p.shelf p.maps) (stands : Stands p w) where
  abbrev pub away : ℕ → List ℕ
  away = away_of p.shelf p.maps p.images p.device p.block

  pub bytes_are : (n : ℕ) → bytes_with away p.shelf n ≡ bytes_in w.names n
  bytes_are n =
      ap (λ (bs : List ℕ). cond (present_in p.shelf n) (bytes_there p.shelf n) bs) (away_is p n)
      ∙ sym (name_bytes p w.processes w.names w.next_name w.reserved lawful stands n)

  pub sight_is : (pid : ℕ) (x : Process) → process_at w.processes pid ≡ Some x → view_of w.names x ≡ world_view away p.shelf p.maps pid x.cpu
  unfolding seen_with
  sight_is pid x there =
      view_is p w.processes w.names w.next_name w.reserved lawful stands pid x no_rest whole_hidden (filling p) there (record { away = λ n e. away_is p n })

  pub before_is : (s : Setting) (pid : ℕ) (x : Process) (c : Cpu) → process_at w.processes pid ≡ Some x → c ≡ x.cpu
      → before_in away p.shelf p.maps pid c w.input (known_of s w) ≡ before s w pid x
  before_is s pid x c there same =
      ap (λ (z : Cpu). before_in away p.shelf p.maps pid z w.input (known_of s w)) same
      ∙ ap (λ (v : View). record { number = pid; cpu = x.cpu; view = v; known = known_of s w; input = w.input }) (sym (sight_is pid x there))
