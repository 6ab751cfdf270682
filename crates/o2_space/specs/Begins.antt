-- From which world a step of a process of a space begins.
use Rattle.std.specs.Prelude.{◌≡◌, ℕ, List, Option, Some}
use Rattle.o2_calls.specs.SharedActs.{AreSpelled}
use Rattle.o2_gate.specs.Befores.{IsKnown}
use Rattle.o2_stands.specs.Stands.{IsSetTo, Stands}
use Rattle.o2_world.specs.Holders.{process_at}
use Rattle.o2_world.specs.Known.{known_of}
use Rattle.o2_world.specs.Run.{next_dispatch, words_coming}
use Rattle.o2_world.specs.Tied.{IsSound}
use Rattle.o2_world.specs.World.{Process, Setting, World}
use Rattle.o2_space.specs.Parts.{parts_in}
use Rattle.o2_space.specs.declared.space.Space.{Space}

-- The space stands for this world, over a device of so many blocks that hold this; the world's process of this number is this one.
pub record StandsAt (m : Space) (device : ℕ) (block : ℕ → List ℕ) (w : World) (number : ℕ) (x : Process) : Type 0 where
  pub stands : Stands (parts_in m device block) w
  pub process : process_at w.processes number ≡ Some x

-- The same; the world's input is what is left of the input, and the services tell what is known there.
pub record Begins (m : Space) (device : ℕ) (block : ℕ → List ℕ) (s : Setting) (w : World) (number : ℕ) (x : Process) (left : Option (List ℕ)) : Type 0 where
  pub here : StandsAt m device block w number x
  pub input : left ≡ Some w.input
  pub known : IsKnown (known_of s w) m.services

-- The space has the memory, the segments and the blocks of the setting, and keeps the names of the world's texts.
pub record AgreesWith (m : Space) (device : ℕ) (block : ℕ → List ℕ) (s : Setting) (w : World) : Type 0 where
  pub set : IsSetTo (parts_in m device block) s
  pub spelled : AreSpelled m.store m.names w

-- The same; the world is sound, no word comes before its next step, and that is one of the process of this number.
pub record HasTurn (m : Space) (device : ℕ) (block : ℕ → List ℕ) (s : Setting) (w : World) (number : ℕ) : Type 0 where
  pub agrees : AgreesWith m device block s w
  pub sound : IsSound w
  pub turn : (next_dispatch s w).current ≡ number
  pub wordless : words_coming w ≡ 0
