-- From where a step begins, and where it is once it asks for a call.
use Rattle.std.proofs.Common.{◌≡◌, ℕ, List, refl}
use Rattle.o2_calls.specs.Acts.{IsOver}
use Rattle.o2_calls.specs.SharedActs.{Spells}
use Rattle.o2_stands.specs.Stands.{AreLawful, Stands}
use Rattle.o2_stepping.specs.Shapes.{SameShape}
use Rattle.o2_world.specs.World.{Setting, World}
use Rattle.o2_space.specs.Begins.{AgreesWith, HasTurn}
use Rattle.o2_space.specs.Frames.{KeepsSpace}
use Rattle.o2_space.specs.Parts.{parts_in}
use Rattle.o2_space.specs.Stands.{GoTogether}
use Rattle.o2_space.specs.declared.space.Space.{Space}
use Rattle.o2_space.proofs.Framing.{set_kept}
use Rattle.o2_space.proofs.SharedKept.{spells_of}
use Rattle.o2_space.proofs.Spelling.{spelled_by, spelled_shape}

-- what the calls on segments ask of a space that stands for a world
module _ (m : Space) (device : ℕ) (block : ℕ → List ℕ) (s : Setting) (w : World) (stands : Stands (parts_in m device block) w) (agrees : AgreesWith m device block s w) where
  pub over_here : AreLawful m.store m.regions → IsOver m.store m.regions m.images block (parts_in m device block) s w
  over_here lawful = record { store = refl; regions = refl; pictures = refl; blocks = refl; lawful = lawful; set = agrees.set; stands = stands }

  pub spells_here : GoTogether m device → Spells m.store m.regions m.names m.ends (parts_in m device block) w
  spells_here together = spells_of m device block w together stands agrees.spelled

-- a step that only asks for a call leaves it the turn
module _ (m n : Space) (device count : ℕ) (block holds : ℕ → List ℕ) (keeps : KeepsSpace m n) (same : count ≡ device) (shape : SameShape m.store m.regions n.store n.regions) (names : n.names ≡ m.names)
    (s : Setting) (w : World) where
  pub agrees_kept : AgreesWith m device block s w → AgreesWith n count holds s w
  agrees_kept agrees = record {
    set = set_kept m n device count block holds keeps same s agrees.set;
    spelled = spelled_by n.store m.names n.names w names (spelled_shape m.store n.store shape.tables m.names w agrees.spelled);
  }

  pub turn_kept : (number : ℕ) → HasTurn m device block s w number → HasTurn n count holds s w number
  turn_kept number t = record { agrees = agrees_kept t.agrees; sound = t.sound; turn = t.turn; wordless = t.wordless }
