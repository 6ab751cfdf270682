-- What a command runs from.
use Rattle.std.specs.Prelude.{◌≡◌, ℕ, List, Result, Ok}
use Rattle.o2_base.specs.declared.faults.ModuleFault.{ModuleFault}
use Rattle.o2_image.specs.ImageList.{ImageList}
use Rattle.o2_words.specs.declared.words.Verb.{Verb}
use Rattle.o2_world.specs.World.{World, Setting}
use Rattle.o2_machine.specs.Begins.{setting_of, opening}
use Rattle.o2_open.specs.declared.fault.OpenFault.{OpenFault}
use Rattle.o2_open.specs.declared.session.Session.{Session}
use Rattle.o2_open.specs.Loads.{Contents, loaded, start_refusal, under, ◌>>=◌}

-- its setting, the world before the first step, and the images of its modules and environments
pub record Opened : Type 0 where
  pub setting : Setting
  pub world : World
  pub images : ImageList

abbrev pub with_setting : Session → World → Result Opened OpenFault
with_setting s w = Ok (record { setting = setting_of s.conf; world = w; images = s.linked.images })

-- a start that is refused
abbrev pub refusal : Session → ℕ × ModuleFault → OpenFault
refusal s f = start_refusal s.conf s.linked.programs f.0 f.1

-- all processes of a session start, with this input
unfoldable pub started : Session → List ℕ → Result Opened OpenFault
started s input = under (refusal s) (opening s.linked s.conf input) >>= with_setting s

-- what the command runs, or its first refusal: of the machine file, of each module in its order, of linking, of each start
abbrev pub opened : Verb → Contents → List ℕ → List ℕ → Result Opened OpenFault
opened verb contents name input = loaded verb contents name >>= (λ s. started s input)

-- its processes start, and P holds of its setting and of the world before the first step
pub record StartsWith (s : Session) (input : List ℕ) (P : Opened → Type 0) : Type 0 where
  pub start : Opened
  pub starts : started s input ≡ Ok start
  pub runs : P start
