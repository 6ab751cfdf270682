-- Lines that are put one behind another, each by a put of its own.
use Rattle.std.specs.Prelude.{◌≡◌, ℕ, ◌+◌, List, length, Option}
use Rattle.o2_outer.specs.declared.sink.Put.{Put}
use Rattle.o2_outer.specs.declared.sink.Put.TheVariants.{Done, Failed}
use Rattle.o2_outer.specs.Texts.{Gains}
use Rattle.o2_world.specs.World.{Line}
use Rattle.o2_world.specs.Text.{lines_text}
use Rattle.o2_run.specs.Pieces.{FailsInLine}

-- all of them, or those in front of the one that failed, and none behind it
abbrev pub PutsLines : List Line → (text_old text_new : Option (List ℕ)) → (before now : ℕ) → Put → Type 0
PutsLines lines r q before now Done = Gains r q (lines_text lines) × (now ≡ before + length lines)
PutsLines lines r q before now Failed = FailsInLine lines r q before now
