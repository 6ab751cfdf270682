-- The world that a space stands for behind some steps that are done at once.
use Rattle.std.specs.Prelude.{◌≡◌, ◌<◌, ℕ, ◌-◌, true}
use Rattle.o2_conf.specs.Dispatch.{Dispatch}
use Rattle.o2_run.specs.Slice.{AreSilent}
use Rattle.o2_stands.specs.Parts.{Parts}
use Rattle.o2_stands.specs.Stands.{Stands}
use Rattle.o2_world.specs.World.{Setting, World}
use Rattle.o2_world.specs.Run.{after, live_flags, next_dispatch, words_coming}

-- so many steps of a turn are counted
abbrev pub counted_by : ℕ → Dispatch → Dispatch
counted_by k d = record d { left = d.left - k; budget = d.budget - k }

-- the parts stand for the world k steps later: before none of them a word came, they put nothing, took nothing, named nothing and fitted,
-- and are counted; all that lived live on
pub record StandsLater (p : Parts) (s : Setting) (w : World) (k : ℕ) : Type 0 where
  pub stands : Stands p (after s w k)
  pub wordless : (j : ℕ) → j < k → words_coming (after s w j) ≡ 0
  pub silent : AreSilent true s w k
  pub texts : (after s w k).texts ≡ w.texts
  pub flags : live_flags (after s w k).processes ≡ live_flags w.processes
  pub dispatch : 0 < k → (after s w k).dispatch ≡ counted_by k (next_dispatch s w)
