-- What a step that waits leaves: the world as it was, but for whose turn it is and the budget.
use Rattle.std.specs.Prelude.{◌≡◌, ℕ, ◌-◌}
use Rattle.o2_conf.specs.Dispatch.{Dispatch}
use Rattle.o2_world.specs.Map.{get}
use Rattle.o2_world.specs.World.{World}

-- whose turn it is after so many steps more of a slice or turn
abbrev pub spent : ℕ → Dispatch → Dispatch
spent k d = record d { left = d.left - k; budget = d.budget - k }

-- the same world with this dispatch; names are seen by look-ups alone
pub record IsButDispatch (w : World) (d : Dispatch) (v : World) : Type 0 where
  pub names : get v.names ≡ get w.names
  pub others : v ≡ record w { names = v.names; dispatch = d }
