-- The flags, the lock count and the mark of a segment, as the rows read them.
use Rattle.std.specs.Prelude.{◌≡◌}
use Rattle.o2_entries.specs.declared.Attr.{Attr}
use Rattle.o2_world.specs.Known.{Marks}

pub record IsMarked (a : Attr) (m : Marks) : Type 0 where
  pub flags : m.flags ≡ a.flags
  pub lock : m.lock ≡ a.lock
  pub discarded : m.discarded ≡ a.gone
