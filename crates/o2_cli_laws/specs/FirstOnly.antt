-- A machine file's setting with its first process alone.
use Rattle.std.specs.Prelude.{[], ◌∷◌}
use Rattle.o2_conf.specs.declared.conf.Conf.{Conf}
use Rattle.o2_conf.specs.declared.process.Process.{Process}

-- the same in all but the processes, of which there is this one, and the script, which is empty
abbrev pub first_only : Conf → Process → Conf
first_only c p = record c { process = p ∷ []; script = [] }
