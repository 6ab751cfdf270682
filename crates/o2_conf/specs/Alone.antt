-- The setting of a program that is run alone.
use Rattle.std.specs.Prelude.{ℕ, List, [], ◌∷◌, None}
use Rattle.o2_conf.specs.declared.conf.Conf.{Conf}
use Rattle.o2_conf.specs.declared.process.Process.{Process}
use Rattle.o2_conf.specs.Ordinals.{default_ordinals}

-- a process of this module, without arguments and environment strings
abbrev pub bare_process : List ℕ → Process
bare_process name = record { «module» = name; arguments = []; environment = [] }

-- that of the module `name` in `file`
abbrev pub exe_setting : List ℕ → List ℕ → Conf
exe_setting file name = record {
  memory = 1048576;
  swap = 2048;
  segments = 1024;
  budget = 1000000;
  quantum = 1000;
  avail = 524288;
  modules = file ∷ [];
  process = bare_process name ∷ [];
  ordinals = default_ordinals;
  script = [];
  shim = None;
}
