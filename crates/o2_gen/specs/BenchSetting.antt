-- The setting of a bench with n processes of its module, which have no arguments and environment strings.
use Rattle.std.specs.Prelude.{ℕ, [], ◌∷◌, None, codes, replicate}
use Rattle.o2_conf.specs.declared.conf.Conf.{Conf}
use Rattle.o2_conf.specs.Alone.{bare_process}
use Rattle.o2_conf.specs.Ordinals.{default_ordinals}

abbrev pub bench_setting : ℕ → Conf
bench_setting n = record {
  memory = 32768;
  swap = 16384;
  segments = 2048;
  budget = 1000000;
  quantum = 7;
  avail = 0;
  modules = codes "bench.exe" ∷ [];
  process = replicate n (bare_process (codes "BENCH"));
  ordinals = default_ordinals;
  script = [];
  shim = None;
}
