-- The world that a call begins with.
use Rattle.std.specs.Prelude.{ℕ, []}
use Rattle.o2_boundless.specs.Shown.{Shown}

-- a world without processes
abbrev pub bare_world : (segments avail : ℕ) → Shown
bare_world segments avail = record {
  world = record {
    names = [];
    next_name = 0;
    processes = [];
    reserved = [];
    texts = [];
    input = [];
    dispatch = record { script = []; current = 0; left = 0; turn = 0; budget = 0 };
    console = [];
    lines = [];
  };
  report = [];
  segments = segments;
  avail = avail;
}
