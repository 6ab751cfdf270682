-- A world without its bytes, registers and dispatch: what changes go by.
use Rattle.std.specs.Prelude.{ℕ, List, [], map}
use Rattle.o2_world.specs.Map.{Map}
use Rattle.o2_world.specs.World.{Held, Process, Reserve, Segment, World}

-- the segments without bytes, what each process holds, in order, and the rest
pub record Bare : Type 0 where
  pub names : Map Segment
  pub next : ℕ
  pub held : List (Map Held)
  pub reserved : List Reserve
  pub texts : List (List ℕ × ℕ)

abbrev pub bare_names : Map Segment → Map Segment
bare_names names = map (λ (e : ℕ × Segment). (e.0, record e.1 { bytes = [] })) names

abbrev pub held_maps : List Process → List (Map Held)
held_maps ps = map (λ (p : Process). p.held) ps

abbrev pub bare : World → Bare
bare w = record { names = bare_names w.names; next = w.next_name; held = held_maps w.processes; reserved = w.reserved; texts = w.texts }
