-- What a space keeps behind one change and another.
use Rattle.std.proofs.Common.{◌≡◌, ◌+◌, ℕ, List, ap, sym, ◌∙◌, arith}
use Rattle.std.specs.Prelude.{min}
use Rattle.o2_gate.specs.declared.state.State.{State as Services}
use Rattle.o2_segs.proofs.Sharing.{few_more}
use Rattle.o2_stands.specs.Stands.{IsSetTo}
use Rattle.o2_stepping.specs.Shapes.{SameShape}
use Rattle.o2_world.specs.World.{Setting}
use Rattle.o2_space.proofs.SharedKept.{few_as}
use Rattle.o2_space.specs.Frames.{AddsAtMost, AddsNone, KeepsSpace}
use Rattle.o2_space.specs.Parts.{parts_in}
use Rattle.o2_space.specs.declared.space.Space.{Space}

-- behind what kept it
pub keeps_behind : (m n o : Space) → KeepsSpace n o → KeepsSpace m n → KeepsSpace m o
keeps_behind m n o b a = record {
  memory = b.memory ∙ a.memory;
  segments = b.segments ∙ a.segments;
  blocks = b.blocks ∙ a.blocks;
  count = b.count ∙ a.count;
  processes = b.processes ∙ a.processes;
  avail = b.avail ∙ a.avail;
  images = b.images ∙ a.images;
}

-- whatever the services work on, while they tell as much free memory
pub keeps_retold : {m n : Space} {services : Services} → services.avail ≡ n.services.avail → KeepsSpace m n → KeepsSpace m (record n { services = services })
keeps_retold same a = record { memory = a.memory; segments = a.segments; blocks = a.blocks; count = a.count; processes = a.processes; avail = same ∙ a.avail; images = a.images }

-- what a setting fixes stays, over a device of as many blocks
pub set_kept : (m n : Space) (device count : ℕ) (block holds : ℕ → List ℕ) → KeepsSpace m n → count ≡ device → (s : Setting) → IsSetTo (parts_in m device block) s
    → IsSetTo (parts_in n count holds) s
set_kept m n device count block holds k same s set = record {
  memory = k.memory ∙ set.memory;
  segments = k.segments ∙ set.segments;
  blocks = k.blocks ∙ (set.blocks ∙ ap (λ (d : ℕ). min s.swap d) (sym same));
}

-- where the store keeps its shape, and each process what it holds
pub shape_adds : (m n : Space) → SameShape m.store m.regions n.store n.regions → AddsNone m n
shape_adds m n shape = record { made = shape.tables.made; held = few_as m.regions n.regions shape.holds.held }

pub none_behind : (m n o : Space) → AddsNone n o → AddsNone m n → AddsNone m o
none_behind m n o b a = record { made = b.made ∙ a.made; held = λ k most. b.held k (a.held k most) }

-- as many at most as are allowed
pub none_within : (m n : Space) (segments holds : ℕ) → AddsNone m n → AddsAtMost segments holds m n
none_within m n segments holds a = record {
  made = (let made = a.made in omega (arith, made));
  held = λ k some most. few_more n.regions k (k + holds) (omega arith) (a.held k most);
}

-- behind what adds none, and before it
pub adds_behind : (m n o : Space) (segments holds : ℕ) → AddsAtMost segments holds n o → AddsNone m n → AddsAtMost segments holds m o
adds_behind m n o segments holds b a = record {
  made = (let made = a.made in let more = b.made in omega (arith, made, more));
  held = λ k some most. b.held k some (a.held k most);
}

pub none_added : (m n o : Space) (segments holds : ℕ) → AddsNone n o → AddsAtMost segments holds m n → AddsAtMost segments holds m o
none_added m n o segments holds b a = record {
  made = (let made = a.made in let same = b.made in omega (arith, made, same));
  held = λ k some most. b.held (k + holds) (a.held k some most);
}

pub adds_retold : {m n : Space} {services : Services} {segments holds : ℕ} → AddsAtMost segments holds m n → AddsAtMost segments holds m (record n { services = services })
adds_retold a = record { made = a.made; held = a.held }
