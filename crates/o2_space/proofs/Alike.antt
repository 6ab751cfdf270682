-- What the calls ask for, and what a setting fixes, is the same whatever the blocks hold and however far the processes are.
use Rattle.std.proofs.Common.{ℕ, List, Option}
use Rattle.o2_image.specs.ImageList.{ImageList}
use Rattle.o2_regions.specs.Maps.{Maps}
use Rattle.o2_store.specs.Shelf.{Shelf}
use Rattle.o2_world.specs.World.{Setting}
use Rattle.o2_stands.specs.Parts.{Parts, Running}
use Rattle.o2_stands.specs.Stands.{IsReady, IsSetTo}
use Rattle.o2_gate.specs.declared.state.State.{State as Services}
use Rattle.o2_space.specs.Stands.{GoTogether}
use Rattle.o2_space.specs.declared.space.Space.{Space}

abbrev pub made : Shelf → Maps → ImageList → ℕ → (ℕ → List ℕ) → (ℕ → Option Running) → Parts
made s m images device block running = record { shelf = s; maps = m; images = images; device = device; block = block; running = running }

module _ (s : Shelf) (m : Maps) (images : ImageList) (device : ℕ) (b c : ℕ → List ℕ) (r t : ℕ → Option Running) where
  pub ready_as : IsReady (made s m images device b r) → IsReady (made s m images device c t)
  ready_as w = record {
    aged = w.aged;
    named = w.named;
    held = w.held;
    settled = w.settled;
    guarded = w.guarded;
    clean = w.clean;
    pictures = w.pictures;
    device = w.device;
  }

  pub set_as : (z : Setting) → IsSetTo (made s m images device b r) z → IsSetTo (made s m images device c t) z
  set_as z w = record { memory = w.memory; segments = w.segments; blocks = w.blocks }

-- what goes together does so whatever the services work on
pub retold : {m : Space} {device : ℕ} {services : Services} → GoTogether m device → GoTogether (record m { services = services }) device
retold t = record { ready = t.ready; numbers = t.numbers; marked = t.marked; whole = t.whole; one = t.one; places = t.places }
