-- What stands for a world over one swap device stands for it over each other that leaves as many blocks in use.
use Rattle.std.proofs.Common.{◌≡◌, ◌≤◌, ℕ, List, Option, Some, None, ◌∙◌, sym}
use Rattle.std.specs.Prelude.{min}
use Rattle.o2_image.specs.ImageList.{ImageList}
use Rattle.o2_regions.specs.Maps.{Maps}
use Rattle.o2_store.specs.Shelf.{Shelf}
use Rattle.o2_segbus.specs.Seen.{key_of}
use Rattle.o2_swapmap.specs.Piles.{all_of}
use Rattle.o2_world.specs.Map.{get}
use Rattle.o2_world.specs.World.{Segment, Setting, World}
use Rattle.o2_stands.specs.Parts.{Parts, Running}
use Rattle.o2_stands.specs.Stands.{IsNamed, IsReady, IsSegment, IsSetTo, Stands}

module _ (t : Shelf) (n : Maps) (images : ImageList) (running : ℕ → Option Running) (first device : ℕ) (block holds : ℕ → List ℕ) where
  abbrev pub parts_first : Parts
  parts_first = record { shelf = t; maps = n; images = images; device = first; block = block; running = running }

  abbrev pub parts_then : Parts
  parts_then = record { shelf = t; maps = n; images = images; device = device; block = block; running = running }

  pub ready_over : all_of t.swap ≤ device → IsReady parts_first → IsReady (record parts_then { block = holds })
  ready_over fits r = record {
    aged = r.aged;
    named = r.named;
    held = r.held;
    settled = r.settled;
    guarded = r.guarded;
    clean = r.clean;
    pictures = r.pictures;
    device = fits;
  }

  segment_over : (k : ℕ) (x : Segment) → IsSegment parts_first k x → IsSegment parts_then k x
  segment_over k x is = record { size = is.size; bytes = is.bytes; clean = is.clean; flags = is.flags; lock = is.lock; shared = is.shared; discarded = is.discarded }

  named_over : (o : Option ℕ) (v : Option Segment) → IsNamed parts_first o v → IsNamed parts_then o v
  named_over None None is = is
  named_over (Some k) None is = absurd is
  named_over None (Some x) is = absurd is
  named_over (Some k) (Some x) is = segment_over k x is

  pub set_over : (s : Setting) → min s.swap device ≡ min s.swap first → IsSetTo parts_first s → IsSetTo parts_then s
  set_over s same set = record { memory = set.memory; segments = set.segments; blocks = set.blocks ∙ sym same }

module _ (t : Shelf) (n : Maps) (images : ImageList) (running : ℕ → Option Running) (first device : ℕ) (block : ℕ → List ℕ) where
  pub stands_over : (w : World) → all_of t.swap ≤ device → Stands (parts_first t n images running first device block block) w → Stands (parts_then t n images running first device block block) w
  stands_over w fits x = record {
    ready = ready_over t n images running first device block block fits x.ready;
    segments = λ name. named_over t n images running first device block block (key_of t name) (get w.names name) (x.segments name);
    made = x.made;
    processes = x.processes;
    held = x.held;
    taken = x.taken;
    tidy = x.tidy;
  }
