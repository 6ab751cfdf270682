use Rattle.std.proofs.lemmas.Option.{slice_get_within}
use Rattle.o2_segbus.proofs.Writings.{inside_is}
use Rattle.o2_service.proofs.Among.{all_live_same}
use Rattle.o2_stepping.proofs.Bringing.{can_step}
use Rattle.o2_stepping.proofs.Goings.{goes_served}
use Rattle.o2_stepping.proofs.Keeping.{only_holds, ready_same}
use Rattle.o2_stepping.proofs.Named.{ages_present}
use Rattle.o2_stepping.proofs.Worlds.{bytes_same}
use Rattle.o2_stepping.specs.Shapes.{SameShape}
use Rattle.o2_stepping.proofs.in_store.bring.Goals as goal

pub returns-clause-bytes : goal.returns-clause-bytes
returns-clause-bytes g c = λ tells n.
    let S = g.S.SwapDevice in
    let s = c.args.store.now in
    let t = c.serve-served.new.store in
    bytes_same c.args.images.now (S.told c.serve-served.new.swap) s t c.args.regions.now c.serve-served.new.regions (S.blocks c.args.swap.now) (S.blocks c.serve-served.new.swap) (S.block c.args.swap.now) (S.block c.serve-served.new.swap)
    (inside_is s c.law.ensures.shelf c.law.ensures.within) (inside_is t c.law-2.ensures.shelf c.law-2.ensures.within) c.serve-served.ensures.keeps tells n

pub returns-clause-shape : goal.returns-clause-shape
returns-clause-shape g c = record {
  tables = c.serve-served.ensures.keeps.tables;
  swap = c.serve-served.ensures.map;
  holds = only_holds c.args.regions.now c.serve-served.new.regions c.serve-served.ensures.maps;
}

pub returns-clause-ready : goal.returns-clause-ready
returns-clause-ready g c =
    let S = g.S.SwapDevice in
    let w : SameShape c.args.store.now c.args.regions.now c.serve-served.new.store c.serve-served.new.regions = record {
      tables = c.serve-served.ensures.keeps.tables;
      swap = c.serve-served.ensures.map;
      holds = only_holds c.args.regions.now c.serve-served.new.regions c.serve-served.ensures.maps;
    } in
    ready_same c.args.images.now c.args.store.now c.serve-served.new.store c.args.regions.now c.serve-served.new.regions (S.blocks c.args.swap.now) (S.blocks c.serve-served.new.swap) (S.block c.args.swap.now) (S.block c.serve-served.new.swap)
    c.requires.ready w c.serve-served.ensures.device.blocks c.serve-served.ensures.settled c.serve-served.ensures.clean

pub returns-clause-can_step : goal.returns-clause-can_step
returns-clause-can_step g c = λ here.
    let S = g.S.SwapDevice in
    let w : SameShape c.args.store.now c.args.regions.now c.serve-served.new.store c.serve-served.new.regions = record {
      tables = c.serve-served.ensures.keeps.tables;
      swap = c.serve-served.ensures.map;
      holds = only_holds c.args.regions.now c.serve-served.new.regions c.serve-served.ensures.maps;
    } in
    let ready = ready_same c.args.images.now c.args.store.now c.serve-served.new.store c.args.regions.now c.serve-served.new.regions (S.blocks c.args.swap.now) (S.blocks c.serve-served.new.swap) (S.block c.args.swap.now) (S.block c.serve-served.new.swap)
    c.requires.ready w c.serve-served.ensures.device.blocks c.serve-served.ensures.settled c.serve-served.ensures.clean in
    can_step c.serve-served.new.store c.args.regions.now c.serve-served.new.regions c.args.pid c.args.cpu.now c.args.need.now c.requires.process w.holds ready.named ready.settled
    (c.serve-served.ensures.here here) c.requires.seats

pub returns-clause-here : goal.returns-clause-here
returns-clause-here g c = λ here n e.
    let S = g.S.SwapDevice in
    let t = c.serve-served.new.store in
    let need = c.args.need.now in
    let w : SameShape c.args.store.now c.args.regions.now t c.serve-served.new.regions = record {
      tables = c.serve-served.ensures.keeps.tables;
      swap = c.serve-served.ensures.map;
      holds = only_holds c.args.regions.now c.serve-served.new.regions c.serve-served.ensures.maps;
    } in
    let ready = ready_same c.args.images.now c.args.store.now t c.args.regions.now c.serve-served.new.regions (S.blocks c.args.swap.now) (S.blocks c.serve-served.new.swap) (S.block c.args.swap.now) (S.block c.serve-served.new.swap)
    c.requires.ready w c.serve-served.ensures.device.blocks c.serve-served.ensures.settled c.serve-served.ensures.clean in
    let live = all_live_same c.args.store.now t need w.tables c.requires.live in
    let placed = c.serve-served.ensures.here here in
    ages_present t need ready.aged (λ i p f. live.each i p f) (λ i p f. placed.each i p (slice_get_within need i p f) f) n e

pub serve-served-requires-clause-backed : goal.serve-served-requires-clause-backed
serve-served-requires-clause-backed g c = record { clean = c.requires.ready.clean; device = c.requires.ready.device }

pub returns-clause-leave : goal.returns-clause-leave
returns-clause-leave g c = λ here.
    goes_served c.args.store.now c.serve-served.new.store c.serve-served.ensures.keeps.tables c.law.ensures.shelf c.law-2.ensures.shelf c.law.ensures.sum c.law-2.ensures.sum (c.serve-served.ensures.leave here)
