use Rattle.std.proofs.Common.{subst, refl, ◌+◌, false}
use Rattle.o2_desc.specs.Bits.{writable_data}
use Rattle.o2_image.specs.Getters.{nth_list}
use Rattle.o2_image.specs.ImageList.{ImageList}
use Rattle.o2_load.specs.declared.starting_memory.Grip.{Grip}
use Rattle.o2_load.specs.Holds.{AddsNew, gripped, bytes_with_room, stage}
use Rattle.o2_load.specs.Loads.{environment_of}
use Rattle.o2_load.proofs.Held.{adds_new}
use Rattle.o2_load.proofs.Images.{environment_is}
use Rattle.o2_load.proofs.holdings.hold_environment.Goals as goal

pub returns-clause-adds : goal.returns-clause-adds
returns-clause-adds g c =
    let S = g.S.Segments in
    let images = c.args.linked.now.images in
    let grip : Grip = record { index = c.args.count + 1; place = 0; number = c.args.pid; rights = writable_data; common = false } in
    let env = nth_list images.environments c.args.pid in
    let before = S.names c.args.build.now.segments in
    let after = S.names c.add.new.self.segments in
    let x = stage (S.seen c.args.build.now.segments) c.args.build.now in
    let y = stage (S.seen c.add.new.self.segments) c.add.new.self in
    adds_new (before images) (after images) x y c.args.pid grip (environment_of c.args.pid c.args.count env) refl (bytes_with_room images grip c.args.size 0) c.add.result
    (environment_is images c.args.pid c.args.size c.requires.size) refl
    (subst (λ (z : ImageList). AddsNew (before z) x (after z) y c.args.pid (gripped grip (bytes_with_room z grip c.args.size 0)) c.add.result) c.images.ensures.value c.add.ensures.adds)
