use Rattle.std.proofs.Common.{ap, ◌∙◌, sym, subst, ℕ, ◌≡◌, ◌++◌, true, replicate}
use Rattle.std.specs.Prelude.{Ok}
use Rattle.o2_ne_segs.specs.declared.segment.Segment.{Segment}
use Rattle.o2_image.specs.ImageList.{ImageList, HasImage, image_front}
use Rattle.o2_world.proofs.Keeps.{some_is}
use Rattle.o2_load.specs.Holds.{Adds, AddsNew, gripped, bytes_with_room, stage}
use Rattle.o2_load.specs.Loads.{segment_holding}
use Rattle.o2_load.proofs.Held.{adds_made, adds_new}
use Rattle.o2_load.proofs.Images.{has_image, first_bytes_are}
use Rattle.o2_load.proofs.Takes.{takes_segment}
use Rattle.o2_load.proofs.module_segments.hold_segment.Goals as goal

pub hold-requires-clause-name : goal.hold-requires-clause-name
hold-requires-clause-name g c = c.in-Some-found.ensures.some (g.S.Segments.seen c.args.build.now.segments).count c.requires.ready.made

pub hold-requires-clause-takes : goal.hold-requires-clause-takes
hold-requires-clause-takes g c =
    let m = g.S.Segments.seen c.args.build.now.segments in
    subst (λ (i : ℕ). m.takes c.args.pid i ≡ true) (sym (c.grip-grip.ensures.index ∙ c.requires.index))
    (takes_segment (g.S.Segments.whole c.args.build.now.segments) m c.args.build.now.made c.args.linked.now c.args.pid c.args.place c.args.n c.args.module.now c.requires.ready c.requires.process c.requires.place
    c.is_runnable.ensures c.requires.there)

pub hold-requires-clause-rights : goal.hold-requires-clause-rights
hold-requires-clause-rights g c = c.grip-grip.ensures.rights

pub add-requires-clause-image : goal.add-requires-clause-image
add-requires-clause-image g c =
    let has = has_image c.args.linked.now.images c.args.place c.args.n c.args.module.now c.in-Some.segment c.requires.place (sym c.in-Some.ensures) in
    subst (λ (z : ImageList). HasImage z c.grip-grip.result.place c.grip-grip.result.number) (sym c.images.ensures.value)
    (subst (λ (k : ℕ). HasImage c.args.linked.now.images k c.grip-grip.result.number) (sym c.grip-grip.ensures.place)
    (subst (λ (k : ℕ). HasImage c.args.linked.now.images c.args.place k) (sym c.grip-grip.ensures.number) has))

pub add-requires-clause-rights : goal.add-requires-clause-rights
add-requires-clause-rights g c = c.grip-grip.ensures.rights

pub add-requires-clause-takes : goal.add-requires-clause-takes
add-requires-clause-takes g c =
    let m = g.S.Segments.seen c.args.build.now.segments in
    subst (λ (i : ℕ). m.takes c.args.pid i ≡ true) (sym (c.grip-grip.ensures.index ∙ c.requires.index))
    (takes_segment (g.S.Segments.whole c.args.build.now.segments) m c.args.build.now.made c.args.linked.now c.args.pid c.args.place c.args.n c.args.module.now c.requires.ready c.requires.process c.requires.place
    c.is_runnable.ensures c.requires.there)

pub returns-in_ok-hold-in-Some-found-clause-adds : goal.returns-in_ok-hold-in-Some-found-clause-adds
returns-in_ok-hold-in-Some-found-clause-adds g c = λ s e.
    let S = g.S.Segments in
    let images = c.args.linked.now.images in
    let h = segment_holding images c.args.place c.args.module.now c.args.n c.in-Some.segment in
    let before = S.names c.args.build.now.segments images in
    let after = S.names c.hold.new.self.segments images in
    let x = stage (S.seen c.args.build.now.segments) c.args.build.now in
    let y = stage (S.seen c.hold.new.self.segments) c.hold.new.self in
    subst (λ (z : Segment). Adds before x after y c.args.pid (segment_holding images c.args.place c.args.module.now c.args.n z) (Ok tt)) (some_is c.in-Some.segment s _ (sym c.in-Some.ensures) e)
    (adds_made before after x y c.args.pid c.grip-grip.result h (c.grip-grip.ensures.grip images h.bytes c.requires.index) c.in-Some-found.name c.in-Some-found.ensures.value
    (c.in_ok-hold-in-Some-found.ensures.adds images))

pub returns-in_ok-hold-in-Some-found-clause-ready : goal.returns-in_ok-hold-in-Some-found-clause-ready
returns-in_ok-hold-in-Some-found-clause-ready g c = c.in_ok-hold-in-Some-found.ensures.ready c.args.linked.now c.requires.ready

pub returns-in-None-clause-adds : goal.returns-in-None-clause-adds
returns-in-None-clause-adds g c = λ s e.
    let S = g.S.Segments in
    let images = c.args.linked.now.images in
    let m = c.args.module.now in
    let segment = c.in-Some.segment in
    let grip = c.grip-grip.result in
    let h = segment_holding images c.args.place m c.args.n segment in
    let before = S.names c.args.build.now.segments in
    let after = S.names c.add.new.self.segments in
    let x = stage (S.seen c.args.build.now.segments) c.args.build.now in
    let y = stage (S.seen c.add.new.self.segments) c.add.new.self in
    let room = c.room_behind-room.result in
    let bytes : bytes_with_room images grip segment.size room ≡ h.bytes =
    ap (λ (k : ℕ). image_front images k grip.number segment.size ++ replicate room 0) c.grip-grip.ensures.place
    ∙ ap (λ (k : ℕ). image_front images c.args.place k segment.size ++ replicate room 0) c.grip-grip.ensures.number
    ∙ ap (λ (k : ℕ). image_front images c.args.place c.args.n segment.size ++ replicate k 0) c.room_behind-room.ensures ∙ first_bytes_are images c.args.place c.args.n m segment in
    subst (λ (z : Segment). Adds (before images) x (after images) y c.args.pid (segment_holding images c.args.place m c.args.n z) c.add.result) (some_is segment s _ (sym c.in-Some.ensures) e)
    (adds_new (before images) (after images) x y c.args.pid grip h (c.grip-grip.ensures.grip images h.bytes c.requires.index) (bytes_with_room images grip segment.size room) c.add.result bytes c.in-None.ensures.value
    (subst (λ (z : ImageList). AddsNew (before z) x (after z) y c.args.pid (gripped grip (bytes_with_room z grip segment.size room)) c.add.result) c.images.ensures.value c.add.ensures.adds))
