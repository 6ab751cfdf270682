use Rattle.std.proofs.Common.{◌≡◌, ◌∙◌, sym, ap, subst}
use Rattle.std.specs.Prelude.{option_map}
use Rattle.o2_image.specs.Getters.{nth}
use Rattle.o2_image.specs.ImageList.{ImageList, Resolution}
use Rattle.o2_world.specs.Starts.{Loaded}
use Rattle.o2_load.specs.Holds.{AddsAll, stage}
use Rattle.o2_load.specs.Loads.{loaded, loaded_module, all_holdings}
use Rattle.o2_load.proofs.Wholes.{loaded_by}
use Rattle.o2_load.proofs.holdings.hold_module.Goals as goal

pub returns-clause-adds : goal.returns-clause-adds
returns-clause-adds g c =
    let S = g.S.Segments in
    let images = c.args.linked.now.images in
    let at = sym (c.in-Some.ensures ∙ ap (λ (z : ImageList). option_map (λ (q : Resolution). q.0) (nth z.modules c.args.place)) c.images.ensures.value) in
    let is : loaded images c.args.place ≡ loaded_module images c.args.place c.in-Some.module.now = loaded_by images c.args.place (nth images.modules c.args.place) c.in-Some.module.now at in
    subst (λ (l : Loaded). AddsAll (S.names c.args.build.now.segments images) (stage (S.seen c.args.build.now.segments) c.args.build.now)
    (S.names c.hold_segments.new.build.segments images) (stage (S.seen c.hold_segments.new.build.segments) c.hold_segments.new.build) c.args.pid (all_holdings l) c.hold_segments.result) (sym is)
    c.hold_segments.ensures.adds
