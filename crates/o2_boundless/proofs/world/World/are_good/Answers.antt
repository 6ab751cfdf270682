use Rattle.std.proofs.Common.{◌≡◌, IfOk, slice_index, ap, subst}
use Rattle.std.specs.List.{list_all}
use Rattle.o2_world.specs.Map.{Map}
use Rattle.o2_world.specs.Views.{view_of}
use Rattle.o2_world.specs.World.{Segment}
use Rattle.o2_world_parts.specs.Layouts.{good_by}
use Rattle.o2_boundless.specs.Shown.{Shown}
use Rattle.o2_boundless.proofs.world.World.are_good.Goals as goal

pub returns : goal.returns
returns c =
    let P : Map Segment → Type 0 = λ names. IfOk c.are_good.result (λ g. g ≡ list_all (good_by (view_of names c.args.process.now) (slice_index c.args.words.now)) c.args.slots.now) in
    let same : c.deref.result.now ≡ c.args.self.now.world.names = cc (c.deref.ensures.value, ap (λ (v : Shown). v.world.names) c.self.view_is) in
    subst P same c.are_good.ensures
