use Rattle.std.proofs.Common.{◌≡◌, length, ap, ◌∙◌, get_or}
use Rattle.o2_phys.proofs.Parts.{length-part}
use Rattle.o2_image.specs.ImageList.{image_front}
use Rattle.o2_store.specs.Pictures.{HasPicture}
use Rattle.o2_store.proofs.Painting.{front_at, painted_at}
use Rattle.o2_store.proofs.moving.paint.Goals as goal

pub fill-requires : goal.fill-requires
unfolding HasPicture
fill-requires c = c.requires.picture

pub returns-clause-painted : goal.returns-clause-painted
returns-clause-painted c =
    let n : length c.bytes_mut.result.now ≡ c.args.len = ap length c.bytes_mut.ensures.value ∙ length-part c.args.phys.now c.args.at c.args.len c.requires.range in
    let long : length c.fill.new.into ≡ c.args.len = c.fill.auto.into ∙ n in
    let e = c.fill.ensures ∙ ap (image_front c.args.images.now c.args.module c.args.seg) n in
    λ j l. painted_at c.args.phys.now c.fill.new.into c.args.at c.args.len j c.requires.range long l ∙ ap (λ (xs : _). get_or xs j 0) e ∙ front_at c.args.images.now c.args.module c.args.seg c.args.len j l
