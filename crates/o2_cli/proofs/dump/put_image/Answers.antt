use Rattle.std.proofs.Common.{◌≤◌, [], ap, ◌∙◌, arith, refl, sym, subst}
use Rattle.o2_regions.specs.Maps.{Maps}
use Rattle.o2_store.specs.Idle.{NoneTaken}
use Rattle.o2_store.specs.Pictures.{HasPicture}
use Rattle.o2_store.specs.Shelf.{HasAll, Shelf}
use Rattle.o2_segbus.specs.Settled.{IsSettled}
use Rattle.o2_service.specs.Told.{IsHeldWell}
use Rattle.o2_swapmap.specs.Piles.{all_of}
use Rattle.o2_cli.proofs.Filling.{shown_long}
use Rattle.o2_cli.proofs.Images.{gains_image}
use Rattle.o2_cli.proofs.dump.put_image.Goals as goal

pub fill-requires-clause-few : goal.fill-requires-clause-few
fill-requires-clause-few g c =
    let law = subst (λ (m : Maps). m.processes ≤ 64) c.regions-regions.ensures c.lawful.ensures.maps.most in omega (arith, law, c.requires.device.together.numbers)

pub write-requires-clause-processes : goal.write-requires-clause-processes
write-requires-clause-processes g c =
    let long = shown_long _ _ (c.as_slice.ensures.value ∙ c.fill.ensures) in
    let same = ap (λ (m : Maps). m.processes) c.regions-regions.ensures in
    omega (arith, long, same, c.requires.device.together.numbers)

pub write-requires-clause-settled : goal.write-requires-clause-settled
write-requires-clause-settled g c =
    subst (λ (s : Shelf). IsSettled s c.regions-regions.result.now) (sym c.store-store.ensures)
    (subst (λ (m : Maps). IsSettled c.args.machine.now.space.store m) (sym c.regions-regions.ensures) (c.requires.device.together.ready (λ n. [])).settled)

pub write-requires-clause-device : goal.write-requires-clause-device
write-requires-clause-device g c =
    let same = ap (λ (s : Shelf). all_of s.swap) c.store-store.ensures in omega (arith, same, (c.requires.device.together.ready (λ n. [])).device)

pub returns-clause-text : goal.returns-clause-text
returns-clause-text g c = λ tells s w is st.
    let same = ap (λ (x : Shelf). all_of x.swap) c.store-store.ensures in
    gains_image c.args.machine.now (g.S.SwapDevice.blocks c.args.swap.now) (g.S.SwapDevice.block c.args.swap.now) s w st _ _ _ _ _ _
    c.lawful.ensures c.store-store.ensures c.regions-regions.ensures (c.as_slice.ensures.value ∙ c.fill.ensures) is
    (c.steps.ensures.world _ _ s w st) (c.console_bytes.ensures.world _ _ s w st) _ _ c.write.result
    (c.write.ensures.apart (omega (arith, same, is, st.set.blocks)) (g.S.SwapDevice.block c.args.swap.now) _ refl)
    (subst (λ (x : Shelf). HasAll (HasPicture c.args.machine.now.space.images) x) (sym c.store-store.ensures) (c.requires.device.together.ready (λ n. [])).pictures)
    (c.write.ensures.text tells)
    (λ done. c.write.ensures.read_back
    (subst (λ (x : Shelf). IsHeldWell x c.regions-regions.result.now) (sym c.store-store.ensures)
    (subst (λ (m : Maps). IsHeldWell c.args.machine.now.space.store m) (sym c.regions-regions.ensures) (c.requires.device.together.ready (λ n. [])).held))
    (omega (arith, same, is, st.set.blocks)) tells done _ refl)

pub returns-clause-idle : goal.returns-clause-idle
returns-clause-idle g c = λ none. c.write.ensures.idle (subst (λ (s : Shelf). NoneTaken s.swap) (sym c.store-store.ensures) none)
