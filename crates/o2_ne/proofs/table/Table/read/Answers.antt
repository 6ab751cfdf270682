use Rattle.std.proofs.Common.{◌≡◌, ℕ, List, Ok, Result, length, sym, ap, ◌∙◌, subst}
use Rattle.o2_base.specs.declared.faults.NeFault.{NeFault}
use Rattle.o2_ne.specs.declared.names.Name.{Name}
use Rattle.o2_ne.specs.NameOrder.{IsIndex, names_in, places_from}
use Rattle.o2_ne.specs.NamePlaces.{NamesStand}
use Rattle.o2_ne.specs.NameTable.{names_at}
use Rattle.o2_ne.proofs.NameLaws.{names_stand}
use Rattle.o2_ne.proofs.TableLaws.{walked_from}
use Rattle.o2_ne.proofs.table.Table.read.Goals as goal

pub returns-clause-exact : goal.returns-clause-exact
unfolding names_at
returns-clause-exact c =
    let places : places_from c.args.file.now c.args.at (length c.in_ok-order.order.items) ≡ c.in_ok-walking.walking.places.items =
    ap (λ n. places_from c.args.file.now c.args.at n) c.in_ok-order.ensures.many
    ∙ walked_from c.args.file.now _ c.args.at _ (c.in_ok-walking.ensures.walks) in
    let read : List ℕ → Result (List Name) NeFault = λ ps. Ok (names_in c.args.file.now ps) in
    rw c.in_ok-walking.ensures.exact (ap read (sym places))

pub returns-clause-index : goal.returns-clause-index
returns-clause-index c =
    let places : places_from c.args.file.now c.args.at (length c.in_ok-order.order.items) ≡ c.in_ok-walking.walking.places.items =
    ap (λ n. places_from c.args.file.now c.args.at n) c.in_ok-order.ensures.many
    ∙ walked_from c.args.file.now _ c.args.at _ (c.in_ok-walking.ensures.walks) in
    subst (λ ps. IsIndex c.args.file.now ps c.in_ok-order.order.items) (sym places) c.in_ok-order.ensures.index

pub returns-clause-stand : goal.returns-clause-stand
returns-clause-stand c =
    let places : places_from c.args.file.now c.args.at (length c.in_ok-order.order.items) ≡ c.in_ok-walking.walking.places.items =
    ap (λ n. places_from c.args.file.now c.args.at n) c.in_ok-order.ensures.many
    ∙ walked_from c.args.file.now _ c.args.at _ (c.in_ok-walking.ensures.walks) in
    subst (λ ps. NamesStand c.args.file.now c.args.at (names_in c.args.file.now ps)) (sym places)
    (names_stand _ _ _ c.requires.some c.in_ok-walking.ensures.exact)
