use Rattle.std.proofs.Common.{◌≡◌, sym, subst, rules}
use Rattle.o2_desc.specs.Bits.{TakesPlaces, loaded_places, loaded}
use Rattle.o2_desc.proofs.Places.{TakesPlaces-loaded}
use Rattle.o2_desc.proofs.word.FlagsWord.loaded.Goals as goal

pub returns-clause-bits : goal.returns-clause-bits
returns-clause-bits c =
    let e : c.union.result.0 ≡ loaded c.args.self.0 c.args.ah = search rules in
    subst (TakesPlaces loaded_places c.args.self.0 c.args.ah) (sym e) (TakesPlaces-loaded c.args.self.0 c.args.ah)
