use Rattle.std.proofs.Common.{◌≡◌, sym, subst, rules}
use Rattle.o2_desc.specs.Bits.{TakesPlaces, flag_places, no_flags, shown}
use Rattle.o2_desc.proofs.Places.{TakesPlaces-shown}
use Rattle.o2_desc.proofs.word.FlagsWord.shown.Goals as goal

pub returns-clause-bits : goal.returns-clause-bits
returns-clause-bits c =
    let e : c.union.result.0 ≡ shown c.args.self.0 = search rules in
    subst (TakesPlaces flag_places no_flags c.args.self.0) (sym e) (TakesPlaces-shown c.args.self.0)
