use Rattle.std.proofs.Common.{◌≡◌, sym, subst, rules}
use Rattle.o2_desc.specs.Bits.{TakesPlaces, popped_places, popped}
use Rattle.o2_desc.proofs.Places.{TakesPlaces-popped}
use Rattle.o2_desc.proofs.word.FlagsWord.popped.Goals as goal

pub returns-clause-bits : goal.returns-clause-bits
returns-clause-bits c =
    let e : c.union.result.0 ≡ popped c.args.self.0 c.args.word = search rules in
    subst (TakesPlaces popped_places c.args.self.0 c.args.word) (sym e) (TakesPlaces-popped c.args.self.0 c.args.word)
