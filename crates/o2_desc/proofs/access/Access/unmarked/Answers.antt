use Rattle.std.proofs.Common.{◌≡◌, ◌<◌, ◌∙◌, ap, rules}
use Rattle.o2_desc.specs.Bits.{rights_of, unmarked, is_accessed, is_present}
use Rattle.o2_desc.proofs.BitTests.{and_top, accessed_unmarked, present_unmarked, rights_unmarked}
use Rattle.o2_desc.proofs.access.Access.unmarked.Goals as goal

pub returns : goal.returns
returns c =
    let small : c.args.self.0 < 256 = search rules in
    let e : c.difference.result.0 ≡ unmarked c.args.self.0 = c.difference.ensures tt ∙ and_top c.args.self.0 small in
    record {
      value = e;
      accessed = ap is_accessed e ∙ accessed_unmarked c.args.self.0;
      present = ap is_present e ∙ present_unmarked c.args.self.0;
      rights = ap rights_of e ∙ rights_unmarked c.args.self.0;
    }
