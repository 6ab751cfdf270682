use Rattle.std.proofs.Common.{◌≡◌, ◌∙◌, ap}
use Rattle.o2_desc.specs.Bits.{rights_of, marked, is_accessed, is_present}
use Rattle.o2_desc.proofs.BitTests.{or_one, accessed_marked, present_marked, rights_marked}
use Rattle.o2_desc.proofs.access.Access.marked.Goals as goal

pub returns : goal.returns
returns c =
    let e : c.union.result.0 ≡ marked c.args.self.0 = c.union.ensures tt ∙ or_one c.args.self.0 in
    record {
      value = e;
      accessed = ap is_accessed e ∙ accessed_marked c.args.self.0;
      present = ap is_present e ∙ present_marked c.args.self.0;
      rights = ap rights_of e ∙ rights_marked c.args.self.0;
    }
