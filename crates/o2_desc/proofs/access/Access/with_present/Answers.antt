use Rattle.std.proofs.Common.{◌≡◌, ◌<◌, ◌∙◌, ap, rules}
use Rattle.o2_desc.specs.Bits.{rights_of, with_present, is_accessed, is_present}
use Rattle.o2_desc.proofs.BitTests.{present_is, present_with, accessed_with, rights_with}
use Rattle.o2_desc.proofs.access.Access.with_present.Goals as goal

pub returns : goal.returns
returns c =
    let small : c.args.self.0 < 256 = search rules in
    let e : c.set.new.self.0 ≡ with_present c.args.self.0 c.args.present = c.set.ensures tt ∙ present_is c.args.self.0 small c.args.present in
    record {
      value = e;
      present = ap is_present e ∙ present_with c.args.self.0 c.args.present;
      accessed = ap is_accessed e ∙ accessed_with c.args.self.0 c.args.present;
      rights = ap rights_of e ∙ rights_with c.args.self.0 c.args.present;
    }
