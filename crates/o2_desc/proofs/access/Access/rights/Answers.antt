use Rattle.std.proofs.Common.{◌≡◌, ◌<◌, ◌∙◌, ap, ℕ, rules, sym}
use Rattle.std.specs.Int.RustNames.{bit_and}
use Rattle.o2_desc.specs.Bits.{rights_of}
use Rattle.o2_desc.proofs.BitTests.{rights_by_mask, rights_once}
use Rattle.o2_desc.proofs.access.Access.rights.Goals as goal

pub returns : goal.returns
returns c =
    let small : c.args.self.0 < 256 = search rules in
    let e : c.difference.result.0 ≡ rights_of c.args.self.0 = c.difference.ensures tt ∙ ap (λ (n : ℕ). bit_and n 254) (c.union.ensures tt) ∙ rights_by_mask c.args.self.0 small in
    record {
      value = e;
      once = ap rights_of e ∙ rights_once c.args.self.0 ∙ sym e;
    }
