use Rattle.std.proofs.Common.{◌≡◌, sym, ap, ◌∙◌, true, false}
use Rattle.std.proofs.lemmas.List.{get_or-replicate}
use Rattle.o2_outer.specs.Accesses.{is_known}
use Rattle.o2_outer.proofs.noted.Noted.new.Goals as goal

pub invariant_of-result : goal.invariant_of-result
invariant_of-result c = record {
  marks = λ b lt. get_or-replicate 65536 b false false lt ∙ sym (ap (λ items. is_known items b) c.new.ensures);
  summed = λ b lt known. let never : false ≡ true = sym (ap (λ items. is_known items b) c.new.ensures) ∙ known in absurd (cc);
}
