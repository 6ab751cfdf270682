use Rattle.std.proofs.Common.{◌∙◌, ℕ, List, ap, sym, get_or}
use Rattle.std.specs.Prelude.{nat_lt}
use Rattle.o2_words.proofs.Verbs.{is_count, no_zero, too_large, unread}
use Rattle.o2_words.proofs.words.count_of.Goals as goal

pub returns-then-not-begins_above_zero : goal.returns-then-not-begins_above_zero
returns-then-not-begins_above_zero c = λ count f.
    no_zero c.args.word.now count (ap (λ (t : List ℕ). nat_lt 48 (get_or t 0 0)) (sym c.as_bytes.ensures.value) ∙ sym c.begins_above_zero.ensures ∙ c.if-not-begins_above_zero.true) f

pub returns-in_default : goal.returns-in_default
returns-in_default c = λ count f. unread c.args.word.now count c.parse.result c.in_default.field-0 c.parse.ensures.value.0 c.in_default.is f

pub returns-then-count-gt64 : goal.returns-then-count-gt64
returns-then-count-gt64 c = λ count f. too_large c.args.word.now count c.in-Ok.count c.parse.result c.parse.ensures.value.0 c.in-Ok.is c.if-count-gt64.true f

pub returns : goal.returns
returns c =
    is_count c.args.word.now c.in-Ok.count c.parse.result
    (ap (λ (t : List ℕ). nat_lt 48 (get_or t 0 0)) (sym c.as_bytes.ensures.value) ∙ sym c.begins_above_zero.ensures ∙ c.if-not-begins_above_zero.false)
    c.parse.ensures.value.0 c.in-Ok.is c.if-count-gt64.false
