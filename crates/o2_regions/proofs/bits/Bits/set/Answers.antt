use Rattle.std.proofs.Common.{◌≡◌, ℕ, vec_len, length, ◌/◌, arith, rules, ◌∙◌, ap}
use Rattle.std.specs.Int.{bit_at}
use Rattle.std.proofs.lemmas.List.{get_or_read}
use Rattle.o2_regions.proofs.Bitwise.{word_in, marks-set}
use Rattle.o2_regions.proofs.bits.Bits.set.Goals as goal

pub index-word-requires : goal.index-word-requires
index-word-requires c =
    let ws = c.self.inside.words in
    let l : vec_len ws ≡ length ws.items = search rules in
    omega (arith, l, word_in ws.items c.args.i (rw (← c.self.view_is) at c.requires))

pub index_mut-requires : goal.index_mut-requires
index_mut-requires c =
    let ws = c.self.inside.words in
    let l : vec_len ws ≡ length ws.items = search rules in
    omega (arith, l, word_in ws.items c.args.i (rw (← c.self.view_is) at c.requires))

pub returns : goal.returns
returns c =
    let ws = c.self.inside.words.items in
    let within = rw (← c.self.view_is) at c.requires in
    let w = get_or_read ws (c.args.i / 64) c.index-word.result.now (word_in ws c.args.i within) c.index-word.ensures 0 in
    rw (← c.self.view_is) (marks-set ws c.args.i c.with_bit.result c.args.mark within c.with_bit.ensures.same
    (λ b h n. c.with_bit.ensures.other b h n ∙ ap (λ (x : ℕ). bit_at x b) w))
