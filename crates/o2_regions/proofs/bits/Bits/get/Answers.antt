use Rattle.std.proofs.Common.{◌≡◌, vec_len, length, ◌/◌, arith, rules}
use Rattle.std.proofs.lemmas.List.{get_or_read}
use Rattle.o2_regions.proofs.Bitwise.{word_in, mark-read}
use Rattle.o2_regions.proofs.bits.Bits.get.Goals as goal

pub index-requires : goal.index-requires
index-requires c =
    let ws = c.self.inside.words in
    let l : vec_len ws ≡ length ws.items = search rules in
    omega (arith, l, word_in ws.items c.args.i (rw (← c.self.view_is) at c.requires))

pub returns : goal.returns
returns c =
    let ws = c.self.inside.words.items in
    let l = word_in ws c.args.i (rw (← c.self.view_is) at c.requires) in
    rw (← c.self.view_is) (mark-read ws c.args.i c.index.result.now (get_or_read ws (c.args.i / 64) c.index.result.now l c.index.ensures 0))
