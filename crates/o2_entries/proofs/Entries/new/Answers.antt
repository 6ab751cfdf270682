use Rattle.std.proofs.Common.{◌≡◌, ℕ, Option, None, replicate, length, arith, rules, ap, ◌∙◌}
use Rattle.std.proofs.lemmas.List.{length-replicate}
use Rattle.o2_entries.proofs.Tables.{IsTable-empty, entries-empty}
use Rattle.o2_entries.proofs.Entries.new.Goals as goal

pub invariant_of-result : goal.invariant_of-result
invariant_of-result c =
    let k : c.in_ok-keys.keys.items ≡ replicate c.args.most None = search rules in
    let e = (c.in_ok-slab.ensures).empty in
    let r = (c.in_ok-slab.ensures).capacity in
    let v = (c.in_ok-live.ensures).items in
    let w = (c.in_ok-live.ensures).capacity in
    let l : length c.in_ok-keys.keys.items ≡ c.args.most = ap length k ∙ length-replicate {A = Option ℕ} c.args.most None in
    (rw v (IsTable-empty c.in_ok-slab.slab c.in_ok-keys.keys.items c.args.most e k r), omega (arith, l, w), omega (arith, l))

pub returns : goal.returns
returns c =
    let k : c.in_ok-keys.keys.items ≡ replicate c.args.most None = search rules in
    entries-empty c.in_ok-slab.slab c.in_ok-keys.keys.items c.args.most k
