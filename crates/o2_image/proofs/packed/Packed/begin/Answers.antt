use Rattle.std.proofs.Common.{◌≡◌, ◌∙◌, ap, length, rules, sym, ◌++◌, ◌∷◌, [], ℕ}
use Rattle.o2_image.proofs.Packing.{begins, goes_on, has_room}
use Rattle.o2_image.proofs.packed.Packed.begin.Goals as goal

pub returns-then-len-k-clause-room : goal.returns-then-len-k-clause-room
returns-then-len-k-clause-room c =
    let many : c.len.result ≡ length c.args.self.now.firsts.items = search rules in
    goes_on _ _ _ _ _ c.requires (λ e. c.if-len-k.true (many ∙ e))

pub returns-clause-packed : goal.returns-clause-packed
returns-clause-packed c =
    let many : c.len.result ≡ length c.args.self.now.firsts.items = search rules in
    let lead : c.len-2.result ≡ length c.args.self.now.some.items = search rules in
    begins _ _ _ _ _ c.requires (sym many ∙ c.if-len-k.false) _
    (c.in_ok-push.ensures.items ∙ ap (λ (n : ℕ). c.args.self.now.firsts.items ++ n ∷ []) lead)

pub returns-clause-room : goal.returns-clause-room
returns-clause-room c =
    let many : c.len.result ≡ length c.args.self.now.firsts.items = search rules in
    let lead : c.len-2.result ≡ length c.args.self.now.some.items = search rules in
    has_room _ _ _ _ _ c.requires (sym many ∙ c.if-len-k.false) _
    (c.in_ok-push.ensures.items ∙ ap (λ (n : ℕ). c.args.self.now.firsts.items ++ n ∷ []) lead)
