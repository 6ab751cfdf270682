-- The bytes of some blocks, one block after the other.
use Rattle.std.proofs.Common.{◌≡◌, ℕ, ◌+◌, ◌<◌, ◌++◌, List, ◌∷◌, ap, append_assoc, drop, get_or, length, sym, ◌∙◌}
use Rattle.std.proofs.lemmas.List.{drop_more}
use Rattle.o2_dump.specs.declared.parts.Block.{Block}
use Rattle.o2_dump.specs.CoreImage.{joined}

-- one more block
pub more : (bs : List Block) (i : ℕ) (b : Block) (so_far whole : List ℕ) → i < length bs → b ≡ get_or bs i b
    → so_far ++ joined (drop i bs) ≡ whole → (so_far ++ b.bytes) ++ joined (drop (i + 1) bs) ≡ whole
more bs i b so_far whole lt is h =
    let e : drop i bs ≡ b ∷ drop (i + 1) bs = drop_more bs i b lt ∙ ap (λ (x : Block). x ∷ drop (i + 1) bs) (sym is) in
    append_assoc so_far b.bytes (joined (drop (i + 1) bs)) ∙ ap (λ (r : List Block). so_far ++ joined r) (sym e) ∙ h
