-- Bytes that are read into a range, block by block.
use Rattle.std.proofs.Common.{◌≡◌, ◌⊎◌, inl, inr, ℕ, ◌+◌, ◌-◌, ◌*◌, ◌/◌, ◌%◌, ◌<◌, ◌≤◌, List, length, take, get_or, arith, ap, ◌∙◌, min}
use Rattle.std.proofs.lemmas.Bool.{cases_lt}
use Rattle.std.proofs.lemmas.List.{get_or-take}
use Rattle.o2_swapmap.specs.Piles.{Blocks, blocks_of}
use Rattle.o2_store.specs.Shelf.{stored_byte}
use Rattle.o2_phys.specs.Bytes.{with_part}
use Rattle.o2_phys.proofs.Parts.{get-with_part, get-with_part-before, get-with_part-after}

pub outside_step : (m0 m ys : List ℕ) (at kept start : ℕ) → start + length ys ≤ kept → at + kept ≤ length m → ((i : ℕ) → (i < at) ⊎ (at + kept ≤ i) → get_or m i 0 ≡ get_or m0 i 0)
    → (i : ℕ) → (i < at) ⊎ (at + kept ≤ i) → get_or (with_part m (at + start) ys) i 0 ≡ get_or m0 i 0
outside_step m0 m ys at kept start s l h i (inl b) = get-with_part-before m ys (at + start) i (omega arith) (omega arith) ∙ h i (inl b)
outside_step m0 m ys at kept start s l h i (inr a) = get-with_part-after m ys (at + start) i (omega arith) (omega arith) ∙ h i (inr a)

pub read_step : (m ys : List ℕ) (f : ℕ → ℕ) (at kept k n : ℕ) → n ≡ min (kept - 512 * k) 512 → 512 * k ≤ kept → length ys ≡ n → at + kept ≤ length m
    → ((j : ℕ) → j < kept → j < 512 * k → get_or m (at + j) 0 ≡ f j)
    → ((r : ℕ) → r < n → get_or ys r 0 ≡ f (512 * k + r))
    → (j : ℕ) → j < kept → j < 512 * (k + 1) → get_or (with_part m (at + 512 * k) ys) (at + j) 0 ≡ f j
read_step m ys f at kept k n e s l w h g j a b = elim (cases_lt j (512 * k)) [
  | inl before ↦ get-with_part-before m ys (at + 512 * k) (at + j) (omega arith) (omega arith) ∙ h j a before
  | inr later ↦
      (let p : at + 512 * k + (j - 512 * k) ≡ at + j = omega arith in
      let q : 512 * k + (j - 512 * k) ≡ j = omega arith in
      let r = get-with_part m ys (at + 512 * k) (j - 512 * k) (omega arith) (omega arith) in
      rw p at r ∙ g (j - 512 * k) (omega arith) ∙ ap f q)
]

pub block_step : (ys : List ℕ) (block : ℕ → List ℕ) (m : Blocks) (key k n b : ℕ) → n ≤ 512 → ys ≡ block b → b ≡ get_or (blocks_of m key) k 0 → (r : ℕ) → r < n → get_or (take n ys) r 0 ≡ stored_byte m block key (512 * k + r)
block_step ys block m key k n b l e p r h =
    let d : (512 * k + r) / 512 ≡ k = omega arith in
    let q : (512 * k + r) % 512 ≡ r = omega arith in
    rw (d, q) (get_or-take n ys r 0 h ∙ ap (λ (xs : List ℕ). get_or xs r 0) (e ∙ ap block p))
