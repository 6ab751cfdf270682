-- The values of the calls on segments that are selectors are words.
use Rattle.std.proofs.Common.{◌≡◌, ℕ, ◌<◌, ◌≤◌, ◌==◌, nat_lt, nat_le, not, ◌||◌, Bool, true, false, cond, Option, Some, None, if◌then◌else◌, refl, arith, subst}
use Rattle.o2_base.specs.Selectors.{selector_of}
use Rattle.o2_desc.specs.Bits.{is_writable}
use Rattle.o2_desc.specs.Choice.{IsChosen, chosen}
use Rattle.o2_desc.proofs.Choices.{chosen_law}
use Rattle.o2_world.specs.World.{Held}
use Rattle.o2_world.specs.Known.{Known}
use Rattle.o2_world.specs.Rulings.{Ruling, aliasing_at, aliasing_of, allocation, allocation_at, free_index, is_in_run, region_by}

-- The index of a new selector is one of the table.

pub below_end : (taken : ℕ → Bool) (low end i : ℕ) → chosen taken low end 1 ≡ Some i → i < end
below_end taken low end i e =
    let law : IsChosen taken low end 1 (Some i) = subst (IsChosen taken low end 1) e (chosen_law taken low end 1) in
    let a = law.0.1 in
    omega (arith, a)

pub index_below : (k : Known) (region i : ℕ) → free_index k region ≡ Some i → i < 8192
index_below k region i e = go (region == 0) e
  where
    go : (b : Bool) → (if b then chosen (k.taken 0) 4096 8192 1 else chosen (k.taken region) 1 4096 1) ≡ Some i → i < 8192
    go true f = below_end (k.taken 0) 4096 8192 i f
    go false f = let l = below_end (k.taken region) 1 4096 i f in omega (arith, l)

pub word_of : (i : ℕ) → i < 8192 → selector_of i ≤ 65535
word_of i l = omega (arith, l)

-- A value that is a selector is a word.

bounded : (b : Bool) (r q : Ruling) → r.value ≤ 65535 → q.value ≤ 65535 → (cond b r q).value ≤ 65535
bounded true r q h k = h
bounded false r q h k = k

pub alloc_word : (k : Known) (n size flags : ℕ) → (allocation k n size flags).value ≤ 65535
alloc_word k n size flags = bounded (nat_lt 15 flags) _ _ (omega arith) (bounded (nat_le k.most k.count) _ _ (omega arith) (at (free_index k (region_by n flags)) refl))
  where
    at : (index : Option ℕ) → free_index k (region_by n flags) ≡ index → (allocation_at k n size flags index).value ≤ 65535
    at None e = omega arith
    at (Some i) e = word_of i (index_below k (region_by n flags) i e)

pub alias_word : (k : Known) (n index : ℕ) (o : Option Held) → (aliasing_of k n index o).value ≤ 65535
alias_word k n index None = omega arith
alias_word k n index (Some h) = bounded (nat_le 4096 index || (not (is_writable h.rights) || is_in_run h)) _ _ (omega arith) (at (free_index k n) refl)
  where
    at : (free : Option ℕ) → free_index k n ≡ free → (aliasing_at n h.name free).value ≤ 65535
    at None e = omega arith
    at (Some i) e = word_of i (index_below k n i e)
