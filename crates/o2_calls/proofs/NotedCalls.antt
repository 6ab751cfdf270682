-- What is noted of calls that change one index, or make a run, or change nothing that is held.
use Rattle.std.proofs.Common.{◌≡◌, ℕ, ◌+◌, ◌-◌, ◌/◌, ◌<◌, ◌≤◌, ◌==◌, ◌||◌, nat_le, nat_lt, not, Bool, true, false, cond, List, [], ◌∷◌, ◌++◌, length, max, min}
use Rattle.std.proofs.Common.{if◌then◌else◌, Option, Some, None, is_some, refl, sym, ap, ◌∙◌, subst, arith, append-nil}
use Rattle.std.specs.Prelude.{find, flat_map}
use Rattle.std.proofs.lemmas.Grind.{flat_map-append}
use Rattle.o2_base.specs.Selectors.{selector_of}
use Rattle.o2_desc.specs.Bits.{is_writable}
use Rattle.o2_desc.specs.Choice.{IsChosen, chosen}
use Rattle.o2_desc.proofs.Choices.{chosen_law}
use Rattle.o2_world.specs.Changes.{Change, Locks, Reserves, drop_lines_of, hold_lines_of}
use Rattle.o2_world.specs.HugeRulings.{free_run, huge_allocation, huge_at, huge_shift, is_huge_fault, new_members, run_reserve, segments_of, sizes_of}
use Rattle.o2_world.specs.Known.{Known, Marks}
use Rattle.o2_world.specs.Rulings.{Ruling, aliasing_at, aliasing_of, allocation, allocation_at, free_index, grants, indexes, is_alias, is_discardable, is_in_run}
use Rattle.o2_world.specs.Rulings.{keeps_its_size, locking_of, locking_with, reallocation_of, reallocation_with, refusal, region_by, resizes_with, sizing_of, sizing_with, unlocking_of}
use Rattle.o2_world.specs.Rulings.{unlocking_with}
use Rattle.o2_world.specs.SharedRulings.{each_more, holder, index_of, is_share, held_by, naming, naming_at, sharing, sharing_at, sharing_from, sharing_of}
use Rattle.o2_world.specs.World.{Held}
use Rattle.o2_gate.specs.declared.moves.Block.{Block}
use Rattle.o2_gate.specs.MovedLines.{block_lines}
use Rattle.o2_calls.specs.Noted.{AreTold, came}
use Rattle.o2_calls.proofs.NotedLines.{Tells, each_drops, each_holds, eight, either, five, index_back, members_drop, members_hold, one_holder, refused, sizes_length, told_came, told_nothing}
use Rattle.o2_calls.proofs.Tellings.{index_below}

-- the first that passes does
pub find_passes : (f : ℕ → Bool) (ns : List ℕ) (n : ℕ) → find f ns ≡ Some n → f n ≡ true
find_passes f [] n e = absurd (cc)
find_passes f (x ∷ xs) n e = go (f x) refl e (find_passes f xs n)
  where
    go : (b : Bool) → f x ≡ b → cond b (Some x) (find f xs) ≡ Some n → (find f xs ≡ Some n → f n ≡ true) → f n ≡ true
    go true is same rest = let y : x ≡ n = cc in ap f (sym y) ∙ is
    go false is same rest = rest same

eighty_seven : ◌≡◌ {A = ℕ} 87 0 → ⊥
eighty_seven e = omega (arith, e)

two : ◌≡◌ {A = ℕ} 2 0 → ⊥
two e = omega (arith, e)

pub in_table : (i : ℕ) → i < 8192 → i + 1 ≤ 8192
in_table i less = omega (arith, less)

-- so many indexes in a row that are chosen end where their region ends, at the latest
pub run_below : (k : Known) (region count i : ℕ) → free_run k region count ≡ Some i → i + count ≤ 8192
run_below k region count i e = go (region == 0) e
  where
    below : (taken : ℕ → Bool) (low end : ℕ) → chosen taken low end count ≡ Some i → i + count ≤ end
    below taken low end f = (subst (IsChosen taken low end count) f (chosen_law taken low end count)).0.1

    go : (b : Bool) → cond b (chosen (k.taken 0) 4096 8192 count) (chosen (k.taken region) 1 4096 count) ≡ Some i → i + count ≤ 8192
    go true f = below (k.taken 0) 4096 8192 f
    go false f = let l = below (k.taken region) 1 4096 f in omega (arith, l)

module _ (cause : List ℕ) (k : Known) (n : ℕ) where
  -- one index, by its selector
  abbrev one_there : ℕ → List Block
  one_there v = came n (v / 8) 1 1 ∷ []

  abbrev none_there : ℕ → List Block
  none_there v = []

  one_told : (cs : List Change) (i : ℕ) → i < 8192 → flat_map (hold_lines_of cause) cs ≡ block_lines cause (came n i 1 1) → flat_map (drop_lines_of cause) cs ≡ [] → Tells cause one_there (grants (selector_of i) cs)
  one_told cs i low holds drops = record {
    told = λ none. subst (λ (j : ℕ). AreTold cause (came n j 1 1 ∷ []) cs) (sym (index_back i)) (told_came cause cs n i 1 1 holds drops (in_table i low));
  }

  pub alloc_told : (size flags : ℕ) → Tells cause one_there (allocation k n size flags)
  alloc_told size flags =
      either cause one_there (nat_lt 15 flags) _ _ (refused cause one_there 87 eighty_seven)
      (λ a. either cause one_there (nat_le k.most k.count) _ _ (refused cause one_there 8 eight) (λ b. at (free_index k (region_by n flags)) refl))
    where
      at : (o : Option ℕ) → free_index k (region_by n flags) ≡ o → Tells cause one_there (allocation_at k n size flags o)
      at None e = refused cause one_there 8 eight
      at (Some i) e = one_told _ i (index_below k (region_by n flags) i e) refl refl

  pub alias_told : (index : ℕ) (o : Option Held) → Tells cause one_there (aliasing_of k n index o)
  alias_told index None = refused cause one_there 5 five
  alias_told index (Some h) = either cause one_there (nat_le 4096 index || (not (is_writable h.rights) || is_in_run h)) _ _ (refused cause one_there 5 five) (λ a. at (free_index k n) refl)
    where
      at : (o : Option ℕ) → free_index k n ≡ o → Tells cause one_there (aliasing_at n h.name o)
      at None e = refused cause one_there 8 eight
      at (Some i) e = one_told _ i (index_below k n i e) refl refl

  pub name_told : (size : ℕ) (name : Option (List ℕ)) → Tells cause one_there (naming k n size name)
  name_told size None = refused cause one_there 123 (λ e. omega (arith, e))
  name_told size (Some name) =
      either cause one_there (is_some (k.text name)) _ _ (refused cause one_there 183 (λ e. omega (arith, e)))
      (λ a. either cause one_there (nat_le k.most k.count) _ _ (refused cause one_there 8 eight) (λ b. at (free_index k 0) refl))
    where
      at : (o : Option ℕ) → free_index k 0 ≡ o → Tells cause one_there (naming_at k n size name o)
      at None e = refused cause one_there 8 eight
      at (Some i) e = one_told _ i (index_below k 0 i e) refl refl

  pub share_told : (name : Option (List ℕ)) → Tells cause one_there (sharing k n name)
  share_told None = refused cause one_there 123 (λ e. omega (arith, e))
  share_told (Some name) = named (k.text name)
    where
      from : (i : ℕ) → i < 8192 → (o : Option ℕ) → holder k i ≡ o → Tells cause one_there (sharing_from k n i o)
      from i low None e = refused cause one_there 2 two
      from i low (Some q) e =
          let some : is_some (k.held q i) ≡ true = find_passes (λ (m : ℕ). is_some (k.held m i)) (indexes 1 k.processes) q e in
          one_told (each_more k q n (i ∷ [])) i low
          (each_holds cause k q n i 1 (λ j a b. let same : i ≡ j = omega (arith, a, b) in ap (λ (y : ℕ). is_some (k.held q y)) (sym same) ∙ some))
          (each_drops cause k q n (i ∷ []))

      low_of : (f : ℕ → Bool) (i : ℕ) → chosen f 4096 8192 1 ≡ Some i → i < 8192
      low_of f i e = let l = (subst (IsChosen f 4096 8192 1) e (chosen_law f 4096 8192 1)).0.1 in omega (arith, l)

      at : (q : ℕ) (o : Option ℕ) → index_of k q ≡ o → Tells cause one_there (sharing_at k n o)
      at q None e = refused cause one_there 2 two
      at q (Some i) e = from i (low_of (λ (j : ℕ). not (is_share k q (held_by k j (holder k j)))) i e) (holder k i) refl

      named : (o : Option ℕ) → Tells cause one_there (sharing_of k n o)
      named None = refused cause one_there 2 two
      named (Some q) = at q (index_of k q) refl

  -- Nothing that is held.

  pub realloc_told : (size : ℕ) (o : Option Held) → Tells cause none_there (reallocation_of k size o)
  realloc_told size None = refused cause none_there 5 five
  realloc_told size (Some h) = either cause none_there (is_alias h.cause || is_in_run h) _ _ (refused cause none_there 5 five) (λ a. at (k.segment h.name))
    where
      at : (o : Option Marks) → Tells cause none_there (reallocation_with h.name size o)
      at None = refused cause none_there 5 five
      at (Some m) = either cause none_there (keeps_its_size size m) _ _ (refused cause none_there 5 five) (λ b. sized m.discarded)
        where
          sized : (b : Bool) → Tells cause none_there (grants 0 (resizes_with h.name size b))
          sized true = record { told = λ none. told_nothing cause _ refl refl }
          sized false = record { told = λ none. told_nothing cause _ refl refl }

  pub size_told : (o : Option Held) → Tells cause none_there (sizing_of k o)
  size_told None = refused cause none_there 5 five
  size_told (Some h) = at (k.segment h.name)
    where
      at : (o : Option Marks) → Tells cause none_there (sizing_with o)
      at None = refused cause none_there 5 five
      at (Some m) = record { told = λ none. told_nothing cause _ refl refl }

  pub lock_told : (o : Option Held) → Tells cause none_there (locking_of k o)
  lock_told None = refused cause none_there 5 five
  lock_told (Some h) = at (k.segment h.name)
    where
      at : (o : Option Marks) → Tells cause none_there (locking_with h.name o)
      at None = refused cause none_there 5 five
      at (Some m) = go (is_discardable m)
        where
          locked : (b : Bool) → Tells cause none_there (cond b (refusal 157) (grants 0 (Locks h.name (min (m.lock + 1) 255) ∷ [])))
          locked true = refused cause none_there 157 (λ e. omega (arith, e))
          locked false = record { told = λ none. told_nothing cause _ refl refl }

          go : (b : Bool) → Tells cause none_there (cond b (cond m.discarded (refusal 157) (grants 0 (Locks h.name (min (m.lock + 1) 255) ∷ []))) (refusal 5))
          go true = locked m.discarded
          go false = refused cause none_there 5 five

  pub unlock_told : (o : Option Held) → Tells cause none_there (unlocking_of k o)
  unlock_told None = refused cause none_there 5 five
  unlock_told (Some h) = at (k.segment h.name)
    where
      unlocked : Marks → Ruling
      unlocked m = grants 0 (Locks h.name (if nat_lt m.lock 255 then m.lock - 1 else m.lock) ∷ [])

      inner : (m : Marks) (b : Bool) → Tells cause none_there (cond b (refusal 158) (unlocked m))
      inner m true = refused cause none_there 158 (λ e. omega (arith, e))
      inner m false = record { told = λ none. told_nothing cause _ refl refl }

      at : (o : Option Marks) → Tells cause none_there (unlocking_with h.name o)
      at None = refused cause none_there 5 five
      at (Some m) = go (is_discardable m)
        where
          go : (b : Bool) → Tells cause none_there (cond b (cond (m.lock == 0) (refusal 158) (unlocked m)) (refusal 5))
          go true = inner m (m.lock == 0)
          go false = refused cause none_there 5 five

  pub shift_told : Tells cause none_there (grants huge_shift [])
  shift_told = record { told = λ none. told_nothing cause [] refl refl }

  -- A run.

  abbrev run_there : (segs part : ℕ) → ℕ → List Block
  run_there segs part v = came n (v / 8) (segments_of segs part) 1 ∷ []

  pub huge_told : (segs part most flags : ℕ) → Tells cause (run_there segs part) (huge_allocation k n segs part most flags)
  huge_told segs part most flags =
      either cause (run_there segs part) (is_huge_fault wanted most flags) _ _ (refused cause (run_there segs part) 87 eighty_seven)
      (λ a. either cause (run_there segs part) (nat_lt k.most (k.count + wanted)) _ _ (refused cause (run_there segs part) 8 eight)
      (λ b. at (free_run k (region_by n flags) (max wanted most)) refl))
    where
      wanted : ℕ
      wanted = segments_of segs part

      long : length (sizes_of segs part) ≡ wanted
      long = sizes_length segs part

      changes : ℕ → ℕ → List Change
      changes i c = new_members k.next i (max wanted most) flags ((n, 1) ∷ []) (indexes i c) (sizes_of segs part)

      at : (o : Option ℕ) → free_run k (region_by n flags) (max wanted most) ≡ o → Tells cause (run_there segs part) (huge_at k n segs part (max wanted most) flags o)
      at None e = refused cause (run_there segs part) 8 eight
      at (Some i) e = record {
        told = λ none. subst (λ (j : ℕ). AreTold cause (came n j wanted 1 ∷ []) (changes i wanted ++ last)) (sym (index_back i))
            (told_came cause (changes i wanted ++ last) n i wanted 1 holds drops within);
      }
        where
          last : List Change
          last = Reserves (run_reserve (region_by n flags) i (max wanted most)) ∷ []

          within : i + wanted ≤ 8192
          within = let below = run_below k (region_by n flags) (max wanted most) i e in omega (arith, below)

          holds : flat_map (hold_lines_of cause) (changes i wanted ++ last) ≡ block_lines cause (came n i wanted 1)
          holds =
              flat_map-append (hold_lines_of cause) (changes i wanted) last
              ∙ (append-nil (flat_map (hold_lines_of cause) (changes i wanted))
              ∙ subst (λ (c : ℕ). flat_map (hold_lines_of cause) (changes i c) ≡ block_lines cause (came n i c 1)) long
              (members_hold cause k.next i (max wanted most) flags i ((n, 1) ∷ []) (sizes_of segs part) ∙ one_holder cause n 1 i (length (sizes_of segs part))))

          drops : flat_map (drop_lines_of cause) (changes i wanted ++ last) ≡ []
          drops =
              flat_map-append (drop_lines_of cause) (changes i wanted) last
              ∙ (append-nil (flat_map (drop_lines_of cause) (changes i wanted))
              ∙ members_drop cause k.next i (max wanted most) flags ((n, 1) ∷ []) (indexes i wanted) (sizes_of segs part))
