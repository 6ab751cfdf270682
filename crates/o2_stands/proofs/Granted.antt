-- When the rulings on huge allocations change something.
use Rattle.std.proofs.Common.{◌≡◌, ℕ, ◌+◌, ◌-◌, ◌/◌, ◌==◌, ◌&&◌, ◌||◌, nat_le, nat_lt, Bool, true, false, List, [], ◌∷◌, ◌++◌, length, Option, Some, None, refl, sym, ap, ◌∙◌, subst, arith, if◌then◌else◌}
use Rattle.std.specs.Prelude.{drop, max}
use Rattle.std.proofs.lemmas.Bool.{false≢true}
use Rattle.o2_isa.specs.declared.cpu.Cpu.{Cpu}
use Rattle.o2_world.specs.Changes.{Change, Reserves}
use Rattle.o2_world.specs.HugeRulings.{all_bytes, bytes_of, free_run, huge_allocation, huge_at, huge_reallocation, huge_reallocation_of, is_first, is_huge_fault, left_in_run, new_members, run_changes, run_reserve, run_resized, segments_of, sizes_of}
use Rattle.o2_world.specs.Known.{Known}
use Rattle.o2_world.specs.Rulings.{Ruling, grants, held_under, in_use, indexes, is_in_run, members, refusal, region_by}
use Rattle.o2_world.specs.SharedRulings.{shared_from}
use Rattle.o2_world.specs.World.{Held}
use Rattle.o2_world.proofs.SegmentMoves.{held_there}
use Rattle.o2_stands.proofs.Reserved.{and_parts}

left_false : (a b : Bool) → (a || b) ≡ false → a ≡ false
left_false true b e = absurd (false≢true (sym e))
left_false false b e = refl

module _ (k : Known) (n segs part : ℕ) where
  -- A run that comes: the call is sound, and so many indexes are free from one on.
  pub record IsAllocated (most flags first : ℕ) : Type 0 where
    pub sound : is_huge_fault (segments_of segs part) most flags ≡ false
    pub free : free_run k (region_by n flags) (max (segments_of segs part) most) ≡ Some first

  abbrev pub allocated_changes : (most flags first : ℕ) → List Change
  allocated_changes most flags first =
      new_members k.next first (max (segments_of segs part) most) flags ((n, 1) ∷ []) (indexes first (segments_of segs part)) (sizes_of segs part)
      ++ Reserves (run_reserve (region_by n flags) first (max (segments_of segs part) most)) ∷ []

  pub when_allocated : (P : List Change → Type 0) (most flags : ℕ) → P [] → ((first : ℕ) → IsAllocated most flags first → P (allocated_changes most flags first)) → P (huge_allocation k n segs part most flags).changes
  when_allocated P most flags none some = faults (is_huge_fault (segments_of segs part) most flags) refl
    where
      at : is_huge_fault (segments_of segs part) most flags ≡ false → (o : Option ℕ) → free_run k (region_by n flags) (max (segments_of segs part) most) ≡ o
          → P (huge_at k n segs part (max (segments_of segs part) most) flags o).changes
      at sound None e = none
      at sound (Some first) e = some first (record { sound = sound; free = e })

      counts : is_huge_fault (segments_of segs part) most flags ≡ false → (b : Bool)
          → P (if b then refusal 8 else huge_at k n segs part (max (segments_of segs part) most) flags (free_run k (region_by n flags) (max (segments_of segs part) most))).changes
      counts sound true = none
      counts sound false = at sound (free_run k (region_by n flags) (max (segments_of segs part) most)) refl

      faults : (b : Bool) → is_huge_fault (segments_of segs part) most flags ≡ b
          → P (if b then refusal 87 else (if nat_lt k.most (k.count + segments_of segs part) then refusal 8
          else huge_at k n segs part (max (segments_of segs part) most) flags (free_run k (region_by n flags) (max (segments_of segs part) most)))).changes
      faults true e = none
      faults false e = counts e (nat_lt k.most (k.count + segments_of segs part))

  -- A run whose first member is held, and that is to have other members, as many as are reserved at most; a shared one doesn't get smaller.
  pub record IsResized (h : Held) : Type 0 where
    pub there : k.held n h.first ≡ Some h
    pub run : is_in_run h ≡ true
    pub some : (segments_of segs part == 0) ≡ false
    pub fits : nat_lt h.reserved (segments_of segs part) ≡ false
    pub kept : (nat_le shared_from h.first && nat_lt (bytes_of segs part) (all_bytes k n (members k n h.first h))) ≡ false

  pub when_resized : (P : List Change → Type 0) (selector : ℕ) (c : Cpu) → P [] → ((h : Held) → IsResized h → P (run_changes k n h (members k n h.first h) (sizes_of segs part)))
      → P (huge_reallocation k n segs part selector c).changes
  when_resized P selector c none some = under (held_under k n selector) refl
    where
      gates : (h : Held) → k.held n h.first ≡ Some h → is_in_run h ≡ true → (is : List ℕ) → is ≡ members k n h.first h
          → (a : Bool) → (segments_of segs part == 0) ≡ a → (b : Bool) → nat_lt h.reserved (segments_of segs part) ≡ b
          → (d : Bool) → ((nat_le shared_from h.first && nat_lt (bytes_of segs part) (all_bytes k n is)) || in_use c (drop (segments_of segs part) is)) ≡ d → (f : Bool)
          → let r : Ruling = if a then refusal 87 else (if b then refusal 8 else (if d then refusal 5 else (if f then refusal 8 else grants 0 (run_changes k n h is (sizes_of segs part))))) in P r.changes
      gates h there run is same true x b y d z f = none
      gates h there run is same false x true y d z f = none
      gates h there run is same false x false y true z f = none
      gates h there run is same false x false y false z true = none
      gates h there run is same false x false y false z false =
          subst (λ (js : List ℕ). P (run_changes k n h js (sizes_of segs part))) (sym same)
          (some h (record {
            there = there;
            run = run;
            some = x;
            fits = y;
            kept = ap (λ (js : List ℕ). nat_le shared_from h.first && nat_lt (bytes_of segs part) (all_bytes k n js)) (sym same)
                ∙ left_false (nat_le shared_from h.first && nat_lt (bytes_of segs part) (all_bytes k n is)) (in_use c (drop (segments_of segs part) is)) z;
          }))

      under : (o : Option Held) → held_under k n selector ≡ o → P (huge_reallocation_of k n (selector / 8) segs part c o).changes
      under None e = none
      under (Some h) e = first (is_first (selector / 8) h) refl
        where
          number : (a b : ℕ) → (a == b) ≡ true → a ≡ b
          number a b f = grind arith

          there : k.held n (selector / 8) ≡ Some h
          there = held_there k n selector h e

          first : (b : Bool) → is_first (selector / 8) h ≡ b → P (if b then run_resized k n segs part c h (members k n (selector / 8) h) else refusal 5).changes
          first false f = none
          first true f =
              let x = and_parts (is_in_run h) (h.first == selector / 8) f in
              let same : h.first ≡ selector / 8 = number h.first (selector / 8) x.1 in
              let is = members k n (selector / 8) h in
              gates h (ap (k.held n) same ∙ there) x.0 is (ap (λ (i : ℕ). members k n i h) (sym same))
              (segments_of segs part == 0) refl (nat_lt h.reserved (segments_of segs part)) refl
              ((nat_le shared_from h.first && nat_lt (bytes_of segs part) (all_bytes k n is)) || in_use c (drop (segments_of segs part) is)) refl
              (nat_lt k.most (k.count + (segments_of segs part - length is)) || nat_lt (length is + length (left_in_run k n h)) (segments_of segs part))
