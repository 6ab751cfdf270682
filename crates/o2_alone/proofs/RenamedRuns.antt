-- What the calls on huge allocations come to by what is known, with other numbers for names: the same error, value and changes.
use Rattle.std.proofs.Common.{◌≡◌, refl, sym, ◌∙◌, ap, subst, ℕ, zero, suc, ◌+◌, ◌-◌, ◌<◌, ◌≤◌, ◌/◌, ◌%◌, ◌==◌, ◌&&◌, ◌||◌, Bool, true, false, cond, List, [], ◌∷◌, ◌++◌, length, filter, arith}
use Rattle.std.specs.Prelude.{Option, Some, None, flat_map, option_map, is_some, not, drop, max, nat_le, nat_lt}
use mathlib.Core.Path.{fun_ext}
use Rattle.std.proofs.lemmas.Bool.{eqb-true, false≢true}
use Rattle.o2_base.specs.Selectors.{selector_of}
use Rattle.o2_desc.specs.Choice.{chosen}
use Rattle.o2_isa.specs.declared.cpu.Cpu.{Cpu}
use Rattle.o2_world.specs.World.{Held}
use Rattle.o2_world.specs.Changes.{Change, Holds, Makes, Reserves, Resizes}
use Rattle.o2_world.specs.Known.{Known, Marks as SegmentMarks}
use Rattle.o2_world.specs.Rulings.{full_size, grants, held_under, in_use, indexes, is_in_run, made_segment, members, refusal, region_by}
use Rattle.o2_world.specs.SharedRulings.{holder, marks_under, shared_from}
use Rattle.o2_world.specs.HugeRulings.{all_bytes, all_dropped, bytes_of, dropped_members, flags_in, free_run, held_in_run, huge_allocation, huge_at}
use Rattle.o2_world.specs.HugeRulings.{huge_reallocation, huge_reallocation_of, is_first, is_huge_fault, is_unheld, left_in_run, new_members, other_shares}
use Rattle.o2_world.specs.HugeRulings.{resized_members, resized_one, run_changes, run_reserve, run_resized, segments_of, share_of, size_in, sizes_of}
use Rattle.o2_alone.specs.Renaming.{AreNumberedAlike, IsRenamedKnown, Renaming, comes_to_room, is_full_for, is_shared_run, renamed_changes, renamed_held, renamed_ruling}
use Rattle.o2_alone.proofs.RenamedRulings.{either, is_some_renamed, members_renamed, under_renamed}
use Rattle.o2_alone.proofs.Twins.{renamed_append}

-- two tests that agree keep the same
kept_alike : (g h : ℕ → Bool) (c lo : ℕ) → ((j : ℕ) → lo ≤ j → j < lo + c → g j ≡ h j) → filter g (indexes lo c) ≡ filter h (indexes lo c)
kept_alike g h zero lo same = refl
kept_alike g h (suc c) lo same =
    ap (λ (b : Bool). cond b (lo ∷ filter g (indexes (lo + 1) c)) (filter g (indexes (lo + 1) c))) (same lo (omega arith) (omega arith))
    ∙ ap (λ (is : List ℕ). cond (h lo) (lo ∷ is) is) (kept_alike g h c (lo + 1) (λ j low high. same j (omega (arith, low)) (omega (arith, high))))

-- below the shared indexes nobody else holds a run
pub no_other : (k : Known) (n first : ℕ) → nat_le shared_from first ≡ false → other_shares k n first ≡ []
no_other k n first low = ap (λ (b : Bool). cond b (flat_map (λ (m : ℕ). cond (m == n) [] (share_of first m (k.held m first))) (indexes 1 k.processes)) []) low

-- New members of the process alone.

new_renamed : (f : Renaming) (first count flags n times : ℕ) (is zs : List ℕ) (name other : ℕ) → ((j : ℕ) → other + j ≡ f (name + j))
    → new_members other first count flags ((n, times) ∷ []) is zs ≡ renamed_changes f (new_members name first count flags ((n, times) ∷ []) is zs)
new_renamed f first count flags n times [] zs name other same = refl
new_renamed f first count flags n times (i ∷ is) [] name other same = refl
new_renamed f first count flags n times (i ∷ is) (z ∷ zs) name other same =
    ap (λ (m : ℕ). Makes (made_segment z flags) ∷ Holds n i (held_in_run m first count times) ∷ new_members (other + 1) first count flags ((n, times) ∷ []) is zs) first_is
    ∙ ap (λ (cs : List Change). Makes (made_segment z flags) ∷ Holds n i (held_in_run (f name) first count times) ∷ cs) (new_renamed f first count flags n times is zs (name + 1) (other + 1) later)
  where
    first_is : other ≡ f name
    first_is =
        let a : other ≡ other + 0 = omega arith in
        let b : name + 0 ≡ name = omega arith in
        a ∙ (same 0 ∙ ap f b)

    later : (j : ℕ) → other + 1 + j ≡ f (name + 1 + j)
    later j =
        let a : other + 1 + j ≡ other + suc j = omega arith in
        let b : name + suc j ≡ name + 1 + j = omega arith in
        a ∙ (same (suc j) ∙ ap f b)

module _ (f : Renaming) (n : ℕ) (k o : Known) (same : IsRenamedKnown f n k o) where
  -- the marks of what the process holds under an index
  marks_renamed : (i : ℕ) → marks_under o (o.held n i) ≡ marks_under k (k.held n i)
  marks_renamed i = ap (marks_under o) (same.held i) ∙ by_held (k.held n i) refl
    where
      by_held : (x : Option Held) → k.held n i ≡ x → marks_under o (option_map (renamed_held f) x) ≡ marks_under k x
      by_held None at = refl
      by_held (Some h) at = same.segment h (i, at)

  bytes_renamed : (is : List ℕ) → all_bytes o n is ≡ all_bytes k n is
  bytes_renamed [] = refl
  bytes_renamed (i ∷ is) = ap (λ (m : Option SegmentMarks). size_in m + all_bytes o n is) (marks_renamed i) ∙ ap (λ (c : ℕ). size_in (marks_under k (k.held n i)) + c) (bytes_renamed is)

module _ (f : Renaming) (n : ℕ) (k o : Known) (same : IsRenamedKnown f n k o) (names : AreNumberedAlike f k o) where
  -- DosAllocHuge

  run_own : (count : ℕ) → free_run o n count ≡ free_run k n count
  run_own count = go (n == 0) refl
    where
      own : o.taken n ≡ k.taken n
      own = fun_ext same.taken

      go : (b : Bool) → (n == 0) ≡ b → cond b (chosen (o.taken 0) 4096 8192 count) (chosen (o.taken n) 1 4096 count) ≡ cond b (chosen (k.taken 0) 4096 8192 count) (chosen (k.taken n) 1 4096 count)
      go true is = ap (λ (t : ℕ → Bool). chosen t 4096 8192 count) (subst (λ (m : ℕ). o.taken m ≡ k.taken m) (eqb-true n 0 is) own)
      go false is = ap (λ (t : ℕ → Bool). chosen t 1 4096 count) own

  run_by : (flags count : ℕ) → (not (flags % 4 == 0) ≡ true → (i : ℕ) → o.taken 0 i ≡ k.taken 0 i) → free_run o (region_by n flags) count ≡ free_run k (region_by n flags) count
  run_by flags count shared = go (flags % 4 == 0) refl
    where
      go : (b : Bool) → (flags % 4 == 0) ≡ b → free_run o (cond b n 0) count ≡ free_run k (cond b n 0) count
      go true is = run_own count
      go false is = ap (λ (t : ℕ → Bool). chosen t 4096 8192 count) (fun_ext (shared (ap not is)))

  pub huge_allocation_renamed : (segs part most flags : ℕ) → (is_huge_fault (segments_of segs part) most flags ≡ false → is_full_for (segments_of segs part) o ≡ is_full_for (segments_of segs part) k)
      → (not (flags % 4 == 0) ≡ true → (i : ℕ) → o.taken 0 i ≡ k.taken 0 i) → huge_allocation o n segs part most flags ≡ renamed_ruling f (huge_allocation k n segs part most flags)
  huge_allocation_renamed segs part most flags room shared = by_fault (is_huge_fault m most flags) refl
    where
      m : ℕ
      m = segments_of segs part

      at_index : (x : Option ℕ) → huge_at o n segs part (max m most) flags x ≡ renamed_ruling f (huge_at k n segs part (max m most) flags x)
      at_index None = refl
      at_index (Some i) =
          ap (λ (cs : List Change). grants (selector_of i) cs)
          (ap (λ (cs : List Change). cs ++ Reserves (run_reserve (region_by n flags) i (max m most)) ∷ []) (new_renamed f i (max m most) flags n 1 (indexes i m) (sizes_of segs part) k.next o.next names)
          ∙ sym (renamed_append f (new_members k.next i (max m most) flags ((n, 1) ∷ []) (indexes i m) (sizes_of segs part)) (Reserves (run_reserve (region_by n flags) i (max m most)) ∷ [])))

      chooses : huge_at o n segs part (max m most) flags (free_run o (region_by n flags) (max m most)) ≡ renamed_ruling f (huge_at k n segs part (max m most) flags (free_run k (region_by n flags) (max m most)))
      chooses = ap (huge_at o n segs part (max m most) flags) (run_by flags (max m most) shared) ∙ at_index (free_run k (region_by n flags) (max m most))

      by_fault : (b : Bool) → is_huge_fault m most flags ≡ b
          → cond b (refusal 87) (cond (is_full_for m o) (refusal 8) (huge_at o n segs part (max m most) flags (free_run o (region_by n flags) (max m most))))
          ≡ renamed_ruling f (cond b (refusal 87) (cond (is_full_for m k) (refusal 8) (huge_at k n segs part (max m most) flags (free_run k (region_by n flags) (max m most)))))
      by_fault true is = refl
      by_fault false is =
          ap (λ (b : Bool). cond b (refusal 8) (huge_at o n segs part (max m most) flags (free_run o (region_by n flags) (max m most)))) (room is)
          ∙ either f (is_full_for m k) (refusal 8) (huge_at k n segs part (max m most) flags (free_run k (region_by n flags) (max m most))) (refusal 8) (huge_at o n segs part (max m most) flags (free_run o (region_by n flags) (max m most))) refl chooses

  -- DosReallocHuge

  one_resized : (z : ℕ) (x : Option Held) (m : Option SegmentMarks) → resized_one z (option_map (renamed_held f) x) m ≡ renamed_changes f (resized_one z x m)
  one_resized z None None = refl
  one_resized z None (Some m) = refl
  one_resized z (Some h) None = refl
  one_resized z (Some h) (Some m) = go (m.size == full_size z)
    where
      go : (b : Bool) → cond b [] (Resizes (f h.name) (full_size z) ∷ []) ≡ renamed_changes f (cond b [] (Resizes h.name (full_size z) ∷ []))
      go true = refl
      go false = refl

  sizes_renamed : (is zs : List ℕ) → resized_members o n is zs ≡ renamed_changes f (resized_members k n is zs)
  sizes_renamed [] zs = refl
  sizes_renamed (i ∷ is) [] = refl
  sizes_renamed (i ∷ is) (z ∷ zs) =
      ap (λ (x : Option Held). resized_one z x (marks_under o (o.held n i)) ++ resized_members o n is zs) (same.held i)
      ∙ (ap (λ (m : Option SegmentMarks). resized_one z (option_map (renamed_held f) (k.held n i)) m ++ resized_members o n is zs) (marks_renamed f n k o same i)
      ∙ (ap (λ (cs : List Change). cs ++ resized_members o n is zs) (one_resized z (k.held n i) (marks_under k (k.held n i)))
      ∙ (ap (λ (cs : List Change). renamed_changes f (resized_one z (k.held n i) (marks_under k (k.held n i))) ++ cs) (sizes_renamed is zs)
      ∙ sym (renamed_append f (resized_one z (k.held n i) (marks_under k (k.held n i))) (resized_members k n is zs)))))

  one_dropped : (i : ℕ) (x : Option Held) → all_dropped n i (option_map (renamed_held f) x) ≡ renamed_changes f (all_dropped n i x)
  one_dropped i None = refl
  one_dropped i (Some h) = refl

  drops_renamed : (is : List ℕ) → dropped_members o n is ≡ renamed_changes f (dropped_members k n is)
  drops_renamed [] = refl
  drops_renamed (i ∷ is) =
      ap (λ (x : Option Held). all_dropped n i x ++ dropped_members o n is) (same.held i)
      ∙ (ap (λ (cs : List Change). cs ++ dropped_members o n is) (one_dropped i (k.held n i))
      ∙ (ap (λ (cs : List Change). renamed_changes f (all_dropped n i (k.held n i)) ++ cs) (drops_renamed is)
      ∙ sym (renamed_append f (all_dropped n i (k.held n i)) (dropped_members k n is))))

  -- a run of the process's own region
  module _ (h : Held) (there : (i : ℕ) × (k.held n i ≡ Some h)) (run : is_in_run h ≡ true) (own : is_shared_run h ≡ false) where
    low_end : h.first + h.reserved ≤ 4096
    low_end = low (h.first + h.reserved) (and_false (is_in_run h) (nat_lt 4096 (h.first + h.reserved)) run own)
      where
        and_false : (a b : Bool) → a ≡ true → (a && b) ≡ false → b ≡ false
        and_false true b e f = f
        and_false false b e f = absurd (false≢true e)

        low : (m : ℕ) → nat_lt 4096 m ≡ false → m ≤ 4096
        low m e = grind arith

    some : 0 < h.reserved
    some = above h.reserved run
      where
        above : (m : ℕ) → not (m == 0) ≡ true → 0 < m
        above m e = grind arith

    low_first : nat_le shared_from h.first ≡ false
    low_first = below h.first (let a = low_end in let b = some in omega (arith, a, b))
      where
        below : (m : ℕ) → m < 4096 → nat_le 4096 m ≡ false
        below m l = grind arith

    none_other : (x : Known) → other_shares x n h.first ≡ []
    none_other x = no_other x n h.first low_first

    left_renamed : left_in_run o n (renamed_held f h) ≡ left_in_run k n h
    left_renamed = kept_alike (is_unheld o n) (is_unheld k n) h.reserved h.first one
      where
        low_index : (m : ℕ) → m < 4096 → nat_le 4096 m ≡ false
        low_index m l = grind arith

        one : (j : ℕ) → h.first ≤ j → j < h.first + h.reserved → is_unheld o n j ≡ is_unheld k n j
        one j low high =
            let e : nat_le shared_from j ≡ false = low_index j (let a = low_end in omega (arith, high, a)) in
            ap (λ (b : Bool). cond b (not (is_some (holder o j))) (not (is_some (o.held n j)))) e
            ∙ (ap not (ap (λ (x : Option Held). is_some x) (same.held j) ∙ is_some_renamed f (k.held n j))
            ∙ sym (ap (λ (b : Bool). cond b (not (is_some (holder k j))) (not (is_some (k.held n j)))) e))

    changes_renamed : (is zs : List ℕ) → run_changes o n (renamed_held f h) is zs ≡ renamed_changes f (run_changes k n h is zs)
    changes_renamed is zs =
        ap (λ (ps : List (ℕ × ℕ)). resized_members o n is zs ++ (new_members o.next h.first h.reserved (flags_in (o.segment (f h.name))) ((n, h.holds) ∷ ps) (left_in_run o n (renamed_held f h)) (drop (length is) zs) ++ dropped_members o n (drop (length zs) is))) (none_other o)
        ∙ (ap (λ (x : Option SegmentMarks). resized_members o n is zs ++ (new_members o.next h.first h.reserved (flags_in x) alone (left_in_run o n (renamed_held f h)) (drop (length is) zs) ++ dropped_members o n (drop (length zs) is))) (same.segment h there)
        ∙ (ap (λ (js : List ℕ). resized_members o n is zs ++ (new_members o.next h.first h.reserved flags alone js (drop (length is) zs) ++ dropped_members o n (drop (length zs) is))) left_renamed
        ∙ (ap (λ (cs : List Change). resized_members o n is zs ++ (cs ++ dropped_members o n (drop (length zs) is))) (new_renamed f h.first h.reserved flags n h.holds (left_in_run k n h) (drop (length is) zs) k.next o.next names)
        ∙ (ap (λ (cs : List Change). resized_members o n is zs ++ (renamed_changes f comes ++ cs)) (drops_renamed (drop (length zs) is))
        ∙ (ap (λ (cs : List Change). cs ++ (renamed_changes f comes ++ renamed_changes f (dropped_members k n (drop (length zs) is)))) (sizes_renamed is zs)
        ∙ (ap (λ (cs : List Change). renamed_changes f (resized_members k n is zs) ++ cs) (sym (renamed_append f comes (dropped_members k n (drop (length zs) is))))
        ∙ (sym (renamed_append f (resized_members k n is zs) (comes ++ dropped_members k n (drop (length zs) is)))
        ∙ ap (λ (ps : List (ℕ × ℕ)). renamed_changes f (resized_members k n is zs ++ (new_members k.next h.first h.reserved flags ((n, h.holds) ∷ ps) (left_in_run k n h) (drop (length is) zs) ++ dropped_members k n (drop (length zs) is)))) (sym (none_other k)))))))))
      where
        alone : List (ℕ × ℕ)
        alone = (n, h.holds) ∷ []

        flags : ℕ
        flags = flags_in (k.segment h.name)

        comes : List Change
        comes = new_members k.next h.first h.reserved flags ((n, h.holds) ∷ []) (left_in_run k n h) (drop (length is) zs)

  pub huge_reallocation_renamed : (segs part s : ℕ) (c : Cpu) → ((h : Held) → held_under k n s ≡ Some h → is_shared_run h ≡ false)
      → ((h : Held) → held_under k n s ≡ Some h → comes_to_room k n (s / 8) segs part c h ≡ true → is_full_for (segments_of segs part - length (members k n (s / 8) h)) o ≡ is_full_for (segments_of segs part - length (members k n (s / 8) h)) k)
      → ((h : Held) → held_under k n s ≡ Some h → k.held n (s / 8) ≡ Some h)
      → huge_reallocation o n segs part s c ≡ renamed_ruling f (huge_reallocation k n segs part s c)
  huge_reallocation_renamed segs part s c own room at = ap (huge_reallocation_of o n (s / 8) segs part c) (under_renamed f n k o same s) ∙ rules (held_under k n s) refl
    where
      m : ℕ
      m = segments_of segs part

      and_parts : (a b : Bool) → (a && b) ≡ true → a ≡ true
      and_parts true b e = refl
      and_parts false b e = e

      rules : (x : Option Held) → held_under k n s ≡ x → huge_reallocation_of o n (s / 8) segs part c (option_map (renamed_held f) x) ≡ renamed_ruling f (huge_reallocation_of k n (s / 8) segs part c x)
      rules None under = refl
      rules (Some h) under = first (is_first (s / 8) h) refl
        where
          is : List ℕ
          is = members k n (s / 8) h

          denied : Known → Bool
          denied x = (nat_le shared_from h.first && nat_lt (bytes_of segs part) (all_bytes x n is)) || in_use c (drop m is)

          left_few : Known → Held → Bool
          left_few x y = nat_lt (length is + length (left_in_run x n y)) m

          gates : is_first (s / 8) h ≡ true → (a : Bool) → (m == 0) ≡ a → (b : Bool) → nat_lt h.reserved m ≡ b → (d : Bool) → denied k ≡ d
              → cond a (refusal 87) (cond b (refusal 8) (cond (denied o) (refusal 5) (cond (is_full_for (m - length is) o || left_few o (renamed_held f h)) (refusal 8) (grants 0 (run_changes o n (renamed_held f h) is (sizes_of segs part))))))
              ≡ renamed_ruling f (cond a (refusal 87) (cond b (refusal 8) (cond d (refusal 5) (cond (is_full_for (m - length is) k || left_few k h) (refusal 8) (grants 0 (run_changes k n h is (sizes_of segs part)))))))
          gates e true x b y d z = refl
          gates e false x true y d z = refl
          gates e false x false y d z =
              ap (λ (t : Bool). cond t (refusal 5) (cond (is_full_for (m - length is) o || left_few o (renamed_held f h)) (refusal 8) (grants 0 (run_changes o n (renamed_held f h) is (sizes_of segs part)))))
              (ap (λ (t : ℕ). (nat_le shared_from h.first && nat_lt (bytes_of segs part) t) || in_use c (drop m is)) (bytes_renamed f n k o same is) ∙ z)
              ∙ last d z
            where
              mine : is_in_run h ≡ true
              mine = and_parts (is_in_run h) (h.first == s / 8) e

              comes : denied k ≡ false → comes_to_room k n (s / 8) segs part c h ≡ true
              comes g = rw (e, x, y, g) refl

              last : (d : Bool) → denied k ≡ d
                  → cond d (refusal 5) (cond (is_full_for (m - length is) o || left_few o (renamed_held f h)) (refusal 8) (grants 0 (run_changes o n (renamed_held f h) is (sizes_of segs part))))
                  ≡ renamed_ruling f (cond d (refusal 5) (cond (is_full_for (m - length is) k || left_few k h) (refusal 8) (grants 0 (run_changes k n h is (sizes_of segs part)))))
              last true g = refl
              last false g =
                  ap (λ (t : Bool). cond (t || left_few o (renamed_held f h)) (refusal 8) (grants 0 (run_changes o n (renamed_held f h) is (sizes_of segs part)))) (room h under (comes g))
                  ∙ (ap (λ (js : List ℕ). cond (is_full_for (m - length is) k || nat_lt (length is + length js) m) (refusal 8) (grants 0 (run_changes o n (renamed_held f h) is (sizes_of segs part)))) (left_renamed h (s / 8, at h under) mine (own h under))
                  ∙ either f (is_full_for (m - length is) k || left_few k h) (refusal 8) (grants 0 (run_changes k n h is (sizes_of segs part))) (refusal 8) (grants 0 (run_changes o n (renamed_held f h) is (sizes_of segs part))) refl
                  (ap (grants 0) (changes_renamed h (s / 8, at h under) mine (own h under) is (sizes_of segs part))))

          first : (b : Bool) → is_first (s / 8) h ≡ b
              → cond b (run_resized o n segs part c (renamed_held f h) (members o n (s / 8) (renamed_held f h))) (refusal 5) ≡ renamed_ruling f (cond b (run_resized k n segs part c h (members k n (s / 8) h)) (refusal 5))
          first false e = refl
          first true e =
              ap (λ (js : List ℕ). run_resized o n segs part c (renamed_held f h) js) (members_renamed f n k o same (s / 8) h)
              ∙ gates e (m == 0) refl (nat_lt h.reserved m) refl (denied k) refl

-- a DosReallocHuge comes to the question of room in both
pub comes_renamed : (f : Renaming) (n : ℕ) (k o : Known) → IsRenamedKnown f n k o → (segs part i : ℕ) (c : Cpu) (h : Held) → comes_to_room o n i segs part c (renamed_held f h) ≡ comes_to_room k n i segs part c h
comes_renamed f n k o same segs part i c h =
    ap (λ (is : List ℕ). is_first i h && (not (segments_of segs part == 0)
    && (not (nat_lt h.reserved (segments_of segs part))
    && not ((nat_le shared_from h.first && nat_lt (bytes_of segs part) (all_bytes o n is))
    || in_use c (drop (segments_of segs part) is))))) (members_renamed f n k o same i h)
    ∙ ap (λ (x : ℕ). is_first i h && (not (segments_of segs part == 0)
    && (not (nat_lt h.reserved (segments_of segs part))
    && not ((nat_le shared_from h.first && nat_lt (bytes_of segs part) x)
    || in_use c (drop (segments_of segs part) (members k n i h)))))) (bytes_renamed f n k o same (members k n i h))
