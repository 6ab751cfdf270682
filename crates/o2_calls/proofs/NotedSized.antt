-- What is noted of DosReallocHuge.
use Rattle.std.proofs.Common.{◌≡◌, ◌≢◌, ℕ, zero, suc, ◌+◌, ◌-◌, ◌*◌, ◌/◌, ◌%◌, ◌<◌, ◌≤◌, ◌==◌, nat_le, nat_lt, Bool, true, false, cond, List, [], ◌∷◌, ◌++◌, length, min}
use Rattle.std.proofs.Common.{Option, Some, None, option_map, if◌then◌else◌, refl, sym, ap, ◌∙◌, subst, arith, append-nil}
use Rattle.std.specs.Prelude.{flat_map, replicate}
use Rattle.std.proofs.lemmas.Bool.{cond-false, ne_eqb}
use Rattle.std.proofs.lemmas.Grind.{flat_map-append}
use Rattle.o2_base.specs.Selectors.{selector_of}
use Rattle.o2_isa.specs.declared.cpu.Cpu.{Cpu}
use Rattle.o2_entries.specs.Tables.{live_numbers}
use Rattle.o2_regions.specs.declared.held.Held.{Held as HeldThere}
use Rattle.o2_regions.specs.Kept.{AreKept}
use Rattle.o2_regions.specs.Maps.{Maps, IsProcess, end_of, held_at, holds_of, region_of}
use Rattle.o2_segbus.specs.Seen.{AreNamed}
use Rattle.o2_store.specs.Shelf.{Shelf, entry}
use Rattle.o2_world.specs.Changes.{Change, Drops, Finishes, Frees, Holds, Locks, Makes, Marks, Names, Reserves, Resizes, at_number, drop_lines_of, hold_lines_of, in_order, key_of, more, fewer, moved_lines, with_change, with_changes}
use Rattle.o2_world.specs.Holders.{process_at}
use Rattle.o2_world.specs.HugeRulings.{all_hold, huge_reallocation, is_first, new_members, segments_of, sizes_of}
use Rattle.o2_world.specs.Known.{Known, held_at as world_held}
use Rattle.o2_world.specs.Map.{Map, get, put}
use Rattle.o2_world.specs.Rulings.{Ruling, full_size, grants, indexes}
use Rattle.o2_world.specs.Sound.{held_of as held_under}
use Rattle.o2_world.specs.World.{DropsBy, Held, HoldsBy, Line, Process, World}
use Rattle.o2_world.proofs.Reached.{get-put}
use Rattle.o2_gate.specs.declared.moves.Block.{Block}
use Rattle.o2_gate.specs.MovedLines.{AreInside, all_lines, block_lines}
use Rattle.o2_stands.specs.Knows.{Others, known_in}
use Rattle.o2_stands.specs.Parts.{Parts, held_in, held_of}
use Rattle.o2_stands.specs.Runs.{AreFull, AreRuns}
use Rattle.o2_stands.proofs.Puts.{number_kept, with_map}
use Rattle.o2_segs.proofs.Selecting.{under, under_held}
use Rattle.o2_huge.specs.Growth.{is_of_run, lost_in, lost_there, share_by, share_there, shares_in, sized_there}
use Rattle.o2_huge.specs.Resized.{changed_in, flags_there, run_count, run_fault, sized_last}
use Rattle.o2_huge.proofs.Asking.{IsAsked, huge_fault, huge_full, huge_good, huge_none, huge_other}
use Rattle.o2_huge.proofs.Stretch.{more_wanted}
use Rattle.o2_calls.specs.declared.noting.Counted.{Counted}
use Rattle.o2_calls.specs.Noted.{AreTold, came, counted_there, counted_under, grown, members_from, share_block, sized_blocks, went}
use Rattle.o2_calls.proofs.Fronts.{as_often, counted_inside, counted_some, few, from_last, from_most, member_at, region_ends, same_end}
use Rattle.o2_calls.proofs.NotedLines.{Tells, eight, five, members_drop, members_hold, one_holder, refused, rise_came, shares, sizes_length, told_came, told_nothing, told_went}
use Rattle.o2_calls.proofs.Ordered.{AreBy, AreEachBy, Rise, all_among, but, by_append, by_times, first_of, in_order_among, in_order_still, rise_append, rise_high, rise_low, turned}

le_of : (a b : ℕ) → nat_le a b ≡ true → a ≤ b
le_of a b e = grind arith

lt_of : (a b : ℕ) → nat_lt a b ≡ true → a < b
lt_of a b e = grind arith

ge_of : (a b : ℕ) → nat_lt a b ≡ false → b ≤ a
ge_of a b e = grind arith

flat_twice : {X Y Z : Type 0} (f : Y → List Z) (g : X → List Y) (xs : List X) → flat_map f (flat_map g xs) ≡ flat_map (λ (x : X). flat_map f (g x)) xs
flat_twice f g [] = refl
flat_twice {X} f g (x ∷ xs) = flat_map-append f (g x) (flat_map g xs) ∙ ap (λ ls. flat_map f (g x) ++ ls) (flat_twice f g xs)

flat_same : {X Y : Type 0} (f g : X → List Y) (xs : List X) → ((x : X) → f x ≡ g x) → flat_map f xs ≡ flat_map g xs
flat_same f g [] same = refl
flat_same f g (x ∷ xs) same = ap (λ ys. ys ++ flat_map f xs) (same x) ∙ ap (λ ys. g x ++ ys) (flat_same f g xs same)

-- Changes at other indexes leave what is held at one.

module _ (i : ℕ) where
  abbrev IsApart : Change → Type 0
  IsApart (Makes s) = Unit {0}
  IsApart (Resizes name size) = Unit {0}
  IsApart (Locks name count) = Unit {0}
  IsApart (Marks name discarded) = Unit {0}
  IsApart (Holds p j h) = j ≢ i
  IsApart (Drops p j count) = j ≢ i
  IsApart (Finishes p state) = ⊥
  IsApart (Reserves r) = Unit {0}
  IsApart (Frees region first) = Unit {0}
  IsApart (Names text name) = Unit {0}

  abbrev AreApart : List Change → Type 0
  AreApart [] = Unit {0}
  AreApart (c ∷ cs) = IsApart c × AreApart cs

  apart_append : (xs ys : List Change) → AreApart xs → AreApart ys → AreApart (xs ++ ys)
  apart_append [] ys front back = back
  apart_append (x ∷ xs) ys front back = (front.0, apart_append xs ys front.1 back)

  abbrev flat : Option (Option Held) → Option Held
  flat None = None
  flat (Some o) = o

  by_flat : (o : Option Process) → held_under o i ≡ flat (option_map (λ (x : Process). get x.held i) o)
  by_flat None = refl
  by_flat (Some x) = refl

  put_apart : (ps : List Process) (p q j : ℕ) (u : Option Held → Option Held) → j ≢ i
      → world_held (at_number p (with_map (λ (t : Map Held). put j (u (get t j)) t)) ps) q i ≡ world_held ps q i
  put_apart ps p q j u other =
      by_flat (process_at (at_number p (with_map (λ (t : Map Held). put j (u (get t j)) t)) ps) q)
      ∙ (ap flat (number_kept (λ (x : Process). get x.held i) (λ (t : Map Held). put j (u (get t j)) t) (λ x. get-put j i (u (get x.held j)) x.held ∙ cond-false (j == i) (u (get x.held j)) (get x.held i) (ne_eqb j i other)) p q ps)
      ∙ sym (by_flat (process_at ps q)))

  one_apart : (v : World) (c : Change) → IsApart c → (q : ℕ) → world_held (with_change v c).processes q i ≡ world_held v.processes q i
  one_apart v (Makes s) is q = refl
  one_apart v (Resizes name size) is q = refl
  one_apart v (Locks name count) is q = refl
  one_apart v (Marks name discarded) is q = refl
  one_apart v (Holds p j h) is q = put_apart v.processes p q j (more h) is
  one_apart v (Drops p j count) is q = put_apart v.processes p q j (fewer count) is
  one_apart v (Finishes p state) is q = absurd is
  one_apart v (Reserves r) is q = refl
  one_apart v (Frees region first) is q = refl
  one_apart v (Names text name) is q = refl

  all_apart : (v : World) (cs : List Change) → AreApart cs → (q : ℕ) → world_held (with_changes v cs).processes q i ≡ world_held v.processes q i
  unfolding with_changes
  all_apart v [] are q = refl
  all_apart v (c ∷ cs) are q = all_apart (with_change v c) cs are.1 q ∙ one_apart v c are.0 q

  sized_apart : (s : Shelf) (size : ℕ) (o : Option HeldThere) → AreApart (sized_there s size o)
  sized_apart s size None = tt
  sized_apart s size (Some h) = go ((entry s h.id.key).size == full_size size)
    where
      go : (b : Bool) → AreApart (cond b [] (Resizes h.id.age (full_size size) ∷ []))
      go true = tt
      go false = (tt, tt)

  hold_apart : (name first count j : ℕ) (ps : List (ℕ × ℕ)) → j ≢ i → AreApart (all_hold name first count j ps)
  hold_apart name first count j [] other = tt
  hold_apart name first count j (p ∷ ps) other = (other, hold_apart name first count j ps other)

  members_apart : (name first count flags : ℕ) (ps : List (ℕ × ℕ)) (a n : ℕ) (zs : List ℕ) → i < a → AreApart (new_members name first count flags ps (indexes a n) zs)
  members_apart name first count flags ps a zero zs less = tt
  members_apart name first count flags ps a (suc n) [] less = tt
  members_apart name first count flags ps a (suc n) (z ∷ zs) less = (
    tt,
    apart_append (all_hold name first count a ps) (new_members (name + 1) first count flags ps (indexes (a + 1) n) zs)
        (hold_apart name first count a ps (λ e. omega (arith, e, less))) (members_apart (name + 1) first count flags ps (a + 1) n zs (omega (arith, less))),
  )

-- New members for all that hold a run.

module _ (cause : List ℕ) (m : Maps) (pid first a c : ℕ) (h : HeldThere) (there : held_at m pid first ≡ Some h) (of : is_of_run first h ≡ true) (inside : a + c ≤ 8192) (process : IsProcess m pid) where
  abbrev line : ℕ → Line
  line n = HoldsBy (n / 65536) (n % 65536) cause

  by_line : (p j : ℕ) → j < 8192 → HoldsBy p (selector_of j) cause ≡ line (key_of (HoldsBy p (selector_of j) cause))
  by_line p j low =
      let x : p ≡ (65536 * p + (8 * j + 7)) / 65536 = omega (arith, low) in
      let y : 8 * j + 7 ≡ (65536 * p + (8 * j + 7)) % 65536 = omega (arith, low) in
      ap (λ (z : ℕ). HoldsBy z (selector_of j) cause) x ∙ ap (λ (z : ℕ). HoldsBy ((65536 * p + (8 * j + 7)) / 65536) z cause) y

  times_by : (p j holds : ℕ) → j < 8192 → AreBy line (replicate holds (HoldsBy p (selector_of j) cause))
  times_by p j holds low = by_times line holds (HoldsBy p (selector_of j) cause) (by_line p j low)

  each_by : (b n : ℕ) → b + n ≤ 8192 → AreEachBy line (λ (j : ℕ) (q : ℕ × ℕ). replicate q.1 (HoldsBy q.0 (selector_of j) cause)) (indexes b n)
  each_by b zero low = tt
  each_by b (suc n) low = (λ q. times_by q.0 b q.1 (omega (arith, low)), each_by (b + 1) n (omega (arith, low)))

  block_by : (p holds b n : ℕ) → b + n ≤ 8192 → AreBy line (block_lines cause (came p b n holds))
  block_by p holds b zero low = tt
  block_by p holds b (suc n) low =
      by_append line (replicate holds (HoldsBy p (selector_of b) cause)) (block_lines cause (came p (b + 1) n holds)) (times_by p b holds (omega (arith, low))) (block_by p holds (b + 1) n (omega (arith, low)))

  -- the lines of a process that holds the run
  abbrev own : ℕ → List Line
  own q = flat_map (block_lines cause) (share_block first a c q (held_at m q first))

  own_by : (q : ℕ) → AreBy line (own q)
  own_by q = go (held_at m q first)
    where
      one : (k : HeldThere) (b : Bool) → AreBy line (flat_map (block_lines cause) (cond b (came q a c k.holds ∷ []) []))
      one k true = by_append line (block_lines cause (came q a c k.holds)) [] (block_by q k.holds a c inside) tt
      one k false = tt

      go : (o : Option HeldThere) → AreBy line (flat_map (block_lines cause) (share_block first a c q o))
      go None = tt
      go (Some k) = one k (is_of_run first k)

  own_rise : (q : ℕ) → Rise (65536 * q) (65536 * (q + 1)) (own q)
  own_rise q = go (held_at m q first)
    where
      one : (k : HeldThere) (b : Bool) → Rise (65536 * q) (65536 * (q + 1)) (flat_map (block_lines cause) (cond b (came q a c k.holds ∷ []) []))
      one k true =
          subst (Rise (65536 * q) (65536 * (q + 1))) (sym (append-nil (block_lines cause (came q a c k.holds))))
          (rise_low (65536 * q + 8 * a) (65536 * q) (65536 * (q + 1)) (block_lines cause (came q a c k.holds)) (omega arith)
          (rise_high (65536 * q + 8 * a) (65536 * q + 8 * (a + c)) (65536 * (q + 1)) (block_lines cause (came q a c k.holds)) (omega (arith, inside)) (rise_came cause q a c k.holds)))
      one k false = omega arith

      go : (o : Option HeldThere) → Rise (65536 * q) (65536 * (q + 1)) (flat_map (block_lines cause) (share_block first a c q o))
      go None = omega arith
      go (Some k) = one k (is_of_run first k)

  all_rise : (b n : ℕ) → Rise (65536 * b) (65536 * (b + n)) (flat_map own (indexes b n))
  all_rise b zero = omega arith
  all_rise b (suc n) =
      let same : 65536 * (b + 1 + n) ≡ 65536 * (b + suc n) = omega arith in
      rise_append (65536 * b) (65536 * (b + 1)) (65536 * (b + suc n)) (own b) (flat_map own (indexes (b + 1) n)) (own_rise b)
      (subst (λ (z : ℕ). Rise (65536 * (b + 1)) z (flat_map own (indexes (b + 1) n))) same (all_rise (b + 1) n))

  abbrev of_pair : ℕ × ℕ → List Line
  of_pair q = flat_map (λ (j : ℕ). replicate q.1 (HoldsBy q.0 (selector_of j) cause)) (indexes a c)

  others_are : (q : ℕ) → flat_map of_pair (share_by m pid first q) ≡ but line own pid q
  others_are q = go (q == pid)
    where
      one : (k : HeldThere) (b : Bool) → flat_map of_pair (cond b ((q, k.holds) ∷ []) []) ≡ flat_map (block_lines cause) (cond b (came q a c k.holds ∷ []) [])
      one k true = refl
      one k false = refl

      held : (o : Option HeldThere) → flat_map of_pair (share_there first q o) ≡ flat_map (block_lines cause) (share_block first a c q o)
      held None = refl
      held (Some k) = one k (is_of_run first k)

      go : (b : Bool) → flat_map of_pair (cond b [] (share_there first q (held_at m q first))) ≡ cond b [] (own q)
      go true = refl
      go false = held (held_at m q first)

  own_first : own pid ≡ of_pair (pid, h.holds)
  own_first =
      ap (λ (o : Option HeldThere). flat_map (block_lines cause) (share_block first a c pid o)) there
      ∙ (ap (λ (b : Bool). flat_map (block_lines cause) (cond b (came pid a c h.holds ∷ []) [])) of
      ∙ append-nil (of_pair (pid, h.holds)))

  abbrev holders : List (ℕ × ℕ)
  holders = (pid, h.holds) ∷ flat_map (share_by m pid first) (indexes 1 m.processes)

  pub in_order_shares : in_order (flat_map (shares cause holders) (indexes a c)) ≡ flat_map own (indexes 1 m.processes)
  in_order_shares =
      in_order_among (flat_map (shares cause holders) (indexes a c))
      ∙ (turned line (λ (j : ℕ) (q : ℕ × ℕ). replicate q.1 (HoldsBy q.0 (selector_of j) cause)) (indexes a c) holders [] (each_by a c inside)
      ∙ (ap (λ (ls : List Line). all_among (of_pair (pid, h.holds) ++ ls) []) (flat_twice of_pair (share_by m pid first) (indexes 1 m.processes) ∙ flat_same _ (but line own pid) (indexes 1 m.processes) others_are)
      ∙ (ap (λ (ls : List Line). all_among (ls ++ flat_map (but line own pid) (indexes 1 m.processes)) []) (sym own_first)
      ∙ (first_of line own pid 1 m.processes [] own_by process.0 (let low = process.1 in omega (arith, low))
      ∙ (sym (in_order_among (flat_map own (indexes 1 m.processes)))
      ∙ in_order_still (65536 * 1) (65536 * (1 + m.processes)) (flat_map own (indexes 1 m.processes)) (all_rise 1 m.processes))))))

  abbrev blocks : List Block
  blocks = flat_map (λ (q : ℕ). share_block first a c q (held_at m q first)) (indexes 1 m.processes)

  inside_append : (xs ys : List Block) → AreInside xs → AreInside ys → AreInside (xs ++ ys)
  inside_append [] ys front back = back
  inside_append (x ∷ xs) ys front back = (front.0, inside_append xs ys front.1 back)

  all_inside : (ns : List ℕ) → AreInside (flat_map (λ (q : ℕ). share_block first a c q (held_at m q first)) ns)
  all_inside [] = tt
  all_inside (q ∷ ns) = inside_append (share_block first a c q (held_at m q first)) _ (go (held_at m q first)) (all_inside ns)
    where
      one : (k : HeldThere) (b : Bool) → AreInside (cond b (came q a c k.holds ∷ []) [])
      one k true = (inside, tt)
      one k false = tt

      go : (o : Option HeldThere) → AreInside (share_block first a c q o)
      go None = tt
      go (Some k) = one k (is_of_run first k)

  pub told_shares : (cs : List Change) → flat_map (hold_lines_of cause) cs ≡ flat_map (shares cause holders) (indexes a c) → flat_map (drop_lines_of cause) cs ≡ [] → AreTold cause blocks cs
  unfolding all_lines moved_lines
  told_shares cs holds drops = record {
    lines =
        flat_twice (block_lines cause) (λ (q : ℕ). share_block first a c q (held_at m q first)) (indexes 1 m.processes)
        ∙ sym (ap (λ (ls : List Line). in_order ls ++ in_order (flat_map (drop_lines_of cause) cs)) holds
        ∙ (ap (λ (ls : List Line). in_order (flat_map (shares cause holders) (indexes a c)) ++ in_order ls) drops
        ∙ (append-nil (in_order (flat_map (shares cause holders) (indexes a c))) ∙ in_order_shares)));
    inside = all_inside (indexes 1 m.processes);
  }

-- Members that go, each of as many holds.
lost_lines : (cause : List ℕ) (m : Maps) (pid a n holds : ℕ) → ((j : ℕ) → a ≤ j → j < a + n → (k : HeldThere) × ((held_at m pid j ≡ Some k) × (k.holds ≡ holds)))
    → flat_map (drop_lines_of cause) (lost_in m pid (indexes a n)) ≡ block_lines cause (went pid a n holds)
lost_lines cause m pid a zero holds all = refl
lost_lines cause m pid a (suc n) holds all =
    let x = all a (omega arith) (omega arith) in
    flat_map-append (drop_lines_of cause) (lost_there pid a (held_at m pid a)) (lost_in m pid (indexes (a + 1) n))
    ∙ (ap (λ (o : Option HeldThere). flat_map (drop_lines_of cause) (lost_there pid a o) ++ flat_map (drop_lines_of cause) (lost_in m pid (indexes (a + 1) n))) x.1.0
    ∙ (ap (λ (ls : List Line). ls ++ flat_map (drop_lines_of cause) (lost_in m pid (indexes (a + 1) n))) (append-nil (replicate x.0.holds (DropsBy pid (selector_of a) cause)))
    ∙ (ap (λ (k : ℕ). replicate k (DropsBy pid (selector_of a) cause) ++ flat_map (drop_lines_of cause) (lost_in m pid (indexes (a + 1) n))) x.1.1
    ∙ ap (λ (ls : List Line). replicate holds (DropsBy pid (selector_of a) cause) ++ ls) (lost_lines cause m pid (a + 1) n holds (λ j low high. all j (omega (arith, low)) (omega (arith, high)))))))

lost_holds : (cause : List ℕ) (m : Maps) (pid : ℕ) (is : List ℕ) → flat_map (hold_lines_of cause) (lost_in m pid is) ≡ []
lost_holds cause m pid [] = refl
lost_holds cause m pid (i ∷ is) =
    flat_map-append (hold_lines_of cause) (lost_there pid i (held_at m pid i)) (lost_in m pid is)
    ∙ (ap (λ (ls : List Line). ls ++ flat_map (hold_lines_of cause) (lost_in m pid is)) (one (held_at m pid i)) ∙ lost_holds cause m pid is)
  where
    one : (o : Option HeldThere) → flat_map (hold_lines_of cause) (lost_there pid i o) ≡ []
    one None = refl
    one (Some h) = refl

sized_lines : (cause : List ℕ) (s : Shelf) (size : ℕ) (o : Option HeldThere) → (flat_map (hold_lines_of cause) (sized_there s size o) ≡ []) × (flat_map (drop_lines_of cause) (sized_there s size o) ≡ [])
sized_lines cause s size None = (refl, refl)
sized_lines cause s size (Some h) = go ((entry s h.id.key).size == full_size size)
  where
    go : (b : Bool) → (flat_map (hold_lines_of cause) (cond b [] (Resizes h.id.age (full_size size) ∷ [])) ≡ []) × (flat_map (drop_lines_of cause) (cond b [] (Resizes h.id.age (full_size size) ∷ [])) ≡ [])
    go true = (refl, refl)
    go false = (refl, refl)

-- what a fault has for an error, and what holds where there is none
fault_some : (s : Shelf) (m : Maps) (pid first count n segs part : ℕ) (c : Cpu) (e : ℕ) → run_fault s m pid first count n segs part c ≡ Some e → e ≡ 0 → ⊥
fault_some s m pid first count n segs part c e is = go _ _ _ is
  where
    other : (x : ℕ) → (x ≡ 0 → ⊥) → ◌≡◌ {A = Option ℕ} (Some x) (Some e) → e ≡ 0 → ⊥
    other x some same none = let y : x ≡ e = cc in some (y ∙ none)

    go : (a b d : Bool) → cond a (Some 87) (cond b (Some 8) (cond d (Some 5) None)) ≡ Some e → e ≡ 0 → ⊥
    go true b d f = other 87 (λ z. omega (arith, z)) f
    go false true d f = other 8 eight f
    go false false true f = other 5 five f
    go false false false f = absurd (cc)

fault_none : (s : Shelf) (m : Maps) (pid first count n segs part : ℕ) (c : Cpu) → run_fault s m pid first count n segs part c ≡ None → segments_of segs part ≤ count
fault_none s m pid first count n segs part c is = ge_of count (segments_of segs part) (go (segments_of segs part == 0) (nat_lt count (segments_of segs part)) _ is)
  where
    go : (a b d : Bool) → ◌≡◌ {A = Option ℕ} (cond a (Some 87) (cond b (Some 8) (cond d (Some 5) None))) None → b ≡ false
    go true b d f = absurd (cc)
    go false true d f = absurd (cc)
    go false false d f = refl

-- DosReallocHuge.
module _ (cause : List ℕ) (p : Parts) (o : Others) (pid : ℕ) (runs : AreRuns p.maps) (full : AreFull p.shelf p.maps) (total : o.processes ≡ p.maps.processes) (kept : AreKept p.maps) (named : AreNamed p.shelf p.maps) (process : IsProcess p.maps pid)
    (n : Maps) (w : World) (before : (q i : ℕ) → world_held w.processes q i ≡ held_in p.maps q i) (still : n.processes ≡ p.maps.processes) where
  abbrev k : Known
  k = known_in p o

  abbrev m : Maps
  m = p.maps

  abbrev pub IsAfter : Ruling → Type 0
  IsAfter r = (q j : ℕ) → world_held (with_changes w r.changes).processes q j ≡ held_in n q j

  abbrev world_share : (first a c q : ℕ) → Option Held → List Block
  world_share first a c q None = []
  world_share first a c q (Some h) = if is_first first h then came q a c h.holds ∷ [] else []

  seen_share : (maps : Maps) (first a c q : ℕ) → share_block first a c q (held_at maps q first) ≡ world_share first a c q (held_in maps q first)
  unfolding held_in
  seen_share maps first a c q = go (held_at maps q first)
    where
      go : (x : Option HeldThere) → share_block first a c q x ≡ world_share first a c q (option_map (held_of maps q first) x)
      go None = refl
      go (Some h) = refl

  same_shares : (first a c : ℕ) → ((q : ℕ) → held_in n q first ≡ held_in m q first)
      → flat_map (λ (q : ℕ). share_block first a c q (held_at n q first)) (indexes 1 n.processes) ≡ flat_map (λ (q : ℕ). share_block first a c q (held_at m q first)) (indexes 1 m.processes)
  same_shares first a c same =
      ap (λ (x : ℕ). flat_map (λ (q : ℕ). share_block first a c q (held_at n q first)) (indexes 1 x)) still
      ∙ flat_same (λ (q : ℕ). share_block first a c q (held_at n q first)) (λ (q : ℕ). share_block first a c q (held_at m q first)) (indexes 1 m.processes)
      (λ q. seen_share n first a c q ∙ (ap (world_share first a c q) (same q) ∙ sym (seen_share m first a c q)))

  module _ (segs part s : ℕ) (c : Cpu) where
    abbrev sized : ℕ → List Block
    sized v = sized_blocks n pid (s / 8) (counted_under m pid s) (segments_of segs part)

    module _ (h : HeldThere) (e : under m pid s ≡ Some h) (of : is_of_run (s / 8) h ≡ true) where
      there : held_at m pid (s / 8) ≡ Some h
      there = (under_held m pid s h e).1

      abbrev number : ℕ
      number = members_from m pid (s / 8) (s / 8) (end_of (region_of pid (s / 8)) - s / 8)

      counted : counted_under m pid s ≡ record { members = number; holds = h.holds }
      counted =
          ap (counted_there m pid (s / 8)) e
          ∙ ap (λ (b : Bool). record { members = cond b (members_from m pid (s / 8) (s / 8) (end_of (region_of pid (s / 8)) - s / 8)) 1; holds = h.holds }) of

      most : number ≤ end_of (region_of pid (s / 8)) - s / 8
      most = from_most m pid (s / 8) (s / 8) (end_of (region_of pid (s / 8)) - s / 8)

      count_is : run_count (s / 8) h ≡ min h.reserved (end_of (region_of pid (s / 8)) - s / 8)
      count_is = ap (λ (x : ℕ). min h.reserved (x - s / 8)) (same_end 0 pid (s / 8))

      few_are : number ≤ run_count (s / 8) h
      few_are = subst (λ (x : ℕ). number ≤ x) (sym count_is) (let a = few m runs pid (s / 8) h there of in let b = most in omega (arith, a, b))

      asked : IsAsked p.shelf m pid s number h
      asked = record {
        kept = kept;
        named = named;
        process = process;
        held = e;
        run = of;
        few = few_are;
        front = λ j low high. member_at m runs pid (s / 8) h there of j low high;
        last = λ less. from_last m pid (s / 8) (s / 8) (end_of (region_of pid (s / 8)) - s / 8)
            (let b : number < min h.reserved (end_of (region_of pid (s / 8)) - s / 8) = subst (λ (x : ℕ). number < x) count_is less in omega (arith, b));
      }

      -- where the region ends
      ends : s / 8 + run_count (s / 8) h ≤ 8192
      ends =
          let a = region_ends pid (s / 8) in
          let b = a.0 in
          let low = counted_inside m pid (s / 8) h there in
          subst (λ (x : ℕ). s / 8 + x ≤ 8192) (sym count_is) (omega (arith, b, low))

      some : 0 < number
      some = subst (λ (d : Counted). 0 < d.members) (sym (ap (counted_there m pid (s / 8)) e) ∙ counted) (counted_some m pid (s / 8) h there)

      inside : s / 8 + number ≤ 8192
      inside = let a = few_are in let b = ends in omega (arith, a, b)

      abbrev change : List Change
      change = sized_last p.shelf m pid (s / 8) number segs part ++ changed_in p.shelf m pid (s / 8) (run_count (s / 8) h) number segs part

      abbrev comes_in : ℕ → List Change
      comes_in x =
          new_members p.shelf.made (s / 8) (run_count (s / 8) h) (flags_there p.shelf (held_at m pid (s / 8))) ((pid, holds_of (held_at m pid (s / 8))) ∷ shares_in m pid (s / 8))
          (indexes (s / 8 + number) x) (sizes_of (segs - number) part)

      abbrev goes_out : List Change
      goes_out = lost_in m pid (indexes (s / 8 + segments_of segs part) (number - segments_of segs part))

      abbrev size_change : List Change
      size_change = sized_last p.shelf m pid (s / 8) number segs part

      size_lines : (flat_map (hold_lines_of cause) size_change ≡ []) × (flat_map (drop_lines_of cause) size_change ≡ [])
      size_lines = sized_lines cause p.shelf _ _

      with_sizes : (f : Change → List Line) (cs : List Change) (ls : List Line) → flat_map f size_change ≡ [] → flat_map f cs ≡ ls → flat_map f (size_change ++ cs) ≡ ls
      with_sizes f cs ls none are = flat_map-append f size_change cs ∙ (ap (λ (xs : List Line). xs ++ flat_map f cs) none ∙ are)

      -- more members
      more_holders : ◌≡◌ {A = List (ℕ × ℕ)} ((pid, holds_of (held_at m pid (s / 8))) ∷ shares_in m pid (s / 8)) ((pid, h.holds) ∷ shares_in m pid (s / 8))
      more_holders = ap (λ (x : Option HeldThere). (pid, holds_of x) ∷ shares_in m pid (s / 8)) there

      long : number < segments_of segs part → length (sizes_of (segs - number) part) ≡ segments_of segs part - number
      long less = sizes_length (segs - number) part ∙ more_wanted number segs part less

      held_lines : number < segments_of segs part → (ps : List (ℕ × ℕ)) → ((pid, h.holds) ∷ shares_in m pid (s / 8)) ≡ ps
          → flat_map (hold_lines_of cause) (size_change ++ comes_in (segments_of segs part - number)) ≡ flat_map (shares cause ps) (indexes (s / 8 + number) (segments_of segs part - number))
      held_lines less ps are =
          with_sizes (hold_lines_of cause) (comes_in (segments_of segs part - number)) _ size_lines.0
          (subst (λ (x : ℕ). flat_map (hold_lines_of cause) (comes_in x) ≡ flat_map (shares cause ps) (indexes (s / 8 + number) x)) (long less)
          (members_hold cause p.shelf.made (s / 8) (run_count (s / 8) h) (flags_there p.shelf (held_at m pid (s / 8))) (s / 8 + number) ((pid, holds_of (held_at m pid (s / 8))) ∷ shares_in m pid (s / 8)) (sizes_of (segs - number) part)
          ∙ ap (λ (qs : List (ℕ × ℕ)). flat_map (shares cause qs) (indexes (s / 8 + number) (length (sizes_of (segs - number) part)))) (more_holders ∙ are)))

      no_drops : flat_map (drop_lines_of cause) (size_change ++ comes_in (segments_of segs part - number)) ≡ []
      no_drops =
          with_sizes (drop_lines_of cause) (comes_in (segments_of segs part - number)) [] size_lines.1
          (members_drop cause p.shelf.made (s / 8) (run_count (s / 8) h) (flags_there p.shelf (held_at m pid (s / 8))) ((pid, holds_of (held_at m pid (s / 8))) ∷ shares_in m pid (s / 8)) (indexes (s / 8 + number) (segments_of segs part - number)) (sizes_of (segs - number) part))

      grown_told : segments_of segs part ≤ run_count (s / 8) h → number < segments_of segs part
          → ((q j : ℕ) → world_held (with_changes w (size_change ++ comes_in (segments_of segs part - number))).processes q j ≡ held_in n q j)
          → (b : Bool) → nat_lt (s / 8) 4096 ≡ b
          → AreTold cause (cond b (came pid (s / 8 + number) (segments_of segs part - number) h.holds ∷ []) (flat_map (λ (q : ℕ). share_block (s / 8) (s / 8 + number) (segments_of segs part - number) q (held_at n q (s / 8))) (indexes 1 n.processes)))
          (size_change ++ comes_in (segments_of segs part - number))
      grown_told enough less after true low =
          told_came cause (size_change ++ comes_in (segments_of segs part - number)) pid (s / 8 + number) (segments_of segs part - number) h.holds
          (held_lines less ((pid, h.holds) ∷ []) (ap (λ (b : Bool). (pid, h.holds) ∷ cond b (flat_map (share_by m pid (s / 8)) (indexes 1 m.processes)) []) (not_shared (s / 8) low))
          ∙ one_holder cause pid h.holds (s / 8 + number) (segments_of segs part - number))
          no_drops (let b = ends in omega (arith, enough, less, b))
        where
          not_shared : (x : ℕ) → nat_lt x 4096 ≡ true → nat_le 4096 x ≡ false
          not_shared x e = grind arith
      grown_told enough less after false high =
          subst (λ (bs : List Block). AreTold cause bs (size_change ++ comes_in (segments_of segs part - number))) (sym (same_shares (s / 8) (s / 8 + number) (segments_of segs part - number) (λ q. first_still q)))
          (told_shares cause m pid (s / 8) (s / 8 + number) (segments_of segs part - number) h there of (let b = ends in omega (arith, enough, less, b)) process
          (size_change ++ comes_in (segments_of segs part - number))
          (held_lines less ((pid, h.holds) ∷ flat_map (share_by m pid (s / 8)) (indexes 1 m.processes))
          (ap (λ (b : Bool). (pid, h.holds) ∷ cond b (flat_map (share_by m pid (s / 8)) (indexes 1 m.processes)) []) (shared (s / 8) high)))
          no_drops)
        where
          shared : (x : ℕ) → nat_lt x 4096 ≡ false → nat_le 4096 x ≡ true
          shared x e = grind arith

          first_still : (q : ℕ) → held_in n q (s / 8) ≡ held_in m q (s / 8)
          first_still q =
              sym (after q (s / 8))
              ∙ (all_apart (s / 8) w (size_change ++ comes_in (segments_of segs part - number))
              (apart_append (s / 8) size_change (comes_in (segments_of segs part - number)) (sized_apart (s / 8) p.shelf _ _)
              (members_apart (s / 8) p.shelf.made (s / 8) (run_count (s / 8) h) (flags_there p.shelf (held_at m pid (s / 8))) ((pid, holds_of (held_at m pid (s / 8))) ∷ shares_in m pid (s / 8))
              (s / 8 + number) (segments_of segs part - number) (sizes_of (segs - number) part) (let b = some in omega (arith, b)))) q
              ∙ before q (s / 8))

      -- fewer members
      cut_told : segments_of segs part ≤ number → (b : Bool) → nat_lt (segments_of segs part) number ≡ b
          → AreTold cause (cond b (went pid (s / 8 + segments_of segs part) (number - segments_of segs part) h.holds ∷ []) []) (size_change ++ goes_out)
      cut_told less true more_there =
          told_went cause (size_change ++ goes_out) pid (s / 8 + segments_of segs part) (number - segments_of segs part) h.holds
          (with_sizes (hold_lines_of cause) goes_out [] size_lines.0 (lost_holds cause m pid (indexes (s / 8 + segments_of segs part) (number - segments_of segs part))))
          (with_sizes (drop_lines_of cause) goes_out _ size_lines.1 (lost_lines cause m pid (s / 8 + segments_of segs part) (number - segments_of segs part) h.holds often))
          (let b = inside in omega (arith, less, b))
        where
          often : (j : ℕ) → s / 8 + segments_of segs part ≤ j → j < s / 8 + segments_of segs part + (number - segments_of segs part) → (x : HeldThere) × ((held_at m pid j ≡ Some x) × (x.holds ≡ h.holds))
          often j low high =
              let first : s / 8 ≤ j = omega (arith, low) in
              let last : j < s / 8 + number = omega (arith, low, high, less) in
              let x = member_at m runs pid (s / 8) h there of j first last in
              (x.held, (x.there, as_often m runs pid (s / 8) h there of j x.held first last x.there))
      cut_told less false none_more =
          let same : number - segments_of segs part ≡ 0 = (let a = ge_of (segments_of segs part) number none_more in omega (arith, a)) in
          told_nothing cause (size_change ++ goes_out)
          (with_sizes (hold_lines_of cause) goes_out [] size_lines.0 (lost_holds cause m pid (indexes (s / 8 + segments_of segs part) (number - segments_of segs part))))
          (with_sizes (drop_lines_of cause) goes_out [] size_lines.1 (ap (λ (x : ℕ). flat_map (drop_lines_of cause) (lost_in m pid (indexes (s / 8 + segments_of segs part) x))) same))

      good_told : run_fault p.shelf m pid (s / 8) (run_count (s / 8) h) number segs part c ≡ None → IsAfter (grants 0 change) → AreTold cause (sized 0) change
      good_told fault after =
          subst (λ (d : Counted). AreTold cause (sized_blocks n pid (s / 8) d (segments_of segs part)) change) (sym counted) (go (nat_lt number (segments_of segs part)) refl after)
        where
          enough : segments_of segs part ≤ run_count (s / 8) h
          enough = fault_none p.shelf m pid (s / 8) (run_count (s / 8) h) number segs part c fault

          go : (b : Bool) → nat_lt number (segments_of segs part) ≡ b
              → ((q j : ℕ) → world_held (with_changes w (size_change ++ cond b (comes_in (segments_of segs part - number)) goes_out)).processes q j ≡ held_in n q j)
              → AreTold cause
              (cond b (grown n pid (s / 8) (s / 8 + number) (segments_of segs part - number) h.holds) (cond (nat_lt (segments_of segs part) number) (went pid (s / 8 + segments_of segs part) (number - segments_of segs part) h.holds ∷ []) []))
              (size_change ++ cond b (comes_in (segments_of segs part - number)) goes_out)
          go true is more_after = grown_told enough (lt_of number (segments_of segs part) is) more_after (nat_lt (s / 8) 4096) refl
          go false is more_after = cut_told (ge_of number (segments_of segs part) is) (nat_lt (segments_of segs part) number) refl

      abbrev full_test : Bool
      full_test = nat_lt (length p.shelf.entries) (length (live_numbers 0 p.shelf.entries) + (segments_of segs part - number))

      run_told : IsAfter (huge_reallocation k pid segs part s c) → Tells cause sized (huge_reallocation k pid segs part s c)
      run_told = by_fault (run_fault p.shelf m pid (s / 8) (run_count (s / 8) h) number segs part c) refl
        where
          by_room : run_fault p.shelf m pid (s / 8) (run_count (s / 8) h) number segs part c ≡ None → (b : Bool) → full_test ≡ b → IsAfter (huge_reallocation k pid segs part s c) → Tells cause sized (huge_reallocation k pid segs part s c)
          by_room fault true room after = subst (Tells cause sized) (sym (huge_full p o pid segs part s c number h asked runs full total fault room)) (refused cause sized 8 eight)
          by_room fault false room after =
              let good = huge_good p o pid segs part s c number h asked runs full total fault room in
              subst (Tells cause sized) (sym good) (record { told = λ none. good_told fault (subst IsAfter good after) })

          by_fault : (x : Option ℕ) → run_fault p.shelf m pid (s / 8) (run_count (s / 8) h) number segs part c ≡ x → IsAfter (huge_reallocation k pid segs part s c) → Tells cause sized (huge_reallocation k pid segs part s c)
          by_fault (Some x) fault after =
              subst (Tells cause sized) (sym (huge_fault p o pid segs part s c number h asked runs full total x fault)) (refused cause sized x (fault_some p.shelf m pid (s / 8) (run_count (s / 8) h) number segs part c x fault))
          by_fault None fault after = by_room fault full_test refl after

    pub sized_told : IsAfter (huge_reallocation k pid segs part s c) → Tells cause sized (huge_reallocation k pid segs part s c)
    sized_told after = go (under m pid s) refl
      where
        by_run : (h : HeldThere) → under m pid s ≡ Some h → (b : Bool) → is_of_run (s / 8) h ≡ b → Tells cause sized (huge_reallocation k pid segs part s c)
        by_run h e true of = run_told h e of after
        by_run h e false of = subst (Tells cause sized) (sym (huge_other p o pid segs part s c m h refl e of)) (refused cause sized 5 five)

        go : (x : Option HeldThere) → under m pid s ≡ x → Tells cause sized (huge_reallocation k pid segs part s c)
        go None e = subst (Tells cause sized) (sym (huge_none p o pid segs part s c m refl e)) (refused cause sized 5 five)
        go (Some h) e = by_run h e (is_of_run (s / 8) h) refl
