-- What a machine stands for behind the free of a run.
use Rattle.std.proofs.Common.{◌≡◌, ◌≢◌, ◌⊎◌, inl, inr, ℕ, zero, suc, ◌+◌, ◌-◌, ◌<◌, ◌≤◌, ◌==◌, ◌&&◌, ◌||◌, nat_le, nat_lt, not, Bool, true, false, cond, List, [], ◌∷◌}
use Rattle.std.proofs.Common.{map, filter, min, Option, Some, None, IsSome, is_some, option_map, if◌then◌else◌, refl, sym, ap, ◌∙◌, subst, arith}
use Rattle.std.specs.List.{list_any}
use Rattle.std.proofs.lemmas.Bool.{cases_lt, eq-eqb, false≢true, ne_eqb}
use Rattle.o2_regions.specs.declared.held.Held.{Held as HeldThere}
use Rattle.o2_regions.specs.declared.held.Region.{Region}
use Rattle.o2_regions.specs.declared.held.Region.TheVariants.{Private, Shared}
use Rattle.o2_regions.specs.Kept.{AreKept}
use Rattle.std.specs.Prelude.{slice_index_or}
use Rattle.o2_regions.specs.Maps.{Maps, held_at, is_held as is_index_held, is_taken, place, region_of, same_region}
use Rattle.o2_regions.proofs.Reserves.{held_shared, holder_in, unheld_shared}
use Rattle.o2_segbus.proofs.Ages.{named_by_age}
use Rattle.o2_store.specs.Shelf.{Shelf}
use Rattle.o2_world.specs.Changes.{Drops, is_used, swept, takes, used, with_all, with_changes}
use Rattle.o2_world.specs.Holders.{process_at}
use Rattle.o2_world.specs.Known.{held_at as world_held, reserves}
use Rattle.o2_world.specs.Rulings.{indexes, is_in_run}
use Rattle.o2_world.specs.World.{Held, Process, Reserve, World}
use Rattle.o2_stands.specs.Parts.{Parts, held_in, held_of}
use Rattle.o2_stands.specs.Runs.{IsInStretch, IsMemberOf}
use Rattle.o2_segbus.specs.Guards.{AreGuarded}
use Rattle.o2_stands.specs.Stands.{AllStay, IsIndex, IsTidy, Matches, is_stretch, number_of, region_at, stays_or_is_held, taken_by}
use Rattle.o2_stands.proofs.Reserved.{and_parts}
use Rattle.o2_stands.proofs.RunSteps.{among_kept, member_region}
use Rattle.o2_world.proofs.FitFrees.{is_among}
use Rattle.o2_stands.proofs.RunsLost.{AllFit, all_used, begins, it_goes, none_left, others_left}
use Rattle.o2_stands.proofs.Used.{IsUsedBy}
use Rattle.o2_changes.specs.Holding.{FreesRun, less_by}
use Rattle.o2_changes.specs.Order.{IsInOrder}
use Rattle.o2_changes.proofs.HoldsStand.{held_of_same, region_same, world_taken}
use Rattle.o2_changes.proofs.Named.{named_maps}
use Rattle.o2_changes.proofs.Taken.{same_is}
use Rattle.o2_segs.specs.Members.{MatchesFree, MatchesMembers, MayLose, TakesRun, below_drops, below_in, end_in, is_below, members_in, with_names_kept}
use Rattle.o2_segs.proofs.FreeingRuns.{drops_reserved, in_run, in_world}

-- what is held was held, in the same run, and once more where it is hit
pub record IsOf (o : Option HeldThere) (hits : Bool) (k : Held) : Type 0 where
  pub old : HeldThere
  pub there : o ≡ Some old
  pub first : k.first ≡ old.first
  pub reserved : k.reserved ≡ old.reserved
  pub holds : ((hits ≡ true) × (k.holds + 1 ≡ old.holds)) ⊎ ((hits ≡ false) × (k.holds ≡ old.holds))

below_is : (f j b : ℕ) → f ≤ j → j < b → j < 8192 → (nat_le f j && nat_lt j (min b 8192)) ≡ true
below_is f j b x y z = go f j (min b 8192) x (omega (arith, y, z))
  where
    go : (f j c : ℕ) → f ≤ j → j < c → (nat_le f j && nat_lt j c) ≡ true
    go f j c x y = grind arith

-- numbers, by their tests
two_left : (n : ℕ) → 1 < n → (n - 1 == 0) ≡ false
two_left n l = grind arith

not_none : (n : ℕ) → 1 ≤ n → (n == 0) ≡ false
not_none n l = grind arith

not_low : (n : ℕ) → nat_lt n 4096 ≡ false → 4096 ≤ n
not_low n e = grind arith

-- A hold less of each index of the stretch, in a tidy world that the machine matched before it (`m`) and, but for reserved stretches, behind
-- it (`a`); and then the stretch is free where nobody holds its first index (`n`).
module _ (p : Parts) (w : World) (t : Shelf) (a n : Maps) (pid i : ℕ) (h : HeldThere) (there : held_at p.maps pid i ≡ Some h) (run : h.reserved ≢ 0) (kp : AreKept p.maps) (ka : AreKept a) (kn : AreKept n)
    (drops : TakesRun p.maps a pid h) (frees : FreesRun a n pid h.first (end_in h)) (is : n ≡ record a { reserved = n.reserved }) (order : IsInOrder t n)
    (tidy : IsTidy w.processes w.names w.reserved) (old : Matches p w) (before : Matches (record p { shelf = t; maps = a }) (with_names_kept w (below_drops p.maps pid h (end_in h)))) where
  abbrev v : World
  v = with_changes w (below_drops p.maps pid h (end_in h))

  abbrev hold : Held
  hold = held_of p.maps pid i h

  member : IsMemberOf (world_held w.processes) pid i hold
  member = record { there = in_world p p.maps w pid i h refl old there; run = in_run h run }

  reserved_same : v.reserved ≡ w.reserved
  reserved_same = drops_reserved w pid (filter (λ (j : ℕ). is_some (held_at p.maps pid j)) (indexes h.first (end_in h - h.first)))

  number_is : (x y : ℕ) → (x == y) ≡ true → x ≡ y
  number_is x y e = grind arith

  in_stretch : (j : ℕ) → is_below h (end_in h) j ≡ true → IsInStretch hold j
  in_stretch j e = (let x = and_parts (nat_le h.first j) (nat_lt j (end_in h)) e in (le h.first j x.0, lt j (h.first + h.reserved) x.1))
    where
      le : (x y : ℕ) → nat_le x y ≡ true → x ≤ y
      le x y e = grind arith

      below : (x y : ℕ) → nat_lt x y ≡ true → x < y
      below x y e = grind arith

      lt : (j b : ℕ) → nat_lt j (min b 8192) ≡ true → j < b
      lt j b e = (let l = below j (min b 8192) e in omega (arith, l))

  -- what isn't of the stretch stays
  stays : (b j : ℕ) → ((b == pid) && is_below h (end_in h) j) ≡ false → world_held v.processes b j ≡ world_held w.processes b j
  unfolding held_in
  stays b j e =
      let same : held_at a b j ≡ held_at p.maps b j = drops.held b j ∙ ap (λ (c : Bool). if c then less_by 1 (held_at p.maps b j) else held_at p.maps b j) e in
      before.held b j
      ∙ (ap (option_map (held_of a b j)) same
      ∙ (held_of_same p.maps a b j (held_at p.maps b j) (λ s. drops.rights b j (ap is_some same ∙ s)) ∙ sym (old.held b j)))

  kept_or_hit : (b j : ℕ) (k : Held) → world_held w.processes b j ≡ Some k → (world_held v.processes b j ≡ Some k) ⊎ ((b ≡ pid) × IsInStretch hold j)
  kept_or_hit b j k e = go ((b == pid) && is_below h (end_in h) j) refl
    where
      go : (c : Bool) → ((b == pid) && is_below h (end_in h) j) ≡ c → (world_held v.processes b j ≡ Some k) ⊎ ((b ≡ pid) × IsInStretch hold j)
      go false f = inl (stays b j f ∙ e)
      go true f = (let x = and_parts (b == pid) (is_below h (end_in h) j) f in inr (number_is b pid x.0, in_stretch j x.1))

  -- Where somebody of the region holds the first index, nothing goes.

  first_used : IsUsedBy v.processes (region_at pid i) h.first → used v.processes v.reserved ≡ v.reserved
  first_used u =
      ap (used v.processes) reserved_same
      ∙ (all_used w.processes v.processes w.reserved pid i hold member tidy.runs kept_or_hit tidy.stay u ∙ sym reserved_same)

  -- What is held behind it was held, in the same run, and once more where it is hit.

  was : (b j : ℕ) (k : Held) → world_held v.processes b j ≡ Some k → IsOf (held_at p.maps b j) ((b == pid) && is_below h (end_in h) j) k
  unfolding held_in
  was b j k e = go (held_at a b j) refl (sym (before.held b j) ∙ e)
    where
      less_is : (o : Option HeldThere) (y : HeldThere) → less_by 1 o ≡ Some y → IsOf o true (held_of a b j y)
      less_is None y f = absurd (let z : ◌≡◌ {A = Option HeldThere} None (Some y) = f in cc)
      less_is (Some x) y f = by (x.holds - 1 == 0) refl f
        where
          some : (n : ℕ) → (n - 1 == 0) ≡ false → 1 < n
          some n e = grind arith

          by : (c : Bool) → (x.holds - 1 == 0) ≡ c → (if c then None else Some (record x { holds = x.holds - 1 })) ≡ Some y → IsOf (Some x) true (held_of a b j y)
          by true t g = absurd (let z : ◌≡◌ {A = Option HeldThere} None (Some y) = g in cc)
          by false t g =
              let z : record x { holds = x.holds - 1 } ≡ y = cc in
              let l = some x.holds t in
              let c : y.holds ≡ x.holds - 1 = sym (ap (λ (u : HeldThere). u.holds) z) in
              record { old = x; there = refl; first = sym (ap (λ (u : HeldThere). u.first) z); reserved = sym (ap (λ (u : HeldThere). u.reserved) z); holds = inl (refl, omega (arith, l, c)) }

      by_hit : (c : Bool) → ((b == pid) && is_below h (end_in h) j) ≡ c → (y : HeldThere) → (if c then less_by 1 (held_at p.maps b j) else held_at p.maps b j) ≡ Some y → IsOf (held_at p.maps b j) c (held_of a b j y)
      by_hit true f y g = less_is (held_at p.maps b j) y g
      by_hit false f y g = record { old = y; there = g; first = refl; reserved = refl; holds = inr (refl, refl) }

      go : (o : Option HeldThere) → held_at a b j ≡ o → option_map (held_of a b j) (held_at a b j) ≡ Some k → IsOf (held_at p.maps b j) ((b == pid) && is_below h (end_in h) j) k
      go None f g = absurd (let z : ◌≡◌ {A = Option Held} None (Some k) = sym (ap (option_map (held_of a b j)) f) ∙ g in cc)
      go (Some y) f g =
          let z : Some (held_of a b j y) ≡ Some k = sym (ap (option_map (held_of a b j)) f) ∙ g in
          let u : held_of a b j y ≡ k = cc in
          subst (λ (x : Held). IsOf (held_at p.maps b j) ((b == pid) && is_below h (end_in h) j) x) u
          (by_hit ((b == pid) && is_below h (end_in h) j) refl y (sym (drops.held b j) ∙ f))

  -- a member of the maps is one of the world
  old_member : (b j : ℕ) (x : HeldThere) → held_at p.maps b j ≡ Some x → not (x.reserved == 0) ≡ true → IsMemberOf (world_held w.processes) b j (held_of p.maps b j x)
  old_member b j x e f = record { there = in_world p p.maps w b j x refl old e; run = f }

  first_inside : IsInStretch hold h.first
  first_inside = (let s = tidy.runs.stretches.inside pid i hold member in let l = s.0 in let u = s.1 in (omega arith, omega (arith, l, u)))

  -- who holds a member behind it, for whom the run's first index is the same, holds the first index
  holds_first : (b j : ℕ) (k : Held) → world_held v.processes b j ≡ Some k → is_in_run k ≡ true → k.first ≡ h.first → (b ≡ pid) ⊎ (4096 ≤ h.first) → 0 < k.holds → IsSome (held_at a b h.first)
  unfolding held_in
  holds_first b j k e runs first one some =
      let x = was b j k e in
      let run_old : not (x.old.reserved == 0) ≡ true = ap (λ (r : ℕ). not (r == 0)) (sym x.reserved) ∙ runs in
      let m0 = old_member b j x.old x.there run_old in
      let l = (tidy.runs.stretches.inside b j (held_of p.maps b j x.old) m0).0 in
      let f : x.old.first ≡ h.first = sym x.first ∙ first in
      let o = tidy.runs.fronts.front b j (held_of p.maps b j x.old) m0 h.first (omega (arith, f)) (omega (arith, f, l)) in
      at_first (held_at p.maps b h.first) refl x o.hold o.there o.often m0 f
    where
      at_first : (y : Option HeldThere) → held_at p.maps b h.first ≡ y → (x : IsOf (held_at p.maps b j) ((b == pid) && is_below h (end_in h) j) k) → (g : Held) → world_held w.processes b h.first ≡ Some g → g.holds ≡ x.old.holds
          → IsMemberOf (world_held w.processes) b j (held_of p.maps b j x.old) → x.old.first ≡ h.first → IsSome (held_at a b h.first)
      at_first None f x g there often m0 same = absurd (let z : ◌≡◌ {A = Option Held} None (Some g) = sym (old.held b h.first ∙ ap (option_map (held_of p.maps b h.first)) f) ∙ there in cc)
      at_first (Some y) f x g there often m0 same = by ((b == pid) && is_below h (end_in h) h.first) refl
        where
          holds_is : y.holds ≡ x.old.holds
          holds_is =
              let z : Some (held_of p.maps b h.first y) ≡ Some g = sym (old.held b h.first ∙ ap (option_map (held_of p.maps b h.first)) f) ∙ there in
              let u : held_of p.maps b h.first y ≡ g = cc in
              ap (λ (q : Held). q.holds) u ∙ often

          two : ((b == pid) && is_below h (end_in h) h.first) ≡ true → 1 < y.holds
          two hit = go x.holds
            where
              -- the member is hit where the first index is
              j_hit : ((b == pid) && is_below h (end_in h) j) ≡ true
              j_hit =
                  let c = and_parts (b == pid) (is_below h (end_in h) h.first) hit in
                  let d = tidy.runs.stretches.inside b j (held_of p.maps b j x.old) m0 in
                  let u = d.0 in
                  let t = d.1 in
                  let one_run = tidy.runs.stretches.apart pid i hold member b j (held_of p.maps b j x.old) m0 h.first first_inside
                  (omega (arith, same), omega (arith, same, u, t)) (inl (number_is b pid c.0)) in
                  let d = tidy.runs.stretches.inside b j (held_of p.maps b j x.old) m0 in
                  let small = (holder_in p.maps b j x.old kp x.there).1 in
                  let u = d.0 in
                  let t = d.1 in
                  let r = one_run.1 in
                  rw (c.0, below_is h.first j (h.first + h.reserved) (omega (arith, same, u)) (omega (arith, same, r, t)) small) refl

              go : ((((b == pid) && is_below h (end_in h) j) ≡ true) × (k.holds + 1 ≡ x.old.holds)) ⊎ ((((b == pid) && is_below h (end_in h) j) ≡ false) × (k.holds ≡ x.old.holds)) → 1 < y.holds
              go (inl z) = (let c = z.1 in omega (arith, holds_is, c, some))
              go (inr z) = absurd (false≢true (sym z.0 ∙ j_hit))

          by : (c : Bool) → ((b == pid) && is_below h (end_in h) h.first) ≡ c → IsSome (held_at a b h.first)
          by false g = subst (λ (o : Option HeldThere). IsSome o) (sym (drops.held b h.first ∙ (ap (λ (c : Bool). if c then less_by 1 (held_at p.maps b h.first) else held_at p.maps b h.first) g ∙ f))) refl
          by true g =
              subst (λ (o : Option HeldThere). IsSome o)
              (sym (drops.held b h.first ∙ (ap (λ (c : Bool). if c then less_by 1 (held_at p.maps b h.first) else held_at p.maps b h.first) g ∙ ap (less_by 1) f)))
              (ap (λ (c : Bool). is_some (if c then None else Some (record y { holds = y.holds - 1 }))) (two_left y.holds (two g)))

  -- The region of the run.

  first_region : region_at pid i ≡ region_at pid h.first
  first_region = member_region (world_held w.processes) tidy.runs pid i hold member pid h.first first_inside (inl refl)

  some_is : (o : Option HeldThere) → is_some o ≡ true → (y : HeldThere) × (o ≡ Some y)
  some_is None e = absurd (false≢true e)
  some_is (Some y) e = (y, refl)

  -- a process that holds the first index uses the run
  user : (b : ℕ) → (b ≡ pid) ⊎ (4096 ≤ h.first) → is_some (held_at a b h.first) ≡ true → ((region_at pid i == 0) ≡ false → b ≡ region_at pid i) → IsUsedBy v.processes (region_at pid i) h.first
  unfolding held_in
  user b one s own =
      let y = some_is (held_at a b h.first) s in
      let k : Held = held_of a b h.first y.0 in
      let there_v : world_held v.processes b h.first ≡ Some k = before.held b h.first ∙ ap (option_map (held_of a b h.first)) y.1 in
      let x = was b h.first k there_v in
      let whole = tidy.runs.stretches.whole pid i hold member b h.first (held_of p.maps b h.first x.old) (in_world p p.maps w b h.first x.old refl old x.there) first_inside one in
      let c : k.first ≡ h.first = x.first ∙ whole.0 in
      record {
        number = b;
        index = h.first;
        hold = k;
        there = there_v;
        runs = rw (c, eq-eqb h.first h.first refl) (ap (λ (r : ℕ). not (r == 0)) (x.reserved ∙ whole.1) ∙ in_run h run);
        own = own;
      }

  low_is : nat_lt h.first 4096 ≡ true → region_at pid i ≡ pid
  low_is e = first_region ∙ (rw e refl)

  -- where the first index is held in its region, all stretches stay
  used_as_held : is_index_held a (region_of pid h.first) h.first ≡ true → used v.processes v.reserved ≡ v.reserved
  used_as_held e = go (nat_lt h.first 4096) refl e
    where
      high : nat_lt h.first 4096 ≡ false → 4096 ≤ h.first
      high e = above h.first e
        where
          above : (n : ℕ) → nat_lt n 4096 ≡ false → 4096 ≤ n
          above n e = grind arith

      go : (c : Bool) → nat_lt h.first 4096 ≡ c → is_index_held a (if c then Private pid else Shared) h.first ≡ true → used v.processes v.reserved ≡ v.reserved
      go true c e = first_used (user pid (inl refl) e (λ other. sym (low_is c)))
      go false c e =
          let s = held_shared a h.first a.processes e in
          let zero : region_at pid i ≡ 0 = first_region ∙ (rw c refl) in
          first_used (user s.0 (inr (high c)) s.1 (λ other. absurd (false≢true (sym other ∙ ap (λ (g : ℕ). g == 0) zero))))

  -- where it isn't, nobody of the region holds a member
  nobody : is_index_held a (region_of pid h.first) h.first ≡ false
      → (b j : ℕ) (k : Held) → world_held v.processes b j ≡ Some k → is_in_run k ≡ true → k.first ≡ hold.first → ((region_at pid i == 0) ≡ false → b ≡ region_at pid i) → ⊥
  unfolding held_in
  nobody none b j k e runs first own = go (nat_lt h.first 4096) refl none
    where
      counted : 0 < k.holds
      counted = holds_some (held_at a b j) refl (sym (held_v b j) ∙ e)
        where
          held_v : (b j : ℕ) → world_held v.processes b j ≡ held_in a b j
          held_v b j = before.held b j

          holds_some : (o : Option HeldThere) → held_at a b j ≡ o → held_in a b j ≡ Some k → 0 < k.holds
          holds_some None f g = absurd (let z : ◌≡◌ {A = Option Held} None (Some k) = sym (ap (option_map (held_of a b j)) f) ∙ g in cc)
          holds_some (Some y) f g =
              let z : Some (held_of a b j y) ≡ Some k = sym (ap (option_map (held_of a b j)) f) ∙ g in
              let u : held_of a b j y ≡ k = cc in
              subst (λ (x : Held). 0 < x.holds) u (ka.counted b j y f)

      not_zero : nat_lt h.first 4096 ≡ true → (region_at pid i == 0) ≡ false
      not_zero c = ap (λ (g : ℕ). g == 0) (low_is c) ∙ not_none pid (kp.process pid i h there)

      go : (c : Bool) → nat_lt h.first 4096 ≡ c → is_index_held a (if c then Private pid else Shared) h.first ≡ false → ⊥
      go true c f =
          let same : b ≡ pid = own (not_zero c) ∙ low_is c in
          false≢true (sym f ∙ subst (λ (q : ℕ). is_some (held_at a q h.first) ≡ true) same (holds_first b j k e runs first (inl same) counted))
      go false c f =
          let s = holds_first b j k e runs first (inr (not_low h.first c)) counted in
          let y = some_is (held_at a b h.first) s in
          let r = holder_in a b h.first y.0 ka y.1 in
          false≢true (sym (unheld_shared a h.first a.processes b f r.0.0 r.0.1) ∙ s)

  -- The world behind it.

  held_n : (b j : ℕ) → world_held v.processes b j ≡ held_in n b j
  unfolding held_in
  held_n b j = before.held b j ∙ ap (λ (x : Maps). option_map (held_of x b j) (held_at x b j)) (sym is)

  processes_same : n.processes ≡ a.processes
  processes_same = ap (λ (x : Maps). x.processes) is

  index_a : (g : Region) (j : ℕ) → IsIndex n g j → IsIndex a g j
  index_a g j x = record { region = region_same a n g processes_same x.region; from = x.from; to = x.to }

  all_fit : (rs : List Reserve) → AllStay w.processes rs → AllFit (stays_or_is_held w.processes) rs
  all_fit [] all = tt
  all_fit (r ∷ rs) all = (all.0, all_fit rs all.1)

  taken_as : (g : Region) (j : ℕ) → IsIndex n g j → is_taken n g j
      ≡ (if not (is_index_held a (region_of pid h.first) h.first) && (same_region g (region_of pid j) && (nat_le h.first j && nat_lt j (end_in h))) then is_index_held n g j else is_taken a g j)
  taken_as g j x = (let y = index_a g j x in frees g j y.region y.from y.to)

  -- an index of the region that is outside the stretch
  outside : (g : Region) (j : ℕ) → IsIndex n g j → (same_region g (region_of pid j) && (nat_le h.first j && nat_lt j (end_in h))) ≡ false
      → ((number_of g == region_at pid i) && (nat_le h.first j && nat_lt j (h.first + h.reserved))) ≡ false
  outside g j x out = go ((number_of g == region_at pid i) && (nat_le h.first j && nat_lt j (h.first + h.reserved))) refl
    where
      low : (k : ℕ) → k < 4096 → nat_lt k 4096 ≡ true
      low k l = grind arith

      high : (k : ℕ) → 4096 ≤ k → nat_lt k 4096 ≡ false
      high k l = grind arith

      equal : (x y : ℕ) → x ≡ y → (x == y) ≡ true
      equal x y e = grind arith

      le : (x y : ℕ) → nat_le x y ≡ true → x ≤ y
      le x y e = grind arith

      lt : (x y : ℕ) → nat_lt x y ≡ true → x < y
      lt x y e = grind arith

      small : (g : Region) (j : ℕ) → IsIndex n g j → j < 8192
      small (Private q) j x = (let l = x.to in omega (arith, l))
      small Shared j x = x.to

      one : (g : Region) (j : ℕ) → IsIndex n g j → number_of g ≡ region_at pid j → same_region g (region_of pid j) ≡ true
      one (Private q) j x e = rw (low j x.to) (equal q pid (e ∙ (rw (low j x.to) refl)))
      one Shared j x e = rw (high j x.from) refl

      go : (c : Bool) → ((number_of g == region_at pid i) && (nat_le h.first j && nat_lt j (h.first + h.reserved))) ≡ c → ((number_of g == region_at pid i) && (nat_le h.first j && nat_lt j (h.first + h.reserved))) ≡ false
      go false e = e
      go true e =
          let y = and_parts (number_of g == region_at pid i) _ e in
          let z = and_parts (nat_le h.first j) (nat_lt j (h.first + h.reserved)) y.1 in
          let s : IsInStretch hold j = (le h.first j z.0, lt j (h.first + h.reserved) z.1) in
          let r : number_of g ≡ region_at pid j = number_is (number_of g) (region_at pid i) y.0 ∙ member_region (world_held w.processes) tidy.runs pid i hold member pid j s (inl refl) in
          absurd (false≢true (sym out ∙ (rw (one g j x r) (below_is h.first j (h.first + h.reserved) s.0 s.1 (small g j x)))))

  positive : 0 < h.reserved
  positive = (let e = run in omega (arith, e))

  it_there : list_any (is_stretch (region_at pid i) h.first h.reserved) w.reserved ≡ true
  it_there = tidy.run pid i hold member.there member.run

  taken_now : (g : Region) (j : ℕ) → IsIndex n g j → taken_by v.processes (used v.processes v.reserved) (number_of g) j ≡ is_taken n g j
  taken_now g j x = by (is_index_held a (region_of pid h.first) h.first) refl
    where
      was_taken : taken_by v.processes v.reserved (number_of g) j ≡ is_taken a g j
      was_taken = before.taken g j (index_a g j x)

      by : (c : Bool) → is_index_held a (region_of pid h.first) h.first ≡ c → taken_by v.processes (used v.processes v.reserved) (number_of g) j ≡ is_taken n g j
      by true e =
          ap (λ (rs : List Reserve). taken_by v.processes rs (number_of g) j) (used_as_held e)
          ∙ (was_taken ∙ sym (taken_as g j x ∙ (rw e refl)))
      by false e = hit (same_region g (region_of pid j) && (nat_le h.first j && nat_lt j (end_in h))) refl
        where
          none : (b k : ℕ) (y : Held) → world_held v.processes b k ≡ Some y → is_in_run y ≡ true → y.first ≡ hold.first → ((region_at pid i == 0) ≡ false → b ≡ region_at pid i) → ⊥
          none = nobody e

          goes : (r : Reserve) → is_stretch (region_at pid i) h.first h.reserved r ≡ true → is_used v.processes r ≡ false
          goes = it_goes w.processes v.processes w.reserved pid i hold member tidy.runs kept_or_hit none

          hit : (c : Bool) → (same_region g (region_of pid j) && (nat_le h.first j && nat_lt j (end_in h))) ≡ c → taken_by v.processes (used v.processes v.reserved) (number_of g) j ≡ is_taken n g j
          hit true f =
              let y = and_parts (same_region g (region_of pid j)) (is_below h (end_in h) j) f in
              let s = in_stretch j y.1 in
              let r : number_of g ≡ region_at pid i =
              ap number_of (same_is g (region_of pid j) y.0) ∙ sym (member_region (world_held w.processes) tidy.runs pid i hold member pid j s (inl refl)) in
              world_taken n v.processes (used v.processes v.reserved) g j kn x.region held_n
              ∙ (ap (λ (c : Bool). is_index_held n g j || c)
              (ap (λ (rs : List Reserve). list_any (reserves (number_of g) j) (used v.processes rs)) reserved_same
              ∙ (ap (λ (k : ℕ). list_any (reserves k j) (used v.processes w.reserved)) r
              ∙ none_left (region_at pid i) h.first h.reserved positive (is_used v.processes) goes w.reserved tidy.disjoint it_there j s.0 s.1))
              ∙ (or_false (is_index_held n g j) ∙ sym (taken_as g j x ∙ (rw (e, f) refl))))
            where
              or_false : (b : Bool) → (b || false) ≡ b
              or_false true = refl
              or_false false = refl
          hit false f =
              world_taken n v.processes (used v.processes v.reserved) g j kn x.region held_n
              ∙ (ap (λ (c : Bool). is_index_held n g j || c)
              (ap (λ (rs : List Reserve). list_any (reserves (number_of g) j) (used v.processes rs)) reserved_same
              ∙ (others_left (region_at pid i) h.first h.reserved positive (is_used v.processes) (stays_or_is_held w.processes)
              (begins w.processes v.processes w.reserved pid i hold member tidy.runs kept_or_hit none) w.reserved (all_fit w.reserved tidy.stay) tidy.disjoint (inl it_there) (number_of g) j (outside g j x f)
              ∙ ap (list_any (reserves (number_of g) j)) (sym reserved_same)))
              ∙ (sym (world_taken n v.processes v.reserved g j kn x.region held_n) ∙ (was_taken ∙ sym (taken_as g j x ∙ (rw (e, f) refl)))))

  pub run_swept : Matches (record p { shelf = t; maps = n }) (swept v)
  run_swept = record {
    ready = record {
      aged = before.ready.aged;
      named = named_by_age t n before.ready.aged order.held.live;
      held = order.held;
      settled = order.settled;
      guarded = subst (AreGuarded t) (sym is) before.ready.guarded;
      clean = before.ready.clean;
      pictures = before.ready.pictures;
      device = before.ready.device;
    };
    segments = λ k. named_maps (record p { shelf = t; maps = a }) n _ _ (before.segments k);
    made = before.made;
    processes = before.processes;
    held = held_n;
    taken = taken_now;
  }

-- The members of a run are those below the end of its stretch.

far_none : (m : Maps) (pid j : ℕ) → 8192 ≤ j → is_some (held_at m pid j) ≡ false
far_none m pid j l = ap (λ (b : Bool). is_some (if b then slice_index_or m.held (place pid j) None else None)) (far j l)
  where
    far : (j : ℕ) → 8192 ≤ j → nat_lt j 8192 ≡ false
    far j l = grind arith

none_far : (m : Maps) (pid a k : ℕ) → 8192 ≤ a → filter (λ (i : ℕ). is_some (held_at m pid i)) (indexes a k) ≡ []
none_far m pid a zero l = refl
none_far m pid a (suc k) l = rw (far_none m pid a l) (none_far m pid (a + 1) k (omega (arith, l)))

below_all : (m : Maps) (pid a k : ℕ) → filter (λ (i : ℕ). is_some (held_at m pid i)) (indexes a k) ≡ filter (λ (i : ℕ). is_some (held_at m pid i)) (indexes a (min (a + k) 8192 - a))
below_all m pid a zero = ap (λ (c : ℕ). filter (λ (i : ℕ). is_some (held_at m pid i)) (indexes a c)) (zeros a)
  where
    zeros : (a : ℕ) → 0 ≡ min (a + 0) 8192 - a
    zeros a = omega arith
below_all m pid a (suc k) = elim (cases_lt a 8192) [
  | inr far ↦ none_far m pid a (suc k) far ∙ sym (ap (λ (c : ℕ). filter (λ (i : ℕ). is_some (held_at m pid i)) (indexes a c)) (zeros far))
  | inl near ↦ go (below_all m pid (a + 1) k) (is_some (held_at m pid a)) ∙ sym (ap (λ (c : ℕ). filter (λ (i : ℕ). is_some (held_at m pid i)) (indexes a c)) (more near))
]
  where
    zeros : 8192 ≤ a → min (a + suc k) 8192 - a ≡ 0
    zeros far = omega (arith, far)

    more : a < 8192 → min (a + suc k) 8192 - a ≡ suc (min (a + 1 + k) 8192 - (a + 1))
    more near = omega (arith, near)

    f : ℕ → Bool
    f i = is_some (held_at m pid i)

    go : filter (λ (i : ℕ). is_some (held_at m pid i)) (indexes (a + 1) k) ≡ filter (λ (i : ℕ). is_some (held_at m pid i)) (indexes (a + 1) (min (a + 1 + k) 8192 - (a + 1))) → (b : Bool)
        → cond b (a ∷ filter (λ (i : ℕ). is_some (held_at m pid i)) (indexes (a + 1) k)) (filter (λ (i : ℕ). is_some (held_at m pid i)) (indexes (a + 1) k))
        ≡ cond b (a ∷ filter (λ (i : ℕ). is_some (held_at m pid i)) (indexes (a + 1) (min (a + 1 + k) 8192 - (a + 1)))) (filter (λ (i : ℕ). is_some (held_at m pid i)) (indexes (a + 1) (min (a + 1 + k) 8192 - (a + 1))))
    go rest b = ap (λ (is : List ℕ). cond b (a ∷ is) is) rest

members_below : (m : Maps) (pid i : ℕ) (h : HeldThere) → h.reserved ≢ 0 → members_in m pid i h ≡ below_in m pid h (end_in h)
members_below m pid i h run = rw (ne_eqb h.reserved 0 run) (below_all m pid h.first h.reserved)

-- one at least goes
some_goes : (pid : ℕ) (is : List ℕ) (i : ℕ) → is_among is i ≡ true → list_any takes (map (λ (j : ℕ). Drops pid j 1) is) ≡ true
some_goes pid [] i e = absurd (false≢true e)
some_goes pid (j ∷ is) i e = refl

pub run_freed : (s t : Shelf) (m a n : Maps) (pid i : ℕ) (h : HeldThere) → held_at m pid i ≡ Some h → h.reserved ≢ 0 → AreKept m → AreKept a → AreKept n → MatchesMembers s t m a pid h → TakesRun m a pid h
    → FreesRun a n pid h.first (end_in h) → n ≡ record a { reserved = n.reserved } → IsInOrder t n → MatchesFree s t m n pid i h
run_freed s t m a n pid i h there run km ka kn members drops frees is order = record {
  world = λ p w x es em at loses q.
      subst (λ (y : Maps). Matches (record p { shelf = t; maps = n }) (with_all w (map (λ (j : ℕ). Drops pid j 1) (members_in y pid i h)))) em
      (over p w x es em at loses q);
}
  where
    over : (p : Parts) (w : World) (x : Process) → p.shelf ≡ s → p.maps ≡ m → process_at w.processes pid ≡ Some x → MayLose w pid i → Matches p w
        → Matches (record p { shelf = t; maps = n }) (with_all w (map (λ (j : ℕ). Drops pid j 1) (members_in p.maps pid i h)))
    over p w x es em at loses q =
        let here : held_at p.maps pid i ≡ Some h = ap (λ (y : Maps). held_at y pid i) em ∙ there in
        let tidy = loses.run (held_of p.maps pid i h) (in_world p p.maps w pid i h refl q here) (in_run h run) in
        let before = subst (λ (y : Maps). Matches (record p { shelf = t; maps = a }) (with_names_kept w (below_drops y pid h (end_in h)))) (sym em) (members.world p w x i es em at there run tidy q) in
        let done = run_swept p w t a n pid i h here run (subst AreKept (sym em) km) ka kn (subst (λ (y : Maps). TakesRun y a pid h) (sym em) drops) frees is order tidy q before in
        subst (λ (js : List ℕ). Matches (record p { shelf = t; maps = n }) (with_all w (map (λ (j : ℕ). Drops pid j 1) js))) (sym (members_below p.maps pid i h run))
        (subst (λ (b : Bool). Matches (record p { shelf = t; maps = n }) (if b then swept (with_changes w (below_drops p.maps pid h (end_in h))) else with_changes w (below_drops p.maps pid h (end_in h))))
        (sym (some_goes pid (below_in p.maps pid h (end_in h)) i (among p w q here tidy))) done)
      where
        among : (p : Parts) (w : World) → Matches p w → held_at p.maps pid i ≡ Some h → IsTidy w.processes w.names w.reserved → is_among (below_in p.maps pid h (end_in h)) i ≡ true
        among p w q here tidy =
            let member : IsMemberOf (world_held w.processes) pid i (held_of p.maps pid i h) = record { there = in_world p p.maps w pid i h refl q here; run = in_run h run } in
            let s = tidy.runs.stretches.inside pid i (held_of p.maps pid i h) member in
            ap (λ (js : List ℕ). is_among js i) (sym (below_all p.maps pid h.first h.reserved))
            ∙ (among_kept (λ (j : ℕ). is_some (held_at p.maps pid j)) h.first h.reserved i
            ∙ (rw (ap is_some here, below_test h.first i (h.first + h.reserved) s.0 s.1) refl))
          where
            below_test : (a j b : ℕ) → a ≤ j → j < b → (nat_le a j && nat_lt j b) ≡ true
            below_test a j b x y = grind arith
