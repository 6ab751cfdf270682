-- A world that loses members of a run, one behind another.
use Rattle.std.proofs.Common.{◌≡◌, ◌≢◌, ℕ, suc, ◌+◌, ◌-◌, ◌==◌, ◌&&◌, ◌||◌, not, nat_lt, inl, inr, Bool, true, false, cond, eqb, List, [], ◌∷◌, ◌++◌, length, Option}
use Rattle.std.proofs.Common.{Some, None, IsSome, is_some, option_map, filter, refl, sym, ap, ◌∙◌, subst, append_assoc, arith}
use Rattle.std.specs.List.{list_any}
use Rattle.std.proofs.lemmas.Bool.{and_parts, cases_eq, cond-true, cond-false, eq-eqb, eqb-true, false≢true, ne_eqb}
use Rattle.o2_regions.specs.declared.held.Held.{Held as HeldThere}
use Rattle.o2_regions.specs.Maps.{Maps, held_at as held_there, region_of}
use Rattle.o2_place.specs.declared.seg_id.SegId.{SegId}
use Rattle.o2_store.specs.Shelf.{IsShelf, Shelf}
use Rattle.std.proofs.lemmas.List.{length-set}
use Rattle.o2_segbus.specs.Seen.{key_of}
use Rattle.o2_world.specs.Changes.{Change, Drops, fewer, is_used, holds_run, own_run_held, run_held, runs_from, swept, used, with_change, with_changes}
use Rattle.o2_world.specs.Holders.{is_held, kept, process_at}
use Rattle.o2_world.specs.Known.{held_at, reserves}
use Rattle.o2_world.specs.Map.{Map, get}
use Rattle.o2_world.specs.Rulings.{is_in_run}
use Rattle.o2_world.specs.Sound.{held_in as held_place, held_of as held_by}
use Rattle.o2_world.specs.Tied.{AreUsed}
use Rattle.o2_world.specs.World.{Held, Process, Reserve, Segment, World}
use Rattle.o2_world.proofs.HoldsSwept.{own_found, run_found_by}
use Rattle.o2_world.proofs.MapLemmas.{get-filter}
use Rattle.o2_world.proofs.TiedWorld.{with_more}
use Rattle.o2_stands.specs.Parts.{Parts, held_in, held_of}
use Rattle.o2_stands.specs.Stands.{IsNamed, Matches, MatchesIn, number_of, taken_by}
use Rattle.o2_stands.proofs.Worlds.{number_is, to_place}
use Rattle.o2_changes.specs.Frames.{KeepsOrder}
use Rattle.o2_changes.specs.Holding.{Goes, KeepsPlaces, Remains, Sweeps, TakesSome, less_by}
use Rattle.o2_changes.specs.Order.{IsInOrder}
use Rattle.o2_changes.specs.Worlds.{MatchesLoss}
use Rattle.o2_changes.proofs.Framing.{order_refl, order_trans}
use Rattle.o2_changes.proofs.Keys.{removed_none}
use Rattle.o2_changes.proofs.Taking.{held_yet}
use Rattle.o2_entries.specs.Tables.{slot_at}
use Rattle.o2_changes.proofs.Settling.{Here, Other, pair_is}
use Rattle.o2_changes.proofs.Worlds.{name_held, name_holder}
use Rattle.o2_stands.proofs.Puts.{held_put}
use Rattle.o2_huge.specs.Growth.{is_of_run, lost_in, lost_there}
use Rattle.o2_segs.specs.Sharing.{AreHeldAtMost, KeepsShares}
use Rattle.o2_segs.proofs.Sharing.{shares_refl, shares_then}
use Rattle.o2_huge.specs.Cuts.{IsCutAs, IsCutTo, MatchesCut, MayLose, Shrinks}
use Rattle.o2_huge.proofs.Growing.{still_there}

-- Lists.

filter_all : {X : Type 0} (f g : X → Bool) → ((x : X) → f x ≡ true → g x ≡ true) → (xs : List X) → filter f (filter g xs) ≡ filter f xs
filter_all f g imp [] = refl
filter_all {X} f g imp (x ∷ xs) = go (g x) (f x) refl refl (filter_all f g imp xs)
  where
    go : (b c : Bool) → g x ≡ b → f x ≡ c → filter f (filter g xs) ≡ filter f xs → filter f (cond b (x ∷ filter g xs) (filter g xs)) ≡ cond c (x ∷ filter f xs) (filter f xs)
    go true true e h rest = ap (λ (z : Bool). cond z (x ∷ filter f (filter g xs)) (filter f (filter g xs))) h ∙ ap (λ (ys : List X). x ∷ ys) rest
    go true false e h rest = ap (λ (z : Bool). cond z (x ∷ filter f (filter g xs)) (filter f (filter g xs))) h ∙ rest
    go false false e h rest = rest
    go false true e h rest = absurd (false≢true (sym e ∙ imp x h))

pub all_used : (ps : List Process) (rs : List Reserve) → AreUsed ps rs → used ps rs ≡ rs
all_used ps [] a = refl
all_used ps (r ∷ rs) a = ap (λ (b : Bool). cond b (r ∷ used ps rs) (used ps rs)) a.0 ∙ ap (λ (ys : List Reserve). r ∷ ys) (all_used ps rs a.1)

-- Who holds a run.

record RunsThere (first : ℕ) (ps : List Process) (n : ℕ) : Type 0 where
  index : ℕ
  hold : Held
  there : held_at ps n index ≡ Some hold
  runs : runs_from first (Some hold) ≡ true

found_in : (first n : ℕ) (held es : Map Held) → list_any (λ (e : ℕ × Held). runs_from first (get held e.0)) es ≡ true
    → (i : ℕ) × (h : Held) × (get held i ≡ Some h) × (runs_from first (Some h) ≡ true)
found_in first n held [] e = absurd (false≢true e)
found_in first n held (x ∷ es) e = go (get held x.0) refl e (found_in first n held es)
  where
    go : (o : Option Held) → get held x.0 ≡ o → (runs_from first o || list_any (λ (y : ℕ × Held). runs_from first (get held y.0)) es) ≡ true
        → (list_any (λ (y : ℕ × Held). runs_from first (get held y.0)) es ≡ true → (i : ℕ) × (h : Held) × (get held i ≡ Some h) × (runs_from first (Some h) ≡ true))
        → (i : ℕ) × (h : Held) × (get held i ≡ Some h) × (runs_from first (Some h) ≡ true)
    go None is e later = later e
    go (Some h) is e later = two (runs_from first (Some h)) refl e
      where
        two : (b : Bool) → runs_from first (Some h) ≡ b → (b || list_any (λ (y : ℕ × Held). runs_from first (get held y.0)) es) ≡ true
            → (i : ℕ) × (h : Held) × (get held i ≡ Some h) × (runs_from first (Some h) ≡ true)
        two true run f = (x.0, h, is, run)
        two false run f = later f

own_there : (first n : ℕ) (ps : List Process) → own_run_held (process_at ps n) first ≡ true → RunsThere first ps n
unfolding holds_run
own_there first n ps e = go (process_at ps n) refl e
  where
    go : (o : Option Process) → process_at ps n ≡ o → own_run_held o first ≡ true → RunsThere first ps n
    go None is f = absurd (false≢true f)
    go (Some p) is f =
        (let u = found_in first n p.held p.held f in
        record { index = u.0; hold = u.1; there = ap (λ (o : Option Process). held_by o u.0) is ∙ u.2; runs = u.3 })

record RunsSome (first : ℕ) (ps : List Process) : Type 0 where
  process : ℕ
  there : RunsThere first ps process

place_found : (first : ℕ) (ps : List Process) → run_held ps first ≡ true → (n : ℕ) × (i : ℕ) × (h : Held) × (held_place ps n i ≡ Some h) × (runs_from first (Some h) ≡ true)
unfolding holds_run
place_found first [] e = absurd (false≢true e)
place_found first (p ∷ ps) e = go (holds_run p.held first) refl e (place_found first ps)
  where
    go : (b : Bool) → holds_run p.held first ≡ b → (b || run_held ps first) ≡ true
        → (run_held ps first ≡ true → (n : ℕ) × (i : ℕ) × (h : Held) × (held_place ps n i ≡ Some h) × (runs_from first (Some h) ≡ true))
        → (n : ℕ) × (i : ℕ) × (h : Held) × (held_place (p ∷ ps) n i ≡ Some h) × (runs_from first (Some h) ≡ true)
    go true is f later = (let u = found_in first 0 p.held p.held is in (0, u.0, u.1, u.2, u.3))
    go false is f later = (let u = later f in (suc u.0, u.1, u.2, u.3, u.4))

some_there : (first : ℕ) (ps : List Process) → run_held ps first ≡ true → RunsSome first ps
some_there first ps e =
    let u = place_found first ps e in
    record {
      process = u.0 + 1;
      there = record { index = u.1; hold = u.2; there = ap (λ (o : Option Process). held_by o u.1) (number_is ps u.0) ∙ u.3; runs = u.4 };
    }

some_back : (first n : ℕ) (ps : List Process) → RunsThere first ps n → run_held ps first ≡ true
some_back first n ps x = run_found_by first (n - 1) x.index ps x.hold (to_place ps n x.index x.hold x.there) x.runs

own_back : (first n : ℕ) (ps : List Process) → RunsThere first ps n → own_run_held (process_at ps n) first ≡ true
own_back first n ps x = own_found first x.index (process_at ps n) x.hold x.there x.runs

-- what is held of a run, by its first index

first_is : (first : ℕ) (h : Held) → runs_from first (Some h) ≡ true → h.first ≡ first
first_is first h e = eqb-true h.first first (and_parts (eqb h.first first) (not (eqb h.reserved 0)) e).0

runs_by : (m : Maps) (pid i first : ℕ) (h : HeldThere) → is_of_run first h ≡ true → runs_from first (Some (held_of m pid i h)) ≡ true
runs_by m pid i first h e =
    let t = and_parts (not (eqb h.reserved 0)) (eqb h.first first) e in
    both (eqb h.first first) (not (eqb h.reserved 0)) t.1 t.0
  where
    both : (a b : Bool) → a ≡ true → b ≡ true → (a && b) ≡ true
    both true b e f = f
    both false b e f = absurd (false≢true e)

in_run_by : (m : Maps) (pid i first : ℕ) (h : HeldThere) → is_of_run first h ≡ true → is_in_run (held_of m pid i h) ≡ true
in_run_by m pid i first h e = (and_parts (not (eqb h.reserved 0)) (eqb h.first first) e).0

there_name : (m : Maps) (q j : ℕ) (y : HeldThere) → held_there m q j ≡ Some y → held_in m q j ≡ Some (held_of m q j y)
unfolding held_in
there_name m q j y e = ap (option_map (held_of m q j)) e

-- what is held with less holds was held

fewer_was : (count : ℕ) (o : Option Held) (k : Held) → fewer count o ≡ Some k → (h : Held) × (o ≡ Some h) × (k ≡ record h { holds = h.holds - count })
fewer_was count None k e = absurd (cc)
fewer_was count (Some h) k e = go (nat_lt count h.holds) e
  where
    go : (b : Bool) → cond b (Some (record h { holds = h.holds - count })) None ≡ Some k → (x : Held) × (Some h ≡ Some x) × (k ≡ record x { holds = x.holds - count })
    go true e = (let z : record h { holds = h.holds - count } ≡ k = cc in (h, refl, sym z))
    go false e = absurd (cc)

module _ (w : World) (pid i count : ℕ) (x : Process) (at : process_at w.processes pid ≡ Some x) where
  abbrev after : List Process
  after = (with_change w (Drops pid i count)).processes

  now : (n j : ℕ) → held_at after n j ≡ cond (eqb n pid && eqb j i) (fewer count (held_at w.processes pid i)) (held_at w.processes n j)
  now n j = held_put w.processes pid n i j (fewer count) x at

  -- what is held behind it was held before
  was : (n j : ℕ) (k : Held) → held_at after n j ≡ Some k → (h : Held) × (held_at w.processes n j ≡ Some h) × (h.name ≡ k.name) × (is_in_run h ≡ is_in_run k)
  was n j k e = elim (pair_is n j pid i) [
    | Other _ u ↦ (k, sym (now n j ∙ cond-false (eqb n pid && eqb j i) (fewer count (held_at w.processes pid i)) (held_at w.processes n j) u) ∙ e, refl, refl)
    | Here a b u ↦
        (let z = fewer_was count (held_at w.processes pid i) k (sym (now n j ∙ cond-true (eqb n pid && eqb j i) (fewer count (held_at w.processes pid i)) (held_at w.processes n j) u) ∙ e) in
        (z.0, ap (λ (y : ℕ). held_at w.processes y j) a ∙ ap (held_at w.processes pid) b ∙ z.1, sym (ap (λ (y : Held). y.name) z.2), sym (ap is_in_run z.2)))
  ]

  name_was : (q : ℕ) → is_held after q ≡ true → is_held w.processes q ≡ true
  name_was q e =
      let u = name_holder after q e in
      let z = was u.0 u.1 u.2 u.3 in
      subst (λ (y : ℕ). is_held w.processes y ≡ true) (z.2 ∙ u.4) (name_held w.processes u.0 u.1 z.0 z.1)

  module _ (first : ℕ) (h head : Held) (here : held_at w.processes pid i ≡ Some h) (runs : runs_from first (Some h) ≡ true)
      (leads : held_at w.processes pid first ≡ Some head) (heads : runs_from first (Some head) ≡ true) (other : first ≢ i) where
    runs_still : (f n : ℕ) → RunsThere f w.processes n → RunsThere f after n
    runs_still f n y = elim (pair_is n y.index pid i) [
      | Other _ u ↦ record {
        index = y.index;
        hold = y.hold;
        there = now n y.index ∙ cond-false (eqb n pid && eqb y.index i) (fewer count (held_at w.processes pid i)) (held_at w.processes n y.index) u ∙ y.there;
        runs = y.runs;
      }
      | Here a b u ↦
          (let z : Some y.hold ≡ Some h = sym y.there ∙ ap (λ (c : ℕ). held_at w.processes c y.index) a ∙ ap (held_at w.processes pid) b ∙ here in
          let same : y.hold ≡ h = cc in
          let f_is : f ≡ first = sym (first_is f y.hold y.runs) ∙ ap (λ (c : Held). c.first) same ∙ first_is first h runs in
          record {
            index = first;
            hold = head;
            there = ap (λ (c : ℕ). held_at after c first) a ∙ now pid first ∙ cond-false (eqb pid pid && eqb first i) (fewer count (held_at w.processes pid i)) (held_at w.processes pid first) (apart (eqb pid pid)) ∙ leads;
            runs = ap (λ (c : ℕ). runs_from c (Some head)) f_is ∙ heads;
          })
    ]
      where
        apart : (b : Bool) → (b && eqb first i) ≡ false
        apart true = ne_eqb first i other
        apart false = refl

    used_one : (r : Reserve) → is_used w.processes r ≡ true → is_used after r ≡ true
    used_one r = go (r.region == 0)
      where
        or_left : (a b : Bool) → a ≡ true → (a || b) ≡ true
        or_left true b e = refl
        or_left false b e = absurd (false≢true e)

        or_right : (a b : Bool) → b ≡ true → (a || b) ≡ true
        or_right true b e = refl
        or_right false b e = e

        shared : (a b : Bool) → run_held w.processes r.first ≡ b → (a || b) ≡ true → (a || run_held after r.first) ≡ true
        shared true b e f = refl
        shared false true e f = (let y = some_there r.first w.processes e in some_back r.first y.process after (runs_still r.first y.process y.there))
        shared false false e f = absurd (false≢true f)

        go : (z : Bool) → cond z (r.stays || run_held w.processes r.first) (own_run_held (process_at w.processes r.region) r.first) ≡ true
            → cond z (r.stays || run_held after r.first) (own_run_held (process_at after r.region) r.first) ≡ true
        go true e = shared r.stays (run_held w.processes r.first) refl e
        go false e = own_back r.first r.region after (runs_still r.first r.region (own_there r.first r.region w.processes e))

    used_still : (rs : List Reserve) → AreUsed w.processes rs → AreUsed after rs
    used_still [] a = tt
    used_still (r ∷ rs) a = (used_one r a.0, used_still rs a.1)

    -- what is reserved stays used
    same_used : MayLose w → used after w.reserved ≡ w.reserved
    same_used may = all_used after w.reserved (used_still w.reserved may.used)

    still_may : MayLose w → MayLose (swept (with_change w (Drops pid i count)))
    still_may may = record {
      named = λ q e. live_held q (is_held after q) (ap is_some (sym (get-filter (is_held after) w.names q)) ∙ e);
      used = subst (AreUsed after) (sym (all_used after w.reserved (used_still w.reserved may.used))) (used_still w.reserved may.used);
      covered = λ n j k e run.
          (let z = was n j k e in
          ap (λ (rs : List Reserve). list_any (reserves (number_of (region_of n j)) j) rs) (all_used after w.reserved (used_still w.reserved may.used)) ∙ may.covered n j z.0 z.1 (z.3 ∙ run));
    }
      where
        live_held : (q : ℕ) (b : Bool) → is_some (cond b (get w.names q) None) ≡ true → b ≡ true
        live_held q true e = refl
        live_held q false e = absurd (false≢true e)

-- A member goes.

module _ (s t : Shelf) (m n : Maps) (pid i first : ℕ) (h head : HeldThere) (here : held_there m pid i ≡ Some h) (runs : is_of_run first h ≡ true)
    (leads : held_there m pid first ≡ Some head) (heads : is_of_run first head ≡ true) (other : first ≢ i) (loss : MatchesLoss s t m n pid i h.holds) where
  one_world : (p : Parts) (w : World) (x : Process) → p.shelf ≡ s → p.maps ≡ m → process_at w.processes pid ≡ Some x → MayLose w → Matches p w
      → IsCutTo (record p { shelf = t; maps = n }) w (Drops pid i h.holds ∷ [])
  unfolding with_changes
  one_world p w x es em at may q =
      let held : held_at w.processes pid i ≡ Some (held_of m pid i h) = q.held pid i ∙ ap (λ (y : Maps). held_in y pid i) em ∙ there_name m pid i h here in
      let lead : held_at w.processes pid first ≡ Some (held_of m pid first head) = q.held pid first ∙ ap (λ (y : Maps). held_in y pid first) em ∙ there_name m pid first head leads in
      let run = runs_by m pid i first h runs in
      let lead_run = runs_by m pid first first head heads in
      let covered = may.covered pid i (held_of m pid i h) held (in_run_by m pid i first h runs) in
      record {
        matches = subst (λ (rs : List Reserve). MatchesIn (record p { shelf = t; maps = n }) (with_change w (Drops pid i h.holds)).processes (kept (with_change w (Drops pid i h.holds)).processes w.names) w.next_name rs)
            (sym (same_used w pid i h.holds x at first (held_of m pid i h) (held_of m pid first head) held run lead lead_run other may)) (loss.world p w x es em at (record { named = may.named; covered = covered }) q);
        used = used_still w pid i h.holds x at first (held_of m pid i h) (held_of m pid first head) held run lead lead_run other w.reserved may.used;
        reserved = refl;
        loses = still_may w pid i h.holds x at first (held_of m pid i h) (held_of m pid first head) held run lead lead_run other may;
      }

  pub cut_one : MatchesCut s t m n pid (i ∷ [])
  cut_one = record {
    world = λ p w x es em at may q.
        subst (λ (o : Option HeldThere). IsCutTo (record p { shelf = t; maps = n }) w (lost_there pid i o ++ [])) (sym here) (one_world p w x es em at may q);
  }

pub cut_none : (s : Shelf) (m : Maps) (pid : ℕ) → MatchesCut s s m m pid []
unfolding with_changes
cut_none s m pid = record {
  world = λ p w x es em at may q.
      (let kept_is : (y : ℕ) → get (kept w.processes w.names) y ≡ get w.names y = λ y. get-filter (is_held w.processes) w.names y ∙ all_kept (get w.names y) (is_held w.processes y) (may.named y) in
      let same = all_used w.processes w.reserved may.used in
      let held : Matches p (swept w) = record {
        ready = q.ready;
        segments = λ y. subst (IsNamed p (key_of p.shelf y)) (sym (kept_is y)) (q.segments y);
        made = q.made;
        processes = q.processes;
        held = q.held;
        taken = λ g j d. ap (λ (rs : List Reserve). taken_by w.processes rs (number_of g) j) same ∙ q.taken g j d;
      } in
      record {
        matches = subst (λ (y : Shelf). Matches (record p { shelf = y; maps = m }) (swept w)) es (subst (λ (y : Maps). Matches (record p { maps = y }) (swept w)) em held);
        used = may.used;
        reserved = refl;
        loses = record {
          named = λ y e. may.named y (ap is_some (sym (kept_is y)) ∙ e);
          used = subst (AreUsed w.processes) (sym same) may.used;
          covered = λ a b k e run. ap (λ (rs : List Reserve). list_any (reserves (number_of (region_of a b)) b) rs) same ∙ may.covered a b k e run;
        };
      });
}
  where
    all_kept : (o : Option Segment) (b : Bool) → (is_some o ≡ true → b ≡ true) → cond b o None ≡ o
    all_kept o true f = refl
    all_kept None false f = refl
    all_kept (Some y) false f = absurd (false≢true (f refl))

-- One member more goes behind others.

lost_more : (m : Maps) (pid : ℕ) (is js : List ℕ) → lost_in m pid (is ++ js) ≡ lost_in m pid is ++ lost_in m pid js
lost_more m pid [] js = refl
lost_more m pid (i ∷ is) js =
    ap (λ (cs : List Change). lost_there pid i (held_there m pid i) ++ cs) (lost_more m pid is js)
    ∙ sym (append_assoc (lost_there pid i (held_there m pid i)) (lost_in m pid is) (lost_in m pid js))

-- sweeping behind each of two losses is sweeping once
swept_once : (q : Parts) (w : World) (cs : List Change) (pid j count : ℕ) (x : Process) → process_at (with_changes w cs).processes pid ≡ Some x
    → AreUsed (with_changes w cs).processes w.reserved → (with_changes w cs).reserved ≡ w.reserved
    → IsCutTo q (swept (with_changes w cs)) (Drops pid j count ∷ []) → IsCutTo q w (cs ++ Drops pid j count ∷ [])
unfolding with_changes
swept_once q w cs pid j count x at used_cs same b =
    let u : World = with_changes w cs in
    let ps : List Process = (with_change u (Drops pid j count)).processes in
    let names : kept ps (kept u.processes u.names) ≡ kept ps u.names = filter_all (λ (e : ℕ × Segment). is_held ps e.0) (λ (e : ℕ × Segment). is_held u.processes e.0) (λ e f. name_was u pid j count x at e.0 f) u.names in
    let rest : used u.processes u.reserved ≡ u.reserved = ap (used u.processes) same ∙ all_used u.processes w.reserved used_cs ∙ sym same in
    let more = with_more w cs (Drops pid j count ∷ []) in
    subst (λ (v : World). IsCutAs q w v) (sym more) (record {
      matches = subst (λ (rs : List Reserve). MatchesIn q ps (kept ps u.names) u.next_name (used ps rs)) rest (subst (λ (ns : Map Segment). MatchesIn q ps ns u.next_name (used ps (used u.processes u.reserved))) names b.matches);
      used = subst (AreUsed ps) (rest ∙ same) b.used;
      reserved = same;
      loses = record {
        named = λ y e. b.loses.named y (ap (λ (ns : Map Segment). is_some (get ns y)) names ∙ e);
        used = subst (λ (rs : List Reserve). AreUsed ps (used ps rs)) rest b.loses.used;
        covered = λ a c k e run. ap (λ (rs : List Reserve). list_any (reserves (number_of (region_of a c)) c) (used ps rs)) (sym rest) ∙ b.loses.covered a c k e run;
      };
    })

pub cut_then : (s t u : Shelf) (l m n : Maps) (pid j : ℕ) (is : List ℕ) (h : HeldThere) → held_there l pid j ≡ Some h → held_there m pid j ≡ Some h
    → MatchesCut s t l m pid is → MatchesCut t u m n pid (j ∷ []) → MatchesCut s u l n pid (is ++ j ∷ [])
cut_then s t u l m n pid j is h there still a b = record {
  world = λ p w x es em at may q.
      (let v = a.world p w x es em at may q in
      let y = still_there p (record p { shelf = t; maps = m }) w (swept (with_changes w (lost_in l pid is))) pid x refl at q v.matches in
      let z = b.world (record p { shelf = t; maps = m }) (swept (with_changes w (lost_in l pid is))) y.0 refl refl y.1 v.loses v.matches in
      let one : IsCutTo (record p { shelf = u; maps = n }) (swept (with_changes w (lost_in l pid is))) (Drops pid j h.holds ∷ []) =
      subst (λ (o : Option HeldThere). IsCutTo (record p { shelf = u; maps = n }) (swept (with_changes w (lost_in l pid is))) (lost_there pid j o ++ [])) still z in
      subst (IsCutTo (record p { shelf = u; maps = n }) w) (sym (lost_more l pid is (j ∷ []) ∙ ap (λ (o : Option HeldThere). lost_in l pid is ++ (lost_there pid j o ++ [])) there))
      (swept_once (record p { shelf = u; maps = n }) w (lost_in l pid is) pid j h.holds y.0 y.1 v.used v.reserved one));
}

-- What a loss leaves of store and tables.

pub none_left : {X : Type 0} (o : Option X) (x : X) → None ≡ Some x → ⊥
none_left o x e = cc

pub same_hold : (o : Option HeldThere) (h k : HeldThere) → Some h ≡ o → o ≡ Some k → h ≡ k
same_hold o h k e f = let z : Some h ≡ Some k = e ∙ f in cc

pub lost_others : (m n : Maps) (pid i count q j : ℕ) → TakesSome m n pid i count → (q ≡ pid → j ≢ i) → held_there n q j ≡ held_there m q j
lost_others m n pid i count q j takes other = elim (pair_is q j pid i) [
  | Other _ u ↦ takes.held q j ∙ cond-false (eqb q pid && eqb j i) (less_by count (held_there m pid i)) (held_there m q j) u
  | Here a b u ↦ absurd (other a b)
]

pub lost_here : (m n : Maps) (pid i : ℕ) (h : HeldThere) → TakesSome m n pid i h.holds → held_there m pid i ≡ Some h → held_there n pid i ≡ None
lost_here m n pid i h takes there =
    let z : h.holds - h.holds ≡ 0 = omega arith in
    held_yet m n pid i h.holds h takes there ∙ cond-true (eqb (h.holds - h.holds) 0) None (Some (record h { holds = h.holds - h.holds })) (eq-eqb (h.holds - h.holds) 0 z)

-- the store's size stays where a segment goes
swept_size : (s t : Shelf) (m : Maps) (id : SegId) → IsShelf s → IsShelf t → Sweeps s t m id → (t.places.size ≡ s.places.size) × (length t.entries ≡ length s.entries) × (t.made ≡ s.made)
swept_size s t m id is later (Goes none r) = (
  later.memory ∙ ap (λ (x : Shelf). length x.memory) r.shelf ∙ sym is.memory,
  ap (λ (x : Shelf). length x.entries) r.shelf ∙ length-set s.entries id.key None,
  ap (λ (x : Shelf). x.made) r.shelf,
)
swept_size s t m id is later (Remains q j held same) = (ap (λ (x : Shelf). x.places.size) same, ap (λ (x : Shelf). length x.entries) same, ap (λ (x : Shelf). x.made) same)

-- what lives behind it lived before
alive_before : (s t : Shelf) (m : Maps) (id : SegId) → Sweeps s t m id → (k : ℕ) → IsSome (slot_at t.entries k) → IsSome (slot_at s.entries k)
alive_before s t m id (Goes none r) k some = elim (cases_eq k id.key) [
  | inl same ↦ absurd (false≢true (sym (ap is_some (ap (slot_at t.entries) same ∙ removed_none s t id.key r)) ∙ some))
  | inr other ↦ ap is_some (sym (r.entries k other)) ∙ some
]
alive_before s t m id (Remains q j held same) k some = ap (λ (x : Shelf). is_some (slot_at x.entries k)) (sym same) ∙ some

pub shrunk : (s t : Shelf) (m n : Maps) (pid i count : ℕ) (id : SegId) → IsShelf s → IsShelf t → TakesSome m n pid i count → n.reserved ≡ m.reserved → Sweeps s t n id → KeepsPlaces s t
    → ((k : ℕ) → AreHeldAtMost m k → AreHeldAtMost n k) → KeepsShares s m t n s.made → KeepsOrder s m t n → Shrinks s t m n
shrunk s t m n pid i count id is now takes reserved sweeps places few shares order =
    let z = swept_size s t n id is now sweeps in
    record {
      size = z.0;
      most = z.1;
      made = z.2;
      processes = takes.processes;
      reserved = reserved;
      alive = alive_before s t n id sweeps;
      places = places;
      few = few;
      shares = shares;
      goes_on = order;
    }

pub shrinks_none : (s : Shelf) (m : Maps) → IsInOrder s m → Shrinks s s m m
shrinks_none s m order = record {
  size = refl;
  most = refl;
  made = refl;
  processes = refl;
  reserved = refl;
  alive = λ k some. some;
  places = λ k some. refl;
  few = λ k was. was;
  shares = shares_refl s m s.made;
  goes_on = order_refl s m order;
}

pub shrinks_then : (s t u : Shelf) (l m n : Maps) → Shrinks s t l m → Shrinks t u m n → Shrinks s u l n
shrinks_then s t u l m n a b = record {
  size = b.size ∙ a.size;
  most = b.most ∙ a.most;
  made = b.made ∙ a.made;
  processes = b.processes ∙ a.processes;
  reserved = b.reserved ∙ a.reserved;
  alive = λ k some. a.alive k (b.alive k some);
  places = λ k some. b.places k some ∙ a.places k (b.alive k some);
  few = λ k was. b.few k (a.few k was);
  shares = shares_then s t u l m n s.made t.made s.made (omega arith) (let e = a.made in omega (arith, e)) a.shares b.shares;
  goes_on = order_trans s t u l m n a.goes_on b.goes_on;
}
