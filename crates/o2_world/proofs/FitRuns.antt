-- New members of a run of indexes are fit, and leave all that lives held.
use Rattle.std.proofs.Common.{◌≡◌, ◌≢◌, inl, ℕ, ◌+◌, ◌-◌, ◌<◌, ◌≤◌, ◌==◌, Bool, true, false, List, [], ◌∷◌, Option, Some, None, if◌then◌else◌, ap, sym, ◌∙◌, refl, arith, subst}
use Rattle.std.specs.Prelude.{is_some, slice_get, option_map}
use Rattle.o2_world.specs.Map.{Map, get, put}
use Rattle.o2_world.specs.World.{World, Process, Segment, Held, is_live}
use Rattle.o2_world.specs.Holders.{process_at}
use Rattle.o2_world.specs.Changes.{Change, Holds, Makes, at_place, more, with_change, with_changes}
use Rattle.o2_world.specs.Rulings.{made_segment}
use Rattle.o2_world.specs.Sound.{held_in, held_of}
use Rattle.o2_world.specs.HugeRulings.{all_hold, held_in_run, new_members}
use Rattle.o2_world.specs.Tied.{AreFitChanges, IsSwept}
use Rattle.o2_world.specs.Moves.{AreApart, Each, IsAtLeast}
use Rattle.o2_world.proofs.FitRows.{made_size}
use Rattle.o2_world.proofs.FitShares.{least_of}
use Rattle.o2_world.proofs.HoldsSwept.{holds_swept, kept_swept, new_held, still}
use Rattle.o2_world.proofs.MapLemmas.{if_no, if_yes}
use Rattle.o2_world.proofs.Numbers.{at_place_of, number_some, process_is}
use Rattle.o2_world.proofs.Reached.{get-place, get-put, held_at_place, held_then}
use Rattle.o2_world.proofs.TiedWorld.{fit_more, with_more}

same_number : (n m : ℕ) → (n == m) ≡ true → n ≡ m
same_number n m e = grind arith

same : (n : ℕ) → (n == n) ≡ true
same n = grind arith

pub other_number : (n m : ℕ) → n ≢ m → (n == m) ≡ false
other_number n m other = go (n == m) refl
  where
    go : (b : Bool) → (n == m) ≡ b → (n == m) ≡ false
    go true e = absurd (other (same_number n m e))
    go false e = e

-- Each of these processes lives, and is to hold something at least once.

pub record RunsOn (qs : List Process) (p : ℕ × ℕ) : Type 0 where
  pub process : Process
  pub there : process_at qs p.0 ≡ Some process
  pub live : is_live process.state ≡ true
  pub some : 0 < p.1

abbrev pub AllRunOn : List Process → List (ℕ × ℕ) → Type 0
AllRunOn qs [] = Unit {0}
AllRunOn qs (p ∷ ps) = RunsOn qs p × AllRunOn qs ps

abbrev pub GoesOn : World → ℕ × ℕ → Type 0
GoesOn u p = RunsOn u.processes p

abbrev pub AllGoOn : World → List (ℕ × ℕ) → Type 0
AllGoOn u ps = AllRunOn u.processes ps

-- One hold more.
module _ (v : World) (p i : ℕ) (h : Held) where
  abbrev after : World
  after = with_change v (Holds p i h)

  abbrev f : Process → Process
  f x = record x { held = put i (more h (get x.held i)) x.held }

  abbrev g : Map Held → Map Held
  g m = put i (more h (get m i)) m

  goes_on : (q : ℕ × ℕ) → GoesOn v q → GoesOn after q
  goes_on q on = go (p == 0)
    where
      here : slice_get v.processes (q.0 - 1) ≡ Some on.process
      here = at_place_of v.processes q.0 on.process on.there

      pick : (b : Bool) → (if b then option_map f (slice_get v.processes (q.0 - 1)) else slice_get v.processes (q.0 - 1)) ≡ Some (if b then f on.process else on.process)
      pick true = ap (option_map f) here
      pick false = here

      lives : (b : Bool) → is_live (if b then f on.process else on.process).state ≡ true
      lives true = on.live
      lives false = on.live

      go : (b : Bool) → RunsOn (if b then v.processes else at_place (p - 1) f v.processes) q
      go true = on
      go false = record {
        process = if q.0 - 1 == p - 1 then f on.process else on.process;
        there = process_is (at_place (p - 1) f v.processes) q.0 (number_some v.processes q.0 on.process on.there) ∙ get-place (p - 1) (q.0 - 1) f v.processes ∙ pick (q.0 - 1 == p - 1);
        live = lives (q.0 - 1 == p - 1);
        some = on.some;
      }

  all_on : (qs : List (ℕ × ℕ)) → AllGoOn v qs → AllGoOn after qs
  all_on [] on = tt
  all_on (q ∷ qs) on = (goes_on q on.0, all_on qs on.1)

  -- other indexes stay as they are
  other_index : (place j : ℕ) → i ≢ j → held_in after.processes place j ≡ held_in v.processes place j
  other_index place j other = go (p == 0)
    where
      at : (o : Option Process) → held_then g o j ≡ held_of o j
      at None = refl
      at (Some x) = get-put i j (more h (get x.held i)) x.held ∙ if_no (i == j) _ _ (other_number i j other)

      pick : (b : Bool) → (if b then held_then g (slice_get v.processes place) j else held_in v.processes place j) ≡ held_in v.processes place j
      pick true = at (slice_get v.processes place)
      pick false = refl

      go : (b : Bool) → held_in (if b then v.processes else at_place (p - 1) f v.processes) place j ≡ held_in v.processes place j
      go true = refl
      go false = held_at_place v.processes (p - 1) place j g ∙ pick (place == p - 1)

  -- what is held at the index has its name, where all that was held there had
  name_behind : ((place : ℕ) (k : Held) → held_in v.processes place i ≡ Some k → k.name ≡ h.name) → (place : ℕ) (k : Held) → held_in after.processes place i ≡ Some k → k.name ≡ h.name
  name_behind was place k e = go (p == 0) e
    where
      more_named : (o : Option Held) → ((x : Held) → o ≡ Some x → x.name ≡ h.name) → more h o ≡ Some k → k.name ≡ h.name
      more_named None named e = let z : k ≡ h = cc in ap (λ (y : Held). y.name) z
      more_named (Some x) named e = let z : k ≡ record x { holds = x.holds + h.holds } = cc in ap (λ (y : Held). y.name) z ∙ named x refl

      at : (o : Option Process) → slice_get v.processes place ≡ o → held_then g o i ≡ Some k → k.name ≡ h.name
      at None there e = absurd (cc)
      at (Some x) there e =
          more_named (get x.held i) (λ y f. was place y (ap (λ (z : Option Process). held_of z i) there ∙ f))
          (sym (get-put i i (more h (get x.held i)) x.held ∙ if_yes (i == i) _ _ (same i)) ∙ e)

      pick : (b : Bool) → (if b then held_then g (slice_get v.processes place) i else held_in v.processes place i) ≡ Some k → k.name ≡ h.name
      pick true e = at (slice_get v.processes place) refl e
      pick false e = was place k e

      go : (b : Bool) → held_in (if b then v.processes else at_place (p - 1) f v.processes) place i ≡ Some k → k.name ≡ h.name
      go true e = was place k e
      go false e = pick (place == p - 1) (sym (held_at_place v.processes (p - 1) place i g) ∙ e)

-- All holders of one member.
module _ (name first count i : ℕ) where
  abbrev holds : List (ℕ × ℕ) → List Change
  holds ps = all_hold name first count i ps

  holds_fit : (v : World) (new : Segment) (ps : List (ℕ × ℕ)) → get v.names name ≡ Some new → new.clean ≡ false
      → (4096 ≤ i → (place : ℕ) (k : Held) → held_in v.processes place i ≡ Some k → k.name ≡ name) → AllGoOn v ps → AreFitChanges v (holds ps)
  holds_fit v new [] named dirty ours on = tt
  holds_fit v new (p ∷ ps) named dirty ours on = (
    record {
      lives = ap is_some named;
      some = on.0.some;
      clean = λ s there clean. absurd (not_clean s (sym named ∙ there) clean);
      goes_on = λ x there. let z : x ≡ on.0.process = same_process x there in ap (λ (y : Process). is_live y.state) z ∙ on.0.live;
      one = λ place k big there. inl (sym (ours big place k there));
    },
    holds_fit (with_change v (Holds p.0 i (held_in_run name first count p.1))) new ps named dirty
        (λ big place k there. name_behind v p.0 i (held_in_run name first count p.1) (ours big) place k there)
        (all_on v p.0 i (held_in_run name first count p.1) ps on.1),
  )
    where
      not_clean : (s : Segment) → Some new ≡ Some s → s.clean ≡ true → ⊥
      not_clean s g c = let z : s ≡ new = cc in let y : false ≡ true = sym dirty ∙ sym (ap (λ (t : Segment). t.clean) z) ∙ c in cc

      same_process : (x : Process) → process_at v.processes p.0 ≡ Some x → x ≡ on.0.process
      same_process x there = let z : Some on.0.process ≡ Some x = sym on.0.there ∙ there in cc

  holds_on : (v : World) (ps qs : List (ℕ × ℕ)) → AllGoOn v qs → AllGoOn (with_changes v (holds ps)) qs
  unfolding with_changes
  holds_on v [] qs on = on
  holds_on v (p ∷ ps) qs on =
      holds_on (with_change v (Holds p.0 i (held_in_run name first count p.1))) ps qs (all_on v p.0 i (held_in_run name first count p.1) qs on)

  holds_other : (v : World) (ps : List (ℕ × ℕ)) (place j : ℕ) → i ≢ j → held_in (with_changes v (holds ps)).processes place j ≡ held_in v.processes place j
  unfolding with_changes
  holds_other v [] place j other = refl
  holds_other v (p ∷ ps) place j other =
      holds_other (with_change v (Holds p.0 i (held_in_run name first count p.1))) ps place j other
      ∙ other_index v p.0 i (held_in_run name first count p.1) place j other

  holds_next : (v : World) (ps : List (ℕ × ℕ)) → (with_changes v (holds ps)).next_name ≡ v.next_name
  unfolding with_changes
  holds_next v [] = refl
  holds_next v (p ∷ ps) = holds_next (with_change v (Holds p.0 i (held_in_run name first count p.1))) ps

  holds_kept : (v : World) (ps : List (ℕ × ℕ)) → AllGoOn v ps → IsSwept v → IsSwept (with_changes v (holds ps))
  unfolding with_changes
  holds_kept v [] on swept = swept
  holds_kept v (p ∷ ps) on swept =
      holds_kept (with_change v (Holds p.0 i (held_in_run name first count p.1))) ps (all_on v p.0 i (held_in_run name first count p.1) ps on.1)
      (kept_swept v p.0 i on.0.process (held_in_run name first count p.1) on.0.there swept)

  holds_still : (v : World) (ps : List (ℕ × ℕ)) (place j : ℕ) (k : Held) → AllGoOn v ps → held_in v.processes place j ≡ Some k
      → (y : Held) × (held_in (with_changes v (holds ps)).processes place j ≡ Some y) × IsAtLeast k y
  unfolding with_changes
  holds_still v [] place j k on there = (k, there, record { name = refl; rights = refl; cause = refl; first = refl; reserved = refl; holds = omega arith })
  holds_still v (p ∷ ps) place j k on there =
      let y = still v p.0 i on.0.process (held_in_run name first count p.1) on.0.there place j k there in
      let z = holds_still (with_change v (Holds p.0 i (held_in_run name first count p.1))) ps place j y.0 (all_on v p.0 i (held_in_run name first count p.1) ps on.1) y.1 in
      (z.0, z.1, least_of k y.0 z.0 y.2 z.2)

-- nobody holds what is to be a member, where others could hold it too
abbrev pub IsVacant : World → ℕ → Type 0
IsVacant u i = 4096 ≤ i → (place : ℕ) (k : Held) → held_in u.processes place i ≡ Some k → ⊥

-- a process doesn't hold it
abbrev pub IsLeft : ℕ → World → ℕ → Type 0
IsLeft n u i = held_in u.processes (n - 1) i ≡ None

-- New members.
module _ (first count flags : ℕ) (ps : List (ℕ × ℕ)) where
  abbrev members : (name : ℕ) → (is zs : List ℕ) → List Change
  members name is zs = new_members name first count flags ps is zs

  vacant_behind : (u v : World) (i : ℕ) (is : List ℕ) → ((place j : ℕ) → i ≢ j → held_in v.processes place j ≡ held_in u.processes place j)
      → Each (λ (j : ℕ). i ≢ j) is → Each (IsVacant u) is → Each (IsVacant v) is
  vacant_behind u v i [] others apart vacant = tt
  vacant_behind u v i (j ∷ js) others apart vacant =
      ((λ big place k there. vacant.0 big place k (sym (others place j apart.0) ∙ there)), vacant_behind u v i js others apart.1 vacant.1)

  pub members_fit : (u : World) (name : ℕ) (is zs : List ℕ) → u.next_name ≡ name → AreApart is → Each (IsVacant u) is → AllGoOn u ps → AreFitChanges u (members name is zs)
  members_fit u name [] zs next apart vacant on = tt
  members_fit u name (i ∷ is) [] next apart vacant on = tt
  members_fit u name (i ∷ is) (z ∷ zs) next apart vacant on =
      let made : World = with_change u (Makes (made_segment z flags)) in
      let v : World = with_changes made (all_hold name first count i ps) in (
        made_size z flags,
        fit_more made (all_hold name first count i ps) (members (name + 1) is zs)
            (holds_fit name first count i made (made_segment z flags) ps (if_yes (u.next_name == name) _ _ (ap (λ (n : ℕ). n == name) next ∙ same name)) refl
            (λ big place k there. absurd (vacant.0 big place k there)) on)
            (members_fit v (name + 1) is zs (holds_next name first count i made ps ∙ ap (λ (n : ℕ). n + 1) next) apart.1
            (vacant_behind u v i is (λ place j other. holds_other name first count i made ps place j other) apart.0 vacant.1) (holds_on name first count i made ps ps on)),
      )

-- Behind new members of a run that its caller holds, all that lives is held.
module _ (first count flags n holds : ℕ) (others : List (ℕ × ℕ)) where
  abbrev ps : List (ℕ × ℕ)
  ps = (n, holds) ∷ others

  left_behind : (u v : World) (i : ℕ) (is : List ℕ) → ((place j : ℕ) → i ≢ j → held_in v.processes place j ≡ held_in u.processes place j)
      → Each (λ (j : ℕ). i ≢ j) is → Each (IsLeft n u) is → Each (IsLeft n v) is
  left_behind u v i [] others apart left = tt
  left_behind u v i (j ∷ js) others apart left = (others (n - 1) j apart.0 ∙ left.0, left_behind u v i js others apart.1 left.1)

  member_swept : (u : World) (name i z : ℕ) → u.next_name ≡ name → IsLeft n u i → AllGoOn u ps → IsSwept u
      → IsSwept (with_changes (with_change u (Makes (made_segment z flags))) (all_hold name first count i ps))
  unfolding with_changes
  member_swept u name i z next left on swept =
      let made : World = with_change u (Makes (made_segment z flags)) in
      let hold : Held = held_in_run name first count holds in
      holds_kept name first count i (with_change made (Holds n i hold)) others (all_on made n i hold others on.1)
      (holds_swept made n i on.0.process hold on.0.there (sym (ap (λ (o : Option Process). held_of o i) (at_place_of u.processes n on.0.process on.0.there)) ∙ left)
      (λ q lives other. swept.named q (sym (ap is_some (if_no (u.next_name == q) (Some (made_segment z flags)) (get u.names q) (not_new q other))) ∙ lives)) swept.used)
    where
      not_new : (q : ℕ) → (q ≡ name → ⊥) → (u.next_name == q) ≡ false
      not_new q other = ap (λ (m : ℕ). m == q) next ∙ other_number name q (λ e. other (sym e))

  pub members_swept : (u : World) (name : ℕ) (is zs : List ℕ) → u.next_name ≡ name → AreApart is → Each (IsLeft n u) is → AllGoOn u ps → IsSwept u
      → IsSwept (with_changes u (new_members name first count flags ps is zs))
  unfolding with_changes
  members_swept u name [] zs next apart left on swept = swept
  members_swept u name (i ∷ is) [] next apart left on swept = swept
  members_swept u name (i ∷ is) (z ∷ zs) next apart left on swept =
      let made : World = with_change u (Makes (made_segment z flags)) in
      let v : World = with_changes made (all_hold name first count i ps) in
      subst IsSwept (sym (with_more made (all_hold name first count i ps) (new_members (name + 1) first count flags ps is zs)))
      (members_swept v (name + 1) is zs (holds_next name first count i made ps ∙ ap (λ (m : ℕ). m + 1) next) apart.1
      (left_behind u v i is (λ place j other. holds_other name first count i made ps place j other) apart.0 left.1) (holds_on name first count i made ps ps on)
      (member_swept u name i z next left.0 on swept))

  -- what is held goes on to be held behind them
  pub members_still : (u : World) (name : ℕ) (is zs : List ℕ) (place j : ℕ) (k : Held) → AllGoOn u ps → held_in u.processes place j ≡ Some k
      → (y : Held) × (held_in (with_changes u (new_members name first count flags ps is zs)).processes place j ≡ Some y) × IsAtLeast k y
  unfolding with_changes
  members_still u name [] zs place j k on there = (k, there, record { name = refl; rights = refl; cause = refl; first = refl; reserved = refl; holds = omega arith })
  members_still u name (i ∷ is) [] place j k on there = (k, there, record { name = refl; rights = refl; cause = refl; first = refl; reserved = refl; holds = omega arith })
  members_still u name (i ∷ is) (z ∷ zs) place j k on there =
      let made : World = with_change u (Makes (made_segment z flags)) in
      let v : World = with_changes made (all_hold name first count i ps) in
      let y = holds_still name first count i made ps place j k on there in
      let x = members_still v (name + 1) is zs place j y.0 (holds_on name first count i made ps ps on) y.1 in (
        x.0,
        ap (λ (w : World). held_in w.processes place j) (with_more made (all_hold name first count i ps) (new_members (name + 1) first count flags ps is zs)) ∙ x.1,
        least_of k y.0 x.0 y.2 x.2,
      )

  -- the first of them is held as a member of the run
  pub first_held : (u : World) (name i z : ℕ) (is zs : List ℕ) → IsLeft n u i → AllGoOn u ps
      → (y : Held) × (held_in (with_changes u (new_members name first count flags ps (i ∷ is) (z ∷ zs))).processes (n - 1) i ≡ Some y) × (y.first ≡ first) × (y.reserved ≡ count)
  unfolding with_changes
  first_held u name i z is zs left on =
      let made : World = with_change u (Makes (made_segment z flags)) in
      let hold : Held = held_in_run name first count holds in
      let one : World = with_change made (Holds n i hold) in
      let v : World = with_changes made (all_hold name first count i ps) in
      let there = new_held made n i on.0.process hold on.0.there (sym (ap (λ (o : Option Process). held_of o i) (at_place_of u.processes n on.0.process on.0.there)) ∙ left) in
      let y = holds_still name first count i one others (n - 1) i hold (all_on made n i hold others on.1) there in
      let x = members_still v (name + 1) is zs (n - 1) i y.0 (holds_on name first count i made ps ps on) y.1 in (
        x.0,
        ap (λ (w : World). held_in w.processes (n - 1) i) (with_more made (all_hold name first count i ps) (new_members (name + 1) first count flags ps is zs)) ∙ x.1,
        x.2.first ∙ y.2.first,
        x.2.reserved ∙ y.2.reserved,
      )
