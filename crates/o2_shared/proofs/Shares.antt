-- What the rows of gifts come to over a store.
use Rattle.std.proofs.Common.{◌≡◌, ℕ, ◌/◌, ◌≤◌, ◌==◌, ◌&&◌, ◌||◌, not, nat_le, Bool, true, false, cond, List, [], ◌∷◌, ◌++◌, Option, Some, None, if◌then◌else◌, option_map, filter, is_some, ap, sym, ◌∙◌, refl, subst, arith}
use Rattle.std.specs.Prelude.{find}
use Rattle.std.specs.List.{list_any}
use Rattle.std.proofs.lemmas.Bool.{cond-true, cond-false}
use Rattle.std.proofs.lemmas.Bool.Decides.{nat_tests}
use Rattle.std.specs.Prelude.{IfSome}
use Rattle.o2_regions.specs.declared.held.Cause.{Cause}
use Rattle.o2_regions.specs.declared.held.Cause.TheVariants.{Loaded}
use Rattle.o2_stands.proofs.Reserved.{and_parts}
use Rattle.o2_base.specs.Selectors.{selector_of}
use Rattle.o2_desc.specs.Bits.{has_bit}
use Rattle.o2_isa.specs.View.{is_local}
use Rattle.o2_regions.specs.declared.answer.Answer.{Answer}
use Rattle.o2_regions.specs.declared.held.Held.{Held as HeldThere}
use Rattle.o2_regions.specs.Maps.{Maps, held_at as held_there}
use Rattle.o2_segbus.specs.Seen.{AreNamed}
use Rattle.o2_segbus.specs.Settled.{descriptor_at}
use Rattle.o2_store.specs.Shelf.{Shelf}
use Rattle.o2_changes.specs.Order.{IsGuarded}
use Rattle.o2_changes.specs.Worlds.{MatchesHold}
use Rattle.o2_world.specs.World.{Held, Process, World, ByCall}
use Rattle.o2_world.specs.Holders.{process_at}
use Rattle.o2_world.specs.Known.{Known, Marks}
use Rattle.o2_world.specs.Changes.{Change, Holds, swept, takes, with_all, with_changes}
use Rattle.o2_world.specs.Rulings.{Ruling, by_load, grants, indexes, is_later, members, refusal}
use Rattle.o2_world.specs.SharedRulings.{each_more, getting, getting_at, getting_from, giving, giving_of, holder, is_shared_with, lacks_flag, marks_by_call, one_more, shared_from}
use Rattle.o2_stands.specs.Knows.{Others, known_in, marks_under}
use Rattle.o2_stands.specs.Parts.{Parts, cause_of, goes_on, held_in, held_of, running_of}
use Rattle.o2_stands.specs.Stands.{Matches}
use Rattle.o2_segs.specs.Members.{is_later_in, members_in}
use Rattle.o2_segs.proofs.Members.{members_are}
use Rattle.o2_segs.proofs.Selecting.{marks_are, under, under_held, under_is}
use Rattle.o2_shared.specs.Shares.{AllCalled, MatchesShares, are_shareable, holder_in, is_shareable_at, may_share_all, share_of}
use Rattle.o2_shared.proofs.Holders.{find_same}

-- what holds of a machine's store and maps, of those that they are
pub at_both : (p : Parts) (s : Shelf) (m : Maps) (P : Shelf → Maps → Type 0) → p.shelf ≡ s → p.maps ≡ m → P p.shelf p.maps → P s m
at_both p s m P es em x = subst (λ (y : Shelf). P y m) es (subst (P p.shelf) em x)

-- Of all that is held under an index.

abbrev pub AllHeld : Maps → (pid : ℕ) → List ℕ → Type 0
AllHeld m pid [] = Unit {0}
AllHeld m pid (i ∷ is) = (is_some (held_there m pid i) ≡ true) × AllHeld m pid is

kept_held : (m : Maps) (pid : ℕ) (is : List ℕ) → AllHeld m pid (filter (λ (i : ℕ). is_some (held_there m pid i)) is)
kept_held m pid [] = tt
kept_held m pid (i ∷ is) = go (is_some (held_there m pid i)) refl (kept_held m pid is)
  where
    go : (b : Bool) → is_some (held_there m pid i) ≡ b → AllHeld m pid (filter (λ (j : ℕ). is_some (held_there m pid j)) is)
        → AllHeld m pid (cond b (i ∷ filter (λ (j : ℕ). is_some (held_there m pid j)) is) (filter (λ (j : ℕ). is_some (held_there m pid j)) is))
    go true e rest = (e, rest)
    go false e rest = rest

members_held : (m : Maps) (pid i : ℕ) (h : HeldThere) → held_there m pid i ≡ Some h → AllHeld m pid (members_in m pid i h)
members_held m pid i h there = go (h.reserved == 0)
  where
    go : (b : Bool) → AllHeld m pid (cond b (i ∷ []) (filter (λ (j : ℕ). is_some (held_there m pid j)) (indexes h.first h.reserved)))
    go true = (ap is_some there, tt)
    go false = kept_held m pid (indexes h.first h.reserved)

-- one that is held is shared with the flag as the machine says
one_lacks : (p : Parts) (o : Others) (flag pid i : ℕ) → AreNamed p.shelf p.maps → is_some (held_there p.maps pid i) ≡ true
    → not (nat_le shared_from i && is_shared_with flag (marks_by_call (known_in p o) ((known_in p o).held pid i))) ≡ not (is_shareable_at p.shelf flag i (held_there p.maps pid i))
unfolding held_in
one_lacks p o flag pid i named some = go (held_there p.maps pid i) refl some
  where
    marks_of : (h : HeldThere) (m : Marks) → (known_in p o).segment h.id.age ≡ Some m → (b : Bool)
        → is_shared_with flag (cond b None ((known_in p o).segment h.id.age)) ≡ (not b && (m.shared && has_bit m.flags flag))
    marks_of h m marked true = refl
    marks_of h m marked false = ap (is_shared_with flag) marked

    go : (x : Option HeldThere) → held_there p.maps pid i ≡ x → is_some x ≡ true
        → not (nat_le shared_from i && is_shared_with flag (marks_by_call (known_in p o) (option_map (held_of p.maps pid i) (held_there p.maps pid i)))) ≡ not (is_shareable_at p.shelf flag i (held_there p.maps pid i))
    go None e some = absurd (let z : false ≡ true = some in cc)
    go (Some h) e some =
        ap (λ (x : Option HeldThere). not (nat_le shared_from i && is_shared_with flag (marks_by_call (known_in p o) (option_map (held_of p.maps pid i) x)))) e
        ∙ (ap (λ (b : Bool). not (nat_le 4096 i && b)) (marks_of h (marks_under p o h.id.age h.id.key) (marks_are p o named pid i h e) (by_load (cause_of h.cause)))
        ∙ ap (λ (x : Option HeldThere). not (is_shareable_at p.shelf flag i x)) (sym e))

lacks_is : (p : Parts) (o : Others) (flag pid : ℕ) (is : List ℕ) → AreNamed p.shelf p.maps → AllHeld p.maps pid is → lacks_flag (known_in p o) flag pid is ≡ not (are_shareable p.shelf p.maps flag pid is)
lacks_is p o flag pid [] named held = refl
lacks_is p o flag pid (i ∷ is) named held =
    ap (λ (b : Bool). b || lacks_flag (known_in p o) flag pid is) (one_lacks p o flag pid i named held.0)
    ∙ (ap (λ (b : Bool). not (is_shareable_at p.shelf flag i (held_there p.maps pid i)) || b) (lacks_is p o flag pid is named held.1)
    ∙ both (is_shareable_at p.shelf flag i (held_there p.maps pid i)) (are_shareable p.shelf p.maps flag pid is))
  where
    both : (a b : Bool) → (not a || not b) ≡ not (a && b)
    both true b = refl
    both false b = refl

-- what is done with all members, where they have the flag
pub all_is : (p : Parts) (o : Others) (flag pid to i : ℕ) (h : HeldThere) (f : List Change → Ruling) → AreNamed p.shelf p.maps → held_there p.maps pid i ≡ Some h
    → (let k : Known = known_in p o in let is = members k pid i (held_of p.maps pid i h) in if is_later i (held_of p.maps pid i h) || lacks_flag k flag pid is then refusal 5 else f (each_more k pid to is))
    ≡ (if not (may_share_all p.shelf p.maps flag pid i h) then refusal 5 else f (each_more (known_in p o) pid to (members_in p.maps pid i h)))
all_is p o flag pid to i h f named there =
    ap (λ (is : List ℕ). cond (is_later_in i h || lacks_flag (known_in p o) flag pid is) (refusal 5) (f (each_more (known_in p o) pid to is))) (members_are p o pid i i h)
    ∙ (ap (λ (b : Bool). cond (is_later_in i h || b) (refusal 5) (f (each_more (known_in p o) pid to (members_in p.maps pid i h)))) (lacks_is p o flag pid (members_in p.maps pid i h) named (members_held p.maps pid i h there))
    ∙ joined (is_later_in i h) (are_shareable p.shelf p.maps flag pid (members_in p.maps pid i h)) (f (each_more (known_in p o) pid to (members_in p.maps pid i h))))
  where
    joined : (l a : Bool) (r : Ruling) → cond (l || not a) (refusal 5) r ≡ cond (not (not l && a)) (refusal 5) r
    joined true a r = refl
    joined false a r = refl

-- what may be shared has shared indexes, and calls gave it
called_each : (s : Shelf) (m : Maps) (flag pid : ℕ) (is : List ℕ) → are_shareable s m flag pid is ≡ true → AllCalled m pid is
called_each s m flag pid [] may = tt
called_each s m flag pid (i ∷ is) may =
    let x = and_parts (is_shareable_at s flag i (held_there m pid i)) (are_shareable s m flag pid is) may in
    (one (held_there m pid i) x.0, called_each s m flag pid is x.1)
  where
    high : (i : ℕ) → nat_le 4096 i ≡ true → 4096 ≤ i
    high i e = grind (arith, nat_tests)

    called : (c : Cause) → not (by_load (cause_of c)) ≡ true → c ≡ Loaded → ⊥
    called c e same = (let z : false ≡ true = sym (ap (λ (x : Cause). not (by_load (cause_of x))) same) ∙ e in cc)

    one : (o : Option HeldThere) → is_shareable_at s flag i o ≡ true → IfSome o (λ h. (4096 ≤ i) × (h.cause ≡ Loaded → ⊥))
    one None e = tt
    one (Some h) e =
        let x = and_parts (nat_le 4096 i) _ e in
        let y = and_parts (not (by_load (cause_of h.cause))) _ x.1 in
        (high i x.0, called h.cause y.0)

pub all_called : (s : Shelf) (m : Maps) (flag pid i : ℕ) (h : HeldThere) → held_there m pid i ≡ Some h → may_share_all s m flag pid i h ≡ true → AllCalled m pid (members_in m pid i h)
all_called s m flag pid i h there may = called_each s m flag pid (members_in m pid i h) (and_parts (not (is_later_in i h)) (are_shareable s m flag pid (members_in m pid i h)) may).1

-- one hold more of each member
abbrev pub shares_to : Known → (value from to : ℕ) → List ℕ → Ruling
shares_to k value from to is = grants value (each_more k from to is)

-- one hold more of a process, by a call
abbrev pub shared_to : (value to index : ℕ) → Held → Ruling
shared_to value to i h = grants value (Holds to i (record h { holds = 1; cause = ByCall }) ∷ [])

-- DosGiveSeg

pub give_none : (p : Parts) (o : Others) (m : Maps) (pid sel to : ℕ) → p.maps ≡ m → under m pid sel ≡ None → giving (known_in p o) pid sel to ≡ refusal 5
give_none p o m pid sel to em e =
    ap (giving_of (known_in p o) pid (sel / 8) to) (under_is p o pid sel ∙ ap (option_map (held_of p.maps pid (sel / 8))) (ap (λ (x : Maps). under x pid sel) em ∙ e))

give_here : (p : Parts) (o : Others) (pid sel to : ℕ) (h : HeldThere) → AreNamed p.shelf p.maps → under p.maps pid sel ≡ Some h
    → giving (known_in p o) pid sel to ≡ (if not (may_share_all p.shelf p.maps 0 pid (sel / 8) h) then refusal 5 else (if goes_on (p.running to) then shares_to (known_in p o) (selector_of (sel / 8)) pid to (members_in p.maps pid (sel / 8) h) else refusal 303))
give_here p o pid sel to h named e =
    ap (giving_of (known_in p o) pid (sel / 8) to) (under_is p o pid sel ∙ ap (option_map (held_of p.maps pid (sel / 8))) e)
    ∙ all_is p o 0 pid to (sel / 8) h (λ cs. if goes_on (p.running to) then grants (selector_of (sel / 8)) cs else refusal 303) named (under_held p.maps pid sel h e).1

pub give_is : (p : Parts) (o : Others) (s : Shelf) (m : Maps) (pid sel to i : ℕ) (h : HeldThere) → i ≡ sel / 8 → p.shelf ≡ s → p.maps ≡ m → AreNamed s m → under m pid sel ≡ Some h
    → giving (known_in p o) pid sel to ≡ (if not (may_share_all s m 0 pid i h) then refusal 5 else (if goes_on (p.running to) then shares_to (known_in p o) (selector_of i) pid to (members_in m pid i h) else refusal 303))
give_is p o s m pid sel to i h index es em named e =
    subst (λ (j : ℕ). giving (known_in p o) pid sel to ≡ (if not (may_share_all s m 0 pid j h) then refusal 5 else (if goes_on (p.running to) then shares_to (known_in p o) (selector_of j) pid to (members_in m pid j h) else refusal 303))) (sym index)
    (at_both p s m (λ x y. AreNamed x y → under y pid sel ≡ Some h
    → giving (known_in p o) pid sel to ≡ (if not (may_share_all x y 0 pid (sel / 8) h) then refusal 5 else (if goes_on (p.running to) then shares_to (known_in p o) (selector_of (sel / 8)) pid to (members_in y pid (sel / 8) h) else refusal 303))) es em
    (give_here p o pid sel to h) named e)

-- by both tests
give_refused : (r done dead : Ruling) (may lives : Bool) → r ≡ (if not may then refusal 5 else (if lives then done else dead)) → may ≡ false → r ≡ refusal 5
give_refused r done dead may lives is e = is ∙ ap (λ (b : Bool). cond (not b) (refusal 5) (cond lives done dead)) e

pub give_kept : (p : Parts) (o : Others) (s : Shelf) (m : Maps) (pid sel to i : ℕ) (h : HeldThere) → i ≡ sel / 8 → p.shelf ≡ s → p.maps ≡ m
    → AreNamed s m → under m pid sel ≡ Some h → may_share_all s m 0 pid i h ≡ false → giving (known_in p o) pid sel to ≡ refusal 5
give_kept p o s m pid sel to i h index es em named e may =
    give_refused (giving (known_in p o) pid sel to) (shares_to (known_in p o) (selector_of i) pid to (members_in m pid i h)) (refusal 303) (may_share_all s m 0 pid i h) (goes_on (p.running to)) (give_is p o s m pid sel to i h index es em named e) may

pub give_dead : (r done dead : Ruling) (may lives : Bool) → r ≡ (if not may then refusal 5 else (if lives then done else dead)) → may ≡ true → lives ≡ false → r ≡ dead
give_dead r done dead may lives is e f = is ∙ ap (λ (b : Bool). cond (not b) (refusal 5) (cond lives done dead)) e ∙ ap (λ (b : Bool). cond b done dead) f

pub give_done : (r done dead : Ruling) (may lives : Bool) → r ≡ (if not may then refusal 5 else (if lives then done else dead)) → may ≡ true → lives ≡ true → r ≡ done
give_done r done dead may lives is e f = is ∙ ap (λ (b : Bool). cond (not b) (refusal 5) (cond lives done dead)) e ∙ ap (λ (b : Bool). cond b done dead) f

-- DosGetSeg

-- the first holder is that of the maps
pub holder_is : (p : Parts) (o : Others) (m : Maps) (i : ℕ) → p.maps ≡ m → o.processes ≡ m.processes → holder (known_in p o) i ≡ holder_in m i
unfolding held_in
holder_is p o m i em count =
    find_same (λ (n : ℕ). is_some (option_map (held_of p.maps n i) (held_there p.maps n i))) (λ (n : ℕ). is_some (held_there m n i)) (indexes 1 o.processes)
    (λ n. kept (held_of p.maps n i) (held_there p.maps n i) ∙ ap (λ (x : Maps). is_some (held_there x n i)) em)
    ∙ ap (λ (c : ℕ). find (λ (n : ℕ). is_some (held_there m n i)) (indexes 1 c)) count
  where
    kept : (f : HeldThere → Held) (o : Option HeldThere) → is_some (option_map f o) ≡ is_some o
    kept f None = refl
    kept f (Some h) = refl

pub get_far : (k : Known) (pid sel : ℕ) → is_local sel ≡ false → getting k pid sel ≡ refusal 5
get_far k pid sel e = cond-false (is_local sel) (getting_at k pid (sel / 8) (holder k (sel / 8))) (refusal 5) e

get_here : (p : Parts) (o : Others) (pid from i : ℕ) (h : HeldThere) → AreNamed p.shelf p.maps → held_there p.maps from i ≡ Some h
    → getting_at (known_in p o) pid i (Some from) ≡ (if not (may_share_all p.shelf p.maps 1 from i h) then refusal 5 else shares_to (known_in p o) 0 from pid (members_in p.maps from i h))
unfolding held_in
get_here p o pid from i h named there =
    ap (λ (x : Option HeldThere). getting_from (known_in p o) pid i from (option_map (held_of p.maps from i) x)) there
    ∙ all_is p o 1 from pid i h (λ cs. grants 0 cs) named there

module _ (p : Parts) (o : Others) (s : Shelf) (m : Maps) (pid sel i : ℕ) (index : i ≡ sel / 8) (near : is_local sel ≡ true) (es : p.shelf ≡ s) (em : p.maps ≡ m) (count : o.processes ≡ m.processes) where
  get_by : (from : Option ℕ) → from ≡ holder_in m i → getting (known_in p o) pid sel ≡ getting_at (known_in p o) pid i from
  get_by from e =
      cond-true (is_local sel) (getting_at (known_in p o) pid (sel / 8) (holder (known_in p o) (sel / 8))) (refusal 5) near
      ∙ ap (λ (j : ℕ). getting_at (known_in p o) pid j (holder (known_in p o) j)) (sym index)
      ∙ ap (getting_at (known_in p o) pid i) (holder_is p o m i em count ∙ sym e)

  pub get_nobody : holder_in m i ≡ None → getting (known_in p o) pid sel ≡ refusal 5
  get_nobody e = get_by None (sym e)

  pub get_is : (from : ℕ) (h : HeldThere) → holder_in m i ≡ Some from → held_there m from i ≡ Some h → AreNamed s m
      → getting (known_in p o) pid sel ≡ (if not (may_share_all s m 1 from i h) then refusal 5 else shares_to (known_in p o) 0 from pid (members_in m from i h))
  get_is from h e there named =
      get_by (Some from) (sym e)
      ∙ at_both p s m (λ x y. AreNamed x y → held_there y from i ≡ Some h
      → getting_at (known_in p o) pid i (Some from) ≡ (if not (may_share_all x y 1 from i h) then refusal 5 else shares_to (known_in p o) 0 from pid (members_in y from i h))) es em
      (get_here p o pid from i h) named there

pub get_refused : (r done : Ruling) (may : Bool) → r ≡ (if not may then refusal 5 else done) → may ≡ false → r ≡ refusal 5
get_refused r done may is e = is ∙ ap (λ (b : Bool). cond (not b) (refusal 5) done) e

pub get_done : (r done : Ruling) (may : Bool) → r ≡ (if not may then refusal 5 else done) → may ≡ true → r ≡ done
get_done r done may is e = is ∙ ap (λ (b : Bool). cond (not b) (refusal 5) done) e

-- a value that is another number
pub value_is : (a : Answer) (v n : ℕ) → a ≡ record { error = 0; value = v } → v ≡ n → a ≡ record { error = 0; value = n }
value_is a v n e is = subst (λ (x : ℕ). a ≡ record { error = 0; value = x }) is e

-- What a hold more leaves.

-- a machine that matches a world is guarded
pub guarded_in : (p : Parts) (s : Shelf) (m : Maps) (w : World) → p.shelf ≡ s → p.maps ≡ m → Matches p w → IsGuarded s m
guarded_in p s m w es em q = at_both p s m IsGuarded es em (record { aged = q.ready.aged; guarded = q.ready.guarded })

-- a process that goes on is one of the world
pub there_by : (p : Parts) (w : World) (to : ℕ) → Matches p w → goes_on (p.running to) ≡ true → (x : Process) × (process_at w.processes to ≡ Some x)
there_by p w to q lives = go (process_at w.processes to) refl (q.processes to)
  where
    go : (o : Option Process) → process_at w.processes to ≡ o → option_map running_of o ≡ p.running to → (x : Process) × (process_at w.processes to ≡ Some x)
    go None e f = absurd (let z : false ≡ true = ap goes_on f ∙ lives in cc)
    go (Some x) e f = (x, e)

pub share_matches : (p : Parts) (s : Shelf) (m n : Maps) (from to i value : ℕ) (h : HeldThere) (r : Ruling) (w : World) (x : Process) → MatchesHold s m n to i (share_of h) (descriptor_at m from i).access → held_there m from i ≡ Some h
    → p.shelf ≡ s → p.maps ≡ m → r ≡ shared_to value to i (held_of m from i h) → process_at w.processes to ≡ Some x → Matches p w → Matches (record p { maps = n }) (with_all w r.changes)
unfolding with_changes
share_matches p s m n from to i value h r w x hold there es em is at q =
    subst (λ (y : Ruling). Matches (record p { maps = n }) (with_all w y.changes)) (sym is)
    (hold.world p w x es em at ((guarded_in p s m w es em q).guarded from i h there) q)

-- Holds take nothing.

none_taken : (k : Known) (from to : ℕ) (is : List ℕ) → list_any takes (each_more k from to is) ≡ false
none_taken k from to [] = refl
none_taken k from to (i ∷ is) = go (k.held from i) (none_taken k from to is)
  where
    go : (o : Option Held) → list_any takes (each_more k from to is) ≡ false → list_any takes (one_more to i o ++ each_more k from to is) ≡ false
    go None rest = rest
    go (Some h) rest = rest

pub shares_match : (p : Parts) (o : Others) (s : Shelf) (m n : Maps) (from to value : ℕ) (is : List ℕ) (r : Ruling) (w : World) (x : Process) → MatchesShares s m n from to is → p.shelf ≡ s → p.maps ≡ m
    → r ≡ shares_to (known_in p o) value from to is → process_at w.processes to ≡ Some x → Matches p w → Matches (record p { maps = n }) (with_all w r.changes)
shares_match p o s m n from to value is r w x shares es em e at q =
    subst (λ (y : Ruling). Matches (record p { maps = n }) (with_all w y.changes)) (sym e)
    (subst (λ (b : Bool). Matches (record p { maps = n }) (if b then swept (with_changes w (each_more (known_in p o) from to is)) else with_changes w (each_more (known_in p o) from to is))) (sym (none_taken (known_in p o) from to is))
    (shares.world p o w x es em at q))
