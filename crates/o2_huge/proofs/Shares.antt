-- New members of a run for all who hold it.
use Rattle.std.proofs.Common.{◌≡◌, ◌≢◌, ℕ, ◌+◌, ◌<◌, ◌≤◌, ◌&&◌, nat_le, nat_lt, get_or, Bool, true, false, cond, eqb, List, [], ◌∷◌, ◌++◌, Option, Some, None, option_map, refl, sym, ap, ◌∙◌, subst, append_assoc, arith}
use Rattle.std.specs.Prelude.{flat_map}
use Rattle.std.proofs.lemmas.Bool.{cond-true, cond-false, eq-eqb, ne_eqb}
use Rattle.std.proofs.lemmas.Bool.Decides.{nat_tests}
use Rattle.o2_desc.specs.Bits.{writable_data}
use Rattle.o2_place.specs.declared.seg_id.SegId.{SegId}
use Rattle.o2_regions.specs.declared.held.Held.{Held}
use Rattle.o2_regions.specs.declared.held.Region.{Region}
use Rattle.o2_regions.specs.Maps.{Maps, base_of, end_of, held_at, is_reserved, region_of}
use Rattle.o2_regions.proofs.Reserves.{is_shared}
use Rattle.o2_store.specs.Shelf.{Shelf, entry}
use Rattle.o2_changes.specs.Frames.{KeepsOrder}
use Rattle.o2_changes.specs.Holding.{Grants}
use Rattle.o2_changes.specs.Worlds.{MatchesHold}
use Rattle.o2_changes.proofs.KeepingHolds.{new_holds}
use Rattle.o2_stands.specs.Parts.{held_in, held_of}
use Rattle.o2_stands.specs.Stands.{Matches}
use Rattle.o2_world.specs.Changes.{Change, Holds, Makes, with_change, with_changes}
use Rattle.o2_world.specs.Holders.{process_at}
use Rattle.o2_world.specs.HugeRulings.{all_hold, held_in_run, new_members}
use Rattle.o2_world.specs.Known.{held_at as held_by}
use Rattle.o2_world.specs.Rulings.{indexes, made_segment}
use Rattle.o2_world.specs.Sound.{held_of as held_under}
use Rattle.o2_world.specs.World.{Held as WorldHeld, Process}
use Rattle.o2_segs.proofs.Limits.{entries_refl}
use Rattle.o2_huge.specs.Growth.{IsVacant, is_of_run, share_by, share_there, shares_in}
use Rattle.o2_huge.specs.Members.{Grows, KeepsFew, MatchesWith, member_of}
use Rattle.o2_huge.proofs.Growing.{indexes_more, matches_then}

-- Lists of shares.

pub holds_more : (name first count i : ℕ) (ps qs : List (ℕ × ℕ)) → all_hold name first count i (ps ++ qs) ≡ all_hold name first count i ps ++ all_hold name first count i qs
holds_more name first count i [] qs = refl
holds_more name first count i (p ∷ ps) qs = ap (λ (cs : List Change). Holds p.0 i (held_in_run name first count p.1) ∷ cs) (holds_more name first count i ps qs)

flat_more : (f : ℕ → List (ℕ × ℕ)) (xs ys : List ℕ) → flat_map f (xs ++ ys) ≡ flat_map f xs ++ flat_map f ys
flat_more f [] ys = refl
flat_more f (x ∷ xs) ys = ap (λ (zs : List (ℕ × ℕ)). f x ++ zs) (flat_more f xs ys) ∙ sym (append_assoc (f x) (flat_map f xs) (flat_map f ys))

append_none : (xs : List (ℕ × ℕ)) → xs ++ [] ≡ xs
append_none [] = refl
append_none (x ∷ xs) = ap (λ (ys : List (ℕ × ℕ)). x ∷ ys) (append_none xs)

-- one process more
pub share_next : (f : ℕ → List (ℕ × ℕ)) (k : ℕ) → flat_map f (indexes 1 (k + 1)) ≡ flat_map f (indexes 1 k) ++ f (k + 1)
share_next f k =
    let e : 1 + k ≡ k + 1 = omega arith in
    ap (flat_map f) (indexes_more 1 k) ∙ flat_more f (indexes 1 k) ((1 + k) ∷ []) ∙ ap (λ (zs : List (ℕ × ℕ)). flat_map f (indexes 1 k) ++ zs) (append_none (f (1 + k)) ∙ ap f e)

pub share_same : (m n : Maps) (pid first q : ℕ) → held_at n q first ≡ held_at m q first → share_by n pid first q ≡ share_by m pid first q
share_same m n pid first q e = ap (λ (o : Option Held). cond (eqb q pid) [] (share_there first q o)) e

shares_each : (m n : Maps) (pid first : ℕ) → ((q : ℕ) → held_at n q first ≡ held_at m q first) → (is : List ℕ) → flat_map (share_by n pid first) is ≡ flat_map (share_by m pid first) is
shares_each m n pid first same [] = refl
shares_each m n pid first same (q ∷ is) =
    ap (λ (xs : List (ℕ × ℕ)). xs ++ flat_map (share_by n pid first) is) (share_same m n pid first q (same q)) ∙ ap (λ (xs : List (ℕ × ℕ)). share_by m pid first q ++ xs) (shares_each m n pid first same is)

pub shares_same : (m n : Maps) (pid first : ℕ) → n.processes ≡ m.processes → ((q : ℕ) → held_at n q first ≡ held_at m q first) → shares_in n pid first ≡ shares_in m pid first
shares_same m n pid first count same =
    ap (λ (xs : List (ℕ × ℕ)). cond (nat_le 4096 first) xs []) (shares_each m n pid first same (indexes 1 n.processes) ∙ ap (λ (c : ℕ). flat_map (share_by m pid first) (indexes 1 c)) count)

-- none for the caller
pub own_share : (m : Maps) (pid first q : ℕ) → q ≡ pid → share_by m pid first q ≡ []
own_share m pid first q e = cond-true (eqb q pid) [] (share_there first q (held_at m q first)) (eq-eqb q pid e)

pub no_share : (m : Maps) (pid first q : ℕ) → held_at m q first ≡ None → share_by m pid first q ≡ []
no_share m pid first q e = ap (λ (o : Option Held). cond (eqb q pid) [] (share_there first q o)) e ∙ same (eqb q pid)
  where
    same : (b : Bool) → cond b (let x : List (ℕ × ℕ) = [] in x) [] ≡ []
    same true = refl
    same false = refl

pub other_run : (m : Maps) (pid first q : ℕ) (h : Held) → held_at m q first ≡ Some h → is_of_run first h ≡ false → share_by m pid first q ≡ []
other_run m pid first q h e run =
    ap (λ (o : Option Held). cond (eqb q pid) [] (share_there first q o)) e ∙ ap (λ (b : Bool). cond (eqb q pid) [] (cond b ((q, h.holds) ∷ []) [])) run ∙ same (eqb q pid)
  where
    same : (b : Bool) → cond b (let x : List (ℕ × ℕ) = [] in x) [] ≡ []
    same true = refl
    same false = refl

pub one_share : (m : Maps) (pid first q : ℕ) (h : Held) → q ≢ pid → held_at m q first ≡ Some h → is_of_run first h ≡ true → share_by m pid first q ≡ (q, h.holds) ∷ []
one_share m pid first q h other e run =
    cond-false (eqb q pid) [] (share_there first q (held_at m q first)) (ne_eqb q pid other) ∙ ap (share_there first q) e ∙ ap (λ (b : Bool). cond b ((q, h.holds) ∷ []) []) run

-- A process that holds something is one of the world.

some_process : (o : Option Process) (i : ℕ) (h : WorldHeld) → held_under o i ≡ Some h → (x : Process) × (o ≡ Some x)
some_process None i h e = absurd (cc)
some_process (Some x) i h e = (x, refl)

there_name : (m : Maps) (q j : ℕ) (y : Held) → held_at m q j ≡ Some y → held_in m q j ≡ Some (held_of m q j y)
unfolding held_in
there_name m q j y e = ap (option_map (held_of m q j)) e

pub share_matches : (s : Shelf) (m n : Maps) (id : SegId) (pid q i first count : ℕ) (h : Held) → held_at m q first ≡ Some h → (entry s id.key).attr.clean ≡ false
    → MatchesHold s m n q i (member_of id first count h.holds) writable_data
    → MatchesWith s s m n pid (all_hold id.age first count i ((q, h.holds) ∷ []))
unfolding with_changes
share_matches s m n id pid q i first count h there plain hold = record {
  world = λ p w x es em at r.
      (let held : held_by w.processes q first ≡ Some (held_of m q first h) = r.held q first ∙ ap (λ (y : Maps). held_in y q first) em ∙ there_name m q first h there in
      let y = some_process (process_at w.processes q) first (held_of m q first h) held in
      subst (λ (z : Shelf). Matches (record p { shelf = z; maps = n }) (with_change w (Holds q i (held_in_run id.age first count h.holds)))) es
      (hold.world p w y.0 es em y.1 (λ writable. plain) r));
}

-- a hold where there was none
pub share_grows : (s : Shelf) (m n : Maps) (q i access : ℕ) (h : Held) → Grants m n q i h access → held_at m q i ≡ None → KeepsFew m n 0 → KeepsOrder s m s n → Grows s s m n 0 0
share_grows s m n q i access h grants none few order = record {
  size = refl;
  most = refl;
  made = omega arith;
  live = omega arith;
  lived = λ id old alive. alive;
  holds = new_holds m n q i access h grants none;
  few = few;
  entries = entries_refl s;
  kept = λ k here. here;
  goes_on = order;
}

-- the caller's new member, and those of the others
pub member_all : (name first count flags : ℕ) (pid holds : ℕ) (ps : List (ℕ × ℕ)) (i z : ℕ)
    → new_members name first count flags ((pid, holds) ∷ []) (i ∷ []) (z ∷ []) ++ all_hold name first count i ps ≡ new_members name first count flags ((pid, holds) ∷ ps) (i ∷ []) (z ∷ [])
member_all name first count flags pid holds ps i z =
    ap (λ (cs : List Change). Makes (made_segment z flags) ∷ Holds pid i (held_in_run name first count holds) ∷ cs) (sym (none (all_hold name first count i ps)))
  where
    none : (xs : List Change) → xs ++ [] ≡ xs
    none [] = refl
    none (x ∷ xs) = ap (λ (ys : List Change). x ∷ ys) (none xs)

shares_high : (m : Maps) (pid first : ℕ) → 4096 ≤ first → shares_in m pid first ≡ flat_map (share_by m pid first) (indexes 1 m.processes)
shares_high m pid first high = cond-true (nat_le 4096 first) (flat_map (share_by m pid first) (indexes 1 m.processes)) [] (passes first high)
  where
    passes : (x : ℕ) → 4096 ≤ x → nat_le 4096 x ≡ true
    passes x l = grind (arith, nat_tests)

shares_low : (m : Maps) (pid first : ℕ) → first < 4096 → shares_in m pid first ≡ []
shares_low m pid first low = cond-false (nat_le 4096 first) (flat_map (share_by m pid first) (indexes 1 m.processes)) [] (fails first low)
  where
    fails : (x : ℕ) → x < 4096 → nat_le 4096 x ≡ false
    fails x l = grind (arith, nat_tests)

-- a new member of a shared run for all who hold it
pub add_all : (s t : Shelf) (l m n : Maps) (id : SegId) (pid first count flags holds i z : ℕ) → id.age ≡ s.made → 4096 ≤ first → m.processes ≡ l.processes → ((q : ℕ) → held_at m q first ≡ held_at l q first)
    → MatchesWith s t l m pid (new_members s.made first count flags ((pid, holds) ∷ []) (i ∷ []) (z ∷ []))
    → MatchesWith t t m n pid (all_hold id.age first count i (flat_map (share_by m pid first) (indexes 1 m.processes)))
    → MatchesWith s t l n pid (new_members s.made first count flags ((pid, holds) ∷ shares_in l pid first) (i ∷ []) (z ∷ []))
add_all s t l m n id pid first count flags holds i z age high processes same own others =
    let ps : List (ℕ × ℕ) = shares_in l pid first in
    let are : flat_map (share_by m pid first) (indexes 1 m.processes) ≡ ps =
    shares_each l m pid first same (indexes 1 m.processes) ∙ ap (λ (c : ℕ). flat_map (share_by l pid first) (indexes 1 c)) processes ∙ sym (shares_high l pid first high) in
    subst (MatchesWith s t l n pid) (member_all s.made first count flags pid holds ps i z)
    (matches_then s t t l m n pid (new_members s.made first count flags ((pid, holds) ∷ []) (i ∷ []) (z ∷ [])) (all_hold s.made first count i ps) own
    (subst (λ (k : ℕ). MatchesWith t t m n pid (all_hold k first count i ps)) age (subst (λ (xs : List (ℕ × ℕ)). MatchesWith t t m n pid (all_hold id.age first count i xs)) are others)))

-- and of one that is the caller's alone
pub add_own : (s t : Shelf) (l m : Maps) (pid first count flags holds i z : ℕ) → first < 4096
    → MatchesWith s t l m pid (new_members s.made first count flags ((pid, holds) ∷ []) (i ∷ []) (z ∷ []))
    → MatchesWith s t l m pid (new_members s.made first count flags ((pid, holds) ∷ shares_in l pid first) (i ∷ []) (z ∷ []))
add_own s t l m pid first count flags holds i z low own =
    subst (λ (ps : List (ℕ × ℕ)). MatchesWith s t l m pid (new_members s.made first count flags ((pid, holds) ∷ ps) (i ∷ []) (z ∷ []))) (sym (shares_low l pid first low)) own

-- Vacant indexes.

pub reserved_still : (m n : Maps) (g : Region) (i : ℕ) → n.reserved ≡ m.reserved → is_reserved m g i ≡ true → is_reserved n g i ≡ true
reserved_still m n g i same was = ap (λ (xs : List Bool). nat_lt i (end_of g) && get_or xs (base_of g + i) false) same ∙ was

pub vacant_still : (m n : Maps) (pid i : ℕ) → n.reserved ≡ m.reserved → ((q : ℕ) → held_at n q i ≡ held_at m q i) → IsVacant m pid i → IsVacant n pid i
vacant_still m n pid i same held was = record {
  reserved = reserved_still m n (region_of pid i) i same was.reserved;
  free = λ q one. held q ∙ was.free q one;
}

-- a shared index is of the same region for each process
pub reserved_for : (m : Maps) (pid q i : ℕ) → 4096 ≤ i → is_reserved m (region_of pid i) i ≡ true → is_reserved m (region_of q i) i ≡ true
reserved_for m pid q i high was = subst (λ (g : Region). is_reserved m g i ≡ true) (is_shared pid i high ∙ sym (is_shared q i high)) was
