-- New members of a run, one behind another.
use Rattle.std.proofs.Common.{◌≡◌, ◌≢◌, ℕ, zero, suc, ◌+◌, ◌<◌, ◌≤◌, ◌&&◌, ◌||◌, List, [], ◌∷◌, ◌++◌, length, replicate, set, Option, Some, None, IsSome, Bool, false, eqb, option_map, refl, sym, ap, ◌∙◌, subst, arith, append_assoc}
use Rattle.std.proofs.lemmas.Bool.{cond-false}
use Rattle.std.proofs.lemmas.List.{length-set}
use Rattle.o2_desc.specs.Bits.{has_bit, writable_data}
use Rattle.o2_entries.specs.declared.Entry.{Entry}
use Rattle.o2_entries.specs.Tables.{live_numbers, slot_at}
use Rattle.o2_place.specs.declared.seg_id.SegId.{SegId}
use Rattle.o2_regions.specs.declared.held.Held.{Held}
use Rattle.o2_regions.specs.Maps.{Maps, held_at, more_of}
use Rattle.o2_store.specs.Shelf.{Shelf, Adds, entry_of}
use Rattle.o2_changes.specs.Frames.{KeepsOrder}
use Rattle.o2_changes.specs.Holding.{Grants}
use Rattle.o2_changes.specs.Order.{IsInOrder}
use Rattle.o2_changes.specs.Worlds.{MatchesHold, MatchesMake, new_segment}
use Rattle.o2_changes.proofs.Framing.{order_refl, order_trans}
use Rattle.o2_changes.proofs.KeepingHolds.{holds_refl, holds_trans, new_holds}
use Rattle.o2_changes.proofs.MakesStand.{new_plain}
use Rattle.o2_changes.proofs.Settling.{Here, Other, pair_is}
use Rattle.o2_stands.specs.Parts.{Parts, Running, running_of}
use Rattle.o2_stands.specs.Stands.{Matches}
use Rattle.o2_world.specs.Changes.{Change, Holds, Makes, with_change, with_changes}
use Rattle.o2_world.specs.Holders.{process_at}
use Rattle.o2_world.specs.HugeRulings.{all_hold, held_in_run, new_members}
use Rattle.o2_world.specs.Rulings.{full_size, indexes, made_segment}
use Rattle.o2_world.specs.World.{Process, Segment, World}
use Rattle.o2_world.proofs.TiedWorld.{with_more}
use Rattle.o2_segs.specs.Limits.{KeepsEntries}
use Rattle.o2_segs.proofs.Limits.{entries_added, entries_refl}
use Rattle.o2_segs.proofs.Sharing.{added_lived}
use Rattle.o2_segs.proofs.Making.{added_place, made_plain_by, new_name}
use Rattle.o2_huge.specs.Members.{Grows, KeepsFew, MatchesWith, MayMake, member_of}

-- The list of changes.

pub members_more : (name first count flags : ℕ) (ps : List (ℕ × ℕ)) (is js zs ys : List ℕ) → length zs ≡ length is
    → new_members name first count flags ps (is ++ js) (zs ++ ys) ≡ new_members name first count flags ps is zs ++ new_members (name + length is) first count flags ps js ys
members_more name first count flags ps [] js [] ys e = let z : name ≡ name + 0 = omega arith in ap (λ (n : ℕ). new_members n first count flags ps js ys) z
members_more name first count flags ps [] js (z ∷ zs) ys e = absurd (cc)
members_more name first count flags ps (i ∷ is) js [] ys e = absurd (cc)
members_more name first count flags ps (i ∷ is) js (z ∷ zs) ys e =
    let one : List Change = all_hold name first count i ps in
    let rest : List Change = new_members (name + 1) first count flags ps is zs in
    let next : name + 1 + length is ≡ name + suc (length is) = omega arith in
    ap (λ (cs : List Change). Makes (made_segment z flags) ∷ (one ++ cs))
    (members_more (name + 1) first count flags ps is js zs ys (omega (arith, e)) ∙ ap (λ (n : ℕ). rest ++ new_members n first count flags ps js ys) next)
    ∙ ap (λ (cs : List Change). Makes (made_segment z flags) ∷ cs) (sym (append_assoc one rest (new_members (name + suc (length is)) first count flags ps js ys)))

pub indexes_more : (first n : ℕ) → indexes first (n + 1) ≡ indexes first n ++ (first + n) ∷ []
indexes_more first zero = let e : first + 0 ≡ first = omega arith in rw e refl
indexes_more first (suc n) =
    let a : suc n + 1 ≡ suc (n + 1) = omega arith in
    let b : first + suc n ≡ first + 1 + n = omega arith in
    rw (a, b) (ap (λ (is : List ℕ). first ∷ is) (indexes_more (first + 1) n))

pub indexes_long : (first n : ℕ) → length (indexes first n) ≡ n
indexes_long first zero = refl
indexes_long first (suc n) = ap suc (indexes_long (first + 1) n)

pub full_long : (n : ℕ) → length (replicate {A = ℕ} n 0) ≡ n
full_long zero = refl
full_long (suc n) = ap suc (full_long n)

pub full_more : (n : ℕ) → replicate {A = ℕ} (n + 1) 0 ≡ replicate n 0 ++ 0 ∷ []
full_more zero = refl
full_more (suc n) = let a : suc n + 1 ≡ suc (n + 1) = omega arith in rw a (ap (λ (zs : List ℕ). 0 ∷ zs) (full_more n))

-- one more behind so many full ones, from an index of the run on
pub members_then : (name first count flags a : ℕ) (ps : List (ℕ × ℕ)) (n z : ℕ)
    → new_members name first count flags ps (indexes a n) (replicate n 0) ++ new_members (name + n) first count flags ps ((a + n) ∷ []) (z ∷ [])
    ≡ new_members name first count flags ps (indexes a (n + 1)) (replicate n 0 ++ z ∷ [])
members_then name first count flags a ps n z =
    let long = indexes_long a n in
    let full = full_long n in
    sym (ap (λ (is : List ℕ). new_members name first count flags ps is (replicate n 0 ++ z ∷ [])) (indexes_more a n)
    ∙ members_more name first count flags ps (indexes a n) ((a + n) ∷ []) (replicate n 0) (z ∷ []) (full ∙ sym long)
    ∙ ap (λ (k : ℕ). new_members name first count flags ps (indexes a n) (replicate n 0) ++ new_members (name + k) first count flags ps ((a + n) ∷ []) (z ∷ [])) long)

-- What store and tables match.

some_running : (o : Option Process) (r : Running) → option_map running_of o ≡ Some r → (y : Process) × (o ≡ Some y)
some_running None r e = absurd (cc)
some_running (Some y) r e = (y, refl)

pub still_there : (p q : Parts) (v w : World) (pid : ℕ) (x : Process) → q.running ≡ p.running → process_at v.processes pid ≡ Some x → Matches p v → Matches q w → (y : Process) × (process_at w.processes pid ≡ Some y)
still_there p q v w pid x same at a b =
    some_running (process_at w.processes pid) (running_of x)
    (b.processes pid ∙ ap (λ (f : ℕ → Option Running). f pid) same ∙ sym (a.processes pid) ∙ ap (option_map running_of) at)

pub matches_none : (s : Shelf) (m : Maps) (pid : ℕ) → MatchesWith s s m m pid []
unfolding with_changes
matches_none s m pid = record {
  world = λ p w x es em at q. subst (λ (y : Shelf). Matches (record p { shelf = y; maps = m }) w) es (subst (λ (y : Maps). Matches (record p { maps = y }) w) em q);
}

pub matches_then : (s t u : Shelf) (l m n : Maps) (pid : ℕ) (cs ds : List Change) → MatchesWith s t l m pid cs → MatchesWith t u m n pid ds → MatchesWith s u l n pid (cs ++ ds)
matches_then s t u l m n pid cs ds a b = record {
  world = λ p w x es em at q.
      (let r = a.world p w x es em at q in
      let y = still_there p (record p { shelf = t; maps = m }) w (with_changes w cs) pid x refl at q r in
      subst (λ (v : World). Matches (record p { shelf = u; maps = n }) v) (sym (with_more w cs ds)) (b.world (record p { shelf = t; maps = m }) (with_changes w cs) y.0 refl refl y.1 r));
}

pub member_matches : (s t : Shelf) (m n : Maps) (id : SegId) (e : Entry) (pid i size full flags first count holds : ℕ) (b : Bool)
    → Adds s t id e → full ≡ full_size size → b ≡ (has_bit flags 0 || has_bit flags 1) → has_bit flags 2 ≡ false → IsSome (entry_of t id)
    → MatchesMake s t m (new_segment full flags b) → MatchesHold t m n pid i (member_of id first count holds) writable_data
    → MatchesWith s t m n pid (new_members s.made first count flags ((pid, holds) ∷ []) (i ∷ []) (size ∷ []))
unfolding with_changes
member_matches s t m n id e pid i size full flags first count holds b adds ef eb plain live make hold = record {
  world = λ p w x es em at q.
      (let z : World = with_change w (Makes (made_segment size flags)) in
      let made : Matches (record p { shelf = t; maps = m }) z =
      subst (λ (y : Maps). Matches (record p { shelf = t; maps = y }) z) em
      (subst (λ (g : Segment). Matches (record p { shelf = t }) (with_change w (Makes g))) (made_plain_by size flags full b ef eb plain) (make.world p w es em q)) in
      let age : id.age ≡ w.next_name = (new_name p w s t id e es adds q.made).1 in
      subst (λ (k : ℕ). Matches (record p { shelf = t; maps = n }) (with_change z (Holds pid i (held_in_run k first count holds)))) adds.age
      (hold.world (record p { shelf = t; maps = m }) z x refl refl at (λ writable. new_plain (record p { shelf = t; maps = m }) w (made_segment size flags) id made live age refl) made));
}

-- How store and tables grow.

pub none_first : (n : ℕ) → 0 + n ≡ n
none_first n = omega arith

one_more : (n : ℕ) → suc n ≡ n + 1
one_more n = omega arith

suc_more : (n : ℕ) → suc (n + 1) ≡ suc n + 1
suc_more n = omega arith

pub listed_more : (first : ℕ) (es : List (Option Entry)) (n : ℕ) (e : Entry) → n < length es → slot_at es n ≡ None → length (live_numbers first (set es n (Some e))) ≡ length (live_numbers first es) + 1
listed_more first [] n e l h = absurd (omega (arith, l))
listed_more first (None ∷ es) zero e l h = one_more (length (live_numbers (first + 1) es))
listed_more first (Some f ∷ es) zero e l h = absurd (cc)
listed_more first (None ∷ es) (suc n) e l h = listed_more (first + 1) es n e (omega (arith, l)) h
listed_more first (Some f ∷ es) (suc n) e l h = ap suc (listed_more (first + 1) es n e (omega (arith, l)) h) ∙ suc_more (length (live_numbers (first + 1) es))

pub grows_none : (s : Shelf) (m : Maps) (times : ℕ) → IsInOrder s m → Grows s s m m 0 times
grows_none s m times order = record {
  size = refl;
  most = refl;
  made = omega arith;
  live = omega arith;
  lived = λ id old alive. alive;
  holds = holds_refl m;
  few = λ k most few. few;
  entries = entries_refl s;
  kept = λ k here. here;
  goes_on = order_refl s m order;
}

pub entries_then : (s t u : Shelf) → KeepsEntries s t → KeepsEntries t u → KeepsEntries s u
entries_then s t u a b = record {
  each = λ k some.
      (let x = a.each k some in
      let y = b.each k x.0 in
      (y.0, y.1 ∙ x.1, y.2 ∙ x.2));
}

pub grows_then : (s t u : Shelf) (l m n : Maps) (a b times : ℕ) → Grows s t l m a times → Grows t u m n b times → Grows s u l n (a + b) times
grows_then s t u l m n a b times x y = record {
  size = y.size ∙ x.size;
  most = y.most ∙ x.most;
  made = (let p = x.made in let q = y.made in omega (arith, p, q));
  live = (let p = x.live in let q = y.live in omega (arith, p, q));
  lived = λ id old alive. (let p = x.made in x.lived id old (y.lived id (omega (arith, p, old)) alive));
  holds = holds_trans l m n x.holds y.holds;
  few = λ k most few. y.few k most (x.few k most few);
  entries = entries_then s t u x.entries y.entries;
  kept = λ k here. y.kept k (x.kept k here);
  goes_on = order_trans s t u l m n x.goes_on y.goes_on;
}

-- what is held no oftener than nothing is held no oftener than so often
pub grows_few : (s t : Shelf) (m n : Maps) (count times : ℕ) → Grows s t m n count 0 → Grows s t m n count times
grows_few s t m n count times x = record {
  size = x.size;
  most = x.most;
  made = x.made;
  live = x.live;
  lived = x.lived;
  holds = x.holds;
  few = λ k most few. x.few k (omega arith) few;
  entries = x.entries;
  kept = x.kept;
  goes_on = x.goes_on;
}

-- where so many may be made, fewer may be
pub make_fewer : (s : Shelf) (m : Maps) (pid count k : ℕ) → MayMake s m pid count → k ≤ count → MayMake s m pid k
make_fewer s m pid count k may few = record {
  process = may.process;
  order = may.order;
  made = (let a = may.made in omega (arith, a, few));
  room = (let a = may.room in omega (arith, a, few));
}

-- where so many may be made, and some were, the next one may be
pub make_next : (s t : Shelf) (m n : Maps) (pid count k times : ℕ) → MayMake s m pid count → Grows s t m n k times → k < count → MayMake t n pid 1
make_next s t m n pid count k times may grows less = record {
  process = (may.process.0, (let a = may.process.1 in let e = grows.holds.processes in omega (arith, a, e)));
  order = grows.goes_on.order;
  made = (let a = may.made in let e = grows.made in omega (arith, a, e, less));
  room = (let a = may.room in let e = grows.live in let d = grows.most in omega (arith, a, e, d, less));
}

pub member_grows : (s t : Shelf) (m n : Maps) (id : SegId) (e : Entry) (pid i access times : ℕ) (h : Held) → Adds s t id e → e.age ≡ s.made → Grants m n pid i h access → held_at m pid i ≡ None
    → KeepsFew m n times → KeepsOrder s m t n → Grows s t m n 1 times
member_grows s t m n id e pid i access times h adds young grants none few order = record {
  size = ap (λ (x : Shelf). x.places.size) adds.shelf;
  most = ap (λ (x : Shelf). length x.entries) adds.shelf ∙ length-set s.entries id.key (Some e);
  made = ap (λ (x : Shelf). x.made) adds.shelf;
  live = ap (λ (x : Shelf). length (live_numbers 0 x.entries)) adds.shelf ∙ listed_more 0 s.entries id.key e adds.within adds.vacant;
  lived = added_lived s t id e adds young;
  holds = new_holds m n pid i access h grants none;
  few = few;
  entries = entries_added s t id e adds;
  kept = λ k here. added_place s t id e k adds here;
  goes_on = order;
}

-- what is held elsewhere stays
pub member_others : (m n : Maps) (pid i q j access : ℕ) (h : Held) → Grants m n pid i h access → (q ≡ pid → j ≢ i) → held_at n q j ≡ held_at m q j
member_others m n pid i q j access h grants other = elim (pair_is q j pid i) [
  | Other _ u ↦ grants.held q j ∙ cond-false (eqb q pid && eqb j i) (more_of (held_at m pid i) h) (held_at m q j) u
  | Here a b u ↦ absurd (other a b)
]
