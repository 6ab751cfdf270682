-- What the row of a new segment comes to.
use Rattle.std.proofs.Common.{◌≡◌, ◌≢◌, ◌⊎◌, ◌&&◌, inl, inr, ℕ, ◌+◌, ◌%◌, ◌<◌, ◌≤◌, ◌||◌, ◌==◌, arith, List, [], ◌∷◌, length, replicate, Option, Some, None, is_some}
use Rattle.std.proofs.Common.{IsSome, Bool, true, false, cond, eqb, nat_le, nat_lt, refl, sym, ap, ◌∙◌, subst}
use Rattle.std.proofs.lemmas.Bool.{and_parts, cond-true, cond-false, eq-eqb, eqb-true}
use Rattle.std.proofs.lemmas.Bool.Decides.{nat_tests}
use Rattle.o2_base.specs.Selectors.{selector_of}
use Rattle.o2_desc.specs.Bits.{has_bit, writable_data}
use Rattle.o2_desc.specs.Choice.{IsRun, chosen}
use Rattle.o2_entries.specs.declared.Entry.{Entry}
use Rattle.o2_entries.specs.Tables.{live_numbers, slot_at}
use Rattle.o2_entries.proofs.Numbers.{listed-lt}
use Rattle.o2_place.specs.declared.seg_id.SegId.{SegId}
use Rattle.o2_regions.specs.declared.answer.Answer.{Answer}
use Rattle.o2_regions.specs.declared.answer.Roomed.{Roomed}
use Rattle.o2_regions.specs.declared.answer.Roomed.TheVariants as roomed
use Rattle.o2_regions.specs.declared.held.Region.{Region}
use Rattle.o2_regions.specs.declared.held.Region.TheVariants.{Private, Shared}
use Rattle.o2_regions.specs.Maps.{Maps, end_of, first_of, held_at, is_of, is_taken, region_of}
use Rattle.o2_service.specs.Told.{OnlyTables}
use Rattle.o2_store.specs.declared.brought.Brought.{Brought}
use Rattle.o2_store.specs.declared.brought.Brought.TheVariants as brought
use Rattle.o2_store.specs.Needs.{has_age, named_in}
use Rattle.o2_store.specs.Shelf.{Shelf, Adds, IsShelf, aged, entry, entry_of, entry_or, place_of}
use Rattle.o2_store.proofs.Tables.{slot-set_other, slot-set_same}
use Rattle.o2_swapmap.specs.Piles.{all_of}
use Rattle.o2_changes.specs.Holding.{IsUnheld}
use Rattle.o2_changes.specs.Segments.{SetsLock}
use Rattle.o2_changes.specs.Worlds.{MatchesHold, new_segment}
use Rattle.o2_stands.specs.Stands.{Matches}
use Rattle.o2_changes.proofs.Keys.{aged_has, has_is}
use Rattle.o2_changes.proofs.MakesStand.{new_plain}
use Rattle.o2_world.specs.World.{Process, Segment, World}
use Rattle.o2_world.specs.Holders.{process_at}
use Rattle.o2_world.specs.Changes.{Change, Holds, Makes, with_all, with_change, with_changes}
use Rattle.o2_world.specs.Known.{Known}
use Rattle.o2_world.specs.Rulings.{Ruling, allocation, allocation_at, free_index, full_size, grants, held_by_call, made_segment, refusal, region_by}
use Rattle.o2_stands.specs.Knows.{Others, known_in}
use Rattle.o2_stands.specs.Moves.{moved}
use Rattle.o2_stands.specs.Parts.{Parts}
use Rattle.o2_stands.proofs.Moves.{taken_same}
use Rattle.o2_segs.specs.Answers.{Answers, AnswersRoomed, changes_roomed, stop_of}
use Rattle.o2_segs.specs.Made.{IsStop, allocation_to, made_by_call, new_entry, region_for}
use Rattle.o2_segs.proofs.Rows.{own_index}

-- The index.

pub region_run : (m : Maps) (pid i flags : ℕ) → IsRun (is_taken m (region_for pid flags)) (first_of (region_for pid flags)) (end_of (region_for pid flags)) 1 i → region_of pid i ≡ region_for pid flags
region_run m pid i flags r = go (flags % 4 == 0) r
  where
    low : i + 1 ≤ 4096 → nat_lt i 4096 ≡ true
    low l = grind (arith, nat_tests)

    high : 4096 ≤ i → nat_lt i 4096 ≡ false
    high l = grind (arith, nat_tests)

    go : (b : Bool) → IsRun (is_taken m (cond b (Private pid) Shared)) (first_of (cond b (Private pid) Shared)) (end_of (cond b (Private pid) Shared)) 1 i → cond (nat_lt i 4096) (Private pid) Shared ≡ cond b (Private pid) Shared
    go true r = cond-true (nat_lt i 4096) (Private pid) Shared (low r.1)
    go false r = cond-false (nat_lt i 4096) (Private pid) Shared (high r.0)

pub run_there : (m : Maps) (pid i flags : ℕ) → IsRun (is_taken m (region_for pid flags)) (first_of (region_for pid flags)) (end_of (region_for pid flags)) 1 i → IsRun (is_taken m (region_of pid i)) (first_of (region_of pid i)) (end_of (region_of pid i)) 1 i
run_there m pid i flags r = subst (λ (g : Region). IsRun (is_taken m g) (first_of g) (end_of g) 1 i) (sym (region_run m pid i flags r)) r

pub run_same : (m n : Maps) (g : Region) (i : ℕ) → OnlyTables m n → IsRun (is_taken m g) (first_of g) (end_of g) 1 i → IsRun (is_taken n g) (first_of g) (end_of g) 1 i
run_same m n g i o r = (r.0, r.1, λ k a b. taken_same m n g k (ap (λ (x : Maps). x.processes) o.rest) (ap (λ (x : Maps). x.held) o.rest) (ap (λ (x : Maps). x.reserved) o.rest) ∙ r.2 k a b)

free_of : (p : Parts) (o : Others) (pid flags : ℕ) → 1 ≤ pid → free_index (known_in p o) (region_by pid flags) ≡ chosen (is_taken p.maps (region_for pid flags)) (first_of (region_for pid flags)) (end_of (region_for pid flags)) 1
free_of p o pid flags l = go (flags % 4 == 0)
  where
    go : (b : Bool) → free_index (known_in p o) (cond b pid 0) ≡ chosen (is_taken p.maps (cond b (Private pid) Shared)) (first_of (cond b (Private pid) Shared)) (end_of (cond b (Private pid) Shared)) 1
    go true = own_index p o pid l
    go false = refl

-- The ruling.

pub alloc_refused : (k : Known) (pid size flags : ℕ) → 15 < flags → allocation k pid size flags ≡ refusal 87
alloc_refused k pid size flags over = cond-true (nat_lt 15 flags) (refusal 87) (allocation_to k pid size flags (free_index k (region_by pid flags))) (grind (arith, nat_tests))

pub alloc_tried : (p : Parts) (o : Others) (m : Maps) (pid size flags : ℕ) (c : Option ℕ) → 1 ≤ pid → p.maps ≡ m → flags ≤ 15 → c ≡ chosen (is_taken m (region_for pid flags)) (first_of (region_for pid flags)) (end_of (region_for pid flags)) 1
    → allocation (known_in p o) pid size flags ≡ allocation_to (known_in p o) pid size flags c
alloc_tried p o m pid size flags c some em few is =
    cond-false (nat_lt 15 flags) (refusal 87) (allocation_to (known_in p o) pid size flags (free_index (known_in p o) (region_by pid flags))) (under few)
    ∙ ap (allocation_to (known_in p o) pid size flags) (free_of p o pid flags some ∙ ap (λ (x : Maps). chosen (is_taken x (region_for pid flags)) (first_of (region_for pid flags)) (end_of (region_for pid flags)) 1) em ∙ sym is)
  where
    under : flags ≤ 15 → nat_lt 15 flags ≡ false
    under n = grind (arith, nat_tests)

pub to_none : (k : Known) (pid size flags : ℕ) → allocation_to k pid size flags None ≡ refusal 8
to_none k pid size flags = go (nat_le k.most k.count)
  where
    go : (b : Bool) → cond b (refusal 8) (refusal 8) ≡ refusal 8
    go true = refl
    go false = refl

pub to_full : (p : Parts) (o : Others) (s : Shelf) (pid size flags i : ℕ) → p.shelf ≡ s → length (live_numbers 0 s.entries) ≡ length s.entries → allocation_to (known_in p o) pid size flags (Some i) ≡ refusal 8
to_full p o s pid size flags i es full =
    cond-true (nat_le (length p.shelf.entries) (length (live_numbers 0 p.shelf.entries))) (refusal 8) (allocation_at (known_in p o) pid size flags (Some i))
    (subst (λ (x : Shelf). nat_le (length x.entries) (length (live_numbers 0 x.entries)) ≡ true) (sym es) (all (length s.entries) (length (live_numbers 0 s.entries)) full))
  where
    all : (n l : ℕ) → l ≡ n → nat_le n l ≡ true
    all n l e = grind (arith, nat_tests)

pub to_some : (p : Parts) (o : Others) (s t : Shelf) (id : SegId) (e : Entry) (pid size flags i : ℕ) → p.shelf ≡ s → Adds s t id e
    → allocation_to (known_in p o) pid size flags (Some i) ≡ grants (selector_of i) (Makes (made_segment size flags) ∷ Holds pid i (held_by_call p.shelf.made) ∷ [])
to_some p o s t id e pid size flags i es adds =
    cond-false (nat_le (length p.shelf.entries) (length (live_numbers 0 p.shelf.entries))) (refusal 8) (allocation_at (known_in p o) pid size flags (Some i))
    (subst (λ (x : Shelf). nat_le (length x.entries) (length (live_numbers 0 x.entries)) ≡ false) (sym es) (some (length s.entries) (length (live_numbers 0 s.entries)) (listed-lt 0 s.entries id.key adds.within adds.vacant)))
  where
    some : (n l : ℕ) → l < n → nat_le n l ≡ false
    some n l e = grind (arith, nat_tests)

-- The segment.

segment_of : (size flags : ℕ) → Bool → Segment
segment_of size flags b = record { bytes = replicate (full_size size) 0; clean = false; code = false; flags = flags; lock = cond b 1 0; shared = has_bit flags 0 || has_bit flags 1; discarded = false }

pub made_plain : (size flags : ℕ) → has_bit flags 2 ≡ false → new_segment (full_size size) flags (has_bit flags 0 || has_bit flags 1) ≡ made_segment size flags
unfolding segment_of
made_plain size flags e = ap (segment_of size flags) (sym e)

pub made_locked : (size flags : ℕ) → has_bit flags 2 ≡ true → made_segment size flags ≡ record (new_segment (full_size size) flags (has_bit flags 0 || has_bit flags 1)) { lock = 1 }
unfolding segment_of
made_locked size flags e = ap (segment_of size flags) e

pub made_plain_by : (size flags n : ℕ) (b : Bool) → n ≡ full_size size → b ≡ (has_bit flags 0 || has_bit flags 1) → has_bit flags 2 ≡ false → new_segment n flags b ≡ made_segment size flags
made_plain_by size flags n b en eb e = ap (λ (k : ℕ). new_segment k flags b) en ∙ ap (new_segment (full_size size) flags) eb ∙ made_plain size flags e

pub made_locked_by : (size flags n : ℕ) (b : Bool) → n ≡ full_size size → b ≡ (has_bit flags 0 || has_bit flags 1) → has_bit flags 2 ≡ true → record (new_segment n flags b) { lock = 1 } ≡ made_segment size flags
made_locked_by size flags n b en eb e =
    ap (λ (k : ℕ). record (new_segment k flags b) { lock = 1 }) en ∙ ap (λ (d : Bool). record (new_segment (full_size size) flags d) { lock = 1 }) eb ∙ sym (made_locked size flags e)

pub moved_made : (p : Parts) (w : World) (t : Shelf) (m : Maps) (block : ℕ → List ℕ) → p.maps ≡ m → p.block ≡ block → Matches (record p { shelf = t }) w → Matches (moved p t m block) w
moved_made p w t m block em eb q = subst (λ (x : ℕ → List ℕ). Matches (moved p t m x) w) eb (subst (λ (x : Maps). Matches (moved p t x p.block) w) em q)

pub new_name : (p : Parts) (w : World) (s t : Shelf) (id : SegId) (e : Entry) → p.shelf ≡ s → Adds s t id e → w.next_name ≡ p.shelf.made → (p.shelf.made ≡ id.age) × (id.age ≡ w.next_name)
new_name p w s t id e es adds next = let n : p.shelf.made ≡ id.age = ap (λ (x : Shelf). x.made) es ∙ sym adds.age in (n, sym n ∙ sym next)

pub set_live : (s t : Shelf) (id : SegId) (lock : ℕ) → IsSome (entry_of s id) → SetsLock s t id lock → IsSome (entry_of t id)
set_live s t id lock live l =
    let h = has_is (slot_at s.entries id.key) id.age (sym (aged_has id.age (slot_at s.entries id.key)) ∙ live) in
    let e : Entry = record (entry s id.key) { attr = record (entry s id.key).attr { lock = lock } } in
    ap is_some (ap (aged id.age) l.here ∙ cond-true (eqb e.age id.age) (Some e) None (eq-eqb e.age id.age h.1))

pub still_unheld : (m n : Maps) (id : SegId) → OnlyTables m n → IsUnheld m id → IsUnheld n id
still_unheld m n id o u pid i = ap (λ (x : Maps). is_of id (held_at x pid i)) o.rest ∙ u pid i

-- What a new segment leaves of the others.

pub added_entry : (s t : Shelf) (id : SegId) (e : Entry) → Adds s t id e → entry t id.key ≡ e
added_entry s t id e a = ap entry_or (ap (λ (x : Shelf). slot_at x.entries id.key) a.shelf ∙ slot-set_same s.entries id.key (Some e) a.within)

pub added_map : (s t : Shelf) (id : SegId) (e : Entry) → Adds s t id e → all_of t.swap ≡ all_of s.swap
added_map s t id e a = ap (λ (x : Shelf). all_of x.swap) a.shelf

pub added_place : (s t : Shelf) (id : SegId) (e : Entry) (k : ℕ) → Adds s t id e → IsSome (place_of s k) → IsSome (place_of t k)
added_place s t id e k a here = subst (λ (o : Option (ℕ × ℕ)). IsSome o) (sym (ap (λ (x : Shelf). place_of x k) a.shelf)) here

-- a new segment is out of memory
pub added_out : (s t : Shelf) (id : SegId) (e : Entry) → IsShelf s → Adds s t id e → place_of t id.key ≡ None
added_out s t id e h a = ap (λ (x : Shelf). place_of x id.key) a.shelf ∙ (h.each id.key a.within).dead a.vacant

pub new_adds : (s t : Shelf) (id : SegId) (size flags n : ℕ) (b : Bool) → n ≡ full_size size → b ≡ (has_bit flags 0 || has_bit flags 1)
    → Adds s t id (record { age = s.made; size = n; kept = 0; image = None; attr = record { flags = flags; lock = 0; clean = false; shared = b; gone = false } }) → Adds s t id (new_entry s.made (full_size size) flags)
new_adds s t id size flags n b en eb a =
    subst (λ (k : ℕ). Adds s t id (new_entry s.made k flags)) en
    (subst (λ (x : Bool). Adds s t id (record { age = s.made; size = n; kept = 0; image = None; attr = record { flags = flags; lock = 0; clean = false; shared = x; gone = false } })) eb a)

-- what is named in a list was there before

one_of : (x y : Bool) → (x || y) ≡ true → (x ≡ true) ⊎ (y ≡ true)
one_of true y e = inl refl
one_of false y e = inr e

named_some : (es : List (Option Entry)) (ids : List SegId) (k : ℕ) → named_in es ids k ≡ true → is_some (slot_at es k) ≡ true
named_some es [] k e = absurd (cc)
named_some es (id ∷ ids) k e = elim (one_of (has_age (slot_at es id.key) id.age && eqb k id.key) (named_in es ids k) e) [
  | inl here ↦ (let p = and_parts (has_age (slot_at es id.key) id.age) (eqb k id.key) here in
      subst (λ (j : ℕ). is_some (slot_at es j) ≡ true) (sym (eqb-true k id.key p.1)) (has_is (slot_at es id.key) id.age p.0).0)
  | inr there ↦ named_some es ids k there
]

pub named_apart : (s t : Shelf) (id : SegId) (e : Entry) (ids : List SegId) (k : ℕ) → Adds s t id e → named_in s.entries ids k ≡ true → k ≢ id.key
named_apart s t id e ids k a named same =
    let z : false ≡ true = sym (ap is_some (ap (slot_at s.entries) same ∙ a.vacant)) ∙ named_some s.entries ids k named in
    cc

-- and is named there behind it
pub named_behind : (s t : Shelf) (id : SegId) (e : Entry) (ids : List SegId) (k : ℕ) → Adds s t id e → k ≢ id.key → named_in s.entries ids k ≡ true → named_in t.entries ids k ≡ true
named_behind s t id e ids k a apart named = go ids ∙ named
  where
    slot_same : slot_at t.entries k ≡ slot_at s.entries k
    slot_same = ap (λ (x : Shelf). slot_at x.entries k) a.shelf ∙ slot-set_other s.entries id.key k (Some e) apart

    one : (x : SegId) (b : Bool) → eqb k x.key ≡ b → (has_age (slot_at t.entries x.key) x.age && b) ≡ (has_age (slot_at s.entries x.key) x.age && b)
    one x true f = ap (λ (o : Option Entry). has_age o x.age && true) (subst (λ (j : ℕ). slot_at t.entries j ≡ slot_at s.entries j) (eqb-true k x.key f) slot_same)
    one x false f = none (has_age (slot_at t.entries x.key) x.age) (has_age (slot_at s.entries x.key) x.age)
      where
        none : (u v : Bool) → (u && false) ≡ (v && false)
        none u v = grind arith

    go : (xs : List SegId) → named_in t.entries xs k ≡ named_in s.entries xs k
    go [] = refl
    go (x ∷ xs) = ap (λ (b : Bool). b || named_in t.entries xs k) (one x (eqb k x.key) refl) ∙ ap (λ (b : Bool). (has_age (slot_at s.entries x.key) x.age && eqb k x.key) || b) (go xs)

-- Stops.

pub is_stop_of : (a : Brought) (stop r : Roomed) → Some stop ≡ stop_of a → Some stop ≡ Some r → IsStop r
is_stop_of brought.Here stop r e f = absurd (cc)
is_stop_of brought.NoRoom stop r e f = subst IsStop (let g : roomed.NoRoom ≡ r = cc in g) tt
is_stop_of brought.SwapFull stop r e f = subst IsStop (let g : roomed.SwapFull ≡ r = cc in g) tt
is_stop_of brought.SwapFault stop r e f = subst IsStop (let g : roomed.SwapFault ≡ r = cc in g) tt
is_stop_of brought.Stale stop r e f = absurd (cc)

pub same_stop : (stop r q : Roomed) → Some stop ≡ Some r → r ≡ q → stop ≡ q
same_stop stop r q e f = cc

pub stop_answers_any : (ruling : Ruling) (r : Roomed) → IsStop r → ruling.error ≡ 0 → AnswersRoomed ruling r
stop_answers_any ruling (roomed.Done a) stop none = absurd stop
stop_answers_any ruling roomed.NoRoom stop none = none
stop_answers_any ruling roomed.SwapFull stop none = none
stop_answers_any ruling roomed.SwapFault stop none = none

pub stop_leaves : (q : Parts) (w : World) (ruling : Ruling) (r : Roomed) → IsStop r → Matches q w → Matches q (with_all w (changes_roomed ruling r))
unfolding with_changes
stop_leaves q w ruling (roomed.Done a) stop m = absurd stop
stop_leaves q w ruling roomed.NoRoom stop m = m
stop_leaves q w ruling roomed.SwapFull stop m = m
stop_leaves q w ruling roomed.SwapFault stop m = m

-- What is made and held, as the changes of the row.

pub done_answers_any : (ruling : Ruling) (value : ℕ) (changes : List Change) (r : Roomed) → ruling ≡ grants value changes → r ≡ roomed.Done (record { error = 0; value = value }) → AnswersRoomed ruling r
done_answers_any ruling value changes r e is = subst (AnswersRoomed ruling) (sym is) (record { error = sym (ap (λ (x : Ruling). x.error) e); value = sym (ap (λ (x : Ruling). x.value) e) })

pub refusal_answers_any : (ruling : Ruling) (error : ℕ) (a : Answer) → ruling ≡ refusal error → a ≡ record { error = error; value = 0 } → Answers ruling a
refusal_answers_any ruling error a e is = subst (Answers ruling) (sym is) (record { error = sym (ap (λ (x : Ruling). x.error) e); value = sym (ap (λ (x : Ruling). x.value) e) })

pub made_matches : (p : Parts) (w : World) (x : Process) (t : Shelf) (m n : Maps) (block : ℕ → List ℕ) (id : SegId) (sg : Segment) (pid size flags i made : ℕ) (ruling : Ruling) (r : Roomed)
    → ruling ≡ grants (selector_of i) (Makes (made_segment size flags) ∷ Holds pid i (held_by_call made) ∷ []) → r ≡ roomed.Done (record { error = 0; value = selector_of i })
    → made ≡ id.age → id.age ≡ w.next_name → sg ≡ made_segment size flags → IsSome (entry_of t id) → MatchesHold t m n pid i (made_by_call id) writable_data → process_at w.processes pid ≡ Some x
    → Matches (moved p t m block) (with_change w (Makes sg)) → Matches (moved p t n block) (with_all w (changes_roomed ruling r))
unfolding with_changes
made_matches p w x t m n block id sg pid size flags i made ruling r is done named age same live hold at q =
    subst (λ (y : Roomed). Matches (moved p t n block) (with_all w (changes_roomed ruling y))) (sym done)
    (subst (λ (y : Ruling). Matches (moved p t n block) (with_all w y.changes)) (sym is)
    (subst (λ (k : ℕ). Matches (moved p t n block) (with_change (with_change w (Makes (made_segment size flags))) (Holds pid i (held_by_call k)))) (sym named)
    (subst (λ (y : Segment). Matches (moved p t n block) (with_change (with_change w (Makes y)) (Holds pid i (held_by_call id.age)))) same
    (hold.world (moved p t m block) (with_change w (Makes sg)) x refl refl at (λ writable. new_plain (moved p t m block) w sg id q live age (ap (λ (y : Segment). y.clean) same)) q))))

pub no_stop : (r : Roomed) (a : Answer) (X : Type 0) → r ≡ roomed.Done a → IsStop r → X
no_stop r a X e stop = absurd (subst IsStop e stop)
