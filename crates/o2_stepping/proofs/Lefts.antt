-- A step touches few names, and each try finds one more of them.
use Rattle.std.proofs.Common.{◌≡◌, ℕ, suc, ◌+◌, ◌≤◌, ◌==◌, ◌||◌, ◌&&◌, nat_le, Bool, true, false, cond, List, [], ◌∷◌, ◌++◌, length, Option, Some, None, ap, sym, ◌∙◌, refl, arith, length-append}
use Rattle.std.specs.Prelude.{Result, Ok, Err, if◌then◌else◌}
use Rattle.std.specs.List.{list_all}
use Rattle.std.proofs.lemmas.Bool.{false≢true}
use Rattle.o2_isa.specs.View.{View, Hold, bound_in}
use Rattle.o2_isa.specs.Pointers.{is_for_es}
use Rattle.o2_isa.specs.Presence.{is_in}
use Rattle.o2_isa.specs.Steps.{State as Machine, state}
use Rattle.o2_isa.specs.Step.{stepped, step_names}
use Rattle.o2_isa.specs.declared.cpu.Stop.{Stop}
use Rattle.o2_isa.specs.declared.cpu.Stop.TheVariants as stop
use Rattle.o2_isa.proofs.StepLaws.{step_loads_few}
use Rattle.o2_place.specs.declared.seg_id.SegId.{SegId}
use Rattle.o2_world.specs.declared.types.Slot.{Slot}
use Rattle.o2_world.specs.declared.types.Slot.TheVariants.{Word, Long, Reads, Writes, Text, ToWord, ToLong, ToWords, Heap}
use Rattle.o2_world.specs.Calls.{Before, argument, has_arguments, row_of, rows}
use Rattle.o2_world.specs.Outcomes.{CallRow}
use Rattle.o2_world.specs.RowLaws.{EachRow}
use Rattle.o2_world.specs.Slots.{Pointer, are_good, heaps_in, may_have_heap, pointers_in, words_in}
use Rattle.o2_world.proofs.Rows.{by_rows, each_entry}
use Rattle.o2_run.specs.Room.{call_names, gate_names, heaped, name_in, passed, pointed, touched, worded_names}
use Rattle.o2_stepping.specs.Rooms.{ages_of, left_in}
use Rattle.o2_stepping.proofs.Named.{both_in}

-- How many names a step touches.

passed_few : (v : View) (o : Option Hold) (p : Pointer) (rest : List ℕ) → length (passed v o p rest) ≤ 1 + length rest
passed_few v None p rest = omega arith
passed_few v (Some h) p rest = go (is_for_es v p.selector) (p.good h.rights && nat_le (p.offset + p.count) (length (v.bytes h.name)))
  where
    go : (a b : Bool) → length (cond a (h.name ∷ cond b rest []) []) ≤ 1 + length rest
    go true true = omega arith
    go true false = omega arith
    go false b = omega arith

counted_few : (v : View) (p : Pointer) (ps : List Pointer) → length (pointed v ps) ≤ length ps → (z : Bool)
    → length (cond z (pointed v ps) (passed v (bound_in v.held p.selector) p (pointed v ps))) ≤ length (p ∷ ps)
counted_few v p ps a true = omega (arith, a)
counted_few v p ps a false = (let b = passed_few v (bound_in v.held p.selector) p (pointed v ps) in omega (arith, a, b))

pointed_few : (v : View) (ps : List Pointer) → length (pointed v ps) ≤ length ps
pointed_few v [] = omega arith
pointed_few v (p ∷ ps) = counted_few v p ps (pointed_few v ps) (p.count == 0)

heaped_few : (v : View) (ps : List Pointer) → length (heaped v ps) ≤ length ps
heaped_few v [] = omega arith
heaped_few v (p ∷ ps) = go (may_have_heap v p.selector) (bound_in v.held p.selector) (heaped_few v ps)
  where
    go : (good : Bool) (o : Option Hold) → length (heaped v ps) ≤ length ps → length (cond good (name_in o) [] ++ heaped v ps) ≤ suc (length ps)
    go true None few = omega (arith, few)
    go true (Some h) few = omega (arith, few)
    go false o few = omega (arith, few)

-- how many pointers and heaps there are among a call's arguments
abbrev name_count : List Slot → ℕ
name_count [] = 0
name_count (Word ∷ ss) = name_count ss
name_count (Long ∷ ss) = name_count ss
name_count (Reads ∷ ss) = suc (name_count ss)
name_count (Writes ∷ ss) = suc (name_count ss)
name_count (Text ∷ ss) = suc (name_count ss)
name_count (ToWord ∷ ss) = suc (name_count ss)
name_count (ToLong ∷ ss) = suc (name_count ss)
name_count (ToWords count ∷ ss) = suc (name_count ss)
name_count (Heap ∷ ss) = suc (name_count ss)

one_pointer : (a b n : ℕ) → a + b ≡ n → suc a + b ≡ suc n
one_pointer a b n e = omega (arith, e)

one_heap : (a b n : ℕ) → a + b ≡ n → a + suc b ≡ suc n
one_heap a b n e = omega (arith, e)

counted : (ss : List Slot) (v : View) (a : ℕ → ℕ) → length (pointers_in ss v a) + length (heaps_in ss a) ≡ name_count ss
counted [] v a = refl
counted (Word ∷ ss) v a = counted ss v a
counted (Long ∷ ss) v a = counted ss v a
counted (Reads ∷ ss) v a = one_pointer (length (pointers_in ss v a)) (length (heaps_in ss a)) (name_count ss) (counted ss v a)
counted (Writes ∷ ss) v a = one_pointer (length (pointers_in ss v a)) (length (heaps_in ss a)) (name_count ss) (counted ss v a)
counted (Text ∷ ss) v a = one_pointer (length (pointers_in ss v a)) (length (heaps_in ss a)) (name_count ss) (counted ss v a)
counted (ToWord ∷ ss) v a = one_pointer (length (pointers_in ss v a)) (length (heaps_in ss a)) (name_count ss) (counted ss v a)
counted (ToLong ∷ ss) v a = one_pointer (length (pointers_in ss v a)) (length (heaps_in ss a)) (name_count ss) (counted ss v a)
counted (ToWords count ∷ ss) v a = one_pointer (length (pointers_in ss v a)) (length (heaps_in ss a)) (name_count ss) (counted ss v a)
counted (Heap ∷ ss) v a = one_heap (length (pointers_in ss v a)) (length (heaps_in ss a)) (name_count ss) (counted ss v a)

-- the table as a whole
abbrev few_there : CallRow → Bool
few_there r = nat_le (name_count r.slots) 2

each_by : (rs : List (ℕ × CallRow)) → list_all (λ (e : ℕ × CallRow). few_there e.1) rs ≡ true → EachRow (λ (r : CallRow). name_count r.slots ≤ 2) rs
each_by [] all = tt
each_by (e ∷ es) all = go (few_there e.1) refl all (each_by es)
  where
    less : (n : ℕ) → nat_le n 2 ≡ true → n ≤ 2
    less n e = grind arith

    go : (b : Bool) → few_there e.1 ≡ b → (b && list_all (λ (x : ℕ × CallRow). few_there x.1) es) ≡ true
        → (list_all (λ (x : ℕ × CallRow). few_there x.1) es ≡ true → EachRow (λ (r : CallRow). name_count r.slots ≤ 2) es)
        → EachRow (λ (r : CallRow). name_count r.slots ≤ 2) (e ∷ es)
    go true is rest later = (less (name_count e.1.slots) is, later rest)
    go false is rest later = absurd (false≢true rest)

worded_few : (v : View) (r : CallRow) (a : ℕ → ℕ) → name_count r.slots ≤ 2 → length (worded_names v r a) ≤ 2
worded_few v r a few = go (are_good v (pointers_in r.slots v a))
  where
    pointers : length (pointed v (pointers_in r.slots v a)) ≤ length (pointers_in r.slots v a)
    pointers = pointed_few v (pointers_in r.slots v a)

    heaps : length (heaped v (heaps_in r.slots a)) ≤ length (heaps_in r.slots a)
    heaps = heaped_few v (heaps_in r.slots a)

    go : (good : Bool) → length (pointed v (pointers_in r.slots v a) ++ cond good (heaped v (heaps_in r.slots a)) []) ≤ 2
    go true = (let l = length-append (pointed v (pointers_in r.slots v a)) (heaped v (heaps_in r.slots a)) in let c = counted r.slots v a in omega (arith, l, pointers, heaps, c, few))
    go false = (let l = length-append (pointed v (pointers_in r.slots v a)) [] in let c = counted r.slots v a in omega (arith, l, pointers, c, few))

row_few : (b : Before) (service : ℕ) (r : CallRow) → name_count r.slots ≤ 2 → length (call_names b (Some r)) ≤ 2
row_few b service r few = go (has_arguments b.view b.cpu (words_in r.slots))
  where
    go : (z : Bool) → length (cond z (worded_names b.view r (argument b.view b.cpu)) []) ≤ 2
    go true = worded_few b.view r (argument b.view b.cpu) few
    go false = omega arith

call_few : (b : Before) (service : ℕ) → length (call_names b (row_of service)) ≤ 2
call_few b service =
    by_rows (λ (o : Option CallRow). length (call_names b o) ≤ 2) (omega arith)
    (each_entry (λ (n : ℕ) (r : CallRow). name_count r.slots ≤ 2) (λ (n : ℕ) (r : CallRow). length (call_names b (Some r)) ≤ 2) (row_few b) rows (each_by rows refl)) service

gate_few : (b : Before) (r : Result Machine Stop) → length (gate_names b r) ≤ 2
gate_few b (Ok s) = omega arith
gate_few b (Err (stop.Miss s)) = omega arith
gate_few b (Err (stop.Trap vector code)) = omega arith
gate_few b (Err (stop.Gate service next)) = call_few b service

pub touched_few : (b : Before) → length (touched b) ≤ 3
touched_few b =
    let s = step_loads_few (state b.cpu b.view) in
    let g = gate_few b (stepped (state b.cpu b.view)) in
    let l = length-append (step_names (state b.cpu b.view)) (gate_names b (stepped (state b.cpu b.view))) in
    omega (arith, s, g, l)

-- Names that aren't among the segments yet.

pub ages_both : (xs ys : List (SegId × ℕ)) → ages_of (xs ++ ys) ≡ ages_of xs ++ ages_of ys
ages_both [] ys = refl
ages_both (x ∷ xs) ys = ap (λ (l : List ℕ). x.0.age ∷ l) (ages_both xs ys)

pub in_more : (n : ℕ) (need more : List (SegId × ℕ)) → is_in n (ages_of (need ++ more)) ≡ (is_in n (ages_of need) || is_in n (ages_of more))
in_more n need more = ap (is_in n) (ages_both need more) ∙ both_in n (ages_of need) (ages_of more)

abbrev one_if_not : Bool → ℕ
one_if_not b = if b then 0 else 1

one_less : (a b : Bool) → one_if_not (a || b) ≤ one_if_not a
one_less true b = omega arith
one_less false true = omega arith
one_less false false = omega arith

left_le : (ns : List ℕ) (need more : List (SegId × ℕ)) → left_in ns (need ++ more) ≤ left_in ns need
left_le [] need more = omega arith
left_le (n ∷ ns) need more =
    let r = left_le ns need more in
    let h = one_less (is_in n (ages_of need)) (is_in n (ages_of more)) in
    let e : one_if_not (is_in n (ages_of (need ++ more))) ≡ one_if_not (is_in n (ages_of need) || is_in n (ages_of more)) = ap one_if_not (in_more n need more) in
    omega (arith, r, h, e)

none_to_one : (a b : Bool) → a ≡ false → b ≡ true → one_if_not (a || b) + 1 ≤ one_if_not a
none_to_one true b e f = absurd (false≢true (sym e))
none_to_one false true e f = omega arith
none_to_one false false e f = absurd (false≢true f)

same_number : (m n : ℕ) → (m == n) ≡ true → m ≡ n
same_number m n q = grind arith

less_by : (m : ℕ) (ns : List ℕ) (need more : List (SegId × ℕ)) (n : ℕ) → is_in n (ages_of need) ≡ false → is_in n (ages_of more) ≡ true
    → (is_in n ns ≡ true → left_in ns (need ++ more) + 1 ≤ left_in ns need) → (b : Bool) → (m == n) ≡ b → (b || is_in n ns) ≡ true → left_in (m ∷ ns) (need ++ more) + 1 ≤ left_in (m ∷ ns) need
less_by m ns need more n other here rest true q e =
    let same : m ≡ n = same_number m n q in
    let r = left_le ns need more in
    let h = none_to_one (is_in m (ages_of need)) (is_in m (ages_of more)) (ap (λ (k : ℕ). is_in k (ages_of need)) same ∙ other) (ap (λ (k : ℕ). is_in k (ages_of more)) same ∙ here) in
    let f : one_if_not (is_in m (ages_of (need ++ more))) ≡ one_if_not (is_in m (ages_of need) || is_in m (ages_of more)) = ap one_if_not (in_more m need more) in
    omega (arith, r, h, f)
less_by m ns need more n other here rest false q e =
    let r = rest e in
    let h = one_less (is_in m (ages_of need)) (is_in m (ages_of more)) in
    let f : one_if_not (is_in m (ages_of (need ++ more))) ≡ one_if_not (is_in m (ages_of need) || is_in m (ages_of more)) = ap one_if_not (in_more m need more) in
    omega (arith, r, h, f)

pub left_less : (ns : List ℕ) (need more : List (SegId × ℕ)) (n : ℕ) → is_in n ns ≡ true → is_in n (ages_of need) ≡ false → is_in n (ages_of more) ≡ true → left_in ns (need ++ more) + 1 ≤ left_in ns need
left_less [] need more n e other here = absurd (false≢true e)
left_less (m ∷ ns) need more n e other here = less_by m ns need more n other here (λ f. left_less ns need more n f other here) (m == n) refl e

pub left_most : (ns : List ℕ) (need : List (SegId × ℕ)) → left_in ns need ≤ length ns
left_most [] need = omega arith
left_most (n ∷ ns) need = (let r = left_most ns need in let h = at_most (is_in n (ages_of need)) in omega (arith, r, h))
  where
    at_most : (b : Bool) → one_if_not b ≤ 1
    at_most true = omega arith
    at_most false = omega arith
