-- Heaps: the rows of their calls, the test of a selector, and the words that are written one by one.
use Rattle.std.proofs.Common.{◌≡◌, ◌≢◌, ℕ, zero, suc, ◌+◌, ◌-◌, ◌/◌, ◌%◌, ◌<◌, ◌≤◌, ◌==◌, ◌&&◌, ◌||◌, not, min, nat_le, nat_lt, Bool, true, false, cond, List, [], ◌∷◌, ◌++◌, length, take, drop, Option, Some, None, option_map, ap, sym, ◌∙◌, refl, subst, arith, if◌then◌else◌}
use Rattle.std.proofs.lemmas.Bool.Decides.{nat_tests}
use Rattle.std.proofs.lemmas.Grind.{common_steps}
use Rattle.std.specs.Prelude.{slice_set}
use Rattle.o2_base.specs.declared.selector.Selector.{Selector}
use Rattle.o2_isa.specs.declared.cpu.Purpose.TheVariants.{DataReg}
use Rattle.o2_isa.specs.declared.cpu.Loaded.TheVariants as loaded
use Rattle.o2_desc.specs.Bits.{has_bit}
use Rattle.o2_isa.specs.Parts.{put_part}
use Rattle.o2_isa.specs.View.{View, Filling, Hold, whole, found, bound_in, is_local, is_null, is_readable, is_writable, probe_of, size_at}
use Rattle.o2_isa.specs.Steps.{selector}
use Rattle.o2_isa.specs.Sizes.{IsSized}
use Rattle.o2_isa.specs.Pointers.{has_present_range, is_for_es, is_passed, is_ready, put_at_pointer, put_in, range_in, range_of}
use Rattle.o2_isa.specs.Presence.{is_in}
use Rattle.o2_world.specs.CallParts.{word_bytes}
use Rattle.o2_world.specs.Calls.{Before, by_heap, heap_most, on_heap, row_of, rows}
use Rattle.o2_world.specs.Heaps.{Heap as Inside, chain_from, heap_of, is_block, is_header, put_word, put_words, word}
use Rattle.o2_world.specs.HeapRulings.{HeapRuling, area_of, giving_back, giving_back_to, growing, grown, is_outside, leaves, meets, refuses, rounded, setting_up, take_from, taken, taking, taking_of}
use Rattle.o2_world.specs.Outcomes.{CallRow, Fails}
use Rattle.o2_world.specs.Slots.{heaps_in, is_for_writing, may_have_heap, pointers_in, targets_in, words_in}
use Rattle.o2_world.specs.declared.types.Slot.{Slot}
use Rattle.o2_world.specs.declared.types.Slot.TheVariants.{Heap}
use Rattle.o2_subseg.specs.declared.plan.Plan.{Plan}
use Rattle.o2_subseg.specs.Plans.{Plans, words_of}
use Rattle.o2_run.specs.Room.{heaped, name_in}
use Rattle.o2_gate.specs.Befores.{boundless}
use Rattle.o2_gate.specs.Heaps.{IsHeapMissed, IsHeapThere, IsNoHeap, behind_heap, done_by, front_of, heap_by, is_heap_call, planned, reach_of, ruling_by, selector_of}
use Rattle.o2_gate.specs.Pointed.{ArePresent}
use Rattle.o2_gate.specs.Replies.{FitsIn}
use Rattle.o2_gate.proofs.Checks.{done_seen, es_boundless, miss_seen, one_named}
use Rattle.o2_gate.proofs.Looks.{EachEntry, of_entry}
use Rattle.o2_gate.proofs.Stores.{whole_at}
use Rattle.o2_gate.proofs.Tests.{found_bound}

-- The rows.

pub record IsByHeap (service : ℕ) (r : CallRow) : Type 0 where
  pub slots : r.slots ≡ (if is_heap_call service then Heap ∷ behind_heap service r.slots else r.slots)
  pub heaps : (a : ℕ → ℕ) → heaps_in r.slots a ≡ (if is_heap_call service then heap_by (selector_of service r.slots a) ∷ [] else [])
  pub outcome : (b : Before) (a : ℕ → ℕ) → r.outcome b a ≡ (if is_heap_call service then on_heap r.slots b (selector_of service r.slots a) (ruling_by service a) else r.outcome b a)
  pub aims : (v : View) (a : ℕ → ℕ) → targets_in (behind_heap service r.slots) a ≡ pointers_in (behind_heap service r.slots) v a
  pub fits : (value : ℕ) → value ≤ 65535 → FitsIn (behind_heap service r.slots) value
  pub words : words_in (behind_heap service r.slots) ≤ 5

plain : (service : ℕ) (r : CallRow) → is_heap_call service ≡ false → ((a : ℕ → ℕ) → heaps_in r.slots a ≡ []) → IsByHeap service r
plain service r e none = record {
  slots = rw e refl;
  heaps = λ a. rw e (none a);
  outcome = λ b a. rw e refl;
  aims = λ v a. rw e refl;
  fits = λ value less. rw e tt;
  words = rw e (omega arith);
}

by_heaps : EachEntry IsByHeap rows
by_heaps = (
  plain 1 _ refl (λ a. refl),
  (
    plain 2 _ refl (λ a. refl),
    (
      plain 3 _ refl (λ a. refl),
      (
        plain 4 _ refl (λ a. refl),
        (
          plain 5 _ refl (λ a. refl),
          (
            plain 6 _ refl (λ a. refl),
            (
              plain 7 _ refl (λ a. refl),
              (
                plain 8 _ refl (λ a. refl),
                (
                  plain 9 _ refl (λ a. refl),
                  (
                    plain 10 _ refl (λ a. refl),
                    (
                      plain 11 _ refl (λ a. refl),
                      (
                        plain 12 _ refl (λ a. refl),
                        (
                          plain 13 _ refl (λ a. refl),
                          (
                            plain 14 _ refl (λ a. refl),
                            (
                              plain 15 _ refl (λ a. refl),
                              (
                                plain 16 _ refl (λ a. refl),
                                (
                                  plain 17 _ refl (λ a. refl),
                                  (
                                    plain 18 _ refl (λ a. refl),
                                    (
                                      plain 19 _ refl (λ a. refl),
                                      (
                                        record { slots = refl; heaps = λ a. refl; outcome = λ b a. refl; aims = λ v a. refl; fits = λ value less. (tt, (tt, tt)); words = omega arith },
                                        (
                                          record { slots = refl; heaps = λ a. refl; outcome = λ b a. refl; aims = λ v a. refl; fits = λ value less. (less, (tt, tt)); words = omega arith },
                                          (
                                            record { slots = refl; heaps = λ a. refl; outcome = λ b a. refl; aims = λ v a. refl; fits = λ value less. (tt, (tt, tt)); words = omega arith },
                                            (plain 25 _ refl (λ a. refl), (plain 26 _ refl (λ a. refl), (plain 27 _ refl (λ a. refl), (plain 28 _ refl (λ a. refl), tt)))),
                                          ),
                                        ),
                                      ),
                                    ),
                                  ),
                                ),
                              ),
                            ),
                          ),
                        ),
                      ),
                    ),
                  ),
                ),
              ),
            ),
          ),
        ),
      ),
    ),
  ),
)

pub by_heap_row : (service : ℕ) (r : CallRow) → row_of service ≡ Some r → IsByHeap service r
by_heap_row = of_entry IsByHeap by_heaps

both_and : (a b : Bool) → a ≡ true → b ≡ true → (a && b) ≡ true
both_and a b e g = rw (e, g) refl

at_least : (n m : ℕ) → n ≤ m → nat_le n m ≡ true
at_least n m e = grind (arith, nat_tests)

pub is_late : (service : ℕ) → 20 ≤ service → service ≤ 22 → is_heap_call service ≡ true
is_late service first last = both_and _ _ (at_least 20 service first) (at_least service 22 last)

left_of : (a b : Bool) → (a && b) ≡ true → a ≡ true
left_of a b e = grind arith

right_of : (a b : Bool) → (a && b) ≡ true → b ≡ true
right_of a b e = grind arith

le_of : (n m : ℕ) → nat_le n m ≡ true → n ≤ m
le_of n m e = grind (arith, nat_tests)

not_le : (n m : ℕ) → nat_le n m ≡ false → m < n
not_le n m e = grind (arith, nat_tests)

no_more : (n m : ℕ) → m < n → nat_le n m ≡ false
no_more n m e = grind (arith, nat_tests)

-- and by its number
pub heap_first : (service : ℕ) → is_heap_call service ≡ true → 20 ≤ service
heap_first service e = le_of 20 service (left_of _ _ e)

pub heap_last : (service : ℕ) → is_heap_call service ≡ true → service ≤ 22
heap_last service e = le_of service 22 (right_of _ _ e)

pub below : (n k : ℕ) → n ≢ k → n < suc k → n < k
below zero zero other less = absurd (other refl)
below zero (suc k) other less = omega arith
below (suc n) zero other less = absurd (omega (arith, less))
below (suc n) (suc k) other less = let next = below n k (λ e. other (ap suc e)) (omega (arith, less)) in omega (arith, next)

pub not_between : (service : ℕ) → is_heap_call service ≡ false → service < 23 → service < 20
not_between service e less = go (nat_le 20 service) refl e
  where
    go : (c : Bool) → nat_le 20 service ≡ c → (c && nat_le service 22) ≡ false → service < 20
    go true is e = absurd (let z : true ≡ false = sym (at_least service 22 (omega (arith, less))) ∙ e in cc)
    go false is e = not_le 20 service is

pub is_early : (service : ℕ) → service < 20 → is_heap_call service ≡ false
is_early service early = ap (λ (c : Bool). c && nat_le service 22) (no_more 20 service early)

-- The test of a selector.

no_and : (a b : Bool) → b ≡ false → (a && b) ≡ false
no_and true b e = e
no_and false b e = refl

and_no : (a b : Bool) → a ≡ false → (a && b) ≡ false
and_no a b e = rw e refl

pub is_behind : (service : ℕ) → 22 < service → is_heap_call service ≡ false
is_behind service late = no_and (nat_le 20 service) (nat_le service 22) (no_more service 22 late)

bound_writing : (n : Bool) (o : Option Hold) → is_for_writing o ≡ false → is_for_writing (cond n None o) ≡ false
bound_writing true o e = refl
bound_writing false o e = e

null_writing : (n : Bool) (o : Option Hold) → n ≡ true → is_for_writing (cond n None o) ≡ false
null_writing n o e = rw e refl

pub null_no_heap : (v : View) (s : ℕ) → is_null s ≡ true → IsNoHeap v s
null_no_heap v s null = record { may = λ f. no_and (is_for_es (boundless f v) s) _ (null_writing (is_null s) (found v s) null) }

pub unwritable_no_heap : (v : View) (s : ℕ) → is_for_writing (found v s) ≡ false → IsNoHeap v s
unwritable_no_heap v s e = record { may = λ f. no_and (is_for_es (boundless f v) s) _ (bound_writing (is_null s) (found v s) e) }

pub unloaded_no_heap : (v : View) (s : ℕ) → is_for_es v s ≡ false → IsNoHeap v s
unloaded_no_heap v s e = record { may = λ f. and_no _ _ (es_boundless f v s ∙ e) }

-- what may be a heap, by what was found
may_be : (f : Filling) (v : View) (s : ℕ) (h : Hold) → is_for_es v s ≡ true → bound_in v.held s ≡ Some h → is_writable h.rights ≡ true → may_have_heap (boundless f v) s ≡ true
may_be f v s h es bound writable = both_and _ _ (es_boundless f v s ∙ es) (ap is_for_writing bound ∙ writable)

heaped_at : (w : View) (s : ℕ) (h : Hold) → may_have_heap w s ≡ true → bound_in w.held s ≡ Some h → heaped w (heap_by s ∷ []) ≡ h.name ∷ []
heaped_at w s h may bound =
    ap (λ (c : Bool). cond c (name_in (bound_in w.held s)) [] ++ []) may
    ∙ ap (λ (o : Option Hold). name_in o ++ []) bound

pub no_heaped : (w : View) (s : ℕ) → may_have_heap w s ≡ false → heaped w (heap_by s ∷ []) ≡ []
no_heaped w s may = ap (λ (c : Bool). cond c (name_in (bound_in w.held s)) [] ++ []) may

held_at : (b : Bool) (o : Option Hold) (h : Hold) → cond b o None ≡ Some h → o ≡ Some h
held_at true o h e = e
held_at false o h e = absurd (let z : ◌≡◌ {A = Option Hold} None (Some h) = e in cc)

pub all_three : (a b c : Bool) → a ≡ true → b ≡ true → c ≡ true → (a && (b && c)) ≡ true
all_three a b c e g h = rw (e, g, h) refl

pub heap_there : (v : View) (s : ℕ) → is_null s ≡ false → is_for_writing (found v s) ≡ true → loaded.Done ≡ probe_of v DataReg (selector s) → IsSized v → IsHeapThere v s
unfolding is_ready
heap_there v s some written done sized =
    let seen = done_seen v s some done in
    let h : Hold = seen.hold in
    let bound = found_bound v s h some seen.found_it in
    let writable : is_writable h.rights ≡ true = sym (ap is_for_writing seen.found_it) ∙ written in
    let least = sized.least (s / 8) h (held_at (is_local s) (v.held (s / 8)) h seen.found_it) seen.at_hand in
    let long : 1 ≤ length (v.bytes h.name) = (let same = sized.bytes h.name seen.at_hand in omega (arith, same, least)) in
    let may : (f : Filling) → may_have_heap (boundless f v) s ≡ true = λ f. may_be f v s h (sym (ap is_passed done)) bound writable in
    record {
      may = may;
      ready = ap (has_present_range is_writable v 0 1) bound ∙ all_three _ _ _ seen.at_hand writable (at_least 1 (length (v.bytes h.name)) long);
      names = λ f. subst (ArePresent v) (sym (heaped_at (boundless f v) s h (may f) bound)) (one_named v h.name seen.at_hand);
    }

is_alone : (n : ℕ) → is_in n (n ∷ []) ≡ true
is_alone n = grind arith

pub heap_missed : (v : View) (s : ℕ) (t : Selector) → is_null s ≡ false → is_for_writing (found v s) ≡ true → loaded.Miss t ≡ probe_of v DataReg (selector s) → IsHeapMissed v s t
heap_missed v s t some written miss =
    let u = miss_seen v s t some miss in
    let seen = u.seen in
    let h : Hold = seen.hold in
    let bound = found_bound v s h some seen.found_it in
    let writable : is_writable h.rights ≡ true = sym (ap is_for_writing seen.found_it) ∙ written in
    subst (λ (x : Selector). IsHeapMissed v s x) (sym u.same) (record {
      away = record { hold = h; found_it = seen.found_it; absent = seen.at_hand; whole = seen.whole };
      named = λ f. record {
        hold = h;
        found_it = seen.found_it;
        absent = seen.at_hand;
        whole = seen.whole;
        named = subst (λ (ns : List ℕ). is_in h.name ns ≡ true)
            (sym (heaped_at (boundless f v) s h (may_be f v s h (sym (ap is_passed miss)) bound writable) bound)) (is_alone h.name);
      };
    })

-- The bytes of a segment that was found good, as far as a heap may reach.

pub record IsHere (v : View) (s : ℕ) : Type 0 where
  pub hold : Hold
  pub bound : bound_in v.held s ≡ Some hold
  pub here : v.present hold.name ≡ true
  pub writable : is_writable hold.rights ≡ true
  pub some : 1 ≤ length (v.bytes hold.name)

pub first_and : (a b c : Bool) → (a && (b && c)) ≡ true → a ≡ true
first_and a b c e = grind arith

pub next_and : (a b c : Bool) → (a && (b && c)) ≡ true → b ≡ true
next_and a b c e = grind arith

pub last_and : (a b c : Bool) → (a && (b && c)) ≡ true → c ≡ true
last_and a b c e = grind arith

pub here_of : (v : View) (s : ℕ) → is_ready is_writable v s 0 1 ≡ true → IsHere v s
unfolding is_ready
here_of v s ready = go (bound_in v.held s) refl ready
  where
    go : (o : Option Hold) → bound_in v.held s ≡ o → has_present_range is_writable v 0 1 o ≡ true → IsHere v s
    go None is e = absurd (let z : false ≡ true = e in cc)
    go (Some h) is e = record {
      hold = h;
      bound = is;
      here = first_and (v.present h.name) (is_writable h.rights) (nat_le 1 (length (v.bytes h.name))) e;
      writable = next_and (v.present h.name) (is_writable h.rights) (nat_le 1 (length (v.bytes h.name))) e;
      some = le_of 1 (length (v.bytes h.name)) (last_and (v.present h.name) (is_writable h.rights) (nat_le 1 (length (v.bytes h.name))) e);
    }

found_of : (n : Bool) (o : Option Hold) (h : Hold) → cond n None o ≡ Some h → o ≡ Some h
found_of true o h e = absurd (let z : ◌≡◌ {A = Option Hold} None (Some h) = e in cc)
found_of false o h e = e

-- the first bytes are all of them where there are no more
pub take_cut : (xs : List ℕ) (n most : ℕ) → n ≤ most → (n < most → length xs ≤ n) → take n xs ≡ take most xs
take_cut [] zero zero le cut = refl
take_cut [] zero (suc m) le cut = refl
take_cut [] (suc n) zero le cut = refl
take_cut [] (suc n) (suc m) le cut = refl
take_cut (x ∷ xs) zero zero le cut = refl
take_cut (x ∷ xs) zero (suc m) le cut = absurd (let l = cut (omega arith) in omega (arith, l))
take_cut (x ∷ xs) (suc n) zero le cut = absurd (omega (arith, le))
take_cut (x ∷ xs) (suc n) (suc m) le cut = ap (λ (ys : List ℕ). x ∷ ys) (take_cut xs n m (omega (arith, le)) (λ less. let l = cut (omega (arith, less)) in omega (arith, l)))

readable_of : (a b c : Bool) → (a && b && c) ≡ true → (a && (b || c)) ≡ true
readable_of a b c e = grind arith

pub written_read : (rights : ℕ) → is_writable rights ≡ true → is_readable rights ≡ true
written_read rights e = readable_of (has_bit rights 4) (not (has_bit rights 3)) (has_bit rights 1) e

or_all : (z a b c : Bool) → a ≡ true → b ≡ true → c ≡ true → (z || (a && (b && c))) ≡ true
or_all true a b c e g h = refl
or_all false a b c e g h = all_three a b c e g h

not_none : (n : ℕ) → 1 ≤ n → (n == 0) ≡ false
not_none n some = grind arith

module _ (v : View) (s n : ℕ) (sized : IsSized v) (ready : is_ready is_writable v s 0 1 ≡ true) (is : n ≡ reach_of (size_at v s)) where
  abbrev x : IsHere v s
  x = here_of v s ready

  abbrev inside : List ℕ
  inside = v.bytes x.hold.name

  size_there : size_at v s ≡ Some (v.size x.hold.name)
  unfolding size_at
  size_there = ap (option_map (λ (h : Hold). v.size h.name)) (found_of (is_null s) (found v s) x.hold x.bound)

  is_min : n ≡ min (length inside) heap_most
  is_min = is ∙ ap reach_of size_there ∙ ap (λ (k : ℕ). min k heap_most) (sym (sized.bytes x.hold.name x.here))

  pub front_ready : is_ready is_readable v s 0 n ≡ true
  unfolding is_ready
  front_ready =
      ap (λ (o : Option Hold). (n == 0) || has_present_range is_readable v 0 n o) x.bound
      ∙ or_all (n == 0) _ _ _ x.here (written_read x.hold.rights x.writable) (at_least (0 + n) (length inside) (let m = is_min in omega (arith, m)))

  pub front_is : (f : Filling) → range_of v.held (whole f v).bytes s 0 n ≡ front_of f v s
  unfolding range_of
  front_is f =
      ap (λ (z : Bool). cond z [] (range_in (whole f v).bytes 0 n (bound_in v.held s))) (not_none n (let m = is_min in let l = x.some in omega (arith, m, l)))
      ∙ ap (range_in (whole f v).bytes 0 n) x.bound
      ∙ ap (λ (bs : List ℕ). take n bs) (whole_at f v x.hold x.here)
      ∙ take_cut inside n heap_most (let m = is_min in omega (arith, m)) (λ less. let m = is_min in omega (arith, m, less))
      ∙ ap (λ (bs : List ℕ). take heap_most bs) (sym (whole_at f v x.hold x.here))
      ∙ ap (range_in (whole f v).bytes 0 heap_most) (sym x.bound)

-- Words that are written one by one.

-- a word among the first bytes
word_into : (xs rest : List ℕ) (p lo hi : ℕ) → suc (suc p) ≤ length xs
    → (take p (xs ++ rest) ++ (lo ∷ hi ∷ []) ++ drop (suc (suc p)) (xs ++ rest)) ≡ slice_set (slice_set xs p lo) (suc p) hi ++ rest
word_into [] rest p lo hi e = absurd (omega (arith, e))
word_into (y ∷ []) rest zero lo hi e = absurd (omega (arith, e))
word_into (y ∷ z ∷ xs) rest zero lo hi e = refl
word_into (y ∷ xs) rest (suc p) lo hi e = ap (λ (ys : List ℕ). y ∷ ys) (word_into xs rest p lo hi (omega (arith, e)))

pub put_length : (xs : List ℕ) (w : ℕ × ℕ) → length (put_word xs w) ≡ length xs
unfolding put_word
put_length xs (p, w) = grind (arith, common_steps)

pub puts_length : (xs : List ℕ) (ws : List (ℕ × ℕ)) → length (put_words xs ws) ≡ length xs
puts_length xs [] = refl
puts_length xs (w ∷ ws) = puts_length (put_word xs w) ws ∙ put_length xs w

word_among : (bytes xs : List ℕ) (p w : ℕ) → p + 2 ≤ length xs → put_part (put_part bytes 0 xs) p (word_bytes w) ≡ put_part bytes 0 (put_word xs (p, w))
unfolding put_word
word_among bytes xs p w e =
    let rest : List ℕ = drop (0 + length xs) bytes in
    let two : p + 2 ≡ suc (suc p) = omega arith in
    let one : suc p ≡ p + 1 = omega arith in
    ap (λ (k : ℕ). take p (xs ++ rest) ++ (w % 256 ∷ w / 256 ∷ []) ++ drop k (xs ++ rest)) two
    ∙ word_into xs rest p (w % 256) (w / 256) (omega (arith, e))
    ∙ ap (λ (k : ℕ). slice_set (slice_set xs p (w % 256)) k (w / 256) ++ rest) one
    ∙ ap (λ (n : ℕ). slice_set (slice_set xs p (w % 256)) (p + 1) (w / 256) ++ drop (0 + n) bytes) (sym (put_length xs (p, w)))

pub word_put : (held : ℕ → Option Hold) (bytes : ℕ → List ℕ) (s : ℕ) (xs : List ℕ) (p w n : ℕ) → p + 2 ≤ length xs
    → put_at_pointer held (put_at_pointer held bytes s 0 xs) s p (word_bytes w) n ≡ put_at_pointer held bytes s 0 (put_word xs (p, w)) n
unfolding put_at_pointer
word_put held bytes s xs p w n e = go (bound_in held s)
  where
    at : (c : Bool) → cond c (put_part (cond c (put_part (bytes n) 0 xs) (bytes n)) p (word_bytes w)) (cond c (put_part (bytes n) 0 xs) (bytes n)) ≡ cond c (put_part (bytes n) 0 (put_word xs (p, w))) (bytes n)
    at true = word_among (bytes n) xs p w e
    at false = refl

    go : (h : Option Hold) → put_in (put_in bytes 0 xs h) p (word_bytes w) h n ≡ put_in bytes 0 (put_word xs (p, w)) h n
    go None = refl
    go (Some h) = at (n == h.name)

own_rest : (bytes : List ℕ) (k : ℕ) → (take k bytes ++ drop (length (take k bytes)) bytes) ≡ bytes
own_rest [] zero = refl
own_rest [] (suc k) = refl
own_rest (y ∷ ys) zero = refl
own_rest (y ∷ ys) (suc k) = ap (λ (zs : List ℕ). y ∷ zs) (own_rest ys k)

own_part : (bytes : List ℕ) (k : ℕ) → put_part bytes 0 (take k bytes) ≡ bytes
own_part bytes k =
    let same : 0 + length (take k bytes) ≡ length (take k bytes) = omega arith in
    ap (λ (n : ℕ). take k bytes ++ drop n bytes) same ∙ own_rest bytes k

-- the bytes of a front that is put where it was
pub own_put : (held : ℕ → Option Hold) (bytes : ℕ → List ℕ) (s most n : ℕ) → (most == 0) ≡ false → put_at_pointer held bytes s 0 (range_of held bytes s 0 most) n ≡ bytes n
unfolding put_at_pointer range_of
own_put held bytes s most n some = ap (λ (z : Bool). put_in bytes 0 (cond z [] (range_in bytes 0 most (bound_in held s))) (bound_in held s) n) some ∙ go (bound_in held s)
  where
    same_name : (m k : ℕ) → (m == k) ≡ true → m ≡ k
    same_name m k e = grind arith

    at : (h : Hold) (c : Bool) → (n == h.name) ≡ c → cond c (put_part (bytes n) 0 (take most (bytes h.name))) (bytes n) ≡ bytes n
    at h true e = ap (λ (m : ℕ). put_part (bytes n) 0 (take most (bytes m))) (sym (same_name n h.name e)) ∙ own_part (bytes n) most
    at h false e = refl

    go : (h : Option Hold) → put_in bytes 0 (range_in bytes 0 most h) h n ≡ bytes n
    go None = refl
    go (Some h) = at h (n == h.name) refl

-- a word within the front may be written
pub word_ready : (v : View) (s p : ℕ) → is_ready is_writable v s 0 1 ≡ true → ((f : Filling) → p + 2 ≤ length (front_of f v s)) → is_ready is_writable v s p 2 ≡ true
unfolding is_ready range_of
word_ready v s p ready within =
    let f : Filling = record { blocks = λ n. []; hidden = v.hidden } in
    let x = here_of v s ready in
    let front : front_of f v s ≡ take heap_most (v.bytes x.hold.name) =
    ap (range_in (whole f v).bytes 0 heap_most) x.bound ∙ ap (λ (bs : List ℕ). take heap_most bs) (whole_at f v x.hold x.here) in
    let long : p + 2 ≤ length (take heap_most (v.bytes x.hold.name)) = subst (λ (bs : List ℕ). p + 2 ≤ length bs) front (within f) in
    ap (has_present_range is_writable v p 2) x.bound
    ∙ all_three _ _ _ x.here x.writable (at_least (p + 2) (length (v.bytes x.hold.name)) (let l = take_less heap_most (v.bytes x.hold.name) in omega (arith, l, long)))
  where
    take_less : (n : ℕ) (xs : List ℕ) → length (take n xs) ≤ length xs
    take_less zero [] = omega arith
    take_less zero (x ∷ xs) = omega arith
    take_less (suc n) [] = omega arith
    take_less (suc n) (x ∷ xs) = let l = take_less n xs in omega (arith, l)

-- What a ruling answers.

-- the blocks begin within so many bytes
abbrev AreWithin : ℕ → List (ℕ × ℕ) → Type 0
AreWithin most [] = Unit {0}
AreWithin most ((at, len) ∷ bs) = (at ≤ most) × AreWithin most bs

block_within : (size low at len : ℕ) → is_block size low at len ≡ true → at ≤ size
unfolding is_block
block_within size low at len e = grind (arith, nat_tests)

link_within : (most at len : ℕ) (rest : Option (List (ℕ × ℕ))) (bs : List (ℕ × ℕ)) (end good : Bool) → (good ≡ true → at ≤ most)
    → ((cs : List (ℕ × ℕ)) → rest ≡ Some cs → AreWithin most cs)
    → cond end (Some []) (cond good (option_map (λ (cs : List (ℕ × ℕ)). (at, len) ∷ cs) rest) None) ≡ Some bs → AreWithin most bs
link_within most at len rest bs true good here later e = let same : [] ≡ bs = cc in subst (AreWithin most) same tt
link_within most at len (Some cs) bs false true here later e =
    let same : ((at, len) ∷ cs) ≡ bs = cc in subst (AreWithin most) same (here refl, later cs refl)
link_within most at len None bs false true here later e = absurd (let z : ◌≡◌ {A = Option (List (ℕ × ℕ))} None (Some bs) = e in cc)
link_within most at len rest bs false false here later e = absurd (let z : ◌≡◌ {A = Option (List (ℕ × ℕ))} None (Some bs) = e in cc)

chain_within : (n : ℕ) (bytes : List ℕ) (size low link : ℕ) (bs : List (ℕ × ℕ)) → chain_from n bytes size low link ≡ Some bs → AreWithin size bs
chain_within zero bytes size low link bs e = absurd (let z : ◌≡◌ {A = Option (List (ℕ × ℕ))} None (Some bs) = e in cc)
chain_within (suc n) bytes size low link bs e =
    let at = word bytes link in
    let len = word bytes (at + 2) in
    link_within size at len (chain_from n bytes size (at + len + 1) at) bs (at == 0) (is_block size low at len) (block_within size low at len)
    (chain_within n bytes size (at + len + 1) at) e

header_within : (bytes : List ℕ) → is_header bytes ≡ true → word bytes 2 ≤ length bytes
unfolding is_header
header_within bytes e = grind (arith, nat_tests)

more_within : (most more : ℕ) → most ≤ more → (bs : List (ℕ × ℕ)) → AreWithin most bs → AreWithin more bs
more_within most more le [] w = tt
more_within most more le ((at, len) ∷ bs) w = (omega (arith, le, w.0), more_within most more le bs w.1)

heap_within : (bytes : List ℕ) (h : Inside) → heap_of bytes ≡ Some h → AreWithin (length bytes) h.blocks
unfolding heap_of
heap_within bytes h e = go (is_header bytes) refl (chain_from (word bytes 2 / 4) bytes (word bytes 2) 8 4) refl e
  where
    go : (c : Bool) → is_header bytes ≡ c → (o : Option (List (ℕ × ℕ))) → chain_from (word bytes 2 / 4) bytes (word bytes 2) 8 4 ≡ o
        → cond c (option_map (λ (bs : List (ℕ × ℕ)). record { size = word bytes 2; blocks = bs }) o) None ≡ Some h → AreWithin (length bytes) h.blocks
    go true head (Some bs) is e =
        let same : ◌≡◌ {A = Inside} (record { size = word bytes 2; blocks = bs }) h = cc in
        subst (λ (k : Inside). AreWithin (length bytes) k.blocks) same
        (more_within (word bytes 2) (length bytes) (header_within bytes head) bs (chain_within (word bytes 2 / 4) bytes (word bytes 2) 8 4 bs is))
    go true head None is e = absurd (let z : ◌≡◌ {A = Option Inside} None (Some h) = e in cc)
    go false head o is e = absurd (let z : ◌≡◌ {A = Option Inside} None (Some h) = e in cc)

taken_within : (o : Option (ℕ × List (ℕ × ℕ))) (size most : ℕ) (bytes : List ℕ) → ((t : ℕ × List (ℕ × ℕ)) → o ≡ Some t → t.0 ≤ most) → (taken o size bytes).value ≤ most
unfolding taken
taken_within None size most bytes h = omega arith
taken_within (Some t) size most bytes h = h t refl

take_within : (most count : ℕ) (bs : List (ℕ × ℕ)) (t : ℕ × List (ℕ × ℕ)) → AreWithin most bs → take_from count bs ≡ Some t → t.0 ≤ most
take_within most count [] t w e = absurd (let z : ◌≡◌ {A = Option (ℕ × List (ℕ × ℕ))} None (Some t) = e in cc)
take_within most count ((at, len) ∷ bs) t w e = go (nat_le count len) (take_from count bs) (λ u is. take_within most count bs u w.1 is) e
  where
    go : (c : Bool) (o : Option (ℕ × List (ℕ × ℕ))) → ((u : ℕ × List (ℕ × ℕ)) → o ≡ Some u → u.0 ≤ most)
        → cond c (Some (at, (if count == len then bs else (at + count, len - count) ∷ bs))) (option_map (λ (u : ℕ × List (ℕ × ℕ)). (u.0, (at, len) ∷ u.1)) o) ≡ Some t → t.0 ≤ most
    go true o later e = let same : (at, (if count == len then bs else (at + count, len - count) ∷ bs)) ≡ t = cc in subst (λ (u : ℕ × List (ℕ × ℕ)). u.0 ≤ most) same w.0
    go false (Some u) later e = let same : (u.0, (at, len) ∷ u.1) ≡ t = cc in subst (λ (q : ℕ × List (ℕ × ℕ)). q.0 ≤ most) same (later u refl)
    go false None later e = absurd (let z : ◌≡◌ {A = Option (ℕ × List (ℕ × ℕ))} None (Some t) = e in cc)

taking_within : (o : Option Inside) (size most : ℕ) (bytes : List ℕ) → ((h : Inside) → o ≡ Some h → AreWithin most h.blocks) → (taking_of o size bytes).value ≤ most
unfolding taking_of
taking_within None size most bytes here = omega arith
taking_within (Some h) size most bytes here = go ((size == 0) || nat_lt (h.size - 8) size)
  where
    go : (c : Bool) → (cond c (refuses 313 bytes) (taken (take_from (rounded size) h.blocks) h.size bytes)).value ≤ most
    go true = omega arith
    go false = taken_within (take_from (rounded size) h.blocks) h.size most bytes (λ t is. take_within most (rounded size) h.blocks t (here h refl) is)

growing_none : (o : Option Inside) (size most : ℕ) (bytes : List ℕ) → (growing o size bytes).value ≤ most
unfolding growing
growing_none None size most bytes = omega arith
growing_none (Some h) size most bytes = go (nat_lt size h.size)
  where
    go : (c : Bool) → (cond c (refuses 310 bytes) (leaves 0 (grown h size) bytes)).value ≤ most
    go true = omega arith
    go false = omega arith

either_value : (c : Bool) (x y : HeapRuling) (most : ℕ) → x.value ≤ most → y.value ≤ most → (cond c x y).value ≤ most
either_value true x y most p q = p
either_value false x y most p q = q

setting_none : (flags size most : ℕ) (bytes : List ℕ) → (setting_up flags size bytes).value ≤ most
unfolding setting_up
setting_none flags size most bytes =
    either_value (nat_lt 1 flags) _ _ most (omega arith)
    (either_value (nat_lt (area_of size) 12 || nat_lt (length bytes) (area_of size)) _ _ most (omega arith)
    (either_value (flags == 1) _ _ most (omega arith) (growing_none (heap_of bytes) (area_of size) most bytes)))

giving_none : (offset size most : ℕ) (bytes : List ℕ) → (giving_back offset size bytes).value ≤ most
unfolding giving_back giving_back_to
giving_none offset size most bytes = go (heap_of bytes)
  where
    go : (o : Option Inside) → (giving_back_to o offset size bytes).value ≤ most
    go None = omega arith
    go (Some h) =
        either_value (is_outside size offset (rounded size) h.size) _ _ most (omega arith)
        (either_value (meets offset (offset + rounded size) h.blocks) _ _ most (omega arith) (omega arith))

-- what a call answers is an offset within the segment
pub value_within : (service : ℕ) (a : ℕ → ℕ) (bytes : List ℕ) → (ruling_by service a bytes).value ≤ length bytes
unfolding taking
value_within service a bytes =
    either_value (service == 20) _ _ (length bytes) (setting_none (a 1) (a 0) (length bytes) bytes)
    (either_value (service == 21) _ _ (length bytes) (taking_within (heap_of bytes) (a 0) (length bytes) bytes (heap_within bytes))
    (giving_none (a 1) (a 0) (length bytes) bytes))

-- A plan is the ruling of its call.

pub planned_is : (p : Plan) (r : HeapRuling) (bytes : List ℕ) → Plans p r bytes → planned p bytes ≡ r
planned_is p r bytes is =
    ap (λ (e : ℕ). record { error = e; value = p.answer.value; bytes = put_words bytes (words_of p) }) is.error
    ∙ ap (λ (x : ℕ). record { error = r.error; value = x; bytes = put_words bytes (words_of p) }) is.value
    ∙ ap (λ (bs : List ℕ). record { error = r.error; value = r.value; bytes = bs }) is.after

pub heap_done : (slots : List Slot) (b : Before) (r : HeapRuling) → r.error ≡ 0 → by_heap slots b r ≡ done_by slots b r
heap_done slots b r e = rw e refl

pub heap_fails : (slots : List Slot) (b : Before) (r : HeapRuling) → (r.error == 0) ≡ false → by_heap slots b r ≡ Fails r.error []
heap_fails slots b r e = rw e refl
