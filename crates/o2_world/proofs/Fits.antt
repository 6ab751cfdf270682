-- What a row writes fits behind its pointers: a value where the pointer is good, and a heap where it was read.
use Rattle.std.proofs.Common.{◌≡◌, ℕ, ◌+◌, ◌-◌, ◌≤◌, ◌==◌, ◌&&◌, ◌||◌, nat_le, Bool, true, false, List, [], ◌∷◌, length, Option, Some, None, ap, sym, subst, refl, arith}
use Rattle.std.specs.Prelude.{drop, take}
use Rattle.std.proofs.lemmas.Grind.{common_steps}
use Rattle.o2_isa.specs.View.{View, Hold, is_writable, bound_in}
use Rattle.o2_isa.specs.Pointers.{has_range, is_for_es, is_good, range_in, range_of}
use Rattle.o2_world.specs.declared.types.Slot.{Slot}
use Rattle.o2_world.specs.declared.types.Slot.TheVariants.{Word, Long, Reads, Writes, Text, ToWord, ToLong, ToWords, Heap}
use Rattle.o2_world.specs.CallParts.{Before, may_read, may_write}
use Rattle.o2_world.specs.SharedNames.{text_size}
use Rattle.o2_world.specs.Slots.{are_good, is_for_writing, may_have_heap, parts_in, pointers_in, targets_in, words_in}
use Rattle.o2_world.specs.Calls.{heap_bytes, heap_most}
use Rattle.o2_world.specs.RowLaws.{AreFitParts, fits_at}

both : (a b : Bool) → (a && b) ≡ true → (a ≡ true) × (b ≡ true)
both true b e = (refl, e)
both false b e = absurd (cc)

-- where a pointer is good its range can be written
good_fits : (v : View) (s offset count : ℕ) → may_write v s offset count ≡ true → fits_at v v.bytes s offset count ≡ true
unfolding is_good
good_fits v s offset count e = e

-- fewer bytes than the pointer is good for
fewer_range : (f : ℕ → List ℕ) (ok : ℕ → Bool) (offset n m : ℕ) (o : Option Hold) → n ≤ m → has_range f ok offset m o ≡ true
    → has_range f ok offset n o ≡ true
fewer_range f ok offset n m None h e = e
fewer_range f ok offset n m (Some x) h e = go (ok x.rights) e
  where
    go : (b : Bool) → (b && nat_le (offset + m) (length (f x.name))) ≡ true → (b && nat_le (offset + n) (length (f x.name))) ≡ true
    go true e = grind arith
    go false e = e

pub fewer_fit : (v : View) (f : ℕ → List ℕ) (s offset n m : ℕ) → n ≤ m → fits_at v f s offset m ≡ true
    → fits_at v f s offset n ≡ true
fewer_fit v f s offset n m h e = go (m == 0) (n == 0) (is_for_es v s) (λ z. zero_by n m h z) e
  where
    zero_by : (n m : ℕ) → n ≤ m → (m == 0) ≡ true → (n == 0) ≡ true
    zero_by n m h z = grind arith

    go : (y x w : Bool) → (y ≡ true → x ≡ true) → (y || (w && has_range f is_writable offset m (bound_in v.held s))) ≡ true
        → (x || (w && has_range f is_writable offset n (bound_in v.held s))) ≡ true
    go true x w z e = ap (λ (t : Bool). t || (w && has_range f is_writable offset n (bound_in v.held s))) (z refl)
    go false true w z e = refl
    go false false true z e = fewer_range f is_writable offset n m (bound_in v.held s) h e
    go false false false z e = absurd (cc)

-- A value fits behind its pointers.

pub first_fits : (v : View) (ss : List Slot) (a : ℕ → ℕ) (count : ℕ) → (let n = words_in ss in (may_write v (a (n + 1)) (a n) count && are_good v (pointers_in ss v a)) ≡ true)
    → (let n = words_in ss in fits_at v v.bytes (a (n + 1)) (a n) count ≡ true) × (are_good v (pointers_in ss v a) ≡ true)
first_fits v ss a count good =
    let n = words_in ss in
    let parts = both (may_write v (a (n + 1)) (a n) count) (are_good v (pointers_in ss v a)) good in
    (good_fits v (a (n + 1)) (a n) count parts.0, parts.1)

-- behind a pointer that is read
pub rest_good : (v : View) (ss : List Slot) (a : ℕ → ℕ) (count : ℕ) → (let n = words_in ss in (may_read v (a (n + 1)) (a n) count && are_good v (pointers_in ss v a)) ≡ true)
    → are_good v (pointers_in ss v a) ≡ true
rest_good v ss a count good = let n = words_in ss in (both (may_read v (a (n + 1)) (a n) count) (are_good v (pointers_in ss v a)) good).1

-- each pointer that is for writing is one behind which the value goes
abbrev is_of_value : Slot → Bool
is_of_value Word = true
is_of_value Long = true
is_of_value Reads = true
is_of_value Writes = false
is_of_value Text = true
is_of_value ToWord = true
is_of_value ToLong = true
is_of_value (ToWords count) = false
is_of_value Heap = false

abbrev pub are_of_value : List Slot → Bool
are_of_value [] = true
are_of_value (s ∷ ss) = is_of_value s && are_of_value ss

pub value_fits : (v : View) (ss : List Slot) (a : ℕ → ℕ) (value : ℕ) → are_of_value ss ≡ true → are_good v (pointers_in ss v a) ≡ true
    → AreFitParts v v.bytes (targets_in ss a) (parts_in ss value)
value_fits v [] a value e good = tt
value_fits v (Word ∷ ss) a value e good = value_fits v ss a value e good
value_fits v (Long ∷ ss) a value e good = value_fits v ss a value e good
value_fits v (Reads ∷ ss) a value e good = value_fits v ss a value e (rest_good v ss a (a (words_in ss - 1)) good)
value_fits v (Writes ∷ ss) a value e good = absurd (cc)
value_fits v (Text ∷ ss) a value e good = let n = words_in ss in value_fits v ss a value e (rest_good v ss a (text_size v (a (n + 1)) (a n)) good)
value_fits v (ToWord ∷ ss) a value e good = let h = first_fits v ss a 2 good in (h.0, value_fits v ss a value e h.1)
value_fits v (ToLong ∷ ss) a value e good = let h = first_fits v ss a 4 good in (h.0, value_fits v ss a value e h.1)
value_fits v (ToWords count ∷ ss) a value e good = absurd (cc)
value_fits v (Heap ∷ ss) a value e good = absurd (cc)

-- A heap fits where it was read.

no_more : (n : ℕ) (xs : List ℕ) → length (take n (drop 0 xs)) ≤ length xs
no_more n xs = grind (arith, common_steps)

read_fits : (f : ℕ → List ℕ) (n : ℕ) (o : Option Hold) → is_for_writing o ≡ true → has_range f is_writable 0 (length (range_in f 0 n o)) o ≡ true
read_fits f n None e = e
read_fits f n (Some h) e = go (is_writable h.rights) (no_more n (f h.name)) e
  where
    go : (w : Bool) → length (take n (drop 0 (f h.name))) ≤ length (f h.name) → w ≡ true
        → (w && nat_le (0 + length (take n (drop 0 (f h.name)))) (length (f h.name))) ≡ true
    go true few e = grind arith
    go false few e = e

or_right : (a b c : Bool) → b ≡ true → c ≡ true → (a || (b && c)) ≡ true
or_right true b c e f = refl
or_right false true c e f = f
or_right false false c e f = absurd (cc)

pub heap_fits : (b : Before) (s : ℕ) (part : List ℕ) → may_have_heap b.view s ≡ true → length part ≡ length (heap_bytes b s)
    → fits_at b.view b.view.bytes s 0 (length part) ≡ true
unfolding range_of
heap_fits b s part good same =
    let here = both (is_for_es b.view s) (is_for_writing (bound_in b.view.held s)) good in
    let there = or_right (length (heap_bytes b s) == 0) (is_for_es b.view s) _ here.0 (read_fits b.view.bytes heap_most (bound_in b.view.held s) here.1) in
    subst (λ (n : ℕ). fits_at b.view b.view.bytes s 0 n ≡ true) (sym same) there
