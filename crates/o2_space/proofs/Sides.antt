-- The room between two worlds is no less from behind, where what counts isn't discarded there, and grows with a name that is new.
use Rattle.std.proofs.Common.{◌≡◌, ◌⊎◌, inl, inr, ℕ, ◌+◌, ◌<◌, ◌≤◌, Bool, true, false, cond, not, ◌||◌, ◌&&◌, List, [], ◌∷◌, ◌++◌, length, map, Option, Some, None, is_some, option_map, ap, sym, ◌∙◌, refl, subst, arith, if◌then◌else◌}
use mathlib.Core.Path.{fun_ext}
use Rattle.std.specs.Prelude.{◌==◌, filter, max, sum}
use Rattle.std.proofs.lemmas.Bool.{false≢true, eqb-true}
use Rattle.std.proofs.lemmas.List.Sums.{sum_by-cons}
use Rattle.o2_entries.specs.declared.Entry.{Entry}
use Rattle.o2_entries.specs.Tables.{slot_at}
use Rattle.o2_place.specs.Layout.{over}
use Rattle.o2_place.proofs.Sums.{over-add, over-le}
use Rattle.o2_run.specs.Room.{is_in, is_locked, kept_size, larger, load_between, needs as takes, numbers, of_both, room_between, rounded as whole, size_of}
use Rattle.o2_segbus.proofs.Ages.{aged_key}
use Rattle.o2_segbus.specs.Seen.{key_of}
use Rattle.o2_store.specs.Shelf.{Shelf, entry}
use Rattle.o2_world.specs.Map.{Map, get}
use Rattle.o2_world.specs.World.{Process, Reserve, Segment}
use Rattle.o2_world.proofs.MapLemmas.{get-map}
use Rattle.o2_stands.specs.Parts.{Parts}
use Rattle.o2_stands.specs.Stands.{AreLawful, AreOnce, StandsIn}
use Rattle.o2_stands.specs.Sums.{counts, part_of}
use Rattle.o2_stands.proofs.Rooms.{found_at, names_sum}
use Rattle.o2_stands.proofs.Sums.{in_slot, is_number, pairs_sum, picked_sum, val}
use Rattle.o2_stepping.proofs.Named.{both_in, one_of, or_back, or_front}

-- Lists of names.

-- a sum over two lists, one behind the other
both_sum : (g : ℕ → ℕ) (c : ℕ → Bool) (xs ys : List ℕ) → sum (map g (filter c (xs ++ ys))) ≡ sum (map g (filter c xs)) + sum (map g (filter c ys))
both_sum g c [] ys = omega arith
both_sum g c (x ∷ xs) ys = go (c x) (both_sum g c xs ys)
  where
    go : (b : Bool) → sum (map g (filter c (xs ++ ys))) ≡ sum (map g (filter c xs)) + sum (map g (filter c ys))
        → sum (map g (cond b (x ∷ filter c (xs ++ ys)) (filter c (xs ++ ys)))) ≡ sum (map g (cond b (x ∷ filter c xs) (filter c xs))) + sum (map g (filter c ys))
    go false rest = rest
    go true rest =
        (let a = sum_by-cons (λ (n : ℕ). n) (g x) (map g (filter c xs)) in
        let b = sum_by-cons (λ (n : ℕ). n) (g x) (map g (filter c (xs ++ ys))) in
        omega (arith, a, b, rest))

filter_both : (c d : ℕ → Bool) (xs : List ℕ) → filter c (filter d xs) ≡ filter (λ (n : ℕ). d n && c n) xs
filter_both c d [] = refl
filter_both c d (x ∷ xs) = go (d x) (filter_both c d xs)
  where
    go : (b : Bool) → filter c (filter d xs) ≡ filter (λ (n : ℕ). d n && c n) xs
        → filter c (cond b (x ∷ filter d xs) (filter d xs)) ≡ cond (b && c x) (x ∷ filter (λ (n : ℕ). d n && c n) xs) (filter (λ (n : ℕ). d n && c n) xs)
    go false rest = rest
    go true rest = ap (λ (ys : List ℕ). cond (c x) (x ∷ ys) ys) rest

self : (n : ℕ) → (n == n) ≡ true
self n = grind arith

filter_all : (c : ℕ → Bool) (xs : List ℕ) → ((n : ℕ) → is_in n xs ≡ true → c n ≡ true) → filter c xs ≡ xs
filter_all c [] all = refl
filter_all c (x ∷ xs) all =
    ap (λ (b : Bool). cond b (x ∷ filter c xs) (filter c xs)) (all x (or_front (x == x) (is_in x xs) (self x)))
    ∙ ap (λ (ys : List ℕ). x ∷ ys) (filter_all c xs (λ n e. all n (or_back (x == n) (is_in n xs) e)))

-- a name of a list that passes a test is among those that pass, and weighs no more than these
in_filter : (d : ℕ → Bool) (n : ℕ) (ns : List ℕ) → d n ≡ true → is_in n ns ≡ true → is_in n (filter d ns) ≡ true
in_filter d n [] f e = absurd (false≢true e)
in_filter d n (y ∷ ys) f e = by (one_of (y == n) (is_in n ys) e) (in_filter d n ys f)
  where
    here : (b : Bool) → b ≡ true → (y == n) ≡ true → is_in n (cond b (y ∷ filter d ys) (filter d ys)) ≡ true
    here true g x = or_front (y == n) (is_in n (filter d ys)) x
    here false g x = absurd (false≢true g)

    there : (b : Bool) → is_in n (filter d ys) ≡ true → is_in n (cond b (y ∷ filter d ys) (filter d ys)) ≡ true
    there true g = or_back (y == n) (is_in n (filter d ys)) g
    there false g = g

    by : ((y == n) ≡ true) ⊎ (is_in n ys ≡ true) → (is_in n ys ≡ true → is_in n (filter d ys) ≡ true) → is_in n (cond (d y) (y ∷ filter d ys) (filter d ys)) ≡ true
    by (inl x) rest = here (d y) (ap d (eqb-true y n x) ∙ f) x
    by (inr x) rest = there (d y) (rest x)

one_sum : (g : ℕ → ℕ) (c : ℕ → Bool) (n : ℕ) (ns : List ℕ) → is_in n ns ≡ true → (if c n then g n else 0) ≤ sum (map g (filter c ns))
one_sum g c n [] e = absurd (false≢true e)
one_sum g c n (y ∷ ys) e = by (one_of (y == n) (is_in n ys) e) (one_sum g c n ys)
  where
    head : (b : Bool) → cond b (g y) 0 ≤ sum (map g (cond b (y ∷ filter c ys) (filter c ys)))
    head false = omega arith
    head true = (let a = sum_by-cons (λ (k : ℕ). k) (g y) (map g (filter c ys)) in omega (arith, a))

    tail : (b : Bool) → sum (map g (filter c ys)) ≤ sum (map g (cond b (y ∷ filter c ys) (filter c ys)))
    tail false = omega arith
    tail true = (let a = sum_by-cons (λ (k : ℕ). k) (g y) (map g (filter c ys)) in omega (arith, a))

    by : ((y == n) ≡ true) ⊎ (is_in n ys ≡ true) → (is_in n ys ≡ true → cond (c n) (g n) 0 ≤ sum (map g (filter c ys))) → cond (c n) (g n) 0 ≤ sum (map g (cond (c y) (y ∷ filter c ys) (filter c ys)))
    by (inl x) rest = subst (λ (k : ℕ). cond (c k) (g k) 0 ≤ sum (map g (cond (c y) (y ∷ filter c ys) (filter c ys)))) (eqb-true y n x) (head (c y))
    by (inr x) rest = (let a = rest x in let b = tail (c y) in omega (arith, a, b))

-- a number of a map is that of a pair
number_there : (m : Map Segment) (n : ℕ) → is_in n (numbers m) ≡ true → is_some (get m n) ≡ true
number_there [] n e = absurd (false≢true e)
number_there (x ∷ m) n e = go (x.0 == n) e (number_there m n)
  where
    go : (b : Bool) → (b || is_in n (numbers m)) ≡ true → (is_in n (numbers m) ≡ true → is_some (get m n) ≡ true) → is_some (cond b (Some x.1) (get m n)) ≡ true
    go true f rest = refl
    go false f rest = rest f

-- What a name takes is the same from either side.

same_counts : (old new : Map Segment) (list : List ℕ) (n : ℕ) → counts old new list n ≡ counts new old list n
same_counts old new list n = go (is_in n list) (is_locked (get old n)) (is_locked (get new n))
  where
    go : (a b d : Bool) → (a || (b || d)) ≡ (a || (d || b))
    go true b d = refl
    go false true true = refl
    go false true false = refl
    go false false true = refl
    go false false false = refl

-- a name takes no less from behind
part_by_tests : (a b : Bool) (n m : ℕ) → a ≡ b → (a ≡ true → n ≤ m) → (if a then n else 0) ≤ (if b then m else 0)
part_by_tests true true n m e f = f refl
part_by_tests true false n m e f = absurd (false≢true (sym e))
part_by_tests false true n m e f = absurd (false≢true e)
part_by_tests false false n m e f = omega arith

val_less : (a b : ℕ) (o : Option Segment) → a ≤ b → val (λ x. a) o ≤ val (λ x. b) o
val_less a b None l = omega arith
val_less a b (Some x) l = l

module _ (old new : Map Segment) (top : ℕ) (once : AreOnce old) (now : AreOnce new) (more : (n : ℕ) → is_some (get old n) ≡ true → is_some (get new n) ≡ true)
    (below : (n : ℕ) → is_some (get new n) ≡ true → n < top) (list : List ℕ) (less : (n : ℕ) → counts old new list n ≡ true → takes old new n ≤ takes new old n) where
  abbrev part : ℕ → ℕ
  part = part_of old new list

  abbrev beside : ℕ → Bool
  beside n = not (is_in n (numbers old))

  abbrev other : ℕ → ℕ
  other n = if beside n && counts old new list n then takes old new n else 0

  first : sum (map (takes old new) (filter (counts old new list) (numbers old))) ≡ over (λ n. val (λ x. part n) (get old n)) top
  first = picked_sum (takes old new) (counts old new list) old ∙ pairs_sum (λ n x. part n) old top once (λ n s. below n (more n s))

  second : sum (map (takes old new) (filter (counts old new list) (filter beside (numbers new)))) ≡ over (λ n. val (λ x. other n) (get new n)) top
  second =
      ap (λ (ns : List ℕ). sum (map (takes old new) ns)) (filter_both (counts old new list) beside (numbers new))
      ∙ (picked_sum (takes old new) (λ n. beside n && counts old new list n) new
      ∙ pairs_sum (λ n x. other n) new top now below)

  each : (n : ℕ) → val (λ x. part n) (get old n) + val (λ x. other n) (get new n) ≤ val (λ x. part n) (get new n)
  each n = go (get old n) refl (get new n) refl
    where
      none : is_in n (numbers old) ≡ true → other n ≡ 0
      none e = ap (λ (b : Bool). if not b && counts old new list n then takes old new n else 0) e

      fewer : (b c : Bool) → (if b && c then takes old new n else 0) ≤ (if c then takes old new n else 0)
      fewer true true = omega arith
      fewer true false = omega arith
      fewer false true = omega arith
      fewer false false = omega arith

      go : (o : Option Segment) → get old n ≡ o → (v : Option Segment) → get new n ≡ v → val (λ x. part n) o + val (λ x. other n) v ≤ val (λ x. part n) v
      go (Some x) e (Some y) f = (let z = none (is_number old n (ap is_some e)) in omega (arith, z))
      go (Some x) e None f = absurd (false≢true (sym (ap is_some f) ∙ more n (ap is_some e)))
      go None e (Some y) f = (let z = fewer (beside n) (counts old new list n) in omega (arith, z))
      go None e None f = omega arith

  -- where no name goes
  pub room_from_behind : room_between old new list ≤ room_between new old list
  room_from_behind =
      let a = both_sum (takes old new) (counts old new list) (numbers old) (filter beside (numbers new)) in
      let s = over-add (λ n. val (λ x. part n) (get old n)) (λ n. val (λ x. other n) (get new n)) top in
      let l = over-le (λ n. val (λ x. part n) (get old n) + val (λ x. other n) (get new n)) (λ n. val (λ x. part n) (get new n)) top (λ n b. each n) in
      let t = over-le (λ n. val (λ x. part n) (get new n)) (λ n. val (λ x. part_of new old list n) (get new n)) top
      (λ n b. val_less (part n) (part_of new old list n) (get new n)
      (part_by_tests (counts old new list n) (counts new old list n) (takes old new n) (takes new old n) (same_counts old new list n) (less n))) in
      let r = pairs_sum (λ n x. part_of new old list n) new top now below in
      let q = picked_sum (takes new old) (counts new old list) new in
      let f = both_sum (takes new old) (counts new old list) (numbers new) (filter (λ n. not (is_in n (numbers new))) (numbers old)) in
      let x = first in
      let y = second in
      omega (arith, a, x, y, s, l, t, r, q, f)

-- The names before a step, of which those that are discarded have no bytes: the room is the same.

abbrev pub emptied : Segment → Segment
emptied s = record s { bytes = if s.discarded then [] else s.bytes }

abbrev pub emptied_names : Map Segment → Map Segment
emptied_names names = map (λ (e : ℕ × Segment). (e.0, emptied e.1)) names

get_emptied : (names : Map Segment) (n : ℕ) → get (emptied_names names) n ≡ option_map emptied (get names n)
get_emptied names n = get-map (λ (k : ℕ) (s : Segment). emptied s) names n

emptied_some : (o : Option Segment) → is_some (option_map emptied o) ≡ is_some o
emptied_some None = refl
emptied_some (Some s) = refl

emptied_lock : (o : Option Segment) → is_locked (option_map emptied o) ≡ is_locked o
emptied_lock None = refl
emptied_lock (Some s) = refl

emptied_size : (o : Option Segment) → size_of (option_map emptied o) ≡ kept_size o
emptied_size None = refl
emptied_size (Some s) = go s.discarded
  where
    go : (b : Bool) → length (if b then [] else s.bytes) ≡ (if b then 0 else length s.bytes)
    go true = refl
    go false = refl

emptied_kept : (o : Option Segment) → kept_size (option_map emptied o) ≡ kept_size o
emptied_kept None = refl
emptied_kept (Some s) = go s.discarded
  where
    go : (b : Bool) → (if b then 0 else length (if b then [] else s.bytes)) ≡ (if b then 0 else length s.bytes)
    go true = refl
    go false = refl

pub some_emptied : (names : Map Segment) (n : ℕ) → is_some (get (emptied_names names) n) ≡ is_some (get names n)
some_emptied names n = ap is_some (get_emptied names n) ∙ emptied_some (get names n)

pub lock_emptied : (names : Map Segment) (n : ℕ) → is_locked (get (emptied_names names) n) ≡ is_locked (get names n)
lock_emptied names n = ap is_locked (get_emptied names n) ∙ emptied_lock (get names n)

pub size_emptied : (names : Map Segment) (n : ℕ) → size_of (get (emptied_names names) n) ≡ kept_size (get names n)
size_emptied names n = ap size_of (get_emptied names n) ∙ emptied_size (get names n)

numbers_emptied : (names : Map Segment) → numbers (emptied_names names) ≡ numbers names
numbers_emptied [] = refl
numbers_emptied (e ∷ es) = ap (λ (ns : List ℕ). e.0 ∷ ns) (numbers_emptied es)

none_emptied : (o : Option Segment) → o ≡ None → option_map emptied o ≡ None
none_emptied o none = ap (option_map emptied) none

pub once_emptied : (names : Map Segment) → AreOnce names → AreOnce (emptied_names names)
once_emptied [] once = once
once_emptied (e ∷ es) once = (get_emptied es e.0 ∙ none_emptied (get es e.0) once.0, once_emptied es once.1)

pub room_emptied : (old new : Map Segment) (list : List ℕ) → room_between (emptied_names old) new list ≡ room_between old new list
room_emptied old new list =
    let counted : counts (emptied_names old) new list ≡ counts old new list =
    fun_ext (λ n. ap (λ (b : Bool). is_in n list || (b || is_locked (get new n))) (lock_emptied old n)) in
    let taken : takes (emptied_names old) new ≡ takes old new =
    fun_ext (λ n. ap (λ (k : ℕ). whole (max k (size_of (get new n)))) (ap kept_size (get_emptied old n) ∙ emptied_kept (get old n))) in
    ap (λ (ns : List ℕ). sum (map (takes (emptied_names old) new) (filter (counts (emptied_names old) new list) (ns ++ filter (λ n. not (is_in n ns)) (numbers new))))) (numbers_emptied old)
    ∙ (ap (λ (c : ℕ → Bool). sum (map (takes (emptied_names old) new) (filter c (of_both old new)))) counted
    ∙ ap (λ (g : ℕ → ℕ). sum (map g (filter (counts old new list) (of_both old new)))) taken)

-- The same sum over the names that count, whatever each of them takes.

abbrev pub sum_by : (ℕ → ℕ) → Map Segment → Map Segment → List ℕ → ℕ
sum_by g old new list = sum (map g (filter (counts old new list) (of_both old new)))

abbrev pub part_by : (ℕ → ℕ) → Map Segment → Map Segment → List ℕ → ℕ → ℕ
part_by g old new list n = if counts old new list n then g n else 0

-- no number weighs more than its name takes
pub record WeighsLess (s : Shelf) (part weight : ℕ → ℕ) : Type 0 where
  pub none : (k : ℕ) → slot_at s.entries k ≡ None → weight k ≡ 0
  pub each : (n k : ℕ) → key_of s n ≡ Some k → weight k ≤ part n

-- All that lives before a step or behind it: all names count.

pub load_room : (old new : Map Segment) → sum_by (larger old new) old new (of_both old new) ≡ load_between old new
load_room old new =
    ap (λ (ns : List ℕ). sum (map (larger old new) ns))
    (filter_all (counts old new (of_both old new)) (of_both old new) (λ n e. or_front (is_in n (of_both old new)) (is_locked (get old n) || is_locked (get new n)) e))

pub in_old : (old new : Map Segment) (n : ℕ) → is_some (get old n) ≡ true → is_in n (of_both old new) ≡ true
in_old old new n s =
    let rest : List ℕ = filter (λ (k : ℕ). not (is_in k (numbers old))) (numbers new) in
    both_in n (numbers old) rest ∙ or_front (is_in n (numbers old)) (is_in n rest) (is_number old n s)

-- What weighs no more than the names take, with a name that is new.

module _ (p : Parts) (ps : List Process) (names : Map Segment) (next : ℕ) (reserved : List Reserve) (lawful : AreLawful p.shelf p.maps) (stands : StandsIn p ps names next reserved)
    (new : Map Segment) (list : List ℕ) (g weight : ℕ → ℕ) (least : WeighsLess p.shelf (part_by g names new list) weight) where
  abbrev s : Shelf
  s = p.shelf

  abbrev takes_by : ℕ → ℕ
  takes_by = part_by g names new list

  abbrev by_slot : ℕ → ℕ
  by_slot k = in_slot (λ j. takes_by (entry s j).age) k (slot_at s.entries k)

  slots : (k : ℕ) → weight k ≤ by_slot k
  slots k = go (slot_at s.entries k) refl
    where
      go : (o : Option Entry) → slot_at s.entries k ≡ o → weight k ≤ in_slot (λ j. takes_by (entry s j).age) k o
      go None q = (let z = least.none k q in omega (arith, z))
      go (Some e) q = least.each (entry s k).age k (aged_key s k stands.ready.aged (ap is_some q))

  olds : over weight (length s.entries) ≤ sum (map g (filter (counts names new list) (numbers names)))
  olds =
      let b = picked_sum g (counts names new list) names in
      let c = names_sum p ps names next reserved lawful stands (λ n x. takes_by n) (λ k. takes_by (entry s k).age) by_slot (λ n k x e is. ap takes_by (sym (found_at s n k e).1)) (λ k. refl) in
      let d = over-le weight by_slot (length s.entries) (λ k l. slots k) in
      omega (arith, b, c, d)

  fresh : (n : ℕ) → get names n ≡ None → not (is_in n (numbers names)) ≡ true
  fresh n none = go (is_in n (numbers names)) refl
    where
      go : (b : Bool) → is_in n (numbers names) ≡ b → not b ≡ true
      go true e = absurd (false≢true (sym (ap is_some none) ∙ number_there names n e))
      go false e = refl

  pub room_with_new : (n : ℕ) → get names n ≡ None → is_some (get new n) ≡ true → over weight (length s.entries) + takes_by n ≤ sum_by g names new list
  room_with_new n none some =
      let rest : List ℕ = filter (λ (k : ℕ). not (is_in k (numbers names))) (numbers new) in
      let a = both_sum g (counts names new list) (numbers names) rest in
      let o = olds in
      let m = one_sum g (counts names new list) n rest (in_filter (λ (k : ℕ). not (is_in k (numbers names))) n (numbers new) (fresh n none) (is_number new n some)) in
      omega (arith, a, o, m)

  pub room_without_new : over weight (length s.entries) ≤ sum_by g names new list
  room_without_new =
      let rest : List ℕ = filter (λ (k : ℕ). not (is_in k (numbers names))) (numbers new) in
      let a = both_sum g (counts names new list) (numbers names) rest in
      let o = olds in
      omega (arith, a, o)
