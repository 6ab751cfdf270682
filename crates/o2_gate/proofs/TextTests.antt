-- What the test of a pointer to a text tells, by that of its first byte.
use Rattle.std.proofs.Common.{◌≡◌, ℕ, zero, suc, ◌+◌, ◌-◌, ◌<◌, ◌≤◌, ◌++◌, ◌==◌, ◌&&◌, ◌||◌, Bool, true, false, cond, min, nat_le, List, [], ◌∷◌, length, take, drop, Option, Some, None, option_map, ap, sym, ◌∙◌, refl, subst, arith}
use Rattle.std.proofs.lemmas.Bool.Decides.{nat_tests}
use Rattle.std.proofs.lemmas.List.{append-nil, drop_all, length-drop, take-append-drop}
use Rattle.o2_base.specs.declared.selector.Selector.{Selector}
use Rattle.o2_isa.specs.View.{Filling, Hold, View, whole, bound_in, found, is_null, is_readable, size_at}
use Rattle.o2_isa.specs.Sizes.{IsSized}
use Rattle.o2_isa.specs.Pointers.{has_present_range, has_range, is_for_es, is_good, is_ready, range_in, range_of}
use Rattle.o2_isa.specs.Presence.{IsMissed}
use Rattle.o2_world.specs.SharedNames.{before_zero, bytes_at, bytes_from, looked_at, text_size}
use Rattle.o2_run.specs.Room.{passed, pointed}
use Rattle.o2_gate.specs.Befores.{boundless}
use Rattle.o2_gate.specs.Pointed.{ArePresent, IsBadTest, IsGoodTest, IsMissedTest, only, pointer, text_pointer}
use Rattle.o2_gate.specs.Given.{IsRead}
use Rattle.o2_gate.specs.Texts.{IsCutOff, IsTextOf, counted}

-- some bytes of a text are looked at, whatever it is
pub size_some : (n : ℕ) (xs : List ℕ) → 0 < n → 1 ≤ looked_at n xs
size_some zero xs some = absurd (omega (arith, some))
size_some (suc n) [] some = omega arith
size_some (suc n) (x ∷ xs) some = go (x == 0)
  where
    go : (b : Bool) → 1 ≤ cond b 1 (suc (looked_at n xs))
    go true = omega arith
    go false = omega arith

-- The names behind a pointer don't depend on how many bytes it is for, once it is for some.

count_some : (n : ℕ) → 1 ≤ n → (n == 0) ≡ false
count_some n some = grind arith

same_names : (w : View) (s o n m : ℕ) → 1 ≤ n → 1 ≤ m → pointed w (pointer false s o n ∷ []) ≡ pointed w (pointer false s o m ∷ [])
same_names w s o n m a b = counts (n == 0) (m == 0) (count_some n a) (count_some m b) (holds (bound_in w.held s))
  where
    none_behind : (x y : Bool) (h : Hold) → (h.name ∷ cond {A = List ℕ} x [] []) ≡ (h.name ∷ cond {A = List ℕ} y [] [])
    none_behind true true h = refl
    none_behind true false h = refl
    none_behind false true h = refl
    none_behind false false h = refl

    holds : (h : Option Hold) → passed w h (pointer false s o n) [] ≡ passed w h (pointer false s o m) []
    holds None = refl
    holds (Some h) =
        ap (λ (ns : List ℕ). cond (is_for_es w s) ns [])
        (none_behind (is_readable h.rights && nat_le (o + n) (length (w.bytes h.name))) (is_readable h.rights && nat_le (o + m) (length (w.bytes h.name))) h)

    counts : (x y : Bool) → x ≡ false → y ≡ false → passed w (bound_in w.held s) (pointer false s o n) [] ≡ passed w (bound_in w.held s) (pointer false s o m) []
        → cond x [] (passed w (bound_in w.held s) (pointer false s o n) []) ≡ cond y [] (passed w (bound_in w.held s) (pointer false s o m) [])
    counts true y a b e = absurd (cc)
    counts false true a b e = absurd (cc)
    counts false false a b e = e

-- A pointer for more bytes is no better.

within : (o n m l : ℕ) → n ≤ m → nat_le (o + m) l ≡ true → nat_le (o + n) l ≡ true
within o n m l less e = grind (arith, nat_tests)

part_good : (a b : Bool) (o n m l : ℕ) → n ≤ m → (a && (b && nat_le (o + m) l)) ≡ true → (a && (b && nat_le (o + n) l)) ≡ true
part_good true true o n m l less e = within o n m l less e
part_good true false o n m l less e = absurd (let z : false ≡ true = e in cc)
part_good false b o n m l less e = absurd (let z : false ≡ true = e in cc)

part_bad : (b c : Bool) → (b ≡ true → c ≡ true) → c ≡ false → b ≡ false
part_bad true c f e = absurd (let z : true ≡ false = sym (f refl) ∙ e in cc)
part_bad false c f e = refl

module _ (w : View) (s o n m : ℕ) (some : 1 ≤ n) (less : n ≤ m) where
  good_less : is_good is_readable w s o m ≡ true → is_good is_readable w s o n ≡ true
  unfolding is_good
  good_less e = by_count (n == 0) (m == 0) (count_some n some) (count_some m (omega (arith, some, less))) (bound_in w.held s) e
    where
      by_hold : (h : Option Hold) → (is_for_es w s && has_range w.bytes is_readable o m h) ≡ true → (is_for_es w s && has_range w.bytes is_readable o n h) ≡ true
      by_hold None e = e
      by_hold (Some h) e = part_good (is_for_es w s) (is_readable h.rights) o n m (length (w.bytes h.name)) less e

      by_count : (x y : Bool) → x ≡ false → y ≡ false → (h : Option Hold) → (y || (is_for_es w s && has_range w.bytes is_readable o m h)) ≡ true → (x || (is_for_es w s && has_range w.bytes is_readable o n h)) ≡ true
      by_count true y a b h e = refl
      by_count false true a b h e = absurd (cc)
      by_count false false a b h e = by_hold h e

  ready_less : is_ready is_readable w s o m ≡ true → is_ready is_readable w s o n ≡ true
  unfolding is_ready
  ready_less e = by_count (n == 0) (m == 0) (count_some n some) (count_some m (omega (arith, some, less))) (bound_in w.held s) e
    where
      by_hold : (h : Option Hold) → has_present_range is_readable w o m h ≡ true → has_present_range is_readable w o n h ≡ true
      by_hold None e = e
      by_hold (Some h) e = part_good (w.present h.name) (is_readable h.rights) o n m (length (w.bytes h.name)) less e

      by_count : (x y : Bool) → x ≡ false → y ≡ false → (h : Option Hold) → (y || has_present_range is_readable w o m h) ≡ true → (x || has_present_range is_readable w o n h) ≡ true
      by_count true y a b h e = refl
      by_count false true a b h e = absurd (cc)
      by_count false false a b h e = by_hold h e

plain : (b : Bool) → (b && true) ≡ true → b ≡ true
plain true e = refl
plain false e = absurd (let z : false ≡ true = e in cc)

plain_not : (b : Bool) → (b && true) ≡ false → b ≡ false
plain_not true e = absurd (let z : true ≡ false = e in cc)
plain_not false e = refl

not_with_true : (b : Bool) → b ≡ false → (b && true) ≡ false
not_with_true b e = grind arith

with_true : (b : Bool) → b ≡ true → (b && true) ≡ true
with_true true e = refl
with_true false e = absurd (let z : false ≡ true = e in cc)

-- What the test of one byte tells of the text.
module _ (v : View) (s o : ℕ) where
  size_is_some : (f : Filling) → 1 ≤ text_size (boundless f v) s o
  size_is_some f = size_some 129 (bytes_at (boundless f v) s o) (omega arith)

  pub text_bad : IsBadTest v (only (pointer false s o 1)) → IsBadTest v (text_pointer s o)
  text_bad x = record {
    good = λ f.
        not_with_true _ (part_bad (is_good is_readable (boundless f v) s o (text_size (boundless f v) s o)) (is_good is_readable (boundless f v) s o 1)
        (good_less (boundless f v) s o 1 (text_size (boundless f v) s o) (omega arith) (size_is_some f)) (plain_not (is_good is_readable (boundless f v) s o 1) (x.good f)));
    names = λ f. subst (ArePresent v) (same_names (boundless f v) s o 1 (text_size (boundless f v) s o) (omega arith) (size_is_some f)) (x.names f);
  }

  pub text_missed : (sel : Selector) → IsMissedTest v sel (only (pointer false s o 1)) → IsMissedTest v sel (text_pointer s o)
  text_missed sel x = record {
    away = x.away;
    missed = λ f. subst (IsMissed v sel) (same_names (boundless f v) s o 1 (text_size (boundless f v) s o) (omega arith) (size_is_some f)) (x.missed f);
  }

  -- what is behind it, where its first byte is there
  pub record IsThere (size : ℕ) : Type 0 where
    pub hold : Hold
    pub bound : bound_in v.held s ≡ Some hold
    pub here : v.present hold.name ≡ true
    pub long : length (v.bytes hold.name) ≡ size
    pub size_is : size_at v s ≡ Some size
    pub inside : o < size
    pub readable : is_readable hold.rights ≡ true

  parts_of : (a b c : Bool) → (a && (b && c)) ≡ true → (a ≡ true) × (b ≡ true) × (c ≡ true)
  parts_of true true true e = (refl, refl, refl)
  parts_of true true false e = absurd (let z : false ≡ true = e in cc)
  parts_of true false c e = absurd (let z : false ≡ true = e in cc)
  parts_of false b c e = absurd (let z : false ≡ true = e in cc)

  below : (l : ℕ) → nat_le (o + 1) l ≡ true → o < l
  below l e = grind (arith, nat_tests)

  found_at : (n : Bool) (q : Option Hold) (h : Hold) → cond n None q ≡ Some h → q ≡ Some h
  found_at true q h e = absurd (cc)
  found_at false q h e = e

  there_by : IsSized v → (q : Option Hold) → bound_in v.held s ≡ q → has_present_range is_readable v o 1 q ≡ true → (size : ℕ) × IsThere size
  unfolding size_at
  there_by sized None is e = absurd (let z : false ≡ true = e in cc)
  there_by sized (Some h) is e =
      let p = parts_of (v.present h.name) (is_readable h.rights) (nat_le (o + 1) (length (v.bytes h.name))) e in (
        length (v.bytes h.name),
        record {
          hold = h;
          bound = is;
          here = p.0;
          long = refl;
          size_is = ap (option_map (λ (x : Hold). v.size x.name)) (found_at (is_null s) (found v s) h is) ∙ ap Some (sym (sized.bytes h.name p.0));
          inside = below (length (v.bytes h.name)) p.2;
          readable = p.1;
        },
      )

  pub there : IsSized v → IsGoodTest v (only (pointer false s o 1)) → (size : ℕ) × IsThere size
  unfolding is_ready
  there sized x = there_by sized (bound_in v.held s) refl (plain (has_present_range is_readable v o 1 (bound_in v.held s)) (x.ready (record { blocks = λ n. []; hidden = v.hidden })))

  module _ (size : ℕ) (x : IsThere size) where
    many : ℕ
    many = min (size - o) 129

    pub count_is : counted (size_at v s) o ≡ min (size - o) 129
    count_is = ap (λ (q : Option ℕ). counted q o) x.size_is

    at_most : (l n : ℕ) → o + n ≤ l → nat_le (o + n) l ≡ true
    at_most l n e = grind (arith, nat_tests)

    pub ready_there : (n : ℕ) → 1 ≤ n → o + n ≤ size → is_ready is_readable v s o n ≡ true
    unfolding is_ready
    ready_there n some fits =
        subst (λ (q : Option Hold). ((n == 0) || has_present_range is_readable v o n q) ≡ true) (sym x.bound)
        (all (n == 0) (v.present x.hold.name) (is_readable x.hold.rights) (nat_le (o + n) (length (v.bytes x.hold.name))) x.here x.readable (at_most (length (v.bytes x.hold.name)) n (let l = x.long in omega (arith, l, fits))))
      where
        all : (z a b c : Bool) → a ≡ true → b ≡ true → c ≡ true → (z || (a && (b && c))) ≡ true
        all true a b c p q r = refl
        all false true true true p q r = refl
        all false true true false p q r = absurd (cc)
        all false true false c p q r = absurd (cc)
        all false false b c p q r = absurd (cc)

    bytes_here : (f : Filling) → (boundless f v).bytes x.hold.name ≡ v.bytes x.hold.name
    bytes_here f = ap (λ (b : Bool). cond b (v.bytes x.hold.name) (v.hidden.away x.hold.name f.blocks)) x.here

    behind : (f : Filling) → bytes_at (boundless f v) s o ≡ drop o (v.bytes x.hold.name)
    unfolding bytes_at
    behind f = ap (bytes_from (boundless f v).bytes o) x.bound ∙ ap (drop o) (bytes_here f)

    -- the bytes of a range are the first ones of those
    module _ (n : ℕ) (part : List ℕ) (some : 1 ≤ n) (is : (f : Filling) → part ≡ range_of v.held (boundless f v).bytes s o n) where
      range_here : (f : Filling) → part ≡ take n (drop o (v.bytes x.hold.name))
      unfolding range_of
      range_here f =
          is f
          ∙ ap (λ (z : Bool). cond z [] (range_in (boundless f v).bytes o n (bound_in v.held s))) (count_some n some)
          ∙ ap (range_in (boundless f v).bytes o n) x.bound
          ∙ ap (λ (bs : List ℕ). take n (drop o bs)) (bytes_here f)

      parted : (xs : List ℕ) → xs ≡ take n xs ++ drop n xs
      parted xs = sym (take-append-drop n xs)

      pub front : (f : Filling) → bytes_at (boundless f v) s o ≡ part ++ drop n (drop o (v.bytes x.hold.name))
      front f = behind f ∙ parted (drop o (v.bytes x.hold.name)) ∙ ap (λ (ys : List ℕ). ys ++ drop n (drop o (v.bytes x.hold.name))) (sym (range_here f))

      pub text_read : (t : List ℕ) → length part ≡ n → IsTextOf part t → IsGoodTest v (only (pointer false s o 1)) → o + n ≤ size → IsRead v s o (record { bytes = t })
      unfolding is_good
      text_read t long is_text good fits = record {
        text = λ f. ap (λ (bs : List ℕ). before_zero (take 129 bs)) (front f) ∙ is_text.text_is (drop n (drop o (v.bytes x.hold.name)));
        size = text_long;
        test = record {
          good = λ f. with_true _ (subst (λ (k : ℕ). is_good is_readable (boundless f v) s o k ≡ true) (sym (text_long f)) (good_there f));
          ready = λ f.
              with_true _ (subst (λ (k : ℕ). is_ready is_readable v s o k ≡ true) (sym (text_long f))
              (ready_there (looked_at 129 t) (size_some 129 t (omega arith)) (let l = is_text.fits in omega (arith, l, long, fits))));
          names = λ f. subst (ArePresent v) (same_names (boundless f v) s o 1 (text_size (boundless f v) s o) (omega arith) (size_is_some f)) (good.names f);
        };
      }
        where
          text_long : (f : Filling) → text_size (boundless f v) s o ≡ looked_at 129 t
          text_long f = ap (looked_at 129) (front f) ∙ is_text.size_is (drop n (drop o (v.bytes x.hold.name)))

          all : (z a b c : Bool) → (z || (a && (b && true))) ≡ true → z ≡ false → c ≡ true → (z || (a && (b && c))) ≡ true
          all z a b c p q r = grind arith

          es_there : (f : Filling) → (is_for_es (boundless f v) s ≡ true)
          es_there f = (parts_of (is_for_es (boundless f v) s) (is_readable x.hold.rights) (nat_le (o + 1) (length ((boundless f v).bytes x.hold.name)))
              (subst (λ (q : Option Hold). (is_for_es (boundless f v) s && has_range (boundless f v).bytes is_readable o 1 q) ≡ true) x.bound (plain (is_for_es (boundless f v) s && has_range (boundless f v).bytes is_readable o 1 (bound_in v.held s)) (good.good f)))).0

          good_there : (f : Filling) → is_good is_readable (boundless f v) s o (looked_at 129 t) ≡ true
          good_there f =
              subst (λ (q : Option Hold). ((looked_at 129 t == 0) || (is_for_es (boundless f v) s && has_range (boundless f v).bytes is_readable o (looked_at 129 t) q)) ≡ true) (sym x.bound)
              (holds (looked_at 129 t == 0) (is_for_es (boundless f v) s) (is_readable x.hold.rights) (nat_le (o + looked_at 129 t) (length ((boundless f v).bytes x.hold.name))) (es_there f) x.readable
              (at_most (length ((boundless f v).bytes x.hold.name)) (looked_at 129 t) (let l = is_text.fits in let a = ap length (bytes_here f) in let b = x.long in omega (arith, l, a, b, long, fits))))
            where
              holds : (z a b c : Bool) → a ≡ true → b ≡ true → c ≡ true → (z || (a && (b && c))) ≡ true
              holds true a b c p q r = refl
              holds false true true true p q r = refl
              holds false true true false p q r = absurd (cc)
              holds false true false c p q r = absurd (cc)
              holds false false b c p q r = absurd (cc)

      -- there are fewer bytes than are looked at
      pub text_cut : IsCutOff part → length part ≡ n → n ≡ min (size - o) 129 → IsGoodTest v (only (pointer false s o 1)) → IsBadTest v (text_pointer s o)
      unfolding is_good
      text_cut cut long count good = record {
        good = λ f. not_with_true _ (none_good f);
        names = λ f. subst (ArePresent v) (same_names (boundless f v) s o 1 (text_size (boundless f v) s o) (omega arith) (size_is_some f)) (good.names f);
      }
        where
          few : n ≡ size - o
          few = (let a = cut.few in omega (arith, a, long, count))

          rest_none : drop n (drop o (v.bytes x.hold.name)) ≡ []
          rest_none = none (drop o (v.bytes x.hold.name)) (let l = x.long in let d = length-drop o (v.bytes x.hold.name) in omega (arith, l, d, few))
            where
              none : (xs : List ℕ) → length xs ≤ n → drop n xs ≡ []
              none xs l = drop_all n xs l

          whole_size : (f : Filling) → text_size (boundless f v) s o ≡ 129
          whole_size f = ap (looked_at 129) (front f ∙ ap (λ (ys : List ℕ). part ++ ys) rest_none ∙ ends part) ∙ cut.size_is
            where
              ends : (zs : List ℕ) → (zs ++ []) ≡ zs
              ends zs = append-nil zs

          beyond : (l k : ℕ) → l < o + k → nat_le (o + k) l ≡ false
          beyond l k e = grind (arith, nat_tests)

          none_good : (f : Filling) → is_good is_readable (boundless f v) s o (text_size (boundless f v) s o) ≡ false
          none_good f =
              subst (λ (k : ℕ). ((k == 0) || (is_for_es (boundless f v) s && has_range (boundless f v).bytes is_readable o k (bound_in v.held s))) ≡ false) (sym (whole_size f))
              (subst (λ (q : Option Hold). (is_for_es (boundless f v) s && has_range (boundless f v).bytes is_readable o 129 q) ≡ false) (sym x.bound)
              (last (is_for_es (boundless f v) s) (is_readable x.hold.rights) (nat_le (o + 129) (length ((boundless f v).bytes x.hold.name)))
              (beyond (length ((boundless f v).bytes x.hold.name)) 129 (let a = ap length (bytes_here f) in let b = x.long in let c = cut.few in omega (arith, a, b, c, long, few)))))
            where
              last : (a b c : Bool) → c ≡ false → (a && (b && c)) ≡ false
              last true true c e = e
              last true false c e = refl
              last false b c e = refl

-- The text behind a pointer, over a bus that shows this view as before.
module _ (v u : View) (s o n : ℕ) (same : u ≡ v) (sized : IsSized v) (good : IsGoodTest v (only (pointer false s o 1))) (count : n ≡ counted (size_at u s) o) where
  abbrev whole_size : ℕ
  whole_size = (there v s o sized good).0

  abbrev is_there : IsThere v s o whole_size
  is_there = (there v s o sized good).1

  count_min : n ≡ min (whole_size - o) 129
  count_min = count ∙ ap (λ (w : View). counted (size_at w s) o) same ∙ count_is v s o whole_size is_there

  count_one : 1 ≤ n
  count_one = (let a = count_min in let b = is_there.inside in omega (arith, a, b))

  count_fits : o + n ≤ whole_size
  count_fits = (let a = count_min in let b = is_there.inside in omega (arith, a, b))

  pub range_ready : is_ready is_readable u s o n ≡ true
  range_ready = subst (λ (w : View). is_ready is_readable w s o n ≡ true) (sym same) (ready_there v s o whole_size is_there n count_one count_fits)

  module _ (part : List ℕ) (is : (f : Filling) → part ≡ range_of u.held (whole f u).bytes s o n) (long : length part ≡ n) where
    is_old : (f : Filling) → part ≡ range_of v.held (boundless f v).bytes s o n
    is_old f = is f ∙ ap (λ (w : View). range_of w.held (whole f w).bytes s o n) same

    pub some_read : (t : List ℕ) → IsTextOf part t → IsRead v s o (record { bytes = t })
    some_read t text = text_read v s o whole_size is_there n part count_one is_old t long text good count_fits

    pub none_read : IsCutOff part → IsBadTest v (text_pointer s o)
    none_read cut = text_cut v s o whole_size is_there n part count_one is_old cut long count_min good
