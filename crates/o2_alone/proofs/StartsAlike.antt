-- A process gets the same segments where it starts among others and where it starts alone, but for the numbers of their names.
use Rattle.std.proofs.Common.{◌≡◌, ◌≢◌, ◌⊎◌, inl, inr, refl, sym, ◌∙◌, ap, subst, ℕ, zero, suc, ◌+◌, ◌<◌, ◌≤◌, ◌==◌, ◌||◌, Bool, true, false, cond, List, [], ◌∷◌, ◌++◌, arith}
use Rattle.std.specs.Prelude.{Option, Some, None, option_map, is_some, nat_lt}
use Rattle.std.proofs.lemmas.Bool.{eq-eqb, eqb-true}
use Rattle.std.proofs.lemmas.Map.Keys.{IsDistinct-tail}
use Rattle.o2_world.specs.declared.types.Made.{Made}
use Rattle.o2_world.specs.Map.{Map, get}
use Rattle.o2_world.specs.World.{Segment, Held}
use Rattle.o2_world.specs.Opening.{held_by_load}
use Rattle.o2_world.specs.Starts.{Loaded, Holding, Built, segment_of, name_in, made_with, named, holds, holds_as, with_holding, with_holdings}
use Rattle.o2_world.proofs.HoldingMaps.{AreApart, indexes_of}
use Rattle.o2_world.proofs.Keeps.{some_is}
use Rattle.o2_world.proofs.OpeningSound.{AreFree, beside, free_head, free_tail}
use Rattle.o2_alone.specs.Renaming.{Renaming, renamed_held}
use Rattle.o2_alone.proofs.CommonSegments.{AreFrom, AreKept, IsFrom, IsLast, below_next, kept_named, made_comes, made_lives, made_split, made_stays, new_name, old_name}

-- a name is held under some index
pub record IsNamedIn (held : Map Held) (n : ℕ) : Type 0 where
  pub index : ℕ
  pub hold : Held
  pub there : get held index ≡ Some hold
  pub named : hold.name ≡ n

-- how many numbers below n pass a test
abbrev pub count_below : (ℕ → Bool) → ℕ → ℕ
count_below p zero = 0
count_below p (suc n) = count_below p n + cond (p n) 1 0

pub count_most : (p : ℕ → Bool) (n : ℕ) → count_below p n ≤ n
count_most p zero = omega arith
count_most p (suc n) = let ih = count_most p n in go (p n) ih
  where
    go : (b : Bool) → count_below p n ≤ n → count_below p n + cond b 1 0 ≤ suc n
    go true h = omega (arith, h)
    go false h = omega (arith, h)

-- with one number more that passes
abbrev pub or_this : ℕ → (ℕ → Bool) → ℕ → Bool
or_this m p k = (k == m) || p k

count_past : (p : ℕ → Bool) (m n : ℕ) → n ≤ m → count_below (or_this m p) n ≡ count_below p n
count_past p m zero low = refl
count_past p m (suc n) low =
    let ih = count_past p m n (omega (arith, low)) in
    let other : (n == m) ≡ false = grind arith in
    let same = ap {B = ℕ} (λ (b : Bool). cond (b || p n) 1 0) other in
    omega (arith, ih, same)

count_one : (p : ℕ → Bool) (m n : ℕ) → m < n → p m ≡ false → count_below (or_this m p) n ≡ count_below p n + 1
count_one p m zero low none_yet = absurd (omega (arith, low))
count_one p m (suc n) low none_yet = go (n == m) refl (λ lower. count_one p m n lower none_yet)
  where
    go : (b : Bool) → (n == m) ≡ b → (m < n → count_below (or_this m p) n ≡ count_below p n + 1) → count_below (or_this m p) n + cond ((n == m) || p n) 1 0 ≡ count_below p n + cond (p n) 1 0 + 1
    go true is rest =
        let same : n ≡ m = eqb-true n m is in
        let past = count_past p m n (omega (arith, same)) in
        let new = ap {B = ℕ} (λ (b : Bool). cond (b || p n) 1 0) is in
        let none = ap {B = ℕ} (λ (k : ℕ). cond (p k) 1 0) same ∙ ap {B = ℕ} (λ (b : Bool). cond b 1 0) none_yet in
        omega (arith, past, new, none)
    go false is rest =
        let other : n ≢ m = λ same. absurd (let no : true ≡ false = sym (eq-eqb n m same) ∙ is in cc) in
        let lower = smaller other in
        let ih = rest lower in
        let old = ap {B = ℕ} (λ (b : Bool). cond (b || p n) 1 0) is in
        omega (arith, ih, old)
      where
        smaller : n ≢ m → m < n
        smaller other = by_test (nat_lt m n) refl
          where
            by_test : (t : Bool) → nat_lt m n ≡ t → m < n
            by_test true is = grind arith
            by_test false is = absurd (other (let high : n ≤ m = grind arith in omega (arith, low, high)))

-- The names that both get, so far: `b` is among others, `c` alone. What is named in `c` is held there, and the common segments in `c` are
-- those in `b` that the process holds.
pub record ArePairs (f : Renaming) (b c : Built) : Type 0 where
  pub held : (i : ℕ) → get c.held i ≡ option_map (renamed_held f) (get b.held i)
  pub segment : (i : ℕ) (h : Held) → get b.held i ≡ Some h → get c.names (f h.name) ≡ get b.names h.name
  pub lives : (i : ℕ) (h : Held) → get b.held i ≡ Some h → is_some (get b.names h.name) ≡ true
  pub apart : (i j : ℕ) (g h : Held) → get b.held i ≡ Some g → get b.held j ≡ Some h → f g.name ≡ f h.name → g.name ≡ h.name
  pub made : (place number x : ℕ) → name_in c.made place number ≡ Some x → (m : ℕ) × (name_in b.made place number ≡ Some m) × (f m ≡ x) × IsNamedIn b.held m
  pub back : (place number m : ℕ) → name_in b.made place number ≡ Some m → IsNamedIn b.held m → name_in c.made place number ≡ Some (f m)
  pub names : (q : ℕ) → is_some (get c.names q) ≡ true → (m : ℕ) × IsNamedIn b.held m × (f m ≡ q)
  pub below : (q : ℕ) → is_some (get c.names q) ≡ true → q < c.next_name
  -- the names of the first that the process holds, as many as the second has
  pub spoken : ℕ → Bool
  pub truly : (n : ℕ) → spoken n ≡ true → IsNamedIn b.held n
  pub counted : c.next_name ≡ count_below spoken b.next_name

same_number : (n : ℕ) → (n == n) ≡ true
same_number n = eq-eqb n n refl

-- One name more.
abbrev pub updated : Renaming → (m x : ℕ) → Renaming
updated f m x n = cond (n == m) x (f n)

updated_new : (f : Renaming) (m x : ℕ) → updated f m x m ≡ x
updated_new f m x = ap (λ (t : Bool). cond t x (f m)) (same_number m)

updated_old : (f : Renaming) (m x n : ℕ) → n ≢ m → updated f m x n ≡ f n
updated_old f m x n other = go (n == m) refl
  where
    go : (t : Bool) → (n == m) ≡ t → cond t x (f n) ≡ f n
    go true is = absurd (other (eqb-true n m is))
    go false is = refl

put_first : (m : Map Held) (i : ℕ) (x : Held) → get ((i, x) ∷ m) i ≡ Some x
put_first m i x = ap (λ (t : Bool). cond t (Some x) (get m i)) (same_number i)

still_in : (m : Map Held) (i n : ℕ) (x : Held) → get m i ≡ None → IsNamedIn m n → IsNamedIn ((i, x) ∷ m) n
still_in m i n x fresh a = record { index = a.index; hold = a.hold; there = beside m i a.index x a.hold fresh a.there; named = a.named }

new_in : (m : Map Held) (i : ℕ) (x : Held) → IsNamedIn ((i, x) ∷ m) x.name
new_in m i x = record { index = i; hold = x; there = put_first m i x; named = refl }

-- what is held is what was, or the new one
was_in : (m : Map Held) (i j : ℕ) (x h : Held) → get ((i, x) ∷ m) j ≡ Some h → ((i ≡ j) × (x ≡ h)) ⊎ (get m j ≡ Some h)
was_in m i j x h e = go (i == j) refl e
  where
    go : (t : Bool) → (i == j) ≡ t → cond t (Some x) (get m j) ≡ Some h → ((i ≡ j) × (x ≡ h)) ⊎ (get m j ≡ Some h)
    go true is e = inl (eqb-true i j is, some_is x h (Some x) refl e)
    go false is e = inr e

named_was : (m : Map Held) (i n : ℕ) (x : Held) → IsNamedIn ((i, x) ∷ m) n → (x.name ≡ n) ⊎ IsNamedIn m n
named_was m i n x a = go (was_in m i a.index x a.hold a.there)
  where
    go : ((i ≡ a.index) × (x ≡ a.hold)) ⊎ (get m a.index ≡ Some a.hold) → (x.name ≡ n) ⊎ IsNamedIn m n
    go (inl same) = inl (ap (λ (h : Held). h.name) same.1 ∙ a.named)
    go (inr there) = inr (record { index = a.index; hold = a.hold; there = there; named = a.named })

-- Both get the segment under one index; alone it is a new name.
module _ (f : Renaming) (b c : Built) (h : Holding) (pairs : ArePairs f b c) (fresh : get b.held h.index ≡ None)
    (m : ℕ) (names : Map Segment) (next : ℕ) (made : List Made) (unheld : IsNamedIn b.held m → ⊥)
    (old : (q : ℕ) → is_some (get b.names q) ≡ true → get names q ≡ get b.names q) (there : get names m ≡ Some (segment_of h)) (more : c.next_name + 1 ≡ count_below (or_this m pairs.spoken) next) where
  abbrev g : Renaming
  g = updated f m c.next_name

  abbrev x : Held
  x = held_by_load m h.rights

  abbrev after : Map Held
  after = (h.index, x) ∷ b.held

  abbrev first : Built
  first = record b { names = names; next_name = next; made = made; held = after; selectors = (holds b h m).selectors }

  abbrev alone : Built
  alone = holds (named c h) h c.next_name

  g_old : (n : ℕ) → IsNamedIn b.held n → g n ≡ f n
  g_old n a = updated_old f m c.next_name n (λ is. unheld (subst (IsNamedIn b.held) is a))

  g_held : (i : ℕ) (k : Held) → get b.held i ≡ Some k → g k.name ≡ f k.name
  g_held i k e = g_old k.name (record { index = i; hold = k; there = e; named = refl })

  low_alone : (i : ℕ) (k : Held) → get b.held i ≡ Some k → f k.name < c.next_name
  low_alone i k e = pairs.below (f k.name) (ap (λ (o : Option Segment). is_some o) (pairs.segment i k e) ∙ pairs.lives i k e)

  new_held : (i : ℕ) → get alone.held i ≡ option_map (renamed_held g) (get after i)
  new_held i = go (h.index == i)
    where
      by_old : (o : Option Held) → ((k : Held) → o ≡ Some k → g k.name ≡ f k.name) → option_map (renamed_held f) o ≡ option_map (renamed_held g) o
      by_old None same = refl
      by_old (Some k) same = ap (λ (n : ℕ). Some (record k { name = n })) (sym (same k refl))

      go : (t : Bool) → cond t (Some (held_by_load c.next_name h.rights)) (get c.held i) ≡ option_map (renamed_held g) (cond t (Some x) (get b.held i))
      go true = ap (λ (n : ℕ). Some (held_by_load n h.rights)) (sym (updated_new f m c.next_name))
      go false = pairs.held i ∙ by_old (get b.held i) (g_held i)

  new_segment : (i : ℕ) (k : Held) → get after i ≡ Some k → get alone.names (g k.name) ≡ get names k.name
  new_segment i k e = go (was_in b.held h.index i x k e)
    where
      go : ((h.index ≡ i) × (x ≡ k)) ⊎ (get b.held i ≡ Some k) → get alone.names (g k.name) ≡ get names k.name
      go (inl same) =
          subst (λ (k : Held). get alone.names (g k.name) ≡ get names k.name) same.1
          (ap (λ (n : ℕ). get alone.names n) (updated_new f m c.next_name) ∙ (new_name c.names c.next_name (segment_of h) ∙ sym there))
      go (inr was) =
          ap (λ (n : ℕ). get alone.names n) (g_held i k was)
          ∙ (old_name c.names c.next_name (segment_of h) (f k.name) (low_alone i k was) ∙ (pairs.segment i k was ∙ sym (old k.name (pairs.lives i k was))))

  new_lives : (i : ℕ) (k : Held) → get after i ≡ Some k → is_some (get names k.name) ≡ true
  new_lives i k e = go (was_in b.held h.index i x k e)
    where
      go : ((h.index ≡ i) × (x ≡ k)) ⊎ (get b.held i ≡ Some k) → is_some (get names k.name) ≡ true
      go (inl same) = subst (λ (k : Held). is_some (get names k.name) ≡ true) same.1 (ap (λ (o : Option Segment). is_some o) there)
      go (inr was) = ap (λ (o : Option Segment). is_some o) (old k.name (pairs.lives i k was)) ∙ pairs.lives i k was

  new_apart : (i j : ℕ) (k l : Held) → get after i ≡ Some k → get after j ≡ Some l → g k.name ≡ g l.name → k.name ≡ l.name
  new_apart i j k l e u same = go (was_in b.held h.index i x k e) (was_in b.held h.index j x l u)
    where
      mixed : (j : ℕ) (l : Held) → get b.held j ≡ Some l → g m ≡ g l.name → ⊥
      mixed j l was is =
          let low = low_alone j l was in
          let one = updated_new f m c.next_name in
          let two = g_held j l was in
          omega (arith, low, one, two, is)

      go : ((h.index ≡ i) × (x ≡ k)) ⊎ (get b.held i ≡ Some k) → ((h.index ≡ j) × (x ≡ l)) ⊎ (get b.held j ≡ Some l) → k.name ≡ l.name
      go (inl a) (inl d) = ap (λ (k : Held). k.name) (sym a.1 ∙ d.1)
      go (inl a) (inr was) = absurd (mixed j l was (ap (λ (k : Held). g k.name) a.1 ∙ same))
      go (inr was) (inl d) = absurd (mixed i k was (ap (λ (k : Held). g k.name) d.1 ∙ sym same))
      go (inr was) (inr also) = pairs.apart i j k l was also (sym (g_held i k was) ∙ (same ∙ g_held j l also))

  new_names : (q : ℕ) → is_some (get alone.names q) ≡ true → (n : ℕ) × IsNamedIn after n × (g n ≡ q)
  new_names q e = go (c.next_name == q) refl e
    where
      go : (t : Bool) → (c.next_name == q) ≡ t → is_some (cond t (Some (segment_of h)) (get c.names q)) ≡ true → (n : ℕ) × IsNamedIn after n × (g n ≡ q)
      go true is e = (m, new_in b.held h.index x, updated_new f m c.next_name ∙ eqb-true c.next_name q is)
      go false is e =
          let was = pairs.names q e in
          (was.0, still_in b.held h.index was.0 x fresh was.1, g_old was.0 was.1 ∙ was.2)

  new_truly : (n : ℕ) → or_this m pairs.spoken n ≡ true → IsNamedIn after n
  new_truly n e = go (n == m) refl e
    where
      go : (t : Bool) → (n == m) ≡ t → (t || pairs.spoken n) ≡ true → IsNamedIn after n
      go true is e = subst (IsNamedIn after) (sym (eqb-true n m is)) (new_in b.held h.index x)
      go false is e = still_in b.held h.index n x fresh (pairs.truly n e)

  pub one_more : ((place number y : ℕ) → name_in alone.made place number ≡ Some y → (n : ℕ) × (name_in made place number ≡ Some n) × (g n ≡ y) × IsNamedIn after n)
      → ((place number n : ℕ) → name_in made place number ≡ Some n → IsNamedIn after n → name_in alone.made place number ≡ Some (g n)) → ArePairs g first alone
  one_more made_is back_is = record {
    held = new_held;
    segment = new_segment;
    lives = new_lives;
    apart = new_apart;
    made = made_is;
    back = back_is;
    names = new_names;
    below = below_next c.names c.next_name (segment_of h) pairs.below;
    spoken = or_this m pairs.spoken;
    truly = new_truly;
    counted = more;
  }

  -- what was made before
  pub old_made : (place number y : ℕ) → name_in c.made place number ≡ Some y → ((n : ℕ) → name_in b.made place number ≡ Some n → name_in made place number ≡ Some n)
      → (n : ℕ) × (name_in made place number ≡ Some n) × (g n ≡ y) × IsNamedIn after n
  old_made place number y e stays =
      let was = pairs.made place number y e in
      (was.0, stays was.0 was.1, g_old was.0 was.3 ∙ was.2, still_in b.held h.index was.0 x fresh was.3)

-- A segment that alone has already: both hold it under one index more.
module _ (f : Renaming) (b c : Built) (h : Holding) (pairs : ArePairs f b c) (fresh : get b.held h.index ≡ None) (m : ℕ) (is_in : IsNamedIn b.held m) where
  abbrev again : Held
  again = held_by_load m h.rights

  abbrev more_held : Map Held
  more_held = (h.index, again) ∷ b.held

  -- it stands for one that was held already
  as_before : (i : ℕ) (k : Held) → get more_held i ≡ Some k → (j : ℕ) × (l : Held) × (get b.held j ≡ Some l) × (l.name ≡ k.name)
  as_before i k e = go (was_in b.held h.index i again k e)
    where
      go : ((h.index ≡ i) × (again ≡ k)) ⊎ (get b.held i ≡ Some k) → (j : ℕ) × (l : Held) × (get b.held j ≡ Some l) × (l.name ≡ k.name)
      go (inl same) = (is_in.index, is_in.hold, is_in.there, is_in.named ∙ ap (λ (k : Held). k.name) same.1)
      go (inr was) = (i, k, was, refl)

  pub held_again : ArePairs f (holds b h m) (holds c h (f m))
  held_again = record {
    held = λ (i : ℕ). at_index (h.index == i) i;
    segment = λ (i : ℕ) (k : Held) e. let o = as_before i k e in subst (λ (n : ℕ). get c.names (f n) ≡ get b.names n) o.3 (pairs.segment o.0 o.1 o.2);
    lives = λ (i : ℕ) (k : Held) e. let o = as_before i k e in subst (λ (n : ℕ). is_some (get b.names n) ≡ true) o.3 (pairs.lives o.0 o.1 o.2);
    apart = λ (i j : ℕ) (k l : Held) e u same.
        let o = as_before i k e in
        let p = as_before j l u in
        sym o.3 ∙ (pairs.apart o.0 p.0 o.1 p.1 o.2 p.2 (ap f o.3 ∙ (same ∙ ap f (sym p.3))) ∙ p.3);
    made = λ place number y e. let was = pairs.made place number y e in (was.0, was.1, was.2, still_in b.held h.index was.0 again fresh was.3);
    back = λ place number n e a. pairs.back place number n e (was_named n a);
    names = λ q e. let was = pairs.names q e in (was.0, still_in b.held h.index was.0 again fresh was.1, was.2);
    below = pairs.below;
    spoken = pairs.spoken;
    truly = λ n e. still_in b.held h.index n again fresh (pairs.truly n e);
    counted = pairs.counted;
  }
    where
      at_index : (t : Bool) (i : ℕ) → cond t (Some (held_by_load (f m) h.rights)) (get c.held i) ≡ option_map (renamed_held f) (cond t (Some again) (get b.held i))
      at_index true i = refl
      at_index false i = pairs.held i

      was_named : (n : ℕ) → IsNamedIn more_held n → IsNamedIn b.held n
      was_named n a = go (named_was b.held h.index n again a)
        where
          go : (again.name ≡ n) ⊎ IsNamedIn b.held n → IsNamedIn b.held n
          go (inl same) = subst (IsNamedIn b.held) same is_in
          go (inr was) = was

-- One segment more.
pub record Alike (modules : ℕ → Loaded) (b c : Built) : Type 0 where
  pub names : Renaming
  pub pairs : ArePairs names b c
  pub kept : AreKept modules b.names b.next_name b.made

module _ (modules : ℕ → Loaded) (b c : Built) (h : Holding) (from : IsFrom modules h) (alike : Alike modules b c) (fresh : get b.held h.index ≡ None) where
  abbrev f : Renaming
  f = alike.names

  abbrev pairs : ArePairs f b c
  pairs = alike.pairs

  abbrev kept : AreKept modules b.names b.next_name b.made
  kept = alike.kept

  low : (n : ℕ) → IsNamedIn b.held n → n < b.next_name
  low n a = kept.below n (subst (λ (q : ℕ). is_some (get b.names q) ≡ true) a.named (pairs.lives a.index a.hold a.there))

  next_unheld : IsNamedIn b.held b.next_name → ⊥
  next_unheld a = let small = low b.next_name a in omega (arith, small)

  abbrev here : Made
  here = record { place = h.place; number = h.number; name = b.next_name }

  abbrev there : Made
  there = record { place = h.place; number = h.number; name = c.next_name }

  -- a name that the process doesn't hold isn't counted yet
  unspoken : (m : ℕ) → (IsNamedIn b.held m → ⊥) → pairs.spoken m ≡ false
  unspoken m unheld = go (pairs.spoken m) refl
    where
      go : (t : Bool) → pairs.spoken m ≡ t → t ≡ false
      go true e = absurd (unheld (pairs.truly m e))
      go false e = refl

  count_new : c.next_name + 1 ≡ count_below (or_this b.next_name pairs.spoken) (b.next_name + 1)
  count_new =
      let one = count_one pairs.spoken b.next_name (b.next_name + 1) (omega arith) (unspoken b.next_name next_unheld) in
      let all = pairs.counted in
      let last = count_after pairs.spoken b.next_name in
      let none = ap {B = ℕ} (λ (t : Bool). cond t 1 0) (unspoken b.next_name next_unheld) in
      omega (arith, one, all, last, none)
    where
      count_after : (p : ℕ → Bool) (n : ℕ) → count_below p (n + 1) ≡ count_below p n + cond (p n) 1 0
      count_after p n = ap (count_below p) (plus_one n)
        where
          plus_one : (n : ℕ) → n + 1 ≡ suc n
          plus_one n = omega arith

  -- new in both
  both_new : (h.common ≡ true → (name_in b.made h.place h.number ≡ None) × (name_in c.made h.place h.number ≡ None)) → Alike modules (holds (named b h) h b.next_name) (holds (named c h) h c.next_name)
  both_new none = record {
    names = updated f b.next_name c.next_name;
    pairs = one_more f b c h pairs fresh b.next_name ((b.next_name, segment_of h) ∷ b.names) (b.next_name + 1) (made_with b.made h b.next_name) next_unheld
        (λ q e. old_name b.names b.next_name (segment_of h) q (kept.below q e)) (new_name b.names b.next_name (segment_of h)) count_new made_is back_is;
    kept = kept_named modules b.names b.next_name b.made h from kept;
  }
    where
      g : Renaming
      g = updated f b.next_name c.next_name

      after : Map Held
      after = (h.index, held_by_load b.next_name h.rights) ∷ b.held

      old_is : (made : List Made) → ((place number n : ℕ) → name_in b.made place number ≡ Some n → name_in made place number ≡ Some n)
          → (place number y : ℕ) → name_in c.made place number ≡ Some y → (n : ℕ) × (name_in made place number ≡ Some n) × (g n ≡ y) × IsNamedIn after n
      old_is made stays place number y e =
          old_made f b c h pairs fresh b.next_name ((b.next_name, segment_of h) ∷ b.names) (b.next_name + 1) made next_unheld
          (λ q e. old_name b.names b.next_name (segment_of h) q (kept.below q e)) (new_name b.names b.next_name (segment_of h)) count_new
          place number y e (stays place number)

      back_old : (place number n : ℕ) → name_in b.made place number ≡ Some n → IsNamedIn after n → name_in c.made place number ≡ Some (g n)
      back_old place number n e a =
          let small = made_lives modules b.names b.next_name b.made kept place number n e in
          go small (named_was b.held h.index n (held_by_load b.next_name h.rights) a)
        where
          go : n < b.next_name → (b.next_name ≡ n) ⊎ IsNamedIn b.held n → name_in c.made place number ≡ Some (g n)
          go small (inl same) = absurd (omega (arith, small, same))
          go small (inr was) = pairs.back place number n e was ∙ ap (λ (i : ℕ). Some i) (sym (updated_old f b.next_name c.next_name n (λ is. omega (arith, small, is))))

      made_is : (place number y : ℕ) → name_in (made_with c.made h c.next_name) place number ≡ Some y → (n : ℕ) × (name_in (made_with b.made h b.next_name) place number ≡ Some n) × (g n ≡ y) × IsNamedIn after n
      made_is place number y = go h.common refl
        where
          go : (t : Bool) → h.common ≡ t → name_in (cond t (c.made ++ there ∷ []) c.made) place number ≡ Some y
              → (n : ℕ) × (name_in (cond t (b.made ++ here ∷ []) b.made) place number ≡ Some n) × (g n ≡ y) × IsNamedIn after n
          go false common e = old_is b.made (λ p k n u. u) place number y e
          go true common e = by_case (made_split c.made there place number y e)
            where
              by_case : (name_in c.made place number ≡ Some y) ⊎ IsLast there place number y → (n : ℕ) × (name_in (b.made ++ here ∷ []) place number ≡ Some n) × (g n ≡ y) × IsNamedIn after n
              by_case (inl old) = old_is (b.made ++ here ∷ []) (λ p k n u. made_stays b.made here p k n u) place number y old
              by_case (inr last) = (
                b.next_name,
                subst (λ (p : ℕ). name_in (b.made ++ here ∷ []) p number ≡ Some b.next_name) last.place_is
                    (subst (λ (k : ℕ). name_in (b.made ++ here ∷ []) h.place k ≡ Some b.next_name) last.number_is (made_comes b.made here (none common).0)),
                updated_new f b.next_name c.next_name ∙ last.name_is,
                new_in b.held h.index (held_by_load b.next_name h.rights),
              )

      back_is : (place number n : ℕ) → name_in (made_with b.made h b.next_name) place number ≡ Some n → IsNamedIn after n → name_in (made_with c.made h c.next_name) place number ≡ Some (g n)
      back_is place number n = go h.common refl
        where
          go : (t : Bool) → h.common ≡ t → name_in (cond t (b.made ++ here ∷ []) b.made) place number ≡ Some n → IsNamedIn after n → name_in (cond t (c.made ++ there ∷ []) c.made) place number ≡ Some (g n)
          go false common e a = back_old place number n e a
          go true common e a = by_case (made_split b.made here place number n e)
            where
              by_case : (name_in b.made place number ≡ Some n) ⊎ IsLast here place number n → name_in (c.made ++ there ∷ []) place number ≡ Some (g n)
              by_case (inl old) = made_stays c.made there place number (g n) (back_old place number n old a)
              by_case (inr last) =
                  subst (λ (p : ℕ). name_in (c.made ++ there ∷ []) p number ≡ Some (g n)) last.place_is
                  (subst (λ (k : ℕ). name_in (c.made ++ there ∷ []) h.place k ≡ Some (g n)) last.number_is
                  (made_comes c.made there (none common).1 ∙ ap (λ (i : ℕ). Some i) (sym (updated_new f b.next_name c.next_name) ∙ ap g last.name_is)))

  -- another process has it already, alone it is new
  found_here : (m : ℕ) → h.common ≡ true → name_in b.made h.place h.number ≡ Some m → name_in c.made h.place h.number ≡ None → Alike modules (holds b h m) (holds (named c h) h c.next_name)
  found_here m common is none = record {
    names = updated f m c.next_name;
    pairs = one_more f b c h pairs fresh m b.names b.next_name b.made unheld (λ q e. refl) (kept.made_of h.place h.number m is ∙ ap (λ (z : Segment). Some z) (from common)) more made_is back_is;
    kept = kept;
  }
    where
      g : Renaming
      g = updated f m c.next_name

      after : Map Held
      after = (h.index, held_by_load m h.rights) ∷ b.held

      unheld : IsNamedIn b.held m → ⊥
      unheld a = let found = pairs.back h.place h.number m is a in let no : ◌≡◌ {A = Option ℕ} None (Some (f m)) = sym none ∙ found in cc

      more : c.next_name + 1 ≡ count_below (or_this m pairs.spoken) b.next_name
      more =
          let one = count_one pairs.spoken m b.next_name (made_lives modules b.names b.next_name b.made kept h.place h.number m is) (unspoken m unheld) in
          let all = pairs.counted in
          omega (arith, one, all)

      made_is : (place number y : ℕ) → name_in (made_with c.made h c.next_name) place number ≡ Some y → (n : ℕ) × (name_in b.made place number ≡ Some n) × (g n ≡ y) × IsNamedIn after n
      made_is place number y = go h.common common
        where
          go : (t : Bool) → t ≡ true → name_in (cond t (c.made ++ there ∷ []) c.made) place number ≡ Some y → (n : ℕ) × (name_in b.made place number ≡ Some n) × (g n ≡ y) × IsNamedIn after n
          go false never e = cc
          go true always e = by_case (made_split c.made there place number y e)
            where
              by_case : (name_in c.made place number ≡ Some y) ⊎ IsLast there place number y → (n : ℕ) × (name_in b.made place number ≡ Some n) × (g n ≡ y) × IsNamedIn after n
              by_case (inl old) =
                  old_made f b c h pairs fresh m b.names b.next_name b.made unheld (λ q e. refl) (kept.made_of h.place h.number m is ∙ ap (λ (z : Segment). Some z) (from common)) more place number y old (λ n u. u)
              by_case (inr last) = (
                m,
                subst (λ (p : ℕ). name_in b.made p number ≡ Some m) last.place_is (subst (λ (k : ℕ). name_in b.made h.place k ≡ Some m) last.number_is is),
                updated_new f m c.next_name ∙ last.name_is,
                new_in b.held h.index (held_by_load m h.rights),
              )

      back_is : (place number n : ℕ) → name_in b.made place number ≡ Some n → IsNamedIn after n → name_in (made_with c.made h c.next_name) place number ≡ Some (g n)
      back_is place number n e a = go h.common common
        where
          by_case : (m ≡ n) ⊎ IsNamedIn b.held n → name_in (c.made ++ there ∷ []) place number ≡ Some (g n)
          by_case (inl same) =
              let pair = kept.apart h.place h.number place number m is (e ∙ ap (λ (i : ℕ). Some i) (sym same)) in
              subst (λ (p : ℕ). name_in (c.made ++ there ∷ []) p number ≡ Some (g n)) pair.0
              (subst (λ (k : ℕ). name_in (c.made ++ there ∷ []) h.place k ≡ Some (g n)) pair.1
              (made_comes c.made there none ∙ ap (λ (i : ℕ). Some i) (sym (updated_new f m c.next_name) ∙ ap g same)))
          by_case (inr was) = made_stays c.made there place number (g n)
              (pairs.back place number n e was ∙ ap (λ (i : ℕ). Some i) (sym (updated_old f m c.next_name n (λ same. unheld (subst (IsNamedIn b.held) same was)))))

          go : (t : Bool) → t ≡ true → name_in (cond t (c.made ++ there ∷ []) c.made) place number ≡ Some (g n)
          go false never = cc
          go true always = by_case (named_was b.held h.index n (held_by_load m h.rights) a)

  -- by what is found
  one_alike : Alike modules (with_holding b h) (with_holding c h)
  one_alike = go h.common refl
    where
      found : (x : Option ℕ) → h.common ≡ true → name_in c.made h.place h.number ≡ x → Alike modules (holds_as b h (name_in b.made h.place h.number)) (holds_as c h x)
      found (Some x) common e =
          let was = pairs.made h.place h.number x e in
          subst (λ (o : Option ℕ). Alike modules (holds_as b h o) (holds c h x)) (sym was.1)
          (subst (λ (y : ℕ). Alike modules (holds b h was.0) (holds c h y)) was.2 (record { names = f; pairs = held_again f b c h pairs fresh was.0 was.3; kept = kept }))
      found None common none = by_first (name_in b.made h.place h.number) refl
        where
          by_first : (y : Option ℕ) → name_in b.made h.place h.number ≡ y → Alike modules (holds_as b h y) (holds (named c h) h c.next_name)
          by_first None also = both_new (λ _. (also, none))
          by_first (Some m) is = found_here m common is none

      go : (t : Bool) → h.common ≡ t → Alike modules (holds_as b h (cond t (name_in b.made h.place h.number) None)) (holds_as c h (cond t (name_in c.made h.place h.number) None))
      go true common = found (name_in c.made h.place h.number) common refl
      go false own = both_new (λ common. absurd (let no : true ≡ false = sym common ∙ own in cc))

-- All segments of a process.
pub all_alike : (modules : ℕ → Loaded) (hs : List Holding) (b c : Built) → AreFrom modules hs → AreApart (indexes_of hs) → AreFree b.held hs → Alike modules b c
    → Alike modules (with_holdings b hs) (with_holdings c hs)
all_alike modules [] b c from apart free alike = alike
all_alike modules (h ∷ hs) b c from apart free alike =
    all_alike modules hs (with_holding b h) (with_holding c h) from.1 (IsDistinct-tail (λ i j. i == j) h.index (indexes_of hs) apart) (free_tail b h hs apart free)
    (one_alike modules b c h from.0 alike (free_head b h hs free))
