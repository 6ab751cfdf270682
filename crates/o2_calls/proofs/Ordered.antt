-- Lines in order: those that rise stay as they are, and what comes first among lines that a number tells doesn't matter.
use Rattle.std.proofs.Common.{◌≡◌, ℕ, zero, suc, ◌+◌, ◌<◌, ◌≤◌, nat_le, Bool, true, false, cond, List, [], ◌∷◌, ◌++◌, ap, sym, ◌∙◌, refl, arith}
use Rattle.std.specs.Prelude.{flat_map, replicate, ◌==◌, if◌then◌else◌}
use Rattle.o2_world.specs.Changes.{among, in_order, key_of}
use Rattle.o2_world.specs.Rulings.{indexes}
use Rattle.o2_world.specs.World.{Line}

-- Lines whose numbers rise from one bound to another.

abbrev pub Rise : (low high : ℕ) → List Line → Type 0
Rise low high [] = low ≤ high
Rise low high (l ∷ ls) = (low ≤ key_of l) × Rise (key_of l) high ls

pub rise_low : (low lower high : ℕ) (ls : List Line) → lower ≤ low → Rise low high ls → Rise lower high ls
rise_low low lower high [] less rise = omega (arith, less, rise)
rise_low low lower high (l ∷ ls) less rise = (let b = rise.0 in omega (arith, less, b), rise.1)

pub rise_high : (low high higher : ℕ) (ls : List Line) → high ≤ higher → Rise low high ls → Rise low higher ls
rise_high low high higher [] less rise = omega (arith, less, rise)
rise_high low high higher (l ∷ ls) less rise = (rise.0, rise_high (key_of l) high higher ls less rise.1)

pub rise_append : (low middle high : ℕ) (xs ys : List Line) → Rise low middle xs → Rise middle high ys → Rise low high (xs ++ ys)
rise_append low middle high [] ys front back = rise_low middle low high ys front back
rise_append low middle high (x ∷ xs) ys front back = (front.0, rise_append (key_of x) middle high xs ys front.1 back)

pub rise_times : (low high n : ℕ) (l : Line) → low ≤ key_of l → key_of l ≤ high → Rise low high (replicate n l)
rise_times low high zero l a b = omega (arith, a, b)
rise_times low high (suc n) l a b = (a, rise_times (key_of l) high n l (omega arith) b)

le_is : (a b : ℕ) → a ≤ b → nat_le a b ≡ true
le_is a b e = grind arith

le_of : (a b : ℕ) → nat_le a b ≡ true → a ≤ b
le_of a b e = grind arith

more_of : (a b : ℕ) → nat_le a b ≡ false → b < a
more_of a b e = grind arith

more_is : (a b : ℕ) → b < a → nat_le a b ≡ false
more_is a b e = grind arith

pub in_order_still : (low high : ℕ) (ls : List Line) → Rise low high ls → in_order ls ≡ ls
in_order_still low high [] rise = refl
in_order_still low high (l ∷ []) rise = refl
in_order_still low high (l ∷ k ∷ ls) rise =
    ap (among l) (in_order_still (key_of l) high (k ∷ ls) rise.1)
    ∙ ap (λ (b : Bool). cond b (l ∷ k ∷ ls) (k ∷ among l ls)) (le_is (key_of l) (key_of k) rise.1.0)

-- Lines put among others one by one, the last one first.

abbrev pub all_among : List Line → List Line → List Line
all_among [] ls = ls
all_among (x ∷ xs) ls = among x (all_among xs ls)

pub among_append : (xs ys ls : List Line) → all_among (xs ++ ys) ls ≡ all_among xs (all_among ys ls)
among_append [] ys ls = refl
among_append (x ∷ xs) ys ls = ap (among x) (among_append xs ys ls)

pub in_order_among : (xs : List Line) → in_order xs ≡ all_among xs []
in_order_among [] = refl
in_order_among (x ∷ xs) = ap (among x) (in_order_among xs)

-- Each is the line of its number.
module _ (line : ℕ → Line) where
  abbrev pub AreBy : List Line → Type 0
  AreBy [] = Unit {0}
  AreBy (l ∷ ls) = (l ≡ line (key_of l)) × AreBy ls

  pub by_append : (xs ys : List Line) → AreBy xs → AreBy ys → AreBy (xs ++ ys)
  by_append [] ys front back = back
  by_append (x ∷ xs) ys front back = (front.0, by_append xs ys front.1 back)

  pub by_times : (n : ℕ) (l : Line) → l ≡ line (key_of l) → AreBy (replicate n l)
  by_times zero l is = tt
  by_times (suc n) l is = (is, by_times n l is)

  pub by_each : {X : Type 0} (f : X → List Line) (xs : List X) → ((x : X) → AreBy (f x)) → AreBy (flat_map f xs)
  by_each f [] each = tt
  by_each f (x ∷ xs) each = by_append (f x) (flat_map f xs) (each x) (by_each f xs each)

  two : (x y : Line) (ls : List Line) → x ≡ line (key_of x) → y ≡ line (key_of y)
      → cond (nat_le (key_of x) (key_of y)) (x ∷ y ∷ ls) (y ∷ x ∷ ls) ≡ cond (nat_le (key_of y) (key_of x)) (y ∷ x ∷ ls) (x ∷ y ∷ ls)
  two x y ls p q = go (nat_le (key_of x) (key_of y)) refl (nat_le (key_of y) (key_of x)) refl
    where
      both : key_of x ≡ key_of y → ◌≡◌ {A = List Line} (x ∷ y ∷ ls) (y ∷ x ∷ ls)
      both e = let same : x ≡ y = p ∙ (ap line e ∙ sym q) in cc

      go : (a : Bool) → nat_le (key_of x) (key_of y) ≡ a → (b : Bool) → nat_le (key_of y) (key_of x) ≡ b → cond a (x ∷ y ∷ ls) (y ∷ x ∷ ls) ≡ cond b (y ∷ x ∷ ls) (x ∷ y ∷ ls)
      go true a true b = both (let c = le_of (key_of x) (key_of y) a in let d = le_of (key_of y) (key_of x) b in omega (arith, c, d))
      go true a false b = refl
      go false a true b = refl
      go false a false b = absurd (let c = more_of (key_of x) (key_of y) a in let d = more_of (key_of y) (key_of x) b in omega (arith, c, d))

  among_swap : (x y : Line) (ls : List Line) → x ≡ line (key_of x) → y ≡ line (key_of y) → among x (among y ls) ≡ among y (among x ls)
  among_swap x y [] p q = two x y [] p q
  among_swap x y (z ∷ zs) p q = go (nat_le (key_of x) (key_of z)) refl (nat_le (key_of y) (key_of z)) refl (among_swap x y zs p q)
    where
      a : Bool
      a = nat_le (key_of x) (key_of z)

      b : Bool
      b = nat_le (key_of y) (key_of z)

      go : (s : Bool) → a ≡ s → (t : Bool) → b ≡ t → among x (among y zs) ≡ among y (among x zs)
          → among x (cond t (y ∷ z ∷ zs) (z ∷ among y zs)) ≡ among y (cond s (x ∷ z ∷ zs) (z ∷ among x zs))
      go true s true t ih =
          ap (λ (ls : List Line). cond (nat_le (key_of x) (key_of y)) (x ∷ y ∷ z ∷ zs) (y ∷ ls)) (ap (λ (u : Bool). cond u (x ∷ z ∷ zs) (z ∷ among x zs)) s)
          ∙ (two x y (z ∷ zs) p q
          ∙ sym (ap (λ (ls : List Line). cond (nat_le (key_of y) (key_of x)) (y ∷ x ∷ z ∷ zs) (x ∷ ls)) (ap (λ (u : Bool). cond u (y ∷ z ∷ zs) (z ∷ among y zs)) t)))
      go true s false t ih =
          let low = le_of (key_of x) (key_of z) s in
          let high = more_of (key_of y) (key_of z) t in
          let over : nat_le (key_of y) (key_of x) ≡ false = more_is (key_of y) (key_of x) (omega (arith, low, high)) in
          ap (λ (u : Bool). cond u (x ∷ z ∷ among y zs) (z ∷ among x (among y zs))) s
          ∙ sym (ap (λ (u : Bool). cond u (y ∷ x ∷ z ∷ zs) (x ∷ cond (nat_le (key_of y) (key_of z)) (y ∷ z ∷ zs) (z ∷ among y zs))) over
          ∙ ap (λ (u : Bool). x ∷ cond u (y ∷ z ∷ zs) (z ∷ among y zs)) t)
      go false s true t ih =
          let low = le_of (key_of y) (key_of z) t in
          let high = more_of (key_of x) (key_of z) s in
          let over : nat_le (key_of x) (key_of y) ≡ false = more_is (key_of x) (key_of y) (omega (arith, low, high)) in
          ap (λ (u : Bool). cond u (x ∷ y ∷ z ∷ zs) (y ∷ cond (nat_le (key_of x) (key_of z)) (x ∷ z ∷ zs) (z ∷ among x zs))) over
          ∙ (ap (λ (u : Bool). y ∷ cond u (x ∷ z ∷ zs) (z ∷ among x zs)) s
          ∙ sym (ap (λ (u : Bool). cond u (y ∷ z ∷ among x zs) (z ∷ among y (among x zs))) t))
      go false s false t ih =
          ap (λ (u : Bool). cond u (x ∷ z ∷ among y zs) (z ∷ among x (among y zs))) s
          ∙ (ap (λ (ls : List Line). z ∷ ls) ih
          ∙ sym (ap (λ (u : Bool). cond u (y ∷ z ∷ among x zs) (z ∷ among y (among x zs))) t))

  one_past : (x : Line) (ys ls : List Line) → x ≡ line (key_of x) → AreBy ys → among x (all_among ys ls) ≡ all_among ys (among x ls)
  one_past x [] ls is by = refl
  one_past x (y ∷ ys) ls is by = among_swap x y (all_among ys ls) is by.0 ∙ ap (among y) (one_past x ys ls is by.1)

  pub all_past : (xs ys ls : List Line) → AreBy xs → AreBy ys → all_among xs (all_among ys ls) ≡ all_among ys (all_among xs ls)
  all_past [] ys ls p q = refl
  all_past (x ∷ xs) ys ls p q = ap (among x) (all_past xs ys ls p.1 q) ∙ one_past x ys (all_among xs ls) p.0 q

  -- what each gives in two parts
  in_parts : {X : Type 0} (f g : X → List Line) (xs : List X) (ls : List Line) → ((x : X) → AreBy (f x)) → ((x : X) → AreBy (g x))
      → all_among (flat_map (λ (x : X). f x ++ g x) xs) ls ≡ all_among (flat_map f xs) (all_among (flat_map g xs) ls)
  in_parts f g [] ls p q = refl
  in_parts {X} f g (x ∷ xs) ls p q =
      let rest : List Line = flat_map (λ (y : X). f y ++ g y) xs in
      among_append (f x ++ g x) rest ls
      ∙ (among_append (f x) (g x) (all_among rest ls)
      ∙ (ap (λ (ks : List Line). all_among (f x) (all_among (g x) ks)) (in_parts f g xs ls p q)
      ∙ (ap (all_among (f x)) (all_past (g x) (flat_map f xs) (all_among (flat_map g xs) ls) (q x) (by_each f xs p))
      ∙ (sym (among_append (f x) (flat_map f xs) (all_among (g x) (all_among (flat_map g xs) ls)))
      ∙ ap (all_among (f x ++ flat_map f xs)) (sym (among_append (g x) (flat_map g xs) ls))))))

  nothing : {X : Type 0} (xs : List X) (ls : List Line) → all_among (flat_map (λ (x : X). []) xs) ls ≡ ls
  nothing [] ls = refl
  nothing (x ∷ xs) ls = nothing xs ls

  -- by the one and then by the other, either way
  abbrev pub AreEachBy : {X Y : Type 0} → (X → Y → List Line) → List X → Type 0
  AreEachBy f [] = Unit {0}
  AreEachBy {X} {Y} f (x ∷ xs) = ((y : Y) → AreBy (f x y)) × AreEachBy f xs

  by_turned : {X Y : Type 0} (f : X → Y → List Line) (xs : List X) → AreEachBy f xs → (y : Y) → AreBy (flat_map (λ (x : X). f x y) xs)
  by_turned f [] by y = tt
  by_turned {X} f (x ∷ xs) by y = by_append (f x y) (flat_map (λ (z : X). f z y) xs) (by.0 y) (by_turned f xs by.1 y)

  pub turned : {X Y : Type 0} (f : X → Y → List Line) (xs : List X) (ys : List Y) (ls : List Line) → AreEachBy f xs
      → all_among (flat_map (λ (x : X). flat_map (f x) ys) xs) ls ≡ all_among (flat_map (λ (y : Y). flat_map (λ (x : X). f x y) xs) ys) ls
  turned f [] ys ls by = sym (nothing ys ls)
  turned {X} {Y} f (x ∷ xs) ys ls by =
      among_append (flat_map (f x) ys) (flat_map (λ (z : X). flat_map (f z) ys) xs) ls
      ∙ (ap (all_among (flat_map (f x) ys)) (turned f xs ys ls by.1)
      ∙ sym (in_parts (f x) (λ (y : Y). flat_map (λ (z : X). f z y) xs) ys ls by.0 (by_turned f xs by.1)))

  -- one of the indexes first, and then the others
  abbrev pub but : (ℕ → List Line) → ℕ → ℕ → List Line
  but f n m = if m == n then [] else f m

  not_here : (m n : ℕ) → n < m → (m == n) ≡ false
  not_here m n less = grind arith

  all_but : (f : ℕ → List Line) (n a c : ℕ) → n < a → flat_map (but f n) (indexes a c) ≡ flat_map f (indexes a c)
  all_but f n a zero less = refl
  all_but f n a (suc c) less =
      ap (λ (b : Bool). cond b [] (f a) ++ flat_map (but f n) (indexes (a + 1) c)) (not_here a n less)
      ∙ ap (λ (ls : List Line). f a ++ ls) (all_but f n (a + 1) c (omega (arith, less)))

  by_but : (f : ℕ → List Line) (n m : ℕ) → ((x : ℕ) → AreBy (f x)) → AreBy (but f n m)
  by_but f n m by = go (m == n)
    where
      go : (b : Bool) → AreBy (cond b [] (f m))
      go true = tt
      go false = by m

  pub first_of : (f : ℕ → List Line) (n a c : ℕ) (ls : List Line) → ((x : ℕ) → AreBy (f x)) → a ≤ n → n < a + c
      → all_among (f n ++ flat_map (but f n) (indexes a c)) ls ≡ all_among (flat_map f (indexes a c)) ls
  first_of f n a zero ls by low high = absurd (omega (arith, low, high))
  first_of f n a (suc c) ls by low high = go (a == n) refl (first_of f n (a + 1) c ls by)
    where
      rest : List Line
      rest = flat_map (but f n) (indexes (a + 1) c)

      number : (x y : ℕ) → (x == y) ≡ true → x ≡ y
      number x y e = grind arith

      other : (x y : ℕ) → (x == y) ≡ false → x ≡ y → ⊥
      other x y e same = grind arith

      go : (b : Bool) → (a == n) ≡ b → (a + 1 ≤ n → n < a + 1 + c → all_among (f n ++ rest) ls ≡ all_among (flat_map f (indexes (a + 1) c)) ls)
          → all_among (f n ++ (cond b [] (f a) ++ rest)) ls ≡ all_among (f a ++ flat_map f (indexes (a + 1) c)) ls
      go true is ih =
          let same = number a n is in
          ap (λ (x : ℕ). all_among (f x ++ rest) ls) (sym same)
          ∙ ap (λ (ks : List Line). all_among (f a ++ ks) ls) (all_but f n (a + 1) c (omega (arith, same)))
      go false is ih =
          let differs = other a n is in
          among_append (f n) (f a ++ rest) ls
          ∙ (ap (all_among (f n)) (among_append (f a) rest ls)
          ∙ (all_past (f n) (f a) (all_among rest ls) (by n) (by a)
          ∙ (ap (all_among (f a)) (sym (among_append (f n) rest ls) ∙ ih (omega (arith, low, differs)) (omega (arith, high)))
          ∙ sym (among_append (f a) (flat_map f (indexes (a + 1) c)) ls))))
