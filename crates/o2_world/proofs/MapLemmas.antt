-- Laws of maps that are lists of pairs.
use Rattle.std.proofs.Common.{◌≡◌, ℕ, Bool, true, false, cond, [], ◌∷◌, Option, Some, None, if◌then◌else◌, ◌==◌, ◌||◌, ap, sym, ◌∙◌, refl, arith}
use Rattle.std.specs.Prelude.{filter, map, option_map}
use Rattle.std.specs.List.{list_any}
use Rattle.o2_world.specs.Map.{Map, at_key, get}

pub if_yes : {X : Type 0} (b : Bool) (x y : X) → b ≡ true → (if b then x else y) ≡ x
if_yes true x y e = refl
if_yes false x y e = absurd (cc)

pub if_no : {X : Type 0} (b : Bool) (x y : X) → b ≡ false → (if b then x else y) ≡ y
if_no true x y e = absurd (cc)
if_no false x y e = refl

filtered : {X : Type 0} (p : ℕ → Bool) (k q : ℕ) (v : X) (es fs : Map X) → get fs q ≡ (if p q then get es q else None)
    → get (cond (p k) ((k, v) ∷ fs) fs) q ≡ (if p q then (if k == q then Some v else get es q) else None)
filtered p k q v es fs ih = grind arith

pub none_there : {X : Type 0} (b : Bool) → ◌≡◌ {A = Option X} None (if b then None else None)
none_there true = refl
none_there false = refl

-- what is there after some keys go
pub get-filter : {X : Type 0} (p : ℕ → Bool) (m : Map X) (q : ℕ) → get (filter (λ (e : ℕ × X). p e.0) m) q ≡ (if p q then get m q else None)
get-filter p [] q = none_there (p q)
get-filter {X} p (e ∷ es) q = filtered p e.0 q e.1 es (filter (λ (e : ℕ × X). p e.0) es) (get-filter p es q)

mapped : {X Y : Type 0} (b : Bool) (x : Y) (u : X) (f : X → Y) (o : Option X) (p : Option Y) → x ≡ f u → p ≡ option_map f o
    → (if b then Some x else p) ≡ option_map f (if b then Some u else o)
mapped true x u f o p e h = ap Some e
mapped false x u f o p e h = h

key_is : (k q : ℕ) (b : Bool) → (k == q) ≡ b → b ≡ true → k ≡ q
key_is k q b e h = grind arith

picked : {X : Type 0} (b : Bool) (x y : X) (o p : Option X) → (b ≡ true → x ≡ y) → o ≡ p
    → (if b then Some x else o) ≡ (if b then Some y else p)
picked true x y o p f e = ap Some (f refl)
picked false x y o p f e = e

pull : {X Y : Type 0} (f : X → Y) (b : Bool) (x : X) (o : Option X)
    → option_map f (if b then Some x else o) ≡ (if b then Some (f x) else option_map f o)
pull f true x o = refl
pull f false x o = refl

-- what is there after each value is changed by its key
pub get-map : {X : Type 0} (f : ℕ → X → X) (m : Map X) (q : ℕ)
    → get (map (λ (e : ℕ × X). (e.0, f e.0 e.1)) m) q ≡ option_map (f q) (get m q)
get-map f [] q = refl
get-map f (e ∷ es) q =
    picked (e.0 == q) (f e.0 e.1) (f q e.1) _ _ (λ same. ap (λ (k : ℕ). f k e.1) (key_is e.0 q _ refl same)) (get-map f es q)
    ∙ sym (pull (f q) (e.0 == q) e.1 (get es q))

one_way : (k q : ℕ) → (q == k) ≡ (k == q)
one_way k q = grind arith

changed_by : {X : Type 0} (b : Bool) (f : X → X) (o : Option X) → option_map (λ (x : X). if b then f x else x) o ≡ (if b then option_map f o else o)
changed_by true f o = refl
changed_by false f None = refl
changed_by false f (Some x) = refl

-- what is there after one value is changed in its place
pub get-at_key : {X : Type 0} (k q : ℕ) (f : X → X) (m : Map X) → get (at_key k f m) q ≡ (if k == q then option_map f (get m k) else get m q)
get-at_key {X} k q f m =
    get-map (λ (n : ℕ) (x : X). if n == k then f x else x) m q
    ∙ changed_by (q == k) f (get m q)
    ∙ ap (λ (b : Bool). if b then option_map f (get m q) else get m q) (one_way k q)
    ∙ turned (k == q) refl
  where
    turned : (b : Bool) → (k == q) ≡ b → (if b then option_map f (get m q) else get m q) ≡ (if b then option_map f (get m k) else get m q)
    turned true is = ap (λ (n : ℕ). option_map f (get m n)) (sym (key_is k q true is refl))
    turned false is = refl

found_step : {X : Type 0} (g : ℕ → Bool) (k i : ℕ) (u v : X) (rest : Option X) (below : Bool) → (rest ≡ Some v → below ≡ true)
    → (if k == i then Some u else rest) ≡ Some v → g i ≡ true → g k || below ≡ true
found_step g k i u v rest below h found here = grind arith

-- a key that has a value is the key of a pair
pub found_any : {X : Type 0} (g : ℕ → Bool) (es : Map X) (i : ℕ) (v : X) → get es i ≡ Some v → g i ≡ true
    → list_any (λ (e : ℕ × X). g e.0) es ≡ true
found_any g [] i v found here = cc
found_any {X} g (e ∷ es) i v found here = found_step g e.0 i e.1 v (get es i) (list_any (λ (e : ℕ × X). g e.0) es) (λ f. found_any g es i v f here) found here
