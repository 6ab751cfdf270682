-- The index of a segment of a module that is there.
use Rattle.std.proofs.Common.{◌≡◌, ◌≢◌, ℕ, ◌+◌, ◌-◌, ◌==◌, ◌<◌, ◌≤◌, Bool, true, false, List, [], ◌∷◌, Some, below_more, get_or, length, map, nat_le, refl, sym, ap, ◌∙◌, arith, rules, suc}
use Rattle.std.specs.Prelude.{option_map}
use Rattle.std.specs.List.{slice_get}
use Rattle.std.proofs.lemmas.List.{get_or_default, length-map}
use Rattle.std.proofs.lemmas.Option.{slice_get-map, slice_get_within}
use Rattle.o2_image.specs.Getters.{nth}
use Rattle.o2_image.specs.ImageList.{Exists, Resolution}
use Rattle.o2_image.specs.Parts.{Parts}
use Rattle.o2_dynlink.specs.Selectors.{base_at, bases_from, bases_of, index_of, shared_after}

pub length-bases : (used : ℕ) (ms : List Parts) → length (bases_from used ms) ≡ length ms
length-bases used [] = refl
length-bases used (m ∷ ms) = ap suc (length-bases (shared_after used m) ms)

-- the item of a number
pub nth_some : {X : Type 0} (xs : List X) (n : ℕ) (x : X) → nth xs n ≡ Some x → (n ≢ 0) × (slice_get xs (n - 1) ≡ Some x)
nth_some xs n x h = go (n == 0) refl
  where
    go : (b : Bool) → (n == 0) ≡ b → (n ≢ 0) × (slice_get xs (n - 1) ≡ Some x)
    go true e = let bad = rw e at h in absurd cc
    go false e = (λ z. let bad : true ≡ false = rw z at e in absurd cc, rw e at h)

pub nth_exists : {X : Type 0} (xs : List X) (n : ℕ) (x : X) → nth xs n ≡ Some x → Exists xs n
nth_exists xs n x h =
    let there = nth_some xs n x h in
    let lt : n - 1 < length xs = slice_get_within xs (n - 1) x there.1 in
    let some : n ≢ 0 = there.0 in
    (omega (arith, some), omega (arith, lt, some))

-- the module of a pair
pub module_there : (rs : List Resolution) (n : ℕ) (m : Parts) → Some m ≡ option_map (λ (r : Resolution). r.0) (nth rs n) → nth (map (λ (r : Resolution). r.0) rs) n ≡ Some m
module_there rs n m h = go (n == 0) refl
  where
    go : (b : Bool) → (n == 0) ≡ b → nth (map (λ (r : Resolution). r.0) rs) n ≡ Some m
    go true e = let bad = rw e at h in absurd cc
    go false e = let h' = rw e at h in rw (e, slice_get-map (λ (r : Resolution). r.0) rs (n - 1)) (sym h')

pub index_is : (ms : List Parts) (place seg base : ℕ) (m : Parts) → nth ms place ≡ Some m → base ≡ base_at (bases_of ms) place → 1 ≤ seg → seg ≤ length m.segments
    → Some (base + seg) ≡ index_of ms place seg
index_is ms place seg base m there is low high =
    let a : nat_le 1 seg ≡ true = search (rules, low) in
    let b : nat_le seg (length m.segments) ≡ true = search (rules, high) in
    rw (there, a, b, is) refl

-- one module more whose segments lie in the table
pub more_fit : (ms : List Parts) (bases : List ℕ) (i at : ℕ) (m : Parts) → i < length ms → m ≡ get_or ms i m → at ≡ i
    → ((k : ℕ) (e : Parts) → k < i → get_or bases k 0 + length (get_or ms k e).segments ≤ 8191)
    → get_or bases at 0 + length m.segments ≤ 8191
    → (k : ℕ) (e : Parts) → k < i + 1 → get_or bases k 0 + length (get_or ms k e).segments ≤ 8191
more_fit ms bases i at m lt is same before here k e h =
    let one : m ≡ get_or ms i e = is ∙ get_or_default ms i m e lt in
    let there : get_or bases i 0 + length (get_or ms i e).segments ≤ 8191 = rw (same, one) at here in
    below_more (λ (q : ℕ). get_or bases q 0 + length (get_or ms q e).segments ≤ 8191) i (λ q b. before q e b) there k h

-- lists that are seen as tables of as many items
pub as_long : {X Y V W : Type 0} (f : X → Y) (xs : List X) (first : List Y) (g : V → W) (h : X → W) (columns : List V) → first ≡ map f xs → map g columns ≡ map h xs → length first ≡ length columns
as_long f xs first g h columns a b =
    ap length a ∙ length-map xs f ∙ sym (length-map xs h) ∙ sym (ap length b) ∙ length-map columns g
