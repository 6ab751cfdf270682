-- The places that have a name, in the order of their texts.
use Rattle.std.specs.Prelude.{◌≡◌, ℕ, ◌<◌, ◌≤◌, ◌==◌, true, List, Option, Some, None, IsSome, Result, Ok, Err, length, slice_index_or}
use Rattle.std.specs.List.{list_any}
use Rattle.std.specs.Ordering.{nat_cmp}
use Rattle.std.specs.Cmp.Lexicographic.{slice_cmp}
use Rattle.std.specs.declared.cmp.Ordering.{Ordering}
use Rattle.std.specs.declared.cmp.Ordering.TheVariants.{Less, Equal, Greater}
use Rattle.o2_shared.specs.declared.names.Name.{Name}

-- the name of a place
abbrev pub name_at : List (Option Name) → ℕ → Option Name
name_at names place = slice_index_or names place None

-- the k-th place of an order
abbrev pub place_at : List ℕ → ℕ → ℕ
place_at order k = slice_index_or order k 0

-- how the text of a name compares with a text; where there is no name it is below
abbrev pub against : Option Name → List ℕ → Ordering
against None text = Less
against (Some k) text = slice_cmp nat_cmp k.text text

-- a place has the name of a text
pub record HasText (names : List (Option Name)) (text : List ℕ) (place : ℕ) : Type 0 where
  pub name : Name
  pub there : name_at names place ≡ Some name
  pub same : name.text ≡ text

-- no place has it
pub record LacksText (names : List (Option Name)) (text : List ℕ) : Type 0 where
  pub other : (place : ℕ) (k : Name) → name_at names place ≡ Some k → k.text ≡ text → ⊥

-- The order has each place with a name, and these alone, by rising texts. A text has 128 bytes at most.
pub record IsOrdered (names : List (Option Name)) (order : List ℕ) : Type 0 where
  pub named : (i : ℕ) → i < length order → IsSome (name_at names (place_at order i))
  pub rising : (i j : ℕ) (k l : Name) → i < j → j < length order → name_at names (place_at order i) ≡ Some k → name_at names (place_at order j) ≡ Some l → slice_cmp nat_cmp k.text l.text ≡ Less
  pub listed : (place : ℕ) (k : Name) → name_at names place ≡ Some k → list_any (λ p. p == place) order ≡ true
  pub short : (place : ℕ) (k : Name) → name_at names place ≡ Some k → length k.text ≤ 128

-- the names in front of a place of the order are below a text, and those from there on above it
pub record IsGap (names : List (Option Name)) (order : List ℕ) (text : List ℕ) (at : ℕ) : Type 0 where
  pub within : at ≤ length order
  pub below : (i : ℕ) → i < at → against (name_at names (place_at order i)) text ≡ Less
  pub above : (i : ℕ) → at ≤ i → i < length order → against (name_at names (place_at order i)) text ≡ Greater

-- a place of the order has the name of a text
pub record IsAt (names : List (Option Name)) (order : List ℕ) (text : List ℕ) (at : ℕ) : Type 0 where
  pub within : at < length order
  pub equal : against (name_at names (place_at order at)) text ≡ Equal

-- what a look-up of a text comes to: where it stands, or where it would stand
abbrev pub IsFoundAt : List (Option Name) → List ℕ → List ℕ → Result ℕ ℕ → Type 0
IsFoundAt names order text (Ok at) = IsAt names order text at
IsFoundAt names order text (Err at) = IsGap names order text at
