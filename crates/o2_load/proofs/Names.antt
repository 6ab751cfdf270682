-- The names that are made.
use Rattle.std.proofs.Common.{◌≡◌, ℕ, suc, Bool, true, false, ◌<◌, ◌≤◌, List, [], ◌∷◌, Option, Some, None, IfSome, if◌then◌else◌, ◌==◌, ◌&&◌, ap, sym, ◌∙◌, arith}
use Rattle.std.specs.List.{All}
use Rattle.o2_world.specs.declared.types.Made.{Made}
use Rattle.o2_world.specs.Starts.{Built, Holding, name_in, holds_as, with_holding}

-- the common names are below a count
abbrev pub AreBelow : ℕ → List Made → Type 0
AreBelow count ms = All (λ (d : Made). d.name < count) ms

some_either : (b : Bool) (count x : ℕ) (o : Option ℕ) → x < count → IfSome o (λ y. y < count) → IfSome (if b then Some x else o) (λ y. y < count)
some_either true count x o h k = h
some_either false count x o h k = k

-- a common name that is found is one of them
pub name_is_made : (ms : List Made) (place number count : ℕ) → AreBelow count ms → IfSome (name_in ms place number) (λ y. y < count)
name_is_made [] place number count h = tt
name_is_made (m ∷ ms) place number count h =
    some_either ((m.place == place) && (m.number == number)) count m.name (name_in ms place number) (h 0 m (omega arith))
    (name_is_made ms place number count (λ k d less. h (suc k) d (omega (arith, less))))

-- with more names they stay so
pub below_more : (ms : List Made) (count more : ℕ) → count ≤ more → AreBelow count ms → AreBelow more ms
below_more ms count more le h k d less = let x = h k d less in omega (arith, le, x)

-- what a common segment is held as
pub as_found : (b : Built) (made : List Made) (h : Holding) (o : Option ℕ) → b.made ≡ made → o ≡ (if h.common then name_in made h.place h.number else None) → holds_as b h o ≡ with_holding b h
as_found b made h o same is = ap (holds_as b h) (is ∙ ap (λ (ms : List Made). if h.common then name_in ms h.place h.number else None) (sym same))

pub same_holding : (i j place n r t : ℕ) (b c : Bool) (bytes : List ℕ) → i ≡ j → r ≡ t → b ≡ c
    → ◌≡◌ {A = Holding} (record { index = i; place = place; number = n; rights = r; common = b; bytes = bytes }) (record { index = j; place = place; number = n; rights = t; common = c; bytes = bytes })
same_holding i j place n r t b c bytes e f g = cc
