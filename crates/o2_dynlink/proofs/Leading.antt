-- The leads of a module's references, gathered one by one, and what a lead says.
use Rattle.std.proofs.Common.{◌≡◌, ℕ, zero, suc, ◌+◌, ◌<◌, ◌≤◌, ◌==◌, Bool, true, false, List, [], ◌∷◌, ◌++◌, Option, Some, None, length, map, take, get_or, refl, sym, ap, ◌∙◌, arith}
use Rattle.std.specs.Prelude.{position, option_map}
use Rattle.std.proofs.lemmas.List.{take_all}
use Rattle.std.proofs.lemmas.List.Quantifiers.{position-Some}
use Rattle.std.proofs.lemmas.Option.{slice_get-map}
use Rattle.o2_image.specs.Getters.{nth}
use Rattle.o2_image.specs.ImageList.{Exists}
use Rattle.o2_image.specs.Parts.{Parts}
use Rattle.o2_dynlink.specs.declared.leads.Lead.TheVariants.{Services, Library, Nowhere}
use Rattle.o2_dynlink.specs.Leads.{lead_of, lead_to}
use Rattle.o2_dynlink.specs.Listed.{is_doscalls, is_library_named, library_named}

-- a list that is mapped item by item
pub maps_more : {X Y : Type 0} (f : X → Y) (xs : List X) (k : ℕ) (d : X) (x : X) (found after : List Y) → k < length xs → x ≡ get_or xs k d
    → found ≡ map f (take k xs) → after ≡ found ++ f x ∷ [] → after ≡ map f (take (k + 1) xs)
maps_more f [] k d x found after lt is so_far more = absurd (omega arith)
maps_more f (y ∷ ys) zero d x found after lt is so_far more = more ∙ ap (λ ys. ys ++ f x ∷ []) so_far ∙ ap (λ z. f z ∷ []) is
maps_more f (y ∷ ys) (suc k) d x found after lt is so_far more =
    let rest = maps_more f ys k d x (map f (take k ys)) (map f (take k ys) ++ f x ∷ []) (omega arith) is refl refl in
    let e : suc k + 1 ≡ suc (k + 1) = omega arith in
    rw e (more ∙ ap (λ zs. zs ++ f x ∷ []) so_far ∙ ap (λ zs. f y ∷ zs) rest)

pub maps_all : {X Y : Type 0} (f : X → Y) (xs : List X) (k : ℕ) (found : List Y) → length xs ≤ k → found ≡ map f (take k xs) → found ≡ map f xs
maps_all f xs k found le so_far = so_far ∙ ap (λ ys. map f ys) (take_all k xs le)

-- a lead by the number of its reference
pub nth_mapped : {X Y : Type 0} (f : X → Y) (xs : List X) (k : ℕ) → nth (map f xs) k ≡ option_map f (nth xs k)
nth_mapped f xs k = go (k == 0) refl
  where
    go : (b : Bool) → (k == 0) ≡ b → nth (map f xs) k ≡ option_map f (nth xs k)
    go true e = rw e refl
    go false e = rw e (slice_get-map f xs _)

library_lead : (o : Option ℕ) (place : ℕ) → Library place ≡ lead_to o → o ≡ Some place
library_lead None place h = absurd cc
library_lead (Some p) place h = let same : place ≡ p = cc in ap (λ x. Some x) (sym same)

pub library_is : (ms : List Parts) (name : List ℕ) (place : ℕ) → Library place ≡ lead_of ms name → (is_doscalls name ≡ false) × (library_named ms name ≡ Some place)
library_is ms name place h = go (is_doscalls name) refl
  where
    go : (b : Bool) → is_doscalls name ≡ b → (is_doscalls name ≡ false) × (library_named ms name ≡ Some place)
    go true e = absurd (let bad = rw e at h in cc)
    go false e = (e, library_lead (library_named ms name) place (rw e at h))

-- the library that a lead is to exists
pub library_exists : (ms : List Parts) (name : List ℕ) (place : ℕ) → Library place ≡ lead_of ms name → Exists ms place
library_exists ms name place h = go (position (is_library_named name) ms) refl (library_is ms name place h).1
  where
    go : (o : Option ℕ) → position (is_library_named name) ms ≡ o → option_map (λ i. i + 1) o ≡ Some place → Exists ms place
    go None e q = absurd cc
    go (Some i) e q =
        let at : i + 1 ≡ place = cc in
        let lt : i < length ms = within ms e in
        (omega arith, omega arith)
      where
        within : (xs : List Parts) → position (is_library_named name) xs ≡ Some i → i < length xs
        within [] e = absurd cc
        within (x ∷ xs) e = (position-Some (is_library_named name) (x ∷ xs) i x e).0

pub services_is : (ms : List Parts) (name : List ℕ) → Services ≡ lead_of ms name → is_doscalls name ≡ true
services_is ms name h = go (is_doscalls name) refl
  where
    none : (o : Option ℕ) → Services ≡ lead_to o → ⊥
    none None q = absurd cc
    none (Some p) q = absurd cc

    go : (b : Bool) → is_doscalls name ≡ b → is_doscalls name ≡ true
    go true e = e
    go false e = absurd (none (library_named ms name) (rw e at h))

pub nowhere_is : (ms : List Parts) (name : List ℕ) → Nowhere ≡ lead_of ms name → (is_doscalls name ≡ false) × (library_named ms name ≡ None)
nowhere_is ms name h = go (is_doscalls name) refl
  where
    lost : (o : Option ℕ) → Nowhere ≡ lead_to o → o ≡ None
    lost None q = refl
    lost (Some p) q = absurd cc

    go : (b : Bool) → is_doscalls name ≡ b → (is_doscalls name ≡ false) × (library_named ms name ≡ None)
    go true e = absurd (let bad = rw e at h in cc)
    go false e = (e, lost (library_named ms name) (rw e at h))
