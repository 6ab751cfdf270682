-- The places of a chain, one after the other.
use Rattle.std.proofs.Common.{◌≡◌, ℕ, suc, ◌+◌, ◌-◌, ◌<◌, ◌≤◌, ◌==◌, List, [], ◌∷◌, true, false, refl, length, arith, subst, fold, map}
use Rattle.o2_ne.specs.Words.{word_at}
use Rattle.o2_image.specs.Chains.{places}
use Rattle.o2_image.specs.Images.{Patch, byte_after}
use Rattle.o2_image.specs.Whole.{Fit}

pub places_go : (bytes : List ℕ) (n i p : ℕ) → i < n → (word_at bytes p == 65535) ≡ false → places bytes (n - i) p ≡ p ∷ places bytes (n - (i + 1)) (word_at bytes p)
unfolding places
places_go bytes n i p lt h = let e : n - i ≡ suc (n - (i + 1)) = omega arith in rw (e, h) refl

pub places_end : (bytes : List ℕ) (n i p : ℕ) → i < n → (word_at bytes p == 65535) ≡ true → places bytes (n - i) p ≡ p ∷ []
unfolding places
places_end bytes n i p lt h = let e : n - i ≡ suc (n - (i + 1)) = omega arith in rw (e, h) refl

pub places_none : (bytes : List ℕ) (n i p : ℕ) → n ≤ i → places bytes (n - i) p ≡ []
unfolding places
places_none bytes n i p le = let e : n - i ≡ 0 = omega arith in rw e refl

-- the first place has a word
pub fits_first : (bytes : List ℕ) (n i p : ℕ) → i < n → Fit bytes (places bytes (n - i) p) → p + 2 ≤ length bytes
unfolding places
fits_first bytes n i p lt h =
    let e : n - i ≡ suc (n - (i + 1)) = omega arith in
    let all : Fit bytes (places bytes (suc (n - (i + 1))) p) = subst (λ (m : ℕ). Fit bytes (places bytes m p)) e h in
    all.0

pub fits_rest : (bytes : List ℕ) (n i p : ℕ) → i < n → (word_at bytes p == 65535) ≡ false → Fit bytes (places bytes (n - i) p) → Fit bytes (places bytes (n - (i + 1)) (word_at bytes p))
fits_rest bytes n i p lt go h = (subst (λ (ps : List ℕ). Fit bytes ps) (places_go bytes n i p lt go) h).1

-- the patches of a chain at byte j, one after the other
pub fill_goes : (bytes : List ℕ) (put : ℕ → Patch) (n i p j old new total : ℕ) → i < n → (word_at bytes p == 65535) ≡ false → new ≡ byte_after j old (put p)
    → fold (byte_after j) old (map put (places bytes (n - i) p)) ≡ total
    → fold (byte_after j) new (map put (places bytes (n - (i + 1)) (word_at bytes p))) ≡ total
fill_goes bytes put n i p j old new total lt go is h = rw is (rw (places_go bytes n i p lt go) at h)

pub fill_ends : (bytes : List ℕ) (put : ℕ → Patch) (n i p j old new total : ℕ) → i < n → (word_at bytes p == 65535) ≡ true → new ≡ byte_after j old (put p)
    → fold (byte_after j) old (map put (places bytes (n - i) p)) ≡ total → new ≡ total
fill_ends bytes put n i p j old new total lt go is h = rw is (rw (places_end bytes n i p lt go) at h)

pub fill_over : (bytes : List ℕ) (put : ℕ → Patch) (n i p j old total : ℕ) → n ≤ i
    → fold (byte_after j) old (map put (places bytes (n - i) p)) ≡ total → old ≡ total
fill_over bytes put n i p j old total le h = rw (places_none bytes n i p le) at h
