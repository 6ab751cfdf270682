-- What a block holds that isn't known.
use Rattle.std.proofs.Common.{◌≡◌, ℕ, List, [], ◌∷◌, Bool, true, false, if◌then◌else◌, ◌==◌, replicate, refl}
use Rattle.o2_outer.specs.declared.access.Access.{Access}
use Rattle.o2_outer.specs.declared.access.Access.TheVariants.{Read, Written, Lost}
use Rattle.o2_outer.specs.Accesses.{Accessed, content, held, is_known, knows}

zeros_behind : (same : Bool) (act : Access) (bytes before : List ℕ) (known : Bool) → (known ≡ false → before ≡ replicate 512 0)
    → (if same then knows act known else known) ≡ false → (if same then held act bytes before else before) ≡ replicate 512 0
zeros_behind false act bytes before known h e = h e
zeros_behind true Read bytes before known h e = h e
zeros_behind true Written bytes before known h e = let never : true ≡ false = e in absurd (cc)
zeros_behind true Lost bytes before known h e = refl

pub unknown_zeros : (history : List Accessed) (b : ℕ) → is_known history b ≡ false → content history b ≡ replicate 512 0
unknown_zeros [] b e = refl
unknown_zeros (a ∷ rest) b e = zeros_behind (a.0 == b) a.1.0 a.1.1 (content rest b) (is_known rest b) (unknown_zeros rest b) e
