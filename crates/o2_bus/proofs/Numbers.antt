-- Ten bytes, as the number of the first eight and the number of the last two.
use Rattle.std.proofs.Common.{◌≡◌, ℕ, zero, suc, ◌<◌, [], ◌∷◌, ◌++◌, get_or, refl, arith}
use Rattle.std.proofs.lemmas.Nat.{le_bytes_2, le_bytes_8}
use Rattle.std.specs.Int.{to_le_bytes, from_le_bytes, w16, w64}

two_bytes : (a b : ℕ) → a < 256 → b < 256 → (i : ℕ) → get_or (a ∷ b ∷ []) i 0 < 256
two_bytes a b p q zero = p
two_bytes a b p q (suc zero) = q
two_bytes a b p q (suc (suc i)) = omega arith

four_bytes : (a b c d : ℕ) → a < 256 → b < 256 → c < 256 → d < 256 → (i : ℕ) → get_or (a ∷ b ∷ c ∷ d ∷ []) i 0 < 256
four_bytes a b c d p q r s zero = p
four_bytes a b c d p q r s (suc zero) = q
four_bytes a b c d p q r s (suc (suc i)) = two_bytes c d r s i

eight_bytes : (a b c d e f g h : ℕ) → a < 256 → b < 256 → c < 256 → d < 256 → e < 256 → f < 256 → g < 256 → h < 256
    → (i : ℕ) → get_or (a ∷ b ∷ c ∷ d ∷ e ∷ f ∷ g ∷ h ∷ []) i 0 < 256
eight_bytes a b c d e f g h p q r s t u v w zero = p
eight_bytes a b c d e f g h p q r s t u v w (suc zero) = q
eight_bytes a b c d e f g h p q r s t u v w (suc (suc zero)) = r
eight_bytes a b c d e f g h p q r s t u v w (suc (suc (suc zero))) = s
eight_bytes a b c d e f g h p q r s t u v w (suc (suc (suc (suc i)))) = four_bytes e f g h t u v w i

-- The two numbers have these bytes.
pub two_numbers : (a b c d e f g h i j m n : ℕ)
    → a < 256 → b < 256 → c < 256 → d < 256 → e < 256 → f < 256 → g < 256 → h < 256 → i < 256 → j < 256
    → m ≡ from_le_bytes w64 (a ∷ b ∷ c ∷ d ∷ e ∷ f ∷ g ∷ h ∷ []) → n ≡ from_le_bytes w16 (i ∷ j ∷ [])
    → to_le_bytes w64 m ++ to_le_bytes w16 n ≡ a ∷ b ∷ c ∷ d ∷ e ∷ f ∷ g ∷ h ∷ i ∷ j ∷ []
two_numbers a b c d e f g h i j m n pa pb pc pd pe pf pg ph pi pj p q = λ k.
    le_bytes_8 (a ∷ b ∷ c ∷ d ∷ e ∷ f ∷ g ∷ h ∷ []) m refl (eight_bytes a b c d e f g h pa pb pc pd pe pf pg ph) p k
    ++ le_bytes_2 (i ∷ j ∷ []) n refl (two_bytes i j pi pj) q k
