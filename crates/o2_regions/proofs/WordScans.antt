-- The steps of a scan over words.
use Rattle.std.proofs.Common.{◌≡◌, ◌≢◌, ℕ, ◌+◌, ◌-◌, ◌/◌, ◌%◌, ◌^◌, ◌<◌, ◌≤◌, List, Bool, true, false, not, eqb, Some, None, arith, refl, sym, ap, subst, get_or, w64}
use Rattle.std.specs.Int.{trailing_ones, trailing_zeros}
use lib.Bits.{bit_and}
use Rattle.o2_desc.specs.Choice.{IsChosen, chosen}
use Rattle.o2_regions.specs.Words.{mark_at, marks_of, IsScanned}
use Rattle.o2_regions.proofs.Scans.{scan_clear, scan_found, scan_taken, scan_end, scan_skip, scanned, chosen-same}
use Rattle.o2_regions.proofs.Bitwise.{full_word, empty_rest, first_rest, ones_rest, mark-test, get_or-marks}

-- a mark behind a place, as one behind its number
behind : (ws : List ℕ) (base i k : ℕ) (b : Bool) → i ≤ k → mark_at ws (base + i + (k - i)) ≡ b → mark_at ws (base + k) ≡ b
behind ws base i k b h e = subst (λ (p : ℕ). mark_at ws p ≡ b) (let s : base + i + (k - i) ≡ base + k = omega arith in s) e

module _ (ws : List ℕ) (base low end n i run : ℕ) where
  pub clear_full : IsScanned (λ k. mark_at ws (base + k)) low end n i run → i < end → get_or ws ((base + i) / 64) 0 ≡ 2 ^ 64 - 1 → IsScanned (λ k. mark_at ws (base + k)) low end n (i + (64 - (base + i) % 64)) 0
  clear_full s w full =
      scan_taken (λ k. mark_at ws (base + k)) low end n i run s (i + (64 - (base + i) % 64)) (omega arith) w
      (λ k a b d. behind ws base i k true a (full_word ws (base + i) (get_or ws ((base + i) / 64) 0) refl full (k - i) (omega arith)))

  pub clear_one : IsScanned (λ k. mark_at ws (base + k)) low end n i run → i < end → (ones : ℕ) → get_or ws ((base + i) / 64) 0 + 1 < 2 ^ 64 → ones ≡ trailing_ones w64 (get_or ws ((base + i) / 64) 0 / 2 ^ ((base + i) % 64))
      → bit_and (get_or ws ((base + i) / 64) 0 / 2 ^ ((base + i) % 64)) 1 ≡ 1 → IsScanned (λ k. mark_at ws (base + k)) low end n (i + ones) 0
  clear_one s w ones fits is test =
      let o = ones_rest ws (base + i) (get_or ws ((base + i) / 64) 0) ones refl fits is test in
      scan_taken (λ k. mark_at ws (base + k)) low end n i run s (i + ones) (omega (arith, o.0)) w (λ k a b d. behind ws base i k true a (o.1 (k - i) (omega arith)))

  pub clear_more : IsScanned (λ k. mark_at ws (base + k)) low end n i run → eqb (bit_and (get_or ws ((base + i) / 64) 0 / 2 ^ ((base + i) % 64)) 1) 1 ≡ false → run + 1 ≢ n → IsScanned (λ k. mark_at ws (base + k)) low end n (i + 1) (run + 1)
  clear_more s test h =
      scan_clear (λ k. mark_at ws (base + k)) low end n i run s (mark-test ws (base + i) (get_or ws ((base + i) / 64) 0) false refl test) (omega (arith, s.short))

  pub clear_found : IsScanned (λ k. mark_at ws (base + k)) low end n i run → i < end → eqb (bit_and (get_or ws ((base + i) / 64) 0 / 2 ^ ((base + i) % 64)) 1) 1 ≡ false → run + 1 ≡ n → Some (i + 1 - n) ≡ chosen (λ k. mark_at ws (base + k)) low end n
  clear_found s w test h =
      scanned (λ k. mark_at ws (base + k)) low end n (Some (i + 1 - n)) (scan_found (λ k. mark_at ws (base + k)) low end n i run s (mark-test ws (base + i) (get_or ws ((base + i) / 64) 0) false refl test) h w)

  pub clear_end : IsScanned (λ k. mark_at ws (base + k)) low end n i run → end ≤ i → None ≡ chosen (λ k. mark_at ws (base + k)) low end n
  clear_end s h = scanned (λ k. mark_at ws (base + k)) low end n None (scan_end (λ k. mark_at ws (base + k)) low end n i run s h)

module _ (ws : List ℕ) (base low end i : ℕ) where
  pub marked_none : IsScanned (λ k. not (mark_at ws (base + k))) low end 1 i 0 → get_or ws ((base + i) / 64) 0 / 2 ^ ((base + i) % 64) ≡ 0 → IsScanned (λ k. not (mark_at ws (base + k))) low end 1 (i + (64 - (base + i) % 64)) 0
  marked_none s none =
      scan_skip (λ k. not (mark_at ws (base + k))) low end i (i + (64 - (base + i) % 64)) s (omega arith)
      (λ k a b. ap not (behind ws base i k false a (empty_rest ws (base + i) (get_or ws ((base + i) / 64) 0) refl none (k - i) (omega arith))))

  pub marked_first : IsScanned (λ k. not (mark_at ws (base + k))) low end 1 i 0 → get_or ws ((base + i) / 64) 0 < 2 ^ 64 → get_or ws ((base + i) / 64) 0 / 2 ^ ((base + i) % 64) ≢ 0
      → (first : ℕ) → first ≡ i + trailing_zeros w64 (get_or ws ((base + i) / 64) 0 / 2 ^ ((base + i) % 64))
      → IsScanned (λ k. not (mark_at ws (base + k))) low end 1 first 0 × (not (mark_at ws (base + first)) ≡ false)
  marked_first s fits some first is =
      let word = get_or ws ((base + i) / 64) 0 in
      let f = first_rest ws (base + i) word (first - i) refl fits some (omega arith) in (
        scan_skip (λ k. not (mark_at ws (base + k))) low end i first s (omega arith) (λ k a b. ap not (behind ws base i k false a (f.1 (k - i) (omega arith)))),
        ap not (behind ws base i first true (omega arith) f.0),
      )

  pub marked_found : IsScanned (λ k. not (mark_at ws (base + k))) low end 1 i 0 → get_or ws ((base + i) / 64) 0 < 2 ^ 64 → get_or ws ((base + i) / 64) 0 / 2 ^ ((base + i) % 64) ≢ 0
      → (first : ℕ) → first ≡ i + trailing_zeros w64 (get_or ws ((base + i) / 64) 0 / 2 ^ ((base + i) % 64)) → first < end → Some first ≡ chosen (λ k. not (mark_at ws (base + k))) low end 1
  marked_found s fits some first is h =
      let f = marked_first s fits some first is in
      let e : first + 1 - 1 ≡ first = omega arith in
      scanned (λ k. not (mark_at ws (base + k))) low end 1 (Some first) (subst (λ (x : ℕ). IsChosen (λ k. not (mark_at ws (base + k))) low end 1 (Some x)) e (scan_found (λ k. not (mark_at ws (base + k))) low end 1 first 0 f.0 f.1 (omega arith) h))

  pub marked_past : IsScanned (λ k. not (mark_at ws (base + k))) low end 1 i 0 → get_or ws ((base + i) / 64) 0 < 2 ^ 64 → get_or ws ((base + i) / 64) 0 / 2 ^ ((base + i) % 64) ≢ 0
      → (first : ℕ) → first ≡ i + trailing_zeros w64 (get_or ws ((base + i) / 64) 0 / 2 ^ ((base + i) % 64)) → end ≤ first → None ≡ chosen (λ k. not (mark_at ws (base + k))) low end 1
  marked_past s fits some first is h =
      let f = marked_first s fits some first is in
      scanned (λ k. not (mark_at ws (base + k))) low end 1 None (scan_end (λ k. not (mark_at ws (base + k))) low end 1 first 0 f.0 h)

  pub marked_end : IsScanned (λ k. not (mark_at ws (base + k))) low end 1 i 0 → end ≤ i → None ≡ chosen (λ k. not (mark_at ws (base + k))) low end 1
  marked_end s h = scanned (λ k. not (mark_at ws (base + k))) low end 1 None (scan_end (λ k. not (mark_at ws (base + k))) low end 1 i 0 s h)

-- the marks of words decide as their bits do
pub chosen-marks : (ws : List ℕ) (base low end n : ℕ) → chosen (λ k. mark_at ws (base + k)) low end n ≡ chosen (λ k. get_or (marks_of ws) (base + k) false) low end n
chosen-marks ws base low end n = chosen-same (λ k. mark_at ws (base + k)) (λ k. get_or (marks_of ws) (base + k) false) low end n (λ k a b. sym (get_or-marks ws (base + k)))

pub chosen-unmarks : (ws : List ℕ) (base low end n : ℕ) → chosen (λ k. not (mark_at ws (base + k))) low end n ≡ chosen (λ k. not (get_or (marks_of ws) (base + k) false)) low end n
chosen-unmarks ws base low end n = chosen-same (λ k. not (mark_at ws (base + k))) (λ k. not (get_or (marks_of ws) (base + k) false)) low end n (λ k a b. ap not (sym (get_or-marks ws (base + k))))
