-- Marks as words: what a read, a write and a skip say of them.
use Rattle.std.proofs.Common.{◌≡◌, ◌≢◌, ℕ, ◌+◌, ◌-◌, ◌*◌, ◌/◌, ◌%◌, ◌^◌, ◌<◌, ◌≤◌, inl, inr, List, length, cond, eqb, refl, sym, ap, ◌∙◌, arith, true, false, Bool, get_or, subst, set, replicate, w64}
use Rattle.std.proofs.lemmas.Bool.{cases_eq, cases_lt, eq-eqb, ne_eqb}
use Rattle.std.proofs.lemmas.List.{get_or_past, length-set, length-replicate, ext_get_or}
use Rattle.std.proofs.lemmas.List.FromFn.{get_or-map-range_with_len, length-map-range_with_len}
use Rattle.std.proofs.lemmas.Nat.{div_below, le-div, div-add-mod'}
use Rattle.std.proofs.lemmas.Nat.Bits.{bit_at-zero, bit_at_ones, shr_and_one, bit_at-trailing_zeros, bit_at-trailing_ones, bit_at_above}
use Rattle.std.proofs.Math.Nat.{div-div-eq-div-mul, div-le_self}
use lib.Pow.{pow-add}
use Rattle.std.specs.Int.{bit_at, trailing_ones, trailing_zeros}
use lib.Bits.{bit_and}
use Rattle.o2_regions.specs.Words.{mark_at, marks_of}
use Rattle.o2_regions.proofs.Writes.{get_or-set, get_or-same}

pub length-marks : (ws : List ℕ) → length (marks_of ws) ≡ 64 * length ws
length-marks ws = length-map-range_with_len (mark_at ws) 0 (64 * length ws)

-- a place past the words isn't marked
mark-past : (ws : List ℕ) (k : ℕ) → 64 * length ws ≤ k → mark_at ws k ≡ false
mark-past ws k h =
    let l : length ws ≤ k / 64 = le-div (length ws) k 64 (omega arith) (omega arith) in
    let e : get_or ws (k / 64) 0 ≡ 0 = get_or_past ws (k / 64) 0 l in
    rw (e, bit_at-zero (k % 64)) refl

-- the mark of a place is that of its bit
pub get_or-marks : (ws : List ℕ) (k : ℕ) → get_or (marks_of ws) k false ≡ mark_at ws k
get_or-marks ws k = elim (cases_lt k (64 * length ws)) [
  | inl within ↦ get_or-map-range_with_len (mark_at ws) 0 (64 * length ws) k k false within (omega arith)
  | inr past ↦ get_or_past (marks_of ws) k false (rw (length-marks ws) past) ∙ sym (mark-past ws k past)
]

-- the word of a place
pub word_in : (ws : List ℕ) (i : ℕ) → i < length (marks_of ws) → i / 64 < length ws
word_in ws i h = div_below i 64 (length ws) (omega arith) (omega (arith, length-marks ws))

pub none_marked : (n : ℕ) (ws : List ℕ) → ws ≡ replicate n 0 → marks_of ws ≡ replicate (n * 64) false
none_marked n ws e =
    let l : length ws ≡ n = ap length e ∙ length-replicate n 0 in
    ext_get_or false (marks_of ws) (replicate (n * 64) false)
    (omega (arith, length-marks ws, length-replicate (n * 64) false))
    (λ i h. let z : get_or ws (i / 64) 0 ≡ 0 = ap (λ (v : List ℕ). get_or v (i / 64) 0) e ∙ get_or-same n (i / 64) 0 in
    get_or-marks ws i ∙ rw (z, bit_at-zero (i % 64)) (sym (get_or-same (n * 64) i false)))

-- two places of one word have other bits
bits_apart : (k i : ℕ) → k ≢ i → k / 64 ≡ i / 64 → k % 64 ≢ i % 64
bits_apart k i n e h = n (omega (arith, div-add-mod' k 64, div-add-mod' i 64))

-- the marks after a write of a word that changes one bit
mark-set : (ws : List ℕ) (i word : ℕ) (mark : Bool) → i / 64 < length ws → eqb (bit_at word (i % 64)) 1 ≡ mark
    → ((b : ℕ) → b < 64 → b ≢ i % 64 → bit_at word b ≡ bit_at (get_or ws (i / 64) 0) b)
    → (k : ℕ) → mark_at (set ws (i / 64) word) k ≡ cond (eqb k i) mark (mark_at ws k)
mark-set ws i word mark l same other k = elim (cases_eq k i) [
  | inl here ↦ rw (eq-eqb k i here) (subst (λ (x : ℕ). mark_at (set ws (i / 64) word) x ≡ mark) (sym here)
      (ap (λ (w : ℕ). eqb (bit_at w (i % 64)) 1) (get_or-set ws (i / 64) word 0 l (i / 64) ∙ rw (eq-eqb (i / 64) (i / 64) refl) refl) ∙ same))
  | inr there ↦ rw (ne_eqb k i there) (elim (cases_eq (k / 64) (i / 64)) [
    | inl one ↦
        (let w : get_or (set ws (i / 64) word) (k / 64) 0 ≡ word = get_or-set ws (i / 64) word 0 l (k / 64) ∙ rw (eq-eqb (k / 64) (i / 64) one) refl in
        ap (λ (x : ℕ). eqb (bit_at x (k % 64)) 1) w
        ∙ ap (λ (x : ℕ). eqb x 1) (other (k % 64) (omega arith) (bits_apart k i there one))
        ∙ ap (λ (x : ℕ). eqb (bit_at (get_or ws x 0) (k % 64)) 1) (sym one))
    | inr two ↦ ap (λ (x : ℕ). eqb (bit_at x (k % 64)) 1) (get_or-set ws (i / 64) word 0 l (k / 64) ∙ rw (ne_eqb (k / 64) (i / 64) two) refl)
  ])
]

pub marks-set : (ws : List ℕ) (i word : ℕ) (mark : Bool) → i < length (marks_of ws) → eqb (bit_at word (i % 64)) 1 ≡ mark
    → ((b : ℕ) → b < 64 → b ≢ i % 64 → bit_at word b ≡ bit_at (get_or ws (i / 64) 0) b)
    → marks_of (set ws (i / 64) word) ≡ set (marks_of ws) i mark
marks-set ws i word mark l same other =
    let n = word_in ws i l in
    let long : length (marks_of (set ws (i / 64) word)) ≡ length (set (marks_of ws) i mark) =
    omega (arith, length-marks ws, length-marks (set ws (i / 64) word), length-set ws (i / 64) word, length-set (marks_of ws) i mark) in
    ext_get_or false (marks_of (set ws (i / 64) word)) (set (marks_of ws) i mark) long
    (λ k h. get_or-marks (set ws (i / 64) word) k ∙ mark-set ws i word mark n same other k
    ∙ ap (λ (b : Bool). cond (eqb k i) mark b) (sym (get_or-marks ws k)) ∙ sym (get_or-set (marks_of ws) i mark false l k))

-- the test of a bit is the mark
pub mark-read : (ws : List ℕ) (i word : ℕ) → word ≡ get_or ws (i / 64) 0 → eqb (bit_and (word / 2 ^ (i % 64)) 1) 1 ≡ get_or (marks_of ws) i false
mark-read ws i word e = ap (λ (x : ℕ). eqb x 1) (shr_and_one word (i % 64)) ∙ ap (λ (x : ℕ). eqb (bit_at x (i % 64)) 1) e ∙ sym (get_or-marks ws i)

-- a place behind another in the same word
mark-behind : (ws : List ℕ) (at j word : ℕ) → word ≡ get_or ws (at / 64) 0 → at % 64 + j < 64 → mark_at ws (at + j) ≡ eqb (bit_at word (at % 64 + j)) 1
mark-behind ws at j word e h =
    let q : (at + j) / 64 ≡ at / 64 = omega (arith, div-add-mod' (at + j) 64, div-add-mod' at 64) in
    let r : (at + j) % 64 ≡ at % 64 + j = omega (arith, div-add-mod' (at + j) 64, div-add-mod' at 64, q) in
    ap (λ (x : ℕ). eqb (bit_at (get_or ws x 0) ((at + j) % 64)) 1) q ∙ ap (λ (x : ℕ). eqb (bit_at x ((at + j) % 64)) 1) (sym e) ∙ ap (λ (x : ℕ). eqb (bit_at word x) 1) r

-- from a place on, all of a full word is marked
pub full_word : (ws : List ℕ) (at word : ℕ) → word ≡ get_or ws (at / 64) 0 → word ≡ 2 ^ 64 - 1 → (j : ℕ) → j < 64 - at % 64 → mark_at ws (at + j) ≡ true
full_word ws at word e full j h =
    let b : bit_at word (at % 64 + j) ≡ 1 = ap (λ (x : ℕ). bit_at x (at % 64 + j)) full ∙ bit_at_ones 64 (at % 64 + j) (omega arith) in
    mark-behind ws at j word e (omega arith) ∙ ap (λ (x : ℕ). eqb x 1) b

-- the bits of what is left of a word
bit_behind : (word k j : ℕ) → bit_at (word / 2 ^ k) j ≡ bit_at word (k + j)
bit_behind word k j = ap (λ (x : ℕ). x % 2) (div-div-eq-div-mul word (2 ^ k) (2 ^ j) ∙ ap (λ (x : ℕ). word / x) (sym (pow-add 2 k j)))

-- from a place on, nothing of a word is marked where nothing is left of it
pub empty_rest : (ws : List ℕ) (at word : ℕ) → word ≡ get_or ws (at / 64) 0 → word / 2 ^ (at % 64) ≡ 0 → (j : ℕ) → j < 64 - at % 64 → mark_at ws (at + j) ≡ false
empty_rest ws at word e none j h =
    let b : bit_at word (at % 64 + j) ≡ 0 = sym (bit_behind word (at % 64) j) ∙ ap (λ (x : ℕ). bit_at x j) none ∙ bit_at-zero j in
    mark-behind ws at j word e (omega arith) ∙ ap (λ (x : ℕ). eqb x 1) b

-- the first place that is marked in what is left of a word
pub first_rest : (ws : List ℕ) (at word first : ℕ) → word ≡ get_or ws (at / 64) 0 → word < 2 ^ 64 → word / 2 ^ (at % 64) ≢ 0 → first ≡ trailing_zeros w64 (word / 2 ^ (at % 64))
    → (mark_at ws (at + first) ≡ true) × ((j : ℕ) → j < first → mark_at ws (at + j) ≡ false)
first_rest ws at word first e fits some is =
    let rest = word / 2 ^ (at % 64) in
    let small : rest ≤ word = div-le_self word (2 ^ (at % 64)) in
    let t = bit_at-trailing_zeros w64 rest (omega arith) (omega arith) in
    let one : bit_at word (at % 64 + first) ≡ 1 = sym (bit_behind word (at % 64) first) ∙ ap (λ (x : ℕ). bit_at rest x) is ∙ t.1 in
    let inside : at % 64 + first < 64 = elim (cases_lt (at % 64 + first) 64) [
      | inl below ↦ below
      | inr above ↦ (let z : bit_at word (at % 64 + first) ≡ 0 = bit_at_above word 64 (at % 64 + first) fits above in absurd (omega (arith, z, one)))
    ] in (
      mark-behind ws at first word e inside ∙ ap (λ (x : ℕ). eqb x 1) one,
      λ j h. mark-behind ws at j word e (omega arith) ∙ ap (λ (x : ℕ). eqb x 1) (sym (bit_behind word (at % 64) j) ∙ t.2 j (omega (arith, is))),
    )

-- the test of the bit at a place
pub mark-test : (ws : List ℕ) (at word : ℕ) (b : Bool) → word ≡ get_or ws (at / 64) 0 → eqb (bit_and (word / 2 ^ (at % 64)) 1) 1 ≡ b → mark_at ws at ≡ b
mark-test ws at word b e t = ap (λ (x : ℕ). eqb (bit_at x (at % 64)) 1) (sym e) ∙ ap (λ (x : ℕ). eqb x 1) (sym (shr_and_one word (at % 64))) ∙ t

pub word_below : (ws : List ℕ) (base i end : ℕ) → base + end ≤ 64 * length ws → i < end → (base + i) / 64 < length ws
word_below ws base i end h l = div_below (base + i) 64 (length ws) (omega arith) (omega arith)

-- the places that are marked in a row from the first one of what is left of a word
pub ones_rest : (ws : List ℕ) (at word n : ℕ) → word ≡ get_or ws (at / 64) 0 → word + 1 < 2 ^ 64 → n ≡ trailing_ones w64 (word / 2 ^ (at % 64)) → bit_and (word / 2 ^ (at % 64)) 1 ≡ 1
    → (0 < n) × ((j : ℕ) → j < n → mark_at ws (at + j) ≡ true)
ones_rest ws at word n e fits is one =
    let rest = word / 2 ^ (at % 64) in
    let small : rest ≤ word = div-le_self word (2 ^ (at % 64)) in
    let t = bit_at-trailing_ones w64 rest (omega arith) in
    let first : bit_at rest 0 ≡ 1 = sym (shr_and_one rest 0) ∙ ap (λ (x : ℕ). bit_and x 1) (no_shift rest) ∙ one in
    let some : 0 < n = elim (cases_eq n 0) [
      | inl none ↦ absurd (omega (arith, first, subst (λ (x : ℕ). bit_at rest x ≡ 0) (sym is ∙ none) t.1))
      | inr more ↦ omega arith
    ] in (
      some,
      λ j h.
          (let b : bit_at word (at % 64 + j) ≡ 1 = sym (bit_behind word (at % 64) j) ∙ t.2 j (omega (arith, is)) in
          let inside : at % 64 + j < 64 = elim (cases_lt (at % 64 + j) 64) [
            | inl below ↦ below
            | inr above ↦ (let z : bit_at word (at % 64 + j) ≡ 0 = bit_at_above word 64 (at % 64 + j) (omega arith) above in absurd (omega (arith, z, b)))
          ] in
          mark-behind ws at j word e inside ∙ ap (λ (x : ℕ). eqb x 1) b),
    )
  where
    no_shift : (r : ℕ) → r / 2 ^ 0 ≡ r
    no_shift r = omega (arith, div-add-mod' r 1)
