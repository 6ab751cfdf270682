-- Words among bytes: what a word that is put leaves, and words that are there already.
use Rattle.std.proofs.Common.{◌≡◌, ◌≢◌, ◌⊎◌, ℕ, ◌+◌, ◌*◌, ◌/◌, ◌%◌, ◌<◌, ◌≤◌, List, [], ◌∷◌, length, get_or, set, refl, sym, ap, subst, ◌∙◌, inl, inr, arith}
use Rattle.std.proofs.lemmas.List.{get_or-set_same, get_or-set_other, set-get_or, length-set}
use Rattle.o2_world.specs.Heaps.{word, put_word, put_words}
pub use Rattle.o2_world.specs.Heaps.{AreBytes}

-- the two bytes of a word are at its place
pub record HasWord (bytes : List ℕ) (at w : ℕ) : Type 0 where
  pub low : get_or bytes at 0 ≡ w % 256
  pub high : get_or bytes (at + 1) 0 ≡ w / 256

-- two bytes that are there are those of the word there
parts : (x y : ℕ) → x < 256 → y < 256 → (x ≡ (x + 256 * y) % 256) × (y ≡ (x + 256 * y) / 256)
parts x y h k = (omega arith, omega arith)

pub word_is_there : (bytes : List ℕ) (at : ℕ) → AreBytes bytes → HasWord bytes at (word bytes at)
unfolding word
word_is_there bytes at b =
    let p = parts (get_or bytes at 0) (get_or bytes (at + 1) 0) (b.small at) (b.small (at + 1)) in
    record { low = p.0; high = p.1 }

pub word_there : (bytes : List ℕ) (at w : ℕ) → HasWord bytes at w → word bytes at ≡ w
unfolding word
word_there bytes at w h =
    let low : get_or bytes at 0 ≡ w % 256 = h.low in
    let high : get_or bytes (at + 1) 0 ≡ w / 256 = h.high in
    rw (low, high) (omega arith)

pub there_at : (bytes : List ℕ) (at w : ℕ) → AreBytes bytes → word bytes at ≡ w → HasWord bytes at w
there_at bytes at w b e = let P : ℕ → Type 0 = λ v. HasWord bytes at v in subst P e (word_is_there bytes at b)

-- a word that is there may be put
pub put_there : (bytes : List ℕ) (at w : ℕ) → HasWord bytes at w → put_word bytes (at, w) ≡ bytes
unfolding put_word
put_there bytes at w h =
    let low = ap (λ v. set bytes at v) (sym h.low) ∙ set-get_or bytes at 0 in
    let high = ap (λ v. set bytes (at + 1) v) (sym h.high) ∙ set-get_or bytes (at + 1) 0 in
    ap (λ bs. set bs (at + 1) (w / 256)) low ∙ high

-- a word is there behind it was put
pub put_has : (bytes : List ℕ) (at w : ℕ) → at + 2 ≤ length bytes → HasWord (put_word bytes (at, w)) at w
unfolding put_word
put_has bytes at w h =
    let apart : at ≢ at + 1 = λ e. absurd (omega (arith, e)) in
    let inside : at < length bytes = omega arith in
    let inside2 : at + 1 < length (set bytes at (w % 256)) = rw length-set (omega arith) in
    record {
      low = get_or-set_other (set bytes at (w % 256)) (at + 1) at (w / 256) 0 apart ∙ get_or-set_same bytes at (w % 256) 0 inside;
      high = get_or-set_same (set bytes at (w % 256)) (at + 1) (w / 256) 0 inside2;
    }

put_byte : (bytes : List ℕ) (at w i : ℕ) → i ≢ at → i ≢ at + 1 → get_or (put_word bytes (at, w)) i 0 ≡ get_or bytes i 0
unfolding put_word
put_byte bytes at w i one two =
    get_or-set_other (set bytes at (w % 256)) (at + 1) i (w / 256) 0 two ∙ get_or-set_other bytes at i (w % 256) 0 one

-- a byte outside a word stays
pub put_stays : (bytes : List ℕ) (at w i : ℕ) → (i < at) ⊎ (at + 2 ≤ i) → get_or (put_word bytes (at, w)) i 0 ≡ get_or bytes i 0
put_stays bytes at w i (inl h) = put_byte bytes at w i (λ e. absurd (omega (arith, e))) (λ e. absurd (omega (arith, e)))
put_stays bytes at w i (inr h) = put_byte bytes at w i (λ e. absurd (omega (arith, e))) (λ e. absurd (omega (arith, e)))

below : (at q : ℕ) → (at + 2 ≤ q) ⊎ (q + 2 ≤ at) → (q < at) ⊎ (at + 2 ≤ q)
below at q (inl h) = inr h
below at q (inr h) = inl (omega arith)

below_next : (at q : ℕ) → (at + 2 ≤ q) ⊎ (q + 2 ≤ at) → (q + 1 < at) ⊎ (at + 2 ≤ q + 1)
below_next at q (inl h) = inr (omega arith)
below_next at q (inr h) = inl (omega arith)

-- a word apart from one that is put stays
pub put_keeps : (bytes : List ℕ) (at w q v : ℕ) → (at + 2 ≤ q) ⊎ (q + 2 ≤ at) → HasWord bytes q v → HasWord (put_word bytes (at, w)) q v
put_keeps bytes at w q v far h = record {
  low = put_stays bytes at w q (below at q far) ∙ h.low;
  high = put_stays bytes at w (q + 1) (below_next at q far) ∙ h.high;
}

-- each word of a list is at its place
abbrev pub AreThere : List ℕ → List (ℕ × ℕ) → Type 0
AreThere bytes [] = Unit {0}
AreThere bytes ((at, w) ∷ ws) = HasWord bytes at w × AreThere bytes ws

-- words that are there may be put
pub put_all_there : (bytes : List ℕ) (ws : List (ℕ × ℕ)) → AreThere bytes ws → put_words bytes ws ≡ bytes
put_all_there bytes [] h = refl
put_all_there bytes ((at, w) ∷ ws) h =
    ap (λ bs. put_words bs ws) (put_there bytes at w h.0) ∙ put_all_there bytes ws h.1

-- words, the first of which is there, may be put without it
pub skip : (bytes : List ℕ) (at w : ℕ) (ws : List (ℕ × ℕ)) → HasWord bytes at w → put_words bytes ((at, w) ∷ ws) ≡ put_words bytes ws
skip bytes at w ws h = ap (λ bs. put_words bs ws) (put_there bytes at w h)

-- a word of bytes is a word
pub word_small : (bytes : List ℕ) (at w : ℕ) → AreBytes bytes → HasWord bytes at w → w < 65536
word_small bytes at w b h = omega (arith, h.low, h.high, b.small at, b.small (at + 1))
