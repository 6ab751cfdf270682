-- A heap whose control words are written is read again, and no other byte changes.
use Rattle.std.proofs.Common.{◌≡◌, ℕ, ◌+◌, ◌%◌, ◌≤◌, List, [], ◌∷◌, length, get_or, Some, refl, ◌∙◌, inl, inr, arith}
use Rattle.o2_world.specs.Heaps.{Heap, put_word, put_words, heap_of, first, block_words, controls, with_controls}
use Rattle.o2_world.proofs.HeapSizes.{put_length, words_length}
use Rattle.o2_subseg.specs.Laws.{IsOutside}
use Rattle.o2_subseg.proofs.Words.{HasWord, AreThere, put_has, put_keeps, put_stays}
use Rattle.o2_subseg.proofs.Chains.{AreLaid, IsHeap, heap_written}

-- a heap that may stand in so many bytes
pub record IsFit (n : ℕ) (h : Heap) : Type 0 where
  pub whole : h.size % 4 ≡ 0
  pub low : 12 ≤ h.size
  pub within : h.size ≤ n
  pub laid : AreLaid h.size 8 h.blocks

-- the words of blocks leave a word that lies before them, or between the words of the block before them
blocks_keep : (bytes : List ℕ) (size low q v : ℕ) (bs : List (ℕ × ℕ)) → q + 2 ≤ low → AreLaid size low bs → HasWord bytes q v
    → HasWord (put_words bytes (block_words bs)) q v
blocks_keep bytes size low q v [] h l w = w
blocks_keep bytes size low q v ((p, n) ∷ bs) h l w =
    let b = l.0.behind in
    let b1 = put_word bytes (p + 2, n) in
    let w1 = put_keeps bytes (p + 2) n q v (inr (omega (arith, b, h))) w in
    let w2 = put_keeps b1 p (first bs) q v (inr (omega (arith, b, h))) w1 in
    blocks_keep (put_word b1 (p, first bs)) size (p + n + 1) q v bs (omega (arith, b, h)) l.1 w2

-- the words of blocks are there behind they were put
blocks_there : (bytes : List ℕ) (size low : ℕ) (bs : List (ℕ × ℕ)) → size ≤ length bytes → AreLaid size low bs
    → AreThere (put_words bytes (block_words bs)) (block_words bs)
blocks_there bytes size low [] fits l = tt
blocks_there bytes size low ((p, n) ∷ bs) fits l =
    let b = l.0 in
    let b1 = put_word bytes (p + 2, n) in
    let b2 = put_word b1 (p, first bs) in
    let n1 = put_length bytes (p + 2, n) in
    let n2 = put_length b1 (p, first bs) in
    let one = put_has bytes (p + 2) n (omega (arith, b.long, b.within, fits)) in
    let two = put_keeps b1 p (first bs) (p + 2) n (inl (omega arith)) one in
    let next = put_has b1 p (first bs) (omega (arith, b.long, b.within, fits, n1)) in (
      blocks_keep b2 size (p + n + 1) (p + 2) n bs (omega (arith, b.long)) l.1 two,
      (
        blocks_keep b2 size (p + n + 1) p (first bs) bs (omega (arith, b.long)) l.1 next,
        blocks_there b2 size (p + n + 1) bs (omega (arith, fits, n1, n2)) l.1,
      ),
    )

-- a heap whose words are written is there
pub written_there : (bytes : List ℕ) (h : Heap) → IsFit (length bytes) h → IsHeap (with_controls h bytes) h
unfolding with_controls
written_there bytes h i =
    let f = first h.blocks in
    let b0 = put_word bytes (0, 0x4253) in
    let b1 = put_word b0 (2, h.size) in
    let b2 = put_word b1 (6, 0) in
    let b3 = put_word b2 (4, f) in
    let n0 = put_length bytes (0, 0x4253) in
    let n1 = put_length b0 (2, h.size) in
    let n2 = put_length b1 (6, 0) in
    let n3 = put_length b2 (4, f) in
    let mark0 = put_has bytes 0 0x4253 (omega (arith, i.low, i.within)) in
    let mark1 = put_keeps b0 2 h.size 0 0x4253 (inr (omega arith)) mark0 in
    let mark2 = put_keeps b1 6 0 0 0x4253 (inr (omega arith)) mark1 in
    let mark3 = put_keeps b2 4 f 0 0x4253 (inr (omega arith)) mark2 in
    let size1 = put_has b0 2 h.size (omega (arith, i.low, i.within, n0)) in
    let size2 = put_keeps b1 6 0 2 h.size (inr (omega arith)) size1 in
    let size3 = put_keeps b2 4 f 2 h.size (inr (omega arith)) size2 in
    let zero2 = put_has b1 6 0 (omega (arith, i.low, i.within, n0, n1)) in
    let zero3 = put_keeps b2 4 f 6 0 (inl (omega arith)) zero2 in
    let link3 = put_has b2 4 f (omega (arith, i.low, i.within, n0, n1, n2)) in
    record {
      mark = blocks_keep b3 h.size 8 0 0x4253 h.blocks (omega arith) i.laid mark3;
      size = blocks_keep b3 h.size 8 2 h.size h.blocks (omega arith) i.laid size3;
      zero_word = blocks_keep b3 h.size 8 6 0 h.blocks (omega arith) i.laid zero3;
      whole = i.whole;
      low = i.low;
      within = omega (arith, i.within, n0, n1, n2, n3, words_length b3 (block_words h.blocks));
      chain = record {
        laid = i.laid;
        linked = blocks_keep b3 h.size 8 4 f h.blocks (omega arith) i.laid link3;
        there = blocks_there b3 h.size 8 h.blocks (omega (arith, i.within, n0, n1, n2, n3)) i.laid;
      };
    }

-- a heap whose words are written is read again
pub written_read : (bytes : List ℕ) (h : Heap) → IsFit (length bytes) h → heap_of (with_controls h bytes) ≡ Some h
written_read bytes h i = heap_written (with_controls h bytes) h (written_there bytes h i)

words_stay : (bytes : List ℕ) (i : ℕ) (ws : List (ℕ × ℕ)) → IsOutside i ws → get_or (put_words bytes ws) i 0 ≡ get_or bytes i 0
words_stay bytes i [] o = refl
words_stay bytes i ((at, w) ∷ ws) o = words_stay (put_word bytes (at, w)) i ws o.1 ∙ put_stays bytes at w i o.0

-- a byte outside the control words stays
pub others_stay : (bytes : List ℕ) (h : Heap) (i : ℕ) → IsOutside i (controls h) → get_or (with_controls h bytes) i 0 ≡ get_or bytes i 0
unfolding with_controls
others_stay bytes h i o = words_stay bytes i (controls h) o
