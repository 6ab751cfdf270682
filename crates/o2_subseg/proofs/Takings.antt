-- What a block that is taken leaves: the words of its plan give the bytes that all control words give.
use Rattle.std.proofs.Common.{◌≡◌, ℕ, ◌+◌, ◌-◌, ◌%◌, ◌<◌, ◌≤◌, Bool, true, false, ◌==◌, nat_le, List, [], ◌∷◌, Option, Some, None, option_map, if◌then◌else◌, refl, sym, ap, subst, ◌∙◌, inl, arith}
use Rattle.std.proofs.lemmas.Bool.Decides.{nat_tests}
use Rattle.o2_subseg.specs.declared.block.Block.{Block}
use Rattle.o2_subseg.specs.declared.scan.Seek.TheVariants.{Length}
use Rattle.o2_subseg.specs.declared.scan.Spot.{Spot}
use Rattle.o2_world.specs.Heaps.{Heap, word, put_word, put_words, first, block_words, with_controls}
use Rattle.o2_world.specs.HeapRulings.{take_from}
use Rattle.o2_subseg.specs.Spots.{spot_in, link_of, taken_words, spot_of}
use Rattle.o2_subseg.proofs.Words.{AreThere, word_there, put_keeps, put_all_there, skip}
use Rattle.o2_subseg.proofs.Chains.{AreLaid, IsChain, IsHeap}
use Rattle.o2_subseg.proofs.Searches.{block, spot, passes_here, passes_later, le_true}

-- words of blocks stay where a word before them is put
pub words_kept : (bytes : List ℕ) (size low at w : ℕ) (bs : List (ℕ × ℕ)) → at + 2 ≤ low → AreLaid size low bs
    → AreThere bytes (block_words bs) → AreThere (put_word bytes (at, w)) (block_words bs)
words_kept bytes size low at w [] h laid there = tt
words_kept bytes size low at w ((p, l) ∷ bs) h laid there =
    let b = laid.0.behind in (
      put_keeps bytes at w (p + 2) l (inl (omega (arith, b, h))) there.0,
      (
        put_keeps bytes at w p (first bs) (inl (omega (arith, b, h))) there.1.0,
        words_kept bytes size (p + l + 1) at w bs (omega (arith, b, h)) laid.1 there.1.1,
      ),
    )

-- the words of blocks that are there needn't be put behind one more
pub put_link : (bytes : List ℕ) (size low at w : ℕ) (bs : List (ℕ × ℕ)) → at + 2 ≤ low → AreLaid size low bs → AreThere bytes (block_words bs)
    → put_words (put_word bytes (at, w)) (block_words bs) ≡ put_word bytes (at, w)
put_link bytes size low at w bs h laid there =
    put_all_there (put_word bytes (at, w)) (block_words bs) (words_kept bytes size low at w bs h laid there)

-- a block was found, at the offset that is answered, and its words give the bytes of the blocks that are left
pub record IsTaken (bytes : List ℕ) (size link value : ℕ) (left : List (ℕ × ℕ)) (s : Spot) : Type 0 where
  pub at : Block
  pub found : s.found ≡ Some at
  pub at_value : at.offset ≡ value
  pub words : put_words bytes ((link, first left) ∷ block_words left) ≡ put_words bytes (taken_words bytes s.before at size)

-- where no block is long enough none was found
abbrev pub Takes : List ℕ → ℕ → ℕ → Option (ℕ × List (ℕ × ℕ)) → Spot → Type 0
Takes bytes size link None s = s.found ≡ None
Takes bytes size link (Some t) s = IsTaken bytes size link t.0 t.1 s

whole_taken : (bytes : List ℕ) (size low link at len : ℕ) (bs : List (ℕ × ℕ)) → link + 2 ≤ low → IsChain bytes size low link ((at, len) ∷ bs)
    → put_words bytes ((link, first bs) ∷ block_words bs) ≡ put_words bytes ((link, word bytes at) ∷ [])
whole_taken bytes size low link at len bs h c =
    let b = c.laid.0 in
    put_link bytes size (at + len + 1) link (first bs) bs (omega (arith, b.behind, h)) c.laid.1 c.there.1.1
    ∙ ap (λ v. put_word bytes (link, v)) (sym (word_there bytes at (first bs) c.there.1.0))

front_taken : (bytes : List ℕ) (size low link at len count : ℕ) (bs : List (ℕ × ℕ)) → link + 2 ≤ low → count % 4 ≡ 0 → count < len
    → IsChain bytes size low link ((at, len) ∷ bs)
    → put_words bytes ((link, at + count) ∷ ((at + count) + 2, len - count) ∷ (at + count, first bs) ∷ block_words bs)
    ≡ put_words bytes ((link, at + count) ∷ ((at + count) + 2, len - count) ∷ (at + count, word bytes at) ∷ [])
front_taken bytes size low link at len count bs h whole less c =
    let b = c.laid.0 in
    let low2 = at + len + 1 in
    let room : count + 4 ≤ len = omega (arith, b.whole_length, whole, less) in
    let b1 = put_word bytes (link, at + count) in
    let t1 = words_kept bytes size low2 link (at + count) bs (omega (arith, b.behind, h)) c.laid.1 c.there.1.1 in
    let b2 = put_word b1 ((at + count) + 2, len - count) in
    let t2 = words_kept b1 size low2 ((at + count) + 2) (len - count) bs (omega (arith, room)) c.laid.1 t1 in
    put_link b2 size low2 (at + count) (first bs) bs (omega (arith, room)) c.laid.1 t2
    ∙ ap (λ v. put_word b2 (at + count, v)) (sym (word_there bytes at (first bs) c.there.1.0))

not_same : (a b : ℕ) → (a == b) ≡ false → a ≤ b → a < b
not_same a b e h = grind (arith, nat_tests)

taken_whole : (bytes : List ℕ) (link at len count : ℕ) (before : Option Block) → (count == len) ≡ true → link_of before ≡ link
    → put_words bytes ((link, word bytes at) ∷ []) ≡ put_words bytes (taken_words bytes before (block at len) count)
taken_whole bytes link at len count before e l = rw (e, l) refl

taken_front : (bytes : List ℕ) (link at len count : ℕ) (before : Option Block) → (count == len) ≡ false → link_of before ≡ link
    → put_words bytes ((link, at + count) ∷ ((at + count) + 2, len - count) ∷ (at + count, word bytes at) ∷ [])
    ≡ put_words bytes (taken_words bytes before (block at len) count)
taken_front bytes link at len count before e l = rw (e, l) refl

taken_by : (bytes : List ℕ) (size low link at len count : ℕ) (before : Option Block) (bs : List (ℕ × ℕ)) (same : Bool) → (count == len) ≡ same
    → link_of before ≡ link → link + 2 ≤ low → count % 4 ≡ 0 → count ≤ len → IsChain bytes size low link ((at, len) ∷ bs)
    → IsTaken bytes count link at (if same then bs else (at + count, len - count) ∷ bs) (spot size before (Some (block at len)))
taken_by bytes size low link at len count before bs true e l h whole less c = record {
  at = block at len;
  found = refl;
  at_value = refl;
  words = whole_taken bytes size low link at len bs h c ∙ taken_whole bytes link at len count before e l;
}
taken_by bytes size low link at len count before bs false e l h whole less c = record {
  at = block at len;
  found = refl;
  at_value = refl;
  words = front_taken bytes size low link at len count bs h whole (not_same count len e less) c ∙ taken_front bytes link at len count before e l;
}

-- a block taken behind one that stays
taken_later : (bytes : List ℕ) (size low link at len count : ℕ) (bs : List (ℕ × ℕ)) (r : Option (ℕ × List (ℕ × ℕ))) (s : Spot)
    → IsChain bytes size low link ((at, len) ∷ bs) → Takes bytes count at r s
    → Takes bytes count link (option_map (λ t. (t.0, (at, len) ∷ t.1)) r) s
taken_later bytes size low link at len count bs None s c t = t
taken_later bytes size low link at len count bs (Some (v, left)) s c t = record {
  at = t.at;
  found = t.found;
  at_value = t.at_value;
  words = skip bytes link at ((at + 2, len) ∷ (at, first left) ∷ block_words left) c.linked
      ∙ skip bytes (at + 2) len ((at, first left) ∷ block_words left) c.there.0
      ∙ t.words;
}

takes_arms : (bytes : List ℕ) (size low link count : ℕ) (before : Option Block) (at len : ℕ) (bs : List (ℕ × ℕ)) (p : Bool) → nat_le count len ≡ p
    → link_of before ≡ link → link + 2 ≤ low → count % 4 ≡ 0 → IsChain bytes size low link ((at, len) ∷ bs)
    → Takes bytes count at (take_from count bs) (spot_in (Length count) (spot size (Some (block at len)) None) bs)
    → Takes bytes count link (if p then Some (at, (if count == len then bs else (at + count, len - count) ∷ bs)) else option_map (λ t. (t.0, (at, len) ∷ t.1)) (take_from count bs))
    (spot_in (Length count) (spot size before None) ((at, len) ∷ bs))
takes_arms bytes size low link count before at len bs true e l h whole c later =
    let left = if count == len then bs else (at + count, len - count) ∷ bs in
    let P : Spot → Type 0 = λ s. IsTaken bytes count link at left s in
    subst P (sym (passes_here (Length count) size before at len bs e)) (taken_by bytes size low link at len count before bs (count == len) refl l h whole (le_true count len e) c)
takes_arms bytes size low link count before at len bs false e l h whole c later =
    let P : Spot → Type 0 = λ s. Takes bytes count link (option_map (λ t. (t.0, (at, len) ∷ t.1)) (take_from count bs)) s in
    subst P (sym (passes_later (Length count) size before at len bs e)) (taken_later bytes size low link at len count bs (take_from count bs) (spot_in (Length count) (spot size (Some (block at len)) None) bs) c later)

-- a block taken of those of a chain
pub takes : (bytes : List ℕ) (size low link count : ℕ) (before : Option Block) (bs : List (ℕ × ℕ)) → link_of before ≡ link → link + 2 ≤ low
    → count % 4 ≡ 0 → IsChain bytes size low link bs
    → Takes bytes count link (take_from count bs) (spot_in (Length count) (spot size before None) bs)
takes bytes size low link count before [] l h whole c = refl
takes bytes size low link count before ((at, len) ∷ bs) l h whole c =
    let b = c.laid.0 in
    takes_arms bytes size low link count before at len bs (nat_le count len) refl l h whole c
    (takes bytes size (at + len + 1) at count (Some (block at len)) bs refl (omega (arith, b.long)) whole
    (record { laid = c.laid.1; linked = c.there.1.0; there = c.there.1.1 }))

-- the bytes with the words of blocks, and with all control words of a heap whose header is there
pub with_header : (bytes : List ℕ) (h : Heap) (bs : List (ℕ × ℕ)) → IsHeap bytes h
    → with_controls (record { size = h.size; blocks = bs }) bytes ≡ put_words bytes ((4, first bs) ∷ block_words bs)
unfolding with_controls
with_header bytes h bs i =
    skip bytes 0 0x4253 ((2, h.size) ∷ (6, 0) ∷ (4, first bs) ∷ block_words bs) i.mark
    ∙ skip bytes 2 h.size ((6, 0) ∷ (4, first bs) ∷ block_words bs) i.size
    ∙ skip bytes 6 0 ((4, first bs) ∷ block_words bs) i.zero_word

-- what a call takes of a heap
pub heap_takes : (bytes : List ℕ) (h : Heap) (count : ℕ) → count % 4 ≡ 0 → IsHeap bytes h
    → Takes bytes count 4 (take_from count h.blocks) (spot_of (Length count) h)
heap_takes bytes h count whole i = takes bytes h.size 8 4 count None h.blocks refl (omega arith) whole i.chain
