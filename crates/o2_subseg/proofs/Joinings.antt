-- What a range that is freed leaves: the words of its plan give the bytes that all control words give.
use Rattle.std.proofs.Common.{◌≡◌, ◌≢◌, ℕ, ◌+◌, ◌<◌, ◌≤◌, Bool, true, false, ◌&&◌, ◌||◌, ◌==◌, nat_le, nat_lt, List, [], ◌∷◌, Option, Some, None, if◌then◌else◌, refl, sym, ap, subst, ◌∙◌, inl, arith}
use Rattle.std.proofs.lemmas.Bool.Decides.{nat_tests}
use Rattle.o2_subseg.specs.declared.block.Block.{Block}
use Rattle.o2_subseg.specs.declared.scan.Seek.TheVariants.{Offset}
use Rattle.o2_subseg.specs.declared.scan.Spot.{Spot}
use Rattle.o2_world.specs.Heaps.{Heap, word, put_word, put_words, first, block_words, with_controls}
use Rattle.o2_world.specs.HeapRulings.{insert, join, meets}
use Rattle.o2_subseg.specs.Spots.{spot_in, link_of, freed_words, more_at, next_at, spot_of}
use Rattle.o2_subseg.proofs.Words.{AreThere, word_there, put_keeps, put_all_there, skip}
use Rattle.o2_subseg.proofs.Chains.{AreLaid, IsChain, IsHeap}
use Rattle.o2_subseg.proofs.Searches.{block, spot, passes_here, passes_later, EndsBefore, lt_false}
use Rattle.o2_subseg.proofs.Takings.{words_kept}

-- the words of a block, put at a link to it, before blocks whose words are there
put_front : (bytes : List ℕ) (size low at len : ℕ) (bs : List (ℕ × ℕ)) → at + 4 ≤ low → AreLaid size low bs → AreThere bytes (block_words bs)
    → put_words bytes ((at + 2, len) ∷ (at, first bs) ∷ block_words bs) ≡ put_words bytes ((at + 2, len) ∷ (at, first bs) ∷ [])
put_front bytes size low at len bs h laid there =
    let b1 = put_word bytes (at + 2, len) in
    let t1 = words_kept bytes size low (at + 2) len bs (omega (arith, h)) laid there in
    put_all_there (put_word b1 (at, first bs)) (block_words bs) (words_kept b1 size low at (first bs) bs (omega (arith, h)) laid t1)

pub is_le : (a b : ℕ) → a ≤ b → nat_le a b ≡ true
is_le a b h = grind (arith, nat_tests)

is_lt : (a b : ℕ) → a < b → nat_lt a b ≡ true
is_lt a b h = grind (arith, nat_tests)

differ : true ≡ false → ⊥
differ e = cc

not_le : (a b : ℕ) → b < a → nat_le a b ≡ false
not_le a b h = grind (arith, nat_tests)

pub lt_true : (a b : ℕ) → nat_lt a b ≡ true → a < b
lt_true a b h = grind (arith, nat_tests)

not_same : (a b : ℕ) → a < b → (a == b) ≡ false
not_same a b h = grind (arith, nat_tests)

are_same : (a b : ℕ) → (a == b) ≡ true → a ≡ b
are_same a b h = grind (arith, nat_tests)

are_apart : (a b : ℕ) → (a == b) ≡ false → a ≢ b
are_apart a b h = grind (arith, nat_tests)

pub clear_first : (a b : Bool) → (a || b) ≡ false → a ≡ false
clear_first true b h = cc
clear_first false b h = refl

pub clear_rest : (a b : Bool) → (a || b) ≡ false → b ≡ false
clear_rest true b h = cc
clear_rest false b h = h

one_fails : (a b : Bool) → (a && b) ≡ false → a ≡ true → b ≡ false
one_fails true b h e = h
one_fails false b h e = cc

-- a block that begins before a range, which doesn't meet or touch it, ends before it
pub ends_before : (p l o c : ℕ) → (nat_lt p (o + c) && nat_lt o (p + l)) ≡ false → (p + l == o) ≡ false → p < o → p + l < o
ends_before p l o c f t h =
    let a = lt_false o (p + l) (one_fails (nat_lt p (o + c)) (nat_lt o (p + l)) f (is_lt p (o + c) (omega (arith, h)))) in
    let b = are_apart (p + l) o t in
    omega (arith, a, b)

other_fails : (a b : Bool) → (a && b) ≡ false → b ≡ true → a ≡ false
other_fails true b h e = absurd (differ (sym e ∙ h))
other_fails false b h e = refl

-- a block that begins in a range or behind it, which doesn't meet it, begins behind it
pub begins_behind : (p l o c : ℕ) → (nat_lt p (o + c) && nat_lt o (p + l)) ≡ false → o ≤ p → 4 ≤ l → o + c ≤ p
begins_behind p l o c f h long =
    lt_false p (o + c) (other_fails (nat_lt p (o + c)) (nat_lt o (p + l)) f (is_lt o (p + l) (omega (arith, h, long))))

-- blocks from a place on that a range from there doesn't meet lie behind it
pub clear_behind : (size low o c : ℕ) (bs : List (ℕ × ℕ)) → o ≤ low → AreLaid size low bs → meets o (o + c) bs ≡ false → AreLaid size (o + c) bs
clear_behind size low o c [] h laid clear = tt
clear_behind size low o c ((p, l) ∷ bs) h laid clear =
    let b = laid.0 in
    let f = clear_first (nat_lt p (o + c) && nat_lt o (p + l)) (meets o (o + c) bs) clear in
    let behind = begins_behind p l o c f (omega (arith, h, b.behind)) b.long in
    (record { whole = b.whole; behind = behind; whole_length = b.whole_length; long = b.long; within = b.within }, laid.1)

laid_at : (size low lower : ℕ) (bs : List (ℕ × ℕ)) → lower ≡ low → AreLaid size low bs → AreLaid size lower bs
laid_at size low lower bs e laid = let P : ℕ → Type 0 = λ n. AreLaid size n bs in subst P (sym e) laid

-- the words of a block that was joined with the one behind it where they touch
abbrev joined_words : List ℕ → Option Block → ℕ → ℕ → List (ℕ × ℕ)
joined_words bytes found at len = (at + 2, len + more_at found (at + len)) ∷ (at, next_at bytes found (at + len)) ∷ []

-- the first block of a list
abbrev front : List (ℕ × ℕ) → Option Block
front [] = None
front ((at, len) ∷ bs) = Some (block at len)

two_same : (bytes : List ℕ) (at a b x y : ℕ) → a ≡ b → x ≡ y
    → put_words bytes ((at + 2, a) ∷ (at, x) ∷ []) ≡ put_words bytes ((at + 2, b) ∷ (at, y) ∷ [])
two_same bytes at a b x y e f = rw (e, f) refl

join_arms : (from bytes : List ℕ) (size at len p l : ℕ) (bs : List (ℕ × ℕ)) (touch : Bool) → (at + len == p) ≡ touch → at + len ≤ p → 4 ≤ len
    → AreLaid size p ((p, l) ∷ bs) → AreThere from (block_words ((p, l) ∷ bs)) → AreThere bytes (block_words ((p, l) ∷ bs))
    → put_words bytes (block_words (if touch then (at, len + l) ∷ bs else (at, len) ∷ (p, l) ∷ bs))
    ≡ put_words bytes ((at + 2, len + (if touch then l else 0)) ∷ (at, (if touch then word from p else p)) ∷ [])
join_arms from bytes size at len p l bs true e h long laid old there =
    put_front bytes size (p + l + 1) at (len + l) bs (omega (arith, h, long)) laid.1 there.1.1
    ∙ two_same bytes at (len + l) (len + l) (first bs) (word from p) refl (sym (word_there from p (first bs) old.1.0))
join_arms from bytes size at len p l bs false e h long laid old there =
    put_front bytes size p at len ((p, l) ∷ bs) (omega (arith, h, long)) laid there
    ∙ two_same bytes at len (len + 0) p p (omega arith) refl

-- a block is joined with the first of those behind it where they touch; the plan reads the words of `from`
joins : (from bytes : List ℕ) (size at len : ℕ) (bs : List (ℕ × ℕ)) → 4 ≤ len → AreLaid size (at + len) bs
    → AreThere from (block_words bs) → AreThere bytes (block_words bs)
    → put_words bytes (block_words (join (at, len) bs)) ≡ put_words bytes (joined_words from (front bs) at len)
joins from bytes size at len [] long laid old there = two_same bytes at len (len + 0) 0 0 (omega arith) refl
joins from bytes size at len ((p, l) ∷ bs) long laid old there =
    let b = laid.0 in
    let at_p : AreLaid size p ((p, l) ∷ bs) =
    (record { whole = b.whole; behind = omega arith; whole_length = b.whole_length; long = b.long; within = b.within }, laid.1) in
    join_arms from bytes size at len p l bs (at + len == p) refl b.behind long at_p old there

first_arms : (at len p l : ℕ) (bs : List (ℕ × ℕ)) (touch : Bool) → first (if touch then (at, len + l) ∷ bs else (at, len) ∷ (p, l) ∷ bs) ≡ at
first_arms at len p l bs true = refl
first_arms at len p l bs false = refl

joined_first : (at len : ℕ) (bs : List (ℕ × ℕ)) → first (join (at, len) bs) ≡ at
joined_first at len [] = refl
joined_first at len ((p, l) ∷ bs) = first_arms at len p l bs (at + len == p)

-- a search for a place ends at once among blocks that lie behind it
all_pass : (o size low : ℕ) (before : Option Block) (bs : List (ℕ × ℕ)) → o ≤ low → AreLaid size low bs
    → spot_in (Offset o) (spot size before None) bs ≡ spot size before (front bs)
all_pass o size low before [] h laid = refl
all_pass o size low before ((at, len) ∷ bs) h laid =
    passes_here (Offset o) size before at len bs (is_le o at (omega (arith, h, laid.0.behind)))

-- the words of a range that touches no block before it
freed_apart : (from : List ℕ) (before found : Option Block) (link o c : ℕ) → EndsBefore o before → link_of before ≡ link
    → freed_words from before found o c ≡ (link, o) ∷ joined_words from found o c
freed_apart from None found link o c ends l = ap (λ k. (k, o) ∷ joined_words from found o c) l
freed_apart from (Some b) found link o c ends l =
    let far : (b.offset + b.length == o) ≡ false = not_same (b.offset + b.length) o ends in
    rw far (ap (λ k. (k, o) ∷ joined_words from found o c) l)

-- the words of a range that touches the block before it
freed_touching : (from : List ℕ) (found : Option Block) (p l o c : ℕ) → (p + l == o) ≡ true
    → freed_words from (Some (block p l)) found o c ≡ joined_words from found p (l + c)
freed_touching from found p l o c e =
    let same : o + c ≡ p + (l + c) = omega (arith, are_same (p + l) o e) in
    rw e (ap (λ end. (p + 2, (l + c) + more_at found end) ∷ (p, next_at from found end) ∷ []) same)

-- the words of blocks with a range, and those of its plan, give the same bytes
abbrev Frees : List ℕ → List ℕ → ℕ → ℕ → ℕ → List (ℕ × ℕ) → Spot → Type 0
Frees from bytes link o c left s = put_words bytes ((link, first left) ∷ block_words left) ≡ put_words bytes (freed_words from s.before s.found o c)

-- a range before all blocks of a list
free_before : (from bytes : List ℕ) (size low link o c : ℕ) (before : Option Block) (bs : List (ℕ × ℕ)) → link_of before ≡ link → link + 2 ≤ low
    → 4 ≤ c → EndsBefore o before → AreLaid size low bs → AreLaid size (o + c) bs → AreThere from (block_words bs) → AreThere bytes (block_words bs)
    → Frees from bytes link o c (join (o, c) bs) (spot size before (front bs))
free_before from bytes size low link o c before bs l h long ends laid behind old there =
    let b1 = put_word bytes (link, o) in
    ap (λ k. put_words bytes ((link, k) ∷ block_words (join (o, c) bs))) (joined_first o c bs)
    ∙ joins from b1 size o c bs long behind old (words_kept bytes size low link o bs h laid there)
    ∙ ap (put_words bytes) (sym (freed_apart from before (front bs) link o c ends l))

-- a range behind a block that it touches
free_touching : (from bytes : List ℕ) (size low link p l o c : ℕ) (bs : List (ℕ × ℕ)) → (p + l == o) ≡ true → IsChain bytes size low link ((p, l) ∷ bs)
    → AreThere from (block_words bs) → meets o (o + c) bs ≡ false → 4 ≤ c
    → Frees from bytes link o c (join (p, l + c) bs) (spot size (Some (block p l)) (front bs))
free_touching from bytes size low link p l o c bs e chain old clear long =
    let b = chain.laid.0 in
    let same = are_same (p + l) o e in
    let behind = clear_behind size (p + l + 1) o c bs (omega (arith, same)) chain.laid.1 clear in
    let laid = laid_at size (o + c) (p + (l + c)) bs (omega (arith, same)) behind in
    ap (λ k. put_words bytes ((link, k) ∷ block_words (join (p, l + c) bs))) (joined_first p (l + c) bs)
    ∙ skip bytes link p (block_words (join (p, l + c) bs)) chain.linked
    ∙ joins from bytes size p (l + c) bs (omega (arith, long)) laid old chain.there.1.1
    ∙ ap (put_words bytes) (sym (freed_touching from (front bs) p l o c e))

-- a range behind a block that it doesn't touch
free_later : (from bytes : List ℕ) (size low link p l o c : ℕ) (left : List (ℕ × ℕ)) (bs : List (ℕ × ℕ)) (s : Spot) → IsChain bytes size low link ((p, l) ∷ bs)
    → Frees from bytes p o c left s → Frees from bytes link o c ((p, l) ∷ left) s
free_later from bytes size low link p l o c left bs s chain f =
    skip bytes link p ((p + 2, l) ∷ (p, first left) ∷ block_words left) chain.linked
    ∙ skip bytes (p + 2) l ((p, first left) ∷ block_words left) chain.there.0
    ∙ f

free_arms : (from bytes : List ℕ) (size low link p l o c : ℕ) (before : Option Block) (bs : List (ℕ × ℕ)) (touch below : Bool)
    → (p + l == o) ≡ touch → nat_lt p o ≡ below → link_of before ≡ link → link + 2 ≤ low → 4 ≤ c → EndsBefore o before
    → IsChain bytes size low link ((p, l) ∷ bs) → AreThere from (block_words ((p, l) ∷ bs)) → meets o (o + c) ((p, l) ∷ bs) ≡ false
    → (EndsBefore o (Some (block p l)) → meets o (o + c) bs ≡ false → Frees from bytes p o c (insert (o, c) bs) (spot_in (Offset o) (spot size (Some (block p l)) None) bs))
    → Frees from bytes link o c (if touch then join (p, l + c) bs else if below then (p, l) ∷ insert (o, c) bs else join (o, c) ((p, l) ∷ bs))
    (spot_in (Offset o) (spot size before None) ((p, l) ∷ bs))
free_arms from bytes size low link p l o c before bs true below t u k h long ends chain old clear later =
    let b = chain.laid.0 in
    let same = are_same (p + l) o t in
    let e : nat_le o p ≡ false = not_le o p (omega (arith, same, b.long)) in
    let P : Spot → Type 0 = λ s. Frees from bytes link o c (join (p, l + c) bs) s in
    subst P (sym (passes_later (Offset o) size before p l bs e ∙ all_pass o size (p + l + 1) (Some (block p l)) bs (omega (arith, same)) chain.laid.1))
    (free_touching from bytes size low link p l o c bs t chain old.1.1 (clear_rest (nat_lt p (o + c) && nat_lt o (p + l)) (meets o (o + c) bs) clear) long)
free_arms from bytes size low link p l o c before bs false true t u k h long ends chain old clear later =
    let e : nat_le o p ≡ false = not_le o p (lt_true p o u) in
    let f = clear_first (nat_lt p (o + c) && nat_lt o (p + l)) (meets o (o + c) bs) clear in
    let far : p + l < o = ends_before p l o c f t (lt_true p o u) in
    let P : Spot → Type 0 = λ s. Frees from bytes link o c ((p, l) ∷ insert (o, c) bs) s in
    subst P (sym (passes_later (Offset o) size before p l bs e))
    (free_later from bytes size low link p l o c (insert (o, c) bs) bs (spot_in (Offset o) (spot size (Some (block p l)) None) bs) chain
    (later far (clear_rest (nat_lt p (o + c) && nat_lt o (p + l)) (meets o (o + c) bs) clear)))
free_arms from bytes size low link p l o c before bs false false t u k h long ends chain old clear later =
    let b = chain.laid.0 in
    let after : o ≤ p = lt_false p o u in
    let f = clear_first (nat_lt p (o + c) && nat_lt o (p + l)) (meets o (o + c) bs) clear in
    let behind : o + c ≤ p = begins_behind p l o c f after b.long in
    let moved : AreLaid size (o + c) ((p, l) ∷ bs) =
    (record { whole = b.whole; behind = behind; whole_length = b.whole_length; long = b.long; within = b.within }, chain.laid.1) in
    let P : Spot → Type 0 = λ s. Frees from bytes link o c (join (o, c) ((p, l) ∷ bs)) s in
    subst P (sym (passes_here (Offset o) size before p l bs (is_le o p after)))
    (free_before from bytes size low link o c before ((p, l) ∷ bs) k h long ends chain.laid moved old chain.there)

-- a range freed among the blocks of a chain
pub frees : (from bytes : List ℕ) (size low link o c : ℕ) (before : Option Block) (bs : List (ℕ × ℕ)) → link_of before ≡ link → link + 2 ≤ low → 4 ≤ c
    → EndsBefore o before → IsChain bytes size low link bs → AreThere from (block_words bs) → meets o (o + c) bs ≡ false
    → Frees from bytes link o c (insert (o, c) bs) (spot_in (Offset o) (spot size before None) bs)
frees from bytes size low link o c before [] k h long ends chain old clear =
    free_before from bytes size low link o c before [] k h long ends tt tt tt tt
frees from bytes size low link o c before ((p, l) ∷ bs) k h long ends chain old clear =
    free_arms from bytes size low link p l o c before bs (p + l == o) (nat_lt p o) refl refl k h long ends chain old clear
    (λ far rest. frees from bytes size (p + l + 1) p o c (Some (block p l)) bs refl (omega (arith, chain.laid.0.long)) long far
    (record { laid = chain.laid.1; linked = chain.there.1.0; there = chain.there.1.1 }) old.1.1 rest)

-- the heap that a range leaves, which may have another size
pub heap_frees : (bytes : List ℕ) (h : Heap) (size o c : ℕ) → IsHeap bytes h → 4 ≤ c → meets o (o + c) h.blocks ≡ false
    → with_controls (record { size = size; blocks = insert (o, c) h.blocks }) bytes
    ≡ put_words bytes ((2, size) ∷ freed_words bytes (spot_of (Offset o) h).before (spot_of (Offset o) h).found o c)
unfolding with_controls
heap_frees bytes h size o c i long clear =
    let left = insert (o, c) h.blocks in
    let b1 = put_word bytes (2, size) in
    let zero = put_keeps bytes 2 size 6 0 (inl (omega arith)) i.zero_word in
    let chain : IsChain b1 h.size 8 4 h.blocks = record {
      laid = i.chain.laid;
      linked = put_keeps bytes 2 size 4 (first h.blocks) (inl (omega arith)) i.chain.linked;
      there = words_kept bytes h.size 8 2 size h.blocks (omega arith) i.chain.laid i.chain.there;
    } in
    skip bytes 0 0x4253 ((2, size) ∷ (6, 0) ∷ (4, first left) ∷ block_words left) i.mark
    ∙ skip b1 6 0 ((4, first left) ∷ block_words left) zero
    ∙ frees bytes b1 h.size 8 4 o c None h.blocks refl (omega arith) long tt chain i.chain.there clear
