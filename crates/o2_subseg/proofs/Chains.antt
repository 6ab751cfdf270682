-- Chains of free blocks: what is true of those that are read, and that those that are written are read again.
use Rattle.std.proofs.Common.{◌≡◌, ℕ, zero, suc, ◌+◌, ◌-◌, ◌*◌, ◌/◌, ◌%◌, ◌<◌, ◌≤◌, Bool, true, false, ◌&&◌, ◌==◌, nat_le, List, [], ◌∷◌, length, Option, Some, None, option_map, if◌then◌else◌, refl, sym, ap, subst, ◌∙◌, arith}
use Rattle.std.proofs.lemmas.Bool.Decides.{nat_tests}
use Rattle.o2_world.specs.Heaps.{Heap, word, is_block, chain_from, is_header, heap_of, first, block_words}
use Rattle.o2_subseg.proofs.Words.{HasWord, AreBytes, AreThere, word_there, there_at}

-- a block that lies from a place on, within the heap
pub record IsBlock (size low at len : ℕ) : Type 0 where
  pub whole : at % 4 ≡ 0
  pub behind : low ≤ at
  pub whole_length : len % 4 ≡ 0
  pub long : 4 ≤ len
  pub within : at + len ≤ size

-- blocks that lie behind one another without touching, from a place on
abbrev pub AreLaid : ℕ → ℕ → List (ℕ × ℕ) → Type 0
AreLaid size low [] = Unit {0}
AreLaid size low ((at, len) ∷ bs) = IsBlock size low at len × AreLaid size (at + len + 1) bs

pub block_tells : (size low at len : ℕ) → is_block size low at len ≡ true → IsBlock size low at len
unfolding is_block
block_tells size low at len h = record {
  whole = grind (arith, nat_tests);
  behind = grind (arith, nat_tests);
  whole_length = grind (arith, nat_tests);
  long = grind (arith, nat_tests);
  within = grind (arith, nat_tests);
}

pub block_told : (size low at len : ℕ) → IsBlock size low at len → is_block size low at len ≡ true
unfolding is_block
block_told size low at len h = grind (arith, nat_tests)

-- blocks that lie from a place on lie from each one before it
pub laid_before : (size low lower : ℕ) (bs : List (ℕ × ℕ)) → lower ≤ low → AreLaid size low bs → AreLaid size lower bs
laid_before size low lower [] h l = tt
laid_before size low lower ((at, len) ∷ bs) h l =
    (record { whole = l.0.whole; behind = omega (arith, l.0.behind); whole_length = l.0.whole_length; long = l.0.long; within = l.0.within }, l.1)

-- what a chain that was read says
pub record IsChain (bytes : List ℕ) (size low link : ℕ) (bs : List (ℕ × ℕ)) : Type 0 where
  pub laid : AreLaid size low bs
  pub linked : HasWord bytes link (first bs)
  pub there : AreThere bytes (block_words bs)

chain_next : (size low at len : ℕ) (bytes : List ℕ) (link : ℕ) (bs : List (ℕ × ℕ))
    → IsBlock size low at len → HasWord bytes link at → HasWord bytes (at + 2) len
    → IsChain bytes size (at + len + 1) at bs → IsChain bytes size low link ((at, len) ∷ bs)
chain_next size low at len bytes link bs b here more c = record {
  laid = (b, c.laid);
  linked = here;
  there = (more, (c.linked, c.there));
}

-- the arms of one link of a chain
link_arms : (bytes : List ℕ) (size low link at len : ℕ) (rest : Option (List (ℕ × ℕ))) (bs : List (ℕ × ℕ)) (end good : Bool)
    → AreBytes bytes → word bytes link ≡ at → word bytes (at + 2) ≡ len
    → (at == 0) ≡ end → is_block size low at len ≡ good
    → ((cs : List (ℕ × ℕ)) → rest ≡ Some cs → IsChain bytes size (at + len + 1) at cs)
    → (if end then Some [] else if good then option_map (λ cs. (at, len) ∷ cs) rest else None) ≡ Some bs
    → IsChain bytes size low link bs
link_arms bytes size low link at len rest bs true good b here more e g next h =
    let zero_at : at ≡ 0 = grind (arith, nat_tests) in
    let same : ◌≡◌ {A = List (ℕ × ℕ)} [] bs = cc in
    let P : List (ℕ × ℕ) → Type 0 = λ cs. IsChain bytes size low link cs in
    subst P same (record { laid = tt; linked = there_at bytes link 0 b (here ∙ zero_at); there = tt })
link_arms bytes size low link at len None bs false true b here more e g next h = cc
link_arms bytes size low link at len (Some cs) bs false true b here more e g next h =
    let same : (at, len) ∷ cs ≡ bs = cc in
    let P : List (ℕ × ℕ) → Type 0 = λ ds. IsChain bytes size low link ds in
    subst P same (chain_next size low at len bytes link cs (block_tells size low at len g) (there_at bytes link at b here) (there_at bytes (at + 2) len b more) (next cs refl))
link_arms bytes size low link at len rest bs false false b here more e g next h = cc

-- what is read of a chain
pub chain_read : (n : ℕ) (bytes : List ℕ) (size low link : ℕ) (bs : List (ℕ × ℕ)) → AreBytes bytes
    → chain_from n bytes size low link ≡ Some bs → IsChain bytes size low link bs
chain_read zero bytes size low link bs b h = cc
chain_read (suc n) bytes size low link bs b h =
    let at = word bytes link in
    let len = word bytes (at + 2) in
    link_arms bytes size low link at len (chain_from n bytes size (at + len + 1) at) bs (at == 0) (is_block size low at len) b refl refl refl refl
    (λ cs e. chain_read n bytes size (at + len + 1) at cs b e) h

link_at_end : (at len : ℕ) (rest : Option (List (ℕ × ℕ))) (good : Bool) → at ≡ 0
    → (if at == 0 then Some [] else if good then option_map (λ cs. (at, len) ∷ cs) rest else None) ≡ Some []
link_at_end at len rest good h = rw h refl

link_at_block : (at len : ℕ) (rest : Option (List (ℕ × ℕ))) (bs : List (ℕ × ℕ)) (end good : Bool) → end ≡ false → good ≡ true → rest ≡ Some bs
    → (if end then Some [] else if good then option_map (λ cs. (at, len) ∷ cs) rest else None) ≡ Some ((at, len) ∷ bs)
link_at_block at len rest bs end good e g h = rw (e, g, h) refl

not_zero : (n : ℕ) → 1 ≤ n → (n == 0) ≡ false
not_zero n h = grind (arith, nat_tests)

-- a chain whose link says this offset
abbrev chain_at : ℕ → List ℕ → ℕ → ℕ → ℕ → Option (List (ℕ × ℕ))
chain_at n bytes size low at =
    let len = word bytes (at + 2) in
    if at == 0 then Some []
    else if is_block size low at len then option_map (λ bs. (at, len) ∷ bs) (chain_from n bytes size (at + len + 1) at)
    else None

chain_at_block : (n : ℕ) (bytes : List ℕ) (size low at len : ℕ) (bs : List (ℕ × ℕ)) → word bytes (at + 2) ≡ len → (at == 0) ≡ false
    → is_block size low at len ≡ true → chain_from n bytes size (at + len + 1) at ≡ Some bs → chain_at n bytes size low at ≡ Some ((at, len) ∷ bs)
chain_at_block n bytes size low at len bs more e g h =
    let P : ℕ → Type 0 = λ l. (if at == 0 then Some [] else if is_block size low at l then option_map (λ cs. (at, l) ∷ cs) (chain_from n bytes size (at + l + 1) at) else None) ≡ Some ((at, len) ∷ bs) in
    subst P (sym more) (link_at_block at len (chain_from n bytes size (at + len + 1) at) bs (at == 0) (is_block size low at len) e g h)

-- a chain of words that are there is read, where the count is large enough
pub chain_written : (n : ℕ) (bytes : List ℕ) (size low link : ℕ) (bs : List (ℕ × ℕ)) → size < 4 * n + low → 8 ≤ low
    → IsChain bytes size low link bs → chain_from (suc n) bytes size low link ≡ Some bs
chain_written n bytes size low link [] enough high c =
    let at = word bytes link in
    let len = word bytes (at + 2) in
    link_at_end at len (chain_from n bytes size (at + len + 1) at) (is_block size low at len) (word_there bytes link 0 c.linked)
chain_written zero bytes size low link ((p, l) ∷ bs) enough high c =
    absurd (omega (arith, c.laid.0.behind, c.laid.0.long, c.laid.0.within))
chain_written (suc n) bytes size low link ((p, l) ∷ bs) enough high c =
    let b = c.laid.0 in
    let here = word_there bytes link p c.linked in
    let more = word_there bytes (p + 2) l c.there.0 in
    let rest = chain_written n bytes size (p + l + 1) p bs (omega (arith, b.behind, b.long, enough)) (omega (arith, b.behind)) (record { laid = c.laid.1; linked = c.there.1.0; there = c.there.1.1 }) in
    let at_p : chain_at (suc n) bytes size low p ≡ Some ((p, l) ∷ bs) = chain_at_block (suc n) bytes size low p l bs more (not_zero p (omega (arith, b.behind))) (block_told size low p l b) rest in
    ap (chain_at (suc n) bytes size low) here ∙ at_p

-- what is true of the bytes of a good heap
pub record IsHeap (bytes : List ℕ) (h : Heap) : Type 0 where
  pub mark : HasWord bytes 0 0x4253
  pub size : HasWord bytes 2 h.size
  pub zero_word : HasWord bytes 6 0
  pub whole : h.size % 4 ≡ 0
  pub low : 12 ≤ h.size
  pub within : h.size ≤ length bytes
  pub chain : IsChain bytes h.size 8 4 h.blocks

pub record IsHeader (bytes : List ℕ) (size : ℕ) : Type 0 where
  pub mark : word bytes 0 ≡ 0x4253
  pub zero_word : word bytes 6 ≡ 0
  pub whole : size % 4 ≡ 0
  pub low : 12 ≤ size
  pub within : size ≤ length bytes

header_tests : (a b c d e : Bool) → ((a && b) && (c && (d && e))) ≡ true → (a ≡ true) × (b ≡ true) × (c ≡ true) × (d ≡ true) × (e ≡ true)
header_tests true true true true true h = (refl, refl, refl, refl, refl)
header_tests false b c d e h = cc
header_tests true false c d e h = cc
header_tests true true false d e h = cc
header_tests true true true false e h = cc
header_tests true true true true false h = cc

equal : (a b : ℕ) → (a == b) ≡ true → a ≡ b
equal a b h = grind (arith, nat_tests)

at_most : (a b : ℕ) → nat_le a b ≡ true → a ≤ b
at_most a b h = grind (arith, nat_tests)

pub header_tells : (bytes : List ℕ) → is_header bytes ≡ true → IsHeader bytes (word bytes 2)
unfolding is_header
header_tells bytes h =
    let size = word bytes 2 in
    let t = header_tests (word bytes 0 == 0x4253) (word bytes 6 == 0) (size % 4 == 0) (nat_le 12 size) (nat_le size (length bytes)) h in
    record {
      mark = equal (word bytes 0) 0x4253 t.0;
      zero_word = equal (word bytes 6) 0 t.1;
      whole = equal (size % 4) 0 t.2;
      low = at_most 12 size t.3;
      within = at_most size (length bytes) t.4;
    }

are_equal : (a b : ℕ) → a ≡ b → (a == b) ≡ true
are_equal a b h = grind (arith, nat_tests)

is_at_most : (a b : ℕ) → a ≤ b → nat_le a b ≡ true
is_at_most a b h = grind (arith, nat_tests)

all_true : (a b c d e : Bool) → a ≡ true → b ≡ true → c ≡ true → d ≡ true → e ≡ true → ((a && b) && (c && (d && e))) ≡ true
all_true a b c d e p q r s t = rw (p, q, r, s, t) refl

pub header_told : (bytes : List ℕ) → IsHeader bytes (word bytes 2) → is_header bytes ≡ true
unfolding is_header
header_told bytes h =
    let size = word bytes 2 in
    all_true (word bytes 0 == 0x4253) (word bytes 6 == 0) (size % 4 == 0) (nat_le 12 size) (nat_le size (length bytes))
    (are_equal (word bytes 0) 0x4253 h.mark) (are_equal (word bytes 6) 0 h.zero_word) (are_equal (size % 4) 0 h.whole) (is_at_most 12 size h.low) (is_at_most size (length bytes) h.within)

heap_arms : (bytes : List ℕ) (size : ℕ) (good : Bool) (chain : Option (List (ℕ × ℕ))) (h : Heap) → AreBytes bytes → word bytes 2 ≡ size → is_header bytes ≡ good
    → ((bs : List (ℕ × ℕ)) → chain ≡ Some bs → IsChain bytes size 8 4 bs)
    → (if good then option_map {U = Heap} (λ bs. record { size = size; blocks = bs }) chain else None) ≡ Some h → IsHeap bytes h
heap_arms bytes size false chain h b s g next e = cc
heap_arms bytes size true None h b s g next e = cc
heap_arms bytes size true (Some bs) h b s g next e =
    let same : ◌≡◌ {A = Heap} (record { size = size; blocks = bs }) h = cc in
    let P : Heap → Type 0 = λ i. IsHeap bytes i in
    let Q : ℕ → Type 0 = λ n. IsHeader bytes n in
    let t = subst Q s (header_tells bytes g) in
    subst P same (record {
      mark = there_at bytes 0 0x4253 b t.mark;
      size = there_at bytes 2 size b s;
      zero_word = there_at bytes 6 0 b t.zero_word;
      whole = t.whole;
      low = t.low;
      within = t.within;
      chain = next bs refl;
    })

-- what is read of a heap
pub heap_read : (bytes : List ℕ) (h : Heap) → AreBytes bytes → heap_of bytes ≡ Some h → IsHeap bytes h
unfolding heap_of
heap_read bytes h b e =
    heap_arms bytes (word bytes 2) (is_header bytes) (chain_from (word bytes 2 / 4) bytes (word bytes 2) 8 4) h b refl refl
    (λ bs f. chain_read (word bytes 2 / 4) bytes (word bytes 2) 8 4 bs b f) e

heap_at : (bytes : List ℕ) (size : ℕ) (bs : List (ℕ × ℕ)) (good : Bool) (chain : Option (List (ℕ × ℕ))) → good ≡ true → chain ≡ Some bs
    → (if good then option_map {U = Heap} (λ cs. record { size = size; blocks = cs }) chain else None) ≡ Some (record { size = size; blocks = bs })
heap_at bytes size bs good chain g e = rw (g, e) refl

-- a heap whose words are there is read
pub heap_written : (bytes : List ℕ) (h : Heap) → IsHeap bytes h → heap_of bytes ≡ Some h
unfolding heap_of
heap_written bytes h i =
    let s = word_there bytes 2 h.size i.size in
    let P : ℕ → Type 0 = λ n. (if is_header bytes then option_map {U = Heap} (λ bs. record { size = n; blocks = bs }) (chain_from (n / 4) bytes n 8 4) else None) ≡ Some h in
    let Q : ℕ → Type 0 = λ n. IsHeader bytes n in
    let t : IsHeader bytes h.size = record { mark = word_there bytes 0 0x4253 i.mark; zero_word = word_there bytes 6 0 i.zero_word; whole = i.whole; low = i.low; within = i.within } in
    let count : suc (h.size / 4 - 1) ≡ h.size / 4 = omega (arith, i.low) in
    let chain = chain_written (h.size / 4 - 1) bytes h.size 8 4 h.blocks (omega (arith, i.low, i.whole)) (omega arith) i.chain in
    let N : ℕ → Type 0 = λ n. chain_from n bytes h.size 8 4 ≡ Some h.blocks in
    subst P (sym s) (heap_at bytes h.size h.blocks (is_header bytes) (chain_from (h.size / 4) bytes h.size 8 4) (header_told bytes (subst Q (sym s) t)) (subst N count chain))
