-- One step of a walk along a chain, and what a walk tells of the heap.
use Rattle.std.proofs.Common.{◌≡◌, ◌≢◌, ℕ, zero, suc, ◌+◌, ◌/◌, ◌%◌, ◌<◌, ◌≤◌, Bool, true, false, ◌==◌, List, [], ◌∷◌, length, take, get_or, Option, Some, None, IfSome, option_map, if◌then◌else◌, refl, sym, ap, subst, ◌∙◌, add-one, arith}
use Rattle.std.proofs.lemmas.Bool.Decides.{nat_tests}
use Rattle.o2_subseg.specs.declared.block.Block.{Block}
use Rattle.o2_subseg.specs.declared.scan.Seek.{Seek}
use Rattle.o2_subseg.specs.declared.scan.Spot.{Spot}
use Rattle.o2_subseg.specs.declared.scan.Link.{Link}
use Rattle.o2_subseg.specs.declared.scan.Link.TheVariants.{End, Bad, To}
use Rattle.o2_world.specs.Heaps.{Heap, word, put_word, put_words, is_block, chain_from, is_header, heap_of}
use Rattle.o2_subseg.specs.Spots.{behind, passes, spot_in, spot_of, at_first, link_at, IsSpot}
use Rattle.o2_subseg.specs.Plans.{AreInside}
use Rattle.o2_subseg.proofs.Words.{AreBytes, word_small}
use Rattle.o2_subseg.proofs.Chains.{IsBlock, IsHeader, IsHeap, block_tells, block_told, header_tells, header_told, heap_read}
use Rattle.o2_subseg.proofs.Searches.{found_stays, spot, spot_whole, spot_size}

no_truth : (b : Bool) → (b ≡ true → ⊥) → b ≡ false
no_truth true h = absurd (h refl)
no_truth false h = refl

header_none : (b : Bool) (size : ℕ) → b ≡ false → None ≡ (if b then Some size else None)
header_none b size e = rw e refl

header_some : (b : Bool) (size : ℕ) → b ≡ true → Some size ≡ (if b then Some size else None)
header_some b size e = rw e refl

-- words that aren't those of a header
pub header_bad : (bytes : List ℕ) → (IsHeader bytes (word bytes 2) → ⊥) → None ≡ (if is_header bytes then Some (word bytes 2) else None)
header_bad bytes h = header_none (is_header bytes) (word bytes 2) (no_truth (is_header bytes) (λ e. h (header_tells bytes e)))

-- the words of a header
pub header_good : (bytes : List ℕ) (size : ℕ) → size ≡ word bytes 2 → word bytes 0 ≡ 0x4253 → word bytes 6 ≡ 0 → size % 4 ≡ 0 → 12 ≤ size → size ≤ length bytes
    → Some size ≡ (if is_header bytes then Some (word bytes 2) else None)
header_good bytes size e mark zero_word whole low within =
    let t : IsHeader bytes size = record { mark = mark; zero_word = zero_word; whole = whole; low = low; within = within } in
    let P : ℕ → Type 0 = λ n. IsHeader bytes n in
    let Q : ℕ → Type 0 = λ n. Some n ≡ (if is_header bytes then Some (word bytes 2) else None) in
    subst Q (sym e) (header_some (is_header bytes) (word bytes 2) (header_told bytes (subst P e t)))

-- what a link says, by its tests
abbrev said : Bool → Bool → Block → Link
said end good b = if end then End else if good then To b else Bad

said_bad : (end good : Bool) (b : Block) → end ≡ false → good ≡ false → Bad ≡ said end good b
said_bad end good b e g = rw (e, g) refl

said_to : (end good : Bool) (b : Block) → end ≡ false → good ≡ true → To b ≡ said end good b
said_to end good b e g = rw (e, g) refl

not_zero : (n : ℕ) → n ≢ 0 → (n == 0) ≡ false
not_zero n h = grind (arith, nat_tests)

-- a link to what is no block
pub link_bad : (bytes : List ℕ) (size low link at : ℕ) → at ≡ word bytes link → at ≢ 0
    → ((len : ℕ) → len ≡ word bytes (at + 2) → IsBlock size low at len → ⊥) → Bad ≡ link_at bytes size low link
link_bad bytes size low link at e n h =
    let len = word bytes (at + 2) in
    let P : ℕ → Type 0 = λ a. Bad ≡ said (a == 0) (is_block size low a (word bytes (a + 2))) (record { offset = a; length = word bytes (a + 2) }) in
    subst P e (said_bad (at == 0) (is_block size low at len) (record { offset = at; length = len }) (not_zero at n)
    (no_truth (is_block size low at len) (λ g. h len refl (block_tells size low at len g))))

-- a link to a block
pub link_good : (bytes : List ℕ) (size low link at len : ℕ) → at ≡ word bytes link → len ≡ word bytes (at + 2) → at ≢ 0 → IsBlock size low at len
    → To (record { offset = at; length = len }) ≡ link_at bytes size low link
link_good bytes size low link at len e f n b =
    let P : ℕ → Type 0 = λ a. To (record { offset = at; length = len }) ≡ said (a == 0) (is_block size low a (word bytes (a + 2))) (record { offset = a; length = word bytes (a + 2) }) in
    let Q : ℕ → Type 0 = λ l. To (record { offset = at; length = len }) ≡ said (at == 0) (is_block size low at l) (record { offset = at; length = l }) in
    subst P e (subst Q f (said_to (at == 0) (is_block size low at len) (record { offset = at; length = len }) (not_zero at n) (block_told size low at len b)))

-- the blocks of a chain, by the tests of its link
abbrev chained : Bool → Bool → ℕ → ℕ → Option (List (ℕ × ℕ)) → Option (List (ℕ × ℕ))
chained end good at len rest = if end then Some [] else if good then option_map (λ bs. (at, len) ∷ bs) rest else None

chained_end : (end good : Bool) (b : Block) (at len : ℕ) (rest : Option (List (ℕ × ℕ))) → End ≡ said end good b → Some [] ≡ chained end good at len rest
chained_end true good b at len rest h = refl
chained_end false true b at len rest h = cc
chained_end false false b at len rest h = cc

chained_bad : (end good : Bool) (b : Block) (at len : ℕ) (rest : Option (List (ℕ × ℕ))) → Bad ≡ said end good b → None ≡ chained end good at len rest
chained_bad true good b at len rest h = cc
chained_bad false true b at len rest h = cc
chained_bad false false b at len rest h = refl

over_next : (seek : Seek) (s : Spot) (at len : ℕ) (rest : Option (List (ℕ × ℕ)))
    → option_map (λ bs. spot_in seek s bs) (option_map (λ bs. (at, len) ∷ bs) rest)
    ≡ option_map (λ bs. spot_in seek (behind seek s (record { offset = at; length = len })) bs) rest
over_next seek s at len None = refl
over_next seek s at len (Some bs) = refl

chained_to : (seek : Seek) (s : Spot) (end good : Bool) (b : Block) (at len : ℕ) (rest : Option (List (ℕ × ℕ)))
    → To b ≡ said end good (record { offset = at; length = len })
    → option_map (λ bs. spot_in seek s bs) (chained end good at len rest) ≡ option_map (λ bs. spot_in seek (behind seek s b) bs) rest
chained_to seek s true good b at len rest h = cc
chained_to seek s false true b at len rest h =
    let same : ◌≡◌ {A = Block} (record { offset = at; length = len }) b = cc in
    over_next seek s at len rest ∙ ap (λ c. option_map (λ bs. spot_in seek (behind seek s c) bs) rest) same
chained_to seek s false false b at len rest h = cc

to_block : (end good : Bool) (b : Block) (at len : ℕ) → To b ≡ said end good (record { offset = at; length = len }) → (b.offset ≡ at) × (b.length ≡ len)
to_block true good b at len h = cc
to_block false true b at len h = (cc, cc)
to_block false false b at len h = cc

to_good : (end good : Bool) (b c : Block) → To b ≡ said end good c → good ≡ true
to_good true good b c h = cc
to_good false true b c h = refl
to_good false false b c h = cc

-- the block that a link says lies where it may
pub link_block : (bytes : List ℕ) (size low link : ℕ) (b : Block) → To b ≡ link_at bytes size low link → IsBlock size low b.offset b.length
link_block bytes size low link b h =
    let at = word bytes link in
    let len = word bytes (at + 2) in
    let e = to_block (at == 0) (is_block size low at len) b at len h in
    let g = to_good (at == 0) (is_block size low at len) b (record { offset = at; length = len }) h in
    let P : ℕ → Type 0 = λ n. IsBlock size low n len in
    let Q : ℕ → Type 0 = λ n. IsBlock size low b.offset n in
    subst Q (sym e.1) (subst P (sym e.0) (block_tells size low at len g))

-- a walk that begins
pub walk_begins : (bytes : List ℕ) (seek : Seek) (size m low : ℕ) → m ≡ size / 4 → low ≡ 8
    → option_map (λ bs. spot_in seek (at_first size) bs) (chain_from (size / 4) bytes size 8 4) ≡ option_map (λ bs. spot_in seek (at_first size) bs) (chain_from m bytes size low 4)
walk_begins bytes seek size m low e f =
    ap (λ k. option_map (λ bs. spot_in seek (at_first size) bs) (chain_from k bytes size 8 4)) (sym e)
    ∙ ap (λ k. option_map (λ bs. spot_in seek (at_first size) bs) (chain_from m bytes size k 4)) (sym f)

-- a walk that goes on behind a block
pub walk_on : (bytes : List ℕ) (seek : Seek) (size low link n m low2 link2 : ℕ) (s s2 : Spot) (b : Block) → To b ≡ link_at bytes size low link
    → s2 ≡ behind seek s b → low2 ≡ b.offset + b.length + 1 → link2 ≡ b.offset → m ≡ suc n
    → option_map (λ bs. spot_in seek s bs) (chain_from m bytes size low link) ≡ option_map (λ bs. spot_in seek s2 bs) (chain_from n bytes size low2 link2)
walk_on bytes seek size low link n m low2 link2 s s2 b h es el ek em =
    let at = word bytes link in
    let len = word bytes (at + 2) in
    let e = to_block (at == 0) (is_block size low at len) b at len h in
    let step = chained_to seek s (at == 0) (is_block size low at len) b at len (chain_from n bytes size (at + len + 1) at) h in
    let low_is : at + len + 1 ≡ low2 = omega (arith, e.0, e.1, el) in
    let link_is : at ≡ link2 = omega (arith, e.0, ek) in
    ap (λ k. option_map (λ bs. spot_in seek s bs) (chain_from k bytes size low link)) em
    ∙ step
    ∙ ap (λ k. option_map (λ bs. spot_in seek (behind seek s b) bs) (chain_from n bytes size k at)) low_is
    ∙ ap (λ k. option_map (λ bs. spot_in seek (behind seek s b) bs) (chain_from n bytes size low2 k)) link_is
    ∙ ap (λ t. option_map (λ bs. spot_in seek t bs) (chain_from n bytes size low2 link2)) (sym es)

-- a walk that ends
pub walk_ends : (bytes : List ℕ) (seek : Seek) (size low link m : ℕ) (s : Spot) → End ≡ link_at bytes size low link → 1 ≤ m
    → Some s ≡ option_map (λ bs. spot_in seek s bs) (chain_from m bytes size low link)
walk_ends bytes seek size low link zero s h em = absurd (omega arith)
walk_ends bytes seek size low link (suc n) s h em =
    let at = word bytes link in
    let len = word bytes (at + 2) in
    let e = chained_end (at == 0) (is_block size low at len) (record { offset = at; length = len }) at len (chain_from n bytes size (at + len + 1) at) h in
    ap (option_map (λ bs. spot_in seek s bs)) e

-- a walk to what is no block
pub walk_fails : (bytes : List ℕ) (seek : Seek) (size low link m : ℕ) (s : Spot) → Bad ≡ link_at bytes size low link → 1 ≤ m
    → None ≡ option_map (λ bs. spot_in seek s bs) (chain_from m bytes size low link)
walk_fails bytes seek size low link zero s h em = absurd (omega arith)
walk_fails bytes seek size low link (suc n) s h em =
    let at = word bytes link in
    let len = word bytes (at + 2) in
    let e = chained_bad (at == 0) (is_block size low at len) (record { offset = at; length = len }) at len (chain_from n bytes size (at + len + 1) at) h in
    ap (option_map (λ bs. spot_in seek s bs)) e

-- a walk that is too long
pub walk_done : (bytes : List ℕ) (seek : Seek) (size low link m : ℕ) (s : Spot) → m ≡ 0
    → None ≡ option_map (λ bs. spot_in seek s bs) (chain_from m bytes size low link)
walk_done bytes seek size low link m s e = ap (λ k. option_map (λ bs. spot_in seek s bs) (chain_from k bytes size low link)) (sym e)

-- a search that has passed no block, and one that ends at a block
pub behind_passed : (seek : Seek) (size : ℕ) (before : Option Block) (b : Block) → passes seek b ≡ false
    → spot size (Some b) None ≡ behind seek (spot size before None) b
behind_passed seek size before b e = rw e refl

behind_found : (seek : Seek) (size : ℕ) (before : Option Block) (b : Block) → passes seek b ≡ true
    → spot size before (Some b) ≡ behind seek (spot size before None) b
behind_found seek size before b e = rw e refl

found_over : (seek : Seek) (size : ℕ) (before : Option Block) (b : Block) (chain : Option (List (ℕ × ℕ)))
    → option_map (λ bs. spot size before (Some b)) chain ≡ option_map (λ bs. spot_in seek (spot size before (Some b)) bs) chain
found_over seek size before b None = refl
found_over seek size before b (Some bs) = ap Some (sym (found_stays seek size before b bs))

-- a walk that ends at a block, where the chain behind it is good
pub walk_found : (bytes : List ℕ) (seek : Seek) (size low link n m : ℕ) (before : Option Block) (b : Block) → To b ≡ link_at bytes size low link
    → passes seek b ≡ true → m ≡ suc n
    → option_map (λ bs. spot size before (Some b)) (chain_from n bytes size (b.offset + b.length + 1) b.offset)
    ≡ option_map (λ bs. spot_in seek (spot size before None) bs) (chain_from m bytes size low link)
walk_found bytes seek size low link n m before b h e em =
    found_over seek size before b (chain_from n bytes size (b.offset + b.length + 1) b.offset)
    ∙ sym (walk_on bytes seek size low link n m (b.offset + b.length + 1) b.offset (spot size before None) (spot size before (Some b)) b h
    (behind_found seek size before b e) refl refl em)

over_rest : (s : Spot) (at len : ℕ) (rest : Option (List (ℕ × ℕ)))
    → option_map (λ bs. s) (option_map (λ bs. (at, len) ∷ bs) rest) ≡ option_map (λ bs. s) rest
over_rest s at len None = refl
over_rest s at len (Some bs) = refl

rest_to : (s : Spot) (end good : Bool) (b c : Block) (at len : ℕ) (rest : Option (List (ℕ × ℕ))) → To b ≡ said end good c
    → option_map (λ bs. s) (chained end good at len rest) ≡ option_map (λ bs. s) rest
rest_to s true good b c at len rest h = cc
rest_to s false true b c at len rest h = over_rest s at len rest
rest_to s false false b c at len rest h = cc

-- the rest of a chain that begins
pub rest_begins : (s : Spot) (bytes : List ℕ) (size n m low low2 link : ℕ) → m ≡ n → low2 ≡ low
    → option_map (λ bs. s) (chain_from n bytes size low link) ≡ option_map (λ bs. s) (chain_from m bytes size low2 link)
rest_begins s bytes size n m low low2 link e f =
    ap (λ k. option_map (λ bs. s) (chain_from k bytes size low link)) (sym e)
    ∙ ap (λ k. option_map (λ bs. s) (chain_from m bytes size k link)) (sym f)

-- the rest of a chain that goes on behind a block
pub rest_on : (s : Spot) (bytes : List ℕ) (size low link n m low2 link2 : ℕ) (b : Block) → To b ≡ link_at bytes size low link
    → low2 ≡ b.offset + b.length + 1 → link2 ≡ b.offset → m ≡ suc n
    → option_map (λ bs. s) (chain_from m bytes size low link) ≡ option_map (λ bs. s) (chain_from n bytes size low2 link2)
rest_on s bytes size low link n m low2 link2 b h el ek em =
    let at = word bytes link in
    let len = word bytes (at + 2) in
    let e = to_block (at == 0) (is_block size low at len) b at len h in
    let step = rest_to s (at == 0) (is_block size low at len) b (record { offset = at; length = len }) at len (chain_from n bytes size (at + len + 1) at) h in
    let low_is : at + len + 1 ≡ low2 = omega (arith, e.0, e.1, el) in
    let link_is : at ≡ link2 = omega (arith, e.0, ek) in
    ap (λ k. option_map (λ bs. s) (chain_from k bytes size low link)) em
    ∙ step
    ∙ ap (λ k. option_map (λ bs. s) (chain_from n bytes size k at)) low_is
    ∙ ap (λ k. option_map (λ bs. s) (chain_from n bytes size low2 k)) link_is

-- the rest of a chain that ends
pub rest_ends : (s : Spot) (bytes : List ℕ) (size low link m : ℕ) → End ≡ link_at bytes size low link → 1 ≤ m
    → Some s ≡ option_map (λ bs. s) (chain_from m bytes size low link)
rest_ends s bytes size low link zero h em = absurd (omega arith)
rest_ends s bytes size low link (suc n) h em =
    let at = word bytes link in
    let len = word bytes (at + 2) in
    let e = chained_end (at == 0) (is_block size low at len) (record { offset = at; length = len }) at len (chain_from n bytes size (at + len + 1) at) h in
    ap (option_map (λ bs. s)) e

-- the rest of a chain with what is no block
pub rest_fails : (s : Spot) (bytes : List ℕ) (size low link m : ℕ) → Bad ≡ link_at bytes size low link → 1 ≤ m
    → None ≡ option_map (λ bs. s) (chain_from m bytes size low link)
rest_fails s bytes size low link zero h em = absurd (omega arith)
rest_fails s bytes size low link (suc n) h em =
    let at = word bytes link in
    let len = word bytes (at + 2) in
    let e = chained_bad (at == 0) (is_block size low at len) (record { offset = at; length = len }) at len (chain_from n bytes size (at + len + 1) at) h in
    ap (option_map (λ bs. s)) e

-- the rest of a chain that is too long
pub rest_done : (s : Spot) (bytes : List ℕ) (size low link m : ℕ) → m ≡ 0 → None ≡ option_map (λ bs. s) (chain_from m bytes size low link)
rest_done s bytes size low link m e = ap (λ k. option_map (λ bs. s) (chain_from k bytes size low link)) (sym e)

heap_over : (seek : Seek) (size : ℕ) (chain : Option (List (ℕ × ℕ)))
    → option_map (λ bs. spot_in seek (at_first size) bs) chain ≡ option_map (spot_of seek) (option_map {U = Heap} (λ bs. record { size = size; blocks = bs }) chain)
heap_over seek size None = refl
heap_over seek size (Some bs) = refl

scan_arms : (seek : Seek) (good : Bool) (size head : ℕ) (chain : ℕ → Option (List (ℕ × ℕ))) → Some size ≡ (if good then Some head else None)
    → option_map (λ bs. spot_in seek (at_first size) bs) (chain size)
    ≡ option_map (spot_of seek) (if good then option_map {U = Heap} (λ bs. record { size = head; blocks = bs }) (chain head) else None)
scan_arms seek false size head chain e = cc
scan_arms seek true size head chain e =
    let same : size ≡ head = cc in
    let P : ℕ → Type 0 = λ n. option_map (λ bs. spot_in seek (at_first size) bs) (chain size) ≡ option_map (spot_of seek) (option_map {U = Heap} (λ bs. record { size = n; blocks = bs }) (chain n)) in
    subst P same (heap_over seek size (chain size))

-- a walk along the chain of a good header is a search of the heap
pub scan_walk : (bytes : List ℕ) (seek : Seek) (size : ℕ) → Some size ≡ (if is_header bytes then Some (word bytes 2) else None)
    → option_map (λ bs. spot_in seek (at_first size) bs) (chain_from (size / 4) bytes size 8 4) ≡ option_map (spot_of seek) (heap_of bytes)
unfolding heap_of
scan_walk bytes seek size e = scan_arms seek (is_header bytes) size (word bytes 2) (λ n. chain_from (n / 4) bytes n 8 4) e

none_arms : (seek : Seek) (good : Bool) (head : ℕ) (heap : Option Heap) → None ≡ (if good then Some head else None)
    → None ≡ option_map (spot_of seek) (if good then heap else None)
none_arms seek true head heap e = cc
none_arms seek false head heap e = refl

-- where there is no good header there is no heap
pub scan_none : (bytes : List ℕ) (seek : Seek) → None ≡ (if is_header bytes then Some (word bytes 2) else None) → None ≡ option_map (spot_of seek) (heap_of bytes)
unfolding heap_of
scan_none bytes seek e =
    none_arms seek (is_header bytes) (word bytes 2) (option_map {U = Heap} (λ bs. record { size = word bytes 2; blocks = bs }) (chain_from (word bytes 2 / 4) bytes (word bytes 2) 8 4)) e

-- a heap that is read has a size that is a word
pub heap_small : (bytes : List ℕ) (h : Heap) → AreBytes bytes → IsHeap bytes h → h.size < 65536
heap_small bytes h b i = word_small bytes 2 h.size b i.size

-- where a search of a heap ends
pub heap_spot : (bytes : List ℕ) (seek : Seek) (h : Heap) → AreBytes bytes → IsHeap bytes h → IsSpot (spot_of seek h)
heap_spot bytes seek h b i =
    spot_whole seek h.size 8 None h.blocks (record { whole = i.whole; low = i.low; word = heap_small bytes h b i }) (omega arith) i.chain.laid tt tt

spot_facts : (bytes : List ℕ) (seek : Seek) (o : Option Heap) → AreBytes bytes → heap_of bytes ≡ o
    → IfSome (option_map (spot_of seek) o) IsSpot × IfSome (option_map (spot_of seek) o) (λ s. s.size ≤ length bytes)
spot_facts bytes seek None b e = (tt, tt)
spot_facts bytes seek (Some h) b e =
    let i = heap_read bytes h b e in
    let same = spot_size seek (at_first h.size) h.blocks in
    (heap_spot bytes seek h b i, omega (arith, same, i.within))

-- what is true of where a search ends
pub scan_facts : (bytes : List ℕ) (seek : Seek) (r : Option Spot) → AreBytes bytes → r ≡ option_map (spot_of seek) (heap_of bytes)
    → IfSome r IsSpot × IfSome r (λ s. s.size ≤ length bytes)
scan_facts bytes seek r b e =
    let P : Option Spot → Type 0 = λ o. IfSome o IsSpot × IfSome o (λ s. s.size ≤ length bytes) in
    subst P (sym e) (spot_facts bytes seek (heap_of bytes) b refl)

-- one word more is written
put_next : (bytes : List ℕ) (ws : List (ℕ × ℕ)) (k : ℕ) → k < length ws
    → put_words bytes (take (suc k) ws) ≡ put_word (put_words bytes (take k ws)) (get_or ws k (0, 0))
put_next bytes [] k h = absurd (omega arith)
put_next bytes (w ∷ ws) zero h = refl
put_next bytes (w ∷ ws) (suc k) h = put_next (put_word bytes w) ws k (omega arith)

pub put_more : (bytes : List ℕ) (ws : List (ℕ × ℕ)) (k : ℕ) → k < length ws
    → put_words bytes (take (k + 1) ws) ≡ put_word (put_words bytes (take k ws)) (get_or ws k (0, 0))
put_more bytes ws k h = rw add-one (put_next bytes ws k h)

-- each word of those inside is inside
pub inside_at : (size : ℕ) (ws : List (ℕ × ℕ)) (n k : ℕ) → AreInside size (take n ws) → k < n → k < length ws → (get_or ws k (0, 0)).0 + 2 ≤ size
inside_at size [] n k i h j = absurd (omega arith)
inside_at size (w ∷ ws) zero k i h j = absurd (omega arith)
inside_at size (w ∷ ws) (suc n) zero i h j = i.0
inside_at size (w ∷ ws) (suc n) (suc k) i h j = inside_at size ws n k i.1 (omega arith) (omega arith)
