-- Segments and their blocks, part by part.
use Rattle.std.proofs.Common.{◌≡◌, ℕ, zero, suc, ◌+◌, ◌<◌, List, [], ◌∷◌, ◌++◌, length, drop, get_or, true, Option, Some, None, IsSome, eqb, refl, sym, ap, ◌∙◌, append_assoc, append-nil, map, option_map, subst, arith}
use Rattle.std.specs.Prelude.{flat_map, slice_get}
use Rattle.std.proofs.lemmas.Bool.Decides.{nat_tests}
use Rattle.std.proofs.lemmas.List.{length-map}
use Rattle.std.proofs.lemmas.Option.{get_or_from_slice_get, slice_get-get_or}
use Rattle.o2_entries.specs.declared.Entry.{Entry}
use Rattle.o2_entries.specs.Tables.{slot_at}
use Rattle.o2_entries.proofs.Numbers.{listed_lives}
use Rattle.o2_place.specs.declared.seg_id.SegId.{SegId}
use Rattle.o2_swapmap.specs.Piles.{Blocks as BlocksThere, blocks_of}
use Rattle.o2_store.specs.declared.brought.Place.{Place as PlaceThere}
use Rattle.o2_store.specs.declared.brought.Place.TheVariants as there
use Rattle.o2_store.specs.Shelf.{IsShelf, Shelf, block_of, blocks_for, entry_of, entry_or, kept_of, numbered, place_of, shown_at, shown_out}
use Rattle.o2_store.proofs.Tables.{aged_is}
use Rattle.o2_dump.specs.declared.parts.Block.{Block}
use Rattle.o2_dump.specs.CoreBytes.{bit, block_bytes, long, place_bytes, place_number, segment_bytes, word}
use Rattle.o2_dumping.specs.declared.shown.Shown.{Shown}
use Rattle.o2_dumping.specs.Fronts.{place_front, segment_front, shown_number, shown_of}
use Rattle.o2_dumping.specs.Told.{block_told, blocks_told, entry_told, numbers, place_told, segment_told}
use Rattle.o2_dumping.proofs.Lists.{next_item}

-- ---- blocks

-- an owner's k-th block
pub block_is : (bs : BlocksThere) (key k n : ℕ) (o : Option Entry) → Some n ≡ block_of bs key k o → n ≡ get_or (blocks_of bs key) k 0
block_is bs key k n None e = cc
block_is bs key k n (Some x) e = sym (get_or_from_slice_get (blocks_of bs key) k n 0 (sym e))

pub blocks_next : (block : ℕ → List ℕ) (bs : List ℕ) (k n : ℕ) → k < length bs → n ≡ get_or bs k 0
    → flat_map block_bytes (map (block_told block) (drop k bs)) ≡ block_bytes (block_told block n) ++ flat_map block_bytes (map (block_told block) (drop (k + 1) bs))
blocks_next block bs k n l e =
    ap (λ (z : List ℕ). flat_map block_bytes (map (block_told block) z)) (next_item bs k 0 l)
    ∙ ap (λ (z : ℕ). block_bytes (block_told block z) ++ flat_map block_bytes (map (block_told block) (drop (k + 1) bs))) (sym e)

-- the same where what the blocks hold has another name
pub blocks_left : (block now : ℕ → List ℕ) (bs : List ℕ) (k n : ℕ) → k < length bs → n ≡ get_or bs k 0 → now ≡ block
    → flat_map block_bytes (map (block_told block) (drop k bs)) ≡ block_bytes (block_told now n) ++ flat_map block_bytes (map (block_told block) (drop (k + 1) bs))
blocks_left block now bs k n l e same =
    blocks_next block bs k n l e
    ∙ ap (λ (f : ℕ → List ℕ). block_bytes (block_told f n) ++ flat_map block_bytes (map (block_told block) (drop (k + 1) bs))) (sym same)

-- ---- one segment

-- what follows its front: blocks, where it has its bytes in them
abbrev pub behind : PlaceThere → List Block → List ℕ
behind there.Zeros bs = []
behind (there.Image m k) bs = []
behind (there.Memory base) bs = []
behind there.Blocks bs = flat_map block_bytes bs

same_number : (p : PlaceThere) (bs : List Block) → place_number (place_told p bs) ≡ shown_number p
same_number there.Zeros bs = refl
same_number (there.Image m k) bs = refl
same_number (there.Memory base) bs = refl
same_number there.Blocks bs = refl

place_splits : (p : PlaceThere) (bs : List Block) (n : ℕ) → (p ≡ there.Blocks → n ≡ length bs) → place_bytes (place_told p bs) ≡ place_front p n ++ behind p bs
place_splits there.Zeros bs n h = refl
place_splits (there.Image m k) bs n h = sym (append-nil (word m ++ word k))
place_splits (there.Memory base) bs n h = sym (append-nil (long base))
place_splits there.Blocks bs n h = ap (λ (z : ℕ). long z ++ flat_map block_bytes bs) (sym (h refl))

pub entry_splits : (range : Option (ℕ × ℕ)) (e : Entry) (bs : List Block) (n : ℕ) → (shown_at range e ≡ there.Blocks → n ≡ length bs)
    → segment_bytes (entry_told range e bs) ≡ segment_front (shown_of range e) n ++ behind (shown_at range e) bs
entry_splits range e bs n h =
    let head : ℕ → List ℕ = λ (z : ℕ). long e.size ++ long (kept_of range e) ++ (e.attr.flags ∷ e.attr.lock ∷ bit e.attr.clean ∷ z ∷ bit e.attr.gone ∷ []) in
    ap (λ (z : ℕ). head z ++ place_bytes (place_told (shown_at range e) bs)) (same_number (shown_at range e) bs)
    ∙ (ap (λ (z : List ℕ). head (shown_number (shown_at range e)) ++ z) (place_splits (shown_at range e) bs n h)
    ∙ sym (append_assoc (head (shown_number (shown_at range e))) (place_front (shown_at range e) n) (behind (shown_at range e) bs)))

-- how many blocks a segment has whose bytes are in them
out_blocks : (made key blocks : ℕ) (e : Entry) (o : Option (ℕ × ℕ)) → e.image ≡ o → (e.image ≡ None → blocks ≡ blocks_for e.kept) → shown_out o e.kept ≡ there.Blocks → blocks_for e.kept ≡ blocks
out_blocks made key blocks e None is stored h = sym (stored is)
out_blocks made key blocks e (Some p) is stored h = absurd (cc)

pub count_is : (s : Shelf) (id : SegId) (e : Entry) → IsShelf s → entry_of s id ≡ Some e → id.key < length s.entries → shown_at (place_of s id.key) e ≡ there.Blocks
    → blocks_for (kept_of (place_of s id.key) e) ≡ length (blocks_of s.swap id.key)
count_is s id e h live l shown = go (place_of s id.key) refl shown
  where
    slot : slot_at s.entries id.key ≡ Some e
    slot = aged_is id.age (slot_at s.entries id.key) e live

    same : entry_or (slot_at s.entries id.key) ≡ e
    same = ap entry_or slot

    stored : e.image ≡ None → length (blocks_of s.swap id.key) ≡ blocks_for e.kept
    stored none = (h.each id.key l).stored (ap (λ (z : Entry). z.image) same ∙ none) ∙ ap (λ (z : Entry). blocks_for z.kept) same

    go : (o : Option (ℕ × ℕ)) → place_of s id.key ≡ o → shown_at o e ≡ there.Blocks → blocks_for (kept_of o e) ≡ length (blocks_of s.swap id.key)
    go None is t = out_blocks s.made id.key (length (blocks_of s.swap id.key)) e e.image refl stored t
    go (Some r) is t = absurd (cc)

-- a number with a segment is one of the table's
pub within : (s : Shelf) (id : SegId) (e : Entry) → entry_of s id ≡ Some e → id.key < length s.entries
within s id e live = past s.entries id.key e (aged_is id.age (slot_at s.entries id.key) e live)
  where
    past : (es : List (Option Entry)) (k : ℕ) (x : Entry) → slot_at es k ≡ Some x → k < length es
    past [] k x t = absurd (cc)
    past (y ∷ ys) zero x t = omega arith
    past (y ∷ ys) (suc k) x t = let a = past ys k x t in omega (arith, a)

pub told_is : (s : Shelf) (block : ℕ → List ℕ) (id : SegId) (e : Entry) → entry_of s id ≡ Some e
    → segment_told s block id.key ≡ entry_told (place_of s id.key) e (blocks_told s block id.key)
unfolding segment_told
told_is s block id e live =
    let slot : slot_at s.entries id.key ≡ Some e = aged_is id.age (slot_at s.entries id.key) e live in
    ap (λ (z : Option Entry). entry_told (place_of s id.key) (entry_or z) (blocks_told s block id.key)) slot

-- a segment as the store shows it: its front, and its blocks behind that, where it has its bytes in them
pub segment_parts : (s : Shelf) (block : ℕ → List ℕ) (id : SegId) (shown : Shown) (n : ℕ) → IsShelf s
    → Some shown ≡ option_map (shown_of (place_of s id.key)) (entry_of s id) → n ≡ blocks_for shown.kept
    → segment_bytes (segment_told s block id.key) ≡ segment_front shown n ++ behind shown.place (blocks_told s block id.key)
segment_parts s block id shown n h is count = go (entry_of s id) refl is
  where
    go : (o : Option Entry) → entry_of s id ≡ o → Some shown ≡ option_map (shown_of (place_of s id.key)) o
        → segment_bytes (segment_told s block id.key) ≡ segment_front shown n ++ behind shown.place (blocks_told s block id.key)
    go None live e = absurd (cc)
    go (Some x) live e =
        let range = place_of s id.key in
        let bs = blocks_told s block id.key in
        let same : shown ≡ shown_of range x = cc in
        let many : shown_at range x ≡ there.Blocks → n ≡ length bs =
        λ t. count ∙ (ap (λ (z : Shown). blocks_for z.kept) same ∙ (count_is s id x h live (within s id x live) t ∙ sym (length-map (blocks_of s.swap id.key) (block_told block)))) in
        ap segment_bytes (told_is s block id x live)
        ∙ (entry_splits range x bs n many
        ∙ ap (λ (z : Shown). segment_front z n ++ behind z.place bs) (sym same))

-- ---- all of them

-- the segment of a number that has one
lives_by : (s : Shelf) (n : ℕ) (o : Option Entry) → slot_at s.entries n ≡ o → IsSome o → IsSome (entry_of s (numbered s n))
lives_by s n None e h = absurd (cc)
lives_by s n (Some x) e h = (let t : eqb x.age x.age ≡ true = grind (arith, nat_tests) in rw (e, t) refl)

nth_by : (s : Shelf) (k n : ℕ) (id : SegId) → k < length (numbers s) → get_or (numbers s) k 0 ≡ n → Some id ≡ option_map (numbered s) (slice_get (numbers s) k) → IsSome (entry_of s id)
nth_by s k n id l at e =
    let there : slice_get (numbers s) k ≡ Some n = slice_get-get_or (numbers s) k 0 l ∙ ap Some at in
    let told : Some id ≡ Some (numbered s n) = e ∙ ap (option_map (numbered s)) there in
    let is : id ≡ numbered s n = cc in
    let zero_more : 0 + n ≡ n = omega arith in
    let lives : IsSome (slot_at s.entries n) = listed_lives 0 s.entries k n l (at ∙ sym zero_more) in
    subst (λ (z : SegId). IsSome (entry_of s z)) (sym is) (lives_by s n (slot_at s.entries n) refl lives)

pub nth_lives : (s : Shelf) (k : ℕ) (id : SegId) → k < length (numbers s) → Some id ≡ option_map (numbered s) (slice_get (numbers s) k) → IsSome (entry_of s id)
nth_lives s k id l e = nth_by s k (get_or (numbers s) k 0) id l refl e

pub segments_next : (s : Shelf) (block : ℕ → List ℕ) (k n : ℕ) → k < length (numbers s) → n ≡ get_or (numbers s) k 0
    → flat_map segment_bytes (map (segment_told s block) (drop k (numbers s)))
    ≡ segment_bytes (segment_told s block n) ++ flat_map segment_bytes (map (segment_told s block) (drop (k + 1) (numbers s)))
segments_next s block k n l e =
    ap (λ (z : List ℕ). flat_map segment_bytes (map (segment_told s block) z)) (next_item (numbers s) k 0 l)
    ∙ ap (λ (z : ℕ). segment_bytes (segment_told s block z) ++ flat_map segment_bytes (map (segment_told s block) (drop (k + 1) (numbers s)))) (sym e)

pub segments_left : (s : Shelf) (block now : ℕ → List ℕ) (k n : ℕ) → k < length (numbers s) → n ≡ get_or (numbers s) k 0 → now ≡ block
    → flat_map segment_bytes (map (segment_told s block) (drop k (numbers s)))
    ≡ segment_bytes (segment_told s now n) ++ flat_map segment_bytes (map (segment_told s block) (drop (k + 1) (numbers s)))
segments_left s block now k n l e same =
    segments_next s block k n l e
    ∙ ap (λ (f : ℕ → List ℕ). segment_bytes (segment_told s f n) ++ flat_map segment_bytes (map (segment_told s block) (drop (k + 1) (numbers s)))) (sym same)
