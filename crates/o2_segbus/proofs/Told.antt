-- The lists of numbers tell the tables of a store and of the maps of processes.
use Rattle.std.proofs.Common.{◌≡◌, refl, sym, ap, ◌∙◌, ℕ, zero, suc, Bool, true, false, List, [], ◌∷◌, length, get_or, map, arith}
use Rattle.std.specs.Prelude.{Option, Some, None}
use Rattle.std.proofs.lemmas.List.{ext_get_or}
use Rattle.o2_desc.specs.declared.descriptor.Descriptor.{Descriptor}
use Rattle.o2_entries.specs.declared.Entry.{Entry}
use Rattle.o2_place.specs.declared.ranges.Range.{Range}
use Rattle.o2_place.specs.declared.clock.Mark.{Mark}
use Rattle.o2_place.specs.Layout.{Layout}
use Rattle.o2_place.specs.Marks.{Turns}
use Rattle.o2_swapmap.specs.Piles.{Blocks}
use Rattle.o2_regions.specs.declared.held.Held.{Held}
use Rattle.o2_regions.specs.declared.held.Cause.{Cause}
use Rattle.o2_regions.specs.declared.held.Cause.TheVariants.{Loaded, Called, Alias}
use Rattle.o2_regions.specs.Maps.{Maps, table_of}
use Rattle.o2_store.specs.Shelf.{Shelf}
use Rattle.o2_segbus.specs.Kept.{bit, cause_number, ranges_told, marks_told, image_told, entries_told, held_told, lengths_of, numbers_told, planes}

abbrev at : ℕ → List ℕ → ℕ
at k ns = get_or ns k 0

abbrev tail : {X : Type 0} → List X → List X
tail [] = []
tail (x ∷ xs) = xs

bit_same : (a b : Bool) → bit a ≡ bit b → a ≡ b
bit_same true true e = refl
bit_same true false e = absurd (omega (arith, e))
bit_same false true e = absurd (omega (arith, e))
bit_same false false e = refl

cause_same : (a b : Cause) → cause_number a ≡ cause_number b → a ≡ b
cause_same Loaded Loaded e = refl
cause_same Loaded Called e = absurd (omega (arith, e))
cause_same Loaded Alias e = absurd (omega (arith, e))
cause_same Called Loaded e = absurd (omega (arith, e))
cause_same Called Called e = refl
cause_same Called Alias e = absurd (omega (arith, e))
cause_same Alias Loaded e = absurd (omega (arith, e))
cause_same Alias Called e = absurd (omega (arith, e))
cause_same Alias Alias e = refl

nil_cons : {x : ℕ} {xs : List ℕ} → [] ≡ x ∷ xs → ⊥
nil_cons e = cc

ranges_same : (xs ys : List Range) → ranges_told xs ≡ ranges_told ys → xs ≡ ys
ranges_same [] [] e = refl
ranges_same [] (y ∷ ys) e = absurd (nil_cons e)
ranges_same (x ∷ xs) [] e = absurd (nil_cons (sym e))
ranges_same (x ∷ xs) (y ∷ ys) e =
    ap (λ (a : ℕ). record { id = a; at = x.at; len = x.len } ∷ xs) (ap (at 0) e)
    ∙ (ap (λ (a : ℕ). record { id = y.id; at = a; len = x.len } ∷ xs) (ap (at 1) e)
    ∙ (ap (λ (a : ℕ). record { id = y.id; at = y.at; len = a } ∷ xs) (ap (at 2) e)
    ∙ ap (λ (z : List Range). y ∷ z) (ranges_same xs ys (ap (λ (l : List ℕ). tail (tail (tail l))) e))))

marks_same : (xs ys : List Mark) → marks_told xs ≡ marks_told ys → xs ≡ ys
marks_same [] [] e = refl
marks_same [] (y ∷ ys) e = absurd (nil_cons e)
marks_same (x ∷ xs) [] e = absurd (nil_cons (sym e))
marks_same (x ∷ xs) (y ∷ ys) e =
    ap (λ (a : Bool). record { present = a; used = x.used } ∷ xs) (bit_same x.present y.present (ap (at 0) e))
    ∙ (ap (λ (a : Bool). record { present = y.present; used = a } ∷ xs) (bit_same x.used y.used (ap (at 1) e))
    ∙ ap (λ (z : List Mark). y ∷ z) (marks_same xs ys (ap (λ (l : List ℕ). tail (tail l)) e)))

image_same : (o p : Option (ℕ × ℕ)) (xs ys : List ℕ) → image_told o xs ≡ image_told p ys → (o ≡ p) × (xs ≡ ys)
image_same None None xs ys e = (refl, ap tail e)
image_same None (Some q) xs ys e = absurd (let n : 0 ≡ 1 = ap (at 0) e in omega (arith, n))
image_same (Some o) None xs ys e = absurd (let n : 1 ≡ 0 = ap (at 0) e in omega (arith, n))
image_same (Some o) (Some q) xs ys e =
    (ap (λ (a : ℕ). Some (a, o.1)) (ap (at 1) e) ∙ ap (λ (a : ℕ). Some (q.0, a)) (ap (at 2) e), ap (λ (l : List ℕ). tail (tail (tail l))) e)

abbrev entry_by : ℕ → ℕ → ℕ → Option (ℕ × ℕ) → ℕ → ℕ → Bool → Bool → Bool → Entry
entry_by age size kept image flags lock clean shared gone = record { age = age; size = size; kept = kept; image = image; attr = record { flags = flags; lock = lock; clean = clean; shared = shared; gone = gone } }

entry_same : (x y : Entry) → x.age ≡ y.age → x.size ≡ y.size → x.kept ≡ y.kept → x.image ≡ y.image → x.attr.flags ≡ y.attr.flags → x.attr.lock ≡ y.attr.lock → x.attr.clean ≡ y.attr.clean → x.attr.shared ≡ y.attr.shared
    → x.attr.gone ≡ y.attr.gone → x ≡ y
entry_same x y a b c d e f g h i =
    ap (λ (z : ℕ). entry_by z x.size x.kept x.image x.attr.flags x.attr.lock x.attr.clean x.attr.shared x.attr.gone) a
    ∙ (ap (λ (z : ℕ). entry_by y.age z x.kept x.image x.attr.flags x.attr.lock x.attr.clean x.attr.shared x.attr.gone) b
    ∙ (ap (λ (z : ℕ). entry_by y.age y.size z x.image x.attr.flags x.attr.lock x.attr.clean x.attr.shared x.attr.gone) c
    ∙ (ap (λ (z : Option (ℕ × ℕ)). entry_by y.age y.size y.kept z x.attr.flags x.attr.lock x.attr.clean x.attr.shared x.attr.gone) d
    ∙ (ap (λ (z : ℕ). entry_by y.age y.size y.kept y.image z x.attr.lock x.attr.clean x.attr.shared x.attr.gone) e
    ∙ (ap (λ (z : ℕ). entry_by y.age y.size y.kept y.image y.attr.flags z x.attr.clean x.attr.shared x.attr.gone) f
    ∙ (ap (λ (z : Bool). entry_by y.age y.size y.kept y.image y.attr.flags y.attr.lock z x.attr.shared x.attr.gone) g
    ∙ (ap (λ (z : Bool). entry_by y.age y.size y.kept y.image y.attr.flags y.attr.lock y.attr.clean z x.attr.gone) h
    ∙ ap (λ (z : Bool). entry_by y.age y.size y.kept y.image y.attr.flags y.attr.lock y.attr.clean y.attr.shared z) i)))))))

abbrev behind_seven : List ℕ → List ℕ
behind_seven l = tail (tail (tail (tail (tail (tail (tail l))))))

entries_same : (xs ys : List (Option Entry)) → entries_told xs ≡ entries_told ys → xs ≡ ys
entries_same [] [] e = refl
entries_same [] (None ∷ ys) e = absurd (nil_cons e)
entries_same [] (Some y ∷ ys) e = absurd (nil_cons e)
entries_same (None ∷ xs) [] e = absurd (nil_cons (sym e))
entries_same (Some x ∷ xs) [] e = absurd (nil_cons (sym e))
entries_same (None ∷ xs) (None ∷ ys) e = ap (λ (z : List (Option Entry)). None ∷ z) (entries_same xs ys (ap tail e))
entries_same (None ∷ xs) (Some y ∷ ys) e = absurd (let n : 0 ≡ 1 = ap (at 0) e in omega (arith, n))
entries_same (Some x ∷ xs) (None ∷ ys) e = absurd (let n : 1 ≡ 0 = ap (at 0) e in omega (arith, n))
entries_same (Some x ∷ xs) (Some y ∷ ys) e =
    let i = image_same x.image y.image (entries_told xs) (entries_told ys) (ap (λ (l : List ℕ). tail (tail (behind_seven l))) e) in
    ap (λ (z : Entry). Some z ∷ xs) (entry_same x y (ap (at 1) e) (ap (at 2) e) (ap (at 3) e) i.0 (ap (at 4) e) (ap (at 5) e) (bit_same x.attr.clean y.attr.clean (ap (at 6) e)) (bit_same x.attr.shared y.attr.shared (ap (at 7) e)) (bit_same x.attr.gone y.attr.gone (ap (at 8) e)))
    ∙ ap (λ (z : List (Option Entry)). Some y ∷ z) (entries_same xs ys i.1)

abbrev held_by : ℕ → ℕ → ℕ → Cause → ℕ → ℕ → Held
held_by key age holds cause first reserved = record { id = record { key = key; age = age }; holds = holds; cause = cause; first = first; reserved = reserved }

held_same : (x y : Held) → x.id.key ≡ y.id.key → x.id.age ≡ y.id.age → x.holds ≡ y.holds → x.cause ≡ y.cause → x.first ≡ y.first → x.reserved ≡ y.reserved → x ≡ y
held_same x y a b c d e f =
    ap (λ (z : ℕ). held_by z x.id.age x.holds x.cause x.first x.reserved) a
    ∙ (ap (λ (z : ℕ). held_by y.id.key z x.holds x.cause x.first x.reserved) b
    ∙ (ap (λ (z : ℕ). held_by y.id.key y.id.age z x.cause x.first x.reserved) c
    ∙ (ap (λ (z : Cause). held_by y.id.key y.id.age y.holds z x.first x.reserved) d
    ∙ (ap (λ (z : ℕ). held_by y.id.key y.id.age y.holds y.cause z x.reserved) e
    ∙ ap (λ (z : ℕ). held_by y.id.key y.id.age y.holds y.cause y.first z) f))))

holds_same : (xs ys : List (Option Held)) → held_told xs ≡ held_told ys → xs ≡ ys
holds_same [] [] e = refl
holds_same [] (None ∷ ys) e = absurd (nil_cons e)
holds_same [] (Some y ∷ ys) e = absurd (nil_cons e)
holds_same (None ∷ xs) [] e = absurd (nil_cons (sym e))
holds_same (Some x ∷ xs) [] e = absurd (nil_cons (sym e))
holds_same (None ∷ xs) (None ∷ ys) e = ap (λ (z : List (Option Held)). None ∷ z) (holds_same xs ys (ap tail e))
holds_same (None ∷ xs) (Some y ∷ ys) e = absurd (let n : 0 ≡ 1 = ap (at 0) e in omega (arith, n))
holds_same (Some x ∷ xs) (None ∷ ys) e = absurd (let n : 1 ≡ 0 = ap (at 0) e in omega (arith, n))
holds_same (Some x ∷ xs) (Some y ∷ ys) e =
    ap (λ (z : Held). Some z ∷ xs) (held_same x y (ap (at 1) e) (ap (at 2) e) (ap (at 3) e) (cause_same x.cause y.cause (ap (at 4) e)) (ap (at 5) e) (ap (at 6) e))
    ∙ ap (λ (z : List (Option Held)). Some y ∷ z) (holds_same xs ys (ap behind_seven e))

bits_same : (xs ys : List Bool) → map bit xs ≡ map bit ys → xs ≡ ys
bits_same [] [] e = refl
bits_same [] (y ∷ ys) e = absurd (nil_cons e)
bits_same (x ∷ xs) [] e = absurd (nil_cons (sym e))
bits_same (x ∷ xs) (y ∷ ys) e = ap (λ (a : Bool). a ∷ xs) (bit_same x y (ap (at 0) e)) ∙ ap (λ (z : List Bool). y ∷ z) (bits_same xs ys (ap tail e))

-- what the planes tell, of two stores and two maps
pub record SameTold (s t : Shelf) (m n : Maps) : Type 0 where
  pub store : t ≡ record s { memory = t.memory }
  pub processes : n.processes ≡ m.processes
  pub held : n.held ≡ m.held
  pub reserved : n.reserved ≡ m.reserved
  pub lengths : (pid : ℕ) → length (table_of n pid) ≡ length (table_of m pid)

lengths_same : (ts us : List (List Descriptor)) → lengths_of ts ≡ lengths_of us → (k : ℕ) → length (get_or ts k []) ≡ length (get_or us k [])
lengths_same [] [] e k = refl
lengths_same [] (u ∷ us) e k = absurd (nil_cons e)
lengths_same (t ∷ ts) [] e k = absurd (nil_cons (sym e))
lengths_same (t ∷ ts) (u ∷ us) e zero = ap (at 0) e
lengths_same (t ∷ ts) (u ∷ us) e (suc k) = lengths_same ts us (ap tail e) k

abbrev plane : ℕ → List (List ℕ) → List ℕ
plane k ps = get_or ps k []

abbrev lists_behind : List (List ℕ) → List (List ℕ)
lists_behind l = tail (tail (tail (tail (tail (tail (tail (tail (tail l))))))))

abbrev store_by : List ℕ → Layout → Turns → Blocks → List (Option Entry) → ℕ → List ℕ → Shelf
store_by memory places turns swap entries made keys = record { memory = memory; places = places; turns = turns; swap = swap; entries = entries; made = made; keys = keys }

layout_same : (a b : Layout) → a.ranges ≡ b.ranges → a.size ≡ b.size → a.most ≡ b.most → a ≡ b
layout_same a b e f g =
    ap (λ (z : List Range). record { ranges = z; size = a.size; most = a.most }) e
    ∙ (ap (λ (z : ℕ). record { ranges = b.ranges; size = z; most = a.most }) f
    ∙ ap (λ (z : ℕ). record { ranges = b.ranges; size = b.size; most = z }) g)

turns_same : (a b : Turns) → a.marks ≡ b.marks → a.places ≡ b.places → a.hand ≡ b.hand → a ≡ b
turns_same a b e f g =
    ap (λ (z : List Mark). record { marks = z; places = a.places; hand = a.hand }) e
    ∙ (ap (λ (z : List ℕ). record { marks = b.marks; places = z; hand = a.hand }) f
    ∙ ap (λ (z : ℕ). record { marks = b.marks; places = b.places; hand = z }) g)

blocks_same : (a b : Blocks) → a.lists ≡ b.lists → a.most ≡ b.most → a ≡ b
blocks_same a b e f =
    ap (λ (z : List (List ℕ)). record { lists = z; most = a.most }) e ∙ ap (λ (z : ℕ). record { lists = b.lists; most = z }) f

from_planes : (s t : Shelf) (m n : Maps) → planes t n ≡ planes s m → SameTold s t m n
from_planes s t m n e =
    let k : numbers_told t n ≡ numbers_told s m = ap (plane 0) e in
    let places : t.places ≡ s.places = layout_same t.places s.places (ranges_same t.places.ranges s.places.ranges (ap (plane 1) e)) (ap (at 0) k) (ap (at 1) k) in
    let turns : t.turns ≡ s.turns = turns_same t.turns s.turns (marks_same t.turns.marks s.turns.marks (ap (plane 2) e)) (ap (plane 3) e) (ap (at 2) k) in
    let swap : t.swap ≡ s.swap = blocks_same t.swap s.swap (ap lists_behind e) (ap (at 3) k) in
    let entries : t.entries ≡ s.entries = entries_same t.entries s.entries (ap (plane 4) e) in
    let made : t.made ≡ s.made = ap (at 4) k in
    let keys : t.keys ≡ s.keys = ap (plane 5) e in
    record {
      store =
          ap (λ (z : Layout). store_by t.memory z t.turns t.swap t.entries t.made t.keys) places
          ∙ (ap (λ (z : Turns). store_by t.memory s.places z t.swap t.entries t.made t.keys) turns
          ∙ (ap (λ (z : Blocks). store_by t.memory s.places s.turns z t.entries t.made t.keys) swap
          ∙ (ap (λ (z : List (Option Entry)). store_by t.memory s.places s.turns s.swap z t.made t.keys) entries
          ∙ (ap (λ (z : ℕ). store_by t.memory s.places s.turns s.swap s.entries z t.keys) made
          ∙ ap (λ (z : List ℕ). store_by t.memory s.places s.turns s.swap s.entries s.made z) keys))));
      processes = ap (at 5) k;
      held = holds_same n.held m.held (ap (plane 6) e);
      reserved = bits_same n.reserved m.reserved (ap (plane 7) e);
      lengths = lengths_same n.tables m.tables (ap (plane 8) e);
    }

-- planes that are the same number by number are the same
pub told : (s t : Shelf) (m n : Maps) → ((k : ℕ) → get_or (planes t n) k [] ≡ get_or (planes s m) k []) → SameTold s t m n
told s t m n f =
    let l : length t.swap.lists ≡ length s.swap.lists = ap (at 6) (f 0) in
    from_planes s t m n (ext_get_or [] (planes t n) (planes s m) (omega (arith, l)) (λ j u. f j))
