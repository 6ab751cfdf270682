-- What the boundless machine sees of a process stays where segments keep their bytes and processes what they hold.
use Rattle.std.proofs.Common.{◌≡◌, ℕ, ◌+◌, ◌<◌, ◌≤◌, Bool, true, cond, List, [], length, get_or, Option, Some, None, is_some, ap, sym, ◌∙◌, refl, arith}
use Rattle.std.specs.Prelude.{map, option_map, IsTrue}
use Rattle.std.specs.List.{range_with_len}
use Rattle.std.proofs.lemmas.List.{ext_get_or}
use Rattle.std.proofs.lemmas.List.FromFn.{get_or-map-range_with_len, length-map-range_with_len}
use mathlib.Core.Path.{fun_ext}
use Rattle.o2_image.specs.ImageList.{ImageList}
use Rattle.o2_isa.specs.declared.cpu.Cpu.{Cpu}
use Rattle.o2_isa.specs.View.{View, Hold, built_gates, no_rest, no_hidden, bound_registers}
use Rattle.o2_phys.proofs.Parts.{length-part, get-part}
use Rattle.o2_regions.specs.declared.held.Held.{Held}
use Rattle.o2_regions.specs.Maps.{Maps, held_at}
use Rattle.o2_store.specs.Pictures.{picture}
use Rattle.o2_store.specs.Shelf.{Shelf, Pictures, SameTables, KeepsAll, byte_at, byte_in, entry, out_byte, place_of}
use Rattle.o2_segbus.specs.Bus.{AreInside}
use Rattle.o2_segbus.specs.Seen.{bytes_from, bytes_in, bytes_under, gone_in, hold_in, hold_of, key_of, present_in, present_under, seen, seen_with, size_in, size_under}
use Rattle.o2_segbus.specs.Frames.{KeepsStore}
use Rattle.o2_segbus.proofs.Keeping.{presence_stays}
use Rattle.o2_stands.proofs.Moves.{same_keys}
use Rattle.o2_isa.specs.Presence.{is_in}
use Rattle.o2_gate.specs.Pointed.{ArePresent}
use Rattle.o2_stands.specs.Parts.{away_in, away_under}
use Rattle.o2_stepping.specs.Shapes.{SameHolds}
use Rattle.o2_stepping.specs.Worlds.{bytes_with, parts_of, world_view}
use Rattle.o2_stepping.proofs.Wholes.{marks_stay}

-- What is held.

pub same_hold : (m n : Maps) (pid i : ℕ) → SameHolds m n → hold_in n pid i ≡ hold_in m pid i
unfolding hold_in
same_hold m n pid i k =
    ap (λ (o : Option Held). option_map (hold_of n pid i) o) (ap (λ (l : List (Option Held)). held_at (record m { held = l }) pid i) k.held)
    ∙ ap (λ (r : ℕ). option_map (λ (h : Held). record { name = h.id.age; rights = r }) (held_at m pid i)) (k.rights pid i)

pub same_map : (m n : Maps) (pid : ℕ) → SameHolds m n → hold_in n pid ≡ hold_in m pid
same_map m n pid k = fun_ext (λ i. same_hold m n pid i k)

-- Sizes.

size_same : (s t : Shelf) → SameTables s t → (o : Option ℕ) → size_under t o ≡ size_under s o
size_same s t w None = refl
size_same s t w (Some k) = (w.same k).size

pub sizes_same : (s t : Shelf) → SameTables s t → size_in t ≡ size_in s
sizes_same s t w = fun_ext (λ n. ap (size_under t) (same_keys s t w n) ∙ size_same s t w (key_of s n))

-- Bytes.

-- as many as a number says, each by its place
abbrev pub table : (ℕ → ℕ) → ℕ → List ℕ
table f n = map f (range_with_len 0 n)

table_same : (f g : ℕ → ℕ) (n : ℕ) → ((j : ℕ) → j < n → f j ≡ g j) → table f n ≡ table g n
table_same f g n e =
    ext_get_or 0 (table f n) (table g n) (length-map-range_with_len f 0 n ∙ sym (length-map-range_with_len g 0 n)) (λ j l.
    (let q = length-map-range_with_len f 0 n in
    let l2 : j < n = omega (arith, l, q) in
    get_or-map-range_with_len f 0 n j j 0 l2 (omega arith) ∙ e j l2 ∙ sym (get_or-map-range_with_len g 0 n j j 0 l2 (omega arith))))

part_table : (memory : List ℕ) (at n : ℕ) → at + n ≤ length memory → bytes_from memory (Some (at, n)) n ≡ table (λ j. get_or memory (at + j) 0) n
part_table memory at n room =
    ext_get_or 0 (bytes_from memory (Some (at, n)) n) (table (λ j. get_or memory (at + j) 0) n) (length-part memory at n room ∙ sym (length-map-range_with_len (λ j. get_or memory (at + j) 0) 0 n)) (λ j l.
    (let q = length-part memory at n room in
    let l2 : j < n = omega (arith, l, q) in
    get-part memory at n j l2 ∙ sym (get_or-map-range_with_len (λ j. get_or memory (at + j) 0) 0 n j j 0 l2 (omega arith))))

-- the bytes of a number's segment, wherever they lie
abbrev pub all_under : Shelf → Pictures → (ℕ → List ℕ) → Option ℕ → List ℕ
all_under s pic block None = []
all_under s pic block (Some k) = table (byte_at s pic block k) (entry s k).size

module _ (s : Shelf) (inside : AreInside s) (pic : Pictures) (block : ℕ → List ℕ) where
  by_place : (k : ℕ) (r : Option (ℕ × ℕ)) → place_of s k ≡ r
      → cond (is_some r) (bytes_from s.memory r (entry s k).size) (table (out_byte s pic block k) (entry s k).size) ≡ table (λ j. byte_in s.memory r (out_byte s pic block k j) j) (entry s k).size
  by_place k None e = refl
  by_place k (Some r) e = part_table s.memory r.0 (entry s k).size (inside.within k r.0 r.1 e)

pub all_bytes : (s : Shelf) (m : Maps) (images : ImageList) (device : ℕ) (block : ℕ → List ℕ) → AreInside s → (n : ℕ)
    → bytes_with (away_in (parts_of s m images device block)) s n ≡ all_under s (picture images) block (key_of s n)
unfolding away_in
all_bytes s m images device block inside n = go (key_of s n)
  where
    go : (o : Option ℕ) → cond (present_under s o) (bytes_under s o) (away_under (parts_of s m images device block) o) ≡ all_under s (picture images) block o
    go None = refl
    go (Some k) = by_place s inside (picture images) block k (place_of s k) refl

under_same : (told : Bool) (pic : Pictures) (s t : Shelf) (before after : ℕ → List ℕ) → KeepsAll told pic s before t after → IsTrue told
    → (o : Option ℕ) → all_under t pic after o ≡ all_under s pic before o
under_same told pic s t before after keeps tells None = refl
under_same told pic s t before after keeps tells (Some k) =
    ap (table (byte_at t pic after k)) (keeps.tables.same k).size
    ∙ table_same (byte_at t pic after k) (byte_at s pic before k) (entry s k).size (λ j l. keeps.bytes tells k j l)

-- where all that a store has keeps its bytes
pub bytes_same : (images : ImageList) (told : Bool) (s t : Shelf) (m n : Maps) (device other : ℕ) (before after : ℕ → List ℕ) → AreInside s → AreInside t
    → KeepsAll told (picture images) s before t after → IsTrue told → (name : ℕ)
    → bytes_with (away_in (parts_of t n images other after)) t name ≡ bytes_with (away_in (parts_of s m images device before)) s name
bytes_same images told s t m n device other before after here there keeps tells name =
    all_bytes t n images other after there name
    ∙ ap (all_under t (picture images) after) (same_keys s t keeps.tables name)
    ∙ under_same told (picture images) s t before after keeps tells (key_of s name)
    ∙ sym (all_bytes s m images device before here name)

-- what is out of memory keeps its bytes where only bytes of the memory change
pub away_kept : (images : ImageList) (s t : Shelf) (m n : Maps) (device : ℕ) (block : ℕ → List ℕ) → KeepsStore s t → (name : ℕ)
    → away_in (parts_of t n images device block) name ≡ away_in (parts_of s m images device block) name
unfolding away_in key_of
away_kept images s t m n device block k name = ap (λ (z : Shelf). away_in (parts_of z n images device block) name) k.store

-- all bytes, where those in memory are the same
pub with_kept : (images : ImageList) (s t : Shelf) (m n : Maps) (device : ℕ) (block : ℕ → List ℕ) → KeepsStore s t → ((name : ℕ) → bytes_in t name ≡ bytes_in s name) → (name : ℕ)
    → bytes_with (away_in (parts_of t n images device block)) t name ≡ bytes_with (away_in (parts_of s m images device block)) s name
with_kept images s t m n device block k same name =
    ap (λ (b : Bool). cond b (bytes_in t name) (away_in (parts_of t n images device block) name)) (presence_stays s t k name)
    ∙ ap (λ (l : List ℕ). cond (present_in s name) l (away_in (parts_of t n images device block) name)) (same name)
    ∙ ap (λ (l : List ℕ). cond (present_in s name) (bytes_in s name) l) (away_kept images s t m n device block k name)

-- The view.

pub registers_are : (away : ℕ → List ℕ) (s : Shelf) (m : Maps) (pid : ℕ) (c : Cpu) → (world_view away s m pid c).registers ≡ bound_registers (hold_in m pid) c
unfolding seen_with
registers_are away s m pid c = refl

abbrev pub shown : Cpu → (ℕ → Option Hold) → (ℕ → ℕ) → (ℕ → Bool) → (ℕ → List ℕ) → View
shown c holds sizes marks bytes = record {
  held = holds;
  gate = built_gates;
  size = sizes;
  present = λ n. true;
  discarded = marks;
  bytes = bytes;
  registers = bound_registers holds c;
  rest = no_rest;
  hidden = no_hidden;
}

shown_same : (c : Cpu) (h g : ℕ → Option Hold) → h ≡ g → (x y : ℕ → ℕ) → x ≡ y → (k l : ℕ → Bool) → k ≡ l → (b d : ℕ → List ℕ) → b ≡ d → shown c h x k b ≡ shown c g y l d
shown_same c h g p x y q k l m b d r =
    ap (λ (z : ℕ → Option Hold). shown c z x k b) p
    ∙ (ap (λ (z : ℕ → ℕ). shown c g z k b) q
    ∙ (ap (λ (z : ℕ → Bool). shown c g y z b) m
    ∙ ap (λ (z : ℕ → List ℕ). shown c g y l z) r))

pub view_same : (old now : ℕ → List ℕ) (s t : Shelf) (m n : Maps) (pid : ℕ) (c : Cpu) → SameTables s t → SameHolds m n
    → ((name : ℕ) → bytes_with now t name ≡ bytes_with old s name) → world_view now t n pid c ≡ world_view old s m pid c
unfolding seen_with
view_same old now s t m n pid c tables holds bytes =
    shown_same c (hold_in n pid) (hold_in m pid) (same_map m n pid holds) (size_in t) (size_in s) (sizes_same s t tables) (gone_in t) (gone_in s) (fun_ext (marks_stay s t tables)) (bytes_with now t) (bytes_with old s) (fun_ext bytes)

pub seen_present : (s : Shelf) (m : Maps) (pid : ℕ) (c : Cpu) (names : List ℕ) → ArePresent (seen s m pid c) names → (n : ℕ) → is_in n names ≡ true → present_in s n ≡ true
unfolding seen_with
seen_present s m pid c names h n e = h n e
