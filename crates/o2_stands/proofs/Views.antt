-- What a process sees of the world is what the bus shows of the machine, with all segments present.
use Rattle.std.proofs.Common.{◌≡◌, ℕ, ◌<◌, Bool, true, false, List, length, map, Option, Some, None, is_some, refl, sym, ap, ◌∙◌, arith, if◌then◌else◌, option_map}
use mathlib.Core.Path.{fun_ext}
use Rattle.std.specs.Borrow.{GName}
use Rattle.std.specs.List.{range_with_len}
use Rattle.std.proofs.lemmas.List.{ext_get_or}
use Rattle.std.proofs.lemmas.List.FromFn.{get_or-map-range_with_len, length-map-range_with_len}
use Rattle.o2_phys.specs.Bytes.{part}
use Rattle.o2_phys.proofs.Parts.{length-part, get-part}
use Rattle.o2_isa.specs.declared.cpu.Cpu.{Cpu}
use Rattle.o2_isa.specs.View.{View, Hold, Filling, Hidden, Registers, Rest, bound_registers, built_gates, no_rest, no_hidden}
use Rattle.o2_regions.specs.declared.held.Held.{Held as HeldThere}
use Rattle.o2_regions.specs.Maps.{Maps, held_at as held_there}
use Rattle.o2_store.specs.Pictures.{picture}
use Rattle.o2_store.specs.Shelf.{Shelf, byte_in as byte_by, entry, out_byte, place_of}
use Rattle.o2_segbus.specs.declared.registers.SegmentRegisters.{SegmentRegisters}
use Rattle.o2_segbus.specs.Bus.{bus_hidden, bus_rest, bus_view, registers_of}
use Rattle.o2_segbus.specs.Frames.{KeepsStore}
use Rattle.o2_segbus.proofs.Keeping.{presence_stays}
use Rattle.o2_segbus.specs.Seen.{bytes_from, bytes_in as bytes_there, bytes_under, hold_in, hold_of as hold_there, key_of, present_in, present_under, seen_with, gone_in, gone_under, size_in, size_under}
use Rattle.o2_world.specs.Map.{Map, get}
use Rattle.o2_world.specs.World.{Process, Reserve, Segment}
use Rattle.o2_world.specs.Holders.{process_at}
use Rattle.o2_world.specs.Sound.{held_of as held_by}
use Rattle.o2_world.specs.Views.{bytes_in, discarded_in, hold_of, holds_in, is_discarded, segment_bytes, view_of}
use Rattle.o2_stands.specs.Parts.{Parts, away_in, away_under, held_in, held_of}
use Rattle.o2_stands.specs.Stands.{AreLawful, IsNamed, IsSegment, StandsIn}
use Rattle.o2_stands.specs.Moves.{AreWritten}
use Rattle.o2_stands.specs.Views.{Fills, boundless_view, filled, filling_of}

-- name and rights of what is held
hold_by : (m : Maps) (pid i : ℕ) (o : Option HeldThere) → option_map hold_of (option_map (held_of m pid i) o) ≡ option_map (hold_there m pid i) o
hold_by m pid i None = refl
hold_by m pid i (Some h) = refl

module _ (p : Parts) (lawful : AreLawful p.shelf p.maps) where
  size_by : (o : Option ℕ) (g : Option Segment) → IsNamed p o g → length (segment_bytes g) ≡ size_under p.shelf o
  size_by None None is = refl
  size_by (Some k) None is = absurd is
  size_by None (Some s) is = absurd is
  size_by (Some k) (Some s) is = is.size

  mark_by : (o : Option ℕ) (g : Option Segment) → IsNamed p o g → is_discarded g ≡ gone_under p.shelf o
  mark_by None None is = refl
  mark_by (Some k) None is = absurd is
  mark_by None (Some s) is = absurd is
  mark_by (Some k) (Some s) is = is.discarded

  placed_bytes : (k : ℕ) (s : Segment) → IsSegment p k s → (r : Option (ℕ × ℕ)) → place_of p.shelf k ≡ r
      → s.bytes ≡ (if is_some r then bytes_from p.shelf.memory r (entry p.shelf k).size else away_under p (Some k))
  placed_bytes k s is None at =
      let size = (entry p.shelf k).size in
      let out = out_byte p.shelf (picture p.images) p.block k in
      ext_get_or 0 s.bytes (map out (range_with_len 0 size)) (is.size ∙ sym (length-map-range_with_len out 0 size))
      (λ j l. let w : j < size = omega (arith, l, is.size) in
      is.bytes j w ∙ (ap (λ (o : Option (ℕ × ℕ)). byte_by p.shelf.memory o (out j) j) at ∙ sym (get_or-map-range_with_len out 0 size j j 0 w (omega arith))))
  placed_bytes k s is (Some r) at =
      let size = (entry p.shelf k).size in
      let out = out_byte p.shelf (picture p.images) p.block k in
      let long = length-part p.shelf.memory r.0 size (lawful.inside.within k r.0 r.1 at) in
      ext_get_or 0 s.bytes (part p.shelf.memory r.0 size) (is.size ∙ sym long)
      (λ j l. let w : j < size = omega (arith, l, is.size) in
      is.bytes j w ∙ (ap (λ (o : Option (ℕ × ℕ)). byte_by p.shelf.memory o (out j) j) at ∙ sym (get-part p.shelf.memory r.0 size j w)))

  pub bytes_by : (o : Option ℕ) (g : Option Segment) → IsNamed p o g → segment_bytes g ≡ (if present_under p.shelf o then bytes_under p.shelf o else away_under p o)
  bytes_by None None is = refl
  bytes_by (Some k) None is = absurd is
  bytes_by None (Some s) is = absurd is
  bytes_by (Some k) (Some s) is = placed_bytes k s is (place_of p.shelf k) refl

-- the bytes that a filling gives are those by images and blocks
away_same : (b : Bool) (here away other : List ℕ) → (b ≡ false → away ≡ other) → (if b then here else other) ≡ (if b then here else away)
away_same true here away other e = refl
away_same false here away other e = sym (e refl)

abbrev made : Cpu → (ℕ → Option Hold) → (ℕ → ℕ) → (ℕ → Bool) → (ℕ → List ℕ) → View
made c held size discarded bytes = record {
  held = held;
  gate = built_gates;
  size = size;
  present = λ n. true;
  discarded = discarded;
  bytes = bytes;
  registers = bound_registers held c;
  rest = no_rest;
  hidden = no_hidden;
}

module _ (p : Parts) (ps : List Process) (names : Map Segment) (next : ℕ) (reserved : List Reserve) (lawful : AreLawful p.shelf p.maps) (stands : StandsIn p ps names next reserved) where
  pub name_bytes : (n : ℕ) → bytes_in names n ≡ (if present_in p.shelf n then bytes_there p.shelf n else away_in p n)
  unfolding away_in
  name_bytes n = bytes_by p lawful (key_of p.shelf n) (get names n) (stands.segments n)

  pub name_size : (n : ℕ) → length (bytes_in names n) ≡ size_in p.shelf n
  name_size n = size_by p lawful (key_of p.shelf n) (get names n) (stands.segments n)

  pub name_mark : (n : ℕ) → discarded_in names n ≡ gone_in p.shelf n
  name_mark n = mark_by p lawful (key_of p.shelf n) (get names n) (stands.segments n)

  pub process_holds : (pid : ℕ) (q : Process) → process_at ps pid ≡ Some q → (i : ℕ) → holds_in q.held i ≡ hold_in p.maps pid i
  unfolding held_in hold_in
  process_holds pid q at i =
      ap (option_map hold_of) (ap (λ (o : Option Process). held_by o i) (sym at) ∙ stands.held pid i)
      ∙ hold_by p.maps pid i (held_there p.maps pid i)

  pub view_is : (pid : ℕ) (q : Process) (r : Rest) (h : Hidden) (f : Filling) → process_at ps pid ≡ Some q → Fills p h f
      → view_of names q ≡ filled p r h f pid q.cpu
  unfolding seen_with
  view_is pid q r h f at fills =
      ap (λ (held : ℕ → Option Hold). made q.cpu held (λ n. length (bytes_in names n)) (discarded_in names) (bytes_in names)) (fun_ext (process_holds pid q at))
      ∙ (ap (λ (size : ℕ → ℕ). made q.cpu (hold_in p.maps pid) size (discarded_in names) (bytes_in names)) (fun_ext name_size)
      ∙ (ap (λ (discarded : ℕ → Bool). made q.cpu (hold_in p.maps pid) (size_in p.shelf) discarded (bytes_in names)) (fun_ext name_mark)
      ∙ ap (λ (bytes : ℕ → List ℕ). made q.cpu (hold_in p.maps pid) (size_in p.shelf) (gone_in p.shelf) bytes)
      (fun_ext (λ n. name_bytes n ∙ away_same (present_in p.shelf n) (bytes_there p.shelf n) (h.away n f.blocks) (away_in p n) (fills.away n)))))

  -- a bus shows that, with what no instruction sees
  pub bus_is : (g t : GName) (pid : ℕ) (q : Process) (x : SegmentRegisters) (h : Hidden) → process_at ps pid ≡ Some q → registers_of p.maps pid x ≡ bound_registers (hold_in p.maps pid) q.cpu
      → view_of names q ≡ boundless_view p h (bus_view g t p.shelf p.maps pid x)
  unfolding bus_view seen_with
  bus_is g t pid q x h at agrees =
      view_is pid q (bus_rest p.shelf p.maps) (bus_hidden g t) (filling_of p h) at (record { away = λ n out. refl })
      ∙ ap (λ (r : Registers). record (filled p (bus_rest p.shelf p.maps) (bus_hidden g t) (filling_of p h) pid q.cpu) { registers = r }) (sym agrees)

  -- and behind a step the bytes that are there, and of the rest those that were
  pub bus_writes : (g h : GName) (t : Shelf) (m : Maps) (pid : ℕ) (x : SegmentRegisters) (hidden : Hidden) → KeepsStore p.shelf t
      → AreWritten names t (boundless_view p hidden (bus_view g h t m pid x)).bytes
  unfolding bus_view seen_with
  bus_writes g h t m pid x hidden f = record { each = λ n s. same (present_in t n) n refl }
    where
      same : (b : Bool) (n : ℕ) → present_in t n ≡ b → (if b then bytes_there t n else away_in p n) ≡ (if b then bytes_there t n else bytes_in names n)
      same true n e = refl
      same false n e =
          sym (name_bytes n ∙ ap (λ (b : Bool). if b then bytes_there p.shelf n else away_in p n) (sym (presence_stays p.shelf t f n) ∙ e))
