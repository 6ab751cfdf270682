-- The image of a machine stands for the world that the machine stands for.
use Rattle.std.proofs.Common.{◌≡◌, ℕ, suc, ◌+◌, ◌<◌, List, [], ◌∷◌, length, get_or, Bool, true, false, Option, Some, None, IsSome, is_some, cond, refl, sym, ap, ◌∙◌, map, option_map, subst, arith, inl, inr}
use Rattle.std.specs.Prelude.{slice_get, ◌==◌}
use Rattle.std.proofs.lemmas.Bool.{cases_lt, eqb-true, false≢true}
use Rattle.std.proofs.lemmas.List.{length-map}
use Rattle.o2_desc.specs.declared.descriptor.Descriptor.{Descriptor}
use Rattle.o2_desc.specs.Bits.{rights_of, with_present}
use Rattle.o2_dump.specs.declared.parts.Block.{Block}
use Rattle.o2_dump.specs.declared.parts.SegmentEntry.{SegmentEntry}
use Rattle.o2_dump.specs.declared.parts.Held.{Held as HeldShown}
use Rattle.o2_dump.specs.declared.reader.Core.{Core}
use Rattle.o2_dump.specs.ProcessEntries.{state_of}
use Rattle.o2_dumping.specs.Told.{all_held, blocks_told, core_told, descriptor_at, entry_told, numbers, place_among, place_told, process_told, processes_from, segment_told}
use Rattle.o2_entries.specs.declared.Entry.{Entry}
use Rattle.o2_entries.specs.Tables.{slot_at}
use Rattle.o2_entries.proofs.Numbers.{rises}
use Rattle.o2_place.specs.declared.seg_id.SegId.{SegId}
use Rattle.o2_regions.specs.declared.held.Held.{Held as HeldThere}
use Rattle.o2_regions.specs.Maps.{Maps, held_at}
use Rattle.o2_segbus.specs.Seen.{key_of}
use Rattle.o2_segbus.specs.Settled.{Describes as DescribesThere, IsSettledAt, start_of as start_there}
use Rattle.o2_segbus.proofs.Ages.{aged_key}
use Rattle.o2_stands.specs.Parts.{Parts, held_in, held_of}
use Rattle.o2_stands.specs.Stands.{AreLawful, IsNamed as IsNamedThere, IsSetTo, Stands}
use Rattle.o2_stands.proofs.Rooms.{found_at}
use Rattle.o2_stands.proofs.Worlds.{number_is}
use Rattle.o2_store.specs.declared.brought.Place.TheVariants as there
use Rattle.o2_store.specs.Pictures.{picture}
use Rattle.o2_store.specs.Shelf.{Shelf, aged, entry, entry_of, entry_or, place_of, shown_out}
use Rattle.o2_swapmap.specs.Piles.{all_of}
use Rattle.o2_world.specs.declared.types.State.{State}
use Rattle.o2_world.specs.declared.types.State.TheVariants.{Live, Exited, Trapped}
use Rattle.o2_world.specs.Known.{held_at as held_world}
use Rattle.o2_world.specs.Map.{get}
use Rattle.o2_world.specs.Sound.{held_of as held_by}
use Rattle.o2_world.specs.World.{Held, Process, Segment, Setting, World}
use Rattle.o2_dump_worlds.specs.Rows.{number_shown, row_of}
use Rattle.o2_dump_worlds.specs.StandsFor.{AreProcesses, AreSegments, Describes, ImageStandsFor, IsHeldAs, IsHold, IsNamed, base_of, held_under, start_of, state_shown}
use Rattle.o2_dump_worlds.proofs.Entries.{lives, named_is, stands_at, told_at, told_is, within}
use Rattle.o2_dump_worlds.proofs.Holding.{listed_at, listed_is}

-- ---- what a descriptor says of an entry

module _ (bs : List Block) where
  no_base : (o : Option (ℕ × ℕ)) (kept : ℕ) → base_of (place_told (shown_out o kept) bs) ≡ None
  no_base (Some p) kept = refl
  no_base None kept = by (kept == 0)
    where
      by : (b : Bool) → base_of (place_told (cond b there.Zeros there.Blocks) bs) ≡ None
      by true = refl
      by false = refl

  -- an entry is shown in memory where the segment is, and only there
  base_is : (range : Option (ℕ × ℕ)) (e : Entry) → base_of (entry_told range e bs).place ≡ option_map (λ (r : ℕ × ℕ). r.0) range
  base_is (Some r) e = refl
  base_is None e = no_base e.image e.kept

start_is : (range : Option (ℕ × ℕ)) → start_of (option_map (λ (r : ℕ × ℕ). r.0) range) ≡ start_there range
start_is None = refl
start_is (Some r) = refl

there_is : (range : Option (ℕ × ℕ)) → is_some (option_map (λ (r : ℕ × ℕ). r.0) range) ≡ is_some range
there_is None = refl
there_is (Some r) = refl

describes : (s : Shelf) (block : ℕ → List ℕ) (n : ℕ) (d : Descriptor) → DescribesThere (place_of s n) (entry s n).size (rights_of d.access) d
    → Describes (segment_told s block n) (rights_of d.access) d
unfolding segment_told
describes s block n d h = record {
  base = h.base ∙ (sym (start_is (place_of s n)) ∙ ap start_of (sym (base_is (blocks_told s block n) (place_of s n) (entry s n))));
  limit = h.limit;
  access = h.access ∙ ap (with_present (rights_of d.access)) (sym (there_is (place_of s n)) ∙ ap is_some (sym (base_is (blocks_told s block n) (place_of s n) (entry s n))));
}

-- ---- what is held

-- the name of the k-th segment of the image
abbrev pub name_in : Shelf → ℕ → ℕ
name_in s k = (entry s (get_or (numbers s) k 0)).age

aged_age : (id : SegId) (o : Option Entry) → IsSome (aged id.age o) → IsSome o × ((entry_or o).age ≡ id.age)
aged_age id None h = absurd (false≢true h)
aged_age id (Some e) h = go (e.age == id.age) refl h
  where
    go : (b : Bool) → (e.age == id.age) ≡ b → is_some (cond b (Some e) None) ≡ true → IsSome (Some e) × (e.age ≡ id.age)
    go true q z = (refl, eqb-true e.age id.age q)
    go false q z = absurd (false≢true z)

module _ (p : Parts) (m : Maps) (c : Core) (same : c.segments ≡ map (segment_told p.shelf p.block) (numbers p.shelf)) where
  hold_is : (pid i : ℕ) (h : HeldThere) → IsSome (entry_of p.shelf h.id) → DescribesThere (place_of p.shelf h.id.key) (entry p.shelf h.id.key).size (rights_of (descriptor_at m pid i).access) (descriptor_at m pid i)
      → IsHold c (name_in p.shelf) (listed_at p.shelf m pid i h) (held_of m pid i h)
  hold_is pid i h live told =
      let a = aged_age h.id (slot_at p.shelf.entries h.id.key) live in
      let b = stands_at p.shelf h.id.key a.0 in
      record {
        entry = segment_told p.shelf p.block h.id.key;
        found =
            ap (λ (z : List SegmentEntry). slice_get z (place_among (numbers p.shelf) h.id.key)) same
            ∙ (told_at p.shelf p.block (place_among (numbers p.shelf) h.id.key) b.0
            ∙ ap (λ (n : ℕ). Some (segment_told p.shelf p.block n)) b.1);
        named = ap (λ (n : ℕ). (entry p.shelf n).age) b.1 ∙ a.1;
        holds = refl;
        descriptor = describes p.shelf p.block h.id.key (descriptor_at m pid i) told;
      }

  index_is : (pid i : ℕ) (o : Option HeldThere) → held_at m pid i ≡ o → IsSettledAt p.shelf (held_at m pid i) (descriptor_at m pid i)
      → ((h : HeldThere) → held_at m pid i ≡ Some h → IsSome (entry_of p.shelf h.id))
      → IsHeldAs c (name_in p.shelf) (option_map (listed_at p.shelf m pid i) o) (option_map (held_of m pid i) o)
  index_is pid i None is settled live = tt
  index_is pid i (Some h) is settled live =
      hold_is pid i h (live h is) (subst (λ (o : Option HeldThere). IsSettledAt p.shelf o (descriptor_at m pid i)) is settled)

  held_is : (pid i : ℕ) (k : Option Held) → k ≡ held_in m pid i → IsSettledAt p.shelf (held_at m pid i) (descriptor_at m pid i)
      → ((h : HeldThere) → held_at m pid i ≡ Some h → IsSome (entry_of p.shelf h.id))
      → IsHeldAs c (name_in p.shelf) (held_under (all_held p.shelf m pid) i) k
  unfolding held_in
  held_is pid i k is settled live =
      subst (λ (o : Option HeldShown). IsHeldAs c (name_in p.shelf) o k) (sym (listed_is p.shelf m pid i))
      (subst (λ (o : Option Held). IsHeldAs c (name_in p.shelf) (option_map (listed_at p.shelf m pid i) (held_at m pid i)) o) (sym is)
      (index_is pid i (held_at m pid i) refl settled live))

-- ---- processes

state_is : (x : State) → state_of (number_shown x) ≡ state_shown x
state_is Live = refl
state_is (Exited code) = refl
state_is (Trapped vector) = refl

processes_are : (c : Core) (name : ℕ → ℕ) (s : Shelf) (m : Maps) (n : ℕ) (qs : List Process)
    → ((k : ℕ) (q : Process) → slice_get qs k ≡ Some q → (i : ℕ) → IsHeldAs c name (held_under (all_held s m (n + k)) i) (get q.held i))
    → AreProcesses c name n (processes_from s m n (map row_of qs)) qs
unfolding process_told
processes_are c name s m n [] held = tt
processes_are c name s m n (q ∷ qs) held = (
  record {
    number = refl;
    state = state_is q.state;
    code = refl;
    registers = refl;
    held = λ i. (let z : n + 0 ≡ n = omega arith in subst (λ (k : ℕ). IsHeldAs c name (held_under (all_held s m k) i) (get q.held i)) z (held 0 q refl i));
  },
  processes_are c name s m (n + 1) qs
      (λ k x e i. let z : n + suc k ≡ n + 1 + k = omega arith in subst (λ (j : ℕ). IsHeldAs c name (held_under (all_held s m j) i) (get x.held i)) z (held (suc k) x e i)),
)

-- ---- segments

named_some : (p : Parts) (o : Option ℕ) (x : Option Segment) → IsNamedThere p o x → is_some x ≡ true → IsSome o
named_some p None None named is = absurd (false≢true is)
named_some p None (Some x) named is = absurd named
named_some p (Some k) x named is = refl

module _ (p : Parts) (w : World) (lawful : AreLawful p.shelf p.maps) (stands : Stands p w) where
  each_is : (k : ℕ) (e : SegmentEntry) → slice_get (map (segment_told p.shelf p.block) (numbers p.shelf)) k ≡ Some e
      → IsNamed (picture p.images) p.shelf.memory e (get w.names (name_in p.shelf k))
  each_is k e is =
      let l = within p.shelf p.block k e is in
      let live = lives p.shelf k l in
      let n = get_or (numbers p.shelf) k 0 in
      subst (λ (x : SegmentEntry). IsNamed (picture p.images) p.shelf.memory x (get w.names (name_in p.shelf k))) (told_is p.shelf p.block k e is)
      (named_is p n (get w.names (name_in p.shelf k)) lawful.shelf live (aged_key p.shelf n stands.ready.aged live) (stands.segments (name_in p.shelf k)))

  once_is : (k l : ℕ) → k < length (numbers p.shelf) → l < length (numbers p.shelf) → name_in p.shelf k ≡ name_in p.shelf l → k ≡ l
  once_is k l a b e =
      let same : get_or (numbers p.shelf) k 0 ≡ get_or (numbers p.shelf) l 0 = stands.ready.aged _ _ (lives p.shelf k a) (lives p.shelf l b) e in
      elim (cases_lt k l) [
        | inl m ↦ absurd (let r = rises 0 p.shelf.entries k l m b in omega (arith, r, same))
        | inr m ↦ elim (cases_lt l k) [
          | inl o ↦ absurd (let r = rises 0 p.shelf.entries l k o a in omega (arith, r, same))
          | inr o ↦ omega (arith, m, o)
        ]
      ]

  all_is : (n : ℕ) (o : Option ℕ) → key_of p.shelf n ≡ o → IsSome o → (k : ℕ) × (k < length (numbers p.shelf)) × (name_in p.shelf k ≡ n)
  all_is n None is x = absurd (false≢true x)
  all_is n (Some key) is x =
      let a = found_at p.shelf n key is in
      let b = stands_at p.shelf key a.0 in
      (place_among (numbers p.shelf) key, b.0, ap (λ (z : ℕ). (entry p.shelf z).age) b.1 ∙ a.1)

  module _ (c : Core) (same : c.segments ≡ map (segment_told p.shelf p.block) (numbers p.shelf)) (memory : c.memory ≡ p.shelf.memory) where
    long_is : length c.segments ≡ length (numbers p.shelf)
    long_is = ap length same ∙ length-map (numbers p.shelf) (segment_told p.shelf p.block)

    segments_are : AreSegments (picture p.images) c w (name_in p.shelf)
    segments_are = record {
      each = λ k e is.
          subst (λ (z : List ℕ). IsNamed (picture p.images) z e (get w.names (name_in p.shelf k))) (sym memory)
          (each_is k e (ap (λ (z : List SegmentEntry). slice_get z k) (sym same) ∙ is));
      once = λ k l a b e. once_is k l (omega (arith, a, long_is)) (omega (arith, b, long_is)) e;
      all = λ n x. let a = all_is n (key_of p.shelf n) refl (named_some p (key_of p.shelf n) (get w.names n) (stands.segments n) x) in (a.0, omega (arith, a.1, long_is), a.2);
    }

    held_are : (k : ℕ) (q : Process) → slice_get w.processes k ≡ Some q → (i : ℕ) → IsHeldAs c (name_in p.shelf) (held_under (all_held p.shelf p.maps (1 + k)) i) (get q.held i)
    held_are k q e i =
        let here : held_world w.processes (k + 1) i ≡ get q.held i = ap (λ (o : Option Process). held_by o i) (number_is w.processes k ∙ e) in
        let z : 1 + k ≡ k + 1 = omega arith in
        held_is p p.maps c same (1 + k) i (get q.held i)
        (sym here ∙ (stands.held (k + 1) i ∙ ap (λ (n : ℕ). held_in p.maps n i) (sym z)))
        (stands.ready.settled (1 + k) i) (stands.ready.held.live (1 + k) i)

pub image_stands : (p : Parts) (s : Setting) (w : World) (done : ℕ) → AreLawful p.shelf p.maps → Stands p w → IsSetTo p s
    → ImageStandsFor (picture p.images) s p.device done (core_told p.shelf p.maps (map row_of w.processes) p.block (all_of p.shelf.swap) done (length w.console)) w
image_stands p s w done lawful stands set =
    let c : Core = core_told p.shelf p.maps (map row_of w.processes) p.block (all_of p.shelf.swap) done (length w.console) in
    record {
      memory = sym lawful.shelf.memory ∙ set.memory;
      blocks = set.blocks;
      steps = refl;
      console = refl;
      name = name_in p.shelf;
      segments = segments_are p w lawful stands c refl refl;
      processes = processes_are c (name_in p.shelf) p.shelf p.maps 1 w.processes (held_are p w lawful stands c refl refl);
    }
