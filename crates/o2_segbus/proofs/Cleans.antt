-- A call leaves clean segments as they are.
use Rattle.std.proofs.Common.{◌≡◌, inl, inr, ◌<◌, ◌+◌, refl, sym, ◌∙◌, ap, subst, ℕ, true, false, List, get_or, IsSome}
use Rattle.std.specs.Prelude.{Option, Some, None, option_map}
use Rattle.std.specs.Borrow.{GName}
use Rattle.std.proofs.lemmas.Bool.{false≢true}
use Rattle.o2_desc.specs.Bits.{is_writable, rights_of}
use Rattle.o2_entries.specs.declared.Entry.{Entry}
use Rattle.o2_entries.specs.Tables.{slot_at}
use Rattle.o2_phys.specs.Bytes.{part}
use Rattle.o2_phys.proofs.Parts.{get-part}
use Rattle.o2_isa.specs.View.{Hold}
use Rattle.o2_regions.specs.declared.held.Held.{Held}
use Rattle.o2_regions.specs.Maps.{Maps, held_at}
use Rattle.o2_store.specs.Shelf.{Shelf, AreClean, Pictures, entry, entry_or, place_of}
use Rattle.o2_segbus.specs.declared.registers.SegmentRegisters.{SegmentRegisters}
use Rattle.o2_segbus.specs.Settled.{descriptor_at}
use Rattle.o2_segbus.specs.Seen.{AreNamed, key_of, hold_in, hold_of, bytes_in, bytes_under, bytes_from, seen_with}
use Rattle.o2_segbus.specs.Bus.{bus_view}
use Rattle.o2_segbus.specs.Frames.{KeepsStore}
use Rattle.o2_segbus.specs.Guards.{AreAged, AreGuarded}
use Rattle.o2_bus.specs.Writes.{HoldsForWriting, WritesHeld}
use Rattle.o2_segbus.proofs.Ages.{aged_key}

-- what a process holds as data that can be written
record IsHeld (m : Maps) (pid : ℕ) (n : ℕ) : Type 0 where
  index : ℕ
  held : Held
  there : held_at m pid index ≡ Some held
  named : held.id.age ≡ n
  writable : is_writable (rights_of (descriptor_at m pid index).access) ≡ true

held_by : (m : Maps) (pid i n : ℕ) (h : Hold) → (o : Option Held) → held_at m pid i ≡ o → option_map (hold_of m pid i) o ≡ Some h → h.name ≡ n → is_writable h.rights ≡ true → IsHeld m pid n
held_by m pid i n h None e q a w = absurd (none_some q)
  where
    none_some : None ≡ Some h → ⊥
    none_some z = cc
held_by m pid i n h (Some x) e q a w = record {
  index = i;
  held = x;
  there = e;
  named = ap name_or q ∙ a;
  writable = subst (λ (r : ℕ). is_writable r ≡ true) (sym (ap rights_or q)) w;
}
  where
    name_or : Option Hold → ℕ
    name_or None = 0
    name_or (Some y) = y.name

    rights_or : Option Hold → ℕ
    rights_or None = 0
    rights_or (Some y) = y.rights

held_writable : (g t : GName) (s : Shelf) (m : Maps) (pid n : ℕ) (x : SegmentRegisters) → HoldsForWriting (bus_view g t s m pid x) n → IsHeld m pid n
unfolding bus_view seen_with hold_in
held_writable g t s m pid n x w = held_by m pid w.index n w.hold (held_at m pid w.index) refl w.there w.named w.writable

abbrev unsome : Option ℕ → ℕ
unsome None = 0
unsome (Some k) = k

not_clean : (s : Shelf) (m : Maps) (pid k : ℕ) → AreNamed s m → AreGuarded s m → key_of s (entry s k).age ≡ Some k → IsHeld m pid (entry s k).age → (entry s k).attr.clean ≡ false
not_clean s m pid k n g a h =
    let e : h.held.id.key ≡ k = ap unsome (sym (n pid h.index h.held h.there) ∙ (ap (key_of s) h.named ∙ a)) in
    subst (λ (z : ℕ). (entry s z).attr.clean ≡ false) e (g pid h.index h.held h.there h.writable)

clean_some : (o : Option Entry) → (entry_or o).attr.clean ≡ true → IsSome o
clean_some None e = absurd (false≢true e)
clean_some (Some x) e = refl

-- the bytes of a number's segment in memory
bytes_at : (s : Shelf) (k at len : ℕ) → key_of s (entry s k).age ≡ Some k → place_of s k ≡ Some (at, len) → bytes_in s (entry s k).age ≡ part s.memory at (entry s k).size
bytes_at s k at len a p = ap (bytes_under s) a ∙ ap (λ (o : Option (ℕ × ℕ)). bytes_from s.memory o (entry s k).size) p

same_byte : (s : Shelf) (memory : List ℕ) (k at len j : ℕ) → key_of s (entry s k).age ≡ Some k → place_of s k ≡ Some (at, len) → j < (entry s k).size
    → bytes_in (record s { memory = memory }) (entry s k).age ≡ bytes_in s (entry s k).age → get_or memory (at + j) 0 ≡ get_or s.memory (at + j) 0
unfolding key_of
same_byte s memory k at len j a p l e =
    let q : part memory at (entry s k).size ≡ part s.memory at (entry s k).size = sym (bytes_at (record s { memory = memory }) k at len a p) ∙ (e ∙ bytes_at s k at len a p) in
    sym (get-part memory at (entry s k).size j l) ∙ (ap (λ (bs : List ℕ). get_or bs j 0) q ∙ get-part s.memory at (entry s k).size j l)

clean_memory : (g g' t t' : GName) (s : Shelf) (memory : List ℕ) (m m' : Maps) (pid pid' : ℕ) (x x' : SegmentRegisters) (pic : Pictures) → WritesHeld (bus_view g t s m pid x) (bus_view g' t' (record s { memory = memory }) m' pid' x')
    → AreNamed s m → AreGuarded s m → AreAged s → AreClean s pic → AreClean (record s { memory = memory }) pic
unfolding bus_view seen_with
clean_memory g g' t t' s memory m m' pid pid' x x' pic w n q a h = record { bytes = λ k at len j clean p l block. at_byte k at len j clean p l ∙ h.bytes k at len j clean p l block }
  where
    at_byte : (k at len j : ℕ) → (entry s k).attr.clean ≡ true → place_of s k ≡ Some (at, len) → j < (entry s k).size → get_or memory (at + j) 0 ≡ get_or s.memory (at + j) 0
    at_byte k at len j clean p l =
        let own : key_of s (entry s k).age ≡ Some k = aged_key s k a (clean_some (slot_at s.entries k) clean) in
        elim (w (entry s k).age) [
          | inl e ↦ same_byte s memory k at len j own p l e
          | inr y ↦ absurd (false≢true (sym (not_clean s m pid k n q own (held_writable g t s m pid (entry s k).age x y)) ∙ clean))
        ]

-- clean segments stay as they are where data alone was written that the process holds so
pub keeps_clean_held : (g g' t t' : GName) (s s' : Shelf) (m m' : Maps) (pid pid' : ℕ) (x x' : SegmentRegisters) (pic : Pictures) → KeepsStore s s' → WritesHeld (bus_view g t s m pid x) (bus_view g' t' s' m' pid' x')
    → AreNamed s m → AreGuarded s m → AreAged s → AreClean s pic → AreClean s' pic
keeps_clean_held g g' t t' s s' m m' pid pid' x x' pic f w n q a h =
    subst (λ (z : Shelf). AreClean z pic) (sym f.store)
    (clean_memory g g' t t' s s'.memory m m' pid pid' x x' pic (subst (λ (z : Shelf). WritesHeld (bus_view g t s m pid x) (bus_view g' t' z m' pid' x')) f.store w) n q a h)
