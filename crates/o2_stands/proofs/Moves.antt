-- What moves segments about, and what a step writes, keeps what a machine stands for.
use Rattle.std.proofs.Common.{◌≡◌, ℕ, zero, suc, ◌+◌, ◌<◌, ◌≤◌, Bool, true, false, ◌||◌, ◌&&◌, List, [], ◌∷◌, length, get_or, Option, Some, None, is_some, IsSome, refl, sym, ap, ◌∙◌, subst, arith, if◌then◌else◌, option_map}
use Rattle.std.specs.Prelude.{IsTrue, nat_lt}
use Rattle.o2_entries.specs.declared.Attr.{Attr}
use Rattle.o2_entries.specs.declared.Entry.{Entry}
use Rattle.o2_entries.specs.Tables.{slot_at}
use Rattle.o2_desc.specs.Bits.{is_writable, rights_of, unmarked}
use Rattle.o2_isa.specs.declared.cpu.Cpu.{Cpu}
use Rattle.o2_phys.specs.Bytes.{part}
use Rattle.o2_phys.proofs.Parts.{length-part, get-part}
use Rattle.o2_regions.specs.declared.held.Held.{Held as HeldThere}
use Rattle.o2_regions.specs.declared.held.Region.{Region}
use Rattle.o2_regions.specs.declared.held.Region.TheVariants.{Private, Shared}
use Rattle.o2_regions.specs.Maps.{Maps, base_of, end_of, held_at as held_there, is_reserved, is_taken, some_holds}
use Rattle.o2_swapmap.specs.Piles.{all_of}
use Rattle.o2_store.specs.Needs.{has_age}
use Rattle.o2_store.specs.Pictures.{picture, HasPicture}
use Rattle.o2_store.specs.Shelf.{Shelf, AreClean, HasAll, KeepsAll, SameEntry, SameTables, byte_in as byte_by, entry, entry_of, out_byte, place_of}
use Rattle.o2_segbus.specs.Bus.{AreInside}
use Rattle.o2_segbus.specs.Frames.{CanStep, KeepsClean, KeepsMaps, KeepsStore}
use Rattle.o2_segbus.specs.Seen.{bytes_from, bytes_in as bytes_there, bytes_under, key_of, number_from, present_in, present_under}
use Rattle.o2_segbus.specs.Settled.{IsSettled, descriptor_at}
use Rattle.o2_segbus.proofs.Ages.{ages_stay, names_stay}
use Rattle.o2_segbus.proofs.Keeping.{ages_kept, guards_stay}
use Rattle.o2_service.specs.Told.{IsHeldWell, OnlyTables}
use Rattle.o2_world.specs.Map.{Map, get}
use Rattle.o2_world.specs.World.{Process, Reserve, Segment}
use Rattle.o2_world.specs.Views.{segment_bytes, with_bytes}
use Rattle.o2_world.proofs.MapLemmas.{get-map}
use Rattle.o2_stands.proofs.RunsKept.{flags_written, full_written}
use Rattle.o2_stands.specs.Parts.{Parts, byte_in, cause_of, held_in, held_of}
use Rattle.o2_stands.specs.Stands.{AreOnce, IsIndex, IsNamed, IsReady, IsSegment, IsTidy, StandsIn}
use Rattle.o2_stands.specs.Moves.{AreWritten, moved, stepped_to}

-- What is held, with its rights.

pub held_same : (m n : Maps) (pid i : ℕ) → n.held ≡ m.held → held_there n pid i ≡ held_there m pid i
held_same m n pid i e = ap (λ (z : List (Option HeldThere)). held_there (record m { held = z }) pid i) e

pub in_same : (m n : Maps) (pid i : ℕ) → n.held ≡ m.held → rights_of (descriptor_at n pid i).access ≡ rights_of (descriptor_at m pid i).access → held_in n pid i ≡ held_in m pid i
unfolding held_in
in_same m n pid i e r =
    ap (option_map (held_of n pid i)) (held_same m n pid i e)
    ∙ ap (λ (x : ℕ). option_map (λ (h : HeldThere). record { name = h.id.age; rights = x; holds = h.holds; cause = cause_of h.cause; first = h.first; reserved = h.reserved }) (held_there m pid i)) r

some_same : (m n : Maps) (i k : ℕ) → n.held ≡ m.held → some_holds n i k ≡ some_holds m i k
unfolding some_holds
some_same m n i zero e = refl
some_same m n i (suc k) e =
    ap (λ (o : Option HeldThere). is_some o || some_holds n i k) (held_same m n (k + 1) i e)
    ∙ ap (λ (b : Bool). is_some (held_there m (k + 1) i) || b) (some_same m n i k e)

pub reserved_same : (m n : Maps) (g : Region) (i : ℕ) → n.reserved ≡ m.reserved → is_reserved n g i ≡ is_reserved m g i
reserved_same m n g i e = ap (λ (z : List Bool). nat_lt i (end_of g) && get_or z (base_of g + i) false) e

pub taken_same : (m n : Maps) (g : Region) (i : ℕ) → n.processes ≡ m.processes → n.held ≡ m.held → n.reserved ≡ m.reserved → is_taken n g i ≡ is_taken m g i
taken_same m n (Private pid) i p h r =
    ap (λ (o : Option HeldThere). is_some o || is_reserved n (Private pid) i) (held_same m n pid i h)
    ∙ ap (λ (b : Bool). is_some (held_there m pid i) || b) (reserved_same m n (Private pid) i r)
taken_same m n Shared i p h r =
    ap (λ (k : ℕ). some_holds n i k || is_reserved n Shared i) p
    ∙ (ap (λ (b : Bool). b || is_reserved n Shared i) (some_same m n i m.processes h)
    ∙ ap (λ (b : Bool). some_holds m i m.processes || b) (reserved_same m n Shared i r))

pub index_same : (m n : Maps) (g : Region) (i : ℕ) → n.processes ≡ m.processes → IsIndex n g i → IsIndex m g i
index_same m n (Private pid) i p x = record { region = (x.region.0, (let l = x.region.1 in omega (arith, l, p))); from = x.from; to = x.to }
index_same m n Shared i p x = record { region = x.region; from = x.from; to = x.to }

-- A machine in which all but bytes and places is as it was.
pub record SameFor (p q : Parts) : Type 0 where
  pub keys : (n : ℕ) → key_of q.shelf n ≡ key_of p.shelf n
  pub sizes : (k : ℕ) → (entry q.shelf k).size ≡ (entry p.shelf k).size
  pub attrs : (k : ℕ) → (entry q.shelf k).attr ≡ (entry p.shelf k).attr
  pub made : q.shelf.made ≡ p.shelf.made
  pub holds : q.maps.held ≡ p.maps.held
  pub rights : (pid i : ℕ) → rights_of (descriptor_at q.maps pid i).access ≡ rights_of (descriptor_at p.maps pid i).access
  pub processes : q.maps.processes ≡ p.maps.processes
  pub reserved : q.maps.reserved ≡ p.maps.reserved
  pub running : (n : ℕ) → q.running n ≡ p.running n

pub stands_as : (p q : Parts) (ps : List Process) (names now : Map Segment) (next : ℕ) (reserved : List Reserve) → SameFor p q → IsReady q
    → StandsIn p ps names next reserved → ((n : ℕ) → IsNamed q (key_of q.shelf n) (get now n)) → IsTidy ps now reserved → StandsIn q ps now next reserved
stands_as p q ps names now next reserved w ready stands segments tidy = record {
  ready = ready;
  segments = segments;
  made = stands.made ∙ sym w.made;
  processes = λ n. stands.processes n ∙ sym (w.running n);
  held = λ n i. stands.held n i ∙ sym (in_same p.maps q.maps n i w.holds (w.rights n i));
  taken = λ g i x. stands.taken g i (index_same p.maps q.maps g i w.processes x) ∙ sym (taken_same p.maps q.maps g i w.processes w.holds w.reserved);
  tidy = tidy;
}

-- the same segments, with the same bytes
named_same : (p q : Parts) → SameFor p q → ((k j : ℕ) → j < (entry p.shelf k).size → byte_in q k j ≡ byte_in p k j) → (o : Option ℕ) (g : Option Segment) → IsNamed p o g → IsNamed q o g
named_same p q w b None None is = is
named_same p q w b (Some k) None is = absurd is
named_same p q w b None (Some s) is = absurd is
named_same p q w b (Some k) (Some s) is = record {
  size = is.size ∙ sym (w.sizes k);
  bytes = λ j l. (let h : j < (entry p.shelf k).size = (let e = w.sizes k in omega (arith, l, e)) in is.bytes j h ∙ sym (b k j h));
  clean = is.clean ∙ ap (λ (a : Attr). a.clean) (sym (w.attrs k));
  flags = is.flags ∙ ap (λ (a : Attr). a.flags) (sym (w.attrs k));
  lock = is.lock ∙ ap (λ (a : Attr). a.lock) (sym (w.attrs k));
  shared = is.shared ∙ ap (λ (a : Attr). a.shared) (sym (w.attrs k));
  discarded = is.discarded ∙ ap (λ (a : Attr). a.gone) (sym (w.attrs k));
}

pub same_stands : (p q : Parts) (ps : List Process) (names : Map Segment) (next : ℕ) (reserved : List Reserve) → SameFor p q → IsReady q
    → ((k j : ℕ) → j < (entry p.shelf k).size → byte_in q k j ≡ byte_in p k j) → StandsIn p ps names next reserved → StandsIn q ps names next reserved
same_stands p q ps names next reserved w ready b stands =
    stands_as p q ps names names next reserved w ready stands
    (λ n. subst (λ (o : Option ℕ). IsNamed q o (get names n)) (sym (w.keys n)) (named_same p q w b (key_of p.shelf n) (get names n) (stands.segments n)))
    stands.tidy

-- Segments that came, went and moved.

same_numbers : (age : ℕ) (es fs : List (Option Entry)) (b : ℕ) → length fs ≡ length es → ((k : ℕ) → has_age (slot_at fs k) age ≡ has_age (slot_at es k) age) → number_from age fs b ≡ number_from age es b
same_numbers age [] [] b l f = refl
same_numbers age [] (o ∷ fs) b l f = absurd (omega (arith, l))
same_numbers age (o ∷ es) [] b l f = absurd (omega (arith, l))
same_numbers age (o ∷ es) (p ∷ fs) b l f =
    ap (λ (t : Bool). if t then Some b else number_from age fs (b + 1)) (f 0)
    ∙ ap (λ (z : Option ℕ). if has_age o age then Some b else z) (same_numbers age es fs (b + 1) (omega (arith, l)) (λ k. f (suc k)))

same_has : (o p : Option Entry) (age : ℕ) → SameEntry o p → has_age p age ≡ has_age o age
same_has None None age e = refl
same_has None (Some y) age e = absurd (let f : true ≡ false = e.live in cc)
same_has (Some x) None age e = absurd (let f : false ≡ true = e.live in cc)
same_has (Some x) (Some y) age e = grind (arith, e.age)

pub same_keys : (s t : Shelf) → SameTables s t → (n : ℕ) → key_of t n ≡ key_of s n
unfolding key_of
same_keys s t w n = same_numbers n s.entries t.entries 0 w.count (λ k. same_has (slot_at s.entries k) (slot_at t.entries k) n (w.same k))

only_held : (m n : Maps) → OnlyTables m n → n.held ≡ m.held
only_held m n o = ap (λ (x : Maps). x.held) o.rest

moved_same : (p : Parts) (t : Shelf) (m : Maps) (after : ℕ → List ℕ) → SameTables p.shelf t → OnlyTables p.maps m → SameFor p (moved p t m after)
moved_same p t m after w o = record {
  keys = same_keys p.shelf t w;
  sizes = λ k. (w.same k).size;
  attrs = λ k. (w.same k).attr;
  made = w.made;
  holds = only_held p.maps m o;
  rights = o.rights;
  processes = ap (λ (x : Maps). x.processes) o.rest;
  reserved = ap (λ (x : Maps). x.reserved) o.rest;
  running = λ n. refl;
}

pub moved_stands : (p : Parts) (t : Shelf) (m : Maps) (after : ℕ → List ℕ) (told : Bool) (ps : List Process) (names : Map Segment) (next : ℕ) (reserved : List Reserve)
    → IsTrue told → KeepsAll told (picture p.images) p.shelf p.block t after → OnlyTables p.maps m → IsReady (moved p t m after)
    → StandsIn p ps names next reserved → StandsIn (moved p t m after) ps names next reserved
moved_stands p t m after told ps names next reserved tells keeps only ready stands =
    same_stands p (moved p t m after) ps names next reserved (moved_same p t m after keeps.tables only) ready (keeps.bytes tells) stands

pub moved_ready : (p : Parts) (t : Shelf) (m : Maps) (after : ℕ → List ℕ) → IsReady p → SameTables p.shelf t → OnlyTables p.maps m
    → AreClean t (picture p.images) → IsSettled t m → IsHeldWell t m → all_of t.swap ≡ all_of p.shelf.swap → IsReady (moved p t m after)
moved_ready p t m after ready w only clean settled held all = record {
  aged = ages_stay p.shelf t w ready.aged;
  named = names_stay p.shelf t p.maps m w (only_held p.maps m only) ready.named;
  held = held;
  settled = settled;
  guarded = λ pid i h e u.
      ap (λ (a : Attr). a.clean) (w.same h.id.key).attr
      ∙ ready.guarded pid i h (sym (held_same p.maps m pid i (only_held p.maps m only)) ∙ e) (subst (λ (r : ℕ). is_writable r ≡ true) (only.rights pid i) u);
  clean = clean;
  pictures = λ k n seg x. ready.pictures k n seg ((w.same k).image (n, seg) x);
  device = (let d = ready.device in omega (arith, all, d));
}

-- What a step writes.

rights_by : (a b : ℕ) → unmarked a ≡ unmarked b → rights_of a ≡ rights_of b
rights_by a b e = omega arith

pub step_same : (p : Parts) (t : Shelf) (m : Maps) → KeepsStore p.shelf t → KeepsMaps p.maps m → SameFor p (stepped_to p t m)
unfolding key_of
step_same p t m f g = record {
  keys = λ n. ap (λ (z : Shelf). key_of z n) f.store;
  sizes = λ k. ap (λ (z : Shelf). (entry z k).size) f.store;
  attrs = λ k. ap (λ (z : Shelf). (entry z k).attr) f.store;
  made = ap (λ (z : Shelf). z.made) f.store;
  holds = g.held;
  rights = λ pid i. rights_by (descriptor_at m pid i).access (descriptor_at p.maps pid i).access (g.access pid i);
  processes = g.processes;
  reserved = g.reserved;
  running = λ n. refl;
}

-- the bytes of a name's segment
present_bytes : (t : Shelf) (n k : ℕ) (r : Option (ℕ × ℕ)) (old : List ℕ) → key_of t n ≡ Some k → place_of t k ≡ r
    → (if present_in t n then bytes_there t n else old) ≡ (if is_some r then bytes_from t.memory r (entry t k).size else old)
present_bytes t n k r old key at =
    ap (λ (o : Option ℕ). if present_under t o then bytes_under t o else old) key
    ∙ ap (λ (z : Option (ℕ × ℕ)). if is_some z then bytes_from t.memory z (entry t k).size else old) at

record HasBytes (q : Parts) (k : ℕ) (bytes : List ℕ) : Type 0 where
  size : length bytes ≡ (entry q.shelf k).size
  each : (j : ℕ) → j < (entry q.shelf k).size → get_or bytes j 0 ≡ byte_in q k j

module _ (p : Parts) (t : Shelf) (m : Maps) (f : KeepsStore p.shelf t) (g : KeepsMaps p.maps m) (inside : AreInside t) where
  abbrev q : Parts
  q = stepped_to p t m

  written_bytes : (n k : ℕ) (s : Segment) (bytes : List ℕ) (r : Option (ℕ × ℕ)) → key_of t n ≡ Some k → place_of t k ≡ r → IsSegment p k s
      → bytes ≡ (if present_in t n then bytes_there t n else s.bytes) → HasBytes q k bytes
  written_bytes n k s bytes None key at is e =
      let same : bytes ≡ s.bytes = e ∙ present_bytes t n k None s.bytes key at in
      let size : (entry t k).size ≡ (entry p.shelf k).size = ap (λ (z : Shelf). (entry z k).size) f.store in
      let before : place_of p.shelf k ≡ None = sym (ap (λ (z : Shelf). place_of z k) f.store) ∙ at in
      record {
        size = ap (λ (bs : List ℕ). length bs) same ∙ (is.size ∙ sym size);
        each = λ j l.
            (let h : j < (entry p.shelf k).size = omega (arith, l, size) in
            let out : out_byte t (picture p.images) p.block k j ≡ out_byte p.shelf (picture p.images) p.block k j = ap (λ (z : Shelf). out_byte z (picture p.images) p.block k j) f.store in
            ap (λ (bs : List ℕ). get_or bs j 0) same
            ∙ (is.bytes j h
            ∙ (ap (λ (o : Option (ℕ × ℕ)). byte_by p.shelf.memory o (out_byte p.shelf (picture p.images) p.block k j) j) before
            ∙ (sym out
            ∙ sym (ap (λ (o : Option (ℕ × ℕ)). byte_by t.memory o (out_byte t (picture p.images) p.block k j) j) at)))));
      }
  written_bytes n k s bytes (Some r) key at is e =
      let same : bytes ≡ part t.memory r.0 (entry t k).size = e ∙ present_bytes t n k (Some r) s.bytes key at in
      record {
        size = ap (λ (bs : List ℕ). length bs) same ∙ length-part t.memory r.0 (entry t k).size (inside.within k r.0 r.1 at);
        each = λ j l.
            ap (λ (bs : List ℕ). get_or bs j 0) same
            ∙ (get-part t.memory r.0 (entry t k).size j l
            ∙ sym (ap (λ (o : Option (ℕ × ℕ)). byte_by t.memory o (out_byte t (picture p.images) p.block k j) j) at));
      }

  -- under one name
  written_name : (n : ℕ) (o : Option ℕ) (v : Option Segment) (bytes : List ℕ) → key_of t n ≡ o → IsNamed p o v
      → (is_some v ≡ true → bytes ≡ (if present_in t n then bytes_there t n else segment_bytes v))
      → IsNamed q o (option_map (λ (s : Segment). record s { bytes = bytes }) v)
  written_name n None None bytes key is e = is
  written_name n (Some k) None bytes key is e = absurd is
  written_name n None (Some s) bytes key is e = absurd is
  written_name n (Some k) (Some s) bytes key is e =
      let w = step_same p t m f g in
      let b = written_bytes n k s bytes (place_of t k) key refl is (e refl) in
      record {
        size = b.size;
        bytes = b.each;
        clean = is.clean ∙ ap (λ (a : Attr). a.clean) (sym (w.attrs k));
        flags = is.flags ∙ ap (λ (a : Attr). a.flags) (sym (w.attrs k));
        lock = is.lock ∙ ap (λ (a : Attr). a.lock) (sym (w.attrs k));
        shared = is.shared ∙ ap (λ (a : Attr). a.shared) (sym (w.attrs k));
        discarded = is.discarded ∙ ap (λ (a : Attr). a.gone) (sym (w.attrs k));
      }

  pub written_at : (names : Map Segment) (bytes : ℕ → List ℕ) → ((n : ℕ) → IsNamed p (key_of p.shelf n) (get names n)) → AreWritten names t bytes
      → (n : ℕ) → IsNamed q (key_of t n) (get (with_bytes names bytes) n)
  written_at names bytes segments written n =
      let w = step_same p t m f g in
      subst (λ (v : Option Segment). IsNamed q (key_of t n) v) (sym (get-map (λ (n : ℕ) (s : Segment). record s { bytes = bytes n }) names n))
      (written_name n (key_of t n) (get names n) (bytes n) refl (subst (λ (o : Option ℕ). IsNamed p o (get names n)) (sym (w.keys n)) (segments n)) (written.each n))

-- names with other bytes stand as often as before, and are held as before
none_stays : (f : Segment → Segment) (o : Option Segment) → o ≡ None → option_map f o ≡ None
none_stays f None e = refl
none_stays f (Some s) e = absurd (let x : Some s ≡ None = e in cc)

some_stays : (f : Segment → Segment) (o : Option Segment) → is_some (option_map f o) ≡ true → is_some o ≡ true
some_stays f None e = e
some_stays f (Some s) e = refl

once_written : (names : Map Segment) (bytes : ℕ → List ℕ) → AreOnce names → AreOnce (with_bytes names bytes)
once_written [] bytes once = once
once_written (e ∷ es) bytes once =
    let put : ℕ → Segment → Segment = λ n s. record s { bytes = bytes n } in
    (get-map put es e.0 ∙ none_stays (put e.0) (get es e.0) once.0, once_written es bytes once.1)

-- each name that lives keeps its size
pub record KeepSizes (names : Map Segment) (bytes : ℕ → List ℕ) : Type 0 where
  pub each : (n : ℕ) (s : Segment) → get names n ≡ Some s → length (bytes n) ≡ length s.bytes

-- names that stand for segments of the same sizes have as many bytes as these
pub sizes_kept : (p q : Parts) (names : Map Segment) (bytes : ℕ → List ℕ) → SameFor p q → ((n : ℕ) → IsNamed p (key_of p.shelf n) (get names n))
    → ((n : ℕ) → IsNamed q (key_of q.shelf n) (get (with_bytes names bytes) n)) → KeepSizes names bytes
sizes_kept p q names bytes w before behind = record { each = one }
  where
    of_key : (n : ℕ) (s : Segment) (o : Option ℕ) → IsNamed p o (Some s) → IsNamed q o (Some (record s { bytes = bytes n })) → length (bytes n) ≡ length s.bytes
    of_key n s None a b = absurd a
    of_key n s (Some k) a b = b.size ∙ (w.sizes k ∙ sym a.size)

    one : (n : ℕ) (s : Segment) → get names n ≡ Some s → length (bytes n) ≡ length s.bytes
    one n s there =
        of_key n s (key_of p.shelf n) (subst (λ (o : Option Segment). IsNamed p (key_of p.shelf n) o) there (before n))
        (subst (λ (o : Option ℕ). IsNamed q o (Some (record s { bytes = bytes n }))) (w.keys n)
        (subst (λ (o : Option Segment). IsNamed q (key_of q.shelf n) o) (get-map (λ (m : ℕ) (x : Segment). record x { bytes = bytes m }) names n ∙ ap (option_map (λ (x : Segment). record x { bytes = bytes n })) there) (behind n)))

pub tidy_written : (ps : List Process) (names : Map Segment) (reserved : List Reserve) (bytes : ℕ → List ℕ) → KeepSizes names bytes → IsTidy ps names reserved → IsTidy ps (with_bytes names bytes) reserved
tidy_written ps names reserved bytes sizes tidy =
    let put : ℕ → Segment → Segment = λ n s. record s { bytes = bytes n } in
    record {
      once = once_written names bytes tidy.once;
      used = λ n s. tidy.used n (some_stays (put n) (get names n) (ap is_some (sym (get-map put names n)) ∙ s));
      ended = tidy.ended;
      stay = tidy.stay;
      shared = tidy.shared;
      run = tidy.run;
      free = tidy.free;
      disjoint = tidy.disjoint;
      runs = tidy.runs;
      flags = record { each = λ n i h m. flags_written (put h.name) i (get names h.name) (get-map put names h.name) (λ s. refl) (tidy.flags.each n i h m) };
      full = record { each = λ n i h m s some. full_written (put h.name) (get names h.name) (get-map put names h.name) (λ x there. sizes.each h.name x there) (tidy.full.each n i h m s some) };
    }

pub step_stands : (p : Parts) (t : Shelf) (m : Maps) (ps : List Process) (names : Map Segment) (next : ℕ) (reserved : List Reserve) (bytes : ℕ → List ℕ)
    → KeepsStore p.shelf t → KeepsMaps p.maps m → AreInside t → IsReady (stepped_to p t m) → StandsIn p ps names next reserved → AreWritten names t bytes
    → StandsIn (stepped_to p t m) ps (with_bytes names bytes) next reserved
step_stands p t m ps names next reserved bytes f g inside ready stands written =
    let named = written_at p t m f g inside names bytes stands.segments written in
    stands_as p (stepped_to p t m) ps names (with_bytes names bytes) next reserved (step_same p t m f g) ready stands named
    (tidy_written ps names reserved bytes (sizes_kept p (stepped_to p t m) names bytes (step_same p t m f g) stands.segments named) stands.tidy)

pub step_ready : (p : Parts) (t : Shelf) (m : Maps) (pid : ℕ) (c : Cpu) → IsReady p → KeepsStore p.shelf t → KeepsMaps p.maps m → KeepsClean p.shelf p.maps t → CanStep t m pid c
    → IsReady (stepped_to p t m)
step_ready p t m pid c ready f g k next = record {
  aged = ages_kept p.shelf t f ready.aged;
  named = next.named;
  held = record {
    live = λ a i h e. subst (λ (z : Shelf). IsSome (entry_of z h.id)) (sym f.store) (ready.held.live a i h (before a i h e));
    inside = λ a i h e. (let l = g.lengths a in let x = ready.held.inside a i h (before a i h e) in omega (arith, l, x));
  };
  settled = next.settled;
  guarded = guards_stay p.shelf t p.maps m f g ready.guarded;
  clean = k.clean (picture p.images) ready.aged ready.guarded ready.clean;
  pictures = subst (λ (z : Shelf). HasAll (HasPicture p.images) z) (sym f.store) ready.pictures;
  device = subst (λ (z : Shelf). all_of z.swap ≤ p.device) (sym f.store) ready.device;
}
  where
    before : (a i : ℕ) (h : HeldThere) → held_there m a i ≡ Some h → held_there p.maps a i ≡ Some h
    before a i h e = sym (held_same p.maps m a i g.held) ∙ e
