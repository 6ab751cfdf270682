-- The processes that are told keep the rules of the format.
use Rattle.std.proofs.Common.{◌≡◌, ℕ, zero, suc, ◌+◌, ◌<◌, ◌≤◌, ◌^◌, List, [], ◌∷◌, ◌++◌, length, Option, Some, None, IsSome, refl, subst, arith, length-append}
use Rattle.std.specs.Prelude.{slice_get}
use Rattle.std.proofs.lemmas.Bool.{false≢true}
use Rattle.o2_desc.specs.Bits.{rights_of}
use Rattle.o2_desc.specs.declared.descriptor.Descriptor.{Descriptor}
use Rattle.o2_dump.specs.declared.parts.Held.{Held}
use Rattle.o2_dump_laws.specs.Whole.{AreHeldWhole, AreProcessesWhole, IsHeldWhole}
use Rattle.o2_entries.specs.declared.Entry.{Entry}
use Rattle.o2_entries.specs.Tables.{slot_at}
use Rattle.o2_entries.proofs.Numbers.{at_rank, below_rank, from_rank, rank, rank-le}
use Rattle.o2_regions.specs.declared.held.Held.{Held as HeldThere}
use Rattle.o2_regions.specs.Kept.{AreKept}
use Rattle.o2_regions.specs.Maps.{Maps, held_at}
use Rattle.o2_segbus.specs.Settled.{Describes, IsSettled, IsSettledAt}
use Rattle.o2_store.specs.Shelf.{IsShelf, Shelf, aged, entry, entry_of, place_of}
use Rattle.o2_dumping.specs.Fits.{IsFitHold, IsFitRow}
use Rattle.o2_dumping.specs.Told.{Row, all_held, descriptor_at, held_from, held_told, hold_told, numbers, place_among, process_told, processes_from}
use Rattle.o2_dumping.proofs.Lists.{is_place}

aged_live : (age : ℕ) (o : Option Entry) → IsSome (aged age o) → IsSome o
aged_live age None h = absurd (false≢true h)
aged_live age (Some e) h = refl

-- a number with a segment is one of the table's
inside : (es : List (Option Entry)) (k : ℕ) → IsSome (slot_at es k) → k < length es
inside [] k x = absurd (false≢true x)
inside (e ∷ es) zero x = omega arith
inside (e ∷ es) (suc k) x = let a = inside es k x in omega (arith, a)

pub place_below : (s : Shelf) (n : ℕ) → IsSome (slot_at s.entries n) → place_among (numbers s) n < length (numbers s)
place_below s n x =
    let same : rank s.entries n ≡ place_among (numbers s) n =
    is_place (numbers s) n (rank s.entries n) (rank-le 0 n s.entries)
    (λ i h. let a = below_rank 0 s.entries n i h in omega (arith, a))
    (λ i h l. let a = from_rank 0 s.entries n i h l in omega (arith, a)) in
    let a = at_rank 0 s.entries n x in
    omega (arith, a.0, same)

module _ (s : Shelf) (m : Maps) (segments : ℕ) (many : segments ≡ length (numbers s)) (shelf : IsShelf s) (maps : AreKept m) (settled : IsSettled s m)
    (live : (pid i : ℕ) (h : HeldThere) → held_at m pid i ≡ Some h → IsSome (entry_of s h.id)) (low : (pid i : ℕ) → (descriptor_at m pid i).base < 2 ^ 24) where
  module _ (pid : ℕ) (fits : (i : ℕ) → i < 8192 → IsFitHold (held_at m pid i)) where
    -- the entry at an index
    one_whole : (a : ℕ) (h : HeldThere) (least : ℕ) → a < 8192 → least ≤ a → held_at m pid a ≡ Some h
        → IsHeldWhole segments least (let x : Held = record { index = a; descriptor = descriptor_at m pid a; segment = place_among (numbers s) h.id.key; holds = h.holds } in x)
    one_whole a h least l up is =
        let lives = aged_live h.id.age (slot_at s.entries h.id.key) (live pid a h is) in
        let told : Describes (place_of s h.id.key) (entry s h.id.key).size (rights_of (descriptor_at m pid a).access) (descriptor_at m pid a) = subst (λ (o : Option HeldThere). IsSettledAt s o (descriptor_at m pid a)) is (settled pid a) in
        let small : (entry s h.id.key).size ≤ 65536 = (shelf.each h.id.key (inside s.entries h.id.key lives)).sized in
        let place = place_below s h.id.key lives in
        record {
          rises = up;
          index = omega (arith, l);
          limit = omega (arith, told.limit, small);
          base = low pid a;
          segment = omega (arith, place, many);
          some = maps.counted pid a h is;
          holds = subst IsFitHold is (fits a l);
        }

    here_whole : (a : ℕ) (o : Option HeldThere) (least : ℕ) (rest : List Held) → held_at m pid a ≡ o → a < 8192 → least ≤ a → ((n : ℕ) → n ≤ a + 1 → AreHeldWhole segments n rest)
        → AreHeldWhole segments least (hold_told s a (descriptor_at m pid a) o ++ rest)
    here_whole a None least rest is l up more = more least (omega (arith, up))
    here_whole a (Some h) least rest is l up more = (one_whole a h least l up is, more (a + 1) (omega arith))

    from_whole : (n a least : ℕ) → a + n ≤ 8192 → least ≤ a → AreHeldWhole segments least (held_from s m pid a n)
    unfolding held_from held_told
    from_whole zero a least l up = tt
    from_whole (suc n) a least l up =
        here_whole a (held_at m pid a) least (held_from s m pid (a + 1) n) refl (omega (arith, l)) up (λ k up. from_whole n (a + 1) k (omega (arith, l)) up)

    pub held_whole : AreHeldWhole segments 0 (all_held s m pid)
    unfolding all_held
    held_whole = from_whole 8192 0 0 (omega arith) (omega arith)

  few_at : (i : ℕ) (d : Descriptor) (o : Option HeldThere) → length (hold_told s i d o) ≤ 1
  few_at i d None = omega arith
  few_at i d (Some h) = omega arith

  few_from : (pid n a : ℕ) → length (held_from s m pid a n) ≤ n
  unfolding held_from held_told
  few_from pid zero a = omega arith
  few_from pid (suc n) a =
      let one = few_at a (descriptor_at m pid a) (held_at m pid a) in
      let rest = few_from pid n (a + 1) in
      let sum = length-append (hold_told s a (descriptor_at m pid a) (held_at m pid a)) (held_from s m pid (a + 1) n) in
      omega (arith, one, rest, sum)

  few_held : (pid : ℕ) → length (all_held s m pid) < 2 ^ 32
  unfolding all_held
  few_held pid = let a = few_from pid 8192 0 in omega (arith, a)

  pub processes_whole : (rows : List Row) (pid least : ℕ) → least ≤ pid → pid + length rows < 2 ^ 16 → ((k : ℕ) (p : Row) → slice_get rows k ≡ Some p → IsFitRow p)
      → ((k i : ℕ) → k < length rows → i < 8192 → IsFitHold (held_at m (pid + k) i)) → AreProcessesWhole segments least (processes_from s m pid rows)
  unfolding process_told
  processes_whole [] pid least up l fit fits = tt
  processes_whole (p ∷ ps) pid least up l fit fits =
      let first = fit 0 p refl in (
        record {
          rises = up;
          number = omega (arith, l);
          code = first.code;
          registers = first.registers;
          count = few_held pid;
          held = held_whole pid (λ i small. let z : pid + 0 ≡ pid = omega arith in subst (λ (n : ℕ). IsFitHold (held_at m n i)) z (fits 0 i (omega arith) small));
        },
        processes_whole ps (pid + 1) (pid + 1) (omega arith) (omega (arith, l)) (λ k q e. fit (suc k) q e)
            (λ k i low small. let z : pid + suc k ≡ pid + 1 + k = omega arith in subst (λ (n : ℕ). IsFitHold (held_at m n i)) z (fits (suc k) i (omega (arith, low)) small)),
      )
