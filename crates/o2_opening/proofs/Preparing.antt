-- A store and maps before the first process starts.
use Rattle.std.proofs.Common.{◌≡◌, ℕ, zero, suc, ◌+◌, ◌<◌, ◌≤◌, ◌&&◌, nat_le, nat_lt, true, false, List, [], ◌∷◌, length, replicate, Option, Some, None, get_or, ap, sym, ◌∙◌, refl, arith, subst}
use Rattle.std.specs.Prelude.{slice_get, is_some, option_map}
use Rattle.std.proofs.lemmas.Bool.Decides.{nat_tests}
use Rattle.std.proofs.lemmas.List.{get_or-replicate, length-replicate}
use Rattle.o2_desc.specs.declared.descriptor.Descriptor.{Descriptor}
use Rattle.o2_desc.specs.Bytes.{empty}
use Rattle.o2_dynlink.specs.Outcome.{LinkedParts, modules_of}
use Rattle.o2_entries.specs.Tables.{slot_at}
use Rattle.o2_entries.proofs.Numbers.{listed-none}
use Rattle.o2_image.specs.ImageList.{ImageList}
use Rattle.o2_place.specs.declared.seg_id.SegId.{SegId}
use Rattle.o2_regions.specs.declared.held.Held.{Held}
use Rattle.o2_regions.specs.declared.held.Region.TheVariants.{Private, Shared}
use Rattle.o2_regions.specs.Maps.{Maps, IsProcess, held_at, is_reserved, nothing, with_reserved}
use Rattle.o2_regions.proofs.Keeps.{made}
use Rattle.o2_regions.proofs.Wholes.{is_nothing}
use Rattle.o2_store.specs.Idle.{NoneTaken}
use Rattle.o2_store.specs.Shelf.{Shelf, place_of}
use Rattle.o2_segbus.specs.Settled.{IsSettledAt, descriptor_at}
use Rattle.o2_opening.specs.declared.stored.Stored.{Stored}
use Rattle.o2_opening.specs.Libraries.{library_indexes}
use Rattle.o2_stands.specs.Parts.{held_in, held_of}
use Rattle.o2_opening.specs.Starting.{AreStored, AreMapped, IsNamedAs, IsPrepared, IsStarting, may_hold}
use Rattle.o2_opening.proofs.Libraries.{library_index}

-- The tables at first.

rep_same : (n k : ℕ) (x : Descriptor) → get_or (replicate n x) k x ≡ x
rep_same zero k x = refl
rep_same (suc n) zero x = refl
rep_same (suc n) (suc k) x = rep_same n k x

rows_same : (n k w i : ℕ) → get_or (get_or (replicate n (replicate w empty)) k []) i empty ≡ empty
rows_same zero k w i = refl
rows_same (suc n) zero w i = rep_same w i empty
rows_same (suc n) (suc k) w i = rows_same n k w i

entries_first : (n w pid i : ℕ) → get_or (get_or ([] ∷ replicate n (replicate w empty)) pid []) i empty ≡ empty
entries_first n w zero i = refl
entries_first n w (suc k) i = rows_same n k w i

lengths_first : (n w pid : ℕ) → 1 ≤ pid → pid ≤ n → length (get_or ([] ∷ replicate n (replicate w empty)) pid []) ≡ w
lengths_first n w zero some most = absurd (omega (arith, some))
lengths_first n w (suc k) some most = ap (λ (xs : List Descriptor). length xs) (get_or-replicate n k (replicate w empty) [] (omega (arith, most))) ∙ length-replicate w empty

module _ (s : Shelf) (r : Maps) (n used : ℕ) (slots : (k : ℕ) → slot_at s.entries k ≡ None) (made_none : s.made ≡ 0) (out : (k : ℕ) → place_of s k ≡ None) (unused : NoneTaken s.swap)
    (maps : r ≡ with_reserved (nothing n) Shared 4096 used true) (unheld : (pid i : ℕ) → held_at r pid i ≡ None)
    (own : (pid i : ℕ) → IsProcess r pid → is_reserved r (Private pid) i ≡ false) where
  no_segments : AreStored s []
  no_segments = record {
    made = made_none;
    live = ap (λ (ns : List ℕ). length ns) (listed-none 0 0 s.entries (λ k less. slots k));
    aged = λ k id e. absurd (no_id e);
    there = λ k id e. absurd (no_id e);
    back = λ k e at. let none : None ≡ Some e = sym (slots k) ∙ at in absurd (cc);
    out = out;
    unused = unused;
  }
    where
      no_id : {id : SegId} → ◌≡◌ {A = Option SegId} None (Some id) → ⊥
      no_id e = cc

  tables : r.tables ≡ (made n).tables
  tables = ap (λ (m : Maps). m.tables) maps ∙ ap (λ (m : Maps). m.tables) (sym (is_nothing n))

  processes : r.processes ≡ n
  processes = ap (λ (m : Maps). m.processes) maps ∙ ap (λ (m : Maps). m.processes) (sym (is_nothing n))

  empty_at : (pid i : ℕ) → descriptor_at r pid i ≡ empty
  empty_at pid i = ap (λ (ts : List (List Descriptor)). get_or (get_or ts pid []) i empty) tables ∙ entries_first n 8192 pid i

  settled_none : (o : Option Held) (d : Descriptor) → o ≡ None → d ≡ empty → IsSettledAt s o d
  settled_none None d e f = f
  settled_none (Some h) d e f = absurd (cc)

  no_holds : AreMapped s r []
  no_holds = record {
    held = λ pid i h at. let none : None ≡ Some h = sym (unheld pid i) ∙ at in absurd (cc);
    settled = λ pid i. settled_none (held_at r pid i) (descriptor_at r pid i) (unheld pid i) (empty_at pid i);
    tables = λ pid p.
        (let e = processes in
        ap (λ (ts : List (List Descriptor)). length (get_or ts pid [])) tables ∙ lengths_first n 8192 pid p.0 (omega (arith, e, p.1)));
    own = λ pid i p from to. own pid i p ∙ sym (ap is_some (unheld pid i));
  }

  module _ (l : LinkedParts) (ids : List SegId) (none : ids ≡ []) (count : length l.programs ≡ n) (is_used : used ≡ library_indexes (modules_of l.images))
      (shared : (i : ℕ) → is_reserved r Shared i ≡ (nat_le 4096 i && nat_lt i (4096 + library_indexes (modules_of l.images)))) where
    pub starting : AreStored s ids × AreMapped s r ids
    starting = subst (λ (xs : List SegId). AreStored s xs × AreMapped s r xs) (sym none) (no_segments, no_holds)

    process_test : (pid : ℕ) → (1 ≤ pid) × (pid ≤ length l.programs) → (nat_le 1 pid && nat_le pid r.processes) ≡ true
    process_test pid there =
        let e = processes in
        let low = there.0 in
        let high : pid ≤ r.processes = omega (arith, e, count, there.1) in
        grind (arith, nat_tests)

    pub own_may : (pid i : ℕ) → (1 ≤ pid) × (pid ≤ length l.programs) → 0 < i → i < 4096 → may_hold r pid i ≡ true
    own_may pid i there some low =
        let a = process_test pid there in
        let b : nat_lt i 4096 ≡ true = grind (arith, nat_tests) in
        let c : nat_le 1 i ≡ true = grind (arith, nat_tests) in
        rw (a, b, c) refl

    pub shared_may : (pid i : ℕ) → (1 ≤ pid) × (pid ≤ length l.programs) → 4096 ≤ i → i < 4096 + library_indexes (modules_of l.images) → may_hold r pid i ≡ true
    shared_may pid i there from to =
        let a = process_test pid there in
        let b : nat_lt i 4096 ≡ false = grind (arith, nat_tests) in
        let c : (nat_le 4096 i && nat_lt i (4096 + library_indexes (modules_of l.images))) ≡ true = grind (arith, nat_tests) in
        rw (a, b, shared i ∙ c) refl

-- no name has a segment
nobody : (s : Shelf) (images : ImageList) → IsNamedAs s images None None
nobody s images = record { named = λ p. tt; picture = λ k m n none image. absurd (no_number k none) }
  where
    no_number : (k : ℕ) → ◌≡◌ {A = Option ℕ} None (Some k) → ⊥
    no_number k e = cc

holds_none : (m : Maps) (pid i : ℕ) → held_at m pid i ≡ None → held_in m pid i ≡ None
unfolding held_in
holds_none m pid i none = ap (option_map (held_of m pid i)) none

pub prepared_by : (l : LinkedParts) (v : Stored) (n used : ℕ) → ((k : ℕ) → slot_at v.store.entries k ≡ None) → v.store.made ≡ 0 → ((k : ℕ) → place_of v.store k ≡ None) → NoneTaken v.store.swap
    → v.regions ≡ with_reserved (nothing n) Shared 4096 used true → ((pid i : ℕ) → held_at v.regions pid i ≡ None)
    → ((pid i : ℕ) → IsProcess v.regions pid → is_reserved v.regions (Private pid) i ≡ false) → v.ids.items ≡ []
    → length l.programs ≡ n → used ≡ library_indexes (modules_of l.images) → ((i : ℕ) → is_reserved v.regions Shared i ≡ (nat_le 4096 i && nat_lt i (4096 + library_indexes (modules_of l.images)))) → IsPrepared l v
prepared_by l v n used slots made_none out unused maps unheld own ids count is_used shared =
    let both = starting v.store v.regions n used slots made_none out unused maps unheld own l v.ids.items ids count is_used shared in
    let begun : IsStarting v = record { stored = both.0; mapped = both.1 } in
    record {
      starting = begun;
      empty = record {
        count = ap (λ (xs : List SegId). length xs) ids;
        named = λ k. subst (λ (xs : List SegId). IsNamedAs v.store l.images (option_map (λ (id : SegId). id.key) (slice_get xs k)) None) (sym ids) (nobody v.store l.images);
        held = λ pid i. holds_none v.regions pid i (unheld pid i);
      };
      ready = record {
        whole = begun;
        made = λ k d less. absurd (omega (arith, less));
        own = λ pid i there some low. own_may v.store v.regions n used slots made_none out unused maps unheld own l v.ids.items ids count is_used shared pid i there some low;
        shared = λ pid place k i p there which library at.
            (let in_range = library_index (modules_of l.images) place k i p which library at in
            shared_may v.store v.regions n used slots made_none out unused maps unheld own l v.ids.items ids count is_used shared pid i there in_range.0 in_range.1);
      };
      shared = shared;
    }
