-- What processes hold, part by part.
use Rattle.std.proofs.Common.{◌≡◌, ℕ, ◌+◌, ◌-◌, ◌<◌, List, [], ◌∷◌, ◌++◌, length, drop, get_or, Bool, true, false, Option, Some, None, is_some, refl, sym, ap, ◌∙◌, append-nil, arith, length-append}
use Rattle.std.specs.Prelude.{flat_map}
use Rattle.std.specs.List.{range_with_len}
use Rattle.o2_desc.specs.declared.descriptor.Descriptor.{Descriptor}
use Rattle.o2_regions.specs.declared.held.Held.{Held as HeldThere}
use Rattle.o2_regions.specs.Maps.{Maps, descriptor_of, held_at, table_of}
use Rattle.o2_store.specs.Shelf.{Shelf}
use Rattle.o2_dump.specs.declared.parts.Held.{Held}
use Rattle.o2_dump.specs.CoreBytes.{held_bytes, long, process_bytes, register_bytes, state_number, word}
use Rattle.o2_dump.specs.ProcessEntries.{state_of}
use Rattle.o2_dumping.specs.Told.{Row, all_held, descriptor_at, held_from, held_told, hold_told, process_told, processes_from}
use Rattle.o2_dumping.proofs.Lists.{flat_two, next_item, next_number, range_more}

-- ---- at one index

pub hold_none : (s : Shelf) (m : Maps) (pid i : ℕ) → None ≡ held_at m pid i → held_told s m pid i ≡ []
unfolding held_told
hold_none s m pid i e = ap (hold_told s i (descriptor_at m pid i)) (sym e)

described : (o : Option HeldThere) (h : HeldThere) (ds : List Descriptor) (i : ℕ) (d e : Descriptor) → Some h ≡ o → Some d ≡ descriptor_of o ds i → descriptor_of (Some h) ds i ≡ Some e → d ≡ e
described o h ds i d e is told to = let x : Some d ≡ Some e = told ∙ (ap (λ (z : Option HeldThere). descriptor_of z ds i) (sym is) ∙ to) in cc

pub hold_some : (s : Shelf) (m : Maps) (pid i : ℕ) (h : HeldThere) (d : Descriptor) → Some h ≡ held_at m pid i → Some d ≡ descriptor_of (held_at m pid i) (table_of m pid) i
    → held_told s m pid i ≡ hold_told s i d (Some h)
unfolding held_told
hold_some s m pid i h d is told =
    let e : d ≡ descriptor_at m pid i = described (held_at m pid i) h (table_of m pid) i d (descriptor_at m pid i) is told refl in
    ap (hold_told s i (descriptor_at m pid i)) (sym is) ∙ ap (λ (z : Descriptor). hold_told s i z (Some h)) (sym e)

-- how many
many : (s : Shelf) (i : ℕ) (d : Descriptor) (o : Option HeldThere) (b : Bool) → b ≡ is_some o → (b ≡ true → length (hold_told s i d o) ≡ 1) × (b ≡ false → length (hold_told s i d o) ≡ 0)
many s i d None b e = (λ t. absurd (let x : true ≡ false = sym t ∙ e in cc), λ t. refl)
many s i d (Some h) b e = (λ t. refl, λ t. absurd (let x : false ≡ true = sym t ∙ e in cc))

pub counts_one : (s : Shelf) (m : Maps) (pid i : ℕ) (h : Option HeldThere) (b : Bool) → h ≡ held_at m pid i → b ≡ is_some h → b ≡ true → length (held_told s m pid i) ≡ 1
unfolding held_told
counts_one s m pid i h b is e t = (many s i (descriptor_at m pid i) (held_at m pid i) b (e ∙ ap (λ (z : Option HeldThere). is_some z) is)).0 t

pub counts_none : (s : Shelf) (m : Maps) (pid i : ℕ) (h : Option HeldThere) (b : Bool) → h ≡ held_at m pid i → b ≡ is_some h → b ≡ false → length (held_told s m pid i) ≡ 0
unfolding held_told
counts_none s m pid i h b is e t = (many s i (descriptor_at m pid i) (held_at m pid i) b (e ∙ ap (λ (z : Option HeldThere). is_some z) is)).1 t

-- ---- along the indexes

pub held_none : (s : Shelf) (m : Maps) (pid i : ℕ) → held_from s m pid i 0 ≡ []
unfolding held_from
held_none s m pid i = refl

pub held_more : (s : Shelf) (m : Maps) (pid n : ℕ) → length (held_from s m pid 0 (n + 1)) ≡ length (held_from s m pid 0 n) + length (held_told s m pid n)
unfolding held_from
held_more s m pid n =
    let f = held_told s m pid in
    let e : 0 + n ≡ n = omega arith in
    ap (λ (z : List ℕ). length (flat_map f z)) (range_more 0 n)
    ∙ (ap length (flat_two f (range_with_len 0 n) ((0 + n) ∷ []))
    ∙ (length-append (flat_map f (range_with_len 0 n)) (f (0 + n) ++ [])
    ∙ ap (λ (z : List Held). length (flat_map f (range_with_len 0 n)) + length z) (append-nil (f (0 + n)) ∙ ap f e)))

pub held_next : (s : Shelf) (m : Maps) (pid i n : ℕ) → i < n
    → flat_map held_bytes (held_from s m pid i (n - i)) ≡ flat_map held_bytes (held_told s m pid i) ++ flat_map held_bytes (held_from s m pid (i + 1) (n - (i + 1)))
unfolding held_from
held_next s m pid i n l =
    let f = held_told s m pid in
    ap (λ (z : List ℕ). flat_map held_bytes (flat_map f z)) (next_number i n l)
    ∙ flat_two held_bytes (f i) (flat_map f (range_with_len (i + 1) (n - (i + 1))))

pub held_past : (s : Shelf) (m : Maps) (pid i n : ℕ) → n - i ≡ 0 → flat_map held_bytes (held_from s m pid i (n - i)) ≡ []
held_past s m pid i n e = ap (λ (z : ℕ). flat_map held_bytes (held_from s m pid i z)) e ∙ ap (flat_map held_bytes) (held_none s m pid i)

pub all_from : (s : Shelf) (m : Maps) (pid n : ℕ) → n ≡ 8192 → held_from s m pid 0 n ≡ all_held s m pid
unfolding all_held
all_from s m pid n e = ap (held_from s m pid 0) e

-- ---- processes

pub process_splits : (s : Shelf) (m : Maps) (pid count : ℕ) (row : Row) → count ≡ length (all_held s m pid)
    → process_bytes (process_told s m pid row)
    ≡ (word pid ++ word (state_number (state_of row.1)) ++ word row.2 ++ register_bytes row.0 ++ long count) ++ flat_map held_bytes (all_held s m pid)
unfolding process_told
process_splits s m pid count row e =
    ap (λ (z : ℕ). (word pid ++ word (state_number (state_of row.1)) ++ word row.2 ++ register_bytes row.0 ++ long z) ++ flat_map held_bytes (all_held s m pid)) (sym e)

pub processes_next : (s : Shelf) (m : Maps) (pid k : ℕ) (rows : List Row) (d : Row) → k < length rows
    → flat_map process_bytes (processes_from s m pid (drop k rows))
    ≡ process_bytes (process_told s m pid (get_or rows k d)) ++ flat_map process_bytes (processes_from s m (pid + 1) (drop (k + 1) rows))
processes_next s m pid k rows d l = ap (λ (z : List Row). flat_map process_bytes (processes_from s m pid z)) (next_item rows k d l)
