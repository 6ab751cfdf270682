-- When a pointer is good, by what its selector is bound to.
use Rattle.std.proofs.Common.{◌≡◌, ℕ, ◌+◌, Bool, true, false, List, [], Option, Some, None, length, take, drop, refl, ap, sym, ◌∙◌, arith}
use Rattle.std.proofs.lemmas.Bool.Decides.{nat_tests}
use Rattle.std.specs.Prelude.{◌==◌, ◌&&◌, ◌||◌, nat_le, not, if◌then◌else◌}
use Rattle.o2_isa.specs.declared.cpu.Cpu.{Cpu}
use Rattle.o2_isa.specs.declared.cpu.Loaded.TheVariants as loaded
use Rattle.o2_isa.specs.View.{Hold, is_null, is_readable, is_writable, bound_in, found_in, probe_of, refused, trap_of}
use Rattle.o2_isa.specs.Pointers.{is_good, is_for_es, is_passed, range_of}
use Rattle.o2_world.specs.World.{Segment, Held, Process}
use Rattle.o2_world.specs.Map.{Map, get}
use Rattle.o2_world.specs.Slots.{is_for_writing, may_have_heap}
use Rattle.o2_world_parts.specs.Effects.{reaches}
use Rattle.o2_world.specs.Views.{view_of, view_over, hold_of, holds_in, segment_bytes, bytes_in, discarded_in, is_discarded}

-- bytes of a name
pub bytes-some : (names : Map Segment) (n : ℕ) (s : Segment) → Some s ≡ get names n → bytes_in names n ≡ s.bytes
bytes-some names n s e = ap segment_bytes (sym e)

pub bytes-none : (names : Map Segment) (n : ℕ) → None ≡ get names n → bytes_in names n ≡ []
bytes-none names n e = ap segment_bytes (sym e)

pub ruleset bytes = (bytes-some, bytes-none)

-- and its mark
pub mark-some : (names : Map Segment) (n : ℕ) (s : Segment) → Some s ≡ get names n → discarded_in names n ≡ s.discarded
mark-some names n s e = ap is_discarded (sym e)

pub mark-none : (names : Map Segment) (n : ℕ) → None ≡ get names n → discarded_in names n ≡ false
mark-none names n e = ap is_discarded (sym e)

pub ruleset marks = (mark-some, mark-none)

and-false : (b : Bool) → (b && false) ≡ false
and-false true = refl
and-false false = refl

or_none : (b : Bool) → (b || false) ≡ b
or_none true = refl
or_none false = refl

-- a selector that is bound to something is not null
bound_cases : (null : Bool) (f : Option Hold) (h : Hold) → (if null then None else f) ≡ Some h → (null ≡ false) × (f ≡ Some h)
bound_cases true f h e = cc
bound_cases false f h e = (refl, e)

passed_by : (ok gone : Bool) (s : ℕ) → is_passed (if ok then (if gone then trap_of 11 s else loaded.Done) else refused s) ≡ (ok && not gone)
passed_by true true s = refl
passed_by true false s = refl
passed_by false gone s = refl

es_by : (held : ℕ → Option Hold) (bytes : ℕ → List ℕ) (gone : ℕ → Bool) (c : Cpu) (s : ℕ) (h : Hold) → bound_in held s ≡ Some h
    → is_for_es (view_over held bytes gone c) s ≡ (is_readable h.rights && not (gone h.name))
unfolding probe_of
es_by held bytes gone c s h e =
    let p = bound_cases (is_null s) (found_in held s) h e in
    let null : is_null s ≡ false = p.0 in
    let found : found_in held s ≡ Some h = p.1 in
    rw (null, found) (passed_by (is_readable h.rights) (gone h.name) s)

pub good-some : (ok : ℕ → Bool) (names : Map Segment) (p : Process) (s offset count : ℕ) (h : Hold) → bound_in (holds_in p.held) s ≡ Some h
    → is_good ok (view_of names p) s offset count ≡ ((count == 0) || ((is_readable h.rights && not (discarded_in names h.name)) && (ok h.rights && nat_le (offset + count) (length (bytes_in names h.name)))))
unfolding is_good
good-some ok names p s offset count h e = rw (es_by (holds_in p.held) (bytes_in names) (discarded_in names) p.cpu s h e, e) refl

pub good-none : (ok : ℕ → Bool) (names : Map Segment) (p : Process) (s offset count : ℕ) → bound_in (holds_in p.held) s ≡ None
    → is_good ok (view_of names p) s offset count ≡ (count == 0)
unfolding is_good
good-none ok names p s offset count e = rw (e, and-false (is_for_es (view_of names p) s)) (or_none (count == 0))

read_by : (r g n : Bool) → ((r && g) && (r && n)) ≡ (r && (g && (true && n)))
read_by true true n = refl
read_by true false n = refl
read_by false g n = refl

write_by : (r g w n : Bool) → ((r && g) && (w && n)) ≡ (r && (g && (w && n)))
write_by true g w n = refl
write_by false g w n = refl

write_cases : (names : Map Segment) (p : Process) (s offset count : ℕ) (b : Option Hold) → bound_in (holds_in p.held) s ≡ b
    → is_good is_writable (view_of names p) s offset count ≡ ((count == 0) || reaches (bytes_in names) (discarded_in names) true offset count b)
write_cases names p s offset count None e = good-none is_writable names p s offset count e ∙ sym (or_none (count == 0))
write_cases names p s offset count (Some h) e =
    good-some is_writable names p s offset count h e
    ∙ ap (λ b. (count == 0) || b) (write_by (is_readable h.rights) (not (discarded_in names h.name)) (is_writable h.rights) (nat_le (offset + count) (length (bytes_in names h.name))))

read_cases : (names : Map Segment) (p : Process) (s offset count : ℕ) (b : Option Hold) → bound_in (holds_in p.held) s ≡ b
    → is_good is_readable (view_of names p) s offset count ≡ ((count == 0) || reaches (bytes_in names) (discarded_in names) false offset count b)
read_cases names p s offset count None e = good-none is_readable names p s offset count e ∙ sym (or_none (count == 0))
read_cases names p s offset count (Some h) e =
    good-some is_readable names p s offset count h e
    ∙ ap (λ b. (count == 0) || b) (read_by (is_readable h.rights) (not (discarded_in names h.name)) (nat_le (offset + count) (length (bytes_in names h.name))))

pub write_is : (names : Map Segment) (p : Process) (s offset count : ℕ) → is_good is_writable (view_of names p) s offset count ≡ ((count == 0) || reaches (bytes_in names) (discarded_in names) true offset count (bound_in (holds_in p.held) s))
write_is names p s offset count = write_cases names p s offset count (bound_in (holds_in p.held) s) refl

pub read_is : (names : Map Segment) (p : Process) (s offset count : ℕ) → is_good is_readable (view_of names p) s offset count ≡ ((count == 0) || reaches (bytes_in names) (discarded_in names) false offset count (bound_in (holds_in p.held) s))
read_is names p s offset count = read_cases names p s offset count (bound_in (holds_in p.held) s) refl

pub ruleset good = (write_is, read_is)

-- a heap may lie there
all_but_last : (r g w : Bool) → ((r && g) && w) ≡ (r && (g && (w && true)))
all_but_last true true true = refl
all_but_last true true false = refl
all_but_last true false w = refl
all_but_last false g w = refl

no_bytes : (n : ℕ) → nat_le (0 + 0) n ≡ true
no_bytes n = grind (arith, nat_tests)

heap_cases : (names : Map Segment) (p : Process) (s : ℕ) (b : Option Hold) → bound_in (holds_in p.held) s ≡ b
    → may_have_heap (view_of names p) s ≡ reaches (bytes_in names) (discarded_in names) true 0 0 b
heap_cases names p s None e =
    ap (λ (o : Option Hold). is_for_es (view_of names p) s && is_for_writing o) e
    ∙ and-false (is_for_es (view_of names p) s)
heap_cases names p s (Some h) e =
    ap (λ (o : Option Hold). is_for_es (view_of names p) s && is_for_writing o) e
    ∙ ap (λ (b : Bool). b && is_writable h.rights) (es_by (holds_in p.held) (bytes_in names) (discarded_in names) p.cpu s h e)
    ∙ all_but_last (is_readable h.rights) (not (discarded_in names h.name)) (is_writable h.rights)
    ∙ ap (λ (b : Bool). is_readable h.rights && (not (discarded_in names h.name) && (is_writable h.rights && b))) (sym (no_bytes (length (bytes_in names h.name))))

pub heap_is : (names : Map Segment) (p : Process) (s : ℕ) → may_have_heap (view_of names p) s ≡ reaches (bytes_in names) (discarded_in names) true 0 0 (bound_in (holds_in p.held) s)
heap_is names p s = heap_cases names p s (bound_in (holds_in p.held) s) refl

pub ruleset heaps = (heap_is)

-- ranges
either : (b : Bool) (xs : List ℕ) → (if b then xs else xs) ≡ xs
either true xs = refl
either false xs = refl

pub range-held : (names : Map Segment) (p : Process) (s offset count : ℕ) (h : Held) → Some (hold_of h) ≡ bound_in (holds_in p.held) s → (count == 0) ≡ false
    → range_of (holds_in p.held) (bytes_in names) s offset count ≡ take count (drop offset (bytes_in names h.name))
unfolding range_of
range-held names p s offset count h e z = rw (z, sym e) refl

pub range-unheld : (names : Map Segment) (p : Process) (s offset count : ℕ) → None ≡ bound_in (holds_in p.held) s → range_of (holds_in p.held) (bytes_in names) s offset count ≡ []
unfolding range_of
range-unheld names p s offset count e = rw (sym e) (either (count == 0) [])

pub ruleset ranges = (range-held, range-unheld)
