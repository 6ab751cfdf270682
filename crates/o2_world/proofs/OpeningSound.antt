-- The world before the first step is sound.
use Rattle.std.proofs.Common.{◌≡◌, ◌⊎◌, ℕ, zero, suc, ◌+◌, ◌*◌, ◌/◌, ◌%◌, ◌<◌, Bool, true, false, cond, ◌==◌, ◌||◌, ◌&&◌, List, [], ◌∷◌, ◌++◌, length, Option, Some, None, ap, sym, ◌∙◌, refl, arith, subst, inl, inr}
use Rattle.std.specs.Prelude.{is_some, slice_get, option_map, not, nat_lt, fold, Result, Ok, Err}
use Rattle.std.specs.List.{All}
use Rattle.std.proofs.lemmas.List.Elements.{All-head, All-tail}
use Rattle.std.proofs.lemmas.Map.Keys.{IsDistinct-head, IsDistinct-tail}
use Rattle.o2_conf.specs.declared.script.Word.{Word}
use Rattle.o2_base.specs.declared.faults.ModuleFault.{ModuleFault}
use Rattle.o2_base.specs.declared.faults.ModuleFault.TheVariants.{NoStack, NoEntry, NoSegment}
use Rattle.o2_isa.specs.View.{is_code, is_readable, is_writable, is_null, is_local}
use Rattle.o2_world.specs.declared.types.Made.{Made}
use Rattle.o2_world.specs.Map.{Map, get}
use Rattle.o2_world.specs.World.{World, Process, Segment, Held, is_live}
use Rattle.o2_world.specs.Holders.{holds_name, is_held}
use Rattle.o2_base.specs.Selectors.{selector_of}
use Rattle.o2_world.specs.Opening.{held_by_load}
use Rattle.o2_world.specs.Starts.{Loaded, LoadedSegment, Start, Holding, Built, holdings, nth_loaded, image_size, stack_number, data_selector, first_cpu, first_process}
use Rattle.o2_world.specs.Starts.{is_stack, is_entry, start_check, nothing_built, segment_of, name_in, made_with, holds_as, with_holding, with_holdings, with_started}
use Rattle.o2_world.specs.Starts.{within_names, where_checked, next_started, where_started, world_of}
use Rattle.o2_world.specs.Sound.{HasGoodRegisters, NamesHeld, has_rights, held_in}
use Rattle.o2_world.specs.FitStarts.{IsFit}
use Rattle.o2_world.proofs.Holding.{under}
use Rattle.o2_world.proofs.Keeps.{some_is, holds_found}
use Rattle.o2_world.proofs.HoldingMaps.{rights_in, indexes_of, AreApart, Adds, adds, none_after, all_indexes, program_held}

-- What holds between two steps of the starts.

pub record Stands (b : Built) : Type 0 where
  -- what each process holds, and what the one that starts holds so far, is live and held at least once
  pub held : (place i : ℕ) (h : Held) → held_in b.processes place i ≡ Some h → (is_some (get b.names h.name) ≡ true) × (0 < h.holds)
  pub so_far : (i : ℕ) (h : Held) → get b.held i ≡ Some h → (is_some (get b.names h.name) ≡ true) × (0 < h.holds)
  -- and each live name is held by one of them
  pub named : (q : ℕ) → is_some (get b.names q) ≡ true → (is_held b.processes q || holds_name b.held q) ≡ true
  -- the names of common segments are live
  pub made : (place number name : ℕ) → name_in b.made place number ≡ Some name → is_some (get b.names name) ≡ true
  pub live : (place : ℕ) (p : Process) → slice_get b.processes place ≡ Some p → is_live p.state ≡ true
  pub registers : (place : ℕ) (p : Process) → slice_get b.processes place ≡ Some p → HasGoodRegisters p

-- Tests.

not_both : {P : Type 0} (b : Bool) → b ≡ true → b ≡ false → P
not_both b e f = cc

or_first : (a b : Bool) → a ≡ true → (a || b) ≡ true
or_first true b e = refl
or_first false b e = cc

or_second : (a b : Bool) → b ≡ true → (a || b) ≡ true
or_second true b e = refl
or_second false b e = e

or_more : (a b c : Bool) → (b ≡ true → c ≡ true) → (a || b) ≡ true → (a || c) ≡ true
or_more true b c f e = refl
or_more false b c f e = f e

pub same_number : (n : ℕ) → (n == n) ≡ true
same_number n = grind arith

pub equal : (i j : ℕ) → (i == j) ≡ true → i ≡ j
equal i j e = grind arith

-- One segment more.

-- what is there under an index, once another index is put in front
pub beside : {X : Type 0} (m : Map X) (i j : ℕ) (x h : X) → get m i ≡ None → get m j ≡ Some h → get ((i, x) ∷ m) j ≡ Some h
beside m i j x h fresh e = go (i == j) refl
  where
    go : (t : Bool) → (i == j) ≡ t → cond t (Some x) (get m j) ≡ Some h
    go true is = let there : get m i ≡ Some h = ap (get m) (equal i j is) ∙ e in let no : ◌≡◌ {A = Option _} None (Some h) = sym fresh ∙ there in cc
    go false is = e

still_held : (m : Map Held) (i : ℕ) (x : Held) (q : ℕ) → get m i ≡ None → holds_name m q ≡ true → holds_name ((i, x) ∷ m) q ≡ true
still_held m i x q fresh e =
    let u = under q m e in
    subst (λ (n : ℕ). holds_name ((i, x) ∷ m) n ≡ true) u.named (holds_found ((i, x) ∷ m) u.index u.hold (beside m i u.index x u.hold fresh u.there))

now_held : (m : Map Held) (i : ℕ) (x : Held) → holds_name ((i, x) ∷ m) x.name ≡ true
now_held m i x = holds_found ((i, x) ∷ m) i x (ap (λ (t : Bool). cond t (Some x) (get m i)) (same_number i))

hold_stands : (b : Built) (names : Map Segment) (next : ℕ) (made : List Made) (i : ℕ) (x : Held) (selectors : List ℕ) → Stands b
    → ((q : ℕ) → is_some (get b.names q) ≡ true → is_some (get names q) ≡ true)
    → ((q : ℕ) → is_some (get names q) ≡ true → (is_some (get b.names q) ≡ true) ⊎ (x.name ≡ q))
    → is_some (get names x.name) ≡ true → 0 < x.holds
    → ((place number name : ℕ) → name_in made place number ≡ Some name → is_some (get names name) ≡ true)
    → get b.held i ≡ None
    → Stands (record { names = names; next_name = next; made = made; held = (i, x) ∷ b.held; selectors = selectors; processes = b.processes; lines = b.lines })
hold_stands b names next made i x selectors s grows only there holds common fresh = record {
  held = λ place j h e. let old = s.held place j h e in (grows h.name old.0, old.1);
  so_far = λ j h e. by_index (i == j) j h e;
  named = λ q e. by_name q (only q e);
  made = common;
  live = s.live;
  registers = s.registers;
}
  where
    by_index : (t : Bool) (j : ℕ) (h : Held) → cond t (Some x) (get b.held j) ≡ Some h → (is_some (get names h.name) ≡ true) × (0 < h.holds)
    by_index true j h e = subst (λ (y : Held). (is_some (get names y.name) ≡ true) × (0 < y.holds)) (some_is x h (Some x) refl e) (there, holds)
    by_index false j h e = let old = s.so_far j h e in (grows h.name old.0, old.1)

    by_name : (q : ℕ) → (is_some (get b.names q) ≡ true) ⊎ (x.name ≡ q) → (is_held b.processes q || holds_name ((i, x) ∷ b.held) q) ≡ true
    by_name q (inl e) = or_more (is_held b.processes q) (holds_name b.held q) _ (still_held b.held i x q fresh) (s.named q e)
    by_name q (inr e) = or_second (is_held b.processes q) _ (subst (λ (n : ℕ). holds_name ((i, x) ∷ b.held) n ≡ true) e (now_held b.held i x))

pub made_more : (ms : List Made) (m : Made) (place number name : ℕ) → name_in (ms ++ m ∷ []) place number ≡ Some name
    → (name_in ms place number ≡ Some name) ⊎ (m.name ≡ name)
made_more [] m place number name e = go ((m.place == place) && (m.number == number)) e
  where
    go : (t : Bool) → cond t (Some m.name) None ≡ Some name → (◌≡◌ {A = Option ℕ} None (Some name)) ⊎ (m.name ≡ name)
    go true e = inr (some_is m.name name (Some m.name) refl e)
    go false e = cc
made_more (a ∷ ms) m place number name e = go ((a.place == place) && (a.number == number)) e (made_more ms m place number name)
  where
    go : (t : Bool) → cond t (Some a.name) (name_in (ms ++ m ∷ []) place number) ≡ Some name
        → (name_in (ms ++ m ∷ []) place number ≡ Some name → (name_in ms place number ≡ Some name) ⊎ (m.name ≡ name))
        → (cond t (Some a.name) (name_in ms place number) ≡ Some name) ⊎ (m.name ≡ name)
    go true e below = inl e
    go false e below = below e

new_name : (names : Map Segment) (n : ℕ) (g : Segment) → is_some (get ((n, g) ∷ names) n) ≡ true
new_name names n g = ap (λ (t : Bool). is_some (cond t (Some g) (get names n))) (same_number n)

more_names : (names : Map Segment) (n : ℕ) (g : Segment) (q : ℕ) → is_some (get names q) ≡ true → is_some (get ((n, g) ∷ names) q) ≡ true
more_names names n g q e = go (n == q)
  where
    go : (t : Bool) → is_some (cond t (Some g) (get names q)) ≡ true
    go true = refl
    go false = e

no_other_name : (names : Map Segment) (n : ℕ) (g : Segment) (q : ℕ) → is_some (get ((n, g) ∷ names) q) ≡ true
    → (is_some (get names q) ≡ true) ⊎ (n ≡ q)
no_other_name names n g q e = go (n == q) refl e
  where
    go : (t : Bool) → (n == q) ≡ t → is_some (cond t (Some g) (get names q)) ≡ true → (is_some (get names q) ≡ true) ⊎ (n ≡ q)
    go true is e = inr (equal n q is)
    go false is e = inl e

named_made : (b : Built) (h : Holding) → Stands b → (place number name : ℕ)
    → name_in (made_with b.made h b.next_name) place number ≡ Some name
    → is_some (get ((b.next_name, segment_of h) ∷ b.names) name) ≡ true
named_made b h s place number name e = go h.common e
  where
    old : name_in b.made place number ≡ Some name → is_some (get ((b.next_name, segment_of h) ∷ b.names) name) ≡ true
    old e = more_names b.names b.next_name (segment_of h) name (s.made place number name e)

    either : (name_in b.made place number ≡ Some name) ⊎ (b.next_name ≡ name)
        → is_some (get ((b.next_name, segment_of h) ∷ b.names) name) ≡ true
    either (inl e) = old e
    either (inr e) = subst (λ (n : ℕ). is_some (get ((b.next_name, segment_of h) ∷ b.names) n) ≡ true) e (new_name b.names b.next_name (segment_of h))

    go : (t : Bool) → name_in (cond t (b.made ++ record { place = h.place; number = h.number; name = b.next_name } ∷ []) b.made) place number ≡ Some name
        → is_some (get ((b.next_name, segment_of h) ∷ b.names) name) ≡ true
    go true e = either (made_more b.made (record { place = h.place; number = h.number; name = b.next_name }) place number name e)
    go false e = old e

holds_as_stands : (b : Built) (h : Holding) (o : Option ℕ) → Stands b → get b.held h.index ≡ None
    → ((name : ℕ) → o ≡ Some name → is_some (get b.names name) ≡ true) → Stands (holds_as b h o)
holds_as_stands b h (Some name) s fresh there =
    hold_stands b b.names b.next_name b.made h.index (held_by_load name h.rights) _ s (λ q e. e) (λ q e. inl e) (there name refl) (omega arith) s.made fresh
holds_as_stands b h None s fresh there =
    hold_stands b ((b.next_name, segment_of h) ∷ b.names) (b.next_name + 1) (made_with b.made h b.next_name) h.index (held_by_load b.next_name h.rights) _ s
    (more_names b.names b.next_name (segment_of h)) (no_other_name b.names b.next_name (segment_of h)) (new_name b.names b.next_name (segment_of h)) (omega arith)
    (named_made b h s) fresh

holding_stands : (b : Built) (h : Holding) → Stands b → get b.held h.index ≡ None → Stands (with_holding b h)
holding_stands b h s fresh = holds_as_stands b h _ s fresh (λ name e. go name h.common e)
  where
    go : (name : ℕ) (t : Bool) → cond t (name_in b.made h.place h.number) None ≡ Some name → is_some (get b.names name) ≡ true
    go name true e = s.made h.place h.number name e
    go name false e = cc

-- All segments of a process.

-- none of the indexes of these segments is taken
abbrev pub AreFree : Map Held → List Holding → Type 0
AreFree held hs = (q : ℕ) → is_some (rights_in hs q) ≡ true → get held q ≡ None

pub free_head : (b : Built) (h : Holding) (hs : List Holding) → AreFree b.held (h ∷ hs) → get b.held h.index ≡ None
free_head b h hs free = free h.index (ap (λ (t : Bool). is_some (cond t (Some h.rights) (rights_in hs h.index))) (same_number h.index))

pub free_tail : (b : Built) (h : Holding) (hs : List Holding) → AreApart (indexes_of (h ∷ hs)) → AreFree b.held (h ∷ hs)
    → AreFree (with_holding b h).held hs
free_tail b h hs d free q e = ap (λ (m : Map Held). get m q) x.held ∙ go (h.index == q) refl
  where
    x : Adds b h (with_holding b h)
    x = adds b h

    free_there : (t : Bool) → is_some (cond t (Some h.rights) (rights_in hs q)) ≡ true
    free_there true = refl
    free_there false = e

    go : (t : Bool) → (h.index == q) ≡ t → cond t (Some (held_by_load x.name h.rights)) (get b.held q) ≡ None
    go true is =
        let none = none_after hs h.index q (IsDistinct-head (λ i j. i == j) h.index (indexes_of hs) d) is in
        let no : false ≡ true = sym (ap (λ (o : Option ℕ). is_some o) none) ∙ e in cc
    go false is = free q (free_there (h.index == q))

all_stand : (hs : List Holding) (b : Built) → AreApart (indexes_of hs) → AreFree b.held hs → Stands b → Stands (with_holdings b hs)
all_stand [] b d free s = s
all_stand (h ∷ hs) b d free s =
    all_stand hs (with_holding b h) (IsDistinct-tail (λ i j. i == j) h.index (indexes_of hs) d) (free_tail b h hs d free) (holding_stands b h s (free_head b h hs free))

-- The first registers.

record PassesCheck (m : Loaded) : Type 0 where
  pub stack : is_stack (nth_loaded (stack_number m) m.segments) ≡ true
  pub program : m.library ≡ false
  pub entry : is_entry m.ip (nth_loaded m.cs m.segments) ≡ true

checks : (a b c : Bool) (u : Unit {0}) → ◌≡◌ {A = Result (Unit {0}) ModuleFault} (cond (not a) (Err NoStack) (cond (not b && c) (Ok tt) (Err NoEntry))) (Ok u) → (a ≡ true) × (b ≡ false) × (c ≡ true)
checks false b c u e = cc
checks true true c u e = cc
checks true false false u e = cc
checks true false true u e = (refl, refl, refl)

passes : (m : Loaded) (u : Unit {0}) → start_check m ≡ Ok u → PassesCheck m
passes m u e = let c = checks _ m.library _ u e in record { stack = c.0; program = c.1; entry = c.2 }

record IsSegment (o : Option LoadedSegment) (ok : ℕ → Bool) : Type 0 where
  pub segment : LoadedSegment
  pub there : o ≡ Some segment
  pub fits : ok segment.rights ≡ true

stack_is : (o : Option LoadedSegment) → is_stack o ≡ true → IsSegment o is_writable
stack_is None e = cc
stack_is (Some x) e = record { segment = x; there = refl; fits = e }

both_first : (a b : Bool) → (a && b) ≡ true → a ≡ true
both_first true b e = refl
both_first false b e = cc

entry_is : (ip : ℕ) (o : Option LoadedSegment) → is_entry ip o ≡ true → IsSegment o is_code
entry_is ip None e = cc
entry_is ip (Some x) e = record { segment = x; there = refl; fits = both_first _ _ e }

local_selector : (n : ℕ) → is_local (selector_of n) ≡ true
local_selector n = let odd : (8 * n + 7) / 4 % 2 ≡ 1 = omega arith in grind (arith, odd)

index_selector : (n : ℕ) → selector_of n / 8 ≡ n
index_selector n = omega arith

ring_selector : (n : ℕ) → selector_of n % 4 ≡ 3
ring_selector n = omega arith

rights_fit : (ok : ℕ → Bool) (r : ℕ) (o : Option Held) → option_map (λ (h : Held). h.rights) o ≡ Some r → ok r ≡ true
    → has_rights ok o ≡ true
rights_fit ok r None e f = cc
rights_fit ok r (Some h) e f = ap ok (some_is h.rights r (Some h.rights) refl e) ∙ f

-- segment n of the program is named by the selector of index n
selector_named : (b : Built) (pid : ℕ) (s : Start) (p : Process) (ok : ℕ → Bool) (n : ℕ) → IsFit s
    → p.held ≡ (with_holdings b (holdings pid s)).held
    → IsSegment (nth_loaded n s.program.segments) ok → NamesHeld p ok (selector_of n)
selector_named b pid s p ok n fit same x =
    let there = rights_fit ok x.segment.rights _ (program_held b pid s fit n x.segment x.there) x.fits in
    (local_selector n, subst (λ (i : ℕ). has_rights ok (get p.held i) ≡ true) (sym (index_selector n)) (subst (λ (m : Map Held). has_rights ok (get m n) ≡ true) (sym same) there))

start_registers : (b : Built) (pid : ℕ) (s : Start) (p : Process) → IsFit s → PassesCheck s.program → p.cpu ≡ first_cpu s
    → p.held ≡ (with_holdings b (holdings pid s)).held → HasGoodRegisters p
start_registers b pid s p fit c cpu held =
    subst (λ (x : Process). HasGoodRegisters x) (sym (ap (λ z. record p { cpu = z }) cpu))
    record {
      cs = named_by is_code s.program.cs (entry_is s.program.ip _ c.entry);
      cs_ring = ring_selector s.program.cs;
      ss = named_by is_writable (stack_number s.program) (stack_is _ c.stack);
      ss_ring = ring_selector (stack_number s.program);
      ds = by_data _ refl;
      es = inl refl;
    }
  where
    named_by : (ok : ℕ → Bool) (n : ℕ) → IsSegment (nth_loaded n s.program.segments) ok → NamesHeld (record p { cpu = first_cpu s }) ok (selector_of n)
    named_by ok n x = selector_named b pid s (record p { cpu = first_cpu s }) ok n fit held x

    by_data : (o : Option LoadedSegment) → nth_loaded s.program.auto_seg s.program.segments ≡ o
        → (let r = data_selector s.program (option_map image_size o) in (is_null r ≡ true) ⊎ NamesHeld (record p { cpu = first_cpu s }) is_readable r)
    by_data None e = inl refl
    by_data (Some x) e = inr (named_by is_readable s.program.auto_seg (record { segment = x; there = e; fits = fit.automatic x e }))

-- A process has started.

pub behind : (ps : List Process) (p : Process) (place i : ℕ) (h : Held) → held_in (ps ++ p ∷ []) place i ≡ Some h
    → (held_in ps place i ≡ Some h) ⊎ (get p.held i ≡ Some h)
behind [] p zero i h e = inr e
behind [] p (suc place) i h e = inl e
behind (a ∷ ps) p zero i h e = inl e
behind (a ∷ ps) p (suc place) i h e = behind ps p place i h e

process_behind : (ps : List Process) (p : Process) (place : ℕ) (x : Process) → slice_get (ps ++ p ∷ []) place ≡ Some x
    → (slice_get ps place ≡ Some x) ⊎ (p ≡ x)
process_behind [] p zero x e = inr (some_is p x (Some p) refl e)
process_behind [] p (suc place) x e = inl e
process_behind (a ∷ ps) p zero x e = inl e
process_behind (a ∷ ps) p (suc place) x e = process_behind ps p place x e

held_behind : (ps : List Process) (p : Process) (q : ℕ) → (is_held ps q || holds_name p.held q) ≡ true → is_held (ps ++ p ∷ []) q ≡ true
held_behind [] p q e = or_first (holds_name p.held q) false e
held_behind (a ∷ ps) p q e = go (holds_name a.held q) e (held_behind ps p q)
  where
    go : (t : Bool) → ((t || is_held ps q) || holds_name p.held q) ≡ true
        → ((is_held ps q || holds_name p.held q) ≡ true → is_held (ps ++ p ∷ []) q ≡ true) → (t || is_held (ps ++ p ∷ []) q) ≡ true
    go true e below = refl
    go false e below = below e

pub either_of : {A B : Type 0} {P : Type 0} → A ⊎ B → (A → P) → (B → P) → P
either_of (inl a) f g = f a
either_of (inr b) f g = g b

started_stands : (pid : ℕ) (s : Start) (b : Built) → Stands b → HasGoodRegisters (first_process s b.held) → Stands (with_started pid s b)
started_stands pid s b stands good = record {
  held = λ place i h e. either_of (behind b.processes new place i h e) (stands.held place i h) (stands.so_far i h);
  so_far = λ i h e. nothing h e;
  named = λ q e. or_first _ (holds_name [] q) (held_behind b.processes new q (stands.named q e));
  made = stands.made;
  live = λ place x e. either_of (process_behind b.processes new place x e) (stands.live place x) (λ same. subst (λ (y : Process). is_live y.state ≡ true) same refl);
  registers = λ place x e. either_of (process_behind b.processes new place x e) (stands.registers place x) (λ same. subst (λ (y : Process). HasGoodRegisters y) same good);
}
  where
    new : Process
    new = first_process s b.held

    nothing : (h : Held) → ◌≡◌ {A = Option Held} None (Some h) → (is_some (get b.names h.name) ≡ true) × (0 < h.holds)
    nothing h e = cc

-- All processes start.

pub record IsBetween (b : Built) : Type 0 where
  pub stands : Stands b
  pub nothing : b.held ≡ []

-- What each start keeps holds once all have started.

abbrev pub SoFar : (Built → Type 0) → Result Built (ℕ × ModuleFault) → Type 0
SoFar P (Ok b) = P b
SoFar P (Err fault) = Unit {0}

-- a start that is not refused keeps it
abbrev pub Keeps : (Built → Type 0) → (Start → Type 0) → Type 0
Keeps P Q = (b : Built) (s : Start) (u : Unit {0}) → start_check s.program ≡ Ok u → Q s → P b → P (with_started (length b.processes + 1) s (with_holdings b (holdings (length b.processes + 1) s)))

within_so_far : (P : Built → Type 0) (pid : ℕ) (s : Start) (b : Built) (t : Bool) → P (with_started pid s b)
    → SoFar P (cond t (Err (pid, NoSegment)) (Ok (with_started pid s b)))
within_so_far P pid s b true h = tt
within_so_far P pid s b false h = h

checked_so_far : (P : Built → Type 0) (Q : Start → Type 0) (most : ℕ) (s : Start) (b : Built) (c : Result (Unit {0}) ModuleFault)
    → start_check s.program ≡ c → Keeps P Q → Q s → P b
    → SoFar P (where_checked (length b.processes + 1) c (within_names most (length b.processes + 1) s (with_holdings b (holdings (length b.processes + 1) s))))
checked_so_far P Q most s b (Err fault) is keeps q p = tt
checked_so_far P Q most s b (Ok u) is keeps q p =
    let c : Built = with_holdings b (holdings (length b.processes + 1) s) in
    within_so_far P (length b.processes + 1) s c (nat_lt most c.next_name) (keeps b s u is q p)

next_so_far : (P : Built → Type 0) (Q : Start → Type 0) (most : ℕ) (r : Result Built (ℕ × ModuleFault)) (s : Start) → Keeps P Q → Q s
    → SoFar P r → SoFar P (next_started most r s)
next_so_far P Q most (Err fault) s keeps q so_far = tt
next_so_far P Q most (Ok b) s keeps q so_far = checked_so_far P Q most s b (start_check s.program) refl keeps q so_far

pub all_so_far : (P : Built → Type 0) (Q : Start → Type 0) (most : ℕ) (starts : List Start) (r : Result Built (ℕ × ModuleFault)) → Keeps P Q
    → All Q starts → SoFar P r → SoFar P (fold (next_started most) r starts)
all_so_far P Q most [] r keeps all so_far = so_far
all_so_far P Q most (s ∷ starts) r keeps all so_far =
    all_so_far P Q most starts (next_started most r s) keeps (All-tail Q s starts all) (next_so_far P Q most r s keeps (All-head Q s starts all) so_far)

-- what holds of the starts holds of the world that they open
pub opened : (R : World → Type 0) (P : Built → Type 0) (reserved : List (ℕ × ℕ)) (script : List Word) (budget : ℕ) (input : List ℕ) (r : Result Built (ℕ × ModuleFault)) (w : World)
    → ((b : Built) → P b → R (world_of reserved script budget input b)) → SoFar P r → where_started reserved script budget input r ≡ Ok w → R w
opened R P reserved script budget input (Err fault) w opens so_far e = absurd (cc)
opened R P reserved script budget input (Ok b) w opens so_far e = subst R (ap world_in e) (opens b so_far)
  where
    world_in : Result World (ℕ × ModuleFault) → World
    world_in (Ok x) = x
    world_in (Err fault) = w

-- Here: who holds what, and registers.

pub free_at_first : (held : Map Held) (hs : List Holding) → held ≡ [] → AreFree held hs
free_at_first held hs none q e = ap (λ (m : Map Held). get m q) none

abbrev pub IsFitProgram : Start → Type 0
IsFitProgram s = s.program.library ≡ false → IsFit s

-- no index of what a process that starts holds is taken, and none is twice
pub apart : (pid : ℕ) (s : Start) (u : Unit {0}) → start_check s.program ≡ Ok u → IsFitProgram s → AreApart (indexes_of (holdings pid s))
apart pid s u is fit = subst AreApart (sym (all_indexes pid s)) (fit (passes s.program u is).program).distinct

pub between_kept : Keeps IsBetween IsFitProgram
between_kept b s u is fit between =
    let pid : ℕ = length b.processes + 1 in
    let c = passes s.program u is in
    let hs = holdings pid s in
    let held = with_holdings b hs in
    record {
      stands = started_stands pid s held (all_stand hs b (apart pid s u is fit) (free_at_first b.held hs between.nothing) between.stands)
          (start_registers b pid s (first_process s held.held) (fit c.program) c refl refl);
      nothing = refl;
    }

pub between_first : IsBetween nothing_built
between_first = record {
  stands = record {
    held = λ place i h e. absurd (cc);
    so_far = λ i h e. absurd (cc);
    named = λ q e. absurd (cc);
    made = λ place number name e. absurd (cc);
    live = λ place p e. absurd (cc);
    registers = λ place p e. absurd (cc);
  };
  nothing = refl;
}

holds_nothing : (held : Map Held) (a : Bool) (q : ℕ) → held ≡ [] → (a || holds_name held q) ≡ true → a ≡ true
unfolding holds_name
holds_nothing held true q none e = refl
holds_nothing held false q none e = let no : false ≡ true = ap (λ (m : Map Held). holds_name m q) (sym none) ∙ e in cc

-- each live name is held
pub named_between : (b : Built) → IsBetween b → (q : ℕ) → is_some (get b.names q) ≡ true → is_held b.processes q ≡ true
named_between b between q e = holds_nothing b.held (is_held b.processes q) q between.nothing (between.stands.named q e)
