-- The load rules over descriptors are those of the view.
use Rattle.std.proofs.Common.{◌≡◌, inl, inr, ◌+◌, ◌-◌, ◌/◌, ◌%◌, ◌≤◌, refl, sym, ap, subst, ◌∙◌, ℕ, suc, Bool, true, false, not, cond, ◌==◌, ◌||◌, ◌&&◌, List, [], ◌∷◌, length, arith, unwrap_or}
use Rattle.std.specs.Prelude.{Option, Some, None, is_some, option_map}
use Rattle.std.specs.Borrow.{GName}
use Rattle.std.proofs.lemmas.Bool.{cases_lt, false≢true}
use Rattle.o2_entries.specs.declared.Entry.{Entry}
use Rattle.o2_entries.specs.Tables.{slot_at}
use Rattle.o2_base.specs.declared.selector.Selector.{Selector}
use Rattle.o2_desc.specs.declared.descriptor.Descriptor.{Descriptor}
use Rattle.o2_desc.specs.Bits.{is_present, with_present, unmarked}
use Rattle.o2_isa.specs.declared.cpu.Purpose.{Purpose}
use Rattle.o2_isa.specs.declared.cpu.Purpose.TheVariants.{DataReg, StackReg, Jump, Call, Return}
use Rattle.o2_isa.specs.declared.cpu.Loaded.{Loaded}
use Rattle.o2_isa.specs.declared.cpu.Loaded.TheVariants as loaded
use Rattle.o2_isa.specs.View.{View, Hold, is_null, is_local, refused, trap_of, when, called, through_gate, gate_at, load_rules, probe_of, found_in, size_at, rights_at, rights_or_gate, present_hold, present_or_none, is_loadable}
use Rattle.o2_regions.specs.declared.held.Held.{Held}
use Rattle.o2_regions.specs.Maps.{Maps, held_at}
use Rattle.o2_store.specs.Needs.{has_age}
use Rattle.o2_store.specs.Shelf.{Shelf, IsShelf, entry_or, aged}
use Rattle.o2_store.proofs.Tables.{slot-past}
use Rattle.o2_segbus.specs.declared.registers.SegmentRegisters.{SegmentRegisters}
use Rattle.o2_segbus.specs.Settled.{IsSettled}
use Rattle.o2_segbus.specs.Registers.{IsCodeSize}
use Rattle.o2_segbus.specs.Seen.{AreNamed, key_of, number_from, hold_in, hold_of, present_in, present_under, gone_in, gone_under, seen_with, size_in, size_under}
use Rattle.o2_segbus.specs.Bus.{AreInside, AreLoaded, bus_view, IsLoaded}
use Rattle.o2_bus.specs.Loads.{absent_vector, passes_of, tested, tested_there, called_by, rules_of, service_at}
use Rattle.o2_segbus.specs.Words.{named_descriptor, loaded_descriptor, target_of, is_gone, gone_held, gone_named, rights_by}
use Rattle.o2_segbus.proofs.Bits.{readable_by, writable_by, code_by, present_by, shown_by}
use Rattle.o2_segbus.proofs.Holds.{IsPart, part_is, Matches, HasHold, found_is, matched, loaded_is}

-- a view that shows what is in memory, and what was discarded
record Shows (s : Shelf) (v : View) : Type 0 where
  present : v.present ≡ present_in s
  discarded : v.discarded ≡ gone_in s

-- what was discarded isn't in memory
pub gone_out : (s : Shelf) (name : ℕ) → IsShelf s → gone_in s name ≡ true → present_in s name ≡ false
gone_out s name h gone = go (key_of s name) gone
  where
    go : (o : Option ℕ) → gone_under s o ≡ true → present_under s o ≡ false
    go None q = absurd (false≢true q)
    go (Some k) q = elim (cases_lt k (length s.entries)) [
      | inl l ↦ ap is_some ((h.each k l).gone q).out
      | inr past ↦ absurd (false≢true (sym (ap (λ (o : Option Entry). (entry_or o).attr.gone) (slot-past s.entries k past)) ∙ q))
    ]

-- what is known of a hold: whether its segment was discarded, which one in memory isn't
abbrev IsTold : Shelf → Bool → Option Hold → Type 0
IsTold s gone None = Unit {0}
IsTold s gone (Some h) = (gone ≡ gone_in s h.name) × (gone_in s h.name ≡ true → present_in s h.name ≡ false)

-- the mark of a load's target, by its descriptor
mark_is : (present gone : Bool) → (gone ≡ true → present ≡ false) → (not present && gone) ≡ gone
mark_is true true f = absurd (false≢true (sym (f refl)))
mark_is true false f = refl
mark_is false gone f = refl

entry_aged : (o : Option Entry) (age : ℕ) → has_age o age ≡ true → is_gone (aged age o) ≡ (entry_or o).attr.gone
entry_aged None age e = absurd (false≢true e)
entry_aged (Some x) age e = ap (λ (b : Bool). is_gone (cond b (Some x) None)) e

-- a number that was found has this age
number_has : (age : ℕ) (es : List (Option Entry)) (b k : ℕ) → number_from age es b ≡ Some k → (b ≤ k) × (has_age (slot_at es (k - b)) age ≡ true)
number_has age [] b k e = absurd cc
number_has age (o ∷ es) b k e = go (λ q. number_has age es (b + 1) k q) (has_age o age) refl e
  where
    go : (number_from age es (b + 1) ≡ Some k → (b + 1 ≤ k) × (has_age (slot_at es (k - (b + 1))) age ≡ true)) → (t : Bool) → has_age o age ≡ t
        → cond t (Some b) (number_from age es (b + 1)) ≡ Some k → (b ≤ k) × (has_age (slot_at (o ∷ es) (k - b)) age ≡ true)
    go rest true h q =
        let same : b ≡ k = ap (λ (z : Option ℕ). unwrap_or z 0) q in
        let zero_is : k - b ≡ 0 = omega (arith, same) in
        (omega (arith, same), ap (λ (j : ℕ). has_age (slot_at (o ∷ es) j) age) zero_is ∙ h)
    go rest false h q =
        let later = rest q in
        let low = later.0 in
        let next : k - b ≡ suc (k - (b + 1)) = omega (arith, low) in
        (omega (arith, low), ap (λ (j : ℕ). has_age (slot_at (o ∷ es) j) age) next ∙ later.1)

key_has : (s : Shelf) (name k : ℕ) → key_of s name ≡ Some k → has_age (slot_at s.entries k) name ≡ true
unfolding key_of
key_has s name k e = let here : k - 0 ≡ k = omega arith in subst (λ (j : ℕ). has_age (slot_at s.entries j) name ≡ true) here (number_has name s.entries 0 k e).1

-- what a selector names was discarded by the store as by the view
told_of : (s : Shelf) (m : Maps) (pid sel : ℕ) → IsShelf s → AreNamed s m → IsTold s (gone_named s m pid sel) (found_in (hold_in m pid) sel)
told_of s m pid sel h n = subst (λ (o : Option Hold). IsTold s (gone_named s m pid sel) o) (sym (found_is m pid sel)) (go (is_local sel) (held_at m pid (sel / 8)) refl)
  where
    go : (b : Bool) (o : Option Held) → held_at m pid (sel / 8) ≡ o → IsTold s (cond b (gone_held s o) false) (option_map (hold_of m pid (sel / 8)) (cond b o None))
    go true None e = tt
    go false o e = tt
    go true (Some x) e =
        let named = n pid (sel / 8) x e in
        (entry_aged (slot_at s.entries x.id.key) x.id.age (key_has s x.id.age x.id.key named) ∙ sym (ap (gone_under s) named), gone_out s x.id.age h)

-- a test of an access byte that asks for the rights alone
abbrev AsksRights : (ℕ → Bool) → Type 0
AsksRights ok = (a rights : ℕ) (p : Bool) → unmarked a ≡ with_present rights p → ok a ≡ ok rights

tested_hold : (s : Shelf) (v : View) (p : Purpose) (sel : ℕ) (g : Bool) (d : Descriptor) (h : Hold) → Shows s v → AsksRights (passes_of p) → HasHold s d h → IsTold s g (Some h)
    → tested p sel (Some (target_of g d)) ≡ when v (absent_vector p) sel (passes_of p) (Some h)
tested_hold s v p sel g d h w f q told =
    let there : is_present d.access ≡ present_in s h.name = present_by d.access h.rights (present_in s h.name) q.access in
    let mark : (not (is_present d.access) && g) ≡ gone_in s h.name =
    ap (λ (x : Bool). not (is_present d.access) && x) told.0 ∙ (ap (λ (x : Bool). not x && gone_in s h.name) there ∙ mark_is (present_in s h.name) (gone_in s h.name) told.1) in
    ap (λ (b : Bool). cond b (tested_there p sel (target_of g d)) (refused sel)) (f d.access h.rights (present_in s h.name) q.access)
    ∙ (ap (λ (b : Bool). cond (passes_of p h.rights) (cond b (trap_of (absent_vector p) sel) (cond (is_present d.access) loaded.Done (loaded.Miss (record { 0 = sel })))) (refused sel)) mark
    ∙ (ap (λ (b : Bool). cond (passes_of p h.rights) (cond (gone_in s h.name) (trap_of (absent_vector p) sel) (cond b loaded.Done (loaded.Miss (record { 0 = sel })))) (refused sel)) there
    ∙ (ap (λ (z : ℕ → Bool). cond (passes_of p h.rights) (cond (gone_in s h.name) (trap_of (absent_vector p) sel) (cond (z h.name) loaded.Done (loaded.Miss (record { 0 = sel })))) (refused sel)) (sym w.present)
    ∙ ap (λ (z : ℕ → Bool). cond (passes_of p h.rights) (cond (z h.name) (trap_of (absent_vector p) sel) (cond (v.present h.name) loaded.Done (loaded.Miss (record { 0 = sel })))) (refused sel)) (sym w.discarded))))

tested_when : (s : Shelf) (v : View) (p : Purpose) (sel : ℕ) (g : Bool) (d : Option Descriptor) (h : Option Hold) → Shows s v → AsksRights (passes_of p) → Matches s d h → IsTold s g h
    → tested p sel (option_map (target_of g) d) ≡ when v (absent_vector p) sel (passes_of p) h
tested_when s v p sel g None None w f q told = refl
tested_when s v p sel g None (Some h) w f q told = absurd q
tested_when s v p sel g (Some d) None w f q told = absurd q
tested_when s v p sel g (Some d) (Some h) w f q told = tested_hold s v p sel g d h w f q told

called_when : (s : Shelf) (v : View) (sel : ℕ) (g : Bool) (d : Option Descriptor) (h : Option Hold) → Shows s v → service_at sel ≡ gate_at v sel → Matches s d h → IsTold s g h → called_by sel (option_map (target_of g) d) ≡ called v sel h
called_when s v sel g None None w gate q told = ap (through_gate sel) gate
called_when s v sel g None (Some h) w gate q told = absurd q
called_when s v sel g (Some d) None w gate q told = absurd q
called_when s v sel g (Some d) (Some h) w gate q told = tested_hold s v Call sel g d h w code_by q told

guard : (b : Bool) (x y z : Loaded) → y ≡ z → cond b x y ≡ cond b x z
guard b x y z e = ap (λ (q : Loaded). cond b x q) e

guard_then : (b : Bool) (x y z : Loaded) → y ≡ z → cond b y x ≡ cond b z x
guard_then b x y z e = ap (λ (q : Loaded). cond b q x) e

ruled : (s : Shelf) (v : View) (p : Purpose) (sel : ℕ) (g : Bool) (d : Option Descriptor) (h : Option Hold) → Shows s v → service_at sel ≡ gate_at v sel → Matches s d h → IsTold s g h
    → rules_of p sel (option_map (target_of g) d) ≡ load_rules v p sel h
ruled s v DataReg sel g d h w gate q told = guard (is_null sel) _ _ _ (tested_when s v DataReg sel g d h w readable_by q told)
ruled s v StackReg sel g d h w gate q told = guard (is_null sel) _ _ _ (guard_then (sel % 4 == 3) _ _ _ (tested_when s v StackReg sel g d h w writable_by q told))
ruled s v Jump sel g d h w gate q told = guard (is_null sel) _ _ _ (tested_when s v Jump sel g d h w code_by q told)
ruled s v Call sel g d h w gate q told = guard (is_null sel) _ _ _ (called_when s v sel g d h w gate q told)
ruled s v Return sel g d h w gate q told = guard (is_null sel) _ _ _ (guard_then (sel % 4 == 3) _ _ _ (tested_when s v Return sel g d h w code_by q told))

pub probe_view : (g t : GName) (s : Shelf) (m : Maps) (pid : ℕ) (x : SegmentRegisters) (p : Purpose) (sel : Selector) → IsShelf s → AreNamed s m → IsSettled s m
    → rules_of p sel.0 (option_map (target_of (gone_named s m pid sel.0)) (named_descriptor m pid sel.0)) ≡ probe_of (bus_view g t s m pid x) p sel
unfolding probe_of bus_view seen_with
probe_view g t s m pid x p sel h n q =
    ruled s (bus_view g t s m pid x) p sel.0 (gone_named s m pid sel.0) (named_descriptor m pid sel.0) (found_in (hold_in m pid) sel.0) (record { present = refl; discarded = refl }) refl (matched s m pid sel.0 n q) (told_of s m pid sel.0 h n)

sized : (s : Shelf) (v : View) (d : Option Descriptor) (h : Option Hold) → ((y : Descriptor) (k : Hold) → HasHold s y k → y.limit + 1 ≡ v.size k.name) → Matches s d h → option_map (λ (y : Descriptor). y.limit + 1) d ≡ option_map (λ (k : Hold). v.size k.name) h
sized s v None None f q = refl
sized s v None (Some h) f q = absurd q
sized s v (Some d) None f q = absurd q
sized s v (Some d) (Some h) f q = ap Some (f d h q)

pub size_view : (g t : GName) (s : Shelf) (m : Maps) (pid : ℕ) (x : SegmentRegisters) (sel : ℕ) → AreNamed s m → IsSettled s m
    → option_map (λ (y : Descriptor). y.limit + 1) (named_descriptor m pid sel) ≡ size_at (bus_view g t s m pid x) sel
unfolding size_at bus_view seen_with
size_view g t s m pid x sel n q = sized s (bus_view g t s m pid x) (named_descriptor m pid sel) (found_in (hold_in m pid) sel) (λ y k e. e.size) (matched s m pid sel n q)

-- the size of the segment in CS, by its hidden part
pub code_size_view : (g t : GName) (s : Shelf) (m : Maps) (pid : ℕ) (x : SegmentRegisters) (sel size : ℕ) → AreInside s → AreNamed s m → AreLoaded s m pid x → IsCodeSize x sel size
    → Some size ≡ size_at (bus_view g t s m pid x) sel
unfolding size_at bus_view seen_with
code_size_view g t s m pid x sel size i n l c =
    ap Some c.size ∙ subst (λ (k : ℕ). Some (x.cs.descriptor.limit + 1) ≡ option_map (λ (h : Hold). size_in s h.name) (found_in (hold_in m pid) k)) (sym c.selector)
    (go (is_null x.cs.selector) (found_in (hold_in m pid) x.cs.selector) (part_is s m pid x.cs i n l.cs))
  where
    go : (b : Bool) (o : Option Hold) → IsPart s x.cs.descriptor (cond b None o) → Some (x.cs.descriptor.limit + 1) ≡ option_map (λ (h : Hold). size_in s h.name) o
    go true o q = absurd (false≢true (subst (λ (a : ℕ). is_present a ≡ true) q c.present))
    go false None q = absurd (false≢true (subst (λ (a : ℕ). is_present a ≡ true) q c.present))
    go false (Some h) q = ap Some (q.size ∙ sym (ap (size_under s) q.named))

rights : (s : Shelf) (d : Option Descriptor) (h : Option Hold) (k : Option ℕ) → Matches s d h → rights_by d k ≡ rights_or_gate h k
rights s None None None q = refl
rights s None None (Some k) q = refl
rights s None (Some h) k q = absurd q
rights s (Some d) None k q = absurd q
rights s (Some d) (Some h) k q = ap Some (shown_by d.access h.rights _ q.access)

pub rights_view : (g t : GName) (s : Shelf) (m : Maps) (pid : ℕ) (x : SegmentRegisters) (sel : ℕ) → AreNamed s m → IsSettled s m
    → rights_by (named_descriptor m pid sel) (service_at sel) ≡ rights_at (bus_view g t s m pid x) sel
unfolding rights_at bus_view seen_with
rights_view g t s m pid x sel n q = rights s (named_descriptor m pid sel) (found_in (hold_in m pid) sel) (service_at sel) (matched s m pid sel n q)

-- what may be loaded is null or in memory
loadable_bound : (f : ℕ → Bool) (v : View) (b : Bool) (o : Option Hold) → v.present ≡ f → (b || present_hold v o) ≡ true → present_or_none f (cond b None o) ≡ true
loadable_bound f v true o e l = refl
loadable_bound f v false None e l = refl
loadable_bound f v false (Some h) e l = ap (λ (z : ℕ → Bool). z h.name) (sym e) ∙ l

pub load_loads : (g t : GName) (s : Shelf) (m : Maps) (pid : ℕ) (x : SegmentRegisters) (sel : Selector) → AreNamed s m → IsSettled s m → is_loadable (bus_view g t s m pid x) sel ≡ true
    → IsLoaded s m pid (record { selector = sel.0; descriptor = loaded_descriptor m pid sel.0 })
unfolding is_loadable bus_view seen_with
load_loads g t s m pid x sel n q l = loaded_is s m pid sel.0 n q (loadable_bound (present_in s) (bus_view g t s m pid x) (is_null sel.0) (found_in (hold_in m pid) sel.0) refl l)

-- what may be loaded is null or held
held_or_null : (v : View) (b : Bool) (o : Option Hold) → (b || present_hold v o) ≡ true → b ≡ false → (h : Hold) × (o ≡ Some h)
held_or_null v true o l e = absurd (false≢true (sym e))
held_or_null v false None l e = absurd (false≢true l)
held_or_null v false (Some h) l e = (h, refl)

pub load_held : (g t : GName) (s : Shelf) (m : Maps) (pid : ℕ) (x : SegmentRegisters) (sel : Selector) → is_loadable (bus_view g t s m pid x) sel ≡ true → is_null sel.0 ≡ false
    → (h : Hold) × (found_in (hold_in m pid) sel.0 ≡ Some h)
unfolding is_loadable bus_view seen_with
load_held g t s m pid x sel l e = held_or_null (bus_view g t s m pid x) (is_null sel.0) (found_in (hold_in m pid) sel.0) l e
