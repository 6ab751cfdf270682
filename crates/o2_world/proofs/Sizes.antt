-- The bytes that a step leaves to a name, before its changes, are as many as before.
use Rattle.std.proofs.Common.{◌≡◌, ℕ, ◌+◌, ◌≤◌, ◌==◌, ◌&&◌, ◌||◌, nat_le, Bool, true, false, not, cond, List, [], ◌∷◌, ◌++◌, length, Option, Some, None, if◌then◌else◌, ap, sym, ◌∙◌, refl, arith, subst}
use Rattle.std.specs.Prelude.{Result, Ok, Err}
use Rattle.std.proofs.lemmas.Grind.{common_steps}
use Rattle.o2_isa.specs.declared.cpu.Stop.{Stop}
use Rattle.o2_isa.specs.declared.cpu.Stop.TheVariants as stop
use Rattle.o2_isa.specs.Parts.{put_part}
use Rattle.o2_isa.specs.View.{View, Hold, is_writable, bound_in}
use Rattle.o2_isa.specs.Pointers.{has_range, is_for_es, put_in}
use Rattle.o2_isa.specs.Steps.{State as Machine, state}
use Rattle.o2_isa.specs.Step.{stepped}
use Rattle.o2_isa.specs.declared.cpu.Outcome.TheVariants as outcome
use Rattle.o2_isa.specs.Sizes.{KeepsLengths}
use Rattle.o2_isa.proofs.Sizes.{stays, behind, stepped_lengths}
use Rattle.o2_world.specs.World.{is_live}
use Rattle.o2_world.specs.CallParts.{Before, Effect, put_at_pointer}
use Rattle.o2_world.specs.Slots.{Pointer, put_all, targets_in}
use Rattle.o2_world.specs.Outcomes.{CallRow, Does, Fails, Waits, Leaves, Outcome, come_out}
use Rattle.o2_world.specs.Calls.{serviced}
use Rattle.o2_world.specs.RowLaws.{AreFitParts, IsFitOutcome, IsLawful, fits_at}
use Rattle.o2_world.specs.Effect.{has_trap_flag, answered, effect}
use Rattle.o2_world.proofs.Lawful.{lawful}
use Rattle.o2_world.proofs.Serving.{by_service}

same_name : (n m : ℕ) → (n == m) ≡ true → n ≡ m
same_name n m e = grind arith

-- The bytes behind a pointer.

put_length : (bytes : List ℕ) (at : ℕ) (part : List ℕ) → at + length part ≤ length bytes → length (put_part bytes at part) ≡ length bytes
put_length bytes at part h = grind (arith, common_steps)

in_range : (a b : Bool) (n m : ℕ) → (a && nat_le n m) ≡ true → n ≤ m
in_range true b n m e = grind arith
in_range false b n m e = absurd (cc)

put_sizes : (f : ℕ → List ℕ) (offset : ℕ) (part : List ℕ) (o : Option Hold) → has_range f is_writable offset (length part) o ≡ true
    → KeepsLengths f (put_in f offset part o)
put_sizes f offset part None e = absurd (cc)
put_sizes f offset part (Some h) e = record { same = λ q. go q (q == h.name) refl }
  where
    within : offset + length part ≤ length (f h.name)
    within = in_range (is_writable h.rights) true (offset + length part) (length (f h.name)) e

    go : (q : ℕ) (b : Bool) → (q == h.name) ≡ b → length (if b then put_part (f q) offset part else f q) ≡ length (f q)
    go q true is = let same = same_name q h.name is in put_length (f q) offset part (subst (λ (n : ℕ). offset + length part ≤ length (f n)) (sym same) within)
    go q false is = refl

nothing_put : (bytes : List ℕ) (at : ℕ) → length (put_part bytes at []) ≡ length bytes
nothing_put bytes at = grind (arith, common_steps)

no_sizes : (f : ℕ → List ℕ) (offset : ℕ) (part : List ℕ) (o : Option Hold) → part ≡ [] → KeepsLengths f (put_in f offset part o)
no_sizes f offset part None e = stays f
no_sizes f offset part (Some h) e = record { same = λ q. go q (q == h.name) }
  where
    go : (q : ℕ) (b : Bool) → length (if b then put_part (f q) offset part else f q) ≡ length (f q)
    go q true = ap (λ (xs : List ℕ). length (put_part (f q) offset xs)) e ∙ nothing_put (f q) offset
    go q false = refl

none_in : (part : List ℕ) → (length part == 0) ≡ true → part ≡ []
none_in [] e = refl
none_in (x ∷ xs) e = absurd (let no : length (x ∷ xs) ≡ 0 = grind arith in omega (arith, no))

or_cases : {P : Type 0} (a b : Bool) → (a || b) ≡ true → (a ≡ true → P) → (b ≡ true → P) → P
or_cases true b e f g = f refl
or_cases false b e f g = g e

right_of : (a b : Bool) → (a && b) ≡ true → b ≡ true
right_of true b e = e
right_of false b e = absurd (cc)

pointer_sizes : (v : View) (f : ℕ → List ℕ) (s offset : ℕ) (part : List ℕ) → fits_at v f s offset (length part) ≡ true
    → KeepsLengths f (put_at_pointer v.held f s offset part)
unfolding put_at_pointer
pointer_sizes v f s offset part e =
    or_cases (length part == 0) _ e (λ none. no_sizes f offset part (bound_in v.held s) (none_in part none))
    (λ good. put_sizes f offset part (bound_in v.held s) (right_of (is_for_es v s) _ good))

-- a pointer that is good is good behind a write that keeps sizes
still_range : (f g : ℕ → List ℕ) (ok : ℕ → Bool) (offset count : ℕ) (o : Option Hold) → KeepsLengths f g
    → has_range f ok offset count o ≡ true → has_range g ok offset count o ≡ true
still_range f g ok offset count None k e = e
still_range f g ok offset count (Some h) k e = ap (λ (n : ℕ). ok h.rights && nat_le (offset + count) n) (k.same h.name) ∙ e

still_writable : (v : View) (f g : ℕ → List ℕ) (s offset count : ℕ) → KeepsLengths f g
    → fits_at v f s offset count ≡ true → fits_at v g s offset count ≡ true
still_writable v f g s offset count k e = go (count == 0) (is_for_es v s) e
  where
    go : (b w : Bool) → (b || (w && has_range f is_writable offset count (bound_in v.held s))) ≡ true
        → (b || (w && has_range g is_writable offset count (bound_in v.held s))) ≡ true
    go true w e = refl
    go false true e = still_range f g is_writable offset count (bound_in v.held s) k e
    go false false e = e

-- Parts that fit.

still_fit : (v : View) (f g : ℕ → List ℕ) → KeepsLengths f g → (ps : List Pointer) (parts : List (List ℕ)) → AreFitParts v f ps parts
    → AreFitParts v g ps parts
still_fit v f g k [] [] fit = tt
still_fit v f g k [] (part ∷ parts) fit = fit
still_fit v f g k (p ∷ ps) [] fit = tt
still_fit v f g k (p ∷ ps) (part ∷ parts) fit = (still_writable v f g p.selector p.offset (length part) k fit.0, still_fit v f g k ps parts fit.1)

pub put_all_sizes : (v : View) (ps : List Pointer) (parts : List (List ℕ)) (f : ℕ → List ℕ) → AreFitParts v f ps parts
    → KeepsLengths f (put_all v.held ps parts f)
put_all_sizes v [] parts f fit = stays f
put_all_sizes v (p ∷ ps) [] f fit = stays f
put_all_sizes v (p ∷ ps) (part ∷ parts) f fit =
    let next = put_at_pointer v.held f p.selector p.offset part in
    let first = pointer_sizes v f p.selector p.offset part fit.0 in
    behind _ _ _ first (put_all_sizes v ps parts next (still_fit v f next first ps parts fit.1))

-- Each row keeps the sizes.

abbrev pub Keeps : Before → Effect → Type 0
Keeps b e = KeepsLengths b.view.bytes e.bytes

come_sizes : (r : CallRow) (b : Before) (next : ℕ) (a : ℕ → ℕ) (o : Outcome) → IsFitOutcome b.view (targets_in r.slots a) o → Keeps b (come_out r b next a o)
come_sizes r b next a (Fails error values) fit = stays b.view.bytes
come_sizes r b next a (Does d) fit = put_all_sizes b.view (targets_in r.slots a) d.parts b.view.bytes fit
come_sizes r b next a Waits fit = stays b.view.bytes
come_sizes r b next a (Leaves action code) fit = stays b.view.bytes

pub serviced_sizes : (service : ℕ) (b : Before) (next : ℕ) → Keeps b (serviced b service next)
serviced_sizes service b next =
    by_service (Keeps b) IsLawful b next lawful (stays b.view.bytes) (stays b.view.bytes)
    (λ r law a good. come_sizes r b next a (r.outcome b a) (law.fits b a good)) service

answered_sizes : (b : Before) (r : Result Machine Stop) → stepped (state b.cpu b.view) ≡ r → Keeps b (answered b r)
answered_sizes b (Ok s) e = stepped_lengths outcome.Done s (state b.cpu b.view) e
answered_sizes b (Err (stop.Trap vector code)) e = stays b.view.bytes
answered_sizes b (Err (stop.Gate service next)) e = serviced_sizes service b next
answered_sizes b (Err (stop.Miss s)) e = stays b.view.bytes

-- a step keeps the size of each name
pub effect_sizes : (b : Before) (q : ℕ) → length ((effect b).bytes q) ≡ length (b.view.bytes q)
unfolding effect
effect_sizes b q = (go (let e = answered b (stepped (state b.cpu b.view)) in has_trap_flag b.cpu.flags && (is_live e.state && not e.waits)) (answered_sizes b (stepped (state b.cpu b.view)) refl)).same q
  where
    go : (t : Bool) → Keeps b (answered b (stepped (state b.cpu b.view)))
        → Keeps b (cond t (record (answered b (stepped (state b.cpu b.view))) {
          state = Rattle.o2_world.specs.declared.types.State.TheVariants.Trapped 1;
          lines =
              (answered b (stepped (state b.cpu b.view))).lines ++ Rattle.o2_world.specs.World.Traps b.number 1 b.cpu.cs b.cpu.ip ∷ [];
        })
        (answered b (stepped (state b.cpu b.view))))
    go true k = k
    go false k = k
