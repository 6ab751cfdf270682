-- The call by what was gathered of its arguments.
use Rattle.std.proofs.Common.{◌≡◌, inl, inr, ℕ, ◌==◌, ◌||◌, Bool, true, false, cond, List, [], ◌∷◌, ◌++◌, Option, Some, None, ap, sym, ◌∙◌, refl, subst}
use Rattle.std.proofs.lemmas.List.{append-nil}
use Rattle.std.specs.Prelude.{Result, Ok, Err}
use Rattle.o2_base.specs.declared.selector.Selector.{Selector}
use Rattle.o2_isa.specs.declared.cpu.Cpu.{Cpu}
use Rattle.o2_isa.specs.View.{View, Filling, IsBound}
use Rattle.o2_isa.specs.Presence.{IsMissed, is_in}
use Rattle.o2_world.specs.Calls.{Before, argument, has_arguments, row_of, served_by, serviced, trapped}
use Rattle.o2_world.specs.Known.{Known}
use Rattle.o2_world.specs.Outcomes.{CallRow, come_out, served}
use Rattle.o2_world.specs.Slots.{Pointer, are_good, heaps_in, pointers_in, words_in}
use Rattle.o2_world.specs.declared.types.Slot.{Slot}
use Rattle.o2_run.specs.Room.{call_names, heaped, pointed}
use Rattle.o2_run.specs.declared.fault.Fault.{Fault}
use Rattle.o2_gate.specs.declared.given.Gathered.TheVariants.{Trap}
use Rattle.o2_gate.specs.declared.arguments.Arguments.{Arguments}
use Rattle.o2_gate.specs.declared.called.Called.{Called}
use Rattle.o2_gate.specs.declared.called.Called.TheVariants as called
use Rattle.o2_gate.specs.declared.row.Row.{Row}
use Rattle.o2_gate.specs.declared.text.TextArgument.{TextArgument}
use Rattle.o2_gate.specs.Befores.{boundless, before_call}
use Rattle.o2_gate.specs.Called.{OnAsked, OnMissed, OnUndone}
use Rattle.o2_gate.specs.Given.{AreGiven, AreMissed, AreRead, AreSame, Gathers, LacksWords, word_in}
use Rattle.o2_gate.specs.Heaps.{heap_by, heap_names, is_heap_call, selector_of}
use Rattle.o2_gate.specs.Names.{TellsNames}
use Rattle.o2_gate.specs.Pointed.{ArePresent}
use Rattle.o2_gate.specs.Rows.{IsRow, IsRowOf}
use Rattle.o2_gate.proofs.Agree.{names_are, names_few, served_bad, served_few, served_good}
use Rattle.o2_gate.proofs.Heaps.{IsByHeap, by_heap_row}
use Rattle.o2_gate.proofs.Looks.{looks}

pub record HasRow (service : ℕ) (x : Row) : Type 0 where
  pub r : CallRow
  pub is : row_of service ≡ Some r
  pub row : IsRow r x

pub has_row : (service : ℕ) (x : Row) → IsRowOf (row_of service) (Some x) → HasRow service x
has_row service x e = go (row_of service) refl e
  where
    go : (o : Option CallRow) → row_of service ≡ o → IsRowOf o (Some x) → HasRow service x
    go None is e = absurd e
    go (Some r) is e = record { r = r; is = is; row = e }

-- it is that of the service
pub row_is : (x : Row) (service : ℕ) (r : CallRow) → row_of service ≡ Some r → IsRowOf (row_of service) (Some x) → IsRow r x
row_is x service r is e = subst (λ (o : Option CallRow). IsRowOf o (Some x)) is e

pub no_row : (service : ℕ) → IsRowOf (row_of service) None → row_of service ≡ None
no_row service e = go (row_of service) e
  where
    go : (o : Option CallRow) → IsRowOf o None → o ≡ None
    go None e = refl
    go (Some r) e = absurd e

none_named : (v : View) → ArePresent v []
none_named v n e = absurd (let z : false ≡ true = e in cc)

pub no_call : (service next : ℕ) (b : Before) → IsRowOf (row_of service) None → serviced b service next ≡ trapped b 13
no_call service next b e = ap (λ (o : Option CallRow). served_by o b next) (no_row service e)

pub no_names : (v : View) (service : ℕ) (b : Before) → IsRowOf (row_of service) None → ArePresent v (call_names b (row_of service))
no_names v service b e = subst (λ (o : Option CallRow). ArePresent v (call_names b o)) (sym (no_row service e)) (none_named v)

-- a name among the first ones
in_front : (n : ℕ) (xs ys : List ℕ) → is_in n xs ≡ true → is_in n (xs ++ ys) ≡ true
in_front n [] ys e = absurd (let z : false ≡ true = e in cc)
in_front n (x ∷ xs) ys e = go (x == n) (in_front n xs ys) e
  where
    go : (c : Bool) → (is_in n xs ≡ true → is_in n (xs ++ ys) ≡ true) → (c || is_in n xs) ≡ true → (c || is_in n (xs ++ ys)) ≡ true
    go true later e = refl
    go false later e = later e

missed_front : (v : View) (s : Selector) (xs ys : List ℕ) → IsMissed v s xs → IsMissed v s (xs ++ ys)
missed_front v s xs ys m = record { hold = m.hold; found_it = m.found_it; absent = m.absent; whole = m.whole; named = in_front m.hold.name xs ys m.named }

module _ (v : View) (c : Cpu) (service next number : ℕ) (f : Filling) (bound : IsBound v) (input : List ℕ) (known : Known) (x : Row) (e : IsRowOf (row_of service) (Some x)) where
  abbrev b : Before
  b = before_call (boundless f v) number c input known

  abbrev h : HasRow service x
  h = has_row service x e

  is_served : serviced b service next ≡ served h.r b next
  is_served = ap (λ (o : Option CallRow). served_by o b next) h.is

  is_named : call_names b (row_of service) ≡ call_names b (Some h.r)
  is_named = ap (call_names b) h.is

  of_row : (P : List Slot → Type 0) → P x.slots.now → P h.r.slots
  of_row P p = subst P h.row.slots p

  module _ (words : List ℕ) (read_in : AreRead v c x.slots.now words) where
    has : has_arguments b.view b.cpu (words_in h.r.slots) ≡ true
    has = of_row (λ (ss : List Slot). has_arguments b.view b.cpu (words_in ss) ≡ true) (read_in.has f bound)

    same : AreSame (words_in h.r.slots) (argument b.view b.cpu) (word_in words)
    same = of_row (λ (ss : List Slot). AreSame (words_in ss) (argument b.view b.cpu) (word_in words)) (read_in.same f bound)

    abbrev pub pointers : List Pointer
    pointers = pointers_in x.slots.now b.view (word_in words)

    -- the names of its pointers, and where these are good that of its heap
    names_by : call_names b (row_of service) ≡ pointed b.view pointers ++ cond (are_good b.view pointers) (heaped b.view (heaps_in x.slots.now (word_in words))) []
    names_by =
        is_named
        ∙ names_are h.r b next (word_in words) has same
        ∙ ap (λ (ss : List Slot). pointed b.view (pointers_in ss b.view (word_in words)) ++ cond (are_good b.view (pointers_in ss b.view (word_in words))) (heaped b.view (heaps_in ss (word_in words))) []) (sym h.row.slots)

    bad_names : are_good b.view pointers ≡ false → call_names b (row_of service) ≡ pointed b.view pointers
    bad_names bad =
        names_by
        ∙ ap (λ (c : Bool). pointed b.view pointers ++ cond c (heaped b.view (heaps_in x.slots.now (word_in words))) []) bad
        ∙ append-nil (pointed b.view pointers)

    abbrev by_heap : IsByHeap service h.r
    by_heap = by_heap_row service h.r h.is

    heaps_are : (c : Bool) → is_heap_call service ≡ c → heaps_in x.slots.now (word_in words) ≡ cond c (heap_by (selector_of service x.slots.now (word_in words)) ∷ []) []
    heaps_are c is =
        ap (λ (ss : List Slot). heaps_in ss (word_in words)) h.row.slots
        ∙ by_heap.heaps (word_in words)
        ∙ ap (λ (d : Bool). cond d (heap_by (selector_of service h.r.slots (word_in words)) ∷ []) []) is
        ∙ ap (λ (ss : List Slot). cond c (heap_by (selector_of service ss (word_in words)) ∷ []) []) (sym h.row.slots)

    nothing : (c : Bool) → cond {A = List ℕ} c [] [] ≡ []
    nothing true = refl
    nothing false = refl

    pub early_names : is_heap_call service ≡ false → call_names b (row_of service) ≡ pointed b.view pointers
    early_names early =
        names_by
        ∙ ap (λ (hs : List Pointer). pointed b.view pointers ++ cond (are_good b.view pointers) (heaped b.view hs) []) (heaps_are false early)
        ∙ ap (λ (ns : List ℕ). pointed b.view pointers ++ ns) (nothing (are_good b.view pointers))
        ∙ append-nil (pointed b.view pointers)

    pub late_names : is_heap_call service ≡ true → are_good b.view pointers ≡ true
        → call_names b (row_of service) ≡ heap_names b.view x.slots.now (word_in words) (selector_of service x.slots.now (word_in words))
    late_names late good =
        names_by
        ∙ ap (λ (c : Bool). pointed b.view pointers ++ cond c (heaped b.view (heaps_in x.slots.now (word_in words))) []) good
        ∙ ap (λ (hs : List Pointer). pointed b.view pointers ++ heaped b.view hs) (heaps_are true late)

    bad_by : are_good b.view (pointers_in x.slots.now b.view (word_in words)) ≡ false → serviced b service next ≡ trapped b 13
    bad_by bad = is_served ∙ served_bad h.r b next (word_in words) has same (of_row (λ (ss : List Slot). are_good b.view (pointers_in ss b.view (word_in words)) ≡ false) bad)

    good_by : are_good b.view (pointers_in x.slots.now b.view (word_in words)) ≡ true
        → serviced b service next ≡ come_out h.r b next (word_in words) (h.r.outcome b (word_in words))
    good_by good =
        is_served
        ∙ served_good h.r b next (word_in words) has same (looks service h.r h.is)
        (of_row (λ (ss : List Slot). are_good b.view (pointers_in ss b.view (word_in words)) ≡ true) good)

  few_by : LacksWords v c x.slots.now → serviced b service next ≡ trapped b 12
  few_by few = is_served ∙ served_few h.r b next (of_row (λ (ss : List Slot). has_arguments b.view b.cpu (words_in ss) ≡ false) (few f bound))

  -- an exception
  pub trap_is : (vector : ℕ) → Gathers v c x.slots.now (Trap vector) → serviced b service next ≡ trapped b vector
  trap_is vector (inl (is, few)) = few_by few ∙ ap (trapped b) (sym is)
  trap_is vector (inr (is, bad)) = bad_by bad.words bad.read_in (bad.test.good f) ∙ ap (trapped b) (sym is)

  pub trap_names : (vector : ℕ) → Gathers v c x.slots.now (Trap vector) → ArePresent v (call_names b (row_of service))
  trap_names vector (inl (is, few)) =
      subst (ArePresent v) (sym (is_named ∙ names_few h.r b (of_row (λ (ss : List Slot). has_arguments b.view b.cpu (words_in ss) ≡ false) (few f bound)))) (none_named v)
  trap_names vector (inr (is, bad)) = subst (ArePresent v) (sym (bad_names bad.words bad.read_in (bad.test.good f))) (bad.test.names f)

  -- a miss
  pub missed_names : (s : Selector) → AreMissed v c x.slots.now s → IsMissed v s (call_names b (row_of service))
  missed_names s m = subst (IsMissed v s) (sym (names_by m.words m.read_in)) (missed_front v s _ _ (m.test.missed f))

  -- all is good
  module _ (words : List ℕ) (t : TextArgument) (g : AreGiven v c x.slots.now words t) where
    pub good_is : serviced b service next ≡ come_out h.r b next (word_in words) (h.r.outcome b (word_in words))
    good_is = good_by words g.read_in (g.test.good f)

    pub good_names : is_heap_call service ≡ false → ArePresent v (call_names b (row_of service))
    good_names early = subst (ArePresent v) (sym (early_names words g.read_in early)) (g.test.names f)

    pub good_late_names : is_heap_call service ≡ true
        → call_names b (row_of service) ≡ heap_names b.view x.slots.now (word_in words) (selector_of service x.slots.now (word_in words))
    good_late_names late = late_names words g.read_in late (g.test.good f)

-- What is told of a call that is asked for, or where nothing is done yet, tells more.
module _ {P Q : Arguments → Type 0} (more : (a : Arguments) → P a → Q a) where
  pub on_asked : (r : Result Called Fault) → OnAsked r P → OnAsked r Q
  on_asked (Ok (called.Asked a next)) e = more a e
  on_asked (Ok (called.Missed s)) e = tt
  on_asked (Ok (called.Back put)) e = tt
  on_asked (Ok (called.Exited code)) e = tt
  on_asked (Ok (called.Trap vector code)) e = tt
  on_asked (Ok called.Waits) e = tt
  on_asked (Err x) e = tt

module _ {P Q : Type 0} (more : P → Q) where
  pub on_undone : (r : Result Called Fault) → OnUndone r P → OnUndone r Q
  on_undone (Ok (called.Asked a next)) e = more e
  on_undone (Ok (called.Missed s)) e = more e
  on_undone (Ok (called.Back put)) e = tt
  on_undone (Ok (called.Exited code)) e = tt
  on_undone (Ok (called.Trap vector code)) e = tt
  on_undone (Ok called.Waits) e = more e
  on_undone (Err x) e = tt

pub never_missed : (P : Selector → Type 0) (r : Result Called Fault) → OnMissed r (λ s. ⊥) → OnMissed r P
never_missed P (Ok (called.Asked a next)) e = tt
never_missed P (Ok (called.Missed s)) e = absurd e
never_missed P (Ok (called.Back put)) e = tt
never_missed P (Ok (called.Exited code)) e = tt
never_missed P (Ok (called.Trap vector code)) e = tt
never_missed P (Ok called.Waits) e = tt
never_missed P (Err x) e = tt

-- names that are present are told by an answer that isn't a miss
pub tells_present : (v : View) (names : Filling → List ℕ) (r : Result Called Fault) → OnMissed r (λ s. ⊥) → ((f : Filling) → ArePresent v (names f)) → TellsNames v names r
tells_present v names (Ok (called.Asked a next)) e all = all
tells_present v names (Ok (called.Missed s)) e all = absurd e
tells_present v names (Ok (called.Back put)) e all = all
tells_present v names (Ok (called.Exited code)) e all = all
tells_present v names (Ok (called.Trap vector code)) e all = all
tells_present v names (Ok called.Waits) e all = all
tells_present v names (Err x) e all = all

-- the same names
pub tells_same : (v : View) (xs ys : Filling → List ℕ) → ((f : Filling) → ys f ≡ xs f) → (r : Result Called Fault) → TellsNames v xs r → TellsNames v ys r
tells_same v xs ys same (Ok (called.Asked a next)) e = λ f. subst (ArePresent v) (sym (same f)) (e f)
tells_same v xs ys same (Ok (called.Missed s)) e = λ f. subst (IsMissed v s) (sym (same f)) (e f)
tells_same v xs ys same (Ok (called.Back put)) e = λ f. subst (ArePresent v) (sym (same f)) (e f)
tells_same v xs ys same (Ok (called.Exited code)) e = λ f. subst (ArePresent v) (sym (same f)) (e f)
tells_same v xs ys same (Ok (called.Trap vector code)) e = λ f. subst (ArePresent v) (sym (same f)) (e f)
tells_same v xs ys same (Ok called.Waits) e = λ f. subst (ArePresent v) (sym (same f)) (e f)
tells_same v xs ys same (Err x) e = λ f. subst (ArePresent v) (sym (same f)) (e f)

-- nothing is missed or asked for
module _ (r : Result Called Fault) (over : OnUndone r ⊥) where
  pub over_missed : (P : Selector → Type 0) → OnMissed r P
  over_missed P = missed r over
    where
      missed : (r : Result Called Fault) → OnUndone r ⊥ → OnMissed r P
      missed (Ok (called.Asked a next)) e = absurd e
      missed (Ok (called.Missed s)) e = absurd e
      missed (Ok (called.Back put)) e = tt
      missed (Ok (called.Exited code)) e = tt
      missed (Ok (called.Trap vector code)) e = tt
      missed (Ok called.Waits) e = tt
      missed (Err x) e = tt

  pub over_asked : (P : Arguments → Type 0) → OnAsked r P
  over_asked P = asked r over
    where
      asked : (r : Result Called Fault) → OnUndone r ⊥ → OnAsked r P
      asked (Ok (called.Asked a next)) e = absurd e
      asked (Ok (called.Missed s)) e = absurd e
      asked (Ok (called.Back put)) e = tt
      asked (Ok (called.Exited code)) e = tt
      asked (Ok (called.Trap vector code)) e = tt
      asked (Ok called.Waits) e = tt
      asked (Err x) e = tt

  pub over_undone : (P : Type 0) → OnUndone r P
  over_undone P = on_undone (λ (e : ⊥). absurd e) r over
