-- A run has as many processes as starts.
use Rattle.std.proofs.Common.{◌≡◌, refl, sym, ◌∙◌, ap, ℕ, zero, suc, ◌+◌, ◌<◌, Bool, true, false, cond, List, [], ◌∷◌, ◌++◌, length, arith}
use Rattle.std.specs.Prelude.{Option, Some, None, Result, Ok, Err, fold, nat_lt, slice_get}
use Rattle.o2_base.specs.declared.faults.ModuleFault.{ModuleFault}
use Rattle.o2_base.specs.declared.faults.ModuleFault.TheVariants.{NoSegment}
use Rattle.o2_conf.specs.declared.script.Word.{Word}
use Rattle.o2_world.specs.World.{Process, World}
use Rattle.o2_world.specs.World.{Setting as RunSetting}
use Rattle.o2_world.specs.Starts.{Built, Holding, Start, all_started, holdings, holds_as, name_in, next_started, nothing_built, opening_of, start_check, started_as, where_checked, where_started, with_holding, with_holdings, with_started, within_names}

one_more : (xs : List Process) (x : Process) → length (xs ++ x ∷ []) ≡ length xs + 1
one_more [] x = omega arith
one_more (y ∷ xs) x = let ih = one_more xs x in omega (arith, ih)

same_processes : (hs : List Holding) (b : Built) → (with_holdings b hs).processes ≡ b.processes
same_processes [] b = refl
same_processes (h ∷ hs) b = same_processes hs (with_holding b h) ∙ one (cond h.common (name_in b.made h.place h.number) None)
  where
    one : (o : Option ℕ) → (holds_as b h o).processes ≡ b.processes
    one (Some name) = refl
    one None = refl

one_started : (most pid : ℕ) (s : Start) (b next : Built) → started_as most pid s b ≡ Ok next → length next.processes ≡ length b.processes + 1
one_started most pid s b next = by_check (start_check s.program)
  where
    c : Built
    c = with_holdings b (holdings pid s)

    built_in : Result Built (ℕ × ModuleFault) → Built
    built_in (Ok x) = x
    built_in (Err fault) = next

    by_room : (t : Bool) → cond {A = Result Built (ℕ × ModuleFault)} t (Err (pid, NoSegment)) (Ok (with_started pid s c)) ≡ Ok next → length next.processes ≡ length b.processes + 1
    by_room true e = absurd (cc)
    by_room false e =
        ap (λ (x : Built). length x.processes) (sym (ap built_in e)) ∙ (one_more c.processes _ ∙ ap (λ (ps : List Process). length ps + 1) (same_processes (holdings pid s) b))

    by_check : (r : Result (Unit {0}) ModuleFault) → where_checked pid r (within_names most pid s c) ≡ Ok next → length next.processes ≡ length b.processes + 1
    by_check (Err fault) e = absurd (cc)
    by_check (Ok u) e = by_room (nat_lt most c.next_name) e

refused_stays : (most : ℕ) (starts : List Start) (fault : ℕ × ModuleFault) (last : Built) → fold (next_started most) (Err fault) starts ≡ Ok last → ⊥
refused_stays most [] fault last e = cc
refused_stays most (s ∷ starts) fault last e = refused_stays most starts fault last e

all_counted : (most : ℕ) (starts : List Start) (b last : Built) → fold (next_started most) (Ok b) starts ≡ Ok last → length last.processes ≡ length b.processes + length starts
all_counted most [] b last e = is e
  where
    built_in : Result Built (ℕ × ModuleFault) → Built
    built_in (Ok x) = x
    built_in (Err fault) = last

    is : ◌≡◌ {A = Result Built (ℕ × ModuleFault)} (Ok b) (Ok last) → length last.processes ≡ length b.processes + 0
    is e = let same : length b.processes ≡ length last.processes = ap (λ (x : Built). length x.processes) (ap built_in e) in omega (arith, same)
all_counted most (s ∷ starts) b last e = by_start (started_as most (length b.processes + 1) s b) refl (λ next f. all_counted most starts next last f) e
  where
    by_start : (r : Result Built (ℕ × ModuleFault)) → started_as most (length b.processes + 1) s b ≡ r
        → ((next : Built) → fold (next_started most) (Ok next) starts ≡ Ok last → length last.processes ≡ length next.processes + length starts)
        → fold (next_started most) r starts ≡ Ok last → length last.processes ≡ length b.processes + suc (length starts)
    by_start (Err fault) is later f = absurd (refused_stays most starts fault last f)
    by_start (Ok next) is later f =
        let one = one_started most (length b.processes + 1) s b next is in
        let rest = later next f in
        omega (arith, one, rest)

pub opened_count : (s : RunSetting) (reserved : List (ℕ × ℕ)) (script : List Word) (input : List ℕ) (starts : List Start) (w : World) → opening_of s reserved script input starts ≡ Ok w
    → length w.processes ≡ length starts
unfolding all_started
opened_count s reserved script input starts w = by_all (fold (next_started s.segments) (Ok nothing_built) starts) refl
  where
    world_in : Result World (ℕ × ModuleFault) → World
    world_in (Ok x) = x
    world_in (Err fault) = w

    by_all : (r : Result Built (ℕ × ModuleFault)) → fold (next_started s.segments) (Ok nothing_built) starts ≡ r → where_started reserved script s.budget input r ≡ Ok w → length w.processes ≡ length starts
    by_all (Err fault) is e = absurd (cc)
    by_all (Ok b) is e =
        let all = all_counted s.segments starts nothing_built b is in
        let same : length b.processes ≡ length w.processes = ap (λ (x : World). length x.processes) (ap world_in e) in
        omega (arith, all, same)

-- the start of each process
pub start_at : (starts : List Start) (k : ℕ) → k < length starts → (start : Start) × (slice_get starts k ≡ Some start)
start_at [] k low = absurd (omega (arith, low))
start_at (s ∷ starts) zero low = (s, refl)
start_at (s ∷ starts) (suc k) low = start_at starts k (omega (arith, low))
