-- Processes that have started have no more names than the setting allows.
use Rattle.std.proofs.Common.{◌≡◌, ℕ, ◌+◌, ◌≤◌, Bool, true, false, nat_lt, List, [], ◌∷◌, fold, length, Ok, Err, if◌then◌else◌, refl, subst, arith}
use Rattle.std.proofs.lemmas.Bool.Decides.{nat_tests}
use Rattle.std.specs.Prelude.{Result}
use Rattle.o2_base.specs.declared.faults.ModuleFault.{ModuleFault}
use Rattle.o2_base.specs.declared.faults.ModuleFault.TheVariants.{NoSegment}
use Rattle.o2_world.specs.Starts.{Built, Start, all_started, holdings, next_started, nothing_built, start_check, where_checked, with_holdings, with_started, within_names}

-- so it is of a start that isn't refused
abbrev IsFew : ℕ → Result Built (ℕ × ModuleFault) → Type 0
IsFew most (Ok b) = b.next_name ≤ most
IsFew most (Err fault) = Unit {0}

few_within : (most pid : ℕ) (s : Start) (b : Built) → IsFew most (within_names most pid s b)
few_within most pid s b = go (nat_lt most b.next_name) refl
  where
    go : (t : Bool) → nat_lt most b.next_name ≡ t → IsFew most (if t then Err (pid, NoSegment) else Ok (with_started pid s b))
    go true e = tt
    go false e = grind (arith, nat_tests)

few_checked : (most pid : ℕ) (check : Result (Unit {0}) ModuleFault) (r : Result Built (ℕ × ModuleFault)) → IsFew most r → IsFew most (where_checked pid check r)
few_checked most pid (Ok checked) r few = few
few_checked most pid (Err fault) r few = tt

few_next : (most : ℕ) (r : Result Built (ℕ × ModuleFault)) (s : Start) → IsFew most (next_started most r s)
few_next most (Ok b) s = few_checked most (length b.processes + 1) (start_check s.program) _ (few_within most (length b.processes + 1) s (with_holdings b (holdings (length b.processes + 1) s)))
few_next most (Err fault) s = tt

few_all : (most : ℕ) (starts : List Start) (r : Result Built (ℕ × ModuleFault)) → IsFew most r → IsFew most (fold (next_started most) r starts)
few_all most [] r few = few
few_all most (s ∷ starts) r few = few_all most starts (next_started most r s) (few_next most r s)

pub started_few : (most : ℕ) (starts : List Start) (b : Built) → all_started most starts ≡ Ok b → b.next_name ≤ most
unfolding all_started
started_few most starts b e = subst (IsFew most) e (few_all most starts (Ok nothing_built) (omega arith))
