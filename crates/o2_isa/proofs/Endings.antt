-- A run that completes ends in a list of changes: writes first, and then bindings of the selectors that it leaves.
use Rattle.std.proofs.Common.{◌≡◌, ap, subst, ℕ, zero, suc, List}
use Rattle.std.specs.Prelude.{Result, Ok, Err}
use Rattle.o2_isa.specs.declared.cpu.Cpu.{Cpu}
use Rattle.o2_isa.specs.declared.cpu.Stop.{Stop}
use Rattle.o2_isa.specs.View.{View, read_of, room_of, probe_of, size_at, rights_at}
use Rattle.o2_isa.specs.Steps.{State, state, Steps, Stops, Ends, Reads, Room, Loads, Sizes, Rights, Change, changed, or_trap, passed, selector, run, ◌>>=◌}
use Rattle.o2_isa.specs.Presence.{IsRow, WritesFirst, SameSelectors, with_binds}

pub record EndsBy (c : Cpu) (v : View) (t : State) : Type 0 where
  pub changes : List Change
  pub first : WritesFirst changes
  pub binds : SameSelectors t.cpu (with_binds changes c)
  pub left : changed changes v ≡ t.view

checked : (P : Type 0) (r : Result ℕ Stop) (f : ℕ → Result State Stop) (t : State) → ((x : ℕ) → f x ≡ Ok t → P) → (r >>= f) ≡ Ok t → P
checked P (Ok x) f t h e = h x e
checked P (Err d) f t h e = cc

pub run_ends : (c : Cpu) (n : ℕ) (p : Steps) (v : View) (t : State) → IsRow c n p → run p v ≡ Ok t → EndsBy c v t
run_ends c n (Stops d) v t row e = cc
run_ends c n (Ends d cs) v t row e = record {
  changes = cs;
  first = row.0;
  binds = subst (λ (z : State). SameSelectors z.cpu (with_binds cs c)) same row.1;
  left = ap (λ (z : State). z.view) same;
}
  where
    state_in : Result State Stop → State
    state_in (Ok s) = s
    state_in (Err d) = t

    same : state d (changed cs v) ≡ t
    same = ap state_in e
run_ends c n (Reads r k w f) v t row e = checked _ (or_trap (read_of v r k w)) (λ x. run (f x) v) t (λ x q. run_ends c n (f x) v t (row x) q) e
run_ends c n (Room r k w p) v t row e = checked _ (or_trap (room_of v r k w)) (λ x. run p v) t (λ x q. run_ends c n p v t row q) e
run_ends c zero (Loads purpose s next p) v t row e = absurd row
run_ends c (suc n) (Loads purpose s next p) v t row e = checked _ (passed next (probe_of v purpose (selector s))) (λ x. run p v) t (λ x q. run_ends c n p v t row q) e
run_ends c n (Sizes s f) v t row e = run_ends c n (f (size_at v s)) v t (row (size_at v s)) e
run_ends c n (Rights s f) v t row e = run_ends c n (f (rights_at v s)) v t (row (rights_at v s)) e
