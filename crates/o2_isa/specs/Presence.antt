-- The bus's view, with present marks, and the whole one: a run over either, the names that a run loads, and what each row of
-- meanings keeps.
use Rattle.std.specs.Prelude.{◌≡◌, ℕ, zero, suc, Bool, true, false, ◌==◌, List, [], ◌∷◌, ◌++◌, Option, Some, None, Result, Ok, Err}
use Rattle.std.specs.List.{list_any}
use Rattle.o2_base.specs.declared.selector.Selector.{Selector}
use Rattle.o2_isa.specs.declared.cpu.Cpu.{Cpu}
use Rattle.o2_isa.specs.declared.cpu.Stop.{Stop}
use Rattle.o2_isa.specs.declared.cpu.Stop.TheVariants as stop
use Rattle.o2_isa.specs.View.{View, Hold, Rest, Hidden, Filling, whole, found, read_of, room_of, probe_of, size_at, rights_at}
use Rattle.o2_isa.specs.Registers.{with_sreg}
use Rattle.o2_isa.specs.Steps.{State, state, Steps, Stops, Ends, Reads, Room, Loads, Sizes, Rights, Change, Bind, Write, Copy, or_trap, passed, selector}

abbrev pub whole_state : Filling → State → State
whole_state h s = state s.cpu (whole h s.view)

-- what the whole view's run gives where the bus's gave the first: the same, unless it missed
abbrev pub AsWhole : Filling → Result State Stop → Result State Stop → Type 0
AsWhole h (Ok s) r = r ≡ Ok (whole_state h s)
AsWhole h (Err (stop.Miss s)) r = Unit {0}
AsWhole h (Err (stop.Trap vector code)) r = r ≡ Err (stop.Trap vector code)
AsWhole h (Err (stop.Gate service next)) r = r ≡ Err (stop.Gate service next)

-- the same view with other parts that no instruction sees
abbrev pub with_unseen : Rest → Hidden → View → View
with_unseen r h v = record v { rest = r; hidden = h }

abbrev pub unseen : Rest → Hidden → State → State
unseen r h s = state s.cpu (with_unseen r h s.view)

abbrev pub unseen_result : Rest → Hidden → Result State Stop → Result State Stop
unseen_result r h (Ok s) = Ok (unseen r h s)
unseen_result r h (Err e) = Err e

abbrev pub names_after : Result ℕ Stop → (ℕ → List ℕ) → List ℕ
names_after (Ok x) f = f x
names_after (Err e) f = []

abbrev pub hold_name : Option Hold → List ℕ
hold_name None = []
hold_name (Some h) = h.name ∷ []

-- the names that a run loads, in order, up to its end or its first refusal
abbrev pub loaded_names : Steps → View → List ℕ
loaded_names (Stops e) v = []
loaded_names (Ends c cs) v = []
loaded_names (Reads r k w f) v = names_after (or_trap (read_of v r k w)) (λ x. loaded_names (f x) v)
loaded_names (Room r k w p) v = names_after (or_trap (room_of v r k w)) (λ _. loaded_names p v)
loaded_names (Loads purpose s next p) v = names_after (passed next (probe_of v purpose (selector s))) (λ _. hold_name (found v s) ++ loaded_names p v)
loaded_names (Sizes s f) v = loaded_names (f (size_at v s)) v
loaded_names (Rights s f) v = loaded_names (f (rights_at v s)) v

abbrev pub is_in : ℕ → List ℕ → Bool
is_in n ns = list_any (λ m. m == n) ns

-- the selector's name is not present, isn't discarded, and is one of those that the step loads
pub record IsMissed (v : View) (s : Selector) (names : List ℕ) : Type 0 where
  pub hold : Hold
  pub found_it : found v s.0 ≡ Some hold
  pub absent : v.present hold.name ≡ false
  pub whole : v.discarded hold.name ≡ false
  pub named : is_in hold.name names ≡ true

-- all writes come before the first binding
abbrev pub OnlyBinds : List Change → Type 0
OnlyBinds [] = Unit {0}
OnlyBinds (Bind r s ∷ cs) = OnlyBinds cs
OnlyBinds (Write r k w x ∷ cs) = ⊥
OnlyBinds (Copy r a b ∷ cs) = ⊥

abbrev pub WritesFirst : List Change → Type 0
WritesFirst [] = Unit {0}
WritesFirst (Bind r s ∷ cs) = OnlyBinds cs
WritesFirst (Write r k w x ∷ cs) = WritesFirst cs
WritesFirst (Copy r a b ∷ cs) = WritesFirst cs

-- the registers with the selectors that the changes bind
abbrev pub with_binds : List Change → Cpu → Cpu
with_binds [] c = c
with_binds (Bind r s ∷ cs) c = with_binds cs (with_sreg c r s)
with_binds (Write r k w x ∷ cs) c = with_binds cs c
with_binds (Copy r a b ∷ cs) c = with_binds cs c

pub record SameSelectors (c d : Cpu) : Type 0 where
  pub es : c.es ≡ d.es
  pub cs : c.cs ≡ d.cs
  pub ss : c.ss ≡ d.ss
  pub ds : c.ds ≡ d.ds

-- a row of meanings over these registers: it neither misses nor calls a service by itself, its writes come before its bindings, its bindings are
-- the selectors that it leaves, and it has so many loads at most
abbrev pub IsRow : Cpu → ℕ → Steps → Type 0
IsRow c n (Stops (stop.Miss s)) = ⊥
IsRow c n (Stops (stop.Gate service next)) = ⊥
IsRow c n (Stops _) = Unit {0}
IsRow c n (Ends d cs) = WritesFirst cs × SameSelectors d (with_binds cs c)
IsRow c n (Reads r k w f) = (x : ℕ) → IsRow c n (f x)
IsRow c n (Room r k w p) = IsRow c n p
IsRow c zero (Loads purpose s next p) = ⊥
IsRow c (suc n) (Loads purpose s next p) = IsRow c n p
IsRow c n (Sizes s f) = (o : Option ℕ) → IsRow c n (f o)
IsRow c n (Rights s f) = (o : Option ℕ) → IsRow c n (f o)
