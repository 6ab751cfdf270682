-- What steps bind passed the load rules of its register: the predicate over steps, its parts, and what it says of a run.
use Rattle.std.proofs.Common.{◌++◌, ◌||◌, ◌≡◌, ◌⊎◌, ◌∙◌, refl, sym, subst, ap, inl, inr, ℕ, zero, suc, ◌%◌, Bool, true, false, cond, ◌==◌, arith, List, [], ◌∷◌}
use Rattle.std.specs.Prelude.{Option, Some, None, Result, Ok, Err, nat_lt}
use Rattle.o2_isa.specs.declared.instr.Width.{Width}
use Rattle.o2_isa.specs.declared.instr.Arg.{Arg}
use Rattle.o2_isa.specs.declared.instr.Arg.TheVariants as arg
use Rattle.o2_isa.specs.declared.instr.Sreg.{Sreg}
use Rattle.o2_isa.specs.declared.instr.Sreg.TheVariants.{Es, Cs, Ss, Ds}
use Rattle.o2_isa.specs.declared.cpu.Cpu.{Cpu}
use Rattle.o2_isa.specs.declared.cpu.Purpose.{Purpose}
use Rattle.o2_isa.specs.declared.cpu.Purpose.TheVariants.{Jump, Call, Return}
use Rattle.o2_isa.specs.declared.cpu.Loaded.{Loaded}
use Rattle.o2_isa.specs.declared.cpu.Loaded.TheVariants as loaded
use Rattle.o2_isa.specs.declared.cpu.Stop.{Stop}
use Rattle.o2_isa.specs.declared.cpu.Stop.TheVariants as stop
use Rattle.o2_isa.specs.View.{View, Hold, is_null, ring3, is_code, found, when, here, called, through_gate, gate_at, refused, trap_of, read_of, room_of, probe_of, size_at, rights_at}
use Rattle.o2_isa.specs.Registers.{sreg, with_sreg}
use Rattle.o2_isa.specs.Steps.{State, state, Steps, Stops, Ends, Reads, Room, Loads, Sizes, Rights, Change, Bind, Write, Copy, changed, or_trap, passed, selector, run, valued, pair_valued, storing, within, in_size, ◌>>=◌}
use Rattle.o2_isa.specs.Presence.{IsRow, SameSelectors, with_binds, loaded_names, names_after, hold_name, is_in}
use Rattle.o2_isa.specs.SegmentLoads.{Passes, IsNamed, rules_for}
use Rattle.o2_isa.proofs.Loads.{null_ring3, found_ring3}

-- a view, and names that hold what passes
pub record Ground : Type 0 where
  pub view : View
  pub names : List ℕ

abbrev pub IsGranted : Ground → Purpose → ℕ → Type 0
IsGranted g purpose s = Passes g.view purpose s × IsNamed g.view g.names s

abbrev pub AreBacked : Ground → List Change → Type 0
AreBacked v [] = Unit {0}
AreBacked v (Bind r s ∷ cs) = IsGranted v (rules_for r) s × AreBacked v cs
AreBacked v (Write r k w x ∷ cs) = AreBacked v cs
AreBacked v (Copy r a b ∷ cs) = AreBacked v cs

-- each selector that the steps bind passed the load rules of its register
abbrev pub IsBacked : Ground → Steps → Type 0
IsBacked v (Stops e) = Unit {0}
IsBacked v (Ends c cs) = AreBacked v cs
IsBacked v (Reads r k w f) = (x : ℕ) → IsBacked v (f x)
IsBacked v (Room r k w p) = IsBacked v p
IsBacked v (Loads purpose s next p) = IsGranted v purpose s → IsBacked v p
IsBacked v (Sizes s f) = (o : Option ℕ) → IsBacked v (f o)
IsBacked v (Rights s f) = (o : Option ℕ) → IsBacked v (f o)

-- The parts of rows.

pub either_backed : (v : Ground) (b : Bool) (p q : Steps) → IsBacked v p → IsBacked v q → IsBacked v (cond b p q)
either_backed v true p q h k = h
either_backed v false p q h k = k

pub valued_backed : (v : Ground) (c : Cpu) (w : Width) (a : Arg) (f : ℕ → Steps) → ((x : ℕ) → IsBacked v (f x)) → IsBacked v (valued c w a f)
unfolding valued
valued_backed v c w (arg.R8 k) f h = h _
valued_backed v c w (arg.R16 k) f h = h _
valued_backed v c w (arg.S r) f h = h _
valued_backed v c w (arg.M ea) f h = h
valued_backed v c w (arg.Imm k) f h = h _
valued_backed v c w arg.No f h = h _
valued_backed v c w (arg.Far o t) f h = h _

pub pair_backed : (v : Ground) (c : Cpu) (a : Arg) (f : ℕ → ℕ → Steps) → ((x y : ℕ) → IsBacked v (f x y)) → IsBacked v (pair_valued c a f)
unfolding pair_valued
pair_backed v c (arg.R8 k) f h = h 0 0
pair_backed v c (arg.R16 k) f h = h 0 0
pair_backed v c (arg.S r) f h = h 0 0
pair_backed v c (arg.M ea) f h = h
pair_backed v c (arg.Imm k) f h = h 0 0
pair_backed v c arg.No f h = h 0 0
pair_backed v c (arg.Far o t) f h = h o t

pub storing_backed : (v : Ground) (c : Cpu) (w : Width) (a : Arg) (x next : ℕ) → IsBacked v (storing c w a x next)
unfolding storing
storing_backed v c w (arg.R8 k) x next = tt
storing_backed v c w (arg.R16 k) x next = tt
storing_backed v c w (arg.S r) x next = tt
storing_backed v c w (arg.M ea) x next = tt
storing_backed v c w (arg.Imm k) x next = tt
storing_backed v c w arg.No x next = tt
storing_backed v c w (arg.Far o t) x next = tt

in_size_backed : (v : Ground) (o : Option ℕ) (ip : ℕ) (p : Steps) → IsBacked v p → IsBacked v (in_size o ip p)
in_size_backed v None ip p h = tt
in_size_backed v (Some n) ip p h = either_backed v (nat_lt ip n) p (Stops (stop.Trap 13 0)) h tt

pub within_backed : (v : Ground) (cs ip : ℕ) (p : Steps) → IsBacked v p → IsBacked v (within cs ip p)
unfolding within
within_backed v cs ip p h = λ o. in_size_backed v o ip p h

-- A selector that passes the rules of a far JMP or CALL passes those of a far return, once its privilege level is 3.

here_other : (v : View) (a s t : ℕ) (h : Hold) → here v a s h ≡ loaded.Done → here v a t h ≡ loaded.Done
here_other v a s t h e = go (v.discarded h.name) (v.present h.name) e
  where
    go : (d b : Bool) → cond d (trap_of a s) (cond b loaded.Done (loaded.Miss (selector s))) ≡ loaded.Done → cond d (trap_of a t) (cond b loaded.Done (loaded.Miss (selector t))) ≡ loaded.Done
    go true b e = cc
    go false true e = refl
    go false false e = cc

when_other : (v : View) (a s t : ℕ) (ok : ℕ → Bool) (o : Option Hold) → when v a s ok o ≡ loaded.Done → when v a t ok o ≡ loaded.Done
when_other v a s t ok None e = cc
when_other v a s t ok (Some h) e = go (ok h.rights) e
  where
    go : (b : Bool) → cond b (here v a s h) (refused s) ≡ loaded.Done → cond b (here v a t h) (refused t) ≡ loaded.Done
    go true e = here_other v a s t h e
    go false e = cc

code_returns : (v : View) (s : ℕ) (n : Bool) (x : Loaded) → is_null s ≡ n → (x ≡ loaded.Done → when v 11 s is_code (found v s) ≡ loaded.Done)
    → cond n (loaded.Trap 13 0) x ≡ loaded.Done → Passes v Return (ring3 s)
unfolding probe_of
code_returns v s true x is h e = cc
code_returns v s false x is h e =
    let null : is_null (ring3 s) ≡ false = null_ring3 s ∙ is in
    let ring : (ring3 s % 4 == 3) ≡ true = grind arith in
    rw (null, ring, found_ring3 v s) (when_other v 11 s (ring3 s) is_code (found v s) (h e))

jump_passes : (v : View) (s : ℕ) → Passes v Jump s → Passes v Return (ring3 s)
unfolding probe_of
jump_passes v s e = code_returns v s (is_null s) _ refl (λ h. h) e

called_when : (v : View) (s : ℕ) (o : Option Hold) → called v s o ≡ loaded.Done → when v 11 s is_code o ≡ loaded.Done
called_when v s (Some h) e = e
called_when v s None e = gate_refuses (gate_at v s) e
  where
    gate_refuses : (g : Option ℕ) → through_gate s g ≡ loaded.Done → refused s ≡ loaded.Done
    gate_refuses None e = e
    gate_refuses (Some k) e = cc

call_passes : (v : View) (s : ℕ) → Passes v Call s → Passes v Return (ring3 s)
unfolding probe_of
call_passes v s e = code_returns v s (is_null s) _ refl (called_when v s (found v s)) e

named_ring3 : (v : View) (names : List ℕ) (s : ℕ) → IsNamed v names s → IsNamed v names (ring3 s)
named_ring3 v names s h n = subst (λ (o : Option Hold). is_in n (hold_name o) ≡ true → is_in n names ≡ true) (sym (found_ring3 v s)) (h n)

pub jump_returns : (g : Ground) (s : ℕ) → IsGranted g Jump s → IsGranted g Return (ring3 s)
jump_returns g s e = (jump_passes g.view s e.0, named_ring3 g.view g.names s e.1)

pub call_returns : (g : Ground) (s : ℕ) → IsGranted g Call s → IsGranted g Return (ring3 s)
call_returns g s e = (call_passes g.view s e.0, named_ring3 g.view g.names s e.1)

-- What a run of steps leaves in the segment registers.

-- each segment register is as it was, or its selector passed and names one of these
abbrev pub LoadsGranted : Ground → Cpu → Cpu → Type 0
LoadsGranted g old new = (r : Sreg) → (sreg new r ≡ sreg old r) ⊎ IsGranted g (rules_for r) (sreg new r)

put_ruled : (g : Ground) (c e : Cpu) (r : Sreg) (s : ℕ) → LoadsGranted g c e → IsGranted g (rules_for r) s → LoadsGranted g c (with_sreg e r s)
put_ruled v c e Es s h p Es = inr p
put_ruled v c e Cs s h p Cs = inr p
put_ruled v c e Ss s h p Ss = inr p
put_ruled v c e Ds s h p Ds = inr p
put_ruled v c e Es s h p q = h q
put_ruled v c e Cs s h p q = h q
put_ruled v c e Ss s h p q = h q
put_ruled v c e Ds s h p q = h q

binds_ruled : (v : Ground) (c e : Cpu) (cs : List Change) → LoadsGranted v c e → AreBacked v cs → LoadsGranted v c (with_binds cs e)
binds_ruled v c e [] h b = h
binds_ruled v c e (Bind r s ∷ cs) h b = binds_ruled v c (with_sreg e r s) cs (put_ruled v c e r s h b.0) b.1
binds_ruled v c e (Write r k w x ∷ cs) h b = binds_ruled v c e cs h b
binds_ruled v c e (Copy r k m ∷ cs) h b = binds_ruled v c e cs h b

same_ruled : (v : Ground) (c d e : Cpu) → SameSelectors d e → LoadsGranted v c e → LoadsGranted v c d
same_ruled v c d e s h Es = subst (λ (x : ℕ). (x ≡ c.es) ⊎ IsGranted v (rules_for Es) x) (sym s.es) (h Es)
same_ruled v c d e s h Cs = subst (λ (x : ℕ). (x ≡ c.cs) ⊎ IsGranted v (rules_for Cs) x) (sym s.cs) (h Cs)
same_ruled v c d e s h Ss = subst (λ (x : ℕ). (x ≡ c.ss) ⊎ IsGranted v (rules_for Ss) x) (sym s.ss) (h Ss)
same_ruled v c d e s h Ds = subst (λ (x : ℕ). (x ≡ c.ds) ⊎ IsGranted v (rules_for Ds) x) (sym s.ds) (h Ds)

checked : (P : Type 0) (r : Result ℕ Stop) (f : ℕ → Result State Stop) (t : State) → ((x : ℕ) → f x ≡ Ok t → P) → (r >>= f) ≡ Ok t → P
checked P (Ok x) f t h e = h x e
checked P (Err d) f t h e = cc

loads : (P : Type 0) (next : ℕ) (l : Loaded) (r : Result State Stop) (t : State) → (l ≡ loaded.Done → r ≡ Ok t → P) → (passed next l >>= (λ _. r)) ≡ Ok t → P
loads P next loaded.Done r t h e = h refl e
loads P next (loaded.Miss s) r t h e = cc
loads P next (loaded.Trap vector code) r t h e = cc
loads P next (loaded.Gate service) r t h e = cc

-- the names loaded from here on are among them
abbrev pub Among : List ℕ → List ℕ → Type 0
Among xs names = (n : ℕ) → is_in n xs ≡ true → is_in n names ≡ true

among_checked : (q : Result ℕ Stop) (f : ℕ → List ℕ) (x : ℕ) (names : List ℕ) → q ≡ Ok x → Among (names_after q f) names → Among (f x) names
among_checked q f x names e h = subst (λ (z : Result ℕ Stop). Among (names_after z f) names) e h

checked_value : (P : Type 0) (r : Result ℕ Stop) (f : ℕ → Result State Stop) (t : State) → ((x : ℕ) → r ≡ Ok x → f x ≡ Ok t → P) → (r >>= f) ≡ Ok t → P
checked_value P (Ok x) f t h e = h x refl e
checked_value P (Err d) f t h e = cc

in_left : (xs ys : List ℕ) (n : ℕ) → is_in n xs ≡ true → is_in n (xs ++ ys) ≡ true
in_left [] ys n e = cc
in_left (x ∷ xs) ys n e = go (x == n) (in_left xs ys n) e
  where
    go : (b : Bool) → (is_in n xs ≡ true → is_in n (xs ++ ys) ≡ true) → (b || is_in n xs) ≡ true → (b || is_in n (xs ++ ys)) ≡ true
    go true h q = refl
    go false h q = h q

in_right : (xs ys : List ℕ) (n : ℕ) → is_in n ys ≡ true → is_in n (xs ++ ys) ≡ true
in_right [] ys n e = e
in_right (x ∷ xs) ys n e = go (x == n) (in_right xs ys n e)
  where
    go : (b : Bool) → is_in n (xs ++ ys) ≡ true → (b || is_in n (xs ++ ys)) ≡ true
    go true q = refl
    go false q = q

pub run_ruled : (g : Ground) (c : Cpu) (n : ℕ) (p : Steps) (t : State) → IsRow c n p → IsBacked g p → Among (loaded_names p g.view) g.names → run p g.view ≡ Ok t → LoadsGranted g c t.cpu
run_ruled g c n (Stops d) t row backed among e = cc
run_ruled g c n (Ends d cs) t row backed among e = subst (λ (z : State). LoadsGranted g c z.cpu) same (same_ruled g c d _ row.1 (binds_ruled g c c cs (λ r. inl refl) backed))
  where
    state_in : Result State Stop → State
    state_in (Ok s) = s
    state_in (Err d) = t

    same : state d (changed cs g.view) ≡ t
    same = ap state_in e
run_ruled g c n (Reads r k w f) t row backed among e = checked_value _ (or_trap (read_of g.view r k w)) (λ x. run (f x) g.view) t
    (λ x is q. run_ruled g c n (f x) t (row x) (backed x)
    (among_checked (or_trap (read_of g.view r k w)) (λ x. loaded_names (f x) g.view) x g.names is among) q) e
run_ruled g c n (Room r k w p) t row backed among e = checked_value _ (or_trap (room_of g.view r k w)) (λ x. run p g.view) t (λ x is q. run_ruled g c n p t row backed (among_checked (or_trap (room_of g.view r k w)) (λ x. loaded_names p g.view) x g.names is among) q) e
run_ruled g c zero (Loads purpose s next p) t row backed among e = absurd row
run_ruled g c (suc n) (Loads purpose s next p) t row backed among e = loads _ next (probe_of g.view purpose (selector s)) (run p g.view) t
    (λ d q. run_ruled g c n p t row (backed (d, λ m i. all d m (in_left (hold_name (found g.view s)) (loaded_names p g.view) m i)))
    (λ m i. all d m (in_right (hold_name (found g.view s)) (loaded_names p g.view) m i)) q) e
  where
    all : probe_of g.view purpose (selector s) ≡ loaded.Done → Among (hold_name (found g.view s) ++ loaded_names p g.view) g.names
    all d = among_checked (passed next (probe_of g.view purpose (selector s))) (λ _. hold_name (found g.view s) ++ loaded_names p g.view) 0 g.names (ap (passed next) d) among
run_ruled g c n (Sizes s f) t row backed among e = run_ruled g c n (f (size_at g.view s)) t (row (size_at g.view s)) (backed (size_at g.view s)) among e
run_ruled g c n (Rights s f) t row backed among e = run_ruled g c n (f (rights_at g.view s)) t (row (rights_at g.view s)) (backed (rights_at g.view s)) among e
