-- Where nothing is missed the present marks don't matter, and what is missed is one of the names that the step loads.
use Rattle.std.proofs.Common.{◌≡◌, refl, sym, ◌∙◌, ap, subst, arith, ◌≤◌, zero, suc, ℕ, ◌+◌, ◌%◌, ◌/◌, Bool, true, false, cond, ◌==◌, ◌||◌, List, [], ◌∷◌, ◌++◌, length}
use Rattle.std.specs.Prelude.{Option, Some, None, Result, Ok, Err, nat_le}
use Rattle.std.proofs.lemmas.Bool.{eq-eqb, eqb-true, false≢true, ltb-true}
use Rattle.std.proofs.lemmas.Bool.Decides.{nat_tests}
use Rattle.o2_isa.proofs.Loads.{loadable_from_probe}
use mathlib.Core.Path.{fun_ext}
use Rattle.o2_isa.specs.declared.instr.Width.{Width}
use Rattle.o2_isa.specs.declared.instr.Width.TheVariants.{Word}
use Rattle.o2_isa.specs.declared.instr.Sreg.{Sreg}
use Rattle.o2_isa.specs.declared.instr.Sreg.TheVariants.{Es, Cs, Ss, Ds}
use Rattle.o2_isa.specs.Registers.{with_sreg}
use Rattle.o2_isa.specs.declared.cpu.Cpu.{Cpu}
use Rattle.o2_isa.specs.declared.cpu.Purpose.{Purpose}
use Rattle.o2_isa.specs.declared.cpu.Purpose.TheVariants.{DataReg, StackReg, Jump, Call, Return}
use Rattle.o2_base.specs.declared.selector.Selector.{Selector}
use Rattle.o2_isa.specs.declared.cpu.Loaded.{Loaded}
use Rattle.o2_isa.specs.declared.cpu.Loaded.TheVariants as loaded
use Rattle.o2_isa.specs.declared.cpu.Stop.{Stop}
use Rattle.o2_isa.specs.declared.cpu.Stop.TheVariants as stop
use Rattle.o2_isa.proofs.Pokes.{poke_cases}
use Rattle.o2_isa.specs.View.{with_bytes, is_loadable, present_hold, View, Hold, Filling, whole, KeepsFrame, IsBound, present_or_none, put_at, value_at, width_len}
use Rattle.o2_isa.specs.View.{outside, is_readable, is_writable, is_code, is_null, is_local, reached, read_name, read_of, room_of, probe_of, found, when, here, refused}
use Rattle.o2_isa.specs.View.{size_at, rights_at, gate_at, bind, poke, poke_hold, in_register, trap_of, through_gate, called, Rest, Hidden, Registers, with_register}
use Rattle.o2_isa.specs.View.{bound_in, bound_registers, Agrees}
use Rattle.o2_isa.specs.Presence.{with_unseen, unseen_result, with_binds, SameSelectors, AsWhole, names_after, hold_name, loaded_names, is_in, IsMissed, IsRow, WritesFirst, OnlyBinds}
use Rattle.o2_isa.specs.Steps.{State, state, Steps, Stops, Ends, Reads, Room, Loads, Sizes, Rights, Change, Bind, Write, Copy, changed, word_there, value_or_zero, or_trap, passed, selector, run, ◌>>=◌}

-- What doesn't look at presence.

bytes_whole : (h : Filling) (v : View) (x : Hold) → v.present x.name ≡ true → (whole h v).bytes x.name ≡ v.bytes x.name
bytes_whole h v x e = ap (λ (b : Bool). cond b (v.bytes x.name) (v.hidden.away x.name h.blocks)) e

reached_whole : (h : Filling) (v : View) (o : Option Hold) (ok : ℕ → Bool) (r : Sreg) (k : ℕ) (w : Width) → present_or_none v.present o ≡ true → reached o ok (whole h v) r k w ≡ reached o ok v r k w
reached_whole h v None ok r k w e = refl
reached_whole h v (Some x) ok r k w e = ap (λ (bs : List ℕ). cond (ok x.rights) (cond (nat_le (k + width_len w) (length bs)) (Ok x.name) (Err (outside r))) (Err (13, 0))) (bytes_whole h v x e)

-- a read, as a function of the bytes
abbrev reading : Sreg → ℕ → Width → Hold → List ℕ → Result ℕ (ℕ × ℕ)
reading r k w x bs = cond (is_readable x.rights) (cond (nat_le (k + width_len w) (length bs)) (Ok (value_at bs k w)) (Err (outside r))) (Err (13, 0))

read_is : (v : View) (r : Sreg) (k : ℕ) (w : Width) (x : Hold) → read_name v k w (reached (Some x) is_readable v r k w) ≡ reading r k w x (v.bytes x.name)
read_is v r k w x = go (is_readable x.rights) (nat_le (k + width_len w) (length (v.bytes x.name)))
  where
    go : (a b : Bool) → read_name v k w (cond a (cond b (Ok x.name) (Err (outside r))) (Err (13, 0))) ≡ cond a (cond b (Ok (value_at (v.bytes x.name) k w)) (Err (outside r))) (Err (13, 0))
    go true true = refl
    go true false = refl
    go false b = refl

read_hold : (h : Filling) (v : View) (o : Option Hold) (r : Sreg) (k : ℕ) (w : Width) → present_or_none v.present o ≡ true → read_name v k w (reached o is_readable v r k w) ≡ read_name (whole h v) k w (reached o is_readable (whole h v) r k w)
read_hold h v None r k w e = refl
read_hold h v (Some x) r k w e = read_is v r k w x ∙ (ap (reading r k w x) (sym (bytes_whole h v x e)) ∙ sym (read_is (whole h v) r k w x))

pub read_whole : (h : Filling) (v : View) (r : Sreg) (k : ℕ) (w : Width) → IsBound v → read_of v r k w ≡ read_of (whole h v) r k w
unfolding read_of
read_whole h v r k w bound = read_hold h v (in_register v.registers r) r k w (bound r)

pub room_whole : (h : Filling) (v : View) (r : Sreg) (k : ℕ) (w : Width) → IsBound v → room_of v r k w ≡ room_of (whole h v) r k w
unfolding room_of
room_whole h v r k w bound = sym (reached_whole h v (in_register v.registers r) is_writable r k w (bound r))

pub word_whole : (h : Filling) (v : View) (r : Sreg) (k : ℕ) → IsBound v → word_there (whole h v) r k ≡ word_there v r k
unfolding word_there
word_whole h v r k bound = ap value_or_zero (sym (read_whole h v r k Word bound))

pub size_whole : (h : Filling) (v : View) (s : ℕ) → size_at v s ≡ size_at (whole h v) s
unfolding size_at
size_whole h v s = refl

pub rights_whole : (h : Filling) (v : View) (s : ℕ) → rights_at v s ≡ rights_at (whole h v) s
unfolding rights_at
rights_whole h v s = refl

-- a view with other bytes
abbrev with_all : View → (ℕ → List ℕ) → View
with_all v bs = record v { bytes = bs }

poke_hold_whole : (h : Filling) (v : View) (o : Option Hold) (k : ℕ) (w : Width) (x : ℕ) → present_or_none v.present o ≡ true → poke_hold (whole h v) o k w x ≡ whole h (poke_hold v o k w x)
poke_hold_whole h v None k w x e = refl
poke_hold_whole h v (Some y) k w x e = where_writable (is_writable y.rights)
  where
    at_name : (m : ℕ) → cond (m == y.name) (put_at ((whole h v).bytes y.name) k w x) ((whole h v).bytes m) ≡ cond (v.present m) (cond (m == y.name) (put_at (v.bytes y.name) k w x) (v.bytes m)) (v.hidden.away m h.blocks)
    at_name m = go (m == y.name) refl
      where
        go : (b : Bool) → (m == y.name) ≡ b → cond b (put_at ((whole h v).bytes y.name) k w x) ((whole h v).bytes m) ≡ cond (v.present m) (cond b (put_at (v.bytes y.name) k w x) (v.bytes m)) (v.hidden.away m h.blocks)
        go true q = ap (λ bs. put_at bs k w x) (bytes_whole h v y e) ∙ sym (ap (λ (b : Bool). cond b (put_at (v.bytes y.name) k w x) (v.hidden.away m h.blocks)) (ap v.present (eqb-true m y.name q) ∙ e))
        go false q = refl

    where_writable : (b : Bool) → cond b (with_bytes (whole h v) y.name (put_at ((whole h v).bytes y.name) k w x)) (whole h v) ≡ whole h (cond b (with_bytes v y.name (put_at (v.bytes y.name) k w x)) v)
    where_writable true = ap (with_all (whole h v)) (fun_ext at_name)
    where_writable false = refl

bound_poke : (v : View) (o : Option Hold) (k : ℕ) (w : Width) (x : ℕ) → IsBound v → IsBound (poke_hold v o k w x)
bound_poke v o k w x b = poke_cases IsBound v o k w x b (λ y e t. b)

binds_whole : (h : Filling) (cs : List Change) (v : View) → OnlyBinds cs → changed cs (whole h v) ≡ whole h (changed cs v)
unfolding bind
binds_whole h [] v o = refl
binds_whole h (Bind r s ∷ cs) v o = binds_whole h cs (bind v r (selector s)) o
binds_whole h (Write r k w x ∷ cs) v o = absurd o
binds_whole h (Copy r a b ∷ cs) v o = absurd o

changed_whole : (h : Filling) (cs : List Change) (v : View) → WritesFirst cs → IsBound v → changed cs (whole h v) ≡ whole h (changed cs v)
unfolding bind poke
changed_whole h [] v f b = refl
changed_whole h (Bind r s ∷ cs) v f b = binds_whole h cs (bind v r (selector s)) f
changed_whole h (Write r k w x ∷ cs) v f b = ap (changed cs) (poke_hold_whole h v (in_register v.registers r) k w x (b r)) ∙ changed_whole h cs (poke v r k w x) f (bound_poke v (in_register v.registers r) k w x b)
changed_whole h (Copy r k m ∷ cs) v f b =
    ap (λ (x : ℕ). changed cs (poke_hold (whole h v) (in_register v.registers r) m Word x)) (word_whole h v r k b)
    ∙ (ap (changed cs) (poke_hold_whole h v (in_register v.registers r) m Word (word_there v r k) (b r))
    ∙ changed_whole h cs (poke v r m Word (word_there v r k)) f (bound_poke v (in_register v.registers r) m Word (word_there v r k) b))

-- What does.

record IsAbsent (v : View) (s : ℕ) : Type 0 where
  pub hold : Hold
  pub found_it : found v s ≡ Some hold
  pub absent : v.present hold.name ≡ false
  pub whole : v.discarded hold.name ≡ false

abbrev Probes : View → ℕ → Loaded → Loaded → Type 0
Probes v s loaded.Done b = b ≡ loaded.Done
Probes v s (loaded.Miss t) b = (b ≡ loaded.Done) × (t ≡ selector s) × IsAbsent v s
Probes v s (loaded.Trap n code) b = b ≡ loaded.Trap n code
Probes v s (loaded.Gate k) b = b ≡ loaded.Gate k

here_probes : (h : Filling) (v : View) (a s : ℕ) (x : Hold) → found v s ≡ Some x → Probes v s (here v a s x) (here (whole h v) a s x)
here_probes h v a s x e = go (v.discarded x.name) (v.present x.name) refl refl
  where
    go : (d b : Bool) → v.discarded x.name ≡ d → v.present x.name ≡ b → Probes v s (cond d (trap_of a s) (cond b loaded.Done (loaded.Miss (selector s)))) (cond d (trap_of a s) loaded.Done)
    go true b w q = refl
    go false true w q = refl
    go false false w q = (refl, refl, record { hold = x; found_it = e; absent = q; whole = w })

choose : (b : Bool) (v : View) (s : ℕ) (x y p q : Loaded) → Probes v s x p → Probes v s y q → Probes v s (cond b x y) (cond b p q)
choose true v s x y p q a d = a
choose false v s x y p q a d = d

when_probes : (h : Filling) (v : View) (a s : ℕ) (ok : ℕ → Bool) (o : Option Hold) → found v s ≡ o → Probes v s (when v a s ok o) (when (whole h v) a s ok o)
when_probes h v a s ok None e = refl
when_probes h v a s ok (Some x) e = choose (ok x.rights) v s _ _ _ _ (here_probes h v a s x e) refl

gate_probes : (v : View) (s : ℕ) (g : Option ℕ) → Probes v s (through_gate s g) (through_gate s g)
gate_probes v s None = refl
gate_probes v s (Some k) = refl

called_probes : (h : Filling) (v : View) (s : ℕ) (o : Option Hold) → found v s ≡ o → Probes v s (called v s o) (called (whole h v) s o)
called_probes h v s (Some x) e = choose (is_code x.rights) v s _ _ _ _ (here_probes h v 11 s x e) refl
called_probes h v s None e = gate_probes v s (gate_at v s)

probe_probes : (h : Filling) (v : View) (p : Purpose) (s : ℕ) → Probes v s (probe_of v p (selector s)) (probe_of (whole h v) p (selector s))
unfolding probe_of
probe_probes h v DataReg s = choose (is_null s) v s _ _ _ _ refl (when_probes h v 11 s is_readable (found v s) refl)
probe_probes h v StackReg s = choose (is_null s) v s _ _ _ _ refl (choose (s % 4 == 3) v s _ _ _ _ (when_probes h v 12 s is_writable (found v s) refl) refl)
probe_probes h v Jump s = choose (is_null s) v s _ _ _ _ refl (when_probes h v 11 s is_code (found v s) refl)
probe_probes h v Call s = choose (is_null s) v s _ _ _ _ refl (called_probes h v s (found v s) refl)
probe_probes h v Return s = choose (is_null s) v s _ _ _ _ refl (choose (s % 4 == 3) v s _ _ _ _ (when_probes h v 11 s is_code (found v s) refl) refl)

-- A run over the whole view.

bind_whole : (h : Filling) (r : Result ℕ Stop) (f g : ℕ → Result State Stop) → ((x : ℕ) → AsWhole h (f x) (g x)) → AsWhole h (r >>= f) (r >>= g)
bind_whole h (Ok x) f g e = e x
bind_whole h (Err (stop.Miss s)) f g e = tt
bind_whole h (Err (stop.Trap n code)) f g e = refl
bind_whole h (Err (stop.Gate k next)) f g e = refl

pass_whole : (h : Filling) (v : View) (s next : ℕ) (a b : Loaded) (f g : ℕ → Result State Stop) → Probes v s a b → ((x : ℕ) → AsWhole h (f x) (g x)) → AsWhole h (passed next a >>= f) (passed next b >>= g)
pass_whole h v s next loaded.Done b f g p e = subst (λ (z : Loaded). AsWhole h (f 0) (passed next z >>= g)) (sym p) (e 0)
pass_whole h v s next (loaded.Miss t) b f g p e = tt
pass_whole h v s next (loaded.Trap n code) b f g p e = ap (λ (z : Loaded). passed next z >>= g) p
pass_whole h v s next (loaded.Gate k) b f g p e = ap (λ (z : Loaded). passed next z >>= g) p

pub run_whole : (h : Filling) (c : Cpu) (n : ℕ) (p : Steps) (v : View) → IsRow c n p → IsBound v → AsWhole h (run p v) (run p (whole h v))
run_whole h b m (Stops (stop.Miss s)) v row bound = tt
run_whole h b m (Stops (stop.Trap n code)) v row bound = refl
run_whole h b m (Stops (stop.Gate k next)) v row bound = refl
run_whole h b m (Ends c cs) v row bound = ap (λ (z : View). Ok (record { cpu = c; view = z })) (changed_whole h cs v row.0 bound)
run_whole h b m (Reads r k w f) v row bound =
    subst (λ (q : Result ℕ (ℕ × ℕ)). AsWhole h (run (Reads r k w f) v) (or_trap q >>= (λ x. run (f x) (whole h v)))) (read_whole h v r k w bound)
    (bind_whole h (or_trap (read_of v r k w)) _ _ (λ x. run_whole h b m (f x) v (row x) bound))
run_whole h b m (Room r k w p) v row bound =
    subst (λ (q : Result ℕ (ℕ × ℕ)). AsWhole h (run (Room r k w p) v) (or_trap q >>= (λ x. run p (whole h v)))) (room_whole h v r k w bound)
    (bind_whole h (or_trap (room_of v r k w)) _ _ (λ x. run_whole h b m p v row bound))
run_whole h b zero (Loads purpose s next p) v row bound = absurd row
run_whole h b (suc m) (Loads purpose s next p) v row bound = pass_whole h v s next _ _ _ _ (probe_probes h v purpose s) (λ x. run_whole h b m p v row bound)
run_whole h b m (Sizes s f) v row bound =
    subst (λ (q : Option ℕ). AsWhole h (run (Sizes s f) v) (run (f q) (whole h v))) (size_whole h v s) (run_whole h b m (f (size_at v s)) v (row (size_at v s)) bound)
run_whole h b m (Rights s f) v row bound =
    subst (λ (q : Option ℕ). AsWhole h (run (Rights s f) v) (run (f q) (whole h v))) (rights_whole h v s) (run_whole h b m (f (rights_at v s)) v (row (rights_at v s)) bound)

-- What is missed.

after_check : (v : View) (t : Selector) (q : Result ℕ (ℕ × ℕ)) (f : ℕ → Result State Stop) (g : ℕ → List ℕ) → ((x : ℕ) → f x ≡ Err (stop.Miss t) → IsMissed v t (g x)) → (or_trap q >>= f) ≡ Err (stop.Miss t) → IsMissed v t (names_after (or_trap q) g)
after_check v t (Ok x) f g h e = h x e
after_check v t (Err d) f g h e = cc

later : (ns ms : List ℕ) (n : ℕ) → is_in n ms ≡ true → is_in n (ns ++ ms) ≡ true
later [] ms n e = e
later (m ∷ ns) ms n e = or_right (m == n) _ (later ns ms n e)
  where
    or_right : (a b : Bool) → b ≡ true → (a || b) ≡ true
    or_right true b e = refl
    or_right false b e = e

first : (o : Option Hold) (x : Hold) (ms : List ℕ) → o ≡ Some x → is_in x.name (hold_name o ++ ms) ≡ true
first o x ms e = subst (λ (z : Option Hold). is_in x.name (hold_name z ++ ms) ≡ true) (sym e) (ap (λ (b : Bool). b || is_in x.name ms) (eq-eqb x.name x.name refl))

after_load : (h : Filling) (v : View) (s next : ℕ) (t : Selector) (a b : Loaded) (r : Result State Stop) (ns : List ℕ) → Probes v s a b
    → (r ≡ Err (stop.Miss t) → IsMissed v t ns) → (passed next a >>= (λ (_ : ℕ). r)) ≡ Err (stop.Miss t)
    → IsMissed v t (names_after (passed next b) (λ _. hold_name (found v s) ++ ns))
after_load h v s next t loaded.Done b r ns p k e =
    let m = k e in
    subst (λ (z : Loaded). IsMissed v t (names_after (passed next z) (λ _. hold_name (found v s) ++ ns))) (sym p)
    (record { hold = m.hold; found_it = m.found_it; absent = m.absent; whole = m.whole; named = later (hold_name (found v s)) ns m.hold.name m.named })
after_load h v s next t (loaded.Miss u) b r ns p k e =
    let same : t ≡ selector s = cc (p.1) in
    subst (λ (z : Loaded). IsMissed v t (names_after (passed next z) (λ _. hold_name (found v s) ++ ns))) (sym p.0)
    (record { hold = p.2.hold; found_it = subst (λ (z : Selector). found v z.0 ≡ Some p.2.hold) (sym same) p.2.found_it; absent = p.2.absent; whole = p.2.whole; named = first (found v s) p.2.hold ns p.2.found_it })
after_load h v s next t (loaded.Trap n code) b r ns p k e = cc
after_load h v s next t (loaded.Gate g) b r ns p k e = cc

pub run_missed : (h : Filling) (c : Cpu) (n : ℕ) (p : Steps) (v : View) (t : Selector) → IsRow c n p → IsBound v → run p v ≡ Err (stop.Miss t) → IsMissed v t (loaded_names p (whole h v))
run_missed h b m (Stops (stop.Miss s)) v t row bound e = absurd row
run_missed h b m (Stops (stop.Trap n code)) v t row bound e = cc
run_missed h b m (Stops (stop.Gate k next)) v t row bound e = cc
run_missed h b m (Ends c cs) v t row bound e = cc
run_missed h b m (Reads r k w f) v t row bound e =
    subst (λ (q : Result ℕ (ℕ × ℕ)). IsMissed v t (names_after (or_trap q) (λ x. loaded_names (f x) (whole h v)))) (read_whole h v r k w bound)
    (after_check v t (read_of v r k w) _ _ (λ x q. run_missed h b m (f x) v t (row x) bound q) e)
run_missed h b m (Room r k w p) v t row bound e =
    subst (λ (q : Result ℕ (ℕ × ℕ)). IsMissed v t (names_after (or_trap q) (λ x. loaded_names p (whole h v)))) (room_whole h v r k w bound)
    (after_check v t (room_of v r k w) (λ x. run p v) _ (λ x q. run_missed h b m p v t row bound q) e)
run_missed h b zero (Loads purpose s next p) v t row bound e = absurd row
run_missed h b (suc m) (Loads purpose s next p) v t row bound e = after_load h v s next t _ _ (run p v) _ (probe_probes h v purpose s) (λ q. run_missed h b m p v t row bound q) e
run_missed h b m (Sizes s f) v t row bound e =
    subst (λ (q : Option ℕ). IsMissed v t (loaded_names (f q) (whole h v))) (size_whole h v s) (run_missed h b m (f (size_at v s)) v t (row (size_at v s)) bound e)
run_missed h b m (Rights s f) v t row bound e =
    subst (λ (q : Option ℕ). IsMissed v t (loaded_names (f q) (whole h v))) (rights_whole h v s) (run_missed h b m (f (rights_at v s)) v t (row (rights_at v s)) bound e)

-- What clear step changes.

pub frame_refl : (v : View) → KeepsFrame v v
frame_refl v = record { held = refl; gate = refl; size = refl; present = refl; discarded = refl; rest = refl; hidden = refl }

frame_poke : (u v : View) (o : Option Hold) (k : ℕ) (w : Width) (x : ℕ) → KeepsFrame u v → KeepsFrame u (poke_hold v o k w x)
frame_poke u v o k w x f =
    poke_cases (λ (z : View). KeepsFrame u z) v o k w x f
    (λ y e t. record { held = f.held; gate = f.gate; size = f.size; present = f.present; discarded = f.discarded; rest = f.rest; hidden = f.hidden })

pub frame_changed : (u : View) (cs : List Change) (v : View) → KeepsFrame u v → KeepsFrame u (changed cs v)
unfolding bind poke
frame_changed u [] v f = f
frame_changed u (Bind r s ∷ cs) v f = frame_changed u cs (bind v r (selector s)) (record { held = f.held; gate = f.gate; size = f.size; present = f.present; discarded = f.discarded; rest = f.rest; hidden = f.hidden })
frame_changed u (Write r k w x ∷ cs) v f = frame_changed u cs (poke v r k w x) (frame_poke u v (in_register v.registers r) k w x f)
frame_changed u (Copy r a b ∷ cs) v f = frame_changed u cs (poke v r b Word (word_there v r a)) (frame_poke u v (in_register v.registers r) b Word (word_there v r a) f)

-- How many names a row loads.

few_after : (n : ℕ) (r : Result ℕ Stop) (g : ℕ → List ℕ) → ((x : ℕ) → length (g x) ≤ n) → length (names_after r g) ≤ n
few_after n (Ok x) g h = h x
few_after n (Err e) g h = omega arith

one_hold : (o : Option Hold) (ns : List ℕ) (n : ℕ) → length ns ≤ n → length (hold_name o ++ ns) ≤ suc n
one_hold None ns n h = omega arith
one_hold (Some x) ns n h = omega arith

pub few_loads : (c : Cpu) (n : ℕ) (p : Steps) (v : View) → IsRow c n p → length (loaded_names p v) ≤ n
few_loads b n (Stops e) v h = omega arith
few_loads b n (Ends c cs) v h = omega arith
few_loads b n (Reads r k w f) v h = few_after n (or_trap (read_of v r k w)) _ (λ x. few_loads b n (f x) v (h x))
few_loads b n (Room r k w p) v h = few_after n (or_trap (room_of v r k w)) _ (λ x. few_loads b n p v h)
few_loads b zero (Loads purpose s next p) v h = absurd h
few_loads b (suc n) (Loads purpose s next p) v h = few_after (suc n) (passed next (probe_of v purpose (selector s))) _ (λ x. one_hold (found v s) _ n (few_loads b n p v h))
few_loads b n (Sizes s f) v h = few_loads b n (f (size_at v s)) v (h (size_at v s))
few_loads b n (Rights s f) v h = few_loads b n (f (rights_at v s)) v (h (rights_at v s))

-- Where a row comes to a gate, it has loaded nothing: its one load is that of the gate.

not_checked : (q : Result ℕ (ℕ × ℕ)) (f : ℕ → Result State Stop) (k next : ℕ) → ((x : ℕ) → f x ≡ Err (stop.Gate k next) → ⊥) → (or_trap q >>= f) ≡ Err (stop.Gate k next) → ⊥
not_checked (Ok x) f k next h e = h x e
not_checked (Err d) f k next h e = cc

no_gate : (c : Cpu) (p : Steps) (v : View) (k next : ℕ) → IsRow c 0 p → run p v ≡ Err (stop.Gate k next) → ⊥
no_gate b (Stops (stop.Miss s)) v k next row e = row
no_gate b (Stops (stop.Trap n code)) v k next row e = cc
no_gate b (Stops (stop.Gate g m)) v k next row e = row
no_gate b (Ends c cs) v k next row e = cc
no_gate b (Reads r i w f) v k next row e = not_checked (read_of v r i w) _ k next (λ x q. no_gate b (f x) v k next (row x) q) e
no_gate b (Room r i w p) v k next row e = not_checked (room_of v r i w) _ k next (λ x q. no_gate b p v k next row q) e
no_gate b (Loads purpose s m p) v k next row e = row
no_gate b (Sizes s f) v k next row e = no_gate b (f (size_at v s)) v k next (row (size_at v s)) e
no_gate b (Rights s f) v k next row e = no_gate b (f (rights_at v s)) v k next (row (rights_at v s)) e

none_checked : (q : Result ℕ (ℕ × ℕ)) (f : ℕ → Result State Stop) (g : ℕ → List ℕ) (k next : ℕ) → ((x : ℕ) → f x ≡ Err (stop.Gate k next) → g x ≡ []) → (or_trap q >>= f) ≡ Err (stop.Gate k next)
    → names_after (or_trap q) g ≡ []
none_checked (Ok x) f g k next h e = h x e
none_checked (Err d) f g k next h e = refl

none_passed : (m : ℕ) (a : Loaded) (r : Result State Stop) (ns : List ℕ) (k next : ℕ) → (r ≡ Err (stop.Gate k next) → ⊥) → (passed m a >>= (λ (_ : ℕ). r)) ≡ Err (stop.Gate k next)
    → names_after (passed m a) (λ (_ : ℕ). ns) ≡ []
none_passed m loaded.Done r ns k next h e = absurd (h e)
none_passed m (loaded.Miss t) r ns k next h e = refl
none_passed m (loaded.Trap n code) r ns k next h e = refl
none_passed m (loaded.Gate g) r ns k next h e = refl

pub gate_loads_none : (c : Cpu) (p : Steps) (v : View) (k next : ℕ) → IsRow c 1 p → run p v ≡ Err (stop.Gate k next) → loaded_names p v ≡ []
gate_loads_none b (Stops e) v k next row calls = refl
gate_loads_none b (Ends c cs) v k next row calls = refl
gate_loads_none b (Reads r i w f) v k next row calls = none_checked (read_of v r i w) _ _ k next (λ x q. gate_loads_none b (f x) v k next (row x) q) calls
gate_loads_none b (Room r i w p) v k next row calls = none_checked (room_of v r i w) _ _ k next (λ x q. gate_loads_none b p v k next row q) calls
gate_loads_none b (Loads purpose s m p) v k next row calls = none_passed m (probe_of v purpose (selector s)) (run p v) _ k next (λ q. no_gate b p v k next row q) calls
gate_loads_none b (Sizes s f) v k next row calls = gate_loads_none b (f (size_at v s)) v k next (row (size_at v s)) calls
gate_loads_none b (Rights s f) v k next row calls = gate_loads_none b (f (rights_at v s)) v k next (row (rights_at v s)) calls

-- Where nothing is missed, all that was loaded is present.

low_null : (s : ℕ) → is_null s ≡ true → is_local s ≡ false
low_null s e = let h = ltb-true s 4 e in grind (arith, nat_tests)

hold_present : (v : View) (s : ℕ) (n : ℕ) → is_loadable v (selector s) ≡ true → is_in n (hold_name (found v s)) ≡ true → v.present n ≡ true
unfolding is_loadable
hold_present v s n l i = by_null (is_null s) refl l
  where
    by_hold : (o : Option Hold) → present_hold v o ≡ true → is_in n (hold_name o) ≡ true → v.present n ≡ true
    by_hold None p q = absurd (false≢true p)
    by_hold (Some x) p q = go (x.name == n) refl q
      where
        go : (b : Bool) → (x.name == n) ≡ b → (b || false) ≡ true → v.present n ≡ true
        go true e q = subst (λ (m : ℕ). v.present m ≡ true) (eqb-true x.name n e) p
        go false e q = absurd (false≢true q)

    by_null : (b : Bool) → is_null s ≡ b → (b || present_hold v (found v s)) ≡ true → v.present n ≡ true
    by_null true e l = absurd (false≢true (subst (λ (b : Bool). is_in n (hold_name (cond b (v.held (s / 8)) None)) ≡ true) (low_null s e) i))
    by_null false e l = by_hold (found v s) l i

split_in : (ns ms : List ℕ) (n : ℕ) (P : Type 0) → (is_in n ns ≡ true → P) → (is_in n ms ≡ true → P) → is_in n (ns ++ ms) ≡ true → P
split_in [] ms n P a b e = b e
split_in (m ∷ ns) ms n P a b e = go (m == n) (λ f. split_in ns ms n P f b) a e
  where
    go : (t : Bool) → ((is_in n ns ≡ true → P) → is_in n (ns ++ ms) ≡ true → P) → ((t || is_in n ns) ≡ true → P) → (t || is_in n (ns ++ ms)) ≡ true → P
    go true h a e = a refl
    go false h a e = h a e

present_check : (v : View) (n : ℕ) (q : Result ℕ (ℕ × ℕ)) (f : ℕ → Result State Stop) (g : ℕ → List ℕ)
    → ((t : Selector) → (or_trap q >>= f) ≡ Err (stop.Miss t) → ⊥)
    → ((x : ℕ) → ((t : Selector) → f x ≡ Err (stop.Miss t) → ⊥) → is_in n (g x) ≡ true → v.present n ≡ true)
    → is_in n (names_after (or_trap q) g) ≡ true → v.present n ≡ true
present_check v n (Ok x) f g clear h e = h x clear e
present_check v n (Err d) f g clear h e = absurd (false≢true e)

present_load : (v : View) (n s next : ℕ) (a b : Loaded) (r : Result State Stop) (ns : List ℕ) → Probes v s a b
    → (a ≡ loaded.Done → is_loadable v (selector s) ≡ true) → ((t : Selector) → (passed next a >>= (λ (_ : ℕ). r)) ≡ Err (stop.Miss t) → ⊥)
    → (((t : Selector) → r ≡ Err (stop.Miss t) → ⊥) → is_in n ns ≡ true → v.present n ≡ true)
    → is_in n (names_after (passed next b) (λ _. hold_name (found v s) ++ ns)) ≡ true → v.present n ≡ true
present_load v n s next loaded.Done b r ns p l clear h e =
    split_in (hold_name (found v s)) ns n (v.present n ≡ true) (hold_present v s n (l refl)) (h clear)
    (subst (λ (z : Loaded). is_in n (names_after (passed next z) (λ _. hold_name (found v s) ++ ns)) ≡ true) p e)
present_load v n s next (loaded.Miss u) b r ns p l clear h e = absurd (clear u refl)
present_load v n s next (loaded.Trap m code) b r ns p l clear h e = absurd (false≢true (subst (λ (z : Loaded). is_in n (names_after (passed next z) (λ _. hold_name (found v s) ++ ns)) ≡ true) p e))
present_load v n s next (loaded.Gate k) b r ns p l clear h e = absurd (false≢true (subst (λ (z : Loaded). is_in n (names_after (passed next z) (λ _. hold_name (found v s) ++ ns)) ≡ true) p e))

pub loaded_present : (h : Filling) (p : Steps) (v : View) → IsBound v → ((t : Selector) → run p v ≡ Err (stop.Miss t) → ⊥) → (n : ℕ) → is_in n (loaded_names p (whole h v)) ≡ true → v.present n ≡ true
loaded_present h (Stops e) v bound clear n i = absurd (false≢true i)
loaded_present h (Ends c cs) v bound clear n i = absurd (false≢true i)
loaded_present h (Reads r k w f) v bound clear n i =
    present_check v n (read_of v r k w) (λ x. run (f x) v) (λ x. loaded_names (f x) (whole h v)) clear (λ x q j. loaded_present h (f x) v bound q n j)
    (subst (λ (q : Result ℕ (ℕ × ℕ)). is_in n (names_after (or_trap q) (λ x. loaded_names (f x) (whole h v))) ≡ true) (sym (read_whole h v r k w bound)) i)
loaded_present h (Room r k w p) v bound clear n i =
    present_check v n (room_of v r k w) (λ x. run p v) (λ x. loaded_names p (whole h v)) clear (λ x q j. loaded_present h p v bound q n j)
    (subst (λ (q : Result ℕ (ℕ × ℕ)). is_in n (names_after (or_trap q) (λ x. loaded_names p (whole h v))) ≡ true) (sym (room_whole h v r k w bound)) i)
loaded_present h (Loads purpose s next p) v bound clear n i =
    present_load v n s next _ _ (run p v) (loaded_names p (whole h v)) (probe_probes h v purpose s) (loadable_from_probe v purpose (selector s)) clear (λ q j. loaded_present h p v bound q n j) i
loaded_present h (Sizes s f) v bound clear n i =
    loaded_present h (f (size_at v s)) v bound clear n (subst (λ (q : Option ℕ). is_in n (loaded_names (f q) (whole h v)) ≡ true) (sym (size_whole h v s)) i)
loaded_present h (Rights s f) v bound clear n i =
    loaded_present h (f (rights_at v s)) v bound clear n (subst (λ (q : Option ℕ). is_in n (loaded_names (f q) (whole h v)) ≡ true) (sym (rights_whole h v s)) i)

-- What no instruction sees doesn't matter.

poke_unseen : (u : Rest) (h : Hidden) (v : View) (o : Option Hold) (k : ℕ) (w : Width) (x : ℕ) → poke_hold (with_unseen u h v) o k w x ≡ with_unseen u h (poke_hold v o k w x)
poke_unseen u h v None k w x = refl
poke_unseen u h v (Some y) k w x = where_writable (is_writable y.rights)
  where
    where_writable : (b : Bool) → cond b (with_bytes (with_unseen u h v) y.name (put_at (v.bytes y.name) k w x)) (with_unseen u h v) ≡ with_unseen u h (cond b (with_bytes v y.name (put_at (v.bytes y.name) k w x)) v)
    where_writable true = refl
    where_writable false = refl

reached_unseen : (u : Rest) (h : Hidden) (v : View) (o : Option Hold) (ok : ℕ → Bool) (r : Sreg) (k : ℕ) (w : Width) → reached o ok (with_unseen u h v) r k w ≡ reached o ok v r k w
reached_unseen u h v None ok r k w = refl
reached_unseen u h v (Some x) ok r k w = refl

name_unseen : (u : Rest) (h : Hidden) (v : View) (k : ℕ) (w : Width) (q : Result ℕ (ℕ × ℕ)) → read_name (with_unseen u h v) k w q ≡ read_name v k w q
name_unseen u h v k w (Ok n) = refl
name_unseen u h v k w (Err e) = refl

pub read_unseen : (u : Rest) (h : Hidden) (v : View) (r : Sreg) (k : ℕ) (w : Width) → read_of (with_unseen u h v) r k w ≡ read_of v r k w
unfolding read_of
read_unseen u h v r k w = name_unseen u h v k w _ ∙ ap (read_name v k w) (reached_unseen u h v (in_register v.registers r) is_readable r k w)

word_unseen : (u : Rest) (h : Hidden) (v : View) (r : Sreg) (k : ℕ) → word_there (with_unseen u h v) r k ≡ word_there v r k
unfolding word_there
word_unseen u h v r k = ap value_or_zero (read_unseen u h v r k Word)

changed_unseen : (u : Rest) (h : Hidden) (cs : List Change) (v : View) → changed cs (with_unseen u h v) ≡ with_unseen u h (changed cs v)
unfolding bind poke
changed_unseen u h [] v = refl
changed_unseen u h (Bind r s ∷ cs) v = changed_unseen u h cs (bind v r (selector s))
changed_unseen u h (Write r k w x ∷ cs) v = ap (changed cs) (poke_unseen u h v (in_register v.registers r) k w x) ∙ changed_unseen u h cs (poke v r k w x)
changed_unseen u h (Copy r a b ∷ cs) v =
    ap (λ (x : ℕ). changed cs (poke_hold (with_unseen u h v) (in_register v.registers r) b Word x)) (word_unseen u h v r a)
    ∙ (ap (changed cs) (poke_unseen u h v (in_register v.registers r) b Word (word_there v r a))
    ∙ changed_unseen u h cs (poke v r b Word (word_there v r a)))

room_unseen : (u : Rest) (h : Hidden) (v : View) (r : Sreg) (k : ℕ) (w : Width) → room_of (with_unseen u h v) r k w ≡ room_of v r k w
unfolding room_of
room_unseen u h v r k w = reached_unseen u h v (in_register v.registers r) is_writable r k w

when_unseen : (u : Rest) (h : Hidden) (v : View) (a s : ℕ) (ok : ℕ → Bool) (o : Option Hold) → when (with_unseen u h v) a s ok o ≡ when v a s ok o
when_unseen u h v a s ok None = refl
when_unseen u h v a s ok (Some x) = refl

called_unseen : (u : Rest) (h : Hidden) (v : View) (s : ℕ) (o : Option Hold) → called (with_unseen u h v) s o ≡ called v s o
called_unseen u h v s None = refl
called_unseen u h v s (Some x) = refl

probe_unseen : (u : Rest) (h : Hidden) (v : View) (p : Purpose) (s : ℕ) → probe_of (with_unseen u h v) p (selector s) ≡ probe_of v p (selector s)
unfolding probe_of
probe_unseen u h v DataReg s = ap (λ (z : Loaded). cond (is_null s) loaded.Done z) (when_unseen u h v 11 s is_readable (found v s))
probe_unseen u h v StackReg s = ap (λ (z : Loaded). cond (is_null s) (loaded.Trap 13 0) (cond (s % 4 == 3) z (refused s))) (when_unseen u h v 12 s is_writable (found v s))
probe_unseen u h v Jump s = ap (λ (z : Loaded). cond (is_null s) (loaded.Trap 13 0) z) (when_unseen u h v 11 s is_code (found v s))
probe_unseen u h v Call s = ap (λ (z : Loaded). cond (is_null s) (loaded.Trap 13 0) z) (called_unseen u h v s (found v s))
probe_unseen u h v Return s = ap (λ (z : Loaded). cond (is_null s) (loaded.Trap 13 0) (cond (s % 4 == 3) z (refused s))) (when_unseen u h v 11 s is_code (found v s))

size_unseen : (u : Rest) (h : Hidden) (v : View) (s : ℕ) → size_at (with_unseen u h v) s ≡ size_at v s
unfolding size_at
size_unseen u h v s = refl

rights_unseen : (u : Rest) (h : Hidden) (v : View) (s : ℕ) → rights_at (with_unseen u h v) s ≡ rights_at v s
unfolding rights_at
rights_unseen u h v s = refl

bind_unseen : (u : Rest) (h : Hidden) (q r : Result ℕ Stop) (f g : ℕ → Result State Stop) → q ≡ r → ((x : ℕ) → f x ≡ unseen_result u h (g x)) → (q >>= f) ≡ unseen_result u h (r >>= g)
bind_unseen u h q (Ok x) f g e i = ap (λ (z : Result ℕ Stop). z >>= f) e ∙ i x
bind_unseen u h q (Err d) f g e i = ap (λ (z : Result ℕ Stop). z >>= f) e

pub run_unseen : (u : Rest) (h : Hidden) (p : Steps) (v : View) → run p (with_unseen u h v) ≡ unseen_result u h (run p v)
run_unseen u h (Stops e) v = refl
run_unseen u h (Ends c cs) v = ap (λ (z : View). Ok (state c z)) (changed_unseen u h cs v)
run_unseen u h (Reads r k w f) v = bind_unseen u h _ (or_trap (read_of v r k w)) _ (λ x. run (f x) v) (ap or_trap (read_unseen u h v r k w)) (λ x. run_unseen u h (f x) v)
run_unseen u h (Room r k w p) v = bind_unseen u h _ (or_trap (room_of v r k w)) _ (λ x. run p v) (ap or_trap (room_unseen u h v r k w)) (λ x. run_unseen u h p v)
run_unseen u h (Loads purpose s next p) v = bind_unseen u h _ (passed next (probe_of v purpose (selector s))) _ (λ x. run p v) (ap (passed next) (probe_unseen u h v purpose s)) (λ x. run_unseen u h p v)
run_unseen u h (Sizes s f) v = ap (λ (o : Option ℕ). run (f o) (with_unseen u h v)) (size_unseen u h v s) ∙ run_unseen u h (f (size_at v s)) v
run_unseen u h (Rights s f) v = ap (λ (o : Option ℕ). run (f o) (with_unseen u h v)) (rights_unseen u h v s) ∙ run_unseen u h (f (rights_at v s)) v

-- The segment registers hold what the selectors of the processor name.

pub bound_made : (held : ℕ → Option Hold) (c d : Cpu) → SameSelectors c d → bound_registers held c ≡ bound_registers held d
bound_made held c d s =
    ap (λ (z : ℕ). made (bound_in held z) (bound_in held c.cs) (bound_in held c.ss) (bound_in held c.ds)) s.es
    ∙ (ap (λ (z : ℕ). made (bound_in held d.es) (bound_in held z) (bound_in held c.ss) (bound_in held c.ds)) s.cs
    ∙ (ap (λ (z : ℕ). made (bound_in held d.es) (bound_in held d.cs) (bound_in held z) (bound_in held c.ds)) s.ss
    ∙ ap (λ (z : ℕ). made (bound_in held d.es) (bound_in held d.cs) (bound_in held d.ss) (bound_in held z)) s.ds))
  where
    made : Option Hold → Option Hold → Option Hold → Option Hold → Registers
    made e c s d = record { es = e; cs = c; ss = s; ds = d }

bound_load : (held : ℕ → Option Hold) (c : Cpu) (r : Sreg) (s : ℕ) → with_register (bound_registers held c) r (bound_in held s) ≡ bound_registers held (with_sreg c r s)
bound_load held c Es s = refl
bound_load held c Cs s = refl
bound_load held c Ss s = refl
bound_load held c Ds s = refl

agrees_poke : (c : Cpu) (v : View) (o : Option Hold) (k : ℕ) (w : Width) (x : ℕ) → Agrees c v → Agrees c (poke_hold v o k w x)
agrees_poke c v o k w x a = poke_cases (λ (z : View). Agrees c z) v o k w x a (λ y e t. a)

pub agrees_changed : (c : Cpu) (cs : List Change) (v : View) → Agrees c v → Agrees (with_binds cs c) (changed cs v)
unfolding bind poke
agrees_changed c [] v a = a
agrees_changed c (Bind r s ∷ cs) v a = agrees_changed (with_sreg c r s) cs (bind v r (selector s)) (ap (λ (z : Registers). with_register z r (bound_in v.held s)) a ∙ bound_load v.held c r s)
agrees_changed c (Write r k w x ∷ cs) v a = agrees_changed c cs (poke v r k w x) (agrees_poke c v (in_register v.registers r) k w x a)
agrees_changed c (Copy r k m ∷ cs) v a = agrees_changed c cs (poke v r m Word (word_there v r k)) (agrees_poke c v (in_register v.registers r) m Word (word_there v r k) a)
