-- An instruction does the same over two views that are alike but for the numbers of names.
use Rattle.std.proofs.Common.{◌≡◌, refl, sym, ◌∙◌, ap, subst, ℕ, ◌+◌, ◌%◌, ◌/◌, Bool, true, false, cond, ◌==◌, List, [], ◌∷◌, length}
use Rattle.std.specs.Prelude.{Option, Some, None, option_map, Result, Ok, Err, nat_le, take, drop}
use Rattle.std.proofs.lemmas.Bool.{eq-eqb, eqb-true}
use Rattle.o2_isa.specs.declared.instr.Width.{Width}
use Rattle.o2_isa.specs.declared.instr.Width.TheVariants.{Word}
use Rattle.o2_isa.specs.declared.instr.Sreg.{Sreg}
use Rattle.o2_isa.specs.declared.instr.Sreg.TheVariants.{Es, Cs, Ss, Ds}
use Rattle.o2_isa.specs.declared.cpu.Cpu.{Cpu}
use Rattle.o2_isa.specs.declared.cpu.Purpose.{Purpose}
use Rattle.o2_isa.specs.declared.cpu.Purpose.TheVariants.{DataReg, StackReg, Jump, Call, Return}
use Rattle.o2_isa.specs.declared.cpu.Loaded.{Loaded}
use Rattle.o2_isa.specs.declared.cpu.Loaded.TheVariants as loaded
use Rattle.o2_isa.specs.declared.cpu.Stop.{Stop}
use Rattle.o2_isa.specs.Reading.{decoded}
use Rattle.o2_isa.specs.View.{View, Hold, Registers, in_register, with_register, is_readable, is_writable, is_code, is_null, is_local, found, found_in, bound_in, gate_at}
use Rattle.o2_isa.specs.View.{reached, read_name, read_of, room_of, probe_of, size_at, rights_at, rights_or_gate, when, here, refused, trap_of, through_gate, called}
use Rattle.o2_isa.specs.View.{bind, poke, poke_hold, with_bytes, put_at, value_at, width_len, outside, hold_bytes, fetched}
use Rattle.o2_isa.specs.Steps.{State, state, Steps, Stops, Ends, Reads, Room, Loads, Sizes, Rights, Change, Bind, Write, Copy, changed, word_there, value_or_zero, or_trap, passed, selector, run, ◌>>=◌}
use Rattle.o2_isa.specs.Step.{steps_at, step_steps, stepped}
use Rattle.o2_alone.specs.Renaming.{Renaming, renamed_hold, IsIn, KeepsApart, SameBytes, IsRenamedView, IsRenamedResult}

-- two names of the map are one where their numbers are
pub same_test : (f : Renaming) (held : ℕ → Option Hold) → KeepsApart f held → (g h : Hold) → IsIn held g → IsIn held h
    → (f h.name == f g.name) ≡ (h.name == g.name)
same_test f held apart g h gi hi = go (f h.name == f g.name) (h.name == g.name) refl refl
  where
    go : (x y : Bool) → (f h.name == f g.name) ≡ x → (h.name == g.name) ≡ y → x ≡ y
    go true true p q = refl
    go false false p q = refl
    go true false p q = sym (eq-eqb h.name g.name (apart h g hi gi (eqb-true (f h.name) (f g.name) p))) ∙ q
    go false true p q = sym p ∙ eq-eqb (f h.name) (f g.name) (ap f (eqb-true h.name g.name q))

-- What is looked up.

-- two maps that are alike but for the numbers of names
abbrev pub SameMap : Renaming → (held others : ℕ → Option Hold) → Type 0
SameMap f held others = (i : ℕ) → others i ≡ option_map (renamed_hold f) (held i)

pub found_renamed : (f : Renaming) (held others : ℕ → Option Hold) → SameMap f held others → (s : ℕ) → found_in others s ≡ option_map (renamed_hold f) (found_in held s)
found_renamed f held others same s = go (is_local s)
  where
    go : (b : Bool) → cond b (others (s / 8)) None ≡ option_map (renamed_hold f) (cond b (held (s / 8)) None)
    go true = same (s / 8)
    go false = refl

pub bound_renamed : (f : Renaming) (held others : ℕ → Option Hold) → SameMap f held others → (s : ℕ) → bound_in others s ≡ option_map (renamed_hold f) (bound_in held s)
bound_renamed f held others same s = go (is_null s)
  where
    go : (b : Bool) → cond b None (found_in others s) ≡ option_map (renamed_hold f) (cond b None (found_in held s))
    go true = refl
    go false = found_renamed f held others same s

pub found_is_in : (held : ℕ → Option Hold) (s : ℕ) (h : Hold) → found_in held s ≡ Some h → IsIn held h
found_is_in held s h e = go (is_local s) e
  where
    go : (b : Bool) → cond b (held (s / 8)) None ≡ Some h → IsIn held h
    go true e = (s / 8, e)
    go false e = cc

pub bound_is_in : (held : ℕ → Option Hold) (s : ℕ) (h : Hold) → bound_in held s ≡ Some h → IsIn held h
bound_is_in held s h e = go (is_null s) e
  where
    go : (b : Bool) → cond b None (found_in held s) ≡ Some h → IsIn held h
    go true e = cc
    go false e = found_is_in held s h e

gate_renamed : (f : Renaming) (v o : View) → IsRenamedView f v o → (s : ℕ) → gate_at o s ≡ gate_at v s
gate_renamed f v o same s = ap (λ (g : Option ℕ). cond (is_local s) None g) (same.gate (s / 8))

-- Accesses.

-- a read, as a function of the bytes
abbrev reading : Sreg → ℕ → Width → Hold → List ℕ → Result ℕ (ℕ × ℕ)
reading r k w x bs = cond (is_readable x.rights) (cond (nat_le (k + width_len w) (length bs)) (Ok (value_at bs k w)) (Err (outside r))) (Err (13, 0))

read_is : (v : View) (r : Sreg) (k : ℕ) (w : Width) (x : Hold) → read_name v k w (reached (Some x) is_readable v r k w) ≡ reading r k w x (v.bytes x.name)
read_is v r k w x = go (is_readable x.rights) (nat_le (k + width_len w) (length (v.bytes x.name)))
  where
    go : (a b : Bool) → read_name v k w (cond a (cond b (Ok x.name) (Err (outside r))) (Err (13, 0))) ≡ cond a (cond b (Ok (value_at (v.bytes x.name) k w)) (Err (outside r))) (Err (13, 0))
    go true true = refl
    go true false = refl
    go false b = refl

pub read_renamed : (f : Renaming) (v o : View) → IsRenamedView f v o → (r : Sreg) (k : ℕ) (w : Width) → read_of o r k w ≡ read_of v r k w
unfolding read_of
read_renamed f v o same r k w =
    ap (λ (x : Option Hold). read_name o k w (reached x is_readable o r k w)) (same.registers r) ∙ by_hold (in_register v.registers r) (same.bound r)
  where
    by_hold : (x : Option Hold) → ((h : Hold) → x ≡ Some h → IsIn v.held h)
        → read_name o k w (reached (option_map (renamed_hold f) x) is_readable o r k w) ≡ read_name v k w (reached x is_readable v r k w)
    by_hold None bound = refl
    by_hold (Some h) bound = read_is o r k w (renamed_hold f h) ∙ (ap (reading r k w h) (same.bytes h (bound h refl)) ∙ sym (read_is v r k w h))

abbrev renamed_place : Renaming → Result ℕ (ℕ × ℕ) → Result ℕ (ℕ × ℕ)
renamed_place f (Ok n) = Ok (f n)
renamed_place f (Err e) = Err e

room_renamed : (f : Renaming) (v o : View) → IsRenamedView f v o → (r : Sreg) (k : ℕ) (w : Width) → room_of o r k w ≡ renamed_place f (room_of v r k w)
unfolding room_of
room_renamed f v o same r k w =
    ap (λ (x : Option Hold). reached x is_writable o r k w) (same.registers r) ∙ by_hold (in_register v.registers r) (same.bound r)
  where
    by_tests : (h : Hold) (a b : Bool) → cond a (cond b (Ok (f h.name)) (Err (outside r))) (Err (13, 0)) ≡ renamed_place f (cond a (cond b (Ok h.name) (Err (outside r))) (Err (13, 0)))
    by_tests h true true = refl
    by_tests h true false = refl
    by_tests h false b = refl

    by_hold : (x : Option Hold) → ((h : Hold) → x ≡ Some h → IsIn v.held h)
        → reached (option_map (renamed_hold f) x) is_writable o r k w ≡ renamed_place f (reached x is_writable v r k w)
    by_hold None bound = refl
    by_hold (Some h) bound =
        ap (λ (bs : List ℕ). cond (is_writable h.rights) (cond (nat_le (k + width_len w) (length bs)) (Ok (f h.name)) (Err (outside r))) (Err (13, 0))) (same.bytes h (bound h refl))
        ∙ by_tests h (is_writable h.rights) (nat_le (k + width_len w) (length (v.bytes h.name)))

word_renamed : (f : Renaming) (v o : View) → IsRenamedView f v o → (r : Sreg) (k : ℕ) → word_there o r k ≡ word_there v r k
unfolding word_there
word_renamed f v o same r k = ap value_or_zero (read_renamed f v o same r k Word)

-- Loads.

here_renamed : (f : Renaming) (v o : View) → IsRenamedView f v o → (absent s : ℕ) (h : Hold) → IsIn v.held h → here o absent s (renamed_hold f h) ≡ here v absent s h
here_renamed f v o same absent s h there =
    ap (λ (d : Bool). cond d (trap_of absent s) (cond (o.present (f h.name)) loaded.Done (loaded.Miss (selector s)))) (same.discarded h there)
    ∙ ap (λ (p : Bool). cond (v.discarded h.name) (trap_of absent s) (cond p loaded.Done (loaded.Miss (selector s)))) (same.present h there)

when_renamed : (f : Renaming) (v o : View) → IsRenamedView f v o → (absent s : ℕ) (ok : ℕ → Bool) (x : Option Hold) → ((h : Hold) → x ≡ Some h → IsIn v.held h)
    → when o absent s ok (option_map (renamed_hold f) x) ≡ when v absent s ok x
when_renamed f v o same absent s ok None there = refl
when_renamed f v o same absent s ok (Some h) there = ap (λ (l : Loaded). cond (ok h.rights) l (refused s)) (here_renamed f v o same absent s h (there h refl))

called_renamed : (f : Renaming) (v o : View) → IsRenamedView f v o → (s : ℕ) (x : Option Hold) → ((h : Hold) → x ≡ Some h → IsIn v.held h)
    → called o s (option_map (renamed_hold f) x) ≡ called v s x
called_renamed f v o same s None there = ap (through_gate s) (gate_renamed f v o same s)
called_renamed f v o same s (Some h) there = ap (λ (l : Loaded). cond (is_code h.rights) l (refused s)) (here_renamed f v o same 11 s h (there h refl))

pub probe_renamed : (f : Renaming) (v o : View) → IsRenamedView f v o → (p : Purpose) (s : ℕ) → probe_of o p (selector s) ≡ probe_of v p (selector s)
unfolding probe_of
probe_renamed f v o same p s = go p
  where
    there : (h : Hold) → found v s ≡ Some h → IsIn v.held h
    there h e = found_is_in v.held s h e

    passing : (absent : ℕ) (ok : ℕ → Bool) → when o absent s ok (found o s) ≡ when v absent s ok (found v s)
    passing absent ok = ap (when o absent s ok) (found_renamed f v.held o.held same.held s) ∙ when_renamed f v o same absent s ok (found v s) there

    calling : called o s (found o s) ≡ called v s (found v s)
    calling = ap (called o s) (found_renamed f v.held o.held same.held s) ∙ called_renamed f v o same s (found v s) there

    go : (p : Purpose) → probe_of o p (selector s) ≡ probe_of v p (selector s)
    go DataReg = ap (λ (l : Loaded). cond (is_null s) loaded.Done l) (passing 11 is_readable)
    go StackReg = ap (λ (l : Loaded). cond (is_null s) (loaded.Trap 13 0) (cond (s % 4 == 3) l (refused s))) (passing 12 is_writable)
    go Jump = ap (λ (l : Loaded). cond (is_null s) (loaded.Trap 13 0) l) (passing 11 is_code)
    go Call = ap (λ (l : Loaded). cond (is_null s) (loaded.Trap 13 0) l) calling
    go Return = ap (λ (l : Loaded). cond (is_null s) (loaded.Trap 13 0) (cond (s % 4 == 3) l (refused s))) (passing 11 is_code)

size_renamed : (f : Renaming) (v o : View) → IsRenamedView f v o → (s : ℕ) → size_at o s ≡ size_at v s
unfolding size_at
size_renamed f v o same s = ap (option_map (λ (h : Hold). o.size h.name)) (found_renamed f v.held o.held same.held s) ∙ by_hold (found v s) (found_is_in v.held s)
  where
    by_hold : (x : Option Hold) → ((h : Hold) → x ≡ Some h → IsIn v.held h)
        → option_map (λ (h : Hold). o.size h.name) (option_map (renamed_hold f) x) ≡ option_map (λ (h : Hold). v.size h.name) x
    by_hold None there = refl
    by_hold (Some h) there = ap Some (same.size h (there h refl))

rights_renamed : (f : Renaming) (v o : View) → IsRenamedView f v o → (s : ℕ) → rights_at o s ≡ rights_at v s
unfolding rights_at
rights_renamed f v o same s =
    ap (λ (x : Option Hold). rights_or_gate x (gate_at o s)) (found_renamed f v.held o.held same.held s)
    ∙ (by_hold (found v s) ∙ ap (rights_or_gate (found v s)) (gate_renamed f v o same s))
  where
    by_hold : (x : Option Hold) → rights_or_gate (option_map (renamed_hold f) x) (gate_at o s) ≡ rights_or_gate x (gate_at o s)
    by_hold None = refl
    by_hold (Some h) = refl

-- Changes.

put_register : (P : Option Hold → Option Hold → Type 0) (a b : Registers) (r q : Sreg) (x y : Option Hold) → P x y
    → ((q : Sreg) → P (in_register a q) (in_register b q)) → P (in_register (with_register a r x) q) (in_register (with_register b r y) q)
put_register P a b Es Es x y p h = p
put_register P a b Cs Cs x y p h = p
put_register P a b Ss Ss x y p h = p
put_register P a b Ds Ds x y p h = p
put_register P a b Es q x y p h = h q
put_register P a b Cs q x y p h = h q
put_register P a b Ss q x y p h = h q
put_register P a b Ds q x y p h = h q

bind_renamed : (f : Renaming) (v o : View) (r : Sreg) (s : ℕ) → IsRenamedView f v o → IsRenamedView f (bind v r (selector s)) (bind o r (selector s))
unfolding bind
bind_renamed f v o r s same = record {
  held = same.held;
  gate = same.gate;
  registers = λ q. put_register (λ x y. y ≡ option_map (renamed_hold f) x) v.registers o.registers r q (bound_in v.held s) (bound_in o.held s) (bound_renamed f v.held o.held same.held s) same.registers;
  bound = λ q. put_register (λ x y. (h : Hold) → x ≡ Some h → IsIn v.held h) v.registers o.registers r q (bound_in v.held s) (bound_in o.held s) (bound_is_in v.held s) same.bound;
  size = same.size;
  present = same.present;
  discarded = same.discarded;
  bytes = same.bytes;
  apart = same.apart;
}

-- of one name the bytes are changed in the same way
pub put_renamed : (f : Renaming) (held : ℕ → Option Hold) (bytes others : ℕ → List ℕ) (change : List ℕ → List ℕ) (g : Hold) → KeepsApart f held → IsIn held g → SameBytes f held bytes others
    → SameBytes f held (λ n. cond (n == g.name) (change (bytes g.name)) (bytes n)) (λ n. cond (n == f g.name) (change (others (f g.name))) (others n))
put_renamed f held bytes others change g apart there same h hi =
    ap (λ (b : Bool). cond b (change (others (f g.name))) (others (f h.name))) (same_test f held apart g h there hi)
    ∙ (ap (λ (bs : List ℕ). cond (h.name == g.name) (change bs) (others (f h.name))) (same g there)
    ∙ ap (λ (bs : List ℕ). cond (h.name == g.name) (change (bytes g.name)) bs) (same h hi))

poke_hold_renamed : (f : Renaming) (v o : View) (x : Option Hold) (k : ℕ) (w : Width) (n : ℕ) → IsRenamedView f v o → ((h : Hold) → x ≡ Some h → IsIn v.held h)
    → IsRenamedView f (poke_hold v x k w n) (poke_hold o (option_map (renamed_hold f) x) k w n)
poke_hold_renamed f v o None k w n same there = same
poke_hold_renamed f v o (Some h) k w n same there = go (is_writable h.rights)
  where
    go : (b : Bool) → IsRenamedView f (cond b (with_bytes v h.name (put_at (v.bytes h.name) k w n)) v) (cond b (with_bytes o (f h.name) (put_at (o.bytes (f h.name)) k w n)) o)
    go true = record {
      held = same.held;
      gate = same.gate;
      registers = same.registers;
      bound = same.bound;
      size = same.size;
      present = same.present;
      discarded = same.discarded;
      bytes = put_renamed f v.held v.bytes o.bytes (λ bs. put_at bs k w n) h same.apart (there h refl) same.bytes;
      apart = same.apart;
    }
    go false = same

poke_renamed : (f : Renaming) (v o : View) (r : Sreg) (k : ℕ) (w : Width) (n : ℕ) → IsRenamedView f v o → IsRenamedView f (poke v r k w n) (poke o r k w n)
unfolding poke
poke_renamed f v o r k w n same =
    subst (λ (x : Option Hold). IsRenamedView f (poke_hold v (in_register v.registers r) k w n) (poke_hold o x k w n)) (sym (same.registers r))
    (poke_hold_renamed f v o (in_register v.registers r) k w n same (same.bound r))

changed_renamed : (f : Renaming) (cs : List Change) (v o : View) → IsRenamedView f v o → IsRenamedView f (changed cs v) (changed cs o)
changed_renamed f [] v o same = same
changed_renamed f (Bind r s ∷ cs) v o same = changed_renamed f cs (bind v r (selector s)) (bind o r (selector s)) (bind_renamed f v o r s same)
changed_renamed f (Write r k w x ∷ cs) v o same = changed_renamed f cs (poke v r k w x) (poke o r k w x) (poke_renamed f v o r k w x same)
changed_renamed f (Copy r a b ∷ cs) v o same =
    subst (λ (x : ℕ). IsRenamedView f (changed cs (poke v r b Word (word_there v r a))) (changed cs (poke o r b Word x))) (sym (word_renamed f v o same r a))
    (changed_renamed f cs (poke v r b Word (word_there v r a)) (poke o r b Word (word_there v r a)) (poke_renamed f v o r b Word (word_there v r a) same))

-- A run.

behind_check : (f : Renaming) (q : Result ℕ Stop) (g h : ℕ → Result State Stop) → ((x : ℕ) → IsRenamedResult f (g x) (h x)) → IsRenamedResult f (q >>= g) (q >>= h)
behind_check f (Ok x) g h same = same x
behind_check f (Err e) g h same = refl

behind_room : (f : Renaming) (q : Result ℕ (ℕ × ℕ)) (r s : Result State Stop) → IsRenamedResult f r s
    → IsRenamedResult f (or_trap q >>= (λ (_ : ℕ). r)) (or_trap (renamed_place f q) >>= (λ (_ : ℕ). s))
behind_room f (Ok x) r s same = same
behind_room f (Err e) r s same = refl

pub run_renamed : (f : Renaming) (p : Steps) (v o : View) → IsRenamedView f v o → IsRenamedResult f (run p v) (run p o)
run_renamed f (Stops e) v o same = refl
run_renamed f (Ends c cs) v o same = record { cpu = refl; view = changed_renamed f cs v o same }
run_renamed f (Reads r k w g) v o same =
    subst (λ (q : Result ℕ (ℕ × ℕ)). IsRenamedResult f (run (Reads r k w g) v) (or_trap q >>= (λ x. run (g x) o))) (sym (read_renamed f v o same r k w))
    (behind_check f (or_trap (read_of v r k w)) (λ x. run (g x) v) (λ x. run (g x) o) (λ x. run_renamed f (g x) v o same))
run_renamed f (Room r k w p) v o same =
    subst (λ (q : Result ℕ (ℕ × ℕ)). IsRenamedResult f (run (Room r k w p) v) (or_trap q >>= (λ (_ : ℕ). run p o))) (sym (room_renamed f v o same r k w))
    (behind_room f (room_of v r k w) (run p v) (run p o) (run_renamed f p v o same))
run_renamed f (Loads purpose s next p) v o same =
    subst (λ (l : Loaded). IsRenamedResult f (run (Loads purpose s next p) v) (passed next l >>= (λ (_ : ℕ). run p o))) (sym (probe_renamed f v o same purpose s))
    (behind_check f (passed next (probe_of v purpose (selector s))) (λ _. run p v) (λ _. run p o) (λ _. run_renamed f p v o same))
run_renamed f (Sizes s g) v o same =
    subst (λ (q : Option ℕ). IsRenamedResult f (run (Sizes s g) v) (run (g q) o)) (sym (size_renamed f v o same s)) (run_renamed f (g (size_at v s)) v o same)
run_renamed f (Rights s g) v o same =
    subst (λ (q : Option ℕ). IsRenamedResult f (run (Rights s g) v) (run (g q) o)) (sym (rights_renamed f v o same s)) (run_renamed f (g (rights_at v s)) v o same)

fetched_renamed : (f : Renaming) (v o : View) → IsRenamedView f v o → (ip : ℕ) → fetched o ip ≡ fetched v ip
unfolding fetched
fetched_renamed f v o same ip = ap (λ (bs : List ℕ). take 10 (drop ip bs)) (ap (hold_bytes o) (same.registers Cs) ∙ by_hold (in_register v.registers Cs) (same.bound Cs))
  where
    by_hold : (x : Option Hold) → ((h : Hold) → x ≡ Some h → IsIn v.held h) → hold_bytes o (option_map (renamed_hold f) x) ≡ hold_bytes v x
    by_hold None there = refl
    by_hold (Some h) there = same.bytes h (there h refl)

-- one step
pub stepped_renamed : (f : Renaming) (c : Cpu) (v o : View) → IsRenamedView f v o → IsRenamedResult f (stepped (state c v)) (stepped (state c o))
unfolding stepped
stepped_renamed f c v o same =
    subst (λ (p : Steps). IsRenamedResult f (stepped (state c v)) (run p o)) (ap (λ (bs : List ℕ). steps_at c (decoded bs)) (sym (fetched_renamed f v o same c.ip)))
    (run_renamed f (step_steps (state c v)) v o same)
