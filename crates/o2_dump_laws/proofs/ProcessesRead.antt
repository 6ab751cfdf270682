-- Processes are read back.
use Rattle.std.proofs.Common.{◌≡◌, ℕ, suc, ◌+◌, ◌<◌, ◌≤◌, ◌^◌, true, List, [], ◌∷◌, ◌++◌, length, Result, Ok, refl, sym, ap, ◌∙◌, append_assoc, append-nil, length-append, arith}
use Rattle.std.specs.Prelude.{flat_map, nat_le}
use Rattle.o2_isa.specs.declared.cpu.Cpu.{Cpu}
use Rattle.o2_ne.specs.Words.{long_at, word_at}
use Rattle.o2_ne.specs.Checks.{all_hold}
use Rattle.o2_ne.specs.Steps.{steps}
use Rattle.o2_dump.specs.declared.fault.CoreFault.{CoreFault}
use Rattle.o2_dump.specs.declared.parts.Held.{Held}
use Rattle.o2_dump.specs.declared.parts.Process.{Process}
use Rattle.o2_dump.specs.declared.parts.State.{State}
use Rattle.o2_dump.specs.declared.parts.State.TheVariants.{Live, Exited, Trapped}
use Rattle.o2_dump.specs.CoreBytes.{held_bytes, long, process_bytes, register_bytes, state_number, word}
use Rattle.o2_dump.specs.FileFields.{registers_at}
use Rattle.o2_dump.specs.ProcessEntries.{ProcessesSoFar, held_of, held_step, process_checks, process_step, state_of}
use Rattle.o2_dump_laws.specs.Whole.{AreProcessesWhole, IsProcessWhole}
use Rattle.o2_dump_laws.proofs.Fields.{StandsAt, at_most, file_length, fits_in, five_hold, goes_on, long_is, stands_next, word_is}
use Rattle.o2_dump_laws.proofs.HeldRead.{held_run, least_behind}

same_state : (s : State) → state_of (state_number s) ≡ s
same_state Live = refl
same_state Exited = refl
same_state Trapped = refl

small_state : (s : State) → state_number s ≤ 2
small_state Live = omega arith
small_state Exited = omega arith
small_state Trapped = omega arith

as_process : (n : ℕ) (s : State) (c : ℕ) (r : Cpu) (h : List Held) (p : Process) → n ≡ p.number → s ≡ p.state → c ≡ p.code → r ≡ p.registers → h ≡ p.held
    → record { number = n; state = s; code = c; registers = r; held = h } ≡ p
as_process n s c r h p a b d e f =
    ap (λ (z : ℕ). let x : Process = record { number = z; state = s; code = c; registers = r; held = h } in x) a
    ∙ (ap (λ (z : State). let x : Process = record { number = p.number; state = z; code = c; registers = r; held = h } in x) b
    ∙ (ap (λ (z : ℕ). let x : Process = record { number = p.number; state = p.state; code = z; registers = r; held = h } in x) d
    ∙ (ap (λ (z : Cpu). let x : Process = record { number = p.number; state = p.state; code = p.code; registers = z; held = h } in x) e
    ∙ ap (λ (z : List Held). let x : Process = record { number = p.number; state = p.state; code = p.code; registers = p.registers; held = z } in x) f)))

as_registers : (r : Cpu) (v0 v1 v2 v3 v4 v5 v6 v7 v8 v9 v10 v11 v12 v13 : ℕ) → v0 ≡ r.ax → v1 ≡ r.cx → v2 ≡ r.dx → v3 ≡ r.bx → v4 ≡ r.sp
    → v5 ≡ r.bp → v6 ≡ r.si → v7 ≡ r.di → v8 ≡ r.ip → v9 ≡ r.flags → v10 ≡ r.cs → v11 ≡ r.ds → v12 ≡ r.es → v13 ≡ r.ss
    → record { ax = v0; cx = v1; dx = v2; bx = v3; sp = v4; bp = v5; si = v6; di = v7; ip = v8; flags = v9; cs = v10; ds = v11; es = v12; ss = v13 } ≡ r
as_registers r v0 v1 v2 v3 v4 v5 v6 v7 v8 v9 v10 v11 v12 v13 e0 e1 e2 e3 e4 e5 e6 e7 e8 e9 e10 e11 e12 e13 =
    ap (λ (z : ℕ). let x : Cpu = record { ax = z; cx = v1; dx = v2; bx = v3; sp = v4; bp = v5; si = v6; di = v7; ip = v8; flags = v9; cs = v10; ds = v11; es = v12; ss = v13 } in x) e0
    ∙ (ap (λ (z : ℕ). let x : Cpu = record { ax = r.ax; cx = z; dx = v2; bx = v3; sp = v4; bp = v5; si = v6; di = v7; ip = v8; flags = v9; cs = v10; ds = v11; es = v12; ss = v13 } in x) e1
    ∙ (ap (λ (z : ℕ). let x : Cpu = record { ax = r.ax; cx = r.cx; dx = z; bx = v3; sp = v4; bp = v5; si = v6; di = v7; ip = v8; flags = v9; cs = v10; ds = v11; es = v12; ss = v13 } in x) e2
    ∙ (ap (λ (z : ℕ). let x : Cpu = record { ax = r.ax; cx = r.cx; dx = r.dx; bx = z; sp = v4; bp = v5; si = v6; di = v7; ip = v8; flags = v9; cs = v10; ds = v11; es = v12; ss = v13 } in x) e3
    ∙ (ap (λ (z : ℕ). let x : Cpu = record { ax = r.ax; cx = r.cx; dx = r.dx; bx = r.bx; sp = z; bp = v5; si = v6; di = v7; ip = v8; flags = v9; cs = v10; ds = v11; es = v12; ss = v13 } in x) e4
    ∙ (ap (λ (z : ℕ). let x : Cpu = record { ax = r.ax; cx = r.cx; dx = r.dx; bx = r.bx; sp = r.sp; bp = z; si = v6; di = v7; ip = v8; flags = v9; cs = v10; ds = v11; es = v12; ss = v13 } in x) e5
    ∙ (ap (λ (z : ℕ). let x : Cpu = record { ax = r.ax; cx = r.cx; dx = r.dx; bx = r.bx; sp = r.sp; bp = r.bp; si = z; di = v7; ip = v8; flags = v9; cs = v10; ds = v11; es = v12; ss = v13 } in x) e6
    ∙ (ap (λ (z : ℕ). let x : Cpu = record { ax = r.ax; cx = r.cx; dx = r.dx; bx = r.bx; sp = r.sp; bp = r.bp; si = r.si; di = z; ip = v8; flags = v9; cs = v10; ds = v11; es = v12; ss = v13 } in x) e7
    ∙ (ap (λ (z : ℕ). let x : Cpu = record { ax = r.ax; cx = r.cx; dx = r.dx; bx = r.bx; sp = r.sp; bp = r.bp; si = r.si; di = r.di; ip = z; flags = v9; cs = v10; ds = v11; es = v12; ss = v13 } in x) e8
    ∙ (ap (λ (z : ℕ). let x : Cpu = record { ax = r.ax; cx = r.cx; dx = r.dx; bx = r.bx; sp = r.sp; bp = r.bp; si = r.si; di = r.di; ip = r.ip; flags = z; cs = v10; ds = v11; es = v12; ss = v13 } in x) e9
    ∙ (ap (λ (z : ℕ). let x : Cpu = record { ax = r.ax; cx = r.cx; dx = r.dx; bx = r.bx; sp = r.sp; bp = r.bp; si = r.si; di = r.di; ip = r.ip; flags = r.flags; cs = z; ds = v11; es = v12; ss = v13 } in x) e10
    ∙ (ap (λ (z : ℕ). let x : Cpu = record { ax = r.ax; cx = r.cx; dx = r.dx; bx = r.bx; sp = r.sp; bp = r.bp; si = r.si; di = r.di; ip = r.ip; flags = r.flags; cs = r.cs; ds = z; es = v12; ss = v13 } in x) e11
    ∙ (ap (λ (z : ℕ). let x : Cpu = record { ax = r.ax; cx = r.cx; dx = r.dx; bx = r.bx; sp = r.sp; bp = r.bp; si = r.si; di = r.di; ip = r.ip; flags = r.flags; cs = r.cs; ds = r.ds; es = z; ss = v13 } in x) e12
    ∙ (ap (λ (z : ℕ). let x : Cpu = record { ax = r.ax; cx = r.cx; dx = r.dx; bx = r.bx; sp = r.sp; bp = r.bp; si = r.si; di = r.di; ip = r.ip; flags = r.flags; cs = r.cs; ds = r.ds; es = r.es; ss = z } in x) e13)))))))))))))

-- what stands of a process in front of what it holds
abbrev front_of : Process → List ℕ
front_of p = word p.number ++ word (state_number p.state) ++ word p.code ++ register_bytes p.registers ++ long (length p.held)

module _ (file : List ℕ) (at_place : ℕ) (p : Process) (rest : List ℕ) (segments least : ℕ) (few : segments < 2 ^ 32) (whole_p : IsProcessWhole segments least p)
    (at : StandsAt file at_place (process_bytes p ++ rest)) where
  xs : List ℕ
  xs = process_bytes p ++ rest

  number_is : word_at file at_place ≡ p.number
  unfolding xs
  number_is = word_is file at_place at_place 0 p.number xs at (omega arith) refl refl whole_p.number

  state_is : word_at file (at_place + 2) ≡ state_number p.state
  unfolding xs
  state_is = word_is file at_place (at_place + 2) 2 (state_number p.state) xs at refl refl refl (let s : state_number p.state ≤ 2 = small_state p.state in omega arith)

  code_is : word_at file (at_place + 4) ≡ p.code
  unfolding xs
  code_is = word_is file at_place (at_place + 4) 4 p.code xs at refl refl refl whole_p.code

  count_is : long_at file (at_place + 34) ≡ length p.held
  unfolding xs
  count_is = long_is file at_place (at_place + 34) 34 (length p.held) xs at refl refl refl refl refl whole_p.count

  registers_are : registers_at file (at_place + 6) ≡ p.registers
  unfolding xs
  registers_are =
      let r = p.registers in
      let w = whole_p.registers in
      let ax : word_at file (at_place + 6) ≡ r.ax = word_is file at_place (at_place + 6) 6 r.ax xs at refl refl refl w.ax in
      let cx : word_at file (at_place + 6 + 2) ≡ r.cx = word_is file at_place (at_place + 6 + 2) 8 r.cx xs at (omega arith) refl refl w.cx in
      let dx : word_at file (at_place + 6 + 4) ≡ r.dx = word_is file at_place (at_place + 6 + 4) 10 r.dx xs at (omega arith) refl refl w.dx in
      let bx : word_at file (at_place + 6 + 6) ≡ r.bx = word_is file at_place (at_place + 6 + 6) 12 r.bx xs at (omega arith) refl refl w.bx in
      let sp : word_at file (at_place + 6 + 8) ≡ r.sp = word_is file at_place (at_place + 6 + 8) 14 r.sp xs at (omega arith) refl refl w.sp in
      let bp : word_at file (at_place + 6 + 10) ≡ r.bp = word_is file at_place (at_place + 6 + 10) 16 r.bp xs at (omega arith) refl refl w.bp in
      let si : word_at file (at_place + 6 + 12) ≡ r.si = word_is file at_place (at_place + 6 + 12) 18 r.si xs at (omega arith) refl refl w.si in
      let di : word_at file (at_place + 6 + 14) ≡ r.di = word_is file at_place (at_place + 6 + 14) 20 r.di xs at (omega arith) refl refl w.di in
      let ip : word_at file (at_place + 6 + 16) ≡ r.ip = word_is file at_place (at_place + 6 + 16) 22 r.ip xs at (omega arith) refl refl w.ip in
      let flags : word_at file (at_place + 6 + 18) ≡ r.flags = word_is file at_place (at_place + 6 + 18) 24 r.flags xs at (omega arith) refl refl w.flags in
      let cs : word_at file (at_place + 6 + 20) ≡ r.cs = word_is file at_place (at_place + 6 + 20) 26 r.cs xs at (omega arith) refl refl w.cs in
      let ds : word_at file (at_place + 6 + 22) ≡ r.ds = word_is file at_place (at_place + 6 + 22) 28 r.ds xs at (omega arith) refl refl w.ds in
      let es : word_at file (at_place + 6 + 24) ≡ r.es = word_is file at_place (at_place + 6 + 24) 30 r.es xs at (omega arith) refl refl w.es in
      let ss : word_at file (at_place + 6 + 26) ≡ r.ss = word_is file at_place (at_place + 6 + 26) 32 r.ss xs at (omega arith) refl refl w.ss in
      as_registers r _ _ _ _ _ _ _ _ _ _ _ _ _ _ ax cx dx bx sp bp si di ip flags cs ds es ss

  room : at_place + 38 ≤ length file
  unfolding xs
  room = let e : length file ≡ at_place + length (process_bytes p ++ rest) = file_length file at_place xs at in omega (arith, e)

  checks : all_hold (process_checks file least at_place) ≡ Ok tt
  checks =
      let rises : nat_le least (word_at file at_place) ≡ true = rw number_is (at_most least p.number whole_p.rises) in
      let known : nat_le (word_at file (at_place + 2)) 2 ≡ true = rw state_is (at_most (state_number p.state) 2 (small_state p.state)) in
      five_hold _ _ _ _ _ (fits_in file at_place 2 (omega (arith, room))) rises (fits_in file (at_place + 2) 2 (omega (arith, room))) known (fits_in file (at_place + 4) 34 (omega (arith, room)))

  -- the place behind it
  abbrev behind : ℕ
  behind = at_place + 38 + length (flat_map held_bytes p.held)

  held_are : held_of file segments at_place ≡ Ok (record { found = p.held; least = least_behind 0 p.held; place = behind })
  held_are =
      let here : StandsAt file (at_place + 38) (flat_map held_bytes p.held ++ rest) =
      stands_next file at_place (at_place + 38) _ (front_of p) _ at (append_assoc (front_of p) (flat_map held_bytes p.held) rest) refl in
      ap (λ (n : ℕ). steps (held_step file segments) n (record { found = []; least = 0; place = at_place + 38 })) count_is
      ∙ held_run p.held file (at_place + 38) behind rest segments 0 [] few whole_p.held here refl

  pub process_step_is : (found : List Process) (q : ℕ) → q ≡ behind
      → process_step file segments (record { found = found; least = least; place = at_place }) ≡ Ok (record { found = found ++ p ∷ []; least = p.number + 1; place = q })
  unfolding process_step
  process_step_is found q e =
      goes_on _ tt _ _ checks
      (goes_on _ _ _ _ held_are
      (ap (λ (z : Process). let r : ProcessesSoFar = record { found = found ++ z ∷ []; least = word_at file at_place + 1; place = behind } in Ok r)
      (as_process _ _ _ _ _ p number_is (ap state_of state_is ∙ same_state p.state) code_is registers_are refl)
      ∙ (ap (λ (z : ℕ). let r : ProcessesSoFar = record { found = found ++ p ∷ []; least = z + 1; place = behind } in Ok r) number_is
      ∙ ap (λ (z : ℕ). let r : ProcessesSoFar = record { found = found ++ p ∷ []; least = p.number + 1; place = z } in Ok r) (sym e))))

-- ---- all

abbrev pub number_behind : ℕ → List Process → ℕ
number_behind least [] = least
number_behind least (p ∷ ps) = number_behind (p.number + 1) ps

one_more : (f : ProcessesSoFar → Result ProcessesSoFar CoreFault) (n : ℕ) (a b : ProcessesSoFar) (c : Result ProcessesSoFar CoreFault) → f a ≡ Ok b → steps f n b ≡ c → steps f (suc n) a ≡ c
unfolding steps
one_more f n a b c e g = rw e g

no_more : (f : ProcessesSoFar → Result ProcessesSoFar CoreFault) (a : ProcessesSoFar) → steps f 0 a ≡ Ok a
unfolding steps
no_more f a = refl

process_length : (p : Process) → length (process_bytes p) ≡ 38 + length (flat_map held_bytes p.held)
process_length p = length-append (front_of p) (flat_map held_bytes p.held)

pub processes_run : (ps : List Process) (file : List ℕ) (a b : ℕ) (rest : List ℕ) (segments least : ℕ) (found : List Process) → segments < 2 ^ 32 → AreProcessesWhole segments least ps
    → StandsAt file a (flat_map process_bytes ps ++ rest) → b ≡ a + length (flat_map process_bytes ps)
    → steps (process_step file segments) (length ps) (record { found = found; least = least; place = a })
    ≡ Ok (record { found = found ++ ps; least = number_behind least ps; place = b })
processes_run [] file a b rest segments least found few whole at e =
    no_more _ _
    ∙ (ap (λ (z : List Process). let r : ProcessesSoFar = record { found = z; least = least; place = a } in Ok r) (sym (append-nil found))
    ∙ ap (λ (z : ℕ). let r : ProcessesSoFar = record { found = found ++ []; least = least; place = z } in Ok r) (let f : a ≡ b = omega arith in f))
processes_run (p ∷ ps) file a b rest segments least found few whole at e =
    let tail = flat_map process_bytes ps ++ rest in
    let regroup : (process_bytes p ++ flat_map process_bytes ps) ++ rest ≡ process_bytes p ++ tail = append_assoc (process_bytes p) (flat_map process_bytes ps) rest in
    let here : StandsAt file a (process_bytes p ++ tail) = record { front = at.front; splits = at.splits ∙ ap (λ (z : List ℕ). at.front ++ z) regroup; place = at.place } in
    let mid : ℕ = a + length (process_bytes p) in
    let next : StandsAt file mid tail = stands_next file a mid _ (process_bytes p) _ here refl refl in
    let reaches : mid ≡ a + 38 + length (flat_map held_bytes p.held) = omega (arith, process_length p) in
    let behind : b ≡ mid + length (flat_map process_bytes ps) = omega (arith, e, length-append (process_bytes p) (flat_map process_bytes ps)) in
    one_more _ _ _ _ _ (process_step_is file a p tail segments least few whole.0 here found mid reaches)
    (processes_run ps file mid b rest segments (p.number + 1) (found ++ p ∷ []) few whole.1 next behind
    ∙ ap (λ (z : List Process). let r : ProcessesSoFar = record { found = z; least = number_behind (p.number + 1) ps; place = b } in Ok r) (append_assoc found (p ∷ []) ps))
