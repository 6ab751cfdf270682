-- The lines of a step tell its changes, and of an end exactly where its process has ended.
use Rattle.std.proofs.Common.{◌≡◌, ℕ, zero, suc, ◌+◌, ◌==◌, ◌&&◌, ◌||◌, not, nat_le, Bool, true, false, cond, List, [], ◌∷◌, ◌++◌, replicate, Option, if◌then◌else◌, ap, sym, ◌∙◌, refl, arith}
use Rattle.std.specs.Prelude.{Result, Ok, Err, flat_map}
use Rattle.o2_isa.specs.declared.cpu.Stop.{Stop}
use Rattle.o2_isa.specs.declared.cpu.Stop.TheVariants as stop
use Rattle.o2_isa.specs.Steps.{State as Machine, state}
use Rattle.o2_isa.specs.Step.{stepped}
use Rattle.o2_base.specs.Selectors.{selector_of}
use Rattle.o2_world.specs.declared.types.State.TheVariants.{Trapped}
use Rattle.o2_world.specs.World.{Line, HoldsBy, DropsBy, Traps, is_live}
use Rattle.o2_world.specs.Changes.{Change, Makes, Resizes, Locks, Marks, Holds, Drops, Finishes, Reserves, Frees, Names, among, drop_lines_of, hold_lines_of, in_order, key_of, moved_lines}
use Rattle.o2_world.specs.CallParts.{Before, Effect, trapped}
use Rattle.o2_world.specs.Outcomes.{CallRow, Does, Fails, Waits, Leaves, Outcome, come_out}
use Rattle.o2_world.specs.Calls.{row_of, served_by}
use Rattle.o2_world.specs.Effect.{has_trap_flag, answered, single_stepped, effect}
use Rattle.o2_world.specs.Reach.{came, went, tells_end, Tells}
use Rattle.o2_world.proofs.Serving.{by_row}
use Rattle.o2_world.proofs.Reached.{came_append, went_append}
use Rattle.o2_world.proofs.RunReach.{end_append}

-- Of services that change no hold: no line of a hold or a drop, and one of an end exactly where the process has ended.
record IsPlain (n : ℕ) (e : Effect) : Type 0 where
  comes : (q s : ℕ) → came e.lines q s ≡ 0
  goes : (q s : ℕ) → went e.lines q s ≡ 0
  ends : (q : ℕ) → tells_end e.lines q ≡ (not (is_live e.state) && (q == n))

neither : (a t : Bool) → a ≡ false → t ≡ false → (a || t) ≡ false
neither true t e f = absurd (cc)
neither false t e f = f

both_false : (a t : Bool) → (a || t) ≡ false → (a ≡ false) × (t ≡ false)
both_false true t e = absurd (cc)
both_false false t e = (refl, e)

one_end : (b : Bool) → (if b then true else false) ≡ b
one_end true = refl
one_end false = refl

-- Each row tells its changes.

pub record IsToldBy (n : ℕ) (e : Effect) : Type 0 where
  pub tells : Tells e
  pub ends : (q : ℕ) → tells_end e.lines q ≡ (not (is_live e.state) && (q == n))

nothing_comes : (q t : ℕ) → came (moved_lines [] []) q t ≡ 0
unfolding moved_lines
nothing_comes q t = refl

nothing_goes : (q t : ℕ) → went (moved_lines [] []) q t ≡ 0
unfolding moved_lines
nothing_goes q t = refl

quiet_told : (n : ℕ) (e : Effect) → e.changes ≡ [] → IsPlain n e → IsToldBy n e
quiet_told n e quiet plain = record {
  tells = record {
    cause = [];
    came_by = λ q t. plain.comes q t ∙ sym (ap (λ (cs : List Change). came (moved_lines [] cs) q t) quiet ∙ nothing_comes q t);
    went_by = λ q t. plain.goes q t ∙ sym (ap (λ (cs : List Change). went (moved_lines [] cs) q t) quiet ∙ nothing_goes q t);
  };
  ends = plain.ends;
}

-- lines of holds and drops tell no end

times_end : (n : ℕ) (l : Line) (q : ℕ) → tells_end (l ∷ []) q ≡ false → tells_end (replicate n l) q ≡ false
times_end zero l q e = refl
times_end (suc n) l q e = end_append (l ∷ []) (replicate n l) q ∙ neither _ _ e (times_end n l q e)

hold_ends : (cause : List ℕ) (c : Change) (q : ℕ) → tells_end (hold_lines_of cause c) q ≡ false
hold_ends cause (Holds p i h) q = times_end h.holds (HoldsBy p (selector_of i) cause) q refl
hold_ends cause (Makes g) q = refl
hold_ends cause (Resizes n size) q = refl
hold_ends cause (Locks n count) q = refl
hold_ends cause (Marks n d) q = refl
hold_ends cause (Drops p i count) q = refl
hold_ends cause (Finishes p state) q = refl
hold_ends cause (Reserves r) q = refl
hold_ends cause (Frees r first) q = refl
hold_ends cause (Names text n) q = refl

drop_ends : (cause : List ℕ) (c : Change) (q : ℕ) → tells_end (drop_lines_of cause c) q ≡ false
drop_ends cause (Drops p i count) q = times_end count (DropsBy p (selector_of i) cause) q refl
drop_ends cause (Makes g) q = refl
drop_ends cause (Resizes n size) q = refl
drop_ends cause (Locks n count) q = refl
drop_ends cause (Marks n d) q = refl
drop_ends cause (Holds p i h) q = refl
drop_ends cause (Finishes p state) q = refl
drop_ends cause (Reserves r) q = refl
drop_ends cause (Frees r first) q = refl
drop_ends cause (Names text n) q = refl

all_end : (f : Change → List Line) (q : ℕ) → ((c : Change) → tells_end (f c) q ≡ false) → (cs : List Change) → tells_end (flat_map f cs) q ≡ false
all_end f q none [] = refl
all_end f q none (c ∷ cs) = end_append (f c) (flat_map f cs) q ∙ neither _ _ (none c) (all_end f q none cs)

-- in whatever order the lines come
among_ends : (l : Line) (xs : List Line) (q : ℕ) → tells_end (l ∷ []) q ≡ false → tells_end xs q ≡ false → tells_end (among l xs) q ≡ false
among_ends l [] q one none = one
among_ends l (x ∷ xs) q one none =
    let parts = both_false (tells_end (x ∷ []) q) (tells_end xs q) (sym (end_append (x ∷ []) xs q) ∙ none) in
    go parts.0 (among_ends l xs q one parts.1) (nat_le (key_of l) (key_of x))
  where
    go : tells_end (x ∷ []) q ≡ false → tells_end (among l xs) q ≡ false → (b : Bool) → tells_end (cond b (l ∷ x ∷ xs) (x ∷ among l xs)) q ≡ false
    go first later true = end_append (l ∷ []) (x ∷ xs) q ∙ neither _ _ one none
    go first later false = end_append (x ∷ []) (among l xs) q ∙ neither _ _ first later

ordered_ends : (xs : List Line) (q : ℕ) → tells_end xs q ≡ false → tells_end (in_order xs) q ≡ false
ordered_ends [] q none = refl
ordered_ends (x ∷ xs) q none =
    let parts = both_false (tells_end (x ∷ []) q) (tells_end xs q) (sym (end_append (x ∷ []) xs q) ∙ none) in
    among_ends x (in_order xs) q parts.0 (ordered_ends xs q parts.1)

moved_ends : (cause : List ℕ) (cs : List Change) (q : ℕ) → tells_end (moved_lines cause cs) q ≡ false
unfolding moved_lines
moved_ends cause cs q =
    end_append (in_order (flat_map (hold_lines_of cause) cs)) (in_order (flat_map (drop_lines_of cause) cs)) q
    ∙ neither _ _
    (ordered_ends (flat_map (hold_lines_of cause) cs) q (all_end (hold_lines_of cause) q (λ c. hold_ends cause c q) cs))
    (ordered_ends (flat_map (drop_lines_of cause) cs) q (all_end (drop_lines_of cause) q (λ c. drop_ends cause c q) cs))

come_told : (r : CallRow) (b : Before) (next : ℕ) (a : ℕ → ℕ) (o : Outcome) → IsToldBy b.number (come_out r b next a o)
come_told r b next a (Fails error values) = quiet_told b.number (come_out r b next a (Fails error values)) refl (record { comes = λ q s. refl; goes = λ q s. refl; ends = λ q. refl })
come_told r b next a (Does d) = record {
  tells = record { cause = r.name; came_by = λ q t. omega arith; went_by = λ q t. omega arith };
  ends = λ q. moved_ends r.name d.changes q;
}
come_told r b next a Waits = quiet_told b.number (come_out r b next a Waits) refl (record { comes = λ q s. refl; goes = λ q s. refl; ends = λ q. refl })
come_told r b next a (Leaves action code) =
    quiet_told b.number (come_out r b next a (Leaves action code)) refl (record { comes = λ q s. refl; goes = λ q s. refl; ends = λ q. one_end (q == b.number) })

trap_told : (b : Before) (vector : ℕ) → IsToldBy b.number (trapped b vector)
trap_told b vector = quiet_told b.number (trapped b vector) refl (record { comes = λ q s. refl; goes = λ q s. refl; ends = λ q. one_end (q == b.number) })

pub served_told : (o : Option CallRow) (b : Before) (next : ℕ) → IsToldBy b.number (served_by o b next)
served_told o b next = by_row (IsToldBy b.number) b next (trap_told b 12) (trap_told b 13) (λ r a good. come_told r b next a (r.outcome b a)) o

answered_told : (b : Before) (r : Result Machine Stop) → IsToldBy b.number (answered b r)
answered_told b (Ok s) = quiet_told b.number (answered b (Ok s)) refl (record { comes = λ q t. refl; goes = λ q t. refl; ends = λ q. refl })
answered_told b (Err (stop.Trap vector code)) = trap_told b vector
answered_told b (Err (stop.Gate service next)) = served_told (row_of service) b next
answered_told b (Err (stop.Miss s)) = trap_told b 11

-- exception 1 behind a step that the process outlives
trapped_told : (b : Before) (e : Effect) → is_live e.state ≡ true → IsToldBy b.number e → IsToldBy b.number (record e { state = Trapped 1; lines = e.lines ++ Traps b.number 1 b.cpu.cs b.cpu.ip ∷ [] })
trapped_told b e lives told = record {
  tells = record {
    cause = told.tells.cause;
    came_by = λ q s. came_append e.lines (Traps b.number 1 b.cpu.cs b.cpu.ip ∷ []) q s ∙ plus_zero (came e.lines q s) ∙ told.tells.came_by q s;
    went_by = λ q s. went_append e.lines (Traps b.number 1 b.cpu.cs b.cpu.ip ∷ []) q s ∙ plus_zero (went e.lines q s) ∙ told.tells.went_by q s;
  };
  ends = λ q. end_append e.lines (Traps b.number 1 b.cpu.cs b.cpu.ip ∷ []) q ∙ ap (λ (t : Bool). t || (if q == b.number then true else false)) (told.ends q ∙ ap (λ (t : Bool). not t && (q == b.number)) lives) ∙ one_end (q == b.number);
}
  where
    plus_zero : (n : ℕ) → n + 0 ≡ n
    plus_zero n = omega arith

single_told : (b : Before) (e : Effect) → IsToldBy b.number e → IsToldBy b.number (single_stepped b e)
single_told b e told = go (has_trap_flag b.cpu.flags) (is_live e.state) (not e.waits) refl
  where
    go : (t l n : Bool) → is_live e.state ≡ l → IsToldBy b.number (cond (t && (l && n)) (record e { state = Trapped 1; lines = e.lines ++ Traps b.number 1 b.cpu.cs b.cpu.ip ∷ [] }) e)
    go true true true lives = trapped_told b e lives told
    go true true false lives = told
    go true false n lives = told
    go false l n lives = told

pub effect_told : (b : Before) → IsToldBy b.number (effect b)
unfolding effect
effect_told b = single_told b (answered b (stepped (state b.cpu b.view))) (answered_told b (stepped (state b.cpu b.view)))
