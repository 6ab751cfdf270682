-- A step that asks the input changes nothing but bytes, and leaves the segment registers as they are.
use Rattle.std.proofs.Common.{◌≡◌, ℕ, Bool, true, false, not, [], ◌∷◌, ◌++◌, ◌&&◌, ◌==◌, if◌then◌else◌, refl, sym, subst}
use Rattle.std.specs.Prelude.{Err, codes}
use Rattle.o2_isa.specs.declared.cpu.Stop.TheVariants as stop
use Rattle.o2_isa.specs.Presence.{SameSelectors}
use Rattle.o2_world.specs.declared.types.State.TheVariants.{Trapped}
use Rattle.o2_world.specs.World.{is_live, Traps}
use Rattle.o2_world.specs.Calls.{Before, Effect, row_of, serviced}
use Rattle.o2_world.specs.Effect.{AsksInput, effect, has_trap_flag}
use Rattle.o2_world.specs.Calls.{argument, read_slots, reading}
use Rattle.o2_world.specs.Outcomes.{Outcome, come_out, row}
use Rattle.o2_world.proofs.Quiet.{read_quiet, served_quiet}
use Rattle.o2_world.proofs.Serving.{by_parts}
use Rattle.o2_stepping.proofs.Leaving.{effect_by}

pub record IsQuiet (b : Before) (e : Effect) : Type 0 where
  pub selectors : SameSelectors e.cpu b.cpu
  pub changes : e.changes ≡ []

-- exception 1 behind it, or none
quiet_more : (b : Before) (e : Effect) (flag live : Bool) → IsQuiet b e
    → IsQuiet b (if flag && live then record e { state = Trapped 1; lines = e.lines ++ Traps b.number 1 b.cpu.cs b.cpu.ip ∷ [] } else e)
quiet_more b e true true q = record { selectors = q.selectors; changes = q.changes }
quiet_more b e true false q = q
quiet_more b e false live q = q

either_out : (P : Outcome → Type 0) (t : Bool) (o q : Outcome) → P o → P q → P (if t then o else q)
either_out P true o q h k = h
either_out P false o q h k = k

-- a DosRead by its row
read_call : (b : Before) (next : ℕ) → IsQuiet b (serviced b 3 next)
unfolding row_of
read_call b next =
    let r = row (codes "DosRead") read_slots reading in
    let a : ℕ → ℕ = argument b.view b.cpu in
    record {
      selectors =
          by_parts (λ (e : Effect). SameSelectors e.cpu b.cpu) r b next
          (record { es = refl; cs = refl; ss = refl; ds = refl }) (record { es = refl; cs = refl; ss = refl; ds = refl })
          (λ lies good. either_out (λ (o : Outcome). SameSelectors (come_out r b next a o).cpu b.cpu) (a 5 == 0) _ _
          (record { es = refl; cs = refl; ss = refl; ds = refl }) (record { es = refl; cs = refl; ss = refl; ds = refl }));
      changes = served_quiet r b next read_quiet;
    }

pub reads_quietly : (b : Before) → AsksInput b → IsQuiet b (effect b)
reads_quietly b asks =
    let e : Effect = serviced b 3 asks.next in
    subst (IsQuiet b) (sym (effect_by b (Err (stop.Gate 3 asks.next)) asks.calls))
    (quiet_more b e (has_trap_flag b.cpu.flags) (is_live e.state && not e.waits) (read_call b asks.next))
