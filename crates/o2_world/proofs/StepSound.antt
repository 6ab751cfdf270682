-- A step keeps a sound world sound.
use Rattle.std.proofs.Common.{◌≡◌, ℕ, ◌-◌, Bool, true, false, [], ◌∷◌, length, Option, Some, if◌then◌else◌, ap, sym, ◌∙◌, refl, subst}
use Rattle.o2_conf.specs.Dispatch.{Dispatch}
use Rattle.o2_world.specs.declared.types.State.TheVariants.{Live}
use Rattle.o2_world.specs.Map.{get}
use Rattle.o2_world.specs.World.{World, Setting, Process, Segment, is_live}
use Rattle.o2_world.specs.Holders.{process_at}
use Rattle.o2_world.specs.Sound.{HasGoodRegisters}
use Rattle.o2_world.specs.Views.{segment_bytes}
use Rattle.o2_world.specs.Changes.{Finishes}
use Rattle.o2_isa.specs.SegmentLoads.{LoadsByRules}
use Rattle.o2_world.specs.Calls.{Before, Effect}
use Rattle.o2_world.specs.Moves.{AllMoves}
use Rattle.o2_world.specs.Effect.{effect}
use Rattle.o2_world.specs.Run.{all_changes, before, changed, worked, working, acted, step, chosen_step, is_over, any_lives, live_flags, next_dispatch, ready}
use Rattle.o2_world.specs.Tied.{AllSpareDiscarded, AreFitChanges, IsSound, IsTied, KeepsDiscarded}
use Rattle.o2_world.proofs.Budget.{not_over}
use Rattle.o2_world.proofs.Words.{ready_stays}
use Rattle.o2_world.proofs.Discarding.{ready_sound}
use Rattle.o2_world.proofs.DiscardedStays.{all_keep, spare_more}
use Rattle.o2_world.proofs.DiscardedSteps.{all_moves_spare_discarded, worked_keeps}
use Rattle.o2_world.proofs.Unreached.{IsUnreached, effect_keeps}
use Rattle.o2_conf.proofs.Choice.{chosen_lives}
use Rattle.o2_world.proofs.Flags.{live_process}
use Rattle.o2_world.proofs.GoodRegisters.{good_after, effect_ruled}
use Rattle.o2_world.proofs.Numbers.{at_place_of}
use Rattle.o2_world.proofs.AllFit.{all_moves_fit, all_moves_swept}
use Rattle.o2_world.proofs.StepMoves.{effect_moves}
use Rattle.o2_world.proofs.Sizes.{effect_sizes}
use Rattle.o2_world.proofs.TiedWorld.{changed_tied, fit_more, still_live, worked_tied}
use Rattle.o2_world.proofs.StepReach.{end_changes, live_changes}

-- the process whose step is next, where the run goes on
pub next_process : (s : Setting) (w : World) → is_over w ≡ false
    → (p : Process) × (process_at w.processes (next_dispatch s w).current ≡ Some p) × (p.state ≡ Live)
next_process s w runs =
    let some = not_over (any_lives w.processes) w.dispatch.budget runs in
    live_process w.processes (live_flags w.processes) (next_dispatch s w).current refl (chosen_lives s.quantum (live_flags w.processes) w.dispatch some.0)

-- an effect loads segment registers by their rules, keeps the size of each name, and has changes of one of the shapes
pub record IsOrderly (b : Before) (e : Effect) : Type 0 where
  pub ruled : LoadsByRules b.view b.cpu e.cpu
  pub sizes : (q : ℕ) → length (e.bytes q) ≡ length (b.view.bytes q)
  pub moves : AllMoves b e.cpu e.changes
  -- it writes no name that no register and no good pointer reaches
  pub still : (q : ℕ) → IsUnreached b.view q → e.bytes q ≡ b.view.bytes q

pub effect_orderly : (b : Before) → IsOrderly b (effect b)
effect_orderly b = record { ruled = effect_ruled b; sizes = effect_sizes b; moves = effect_moves b; still = effect_keeps b }

module _ (s : Setting) (w : World) (p : Process) (at : process_at w.processes (next_dispatch s w).current ≡ Some p) (live : p.state ≡ Live) (sound : IsSound w)
    (e : Effect) (orderly : IsOrderly (before s w (next_dispatch s w).current p) e) where
  abbrev d : Dispatch
  d = next_dispatch s w

  lives_now : is_live p.state ≡ true
  lives_now = ap is_live live

  sizes : (q : ℕ) (x : Segment) → get w.names q ≡ Some x → length (e.bytes q) ≡ length x.bytes
  sizes q x there = orderly.sizes q ∙ ap (λ (o : Option Segment). length (segment_bytes o)) there

  good : HasGoodRegisters (working p e)
  good = good_after w.names p e.cpu (working p e).state (sound.tied.registers (d.current - 1) p (at_place_of w.processes d.current p at) lives_now) orderly.ruled

  still : is_live (working p e).state ≡ true
  still = still_live w d p e at lives_now good sizes

  -- before its changes, and all its changes with an end
  pub worked_is_tied : IsTied (worked w d p e)
  worked_is_tied = worked_tied w d p e at lives_now good sizes sound.tied

  fit : AreFitChanges (worked w d p e) e.changes
  fit = all_moves_fit s w d p e at lives_now still good sizes sound orderly.moves

  pub all_fit : AreFitChanges (worked w d p e) (all_changes d.current e)
  all_fit = go (is_live e.state) refl
    where
      go : (b : Bool) → is_live e.state ≡ b → AreFitChanges (worked w d p e) (all_changes d.current e)
      go true is = subst (AreFitChanges (worked w d p e)) (sym (live_changes d.current e is)) fit
      go false is = subst (AreFitChanges (worked w d p e)) (sym (end_changes d.current e is)) (fit_more (worked w d p e) e.changes (Finishes d.current e.state ∷ []) fit (is, tt))

  spare : AllSpareDiscarded (worked w d p e) (all_changes d.current e)
  spare = go (is_live e.state) refl
    where
      own : AllSpareDiscarded (worked w d p e) e.changes
      own = all_moves_spare_discarded s w d p e sound.discarded orderly.moves

      go : (b : Bool) → is_live e.state ≡ b → AllSpareDiscarded (worked w d p e) (all_changes d.current e)
      go true is = subst (AllSpareDiscarded (worked w d p e)) (sym (live_changes d.current e is)) own
      go false is = subst (AllSpareDiscarded (worked w d p e)) (sym (end_changes d.current e is)) (spare_more (worked w d p e) e.changes (Finishes d.current e.state ∷ []) own (is, tt))

  still_discarded : (let v = changed w d p e in KeepsDiscarded v.processes v.names)
  unfolding changed
  still_discarded = all_keep (worked w d p e) (all_changes d.current e) all_fit spare worked_is_tied (worked_keeps w d p e at lives_now orderly.ruled orderly.still sound.discarded)

  pub acted_sound : IsSound (changed w d p e)
  acted_sound =
      let both = changed_tied w d p e at lives_now good sizes fit (all_moves_swept s w d p e at lives_now still good sizes sound orderly.moves) sound.tied in
      record { tied = both.0; swept = both.1; discarded = still_discarded }

chosen_sound : (s : Setting) (w : World) → is_over w ≡ false → IsSound w → IsSound (chosen_step s w)
chosen_sound s w runs sound =
    let here = next_process s w runs in
    subst (λ (o : Option Process). IsSound (acted s w (next_dispatch s w) o)) (sym here.1) (acted_sound s w here.0 here.1 here.2 sound _ (effect_orderly (before s w (next_dispatch s w).current here.0)))

pub step_sound : (s : Setting) (w : World) → IsSound w → IsSound (step s w)
unfolding step
step_sound s w sound = go (is_over w) refl
  where
    go : (b : Bool) → is_over w ≡ b → IsSound (if b then w else chosen_step s (ready w))
    go true over = sound
    go false runs = chosen_sound s (ready w) ((ready_stays w).over ∙ runs) (ready_sound w sound)
