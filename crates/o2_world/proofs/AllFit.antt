-- All that a step changes, of other processes and of runs too, keeps a sound world sound.
use Rattle.std.proofs.Common.{◌≡◌, ℕ, true, false, List, length, Some, sym, subst, refl}
use Rattle.std.specs.List.{list_any}
use Rattle.o2_conf.specs.Dispatch.{Dispatch}
use Rattle.o2_world.specs.Map.{get}
use Rattle.o2_world.specs.World.{World, Setting, Process, Segment, is_live}
use Rattle.o2_world.specs.Holders.{process_at}
use Rattle.o2_world.specs.Changes.{Change, takes, with_changes}
use Rattle.o2_world.specs.CallParts.{Before, Effect}
use Rattle.o2_world.specs.SharedRulings.{shared_segment}
use Rattle.o2_world.specs.Run.{before, worked, working}
use Rattle.o2_world.specs.Sound.{HasGoodRegisters}
use Rattle.o2_world.specs.Tied.{AreFitChanges, IsSound, IsSwept}
use Rattle.o2_world.specs.Moves.{AllMoves, OneNamed, OneRun, OwnMoves, SomeShared}
use Rattle.o2_world.proofs.FitRows.{made_size, named_fit}
use Rattle.o2_world.proofs.FitShares.{share_fit, share_swept, shares_known}
use Rattle.o2_world.proofs.MovesFit.{lives_there, made_swept, moves_fit, moves_swept, shared_there, swept, tied}
use Rattle.o2_world.proofs.RunsFit.{run_moves_fit, run_moves_swept}

module _ (s : Setting) (w : World) (d : Dispatch) (p : Process) (e : Effect) (at : process_at w.processes d.current ≡ Some p) (lives : is_live p.state ≡ true)
    (live_now : is_live (working p e).state ≡ true) (good_now : HasGoodRegisters (working p e))
    (sizes : (q : ℕ) (x : Segment) → get w.names q ≡ Some x → length (e.bytes q) ≡ length x.bytes) (sound : IsSound w) where
  abbrev b : Before
  b = before s w d.current p

  abbrev v : World
  v = worked w d p e

  pub all_moves_fit : AllMoves b e.cpu e.changes → AreFitChanges v e.changes
  all_moves_fit (OwnMoves moves) = moves_fit s w d p e at lives live_now good_now sizes sound moves
  all_moves_fit (OneNamed size i name free is) = named_fit w d p e (shared_segment size) i at live_now refl free.shared name (made_size size 0) refl is
  all_moves_fit (SomeShared from to xs shares is) =
      let x = lives_there s w d p e at lives live_now good_now sizes sound to shares.lives in
      subst (AreFitChanges v) (sym is)
      (share_fit v b.known from to xs x.0 shares.shared
      (shares_known v b.known from (shared_there s w d p e at lives live_now good_now sizes sound from) xs shares.shared) (x.1, x.2)
      (tied s w d p e at lives live_now good_now sizes sound))
  all_moves_fit (OneRun moves ruled) = run_moves_fit s w d p e at lives live_now good_now sizes sound moves

  abbrev SweptBy : List Change → Type 0
  SweptBy cs = list_any takes cs ≡ false → IsSwept (with_changes v cs)

  pub all_moves_swept : AllMoves b e.cpu e.changes → list_any takes e.changes ≡ false → IsSwept (with_changes v e.changes)
  unfolding with_changes
  all_moves_swept (OwnMoves moves) = moves_swept s w d p e at lives live_now good_now sizes sound moves
  all_moves_swept (OneNamed size i name free is) =
      subst SweptBy (sym is) (λ _. let y = made_swept s w d p e at lives live_now good_now sizes sound (shared_segment size) i free in record { named = y.named; used = y.used })
  all_moves_swept (SomeShared from to xs shares is) =
      let x = lives_there s w d p e at lives live_now good_now sizes sound to shares.lives in
      subst SweptBy (sym is)
      (λ _. share_swept v b.known from to xs x.0 shares.shared
      (shares_known v b.known from (shared_there s w d p e at lives live_now good_now sizes sound from) xs shares.shared) (x.1, x.2)
      (swept s w d p e at lives live_now good_now sizes sound))
  all_moves_swept (OneRun moves ruled) = run_moves_swept s w d p e at lives live_now good_now sizes sound moves
