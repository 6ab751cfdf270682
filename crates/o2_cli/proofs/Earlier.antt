-- What a run leaves, from before the lines of the start on: they are ahead no more, and the report's last put may have failed. The steps are
-- the same by computation.
use Rattle.std.proofs.Common.{◌≡◌, ◌⊎◌, inl, inr, ℕ, ◌+◌, Bool, List, Option, arith, length}
use Rattle.o2_world.specs.World.{World, Setting}
use Rattle.o2_world.specs.Run.{after}
use Rattle.o2_run.specs.declared.steps.Stop.{Stop}
use Rattle.o2_run.specs.Ended.{HasStoppedTexts, HasWholeRun}
use Rattle.o2_run.specs.Pieces.{Hands, counts, pieces}

pub earlier_hands : (c d r q z ahead : ℕ) → q ≡ r + ahead → (done lines : ℕ) → Hands (counts c d q z ahead) done lines → Hands (counts c d r z 0) done lines
earlier_hands c d r q z ahead put done lines h = record { to_console = h.to_console; to_report = omega (arith, put, h.to_report) }

pub or_later : (A F G : Type 0) → (F → G) → A ⊎ F → A ⊎ G
or_later A F G later (inl a) = inl a
or_later A F G later (inr f) = inr (later f)

module _ (swaps : Bool) (s : Setting) (w : World) (l c e r p : Option (List ℕ)) (u v x y z ahead : ℕ) (put : y ≡ x + ahead) where
  abbrev pub earlier_whole : HasWholeRun swaps s w l c e r p (counts u v y z ahead) → HasWholeRun swaps s w l c e r p (counts u v x z 0)
  earlier_whole t = record {
    texts = t.texts;
    room = t.room;
    input = t.input;
    hands = earlier_hands u v x y z ahead put (pieces s w t.texts.last) (length (after s w t.texts.last).lines + 1) t.hands;
  }

  module _ (blocks : ℕ) (why : Stop) (fault since : Type 0) (later : fault → since) where
    abbrev pub earlier_stop : HasStoppedTexts swaps blocks s w why l c e r p fault (counts u v y z ahead) → HasStoppedTexts swaps blocks s w why l c e r p since (counts u v x z 0)
    earlier_stop t = record {
      steps = t.steps;
      below = t.below;
      room = t.room;
      cause = t.cause;
      fits = t.fits;
      input = t.input;
      to_console = t.to_console;
      to_report = t.to_report;
      whole = or_later _ _ _ later t.whole;
      hands = earlier_hands u v x y z ahead put (pieces s w t.steps) (length (after s w t.steps).lines + 1) t.hands;
    }
