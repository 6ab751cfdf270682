-- Lines and writes of a call that comes back.
use Rattle.std.proofs.Common.{◌≡◌, ℕ, List, ◌∷◌, map, ap, sym, ◌∙◌}
use Rattle.std.specs.Prelude.{flat_map}
use Rattle.o2_world.specs.declared.types.Argument.{Argument}
use Rattle.o2_world.specs.declared.types.Slot.{Slot}
use Rattle.o2_world.specs.World.{Calls}
use Rattle.o2_world.specs.CallParts.{Before}
use Rattle.o2_world.specs.Changes.{Change, moved_lines}
use Rattle.o2_world.specs.Slots.{put_all, shown_in, targets_in}
use Rattle.o2_world.specs.Text.{lines_text}
use Rattle.o2_world_parts.specs.Effects.{written}
use Rattle.o2_world_parts.specs.Layouts.{placed, shown_by, targets_by}
use Rattle.o2_world_parts.proofs.Placed.{shown_is, targets_are}
use Rattle.o2_world_parts.proofs.Writing.{put_is}

pub lines_are : (b : Before) (n error : ℕ) (name : List ℕ) (slots : List Slot) (a : ℕ → ℕ) (args values : List Argument) (changes : List Change) (ps : List (Slot × ℕ)) → b.number ≡ n → ps ≡ placed slots → args ≡ map (shown_by a) ps
    → lines_text (Calls n name args error values ∷ moved_lines name changes) ≡ lines_text (Calls b.number name (shown_in slots a) error values ∷ moved_lines name changes)
lines_are b n error name slots a args values changes ps m p s =
    ap (λ (k : ℕ). lines_text (Calls k name args error values ∷ moved_lines name changes)) (sym m)
    ∙ ap (λ (xs : List Argument). lines_text (Calls b.number name xs error values ∷ moved_lines name changes)) (s ∙ (ap (map (shown_by a)) p ∙ shown_is a slots))

pub bytes_are : (b : Before) (slots : List Slot) (a : ℕ → ℕ) (ts : List (ℕ × ℕ)) (parts : List (List ℕ)) (ps : List (Slot × ℕ)) → ps ≡ placed slots → ts ≡ flat_map (targets_by a) ps
    → written b.view.held ts parts b.view.bytes ≡ put_all b.view.held (targets_in slots a) parts b.view.bytes
bytes_are b slots a ts parts ps p t =
    ap (λ (us : List (ℕ × ℕ)). written b.view.held us parts b.view.bytes) (t ∙ (ap (flat_map (targets_by a)) p ∙ targets_are a slots))
    ∙ put_is b.view.held (targets_in slots a) parts b.view.bytes
