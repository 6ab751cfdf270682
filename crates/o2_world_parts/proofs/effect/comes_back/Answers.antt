use Rattle.std.proofs.Common.{List, ◌∷◌, map, refl, ap, ◌∙◌}
use Rattle.std.specs.Prelude.{flat_map, slice_index}
use Rattle.o2_world.specs.declared.types.Argument.{Argument}
use Rattle.o2_world.specs.World.{Calls}
use Rattle.o2_world.specs.Changes.{moved_lines}
use Rattle.o2_world.specs.Text.{lines_text}
use Rattle.o2_world_parts.specs.declared.changing.Edit.{Edit}
use Rattle.o2_world_parts.specs.Edits.{changes_of}
use Rattle.o2_world_parts.specs.Layouts.{shown_by, targets_by}
use Rattle.o2_world_parts.proofs.Coming.{bytes_are, lines_are}
use Rattle.o2_world_parts.proofs.effect.comes_back.Goals as goal

pub returns : goal.returns
returns c = λ b slots e p. record {
  cpu = refl;
  state = refl;
  bytes =
      bytes_are b slots (slice_index c.args.words.now) c.in_ok-targets.targets.items c.args.done.parts.items c.args.layout.now.slots.items p
      (c.in_ok-targets.ensures ∙ ap (flat_map (targets_by (slice_index c.args.words.now))) c.deref-5.ensures.value);
  changes = refl;
  input = refl;
  piece = refl;
  waits = refl;
  lines =
      c.in_ok-lines.ensures
      ∙ (ap (λ (vs : List Argument). lines_text (Calls c.args.number c.args.name.now c.deref-2.result.now c.args.error vs ∷ moved_lines c.args.name.now (changes_of c.deref-4.result.now))) c.deref-3.ensures.value
      ∙ (ap (λ (es : List Edit). lines_text (Calls c.args.number c.args.name.now c.deref-2.result.now c.args.error c.args.done.values.items ∷ moved_lines c.args.name.now (changes_of es))) c.deref-4.ensures.value
      ∙ lines_are b c.args.number c.args.error c.args.name.now slots (slice_index c.args.words.now) c.deref-2.result.now c.args.done.values.items (changes_of c.args.done.edits.items) c.args.layout.now.slots.items e p
      (c.deref-2.ensures.value ∙ (c.in_ok-args.ensures ∙ ap (map (shown_by (slice_index c.args.words.now))) c.deref.ensures.value))));
}
