use Rattle.std.proofs.Common.{◌∙◌, sym, ◌==◌}
use Rattle.o2_bus.specs.Plain.{held_in, bytes_in, shown_in, count_in}
use Rattle.o2_bus.specs.Ends.{is_held_in, maps_name}
use Rattle.o2_bus.proofs.Holders.{map_found}
use Rattle.o2_bus.proofs.Filled.{filled_fewer, was_held, kept_by}
use Rattle.o2_bus.proofs.plain.Plain.end.Goals as goal

pub invariant_of-self : goal.invariant_of-self
invariant_of-self c = record {
  filled = filled_fewer _ _ _ _ c.args.self.now.filled
      (λ p i h e. was_held (p == c.args.pid) _ h (sym (c.clear.ensures p i) ∙ e))
      (λ p i h e. kept_by (maps_name c.clear.new.maps.items h.name) _ _ (map_found c.clear.new.maps.items p i h e) (rw (← c.deref.ensures.value) (c.drop_unheld.ensures.bytes h.name)));
}

pub returns : goal.returns
unfolding held_in bytes_in shown_in count_in is_held_in
returns c = record {
  held = c.clear.ensures;
  shown = c.drop_unheld.ensures.shown;
  bytes = λ n. rw (← c.deref.ensures.value) (c.drop_unheld.ensures.bytes n);
  count = c.drop_unheld.ensures.count;
}
