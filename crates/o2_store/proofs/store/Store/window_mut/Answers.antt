use Rattle.std.proofs.Common.{◌≡◌, ◌+◌, ◌≤◌, length, sym, ap, ◌∙◌, Some, option_map, rules}
use Rattle.o2_entries.specs.declared.Entry.{Entry}
use Rattle.o2_phys.proofs.Parts.{length-part}
use Rattle.o2_store.specs.Shelf.{entry_of}
use Rattle.o2_store.proofs.store.Store.window_mut.Goals as goal

pub returns-in-Some-clause-size : goal.returns-in-Some-clause-size
returns-in-Some-clause-size c =
    let f : entry_of c.args.self.now c.args.id ≡ Some c.in_ok-entry.entry = search rules in
    let w : c.in-Some.at + c.in_ok-entry.entry.size ≤ length c.self.inside.phys = search rules in
    ap (option_map (λ (e : Entry). e.size)) f ∙ ap Some (sym (ap length c.bytes_mut.ensures.value ∙ length-part c.self.inside.phys c.in-Some.at c.in_ok-entry.entry.size w))
