use Rattle.std.proofs.Common.{ℕ, List, ap, sym, ◌∙◌}
use Rattle.std.specs.Prelude.{slice_index}
use Rattle.o2_world.specs.Calls.{by_heap}
use Rattle.o2_world.specs.HeapRulings.{HeapRuling}
use Rattle.o2_boundless.specs.Outcomes.{heap_ruling}
use Rattle.o2_boundless.specs.Shown.{before_call}
use Rattle.o2_boundless.proofs.Heaps.{ok_more, on_heap_is, ruling_made}
use Rattle.o2_boundless.proofs.world.World.on_heap.Goals as goal

pub returns : goal.returns
returns c =
    let b = before_call c.args.self.now c.args.number c.args.process.now in
    let ruling : List ℕ → HeapRuling = heap_ruling c.args.service (slice_index c.args.words.now) in
    let a = c.heap_call_on-answer in
    ok_more c.by_heap.result (λ x e.
    e b
    ∙ ap (by_heap c.args.slots.now b) (ruling_made (ruling c.in_ok-bytes.bytes.items) a.result.error a.result.value a.new.bytes.items a.ensures.error a.ensures.value a.ensures.bytes
    ∙ ap ruling c.in_ok-bytes.ensures)
    ∙ on_heap_is b c.args.slots.now c.args.selector ruling (sym c.may_have_heap.ensures ∙ c.if-not-may_have_heap.false)) c.by_heap.ensures
