use Rattle.std.proofs.Common.{◌≡◌, ◌≤◌, min, length, take, arith, ap, sym, subst, ◌∙◌, ℕ}
use Rattle.std.proofs.lemmas.List.{length-take-le}
use Rattle.o2_outer.specs.declared.log.Log.{Log}
use Rattle.o2_outer.specs.Inputs.{Past}
use Rattle.o2_outer.specs.Streams.{source_past}
use Rattle.o2_outer.proofs.Readers.{gives_behind}
use Rattle.o2_outer.proofs.Inputs.{adds_after, adds_held, is_over}
use Rattle.o2_outer.proofs.stdin.StreamSourceSource.take.Goals as goal

pub returns-clause-takes : goal.returns-clause-takes
returns-clause-takes g c =
    let now = c.hold.new.self in
    let same : length c.give-count.new.into ≡ length c.args.into.now = c.give-count.auto.into in
    let held : length (take now.held now.buffer.items) ≡ now.held = length-take-le now.held now.buffer.items (subst (λ (n : ℕ). now.held ≤ n) (sym now.room) now.within) in
    λ t e. gives_behind now.ended (take now.held now.buffer.items) _ c.give-count.new.into _ c.give-count.result t (c.hold.ensures.left t e)
    (c.give-count.ensures.count ∙ ap (λ (n : ℕ). min n now.held) (sym same) ∙ ap (λ (n : ℕ). min (length c.give-count.new.into) n) (sym held))
    c.give-count.ensures.given c.give-count.ensures.rest
    (λ less. c.hold.ensures.end c.if-not-hold.false (omega (arith, less, same, held)))

pub returns-clause-adds : goal.returns-clause-adds
returns-clause-adds g c =
    let old = c.args.self.now in
    let now = c.hold.new.self in
    adds_after (source_past old) (source_past now) _ c.give-count.new.into c.give-count.result (ap (λ (l : Log). l.bytes) c.hold.ensures.log)
    (λ e. ap (λ (p : Past). p.ended) (ap source_past (c.hold.ensures.over (is_over old.ended old.held e))) ∙ e)
    (adds_held now.log.bytes _ c.give-count.new.into now.ended now.held c.give-count.result (length c.args.into.now) c.note.ensures.0 c.give-count.ensures.count c.give-count.auto.into
    (λ less. c.hold.ensures.end c.if-not-hold.false less))
