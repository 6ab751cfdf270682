use Rattle.std.proofs.Common.{◌≡◌, ◌-◌, ◌≤◌, ℕ, List, length, take, drop, subst, ap, sym, ◌∙◌, arith, take_all, length-drop}
use Rattle.std.specs.Io.KnownBytes.{Appends}
use Rattle.o2_outer.specs.Texts.{Gains}
use Rattle.o2_outer.proofs.Written.{appends_gains, keeps_gains, written_more, written_same}
use Rattle.o2_outer.proofs.streams.write_on.Goals as goal

pub returns-in-Err : goal.returns-in-Err
returns-in-Err g c = record { most = c.loop-written.invariant.within; gains = written_same _ _ _ _ c.loop-written.invariant.gains (keeps_gains _ _ c.in-Err.ensures.bytes) }

pub returns-in-Ok-eq0 : goal.returns-in-Ok-eq0
returns-in-Ok-eq0 g c =
    let p = c.args.piece.now in
    let w = c.loop-written.written in
    record {
      most = c.loop-written.invariant.within;
      gains = written_same _ _ _ _ c.loop-written.invariant.gains
          (subst (λ (n : ℕ). Gains (g.W.Write.contents c.loop-written.stream) (g.W.Write.contents c.write.new.self) (take n (take (length p - w) (drop w p)))) c.in-Ok-eq0.field-0-test (appends_gains _ _ _ c.in-Ok-eq0.ensures.bytes));
    }

pub loop-written-preserved : goal.loop-written-preserved
loop-written-preserved g c =
    let p = c.args.piece.now in
    let w = c.loop-written.written in
    let all : take (length p - w) (drop w p) ≡ drop w p = ap (λ n. take n (drop w p)) (sym (length-drop w p)) ∙ take_all (length (drop w p)) (drop w p) (omega arith) in
    let bound : c.in-Ok.count ≤ length p - w = subst (λ n. c.in-Ok.count ≤ n) (ap length all ∙ length-drop w p) c.in-Ok.ensures.bound in
    let within : w ≤ length p = c.loop-written.invariant.within in
    record {
      within = omega (arith, bound, within);
      gains = written_more p w c.in-Ok.count _ _ _ c.loop-written.invariant.gains (subst (λ (x : List ℕ). Appends (g.W.Write.contents c.loop-written.stream) (g.W.Write.contents c.write.new.self) (take c.in-Ok.count x)) all c.in-Ok.ensures.bytes);
    }
