use Rattle.std.proofs.Common.{ℕ, List, ap, ◌∙◌, inl, inr, length, refl, subst}
use Rattle.o2_outer.specs.Answers.{Takes}
use Rattle.o2_cli.proofs.program.tell.Goals as goal

pub returns-in_default : goal.returns-in_default
returns-in_default g c = record {
  tells =
      record { told = inl refl; silent = λ none. refl };
}

pub returns-then-len-eq0 : goal.returns-then-len-eq0
returns-then-len-eq0 g c = record {
  tells =
      record { told = inl refl; silent = λ none. refl };
}

pub returns : goal.returns
returns g c = record {
  tells =
      record {
        told = inr (record {
          put = c.put.result;
          takes = subst (λ (t : List ℕ). Takes (g.L.Sink.taken c.args.last.now) (g.L.Sink.taken c.put.new.self) t c.put.result) (c.as_slice.ensures ∙ c.in-Ok.ensures) c.put.ensures.takes;
          cause = c.put.ensures.cause;
          at_once = c.put.ensures.puts;
        });
        silent = λ none. absurd (c.if-len-eq0.false (c.len.ensures ∙ ap length (c.in-Ok.ensures ∙ none)));
      };
}
