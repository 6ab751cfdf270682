use Rattle.std.proofs.Common.{ℕ, List, ap, ◌∙◌}
use Rattle.o2_vectors.specs.Json.{vector_data}
use Rattle.o2_vectors.specs.Sight.{name_text}
use Rattle.o2_vectors.proofs.made.Goals as goal

pub returns : goal.returns
returns c =
    let after = c.in-Ok.taken.after in
    let outcome = c.in-Ok.taken.outcome in
    let named = ap (λ (n : List ℕ). vector_data n c.bytes_of.result.now c.args.before.now after outcome) (c.as_str.ensures.value ∙ c.in_ok-name.ensures) in
    let spelled = ap (λ (b : List ℕ). vector_data (name_text c.args.before.now.cpu.ip c.args.before.now.code) b c.args.before.now after outcome) c.bytes_of.ensures in
    (after, outcome, c.in-Ok.ensures, c.in_ok-value.ensures ∙ named ∙ spelled)
