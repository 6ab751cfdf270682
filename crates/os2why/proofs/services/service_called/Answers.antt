use Rattle.std.proofs.Common.{◌≡◌, ◌+◌, ℕ, Option, true, false, ap, sym, ◌∙◌, refl}
use Rattle.std.specs.Option.{option_map}
use Rattle.o2_base.specs.Services.{ServiceRow, services}
use Rattle.o2_ne.specs.NameTable.{same_name}
use Rattle.o2_dynlink.proofs.ServiceSteps.{found, goes_on, row_of}
use Rattle.os2why.proofs.services.service_called.Goals as goal

pub loop-k-init : goal.loop-k-init
loop-k-init c = refl

pub returns-then-is_same_name-clause-exact : goal.returns-then-is_same_name-clause-exact
returns-then-is_same_name-clause-exact c =
    let here : same_name c.service_at.result.name.now c.args.name.now ≡ true = sym c.is_same_name.ensures ∙ c.if-is_same_name.true in
    let is = found (λ (s : ServiceRow). same_name s.name c.args.name.now) services c.loop-k.k _ _ (row_of c.loop-k.k _ c.service_at.ensures) here c.loop-k.invariant in
    let next : Option ℕ → Option ℕ = λ o. option_map (λ i. i + 1) o in
    sym (ap next is)

pub loop-k-preserved : goal.loop-k-preserved
loop-k-preserved c =
    let other : same_name c.service_at.result.name.now c.args.name.now ≡ false = sym c.is_same_name.ensures ∙ c.if-is_same_name.false in
    goes_on (λ (s : ServiceRow). same_name s.name c.args.name.now) services c.loop-k.k _ _ (row_of c.loop-k.k _ c.service_at.ensures) other c.loop-k.invariant
