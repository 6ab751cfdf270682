use Rattle.std.proofs.Common.{◌≡◌, ◌≢◌, ◌+◌, ℕ, Option, true, false, ap, sym, refl, inl, inr}
use Rattle.std.specs.Prelude.{◌==◌}
use Rattle.std.proofs.lemmas.Bool.Decides.{eqb_tells}
use Rattle.std.specs.Option.{option_map}
use Rattle.o2_base.specs.Services.{ServiceRow, services}
use Rattle.o2_dynlink.proofs.ServiceSteps.{found, goes_on, row_of}
use Rattle.os2why.proofs.services.service_of.Goals as goal

is_same : (a b : ℕ) → a ≡ b → (a == b) ≡ true
is_same a b e = elim (eqb_tells a b) as (λ _. (a == b) ≡ true) [ inl h ↦ h.0 | inr h ↦ absurd (h.1 e) ]

is_other : (a b : ℕ) → a ≢ b → (a == b) ≡ false
is_other a b n = elim (eqb_tells a b) as (λ _. (a == b) ≡ false) [ inl h ↦ absurd (n h.1) | inr h ↦ h.0 ]

pub loop-k-init : goal.loop-k-init
loop-k-init c = refl

pub returns-then-is_wanted-clause-exact : goal.returns-then-is_wanted-clause-exact
returns-then-is_wanted-clause-exact c =
    let here : (c.service_at.result.ordinal == c.args.ordinal) ≡ true = is_same _ _ c.if-is_wanted.true in
    let is = found (λ (s : ServiceRow). s.ordinal == c.args.ordinal) services c.loop-k.k _ _ (row_of c.loop-k.k _ c.service_at.ensures) here c.loop-k.invariant in
    let next : Option ℕ → Option ℕ = λ o. option_map (λ i. i + 1) o in
    sym (ap next is)

pub loop-k-preserved : goal.loop-k-preserved
loop-k-preserved c =
    let other : (c.service_at.result.ordinal == c.args.ordinal) ≡ false = is_other _ _ c.if-is_wanted.false in
    goes_on (λ (s : ServiceRow). s.ordinal == c.args.ordinal) services c.loop-k.k _ _ (row_of c.loop-k.k _ c.service_at.ensures) other c.loop-k.invariant
