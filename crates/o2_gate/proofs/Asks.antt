-- What a call on segments asks for is the ruling of its row.
use Rattle.std.proofs.Common.{◌≡◌, ℕ, Option, Some, ap, sym, ◌∙◌, subst}
use Rattle.o2_isa.specs.View.{View, Filling}
use Rattle.o2_world.specs.Calls.{Before, row_of}
use Rattle.o2_world.specs.Outcomes.{CallRow, by_ruling}
use Rattle.o2_world.specs.SharedNames.{text_at}
use Rattle.o2_world.specs.Slots.{pointers_in}
use Rattle.o2_gate.specs.declared.requests.SegmentArguments.{SegmentArguments}
use Rattle.o2_gate.specs.declared.text.TextArgument.{TextArgument}
use Rattle.o2_gate.specs.Befores.{boundless}
use Rattle.o2_gate.specs.Given.{IsRead, IsTextIn}
use Rattle.o2_gate.specs.Requests.{ruling_of}
use Rattle.o2_gate.specs.Targets.{looked_in, target_in}
use Rattle.o2_gate.specs.Texts.{text_of}

abbrev pub Ruled : (a : ℕ → ℕ) → TextArgument → SegmentArguments → CallRow → Type 0
Ruled a t q r =
    (v : View) (f : Filling) (b : Before) → IsTextIn v a t r.slots → b.view ≡ boundless f v
    → r.outcome b a ≡ by_ruling r.slots b (ruling_of q b.known b.number b.cpu)

abbrev pub Aims : (a : ℕ → ℕ) → TextArgument → SegmentArguments → CallRow → Type 0
Aims a t q r = (v : View) (f : Filling) → IsTextIn v a t r.slots → pointers_in r.slots (boundless f v) a ≡ target_in r.slots (looked_in q) a

-- of the row under a number, where that is the service
pub by_number : (P : CallRow → Type 0) (s n : ℕ) → s ≡ n → {q : CallRow} → row_of n ≡ Some q → P q → (r : CallRow) → row_of s ≡ Some r → P r
by_number P s n is {q} there p r e =
    let both : ◌≡◌ {A = Option CallRow} (Some q) (Some r) = sym there ∙ ap row_of (sym is) ∙ e in
    let same : q ≡ r = cc in subst P same p

pub text_is : (v : View) (f : Filling) (b : Before) (s o : ℕ) (t : TextArgument) → b.view ≡ boundless f v → IsRead v s o t → text_at b.view s o ≡ text_of t
text_is v f b s o t same is = ap (λ (w : View). text_at w s o) same ∙ is.text f
