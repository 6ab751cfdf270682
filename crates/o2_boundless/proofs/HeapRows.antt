-- The call of a service on a heap, from what is said of a certain one.
use Rattle.std.proofs.Common.{◌≡◌, ℕ, List, ap, ◌∙◌}
use Rattle.std.specs.Prelude.{Result, IfOk}
use Rattle.o2_base.specs.declared.memory.NoMemory.{NoMemory}
use Rattle.o2_world.specs.declared.types.Slot.{Slot}
use Rattle.o2_world.specs.Calls.{Before, on_heap, row_of}
use Rattle.o2_boundless.specs.declared.outcome.Outcome as code_outcome
use Rattle.o2_boundless.specs.Outcomes.{heap_ruling, outcome_by, outcome_of, slots_by}
use Rattle.o2_boundless.proofs.Serving.{of_service}

pub by_heap_service : (service k : ℕ) (slots : List Slot) (b : Before) (a : ℕ → ℕ) (r : Result code_outcome.Outcome NoMemory) (s : ℕ) → service ≡ k → slots ≡ slots_by (row_of service)
    → on_heap (slots_by (row_of k)) b s (heap_ruling k a) ≡ outcome_by (row_of k) b a
    → IfOk r (λ x. outcome_of b.input x ≡ on_heap slots b s (heap_ruling service a)) → IfOk r (λ x. outcome_of b.input x ≡ outcome_by (row_of service) b a)
by_heap_service service k slots b a r s is t q h =
    of_service service k b a r (on_heap slots b s (heap_ruling service a)) is
    (ap (λ (ss : List Slot). on_heap ss b s (heap_ruling service a)) (t ∙ ap (λ (n : ℕ). slots_by (row_of n)) is)
    ∙ (ap (λ (n : ℕ). on_heap (slots_by (row_of k)) b s (heap_ruling n a)) is ∙ q)) h
