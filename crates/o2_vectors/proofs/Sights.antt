-- A memory with the four segments is seen as their state.
use Rattle.std.proofs.Common.{◌≡◌, ◌∙◌, ap, sym, subst, ℕ, zero, suc, true, List, [], ◌∷◌, length}
use Rattle.std.proofs.lemmas.List.{nil_from_length}
use Rattle.o2_isa.specs.declared.cpu.Outcome.{Outcome}
use Rattle.o2_isa.specs.View.{View}
use Rattle.o2_isa.specs.Steps.{State, state}
use Rattle.o2_isa.specs.Step.{Answers, stepped}
use Rattle.o2_isa.proofs.Views.{same_simple}
use Rattle.o2_bus.specs.declared.plain.Plain.{Plain}
use Rattle.o2_bus.specs.Plain.{held_in, shown_in, bytes_in, plain_view}
use Rattle.o2_bus.specs.Frames.{KeepsSegments}
use Rattle.o2_vectors.specs.declared.state.Snapshot.{Snapshot}
use Rattle.o2_vectors.specs.Sight.{held_segments, segments_of, bytes_at, sight, Steps, IsMemory}

pub seen : (p : Plain) (s : Snapshot) → IsMemory p (segments_of s) → state s.cpu (plain_view p 1 s.cpu) ≡ sight s
seen p s h = ap (λ (v : View). state s.cpu v) (same_simple s.cpu (held_in p 1) held_segments (shown_in p) (λ n. true) (bytes_in p) (bytes_at (segments_of s)) h.held h.shown h.bytes)

-- four segments that were read from a memory behind a step
bytes_kept : (old new : Plain) (m : List (List ℕ)) (a b c d : List ℕ) → ((n : ℕ) → length (bytes_in new n) ≡ length (bytes_in old n)) → ((n : ℕ) → bytes_in old (suc (suc (suc (suc n)))) ≡ [])
    → a ≡ bytes_in new 0 → b ≡ bytes_in new 1 → c ≡ bytes_in new 2 → d ≡ bytes_in new 3 → (n : ℕ) → bytes_in new n ≡ bytes_at (a ∷ (b ∷ (c ∷ (d ∷ [])))) n
bytes_kept old new m a b c d sizes none e f g h zero = sym e
bytes_kept old new m a b c d sizes none e f g h (suc zero) = sym f
bytes_kept old new m a b c d sizes none e f g h (suc (suc zero)) = sym g
bytes_kept old new m a b c d sizes none e f g h (suc (suc (suc zero))) = sym h
bytes_kept old new m a b c d sizes none e f g h (suc (suc (suc (suc n)))) = nil_from_length (bytes_in new (suc (suc (suc (suc n))))) (sizes (suc (suc (suc (suc n)))) ∙ ap length (none n))

pub kept : (old new : Plain) (before after : Snapshot) → IsMemory old (segments_of before) → KeepsSegments old new
    → after.code ≡ bytes_in new 0 → after.data ≡ bytes_in new 1 → after.extra ≡ bytes_in new 2 → after.stack ≡ bytes_in new 3 → IsMemory new (segments_of after)
kept old new before after is keeps e f g h = record {
  held = λ i. ap (λ (held : ℕ → ℕ → _). held 1 i) keeps.held ∙ is.held i;
  shown = λ n. keeps.shown n ∙ is.shown n;
  bytes = bytes_kept old new (segments_of before) after.code after.data after.extra after.stack keeps.sizes (λ n. is.bytes (suc (suc (suc (suc n))))) e f g h;
}

-- a step over such a memory is a step of the state
pub steps : (old new : Plain) (before after : Snapshot) (outcome : Outcome) → IsMemory old (segments_of before) → IsMemory new (segments_of after)
    → Answers outcome (state after.cpu (plain_view new 1 after.cpu)) (state before.cpu (plain_view old 1 before.cpu)) (stepped (state before.cpu (plain_view old 1 before.cpu))) → Steps before after outcome
steps old new before after outcome is will h =
    subst (λ (s : State). Answers outcome s (sight before) (stepped (sight before))) (seen new after will)
    (subst (λ (s : State). Answers outcome (state after.cpu (plain_view new 1 after.cpu)) s (stepped s)) (seen old before is) h)
