-- Two simple views that agree by look-ups are one.
use Rattle.std.proofs.Common.{◌≡◌, ◌∙◌, ap, ℕ, Bool, List}
use Rattle.std.specs.Prelude.{Option}
use mathlib.Core.Path.{fun_ext}
use Rattle.o2_isa.specs.declared.cpu.Cpu.{Cpu}
use Rattle.o2_isa.specs.View.{Hold, bound_registers, simple_view}

pub same_simple : (c : Cpu) (h k : ℕ → Option Hold) (p q : ℕ → Bool) (b d : ℕ → List ℕ) → ((i : ℕ) → h i ≡ k i) → ((n : ℕ) → p n ≡ q n) → ((n : ℕ) → b n ≡ d n) → simple_view h p b (bound_registers h c) ≡ simple_view k q d (bound_registers k c)
same_simple c h k p q b d e f g =
    ap (λ (m : ℕ → Option Hold). simple_view m p b (bound_registers m c)) (fun_ext e)
    ∙ (ap (λ (m : ℕ → Bool). simple_view k m b (bound_registers k c)) (fun_ext f)
    ∙ ap (λ (m : ℕ → List ℕ). simple_view k q m (bound_registers k c)) (fun_ext g))
