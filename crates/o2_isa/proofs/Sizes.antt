-- A step changes bytes and never how many there are.
use Rattle.std.proofs.Common.{◌≡◌, ◌⊎◌, ◌∙◌, inl, inr, refl, sym, subst, ℕ, List, [], ◌∷◌}
use Rattle.std.specs.Prelude.{Option}
use Rattle.o2_isa.specs.declared.instr.Width.{Width}
use Rattle.o2_isa.specs.declared.instr.Width.TheVariants.{Word}
use Rattle.o2_isa.specs.declared.cpu.Outcome.{Outcome}
use Rattle.o2_isa.specs.View.{View, Hold, in_register, bind, poke, poke_hold}
use Rattle.o2_isa.specs.Steps.{State, Change, Bind, Write, Copy, changed, word_there, selector}
use Rattle.o2_isa.specs.Step.{Answers, stepped}
use Rattle.o2_isa.specs.Sizes.{KeepsLengths}
use Rattle.o2_isa.proofs.Endings.{EndsBy}
use Rattle.o2_isa.proofs.StepLaws.{stepped_ends}
use Rattle.o2_isa.proofs.Pokes.{length_after, poke_cases}

pub stays : (f : ℕ → List ℕ) → KeepsLengths f f
stays f = record { same = λ n. refl }

pub behind : (f g h : ℕ → List ℕ) → KeepsLengths f g → KeepsLengths g h → KeepsLengths f h
behind f g h a b = record { same = λ n. b.same n ∙ a.same n }

lengths_poke : (v : View) (o : Option Hold) (k : ℕ) (w : Width) (x : ℕ) → KeepsLengths v.bytes (poke_hold v o k w x).bytes
lengths_poke v o k w x = poke_cases (λ (z : View). KeepsLengths v.bytes z.bytes) v o k w x (stays v.bytes) (λ h e t. record { same = λ n. length_after v h.name n k w x })

lengths_changed : (cs : List Change) (v : View) → KeepsLengths v.bytes (changed cs v).bytes
unfolding bind poke
lengths_changed [] v = stays v.bytes
lengths_changed (Bind r t ∷ cs) v = lengths_changed cs (bind v r (selector t))
lengths_changed (Write r k w x ∷ cs) v =
    behind v.bytes (poke v r k w x).bytes (changed cs (poke v r k w x)).bytes (lengths_poke v (in_register v.registers r) k w x) (lengths_changed cs (poke v r k w x))
lengths_changed (Copy r a b ∷ cs) v =
    let mid = poke v r b Word (word_there v r a) in
    behind v.bytes mid.bytes (changed cs mid).bytes (lengths_poke v (in_register v.registers r) b Word (word_there v r a)) (lengths_changed cs mid)

pub stepped_lengths : (o : Outcome) (new old : State) → Answers o new old (stepped old) → KeepsLengths old.view.bytes new.view.bytes
stepped_lengths o new old a = kept (stepped_ends o new old a)
  where
    kept : (new ≡ old) ⊎ EndsBy old.cpu old.view new → KeepsLengths old.view.bytes new.view.bytes
    kept (inl e) = subst (λ (z : State). KeepsLengths old.view.bytes z.view.bytes) (sym e) (stays old.view.bytes)
    kept (inr b) = subst (λ (z : View). KeepsLengths old.view.bytes z.bytes) b.left (lengths_changed b.changes old.view)
