-- The prefixes and the mnemonic are told by the words that a text begins with.
use Rattle.std.proofs.Common.{◌≡◌, refl, sym, ◌∙◌, ap, ℕ, Bool, true, false, cond, eqb, List, [], ◌∷◌, ◌++◌, arith}
use Rattle.std.proofs.lemmas.List.{append-nil}
use Rattle.o2_isa.specs.declared.instr.Op.{Op}
use Rattle.o2_isa.specs.declared.instr.Width.{Width}
use Rattle.o2_isa.specs.declared.instr.Rep.{Rep}
use Rattle.o2_isa.specs.declared.instr.Rep.TheVariants as rep
use Rattle.o2_isa.specs.declared.instr.Sreg.{Sreg}
use Rattle.o2_isa.specs.declared.instr.Sreg.TheVariants.{Es, Cs, Ss, Ds}
use Rattle.o2_text.specs.Text.{lock_text, repeat_text, source_text}
use Rattle.o2_text.proofs.Splits.{before, from, before_end, from_end, before_mark, from_mark}
use Rattle.o2_text.proofs.Facts.{full, family, op_read, prefix_number, plain}

-- what stands behind a mnemonic: nothing, or a blank and more
pub data Behind : List ℕ → Type 0 where
  Ends : Behind []
  Blank : (r : List ℕ) → Behind (32 ∷ r)

word_is : (op : Op) (w : Width) (o : List ℕ) → Behind o → before 32 (full op w ++ o) ≡ full op w
word_is op w _ Ends = ap (before 32) (append-nil (full op w)) ∙ before_end 32 (full op w) (plain op w).blank
word_is op w _ (Blank r) = before_mark 32 (full op w) r (plain op w).blank

rest_is : (op : Op) (w : Width) (o : List ℕ) → Behind o → from 32 (full op w ++ o) ≡ o
rest_is op w _ Ends = ap (from 32) (append-nil (full op w)) ∙ from_end 32 (full op w) (plain op w).blank
rest_is op w _ (Blank r) = from_mark 32 (full op w) r (plain op w).blank

pub names_same : (op other : Op) (v w : Width) (a b : List ℕ) → Behind a → Behind b → full op v ++ a ≡ full other w ++ b
    → (full op v ≡ full other w) × (a ≡ b)
names_same op other v w a b p q e =
    (sym (word_is op v a p) ∙ (ap (before 32) e ∙ word_is other w b q), sym (rest_is op v a p) ∙ (ap (from 32) e ∙ rest_is other w b q))

pub families_same : (op other : Op) (v w : Width) → full op v ≡ full other w → family op ≡ family other
families_same op other v w e = sym (plain op v).known ∙ (ap op_read e ∙ (plain other w).known)

-- which prefix a text begins with
abbrev number : List ℕ → ℕ
number t = prefix_number (before 32 t)

pub no_prefix : (op : Op) (w : Width) (o : List ℕ) → Behind o → number (full op w ++ o) ≡ 0
no_prefix op w o p = ap prefix_number (word_is op w o p) ∙ (plain op w).prefix

-- the segment of a source

abbrev source_number : Sreg → ℕ
source_number Es = 5
source_number Cs = 6
source_number Ss = 7
source_number Ds = 0

source_reads : (s : Sreg) (t : List ℕ) → number t ≡ 0 → number (source_text s ++ t) ≡ source_number s
source_reads Es t h = refl
source_reads Cs t h = refl
source_reads Ss t h = refl
source_reads Ds t h = h

sources_same : (r s : Sreg) (t u : List ℕ) → source_number r ≡ source_number s → source_text r ++ t ≡ source_text s ++ u → (r ≡ s) × (t ≡ u)
sources_same Es Es t u n e = (refl, cc)
sources_same Es Cs t u n e = absurd (omega arith)
sources_same Es Ss t u n e = absurd (omega arith)
sources_same Es Ds t u n e = absurd (omega arith)
sources_same Cs Es t u n e = absurd (omega arith)
sources_same Cs Cs t u n e = (refl, cc)
sources_same Cs Ss t u n e = absurd (omega arith)
sources_same Cs Ds t u n e = absurd (omega arith)
sources_same Ss Es t u n e = absurd (omega arith)
sources_same Ss Cs t u n e = absurd (omega arith)
sources_same Ss Ss t u n e = (refl, cc)
sources_same Ss Ds t u n e = absurd (omega arith)
sources_same Ds Es t u n e = absurd (omega arith)
sources_same Ds Cs t u n e = absurd (omega arith)
sources_same Ds Ss t u n e = absurd (omega arith)
sources_same Ds Ds t u n e = (refl, e)

pub source_same : (r s : Sreg) (t u : List ℕ) → number t ≡ 0 → number u ≡ 0 → source_text r ++ t ≡ source_text s ++ u → (r ≡ s) × (t ≡ u)
source_same r s t u p q e = sources_same r s t u (sym (source_reads r t p) ∙ (ap number e ∙ source_reads s u q)) e

-- the repeat prefix

abbrev repeats : ℕ → ℕ
repeats n = cond (eqb n 2) 2 (cond (eqb n 3) 3 (cond (eqb n 4) 4 0))

abbrev repeat_number : Bool → Rep → ℕ
repeat_number compares rep.No = 0
repeat_number compares rep.Equal = cond compares 3 2
repeat_number compares rep.NotEqual = 4

unrepeated : (s : Sreg) (t : List ℕ) → number t ≡ 0 → repeats (number (source_text s ++ t)) ≡ 0
unrepeated Es t h = refl
unrepeated Cs t h = refl
unrepeated Ss t h = refl
unrepeated Ds t h = ap repeats h

repeat_reads : (c : Bool) (r : Rep) (t : List ℕ) → repeats (number t) ≡ 0 → repeats (number (repeat_text c r ++ t)) ≡ repeat_number c r
repeat_reads c rep.No t h = h
repeat_reads true rep.Equal t h = refl
repeat_reads false rep.Equal t h = refl
repeat_reads c rep.NotEqual t h = refl

repeats_same : (c d : Bool) (r s : Rep) (t u : List ℕ) → repeat_number c r ≡ repeat_number d s → repeat_text c r ++ t ≡ repeat_text d s ++ u → (r ≡ s) × (t ≡ u)
repeats_same c d rep.No rep.No t u n e = (refl, e)
repeats_same c true rep.No rep.Equal t u n e = absurd (omega arith)
repeats_same c false rep.No rep.Equal t u n e = absurd (omega arith)
repeats_same c d rep.No rep.NotEqual t u n e = absurd (omega arith)
repeats_same true d rep.Equal rep.No t u n e = absurd (omega arith)
repeats_same false d rep.Equal rep.No t u n e = absurd (omega arith)
repeats_same true true rep.Equal rep.Equal t u n e = (refl, cc)
repeats_same true false rep.Equal rep.Equal t u n e = absurd (omega arith)
repeats_same false true rep.Equal rep.Equal t u n e = absurd (omega arith)
repeats_same false false rep.Equal rep.Equal t u n e = (refl, cc)
repeats_same true d rep.Equal rep.NotEqual t u n e = absurd (omega arith)
repeats_same false d rep.Equal rep.NotEqual t u n e = absurd (omega arith)
repeats_same c d rep.NotEqual rep.No t u n e = absurd (omega arith)
repeats_same c true rep.NotEqual rep.Equal t u n e = absurd (omega arith)
repeats_same c false rep.NotEqual rep.Equal t u n e = absurd (omega arith)
repeats_same c d rep.NotEqual rep.NotEqual t u n e = (refl, cc)

pub repeat_same : (c d : Bool) (r s : Rep) (p q : Sreg) (t u : List ℕ) → number t ≡ 0 → number u ≡ 0
    → repeat_text c r ++ (source_text p ++ t) ≡ repeat_text d s ++ (source_text q ++ u) → (r ≡ s) × (source_text p ++ t ≡ source_text q ++ u)
repeat_same c d r s p q t u g h e =
    repeats_same c d r s _ _ (sym (repeat_reads c r _ (unrepeated p t g)) ∙ (ap (λ (x : List ℕ). repeats (number x)) e ∙ repeat_reads d s _ (unrepeated q u h))) e

-- LOCK

abbrev locks : ℕ → ℕ
locks n = cond (eqb n 1) 1 0

unlocked_source : (s : Sreg) (t : List ℕ) → number t ≡ 0 → locks (number (source_text s ++ t)) ≡ 0
unlocked_source Es t h = refl
unlocked_source Cs t h = refl
unlocked_source Ss t h = refl
unlocked_source Ds t h = ap locks h

unlocked : (c : Bool) (r : Rep) (t : List ℕ) → locks (number t) ≡ 0 → locks (number (repeat_text c r ++ t)) ≡ 0
unlocked c rep.No t h = h
unlocked true rep.Equal t h = refl
unlocked false rep.Equal t h = refl
unlocked c rep.NotEqual t h = refl

lock_differs : (t u : List ℕ) → locks (number u) ≡ 0 → lock_text true ++ t ≡ u → ⊥
lock_differs t u h e = one_zero (ap (λ (x : List ℕ). locks (number x)) e ∙ h)
  where
    one_zero : ◌≡◌ {A = ℕ} 1 0 → ⊥
    one_zero q = omega arith

locks_same : (a b : Bool) (t u : List ℕ) → locks (number t) ≡ 0 → locks (number u) ≡ 0 → lock_text a ++ t ≡ lock_text b ++ u → (a ≡ b) × (t ≡ u)
locks_same true true t u p q e = (refl, cc)
locks_same true false t u p q e = absurd (lock_differs t u q e)
locks_same false true t u p q e = absurd (lock_differs u t p (sym e))
locks_same false false t u p q e = (refl, e)

pub lock_same : (a b c d : Bool) (r s : Rep) (p q : Sreg) (t u : List ℕ) → number t ≡ 0 → number u ≡ 0
    → lock_text a ++ (repeat_text c r ++ (source_text p ++ t)) ≡ lock_text b ++ (repeat_text d s ++ (source_text q ++ u))
    → (a ≡ b) × (repeat_text c r ++ (source_text p ++ t) ≡ repeat_text d s ++ (source_text q ++ u))
lock_same a b c d r s p q t u g h e =
    locks_same a b _ _ (unlocked c r _ (unlocked_source p t g)) (unlocked d s _ (unlocked_source q u h)) e
