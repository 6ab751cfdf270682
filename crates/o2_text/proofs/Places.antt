-- The text of an operand in memory tells its base, its displacement and its segment.
use Rattle.std.proofs.Common.{◌≡◌, ◌⊎◌, inl, inr, refl, sym, ◌∙◌, ap, subst, ℕ, zero, suc, ◌-◌, ◌<◌, ◌≤◌, Bool, true, false, cond, nat_lt, eqb, List, [], ◌∷◌, ◌++◌, arith, rules}
use Rattle.std.proofs.lemmas.Bool.{ltb-true, ltb-false, cases_Bool, eqb-true, eqb-false, ne_eqb}
use Rattle.std.proofs.lemmas.List.{append_cancel_left, append_cancel_right}
use Rattle.o2_isa.specs.declared.instr.Sreg.{Sreg}
use Rattle.o2_isa.specs.declared.instr.Sreg.TheVariants.{Es, Cs, Ss, Ds}
use Rattle.o2_isa.specs.declared.instr.Ea.{Ea}
use Rattle.o2_text.specs.Text.{number, address, uses_stack, override_text, base_text, displacement_text, place_text, memory_text}
use Rattle.o2_text.proofs.Digits.{number_same, address_same, number_forms, digit_no_colon}

-- what stands for a displacement: nothing, or a sign and a number
pub data Form (d : ℕ) (t : List ℕ) : Type 0 where
  None : d ≡ 0 → t ≡ [] → Form d t
  Plus : d < 32768 → 0 < d → t ≡ 43 ∷ number d → Form d t
  Minus : 32768 ≤ d → t ≡ 45 ∷ number (65536 - d) → Form d t

pub form_of : (d : ℕ) → Form d (displacement_text d)
form_of d = elim (cases_Bool (eqb d 0)) [
  | inl e ↦ None (eqb-true d 0 e) (rw e refl)
  | inr e ↦ elim (cases_Bool (nat_lt d 32768)) [
    | inl f ↦ Plus (ltb-true d 32768 f) (positive d (eqb-false d 0 e)) (rw (e, f) refl)
    | inr f ↦ Minus (ltb-false d 32768 f) (rw (e, f) refl)
  ]
]
  where
    positive : (d : ℕ) → (d ≡ 0 → ⊥) → 0 < d
    positive zero h = absurd (h refl)
    positive (suc d) h = omega arith

abbrev pub first : List ℕ → ℕ
first (a ∷ t) = a
first t = 0

plus_minus : ◌≡◌ {A = ℕ} 43 45 → ⊥
plus_minus h = omega arith

minus_same : (d e : ℕ) → 32768 ≤ d → 32768 ≤ e → d < 65536 → e < 65536 → 65536 - d ≡ 65536 - e → d ≡ e
minus_same d e a b c f g = omega arith

behind_head : (x : ℕ) (s t : List ℕ) → x ∷ s ≡ x ∷ t → s ≡ t
behind_head x s t e = cc

forms_same : (d e : ℕ) (t u : List ℕ) → d < 65536 → e < 65536 → Form d t → Form e u → t ≡ u → d ≡ e
forms_same d e t u a b (None p q) (None r s) same = p ∙ sym r
forms_same d e t u a b (None p q) (Plus r z s) same = absurd (differ (sym q ∙ (same ∙ s)))
  where
    differ : {x : ℕ} {s : List ℕ} → [] ≡ x ∷ s → ⊥
    differ h = cc
forms_same d e t u a b (None p q) (Minus r s) same = absurd (differ (sym q ∙ (same ∙ s)))
  where
    differ : {x : ℕ} {s : List ℕ} → [] ≡ x ∷ s → ⊥
    differ h = cc
forms_same d e t u a b (Plus p z q) (None r s) same = absurd (differ (sym s ∙ (sym same ∙ q)))
  where
    differ : {x : ℕ} {s : List ℕ} → [] ≡ x ∷ s → ⊥
    differ h = cc
forms_same d e t u a b (Plus p z q) (Plus r y s) same = number_same d e (behind_head 43 _ _ (sym q ∙ (same ∙ s)))
forms_same d e t u a b (Plus p z q) (Minus r s) same = absurd (differ (sym q ∙ (same ∙ s)))
  where
    differ : {s t : List ℕ} → 43 ∷ s ≡ 45 ∷ t → ⊥
    differ h = plus_minus (ap first h)
forms_same d e t u a b (Minus p q) (None r s) same = absurd (differ (sym s ∙ (sym same ∙ q)))
  where
    differ : {x : ℕ} {s : List ℕ} → [] ≡ x ∷ s → ⊥
    differ h = cc
forms_same d e t u a b (Minus p q) (Plus r y s) same = absurd (differ (sym s ∙ (sym same ∙ q)))
  where
    differ : {s t : List ℕ} → 43 ∷ s ≡ 45 ∷ t → ⊥
    differ h = plus_minus (ap first h)
forms_same d e t u a b (Minus p q) (Minus r s) same = minus_same d e p r a b (number_same _ _ (behind_head 45 _ _ (sym q ∙ (same ∙ s))))

pub displacement_same : (d e : ℕ) → d < 65536 → e < 65536 → displacement_text d ≡ displacement_text e → d ≡ e
displacement_same d e a b same = forms_same d e _ _ a b (form_of d) (form_of e) same

-- the base that a text begins with
abbrev fourth : List ℕ → ℕ
fourth (a ∷ b ∷ c ∷ d ∷ t) = d
fourth t = 0

abbrev pub second : List ℕ → ℕ
second (a ∷ b ∷ t) = b
second t = 0

abbrev third : List ℕ → ℕ
third (a ∷ b ∷ c ∷ t) = c
third t = 0

abbrev base_read : List ℕ → ℕ
base_read t = cond (eqb (first t) 48) 8 (cond (eqb (first t) 115) 4 (cond (eqb (first t) 100) 5 (cond (eqb (second t) 120) (cond (eqb (fourth t) 115) 0 (cond (eqb (fourth t) 100) 1 7)) (cond (eqb (fourth t) 115) 2 (cond (eqb (fourth t) 100) 3 6)))))

-- the texts of places, each with what stands for its displacement
number_zero : (n : ℕ) → (s : List ℕ) × (number n ≡ 48 ∷ s)
number_zero n = elim (number_forms n) [ inl e ↦ (_, e) | inr e ↦ (_, e) ]

-- a text that is none, or a sign and 0
pub data Tail : List ℕ → Type 0 where
  Ends : Tail []
  Signs : (x : ℕ) (s : List ℕ) → (eqb x 58 ≡ false) → Tail (x ∷ 48 ∷ s)

tail_of : (d : ℕ) (t : List ℕ) → Form d t → Tail t
tail_of d t (None p q) = subst Tail (sym q) Ends
tail_of d t (Plus p z q) = let n = number_zero d in subst Tail (sym (q ∙ ap (λ s. 43 ∷ s) n.1)) (Signs 43 n.0 refl)
tail_of d t (Minus p q) = let n = number_zero (65536 - d) in subst Tail (sym (q ∙ ap (λ s. 45 ∷ s) n.1)) (Signs 45 n.0 refl)

pub record Reads (base : ℕ) (t : List ℕ) : Type 0 where
  pub base_is : base_read t ≡ base
  pub bare : eqb (third t) 58 ≡ false

short : (base : ℕ) (b : List ℕ) (t : List ℕ) → Tail t → ((s : List ℕ) → Tail s → Reads base (b ++ s)) → Reads base (b ++ t)
short base b t h f = f t h

reads_tail : (base : ℕ) → base < 8 → (t : List ℕ) → Tail t → Reads base (base_text base ++ t)
reads_tail zero h t w = record { base_is = refl; bare = refl }
reads_tail (suc zero) h t w = record { base_is = refl; bare = refl }
reads_tail (suc (suc zero)) h t w = record { base_is = refl; bare = refl }
reads_tail (suc (suc (suc zero))) h t w = record { base_is = refl; bare = refl }
reads_tail (suc (suc (suc (suc zero)))) h [] Ends = record { base_is = refl; bare = refl }
reads_tail (suc (suc (suc (suc zero)))) h _ (Signs x s e) = record { base_is = refl; bare = e }
reads_tail (suc (suc (suc (suc (suc zero))))) h [] Ends = record { base_is = refl; bare = refl }
reads_tail (suc (suc (suc (suc (suc zero))))) h _ (Signs x s e) = record { base_is = refl; bare = e }
reads_tail (suc (suc (suc (suc (suc (suc zero)))))) h [] Ends = record { base_is = refl; bare = refl }
reads_tail (suc (suc (suc (suc (suc (suc zero)))))) h _ (Signs x s e) = record { base_is = refl; bare = e }
reads_tail (suc (suc (suc (suc (suc (suc (suc zero))))))) h [] Ends = record { base_is = refl; bare = refl }
reads_tail (suc (suc (suc (suc (suc (suc (suc zero))))))) h _ (Signs x s e) = record { base_is = refl; bare = e }
reads_tail (suc (suc (suc (suc (suc (suc (suc (suc n)))))))) h t w = absurd (omega arith)

reads_address : (d : ℕ) → Reads 8 (address d)
unfolding address
reads_address d = record { base_is = refl; bare = ne_eqb _ _ (digit_no_colon _) }

pub place_low : (base d : ℕ) → base < 8 → place_text base d ≡ base_text base ++ displacement_text d
place_low base d h = rw (below base h) refl
  where
    below : (base : ℕ) → base < 8 → nat_lt base 8 ≡ true
    below base h = search (rules)

place_high : (d : ℕ) → place_text 8 d ≡ address d
place_high d = refl

pub low_or : (base : ℕ) → base ≤ 8 → (base < 8) ⊎ (base ≡ 8)
low_or base h = elim (cases_Bool (nat_lt base 8)) [ inl e ↦ inl (ltb-true base 8 e) | inr e ↦ inr (omega (arith, ltb-false base 8 e)) ]

pub reads_place : (base d : ℕ) → base ≤ 8 → Reads base (place_text base d)
reads_place base d h = elim (low_or base h) [
  | inl l ↦ subst (λ (t : List ℕ). Reads base t) (sym (place_low base d l)) (reads_tail base l _ (tail_of d _ (form_of d)))
  | inr e ↦ subst (λ (b : ℕ). Reads b (place_text b d)) (sym e) (reads_address d)
]

pub place_same : (base d base_too d_too : ℕ) → base ≤ 8 → base_too ≤ 8 → d < 65536 → d_too < 65536 → place_text base d ≡ place_text base_too d_too → (base ≡ base_too) × (d ≡ d_too)
place_same base d b e h g x y same =
    let bases : base ≡ b = sym (reads_place base d h).base_is ∙ (ap base_read same ∙ (reads_place b e g).base_is) in
    (bases, at_one base d e h x y (same ∙ ap (λ n. place_text n e) (sym bases)))
  where
    at_one : (base d e : ℕ) → base ≤ 8 → d < 65536 → e < 65536 → place_text base d ≡ place_text base e → d ≡ e
    at_one base d e h x y same = elim (low_or base h) [
      | inl l ↦ displacement_same d e x y (append_cancel_left (base_text base) _ _ (sym (place_low base d l) ∙ (same ∙ place_low base e l)))
      | inr q ↦ address_same d e (subst (λ (b : ℕ). place_text b d ≡ place_text b e) q same)
    ]

-- the segment before a place: its first letter, or 0 where none is written
abbrev override_read : List ℕ → ℕ
override_read t = cond (eqb (third t) 58) (first t) 0

abbrev override_number : Bool → Sreg → ℕ
override_number stack Es = 101
override_number stack Cs = 99
override_number stack Ss = cond stack 0 115
override_number stack Ds = cond stack 100 0

override_reads : (stack : Bool) (s : Sreg) (t : List ℕ) → eqb (third t) 58 ≡ false → override_read (override_text stack s ++ t) ≡ override_number stack s
override_reads stack Es t h = refl
override_reads stack Cs t h = refl
override_reads true Ss t h = rw h refl
override_reads false Ss t h = refl
override_reads true Ds t h = refl
override_reads false Ds t h = rw h refl

override_same : (a b : Bool) (r s : Sreg) (t u : List ℕ) → override_number a r ≡ override_number b s → override_text a r ++ t ≡ override_text b s ++ u → t ≡ u
override_same a b Es Es t u n e = cc
override_same a b Es Cs t u n e = absurd (omega arith)
override_same a true Es Ss t u n e = absurd (omega arith)
override_same a false Es Ss t u n e = absurd (omega arith)
override_same a true Es Ds t u n e = absurd (omega arith)
override_same a false Es Ds t u n e = absurd (omega arith)
override_same a b Cs Es t u n e = absurd (omega arith)
override_same a b Cs Cs t u n e = cc
override_same a true Cs Ss t u n e = absurd (omega arith)
override_same a false Cs Ss t u n e = absurd (omega arith)
override_same a true Cs Ds t u n e = absurd (omega arith)
override_same a false Cs Ds t u n e = absurd (omega arith)
override_same true b Ss Es t u n e = absurd (omega arith)
override_same false b Ss Es t u n e = absurd (omega arith)
override_same true b Ss Cs t u n e = absurd (omega arith)
override_same false b Ss Cs t u n e = absurd (omega arith)
override_same true true Ss Ss t u n e = e
override_same true false Ss Ss t u n e = absurd (omega arith)
override_same false true Ss Ss t u n e = absurd (omega arith)
override_same false false Ss Ss t u n e = cc
override_same true true Ss Ds t u n e = absurd (omega arith)
override_same true false Ss Ds t u n e = e
override_same false true Ss Ds t u n e = absurd (omega arith)
override_same false false Ss Ds t u n e = absurd (omega arith)
override_same true b Ds Es t u n e = absurd (omega arith)
override_same false b Ds Es t u n e = absurd (omega arith)
override_same true b Ds Cs t u n e = absurd (omega arith)
override_same false b Ds Cs t u n e = absurd (omega arith)
override_same true true Ds Ss t u n e = absurd (omega arith)
override_same true false Ds Ss t u n e = absurd (omega arith)
override_same false true Ds Ss t u n e = e
override_same false false Ds Ss t u n e = absurd (omega arith)
override_same true true Ds Ds t u n e = cc
override_same true false Ds Ds t u n e = absurd (omega arith)
override_same false true Ds Ds t u n e = absurd (omega arith)
override_same false false Ds Ds t u n e = e

segment_same : (a : Bool) (r s : Sreg) → override_number a r ≡ override_number a s → r ≡ s
segment_same a Es Es n = refl
segment_same a Es Cs n = absurd (omega arith)
segment_same true Es Ss n = absurd (omega arith)
segment_same false Es Ss n = absurd (omega arith)
segment_same true Es Ds n = absurd (omega arith)
segment_same false Es Ds n = absurd (omega arith)
segment_same a Cs Es n = absurd (omega arith)
segment_same a Cs Cs n = refl
segment_same true Cs Ss n = absurd (omega arith)
segment_same false Cs Ss n = absurd (omega arith)
segment_same true Cs Ds n = absurd (omega arith)
segment_same false Cs Ds n = absurd (omega arith)
segment_same true Ss Es n = absurd (omega arith)
segment_same false Ss Es n = absurd (omega arith)
segment_same true Ss Cs n = absurd (omega arith)
segment_same false Ss Cs n = absurd (omega arith)
segment_same a Ss Ss n = refl
segment_same true Ss Ds n = absurd (omega arith)
segment_same false Ss Ds n = absurd (omega arith)
segment_same true Ds Es n = absurd (omega arith)
segment_same false Ds Es n = absurd (omega arith)
segment_same true Ds Cs n = absurd (omega arith)
segment_same false Ds Cs n = absurd (omega arith)
segment_same true Ds Ss n = absurd (omega arith)
segment_same false Ds Ss n = absurd (omega arith)
segment_same a Ds Ds n = refl

pub record IsAddress (ea : Ea) : Type 0 where
  pub base : ea.base ≤ 8
  pub disp : ea.disp < 65536

inner : Ea → List ℕ
inner ea = override_text (uses_stack ea.base) ea.seg ++ place_text ea.base ea.disp

pub memory_same : (a b : Ea) → IsAddress a → IsAddress b → memory_text a ≡ memory_text b → a ≡ b
memory_same a b p q e =
    let opened : (override_text (uses_stack a.base) a.seg ++ place_text a.base a.disp) ≡ (override_text (uses_stack b.base) b.seg ++ place_text b.base b.disp) =
    behind_head 91 _ _ (append_cancel_right _ _ (93 ∷ []) e) in
    let numbers : override_number (uses_stack a.base) a.seg ≡ override_number (uses_stack b.base) b.seg =
    sym (override_reads _ a.seg _ (reads_place a.base a.disp p.base).bare) ∙ (ap override_read opened ∙ override_reads _ b.seg _ (reads_place b.base b.disp q.base).bare) in
    let places = place_same a.base a.disp b.base b.disp p.base q.base p.disp q.disp (override_same _ _ a.seg b.seg _ _ numbers opened) in
    let segments : a.seg ≡ b.seg = segment_same (uses_stack a.base) a.seg b.seg (numbers ∙ ap (λ n. override_number (uses_stack n) b.seg) (sym places.0)) in
    all_same a b places.0 places.1 segments
  where
    all_same : (a b : Ea) → a.base ≡ b.base → a.disp ≡ b.disp → a.seg ≡ b.seg → a ≡ b
    all_same a b x y z =
        let at_base : ℕ → Ea = λ n. record { base = n; disp = a.disp; seg = a.seg } in
        let at_disp : ℕ → Ea = λ n. record { base = b.base; disp = n; seg = a.seg } in
        let at_seg : Sreg → Ea = λ s. record { base = b.base; disp = b.disp; seg = s } in
        ap at_base x ∙ (ap at_disp y ∙ ap at_seg z)
