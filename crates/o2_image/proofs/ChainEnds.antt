-- A chain that was checked ends: each place takes two bytes that no other took.
use Rattle.std.proofs.Common.{◌≡◌, ◌≢◌, ℕ, zero, suc, ◌+◌, ◌*◌, ◌<◌, ◌≤◌, ◌||◌, ◌==◌, List, [], ◌∷◌, Bool, true, false, Result, Ok, refl, ◌∙◌, length, get_or, set, arith, cond}
use Rattle.std.specs.Prelude.{nat_le}
use Rattle.std.proofs.lemmas.Bool.{leb-true}
use Rattle.std.proofs.lemmas.List.{get_or-set_other, length-set}
use Rattle.o2_ne.specs.Words.{word_at}
use Rattle.o2_ne.specs.Steps.{steps}
use Rattle.o2_base.specs.declared.faults.ModuleFault.{ModuleFault}
use Rattle.o2_image.specs.Chains.{Marks, Walk, any_patched, chain_step, patched, single}
use Rattle.o2_ne.proofs.Binding.{bind_ok}
use Rattle.o2_image.proofs.ChainSteps.{is_over}

-- how many bytes are not patched
abbrev pub free : Marks → ℕ
free [] = 0
free (m ∷ ms) = cond m 0 1 + free ms

free-le-length : (marks : Marks) → free marks ≤ length marks
free-le-length [] = omega arith
free-le-length (true ∷ ms) = omega (arith, free-le-length ms)
free-le-length (false ∷ ms) = omega (arith, free-le-length ms)

first_false : (a b : Bool) → a || b ≡ false → (a ≡ false) × (b ≡ false)
first_false true b e = absurd cc
first_false false b e = (refl, e)

free_set : (marks : Marks) (p : ℕ) → p < length marks → get_or marks p false ≡ false → free (set marks p true) + 1 ≡ free marks
free_set [] p lt h = absurd (omega arith)
free_set (true ∷ ms) zero lt h = absurd cc
free_set (false ∷ ms) zero lt h = omega arith
free_set (m ∷ ms) (suc p) lt h = omega (arith, free_set ms p (omega arith) h)

any_set : (marks : Marks) (p q n : ℕ) → p < q → any_patched (set marks p true) q n ≡ any_patched marks q n
any_set marks p q zero lt = refl
any_set marks p q (suc n) lt =
    let other : q ≢ p = omega arith in
    let here = get_or-set_other marks p q true false other in
    let rest = any_set marks p (q + 1) n (omega arith) in
    rw (here, rest) refl

free_patched : (marks : Marks) (p n : ℕ) → p + n ≤ length marks → any_patched marks p n ≡ false → (free (patched marks p n) + n ≡ free marks) × (length (patched marks p n) ≡ length marks)
free_patched marks p zero le h = (omega arith, refl)
free_patched marks p (suc n) le h =
    let both = first_false (get_or marks p false) (any_patched marks (p + 1) n) h in
    let len = length-set marks p true in
    let one = free_set marks p (omega arith) both.0 in
    let ih = free_patched (set marks p true) (p + 1) n (omega arith) (any_set marks p (p + 1) n (omega arith) ∙ both.1) in
    let more = ih.0 in
    (omega arith, ih.1 ∙ len)

single_frees : (seg : ℕ) (bytes : List ℕ) (width p : ℕ) (marks after : Marks) → length marks ≡ length bytes → single seg bytes width p marks ≡ Ok after
    → (free after + width ≡ free marks) × (length after ≡ length bytes)
single_frees seg bytes width p marks after same e = go (nat_le (p + width) (length bytes)) (any_patched marks p width) refl refl
  where
    go : (a b : Bool) → nat_le (p + width) (length bytes) ≡ a → any_patched marks p width ≡ b → (free after + width ≡ free marks) × (length after ≡ length bytes)
    go true false fits clear =
        let done : patched marks p width ≡ after = let e' = rw (fits, clear) at e in cc in
        let le = leb-true _ _ fits in
        let f = free_patched marks p width (omega arith) clear in
        (rw (← done) f.0, rw (← done) (f.1 ∙ same))
    go true true fits clear = let bad = rw (fits, clear) at e in absurd cc
    go false b fits clear = let bad = rw fits at e in absurd cc

step_frees : (seg : ℕ) (bytes : List ℕ) (width : ℕ) (w after : Walk) → w.ended ≡ false → length w.marks ≡ length bytes → chain_step seg bytes width w ≡ Ok after
    → (free after.marks + width ≡ free w.marks) × (length after.marks ≡ length bytes)
unfolding chain_step
step_frees seg bytes width w after going same e =
    let one = bind_ok (single seg bytes width w.next w.marks) (λ (m : Marks). Ok (record { marks = m; next = word_at bytes w.next; ended = word_at bytes w.next == 65535 })) after (rw going at e) in
    let f = single_frees seg bytes width w.next w.marks one.0 same one.1 in
    let is : one.0 ≡ after.marks = cc in
    (rw (← is) f.0, rw (← is) f.1)

abbrev over_at : Walk → Result Walk ModuleFault
over_at w = Ok w

bad : (w1 after : Walk) → over_at after ≡ over_at w1 → w1.ended ≡ true → after.ended ≡ false → ⊥
bad w1 after is over goes = cc

next_takes : (seg : ℕ) (bytes : List ℕ) (width n : ℕ) (w w1 after : Walk) → 2 ≤ width → free w1.marks + 2 ≤ free w.marks → after.ended ≡ false
    → steps (chain_step seg bytes width) n w1 ≡ Ok after → (b : Bool) → w1.ended ≡ b → (w1.ended ≡ false → free after.marks + 2 * n ≤ free w1.marks) → free after.marks + 2 * suc n ≤ free w.marks
next_takes seg bytes width n w w1 after wide took goes rest true over ih =
    let is : over_at after ≡ over_at w1 = is_over seg bytes width n w1 (Ok after) over rest in
    absurd (bad w1 after is over goes)
next_takes seg bytes width n w w1 after wide took goes rest false still ih = let more = ih still in omega arith

-- a walk that goes on after n steps took 2 * n bytes
walk_takes : (seg : ℕ) (bytes : List ℕ) (width n : ℕ) (w after : Walk) → 2 ≤ width → w.ended ≡ false → after.ended ≡ false → length w.marks ≡ length bytes
    → steps (chain_step seg bytes width) n w ≡ Ok after → free after.marks + 2 * n ≤ free w.marks
unfolding steps
walk_takes seg bytes width zero w after wide going goes same e =
    let is : w ≡ after = cc in
    rw is (omega arith)
walk_takes seg bytes width (suc n) w after wide going goes same e =
    let b = bind_ok (chain_step seg bytes width w) (steps (chain_step seg bytes width) n) after e in
    let f = step_frees seg bytes width w b.0 going same b.1 in
    let first = f.0 in
    next_takes seg bytes width n w b.0 after wide (omega arith) goes b.2 (b.0.ended) refl (λ still. walk_takes seg bytes width n b.0 after wide still goes f.1 b.2)

-- so a chain over at most 65,536 bytes has ended after 65,536 steps
pub chain_ends : (seg : ℕ) (bytes : List ℕ) (width : ℕ) (w after : Walk) → 2 ≤ width → length bytes ≤ 65536 → w.ended ≡ false → length w.marks ≡ length bytes
    → steps (chain_step seg bytes width) 65536 w ≡ Ok after → after.ended ≡ true
chain_ends seg bytes width w after wide short going same e = go (after.ended) refl
  where
    go : (b : Bool) → after.ended ≡ b → after.ended ≡ true
    go true h = h
    go false h =
        let took = walk_takes seg bytes width 65536 w after wide going h same e in
        let few = free-le-length w.marks in
        absurd (omega arith)
