use Rattle.std.proofs.Common.{◌≡◌, ℕ, ◌-◌, ◌+◌, ◌<◌, ◌≤◌, List, length, get_or, rules, arith, inl, inr, ◌∙◌}
use Rattle.std.proofs.lemmas.List.{places, ext_get_or}
use Rattle.std.proofs.lemmas.Bool.{cases_lt}
use Rattle.o2_phys.specs.Bytes.{part, with_part}
use Rattle.o2_phys.proofs.move_part.Goals as goal

moved : (xs ys : List ℕ) (from to len : ℕ) → from + len ≤ length xs → to + len ≤ length xs → length ys ≡ length xs
    → ((k : ℕ) → k < len → get_or ys (to + k) 0 ≡ get_or xs (from + k) 0)
    → ((k : ℕ) → k < to → get_or ys k 0 ≡ get_or xs k 0)
    → ((k : ℕ) → to + len ≤ k → get_or ys k 0 ≡ get_or xs k 0)
    → ys ≡ with_part xs to (part xs from len)
moved xs ys from to len f t l a b c =
    let size : length ys ≡ length (with_part xs to (part xs from len)) = search (rules, places) in
    ext_get_or 0 ys (with_part xs to (part xs from len)) size
    (λ k h. elim (cases_lt k to) [
      | inl k_before ↦ b k k_before ∙ grind (arith, places)
      | inr k_later ↦ elim (cases_lt k (to + len)) [
        | inl k_in ↦
            let e : to + (k - to) ≡ k = omega arith in
            let q : get_or ys (to + (k - to)) 0 ≡ get_or xs (from + (k - to)) 0 = a (k - to) (omega arith) in
            grind (arith, places)
        | inr k_past ↦ c k k_past ∙ grind (arith, places)
      ]
    ])

pub returns-after-loop-i : goal.returns-after-loop-i
returns-after-loop-i c =
    let m = c.loop-i.invariant in
    moved c.args.mem.now c.loop-i.mem c.args.from c.args.to c.args.len c.requires.from_in c.requires.to_in (omega arith)
    (λ k h. m.front k (omega arith)) (λ k h. m.before k h) (λ k h. m.after k (omega arith))

pub returns-after-loop-j : goal.returns-after-loop-j
returns-after-loop-j c =
    let m = c.loop-j.invariant in
    moved c.args.mem.now c.loop-j.mem c.args.from c.args.to c.args.len c.requires.from_in c.requires.to_in (omega arith)
    (λ k h. m.back k (omega arith) h) (λ k h. m.before k (omega arith)) (λ k h. m.after k h)
