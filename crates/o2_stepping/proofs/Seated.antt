-- The segments under selectors, one by one.
use Rattle.std.proofs.Common.{◌≡◌, ℕ, zero, suc, ◌+◌, ◌<◌, ◌≤◌, List, [], ◌∷◌, ◌++◌, length, take, ap, refl, sym, ◌∙◌, append-nil, arith}
use Rattle.std.proofs.lemmas.List.{append_assoc}
use Rattle.std.specs.Prelude.{get_or}
use Rattle.o2_place.specs.declared.seg_id.SegId.{SegId}
use Rattle.o2_regions.specs.Maps.{Maps}
use Rattle.o2_segbus.specs.Bus.{held_under}
use Rattle.o2_stepping.specs.Rooms.{pair_of, under_all}

one_under_more : (m : Maps) (pid : ℕ) (ss : List ℕ) (k : ℕ) → k < length ss
    → under_all m pid (take (suc k) ss) ≡ under_all m pid (take k ss) ++ pair_of (held_under m pid (get_or ss k 0))
one_under_more m pid [] k few = absurd (omega (arith, few))
one_under_more m pid (s ∷ ss) zero few = append-nil (pair_of (held_under m pid s))
one_under_more m pid (s ∷ ss) (suc k) few =
    ap (λ (l : List (SegId × ℕ)). pair_of (held_under m pid s) ++ l) (one_under_more m pid ss k (omega (arith, few)))
    ∙ sym (append_assoc (pair_of (held_under m pid s)) (under_all m pid (take k ss)) (pair_of (held_under m pid (get_or ss k 0))))

pub next_under_more : (m : Maps) (pid : ℕ) (ss : List ℕ) (k : ℕ) → k < length ss
    → under_all m pid (take (k + 1) ss) ≡ under_all m pid (take k ss) ++ pair_of (held_under m pid (get_or ss k 0))
next_under_more m pid ss k few = ap (λ (n : ℕ). under_all m pid (take n ss)) (next k) ∙ one_under_more m pid ss k few
  where
    next : (n : ℕ) → n + 1 ≡ suc n
    next n = omega arith

pub all_under : (m : Maps) (pid : ℕ) (ss : List ℕ) (k : ℕ) → length ss ≤ k → under_all m pid (take k ss) ≡ under_all m pid ss
all_under m pid [] zero past = refl
all_under m pid [] (suc k) past = refl
all_under m pid (s ∷ ss) zero past = absurd (omega (arith, past))
all_under m pid (s ∷ ss) (suc k) past = ap (λ (l : List (SegId × ℕ)). pair_of (held_under m pid s) ++ l) (all_under m pid ss k (omega (arith, past)))
