-- Walks over processes and indexes.
use Rattle.std.proofs.Common.{◌≡◌, ℕ, zero, suc, ◌+◌, ◌-◌, ◌<◌, ◌&&◌, Bool, true, false, List, [], ◌∷◌, ◌++◌, length, take, get_or, find, Some, None, refl, ap, sym, ◌∙◌, arith}
use Rattle.std.specs.Prelude.{if◌then◌else◌, not}
use Rattle.std.proofs.lemmas.List.{append-nil, append_assoc, take_more}
use Rattle.o2_desc.specs.Choice.{first_open, is_open}
use Rattle.o2_world.specs.Changes.{Change}
use Rattle.o2_world.specs.Known.{Known}
use Rattle.o2_world.specs.Rulings.{indexes}
use Rattle.o2_world.specs.SharedRulings.{each_more, one_more}
use Rattle.o2_boundless.specs.Sharing.{is_no_share, is_share_at}
use Rattle.o2_boundless.proofs.Indexes.{first_open-more, is_open-more, is_open-none}

-- Processes.

-- what is looked for isn't the first index
pub find_next : (p : ℕ → Bool) (first n : ℕ) → 0 < n → p first ≡ false → find p (indexes first n) ≡ find p (indexes (first + 1) (n - 1))
find_next p first zero h e = absurd (omega (arith, h))
find_next p first (suc n) h e = let m : suc n - 1 ≡ n = omega arith in rw m (rw e refl)

pub find_here : (p : ℕ → Bool) (first n : ℕ) → 0 < n → p first ≡ true → find p (indexes first n) ≡ Some first
find_here p first zero h e = absurd (omega (arith, h))
find_here p first (suc n) h e = rw e refl

pub find_none : (p : ℕ → Bool) (first n : ℕ) → n ≡ 0 → find p (indexes first n) ≡ None
find_none p first n h = rw h refl

pub ruleset holders = (find_next, find_here, find_none)

-- Indexes.

pub each_more-append : (k : Known) (from to : ℕ) (is js : List ℕ) → each_more k from to (is ++ js) ≡ each_more k from to is ++ each_more k from to js
each_more-append k from to [] js = refl
each_more-append k from to (i ∷ is) js = ap (λ cs. one_more to i (k.held from i) ++ cs) (each_more-append k from to is js) ∙ sym (append_assoc (one_more to i (k.held from i)) (each_more k from to is) (each_more k from to js))

pub more_at : (k : Known) (from to : ℕ) (is : List ℕ) (j : ℕ) → j < length is
    → each_more k from to (take (j + 1) is) ≡ each_more k from to (take j is) ++ one_more to (get_or is j 0) (k.held from (get_or is j 0))
more_at k from to is j h =
    ap (each_more k from to) (take_more is j 0 h)
    ∙ (each_more-append k from to (take j is) (get_or is j 0 ∷ [])
    ∙ ap (λ (cs : List Change). each_more k from to (take j is) ++ cs) (append-nil (one_more to (get_or is j 0) (k.held from (get_or is j 0)))))

-- the first index of a segment that is shared
pub share_here : (k : Known) (q i more : ℕ) → 0 < more → is_share_at k q i ≡ true → first_open (is_no_share k q) 1 i more ≡ Some i
share_here k q i more some is =
    first_open-more (is_no_share k q) 1 i more some
    ∙ ap (λ b. if b then Some i else first_open (is_no_share k q) 1 (i + 1) (more - 1)) (is_open-more (is_no_share k q) i 1 (omega arith) ∙ ap (λ (b : Bool). not (not b) && is_open (is_no_share k q) (i + 1) 0) is ∙ is_open-none (is_no_share k q) (i + 1))

pub share_next : (k : Known) (q i more : ℕ) → 0 < more → is_share_at k q i ≡ false → first_open (is_no_share k q) 1 i more ≡ first_open (is_no_share k q) 1 (i + 1) (more - 1)
share_next k q i more some is =
    first_open-more (is_no_share k q) 1 i more some
    ∙ ap (λ b. if b then Some i else first_open (is_no_share k q) 1 (i + 1) (more - 1)) (is_open-more (is_no_share k q) i 1 (omega arith) ∙ ap (λ (b : Bool). not (not b) && is_open (is_no_share k q) (i + 1) 0) is)
