-- One block goes from the top of a pile to another.
use Rattle.std.proofs.lemmas.Option.{slice_get-get_or, slice_get_cases}
use Rattle.std.proofs.Common.{◌^◌, slice_get, Some, None, replicate, ◌≡◌, ◌≢◌, ℕ, zero, suc, ◌+◌, ◌-◌, ◌<◌, ◌≤◌, inl, inr, List, length, [], ◌∷◌, ◌++◌, get_or, set, refl, sym, subst, ap, ◌∙◌, arith, sum_by, add-one}
use Rattle.std.proofs.lemmas.List.{places, get_or-set_other, get_or-set_same, length-set, get_or-map, get_or_past, get_or-replicate, length-replicate}
use Rattle.std.proofs.lemmas.List.Sums.{sum_by-set, sum_by-cons, get_or-le-sum_by}
use Rattle.std.proofs.lemmas.Bool.{cases_lt, cases_eq}
use Rattle.std.proofs.lemmas.Grind.{common_steps}
use Rattle.o2_swapmap.specs.declared.piles.Block.{Block}
use Rattle.o2_swapmap.specs.declared.piles.Pile.{Pile}
use Rattle.o2_swapmap.specs.Piles.{no_block, no_pile, block, pile, IsPile, list_of, lists_of, ArePiles, Blocks, IsStep, NoneTwice, IsMap}

-- a pile that isn't empty has its top among the blocks
pub top_is : (bs : List Block) (owner top n : ℕ) → IsPile bs owner top n → 0 < n → (top < length bs) × ((block bs top).owner ≡ owner)
    × ((block bs top).rank + 1 ≡ n) × IsPile bs owner (block bs top).below (n - 1)
    × (pile bs top n ≡ pile bs (block bs top).below (n - 1) ++ top ∷ [])
top_is bs owner top zero h l = absurd (omega arith)
top_is bs owner top (suc n) h l =
    let e : suc n - 1 ≡ n = omega arith in
    rw e (h.0, h.1, omega (arith, h.2), h.3, refl)

-- a write at a block that isn't in the pile leaves it
pub pile-set : (bs : List Block) (x : ℕ) (b : Block) (owner top n : ℕ) → IsPile bs owner top n → ((block bs x).owner ≡ owner → n ≤ (block bs x).rank) → (pile (set bs x b) top n ≡ pile bs top n) × IsPile (set bs x b) owner top n
pile-set bs x b owner top zero h out = (refl, tt)
pile-set bs x b owner top (suc n) h out =
    let ne : top ≢ x = λ e. let f : suc n ≤ (block bs top).rank = rw e (out (rw e at h.1)) in omega (arith, f, h.2) in
    let same : block (set bs x b) top ≡ block bs top = get_or-set_other bs x top b no_block ne in
    let rest = pile-set bs x b owner (block bs top).below n h.3 (λ e. omega (arith, out e)) in
    rw same (ap (λ (ys : List ℕ). ys ++ top ∷ []) rest.0, (rw (length-set bs x b) h.0, h.1, h.2, rest.1))

pub length-pile : (bs : List Block) (top n : ℕ) → length (pile bs top n) ≡ n
length-pile bs top zero = refl
length-pile bs top (suc n) = let e = length-pile bs (block bs top).below n in grind (arith, common_steps)

-- a block of a pile names its owner and its place
abbrev pub Names : List Block → ℕ → ℕ → ℕ → Type 0
Names bs owner k b = (b < length bs) × ((block bs b).owner ≡ owner) × ((block bs b).rank ≡ k)

pub pile-names : (bs : List Block) (owner top n k : ℕ) → IsPile bs owner top n → k < n → Names bs owner k (get_or (pile bs top n) k 0)
pile-names bs owner top zero k h l = absurd (omega arith)
pile-names bs owner top (suc n) k h l =
    let size = length-pile bs (block bs top).below n in
    elim (cases_lt k n) [
      | inl below ↦ (let e : get_or (pile bs (block bs top).below n ++ top ∷ []) k 0 ≡ get_or (pile bs (block bs top).below n) k 0 = grind (arith, places) in
          rw e (pile-names bs owner (block bs top).below n k h.3 below))
      | inr at_top ↦ (let e : get_or (pile bs (block bs top).below n ++ top ∷ []) k 0 ≡ top = grind (arith, places) in
          rw e (h.0, h.1, omega (arith, h.2)))
    ]

-- piles in which no other pile is touched
abbrev pub at : List Pile → ℕ → Pile
at ps i = get_or ps i no_pile

pub list_at : (bs : List Block) (ps : List Pile) (i : ℕ) → get_or (lists_of bs ps) i [] ≡ list_of bs (at ps i)
list_at bs ps i = elim (cases_lt i (length ps)) [
  | inl l ↦ get_or-map (list_of bs) ps i no_pile [] l
  | inr l ↦ grind (arith, common_steps)
]

-- what a move leaves
pub record IsMoved (bs : List Block) (ps : List Pile) (from to x : ℕ) (cs : List Block) (qs : List Pile) : Type 0 where
  pub sound : ArePiles cs qs
  pub source : get_or (lists_of bs ps) from [] ≡ get_or (lists_of cs qs) from [] ++ x ∷ []
  pub target : get_or (lists_of cs qs) to [] ≡ get_or (lists_of bs ps) to [] ++ x ∷ []
  pub others : (k : ℕ) → k ≢ from → k ≢ to → get_or (lists_of cs qs) k [] ≡ get_or (lists_of bs ps) k []

on_top : (cs : List Block) (x owner n : ℕ) (b : Block) → block cs x ≡ b → x < length cs → b.owner ≡ owner → b.rank ≡ n → IsPile cs owner b.below n → IsPile cs owner x (n + 1) × (pile cs x (n + 1) ≡ pile cs b.below n ++ x ∷ [])
on_top cs x owner n b e l o r h = rw (add-one n) (rw e ((l, o, r, h), refl))

-- the piles after a move
abbrev lower : List Block → Pile → Pile
lower bs p = record { top = (block bs p.top).below; count = p.count - 1 }

abbrev higher : ℕ → Pile → Pile
higher x p = record { top = x; count = p.count + 1 }

abbrev onto : ℕ → Pile → Block
onto to p = record { below = p.top; owner = to; rank = p.count }

at_to : (ps : List Pile) (from to : ℕ) (p q : Pile) → to < length ps → at (set (set ps from p) to q) to ≡ q
at_to ps from to p q l = get_or-set_same (set ps from p) to q no_pile (rw (length-set ps from p) l)

at_from : (ps : List Pile) (from to : ℕ) (p q : Pile) → from < length ps → from ≢ to → at (set (set ps from p) to q) from ≡ p
at_from ps from to p q l ne = get_or-set_other (set ps from p) to from q no_pile ne ∙ get_or-set_same ps from p no_pile l

at_other : (ps : List Pile) (from to k : ℕ) (p q : Pile) → k ≢ from → k ≢ to → at (set (set ps from p) to q) k ≡ at ps k
at_other ps from to k p q n m = get_or-set_other (set ps from p) to k q no_pile m ∙ get_or-set_other ps from k p no_pile n

pub moved : (bs : List Block) (ps : List Pile) (from to : ℕ) → ArePiles bs ps → from < length ps → to < length ps → from ≢ to → 0 < (at ps from).count
    → IsMoved bs ps from to (at ps from).top (set bs (at ps from).top (onto to (at ps to))) (set (set ps from (lower bs (at ps from))) to (higher (at ps from).top (at ps to)))
moved bs ps from to h f t ne some =
    let x = (at ps from).top in
    let b = onto to (at ps to) in
    let cs = set bs x b in
    let p = lower bs (at ps from) in
    let q = higher x (at ps to) in
    let qs = set (set ps from p) to q in
    let tf = top_is bs from x (at ps from).count (h.each from f) some in
    let kept_from = pile-set bs x b from p.top p.count tf.3 (λ e. omega (arith, tf.2)) in
    let kept_to = pile-set bs x b to (at ps to).top (at ps to).count (h.each to t) (λ e. absurd (ne (sym tf.1 ∙ e))) in
    let on = on_top cs x to (at ps to).count b (get_or-set_same bs x b no_block tf.0) (rw (length-set bs x b) tf.0) refl refl kept_to.1 in
    let kept_other : (k : ℕ) → k < length ps → k ≢ from → (pile cs (at ps k).top (at ps k).count ≡ pile bs (at ps k).top (at ps k).count)
    × IsPile cs k (at ps k).top (at ps k).count = λ k l n. pile-set bs x b k (at ps k).top (at ps k).count (h.each k l)
    (λ e. absurd (n (sym e ∙ tf.1))) in
    record {
      sound = record {
        each = λ k l. elim (cases_eq k to) [
          | inl e ↦ rw (e, at_to ps from to p q t) on.0
          | inr n ↦ elim (cases_eq k from) [
            | inl e ↦ rw (e, at_from ps from to p q f ne) kept_from.1
            | inr m ↦ rw (at_other ps from to k p q m n) (kept_other k (rw (length-set (set ps from p) to q, length-set ps from p) at l) m).1
          ]
        ];
        total =
            let one = sum_by-set (λ (r : Pile). r.count) ps from p no_pile f in
            let two = sum_by-set (λ (r : Pile). r.count) (set ps from p) to q no_pile (rw (length-set ps from p) t) in
            let same : at (set ps from p) to ≡ at ps to = get_or-set_other ps from to p no_pile (λ e. ne (sym e)) in
            let last : sum_by (λ (r : Pile). r.count) qs ≡ length bs = let w = rw same at two in omega (arith, one, w, h.total) in
            rw (length-set bs x b) last;
      };
      source = list_at bs ps from ∙ tf.4 ∙ ap (λ (ys : List ℕ). ys ++ x ∷ []) (sym (list_at cs qs from ∙ ap (list_of cs) (at_from ps from to p q f ne) ∙ kept_from.0));
      target = list_at cs qs to ∙ ap (list_of cs) (at_to ps from to p q t) ∙ on.1 ∙ ap (λ (ys : List ℕ). ys ++ x ∷ []) (kept_to.0 ∙ sym (list_at bs ps to));
      others = λ k n m. list_at cs qs k ∙ ap (list_of cs) (at_other ps from to k p q n m) ∙ elim (cases_lt k (length ps)) [
        | inl l ↦ (kept_other k l n).0
        | inr past ↦ rw (get_or_past ps k no_pile past) refl
      ] ∙ sym (list_at bs ps k);
    }

pub top_in : (bs : List Block) (ps : List Pile) (i : ℕ) → ArePiles bs ps → i < length ps → 0 < (at ps i).count → (at ps i).top < length bs
top_in bs ps i h l some = (top_is bs i (at ps i).top (at ps i).count (h.each i l) some).0

-- how long the lists are
pub length-list : (bs : List Block) (ps : List Pile) (i : ℕ) → length (get_or (lists_of bs ps) i []) ≡ (at ps i).count
length-list bs ps i = ap (λ (xs : List ℕ). length xs) (list_at bs ps i) ∙ length-pile bs (at ps i).top (at ps i).count

pub sum-lists : (bs : List Block) (ps : List Pile) → sum_by (λ (xs : List ℕ). length xs) (lists_of bs ps) ≡ sum_by (λ (p : Pile). p.count) ps
sum-lists bs [] = refl
sum-lists bs (p ∷ ps) =
    let e = sum-lists bs ps in let f = length-pile bs p.top p.count in
    sum_by-cons (λ (xs : List ℕ). length xs) (list_of bs p) (lists_of bs ps) ∙ ap (λ n. n + sum_by (λ (xs : List ℕ). length xs) (lists_of bs ps)) f ∙ ap (λ n. p.count + n) e ∙ sym (sum_by-cons (λ (r : Pile). r.count) p ps)

-- the public view
abbrev pub map_of : List Block → List Pile → Blocks
map_of bs ps = record { lists = lists_of bs ps; most = length ps - 1 }

pub step_is : (bs cs : List Block) (ps qs : List Pile) (from to x : ℕ) → length cs ≡ length bs → length qs ≡ length ps → ArePiles bs ps → ArePiles cs qs
    → get_or (lists_of bs ps) from [] ≡ get_or (lists_of cs qs) from [] ++ x ∷ []
    → get_or (lists_of cs qs) to [] ≡ get_or (lists_of bs ps) to [] ++ x ∷ []
    → ((k : ℕ) → k ≢ from → k ≢ to → get_or (lists_of cs qs) k [] ≡ get_or (lists_of bs ps) k [])
    → IsStep from to (map_of bs ps) (map_of cs qs)
step_is bs cs ps qs from to x l m h g a b c = record {
  block = x;
  source = a;
  target = b;
  others = c;
  most = rw m refl;
  all = sum-lists cs qs ∙ g.total ∙ l ∙ sym h.total ∙ sym (sum-lists bs ps);
}

none_names : (bs : List Block) (ps : List Pile) → ArePiles bs ps → (i k : ℕ) → k < length (get_or (lists_of bs ps) i []) → Names bs i k (get_or (get_or (lists_of bs ps) i []) k 0)
none_names bs ps h i k l =
    let short : k < (at ps i).count = rw length-list at l in
    elim (cases_lt i (length ps)) [
      | inl w ↦ rw (list_at bs ps i) (pile-names bs i (at ps i).top (at ps i).count k (h.each i w) short)
      | inr past ↦ absurd (let e : (at ps i).count ≡ 0 = ap (λ (r : Pile). r.count) (get_or_past ps i no_pile past) in omega arith)
    ]

-- no block stands twice
pub none_twice : (bs : List Block) (ps : List Pile) → ArePiles bs ps → NoneTwice (map_of bs ps)
none_twice bs ps h i j k l a b e =
    let x = none_names bs ps h i k a in
    let y = none_names bs ps h j l b in
    let same = ap (block bs) e in
    (sym x.1 ∙ ap (λ (r : Block). r.owner) same ∙ y.1, sym x.2 ∙ ap (λ (r : Block). r.rank) same ∙ y.2)

pub walk_step : (bs : List Block) (o at n k : ℕ) → IsPile bs o at n → k + 1 < n → IsPile bs o (block bs at).below (n - 1) × (get_or (pile bs at n) k 0 ≡ get_or (pile bs (block bs at).below (n - 1)) k 0)
walk_step bs o at n k h l =
    let t = top_is bs o at n h (omega arith) in
    let e = length-pile bs (block bs at).below (n - 1) in
    (t.3, ap (λ (xs : List ℕ). get_or xs k 0) t.4 ∙ grind (arith, places))

pub walk_end : (bs : List Block) (o at n k : ℕ) → IsPile bs o at n → n ≡ k + 1 → get_or (pile bs at n) k 0 ≡ at
walk_end bs o at n k h l =
    let t = top_is bs o at n h (omega arith) in
    let e = length-pile bs (block bs at).below (n - 1) in
    ap (λ (xs : List ℕ). get_or xs k 0) t.4 ∙ grind (arith, places)

-- the first pile, from one of its blocks down
fresh_from : (bs : List Block) (owner at n : ℕ) → at + n ≡ length bs → ((j : ℕ) → j < length bs → block bs j ≡ record { below = j + 1; owner = owner; rank = length bs - 1 - j }) → IsPile bs owner at n
fresh_from bs owner at zero l h = tt
fresh_from bs owner at (suc n) l h =
    let w : at < length bs = omega arith in
    let b : block bs at ≡ record { below = at + 1; owner = owner; rank = length bs - 1 - at } = h at w in
    rw b (w, refl, omega arith, fresh_from bs owner (at + 1) n (omega arith) h)

pub fresh_pile : (bs : List Block) (owner : ℕ) → ((j : ℕ) → j < length bs → block bs j ≡ record { below = j + 1; owner = owner; rank = length bs - 1 - j }) → IsPile bs owner 0 (length bs)
fresh_pile bs owner h = fresh_from bs owner 0 (length bs) (omega arith) h

no_counts : (n : ℕ) → sum_by (λ (r : Pile). r.count) (replicate n no_pile) ≡ 0
no_counts zero = refl
no_counts (suc n) = sum_by-cons (λ (r : Pile). r.count) no_pile (replicate n no_pile) ∙ (let e = no_counts n in omega (arith, e))

pub fresh : (bs : List Block) (ps : List Pile) (most : ℕ) → ((j : ℕ) → j < length bs → block bs j ≡ record { below = j + 1; owner = most; rank = length bs - 1 - j }) → ps ≡ set (replicate (most + 1) no_pile) most (record { top = 0; count = length bs }) → ArePiles bs ps
fresh bs ps most h e = rw e (record {
  each = λ i l. elim (cases_eq i most) [
    | inl same ↦ rw (same, get_or-set_same (replicate (most + 1) no_pile) most (record { top = 0; count = length bs }) no_pile (grind (arith, common_steps))) (fresh_pile bs most h)
    | inr n ↦ rw (get_or-set_other (replicate (most + 1) no_pile) most i (record { top = 0; count = length bs }) no_pile n, get_or-replicate (most + 1) i no_pile no_pile (simp (length-set, length-replicate) at l)) tt
  ];
  total =
      let n : most < length (replicate (most + 1) no_pile) = rw (length-replicate (most + 1) no_pile) (omega arith) in
      let one = sum_by-set (λ (r : Pile). r.count) (replicate (most + 1) no_pile) most (record { top = 0; count = length bs }) no_pile n in
      let old = ap (λ (r : Pile). r.count) (get_or-replicate (most + 1) most no_pile no_pile (omega arith)) in
      let none = no_counts (most + 1) in
      let all : sum_by (λ (r : Pile). r.count) (set (replicate (most + 1) no_pile) most (record { top = 0; count = length bs })) ≡ length bs = omega (arith, one, old, none) in all;
})

past : (xs : List ℕ) (k : ℕ) → length xs ≤ k → slice_get xs k ≡ None
past xs k l = elim (slice_get_cases xs k).1 [ inl w ↦ absurd (omega (arith, w.1)) | inr w ↦ w.1 ]

pub nth_past : (bs : List Block) (ps : List Pile) (i k : ℕ) (p : Pile) → p ≡ at ps i → p.count ≤ k → slice_get (get_or (lists_of bs ps) i []) k ≡ None
nth_past bs ps i k p e l =
    past (get_or (lists_of bs ps) i []) k (rw (length-list bs ps i, ← e) l)

pub nth_at : (bs : List Block) (ps : List Pile) (i k x : ℕ) (p : Pile) → p ≡ at ps i → k < p.count → x ≡ get_or (pile bs p.top p.count) k 0 → slice_get (get_or (lists_of bs ps) i []) k ≡ Some x
nth_at bs ps i k x p e l r =
    let n : k < length (get_or (lists_of bs ps) i []) = rw (length-list bs ps i, ← e) l in
    slice_get-get_or (get_or (lists_of bs ps) i []) k 0 n ∙ ap Some (ap (λ (xs : List ℕ). get_or xs k 0) (list_at bs ps i) ∙ ap (λ (q : Pile). get_or (pile bs q.top q.count) k 0) (sym e) ∙ sym r)

pub all_is : (bs : List Block) (ps : List Pile) → ArePiles bs ps → sum_by (λ (xs : List ℕ). length xs) (lists_of bs ps) ≡ length bs
all_is bs ps h = sum-lists bs ps ∙ h.total

pub free_le : (bs : List Block) (ps : List Pile) (i : ℕ) → ArePiles bs ps → i < length ps → length (get_or (lists_of bs ps) i []) ≤ length bs
free_le bs ps i h l = rw (length-list bs ps i) (let b = get_or-le-sum_by (λ (r : Pile). r.count) ps i no_pile l in omega (arith, b, h.total))

pub fresh_empty : (bs : List Block) (ps : List Pile) (most n k : ℕ) → ps ≡ set (replicate (most + 1) no_pile) most (record { top = 0; count = n }) → k < most → get_or (lists_of bs ps) k [] ≡ []
fresh_empty bs ps most n k e l = list_at bs ps k ∙ ap (list_of bs) (ap (λ qs. at qs k) e ∙ get_or-set_other (replicate (most + 1) no_pile) most k (record { top = 0; count = n }) no_pile (omega arith) ∙ get_or-replicate (most + 1) k no_pile no_pile (omega arith))

pub fresh_length : (ps : List Pile) (most n : ℕ) → ps ≡ set (replicate (most + 1) no_pile) most (record { top = 0; count = n }) → length ps - 1 ≡ most
fresh_length ps most n e = rw (e, length-set (replicate (most + 1) no_pile) most (record { top = 0; count = n }), length-replicate (most + 1) no_pile) (omega arith)

pub fresh_free : (bs : List Block) (ps : List Pile) (most n : ℕ) → ps ≡ set (replicate (most + 1) no_pile) most (record { top = 0; count = n }) → length (get_or (lists_of bs ps) (length ps - 1) []) ≡ n
fresh_free bs ps most n e = rw (fresh_length ps most n e)
    (length-list bs ps most ∙ ap (λ (r : Pile). r.count)
    (ap (λ qs. at qs most) e ∙ get_or-set_same (replicate (most + 1) no_pile) most (record { top = 0; count = n }) no_pile
    (rw (length-replicate (most + 1) no_pile) (omega arith))))

pub fresh_map : (bs : List Block) (ps : List Pile) (most n : ℕ) → length bs ≡ n
    → ((j : ℕ) → j < n → block bs j ≡ record { below = j + 1; owner = most; rank = n - 1 - j }) → ps
    ≡ set (replicate (most + 1) no_pile) most (record { top = 0; count = n }) → n ≤ 65536 → most < 2 ^ 32 - 1 → IsMap bs ps
fresh_map bs ps most n size each e small few =
    let l : length ps ≡ most + 1 = rw (e, length-set (replicate (most + 1) no_pile) most (record { top = 0; count = n }), length-replicate (most + 1) no_pile) refl in
    record {
      piles = fresh bs ps most (rw (← size) at each) (rw (← size) at e);
      small = rw size small;
      some = omega (arith, l);
      few = omega (arith, l, few);
    }

pub names_below : (bs : List Block) (ps : List Pile) → ArePiles bs ps → (i k : ℕ) → k < length (get_or (lists_of bs ps) i []) → get_or (get_or (lists_of bs ps) i []) k 0 < sum_by (λ (xs : List ℕ). length xs) (lists_of bs ps)
names_below bs ps h i k l = rw (all_is bs ps h) (none_names bs ps h i k l).0

-- the pile of an owner names it
pub pile_at : (bs : List Block) (ps : List Pile) (i : ℕ) (p : Pile) → p ≡ get_or ps i no_pile → i < length ps → ArePiles bs ps → IsPile bs i p.top p.count
pile_at bs ps i p e l h = subst (λ (q : Pile). IsPile bs i q.top q.count) (sym e) (h.each i l)
