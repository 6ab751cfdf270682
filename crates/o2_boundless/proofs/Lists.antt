-- Lists of changes and of indexes, one item more.
use Rattle.std.proofs.Common.{◌≡◌, ℕ, zero, suc, ◌+◌, ◌<◌, Bool, true, false, List, [], ◌∷◌, ◌++◌, length, map, filter, take, get_or, Option, refl, ap, sym, ◌∙◌, arith, add-one, cond}
use Rattle.std.specs.Prelude.{if◌then◌else◌}
use Rattle.std.proofs.lemmas.List.{map-append, take_more, append-nil}
use Rattle.std.proofs.lemmas.List.Elements.{filter-append}
use Rattle.o2_world.specs.Changes.{Change, Drops}
use Rattle.o2_world.specs.Known.{Known}
use Rattle.o2_world.specs.Outcomes.{gone_by, gone_indexes, is_gone}
use Rattle.o2_world.specs.Rulings.{indexes}
use Rattle.o2_world_parts.specs.declared.changing.Edit.{Edit}
use Rattle.o2_world_parts.specs.Edits.{change_of, changes_of}

pub changes_of-push : (es : List Edit) (e : Edit) → changes_of (es ++ e ∷ []) ≡ changes_of es ++ change_of e ∷ []
changes_of-push es e = map-append change_of es (e ∷ [])

pub drops_more : (n : ℕ) (is : List ℕ) (k i : ℕ) → k < length is → i ≡ get_or is k i → map (λ (j : ℕ). Drops n j 1) (take (k + 1) is) ≡ map (λ (j : ℕ). Drops n j 1) (take k is) ++ Drops n i 1 ∷ []
drops_more n is k i h e = ap (map (λ (j : ℕ). Drops n j 1)) (take_more is k i h) ∙ (map-append (λ (j : ℕ). Drops n j 1) (take k is) (get_or is k i ∷ []) ∙ ap (λ j. map (λ (j : ℕ). Drops n j 1) (take k is) ++ Drops n j 1 ∷ []) (sym e))

pub ruleset drops = (changes_of-push, drops_more)

-- indexes of which a process holds nothing any more
if_more : (b : Bool) (i : ℕ) (is js : List ℕ) → (if b then i ∷ (is ++ js) else is ++ js) ≡ (if b then i ∷ is else is) ++ js
if_more true i is js = refl
if_more false i is js = refl

gone_by-append : (k : Known) (c : Change) (is js : List ℕ) → gone_by k c (is ++ js) ≡ gone_by k c is ++ js
gone_by-append k c is js = elim c as (λ c. gone_by k c (is ++ js) ≡ gone_by k c is ++ js) [ Drops p i count ↦ if_more (is_gone count (k.held p i)) i is js | _ ↦ refl ]

gone_indexes-push : (k : Known) (cs : List Change) (c : Change) → gone_indexes k (cs ++ c ∷ []) ≡ gone_indexes k cs ++ gone_by k c []
gone_indexes-push k [] c = refl
gone_indexes-push k (d ∷ cs) c = ap (gone_by k d) (gone_indexes-push k cs c) ∙ gone_by-append k d (gone_indexes k cs) (gone_by k c [])

pub gone_more : (k : Known) (es : List Edit) (j : ℕ) (e : Edit) → j < length es → e ≡ get_or es j e → gone_indexes k (changes_of (take (j + 1) es)) ≡ gone_indexes k (changes_of (take j es)) ++ gone_by k (change_of e) []
gone_more k es j e h at =
    ap (λ l. gone_indexes k (changes_of l)) (take_more es j e h)
    ∙ (ap (gone_indexes k) (changes_of-push (take j es) (get_or es j e))
    ∙ (gone_indexes-push k (changes_of (take j es)) (change_of (get_or es j e))
    ∙ ap (λ x. gone_indexes k (changes_of (take j es)) ++ gone_by k (change_of x) []) (sym at)))

pub ruleset gone = (gone_more, append-nil)

-- members
pub indexes-push : (first n : ℕ) → indexes first (n + 1) ≡ indexes first n ++ (first + n) ∷ []
indexes-push first zero = let e : first + 0 ≡ first = omega arith in rw e refl
indexes-push first (suc n) =
    let a : suc n + 1 ≡ suc (n + 1) = omega arith in
    let b : first + suc n ≡ first + 1 + n = omega arith in
    rw (a, b) (ap (λ is. first ∷ is) (indexes-push (first + 1) n))

pub ruleset rising = (indexes-push)

pub filter-push : {X : Type 0} (p : X → Bool) (xs : List X) (x : X) → filter p (xs ++ x ∷ []) ≡ filter p xs ++ (if p x then x ∷ [] else [])
filter-push p xs x = filter-append p xs (x ∷ [])

pub members_more : (p : ℕ → Bool) (first n : ℕ) → filter p (indexes first (n + 1)) ≡ filter p (indexes first n) ++ (if p (first + n) then (first + n) ∷ [] else [])
members_more p first n = ap (filter p) (indexes-push first n) ∙ filter-push p (indexes first n) (first + n)

pub ruleset members_of = (members_more, append-nil)
