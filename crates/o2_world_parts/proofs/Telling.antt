-- The lines of holds, as pairs in order.
use Rattle.std.proofs.Common.{◌≡◌, ℕ, zero, suc, ◌+◌, ◌<◌, Bool, true, false, List, [], ◌∷◌, ◌++◌, length, map, take, drop, replicate, get_or, refl, ap, sym, ◌∙◌, arith, add-one, append_assoc}
use Rattle.std.specs.Prelude.{nat_le, if◌then◌else◌, flat_map}
use Rattle.std.specs.List.{insert}
use Rattle.std.proofs.lemmas.List.{map-append, take_more, drop_more, take_all, drop_all, append-nil}
use Rattle.std.proofs.lemmas.Grind.{flat_map-append}
use Rattle.o2_base.specs.Selectors.{selector_of}
use Rattle.o2_world.specs.World.{Line}
use Rattle.o2_world.specs.Changes.{Change, Makes, Resizes, Locks, Marks, Holds, Drops, Finishes, Reserves, Frees, Names, among, in_order, hold_lines_of, drop_lines_of, moved_lines}
use Rattle.o2_world.specs.Text.{line_text, lines_text}
use Rattle.o2_world_parts.specs.declared.changing.Edit.{Edit}
use Rattle.o2_world_parts.specs.Edits.{change_of, changes_of}
use Rattle.o2_world_parts.specs.Effects.{moves, times, pairs_of, key_by, among_pairs, ordered, line_by}

at_drop : {X : Type 0} (xs : List X) (k : ℕ) (x : X) → k < length xs → x ≡ get_or xs k x → drop k xs ≡ x ∷ drop (k + 1) xs
at_drop xs k x h at = drop_more xs k x h ∙ ap (λ y. y ∷ drop (k + 1) xs) (sym at)

at_take : {X : Type 0} (xs : List X) (k : ℕ) (x : X) → k < length xs → x ≡ get_or xs k x → take (k + 1) xs ≡ take k xs ++ x ∷ []
at_take xs k x h at = take_more xs k x h ∙ ap (λ y. take k xs ++ y ∷ []) (sym at)

-- where a pair comes in

among_by : ℕ × ℕ → ℕ × ℕ → List (ℕ × ℕ) → Bool → List (ℕ × ℕ)
among_by p x xs b = if b then p ∷ x ∷ xs else x ∷ among_pairs p xs

pub among_more : (p : ℕ × ℕ) (xs : List (ℕ × ℕ)) (k : ℕ) (x : ℕ × ℕ) → k < length xs → x ≡ get_or xs k x → nat_le (key_by p) (key_by x) ≡ false
    → take k xs ++ among_pairs p (drop k xs) ≡ take (k + 1) xs ++ among_pairs p (drop (k + 1) xs)
unfolding among_by
among_more p xs k x h at e =
    ap (λ zs. take k xs ++ among_pairs p zs) (at_drop xs k x h at)
    ∙ (ap (λ b. take k xs ++ among_by p x (drop (k + 1) xs) b) e
    ∙ (sym (append_assoc (take k xs) (x ∷ []) (among_pairs p (drop (k + 1) xs)))
    ∙ ap (λ zs. zs ++ among_pairs p (drop (k + 1) xs)) (sym (at_take xs k x h at))))

pub among_here : (p : ℕ × ℕ) (xs : List (ℕ × ℕ)) (k : ℕ) (x : ℕ × ℕ) → k < length xs → x ≡ get_or xs k x → nat_le (key_by p) (key_by x) ≡ true
    → insert xs k p ≡ take k xs ++ among_pairs p (drop k xs)
unfolding among_by
among_here p xs k x h at e =
    ap (λ zs. take k xs ++ p ∷ zs) (at_drop xs k x h at)
    ∙ (ap (λ b. take k xs ++ among_by p x (drop (k + 1) xs) b) (sym e)
    ∙ ap (λ zs. take k xs ++ among_pairs p zs) (sym (at_drop xs k x h at)))

pub among_end : (p : ℕ × ℕ) (xs : List (ℕ × ℕ)) (k : ℕ) → k ≡ length xs → xs ++ p ∷ [] ≡ take k xs ++ among_pairs p (drop k xs)
among_end p xs k h = rw (take_all k xs (omega (arith, h)), drop_all k xs (omega (arith, h))) refl

pub ruleset places = (among_more, among_here, among_end)

pub replicate_more : (n : ℕ) (p : ℕ × ℕ) (rest : List (ℕ × ℕ)) → ordered (replicate (n + 1) p ++ rest) ≡ among_pairs p (ordered (replicate n p ++ rest))
replicate_more n p rest = rw (add-one n) refl

pub ruleset replicated = replicate_more

pub gather_more : (came : Bool) (es : List Edit) (k : ℕ) (e : Edit) → k < length es → e ≡ get_or es k e → pairs_of came (changes_of (drop k es)) ≡ times (moves came (change_of e)) ++ pairs_of came (changes_of (drop (k + 1) es))
gather_more came es k e h at = ap (λ l. pairs_of came (changes_of l)) (at_drop es k e h at)

pub gather_none : (came : Bool) (es : List Edit) (k : ℕ) → k ≡ length es → pairs_of came (changes_of (drop k es)) ≡ []
gather_none came es k h = ap (λ l. pairs_of came (changes_of l)) (drop_all k es (omega (arith, h)))

pub ruleset gathered = (gather_more, gather_none)

pub lined_more : (came : Bool) (cause : List ℕ) (ps : List (ℕ × ℕ)) (k : ℕ) (p : ℕ × ℕ) → k < length ps → p ≡ get_or ps k p
    → lines_text (map (line_by came cause) (take (k + 1) ps)) ≡ lines_text (map (line_by came cause) (take k ps)) ++ line_text (line_by came cause p)
lined_more came cause ps k p h at =
    ap (λ l. lines_text (map (line_by came cause) l)) (at_take ps k p h at)
    ∙ (ap lines_text (map-append (line_by came cause) (take k ps) (p ∷ []))
    ∙ (flat_map-append line_text (map (line_by came cause) (take k ps)) (line_by came cause p ∷ [])
    ∙ ap (λ z. lines_text (map (line_by came cause) (take k ps)) ++ z) (append-nil (line_text (line_by came cause p)))))

pub ruleset lined = lined_more

pub one_line_is : (l : Line) → lines_text (l ∷ []) ≡ line_text l
one_line_is l = append-nil (line_text l)

pub ruleset one_line = one_line_is

-- the lines of changes

pub map-times : (f : ℕ × ℕ → Line) (n : ℕ) (p : ℕ × ℕ) → replicate n (f p) ≡ map f (replicate n p)
map-times f zero p = refl
map-times f (suc n) p = ap (λ ls. f p ∷ ls) (map-times f n p)

holds_is : (cause : List ℕ) (c : Change) → hold_lines_of cause c ≡ map (line_by true cause) (times (moves true c))
holds_is cause (Makes s) = refl
holds_is cause (Resizes n size) = refl
holds_is cause (Locks n count) = refl
holds_is cause (Marks n discarded) = refl
holds_is cause (Holds p i h) = map-times (line_by true cause) h.holds (p, selector_of i)
holds_is cause (Drops p i count) = refl
holds_is cause (Finishes p state) = refl
holds_is cause (Reserves r) = refl
holds_is cause (Frees region first) = refl
holds_is cause (Names text name) = refl

drops_is : (cause : List ℕ) (c : Change) → drop_lines_of cause c ≡ map (line_by false cause) (times (moves false c))
drops_is cause (Makes s) = refl
drops_is cause (Resizes n size) = refl
drops_is cause (Locks n count) = refl
drops_is cause (Marks n discarded) = refl
drops_is cause (Holds p i h) = refl
drops_is cause (Drops p i count) = map-times (line_by false cause) count (p, selector_of i)
drops_is cause (Finishes p state) = refl
drops_is cause (Reserves r) = refl
drops_is cause (Frees region first) = refl
drops_is cause (Names text name) = refl

all_by : (came : Bool) (cause : List ℕ) (f : Change → List Line) (is : (c : Change) → f c ≡ map (line_by came cause) (times (moves came c))) (cs : List Change) → flat_map f cs ≡ map (line_by came cause) (pairs_of came cs)
all_by came cause f is [] = refl
all_by came cause f is (c ∷ cs) =
    ap (λ ls. ls ++ flat_map f cs) (is c)
    ∙ (ap (λ ls. map (line_by came cause) (times (moves came c)) ++ ls) (all_by came cause f is cs)
    ∙ sym (map-append (line_by came cause) (times (moves came c)) (pairs_of came cs)))

if_map : (b : Bool) (f : ℕ × ℕ → Line) (ys zs : List (ℕ × ℕ)) (us vs : List Line) → us ≡ map f ys → vs ≡ map f zs → (if b then us else vs) ≡ map f (if b then ys else zs)
if_map true f ys zs us vs a b = a
if_map false f ys zs us vs a b = b

among_map : (came : Bool) (cause : List ℕ) (p : ℕ × ℕ) (xs : List (ℕ × ℕ)) → among (line_by came cause p) (map (line_by came cause) xs) ≡ map (line_by came cause) (among_pairs p xs)
among_map came cause p [] = refl
among_map true cause p (x ∷ xs) = if_map (nat_le (key_by p) (key_by x)) (line_by true cause) (p ∷ x ∷ xs) (x ∷ among_pairs p xs) _ _ refl (ap (λ ls. line_by true cause x ∷ ls) (among_map true cause p xs))
among_map false cause p (x ∷ xs) = if_map (nat_le (key_by p) (key_by x)) (line_by false cause) (p ∷ x ∷ xs) (x ∷ among_pairs p xs) _ _ refl (ap (λ ls. line_by false cause x ∷ ls) (among_map false cause p xs))

order_map : (came : Bool) (cause : List ℕ) (ps : List (ℕ × ℕ)) → in_order (map (line_by came cause) ps) ≡ map (line_by came cause) (ordered ps)
order_map came cause [] = refl
order_map came cause (p ∷ ps) = ap (among (line_by came cause p)) (order_map came cause ps) ∙ among_map came cause p (ordered ps)

pub told_is : (cause : List ℕ) (cs : List Change) → lines_text (moved_lines cause cs) ≡ lines_text (map (line_by true cause) (ordered (pairs_of true cs))) ++ lines_text (map (line_by false cause) (ordered (pairs_of false cs)))
unfolding moved_lines
told_is cause cs =
    let a = ap in_order (all_by true cause (hold_lines_of cause) (holds_is cause) cs) ∙ order_map true cause (pairs_of true cs) in
    let b = ap in_order (all_by false cause (drop_lines_of cause) (drops_is cause) cs) ∙ order_map false cause (pairs_of false cs) in
    flat_map-append line_text (in_order (flat_map (hold_lines_of cause) cs)) (in_order (flat_map (drop_lines_of cause) cs))
    ∙ (ap (λ ls. lines_text ls ++ lines_text (in_order (flat_map (drop_lines_of cause) cs))) a
    ∙ ap (λ ls. lines_text (map (line_by true cause) (ordered (pairs_of true cs))) ++ lines_text ls) b)

pub ruleset told = told_is
