-- The words of a call by its slots, one slot or one word more.
use Rattle.std.proofs.Common.{◌≡◌, ℕ, zero, suc, ◌+◌, ◌-◌, ◌<◌, ◌&&◌, Bool, true, false, List, [], ◌∷◌, ◌++◌, length, map, take, drop, get_or, refl, ap, sym, ◌∙◌, arith, append-nil, append_assoc}
use Rattle.std.specs.Prelude.{flat_map, slice_index}
use Rattle.std.specs.List.{list_all}
use Rattle.std.proofs.lemmas.List.{drop_all, drop_more, map-append, take_more}
use Rattle.std.proofs.lemmas.Grind.{flat_map-append}
use Rattle.o2_isa.specs.View.{View}
use Rattle.o2_world.specs.declared.types.Argument.{Argument}
use Rattle.o2_world.specs.declared.types.Slot.{Slot}
use Rattle.o2_world.specs.Slots.{Pointer, are_good, parts_at, parts_in, pointers_at, pointers_in, shown_at, shown_in, targets_at, targets_in, values_at, values_in, words_in, words_of}
use Rattle.o2_world_parts.specs.Layouts.{from_top}
use Rattle.o2_world_parts.specs.Layouts.{good_by, placed, shown_by, targets_by, where_to}

-- slots with their places

slots_more : (ss : List Slot) (k : ℕ) (s : Slot) → k < length ss → s ≡ get_or ss k s → drop k ss ≡ s ∷ drop (k + 1) ss
slots_more ss k s h at = drop_more ss k s h ∙ ap (λ t. t ∷ drop (k + 1) ss) (sym at)

pub placed_more : (ss : List Slot) (k : ℕ) (s : Slot) → k < length ss → s ≡ get_or ss k s → placed (drop k ss) ≡ (s, words_in (drop (k + 1) ss)) ∷ placed (drop (k + 1) ss)
placed_more ss k s h at = ap placed (slots_more ss k s h at)

pub words_more : (ss : List Slot) (k : ℕ) (s : Slot) → k < length ss → s ≡ get_or ss k s → words_in (drop k ss) ≡ words_of s + words_in (drop (k + 1) ss)
words_more ss k s h at = ap words_in (slots_more ss k s h at)

pub placed_none : (ss : List Slot) (k : ℕ) → k ≡ length ss → placed (drop k ss) ≡ []
placed_none ss k e = ap placed (drop_all k ss (omega (arith, e)))

pub words_none : (ss : List Slot) (k : ℕ) → k ≡ length ss → words_in (drop k ss) ≡ 0
words_none ss k e = ap words_in (drop_all k ss (omega (arith, e)))

pub ruleset placing = (placed_more, words_more, placed_none, words_none)

-- arguments as words from the top

pub from_top_more : (k : ℕ) (args : List ℕ) → 0 < k → from_top k args ≡ slice_index args (k - 1) ∷ from_top (k - 1) args
from_top_more zero args h = absurd (omega (arith, h))
from_top_more (suc k) args h = let e : suc k - 1 ≡ k = omega arith in rw e refl

pub ruleset turning = (from_top_more, append_assoc, append-nil)

-- what is shown, and where pointers lead

pub shown_more : (a : ℕ → ℕ) (ps : List (Slot × ℕ)) (k : ℕ) (p : Slot × ℕ) → k < length ps → p ≡ get_or ps k p
    → map (shown_by a) (take (k + 1) ps) ≡ map (shown_by a) (take k ps) ++ shown_by a p ∷ []
shown_more a ps k p h at =
    ap (map (shown_by a)) (take_more ps k p h)
    ∙ (map-append (shown_by a) (take k ps) (get_or ps k p ∷ [])
    ∙ ap (λ q. map (shown_by a) (take k ps) ++ shown_by a q ∷ []) (sym at))

pub ruleset showing = shown_more

pub targets_more : (a : ℕ → ℕ) (ps : List (Slot × ℕ)) (k : ℕ) (p : Slot × ℕ) → k < length ps → p ≡ get_or ps k p
    → flat_map (targets_by a) (take (k + 1) ps) ≡ flat_map (targets_by a) (take k ps) ++ targets_by a p
targets_more a ps k p h at =
    ap (flat_map (targets_by a)) (take_more ps k p h)
    ∙ (flat_map-append (targets_by a) (take k ps) (get_or ps k p ∷ [])
    ∙ (ap (λ ts. flat_map (targets_by a) (take k ps) ++ ts) (append-nil (targets_by a (get_or ps k p)))
    ∙ ap (λ q. flat_map (targets_by a) (take k ps) ++ targets_by a q) (sym at)))

pub ruleset leading = (targets_more, append-nil)

pub good_more : (v : View) (a : ℕ → ℕ) (ps : List (Slot × ℕ)) (k : ℕ) (p : Slot × ℕ) → k < length ps → p ≡ get_or ps k p
    → list_all (good_by v a) (drop k ps) ≡ (good_by v a p && list_all (good_by v a) (drop (k + 1) ps))
good_more v a ps k p h at = ap (list_all (good_by v a)) (drop_more ps k p h ∙ ap (λ q. q ∷ drop (k + 1) ps) (sym at))

pub good_none : (v : View) (a : ℕ → ℕ) (ps : List (Slot × ℕ)) (k : ℕ) → k ≡ length ps → list_all (good_by v a) (drop k ps) ≡ true
good_none v a ps k e = ap (list_all (good_by v a)) (drop_all k ps (omega (arith, e)))

pub ruleset testing = (good_more, good_none)

-- a value where slots are for it

values-append : (ss ts : List Slot) (n : ℕ) → values_in (ss ++ ts) n ≡ values_in ss n ++ values_in ts n
values-append [] ts n = refl
values-append (s ∷ ss) ts n = ap (λ vs. values_at s n ++ vs) (values-append ss ts n) ∙ sym (append_assoc (values_at s n) (values_in ss n) (values_in ts n))

pub values_more : (ss : List Slot) (k : ℕ) (d : Slot) (n : ℕ) → k < length ss → values_in (take (k + 1) ss) n ≡ values_in (take k ss) n ++ values_at (get_or ss k d) n
values_more ss k d n h =
    ap (λ ts. values_in ts n) (take_more ss k d h)
    ∙ (values-append (take k ss) (get_or ss k d ∷ []) n
    ∙ ap (λ vs. values_in (take k ss) n ++ vs) (append-nil (values_at (get_or ss k d) n)))

parts-append : (ss ts : List Slot) (n : ℕ) → parts_in (ss ++ ts) n ≡ parts_in ss n ++ parts_in ts n
parts-append [] ts n = refl
parts-append (s ∷ ss) ts n = ap (λ vs. parts_at s n ++ vs) (parts-append ss ts n) ∙ sym (append_assoc (parts_at s n) (parts_in ss n) (parts_in ts n))

pub parts_more : (ss : List Slot) (k : ℕ) (d : Slot) (n : ℕ) → k < length ss → parts_in (take (k + 1) ss) n ≡ parts_in (take k ss) n ++ parts_at (get_or ss k d) n
parts_more ss k d n h =
    ap (λ ts. parts_in ts n) (take_more ss k d h)
    ∙ (parts-append (take k ss) (get_or ss k d ∷ []) n
    ∙ ap (λ vs. parts_in (take k ss) n ++ vs) (append-nil (parts_at (get_or ss k d) n)))

-- both, as a loop goes on
pub valued : (ss : List Slot) (k : ℕ) (d : Slot) (n : ℕ) (vs ws : List Argument) (ps qs : List (List ℕ)) → k < length ss
    → (vs ≡ values_in (take k ss) n) × (ps ≡ parts_in (take k ss) n) → ws ≡ vs ++ values_at (get_or ss k d) n → qs ≡ ps ++ parts_at (get_or ss k d) n
    → (ws ≡ values_in (take (k + 1) ss) n) × (qs ≡ parts_in (take (k + 1) ss) n)
valued ss k d n vs ws ps qs h i v p = (
  v ∙ (ap (λ us. us ++ values_at (get_or ss k d) n) i.0 ∙ sym (values_more ss k d n h)),
  p ∙ (ap (λ us. us ++ parts_at (get_or ss k d) n) i.1 ∙ sym (parts_more ss k d n h)),
)

-- the same behind a part that comes first
pub valued_behind : (ss : List Slot) (k : ℕ) (d : Slot) (n : ℕ) (first : List ℕ) (vs ws : List Argument) (ps qs : List (List ℕ)) → k < length ss
    → (vs ≡ values_in (take k ss) n) × (ps ≡ first ∷ parts_in (take k ss) n) → ws ≡ vs ++ values_at (get_or ss k d) n → qs ≡ ps ++ parts_at (get_or ss k d) n
    → (ws ≡ values_in (take (k + 1) ss) n) × (qs ≡ first ∷ parts_in (take (k + 1) ss) n)
valued_behind ss k d n first vs ws ps qs h i v p = (
  v ∙ (ap (λ us. us ++ values_at (get_or ss k d) n) i.0 ∙ sym (values_more ss k d n h)),
  p ∙ (ap (λ us. us ++ parts_at (get_or ss k d) n) i.1 ∙ ap (λ us. first ∷ us) (sym (parts_more ss k d n h))),
)

-- what the definitions say of slots, said of slots with their places

pub shown_is : (a : ℕ → ℕ) (ss : List Slot) → map (shown_by a) (placed ss) ≡ shown_in ss a
shown_is a [] = refl
shown_is a (s ∷ ss) = ap (λ vs. shown_at s a (words_in ss) ∷ vs) (shown_is a ss)

pub targets_are : (a : ℕ → ℕ) (ss : List Slot) → flat_map (targets_by a) (placed ss) ≡ map where_to (targets_in ss a)
targets_are a [] = refl
targets_are a (s ∷ ss) =
    ap (λ ts. map where_to (targets_at s a (words_in ss)) ++ ts) (targets_are a ss)
    ∙ sym (map-append where_to (targets_at s a (words_in ss)) (targets_in ss a))

good-append : (v : View) (ps qs : List Pointer) → are_good v (ps ++ qs) ≡ (are_good v ps && are_good v qs)
good-append v [] qs = refl
good-append v (p ∷ ps) qs = grind (arith, good-append v ps qs)

pub good_is : (v : View) (a : ℕ → ℕ) (ss : List Slot) → list_all (good_by v a) (placed ss) ≡ are_good v (pointers_in ss v a)
good_is v a [] = refl
good_is v a (s ∷ ss) =
    ap (λ (g : Bool). are_good v (pointers_at s v a (words_in ss)) && g) (good_is v a ss)
    ∙ sym (good-append v (pointers_at s v a (words_in ss)) (pointers_in ss v a))
