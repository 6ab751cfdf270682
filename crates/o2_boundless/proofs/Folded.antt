-- The changes of a list, one behind another.
use Rattle.std.proofs.Common.{◌≡◌, ℕ, ◌+◌, ◌<◌, List, [], ◌∷◌, ◌++◌, length, take, get_or, refl, ap, sym, ◌∙◌}
use Rattle.std.specs.Prelude.{◌||◌}
use Rattle.std.specs.List.{list_any}
use Rattle.std.proofs.lemmas.List.{map-append, take_more}
use Rattle.o2_world.specs.World.{World}
use Rattle.o2_world.specs.Changes.{Change, takes, with_change, with_changes}
use Rattle.o2_world_parts.specs.declared.changing.Edit.{Edit}
use Rattle.o2_world_parts.specs.Edits.{change_of, changes_of}

pub with_changes-none : (w : World) → with_changes w [] ≡ w
unfolding with_changes
with_changes-none w = refl

pub with_changes-push : (w : World) (cs : List Change) (c : Change) → with_changes w (cs ++ c ∷ []) ≡ with_change (with_changes w cs) c
unfolding with_changes
with_changes-push w [] c = refl
with_changes-push w (d ∷ cs) c = with_changes-push (with_change w d) cs c

pub changes_more : (w : World) (es : List Edit) (i : ℕ) (e : Edit) → i < length es → e ≡ get_or es i e → with_changes w (changes_of (take (i + 1) es)) ≡ with_change (with_changes w (changes_of (take i es))) (change_of e)
changes_more w es i e h at =
    ap (λ l. with_changes w (changes_of l)) (take_more es i e h)
    ∙ (ap (λ cs. with_changes w cs) (map-append change_of (take i es) (get_or es i e ∷ []))
    ∙ (with_changes-push w (changes_of (take i es)) (change_of (get_or es i e))
    ∙ ap (λ x. with_change (with_changes w (changes_of (take i es))) (change_of x)) (sym at)))

pub any_takes-map : (es : List Edit) → list_any takes (changes_of es) ≡ list_any (λ (e : Edit). takes (change_of e)) es
any_takes-map [] = refl
any_takes-map (e ∷ es) = ap (λ b. takes (change_of e) || b) (any_takes-map es)

pub ruleset folded = (with_changes-none, changes_more, any_takes-map)
