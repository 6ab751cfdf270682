-- Lists of a run's changes, one item more.
use Rattle.std.proofs.Common.{◌≡◌, ℕ, zero, suc, ◌+◌, ◌<◌, ◌≤◌, ◌==◌, ◌⊎◌, inl, inr, List, [], ◌∷◌, ◌++◌, length, take, get_or, refl, ap, sym, ◌∙◌, arith, append-nil, append_assoc}
use Rattle.std.specs.Prelude.{flat_map, if◌then◌else◌}
use Rattle.std.proofs.lemmas.Grind.{flat_map-append}
use Rattle.std.proofs.lemmas.List.{take_more}
use Rattle.o2_world.specs.Changes.{Change, Holds, Makes}
use Rattle.o2_world.specs.HugeRulings.{all_bytes, all_dropped, all_hold, dropped_members, held_in_run, new_members, resized_members, resized_one, share_of, size_in}
use Rattle.o2_world.specs.Known.{Known}
use Rattle.o2_world.specs.Rulings.{indexes, made_segment}
use Rattle.o2_world.specs.SharedRulings.{marks_under}
use Rattle.o2_boundless.proofs.Lists.{changes_of-push, indexes-push}

-- holders of a member

holds-append : (name first count i : ℕ) (ps qs : List (ℕ × ℕ)) → all_hold name first count i (ps ++ qs) ≡ all_hold name first count i ps ++ all_hold name first count i qs
holds-append name first count i [] qs = refl
holds-append name first count i (p ∷ ps) qs = ap (λ (cs : List Change). Holds p.0 i (held_in_run name first count p.1) ∷ cs) (holds-append name first count i ps qs)

pub holds_more : (name first count i : ℕ) (ps : List (ℕ × ℕ)) (k : ℕ) (d : ℕ × ℕ) → k < length ps
    → all_hold name first count i (take (k + 1) ps) ≡ all_hold name first count i (take k ps) ++ Holds (get_or ps k d).0 i (held_in_run name first count (get_or ps k d).1) ∷ []
holds_more name first count i ps k d h = ap (all_hold name first count i) (take_more ps k d h) ∙ holds-append name first count i (take k ps) (get_or ps k d ∷ [])

pub ruleset holding = (holds_more, changes_of-push, append-nil, append_assoc)

-- new members

pub members-append : (name first count flags : ℕ) (ps : List (ℕ × ℕ)) (is js zs ws : List ℕ) → length is ≡ length zs
    → new_members name first count flags ps (is ++ js) (zs ++ ws) ≡ new_members name first count flags ps is zs ++ new_members (name + length is) first count flags ps js ws
members-append name first count flags ps [] js [] ws e = ap (λ (n : ℕ). new_members n first count flags ps js ws) (let none : name ≡ name + 0 = omega arith in none)
members-append name first count flags ps [] js (z ∷ zs) ws e = absurd (omega (arith, e))
members-append name first count flags ps (i ∷ is) js [] ws e = absurd (omega (arith, e))
members-append name first count flags ps (i ∷ is) js (z ∷ zs) ws e =
    ap (λ (cs : List Change). Makes (made_segment z flags) ∷ all_hold name first count i ps ++ cs)
    (members-append (name + 1) first count flags ps is js zs ws (omega (arith, e))
    ∙ ap (λ (n : ℕ). new_members (name + 1) first count flags ps is zs ++ new_members n first count flags ps js ws) (let next : name + 1 + length is ≡ name + suc (length is) = omega arith in next))
    ∙ ap (λ (cs : List Change). Makes (made_segment z flags) ∷ cs) (sym (append_assoc (all_hold name first count i ps) (new_members (name + 1) first count flags ps is zs) (new_members (name + suc (length is)) first count flags ps js ws)))

pub members_more : (name first count flags : ℕ) (ps : List (ℕ × ℕ)) (is zs : List ℕ) (k : ℕ) → k < length is → k < length zs
    → new_members name first count flags ps (take (k + 1) is) (take (k + 1) zs)
    ≡ new_members name first count flags ps (take k is) (take k zs) ++ new_members (name + k) first count flags ps (get_or is k 0 ∷ []) (get_or zs k 0 ∷ [])
members_more name first count flags ps is zs k a b =
    ap (λ (js : List ℕ). new_members name first count flags ps js (take (k + 1) zs)) (take_more is k 0 a)
    ∙ ap (new_members name first count flags ps (take k is ++ get_or is k 0 ∷ [])) (take_more zs k 0 b)
    ∙ members-append name first count flags ps (take k is) (get_or is k 0 ∷ []) (take k zs) (get_or zs k 0 ∷ []) (length_is is k a ∙ sym (length_is zs k b))
    ∙ ap (λ (n : ℕ). new_members name first count flags ps (take k is) (take k zs) ++ new_members (name + n) first count flags ps (get_or is k 0 ∷ []) (get_or zs k 0 ∷ [])) (length_is is k a)
  where
    length_is : (xs : List ℕ) (k : ℕ) → k < length xs → length (take k xs) ≡ k
    length_is [] k h = absurd (omega (arith, h))
    length_is (x ∷ xs) zero h = refl
    length_is (x ∷ xs) (suc k) h = ap suc (length_is xs k (omega (arith, h)))

-- as many as the shorter list has
pub members_min : (name first count flags : ℕ) (ps : List (ℕ × ℕ)) (is zs : List ℕ) (k : ℕ) → (length is ≤ k) ⊎ (length zs ≤ k) → new_members name first count flags ps (take k is) (take k zs) ≡ new_members name first count flags ps is zs
members_min name first count flags ps [] zs zero h = refl
members_min name first count flags ps [] zs (suc k) h = refl
members_min name first count flags ps (i ∷ is) [] zero h = refl
members_min name first count flags ps (i ∷ is) [] (suc k) h = refl
members_min name first count flags ps (i ∷ is) (z ∷ zs) zero (inl h) = absurd (omega (arith, h))
members_min name first count flags ps (i ∷ is) (z ∷ zs) zero (inr h) = absurd (omega (arith, h))
members_min name first count flags ps (i ∷ is) (z ∷ zs) (suc k) (inl h) =
    ap (λ (cs : List Change). Makes (made_segment z flags) ∷ all_hold name first count i ps ++ cs) (members_min (name + 1) first count flags ps is zs k (inl (omega (arith, h))))
members_min name first count flags ps (i ∷ is) (z ∷ zs) (suc k) (inr h) =
    ap (λ (cs : List Change). Makes (made_segment z flags) ∷ all_hold name first count i ps ++ cs) (members_min (name + 1) first count flags ps is zs k (inr (omega (arith, h))))

-- bytes, sizes and drops of members

pub bytes_more : (k : Known) (n : ℕ) (is : List ℕ) (j : ℕ) → j < length is → all_bytes k n (take (j + 1) is) ≡ all_bytes k n (take j is) + size_in (marks_under k (k.held n (get_or is j 0)))
bytes_more k n is j h = ap (all_bytes k n) (take_more is j 0 h) ∙ both (take j is) (get_or is j 0)
  where
    both : (js : List ℕ) (i : ℕ) → all_bytes k n (js ++ i ∷ []) ≡ all_bytes k n js + size_in (marks_under k (k.held n i))
    both [] i = omega arith
    both (x ∷ js) i = (let more = both js i in omega (arith, more))

sized-append : (k : Known) (n : ℕ) (is js zs ws : List ℕ) → length is ≡ length zs → resized_members k n (is ++ js) (zs ++ ws) ≡ resized_members k n is zs ++ resized_members k n js ws
sized-append k n [] js [] ws e = refl
sized-append k n [] js (z ∷ zs) ws e = absurd (omega (arith, e))
sized-append k n (i ∷ is) js [] ws e = absurd (omega (arith, e))
sized-append k n (i ∷ is) js (z ∷ zs) ws e =
    ap (λ (cs : List Change). resized_one z (k.held n i) (marks_under k (k.held n i)) ++ cs) (sized-append k n is js zs ws (omega (arith, e)))
    ∙ sym (append_assoc (resized_one z (k.held n i) (marks_under k (k.held n i))) (resized_members k n is zs) (resized_members k n js ws))

pub sized_more : (k : Known) (n : ℕ) (is zs : List ℕ) (j : ℕ) → j < length is → j < length zs
    → resized_members k n (take (j + 1) is) (take (j + 1) zs)
    ≡ resized_members k n (take j is) (take j zs) ++ resized_one (get_or zs j 0) (k.held n (get_or is j 0)) (marks_under k (k.held n (get_or is j 0)))
sized_more k n is zs j a b =
    ap (λ (js : List ℕ). resized_members k n js (take (j + 1) zs)) (take_more is j 0 a)
    ∙ ap (resized_members k n (take j is ++ get_or is j 0 ∷ [])) (take_more zs j 0 b)
    ∙ sized-append k n (take j is) (get_or is j 0 ∷ []) (take j zs) (get_or zs j 0 ∷ []) (length_is is j a ∙ sym (length_is zs j b))
    ∙ ap (λ (cs : List Change). resized_members k n (take j is) (take j zs) ++ cs) (append-nil (resized_one (get_or zs j 0) (k.held n (get_or is j 0)) (marks_under k (k.held n (get_or is j 0)))))
  where
    length_is : (xs : List ℕ) (k : ℕ) → k < length xs → length (take k xs) ≡ k
    length_is [] k h = absurd (omega (arith, h))
    length_is (x ∷ xs) zero h = refl
    length_is (x ∷ xs) (suc k) h = ap suc (length_is xs k (omega (arith, h)))

pub sized_min : (k : Known) (n : ℕ) (is zs : List ℕ) (j : ℕ) → (length is ≤ j) ⊎ (length zs ≤ j) → resized_members k n (take j is) (take j zs) ≡ resized_members k n is zs
sized_min k n [] zs zero h = refl
sized_min k n [] zs (suc j) h = refl
sized_min k n (i ∷ is) [] zero h = refl
sized_min k n (i ∷ is) [] (suc j) h = refl
sized_min k n (i ∷ is) (z ∷ zs) zero (inl h) = absurd (omega (arith, h))
sized_min k n (i ∷ is) (z ∷ zs) zero (inr h) = absurd (omega (arith, h))
sized_min k n (i ∷ is) (z ∷ zs) (suc j) (inl h) = ap (λ (cs : List Change). resized_one z (k.held n i) (marks_under k (k.held n i)) ++ cs) (sized_min k n is zs j (inl (omega (arith, h))))
sized_min k n (i ∷ is) (z ∷ zs) (suc j) (inr h) = ap (λ (cs : List Change). resized_one z (k.held n i) (marks_under k (k.held n i)) ++ cs) (sized_min k n is zs j (inr (omega (arith, h))))

dropped-append : (k : Known) (n : ℕ) (is js : List ℕ) → dropped_members k n (is ++ js) ≡ dropped_members k n is ++ dropped_members k n js
dropped-append k n [] js = refl
dropped-append k n (i ∷ is) js =
    ap (λ (cs : List Change). all_dropped n i (k.held n i) ++ cs) (dropped-append k n is js)
    ∙ sym (append_assoc (all_dropped n i (k.held n i)) (dropped_members k n is) (dropped_members k n js))

pub dropped_more : (k : Known) (n : ℕ) (is : List ℕ) (j : ℕ) → j < length is
    → dropped_members k n (take (j + 1) is) ≡ dropped_members k n (take j is) ++ all_dropped n (get_or is j 0) (k.held n (get_or is j 0))
dropped_more k n is j h =
    ap (dropped_members k n) (take_more is j 0 h)
    ∙ dropped-append k n (take j is) (get_or is j 0 ∷ [])
    ∙ ap (λ (cs : List Change). dropped_members k n (take j is) ++ cs) (append-nil (all_dropped n (get_or is j 0) (k.held n (get_or is j 0))))

pub ruleset bytes = (bytes_more)

pub ruleset sizing = (sized_more, sized_min, append_assoc, append-nil)

pub ruleset dropping = (dropped_more, append_assoc, append-nil)

pub ruleset members = (members_more, members_min, append_assoc, append-nil)

-- who else holds a run, one process more

abbrev pub share_by : Known → (number first process : ℕ) → List (ℕ × ℕ)
share_by k n first m = if m == n then [] else share_of first m (k.held m first)

pub shares_more : (k : Known) (n first j : ℕ) → flat_map (share_by k n first) (indexes 1 (j + 1)) ≡ flat_map (share_by k n first) (indexes 1 j) ++ share_by k n first (1 + j)
shares_more k n first j =
    ap (flat_map (share_by k n first)) (indexes-push 1 j)
    ∙ flat_map-append (share_by k n first) (indexes 1 j) ((1 + j) ∷ [])
    ∙ ap (λ (ps : List (ℕ × ℕ)). flat_map (share_by k n first) (indexes 1 j) ++ ps) (append-nil (share_by k n first (1 + j)))

pub ruleset sharing = (shares_more, append-nil)
