-- A run is sized, and then members come or go.
use Rattle.std.proofs.Common.{◌≡◌, ◌⊎◌, inl, inr, ℕ, zero, suc, ◌+◌, ◌-◌, ◌<◌, ◌≤◌, ◌||◌, nat_lt, Bool, true, false, cond, eqb, List, [], ◌∷◌, ◌++◌, Option, Some, None, is_some, option_map, refl, sym, ap, ◌∙◌, subst, arith}
use Rattle.std.specs.List.{list_any}
use Rattle.std.proofs.lemmas.Bool.{cond-true, cond-false, false≢true}
use Rattle.std.proofs.lemmas.Bool.Decides.{nat_tests}
use Rattle.o2_desc.specs.Bits.{has_bit}
use Rattle.o2_image.specs.ImageList.{ImageList}
use Rattle.o2_isa.specs.declared.cpu.Cpu.{Cpu}
use Rattle.o2_regions.specs.declared.answer.Roomed.{Roomed}
use Rattle.o2_regions.specs.declared.held.Held.{Held as HeldThere}
use Rattle.o2_regions.specs.Maps.{Maps, held_at as held_there, holds_of}
use Rattle.o2_segbus.specs.Seen.{key_of}
use Rattle.o2_service.specs.Told.{OnlyTables}
use Rattle.o2_store.specs.Shelf.{Shelf, entry}
use Rattle.o2_world.specs.Changes.{Change, Resizes, resized, swept, takes, with_all, with_change, with_changes}
use Rattle.o2_world.specs.Holders.{is_held}
use Rattle.o2_world.specs.HugeRulings.{new_members, segments_of, sizes_of, without}
use Rattle.o2_world.specs.Map.{at_key, get}
use Rattle.o2_world.specs.Rulings.{full_size, indexes}
use Rattle.o2_world.specs.World.{Reserve, Segment, World}
use Rattle.o2_world.proofs.MapLemmas.{get-filter, get-map}
use Rattle.o2_stands.specs.Moves.{moved}
use Rattle.o2_stands.specs.Parts.{Parts}
use Rattle.o2_stands.specs.Stands.{IsNamed, Matches, taken_by, number_of}
use Rattle.o2_stands.proofs.Moves.{held_same}
use Rattle.o2_changes.specs.Holding.{KeepsHolds}
use Rattle.o2_changes.specs.Worlds.{MatchesMove}
use Rattle.o2_huge.specs.Cuts.{IsCutTo, MatchesCut, MayLose}
use Rattle.o2_huge.specs.Growth.{AreMembers, IsMemberAt, last_kept, last_size, lost_in, lost_there, shares_in, sized_there}
use Rattle.o2_huge.specs.Members.{MatchesWith}
use Rattle.o2_huge.specs.Resized.{KeepsRest, MatchesChanged, MatchesResized, MatchesSized, changed_in, flags_there, is_done, sized_last}
use Rattle.o2_huge.proofs.Cutting.{all_used}
use Rattle.o2_huge.proofs.Reserving.{members_all}
use Rattle.o2_huge.proofs.Shares.{shares_same}
use Rattle.o2_huge.proofs.Stretch.{more_wanted}

-- Members that go: sweeping where there are none changes nothing.

lost_takes : (m : Maps) (pid : ℕ) (is : List ℕ) → (lost_in m pid is ≡ []) ⊎ (list_any takes (lost_in m pid is) ≡ true)
lost_takes m pid [] = inl refl
lost_takes m pid (i ∷ is) = one (held_there m pid i) (lost_takes m pid is)
  where
    one : (o : Option HeldThere) → (lost_in m pid is ≡ []) ⊎ (list_any takes (lost_in m pid is) ≡ true) → (lost_there pid i o ++ lost_in m pid is ≡ []) ⊎ (list_any takes (lost_there pid i o ++ lost_in m pid is) ≡ true)
    one None rest = rest
    one (Some h) rest = inr refl

unswept : (p : Parts) (w : World) → MayLose w → Matches p (swept w) → Matches p w
unswept p w may q =
    let same = all_used w.processes w.reserved may.used in
    record {
      ready = q.ready;
      segments = λ y. subst (IsNamed p (key_of p.shelf y)) (get-filter (is_held w.processes) w.names y ∙ all_kept (get w.names y) (is_held w.processes y) (may.named y)) (q.segments y);
      made = q.made;
      processes = q.processes;
      held = q.held;
      taken = λ g j d. ap (λ (rs : List Reserve). taken_by w.processes rs (number_of g) j) (sym same) ∙ q.taken g j d;
    }
  where
    all_kept : (o : Option Segment) (b : Bool) → (is_some o ≡ true → b ≡ true) → cond b o None ≡ o
    all_kept o true f = refl
    all_kept None false f = refl
    all_kept (Some y) false f = absurd (false≢true (f refl))

pub lost_matches : (p : Parts) (w : World) (m : Maps) (pid : ℕ) (is : List ℕ) → MayLose w → IsCutTo p w (lost_in m pid is) → Matches p (with_all w (lost_in m pid is))
unfolding with_changes
lost_matches p w m pid is may a = elim (lost_takes m pid is) [
  | inl none ↦ subst (λ (cs : List Change). Matches p (with_all w cs)) (sym none) (unswept p w may (subst (λ (cs : List Change). Matches p (swept (with_changes w cs))) none a.matches))
  | inr some ↦ subst (Matches p) (sym (cond-true (list_any takes (lost_in m pid is)) (swept (with_changes w (lost_in m pid is))) (with_changes w (lost_in m pid is)) some)) a.matches
]

-- Members that come or go.

abbrev changed_by : Bool → Shelf → Maps → (pid first count members segs part : ℕ) → List Change
changed_by more s m pid first count there segs part =
    cond more
    (new_members s.made first count (flags_there s (held_there m pid first)) ((pid, holds_of (held_there m pid first)) ∷ shares_in m pid first) (indexes (first + there) (segments_of segs part - there)) (sizes_of (segs - there) part))
    (lost_in m pid (indexes (first + segments_of segs part) (there - segments_of segs part)))

pub grown_matches : (s t : Shelf) (m n : Maps) (pid first count there segs part flags holds : ℕ) (h : HeldThere) → there < segments_of segs part → held_there m pid first ≡ Some h → flags ≡ (entry s h.id.key).attr.flags → holds ≡ h.holds
    → (has_bit flags 2 ≡ false → MatchesWith s t m n pid (new_members s.made first count flags ((pid, holds) ∷ shares_in m pid first) (indexes (first + there) (segments_of (segs - there) part)) (sizes_of (segs - there) part)))
    → MatchesChanged s t m n pid first count there segs part
grown_matches s t m n pid first count there segs part flags holds h more held flags_is holds_is a = record {
  world = λ p w x es em at fixed may q.
      (let f : flags ≡ flags_there s (held_there m pid first) = flags_is ∙ sym (ap (flags_there s) held) in
      let g : holds ≡ holds_of (held_there m pid first) = holds_is ∙ sym (ap holds_of held) in
      let test : nat_lt there (segments_of segs part) ≡ true = passes there (segments_of segs part) more in
      let is : new_members s.made first count flags ((pid, holds) ∷ shares_in m pid first) (indexes (first + there) (segments_of (segs - there) part)) (sizes_of (segs - there) part) ≡ changed_in s m pid first count there segs part =
      ap (λ (y : ℕ). new_members s.made first count y ((pid, holds) ∷ shares_in m pid first) (indexes (first + there) (segments_of (segs - there) part)) (sizes_of (segs - there) part)) f
      ∙ ap (λ (y : ℕ). new_members s.made first count (flags_there s (held_there m pid first)) ((pid, y) ∷ shares_in m pid first) (indexes (first + there) (segments_of (segs - there) part)) (sizes_of (segs - there) part)) g
      ∙ ap (λ (y : ℕ). new_members s.made first count (flags_there s (held_there m pid first)) ((pid, holds_of (held_there m pid first)) ∷ shares_in m pid first) (indexes (first + there) y) (sizes_of (segs - there) part)) (more_wanted there segs part more)
      ∙ sym (ap (λ (b : Bool). changed_by b s m pid first count there segs part) test) in
      subst (λ (cs : List Change). Matches (record p { shelf = t; maps = n }) (with_all w cs)) is
      (subst (Matches (record p { shelf = t; maps = n })) (sym (members_all w s.made first count flags ((pid, holds) ∷ shares_in m pid first) (indexes (first + there) (segments_of (segs - there) part)) (sizes_of (segs - there) part)))
      ((a (ap (λ (y : ℕ). has_bit y 2) f ∙ fixed)).world p w x es em at q)));
}
  where
    passes : (x y : ℕ) → x < y → nat_lt x y ≡ true
    passes x y l = grind (arith, nat_tests)

pub cut_matches : (s t : Shelf) (m n : Maps) (pid first count there segs part : ℕ) → segments_of segs part ≤ there
    → MatchesCut s t m n pid (indexes (first + segments_of segs part) (there - segments_of segs part)) → MatchesChanged s t m n pid first count there segs part
cut_matches s t m n pid first count there segs part few a = record {
  world = λ p w x es em at fixed may q.
      (let test : nat_lt there (segments_of segs part) ≡ false = fails there (segments_of segs part) few in
      let is : lost_in m pid (indexes (first + segments_of segs part) (there - segments_of segs part)) ≡ changed_in s m pid first count there segs part =
      sym (ap (λ (b : Bool). changed_by b s m pid first count there segs part) test) in
      subst (λ (cs : List Change). Matches (record p { shelf = t; maps = n }) (with_all w cs)) is
      (lost_matches (record p { shelf = t; maps = n }) w m pid (indexes (first + segments_of segs part) (there - segments_of segs part)) may (a.world p w x es em at may q)));
}
  where
    fails : (x y : ℕ) → y ≤ x → nat_lt x y ≡ false
    fails x y l = grind (arith, nat_tests)

-- all holds stay where nothing goes, and else some are taken
pub cut_holds : (s : Shelf) (m n : Maps) (pid first count there segs part : ℕ) → segments_of segs part ≤ there → AreMembers m pid first first (first + there)
    → (there - segments_of segs part ≡ 0 → KeepsHolds m n) → KeepsHolds m n ⊎ (list_any takes (changed_in s m pid first count there segs part) ≡ true)
cut_holds s m n pid first count there segs part few members none = go (there - segments_of segs part) refl
  where
    fails : (x y : ℕ) → y ≤ x → nat_lt x y ≡ false
    fails x y l = grind (arith, nat_tests)

    lost : (from k : ℕ) → IsMemberAt m pid first from → list_any takes (lost_in m pid (indexes from (suc k))) ≡ true
    lost from k x = ap (λ (o : Option HeldThere). list_any takes (lost_there pid from o ++ lost_in m pid (indexes (from + 1) k))) x.there

    go : (k : ℕ) → there - segments_of segs part ≡ k → KeepsHolds m n ⊎ (list_any takes (changed_in s m pid first count there segs part) ≡ true)
    go zero e = inl (none e)
    go (suc k) e = inr
        (ap (λ (b : Bool). list_any takes (changed_by b s m pid first count there segs part)) (fails there (segments_of segs part) few)
        ∙ ap (λ (c : ℕ). list_any takes (lost_in m pid (indexes (first + segments_of segs part) c))) e
        ∙ lost (first + segments_of segs part) k (members (first + segments_of segs part) (omega arith) (omega (arith, e))))

-- more changes in front take as much
pub takes_behind : (xs ys : List Change) → list_any takes ys ≡ true → list_any takes (xs ++ ys) ≡ true
takes_behind [] ys e = e
takes_behind (x ∷ xs) ys e = go (takes x) (takes_behind xs ys e)
  where
    go : (b : Bool) → list_any takes (xs ++ ys) ≡ true → (b || list_any takes (xs ++ ys)) ≡ true
    go true f = refl
    go false f = f

-- nothing is taken from the registers where nothing goes
pub without_none : (c : Cpu) (a n : ℕ) → n ≡ 0 → c ≡ without c (indexes a n)
without_none c a n e = sym (ap (λ (x : ℕ). without c (indexes a x)) e)

-- Behind another size.

sized_one : (s : Shelf) (size : ℕ) (o : Option HeldThere) → (sized_there s size o ≡ []) ⊎ ((n : ℕ) × ((z : ℕ) × (sized_there s size o ≡ Resizes n z ∷ [])))
sized_one s size None = inl refl
sized_one s size (Some h) = go (eqb (entry s h.id.key).size (full_size size))
  where
    go : (b : Bool) → (cond b [] (Resizes h.id.age (full_size size) ∷ []) ≡ []) ⊎ ((n : ℕ) × ((z : ℕ) × (cond b [] (Resizes h.id.age (full_size size) ∷ []) ≡ Resizes n z ∷ [])))
    go true = inl refl
    go false = inr (h.id.age, (full_size size, refl))

-- the names that live stay where one has another size
some_sized : (w : World) (n z q : ℕ) → is_some (get (at_key n (λ (g : Segment). record g { bytes = resized z g.bytes }) w.names) q) ≡ is_some (get w.names q)
some_sized w n z q = ap is_some (get-map (λ (k : ℕ) (g : Segment). cond (eqb k n) (record g { bytes = resized z g.bytes }) g) w.names q) ∙ go (get w.names q)
  where
    go : (o : Option Segment) → is_some (option_map (λ (g : Segment). cond (eqb q n) (record g { bytes = resized z g.bytes }) g) o) ≡ is_some o
    go None = refl
    go (Some g) = refl

may_still : (w : World) (n z : ℕ) → MayLose w → MayLose (with_change w (Resizes n z))
may_still w n z may = record {
  named = λ q e. may.named q (sym (some_sized w n z q) ∙ e);
  used = may.used;
  covered = may.covered;
}

-- the indexes of members that go
abbrev gone_by : (first there segs part : ℕ) → List ℕ
gone_by first there segs part = indexes (first + segments_of segs part) (there - segments_of segs part)

-- the changes, by all that they read
abbrev changes_by : (pid first count there segs part : ℕ) → (made flags : ℕ) → Option HeldThere → List (ℕ × ℕ) → List Change → List Change
changes_by pid first count there segs part made flags o ps lost =
    cond (nat_lt there (segments_of segs part)) (new_members made first count flags ((pid, holds_of o) ∷ ps) (indexes (first + there) (segments_of segs part - there)) (sizes_of (segs - there) part)) lost

-- the changes go by what the size leaves
pub changed_same : (s t : Shelf) (m n : Maps) (pid first count there segs part : ℕ) → KeepsRest s t → OnlyTables m n → changed_in t n pid first count there segs part ≡ changed_in s m pid first count there segs part
changed_same s t m n pid first count there segs part rest only =
    let held : (q i : ℕ) → held_there n q i ≡ held_there m q i = λ q i. held_same m n q i (ap (λ (x : Maps). x.held) only.rest) in
    let flags : (o : Option HeldThere) → flags_there t o ≡ flags_there s o = flags_same in
    ap (λ (y : ℕ). changes_by pid first count there segs part y (flags_there t (held_there n pid first)) (held_there n pid first) (shares_in n pid first) (lost_in n pid (gone_by first there segs part))) rest.made
    ∙ ap (λ (y : ℕ). changes_by pid first count there segs part s.made y (held_there n pid first) (shares_in n pid first) (lost_in n pid (gone_by first there segs part))) (flags (held_there n pid first) ∙ ap (flags_there s) (held pid first))
    ∙ ap (λ (o : Option HeldThere). changes_by pid first count there segs part s.made (flags_there s (held_there m pid first)) o (shares_in n pid first) (lost_in n pid (gone_by first there segs part))) (held pid first)
    ∙ ap (λ (ps : List (ℕ × ℕ)). changes_by pid first count there segs part s.made (flags_there s (held_there m pid first)) (held_there m pid first) ps (lost_in n pid (gone_by first there segs part)))
    (shares_same m n pid first (ap (λ (x : Maps). x.processes) only.rest) (λ q. held q first))
    ∙ ap (changes_by pid first count there segs part s.made (flags_there s (held_there m pid first)) (held_there m pid first) (shares_in m pid first)) (lost_same held (gone_by first there segs part))
  where
    flags_same : (o : Option HeldThere) → flags_there t o ≡ flags_there s o
    flags_same None = refl
    flags_same (Some h) = rest.flags h.id.key

    lost_same : ((q i : ℕ) → held_there n q i ≡ held_there m q i) → (is : List ℕ) → lost_in n pid is ≡ lost_in m pid is
    lost_same held [] = refl
    lost_same held (i ∷ is) = ap (λ (o : Option HeldThere). lost_there pid i o ++ lost_in n pid is) (held pid i) ∙ ap (λ (cs : List Change). lost_there pid i (held_there m pid i) ++ cs) (lost_same held is)

pub flags_still : (s t : Shelf) (m n : Maps) (pid first : ℕ) → KeepsRest s t → OnlyTables m n → flags_there t (held_there n pid first) ≡ flags_there s (held_there m pid first)
flags_still s t m n pid first rest only = same (held_there n pid first) ∙ ap (flags_there s) (held_same m n pid first (ap (λ (x : Maps). x.held) only.rest))
  where
    same : (o : Option HeldThere) → flags_there t o ≡ flags_there s o
    same None = refl
    same (Some h) = rest.flags h.id.key

-- sized, and then changed
pub resized_matches : (s t u : Shelf) (m n o : Maps) (images : ImageList) (told : Bool) (before after : ℕ → List ℕ) (pid first count there segs part : ℕ) (r : Roomed) → is_done r ≡ true → KeepsRest s t → OnlyTables m n
    → MatchesSized s t m n images told before after (sized_last s m pid first there segs part) → MatchesChanged t u n o pid first count there segs part
    → MatchesResized s u m o images told before after pid first count there segs part r
unfolding with_changes
resized_matches s t u m n o images told before after pid first count there segs part r done rest only sized changed = record {
  world = λ p w x es em ei eb tells at fixed may q.
      (let ds : List Change = changed_in s m pid first count there segs part in
      let one = sized.world p w es em ei eb tells q in
      let same = changed_same s t m n pid first count there segs part rest only in
      let fix = ap (λ (y : ℕ). has_bit y 2) (flags_still s t m n pid first rest only) ∙ fixed in
      let ends : (cs : List Change) → cs ≡ sized_last s m pid first there segs part → Matches (moved p u o after) (with_all w (cs ++ ds)) = λ cs e.
      elim (sized_one s (last_size there segs part) (held_there m pid (last_kept first there segs part))) [
        | inl none ↦
            (let z : Matches (moved p t n after) w = subst (λ (xs : List Change). Matches (moved p t n after) (with_changes w xs)) none one in
            let y = changed.world (moved p t n after) w x refl refl at fix may z in
            subst (λ (xs : List Change). Matches (moved p u o after) (with_all w (xs ++ ds))) (sym (e ∙ none)) (subst (λ (xs : List Change). Matches (moved p u o after) (with_all w xs)) same y))
        | inr some ↦
            (let z : Matches (moved p t n after) (with_change w (Resizes some.0 some.1.0)) = subst (λ (xs : List Change). Matches (moved p t n after) (with_changes w xs)) some.1.1 one in
            let y = changed.world (moved p t n after) (with_change w (Resizes some.0 some.1.0)) x refl refl at fix (may_still w some.0 some.1.0 may) z in
            subst (λ (xs : List Change). Matches (moved p u o after) (with_all w (xs ++ ds))) (sym (e ∙ some.1.1)) (subst (λ (xs : List Change). Matches (moved p u o after) (with_all (with_change w (Resizes some.0 some.1.0)) xs)) same y))
      ] in
      subst (λ (xs : List Change). Matches (moved p u o after) (with_all w xs)) (sym (cond-true (is_done r) (sized_last s m pid first there segs part ++ ds) [] done)) (ends (sized_last s m pid first there segs part) refl));
}

-- stopped
pub stopped_matches : (s t : Shelf) (m n : Maps) (images : ImageList) (told : Bool) (before after : ℕ → List ℕ) (pid first count there segs part : ℕ) (r : Roomed) → is_done r ≡ false
    → MatchesMove s t m n images told before after → MatchesResized s t m n images told before after pid first count there segs part r
unfolding with_changes
stopped_matches s t m n images told before after pid first count there segs part r stop moves = record {
  world = λ p w x es em ei eb tells at fixed may q.
      subst (λ (xs : List Change). Matches (moved p t n after) (with_all w xs)) (sym (cond-false (is_done r) (sized_last s m pid first there segs part ++ changed_in s m pid first count there segs part) [] stop)) (moves.world p w es em ei eb tells q);
}

-- the last member that stays, by its index and its size
pub sized_last_is : (s : Shelf) (m : Maps) (pid first there segs part size last : ℕ) → size ≡ last_size there segs part → last ≡ last_kept first there segs part
    → sized_there s size (held_there m pid last) ≡ sized_last s m pid first there segs part
sized_last_is s m pid first there segs part size last e f = ap (λ (z : ℕ). sized_there s z (held_there m pid last)) e ∙ ap (λ (i : ℕ). sized_there s (last_size there segs part) (held_there m pid i)) f
