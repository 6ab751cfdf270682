-- What the calls on segments come to by what is known, with other numbers for names: the same error, value and changes.
use Rattle.std.proofs.Common.{◌≡◌, refl, sym, ◌∙◌, ap, subst, ℕ, ◌%◌, ◌/◌, Bool, true, false, cond, ◌==◌, ◌||◌, List, [], ◌∷◌, ◌++◌, arith}
use Rattle.std.specs.Prelude.{Option, Some, None, option_map, is_some, not, map, filter, flat_map, nat_le, nat_lt}
use Rattle.std.proofs.lemmas.Bool.{eqb-true}
use mathlib.Core.Path.{fun_ext}
use Rattle.o2_base.specs.Selectors.{selector_of}
use Rattle.o2_desc.specs.Choice.{chosen}
use Rattle.o2_isa.specs.declared.cpu.Cpu.{Cpu}
use Rattle.o2_isa.specs.View.{is_local, is_writable}
use Rattle.o2_world.specs.World.{Held, Line}
use Rattle.o2_world.specs.Changes.{Change, Makes, Resizes, Locks, Marks, Holds, Drops, Finishes, Reserves, Frees, Names, hold_lines_of, drop_lines_of, in_order, moved_lines}
use Rattle.o2_world.specs.Known.{Known, Marks as SegmentMarks}
use Rattle.o2_world.specs.Rulings.{Ruling, refusal, grants, held_under, free_index, allocation, allocation_at, region_by, made_segment, held_by_call, is_alias, is_in_run}
use Rattle.o2_world.specs.Rulings.{full_size, reallocation, reallocation_of, reallocation_with, resizes_with, keeps_its_size, members, indexes, is_later, in_use, by_load}
use Rattle.o2_world.specs.Outcomes.{gone_by, gone_indexes, is_gone}
use Rattle.o2_world.specs.Moves.{AllSpare, Spares}
use Rattle.o2_world.specs.Rulings.{freeing, freeing_of, freeing_with, sizing, sizing_of, sizing_with}
use Rattle.o2_world.specs.Rulings.{is_discardable, locking, locking_of, locking_with, unlocking, unlocking_of, unlocking_with, aliasing, aliasing_of, aliasing_at}
use Rattle.o2_alone.specs.Renaming.{Renaming, renamed_held, renamed_change, renamed_changes, renamed_ruling, is_full_for, IsRenamedKnown}

-- Changes. Neither the lines nor the indexes that they tell have numbers of names.

renamed_holds : (f : Renaming) (cause : List ℕ) (c : Change) → hold_lines_of cause (renamed_change f c) ≡ hold_lines_of cause c
renamed_holds f cause (Makes s) = refl
renamed_holds f cause (Resizes n size) = refl
renamed_holds f cause (Locks n count) = refl
renamed_holds f cause (Marks n discarded) = refl
renamed_holds f cause (Holds p i h) = refl
renamed_holds f cause (Drops p i count) = refl
renamed_holds f cause (Finishes p state) = refl
renamed_holds f cause (Reserves r) = refl
renamed_holds f cause (Frees region first) = refl
renamed_holds f cause (Names text name) = refl

renamed_drops : (f : Renaming) (cause : List ℕ) (c : Change) → drop_lines_of cause (renamed_change f c) ≡ drop_lines_of cause c
renamed_drops f cause (Makes s) = refl
renamed_drops f cause (Resizes n size) = refl
renamed_drops f cause (Locks n count) = refl
renamed_drops f cause (Marks n discarded) = refl
renamed_drops f cause (Holds p i h) = refl
renamed_drops f cause (Drops p i count) = refl
renamed_drops f cause (Finishes p state) = refl
renamed_drops f cause (Reserves r) = refl
renamed_drops f cause (Frees region first) = refl
renamed_drops f cause (Names text name) = refl

flat_renamed : (f : Renaming) (lines : Change → List Line) → ((c : Change) → lines (renamed_change f c) ≡ lines c) → (cs : List Change)
    → flat_map lines (renamed_changes f cs) ≡ flat_map lines cs
flat_renamed f lines same [] = refl
flat_renamed f lines same (c ∷ cs) = ap (λ (ls : List Line). ls ++ flat_map lines (renamed_changes f cs)) (same c) ∙ ap (λ (ls : List Line). lines c ++ ls) (flat_renamed f lines same cs)

pub moved_renamed : (f : Renaming) (cause : List ℕ) (cs : List Change) → moved_lines cause (renamed_changes f cs) ≡ moved_lines cause cs
unfolding moved_lines
moved_renamed f cause cs =
    ap (λ (ls : List Line). in_order ls ++ in_order (flat_map (drop_lines_of cause) (renamed_changes f cs))) (flat_renamed f (hold_lines_of cause) (renamed_holds f cause) cs)
    ∙ ap (λ (ls : List Line). in_order (flat_map (hold_lines_of cause) cs) ++ in_order ls) (flat_renamed f (drop_lines_of cause) (renamed_drops f cause) cs)

-- Nor do the indexes of which a process holds nothing any more.

gone_same : (f : Renaming) (count : ℕ) (x : Option Held) → is_gone count (option_map (renamed_held f) x) ≡ is_gone count x
gone_same f count None = refl
gone_same f count (Some h) = refl

renamed_gone : (f : Renaming) (n : ℕ) (k o : Known) → IsRenamedKnown f n k o → (c : Change) → Spares n c → (is : List ℕ) → gone_by o (renamed_change f c) is ≡ gone_by k c is
renamed_gone f n k o same (Makes s) spares is = refl
renamed_gone f n k o same (Resizes m size) spares is = refl
renamed_gone f n k o same (Locks m count) spares is = refl
renamed_gone f n k o same (Marks m discarded) spares is = refl
renamed_gone f n k o same (Holds p i h) spares is = refl
renamed_gone f n k o same (Drops p i count) own is =
    subst (λ (q : ℕ). gone_by o (Drops q i count) is ≡ gone_by k (Drops q i count) is) (sym own)
    (ap (λ (t : Bool). cond t (i ∷ is) is) (ap (is_gone count) (same.held i) ∙ gone_same f count (k.held n i)))
renamed_gone f n k o same (Finishes p state) spares is = refl
renamed_gone f n k o same (Reserves r) spares is = refl
renamed_gone f n k o same (Frees region first) spares is = refl
renamed_gone f n k o same (Names text name) spares is = refl

pub gone_renamed : (f : Renaming) (n : ℕ) (k o : Known) → IsRenamedKnown f n k o → (cs : List Change) → AllSpare n cs → gone_indexes o (renamed_changes f cs) ≡ gone_indexes k cs
gone_renamed f n k o same [] spares = refl
gone_renamed f n k o same (c ∷ cs) spares =
    renamed_gone f n k o same c spares.0 (gone_indexes o (renamed_changes f cs)) ∙ ap (gone_by k c) (gone_renamed f n k o same cs spares.1)

drops_renamed : (f : Renaming) (n : ℕ) (is : List ℕ) → map (λ (i : ℕ). Drops n i 1) is ≡ renamed_changes f (map (λ (i : ℕ). Drops n i 1) is)
drops_renamed f n [] = refl
drops_renamed f n (i ∷ is) = ap (λ (cs : List Change). Drops n i 1 ∷ cs) (drops_renamed f n is)

-- Parts of rulings.

pub either : (f : Renaming) (b : Bool) (x y p q : Ruling) → p ≡ renamed_ruling f x → q ≡ renamed_ruling f y → cond b p q ≡ renamed_ruling f (cond b x y)
either f true x y p q h k = h
either f false x y p q h k = k

pub under_renamed : (f : Renaming) (n : ℕ) (k o : Known) → IsRenamedKnown f n k o → (s : ℕ) → held_under o n s ≡ option_map (renamed_held f) (held_under k n s)
under_renamed f n k o same s = go (is_local s)
  where
    go : (b : Bool) → cond b (o.held n (s / 8)) None ≡ option_map (renamed_held f) (cond b (k.held n (s / 8)) None)
    go true = same.held (s / 8)
    go false = refl

-- the marks of what is held under a selector
abbrev HasMarks : Renaming → (k o : Known) → Option Held → Type 0
HasMarks f k o x = (h : Held) → x ≡ Some h → o.segment (f h.name) ≡ k.segment h.name

under_marks : (f : Renaming) (n : ℕ) (k o : Known) → IsRenamedKnown f n k o → (s : ℕ) → HasMarks f k o (held_under k n s)
under_marks f n k o same s h e = go (is_local s) e
  where
    go : (b : Bool) → cond b (k.held n (s / 8)) None ≡ Some h → o.segment (f h.name) ≡ k.segment h.name
    go true e = same.segment h (s / 8, e)
    go false e = cc

-- a ruling by what is held under a selector
by_held : (f : Renaming) (n : ℕ) (k o : Known) → IsRenamedKnown f n k o → (s : ℕ) (rule other : Option Held → Ruling)
    → ((x : Option Held) → HasMarks f k o x → other (option_map (renamed_held f) x) ≡ renamed_ruling f (rule x))
    → other (held_under o n s) ≡ renamed_ruling f (rule (held_under k n s))
by_held f n k o same s rule other rules = ap other (under_renamed f n k o same s) ∙ rules (held_under k n s) (under_marks f n k o same s)

free_own : (f : Renaming) (n : ℕ) (k o : Known) → IsRenamedKnown f n k o → free_index o n ≡ free_index k n
free_own f n k o same = go (n == 0) refl
  where
    own : o.taken n ≡ k.taken n
    own = fun_ext same.taken

    go : (b : Bool) → (n == 0) ≡ b → cond b (chosen (o.taken 0) 4096 8192 1) (chosen (o.taken n) 1 4096 1) ≡ cond b (chosen (k.taken 0) 4096 8192 1) (chosen (k.taken n) 1 4096 1)
    go true is = ap (λ (t : ℕ → Bool). chosen t 4096 8192 1) (subst (λ (m : ℕ). o.taken m ≡ k.taken m) (eqb-true n 0 is) own)
    go false is = ap (λ (t : ℕ → Bool). chosen t 1 4096 1) own

free_by : (f : Renaming) (n : ℕ) (k o : Known) → IsRenamedKnown f n k o → (flags : ℕ) → (not (flags % 4 == 0) ≡ true → (i : ℕ) → o.taken 0 i ≡ k.taken 0 i)
    → free_index o (region_by n flags) ≡ free_index k (region_by n flags)
free_by f n k o same flags shared = go (flags % 4 == 0) refl
  where
    go : (b : Bool) → (flags % 4 == 0) ≡ b → free_index o (cond b n 0) ≡ free_index k (cond b n 0)
    go true is = free_own f n k o same
    go false is = ap (λ (t : ℕ → Bool). chosen t 4096 8192 1) (fun_ext (shared (ap not is)))

-- The rulings.

-- one more segment may not live
abbrev is_full : Known → Bool
is_full k = nat_le k.most k.count

full_for_one : (k : Known) → is_full_for 1 k ≡ is_full k
full_for_one k = grind arith

pub allocation_renamed : (f : Renaming) (n : ℕ) (k o : Known) → IsRenamedKnown f n k o → (size flags : ℕ) → (nat_lt 15 flags ≡ false → is_full_for 1 o ≡ is_full_for 1 k)
    → (not (flags % 4 == 0) ≡ true → (i : ℕ) → o.taken 0 i ≡ k.taken 0 i) → allocation o n size flags ≡ renamed_ruling f (allocation k n size flags)
allocation_renamed f n k o same size flags room shared = by_flags (nat_lt 15 flags) refl
  where
    at_index : (x : Option ℕ) → allocation_at o n size flags x ≡ renamed_ruling f (allocation_at k n size flags x)
    at_index None = refl
    at_index (Some i) = ap (λ (m : ℕ). grants (selector_of i) (Makes (made_segment size flags) ∷ Holds n i (held_by_call m) ∷ [])) same.next

    chooses : allocation_at o n size flags (free_index o (region_by n flags)) ≡ renamed_ruling f (allocation_at k n size flags (free_index k (region_by n flags)))
    chooses = ap (allocation_at o n size flags) (free_by f n k o same flags shared) ∙ at_index (free_index k (region_by n flags))

    by_flags : (b : Bool) → nat_lt 15 flags ≡ b
        → cond b (refusal 87) (cond (is_full o) (refusal 8) (allocation_at o n size flags (free_index o (region_by n flags))))
        ≡ renamed_ruling f (cond b (refusal 87) (cond (is_full k) (refusal 8) (allocation_at k n size flags (free_index k (region_by n flags)))))
    by_flags true is = refl
    by_flags false is =
        ap (λ (b : Bool). cond b (refusal 8) (allocation_at o n size flags (free_index o (region_by n flags)))) (sym (full_for_one o) ∙ (room is ∙ full_for_one k))
        ∙ either f (is_full k) (refusal 8) (allocation_at k n size flags (free_index k (region_by n flags))) (refusal 8) (allocation_at o n size flags (free_index o (region_by n flags))) refl chooses

pub reallocation_renamed : (f : Renaming) (n : ℕ) (k o : Known) → IsRenamedKnown f n k o → (size s : ℕ) → reallocation o n size s ≡ renamed_ruling f (reallocation k n size s)
reallocation_renamed f n k o same size s = by_held f n k o same s (reallocation_of k (full_size size)) (reallocation_of o (full_size size)) rules
  where
    by_mark : (name : ℕ) (d : Bool) → grants 0 (resizes_with (f name) (full_size size) d) ≡ renamed_ruling f (grants 0 (resizes_with name (full_size size) d))
    by_mark name true = refl
    by_mark name false = refl

    by_marks : (name : ℕ) (m : Option SegmentMarks) → reallocation_with (f name) (full_size size) m ≡ renamed_ruling f (reallocation_with name (full_size size) m)
    by_marks name None = refl
    by_marks name (Some m) = either f (keeps_its_size (full_size size) m) (refusal 5) _ (refusal 5) _ refl (by_mark name m.discarded)

    rules : (x : Option Held) → HasMarks f k o x → reallocation_of o (full_size size) (option_map (renamed_held f) x) ≡ renamed_ruling f (reallocation_of k (full_size size) x)
    rules None marks = refl
    rules (Some h) marks =
        either f (is_alias h.cause || is_in_run h) (refusal 5) (reallocation_with h.name (full_size size) (k.segment h.name)) (refusal 5) (reallocation_with (f h.name) (full_size size) (o.segment (f h.name))) refl
        (ap (reallocation_with (f h.name) (full_size size)) (marks h refl) ∙ by_marks h.name (k.segment h.name))

pub is_some_renamed : (f : Renaming) (x : Option Held) → is_some (option_map (renamed_held f) x) ≡ is_some x
is_some_renamed f None = refl
is_some_renamed f (Some h) = refl

pub members_renamed : (f : Renaming) (n : ℕ) (k o : Known) → IsRenamedKnown f n k o → (index : ℕ) (h : Held) → members o n index (renamed_held f h) ≡ members k n index h
members_renamed f n k o same index h =
    ap (λ (t : ℕ → Bool). cond (h.reserved == 0) (index ∷ []) (filter t (indexes h.first h.reserved)))
    (fun_ext (λ (i : ℕ). ap (λ (x : Option Held). is_some x) (same.held i) ∙ is_some_renamed f (k.held n i)))

pub freeing_renamed : (f : Renaming) (n : ℕ) (k o : Known) → IsRenamedKnown f n k o → (s : ℕ) (c : Cpu) → freeing o n s c ≡ renamed_ruling f (freeing k n s c)
freeing_renamed f n k o same s c = by_held f n k o same s (freeing_of k n s c) (freeing_of o n s c) rules
  where
    with_these : (is : List ℕ) → freeing_with n c is ≡ renamed_ruling f (freeing_with n c is)
    with_these is = either f (in_use c is) (refusal 5) (grants 0 (map (λ (i : ℕ). Drops n i 1) is)) (refusal 5) (grants 0 (map (λ (i : ℕ). Drops n i 1) is)) refl (ap (grants 0) (drops_renamed f n is))

    rules : (x : Option Held) → HasMarks f k o x → freeing_of o n s c (option_map (renamed_held f) x) ≡ renamed_ruling f (freeing_of k n s c x)
    rules None marks = refl
    rules (Some h) marks =
        either f (by_load h.cause || is_later (s / 8) h) (refusal 5) (freeing_with n c (members k n (s / 8) h)) (refusal 5) (freeing_with n c (members o n (s / 8) (renamed_held f h))) refl
        (ap (freeing_with n c) (members_renamed f n k o same (s / 8) h) ∙ with_these (members k n (s / 8) h))

pub sizing_renamed : (f : Renaming) (n : ℕ) (k o : Known) → IsRenamedKnown f n k o → (s : ℕ) → sizing o n s ≡ renamed_ruling f (sizing k n s)
sizing_renamed f n k o same s = by_held f n k o same s (sizing_of k) (sizing_of o) rules
  where
    by_marks : (m : Option SegmentMarks) → sizing_with m ≡ renamed_ruling f (sizing_with m)
    by_marks None = refl
    by_marks (Some m) = refl

    rules : (x : Option Held) → HasMarks f k o x → sizing_of o (option_map (renamed_held f) x) ≡ renamed_ruling f (sizing_of k x)
    rules None marks = refl
    rules (Some h) marks = ap sizing_with (marks h refl) ∙ by_marks (k.segment h.name)

pub locking_renamed : (f : Renaming) (n : ℕ) (k o : Known) → IsRenamedKnown f n k o → (s : ℕ) → locking o n s ≡ renamed_ruling f (locking k n s)
locking_renamed f n k o same s = by_held f n k o same s (locking_of k) (locking_of o) rules
  where
    by_marks : (name : ℕ) (m : Option SegmentMarks) → locking_with (f name) m ≡ renamed_ruling f (locking_with name m)
    by_marks name None = refl
    by_marks name (Some m) = either f (is_discardable m) _ (refusal 5) _ (refusal 5) (either f m.discarded (refusal 157) _ (refusal 157) _ refl refl) refl

    rules : (x : Option Held) → HasMarks f k o x → locking_of o (option_map (renamed_held f) x) ≡ renamed_ruling f (locking_of k x)
    rules None marks = refl
    rules (Some h) marks = ap (locking_with (f h.name)) (marks h refl) ∙ by_marks h.name (k.segment h.name)

pub unlocking_renamed : (f : Renaming) (n : ℕ) (k o : Known) → IsRenamedKnown f n k o → (s : ℕ) → unlocking o n s ≡ renamed_ruling f (unlocking k n s)
unlocking_renamed f n k o same s = by_held f n k o same s (unlocking_of k) (unlocking_of o) rules
  where
    by_marks : (name : ℕ) (m : Option SegmentMarks) → unlocking_with (f name) m ≡ renamed_ruling f (unlocking_with name m)
    by_marks name None = refl
    by_marks name (Some m) = either f (is_discardable m) _ (refusal 5) _ (refusal 5) (either f (m.lock == 0) (refusal 158) _ (refusal 158) _ refl refl) refl

    rules : (x : Option Held) → HasMarks f k o x → unlocking_of o (option_map (renamed_held f) x) ≡ renamed_ruling f (unlocking_of k x)
    rules None marks = refl
    rules (Some h) marks = ap (unlocking_with (f h.name)) (marks h refl) ∙ by_marks h.name (k.segment h.name)

pub aliasing_renamed : (f : Renaming) (n : ℕ) (k o : Known) → IsRenamedKnown f n k o → (s : ℕ) → aliasing o n s ≡ renamed_ruling f (aliasing k n s)
aliasing_renamed f n k o same s = by_held f n k o same s (aliasing_of k n (s / 8)) (aliasing_of o n (s / 8)) rules
  where
    at_index : (name : ℕ) (x : Option ℕ) → aliasing_at n (f name) x ≡ renamed_ruling f (aliasing_at n name x)
    at_index name None = refl
    at_index name (Some i) = refl

    rules : (x : Option Held) → HasMarks f k o x → aliasing_of o n (s / 8) (option_map (renamed_held f) x) ≡ renamed_ruling f (aliasing_of k n (s / 8) x)
    rules None marks = refl
    rules (Some h) marks =
        either f (nat_le 4096 (s / 8) || (not (is_writable h.rights) || is_in_run h)) (refusal 5) (aliasing_at n h.name (free_index k n)) (refusal 5) (aliasing_at n (f h.name) (free_index o n)) refl
        (ap (aliasing_at n (f h.name)) (free_own f n k o same) ∙ at_index h.name (free_index k n))
