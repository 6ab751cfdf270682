-- The shapes of what calls on segments change.
use Rattle.std.proofs.Common.{◌≡◌, ◌⊎◌, inl, inr, ◌++◌, ap, ◌∙◌, is_some, ℕ, ◌/◌, ◌==◌, ◌||◌, not, nat_lt, nat_le, Bool, true, false, cond, List, [], ◌∷◌, Option, Some, None, map, refl, subst, sym}
use Rattle.o2_desc.specs.Bits.{is_writable}
use Rattle.o2_isa.specs.declared.cpu.Cpu.{Cpu}
use Rattle.o2_world.specs.World.{Held}
use Rattle.o2_world.specs.Changes.{Change, Makes, Resizes, Locks, Marks as Discards, Holds, Drops, Finishes, Reserves, Frees, Names}
use Rattle.o2_world.specs.Known.{Known, Marks}
use Rattle.o2_world.specs.Rulings.{Ruling, aliasing_at, aliasing_of, allocation, allocation_at, by_load, free_index, freeing_of, full_size, held_as_code, held_by_call}
use Rattle.o2_world.specs.Rulings.{held_under, in_use, is_alias, is_discardable, is_in_run, is_later, keeps_its_size, locking_of, locking_with, made_segment, members}
use Rattle.o2_world.specs.Rulings.{reallocation_of, reallocation_with, region_by, resizes_with, sizing_of, unlocking_of, unlocking_with}
use Rattle.o2_world.specs.SharedNames.{name_by}
use Rattle.o2_world.specs.SharedRulings.{each_more, getting_at, getting_from, giving_of, holder, index_of, lacks_flag, naming, naming_at, one_more, shared_segment, sharing, sharing_at, sharing_from, sharing_of}
use Rattle.o2_isa.specs.View.{is_local}
use Rattle.o2_gate.specs.declared.requests.SegmentArguments.{SegmentArguments}
use Rattle.o2_gate.specs.declared.requests.HugeArguments.TheVariants as huge
use Rattle.o2_gate.specs.declared.requests.SharedArguments.{SharedArguments}
use Rattle.o2_gate.specs.declared.requests.SharedArguments.TheVariants.{Name, Share, Give, Get}
use Rattle.o2_gate.specs.Texts.{text_of}
use Rattle.o2_gate.specs.declared.requests.SegmentArguments.TheVariants.{Alloc, Realloc, Free, Size, Lock, Unlock, Alias, Shared, Huge}
use Rattle.o2_world.specs.Calls.{row_of}
use Rattle.o2_world.specs.HugeRulings.{without}
use Rattle.o2_world.specs.Outcomes.{gone_by, gone_indexes}
use Rattle.o2_world.specs.Slots.{Pointer, targets_in}
use Rattle.o2_world.proofs.HugeMoves.{resize_clears}
use Rattle.o2_world.proofs.SegmentMoves.{free_clears}
use Rattle.o2_gate.specs.declared.arguments.Arguments.{Arguments}
use Rattle.o2_gate.specs.Given.{word_in}
use Rattle.o2_gate.specs.Requests.{request_of}
use Rattle.o2_gate.specs.Rows.{slots_by}
use Rattle.o2_calls.specs.Acts.{cpu_of, ruling_of}
use Rattle.o2_calls.specs.Seen.{written_in}
use Rattle.o2_calls.specs.SharedActs.{shared_ruling}
use Rattle.o2_calls.proofs.Behind.{AreGifts, AreHolds, AreNoEnds, GivesHold, GivesHolds, GivesNamed, GivesNew, GivesNone, GivesRun, IsGift, IsGiving, IsHold, gifts_go_on, holds_go_on}
use Rattle.o2_calls.proofs.Rulings.{sizing_still}
use Rattle.o2_calls.proofs.RunsOver.{run_gives, runs_go_on}

-- by a test, or by a refusal
either : (P : List Change → Type 0) (b : Bool) (r q : Ruling) → P r.changes → P q.changes → P (cond b r q).changes
either P true r q h k = h
either P false r q h k = k

-- A call that writes gives at most one hold.

new_gives : (k : Known) (n size flags : ℕ) (index : Option ℕ) → IsGiving (allocation_at k n size flags index).changes
new_gives k n size flags None = GivesNone refl
new_gives k n size flags (Some i) = GivesNew (made_segment size flags) n i (held_by_call k.next) refl

pub alloc_gives : (k : Known) (n size flags : ℕ) → IsGiving (allocation k n size flags).changes
alloc_gives k n size flags =
    either IsGiving (nat_lt 15 flags) _ _ (GivesNone refl) (either IsGiving (nat_le k.most k.count) _ _ (GivesNone refl) (new_gives k n size flags (free_index k (region_by n flags))))

pub size_gives : (k : Known) (n selector : ℕ) → IsGiving (sizing_of k (held_under k n selector)).changes
size_gives k n selector = GivesNone (sizing_still k n selector)

alias_at : (n name : ℕ) (index : Option ℕ) → IsGiving (aliasing_at n name index).changes
alias_at n name None = GivesNone refl
alias_at n name (Some i) = GivesHold n i (held_as_code name) refl

pub alias_gives : (k : Known) (n index : ℕ) (o : Option Held) → IsGiving (aliasing_of k n index o).changes
alias_gives k n index None = GivesNone refl
alias_gives k n index (Some h) = either IsGiving (nat_le 4096 index || (not (is_writable h.rights) || is_in_run h)) _ _ (GivesNone refl) (alias_at n h.name (free_index k n))

-- So does one by which processes share segments.

more_holds : (k : Known) (from to : ℕ) (is : List ℕ) → AreHolds (each_more k from to is)
more_holds k from to [] = tt
more_holds k from to (i ∷ is) = go (k.held from i) (more_holds k from to is)
  where
    go : (o : Option Held) → AreHolds (each_more k from to is) → AreHolds (one_more to i o ++ each_more k from to is)
    go None rest = rest
    go (Some h) rest = (tt, rest)

named_at : (k : Known) (n size : ℕ) (name : List ℕ) (index : Option ℕ) → IsGiving (naming_at k n size name index).changes
named_at k n size name None = GivesNone refl
named_at k n size name (Some i) = GivesNamed (shared_segment size) n i (held_by_call k.next) name k.next refl

named : (k : Known) (n size : ℕ) (name : Option (List ℕ)) → IsGiving (naming k n size name).changes
named k n size None = GivesNone refl
named k n size (Some name) =
    either IsGiving (is_some (k.text name)) _ _ (GivesNone refl) (either IsGiving (nat_le k.most k.count) _ _ (GivesNone refl) (named_at k n size name (free_index k 0)))

share_from : (k : Known) (n i : ℕ) (from : Option ℕ) → IsGiving (sharing_from k n i from).changes
share_from k n i None = GivesNone refl
share_from k n i (Some from) = GivesHolds (more_holds k from n (i ∷ []))

share_at : (k : Known) (n : ℕ) (i : Option ℕ) → IsGiving (sharing_at k n i).changes
share_at k n None = GivesNone refl
share_at k n (Some i) = share_from k n i (holder k i)

share_of : (k : Known) (n : ℕ) (q : Option ℕ) → IsGiving (sharing_of k n q).changes
share_of k n None = GivesNone refl
share_of k n (Some q) = share_at k n (index_of k q)

shares : (k : Known) (n : ℕ) (name : Option (List ℕ)) → IsGiving (sharing k n name).changes
shares k n None = GivesNone refl
shares k n (Some name) = share_of k n (k.text name)

give_of : (k : Known) (n i to : ℕ) (o : Option Held) → IsGiving (giving_of k n i to o).changes
give_of k n i to None = GivesNone refl
give_of k n i to (Some h) =
    either IsGiving (is_later i h || lacks_flag k 0 n (members k n i h)) _ _ (GivesNone refl)
    (either IsGiving (k.lives to) _ _ (GivesHolds (more_holds k n to (members k n i h))) (GivesNone refl))

get_from : (k : Known) (n i from : ℕ) (o : Option Held) → IsGiving (getting_from k n i from o).changes
get_from k n i from None = GivesNone refl
get_from k n i from (Some h) = either IsGiving (is_later i h || lacks_flag k 1 from (members k from i h)) _ _ (GivesNone refl) (GivesHolds (more_holds k from n (members k from i h)))

get_at : (k : Known) (n i : ℕ) (from : Option ℕ) → IsGiving (getting_at k n i from).changes
get_at k n i None = GivesNone refl
get_at k n i (Some from) = get_from k n i from (k.held from i)

pub shared_gives : (a : SharedArguments) (k : Known) (n : ℕ) (c : Cpu) → IsGiving (shared_ruling a k n c).changes
shared_gives (Name size t) k n c = named k n size (name_by (text_of t))
shared_gives (Share t) k n c = shares k n (name_by (text_of t))
shared_gives (Give selector to) k n c = give_of k n (selector / 8) to (held_under k n selector)
shared_gives (Get selector) k n c = either IsGiving (is_local selector) _ _ (get_at k n (selector / 8) (holder k (selector / 8))) (GivesNone refl)

-- No call ends a process.

drops_go_on : (n : ℕ) (is : List ℕ) → AreNoEnds (map (λ (i : ℕ). Drops n i 1) is)
drops_go_on n [] = tt
drops_go_on n (i ∷ is) = (tt, drops_go_on n is)

giving_goes_on : (cs : List Change) → IsGiving cs → AreNoEnds cs
giving_goes_on cs (GivesNone e) = subst AreNoEnds (sym e) tt
giving_goes_on cs (GivesNew s p i h e) = subst AreNoEnds (sym e) (tt, (tt, tt))
giving_goes_on cs (GivesHold p i h e) = subst AreNoEnds (sym e) (tt, tt)
giving_goes_on cs (GivesNamed s p i h text name e) = subst AreNoEnds (sym e) (tt, (tt, (tt, tt)))
giving_goes_on cs (GivesHolds are) = holds_go_on cs are
giving_goes_on cs (GivesRun are) = gifts_go_on cs are

resize_goes_on : (name size : ℕ) (o : Option Marks) → AreNoEnds (reallocation_with name size o).changes
resize_goes_on name size None = tt
resize_goes_on name size (Some m) = either AreNoEnds (keeps_its_size size m) _ _ tt (go m.discarded)
  where
    go : (b : Bool) → AreNoEnds (resizes_with name size b)
    go true = (tt, (tt, (tt, tt)))
    go false = (tt, tt)

realloc_goes_on : (k : Known) (size : ℕ) (o : Option Held) → AreNoEnds (reallocation_of k size o).changes
realloc_goes_on k size None = tt
realloc_goes_on k size (Some h) = either AreNoEnds (is_alias h.cause || is_in_run h) _ _ tt (resize_goes_on h.name size (k.segment h.name))

free_goes_on : (k : Known) (n selector : ℕ) (c : Cpu) (o : Option Held) → AreNoEnds (freeing_of k n selector c o).changes
free_goes_on k n selector c None = tt
free_goes_on k n selector c (Some h) =
    either AreNoEnds (by_load h.cause || is_later (selector / 8) h) _ _ tt
    (either AreNoEnds (in_use c (members k n (selector / 8) h)) _ _ tt (drops_go_on n (members k n (selector / 8) h)))

lock_goes_on : (name : ℕ) (o : Option Marks) → AreNoEnds (locking_with name o).changes
lock_goes_on name None = tt
lock_goes_on name (Some m) = either AreNoEnds (is_discardable m) _ _ (either AreNoEnds m.discarded _ _ tt (tt, tt)) tt

locking_goes_on : (k : Known) (o : Option Held) → AreNoEnds (locking_of k o).changes
locking_goes_on k None = tt
locking_goes_on k (Some h) = lock_goes_on h.name (k.segment h.name)

unlock_goes_on : (name : ℕ) (o : Option Marks) → AreNoEnds (unlocking_with name o).changes
unlock_goes_on name None = tt
unlock_goes_on name (Some m) = either AreNoEnds (is_discardable m) _ _ (either AreNoEnds (m.lock == 0) _ _ tt (tt, tt)) tt

unlocking_goes_on : (k : Known) (o : Option Held) → AreNoEnds (unlocking_of k o).changes
unlocking_goes_on k None = tt
unlocking_goes_on k (Some h) = unlock_goes_on h.name (k.segment h.name)

pub calls_go_on : (a : SegmentArguments) (k : Known) (n : ℕ) (c : Cpu) → AreNoEnds (ruling_of a k n c).changes
calls_go_on (Alloc size flags) k n c = giving_goes_on _ (alloc_gives k n size flags)
calls_go_on (Realloc size selector) k n c = realloc_goes_on k (full_size size) (held_under k n selector)
calls_go_on (Free selector) k n c = free_goes_on k n selector c (held_under k n selector)
calls_go_on (Size selector) k n c = giving_goes_on _ (size_gives k n selector)
calls_go_on (Lock selector) k n c = locking_goes_on k (held_under k n selector)
calls_go_on (Unlock selector) k n c = unlocking_goes_on k (held_under k n selector)
calls_go_on (Alias selector) k n c = giving_goes_on _ (alias_gives k n (selector / 8) (held_under k n selector))
calls_go_on (Shared a) k n c = giving_goes_on _ (shared_gives a k n c)
calls_go_on (Huge a) k n c = runs_go_on a k n c

-- A call that has a pointer for a value gives.
pub valued_gives : (a : Arguments) (k : Known) (n : ℕ) (c : Cpu) → (written_in a ≡ []) ⊎ IsGiving (ruling_of a.request k n c).changes
unfolding row_of
valued_gives a k n c = go a.request a.service a.same
  where
    Aims : ℕ → List Pointer
    Aims service = targets_in (slots_by (row_of service)) (word_in a.words)

    nowhere : (service number : ℕ) → service ≡ number → Aims number ≡ [] → Aims service ≡ []
    nowhere service number same none = ap Aims same ∙ none

    go : (x : SegmentArguments) (service : ℕ) → service ≡ (request_of x).service → (Aims service ≡ []) ⊎ IsGiving (ruling_of x k n c).changes
    go (Alloc size flags) service same = inr (alloc_gives k n size flags)
    go (Realloc size selector) service same = inl (nowhere service 6 same refl)
    go (Free selector) service same = inl (nowhere service 7 same refl)
    go (Size selector) service same = inr (size_gives k n selector)
    go (Lock selector) service same = inl (nowhere service 9 same refl)
    go (Unlock selector) service same = inl (nowhere service 10 same refl)
    go (Alias selector) service same = inr (alias_gives k n (selector / 8) (held_under k n selector))
    go (Shared x) service same = inr (shared_gives x k n c)
    go (Huge (huge.Alloc segs part most flags)) service same = inr (run_gives k n segs part most flags)
    go (Huge (huge.Realloc segs part selector)) service same = inl (nowhere service 17 same refl)
    go (Huge huge.Shift) service same = inr (GivesNone refl)

-- What takes no hold clears no register.

held_stays : (k : Known) (c : Change) (is : List ℕ) → IsHold c → gone_by k c is ≡ is
held_stays k (Makes s) is h = refl
held_stays k (Resizes name size) is h = refl
held_stays k (Locks name count) is h = refl
held_stays k (Discards name discarded) is h = refl
held_stays k (Holds p i x) is h = refl
held_stays k (Drops p i count) is h = absurd h
held_stays k (Finishes p state) is h = refl
held_stays k (Reserves r) is h = refl
held_stays k (Frees region first) is h = refl
held_stays k (Names text name) is h = refl

holds_stay : (k : Known) (cs : List Change) → AreHolds cs → gone_indexes k cs ≡ []
holds_stay k [] are = refl
holds_stay k (c ∷ cs) are = held_stays k c (gone_indexes k cs) are.0 ∙ holds_stay k cs are.1

gift_stays : (k : Known) (c : Change) (is : List ℕ) → IsGift c → gone_by k c is ≡ is
gift_stays k (Makes s) is h = refl
gift_stays k (Resizes name size) is h = refl
gift_stays k (Locks name count) is h = refl
gift_stays k (Discards name discarded) is h = refl
gift_stays k (Holds p i x) is h = refl
gift_stays k (Drops p i count) is h = absurd h
gift_stays k (Finishes p state) is h = refl
gift_stays k (Reserves r) is h = refl
gift_stays k (Frees region first) is h = refl
gift_stays k (Names text name) is h = refl

gifts_stay : (k : Known) (cs : List Change) → AreGifts cs → gone_indexes k cs ≡ []
gifts_stay k [] are = refl
gifts_stay k (c ∷ cs) are = gift_stays k c (gone_indexes k cs) are.0 ∙ gifts_stay k cs are.1

abbrev Stays : Known → List Change → Type 0
Stays k cs = gone_indexes k cs ≡ []

gives_stay : (k : Known) (cs : List Change) → IsGiving cs → Stays k cs
gives_stay k cs (GivesNone e) = subst (Stays k) (sym e) refl
gives_stay k cs (GivesNew s p i h e) = subst (Stays k) (sym e) refl
gives_stay k cs (GivesHold p i h e) = subst (Stays k) (sym e) refl
gives_stay k cs (GivesNamed s p i h text name e) = subst (Stays k) (sym e) refl
gives_stay k cs (GivesHolds are) = holds_stay k cs are
gives_stay k cs (GivesRun are) = gifts_stay k cs are

resize_stays : (k : Known) (name size : ℕ) (o : Option Marks) → Stays k (reallocation_with name size o).changes
resize_stays k name size None = refl
resize_stays k name size (Some m) = either (Stays k) (keeps_its_size size m) _ _ refl (go m.discarded)
  where
    go : (b : Bool) → Stays k (resizes_with name size b)
    go true = refl
    go false = refl

realloc_stays : (k : Known) (size : ℕ) (o : Option Held) → Stays k (reallocation_of k size o).changes
realloc_stays k size None = refl
realloc_stays k size (Some h) = either (Stays k) (is_alias h.cause || is_in_run h) _ _ refl (resize_stays k h.name size (k.segment h.name))

lock_stays : (k : Known) (name : ℕ) (o : Option Marks) → Stays k (locking_with name o).changes
lock_stays k name None = refl
lock_stays k name (Some m) = either (Stays k) (is_discardable m) _ _ (either (Stays k) m.discarded _ _ refl refl) refl

locking_stays : (k : Known) (o : Option Held) → Stays k (locking_of k o).changes
locking_stays k None = refl
locking_stays k (Some h) = lock_stays k h.name (k.segment h.name)

unlock_stays : (k : Known) (name : ℕ) (o : Option Marks) → Stays k (unlocking_with name o).changes
unlock_stays k name None = refl
unlock_stays k name (Some m) = either (Stays k) (is_discardable m) _ _ (either (Stays k) (m.lock == 0) _ _ refl refl) refl

unlocking_stays : (k : Known) (o : Option Held) → Stays k (unlocking_of k o).changes
unlocking_stays k None = refl
unlocking_stays k (Some h) = unlock_stays k h.name (k.segment h.name)

-- the registers behind a call are those before it, without what is gone
pub clears_gone : (a : SegmentArguments) (k : Known) (n : ℕ) (c : Cpu) → without c (gone_indexes k (ruling_of a k n c).changes) ≡ cpu_of a k n c
clears_gone (Alloc size flags) k n c = ap (without c) (gives_stay k _ (alloc_gives k n size flags))
clears_gone (Realloc size selector) k n c = ap (without c) (realloc_stays k (full_size size) (held_under k n selector))
clears_gone (Free selector) k n c = free_clears k n selector c
clears_gone (Size selector) k n c = ap (without c) (gives_stay k _ (size_gives k n selector))
clears_gone (Lock selector) k n c = ap (without c) (locking_stays k (held_under k n selector))
clears_gone (Unlock selector) k n c = ap (without c) (unlocking_stays k (held_under k n selector))
clears_gone (Alias selector) k n c = ap (without c) (gives_stay k _ (alias_gives k n (selector / 8) (held_under k n selector)))
clears_gone (Shared x) k n c = ap (without c) (gives_stay k _ (shared_gives x k n c))
clears_gone (Huge (huge.Alloc segs part most flags)) k n c = ap (without c) (gives_stay k _ (run_gives k n segs part most flags))
clears_gone (Huge (huge.Realloc segs part selector)) k n c = resize_clears k n segs part selector c c
clears_gone (Huge huge.Shift) k n c = refl
