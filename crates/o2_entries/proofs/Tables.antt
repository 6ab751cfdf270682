-- Tables whose entries come, change and go.
use Rattle.std.proofs.Common.{◌≡◌, ◌≢◌, ℕ, ◌+◌, ◌<◌, ◌≤◌, List, length, get_or, set, map, Option, Some, None, is_some, IsSome, cond, refl, sym, ap, ◌∙◌, arith, inl, inr, subst, zero, suc, [], ◌∷◌, replicate, zero-add}
use Rattle.std.proofs.lemmas.Bool.{cases_eq, cases_lt, false≢true}
use Rattle.std.proofs.lemmas.List.{get_or-set_same, get_or-set_other, get_or_past, length-set, length-map, ext_get_or, set-get_or, length-replicate}
use Rattle.std.proofs.lemmas.List.Sums.{sum_by-set}
use Rattle.std.proofs.lemmas.List.Edits.{length-insert, length-remove}
use Rattle.std.proofs.Math.ListN.{get_or-map as get_or-map_default}
use Rattle.std.specs.List.{insert, remove}
use Rattle.slab.specs.Slab.{Slab, get, slab_len, Updates, with_value}
use Rattle.slab.proofs.SlabLemmas.{Updates-with_value, ContainsKey-within}
use Rattle.o2_entries.specs.declared.Entry.{Entry}
use Rattle.o2_entries.specs.Tables.{slot_at, under, entries_of, key_at, IsTable}
use Rattle.o2_entries.proofs.Numbers.{rank, rank-le, listed-add, listed-remove, listed-set, listed-lt, listed-none, at_rank}

some_not_none : {A : Type 0} {o : Option A} → IsSome o → o ≡ None → ⊥
some_not_none h e = false≢true (subst IsSome e h)

pub slot_is : (s : Slab Entry) (keys : List (Option ℕ)) (n : ℕ) → slot_at (entries_of s keys) n ≡ under s (key_at keys n)
slot_is s keys n = get_or-map_default (under s) keys n None

under_other : (s t : Slab Entry) (key : ℕ) (slot : Option Entry) → Updates s t key slot → (o : Option ℕ) → o ≢ Some key → under t o ≡ under s o
under_other s t key slot u None n = refl
under_other s t key slot u (Some k) n = u.others k (λ e. n (ap Some e))

-- one number has something else, under a key that no other number has
pub changed : (s t : Slab Entry) (keys : List (Option ℕ)) (n key : ℕ) (o : Option ℕ) (slot : Option Entry) → Updates s t key slot → n < length keys → under t o ≡ slot
    → ((m : ℕ) → m ≢ n → key_at keys m ≢ Some key) → entries_of t (set keys n o) ≡ set (entries_of s keys) n slot
changed s t keys n key o slot u l here others =
    let long : length (entries_of t (set keys n o)) ≡ length (set (entries_of s keys) n slot) = length-map (set keys n o) (under t) ∙ length-set keys n o ∙ sym (length-map keys (under s)) ∙ sym (length-set (entries_of s keys) n slot) in
    ext_get_or None (entries_of t (set keys n o)) (set (entries_of s keys) n slot) long
    (λ i w. elim (cases_eq i n) [
      | inl e ↦ rw e (slot_is t (set keys n o) n ∙ ap (under t) (get_or-set_same keys n o None l) ∙ here ∙ sym (get_or-set_same (entries_of s keys) n slot None (rw (length-map keys (under s)) l)))
      | inr d ↦ slot_is t (set keys n o) i ∙ ap (under t) (get_or-set_other keys n i o None d) ∙ under_other s t key slot u (key_at keys i) (others i d) ∙ sym (slot_is s keys i) ∙ sym (get_or-set_other (entries_of s keys) n i slot None d)
    ])

-- a key that has nothing is no number's
pub fresh_key : (s : Slab Entry) (keys : List (Option ℕ)) (live : List ℕ) (key m : ℕ) → IsTable s keys live → get s key ≡ None → key_at keys m ≢ Some key
fresh_key s keys live key m h none e = some_not_none (h.found m key e) none

vacant_keys : (s : Slab Entry) (keys : List (Option ℕ)) (live : List ℕ) (n k : ℕ) → IsTable s keys live → slot_at (entries_of s keys) n ≡ None → key_at keys n ≡ Some k → ⊥
vacant_keys s keys live n k h none e = some_not_none (h.found n k e) (ap (under s) (sym e) ∙ sym (slot_is s keys n) ∙ none)

pub IsTable-add : (s t : Slab Entry) (keys : List (Option ℕ)) (live : List ℕ) (n key i : ℕ) (e : Entry) → IsTable s keys live → get s key ≡ None → Updates s t key (Some e)
    → slab_len t ≡ slab_len s + 1 → t.capacity ≡ s.capacity → n < length keys → slot_at (entries_of s keys) n ≡ None → i ≡ rank (entries_of s keys) n → IsTable t (set keys n (Some key)) (insert live i n)
IsTable-add s t keys live n key i e h none u more same l vacant is =
    let fresh = λ (m : ℕ). fresh_key s keys live key m h none in
    let le : i ≤ length live = rw (is, h.listed) (rank-le 0 n (entries_of s keys)) in
    let kept : (m k : ℕ) → m ≢ n → key_at (set keys n (Some key)) m ≡ Some k → key_at keys m ≡ Some k = λ m k d q. sym (get_or-set_other keys n m (Some key) None d) ∙ q in
    let here : (m k : ℕ) → m ≡ n → key_at (set keys n (Some key)) m ≡ Some k → key ≡ k = λ m k d q. (let z : Some key ≡ Some k = sym (get_or-set_same keys n (Some key) None l) ∙ subst (λ (x : ℕ). key_at (set keys n (Some key)) x ≡ Some k) d q in cc) in
    record {
      found = λ m k q. elim (cases_eq m n) [
        | inl d ↦ ap is_some (ap (get t) (sym (here m k d q)) ∙ u.changed)
        | inr d ↦ (let old = kept m k d q in let ne : k ≢ key = λ z. fresh m (old ∙ ap Some z) in ap is_some (u.others k ne) ∙ h.found m k old)
      ];
      apart = λ m p k a b. elim (cases_eq m n) [
        | inl d ↦ elim (cases_eq p n) [ inl f ↦ d ∙ sym f | inr f ↦ absurd (fresh p (kept p k f b ∙ ap Some (sym (here m k d a)))) ]
        | inr d ↦ elim (cases_eq p n) [ inl f ↦ absurd (fresh m (kept m k d a ∙ ap Some (sym (here p k f b)))) | inr f ↦ h.apart m p k (kept m k d a) (kept p k f b) ]
      ];
      listed = rw (changed s t keys n key (Some key) (Some e) u l u.changed (λ m _. fresh m), is, h.listed) (sym (rw (zero-add n) at (listed-add 0 (entries_of s keys) n e (rw (length-map keys (under s)) l) vacant)));
      count = rw (length-insert live i n le) (omega (arith, more, h.count));
      room = rw (length-set keys n (Some key), same) h.room;
    }

-- where a number has none, there is room for its segment
pub few_live : (s : Slab Entry) (keys : List (Option ℕ)) (live : List ℕ) (n : ℕ) → IsTable s keys live → n < length keys → slot_at (entries_of s keys) n ≡ None → length live < length keys
few_live s keys live n h l vacant =
    let long = length-map keys (under s) in
    let a = listed-lt 0 (entries_of s keys) n (omega (arith, long, l)) vacant in
    rw h.listed (omega (arith, a, long))

-- a number that has a segment lies within
pub slot_within : (s : Slab Entry) (keys : List (Option ℕ)) (n : ℕ) → IsSome (slot_at (entries_of s keys) n) → n < length keys
slot_within s keys n h = elim (cases_lt n (length keys)) [ inl l ↦ l | inr past ↦ absurd (some_not_none h (slot_is s keys n ∙ ap (under s) (get_or_past keys n None past))) ]

-- the number of a key lies within
pub key_within : (keys : List (Option ℕ)) (n key : ℕ) → key_at keys n ≡ Some key → n < length keys
key_within keys n key e = elim (cases_lt n (length keys)) [ inl l ↦ l | inr past ↦ absurd (let z = get_or_past keys n None past in cc) ]

pub is_live : (s : Slab Entry) (keys : List (Option ℕ)) (live : List ℕ) (n key : ℕ) → IsTable s keys live → key_at keys n ≡ Some key → IsSome (slot_at (entries_of s keys) n)
is_live s keys live n key h e = subst (λ (x : Option Entry). IsSome x) (sym (slot_is s keys n ∙ ap (under s) e)) (h.found n key e)

pub changed-remove : (s t : Slab Entry) (keys : List (Option ℕ)) (live : List ℕ) (n key : ℕ) → IsTable s keys live → key_at keys n ≡ Some key → Updates s t key None → entries_of t (set keys n None) ≡ set (entries_of s keys) n None
changed-remove s t keys live n key h e u = changed s t keys n key None None u (key_within keys n key e) refl (λ m d q. d (h.apart m n key q e))

pub IsTable-remove : (s t : Slab Entry) (keys : List (Option ℕ)) (live : List ℕ) (n key i : ℕ) → IsTable s keys live → key_at keys n ≡ Some key → Updates s t key None
    → slab_len t + 1 ≡ slab_len s → t.capacity ≡ s.capacity → i ≡ rank (entries_of s keys) n → IsTable t (set keys n None) (remove live i)
IsTable-remove s t keys live n key i h e u less same is =
    let l = key_within keys n key e in
    let there = is_live s keys live n key h e in
    let within : i < length live = rw (is, h.listed) (at_rank 0 (entries_of s keys) n there).0 in
    let kept : (m k : ℕ) → m ≢ n → key_at (set keys n None) m ≡ Some k → key_at keys m ≡ Some k = λ m k d q. sym (get_or-set_other keys n m None None d) ∙ q in
    let gone : (m k : ℕ) → m ≡ n → key_at (set keys n None) m ≡ Some k → ⊥ = λ m k d q. (let z : None ≡ Some k = sym (get_or-set_same keys n None None l) ∙ subst (λ (x : ℕ). key_at (set keys n None) x ≡ Some k) d q in cc) in
    record {
      found = λ m k q. elim (cases_eq m n) [
        | inl d ↦ absurd (gone m k d q)
        | inr d ↦ (let old = kept m k d q in let ne : k ≢ key = λ z. d (h.apart m n key (old ∙ ap Some z) e) in ap is_some (u.others k ne) ∙ h.found m k old)
      ];
      apart = λ m p k a b. elim (cases_eq m n) [
        | inl d ↦ absurd (gone m k d a)
        | inr d ↦ elim (cases_eq p n) [ inl f ↦ absurd (gone p k f b) | inr f ↦ h.apart m p k (kept m k d a) (kept p k f b) ]
      ];
      listed = rw (changed-remove s t keys live n key h e u, is, h.listed) (sym (listed-remove 0 (entries_of s keys) n there));
      count = (let a = length-remove live i within in omega (arith, a, less, h.count));
      room = rw (length-set keys n None, same) h.room;
    }

pub changed-set : (s : Slab Entry) (keys : List (Option ℕ)) (live : List ℕ) (n key : ℕ) (e : Entry) → IsTable s keys live → key_at keys n ≡ Some key → entries_of (with_value s key e) keys ≡ set (entries_of s keys) n (Some e)
changed-set s keys live n key e h q =
    let u = Updates-with_value s key e (h.found n key q) in
    let same : set keys n (Some key) ≡ keys = ap (λ (o : Option ℕ). set keys n o) (sym q) ∙ set-get_or keys n None in
    sym (ap (entries_of (with_value s key e)) same) ∙ changed s (with_value s key e) keys n key (Some key) (Some e) u (key_within keys n key q) u.changed (λ m d w. d (h.apart m n key w q))

same_len : (s : Slab Entry) (key : ℕ) (e : Entry) → IsSome (get s key) → slab_len (with_value s key e) ≡ slab_len s
same_len s key e there =
    let a = sum_by-set (λ (o : Option Entry). cond (is_some o) 1 0) s.slots key (Some e) None (ContainsKey-within s key there) in
    omega (arith, rw there at a)

pub IsTable-set : (s : Slab Entry) (keys : List (Option ℕ)) (live : List ℕ) (n key : ℕ) (e : Entry) → IsTable s keys live → key_at keys n ≡ Some key → IsTable (with_value s key e) keys live
IsTable-set s keys live n key e h q =
    let u = Updates-with_value s key e (h.found n key q) in
    record {
      found = λ m k w. elim (cases_eq k key) [
        | inl d ↦ rw d (ap is_some u.changed)
        | inr d ↦ ap is_some (u.others k d) ∙ h.found m k w
      ];
      apart = h.apart;
      listed = rw (changed-set s keys live n key e h q) (h.listed ∙ sym (listed-set 0 (entries_of s keys) n e (is_live s keys live n key h q)));
      count = same_len s key e (h.found n key q) ∙ h.count;
      room = h.room;
    }

get_or-replicate_same : (n : ℕ) (o : Option ℕ) (i : ℕ) → get_or (replicate n o) i o ≡ o
get_or-replicate_same zero o i = refl
get_or-replicate_same (suc n) o zero = refl
get_or-replicate_same (suc n) o (suc i) = get_or-replicate_same n o i

-- no number has a segment
pub IsTable-empty : (s : Slab Entry) (keys : List (Option ℕ)) (n : ℕ) → s.slots ≡ [] → keys ≡ replicate n None → n ≤ s.capacity → IsTable s keys []
IsTable-empty s keys n e k c =
    let none : (m : ℕ) → key_at keys m ≡ None = λ m. rw k (get_or-replicate_same n None m) in
    record {
      found = λ m key q. absurd (let z = none m in cc);
      apart = λ m p key q w. absurd (let z = none m in cc);
      listed = sym (listed-none 0 0 (entries_of s keys) (λ m l. slot_is s keys m ∙ ap (under s) (none m)));
      count = rw e refl;
      room = rw (k, length-replicate {A = Option ℕ} n None) c;
    }

pub entries-empty : (s : Slab Entry) (keys : List (Option ℕ)) (n : ℕ) → keys ≡ replicate n None → entries_of s keys ≡ replicate n None
entries-empty s keys n k = rw k (map_replicate n)
  where
    map_replicate : (n : ℕ) → map (under s) (replicate n None) ≡ replicate n None
    map_replicate zero = refl
    map_replicate (suc n) = ap (λ xs. None ∷ xs) (map_replicate n)
