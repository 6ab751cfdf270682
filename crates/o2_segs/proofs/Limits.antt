-- What single changes leave of how large a store is.
use Rattle.std.proofs.Common.{◌≡◌, ◌≢◌, ℕ, ◌+◌, Bool, true, false, List, length, Option, Some, None, IsSome, is_some, ap, refl, sym, ◌∙◌, subst, arith}
use Rattle.std.proofs.lemmas.List.{length-set}
use Rattle.o2_entries.specs.declared.Entry.{Entry}
use Rattle.o2_entries.specs.Tables.{slot_at}
use Rattle.o2_place.specs.declared.seg_id.SegId.{SegId}
use Rattle.o2_regions.specs.declared.answer.Roomed.{Roomed}
use Rattle.o2_regions.specs.declared.answer.Roomed.TheVariants.{Done, NoRoom, SwapFull, SwapFault}
use Rattle.o2_regions.specs.declared.held.Held.{Held}
use Rattle.o2_regions.specs.Maps.{Maps, held_at}
use Rattle.o2_service.specs.Told.{OnlyTables}
use Rattle.o2_store.specs.Shelf.{Adds, IsShelf, Pictures, Removes, SameTables, Shelf, entry_of, entry_or}
use Rattle.o2_store.specs.Sizes.{Resizes}
use Rattle.o2_store.proofs.Tables.{slot-set_other}
use Rattle.o2_changes.specs.Holding.{Goes, Grants, Remains, Sweeps, Takes}
use Rattle.o2_changes.specs.Segments.{IsNewest, SetsLock}
use Rattle.o2_segs.specs.Limits.{IsUndone, KeepsEntries, KeepsEntry, KeepsLimits, KeepsLimitsBy, KeepsOthers, made_in}
use Rattle.o2_segs.specs.Made.{IsStop}
use Rattle.o2_segs.proofs.Sharing.{IsNewHold, added_lived, aged_there, few_as, few_more, few_then, gone_lived, held_few, held_shares, held_told, less_few, less_shares, lived_but, lived_tables, shares_as, shares_refl, shares_then}

-- The limits.

pub limits_refl : (s : Shelf) (m : Maps) → KeepsLimits s m s m 0
limits_refl s m = record {
  size = refl;
  count = refl;
  made = omega arith;
  grows = omega arith;
  few = λ k some. few_as m m (λ q j. refl) k;
  shares = shares_refl s m s.made;
}

pub limits_same : (s t : Shelf) (m n : Maps) → t ≡ s → n ≡ m → KeepsLimits s m t n 0
limits_same s t m n es em = subst (λ (x : Shelf). KeepsLimits s m x n 0) (sym es) (subst (λ (x : Maps). KeepsLimits s m s x 0) (sym em) (limits_refl s m))

pub limits_then : (s t u : Shelf) (m n o : Maps) (a b : ℕ) → KeepsLimits s m t n a → KeepsLimits t n u o b → KeepsLimits s m u o (a + b)
limits_then s t u m n o a b x y = record {
  size = y.size ∙ x.size;
  count = y.count ∙ x.count;
  made = (let p = x.made in let q = y.made in omega (arith, p, q));
  grows = (let p = x.grows in let q = y.grows in omega (arith, p, q));
  few = few_then m n o x.few y.few;
  shares = shares_then s t u m n o s.made t.made s.made (omega arith) x.grows x.shares y.shares;
}

pub limits_more : (s t : Shelf) (m n : Maps) (a b : ℕ) → KeepsLimits s m t n a → KeepsLimits s m t n (a + b)
limits_more s t m n a b x = record {
  size = x.size;
  count = x.count;
  made = (let p = x.made in omega (arith, p));
  grows = x.grows;
  few = x.few;
  shares = x.shares;
}

-- whether it stops or not
pub limits_in : (s t : Shelf) (m n : Maps) (r : Roomed) → KeepsLimits s m t n 0 → KeepsLimits s m t n (made_in r)
limits_in s t m n (Done a) x = limits_more s t m n 0 1 x
limits_in s t m n NoRoom x = x
limits_in s t m n SwapFull x = x
limits_in s t m n SwapFault x = x

-- where more may be held
pub limits_by : (s t : Shelf) (m n : Maps) (more : ℕ) → KeepsLimits s m t n more → KeepsLimitsBy s m t n more 1
limits_by s t m n more x = record {
  size = x.size;
  count = x.count;
  made = x.made;
  grows = x.grows;
  few = λ k some most. few_more n (k + 0) (k + 1) (omega arith) (x.few k some most);
  shares = x.shares;
}

pub limits_none : (s : Shelf) (m : Maps) → KeepsLimitsBy s m s m 0 1
limits_none s m = limits_by s s m m 0 (limits_refl s m)

pub limits_one : (s : Shelf) (m : Maps) → KeepsLimits s m s m 1
limits_one s m = limits_more s s m m 0 1 (limits_refl s m)

-- a call that stops has unmade its segment
pub limits_undone : (s t u : Shelf) (m n o : Maps) (r : Roomed) → IsStop r → t.made ≡ s.made + 1 → KeepsLimits s m t n 1 → IsUndone t n u o → KeepsLimits s m u o (made_in r)
limits_undone s t u m n o r stop one x y = subst (λ (k : ℕ). KeepsLimits s m u o k) (sym (none r stop)) (record {
  size = y.size ∙ x.size;
  count = y.count ∙ x.count;
  made = (let p = y.made in omega (arith, one, p));
  grows = (let p = y.made in omega (arith, one, p));
  few = few_then m n o x.few y.few;
  shares = shares_then s t u m n o s.made u.made s.made (omega arith) (let p = y.made in omega (arith, one, p)) x.shares y.shares;
})
  where
    none : (r : Roomed) → IsStop r → made_in r ≡ 0
    none (Done a) stop = absurd stop
    none NoRoom stop = refl
    none SwapFull stop = refl
    none SwapFault stop = refl

-- segments come, go and move
pub limits_moved : (s t : Shelf) (m n : Maps) → SameTables s t → OnlyTables m n → KeepsLimits s m t n 0
limits_moved s t m n tables only = record {
  size = tables.size;
  count = tables.count;
  made = (let e = tables.made in omega (arith, e));
  grows = (let e = tables.made in omega (arith, e));
  few = λ k some. few_as m n (held_told m n only) k;
  shares = shares_as m n (held_told m n only) s t s.made (λ id old alive. lived_tables s t tables id alive);
}

pub limits_added : (s t : Shelf) (m : Maps) (id : SegId) (e : Entry) → e.age ≡ s.made → Adds s t id e → KeepsLimits s m t m 1
limits_added s t m id e young adds = record {
  size = ap (λ (x : Shelf). x.places.size) adds.shelf;
  count = ap (λ (x : Shelf). length x.entries) adds.shelf ∙ length-set s.entries id.key (Some e);
  made = (let made : t.made ≡ s.made + 1 = ap (λ (x : Shelf). x.made) adds.shelf in omega (arith, made));
  grows = (let made : t.made ≡ s.made + 1 = ap (λ (x : Shelf). x.made) adds.shelf in omega (arith, made));
  few = λ k some. few_as m m (λ q j. refl) k;
  shares = shares_as m m (λ q j. refl) s t s.made (added_lived s t id e adds young);
}

pub limits_locked : (s t : Shelf) (m : Maps) (id : SegId) (lock : ℕ) → IsSome (entry_of s id) → SetsLock s t id lock → KeepsLimits s m t m 0
limits_locked s t m id lock live sets = record {
  size = ap (λ (x : Shelf). x.places.size) sets.shelf;
  count = sets.count;
  made = (let made : t.made ≡ s.made = ap (λ (x : Shelf). x.made) sets.shelf in omega (arith, made));
  grows = (let made : t.made ≡ s.made = ap (λ (x : Shelf). x.made) sets.shelf in omega (arith, made));
  few = λ k some. few_as m m (λ q j. refl) k;
  shares = shares_as m m (λ q j. refl) s t s.made
      (λ w old alive. lived_but s t id.key (λ k apart. (ap is_some (sets.others k apart), ap (λ (o : Option Entry). (entry_or o).age) (sets.others k apart)))
      (ap is_some sets.here ∙ sym (aged_there id.age (slot_at s.entries id.key) live)) (ap (λ (o : Option Entry). (entry_or o).age) sets.here) w alive);
}

pub limits_sized : (told : Bool) (pic : Pictures) (s t : Shelf) (before after : ℕ → List ℕ) (m n : Maps) (key size : ℕ) → Resizes told pic s before t after key size → OnlyTables m n → KeepsLimits s m t n 0
limits_sized told pic s t before after m n key size sized only = record {
  size = sized.whole;
  count = sized.count;
  made = (let e = sized.made in omega (arith, e));
  grows = (let e = sized.made in omega (arith, e));
  few = λ k some. few_as m n (held_told m n only) k;
  shares = shares_as m n (held_told m n only) s t s.made
      (λ id old alive. lived_but s t key (λ k apart. ((sized.same k apart).live, (sized.same k apart).age)) sized.here.live sized.here.age id alive);
}

-- a segment is held where nothing was
pub limits_held : (s : Shelf) (m n : Maps) (pid i access : ℕ) (h : Held) → h.holds ≡ 1 → IsNewHold m pid i h.id → Grants m n pid i h access → KeepsLimits s m s n 0
limits_held s m n pid i access h once new grants = record {
  size = refl;
  count = refl;
  made = omega arith;
  grows = omega arith;
  few = held_few s m n pid i access h once new grants;
  shares = held_shares s m n pid i access h once new grants;
}

-- where both are stores
whole_gone : (s t : Shelf) (key : ℕ) → IsShelf s → IsShelf t → Removes s t key → t.places.size ≡ s.places.size
whole_gone s t key is now removes = now.memory ∙ ap (λ (x : Shelf). length x.memory) removes.shelf ∙ sym is.memory

count_gone : (s t : Shelf) (key : ℕ) → Removes s t key → length t.entries ≡ length s.entries
count_gone s t key removes = ap (λ (x : Shelf). length x.entries) removes.shelf ∙ length-set s.entries key None

whole_swept : (s t : Shelf) (m : Maps) (id : SegId) → IsShelf s → IsShelf t → Sweeps s t m id → (t.places.size ≡ s.places.size) × (length t.entries ≡ length s.entries) × (t.made ≡ s.made)
whole_swept s t m id is now (Goes none removes) = (whole_gone s t id.key is now removes, count_gone s t id.key removes, ap (λ (x : Shelf). x.made) removes.shelf)
whole_swept s t m id is now (Remains q j held same) = (ap (λ (x : Shelf). x.places.size) same, ap (λ (x : Shelf). length x.entries) same, ap (λ (x : Shelf). x.made) same)

pub limits_dropped : (s t : Shelf) (m n : Maps) (pid i : ℕ) (h : Held) → IsShelf s → IsShelf t → held_at m pid i ≡ Some h → Sweeps s t n h.id → Takes m n pid i → KeepsLimits s m t n 0
limits_dropped s t m n pid i h is now at sweeps takes = record {
  size = (whole_swept s t n h.id is now sweeps).0;
  count = (whole_swept s t n h.id is now sweeps).1;
  made = (let e = (whole_swept s t n h.id is now sweeps).2 in omega (arith, e));
  grows = (let e = (whole_swept s t n h.id is now sweeps).2 in omega (arith, e));
  few = less_few s t m n h.id pid i h at refl sweeps takes;
  shares = less_shares s t m n h.id pid i h at refl sweeps takes;
}

-- what is reserved alone changes
pub limits_reserved : (s t : Shelf) (m a n : Maps) → n ≡ record a { reserved = n.reserved } → KeepsLimits s m t a 0 → KeepsLimits s m t n 0
limits_reserved s t m a n is x =
    let held_same : (q j : ℕ) → held_at n q j ≡ held_at a q j = λ q j. ap (λ (y : Maps). held_at y q j) is in
    let y : KeepsLimits t a t n 0 = record {
      size = refl;
      count = refl;
      made = omega arith;
      grows = omega arith;
      few = λ k some. few_as a n held_same k;
      shares = shares_as a n held_same t t t.made (λ id old alive. alive);
    } in
    limits_then s t t m a n 0 0 x y

-- a segment that was made last, and moved, is unmade
pub undone_made : (s t u : Shelf) (m n : Maps) (id : SegId) → SameTables s t → OnlyTables m n → IsShelf t → IsShelf u → Removes t (record u { made = t.made }) id.key → IsNewest t id → u.made ≡ id.age → IsUndone s m u n
undone_made s t u m n id tables only is now removes newest made = record {
  size = now.memory ∙ ap (λ (x : Shelf). length x.memory) removes.shelf ∙ sym is.memory ∙ tables.size;
  count = count_gone t (record u { made = t.made }) id.key removes ∙ tables.count;
  made = (let last = newest.last in let e = tables.made in omega (arith, last, made, e));
  few = λ k some. few_as m n (held_told m n only) k;
  shares = shares_as m n (held_told m n only) s u u.made (λ w old alive. lived_tables s t tables w (gone_lived t (record u { made = t.made }) id.key removes w alive));
}

-- What lives goes on to live.

pub entries_refl : (s : Shelf) → KeepsEntries s s
entries_refl s = record { each = λ k some. (some, refl, refl) }

pub entries_same : (s t : Shelf) → t ≡ s → KeepsEntries s t
entries_same s t e = subst (KeepsEntries s) (sym e) (entries_refl s)

pub others_moved : (s t : Shelf) (key : ℕ) → SameTables s t → KeepsOthers s t key
others_moved s t key tables = record { each = λ k apart some. ((tables.same k).live ∙ some, (tables.same k).age, (tables.same k).size) }

pub others_then : (s t u : Shelf) (key : ℕ) → KeepsOthers s t key → KeepsOthers t u key → KeepsOthers s u key
others_then s t u key x y = record {
  each = λ k apart some.
      (let a = x.each k apart some in
      let b = y.each k apart a.0 in
      (b.0, b.1 ∙ a.1, b.2 ∙ a.2));
}

-- where all others keep their entries
pub others_same : (s t : Shelf) (key : ℕ) → ((k : ℕ) → k ≢ key → slot_at t.entries k ≡ slot_at s.entries k) → KeepsOthers s t key
others_same s t key same = record { each = λ k apart some. subst (KeepsEntry (slot_at s.entries k)) (sym (same k apart)) (some, refl, refl) }

-- a new segment has a number that none had
entries_apart : (s t : Shelf) (id : SegId) (e : Entry) → Adds s t id e → (k : ℕ) → IsSome (slot_at s.entries k) → k ≢ id.key
entries_apart s t id e adds k some same = let z : false ≡ true = sym (ap is_some (ap (slot_at s.entries) same ∙ adds.vacant)) ∙ some in cc

pub entries_added : (s t : Shelf) (id : SegId) (e : Entry) → Adds s t id e → KeepsEntries s t
entries_added s t id e adds = record {
  each = λ k some.
      subst (KeepsEntry (slot_at s.entries k)) (sym (ap (λ (x : Shelf). slot_at x.entries k) adds.shelf ∙ slot-set_other s.entries id.key k (Some e) (entries_apart s t id e adds k some))) (some, refl, refl);
}

pub entries_behind : (s t u : Shelf) (id : SegId) (e : Entry) → Adds s t id e → KeepsOthers t u id.key → KeepsEntries s u
entries_behind s t u id e adds others = record {
  each = λ k some.
      (let a = (entries_added s t id e adds).each k some in
      let b = others.each k (entries_apart s t id e adds k some) a.0 in
      (b.0, b.1 ∙ a.1, b.2 ∙ a.2));
}
