-- What each call on segments changes, by its shape.
use Rattle.std.proofs.Common.{◌≡◌, ◌≢◌, ◌⊎◌, inl, inr, ℕ, zero, suc, ◌+◌, ◌-◌, ◌<◌, ◌≤◌, ◌==◌, ◌/◌, ◌%◌, nat_lt, nat_le, not, ◌&&◌, ◌||◌, Bool, true, false, cond, List, [], ◌∷◌, Option, Some, None, if◌then◌else◌, ap, ◌∙◌, refl, arith, subst}
use Rattle.std.specs.Prelude.{is_some, filter, map, min}
use Rattle.o2_desc.specs.Bits.{is_writable}
use Rattle.o2_desc.specs.Choice.{IsChosen, chosen}
use Rattle.o2_desc.proofs.Choices.{chosen_law}
use Rattle.o2_isa.specs.declared.cpu.Cpu.{Cpu}
use Rattle.o2_isa.specs.Presence.{SameSelectors}
use Rattle.o2_isa.specs.View.{is_local}
use Rattle.o2_world.specs.World.{Held}
use Rattle.o2_world.specs.Changes.{Drops, Locks}
use Rattle.o2_world.specs.Known.{Known, Marks}
use Rattle.o2_world.specs.CallParts.{Before}
use Rattle.o2_world.specs.Rulings.{Ruling, aliasing_at, aliasing_of, allocation, allocation_at, by_load, dropped_indexes, free_index, freed_cpu, freeing, freeing_cpu}
use Rattle.o2_world.specs.Rulings.{freeing_of, full_size, grants, held_under, in_use, indexes, is_alias, is_discardable, is_gone, is_in_run, is_index, is_last, is_later, keeps_its_size}
use Rattle.o2_world.specs.Rulings.{locking_of, locking_with, members, reallocation_of, reallocation_with, refusal, region_by, sizing_of, sizing_with}
use Rattle.o2_world.specs.Rulings.{resizes_with, unlocking_of, unlocking_with}
use Rattle.o2_world.specs.HugeRulings.{names_one, without}
use Rattle.o2_world.specs.Outcomes.{gone_indexes, is_gone as is_none_left}
use Rattle.o2_world.specs.Calls.{aliasing_by, allocation_by, freeing_by, locking_by, reallocation_by, sizing_by, unlocking_by}
use Rattle.o2_world.specs.Moves.{AreApart, AreMembers, Each, IsFreeIndex, IsFreeing, IsHeldAlone, Moves, NoneMoves, OneAliased, OneLocked, OneMade, OneRemade, OneSized, OwnMoves, SomeFreed}
use Rattle.o2_world.specs.RowLaws.{RuledMoves}

rules : (b : Before) (cpu : Cpu) (t : Bool) (r q : Ruling) → Moves b cpu r.changes → Moves b cpu q.changes → Moves b cpu (cond t r q).changes
rules b cpu true r q h k = h
rules b cpu false r q h k = k

-- The index of a new selector is free.

record IsOpen (taken : ℕ → Bool) (low end i : ℕ) : Type 0 where
  from : low ≤ i
  below : i < end
  free : taken i ≡ false

chosen_open : (taken : ℕ → Bool) (low end i : ℕ) → chosen taken low end 1 ≡ Some i → IsOpen taken low end i
chosen_open taken low end i e =
    let law : IsChosen taken low end 1 (Some i) = subst (IsChosen taken low end 1) e (chosen_law taken low end 1) in
    record { from = law.0.0; below = (let a = law.0.1 in omega (arith, a)); free = law.0.2 i (omega arith) (omega arith) }

zero_is : (n : ℕ) → (n == 0) ≡ true → n ≡ 0
zero_is n e = grind arith

not_zero : (n : ℕ) → (n == 0) ≡ false → n ≡ 0 → ⊥
not_zero n e f = grind arith

pub free_by : (k : Known) (n r i : ℕ) → (r ≡ n) ⊎ (r ≡ 0) → free_index k r ≡ Some i → IsFreeIndex k n i
free_by k n r i which e = go (r == 0) refl e
  where
    own_of : (r ≡ n) ⊎ (r ≡ 0) → (r ≡ 0 → ⊥) → r ≡ n
    own_of (inl same) some = same
    own_of (inr none) some = absurd (some none)

    go : (b : Bool) → (r == 0) ≡ b → (if b then chosen (k.taken 0) 4096 8192 1 else chosen (k.taken r) 1 4096 1) ≡ Some i → IsFreeIndex k n i
    go true is f = let o = chosen_open (k.taken 0) 4096 8192 i f in let low = o.from in record { own = λ below. absurd (omega (arith, low, below)); shared = λ _. o.free }
    go false is f =
        let o = chosen_open (k.taken r) 1 4096 i f in
        let high = o.below in
        record { own = λ _. subst (λ (m : ℕ). k.taken m i ≡ false) (own_of which (not_zero r is)) o.free; shared = λ from. absurd (omega (arith, high, from)) }

pub region_is : (n flags : ℕ) → (region_by n flags ≡ n) ⊎ (region_by n flags ≡ 0)
region_is n flags = go (flags % 4 == 0)
  where
    go : (b : Bool) → ((if b then n else 0) ≡ n) ⊎ ((if b then n else 0) ≡ 0)
    go true = inl refl
    go false = inr refl

-- Rulings.

at_moves : (b : Before) (cpu : Cpu) (size flags : ℕ) (o : Option ℕ) → free_index b.known (region_by b.number flags) ≡ o
    → Moves b cpu (allocation_at b.known b.number size flags o).changes
at_moves b cpu size flags None e = NoneMoves refl
at_moves b cpu size flags (Some i) e = OneMade size flags i (free_by b.known b.number (region_by b.number flags) i (region_is b.number flags) e) refl

allocation_moves : (b : Before) (cpu : Cpu) (size flags : ℕ) → Moves b cpu (allocation b.known b.number size flags).changes
allocation_moves b cpu size flags =
    rules b cpu (nat_lt 15 flags) _ _ (NoneMoves refl)
    (rules b cpu (nat_le b.known.most b.known.count) _ _ (NoneMoves refl) (at_moves b cpu size flags (free_index b.known (region_by b.number flags)) refl))

resize_moves : (b : Before) (cpu : Cpu) (name size : ℕ) (o : Option Marks) → IsHeldAlone b.known b.number name → Moves b cpu (reallocation_with name (full_size size) o).changes
resize_moves b cpu name size None alone = NoneMoves refl
resize_moves b cpu name size (Some m) alone = rules b cpu (keeps_its_size (full_size size) m) _ _ (NoneMoves refl) (by_mark m.discarded)
  where
    by_mark : (d : Bool) → Moves b cpu (resizes_with name (full_size size) d)
    by_mark true = OneRemade name size alone refl
    by_mark false = OneSized name size alone refl

pub held_there : (k : Known) (n s : ℕ) (h : Held) → held_under k n s ≡ Some h → k.held n (s / 8) ≡ Some h
held_there k n s h e = go (is_local s) e
  where
    go : (b : Bool) → (if b then k.held n (s / 8) else None) ≡ Some h → k.held n (s / 8) ≡ Some h
    go true f = f
    go false f = absurd (cc)

no_right : (a b : Bool) → (a || b) ≡ false → b ≡ false
no_right true b e = absurd (cc)
no_right false b e = e

realloc_moves : (b : Before) (cpu : Cpu) (size s : ℕ) (o : Option Held) → held_under b.known b.number s ≡ o → Moves b cpu (reallocation_of b.known (full_size size) o).changes
realloc_moves b cpu size s None e = NoneMoves refl
realloc_moves b cpu size s (Some h) e = go (is_alias h.cause || is_in_run h) refl
  where
    go : (t : Bool) → (is_alias h.cause || is_in_run h) ≡ t → Moves b cpu (cond t (refusal 5) (reallocation_with h.name (full_size size) (b.known.segment h.name))).changes
    go true f = NoneMoves refl
    go false f =
        resize_moves b cpu h.name size (b.known.segment h.name)
        (record { index = s / 8; held = h; there = held_there b.known b.number s h e; named = refl; alone = no_right (is_alias h.cause) (is_in_run h) f })

marks_size : (b : Before) (cpu : Cpu) (o : Option Marks) → Moves b cpu (sizing_with o).changes
marks_size b cpu None = NoneMoves refl
marks_size b cpu (Some m) = NoneMoves refl

size_moves : (b : Before) (cpu : Cpu) (o : Option Held) → Moves b cpu (sizing_of b.known o).changes
size_moves b cpu None = NoneMoves refl
size_moves b cpu (Some h) = marks_size b cpu (b.known.segment h.name)

marks_lock : (b : Before) (cpu : Cpu) (name : ℕ) (o : Option Marks) → b.known.segment name ≡ o → Moves b cpu (locking_with name o).changes
marks_lock b cpu name None e = NoneMoves refl
marks_lock b cpu name (Some m) e = rules b cpu (is_discardable m) _ _ (by_mark m.discarded refl) (NoneMoves refl)
  where
    by_mark : (d : Bool) → m.discarded ≡ d → Moves b cpu (cond d (refusal 157) (grants 0 (Locks name (min (m.lock + 1) 255) ∷ []))).changes
    by_mark true is = NoneMoves refl
    by_mark false is = OneLocked name (min (m.lock + 1) 255) (record { marks = m; segment = e; kept = inl is }) refl

lock_moves : (b : Before) (cpu : Cpu) (o : Option Held) → Moves b cpu (locking_of b.known o).changes
lock_moves b cpu None = NoneMoves refl
lock_moves b cpu (Some h) = marks_lock b cpu h.name (b.known.segment h.name) refl

some_lock : (n : ℕ) → (n == 0) ≡ false → 0 < n
some_lock n e = grind arith

marks_unlock : (b : Before) (cpu : Cpu) (name : ℕ) (o : Option Marks) → b.known.segment name ≡ o → Moves b cpu (unlocking_with name o).changes
marks_unlock b cpu name None e = NoneMoves refl
marks_unlock b cpu name (Some m) e = rules b cpu (is_discardable m) _ _ (by_lock (m.lock == 0) refl) (NoneMoves refl)
  where
    less : ℕ
    less = if nat_lt m.lock 255 then m.lock - 1 else m.lock

    by_lock : (z : Bool) → (m.lock == 0) ≡ z → Moves b cpu (cond z (refusal 158) (grants 0 (Locks name less ∷ []))).changes
    by_lock true is = NoneMoves refl
    by_lock false is = OneLocked name less (record { marks = m; segment = e; kept = inr (some_lock m.lock is) }) refl

unlock_moves : (b : Before) (cpu : Cpu) (o : Option Held) → Moves b cpu (unlocking_of b.known o).changes
unlock_moves b cpu None = NoneMoves refl
unlock_moves b cpu (Some h) = marks_unlock b cpu h.name (b.known.segment h.name) refl

alias_at : (b : Before) (cpu : Cpu) (index : ℕ) (h : Held) (o : Option ℕ) → b.known.held b.number index ≡ Some h → is_in_run h ≡ false
    → free_index b.known b.number ≡ o → Moves b cpu (aliasing_at b.number h.name o).changes
alias_at b cpu index h None there alone e = NoneMoves refl
alias_at b cpu index h (Some i) there alone e = OneAliased index i h there alone (free_by b.known b.number b.number i (inl refl) e) refl

alias_moves : (b : Before) (cpu : Cpu) (s : ℕ) (o : Option Held) → held_under b.known b.number s ≡ o
    → Moves b cpu (aliasing_of b.known b.number (s / 8) o).changes
alias_moves b cpu s None e = NoneMoves refl
alias_moves b cpu s (Some h) e =
    go (nat_le 4096 (s / 8) || (not (is_writable h.rights) || is_in_run h)) refl
  where
    go : (t : Bool) → (nat_le 4096 (s / 8) || (not (is_writable h.rights) || is_in_run h)) ≡ t → Moves b cpu (cond t (refusal 5) (aliasing_at b.number h.name (free_index b.known b.number))).changes
    go true f = NoneMoves refl
    go false f =
        alias_at b cpu (s / 8) h (free_index b.known b.number) (held_there b.known b.number s h e)
        (no_right (not (is_writable h.rights)) (is_in_run h) (no_right (nat_le 4096 (s / 8)) (not (is_writable h.rights) || is_in_run h) f)) refl

-- Which indexes a free is about.

pub above : (P Q : ℕ → Type 0) → ((i : ℕ) → P i → Q i) → (is : List ℕ) → Each P is → Each Q is
above P Q f [] h = tt
above P Q f (i ∷ is) h = (f i h.0, above P Q f is h.1)

pub indexes_from : (first n : ℕ) → Each (λ (j : ℕ). first ≤ j) (indexes first n)
indexes_from first zero = tt
indexes_from first (suc n) = (omega arith, above (λ j. first + 1 ≤ j) (λ j. first ≤ j) (λ j h. omega (arith, h)) (indexes (first + 1) n) (indexes_from (first + 1) n))

each_kept : (P : ℕ → Type 0) (f : ℕ → Bool) (is : List ℕ) → Each P is → Each P (filter f is)
each_kept P f [] h = tt
each_kept P f (i ∷ is) h = go (f i) (each_kept P f is h.1)
  where
    go : (b : Bool) → Each P (filter f is) → Each P (cond b (i ∷ filter f is) (filter f is))
    go true rest = (h.0, rest)
    go false rest = rest

pub apart_kept : (f : ℕ → Bool) (is : List ℕ) → AreApart is → AreApart (filter f is)
apart_kept f [] h = tt
apart_kept f (i ∷ is) h = go (f i) (apart_kept f is h.1)
  where
    go : (b : Bool) → AreApart (filter f is) → AreApart (cond b (i ∷ filter f is) (filter f is))
    go true rest = (each_kept (λ (j : ℕ). i ≢ j) f is h.0, rest)
    go false rest = rest

pub indexes_apart : (first n : ℕ) → AreApart (indexes first n)
indexes_apart first zero = tt
indexes_apart first (suc n) =
    (above (λ j. first + 1 ≤ j) (λ j. first ≢ j) (λ j h same. omega (arith, h, same)) (indexes (first + 1) n) (indexes_from (first + 1) n), indexes_apart (first + 1) n)

pub kept_are : (f : ℕ → Bool) (is : List ℕ) → Each (λ (j : ℕ). f j ≡ true) (filter f is)
kept_are f [] = tt
kept_are f (i ∷ is) = go (f i) refl (kept_are f is)
  where
    go : (b : Bool) → f i ≡ b → Each (λ (j : ℕ). f j ≡ true) (filter f is) → Each (λ (j : ℕ). f j ≡ true) (cond b (i ∷ filter f is) (filter f is))
    go true so rest = (so, rest)
    go false so rest = rest

pub members_apart : (k : Known) (n i : ℕ) (h : Held) → AreApart (members k n i h)
members_apart k n i h = go (h.reserved == 0)
  where
    go : (b : Bool) → AreApart (cond b (i ∷ []) (filter (λ (j : ℕ). is_some (k.held n j)) (indexes h.first h.reserved)))
    go true = (tt, tt)
    go false = apart_kept (λ (j : ℕ). is_some (k.held n j)) (indexes h.first h.reserved) (indexes_apart h.first h.reserved)

pub members_held : (k : Known) (n i : ℕ) (h : Held) → k.held n i ≡ Some h → Each (λ (j : ℕ). is_some (k.held n j) ≡ true) (members k n i h)
members_held k n i h there = go (h.reserved == 0)
  where
    go : (b : Bool) → Each (λ (j : ℕ). is_some (k.held n j) ≡ true) (cond b (i ∷ []) (filter (λ (j : ℕ). is_some (k.held n j)) (indexes h.first h.reserved)))
    go true = (ap is_some there, tt)
    go false = kept_are (λ (j : ℕ). is_some (k.held n j)) (indexes h.first h.reserved)

-- DS and ES that name an index of which the last hold goes become 0.

names_gone : (k : Known) (n s : ℕ) (is : List ℕ) → names_one s (gone_indexes k (map (λ (i : ℕ). Drops n i 1) is)) ≡ is_gone k n is s
names_gone k n s [] = refl
names_gone k n s (i ∷ is) = one (names_gone k n s is) (k.held n i)
  where
    gone : List ℕ
    gone = gone_indexes k (map (λ (j : ℕ). Drops n j 1) is)

    go : names_one s gone ≡ is_gone k n is s → (t g : Bool) → (if g then (t || names_one s gone) else names_one s gone) ≡ ((t && g) || is_gone k n is s)
    go later true true = refl
    go later true false = later
    go later false true = later
    go later false false = later

    listed : (g : Bool) → names_one s (if g then i ∷ gone else gone) ≡ (if g then (is_index s i || names_one s gone) else names_one s gone)
    listed true = refl
    listed false = refl

    one : names_one s gone ≡ is_gone k n is s → (o : Option Held) → names_one s (if is_none_left 1 o then i ∷ gone else gone) ≡ ((is_index s i && is_last o) || is_gone k n is s)
    one later None = listed false ∙ go later (is_index s i) false
    one later (Some h) = listed (nat_le h.holds 1) ∙ go later (is_index s i) (nat_le h.holds 1)

dropped_are : (n : ℕ) (is : List ℕ) → dropped_indexes (map (λ (i : ℕ). Drops n i 1) is) ≡ is
dropped_are n [] = refl
dropped_are n (i ∷ is) = ap (λ (js : List ℕ). i ∷ js) (dropped_are n is)

-- the registers behind a free
clears : (k : Known) (n : ℕ) (c : Cpu) (is : List ℕ) → let cs = map (λ (i : ℕ). Drops n i 1) is in without c (gone_indexes k cs) ≡ freed_cpu k n (dropped_indexes cs) c
clears k n c is =
    rw (names_gone k n c.ds is, names_gone k n c.es is, dropped_are n is) refl

pub free_clears : (k : Known) (n s : ℕ) (c : Cpu) → without c (gone_indexes k (freeing k n s c).changes) ≡ freeing_cpu k n s c
free_clears k n s c = at (held_under k n s)
  where
    at : (o : Option Held) → without c (gone_indexes k (freeing_of k n s c o).changes) ≡ freed_cpu k n (dropped_indexes (freeing_of k n s c o).changes) c
    at None = refl
    at (Some h) = go (by_load h.cause || is_later (s / 8) h) (in_use c (members k n (s / 8) h))
      where
        go : (t u : Bool) → (let r : Ruling = if t then refusal 5 else (if u then refusal 5 else grants 0 (map (λ (i : ℕ). Drops n i 1) (members k n (s / 8) h))) in
            without c (gone_indexes k r.changes) ≡ freed_cpu k n (dropped_indexes r.changes) c)
        go true u = refl
        go false true = refl
        go false false = clears k n c (members k n (s / 8) h)

module _ (b : Before) (s : ℕ) (c : Cpu) (same : SameSelectors c b.cpu) where
  -- the registers behind a free, by its ruling
  abbrev behind : Ruling → Cpu
  behind r = without c (gone_indexes b.known r.changes)

  freeing_is : (is : List ℕ) → AreMembers b.known b.number is → AreApart is → Each (λ (j : ℕ). is_some (b.known.held b.number j) ≡ true) is
      → in_use b.cpu is ≡ false
      → IsFreeing b (behind (grants 0 (map (λ (i : ℕ). Drops b.number i 1) is))) is
  freeing_is is all apart held unused = record {
    members = all;
    apart = apart;
    held = held;
    unused = unused;
    cs = same.cs;
    ss = same.ss;
    ds = ap (λ (t : Bool). if t then 0 else c.ds) (names_gone b.known b.number c.ds is) ∙ ap (λ (x : ℕ). if is_gone b.known b.number is x then 0 else x) same.ds;
    es = ap (λ (t : Bool). if t then 0 else c.es) (names_gone b.known b.number c.es is) ∙ ap (λ (x : ℕ). if is_gone b.known b.number is x then 0 else x) same.es;
  }

  free_moves : (o : Option Held) → held_under b.known b.number s ≡ o
      → Moves b (behind (freeing_of b.known b.number s b.cpu o)) (freeing_of b.known b.number s b.cpu o).changes
  free_moves None e = NoneMoves refl
  free_moves (Some h) e = go (by_load h.cause || is_later (s / 8) h) (in_use b.cpu is) refl
    where
      is : List ℕ
      is = members b.known b.number (s / 8) h

      ds : Ruling
      ds = grants 0 (map (λ (i : ℕ). Drops b.number i 1) is)

      go : (t u : Bool) → in_use b.cpu is ≡ u
          → Moves b (behind (cond t (refusal 5) (cond u (refusal 5) ds))) (cond t (refusal 5) (cond u (refusal 5) ds)).changes
      go true u f = NoneMoves refl
      go false true f = NoneMoves refl
      go false false f = SomeFreed is (freeing_is is (record { index = s / 8; held = h; there = held_there b.known b.number s h e; are = refl }) (members_apart b.known b.number (s / 8) h) (members_held b.known b.number (s / 8) h (held_there b.known b.number s h e)) f) refl

-- What each ruling on a segment changes, by the words of its call.

pub allocation_is : RuledMoves allocation_by
allocation_is = record { moves = λ b a c same. OwnMoves (allocation_moves b _ (a 3) (a 0)) }

pub reallocation_is : RuledMoves reallocation_by
reallocation_is = record { moves = λ b a c same. OwnMoves (realloc_moves b _ (a 1) (a 0) (held_under b.known b.number (a 0)) refl) }

pub freeing_by_is : RuledMoves freeing_by
freeing_by_is = record { moves = λ b a c same. OwnMoves (free_moves b (a 0) c same (held_under b.known b.number (a 0)) refl) }

pub sizing_is : RuledMoves sizing_by
sizing_is = record { moves = λ b a c same. OwnMoves (size_moves b _ (held_under b.known b.number (a 2))) }

pub locking_is : RuledMoves locking_by
locking_is = record { moves = λ b a c same. OwnMoves (lock_moves b _ (held_under b.known b.number (a 0))) }

pub unlocking_is : RuledMoves unlocking_by
unlocking_is = record { moves = λ b a c same. OwnMoves (unlock_moves b _ (held_under b.known b.number (a 0))) }

pub aliasing_is : RuledMoves aliasing_by
aliasing_is = record { moves = λ b a c same. OwnMoves (alias_moves b _ (a 2) (held_under b.known b.number (a 2)) refl) }
