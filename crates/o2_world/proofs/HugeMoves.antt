-- What each call on a huge allocation changes, by its shape.
use Rattle.std.proofs.Common.{◌≡◌, ◌⊎◌, inl, inr, ℕ, zero, suc, ◌+◌, ◌-◌, ◌<◌, ◌≤◌, ◌==◌, ◌/◌, nat_lt, nat_le, ◌&&◌, ◌||◌, Bool, true, false, cond, List, [], ◌∷◌, ◌++◌}
use Rattle.std.proofs.Common.{length, Option, Some, None, if◌then◌else◌, ap, sym, ◌∙◌, refl, arith, subst}
use Rattle.std.specs.Prelude.{drop, flat_map, is_some, max}
use Rattle.o2_desc.specs.Bits.{has_bit}
use Rattle.o2_desc.specs.Choice.{IsChosen, chosen}
use Rattle.o2_desc.proofs.Choices.{chosen_law}
use Rattle.o2_isa.specs.declared.cpu.Cpu.{Cpu}
use Rattle.o2_isa.specs.Presence.{SameSelectors}
use Rattle.o2_world.specs.World.{Held, Segment}
use Rattle.o2_world.specs.Changes.{Change, Holds, Makes, Reserves, Resizes}
use Rattle.o2_world.specs.Known.{Known, Marks}
use Rattle.o2_world.specs.CallParts.{Before}
use Rattle.o2_world.specs.Rulings.{Ruling, dropped_indexes, full_size, grants, held_under, in_use, indexes, is_in_run, made_segment, members, refusal, region_by}
use Rattle.o2_world.specs.SharedRulings.{marks_under, shared_from}
use Rattle.o2_world.specs.HugeRulings.{all_bytes, all_dropped, all_hold, bytes_of, dropped_members, flags_in, free_run, held_in_run, huge_allocation, huge_at, huge_reallocation}
use Rattle.o2_world.specs.HugeRulings.{huge_reallocation_of, is_first, is_huge_fault, is_unheld, left_in_run, names_one, new_members, other_shares}
use Rattle.o2_world.specs.HugeRulings.{resized_members, resized_one, run_changes, run_reserve, run_resized, segments_of, share_of, sizes_of, without}
use Rattle.o2_world.specs.Outcomes.{gone_indexes}
use Rattle.o2_world.specs.Calls.{huge_allocation_by, huge_reallocation_by}
use Rattle.o2_world.specs.Moves.{AreApart, AreHolders, Each, IsFreeIndex, IsOpen, Maker, NoRun, OfAllocation, OfReallocation, OneRun, RunMade, RunMoves, RunSized, Sharer}
use Rattle.o2_world.specs.RowLaws.{RuledMoves}
use Rattle.o2_world.proofs.SegmentMoves.{above, apart_kept, held_there, indexes_apart, indexes_from, kept_are, members_apart, members_held, region_is}

rules : (b : Before) (cpu : Cpu) (t : Bool) (r q : Ruling) → (t ≡ true → RunMoves b cpu r.changes) → (t ≡ false → RunMoves b cpu q.changes) → RunMoves b cpu (cond t r q).changes
rules b cpu true r q h k = h refl
rules b cpu false r q h k = k refl

-- The indexes of a run that is free.

pub record IsFreeRun (taken : ℕ → Bool) (low end count i : ℕ) : Type 0 where
  pub from : low ≤ i
  pub below : i + count ≤ end
  pub free : (k : ℕ) → i ≤ k → k < i + count → taken k ≡ false

pub chosen_run : (taken : ℕ → Bool) (low end count i : ℕ) → chosen taken low end count ≡ Some i → IsFreeRun taken low end count i
chosen_run taken low end count i e =
    let law : IsChosen taken low end count (Some i) = subst (IsChosen taken low end count) e (chosen_law taken low end count) in
    record { from = law.0.0; below = law.0.1; free = law.0.2 }

not_zero : (n : ℕ) → (n == 0) ≡ false → n ≡ 0 → ⊥
not_zero n e f = grind arith

own_of : (n r : ℕ) → (r ≡ n) ⊎ (r ≡ 0) → (r ≡ 0 → ⊥) → r ≡ n
own_of n r (inl same) some = same
own_of n r (inr none) some = absurd (some none)

-- one index of it
one_free : (k : Known) (n r count i j : ℕ) → (r ≡ n) ⊎ (r ≡ 0) → free_run k r count ≡ Some i → i ≤ j → j < i + count → IsFreeIndex k n j
one_free k n r count i j which e from to = go (r == 0) refl e
  where
    go : (b : Bool) → (r == 0) ≡ b → (if b then chosen (k.taken 0) 4096 8192 count else chosen (k.taken r) 1 4096 count) ≡ Some i → IsFreeIndex k n j
    go true is f =
        let o = chosen_run (k.taken 0) 4096 8192 count i f in
        let low = o.from in
        record { own = λ below. absurd (omega (arith, low, below, from)); shared = λ _. o.free j from to }
    go false is f =
        let o = chosen_run (k.taken r) 1 4096 count i f in
        let high = o.below in
        record { own = λ _. subst (λ (m : ℕ). k.taken m j ≡ false) (own_of n r which (not_zero r is)) (o.free j from to); shared = λ big. absurd (omega (arith, high, big, to)) }

indexes_to : (first n : ℕ) → Each (λ (j : ℕ). j < first + n) (indexes first n)
indexes_to first zero = tt
indexes_to first (suc n) = (omega arith, above (λ j. j < first + 1 + n) (λ j. j < first + suc n) (λ j h. omega (arith, h)) (indexes (first + 1) n) (indexes_to (first + 1) n))

all_free : (P Q R : ℕ → Type 0) → ((j : ℕ) → P j → Q j → R j) → (is : List ℕ) → Each P is → Each Q is → Each R is
all_free P Q R f [] p q = tt
all_free P Q R f (i ∷ is) p q = (f i p.0 q.0, all_free P Q R f is p.1 q.1)

either_false : (a b : Bool) → (a || b) ≡ false → (a ≡ false) × (b ≡ false)
either_false true b e = absurd (cc)
either_false false b e = (refl, e)

pub some_of : (n : ℕ) → (n == 0) ≡ false → (m : ℕ) × (n ≡ suc m)
some_of zero e = absurd (cc)
some_of (suc n) e = (n, refl)

-- sizes are as many as segments
pub sizes_length : (segs part : ℕ) → length (sizes_of segs part) ≡ segments_of segs part
sizes_length zero part = go (part == 0)
  where
    go : (b : Bool) → length (if b then [] else part ∷ []) ≡ (if b then 0 else 1)
    go true = refl
    go false = refl
sizes_length (suc segs) part = ap suc (sizes_length segs part) ∙ more (part == 0)
  where
    more : (b : Bool) → suc (if b then segs else segs + 1) ≡ (if b then suc segs else suc segs + 1)
    more true = refl
    more false = omega arith

first_size : (zs : List ℕ) (m : ℕ) → length zs ≡ suc m → (z : ℕ) × (rest : List ℕ) × (zs ≡ z ∷ rest)
first_size [] m e = absurd (cc)
first_size (z ∷ zs) m e = (z, zs, refl)

pub at_most : (n m : ℕ) → n ≤ max n m
at_most n m = omega arith

pub above_zero : (n m : ℕ) → (n == 0) ≡ false → 0 < max n m
above_zero n m e = let p : 0 < n = grind arith in omega (arith, p)

module _ (b : Before) (cpu : Cpu) (segs part flags : ℕ) where
  abbrev k : Known
  k = b.known

  abbrev n : ℕ
  n = b.number

  made_at : (count : ℕ) (o : Option ℕ) → free_run k (region_by n flags) count ≡ o → (segments_of segs part == 0) ≡ false → segments_of segs part ≤ count → 0 < count
      → RunMoves b cpu (huge_at k n segs part count flags o).changes
  made_at count None e some few positive = NoRun refl
  made_at count (Some i) e some few positive =
      let m = some_of (segments_of segs part) some in
      let s = first_size (sizes_of segs part) m.0 (sizes_length segs part ∙ m.1) in
      let from = indexes_from i (suc m.0) in
      let to = indexes_to i (suc m.0) in
      let size : suc m.0 ≤ count = subst (λ (x : ℕ). x ≤ count) m.1 few in
      RunMade (region_by n flags) i count flags i s.0 (indexes (i + 1) m.0) s.1 (region_is n flags) positive
      (record {
        holders = (Maker refl refl, tt);
        apart = indexes_apart i (suc m.0);
        free = all_free (λ (j : ℕ). i ≤ j) (λ (j : ℕ). j < i + suc m.0) (IsOpen b) (λ j low high. inl (one_free k n (region_by n flags) count i j (region_is n flags) e low (omega (arith, high, size)))) (indexes i (suc m.0)) from to;
      })
      (ap (λ (x : ℕ). new_members k.next i count flags ((n, 1) ∷ []) (indexes i x) (sizes_of segs part) ++ Reserves (run_reserve (region_by n flags) i count) ∷ []) m.1
      ∙ ap (λ (zs : List ℕ). new_members k.next i count flags ((n, 1) ∷ []) (indexes i (suc m.0)) zs ++ Reserves (run_reserve (region_by n flags) i count) ∷ []) s.2)

  faultless : (most : ℕ) → is_huge_fault (segments_of segs part) most flags ≡ false → (segments_of segs part == 0) ≡ false
  faultless most e = (either_false (segments_of segs part == 0) _ (either_false (has_bit flags 2) _ (either_false (nat_lt 15 flags) _ e).1).1).0

  pub huge_moves : (most : ℕ) → RunMoves b cpu (huge_allocation k n segs part most flags).changes
  huge_moves most =
      rules b cpu (is_huge_fault (segments_of segs part) most flags) _ _ (λ _. NoRun refl)
      (λ good. rules b cpu (nat_lt k.most (k.count + segments_of segs part)) _ _ (λ _. NoRun refl)
      (λ _. made_at (max (segments_of segs part) most) (free_run k (region_by n flags) (max (segments_of segs part) most)) refl (faultless most good)
      (at_most (segments_of segs part) most) (above_zero (segments_of segs part) most (faultless most good))))

-- DosReallocHuge.

-- the indexes of which holds go, and those of which nothing is held any more, are those of the members that go

append_twice : (xs ys zs : List Change) → (xs ++ ys) ++ zs ≡ xs ++ (ys ++ zs)
append_twice [] ys zs = refl
append_twice (x ∷ xs) ys zs = ap (λ (cs : List Change). x ∷ cs) (append_twice xs ys zs)

record Skips (f : List Change → List ℕ) : Type 0 where
  makes : (s : Segment) (cs : List Change) → f (Makes s ∷ cs) ≡ f cs
  resizes : (name size : ℕ) (cs : List Change) → f (Resizes name size ∷ cs) ≡ f cs
  holds : (p i : ℕ) (h : Held) (cs : List Change) → f (Holds p i h ∷ cs) ≡ f cs

module _ (f : List Change → List ℕ) (skips : Skips f) where
  resized_none : (k : Known) (n : ℕ) (is zs : List ℕ) (cs : List Change) → f (resized_members k n is zs ++ cs) ≡ f cs
  resized_none k n [] zs cs = refl
  resized_none k n (i ∷ is) [] cs = refl
  resized_none k n (i ∷ is) (z ∷ zs) cs = one (resized_none k n is zs cs) (k.held n i) (marks_under k (k.held n i))
    where
      here : f (resized_members k n is zs ++ cs) ≡ f cs → (h : Held) (b : Bool)
          → f ((cond b [] (Resizes h.name (full_size z) ∷ []) ++ resized_members k n is zs) ++ cs) ≡ f cs
      here rest h true = rest
      here rest h false = skips.resizes h.name (full_size z) (resized_members k n is zs ++ cs) ∙ rest

      one : f (resized_members k n is zs ++ cs) ≡ f cs → (o : Option Held) (m : Option Marks)
          → f ((resized_one z o m ++ resized_members k n is zs) ++ cs) ≡ f cs
      one rest None None = rest
      one rest None (Some m) = rest
      one rest (Some h) None = rest
      one rest (Some h) (Some m) = here rest h (m.size == full_size z)

  holds_none : (name first count i : ℕ) (ps : List (ℕ × ℕ)) (cs : List Change) → f (all_hold name first count i ps ++ cs) ≡ f cs
  holds_none name first count i [] cs = refl
  holds_none name first count i (p ∷ ps) cs = skips.holds p.0 i (held_in_run name first count p.1) (all_hold name first count i ps ++ cs) ∙ holds_none name first count i ps cs

  made_none : (name first count flags : ℕ) (ps : List (ℕ × ℕ)) (is zs : List ℕ) (cs : List Change) → f (new_members name first count flags ps is zs ++ cs) ≡ f cs
  made_none name first count flags ps [] zs cs = refl
  made_none name first count flags ps (i ∷ is) [] cs = refl
  made_none name first count flags ps (i ∷ is) (z ∷ zs) cs =
      skips.makes (made_segment z flags) ((all_hold name first count i ps ++ new_members (name + 1) first count flags ps is zs) ++ cs)
      ∙ ap f (append_twice (all_hold name first count i ps) (new_members (name + 1) first count flags ps is zs) cs)
      ∙ holds_none name first count i ps (new_members (name + 1) first count flags ps is zs ++ cs)
      ∙ made_none (name + 1) first count flags ps is zs cs

  members_alone : (k : Known) (n : ℕ) (h : Held) (is zs : List ℕ) → f (run_changes k n h is zs) ≡ f (dropped_members k n (drop (length zs) is))
  members_alone k n h is zs =
      resized_none k n is zs _
      ∙ made_none k.next h.first h.reserved (flags_in (k.segment h.name)) ((n, h.holds) ∷ other_shares k n h.first) (left_in_run k n h) (drop (length is) zs) (dropped_members k n (drop (length zs) is))

gone_skips : (k : Known) → Skips (gone_indexes k)
gone_skips k = record { makes = λ s cs. refl; resizes = λ name size cs. refl; holds = λ p i h cs. refl }

dropped_skips : Skips dropped_indexes
dropped_skips = record { makes = λ s cs. refl; resizes = λ name size cs. refl; holds = λ p i h cs. refl }

no_more : (n : ℕ) → nat_le n n ≡ true
no_more n = grind arith

gone_are : (k : Known) (n : ℕ) (is : List ℕ) → Each (λ (i : ℕ). is_some (k.held n i) ≡ true) is → gone_indexes k (dropped_members k n is) ≡ is
gone_are k n [] held = refl
gone_are k n (i ∷ is) held = one (gone_are k n is held.1) (k.held n i) refl held.0
  where
    one : gone_indexes k (dropped_members k n is) ≡ is → (o : Option Held) → k.held n i ≡ o → is_some o ≡ true
        → gone_indexes k (all_dropped n i o ++ dropped_members k n is) ≡ i ∷ is
    one rest None at e = absurd (cc)
    one rest (Some h) at e = rw (at, no_more h.holds) (ap (λ (js : List ℕ). i ∷ js) rest)

-- who drops a member drops all holds of it
all_gone : (k : Known) (n : ℕ) (is : List ℕ) → gone_indexes k (dropped_members k n is) ≡ dropped_indexes (dropped_members k n is)
all_gone k n [] = refl
all_gone k n (i ∷ is) = one (all_gone k n is) (k.held n i) refl
  where
    one : gone_indexes k (dropped_members k n is) ≡ dropped_indexes (dropped_members k n is) → (o : Option Held) → k.held n i ≡ o
        → gone_indexes k (all_dropped n i o ++ dropped_members k n is) ≡ dropped_indexes (all_dropped n i o ++ dropped_members k n is)
    one rest None at = rest
    one rest (Some h) at = rw (at, no_more h.holds) (ap (λ (js : List ℕ). i ∷ js) rest)

gone_or_dropped : (k : Known) (n : ℕ) (h : Held) (is zs : List ℕ) → gone_indexes k (run_changes k n h is zs) ≡ dropped_indexes (run_changes k n h is zs)
gone_or_dropped k n h is zs =
    members_alone (gone_indexes k) (gone_skips k) k n h is zs ∙ all_gone k n (drop (length zs) is) ∙ sym (members_alone dropped_indexes dropped_skips k n h is zs)

-- so DS and ES behind a DosReallocHuge are 0 where they named a member that went
record Clears (k : Known) (d : Cpu) (r : Ruling) : Type 0 where
  same : without d (gone_indexes k r.changes) ≡ without d (dropped_indexes r.changes)

refuses : (k : Known) (d : Cpu) (error : ℕ) → Clears k d (refusal error)
refuses k d error = record { same = refl }

either_clears : (k : Known) (d : Cpu) (t : Bool) (r q : Ruling) → Clears k d r → Clears k d q → Clears k d (cond t r q)
either_clears k d true r q h g = h
either_clears k d false r q h g = g

held_clears : (k : Known) (n segs part i : ℕ) (c d : Cpu) (o : Option Held) → Clears k d (huge_reallocation_of k n i segs part c o)
held_clears k n segs part i c d None = refuses k d 5
held_clears k n segs part i c d (Some h) =
    let is = members k n i h in
    let m = segments_of segs part in
    either_clears k d (is_first i h) (run_resized k n segs part c h is) (refusal 5)
    (either_clears k d (m == 0) _ _ (refuses k d 87) (either_clears k d (nat_lt h.reserved m) _ _ (refuses k d 8)
    (either_clears k d ((nat_le shared_from h.first && nat_lt (bytes_of segs part) (all_bytes k n is)) || in_use c (drop m is)) _ _ (refuses k d 5)
    (either_clears k d (nat_lt k.most (k.count + (m - length is)) || nat_lt (length is + length (left_in_run k n h)) m) _ (grants 0 (run_changes k n h is (sizes_of segs part)))
    (refuses k d 8) (record { same = ap (without d) (gone_or_dropped k n h is (sizes_of segs part)) }))))) (refuses k d 5)

pub resize_clears : (k : Known) (n segs part s : ℕ) (c d : Cpu)
    → let cs = (huge_reallocation k n segs part s c).changes in without d (gone_indexes k cs) ≡ without d (dropped_indexes cs)
resize_clears k n segs part s c d = (held_clears k n segs part (s / 8) c d (held_under k n s)).same

each_dropped : (P : ℕ → Type 0) (m : ℕ) (is : List ℕ) → Each P is → Each P (drop m is)
each_dropped P zero is h = h
each_dropped P (suc m) [] h = tt
each_dropped P (suc m) (i ∷ is) h = each_dropped P m is h.1

apart_dropped : (m : ℕ) (is : List ℕ) → AreApart is → AreApart (drop m is)
apart_dropped zero is h = h
apart_dropped (suc m) [] h = tt
apart_dropped (suc m) (i ∷ is) h = apart_dropped m is h.1

-- who holds the run too

share_holds : (b : Before) (first m : ℕ) (o : Option Held) → b.known.held m first ≡ o → AreHolders b (share_of first m o)
share_holds b first m None e = tt
share_holds b first m (Some h) e = go (is_first first h)
  where
    go : (t : Bool) → AreHolders b (if t then (m, h.holds) ∷ [] else [])
    go true = (Sharer first h e refl, tt)
    go false = tt

holders_append : (b : Before) (xs ys : List (ℕ × ℕ)) → AreHolders b xs → AreHolders b ys → AreHolders b (xs ++ ys)
holders_append b [] ys h k = k
holders_append b (x ∷ xs) ys h k = (h.0, holders_append b xs ys h.1 k)

all_share : (b : Before) (first : ℕ) (ms : List ℕ) → AreHolders b (flat_map (λ (m : ℕ). if m == b.number then [] else share_of first m (b.known.held m first)) ms)
all_share b first [] = tt
all_share b first (m ∷ ms) =
    holders_append b (if m == b.number then [] else share_of first m (b.known.held m first)) (flat_map (λ (m : ℕ). if m == b.number then [] else share_of first m (b.known.held m first)) ms)
    (one (m == b.number)) (all_share b first ms)
  where
    one : (t : Bool) → AreHolders b (if t then [] else share_of first m (b.known.held m first))
    one true = tt
    one false = share_holds b first m (b.known.held m first) refl

others_share : (b : Before) (first : ℕ) → AreHolders b (other_shares b.known b.number first)
others_share b first = go (nat_le shared_from first)
  where
    go : (t : Bool) → AreHolders b (if t then flat_map (λ (m : ℕ). if m == b.number then [] else share_of first m (b.known.held m first)) (indexes 1 b.known.processes) else [])
    go true = all_share b first (indexes 1 b.known.processes)
    go false = tt

module _ (b : Before) (segs part s : ℕ) (c : Cpu) (same : SameSelectors c b.cpu) where
  abbrev known : Known
  known = b.known

  -- the registers behind it, by its ruling
  abbrev behind : Ruling → Cpu
  behind r = without c (gone_indexes b.known r.changes)

  abbrev done : Held → List ℕ → Ruling
  done h is = record { error = 0; value = 0; changes = run_changes known b.number h is (sizes_of segs part) }

  sized_is : (h : Held) (is : List ℕ) → known.held b.number h.first ≡ Some h
      → AreApart is → Each (λ (i : ℕ). is_some (known.held b.number i) ≡ true) is → in_use b.cpu (drop (segments_of segs part) is) ≡ false
      → RunMoves b (behind (done h is)) (done h is).changes
  sized_is h is there apart held unused =
      RunSized h.first h.reserved (flags_in (known.segment h.name)) h.holds (other_shares known b.number h.first) is zs (left_in_run known b.number h) (drop (length is) zs) gone
      (record {
        holders = (Sharer h.first h there refl, others_share b h.first);
        apart = apart_kept (is_unheld known b.number) (indexes h.first h.reserved) (indexes_apart h.first h.reserved);
        free = above (λ (i : ℕ). is_unheld known b.number i ≡ true) (IsOpen b) (λ i e. inr e) (left_in_run known b.number h) (kept_are (is_unheld known b.number) (indexes h.first h.reserved));
      })
      (record {
        apart = apart_dropped (length zs) is apart;
        held = gone_held;
        unused = ap (λ (m : ℕ). in_use b.cpu (drop m is)) (sizes_length segs part) ∙ unused;
        cs = same.cs;
        ss = same.ss;
        ds = ap (λ (js : List ℕ). if names_one c.ds js then 0 else c.ds) dropped_are ∙ ap (λ (x : ℕ). if names_one x gone then 0 else x) same.ds;
        es = ap (λ (js : List ℕ). if names_one c.es js then 0 else c.es) dropped_are ∙ ap (λ (x : ℕ). if names_one x gone then 0 else x) same.es;
      }) refl
    where
      zs : List ℕ
      zs = sizes_of segs part

      gone : List ℕ
      gone = drop (length (sizes_of segs part)) is

      gone_held : Each (λ (i : ℕ). is_some (known.held b.number i) ≡ true) (drop (length (sizes_of segs part)) is)
      gone_held = each_dropped (λ (i : ℕ). is_some (known.held b.number i) ≡ true) (length (sizes_of segs part)) is held

      dropped_are : gone_indexes known (run_changes known b.number h is (sizes_of segs part)) ≡ drop (length (sizes_of segs part)) is
      dropped_are = members_alone (gone_indexes known) (gone_skips known) known b.number h is zs ∙ gone_are known b.number gone gone_held

  run_moves : (i : ℕ) (h : Held) → known.held b.number i ≡ Some h → is_first i h ≡ true → (is : List ℕ) → AreApart is → Each (λ (j : ℕ). is_some (known.held b.number j) ≡ true) is
      → let r = run_resized known b.number segs part b.cpu h is in RunMoves b (behind r) r.changes
  run_moves i h there first is apart held =
      go (segments_of segs part == 0) (nat_lt h.reserved (segments_of segs part)) ((nat_le shared_from h.first && nat_lt (bytes_of segs part) (all_bytes known b.number is)) || in_use b.cpu (drop (segments_of segs part) is)) refl
      (nat_lt known.most (known.count + (segments_of segs part - length is)) || nat_lt (length is + length (left_in_run known b.number h)) (segments_of segs part))
    where
      at_first : known.held b.number h.first ≡ Some h
      at_first = ap (known.held b.number) (same_number h.first i (second (is_in_run h) (h.first == i) first)) ∙ there
        where
          same_number : (n m : ℕ) → (n == m) ≡ true → n ≡ m
          same_number n m e = grind arith

          second : (x y : Bool) → (x && y) ≡ true → y ≡ true
          second true y e = e
          second false y e = absurd (cc)

      go : (a c d : Bool) → ((nat_le shared_from h.first && nat_lt (bytes_of segs part) (all_bytes known b.number is)) || in_use b.cpu (drop (segments_of segs part) is)) ≡ d → (f : Bool)
          → let r : Ruling = if a then record { error = 87; value = 0; changes = [] }
          else (if c then record { error = 8; value = 0; changes = [] }
          else (if d then record { error = 5; value = 0; changes = [] }
          else (if f then record { error = 8; value = 0; changes = [] } else done h is))) in
          RunMoves b (behind r) r.changes
      go true c d e f = NoRun refl
      go false true d e f = NoRun refl
      go false false true e f = NoRun refl
      go false false false e true = NoRun refl
      go false false false e false =
          sized_is h is at_first apart held
          (either_false (nat_le shared_from h.first && nat_lt (bytes_of segs part) (all_bytes known b.number is)) (in_use b.cpu (drop (segments_of segs part) is)) e).1

  held_moves : (o : Option Held) → held_under known b.number s ≡ o
      → let r = huge_reallocation_of known b.number (s / 8) segs part b.cpu o in RunMoves b (behind r) r.changes
  held_moves None e = NoRun refl
  held_moves (Some h) e = go (is_first (s / 8) h) refl
    where
      there : known.held b.number (s / 8) ≡ Some h
      there = held_there known b.number s h e

      go : (t : Bool) → is_first (s / 8) h ≡ t
          → let r : Ruling = if t then run_resized known b.number segs part b.cpu h (members known b.number (s / 8) h) else record { error = 5; value = 0; changes = [] } in
          RunMoves b (behind r) r.changes
      go true first = run_moves (s / 8) h there first (members known b.number (s / 8) h) (members_apart known b.number (s / 8) h) (members_held known b.number (s / 8) h there)
      go false first = NoRun refl

  pub reallocated_moves : (let r = huge_reallocation known b.number segs part s b.cpu in RunMoves b (behind r) r.changes)
  reallocated_moves = held_moves (held_under known b.number s) refl

-- What each ruling on a run changes, by the words of its call.

pub huge_allocation_is : RuledMoves huge_allocation_by
huge_allocation_is = record { moves = λ b a c same. OneRun (huge_moves b _ (a 5) (a 4) (a 0) (a 1)) (OfAllocation (a 5) (a 4) (a 1) (a 0) refl) }

pub huge_reallocation_is : RuledMoves huge_reallocation_by
huge_reallocation_is = record { moves = λ b a c same. OneRun (reallocated_moves b (a 2) (a 1) (a 0) c same) (OfReallocation (a 2) (a 1) (a 0) refl) }
