-- What is noted of DosGetSeg.
use Rattle.std.proofs.Common.{◌≡◌, inl, inr, ℕ, zero, suc, ◌+◌, ◌-◌, ◌/◌, ◌<◌, ◌≤◌, ◌==◌, ◌&&◌, ◌||◌, nat_le, nat_lt, not, Bool, true, false, cond, List, [], ◌∷◌, ◌++◌}
use Rattle.std.proofs.Common.{Option, Some, None, is_some, IsSome, option_map, refl, sym, ap, ◌∙◌, subst, arith}
use Rattle.o2_isa.specs.View.{is_local}
use Rattle.o2_regions.specs.declared.held.Held.{Held as HeldThere}
use Rattle.o2_regions.specs.Maps.{Maps, end_of, held_at, region_of}
use Rattle.o2_world.specs.Changes.{Holds, more, with_change, with_changes}
use Rattle.o2_world.specs.Holders.{process_at}
use Rattle.o2_world.specs.HugeRulings.{is_first}
use Rattle.o2_world.specs.Known.{Known, held_at as world_held}
use Rattle.o2_world.specs.Rulings.{Ruling, grants, indexes, members, refusal}
use Rattle.o2_world.specs.SharedRulings.{each_more, getting, getting_at, getting_from, holder, is_shared_with, lacks_flag, marks_by_call, one_more}
use Rattle.o2_world.specs.World.{ByCall, Held, Process, World}
use Rattle.o2_gate.specs.declared.moves.Block.{Block}
use Rattle.o2_stands.specs.Knows.{Others, known_in}
use Rattle.o2_stands.specs.Parts.{Parts, held_in, held_of}
use Rattle.o2_stands.specs.Runs.{AreRuns, Covers, IsMember}
use Rattle.o2_stands.proofs.Puts.{held_put, put_at, there_put, with_map}
use Rattle.o2_segs.specs.Members.{is_later_in}
use Rattle.o2_segs.proofs.Members.{members_are}
use Rattle.o2_huge.specs.Growth.{is_of_run}
use Rattle.o2_huge.specs.Resized.{is_member, is_member_in}
use Rattle.o2_calls.specs.Noted.{AreTold, came, counted_there, counted_under, members_from}
use Rattle.o2_calls.proofs.Fronts.{counted_are, counted_held, counted_some, different, is_of, member_there, none_above, of_run, same_end}
use Rattle.o2_calls.proofs.NotedRuns.{first_of_two, more_told, some_in}
use Rattle.o2_calls.proofs.NotedLines.{Tells, five, refused}

-- What a process holds once it has got one hold of each of so many indexes in a row.

abbrev got : Option Held → Option Held → Option Held
got None o = o
got (Some h) o = more (record h { holds = 1; cause = ByCall }) o

each_held : (k : Known) (from to c : ℕ) (v : World) (x : Process) → process_at v.processes to ≡ Some x → (a j : ℕ)
    → world_held (with_changes v (each_more k from to (indexes a c))).processes to j
    ≡ cond (nat_le a j && nat_lt j (a + c)) (got (k.held from j) (world_held v.processes to j)) (world_held v.processes to j)
unfolding with_changes
each_held k from to zero v x at a j = sym (ap (λ (b : Bool). cond b (got (k.held from j) (world_held v.processes to j)) (world_held v.processes to j)) (empty a j))
  where
    empty : (a j : ℕ) → (nat_le a j && nat_lt j (a + 0)) ≡ false
    empty a j = grind arith
each_held k from to (suc c) v x at a j = one (k.held from a) refl (each_held k from to c)
  where
    test : ℕ → ℕ → Bool
    test b n = nat_le b j && nat_lt j (b + n)

    passed : (i b n : ℕ) → (i == b) ≡ true → (nat_le (b + 1) i && nat_lt i (b + 1 + n)) ≡ false
    passed i b n e = grind arith

    first_in : (i b n : ℕ) → (i == b) ≡ true → (nat_le b i && nat_lt i (b + suc n)) ≡ true
    first_in i b n e = grind arith

    same_test : (i b n : ℕ) → (i == b) ≡ false → (nat_le (b + 1) i && nat_lt i (b + 1 + n)) ≡ (nat_le b i && nat_lt i (b + suc n))
    same_test i b n e = grind arith

    number : (i b : ℕ) → (i == b) ≡ true → i ≡ b
    number i b e = grind arith

    itself : (i : ℕ) → (i == i) ≡ true
    itself i = grind arith

    one : (o : Option Held) → k.held from a ≡ o
        → ((u : World) (y : Process) → process_at u.processes to ≡ Some y → (b i : ℕ)
        → world_held (with_changes u (each_more k from to (indexes b c))).processes to i
        ≡ cond (nat_le b i && nat_lt i (b + c)) (got (k.held from i) (world_held u.processes to i)) (world_held u.processes to i))
        → world_held (with_changes v (one_more to a o ++ each_more k from to (indexes (a + 1) c))).processes to j
        ≡ cond (test a (suc c)) (got (k.held from j) (world_held v.processes to j)) (world_held v.processes to j)
    one None is rest = rest v x at (a + 1) j ∙ go (j == a) refl
      where
        go : (b : Bool) → (j == a) ≡ b → cond (test (a + 1) c) (got (k.held from j) (world_held v.processes to j)) (world_held v.processes to j)
            ≡ cond (test a (suc c)) (got (k.held from j) (world_held v.processes to j)) (world_held v.processes to j)
        go true e =
            let here : k.held from j ≡ None = ap (k.held from) (number j a e) ∙ is in
            rw (passed j a c e, first_in j a c e, here) refl
        go false e = rw (same_test j a c e) refl
    one (Some h) is rest = rest u y there (a + 1) j ∙ go (j == a) refl
      where
        more_held : Held
        more_held = record h { holds = 1; cause = ByCall }

        u : World
        u = with_change v (Holds to a more_held)

        y : Process
        y = with_map (put_at a (more more_held)) x

        there : process_at u.processes to ≡ Some y
        there = there_put v.processes to (put_at a (more more_held)) x at

        put : world_held u.processes to j ≡ cond ((to == to) && (j == a)) (more more_held (world_held v.processes to a)) (world_held v.processes to j)
        put = held_put v.processes to to a j (more more_held) x at

        go : (b : Bool) → (j == a) ≡ b → cond (test (a + 1) c) (got (k.held from j) (world_held u.processes to j)) (world_held u.processes to j)
            ≡ cond (test a (suc c)) (got (k.held from j) (world_held v.processes to j)) (world_held v.processes to j)
        go true e =
            let same = number j a e in
            let here : k.held from j ≡ Some h = ap (k.held from) same ∙ is in
            let now : world_held u.processes to j ≡ more more_held (world_held v.processes to a) = put ∙ rw (itself to, e) refl in
            let was : world_held v.processes to j ≡ world_held v.processes to a = ap (world_held v.processes to) same in
            rw (passed j a c e, first_in j a c e, here, now, was) refl
        go false e =
            let now : world_held u.processes to j ≡ world_held v.processes to j = put ∙ rw (itself to, e) refl in
            rw (same_test j a c e, now) refl

-- the first of a run, as a world has it
abbrev pub world_member : (first : ℕ) → Option Held → Bool
world_member first None = false
world_member first (Some h) = is_first first h

pub seen_member : (n : Maps) (pid first j : ℕ) → is_member first (held_at n pid j) ≡ world_member first (held_in n pid j)
unfolding held_in
seen_member n pid first j = go (held_at n pid j)
  where
    go : (x : Option HeldThere) → is_member first x ≡ world_member first (option_map (held_of n pid j) x)
    go None = refl
    go (Some h) = refl

-- as many are counted where the same indexes are those of members
members_same : (m n : Maps) (a b first j c : ℕ) → ((i : ℕ) → j ≤ i → is_member_in n b first i ≡ is_member_in m a first i) → members_from n b first j c ≡ members_from m a first j c
members_same m n a b first j zero same = refl
members_same m n a b first j (suc c) same =
    ap (λ (t : Bool). cond t (suc (members_from n b first (j + 1) c)) 0) (same j (omega arith))
    ∙ ap (λ (r : ℕ). cond (is_member_in m a first j) (suc r) 0) (members_same m n a b first (j + 1) c (λ i low. same i (omega (arith, low))))

-- DosGetSeg.
module _ (cause : List ℕ) (p : Parts) (o : Others) (pid : ℕ) (runs : AreRuns p.maps) (n : Maps) (w : World) (x : Process) (at : process_at w.processes pid ≡ Some x)
    (before : (q i : ℕ) → world_held w.processes q i ≡ held_in p.maps q i) where
  abbrev k : Known
  k = known_in p o

  abbrev m : Maps
  m = p.maps

  -- what the process holds behind a ruling
  abbrev pub IsBehind : Ruling → Type 0
  IsBehind r = (j : ℕ) → world_held (with_changes w r.changes).processes pid j ≡ held_in n pid j

  -- two processes hold an index in one run, or neither holds it in a run that begins there
  one_run : (first a b j : ℕ) (y z : HeldThere) → 4096 ≤ j → held_at m a j ≡ Some y → held_at m b j ≡ Some z → is_of_run first y ≡ true → is_of_run first z ≡ true
  one_run first a b j y z low at_a at_b of =
      let q = of_run first y of in
      let one : IsMember m a j y = record { there = at_a; run = q.run } in
      let same = runs.whole a j y one b j z at_b (runs.inside a j y one) (inr low) in
      is_of first z (λ e. q.run (sym same.1 ∙ e)) (same.0 ∙ q.begins)

  module _ (from i : ℕ) (h : HeldThere) (there : held_at m from i ≡ Some h) (shared : 4096 ≤ i) where
    abbrev number : ℕ
    number = (counted_there m from i (Some h)).members

    -- where one hold more came
    got_member : (j : ℕ) → 4096 ≤ j → (y : Option HeldThere) → held_at m from j ≡ y → is_some y ≡ true
        → world_member i (got (option_map (held_of m from j) y) (held_in m pid j)) ≡ is_member i y
    unfolding held_in
    got_member j low None e some = absurd (different some)
    got_member j low (Some y) e some = go (held_at m pid j) refl
      where
        both : (b c : Bool) → (b ≡ true → c ≡ true) → (c ≡ true → b ≡ true) → c ≡ b
        both true c f g = f refl
        both false true f g = absurd (different (g refl))
        both false false f g = refl

        go : (z : Option HeldThere) → held_at m pid j ≡ z → world_member i (got (Some (held_of m from j y)) (option_map (held_of m pid j) z)) ≡ is_of_run i y
        go None f = refl
        go (Some z) f = both (is_of_run i y) (is_of_run i z) (one_run i from pid j y z low e f) (one_run i pid from j z y low f e)

    after : (j : ℕ) → ((j : ℕ) → world_held (with_changes w (each_more k from pid (indexes i number))).processes pid j ≡ held_in n pid j)
        → held_in n pid j ≡ cond (nat_le i j && nat_lt j (i + number)) (got (held_in m from j) (held_in m pid j)) (held_in m pid j)
    after j behind =
        sym (behind j)
        ∙ (each_held k from pid number w x at i j
        ∙ ap (λ (y : Option Held). cond (nat_le i j && nat_lt j (i + number)) (got (held_in m from j) y) y) (before pid j))

    in_row : (a j c : ℕ) → a ≤ j → j < a + c → (nat_le a j && nat_lt j (a + c)) ≡ true
    in_row a j c low high = grind arith

    not_in_row : (a j c : ℕ) → a + c ≤ j → (nat_le a j && nat_lt j (a + c)) ≡ false
    not_in_row a j c high = grind arith

    got_in : (j : ℕ) → 4096 ≤ j → is_some (held_at m from j) ≡ true → world_member i (got (held_in m from j) (held_in m pid j)) ≡ is_member_in m from i j
    unfolding held_in
    got_in j low some = got_member j low (held_at m from j) refl some

    member_here : ((j : ℕ) → world_held (with_changes w (each_more k from pid (indexes i number))).processes pid j ≡ held_in n pid j)
        → (j : ℕ) → i ≤ j → j < i + number → is_member_in n pid i j ≡ is_member_in m from i j
    member_here behind j low high =
        seen_member n pid i j
        ∙ (ap (world_member i) (after j behind)
        ∙ (ap (λ (b : Bool). world_member i (cond b (got (held_in m from j) (held_in m pid j)) (held_in m pid j))) (in_row i j number low high)
        ∙ got_in j (omega (arith, shared, low)) (counted_held m from i h runs there j low high)))

    some_got : (a b : Option Held) → is_some a ≡ true → is_some (got a b) ≡ true
    some_got None b e = absurd (different e)
    some_got (Some y) None e = refl
    some_got (Some y) (Some z) e = refl

    some_now : ((j : ℕ) → world_held (with_changes w (each_more k from pid (indexes i number))).processes pid j ≡ held_in n pid j) → is_some (held_at n pid i) ≡ true
    some_now behind =
        sym (some_in n pid i)
        ∙ (ap is_some (after i behind)
        ∙ (ap (λ (b : Bool). is_some (cond b (got (held_in m from i) (held_in m pid i)) (held_in m pid i))) (in_row i i number (omega arith) (let some = counted_some m from i h there in omega (arith, some)))
        ∙ some_got (held_in m from i) (held_in m pid i) (some_in m from i ∙ ap is_some there)))

    -- behind the last one
    none_behind : is_of_run i h ≡ true → (j : ℕ) → i + number ≤ j → (b : Bool) → is_member_in m pid i j ≡ b → b ≡ true → ⊥
    none_behind of j high b is member =
        let q = of_run i h of in
        let t = member_there i (held_at m pid j) (is ∙ member) in
        let y : HeldThere = t.0 in
        let r = of_run i y t.1.1 in
        let one : IsMember m pid j y = record { there = t.1.0; run = r.run } in
        let first : IsMember m from i h = record { there = there; run = q.run } in
        let inside = runs.inside pid j y one in
        let start : Covers y i = (subst (λ (z : ℕ). z ≤ i) (sym r.begins) (omega arith), subst (λ (z : ℕ). i < z + y.reserved) (sym r.begins) (positive y.reserved r.run)) in
        let same = runs.whole pid j y one from i h there start (inr shared) in
        let held = runs.all pid j y one from i h first (inr (omega (arith, high, shared))) same in
        let below : j < i + h.reserved = subst (λ (z : ℕ). j < z + h.reserved) r.begins (subst (λ (z : ℕ). j < y.first + z) (sym same.1) inside.1) in
        let many : number ≡ members_from m from i i (end_of (region_of from i) - i) = ap (λ (t : Bool). cond t (members_from m from i i (end_of (region_of from i) - i)) 1) of in
        nothing (held_at m from j) held (none_above m runs from i h there of j (subst (λ (z : ℕ). i + z ≤ j) many high) below)
      where
        positive : (r : ℕ) → (r ≡ 0 → ⊥) → i < i + r
        positive r some = omega (arith, some)

        nothing : (z : Option HeldThere) → IsSome z → z ≡ None → ⊥
        nothing None some e = absurd (different some)
        nothing (Some z) some e = absurd (cc)

    -- the caller then holds as many
    count_same : ((j : ℕ) → world_held (with_changes w (each_more k from pid (indexes i number))).processes pid j ≡ held_in n pid j)
        → (counted_there n pid i (held_at n pid i)).members ≡ number
    count_same behind = go (held_at n pid i) refl (some_now behind) (is_of_run i h) refl
      where
        here : is_member_in n pid i i ≡ is_of_run i h
        here = member_here behind i (omega arith) (let some = counted_some m from i h there in omega (arith, some)) ∙ ap (is_member i) there

        go : (y : Option HeldThere) → held_at n pid i ≡ y → is_some y ≡ true → (b : Bool) → is_of_run i h ≡ b → (counted_there n pid i y).members ≡ number
        go None e some b is = absurd (different some)
        go (Some y) e some false is =
            let alone : is_of_run i y ≡ false = sym (ap (is_member i) e) ∙ (here ∙ is) in
            ap (λ (t : Bool). cond t (members_from n pid i i (end_of (region_of pid i) - i)) 1) alone
            ∙ sym (ap (λ (t : Bool). cond t (members_from m from i i (end_of (region_of from i) - i)) 1) is)
        go (Some y) e some true is =
            let run : is_of_run i y ≡ true = sym (ap (is_member i) e) ∙ (here ∙ is) in
            ap (λ (t : Bool). cond t (members_from n pid i i (end_of (region_of pid i) - i)) 1) run
            ∙ (members_same m n from pid i i (end_of (region_of pid i) - i) same
            ∙ (ap (λ (end : ℕ). members_from m from i i (end - i)) (same_end pid from i)
            ∙ sym (ap (λ (t : Bool). cond t (members_from m from i i (end_of (region_of from i) - i)) 1) is)))
          where
            less : (a b : ℕ) → nat_lt a b ≡ true → a < b
            less a b e = grind arith

            most : (a b : ℕ) → nat_lt a b ≡ false → b ≤ a
            most a b e = grind arith

            many : number ≡ members_from m from i i (end_of (region_of from i) - i)
            many = ap (λ (t : Bool). cond t (members_from m from i i (end_of (region_of from i) - i)) 1) is

            both_not : (j : ℕ) → i + number ≤ j → (b : Bool) → is_member_in m pid i j ≡ b → (c : Bool) → is_member_in m from i j ≡ c → b ≡ c
            both_not j high true f c g = absurd (none_behind is j high true f refl)
            both_not j high false f false g = refl
            both_not j high false f true g =
                let t = member_there i (held_at m from j) g in
                let r = of_run i t.0 t.1.1 in
                let one : IsMember m from j t.0 = record { there = t.1.0; run = r.run } in
                let inside = runs.inside from j t.0 one in
                let start : Covers t.0 i = (subst (λ (z : ℕ). z ≤ i) (sym r.begins) (omega arith), subst (λ (z : ℕ). i < z + t.0.reserved) (sym r.begins) (positive t.0.reserved r.run)) in
                let one_and_same = runs.whole from j t.0 one from i h there start (inl refl) in
                let below : j < i + h.reserved = subst (λ (z : ℕ). j < z + h.reserved) r.begins (subst (λ (z : ℕ). j < t.0.first + z) (sym one_and_same.1) inside.1) in
                let none = none_above m runs from i h there is j (subst (λ (z : ℕ). i + z ≤ j) many high) below in
                absurd (let z : Some t.0 ≡ None = sym t.1.0 ∙ none in cc)
              where
                positive : (r : ℕ) → (r ≡ 0 → ⊥) → i < i + r
                positive r some = omega (arith, some)

            same : (j : ℕ) → i ≤ j → is_member_in n pid i j ≡ is_member_in m from i j
            same j low = split (nat_lt j (i + number)) refl
              where
                split : (b : Bool) → nat_lt j (i + number) ≡ b → is_member_in n pid i j ≡ is_member_in m from i j
                split true f = member_here behind j low (less j (i + number) f)
                split false f =
                    let high = most j (i + number) f in
                    seen_member n pid i j
                    ∙ (ap (world_member i) (after j behind)
                    ∙ (ap (λ (b : Bool). world_member i (cond b (got (held_in m from j) (held_in m pid j)) (held_in m pid j))) (not_in_row i j number high)
                    ∙ (sym (seen_member m pid i j) ∙ both_not j high (is_member_in m pid i j) refl (is_member_in m from i j) refl)))

  abbrev gets : ℕ → ℕ → List Block
  gets s v = came pid (s / 8) (counted_under n pid s).members 1 ∷ []

  -- what lacks no flag is shared
  all_shared : (from i c : ℕ) → 0 < c → lacks_flag k 1 from (indexes i c) ≡ false → 4096 ≤ i
  all_shared from i zero some e = absurd (omega (arith, some))
  all_shared from i (suc c) some e = go (nat_le 4096 i) refl (first_of_two _ _ e).0
    where
      le_of : (a b : ℕ) → nat_le a b ≡ true → a ≤ b
      le_of a b e = grind arith

      go : (b : Bool) → nat_le 4096 i ≡ b → not (b && is_shared_with 1 (marks_by_call k (k.held from i))) ≡ false → 4096 ≤ i
      go true is f = le_of 4096 i is
      go false is f = absurd (different (sym f))

  pub get_told : (s : ℕ) → IsBehind (getting k pid s) → Tells cause (gets s) (getting k pid s)
  unfolding held_in
  get_told s = local (is_local s) refl
    where
      i : ℕ
      i = s / 8

      local : (b : Bool) → is_local s ≡ b → IsBehind (cond b (getting_at k pid i (holder k i)) (refusal 5)) → Tells cause (gets s) (cond b (getting_at k pid i (holder k i)) (refusal 5))
      local false l behind = refused cause (gets s) 5 five
      local true l behind = anyone (holder k i) behind
        where
          done : (from : ℕ) (h : HeldThere) → held_at m from i ≡ Some h → is_later_in i h ≡ false → lacks_flag k 1 from (members k from i (held_of m from i h)) ≡ false
              → IsBehind (grants 0 (each_more k from pid (members k from i (held_of m from i h))))
              → AreTold cause (gets s 0) (each_more k from pid (members k from i (held_of m from i h)))
          done from h there first flags behind =
              let are = members_are p o from i i h ∙ counted_are m from i h runs there first in
              let shared = all_shared from i (counted_there m from i (Some h)).members (counted_some m from i h there) (subst (λ (is : List ℕ). lacks_flag k 1 from is ≡ false) are flags) in
              let count = count_same from i h there shared (subst (λ (is : List ℕ). IsBehind (grants 0 (each_more k from pid is))) are behind) in
              let now : (counted_under n pid s).members ≡ (counted_there n pid i (held_at n pid i)).members = ap (λ (b : Bool). (counted_there n pid i (cond b (held_at n pid i) None)).members) l in
              subst (λ (c : ℕ). AreTold cause (came pid i c 1 ∷ []) (each_more k from pid (members k from i (held_of m from i h)))) (sym (now ∙ count))
              (more_told cause p o pid runs from pid i h there first)

          there : (from : ℕ) (y : Option HeldThere) → held_at m from i ≡ y
              → IsBehind (getting_from k pid i from (option_map (held_of m from i) y)) → Tells cause (gets s) (getting_from k pid i from (option_map (held_of m from i) y))
          there from None e behind = refused cause (gets s) 5 five
          there from (Some h) e behind = go (is_later_in i h || lacks_flag k 1 from (members k from i (held_of m from i h))) refl behind
            where
              go : (b : Bool) → (is_later_in i h || lacks_flag k 1 from (members k from i (held_of m from i h))) ≡ b
                  → IsBehind (cond b (refusal 5) (grants 0 (each_more k from pid (members k from i (held_of m from i h)))))
                  → Tells cause (gets s) (cond b (refusal 5) (grants 0 (each_more k from pid (members k from i (held_of m from i h)))))
              go true f b = refused cause (gets s) 5 five
              go false f b =
                  let parts = first_of_two (is_later_in i h) _ f in
                  record { told = λ none. done from h e parts.0 parts.1 b }

          looked : (from : ℕ) → IsBehind (getting_from k pid i from (held_in m from i)) → Tells cause (gets s) (getting_from k pid i from (held_in m from i))
          looked from behind = there from (held_at m from i) refl behind

          anyone : (y : Option ℕ) → IsBehind (getting_at k pid i y) → Tells cause (gets s) (getting_at k pid i y)
          anyone None behind = refused cause (gets s) 5 five
          anyone (Some from) behind = looked from behind
