-- What keeps runs, by look-ups of what processes hold.
use Rattle.std.proofs.Common.{◌≡◌, ◌⊎◌, inl, inr, ℕ, ◌+◌, ◌-◌, ◌<◌, ◌≤◌, ◌==◌, ◌&&◌, ◌||◌, nat_lt, option_map, not, length, Bool, true, false, Option, Some, None, is_some, IsSome, refl, sym, ap, ◌∙◌, subst, arith, if◌then◌else◌}
use Rattle.std.proofs.lemmas.Bool.{cases_lt, false≢true}
use Rattle.o2_world.specs.Changes.{fewer, more}
use Rattle.o2_world.specs.Rulings.{is_in_run}
use Rattle.o2_desc.specs.Bits.{has_bit}
use Rattle.o2_world.specs.Map.{Map, get}
use Rattle.o2_world.specs.World.{Held, Segment, ByCall}
use Rattle.o2_world.proofs.FitShares.{share}
use Rattle.o2_stands.specs.Runs.{AreInOne, HasFullMembers, HasRunFlags, HasRuns, HasStretches, IsInStretch, IsMemberOf, IsOneFor, IsSoOften, is_full, may_be_member, region_end}

abbrev LookUp : Type 0
LookUp = ℕ → ℕ → Option Held

none_some : (h : Held) → ◌≡◌ {A = Option Held} None (Some h) → ⊥
none_some h e = cc

some_is : (h k : Held) (o : Option Held) → o ≡ Some h → o ≡ Some k → h ≡ k
some_is h k o e f = cc

-- Numbers.

pub low_end : (f i r : ℕ) → f ≤ i → i < 4096 → r ≤ region_end f → r ≤ 4096
low_end f i r a b c = go (nat_lt f 4096) refl c
  where
    below : (f : ℕ) → nat_lt f 4096 ≡ false → 4096 ≤ f
    below f e = grind arith

    go : (t : Bool) → nat_lt f 4096 ≡ t → r ≤ (if t then 4096 else 8192) → r ≤ 4096
    go true e c = c
    go false e c = (let x = below f e in absurd (omega (arith, x, a, b)))

-- Where each hold came of one.

-- a hold came of one under the same index, by a process for which the index is the same
pub record IsFrom (held : ℕ → ℕ → Option Held) (q j : ℕ) (h : Held) : Type 0 where
  pub process : ℕ
  pub old : Held
  pub there : held process j ≡ Some old
  pub one : (process ≡ q) ⊎ (4096 ≤ j)
  pub name : h.name ≡ old.name
  pub first : h.first ≡ old.first
  pub reserved : h.reserved ≡ old.reserved
  pub called : old.cause ≡ ByCall → h.cause ≡ ByCall

pub in_run_as : (h k : Held) → h.reserved ≡ k.reserved → is_in_run h ≡ true → is_in_run k ≡ true
in_run_as h k same run = ap (λ (c : ℕ). not (c == 0)) (sym same) ∙ run

module _ (held now : ℕ → ℕ → Option Held) (before : HasStretches held) (from : (q j : ℕ) (h : Held) → now q j ≡ Some h → IsFrom held q j h) where
  old_member : (q i : ℕ) (h : Held) → IsMemberOf now q i h → (f : IsFrom held q i h) → IsMemberOf held f.process i f.old
  old_member q i h m f = record { there = f.there; run = in_run_as h f.old f.reserved m.run }

  old_stretch : (q i j : ℕ) (h : Held) (f : IsFrom held q i h) → IsInStretch h j → IsInStretch f.old j
  old_stretch q i j h f s = (let a = f.first in let b = f.reserved in let c = s.0 in let d = s.1 in (omega (arith, a, c), omega (arith, a, b, d)))

  -- an index of a stretch that isn't shared has members that aren't
  same_low : (q i j : ℕ) (h : Held) → IsMemberOf held q i h → IsInStretch h j → j < 4096 → i < 4096
  same_low q i j h m s low =
      let e = low_end h.first j (h.first + h.reserved) s.0 low (before.end q i h m) in
      let z = (before.inside q i h m).1 in
      omega (arith, e, z)

  own : (a q i : ℕ) → (a ≡ q) ⊎ (4096 ≤ i) → i < 4096 → a ≡ q
  own a q i (inl same) low = same
  own a q i (inr high) low = absurd (omega (arith, high, low))

  -- for those from whom two holds came an index is one where it is for their holders
  one_for : (q i : ℕ) (h : Held) (m : IsMemberOf now q i h) (f : IsFrom held q i h) (other j : ℕ) (k : Held) (g : IsFrom held other j k) (l : ℕ) → IsInStretch f.old l → (l < 4096 → j < 4096)
      → IsOneFor q other l → IsOneFor f.process g.process l
  one_for q i h m f other j k g l s near one = elim (cases_lt l 4096) [
    | inr high ↦ inr high
    | inl low ↦ inl (own g.process other j g.one (near low) ∙ (own other q l one low ∙ sym (own f.process q i f.one (same_low f.process i l f.old (old_member q i h m f) s low))))
  ]

  -- an index is one for two holders where it is for those from whom their holds came
  one_back : (q other a b i : ℕ) → (a ≡ q) ⊎ (4096 ≤ i) → (b ≡ other) ⊎ (4096 ≤ i) → IsOneFor a b i → IsOneFor q other i
  one_back q other a b i (inr high) g one = inr high
  one_back q other a b i (inl f) (inr high) one = inr high
  one_back q other a b i (inl f) (inl g) (inr high) = inr high
  one_back q other a b i (inl f) (inl g) (inl same) = inl (sym g ∙ (same ∙ f))

  as_one : (q i : ℕ) (h : Held) (f : IsFrom held q i h) (other j : ℕ) (k : Held) (g : IsFrom held other j k) → AreInOne f.old g.old → AreInOne h k
  as_one q i h f other j k g same = (g.first ∙ same.0 ∙ sym f.first, g.reserved ∙ same.1 ∙ sym f.reserved)

  pub stretches_kept : HasStretches now
  stretches_kept = record {
    inside = λ q i h m. let f = from q i h m.there in let s = before.inside f.process i f.old (old_member q i h m f) in let a = f.first in let b = f.reserved in let c = s.0 in let d = s.1 in
        (omega (arith, a, c), omega (arith, a, b, d));
    first = λ q i h m. let f = from q i h m.there in let s = before.first f.process i f.old (old_member q i h m f) in let a = f.first in omega (arith, a, s);
    end = λ q i h m. let f = from q i h m.there in
        subst (λ (x : ℕ). x + h.reserved ≤ region_end x) (sym f.first) (subst (λ (y : ℕ). f.old.first + y ≤ region_end f.old.first) (sym f.reserved) (before.end f.process i f.old (old_member q i h m f)));
    called = λ q i h m. let f = from q i h m.there in f.called (before.called f.process i f.old (old_member q i h m f));
    whole = λ q i h m other j k there s one. let f = from q i h m.there in let g = from other j k there in
        as_one q i h f other j k g (before.whole f.process i f.old (old_member q i h m f) g.process j g.old g.there (old_stretch q i j h f s) (one_for q i h m f other j k g j (old_stretch q i j h f s) (λ low. low) one));
    apart = λ q i h m other j k n l s t one. let f = from q i h m.there in let g = from other j k n.there in
        as_one q i h f other j k g
        (before.apart f.process i f.old (old_member q i h m f) g.process j g.old (old_member other j k n g) l (old_stretch q i l h f s) (old_stretch other j l k g t)
        (one_for q i h m f other j k g l (old_stretch q i l h f s) (λ low. same_low g.process j l g.old (old_member other j k n g) (old_stretch other j l k g t) low) one));
    only = λ q i h m other j k there same. let f = from q i h m.there in let g = from other j k there in
        let x = before.only f.process i f.old (old_member q i h m f) g.process j g.old g.there (sym g.name ∙ same ∙ f.name) in
        (x.0, as_one q i h f other j k g x.1);
    own = λ q i h m other j k there same. let f = from q i h m.there in let g = from other j k there in
        let name = sym g.name ∙ same ∙ f.name in
        let x = before.only f.process i f.old (old_member q i h m f) g.process j g.old g.there name in
        one_back q other f.process g.process i f.one (subst (λ (z : ℕ). (g.process ≡ other) ⊎ (4096 ≤ z)) x.0 g.one) (before.own f.process i f.old (old_member q i h m f) g.process j g.old g.there name);
  }

-- Members of one run of a process are held as often.
module _ (held : ℕ → ℕ → Option Held) (runs : HasRuns held) where
  pub in_one_run : (q i : ℕ) (h : Held) → IsMemberOf held q i h → (j : ℕ) (k : Held) → held q j ≡ Some k → IsInStretch h j → IsMemberOf held q j k
  in_one_run q i h m j k there s = record { there = there; run = in_run_as h k (sym (runs.stretches.whole q i h m q j k there s (inl refl)).1) m.run }

  pub same_often : (q i : ℕ) (h : Held) → IsMemberOf held q i h → (j : ℕ) (k : Held) → held q j ≡ Some k → IsInStretch h j → k.holds ≡ h.holds
  same_often q i h m j k there s = elim (cases_lt i j) [
    | inl later ↦
        (let n = in_one_run q i h m j k there s in
        let one = runs.stretches.whole q i h m q j k there s (inl refl) in
        let low = (runs.stretches.inside q i h m).0 in
        let same = one.0 in
        let o = runs.fronts.front q j k n i (omega (arith, same, low)) (omega (arith, later)) in
        sym (ap (λ (x : Held). x.holds) (some_is h o.hold (held q i) m.there o.there) ∙ o.often))
    | inr before ↦
        (let o = runs.fronts.front q i h m j s.0 before in
        ap (λ (x : Held). x.holds) (some_is k o.hold (held q j) there o.there) ∙ o.often)
  ]

-- All stays.

pub runs_same : (held now : ℕ → ℕ → Option Held) → ((q j : ℕ) → now q j ≡ held q j) → HasRuns held → HasRuns now
runs_same held now same runs = record {
  stretches = stretches_kept held now runs.stretches
      (λ q j h e. record { process = q; old = h; there = sym (same q j) ∙ e; one = inl refl; name = refl; first = refl; reserved = refl; called = λ c. c });
  fronts = record {
    front = λ q i h m j low high. let o = runs.fronts.front q i h (before q i h m) j low high in record { hold = o.hold; there = same q j ∙ o.there; often = o.often };
    all = λ q i h m other j k n one same_run. subst (λ (o : Option Held). IsSome o) (sym (same other i)) (runs.fronts.all q i h (before q i h m) other j k (before other j k n) one same_run);
  };
}
  where
    before : (q i : ℕ) (h : Held) → IsMemberOf now q i h → IsMemberOf held q i h
    before q i h m = record { there = sym (same q i) ∙ m.there; run = m.run }

pub flags_same : (held now : ℕ → ℕ → Option Held) (names : Map Segment) → ((q j : ℕ) → now q j ≡ held q j) → HasRunFlags held names → HasRunFlags now names
flags_same held now names same flags = record { each = λ q i h m. flags.each q i h (record { there = sym (same q i) ∙ m.there; run = m.run }) }

-- nothing is held in a run
pub no_runs : (held : ℕ → ℕ → Option Held) → ((q i : ℕ) (h : Held) → IsMemberOf held q i h → ⊥) → HasRuns held
no_runs held none = record {
  stretches = record {
    inside = λ q i h m. absurd (none q i h m);
    first = λ q i h m. absurd (none q i h m);
    end = λ q i h m. absurd (none q i h m);
    called = λ q i h m. absurd (none q i h m);
    whole = λ q i h m other j k there s one. absurd (none q i h m);
    apart = λ q i h m other j k n l s t one. absurd (none q i h m);
    only = λ q i h m other j k there same. absurd (none q i h m);
    own = λ q i h m other j k there same. absurd (none q i h m);
  };
  fronts = record {
    front = λ q i h m j low high. absurd (none q i h m);
    all = λ q i h m other j k n one same. absurd (none q i h m);
  };
}

pub full_same : (held now : ℕ → ℕ → Option Held) (names : Map Segment) → ((q j : ℕ) → now q j ≡ held q j) → HasFullMembers held names → HasFullMembers now names
full_same held now names same full =
    record { each = λ q i h m s some. full.each q i h (record { there = sym (same q i) ∙ m.there; run = m.run }) s (subst (λ (o : Option Held). IsSome o) (same q (i + 1)) some) }

-- A member that stands before another one came of one that did so.
pub record IsBefore (held : ℕ → ℕ → Option Held) (q j : ℕ) (h : Held) : Type 0 where
  pub process : ℕ
  pub old : Held
  pub member : IsMemberOf held process j old
  pub stretch : IsInStretch old (j + 1)
  pub next : IsSome (held process (j + 1))
  pub name : h.name ≡ old.name

pub full_of : (held : ℕ → ℕ → Option Held) (names : Map Segment) → HasFullMembers held names → (q j : ℕ) (h : Held) → IsBefore held q j h → is_full (get names h.name) ≡ true
full_of held names full q j h b = ap (λ (n : ℕ). is_full (get names n)) b.name ∙ full.each b.process j b.old b.member b.stretch b.next

-- sizes stay where locks or marks change, or bytes for as many
pub full_written : (f : Segment → Segment) (o : Option Segment) {n : Option Segment} → n ≡ option_map f o → ((s : Segment) → o ≡ Some s → length (f s).bytes ≡ length s.bytes) → is_full o ≡ true → is_full n ≡ true
full_written f o {n} is same e = ap is_full is ∙ (mapped o same ∙ e)
  where
    mapped : (o : Option Segment) → ((s : Segment) → o ≡ Some s → length (f s).bytes ≡ length s.bytes) → is_full (option_map f o) ≡ is_full o
    mapped None same = refl
    mapped (Some s) same = ap (λ (x : ℕ). x == 65536) (same s refl)

-- flags stay where bytes, locks or marks change
pub flags_written : (f : Segment → Segment) (i : ℕ) (o : Option Segment) {n : Option Segment} → n ≡ option_map f o → ((s : Segment) → (f s).flags ≡ s.flags) → may_be_member i o ≡ true → may_be_member i n ≡ true
flags_written f i o {n} is same e = ap (may_be_member i) is ∙ (mapped o ∙ e)
  where
    mapped : (o : Option Segment) → may_be_member i (option_map f o) ≡ may_be_member i o
    mapped None = refl
    mapped (Some s) = ap (λ (x : ℕ). not (has_bit x 2) && (nat_lt i 4096 || not (x == 0))) (same s)

-- A process lets go of all.

pub runs_ended : (held now : ℕ → ℕ → Option Held) (p : ℕ) → ((q j : ℕ) → now q j ≡ (if q == p then None else held q j)) → HasRuns held → HasRuns now
runs_ended held now p is runs = record {
  stretches = stretches_kept held now runs.stretches
      (λ q j h e. record { process = q; old = h; there = (was q j h e).1; one = inl refl; name = refl; first = refl; reserved = refl; called = λ c. c });
  fronts = record {
    front = λ q i h m j low high. let o = runs.fronts.front q i h (before q i h m) j low high in record { hold = o.hold; there = still q j (was q i h m.there).0 ∙ o.there; often = o.often };
    all = λ q i h m other j k n one same_run. subst (λ (o : Option Held). IsSome o) (sym (still other i (was other j k n.there).0)) (runs.fronts.all q i h (before q i h m) other j k (before other j k n) one same_run);
  };
}
  where
    was : (q j : ℕ) (h : Held) → now q j ≡ Some h → ((q == p) ≡ false) × (held q j ≡ Some h)
    was q j h e = go (q == p) refl (sym (is q j) ∙ e)
      where
        go : (b : Bool) → (q == p) ≡ b → (if b then None else held q j) ≡ Some h → ((q == p) ≡ false) × (held q j ≡ Some h)
        go true f g = absurd (none_some h g)
        go false f g = (f, g)

    still : (q j : ℕ) → (q == p) ≡ false → now q j ≡ held q j
    still q j other = is q j ∙ ap (λ (b : Bool). if b then None else held q j) other

    before : (q i : ℕ) (h : Held) → IsMemberOf now q i h → IsMemberOf held q i h
    before q i h m = record { there = (was q i h m.there).1; run = m.run }

-- A process holds a segment alone at an index that lies in no stretch, and the segment is no member's.

pub record IsOutside (held : ℕ → ℕ → Option Held) (p i : ℕ) (x : Held) : Type 0 where
  pub alone : is_in_run x ≡ false
  pub far : (q j : ℕ) (h : Held) → IsMemberOf held q j h → IsInStretch h i → IsOneFor q p i → ⊥
  pub new : (q j : ℕ) (h : Held) → IsMemberOf held q j h → x.name ≡ h.name → ⊥

module _ (held now : ℕ → ℕ → Option Held) (p i : ℕ) (x : Held) (none : held p i ≡ None) (here : now p i ≡ Some x) (is : (q j : ℕ) → (now q j ≡ held q j) ⊎ ((q ≡ p) × (j ≡ i)))
    (out : IsOutside held p i x) (runs : HasRuns held) where
  -- what is held was held, or is the new one
  old_or_new : (q j : ℕ) (h : Held) → now q j ≡ Some h → (held q j ≡ Some h) ⊎ ((q ≡ p) × (j ≡ i) × (x ≡ h))
  old_or_new q j h e = elim (is q j) [
    | inl same ↦ inl (sym same ∙ e)
    | inr new ↦ inr (new.0, new.1, some_is x h (now q j) (ap (λ (a : ℕ). now a j) new.0 ∙ (ap (now p) new.1 ∙ here)) e)
  ]

  pub member_was : (q j : ℕ) (h : Held) → IsMemberOf now q j h → IsMemberOf held q j h
  member_was q j h m = elim (old_or_new q j h m.there) [
    | inl old ↦ record { there = old; run = m.run }
    | inr new ↦ absurd (false≢true (sym out.alone ∙ (ap is_in_run new.2 ∙ m.run)))
  ]

  stays : (q j : ℕ) (h : Held) → held q j ≡ Some h → now q j ≡ Some h
  stays q j h e = elim (is q j) [
    | inl same ↦ same ∙ e
    | inr new ↦ absurd (none_some h (sym (ap (λ (a : ℕ). held a j) new.0 ∙ (ap (held p) new.1 ∙ none)) ∙ e))
  ]

  is_there : (q j : ℕ) → IsSome (held q j) → IsSome (now q j)
  is_there q j s = go (held q j) refl s
    where
      go : (o : Option Held) → held q j ≡ o → IsSome o → IsSome (now q j)
      go None e s = absurd (false≢true s)
      go (Some h) e s = ap is_some (stays q j h e)

  pub runs_with_one : HasRuns now
  runs_with_one = record {
    stretches = record {
      inside = λ q j h m. runs.stretches.inside q j h (member_was q j h m);
      first = λ q j h m. runs.stretches.first q j h (member_was q j h m);
      end = λ q j h m. runs.stretches.end q j h (member_was q j h m);
      called = λ q j h m. runs.stretches.called q j h (member_was q j h m);
      whole = λ q j h m other l k there s one. elim (old_or_new other l k there) [
        | inl old ↦ runs.stretches.whole q j h (member_was q j h m) other l k old s one
        | inr new ↦ absurd (out.far q j h (member_was q j h m) (subst (IsInStretch h) new.1 s) (subst (λ (a : ℕ). IsOneFor q a i) new.0 (subst (IsOneFor q other) new.1 one)))
      ];
      apart = λ q j h m other l k n a s t one. runs.stretches.apart q j h (member_was q j h m) other l k (member_was other l k n) a s t one;
      only = λ q j h m other l k there same. elim (old_or_new other l k there) [
        | inl old ↦ runs.stretches.only q j h (member_was q j h m) other l k old same
        | inr new ↦ absurd (out.new q j h (member_was q j h m) (ap (λ (y : Held). y.name) new.2 ∙ same))
      ];
      own = λ q j h m other l k there same. elim (old_or_new other l k there) [
        | inl old ↦ runs.stretches.own q j h (member_was q j h m) other l k old same
        | inr new ↦ absurd (out.new q j h (member_was q j h m) (ap (λ (y : Held). y.name) new.2 ∙ same))
      ];
    };
    fronts = record {
      front = λ q j h m l low high. let o = runs.fronts.front q j h (member_was q j h m) l low high in record { hold = o.hold; there = stays q l o.hold o.there; often = o.often };
      all = λ q j h m other l k n one same_run. is_there other j (runs.fronts.all q j h (member_was q j h m) other l k (member_was other l k n) one same_run);
    };
  }

  pub before_with_one : (q j : ℕ) (h : Held) → IsMemberOf now q j h → IsInStretch h (j + 1) → IsSome (now q (j + 1)) → IsBefore held q j h
  before_with_one q j h m s some = record { process = q; old = h; member = member_was q j h m; stretch = s; next = next (is q (j + 1)); name = refl }
    where
      next : (now q (j + 1) ≡ held q (j + 1)) ⊎ ((q ≡ p) × (j + 1 ≡ i)) → IsSome (held q (j + 1))
      next (inl same) = subst (λ (o : Option Held). IsSome o) same some
      next (inr new) = absurd (out.far q j h (member_was q j h m) (subst (IsInStretch h) new.1 s) (inl (sym new.0)))

-- Which indexes a call is about: that of a segment alone, or those of a run that a process holds.

pub data IsAbout (held : ℕ → ℕ → Option Held) (p : ℕ) (g : ℕ → Bool) : Type 0 where
  AboutOne : (i : ℕ) (x : Held) → held p i ≡ Some x → is_in_run x ≡ false → ((j : ℕ) → g j ≡ true → j ≡ i) → g i ≡ true → IsAbout held p g
  AboutRun : (i : ℕ) (x : Held) → IsMemberOf held p i x → ((j : ℕ) → g j ≡ true → IsInStretch x j × IsSome (held p j)) → ((j : ℕ) → IsInStretch x j → IsSome (held p j) → g j ≡ true) → IsAbout held p g

-- what is held at one of them that lies in a stretch is in the run
module _ (held : ℕ → ℕ → Option Held) (p : ℕ) (g : ℕ → Bool) (runs : HasRuns held) where
  -- a member's stretch that has one of them has all of them that the process holds
  about_all : IsAbout held p g → (q i : ℕ) (h : Held) → IsMemberOf held q i h → (j : ℕ) → IsInStretch h j → IsOneFor q p j → g j ≡ true → (l : ℕ) → IsInStretch h l → IsSome (held p l) → g l ≡ true
  about_all (AboutOne a x there alone only here) q i h m j s one e l t some =
      let same = only j e in
      let r = runs.stretches.whole q i h m p a x there (subst (IsInStretch h) same s) (subst (IsOneFor q p) same one) in
      absurd (false≢true (sym alone ∙ in_run_as h x (sym r.1) m.run))
  about_all (AboutRun a x n only here) q i h m j s one e l t some =
      let r = runs.stretches.apart q i h m p a x n j s (only j e).0 one in
      let first = r.0 in
      let count = r.1 in
      let low = t.0 in
      let high = t.1 in
      here l (omega (arith, first, low), omega (arith, first, count, high)) some

-- One hold less.

record IsLeft (o : Option Held) (h : Held) : Type 0 where
  old : Held
  there : o ≡ Some old
  name : h.name ≡ old.name
  cause : h.cause ≡ old.cause
  first : h.first ≡ old.first
  reserved : h.reserved ≡ old.reserved
  holds : h.holds + 1 ≡ old.holds

left_of : (o : Option Held) (h : Held) → fewer 1 o ≡ Some h → IsLeft o h
left_of None h e = absurd (none_some h e)
left_of (Some x) h e = go (nat_lt 1 x.holds) refl e
  where
    above : (n : ℕ) → nat_lt 1 n ≡ true → 1 < n
    above n f = grind arith

    go : (b : Bool) → nat_lt 1 x.holds ≡ b → (if b then Some (record x { holds = x.holds - 1 }) else None) ≡ Some h → IsLeft (Some x) h
    go false f e = absurd (none_some h e)
    go true f e =
        let y : record x { holds = x.holds - 1 } ≡ h = cc in
        let l = above x.holds f in
        let z : h.holds ≡ x.holds - 1 = sym (ap (λ (k : Held). k.holds) y) in
        record {
          old = x;
          there = refl;
          name = sym (ap (λ (k : Held). k.name) y);
          cause = sym (ap (λ (k : Held). k.cause) y);
          first = sym (ap (λ (k : Held). k.first) y);
          reserved = sym (ap (λ (k : Held). k.reserved) y);
          holds = omega (arith, l, z);
        }

fewer_is : (x : Held) (n : ℕ) → x.holds ≡ n + 1 → 0 < n → fewer 1 (Some x) ≡ Some (record x { holds = n })
fewer_is x n e some =
    let l : nat_lt 1 x.holds ≡ true = above x.holds (omega (arith, e, some)) in
    let m : x.holds - 1 ≡ n = omega (arith, e) in
    ap (λ (b : Bool). if b then Some (record x { holds = x.holds - 1 }) else None) l ∙ ap (λ (k : ℕ). Some (record x { holds = k })) m
  where
    above : (n : ℕ) → 1 < n → nat_lt 1 n ≡ true
    above n f = grind arith

-- each hold counts
abbrev pub AreCounted : (ℕ → ℕ → Option Held) → Type 0
AreCounted held = (q j : ℕ) (h : Held) → held q j ≡ Some h → 0 < h.holds

-- what is held was held, once more where it is hit, or as often
pub record IsWas (o : Option Held) (hits : Bool) (h : Held) : Type 0 where
  pub old : Held
  pub there : o ≡ Some old
  pub name : h.name ≡ old.name
  pub cause : h.cause ≡ old.cause
  pub first : h.first ≡ old.first
  pub reserved : h.reserved ≡ old.reserved
  pub holds : ((hits ≡ true) × (h.holds + 1 ≡ old.holds)) ⊎ ((hits ≡ false) × (h.holds ≡ old.holds))

module _ (held now : ℕ → ℕ → Option Held) (p : ℕ) (g : ℕ → Bool) (about : IsAbout held p g) (is : (q j : ℕ) → now q j ≡ (if (q == p) && g j then fewer 1 (held q j) else held q j))
    (counted : AreCounted now) (runs : HasRuns held) where
  left_number : (a b : ℕ) → (a == b) ≡ true → a ≡ b
  left_number a b e = grind arith

  both_parts : (a b : Bool) → (a && b) ≡ true → (a ≡ true) × (b ≡ true)
  both_parts true b e = (refl, e)
  both_parts false b e = absurd (false≢true e)

  hit : (q j : ℕ) → (q ≡ p) → g j ≡ true → now q j ≡ fewer 1 (held q j)
  hit q j same e =
      let both : ((q == p) && g j) ≡ true = rw e (and_true (q == p) (equal q p same)) in
      is q j ∙ ap (λ (b : Bool). if b then fewer 1 (held q j) else held q j) both
    where
      equal : (a b : ℕ) → a ≡ b → (a == b) ≡ true
      equal a b e = grind arith

      and_true : (a : Bool) → a ≡ true → (a && true) ≡ true
      and_true true e = refl
      and_true false e = e

  miss : (q j : ℕ) → ((q == p) && g j) ≡ false → now q j ≡ held q j
  miss q j e = is q j ∙ ap (λ (b : Bool). if b then fewer 1 (held q j) else held q j) e

  pub was : (q j : ℕ) (h : Held) → now q j ≡ Some h → IsWas (held q j) ((q == p) && g j) h
  was q j h e = go ((q == p) && g j) refl (sym (is q j) ∙ e)
    where
      go : (b : Bool) → ((q == p) && g j) ≡ b → (if b then fewer 1 (held q j) else held q j) ≡ Some h → IsWas (held q j) ((q == p) && g j) h
      go false f e = record { old = h; there = e; name = refl; cause = refl; first = refl; reserved = refl; holds = inr (f, refl) }
      go true f e = (let l = left_of (held q j) h e in record { old = l.old; there = l.there; name = l.name; cause = l.cause; first = l.first; reserved = l.reserved; holds = inl (f, l.holds) })

  pub left_member : (q i : ℕ) (h : Held) → IsMemberOf now q i h → (w : IsWas (held q i) ((q == p) && g i) h) → IsMemberOf held q i w.old
  left_member q i h m w = record { there = w.there; run = in_run_as h w.old w.reserved m.run }

  in_stretch : (q i j : ℕ) (h : Held) (w : IsWas (held q i) ((q == p) && g i) h) → IsInStretch h j → IsInStretch w.old j
  in_stretch q i j h w s = (let a = w.first in let b = w.reserved in let c = s.0 in let d = s.1 in (omega (arith, a, c), omega (arith, a, b, d)))

  -- members of one run of a process are all hit, or none
  hit_all : (q i j : ℕ) (h k : Held) → IsMemberOf held q i h → held q j ≡ Some k → IsInStretch h j → IsInStretch h i → ((q == p) && g i) ≡ true → ((q == p) && g j) ≡ true
  hit_all q i j h k m there s own e =
      let x = both_parts (q == p) (g i) e in
      let same = left_number q p x.0 in
      let some : IsSome (held p j) = subst (λ (a : ℕ). IsSome (held a j)) same (ap is_some there) in
      rw (x.0, about_all held p g runs about q i h m i own (inl (sym same)) x.1 j s some) refl

  front_left : (q i : ℕ) (h : Held) → IsMemberOf now q i h → (j : ℕ) → h.first ≤ j → j ≤ i → IsSoOften now q j h.holds
  front_left q i h m j low high = go w.holds
    where
      w : IsWas (held q i) ((q == p) && g i) h
      w = was q i h m.there

      n : IsMemberOf held q i w.old
      n = left_member q i h m w

      o : IsSoOften held q j w.old.holds
      o = (let a = w.first in runs.fronts.front q i w.old n j (omega (arith, a, low)) high)

      inside : IsInStretch w.old i
      inside = runs.stretches.inside q i w.old n

      s : IsInStretch w.old j
      s = (let a = w.first in let b = inside.1 in (omega (arith, a, low), omega (arith, high, b)))

      go : (((q == p) && g i) ≡ true × (h.holds + 1 ≡ w.old.holds)) ⊎ (((q == p) && g i) ≡ false × (h.holds ≡ w.old.holds)) → IsSoOften now q j h.holds
      go (inl x) =
          let e = hit_all q i j w.old o.hold n o.there s inside x.0 in
          let y = both_parts (q == p) (g j) e in
          let often = o.often in
          let less = x.1 in
          record {
            hold = record o.hold { holds = h.holds };
            there = hit q j (left_number q p y.0) y.1 ∙ (ap (fewer 1) o.there ∙ fewer_is o.hold h.holds (omega (arith, often, less)) (counted q i h m.there));
            often = refl;
          }
      go (inr x) = record { hold = o.hold; there = miss q j (missed ((q == p) && g j) refl) ∙ o.there; often = o.often ∙ sym x.1 }
        where
          missed : (b : Bool) → ((q == p) && g j) ≡ b → ((q == p) && g j) ≡ false
          missed false f = f
          missed true f =
              absurd (false≢true (sym x.0 ∙ hit_all q j i o.hold w.old (in_one_run held runs q i w.old n j o.hold o.there s) w.there (back i inside) (back j s) f))
            where
              one : AreInOne w.old o.hold
              one = runs.stretches.whole q i w.old n q j o.hold o.there s (inl refl)

              back : (l : ℕ) → IsInStretch w.old l → IsInStretch o.hold l
              back l t = (let a = one.0 in let b = one.1 in let c = t.0 in let d = t.1 in (omega (arith, a, c), omega (arith, a, b, d)))

  all_left : (q i : ℕ) (h : Held) → IsMemberOf now q i h → (other j : ℕ) (k : Held) → IsMemberOf now other j k → IsOneFor q other i → AreInOne h k → IsSome (now other i)
  all_left q i h m other j k n one same = go (held other i) refl (runs.fronts.all q i w.old (left_member q i h m w) other j v.old member one_run_q one_run)
    where
      w : IsWas (held q i) ((q == p) && g i) h
      w = was q i h m.there

      v : IsWas (held other j) ((other == p) && g j) k
      v = was other j k n.there

      member : IsMemberOf held other j v.old
      member = left_member other j k n v

      one_run : AreInOne w.old v.old
      one_run = (sym v.first ∙ same.0 ∙ w.first, sym v.reserved ∙ same.1 ∙ w.reserved)

      one_run_q : IsOneFor q other i
      one_run_q = one

      inside : IsInStretch w.old i
      inside = runs.stretches.inside q i w.old (left_member q i h m w)

      s : IsInStretch v.old i
      s = (let a = one_run.0 in let b = one_run.1 in let c = inside.0 in let d = inside.1 in (omega (arith, a, c), omega (arith, a, b, d)))

      go : (o : Option Held) → held other i ≡ o → IsSome o → IsSome (now other i)
      go None e some = absurd (false≢true some)
      go (Some x) e some = by ((other == p) && g i) refl
        where
          often : x.holds ≡ v.old.holds
          often = same_often held runs other j v.old member i x e s

          by : (b : Bool) → ((other == p) && g i) ≡ b → IsSome (now other i)
          by false f = ap is_some (miss other i f ∙ e)
          by true f = left v.holds
            where
              y : ((other == p) ≡ true) × (g i ≡ true)
              y = both_parts (other == p) (g i) f

              hits : ((other == p) && g j) ≡ true
              hits = hit_all other i j x v.old (in_one_run held runs other j v.old member i x e s) v.there (back j (runs.stretches.inside other j v.old member)) (back i s) f
                where
                  r : AreInOne v.old x
                  r = runs.stretches.whole other j v.old member other i x e s (inl refl)

                  back : (l : ℕ) → IsInStretch v.old l → IsInStretch x l
                  back l t = (let a = r.0 in let b = r.1 in let c = t.0 in let d = t.1 in (omega (arith, a, c), omega (arith, a, b, d)))

              left : (((other == p) && g j) ≡ true × (k.holds + 1 ≡ v.old.holds)) ⊎ (((other == p) && g j) ≡ false × (k.holds ≡ v.old.holds)) → IsSome (now other i)
              left (inr z) = absurd (false≢true (sym z.0 ∙ hits))
              left (inl z) =
                  let a = z.1 in
                  ap is_some (hit other i (left_number other p y.0) y.1 ∙ (ap (fewer 1) e ∙ fewer_is x k.holds (omega (arith, often, a)) (counted other j k n.there)))

  pub runs_freed : HasRuns now
  runs_freed = record {
    stretches = stretches_kept held now runs.stretches
        (λ q j h e. let w = was q j h e in record { process = q; old = w.old; there = w.there; one = inl refl; name = w.name; first = w.first; reserved = w.reserved; called = λ c. w.cause ∙ c });
    fronts = record { front = front_left; all = all_left };
  }

  pub before_freed : (q j : ℕ) (h : Held) → IsMemberOf now q j h → IsInStretch h (j + 1) → IsSome (now q (j + 1)) → IsBefore held q j h
  before_freed q j h m s some =
      let w = was q j h m.there in
      record { process = q; old = w.old; member = left_member q j h m w; stretch = in_stretch q j (j + 1) h w s; next = next (now q (j + 1)) refl some; name = w.name }
    where
      next : (o : Option Held) → now q (j + 1) ≡ o → IsSome o → IsSome (held q (j + 1))
      next None e t = absurd (false≢true t)
      next (Some k) e t = ap is_some (was q (j + 1) k e).there

-- One hold more of what another process holds.

abbrev pub more_by : Option Held → Option Held → Option Held
more_by None o = o
more_by (Some x) o = more (share x) o

-- what is held was held, or comes of what another process holds there
data CameBy (mine other : Option Held) (hits : Bool) (h : Held) : Type 0 where
  Same : hits ≡ false → mine ≡ Some h → CameBy mine other hits h
  More : hits ≡ true → (x k : Held) → other ≡ Some x → mine ≡ Some k → record k { holds = k.holds + 1 } ≡ h → CameBy mine other hits h
  First : hits ≡ true → (x : Held) → other ≡ Some x → mine ≡ None → share x ≡ h → CameBy mine other hits h

module _ (held now : ℕ → ℕ → Option Held) (from to : ℕ) (g : ℕ → Bool) (about : IsAbout held from g) (high : (j : ℕ) → g j ≡ true → 4096 ≤ j)
    (is : (q j : ℕ) → now q j ≡ (if (q == to) && g j then more_by (held from j) (held q j) else held q j)) (runs : HasRuns held) where
  to_number : (a b : ℕ) → (a == b) ≡ true → a ≡ b
  to_number a b e = grind arith

  parts : (a b : Bool) → (a && b) ≡ true → (a ≡ true) × (b ≡ true)
  parts true b e = (refl, e)
  parts false b e = absurd (false≢true e)

  missed : (q j : ℕ) → ((q == to) && g j) ≡ false → now q j ≡ held q j
  missed q j e = is q j ∙ ap (λ (b : Bool). if b then more_by (held from j) (held q j) else held q j) e

  gets : (q j : ℕ) → ((q == to) && g j) ≡ true → now q j ≡ more_by (held from j) (held q j)
  gets q j e = is q j ∙ ap (λ (b : Bool). if b then more_by (held from j) (held q j) else held q j) e

  -- what another process holds there
  source : (j : ℕ) → g j ≡ true → (x : Held) × (held from j ≡ Some x)
  source j e = by about
    where
      some : (o : Option Held) → held from j ≡ o → IsSome o → (x : Held) × (held from j ≡ Some x)
      some None f s = absurd (false≢true s)
      some (Some x) f s = (x, f)

      by : IsAbout held from g → (x : Held) × (held from j ≡ Some x)
      by (AboutOne a x there alone only here) = (x, ap (held from) (only j e) ∙ there)
      by (AboutRun a x n only here) = some (held from j) refl (only j e).1

  came : (q j : ℕ) (h : Held) → now q j ≡ Some h → CameBy (held q j) (held from j) ((q == to) && g j) h
  came q j h e = go ((q == to) && g j) refl
    where
      by : (x : Held) → held from j ≡ Some x → ((q == to) && g j) ≡ true → (o : Option Held) → held q j ≡ o → more_by (held from j) o ≡ Some h → CameBy (held q j) (held from j) ((q == to) && g j) h
      by x there f None at more = First f x there at (let z : Some (share x) ≡ Some h = sym (ap (λ (o : Option Held). more_by o None) there) ∙ more in cc)
      by x there f (Some k) at more = More f x k there at (let z : Some (record k { holds = k.holds + 1 }) ≡ Some h = sym (ap (λ (o : Option Held). more_by o (Some k)) there) ∙ more in cc)

      go : (b : Bool) → ((q == to) && g j) ≡ b → CameBy (held q j) (held from j) ((q == to) && g j) h
      go false f = Same f (sym (missed q j f) ∙ e)
      go true f = (let x = source j (parts (q == to) (g j) f).1 in by x.0 x.1 f (held q j) refl (sym (gets q j f) ∙ e))

  pub from_of : (q j : ℕ) (h : Held) → now q j ≡ Some h → IsFrom held q j h
  from_of q j h e = by (came q j h e)
    where
      by : CameBy (held q j) (held from j) ((q == to) && g j) h → IsFrom held q j h
      by (Same f there) = record { process = q; old = h; there = there; one = inl refl; name = refl; first = refl; reserved = refl; called = λ c. c }
      by (More f x k other there same) = record {
        process = q;
        old = k;
        there = there;
        one = inl refl;
        name = sym (ap (λ (y : Held). y.name) same);
        first = sym (ap (λ (y : Held). y.first) same);
        reserved = sym (ap (λ (y : Held). y.reserved) same);
        called = λ c. sym (ap (λ (y : Held). y.cause) same) ∙ c;
      }
      by (First f x other there same) = record {
        process = from;
        old = x;
        there = other;
        one = inr (high j (parts (q == to) (g j) f).1);
        name = sym (ap (λ (y : Held). y.name) same);
        first = sym (ap (λ (y : Held). y.first) same);
        reserved = sym (ap (λ (y : Held). y.reserved) same);
        called = λ c. sym (ap (λ (y : Held). y.cause) same);
      }

  -- what was held goes on to be held
  goes_on : (q j : ℕ) → IsSome (held q j) → IsSome (now q j)
  goes_on q j some = go ((q == to) && g j) refl
    where
      kept : (x : Held) (o : Option Held) → IsSome o → IsSome (more_by (Some x) o)
      kept x None s = refl
      kept x (Some k) s = refl

      go : (b : Bool) → ((q == to) && g j) ≡ b → IsSome (now q j)
      go false f = subst (λ (o : Option Held). IsSome o) (sym (missed q j f)) some
      go true f =
          let x = source j (parts (q == to) (g j) f).1 in
          subst (λ (o : Option Held). IsSome o) (sym (gets q j f ∙ ap (λ (o : Option Held). more_by o (held q j)) x.1)) (kept x.0 (held q j) some)

  -- who gets it holds it
  given : (j : ℕ) → g j ≡ true → IsSome (now to j)
  given j e =
      let x = source j e in
      let f : ((to == to) && g j) ≡ true = rw (e, equal to) refl in
      subst (λ (o : Option Held). IsSome o) (sym (gets to j f ∙ ap (λ (o : Option Held). more_by o (held to j)) x.1)) (one x.0 (held to j))
    where
      equal : (n : ℕ) → (n == n) ≡ true
      equal n = grind arith

      one : (x : Held) (o : Option Held) → IsSome (more_by (Some x) o)
      one x None = refl
      one x (Some k) = refl

  inside_of : (q i : ℕ) (h k : Held) → AreInOne h k → IsInStretch h i → IsInStretch k i
  inside_of q i h k one s = (let a = one.0 in let b = one.1 in let c = s.0 in let d = s.1 in (omega (arith, a, c), omega (arith, a, b, d)))

  front_given : (q i : ℕ) (h : Held) → IsMemberOf now q i h → (j : ℕ) → h.first ≤ j → j ≤ i → IsSoOften now q j h.holds
  front_given q i h m j low up = by (came q i h m.there)
    where
      in_old : (k : Held) → k.first ≡ h.first → k.reserved ≡ h.reserved → IsInStretch k i → IsInStretch k j
      in_old k a b t = (let c = t.1 in (omega (arith, a, low), omega (arith, c, up)))

      by : CameBy (held q i) (held from i) ((q == to) && g i) h → IsSoOften now q j h.holds
      by (Same e there) =
          let m0 : IsMemberOf held q i h = record { there = there; run = m.run } in
          let o = runs.fronts.front q i h m0 j low up in
          let t = in_old h refl refl (runs.stretches.inside q i h m0) in
          record { hold = o.hold; there = missed q j (not_hit ((q == to) && g j) refl m0 o.hold o.there t) ∙ o.there; often = o.often }
        where
          not_hit : (b : Bool) → ((q == to) && g j) ≡ b → (m0 : IsMemberOf held q i h) → (k : Held) → held q j ≡ Some k → IsInStretch h j → ((q == to) && g j) ≡ false
          not_hit false a m0 k at t = a
          not_hit true a m0 k at t =
              let y = parts (q == to) (g j) a in
              let same = to_number q to y.0 in
              let x = source j y.1 in
              -- the other holds a member of this run at j, so at i
              let one = runs.stretches.whole q i h m0 from j x.0 x.1 t (inr (high j y.1)) in
              let mj : IsMemberOf held from j x.0 = record { there = x.1; run = in_run_as h x.0 (sym one.1) m.run } in
              let high_i : 4096 ≤ i = (let c = high j y.1 in omega (arith, c, up)) in
              let some : IsSome (held from i) = runs.fronts.all q i h m0 from j x.0 mj (inr high_i) one in
              let gi : g i ≡ true = about_all held from g runs about q i h m0 j t (inr (high j y.1)) y.1 i (runs.stretches.inside q i h m0) some in
              absurd (false≢true (sym e ∙ (rw (y.0, gi) refl)))
      by (More e x k other there same) =
          let y = parts (q == to) (g i) e in
          let a : k.first ≡ h.first = ap (λ (z : Held). z.first) same in
          let b : k.reserved ≡ h.reserved = ap (λ (z : Held). z.reserved) same in
          let mk : IsMemberOf held q i k = record { there = there; run = in_run_as h k (sym b) m.run } in
          let o = runs.fronts.front q i k mk j (omega (arith, a, low)) up in
          let t = in_old k a b (runs.stretches.inside q i k mk) in
          let one = runs.stretches.whole q i k mk from i x other (runs.stretches.inside q i k mk) (inr (high i y.1)) in
          let mx : IsMemberOf held from i x = record { there = other; run = in_run_as k x (sym one.1) mk.run } in
          let c = one.0 in
          let u = runs.fronts.front from i x mx j (omega (arith, a, c, low)) up in
          let gj : g j ≡ true = about_all held from g runs about q i k mk i (runs.stretches.inside q i k mk) (inr (high i y.1)) y.1 j t (ap is_some u.there) in
          let d = o.often in
          let z : h.holds ≡ k.holds + 1 = sym (ap (λ (v : Held). v.holds) same) in
          record {
            hold = record o.hold { holds = o.hold.holds + 1 };
            there = gets q j (rw (y.0, gj) refl) ∙ (ap (λ (v : Option Held). more_by v (held q j)) u.there ∙ ap (more (share u.hold)) o.there);
            often = omega (arith, d, z);
          }
      by (First e x other none same) =
          let y = parts (q == to) (g i) e in
          let a : x.first ≡ h.first = ap (λ (z : Held). z.first) same in
          let b : x.reserved ≡ h.reserved = ap (λ (z : Held). z.reserved) same in
          let mx : IsMemberOf held from i x = record { there = other; run = in_run_as h x (sym b) m.run } in
          let t = in_old x a b (runs.stretches.inside from i x mx) in
          let u = runs.fronts.front from i x mx j (omega (arith, a, low)) up in
          let gj : g j ≡ true = about_all held from g runs about from i x mx i (runs.stretches.inside from i x mx) (inl refl) y.1 j t (ap is_some u.there) in
          let high_i = high i y.1 in
          record {
            hold = share u.hold;
            there = gets q j (rw (y.0, gj) refl) ∙ (ap (λ (v : Option Held). more_by v (held q j)) u.there ∙ ap (more (share u.hold)) (nothing mx t (held q j) refl y.1 (high j gj)));
            often = ap (λ (v : Held). v.holds) same;
          }
        where
          nothing : (mx : IsMemberOf held from i x) → IsInStretch x j → (o : Option Held) → held q j ≡ o → g i ≡ true → 4096 ≤ j → held q j ≡ None
          nothing mx t None at gi hj = at
          nothing mx t (Some k) at gi hj =
              let one = runs.stretches.whole from i x mx q j k at t (inr hj) in
              let mk : IsMemberOf held q j k = record { there = at; run = in_run_as x k (sym one.1) mx.run } in
              let some : IsSome (held q i) = runs.fronts.all from i x mx q j k mk (inr (high i gi)) one in
              absurd (false≢true (ap is_some (sym none) ∙ some))

  all_given : (q i : ℕ) (h : Held) → IsMemberOf now q i h → (other j : ℕ) (k : Held) → IsMemberOf now other j k → IsOneFor q other i → AreInOne h k → IsSome (now other i)
  all_given q i h m other j k mk one same = by (came other j k mk.there)
    where
      f : IsFrom held q i h
      f = from_of q i h m.there

      n : IsMemberOf held f.process i f.old
      n = record { there = f.there; run = in_run_as h f.old f.reserved m.run }

      -- the index is one for the source and the other
      near : IsOneFor f.process other i
      near = elim (cases_lt i 4096) [
        | inr hi ↦ inr hi
        | inl lo ↦ inl (low_one lo one ∙ sym (low_from lo f.one))
      ]
        where
          low_one : i < 4096 → (other ≡ q) ⊎ (4096 ≤ i) → other ≡ q
          low_one lo (inl e) = e
          low_one lo (inr e) = absurd (omega (arith, lo, e))

          low_from : i < 4096 → (f.process ≡ q) ⊎ (4096 ≤ i) → f.process ≡ q
          low_from lo (inl e) = e
          low_from lo (inr e) = absurd (omega (arith, lo, e))

      by : CameBy (held other j) (held from j) ((other == to) && g j) k → IsSome (now other i)
      by (Same e there) =
          goes_on other i (runs.fronts.all f.process i f.old n other j k (record { there = there; run = mk.run }) near (same.0 ∙ f.first, same.1 ∙ f.reserved))
      by (More e x v there at is_k) =
          let a : v.first ≡ k.first = ap (λ (z : Held). z.first) is_k in
          let b : v.reserved ≡ k.reserved = ap (λ (z : Held). z.reserved) is_k in
          goes_on other i (runs.fronts.all f.process i f.old n other j v (record { there = at; run = in_run_as k v (sym b) mk.run }) near (a ∙ same.0 ∙ f.first, b ∙ same.1 ∙ f.reserved))
      by (First e x there at is_k) =
          let y = parts (other == to) (g j) e in
          let a : x.first ≡ k.first = ap (λ (z : Held). z.first) is_k in
          let b : x.reserved ≡ k.reserved = ap (λ (z : Held). z.reserved) is_k in
          let mx : IsMemberOf held from j x = record { there = there; run = in_run_as k x (sym b) mk.run } in
          let one_run : AreInOne f.old x = (a ∙ same.0 ∙ f.first, b ∙ same.1 ∙ f.reserved) in
          let hj = high j y.1 in
          let si = runs.stretches.inside f.process i f.old n in
          let sx : IsInStretch x i = inside_of from i f.old x one_run si in
          let hi : 4096 ≤ i = high_too x mx hj sx in
          let some : IsSome (held from i) = runs.fronts.all f.process i f.old n from j x mx (inr hi) one_run in
          let gi : g i ≡ true = about_all held from g runs about from j x mx j (runs.stretches.inside from j x mx) (inl refl) y.1 i sx some in
          subst (λ (z : ℕ). IsSome (now z i)) (sym (to_number other to y.0)) (given i gi)
        where
          high_too : (x : Held) → IsMemberOf held from j x → 4096 ≤ j → IsInStretch x i → 4096 ≤ i
          high_too x mx hj sx = elim (cases_lt i 4096) [
            | inr hi ↦ hi
            | inl lo ↦ (let z = low_end x.first i (x.first + x.reserved) sx.0 lo (runs.stretches.end from j x mx) in let u = (runs.stretches.inside from j x mx).1 in absurd (omega (arith, z, u, hj)))
          ]

  pub runs_given : HasRuns now
  runs_given = record {
    stretches = stretches_kept held now runs.stretches from_of;
    fronts = record { front = front_given; all = all_given };
  }

  pub before_given : (q j : ℕ) (h : Held) → IsMemberOf now q j h → IsInStretch h (j + 1) → IsSome (now q (j + 1)) → IsBefore held q j h
  before_given q j h m s some = record { process = f.process; old = f.old; member = n; stretch = t; next = next (now q (j + 1)) refl some; name = f.name }
    where
      f : IsFrom held q j h
      f = from_of q j h m.there

      n : IsMemberOf held f.process j f.old
      n = record { there = f.there; run = in_run_as h f.old f.reserved m.run }

      t : IsInStretch f.old (j + 1)
      t = (let a = f.first in let b = f.reserved in let c = s.0 in let d = s.1 in (omega (arith, a, c), omega (arith, a, b, d)))

      -- the next index is one for both that they came of
      near : (a b : ℕ) → (a ≡ q) ⊎ (4096 ≤ j) → (b ≡ q) ⊎ (4096 ≤ j + 1) → IsOneFor a b (j + 1)
      near a b (inl x) (inl y) = inl (y ∙ sym x)
      near a b (inr x) y = inr (omega (arith, x))
      near a b (inl x) (inr y) = inr y

      back : (a b : ℕ) → IsOneFor a b (j + 1) → IsOneFor b a (j + 1)
      back a b (inl x) = inl (sym x)
      back a b (inr x) = inr x

      next : (o : Option Held) → now q (j + 1) ≡ o → IsSome o → IsSome (held f.process (j + 1))
      next None e z = absurd (false≢true z)
      next (Some k) e z =
          let g = from_of q (j + 1) k e in
          let one = runs.stretches.whole f.process j f.old n g.process (j + 1) g.old g.there t (near f.process g.process f.one g.one) in
          let mg : IsMemberOf held g.process (j + 1) g.old = record { there = g.there; run = in_run_as f.old g.old (sym one.1) n.run } in
          runs.fronts.all g.process (j + 1) g.old mg f.process j f.old n (back f.process g.process (near f.process g.process f.one g.one)) (sym one.0, sym one.1)
