-- The runs of a tidy world are those of a machine that matches it.
use Rattle.std.proofs.Common.{◌≡◌, inl, inr, ℕ, ◌+◌, ◌<◌, ◌≤◌, ◌==◌, nat_lt, not, Bool, true, false, length, List, Option, Some, None, IsSome, is_some, option_map, if◌then◌else◌, refl, sym, ap, ◌∙◌, subst, arith}
use Rattle.std.specs.List.{list_any}
use Rattle.std.proofs.lemmas.Bool.{cases_lt, eqb-true, false≢true, ne_eqb}
use Rattle.o2_place.specs.declared.seg_id.SegId.{SegId}
use Rattle.o2_regions.specs.declared.held.Cause.{Cause}
use Rattle.o2_regions.specs.declared.held.Cause.TheVariants.{Alias, Called, Loaded}
use Rattle.o2_regions.specs.declared.held.Held.{Held as HeldThere}
use Rattle.o2_regions.specs.declared.held.Region.{Region}
use Rattle.o2_regions.specs.declared.held.Region.TheVariants.{Private, Shared}
use Rattle.o2_regions.specs.Kept.{AreKept}
use Rattle.o2_regions.specs.Maps.{IsProcess, end_of, held_at as held_there, is_taken, region_of}
use Rattle.o2_regions.proofs.Reserves.{holder_in}
use Rattle.o2_desc.specs.Bits.{has_bit}
use Rattle.o2_world.specs.Known.{held_at, holds_index, reserves}
use Rattle.o2_world.specs.Map.{Map, get}
use Rattle.o2_world.specs.World.{ByCall, Held, Process, Reserve, Segment}
use Rattle.o2_stands.specs.Parts.{Parts, cause_of, held_in, held_of}
use Rattle.o2_stands.specs.Runs.{AreFull, AreRuns, Covers, IsHeldOften, IsMember, IsMemberOf, IsSoOften, is_full, may_be_member, region_end}
use Rattle.o2_stands.specs.Stands.{IsIndex, IsNamed, IsSegment, IsTidy, MatchesIn, number_of, region_at}
use Rattle.o2_stands.proofs.Reserved.{and_parts, or_right}
use Rattle.o2_stands.proofs.RunSteps.{member_region, stretch_reserves}

below : (i : ℕ) → i < 4096 → nat_lt i 4096 ≡ true
below i l = grind arith

above : (i : ℕ) → 4096 ≤ i → nat_lt i 4096 ≡ false
above i l = grind arith

by_call : (c : Cause) → cause_of c ≡ ByCall → c ≡ Called
by_call Called e = refl
by_call Loaded e = absurd (cc)
by_call Alias e = absurd (cc)

end_is : (pid f : ℕ) → region_end f ≡ end_of (region_of pid f)
end_is pid f = elim (cases_lt f 4096) [
  | inl low ↦ rw (below f low) refl
  | inr high ↦ rw (above f high) refl
]

module _ (p : Parts) (ps : List Process) (names : Map Segment) (next : ℕ) (rs : List Reserve) (kept : AreKept p.maps) (matches : MatchesIn p ps names next rs) (tidy : IsTidy ps names rs) where
  there_of : (pid i : ℕ) (h : HeldThere) → held_there p.maps pid i ≡ Some h → held_at ps pid i ≡ Some (held_of p.maps pid i h)
  unfolding held_in
  there_of pid i h e = matches.held pid i ∙ ap (option_map (held_of p.maps pid i)) e

  member_of : (pid i : ℕ) (h : HeldThere) → IsMember p.maps pid i h → IsMemberOf (held_at ps) pid i (held_of p.maps pid i h)
  member_of pid i h m = record { there = there_of pid i h m.there; run = ap not (ne_eqb h.reserved 0 m.run) }

  often_of : (pid j n : ℕ) → IsSoOften (held_at ps) pid j n → IsHeldOften p.maps pid j n
  unfolding held_in
  often_of pid j n o = go (held_there p.maps pid j) refl
    where
      go : (x : Option HeldThere) → held_there p.maps pid j ≡ x → IsHeldOften p.maps pid j n
      go None e = absurd (let z : ◌≡◌ {A = Option Held} None (Some o.hold) = sym (matches.held pid j ∙ ap (option_map (held_of p.maps pid j)) e) ∙ o.there in cc)
      go (Some h) e =
          let z : Some (held_of p.maps pid j h) ≡ Some o.hold = sym (there_of pid j h e) ∙ o.there in
          let y : held_of p.maps pid j h ≡ o.hold = cc in
          record { held = h; there = e; often = ap (λ (x : Held). x.holds) y ∙ o.often }

  some_of : (pid i : ℕ) → IsSome (held_at ps pid i) → IsSome (held_there p.maps pid i)
  unfolding held_in
  some_of pid i s = mapped (held_there p.maps pid i) (subst (λ (o : Option Held). IsSome o) (matches.held pid i) s)
    where
      mapped : (o : Option HeldThere) → IsSome (option_map (held_of p.maps pid i) o) → IsSome o
      mapped None s = s
      mapped (Some h) s = refl

  -- each index of a stretch is taken
  all_taken : (pid i : ℕ) (h : HeldThere) → IsMember p.maps pid i h → (j : ℕ) → Covers h j → is_taken p.maps (region_of pid j) j ≡ true
  all_taken pid i h m j s =
      sym (matches.taken (region_of pid j) j index)
      ∙ or_right (if number_of (region_of pid j) == 0 then holds_index ps j else is_some (held_at ps (number_of (region_of pid j)) j)) (list_any (reserves (region_at pid j) j) rs) reserved
    where
      member : IsMemberOf (held_at ps) pid i (held_of p.maps pid i h)
      member = member_of pid i h m

      reserved : list_any (reserves (region_at pid j) j) rs ≡ true
      reserved =
          ap (λ (g : ℕ). list_any (reserves g j) rs) (sym (member_region (held_at ps) tidy.runs pid i (held_of p.maps pid i h) member pid j s (inl refl)))
          ∙ stretch_reserves (region_at pid i) h.first h.reserved j rs (tidy.run pid i (held_of p.maps pid i h) member.there member.run) s.0 s.1

      process : IsProcess p.maps pid
      process = (holder_in p.maps pid i h kept m.there).0

      some : 0 < j
      some = (let a = tidy.runs.stretches.first pid i (held_of p.maps pid i h) member in let b = s.0 in omega (arith, a, b))

      small : j < 8192
      small = (let a = tidy.runs.stretches.end pid i (held_of p.maps pid i h) member in let b = s.1 in let c = most h.first in omega (arith, a, b, c))
        where
          most : (f : ℕ) → region_end f ≤ 8192
          most f = elim (cases_lt f 4096) [
            | inl low ↦ rw (below f low) (omega arith)
            | inr high ↦ rw (above f high) (omega arith)
          ]

      index : IsIndex p.maps (region_of pid j) j
      index = elim (cases_lt j 4096) [
        | inl low ↦ (let e : region_of pid j ≡ Private pid = rw (below j low) refl in subst (λ (g : Region). IsIndex p.maps g j) (sym e) (record { region = process; from = some; to = low }))
        | inr high ↦ (let e : region_of pid j ≡ Shared = rw (above j high) refl in subst (λ (g : Region). IsIndex p.maps g j) (sym e) (record { region = tt; from = high; to = small }))
      ]

  pub runs_seen : AreRuns p.maps
  runs_seen = record {
    inside = λ pid i h m. tidy.runs.stretches.inside pid i (held_of p.maps pid i h) (member_of pid i h m);
    first = λ pid i h m. tidy.runs.stretches.first pid i (held_of p.maps pid i h) (member_of pid i h m);
    end = λ pid i h m. subst (λ (e : ℕ). h.first + h.reserved ≤ e) (end_is pid h.first) (tidy.runs.stretches.end pid i (held_of p.maps pid i h) (member_of pid i h m));
    called = λ pid i h m. by_call h.cause (tidy.runs.stretches.called pid i (held_of p.maps pid i h) (member_of pid i h m));
    taken = all_taken;
    whole = λ pid i h m other j k there s one. tidy.runs.stretches.whole pid i (held_of p.maps pid i h) (member_of pid i h m) other j (held_of p.maps other j k) (there_of other j k there) s one;
    apart = λ pid i h m other j k n l s t one. tidy.runs.stretches.apart pid i (held_of p.maps pid i h) (member_of pid i h m) other j (held_of p.maps other j k) (member_of other j k n) l s t one;
    front = λ pid i h m j low high. often_of pid j h.holds (tidy.runs.fronts.front pid i (held_of p.maps pid i h) (member_of pid i h m) j low high);
    all = λ pid i h m other j k n one same. some_of other i (tidy.runs.fronts.all pid i (held_of p.maps pid i h) (member_of pid i h m) other j (held_of p.maps other j k) (member_of other j k n) one same);
    only = λ pid i h m other j k there same. tidy.runs.stretches.only pid i (held_of p.maps pid i h) (member_of pid i h m) other j (held_of p.maps other j k) (there_of other j k there) (ap (λ (x : SegId). x.age) same);
  }

  -- the segment of what is held, in the world and in the store
  segment_of : (pid i : ℕ) (h : HeldThere) → held_there p.maps pid i ≡ Some h → (s : Segment) × ((get names h.id.age ≡ Some s) × IsSegment p h.id.key s)
  segment_of pid i h e = go (get names h.id.age) refl (subst (λ (o : Option ℕ). IsNamed p o (get names h.id.age)) (matches.ready.named pid i h e) (matches.segments h.id.age))
    where
      go : (o : Option Segment) → get names h.id.age ≡ o → IsNamed p (Some h.id.key) (get names h.id.age) → (s : Segment) × ((get names h.id.age ≡ Some s) × IsSegment p h.id.key s)
      go None f is = absurd (subst (λ (o : Option Segment). IsNamed p (Some h.id.key) o) f is)
      go (Some s) f is = (s, (f, subst (λ (o : Option Segment). IsNamed p (Some h.id.key) o) f is))

  some_back : (pid i : ℕ) → IsSome (held_there p.maps pid i) → IsSome (held_at ps pid i)
  some_back pid i s = go (held_there p.maps pid i) refl s
    where
      go : (o : Option HeldThere) → held_there p.maps pid i ≡ o → IsSome o → IsSome (held_at ps pid i)
      go None e t = absurd (false≢true t)
      go (Some h) e t = ap is_some (there_of pid i h e)

  not_true : (b : Bool) → not b ≡ true → b ≡ false
  not_true true e = absurd (false≢true e)
  not_true false e = refl

  pub full_seen : AreFull p.shelf p.maps
  full_seen = record {
    sized = λ pid i h m s some. let g = segment_of pid i h m.there in
        let full = tidy.full.each pid i (held_of p.maps pid i h) (member_of pid i h m) s (some_back pid (i + 1) some) in
        sym g.1.1.size ∙ eqb-true (length g.0.bytes) 65536 (sym (ap is_full g.1.0) ∙ full);
    fixed = λ pid i h m. let g = segment_of pid i h m.there in
        let may = tidy.flags.each pid i (held_of p.maps pid i h) (member_of pid i h m) in
        ap (λ (x : ℕ). has_bit x 2) (sym g.1.1.flags) ∙ not_true (has_bit g.0.flags 2) (and_parts (not (has_bit g.0.flags 2)) _ (sym (ap (may_be_member i) g.1.0) ∙ may)).0;
  }
