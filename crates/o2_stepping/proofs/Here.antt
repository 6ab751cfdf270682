-- A process may step where its descriptors say that what its segment registers name is in memory.
use Rattle.std.proofs.Common.{◌≡◌, ℕ, ◌/◌, ◌&&◌, ◌==◌, ◌++◌, inl, inr, Bool, true, false, cond, List, Option, Some, None, is_some, ap, sym, ◌∙◌, refl, subst, arith}
use Rattle.std.specs.Prelude.{option_map, slice_index_or}
use Rattle.std.proofs.lemmas.Bool.{false≢true, eqb-true}
use Rattle.o2_desc.specs.declared.descriptor.Descriptor.{Descriptor}
use Rattle.o2_desc.specs.Bits.{is_present, rights_of}
use Rattle.o2_desc.specs.Bytes.{empty}
use Rattle.o2_isa.specs.declared.cpu.Cpu.{Cpu}
use Rattle.o2_isa.specs.declared.instr.Sreg.{Sreg}
use Rattle.o2_isa.specs.declared.instr.Sreg.TheVariants.{Es, Cs, Ss, Ds}
use Rattle.o2_isa.specs.Registers.{sreg}
use Rattle.o2_isa.specs.Presence.{is_in}
use Rattle.o2_isa.specs.View.{Hold, IsBound, is_local, is_null, present_or_none}
use Rattle.o2_place.specs.declared.seg_id.SegId.{SegId}
use Rattle.o2_regions.specs.declared.held.Held.{Held}
use Rattle.o2_regions.specs.Maps.{Maps, IsProcess, descriptor_of, held_at, table_of}
use Rattle.o2_store.specs.Shelf.{Shelf, place_of}
use Rattle.o2_segbus.specs.Bus.{held_under}
use Rattle.o2_segbus.specs.Frames.{CanStep}
use Rattle.o2_segbus.specs.Seen.{AreNamed, hold_in, hold_of, present_in, present_under, seen, seen_with}
use Rattle.o2_segbus.specs.Settled.{IsSettled, IsSettledAt, descriptor_at}
use Rattle.o2_segbus.proofs.Bits.{present_by}
use Rattle.o2_segbus.proofs.Holds.{bound_is, under_at}
use Rattle.o2_stepping.specs.Here.{are_here, is_here, is_none_or_here}
use Rattle.o2_stepping.specs.Rooms.{ages_of, pair_of, seated_in}
use Rattle.o2_stepping.proofs.Bringing.{by_register}
use Rattle.o2_stepping.proofs.Lefts.{in_more}
use Rattle.o2_stepping.proofs.Named.{one_of}

-- what a selector names has its present bit
marked_by : (a b : Bool) (o : Option Held) (x : Held) (table : List Descriptor) (i : ℕ) → cond a None (cond b o None) ≡ Some x
    → cond a true (is_none_or_here (cond b (descriptor_of o table i) None)) ≡ true → is_present (slice_index_or table i empty).access ≡ true
marked_by true b o x table i e h = absurd (none_some e)
  where
    none_some : None ≡ Some x → ⊥
    none_some p = cc
marked_by false false o x table i e h = absurd (none_some e)
  where
    none_some : None ≡ Some x → ⊥
    none_some p = cc
marked_by false true None x table i e h = absurd (none_some e)
  where
    none_some : None ≡ Some x → ⊥
    none_some p = cc
marked_by false true (Some y) x table i e h = h

all_four : (a b c d : Bool) → (a && b && c && d) ≡ true → (a ≡ true) × ((b ≡ true) × ((c ≡ true) × (d ≡ true)))
all_four a b c d e = (grind arith, (grind arith, (grind arith, grind arith)))

module _ (s : Shelf) (m : Maps) (pid : ℕ) (named : AreNamed s m) (settled : IsSettled s m) where
  placed_under : (z : ℕ) (x : Held) → held_under m pid z ≡ Some x → is_here m pid z ≡ true → is_some (place_of s x.id.key) ≡ true
  placed_under z x e h =
      let d : Descriptor = descriptor_at m pid (z / 8) in
      let q : IsSettledAt s (Some x) d = subst (λ (o : Option Held). IsSettledAt s o d) (under_at m pid z x e) (settled pid (z / 8)) in
      sym (present_by d.access (rights_of d.access) (is_some (place_of s x.id.key)) q.access)
      ∙ marked_by (is_null z) (is_local z) (held_at m pid (z / 8)) x (table_of m pid) (z / 8) e h

  by_held : (z : ℕ) (o : Option Held) → held_under m pid z ≡ o → is_here m pid z ≡ true → present_or_none (present_in s) (option_map (hold_of m pid (z / 8)) o) ≡ true
  by_held z None e h = refl
  by_held z (Some x) e h = ap (present_under s) (named pid (z / 8) x (under_at m pid z x e)) ∙ placed_under z x e h

  here_at : (c : Cpu) → are_here m pid c ≡ true → (r : Sreg) → is_here m pid (sreg c r) ≡ true
  here_at c h r = (let q = all_four (is_here m pid c.es) (is_here m pid c.cs) (is_here m pid c.ss) (is_here m pid c.ds) h in go r q)
    where
      go : (r : Sreg) → (is_here m pid c.es ≡ true) × ((is_here m pid c.cs ≡ true) × ((is_here m pid c.ss ≡ true) × (is_here m pid c.ds ≡ true))) → is_here m pid (sreg c r) ≡ true
      go Es q = q.0
      go Cs q = q.1.0
      go Ss q = q.1.1.0
      go Ds q = q.1.1.1

  bound_here : (c : Cpu) → are_here m pid c ≡ true → IsBound (seen s m pid c)
  unfolding seen_with
  bound_here c h r =
      subst (λ (o : Option Hold). present_or_none (present_in s) o ≡ true) (sym (by_register (hold_in m pid) c r ∙ bound_is m pid (sreg c r)))
      (by_held (sreg c r) (held_under m pid (sreg c r)) refl (here_at c h r))

  among_pair : (z : ℕ) → is_here m pid z ≡ true → (n : ℕ) → is_in n (ages_of (pair_of (held_under m pid z))) ≡ true → present_in s n ≡ true
  among_pair z h n e = go (held_under m pid z) refl e
    where
      go : (o : Option Held) → held_under m pid z ≡ o → is_in n (ages_of (pair_of o)) ≡ true → present_in s n ≡ true
      go None i f = absurd (false≢true f)
      go (Some x) i f = elim (one_of (x.id.age == n) false f) [
        | inl y ↦ subst (λ (k : ℕ). present_in s k ≡ true) (eqb-true x.id.age n y) (by_held z (Some x) i h)
        | inr y ↦ absurd (false≢true y)
      ]

  among_both : (xs ys : List (SegId × ℕ)) → ((n : ℕ) → is_in n (ages_of xs) ≡ true → present_in s n ≡ true) → ((n : ℕ) → is_in n (ages_of ys) ≡ true → present_in s n ≡ true)
      → (n : ℕ) → is_in n (ages_of (xs ++ ys)) ≡ true → present_in s n ≡ true
  among_both xs ys f g n e =
      elim (one_of (is_in n (ages_of xs)) (is_in n (ages_of ys)) (sym (in_more n xs ys) ∙ e)) [
        | inl x ↦ f n x
        | inr y ↦ g n y
      ]

  -- each segment that they name is in memory
  pub seats_here : (c : Cpu) → are_here m pid c ≡ true → (n : ℕ) → is_in n (ages_of (seated_in m pid c)) ≡ true → present_in s n ≡ true
  seats_here c h =
      let q = all_four (is_here m pid c.es) (is_here m pid c.cs) (is_here m pid c.ss) (is_here m pid c.ds) h in
      let pair = λ (z : ℕ). pair_of (held_under m pid z) in
      among_both (pair c.es ++ pair c.cs ++ pair c.ss) (pair c.ds) (among_both (pair c.es ++ pair c.cs) (pair c.ss) (among_both (pair c.es) (pair c.cs) (among_pair c.es q.0) (among_pair c.cs q.1.0)) (among_pair c.ss q.1.1.0)) (among_pair c.ds q.1.1.1)

  pub may_step : (c : Cpu) → IsProcess m pid → are_here m pid c ≡ true → CanStep s m pid c
  may_step c process h = record { process = process; named = named; settled = settled; bound = bound_here c h }
