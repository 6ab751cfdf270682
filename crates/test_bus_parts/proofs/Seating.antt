-- What the segment registers name is in memory.
use Rattle.std.proofs.Common.{◌≡◌, ℕ, ◌/◌, Option, Some, None, IsSome, true, false, refl, ap, ◌∙◌, subst}
use Rattle.std.specs.Prelude.{option_map}
use Rattle.std.proofs.lemmas.Bool.{false≢true}
use Rattle.o2_entries.specs.declared.Entry.{Entry}
use Rattle.o2_isa.specs.declared.cpu.Cpu.{Cpu}
use Rattle.o2_isa.specs.declared.instr.Sreg.TheVariants.{Es, Cs, Ss, Ds}
use Rattle.o2_isa.specs.View.{IsBound, present_or_none}
use Rattle.o2_place.specs.declared.seg_id.SegId.{SegId}
use Rattle.o2_regions.specs.declared.held.Held.{Held}
use Rattle.o2_regions.specs.Maps.{Maps}
use Rattle.o2_store.specs.Shelf.{Shelf, base_of, entry_of, place_of}
use Rattle.o2_segbus.specs.Bus.{held_under}
use Rattle.o2_segbus.specs.Frames.{CanStep}
use Rattle.o2_segbus.specs.Seen.{AreNamed, hold_of, present_in, present_under, seen, seen_with}
use Rattle.o2_segbus.proofs.Ages.{named_by_age}
use Rattle.o2_segbus.proofs.Holds.{bound_is, under_at}
use Rattle.test_bus_parts.specs.Trials.{AreSeated, IsSeated, IsTrial}

some_place : (o : Option Entry) (p : Option (ℕ × ℕ)) → IsSome (base_of o p) → IsSome p
some_place None p h = absurd (false≢true h)
some_place (Some e) None h = absurd (false≢true h)
some_place (Some e) (Some r) h = refl

abbrev id_or : SegId → Option SegId → SegId
id_or d None = d
id_or d (Some id) = id

pub seat_some : (s : Shelf) (m : Maps) (sel : ℕ) (id : SegId) → AreNamed s m → Some id ≡ option_map (λ (h : Held). h.id) (held_under m 1 sel)
    → IsSome (base_of (entry_of s id) (place_of s id.key)) → IsSeated s m sel
seat_some s m sel id named e here = record {
  present = ap (present_or_none (present_in s)) (bound_is m 1 sel) ∙ go (held_under m 1 sel) refl e;
}
  where
    go : (o : Option Held) → held_under m 1 sel ≡ o → Some id ≡ option_map (λ (h : Held). h.id) o → present_or_none (present_in s) (option_map (hold_of m 1 (sel / 8)) o) ≡ true
    go None f q = refl
    go (Some h) f q =
        let same : id ≡ h.id = ap (id_or id) q in
        ap (present_under s) (named 1 (sel / 8) h (under_at m 1 sel h f))
        ∙ subst (λ (x : SegId). IsSome (place_of s x.key)) same (some_place (entry_of s id) (place_of s id.key) here)

pub seat_none : (s : Shelf) (m : Maps) (sel : ℕ) → ◌≡◌ {A = Option SegId} None (option_map (λ (h : Held). h.id) (held_under m 1 sel)) → IsSeated s m sel
seat_none s m sel e = record { present = ap (present_or_none (present_in s)) (bound_is m 1 sel) ∙ go (held_under m 1 sel) e }
  where
    none_some : (h : Held) → ◌≡◌ {A = Option SegId} None (Some h.id) → ⊥
    none_some h q = cc

    go : (o : Option Held) → ◌≡◌ {A = Option SegId} None (option_map (λ (h : Held). h.id) o) → present_or_none (present_in s) (option_map (hold_of m 1 (sel / 8)) o) ≡ true
    go None q = refl
    go (Some h) q = absurd (none_some h q)

pub named : (s : Shelf) (m : Maps) (b : ℕ) → IsTrial s m b → AreNamed s m
named s m b h = named_by_age s m h.aged h.order.held.live

pub can_step : (s : Shelf) (m : Maps) (b : ℕ) (c : Cpu) → IsTrial s m b → AreSeated s m c → CanStep s m 1 c
unfolding seen_with
can_step s m b c h a = record {
  process = h.process;
  named = named s m b h;
  settled = h.order.settled;
  bound = bound;
}
  where
    bound : IsBound (seen s m 1 c)
    bound Es = a.es.present
    bound Cs = a.cs.present
    bound Ss = a.ss.present
    bound Ds = a.ds.present
