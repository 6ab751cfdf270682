-- What the test of one pointer tells, by what it found.
use Rattle.std.proofs.Common.{◌≡◌, ℕ, ◌+◌, Bool, true, false, cond, not, ◌&&◌, ◌||◌, ◌==◌, nat_le, length, Option, Some, None, ap, sym, ◌∙◌, refl, subst, if◌then◌else◌}
use Rattle.o2_base.specs.declared.selector.Selector.{Selector}
use Rattle.o2_isa.specs.declared.cpu.Purpose.TheVariants.{DataReg}
use Rattle.o2_isa.specs.declared.cpu.Loaded.TheVariants as loaded
use Rattle.o2_isa.specs.View.{View, Hold, found, bound_in, is_null, is_readable, is_writable, probe_of}
use Rattle.o2_isa.specs.Steps.{selector}
use Rattle.o2_isa.specs.Sizes.{IsSized}
use Rattle.o2_isa.specs.Pointers.{is_passed, is_for_es}
use Rattle.o2_world.specs.Slots.{is_for_writing}
use Rattle.o2_gate.specs.Pointed.{only, pointer, lies_within, allows, IsGoodTest, IsBadTest, IsMissedTest}
use Rattle.o2_gate.proofs.Checks.{es_boundless, IsSeen, done_seen, miss_seen, nothing, unfit, fits, exceeds, misses}

-- What a selector that isn't null names.

pub found_bound : (v : View) (s : ℕ) (h : Hold) → is_null s ≡ false → found v s ≡ Some h → bound_in v.held s ≡ Some h
found_bound v s h some e = ap (λ (n : Bool). cond n None (found v s)) some ∙ e

pub null_bound : (n : Bool) (o : Option Hold) (h : Hold) → n ≡ true → cond n None o ≡ Some h → false ≡ true
null_bound true o h null e = absurd (cc)
null_bound false o h null e = null

-- the rights for which the pointer is good
abbrev rights : Bool → ℕ → Bool
rights writes = if writes then is_writable else is_readable

good_rights : (writes l : Bool) (h : Hold) → is_readable h.rights ≡ true → ((not writes || is_writable h.rights) && l) ≡ (rights writes h.rights && l)
good_rights true l h readable = refl
good_rights false l h readable = ap (λ (b : Bool). b && l) (sym readable)

both : (a b : Bool) → (a && b) ≡ true → (a ≡ true) × (b ≡ true)
both true true e = (refl, refl)
both true false e = absurd (cc)
both false b e = absurd (cc)

module _ (v : View) (writes : Bool) (s o n : ℕ) where
  pub empty_test : (n == 0) ≡ true → IsGoodTest v (only (pointer writes s o n))
  empty_test zero = nothing v (pointer writes s o n) zero

  pub null_test : (n == 0) ≡ false → is_null s ≡ true → IsBadTest v (only (pointer writes s o n))
  null_test some null = unfit v (pointer writes s o n) some (λ f h is. absurd (let e = null_bound (is_null s) (found v s) h null is in cc))

  pub unloaded_test : (n == 0) ≡ false → is_for_es v s ≡ false → IsBadTest v (only (pointer writes s o n))
  unloaded_test some e = unfit v (pointer writes s o n) some (λ f h is. es_boundless f v s ∙ e)

  module _ (some : (n == 0) ≡ false) (null_not : is_null s ≡ false) where
    module _ (done : loaded.Done ≡ probe_of v DataReg (selector s)) (sized : IsSized v) where
      seen : IsSeen v s true
      seen = done_seen v s null_not done

      abbrev is_inside : Bool
      is_inside = nat_le (o + n) (length (v.bytes seen.hold.name))

      allowed_at : (z : Bool) → allows writes v s o n ≡ z → (rights writes seen.hold.rights && is_inside) ≡ z
      allowed_at z allowed =
          sym (good_rights writes is_inside seen.hold seen.readable)
          ∙ ap (λ (k : ℕ). (not writes || is_writable seen.hold.rights) && nat_le (o + n) k) (sized.bytes seen.hold.name seen.at_hand)
          ∙ subst (λ (x : Option Hold). ((not writes || is_for_writing x) && lies_within v o n x) ≡ z) seen.found_it allowed

      pub within_test : allows writes v s o n ≡ true → IsGoodTest v (only (pointer writes s o n))
      within_test allowed =
          let parts = both (rights writes seen.hold.rights) is_inside (allowed_at true allowed) in
          fits v (pointer writes s o n) some (sym (ap is_passed done)) seen.hold (found_bound v s seen.hold null_not seen.found_it) seen.at_hand parts.0 parts.1

      pub beyond_test : allows writes v s o n ≡ false → IsBadTest v (only (pointer writes s o n))
      beyond_test allowed = exceeds v (pointer writes s o n) some seen.hold (found_bound v s seen.hold null_not seen.found_it) seen.at_hand (allowed_at false allowed)

    pub missed_test : (t : Selector) → loaded.Miss t ≡ probe_of v DataReg (selector s) → IsMissedTest v t (only (pointer writes s o n))
    missed_test t miss =
        let u = miss_seen v s t null_not miss in
        let seen = u.seen in
        subst (λ (x : Selector). IsMissedTest v x (only (pointer writes s o n))) (sym u.same) (record {
          away = record { hold = seen.hold; found_it = seen.found_it; absent = seen.at_hand; whole = seen.whole };
          missed = λ f. misses v (pointer writes s o n) some (sym (ap is_passed miss)) seen.hold seen.found_it (found_bound v s seen.hold null_not seen.found_it) seen.at_hand seen.whole f;
        })
