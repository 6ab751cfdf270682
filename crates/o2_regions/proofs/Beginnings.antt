-- Links of places that hold nothing, and the links over a table whose length is known.
use Rattle.std.proofs.Common.{◌≡◌, ℕ, ◌+◌, ◌<◌, inl, inr, false, List, length, Option, Some, None, arith, refl, sym, ap, ◌∙◌, subst, get_or, set, replicate}
use Rattle.std.proofs.lemmas.Bool.{both_ways}
use Rattle.std.proofs.lemmas.List.{length-set, length-replicate}
use Rattle.std.proofs.lemmas.Option.{slice_get-map}
use Rattle.std.specs.Option.{option_map}
use Rattle.std.specs.List.{slice_get}
use Rattle.o2_place.specs.declared.seg_id.SegId.{SegId}
use Rattle.o2_regions.specs.declared.held.Held.{Held}
use Rattle.o2_regions.specs.Maps.{Maps, is_of}
use Rattle.o2_regions.specs.Links.{AreNext, ArePrev, is_in, holders, pair_at, places_from, stands_in}
use Rattle.o2_regions.proofs.Linked.{AreNext-stay, ArePrev-stay}
use Rattle.o2_regions.proofs.Writes.{get_or-same}

module _ (held : List (Option Held)) (links : List ℕ) (k : ℕ) (none : held ≡ replicate k None) (long : length links ≡ k + 65536) (own : (x : ℕ) → x < k + 65536 → get_or links x 0 ≡ x) where
  size : length held ≡ k
  size = ap (λ (l : List (Option Held)). length l) none ∙ length-replicate k None

  empty_test : (b z : ℕ) → stands_in held b z ≡ false
  empty_test b z = ap (is_in b) (ap (λ (l : List (Option Held)). get_or l z None) none ∙ get_or-same k z None)

  pub AreNext-nothing : AreNext (length held) held links
  AreNext-nothing = record {
    next_long = omega (arith, size);
    leads = λ b x y m node. elim node [
      | inl head ↦ (let e : get_or links x 0 ≡ x = own x (omega (arith, size)) in record {
        here = λ l. absurd (omega arith);
        past = λ l. omega arith;
        clear = λ z l n w. empty_test b z;
      })
      | inr place ↦ absurd (both_ways (stands_in held b x) (empty_test b x) place.1)
    ];
  }

  pub ArePrev-nothing : ArePrev (length held) held links
  ArePrev-nothing = record {
    prev_long = omega (arith, size);
    leads = λ b x y m node. elim node [
      | inl head ↦ (let e : get_or links x 0 ≡ x = own x (omega (arith, size)) in record {
        here = λ l. absurd (omega arith);
        past = λ l. omega arith;
        clear = λ z l n. empty_test b z;
      })
      | inr place ↦ absurd (both_ways (stands_in held b x) (empty_test b x) place.1)
    ];
  }

-- a write leaves the table as long as it was
pub AreNext-sized : (held : List (Option Held)) (p : ℕ) (x : Option Held) (next : List ℕ) → AreNext (length held) (set held p x) next → AreNext (length (set held p x)) (set held p x) next
AreNext-sized held p x next h = subst (λ (n : ℕ). AreNext n (set held p x) next) (sym (length-set held p x)) h

pub ArePrev-sized : (held : List (Option Held)) (p : ℕ) (x : Option Held) (prev : List ℕ) → ArePrev (length held) (set held p x) prev → ArePrev (length (set held p x)) (set held p x) prev
ArePrev-sized held p x prev h = subst (λ (n : ℕ). ArePrev n (set held p x) prev) (sym (length-set held p x)) h

-- other holds of the same segment at a place
pub AreNext-more : (held : List (Option Held)) (next : List ℕ) (p : ℕ) (was now : Held) → p < length held → get_or held p None ≡ Some was → now.id.key ≡ was.id.key → AreNext (length held) held next → AreNext (length (set held p (Some now))) (set held p (Some now)) next
AreNext-more held next p was now w some same h = AreNext-sized held p (Some now) next (AreNext-stay (length held) held next next p was now refl w some same h)

pub ArePrev-more : (held : List (Option Held)) (prev : List ℕ) (p : ℕ) (was now : Held) → p < length held → get_or held p None ≡ Some was → now.id.key ≡ was.id.key → ArePrev (length held) held prev → ArePrev (length (set held p (Some now))) (set held p (Some now)) prev
ArePrev-more held prev p was now w some same h = ArePrev-sized held p (Some now) prev (ArePrev-stay (length held) held prev prev p was now refl w some same h)

-- the k-th holder is the pair of the k-th place
pub kth_holder : (m : Maps) (id : SegId) (k : ℕ) (o : Option ℕ) (p : ℕ) → o ≡ slice_get (places_from (is_of id) m.held 0) k → o ≡ Some p → Some (pair_at p) ≡ slice_get (holders m id) k
kth_holder m id k o p e f = sym (slice_get-map pair_at (places_from (is_of id) m.held 0) k ∙ ap (option_map pair_at) (sym e ∙ f))

pub no_holder : (m : Maps) (id : SegId) (k : ℕ) (o : Option ℕ) → o ≡ slice_get (places_from (is_of id) m.held 0) k → o ≡ None → None ≡ slice_get (holders m id) k
no_holder m id k o e f = sym (slice_get-map pair_at (places_from (is_of id) m.held 0) k ∙ ap (option_map pair_at) (sym e ∙ f))
