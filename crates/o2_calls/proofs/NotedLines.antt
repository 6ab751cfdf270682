-- The lines of what was noted, and those of changes at indexes in a row.
use Rattle.std.proofs.Common.{◌≡◌, ℕ, zero, suc, ◌+◌, ◌*◌, ◌/◌, ◌<◌, ◌≤◌, ◌==◌, Bool, true, false, cond, List, [], ◌∷◌, ◌++◌, length, Option, Some, None, is_some, refl, sym, ap, ◌∙◌, subst, arith, append-nil}
use Rattle.std.specs.Prelude.{flat_map, map, replicate}
use Rattle.std.proofs.lemmas.Grind.{flat_map-append}
use Rattle.o2_base.specs.Selectors.{selector_of}
use Rattle.o2_world.specs.Changes.{Change, Drops, drop_lines_of, hold_lines_of, in_order, moved_lines}
use Rattle.o2_world.specs.HugeRulings.{all_hold, new_members, segments_of, sizes_of}
use Rattle.o2_world.specs.Known.{Known}
use Rattle.o2_world.specs.Rulings.{Ruling, indexes, refusal}
use Rattle.o2_world.specs.SharedRulings.{each_more, one_more}
use Rattle.o2_world.specs.World.{DropsBy, Held, HoldsBy, Line}
use Rattle.o2_gate.specs.declared.moves.Block.{Block}
use Rattle.o2_gate.specs.MovedLines.{all_lines, block_lines}
use Rattle.o2_calls.specs.Noted.{AreTold, came, went}
use Rattle.o2_calls.proofs.Ordered.{Rise, in_order_still, rise_append, rise_times}

pub index_back : (i : ℕ) → selector_of i / 8 ≡ i
index_back i = omega arith

-- Of a ruling: where it comes to no error, what is noted by its value has the lines of its changes.
pub record Tells (cause : List ℕ) (bs : ℕ → List Block) (r : Ruling) : Type 0 where
  pub told : r.error ≡ 0 → AreTold cause (bs r.value) r.changes

pub refused : (cause : List ℕ) (bs : ℕ → List Block) (error : ℕ) → (error ≡ 0 → ⊥) → Tells cause bs (refusal error)
refused cause bs error some = record { told = λ none. absurd (some none) }

pub five : ◌≡◌ {A = ℕ} 5 0 → ⊥
five e = omega (arith, e)

pub eight : ◌≡◌ {A = ℕ} 8 0 → ⊥
eight e = omega (arith, e)

pub either : (cause : List ℕ) (bs : ℕ → List Block) (b : Bool) (r q : Ruling) → Tells cause bs r → (b ≡ false → Tells cause bs q) → Tells cause bs (cond b r q)
either cause bs true r q h k = h
either cause bs false r q h k = k refl

module _ (cause : List ℕ) where
  pub rise_came : (p i n h : ℕ) → Rise (65536 * p + 8 * i) (65536 * p + 8 * (i + n)) (block_lines cause (came p i n h))
  rise_came p i zero h = omega arith
  rise_came p i (suc n) h =
      let same : 65536 * p + 8 * (i + 1 + n) ≡ 65536 * p + 8 * (i + suc n) = omega arith in
      rise_append (65536 * p + 8 * i) (65536 * p + 8 * (i + 1)) (65536 * p + 8 * (i + suc n)) (replicate h (HoldsBy p (selector_of i) cause)) (block_lines cause (came p (i + 1) n h))
      (rise_times (65536 * p + 8 * i) (65536 * p + 8 * (i + 1)) h (HoldsBy p (selector_of i) cause) (omega arith) (omega arith))
      (subst (λ (high : ℕ). Rise (65536 * p + 8 * (i + 1)) high (block_lines cause (came p (i + 1) n h))) same (rise_came p (i + 1) n h))

  rise_went : (p i n h : ℕ) → Rise (65536 * p + 8 * i) (65536 * p + 8 * (i + n)) (block_lines cause (went p i n h))
  rise_went p i zero h = omega arith
  rise_went p i (suc n) h =
      let same : 65536 * p + 8 * (i + 1 + n) ≡ 65536 * p + 8 * (i + suc n) = omega arith in
      rise_append (65536 * p + 8 * i) (65536 * p + 8 * (i + 1)) (65536 * p + 8 * (i + suc n)) (replicate h (DropsBy p (selector_of i) cause)) (block_lines cause (went p (i + 1) n h))
      (rise_times (65536 * p + 8 * i) (65536 * p + 8 * (i + 1)) h (DropsBy p (selector_of i) cause) (omega arith) (omega arith))
      (subst (λ (high : ℕ). Rise (65536 * p + 8 * (i + 1)) high (block_lines cause (went p (i + 1) n h))) same (rise_went p (i + 1) n h))

  -- What came, or went, in one block, or nothing.

  pub told_nothing : (cs : List Change) → flat_map (hold_lines_of cause) cs ≡ [] → flat_map (drop_lines_of cause) cs ≡ [] → AreTold cause [] cs
  unfolding all_lines moved_lines
  told_nothing cs holds drops = record {
    lines = sym (ap (λ (ls : List Line). in_order ls ++ in_order (flat_map (drop_lines_of cause) cs)) holds ∙ ap in_order drops);
    inside = tt;
  }

  pub told_came : (cs : List Change) (p i n h : ℕ) → flat_map (hold_lines_of cause) cs ≡ block_lines cause (came p i n h) → flat_map (drop_lines_of cause) cs ≡ [] → i + n ≤ 8192
      → AreTold cause (came p i n h ∷ []) cs
  unfolding all_lines moved_lines
  told_came cs p i n h holds drops within = record {
    lines =
        append-nil (block_lines cause (came p i n h))
        ∙ sym (ap (λ (ls : List Line). in_order ls ++ in_order (flat_map (drop_lines_of cause) cs)) holds
        ∙ (ap (λ (ls : List Line). in_order (block_lines cause (came p i n h)) ++ in_order ls) drops
        ∙ (append-nil (in_order (block_lines cause (came p i n h)))
        ∙ in_order_still (65536 * p + 8 * i) (65536 * p + 8 * (i + n)) (block_lines cause (came p i n h)) (rise_came p i n h))));
    inside = (within, tt);
  }

  pub told_went : (cs : List Change) (p i n h : ℕ) → flat_map (hold_lines_of cause) cs ≡ [] → flat_map (drop_lines_of cause) cs ≡ block_lines cause (went p i n h) → i + n ≤ 8192
      → AreTold cause (went p i n h ∷ []) cs
  unfolding all_lines moved_lines
  told_went cs p i n h holds drops within = record {
    lines =
        append-nil (block_lines cause (went p i n h))
        ∙ sym (ap (λ (ls : List Line). in_order ls ++ in_order (flat_map (drop_lines_of cause) cs)) holds
        ∙ (ap in_order drops
        ∙ in_order_still (65536 * p + 8 * i) (65536 * p + 8 * (i + n)) (block_lines cause (went p i n h)) (rise_went p i n h)));
    inside = (within, tt);
  }

  -- Holds of each index that go.

  pub drops_hold : (p count : ℕ) (is : List ℕ) → flat_map (hold_lines_of cause) (map (λ (j : ℕ). Drops p j count) is) ≡ []
  drops_hold p count [] = refl
  drops_hold p count (i ∷ is) = drops_hold p count is

  pub drops_drop : (p count : ℕ) (is : List ℕ) → flat_map (drop_lines_of cause) (map (λ (j : ℕ). Drops p j count) is) ≡ flat_map (λ (j : ℕ). replicate count (DropsBy p (selector_of j) cause)) is
  drops_drop p count [] = refl
  drops_drop p count (i ∷ is) = ap (λ (ls : List Line). replicate count (DropsBy p (selector_of i) cause) ++ ls) (drops_drop p count is)

  -- One hold more of each index that another process holds.

  one_drops : (to i : ℕ) (o : Option Held) → flat_map (drop_lines_of cause) (one_more to i o) ≡ []
  one_drops to i None = refl
  one_drops to i (Some h) = refl

  pub each_drops : (k : Known) (from to : ℕ) (is : List ℕ) → flat_map (drop_lines_of cause) (each_more k from to is) ≡ []
  each_drops k from to [] = refl
  each_drops k from to (i ∷ is) =
      flat_map-append (drop_lines_of cause) (one_more to i (k.held from i)) (each_more k from to is)
      ∙ (ap (λ (ls : List Line). ls ++ flat_map (drop_lines_of cause) (each_more k from to is)) (one_drops to i (k.held from i)) ∙ each_drops k from to is)

  one_holds : (to i : ℕ) (o : Option Held) → is_some o ≡ true → flat_map (hold_lines_of cause) (one_more to i o) ≡ HoldsBy to (selector_of i) cause ∷ []
  one_holds to i None some = absurd (cc)
  one_holds to i (Some h) some = refl

  pub each_holds : (k : Known) (from to i n : ℕ) → ((j : ℕ) → i ≤ j → j < i + n → is_some (k.held from j) ≡ true)
      → flat_map (hold_lines_of cause) (each_more k from to (indexes i n)) ≡ block_lines cause (came to i n 1)
  each_holds k from to i zero all = refl
  each_holds k from to i (suc n) all =
      flat_map-append (hold_lines_of cause) (one_more to i (k.held from i)) (each_more k from to (indexes (i + 1) n))
      ∙ (ap (λ (ls : List Line). ls ++ flat_map (hold_lines_of cause) (each_more k from to (indexes (i + 1) n))) (one_holds to i (k.held from i) (all i (omega arith) (omega arith)))
      ∙ ap (λ (ls : List Line). HoldsBy to (selector_of i) cause ∷ ls) (each_holds k from to (i + 1) n (λ j low high. all j (omega (arith, low)) (omega (arith, high)))))

  -- New members of a run.

  abbrev pub shares : List (ℕ × ℕ) → ℕ → List Line
  shares ps i = flat_map (λ (p : ℕ × ℕ). replicate p.1 (HoldsBy p.0 (selector_of i) cause)) ps

  all_holds : (name first count i : ℕ) (ps : List (ℕ × ℕ)) → flat_map (hold_lines_of cause) (all_hold name first count i ps) ≡ shares ps i
  all_holds name first count i [] = refl
  all_holds name first count i (p ∷ ps) = ap (λ (ls : List Line). replicate p.1 (HoldsBy p.0 (selector_of i) cause) ++ ls) (all_holds name first count i ps)

  all_drops : (name first count i : ℕ) (ps : List (ℕ × ℕ)) → flat_map (drop_lines_of cause) (all_hold name first count i ps) ≡ []
  all_drops name first count i [] = refl
  all_drops name first count i (p ∷ ps) = all_drops name first count i ps

  pub members_drop : (name first count flags : ℕ) (ps : List (ℕ × ℕ)) (is zs : List ℕ) → flat_map (drop_lines_of cause) (new_members name first count flags ps is zs) ≡ []
  members_drop name first count flags ps [] zs = refl
  members_drop name first count flags ps (i ∷ is) [] = refl
  members_drop name first count flags ps (i ∷ is) (z ∷ zs) =
      flat_map-append (drop_lines_of cause) (all_hold name first count i ps) (new_members (name + 1) first count flags ps is zs)
      ∙ (ap (λ (ls : List Line). ls ++ flat_map (drop_lines_of cause) (new_members (name + 1) first count flags ps is zs)) (all_drops name first count i ps)
      ∙ members_drop (name + 1) first count flags ps is zs)

  pub members_hold : (name first count flags a : ℕ) (ps : List (ℕ × ℕ)) (zs : List ℕ)
      → flat_map (hold_lines_of cause) (new_members name first count flags ps (indexes a (length zs)) zs) ≡ flat_map (shares ps) (indexes a (length zs))
  members_hold name first count flags a ps [] = refl
  members_hold name first count flags a ps (z ∷ zs) =
      flat_map-append (hold_lines_of cause) (all_hold name first count a ps) (new_members (name + 1) first count flags ps (indexes (a + 1) (length zs)) zs)
      ∙ (ap (λ (ls : List Line). ls ++ flat_map (hold_lines_of cause) (new_members (name + 1) first count flags ps (indexes (a + 1) (length zs)) zs)) (all_holds name first count a ps)
      ∙ ap (λ (ls : List Line). shares ps a ++ ls) (members_hold (name + 1) first count flags (a + 1) ps zs))

  -- of one holder
  pub one_holder : (p holds a n : ℕ) → flat_map (shares ((p, holds) ∷ [])) (indexes a n) ≡ block_lines cause (came p a n holds)
  one_holder p holds a zero = refl
  one_holder p holds a (suc n) =
      ap (λ (ls : List Line). ls ++ flat_map (shares ((p, holds) ∷ [])) (indexes (a + 1) n)) (append-nil (replicate holds (HoldsBy p (selector_of a) cause)))
      ∙ ap (λ (ls : List Line). replicate holds (HoldsBy p (selector_of a) cause) ++ ls) (one_holder p holds (a + 1) n)

pub sizes_length : (segs part : ℕ) → length (sizes_of segs part) ≡ segments_of segs part
sizes_length zero part = last (part == 0)
  where
    last : (b : Bool) → length (cond b [] (part ∷ [])) ≡ cond b 0 1
    last true = refl
    last false = refl
sizes_length (suc segs) part = ap suc (sizes_length segs part) ∙ more (part == 0)
  where
    more : (b : Bool) → suc (cond b segs (segs + 1)) ≡ cond b (suc segs) (suc segs + 1)
    more true = refl
    more false = omega arith
