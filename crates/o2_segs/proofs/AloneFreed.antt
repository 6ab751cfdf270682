-- What is freed, of a segment alone and of a run.
use Rattle.std.proofs.Common.{◌≡◌, ℕ, ◌-◌, ◌<◌, ◌&&◌, ◌||◌, nat_le, not, Bool, true, false, cond, eqb, List, [], ◌∷◌, map, Option, Some, option_map, refl, sym, ap, ◌∙◌, subst, arith}
use Rattle.std.proofs.lemmas.Bool.{eq-eqb}
use Rattle.std.proofs.lemmas.Bool.Decides.{nat_tests}
use Rattle.o2_isa.specs.declared.cpu.Cpu.{Cpu}
use Rattle.o2_regions.specs.declared.held.Held.{Held as HeldThere}
use Rattle.o2_regions.specs.Maps.{Maps, held_at}
use Rattle.o2_store.specs.Shelf.{Shelf}
use Rattle.o2_world.specs.Changes.{Drops, with_all}
use Rattle.o2_world.specs.Rulings.{is_index}
use Rattle.o2_stands.specs.Parts.{Parts, held_in, held_of}
use Rattle.o2_stands.specs.Stands.{Matches}
use Rattle.o2_changes.specs.Worlds.{MatchesDrop}
use Rattle.o2_segs.specs.Members.{MatchesFree, freed_in, is_gone_in, is_last_in, members_in}

or_no : (b : Bool) → (b || false) ≡ b
or_no true = refl
or_no false = refl

left_one : (n left : ℕ) → 0 < n → left ≡ n - 1 → nat_le n 1 ≡ eqb left 0
left_one n left some is = grind (arith, nat_tests)

one_member : (m : Maps) (pid i : ℕ) (h : HeldThere) → h.reserved ≡ 0 → members_in m pid i h ≡ i ∷ []
one_member m pid i h alone = rw (eq-eqb h.reserved 0 alone) refl

gone_one : (m : Maps) (pid i left s : ℕ) (h : HeldThere) → held_at m pid i ≡ Some h → 0 < h.holds → left ≡ h.holds - 1 → is_gone_in m pid (i ∷ []) s ≡ (is_index s i && eqb left 0)
gone_one m pid i left s h there some is =
    or_no (is_index s i && is_last_in (held_at m pid i))
    ∙ (ap (λ (o : Option HeldThere). is_index s i && is_last_in o) there ∙ ap (λ (b : Bool). is_index s i && b) (left_one h.holds left some is))

pub alone_cleared : (m : Maps) (pid i left : ℕ) (h : HeldThere) (c d : Cpu) → h.reserved ≡ 0 → held_at m pid i ≡ Some h → 0 < h.holds → left ≡ h.holds - 1
    → d ≡ record c { ds = cond (is_index c.ds i && eqb left 0) 0 c.ds; es = cond (is_index c.es i && eqb left 0) 0 c.es } → d ≡ freed_in m pid (members_in m pid i h) c
alone_cleared m pid i left h c d alone there some is e =
    e
    ∙ (ap (λ (b : Bool). record c { ds = cond b 0 c.ds; es = cond (is_index c.es i && eqb left 0) 0 c.es }) (sym (gone_one m pid i left c.ds h there some is))
    ∙ (ap (λ (b : Bool). record c { ds = cond (is_gone_in m pid (i ∷ []) c.ds) 0 c.ds; es = cond b 0 c.es }) (sym (gone_one m pid i left c.es h there some is))
    ∙ ap (λ (js : List ℕ). freed_in m pid js c) (sym (one_member m pid i h alone))))

held_there : (p : Parts) (m : Maps) (pid i : ℕ) (h : HeldThere) → p.maps ≡ m → held_at m pid i ≡ Some h → held_in p.maps pid i ≡ Some (held_of p.maps pid i h)
unfolding held_in
held_there p m pid i h em there = ap (option_map (held_of p.maps pid i)) (ap (λ (x : Maps). held_at x pid i) em ∙ there)

pub alone_matches : (s t : Shelf) (m n : Maps) (pid i : ℕ) (h : HeldThere) → h.reserved ≡ 0 → held_at m pid i ≡ Some h → MatchesDrop s t m n pid i → MatchesFree s t m n pid i h
alone_matches s t m n pid i h alone there drop = record {
  world = λ p w x es em at loses q.
      subst (λ (js : List ℕ). Matches (record p { shelf = t; maps = n }) (with_all w (map (λ (j : ℕ). Drops pid j 1) js))) (sym (one_member m pid i h alone))
      (drop.world p w x es em at (loses.alone (held_of p.maps pid i h) (q.held pid i ∙ held_there p m pid i h em there) (ap not (eq-eqb h.reserved 0 alone))) q);
}
