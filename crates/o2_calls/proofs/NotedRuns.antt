-- What is noted of calls that free a segment or a run, or give it.
use Rattle.std.proofs.Common.{◌≡◌, ℕ, ◌/◌, ◌||◌, Bool, true, false, cond, List, [], ◌∷◌, Option, Some, None, is_some, option_map, refl, sym, ap, ◌∙◌, subst, arith}
use Rattle.std.specs.Prelude.{map}
use Rattle.o2_base.specs.Selectors.{selector_of}
use Rattle.o2_isa.specs.declared.cpu.Cpu.{Cpu}
use Rattle.o2_regions.specs.declared.held.Held.{Held as HeldThere}
use Rattle.o2_regions.specs.Maps.{Maps, held_at}
use Rattle.o2_world.specs.Changes.{Drops}
use Rattle.o2_world.specs.Known.{Known}
use Rattle.o2_world.specs.Rulings.{by_load, freeing, freeing_of, grants, in_use, indexes, members, refusal}
use Rattle.o2_world.specs.SharedRulings.{each_more, giving, giving_of, lacks_flag}
use Rattle.o2_gate.specs.declared.moves.Block.{Block}
use Rattle.o2_stands.specs.Knows.{Others, known_in}
use Rattle.o2_stands.specs.Parts.{Parts, cause_of, held_in, held_of}
use Rattle.o2_stands.specs.Runs.{AreRuns}
use Rattle.o2_segs.specs.Members.{is_later_in, members_in}
use Rattle.o2_segs.proofs.Members.{free_all, members_are}
use Rattle.o2_segs.proofs.Selecting.{under, under_held, under_is}
use Rattle.o2_calls.specs.declared.noting.Counted.{Counted}
use Rattle.o2_calls.specs.Noted.{AreTold, came, counted_there, counted_under, went}
use Rattle.o2_calls.proofs.Fronts.{counted_are, counted_held, counted_inside, different}
use Rattle.o2_calls.proofs.NotedLines.{Tells, drops_drop, drops_hold, each_drops, each_holds, either, five, refused, told_came, told_went}

pub some_in : (m : Maps) (pid i : ℕ) → is_some (held_in m pid i) ≡ is_some (held_at m pid i)
unfolding held_in
some_in m pid i = mapped (held_at m pid i)
  where
    mapped : (o : Option HeldThere) → is_some (option_map (held_of m pid i) o) ≡ is_some o
    mapped None = refl
    mapped (Some h) = refl

middle : (a b c : Bool) → (a || b || c) ≡ false → b ≡ false
middle true b c e = absurd (different (sym e))
middle false true c e = absurd (different (sym e))
middle false false c e = refl

pub first_of_two : (a b : Bool) → (a || b) ≡ false → (a ≡ false) × (b ≡ false)
first_of_two true b e = absurd (different (sym e))
first_of_two false b e = (refl, e)

module _ (cause : List ℕ) (p : Parts) (o : Others) (pid : ℕ) (runs : AreRuns p.maps) where
  abbrev k : Known
  k = known_in p o

  abbrev m : Maps
  m = p.maps

  -- DosFreeSeg.

  abbrev freed : ℕ → ℕ → List Block
  freed s v = went pid (s / 8) (counted_under m pid s).members 1 ∷ []

  pub free_told : (s : ℕ) (c : Cpu) → Tells cause (freed s) (freeing k pid s c)
  free_told s c = go (under m pid s) refl
    where
      go : (x : Option HeldThere) → under m pid s ≡ x → Tells cause (freed s) (freeing k pid s c)
      go None e =
          subst (Tells cause (freed s)) (sym (ap (freeing_of k pid s c) (under_is p o pid s ∙ ap (option_map (held_of m pid (s / 8))) e))) (refused cause (freed s) 5 five)
      go (Some h) e =
          subst (Tells cause (freed s)) (sym (free_all p o pid s c h e))
          (either cause (freed s) (by_load (cause_of h.cause) || is_later_in (s / 8) h || in_use c (members_in m pid (s / 8) h)) (refusal 5) _ (refused cause (freed s) 5 five)
          (λ clear. record { told = λ none. done (middle (by_load (cause_of h.cause)) (is_later_in (s / 8) h) (in_use c (members_in m pid (s / 8) h)) clear) }))
        where
          there : held_at m pid (s / 8) ≡ Some h
          there = (under_held m pid s h e).1

          number : ℕ
          number = (counted_there m pid (s / 8) (Some h)).members

          done : is_later_in (s / 8) h ≡ false → AreTold cause (freed s 0) (map (λ (j : ℕ). Drops pid j 1) (members_in m pid (s / 8) h))
          done first =
              subst (λ (d : Counted). AreTold cause (went pid (s / 8) d.members 1 ∷ []) (map (λ (j : ℕ). Drops pid j 1) (members_in m pid (s / 8) h))) (sym (ap (counted_there m pid (s / 8)) e))
              (subst (λ (is : List ℕ). AreTold cause (went pid (s / 8) number 1 ∷ []) (map (λ (j : ℕ). Drops pid j 1) is)) (sym (counted_are m pid (s / 8) h runs there first))
              (told_went cause (map (λ (j : ℕ). Drops pid j 1) (indexes (s / 8) number)) pid (s / 8) number 1 (drops_hold cause pid 1 (indexes (s / 8) number)) (drops_drop cause pid 1 (indexes (s / 8) number)) (counted_inside m pid (s / 8) h there)))

  -- One hold more of all that a process holds under an index.
  pub more_told : (from to i : ℕ) (h : HeldThere) → held_at m from i ≡ Some h → is_later_in i h ≡ false
      → AreTold cause (came to i (counted_there m from i (Some h)).members 1 ∷ []) (each_more k from to (members k from i (held_of m from i h)))
  more_told from to i h there first =
      subst (λ (is : List ℕ). AreTold cause (came to i number 1 ∷ []) (each_more k from to is)) (sym (members_are p o from i i h ∙ counted_are m from i h runs there first))
      (told_came cause (each_more k from to (indexes i number)) to i number 1
      (each_holds cause k from to i number (λ j low high. some_in m from j ∙ counted_held m from i h runs there j low high))
      (each_drops cause k from to (indexes i number)) (counted_inside m from i h there))
    where
      number : ℕ
      number = (counted_there m from i (Some h)).members

  -- DosGiveSeg.

  abbrev given : (to s : ℕ) → ℕ → List Block
  given to s v = came to (s / 8) (counted_under m pid s).members 1 ∷ []

  pub give_told : (s to : ℕ) → Tells cause (given to s) (giving k pid s to)
  give_told s to = go (under m pid s) refl
    where
      go : (x : Option HeldThere) → under m pid s ≡ x → Tells cause (given to s) (giving k pid s to)
      go None e =
          subst (Tells cause (given to s)) (sym (ap (giving_of k pid (s / 8) to) (under_is p o pid s ∙ ap (option_map (held_of m pid (s / 8))) e))) (refused cause (given to s) 5 five)
      go (Some h) e =
          subst (Tells cause (given to s)) (sym (ap (giving_of k pid (s / 8) to) (under_is p o pid s ∙ ap (option_map (held_of m pid (s / 8))) e)))
          (either cause (given to s) (is_later_in (s / 8) h || lacks_flag k 0 pid (members k pid (s / 8) (held_of m pid (s / 8) h))) (refusal 5) _ (refused cause (given to s) 5 five)
          (λ clear. alive (first_of_two (is_later_in (s / 8) h) _ clear).0 (k.lives to)))
        where
          alive : is_later_in (s / 8) h ≡ false → (b : Bool)
              → Tells cause (given to s) (cond b (grants (selector_of (s / 8)) (each_more k pid to (members k pid (s / 8) (held_of m pid (s / 8) h)))) (refusal 303))
          alive first true = record {
            told = λ none. subst (λ (d : Counted). AreTold cause (came to (s / 8) d.members 1 ∷ []) (each_more k pid to (members k pid (s / 8) (held_of m pid (s / 8) h)))) (sym (ap (counted_there m pid (s / 8)) e))
                (more_told pid to (s / 8) h (under_held m pid s h e).1 first);
          }
          alive first false = refused cause (given to s) 303 (λ z. omega (arith, z))
