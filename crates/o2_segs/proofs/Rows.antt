-- What the rows come to, by what is held under a selector.
use Rattle.std.proofs.Common.{◌≡◌, ℕ, zero, suc, ◌/◌, ◌≤◌, ◌||◌, ◌==◌, Option, Some, None, Bool, true, false, eqb, nat_le, not, option_map, List, map, refl, sym, ap, ◌∙◌, subst, arith}
use Rattle.std.proofs.lemmas.Bool.{cond-true, cond-false, ne_eqb}
use Rattle.o2_base.specs.Selectors.{selector_of}
use Rattle.o2_desc.specs.Bits.{is_writable, readable_code}
use Rattle.o2_desc.specs.Choice.{chosen}
use Rattle.o2_isa.specs.declared.cpu.Cpu.{Cpu}
use Rattle.o2_place.specs.declared.seg_id.SegId.{SegId}
use Rattle.o2_regions.specs.declared.answer.Answer.{Answer}
use Rattle.o2_regions.specs.declared.held.Held.{Held as HeldThere}
use Rattle.o2_regions.specs.declared.held.Region.{Region}
use Rattle.o2_regions.specs.declared.held.Region.TheVariants.{Private, Shared}
use Rattle.o2_regions.specs.Maps.{Maps, held_at, is_taken}
use Rattle.o2_segbus.specs.Seen.{AreNamed}
use Rattle.o2_store.specs.Shelf.{Shelf, entry}
use Rattle.o2_changes.specs.Holding.{rights_at}
use Rattle.o2_changes.specs.Worlds.{MatchesHold}
use Rattle.o2_stands.specs.Stands.{Matches}
use Rattle.o2_world.specs.World.{Held, Process, World}
use Rattle.o2_world.specs.Holders.{process_at}
use Rattle.o2_world.specs.Known.{Marks}
use Rattle.o2_world.specs.Changes.{Change, Drops, with_all, with_changes}
use Rattle.o2_world.specs.Rulings.{Ruling, aliasing, aliasing_at, aliasing_of, free_index, freed_cpu, freeing, freeing_cpu, freeing_of, grants, dropped_indexes, refusal, sizing, sizing_of, sizing_with}
use Rattle.o2_stands.specs.Knows.{Others, known_in, region_by}
use Rattle.o2_stands.specs.Parts.{Parts, held_of}
use Rattle.o2_segs.specs.Answers.{Answers, alias_of}
use Rattle.o2_segs.specs.Members.{MatchesFree, MayLose, members_in}
use Rattle.o2_segs.proofs.Selecting.{marks_are, under, under_is}

abbrev refused : ℕ → Answer
refused error = record { error = error; value = 0 }

abbrev given : ℕ → Answer
given value = record { error = 0; value = value }

-- DosSizeSeg

pub size_none : (p : Parts) (o : Others) (pid s : ℕ) → under p.maps pid s ≡ None → Answers (sizing (known_in p o) pid s) (record { error = 5; value = 0 })
size_none p o pid s e =
    subst (λ (x : Option Held). Answers (sizing_of (known_in p o) x) (refused 5)) (sym (under_is p o pid s ∙ ap (option_map (held_of p.maps pid (s / 8))) e)) (record { error = refl; value = refl })

pub size_some : (p : Parts) (o : Others) (pid s : ℕ) (h : HeldThere) (size : ℕ) → AreNamed p.shelf p.maps → under p.maps pid s ≡ Some h → held_at p.maps pid (s / 8) ≡ Some h → size ≡ (entry p.shelf h.id.key).size
    → Answers (sizing (known_in p o) pid s) (record { error = 0; value = size })
size_some p o pid s h size named e there is =
    subst (λ (x : Option Held). Answers (sizing_of (known_in p o) x) (given size)) (sym (under_is p o pid s ∙ ap (option_map (held_of p.maps pid (s / 8))) e))
    (subst (λ (m : Option Marks). Answers (sizing_with m) (given size)) (sym (marks_are p o named pid (s / 8) h there)) (record { error = refl; value = is }))

-- DosCreateCSAlias

region_own : (pid : ℕ) → 1 ≤ pid → region_by pid ≡ Private pid
region_own zero l = absurd (omega arith)
region_own (suc n) l = refl

pub own_index : (p : Parts) (o : Others) (pid : ℕ) → 1 ≤ pid → free_index (known_in p o) pid ≡ chosen (is_taken p.maps (Private pid)) 1 4096 1
own_index p o pid l =
    cond-false (eqb pid 0) (chosen (λ i. is_taken p.maps Shared i) 4096 8192 1) (chosen (λ i. is_taken p.maps (region_by pid) i) 1 4096 1) (ne_eqb pid 0 (omega arith))
    ∙ ap (λ (g : Region). chosen (is_taken p.maps g) 1 4096 1) (region_own pid l)

pub alias_none : (p : Parts) (o : Others) (pid s : ℕ) → under p.maps pid s ≡ None → aliasing (known_in p o) pid s ≡ refusal 5
alias_none p o pid s e = ap (aliasing_of (known_in p o) pid (s / 8)) (under_is p o pid s ∙ ap (option_map (held_of p.maps pid (s / 8))) e)

pub alias_refused : (p : Parts) (o : Others) (pid s : ℕ) (h : HeldThere) → under p.maps pid s ≡ Some h
    → (nat_le 4096 (s / 8) || (not (is_writable (rights_at p.maps pid (s / 8))) || not (h.reserved == 0))) ≡ true → aliasing (known_in p o) pid s ≡ refusal 5
alias_refused p o pid s h e t =
    ap (aliasing_of (known_in p o) pid (s / 8)) (under_is p o pid s ∙ ap (option_map (held_of p.maps pid (s / 8))) e)
    ∙ cond-true (nat_le 4096 (s / 8) || (not (is_writable (rights_at p.maps pid (s / 8))) || not (h.reserved == 0))) (refusal 5) (aliasing_at pid h.id.age (free_index (known_in p o) pid)) t

pub alias_tried : (p : Parts) (o : Others) (pid s : ℕ) (h : HeldThere) → 1 ≤ pid → under p.maps pid s ≡ Some h
    → (nat_le 4096 (s / 8) || (not (is_writable (rights_at p.maps pid (s / 8))) || not (h.reserved == 0))) ≡ false
    → aliasing (known_in p o) pid s ≡ aliasing_at pid h.id.age (chosen (is_taken p.maps (Private pid)) 1 4096 1)
alias_tried p o pid s h some e t =
    ap (aliasing_of (known_in p o) pid (s / 8)) (under_is p o pid s ∙ ap (option_map (held_of p.maps pid (s / 8))) e)
    ∙ cond-false (nat_le 4096 (s / 8) || (not (is_writable (rights_at p.maps pid (s / 8))) || not (h.reserved == 0))) (refusal 5) (aliasing_at pid h.id.age (free_index (known_in p o) pid)) t
    ∙ ap (aliasing_at pid h.id.age) (own_index p o pid some)

-- what an alias leaves, by the index that is chosen
pub alias_answers : (p : Parts) (pid age : ℕ) (a : Answer) (c : Option ℕ) → (c ≡ None → a ≡ record { error = 8; value = 0 }) → ((i : ℕ) → c ≡ Some i → a ≡ record { error = 0; value = selector_of i })
    → Answers (aliasing_at pid age c) a
alias_answers p pid age a None full aliased = record { error = ap (λ (x : Answer). x.error) (full refl); value = ap (λ (x : Answer). x.value) (full refl) }
alias_answers p pid age a (Some i) full aliased = record { error = ap (λ (x : Answer). x.error) (aliased i refl); value = ap (λ (x : Answer). x.value) (aliased i refl) }

pub alias_matches : (p : Parts) (n : Maps) (pid : ℕ) (id : SegId) (c : Option ℕ) (w : World) (x : Process) → (c ≡ None → n ≡ p.maps) → ((i : ℕ) → c ≡ Some i → MatchesHold p.shelf p.maps n pid i (alias_of id) readable_code)
    → process_at w.processes pid ≡ Some x → Matches p w → Matches (record p { maps = n }) (with_all w (aliasing_at pid id.age c).changes)
unfolding with_changes
alias_matches p n pid id None w x full aliased at m = subst (λ (y : Maps). Matches (record p { maps = y }) w) (sym (full refl)) m
alias_matches p n pid id (Some i) w x full aliased at m = (aliased i refl).world p w x refl refl at (λ writable. absurd (cc)) m

-- DosFreeSeg

pub free_none : (p : Parts) (o : Others) (pid s : ℕ) (c : Cpu) → under p.maps pid s ≡ None → freeing (known_in p o) pid s c ≡ refusal 5
free_none p o pid s c e = ap (freeing_of (known_in p o) pid s c) (under_is p o pid s ∙ ap (option_map (held_of p.maps pid (s / 8))) e)

-- an error takes nothing from the registers
pub free_kept : (p : Parts) (o : Others) (pid s : ℕ) (c : Cpu) → freeing (known_in p o) pid s c ≡ refusal 5 → c ≡ freeing_cpu (known_in p o) pid s c
free_kept p o pid s c e = ap (λ (r : Ruling). freed_cpu (known_in p o) pid (dropped_indexes r.changes) c) (sym e)

-- An error, and what it leaves.

pub refusal_answers : (r : Ruling) (error : ℕ) (a : Answer) → r ≡ refusal error → a ≡ record { error = error; value = 0 } → Answers r a
refusal_answers r error a e is = record { error = ap (λ (x : Answer). x.error) is ∙ sym (ap (λ (x : Ruling). x.error) e); value = ap (λ (x : Answer). x.value) is ∙ sym (ap (λ (x : Ruling). x.value) e) }

pub done_answers : (r : Ruling) (changes : List Change) (value : ℕ) (a : Answer) → r ≡ grants value changes → a ≡ record { error = 0; value = value } → Answers r a
done_answers r changes value a e is = record { error = ap (λ (x : Answer). x.error) is ∙ sym (ap (λ (x : Ruling). x.error) e); value = ap (λ (x : Answer). x.value) is ∙ sym (ap (λ (x : Ruling). x.value) e) }

pub refusal_matches : (p : Parts) (s : Shelf) (m : Maps) (w : World) (r : Ruling) (error : ℕ) → p.shelf ≡ s → p.maps ≡ m → r ≡ refusal error → Matches p w → Matches (record p { shelf = s; maps = m }) (with_all w r.changes)
unfolding with_changes
refusal_matches p s m w r error es em e q =
    subst (λ (x : Ruling). Matches (record p { shelf = s; maps = m }) (with_all w x.changes)) (sym e)
    (subst (λ (x : Shelf). Matches (record p { shelf = x; maps = m }) w) es (subst (λ (x : Maps). Matches (record p { maps = x }) w) em q))

pub refusal_maps : (p : Parts) (m : Maps) (w : World) (r : Ruling) (error : ℕ) → p.maps ≡ m → r ≡ refusal error → Matches p w → Matches (record p { maps = m }) (with_all w r.changes)
refusal_maps p m w r error em e q = refusal_matches p p.shelf m w r error refl em e q

pub refusal_shelf : (p : Parts) (s : Shelf) (w : World) (r : Ruling) (error : ℕ) → p.shelf ≡ s → r ≡ refusal error → Matches p w → Matches (record p { shelf = s }) (with_all w r.changes)
refusal_shelf p s w r error es e q = refusal_matches p s p.maps w r error es refl e q

pub at_maps : (p : Parts) (m : Maps) (pid s : ℕ) (h : Option HeldThere) → p.maps ≡ m → under m pid s ≡ h → under p.maps pid s ≡ h
at_maps p m pid s h em e = subst (λ (x : Maps). under x pid s ≡ h) (sym em) e

-- the tests of an alias by the maps of a machine
pub at_rights : (p : Parts) (m : Maps) (pid s : ℕ) (h : HeldThere) (b : Bool) → p.maps ≡ m → (nat_le 4096 (s / 8) || (not (is_writable (rights_at m pid (s / 8))) || not (h.reserved == 0))) ≡ b
    → (nat_le 4096 (s / 8) || (not (is_writable (rights_at p.maps pid (s / 8))) || not (h.reserved == 0))) ≡ b
at_rights p m pid s h b em e = subst (λ (x : Maps). (nat_le 4096 (s / 8) || (not (is_writable (rights_at x pid (s / 8))) || not (h.reserved == 0))) ≡ b) (sym em) e

pub alias_all_answers : (p : Parts) (o : Others) (m : Maps) (pid s : ℕ) (h : HeldThere) (a : Answer) → 1 ≤ pid → p.maps ≡ m → under m pid s ≡ Some h
    → (nat_le 4096 (s / 8) || (not (is_writable (rights_at m pid (s / 8))) || not (h.reserved == 0))) ≡ false
    → (chosen (is_taken m (Private pid)) 1 4096 1 ≡ None → a ≡ record { error = 8; value = 0 })
    → ((i : ℕ) → chosen (is_taken m (Private pid)) 1 4096 1 ≡ Some i → a ≡ record { error = 0; value = selector_of i }) → Answers (aliasing (known_in p o) pid s) a
alias_all_answers p o m pid s h a some em e t full aliased =
    subst (λ (r : Ruling). Answers r a) (sym (alias_tried p o pid s h some (at_maps p m pid s (Some h) em e) (at_rights p m pid s h false em t)))
    (subst (λ (x : Maps). Answers (aliasing_at pid h.id.age (chosen (is_taken x (Private pid)) 1 4096 1)) a) (sym em) (alias_answers p pid h.id.age a (chosen (is_taken m (Private pid)) 1 4096 1) full aliased))

pub alias_all_matches : (p : Parts) (o : Others) (sh : Shelf) (m n : Maps) (pid s : ℕ) (h : HeldThere) (w : World) (x : Process) → 1 ≤ pid → p.shelf ≡ sh → p.maps ≡ m → under m pid s ≡ Some h
    → (nat_le 4096 (s / 8) || (not (is_writable (rights_at m pid (s / 8))) || not (h.reserved == 0))) ≡ false
    → (chosen (is_taken m (Private pid)) 1 4096 1 ≡ None → n ≡ m)
    → ((i : ℕ) → chosen (is_taken m (Private pid)) 1 4096 1 ≡ Some i → MatchesHold sh m n pid i (alias_of h.id) readable_code)
    → process_at w.processes pid ≡ Some x → Matches p w → Matches (record p { maps = n }) (with_all w (aliasing (known_in p o) pid s).changes)
alias_all_matches p o sh m n pid s h w x some es em e t full aliased at q =
    subst (λ (r : Ruling). Matches (record p { maps = n }) (with_all w r.changes)) (sym (alias_tried p o pid s h some (at_maps p m pid s (Some h) em e) (at_rights p m pid s h false em t)))
    (alias_matches p n pid h.id (chosen (is_taken p.maps (Private pid)) 1 4096 1) w x
    (subst (λ (y : Maps). chosen (is_taken y (Private pid)) 1 4096 1 ≡ None → n ≡ y) (sym em) full)
    (subst (λ (y : Maps). (i : ℕ) → chosen (is_taken y (Private pid)) 1 4096 1 ≡ Some i → MatchesHold p.shelf y n pid i (alias_of h.id) readable_code) (sym em)
    (subst (λ (z : Shelf). (i : ℕ) → chosen (is_taken m (Private pid)) 1 4096 1 ≡ Some i → MatchesHold z m n pid i (alias_of h.id) readable_code) (sym es) aliased)) at q)

-- the free of all that is held under an index
pub all_matches : (p : Parts) (o : Others) (sh t : Shelf) (m n : Maps) (pid s i : ℕ) (c : Cpu) (h : HeldThere) (w : World) (x : Process)
    → freeing (known_in p o) pid s c ≡ grants 0 (map (λ (j : ℕ). Drops pid j 1) (members_in m pid i h)) → i ≡ s / 8 → MatchesFree sh t m n pid i h
    → p.shelf ≡ sh → p.maps ≡ m → process_at w.processes pid ≡ Some x → MayLose w pid (s / 8) → Matches p w → Matches (record p { shelf = t; maps = n }) (with_all w (freeing (known_in p o) pid s c).changes)
all_matches p o sh t m n pid s i c h w x e is frees es em at loses q =
    subst (λ (r : Ruling). Matches (record p { shelf = t; maps = n }) (with_all w r.changes)) (sym e)
    (frees.world p w x es em at (subst (MayLose w pid) (sym is) loses) q)
