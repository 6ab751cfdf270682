-- A text dies with its segment, in a world as among the names that are kept.
use Rattle.std.proofs.Common.{◌≡◌, ℕ, zero, suc, ◌+◌, ◌-◌, ◌<◌, inl, inr, Bool, true, false, cond, List, [], ◌∷◌, Option, Some, None, IsSome, is_some, option_map, get_or, if◌then◌else◌, ap, sym, ◌∙◌, refl, subst, arith}
use Rattle.std.proofs.lemmas.Bool.{false_from_ne_true}
use Rattle.o2_place.specs.declared.seg_id.SegId.{SegId}
use Rattle.o2_regions.specs.declared.held.Cause.{Cause}
use Rattle.o2_regions.specs.declared.held.Cause.TheVariants.{Loaded, Called, Alias}
use Rattle.o2_regions.specs.declared.held.Held.{Held as HeldThere}
use Rattle.o2_regions.specs.Maps.{Maps, held_at as held_there}
use Rattle.o2_segbus.specs.Guards.{AreAged}
use Rattle.o2_segbus.specs.Seen.{key_of}
use Rattle.o2_store.specs.Shelf.{Shelf, entry_of}
use Rattle.o2_changes.proofs.Keys.{live_key}
use Rattle.o2_changes.proofs.Worlds.{name_holder}
use Rattle.o2_stands.specs.Parts.{Parts, cause_of, held_in as held_here, held_of}
use Rattle.o2_stands.specs.Stands.{IsNamed as IsNamedAs, IsTidy, Matches}
use Rattle.o2_world.specs.Map.{get}
use Rattle.o2_world.specs.Changes.{told_of}
use Rattle.o2_world.specs.Holders.{is_held}
use Rattle.o2_world.specs.Known.{held_at, same_text, text_name}
use Rattle.o2_world.specs.Sound.{held_in, held_of as held_by}
use Rattle.o2_world.specs.Tied.{AreOne, IsTied}
use Rattle.o2_world.specs.World.{Held, Process, Segment, World, ByLoad}
use Rattle.o2_world.proofs.Numbers.{process_is}
use Rattle.o2_segs.proofs.Selecting.{named_live}
use Rattle.o2_shared.specs.declared.names.Name.{Name}
use Rattle.o2_shared.specs.Shares.{ShareOne}
use Rattle.o2_shared.specs.Texts.{AreInPlace, AreOnce, AreTexts, IsBehind, IsNamed, age_of, found_from}
use Rattle.o2_shared.proofs.ByName.{one_segment}
use Rattle.o2_shared.proofs.Finding.{IsFound, found_is, found_none, same_is}

-- The texts of a world.

abbrev kept_if : List Process → Option ℕ → Option ℕ
kept_if ps None = None
kept_if ps (Some q) = if is_held ps q then Some q else None

-- the first text goes or stays, and is the one that is looked for or not
told_first : (ps : List Process) (e : List ℕ × ℕ) (es rest : List (List ℕ × ℕ)) (t : List ℕ) (s h : Bool) → text_name es e.0 ≡ None → (s ≡ true → text_name es t ≡ text_name es e.0) → text_name rest t ≡ kept_if ps (text_name es t)
    → same_text e.0 t ≡ s → is_held ps e.1 ≡ h → text_name (cond h (e ∷ rest) rest) t ≡ kept_if ps (cond s (Some e.1) (text_name es t))
told_first ps e es rest t true true once one later f g = ap (λ (b : Bool). cond b (Some e.1) (text_name rest t)) f ∙ sym (ap (λ (b : Bool). cond b (Some e.1) None) g)
told_first ps e es rest t true false once one later f g = later ∙ ap (kept_if ps) (one refl ∙ once) ∙ sym (ap (λ (b : Bool). cond b (Some e.1) None) g)
told_first ps e es rest t false true once one later f g = ap (λ (b : Bool). cond b (Some e.1) (text_name rest t)) f ∙ later
told_first ps e es rest t false false once one later f g = later

told_name : (ps : List Process) (texts : List (List ℕ × ℕ)) (t : List ℕ) → AreOnce texts → text_name (told_of ps texts) t ≡ kept_if ps (text_name texts t)
told_name ps [] t once = refl
told_name ps (e ∷ es) t once =
    told_first ps e es (told_of ps es) t (same_text e.0 t) (is_held ps e.1) once.0 (λ s. ap (text_name es) (sym (same_is e.0 t s))) (told_name ps es t once.1) refl refl

told_once : (ps : List Process) (texts : List (List ℕ × ℕ)) → AreOnce texts → AreOnce (told_of ps texts)
told_once ps [] once = tt
told_once ps (e ∷ es) once = go (is_held ps e.1) (told_once ps es once.1)
  where
    go : (h : Bool) → AreOnce (told_of ps es) → AreOnce (cond h (e ∷ told_of ps es) (told_of ps es))
    go true rest = (told_name ps es e.0 once.1 ∙ ap (kept_if ps) once.0, rest)
    go false rest = rest

-- The names that are kept.

module _ (s u : Shelf) (m : Maps) (names : List (Option Name)) (places : AreInPlace s m names) (behind : IsBehind s u) where
  pub lived : (place : ℕ) (k : Name) → IsNamed u names place k → IsNamed s names place k
  lived place k named = record { there = named.there; lives = behind.lived k.id (places.older place k named.there) named.lives }

  none_dies : (t : List ℕ) → found_from s t names 4096 ≡ None → found_from u t names 4096 ≡ None
  none_dies t e = go (found_from u t names 4096) refl
    where
      go : (o : Option (ℕ × SegId)) → found_from u t names 4096 ≡ o → o ≡ None
      go None f = refl
      go (Some g) f =
          let x = found_is u t names 4096 g f in
          absurd (found_none s names 4096 x.place x.name (subst (λ (y : List ℕ). found_from s y names 4096 ≡ None) (sym x.text) e) (lived x.place x.name x.named))

  -- it is found as long as it lives
  found_dies : (t : List ℕ) (f : ℕ × SegId) (alive : Bool) → found_from s t names 4096 ≡ Some f → is_some (entry_of u f.1) ≡ alive → found_from u t names 4096 ≡ cond alive (Some f) None
  found_dies t f alive e is = go (found_from u t names 4096) refl alive is
    where
      x : IsFound s t names 4096 f
      x = found_is s t names 4096 f e

      -- what is found is the same
      one : (g : ℕ × SegId) → found_from u t names 4096 ≡ Some g → g ≡ f
      one g found =
          let y = found_is u t names 4096 g found in
          let place : y.place ≡ x.place = places.once y.place x.place y.name x.name (lived y.place y.name y.named) x.named (y.text ∙ sym x.text) in
          let z : Some y.name ≡ Some x.name = sym y.named.there ∙ ap (λ (i : ℕ). get_or names i None) place ∙ x.named.there in
          let name : y.name ≡ x.name = cc in
          let index : g.0 ≡ f.0 = y.index_is ∙ ap (λ (i : ℕ). 4096 + i) place ∙ sym x.index_is in
          let id : g.1 ≡ f.1 = y.id_is ∙ ap (λ (k : Name). k.id) name ∙ sym x.id_is in
          ap (λ (i : ℕ). let p : ℕ × SegId = (i, g.1) in p) index ∙ ap (λ (j : SegId). let p : ℕ × SegId = (f.0, j) in p) id

      go : (o : Option (ℕ × SegId)) → found_from u t names 4096 ≡ o → (b : Bool) → is_some (entry_of u f.1) ≡ b → o ≡ cond b (Some f) None
      go (Some g) found true is = ap (λ (p : ℕ × SegId). Some p) (one g found)
      go (Some g) found false is =
          let y = found_is u t names 4096 g found in
          let a : is_some (entry_of u f.1) ≡ true = ap (λ (j : SegId). is_some (entry_of u j)) (sym (ap (λ (p : ℕ × SegId). p.1) (one g found)) ∙ y.id_is) ∙ y.named.lives in
          let z : false ≡ true = sym is ∙ a in
          absurd (cc)
      go None found false is = refl
      go None found true is = absurd (found_none u names 4096 x.place x.name (subst (λ (y : List ℕ). found_from u y names 4096 ≡ None) (sym x.text) found) (record { there = x.named.there; lives = ap (λ (j : SegId). is_some (entry_of u j)) (sym x.id_is) ∙ is }))

-- Who holds a name in a world, and which segments live.

-- what a machine holds where its world does
pub held_both : (p : Parts) (w : World) (n i : ℕ) (h : Held) → Matches p w → held_at w.processes n i ≡ Some h → (k : HeldThere) × (held_there p.maps n i ≡ Some k) × (k.id.age ≡ h.name) × (cause_of k.cause ≡ h.cause)
unfolding held_here
held_both p w n i h q e = go (held_there p.maps n i) refl (sym (q.held n i) ∙ e)
  where
    go : (o : Option HeldThere) → held_there p.maps n i ≡ o → option_map (held_of p.maps n i) o ≡ Some h → (k : HeldThere) × (held_there p.maps n i ≡ Some k) × (k.id.age ≡ h.name) × (cause_of k.cause ≡ h.cause)
    go None f g = absurd (cc)
    go (Some k) f g = (let z : held_of p.maps n i k ≡ h = cc in (k, f, ap (λ (x : Held). x.name) z, ap (λ (x : Held). x.cause) z))

-- a live segment is held, and what is held lives
held_lives : (p : Parts) (w : World) (s : Shelf) (id : SegId) → Matches p w → IsTidy w.processes w.names w.reserved → AreAged s → IsBehind s p.shelf → id.age < s.made → IsSome (entry_of s id) → is_held w.processes id.age ≡ is_some (entry_of p.shelf id)
held_lives p w s id q tidy aged behind older live = go (is_held w.processes id.age) refl
  where
    named : (o : Option Segment) → IsNamedAs p (Some id.key) o → is_some o ≡ true
    named None n = absurd n
    named (Some x) n = refl

    go : (b : Bool) → is_held w.processes id.age ≡ b → b ≡ is_some (entry_of p.shelf id)
    go true e =
        let x = name_holder w.processes id.age e in
        let y = held_both p w x.0 x.1 x.2 q x.3 in
        let age : y.0.id.age ≡ id.age = y.2 ∙ x.4 in
        let there = named_live p.shelf p.maps q.ready.named x.0 x.1 y.0 y.1 in
        let before : IsSome (entry_of s y.0.id) = behind.lived y.0.id (let l : y.0.id.age < s.made = omega (arith, age) in l) there in
        let z : Some y.0.id.key ≡ Some id.key = sym (live_key s y.0.id aged before) ∙ ap (key_of s) age ∙ live_key s id aged live in
        let key : y.0.id.key ≡ id.key = cc in
        sym (sym (ap (λ (k : ℕ). is_some (entry_of p.shelf (record { key = k; age = y.0.id.age }))) key ∙ ap (λ (a : ℕ). is_some (entry_of p.shelf (record { key = id.key; age = a }))) age) ∙ there)
    go false e = sym (false_from_ne_true (is_some (entry_of p.shelf id)) (λ alive.
        (let k = live_key p.shelf id q.ready.aged alive in
        let n = subst (λ (o : Option ℕ). IsNamedAs p o (get w.names id.age)) k (q.segments id.age) in
        let z : false ≡ true = sym e ∙ tidy.used id.age (named (get w.names id.age) n) in
        absurd (cc))))

-- The law.

aged_if : (f : ℕ × SegId) (b : Bool) → cond b (Some f.1.age) None ≡ age_of (cond b (Some f) None)
aged_if f true = refl
aged_if f false = refl

pub texts_die : (s : Shelf) (m : Maps) (names : List (Option Name)) (p : Parts) (w : World) (texts : List (List ℕ × ℕ)) → AreAged s → AreInPlace s m names → IsBehind s p.shelf → AreTexts s names (text_name texts) → AreOnce texts
    → IsTidy w.processes w.names w.reserved → Matches p w → AreTexts p.shelf names (text_name (told_of w.processes texts)) × AreOnce (told_of w.processes texts)
texts_die s m names p w texts aged places behind was once tidy q = (record { each = λ t. told_name w.processes texts t once ∙ ap (kept_if w.processes) (was.each t) ∙ go t (found_from s t names 4096) refl }, told_once w.processes texts once)
  where
    go : (t : List ℕ) (o : Option (ℕ × SegId)) → found_from s t names 4096 ≡ o → kept_if w.processes (age_of (found_from s t names 4096)) ≡ age_of (found_from p.shelf t names 4096)
    go t None e = ap (λ (x : Option (ℕ × SegId)). kept_if w.processes (age_of x)) e ∙ sym (ap age_of (none_dies s p.shelf m names places behind t e))
    go t (Some f) e =
        let x = found_is s t names 4096 f e in
        let older : f.1.age < s.made = subst (λ (id : SegId). id.age < s.made) (sym x.id_is) (places.older x.place x.name x.named.there) in
        let live : IsSome (entry_of s f.1) = subst (λ (id : SegId). IsSome (entry_of s id)) (sym x.id_is) x.named.lives in
        ap (λ (y : Option (ℕ × SegId)). kept_if w.processes (age_of y)) e
        ∙ ap (λ (b : Bool). cond b (Some f.1.age) None) (held_lives p w s f.1 q tidy aged behind older live)
        ∙ aged_if f (is_some (entry_of p.shelf f.1))
        ∙ sym (ap age_of (found_dies s p.shelf m names places behind t f (is_some (entry_of p.shelf f.1)) e refl))

-- Under a shared index all that a call gave is one segment, in a world that is tied.

loaded_by : (c : Cause) → cause_of c ≡ ByLoad → c ≡ Loaded
loaded_by Loaded e = refl
loaded_by Called e = absurd (cc)
loaded_by Alias e = absurd (cc)

held_from : (ps : List Process) (n i : ℕ) (h : Held) → held_at ps n i ≡ Some h → held_in ps (n - 1) i ≡ Some h
held_from ps zero i h e = absurd (cc)
held_from ps (suc n) i h e = ap (λ (o : Option Process). held_by o i) (sym (process_is ps (suc n) (omega arith))) ∙ e

pub tied_one : (p : Parts) (w : World) → IsTied w → Matches p w → ShareOne p.maps
unfolding held_here
tied_one p w tied q = record {
  one = λ a b i h k high x y called. go a b i h k x y called
      (tied.one (a - 1) (b - 1) i (held_of p.maps a i h) (held_of p.maps b i k) high
      (held_from w.processes a i (held_of p.maps a i h) (q.held a i ∙ ap (option_map (held_of p.maps a i)) x))
      (held_from w.processes b i (held_of p.maps b i k) (q.held b i ∙ ap (option_map (held_of p.maps b i)) y)));
}
  where
    go : (a b i : ℕ) (h k : HeldThere) → held_there p.maps a i ≡ Some h → held_there p.maps b i ≡ Some k → (h.cause ≡ Loaded → ⊥) → AreOne w.names (held_of p.maps a i h) (held_of p.maps b i k) → k.id ≡ h.id
    go a b i h k x y called (inl same) = one_segment p.shelf p.maps b i a i k h q.ready.named y x (sym same)
    go a b i h k x y called (inr own) = absurd (called (loaded_by h.cause own.0.cause))
