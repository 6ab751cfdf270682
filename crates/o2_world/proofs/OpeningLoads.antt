-- All that is held before the first step is held by load, and in no run.
use Rattle.std.proofs.Common.{◌≡◌, ℕ, ◌+◌, ◌==◌, Bool, true, false, cond, List, ◌∷◌, [], length, Option, Some, None, refl, sym, ap, ◌∙◌}
use Rattle.std.specs.Prelude.{Ok}
use Rattle.o2_conf.specs.declared.script.Word.{Word}
use Rattle.o2_world.specs.Map.{Map, get}
use Rattle.o2_world.specs.Opening.{held_by_load}
use Rattle.o2_world.specs.Sound.{held_in}
use Rattle.o2_world.specs.Starts.{Built, Holding, Start, all_started, holdings, holds_as, name_in, nothing_built, opening_of, with_holding, with_holdings}
use Rattle.o2_world.specs.World.{ByLoad, Held, Setting, World}
use Rattle.o2_world.proofs.OpeningSound.{Keeps, SoFar, all_so_far, behind, either_of, opened}

-- all that is held is held by load, and in no run
record AreLoads (b : Built) : Type 0 where
  held : (place i : ℕ) (h : Held) → held_in b.processes place i ≡ Some h → (h.cause ≡ ByLoad) × (h.reserved ≡ 0)
  so_far : (i : ℕ) (h : Held) → get b.held i ≡ Some h → (h.cause ≡ ByLoad) × (h.reserved ≡ 0)

load_more : (m : Map Held) (i : ℕ) (x : Held) → x.cause ≡ ByLoad → x.reserved ≡ 0 → ((j : ℕ) (h : Held) → get m j ≡ Some h → (h.cause ≡ ByLoad) × (h.reserved ≡ 0)) → (j : ℕ) (h : Held) → get ((i, x) ∷ m) j ≡ Some h
    → (h.cause ≡ ByLoad) × (h.reserved ≡ 0)
load_more m i x load alone old j h e = go (i == j) e
  where
    go : (t : Bool) → cond t (Some x) (get m j) ≡ Some h → (h.cause ≡ ByLoad) × (h.reserved ≡ 0)
    go true f = (let same : x ≡ h = cc in (ap (λ (y : Held). y.cause) (sym same) ∙ load, ap (λ (y : Held). y.reserved) (sym same) ∙ alone))
    go false f = old j h f

holding_loads : (b : Built) (h : Holding) (o : Option ℕ) → AreLoads b → AreLoads (holds_as b h o)
holding_loads b h (Some name) x = record { held = x.held; so_far = load_more b.held h.index (held_by_load name h.rights) refl refl x.so_far }
holding_loads b h None x = record { held = x.held; so_far = load_more b.held h.index (held_by_load b.next_name h.rights) refl refl x.so_far }

holdings_load : (hs : List Holding) (b : Built) → AreLoads b → AreLoads (with_holdings b hs)
holdings_load [] b x = x
holdings_load (h ∷ hs) b x = holdings_load hs (with_holding b h) (holding_loads b h (cond h.common (name_in b.made h.place h.number) None) x)

no_hold : (h : Held) → ◌≡◌ {A = Option Held} None (Some h) → ⊥
no_hold h e = cc

started_loads : Keeps AreLoads (λ (s : Start). Unit {0})
started_loads b s u checked fit x =
    let c : Built = with_holdings b (holdings (length b.processes + 1) s) in
    let y = holdings_load (holdings (length b.processes + 1) s) b x in
    record { held = λ place i h e. either_of (behind c.processes _ place i h e) (y.held place i h) (y.so_far i h); so_far = λ i h e. absurd (no_hold h e) }

pub opening_loads : (s : Setting) (reserved : List (ℕ × ℕ)) (script : List Word) (input : List ℕ) (starts : List Start) (w : World)
    → opening_of s reserved script input starts ≡ Ok w → (place i : ℕ) (h : Held) → held_in w.processes place i ≡ Some h → (h.cause ≡ ByLoad) × (h.reserved ≡ 0)
unfolding all_started
opening_loads s reserved script input starts w e =
    let so_far : SoFar AreLoads (all_started s.segments starts) =
    all_so_far AreLoads (λ (x : Start). Unit {0}) s.segments starts (Ok nothing_built) started_loads (λ k d l. tt) (record { held = λ place i h f. absurd (no_hold h f); so_far = λ i h f. absurd (no_hold h f) }) in
    opened (λ (x : World). (place i : ℕ) (h : Held) → held_in x.processes place i ≡ Some h → (h.cause ≡ ByLoad) × (h.reserved ≡ 0)) AreLoads reserved script s.budget input (all_started s.segments starts) w (λ b x. x.held) so_far e
