-- The lines of an opening tell of no call.
use Rattle.std.proofs.Common.{◌≡◌, refl, sym, subst, ◌∙◌, ℕ, ◌+◌, List, [], ◌∷◌, length, Option, Some, None, if◌then◌else◌}
use Rattle.std.specs.Prelude.{Ok}
use Rattle.o2_conf.specs.declared.script.Word.{Word}
use Rattle.o2_world.specs.World.{World, Setting}
use Rattle.o2_world.specs.Opening.{hold_lines, start_lines}
use Rattle.o2_world.specs.Starts.{Built, Holding, Start, all_started, holdings, holds_as, name_in, nothing_built, opening_of, with_holding, with_holdings}
use Rattle.o2_world.proofs.OpeningSound.{Keeps, all_so_far, opened}
use Rattle.o2_ramsem_laws.specs.Told.{Place, told}
use Rattle.o2_ramsem_laws.proofs.Lines.{AreUntold, untold, untold_append}

one_lines : (b : Built) (h : Holding) (o : Option ℕ) → (holds_as b h o).lines ≡ b.lines
one_lines b h (Some name) = refl
one_lines b h None = refl

all_lines : (hs : List Holding) (b : Built) → (with_holdings b hs).lines ≡ b.lines
all_lines [] b = refl
all_lines (h ∷ hs) b = all_lines hs (with_holding b h) ∙ one_lines b h (if h.common then name_in b.made h.place h.number else None)

holds_untold : (place : Place) (p : ℕ) (selectors : List ℕ) → AreUntold place (hold_lines p selectors)
holds_untold place p [] = tt
holds_untold place p (s ∷ selectors) = (refl, holds_untold place p selectors)

module _ (place : Place) where
  abbrev IsUntoldSoFar : Built → Type 0
  IsUntoldSoFar b = AreUntold place b.lines

  abbrev IsAny : Start → Type 0
  IsAny s = Unit {0}

  started_untold : Keeps IsUntoldSoFar IsAny
  started_untold b s u is any so_far =
      let pid : ℕ = length b.processes + 1 in
      let hs = holdings pid s in
      let c = with_holdings b hs in
      untold_append place c.lines (start_lines pid s.program.name c.selectors) (subst (AreUntold place) (sym (all_lines hs b)) so_far)
      (refl, holds_untold place pid c.selectors)

  pub opening_untold : (s : Setting) (reserved : List (ℕ × ℕ)) (script : List Word) (input : List ℕ) (starts : List Start) (w : World)
      → opening_of s reserved script input starts ≡ Ok w → told place w.lines ≡ []
  unfolding all_started
  opening_untold s reserved script input starts w e =
      untold place w.lines
      (opened (λ (x : World). AreUntold place x.lines) IsUntoldSoFar reserved script s.budget input (all_started s.segments starts) w (λ b so_far. so_far)
      (all_so_far IsUntoldSoFar IsAny s.segments starts (Ok nothing_built) started_untold (λ k d less. tt) tt) e)
