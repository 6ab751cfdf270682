-- Reach goes by what the text of the lines shows.
use Rattle.std.proofs.Common.{◌≡◌, refl, sym, ap, ap₂, ◌∙◌, ℕ, zero, suc, arith, ◌+◌, ◌-◌, ◌==◌, Bool, true, List, [], ◌∷◌, map, if◌then◌else◌}
use Rattle.o2_base.specs.Selectors.{selector_of}
use Rattle.o2_world.specs.World.{World, Line, Starts, HoldsBy, DropsBy, Calls, Exits, Ends, Traps}
use Rattle.o2_world.specs.Reach.{IsTold, came, comes, goes, holds_at, reach, tells_end, went}
use Rattle.o2_world.proofs.RunReach.{reach_is}
use Rattle.o2_read_report.specs.Plain.{shown}

shown_comes : (l : Line) (p s : ℕ) → comes (shown l) p s ≡ comes l p s
shown_comes (Starts q name) p s = refl
shown_comes (HoldsBy q t cause) p s = refl
shown_comes (DropsBy q t cause) p s = refl
shown_comes (Calls q name args error values) p s = refl
shown_comes (Exits q action code) p s = refl
shown_comes (Ends q code) p s = refl
shown_comes (Traps q vector t offset) p s = refl

shown_goes : (l : Line) (p s : ℕ) → goes (shown l) p s ≡ goes l p s
shown_goes (Starts q name) p s = refl
shown_goes (HoldsBy q t cause) p s = refl
shown_goes (DropsBy q t cause) p s = refl
shown_goes (Calls q name args error values) p s = refl
shown_goes (Exits q action code) p s = refl
shown_goes (Ends q code) p s = refl
shown_goes (Traps q vector t offset) p s = refl

shown_came : (ls : List Line) (p s : ℕ) → came (map shown ls) p s ≡ came ls p s
shown_came [] p s = refl
shown_came (l ∷ ls) p s = ap₂ (λ (a b : ℕ). a + b) (shown_comes l p s) (shown_came ls p s)

shown_went : (ls : List Line) (p s : ℕ) → went (map shown ls) p s ≡ went ls p s
shown_went [] p s = refl
shown_went (l ∷ ls) p s = ap₂ (λ (a b : ℕ). a + b) (shown_goes l p s) (shown_went ls p s)

shown_end : (ls : List Line) (p : ℕ) → tells_end (map shown ls) p ≡ tells_end ls p
shown_end [] p = refl
shown_end (Starts q name ∷ ls) p = shown_end ls p
shown_end (HoldsBy q t cause ∷ ls) p = shown_end ls p
shown_end (DropsBy q t cause ∷ ls) p = shown_end ls p
shown_end (Calls q name args error values ∷ ls) p = shown_end ls p
shown_end (Exits q action code ∷ ls) p = shown_end ls p
shown_end (Ends q code ∷ ls) p = ap (λ (b : Bool). if p == q then true else b) (shown_end ls p)
shown_end (Traps q vector t offset ∷ ls) p = ap (λ (b : Bool). if p == q then true else b) (shown_end ls p)

shown_reach : (ls : List Line) (p s : ℕ) → reach (map shown ls) p s ≡ reach ls p s
shown_reach ls p s =
    ap (λ (b : Bool). if b then 0 else came (map shown ls) p s - went (map shown ls) p s) (shown_end ls p)
    ∙ ap₂ (λ (a b : ℕ). if tells_end ls p then 0 else a - b) (shown_came ls p s) (shown_went ls p s)

pub reach_by_shown : (ls ms : List Line) → map shown ls ≡ map shown ms → (p s : ℕ) → reach ls p s ≡ reach ms p s
reach_by_shown ls ms e p s = sym (shown_reach ls p s) ∙ ap (λ (xs : List Line). reach xs p s) e ∙ shown_reach ms p s

-- number 0 is no process, and holds nothing
pub held_by_shown : (u v : World) → IsTold u → IsTold v → map shown u.lines ≡ map shown v.lines → (p i : ℕ) → holds_at u p i ≡ holds_at v p i
held_by_shown u v told tells e zero i = refl
held_by_shown u v told tells e (suc p) i =
    sym (reach_is u told (suc p) i (omega arith)) ∙ reach_by_shown u.lines v.lines e (suc p) (selector_of i) ∙ reach_is v tells (suc p) i (omega arith)
