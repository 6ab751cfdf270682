-- A name that is held is held by some process under some index.
use Rattle.std.proofs.Common.{◌≡◌, ℕ, suc, Bool, true, false, List, [], ◌∷◌, Option, Some, None, refl, arith, ◌||◌}
use Rattle.std.specs.List.{list_any}
use Rattle.o2_world.specs.Map.{Map, get}
use Rattle.o2_world.specs.World.{Process, Held}
use Rattle.o2_world.specs.Holders.{names_it, holds_name, is_held}
use Rattle.o2_world.specs.Sound.{held_in}

pub record IsUnder (name : ℕ) (held : Map Held) (es : Map Held) : Type 0 where
  pub index : ℕ
  pub hold : Held
  pub there : get held index ≡ Some hold
  pub named : hold.name ≡ name

pub record IsHeldBy (name : ℕ) (ps : List Process) : Type 0 where
  pub place : ℕ
  pub index : ℕ
  pub hold : Held
  pub there : held_in ps place index ≡ Some hold
  pub named : hold.name ≡ name

at_hold : (name i : ℕ) (held es : Map Held) (o : Option Held) → get held i ≡ o → names_it name o ≡ true → IsUnder name held es
at_hold name i held es None at e = absurd (cc)
at_hold name i held es (Some h) at e = record { index = i; hold = h; there = at; named = grind arith }

past_hold : (name : ℕ) (held es : Map Held) (e : ℕ × Held) → IsUnder name held es → IsUnder name held (e ∷ es)
past_hold name held es e x = record { index = x.index; hold = x.hold; there = x.there; named = x.named }

split_hold : (name : ℕ) (held es : Map Held) (e : ℕ × Held) (b : Bool) → names_it name (get held e.0) ≡ b
    → (b || list_any (λ (x : ℕ × Held). names_it name (get held x.0)) es) ≡ true
    → (list_any (λ (x : ℕ × Held). names_it name (get held x.0)) es ≡ true → IsUnder name held es) → IsUnder name held (e ∷ es)
split_hold name held es e true is any rest = at_hold name e.0 held (e ∷ es) (get held e.0) refl is
split_hold name held es e false is any rest = past_hold name held es e (rest any)

under_any : (name : ℕ) (held es : Map Held) → list_any (λ (x : ℕ × Held). names_it name (get held x.0)) es ≡ true → IsUnder name held es
under_any name held [] e = absurd (cc)
under_any name held (x ∷ es) e = split_hold name held es x (names_it name (get held x.0)) refl e (under_any name held es)

pub under : (name : ℕ) (held : Map Held) → holds_name held name ≡ true → IsUnder name held held
unfolding holds_name
under name held e = under_any name held held e

at_process : (name : ℕ) (p : Process) (ps : List Process) → IsUnder name p.held p.held → IsHeldBy name (p ∷ ps)
at_process name p ps x = record { place = 0; index = x.index; hold = x.hold; there = x.there; named = x.named }

past_process : (name : ℕ) (p : Process) (ps : List Process) → IsHeldBy name ps → IsHeldBy name (p ∷ ps)
past_process name p ps x = record { place = suc x.place; index = x.index; hold = x.hold; there = x.there; named = x.named }

split_process : (name : ℕ) (p : Process) (ps : List Process) (b : Bool) → holds_name p.held name ≡ b → (b || is_held ps name) ≡ true
    → (is_held ps name ≡ true → IsHeldBy name ps) → IsHeldBy name (p ∷ ps)
split_process name p ps true is any rest = at_process name p ps (under name p.held is)
split_process name p ps false is any rest = past_process name p ps (rest any)

pub held_by : (name : ℕ) (ps : List Process) → is_held ps name ≡ true → IsHeldBy name ps
held_by name [] e = absurd (cc)
held_by name (p ∷ ps) e = split_process name p ps (holds_name p.held name) refl e (held_by name ps)
