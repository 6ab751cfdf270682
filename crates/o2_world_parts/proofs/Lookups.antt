-- Look-ups in maps are those of the first pair that passes a test.
use Rattle.std.proofs.Common.{◌≡◌, ℕ, ◌+◌, Bool, true, false, [], ◌∷◌, Option, Some, None, find, option_map, refl, ap, ◌∙◌, sym, add-one}
use Rattle.std.specs.Prelude.{if◌then◌else◌, ◌==◌, is_some}
use Rattle.o2_world_parts.specs.Keys.{has_key}
use Rattle.o2_world.specs.Map.{Map, get}
use Rattle.o2_world.specs.World.{Segment}
use Rattle.o2_world.specs.Known.{live_below}

-- what a test says of the first pair, for the rest too
get_by : {X : Type 0} (b : Bool) (e : ℕ × X) (g : Option X) (f : Option (ℕ × X)) → g ≡ option_map (λ (p : ℕ × X). p.1) f → (if b then Some e.1 else g) ≡ option_map (λ (p : ℕ × X). p.1) (if b then Some e else f)
get_by true e g f h = refl
get_by false e g f h = h

pub get-find : {X : Type 0} (m : Map X) (k : ℕ) → get m k ≡ option_map (λ (e : ℕ × X). e.1) (find (λ (e : ℕ × X). e.0 == k) m)
get-find [] k = refl
get-find (e ∷ es) k = get_by (e.0 == k) e (get es k) _ (get-find es k)

pub live_below_more : (names : Map Segment) (n : ℕ) → live_below names (n + 1) ≡ (if is_some (get names n) then live_below names n + 1 else live_below names n)
unfolding live_below
live_below_more names n = rw (add-one n) refl

pub get-some : {X : Type 0} (m : Map X) (k : ℕ) (e : ℕ × X) → Some e ≡ find (has_key k) m → Some e.1 ≡ get m k
get-some {X} m k e h = ap (option_map (λ (p : ℕ × X). p.1)) h ∙ sym (get-find m k)

pub get-none : {X : Type 0} (m : Map X) (k : ℕ) → None ≡ find (has_key k) m → None ≡ get m k
get-none {X} m k h = ap (option_map (λ (p : ℕ × X). p.1)) h ∙ sym (get-find m k)

pub ruleset lookups = (get-some, get-none, live_below_more)
