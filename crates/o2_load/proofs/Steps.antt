-- Steps of a start, one behind the other, to their end or to a refusal.
use Rattle.std.proofs.Common.{◌≡◌, ℕ, zero, suc, ◌≤◌, ◌<◌, ◌+◌, List, [], ◌∷◌, ◌++◌, length, take, drop, get_or, Option, Some, None, if◌then◌else◌, refl, sym, ◌∙◌, ap, arith, subst}
use Rattle.std.specs.Prelude.{Result, Ok, Err}
use Rattle.std.specs.Result.{IsErr, IsErrAnd}
use Rattle.std.proofs.lemmas.List.Sums.{fold-append}
use Rattle.o2_base.specs.declared.memory.Fail.{Fail}
use Rattle.o2_base.specs.declared.memory.Fail.TheVariants.{NoMemory, Bad}
use Rattle.o2_base.specs.declared.faults.ModuleFault.{ModuleFault}
use Rattle.o2_world.specs.Starts.{Built, Holding, name_in, holds_as, with_holding, with_holdings}
use Rattle.o2_load.specs.Holds.{Names, Stage, IsOver, ComesTo, Adds, AddsAll}

-- no step has fewer names
next_as : (b : Built) (h : Holding) (o : Option ℕ) → b.next_name ≤ (holds_as b h o).next_name
next_as b h None = omega arith
next_as b h (Some name) = omega arith

next_step : (b : Built) (h : Holding) → b.next_name ≤ (with_holding b h).next_name
next_step b h = next_as b h (if h.common then name_in b.made h.place h.number else None)

next_steps : (hs : List Holding) (b : Built) → b.next_name ≤ (with_holdings b hs).next_name
next_steps [] b = omega arith
next_steps (h ∷ hs) b = let one = next_step b h in let more = next_steps hs (with_holding b h) in omega (arith, one, more)

-- what is over stays so
over_more : (fault : ModuleFault) (most : ℕ) (b c : Built) → b.next_name ≤ c.next_name → IsOver fault most b → IsOver fault most c
over_more fault most b c le is = record { fault = is.fault; over = let o = is.over in omega (arith, le, o) }

-- some steps, and those behind them
pub adds_then : (first mid last : Names) (a m z : Stage) (pid : ℕ) (xs ys zs : List Holding) (r : Result (Unit {0}) (Fail ModuleFault)) → zs ≡ xs ++ ys
    → AddsAll first a mid m pid xs (Ok tt) → AddsAll mid m last z pid ys r → AddsAll first a last z pid zs r
adds_then first mid last a m z pid xs ys zs r same front back most b is =
    subst (λ (c : Built). ComesTo last z most pid c r) (sym (ap (with_holdings b) same ∙ fold-append with_holding b xs ys)) (back most (with_holdings b xs) (front most b is))

-- a refusal among the first ones
pub adds_refused : (first mid last : Names) (a m z : Stage) (pid : ℕ) (xs ys zs : List Holding) (e : Fail ModuleFault) → zs ≡ xs ++ ys
    → AddsAll first a mid m pid xs (Err e) → AddsAll first a last z pid zs (Err e)
adds_refused first mid last a m z pid xs ys zs NoMemory same adds most b is = tt
adds_refused first mid last a m z pid xs ys zs (Bad fault) same adds most b is =
    subst (λ (c : Built). IsOver fault most c) (sym (ap (with_holdings b) same ∙ fold-append with_holding b xs ys))
    (over_more fault most (with_holdings b xs) (with_holdings (with_holdings b xs) ys) (next_steps ys (with_holdings b xs)) (adds most b is))

-- as it is handed on
pub adds_handed : (first last : Names) (a z : Stage) (pid : ℕ) (hs : List Holding) (result : Result (Unit {0}) (Fail ModuleFault)) (e : Fail ModuleFault) → IsErr result → IsErrAnd result (λ f. f ≡ e)
    → AddsAll first a last z pid hs (Err e) → AddsAll first a last z pid hs result
adds_handed first last a z pid hs (Ok done) e is same adds = absurd (cc)
adds_handed first last a z pid hs (Err f) e is same adds = subst (λ (g : Fail ModuleFault). AddsAll first a last z pid hs (Err g)) (sym same) adds

take_next : (hs : List Holding) (k : ℕ) (d : Holding) → k < length hs → take (k + 1) hs ≡ take k hs ++ get_or hs k d ∷ []
take_next [] k d less = absurd (omega (arith, less))
take_next (h ∷ hs) zero d less = refl
take_next (h ∷ hs) (suc k) d less =
    let one : suc k + 1 ≡ suc (k + 1) = omega arith in
    ap (λ (n : ℕ). take n (h ∷ hs)) one ∙ ap (λ (xs : List Holding). h ∷ xs) (take_next hs k d (omega (arith, less)))

split_at : (hs : List Holding) (k : ℕ) → hs ≡ take k hs ++ drop k hs
split_at [] zero = refl
split_at [] (suc k) = refl
split_at (h ∷ hs) zero = refl
split_at (h ∷ hs) (suc k) = ap (λ (xs : List Holding). h ∷ xs) (split_at hs k)

-- one step behind the first k
pub adds_next : (first mid last : Names) (a m z : Stage) (pid : ℕ) (hs : List Holding) (k : ℕ) (h : Holding) (r : Result (Unit {0}) (Fail ModuleFault)) → k < length hs → get_or hs k h ≡ h
    → AddsAll first a mid m pid (take k hs) (Ok tt) → Adds mid m last z pid h r → AddsAll first a last z pid (take (k + 1) hs) r
adds_next first mid last a m z pid hs k h r less item front step =
    adds_then first mid last a m z pid (take k hs) (h ∷ []) (take (k + 1) hs) r (take_next hs k h less ∙ ap (λ (x : Holding). take k hs ++ x ∷ []) item) front step

-- it may be refused
pub adds_next_refused : (first mid last : Names) (a m z : Stage) (pid : ℕ) (hs : List Holding) (k : ℕ) (h : Holding) (e : Fail ModuleFault) → k < length hs → get_or hs k h ≡ h
    → AddsAll first a mid m pid (take k hs) (Ok tt) → Adds mid m last z pid h (Err e) → AddsAll first a last z pid hs (Err e)
adds_next_refused first mid last a m z pid hs k h e less item front step =
    adds_refused first last last a z z pid (take (k + 1) hs) (drop (k + 1) hs) hs e (split_at hs (k + 1)) (adds_next first mid last a m z pid hs k h (Err e) less item front step)
