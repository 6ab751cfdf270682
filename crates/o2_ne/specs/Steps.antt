-- Reading by steps, each of which may fail, and what a function gives of it.
use Rattle.std.specs.Prelude.{◌≡◌, ℕ, zero, suc, ◌+◌, List, [], ◌∷◌, Result, Ok, Err}
use Rattle.o2_base.specs.declared.memory.Fail.{Fail}
use Rattle.o2_base.specs.declared.memory.Fail.TheVariants.{Bad, NoMemory}
use Rattle.o2_ne.specs.Checks.{◌>>=◌}

-- n steps from a state, or the fault of the first step that fails
unfoldable pub steps : {S F : Type 0} → (S → Result S F) → ℕ → S → Result S F
steps f zero s = Ok s
steps f (suc n) s = f s >>= steps f n

-- the items in turn, from a state, or the fault of the first that fails
unfoldable pub over : {X S F : Type 0} → (X → S → Result S F) → List X → S → Result S F
over f [] s = Ok s
over f (x ∷ xs) s = f x s >>= over f xs

-- Memory ran out, or the fault is that of the reading.
abbrev pub Fails : {Y F : Type 0} → Fail F → Result Y F → Type 0
Fails NoMemory read = Unit {0}
Fails (Bad f) read = read ≡ Err f

-- What a function returned, seen by view, is what the reading gives, unless memory ran out.
abbrev pub Gives : {X Y F : Type 0} → (X → Y) → Result X (Fail F) → Result Y F → Type 0
Gives view (Ok x) read = read ≡ Ok (view x)
Gives view (Err e) read = Fails e read

-- f at i, i + 1 and so on, n of them
unfoldable pub tabulate : {X : Type 0} → (ℕ → X) → ℕ → ℕ → List X
tabulate f i zero = []
tabulate f i (suc n) = f i ∷ tabulate f (i + 1) n
