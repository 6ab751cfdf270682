-- Reading item by item, each of which may be refused, and what a function gives of a reading.
use Rattle.std.specs.Prelude.{◌≡◌, ℕ, List, Bool, Option, Some, None, Result, Ok, Err, if◌then◌else◌}
use Rattle.toml.specs.Data.{Data, Items, no_items, item, Members, no_members, member}
use Rattle.o2_base.specs.declared.memory.Fail.{Fail}
use Rattle.o2_base.specs.declared.memory.Fail.TheVariants.{Bad, NoMemory}

-- first the one reading and then the other, or the first fault
infixl 10 ◌>>=◌
abbrev pub ◌>>=◌ : {A B F : Type 0} → Result A F → (A → Result B F) → Result B F
(Ok x) >>= f = f x
(Err e) >>= f = Err e

abbrev pub some_or : {X F : Type 0} → Option X → F → Result X F
some_or (Some x) fault = Ok x
some_or None fault = Err fault

abbrev pub within : {X F : Type 0} → Bool → X → F → Result X F
within holds x fault = if holds then Ok x else Err fault

-- the state after each item in turn, or the fault of the first that fails
unfoldable pub each : {S F : Type 0} → (Data → S → Result S F) → Items → S → Result S F
each f no_items s = Ok s
each f (item d ds) s = f d s >>= each f ds

-- the same over the members of a table, which stand by rising keys
unfoldable pub each_member : {S F : Type 0} → (List ℕ → Data → S → Result S F) → Members → S → Result S F
each_member f no_members s = Ok s
each_member f (member k d ms) s = f k d s >>= each_member f ms

-- Memory ran out, or the fault is that of the reading.
abbrev pub Fails : {Y F : Type 0} → Fail F → Result Y F → Type 0
Fails NoMemory read = Unit {0}
Fails (Bad fault) read = read ≡ Err fault

-- What a function returned, seen by view, is what the reading gives, unless memory ran out.
abbrev pub Gives : {X Y F : Type 0} → (X → Y) → Result X (Fail F) → Result Y F → Type 0
Gives view (Ok x) read = read ≡ Ok (view x)
Gives view (Err e) read = Fails e read
