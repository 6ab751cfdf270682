-- What a swap device over a file was asked for, the last first, and what its blocks hold by that.
use Rattle.std.specs.Prelude.{ℕ, Bool, true, false, List, [], ◌∷◌, if◌then◌else◌, ◌==◌, ◌&&◌, replicate}
use Rattle.std.specs.Str.{bytes_eq}
use Rattle.o2_outer.specs.declared.swap.Dev.{Dev}
use Rattle.o2_outer.specs.declared.swap.Dev.TheVariants as dev
use Rattle.o2_outer.specs.declared.access.Access.{Access}
use Rattle.o2_outer.specs.declared.access.Access.TheVariants.{Read, Written, Lost}

-- a block, what was done with it, and the bytes
abbrev pub Accessed : Type 0
Accessed = ℕ × (Access × List ℕ)

-- what a block holds behind an access of it; zeros where a write failed
abbrev pub held : Access → (bytes before : List ℕ) → List ℕ
held Read bytes before = before
held Written bytes before = bytes
held Lost bytes before = replicate 512 0

-- what was written last, and zeros before the first write
abbrev pub content : List Accessed → ℕ → List ℕ
content [] b = replicate 512 0
content (a ∷ rest) b = if a.0 == b then held a.1.0 a.1.1 (content rest b) else content rest b

-- whether a block is known behind an access of it: behind a write that was done, but not behind one that failed
abbrev pub knows : Access → (before : Bool) → Bool
knows Read before = before
knows Written before = true
knows Lost before = false

-- it was written, and no write of it has failed since
abbrev pub is_known : List Accessed → ℕ → Bool
is_known [] b = false
is_known (a ∷ rest) b = if a.0 == b then knows a.1.0 (is_known rest b) else is_known rest b

-- a read gave what its block held
abbrev pub agrees : Access → (bytes before : List ℕ) → Bool
agrees Read bytes before = bytes_eq bytes before
agrees Written bytes before = true
agrees Lost bytes before = true

-- each read did
abbrev pub all_agree : List Accessed → Bool
all_agree [] = true
all_agree (a ∷ rest) = agrees a.1.0 a.1.1 (content rest a.0) && all_agree rest

-- what is noted behind a read: the bytes that it gave, and nothing at a fault
abbrev pub with_read : Dev → (b : ℕ) → (bytes : List ℕ) → List Accessed → List Accessed
with_read dev.Done b bytes rest = (b, (Read, bytes)) ∷ rest
with_read dev.Failed b bytes rest = rest

-- what is noted behind a write: its bytes, done or not
abbrev pub with_write : Dev → (b : ℕ) → (bytes : List ℕ) → List Accessed → List Accessed
with_write dev.Done b bytes rest = (b, (Written, bytes)) ∷ rest
with_write dev.Failed b bytes rest = (b, (Lost, bytes)) ∷ rest
