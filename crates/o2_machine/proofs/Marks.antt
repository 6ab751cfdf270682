-- Those that are marked live are those whose flag the schedule has.
use Rattle.std.proofs.Common.{◌≡◌, ◌≢◌, ℕ, zero, suc, ◌-◌, ◌≤◌, ◌==◌, ◌&&◌, nat_lt, Bool, true, false, if◌then◌else◌, List, [], ◌∷◌, length, replicate, Option, Some, None, option_map, ap, sym, ◌∙◌, refl, arith, slice_index_or, slice_set}
use Rattle.std.specs.Prelude.{is_some, slice_get}
use Rattle.std.proofs.lemmas.Bool.{eq-eqb, false≢true}
use Rattle.std.proofs.lemmas.Bool.Decides.{nat_tests}
use Rattle.o2_conf.specs.Dispatch.{lives}
use Rattle.o2_image.specs.Getters.{nth}
use Rattle.o2_isa.specs.declared.cpu.Cpu.{Cpu}
use Rattle.o2_regions.specs.Lives.{lives as is_marked}
use Rattle.o2_opening.specs.Openings.{first_running}
use Rattle.o2_stands.specs.Parts.{goes_on}

number_is : (n k : ℕ) → (n == k) ≡ true → n ≡ k
number_is n k e = grind arith

-- a flag that is cleared

cleared_at : (flags : List Bool) (i : ℕ) → slice_index_or (slice_set flags i false) i false ≡ false
cleared_at [] i = refl
cleared_at (b ∷ flags) zero = refl
cleared_at (b ∷ flags) (suc i) = cleared_at flags i

other_flag : (flags : List Bool) (i j : ℕ) → j ≢ i → slice_index_or (slice_set flags i false) j false ≡ slice_index_or flags j false
other_flag [] i j other = refl
other_flag (b ∷ flags) zero zero other = absurd (other refl)
other_flag (b ∷ flags) zero (suc j) other = refl
other_flag (b ∷ flags) (suc i) zero other = refl
other_flag (b ∷ flags) (suc i) (suc j) other = other_flag flags i j (λ e. other (ap suc e))

cleared : (flags : List Bool) (pid n : ℕ) → 1 ≤ pid → lives (slice_set flags (pid - 1) false) n ≡ (if n == pid then false else lives flags n)
cleared flags pid n some = go (n == pid) (n == 0) refl refl
  where
    f : List Bool
    f = slice_set flags (pid - 1) false

    and_false : (b : Bool) → (b && false) ≡ false
    and_false true = refl
    and_false false = refl

    apart : (n == pid) ≡ false → (n == 0) ≡ false → n - 1 ≢ pid - 1
    apart e z same =
        (let zero_not : n ≢ 0 = λ x. false≢true (sym z ∙ eq-eqb n 0 x) in
        false≢true (sym e ∙ eq-eqb n pid (omega (arith, same, some, zero_not))))

    low : (x : Bool) → (n == 0) ≡ true → (nat_lt 0 n && x) ≡ false
    low x z = let is : nat_lt 0 n ≡ false = grind (arith, nat_tests) in ap (λ (b : Bool). b && x) is

    go : (b c : Bool) → (n == pid) ≡ b → (n == 0) ≡ c → lives f n ≡ (if b then false else lives flags n)
    go true c e z =
        ap (λ (k : ℕ). nat_lt 0 n && slice_index_or f (k - 1) false) (number_is n pid e)
        ∙ (ap (λ (x : Bool). nat_lt 0 n && x) (cleared_at flags (pid - 1)) ∙ and_false (nat_lt 0 n))
    go false true e z = low (slice_index_or f (n - 1) false) z ∙ sym (low (slice_index_or flags (n - 1) false) z)
    go false false e z = ap (λ (x : Bool). nat_lt 0 n && x) (other_flag flags (pid - 1) (n - 1) (apart e z))

-- behind a step of a process, by whether it goes on
pub marked_next : (olds news flags : List Bool) (pid : ℕ) (b : Bool) → 1 ≤ pid → ((n : ℕ) → is_marked olds n ≡ lives flags n)
    → ((n : ℕ) → is_marked news n ≡ (if b then is_marked olds n else (if n == pid then false else is_marked olds n)))
    → (n : ℕ) → is_marked news n ≡ lives (if b then flags else slice_set flags (pid - 1) false) n
marked_next olds news flags pid true some was now n = now n ∙ was n
marked_next olds news flags pid false some was now n =
    now n ∙ (ap (λ (x : Bool). if n == pid then false else x) (was n) ∙ sym (cleared flags pid n some))

-- a process whose flag is set has a number
pub some_number : (flags : List Bool) (n : ℕ) → lives flags n ≡ true → 1 ≤ n
some_number flags n e = grind arith

-- Before the first step.

goes_some : (o : Option Cpu) → goes_on (option_map first_running o) ≡ is_some o
goes_some None = refl
goes_some (Some c) = refl

some_at : (cs : List Cpu) (k : ℕ) → is_some (slice_get cs k) ≡ slice_index_or (replicate (length cs) true) k false
some_at [] k = refl
some_at (c ∷ cs) zero = refl
some_at (c ∷ cs) (suc k) = some_at cs k

pub all_go_on : (cs : List Cpu) (n : ℕ) → goes_on (option_map first_running (nth cs n)) ≡ lives (replicate (length cs) true) n
all_go_on cs n = go (n == 0) refl
  where
    flags : List Bool
    flags = replicate (length cs) true

    go : (b : Bool) → (n == 0) ≡ b → goes_on (option_map first_running (if b then None else slice_get cs (n - 1))) ≡ (nat_lt 0 n && slice_index_or flags (n - 1) false)
    go true e = let is : nat_lt 0 n ≡ false = grind (arith, nat_tests) in ap (λ (b : Bool). b && slice_index_or flags (n - 1) false) (sym is)
    go false e =
        let is : nat_lt 0 n ≡ true = grind (arith, nat_tests) in
        goes_some (slice_get cs (n - 1)) ∙ some_at cs (n - 1) ∙ ap (λ (b : Bool). b && slice_index_or flags (n - 1) false) (sym is)
