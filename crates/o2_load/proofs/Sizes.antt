-- The sizes of environments.
use Rattle.std.proofs.Common.{◌≡◌, ℕ, ◌<◌, ◌≤◌, ◌+◌, List, [], ◌∷◌, ◌++◌, length, refl, sym, ◌∙◌, ap, arith, length-append, subst}
use Rattle.std.specs.Prelude.{flat_map}
use Rattle.std.proofs.lemmas.List.Sums.{sum-map, sum_by-cons}
use Rattle.o2_conf.specs.declared.process.Process.{Process}
use Rattle.o2_conf.specs.Environments.{environment_front, environment_bytes, command_place}
use Rattle.o2_conf.specs.Limits.{HasEnvironment}
use Rattle.o2_conf.specs.Processes.{strings_size, environment_size}

pub strings_length : (strings : List (List ℕ)) → length (flat_map (λ (s : List ℕ). s ++ 0 ∷ []) strings) ≡ strings_size strings
strings_length [] = refl
strings_length (s ∷ ss) =
    let all : length (flat_map (λ (s : List ℕ). s ++ 0 ∷ []) (s ∷ ss)) ≡ length (s ++ 0 ∷ []) + length (flat_map (λ (s : List ℕ). s ++ 0 ∷ []) ss) =
    length-append (s ++ 0 ∷ []) (flat_map (λ (s : List ℕ). s ++ 0 ∷ []) ss) in
    let one = length-append s (0 ∷ []) in
    let size : strings_size (s ∷ ss) ≡ (length s + 1) + strings_size ss =
    sum-map (λ s. length s + 1) (s ∷ ss) ∙ sum_by-cons (λ s. length s + 1) s ss ∙ ap (λ (n : ℕ). (length s + 1) + n) (sym (sum-map (λ s. length s + 1) ss)) in
    omega (arith, all, one, size, strings_length ss)

pub front_length : (strings : List (List ℕ)) → length (environment_front strings) ≡ strings_size strings + 1
front_length strings =
    let all = length-append (flat_map (λ (s : List ℕ). s ++ 0 ∷ []) strings) (0 ∷ []) in
    omega (arith, all, strings_length strings)

pub front_size : (p : Process) → command_place p ≡ strings_size p.environment + 1
front_size p = front_length p.environment

parts_length : (name arguments front : List ℕ) (n : ℕ) → length front ≡ n + 1 → length (front ++ name ++ 0 ∷ [] ++ arguments ++ 0 ∷ 0 ∷ []) ≡ (length name + length arguments + 4) + n
parts_length name arguments front n e =
    let zero = length-append front name in
    let one = length-append (front ++ name) (0 ∷ []) in
    let two = length-append (front ++ name ++ 0 ∷ []) arguments in
    let three = length-append (front ++ name ++ 0 ∷ [] ++ arguments) (0 ∷ 0 ∷ []) in
    omega (arith, e, zero, one, two, three)

pub bytes_length : (p : Process) → length (environment_bytes p) ≡ environment_size p.«module» p.arguments p.environment
bytes_length p = parts_length p.«module» p.arguments (environment_front p.environment) (strings_size p.environment) (front_length p.environment)

pub bytes_size : (p : Process) → HasEnvironment p → length (environment_bytes p) ≤ 65536
bytes_size p fits = subst (λ (n : ℕ). n ≤ 65536) (sym (bytes_length p)) fits

-- an environment ends with two zero bytes
pub bytes_some : (p : Process) → 0 < length (environment_bytes p)
bytes_some p = omega (arith, bytes_length p)
