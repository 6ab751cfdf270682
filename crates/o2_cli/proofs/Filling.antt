-- The processes of a machine, one after the other.
use Rattle.std.proofs.Common.{◌≡◌, ◌≤◌, ℕ, zero, suc, ◌+◌, List, [], ◌∷◌, ◌++◌, Option, Some, None, ap, ◌∙◌, refl, arith, length, length-append, map, take, add-one}
use Rattle.std.proofs.lemmas.List.{length-map}
use Rattle.std.specs.Prelude.{option_map, option_to_list, slice_get}
use Rattle.o2_isa.specs.declared.cpu.Cpu.{Cpu}
use Rattle.o2_space.specs.declared.space.Proc.{Proc}
use Rattle.o2_machine.specs.Shown.{shown_proc}

more : (xs : List Proc) (k : ℕ) → map shown_proc (take (suc k) xs) ≡ map shown_proc (take k xs) ++ option_to_list (option_map shown_proc (slice_get xs k))
more [] zero = refl
more [] (suc k) = refl
more (x ∷ xs) zero = refl
more (x ∷ xs) (suc k) = ap (λ (ys : List (Cpu × ℕ × ℕ)). shown_proc x ∷ ys) (more xs k)

pub shown_more : (xs : List Proc) (k : ℕ) → map shown_proc (take (k + 1) xs) ≡ map shown_proc (take k xs) ++ option_to_list (option_map shown_proc (slice_get xs k))
shown_more xs k = ap (λ (n : ℕ). map shown_proc (take n xs)) (add-one k) ∙ more xs k

at_most_one : {X : Type 0} (o : Option X) → length (option_to_list o) ≤ 1
at_most_one None = omega arith
at_most_one (Some x) = omega arith

pub one_at_most : {X : Type 0} (xs ys : List X) (k : ℕ) (o : Option X) → length ys ≡ length (xs ++ option_to_list o) → length xs ≤ k → length ys ≤ k + 1
one_at_most xs ys k o is few = let both = length-append xs (option_to_list o) in let one = at_most_one o in omega (arith, is, both, one, few)

pub shown_long : (rows : List (Cpu × ℕ × ℕ)) (xs : List Proc) → rows ≡ map shown_proc xs → length rows ≡ length xs
shown_long rows xs is = ap length is ∙ length-map xs shown_proc
