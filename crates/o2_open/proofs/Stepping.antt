-- One module more of those that a machine file names.
use Rattle.std.proofs.Common.{◌≡◌, ℕ, ◌+◌, ◌<◌, List, [], ◌∷◌, ◌++◌, drop, get_or, length, ap, sym, ◌∙◌, refl, add-one}
use Rattle.std.specs.Prelude.{Result, Ok}
use Rattle.std.proofs.Math.Seq.{drop-cons}
use Rattle.o2_image.specs.Parts.{Parts}
use Rattle.o2_open.specs.declared.fault.OpenFault.{OpenFault}
use Rattle.o2_open.specs.Loads.{Contents, machine_in, module_in, modules_in, linked_in, run_loaded, ◌>>=◌}
use Rattle.o2_conf.specs.declared.conf.Conf.{Conf}

first_of : (names : List (List ℕ)) (k : ℕ) (d : List ℕ) → k < length names → drop k names ≡ get_or names k d ∷ drop (k + 1) names
first_of names k d h = rw (drop-cons names k d h, add-one) refl

pub one_more : (contents : Contents) (names : List (List ℕ)) (k : ℕ) (d : List ℕ) (m : Parts) (so_far next : List Parts) (total : Result (List Parts) OpenFault) → k < length names
    → module_in contents (get_or names k d) ≡ Ok m → next ≡ so_far ++ m ∷ [] → modules_in contents (drop k names) so_far ≡ total → modules_in contents (drop (k + 1) names) next ≡ total
one_more contents names k d m so_far next total h e n t =
    ap (modules_in contents (drop (k + 1) names)) n
    ∙ sym (ap (λ (r : Result Parts OpenFault). r >>= (λ x. modules_in contents (drop (k + 1) names) (so_far ++ x ∷ []))) e)
    ∙ sym (ap (λ xs. modules_in contents xs so_far) (first_of names k d h))
    ∙ t

pub run_is : (contents : Contents) (name : List ℕ) (c : Conf) (ms : List Parts) → machine_in contents name ≡ Ok c → modules_in contents c.modules [] ≡ Ok ms → run_loaded contents name ≡ linked_in c ms
run_is contents name c ms m p = ap (λ (r : Result Conf OpenFault). r >>= (λ k. modules_in contents k.modules [] >>= linked_in k)) m ∙ ap (λ (r : Result (List Parts) OpenFault). r >>= linked_in c) p
