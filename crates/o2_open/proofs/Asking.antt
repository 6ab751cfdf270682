-- Which files are asked for, one after the other.
use Rattle.std.proofs.Common.{◌≡◌, ℕ, suc, ◌+◌, ◌<◌, List, [], ◌∷◌, ◌++◌, take, get_or, length, ap, sym, ◌∙◌, subst}
use Rattle.std.specs.Prelude.{Result, Ok}
use Rattle.std.proofs.lemmas.List.{append-nil, append_assoc, take_more}
use Rattle.o2_conf.specs.declared.conf.Conf.{Conf}
use Rattle.o2_open.specs.declared.fault.OpenFault.{OpenFault}
use Rattle.o2_open.specs.Names.{AsksFirst, listed}

pub asked_none : (names before : List (List ℕ)) → before ≡ before ++ take 0 names
asked_none names before = sym (append-nil before)

pub asks_none : (names before after : List (List ℕ)) → after ≡ before → AsksFirst names before after
asks_none names before after same = record { count = 0; asked = same ∙ asked_none names before }

-- one more
pub asked_more : (names before mid after : List (List ℕ)) (k : ℕ) (d : List ℕ) → k < length names → mid ≡ before ++ take k names → after ≡ mid ++ get_or names k d ∷ []
    → after ≡ before ++ take (k + 1) names
asked_more names before mid after k d l same more =
    more ∙ ap (λ (xs : List (List ℕ)). xs ++ get_or names k d ∷ []) same ∙ append_assoc before (take k names) (get_or names k d ∷ [])
    ∙ ap (λ (xs : List (List ℕ)). before ++ xs) (sym (take_more names k d l))

-- a name, and then the first ones of others
pub asks_next : (name : List ℕ) (names before mid after : List (List ℕ)) → mid ≡ before ++ name ∷ [] → AsksFirst names mid after → AsksFirst (name ∷ names) before after
asks_next name names before mid after same a = record {
  count = suc a.count;
  asked = a.asked ∙ ap (λ (xs : List (List ℕ)). xs ++ take a.count names) same ∙ append_assoc before (name ∷ []) (take a.count names);
}

-- only one
pub asks_one : (name : List ℕ) (names before after : List (List ℕ)) → after ≡ before ++ name ∷ [] → AsksFirst (name ∷ names) before after
asks_one name names before after same = record { count = 1; asked = same }

-- the modules that a machine file lists
pub listed_in : (read : Result Conf OpenFault) (c : Conf) → read ≡ Ok c → listed read ≡ c.modules
listed_in read c e = ap listed e

-- a machine file, and the first ones of the modules that it lists
pub asks_run : (name : List ℕ) (read : Result Conf OpenFault) (c : Conf) (names before mid after : List (List ℕ)) → read ≡ Ok c → names ≡ c.modules → mid ≡ before ++ name ∷ []
    → AsksFirst names mid after → AsksFirst (name ∷ listed read) before after
asks_run name read c names before mid after is same asked a =
    asks_next name (listed read) before mid after asked (subst (λ (ns : List (List ℕ)). AsksFirst ns mid after) (same ∙ sym (listed_in read c is)) a)
