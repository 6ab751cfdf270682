-- Services by their numbers and names.
use Rattle.std.proofs.Common.{◌≡◌, ℕ, zero, suc, ◌+◌, ◌-◌, ◌≤◌, ◌<◌, ◌&&◌, Bool, true, false, List, [], ◌∷◌, ◌++◌, Option, Some, None, length, get_or, take, drop, map, refl, sym, ap, ◌∙◌, arith, drop-cons, add-one, slice_get, bytes_eq}
use Rattle.std.specs.Prelude.{nat_le}
use Rattle.std.specs.List.{position_from, list_all}
use Rattle.std.proofs.Math.Seq.{take-suc}
use Rattle.std.proofs.lemmas.Bool.{leb-true, le-leb}
use Rattle.std.proofs.lemmas.Option.{slice_get_within, get_or_from_slice_get}
use Rattle.std.proofs.lemmas.List.{map-append}
use Rattle.o2_base.specs.Services.{ServiceRow, services, row_at}
use Rattle.o2_conf.specs.Values.{is_from}
use Rattle.o2_conf.specs.Ordinals.{by_name, default_ordinal, ordinal_or, service_named}

-- the rows from a service on
rows_from : (n : ℕ) (r : ServiceRow) → 1 ≤ n → row_at n ≡ Some r → drop (n - 1) services ≡ r ∷ drop n services
rows_from n r some at =
    let there : slice_get services (n - 1) ≡ Some r = rw (le-leb 1 n some) at at in
    let inside = slice_get_within services (n - 1) r there in
    let here = get_or_from_slice_get services (n - 1) r r there in
    let e : suc (n - 1) ≡ n = omega arith in
    rw (drop-cons services (n - 1) r inside, here, e) refl

-- the search from the service of number n on finds what the whole search does
abbrev pub FoundFrom : ℕ → List ℕ → Type 0
FoundFrom n name = position_from (λ s. bytes_eq s.name name) n (drop (n - 1) services) ≡ service_named name

pub found_here : (n : ℕ) (r : ServiceRow) (name : List ℕ) → 1 ≤ n → row_at n ≡ Some r → bytes_eq r.name name ≡ true → FoundFrom n name → Some n ≡ service_named name
found_here n r name some at same so_far =
    let one : position_from (λ s. bytes_eq s.name name) n (drop (n - 1) services) ≡ Some n = rw (rows_from n r some at, same) refl in
    sym one ∙ so_far

pub found_later : (n : ℕ) (r : ServiceRow) (name : List ℕ) → 1 ≤ n → row_at n ≡ Some r → bytes_eq r.name name ≡ false → FoundFrom n name → FoundFrom (n + 1) name
found_later n r name some at other so_far =
    let one : position_from (λ s. bytes_eq s.name name) n (drop (n - 1) services) ≡ position_from (λ s. bytes_eq s.name name) (n + 1) (drop n services) = rw (rows_from n r some at, other) refl in
    let e : n + 1 - 1 ≡ n = omega arith in
    rw e (sym one ∙ so_far)

pub found_nowhere : (n : ℕ) (name : List ℕ) → n ≡ 32 → FoundFrom n name → None ≡ service_named name
unfolding services
found_nowhere n name end so_far =
    let one : position_from (λ s. bytes_eq s.name name) n (drop (n - 1) services) ≡ None = rw end refl in
    sym one ∙ so_far

both : (a b : Bool) → a && b ≡ true → (a ≡ true) × (b ≡ true)
both true b e = (refl, e)
both false b e = absurd cc

-- the numbers of the list are numbers of services
each_in : (xs : List ℕ) (k : ℕ) → list_all (λ n. is_from 1 31 n) xs ≡ true → k < length xs → is_from 1 31 (get_or xs k 0) ≡ true
each_in [] k all inside = absurd (omega arith)
each_in (x ∷ xs) zero all inside = (both (is_from 1 31 x) (list_all (λ n. is_from 1 31 n) xs) all).0
each_in (x ∷ xs) (suc k) all inside = each_in xs k (both (is_from 1 31 x) (list_all (λ n. is_from 1 31 n) xs) all).1 (omega arith)

pub is_service : (k : ℕ) → k < 31 → (1 ≤ get_or by_name k 0) × (get_or by_name k 0 ≤ 31)
is_service k inside =
    let e = each_in by_name k refl inside in
    let p = both (nat_le 1 (get_or by_name k 0)) (nat_le (get_or by_name k 0) 31) e in
    (leb-true _ _ p.0, leb-true _ _ p.1)

one_more : (xs : List ℕ) (k : ℕ) → k < length xs → map default_ordinal (take (k + 1) xs) ≡ map default_ordinal (take k xs) ++ default_ordinal (get_or xs k 0) ∷ []
one_more xs k inside =
    ap (λ (n : ℕ). map default_ordinal (take n xs)) (add-one k) ∙ ap (map default_ordinal) (take-suc xs k 0 inside)
    ∙ map-append default_ordinal (take k xs) (get_or xs k 0 ∷ [])

-- one more service with its ordinal
pub pushed : (xs : List ℕ) (k : ℕ) (r : ServiceRow) (before after : List (ℕ × ℕ)) → k < length xs → row_at (get_or xs k 0) ≡ Some r → before ≡ map default_ordinal (take k xs)
    → after ≡ before ++ (get_or xs k 0, r.ordinal) ∷ [] → after ≡ map default_ordinal (take (k + 1) xs)
pushed xs k r before after inside at so_far is =
    let one : default_ordinal (get_or xs k 0) ≡ (get_or xs k 0, r.ordinal) = ap (λ (o : Option ServiceRow). (get_or xs k 0, ordinal_or o)) at in
    is ∙ ap (λ (ys : List (ℕ × ℕ)). ys ++ (get_or xs k 0, r.ordinal) ∷ []) so_far
    ∙ sym (one_more xs k inside ∙ ap (λ (p : ℕ × ℕ). map default_ordinal (take k xs) ++ p ∷ []) one)
