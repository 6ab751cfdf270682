-- The table of calls: which services have rows, and that what goes for each row of it goes for the row of a service.
use Rattle.std.proofs.Common.{◌≡◌, ℕ, Bool, true, false, ◌==◌, ◌||◌, List, [], ◌∷◌, if◌then◌else◌, ap, sym, ◌∙◌, refl, arith, subst}
use Rattle.std.specs.Prelude.{is_some, map, Option, Some, None, option_map}
use Rattle.std.specs.List.{list_any}
use Rattle.o2_base.specs.Services.{ServiceRow, is_built, row_at, services}
use Rattle.o2_world.specs.Map.{get}
use Rattle.o2_world.specs.Slots.{words_in}
use Rattle.o2_world.specs.Outcomes.{CallRow}
use Rattle.o2_world.specs.Calls.{row_of, rows}
use Rattle.o2_world.specs.RowLaws.{EachEntry, EachRow}

pub found : {X : Type 0} (P : ℕ → Option X → Type 0) → ((n : ℕ) → P n None) → (es : List (ℕ × X)) → EachEntry (λ (n : ℕ) (x : X). P n (Some x)) es → (n : ℕ) → P n (get es n)
found P none [] each n = none n
found {X} P none (e ∷ es) each n = go (e.0 == n) refl (found P none es each.1 n)
  where
    go : (b : Bool) → (e.0 == n) ≡ b → P n (get es n) → P n (if b then Some e.1 else get es n)
    go true is later = let number : e.0 ≡ n = grind arith in subst (λ (m : ℕ). P m (Some e.1)) number each.0
    go false is later = later

pub by_entries : (P : ℕ → Option CallRow → Type 0) → ((service : ℕ) → P service None) → EachEntry (λ (service : ℕ) (r : CallRow). P service (Some r)) rows
    → (service : ℕ) → P service (row_of service)
unfolding row_of
by_entries P none each service = found P none rows each service

pub by_rows : (P : Option CallRow → Type 0) → P None → EachRow (λ (r : CallRow). P (Some r)) rows → (service : ℕ) → P (row_of service)
by_rows P none each service = by_entries (λ (n : ℕ) (o : Option CallRow). P o) (λ n. none) each service

pub each_entry : (P Q : ℕ → CallRow → Type 0) → ((service : ℕ) (r : CallRow) → P service r → Q service r) → (rs : List (ℕ × CallRow)) → EachEntry P rs → EachEntry Q rs
each_entry P Q f [] each = tt
each_entry P Q f (e ∷ es) each = (f e.0 e.1 each.0, each_entry P Q f es each.1)

-- what goes for each entry goes for the row of a service
pub of_entry : (Q : ℕ → CallRow → Type 0) → EachEntry Q rows → (service : ℕ) (r : CallRow) → row_of service ≡ Some r → Q service r
of_entry Q each service =
    by_entries (λ (n : ℕ) (o : Option CallRow). (r : CallRow) → o ≡ Some r → Q n r) (λ n r e. absurd (cc))
    (each_entry Q (λ (n : ℕ) (x : CallRow). (r : CallRow) → Some x ≡ Some r → Q n r) (λ n x h r e. let same : x ≡ r = cc in subst (Q n) same h) rows each) service

some_found : (rs : List (ℕ × CallRow)) (service : ℕ) → is_some (get rs service) ≡ list_any (λ (s : ℕ). s == service) (map (λ (e : ℕ × CallRow). e.0) rs)
some_found [] service = refl
some_found (e ∷ es) service = go (e.0 == service) (some_found es service)
  where
    go : (b : Bool) → is_some (get es service) ≡ list_any (λ (s : ℕ). s == service) (map (λ (x : ℕ × CallRow). x.0) es)
        → is_some (if b then Some e.1 else get es service) ≡ (b || list_any (λ (s : ℕ). s == service) (map (λ (x : ℕ × CallRow). x.0) es))
    go true later = refl
    go false later = later

pub built_has_row : (service : ℕ) → is_some (row_of service) ≡ is_built service
unfolding row_of
built_has_row service = some_found rows service

-- Names and words are those of the services.

-- what is the same of each row by its number is so of the one that is found
same_found : {X : Type 0} (f : ℕ → X) (g : CallRow → X) (rs : List (ℕ × CallRow)) → map (λ (e : ℕ × CallRow). f e.0) rs ≡ map (λ (e : ℕ × CallRow). g e.1) rs
    → (service : ℕ) (r : CallRow) → get rs service ≡ Some r → f service ≡ g r
same_found {X} f g [] same service r e = absurd (cc)
same_found {X} f g (x ∷ xs) same service r e = go (x.0 == service) refl (λ there. let later : map (λ (y : ℕ × CallRow). f y.0) xs ≡ map (λ (y : ℕ × CallRow). g y.1) xs = cc in same_found f g xs later service r there) e
  where
    here : f x.0 ≡ g x.1
    here = cc

    go : (b : Bool) → (x.0 == service) ≡ b → (get xs service ≡ Some r → f service ≡ g r) → (if b then Some x.1 else get xs service) ≡ Some r → f service ≡ g r
    go true is later there =
        let number : x.0 ≡ service = grind arith in
        let row : x.1 ≡ r = cc in
        ap f (sym number) ∙ here ∙ ap g row
    go false is later there = later there

pub named_as_service : (service : ℕ) (r : CallRow) → row_of service ≡ Some r
    → option_map {U = List ℕ × ℕ} (λ (s : ServiceRow). (s.name, s.words)) (row_at service) ≡ Some (r.name, words_in r.slots)
unfolding row_of services
named_as_service service r e =
    same_found {X = Option (List ℕ × ℕ)} (λ (n : ℕ). option_map {U = List ℕ × ℕ} (λ (s : ServiceRow). (s.name, s.words)) (row_at n)) (λ (x : CallRow). Some (x.name, words_in x.slots)) rows refl service r e
