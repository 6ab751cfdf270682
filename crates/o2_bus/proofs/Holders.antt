-- Who holds a name of a plain memory, by look-ups.
use Rattle.std.proofs.Common.{◌≡◌, ℕ, zero, suc, ◌+◌, ◌≤◌, Bool, true, false, List, [], ◌∷◌, length, refl, arith, ◌==◌}
use Rattle.std.proofs.lemmas.Grind.{common_steps}
use Rattle.std.specs.Prelude.{Option, Some, None, slice_get}
use Rattle.std.specs.List.{list_any}
use Rattle.o2_isa.specs.Parts.{put_part}
use Rattle.o2_isa.specs.View.{Hold}
use Rattle.o2_bus.specs.declared.plain.Plain.{Plain}
use Rattle.o2_bus.specs.declared.plain.Grant.{Grant}
use Rattle.o2_bus.specs.declared.plain.Map.{Map}
use Rattle.o2_bus.specs.Plain.{hold_of, granted, in_map, held_in}
use Rattle.o2_bus.specs.Ends.{grants_name, map_names, maps_name, is_held_in}

-- a part that fits leaves the length as it is
pub length_put_part : (bytes : List ℕ) (at : ℕ) (part : List ℕ) → at + length part ≤ length bytes → length (put_part bytes at part) ≡ length bytes
length_put_part bytes at part h = grind (arith, common_steps)

same_name : (n : ℕ) → (n == n) ≡ true
same_name n = grind arith

-- a place that holds a name makes the search true
grant_found : (gs : List (Option Grant)) (j : ℕ) (h : Hold) → granted (slice_get gs j) ≡ Some h → list_any (grants_name h.name) gs ≡ true
grant_found [] j h e = absurd (cc)
grant_found (None ∷ gs) zero h e = absurd (cc)
grant_found (Some g ∷ gs) zero h e = let same : hold_of g ≡ h = cc in rw (← same, same_name g.name) refl
grant_found (None ∷ gs) (suc j) h e = grant_found gs j h e
grant_found (Some g ∷ gs) (suc j) h e = let ih = grant_found gs j h e in grind arith

pub map_found : (ms : List Map) (pid j : ℕ) (h : Hold) → in_map (slice_get ms pid) j ≡ Some h → maps_name ms h.name ≡ true
map_found [] pid j h e = absurd (cc)
map_found (m ∷ ms) zero j h e = let here = grant_found m.grants.items j h e in grind arith
map_found (m ∷ ms) (suc pid) j h e = let ih = map_found ms pid j h e in grind arith

pub held_is_held : (p : Plain) (pid j : ℕ) (h : Hold) → held_in p pid j ≡ Some h → is_held_in p h.name ≡ true
unfolding held_in is_held_in
held_is_held p pid j h e = map_found p.maps.items pid j h e

-- and the search is true only for a place that holds the name
pub record IsGranted (n : ℕ) (gs : List (Option Grant)) : Type 0 where
  pub place : ℕ
  pub hold : Hold
  pub there : granted (slice_get gs place) ≡ Some hold
  pub name : hold.name ≡ n

pub record IsHeldAt (n : ℕ) (ms : List Map) : Type 0 where
  pub pid : ℕ
  pub place : ℕ
  pub hold : Hold
  pub there : in_map (slice_get ms pid) place ≡ Some hold
  pub name : hold.name ≡ n

at_grant : (n : ℕ) (g : Option Grant) (gs : List (Option Grant)) → grants_name n g ≡ true → IsGranted n (g ∷ gs)
at_grant n None gs e = absurd (cc)
at_grant n (Some g) gs e = record { place = 0; hold = hold_of g; there = refl; name = grind arith }

past_grant : (n : ℕ) (g : Option Grant) (gs : List (Option Grant)) → IsGranted n gs → IsGranted n (g ∷ gs)
past_grant n g gs x = record { place = suc x.place; hold = x.hold; there = x.there; name = x.name }

split_grant : (n : ℕ) (g : Option Grant) (gs : List (Option Grant)) (b : Bool) → grants_name n g ≡ b → list_any (grants_name n) (g ∷ gs) ≡ true → (list_any (grants_name n) gs ≡ true → IsGranted n gs) → IsGranted n (g ∷ gs)
split_grant n g gs true is e rest = at_grant n g gs is
split_grant n g gs false is e rest = let more : list_any (grants_name n) gs ≡ true = grind arith in past_grant n g gs (rest more)

grant_at : (n : ℕ) (gs : List (Option Grant)) → list_any (grants_name n) gs ≡ true → IsGranted n gs
grant_at n [] e = absurd (cc)
grant_at n (g ∷ gs) e = split_grant n g gs (grants_name n g) refl e (grant_at n gs)

past_map : (n : ℕ) (m : Map) (ms : List Map) → IsHeldAt n ms → IsHeldAt n (m ∷ ms)
past_map n m ms x = record { pid = suc x.pid; place = x.place; hold = x.hold; there = x.there; name = x.name }

at_map : (n : ℕ) (m : Map) (ms : List Map) → IsGranted n m.grants.items → IsHeldAt n (m ∷ ms)
at_map n m ms x = record { pid = 0; place = x.place; hold = x.hold; there = x.there; name = x.name }

split_map : (n : ℕ) (m : Map) (ms : List Map) (b : Bool) → map_names n m ≡ b → maps_name (m ∷ ms) n ≡ true → (maps_name ms n ≡ true → IsHeldAt n ms) → IsHeldAt n (m ∷ ms)
split_map n m ms true is e rest = at_map n m ms (grant_at n m.grants.items is)
split_map n m ms false is e rest = let more : maps_name ms n ≡ true = grind arith in past_map n m ms (rest more)

map_at : (n : ℕ) (ms : List Map) → maps_name ms n ≡ true → IsHeldAt n ms
map_at n [] e = absurd (cc)
map_at n (m ∷ ms) e = split_map n m ms (map_names n m) refl e (map_at n ms)

pub is_held_at : (p : Plain) (n : ℕ) → is_held_in p n ≡ true → IsHeldAt n p.maps.items
unfolding is_held_in
is_held_at p n e = map_at n p.maps.items e
