-- Linking with a library that answers for the services' module, beside linking without one.
use Rattle.std.proofs.Common.{◌≡◌, ℕ, ◌+◌, ◌==◌, Bool, true, false, List, [], ◌∷◌, ◌++◌, Option, Some, None, length, map, Result, Ok, Err, refl, sym, ap, subst, ◌∙◌}
use Rattle.std.specs.Prelude.{if◌then◌else◌, option_and_then}
use Rattle.o2_base.specs.declared.faults.ModuleFault.{ModuleFault}
use Rattle.o2_conf.specs.declared.conf.Conf.{Conf}
use Rattle.o2_ne.specs.Checks.{◌>>=◌}
use Rattle.o2_ne.specs.EntryTable.{target_of}
use Rattle.o2_ne.specs.NameTable.{ordinal_of}
use Rattle.o2_ne.specs.Steps.{over}
use Rattle.o2_ne_segs.specs.declared.reloc.Reloc.{Reloc}
use Rattle.o2_image.specs.Getters.{imported_name, nth}
use Rattle.o2_image.specs.Images.{Target}
use Rattle.o2_image.specs.Parts.{Parts}
use Rattle.o2_image.specs.Targets.{target_kind}
use Rattle.o2_dynlink.specs.declared.fault.LinkFault.{LinkFault}
use Rattle.o2_dynlink.specs.Imports.{base_for, each, entry_called, entry_or, entry_with, exported, exported_as, found_at, gate_of_built, gate_or, gather, import_name, import_ordinal, import_text, imported, internal, service_called, service_with, shim_name, shim_ordinal, target_in, targets_of}
use Rattle.o2_dynlink.specs.Linking.{at_place, linked_of, module_step, module_targets, name_step, none_lost, outcome, program_of, region_step, shim_of, shim_or}
use Rattle.o2_dynlink.specs.Listed.{is_doscalls, library_named, lost_reference}
use Rattle.o2_dynlink.specs.Outcome.{LinkedParts}
use Rattle.o2_dynlink.specs.Reached.{libraries_of}
use Rattle.o2_dynlink.specs.Selectors.{base_at, bases_of}

-- an entry that is there is the same, whatever is told where it isn't
entry_same : (base : ℕ) (o : Option (ℕ × ℕ)) (e d : ModuleFault) (t : Target) → entry_or base o e ≡ Ok t → entry_or base o d ≡ Ok t
entry_same base None e d t h = absurd cc
entry_same base (Some p) e d t h = h

module _ (base : ℕ) (own : List ℕ) (n : ℕ) (e : ModuleFault) (t : Target) where
  as_exported : (m : Option Parts) → entry_or base (entry_with n m) e ≡ Ok t → exported base own n m ≡ Ok t
  as_exported None h = absurd cc
  as_exported (Some m) h = entry_same base (target_of n m.entries) _ _ t h

  from_exported : (m : Option Parts) → exported base own n m ≡ Ok t → entry_or base (entry_with n m) e ≡ Ok t
  from_exported None h = absurd cc
  from_exported (Some m) h = entry_same base (target_of n m.entries) _ _ t h

module _ (base : ℕ) (own text : List ℕ) (e : ModuleFault) (t : Target) where
  as_called : (m : Option Parts) → entry_or base (entry_called text m) e ≡ Ok t → exported_as base own text m ≡ Ok t
  as_called None h = absurd cc
  as_called (Some m) h = entry_same base (option_and_then (λ n. target_of n m.entries) (ordinal_of text m.names.names)) _ _ t h

  from_called : (m : Option Parts) → exported_as base own text m ≡ Ok t → entry_or base (entry_called text m) e ≡ Ok t
  from_called None h = absurd cc
  from_called (Some m) h = entry_same base (option_and_then (λ n. target_of n m.entries) (ordinal_of text m.names.names)) _ _ t h

-- A built service comes first.

pub ordinal_first : (ms : List Parts) (bases : List ℕ) (shim : Option ℕ) (ordinals : List (ℕ × ℕ)) (name : List ℕ) (n : ℕ) (gate : Target)
    → is_doscalls name ≡ true → gate_of_built (service_with ordinals n) ≡ Some gate → import_ordinal ms bases shim ordinals name n ≡ Ok gate
ordinal_first ms bases shim ordinals name n gate is built = rw (is, built) refl

pub called_first : (ms : List Parts) (bases : List ℕ) (shim : Option ℕ) (name text : List ℕ) (gate : Target)
    → is_doscalls name ≡ true → gate_of_built (service_called text) ≡ Some gate → import_name ms bases shim name text ≡ Ok gate
called_first ms bases shim name text gate is built = rw (is, built) refl

-- What isn't built leads where the same import of the library leads.

module _ (ms : List Parts) (bases : List ℕ) (ordinals : List (ℕ × ℕ)) (name own : List ℕ) (place n : ℕ) (t : Target)
    (is : is_doscalls name ≡ true) (unbuilt : gate_of_built (service_with ordinals n) ≡ None) (other : is_doscalls own ≡ false) (listed : library_named ms own ≡ Some place) where
  by_shim : import_ordinal ms bases (Some place) ordinals name n ≡ shim_ordinal ms bases (Some place) n
  by_shim = rw (is, unbuilt) refl

  by_name : import_ordinal ms bases (Some place) ordinals own n ≡ exported (base_for bases (Some place)) own n (found_at ms (Some place))
  by_name = rw (other, listed) refl

  pub ordinal_alike : (import_ordinal ms bases (Some place) ordinals name n ≡ Ok t → import_ordinal ms bases (Some place) ordinals own n ≡ Ok t)
      × (import_ordinal ms bases (Some place) ordinals own n ≡ Ok t → import_ordinal ms bases (Some place) ordinals name n ≡ Ok t)
  ordinal_alike = (
    λ h. by_name ∙ as_exported (base_for bases (Some place)) own n _ t (found_at ms (Some place)) (sym by_shim ∙ h),
    λ h. by_shim ∙ from_exported (base_for bases (Some place)) own n _ t (found_at ms (Some place)) (sym by_name ∙ h),
  )

module _ (ms : List Parts) (bases : List ℕ) (name own text : List ℕ) (place : ℕ) (t : Target)
    (is : is_doscalls name ≡ true) (unbuilt : gate_of_built (service_called text) ≡ None) (other : is_doscalls own ≡ false) (listed : library_named ms own ≡ Some place) where
  called_by_shim : import_name ms bases (Some place) name text ≡ shim_name ms bases (Some place) text
  called_by_shim = rw (is, unbuilt) refl

  called_by_name : import_name ms bases (Some place) own text ≡ exported_as (base_for bases (Some place)) own text (found_at ms (Some place))
  called_by_name = rw (other, listed) refl

  pub called_alike : (import_name ms bases (Some place) name text ≡ Ok t → import_name ms bases (Some place) own text ≡ Ok t)
      × (import_name ms bases (Some place) own text ≡ Ok t → import_name ms bases (Some place) name text ≡ Ok t)
  called_alike = (
    λ h. called_by_name ∙ as_called (base_for bases (Some place)) own text _ t (found_at ms (Some place)) (sym called_by_shim ∙ h),
    λ h. called_by_shim ∙ from_called (base_for bases (Some place)) own text _ t (found_at ms (Some place)) (sym called_by_name ∙ h),
  )

-- What links without it links with it.

-- each step that comes to something comes to the same
keeps_over : {X S F : Type 0} (f g : X → S → Result S F) → ((x : X) (s t : S) → f x s ≡ Ok t → g x s ≡ Ok t) → (xs : List X) (s t : S) → over f xs s ≡ Ok t → over g xs s ≡ Ok t
unfolding over
keeps_over f g h [] s t e = e
keeps_over {X} {S} {F} f g h (x ∷ xs) s t e = go (f x s) refl e (keeps_over f g h xs)
  where
    go : (r : Result S F) → f x s ≡ r → (r >>= over f xs) ≡ Ok t → ((u v : S) → over f xs u ≡ Ok v → over g xs u ≡ Ok v) → (g x s >>= over g xs) ≡ Ok t
    go (Ok u) is k rest = rw (h x s u is) (rest u t k)
    go (Err d) is k rest = absurd cc

keeps_each : {X Y F : Type 0} (f g : X → Result Y F) → ((x : X) (y : Y) → f x ≡ Ok y → g x ≡ Ok y) → (xs : List X) (ys : List Y) → each f xs ≡ Ok ys → each g xs ≡ Ok ys
keeps_each {X} {Y} {F} f g h xs ys e = keeps_over (gather f) (gather g) step xs [] ys e
  where
    step : (x : X) (s t : List Y) → gather f x s ≡ Ok t → gather g x s ≡ Ok t
    step x s t k = go (f x) refl k
      where
        go : (r : Result Y F) → f x ≡ r → (r >>= (λ y. Ok (s ++ y ∷ []))) ≡ Ok t → gather g x s ≡ Ok t
        go (Ok y) is k = rw (h x y is) k
        go (Err d) is k = absurd cc

either_keeps : {Y F : Type 0} (b : Bool) (p q p' q' : Result Y F) (y : Y) → (p ≡ Ok y → p' ≡ Ok y) → (q ≡ Ok y → q' ≡ Ok y) → (if b then p else q) ≡ Ok y → (if b then p' else q') ≡ Ok y
either_keeps true p q p' q' y f g h = f h
either_keeps false p q p' q' y f g h = g h

gate_keeps : (gate : Option Target) (e : ModuleFault) (other : Result Target ModuleFault) (t : Target) → gate_or gate (Err e) ≡ Ok t → gate_or gate other ≡ Ok t
gate_keeps None e other t h = absurd cc
gate_keeps (Some gate) e other t h = h

module _ (ms : List Parts) (bases : List ℕ) (place : ℕ) (ordinals : List (ℕ × ℕ)) where
  ordinal_keeps : (name : List ℕ) (n : ℕ) (t : Target) → import_ordinal ms bases None ordinals name n ≡ Ok t → import_ordinal ms bases (Some place) ordinals name n ≡ Ok t
  ordinal_keeps name n t h = either_keeps (is_doscalls name) _ _ _ _ t (gate_keeps (gate_of_built (service_with ordinals n)) _ _ t) (λ k. k) h

  text_keeps : (name : List ℕ) (text : Option (List ℕ)) (t : Target) → import_text ms bases None name text ≡ Ok t → import_text ms bases (Some place) name text ≡ Ok t
  text_keeps name None t h = h
  text_keeps name (Some text) t h = either_keeps (is_doscalls name) _ _ _ _ t (gate_keeps (gate_of_built (service_called text)) _ _ t) (λ k. k) h

  imported_keeps : (m : Parts) (r : Reloc) (name : Option (List ℕ)) (t : Target) → imported ms bases None ordinals m r name ≡ Ok t → imported ms bases (Some place) ordinals m r name ≡ Ok t
  imported_keeps m r None t h = h
  imported_keeps m r (Some name) t h = either_keeps (target_kind r == 1) _ _ _ _ t (ordinal_keeps name r.second t) (text_keeps name (imported_name m r.second) t) h

  target_keeps : (base : ℕ) (m : Parts) (r : Reloc) (t : Target) → target_in ms bases None ordinals base m r ≡ Ok t → target_in ms bases (Some place) ordinals base m r ≡ Ok t
  target_keeps base m r t h =
      either_keeps (target_kind r == 0) _ _ _ _ t (λ k. k) (either_keeps (target_kind r == 3) _ _ _ _ t (λ k. k) (imported_keeps m r (nth m.references r.first) t)) h

  targets_keep : (base : ℕ) (m : Parts) (ts : List (List Target)) → targets_of ms bases None ordinals base m ≡ Ok ts → targets_of ms bases (Some place) ordinals base m ≡ Ok ts
  targets_keep base m ts h =
      keeps_each (each (target_in ms bases None ordinals base m)) (each (target_in ms bases (Some place) ordinals base m))
      (keeps_each (target_in ms bases None ordinals base m) (target_in ms bases (Some place) ordinals base m) (target_keeps base m)) m.relocs ts h

  module_keeps : (base : ℕ) (m : Parts) (ts : List (List Target)) → module_targets ms bases None ordinals base m ≡ Ok ts → module_targets ms bases (Some place) ordinals base m ≡ Ok ts
  unfolding module_targets
  module_keeps base m ts h = go (none_lost (lost_reference ms m)) h
    where
      go : (r : Result (Unit {0}) ModuleFault) → (r >>= (λ _. targets_of ms bases None ordinals base m)) ≡ Ok ts → (r >>= (λ _. targets_of ms bases (Some place) ordinals base m)) ≡ Ok ts
      go (Ok u) k = targets_keep base m ts k
      go (Err e) k = absurd cc

  step_keeps : (m : Parts) (found next : List (List (List Target))) → module_step ms bases None ordinals m found ≡ Ok next → module_step ms bases (Some place) ordinals m found ≡ Ok next
  unfolding module_step
  step_keeps m found next h = go (module_targets ms bases None ordinals (base_at bases (length found + 1)) m) refl h
    where
      go : (r : Result (List (List Target)) ModuleFault) → module_targets ms bases None ordinals (base_at bases (length found + 1)) m ≡ r
          → (at_place (length found + 1) r >>= (λ ts. Ok (found ++ ts ∷ []))) ≡ Ok next
          → (at_place (length found + 1) (module_targets ms bases (Some place) ordinals (base_at bases (length found + 1)) m) >>= (λ ts. Ok (found ++ ts ∷ []))) ≡ Ok next
      go (Ok ts) is k = rw (module_keeps (base_at bases (length found + 1)) m ts is) k
      go (Err e) is k = absurd cc

record Comes {X F Y : Type 0} (r : Result X F) (f : X → Result Y F) (y : Y) : Type 0 where
  pub value : X
  pub is : r ≡ Ok value
  pub gives : f value ≡ Ok y

comes : {X F Y : Type 0} (r : Result X F) (f : X → Result Y F) (y : Y) → (r >>= f) ≡ Ok y → Comes r f y
comes (Ok x) f y e = record { value = x; is = refl; gives = e }
comes (Err d) f y e = absurd cc

abbrev with_programs : List Parts → Conf → List (List (List Target)) → List ℕ → Result LinkedParts LinkFault
with_programs ms c targets programs = over (region_step (bases_of ms)) ms 0 >>= (λ _. Ok (outcome ms c targets programs))

abbrev with_targets : List Parts → Conf → List (List (List Target)) → Result LinkedParts LinkFault
with_targets ms c targets = each (program_of ms) c.process >>= with_programs ms c targets

abbrev with_shim : List Parts → Conf → Option ℕ → Result LinkedParts LinkFault
with_shim ms c shim = over (module_step ms (bases_of ms) shim c.ordinals) ms [] >>= with_targets ms c

in_ok : (x l : LinkedParts) → ◌≡◌ {A = Result LinkedParts LinkFault} (Ok x) (Ok l) → x ≡ l
in_ok x l h = cc

pub links_with_it : (ms : List Parts) (c : Conf) (l : LinkedParts) (name : List ℕ) (place : ℕ) → c.shim ≡ None → linked_of ms c ≡ Ok l → library_named ms name ≡ Some place
    → linked_of ms (record c { shim = Some name }) ≡ Ok (record l { libraries = map (libraries_of (Some name) ms) l.programs })
unfolding linked_of
links_with_it ms c l name place none e listed =
    let a = comes (over (name_step ms) ms 0) (λ _. shim_of ms c.shim >>= with_shim ms c) l e in
    let s : with_shim ms c None ≡ Ok l = subst (λ (o : Option (List ℕ)). (shim_of ms o >>= with_shim ms c) ≡ Ok l) none a.gives in
    let b = comes (over (module_step ms (bases_of ms) None c.ordinals) ms []) (with_targets ms c) l s in
    let d = comes (each (program_of ms) c.process) (with_programs ms c b.value) l b.gives in
    let f = comes (over (region_step (bases_of ms)) ms 0) (λ _. Ok (outcome ms c b.value d.value)) l d.gives in
    let same : over (module_step ms (bases_of ms) (Some place) c.ordinals) ms [] ≡ Ok b.value =
    keeps_over (module_step ms (bases_of ms) None c.ordinals) (module_step ms (bases_of ms) (Some place) c.ordinals) (step_keeps ms (bases_of ms) place c.ordinals) ms [] b.value b.is in
    let is : outcome ms c b.value d.value ≡ l = in_ok _ l f.gives in
    rw (a.is, listed, same, d.is, f.is) (ap (λ (x : LinkedParts). Ok (record x { libraries = map (libraries_of (Some name) ms) x.programs })) is)
