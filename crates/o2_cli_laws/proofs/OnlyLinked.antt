-- Linking with the first process alone gives what it gives with all: the same modules, and of the first process the same program and libraries.
use Rattle.std.proofs.Common.{◌≡◌, refl, sym, ◌∙◌, ap, subst, ℕ, List, [], ◌∷◌, ◌++◌}
use Rattle.std.specs.Prelude.{Option, Result, Ok, Err}
use Rattle.std.proofs.lemmas.List.{append_assoc}
use Rattle.o2_conf.specs.declared.conf.Conf.{Conf}
use Rattle.o2_conf.specs.declared.process.Process.{Process}
use Rattle.o2_ne.specs.Checks.{◌>>=◌}
use Rattle.o2_ne.specs.Steps.{over}
use Rattle.o2_image.specs.Parts.{Parts}
use Rattle.o2_dynlink.specs.declared.fault.LinkFault.{LinkFault}
use Rattle.o2_dynlink.specs.Imports.{each, gather}
use Rattle.o2_dynlink.specs.Linking.{linked_of, module_step, name_step, outcome, program_of, region_step, shim_of}
use Rattle.o2_dynlink.specs.Outcome.{LinkedParts, Targets}
use Rattle.o2_dynlink.specs.Reached.{libraries_of}
use Rattle.o2_dynlink.specs.Selectors.{bases_of}
use Rattle.o2_load.specs.Loads.{library_ranges, loaded, start_of}
use Rattle.o2_world.specs.Starts.{Loaded, Start}
use Rattle.o2_cli_laws.specs.FirstOnly.{first_only}
use Rattle.o2_cli_laws.proofs.OnlyModules.{images_of, same_libraries, same_loaded, same_ranges}

record Comes {X F Y : Type 0} (r : Result X F) (f : X → Result Y F) (y : Y) : Type 0 where
  value : X
  is : r ≡ Ok value
  gives : f value ≡ Ok y

comes : {X F Y : Type 0} (r : Result X F) (f : X → Result Y F) (y : Y) → (r >>= f) ≡ Ok y → Comes r f y
comes (Ok x) f y e = record { value = x; is = refl; gives = e }
comes (Err d) f y e = cc

then_is : {X F Y : Type 0} (r : Result X F) (f : X → Result Y F) (x : X) (y : Y) → r ≡ Ok x → f x ≡ Ok y → (r >>= f) ≡ Ok y
then_is {X} {F} {Y} r f x y is gives = ap (λ (q : Result X F). q >>= f) is ∙ gives

abbrev with_programs : List Parts → Conf → List Targets → List ℕ → Result LinkedParts LinkFault
with_programs ms c targets programs = over (region_step (bases_of ms)) ms 0 >>= (λ _. Ok (outcome ms c targets programs))

abbrev with_targets : List Parts → Conf → List Targets → Result LinkedParts LinkFault
with_targets ms c targets = each (program_of ms) c.process >>= with_programs ms c targets

abbrev with_shim : List Parts → Conf → Option ℕ → Result LinkedParts LinkFault
with_shim ms c shim = over (module_step ms (bases_of ms) shim c.ordinals) ms [] >>= with_targets ms c

abbrev with_names : List Parts → Conf → Result LinkedParts LinkFault
with_names ms c = shim_of ms c.shim >>= with_shim ms c

-- What is given of each of some items begins with what is given of the first.

record Begins {Y : Type 0} (found ys : List Y) : Type 0 where
  rest : List Y
  are : ys ≡ found ++ rest

gathered : {X Y F : Type 0} (f : X → Result Y F) (xs : List X) (found ys : List Y) → over (gather f) xs found ≡ Ok ys → Begins found ys
unfolding over
gathered {X} {Y} {F} f [] found ys e = record { rest = []; are = is e ∙ sym (nothing_more found) }
  where
    nothing_more : (xs : List Y) → xs ++ [] ≡ xs
    nothing_more [] = refl
    nothing_more (x ∷ xs) = ap (λ (zs : List Y). x ∷ zs) (nothing_more xs)

    list_in : Result (List Y) F → List Y
    list_in (Ok x) = x
    list_in (Err fault) = ys

    is : ◌≡◌ {A = Result (List Y) F} (Ok found) (Ok ys) → ys ≡ found
    is h = sym (ap list_in h)
gathered {X} {Y} {F} f (x ∷ xs) found ys e =
    let a = comes (gather f x found) (over (gather f) xs) ys e in
    let b = comes (f x) (λ (y : Y). Ok (found ++ y ∷ [])) a.value a.is in
    let rest = gathered f xs a.value ys a.gives in
    record { rest = b.value ∷ rest.rest; are = rest.are ∙ (ap (λ (zs : List Y). zs ++ rest.rest) (sym (list_is a.value b.gives)) ∙ append_assoc found (b.value ∷ []) rest.rest) }
  where
    list_in : List Y → Result (List Y) F → List Y
    list_in d (Ok x) = x
    list_in d (Err fault) = d

    list_is : {zs : List Y} (v : List Y) → ◌≡◌ {A = Result (List Y) F} (Ok zs) (Ok v) → zs ≡ v
    list_is v h = ap (list_in v) h

record HasFirst {X Y F : Type 0} (f : X → Result Y F) (x : X) (ys : List Y) : Type 0 where
  first : Y
  rest : List Y
  given : f x ≡ Ok first
  are : ys ≡ first ∷ rest

first_given : {X Y F : Type 0} (f : X → Result Y F) (x : X) (xs : List X) (ys : List Y) → each f (x ∷ xs) ≡ Ok ys → HasFirst f x ys
unfolding over
first_given {X} {Y} {F} f x xs ys e =
    let a = comes (gather f x []) (over (gather f) xs) ys e in
    let b = comes (f x) (λ (y : Y). Ok ([] ++ y ∷ [])) a.value a.is in
    let rest = gathered f xs a.value ys a.gives in
    record { first = b.value; rest = rest.rest; given = b.is; are = rest.are ∙ ap (λ (zs : List Y). zs ++ rest.rest) (sym (ap (list_in a.value) b.gives)) }
  where
    list_in : List Y → Result (List Y) F → List Y
    list_in d (Ok x) = x
    list_in d (Err fault) = d

one_given : {X Y F : Type 0} (f : X → Result Y F) (x : X) (y : Y) → f x ≡ Ok y → each f (x ∷ []) ≡ Ok (y ∷ [])
unfolding over
one_given {X} {Y} {F} f x y is = ap (λ (r : Result Y F). (r >>= (λ (y : Y). Ok ([] ++ y ∷ []))) >>= over (gather f) []) is

-- both are linked, and the first process starts so in both
pub record LinksFirst (ms : List Parts) (c : Conf) (p : Process) (l : LinkedParts) : Type 0 where
  pub only : LinkedParts
  pub links : linked_of ms (first_only c p) ≡ Ok only
  pub ranges : library_ranges only ≡ library_ranges l
  pub start : start_of only 1 p ≡ start_of l 1 p

module _ (ms : List Parts) (c : Conf) (p : Process) (targets : List Targets) where
  abbrev all_of : List ℕ → LinkedParts
  all_of programs = outcome ms c targets programs

  abbrev only_of : ℕ → LinkedParts
  only_of place = outcome ms (first_only c p) targets (place ∷ [])

  ranges_are : (place : ℕ) (programs : List ℕ) → library_ranges (only_of place) ≡ library_ranges (all_of programs)
  ranges_are place programs = same_ranges (all_of programs).images.modules (only_of place).images.environments (all_of programs).images.environments 1 (all_of programs).images.modules

  start_is : (place : ℕ) (rest : List ℕ) → start_of (only_of place) 1 p ≡ start_of (all_of (place ∷ rest)) 1 p
  start_is place rest =
      let s : Start = start_of (only_of place) 1 p in
      let modules = (all_of (place ∷ rest)).images.modules in
      let es : List (List ℕ) = (only_of place).images.environments in
      let fs : List (List ℕ) = (all_of (place ∷ rest)).images.environments in
      ap (λ (m : Loaded). record s { program = m }) (same_loaded modules es fs place)
      ∙ ap (λ (xs : List Loaded). record s { program = loaded (images_of modules fs) place; libraries = xs }) (same_libraries modules es fs (libraries_of c.shim ms place))

  at_outcome : (place : ℕ) (rest : List ℕ) → linked_of ms (first_only c p) ≡ Ok (only_of place) → LinksFirst ms c p (all_of (place ∷ rest))
  at_outcome place rest links = record { only = only_of place; links = links; ranges = ranges_are place (place ∷ rest); start = start_is place rest }

pub links_first : (ms : List Parts) (c : Conf) (p : Process) (ps : List Process) (l : LinkedParts) → c.process ≡ p ∷ ps → linked_of ms c ≡ Ok l → LinksFirst ms c p l
unfolding linked_of
links_first ms c p ps l process e =
    let a = comes (over (name_step ms) ms 0) (λ _. with_names ms c) l e in
    let s = comes (shim_of ms c.shim) (with_shim ms c) l a.gives in
    let b = comes (over (module_step ms (bases_of ms) s.value c.ordinals) ms []) (with_targets ms c) l s.gives in
    let d = comes (each (program_of ms) c.process) (with_programs ms c b.value) l b.gives in
    let f = comes (over (region_step (bases_of ms)) ms 0) (λ _. Ok (outcome ms c b.value d.value)) l d.gives in
    let h = first_given (program_of ms) p ps d.value (ap (each (program_of ms)) (sym process) ∙ d.is) in
    let links : linked_of ms (first_only c p) ≡ Ok (outcome ms (first_only c p) b.value (h.first ∷ [])) =
    then_is (over (name_step ms) ms 0) (λ _. with_names ms (first_only c p)) a.value _ a.is
    (then_is (shim_of ms c.shim) (with_shim ms (first_only c p)) s.value _ s.is
    (then_is (over (module_step ms (bases_of ms) s.value c.ordinals) ms []) (with_targets ms (first_only c p)) b.value _ b.is
    (then_is (each (program_of ms) (p ∷ [])) (with_programs ms (first_only c p) b.value) (h.first ∷ []) _ (one_given (program_of ms) p h.first h.given)
    (then_is (over (region_step (bases_of ms)) ms 0) (λ _. Ok (outcome ms (first_only c p) b.value (h.first ∷ []))) f.value _ f.is refl)))) in
    subst (LinksFirst ms c p) (ap (λ (programs : List ℕ). outcome ms c b.value programs) (sym h.are) ∙ in_ok f.gives)
    (at_outcome ms c p b.value h.first h.rest links)
  where
    linked_in : Result LinkedParts LinkFault → LinkedParts
    linked_in (Ok x) = x
    linked_in (Err fault) = l

    in_ok : {x : LinkedParts} → ◌≡◌ {A = Result LinkedParts LinkFault} (Ok x) (Ok l) → x ≡ l
    in_ok h = ap linked_in h
