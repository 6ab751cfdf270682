-- What holds of each outcome.
use Rattle.std.proofs.Common.{◌≡◌, ℕ, zero, suc, ◌+◌, ◌-◌, ◌<◌, ◌≤◌, ◌&&◌, Bool, true, false, List, [], ◌∷◌, ◌++◌, Option, Some, None, All, get_or, length, map, nat_le}
use Rattle.std.proofs.Common.{refl, sym, ap, subst, ◌∙◌, arith, append_assoc, append-nil, Result, Ok, Err}
use Rattle.std.specs.List.{zip}
use Rattle.std.proofs.lemmas.Bool.{leb-true}
use Rattle.std.proofs.lemmas.List.{length-map}
use Rattle.std.proofs.lemmas.List.Elements.{All-cons, All-map, All-nil}
use Rattle.std.proofs.lemmas.Option.{get_or_from_slice_get, slice_get_within}
use Rattle.o2_base.specs.declared.faults.ModuleFault.{ModuleFault}
use Rattle.o2_conf.specs.declared.conf.Conf.{Conf}
use Rattle.o2_conf.specs.Environments.{environment_bytes}
use Rattle.o2_ne.specs.Checks.{◌>>=◌}
use Rattle.o2_ne.specs.Steps.{over}
use Rattle.o2_image.specs.Getters.{nth}
use Rattle.o2_image.specs.ImageList.{AllBelong, Exists, ImageList, Resolution, same_shape}
use Rattle.o2_image.specs.Parts.{Parts}
use Rattle.o2_dynlink.specs.declared.fault.LinkFault.{LinkFault}
use Rattle.o2_dynlink.specs.Imports.{each, target_in, targets_of}
use Rattle.o2_dynlink.specs.Linking.{at_place, module_step, module_targets, none_lost, outcome}
use Rattle.o2_dynlink.specs.Listed.{lost_reference}
use Rattle.o2_dynlink.specs.Outcome.{AllFit, Fitting, IsConsistent, Targets, modules_of}
use Rattle.o2_dynlink.specs.Reached.{libraries_of, marked, reached_by, reaches}
use Rattle.o2_dynlink.specs.Selectors.{base_at, bases_of, index_in, index_of}
use Rattle.o2_dynlink.proofs.Gathered.{pairs, pairs_shape}
use Rattle.o2_dynlink.proofs.Indexes.{nth_some}

module _ (all : List Parts) (bases : List ℕ) (shim : Option ℕ) (ordinals : List (ℕ × ℕ)) where
  module_shape : (base : ℕ) (m : Parts) (t : Targets) → module_targets all bases shim ordinals base m ≡ Ok t → same_shape t m.relocs ≡ true
  unfolding module_targets
  module_shape base m t h = go (none_lost (lost_reference all m)) h
    where
      go : (r : Result (Unit {0}) ModuleFault) → (r >>= (λ _. targets_of all bases shim ordinals base m)) ≡ Ok t → same_shape t m.relocs ≡ true
      go (Ok u) k = pairs_shape (target_in all bases shim ordinals base m) m.relocs t (pairs (each (target_in all bases shim ordinals base m)) m.relocs t k)
      go (Err e) k = absurd cc

  step_shape : (m : Parts) (found next : List Targets) → module_step all bases shim ordinals m found ≡ Ok next
      → (t : Targets) × (next ≡ found ++ t ∷ []) × (same_shape t m.relocs ≡ true)
  unfolding module_step
  step_shape m found next h = go (module_targets all bases shim ordinals (base_at bases (length found + 1)) m) refl h
    where
      go : (r : Result Targets ModuleFault) → module_targets all bases shim ordinals (base_at bases (length found + 1)) m ≡ r
          → (at_place (length found + 1) r >>= (λ ts. Ok (found ++ ts ∷ []))) ≡ Ok next → (t : Targets) × (next ≡ found ++ t ∷ []) × (same_shape t m.relocs ≡ true)
      go (Ok t) e k = (t, sym cc, module_shape (base_at bases (length found + 1)) m t e)
      go (Err f) e k = absurd cc

  all_shapes : (ms : List Parts) (found targets : List Targets) → over (module_step all bases shim ordinals) ms found ≡ Ok targets
      → (ts : List Targets) × (targets ≡ found ++ ts) × Fitting ms ts
  unfolding over
  all_shapes [] found targets h =
      let is : found ≡ targets = cc in
      ([], sym is ∙ sym (append-nil found), tt)
  all_shapes (m ∷ ms) found targets h = go (module_step all bases shim ordinals m found) refl (all_shapes ms) h
    where
      go : (r : Result (List Targets) LinkFault) → module_step all bases shim ordinals m found ≡ r
          → ((before : List Targets) (whole : List Targets) → over (module_step all bases shim ordinals) ms before ≡ Ok whole → (ts : List Targets) × (whole ≡ before ++ ts) × Fitting ms ts)
          → (r >>= over (module_step all bases shim ordinals) ms) ≡ Ok targets
          → (ts : List Targets) × (targets ≡ found ++ ts) × Fitting (m ∷ ms) ts
      go (Ok next) e more k =
          let s = step_shape m found next e in
          let rest = more next targets k in
          (s.0 ∷ rest.0, rest.1 ∙ ap (λ (ts : List Targets). ts ++ rest.0) s.1 ∙ append_assoc found (s.0 ∷ []) rest.0, (s.2, rest.2))
      go (Err f) e more k = absurd cc

  pub fitting : (ms : List Parts) (targets : List Targets) → over (module_step all bases shim ordinals) ms [] ≡ Ok targets → Fitting ms targets
  fitting ms targets h = let g = all_shapes ms [] targets h in subst (Fitting ms) (sym g.1) g.2

pub fitting_belong : (ms : List Parts) (ts : List Targets) → Fitting ms ts → AllBelong (zip ms ts)
fitting_belong [] [] f k d lt = absurd (omega arith)
fitting_belong [] (t ∷ ts) f k d lt = absurd f
fitting_belong (m ∷ ms) [] f k d lt = absurd f
fitting_belong (m ∷ ms) (t ∷ ts) f zero d lt = f.0
fitting_belong (m ∷ ms) (t ∷ ts) f (suc k) d lt = fitting_belong ms ts f.1 k d (omega arith)

pub fitting_modules : (ms : List Parts) (ts : List Targets) → Fitting ms ts → map (λ (r : Resolution). r.0) (zip ms ts) ≡ ms
fitting_modules [] [] f = refl
fitting_modules [] (t ∷ ts) f = absurd f
fitting_modules (m ∷ ms) [] f = absurd f
fitting_modules (m ∷ ms) (t ∷ ts) f = ap (λ (ns : List Parts). m ∷ ns) (fitting_modules ms ts f.1)

pub fitting_length : (ms : List Parts) (ts : List Targets) → Fitting ms ts → length (zip ms ts) ≡ length ms
fitting_length [] [] f = refl
fitting_length [] (t ∷ ts) f = absurd f
fitting_length (m ∷ ms) [] f = absurd f
fitting_length (m ∷ ms) (t ∷ ts) f = ap suc (fitting_length ms ts f.1)

second : (a b : Bool) → (a && b) ≡ true → b ≡ true
second true b w = w
second false b w = absurd cc

pub all_within : (ms : List Parts) → AllFit ms (bases_of ms) → (place seg index : ℕ) → index_of ms place seg ≡ Some index → index ≤ 8191
all_within ms fit place seg index h = go (nth ms place) refl h
  where
    go : (o : Option Parts) → nth ms place ≡ o → index_in (base_at (bases_of ms) place) seg o ≡ Some index → index ≤ 8191
    go None e k = absurd cc
    go (Some m) e k = here (nat_le 1 seg && nat_le seg (length m.segments)) refl
      where
        here : (b : Bool) → (nat_le 1 seg && nat_le seg (length m.segments)) ≡ b → index ≤ 8191
        here false w = let bad = rw w at k in absurd cc
        here true w =
            let there = nth_some ms place m e in
            let lt : place - 1 < length ms = slice_get_within ms (place - 1) m there.1 in
            let is : get_or ms (place - 1) m ≡ m = get_or_from_slice_get ms (place - 1) m m there.1 in
            let last = rw is at (fit (place - 1) m lt) in
            let same : base_at (bases_of ms) place + seg ≡ index = let k' = rw w at k in cc in
            let le : nat_le seg (length m.segments) ≡ true = second (nat_le 1 seg) (nat_le seg (length m.segments)) w in
            omega (arith, last, same, leb-true seg (length m.segments) le)

all_marked : (P : ℕ → Type 0) (place : ℕ) (marks : List Bool) → ((n : ℕ) → place ≤ n → n < place + length marks → P n) → All P (marked place marks)
all_marked P place [] h = All-nil P
all_marked P place (true ∷ marks) h =
    All-cons P place (marked (place + 1) marks) (h place (omega arith) (omega arith)) (all_marked P (place + 1) marks (λ n low high. h n (omega arith) (omega arith)))
all_marked P place (false ∷ marks) h = all_marked P (place + 1) marks (λ n low high. h n (omega arith) (omega arith))

libraries_exist : (shim : Option (List ℕ)) (ms : List Parts) (place : ℕ) → All (Exists ms) (libraries_of shim ms place)
libraries_exist shim ms place = go (nth ms place)
  where
    go : (o : Option Parts) → All (Exists ms) (reached_by shim ms o)
    go None = All-nil (Exists ms)
    go (Some m) =
        let len : length (map (reaches shim ms (length ms) m) ms) ≡ length ms = length-map ms (reaches shim ms (length ms) m) in
        all_marked (Exists ms) 1 (map (reaches shim ms (length ms) m) ms) (λ n low high. (low, omega (arith, len, high)))

pub consistent : (ms : List Parts) (c : Conf) (targets : List Targets) (programs : List ℕ) → length ms ≤ 64 → Fitting ms targets → AllFit ms (bases_of ms)
    → length programs ≡ length c.process → All (Exists ms) programs → IsConsistent (outcome ms c targets programs)
consistent ms c targets programs few f fit count exist =
    let len = fitting_length ms targets f in
    let same = fitting_modules ms targets f in
    let moved : (n : ℕ) → Exists ms n → Exists (zip ms targets) n = λ n e. (e.0, omega (arith, len, e.1)) in
    record {
      few = omega (arith, len, few);
      within = subst (λ (ns : List Parts). (place seg index : ℕ) → index_of ns place seg ≡ Some index → index ≤ 8191) (sym same) (all_within ms fit);
      environments = length-map c.process environment_bytes ∙ sym count;
      lists = length-map programs (libraries_of c.shim ms);
      programs = λ k d lt. moved _ (exist k d lt);
      libraries = All-map (All (Exists (zip ms targets))) (libraries_of c.shim ms) programs (λ k d lt. λ j e lt'. moved _ (libraries_exist c.shim ms (get_or programs k d) j e lt'));
    }

-- the outcome by its parts
pub outcome_is : (ms : List Parts) (c : Conf) (targets : List Targets) (programs : List ℕ) (images : ImageList) (modules : List Resolution) (environments libraries : List (List ℕ))
    → images ≡ record { modules = modules; environments = environments } → modules ≡ zip ms targets → environments ≡ map environment_bytes c.process
    → libraries ≡ map (libraries_of c.shim ms) programs
    → record { images = images; programs = programs; libraries = libraries } ≡ outcome ms c targets programs
outcome_is ms c targets programs images modules environments libraries i m e l = rw (i, m, e, l) refl

pub bases_are : (ms : List Parts) (targets : List Targets) (images : ImageList) (modules : List Resolution) (environments : List (List ℕ)) (bases : List ℕ)
    → images ≡ record { modules = modules; environments = environments } → modules ≡ zip ms targets → Fitting ms targets → bases ≡ bases_of ms → bases ≡ bases_of (modules_of images)
bases_are ms targets images modules environments bases i m f b = rw (i, m, fitting_modules ms targets f) b
