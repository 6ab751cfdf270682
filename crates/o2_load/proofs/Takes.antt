-- A process may hold the index of each segment of its program and of its libraries.
use Rattle.std.proofs.Common.{◌≡◌, ℕ, ◌+◌, ◌-◌, Bool, true, false, List, Option, Some, ap, sym, refl, arith, subst}
use Rattle.std.specs.Prelude.{option_map, unwrap_or}
use Rattle.o2_image.specs.Getters.{is_library, nth}
use Rattle.o2_image.specs.ImageList.{Resolution, Exists}
use Rattle.o2_image.specs.Parts.{Parts}
use Rattle.o2_image.specs.Whole.{IsRunnable}
use Rattle.o2_dynlink.specs.Outcome.{LinkedParts, modules_of}
use Rattle.o2_dynlink.specs.Selectors.{base_at, bases_of, index_of}
use Rattle.o2_dynlink.proofs.Indexes.{index_is, module_there, nth_some}
use Rattle.o2_world.specs.declared.types.Made.{Made}
use Rattle.o2_load.specs.Memory.{Memory}
use Rattle.o2_load.specs.Holds.{IsReady}
use Rattle.o2_load.specs.Loads.{index_at}
use Rattle.o2_load.proofs.Fits.{program_base}

module _ (kept : Type 0) (mem : Memory) (made : List Made) (l : LinkedParts) (pid place n : ℕ) (m : Parts) (ready : IsReady kept mem made l) (process : Exists l.programs pid)
    (at : option_map (λ (p : Resolution). p.0) (nth l.images.modules place) ≡ Some m) (runs : IsRunnable m) (some : Exists m.segments n) where
  there : nth (modules_of l.images) place ≡ Some m
  there = module_there l.images.modules place m (sym at)

  index : index_of (modules_of l.images) place n ≡ Some (base_at (bases_of (modules_of l.images)) place + n)
  index = sym (index_is (modules_of l.images) place n (base_at (bases_of (modules_of l.images)) place) m there refl some.0 some.1)

  index_value : index_at l.images place n ≡ base_at (bases_of (modules_of l.images)) place + n
  index_value = ap (λ (o : Option ℕ). unwrap_or o 0) index

  go : (t : Bool) → is_library m ≡ t → mem.takes pid (base_at (bases_of (modules_of l.images)) place + n) ≡ true
  go true is = ready.shared pid place n (base_at (bases_of (modules_of l.images)) place + n) m process there is index
  go false is =
      let base : base_at (bases_of (modules_of l.images)) place ≡ 0 = program_base 0 (modules_of l.images) (place - 1) m (nth_some (modules_of l.images) place m there).1 is in
      let few = runs.few in
      ready.own pid (base_at (bases_of (modules_of l.images)) place + n) process (omega (arith, base, some.0)) (omega (arith, base, few, some.1))

  pub takes_segment : mem.takes pid (index_at l.images place n) ≡ true
  takes_segment = subst (λ (i : ℕ). mem.takes pid i ≡ true) (sym index_value) (go (is_library m) refl)
