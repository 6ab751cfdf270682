-- The load rules over what an index of a plain memory holds are those of the view.
use Rattle.std.specs.Prelude.{◌≡◌, ℕ, Option, Some, None, option_map}
use Rattle.std.proofs.Common.{refl}
use Rattle.std.specs.Borrow.{GName}
use Rattle.o2_isa.specs.declared.cpu.Purpose.{Purpose}
use Rattle.o2_isa.specs.declared.cpu.Purpose.TheVariants.{DataReg, StackReg, Jump, Call, Return}
use Rattle.o2_isa.specs.View.{Hold, load_rules}
use Rattle.o2_bus.specs.declared.plain.Plain.{Plain}
use Rattle.o2_bus.specs.declared.plain_bus.Holds.{Holds}
use Rattle.o2_bus.specs.Loads.{rules_of}
use Rattle.o2_bus.specs.Plain.{bus_view, target_in}

pub plain_rules : (g : GName) (p : Plain) (pid : ℕ) (x : Holds) (u : Purpose) (s : ℕ) (h : Option Hold) → rules_of u s (option_map (target_in p) h) ≡ load_rules (bus_view g p pid x) u s h
unfolding bus_view
plain_rules g p pid x DataReg s None = refl
plain_rules g p pid x DataReg s (Some h) = refl
plain_rules g p pid x StackReg s None = refl
plain_rules g p pid x StackReg s (Some h) = refl
plain_rules g p pid x Jump s None = refl
plain_rules g p pid x Jump s (Some h) = refl
plain_rules g p pid x Call s None = refl
plain_rules g p pid x Call s (Some h) = refl
plain_rules g p pid x Return s None = refl
plain_rules g p pid x Return s (Some h) = refl
