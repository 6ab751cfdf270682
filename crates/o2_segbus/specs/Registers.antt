-- The segment registers with their hidden parts.
use Rattle.std.specs.Prelude.{◌≡◌, ◌+◌, ℕ, true}
use Rattle.o2_desc.specs.Bits.{is_present}
use Rattle.o2_isa.specs.declared.instr.Sreg.{Sreg}
use Rattle.o2_isa.specs.declared.instr.Sreg.TheVariants.{Es, Cs, Ss, Ds}
use Rattle.o2_segbus.specs.declared.registers.SegmentRegister.{SegmentRegister}
use Rattle.o2_segbus.specs.declared.registers.SegmentRegisters.{SegmentRegisters}

abbrev pub register_in : SegmentRegisters → Sreg → SegmentRegister
register_in x Es = x.es
register_in x Cs = x.cs
register_in x Ss = x.ss
register_in x Ds = x.ds

abbrev pub with_register_in : SegmentRegisters → Sreg → SegmentRegister → SegmentRegisters
with_register_in x Es y = record x { es = y }
with_register_in x Cs y = record x { cs = y }
with_register_in x Ss y = record x { ss = y }
with_register_in x Ds y = record x { ds = y }

-- the selector is that of CS, whose hidden part says that its segment is there and has this size
pub record IsCodeSize (x : SegmentRegisters) (sel n : ℕ) : Type 0 where
  pub selector : sel ≡ x.cs.selector
  pub present : is_present x.cs.descriptor.access ≡ true
  pub size : n ≡ x.cs.descriptor.limit + 1
