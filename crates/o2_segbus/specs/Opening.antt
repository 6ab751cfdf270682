-- The segment registers of a processor, with the descriptors that their selectors name.
use Rattle.std.specs.Prelude.{ℕ, Bool, true, ◌&&◌, if◌then◌else◌}
use Rattle.o2_desc.specs.Bits.{is_present}
use Rattle.o2_isa.specs.declared.cpu.Cpu.{Cpu}
use Rattle.o2_isa.specs.View.{is_null}
use Rattle.o2_regions.specs.Maps.{Maps}
use Rattle.o2_segbus.specs.declared.registers.SegmentRegister.{SegmentRegister}
use Rattle.o2_segbus.specs.declared.registers.SegmentRegisters.{SegmentRegisters}
use Rattle.o2_segbus.specs.Words.{loaded_descriptor}

abbrev pub opened_register : Maps → ℕ → ℕ → SegmentRegister
opened_register m pid s = record { selector = s; descriptor = loaded_descriptor m pid s }

abbrev pub opened_registers : Maps → ℕ → Cpu → SegmentRegisters
opened_registers m pid c = record {
  es = opened_register m pid c.es;
  cs = opened_register m pid c.cs;
  ss = opened_register m pid c.ss;
  ds = opened_register m pid c.ds;
}

-- a register holds nothing, or a segment that is in memory by its hidden part
abbrev pub is_shown : SegmentRegister → Bool
is_shown x = if is_null x.selector then true else is_present x.descriptor.access

-- so do all four
abbrev pub are_shown : SegmentRegisters → Bool
are_shown x = is_shown x.es && is_shown x.cs && is_shown x.ss && is_shown x.ds
