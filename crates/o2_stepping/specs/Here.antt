-- Whether what the segment registers name is in memory, by its descriptors.
use Rattle.std.specs.Prelude.{ℕ, Bool, true, ◌&&◌, Option, Some, None, if◌then◌else◌}
use Rattle.o2_desc.specs.declared.descriptor.Descriptor.{Descriptor}
use Rattle.o2_desc.specs.Bits.{is_present}
use Rattle.o2_isa.specs.declared.cpu.Cpu.{Cpu}
use Rattle.o2_isa.specs.View.{is_null}
use Rattle.o2_regions.specs.Maps.{Maps}
use Rattle.o2_segbus.specs.Words.{named_descriptor}

-- nothing, or what is in memory
abbrev pub is_none_or_here : Option Descriptor → Bool
is_none_or_here None = true
is_none_or_here (Some d) = is_present d.access

-- whether a selector names nothing, or a segment that is in memory
abbrev pub is_here : Maps → ℕ → ℕ → Bool
is_here m pid s = if is_null s then true else is_none_or_here (named_descriptor m pid s)

-- whether all segments in the segment registers are in memory
abbrev pub are_here : Maps → ℕ → Cpu → Bool
are_here m pid c = is_here m pid c.es && is_here m pid c.cs && is_here m pid c.ss && is_here m pid c.ds
