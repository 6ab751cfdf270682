-- What a sink in memory shows, and one that drops what it takes.
use Rattle.std.specs.Prelude.{ℕ, List}
use Rattle.o2_outer.specs.declared.mem_sink.MemSink.{MemSink}
use Rattle.o2_outer.specs.declared.no_sink.NoSink.{NoSink}

abbrev pub sink_bytes : MemSink → List ℕ
sink_bytes s = s.bytes.items

abbrev pub sink_faults : MemSink → ℕ
sink_faults s = s.faults

-- how many pieces it was handed
abbrev pub sink_puts : MemSink → ℕ
sink_puts s = s.log.puts

abbrev pub dropped_bytes : NoSink → List ℕ
dropped_bytes s = s.log.bytes

abbrev pub dropped_puts : NoSink → ℕ
dropped_puts s = s.log.puts
