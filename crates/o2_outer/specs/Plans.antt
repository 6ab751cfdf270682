-- What the forms in memory hold, and what they answer.
use Rattle.std.specs.Prelude.{ℕ, ◌-◌, min, List, take, length, nat_le, if◌then◌else◌, ◌&&◌, is_none, unwrap_or}
use Rattle.o2_outer.specs.declared.mem_files.MemFiles.{MemFiles}
use Rattle.o2_outer.specs.declared.mem_sink.MemSink.{MemSink}
use Rattle.o2_outer.specs.declared.mem_source.MemSource.{MemSource}
use Rattle.o2_outer.specs.declared.mem_files.SureFiles.{SureFiles}
use Rattle.o2_outer.specs.declared.sink.Put.{Put}
use Rattle.o2_outer.specs.declared.sink.Put.TheVariants as put
use Rattle.o2_outer.specs.Asked.{asked_for}
use Rattle.o2_outer.specs.Planned.{next_call, planned_bytes}

abbrev pub mem_files : MemFiles → List (List ℕ × List ℕ)
mem_files f = f.files.items

abbrev pub mem_fetches : MemFiles → ℕ
mem_fetches f = f.calls

abbrev pub mem_fetches_to_fail : MemFiles → List ℕ
mem_fetches_to_fail f = f.fails.items

abbrev pub mem_fetch_faults : MemFiles → ℕ
mem_fetch_faults f = f.faults

-- which names they were asked for
abbrev pub mem_names_asked : MemFiles → List (List ℕ)
mem_names_asked f = asked_for f.asked.items

abbrev pub sure_files : SureFiles → List (List ℕ × List ℕ)
sure_files f = f.files.items

abbrev pub sure_names_asked : SureFiles → List (List ℕ)
sure_names_asked f = asked_for f.asked.items

abbrev pub mem_takes : MemSource → ℕ
mem_takes s = s.calls

abbrev pub mem_takes_to_fail : MemSource → List ℕ
mem_takes_to_fail s = s.fails.items

abbrev pub mem_puts : MemSink → ℕ
mem_puts s = s.calls

-- each with how many bytes it takes before it fails
abbrev pub mem_puts_to_fail : MemSink → List (ℕ × ℕ)
mem_puts_to_fail s = s.fails.items

abbrev pub mem_room : MemSink → ℕ
mem_room s = s.room

-- how many bytes the next put of a piece takes: as many as are planned and as fit
abbrev pub put_length : MemSink → List ℕ → ℕ
put_length s piece = min (s.room - length s.bytes.items) (min (unwrap_or (planned_bytes s.fails.items (next_call s.calls)) (length piece)) (length piece))

-- the front that it takes
abbrev pub put_front : MemSink → List ℕ → List ℕ
put_front s piece = take (put_length s piece) piece

-- it is done where it isn't to fail and the whole piece fits, and fails else
abbrev pub put_answer : MemSink → List ℕ → Put
put_answer s piece = if is_none (planned_bytes s.fails.items (next_call s.calls)) && nat_le (length piece) (s.room - length s.bytes.items) then put.Done else put.Failed
