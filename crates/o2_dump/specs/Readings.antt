-- How the code's readings of segments, of what a process holds, and of processes are seen.
use Rattle.o2_dump.specs.declared.segments.SegmentReading.{SegmentReading}
use Rattle.o2_dump.specs.declared.held.HeldReading.{HeldReading}
use Rattle.o2_dump.specs.declared.processes.ProcessReading.{ProcessReading}
use Rattle.o2_dump.specs.SegmentEntries.{SegmentsSoFar}
use Rattle.o2_dump.specs.ProcessEntries.{HeldSoFar, ProcessesSoFar}

abbrev pub segments_so_far : SegmentReading → SegmentsSoFar
segments_so_far r = record { found = r.found; place = r.place }

abbrev pub held_so_far : HeldReading → HeldSoFar
held_so_far r = record { found = r.found.items; least = r.least; place = r.place }

abbrev pub processes_so_far : ProcessReading → ProcessesSoFar
processes_so_far r = record { found = r.found.items; least = r.least; place = r.place }
