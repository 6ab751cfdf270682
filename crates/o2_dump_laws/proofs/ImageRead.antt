-- An image is read back.
use Rattle.std.proofs.Common.{◌≡◌, ℕ, ◌+◌, ◌==◌, ◌||◌, if◌then◌else◌, Bool, true, false, List, [], ◌∷◌, ◌++◌, length, take, min, Ok, refl, ap, ◌∙◌, append_assoc, eq-eqb, arith}
use Rattle.std.specs.Prelude.{bytes_eq, codes, flat_map}
use Rattle.o2_ne.specs.Words.{long_at, string_at}
use Rattle.o2_ne.specs.Checks.{all_hold}
use Rattle.o2_ne.specs.Steps.{steps}
use Rattle.o2_dump.specs.declared.parts.Process.{Process}
use Rattle.o2_dump.specs.declared.parts.SegmentEntry.{SegmentEntry}
use Rattle.o2_dump.specs.declared.reader.Core.{Core}
use Rattle.o2_dump.specs.CoreBytes.{core_bytes, head_bytes, process_bytes, segment_bytes}
use Rattle.o2_dump.specs.CoreImage.{begins_as, core_of, end_checks, fields_of, has_end, head_checks, is_marked, processes_of, segments_of}
use Rattle.o2_dump.specs.FileFields.{quad_at, whole}
use Rattle.o2_dump.specs.SegmentEntries.{segment_step}
use Rattle.o2_dump.specs.ProcessEntries.{process_step}
use Rattle.o2_dump_laws.specs.Whole.{IsWhole}
use Rattle.o2_dump_laws.proofs.Fields.{StandsAt, byte_at_is, file_length, fits_in, goes_on, long_is, one_holds, quad_is, stands_next, string_is, three_hold, two_hold}
use Rattle.o2_dump_laws.proofs.ProcessesRead.{number_behind, processes_run}
use Rattle.o2_dump_laws.proofs.SegmentsRead.{segments_run}

regroup : (a b c d e : List ℕ) → a ++ b ++ c ++ d ++ e ≡ a ++ (b ++ (c ++ (d ++ e)))
regroup a b c d e = simp append_assoc

as_core : (memory : List ℕ) (blocks steps_done console : ℕ) (es : List SegmentEntry) (ps : List Process) (c : Core) → memory ≡ c.memory → blocks ≡ c.blocks → steps_done ≡ c.steps → console ≡ c.console
    → es ≡ c.segments → ps ≡ c.processes
    → record { memory = memory; blocks = blocks; steps = steps_done; console = console; segments = es; processes = ps } ≡ c
as_core memory blocks steps_done console es ps c p q r s t u =
    ap (λ (z : List ℕ). let x : Core = record { memory = z; blocks = blocks; steps = steps_done; console = console; segments = es; processes = ps } in x) p
    ∙ (ap (λ (z : ℕ). let x : Core = record { memory = c.memory; blocks = z; steps = steps_done; console = console; segments = es; processes = ps } in x) q
    ∙ (ap (λ (z : ℕ). let x : Core = record { memory = c.memory; blocks = c.blocks; steps = z; console = console; segments = es; processes = ps } in x) r
    ∙ (ap (λ (z : ℕ). let x : Core = record { memory = c.memory; blocks = c.blocks; steps = c.steps; console = z; segments = es; processes = ps } in x) s
    ∙ (ap (λ (z : List SegmentEntry). let x : Core = record { memory = c.memory; blocks = c.blocks; steps = c.steps; console = c.console; segments = z; processes = ps } in x) t
    ∙ ap (λ (z : List Process). let x : Core = record { memory = c.memory; blocks = c.blocks; steps = c.steps; console = c.console; segments = c.segments; processes = z } in x) u))))

module _ (c : Core) (ok : IsWhole c) where
  abbrev file : List ℕ
  file = core_bytes c

  abbrev segments_end : ℕ
  segments_end = 40 + length (flat_map segment_bytes c.segments)

  abbrev memory_end : ℕ
  memory_end = segments_end + length c.memory

  abbrev processes_end : ℕ
  processes_end = memory_end + length (flat_map process_bytes c.processes)

  at_head : StandsAt file 0 (head_bytes c ++ (flat_map segment_bytes c.segments ++ (c.memory ++ (flat_map process_bytes c.processes ++ codes "END!"))))
  at_head = record {
    front = [];
    splits = regroup (head_bytes c) (flat_map segment_bytes c.segments) c.memory (flat_map process_bytes c.processes) (codes "END!");
    place = refl;
  }

  at_segments : StandsAt file 40 (flat_map segment_bytes c.segments ++ (c.memory ++ (flat_map process_bytes c.processes ++ codes "END!")))
  at_segments = stands_next file 0 40 _ (head_bytes c) _ at_head refl refl

  at_memory : StandsAt file segments_end (c.memory ++ (flat_map process_bytes c.processes ++ codes "END!"))
  at_memory = stands_next file 40 segments_end _ (flat_map segment_bytes c.segments) _ at_segments refl refl

  at_processes : StandsAt file memory_end (flat_map process_bytes c.processes ++ codes "END!")
  at_processes = stands_next file segments_end memory_end _ c.memory _ at_memory refl refl

  at_end : StandsAt file processes_end (codes "END!")
  at_end = stands_next file memory_end processes_end _ (flat_map process_bytes c.processes) _ at_processes refl refl

  file_ends : length file ≡ processes_end + 4
  file_ends = file_length file processes_end _ at_end

  memory_size : long_at file 8 ≡ length c.memory
  memory_size = long_is file 0 8 8 (length c.memory) _ at_head refl refl refl refl refl ok.memory

  blocks_are : long_at file 12 ≡ c.blocks
  blocks_are = long_is file 0 12 12 c.blocks _ at_head refl refl refl refl refl ok.blocks

  segments_many : long_at file 16 ≡ length c.segments
  segments_many = long_is file 0 16 16 (length c.segments) _ at_head refl refl refl refl refl ok.segments

  processes_many : long_at file 20 ≡ length c.processes
  processes_many = long_is file 0 20 20 (length c.processes) _ at_head refl refl refl refl refl ok.processes

  steps_are : quad_at file 24 ≡ c.steps
  steps_are = quad_is file 0 24 24 c.steps _ at_head refl refl refl refl refl refl refl refl refl ok.steps

  console_is : quad_at file 32 ≡ c.console
  console_is = quad_is file 0 32 32 c.console _ at_head refl refl refl refl refl refl refl refl refl ok.console

  either : (b : Bool) → (b || true) ≡ true
  either true = refl
  either false = refl

  fields_are : fields_of file ≡ 13
  fields_are = ap (λ (n : ℕ). if n == 50 then 13 else 12) (byte_at_is file 0 7 7 50 _ at_head refl refl)

  head_holds : all_hold (head_checks file) ≡ Ok tt
  head_holds =
      let eight : min (length file) 8 ≡ 8 = omega (arith, file_ends) in
      let second : begins_as (codes "OS2CORE2") file ≡ true = ap (λ (n : ℕ). bytes_eq (take n file) (take n (codes "OS2CORE2"))) eight in
      let marked : is_marked file ≡ true = ap (λ (b : Bool). begins_as (codes "OS2CORE1") file || b) second ∙ either (begins_as (codes "OS2CORE1") file) in
      two_hold _ _ marked (fits_in file 0 40 (omega (arith, file_ends)))

  segments_are : segments_of file ≡ Ok (record { found = c.segments; place = segments_end })
  segments_are =
      ap (λ (n : ℕ). steps (segment_step file n (long_at file 8) (long_at file 12)) (long_at file 16) (record { found = []; place = 40 })) fields_are
      ∙ ap (λ (n : ℕ). steps (segment_step file 13 n (long_at file 12)) (long_at file 16) (record { found = []; place = 40 })) memory_size
      ∙ (ap (λ (n : ℕ). steps (segment_step file 13 (length c.memory) n) (long_at file 16) (record { found = []; place = 40 })) blocks_are
      ∙ (ap (λ (n : ℕ). steps (segment_step file 13 (length c.memory) c.blocks) n (record { found = []; place = 40 })) segments_many
      ∙ segments_run c.segments file 40 segments_end _ (length c.memory) c.blocks [] ok.each_segment at_segments refl))

  processes_are : processes_of file (segments_end + long_at file 8) ≡ Ok (record { found = c.processes; least = number_behind 0 c.processes; place = processes_end })
  processes_are =
      ap (λ (n : ℕ). processes_of file (segments_end + n)) memory_size
      ∙ (ap (λ (n : ℕ). steps (process_step file n) (long_at file 20) (record { found = []; least = 0; place = memory_end })) segments_many
      ∙ (ap (λ (n : ℕ). steps (process_step file (length c.segments)) n (record { found = []; least = 0; place = memory_end })) processes_many
      ∙ processes_run c.processes file memory_end processes_end _ (length c.segments) 0 [] ok.segments ok.each_process at_processes refl))

  memory_holds : all_hold (whole file segments_end (long_at file 8) ∷ []) ≡ Ok tt
  memory_holds = one_holds _ (fits_in file segments_end (long_at file 8) (omega (arith, file_ends, memory_size)))

  end_holds : all_hold (end_checks file processes_end) ≡ Ok tt
  end_holds =
      let told : string_at file processes_end 4 ≡ codes "END!" = string_is file processes_end 4 (codes "END!") [] at_end refl in
      let marked : has_end file processes_end ≡ true = ap (λ (z : List ℕ). bytes_eq z (codes "END!")) told in
      three_hold _ _ _ (fits_in file processes_end 4 (omega (arith, file_ends))) marked (eq-eqb (length file) (processes_end + 4) file_ends)

  pub image_is : core_of file ≡ Ok c
  unfolding core_of
  image_is =
      goes_on _ tt _ _ head_holds
      (goes_on _ _ _ _ segments_are
      (goes_on _ tt _ _ memory_holds
      (goes_on _ _ _ _ processes_are
      (goes_on _ tt _ _ end_holds
      (ap Ok (as_core _ _ _ _ _ _ c
      (ap (string_at file segments_end) memory_size ∙ string_is file segments_end (length c.memory) c.memory _ at_memory refl)
      blocks_are steps_are console_is refl refl))))))
