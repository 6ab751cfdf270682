-- The bench's file, read part by part.
use Rattle.std.proofs.Common.{◌≡◌, ap, ℕ, suc, ◌+◌, true, false, List, [], ◌∷◌, Result, Ok, Err, IfOk, refl, ◌∙◌}
use Rattle.std.specs.Prelude.{replicate}
use Rattle.o2_ne.specs.declared.head.Head.{Head}
use Rattle.o2_ne.specs.declared.entries.Entry.{Entry}
use Rattle.o2_ne.specs.Checks.{all_hold}
use Rattle.o2_ne.specs.Header.{head_of}
use Rattle.o2_ne.specs.NameTable.{Exports, exports_of, names_at, name_step}
use Rattle.o2_ne.specs.EntryTable.{entries_of, table_step}
use Rattle.o2_ne.specs.Steps.{steps, over, tabulate}
use Rattle.o2_ne.proofs.Stepwise.{stays}
use Rattle.o2_ne_segs.specs.declared.segment.Segment.{Segment}
use Rattle.o2_ne_segs.specs.declared.reloc.Reloc.{Reloc}
use Rattle.o2_ne_segs.specs.SegmentTable.{nth_segment, segment_of, segments_of}
use Rattle.o2_ne_segs.specs.Records.{counted, relocs_in}
use Rattle.o2_image.specs.Faults.{under_ne, under_seg}
use Rattle.o2_image.specs.References.{all_references}
use Rattle.o2_image.specs.Targets.{leads}
use Rattle.o2_image.specs.Chains.{Marks, chain, chain_step, patched}
use Rattle.o2_image.specs.Records.{Checking, bytes_of, marks_after, record_step, segment_step}
use Rattle.o2_image.specs.Modules.{auto_data_checks, module_of, parts_of}
use Rattle.o2_gen.specs.BenchCode.{bench_code, bench_data}
use Rattle.o2_gen.specs.BenchFile.{bench_file}
use Rattle.o2_gen.specs.BenchModule.{bench_head, bench_names, bench_module, code_segment, data_segment, bench_calls, calls}

-- ---- the steps of a reading

module_reads : (file : List ℕ) (h : Head) (ss : List Segment) (names : Exports) (es : List Entry) (n k : ℕ)
    → under_ne (head_of file) ≡ Ok h → under_seg (segments_of file (h.at + h.segments_at) h.segments h.shift) ≡ Ok ss
    → all_hold (auto_data_checks h (nth_segment h.auto_seg ss)) ≡ Ok tt → under_ne (exports_of file h) ≡ Ok names
    → all_references file h ≡ Ok n → under_ne (entries_of file h) ≡ Ok es → over (segment_step file h es) ss 1 ≡ Ok k
    → module_of file ≡ Ok (parts_of file h ss names es)
unfolding module_of
module_reads file h ss names es n k e1 e2 e3 e4 e5 e6 e7 = rw (e1, e2, e3, e4, e5, e6, e7) refl

segment_reads : (file : List ℕ) (h : Head) (es : List Entry) (s : Segment) (n c : ℕ) (bytes : List ℕ) (rs : List Reloc) (after : Checking)
    → under_seg (counted file s) ≡ Ok c → bytes_of file s ≡ bytes → relocs_in file s ≡ rs
    → over (record_step file h es n bytes) rs (record { marks = replicate s.file_len false; number = 0 }) ≡ Ok after
    → segment_step file h es s n ≡ Ok (n + 1)
unfolding segment_step
segment_reads file h es s n c bytes rs after e1 e2 e3 e4 = rw (e1, e2, e3, e4) refl

record_reads : (file : List ℕ) (h : Head) (es : List Entry) (seg : ℕ) (bytes : List ℕ) (r : Reloc) (marks after : Marks) (n : ℕ)
    → leads file h es r ≡ true → marks_after seg bytes r marks ≡ Ok after
    → record_step file h es seg bytes r (record { marks = marks; number = n }) ≡ Ok (record { marks = after; number = n + 1 })
unfolding record_step
record_reads file h es seg bytes r marks after n e1 e2 = rw (e1, e2) refl

over_none : {X S F : Type 0} (f : X → S → Result S F) (a : S) → over f [] a ≡ Ok a
unfolding over
over_none f a = refl

over_one : {X S F : Type 0} (f : X → S → Result S F) (x : X) (xs : List X) (a b d : S) → f x a ≡ Ok b → over f xs b ≡ Ok d → over f (x ∷ xs) a ≡ Ok d
unfolding over
over_one f x xs a b d e1 e2 = rw e1 e2

-- a chain of one place
chain_ends : (seg : ℕ) (bytes : List ℕ) (width next : ℕ) (marks : Marks)
    → chain_step seg bytes width (record { marks = marks; next = next; ended = true }) ≡ Ok (record { marks = marks; next = next; ended = true })
unfolding chain_step
chain_ends seg bytes width next marks = refl

first_step : {S F : Type 0} (f : S → Result S F) (n : ℕ) (a b : S) → f a ≡ Ok b → steps f (suc n) a ≡ steps f n b
unfolding steps
first_step f n a b e = rw e refl

chain_reads : (seg : ℕ) (bytes : List ℕ) (width p next : ℕ) (marks after : Marks)
    → chain_step seg bytes width (record { marks = marks; next = p; ended = false }) ≡ Ok (record { marks = after; next = next; ended = true })
    → chain seg bytes width p marks ≡ Ok after
unfolding chain
chain_reads seg bytes width p next marks after e =
    let f = chain_step seg bytes width in
    let one = first_step f 65535 (record { marks = marks; next = p; ended = false }) (record { marks = after; next = next; ended = true }) e in
    let rest = stays f 65535 (record { marks = after; next = next; ended = true }) (chain_ends seg bytes width next after) in
    let all = one ∙ rest in
    rw all refl

-- ---- this file

unfoldable bench_segments : List Segment
bench_segments = code_segment ∷ data_segment ∷ []

reads_head : under_ne (head_of bench_file) ≡ Ok bench_head
unfolding bench_file bench_code bench_data
reads_head = refl

reads_segments : under_seg (segments_of bench_file (bench_head.at + bench_head.segments_at) bench_head.segments bench_head.shift) ≡ Ok bench_segments
unfolding bench_file bench_code bench_data bench_segments segments_of segment_of steps
reads_segments = refl

reads_auto : all_hold (auto_data_checks bench_head (nth_segment bench_head.auto_seg bench_segments)) ≡ Ok tt
unfolding bench_segments
reads_auto = refl

reads_names : under_ne (exports_of bench_file bench_head) ≡ Ok bench_names
unfolding bench_file bench_code bench_data exports_of names_at name_step steps
reads_names = refl

reads_references : all_references bench_file bench_head ≡ Ok 1
unfolding bench_file bench_code bench_data steps
reads_references = refl

reads_entries : under_ne (entries_of bench_file bench_head) ≡ Ok []
unfolding bench_file bench_code bench_data entries_of table_step steps
reads_entries = refl

abbrev none_patched : Marks
none_patched = replicate 105 false

abbrev one_patched : Marks
one_patched = patched none_patched 15 4

abbrev two_patched : Marks
two_patched = patched one_patched 85 4

abbrev all_patched : Marks
all_patched = patched two_patched 94 4

first_place : chain_step 1 bench_code 4 (record { marks = none_patched; next = 15; ended = false }) ≡ Ok (record { marks = one_patched; next = 65535; ended = true })
unfolding chain_step bench_code
first_place = refl

second_place : chain_step 1 bench_code 4 (record { marks = one_patched; next = 85; ended = false }) ≡ Ok (record { marks = two_patched; next = 65535; ended = true })
unfolding chain_step bench_code
second_place = refl

third_place : chain_step 1 bench_code 4 (record { marks = two_patched; next = 94; ended = false }) ≡ Ok (record { marks = all_patched; next = 65535; ended = true })
unfolding chain_step bench_code
third_place = refl

is_led : (place ordinal : ℕ) → leads bench_file bench_head [] (calls place ordinal) ≡ true
unfolding bench_file bench_code bench_data
is_led place ordinal = refl

reads_calls : over (record_step bench_file bench_head [] 1 bench_code) bench_calls (record { marks = none_patched; number = 0 }) ≡ Ok (record { marks = all_patched; number = 3 })
reads_calls =
    let f = record_step bench_file bench_head [] 1 bench_code in
    let one = record_reads bench_file bench_head [] 1 bench_code (calls 15 34) none_patched one_patched 0 (is_led 15 34) (chain_reads 1 bench_code 4 15 65535 none_patched one_patched first_place) in
    let two = record_reads bench_file bench_head [] 1 bench_code (calls 85 138) one_patched two_patched 1 (is_led 85 138) (chain_reads 1 bench_code 4 85 65535 one_patched two_patched second_place) in
    let three = record_reads bench_file bench_head [] 1 bench_code (calls 94 5) two_patched all_patched 2 (is_led 94 5) (chain_reads 1 bench_code 4 94 65535 two_patched all_patched third_place) in
    over_one f _ _ _ _ _ one (over_one f _ _ _ _ _ two (over_one f _ _ _ _ _ three (over_none f _)))

calls_there : relocs_in bench_file code_segment ≡ bench_calls
unfolding bench_file bench_code bench_data tabulate
calls_there = refl

no_calls : relocs_in bench_file data_segment ≡ []
unfolding bench_file bench_code bench_data tabulate
no_calls = refl

code_counts : under_seg (counted bench_file code_segment) ≡ Ok 3
unfolding bench_file bench_code bench_data
code_counts = refl

pub code_bytes : bytes_of bench_file code_segment ≡ bench_code
unfolding bench_file bench_code bench_data
code_bytes = refl

pub data_bytes : bytes_of bench_file data_segment ≡ bench_data
unfolding bench_file bench_code bench_data
data_bytes = refl

reads_code : segment_step bench_file bench_head [] code_segment 1 ≡ Ok 2
reads_code = segment_reads bench_file bench_head [] code_segment 1 3 bench_code bench_calls (record { marks = all_patched; number = 3 }) code_counts code_bytes calls_there reads_calls

reads_data : segment_step bench_file bench_head [] data_segment 2 ≡ Ok 3
reads_data = segment_reads bench_file bench_head [] data_segment 2 0 bench_data [] (record { marks = replicate 64 false; number = 0 }) refl data_bytes no_calls (over_none _ _)

reads_both : over (segment_step bench_file bench_head []) bench_segments 1 ≡ Ok 3
unfolding bench_segments
reads_both = over_one (segment_step bench_file bench_head []) _ _ _ _ _ reads_code (over_one (segment_step bench_file bench_head []) _ _ _ _ _ reads_data (over_none _ _))

parts_are : parts_of bench_file bench_head bench_segments bench_names [] ≡ bench_module
unfolding bench_module bench_segments bench_file bench_code bench_data tabulate
parts_are = refl

pub reads : module_of bench_file ≡ Ok bench_module
reads =
    module_reads bench_file bench_head bench_segments bench_names [] 1 3 reads_head reads_segments reads_auto reads_names reads_references reads_entries reads_both
    ∙ ap Ok parts_are

-- a file that is the bench's is read so
pub read_so : {E : Type 0} (r : Result (List ℕ) E) → IfOk r (λ b. b ≡ bench_file) → IfOk r (λ b. module_of b ≡ Ok bench_module)
read_so (Ok b) is = ap module_of is ∙ reads
read_so (Err e) is = is
