-- The file of the bench module: a segmented executable of 384 bytes, whose tables stand behind its header, and whose segments stand at
-- multiples of 16 bytes.
use Rattle.std.specs.Prelude.{ℕ, List, [], ◌∷◌, ◌++◌, codes, flat_map, length, replicate}
use Rattle.o2_image.specs.Images.{word_bytes}
use Rattle.o2_gen.specs.BenchCode.{bench_code, bench_data}

-- words, the lowest byte first
abbrev pub words : List ℕ → List ℕ
words = flat_map word_bytes

-- the MZ header, with the place of the NE header
abbrev pub mz_header : List ℕ
mz_header = codes "MZ" ++ replicate 58 0 ++ words (64 ∷ 0 ∷ [])

-- the NE header
abbrev pub ne_header : List ℕ
ne_header =
    codes "NE" ++ words (5  -- the linker's version
    ∷ 101 ∷ 0  -- the entry table, which has no bytes
    ∷ 0 ∷ 0  -- no checksum
    ∷ 2 ∷ 2  -- a program, each process with its own automatic data; that is segment 2
    ∷ 0 ∷ 512  -- heap and stack
    ∷ 0 ∷ 1 ∷ 0 ∷ 2  -- IP, CS, SP, SS
    ∷ 2 ∷ 1 ∷ 0  -- two segments, one reference, no nonresident names
    ∷ 64 ∷ 80 ∷ 80 ∷ 89 ∷ 91  -- segments, resources, resident names, references, imported names, from this header on
    ∷ 0 ∷ 0 ∷ 0  -- where nonresident names would be, and no movable entries
    ∷ 4 ∷ 0  -- the shift of places in the file, and no resources
    ∷ 1  -- for OS/2
    ∷ [])
    ++ replicate 8 0

-- the segments: place in the file, length there, flags, size
abbrev pub segment_rows : List ℕ
segment_rows = words (11 ∷ 105 ∷ 0x0D00 ∷ 105 ∷ []) ++ words (20 ∷ 64 ∷ 0x0C01 ∷ 64 ∷ [])

-- a name behind its length
abbrev pub counted : List ℕ → List ℕ
counted name = length name ∷ name

-- the module's name with ordinal 0, and the end of the resident names
abbrev pub resident_names : List ℕ
resident_names = counted (codes "BENCH") ++ words (0 ∷ []) ++ 0 ∷ []

-- the reference to the imported name at offset 1
abbrev pub references : List ℕ
references = words (1 ∷ [])

abbrev pub imported_names : List ℕ
imported_names = 0 ∷ counted (codes "DOSCALLS")

-- a far import by ordinal from the first reference
abbrev pub import_row : ℕ → ℕ → List ℕ
import_row place ordinal = 3 ∷ 1 ∷ words (place ∷ 1 ∷ ordinal ∷ [])

-- how many records the code has, and these: DosAllocSeg, DosWrite, DosExit
abbrev pub code_records : List ℕ
code_records = words (3 ∷ []) ++ import_row 0x0F 34 ++ import_row 0x55 138 ++ import_row 0x5E 5

unfoldable pub bench_file : List ℕ
bench_file =
    mz_header ++ ne_header ++ segment_rows ++ resident_names ++ references ++ imported_names ++ replicate 11 0
    ++ bench_code ++ code_records ++ replicate 13 0
    ++ bench_data
