-- The header of an NE file.
use Rattle.std.specs.Prelude.{ℕ, ◌+◌, ◌==◌, not, List, [], ◌∷◌, nat_le, Result, Ok}
use Rattle.std.specs.Int.RustNames.{bit_and}
use Rattle.o2_base.specs.declared.faults.NeFault.{NeFault}
use Rattle.o2_base.specs.declared.faults.NeFault.TheVariants.{NotMz, NotNe, NotOs2, LinkErrors, BadTable, OutOfProfile}
use Rattle.o2_base.specs.declared.faults.Which.TheVariants.{DataMode, Shift, AutoData, Segments, References}
use Rattle.o2_ne.specs.declared.head.Head.{Head}
use Rattle.o2_ne.specs.Words.{byte_at, word_at, long_at}
use Rattle.o2_ne.specs.Checks.{Check, checked, or_fault, in_file, all_hold, ◌>>=◌}

-- where the header begins
abbrev pub place_of_header : List ℕ → ℕ
place_of_header file = long_at file 60

-- the fields of the header at place p
abbrev pub head_at : List ℕ → ℕ → Head
head_at file p = record {
  at = p;
  entries = word_at file (p + 4);
  entries_len = word_at file (p + 6);
  flags = word_at file (p + 12);
  auto_seg = word_at file (p + 14);
  heap = word_at file (p + 16);
  stack = word_at file (p + 18);
  ip = word_at file (p + 20);
  cs = word_at file (p + 22);
  sp = word_at file (p + 24);
  ss = word_at file (p + 26);
  segments = word_at file (p + 28);
  references = word_at file (p + 30);
  nonresident_len = word_at file (p + 32);
  segments_at = word_at file (p + 34);
  resident_at = word_at file (p + 38);
  references_at = word_at file (p + 40);
  imported_at = word_at file (p + 42);
  nonresident_at = long_at file (p + 44);
  movable = word_at file (p + 48);
  shift = word_at file (p + 50);
  target = byte_at file (p + 54);
}

-- the header lies in the file, behind its mark
abbrev pub place_checks : List ℕ → List (Check NeFault)
place_checks file =
    let p = place_of_header file in
    or_fault (byte_at file 0 == 77) NotMz
    ∷ or_fault (byte_at file 1 == 90) NotMz
    ∷ in_file file 0 64
    ∷ in_file file p 64
    ∷ or_fault (byte_at file p == 78) NotNe
    ∷ or_fault (byte_at file (p + 1) == 69) NotNe
    ∷ []

-- the profile of a header
abbrev pub profile_checks : Head → List (Check NeFault)
profile_checks h =
    or_fault (nat_le h.target 1) NotOs2
    ∷ or_fault (bit_and h.flags 0x2000 == 0) LinkErrors
    ∷ or_fault (not (bit_and h.flags 3 == 3)) (BadTable DataMode)
    ∷ or_fault (nat_le h.shift 15) (BadTable Shift)
    ∷ or_fault (nat_le h.segments 254) (OutOfProfile Segments)
    ∷ or_fault (nat_le h.references 255) (OutOfProfile References)
    ∷ or_fault (nat_le h.auto_seg h.segments) (BadTable AutoData)
    ∷ []

-- the header of a file, or the fault of the first check that fails
abbrev pub head_of : List ℕ → Result Head NeFault
head_of file = do
  p ← checked (place_checks file) (place_of_header file)
  _ ← all_hold (profile_checks (head_at file p))
  Ok (head_at file p)
