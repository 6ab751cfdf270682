-- Which bytes spell which instruction: prefixes, then a head that the table knows (the opcode, with the ModRM byte where it
-- takes one), then as many bytes as the head asks for. No bound on the length stands here.
use Rattle.std.specs.Prelude.{◌≡◌, ℕ, ◌<◌, ◌≤◌, Bool, true, false, ◌||◌, ◌==◌, if◌then◌else◌, List, [], ◌∷◌, ◌++◌, length, take, slice_index_or, Option, Some, None}
use Rattle.std.specs.List.{AllByRecursion}
use Rattle.o2_isa.specs.declared.rows.Entry.{Entry}
use Rattle.o2_isa.specs.declared.rows.Entry.TheVariants.{Unused, Bare, Modrm, Group}
use Rattle.o2_isa.specs.declared.rows.Row.{Row}
use Rattle.o2_isa.specs.declared.rows.Prefixes.{Prefixes}
use Rattle.o2_isa.specs.declared.instr.Instr.{Instr}
use Rattle.o2_isa.specs.declared.instr.Rep.TheVariants.{No, Equal, NotEqual}
use Rattle.o2_isa.specs.declared.instr.Sreg.TheVariants.{Es, Cs, Ss, Ds}
use Rattle.o2_isa.specs.Table.{table, table_0f, groups}
use Rattle.o2_isa.specs.Operands.{Plan, reg_of, row_takes, tail_len, instr_of}

-- 26h, 2Eh, 36h and 3Eh are the segment prefixes of ES, CS, SS and DS, F0h is LOCK, F2h REPNE, and F3h REP or REPE
abbrev pub is_prefix : ℕ → Bool
is_prefix b = b == 38 || b == 46 || b == 54 || b == 62 || b == 240 || b == 242 || b == 243

abbrev pub no_prefixes : Prefixes
no_prefixes = record { seg = None; rep = No; lock = false }

-- the prefixes with one more; of segments and of repeats the last counts
unfoldable pub mark : Prefixes → ℕ → Prefixes
mark p b = if b == 38 then record p { seg = Some Es } else if b == 46 then record p { seg = Some Cs } else if b == 54
    then record p { seg = Some Ss } else if b == 62 then record p { seg = Some Ds } else if b == 240 then record p { lock = true }
    else if b == 242 then record p { rep = NotEqual } else if b == 243 then record p { rep = Equal } else p

abbrev pub marks : Prefixes → List ℕ → Prefixes
marks p [] = p
marks p (b ∷ bs) = marks (mark p b) bs

abbrev pub checked : Option Row → ℕ → Option Row
checked None m = None
checked (Some row) m = if row_takes row m then Some row else None

-- the row of an entry that takes a ModRM byte
abbrev pub row_of : Entry → ℕ → Option Row
row_of (Modrm row) m = checked (Some row) m
row_of (Group k) m = checked (slice_index_or (slice_index_or groups k []) (reg_of m) None) m
row_of _ m = None

abbrev pub with_modrm : Option Row → ℕ → Option Plan
with_modrm None m = None
with_modrm (Some row) m = Some (record { row = row; modrm = m })

-- the opcode's entry, and the ModRM byte where it takes one
abbrev pub plan_after : Entry → List ℕ → Option Plan
plan_after (Bare row) [] = Some (record { row = row; modrm = 0 })
plan_after e (m ∷ []) = with_modrm (row_of e m) m
plan_after _ _ = None

-- the head behind 0Fh
abbrev pub plan_two : List ℕ → Option Plan
plan_two [] = None
plan_two (b ∷ bs) = plan_after (slice_index_or table_0f b Unused) bs

-- the head of an instruction, where the bytes are a whole one
abbrev pub plan_of : List ℕ → Option Plan
plan_of [] = None
plan_of (b ∷ bs) = if b == 15 then plan_two bs else plan_after (slice_index_or table b Unused) bs

abbrev pub IsPrefix : ℕ → Type 0
IsPrefix b = is_prefix b ≡ true

-- the bytes spell the instruction, where the prefixes p came before them
pub record SpellsAfter (p : Prefixes) (bytes : List ℕ) (i : Instr) : Type 0 where
  pub prefixes : List ℕ
  pub each : AllByRecursion IsPrefix prefixes
  pub head : List ℕ
  pub plan : Plan
  pub known : plan_of head ≡ Some plan
  pub tail : List ℕ
  pub whole : length tail ≡ tail_len plan
  pub spelled : bytes ≡ prefixes ++ (head ++ tail)
  pub means : i ≡ instr_of (marks p prefixes) plan tail

-- the bytes spell the instruction
abbrev pub Spells : List ℕ → Instr → Type 0
Spells bytes i = SpellsAfter no_prefixes bytes i

abbrev pub IsByte : ℕ → Type 0
IsByte b = b < 256

-- the bytes are a proper front of a spelling: with some more bytes they spell an instruction
pub record IsFront (bytes : List ℕ) : Type 0 where
  pub more : List ℕ
  pub some_more : 0 < length more
  pub each : AllByRecursion IsByte more
  pub instr : Instr
  pub spells : Spells (bytes ++ more) instr

-- no instruction begins with the bytes, and they begin none
pub record IsUndefined (bytes : List ℕ) : Type 0 where
  pub no_instruction : (i : Instr) (n : ℕ) → n ≤ length bytes → Spells (take n bytes) i → ⊥
  pub no_front : IsFront bytes → ⊥
