-- Operands of a row, from its prefixes, its ModRM byte and the bytes after that.
use Rattle.std.specs.Prelude.{ℕ, ◌+◌, ◌*◌, ◌/◌, ◌%◌, Bool, true, false, not, ◌&&◌, ◌||◌, ◌==◌, nat_lt, if◌then◌else◌, List, slice_index, unwrap_or}
use Rattle.o2_isa.specs.declared.rows.Row.{Row}
use Rattle.o2_isa.specs.declared.instr.Ea.{Ea}
use Rattle.o2_isa.specs.declared.instr.Arg.{Arg}
use Rattle.o2_isa.specs.declared.instr.Arg.TheVariants as arg
use Rattle.o2_isa.specs.declared.instr.Instr.{Instr}
use Rattle.o2_isa.specs.declared.rows.Prefixes.{Prefixes}
use Rattle.o2_isa.specs.declared.instr.Width.{Width}
use Rattle.o2_isa.specs.declared.instr.Width.TheVariants.{Byte, Word}
use Rattle.o2_isa.specs.declared.rows.Slot.{Slot}
use Rattle.o2_isa.specs.declared.rows.Slot.TheVariants.{Absent, ModRm, Memory, Register, Segment, SegmentNotCs, Fixed, FixedByte, FixedWord, FixedSegment, ImmByte, ImmWord, ImmSigned, FarImm, Offset, Constant, Source}
use Rattle.o2_isa.specs.declared.rows.Repeat.{Repeat}
use Rattle.o2_isa.specs.declared.rows.Repeat.TheVariants.{Never, Always, WhileZero}
use Rattle.o2_isa.specs.declared.instr.Rep.{Rep}
use Rattle.o2_isa.specs.declared.instr.Rep.TheVariants.{No, Equal, NotEqual}
use Rattle.o2_isa.specs.declared.instr.Sreg.{Sreg}
use Rattle.o2_isa.specs.declared.instr.Sreg.TheVariants.{Es, Cs, Ss, Ds}

-- an instruction without its prefixes and the bytes of its displacement and immediates: a row of the table,
-- and the ModRM byte, or 0 where the row takes none
pub record Plan : Type 0 where
  pub row : Row
  pub modrm : ℕ

-- The ModRM byte: mod 2 bits, reg 3, rm 3.
abbrev pub mod_of : ℕ → ℕ
mod_of m = m / 64

abbrev pub reg_of : ℕ → ℕ
reg_of m = m / 8 % 8

abbrev pub rm_of : ℕ → ℕ
rm_of m = m % 8

-- mod 0 has no displacement, but rm 6 is a direct offset
abbrev pub is_direct : ℕ → Bool
is_direct m = mod_of m == 0 && rm_of m == 6

-- how many bytes the displacement has
abbrev pub disp_len : ℕ → ℕ
disp_len m = if is_direct m then 2 else if mod_of m == 1 then 1 else if mod_of m == 2 then 2 else 0

-- whether the ModRM byte may stand with this operand
abbrev pub slot_takes : Slot → ℕ → Bool
slot_takes Memory m = not (mod_of m == 3)
slot_takes Segment m = nat_lt (reg_of m) 4
slot_takes SegmentNotCs m = nat_lt (reg_of m) 4 && not (reg_of m == 1)
slot_takes _ m = true

abbrev pub row_takes : Row → ℕ → Bool
row_takes row m = slot_takes row.left m && slot_takes row.right m

-- how many immediate bytes an operand has
abbrev pub imm_len : Slot → ℕ
imm_len ImmByte = 1
imm_len ImmSigned = 1
imm_len ImmWord = 2
imm_len Offset = 2
imm_len FarImm = 4
imm_len _ = 0

abbrev pub tail_len : Plan → ℕ
tail_len p = disp_len p.modrm + imm_len p.row.left + imm_len p.row.right + imm_len p.row.third

abbrev pub word_at : List ℕ → ℕ → ℕ
word_at t k = slice_index t k + 256 * slice_index t (k + 1)

abbrev pub sign_extended : ℕ → ℕ
sign_extended b = if nat_lt b 128 then b else b + 65280

abbrev pub sreg_of : ℕ → Sreg
sreg_of n = if n == 0 then Es else if n == 1 then Cs else if n == 2 then Ss else Ds

-- bases with BP use SS, all others DS
abbrev pub default_segment : ℕ → Sreg
default_segment m = if rm_of m == 2 || rm_of m == 3 || (rm_of m == 6 && not (is_direct m)) then Ss else Ds

-- the displacement, at the front of the bytes t after the ModRM byte
abbrev pub disp_of : ℕ → List ℕ → ℕ
disp_of m t = if disp_len m == 0 then 0 else if disp_len m == 1 then sign_extended (slice_index t 0) else word_at t 0

abbrev pub ea_of : Prefixes → ℕ → List ℕ → Ea
ea_of p m t = record { base = if is_direct m then 8 else rm_of m; disp = disp_of m t; seg = unwrap_or p.seg (default_segment m) }

abbrev pub register : Width → ℕ → Arg
register Byte n = arg.R8 n
register Word n = arg.R16 n

-- the operand of an instruction with the ModRM byte m and the bytes t after it, whose immediate bytes begin at place k
abbrev pub arg_of : Slot → Width → Prefixes → ℕ → List ℕ → ℕ → Arg
arg_of Absent w p m t k = arg.No
arg_of ModRm w p m t k = if mod_of m == 3 then register w (rm_of m) else arg.M (ea_of p m t)
arg_of Memory w p m t k = arg.M (ea_of p m t)
arg_of Register w p m t k = register w (reg_of m)
arg_of Segment w p m t k = arg.S (sreg_of (reg_of m))
arg_of SegmentNotCs w p m t k = arg.S (sreg_of (reg_of m))
arg_of (Fixed n) w p m t k = register w n
arg_of (FixedByte n) w p m t k = arg.R8 n
arg_of (FixedWord n) w p m t k = arg.R16 n
arg_of (FixedSegment s) w p m t k = arg.S s
arg_of ImmByte w p m t k = arg.Imm (slice_index t k)
arg_of ImmWord w p m t k = arg.Imm (word_at t k)
arg_of ImmSigned w p m t k = arg.Imm (sign_extended (slice_index t k))
arg_of FarImm w p m t k = arg.Far (word_at t k) (word_at t (k + 2))
arg_of Offset w p m t k = arg.M (record { base = 8; disp = word_at t k; seg = unwrap_or p.seg Ds })
arg_of (Constant n) w p m t k = arg.Imm n
arg_of Source w p m t k = arg.No

abbrev pub is_source : Slot → Bool
is_source Source = true
is_source _ = false

-- the segment of a source that isn't written as an operand
abbrev pub source_segment : Prefixes → Row → Sreg
source_segment p row = if is_source row.left || is_source row.right then unwrap_or p.seg Ds else Ds

-- a repeat prefix counts only on string instructions, and is one thing on some of them
abbrev pub rep_of : Repeat → Rep → Rep
rep_of Never r = No
rep_of WhileZero r = r
rep_of Always No = No
rep_of Always Equal = Equal
rep_of Always NotEqual = Equal

-- the instruction of the prefixes, the plan and the bytes after that
abbrev pub instr_of : Prefixes → Plan → List ℕ → Instr
instr_of p plan t = record {
  op = plan.row.op;
  width = plan.row.width;
  left = arg_of plan.row.left plan.row.width p plan.modrm t (disp_len plan.modrm);
  right = arg_of plan.row.right plan.row.width p plan.modrm t (disp_len plan.modrm + imm_len plan.row.left);
  third = arg_of plan.row.third plan.row.width p plan.modrm t (disp_len plan.modrm + imm_len plan.row.left + imm_len plan.row.right);
  seg = source_segment p plan.row;
  rep = rep_of plan.row.repeat p.rep;
  lock = p.lock;
}
