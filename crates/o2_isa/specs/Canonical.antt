-- What the fields of an instruction are where they mean nothing.
use Rattle.std.specs.Prelude.{◌≡◌, Bool, true, false}
use Rattle.o2_isa.specs.declared.instr.Op.{Op}
use Rattle.o2_isa.specs.declared.instr.Op.TheVariants.{OpAdd, OpOr, OpAdc, OpSbb, OpAnd, OpSub, OpXor, OpCmp, OpInc, OpDec, OpIns, OpOuts, OpTest, OpXchg, OpMov, OpMovs}
use Rattle.o2_isa.specs.declared.instr.Op.TheVariants.{OpCmps, OpStos, OpLods, OpScas, OpRol, OpRor, OpRcl, OpRcr, OpShl, OpShr, OpSar, OpXlat, OpIn, OpOut, OpNot, OpNeg}
use Rattle.o2_isa.specs.declared.instr.Op.TheVariants.{OpMul, OpImul, OpDiv, OpIdiv}
use Rattle.o2_isa.specs.declared.instr.Width.TheVariants.{Word}
use Rattle.o2_isa.specs.declared.instr.Rep.TheVariants.{No, NotEqual}
use Rattle.o2_isa.specs.declared.instr.Sreg.TheVariants.{Ds}
use Rattle.o2_isa.specs.declared.instr.Instr.{Instr}

-- the string instructions
abbrev pub is_string : Op → Bool
is_string OpIns = true
is_string OpOuts = true
is_string OpMovs = true
is_string OpCmps = true
is_string OpStos = true
is_string OpLods = true
is_string OpScas = true
is_string _ = false

-- those that repeat while elements are equal, or while they differ
abbrev pub compares : Op → Bool
compares OpCmps = true
compares OpScas = true
compares _ = false

-- the mnemonics that read memory which isn't written as an operand, and which a segment prefix moves
abbrev pub has_source : Op → Bool
has_source OpOuts = true
has_source OpMovs = true
has_source OpCmps = true
has_source OpLods = true
has_source OpXlat = true
has_source _ = false

-- the mnemonics that have a form for bytes
abbrev pub has_bytes : Op → Bool
has_bytes OpAdd = true
has_bytes OpOr = true
has_bytes OpAdc = true
has_bytes OpSbb = true
has_bytes OpAnd = true
has_bytes OpSub = true
has_bytes OpXor = true
has_bytes OpCmp = true
has_bytes OpInc = true
has_bytes OpDec = true
has_bytes OpIns = true
has_bytes OpOuts = true
has_bytes OpTest = true
has_bytes OpXchg = true
has_bytes OpMov = true
has_bytes OpMovs = true
has_bytes OpCmps = true
has_bytes OpStos = true
has_bytes OpLods = true
has_bytes OpScas = true
has_bytes OpRol = true
has_bytes OpRor = true
has_bytes OpRcl = true
has_bytes OpRcr = true
has_bytes OpShl = true
has_bytes OpShr = true
has_bytes OpSar = true
has_bytes OpXlat = true
has_bytes OpIn = true
has_bytes OpOut = true
has_bytes OpNot = true
has_bytes OpNeg = true
has_bytes OpMul = true
has_bytes OpImul = true
has_bytes OpDiv = true
has_bytes OpIdiv = true
has_bytes _ = false

pub record IsCanonical (i : Instr) : Type 0 where
  -- a segment prefix is kept here where it moves a source, and only there
  pub seg : has_source i.op ≡ false → i.seg ≡ Ds
  -- a repeat prefix is kept on string instructions alone
  pub rep : is_string i.op ≡ false → i.rep ≡ No
  -- and as REPNE only where that isn't the same as REP
  pub repne : compares i.op ≡ false → i.rep ≡ NotEqual → ⊥
  pub width : has_bytes i.op ≡ false → i.width ≡ Word
