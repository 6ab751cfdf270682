-- Each row of the string instructions loads nothing, and keeps the selectors.
use Rattle.std.proofs.Common.{refl, ℕ, Bool, true, false, cond, []}
use Rattle.o2_isa.specs.declared.instr.Width.{Width}
use Rattle.o2_isa.specs.declared.instr.Width.TheVariants.{Byte, Word}
use Rattle.o2_isa.specs.declared.instr.Rep.{Rep}
use Rattle.o2_isa.specs.declared.instr.Rep.TheVariants.{No, Equal, NotEqual}
use Rattle.o2_isa.specs.declared.instr.Instr.{Instr}
use Rattle.o2_isa.specs.declared.cpu.Cpu.{Cpu}
use Rattle.o2_isa.specs.Steps.{Steps, Ends, next_at}
use Rattle.o2_isa.specs.Registers.{with_accumulator}
use Rattle.o2_isa.specs.StringRows.{repeated, source_moved, target_moved, movs, stos, lods, cmps, scas, is_over, repeating}
use Rattle.o2_isa.specs.Presence.{IsRow, SameSelectors}
use Rattle.o2_isa.proofs.RowParts.{kept, word_kept, byte_kept}

repeated_kept : (r : Rep) (compares : Bool) (c d : Cpu) (next : ℕ) → SameSelectors c d → SameSelectors (repeated r compares c next) d
unfolding repeated
repeated_kept No compares c d next s = record { es = s.es; cs = s.cs; ss = s.ss; ds = s.ds }
repeated_kept Equal compares c d next s = record { es = s.es; cs = s.cs; ss = s.ss; ds = s.ds }
repeated_kept NotEqual compares c d next s = record { es = s.es; cs = s.cs; ss = s.ss; ds = s.ds }

accumulator_kept : (w : Width) (c : Cpu) (x : ℕ) → SameSelectors (with_accumulator w c x) c
accumulator_kept Byte c x = byte_kept c c 0 x (kept c)
accumulator_kept Word c x = word_kept c c 0 x (kept c)

source_kept : (w : Width) (c d : Cpu) → SameSelectors c d → SameSelectors (source_moved w c) d
source_kept w c d s = record { es = s.es; cs = s.cs; ss = s.ss; ds = s.ds }

repeating_row : (c : Cpu) (i : Instr) (next : ℕ) (p : Steps) → IsRow c 1 p → IsRow c 1 (repeating c i next p)
repeating_row c i next p h = by_count (is_over i.rep c.cx)
  where
    by_count : (b : Bool) → IsRow c 1 (cond b (Ends (next_at c next) []) p)
    by_count true = (tt, record { es = refl; cs = refl; ss = refl; ds = refl })
    by_count false = h

pub movs_row : (c : Cpu) (i : Instr) (next : ℕ) → IsRow c 1 (repeating c i next (movs c i next))
unfolding movs
movs_row c i next = repeating_row c i next _ (λ x. (tt, repeated_kept i.rep false (target_moved i.width (source_moved i.width c)) c next (record { es = refl; cs = refl; ss = refl; ds = refl })))

pub cmps_row : (c : Cpu) (i : Instr) (next : ℕ) → IsRow c 1 (repeating c i next (cmps c i next))
unfolding cmps
cmps_row c i next = repeating_row c i next _ (λ a b. (tt, repeated_kept i.rep true _ c next (record { es = refl; cs = refl; ss = refl; ds = refl })))

pub stos_row : (c : Cpu) (i : Instr) (next : ℕ) → IsRow c 1 (repeating c i next (stos c i next))
unfolding stos
stos_row c i next = repeating_row c i next _ (tt, repeated_kept i.rep false (target_moved i.width c) c next (record { es = refl; cs = refl; ss = refl; ds = refl }))

pub lods_row : (c : Cpu) (i : Instr) (next : ℕ) → IsRow c 1 (repeating c i next (lods c i next))
unfolding lods
lods_row c i next = repeating_row c i next _ (λ x. (tt, repeated_kept i.rep false (source_moved i.width (with_accumulator i.width c x)) c next (source_kept i.width _ c (accumulator_kept i.width c x))))

pub scas_row : (c : Cpu) (i : Instr) (next : ℕ) → IsRow c 1 (repeating c i next (scas c i next))
unfolding scas
scas_row c i next = repeating_row c i next _ (λ b. (tt, repeated_kept i.rep true _ c next (record { es = refl; cs = refl; ss = refl; ds = refl })))
