-- Lines of code, one behind the other.
use Rattle.std.proofs.Common.{◌≡◌, ◌+◌, ◌<◌, ◌≤◌, ℕ, List, [], ◌∷◌, ◌++◌, length, take, ap, sym, subst, arith}
use Rattle.std.specs.Prelude.{Some}
use Rattle.std.proofs.lemmas.List.{length-append, length-take-le}
use Rattle.o2_isa.specs.declared.instr.Instr.{Instr}
use Rattle.o2_isa.specs.Operands.{Plan}
use Rattle.o2_isa.specs.Spelling.{Spells, plan_of}
use Rattle.os2list.specs.declared.lines.CodeLine.{CodeLine}
use Rattle.os2list.specs.Listing.{IsLine, Shows}

-- one more line behind others
pub shown_more : (bytes : List ℕ) (ls : List CodeLine) (from mid : ℕ) (l : CodeLine) → Shows bytes from ls mid → IsLine bytes mid l → Shows bytes from (ls ++ l ∷ []) (mid + l.count)
shown_more bytes [] from mid l begins is = (subst (λ (n : ℕ). IsLine bytes n l) (sym begins) is, ap (λ (n : ℕ). n + l.count) begins)
shown_more bytes (x ∷ xs) from mid l shows is = (shows.0, shown_more bytes xs (from + x.count) mid l shows.1 is)

-- the opcode has a byte
some_head : (head : List ℕ) (plan : Plan) → plan_of head ≡ Some plan → 0 < length head
some_head [] plan known = cc
some_head (b ∷ bs) plan known = omega arith

-- an instruction has at least one byte
pub some_bytes : (bytes : List ℕ) (i : Instr) (n : ℕ) → (n ≤ length bytes) × Spells (take n bytes) i → 0 < n
some_bytes bytes i n is =
    let whole : length (take n bytes) ≡ length (is.1.prefixes ++ (is.1.head ++ is.1.tail)) = ap length is.1.spelled in
    omega (arith, some_head is.1.head is.1.plan is.1.known, simp length-append at whole, length-take-le n bytes is.0)
