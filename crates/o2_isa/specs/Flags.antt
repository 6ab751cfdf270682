-- The flags word of the 80286: the place of each flag, and one flag read or put.
use Rattle.std.specs.Prelude.{ℕ, ◌+◌, ◌*◌, ◌/◌, ◌%◌, ◌^◌, Bool, true, false, ◌==◌, nat_le, if◌then◌else◌, count_ones, List, [], ◌∷◌}
use Rattle.o2_isa.specs.declared.instr.Width.{Width}
use Rattle.o2_isa.specs.declared.flags.Flag.{Flag}
use Rattle.o2_isa.specs.declared.flags.Flag.TheVariants.{Carry, Parity, Auxiliary, Zero, Sign, Trap, Interrupt, Direction, Overflow, PrivilegeLow, PrivilegeHigh, Nested}
use Rattle.o2_isa.specs.Widths.{half}

-- the bit number of each flag
abbrev pub flag_number : Flag → ℕ
flag_number Carry = 0
flag_number Parity = 2
flag_number Auxiliary = 4
flag_number Zero = 6
flag_number Sign = 7
flag_number Trap = 8
flag_number Interrupt = 9
flag_number Direction = 10
flag_number Overflow = 11
flag_number PrivilegeLow = 12
flag_number PrivilegeHigh = 13
flag_number Nested = 14

-- all flags
abbrev pub every_flag : List Flag
every_flag =
    Carry ∷ Parity ∷ Auxiliary ∷ Zero ∷ Sign ∷ Trap ∷ Interrupt ∷ Direction ∷ Overflow ∷
    PrivilegeLow ∷ PrivilegeHigh ∷ Nested ∷ []

-- those that POPF and IRET may change at privilege level 3
abbrev pub popped_flags : List Flag
popped_flags = Carry ∷ Parity ∷ Auxiliary ∷ Zero ∷ Sign ∷ Trap ∷ Direction ∷ Overflow ∷ Nested ∷ []

-- those that SAHF changes
abbrev pub loaded_flags : List Flag
loaded_flags = Carry ∷ Parity ∷ Auxiliary ∷ Zero ∷ Sign ∷ []

abbrev pub weight : Flag → ℕ
weight k = 2 ^ flag_number k

-- the flags word with one flag put, all other bits as they are
abbrev pub put : ℕ → Flag → Bool → ℕ
put f k on = f / (2 * weight k) * (2 * weight k) + (if on then weight k else 0) + f % weight k

abbrev pub is_set : ℕ → Flag → Bool
is_set f k = f / weight k % 2 == 1

-- the six flags that arithmetic may put; the others are for control
abbrev pub is_status : Flag → Bool
is_status Carry = true
is_status Parity = true
is_status Auxiliary = true
is_status Zero = true
is_status Sign = true
is_status Trap = false
is_status Interrupt = false
is_status Direction = false
is_status Overflow = true
is_status PrivilegeLow = false
is_status PrivilegeHigh = false
is_status Nested = false

-- an even number of ones in the low byte
unfoldable pub is_even : ℕ → Bool
is_even r = count_ones (r % 256) % 2 == 0

-- SF, ZF and PF as the result r says
unfoldable pub with_szp : Width → ℕ → ℕ → ℕ
with_szp w r f = put (put (put f Sign (nat_le (half w) r)) Zero (r == 0)) Parity (is_even r)

-- CF, AF and OF put
unfoldable pub with_carries : ℕ → Bool → Bool → Bool → ℕ
with_carries f c a o = put (put (put f Carry c) Auxiliary a) Overflow o
