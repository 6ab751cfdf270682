-- The bench program. It makes eight segments of 8,192 bytes and adds one to the first word of each, fifty times in turn. Then it
-- writes `.` where each of these words is 50, else `!`, and ends with code 0.
use Rattle.std.specs.Prelude.{ℕ, List, [], ◌∷◌, ◌++◌, codes, replicate}

-- a far call of an import: the word at its place ends the chain of places
abbrev pub import_call : List ℕ
import_call = 0x9A ∷ 0xFF ∷ 0xFF ∷ 0x00 ∷ 0x00 ∷ []

-- the segments are made, and their selectors stored from offset 16 on: mov cx,8; mov di,16; then eight times push 2000h; push ds;
-- push 0; push 0; call far DosAllocSeg; mov ax,[0]; mov [di],ax; add di,2; loop
abbrev pub allocations : List ℕ
allocations =
    0xB9 ∷ 0x08 ∷ 0x00 ∷ 0xBF ∷ 0x10 ∷ 0x00
    ∷ 0x68 ∷ 0x00 ∷ 0x20 ∷ 0x1E ∷ 0x6A ∷ 0x00 ∷ 0x6A ∷ 0x00 ∷ import_call
    ++ 0xA1 ∷ 0x00 ∷ 0x00 ∷ 0x89 ∷ 0x05 ∷ 0x83 ∷ 0xC7 ∷ 0x02 ∷ 0xE2 ∷ 0xE9
    ∷ []

-- they are counted up: mov dx,50; then fifty times mov si,16; mov cx,8, eight times mov es,[si]; inc word es:[0]; add si,2; loop,
-- and dec dx; jnz
abbrev pub rounds : List ℕ
rounds =
    0xBA ∷ 0x32 ∷ 0x00
    ∷ 0xBE ∷ 0x10 ∷ 0x00 ∷ 0xB9 ∷ 0x08 ∷ 0x00
    ∷ 0x8E ∷ 0x04 ∷ 0x26 ∷ 0xFF ∷ 0x06 ∷ 0x00 ∷ 0x00 ∷ 0x83 ∷ 0xC6 ∷ 0x02 ∷ 0xE2 ∷ 0xF4
    ∷ 0x4A ∷ 0x75 ∷ 0xEB
    ∷ []

-- and compared: mov si,16; mov cx,8; then eight times mov es,[si]; cmp word es:[0],50; jne to the last part; add si,2; loop
abbrev pub comparisons : List ℕ
comparisons =
    0xBE ∷ 0x10 ∷ 0x00 ∷ 0xB9 ∷ 0x08 ∷ 0x00
    ∷ 0x8E ∷ 0x04 ∷ 0x26 ∷ 0x83 ∷ 0x3E ∷ 0x00 ∷ 0x00 ∷ 0x32 ∷ 0x75 ∷ 0x1D ∷ 0x83 ∷ 0xC6 ∷ 0x02 ∷ 0xE2 ∷ 0xF1
    ∷ []

-- the byte at offset 6 is written, and the process ends: push 1; push ds; push 6; push 1; push ds; push 4; call far DosWrite; push 1;
-- push 0; call far DosExit
abbrev pub ending : List ℕ
ending =
    0x6A ∷ 0x01 ∷ 0x1E ∷ 0x6A ∷ 0x06 ∷ 0x6A ∷ 0x01 ∷ 0x1E ∷ 0x6A ∷ 0x04 ∷ import_call
    ++ 0x6A ∷ 0x01 ∷ 0x6A ∷ 0x00 ∷ import_call

-- a word that isn't 50 is told: mov byte [6],'!'; jmp back to what writes that byte
abbrev pub failing : List ℕ
failing = 0xC6 ∷ 0x06 ∷ 0x06 ∷ 0x00 ∷ 0x21 ∷ 0xEB ∷ 0xE1 ∷ []

-- its code segment, of 105 bytes
unfoldable pub bench_code : List ℕ
bench_code = allocations ++ rounds ++ comparisons ++ ending ++ failing

-- its automatic data, of 64 bytes
unfoldable pub bench_data : List ℕ
bench_data = replicate 6 0 ++ codes "." ++ replicate 57 0
