-- A vector as data of JSON.
use Rattle.std.specs.Prelude.{ℕ, ◌+◌, ◌==◌, List, [], ◌∷◌, ◌++◌, codes, true, if◌then◌else◌}
use Rattle.serde_json.specs.Data.{Data, number, unsigned, string, boolean, array, object, no_items, item, no_members, member}
use Rattle.serde_json.specs.View.{items_of}
use Rattle.o2_desc.specs.Bits.{readable_code, writable_data}
use Rattle.o2_isa.specs.declared.cpu.Cpu.{Cpu}
use Rattle.o2_isa.specs.declared.cpu.Outcome.{Outcome}
use Rattle.o2_isa.specs.declared.cpu.Outcome.TheVariants as outcome
use Rattle.o2_vectors.specs.declared.state.Snapshot.{Snapshot}

abbrev pub natural : ℕ → Data
natural n = number (unsigned n)

abbrev pub registers_data : Cpu → Data
registers_data c = object
    (member (codes "ax") (natural c.ax) (member (codes "bp") (natural c.bp) (member (codes "bx") (natural c.bx)
    (member (codes "cs") (natural c.cs) (member (codes "cx") (natural c.cx) (member (codes "di") (natural c.di)
    (member (codes "ds") (natural c.ds) (member (codes "dx") (natural c.dx) (member (codes "es") (natural c.es)
    (member (codes "flags") (natural c.flags) (member (codes "ip") (natural c.ip) (member (codes "si") (natural c.si)
    (member (codes "sp") (natural c.sp) (member (codes "ss") (natural c.ss) no_members))))))))))))))

-- a byte at an address
abbrev pub cell : ℕ → ℕ → Data
cell a b = array (item (natural a) (item (natural b) no_items))

-- bytes from an address on
abbrev pub cells : ℕ → List ℕ → List Data
cells a [] = []
cells a (b ∷ bs) = cell a b ∷ cells (a + 1) bs

-- those bytes from an address on that aren't what they were
abbrev pub changes : ℕ → List ℕ → List ℕ → List Data
changes a (o ∷ os) (n ∷ ns) = if n == o then changes (a + 1) os ns else cell a n ∷ changes (a + 1) os ns
changes a _ _ = []

-- the segments lie at 1000h, 2000h, 3000h and 4000h
abbrev pub ram : Snapshot → List Data
ram s = cells 4096 s.code ++ cells 8192 s.data ++ cells 12288 s.extra ++ cells 16384 s.stack

abbrev pub changed_ram : Snapshot → Snapshot → List Data
changed_ram old new = changes 4096 old.code new.code ++ changes 8192 old.data new.data
    ++ changes 12288 old.extra new.extra ++ changes 16384 old.stack new.stack

-- selector, base, limit and access byte of a segment
abbrev pub segment_data : ℕ → ℕ → ℕ → Data
segment_data selector base access = array (item (natural selector) (item (natural base) (item (natural 63) (item (natural access) no_items))))

abbrev pub segments_data : Data
segments_data = array (item (segment_data 15 4096 readable_code) (item (segment_data 23 8192 writable_data)
    (item (segment_data 31 12288 writable_data) (item (segment_data 39 16384 writable_data) no_items))))

abbrev pub answer_data : Outcome → Data
answer_data outcome.Done = object (member (codes "done") (boolean true) no_members)
answer_data (outcome.Trap vector code) = object (member (codes "code") (natural code) (member (codes "trap") (natural vector) no_members))
answer_data (outcome.Miss s) = object (member (codes "miss") (natural s.0) no_members)
answer_data (outcome.Gate service next) = object (member (codes "gate") (natural service) (member (codes "next") (natural next) no_members))

abbrev pub initial_data : Snapshot → Data
initial_data s = object
    (member (codes "ram") (array (items_of (ram s)))
    (member (codes "regs") (registers_data s.cpu)
    (member (codes "segments") segments_data no_members)))

abbrev pub final_data : Snapshot → Snapshot → Data
final_data old new = object
    (member (codes "ram") (array (items_of (changed_ram old new)))
    (member (codes "regs") (registers_data new.cpu) no_members))

-- bytes as numbers
abbrev pub naturals : List ℕ → List Data
naturals [] = []
naturals (b ∷ bs) = natural b ∷ naturals bs

-- the instruction's text and bytes, the state before a step and behind it, and what it answered
abbrev pub vector_data : List ℕ → List ℕ → Snapshot → Snapshot → Outcome → Data
vector_data name bytes before after outcome = object
    (member (codes "answer") (answer_data outcome)
    (member (codes "bytes") (array (items_of (naturals bytes)))
    (member (codes "final") (final_data before after)
    (member (codes "initial") (initial_data before)
    (member (codes "name") (string name) no_members)))))
