-- What an instruction does, as data: the checks in their order, and then the changes.
use Rattle.std.specs.Prelude.{◌≡◌, ℕ, ◌+◌, ◌%◌, nat_lt, if◌then◌else◌, List, [], ◌∷◌, Option, Some, None, Result, Ok, Err}
use Rattle.o2_base.specs.declared.selector.Selector.{Selector}
use Rattle.o2_isa.specs.declared.instr.Width.{Width}
use Rattle.o2_isa.specs.declared.instr.Width.TheVariants.{Byte, Word}
use Rattle.o2_isa.specs.declared.instr.Sreg.{Sreg}
use Rattle.o2_isa.specs.declared.instr.Arg.{Arg}
use Rattle.o2_isa.specs.declared.instr.Arg.TheVariants as arg
use Rattle.o2_isa.specs.declared.cpu.Cpu.{Cpu}
use Rattle.o2_isa.specs.declared.cpu.Purpose.{Purpose}
use Rattle.o2_isa.specs.declared.cpu.Loaded.{Loaded}
use Rattle.o2_isa.specs.declared.cpu.Loaded.TheVariants as loaded
use Rattle.o2_isa.specs.declared.cpu.Stop.{Stop}
use Rattle.o2_isa.specs.declared.cpu.Stop.TheVariants as stop
use Rattle.o2_isa.specs.View.{View, probe_of, bind, read_of, room_of, poke, size_at, rights_at}
use Rattle.o2_isa.specs.Registers.{reg16, with_reg16, reg8, with_reg8, sreg, offset_of}

pub record State : Type 0 where
  pub cpu : Cpu
  pub view : View

abbrev pub state : Cpu → View → State
state c v = record { cpu = c; view = v }

infixl 10 ◌>>=◌
abbrev pub ◌>>=◌ : {A B : Type 0} → Result A Stop → (A → Result B Stop) → Result B Stop
(Ok x) >>= f = f x
(Err e) >>= f = Err e

-- An instruction that completes leaves the state of its meaning; one that doesn't changes nothing.
abbrev pub Gives : {A : Type 0} → Result A Stop → State → State → Result State Stop → Type 0
Gives (Ok x) new old meaning = meaning ≡ Ok new
Gives (Err e) new old meaning = (meaning ≡ Err e) × (new ≡ old)

-- a check that answers nothing but whether it passed
abbrev pub SameCheck : {A B : Type 0} → Result A Stop → Result B Stop → Type 0
SameCheck (Ok _) (Ok _) = Unit {0}
SameCheck (Err d) (Err e) = d ≡ e
SameCheck (Ok _) (Err e) = ⊥
SameCheck (Err d) (Ok _) = ⊥

-- an access that is refused is a trap
abbrev pub or_trap : {A : Type 0} → Result A (ℕ × ℕ) → Result A Stop
or_trap (Ok x) = Ok x
or_trap (Err e) = Err (stop.Trap e.0 e.1)

-- a load goes on only where the load rules pass and the segment is present; a service returns to the next IP
abbrev pub passed : ℕ → Loaded → Result ℕ Stop
passed next loaded.Done = Ok 0
passed next (loaded.Miss s) = Err (stop.Miss s)
passed next (loaded.Trap vector code) = Err (stop.Trap vector code)
passed next (loaded.Gate service) = Err (stop.Gate service next)

abbrev pub selector : ℕ → Selector
selector s = record { 0 = s }

-- What an instruction that completes changes in the view.
pub data Change : Type 0 where
  Bind : Sreg → ℕ → Change
  Write : Sreg → ℕ → Width → ℕ → Change
  -- the word that then stands at the first offset goes to the second
  Copy : Sreg → ℕ → ℕ → Change

abbrev pub value_or_zero : Result ℕ (ℕ × ℕ) → ℕ
value_or_zero (Ok x) = x
value_or_zero (Err e) = 0

-- the word at a place of the segment in a register; 0 where it can't be read
unfoldable pub word_there : View → Sreg → ℕ → ℕ
word_there v r k = value_or_zero (read_of v r k Word)

abbrev pub changed : List Change → View → View
changed [] v = v
changed (Bind r s ∷ cs) v = changed cs (bind v r (selector s))
changed (Write r k w x ∷ cs) v = changed cs (poke v r k w x)
changed (Copy r a b ∷ cs) v = changed cs (poke v r b Word (word_there v r a))

pub data Steps : Type 0 where
  -- a trap, or a service
  Stops : Stop → Steps
  -- the registers at the end, and the changes
  Ends : Cpu → List Change → Steps
  -- a read through a segment register, and what follows
  Reads : Sreg → ℕ → Width → (ℕ → Steps) → Steps
  -- room for a write through a segment register
  Room : Sreg → ℕ → Width → Steps → Steps
  -- the load rules and the present test, for a selector and with the next IP
  Loads : Purpose → ℕ → ℕ → Steps → Steps
  -- the size of the segment that a selector names, and its access byte
  Sizes : ℕ → (Option ℕ → Steps) → Steps
  Rights : ℕ → (Option ℕ → Steps) → Steps

abbrev pub run : Steps → View → Result State Stop
run (Stops e) v = Err e
run (Ends c cs) v = Ok (state c (changed cs v))
run (Reads r k w f) v = or_trap (read_of v r k w) >>= (λ x. run (f x) v)
run (Room r k w p) v = or_trap (room_of v r k w) >>= (λ _. run p v)
run (Loads purpose s next p) v = passed next (probe_of v purpose (selector s)) >>= (λ _. run p v)
run (Sizes s f) v = run (f (size_at v s)) v
run (Rights s f) v = run (f (rights_at v s)) v

-- The operands.

abbrev pub narrow : Width → ℕ → ℕ
narrow Byte x = x % 256
narrow Word x = x

abbrev pub value_of : State → Width → Arg → Result ℕ Stop
value_of s w (arg.R8 n) = Ok (reg8 s.cpu n)
value_of s w (arg.R16 n) = Ok (reg16 s.cpu n)
value_of s w (arg.S r) = Ok (sreg s.cpu r)
value_of s w (arg.M ea) = or_trap (read_of s.view ea.seg (offset_of s.cpu ea) w)
value_of s w (arg.Imm n) = Ok (narrow w n)
value_of s w arg.No = Ok 0
value_of s w (arg.Far o t) = Ok 0

-- an operand's value, and what follows
unfoldable pub valued : Cpu → Width → Arg → (ℕ → Steps) → Steps
valued c w (arg.R8 n) f = f (reg8 c n)
valued c w (arg.R16 n) f = f (reg16 c n)
valued c w (arg.S r) f = f (sreg c r)
valued c w (arg.M ea) f = Reads ea.seg (offset_of c ea) w f
valued c w (arg.Imm n) f = f (narrow w n)
valued c w arg.No f = f 0
valued c w (arg.Far o t) f = f 0

abbrev pub next_at : Cpu → ℕ → Cpu
next_at c next = record c { ip = next }

abbrev pub at_ip : State → ℕ → State
at_ip s next = state (next_at s.cpu next) s.view

abbrev pub stored : State → Width → Arg → ℕ → Result State Stop
stored s w (arg.R8 n) x = Ok (record s { cpu = with_reg8 s.cpu n (x % 256) })
stored s w (arg.R16 n) x = Ok (record s { cpu = with_reg16 s.cpu n x })
stored s w (arg.M ea) x = do
  _ ← or_trap (room_of s.view ea.seg (offset_of s.cpu ea) w)
  Ok (record s { view = poke s.view ea.seg (offset_of s.cpu ea) w (narrow w x) })
stored s w _ x = Ok s

-- a value put into an operand
unfoldable pub storing : Cpu → Width → Arg → ℕ → ℕ → Steps
storing c w (arg.R8 n) x next = Ends (next_at (with_reg8 c n (x % 256)) next) []
storing c w (arg.R16 n) x next = Ends (next_at (with_reg16 c n x) next) []
storing c w (arg.M ea) x next = Room ea.seg (offset_of c ea) w (Ends (next_at c next) (Write ea.seg (offset_of c ea) w (narrow w x) ∷ []))
storing c w _ x next = Ends (next_at c next) []

-- The word before, modulo 65,536.
abbrev pub one_less : ℕ → ℕ
one_less x = (x + 65535) % 65536

-- The stack.

-- two below
abbrev pub below : ℕ → ℕ
below sp = (sp + 65534) % 65536

-- two above
abbrev pub above : ℕ → ℕ
above sp = (sp + 2) % 65536

-- Two words of an operand in memory, the lower first, each an access of its own; or a far address in the instruction: the
-- offset, then the selector.

abbrev pub pair_of : State → Arg → Result (ℕ × ℕ) Stop
pair_of s (arg.M ea) = or_trap (read_of s.view ea.seg (offset_of s.cpu ea) Word) >>= (λ x. or_trap (read_of s.view ea.seg (above (offset_of s.cpu ea)) Word) >>= (λ y. Ok (x, y)))
pair_of s (arg.Far o t) = Ok (o, t)
pair_of s _ = Ok (0, 0)

unfoldable pub pair_valued : Cpu → Arg → (ℕ → ℕ → Steps) → Steps
pair_valued c (arg.M ea) f = Reads ea.seg (offset_of c ea) Word (λ x. Reads ea.seg (above (offset_of c ea)) Word (f x))
pair_valued c (arg.Far o t) f = f o t
pair_valued c _ f = f 0 0

-- Targets.

abbrev pub target : Option ℕ → ℕ → Result ℕ Stop
target None t = Err (stop.Trap 13 0)
target (Some size) t = if nat_lt t size then Ok t else Err (stop.Trap 13 0)

abbrev pub in_size : Option ℕ → ℕ → Steps → Steps
in_size None ip p = Stops (stop.Trap 13 0)
in_size (Some n) ip p = if nat_lt ip n then p else Stops (stop.Trap 13 0)

-- IP within the segment that the selector names
unfoldable pub within : ℕ → ℕ → Steps → Steps
within cs ip p = Sizes cs (λ size. in_size size ip p)
