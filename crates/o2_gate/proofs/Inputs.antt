-- Calls that don't go to the input, and those that do.
use Rattle.std.proofs.Common.{ℕ, List, Option}
use Rattle.o2_isa.specs.declared.cpu.Cpu.{Cpu}
use Rattle.o2_isa.specs.View.{View, Filling}
use Rattle.o2_world.specs.Calls.{Before, Effect}
use Rattle.o2_gate.specs.declared.called.Called.{Called}
use Rattle.o2_gate.specs.declared.called.Called.TheVariants.{Back, Exited, Trap, Missed, Asked, Waits}
use Rattle.o2_run.specs.declared.steps.Stop.TheVariants as stop
use Rattle.o2_run.specs.declared.fault.Fault.{Fault}
use Rattle.o2_run.specs.declared.fault.Fault.TheVariants as fault
use Rattle.o2_run.specs.Faults.{CauseOf, Caused}
use Rattle.o2_gate.specs.Called.{DoesFor}
use Rattle.std.specs.Prelude.{Result, Ok, Err}

-- more causes
cause_wider : (A B C D E F G H : Type 0) (f : Fault) → (A → E) → (B → F) → (C → G) → (D → H) → CauseOf A B C D f → CauseOf E F G H f
cause_wider A B C D E F G H fault.Sink s i r d c = s c
cause_wider A B C D E F G H (fault.Stopped stop.Input) s i r d c = i c
cause_wider A B C D E F G H (fault.Stopped stop.NoRoom) s i r d c = r c
cause_wider A B C D E F G H (fault.Stopped stop.SwapFull) s i r d c = r c
cause_wider A B C D E F G H (fault.Stopped stop.SwapFault) s i r d c = d c

pub wider : (A B E F : Type 0) (r : Result Called Fault) → (A → E) → (B → F) → Caused A B ⊥ ⊥ r → Caused E F ⊥ ⊥ r
wider A B E F (Ok x) s i c = c
wider A B E F (Err f) s i c = cause_wider A B ⊥ ⊥ E F ⊥ ⊥ f s i (λ n. n) (λ n. n) c

-- where the input isn't gone to, the reason for it doesn't matter
pub any_reason : (P Q S : Type 0) (f : Filling) (b : Before) (e : Effect) (cpu : Cpu) (old new : View) (i j c d r q : Option (List ℕ)) (answer : Result Called Fault)
    → Caused S ⊥ ⊥ ⊥ answer → DoesFor P f b e cpu old new i j c d r q answer → DoesFor Q f b e cpu old new i j c d r q answer
any_reason P Q S f b e cpu old new i j c d r q (Ok (Back put)) never does = does
any_reason P Q S f b e cpu old new i j c d r q (Ok (Exited code)) never does = does
any_reason P Q S f b e cpu old new i j c d r q (Ok (Trap vector code)) never does = does
any_reason P Q S f b e cpu old new i j c d r q (Ok (Missed s)) never does = does
any_reason P Q S f b e cpu old new i j c d r q (Ok (Asked a next)) never does = does
any_reason P Q S f b e cpu old new i j c d r q (Ok Waits) never does = does
any_reason P Q S f b e cpu old new i j c d r q (Err fault.Sink) never does = does
any_reason P Q S f b e cpu old new i j c d r q (Err (fault.Stopped stop.Input)) never does = absurd never
any_reason P Q S f b e cpu old new i j c d r q (Err (fault.Stopped stop.NoRoom)) never does = absurd never
any_reason P Q S f b e cpu old new i j c d r q (Err (fault.Stopped stop.SwapFull)) never does = absurd never
any_reason P Q S f b e cpu old new i j c d r q (Err (fault.Stopped stop.SwapFault)) never does = absurd never

-- a reason that follows
pub next_reason : (P Q : Type 0) → (P → Q) → (f : Filling) (b : Before) (e : Effect) (cpu : Cpu) (old new : View) (i j c d r q : Option (List ℕ)) (answer : Result Called Fault)
    → DoesFor P f b e cpu old new i j c d r q answer → DoesFor Q f b e cpu old new i j c d r q answer
next_reason P Q more f b e cpu old new i j c d r q (Ok (Back put)) does = does
next_reason P Q more f b e cpu old new i j c d r q (Ok (Exited code)) does = does
next_reason P Q more f b e cpu old new i j c d r q (Ok (Trap vector code)) does = does
next_reason P Q more f b e cpu old new i j c d r q (Ok (Missed s)) does = does
next_reason P Q more f b e cpu old new i j c d r q (Ok (Asked a next)) does = does
next_reason P Q more f b e cpu old new i j c d r q (Ok Waits) does = does
next_reason P Q more f b e cpu old new i j c d r q (Err fault.Sink) does = does
next_reason P Q more f b e cpu old new i j c d r q (Err (fault.Stopped stop.Input)) does = record { cause = more does.cause; untouched = does.untouched }
next_reason P Q more f b e cpu old new i j c d r q (Err (fault.Stopped stop.NoRoom)) does = absurd does
next_reason P Q more f b e cpu old new i j c d r q (Err (fault.Stopped stop.SwapFull)) does = absurd does
next_reason P Q more f b e cpu old new i j c d r q (Err (fault.Stopped stop.SwapFault)) does = absurd does
