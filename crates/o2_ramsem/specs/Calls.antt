-- Calls on one semaphore, one after the other, and who owns it.
use Rattle.std.specs.Prelude.{◌≡◌, ◌≢◌, ◌⊎◌, ℕ, List, [], ◌∷◌}
use Rattle.o2_world.specs.SemRulings.{SemRuling, Becomes, Waiting, Refuses, requesting, waiting_for}

-- a call of a process, which has this number, with its timeout
pub data SemCall : Type 0 where
  Requests : ℕ → ℕ → SemCall
  Clears : ℕ → SemCall
  Awaits : ℕ → ℕ → SemCall
  Sets : ℕ → SemCall

-- what a call does where the semaphore has this number
abbrev pub ruling_at : ℕ → SemCall → SemRuling
ruling_at word (Requests pid timeout) = requesting word pid timeout
ruling_at word (Clears pid) = Becomes 0
ruling_at word (Awaits pid timeout) = waiting_for word timeout
ruling_at word (Sets pid) = Becomes 0xFFFF

-- the number behind a ruling
abbrev pub number_behind : ℕ → SemRuling → ℕ
number_behind word (Becomes w) = w
number_behind word Waiting = word
number_behind word (Refuses e) = word

-- the number behind calls
abbrev pub number_after : ℕ → List SemCall → ℕ
number_after word [] = word
number_after word (c ∷ cs) = number_after (number_behind word (ruling_at word c)) cs

-- calls, each with its ruling
abbrev pub lines_of : ℕ → List SemCall → List (SemCall × SemRuling)
lines_of word [] = []
lines_of word (c ∷ cs) = (c, ruling_at word c) ∷ lines_of (number_behind word (ruling_at word c)) cs

-- the owner behind a call that answers 0: the process of a request, 0 behind a clear, 65,535 behind a set
abbrev pub owner_by : ℕ → SemCall → ℕ
owner_by owner (Requests pid timeout) = pid
owner_by owner (Clears pid) = 0
owner_by owner (Awaits pid timeout) = owner
owner_by owner (Sets pid) = 0xFFFF

-- the owner behind a line
abbrev pub owner_of_line : ℕ → SemCall × SemRuling → ℕ
owner_of_line owner (c, Becomes w) = owner_by owner c
owner_of_line owner (c, Waiting) = owner
owner_of_line owner (c, Refuses e) = owner

-- the owner that lines tell, where it was this one: the last of the requests, clears and sets that answer 0 decides
abbrev pub owner : ℕ → List (SemCall × SemRuling) → ℕ
owner before [] = before
owner before (l ∷ ls) = owner (owner_of_line before l) ls

-- a request of a process that answers 0 where the semaphore has this number
pub data IsGranted : ℕ → SemCall → Type 0 where
  granted : {word pid timeout w : ℕ} → pid ≢ 0 → requesting word pid timeout ≡ Becomes w → IsGranted word (Requests pid timeout)

-- one of the calls is a clear
abbrev pub HasClear : List SemCall → Type 0
HasClear [] = ⊥
HasClear (Requests pid timeout ∷ cs) = HasClear cs
HasClear (Clears pid ∷ cs) = Unit {0}
HasClear (Awaits pid timeout ∷ cs) = HasClear cs
HasClear (Sets pid ∷ cs) = HasClear cs

-- a timeout that a call may have
abbrev pub IsTimeout : ℕ → Type 0
IsTimeout timeout = (timeout ≡ 0) ⊎ (timeout ≡ 0xFFFF_FFFF)

-- a line is no request and no set that answers 0
abbrev pub IsQuietLine : SemCall × SemRuling → Type 0
IsQuietLine (Requests pid timeout, Becomes w) = ⊥
IsQuietLine (Requests pid timeout, Waiting) = Unit {0}
IsQuietLine (Requests pid timeout, Refuses e) = Unit {0}
IsQuietLine (Clears pid, r) = Unit {0}
IsQuietLine (Awaits pid timeout, r) = Unit {0}
IsQuietLine (Sets pid, r) = ⊥

abbrev pub AreQuiet : List (SemCall × SemRuling) → Type 0
AreQuiet [] = Unit {0}
AreQuiet (l ∷ ls) = IsQuietLine l × AreQuiet ls
