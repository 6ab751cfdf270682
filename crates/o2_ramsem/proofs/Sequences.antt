-- What one call of a sequence keeps, and what all keep.
use Rattle.std.proofs.Common.{◌≡◌, ◌≢◌, ℕ, Bool, true, false, not, ◌||◌, ◌==◌, if◌then◌else◌, List, [], ◌∷◌, refl, sym, ap, subst, ◌∙◌, arith}
use Rattle.std.proofs.lemmas.Bool.Decides.{nat_tests}
use Rattle.o2_world.specs.SemRulings.{SemRuling, Becomes, Waiting, Refuses, wanting}
use Rattle.o2_ramsem.specs.Calls.{SemCall, Requests, Clears, Awaits, Sets, ruling_at, number_behind, number_after, lines_of, owner_of_line, owner, IsGranted, granted, HasClear, IsQuietLine, AreQuiet}

-- what a call does that wants a clear semaphore, by its tests
abbrev wanted : Bool → Bool → Bool → ℕ → SemRuling
wanted bad clear now behind =
    if bad then Refuses 87 else if clear then Becomes behind else if now then Refuses 121 else Waiting

request_owned : (bad clear now : Bool) (word pid timeout : ℕ)
    → owner_of_line word (Requests pid timeout, wanted bad clear now pid) ≡ number_behind word (wanted bad clear now pid)
request_owned true clear now word pid timeout = refl
request_owned false true now word pid timeout = refl
request_owned false false true word pid timeout = refl
request_owned false false false word pid timeout = refl

wait_owned : (bad clear now : Bool) (word pid timeout : ℕ)
    → owner_of_line word (Awaits pid timeout, wanted bad clear now word) ≡ number_behind word (wanted bad clear now word)
wait_owned true clear now word pid timeout = refl
wait_owned false true now word pid timeout = refl
wait_owned false false true word pid timeout = refl
wait_owned false false false word pid timeout = refl

-- behind a call that was made of a number that is the owner, the number is the owner
call_owned : (word : ℕ) (c : SemCall) → owner_of_line word (c, ruling_at word c) ≡ number_behind word (ruling_at word c)
call_owned word (Requests pid timeout) =
    request_owned (not ((timeout == 0) || (timeout == 0xFFFF_FFFF))) (word == 0) (timeout == 0) word pid timeout
call_owned word (Clears pid) = refl
call_owned word (Awaits pid timeout) =
    wait_owned (not ((timeout == 0) || (timeout == 0xFFFF_FFFF))) (word == 0) (timeout == 0) word pid timeout
call_owned word (Sets pid) = refl

-- the number behind calls is the owner that their lines tell
pub calls_owned : (word : ℕ) (calls : List SemCall) → number_after word calls ≡ owner word (lines_of word calls)
calls_owned word [] = refl
calls_owned word (c ∷ cs) =
    let w = number_behind word (ruling_at word c) in
    calls_owned w cs ∙ ap (λ o. owner o (lines_of w cs)) (sym (call_owned word c))

wanted_clear : (bad clear now : Bool) (behind w : ℕ) → wanted bad clear now behind ≡ Becomes w → clear ≡ true
wanted_clear true clear now behind w h = cc
wanted_clear false true now behind w h = refl
wanted_clear false false true behind w h = cc
wanted_clear false false false behind w h = cc

is_zero : (n : ℕ) → (n == 0) ≡ true → n ≡ 0
is_zero n h = grind (arith, nat_tests)

-- a call that wants a clear semaphore answers 0 only where it is clear
wanting_clear : (word behind timeout w : ℕ) → wanting word behind timeout ≡ Becomes w → word ≡ 0
wanting_clear word behind timeout w h =
    is_zero word (wanted_clear (not ((timeout == 0) || (timeout == 0xFFFF_FFFF))) (word == 0) (timeout == 0) behind w h)

wanted_number : (bad clear now : Bool) (behind w : ℕ) → wanted bad clear now behind ≡ Becomes w → w ≡ behind
wanted_number true clear now behind w h = cc
wanted_number false true now behind w h = cc
wanted_number false false true behind w h = cc
wanted_number false false false behind w h = cc

granted_clear : {word : ℕ} {c : SemCall} → IsGranted word c → word ≡ 0
granted_clear (granted {word = word} {pid = pid} {timeout = timeout} {w = w} n h) = wanting_clear word pid timeout w h

-- behind a request that answers 0 the semaphore isn't clear
pub granted_owned : {word : ℕ} {c : SemCall} → IsGranted word c → number_behind word (ruling_at word c) ≢ 0
granted_owned (granted {word = word} {pid = pid} {timeout = timeout} {w = w} n h) e =
    let same = wanted_number (not ((timeout == 0) || (timeout == 0xFFFF_FFFF))) (word == 0) (timeout == 0) pid w h in
    let behind = ap (number_behind word) h in
    n (sym same ∙ sym behind ∙ e)

number_kept : (bad clear now : Bool) (word behind : ℕ) → clear ≡ false → number_behind word (wanted bad clear now behind) ≡ word
number_kept true clear now word behind e = refl
number_kept false true now word behind e = cc
number_kept false false true word behind e = refl
number_kept false false false word behind e = refl

wait_kept : (bad clear now : Bool) (word : ℕ) → number_behind word (wanted bad clear now word) ≡ word
wait_kept true clear now word = refl
wait_kept false true now word = refl
wait_kept false false true word = refl
wait_kept false false false word = refl

not_zero : (n : ℕ) → n ≢ 0 → (n == 0) ≡ false
not_zero n h = grind (arith, nat_tests)

-- from where the semaphore isn't clear to a request that answers 0 there is a clear
pub cleared_between : (word : ℕ) (b : SemCall) (calls : List SemCall) → word ≢ 0 → IsGranted (number_after word calls) b → HasClear calls
cleared_between word b [] owned grant = absurd (owned (granted_clear grant))
cleared_between word b (Requests pid timeout ∷ cs) owned grant =
    let P : ℕ → Type 0 = λ n. IsGranted (number_after n cs) b in
    cleared_between word b cs owned (subst P (number_kept (not ((timeout == 0) || (timeout == 0xFFFF_FFFF))) (word == 0) (timeout == 0) word pid (not_zero word owned)) grant)
cleared_between word b (Clears pid ∷ cs) owned grant = tt
cleared_between word b (Awaits pid timeout ∷ cs) owned grant =
    let P : ℕ → Type 0 = λ n. IsGranted (number_after n cs) b in
    cleared_between word b cs owned (subst P (wait_kept (not ((timeout == 0) || (timeout == 0xFFFF_FFFF))) (word == 0) (timeout == 0) word) grant)
cleared_between word b (Sets pid ∷ cs) owned grant = cleared_between 0xFFFF b cs (λ e. absurd (omega (arith, e))) grant

quiet_request : (bad : Bool) (pid timeout : ℕ) → IsQuietLine (Requests pid timeout, (if bad then Refuses 87 else Becomes pid))
    → number_behind 0 (if bad then Refuses 87 else Becomes pid) ≡ 0
quiet_request true pid timeout q = refl
quiet_request false pid timeout q = absurd q

quiet_call : (c : SemCall) → IsQuietLine (c, ruling_at 0 c) → number_behind 0 (ruling_at 0 c) ≡ 0
quiet_call (Requests pid timeout) q = quiet_request (not ((timeout == 0) || (timeout == 0xFFFF_FFFF))) pid timeout q
quiet_call (Clears pid) q = refl
quiet_call (Awaits pid timeout) q = wait_kept (not ((timeout == 0) || (timeout == 0xFFFF_FFFF))) true (timeout == 0) 0
quiet_call (Sets pid) q = absurd q

-- a clear semaphore stays so until a request or a set answers 0
pub stays_clear : (calls : List SemCall) → AreQuiet (lines_of 0 calls) → number_after 0 calls ≡ 0
stays_clear [] q = refl
stays_clear (c ∷ cs) q =
    let e = quiet_call c q.0 in
    let P : ℕ → Type 0 = λ n. AreQuiet (lines_of n cs) in
    ap (λ n. number_after n cs) e ∙ stays_clear cs (subst P e q.1)
