-- What lines tell of a semaphore goes by their text.
use Rattle.std.proofs.Common.{◌≡◌, refl, sym, ap, ap₂, subst, ◌∙◌, ℕ, ◌<◌, ◌^◌, ◌==◌, ◌&&◌, ◌||◌, not, Bool, true, false, List, [], ◌∷◌, ◌++◌, map, arith, if◌then◌else◌}
use Rattle.std.specs.Prelude.{codes}
use Rattle.std.proofs.lemmas.Bool.Decides.{nat_tests}
use Rattle.o2_isa.specs.View.{ring3}
use Rattle.o2_world.specs.declared.types.Argument.{Argument}
use Rattle.o2_world.specs.declared.types.Argument.TheVariants.{Word, Long, Far}
use Rattle.o2_world.specs.Known.{same_text}
use Rattle.o2_world.specs.SemRulings.{SemRuling, Becomes, Waiting, Refuses}
use Rattle.o2_world.specs.World.{World, Line, Starts, HoldsBy, DropsBy, Calls, Exits, Ends, Traps}
use Rattle.o2_world.specs.Run.{report}
use Rattle.o2_read_report.specs.Plain.{ArePlain, shown, shown_number}
use Rattle.o2_read_report.proofs.Digits.{number_shown}
use Rattle.o2_read_report.proofs.Lists.{one_report}
use Rattle.o2_ramsem.specs.Calls.{SemCall, Requests, Clears, Awaits, Sets, lines_of, number_behind, owner, ruling_at}
use Rattle.o2_ramsem_laws.specs.Told.{Place, call_at, call_told, calls_in, is_at, ruling_told, timeout_told, told, told_by}
use Rattle.o2_ramsem_laws.proofs.Sequences.{IsPlayed, owner_is}

-- Errors of few digits.

abbrev IsSmall : SemRuling → Type 0
IsSmall (Becomes m) = Unit {0}
IsSmall Waiting = Unit {0}
IsSmall (Refuses e) = e < 10 ^ 64

abbrev AreSmall : List (SemCall × SemRuling) → Type 0
AreSmall [] = Unit {0}
AreSmall (l ∷ ls) = IsSmall l.1 × AreSmall ls

small_front : (xs ys : List (SemCall × SemRuling)) → AreSmall (xs ++ ys) → AreSmall xs
small_front [] ys small = tt
small_front (x ∷ xs) ys small = (small.0, small_front xs ys small.1)

small_rest : (xs ys : List (SemCall × SemRuling)) → AreSmall (xs ++ ys) → AreSmall ys
small_rest [] ys small = small
small_rest (x ∷ xs) ys small = small_rest xs ys small.1

small_87 : 87 < 10 ^ 64
small_87 = omega arith

small_121 : 121 < 10 ^ 64
small_121 = omega arith

wanted_small : (bad clear now : Bool) (behind : ℕ) → IsSmall (if bad then Refuses 87 else if clear then Becomes behind else if now then Refuses 121 else Waiting)
wanted_small true clear now behind = small_87
wanted_small false true now behind = tt
wanted_small false false true behind = small_121
wanted_small false false false behind = tt

ruling_small : (n : ℕ) (c : SemCall) → IsSmall (ruling_at n c)
ruling_small n (Requests p timeout) = wanted_small (not ((timeout == 0) || (timeout == 0xFFFF_FFFF))) (n == 0) (timeout == 0) p
ruling_small n (Clears p) = tt
ruling_small n (Awaits p timeout) = wanted_small (not ((timeout == 0) || (timeout == 0xFFFF_FFFF))) (n == 0) (timeout == 0) n
ruling_small n (Sets p) = tt

lines_small : (n : ℕ) (cs : List SemCall) → AreSmall (lines_of n cs)
lines_small n [] = tt
lines_small n (c ∷ cs) = (ruling_small n c, lines_small (number_behind n (ruling_at n c)) cs)

played_small : (n : ℕ) (ls : List (SemCall × SemRuling)) → IsPlayed n ls → AreSmall ls
played_small n ls played = subst AreSmall (sym played.answers) (lines_small 0 (calls_in ls))

-- Such lines tell the same as what their text shows.

is_zero : (n : ℕ) → (n == 0) ≡ true → n ≡ 0
is_zero n h = grind (arith, nat_tests)

error_shown : (behind e : ℕ) → IsSmall (ruling_told behind e) → shown_number e ≡ e
error_shown behind e small = go (e == 0) refl small
  where
    go : (t : Bool) → (e == 0) ≡ t → IsSmall (if t then Becomes behind else Refuses e) → shown_number e ≡ e
    go true is any = subst (λ (n : ℕ). shown_number n ≡ n) (sym (is_zero e is)) (number_shown 0 (omega arith))
    go false is few = number_shown e few

-- the call that a name says, by its tests
abbrev said : (a b c d : Bool) → (p timeout error : ℕ) → List (SemCall × SemRuling)
said a b c d p timeout error =
    if a then (Requests p timeout, ruling_told p error) ∷ []
    else if b then (Clears p, ruling_told 0 error) ∷ []
    else if c then (Awaits p timeout, ruling_told 0 error) ∷ []
    else if d then (Sets p, ruling_told 0xFFFF error) ∷ []
    else []

one_shown : (c : SemCall) (behind e : ℕ) → IsSmall (ruling_told behind e) → ◌≡◌ {A = List (SemCall × SemRuling)} ((c, ruling_told behind (shown_number e)) ∷ []) ((c, ruling_told behind e) ∷ [])
one_shown c behind e small = ap {B = List (SemCall × SemRuling)} (λ (n : ℕ). (c, ruling_told behind n) ∷ []) (error_shown behind e small)

said_shown : (a b c d : Bool) (p timeout e : ℕ) → AreSmall (said a b c d p timeout e) → said a b c d p timeout (shown_number e) ≡ said a b c d p timeout e
said_shown true b c d p timeout e small = one_shown (Requests p timeout) p e small.0
said_shown false true c d p timeout e small = one_shown (Clears p) 0 e small.0
said_shown false false true d p timeout e small = one_shown (Awaits p timeout) 0 e small.0
said_shown false false false true p timeout e small = one_shown (Sets p) 0xFFFF e small.0
said_shown false false false false p timeout e small = refl

either_shown : (t : Bool) (p : ℕ) (name : List ℕ) (timeout e : ℕ) → AreSmall (if t then call_told p name timeout e else [])
    → (if t then call_told p name timeout (shown_number e) else []) ≡ (if t then call_told p name timeout e else [])
either_shown true p name timeout e small =
    said_shown (same_text name (codes "DosSemRequest")) (same_text name (codes "DosSemClear")) (same_text name (codes "DosSemWait")) (same_text name (codes "DosSemSet")) p timeout e small
either_shown false p name timeout e small = refl

call_shown : (place : Place) (p : ℕ) (name : List ℕ) (args : List Argument) (e : ℕ) → AreSmall (call_at place p name args e)
    → call_at place p name args (shown_number e) ≡ call_at place p name args e
call_shown place p name [] e small = refl
call_shown place p name (Word n ∷ args) e small = refl
call_shown place p name (Long high low ∷ args) e small = refl
call_shown place p name (Far s o ∷ args) e small = either_shown (is_at place s o) p name (timeout_told args) e small

line_shown : (place : Place) (l : Line) → AreSmall (told_by place l) → told_by place (shown l) ≡ told_by place l
line_shown place (Starts p name) small = refl
line_shown place (HoldsBy p s cause) small = refl
line_shown place (DropsBy p s cause) small = refl
line_shown place (Calls p name args error values) small = call_shown place p name args error small
line_shown place (Exits p action code) small = refl
line_shown place (Ends p code) small = refl
line_shown place (Traps p vector s o) small = refl

told_shown : (place : Place) (ls : List Line) → AreSmall (told place ls) → told place (map shown ls) ≡ told place ls
told_shown place [] small = refl
told_shown place (l ∷ ls) small =
    ap₂ (λ (xs ys : List (SemCall × SemRuling)). xs ++ ys) (line_shown place l (small_front (told_by place l) (told place ls) small))
    (told_shown place ls (small_rest (told_by place l) (told place ls) small))

-- What is told goes by selector and offset, and not by the name.

module _ (place other : Place) (selectors : place.selector ≡ other.selector) (offsets : place.offset ≡ other.offset) where
  at_same : (s o : ℕ) → is_at place s o ≡ is_at other s o
  at_same s o =
      ap (λ (n : ℕ). (ring3 s == ring3 n) && (o == place.offset)) selectors
      ∙ ap (λ (n : ℕ). (ring3 s == ring3 other.selector) && (o == n)) offsets

  call_same : (p : ℕ) (name : List ℕ) (args : List Argument) (e : ℕ) → call_at place p name args e ≡ call_at other p name args e
  call_same p name [] e = refl
  call_same p name (Word n ∷ args) e = refl
  call_same p name (Long high low ∷ args) e = refl
  call_same p name (Far s o ∷ args) e = ap (λ (t : Bool). if t then call_told p name (timeout_told args) e else []) (at_same s o)

  line_same : (l : Line) → told_by place l ≡ told_by other l
  line_same (Starts p name) = refl
  line_same (HoldsBy p s cause) = refl
  line_same (DropsBy p s cause) = refl
  line_same (Calls p name args error values) = call_same p name args error
  line_same (Exits p action code) = refl
  line_same (Ends p code) = refl
  line_same (Traps p vector s o) = refl

  told_same : (ls : List Line) → told place ls ≡ told other ls
  told_same [] = refl
  told_same (l ∷ ls) = ap₂ (λ (xs ys : List (SemCall × SemRuling)). xs ++ ys) (line_same l) (told_same ls)

  -- worlds with one report have one number there
  pub number_read_off : (n m : ℕ) (u v : World) → IsPlayed n (told place u.lines) → IsPlayed m (told other v.lines)
      → ArePlain u.lines → ArePlain v.lines → report u ≡ report v → n ≡ m
  number_read_off n m u v one two plain plainer e =
      let lines : told place u.lines ≡ told other v.lines =
      sym (told_shown place u.lines (played_small n (told place u.lines) one))
      ∙ ap (told place) (one_report u v plain plainer e)
      ∙ told_same (map shown v.lines)
      ∙ told_shown other v.lines (played_small m (told other v.lines) two) in
      owner_is n (told place u.lines) one ∙ ap (owner 0) lines ∙ sym (owner_is m (told other v.lines) two)
