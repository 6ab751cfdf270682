-- Calls on one semaphore that were told: one more, and what stands among them.
use Rattle.std.proofs.Common.{◌≡◌, ◌≢◌, ℕ, List, [], ◌∷◌, ◌++◌, refl, sym, ap, subst, ◌∙◌}
use Rattle.o2_world.specs.SemRulings.{SemRuling, Becomes, requesting}
use Rattle.o2_ramsem.specs.Calls.{SemCall, Requests, Clears, Awaits, Sets, ruling_at, number_behind, number_after, lines_of, owner, IsGranted, granted, HasClear, AreQuiet}
use Rattle.o2_ramsem.proofs.Sequences.{calls_owned, cleared_between, granted_owned, stays_clear}
use Rattle.o2_ramsem_laws.specs.Told.{calls_in}

-- Calls behind calls.

lines_more : (n : ℕ) (cs : List SemCall) (c : SemCall) → lines_of n (cs ++ c ∷ []) ≡ lines_of n cs ++ (c, ruling_at (number_after n cs) c) ∷ []
lines_more n [] c = refl
lines_more n (x ∷ cs) c = ap (λ (ls : List (SemCall × SemRuling)). (x, ruling_at n x) ∷ ls) (lines_more (number_behind n (ruling_at n x)) cs c)

after_append : (n : ℕ) (cs ds : List SemCall) → number_after n (cs ++ ds) ≡ number_after (number_after n cs) ds
after_append n [] ds = refl
after_append n (x ∷ cs) ds = after_append (number_behind n (ruling_at n x)) cs ds

calls_append : (xs ys : List (SemCall × SemRuling)) → calls_in (xs ++ ys) ≡ calls_in xs ++ calls_in ys
calls_append [] ys = refl
calls_append (x ∷ xs) ys = ap (λ (cs : List SemCall). x.0 ∷ cs) (calls_append xs ys)

-- A request comes from a process, whose number isn't 0.

abbrev pub IsNumbered : SemCall → Type 0
IsNumbered (Requests p timeout) = p ≢ 0
IsNumbered (Clears p) = Unit {0}
IsNumbered (Awaits p timeout) = Unit {0}
IsNumbered (Sets p) = Unit {0}

abbrev pub AreNumbered : List (SemCall × SemRuling) → Type 0
AreNumbered [] = Unit {0}
AreNumbered (l ∷ ls) = IsNumbered l.0 × AreNumbered ls

numbered_more : (ls : List (SemCall × SemRuling)) (l : SemCall × SemRuling) → AreNumbered ls → IsNumbered l.0 → AreNumbered (ls ++ l ∷ [])
numbered_more [] l all one = (one, tt)
numbered_more (x ∷ xs) l all one = (all.0, numbered_more xs l all.1 one)

numbered_from : (xs ys : List (SemCall × SemRuling)) → AreNumbered (xs ++ ys) → AreNumbered ys
numbered_from [] ys all = all
numbered_from (x ∷ xs) ys all = numbered_from xs ys all.1

-- what the lines tell are calls on a semaphore that was clear, each with its ruling, and this is the number behind them
pub record IsPlayed (n : ℕ) (ls : List (SemCall × SemRuling)) : Type 0 where
  pub answers : ls ≡ lines_of 0 (calls_in ls)
  pub number : n ≡ number_after 0 (calls_in ls)
  pub numbered : AreNumbered ls

pub none_played : IsPlayed 0 []
none_played = record { answers = refl; number = refl; numbered = tt }

pub played_more : (n : ℕ) (ls : List (SemCall × SemRuling)) (c : SemCall) → IsPlayed n ls → IsNumbered c
    → IsPlayed (number_behind n (ruling_at n c)) (ls ++ (c, ruling_at n c) ∷ [])
played_more n ls c played one = record {
  answers =
      ap (λ (xs : List (SemCall × SemRuling)). xs ++ (c, ruling_at n c) ∷ []) played.answers
      ∙ ap (λ (m : ℕ). lines_of 0 (calls_in ls) ++ (c, ruling_at m c) ∷ []) played.number
      ∙ sym (lines_more 0 (calls_in ls) c)
      ∙ ap (lines_of 0) (sym (calls_append ls ((c, ruling_at n c) ∷ [])));
  number =
      ap (λ (m : ℕ). number_behind m (ruling_at m c)) played.number
      ∙ sym (after_append 0 (calls_in ls) (c ∷ []))
      ∙ ap (number_after 0) (sym (calls_append ls ((c, ruling_at n c) ∷ [])));
  numbered = numbered_more ls (c, ruling_at n c) played.numbered one;
}

-- The laws.

pub owner_is : (n : ℕ) (ls : List (SemCall × SemRuling)) → IsPlayed n ls → n ≡ owner 0 ls
owner_is n ls played = played.number ∙ calls_owned 0 (calls_in ls) ∙ ap (owner 0) (sym played.answers)

first_same : (x y : SemCall × SemRuling) (xs ys : List (SemCall × SemRuling)) → x ∷ xs ≡ y ∷ ys → x ≡ y
first_same x y xs ys e = cc

rest_same : (x y : SemCall × SemRuling) (xs ys : List (SemCall × SemRuling)) → x ∷ xs ≡ y ∷ ys → xs ≡ ys
rest_same x y xs ys e = cc

-- what stands behind lines goes by the number behind their calls
from_there : (n : ℕ) (xs ys : List (SemCall × SemRuling)) → xs ++ ys ≡ lines_of n (calls_in (xs ++ ys)) → ys ≡ lines_of (number_after n (calls_in xs)) (calls_in ys)
from_there n [] ys e = e
from_there n (x ∷ xs) ys e =
    from_there (number_behind n (ruling_at n x.0)) xs ys
    (rest_same x (x.0, ruling_at n x.0) (xs ++ ys) (lines_of (number_behind n (ruling_at n x.0)) (calls_in (xs ++ ys))) e)

-- the ruling of a line, and the lines behind it
ruling_is : (n : ℕ) (c : SemCall) (r : SemRuling) (ls : List (SemCall × SemRuling)) → (c, r) ∷ ls ≡ lines_of n (c ∷ calls_in ls) → r ≡ ruling_at n c
ruling_is n c r ls e =
    ap (λ (l : SemCall × SemRuling). l.1) (first_same (c, r) (c, ruling_at n c) ls (lines_of (number_behind n (ruling_at n c)) (calls_in ls)) e)

behind_is : (n : ℕ) (c : SemCall) (r : SemRuling) (ls : List (SemCall × SemRuling)) → (c, r) ∷ ls ≡ lines_of n (c ∷ calls_in ls)
    → ls ≡ lines_of (number_behind n (ruling_at n c)) (calls_in ls)
behind_is n c r ls e = rest_same (c, r) (c, ruling_at n c) ls (lines_of (number_behind n (ruling_at n c)) (calls_in ls)) e

grants : (n p t m : ℕ) → p ≢ 0 → Becomes m ≡ requesting n p t → IsGranted n (Requests p t)
grants n p t m some e = granted {word = n} {pid = p} {timeout = t} {w = m} some (sym e)

pub cleared_told : (k : ℕ) (xs ys zs : List (SemCall × SemRuling)) (p t m q u n : ℕ)
    → IsPlayed k (xs ++ (Requests p t, Becomes m) ∷ (ys ++ (Requests q u, Becomes n) ∷ zs)) → HasClear (calls_in ys)
cleared_told k xs ys zs p t m q u n played =
    let rest : List (SemCall × SemRuling) = ys ++ (Requests q u, Becomes n) ∷ zs in
    let before : ℕ = number_after 0 (calls_in xs) in
    let there = from_there 0 xs ((Requests p t, Becomes m) ∷ rest) played.answers in
    let numbers = numbered_from xs ((Requests p t, Becomes m) ∷ rest) played.numbered in
    let one = grants before p t m numbers.0 (ruling_is before (Requests p t) (Becomes m) rest there) in
    let between : ℕ = number_behind before (ruling_at before (Requests p t)) in
    let behind = from_there between ys ((Requests q u, Becomes n) ∷ zs) (behind_is before (Requests p t) (Becomes m) rest there) in
    let others = numbered_from ys ((Requests q u, Becomes n) ∷ zs) numbers.1 in
    let two = grants (number_after between (calls_in ys)) q u n others.0 (ruling_is (number_after between (calls_in ys)) (Requests q u) (Becomes n) zs behind) in
    cleared_between between (Requests q u) (calls_in ys) (granted_owned one) two

pub clear_told : (k : ℕ) (xs ys : List (SemCall × SemRuling)) (p m : ℕ) → IsPlayed k (xs ++ (Clears p, Becomes m) ∷ ys) → AreQuiet ys → k ≡ 0
clear_told k xs ys p m played quiet =
    let before : ℕ = number_after 0 (calls_in xs) in
    let there = from_there 0 xs ((Clears p, Becomes m) ∷ ys) played.answers in
    let behind : ys ≡ lines_of 0 (calls_in ys) = behind_is before (Clears p) (Becomes m) ys there in
    played.number
    ∙ ap (number_after 0) (calls_append xs ((Clears p, Becomes m) ∷ ys))
    ∙ after_append 0 (calls_in xs) (Clears p ∷ calls_in ys)
    ∙ stays_clear (calls_in ys) (subst AreQuiet behind quiet)
