-- Four bytes behind a pointer: what they say, and what they say when a number was put there.
use Rattle.std.proofs.Common.{◌≡◌, ℕ, zero, suc, ◌+◌, ◌*◌, ◌/◌, ◌%◌, ◌≤◌, ◌==◌, ◌&&◌, nat_le, Bool, true, false, cond, List, [], ◌∷◌, ◌++◌, length, take, drop, Option, Some, None, refl, sym, ap, subst, ◌∙◌, arith}
use Rattle.std.specs.Prelude.{is_some}
use Rattle.std.proofs.lemmas.Bool.{and_parts}
use Rattle.std.proofs.lemmas.List.{append_assoc}
use Rattle.o2_isa.specs.Parts.{put_part}
use Rattle.o2_isa.specs.View.{View, Hold, bound_in, is_local, is_null, is_writable, ring3}
use Rattle.o2_isa.specs.Pointers.{has_range, is_for_es, is_good, put_at_pointer, put_in, range_in, range_of}
use Rattle.o2_world.specs.Heaps.{word}
use Rattle.o2_world.specs.CallParts.{Before, long_bytes}
use Rattle.o2_world.specs.Calls.{semaphore_at}
use Rattle.o2_world.specs.SemRulings.{number_in}
use Rattle.o2_ramsem_laws.specs.Told.{Place, is_at}
use Rattle.o2_ramsem_laws.specs.Kept.{number_from}

-- A number and its bytes.

word_joins : (n : ℕ) → n % 256 + 256 * (n / 256) ≡ n
word_joins n = omega arith

words_join : (n : ℕ) → n % 65536 + 65536 * (n / 65536) ≡ n
words_join n = omega arith

long_joins : (n : ℕ) → n % 65536 % 256 + 256 * (n % 65536 / 256) + 65536 * (n / 65536 % 256 + 256 * (n / 65536 / 256)) ≡ n
long_joins n =
    ap (λ (k : ℕ). k + 65536 * (n / 65536 % 256 + 256 * (n / 65536 / 256))) (word_joins (n % 65536))
    ∙ ap (λ (k : ℕ). n % 65536 + 65536 * k) (word_joins (n / 65536))
    ∙ words_join n

-- whatever stands behind them
number_first : (n : ℕ) (rest : List ℕ) → number_in (take 4 (long_bytes n ++ rest)) ≡ n
unfolding word
number_first n rest = long_joins n

past_front : (bytes rest : List ℕ) (n : ℕ) → n ≤ length bytes → drop n (take n bytes ++ rest) ≡ rest
past_front bytes rest zero fits = refl
past_front [] rest (suc n) fits = absurd (omega (arith, fits))
past_front (b ∷ bytes) rest (suc n) fits = past_front bytes rest n (omega (arith, fits))

-- a number that was put is read back
number_put : (bytes : List ℕ) (offset n : ℕ) → offset + 4 ≤ length bytes → number_from (put_part bytes offset (long_bytes n)) offset ≡ n
number_put bytes offset n fits =
    let rest : List ℕ = drop (offset + length (long_bytes n)) bytes in
    ap (λ (xs : List ℕ). number_in (take 4 (drop offset xs))) (append_assoc (take offset bytes) (long_bytes n) rest)
    ∙ ap (λ (xs : List ℕ). number_in (take 4 xs)) (past_front bytes (long_bytes n ++ rest) offset (omega (arith, fits)))
    ∙ number_first n rest

-- A pointer that is good.

within : (a : Bool) (n m : ℕ) → (a && nat_le n m) ≡ true → n ≤ m
within true n m e = grind arith
within false n m e = absurd (cc)

-- what a selector holds whose pointer is good, with room for four bytes
record Reaches (v : View) (s offset : ℕ) : Type 0 where
  hold : Hold
  bound : bound_in v.held s ≡ Some hold
  fits : offset + 4 ≤ length (v.bytes hold.name)

reaches : (v : View) (s offset : ℕ) → is_good is_writable v s offset 4 ≡ true → Reaches v s offset
unfolding is_good
reaches v s offset good = go (bound_in v.held s) refl (and_parts (is_for_es v s) (has_range v.bytes is_writable offset 4 (bound_in v.held s)) good).1
  where
    go : (o : Option Hold) → bound_in v.held s ≡ o → has_range v.bytes is_writable offset 4 o ≡ true → Reaches v s offset
    go None e r = absurd (cc)
    go (Some h) e r = record { hold = h; bound = e; fits = within (is_writable h.rights) (offset + 4) (length (v.bytes h.name)) r }

bound_held : (held : ℕ → Option Hold) (s : ℕ) (h : Hold) → bound_in held s ≡ Some h → held (s / 8) ≡ Some h
bound_held held s h e = go (is_null s) (is_local s) e
  where
    go : (n l : Bool) → cond n None (cond l (held (s / 8)) None) ≡ Some h → held (s / 8) ≡ Some h
    go true l e = absurd (cc)
    go false true e = e
    go false false e = absurd (cc)

-- selectors that are the same with both low bits set have one index
same_index : (s t : ℕ) → ring3 s ≡ ring3 t → s / 8 ≡ t / 8
same_index s t e = omega (arith, e)

equal : (n m : ℕ) → (n == m) ≡ true → n ≡ m
equal n m e = grind arith

same_number : (n m : ℕ) → n ≡ m → (m == n) ≡ true
same_number n m e = grind arith

-- A good pointer to a place, over whose selector this process holds its segment or nothing.
pub record IsHere (b : Before) (place : Place) (s offset : ℕ) : Type 0 where
  pub hold : Hold
  pub bound : bound_in b.view.held s ≡ Some hold
  pub named : hold.name ≡ place.name
  pub fits : place.offset + 4 ≤ length (b.view.bytes place.name)
  pub same : offset ≡ place.offset
  pub held : is_some (b.view.held (place.selector / 8)) ≡ true

pub is_here : (b : Before) (place : Place) (s offset : ℕ) → ((h : Hold) → b.view.held (place.selector / 8) ≡ Some h → h.name ≡ place.name)
    → is_good is_writable b.view s offset 4 ≡ true → is_at place s offset ≡ true → IsHere b place s offset
is_here b place s offset one good at =
    let parts = and_parts (ring3 s == ring3 place.selector) (offset == place.offset) at in
    let x = reaches b.view s offset good in
    let index : s / 8 ≡ place.selector / 8 = same_index s place.selector (equal (ring3 s) (ring3 place.selector) parts.0) in
    let there : b.view.held (place.selector / 8) ≡ Some x.hold = ap b.view.held (sym index) ∙ bound_held b.view.held s x.hold x.bound in
    let name : x.hold.name ≡ place.name = one x.hold there in
    let same : offset ≡ place.offset = equal offset place.offset parts.1 in
    record {
      hold = x.hold;
      bound = x.bound;
      named = name;
      fits = subst (λ (n : ℕ). n + 4 ≤ length (b.view.bytes place.name)) same (subst (λ (n : ℕ). offset + 4 ≤ length (b.view.bytes n)) name x.fits);
      same = same;
      held = ap is_some there;
    }

-- the number that stands there before a step
abbrev pub number_before : Before → Place → ℕ
number_before b place = number_from (b.view.bytes place.name) place.offset

-- a call reads it
pub number_read : (b : Before) (place : Place) (s offset : ℕ) → IsHere b place s offset → semaphore_at b s offset ≡ number_before b place
unfolding range_of
number_read b place s offset here =
    ap (λ (o : Option Hold). number_in (range_in b.view.bytes offset 4 o)) here.bound
    ∙ ap (λ (n : ℕ). number_from (b.view.bytes n) offset) here.named
    ∙ ap (λ (n : ℕ). number_from (b.view.bytes place.name) n) here.same

-- and what it writes stands there
pub number_written_there : (b : Before) (place : Place) (s offset n : ℕ) → IsHere b place s offset
    → number_from (put_at_pointer b.view.held b.view.bytes s offset (long_bytes n) place.name) place.offset ≡ n
unfolding put_at_pointer
number_written_there b place s offset n here =
    let bytes : List ℕ = b.view.bytes place.name in
    ap (λ (o : Option Hold). number_from (put_in b.view.bytes offset (long_bytes n) o place.name) place.offset) here.bound
    ∙ ap (λ (t : Bool). number_from (cond t (put_part bytes offset (long_bytes n)) bytes) place.offset) (same_number here.hold.name place.name here.named)
    ∙ ap (λ (k : ℕ). number_from (put_part bytes k (long_bytes n)) place.offset) here.same
    ∙ number_put bytes place.offset n here.fits
