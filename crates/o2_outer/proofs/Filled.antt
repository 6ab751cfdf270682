-- What is read into a window.
use Rattle.std.proofs.Common.{◌≡◌, ℕ, ◌*◌, ◌-◌, ◌/◌, ◌≤◌, ◌<◌, ◌++◌, ◌∙◌, List, Option, Some, length, take, drop, take-append-drop, arith, sym, ap, subst, refl}
use Rattle.std.proofs.lemmas.List.{take-take, length-take-le}
use Rattle.std.specs.Io.KnownBytes.{prepend_known}
use Rattle.o2_outer.specs.declared.window.Window.{Window}
use Rattle.o2_outer.specs.Ahead.{has_block}
use Rattle.o2_outer.specs.Placed.{Fills, CameFrom, IsGiven}
use Rattle.o2_outer.specs.Reads.{bytes_left}
use Rattle.o2_outer.specs.Windows.{IsFilled, Has}

-- of a reader whose bytes are known
from_none : (before held : List ℕ) (old new : Option (List ℕ)) → ((t : List ℕ) → bytes_left (take 0 before) old ≡ Some t → bytes_left held new ≡ Some t) → (t : List ℕ) → old ≡ Some t → bytes_left held new ≡ Some t
from_none before held old new left t e = left t (subst (λ (o : Option (List ℕ)). bytes_left (take 0 before) o ≡ Some t) (sym e) refl)

-- the whole blocks of what was read
pub filled : (old new : Option (List ℕ)) (before bytes : List ℕ) (held i : ℕ) → ((t : List ℕ) → bytes_left (take 0 before) old ≡ Some t → bytes_left (take held bytes) new ≡ Some t)
    → held ≤ length bytes → IsFilled old new i bytes i (held / 512)
filled old new before bytes held i left within =
    let fits : 512 * (held / 512) ≤ held = omega arith in
    record {
      read = take held bytes;
      given = from_none before (take held bytes) old new left;
      whole = subst (λ (n : ℕ). 512 * (held / 512) ≤ n) (sym (length-take-le held bytes within)) fits;
      same = sym (take-take (512 * (held / 512)) held bytes fits);
      from_first = λ _. refl;
    }

-- and none of them
pub filled_none : (old new : Option (List ℕ)) (before bytes : List ℕ) (held i first : ℕ) → ((t : List ℕ) → bytes_left (take 0 before) old ≡ Some t → bytes_left (take held bytes) new ≡ Some t)
    → IsFilled old new i bytes first 0
filled_none old new before bytes held i first left = record {
  read = take held bytes;
  given = from_none before (take held bytes) old new left;
  whole = omega arith;
  same = refl;
  from_first = λ some. absurd (omega (arith, some));
}

-- the first of the blocks that were read is the front of what was read
pub front_read : (read bytes : List ℕ) (first len i : ℕ) (block : List ℕ) → first ≡ i → 0 < len → take (512 * len) bytes ≡ take (512 * len) read → Has bytes first len i block → block ≡ take 512 read
front_read read bytes first len i block e some same h =
    let none : 512 * (i - first) ≡ 0 = omega (arith, e) in
    let one : 512 ≤ 512 * len = omega (arith, some) in
    h.same ∙ ap (λ (n : ℕ). take 512 (drop n bytes)) none ∙ sym (take-take 512 (512 * len) bytes one) ∙ ap (λ (z : List ℕ). take 512 z) same ∙ take-take 512 (512 * len) read one

pub came : {F : Type 0} (position : F → Option ℕ) (remaining : F → Option (List ℕ)) (old new : Option F) (i : ℕ) (w : Window) (block : List ℕ)
    → Fills position remaining old new i w → has_block w i block → CameFrom position remaining new i block
came position remaining old new i w block f h =
    let some : 0 < w.len = omega (arith, h.within) in
    let read : List ℕ = f.filled.read in
    let front : block ≡ take 512 read = front_read read w.bytes w.first w.len i block (f.filled.from_first some) some f.filled.same h in
    record {
      before = f.before;
      sought = f.sought;
      after = f.after;
      rest = drop 512 read;
      left = f.left;
      place = f.place;
      given = λ t e. subst (λ (z : List ℕ). prepend_known z (remaining f.after) ≡ Some t)
          (sym (ap (λ (z : List ℕ). z ++ drop 512 read) front ∙ take-append-drop 512 read)) (f.filled.given t e);
    }

-- the same of equal windows, files and bytes
pub given_as : {F : Type 0} (position : F → Option ℕ) (remaining : F → Option (List ℕ)) (old before : Window) (new after : Option F) (i : ℕ) (block bytes : List ℕ)
    → old ≡ before → new ≡ after → block ≡ bytes → IsGiven position remaining old new i block → IsGiven position remaining before after i bytes
given_as position remaining old before new after i block bytes ow nf bb h =
    subst (λ (b : List ℕ). IsGiven position remaining before after i b) bb
    (subst (λ f. IsGiven position remaining before f i block) nf
    (subst (λ (w : Window). IsGiven position remaining w new i block) ow h))
