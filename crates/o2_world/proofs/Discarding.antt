-- What a word `discard` leaves of the segments: a sound world stays sound.
use Rattle.std.proofs.Common.{◌≡◌, ℕ, ◌<◌, ◌≤◌, ◌==◌, ◌&&◌, Bool, true, false, not, cond, List, [], ◌∷◌, length, replicate, Option, Some, None, ap, sym, ◌∙◌, refl, subst}
use Rattle.std.specs.Prelude.{is_some, option_map}
use Rattle.o2_desc.specs.Bits.{has_bit}
use Rattle.o2_world.specs.Map.{Map, get}
use Rattle.o2_world.specs.World.{World, Process, Segment}
use Rattle.o2_world.specs.Changes.{marked}
use Rattle.o2_world.specs.Discards.{MayBeDiscarded, all_discarded, behind_discard, goes, is_seated, may_be_discarded}
use Rattle.o2_world.specs.Run.{ready, with_word}
use Rattle.o2_world.specs.Tied.{HasSize, IsDiscarded, IsSound, KeepsDiscarded, has_no_flags}
use Rattle.o2_world.proofs.MapLemmas.{get-map, if_no}
use Rattle.o2_world.proofs.TiedChanges.{KeepsMarks, still_one, texts_live, zeros_length}
use Rattle.o2_world.proofs.Words.{ready_keeps}

-- the segment of each name behind the word
pub get_discarded : (ps : List Process) (names : Map Segment) (q : ℕ) → get (all_discarded ps names) q ≡ option_map (behind_discard ps q) (get names q)
unfolding all_discarded
get_discarded ps names q = get-map (λ (n : ℕ) (s : Segment). behind_discard ps n s) names q

-- a second word finds nothing that goes
no_right : (b : Bool) → (b && false) ≡ false
no_right true = refl
no_right false = refl

twice : (ps : List Process) (n : ℕ) (s : Segment) → behind_discard ps n (behind_discard ps n s) ≡ behind_discard ps n s
twice ps n s = go (goes ps n s) refl
  where
    go : (b : Bool) → goes ps n s ≡ b → behind_discard ps n (cond b (marked true s) s) ≡ cond b (marked true s) s
    go true is = if_no (goes ps n (marked true s)) (marked true (marked true s)) (marked true s) (no_right (may_be_discarded ps n (marked true s)))
    go false is = if_no (goes ps n s) (marked true s) s is

pub all_twice : (ps : List Process) (names : Map Segment) → all_discarded ps (all_discarded ps names) ≡ all_discarded ps names
unfolding all_discarded
all_twice ps [] = refl
all_twice ps (e ∷ es) =
    ap (λ (s : Segment). (e.0, s) ∷ all_discarded ps (all_discarded ps es)) (twice ps e.0 e.1)
    ∙ ap (λ (m : Map Segment). (e.0, behind_discard ps e.0 e.1) ∷ m) (all_twice ps es)

-- What a segment was before.

-- it was as it is but for its bytes, and has as many
record IsKept (old s : Segment) : Type 0 where
  clean : s.clean ≡ old.clean
  shared : s.shared ≡ old.shared
  flags : s.flags ≡ old.flags
  size : length s.bytes ≡ length old.bytes

kept_by : (old : Segment) (b : Bool) → IsKept old (cond b (marked true old) old)
kept_by old true = record { clean = refl; shared = refl; flags = refl; size = zeros_length (length old.bytes) }
kept_by old false = record { clean = refl; shared = refl; flags = refl; size = refl }

record IsFrom (ps : List Process) (names : Map Segment) (q : ℕ) (s : Segment) : Type 0 where
  old : Segment
  there : get names q ≡ Some old
  is : s ≡ behind_discard ps q old

from_before : (ps : List Process) (names : Map Segment) (q : ℕ) (s : Segment) → get (all_discarded ps names) q ≡ Some s → IsFrom ps names q s
from_before ps names q s e = go (get names q) refl (sym (get_discarded ps names q) ∙ e)
  where
    go : (o : Option Segment) → get names q ≡ o → option_map (behind_discard ps q) (get names q) ≡ Some s → IsFrom ps names q s
    go None at f = absurd (let z : None ≡ Some s = sym (ap (option_map (behind_discard ps q)) at) ∙ f in cc)
    go (Some y) at f =
        let z : Some (behind_discard ps q y) ≡ Some s = sym (ap (option_map (behind_discard ps q)) at) ∙ f in
        let same : behind_discard ps q y ≡ s = cc in
        record { old = y; there = at; is = sym same }

module _ (ps : List Process) (names : Map Segment) where
  kept : (q : ℕ) (s : Segment) (f : IsFrom ps names q s) → IsKept f.old s
  kept q s f = subst (IsKept f.old) (sym f.is) (kept_by f.old (goes ps q f.old))

  pub lives_still : (q : ℕ) → is_some (get (all_discarded ps names) q) ≡ is_some (get names q)
  lives_still q = ap is_some (get_discarded ps names q) ∙ mapped (get names q)
    where
      mapped : (o : Option Segment) → is_some (option_map (behind_discard ps q) o) ≡ is_some o
      mapped None = refl
      mapped (Some s) = refl

  flags_still : (q : ℕ) → has_no_flags (get (all_discarded ps names) q) ≡ has_no_flags (get names q)
  flags_still q = ap has_no_flags (get_discarded ps names q) ∙ mapped (get names q)
    where
      mapped : (o : Option Segment) → has_no_flags (option_map (behind_discard ps q) o) ≡ has_no_flags o
      mapped None = refl
      mapped (Some s) = ap (λ (n : ℕ). n == 0) (kept_by s (goes ps q s)).flags

  marks_before : (q : ℕ) (s : Segment) → get (all_discarded ps names) q ≡ Some s → KeepsMarks names q s
  marks_before q s e =
      let f = from_before ps names q s e in
      let k = kept q s f in
      record { old = f.old; there = f.there; clean = k.clean; shared = k.shared }

  -- what is discarded is what may be, and has zeros
  both : (a b : Bool) → (a && b) ≡ true → (a ≡ true) × (b ≡ true)
  both true b e = (refl, e)
  both false b e = absurd (cc)

  is_false : (b : Bool) → not b ≡ true → b ≡ false
  is_false true e = absurd (cc)
  is_false false e = refl

  may_be : (q : ℕ) (s : Segment) → goes ps q s ≡ true → MayBeDiscarded ps q s
  may_be q s e =
      let all = both (may_be_discarded ps q s) (not s.discarded) e in
      let halves = both (has_bit s.flags 2 && not s.clean) ((s.lock == 0) && not (is_seated ps q)) all.0 in
      let first = both (has_bit s.flags 2) (not s.clean) halves.0 in
      let last = both (s.lock == 0) (not (is_seated ps q)) halves.1 in
      record { discardable = first.0; changes = is_false s.clean first.1; unlocked = last.0; unseated = is_false (is_seated ps q) last.1 }

  discarded_by : (q : ℕ) (old : Segment) → (old.discarded ≡ true → IsDiscarded ps q old) → (b : Bool) → goes ps q old ≡ b
      → (cond b (marked true old) old).discarded ≡ true → IsDiscarded ps q (cond b (marked true old) old)
  discarded_by q old before true goes_now gone =
      let m = may_be q old goes_now in
      record {
        may_be = record { discardable = m.discardable; changes = m.changes; unlocked = m.unlocked; unseated = m.unseated };
        zeros = ap (λ (n : ℕ). replicate n 0) (sym (zeros_length (length old.bytes)));
      }
  discarded_by q old before false goes_now gone = before gone

  pub keeps_discarded : KeepsDiscarded ps names → KeepsDiscarded ps (all_discarded ps names)
  keeps_discarded k = record {
    each = λ q s e gone.
        let f = from_before ps names q s e in
        subst (IsDiscarded ps q) (sym f.is)
        (discarded_by q f.old (k.each q f.old f.there) (goes ps q f.old) refl (ap (λ (x : Segment). x.discarded) (sym f.is) ∙ gone));
  }

-- a word keeps a sound world sound
pub word_sound : (w : World) → IsSound w → IsSound (with_word w)
word_sound w sound = record {
  tied = record {
    held = λ place i h e. let old = tied.held place i h e in (lives_still ps w.names h.name ∙ old.0, old.1);
    below = λ q e. tied.below q (sym (lives_still ps w.names q) ∙ e);
    sized = λ q s e.
        let f = from_before ps w.names q s e in
        subst (λ (n : ℕ). (0 < n) × (n ≤ 65536)) (sym (kept ps w.names q s f).size) (tied.sized q f.old f.there);
    clean = λ place i h s e g c.
        let f = from_before ps w.names h.name s g in
        tied.clean place i h f.old e f.there (sym (kept ps w.names h.name s f).clean ∙ c);
    one = λ place other i h k big e g.
        still_one w.names (all_discarded ps w.names) h k (marks_before ps w.names h.name) (marks_before ps w.names k.name) (tied.one place other i h k big e g);
    texts = texts_live w.names (all_discarded ps w.names) w.texts (λ q e. flags_still ps w.names q ∙ e) tied.texts;
    ended = tied.ended;
    registers = tied.registers;
  };
  swept = record { named = λ q e. sound.swept.named q (sym (lives_still ps w.names q) ∙ e); used = sound.swept.used };
  discarded = keeps_discarded ps w.names sound.discarded;
}
  where
    ps : List Process
    ps = w.processes

    tied : Rattle.o2_world.specs.Tied.IsTied w
    tied = sound.tied

pub ready_sound : (w : World) → IsSound w → IsSound (ready w)
ready_sound = ready_keeps {P = IsSound} word_sound
