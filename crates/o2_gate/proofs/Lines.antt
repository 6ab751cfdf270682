-- The calls that are made over the bus: how they come out, and their line.
use Rattle.std.proofs.Common.{◌≡◌, ℕ, ◌==◌, Bool, true, false, cond, List, [], ◌∷◌, take, drop, Option, ap, ◌∙◌, refl, subst, if◌then◌else◌}
use Rattle.std.proofs.lemmas.List.{append-nil}
use Rattle.std.specs.Prelude.{Result}
use Rattle.o2_outer.specs.declared.sink.Put.{Put}
use Rattle.o2_outer.specs.Answers.{Takes}
use Rattle.o2_outer.specs.Texts.{Gains, GainsSome, IsPrefix}
use Rattle.o2_outer.proofs.TextLemmas.{puts_front, puts_more}
use Rattle.o2_world.specs.declared.types.Argument.{Argument}
use Rattle.o2_world.specs.declared.types.Argument.TheVariants as shown
use Rattle.o2_world.specs.declared.types.Slot.{Slot}
use Rattle.o2_world.specs.Calls.{Before, is_console, read_slots, reading, writing}
use Rattle.o2_world.specs.Changes.{moved_lines}
use Rattle.o2_world.specs.Outcomes.{Fails, come_out, row}
use Rattle.o2_world.specs.Slots.{shown_in, values_in}
use Rattle.o2_world.specs.Text.{line_text, lines_text}
use Rattle.o2_world.specs.World.{Calls, Line}
use Rattle.o2_run.specs.declared.fault.Fault.{Fault}
use Rattle.o2_run.specs.Pieces.{counts, told_counts, LineHands, PartHands}
use Rattle.o2_gate.specs.declared.arguments.Arguments.{Arguments}
use Rattle.o2_gate.specs.Given.{word_in}
use Rattle.o2_gate.specs.Replies.{call_line}
use Rattle.o2_gate.specs.Targets.{name_of, slots_of}
use Rattle.o2_gate.specs.declared.called.Called.{Called}
use Rattle.o2_gate.specs.Overs.{got_bytes, wrote}
use Rattle.o2_gate.proofs.Fails.{HasFront, OnSink, only_line}

pub slots_line : (number : ℕ) (name : List ℕ) (a : ℕ → ℕ) (error : ℕ) (values : List Argument) {ss ts : List Slot} → ss ≡ ts → (r q : Option (List ℕ)) (p : Put)
    → Takes r q (lines_text (Calls number name (shown_in ss a) error values ∷ [])) p → Takes r q (lines_text (Calls number name (shown_in ts a) error values ∷ [])) p
slots_line number name a error values is r q p e = subst (λ (x : List Slot). Takes r q (lines_text (Calls number name (shown_in x a) error values ∷ [])) p) is e

module _ (b : Before) (a : ℕ → ℕ) where
  pub reading_refused : (a 5 == 0) ≡ false → reading b a ≡ Fails 6 (shown.Word 0 ∷ [])
  reading_refused e = ap (λ (c : Bool). cond c (got_bytes (take (a 2) b.input) (drop (a 2) b.input)) (Fails 6 (shown.Word 0 ∷ []))) e

  pub reading_done : (got rest : List ℕ) → (a 5 == 0) ≡ true → take (a 2) b.input ≡ got → drop (a 2) b.input ≡ rest → reading b a ≡ got_bytes got rest
  reading_done got rest e x y =
      ap (λ (c : Bool). cond c (got_bytes (take (a 2) b.input) (drop (a 2) b.input)) (Fails 6 (shown.Word 0 ∷ []))) e
      ∙ ap (λ (z : List ℕ). got_bytes z (drop (a 2) b.input)) x
      ∙ ap (got_bytes got) y

  pub writing_refused : is_console (a 5) ≡ false → writing b a ≡ Fails 6 (shown.Word (a 2) ∷ [])
  writing_refused e = ap (λ (c : Bool). cond c (wrote b a) (Fails 6 (shown.Word (a 2) ∷ []))) e

  pub writing_done : is_console (a 5) ≡ true → writing b a ≡ wrote b a
  writing_done e = ap (λ (c : Bool). cond c (wrote b a) (Fails 6 (shown.Word (a 2) ∷ []))) e

  -- a DosRead has one line, and no piece
  pub read_part : (name : List ℕ) (next k x y : ℕ) (t u : Option (List ℕ)) (r : Result Called Fault) → OnSink r (HasFront t u (come_out (row name read_slots reading) b next a (reading b a)).lines)
      → LineHands (counts k k x y 0) r → PartHands (come_out (row name read_slots reading) b next a (reading b a)) (told_counts k k x y 0 t u) r
  unfolding moved_lines
  read_part name next k x y t u r = go (a 5 == 0)
    where
      go : (c : Bool) → OnSink r (HasFront t u (come_out (row name read_slots reading) b next a (cond c (got_bytes (take (a 2) b.input) (drop (a 2) b.input)) (Fails 6 (shown.Word 0 ∷ [])))).lines) → LineHands (counts k k x y 0) r
          → PartHands (come_out (row name read_slots reading) b next a (cond c (got_bytes (take (a 2) b.input) (drop (a 2) b.input)) (Fails 6 (shown.Word 0 ∷ [])))) (told_counts k k x y 0 t u) r
      go true = only_line (come_out (row name read_slots reading) b next a (cond true (got_bytes (take (a 2) b.input) (drop (a 2) b.input)) (Fails 6 (shown.Word 0 ∷ [])))) k x y t u r refl refl
      go false = only_line (come_out (row name read_slots reading) b next a (cond false (got_bytes (take (a 2) b.input) (drop (a 2) b.input)) (Fails 6 (shown.Word 0 ∷ [])))) k x y t u r refl refl

-- The line of a call on segments, and those behind it.

pub line_is : (x : Arguments) (pid error value : ℕ) {name : List ℕ} {ss : List Slot} → name ≡ name_of x → ss ≡ slots_of x
    → Calls pid name (shown_in ss (word_in x.words)) error (if error == 0 then values_in ss value else []) ≡ call_line x pid error value
line_is x pid error value {name} {ss} same slots =
    ap (λ (n : List ℕ). Calls pid n (shown_in ss (word_in x.words)) error (if error == 0 then values_in ss value else [])) same
    ∙ ap (λ (ts : List Slot). Calls pid (name_of x) (shown_in ts (word_in x.words)) error (if error == 0 then values_in ts value else [])) slots

pub reply_front : (l : Line) (rest : List Line) (a b : Option (List ℕ)) → GainsSome a b (λ front. IsPrefix front (lines_text (l ∷ []))) → GainsSome a b (λ front. IsPrefix front (lines_text (l ∷ rest)))
reply_front l rest a b g = puts_front (line_text l) (lines_text rest) a b (subst (λ (t : List ℕ). GainsSome a b (λ front. IsPrefix front t)) (append-nil (line_text l)) g)

pub reply_more : (l : Line) (rest : List Line) (a b c : Option (List ℕ)) (r : Put) → Gains a b (lines_text (l ∷ [])) → Takes b c (lines_text rest) r → Takes a c (lines_text (l ∷ rest)) r
reply_more l rest a b c r g h = puts_more (line_text l) (lines_text rest) a b c r (subst (Gains a b) (append-nil (line_text l)) g) h
