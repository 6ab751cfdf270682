-- What a word of the script does to the world that the machine stands for.
use Rattle.std.proofs.Common.{◌≡◌, ℕ, true, List, Bool, ap, sym, ◌∙◌, refl, arith}
use Rattle.o2_conf.specs.Dispatch.{Dispatch, word_taken}
use Rattle.o2_calls.specs.SharedActs.{AreSpelled}
use Rattle.o2_sched.specs.Schedule.{Schedule, behind_pick}
use Rattle.o2_sched.specs.declared.sched.Pick.{Pick}
use Rattle.o2_sched.specs.declared.sched.Pick.TheVariants.{Step, Discard, AllEnded, BudgetSpent}
use Rattle.o2_swapmap.specs.Piles.{all_of}
use Rattle.o2_space.specs.Frames.{KeepsSpace}
use Rattle.o2_space.specs.Parts.{parts_in}
use Rattle.o2_space.specs.Stands.{GoTogether}
use Rattle.o2_space.specs.declared.space.Space.{Space}
use Rattle.o2_space.proofs.Framing.{set_kept}
use Rattle.o2_stands.specs.Stands.{Stands}
use Rattle.o2_world.specs.Run.{with_word}
use Rattle.o2_world.specs.World.{Setting, World}
use Rattle.o2_world.proofs.Discarding.{word_sound}
use Rattle.o2_machine.specs.Lasts.{is_word}
use Rattle.o2_machine.specs.StandsFor.{StandsFor}
use Rattle.o2_machine.specs.declared.machine.Machine.{Machine}

pub word_is : (p : Pick) → is_word p ≡ true → p ≡ Discard
word_is Discard e = refl
word_is (Step n) e = absurd (cc)
word_is AllEnded e = absurd (cc)
word_is BudgetSpent e = absurd (cc)

-- what goes together over a device does so over one with the blocks that the store has
pub together_here : (m : Space) (device : ℕ) → GoTogether m device → GoTogether m (all_of m.store.swap)
together_here m device x = record {
  ready = λ block.
      let r = x.ready block in
      record {
        aged = r.aged;
        named = r.named;
        held = r.held;
        settled = r.settled;
        guarded = r.guarded;
        clean = r.clean;
        pictures = r.pictures;
        device = omega arith;
      };
  numbers = x.numbers;
  marked = x.marked;
  whole = x.whole;
  one = x.one;
  places = x.places;
}

-- for the world behind the word
pub stands_behind : (m n : Machine) (device : ℕ) (block : ℕ → List ℕ) (s : Setting) (w : World) → StandsFor m device block s w → Stands (parts_in n.space device block) (with_word w)
    → AreSpelled n.space.store n.space.names (with_word w) → KeepsSpace m.space n.space → n.sched ≡ behind_pick m.sched Discard → n.budget ≡ m.budget → n.console_bytes ≡ m.console_bytes → n.lines ≡ m.lines
    → StandsFor n device block s (with_word w)
stands_behind m n device block s w stands space spells keeps sched budget bytes lines = record {
  space = space;
  sound = word_sound w stands.sound;
  told = record { live = stands.told.live; ended = stands.told.ended };
  set = set_kept m.space n.space device device block block keeps refl s stands.set;
  flags = stands.flags ∙ sym (ap (λ (z : Schedule). z.flags) sched);
  dispatch =
      ap (λ (f : List Bool). word_taken f w.dispatch) stands.flags
      ∙ (ap (λ (d : Dispatch). word_taken m.sched.flags d) stands.dispatch ∙ sym (ap (λ (z : Schedule). z.dispatch) sched));
  quantum = stands.quantum ∙ sym (ap (λ (z : Schedule). z.quantum) sched);
  known = record { avail = stands.known.avail ∙ sym keeps.avail };
  spells = spells;
  budget = stands.budget ∙ sym budget;
  console = stands.console ∙ sym bytes;
  lines = stands.lines ∙ sym lines;
}
