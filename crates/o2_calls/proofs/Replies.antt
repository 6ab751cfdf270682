-- A call on segments whose pointers are good comes to the reply by its ruling.
use Rattle.std.proofs.Common.{◌≡◌, ◌≢◌, ℕ, ◌==◌, Bool, true, false, cond, List, [], ◌∷◌, ap, refl, sym, ◌∙◌, arith}
use Rattle.o2_isa.specs.declared.cpu.Cpu.{Cpu}
use Rattle.o2_world.specs.declared.types.State.TheVariants.{Live}
use Rattle.o2_world.specs.declared.types.Argument.{Argument}
use Rattle.o2_world.specs.World.{Calls}
use Rattle.o2_world.specs.Calls.{Before, Effect, returned}
use Rattle.o2_world.specs.Changes.{Change, moved_lines}
use Rattle.o2_world.specs.HugeRulings.{without}
use Rattle.o2_world.specs.Outcomes.{Does, Fails, come_out, gone_indexes}
use Rattle.o2_world.specs.Rulings.{Ruling}
use Rattle.o2_world.specs.Slots.{parts_in, put_all, shown_in, targets_in, values_in}
use Rattle.o2_gate.specs.declared.arguments.Arguments.{Arguments}
use Rattle.o2_gate.specs.Given.{word_in}
use Rattle.o2_gate.specs.Replies.{words_of}
use Rattle.o2_gate.specs.Targets.{asked, name_of, row_by, slots_of}
use Rattle.o2_calls.specs.Acts.{ruling_of}
use Rattle.o2_calls.specs.Tellings.{replied_by}
use Rattle.o2_calls.proofs.Refusing.{Refuses, ruling_refuses}
use Rattle.o2_calls.proofs.Shapes.{clears_gone}

zero_is : (n : ℕ) → (n == 0) ≡ true → n ≡ 0
zero_is n e = grind arith

not_zero : (n : ℕ) → (n == 0) ≡ false → n ≢ 0
not_zero n e f = grind arith

module _ (b : Before) (next : ℕ) (a : Arguments) where
  abbrev r : Ruling
  r = ruling_of a.request b.known b.number b.cpu

  abbrev shown : List Argument
  shown = shown_in (slots_of a) (word_in a.words)

  abbrev values : List Argument
  values = values_in (slots_of a) r.value

  abbrev written : ℕ → List ℕ
  written = put_all b.view.held (targets_in (slots_of a) (word_in a.words)) (parts_in (slots_of a) r.value) b.view.bytes

  -- the effect of a call that comes back with these registers, but for the stack, and this error
  comes : (cpu : Cpu) (error : ℕ) (bytes : ℕ → List ℕ) (changes : List Change) (values : List Argument) → Effect
  comes cpu error bytes changes values = record {
    cpu = returned cpu next (words_of a) error;
    state = Live;
    bytes = bytes;
    changes = changes;
    input = b.input;
    piece = [];
    lines = Calls b.number (name_of a) shown error values ∷ moved_lines (name_of a) changes;
    waits = false;
  }

  -- without what is gone
  abbrev left : List Change → Cpu
  left cs = without b.cpu (gone_indexes b.known cs)

  pub asked_is : asked a b next ≡ replied_by a b next
  unfolding comes moved_lines
  asked_is = go (r.error == 0) refl (ruling_refuses b.known b.number a.request b.cpu)
      ∙ ap (λ (c : Cpu). comes c r.error (cond (r.error == 0) written b.view.bytes) r.changes (cond (r.error == 0) values [])) (clears_gone a.request b.known b.number b.cpu)
    where
      go : (z : Bool) → (r.error == 0) ≡ z → Refuses r
          → come_out (row_by a) b next (word_in a.words)
          (cond z (Does (record { values = values; parts = parts_in (slots_of a) r.value; changes = r.changes; input = b.input; piece = [] })) (Fails r.error []))
          ≡ comes (left r.changes) r.error (cond z written b.view.bytes) r.changes (cond z values [])
      go true e refuses = ap (λ (n : ℕ). comes (left r.changes) n written r.changes values) (sym (zero_is r.error e))
      go false e refuses = ap (λ (cs : List Change). comes (left cs) r.error b.view.bytes cs []) (sym (refuses.none (not_zero r.error e)))
