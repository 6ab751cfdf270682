use Rattle.std.proofs.Common.{◌≡◌, ℕ, ap, sym, ◌∙◌, subst}
use Rattle.o2_ramsem.specs.Ruled.{ruled}
use Rattle.o2_world.specs.SemRulings.{Becomes, requesting, waiting_for}
use Rattle.o2_gate.specs.Given.{word_in}
use Rattle.o2_gate.specs.Semaphores.{sem_ruling}
use Rattle.o2_gate.proofs.semaphore.ruling_of.Goals as goal

pub returns-in-25 : goal.returns-in-25
returns-in-25 c =
    subst (λ (k : ℕ). ruled c.request.result ≡ sem_ruling k (word_in c.args.words.now) c.args.pid c.args.word) (sym c.in-25.is)
    (c.request.ensures ∙ ap (requesting c.args.word c.args.pid) c.timeout_in.ensures)

pub returns-in-26 : goal.returns-in-26
returns-in-26 c =
    subst (λ (k : ℕ). Becomes c.clear.result ≡ sem_ruling k (word_in c.args.words.now) c.args.pid c.args.word) (sym c.in-26.is) (ap Becomes c.clear.ensures)

pub returns-in-27 : goal.returns-in-27
returns-in-27 c =
    subst (λ (k : ℕ). ruled c.wait.result ≡ sem_ruling k (word_in c.args.words.now) c.args.pid c.args.word) (sym c.in-27.is)
    (c.wait.ensures ∙ ap (waiting_for c.args.word) c.timeout_in-in-27.ensures)

pub returns-in-28 : goal.returns-in-28
returns-in-28 c =
    subst (λ (k : ℕ). Becomes c.set.result ≡ sem_ruling k (word_in c.args.words.now) c.args.pid c.args.word) (sym c.in-28.is) (ap Becomes c.set.ensures)
