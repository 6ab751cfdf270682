use Rattle.std.proofs.Common.{ap, ◌+◌, ◌∙◌}
use Rattle.o2_ne.proofs.TableLaws.{walks_on}
use Rattle.o2_ne.proofs.walking.Walking.name.Goals as goal

pub returns-clause-walks : goal.returns-clause-walks
returns-clause-walks c = λ at so_far.
    let place = c.args.self.now.place in
    rw c.in_ok-push.ensures.items (walks_on c.args.file.now c.args.self.now.places.items at place _ (ap (λ n. place + 1 + n + 2) (c.from-2.ensures ∙ c.requires.len)) so_far)
