use Rattle.std.proofs.Common.{List, ℕ, subst, sym}
use Rattle.o2_shared.specs.Shares.{MatchesShares}
use Rattle.o2_shared.proofs.Runs.{alone_members, called_alone, called_run, run_members}
use Rattle.o2_shared.proofs.sharing.share_all.Goals as goal

pub share_at-requires-clause-called : goal.share_at-requires-clause-called
share_at-requires-clause-called c = called_alone c.args.regions.now c.args.from c.args.index c.args.held c.requires.held c.if-held-eq0.true c.requires.shared

pub share_at-requires-clause-few : goal.share_at-requires-clause-few
share_at-requires-clause-few c = c.requires.few.few c.args.to c.args.index

pub share_run-requires-clause-shared : goal.share_run-requires-clause-shared
share_run-requires-clause-shared c = called_run c.args.regions.now c.args.from c.args.index c.args.held c.if-held-eq0.false c.requires.shared

pub returns-then-held-eq0-clause-matches : goal.returns-then-held-eq0-clause-matches
returns-then-held-eq0-clause-matches c =
    subst (λ (is : List ℕ). MatchesShares c.args.store.now c.args.regions.now c.share_at.new.regions c.args.from c.args.to is)
    (sym (alone_members c.args.regions.now c.args.from c.args.index c.args.held c.requires.held c.if-held-eq0.true)) c.share_at.ensures.matches

pub returns-else-held-eq0-clause-matches : goal.returns-else-held-eq0-clause-matches
returns-else-held-eq0-clause-matches c =
    subst (λ (is : List ℕ). MatchesShares c.args.store.now c.args.regions.now c.share_run.new.regions c.args.from c.args.to is)
    (sym (run_members c.args.regions.now c.args.from c.args.index c.args.held c.if-held-eq0.false)) c.share_run.ensures.matches
