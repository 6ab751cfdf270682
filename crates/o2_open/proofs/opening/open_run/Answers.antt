use Rattle.std.proofs.Common.{◌≡◌, ◌≤◌, List, ℕ, [], arith, sym, subst}
use Rattle.std.specs.Prelude.{Result, Ok}
use Rattle.o2_open.specs.declared.session.Session.{Session}
use Rattle.o2_open.specs.declared.fault.OpenFault.{OpenFault}
use Rattle.o2_open.specs.Loads.{Loads, modules_in}
use Rattle.o2_open.proofs.Telling.{since_err}
use Rattle.o2_open.proofs.Stepping.{run_is}
use Rattle.o2_open.proofs.Asking.{asks_one, asks_run}
use Rattle.o2_open.proofs.opening.open_run.Goals as goal

pub returns-clause-exact : goal.returns-clause-exact
returns-clause-exact g c = λ contents h.
    subst (λ (r : Result Session OpenFault). Loads (λ s. s) c.linked.result r)
    (sym (run_is contents c.args.name.now c.in_ok-conf.conf c.in_ok-modules.modules.items (c.in_ok-conf.ensures.exact contents (c.in_ok-modules.ensures.earlier contents h))
    (subst (λ (z : List (List ℕ)). modules_in contents z [] ≡ Ok c.in_ok-modules.modules.items) c.as_slice.ensures (c.in_ok-modules.ensures.exact contents h))))
    c.linked.ensures.exact

pub returns-clause-refuses : goal.returns-clause-refuses
returns-clause-refuses g c =
    let later : g.F.Files.faults c.args.files.now ≤ g.F.Files.faults c.modules.new.files = omega (arith, c.in_ok-conf.ensures.count, c.in_ok-modules.ensures.count) in
    since_err _ _ _ c.linked.result later (c.linked.ensures.refuses _)

pub returns-in_err-conf-clause-asks : goal.returns-in_err-conf-clause-asks
returns-in_err-conf-clause-asks g c = λ contents h. asks_one c.args.name.now _ _ _ c.in_err-conf.ensures.asks

pub returns-in_err-modules-clause-asks : goal.returns-in_err-modules-clause-asks
returns-in_err-modules-clause-asks g c = λ contents h.
    asks_run c.args.name.now _ c.in_ok-conf.conf _ _ _ _ (c.in_ok-conf.ensures.exact contents (c.in_err-modules.ensures.earlier contents h)) c.as_slice.ensures c.in_ok-conf.ensures.asks c.in_err-modules.ensures.asks

pub returns-clause-asks : goal.returns-clause-asks
returns-clause-asks g c = λ contents h.
    asks_run c.args.name.now _ c.in_ok-conf.conf _ _ _ _ (c.in_ok-conf.ensures.exact contents (c.in_ok-modules.ensures.earlier contents h)) c.as_slice.ensures c.in_ok-conf.ensures.asks c.in_ok-modules.ensures.asks
