use Rattle.std.proofs.Common.{arith, refl}
use Rattle.o2_store.proofs.Asking.{asks_behind}
use Rattle.o2_store.proofs.Departing.{leave_here}
use Rattle.o2_service.proofs.Among.{only_by, stays_by, wanted_needed}
use Rattle.o2_service.proofs.serving.bring_one.Goals as goal

pub returns-in-Here-clause-stays : goal.returns-in-Here-clause-stays
returns-in-Here-clause-stays g c = stays_by c.args.store.now c.bring.new.store c.args.need.now c.ids.result.now c.ids.ensures c.requires.all c.bring.ensures.kept

pub returns-in-SwapFull-clause-stays : goal.returns-in-SwapFull-clause-stays
returns-in-SwapFull-clause-stays g c = stays_by c.args.store.now c.bring.new.store c.args.need.now c.ids.result.now c.ids.ensures c.requires.all c.bring.ensures.kept

pub returns-in-SwapFault-clause-stays : goal.returns-in-SwapFault-clause-stays
returns-in-SwapFault-clause-stays g c = stays_by c.args.store.now c.bring.new.store c.args.need.now c.ids.result.now c.ids.ensures c.requires.all c.bring.ensures.kept

pub returns-in-NoRoom-clause-stays : goal.returns-in-NoRoom-clause-stays
returns-in-NoRoom-clause-stays g c = stays_by c.args.store.now c.bring.new.store c.args.need.now c.ids.result.now c.ids.ensures c.requires.all c.bring.ensures.kept

pub returns-in-Here-clause-only : goal.returns-in-Here-clause-only
returns-in-Here-clause-only g c = only_by c.args.store.now c.bring.new.store c.args.need.now c.args.id.key c.requires.among c.bring.ensures.none

pub returns-in-SwapFull-clause-only : goal.returns-in-SwapFull-clause-only
returns-in-SwapFull-clause-only g c = only_by c.args.store.now c.bring.new.store c.args.need.now c.args.id.key c.requires.among c.bring.ensures.none

pub returns-in-SwapFault-clause-only : goal.returns-in-SwapFault-clause-only
returns-in-SwapFault-clause-only g c = only_by c.args.store.now c.bring.new.store c.args.need.now c.args.id.key c.requires.among c.bring.ensures.none

pub returns-in-NoRoom-clause-only : goal.returns-in-NoRoom-clause-only
returns-in-NoRoom-clause-only g c = only_by c.args.store.now c.bring.new.store c.args.need.now c.args.id.key c.requires.among c.bring.ensures.none

pub returns-in-NoRoom-clause-never : goal.returns-in-NoRoom-clause-never
returns-in-NoRoom-clause-never g c = λ e.
    (let w = wanted_needed c.args.store.now c.args.need.now c.args.id.key c.requires.among in
    let n = rw c.ids.ensures at (c.bring.ensures.no_room c.in-NoRoom.is) in
    omega (arith, w, n, c.requires.fits))

pub returns-in-Here-clause-leave : goal.returns-in-Here-clause-leave
returns-in-Here-clause-leave g c = λ r. leave_here c.args.store.now c.bring.new.store c.args.id.key (c.bring.ensures.here c.in-Here.is) c.bring.ensures.leave

pub returns-in-Here-clause-asks : goal.returns-in-Here-clause-asks
returns-in-Here-clause-asks g c = λ n. asks_behind _ _ _ _ _ _ _ _ refl refl (λ r. c.in-Here.is) (c.bring.ensures.asks n)

pub returns-in-SwapFull-clause-asks : goal.returns-in-SwapFull-clause-asks
returns-in-SwapFull-clause-asks g c = λ n. asks_behind _ _ _ _ _ _ _ _ refl refl (λ r. absurd cc) (c.bring.ensures.asks n)

pub returns-in-SwapFault-clause-asks : goal.returns-in-SwapFault-clause-asks
returns-in-SwapFault-clause-asks g c = λ n. asks_behind _ _ _ _ _ _ _ _ refl refl (λ r. absurd cc) (c.bring.ensures.asks n)

pub returns-in-NoRoom-clause-asks : goal.returns-in-NoRoom-clause-asks
returns-in-NoRoom-clause-asks g c = λ n. asks_behind _ _ _ _ _ _ _ _ refl refl (λ r. absurd cc) (c.bring.ensures.asks n)
