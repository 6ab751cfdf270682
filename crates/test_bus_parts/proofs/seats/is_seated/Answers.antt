use Rattle.std.proofs.Common.{◌≡◌, is_some, true}
use Rattle.o2_store.specs.Shelf.{base_of, entry_of, place_of}
use Rattle.test_bus_parts.proofs.Seating.{seat_none, seat_some}
use Rattle.test_bus_parts.proofs.seats.is_seated.Goals as goal

pub returns-in-Some : goal.returns-in-Some
returns-in-Some c = λ e.
    let s = c.args.store.now in
    let id = c.in-Some.id in
    let f : is_some (base_of (entry_of s id) (place_of s id.key)) ≡ true = cc in
    seat_some s c.args.regions.now c.args.sel id c.requires.named c.in-Some.ensures f

pub returns-in-None : goal.returns-in-None
returns-in-None c = λ e. seat_none c.args.store.now c.args.regions.now c.args.sel c.in-None.ensures
