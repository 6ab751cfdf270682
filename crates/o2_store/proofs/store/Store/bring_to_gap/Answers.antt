use Rattle.std.proofs.Common.{ℕ, sym, subst}
use Rattle.o2_entries.specs.Tables.{slot_at}
use Rattle.o2_place.specs.Layout.{IsFree}
use Rattle.o2_store.proofs.Tables.{within_at}
use Rattle.o2_store.proofs.Choosing.{live_slot}
use Rattle.o2_store.proofs.store.Store.bring_to_gap.Goals as goal

pub rounded_size-len-requires : goal.rounded_size-len-requires
rounded_size-len-requires g c = record { live = live_slot c.args.id.age (slot_at c.args.self.now.entries c.args.id.key) c.requires.live }

pub come_in-requires-clause-key : goal.come_in-requires-clause-key
come_in-requires-clause-key g c = within_at c.args.self.now.entries c.args.id.key (live_slot c.args.id.age (slot_at c.args.self.now.entries c.args.id.key) c.requires.live)

pub come_in-requires-clause-live : goal.come_in-requires-clause-live
come_in-requires-clause-live g c = live_slot c.args.id.age (slot_at c.args.self.now.entries c.args.id.key) c.requires.live

pub returns-clause-alone : goal.returns-clause-alone
returns-clause-alone g c =
    c.come_in.ensures.alone c.requires.gap.0 (subst (λ (x : ℕ). IsFree c.args.self.now.places.size c.args.self.now.places.ranges c.requires.gap.0 x) (sym c.rounded_size-len.ensures.value) c.requires.gap.1)
