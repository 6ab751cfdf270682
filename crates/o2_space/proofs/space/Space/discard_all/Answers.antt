use Rattle.std.proofs.Common.{◌∙◌, ap, arith, [], refl, sym}
use Rattle.o2_regions.specs.Maps.{Maps}
use Rattle.o2_shared.proofs.Staying.{stay_in_place}
use Rattle.o2_stands.proofs.Matching.{matched_by, stood_by}
use Rattle.o2_store.specs.Pictures.{picture}
use Rattle.o2_world.specs.Run.{with_word}
use Rattle.o2_space.specs.Parts.{parts_in, running_at}
use Rattle.o2_space.proofs.Making.{ready_called}
use Rattle.o2_space.proofs.SharedKept.{few_as}
use Rattle.o2_space.proofs.Spelling.{spelled_as, spelled_to}
use Rattle.o2_space.proofs.Wording.{ages_live, tidy_discarded}
use Rattle.o2_space.proofs.space.Space.discard_all.Goals as goal

pub discard_each-requires-clause-order : goal.discard_each-requires-clause-order
discard_each-requires-clause-order c =
    let ready = c.requires.together.ready (λ k. []) in
    record { held = ready.held; settled = ready.settled; tables = c.requires.together.whole }

pub returns-clause-stands : goal.returns-clause-stands
returns-clause-stands c = λ device block w stands.
    (let p = parts_in c.args.self.now device block in
    stood_by (record p { shelf = c.discard_each.new.store; maps = c.discard_each.new.regions }) w.processes (with_word w).names w.next_name w.reserved
    (c.discard_each.ensures.matches p w refl refl (ap running_at (sym c.deref.ensures.value)) (matched_by p w.processes w.names w.next_name w.reserved stands))
    (tidy_discarded w.processes w.names w.reserved stands.tidy))

pub returns-clause-spells : goal.returns-clause-spells
returns-clause-spells c = λ w was.
    (let m = c.args.self.now in
    let t = c.discard_each.new.store in
    spelled_to t m.names w (with_word w) refl (spelled_as m.store t (λ id. ages_live m.store t c.discard_each.ensures.ages id) m.names w was))

pub returns-clause-together : goal.returns-clause-together
returns-clause-together c = λ device together.
    let m = c.args.self.now in
    let t = c.discard_each.new.store in
    let n = c.discard_each.new.regions in
    let e = c.discard_each.ensures in
    record {
      ready = λ block.
          ready_called m.store t m.regions n m.images device block block (running_at m.procs.items) (together.ready block)
          e.goes_on.order e.goes_on.guards (e.goes_on.clean (picture m.images) (together.ready block).clean)
          (e.goes_on.pictures m.images (together.ready block).pictures) e.goes_on.map device refl;
      numbers = together.numbers ∙ sym (ap (λ (x : Maps). x.processes) e.maps.rest);
      marked = together.marked;
      whole = e.goes_on.order.tables;
      one = e.limits.shares.one together.one;
      places = stay_in_place m.store t m.regions n m.names together.places e.limits.shares e.limits.grows;
    }

pub returns-clause-keeps : goal.returns-clause-keeps
returns-clause-keeps c = (let e = c.discard_each.ensures in
    record {
      memory = e.limits.size;
      segments = e.limits.count;
      blocks = e.goes_on.map;
      count = refl;
      processes = ap (λ (x : Maps). x.processes) e.maps.rest;
      avail = refl;
      images = refl;
    })

pub returns-clause-adds : goal.returns-clause-adds
returns-clause-adds c =
    let e = c.discard_each.ensures in
    record {
      made = (let most = e.limits.made in let least = e.limits.grows in omega (arith, most, least));
      held = few_as c.args.self.now.regions c.discard_each.new.regions (ap (λ (x : Maps). x.held) e.maps.rest);
    }

pub returns-clause-behind : goal.returns-clause-behind
returns-clause-behind c = record { lived = c.discard_each.ensures.limits.shares.lived }
