use Rattle.std.proofs.Common.{◌≤◌, ◌&&◌, ◌∙◌, nat_le, Bool, ap, sym, subst, arith, ℕ, List, length}
use Rattle.o2_conf.specs.declared.process.Process.{Process}
use Rattle.o2_regions.specs.Lives.{lives}
use Rattle.o2_store.specs.Idle.{NoneTaken}
use Rattle.o2_store.specs.Shelf.{Shelf}
use Rattle.o2_world.specs.Starts.{all_started}
use Rattle.o2_load.specs.Loads.{starts_of}
use Rattle.o2_opening.proofs.Outcomes.{all_opened, blocks_are, memory_is, processes_are, segments_are}
use Rattle.o2_opening.proofs.Worlds.{opened_stands}
use Rattle.o2_opening.proofs.opening.open.Goals as goal

pub start_each-requires-clause-empty : goal.start_each-requires-clause-empty
start_each-requires-clause-empty c = c.in_ok-stored.ensures.prepared.empty

pub start_each-requires-clause-ready : goal.start_each-requires-clause-ready
start_each-requires-clause-ready c = c.in_ok-stored.ensures.prepared.ready

pub returns-clause-opens : goal.returns-clause-opens
returns-clause-opens c =
    let come = c.in_ok-progress.ensures.comes in
    let some : 1 ≤ c.in_ok-stored.stored.regions.processes = omega (arith, c.in_ok-stored.ensures.processes, c.requires.within.process.0) in (
      come.0,
      (
        ap (λ (n : ℕ). all_started n (starts_of c.args.linked.now 1 c.args.conf.now.process)) (sym c.in_ok-stored.ensures.segments)
            ∙ ap (λ (ps : List Process). all_started (length c.in_ok-stored.stored.store.entries) (starts_of c.args.linked.now 1 ps)) (sym c.as_slice-2.ensures) ∙ come.1.0,
        all_opened c.in_ok-stored.stored c.in_ok-progress.progress c.over_store.result c.args.linked.now c.args.conf.now c.args.device c.in_ok-stored.ensures.prepared c.in_ok-progress.ensures.setting
            c.over_store.ensures.store c.over_store.ensures.regions c.over_store.ensures.cpus c.over_store.ensures.starts c.in_ok-progress.ensures.whole c.over_store.ensures.kept some come.0 _ come.1.1,
      ),
    )

pub returns-clause-memory : goal.returns-clause-memory
returns-clause-memory c =
    memory_is c.in_ok-stored.stored c.in_ok-progress.progress c.over_store.result c.args.linked.now c.args.conf.now c.args.device c.in_ok-stored.ensures.prepared c.in_ok-progress.ensures.setting c.over_store.ensures.store
    c.over_store.ensures.regions c.in_ok-stored.ensures.memory

pub returns-clause-segments : goal.returns-clause-segments
returns-clause-segments c =
    segments_are c.in_ok-stored.stored c.in_ok-progress.progress c.over_store.result c.args.linked.now c.args.conf.now c.args.device c.in_ok-stored.ensures.prepared c.in_ok-progress.ensures.setting c.over_store.ensures.store
    c.over_store.ensures.regions c.in_ok-stored.ensures.segments

pub returns-clause-blocks : goal.returns-clause-blocks
returns-clause-blocks c =
    blocks_are c.in_ok-stored.stored c.in_ok-progress.progress c.over_store.result c.args.linked.now c.args.conf.now c.args.device c.in_ok-stored.ensures.prepared c.in_ok-progress.ensures.setting c.over_store.ensures.store
    c.over_store.ensures.regions c.in_ok-stored.ensures.blocks

pub returns-clause-processes : goal.returns-clause-processes
returns-clause-processes c =
    processes_are c.in_ok-stored.stored c.in_ok-progress.progress c.over_store.result c.args.linked.now c.args.conf.now c.args.device c.in_ok-stored.ensures.prepared c.in_ok-progress.ensures.setting c.over_store.ensures.store
    c.over_store.ensures.regions c.in_ok-stored.ensures.processes

pub returns-clause-stands : goal.returns-clause-stands
returns-clause-stands c = λ s input w set opens sound.
    let opened = returns-clause-opens c in
    opened_stands c.over_store.result c.args.linked.now opened.0 c.args.conf.now c.args.device opened.1.1 c.over_store.ensures.kept (returns-clause-memory c) (returns-clause-segments c) (returns-clause-blocks c)
    (λ n. ap (λ (xs : List Bool). lives xs n) c.over_store.ensures.ends ∙ c.in_ok-ends.ensures n ∙ ap (λ (ps : List Process). nat_le 1 n && nat_le n (length ps)) c.as_slice.ensures)
    (ap (λ v. length v.items) c.over_store.ensures.cpus ∙ c.in_ok-progress.ensures.count ∙ ap (λ (ps : List Process). length ps) c.as_slice-2.ensures) opened.1.0 s input w set opens sound

pub returns-clause-unused : goal.returns-clause-unused
returns-clause-unused c = subst (λ (s : Shelf). NoneTaken s.swap) (sym c.over_store.ensures.store) c.in_ok-progress.ensures.whole.stored.unused
