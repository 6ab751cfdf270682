-- The names of shared segments that are kept behind a step are those of the world's texts: behind a call on segments, with
-- exception 1 behind it or without, and behind a step that changes nothing but bytes.
use Rattle.std.proofs.Common.{◌≡◌, ℕ, true, List, [], ◌∷◌, ◌++◌, Option, Some, sym, refl, subst}
use Rattle.o2_conf.specs.Dispatch.{Dispatch}
use Rattle.o2_isa.specs.declared.cpu.Cpu.{Cpu}
use Rattle.o2_regions.specs.declared.answer.Answer.{Answer}
use Rattle.o2_regions.specs.Maps.{Maps}
use Rattle.o2_segbus.specs.Guards.{AreAged}
use Rattle.o2_store.specs.Shelf.{Shelf}
use Rattle.o2_world.specs.declared.types.State.TheVariants.{Live, Trapped}
use Rattle.o2_world.specs.Calls.{Before, Effect}
use Rattle.o2_world.specs.Changes.{with_all}
use Rattle.o2_world.specs.Effect.{effect, single_stepped}
use Rattle.o2_world.specs.Holders.{process_at}
use Rattle.o2_world.specs.Known.{known_of}
use Rattle.o2_world.specs.Run.{before, changed, next_dispatch}
use Rattle.o2_world.specs.Tied.{IsSound}
use Rattle.o2_world.specs.World.{Process, Setting, Traps, World, is_live}
use Rattle.o2_world.proofs.Flags.{live_is}
use Rattle.o2_world.proofs.StepSound.{IsOrderly, effect_orderly}
use Rattle.o2_gate.specs.declared.arguments.Arguments.{Arguments}
use Rattle.o2_stands.specs.Moves.{with_running}
use Rattle.o2_stands.specs.Parts.{Parts}
use Rattle.o2_stands.specs.Stands.{IsTidy, Matches}
use Rattle.o2_stands.proofs.TidySteps.{acted_tidy}
use Rattle.o2_shared.specs.declared.names.Name.{Name}
use Rattle.o2_shared.specs.Texts.{AreInPlace, IsBehind}
use Rattle.o2_calls.specs.Acts.{ruling_of}
use Rattle.o2_calls.specs.SharedActs.{AreSpelled, LeavesSpelled}
use Rattle.o2_calls.specs.Tellings.{replied_by}
use Rattle.o2_space.specs.Calls.{IsCalled}
use Rattle.o2_space.proofs.Afters.{orderly_before, trapped_texts}
use Rattle.o2_space.proofs.Spelling.{NameNothing, by_name, spelled_by, spelled_died, spelled_next, spelled_to, spelled_turn, texts_changed}

-- what is kept before the step, in a store to which it is behind
record IsKept (t : Shelf) (m : Maps) (names : List (Option Name)) (w : World) (u : Shelf) : Type 0 where
  pub aged : AreAged t
  pub places : AreInPlace t m names
  pub behind : IsBehind t u
  pub spelled : AreSpelled t names w

-- with exception 1 behind it
abbrev trapped_by : Before → Effect → Effect
trapped_by b e = record e { state = Trapped 1; lines = e.lines ++ Traps b.number 1 b.cpu.cs b.cpu.ip ∷ [] }

module _ (s : Setting) (w : World) (x : Process) (live : is_live x.state ≡ true) (sound : IsSound w) (tidy : IsTidy w.processes w.names w.reserved) where
  abbrev d : Dispatch
  d = next_dispatch s w

  -- A step that changes nothing but bytes.

  abbrev SpellsPlain : Parts → List (Option Name) → (pid : ℕ) → Type 0
  SpellsPlain p names pid =
      let e = effect (before s w pid x) in
      process_at w.processes pid ≡ Some x → e.changes ≡ [] → ((k : Dispatch) → k.current ≡ pid → Matches p (changed w k x e)) → (k : Dispatch) → k.current ≡ pid → AreSpelled p.shelf names (changed w k x e)

  plain_now : (t : Shelf) (m : Maps) (names : List (Option Name)) (p : Parts) → IsKept t m names w p.shelf → SpellsPlain p names d.current
  plain_now t m names p kept at quiet matches k current =
      let e = effect (before s w d.current x) in
      spelled_turn p.shelf names w k d x e current at
      (spelled_next s w x at (live_is x.state live) sound e (effect_orderly (before s w d.current x)) tidy t m names p kept.aged kept.places kept.behind kept.spelled (subst NameNothing (sym quiet) tt) (matches d refl))

  pub plain_spelled : (t : Shelf) (m : Maps) (names : List (Option Name)) (p : Parts) → AreAged t → AreInPlace t m names → IsBehind t p.shelf → AreSpelled t names w → (pid : ℕ) → d.current ≡ pid → SpellsPlain p names pid
  plain_spelled t m names p aged places behind spelled pid chosen = subst (SpellsPlain p names) chosen (plain_now t m names p (record { aged = aged; places = places; behind = behind; spelled = spelled }))

  -- A call.

  module _ (a : Arguments) (next : ℕ) where
    abbrev SpellsCalled : Cpu → Parts → Answer → (old new : List (Option Name)) → (pid : ℕ) → Type 0
    SpellsCalled cpu p answer old new pid =
        let b = before s w pid x in
        let e = replied_by a b next in
        process_at w.processes pid ≡ Some x → IsOrderly b (single_stepped b e) → IsCalled s w pid x a next cpu p answer
        → LeavesSpelled a.request p.shelf old new (with_all w (ruling_of a.request (known_of s w) pid x.cpu).changes)
        → (k : Dispatch) → k.current ≡ pid → AreSpelled p.shelf new (changed w k x e)

    called_now : (t : Shelf) (m : Maps) (cpu : Cpu) (p : Parts) (answer : Answer) (old new : List (Option Name)) → IsKept t m old w p.shelf → SpellsCalled cpu p answer old new d.current
    called_now t m cpu p answer old new kept at orderly called leaves k current =
        let b = before s w d.current x in
        let e = replied_by a b next in
        let q : Parts = with_running p d.current (record { cpu = cpu; state = Live }) in
        spelled_turn p.shelf new w k d x e current at
        (by_name (known_of s w) d.current (AreSpelled p.shelf new (changed w d x e)) a.request x.cpu p.shelf old new (with_all w (ruling_of a.request (known_of s w) d.current x.cpu).changes) leaves
        (λ same none.
        spelled_by p.shelf old new (changed w d x e) same
        (spelled_next s w x at (live_is x.state live) sound e (orderly_before b e orderly) tidy t m old q kept.aged kept.places kept.behind kept.spelled none (called.matches d refl)))
        (λ shared. spelled_to p.shelf new (with_all w (ruling_of a.request (known_of s w) d.current x.cpu).changes) (changed w d x e) (texts_changed w d x e at) shared))

    pub called_spelled : (t : Shelf) (m : Maps) (cpu : Cpu) (p : Parts) (answer : Answer) (old new : List (Option Name)) → AreAged t → AreInPlace t m old → IsBehind t p.shelf → AreSpelled t old w
        → (pid : ℕ) → d.current ≡ pid → SpellsCalled cpu p answer old new pid
    called_spelled t m cpu p answer old new aged places behind spelled pid chosen =
        subst (SpellsCalled cpu p answer old new) chosen (called_now t m cpu p answer old new (record { aged = aged; places = places; behind = behind; spelled = spelled }))

    -- with exception 1 behind it, from the world that the call leaves

    abbrev SpellsTrapped : (t : Shelf) → Parts → List (Option Name) → (pid : ℕ) → Type 0
    SpellsTrapped t z names pid =
        let b = before s w pid x in
        let e = replied_by a b next in
        process_at w.processes pid ≡ Some x → IsOrderly b (single_stepped b e) → ((k : Dispatch) → k.current ≡ pid → AreSpelled t names (changed w k x e))
        → ((k : Dispatch) → k.current ≡ pid → Matches z (changed w k x (trapped_by b e))) → (k : Dispatch) → k.current ≡ pid → AreSpelled z.shelf names (changed w k x (trapped_by b e))

    trapped_now : (t : Shelf) (m : Maps) (names : List (Option Name)) (z : Parts) → AreAged t → AreInPlace t m names → IsBehind t z.shelf → SpellsTrapped t z names d.current
    trapped_now t m names z aged places behind at orderly spelled matches k current =
        let b = before s w d.current x in
        let e = replied_by a b next in
        let o = orderly_before b e orderly in
        let now = live_is x.state live in
        spelled_turn z.shelf names w k d x (trapped_by b e) current at
        (spelled_died t m names z (changed w d x e) (changed w d x (trapped_by b e)) aged places behind (spelled d refl)
        (acted_tidy s w x at now sound (trapped_by b e) (record { ruled = o.ruled; sizes = o.sizes; moves = o.moves; still = o.still }) tidy) (matches d refl)
        (trapped_texts z w d x e (trapped_by b e).lines now refl))

    pub trapped_spelled : (t : Shelf) (m : Maps) (names : List (Option Name)) (z : Parts) → AreAged t → AreInPlace t m names → IsBehind t z.shelf → (pid : ℕ) → d.current ≡ pid → SpellsTrapped t z names pid
    trapped_spelled t m names z aged places behind pid chosen = subst (SpellsTrapped t z names) chosen (trapped_now t m names z aged places behind)
