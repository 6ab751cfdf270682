-- A call whose changes are made and whose value is written is seen in the world.
use Rattle.std.proofs.Common.{◌≡◌, ℕ, ◌==◌, Bool, true, false, cond, if◌then◌else◌, List, Option, Some, is_some, option_map, ap, refl, sym, ◌∙◌, arith}
use Rattle.std.proofs.lemmas.Bool.{false≢true, eq-eqb}
use Rattle.o2_conf.specs.Dispatch.{Dispatch}
use Rattle.o2_isa.specs.View.{Hold}
use Rattle.o2_regions.specs.Maps.{Maps}
use Rattle.o2_segbus.specs.Bus.{AreInside}
use Rattle.o2_segbus.specs.Frames.{KeepsMaps, KeepsStore}
use Rattle.o2_segbus.specs.Seen.{bytes_in as bytes_there, hold_in, present_in}
use Rattle.o2_store.specs.Shelf.{Shelf}
use Rattle.o2_world.specs.declared.types.State.TheVariants.{Live}
use Rattle.o2_world.specs.Bare.{bare}
use Rattle.o2_world.specs.Calls.{Before, Effect}
use Rattle.o2_world.specs.Changes.{with_all}
use Rattle.o2_world.specs.Holders.{process_at, with_process}
use Rattle.o2_world.specs.Map.{get}
use Rattle.o2_world.specs.Run.{before, changed, worked, working}
use Rattle.o2_world.specs.Rulings.{Ruling}
use Rattle.o2_world.specs.Slots.{Pointer, parts_in, put_all}
use Rattle.o2_world.specs.Views.{bytes_in, holds_in}
use Rattle.o2_world.specs.World.{Process, Setting, World}
use Rattle.o2_world.proofs.BareChanges.{same_all, worked_bare}
use Rattle.o2_gate.specs.declared.arguments.Arguments.{Arguments}
use Rattle.o2_gate.specs.Targets.{slots_of}
use Rattle.o2_stands.specs.Moves.{stepped_to, with_running}
use Rattle.o2_stands.specs.Parts.{Parts, Running, running_of}
use Rattle.o2_stands.specs.Stands.{IsReady, Matches}
use Rattle.o2_stands.proofs.Alike.{written_matches}
use Rattle.o2_stands.proofs.Worlds.{put_here, put_other}
use Rattle.o2_calls.specs.Acts.{ruling_of}
use Rattle.o2_calls.specs.Seen.{Gives, written_in}
use Rattle.o2_calls.specs.Tellings.{replied_by}
use Rattle.o2_calls.proofs.Behind.{all_bytes, behind_bytes, behind_runs, live_same, own_bytes, put_all_same, put_bytes, valued}
use Rattle.o2_calls.proofs.Shapes.{calls_go_on, valued_gives}

module _ (s : Setting) (w : World) (d : Dispatch) (x : Process) (a : Arguments) (next : ℕ) (at : process_at w.processes d.current ≡ Some x) where
  abbrev b : Before
  b = before s w d.current x

  abbrev r : Ruling
  r = ruling_of a.request b.known d.current x.cpu

  abbrev e : Effect
  e = replied_by a b next

  abbrev u : World
  u = with_all w r.changes

  abbrev v : World
  v = with_all (worked w d x e) r.changes

  same_bare : bare u ≡ bare v
  same_bare = same_all w (worked w d x e) r.changes (sym (worked_bare w d x e at))

  module _ (q : Parts) (matches : Matches q u) (t : Shelf) (m : Maps)
      (gives : Gives w u d.current x a r q t) where
    abbrev now : ℕ → Option Hold
    now = hold_in q.maps d.current

    abbrev ps : List Pointer
    ps = written_in a

    abbrev parts : List (List ℕ)
    parts = parts_in (slots_of a) r.value

    by_point : (f g : ℕ → List ℕ) (n : ℕ) → f n ≡ g n → (t : Bool) → cond t (put_all now ps parts f) f n ≡ cond t (put_all now ps parts g) g n
    by_point f g n e true = put_all_same now ps parts f g n e
    by_point f g n e false = e

    written_at : (n : ℕ) → is_some (get u.names n) ≡ true → bytes_in v.names n ≡ (if present_in t n then bytes_there t n else bytes_in u.names n)
    written_at n live =
        behind_bytes (worked w d x e) r.changes e.bytes (put_bytes w.names e.bytes) n (live_same u v same_bare n ∙ live)
        ∙ (valued (holds_in x.held) now w.next_name r.changes (bytes_in w.names) n r.error ps parts (valued_gives a b.known d.current x.cpu) gives.aimed
        ∙ (by_point (all_bytes w.next_name r.changes (bytes_in w.names)) (bytes_in u.names) n (sym (behind_bytes w r.changes (bytes_in w.names) (own_bytes w.names) n live)) (r.error == 0)
        ∙ sym (gives.bytes n live)))

    abbrev running : Running
    running = record { cpu = e.cpu; state = Live }

    runs_at : (n : ℕ) → option_map running_of (process_at v.processes n) ≡ (if n == d.current then Some running else option_map running_of (process_at u.processes n))
    runs_at n =
        behind_runs (worked w d x e) r.changes (calls_go_on a.request b.known d.current x.cpu) n
        ∙ go (n == d.current) refl
        ∙ ap (λ (o : Option Running). if n == d.current then Some running else o) (sym (behind_runs w r.changes (calls_go_on a.request b.known d.current x.cpu) n))
      where
        number_is : (i k : ℕ) → (i == k) ≡ true → i ≡ k
        number_is i k f = grind arith

        go : (c : Bool) → (n == d.current) ≡ c
            → option_map running_of (process_at (with_process w.processes d.current (working x e)) n) ≡ cond c (Some running) (option_map running_of (process_at w.processes n))
        go true f = ap (λ (k : ℕ). option_map running_of (process_at (with_process w.processes d.current (working x e)) k)) (number_is n d.current f) ∙ ap (option_map running_of) (put_here w.processes d.current x (working x e) at)
        go false f = ap (option_map running_of) (put_other w.processes d.current x (working x e) at n (λ same. false≢true (sym f ∙ eq-eqb n d.current same)))

    pub call_seen : KeepsStore q.shelf t → KeepsMaps q.maps m → AreInside t → IsReady (stepped_to q t m)
        → Matches (with_running (stepped_to q t m) d.current running) (changed w d x e)
    unfolding changed
    call_seen store maps inside ready =
        written_matches u v same_bare q t m d.current running store maps inside ready (record { each = written_at }) (record { each = runs_at }) matches
