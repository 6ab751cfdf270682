-- The bytes of a segment behind a step that changes nothing but bytes.
use Rattle.std.proofs.Common.{◌≡◌, ℕ, Bool, true, false, List, [], ◌∷◌, ◌++◌, Option, Some, None, if◌then◌else◌, refl, sym, ap, ◌∙◌}
use Rattle.std.specs.Prelude.{is_some, option_map}
use Rattle.std.specs.List.{list_any}
use Rattle.o2_conf.specs.Dispatch.{Dispatch}
use Rattle.o2_world.specs.declared.types.State.{State}
use Rattle.o2_world.specs.Map.{Map, get}
use Rattle.o2_world.specs.World.{World, Process, Segment, is_live}
use Rattle.o2_world.specs.Holders.{is_held, kept}
use Rattle.o2_world.specs.Views.{bytes_in, segment_bytes, with_bytes}
use Rattle.o2_world.specs.Changes.{Change, Finishes, swept, takes, with_changes}
use Rattle.o2_world.specs.CallParts.{Effect}
use Rattle.o2_world.specs.Run.{all_changes, changed, worked}
use Rattle.o2_world.proofs.MapLemmas.{get-filter, get-map}
use Rattle.o2_world.proofs.StepReach.{end_changes, live_changes}

-- a name that lives has its new bytes
new_bytes : (names : Map Segment) (bytes : ℕ → List ℕ) (q : ℕ) → is_some (get (with_bytes names bytes) q) ≡ true → bytes_in (with_bytes names bytes) q ≡ bytes q
new_bytes names bytes q lives = ap segment_bytes found ∙ go (get names q) (ap is_some (sym found) ∙ lives)
  where
    found : get (with_bytes names bytes) q ≡ option_map (λ (s : Segment). record s { bytes = bytes q }) (get names q)
    found = get-map (λ (n : ℕ) (s : Segment). record s { bytes = bytes n }) names q

    go : (o : Option Segment) → is_some (option_map (λ (s : Segment). record s { bytes = bytes q }) o) ≡ true
        → segment_bytes (option_map (λ (s : Segment). record s { bytes = bytes q }) o) ≡ bytes q
    go None e = absurd (cc)
    go (Some s) e = refl

-- a name that is still there when those that nobody holds have gone
still_there : (ps : List Process) (names : Map Segment) (q : ℕ) → is_some (get (kept ps names) q) ≡ true → get (kept ps names) q ≡ get names q
still_there ps names q lives = found ∙ go (is_held ps q) (ap is_some (sym found) ∙ lives)
  where
    found : get (kept ps names) q ≡ (if is_held ps q then get names q else None)
    found = get-filter (λ (n : ℕ). is_held ps n) names q

    go : (t : Bool) → is_some (if t then get names q else None) ≡ true → (if t then get names q else None) ≡ get names q
    go true e = refl
    go false e = absurd (cc)

swept_bytes : (t : Bool) (u : World) (names : Map Segment) (bytes : ℕ → List ℕ) (q : ℕ) → u.names ≡ with_bytes names bytes
    → is_some (get (if t then swept u else u).names q) ≡ true → bytes_in (if t then swept u else u).names q ≡ bytes q
swept_bytes true u names bytes q are lives =
    let there = still_there u.processes u.names q lives in
    ap segment_bytes there
    ∙ ap (λ (m : Map Segment). bytes_in m q) are
    ∙ new_bytes names bytes q (ap (λ (m : Map Segment). is_some (get m q)) (sym are) ∙ ap is_some (sym there) ∙ lives)
swept_bytes false u names bytes q are lives =
    ap (λ (m : Map Segment). bytes_in m q) are ∙ new_bytes names bytes q (ap (λ (m : Map Segment). is_some (get m q)) (sym are) ∙ lives)

-- the names behind no change, and behind an end
none_changed : (v : World) → (with_changes v []).names ≡ v.names
unfolding with_changes
none_changed v = refl

end_changed : (v : World) (n : ℕ) (state : State) → (with_changes v ([] ++ Finishes n state ∷ [])).names ≡ v.names
unfolding with_changes
end_changed v n state = refl

names_are : (w : World) (d : Dispatch) (p : Process) (e : Effect) → e.changes ≡ [] → (with_changes (worked w d p e) (all_changes d.current e)).names ≡ with_bytes w.names e.bytes
names_are w d p e none = go (is_live e.state) refl
  where
    go : (t : Bool) → is_live e.state ≡ t → (with_changes (worked w d p e) (all_changes d.current e)).names ≡ with_bytes w.names e.bytes
    go true is = ap (λ (cs : List Change). (with_changes (worked w d p e) cs).names) (live_changes d.current e is ∙ none) ∙ none_changed (worked w d p e)
    go false is =
        ap (λ (cs : List Change). (with_changes (worked w d p e) cs).names) (end_changes d.current e is ∙ ap (λ (cs : List Change). cs ++ Finishes d.current e.state ∷ []) none)
        ∙ end_changed (worked w d p e) d.current e.state

pub bytes_behind : (w : World) (d : Dispatch) (p : Process) (e : Effect) (q : ℕ) → e.changes ≡ []
    → is_some (get (changed w d p e).names q) ≡ true → bytes_in (changed w d p e).names q ≡ e.bytes q
unfolding changed
bytes_behind w d p e q none lives =
    swept_bytes (list_any takes (all_changes d.current e)) (with_changes (worked w d p e) (all_changes d.current e)) w.names e.bytes q (names_are w d p e none) lives
