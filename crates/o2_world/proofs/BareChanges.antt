-- What changes do goes by nothing that a bare world lacks.
use Rattle.std.proofs.Common.{◌≡◌, ℕ, zero, suc, ◌+◌, ◌-◌, ◌==◌, ◌&&◌, ◌||◌, not, Bool, true, false, cond, List, [], ◌∷◌, filter, Option, Some, None, if◌then◌else◌, ap, sym, ◌∙◌, refl, slice_set}
use Rattle.std.specs.Prelude.{slice_get, option_map}
use Rattle.std.specs.List.{list_any}
use Rattle.o2_conf.specs.Dispatch.{Dispatch}
use Rattle.o2_world.specs.Map.{Map, at_key, get, put}
use Rattle.o2_world.specs.World.{World, Process, Segment, Held, Reserve}
use Rattle.o2_world.specs.Holders.{holds_name, is_held, process_at, with_process}
use Rattle.o2_world.specs.Views.{with_bytes}
use Rattle.o2_world.specs.Changes.{marked, Change, Makes, Resizes, Locks, Marks, Holds, Drops, Finishes, Reserves, Frees, Names, at_number, at_place, fewer, holds_run, is_used, more, own_run_held, resized, swept, takes, told_of, used, with_all, with_change, with_changes}
use Rattle.o2_world.specs.CallParts.{Effect}
use Rattle.o2_world.specs.Run.{worked, working}
use Rattle.o2_world.specs.Bare.{Bare, bare, bare_names, held_maps}
use Rattle.o2_world.proofs.Numbers.{at_place_of, number_some, with_is}

abbrev pub stripped : Segment → Segment
stripped s = record s { bytes = [] }

-- Maps of segments.

bare_at_key : (n : ℕ) (f g : Segment → Segment) → ((s : Segment) → stripped (f s) ≡ g (stripped s)) → (names : Map Segment)
    → bare_names (at_key n f names) ≡ at_key n g (bare_names names)
bare_at_key n f g same [] = refl
bare_at_key n f g same (e ∷ es) =
    ap (λ (s : Segment). (e.0, s) ∷ bare_names (at_key n f es)) (go (e.0 == n))
    ∙ ap (λ (m : Map Segment). (e.0, if e.0 == n then g (stripped e.1) else stripped e.1) ∷ m) (bare_at_key n f g same es)
  where
    go : (b : Bool) → stripped (if b then f e.1 else e.1) ≡ (if b then g (stripped e.1) else stripped e.1)
    go true = same e.1
    go false = refl

bare_same_key : (n : ℕ) (f : Segment → Segment) → ((s : Segment) → stripped (f s) ≡ stripped s) → (names : Map Segment) → bare_names (at_key n f names) ≡ bare_names names
bare_same_key n f same [] = refl
bare_same_key n f same (e ∷ es) =
    ap (λ (s : Segment). (e.0, s) ∷ bare_names (at_key n f es)) (go (e.0 == n)) ∙ ap (λ (m : Map Segment). (e.0, stripped e.1) ∷ m) (bare_same_key n f same es)
  where
    go : (b : Bool) → stripped (if b then f e.1 else e.1) ≡ stripped e.1
    go true = same e.1
    go false = refl

bare_filter : (f : ℕ → Bool) (names : Map Segment) → bare_names (filter (λ (e : ℕ × Segment). f e.0) names) ≡ filter (λ (e : ℕ × Segment). f e.0) (bare_names names)
bare_filter f [] = refl
bare_filter f (e ∷ es) = go (f e.0) (bare_filter f es)
  where
    go : (b : Bool) → bare_names (filter (λ (x : ℕ × Segment). f x.0) es) ≡ filter (λ (x : ℕ × Segment). f x.0) (bare_names es)
        → bare_names (cond b (e ∷ filter (λ (x : ℕ × Segment). f x.0) es) (filter (λ (x : ℕ × Segment). f x.0) es))
        ≡ cond b ((e.0, stripped e.1) ∷ filter (λ (x : ℕ × Segment). f x.0) (bare_names es)) (filter (λ (x : ℕ × Segment). f x.0) (bare_names es))
    go true rest = ap (λ (m : Map Segment). (e.0, stripped e.1) ∷ m) rest
    go false rest = rest

-- Processes by what they hold.

maps_at_place : (k : ℕ) (f : Process → Process) (g : Map Held → Map Held) → ((p : Process) → (f p).held ≡ g p.held) → (ps : List Process)
    → held_maps (at_place k f ps) ≡ at_place k g (held_maps ps)
maps_at_place k f g same [] = refl
maps_at_place zero f g same (p ∷ ps) = ap (λ (m : Map Held). m ∷ held_maps ps) (same p)
maps_at_place (suc k) f g same (p ∷ ps) = ap (λ (ms : List (Map Held)). p.held ∷ ms) (maps_at_place k f g same ps)

abbrev at_map : ℕ → (Map Held → Map Held) → List (Map Held) → List (Map Held)
at_map n g ms = if n == 0 then ms else at_place (n - 1) g ms

maps_at_number : (n : ℕ) (f : Process → Process) (g : Map Held → Map Held) → ((p : Process) → (f p).held ≡ g p.held) → (ps : List Process)
    → held_maps (at_number n f ps) ≡ at_map n g (held_maps ps)
maps_at_number n f g same ps = go (n == 0)
  where
    go : (b : Bool) → held_maps (if b then ps else at_place (n - 1) f ps) ≡ (if b then held_maps ps else at_place (n - 1) g (held_maps ps))
    go true = refl
    go false = maps_at_place (n - 1) f g same ps

pub any_map : (t : Map Held → Bool) (ps : List Process) → list_any (λ (p : Process). t p.held) ps ≡ list_any t (held_maps ps)
any_map t [] = refl
any_map t (p ∷ ps) = ap (λ (b : Bool). t p.held || b) (any_map t ps)

abbrev own_holds : Option (Map Held) → ℕ → Bool
own_holds None first = false
own_holds (Some m) first = holds_run m first

own_map : (o : Option Process) (first : ℕ) → own_run_held o first ≡ own_holds (option_map (λ (p : Process). p.held) o) first
own_map None first = refl
own_map (Some p) first = refl

got_map : (ps : List Process) (k : ℕ) → option_map (λ (p : Process). p.held) (slice_get ps k) ≡ slice_get (held_maps ps) k
got_map [] k = refl
got_map (p ∷ ps) zero = refl
got_map (p ∷ ps) (suc k) = got_map ps k

abbrev pub map_at : List (Map Held) → ℕ → Option (Map Held)
map_at ms n = if n == 0 then None else slice_get ms (n - 1)

pub map_of : (ps : List Process) (n : ℕ) → option_map (λ (p : Process). p.held) (process_at ps n) ≡ map_at (held_maps ps) n
map_of ps n = go (n == 0)
  where
    go : (b : Bool) → option_map (λ (p : Process). p.held) (if b then None else slice_get ps (n - 1)) ≡ (if b then None else slice_get (held_maps ps) (n - 1))
    go true = refl
    go false = got_map ps (n - 1)

-- What nobody holds, by what is held.

abbrev held_among : List (Map Held) → ℕ → Bool
held_among ms name = list_any (λ (m : Map Held). holds_name m name) ms

abbrev run_among : List (Map Held) → ℕ → Bool
run_among ms first = list_any (λ (m : Map Held). holds_run m first) ms

abbrev used_among : List (Map Held) → Reserve → Bool
used_among ms r = if r.region == 0 then r.stays || run_among ms r.first else own_holds (map_at ms r.region) r.first

used_is : (ps : List Process) (r : Reserve) → is_used ps r ≡ used_among (held_maps ps) r
used_is ps r =
    ap (λ (b : Bool). if r.region == 0 then r.stays || b else own_run_held (process_at ps r.region) r.first) (any_map (λ (m : Map Held). holds_run m r.first) ps)
    ∙ ap (λ (b : Bool). if r.region == 0 then r.stays || run_among (held_maps ps) r.first else b) (own_map (process_at ps r.region) r.first ∙ ap (λ (o : Option (Map Held)). own_holds o r.first) (map_of ps r.region))

filter_same : {X : Type 0} (f g : X → Bool) → ((x : X) → f x ≡ g x) → (xs : List X) → filter f xs ≡ filter g xs
filter_same f g same [] = refl
filter_same {X} f g same (x ∷ xs) =
    ap (λ (b : Bool). cond b (x ∷ filter f xs) (filter f xs)) (same x) ∙ ap (λ (ys : List X). cond (g x) (x ∷ ys) ys) (filter_same f g same xs)

-- One change of a bare world.

abbrev bare_change : Bare → Change → Bare
bare_change w (Makes s) = record w { names = put w.next (Some (stripped s)) w.names; next = w.next + 1 }
bare_change w (Resizes n size) = w
bare_change w (Locks n count) = record w { names = at_key n (λ (s : Segment). record s { lock = count }) w.names }
bare_change w (Marks n d) = record w { names = at_key n (λ (s : Segment). record s { discarded = d }) w.names }
bare_change w (Holds p i h) = record w { held = at_map p (λ (m : Map Held). put i (more h (get m i)) m) w.held }
bare_change w (Drops p i count) = record w { held = at_map p (λ (m : Map Held). put i (fewer count (get m i)) m) w.held }
bare_change w (Finishes p state) = record w { held = at_map p (λ (m : Map Held). []) w.held }
bare_change w (Reserves r) = record w { reserved = r ∷ w.reserved }
bare_change w (Frees region first) = record w { reserved = filter (λ (r : Reserve). not ((r.region == region) && (r.first == first))) w.reserved }
bare_change w (Names text name) = record w { texts = (text, name) ∷ w.texts }

bare_marked : (d : Bool) (s : Segment) → stripped (marked d s) ≡ record (stripped s) { discarded = d }
bare_marked true s = refl
bare_marked false s = refl

one_bare : (w : World) (c : Change) → bare (with_change w c) ≡ bare_change (bare w) c
one_bare w (Makes s) = refl
one_bare w (Resizes n size) =
    ap (λ (names : Map Segment). record (bare w) { names = names }) (bare_same_key n (λ (s : Segment). record s { bytes = resized size s.bytes }) (λ s. refl) w.names)
one_bare w (Locks n count) =
    ap (λ (names : Map Segment). record (bare w) { names = names }) (bare_at_key n (λ (s : Segment). record s { lock = count }) (λ (s : Segment). record s { lock = count }) (λ s. refl) w.names)
one_bare w (Marks n d) =
    ap (λ (names : Map Segment). record (bare w) { names = names }) (bare_at_key n (marked d) (λ (s : Segment). record s { discarded = d }) (bare_marked d) w.names)
one_bare w (Holds p i h) =
    ap (λ (held : List (Map Held)). record (bare w) { held = held }) (maps_at_number p (λ (x : Process). record x { held = put i (more h (get x.held i)) x.held }) (λ (m : Map Held). put i (more h (get m i)) m) (λ x. refl) w.processes)
one_bare w (Drops p i count) =
    ap (λ (held : List (Map Held)). record (bare w) { held = held }) (maps_at_number p (λ (x : Process). record x { held = put i (fewer count (get x.held i)) x.held }) (λ (m : Map Held). put i (fewer count (get m i)) m) (λ x. refl) w.processes)
one_bare w (Finishes p state) =
    ap (λ (held : List (Map Held)). record (bare w) { held = held }) (maps_at_number p (λ (x : Process). record x { state = state; held = [] }) (λ (m : Map Held). []) (λ x. refl) w.processes)
one_bare w (Reserves r) = refl
one_bare w (Frees region first) = refl
one_bare w (Names text name) = refl

abbrev bare_swept : Bare → Bare
bare_swept w = record w {
  names = filter (λ (e : ℕ × Segment). held_among w.held e.0) w.names;
  reserved = filter (used_among w.held) w.reserved;
  texts = filter (λ (t : List ℕ × ℕ). held_among w.held t.1) w.texts;
}

swept_bare : (w : World) → bare (swept w) ≡ bare_swept (bare w)
swept_bare w =
    ap (λ (names : Map Segment). record (bare w) { names = names; reserved = used w.processes w.reserved; texts = told_of w.processes w.texts })
    (bare_filter (is_held w.processes) w.names ∙ filter_same (λ (e : ℕ × Segment). is_held w.processes e.0) (λ (e : ℕ × Segment). held_among ms e.0) (λ e. any_map (λ (m : Map Held). holds_name m e.0) w.processes) (bare_names w.names))
    ∙ (ap (λ (rs : List Reserve). record (bare w) { names = filter (λ (e : ℕ × Segment). held_among ms e.0) (bare_names w.names); reserved = rs; texts = told_of w.processes w.texts }) (filter_same (is_used w.processes) (used_among ms) (used_is w.processes) w.reserved)
    ∙ ap (λ (ts : List (List ℕ × ℕ)). record (bare w) {
      names = filter (λ (e : ℕ × Segment). held_among ms e.0) (bare_names w.names);
      reserved = filter (used_among ms) w.reserved;
      texts = ts;
    })
    (filter_same (λ (t : List ℕ × ℕ). is_held w.processes t.1) (λ (t : List ℕ × ℕ). held_among ms t.1)
    (λ t. any_map (λ (m : Map Held). holds_name m t.1) w.processes) w.texts))
  where
    ms : List (Map Held)
    ms = held_maps w.processes

-- Changes of two worlds that are bare the same.

same_changes : (u v : World) (cs : List Change) → bare u ≡ bare v → bare (with_changes u cs) ≡ bare (with_changes v cs)
unfolding with_changes
same_changes u v [] same = same
same_changes u v (c ∷ cs) same =
    same_changes (with_change u c) (with_change v c) cs (one_bare u c ∙ ap (λ (w : Bare). bare_change w c) same ∙ sym (one_bare v c))

pub same_all : (u v : World) (cs : List Change) → bare u ≡ bare v → bare (with_all u cs) ≡ bare (with_all v cs)
same_all u v cs same = go (list_any takes cs)
  where
    behind : bare (with_changes u cs) ≡ bare (with_changes v cs)
    behind = same_changes u v cs same

    go : (b : Bool) → bare (if b then swept (with_changes u cs) else with_changes u cs) ≡ bare (if b then swept (with_changes v cs) else with_changes v cs)
    go true = swept_bare (with_changes u cs) ∙ ap bare_swept behind ∙ sym (swept_bare (with_changes v cs))
    go false = behind

-- Bytes and registers are nothing of a bare world.

bare_bytes : (names : Map Segment) (bytes : ℕ → List ℕ) → bare_names (with_bytes names bytes) ≡ bare_names names
bare_bytes [] bytes = refl
bare_bytes (e ∷ es) bytes = ap (λ (m : Map Segment). (e.0, stripped e.1) ∷ m) (bare_bytes es bytes)

maps_set : (ps : List Process) (k : ℕ) (p q : Process) → slice_get ps k ≡ Some p → q.held ≡ p.held → held_maps (slice_set ps k q) ≡ held_maps ps
maps_set [] k p q at same = refl
maps_set (a ∷ ps) zero p q at same = ap (λ (m : Map Held). m ∷ held_maps ps) (same ∙ held_is a p at)
  where
    held_is : (a p : Process) → Some a ≡ Some p → p.held ≡ a.held
    held_is a p e = cc
maps_set (a ∷ ps) (suc k) p q at same = ap (λ (ms : List (Map Held)). a.held ∷ ms) (maps_set ps k p q at same)

pub worked_bare : (w : World) (d : Dispatch) (p : Process) (e : Effect) → process_at w.processes d.current ≡ Some p → bare (worked w d p e) ≡ bare w
worked_bare w d p e at =
    ap (λ (names : Map Segment). record { names = names; next = w.next_name; held = held_maps (with_process w.processes d.current (working p e)); reserved = w.reserved; texts = w.texts }) (bare_bytes w.names e.bytes)
    ∙ ap (λ (held : List (Map Held)). record (bare w) { held = held })
    (ap held_maps (with_is w.processes d.current (working p e) (number_some w.processes d.current p at)) ∙ maps_set w.processes (d.current - 1) p (working p e) (at_place_of w.processes d.current p at) refl)
