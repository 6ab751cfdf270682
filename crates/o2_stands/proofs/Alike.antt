-- A machine that matches a world matches one that is bare the same, with what a step wrote and with its registers.
use Rattle.std.proofs.Common.{◌≡◌, ℕ, ◌==◌, ◌||◌, Bool, List, Option, Some, None, is_some, if◌then◌else◌, refl, sym, ap, ◌∙◌, subst, option_map}
use Rattle.std.specs.List.{list_any}
use Rattle.o2_regions.specs.Maps.{Maps}
use Rattle.o2_segbus.specs.Bus.{AreInside}
use Rattle.o2_segbus.specs.Frames.{KeepsMaps, KeepsStore}
use Rattle.o2_segbus.specs.Seen.{key_of}
use Rattle.o2_store.specs.Shelf.{Shelf}
use Rattle.o2_world.specs.Map.{Map, get}
use Rattle.o2_world.specs.World.{Held, Process, Reserve, Segment, World}
use Rattle.o2_world.specs.Holders.{process_at}
use Rattle.o2_world.specs.Known.{held_at, holds_index, reserves}
use Rattle.o2_world.specs.Sound.{held_of}
use Rattle.o2_world.specs.Views.{bytes_in, segment_bytes, with_bytes}
use Rattle.o2_world.specs.Bare.{Bare, bare, held_maps}
use Rattle.o2_world.proofs.BareChanges.{any_map, map_at, map_of, stripped}
use Rattle.o2_world.proofs.MapLemmas.{get-map}
use Rattle.o2_stands.specs.Parts.{Parts, Running}
use Rattle.o2_stands.specs.Stands.{IsNamed, IsReady, Matches, number_of, taken_by}
use Rattle.o2_stands.specs.Moves.{AreWritten, RunsAs, stepped_to, with_running}
use Rattle.o2_stands.proofs.Moves.{in_same, index_same, step_same, taken_same, written_at}
use Rattle.o2_stands.proofs.Running.{running_named, running_ready}

-- what is held by a map, or by none
abbrev held_by : Option (Map Held) → ℕ → Option Held
held_by None i = None
held_by (Some m) i = get m i

held_map : (o : Option Process) (i : ℕ) → held_of o i ≡ held_by (option_map (λ (p : Process). p.held) o) i
held_map None i = refl
held_map (Some p) i = refl

module _ (u v : World) (same : bare u ≡ bare v) where
  maps : held_maps u.processes ≡ held_maps v.processes
  maps = ap (λ (b : Bare). b.held) same

  held_same : (n i : ℕ) → held_at v.processes n i ≡ held_at u.processes n i
  held_same n i =
      held_map (process_at v.processes n) i
      ∙ (ap (λ (o : Option (Map Held)). held_by o i) (map_of v.processes n ∙ (ap (λ (ms : List (Map Held)). map_at ms n) (sym maps) ∙ sym (map_of u.processes n)))
      ∙ sym (held_map (process_at u.processes n) i))

  index_held : (i : ℕ) → holds_index v.processes i ≡ holds_index u.processes i
  index_held i =
      any_map (λ (m : Map Held). is_some (get m i)) v.processes
      ∙ (ap (list_any (λ (m : Map Held). is_some (get m i))) (sym maps)
      ∙ sym (any_map (λ (m : Map Held). is_some (get m i)) u.processes))

  taken_alike : (region i : ℕ) → taken_by v.processes v.reserved region i ≡ taken_by u.processes u.reserved region i
  taken_alike region i =
      ap (λ (b : Bool). (if region == 0 then b else is_some (held_at v.processes region i)) || list_any (reserves region i) v.reserved) (index_held i)
      ∙ (ap (λ (o : Option Held). (if region == 0 then holds_index u.processes i else is_some o) || list_any (reserves region i) v.reserved) (held_same region i)
      ∙ ap (λ (rs : List Reserve). (if region == 0 then holds_index u.processes i else is_some (held_at u.processes region i)) || list_any (reserves region i) rs) (sym (ap (λ (b : Bare). b.reserved) same)))

  -- a name has the marks that it has there, with its own bytes
  segment_same : (a b : Option Segment) → option_map stripped a ≡ option_map stripped b → option_map (λ (s : Segment). record s { bytes = segment_bytes b }) a ≡ b
  segment_same None None e = refl
  segment_same None (Some t) e = absurd (let z : None ≡ Some (stripped t) = e in cc)
  segment_same (Some s) None e = absurd (let z : Some (stripped s) ≡ None = e in cc)
  segment_same (Some s) (Some t) e = ap (λ (x : Option Segment). option_map (λ (y : Segment). record y { bytes = t.bytes }) x) e

  name_same : (n : ℕ) → get (with_bytes u.names (bytes_in v.names)) n ≡ get v.names n
  name_same n =
      get-map (λ (k : ℕ) (s : Segment). record s { bytes = bytes_in v.names k }) u.names n
      ∙ segment_same (get u.names n) (get v.names n)
      (sym (get-map (λ (k : ℕ) (s : Segment). stripped s) u.names n)
      ∙ (ap (λ (b : Bare). get b.names n) same ∙ get-map (λ (k : ℕ) (s : Segment). stripped s) v.names n))

  module _ (p : Parts) (t : Shelf) (m : Maps) (number : ℕ) (r : Running) (f : KeepsStore p.shelf t) (g : KeepsMaps p.maps m) (inside : AreInside t) (ready : IsReady (stepped_to p t m))
      (written : AreWritten u.names t (bytes_in v.names)) (runs : RunsAs u v number r) (matches : Matches p u) where
    pub written_matches : Matches (with_running (stepped_to p t m) number r) v
    written_matches =
        let w = step_same p t m f g in
        record {
          ready = running_ready (stepped_to p t m) number r ready;
          segments = λ n. running_named (stepped_to p t m) number r _ _ (subst (λ (o : Option Segment). IsNamed (stepped_to p t m) (key_of t n) o) (name_same n) (written_at p t m f g inside u.names (bytes_in v.names) matches.segments written n));
          made = sym (ap (λ (b : Bare). b.next) same) ∙ (matches.made ∙ sym w.made);
          processes = λ n. runs.each n ∙ ap (λ (o : Option Running). if n == number then Some r else o) (matches.processes n);
          held = λ n i. held_same n i ∙ (matches.held n i ∙ sym (in_same p.maps m n i w.holds (w.rights n i)));
          taken = λ g i x. taken_alike (number_of g) i ∙ (matches.taken g i (index_same p.maps m g i w.processes x) ∙ sym (taken_same p.maps m g i w.processes w.holds w.reserved));
        }
