-- What a machine matches where its segments come, go and move.
use Rattle.std.proofs.Common.{◌≡◌, ℕ, ◌<◌, List, Option, Some, None, Bool, refl, sym, ap, ◌∙◌, subst, eqb}
use Rattle.std.specs.Prelude.{IsTrue}
use Rattle.o2_entries.specs.declared.Attr.{Attr}
use Rattle.o2_entries.specs.declared.Entry.{Entry}
use Rattle.o2_entries.specs.Tables.{slot_at}
use Rattle.o2_regions.specs.Maps.{Maps}
use Rattle.o2_segbus.specs.Seen.{key_of}
use Rattle.o2_service.specs.Told.{OnlyTables}
use Rattle.o2_store.specs.Needs.{has_age}
use Rattle.o2_store.specs.Pictures.{picture}
use Rattle.o2_store.specs.Shelf.{Shelf, AreClean, KeepsAll, SameEntry, entry}
use Rattle.o2_swapmap.specs.Piles.{all_of}
use Rattle.o2_world.specs.World.{Segment, World}
use Rattle.o2_world.specs.Map.{get}
use Rattle.o2_stands.specs.Parts.{Parts}
use Rattle.o2_stands.specs.Stands.{IsNamed, Matches}
use Rattle.o2_stands.specs.Moves.{moved}
use Rattle.o2_stands.proofs.Moves.{in_same, index_same, moved_ready, taken_same}
use Rattle.o2_changes.specs.Order.{IsInOrder}
use Rattle.o2_changes.proofs.Keys.{same_key}

has_same : (o u : Option Entry) (q : ℕ) → SameEntry o u → has_age u q ≡ has_age o q
has_same None None q e = refl
has_same None (Some y) q e = absurd (let l = e.live in cc)
has_same (Some x) None q e = absurd (let l = e.live in cc)
has_same (Some x) (Some y) q e = ap (λ (n : ℕ). eqb n q) e.age

module _ (p : Parts) (w : World) (t : Shelf) (m : Maps) (after : ℕ → List ℕ) (told : Bool) (tells : IsTrue told) (keeps : KeepsAll told (picture p.images) p.shelf p.block t after) (only : OnlyTables p.maps m) (stands : Matches p w) where
  named : (o : Option ℕ) (g : Option Segment) → IsNamed p o g → IsNamed (moved p t m after) o g
  named None None is = is
  named (Some k) None is = absurd is
  named None (Some s) is = absurd is
  named (Some k) (Some s) is =
      let e = keeps.tables.same k in
      record {
        size = is.size ∙ sym e.size;
        bytes = λ j low. (let l : j < (entry p.shelf k).size = subst (λ (n : ℕ). j < n) e.size low in is.bytes j l ∙ sym (keeps.bytes tells k j l));
        clean = is.clean ∙ ap (λ (a : Attr). a.clean) (sym e.attr);
        flags = is.flags ∙ ap (λ (a : Attr). a.flags) (sym e.attr);
        lock = is.lock ∙ ap (λ (a : Attr). a.lock) (sym e.attr);
        shared = is.shared ∙ ap (λ (a : Attr). a.shared) (sym e.attr);
        discarded = is.discarded ∙ ap (λ (a : Attr). a.gone) (sym e.attr);
      }

  keys : (q : ℕ) → key_of t q ≡ key_of p.shelf q
  keys q = same_key p.shelf t q keeps.tables.count (λ k. has_same (slot_at p.shelf.entries k) (slot_at t.entries k) q (keeps.tables.same k))

  pub moves_match : AreClean t (picture p.images) → IsInOrder t m → all_of t.swap ≡ all_of p.shelf.swap → Matches (moved p t m after) w
  moves_match clean order all = record {
    ready = moved_ready p t m after stands.ready keeps.tables only clean order.settled order.held all;
    segments = λ q. subst (λ (o : Option ℕ). IsNamed (moved p t m after) o (get w.names q)) (sym (keys q)) (named (key_of p.shelf q) (get w.names q) (stands.segments q));
    made = stands.made ∙ sym keeps.tables.made;
    processes = stands.processes;
    held = λ n i. stands.held n i ∙ sym (in_same p.maps m n i (ap (λ (x : Maps). x.held) only.rest) (only.rights n i));
    taken = λ g i x. stands.taken g i (index_same p.maps m g i (ap (λ (x : Maps). x.processes) only.rest) x) ∙ sym (taken_same p.maps m g i (ap (λ (x : Maps). x.processes) only.rest) (ap (λ (x : Maps). x.held) only.rest) (ap (λ (x : Maps). x.reserved) only.rest));
  }
