-- What a call on segments leaves of a space, and what it asks for.
use Rattle.std.proofs.Common.{◌≡◌, ℕ, true, List, [], ◌++◌, Option, None, ap, sym, ◌∙◌, refl, subst, arith}
use Rattle.o2_image.specs.ImageList.{ImageList}
use Rattle.o2_isa.specs.declared.cpu.Cpu.{Cpu}
use Rattle.o2_place.specs.declared.seg_id.SegId.{SegId}
use Rattle.o2_regions.specs.Maps.{IsProcess, Maps}
use Rattle.o2_store.specs.Needs.{named_in}
use Rattle.o2_store.specs.Pictures.{HasPicture, picture}
use Rattle.o2_store.specs.Shelf.{AreClean, HasAll, Shelf}
use Rattle.o2_swapmap.specs.Piles.{all_of}
use Rattle.o2_segbus.specs.Frames.{KeepsClean, KeepsMaps, KeepsStore}
use Rattle.o2_segbus.specs.Settled.{IsSettled}
use Rattle.o2_segbus.proofs.Ages.{named_by_age}
use Rattle.o2_service.specs.Needs.{needs, segments_of}
use Rattle.o2_service.specs.Told.{IsHeldWell}
use Rattle.o2_service.proofs.Among.{named_needed}
use Rattle.o2_changes.specs.Order.{IsGuarded, IsInOrder}
use Rattle.o2_world.specs.Changes.{with_all, with_changes}
use Rattle.o2_world.specs.World.{World}
use Rattle.o2_gate.specs.declared.arguments.Arguments.{Arguments}
use Rattle.o2_stands.specs.Moves.{moved}
use Rattle.o2_stands.specs.Parts.{Parts, Running}
use Rattle.o2_stands.specs.Stands.{IsReady, Matches, Stands}
use Rattle.o2_stands.proofs.Matching.{stood_by}
use Rattle.o2_stepping.specs.Rooms.{aimed_in, seated_in}
use Rattle.o2_stepping.proofs.Bringing.{needs_both}
use Rattle.o2_stepping.proofs.Keeping.{ready_same, try_shape}
use Rattle.o2_stepping.proofs.Named.{or_back}
use Rattle.o2_stepping.proofs.Rounds.{live_more, live_seated}
use Rattle.o2_space.proofs.Aimed.{live_aimed}
use Rattle.o2_space.proofs.Alike.{made, ready_as}

-- What is behind the pointer is among what is kept in memory.

pub kept_named : (s : Shelf) (m : Maps) (pid : ℕ) (c : Cpu) (a : Arguments) (keep : List SegId) (need : List (SegId × ℕ)) → IsHeldWell s m → keep ≡ segments_of need → need ≡ seated_in m pid c ++ aimed_in m pid a
    → (k : ℕ) → needs (aimed_in m pid a) k ≡ true → named_in s.entries keep k ≡ true
kept_named s m pid c a keep need well is both k e =
    let seats = seated_in m pid c in
    let aimed = aimed_in m pid a in
    ap (λ (ids : List SegId). named_in s.entries ids k) (is ∙ ap segments_of both)
    ∙ named_needed s (seats ++ aimed) k (live_more s seats aimed (live_seated s m pid c well) (live_aimed s m pid a well)) (needs_both seats aimed k ∙ or_back (needs seats k) (needs aimed k) e)

-- A call that stops leaves the world.

none_changed : (w : World) → with_all w [] ≡ w
unfolding with_changes
none_changed w = refl

pub stays_at : (p : Parts) (w : World) (t : Shelf) (n : Maps) (block : ℕ → List ℕ) → Matches (moved p t n block) (with_all w []) → Stands p w → Stands (moved p t n block) w
stays_at p w t n block matches stands =
    stood_by (moved p t n block) w.processes w.names w.next_name w.reserved (subst (λ (v : World). Matches (moved p t n block) v) (none_changed w) matches) stands.tidy

-- the same over a device of as many blocks
pub on_device : (p : Parts) (device : ℕ) (P : Parts → Type 0) → device ≡ p.device → P p → P (record p { device = device })
on_device p device P same h = subst (λ (d : ℕ). P (record p { device = d })) (sym same) h

-- What the calls of the store, of the service and of the bus ask for.

module _ (s t : Shelf) (m n : Maps) (images : ImageList) (device : ℕ) (before after_call : ℕ → List ℕ) (r : ℕ → Option Running) (ready : IsReady (made s m images device before r)) where
  pub guards_of : IsGuarded s m
  guards_of = record { aged = ready.aged; guarded = ready.guarded }

  pub ready_called : IsInOrder t n → (IsGuarded s m → IsGuarded t n) → AreClean t (picture images) → HasAll (HasPicture images) t → all_of t.swap ≡ all_of s.swap → (d : ℕ) → d ≡ device
      → IsReady (made t n images d after_call r)
  ready_called order guards clean pictures map d same = record {
    aged = (guards guards_of).aged;
    named = named_by_age t n (guards guards_of).aged order.held.live;
    held = order.held;
    settled = order.settled;
    guarded = (guards guards_of).guarded;
    clean = clean;
    pictures = pictures;
    device = (let most = ready.device in omega (arith, most, map, same));
  }

-- and once the value is written
pub ready_given : (t u : Shelf) (n o : Maps) (images : ImageList) (device : ℕ) (block other : ℕ → List ℕ) (r : ℕ → Option Running) → IsReady (made t n images device block r) → KeepsStore t u → KeepsMaps n o → KeepsClean t n u
    → IsSettled u o → IsReady (made u o images device other r)
ready_given t u n o images device block other r ready store maps clean settled =
    ready_as u o images device other other (λ k. None) r
    (ready_same images t u n o device device block other (ready_as t n images device block block r (λ k. None) ready) (try_shape t u n o store maps) refl settled (clean.clean (picture images) ready.aged ready.guarded ready.clean))

pub process_called : (m n : Maps) (pid : ℕ) → n.processes ≡ m.processes → IsProcess m pid → IsProcess n pid
process_called m n pid same process = (process.0, (let l = process.1 in omega (arith, l, same)))
