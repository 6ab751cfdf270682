-- What the frames of a step tell.
use Rattle.std.proofs.Common.{◌≡◌, sym, ◌∙◌, ap, subst, ℕ, true, List, arith}
use Rattle.std.specs.Prelude.{Option, option_map}
use Rattle.o2_desc.specs.Bits.{is_writable, rights_of, unmarked}
use Rattle.o2_regions.specs.declared.held.Held.{Held}
use Rattle.o2_regions.specs.Maps.{Maps, held_at}
use Rattle.o2_store.specs.Shelf.{Shelf, entry}
use Rattle.o2_segbus.specs.Settled.{descriptor_at}
use Rattle.o2_segbus.specs.Seen.{key_of, hold_in, hold_of, size_in, present_in, gone_in}
use Rattle.o2_segbus.specs.Frames.{KeepsStore, KeepsMaps}
use Rattle.o2_segbus.specs.Guards.{AreAged, AreGuarded}

rights_by : (a b : ℕ) → unmarked a ≡ unmarked b → rights_of a ≡ rights_of b
rights_by a b e = omega arith

same_held : (m n : Maps) (pid i : ℕ) → n.held ≡ m.held → held_at n pid i ≡ held_at m pid i
same_held m n pid i e = ap (λ (z : List (Option Held)). held_at (record m { held = z }) pid i) e

pub holds_stay : (m n : Maps) → KeepsMaps m n → (pid i : ℕ) → hold_in n pid i ≡ hold_in m pid i
unfolding hold_in
holds_stay m n k pid i =
    ap (option_map (hold_of n pid i)) (same_held m n pid i k.held)
    ∙ ap (λ (r : ℕ). option_map (λ (h : Held). record { name = h.id.age; rights = r }) (held_at m pid i)) (rights_by (descriptor_at n pid i).access (descriptor_at m pid i).access (k.access pid i))

pub sizes_stay : (s t : Shelf) → KeepsStore s t → (name : ℕ) → size_in t name ≡ size_in s name
unfolding key_of
sizes_stay s t f name = ap (λ (z : Shelf). size_in z name) f.store

pub presence_stays : (s t : Shelf) → KeepsStore s t → (name : ℕ) → present_in t name ≡ present_in s name
unfolding key_of
presence_stays s t f name = ap (λ (z : Shelf). present_in z name) f.store

pub marks_stay : (s t : Shelf) → KeepsStore s t → (name : ℕ) → gone_in t name ≡ gone_in s name
unfolding key_of
marks_stay s t f name = ap (λ (z : Shelf). gone_in z name) f.store

pub ages_kept : (s t : Shelf) → KeepsStore s t → AreAged s → AreAged t
ages_kept s t f a = subst AreAged (sym f.store) a

pub guards_stay : (s t : Shelf) (m n : Maps) → KeepsStore s t → KeepsMaps m n → AreGuarded s m → AreGuarded t n
guards_stay s t m n f k g pid i h e w =
    ap (λ (z : Shelf). (entry z h.id.key).attr.clean) f.store
    ∙ g pid i h (sym (same_held m n pid i k.held) ∙ e)
    (subst (λ (r : ℕ). is_writable r ≡ true) (rights_by (descriptor_at n pid i).access (descriptor_at m pid i).access (k.access pid i)) w)
