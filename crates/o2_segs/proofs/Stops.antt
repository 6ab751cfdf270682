-- Calls that stop, by what the store answered.
use Rattle.std.proofs.Common.{◌≡◌, ◌<◌, ℕ, List, [], Option, Some, None, arith, refl, sym, ap, ◌∙◌, subst}
use Rattle.o2_regions.specs.declared.answer.Answer.{Answer}
use Rattle.o2_regions.specs.declared.answer.Roomed.{Roomed}
use Rattle.o2_regions.specs.declared.answer.Roomed.TheVariants as roomed
use Rattle.o2_store.specs.declared.brought.Brought.{Brought}
use Rattle.o2_store.specs.declared.brought.Brought.TheVariants as brought
use Rattle.o2_world.specs.Changes.{Change}
use Rattle.o2_world.specs.Rulings.{Ruling, grants}
use Rattle.o2_segs.specs.Answers.{AnswersRoomed, changes_roomed, stop_of}

-- it isn't done
pub not_here : (a : Brought) (r : Roomed) → Some r ≡ stop_of a → a ≡ brought.Here → ⊥
not_here a r e here = (let z : Some r ≡ None = e ∙ ap stop_of here in cc)

is_stop : (r s : Roomed) → Some r ≡ Some s → s ≡ r
is_stop r s e = cc

-- a stop comes where there is no error, and changes nothing
pub stop_answers : (ruling : Ruling) (a : Brought) (r : Roomed) → ruling.error ≡ 0 → Some r ≡ stop_of a → AnswersRoomed ruling r
stop_answers ruling brought.Here r none e = absurd (cc)
stop_answers ruling brought.NoRoom r none e = subst (AnswersRoomed ruling) (is_stop r roomed.NoRoom e) none
stop_answers ruling brought.SwapFull r none e = subst (AnswersRoomed ruling) (is_stop r roomed.SwapFull e) none
stop_answers ruling brought.SwapFault r none e = subst (AnswersRoomed ruling) (is_stop r roomed.SwapFault e) none
stop_answers ruling brought.Stale r none e = absurd (cc)

pub stop_changes : (ruling : Ruling) (a : Brought) (r : Roomed) → Some r ≡ stop_of a → changes_roomed ruling r ≡ []
stop_changes ruling brought.Here r e = absurd (cc)
stop_changes ruling brought.NoRoom r e = ap (changes_roomed ruling) (sym (is_stop r roomed.NoRoom e))
stop_changes ruling brought.SwapFull r e = ap (changes_roomed ruling) (sym (is_stop r roomed.SwapFull e))
stop_changes ruling brought.SwapFault r e = ap (changes_roomed ruling) (sym (is_stop r roomed.SwapFault e))
stop_changes ruling brought.Stale r e = absurd (cc)

-- each stop by its cause
pub stop_room : (a : Brought) (r : Roomed) → Some r ≡ stop_of a → r ≡ roomed.NoRoom → a ≡ brought.NoRoom
stop_room brought.Here r e f = absurd (cc)
stop_room brought.NoRoom r e f = refl
stop_room brought.SwapFull r e f = absurd (cc)
stop_room brought.SwapFault r e f = absurd (cc)
stop_room brought.Stale r e f = absurd (cc)

pub stop_full : (a : Brought) (r : Roomed) → Some r ≡ stop_of a → r ≡ roomed.SwapFull → a ≡ brought.SwapFull
stop_full brought.Here r e f = absurd (cc)
stop_full brought.NoRoom r e f = absurd (cc)
stop_full brought.SwapFull r e f = refl
stop_full brought.SwapFault r e f = absurd (cc)
stop_full brought.Stale r e f = absurd (cc)

pub stop_fault : (a : Brought) (r : Roomed) → Some r ≡ stop_of a → r ≡ roomed.SwapFault → a ≡ brought.SwapFault
stop_fault brought.Here r e f = absurd (cc)
stop_fault brought.NoRoom r e f = absurd (cc)
stop_fault brought.SwapFull r e f = absurd (cc)
stop_fault brought.SwapFault r e f = refl
stop_fault brought.Stale r e f = absurd (cc)

-- where there is no stop it is done
pub was_here : (a : Brought) → ◌≡◌ {A = Option Roomed} None (stop_of a) → (a ≡ brought.Stale → ⊥) → a ≡ brought.Here
was_here brought.Here e never = refl
was_here brought.NoRoom e never = absurd (cc)
was_here brought.SwapFull e never = absurd (cc)
was_here brought.SwapFault e never = absurd (cc)
was_here brought.Stale e never = absurd (never refl)

-- there is no error
pub error_none : {r : Ruling} {value : ℕ} {changes : List Change} → r ≡ grants value changes → r.error ≡ 0
error_none e = ap (λ (x : Ruling). x.error) e

-- where room lacks it stops for room
pub room_stops : (a : Brought) (r : Roomed) → Some r ≡ stop_of a → a ≡ brought.NoRoom → r ≡ roomed.NoRoom
room_stops brought.Here r e f = absurd (cc)
room_stops brought.NoRoom r e f = sym (is_stop r roomed.NoRoom e)
room_stops brought.SwapFull r e f = absurd (cc)
room_stops brought.SwapFault r e f = absurd (cc)
room_stops brought.Stale r e f = absurd (cc)

-- where it doesn't stop no room lacks
pub room_never : (a : Brought) → ◌≡◌ {A = Option Roomed} None (stop_of a) → a ≡ brought.NoRoom → ⊥
room_never a none e = (let z : ◌≡◌ {A = Option Roomed} None (Some roomed.NoRoom) = none ∙ ap stop_of e in cc)

-- what is refused isn't unrefused
pub denied : (a : Answer) (error : ℕ) → a ≡ record { error = error; value = 0 } → 0 < error → a.error ≡ 0 → ⊥
denied a error e some none = (let same : a.error ≡ error = ap (λ (x : Answer). x.error) e in omega (arith, same, some, none))

pub stop_is : (r s : Roomed) → Some r ≡ Some s → r ≡ s
stop_is r s e = sym (is_stop r s e)
