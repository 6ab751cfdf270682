-- What a call answers, by its ruling.
use Rattle.std.specs.Prelude.{◌≡◌, ℕ, List, [], Option, Some, None}
use Rattle.o2_regions.specs.declared.answer.Answer.{Answer}
use Rattle.o2_regions.specs.declared.answer.Roomed.{Roomed}
use Rattle.o2_regions.specs.declared.answer.Roomed.TheVariants.{Done, NoRoom, SwapFull, SwapFault}
use Rattle.o2_store.specs.declared.brought.Brought.{Brought}
use Rattle.o2_store.specs.declared.brought.Brought.TheVariants.{Here, Stale, NoRoom as BroughtNoRoom, SwapFull as BroughtSwapFull, SwapFault as BroughtSwapFault}
use Rattle.o2_place.specs.declared.seg_id.SegId.{SegId}
use Rattle.o2_regions.specs.declared.held.Cause.TheVariants.{Alias}
use Rattle.o2_regions.specs.declared.held.Held.{Held}
use Rattle.o2_world.specs.Changes.{Change}
use Rattle.o2_world.specs.Rulings.{Ruling}

-- error number and value are those of the ruling
pub record Answers (r : Ruling) (a : Answer) : Type 0 where
  pub error : a.error ≡ r.error
  pub value : a.value ≡ r.value

-- a segment as it is held under an alias
abbrev pub alias_of : SegId → Held
alias_of id = record { id = id; holds = 1; cause = Alias; first = 0; reserved = 0 }

-- the answer of a call that may want room: it stops only where there is no error
abbrev pub AnswersRoomed : Ruling → Roomed → Type 0
AnswersRoomed r (Done a) = Answers r a
AnswersRoomed r NoRoom = r.error ≡ 0
AnswersRoomed r SwapFull = r.error ≡ 0
AnswersRoomed r SwapFault = r.error ≡ 0

-- what it changes: at a stop nothing
abbrev pub changes_roomed : Ruling → Roomed → List Change
changes_roomed r (Done a) = r.changes
changes_roomed r NoRoom = []
changes_roomed r SwapFull = []
changes_roomed r SwapFault = []

-- the stop of a call by what the store answered, and none where it was done
abbrev pub stop_of : Brought → Option Roomed
stop_of Here = None
stop_of BroughtNoRoom = Some NoRoom
stop_of BroughtSwapFull = Some SwapFull
stop_of BroughtSwapFault = Some SwapFault
stop_of Stale = None

-- a call came to no error: it is done, or it stopped
abbrev pub IsUnrefused : Roomed → Type 0
IsUnrefused (Done a) = a.error ≡ 0
IsUnrefused NoRoom = Unit {0}
IsUnrefused SwapFull = Unit {0}
IsUnrefused SwapFault = Unit {0}
