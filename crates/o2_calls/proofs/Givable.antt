-- The value of a call that is done can be written.
use Rattle.std.proofs.Common.{ℕ, ◌≤◌, ◌/◌, false, [], None, sym, subst}
use Rattle.o2_image.specs.ImageList.{ImageList}
use Rattle.o2_regions.specs.declared.answer.Answer.{Answer}
use Rattle.o2_regions.specs.declared.answer.Roomed.{Roomed}
use Rattle.o2_regions.specs.declared.answer.Roomed.TheVariants.{Done, NoRoom, SwapFull, SwapFault}
use Rattle.o2_regions.specs.Maps.{Maps}
use Rattle.o2_store.specs.Shelf.{Shelf}
use Rattle.o2_world.specs.Known.{Known}
use Rattle.o2_world.specs.Rulings.{aliasing, allocation, held_under}
use Rattle.o2_segs.specs.Answers.{Answers, AnswersRoomed}
use Rattle.o2_stands.specs.Knows.{Others}
use Rattle.o2_stands.specs.Parts.{Parts}
use Rattle.o2_calls.specs.Stops.{HasWord}
use Rattle.o2_calls.proofs.Tellings.{alias_word, alloc_word}

-- parts with this store and these maps
abbrev pub some_parts : Shelf → Maps → ImageList → Parts
some_parts s m images = record { shelf = s; maps = m; images = images; device = 0; block = λ n. []; running = λ n. None }

abbrev pub no_others : Others
no_others = record { code = λ n. false; text = λ t. None; processes = 0; avail = 0 }

pub alloc_givable : (k : Known) (n size flags : ℕ) (x : Roomed) → AnswersRoomed (allocation k n size flags) x → HasWord x
alloc_givable k n size flags (Done a) h = subst (λ (v : ℕ). v ≤ 65535) (sym h.value) (alloc_word k n size flags)
alloc_givable k n size flags NoRoom h = tt
alloc_givable k n size flags SwapFull h = tt
alloc_givable k n size flags SwapFault h = tt

pub alias_givable : (k : Known) (n selector : ℕ) (a : Answer) → Answers (aliasing k n selector) a → HasWord (Done a)
alias_givable k n selector a h = subst (λ (v : ℕ). v ≤ 65535) (sym h.value) (alias_word k n (selector / 8) (held_under k n selector))
