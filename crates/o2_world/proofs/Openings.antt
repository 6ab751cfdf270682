-- The world before the first step is sound, and told by its lines.
use Rattle.std.proofs.Common.{◌≡◌, ℕ, Bool, true, false, List, [], ◌∷◌, map, refl, ap, sym, arith}
use Rattle.std.specs.Prelude.{Result, Ok, Err, Some}
use Rattle.o2_conf.specs.declared.script.Word.{Word}
use Rattle.o2_base.specs.declared.faults.ModuleFault.{ModuleFault}
use Rattle.o2_world.specs.World.{World, Setting, Process, Segment, is_live}
use Rattle.o2_base.specs.Selectors.{selector_of}
use Rattle.o2_world.specs.Map.{get}
use Rattle.o2_world.specs.Starts.{Loaded, Start, Built, nothing_built, all_started, for_the_run, world_of, where_started, opening_of}
use Rattle.o2_world.specs.FitStarts.{ShareNoIndex, AreFit, AreOf}
use Rattle.o2_world.specs.Tied.{IsSound, AreUsed}
use Rattle.o2_world.specs.Reach.{IsTold}
use Rattle.o2_world.proofs.Reached.{number_holds}
use Rattle.o2_world.proofs.OpeningSound.{IsBetween, between_first, between_kept, named_between, IsFitProgram, SoFar, all_so_far, opened}
use Rattle.o2_world.proofs.OpeningTied.{Ties, one_name, ties_first, ties_kept}
use Rattle.o2_world.proofs.OpeningTold.{ToldBetween, told_first, told_kept}

all_stay : (ps : List Process) (rs : List (ℕ × ℕ)) → AreUsed ps (map for_the_run rs)
all_stay ps [] = tt
all_stay ps (r ∷ rs) = (refl, all_stay ps rs)

not_both : (b : Bool) → b ≡ true → b ≡ false → ⊥
not_both b e f = cc

sound_between : (modules : ℕ → Loaded) (reserved : List (ℕ × ℕ)) (script : List Word) (budget : ℕ) (input : List ℕ) (b : Built)
    → ShareNoIndex modules → IsBetween b → Ties modules b → IsSound (world_of reserved script budget input b)
sound_between modules reserved script budget input b apart between ties = record {
  tied = record {
    held = between.stands.held;
    below = ties.below;
    sized = ties.sized;
    clean = λ place i h s e. (ties.held place i h e).clean s;
    one = λ place other i h k big e f. one_name modules b.names b.made i h k apart big (ties.at place i h big e) (ties.at other i k big f);
    texts = tt;
    ended = λ place p e ends. absurd (not_both (is_live p.state) (between.stands.live place p e) ends);
    registers = λ place p e lives. between.stands.registers place p e;
  };
  swept = record { named = named_between b between; used = all_stay b.processes reserved };
  discarded = record { each = λ q s e gone. absurd (not_both s.discarded gone (ties.kept q s e)) };
}

pub opening_sound : (modules : ℕ → Loaded) (s : Setting) (reserved : List (ℕ × ℕ)) (script : List Word) (input : List ℕ) (starts : List Start) (w : World)
    → ShareNoIndex modules → AreFit starts → AreOf modules starts → opening_of s reserved script input starts ≡ Ok w → IsSound w
unfolding all_started
opening_sound modules s reserved script input starts w apart fit of e =
    let ties : SoFar (Ties modules) (all_started s.segments starts) = all_so_far (Ties modules) _ s.segments starts (Ok nothing_built) (ties_kept modules) of (ties_first modules) in
    let between : SoFar IsBetween (all_started s.segments starts) = all_so_far IsBetween IsFitProgram s.segments starts (Ok nothing_built) between_kept fit between_first in
    opened IsSound (λ (b : Built). IsBetween b × Ties modules b) reserved script s.budget input (all_started s.segments starts) w
    (λ b both. sound_between modules reserved script s.budget input b apart both.0 both.1) (two (all_started s.segments starts) between ties) e
  where
    two : (r : Result Built (ℕ × ModuleFault)) → SoFar IsBetween r → SoFar (Ties modules) r
        → SoFar (λ (b : Built). IsBetween b × Ties modules b) r
    two (Ok b) x y = (x, y)
    two (Err fault) x y = tt

-- nothing is discarded yet
pub opening_whole : (modules : ℕ → Loaded) (s : Setting) (reserved : List (ℕ × ℕ)) (script : List Word) (input : List ℕ) (starts : List Start) (w : World)
    → AreOf modules starts → opening_of s reserved script input starts ≡ Ok w → (q : ℕ) (z : Segment) → get w.names q ≡ Some z → z.discarded ≡ false
unfolding all_started
opening_whole modules s reserved script input starts w of e =
    let ties : SoFar (Ties modules) (all_started s.segments starts) = all_so_far (Ties modules) _ s.segments starts (Ok nothing_built) (ties_kept modules) of (ties_first modules) in
    opened (λ (v : World). (q : ℕ) (z : Segment) → get v.names q ≡ Some z → z.discarded ≡ false) (Ties modules) reserved script s.budget input (all_started s.segments starts) w
    (λ b t. t.kept) ties e

-- the world has the indexes reserved that the opening names
pub opening_reserves : (s : Setting) (reserved : List (ℕ × ℕ)) (script : List Word) (input : List ℕ) (starts : List Start) (w : World)
    → opening_of s reserved script input starts ≡ Ok w → w.reserved ≡ map for_the_run reserved
opening_reserves s reserved script input starts w e = go (all_started s.segments starts) e
  where
    world_in : Result World (ℕ × ModuleFault) → World
    world_in (Ok x) = x
    world_in (Err fault) = w

    go : (r : Result Built (ℕ × ModuleFault)) → where_started reserved script s.budget input r ≡ Ok w → w.reserved ≡ map for_the_run reserved
    go (Ok b) e = ap (λ (x : Result World (ℕ × ModuleFault)). (world_in x).reserved) (sym e)
    go (Err fault) e = absurd (cc)

told_world : (reserved : List (ℕ × ℕ)) (script : List Word) (budget : ℕ) (input : List ℕ) (b : Built) → ToldBetween b
    → IsTold (world_of reserved script budget input b)
told_world reserved script budget input b told = record {
  live = λ q i some none.
      let a = number_holds (world_of reserved script budget input b) q i some in
      let c = told.told q i some in
      let d = told.none_went q (selector_of i) in
      omega (arith, a, c, d);
  ended = λ q i some it. absurd (not_both _ it (told.none_ended q));
}

pub opening_told : (s : Setting) (reserved : List (ℕ × ℕ)) (script : List Word) (input : List ℕ) (starts : List Start) (w : World)
    → AreFit starts → opening_of s reserved script input starts ≡ Ok w → IsTold w
unfolding all_started
opening_told s reserved script input starts w fit e =
    opened IsTold ToldBetween reserved script s.budget input (all_started s.segments starts) w (told_world reserved script s.budget input)
    (all_so_far ToldBetween IsFitProgram s.segments starts (Ok nothing_built) told_kept fit told_first) e
