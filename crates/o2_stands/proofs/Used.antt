-- By whom a stretch of reserved indexes is used.
use Rattle.std.proofs.Common.{◌≡◌, ℕ, suc, ◌+◌, ◌-◌, Bool, true, false, ◌||◌, List, [], ◌∷◌, Option, Some, None, refl, sym, ap, ◌∙◌}
use Rattle.std.specs.Prelude.{◌==◌, if◌then◌else◌}
use Rattle.std.specs.List.{list_any}
use Rattle.std.proofs.lemmas.Bool.{false≢true}
use Rattle.o2_world.specs.Changes.{holds_run, is_used, own_run_held, run_held, runs_from}
use Rattle.o2_world.specs.Holders.{process_at}
use Rattle.o2_world.specs.Known.{held_at}
use Rattle.o2_world.specs.Map.{Map, get}
use Rattle.o2_world.specs.Sound.{held_in, held_of}
use Rattle.o2_world.specs.World.{Held, Process, Reserve}
use Rattle.o2_world.proofs.HoldsSwept.{own_found, run_found_by}
use Rattle.o2_stands.proofs.Worlds.{number_is, to_place}

-- a process holds a member of the run from an index on: the region's own process, or any of them where the region is the shared one
pub record IsUsedBy (ps : List Process) (region first : ℕ) : Type 0 where
  pub number : ℕ
  pub index : ℕ
  pub hold : Held
  pub there : held_at ps number index ≡ Some hold
  pub runs : runs_from first (Some hold) ≡ true
  pub own : (region == 0) ≡ false → number ≡ region

record IsUnder (first : ℕ) (held : Map Held) : Type 0 where
  index : ℕ
  hold : Held
  there : get held index ≡ Some hold
  runs : runs_from first (Some hold) ≡ true

at_index : (first i : ℕ) (held : Map Held) (o : Option Held) → get held i ≡ o → runs_from first o ≡ true → IsUnder first held
at_index first i held None at e = absurd (false≢true e)
at_index first i held (Some h) at e = record { index = i; hold = h; there = at; runs = e }

any_under : (first : ℕ) (held es : Map Held) → list_any (λ (e : ℕ × Held). runs_from first (get held e.0)) es ≡ true → IsUnder first held
any_under first held [] e = absurd (false≢true e)
any_under first held (x ∷ es) e = go (any_under first held es) (runs_from first (get held x.0)) refl e
  where
    go : (list_any (λ (y : ℕ × Held). runs_from first (get held y.0)) es ≡ true → IsUnder first held) → (b : Bool) → runs_from first (get held x.0) ≡ b
        → (b || list_any (λ (y : ℕ × Held). runs_from first (get held y.0)) es) ≡ true → IsUnder first held
    go later true is f = at_index first x.0 held (get held x.0) refl is
    go later false is f = later f

under : (first : ℕ) (held : Map Held) → holds_run held first ≡ true → IsUnder first held
unfolding holds_run
under first held e = any_under first held held e

record IsIn (first : ℕ) (ps : List Process) : Type 0 where
  place : ℕ
  index : ℕ
  hold : Held
  there : held_in ps place index ≡ Some hold
  runs : runs_from first (Some hold) ≡ true

in_some : (first : ℕ) (ps : List Process) → run_held ps first ≡ true → IsIn first ps
in_some first [] e = absurd (false≢true e)
in_some first (p ∷ ps) e = go (in_some first ps) (holds_run p.held first) refl e
  where
    go : (run_held ps first ≡ true → IsIn first ps) → (b : Bool) → holds_run p.held first ≡ b → (b || run_held ps first) ≡ true → IsIn first (p ∷ ps)
    go later true is f = (let u = under first p.held is in record { place = 0; index = u.index; hold = u.hold; there = u.there; runs = u.runs })
    go later false is f = (let u = later f in record { place = suc u.place; index = u.index; hold = u.hold; there = u.there; runs = u.runs })

not_zero : (n : ℕ) → (n == 0) ≡ true → (n == 0) ≡ false → ⊥
not_zero n e f = false≢true (sym f ∙ e)

own_under : (first : ℕ) (o : Option Process) → own_run_held o first ≡ true → (i : ℕ) × ((h : Held) × ((held_of o i ≡ Some h) × (runs_from first (Some h) ≡ true)))
own_under first None e = absurd (false≢true e)
own_under first (Some p) e = (let u = under first p.held e in (u.index, (u.hold, (u.there, u.runs))))

pub used_by : (ps : List Process) (r : Reserve) → r.stays ≡ false → is_used ps r ≡ true → IsUsedBy ps r.region r.first
used_by ps r goes e = go (r.region == 0) refl e
  where
    shared : (b : Bool) → r.stays ≡ b → b ≡ false → (b || run_held ps r.first) ≡ true → run_held ps r.first ≡ true
    shared true is f g = absurd (false≢true (sym f))
    shared false is f g = g

    go : (b : Bool) → (r.region == 0) ≡ b → (if b then r.stays || run_held ps r.first else own_run_held (process_at ps r.region) r.first) ≡ true → IsUsedBy ps r.region r.first
    go true is f =
        (let u = in_some r.first ps (shared r.stays refl goes f) in
        record {
          number = u.place + 1;
          index = u.index;
          hold = u.hold;
          there = ap (λ (o : Option Process). held_of o u.index) (number_is ps u.place) ∙ u.there;
          runs = u.runs;
          own = λ no. absurd (not_zero r.region is no);
        })
    go false is f =
        (let u = own_under r.first (process_at ps r.region) f in
        record { number = r.region; index = u.0; hold = u.1.0; there = u.1.1.0; runs = u.1.1.1; own = λ _. refl })

or_right : (a b : Bool) → b ≡ true → (a || b) ≡ true
or_right true b e = refl
or_right false b e = e

pub used_found : (ps : List Process) (r : Reserve) → IsUsedBy ps r.region r.first → is_used ps r ≡ true
used_found ps r u = go (r.region == 0) refl
  where
    go : (b : Bool) → (r.region == 0) ≡ b → (if b then r.stays || run_held ps r.first else own_run_held (process_at ps r.region) r.first) ≡ true
    go true is = or_right r.stays (run_held ps r.first) (run_found_by r.first (u.number - 1) u.index ps u.hold (to_place ps u.number u.index u.hold u.there) u.runs)
    go false is =
        own_found r.first u.index (process_at ps r.region) u.hold
        (ap (λ (n : ℕ). held_of (process_at ps n) u.index) (sym (u.own is)) ∙ u.there) u.runs

-- where all goes on to be held as it is
pub used_still : (ps qs : List Process) → ((n i : ℕ) (h : Held) → held_at ps n i ≡ Some h → held_at qs n i ≡ Some h) → (region first : ℕ) → IsUsedBy ps region first → IsUsedBy qs region first
used_still ps qs still region first u =
    record { number = u.number; index = u.index; hold = u.hold; there = still u.number u.index u.hold u.there; runs = u.runs; own = u.own }
