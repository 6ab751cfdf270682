-- An end behind the changes of a call: what nobody holds goes once, whether it went before the end or goes behind it.
use Rattle.std.proofs.Common.{◌≡◌, ℕ, zero, suc, ◌-◌, ◌==◌, ◌||◌, Bool, true, false, cond, List, [], ◌∷◌, ◌++◌, filter, None, ap, refl, sym, ◌∙◌}
use Rattle.std.specs.Prelude.{slice_get}
use Rattle.std.specs.List.{list_any}
use Rattle.std.proofs.lemmas.Bool.{false≢true}
use Rattle.o2_world.specs.declared.types.State.{State}
use Rattle.o2_world.specs.Map.{Map}
use Rattle.o2_world.specs.World.{Process, Reserve, Segment, World}
use Rattle.o2_world.specs.Changes.{Change, Finishes, at_number, at_place, holds_run, is_used, own_run_held, run_held, swept, takes, told_of, used, with_all, with_change, with_changes}
use Rattle.o2_world.specs.Holders.{holds_name, is_held, kept, process_at}

-- filtering by more than was filtered by before
twice : {X : Type 0} (f g : X → Bool) → ((x : X) → f x ≡ true → g x ≡ true) → (xs : List X) → filter f (filter g xs) ≡ filter f xs
twice f g fits [] = refl
twice {X} f g fits (x ∷ xs) = go (g x) (f x) refl refl (twice f g fits xs)
  where
    go : (a b : Bool) → g x ≡ a → f x ≡ b → filter f (filter g xs) ≡ filter f xs → filter f (cond a (x ∷ filter g xs) (filter g xs)) ≡ cond b (x ∷ filter f xs) (filter f xs)
    go true b p q rest = ap (λ (c : Bool). cond c (x ∷ filter f (filter g xs)) (filter f (filter g xs))) q ∙ ap (λ (ys : List X). cond b (x ∷ ys) ys) rest
    go false true p q rest = absurd (false≢true (sym p ∙ fits x q))
    go false false p q rest = rest

or_left : (a b : Bool) → a ≡ true → (a || b) ≡ true
or_left true b e = refl
or_left false b e = absurd (false≢true e)

or_right : (a b : Bool) → b ≡ true → (a || b) ≡ true
or_right true b e = refl
or_right false b e = e

-- One process holds nothing any more.
module _ (p : ℕ) (state : State) where
  abbrev over : Process → Process
  over x = record x { state = state; held = [] }

  -- what holds of none that holds nothing, and of some, held of some
  any_place : (t : Process → Bool) → ((x : Process) → t (over x) ≡ false) → (k : ℕ) (ps : List Process) → list_any t (at_place k over ps) ≡ true → list_any t ps ≡ true
  any_place t none k [] e = e
  any_place t none zero (x ∷ ps) e = or_right (t x) (list_any t ps) (sym (ap (λ (b : Bool). b || list_any t ps) (none x)) ∙ e)
  any_place t none (suc k) (x ∷ ps) e = go (t x) refl e (any_place t none k ps)
    where
      go : (b : Bool) → t x ≡ b → (b || list_any t (at_place k over ps)) ≡ true → (list_any t (at_place k over ps) ≡ true → list_any t ps ≡ true) → (t x || list_any t ps) ≡ true
      go true q f rest = or_left (t x) (list_any t ps) q
      go false q f rest = or_right (t x) (list_any t ps) (rest f)

  any_number : (t : Process → Bool) → ((x : Process) → t (over x) ≡ false) → (ps : List Process) → list_any t (at_number p over ps) ≡ true → list_any t ps ≡ true
  any_number t none ps = go (p == 0)
    where
      go : (b : Bool) → list_any t (cond b ps (at_place (p - 1) over ps)) ≡ true → list_any t ps ≡ true
      go true e = e
      go false e = any_place t none (p - 1) ps e

  held_before : (ps : List Process) (name : ℕ) → is_held (at_number p over ps) name ≡ true → is_held ps name ≡ true
  unfolding holds_name
  held_before ps name = any_number (λ (x : Process). holds_name x.held name) (λ x. refl) ps

  run_before : (ps : List Process) (first : ℕ) → run_held (at_number p over ps) first ≡ true → run_held ps first ≡ true
  unfolding holds_run
  run_before ps first = any_number (λ (x : Process). holds_run x.held first) (λ x. refl) ps

  own_place : (k : ℕ) (ps : List Process) (j first : ℕ) → own_run_held (slice_get (at_place k over ps) j) first ≡ true → own_run_held (slice_get ps j) first ≡ true
  unfolding holds_run
  own_place k [] j first e = e
  own_place zero (x ∷ ps) zero first e = absurd (false≢true e)
  own_place zero (x ∷ ps) (suc j) first e = e
  own_place (suc k) (x ∷ ps) zero first e = e
  own_place (suc k) (x ∷ ps) (suc j) first e = own_place k ps j first e

  own_before : (ps : List Process) (n first : ℕ) → own_run_held (process_at (at_number p over ps) n) first ≡ true → own_run_held (process_at ps n) first ≡ true
  own_before ps n first = go (p == 0) (n == 0)
    where
      go : (a b : Bool) → own_run_held (cond b None (slice_get (cond a ps (at_place (p - 1) over ps)) (n - 1))) first ≡ true → own_run_held (cond b None (slice_get ps (n - 1))) first ≡ true
      go true b e = e
      go false true e = e
      go false false e = own_place (p - 1) ps (n - 1) first e

  used_before : (ps : List Process) (r : Reserve) → is_used (at_number p over ps) r ≡ true → is_used ps r ≡ true
  used_before ps r = go (r.region == 0)
    where
      stays_or : (b : Bool) → r.stays ≡ b → (b || run_held (at_number p over ps) r.first) ≡ true → (b || run_held ps r.first) ≡ true
      stays_or true q e = refl
      stays_or false q e = run_before ps r.first e

      go : (b : Bool) → cond b (r.stays || run_held (at_number p over ps) r.first) (own_run_held (process_at (at_number p over ps) r.region) r.first) ≡ true
          → cond b (r.stays || run_held ps r.first) (own_run_held (process_at ps r.region) r.first) ≡ true
      go true e = stays_or r.stays refl e
      go false e = own_before ps r.region r.first e

  swept_once : (w : World) → swept (with_change (swept w) (Finishes p state)) ≡ swept (with_change w (Finishes p state))
  swept_once w =
      let ps = at_number p over w.processes in
      ap (λ (names : Map Segment). record w { processes = ps; names = names; reserved = used ps (used w.processes w.reserved); texts = told_of ps (told_of w.processes w.texts) })
      (twice (λ (e : ℕ × Segment). is_held ps e.0) (λ (e : ℕ × Segment). is_held w.processes e.0) (λ e. held_before w.processes e.0) w.names)
      ∙ (ap (λ (rs : List Reserve). record w { processes = ps; names = kept ps w.names; reserved = rs; texts = told_of ps (told_of w.processes w.texts) })
      (twice (is_used ps) (is_used w.processes) (used_before w.processes) w.reserved)
      ∙ ap (λ (ts : List (List ℕ × ℕ)). record w { processes = ps; names = kept ps w.names; reserved = used ps w.reserved; texts = ts })
      (twice (λ (t : List ℕ × ℕ). is_held ps t.1) (λ (t : List ℕ × ℕ). is_held w.processes t.1) (λ t. held_before w.processes t.1) w.texts))

  each_then : (w : World) (cs : List Change) → with_changes w (cs ++ Finishes p state ∷ []) ≡ with_change (with_changes w cs) (Finishes p state)
  unfolding with_changes
  each_then w [] = refl
  each_then w (c ∷ cs) = each_then (with_change w c) cs

  takes_end : (cs : List Change) → list_any takes (cs ++ Finishes p state ∷ []) ≡ true
  takes_end [] = refl
  takes_end (c ∷ cs) = or_right (takes c) (list_any takes (cs ++ Finishes p state ∷ [])) (takes_end cs)

  pub end_behind : (w : World) (cs : List Change) → with_all w (cs ++ Finishes p state ∷ []) ≡ with_all (with_all w cs) (Finishes p state ∷ [])
  unfolding with_changes
  end_behind w cs =
      ap (λ (b : Bool). cond b (swept (with_changes w (cs ++ Finishes p state ∷ []))) (with_changes w (cs ++ Finishes p state ∷ []))) (takes_end cs)
      ∙ (ap swept (each_then w cs) ∙ go (list_any takes cs))
    where
      go : (b : Bool) → swept (with_change (with_changes w cs) (Finishes p state)) ≡ swept (with_change (cond b (swept (with_changes w cs)) (with_changes w cs)) (Finishes p state))
      go true = sym (swept_once (with_changes w cs))
      go false = refl
