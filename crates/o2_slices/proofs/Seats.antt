-- What some steps that are done at once leave of a space, whatever world it stands for.
use Rattle.std.proofs.Common.{◌≡◌, ℕ, zero, suc, ◌-◌, ◌<◌, ◌≤◌, ◌==◌, Bool, true, false, cond, if◌then◌else◌, List, [], ◌∷◌, length, Option, Some, None, option_map, ap, sym, ◌∙◌, refl, inl, inr, ◌⊎◌, subst, slice_index_or, arith}
use Rattle.std.specs.Prelude.{slice_get}
use mathlib.Core.Path.{fun_ext}
use Rattle.o2_image.specs.ImageList.{ImageList}
use Rattle.o2_regions.specs.Lives.{lives}
use Rattle.o2_store.specs.Pictures.{picture}
use Rattle.o2_store.specs.Shelf.{Shelf}
use Rattle.o2_world.specs.declared.types.State.{State}
use Rattle.o2_world.specs.declared.types.State.TheVariants.{Live}
use Rattle.o2_world.proofs.Flags.{live_is}
use Rattle.o2_stands.specs.Parts.{Running, goes_on}
use Rattle.o2_stands.specs.Stands.{IsReady}
use Rattle.o2_stepping.specs.Shapes.{SameShape}
use Rattle.o2_slices.specs.Slices.{AreSliced, AreSteps, Follows, IsTry, Seat}
use Rattle.o2_stepping.proofs.Keeping.{ready_same, shape_refl, shape_trans, try_shape}
use Rattle.o2_space.specs.declared.space.Proc.{Proc}
use Rattle.o2_space.specs.Parts.{running_at, running_in}
use Rattle.o2_space.proofs.Alike.{made, ready_as}
use Rattle.o2_space.proofs.Commits.{running_put, now}

-- The process whose steps they are.

number_is : (n k : ℕ) → (n == k) ≡ true → n ≡ k
number_is n k e = grind arith

get_at : (procs : List Proc) (i : ℕ) (d : Proc) → i < length procs → slice_get procs i ≡ Some (slice_index_or procs i d)
get_at [] i d below = absurd (omega (arith, below))
get_at (y ∷ procs) zero d below = refl
get_at (y ∷ procs) (suc i) d below = get_at procs i d (omega (arith, below))

not_none : (n : ℕ) (o : Option Running) → 1 ≤ n → cond (n == 0) None o ≡ o
not_none n o some = go (n == 0) refl
  where
    go : (b : Bool) → (n == 0) ≡ b → cond b None o ≡ o
    go true e = absurd (let z = number_is n 0 e in omega (arith, z, some))
    go false e = refl

module _ (procs : List Proc) (pid : ℕ) (some : 1 ≤ pid) (there : pid ≤ length procs) where
  -- it runs so before them
  pub runs_before : (y : Proc) → y ≡ slice_index_or procs (pid - 1) y → (marks : List Bool) → ((n : ℕ) → lives marks n ≡ goes_on (running_at procs n)) → lives marks pid ≡ true
      → running_at procs ≡ (λ (n : ℕ). if n == pid then Some (record { cpu = y.cpu; state = Live }) else running_at procs n)
  runs_before y is marks marked live = fun_ext (λ n. go n (n == pid) refl)
    where
      here : running_at procs pid ≡ Some (running_in y)
      here =
          not_none pid (option_map running_in (slice_get procs (pid - 1))) some
          ∙ (ap (option_map running_in) (get_at procs (pid - 1) y (omega (arith, some, there))) ∙ ap (λ (z : Proc). Some (running_in z)) (sym is))

      state : y.state ≡ Live
      state = live_is y.state (sym (ap goes_on here) ∙ (sym (marked pid) ∙ live))

      go : (n : ℕ) (c : Bool) → (n == pid) ≡ c → running_at procs n ≡ cond c (Some (record { cpu = y.cpu; state = Live })) (running_at procs n)
      go n true e = ap (running_at procs) (number_is n pid e) ∙ (here ∙ ap (λ (z : State). Some (record { cpu = y.cpu; state = z })) state)
      go n false e = refl

  -- and so behind them
  pub runs_behind : (x : Proc) → running_at (now procs pid x some there) ≡ (λ (n : ℕ). if n == pid then Some (running_in x) else running_at procs n)
  runs_behind x = fun_ext (λ n. running_put procs pid x some there n)

-- What is kept.

pub record Keeps (a b : Seat) : Type 0 where
  pub shape : SameShape a.shelf a.maps b.shelf b.maps
  pub ready : (images : ImageList) (device : ℕ) (block : ℕ → List ℕ) (r : ℕ → Option Running) → IsReady (made a.shelf a.maps images device block r) → IsReady (made b.shelf b.maps images device block r)
  pub swap : b.shelf.swap ≡ a.shelf.swap

keeps_same : (a : Seat) → Keeps a a
keeps_same a = record { shape = shape_refl a.shelf a.maps; ready = λ images device block r x. x; swap = refl }

keeps_then : (a b c : Seat) → Keeps a b → Keeps b c → Keeps a c
keeps_then a b c x y = record {
  shape = shape_trans a.shelf b.shelf c.shelf a.maps b.maps c.maps x.shape y.shape;
  ready = λ images device block r z. y.ready images device block r (x.ready images device block r z);
  swap = y.swap ∙ x.swap;
}

follows_keeps : (pid : ℕ) (a b : Seat) → Follows pid a b → Keeps a b
follows_keeps pid a b f =
    let shape : SameShape a.shelf a.maps b.shelf b.maps = try_shape a.shelf b.shelf a.maps b.maps f.store f.maps in
    record {
      shape = shape;
      ready = λ images device block r x.
          ready_as b.shelf b.maps images device block block (λ k. None) r
          (ready_same images a.shelf b.shelf a.maps b.maps device device block block (ready_as a.shelf a.maps images device block block r (λ k. None) x) shape refl f.next.settled
          (f.clean.clean (picture images) x.aged x.guarded x.clean));
      swap = ap (λ (z : Shelf). z.swap) f.store.store;
    }

steps_keep : (pid k : ℕ) (a b : Seat) → AreSteps pid k a b → Keeps a b
steps_keep pid zero a b same = subst (Keeps a) same (keeps_same a)
steps_keep pid (suc k) a b steps = keeps_then a steps.0 b (steps_keep pid k a steps.0 steps.1.0) (follows_keeps pid steps.0 b steps.1.1.follows)

pub sliced_keeps : (pid k : ℕ) (a b : Seat) → AreSliced pid k a b → Keeps a b
sliced_keeps pid k a b s = keeps_then a s.last b (steps_keep pid k a s.last s.steps) (go s.behind)
  where
    go : (s.last ≡ b) ⊎ IsTry pid s.last b → Keeps s.last b
    go (inl same) = subst (Keeps s.last) same (keeps_same s.last)
    go (inr tries) = follows_keeps pid s.last b tries.follows
