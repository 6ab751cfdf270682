-- Which segments stand in segment registers, behind changes of what a process holds.
use Rattle.std.proofs.Common.{◌≡◌, ◌⊎◌, inl, inr, ℕ, zero, suc, ◌/◌, ◌-◌, ◌==◌, ◌&&◌, ◌||◌, nat_lt, Bool, true, false, cond, List, [], ◌∷◌, Option, Some, None, ap, sym, ◌∙◌, refl, arith, subst}
use Rattle.std.specs.Prelude.{option_map, slice_get}
use Rattle.o2_isa.specs.declared.cpu.Cpu.{Cpu}
use Rattle.o2_isa.specs.View.{Hold, bound_in, bound_registers, is_code, is_local, is_null, is_readable, is_writable}
use Rattle.o2_world.specs.Map.{Map, get, put}
use Rattle.o2_world.specs.World.{Held, Process, is_live}
use Rattle.o2_world.specs.Holders.{names_it}
use Rattle.o2_world.specs.Views.{hold_of, holds_in}
use Rattle.o2_world.specs.Changes.{at_number, at_place, fewer, more}
use Rattle.o2_world.specs.Sound.{HasGoodRegisters, NamesHeld, has_rights}
use Rattle.o2_world.specs.Discards.{has_seated, is_of, is_seated, seats}
use Rattle.o2_world.proofs.Reached.{get-put}
use Rattle.o2_world.proofs.TiedChanges.{place_from}

abbrev pub Follows : Bool → Bool → Type 0
Follows a b = a ≡ true → b ≡ true

or_right : (a b : Bool) → b ≡ true → (a || b) ≡ true
or_right true b e = refl
or_right false b e = e

either : (a b c d : Bool) → Follows a c → Follows b d → Follows (a || b) (c || d)
either true b c d f g e = ap (λ (x : Bool). x || d) (f refl)
either false b c d f g e = or_right c d (g e)

neither : (a b c d : Bool) → Follows a c → Follows b d → (c && d) ≡ false → (a && b) ≡ false
neither false b c d f g e = refl
neither true false c d f g e = refl
neither true true true true f g e = e
neither true true true false f g e = sym (g refl)
neither true true false d f g e = sym (f refl)

-- Of all processes, and of each.

no_left : (a b : Bool) → (a || b) ≡ false → a ≡ false
no_left true b e = e
no_left false b e = refl

no_right : (a b : Bool) → (a || b) ≡ false → b ≡ false
no_right true b e = absurd (cc)
no_right false b e = e

pub unseated_at : (ps : List Process) (n place : ℕ) (p : Process) → is_seated ps n ≡ false → slice_get ps place ≡ Some p → seats p n ≡ false
unfolding is_seated
unseated_at [] n place p e at = absurd (cc)
unseated_at (x ∷ xs) n zero p e at = let same : x ≡ p = cc in ap (λ (y : Process). seats y n) (sym same) ∙ no_left (seats x n) (is_seated xs n) e
unseated_at (x ∷ xs) n (suc place) p e at = unseated_at xs n place p (no_right (seats x n) (is_seated xs n) e) at

pub unseated_by : (ps : List Process) (n : ℕ) → ((place : ℕ) (p : Process) → slice_get ps place ≡ Some p → seats p n ≡ false) → is_seated ps n ≡ false
unfolding is_seated
unseated_by [] n f = refl
unseated_by (x ∷ xs) n f = ap (λ (b : Bool). b || is_seated xs n) (f zero x refl) ∙ unseated_by xs n (λ place. f (suc place))

-- One process: the same registers over another map.

is_of_hold : (n : ℕ) (o : Option Held) → is_of n (option_map hold_of o) ≡ names_it n o
is_of_hold n None = refl
is_of_hold n (Some h) = refl

same_number : (n m : ℕ) → (n == m) ≡ true → n ≡ m
same_number n m e = grind arith

bound_follows : (m : Map Held) (j : ℕ) (o : Option Held) (n s : ℕ) → (is_null s ≡ false → is_local s ≡ true → s / 8 ≡ j → Follows (names_it n o) (names_it n (get m j)))
    → Follows (is_of n (bound_in (holds_in (put j o m)) s)) (is_of n (bound_in (holds_in m) s))
bound_follows m j o n s f = go (is_null s) (is_local s) refl refl
  where
    pick : (t : Bool) → (j == s / 8) ≡ t → is_null s ≡ false → is_local s ≡ true → names_it n (cond t o (get m (s / 8))) ≡ true → names_it n (get m (s / 8)) ≡ true
    pick true is null here e =
        let same = same_number j (s / 8) is in
        ap (λ (k : ℕ). names_it n (get m k)) (sym same) ∙ f null here (sym same) e
    pick false is null here e = e

    go : (z l : Bool) → is_null s ≡ z → is_local s ≡ l
        → Follows (is_of n (cond z None (cond l (holds_in (put j o m) (s / 8)) None))) (is_of n (cond z None (cond l (holds_in m (s / 8)) None)))
    go true l null here e = e
    go false false null here e = e
    go false true null here e =
        is_of_hold n (get m (s / 8))
        ∙ pick (j == s / 8) refl null here (ap (names_it n) (sym (get-put j (s / 8) o m)) ∙ (sym (is_of_hold n (get (put j o m) (s / 8))) ∙ e))

module _ (m k : ℕ → Option Hold) (c d : Cpu) (n : ℕ) (es : Follows (is_of n (bound_in k d.es)) (is_of n (bound_in m c.es))) (cs : Follows (is_of n (bound_in k d.cs)) (is_of n (bound_in m c.cs)))
    (ss : Follows (is_of n (bound_in k d.ss)) (is_of n (bound_in m c.ss))) (ds : Follows (is_of n (bound_in k d.ds)) (is_of n (bound_in m c.ds))) where
  pub seated_follows : Follows (has_seated (bound_registers k d) n) (has_seated (bound_registers m c) n)
  seated_follows =
      either (is_of n (bound_in k d.es) || is_of n (bound_in k d.cs)) (is_of n (bound_in k d.ss) || is_of n (bound_in k d.ds)) _ _
      (either (is_of n (bound_in k d.es)) (is_of n (bound_in k d.cs)) _ _ es cs)
      (either (is_of n (bound_in k d.ss)) (is_of n (bound_in k d.ds)) _ _ ss ds)

pub seats_follow : (old new : Process) (n : ℕ) → Follows (is_live new.state) (is_live old.state)
    → Follows (has_seated (bound_registers (holds_in new.held) new.cpu) n) (has_seated (bound_registers (holds_in old.held) old.cpu) n)
    → seats old n ≡ false → seats new n ≡ false
seats_follow old new n live seated e = neither (is_live new.state) _ (is_live old.state) _ live seated e

abbrev pub put_at : (Option Held → Option Held) → ℕ → Process → Process
put_at g j p = record p { held = put j (g (get p.held j)) p.held }

put_unseated : (x : Process) (g : Option Held → Option Held) (j n : ℕ) → ((s : ℕ) → is_null s ≡ false → is_local s ≡ true → s / 8 ≡ j → (s ≡ x.cpu.es) ⊎ ((s ≡ x.cpu.cs) ⊎ ((s ≡ x.cpu.ss) ⊎ (s ≡ x.cpu.ds))) → Follows (names_it n (g (get x.held j))) (names_it n (get x.held j)))
    → seats x n ≡ false → seats (put_at g j x) n ≡ false
put_unseated x g j n f e =
    seats_follow x (put_at g j x) n (λ l. l)
    (seated_follows (holds_in x.held) (holds_in (put j (g (get x.held j)) x.held)) x.cpu x.cpu n
    (bound_follows x.held j (g (get x.held j)) n x.cpu.es (λ null here at. f x.cpu.es null here at (inl refl)))
    (bound_follows x.held j (g (get x.held j)) n x.cpu.cs (λ null here at. f x.cpu.cs null here at (inr (inl refl))))
    (bound_follows x.held j (g (get x.held j)) n x.cpu.ss (λ null here at. f x.cpu.ss null here at (inr (inr (inl refl)))))
    (bound_follows x.held j (g (get x.held j)) n x.cpu.ds (λ null here at. f x.cpu.ds null here at (inr (inr (inr refl)))))) e

-- Fewer holds take names from registers.

fewer_names : (count n : ℕ) (o : Option Held) → Follows (names_it n (fewer count o)) (names_it n o)
fewer_names count n None e = e
fewer_names count n (Some old) e = go (nat_lt count old.holds) e
  where
    go : (b : Bool) → names_it n (cond b (Some (record old { holds = old.holds - count })) None) ≡ true → (old.name == n) ≡ true
    go true e = e
    go false e = absurd (cc)

pub fewer_unseated : (x : Process) (count j n : ℕ) → seats x n ≡ false → seats (put_at (fewer count) j x) n ≡ false
fewer_unseated x count j n e = put_unseated x (fewer count) j n (λ s null here at which. fewer_names count n (get x.held j)) e

-- More holds give registers none, for what they name is held.

more_names : (h : Held) (n : ℕ) (ok : ℕ → Bool) (o : Option Held) → has_rights ok o ≡ true → Follows (names_it n (more h o)) (names_it n o)
more_names h n ok None good e = absurd (cc)
more_names h n ok (Some old) good e = e

pub more_unseated : (x : Process) (h : Held) (j n : ℕ) → (is_live x.state ≡ true → HasGoodRegisters x) → seats x n ≡ false → seats (put_at (more h) j x) n ≡ false
more_unseated x h j n good e = go (is_live x.state) refl
  where
    not_null : (s : ℕ) (P : Type 0) → is_null s ≡ false → (is_null s ≡ true) ⊎ P → P
    not_null s P null (inl is) = absurd (let no : true ≡ false = sym is ∙ null in cc)
    not_null s P null (inr named) = named

    named : (ok : ℕ → Bool) (s : ℕ) → s / 8 ≡ j → NamesHeld x ok s → Follows (names_it n (more h (get x.held j))) (names_it n (get x.held j))
    named ok s at held = more_names h n ok (get x.held j) (ap (λ (k : ℕ). has_rights ok (get x.held k)) (sym at) ∙ held.1)

    by : HasGoodRegisters x → (s : ℕ) → is_null s ≡ false → s / 8 ≡ j → (s ≡ x.cpu.es) ⊎ ((s ≡ x.cpu.cs) ⊎ ((s ≡ x.cpu.ss) ⊎ (s ≡ x.cpu.ds)))
        → Follows (names_it n (more h (get x.held j))) (names_it n (get x.held j))
    by g s null at (inl is) = named is_readable s at (subst (NamesHeld x is_readable) (sym is) (not_null x.cpu.es _ (ap is_null (sym is) ∙ null) g.es))
    by g s null at (inr (inl is)) = named is_code s at (subst (NamesHeld x is_code) (sym is) g.cs)
    by g s null at (inr (inr (inl is))) = named is_writable s at (subst (NamesHeld x is_writable) (sym is) g.ss)
    by g s null at (inr (inr (inr is))) = named is_readable s at (subst (NamesHeld x is_readable) (sym is) (not_null x.cpu.ds _ (ap is_null (sym is) ∙ null) g.ds))

    go : (b : Bool) → is_live x.state ≡ b → seats (put_at (more h) j x) n ≡ false
    go true lives = put_unseated x (more h) j n (λ s null here at which. by (good lives) s null at which) e
    go false ends = ap (λ (b : Bool). b && has_seated (bound_registers (holds_in (put j (more h (get x.held j)) x.held)) x.cpu) n) ends

-- Of all processes, where one is changed by its number.

pub number_unseated : (ps : List Process) (k : ℕ) (f : Process → Process) (n : ℕ) → ((place : ℕ) (x : Process) → slice_get ps place ≡ Some x → seats x n ≡ false → seats (f x) n ≡ false)
    → is_seated ps n ≡ false → is_seated (at_number k f ps) n ≡ false
number_unseated ps k f n keeps e = go (k == 0)
  where
    old : (place : ℕ) (x : Process) → slice_get ps place ≡ Some x → seats x n ≡ false
    old place x at = unseated_at ps n place x e at

    by : (place : ℕ) (x y : Process) → slice_get ps place ≡ Some y → (x ≡ y) ⊎ ((place ≡ k - 1) × (x ≡ f y)) → seats x n ≡ false
    by place x y there (inl same) = ap (λ (z : Process). seats z n) same ∙ old place y there
    by place x y there (inr same) = ap (λ (z : Process). seats z n) same.1 ∙ keeps place y there (old place y there)

    go : (b : Bool) → is_seated (cond b ps (at_place (k - 1) f ps)) n ≡ false
    go true = e
    go false = unseated_by (at_place (k - 1) f ps) n (λ place x at. let from = place_from ps (k - 1) place f x at in by place x from.old from.there from.is)
