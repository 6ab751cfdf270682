-- Two worlds in which a process is alike but for the numbers of names: through each change of a step of its own they stay so.
use Rattle.std.proofs.Common.{◌≡◌, refl, sym, ◌∙◌, ap, subst, ℕ, ◌+◌, ◌-◌, ◌<◌, ◌≤◌, ◌==◌, ◌||◌, Bool, true, false, cond, List, [], ◌∷◌, ◌++◌, arith}
use Rattle.std.specs.Prelude.{Option, Some, None, option_map, slice_get, nat_lt}
use Rattle.std.specs.List.{list_any}
use Rattle.std.proofs.lemmas.Bool.{eq-eqb, eqb-true}
use Rattle.o2_world.specs.Map.{Map, get, put}
use Rattle.o2_world.specs.World.{World, Process, Reserve, Segment, Held}
use Rattle.o2_world.specs.Holders.{process_at}
use Rattle.o2_world.specs.Changes.{Change, Makes, Resizes, Locks, Marks, Holds, Drops, Finishes, Reserves, Frees, Names, at_number, marked, more, fewer, resized, with_change, with_changes, with_segment, with_held, takes}
use Rattle.o2_world.proofs.MapLemmas.{get-at_key, if_yes}
use Rattle.o2_world.proofs.Numbers.{process_is, at_place_of, changed_is}
use Rattle.o2_world.proofs.Reached.{get-put, get-place}
use Rattle.o2_alone.specs.Renaming.{Renaming, renamed_held, renamed_change, renamed_changes}
use Rattle.o2_alone.specs.Isolation.{own_reserves}

-- What a put of a name under an index leaves of a name.

abbrev pub AreOf : (ℕ → Type 0) → Option Held → Type 0
AreOf mine o = (h : Held) → o ≡ Some h → mine h.name

more_renamed : (f : Renaming) (h : Held) (o : Option Held) → more (renamed_held f h) (option_map (renamed_held f) o) ≡ option_map (renamed_held f) (more h o)
more_renamed f h None = refl
more_renamed f h (Some old) = refl

fewer_renamed : (f : Renaming) (count : ℕ) (o : Option Held) → fewer count (option_map (renamed_held f) o) ≡ option_map (renamed_held f) (fewer count o)
fewer_renamed f count None = refl
fewer_renamed f count (Some old) = go (nat_lt count old.holds)
  where
    go : (b : Bool) → cond b (Some (record (renamed_held f old) { holds = old.holds - count })) None ≡ option_map (renamed_held f) (cond b (Some (record old { holds = old.holds - count })) None)
    go true = refl
    go false = refl

some_name : (mine : ℕ → Type 0) (g h : Held) → Some g ≡ Some h → mine g.name → mine h.name
some_name mine g h e m = subst mine (name_of e) m
  where
    name_of : Some g ≡ Some h → g.name ≡ h.name
    name_of e = cc

more_mine : (mine : ℕ → Type 0) (h : Held) (o : Option Held) → mine h.name → AreOf mine o → AreOf mine (more h o)
more_mine mine h None m of g e = some_name mine h g e m
more_mine mine h (Some old) m of g e = some_name mine (record old { holds = old.holds + h.holds }) g e (of old refl)

fewer_mine : (mine : ℕ → Type 0) (count : ℕ) (o : Option Held) → AreOf mine o → AreOf mine (fewer count o)
fewer_mine mine count None of g e = cc
fewer_mine mine count (Some old) of g e = go (nat_lt count old.holds) e
  where
    go : (b : Bool) → cond b (Some (record old { holds = old.holds - count })) None ≡ Some g → mine g.name
    go true e = some_name mine (record old { holds = old.holds - count }) g e (of old refl)
    go false e = cc

-- The names that are spoken of are some of the first world's, which keep apart; from the next ones on all are.
pub record IsRange (f : Renaming) (mine : ℕ → Type 0) (first other : ℕ) : Type 0 where
  pub apart : (m n : ℕ) → mine m → mine n → f m ≡ f n → m ≡ n
  pub fresh : (n : ℕ) → first ≤ n → f n ≡ other + (n - first)
  pub above : (n : ℕ) → first ≤ n → mine n

pub record AreTwins (f : Renaming) (number : ℕ) (mine : ℕ → Type 0) (first other : ℕ) (w a : World) : Type 0 where
  pub one : Process
  pub twin : Process
  pub there : process_at w.processes number ≡ Some one
  pub there_too : process_at a.processes number ≡ Some twin
  pub cpu : twin.cpu ≡ one.cpu
  pub state : twin.state ≡ one.state
  pub held : (i : ℕ) → get twin.held i ≡ option_map (renamed_held f) (get one.held i)
  pub named : (i : ℕ) → AreOf mine (get one.held i)
  pub segment : (n : ℕ) → mine n → get a.names (f n) ≡ get w.names n
  pub low : first ≤ w.next_name
  pub next : a.next_name ≡ other + (w.next_name - first)
  pub reserved : own_reserves number a.reserved ≡ own_reserves number w.reserved

-- a change of the process, and of names that are spoken of
abbrev pub IsMine : ℕ → (ℕ → Type 0) → Change → Type 0
IsMine number mine (Makes s) = Unit {0}
IsMine number mine (Resizes n size) = mine n
IsMine number mine (Locks n count) = mine n
IsMine number mine (Marks n discarded) = mine n
IsMine number mine (Holds p i h) = (p ≡ number) × mine h.name
IsMine number mine (Drops p i count) = p ≡ number
IsMine number mine (Finishes p state) = p ≡ number
IsMine number mine (Reserves r) = Unit {0}
IsMine number mine (Frees region at) = ⊥
IsMine number mine (Names text name) = Unit {0}

abbrev pub AreMine : ℕ → (ℕ → Type 0) → List Change → Type 0
AreMine number mine [] = Unit {0}
AreMine number mine (c ∷ cs) = IsMine number mine c × AreMine number mine cs

pub put_own : (ps : List Process) (number : ℕ) (x : Process) (g : Process → Process) → 0 < number → process_at ps number ≡ Some x
    → process_at (at_number number g ps) number ≡ Some (g x)
put_own ps number x g some at =
    process_is (at_number number g ps) number some
    ∙ (ap (λ (qs : List Process). slice_get qs (number - 1)) (changed_is number g ps some)
    ∙ (get-place (number - 1) (number - 1) g ps
    ∙ (if_yes (number - 1 == number - 1) (option_map g (slice_get ps (number - 1))) (slice_get ps (number - 1)) (eq-eqb (number - 1) (number - 1) refl)
    ∙ ap (option_map g) (at_place_of ps number x at))))

module _ (f : Renaming) (number : ℕ) (some : 0 < number) (mine : ℕ → Type 0) (first other : ℕ) (range : IsRange f mine first other) where
  abbrev Twins : World → World → Type 0
  Twins w a = AreTwins f number mine first other w a

  same_test : (m n : ℕ) → mine m → mine n → (f m == f n) ≡ (m == n)
  same_test m n mm mn = go (f m == f n) (m == n) refl refl
    where
      go : (x y : Bool) → (f m == f n) ≡ x → (m == n) ≡ y → x ≡ y
      go true true p q = refl
      go false false p q = refl
      go true false p q = sym (eq-eqb m n (range.apart m n mm mn (eqb-true (f m) (f n) p))) ∙ q
      go false true p q = sym p ∙ eq-eqb (f m) (f n) (ap f (eqb-true m n q))

  twin_makes : (s : Segment) (w a : World) → Twins w a → Twins (with_change w (Makes s)) (with_change a (Makes s))
  twin_makes s w a t = record {
    one = t.one;
    twin = t.twin;
    there = t.there;
    there_too = t.there_too;
    cpu = t.cpu;
    state = t.state;
    held = t.held;
    named = t.named;
    segment = λ n mn. get-put a.next_name (f n) (Some s) a.names
        ∙ (ap (λ (b : Bool). cond b (Some s) (get a.names (f n))) (ap (λ (m : ℕ). m == f n) next_is ∙ same_test w.next_name n (range.above w.next_name t.low) mn)
        ∙ (ap (λ (o : Option Segment). cond (w.next_name == n) (Some s) o) (t.segment n mn) ∙ sym (get-put w.next_name n (Some s) w.names)));
    low = let low = t.low in omega (arith, low);
    next = let low = t.low in let next = t.next in omega (arith, low, next);
    reserved = t.reserved;
  }
    where
      next_is : a.next_name ≡ f w.next_name
      next_is = t.next ∙ sym (range.fresh w.next_name t.low)

  twin_segment : (m : ℕ) (g : Segment → Segment) (w a : World) → mine m → Twins w a → Twins (with_segment w m g) (with_segment a (f m) g)
  twin_segment m g w a mm t = record {
    one = t.one;
    twin = t.twin;
    there = t.there;
    there_too = t.there_too;
    cpu = t.cpu;
    state = t.state;
    held = t.held;
    named = t.named;
    segment = λ n mn. get-at_key (f m) (f n) g a.names
        ∙ (ap (λ (b : Bool). cond b (option_map g (get a.names (f m))) (get a.names (f n))) (same_test m n mm mn)
        ∙ (ap (λ (o : Option Segment). cond (m == n) (option_map g o) (get a.names (f n))) (t.segment m mm)
        ∙ (ap (λ (o : Option Segment). cond (m == n) (option_map g (get w.names m)) o) (t.segment n mn) ∙ sym (get-at_key m n g w.names))));
    low = t.low;
    next = t.next;
    reserved = t.reserved;
  }

  twin_process : (g h : Process → Process) (w a : World) (t : Twins w a) → (h t.twin).cpu ≡ (g t.one).cpu → (h t.twin).state ≡ (g t.one).state
      → ((i : ℕ) → get (h t.twin).held i ≡ option_map (renamed_held f) (get (g t.one).held i)) → ((i : ℕ) → AreOf mine (get (g t.one).held i))
      → Twins (record w { processes = at_number number g w.processes }) (record a { processes = at_number number h a.processes })
  twin_process g h w a t cpu state held named = record {
    one = g t.one;
    twin = h t.twin;
    there = put_own w.processes number t.one g some t.there;
    there_too = put_own a.processes number t.twin h some t.there_too;
    cpu = cpu;
    state = state;
    held = held;
    named = named;
    segment = t.segment;
    low = t.low;
    next = t.next;
    reserved = t.reserved;
  }

  -- another thing under one index
  twin_held : (i : ℕ) (g h : Option Held → Option Held) (w a : World) → ((o : Option Held) → h (option_map (renamed_held f) o) ≡ option_map (renamed_held f) (g o))
      → ((o : Option Held) → AreOf mine o → AreOf mine (g o)) → Twins w a
      → Twins (with_held w number (λ (m : Map Held). put i (g (get m i)) m)) (with_held a number (λ (m : Map Held). put i (h (get m i)) m))
  twin_held i g h w a same of t =
      twin_process (λ (p : Process). record p { held = put i (g (get p.held i)) p.held }) (λ (p : Process). record p { held = put i (h (get p.held i)) p.held }) w a t t.cpu t.state
      (λ (j : ℕ). get-put i j (h (get t.twin.held i)) t.twin.held
      ∙ (ap (λ (o : Option Held). cond (i == j) (h o) (get t.twin.held j)) (t.held i)
      ∙ (ap (λ (o : Option Held). cond (i == j) (h (option_map (renamed_held f) (get t.one.held i))) o) (t.held j)
      ∙ (pick (i == j) (get t.one.held i) (get t.one.held j) ∙ ap (option_map (renamed_held f)) (sym (get-put i j (g (get t.one.held i)) t.one.held))))))
      (λ (j : ℕ). subst (AreOf mine) (sym (get-put i j (g (get t.one.held i)) t.one.held)) (pick_mine (i == j) (g (get t.one.held i)) (get t.one.held j) (of (get t.one.held i) (t.named i)) (t.named j)))
    where
      pick : (b : Bool) (x y : Option Held) → cond b (h (option_map (renamed_held f) x)) (option_map (renamed_held f) y) ≡ option_map (renamed_held f) (cond b (g x) y)
      pick true x y = same x
      pick false x y = refl

      pick_mine : (b : Bool) (x y : Option Held) → AreOf mine x → AreOf mine y → AreOf mine (cond b x y)
      pick_mine true x y p q = p
      pick_mine false x y p q = q

  twin_change : (c : Change) (w a : World) → IsMine number mine c → Twins w a → Twins (with_change w c) (with_change a (renamed_change f c))
  twin_change (Makes s) w a m t = twin_makes s w a t
  twin_change (Resizes n size) w a m t = twin_segment n (λ (s : Segment). record s { bytes = resized size s.bytes }) w a m t
  twin_change (Locks n count) w a m t = twin_segment n (λ (s : Segment). record s { lock = count }) w a m t
  twin_change (Marks n discarded) w a m t = twin_segment n (marked discarded) w a m t
  twin_change (Holds p i h) w a m t =
      subst (λ (p : ℕ). Twins (with_change w (Holds p i h)) (with_change a (Holds p i (renamed_held f h)))) (sym m.0)
      (twin_held i (more h) (more (renamed_held f h)) w a (more_renamed f h) (λ o of. more_mine mine h o m.1 of) t)
  twin_change (Drops p i count) w a m t =
      subst (λ (p : ℕ). Twins (with_change w (Drops p i count)) (with_change a (Drops p i count))) (sym m) (twin_held i (fewer count) (fewer count) w a (fewer_renamed f count) (fewer_mine mine count) t)
  twin_change (Finishes p state) w a m t =
      subst (λ (p : ℕ). Twins (with_change w (Finishes p state)) (with_change a (Finishes p state))) (sym m)
      (twin_process (λ (x : Process). record x { state = state; held = [] }) (λ (x : Process). record x { state = state; held = [] }) w a t t.cpu refl (λ i. refl) (λ i h e. cc))
  twin_change (Reserves r) w a m t = record {
    one = t.one;
    twin = t.twin;
    there = t.there;
    there_too = t.there_too;
    cpu = t.cpu;
    state = t.state;
    held = t.held;
    named = t.named;
    segment = t.segment;
    low = t.low;
    next = t.next;
    reserved = ap (λ (rs : List Reserve). cond (r.region == number) (r ∷ rs) rs) t.reserved;
  }
  twin_change (Frees region at) w a m t = absurd m
  twin_change (Names text name) w a m t = record {
    one = t.one;
    twin = t.twin;
    there = t.there;
    there_too = t.there_too;
    cpu = t.cpu;
    state = t.state;
    held = t.held;
    named = t.named;
    segment = t.segment;
    low = t.low;
    next = t.next;
    reserved = t.reserved;
  }

  pub twin_changes : (cs : List Change) (w a : World) → AreMine number mine cs → Twins w a → Twins (with_changes w cs) (with_changes a (renamed_changes f cs))
  unfolding with_changes
  twin_changes [] w a m t = t
  twin_changes (c ∷ cs) w a m t = twin_changes cs (with_change w c) (with_change a (renamed_change f c)) m.1 (twin_change c w a m.0 t)

takes_same : (f : Renaming) (c : Change) → takes (renamed_change f c) ≡ takes c
takes_same f (Makes s) = refl
takes_same f (Resizes n size) = refl
takes_same f (Locks n count) = refl
takes_same f (Marks n discarded) = refl
takes_same f (Holds p i h) = refl
takes_same f (Drops p i count) = refl
takes_same f (Finishes p state) = refl
takes_same f (Reserves r) = refl
takes_same f (Frees region at) = refl
takes_same f (Names text name) = refl

pub any_takes_same : (f : Renaming) (cs : List Change) → list_any takes (renamed_changes f cs) ≡ list_any takes cs
any_takes_same f [] = refl
any_takes_same f (c ∷ cs) =
    ap (λ (b : Bool). b || list_any takes (renamed_changes f cs)) (takes_same f c) ∙ ap (λ (b : Bool). takes c || b) (any_takes_same f cs)

pub renamed_append : (f : Renaming) (xs ys : List Change) → renamed_changes f (xs ++ ys) ≡ renamed_changes f xs ++ renamed_changes f ys
renamed_append f [] ys = refl
renamed_append f (x ∷ xs) ys = ap (λ (cs : List Change). renamed_change f x ∷ cs) (renamed_append f xs ys)
