-- A step of the process itself by which it shares nothing, in two worlds in which it is alike: it is alike in both behind it.
use Rattle.std.proofs.Common.{◌≡◌, ◌⊎◌, inl, inr, refl, sym, ◌∙◌, ap, subst, ℕ, ◌-◌, ◌≤◌, Bool, true, false, cond, List, [], ◌∷◌, ◌++◌, arith}
use Rattle.std.specs.Prelude.{Option, Some, None, option_map, is_some}
use Rattle.std.specs.List.{list_any}
use Rattle.o2_conf.specs.Dispatch.{Dispatch}
use Rattle.o2_world.specs.declared.types.State.{State}
use Rattle.o2_world.specs.Map.{get}
use Rattle.o2_world.specs.World.{World, Setting, Process, Segment, Held, is_live}
use Rattle.o2_world.specs.Holders.{is_held, process_at, with_process}
use Rattle.o2_world.specs.Sound.{held_of}
use Rattle.o2_world.specs.Tied.{IsTied}
use Rattle.o2_world.specs.Views.{hold_of, with_bytes}
use Rattle.o2_world.specs.CallParts.{Before, Effect}
use Rattle.o2_world.specs.Changes.{Change, Makes, Resizes, Locks, Marks, Holds, Drops, Finishes, Reserves, Frees, Names, swept, takes, with_all, with_changes}
use Rattle.o2_world.specs.Effect.{effect}
use Rattle.o2_world.specs.Run.{all_changes, before, changed, worked, working}
use Rattle.o2_world.proofs.MapLemmas.{get-filter, get-map, if_yes}
use Rattle.o2_world.proofs.Keeps.{held_found}
use Rattle.o2_world.proofs.Numbers.{number_some, at_place_of}
use Rattle.o2_world.proofs.StepReach.{own_at}
use Rattle.o2_alone.specs.Renaming.{Renaming, call_of, renamed_held, renamed_changes, IsRenamedEffect}
use Rattle.o2_alone.specs.Isolation.{IsLike, own_reserves}
use Rattle.o2_alone.proofs.OwnNames.{AreOfOwn, IsOfOwn, IsUnshared, RunsMayChange, effect_of_own}
use Rattle.o2_alone.proofs.OwnReserves.{twins_left}
use Rattle.o2_alone.proofs.Alikes.{IsFurther, IsSpokenOf}
use Rattle.o2_alone.proofs.Twins.{AreMine, AreTwins, IsMine, IsRange, any_takes_same, renamed_append, twin_changes}

-- What nobody holds goes, and what the process holds stays.

pub kept_here : (b : Bool) (v : World) (number : ℕ) (p : Process) (i : ℕ) (h : Held) → process_at v.processes number ≡ Some p → get p.held i ≡ Some h
    → get (cond b (swept v) v).names h.name ≡ get v.names h.name
kept_here true v number p i h at e =
    get-filter (is_held v.processes) v.names h.name
    ∙ if_yes (is_held v.processes h.name) (get v.names h.name) None
    (held_found v.processes (number - 1) i h (ap (λ (o : Option Process). held_of o i) (at_place_of v.processes number p at) ∙ e))
kept_here false v number p i h at e = refl

same_processes : (b : Bool) (v : World) (number : ℕ) → process_at (cond b (swept v) v).processes number ≡ process_at v.processes number
same_processes true v number = refl
same_processes false v number = refl

-- twins are alike, with what nobody holds in both or gone from both
twins_alike : (f : Renaming) (number : ℕ) (mine : ℕ → Type 0) (first other : ℕ) (v u : World) (b : Bool) → IsRange f mine first other → AreTwins f number mine first other v u
    → IsLike f number (cond b (swept v) v) (cond b (swept u) u)
twins_alike f number mine first other v u b range t = record {
  process = t.one;
  twin = t.twin;
  there = same_processes b v number ∙ t.there;
  there_too = same_processes b u number ∙ t.there_too;
  cpu = t.cpu;
  state = t.state;
  held = t.held;
  segment = λ (i : ℕ) (h : Held) e.
      kept_here b u number t.twin i (renamed_held f h) t.there_too (t.held i ∙ ap (option_map (renamed_held f)) e)
      ∙ (t.segment h.name (t.named i h e) ∙ sym (kept_here b v number t.one i h t.there e));
  apart = λ (i j : ℕ) (g h : Held) e k same. range.apart g.name h.name (t.named i g e) (t.named j h k) same;
  reserved = left b;
}
  where
    left : (b : Bool) → own_reserves number (cond b (swept u) u).reserved ≡ own_reserves number (cond b (swept v) v).reserved
    left true = twins_left f number v.processes u.processes t.one t.twin v.reserved u.reserved (number_some v.processes number t.one t.there) t.there t.there_too t.held t.reserved
    left false = t.reserved

none_above : (v : World) → IsTied v → (n : ℕ) → v.next_name ≤ n → get v.names n ≡ None
none_above v tied n high = go (get v.names n) refl
  where
    go : (o : Option Segment) → get v.names n ≡ o → o ≡ None
    go None e = refl
    go (Some x) e = absurd (let low = tied.below n (ap (λ (o : Option Segment). is_some o) e) in omega (arith, low, high))

-- the changes of a step of the process are such as go through
mine_changes : (b : Before) (mine : ℕ → Type 0) (cs : List Change) → ((i : ℕ) (h : Held) → b.known.held b.number i ≡ Some h → mine h.name) → ((m : ℕ) → b.known.next ≤ m → mine m) → AreOfOwn b cs → AreMine b.number mine cs
mine_changes b mine [] held next own = tt
mine_changes b mine (c ∷ cs) held next own = (one c own.0, mine_changes b mine cs held next own.1)
  where
    one : (c : Change) → IsOfOwn b c → IsMine b.number mine c
    one (Makes x) o = tt
    one (Resizes n size) o = subst mine o.named (held o.index o.hold o.there)
    one (Locks n count) o = subst mine o.named (held o.index o.hold o.there)
    one (Marks n discarded) o = subst mine o.named (held o.index o.hold o.there)
    one (Holds p i h) o = (o.0, by_name o.1.0)
      where
        by_name : (b.known.next ≤ h.name) ⊎ ((index : ℕ) × (hold : Held) × (b.known.held b.number index ≡ Some hold) × (hold.name ≡ h.name)) → mine h.name
        by_name (inl low) = next h.name low
        by_name (inr x) = subst mine x.3 (held x.0 x.1 x.2)
    one (Drops p i count) o = o
    one (Finishes p state) o = absurd o
    one (Reserves r) o = tt
    one (Frees region at) o = absurd o
    one (Names text name) o = absurd o

more_mine : (number : ℕ) (mine : ℕ → Type 0) (xs : List Change) (c : Change) → AreMine number mine xs → IsMine number mine c → AreMine number mine (xs ++ c ∷ [])
more_mine number mine [] c m one = (one, tt)
more_mine number mine (x ∷ xs) c m one = (m.0, more_mine number mine xs c m.1 one)

pub all_mine : (number : ℕ) (mine : ℕ → Type 0) (e : Effect) → AreMine number mine e.changes → AreMine number mine (all_changes number e)
all_mine number mine e m = go (is_live e.state)
  where
    go : (b : Bool) → AreMine number mine (cond b e.changes (e.changes ++ Finishes number e.state ∷ []))
    go true = m
    go false = more_mine number mine e.changes (Finishes number e.state) m refl

all_renamed : (f : Renaming) (number : ℕ) (e x : Effect) → x.state ≡ e.state → x.changes ≡ renamed_changes f e.changes → all_changes number x ≡ renamed_changes f (all_changes number e)
all_renamed f number e x state changes =
    ap (λ (z : State). cond (is_live z) x.changes (x.changes ++ Finishes number z ∷ [])) state
    ∙ (ap (λ (cs : List Change). cond (is_live e.state) cs (cs ++ Finishes number e.state ∷ [])) changes ∙ go (is_live e.state))
  where
    go : (b : Bool) → cond b (renamed_changes f e.changes) (renamed_changes f e.changes ++ Finishes number e.state ∷ []) ≡ renamed_changes f (cond b e.changes (e.changes ++ Finishes number e.state ∷ []))
    go true = refl
    go false = sym (renamed_append f e.changes (Finishes number e.state ∷ []))

module _ (s : Setting) (number : ℕ) (w a : World) (further : IsFurther number w a) (tied : IsTied w) (tied_alone : IsTied a)
    (d c : Dispatch) (is : d.current ≡ number) (is_too : c.current ≡ number) where
  abbrev g : Renaming
  g = further.names

  abbrev like : IsLike g number w a
  like = further.like

  abbrev p : Process
  p = like.process

  abbrev q : Process
  q = like.twin

  abbrev mine : ℕ → Type 0
  mine = IsSpokenOf p w.next_name

  abbrev one : Before
  one = before s w number p

  abbrev two : Before
  two = before s a number q

  abbrev range : IsRange g mine w.next_name a.next_name
  range = further.range

  module _ (same : IsRenamedEffect g one two (effect one) (effect two)) (unshared : IsUnshared one (call_of one)) (may : RunsMayChange one) where
    abbrev e : Effect
    e = effect one

    abbrev x : Effect
    x = effect two

    put_at : (v : World) (k : Dispatch) (old new : Process) → k.current ≡ number → process_at v.processes number ≡ Some old → process_at (with_process v.processes k.current new) number ≡ Some new
    put_at v k old new at there = subst (λ (n : ℕ). process_at (with_process v.processes n new) number ≡ Some new) (sym at) (own_at v.processes number old new there)

    working_state : cond (is_live x.state) x.state q.state ≡ cond (is_live e.state) e.state p.state
    working_state = ap (λ (z : State). cond (is_live z) z q.state) same.state ∙ ap (λ (z : State). cond (is_live e.state) e.state z) like.state

    same_segment : (n : ℕ) → mine n → get (with_bytes a.names x.bytes) (g n) ≡ get (with_bytes w.names e.bytes) n
    same_segment n m =
        get-map (λ (k : ℕ) (z : Segment). record z { bytes = x.bytes k }) a.names (g n) ∙ (by_name m ∙ sym (get-map (λ (k : ℕ) (z : Segment). record z { bytes = e.bytes k }) w.names n))
      where
        put_bytes : List ℕ → Option Segment → Option Segment
        put_bytes bs o = option_map (λ (z : Segment). record z { bytes = bs }) o

        by_name : mine n → put_bytes (x.bytes (g n)) (get a.names (g n)) ≡ put_bytes (e.bytes n) (get w.names n)
        by_name (inl h) =
            subst (λ (n : ℕ). put_bytes (x.bytes (g n)) (get a.names (g n)) ≡ put_bytes (e.bytes n) (get w.names n)) h.named
            (ap (λ (bs : List ℕ). put_bytes bs (get a.names (g h.hold.name))) (same.bytes (hold_of h.hold) (h.index, ap (λ (o : Option Held). option_map hold_of o) h.there))
            ∙ ap (put_bytes (e.bytes h.hold.name)) (like.segment h.index h.hold h.there))
        by_name (inr high) =
            ap (put_bytes (x.bytes (g n))) (none_above a tied_alone (g n) (let there = range.fresh n high in omega (arith, there)))
            ∙ sym (ap (put_bytes (e.bytes n)) (none_above w tied n high))

    begins : AreTwins g number mine w.next_name a.next_name (worked w d p e) (worked a c q x)
    begins = record {
      one = working p e;
      twin = working q x;
      there = put_at w d p (working p e) is like.there;
      there_too = put_at a c q (working q x) is_too like.there_too;
      cpu = same.cpu;
      state = working_state;
      held = like.held;
      named = λ (i : ℕ) (h : Held) there. inl (record { index = i; hold = h; there = there; named = refl });
      segment = same_segment;
      low = omega arith;
      next = omega arith;
      reserved = like.reserved;
    }

    all_are_mine : AreMine number mine (all_changes number e)
    all_are_mine = all_mine number mine e (mine_changes one mine e.changes known range.above (effect_of_own one may unshared))
      where
        known : (i : ℕ) (h : Held) → one.known.held number i ≡ Some h → mine h.name
        known i h there = inl (record { index = i; hold = h; there = sym (ap (λ (o : Option Process). held_of o i) like.there) ∙ there; named = refl })

    ends : AreTwins g number mine w.next_name a.next_name (with_changes (worked w d p e) (all_changes number e)) (with_changes (worked a c q x) (all_changes number x))
    ends = subst (λ (cs : List Change). AreTwins g number mine w.next_name a.next_name (with_changes (worked w d p e) (all_changes number e)) (with_changes (worked a c q x) cs))
        (sym (all_renamed g number e x same.state same.changes))
        (twin_changes g number (number_some w.processes number p like.there) mine w.next_name a.next_name range (all_changes number e) (worked w d p e) (worked a c q x) all_are_mine begins)

    same_sweep : list_any takes (all_changes number x) ≡ list_any takes (all_changes number e)
    same_sweep = ap (λ (cs : List Change). list_any takes cs) (all_renamed g number e x same.state same.changes) ∙ any_takes_same g (all_changes number e)

    behind : IsLike g number (with_all (worked w d p e) (all_changes number e)) (with_all (worked a c q x) (all_changes number x))
    behind =
        let v : World = with_changes (worked w d p e) (all_changes number e) in
        let u : World = with_changes (worked a c q x) (all_changes number x) in
        subst (λ (b : Bool). IsLike g number (with_all (worked w d p e) (all_changes number e)) (cond b (swept u) u)) (sym same_sweep)
        (twins_alike g number mine w.next_name a.next_name v u (list_any takes (all_changes number e)) range ends)

    pub own_step : IsLike g number (changed w d p (effect (before s w d.current p))) (changed a c q (effect (before s a c.current q)))
    unfolding changed
    own_step =
        subst (λ (n : ℕ). IsLike g number (with_all (worked w d p (effect (before s w n p))) (all_changes n (effect (before s w n p)))) (with_all (worked a c q (effect (before s a c.current q))) (all_changes c.current (effect (before s a c.current q))))) (sym is)
        (subst (λ (n : ℕ). IsLike g number (with_all (worked w d p e) (all_changes number e)) (with_all (worked a c q (effect (before s a n q))) (all_changes n (effect (before s a n q))))) (sym is_too) behind)
