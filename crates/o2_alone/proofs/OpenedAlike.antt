-- The world before the first step of a run, and that of the run of one process alone: the process is alike in both.
use Rattle.std.proofs.Common.{◌≡◌, ◌≢◌, ◌⊎◌, inl, inr, refl, sym, ◌∙◌, ap, subst, ℕ, zero, suc, ◌+◌, ◌-◌, ◌/◌, ◌<◌, ◌==◌, Bool, true, false, cond, List, [], ◌∷◌, ◌++◌, length, map, arith}
use Rattle.std.specs.Prelude.{Option, Some, None, option_map, not, is_some, fold, replicate, slice_get, nat_lt, Result, Ok, Err}
use Rattle.std.specs.List.{All}
use Rattle.std.proofs.lemmas.Bool.{eq-eqb, eqb-true}
use Rattle.std.proofs.lemmas.List.Elements.{All-head, All-tail}
use Rattle.o2_base.specs.declared.faults.ModuleFault.{ModuleFault}
use Rattle.o2_base.specs.declared.faults.ModuleFault.TheVariants.{NoSegment}
use Rattle.o2_conf.specs.declared.script.Word.{Word}
use Rattle.o2_desc.specs.Bits.{has_bit}
use Rattle.o2_isa.specs.declared.cpu.Cpu.{Cpu}
use Rattle.o2_isa.specs.View.{is_code, is_null, is_readable, is_writable}
use Rattle.o2_world.specs.Map.{Map, get}
use Rattle.o2_world.specs.World.{ByLoad, Cause, World, Setting, Process, Segment, Held, is_live}
use Rattle.o2_world.specs.Rulings.{by_load}
use Rattle.o2_world.specs.Holders.{is_held}
use Rattle.o2_world.specs.Known.{held_at, lives_at}
use Rattle.o2_world.specs.Sound.{HasGoodRegisters, NamesHeld, has_rights, held_in, held_of}
use Rattle.o2_world.specs.Starts.{Loaded, Start, Holding, Built, holdings, nothing_built, segment_of, named, holds_as, name_in, with_holding, with_holdings}
use Rattle.o2_world.specs.Starts.{first_process, start_check, with_started, within_names, where_checked, started_as, next_started, all_started, for_the_run, world_of}
use Rattle.o2_world.specs.Starts.{where_started, opening_of}
use Rattle.o2_world.specs.Tied.{AreLive, AreUsed, IsSound, IsTied}
use Rattle.o2_world.proofs.OpeningLoads.{opening_loads}
use Rattle.o2_world.proofs.Keeps.{held_found, some_is}
use Rattle.o2_world.proofs.Numbers.{at_place_of, process_is}
use Rattle.o2_world.proofs.Openings.{opening_sound, opening_whole}
use Rattle.o2_world.proofs.OpeningSound.{IsFitProgram, all_so_far, apart as starts_apart, free_at_first, opened}
use Rattle.o2_alone.specs.Renaming.{Renaming, renamed_held}
use Rattle.o2_alone.specs.Alone.{before_it, ended, opening_alone}
use Rattle.o2_alone.specs.Isolation.{AreFixed, AreLoadsApart, own_reserves, BeginsAlike, IsLike, IsOver, Isolation}
use Rattle.o2_alone.proofs.CommonSegments.{AreFrom, AreKept, IsFrom, below_next, holdings_from, kept_named, old_name}
use Rattle.o2_alone.proofs.StartsAlike.{Alike, ArePairs, IsNamedIn, all_alike, count_below, count_most}
use Rattle.o2_alone.proofs.Isolated.{is_isolated}

-- Lists with one process behind those that have ended.

behind_is : {X : Type 0} (n : ℕ) (x y : X) → slice_get (replicate n x ++ y ∷ []) n ≡ Some y
behind_is zero x y = refl
behind_is (suc n) x y = behind_is n x y

-- what is at another place is one of those in front
front_is : {X : Type 0} (n place : ℕ) (x y z : X) → place ≢ n → slice_get (replicate n x ++ y ∷ []) place ≡ Some z → x ≡ z
front_is zero zero x y z other e = absurd (other refl)
front_is zero (suc place) x y z other e = cc
front_is (suc n) zero x y z other e = some_is x z (Some x) refl e
front_is (suc n) (suc place) x y z other e = front_is n place x y z (λ same. other (ap suc same)) e

append_get : {X : Type 0} (xs : List X) (y z : X) (place : ℕ) → slice_get xs place ≡ Some z → slice_get (xs ++ y ∷ []) place ≡ Some z
append_get [] y z place e = cc
append_get (x ∷ xs) y z zero e = e
append_get (x ∷ xs) y z (suc place) e = append_get xs y z place e

last_get : {X : Type 0} (xs : List X) (y : X) (place : ℕ) → place ≡ length xs → slice_get (xs ++ y ∷ []) place ≡ Some y
last_get [] y zero e = refl
last_get [] y (suc place) e = absurd (let no : suc place ≡ 0 = e in omega (arith, no))
last_get (x ∷ xs) y zero e = absurd (let no : 0 ≡ suc (length xs) = e in omega (arith, no))
last_get (x ∷ xs) y (suc place) e = last_get xs y place (let same : suc place ≡ suc (length xs) = e in omega (arith, same))

-- The names that a start leaves.

-- one segment more: the names are as they were, or there is one more
by_holding : (P : Map Segment → ℕ → Type 0) (b : Built) (h : Holding) → P b.names b.next_name → P ((b.next_name, segment_of h) ∷ b.names) (b.next_name + 1)
    → P (with_holding b h).names (with_holding b h).next_name
by_holding P b h old new = go (cond h.common (name_in b.made h.place h.number) None)
  where
    go : (o : Option ℕ) → P (holds_as b h o).names (holds_as b h o).next_name
    go (Some name) = old
    go None = new

-- what is kept through each start
pub record IsReady (modules : ℕ → Loaded) (b : Built) : Type 0 where
  pub kept : AreKept modules b.names b.next_name b.made
  pub nothing : b.held ≡ []

kept_one : (modules : ℕ → Loaded) (b : Built) (h : Holding) → IsFrom modules h → AreKept modules b.names b.next_name b.made
    → AreKept modules (with_holding b h).names (with_holding b h).next_name (with_holding b h).made
kept_one modules b h from kept = go (cond h.common (name_in b.made h.place h.number) None)
  where
    go : (o : Option ℕ) → AreKept modules (holds_as b h o).names (holds_as b h o).next_name (holds_as b h o).made
    go (Some name) = kept
    go None = kept_named modules b.names b.next_name b.made h from kept

kept_all : (modules : ℕ → Loaded) (hs : List Holding) (b : Built) → AreFrom modules hs → AreKept modules b.names b.next_name b.made
    → AreKept modules (with_holdings b hs).names (with_holdings b hs).next_name (with_holdings b hs).made
kept_all modules [] b from kept = kept
kept_all modules (h ∷ hs) b from kept = kept_all modules hs (with_holding b h) from.1 (kept_one modules b h from.0 kept)

ready_next : (modules : ℕ → Loaded) (pid : ℕ) (s : Start) (b : Built) → IsOver modules s → IsReady modules b → IsReady modules (with_started pid s (with_holdings b (holdings pid s)))
ready_next modules pid s b over ready = record { kept = kept_all modules (holdings pid s) b (holdings_from modules pid s over) ready.kept; nothing = refl }

-- A process that has started, with the names that it holds.
pub record IsSettled (names : Map Segment) (place : ℕ) (p : Process) (b : Built) : Type 0 where
  pub there : slice_get b.processes place ≡ Some p
  pub same : (q : ℕ) → is_some (get names q) ≡ true → get b.names q ≡ get names q
  pub below : (q : ℕ) → is_some (get b.names q) ≡ true → q < b.next_name

abbrev AreStill : Map Segment → Map Segment → ℕ → Type 0
AreStill names new next = ((q : ℕ) → is_some (get names q) ≡ true → get new q ≡ get names q) × ((q : ℕ) → is_some (get new q) ≡ true → q < next)

still_one : (names : Map Segment) (b : Built) (h : Holding) → AreStill names b.names b.next_name → AreStill names (with_holding b h).names (with_holding b h).next_name
still_one names b h still = by_holding (AreStill names) b h still
    ((λ q e. old_name b.names b.next_name (segment_of h) q (still.1 q (ap (λ (o : Option Segment). is_some o) (still.0 q e) ∙ e)) ∙ still.0 q e), below_next b.names b.next_name (segment_of h) still.1)

still_all : (names : Map Segment) (hs : List Holding) (b : Built) → AreStill names b.names b.next_name → AreStill names (with_holdings b hs).names (with_holdings b hs).next_name
still_all names [] b still = still
still_all names (h ∷ hs) b still = still_all names hs (with_holding b h) (still_one names b h still)

same_processes : (hs : List Holding) (b : Built) → (with_holdings b hs).processes ≡ b.processes
same_processes [] b = refl
same_processes (h ∷ hs) b = same_processes hs (with_holding b h) ∙ one (cond h.common (name_in b.made h.place h.number) None)
  where
    one : (o : Option ℕ) → (holds_as b h o).processes ≡ b.processes
    one (Some name) = refl
    one None = refl

settled_next : (names : Map Segment) (place : ℕ) (p : Process) (pid : ℕ) (s : Start) (b : Built) → IsSettled names place p b
    → IsSettled names place p (with_started pid s (with_holdings b (holdings pid s)))
settled_next names place p pid s b settled =
    let still = still_all names (holdings pid s) b (settled.same, settled.below) in
    record {
      there = append_get (with_holdings b (holdings pid s)).processes _ p place (ap (λ (ps : List Process). slice_get ps place) (same_processes (holdings pid s) b) ∙ settled.there);
      same = still.0;
      below = still.1;
    }

-- A start that isn't refused.

record HasStarted (most pid : ℕ) (s : Start) (b next : Built) : Type 0 where
  unit : Unit {0}
  checked : start_check s.program ≡ Ok unit
  room : nat_lt most (with_holdings b (holdings pid s)).next_name ≡ false
  is : next ≡ with_started pid s (with_holdings b (holdings pid s))

has_started : (most pid : ℕ) (s : Start) (b next : Built) → started_as most pid s b ≡ Ok next → HasStarted most pid s b next
has_started most pid s b next = by_check (start_check s.program) refl
  where
    c : Built
    c = with_holdings b (holdings pid s)

    built_in : Result Built (ℕ × ModuleFault) → Built
    built_in (Ok x) = x
    built_in (Err fault) = next

    by_room : (u : Unit {0}) (t : Bool) → start_check s.program ≡ Ok u → nat_lt most c.next_name ≡ t → cond {A = Result Built (ℕ × ModuleFault)} t (Err (pid, NoSegment)) (Ok (with_started pid s c)) ≡ Ok next → HasStarted most pid s b next
    by_room u true check is e = absurd (cc)
    by_room u false check is e = record { unit = u; checked = check; room = is; is = sym (ap built_in e) }

    by_check : (r : Result (Unit {0}) ModuleFault) → start_check s.program ≡ r → where_checked pid r (within_names most pid s c) ≡ Ok next → HasStarted most pid s b next
    by_check (Err fault) is e = absurd (cc)
    by_check (Ok u) is e = by_room u (nat_lt most c.next_name) is refl e

refused_stays : (most : ℕ) (starts : List Start) (fault : ℕ × ModuleFault) (last : Built) → fold (next_started most) (Err fault) starts ≡ Ok last → ⊥
refused_stays most [] fault last e = cc
refused_stays most (s ∷ starts) fault last e = refused_stays most starts fault last e

not_refused : (most : ℕ) (starts : List Start) (r : Result Built (ℕ × ModuleFault)) (last : Built) → fold (next_started most) r starts ≡ Ok last → (b : Built) × (r ≡ Ok b)
not_refused most starts (Ok b) last e = (b, refl)
not_refused most starts (Err fault) last e = absurd (refused_stays most starts fault last e)

one_start : (most : ℕ) (s : Start) (starts : List Start) (b last : Built) → fold (next_started most) (Ok b) (s ∷ starts) ≡ Ok last
    → HasStarted most (length b.processes + 1) s b (with_started (length b.processes + 1) s (with_holdings b (holdings (length b.processes + 1) s)))
    × (fold (next_started most) (Ok (with_started (length b.processes + 1) s (with_holdings b (holdings (length b.processes + 1) s)))) starts ≡ Ok last)
one_start most s starts b last e =
    let pid : ℕ = length b.processes + 1 in
    let next = not_refused most starts (started_as most pid s b) last e in
    let started = has_started most pid s b next.0 next.1 in (
      subst (HasStarted most pid s b) started.is started,
      ap (λ (x : Built). fold (next_started most) (Ok x) starts) (sym started.is) ∙ (ap (λ (r : Result Built (ℕ × ModuleFault)). fold (next_started most) r starts) (sym next.1) ∙ e),
    )

-- later starts leave what has started
settled_last : (most : ℕ) (names : Map Segment) (place : ℕ) (p : Process) (starts : List Start) (b last : Built) → IsSettled names place p b
    → fold (next_started most) (Ok b) starts ≡ Ok last → IsSettled names place p last
settled_last most names place p [] b last settled e = subst (IsSettled names place p) (is e) settled
  where
    built_in : Result Built (ℕ × ModuleFault) → Built
    built_in (Ok x) = x
    built_in (Err fault) = last

    is : ◌≡◌ {A = Result Built (ℕ × ModuleFault)} (Ok b) (Ok last) → b ≡ last
    is e = ap built_in e
settled_last most names place p (s ∷ starts) b last settled e =
    let one = one_start most s starts b last e in
    settled_last most names place p starts _ last (settled_next names place p (length b.processes + 1) s b settled) one.1

-- Before the process starts, both have nothing of it.

none_counted : (n : ℕ) → count_below (λ (k : ℕ). false) n ≡ 0
none_counted zero = refl
none_counted (suc n) = let ih = none_counted n in omega (arith, ih)

first_pairs : (number : ℕ) (b : Built) → b.held ≡ [] → ArePairs (λ (n : ℕ). 0) b (before_it number)
first_pairs number b none = record {
  held = λ (i : ℕ). ap (λ (m : Map Held). option_map (renamed_held (λ (n : ℕ). 0)) (get m i)) (sym none);
  segment = λ i h e. absurd (nothing i h e);
  lives = λ i h e. absurd (nothing i h e);
  apart = λ i j g h e u same. absurd (nothing i g e);
  made = λ place number x e. absurd (cc);
  back = λ place number m e a. absurd (nothing a.index a.hold a.there);
  names = λ q e. absurd (cc);
  below = λ q e. absurd (cc);
  spoken = λ (n : ℕ). false;
  truly = λ n e. absurd (cc);
  counted = sym (none_counted b.next_name);
}
  where
    nothing : (i : ℕ) (h : Held) → get b.held i ≡ Some h → ⊥
    nothing i h e = let no : ◌≡◌ {A = Option Held} None (Some h) = ap (λ (m : Map Held). get m i) (sym none) ∙ e in cc

-- Where the process starts among others.
record StartsAmong (modules : ℕ → Loaded) (most number : ℕ) (start : Start) (last : Built) : Type 0 where
  among : Built
  unit : Unit {0}
  checked : start_check start.program ≡ Ok unit
  room : nat_lt most among.next_name ≡ false
  alike : Alike modules among (with_holdings (before_it number) (holdings number start))
  settled : IsSettled among.names (number - 1) (first_process start among.held) last

starts_among : (modules : ℕ → Loaded) (most number : ℕ) (start : Start) (starts : List Start) (k : ℕ) (b last : Built) → IsReady modules b → All (IsOver modules) starts → All IsFitProgram starts
    → fold (next_started most) (Ok b) starts ≡ Ok last → slice_get starts k ≡ Some start → length b.processes + k + 1 ≡ number → StartsAmong modules most number start last
starts_among modules most number start [] k b last ready over fit e at is = absurd (cc)
starts_among modules most number start (s ∷ starts) zero b last ready over fit e at is =
    subst (λ (s : Start). StartsAmong modules most number s last) (some_is s start (Some s) refl at)
    (subst (λ (pid : ℕ). StartsAmong modules most pid s last) (same_pid is) here)
  where
    pid : ℕ
    pid = length b.processes + 1

    same_pid : length b.processes + 0 + 1 ≡ number → length b.processes + 1 ≡ number
    same_pid is = omega (arith, is)

    c : Built
    c = with_holdings b (holdings pid s)

    here : StartsAmong modules most pid s last
    here =
        let one = one_start most s starts b last e in
        let both = all_alike modules (holdings pid s) b (before_it pid) (holdings_from modules pid s (All-head (IsOver modules) s starts over))
        (starts_apart pid s one.0.unit one.0.checked (All-head IsFitProgram s starts fit)) (free_at_first b.held (holdings pid s) ready.nothing)
        (record { names = λ (n : ℕ). 0; pairs = first_pairs pid b ready.nothing; kept = ready.kept }) in
        record {
          among = c;
          unit = one.0.unit;
          checked = one.0.checked;
          room = one.0.room;
          alike = both;
          settled = settled_last most c.names (pid - 1) (first_process s c.held) starts (with_started pid s c) last (record {
            there = last_get c.processes (first_process s c.held) (pid - 1) (let same = ap (λ (ps : List Process). length ps) (same_processes (holdings pid s) b) in omega (arith, same));
            same = λ q e. refl;
            below = both.kept.below;
          }) one.1;
        }
starts_among modules most number start (s ∷ starts) (suc k) b last ready over fit e at is =
    let pid : ℕ = length b.processes + 1 in
    let one = one_start most s starts b last e in
    starts_among modules most number start starts k (with_started pid s (with_holdings b (holdings pid s))) last
    (ready_next modules pid s b (All-head (IsOver modules) s starts over) ready) (All-tail (IsOver modules) s starts over) (All-tail IsFitProgram s starts fit) one.1 at
    (let more = one_longer (with_holdings b (holdings pid s)).processes (first_process s (with_holdings b (holdings pid s)).held) in
    let same = ap (λ (ps : List Process). length ps) (same_processes (holdings pid s) b) in
    omega (arith, more, same, is))
  where
    one_longer : (ps : List Process) (p : Process) → length (ps ++ p ∷ []) ≡ length ps + 1
    one_longer [] p = refl
    one_longer (x ∷ ps) p = let ih = one_longer ps p in omega (arith, ih)

-- Soundness of the world alone, by that of the other.

named_too : (f : Renaming) (p q : Process) (ok : ℕ → Bool) (s : ℕ) → ((i : ℕ) → get q.held i ≡ option_map (renamed_held f) (get p.held i)) → NamesHeld p ok s → NamesHeld q ok s
named_too f p q ok s held named = (named.0, ap (has_rights ok) (held (s / 8)) ∙ (same (get p.held (s / 8)) ∙ named.1))
  where
    same : (o : Option Held) → has_rights ok (option_map (renamed_held f) o) ≡ has_rights ok o
    same None = refl
    same (Some h) = refl

good_too : (f : Renaming) (p q : Process) → q.cpu ≡ p.cpu → ((i : ℕ) → get q.held i ≡ option_map (renamed_held f) (get p.held i)) → HasGoodRegisters p → HasGoodRegisters q
good_too f p q cpu held good =
    subst (λ (c : Cpu). HasGoodRegisters (record q { cpu = c })) (sym cpu)
    record {
      cs = named_too f p (record q { cpu = p.cpu }) is_code p.cpu.cs held good.cs;
      cs_ring = good.cs_ring;
      ss = named_too f p (record q { cpu = p.cpu }) is_writable p.cpu.ss held good.ss;
      ss_ring = good.ss_ring;
      ds = by_case p.cpu.ds good.ds;
      es = by_case p.cpu.es good.es;
    }
  where
    by_case : (s : ℕ) → (is_null s ≡ true) ⊎ NamesHeld p is_readable s → (is_null s ≡ true) ⊎ NamesHeld (record q { cpu = p.cpu }) is_readable s
    by_case s (inl null) = inl null
    by_case s (inr named) = inr (named_too f p (record q { cpu = p.cpu }) is_readable s held named)

-- what is held alone stands for something that is held among others
record IsTwin (f : Renaming) (p : Process) (i : ℕ) (k : Held) : Type 0 where
  hold : Held
  there : get p.held i ≡ Some hold
  is : renamed_held f hold ≡ k

-- what a world alone has
pub record HasOnly (f : Renaming) (number : ℕ) (p : Process) (a : World) : Type 0 where
  others : (place : ℕ) (x : Process) → place + 1 ≢ number → slice_get a.processes place ≡ Some x → (x.held ≡ []) × (is_live x.state ≡ false)
  named : (q : ℕ) → is_some (get a.names q) ≡ true → (m : ℕ) × IsNamedIn p.held m × (f m ≡ q)
  below : (q : ℕ) → is_some (get a.names q) ≡ true → q < a.next_name
  texts : a.texts ≡ []
  used : AreUsed a.processes a.reserved

module _ (f : Renaming) (number : ℕ) (w a : World) (like : IsLike f number w a) (sound : IsSound w) (live : is_live like.process.state ≡ true) (only : HasOnly f number like.process a)
    (whole : (n : ℕ) (z : Segment) → get w.names n ≡ Some z → z.discarded ≡ false) where
  abbrev p : Process
  p = like.process

  abbrev q : Process
  q = like.twin

  at_w : slice_get w.processes (number - 1) ≡ Some p
  at_w = at_place_of w.processes number p like.there

  at_a : slice_get a.processes (number - 1) ≡ Some q
  at_a = at_place_of a.processes number q like.there_too

  twin_of : (i : ℕ) (k : Held) → get q.held i ≡ Some k → IsTwin f p i k
  twin_of i k e = go (get p.held i) refl (sym (like.held i) ∙ e)
    where
      go : (o : Option Held) → get p.held i ≡ o → option_map (renamed_held f) o ≡ Some k → IsTwin f p i k
      go None there e = absurd (cc)
      go (Some h) there e = record { hold = h; there = there; is = some_is (renamed_held f h) k (Some (renamed_held f h)) refl e }

  place_is : (place : ℕ) → (t : Bool) → (place + 1 == number) ≡ t → (place ≡ number - 1) ⊎ (place + 1 ≢ number)
  place_is place true is = inl (let same = eqb-true (place + 1) number is in omega (arith, same))
  place_is place false is = inr (λ same. absurd (let no : true ≡ false = sym (eq-eqb (place + 1) number same) ∙ is in cc))

  -- whoever holds something is the process
  holder : (place i : ℕ) (k : Held) → held_in a.processes place i ≡ Some k → get q.held i ≡ Some k
  holder place i k e = go (place_is place (place + 1 == number) refl) (slice_get a.processes place) refl e
    where
      go : (place ≡ number - 1) ⊎ (place + 1 ≢ number) → (o : Option Process) → slice_get a.processes place ≡ o → held_of o i ≡ Some k → get q.held i ≡ Some k
      go (inl is) o at e = ap (λ (o : Option Process). held_of o i) (sym at_a ∙ (ap (λ (n : ℕ). slice_get a.processes n) (sym is) ∙ at)) ∙ e
      go (inr other) None at e = absurd (cc)
      go (inr other) (Some x) at e =
          let none = (only.others place x other at).0 in
          absurd (let no : ◌≡◌ {A = Option Held} None (Some k) = ap (λ (m : Map Held). get m i) (sym none) ∙ e in cc)

  segment_of_twin : (i : ℕ) (k : Held) (t : IsTwin f p i k) → get a.names k.name ≡ get w.names t.hold.name
  segment_of_twin i k t = ap (λ (h : Held). get a.names h.name) (sym t.is) ∙ like.segment i t.hold t.there

  held_w : (i : ℕ) (k : Held) (t : IsTwin f p i k) → held_in w.processes (number - 1) i ≡ Some t.hold
  held_w i k t = ap (λ (o : Option Process). held_of o i) at_w ∙ t.there

  tied_alone : IsTied a
  tied_alone = record {
    held = λ place i k e.
        let t = twin_of i k (holder place i k e) in
        let old = sound.tied.held (number - 1) i t.hold (held_w i k t) in
        (ap (λ (o : Option Segment). is_some o) (segment_of_twin i k t) ∙ old.0, subst (λ (h : Held). 0 < h.holds) t.is old.1);
    below = only.below;
    sized = λ n z e.
        let m = only.named n (ap (λ (o : Option Segment). is_some o) e) in
        sound.tied.sized m.1.hold.name z (sym (like.segment m.1.index m.1.hold m.1.there) ∙ (ap (λ (n : ℕ). get a.names n) (ap f m.1.named ∙ m.2) ∙ e));
    clean = λ place i k z e there clean.
        let t = twin_of i k (holder place i k e) in
        ap (λ (h : Held). is_writable h.rights) (sym t.is) ∙ sound.tied.clean (number - 1) i t.hold z (held_w i k t) (sym (segment_of_twin i k t) ∙ there) clean;
    one = λ place other i h k big e u. inl (ap (λ (h : Held). h.name) (some_is h k (get q.held i) (holder place i h e) (holder other i k u)));
    texts = subst (AreLive a.names) (sym only.texts) tt;
    ended = λ place x at dead. by_ended place (place_is place (place + 1 == number) refl) x at dead;
    registers = λ place x at lives. by_live place (place_is place (place + 1 == number) refl) x at lives;
  }
    where
      is_twin : (place : ℕ) (x : Process) → place ≡ number - 1 → slice_get a.processes place ≡ Some x → q ≡ x
      is_twin place x is at = some_is q x (slice_get a.processes (number - 1)) at_a (ap (λ (n : ℕ). slice_get a.processes n) (sym is) ∙ at)

      alive : is_live q.state ≡ true
      alive = ap is_live like.state ∙ live

      by_ended : (place : ℕ) → (place ≡ number - 1) ⊎ (place + 1 ≢ number) → (x : Process) → slice_get a.processes place ≡ Some x → is_live x.state ≡ false → x.held ≡ []
      by_ended place (inl is) x at dead = absurd (let no : true ≡ false = sym alive ∙ (ap (λ (x : Process). is_live x.state) (is_twin place x is at) ∙ dead) in cc)
      by_ended place (inr other) x at dead = (only.others place x other at).0

      by_live : (place : ℕ) → (place ≡ number - 1) ⊎ (place + 1 ≢ number) → (x : Process) → slice_get a.processes place ≡ Some x → is_live x.state ≡ true → HasGoodRegisters x
      by_live place (inl is) x at lives = subst HasGoodRegisters (is_twin place x is at) (good_too f p q like.cpu like.held (sound.tied.registers (number - 1) p at_w live))
      by_live place (inr other) x at lives = absurd (let no : true ≡ false = sym lives ∙ (only.others place x other at).1 in cc)

  pub sound_too : IsSound a
  sound_too = record {
    tied = tied_alone;
    swept = record {
      named = λ n e.
          let m = only.named n e in
          subst (λ (n : ℕ). is_held a.processes n ≡ true) (ap f m.1.named ∙ m.2)
          (held_found a.processes (number - 1) m.1.index (renamed_held f m.1.hold)
          (ap (λ (o : Option Process). held_of o m.1.index) at_a ∙ (like.held m.1.index ∙ ap (option_map (renamed_held f)) m.1.there)));
      used = only.used;
    };
    discarded = record {
      each = λ n z e gone.
          let m = only.named n (ap (λ (o : Option Segment). is_some o) e) in
          let there = sym (like.segment m.1.index m.1.hold m.1.there) ∙ (ap (λ (n : ℕ). get a.names n) (ap f m.1.named ∙ m.2) ∙ e) in
          absurd (let no : true ≡ false = sym gone ∙ whole m.1.hold.name z there in cc);
    };
  }

-- Marks of what is made at a start.

fixed_one : (b : Built) (h : Holding) → AreFixed b.names → AreFixed (with_holding b h).names
fixed_one b h fixed = by_holding (λ (names : Map Segment) (next : ℕ). AreFixed names) b h fixed (λ q z e. go (b.next_name == q) q z e)
  where
    go : (t : Bool) (q : ℕ) (z : Segment) → cond t (Some (segment_of h)) (get b.names q) ≡ Some z → z.clean ≡ true → has_bit z.flags 2 ≡ false
    go true q z e clean = subst (λ (z : Segment). has_bit z.flags 2 ≡ false) (some_is (segment_of h) z (Some (segment_of h)) refl e) refl
    go false q z e clean = fixed q z e clean

fixed_all : (hs : List Holding) (b : Built) → AreFixed b.names → AreFixed (with_holdings b hs).names
fixed_all [] b fixed = fixed
fixed_all (h ∷ hs) b fixed = fixed_all hs (with_holding b h) (fixed_one b h fixed)

opened_fixed : (s : Setting) (reserved : List (ℕ × ℕ)) (script : List Word) (input : List ℕ) (starts : List Start) (w : World) → opening_of s reserved script input starts ≡ Ok w → AreFixed w.names
unfolding all_started
opened_fixed s reserved script input starts w e =
    opened (λ (w : World). AreFixed w.names) (λ (b : Built). AreFixed b.names) reserved script s.budget input (fold (next_started s.segments) (Ok nothing_built) starts) w (λ b fixed. fixed)
    (all_so_far (λ (b : Built). AreFixed b.names) (λ (s : Start). Unit {0}) s.segments starts (Ok nothing_built) (λ b s u is q fixed. fixed_all (holdings (length b.processes + 1) s) b fixed) (λ k d low. tt) (λ q z e. absurd (cc))) e

no_hold : (h : Held) → ◌≡◌ {A = Option Held} None (Some h) → ⊥
no_hold h e = cc

opened_apart : (s : Setting) (reserved : List (ℕ × ℕ)) (script : List Word) (input : List ℕ) (starts : List Start) (w : World) → opening_of s reserved script input starts ≡ Ok w → AreLoadsApart w
opened_apart s reserved script input starts w e = record {
  clean = λ n i h there called. absurd (by_cause h.cause (loads n i h there).0 called);
  runs = λ n i h there run. absurd (no_run h.reserved (loads n i h there).1 run);
}
  where
    to_place : (ps : List Process) (n i : ℕ) (h : Held) → held_at ps n i ≡ Some h → held_in ps (n - 1) i ≡ Some h
    to_place ps n i h e = go (n == 0) e
      where
        go : (b : Bool) → held_of (cond b None (slice_get ps (n - 1))) i ≡ Some h → held_of (slice_get ps (n - 1)) i ≡ Some h
        go true q = absurd (no_hold h q)
        go false q = q

    loads : (n i : ℕ) (h : Held) → held_at w.processes n i ≡ Some h → (h.cause ≡ ByLoad) × (h.reserved ≡ 0)
    loads n i h there = opening_loads s reserved script input starts w e (n - 1) i h (to_place w.processes n i h there)

    by_cause : (c : Cause) → c ≡ ByLoad → by_load c ≡ false → ⊥
    by_cause c e f = (let no : true ≡ false = sym (ap by_load e) ∙ f in cc)

    no_run : (c : ℕ) → c ≡ 0 → not (c == 0) ≡ true → ⊥
    no_run c e f = (let z : (c == 0) ≡ true = grind arith in let no : false ≡ true = sym (ap not z) ∙ f in cc)

all_used : (ps : List Process) (rs : List (ℕ × ℕ)) → AreUsed ps (map for_the_run rs)
all_used ps [] = tt
all_used ps (r ∷ rs) = (refl, all_used ps rs)

-- Both openings.

record HasOpened (s : Setting) (reserved : List (ℕ × ℕ)) (script : List Word) (input : List ℕ) (starts : List Start) (w : World) : Type 0 where
  last : Built
  started : fold (next_started s.segments) (Ok nothing_built) starts ≡ Ok last
  is : w ≡ world_of reserved script s.budget input last

has_opened : (s : Setting) (reserved : List (ℕ × ℕ)) (script : List Word) (input : List ℕ) (starts : List Start) (w : World) → opening_of s reserved script input starts ≡ Ok w → HasOpened s reserved script input starts w
unfolding all_started
has_opened s reserved script input starts w e = go (fold (next_started s.segments) (Ok nothing_built) starts) refl e
  where
    world_in : Result World (ℕ × ModuleFault) → World
    world_in (Ok x) = x
    world_in (Err fault) = w

    go : (r : Result Built (ℕ × ModuleFault)) → fold (next_started s.segments) (Ok nothing_built) starts ≡ r → where_started reserved script s.budget input r ≡ Ok w → HasOpened s reserved script input starts w
    go (Ok b) is e = record { last = b; started = is; is = sym (ap world_in e) }
    go (Err fault) is e = absurd (cc)

first_ready : (modules : ℕ → Loaded) → IsReady modules nothing_built
first_ready modules = record {
  kept = record { below = λ q e. absurd (cc); made_of = λ place number name e. absurd (cc); apart = λ p n q m name e u. absurd (cc) };
  nothing = refl;
}

pub isolation : Isolation
isolation modules s reserved script input starts w apart fit of over e number start some at = record {
  world = alone;
  begins = begins;
  isolated = is_isolated s w alone number alike;
}
  where
    o : HasOpened s reserved script input starts w
    o = has_opened s reserved script input starts w e

    st : StartsAmong modules s.segments number start o.last
    st = starts_among modules s.segments number start starts (number - 1) nothing_built o.last (first_ready modules) over fit o.started at (omega (arith, some))

    c : Built
    c = with_holdings (before_it number) (holdings number start)

    alone : World
    alone = world_of reserved [] s.budget input (with_started number start c)

    few : nat_lt s.segments c.next_name ≡ false
    few =
        let room = st.room in
        let all = st.alike.pairs.counted in
        let most = count_most st.alike.pairs.spoken st.among.next_name in
        grind (arith, room, all, most)

    begins : opening_alone s reserved input number start ≡ Ok alone
    begins =
        ap (λ (r : Result (Unit {0}) ModuleFault). where_started reserved [] s.budget input (where_checked number r (within_names s.segments number start c))) st.checked
        ∙ ap (λ (t : Bool). where_started reserved [] s.budget input (cond t (Err (number, NoSegment)) (Ok (with_started number start c)))) few

    processes_are : c.processes ≡ replicate (number - 1) ended
    processes_are = same_processes (holdings number start) (before_it number)

    like : IsLike st.alike.names number w alone
    like = record {
      process = first_process start st.among.held;
      twin = first_process start c.held;
      there = process_is w.processes number some ∙ (ap (λ (v : World). slice_get v.processes (number - 1)) o.is ∙ st.settled.there);
      there_too = process_is alone.processes number some
          ∙ (ap (λ (ps : List Process). slice_get (ps ++ first_process start c.held ∷ []) (number - 1)) processes_are ∙ behind_is (number - 1) ended (first_process start c.held));
      cpu = refl;
      state = refl;
      held = st.alike.pairs.held;
      segment = λ (i : ℕ) (h : Held) there.
          st.alike.pairs.segment i h there ∙ (sym (st.settled.same h.name (st.alike.pairs.lives i h there)) ∙ ap (λ (v : World). get v.names h.name) (sym o.is));
      apart = st.alike.pairs.apart;
      reserved = sym (ap (λ (v : World). own_reserves number v.reserved) o.is);
    }

    sound : IsSound w
    sound = opening_sound modules s reserved script input starts w apart fit of e

    front : (place : ℕ) (x : Process) → place + 1 ≢ number → slice_get alone.processes place ≡ Some x → ended ≡ x
    front place x other there = front_is (number - 1) place ended (first_process start c.held) x (λ same. other (omega (arith, same, some)))
        (ap (λ (ps : List Process). slice_get (ps ++ first_process start c.held ∷ []) place) (sym processes_are) ∙ there)

    only : HasOnly st.alike.names number (first_process start st.among.held) alone
    only = record {
      others = λ place x other there. subst (λ (x : Process). (x.held ≡ []) × (is_live x.state ≡ false)) (front place x other there) (refl, refl);
      named = st.alike.pairs.names;
      below = st.alike.pairs.below;
      texts = refl;
      used = all_used alone.processes reserved;
    }

    alike : BeginsAlike number w alone
    alike = record {
      names = st.alike.names;
      like = like;
      sound = sound;
      sound_alone = sound_too st.alike.names number w alone like sound refl only (opening_whole modules s reserved script input starts w of e);
      fixed = opened_fixed s reserved script input starts w e;
      loads = opened_apart s reserved script input starts w e;
      is_alone = record { script = refl; others = λ place other. dead place other (slice_get alone.processes place) refl };
      budget = let same = ap (λ (v : World). v.dispatch.budget) o.is in omega (arith, same);
    }
      where
        dead : (place : ℕ) → place + 1 ≢ number → (x : Option Process) → slice_get alone.processes place ≡ x → lives_at x ≡ false
        dead place other None there = refl
        dead place other (Some x) there = subst (λ (x : Process). is_live x.state ≡ false) (front place x other there) refl
