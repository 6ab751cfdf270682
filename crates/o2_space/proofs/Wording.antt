-- What the script's word leaves: the machine's test is the world's, and number by number it comes to the world behind the word.
use Rattle.std.proofs.Common.{◌≡◌, ◌≢◌, inl, inr, ℕ, suc, ◌+◌, ◌-◌, ◌/◌, ◌==◌, ◌&&◌, ◌||◌, Bool, true, false, not, List, [], ◌∷◌, length, Option, Some, None, is_some, IsSome, option_map, if◌then◌else◌, ap, sym, ◌∙◌, refl, subst, arith}
use mathlib.Core.Path.{fun_ext}
use Rattle.std.specs.List.{list_any}
use Rattle.std.specs.Prelude.{nat_lt, slice_get}
use Rattle.std.proofs.lemmas.List.{length-set}
use Rattle.std.proofs.lemmas.Bool.{cases_eq, eq-eqb, eqb-true, false≢true}
use Rattle.o2_desc.specs.Bits.{has_bit}
use Rattle.o2_isa.specs.View.{Hold, bound_in, bound_registers}
use Rattle.o2_segbus.proofs.Holds.{bound_is}
use Rattle.o2_segbus.specs.Bus.{held_under}
use Rattle.o2_entries.specs.declared.Attr.{Attr}
use Rattle.o2_entries.specs.declared.Entry.{Entry}
use Rattle.o2_entries.specs.Tables.{slot_at}
use Rattle.o2_place.specs.declared.seg_id.SegId.{SegId}
use Rattle.o2_regions.specs.declared.held.Held.{Held as HeldThere}
use Rattle.o2_regions.specs.Maps.{Maps, held_at as held_there}
use Rattle.o2_segbus.specs.Seen.{hold_in, hold_of as hold_there, key_of}
use Rattle.o2_store.specs.Shelf.{Shelf, Discards, IsDiscardable, aged, discarded_entry, entry, entry_of, entry_or, numbered}
use Rattle.o2_store.proofs.Tables.{slot-set_same}
use Rattle.o2_store.specs.Needs.{has_age}
use Rattle.o2_changes.proofs.Keys.{aged_has, has_is, key_has, live_key, other_key, same_key}
use Rattle.o2_world.specs.Changes.{marked}
use Rattle.o2_world.specs.Discards.{all_discarded, behind_discard, goes, has_seated, is_of, is_seated, seats}
use Rattle.o2_world.specs.Holders.{process_at}
use Rattle.o2_world.specs.Map.{Map, at_key, get}
use Rattle.o2_world.specs.Sound.{held_of as held_by}
use Rattle.o2_world.specs.Views.{hold_of, holds_in}
use Rattle.o2_world.specs.World.{Process, Reserve, Segment, World, is_live}
use Rattle.o2_world.proofs.Discarding.{get_discarded}
use Rattle.o2_world.proofs.TiedChanges.{zeros_length}
use Rattle.o2_world.proofs.MapLemmas.{get-at_key, get-map, if_no, if_yes}
use Rattle.o2_world.specs.Run.{with_word}
use Rattle.o2_segbus.specs.Guards.{AreAged}
use Rattle.o2_service.proofs.Amounts.{live_within}
use Rattle.o2_stands.specs.Parts.{Parts, Running, held_in, held_of, running_of}
use Rattle.o2_stands.specs.Runs.{is_full, may_be_member}
use Rattle.o2_stands.specs.Stands.{AreOnce, IsNamed, IsSegment, IsTidy, Matches}
use Rattle.o2_space.specs.declared.space.Proc.{Proc}
use Rattle.o2_space.specs.Parts.{running_at, running_in}
use Rattle.o2_space.specs.Words.{are_seated, discarded_where, goes_by, is_at, is_below, is_lower, is_number, seats_in}

-- what a look-up says of a name
abbrev pub IsNamedBy : Option SegId → ℕ → Bool → Type 0
IsNamedBy None n b = b ≡ false
IsNamedBy (Some it) n b = b ≡ (it.age == n)

-- Segment registers.

seats_same : (m : Maps) (n q : ℕ) (p : Process) (x : Proc) → running_of p ≡ running_in x → holds_in p.held ≡ hold_in m n → seats p q ≡ seats_in m n x q
seats_same m n q p x same holds =
    ap (λ (r : Running). is_live r.state && has_seated (bound_registers (holds_in p.held) r.cpu) q) same
    ∙ ap (λ (h : ℕ → Option Hold). is_live x.state && has_seated (bound_registers h x.cpu) q) holds

either : (a b c d : Bool) → a ≡ b → c ≡ d → (a || c) ≡ (b || d)
either a b c d e f = ap (λ (z : Bool). z || c) e ∙ ap (λ (z : Bool). b || z) f

seated_same : (m : Maps) (q n : ℕ) (ps : List Process) (xs : List Proc) → ((k : ℕ) → option_map running_of (slice_get ps k) ≡ option_map running_in (slice_get xs k))
    → ((k : ℕ) (p : Process) → slice_get ps k ≡ Some p → holds_in p.held ≡ hold_in m (n + k)) → list_any (λ (p : Process). seats p q) ps ≡ are_seated m n xs q
seated_same m q n [] [] same holds = refl
seated_same m q n [] (x ∷ xs) same holds = absurd (let z : ◌≡◌ {A = Option Running} None (Some (running_in x)) = same 0 in cc)
seated_same m q n (p ∷ ps) [] same holds = absurd (let z : ◌≡◌ {A = Option Running} (Some (running_of p)) None = same 0 in cc)
seated_same m q n (p ∷ ps) (x ∷ xs) same holds =
    let first : running_of p ≡ running_in x = (let z : ◌≡◌ {A = Option Running} (Some (running_of p)) (Some (running_in x)) = same 0 in cc) in
    let here : n + 0 ≡ n = omega arith in
    either (seats p q) (seats_in m n x q) _ _ (seats_same m n q p x first (holds 0 p refl ∙ ap (hold_in m) here))
    (seated_same m q (n + 1) ps xs (λ k. same (suc k)) (λ k y at. holds (suc k) y at ∙ (let next : n + suc k ≡ n + 1 + k = omega arith in ap (hold_in m) next)))

process_slice : (ps : List Process) (k : ℕ) → process_at ps (k + 1) ≡ slice_get ps k
process_slice ps k = if_no (k + 1 == 0) None (slice_get ps (k + 1 - 1)) (grind arith) ∙ (let z : k + 1 - 1 ≡ k = omega arith in ap (slice_get ps) z)

running_slice : (xs : List Proc) (k : ℕ) → running_at xs (k + 1) ≡ option_map running_in (slice_get xs k)
running_slice xs k =
    if_no (k + 1 == 0) None (option_map running_in (slice_get xs (k + 1 - 1))) (grind arith)
    ∙ (let z : k + 1 - 1 ≡ k = omega arith in ap (λ (j : ℕ). option_map running_in (slice_get xs j)) z)

hold_by : (m : Maps) (pid i : ℕ) (o : Option HeldThere) → option_map hold_of (option_map (held_of m pid i) o) ≡ option_map (hold_there m pid i) o
hold_by m pid i None = refl
hold_by m pid i (Some h) = refl

-- what a process of a matched world holds
pub holds_matched : (p : Parts) (w : World) (n : ℕ) (x : Process) → process_at w.processes n ≡ Some x → Matches p w → holds_in x.held ≡ hold_in p.maps n
unfolding held_in hold_in
holds_matched p w n x at stands =
    fun_ext (λ i. ap (option_map hold_of) (ap (λ (o : Option Process). held_by o i) (sym at) ∙ stands.held n i) ∙ hold_by p.maps n i (held_there p.maps n i))

module _ (p : Parts) (w : World) (xs : List Proc) (running : p.running ≡ running_at xs) (stands : Matches p w) where
  process_holds : (k : ℕ) (x : Process) → slice_get w.processes k ≡ Some x → (i : ℕ) → holds_in x.held i ≡ hold_in p.maps (1 + k) i
  unfolding held_in hold_in
  process_holds k x at i =
      let n : ℕ = 1 + k in
      let order : k + 1 ≡ n = omega arith in
      let there : process_at w.processes n ≡ Some x = ap (process_at w.processes) (sym order) ∙ process_slice w.processes k ∙ at in
      ap (option_map hold_of) (ap (λ (o : Option Process). held_by o i) (sym there) ∙ stands.held n i) ∙ hold_by p.maps n i (held_there p.maps n i)

  pub machine_seated : (q : ℕ) → is_seated w.processes q ≡ are_seated p.maps 1 xs q
  unfolding is_seated
  machine_seated q =
      seated_same p.maps q 1 w.processes xs
      (λ k. ap (option_map running_of) (sym (process_slice w.processes k)) ∙ stands.processes (k + 1) ∙ ap (λ (f : ℕ → Option Running). f (k + 1)) running ∙ running_slice xs k)
      (λ k x at. fun_ext (process_holds k x at))

-- a selector names this segment, by what it is looked up as
pub by_selector : (m : Maps) (pid s n : ℕ) (o : Option SegId) (b : Bool) → o ≡ option_map (λ (h : HeldThere). h.id) (held_under m pid s) → IsNamedBy o n b → b ≡ is_of n (bound_in (hold_in m pid) s)
by_selector m pid s n o b e is = named_by (held_under m pid s) o e is ∙ sym (ap (is_of n) (bound_is m pid s))
  where
    named_by : (u : Option HeldThere) (o : Option SegId) → o ≡ option_map (λ (h : HeldThere). h.id) u → IsNamedBy o n b → b ≡ is_of n (option_map (hold_there m pid (s / 8)) u)
    named_by None None e is = is
    named_by None (Some it) e is = absurd (let z : ◌≡◌ {A = Option SegId} (Some it) None = e in cc)
    named_by (Some h) None e is = absurd (let z : ◌≡◌ {A = Option SegId} None (Some h.id) = e in cc)
    named_by (Some h) (Some it) e is = (let z : ◌≡◌ {A = Option SegId} (Some it) (Some h.id) = e in let same : it ≡ h.id = cc in is ∙ ap (λ (x : SegId). x.age == n) same)

-- What goes.

abbrev goes_of : (flags lock : ℕ) (clean gone seated : Bool) → Bool
goes_of flags lock clean gone seated = (not gone && (has_bit flags 2 && not clean)) && ((lock == 0) && not seated)

-- the same tests, in another order
in_order : (f u g : Bool) → ((f && u) && not g) ≡ ((not g && f) && u)
in_order true true true = refl
in_order true true false = refl
in_order true false true = refl
in_order true false false = refl
in_order false u true = refl
in_order false u false = refl

goes_same : (p : Parts) (k q : ℕ) (ps : List Process) (g : Segment) (seated : Bool) → IsSegment p k g → is_seated ps q ≡ seated → goes ps q g ≡ goes_by (entry p.shelf k).attr seated
goes_same p k q ps g seated is e =
    let a = (entry p.shelf k).attr in
    in_order (has_bit g.flags 2 && not g.clean) ((g.lock == 0) && not (is_seated ps q)) g.discarded
    ∙ (ap (λ (x : ℕ). goes_of x g.lock g.clean g.discarded (is_seated ps q)) is.flags
    ∙ (ap (λ (x : ℕ). goes_of a.flags x g.clean g.discarded (is_seated ps q)) is.lock
    ∙ (ap (λ (x : Bool). goes_of a.flags a.lock x g.discarded (is_seated ps q)) is.clean
    ∙ (ap (λ (x : Bool). goes_of a.flags a.lock a.clean x (is_seated ps q)) is.discarded
    ∙ ap (λ (x : Bool). goes_of a.flags a.lock a.clean a.gone x) e))))

behind_gone : (ps : List Process) (q : ℕ) (g : Segment) → goes ps q g ≡ true → behind_discard ps q g ≡ marked true g
behind_gone ps q g e = ap (λ (b : Bool). if b then marked true g else g) e

behind_kept : (ps : List Process) (q : ℕ) (g : Segment) → goes ps q g ≡ false → behind_discard ps q g ≡ g
behind_kept ps q g e = ap (λ (b : Bool). if b then marked true g else g) e

-- Names.

abbrev by_test : Bool → (ps : List Process) (q : ℕ) → Segment → Segment
by_test b ps q g = if b then behind_discard ps q g else g

get_where : (test : ℕ → Bool) (ps : List Process) (names : Map Segment) (q : ℕ) → get (discarded_where test ps names) q ≡ option_map (by_test (test q) ps q) (get names q)
unfolding discarded_where
get_where test ps names q = get-map (λ (n : ℕ) (s : Segment). by_test (test n) ps n s) names q

map_none : (o : Option Segment) (f : Segment → Segment) → ((g : Segment) → o ≡ Some g → f g ≡ g) → option_map f o ≡ o
map_none None f same = refl
map_none (Some g) f same = ap Some (same g refl)

map_as : (o : Option Segment) (f h : Segment → Segment) → ((g : Segment) → o ≡ Some g → f g ≡ h g) → option_map f o ≡ option_map h o
map_as None f h same = refl
map_as (Some g) f h same = ap Some (same g refl)

map_twice : (o : Option Segment) (f h : Segment → Segment) → option_map h (option_map f o) ≡ option_map (λ (g : Segment). h (f g)) o
map_twice None f h = refl
map_twice (Some g) f h = refl

-- what a machine matches goes by what names are looked up as
pub names_as : (p : Parts) (w : World) (a b : Map Segment) → ((q : ℕ) → get a q ≡ get b q) → Matches p (record w { names = a }) → Matches p (record w { names = b })
names_as p w a b same m = record {
  ready = m.ready;
  segments = λ n. subst (λ (o : Option Segment). IsNamed p (key_of p.shelf n) o) (same n) (m.segments n);
  made = m.made;
  processes = m.processes;
  held = m.held;
  taken = m.taken;
}

named_there : (p : Parts) (k q : ℕ) (o : Option Segment) (g : Segment) → o ≡ Some g → key_of p.shelf q ≡ Some k → IsNamed p (key_of p.shelf q) o → IsSegment p k g
named_there p k q o g e f is = subst (λ (x : Option Segment). IsNamed p (Some k) x) e (subst (λ (x : Option ℕ). IsNamed p x o) f is)

-- One number.

module _ (p : Parts) (w : World) (key : ℕ) (stands : Matches p w) where
  -- it has no segment that goes
  pub none_goes : ((q : ℕ) (g : Segment) → key_of p.shelf q ≡ Some key → get w.names q ≡ Some g → goes w.processes q g ≡ false)
      → Matches p (record w { names = discarded_where (is_at p.shelf key) w.processes w.names })
  none_goes kept = names_as p w w.names (discarded_where (is_at p.shelf key) w.processes w.names) same stands
    where
      by_key : (q : ℕ) (g : Segment) (o : Option ℕ) → key_of p.shelf q ≡ o → get w.names q ≡ Some g → by_test (is_number key o) w.processes q g ≡ g
      by_key q g None e at = refl
      by_key q g (Some k) e at = elim (cases_eq k key) [
        | inl is ↦ by_kept q g (k == key) (behind_kept w.processes q g (kept q g (e ∙ ap Some is) at))
        | inr other ↦ if_no (k == key) (behind_discard w.processes q g) g (grind (arith, other))
      ]
        where
          by_kept : (q : ℕ) (g : Segment) (b : Bool) → behind_discard w.processes q g ≡ g → by_test b w.processes q g ≡ g
          by_kept q g true e = e
          by_kept q g false e = refl

      same : (q : ℕ) → get w.names q ≡ get (discarded_where (is_at p.shelf key) w.processes w.names) q
      same q = sym (get_where (is_at p.shelf key) w.processes w.names q ∙ map_none (get w.names q) (by_test (is_at p.shelf key q) w.processes q) (λ g at. by_key q g (key_of p.shelf q) refl at))

-- it has one that goes
module _ (s : Shelf) (id : SegId) (w : World) (aged : AreAged s) (live : IsSome (entry_of s id)) (gone : (g : Segment) → get w.names id.age ≡ Some g → goes w.processes id.age g ≡ true) where
  one_gone : (y : ℕ) → get (at_key id.age (marked true) w.names) y ≡ get (discarded_where (is_at s id.key) w.processes w.names) y
  one_gone y = get-at_key id.age y (marked true) w.names ∙ elim (cases_eq id.age y) [
    | inl same ↦ at_own y same
    | inr other ↦ at_other y other
  ] ∙ sym (get_where (is_at s id.key) w.processes w.names y)
    where
      at_own : (y : ℕ) → id.age ≡ y → (if id.age == y then option_map (marked true) (get w.names id.age) else get w.names y) ≡ option_map (by_test (is_at s id.key y) w.processes y) (get w.names y)
      at_own y same =
          subst (λ (n : ℕ). (if id.age == n then option_map (marked true) (get w.names id.age) else get w.names n) ≡ option_map (by_test (is_at s id.key n) w.processes n) (get w.names n)) same
          (if_yes (id.age == id.age) (option_map (marked true) (get w.names id.age)) (get w.names id.age) (grind arith)
          ∙ map_as (get w.names id.age) (marked true) (by_test (is_at s id.key id.age) w.processes id.age)
          (λ g at. sym (if_yes (is_at s id.key id.age) (behind_discard w.processes id.age g) g (here refl) ∙ behind_gone w.processes id.age g (gone g at))))
        where
          here : {k : ℕ} → k ≡ id.key → is_at s id.key id.age ≡ true
          here e = ap (is_number id.key) (live_key s id aged live) ∙ (grind arith)

      at_other : (y : ℕ) → id.age ≢ y → (if id.age == y then option_map (marked true) (get w.names id.age) else get w.names y) ≡ option_map (by_test (is_at s id.key y) w.processes y) (get w.names y)
      at_other y other =
          if_no (id.age == y) (option_map (marked true) (get w.names id.age)) (get w.names y) (grind (arith, other))
          ∙ sym (map_none (get w.names y) (by_test (is_at s id.key y) w.processes y) (λ g at. if_no (is_at s id.key y) (behind_discard w.processes y g) g (not_here (key_of s y) refl)))
        where
          not_here : (o : Option ℕ) → key_of s y ≡ o → is_number id.key o ≡ false
          not_here None e = refl
          not_here (Some k) e = (let apart : k ≢ id.key = other_key s id y k live (λ z. other (sym z)) e in grind (arith, apart))

  pub one_goes : (q : Parts) → Matches q (record w { names = at_key id.age (marked true) w.names }) → Matches q (record w { names = discarded_where (is_at s id.key) w.processes w.names })
  one_goes q m = names_as q w (at_key id.age (marked true) w.names) (discarded_where (is_at s id.key) w.processes w.names) one_gone m

-- Number by number.

-- none below the first
pub none_below : (p : Parts) (w : World) (s : Shelf) → Matches p w → Matches p (record w { names = discarded_where (is_below s 0) w.processes w.names })
none_below p w s m = names_as p w w.names (discarded_where (is_below s 0) w.processes w.names) same m
  where
    never : (o : Option ℕ) → is_lower 0 o ≡ false
    never None = refl
    never (Some k) = grind arith

    same : (q : ℕ) → get w.names q ≡ get (discarded_where (is_below s 0) w.processes w.names) q
    same q = sym (get_where (is_below s 0) w.processes w.names q ∙ map_none (get w.names q) (by_test (is_below s 0 q) w.processes q) (λ g at. if_no (is_below s 0 q) (behind_discard w.processes q g) g (never (key_of s q))))

-- and one number more
pub next_below : (p : Parts) (w : World) (s t : Shelf) (key : ℕ) → ((q : ℕ) → key_of t q ≡ key_of s q)
    → (let v : World = record w { names = discarded_where (is_below s key) w.processes w.names } in Matches p (record v { names = discarded_where (is_at t key) v.processes v.names }))
    → Matches p (record w { names = discarded_where (is_below s (key + 1)) w.processes w.names })
next_below p w s t key keys m =
    names_as p w (discarded_where (is_at t key) w.processes (discarded_where (is_below s key) w.processes w.names)) (discarded_where (is_below s (key + 1)) w.processes w.names) same m
  where
    by : (q : ℕ) (g : Segment) (o : Option ℕ) → by_test (is_number key o) w.processes q (by_test (is_lower key o) w.processes q g) ≡ by_test (is_lower (key + 1) o) w.processes q g
    by q g None = refl
    by q g (Some k) = elim (cases_eq k key) [
      | inl is ↦ at (k == key) (nat_lt k key) (nat_lt k (key + 1)) (grind (arith, is)) (grind (arith, is)) (grind (arith, is))
      | inr other ↦ apart (k == key) (nat_lt k key) (nat_lt k (key + 1)) (grind (arith, other)) (grind (arith, other))
    ]
      where
        at : (a b c : Bool) → a ≡ true → b ≡ false → c ≡ true → by_test a w.processes q (by_test b w.processes q g) ≡ by_test c w.processes q g
        at a b c e f h = ap (λ (z : Bool). by_test z w.processes q (by_test b w.processes q g)) e ∙ ap (λ (z : Bool). behind_discard w.processes q (by_test z w.processes q g)) f ∙ sym (ap (λ (z : Bool). by_test z w.processes q g) h)

        apart : (a b c : Bool) → a ≡ false → c ≡ b → by_test a w.processes q (by_test b w.processes q g) ≡ by_test c w.processes q g
        apart a b c e f = ap (λ (z : Bool). by_test z w.processes q (by_test b w.processes q g)) e ∙ sym (ap (λ (z : Bool). by_test z w.processes q g) f)

    same : (q : ℕ) → get (discarded_where (is_at t key) w.processes (discarded_where (is_below s key) w.processes w.names)) q ≡ get (discarded_where (is_below s (key + 1)) w.processes w.names) q
    same q =
        get_where (is_at t key) w.processes (discarded_where (is_below s key) w.processes w.names) q
        ∙ ap (option_map (by_test (is_at t key q) w.processes q)) (get_where (is_below s key) w.processes w.names q)
        ∙ map_twice (get w.names q) (by_test (is_below s key q) w.processes q) (by_test (is_at t key q) w.processes q)
        ∙ ap (λ (o : Option ℕ). option_map (λ (g : Segment). by_test (is_number key o) w.processes q (by_test (is_below s key q) w.processes q g)) (get w.names q)) (keys q)
        ∙ map_as (get w.names q) (λ (g : Segment). by_test (is_at s key q) w.processes q (by_test (is_below s key q) w.processes q g)) (by_test (is_below s (key + 1) q) w.processes q) (λ g there. by q g (key_of s q))
        ∙ sym (get_where (is_below s (key + 1)) w.processes w.names q)

-- all of them
pub all_below : (p q : Parts) (w : World) → Matches p w → Matches q (record w { names = discarded_where (is_below p.shelf (length p.shelf.entries)) w.processes w.names }) → Matches q (with_word w)
all_below p q w stands m = names_as q w (discarded_where (is_below p.shelf (length p.shelf.entries)) w.processes w.names) (all_discarded w.processes w.names) same m
  where
    count : ℕ
    count = length p.shelf.entries

    lower : (y : ℕ) (g : Segment) (o : Option ℕ) → key_of p.shelf y ≡ o → get w.names y ≡ Some g → is_lower count o ≡ true
    lower y g None e at = absurd (subst (λ (x : Option Segment). IsNamed p None x) at (subst (λ (x : Option ℕ). IsNamed p x (get w.names y)) e (stands.segments y)))
    lower y g (Some k) e at =
        let has = key_has p.shelf y k e in
        let within = live_within p.shelf (record { key = k; age = y }) (aged_has y (slot_at p.shelf.entries k) ∙ has) in
        grind (arith, within)

    same : (y : ℕ) → get (discarded_where (is_below p.shelf count) w.processes w.names) y ≡ get (all_discarded w.processes w.names) y
    same y =
        get_where (is_below p.shelf count) w.processes w.names y
        ∙ map_as (get w.names y) (by_test (is_below p.shelf count y) w.processes y) (behind_discard w.processes y)
        (λ g at. if_yes (is_below p.shelf count y) (behind_discard w.processes y g) g (lower y g (key_of p.shelf y) refl at))
        ∙ sym (get_discarded w.processes w.names y)

-- What the machine asks of one number is what the world asks of its name.
module _ (p : Parts) (w : World) (xs : List Proc) (running : p.running ≡ running_at xs) (stands : Matches p w) (id : SegId) (key : ℕ) (at : id.key ≡ key) (live : IsSome (entry_of p.shelf id)) where
  own_age : (entry p.shelf id.key).age ≡ id.age
  own_age = (has_is (slot_at p.shelf.entries id.key) id.age (sym (aged_has id.age (slot_at p.shelf.entries id.key)) ∙ live)).1

  pub goes_here : (q : ℕ) (g : Segment) → key_of p.shelf q ≡ Some key → get w.names q ≡ Some g
      → goes w.processes q g ≡ goes_by (entry p.shelf id.key).attr (are_seated p.maps 1 xs id.age)
  goes_here q g e there =
      let f : key_of p.shelf q ≡ Some id.key = e ∙ ap Some (sym at) in
      let own = (has_is (slot_at p.shelf.entries id.key) q (key_has p.shelf q id.key f)).1 in
      let age : q ≡ id.age = sym own ∙ own_age in
      goes_same p id.key q w.processes g (are_seated p.maps 1 xs id.age) (named_there p id.key q (get w.names q) g there f (stands.segments q))
      (machine_seated p w xs running stands q ∙ ap (are_seated p.maps 1 xs) age)

-- Ages.

pub ages_discarded : (s t : Shelf) (id : SegId) → IsSome (entry_of s id) → Discards s t id.key → (k q : ℕ) → has_age (slot_at t.entries k) q ≡ has_age (slot_at s.entries k) q
ages_discarded s t id live d k q = elim (cases_eq k id.key) [
  | inr other ↦ ap (λ (o : Option Entry). has_age o q) (d.entries k other)
  | inl same ↦ subst (λ (j : ℕ). has_age (slot_at t.entries j) q ≡ has_age (slot_at s.entries j) q) (sym same)
      (ap (λ (o : Option Entry). has_age o q) there ∙ own (slot_at s.entries id.key) (has_is (slot_at s.entries id.key) id.age (sym (aged_has id.age (slot_at s.entries id.key)) ∙ live)).0)
]
  where
    there : slot_at t.entries id.key ≡ Some (discarded_entry (entry s id.key))
    there = ap (λ (x : Shelf). slot_at x.entries id.key) d.shelf ∙ slot-set_same s.entries id.key (Some (discarded_entry (entry s id.key))) (live_within s id live)

    own : (o : Option Entry) → IsSome o → has_age (Some (discarded_entry (entry_or o))) q ≡ has_age o q
    own None some = absurd (cc)
    own (Some e) some = refl

-- what a discarded segment is in the store
pub record IsDiscardedHere (s t : Shelf) (id : SegId) : Type 0 where
  pub live : IsSome (slot_at t.entries id.key)
  pub age : (entry t id.key).age ≡ (entry s id.key).age
  pub count : length t.entries ≡ length s.entries

pub discarded_here : (s t : Shelf) (id : SegId) → IsSome (entry_of s id) → Discards s t id.key → IsDiscardedHere s t id
discarded_here s t id live d = record {
  live = ap is_some there;
  age = ap (λ (o : Option Entry). (entry_or o).age) there;
  count = ap (λ (x : Shelf). length x.entries) d.shelf ∙ length-set s.entries id.key (Some (discarded_entry (entry s id.key)));
}
  where
    there : slot_at t.entries id.key ≡ Some (discarded_entry (entry s id.key))
    there = ap (λ (x : Shelf). slot_at x.entries id.key) d.shelf ∙ slot-set_same s.entries id.key (Some (discarded_entry (entry s id.key))) (live_within s id live)

pub ages_keys : (s t : Shelf) → length t.entries ≡ length s.entries → ((k q : ℕ) → has_age (slot_at t.entries k) q ≡ has_age (slot_at s.entries k) q) → (q : ℕ) → key_of t q ≡ key_of s q
ages_keys s t count ages q = same_key s t q count (λ k. ages k q)

pub ages_live : (s t : Shelf) → ((k q : ℕ) → has_age (slot_at t.entries k) q ≡ has_age (slot_at s.entries k) q) → (id : SegId) → is_some (entry_of t id) ≡ is_some (entry_of s id)
ages_live s t ages id = aged_has id.age (slot_at t.entries id.key) ∙ ages id.key id.age ∙ sym (aged_has id.age (slot_at s.entries id.key))

-- what a number has
pub numbered_some : (o : Option Entry) (x id : SegId) → Some id ≡ option_map (λ (e : Entry). x) o → (id ≡ x) × IsSome o
numbered_some None x id e = absurd (let z : ◌≡◌ {A = Option SegId} (Some id) None = e in cc)
numbered_some (Some y) x id e = ((let z : ◌≡◌ {A = Option SegId} (Some id) (Some x) = e in cc), refl)

pub numbered_none : (o : Option Entry) (x : SegId) → None ≡ option_map (λ (e : Entry). x) o → o ≡ None
numbered_none None x e = refl
numbered_none (Some y) x e = absurd (let z : ◌≡◌ {A = Option SegId} None (Some x) = e in cc)

-- The world behind the word is tidy.

none_stays : (f : Segment → Segment) (o : Option Segment) → o ≡ None → option_map f o ≡ None
none_stays f None e = refl
none_stays f (Some s) e = absurd (let x : Some s ≡ None = e in cc)

some_stays : (f : Segment → Segment) (o : Option Segment) → is_some (option_map f o) ≡ true → is_some o ≡ true
some_stays f None e = e
some_stays f (Some s) e = refl

once_discarded : (ps : List Process) (names : Map Segment) → AreOnce names → AreOnce (all_discarded ps names)
unfolding all_discarded
once_discarded ps [] once = once
once_discarded ps (e ∷ es) once = (get_discarded ps es e.0 ∙ none_stays (behind_discard ps e.0) (get es e.0) once.0, once_discarded ps es once.1)

-- flags and size stay
behind_flags : (ps : List Process) (q : ℕ) (g : Segment) → (behind_discard ps q g).flags ≡ g.flags
behind_flags ps q g = go (goes ps q g)
  where
    go : (b : Bool) → (if b then marked true g else g).flags ≡ g.flags
    go true = refl
    go false = refl

behind_size : (ps : List Process) (q : ℕ) (g : Segment) → length (behind_discard ps q g).bytes ≡ length g.bytes
behind_size ps q g = go (goes ps q g)
  where
    go : (b : Bool) → length (if b then marked true g else g).bytes ≡ length g.bytes
    go true = zeros_length (length g.bytes)
    go false = refl

flags_behind : (ps : List Process) (i q : ℕ) (o x : Option Segment) → x ≡ option_map (behind_discard ps q) o → may_be_member i o ≡ true → may_be_member i x ≡ true
flags_behind ps i q None x e m = ap (may_be_member i) e
flags_behind ps i q (Some g) x e m =
    ap (may_be_member i) e ∙ ap (λ (f : ℕ). not (has_bit f 2) && (nat_lt i 4096 || not (f == 0))) (behind_flags ps q g) ∙ m

full_behind : (ps : List Process) (q : ℕ) (o x : Option Segment) → x ≡ option_map (behind_discard ps q) o → is_full o ≡ true → is_full x ≡ true
full_behind ps q None x e m = ap is_full e
full_behind ps q (Some g) x e m = ap is_full e ∙ ap (λ (n : ℕ). n == 65536) (behind_size ps q g) ∙ m

pub tidy_discarded : (ps : List Process) (names : Map Segment) (reserved : List Reserve) → IsTidy ps names reserved → IsTidy ps (all_discarded ps names) reserved
tidy_discarded ps names reserved tidy = record {
  once = once_discarded ps names tidy.once;
  used = λ n s. tidy.used n (some_stays (behind_discard ps n) (get names n) (ap is_some (sym (get_discarded ps names n)) ∙ s));
  ended = tidy.ended;
  stay = tidy.stay;
  shared = tidy.shared;
  run = tidy.run;
  free = tidy.free;
  disjoint = tidy.disjoint;
  runs = tidy.runs;
  flags = record { each = λ n i h m. flags_behind ps i h.name (get names h.name) _ (get_discarded ps names h.name) (tidy.flags.each n i h m) };
  full = record { each = λ n i h m s some. full_behind ps h.name (get names h.name) _ (get_discarded ps names h.name) (tidy.full.each n i h m s some) };
}

-- the same parts, by what they are
pub at_parts : (p : Parts) (s : Shelf) (m : Maps) (w : World) → p.shelf ≡ s → p.maps ≡ m → Matches p w → Matches (record p { shelf = s; maps = m }) w
at_parts p s m w es em q = subst (λ (n : Maps). Matches (record p { shelf = s; maps = n }) w) em (subst (λ (t : Shelf). Matches (record p { shelf = t }) w) es q)

pub live_numbered : (s : Shelf) (key : ℕ) (id : SegId) → id ≡ numbered s key → IsSome (slot_at s.entries key) → IsSome (entry_of s id)
live_numbered s key id is some = subst (λ (x : SegId). IsSome (entry_of s x)) (sym is) (go (slot_at s.entries key) some)
  where
    go : (o : Option Entry) → IsSome o → is_some (aged (entry_or o).age o) ≡ true
    go None e = e
    go (Some x) e = aged_has x.age (Some x) ∙ eq-eqb x.age x.age refl

-- what goes may be discarded
pub kind_of : (a : Attr) (seated : Bool) → goes_by a seated ≡ true → IsDiscardable a
kind_of a seated e = record { flag = (parts.0); written = parts.1.0; unlocked = eqb-true a.lock 0 parts.1.1 }
  where
    go : (f c l s g : Bool) → ((not g && (f && not c)) && (l && not s)) ≡ true → (f ≡ true) × ((c ≡ false) × (l ≡ true))
    go f c l s true e = absurd (false≢true e)
    go true false true s false e = (refl, (refl, refl))
    go true false false s false e = absurd (false≢true e)
    go true true l s false e = absurd (false≢true e)
    go false c l s false e = absurd (false≢true e)

    parts : (has_bit a.flags 2 ≡ true) × ((a.clean ≡ false) × ((a.lock == 0) ≡ true))
    parts = go (has_bit a.flags 2) a.clean (a.lock == 0) seated a.gone e

-- One number, over the store and the tables as they were.

module _ (s : Shelf) (m : Maps) (xs : List Proc) (key : ℕ) (p : Parts) (w : World) (shelf : p.shelf ≡ s) (maps : p.maps ≡ m) (running : p.running ≡ running_at xs) (stands : Matches p w) where
  here : Parts
  here = record p { shelf = s; maps = m }

  matched : Matches (record p { shelf = s; maps = m }) w
  matched = at_parts p s m w shelf maps stands

  pub none_at : slot_at s.entries key ≡ None → Matches (record p { shelf = s; maps = m }) (record w { names = discarded_where (is_at s key) w.processes w.names })
  none_at none = none_goes (record p { shelf = s; maps = m }) w key matched (λ q g named there. absurd (let has = sym (key_has s q key named) ∙ ap (λ (o : Option Entry). has_age o q) none in cc))

  pub kept_at : (id : SegId) → id.key ≡ key → IsSome (entry_of s id) → goes_by (entry s id.key).attr (are_seated m 1 xs id.age) ≡ false
      → Matches (record p { shelf = s; maps = m }) (record w { names = discarded_where (is_at s key) w.processes w.names })
  kept_at id at live kept =
      none_goes (record p { shelf = s; maps = m }) w key matched
      (λ q g named there. goes_here (record p { shelf = s; maps = m }) w xs running matched id key at live q g named there ∙ kept)

  pub gone_at : (id : SegId) → id.key ≡ key → IsSome (entry_of s id) → goes_by (entry s id.key).attr (are_seated m 1 xs id.age) ≡ true → (q : Parts)
      → Matches q (record w { names = at_key id.age (marked true) w.names }) → Matches q (record w { names = discarded_where (is_at s key) w.processes w.names })
  gone_at id at live goes_now q now =
      subst (λ (k : ℕ). Matches q (record w { names = discarded_where (is_at s k) w.processes w.names })) at
      (one_goes s id w matched.ready.aged live
      (λ g there. goes_here (record p { shelf = s; maps = m }) w xs running matched id key at live id.age g (live_key s id matched.ready.aged live ∙ ap (λ (k : ℕ). Some k) at) there ∙ goes_now)
      q now)
