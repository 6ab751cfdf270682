-- The lines of a step's changes tell its holds.
use Rattle.std.proofs.Common.{◌≡◌, ℕ, zero, suc, ◌+◌, ◌-◌, ◌<◌, Bool, true, false, not, ◌==◌, ◌&&◌, nat_le, nat_lt, List, [], ◌∷◌, ◌++◌, length, Option, Some, None, if◌then◌else◌, ap, sym, ◌∙◌, refl, arith, replicate, slice_set}
use Rattle.std.specs.Prelude.{slice_get, option_map, flat_map}
use Rattle.std.specs.List.{list_any}
use Rattle.o2_world.specs.Map.{Map, get, put}
use Rattle.o2_world.specs.World.{World, Process, Held, Line, HoldsBy, DropsBy}
use Rattle.o2_world.specs.Changes.{Change, Makes, Resizes, Locks, Marks, Holds, Drops, Finishes, Reserves, Frees, Names, more, fewer, fewer_of, at_place, at_number, with_change, with_changes, with_all, takes, key_of, among, in_order, hold_lines_of, drop_lines_of, moved_lines}
use Rattle.o2_world.specs.Sound.{held_of, held_in}
use Rattle.o2_base.specs.Selectors.{selector_of}
use Rattle.o2_world.specs.Reach.{one_if, comes, goes, came, went, holds_of, holds_at, IsThere, CanTell, CanTellAll}
use Rattle.o2_world.proofs.MapLemmas.{get-filter, none_there, if_yes, if_no}
use Rattle.o2_world.proofs.Numbers.{not_zero, changed_is}

-- Lines: a count is a sum over the lines, in any order.

pub came_append : (xs ys : List Line) (p s : ℕ) → came (xs ++ ys) p s ≡ came xs p s + came ys p s
came_append [] ys p s = omega arith
came_append (x ∷ xs) ys p s = let ih = came_append xs ys p s in omega (arith, ih)

pub went_append : (xs ys : List Line) (p s : ℕ) → went (xs ++ ys) p s ≡ went xs p s + went ys p s
went_append [] ys p s = omega arith
went_append (x ∷ xs) ys p s = let ih = went_append xs ys p s in omega (arith, ih)

came_split : (b : Bool) (l x : Line) (xs rest : List Line) (p s : ℕ) → came rest p s ≡ comes l p s + came xs p s
    → came (if b then l ∷ x ∷ xs else x ∷ rest) p s ≡ comes l p s + (comes x p s + came xs p s)
came_split true l x xs rest p s ih = refl
came_split false l x xs rest p s ih = omega (arith, ih)

came_among : (l : Line) (xs : List Line) (p s : ℕ) → came (among l xs) p s ≡ comes l p s + came xs p s
came_among l [] p s = refl
came_among l (x ∷ xs) p s = came_split (nat_le (key_of l) (key_of x)) l x xs (among l xs) p s (came_among l xs p s)

came_in_order : (xs : List Line) (p s : ℕ) → came (in_order xs) p s ≡ came xs p s
came_in_order [] p s = refl
came_in_order (x ∷ xs) p s = came_among x (in_order xs) p s ∙ ap (λ n. comes x p s + n) (came_in_order xs p s)

went_split : (b : Bool) (l x : Line) (xs rest : List Line) (p s : ℕ) → went rest p s ≡ goes l p s + went xs p s
    → went (if b then l ∷ x ∷ xs else x ∷ rest) p s ≡ goes l p s + (goes x p s + went xs p s)
went_split true l x xs rest p s ih = refl
went_split false l x xs rest p s ih = omega (arith, ih)

went_among : (l : Line) (xs : List Line) (p s : ℕ) → went (among l xs) p s ≡ goes l p s + went xs p s
went_among l [] p s = refl
went_among l (x ∷ xs) p s = went_split (nat_le (key_of l) (key_of x)) l x xs (among l xs) p s (went_among l xs p s)

went_in_order : (xs : List Line) (p s : ℕ) → went (in_order xs) p s ≡ went xs p s
went_in_order [] p s = refl
went_in_order (x ∷ xs) p s = went_among x (in_order xs) p s ∙ ap (λ n. goes x p s + n) (went_in_order xs p s)

pub came_times : (n : ℕ) (l : Line) (p s : ℕ) (b : Bool) → comes l p s ≡ one_if b → came (replicate n l) p s ≡ (if b then n else 0)
came_times zero l p s true e = refl
came_times zero l p s false e = refl
came_times (suc n) l p s true e = let ih = came_times n l p s true e in omega (arith, ih, e)
came_times (suc n) l p s false e = let ih = came_times n l p s false e in omega (arith, ih, e)

pub went_times : (n : ℕ) (l : Line) (p s : ℕ) (b : Bool) → goes l p s ≡ one_if b → went (replicate n l) p s ≡ (if b then n else 0)
went_times zero l p s true e = refl
went_times zero l p s false e = refl
went_times (suc n) l p s true e = let ih = went_times n l p s true e in omega (arith, ih, e)
went_times (suc n) l p s false e = let ih = went_times n l p s false e in omega (arith, ih, e)

-- lines of holds tell no drops, and the other way round
holds_alone : (cause : List ℕ) (c : Change) (p s : ℕ) → went (hold_lines_of cause c) p s ≡ 0
holds_alone cause (Holds q i h) p s = went_times h.holds (HoldsBy q (selector_of i) cause) p s false refl
holds_alone cause (Makes g) p s = refl
holds_alone cause (Resizes n size) p s = refl
holds_alone cause (Locks n count) p s = refl
holds_alone cause (Marks n d) p s = refl
holds_alone cause (Drops q i count) p s = refl
holds_alone cause (Finishes q state) p s = refl
holds_alone cause (Reserves r) p s = refl
holds_alone cause (Frees r first) p s = refl
holds_alone cause (Names text n) p s = refl

drops_alone : (cause : List ℕ) (c : Change) (p s : ℕ) → came (drop_lines_of cause c) p s ≡ 0
drops_alone cause (Drops q i count) p s = came_times count (DropsBy q (selector_of i) cause) p s false refl
drops_alone cause (Makes g) p s = refl
drops_alone cause (Resizes n size) p s = refl
drops_alone cause (Locks n count) p s = refl
drops_alone cause (Marks n d) p s = refl
drops_alone cause (Holds q i h) p s = refl
drops_alone cause (Finishes q state) p s = refl
drops_alone cause (Reserves r) p s = refl
drops_alone cause (Frees r first) p s = refl
drops_alone cause (Names text n) p s = refl

all_holds_alone : (cause : List ℕ) (cs : List Change) (p s : ℕ) → went (flat_map (hold_lines_of cause) cs) p s ≡ 0
all_holds_alone cause [] p s = refl
all_holds_alone cause (c ∷ cs) p s = let h = holds_alone cause c p s in let ih = all_holds_alone cause cs p s in let a = went_append (hold_lines_of cause c) (flat_map (hold_lines_of cause) cs) p s in omega (arith, h, ih, a)

all_drops_alone : (cause : List ℕ) (cs : List Change) (p s : ℕ) → came (flat_map (drop_lines_of cause) cs) p s ≡ 0
all_drops_alone cause [] p s = refl
all_drops_alone cause (c ∷ cs) p s = let h = drops_alone cause c p s in let ih = all_drops_alone cause cs p s in let a = came_append (drop_lines_of cause c) (flat_map (drop_lines_of cause) cs) p s in omega (arith, h, ih, a)

pub moved_came : (cause : List ℕ) (cs : List Change) (p s : ℕ)
    → came (moved_lines cause cs) p s ≡ came (flat_map (hold_lines_of cause) cs) p s
unfolding moved_lines
moved_came cause cs p s =
    let hs = flat_map (hold_lines_of cause) cs in
    let ds = flat_map (drop_lines_of cause) cs in
    let a = came_append (in_order hs) (in_order ds) p s in
    let b = came_in_order hs p s in
    let c = came_in_order ds p s in
    let d = all_drops_alone cause cs p s in
    omega (arith, a, b, c, d)

pub moved_went : (cause : List ℕ) (cs : List Change) (p s : ℕ)
    → went (moved_lines cause cs) p s ≡ went (flat_map (drop_lines_of cause) cs) p s
unfolding moved_lines
moved_went cause cs p s =
    let hs = flat_map (hold_lines_of cause) cs in
    let ds = flat_map (drop_lines_of cause) cs in
    let a = went_append (in_order hs) (in_order ds) p s in
    let b = went_in_order hs p s in
    let c = went_in_order ds p s in
    let d = all_holds_alone cause cs p s in
    omega (arith, a, b, c, d)

-- Maps and processes.

put_none : {X : Type 0} (b : Bool) (o : Option X) → (if not b then o else None) ≡ (if b then None else o)
put_none true o = refl
put_none false o = refl

same_key : (k q : ℕ) → (q == k) ≡ (k == q)
same_key k q = grind arith

pub get-put : {X : Type 0} (k q : ℕ) (o : Option X) (m : Map X) → get (put k o m) q ≡ (if k == q then o else get m q)
get-put k q (Some x) m = refl
get-put k q None m = get-filter (λ (i : ℕ). not (i == k)) m q ∙ ap (λ b. if not b then get m q else None) (same_key k q) ∙ put_none (k == q) (get m q)

suc_zero : (j : ℕ) → (suc j == 0) ≡ false
suc_zero j = grind arith

zero_suc : (k : ℕ) → (0 == suc k) ≡ false
zero_suc k = grind arith

suc_suc : (j k : ℕ) → (suc j == suc k) ≡ (j == k)
suc_suc j k = grind arith

pub get-place : {X : Type 0} (k j : ℕ) (f : X → X) (xs : List X)
    → slice_get (at_place k f xs) j ≡ (if j == k then option_map f (slice_get xs j) else slice_get xs j)
get-place {X} k j f [] = none_there {X = X} (j == k)
get-place zero zero f (x ∷ xs) = refl
get-place zero (suc j) f (x ∷ xs) = rw (suc_zero j) refl
get-place (suc k) zero f (x ∷ xs) = rw (zero_suc k) refl
get-place (suc k) (suc j) f (x ∷ xs) = rw (suc_suc j k) (get-place k j f xs)

pub set-place : {X : Type 0} (k j : ℕ) (x : X) (xs : List X) (y : X) → slice_get xs k ≡ Some y
    → slice_get (slice_set xs k x) j ≡ (if j == k then Some x else slice_get xs j)
set-place k j x [] y e = absurd (cc)
set-place zero zero x (a ∷ xs) y e = refl
set-place zero (suc j) x (a ∷ xs) y e = rw (suc_zero j) refl
set-place (suc k) zero x (a ∷ xs) y e = rw (zero_suc k) refl
set-place (suc k) (suc j) x (a ∷ xs) y e = rw (suc_suc j k) (set-place k j x xs y e)

there_some : {X : Type 0} (xs : List X) (k : ℕ) → k < length xs → (x : X) × (slice_get xs k ≡ Some x)
there_some [] k h = absurd (omega (arith, h))
there_some (x ∷ xs) zero h = (x, refl)
there_some (x ∷ xs) (suc k) h = there_some xs k (omega (arith, h))

-- One change.

more_holds : (h : Held) (o : Option Held) → holds_of (more h o) ≡ holds_of o + h.holds
more_holds h None = omega arith
more_holds h (Some old) = refl

fewer_holds_of : (count : ℕ) (old : Held) (b : Bool) → nat_lt count old.holds ≡ b → holds_of (if b then Some (record old { holds = old.holds - count }) else None) ≡ old.holds - count
fewer_holds_of count old true is = refl
fewer_holds_of count old false is = grind arith

fewer_holds : (count : ℕ) (o : Option Held) → holds_of (fewer count o) ≡ holds_of o - count
fewer_holds count None = omega arith
fewer_holds count (Some old) = fewer_holds_of count old (nat_lt count old.holds) refl

-- what a process holds after a change of its map
abbrev pub held_then : (Map Held → Map Held) → Option Process → ℕ → Option Held
held_then f None i = None
held_then f (Some p) i = get (f p.held) i

pub held_of_changed : (f : Map Held → Map Held) (o : Option Process) (i : ℕ) → held_of (option_map (λ (p : Process). record p { held = f p.held }) o) i ≡ held_then f o i
held_of_changed f None i = refl
held_of_changed f (Some p) i = refl

held_if : (b : Bool) (f : Map Held → Map Held) (o : Option Process) (i : ℕ) → held_of (if b then option_map (λ (p : Process). record p { held = f p.held }) o else o) i ≡ (if b then held_then f o i else held_of o i)
held_if true f o i = held_of_changed f o i
held_if false f o i = refl

pub held_at_place : (ps : List Process) (k j i : ℕ) (f : Map Held → Map Held)
    → held_in (at_place k (λ (p : Process). record p { held = f p.held }) ps) j i ≡ (if j == k then held_then f (slice_get ps j) i else held_in ps j i)
held_at_place ps k j i f = ap (λ (o : Option Process). held_of o i) (get-place k j (λ (p : Process). record p { held = f p.held }) ps) ∙ held_if (j == k) f (slice_get ps j) i

-- a put into the map of a process that is there
put_then : (k i : ℕ) (g : Option Held → Option Held) (o : Option Process) (p : Process) → o ≡ Some p
    → held_then (λ (m : Map Held). put k (g (get m k)) m) o i ≡ (if k == i then g (held_of o k) else held_of o i)
put_then k i g o p e = rw e (get-put k i (g (get p.held k)) p.held)

pub number_is : (p q : ℕ) → 0 < p → 0 < q → (p - 1 == q - 1) ≡ (p == q)
number_is p q h k = grind arith

pub selector_is : (i j : ℕ) → (selector_of i == selector_of j) ≡ (j == i)
selector_is i j = grind arith

-- how often what is at a place holds
abbrev pub place_holds : World → (p i : ℕ) → ℕ
place_holds w p i = holds_of (held_in w.processes (p - 1) i)

pub number_holds : (w : World) (p i : ℕ) → 0 < p → holds_at w p i ≡ place_holds w p i
number_holds w p i some = if_no (p == 0) 0 (place_holds w p i) (not_zero p some)

-- how many are held, where a process is there
put_holds : (w : World) (q j p i : ℕ) (g : Option Held → Option Held) → IsThere w q → 0 < p
    → holds_of (held_in (at_number q (λ (x : Process). record x { held = put j (g (get x.held j)) x.held }) w.processes) (p - 1) i)
    ≡ (if p == q && j == i then holds_of (g (held_in w.processes (q - 1) j)) else place_holds w p i)
put_holds w q j p i g there some =
    ap (λ (ps : List Process). holds_of (held_in ps (p - 1) i)) (changed_is q (λ (x : Process). record x { held = f x.held }) w.processes there.0) ∙ go (p - 1 == q - 1) refl
  where
    f : Map Held → Map Held
    f m = put j (g (get m j)) m

    here : (x : Process) × (slice_get w.processes (q - 1) ≡ Some x)
    here = there_some w.processes (q - 1) (let a = there.0 in let b = there.1 in omega (arith, a, b))

    at : held_in (at_place (q - 1) (λ (x : Process). record x { held = f x.held }) w.processes) (p - 1) i ≡ (if p - 1 == q - 1 then held_then f (slice_get w.processes (p - 1)) i else held_in w.processes (p - 1) i)
    at = held_at_place w.processes (q - 1) (p - 1) i f

    one : (c : Bool)
        → holds_of (if c then g (held_in w.processes (q - 1) j) else held_in w.processes (q - 1) i) ≡ (if c then holds_of (g (held_in w.processes (q - 1) j)) else place_holds w q i)
    one true = refl
    one false = refl

    go : (b : Bool) → (p - 1 == q - 1) ≡ b → holds_of (held_in (at_place (q - 1) (λ (x : Process). record x { held = f x.held }) w.processes) (p - 1) i) ≡ (if p == q && j == i then holds_of (g (held_in w.processes (q - 1) j)) else place_holds w p i)
    go true is =
        let same : p ≡ q = let a = there.0 in let b = number_is p q some a in grind (arith, is, b) in
        let yes : (p == q) ≡ true = sym (number_is p q some there.0) ∙ is in
        rw yes (ap holds_of (at ∙ if_yes (p - 1 == q - 1) _ _ is) ∙ rw same (ap holds_of (put_then j i g (slice_get w.processes (q - 1)) here.0 here.1) ∙ one (j == i)))
    go false is =
        let no : (p == q) ≡ false = sym (number_is p q some there.0) ∙ is in
        rw no (ap holds_of (at ∙ if_no (p - 1 == q - 1) _ _ is))

both_same : (p q j i : ℕ) → ((p == q) && (j == i)) ≡ true → (p ≡ q) × (j ≡ i)
both_same p q j i e = (grind (arith, e), grind (arith, e))

came_balance : (b : Bool) (x new old lines n : ℕ) → x ≡ (if b then new else old) → lines ≡ (if b then n else 0) → (b ≡ true → new ≡ old + n)
    → x + 0 ≡ old + lines
came_balance true x new old lines n e f g = let h = g refl in omega (arith, e, f, h)
came_balance false x new old lines n e f g = omega (arith, e, f)

went_balance : (b : Bool) (x new old lines n : ℕ) → x ≡ (if b then new else old) → lines ≡ (if b then n else 0) → (b ≡ true → new + n ≡ old)
    → x + lines ≡ old + 0
went_balance true x new old lines n e f g = let h = g refl in omega (arith, e, f, h)
went_balance false x new old lines n e f g = omega (arith, e, f)

same_holds : (w : World) (p q i j : ℕ) → (p ≡ q) × (j ≡ i) → place_holds w q j ≡ place_holds w p i
same_holds w p q i j e = rw (e.0, e.1) refl

pub one_told : (cause : List ℕ) (w : World) (c : Change) → CanTell w c → (p i : ℕ) → 0 < p
    → place_holds (with_change w c) p i + went (drop_lines_of cause c) p (selector_of i) ≡ place_holds w p i + came (hold_lines_of cause c) p (selector_of i)
one_told cause w (Holds q j h) there p i some =
    came_balance ((p == q) && (j == i)) _ (holds_of (more h (held_in w.processes (q - 1) j))) (place_holds w p i) _ h.holds (put_holds w q j p i (more h) there some)
    (came_times h.holds (HoldsBy q (selector_of j) cause) p (selector_of i) ((p == q) && (j == i)) (ap (λ (b : Bool). one_if ((p == q) && b)) (selector_is i j)))
    (λ e. more_holds h (held_in w.processes (q - 1) j) ∙ ap (λ n. n + h.holds) (same_holds w p q i j (both_same p q j i e)))
one_told cause w (Drops q j count) can p i some =
    went_balance ((p == q) && (j == i)) _ (holds_of (fewer count (held_in w.processes (q - 1) j))) (place_holds w p i) _ count (put_holds w q j p i (fewer count) can.0 some)
    (went_times count (DropsBy q (selector_of j) cause) p (selector_of i) ((p == q) && (j == i)) (ap (λ (b : Bool). one_if ((p == q) && b)) (selector_is i j)))
    (λ e. let x = fewer_holds count (held_in w.processes (q - 1) j) in let y = same_holds w p q i j (both_same p q j i e) in let z = can.1 in let u = number_holds w q j can.0.0 in omega (arith, x, y, z, u))
one_told cause w (Finishes q state) never p i some = absurd never
one_told cause w (Makes g) can p i some = refl
one_told cause w (Resizes n size) can p i some = refl
one_told cause w (Locks n count) can p i some = refl
one_told cause w (Marks n d) can p i some = refl
one_told cause w (Reserves r) can p i some = refl
one_told cause w (Frees r first) can p i some = refl
one_told cause w (Names text n) can p i some = refl

-- All changes of a step.

pub all_told : (cause : List ℕ) (w : World) (cs : List Change) → CanTellAll w cs → (p i : ℕ) → 0 < p
    → place_holds (with_changes w cs) p i + went (flat_map (drop_lines_of cause) cs) p (selector_of i) ≡ place_holds w p i + came (flat_map (hold_lines_of cause) cs) p (selector_of i)
unfolding with_changes
all_told cause w [] can p i some = refl
all_told cause w (c ∷ cs) can p i some =
    let one = one_told cause w c can.0 p i some in
    let rest = all_told cause (with_change w c) cs can.1 p i some in
    let a = came_append (hold_lines_of cause c) (flat_map (hold_lines_of cause) cs) p (selector_of i) in
    let b = went_append (drop_lines_of cause c) (flat_map (drop_lines_of cause) cs) p (selector_of i) in
    omega (arith, one, rest, a, b)

pub swept_holds : (b : Bool) (w : World) (p i : ℕ)
    → place_holds (if b then Rattle.o2_world.specs.Changes.swept w else w) p i ≡ place_holds w p i
swept_holds true w p i = refl
swept_holds false w p i = refl

-- what is held after a step's changes, and the lines that tell of them
pub changes_told : (cause : List ℕ) (w : World) (cs : List Change) → CanTellAll w cs → (p i : ℕ) → 0 < p
    → place_holds (with_all w cs) p i + went (moved_lines cause cs) p (selector_of i) ≡ place_holds w p i + came (moved_lines cause cs) p (selector_of i)
changes_told cause w cs can p i some =
    let h = all_told cause w cs can p i some in
    let a = moved_came cause cs p (selector_of i) in
    let b = moved_went cause cs p (selector_of i) in
    let c = swept_holds (list_any takes cs) (with_changes w cs) p i in
    omega (arith, h, a, b, c)
