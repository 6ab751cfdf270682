-- Each change that is fit keeps a world tied.
use Rattle.std.proofs.Common.{◌≡◌, ◌≢◌, ◌⊎◌, inl, inr, ℕ, zero, suc, ◌+◌, ◌-◌, ◌<◌, ◌≤◌, ◌/◌, ◌==◌, nat_lt, Bool, true, false, List, [], ◌∷◌, length, take, replicate}
use Rattle.std.proofs.Common.{Option, Some, None, if◌then◌else◌, ap, sym, ◌∙◌, refl, arith, subst, length-append}
use Rattle.std.specs.Prelude.{slice_get, option_map, is_some}
use Rattle.o2_isa.specs.View.{is_null, is_writable, is_readable, is_code}
use Rattle.o2_world.specs.declared.types.State.{State}
use Rattle.o2_world.specs.Map.{Map, at_key, get, put}
use Rattle.o2_world.specs.World.{World, Process, Segment, Held, Reserve, is_live}
use Rattle.o2_world.specs.Changes.{Change, Makes, Resizes, Locks, Marks, Holds, Drops, Finishes, Reserves, Frees, Names, marked, more, fewer, resized, at_place, at_number, with_segment, with_change}
use Rattle.o2_world.specs.Sound.{held_of, held_in, has_rights, NamesHeld, HasGoodRegisters}
use Rattle.o2_world.specs.Tied.{AreLive, has_no_flags, lives_in, HasSize, IsOwnData, AreOne, IsTied, IsUnnamed, IsFitHold, IsFitDrop, IsFitChange}
use Rattle.o2_world.proofs.Reached.{get-put, get-place, held_at_place, held_then}
use Rattle.o2_world.proofs.MapLemmas.{get-at_key, if_yes, if_no}

-- Look-ups after a change of one map, and of one name.

record IsNew (place k i j : ℕ) (o : Option Held) (h : Held) : Type 0 where
  pub at : place ≡ k
  pub index : i ≡ j
  pub is : o ≡ Some h

same_number : (n m : ℕ) (b : Bool) → (n == m) ≡ b → b ≡ true → n ≡ m
same_number n m b e h = grind arith

put_from : (place k i j : ℕ) (g : Option Held → Option Held) (o : Option Process) (h : Held) → place ≡ k
    → held_then (λ (m : Map Held). put j (g (get m j)) m) o i ≡ Some h
    → (held_of o i ≡ Some h) ⊎ IsNew place k i j (g (held_of o j)) h
put_from place k i j g None h at e = absurd (cc)
put_from place k i j g (Some x) h at e = go (j == i) refl (sym (get-put j i (g (get x.held j)) x.held) ∙ e)
  where
    go : (b : Bool) → (j == i) ≡ b → (if j == i then g (get x.held j) else get x.held i) ≡ Some h
        → (get x.held i ≡ Some h) ⊎ IsNew place k i j (g (get x.held j)) h
    go true is f = inr (record { at = at; index = sym (same_number j i true is refl); is = sym (if_yes (j == i) _ _ is) ∙ f })
    go false is f = inl (sym (if_no (j == i) _ _ is) ∙ f)

-- what is held was held before, or is new
held_from : (ps : List Process) (k j : ℕ) (g : Option Held → Option Held) (place i : ℕ) (h : Held)
    → held_in (at_place k (λ (x : Process). record x { held = put j (g (get x.held j)) x.held }) ps) place i ≡ Some h
    → (held_in ps place i ≡ Some h) ⊎ IsNew place k i j (g (held_in ps place j)) h
held_from ps k j g place i h e = go (place == k) refl (sym (held_at_place ps k place i (λ (m : Map Held). put j (g (get m j)) m)) ∙ e)
  where
    go : (b : Bool) → (place == k) ≡ b
        → (if place == k then held_then (λ (m : Map Held). put j (g (get m j)) m) (slice_get ps place) i else held_in ps place i) ≡ Some h
        → (held_in ps place i ≡ Some h) ⊎ IsNew place k i j (g (held_in ps place j)) h
    go true is f = put_from place k i j g (slice_get ps place) h (same_number place k true is refl) (sym (if_yes (place == k) _ _ is) ∙ f)
    go false is f = inl (sym (if_no (place == k) _ _ is) ∙ f)

-- a process of a list in which one place is changed
pub record IsFrom (ps : List Process) (k place : ℕ) (f : Process → Process) (x : Process) : Type 0 where
  pub old : Process
  pub there : slice_get ps place ≡ Some old
  pub is : (x ≡ old) ⊎ ((place ≡ k) × (x ≡ f old))

pub place_from : (ps : List Process) (k place : ℕ) (f : Process → Process) (x : Process) → slice_get (at_place k f ps) place ≡ Some x
    → IsFrom ps k place f x
place_from ps k place f x e = go (place == k) refl (slice_get ps place) refl (sym (get-place k place f ps) ∙ e)
  where
    go : (b : Bool) → (place == k) ≡ b → (o : Option Process) → slice_get ps place ≡ o
        → (if place == k then option_map f (slice_get ps place) else slice_get ps place) ≡ Some x → IsFrom ps k place f x
    go true is None at e = absurd (let z : option_map f (slice_get ps place) ≡ Some x = sym (if_yes (place == k) _ _ is) ∙ e in cc)
    go true is (Some y) at e =
        let z : option_map f (slice_get ps place) ≡ Some x = sym (if_yes (place == k) _ _ is) ∙ e in
        let u : Some (f y) ≡ Some x = sym (ap (option_map f) at) ∙ z in
        record { old = y; there = at; is = inr (same_number place k true is refl, cc) }
    go false is o at e = record { old = x; there = sym (if_no (place == k) _ _ is) ∙ e; is = inl refl }

-- names
is_some-map : {X : Type 0} (f : X → X) (o : Option X) → is_some (option_map f o) ≡ is_some o
is_some-map f None = refl
is_some-map f (Some x) = refl

pub lives_same : (m : Map Segment) (n q : ℕ) (f : Segment → Segment) → is_some (get (at_key n f m) q) ≡ is_some (get m q)
lives_same m n q f = ap is_some (get-at_key n q f m) ∙ go (n == q) refl
  where
    go : (b : Bool) → (n == q) ≡ b → is_some (if n == q then option_map f (get m n) else get m q) ≡ is_some (get m q)
    go true is = ap is_some (if_yes (n == q) _ _ is) ∙ is_some-map f (get m n) ∙ ap (λ k. is_some (get m k)) (same_number n q true is refl)
    go false is = ap is_some (if_no (n == q) _ _ is)

flags_same : (m : Map Segment) (n q : ℕ) (f : Segment → Segment) → ((s : Segment) → (f s).flags ≡ s.flags) → has_no_flags (get (at_key n f m) q) ≡ has_no_flags (get m q)
flags_same m n q f flags = ap has_no_flags (get-at_key n q f m) ∙ go (n == q) refl
  where
    mapped : (o : Option Segment) → has_no_flags (option_map f o) ≡ has_no_flags o
    mapped None = refl
    mapped (Some s) = ap (λ (x : ℕ). x == 0) (flags s)

    go : (b : Bool) → (n == q) ≡ b → has_no_flags (if n == q then option_map f (get m n) else get m q) ≡ has_no_flags (get m q)
    go true is = ap has_no_flags (if_yes (n == q) _ _ is) ∙ mapped (get m n) ∙ ap (λ k. has_no_flags (get m k)) (same_number n q true is refl)
    go false is = ap has_no_flags (if_no (n == q) _ _ is)

pub flags_live : (o : Option Segment) → has_no_flags o ≡ true → is_some o ≡ true
flags_live None e = e
flags_live (Some s) e = refl

record IsNamedFrom (m : Map Segment) (q : ℕ) (f : Segment → Segment) (s : Segment) : Type 0 where
  pub old : Segment
  pub there : get m q ≡ Some old
  pub is : (s ≡ old) ⊎ (s ≡ f old)

named_from : (m : Map Segment) (n q : ℕ) (f : Segment → Segment) (s : Segment) → get (at_key n f m) q ≡ Some s
    → IsNamedFrom m q f s
named_from m n q f s e = go (n == q) refl (get m n) refl (sym (get-at_key n q f m) ∙ e)
  where
    go : (b : Bool) → (n == q) ≡ b → (o : Option Segment) → get m n ≡ o → (if n == q then option_map f (get m n) else get m q) ≡ Some s
        → IsNamedFrom m q f s
    go true is None at e = absurd (let z : option_map f (get m n) ≡ Some s = sym (if_yes (n == q) _ _ is) ∙ e in cc)
    go true is (Some y) at e =
        let z : option_map f (get m n) ≡ Some s = sym (if_yes (n == q) _ _ is) ∙ e in
        let u : Some (f y) ≡ Some s = sym (ap (option_map f) at) ∙ z in
        record { old = y; there = ap (get m) (sym (same_number n q true is refl)) ∙ at; is = inr cc }
    go false is o at e = record { old = s; there = sym (if_no (n == q) _ _ is) ∙ e; is = inl refl }

pub texts_live : (old new : Map Segment) (ts : List (List ℕ × ℕ)) → ((q : ℕ) → has_no_flags (get old q) ≡ true → has_no_flags (get new q) ≡ true)
    → AreLive old ts → AreLive new ts
texts_live old new [] f h = h
texts_live old new (t ∷ ts) f h = (f t.1 h.0, texts_live old new ts f h.1)

-- a segment that was there before, with its marks clean and shared
pub record KeepsMarks (names : Map Segment) (n : ℕ) (s : Segment) : Type 0 where
  pub old : Segment
  pub there : get names n ≡ Some old
  pub clean : s.clean ≡ old.clean
  pub shared : s.shared ≡ old.shared

-- what is held under a shared index, over other names: each segment that is there has the marks of the one before
pub still_one : (old new : Map Segment) (h k : Held) → ((s : Segment) → get new h.name ≡ Some s → KeepsMarks old h.name s)
    → ((s : Segment) → get new k.name ≡ Some s → KeepsMarks old k.name s) → AreOne old h k → AreOne new h k
still_one old new h k f g (inl same) = inl same
still_one old new h k f g (inr both) = inr (still h f both.0, still k g both.1)
  where
    still : (x : Held) → ((s : Segment) → get new x.name ≡ Some s → KeepsMarks old x.name s) → IsOwnData old x → IsOwnData new x
    still x keeps own = record {
      cause = own.cause;
      own = λ s e. let before = keeps s e in let marks = own.own before.old before.there in (before.clean ∙ marks.0, before.shared ∙ marks.1);
    }

pub same_marks : (names : Map Segment) (n : ℕ) (s : Segment) → get names n ≡ Some s → KeepsMarks names n s
same_marks names n s e = record { old = s; there = e; clean = refl; shared = refl }

-- A change of a segment that leaves its marks clean and shared, and has a size.
segment_tied : (w : World) (n : ℕ) (f : Segment → Segment) → ((s : Segment) → (f s).clean ≡ s.clean)
    → ((s : Segment) → (f s).shared ≡ s.shared) → ((s : Segment) → (f s).flags ≡ s.flags)
    → ((s : Segment) → HasSize s → HasSize (f s)) → IsTied w → IsTied (with_segment w n f)
segment_tied w n f clean shared flags sized tied = record {
  held = λ place i h e. let old = tied.held place i h e in (lives_same w.names n h.name f ∙ old.0, old.1);
  below = λ q e. tied.below q (sym (lives_same w.names n q f) ∙ e);
  sized = λ q s e. let from = named_from w.names n q f s e in size_by s from.old from.is (tied.sized q from.old from.there);
  clean = λ place i h s e g c. let from = named_from w.names n h.name f s g in tied.clean place i h from.old e from.there (sym (clean_by s from.old from.is) ∙ c);
  one = λ place other i h k big e g. still_one w.names (at_key n f w.names) h k (marks h.name) (marks k.name) (tied.one place other i h k big e g);
  texts = texts_live w.names (at_key n f w.names) w.texts (λ q e. flags_same w.names n q f flags ∙ e) tied.texts;
  ended = tied.ended;
  registers = tied.registers;
}
  where
    size_by : (s old : Segment) → (s ≡ old) ⊎ (s ≡ f old) → HasSize old → HasSize s
    size_by s old (inl same) h = subst HasSize (sym same) h
    size_by s old (inr same) h = subst HasSize (sym same) (sized old h)

    clean_by : (s old : Segment) → (s ≡ old) ⊎ (s ≡ f old) → s.clean ≡ old.clean
    clean_by s old (inl same) = ap (λ (x : Segment). x.clean) same
    clean_by s old (inr same) = ap (λ (x : Segment). x.clean) same ∙ clean old

    shared_by : (s old : Segment) → (s ≡ old) ⊎ (s ≡ f old) → s.shared ≡ old.shared
    shared_by s old (inl same) = ap (λ (x : Segment). x.shared) same
    shared_by s old (inr same) = ap (λ (x : Segment). x.shared) same ∙ shared old

    marks : (q : ℕ) (s : Segment) → get (at_key n f w.names) q ≡ Some s → KeepsMarks w.names q s
    marks q s e =
        let from = named_from w.names n q f s e in
        record { old = from.old; there = from.there; clean = clean_by s from.old from.is; shared = shared_by s from.old from.is }

-- A segment with the next name.
makes_tied : (w : World) (s : Segment) → HasSize s → IsTied w → IsTied (with_change w (Makes s))
makes_tied w s sized tied = record {
  held = λ place i h e. let old = tied.held place i h e in (more_live h.name old.0, old.1);
  below = λ q e. below q (w.next_name == q) refl e;
  sized = λ q t e. size q t (w.next_name == q) refl e;
  clean = λ place i h t e g c. tied.clean place i h t e (sym (if_no (w.next_name == h.name) _ _ (other h.name (tied.held place i h e).0)) ∙ g) c;
  one = λ place other i h k big e f. still_one w.names new h k (marks h.name (tied.held place i h e).0) (marks k.name (tied.held other i k f).0) (tied.one place other i h k big e f);
  texts = texts_live w.names (put w.next_name (Some s) w.names) w.texts no_more_flags tied.texts;
  ended = tied.ended;
  registers = tied.registers;
}
  where
    new : Map Segment
    new = put w.next_name (Some s) w.names

    not_new : (q : ℕ) → q < w.next_name → (w.next_name == q) ≡ false
    not_new q h = grind arith

    other : (q : ℕ) → lives_in w q ≡ true → (w.next_name == q) ≡ false
    other q e = not_new q (tied.below q e)

    more_live : (q : ℕ) → lives_in w q ≡ true → is_some (get new q) ≡ true
    more_live q e = ap is_some (if_no (w.next_name == q) (Some s) (get w.names q) (other q e)) ∙ e

    no_more_flags : (q : ℕ) → has_no_flags (get w.names q) ≡ true → has_no_flags (get new q) ≡ true
    no_more_flags q e = ap has_no_flags (if_no (w.next_name == q) (Some s) (get w.names q) (other q (flags_live (get w.names q) e))) ∙ e

    marks : (q : ℕ) → lives_in w q ≡ true → (t : Segment) → get new q ≡ Some t → KeepsMarks w.names q t
    marks q lives t e = same_marks w.names q t (sym (if_no (w.next_name == q) (Some s) (get w.names q) (other q lives)) ∙ e)

    below : (q : ℕ) (b : Bool) → (w.next_name == q) ≡ b → is_some (get new q) ≡ true → q < w.next_name + 1
    below q true is e = let same = same_number w.next_name q true is refl in omega (arith, same)
    below q false is e = let h = tied.below q (sym (ap is_some (if_no (w.next_name == q) (Some s) (get w.names q) is)) ∙ e) in omega (arith, h)

    size : (q : ℕ) (t : Segment) (b : Bool) → (w.next_name == q) ≡ b → get new q ≡ Some t → HasSize t
    size q t true is e = let u : Some s ≡ Some t = sym (if_yes (w.next_name == q) (Some s) (get w.names q) is) ∙ e in let same : s ≡ t = cc in subst HasSize same sized
    size q t false is e = tied.sized q t (sym (if_no (w.next_name == q) (Some s) (get w.names q) is) ∙ e)

-- Registers name what they named, where the index that changed keeps its rights, or isn't named.

abbrev pub KeepsRights : (ℕ → Bool) → Option Held → Option Held → Type 0
KeepsRights ok old new = has_rights ok old ≡ true → has_rights ok new ≡ true

abbrev pub put_held : (Option Held → Option Held) → ℕ → Process → Process
put_held g j p = record p { held = put j (g (get p.held j)) p.held }

named_still : (p : Process) (g : Option Held → Option Held) (j s : ℕ) (ok : ℕ → Bool)
    → (s / 8 ≡ j → KeepsRights ok (get p.held j) (g (get p.held j))) → NamesHeld p ok s → NamesHeld (put_held g j p) ok s
named_still p g j s ok keeps named = (named.0, ap (has_rights ok) (get-put j (s / 8) (g (get p.held j)) p.held) ∙ go (j == s / 8) refl)
  where
    go : (b : Bool) → (j == s / 8) ≡ b → has_rights ok (if j == s / 8 then g (get p.held j) else get p.held (s / 8)) ≡ true
    go true is =
        let same = same_number j (s / 8) true is refl in
        ap (has_rights ok) (if_yes (j == s / 8) _ _ is) ∙ keeps (sym same) (ap (λ k. has_rights ok (get p.held k)) same ∙ named.1)
    go false is = ap (has_rights ok) (if_no (j == s / 8) _ _ is) ∙ named.1

data_still : (p : Process) (g : Option Held → Option Held) (j s : ℕ) (ok : ℕ → Bool)
    → ((is_null s ≡ true) ⊎ (s / 8 ≡ j → KeepsRights ok (get p.held j) (g (get p.held j)))) → (is_null s ≡ true) ⊎ NamesHeld p ok s
    → (is_null s ≡ true) ⊎ NamesHeld (put_held g j p) ok s
data_still p g j s ok keeps (inl null) = inl null
data_still p g j s ok (inl null) (inr named) = inl null
data_still p g j s ok (inr keeps) (inr named) = inr (named_still p g j s ok keeps named)

record KeepsNamed (p : Process) (g : Option Held → Option Held) (j : ℕ) : Type 0 where
  cs : p.cpu.cs / 8 ≡ j → KeepsRights is_code (get p.held j) (g (get p.held j))
  ss : p.cpu.ss / 8 ≡ j → KeepsRights is_writable (get p.held j) (g (get p.held j))
  ds : (is_null p.cpu.ds ≡ true) ⊎ (p.cpu.ds / 8 ≡ j → KeepsRights is_readable (get p.held j) (g (get p.held j)))
  es : (is_null p.cpu.es ≡ true) ⊎ (p.cpu.es / 8 ≡ j → KeepsRights is_readable (get p.held j) (g (get p.held j)))

registers_still : (p : Process) (g : Option Held → Option Held) (j : ℕ) → KeepsNamed p g j → HasGoodRegisters p
    → HasGoodRegisters (put_held g j p)
registers_still p g j k good = record {
  cs = named_still p g j p.cpu.cs is_code k.cs good.cs;
  cs_ring = good.cs_ring;
  ss = named_still p g j p.cpu.ss is_writable k.ss good.ss;
  ss_ring = good.ss_ring;
  ds = data_still p g j p.cpu.ds is_readable k.ds good.ds;
  es = data_still p g j p.cpu.es is_readable k.es good.es;
}

-- Holds more.

more_keeps : (h : Held) (ok : ℕ → Bool) (o : Option Held) → KeepsRights ok o (more h o)
more_keeps h ok None e = absurd (cc)
more_keeps h ok (Some old) e = e

-- what is under the index behind it: what was there with more holds, or all that came
data IsMore (h : Held) (o : Option Held) (x : Held) : Type 0 where
  Old : (old : Held) → o ≡ Some old → x.name ≡ old.name → x.rights ≡ old.rights → x.cause ≡ old.cause → 0 < old.holds + h.holds → x.holds ≡ old.holds + h.holds → IsMore h o x
  New : o ≡ None → x ≡ h → IsMore h o x

more_is : (h : Held) (o : Option Held) (x : Held) → 0 < h.holds → more h o ≡ Some x → IsMore h o x
more_is h None x some e = New refl (let z : Some h ≡ Some x = e in cc)
more_is h (Some old) x some e =
    let same : record old { holds = old.holds + h.holds } ≡ x = (let z : Some (record old { holds = old.holds + h.holds }) ≡ Some x = e in cc) in
    Old old refl (ap (λ (y : Held). y.name) (sym same)) (ap (λ (y : Held). y.rights) (sym same)) (ap (λ (y : Held). y.cause) (sym same)) (omega (arith, some)) (ap (λ (y : Held). y.holds) (sym same))

abbrev pub held_put : World → ℕ → ℕ → (Option Held → Option Held) → World
held_put w p i g = record w { processes = at_place (p - 1) (put_held g i) w.processes }

-- what holds of each process that is there
each_from : {P : Process → Type 0} (ps : List Process) (k : ℕ) (f : Process → Process)
    → ((place : ℕ) (x : Process) → slice_get ps place ≡ Some x → P x) → ((x : Process) → slice_get ps k ≡ Some x → P (f x))
    → (place : ℕ) (x : Process) → slice_get (at_place k f ps) place ≡ Some x → P x
each_from {P} ps k f old new place x e = let from = place_from ps k place f x e in go from.old from.there from.is
  where
    go : (y : Process) → slice_get ps place ≡ Some y → (x ≡ y) ⊎ ((place ≡ k) × (x ≡ f y)) → P x
    go y there (inl same) = subst P (sym same) (old place y there)
    go y there (inr same) = subst P (sym same.1) (new y (ap (slice_get ps) (sym same.0) ∙ there))

one_swap : (names : Map Segment) (h k : Held) → AreOne names h k → AreOne names k h
one_swap names h k (inl e) = inl (sym e)
one_swap names h k (inr e) = inr (e.1, e.0)

-- by name and cause alone
own_by : (names : Map Segment) (x old : Held) → x.name ≡ old.name → x.cause ≡ old.cause → IsOwnData names old → IsOwnData names x
own_by names x old name cause own = record { cause = cause ∙ own.cause; own = λ s e. own.own s (ap (get names) (sym name) ∙ e) }

holds_tied : (w : World) (p j : ℕ) (n : Held) → (p == 0) ≡ false → IsFitHold w p j n → IsTied w → IsTied (held_put w p j (more n))
holds_tied w p j n some fit tied = record {
  held = λ place i h e. live_by place i h (held_from w.processes (p - 1) j (more n) place i h e);
  below = tied.below;
  sized = tied.sized;
  clean = λ place i h s e g c. clean_by place i h s (held_from w.processes (p - 1) j (more n) place i h e) g c;
  one = λ place other i h k big e f. one_by place other i h k big (held_from w.processes (p - 1) j (more n) place i h e) (held_from w.processes (p - 1) j (more n) other i k f);
  texts = tied.texts;
  ended = each_from {P = λ x. is_live x.state ≡ false → x.held ≡ []} w.processes (p - 1) (put_held (more n) j) tied.ended
      (λ x there ends. absurd (let a : true ≡ false = sym (fit.goes_on x (if_no (p == 0) None (slice_get w.processes (p - 1)) some ∙ there)) ∙ ends in cc));
  registers = each_from {P = λ x. is_live x.state ≡ true → HasGoodRegisters x} w.processes (p - 1) (put_held (more n) j) tied.registers
      (λ x there lives. registers_still x (more n) j (record {
        cs = λ _. more_keeps n is_code (get x.held j);
        ss = λ _. more_keeps n is_writable (get x.held j);
        ds = inr
            (λ _. more_keeps n is_readable (get x.held j));
        es = inr (λ _. more_keeps n is_readable (get x.held j));
      })
      (tied.registers (p - 1) x there lives));
}
  where
    From : ℕ → ℕ → Held → Type 0
    From place i h = (held_in w.processes place i ≡ Some h) ⊎ IsNew place (p - 1) i j (more n (held_in w.processes place j)) h

    live_more : (place : ℕ) (h : Held) → IsMore n (held_in w.processes place j) h → (lives_in w h.name ≡ true) × (0 < h.holds)
    live_more place h (Old old at name rights cause some is) = (ap (lives_in w) name ∙ (tied.held place j old at).0, omega (arith, some, is))
    live_more place h (New none is) = (ap (λ (x : Held). lives_in w x.name) is ∙ fit.lives, let z = fit.some in let y = ap (λ (x : Held). x.holds) is in omega (arith, z, y))

    live_by : (place i : ℕ) (h : Held)
        → (held_in w.processes place i ≡ Some h) ⊎ IsNew place (p - 1) i j (more n (held_in w.processes place j)) h
        → (lives_in w h.name ≡ true) × (0 < h.holds)
    live_by place i h (inl old) = tied.held place i h old
    live_by place i h (inr new) = live_more place h (more_is n (held_in w.processes place j) h fit.some new.is)

    clean_more : (place : ℕ) (h : Held) (s : Segment) → IsMore n (held_in w.processes place j) h → get w.names h.name ≡ Some s
        → s.clean ≡ true → is_writable h.rights ≡ false
    clean_more place h s (Old old at name rights cause some is) g c = ap is_writable rights ∙ tied.clean place j old s at (ap (get w.names) (sym name) ∙ g) c
    clean_more place h s (New none is) g c = ap (λ (x : Held). is_writable x.rights) is ∙ fit.clean s (ap (λ (x : Held). get w.names x.name) (sym is) ∙ g) c

    clean_by : (place i : ℕ) (h : Held) (s : Segment)
        → (held_in w.processes place i ≡ Some h) ⊎ IsNew place (p - 1) i j (more n (held_in w.processes place j)) h
        → get w.names h.name ≡ Some s → s.clean ≡ true → is_writable h.rights ≡ false
    clean_by place i h s (inl old) g c = tied.clean place i h s old g c
    clean_by place i h s (inr new) g c = clean_more place h s (more_is n (held_in w.processes place j) h fit.some new.is) g c

    -- what came agrees with all that was there under the index
    with_old : (place other : ℕ) (h k : Held) → 4096 ≤ j → IsMore n (held_in w.processes place j) h → held_in w.processes other j ≡ Some k
        → AreOne w.names h k
    with_old place other h k big (Old old at name rights cause some is) f = same (tied.one place other j old k big at f)
      where
        same : AreOne w.names old k → AreOne w.names h k
        same (inl e) = inl (name ∙ e)
        same (inr e) = inr (own_by w.names h old name cause e.0, e.1)
    with_old place other h k big (New none is) f = subst (λ (x : Held). AreOne w.names x k) (sym is) (fit.one other k big f)

    same_place : (place other : ℕ) (h k : Held) → place ≡ p - 1 → other ≡ p - 1 → more n (held_in w.processes place j) ≡ Some h
        → more n (held_in w.processes other j) ≡ Some k → AreOne w.names h k
    same_place place other h k a b e f =
        let same : Some h ≡ Some k = sym e ∙ ap (λ q. more n (held_in w.processes q j)) (a ∙ sym b) ∙ f in
        inl (ap (λ (x : Held). x.name) (let z : h ≡ k = cc in z))

    one_by : (place other i : ℕ) (h k : Held) → 4096 ≤ i
        → (held_in w.processes place i ≡ Some h) ⊎ IsNew place (p - 1) i j (more n (held_in w.processes place j)) h
        → (held_in w.processes other i ≡ Some k) ⊎ IsNew other (p - 1) i j (more n (held_in w.processes other j)) k → AreOne w.names h k
    one_by place other i h k big (inl e) (inl f) = tied.one place other i h k big e f
    one_by place other i h k big (inr new) (inl f) = with_old place other h k (subst (λ x. 4096 ≤ x) new.index big) (more_is n (held_in w.processes place j) h fit.some new.is) (subst (λ x. held_in w.processes other x ≡ Some k) new.index f)
    one_by place other i h k big (inl e) (inr new) = one_swap w.names k h (with_old other place k h (subst (λ x. 4096 ≤ x) new.index big) (more_is n (held_in w.processes other j) k fit.some new.is) (subst (λ x. held_in w.processes place x ≡ Some h) new.index e))
    one_by place other i h k big (inr new) (inr newer) = same_place place other h k new.at newer.at new.is newer.is

-- Holds less.

record IsFewer (count : ℕ) (o : Option Held) (x : Held) : Type 0 where
  old : Held
  at : o ≡ Some old
  name : x.name ≡ old.name
  rights : x.rights ≡ old.rights
  cause : x.cause ≡ old.cause
  some : 0 < x.holds

fewer_is : (count : ℕ) (o : Option Held) (x : Held) → fewer count o ≡ Some x → IsFewer count o x
fewer_is count None x e = absurd (cc)
fewer_is count (Some old) x e = go (nat_lt count old.holds) refl e
  where
    go : (b : Bool) → nat_lt count old.holds ≡ b → (if b then Some (record old { holds = old.holds - count }) else None) ≡ Some x → IsFewer count (Some old) x
    go true is e =
        let same : record old { holds = old.holds - count } ≡ x = cc in
        let left : count < old.holds = grind arith in
        let holds : old.holds - count ≡ x.holds = ap (λ (y : Held). y.holds) same in
        record { old = old; at = refl; name = ap (λ (y : Held). y.name) (sym same); rights = ap (λ (y : Held). y.rights) (sym same); cause = ap (λ (y : Held). y.cause) (sym same); some = omega (arith, left, holds) }
    go false is e = absurd (cc)

below_is : (n m : ℕ) → n < m → nat_lt n m ≡ true
below_is n m h = grind arith

fewer_keeps : (count : ℕ) (ok : ℕ → Bool) (o : Option Held) → ((h : Held) → o ≡ Some h → count < h.holds) → KeepsRights ok o (fewer count o)
fewer_keeps count ok None left e = absurd (cc)
fewer_keeps count ok (Some old) left e = ap (has_rights ok) (if_yes (nat_lt count old.holds) (Some (record old { holds = old.holds - count })) None (below_is count old.holds (left old refl))) ∙ e

drop_keeps : (x : Process) (j count : ℕ) → ((h : Held) → get x.held j ≡ Some h → count < h.holds) ⊎ IsUnnamed x.cpu j
    → KeepsNamed x (fewer count) j
drop_keeps x j count (inl left) = record {
  cs = λ _. fewer_keeps count is_code (get x.held j) left;
  ss = λ _. fewer_keeps count is_writable (get x.held j) left;
  ds = inr (λ _. fewer_keeps count is_readable (get x.held j) left);
  es = inr (λ _. fewer_keeps count is_readable (get x.held j) left);
}
drop_keeps x j count (inr un) = record { cs = λ e. absurd (un.cs e); ss = λ e. absurd (un.ss e); ds = data_unnamed x.cpu.ds un.ds; es = data_unnamed x.cpu.es un.es }
  where
    data_unnamed : (s : ℕ) → (is_null s ≡ true) ⊎ (s / 8 ≢ j)
        → (is_null s ≡ true) ⊎ (s / 8 ≡ j → KeepsRights is_readable (get x.held j) (fewer count (get x.held j)))
    data_unnamed s (inl null) = inl null
    data_unnamed s (inr other) = inr (λ e. absurd (other e))

nothing_less : (m : Map Held) (j count : ℕ) → m ≡ [] → put j (fewer count (get m j)) m ≡ []
nothing_less m j count e = rw e refl

drops_tied : (w : World) (p j count : ℕ) → (p == 0) ≡ false → IsFitDrop w p j count → IsTied w → IsTied (held_put w p j (fewer count))
drops_tied w p j count positive fit tied = record {
  held = λ place i h e. let old = before place i h e in (ap (lives_in w) old.name ∙ (tied.held place i old.old old.at).0, old.some);
  below = tied.below;
  sized = tied.sized;
  clean = λ place i h s e g c. let old = before place i h e in ap is_writable old.rights ∙ tied.clean place i old.old s old.at (ap (get w.names) (sym old.name) ∙ g) c;
  one = λ place other i h k big e f. let a = before place i h e in let b = before other i k f in one_by h k a.old b.old a.name b.name a.cause b.cause (tied.one place other i a.old b.old big a.at b.at);
  texts = tied.texts;
  ended = each_from {P = λ x. is_live x.state ≡ false → x.held ≡ []} w.processes (p - 1) (put_held (fewer count) j) tied.ended
      (λ x there ends. nothing_less x.held j count (tied.ended (p - 1) x there ends));
  registers = each_from {P = λ x. is_live x.state ≡ true → HasGoodRegisters x} w.processes (p - 1) (put_held (fewer count) j) tied.registers
      (λ x there lives. registers_still x (fewer count) j (drop_keeps x j count (fit x (if_no (p == 0) None (slice_get w.processes (p - 1)) positive ∙ there) lives)) (tied.registers (p - 1) x there lives));
}
  where
    -- each hold was there
    before : (place i : ℕ) (h : Held) → held_in (at_place (p - 1) (put_held (fewer count) j) w.processes) place i ≡ Some h
        → IsFewer count (held_in w.processes place i) h
    before place i h e = go (held_from w.processes (p - 1) j (fewer count) place i h e)
      where
        go : (held_in w.processes place i ≡ Some h) ⊎ IsNew place (p - 1) i j (fewer count (held_in w.processes place j)) h
            → IsFewer count (held_in w.processes place i) h
        go (inl old) = record { old = h; at = old; name = refl; rights = refl; cause = refl; some = (tied.held place i h old).1 }
        go (inr new) = subst (λ x. IsFewer count (held_in w.processes place x) h) (sym new.index) (fewer_is count (held_in w.processes place j) h new.is)

    one_by : (h k a b : Held) → h.name ≡ a.name → k.name ≡ b.name → h.cause ≡ a.cause → k.cause ≡ b.cause → AreOne w.names a b
        → AreOne w.names h k
    one_by h k a b e f c d (inl x) = inl (e ∙ x ∙ sym f)
    one_by h k a b e f c d (inr x) = inr (own_by w.names h a e c x.0, own_by w.names k b f d x.1)

-- An end.

finishes_tied : (w : World) (p : ℕ) (state : State) → is_live state ≡ false → IsTied w → IsTied (record w { processes = at_place (p - 1) (λ (x : Process). record x { state = state; held = [] }) w.processes })
finishes_tied w p state ends tied = record {
  held = λ place i h e. tied.held place i h (before place i h e);
  below = tied.below;
  sized = tied.sized;
  clean = λ place i h s e g c. tied.clean place i h s (before place i h e) g c;
  one = λ place other i h k big e f. tied.one place other i h k big (before place i h e) (before other i k f);
  texts = tied.texts;
  ended = each_from {P = λ x. is_live x.state ≡ false → x.held ≡ []} w.processes (p - 1) empty tied.ended (λ x there ends. refl);
  registers = each_from {P = λ x. is_live x.state ≡ true → HasGoodRegisters x} w.processes (p - 1) empty tied.registers (λ x there lives. absurd (let a : true ≡ false = sym lives ∙ ends in cc));
}
  where
    empty : Process → Process
    empty x = record x { state = state; held = [] }

    none_then : (o : Option Process) (i : ℕ) → held_of (option_map empty o) i ≡ None
    none_then None i = refl
    none_then (Some x) i = refl

    before : (place i : ℕ) (h : Held) → held_in (at_place (p - 1) empty w.processes) place i ≡ Some h → held_in w.processes place i ≡ Some h
    before place i h e = go (place == p - 1) refl (sym (ap (λ (o : Option Process). held_of o i) (get-place (p - 1) place empty w.processes)) ∙ e)
      where
        go : (b : Bool) → (place == p - 1) ≡ b
            → held_of (if place == p - 1 then option_map empty (slice_get w.processes place) else slice_get w.processes place) i ≡ Some h
            → held_in w.processes place i ≡ Some h
        go true is f = absurd (let a : None ≡ Some h = sym (none_then (slice_get w.processes place) i) ∙ sym (ap (λ (o : Option Process). held_of o i) (if_yes (place == p - 1) _ _ is)) ∙ f in cc)
        go false is f = sym (ap (λ (o : Option Process). held_of o i) (if_no (place == p - 1) _ _ is)) ∙ f

-- Texts, sizes, and the rest.

names_tied : (w : World) (text : List ℕ) (name : ℕ) → has_no_flags (get w.names name) ≡ true → IsTied w → IsTied (with_change w (Names text name))
names_tied w text name lives tied = record { held = tied.held; below = tied.below; sized = tied.sized; clean = tied.clean; one = tied.one; texts = (lives, tied.texts); ended = tied.ended; registers = tied.registers }

reserved_tied : (w : World) (rs : List Reserve) → IsTied w → IsTied (record w { reserved = rs })
reserved_tied w rs tied = record { held = tied.held; below = tied.below; sized = tied.sized; clean = tied.clean; one = tied.one; texts = tied.texts; ended = tied.ended; registers = tied.registers }

taken_length : (n : ℕ) (bs : List ℕ) → length (take n bs) + (n - length bs) ≡ n
taken_length zero bs = omega arith
taken_length (suc n) [] = omega arith
taken_length (suc n) (b ∷ bs) = let ih = taken_length n bs in omega (arith, ih)

pub zeros_length : (n : ℕ) → length {A = ℕ} (replicate n 0) ≡ n
zeros_length zero = refl
zeros_length (suc n) = ap suc (zeros_length n)

resized_length : (size : ℕ) (bytes : List ℕ) → length (resized size bytes) ≡ size
resized_length size bytes =
    let a = length-append (take size bytes) (replicate (size - length bytes) 0) in
    let b = zeros_length (size - length bytes) in
    let c = taken_length size bytes in
    omega (arith, a, b, c)

-- A change of a process by its number: number 0 is none.
numbered : (w : World) (p : ℕ) (f : Process → Process) → ((p == 0) ≡ false → IsTied (record w { processes = at_place (p - 1) f w.processes })) → IsTied w → IsTied (record w { processes = at_number p f w.processes })
numbered w p f there tied = go (p == 0) refl
  where
    P : List Process → Type 0
    P ps = IsTied (record w { processes = ps })

    go : (b : Bool) → (p == 0) ≡ b → P (at_number p f w.processes)
    go true is = subst P (sym (if_yes (p == 0) w.processes (at_place (p - 1) f w.processes) is)) tied
    go false is = subst P (sym (if_no (p == 0) w.processes (at_place (p - 1) f w.processes) is)) (there is)

-- A mark.
record MarkedSo (s t : Segment) : Type 0 where
  clean : t.clean ≡ s.clean
  shared : t.shared ≡ s.shared
  flags : t.flags ≡ s.flags

marked_so : (d : Bool) (s : Segment) → MarkedSo s (marked d s)
marked_so true s = record { clean = refl; shared = refl; flags = refl }
marked_so false s = record { clean = refl; shared = refl; flags = refl }

marked_size : (d : Bool) (s : Segment) → HasSize s → HasSize (marked d s)
marked_size true s h = subst (λ (k : ℕ). (0 < k) × (k ≤ 65536)) (sym (zeros_length (length s.bytes))) h
marked_size false s h = h

-- One change, by its kind.
pub change_tied : (w : World) (c : Change) → IsFitChange w c → IsTied w → IsTied (with_change w c)
change_tied w (Makes s) fit tied = makes_tied w s fit tied
change_tied w (Resizes n size) fit tied = segment_tied w n (λ (s : Segment). record s { bytes = resized size s.bytes }) (λ s. refl) (λ s. refl) (λ s. refl) (λ s _. subst (λ k. (0 < k) × (k ≤ 65536)) (sym (resized_length size s.bytes)) fit) tied
change_tied w (Locks n count) fit tied = segment_tied w n (λ (s : Segment). record s { lock = count }) (λ s. refl) (λ s. refl) (λ s. refl) (λ s h. h) tied
change_tied w (Marks n d) fit tied = segment_tied w n (marked d) (λ s. (marked_so d s).clean) (λ s. (marked_so d s).shared) (λ s. (marked_so d s).flags) (marked_size d) tied
change_tied w (Holds p i h) fit tied = numbered w p (put_held (more h) i) (λ some. holds_tied w p i h some fit tied) tied
change_tied w (Drops p i count) fit tied = numbered w p (put_held (fewer count) i) (λ some. drops_tied w p i count some fit tied) tied
change_tied w (Finishes p state) fit tied = numbered w p (λ (x : Process). record x { state = state; held = [] }) (λ _. finishes_tied w p state fit tied) tied
change_tied w (Reserves r) fit tied = reserved_tied w _ tied
change_tied w (Frees region first) fit tied = reserved_tied w _ tied
change_tied w (Names text name) fit tied = names_tied w text name fit tied
