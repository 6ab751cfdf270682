-- The bytes of names and the registers of processes behind the changes of a call.
use Rattle.std.proofs.Common.{◌≡◌, ◌≢◌, ◌⊎◌, inl, inr, ℕ, zero, suc, ◌+◌, ◌-◌, ◌<◌, ◌==◌, Bool, true, false, cond, if◌then◌else◌, List, [], ◌∷◌, ◌++◌, length, replicate, Option, Some, None, is_some, option_map, ap, refl, sym, ◌∙◌, subst, arith}
use Rattle.std.specs.Prelude.{slice_get}
use Rattle.std.specs.List.{list_any}
use Rattle.o2_isa.specs.View.{Hold, bound_in}
use Rattle.o2_isa.specs.Parts.{put_part}
use Rattle.o2_isa.specs.Pointers.{put_at_pointer, put_in}
use Rattle.o2_world.specs.Map.{Map, at_key, get, put}
use Rattle.o2_world.specs.World.{Held, Process, Segment, World}
use Rattle.o2_world.specs.Bare.{Bare, bare, bare_names}
use Rattle.o2_world.specs.Changes.{Change, Makes, Resizes, Locks, Marks, Holds, Drops, Finishes, Reserves, Frees, Names, at_number, at_place, fewer, marked, more, resized, swept, takes, with_all, with_change, with_changes}
use Rattle.o2_world.specs.Holders.{is_held, process_at}
use Rattle.o2_world.specs.Slots.{Pointer, put_all}
use Rattle.o2_world.specs.Views.{bytes_in, segment_bytes, with_bytes}
use Rattle.o2_world.proofs.MapLemmas.{get-at_key, get-filter, get-map}
use Rattle.o2_stands.specs.Parts.{Running, running_of}
use Rattle.o2_calls.specs.Seen.{AreAimed, IsAimedAt}

number_is : (n k : ℕ) → (n == k) ≡ true → n ≡ k
number_is n k e = grind arith

-- each name that lives has these bytes
abbrev pub AreBytes : Map Segment → (ℕ → List ℕ) → Type 0
AreBytes names f = (n : ℕ) → is_some (get names n) ≡ true → bytes_in names n ≡ f n

pub own_bytes : (names : Map Segment) → AreBytes names (bytes_in names)
own_bytes names n live = refl

pub put_bytes : (names : Map Segment) (f : ℕ → List ℕ) → AreBytes (with_bytes names f) f
put_bytes names f n = subst (λ (o : Option Segment). is_some o ≡ true → segment_bytes o ≡ f n) (sym (get-map (λ (a : ℕ) (x : Segment). record x { bytes = f a }) names n)) (go (get names n))
  where
    go : (o : Option Segment) → is_some (option_map (λ (x : Segment). record x { bytes = f n }) o) ≡ true → segment_bytes (option_map (λ (x : Segment). record x { bytes = f n }) o) ≡ f n
    go None live = absurd (cc)
    go (Some x) live = refl

-- The bytes behind changes, by those before them and by the next name.

abbrev pub changed_bytes : ℕ → Change → (ℕ → List ℕ) → ℕ → List ℕ
changed_bytes next (Makes s) f n = if next == n then s.bytes else f n
changed_bytes next (Resizes name size) f n = if name == n then resized size (f n) else f n
changed_bytes next (Locks name count) f n = f n
changed_bytes next (Marks name true) f n = if name == n then replicate (length (f n)) 0 else f n
changed_bytes next (Marks name false) f n = f n
changed_bytes next (Holds p i h) f n = f n
changed_bytes next (Drops p i count) f n = f n
changed_bytes next (Finishes p state) f n = f n
changed_bytes next (Reserves r) f n = f n
changed_bytes next (Frees region first) f n = f n
changed_bytes next (Names text name) f n = f n

abbrev pub next_behind : ℕ → Change → ℕ
next_behind next (Makes s) = next + 1
next_behind next (Resizes name size) = next
next_behind next (Locks name count) = next
next_behind next (Marks name discarded) = next
next_behind next (Holds p i h) = next
next_behind next (Drops p i count) = next
next_behind next (Finishes p state) = next
next_behind next (Reserves r) = next
next_behind next (Frees region first) = next
next_behind next (Names text name) = next

abbrev pub all_bytes : ℕ → List Change → (ℕ → List ℕ) → ℕ → List ℕ
all_bytes next [] f n = f n
all_bytes next (c ∷ cs) f n = all_bytes (next_behind next c) cs (changed_bytes next c f) n

next_is : (w : World) (c : Change) → (with_change w c).next_name ≡ next_behind w.next_name c
next_is w (Makes s) = refl
next_is w (Resizes name size) = refl
next_is w (Locks name count) = refl
next_is w (Marks name discarded) = refl
next_is w (Holds p i h) = refl
next_is w (Drops p i count) = refl
next_is w (Finishes p state) = refl
next_is w (Reserves r) = refl
next_is w (Frees region first) = refl
next_is w (Names text name) = refl

-- a segment changed in its place
module _ (k : ℕ) (g : Segment → Segment) (r : List ℕ → List ℕ) (is : (s : Segment) → (g s).bytes ≡ r s.bytes) (names : Map Segment) (f : ℕ → List ℕ) (h : AreBytes names f) (n : ℕ) where
  here : (o : Option Segment) → get names n ≡ o → is_some (option_map g o) ≡ true → segment_bytes (option_map g o) ≡ r (f n)
  here None e live = absurd (cc)
  here (Some x) e live = is x ∙ ap r (ap segment_bytes (sym e) ∙ h n (ap is_some e))

  by_key : (b : Bool) → (k == n) ≡ b → is_some (cond b (option_map g (get names k)) (get names n)) ≡ true
      → segment_bytes (cond b (option_map g (get names k)) (get names n)) ≡ cond b (r (f n)) (f n)
  by_key true e = subst (λ (j : ℕ). is_some (option_map g (get names j)) ≡ true → segment_bytes (option_map g (get names j)) ≡ r (f n)) (sym (number_is k n e)) (here (get names n) refl)
  by_key false e = h n

  placed : is_some (get (at_key k g names) n) ≡ true → bytes_in (at_key k g names) n ≡ cond (k == n) (r (f n)) (f n)
  placed = subst (λ (o : Option Segment). is_some o ≡ true → segment_bytes o ≡ cond (k == n) (r (f n)) (f n)) (sym (get-at_key k n g names)) (by_key (k == n) refl)

same_if : (b : Bool) (x : List ℕ) → cond b x x ≡ x
same_if true x = refl
same_if false x = refl

one_bytes : (w : World) (c : Change) (f : ℕ → List ℕ) → AreBytes w.names f → AreBytes (with_change w c).names (changed_bytes w.next_name c f)
one_bytes w (Makes s) f h n = go (w.next_name == n)
  where
    go : (b : Bool) → is_some (cond b (Some s) (get w.names n)) ≡ true → segment_bytes (cond b (Some s) (get w.names n)) ≡ cond b s.bytes (f n)
    go true live = refl
    go false live = h n live
one_bytes w (Resizes name size) f h n = placed name (λ (s : Segment). record s { bytes = resized size s.bytes }) (resized size) (λ s. refl) w.names f h n
one_bytes w (Locks name count) f h n = λ live. placed name (λ (s : Segment). record s { lock = count }) (λ (bs : List ℕ). bs) (λ s. refl) w.names f h n live ∙ same_if (name == n) (f n)
one_bytes w (Marks name true) f h n = placed name (marked true) (λ (bs : List ℕ). replicate (length bs) 0) (λ s. refl) w.names f h n
one_bytes w (Marks name false) f h n = λ live. placed name (marked false) (λ (bs : List ℕ). bs) (λ s. refl) w.names f h n live ∙ same_if (name == n) (f n)
one_bytes w (Holds p i x) f h n = h n
one_bytes w (Drops p i count) f h n = h n
one_bytes w (Finishes p state) f h n = h n
one_bytes w (Reserves r) f h n = h n
one_bytes w (Frees region first) f h n = h n
one_bytes w (Names text name) f h n = h n

each_bytes : (w : World) (cs : List Change) (f : ℕ → List ℕ) → AreBytes w.names f → AreBytes (with_changes w cs).names (all_bytes w.next_name cs f)
unfolding with_changes
each_bytes w [] f h = h
each_bytes w (c ∷ cs) f h = λ n live.
    each_bytes (with_change w c) cs (changed_bytes w.next_name c f) (one_bytes w c f h) n live
    ∙ ap (λ (k : ℕ). all_bytes k cs (changed_bytes w.next_name c f) n) (next_is w c)

swept_bytes : (w : World) (f : ℕ → List ℕ) → AreBytes w.names f → AreBytes (swept w).names f
swept_bytes w f h n = subst (λ (o : Option Segment). is_some o ≡ true → segment_bytes o ≡ f n) (sym (get-filter (is_held w.processes) w.names n)) (go (is_held w.processes n))
  where
    go : (b : Bool) → is_some (cond b (get w.names n) None) ≡ true → segment_bytes (cond b (get w.names n) None) ≡ f n
    go true live = h n live
    go false live = absurd (cc)

pub behind_bytes : (w : World) (cs : List Change) (f : ℕ → List ℕ) → AreBytes w.names f → AreBytes (with_all w cs).names (all_bytes w.next_name cs f)
behind_bytes w cs f h = go (list_any takes cs)
  where
    go : (b : Bool) → AreBytes (cond b (swept (with_changes w cs)) (with_changes w cs)).names (all_bytes w.next_name cs f)
    go true = swept_bytes (with_changes w cs) (all_bytes w.next_name cs f) (each_bytes w cs f h)
    go false = each_bytes w cs f h

-- They go name by name.

one_point : (next : ℕ) (c : Change) (f g : ℕ → List ℕ) (n : ℕ) → f n ≡ g n → changed_bytes next c f n ≡ changed_bytes next c g n
one_point next (Makes s) f g n e = ap (λ (x : List ℕ). if next == n then s.bytes else x) e
one_point next (Resizes name size) f g n e = ap (λ (x : List ℕ). if name == n then resized size x else x) e
one_point next (Locks name count) f g n e = e
one_point next (Marks name true) f g n e = ap (λ (x : List ℕ). if name == n then replicate (length x) 0 else x) e
one_point next (Marks name false) f g n e = e
one_point next (Holds p i h) f g n e = e
one_point next (Drops p i count) f g n e = e
one_point next (Finishes p state) f g n e = e
one_point next (Reserves r) f g n e = e
one_point next (Frees region first) f g n e = e
one_point next (Names text name) f g n e = e

pub bytes_point : (next : ℕ) (cs : List Change) (f g : ℕ → List ℕ) (n : ℕ) → f n ≡ g n → all_bytes next cs f n ≡ all_bytes next cs g n
bytes_point next [] f g n e = e
bytes_point next (c ∷ cs) f g n e = bytes_point (next_behind next c) cs (changed_bytes next c f) (changed_bytes next c g) n (one_point next c f g n e)

-- changes that only hold
abbrev pub IsHold : Change → Type 0
IsHold (Makes s) = ⊥
IsHold (Resizes name size) = ⊥
IsHold (Locks name count) = ⊥
IsHold (Marks name discarded) = ⊥
IsHold (Holds p i h) = Unit {0}
IsHold (Drops p i count) = ⊥
IsHold (Finishes p state) = ⊥
IsHold (Reserves r) = ⊥
IsHold (Frees region first) = ⊥
IsHold (Names text name) = ⊥

abbrev pub AreHolds : List Change → Type 0
AreHolds [] = Unit {0}
AreHolds (c ∷ cs) = IsHold c × AreHolds cs

hold_bytes : (next : ℕ) (c : Change) (f : ℕ → List ℕ) (n : ℕ) → IsHold c → changed_bytes next c f n ≡ f n
hold_bytes next (Makes s) f n is = absurd is
hold_bytes next (Resizes name size) f n is = absurd is
hold_bytes next (Locks name count) f n is = absurd is
hold_bytes next (Marks name discarded) f n is = absurd is
hold_bytes next (Holds p i h) f n is = refl
hold_bytes next (Drops p i count) f n is = absurd is
hold_bytes next (Finishes p state) f n is = absurd is
hold_bytes next (Reserves r) f n is = absurd is
hold_bytes next (Frees region first) f n is = absurd is
hold_bytes next (Names text name) f n is = absurd is

holds_bytes : (next : ℕ) (cs : List Change) (f : ℕ → List ℕ) (n : ℕ) → AreHolds cs → all_bytes next cs f n ≡ f n
holds_bytes next [] f n are = refl
holds_bytes next (c ∷ cs) f n are = holds_bytes (next_behind next c) cs (changed_bytes next c f) n are.1 ∙ hold_bytes next c f n are.0

-- changes that make, hold or reserve
abbrev pub IsGift : Change → Type 0
IsGift (Makes s) = Unit {0}
IsGift (Resizes name size) = ⊥
IsGift (Locks name count) = ⊥
IsGift (Marks name discarded) = ⊥
IsGift (Holds p i h) = Unit {0}
IsGift (Drops p i count) = ⊥
IsGift (Finishes p state) = ⊥
IsGift (Reserves r) = Unit {0}
IsGift (Frees region first) = ⊥
IsGift (Names text name) = ⊥

abbrev pub AreGifts : List Change → Type 0
AreGifts [] = Unit {0}
AreGifts (c ∷ cs) = IsGift c × AreGifts cs

pub gifts_append : (xs ys : List Change) → AreGifts xs → AreGifts ys → AreGifts (xs ++ ys)
gifts_append [] ys front back = back
gifts_append (x ∷ xs) ys front back = (front.0, gifts_append xs ys front.1 back)

-- What a call that writes may change: it makes a segment and holds it, perhaps with a name, or holds more, or makes a run.
pub data IsGiving (cs : List Change) : Type 0 where
  GivesNone : cs ≡ [] → IsGiving cs
  GivesNew : (s : Segment) (p i : ℕ) (h : Held) → cs ≡ Makes s ∷ Holds p i h ∷ [] → IsGiving cs
  GivesHold : (p i : ℕ) (h : Held) → cs ≡ Holds p i h ∷ [] → IsGiving cs
  GivesNamed : (s : Segment) (p i : ℕ) (h : Held) (text : List ℕ) (name : ℕ) → cs ≡ Makes s ∷ Holds p i h ∷ Names text name ∷ [] → IsGiving cs
  GivesHolds : AreHolds cs → IsGiving cs
  GivesRun : AreGifts cs → IsGiving cs

written_new : (next : ℕ) (bytes : List ℕ) (f : ℕ → List ℕ) (offset : ℕ) (part : List ℕ) (h : Hold) (n : ℕ) → next ≢ h.name
    → cond (next == n) bytes (put_in f offset part (Some h) n) ≡ put_in (λ (k : ℕ). cond (next == k) bytes (f k)) offset part (Some h) n
written_new next bytes f offset part h n apart = go (next == n) (n == h.name) refl refl
  where
    go : (a b : Bool) → (next == n) ≡ a → (n == h.name) ≡ b
        → cond a bytes (cond b (put_part (f n) offset part) (f n)) ≡ cond b (put_part (cond a bytes (f n)) offset part) (cond a bytes (f n))
    go true true e d = absurd (apart (number_is next n e ∙ number_is n h.name d))
    go true false e d = refl
    go false true e d = refl
    go false false e d = refl

-- a write before a gift, and behind it

not_next : (next name : ℕ) → name < next → next ≢ name
not_next next name less same = omega (arith, less, same)

gift_through : (next : ℕ) (c : Change) (f : ℕ → List ℕ) (offset : ℕ) (part : List ℕ) (h : Hold) (n : ℕ) → IsGift c → h.name < next
    → changed_bytes next c (put_in f offset part (Some h)) n ≡ put_in (changed_bytes next c f) offset part (Some h) n
gift_through next (Makes s) f offset part h n is older = written_new next s.bytes f offset part h n (not_next next h.name older)
gift_through next (Resizes name size) f offset part h n is older = absurd is
gift_through next (Locks name count) f offset part h n is older = absurd is
gift_through next (Marks name discarded) f offset part h n is older = absurd is
gift_through next (Holds p i x) f offset part h n is older = refl
gift_through next (Drops p i count) f offset part h n is older = absurd is
gift_through next (Finishes p state) f offset part h n is older = absurd is
gift_through next (Reserves r) f offset part h n is older = refl
gift_through next (Frees region first) f offset part h n is older = absurd is
gift_through next (Names text name) f offset part h n is older = absurd is

still_older : (next name : ℕ) (c : Change) → IsGift c → name < next → name < next_behind next c
still_older next name (Makes s) is less = omega (arith, less)
still_older next name (Resizes n size) is less = absurd is
still_older next name (Locks n count) is less = absurd is
still_older next name (Marks n discarded) is less = absurd is
still_older next name (Holds p i h) is less = less
still_older next name (Drops p i count) is less = absurd is
still_older next name (Finishes p state) is less = absurd is
still_older next name (Reserves r) is less = less
still_older next name (Frees region first) is less = absurd is
still_older next name (Names text n) is less = absurd is

gifts_through : (next : ℕ) (cs : List Change) (f : ℕ → List ℕ) (offset : ℕ) (part : List ℕ) (h : Hold) (n : ℕ) → AreGifts cs → h.name < next
    → all_bytes next cs (put_in f offset part (Some h)) n ≡ put_in (all_bytes next cs f) offset part (Some h) n
gifts_through next [] f offset part h n are older = refl
gifts_through next (c ∷ cs) f offset part h n are older =
    bytes_point (next_behind next c) cs (changed_bytes next c (put_in f offset part (Some h))) (put_in (changed_bytes next c f) offset part (Some h)) n (gift_through next c f offset part h n are.0 older)
    ∙ gifts_through (next_behind next c) cs (changed_bytes next c f) offset part h n are.1 (still_older next h.name c are.0 older)

-- a write before such changes, and behind them
through : (next : ℕ) (cs : List Change) (f : ℕ → List ℕ) (offset : ℕ) (part : List ℕ) (h : Hold) (n : ℕ) → IsGiving cs → h.name < next
    → all_bytes next cs (put_in f offset part (Some h)) n ≡ put_in (all_bytes next cs f) offset part (Some h) n
through next cs f offset part h n (GivesNone e) older = subst (λ (ds : List Change). all_bytes next ds (put_in f offset part (Some h)) n ≡ put_in (all_bytes next ds f) offset part (Some h) n) (sym e) refl
through next cs f offset part h n (GivesNew s p i x e) older =
    subst (λ (ds : List Change). all_bytes next ds (put_in f offset part (Some h)) n ≡ put_in (all_bytes next ds f) offset part (Some h) n) (sym e) (written_new next s.bytes f offset part h n (not_next next h.name older))
through next cs f offset part h n (GivesHold p i x e) older =
    subst (λ (ds : List Change). all_bytes next ds (put_in f offset part (Some h)) n ≡ put_in (all_bytes next ds f) offset part (Some h) n) (sym e) refl
through next cs f offset part h n (GivesNamed s p i x text name e) older =
    subst (λ (ds : List Change). all_bytes next ds (put_in f offset part (Some h)) n ≡ put_in (all_bytes next ds f) offset part (Some h) n) (sym e) (written_new next s.bytes f offset part h n (not_next next h.name older))
through next cs f offset part h n (GivesHolds are) older =
    holds_bytes next cs (put_in f offset part (Some h)) n are ∙ ap (λ (x : List ℕ). if n == h.name then put_part x offset part else x) (sym (holds_bytes next cs f n are))
through next cs f offset part h n (GivesRun are) older = gifts_through next cs f offset part h n are older

-- What is written of a name depends on its bytes alone.

put_same : (f g : ℕ → List ℕ) (n offset : ℕ) (part : List ℕ) (o : Option Hold) → f n ≡ g n → put_in f offset part o n ≡ put_in g offset part o n
put_same f g n offset part None e = e
put_same f g n offset part (Some h) e = ap (λ (x : List ℕ). if n == h.name then put_part x offset part else x) e

pub put_all_same : (held : ℕ → Option Hold) (ps : List Pointer) (parts : List (List ℕ)) (f g : ℕ → List ℕ) (n : ℕ) → f n ≡ g n → put_all held ps parts f n ≡ put_all held ps parts g n
unfolding put_at_pointer
put_all_same held [] parts f g n e = e
put_all_same held (p ∷ ps) [] f g n e = e
put_all_same held (p ∷ ps) (part ∷ parts) f g n e =
    put_all_same held ps parts (put_at_pointer held f p.selector p.offset part) (put_at_pointer held g p.selector p.offset part) n (put_same f g n p.offset part (bound_in held p.selector) e)

module _ (held now : ℕ → Option Hold) (next : ℕ) (cs : List Change) (n : ℕ) (gives : IsGiving cs) where
  aimed : (f : ℕ → List ℕ) (p : Pointer) (part : List ℕ) → IsAimedAt held now next p
      → all_bytes next cs (put_at_pointer held f p.selector p.offset part) n ≡ put_at_pointer now (all_bytes next cs f) p.selector p.offset part n
  unfolding put_at_pointer
  aimed f p part a =
      bytes_point next cs (put_in f p.offset part (bound_in held p.selector)) (put_in f p.offset part (Some a.hold)) n (ap (λ (o : Option Hold). put_in f p.offset part o n) a.was)
      ∙ (through next cs f p.offset part a.hold n gives a.older
      ∙ ap (λ (o : Option Hold). put_in (all_bytes next cs f) p.offset part o n) (sym a.still))

  aimed_all : (f : ℕ → List ℕ) (ps : List Pointer) (parts : List (List ℕ)) → AreAimed held now next ps
      → all_bytes next cs (put_all held ps parts f) n ≡ put_all now ps parts (all_bytes next cs f) n
  aimed_all f [] parts are = refl
  aimed_all f (p ∷ ps) [] are = refl
  aimed_all f (p ∷ ps) (part ∷ parts) are =
      aimed_all (put_at_pointer held f p.selector p.offset part) ps parts are.1
      ∙ put_all_same now ps parts (all_bytes next cs (put_at_pointer held f p.selector p.offset part)) (put_at_pointer now (all_bytes next cs f) p.selector p.offset part) n (aimed f p part are.0)

-- the value of a call, where it has one
pub valued : (held now : ℕ → Option Hold) (next : ℕ) (cs : List Change) (f : ℕ → List ℕ) (n error : ℕ) (ps : List Pointer) (parts : List (List ℕ)) → (ps ≡ []) ⊎ IsGiving cs
    → (error ≡ 0 → AreAimed held now next ps)
    → all_bytes next cs (if error == 0 then put_all held ps parts f else f) n ≡ (if error == 0 then put_all now ps parts (all_bytes next cs f) else all_bytes next cs f) n
valued held now next cs f n error ps parts gives safe = go (error == 0) refl gives
  where
    nowhere : ps ≡ [] → all_bytes next cs (put_all held ps parts f) n ≡ put_all now ps parts (all_bytes next cs f) n
    nowhere none = subst (λ (qs : List Pointer). all_bytes next cs (put_all held qs parts f) n ≡ put_all now qs parts (all_bytes next cs f) n) (sym none) refl

    go : (b : Bool) → (error == 0) ≡ b → (ps ≡ []) ⊎ IsGiving cs
        → all_bytes next cs (cond b (put_all held ps parts f) f) n ≡ cond b (put_all now ps parts (all_bytes next cs f)) (all_bytes next cs f) n
    go true e (inl none) = nowhere none
    go true e (inr gives) = aimed_all held now next cs n gives f ps parts (safe (number_is error 0 e))
    go false e gives = refl

-- Worlds that are bare the same have the same live names.

live_bare : (names : Map Segment) (n : ℕ) → is_some (get (bare_names names) n) ≡ is_some (get names n)
live_bare names n = ap is_some (get-map (λ (k : ℕ) (x : Segment). record x { bytes = [] }) names n) ∙ go (get names n)
  where
    go : (o : Option Segment) → is_some (option_map (λ (x : Segment). record x { bytes = [] }) o) ≡ is_some o
    go None = refl
    go (Some x) = refl

pub live_same : (u v : World) → bare u ≡ bare v → (n : ℕ) → is_some (get v.names n) ≡ is_some (get u.names n)
live_same u v same n = sym (live_bare v.names n) ∙ (ap (λ (names : Map Segment). is_some (get names n)) (sym (ap (λ (x : Bare). x.names) same)) ∙ live_bare u.names n)

-- Registers and states of processes: no change of a call has any.

abbrev pub IsNoEnd : Change → Type 0
IsNoEnd (Makes s) = Unit {0}
IsNoEnd (Resizes name size) = Unit {0}
IsNoEnd (Locks name count) = Unit {0}
IsNoEnd (Marks name discarded) = Unit {0}
IsNoEnd (Holds p i h) = Unit {0}
IsNoEnd (Drops p i count) = Unit {0}
IsNoEnd (Finishes p state) = ⊥
IsNoEnd (Reserves r) = Unit {0}
IsNoEnd (Frees region first) = Unit {0}
IsNoEnd (Names text name) = Unit {0}

abbrev pub AreNoEnds : List Change → Type 0
AreNoEnds [] = Unit {0}
AreNoEnds (c ∷ cs) = IsNoEnd c × AreNoEnds cs

hold_no_end : (c : Change) → IsHold c → IsNoEnd c
hold_no_end (Makes s) is = absurd is
hold_no_end (Resizes name size) is = absurd is
hold_no_end (Locks name count) is = absurd is
hold_no_end (Marks name discarded) is = absurd is
hold_no_end (Holds p i h) is = tt
hold_no_end (Drops p i count) is = absurd is
hold_no_end (Finishes p state) is = absurd is
hold_no_end (Reserves r) is = absurd is
hold_no_end (Frees region first) is = absurd is
hold_no_end (Names text name) is = absurd is

pub holds_go_on : (cs : List Change) → AreHolds cs → AreNoEnds cs
holds_go_on [] are = tt
holds_go_on (c ∷ cs) are = (hold_no_end c are.0, holds_go_on cs are.1)

gift_no_end : (c : Change) → IsGift c → IsNoEnd c
gift_no_end (Makes s) is = tt
gift_no_end (Resizes name size) is = absurd is
gift_no_end (Locks name count) is = absurd is
gift_no_end (Marks name discarded) is = absurd is
gift_no_end (Holds p i h) is = tt
gift_no_end (Drops p i count) is = absurd is
gift_no_end (Finishes p state) is = absurd is
gift_no_end (Reserves r) is = tt
gift_no_end (Frees region first) is = absurd is
gift_no_end (Names text name) is = absurd is

pub gifts_go_on : (cs : List Change) → AreGifts cs → AreNoEnds cs
gifts_go_on [] are = tt
gifts_go_on (c ∷ cs) are = (gift_no_end c are.0, gifts_go_on cs are.1)

runs_place : (k : ℕ) (f : Process → Process) → ((x : Process) → running_of (f x) ≡ running_of x) → (ps : List Process) (j : ℕ)
    → option_map running_of (slice_get (at_place k f ps) j) ≡ option_map running_of (slice_get ps j)
runs_place k f same [] j = refl
runs_place zero f same (p ∷ ps) zero = ap (λ (r : Running). Some r) (same p)
runs_place zero f same (p ∷ ps) (suc j) = refl
runs_place (suc k) f same (p ∷ ps) zero = refl
runs_place (suc k) f same (p ∷ ps) (suc j) = runs_place k f same ps j

runs_number : (k : ℕ) (f : Process → Process) → ((x : Process) → running_of (f x) ≡ running_of x) → (ps : List Process) (n : ℕ)
    → option_map running_of (process_at (at_number k f ps) n) ≡ option_map running_of (process_at ps n)
runs_number k f same ps n = go (k == 0) (n == 0)
  where
    go : (a b : Bool) → option_map running_of (cond b None (slice_get (cond a ps (at_place (k - 1) f ps)) (n - 1))) ≡ option_map running_of (cond b None (slice_get ps (n - 1)))
    go true b = refl
    go false true = refl
    go false false = runs_place (k - 1) f same ps (n - 1)

one_runs : (w : World) (c : Change) → IsNoEnd c → (n : ℕ) → option_map running_of (process_at (with_change w c).processes n) ≡ option_map running_of (process_at w.processes n)
one_runs w (Makes s) none_ends n = refl
one_runs w (Resizes name size) none_ends n = refl
one_runs w (Locks name count) none_ends n = refl
one_runs w (Marks name discarded) none_ends n = refl
one_runs w (Holds p i h) none_ends n = runs_number p (λ (x : Process). record x { held = put i (more h (get x.held i)) x.held }) (λ x. refl) w.processes n
one_runs w (Drops p i count) none_ends n = runs_number p (λ (x : Process). record x { held = put i (fewer count (get x.held i)) x.held }) (λ x. refl) w.processes n
one_runs w (Finishes p state) none_ends n = absurd none_ends
one_runs w (Reserves r) none_ends n = refl
one_runs w (Frees region first) none_ends n = refl
one_runs w (Names text name) none_ends n = refl

each_runs : (w : World) (cs : List Change) → AreNoEnds cs → (n : ℕ) → option_map running_of (process_at (with_changes w cs).processes n) ≡ option_map running_of (process_at w.processes n)
unfolding with_changes
each_runs w [] none_ends n = refl
each_runs w (c ∷ cs) none_ends n = each_runs (with_change w c) cs none_ends.1 n ∙ one_runs w c none_ends.0 n

pub behind_runs : (w : World) (cs : List Change) → AreNoEnds cs → (n : ℕ) → option_map running_of (process_at (with_all w cs).processes n) ≡ option_map running_of (process_at w.processes n)
behind_runs w cs none_ends n = go (list_any takes cs)
  where
    go : (b : Bool) → option_map running_of (process_at (cond b (swept (with_changes w cs)) (with_changes w cs)).processes n) ≡ option_map running_of (process_at w.processes n)
    go true = each_runs w cs none_ends n
    go false = each_runs w cs none_ends n
