-- What a process holds under one index, as the rows read it.
use Rattle.std.proofs.Common.{◌≡◌, ◌≢◌, ℕ, ◌<◌, min, zero, suc, ◌+◌, ◌/◌, ◌==◌, ◌&&◌, ◌||◌, nat_le, nat_lt, not, Bool, true, false, cond, List, [], ◌∷◌, map, filter}
use Rattle.std.proofs.Common.{Option, Some, None, is_some, option_map, refl, sym, ap, ◌∙◌, subst, arith}
use Rattle.std.specs.List.{list_any}
use Rattle.std.proofs.lemmas.Bool.{cond-false, cond-true, eq-eqb, false≢true, ne_eqb}
use Rattle.o2_isa.specs.declared.cpu.Cpu.{Cpu}
use Rattle.o2_isa.specs.View.{is_local, is_null}
use Rattle.o2_regions.specs.declared.held.Held.{Held as HeldThere}
use Rattle.o2_regions.specs.Maps.{Maps, held_at}
use Rattle.o2_world.specs.Changes.{Drops}
use Rattle.o2_world.specs.Rulings.{Ruling, by_load, dropped_indexes, freed_cpu, freeing, freeing_cpu, freeing_of, freeing_with, grants, in_use, indexes, is_gone, is_index, is_last, members, refusal}
use Rattle.o2_stands.specs.Knows.{Others, known_in}
use Rattle.o2_stands.specs.Parts.{Parts, cause_of, held_in, held_of}
use Rattle.o2_segs.specs.Members.{end_in, freed_in, is_gone_in, is_last_in, is_later_in, members_in}
use Rattle.o2_segs.proofs.Selecting.{under, under_is}

-- The members are those that the maps have.

filter_as : (f g : ℕ → Bool) → ((i : ℕ) → f i ≡ g i) → (is : List ℕ) → filter f is ≡ filter g is
filter_as f g same [] = refl
filter_as f g same (i ∷ is) =
    ap (λ (b : Bool). cond b (i ∷ filter f is) (filter f is)) (same i) ∙ ap (λ (js : List ℕ). cond (g i) (i ∷ js) js) (filter_as f g same is)

some_as : (m : Maps) (pid i : ℕ) → is_some (held_in m pid i) ≡ is_some (held_at m pid i)
unfolding held_in
some_as m pid i = mapped (held_at m pid i)
  where
    mapped : (o : Option HeldThere) → is_some (option_map (held_of m pid i) o) ≡ is_some o
    mapped None = refl
    mapped (Some h) = refl

pub members_are : (p : Parts) (o : Others) (pid index i : ℕ) (h : HeldThere) → members (known_in p o) pid index (held_of p.maps pid i h) ≡ members_in p.maps pid index h
members_are p o pid index i h =
    ap (λ (js : List ℕ). cond (h.reserved == 0) (index ∷ []) js)
    (filter_as (λ (j : ℕ). is_some (held_in p.maps pid j)) (λ (j : ℕ). is_some (held_at p.maps pid j)) (some_as p.maps pid) (indexes h.first h.reserved))

-- DosFreeSeg of all that is held under an index.

pub free_all : (p : Parts) (o : Others) (pid s : ℕ) (c : Cpu) (h : HeldThere) → under p.maps pid s ≡ Some h
    → freeing (known_in p o) pid s c
    ≡ cond (by_load (cause_of h.cause) || is_later_in (s / 8) h || in_use c (members_in p.maps pid (s / 8) h)) (refusal 5)
    (grants 0 (map (λ (i : ℕ). Drops pid i 1) (members_in p.maps pid (s / 8) h)))
free_all p o pid s c h e =
    ap (freeing_of (known_in p o) pid s c) (under_is p o pid s ∙ ap (option_map (held_of p.maps pid (s / 8))) e)
    ∙ (ap (λ (js : List ℕ). cond (by_load (cause_of h.cause) || is_later_in (s / 8) h) (refusal 5) (freeing_with pid c js)) (members_are p o pid (s / 8) (s / 8) h)
    ∙ joined (by_load (cause_of h.cause)) (is_later_in (s / 8) h) (in_use c (members_in p.maps pid (s / 8) h)) (grants 0 (map (λ (i : ℕ). Drops pid i 1) (members_in p.maps pid (s / 8) h))))
  where
    joined : (a b c : Bool) (r : Ruling) → cond (a || b) (refusal 5) (cond c (refusal 5) r) ≡ cond (a || b || c) (refusal 5) r
    joined true b c r = refl
    joined false true c r = refl
    joined false false true r = refl
    joined false false false r = refl

pub all_refused : (p : Parts) (o : Others) (m : Maps) (pid s i : ℕ) (c : Cpu) (h : HeldThere) → p.maps ≡ m → i ≡ s / 8 → under m pid s ≡ Some h
    → (by_load (cause_of h.cause) || is_later_in i h || in_use c (members_in m pid i h)) ≡ true → freeing (known_in p o) pid s c ≡ refusal 5
all_refused p o m pid s i c h em index e t =
    free_all p o pid s c h (subst (λ (x : Maps). under x pid s ≡ Some h) (sym em) e)
    ∙ cond-true _ (refusal 5) (grants 0 (map (λ (j : ℕ). Drops pid j 1) (members_in p.maps pid (s / 8) h)))
    (subst (λ (x : Maps). (by_load (cause_of h.cause) || is_later_in (s / 8) h || in_use c (members_in x pid (s / 8) h)) ≡ true) (sym em)
    (subst (λ (j : ℕ). (by_load (cause_of h.cause) || is_later_in j h || in_use c (members_in m pid j h)) ≡ true) index t))

pub all_done : (p : Parts) (o : Others) (m : Maps) (pid s i : ℕ) (c : Cpu) (h : HeldThere) → p.maps ≡ m → i ≡ s / 8 → under m pid s ≡ Some h
    → (by_load (cause_of h.cause) || is_later_in i h || in_use c (members_in m pid i h)) ≡ false
    → freeing (known_in p o) pid s c ≡ grants 0 (map (λ (j : ℕ). Drops pid j 1) (members_in m pid i h))
all_done p o m pid s i c h em index e t =
    free_all p o pid s c h (subst (λ (x : Maps). under x pid s ≡ Some h) (sym em) e)
    ∙ (cond-false _ (refusal 5) (grants 0 (map (λ (j : ℕ). Drops pid j 1) (members_in p.maps pid (s / 8) h)))
    (subst (λ (x : Maps). (by_load (cause_of h.cause) || is_later_in (s / 8) h || in_use c (members_in x pid (s / 8) h)) ≡ false) (sym em)
    (subst (λ (j : ℕ). (by_load (cause_of h.cause) || is_later_in j h || in_use c (members_in m pid j h)) ≡ false) index t))
    ∙ (ap (λ (x : Maps). grants 0 (map (λ (j : ℕ). Drops pid j 1) (members_in x pid (s / 8) h))) em
    ∙ ap (λ (k : ℕ). grants 0 (map (λ (j : ℕ). Drops pid j 1) (members_in m pid k h))) (sym index)))

-- the registers behind it
dropped_are : (n : ℕ) (is : List ℕ) → dropped_indexes (map (λ (i : ℕ). Drops n i 1) is) ≡ is
dropped_are n [] = refl
dropped_are n (i ∷ is) = ap (λ (js : List ℕ). i ∷ js) (dropped_are n is)

last_as : (m : Maps) (pid i : ℕ) → is_last (held_in m pid i) ≡ is_last_in (held_at m pid i)
unfolding held_in
last_as m pid i = mapped (held_at m pid i)
  where
    mapped : (o : Option HeldThere) → is_last (option_map (held_of m pid i) o) ≡ is_last_in o
    mapped None = refl
    mapped (Some h) = refl

any_as : (f g : ℕ → Bool) → ((i : ℕ) → f i ≡ g i) → (is : List ℕ) → list_any f is ≡ list_any g is
any_as f g same [] = refl
any_as f g same (i ∷ is) = ap (λ (b : Bool). b || list_any f is) (same i) ∙ ap (λ (b : Bool). g i || b) (any_as f g same is)

gone_as : (p : Parts) (o : Others) (pid : ℕ) (is : List ℕ) (s : ℕ) → is_gone (known_in p o) pid is s ≡ is_gone_in p.maps pid is s
gone_as p o pid is s =
    any_as (λ (i : ℕ). is_index s i && is_last (held_in p.maps pid i)) (λ (i : ℕ). is_index s i && is_last_in (held_at p.maps pid i))
    (λ i. ap (λ (b : Bool). is_index s i && b) (last_as p.maps pid i)) is

pub all_registers : (p : Parts) (o : Others) (m : Maps) (pid s : ℕ) (c : Cpu) (is : List ℕ) → p.maps ≡ m → freeing (known_in p o) pid s c ≡ grants 0 (map (λ (j : ℕ). Drops pid j 1) is)
    → freeing_cpu (known_in p o) pid s c ≡ freed_in m pid is c
all_registers p o m pid s c is em e =
    ap (λ (r : Ruling). freed_cpu (known_in p o) pid (dropped_indexes r.changes) c) e
    ∙ (ap (λ (js : List ℕ). freed_cpu (known_in p o) pid js c) (dropped_are pid is)
    ∙ (ap (λ (b : Bool). record c { ds = cond b 0 c.ds; es = cond (is_gone (known_in p o) pid is c.es) 0 c.es }) (gone_as p o pid is c.ds)
    ∙ (ap (λ (b : Bool). record c { ds = cond (is_gone_in p.maps pid is c.ds) 0 c.ds; es = cond b 0 c.es }) (gone_as p o pid is c.es)
    ∙ ap (λ (x : Maps). freed_in x pid is c) em)))

-- A selector among members.

no_and : (a : Bool) → (a && false) ≡ false
no_and true = refl
no_and false = refl

equal_number : (a b : ℕ) → (a == b) ≡ true → a ≡ b
equal_number a b e = grind arith

any_run : (g : ℕ → Bool) (j a n : ℕ) → list_any (λ (i : ℕ). j == i) (filter g (indexes a n)) ≡ (nat_le a j && (nat_lt j (a + n) && g j))
any_run g j a zero = sym (sym (assoc (nat_le a j) (nat_lt j (a + 0)) (g j)) ∙ ap (λ (b : Bool). b && g j) (never a j))
  where
    never : (a j : ℕ) → (nat_le a j && nat_lt j (a + 0)) ≡ false
    never a j = grind arith

    assoc : (x y z : Bool) → ((x && y) && z) ≡ (x && (y && z))
    assoc true y z = refl
    assoc false y z = refl
any_run g j a (suc n) = go (any_run g j (a + 1) n) (g a) refl (j == a) refl
  where
    here_le : (a j : ℕ) → (j == a) ≡ true → nat_le a j ≡ true
    here_le a j e = grind arith

    here_lt : (a j n : ℕ) → (j == a) ≡ true → nat_lt j (a + suc n) ≡ true
    here_lt a j n e = grind arith

    passed : (a j : ℕ) → (j == a) ≡ true → nat_le (a + 1) j ≡ false
    passed a j e = grind arith

    later_le : (a j : ℕ) → (j == a) ≡ false → nat_le (a + 1) j ≡ nat_le a j
    later_le a j e = grind arith

    later_lt : (a j n : ℕ) → nat_lt j (a + 1 + n) ≡ nat_lt j (a + suc n)
    later_lt a j n = grind arith

    go : list_any (λ (i : ℕ). j == i) (filter g (indexes (a + 1) n)) ≡ (nat_le (a + 1) j && (nat_lt j (a + 1 + n) && g j)) → (b : Bool) → g a ≡ b → (c : Bool) → (j == a) ≡ c
        → list_any (λ (i : ℕ). j == i) (cond (g a) (a ∷ filter g (indexes (a + 1) n)) (filter g (indexes (a + 1) n))) ≡ (nat_le a j && (nat_lt j (a + suc n) && g j))
    go ih true e true f = rw (e, f, here_le a j f, here_lt a j n f, ap g (equal_number j a f) ∙ e) refl
    go ih true e false f = rw (e, f, sym (later_le a j f), sym (later_lt a j n)) ih
    go ih false e true f = rw e (ih ∙ rw (passed a j f, here_le a j f, here_lt a j n f, ap g (equal_number j a f) ∙ e) refl)
    go ih false e false f = rw (e, sym (later_le a j f), sym (later_lt a j n)) ih

any_index : (s : ℕ) (is : List ℕ) → list_any (is_index s) is ≡ (not (is_null s) && (is_local s && list_any (λ (i : ℕ). (s / 8) == i) is))
any_index s is = go (is_null s) (is_local s)
  where
    none : (is : List ℕ) → list_any (λ (i : ℕ). false) is ≡ false
    none [] = refl
    none (i ∷ is) = none is

    go : (a b : Bool) → list_any (λ (i : ℕ). not a && (b && ((s / 8) == i))) is ≡ (not a && (b && list_any (λ (i : ℕ). (s / 8) == i) is))
    go true b = none is
    go false true = refl
    go false false = none is

pub any_in_run : (s : ℕ) (g : ℕ → Bool) (a n : ℕ) → list_any (is_index s) (filter g (indexes a n)) ≡ (not (is_null s) && (is_local s && (nat_le a (s / 8) && (nat_lt (s / 8) (a + n) && g (s / 8)))))
any_in_run s g a n = any_index s (filter g (indexes a n)) ∙ ap (λ (b : Bool). not (is_null s) && (is_local s && b)) (any_run g (s / 8) a n)

-- the last hold of one that a selector names
pub gone_is : (m : Maps) (pid s : ℕ) (is : List ℕ) → is_gone_in m pid is s ≡ (list_any (is_index s) is && is_last_in (held_at m pid (s / 8)))
gone_is m pid s [] = refl
gone_is m pid s (i ∷ is) = go (is_index s i) refl (gone_is m pid s is)
  where
    index_of : is_index s i ≡ true → s / 8 ≡ i
    index_of e = equal_number (s / 8) i (second (not (is_null s)) (is_local s) ((s / 8) == i) e)
      where
        second : (a b c : Bool) → (a && (b && c)) ≡ true → c ≡ true
        second true true c e = e
        second true false c e = absurd (false≢true e)
        second false b c e = absurd (false≢true e)

    absorb : (a l : Bool) → (l || (a && l)) ≡ l
    absorb true true = refl
    absorb true false = refl
    absorb false true = refl
    absorb false false = refl

    go : (b : Bool) → is_index s i ≡ b → is_gone_in m pid is s ≡ (list_any (is_index s) is && is_last_in (held_at m pid (s / 8)))
        → ((is_index s i && is_last_in (held_at m pid i)) || is_gone_in m pid is s) ≡ ((is_index s i || list_any (is_index s) is) && is_last_in (held_at m pid (s / 8)))
    go true e rest =
        rw e (ap (λ (b : Bool). is_last_in (held_at m pid i) || b) rest
        ∙ (ap (λ (k : ℕ). is_last_in (held_at m pid k) || (list_any (is_index s) is && is_last_in (held_at m pid (s / 8)))) (sym (index_of e))
        ∙ absorb (list_any (is_index s) is) (is_last_in (held_at m pid (s / 8)))))
    go false e rest = rw e rest

-- CS or SS among members
pub used_is : (c : Cpu) (is : List ℕ) → in_use c is ≡ (list_any (is_index c.cs) is || list_any (is_index c.ss) is)
used_is c [] = refl
used_is c (i ∷ is) =
    ap (λ (b : Bool). (is_index c.cs i || is_index c.ss i) || b) (used_is c is)
    ∙ turned (is_index c.cs i) (is_index c.ss i) (list_any (is_index c.cs) is) (list_any (is_index c.ss) is)
  where
    turned : (a b x y : Bool) → ((a || b) || (x || y)) ≡ ((a || x) || (b || y))
    turned true b x y = refl
    turned false true true y = refl
    turned false true false y = refl
    turned false false x y = refl

-- what names a member, by whether its selector is of the local table
pub named_alone : (m : Maps) (pid i s : ℕ) (h : HeldThere) → h.reserved ≡ 0 → is_index s i ≡ list_any (is_index s) (members_in m pid i h)
named_alone m pid i s h alone = rw (eq-eqb h.reserved 0 alone) (sym (or_no (is_index s i)))
  where
    or_no : (b : Bool) → (b || false) ≡ b
    or_no true = refl
    or_no false = refl

pub named_nowhere : (m : Maps) (pid i s : ℕ) (h : HeldThere) → h.reserved ≢ 0 → (not (is_null s) && is_local s) ≡ false → false ≡ list_any (is_index s) (members_in m pid i h)
named_nowhere m pid i s h run e =
    rw (ne_eqb h.reserved 0 run) (sym (any_in_run s (λ (j : ℕ). is_some (held_at m pid j)) h.first h.reserved ∙ out (not (is_null s)) (is_local s) _ e))
  where
    out : (a b c : Bool) → (a && b) ≡ false → (a && (b && c)) ≡ false
    out true true c e = absurd (false≢true (sym e))
    out true false c e = refl
    out false b c e = refl

pub named_member : (m : Maps) (pid i s : ℕ) (h : HeldThere) → h.reserved ≢ 0 → s < 65536 → (not (is_null s) && is_local s) ≡ true
    → (nat_le h.first (s / 8) && (nat_lt (s / 8) (end_in h) && is_some (held_at m pid (s / 8)))) ≡ list_any (is_index s) (members_in m pid i h)
named_member m pid i s h run small e =
    rw (ne_eqb h.reserved 0 run)
    (sym (any_in_run s (λ (j : ℕ). is_some (held_at m pid j)) h.first h.reserved
    ∙ (inner (not (is_null s)) (is_local s) _ e ∙ ap (λ (b : Bool). nat_le h.first (s / 8) && (b && is_some (held_at m pid (s / 8)))) (below (s / 8) (h.first + h.reserved) (index_below s small)))))
  where
    inner : (a b c : Bool) → (a && b) ≡ true → (a && (b && c)) ≡ c
    inner true true c e = refl
    inner true false c e = absurd (false≢true e)
    inner false b c e = absurd (false≢true e)

    index_below : (s : ℕ) → s < 65536 → s / 8 < 8192
    index_below s l = omega (arith, l)

    below : (j a : ℕ) → j < 8192 → nat_lt j a ≡ nat_lt j (min a 8192)
    below j a l = grind arith

-- the last hold of a member that a selector names
pub gone_nowhere : (m : Maps) (pid s : ℕ) (is : List ℕ) → list_any (is_index s) is ≡ false → false ≡ is_gone_in m pid is s
gone_nowhere m pid s is e = sym (gone_is m pid s is ∙ ap (λ (b : Bool). b && is_last_in (held_at m pid (s / 8))) e)

pub gone_last : (m : Maps) (pid s : ℕ) (is : List ℕ) → list_any (is_index s) is ≡ true → is_last_in (held_at m pid (s / 8)) ≡ is_gone_in m pid is s
gone_last m pid s is e = sym (gone_is m pid s is ∙ ap (λ (b : Bool). b && is_last_in (held_at m pid (s / 8))) e)

-- CS or SS is one
pub code_used : (c : Cpu) (is : List ℕ) → list_any (is_index c.cs) is ≡ true → true ≡ in_use c is
code_used c is e = sym (used_is c is ∙ ap (λ (b : Bool). b || list_any (is_index c.ss) is) e)

pub stack_used : (c : Cpu) (is : List ℕ) → list_any (is_index c.cs) is ≡ false → list_any (is_index c.ss) is ≡ in_use c is
stack_used c is e = sym (used_is c is ∙ ap (λ (b : Bool). b || list_any (is_index c.ss) is) e)
