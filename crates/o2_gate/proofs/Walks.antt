-- Slots one after another, from the left: what the first one comes to, with those behind it.
use Rattle.std.proofs.Common.{◌≡◌, ℕ, ◌+◌, ◌-◌, ◌*◌, ◌<◌, ◌≤◌, ◌&&◌, Bool, true, false, List, [], ◌∷◌, ◌++◌, drop, length, Option, ap, sym, ◌∙◌, refl, subst, arith}
use Rattle.std.proofs.lemmas.List.{drop_all, drop_more}
use Rattle.std.specs.Prelude.{slice_index_or}
use Rattle.o2_base.specs.declared.selector.Selector.{Selector}
use Rattle.o2_isa.specs.View.{View, Filling, Hold, is_readable, is_writable}
use Rattle.o2_isa.specs.Pointers.{is_ready, put_at_pointer}
use Rattle.o2_world.specs.declared.types.Slot.{Slot}
use Rattle.o2_world.specs.declared.types.Slot.TheVariants.{Word, Long, Reads, Writes, Text, ToWord, ToLong, ToWords, Heap}
use Rattle.o2_world.specs.SharedNames.{looked_at, name_most, text_size}
use Rattle.o2_world.specs.Slots.{Pointer, parts_at, parts_in, pointer_at, pointers_at, pointers_in, put_all, targets_at, targets_in, words_in, words_of}
use Rattle.o2_gate.specs.declared.pointer.Pointed.{Pointed}
use Rattle.o2_gate.specs.declared.text.TextArgument.{TextArgument}
use Rattle.o2_gate.specs.Befores.{boundless}
use Rattle.o2_gate.specs.Given.{IsTextAt, IsTextIn, pointers_by}
use Rattle.o2_gate.specs.Pointed.{IsBadTest, IsGoodTest, IsMissedTest, Pointers, Tells, are_ready, only, pointer}
use Rattle.o2_gate.specs.Replies.{FitsAt, FitsIn}
use Rattle.o2_gate.specs.Small.{texts_at, texts_in}
use Rattle.o2_gate.specs.Targets.{target_at, target_in}
use Rattle.o2_gate.proofs.Checks.{bad_first, missed_first, then_tells}
use Rattle.o2_gate.proofs.Stores.{put_over}

-- the first of those from a place on
pub next_slot : {X : Type 0} (F : List Slot → X) (ss : List Slot) (k : ℕ) (d : Slot) → k < length ss → F (drop k ss) ≡ F (slice_index_or ss k d ∷ drop (k + 1) ss)
next_slot F ss k d lt = ap F (drop_more ss k d lt)

-- none is left
pub no_slot : {X : Type 0} (F : List Slot → X) (ss : List Slot) (k : ℕ) → length ss ≤ k → F (drop k ss) ≡ F []
no_slot F ss k le = ap F (drop_all k ss le)

pub pushed : {X : Type 0} (xs : List X) (x : X) (ys : List X) → (xs ++ x ∷ []) ++ ys ≡ xs ++ x ∷ ys
pushed [] x ys = refl
pushed (z ∷ xs) x ys = ap (λ (zs : List _). z ∷ zs) (pushed xs x ys)

-- Tests.

pub by_slot : (v : View) (a : ℕ → ℕ) (place : ℕ) (s : Slot) {t : Slot} → s ≡ t → (r : Pointed) → Tells v (λ w. pointers_at t w a place) r → Tells v (λ w. pointers_at s w a place) r
by_slot v a place s is r e = subst (λ (x : Slot). Tells v (λ w. pointers_at x w a place) r) (sym is) e

pub counts : (v : View) (writes : Bool) (s o n m : ℕ) → n ≡ m → (r : Pointed) → Tells v (only (pointer writes s o n)) r → Tells v (only (pointer writes s o m)) r
counts v writes s o n m is r e = subst (λ (x : ℕ). Tells v (only (pointer writes s o x)) r) is e

module _ (v : View) (a : ℕ → ℕ) (ss : List Slot) where
  abbrev place : ℕ
  place = words_in ss

  abbrev rest : Pointers
  rest = pointers_by ss a

  abbrev here : Slot → Pointers
  here s w = pointers_at s w a place

  abbrev fixed : ℕ → (ℕ → Bool) → View → Pointer
  fixed count good w = pointer_at a place count good

  abbrev text : View → Pointer
  text w = pointer_at a place (text_size w (a (place + 1)) (a place)) is_readable

  nothing_bad : IsBadTest v (λ w. []) → ⊥
  nothing_bad x = let e : true ≡ false = x.good (record { blocks = λ n. []; hidden = v.hidden }) in cc

  nothing_missed : (s : Selector) → IsMissedTest v s (λ w. []) → ⊥
  nothing_missed s x = let e : false ≡ true = (x.missed (record { blocks = λ n. []; hidden = v.hidden })).named in cc

  pub then_slot : (s : Slot) (r : Pointed) → IsGoodTest v (here s) → Tells v rest r → Tells v (pointers_by (s ∷ ss) a) r
  then_slot Word r x y = y
  then_slot Long r x y = y
  then_slot Reads r x y = then_tells v (fixed (a (place - 1)) is_readable) rest r x y
  then_slot Writes r x y = then_tells v (fixed (a (place - 1)) is_writable) rest r x y
  then_slot Text r x y = then_tells v text rest r x y
  then_slot ToWord r x y = then_tells v (fixed 2 is_writable) rest r x y
  then_slot ToLong r x y = then_tells v (fixed 4 is_writable) rest r x y
  then_slot (ToWords count) r x y = then_tells v (fixed (2 * count) is_writable) rest r x y
  then_slot Heap r x y = y

  pub bad_slot : (s : Slot) → IsBadTest v (here s) → IsBadTest v (pointers_by (s ∷ ss) a)
  bad_slot Word x = absurd (nothing_bad x)
  bad_slot Long x = absurd (nothing_bad x)
  bad_slot Reads x = bad_first v (fixed (a (place - 1)) is_readable) rest x
  bad_slot Writes x = bad_first v (fixed (a (place - 1)) is_writable) rest x
  bad_slot Text x = bad_first v text rest x
  bad_slot ToWord x = bad_first v (fixed 2 is_writable) rest x
  bad_slot ToLong x = bad_first v (fixed 4 is_writable) rest x
  bad_slot (ToWords count) x = bad_first v (fixed (2 * count) is_writable) rest x
  bad_slot Heap x = absurd (nothing_bad x)

  pub missed_slot : (s : Slot) (sel : Selector) → IsMissedTest v sel (here s) → IsMissedTest v sel (pointers_by (s ∷ ss) a)
  missed_slot Word sel x = absurd (nothing_missed sel x)
  missed_slot Long sel x = absurd (nothing_missed sel x)
  missed_slot Reads sel x = missed_first v (fixed (a (place - 1)) is_readable) rest sel x
  missed_slot Writes sel x = missed_first v (fixed (a (place - 1)) is_writable) rest sel x
  missed_slot Text sel x = missed_first v text rest sel x
  missed_slot ToWord sel x = missed_first v (fixed 2 is_writable) rest sel x
  missed_slot ToLong sel x = missed_first v (fixed 4 is_writable) rest sel x
  missed_slot (ToWords count) sel x = missed_first v (fixed (2 * count) is_writable) rest sel x
  missed_slot Heap sel x = absurd (nothing_missed sel x)

  -- The text that was read last is that behind the only pointer to one.
  text_there : (s : Slot) (t new : TextArgument) → texts_at s + texts_in ss ≤ 1 → (texts_in ss ≡ 0 → t ≡ new) → IsTextAt v a new s place → IsTextAt v a t s place
  text_there Word t new one same is = tt
  text_there Long t new one same is = tt
  text_there Reads t new one same is = tt
  text_there Writes t new one same is = tt
  text_there Text t new one same is = subst (λ (x : TextArgument). IsTextAt v a x Text place) (sym (same (omega (arith, one)))) is
  text_there ToWord t new one same is = tt
  text_there ToLong t new one same is = tt
  text_there (ToWords count) t new one same is = tt
  text_there Heap t new one same is = tt

  pub text_step : (s : Slot) (all : List Slot) (old new : TextArgument) → texts_at s + texts_in ss ≤ 1 → (texts_at s ≡ 0 → new ≡ old) → IsTextAt v a new s place
      → ((t : TextArgument) → (texts_at s + texts_in ss ≡ 0 → t ≡ old) → IsTextIn v a t (s ∷ ss) → IsTextIn v a t all)
      → (t : TextArgument) → (texts_in ss ≡ 0 → t ≡ new) → IsTextIn v a t ss → IsTextIn v a t all
  text_step s all old new one kept is so_far t same behind =
      so_far t (λ none. same (omega (arith, none)) ∙ kept (omega (arith, none))) (text_there s t new one same is, behind)

-- The pointers that were tested are those of the words and of the text.
aimed_there : (v : View) (f : Filling) (a : ℕ → ℕ) (t : TextArgument) (s : Slot) (n : ℕ) → IsTextAt v a t s n → pointers_at s (boundless f v) a n ≡ target_at s (looked_at (name_most + 1) t.bytes) a n
aimed_there v f a t Word n is = refl
aimed_there v f a t Long n is = refl
aimed_there v f a t Reads n is = refl
aimed_there v f a t Writes n is = refl
aimed_there v f a t Text n is = ap (λ (k : ℕ). pointer false (a (n + 1)) (a n) k ∷ []) (is.size f)
aimed_there v f a t ToWord n is = refl
aimed_there v f a t ToLong n is = refl
aimed_there v f a t (ToWords count) n is = refl
aimed_there v f a t Heap n is = refl

pub aimed : (v : View) (f : Filling) (a : ℕ → ℕ) (t : TextArgument) (ss : List Slot) → IsTextIn v a t ss → pointers_in ss (boundless f v) a ≡ target_in ss (looked_at (name_most + 1) t.bytes) a
aimed v f a t [] is = refl
aimed v f a t (s ∷ ss) is =
    ap (λ (ps : List Pointer). ps ++ pointers_in ss (boundless f v) a) (aimed_there v f a t s (words_in ss) is.0)
    ∙ ap (λ (ps : List Pointer). target_at s (looked_at (name_most + 1) t.bytes) a (words_in ss) ++ ps) (aimed v f a t ss is.1)

-- Values.

and_both : (a b : Bool) → ((a && true) && b) ≡ true → (a && b) ≡ true
and_both a b e = grind arith

first_of : (a b : Bool) → (a && b) ≡ true → (a && true) ≡ true
first_of a b e = grind arith

last_of : (a b : Bool) → (a && b) ≡ true → b ≡ true
last_of a b e = grind arith

module _ (v : View) (a : ℕ → ℕ) (ss : List Slot) where
  abbrev behind : List Pointer
  behind = targets_in ss a

  pub ready_here : (s : Slot) → are_ready v (targets_in (s ∷ ss) a) ≡ true → are_ready v (targets_at s a (words_in ss)) ≡ true
  ready_here Word e = refl
  ready_here Long e = refl
  ready_here Reads e = refl
  ready_here Writes e = first_of _ _ e
  ready_here Text e = refl
  ready_here ToWord e = first_of _ _ e
  ready_here ToLong e = first_of _ _ e
  ready_here (ToWords count) e = first_of _ _ e
  ready_here Heap e = first_of _ _ e

  pub ready_behind_slot : (s : Slot) → are_ready v (targets_in (s ∷ ss) a) ≡ true → are_ready v behind ≡ true
  ready_behind_slot Word e = e
  ready_behind_slot Long e = e
  ready_behind_slot Reads e = e
  ready_behind_slot Writes e = last_of _ _ e
  ready_behind_slot Text e = e
  ready_behind_slot ToWord e = last_of _ _ e
  ready_behind_slot ToLong e = last_of _ _ e
  ready_behind_slot (ToWords count) e = last_of _ _ e
  ready_behind_slot Heap e = last_of _ _ e

  -- the part of a value goes behind its own pointer
  pub put_slot : (s : Slot) (value : ℕ) (held : ℕ → Option Hold) (bytes : ℕ → List ℕ) → FitsAt s value
      → put_all held (targets_in (s ∷ ss) a) (parts_in (s ∷ ss) value) bytes
      ≡ put_all held behind (parts_in ss value) (put_all held (targets_at s a (words_in ss)) (parts_at s value) bytes)
  put_slot Word value held bytes fits = refl
  put_slot Long value held bytes fits = refl
  put_slot Reads value held bytes fits = refl
  put_slot Writes value held bytes fits = absurd fits
  put_slot Text value held bytes fits = refl
  put_slot ToWord value held bytes fits = refl
  put_slot ToLong value held bytes fits = refl
  put_slot (ToWords count) value held bytes fits = absurd fits
  put_slot Heap value held bytes fits = absurd fits

pub put_all_over : (held : ℕ → Option Hold) (ps : List Pointer) (parts : List (List ℕ)) (f g : ℕ → List ℕ) → ((n : ℕ) → f n ≡ g n) → (n : ℕ) → put_all held ps parts f n ≡ put_all held ps parts g n
put_all_over held [] parts f g same n = same n
put_all_over held (p ∷ ps) [] f g same n = same n
put_all_over held (p ∷ ps) (part ∷ parts) f g same n =
    put_all_over held ps parts (put_at_pointer held f p.selector p.offset part) (put_at_pointer held g p.selector p.offset part)
    (λ m. put_over held g f p.selector p.offset part m (same m)) n

pub ready_same : (v w : View) → ((ok : ℕ → Bool) (s o n : ℕ) → is_ready ok w s o n ≡ is_ready ok v s o n) → (ps : List Pointer) → are_ready w ps ≡ are_ready v ps
ready_same v w same [] = refl
ready_same v w same (p ∷ ps) = rw (same p.good p.selector p.offset p.count, ready_same v w same ps) refl

-- From a place on.
module _ (ss : List Slot) (k : ℕ) (lt : k < length ss) where
  pub words_next : words_in (drop k ss) ≡ words_of (slice_index_or ss k Word) + words_in (drop (k + 1) ss)
  words_next = next_slot words_in ss k Word lt

  pub texts_next : texts_in (drop k ss) ≡ texts_at (slice_index_or ss k Word) + texts_in (drop (k + 1) ss)
  texts_next = next_slot texts_in ss k Word lt

  pub slots_next : drop k ss ≡ slice_index_or ss k Word ∷ drop (k + 1) ss
  slots_next = next_slot (λ (x : List Slot). x) ss k Word lt

-- over a bus that shows the same, and at the same place
pub moved_test : (u v : View) → u ≡ v → (a : ℕ → ℕ) (s : Slot) (n m : ℕ) → n ≡ m → (r : Pointed) → Tells u (λ w. pointers_at s w a n) r → Tells v (λ w. pointers_at s w a m) r
moved_test u v same a s n m is r e =
    subst (λ (x : View). Tells x (λ w. pointers_at s w a m) r) same (subst (λ (x : ℕ). Tells u (λ w. pointers_at s w a x) r) is e)

pub moved_text : (u v : View) → u ≡ v → (a : ℕ → ℕ) (t : TextArgument) (s : Slot) (n m : ℕ) → n ≡ m → IsTextAt u a t s n → IsTextAt v a t s m
moved_text u v same a t s n m is e = subst (λ (x : View). IsTextAt x a t s m) same (subst (λ (x : ℕ). IsTextAt u a t s x) is e)

-- The pointers behind which bytes are written are among those that are tested.
both_of : (a b c : Bool) → (b ≡ true → c ≡ true) → (a && b) ≡ true → (a && c) ≡ true
both_of true b c f e = f e
both_of false b c f e = absurd (let z : false ≡ true = e in cc)

pub written_ready : (v : View) (a : ℕ → ℕ) (looked value : ℕ) (ss : List Slot) → FitsIn ss value → are_ready v (target_in ss looked a) ≡ true → are_ready v (targets_in ss a) ≡ true
written_ready v a looked value [] fits e = refl
written_ready v a looked value (Word ∷ ss) fits e = written_ready v a looked value ss fits.1 e
written_ready v a looked value (Long ∷ ss) fits e = written_ready v a looked value ss fits.1 e
written_ready v a looked value (Reads ∷ ss) fits e = written_ready v a looked value ss fits.1 (last_of _ _ e)
written_ready v a looked value (Writes ∷ ss) fits e = absurd fits.0
written_ready v a looked value (Text ∷ ss) fits e = written_ready v a looked value ss fits.1 (last_of _ _ e)
written_ready v a looked value (ToWord ∷ ss) fits e = both_of _ _ _ (written_ready v a looked value ss fits.1) e
written_ready v a looked value (ToLong ∷ ss) fits e = both_of _ _ _ (written_ready v a looked value ss fits.1) e
written_ready v a looked value (ToWords count ∷ ss) fits e = absurd fits.0
written_ready v a looked value (Heap ∷ ss) fits e = absurd fits.0
