-- The images of segments, with the room behind them.
use Rattle.o2_ne.specs.Steps.{tabulate}
use Rattle.o2_image.specs.Getters.{nth_list}
use Rattle.std.proofs.Common.{◌∙◌, ap, append_assoc, ◌≡◌, ℕ, zero, suc, Bool, true, false, ◌≤◌, ◌<◌, ◌+◌, ◌-◌, List, [], ◌∷◌, ◌++◌, length, replicate, Option, Some, None, if◌then◌else◌, ◌==◌, sym, refl, arith, append-nil, subst, get_or}
use Rattle.std.specs.Prelude.{option_map, slice_get, MatchBool}
use Rattle.o2_ne_segs.specs.declared.segment.Segment.{Segment}
use Rattle.o2_ne_segs.specs.SegmentTable.{nth_segment, AllSized, HasSize}
use Rattle.o2_image.specs.Getters.{nth, is_library}
use Rattle.o2_image.specs.Whole.{IsRunnable}
use Rattle.o2_image.specs.ImageList.{ImageList, Resolution, Exists, HasImage, HasSegmentOf, image_front}
use Rattle.o2_image.specs.Parts.{Parts}
use Rattle.o2_world.specs.Starts.{loaded_bytes}
use Rattle.o2_load.specs.Loads.{room_at, loaded_module, loaded_segment}

pub in_list : {X : Type 0} (xs : List X) (i : ℕ) (x : X) → slice_get xs i ≡ Some x → i < length xs
in_list [] i x e = absurd (cc)
in_list (y ∷ ys) zero x e = omega arith
in_list (y ∷ ys) (suc i) x e = let h = in_list ys i x e in omega (arith, h)

pub exists : (b : Bool) (ss : List Segment) (n : ℕ) (s : Segment) → (n == 0) ≡ b → (if b then None else slice_get ss (n - 1)) ≡ Some s → Exists ss n
exists true ss n s is e = absurd (cc)
exists false ss n s is e = let some : 0 < n = grind arith in let h = in_list ss (n - 1) s e in (omega (arith, some), omega (arith, some, h))

some_parts : (p m : Parts) → ◌≡◌ {A = Option Parts} (Some p) (Some m) → p ≡ m
some_parts p m e = cc

has_by : (o : Option Resolution) (m : Parts) (n : ℕ) → option_map (λ (p : Resolution). p.0) o ≡ Some m → Exists m.segments n → HasSegmentOf o n
has_by None m n e h = absurd (cc)
has_by (Some p) m n e h = subst (λ (q : Parts). Exists q.segments n) (sym (some_parts p.0 m e)) h

has_at : (b : Bool) (images : ImageList) (place n : ℕ) (m : Parts) → (place == 0) ≡ b → option_map (λ (p : Resolution). p.0) (if b then None else slice_get images.modules (place - 1)) ≡ Some m → Exists m.segments n
    → MatchBool b (Exists images.environments n) (HasSegmentOf (if b then None else slice_get images.modules (place - 1)) n)
has_at true images place n m is e h = absurd (cc)
has_at false images place n m is e h = has_by (slice_get images.modules (place - 1)) m n e h

-- a segment of a module at a place has an image
pub has_image : (images : ImageList) (place n : ℕ) (m : Parts) (s : Segment) → option_map (λ (p : Resolution). p.0) (nth images.modules place) ≡ Some m → nth_segment n m.segments ≡ Some s → HasImage images place n
has_image images place n m s e f = has_at (place == 0) images place n m refl e (exists (n == 0) m.segments n s refl f)

with_room : (b : Bool) (bytes : List ℕ) (room : ℕ) → bytes ++ replicate (if b then room else 0) 0 ≡ (if b then bytes ++ replicate room 0 else bytes)
with_room true bytes room = refl
with_room false bytes room = append-nil bytes

-- the bytes of a segment, with the room behind them
pub first_bytes_are : (images : ImageList) (place n : ℕ) (m : Parts) (s : Segment) → image_front images place n s.size ++ replicate (room_at m n) 0 ≡ loaded_bytes (loaded_module images place m) n (loaded_segment images place m n s)
first_bytes_are images place n m s = with_room (n == m.head.auto_seg) (image_front images place n s.size) (if is_library m then m.head.heap else m.head.stack + m.head.heap)

pub get_in : {X : Type 0} (xs : List X) (i : ℕ) (x : X) → slice_get xs i ≡ Some x → get_or xs i x ≡ x
get_in [] i x e = absurd (cc)
get_in (y ∷ ys) zero x e = cc
get_in (y ∷ ys) (suc i) x e = get_in ys i x e

pub sized : (b : Bool) (ss : List Segment) (n : ℕ) (s : Segment) → AllSized ss → (if b then None else slice_get ss (n - 1)) ≡ Some s → s.size ≤ 65536
sized true ss n s all e = absurd (cc)
sized false ss n s all e =
    let h : HasSize (get_or ss (n - 1) s) = all (n - 1) s (in_list ss (n - 1) s e) in
    (subst (λ (x : Segment). HasSize x) (get_in ss (n - 1) s e) h).1

least : (b : Bool) (ss : List Segment) (n : ℕ) (s : Segment) → AllSized ss → (if b then None else slice_get ss (n - 1)) ≡ Some s → 1 ≤ s.size
least true ss n s all e = absurd (cc)
least false ss n s all e =
    let h : HasSize (get_or ss (n - 1) s) = all (n - 1) s (in_list ss (n - 1) s e) in
    (subst (λ (x : Segment). HasSize x) (get_in ss (n - 1) s e) h).0

room_fits : (library : Bool) (size stack heap : ℕ) → size + stack + heap ≤ 65536 → size + (if library then heap else stack + heap) ≤ 65536
room_fits true size stack heap h = omega (arith, h)
room_fits false size stack heap h = omega (arith, h)

number_is : (n k : ℕ) → (n == k) ≡ true → n ≡ k
number_is n k e = grind arith

fits_by : (b : Bool) (m : Parts) (n : ℕ) (s : Segment) → (n == m.head.auto_seg) ≡ b → IsRunnable m → nth_segment n m.segments ≡ Some s
    → s.size + (if b then (if is_library m then m.head.heap else m.head.stack + m.head.heap) else 0) ≤ 65536
fits_by true m n s is runs e =
    room_fits (is_library m) s.size m.head.stack m.head.heap (runs.auto s (subst (λ (k : ℕ). nth_segment k m.segments ≡ Some s) (number_is n m.head.auto_seg is) e)).1
fits_by false m n s is runs e = let h = sized (n == 0) m.segments n s runs.sizes e in omega (arith, h)

-- a segment fits with the room behind it
pub room_behind_fits : (m : Parts) (n : ℕ) (s : Segment) → IsRunnable m → nth_segment n m.segments ≡ Some s
    → s.size + room_at m n ≤ 65536
room_behind_fits m n s runs e = fits_by (n == m.head.auto_seg) m n s refl runs e

-- and has at least one byte
pub size_is_some : (m : Parts) (n : ℕ) (s : Segment) → IsRunnable m → nth_segment n m.segments ≡ Some s → 1 ≤ s.size
size_is_some m n s runs e = least (n == 0) m.segments n s runs.sizes e

-- the bytes of an environment

told : (front rest : List ℕ) (i : ℕ) → i ≡ length front → tabulate (λ (j : ℕ). get_or (front ++ rest) j 0) i (length rest) ≡ rest
unfolding tabulate
told front [] i e = refl
told front (x ∷ rest) i e =
    ap (λ (n : ℕ). n ∷ tabulate (λ (j : ℕ). get_or (front ++ x ∷ rest) j 0) (i + 1) (length rest)) (here front i e)
    ∙ ap (λ (ys : List ℕ). x ∷ ys)
    (ap (λ (bs : List ℕ). tabulate (λ (j : ℕ). get_or bs j 0) (i + 1) (length rest)) (sym (append_assoc front (x ∷ []) rest))
    ∙ told (front ++ x ∷ []) rest (i + 1) (more front i e))
  where
    here : (front : List ℕ) (i : ℕ) → i ≡ length front → get_or (front ++ x ∷ rest) i 0 ≡ x
    here [] i e = rw e refl
    here (y ∷ front) zero e = absurd (omega (arith, e))
    here (y ∷ front) (suc i) e = here front i (omega (arith, e))

    more : (front : List ℕ) (i : ℕ) → i ≡ length front → i + 1 ≡ length (front ++ x ∷ [])
    more [] i e = omega (arith, e)
    more (y ∷ front) zero e = absurd (omega (arith, e))
    more (y ∷ front) (suc i) e = let m = more front i (omega (arith, e)) in omega (arith, m)

pub environment_is : (images : ImageList) (pid size : ℕ) → size ≡ length (nth_list images.environments pid) → image_front images 0 pid size ++ replicate 0 0 ≡ nth_list images.environments pid
environment_is images pid size e =
    append-nil (image_front images 0 pid size) ∙ ap (λ (n : ℕ). image_front images 0 pid n) e ∙ told [] (nth_list images.environments pid) 0 refl
