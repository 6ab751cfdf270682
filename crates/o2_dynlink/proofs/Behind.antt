-- What a function gives of a list's items, where each may fail: of a part of the list, and of one that goes on behind a part.
use Rattle.std.proofs.Common.{◌≡◌, ℕ, zero, suc, ◌+◌, ◌-◌, ◌<◌, ◌≤◌, List, [], ◌∷◌, ◌++◌, Result, Ok, Err, drop, take, get_or, length, refl, sym, ap, ◌∙◌, arith, append_assoc}
use Rattle.std.proofs.lemmas.List.{append-nil, take-append-drop}
use Rattle.o2_base.specs.declared.memory.Fail.{Fail}
use Rattle.o2_base.specs.declared.memory.Fail.TheVariants.{Bad, NoMemory}
use Rattle.o2_ne.specs.Checks.{◌>>=◌}
use Rattle.o2_ne.specs.Steps.{over, Fails}
use Rattle.o2_image.specs.Alike.{HasPart, Precedes, behind}
use Rattle.o2_image.specs.Getters.{nth_list}
use Rattle.o2_image.specs.Images.{Target}
use Rattle.o2_dynlink.specs.declared.gathering.Last.{Last}
use Rattle.o2_dynlink.specs.Imports.{each, gather, on_list}
use Rattle.o2_dynlink.specs.Memo.{IsKnown}

over-append : {X S F : Type 0} (g : X → S → Result S F) (xs ys : List X) (s : S) → over g (xs ++ ys) s ≡ (over g xs s >>= over g ys)
unfolding over
over-append g [] ys s = refl
over-append {X} {S} {F} g (x ∷ xs) ys s = go (g x s) refl (over-append g xs ys)
  where
    go : (r : Result S F) → g x s ≡ r → ((t : S) → over g (xs ++ ys) t ≡ (over g xs t >>= over g ys)) → over g (x ∷ (xs ++ ys)) s ≡ (over g (x ∷ xs) s >>= over g ys)
    go (Err e) h more = rw h refl
    go (Ok t) h more = rw h (more t)

module _ {X Y F : Type 0} (f : X → Result Y F) where
  -- what is gathered, behind what is found
  abbrev joined : List Y → Result (List Y) F → Result (List Y) F
  joined found (Ok ys) = Ok (found ++ ys)
  joined found (Err e) = Err e

  joined-joined : (a b : List Y) (r : Result (List Y) F) → joined a (joined b r) ≡ joined (a ++ b) r
  joined-joined a b (Ok ys) = ap (λ (zs : List Y). Ok zs) (sym (append_assoc a b ys))
  joined-joined a b (Err e) = refl

  gathered : (xs : List X) (found : List Y) → over (gather f) xs found ≡ joined found (each f xs)
  unfolding over
  gathered [] found = ap (λ (zs : List Y). Ok zs) (sym (append-nil found))
  gathered (x ∷ xs) found = go (f x) refl (gathered xs)
    where
      go : (r : Result Y F) → f x ≡ r → ((s : List Y) → over (gather f) xs s ≡ joined s (each f xs)) → over (gather f) (x ∷ xs) found ≡ joined found (each f (x ∷ xs))
      go (Err e) h more = rw h refl
      go (Ok y) h more = rw h (more (found ++ y ∷ []) ∙ sym (joined-joined found (y ∷ []) (each f xs)) ∙ ap (joined found) (sym (more (y ∷ []))))

  first : (x : X) (xs : List X) (y : Y) → f x ≡ Ok y → each f (x ∷ xs) ≡ joined (y ∷ []) (each f xs)
  unfolding over
  first x xs y h = rw h (gathered xs (y ∷ []))

  fails : (x : X) (xs : List X) (e : F) → f x ≡ Err e → each f (x ∷ xs) ≡ Err e
  unfolding over
  fails x xs e h = rw h refl

  nothing : each f [] ≡ Ok []
  unfolding over
  nothing = refl

  -- what f gives of one item and those behind it
  split : (x : X) (xs : List X) (ys : List Y) → each f (x ∷ xs) ≡ Ok ys → (y : Y) × (zs : List Y) × (f x ≡ Ok y) × (each f xs ≡ Ok zs) × (ys ≡ y ∷ zs)
  split x xs ys h = go (f x) refl
    where
      rest : (y : Y) (r : Result (List Y) F) → f x ≡ Ok y → each f xs ≡ r → joined (y ∷ []) r ≡ Ok ys → (y : Y) × (zs : List Y) × (f x ≡ Ok y) × (each f xs ≡ Ok zs) × (ys ≡ y ∷ zs)
      rest y (Ok zs) is e g = (y, zs, is, e, (let k : y ∷ zs ≡ ys = cc in sym k))
      rest y (Err d) is e g = absurd cc

      go : (r : Result Y F) → f x ≡ r → (y : Y) × (zs : List Y) × (f x ≡ Ok y) × (each f xs ≡ Ok zs) × (ys ≡ y ∷ zs)
      go (Err e) g = absurd (let bad = sym (fails x xs e g) ∙ h in cc)
      go (Ok y) g = rest y (each f xs) g refl (sym (first x xs y g) ∙ h)

  pub each-drop : (n : ℕ) (xs : List X) (ys : List Y) → each f xs ≡ Ok ys → each f (drop n xs) ≡ Ok (drop n ys)
  each-drop zero xs ys h = h
  each-drop (suc n) [] ys h = let e : [] ≡ ys = (let k = sym nothing ∙ h in cc) in rw (← e) nothing
  each-drop (suc n) (x ∷ xs) ys h = let s = split x xs ys h in rw s.4 (each-drop n xs s.1 s.3)

  pub each-take : (n : ℕ) (xs : List X) (ys : List Y) → each f xs ≡ Ok ys → each f (take n xs) ≡ Ok (take n ys)
  each-take zero xs ys h = nothing
  each-take (suc n) [] ys h = let e : [] ≡ ys = (let k = sym nothing ∙ h in cc) in rw (← e) nothing
  each-take (suc n) (x ∷ xs) ys h =
      let s = split x xs ys h in
      rw s.4 (first x (take n xs) s.0 s.2 ∙ ap (joined (s.0 ∷ [])) (each-take n xs s.1 s.3))

  pub each-length : (xs : List X) (ys : List Y) → each f xs ≡ Ok ys → length ys ≡ length xs
  each-length [] ys h = let e : [] ≡ ys = (let k = sym nothing ∙ h in cc) in rw (← e) refl
  each-length (x ∷ xs) ys h = let s = split x xs ys h in rw s.4 (ap suc (each-length xs s.1 s.3))

  -- what f gives of an item of the list, and of the list what it gives of each item
  pub each_at : (xs : List X) (ys : List Y) (k : ℕ) (d : X) (e : Y) → each f xs ≡ Ok ys → k < length xs → f (get_or xs k d) ≡ Ok (get_or ys k e)
  each_at [] ys k d e h lt = absurd (omega arith)
  each_at (x ∷ xs) ys zero d e h lt = let s = split x xs ys h in rw s.4 s.2
  each_at (x ∷ xs) ys (suc k) d e h lt = let s = split x xs ys h in rw s.4 (each_at xs s.1 k d e s.3 (omega (arith, lt)))

  pub each_of : (xs : List X) (ys : List Y) (d : X) (e : Y) → length ys ≡ length xs → ((k : ℕ) → k < length xs → f (get_or xs k d) ≡ Ok (get_or ys k e)) → each f xs ≡ Ok ys
  each_of [] [] d e len h = nothing
  each_of [] (y ∷ ys) d e len h = absurd (omega (arith, len))
  each_of (x ∷ xs) [] d e len h = absurd (omega (arith, len))
  each_of (x ∷ xs) (y ∷ ys) d e len h =
      first x xs y (h 0 (omega arith)) ∙ ap (joined (y ∷ [])) (each_of xs ys d e (omega (arith, len)) (λ k lt. h (suc k) (omega (arith, lt))))

  each-append : (xs ys : List X) (found : List Y) → each f xs ≡ Ok found → each f (xs ++ ys) ≡ joined found (each f ys)
  each-append xs ys found h = over-append (gather f) xs ys [] ∙ rw h (gathered ys found)

module _ {X F : Type 0} (f : X → Result Target F) (records : List (List X)) (found : List (List Target)) (last : Last) (seg skip : ℕ) (known : IsKnown (on_list f records) found last) where
  abbrev pub old : List Target
  old = get_or found last.index []

  -- an earlier segment has as many targets as records
  many : length old ≡ length (nth_list records last.seg)
  many = each-length f (nth_list records last.seg) old known.are

  -- of a segment whose records are among those of an earlier one
  module _ (part : HasPart skip (nth_list records last.seg) (nth_list records seg)) where
    pub has_room : skip + length (nth_list records seg) ≤ length old
    has_room = let le = part.within in omega (arith, many, le)

    whole : each f (nth_list records seg) ≡ Ok (take (length (nth_list records seg)) (drop skip old))
    whole =
        ap (each f) part.same
        ∙ each-take f (length (nth_list records seg)) (drop skip (nth_list records last.seg)) (drop skip old) (each-drop f skip (nth_list records last.seg) old known.are)

    pub found_within : (after : List (List Target)) → after ≡ found ++ take (length (nth_list records seg)) (drop skip old) ∷ [] → gather (on_list f records) seg found ≡ Ok after
    found_within after is = rw (whole, is) refl

  -- of one whose first records are the last ones of an earlier one
  module _ (precedes : Precedes skip (nth_list records last.seg) (nth_list records seg)) where
    abbrev pub rest : List X
    rest = drop (length (nth_list records last.seg) - skip) (nth_list records seg)

    pub skipped : skip ≤ length old
    skipped = let le = precedes.some in omega (arith, many, le)

    all_of : each f (nth_list records seg) ≡ joined f (drop skip old) (each f rest)
    all_of =
        ap (each f) (sym (take-append-drop (length (nth_list records last.seg) - skip) (nth_list records seg)) ∙ ap (λ (zs : List X). zs ++ rest) (sym precedes.same))
        ∙ each-append f (drop skip (nth_list records last.seg)) rest (drop skip old) (each-drop f skip (nth_list records last.seg) old known.are)

    pub found_behind : (ts : List Target) (after : List (List Target)) → each f rest ≡ Ok ts → after ≡ found ++ behind old skip ts ∷ [] → gather (on_list f records) seg found ≡ Ok after
    found_behind ts after h is = rw (all_of, h, is) refl

    pub fails_behind : (e : Fail F) → Fails e (each f rest) → Fails e (gather (on_list f records) seg found)
    fails_behind NoMemory h = tt
    fails_behind (Bad d) h = rw (all_of, h) refl
