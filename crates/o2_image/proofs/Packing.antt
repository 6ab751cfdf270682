-- Targets that are packed one by one.
use Rattle.std.proofs.Common.{◌≡◌, ◌≢◌, ℕ, ◌+◌, ◌-◌, ◌*◌, ◌/◌, ◌<◌, ◌≤◌, ◌==◌, Bool, true, false, List, [], ◌∷◌, ◌++◌, get_or, length, refl, sym, ap, ◌∙◌, arith, inl, inr}
use Rattle.std.proofs.Math.Seq.{get_or-append_seam}
use Rattle.std.proofs.lemmas.Bool.{cases_lt, eqb-false, ne_eqb}
use Rattle.std.proofs.lemmas.List.{ext_get_or, get_or_append_left, get_or_past, length-append}
use Rattle.o2_ne.proofs.Tabulated.{get_or-table, length-tabulate}
use Rattle.o2_image.specs.Images.{Target}
use Rattle.o2_image.specs.Marked.{IsThere, Packs, last_of, look, placed, unpacked_of}

-- no target yet
pub empty : (ts : List Target) (marks firsts : List ℕ) (some : List Target) → marks ≡ [] → firsts ≡ [] → some ≡ [] → Packs ts 0 marks firsts some
empty ts marks firsts some a b c = rw (a, b, c) (record {
  count = refl;
  begun = omega arith;
  last = omega arith;
  low = omega arith;
  room = omega arith;
  there = λ j lt. absurd (omega (arith, lt));
  same = λ j lt. absurd (omega (arith, lt));
})

-- where one list stands behind another, what a mark of the first one stands for is the same
placed_still : (some more : List Target) (first mark : ℕ) → IsThere some first mark → placed (some ++ more) first mark ≡ placed some first mark
placed_still some more first mark there = go (mark == 0) refl
  where
    go : (b : Bool) → (mark == 0) ≡ b → placed (some ++ more) first mark ≡ placed some first mark
    go true e = rw e refl
    go false e =
        let other = eqb-false mark 0 e in
        let lead : 0 < mark = omega (arith, other) in
        rw e (get_or_append_left some more (0, 0) (first + (mark - 1)) (there lead))

there_still : (some more : List Target) (first mark : ℕ) → IsThere some first mark → IsThere (some ++ more) first mark
there_still some more first mark there lead = let h = there lead in omega (arith, h, length-append some more)

-- a group of marks more, where the last one is full
module _ (ts : List Target) (k : ℕ) (marks firsts : List ℕ) (some : List Target) (p : Packs ts k marks firsts some) (full : length firsts ≡ k / 128) where
  begun_at : k ≡ 128 * length firsts
  begun_at = let begun = p.begun in omega (arith, begun, full)

  before : (n j : ℕ) → j < k → get_or (firsts ++ n ∷ []) (j / 128) 0 ≡ get_or firsts (j / 128) 0
  before n j lt = get_or_append_left firsts (n ∷ []) 0 (j / 128) (let at = begun_at in omega (arith, lt, at))

  len_more : (n : ℕ) → length (firsts ++ n ∷ []) ≡ length firsts + 1
  len_more n = length-append firsts (n ∷ [])

  last_more : (n : ℕ) → last_of (firsts ++ n ∷ []) ≡ n
  last_more n =
      let len = len_more n in
      let end : length (firsts ++ n ∷ []) - 1 ≡ length firsts = omega (arith, len) in
      ap (λ (i : ℕ). get_or (firsts ++ n ∷ []) i 0) end ∙ get_or-append_seam firsts n [] 0

  pub begins : (more : List ℕ) → more ≡ firsts ++ length some ∷ [] → Packs ts k marks more some
  begins more is =
      let n = length some in
      let begun = p.begun in
      let len = len_more n in
      let first = last_more n in
      let at = begun_at in
      rw is (record {
        count = p.count;
        begun = omega (arith, len, begun);
        last = omega (arith, len, at);
        low = omega (arith, first);
        room = omega (arith, first, len, at);
        there = λ j lt. rw (before n j lt) (p.there j lt);
        same = λ j lt. rw (before n j lt) (p.same j lt);
      })

  pub has_room : (more : List ℕ) → more ≡ firsts ++ length some ∷ [] → k < 128 * length more
  has_room more is = let len = ap length is ∙ len_more (length some) in let at = begun_at in omega (arith, len, at)

pub goes_on : (ts : List Target) (k : ℕ) (marks firsts : List ℕ) (some : List Target) → Packs ts k marks firsts some → length firsts ≢ k / 128 → k < 128 * length firsts
goes_on ts k marks firsts some p other = let begun = p.begun in omega (arith, begun, other)

-- one more target, that leads nowhere or somewhere
module _ (ts : List Target) (k : ℕ) (marks firsts : List ℕ) (some : List Target) (p : Packs ts k marks firsts some) (room : k < 128 * length firsts) where
  in_group : k / 128 ≡ length firsts - 1
  in_group = let last = p.last in omega (arith, last, room)

  pub few : length some < last_of firsts + 128
  few = let all = p.room in omega (arith, all, room)

  pub low : last_of firsts ≤ length some
  low = p.low

  old_mark : (mark j : ℕ) → j < k → get_or (marks ++ mark ∷ []) j 0 ≡ get_or marks j 0
  old_mark mark j lt = let count = p.count in get_or_append_left marks (mark ∷ []) 0 j (omega (arith, count, lt))

  new_mark : (mark : ℕ) → get_or (marks ++ mark ∷ []) k 0 ≡ mark
  new_mark mark = ap (λ (i : ℕ). get_or (marks ++ mark ∷ []) i 0) (sym p.count) ∙ get_or-append_seam marks mark [] 0

  len_marks : (mark : ℕ) → length (marks ++ mark ∷ []) ≡ k + 1
  len_marks mark = let count = p.count in let len = length-append marks (mark ∷ []) in omega (arith, count, len)

  -- what holds of the earlier targets, and of the next one, holds of all so far
  up_to : (P : ℕ → Type 0) → ((j : ℕ) → j < k → P j) → P k → (j : ℕ) → j < k + 1 → P j
  up_to P each here j lt = elim (cases_lt j k) [
    | inl less ↦ each j less
    | inr high ↦ let same : j ≡ k = omega (arith, lt, high) in rw same here
  ]

  pub nowhere : (more : List ℕ) → more ≡ marks ++ 0 ∷ [] → get_or ts k (0, 0) ≡ (0, 0) → Packs ts (k + 1) more firsts some
  nowhere more is at =
      let last = p.last in
      let room_now = p.room in
      let there : (j : ℕ) → j < k → IsThere some (get_or firsts (j / 128) 0) (get_or (marks ++ 0 ∷ []) j 0) = λ j lt. rw (old_mark 0 j lt) (p.there j lt) in
      let same : (j : ℕ) → j < k → look (marks ++ 0 ∷ []) firsts some j ≡ get_or ts j (0, 0) = λ j lt. rw (old_mark 0 j lt) (p.same j lt) in
      rw is (record {
        count = len_marks 0;
        begun = omega (arith, room);
        last = omega (arith, last);
        low = p.low;
        room = omega (arith, room_now);
        there = up_to (λ j. IsThere some (get_or firsts (j / 128) 0) (get_or (marks ++ 0 ∷ []) j 0)) there (rw (new_mark 0) (λ (lead : 0 < 0). absurd (omega (arith, lead))));
        same = up_to (λ j. look (marks ++ 0 ∷ []) firsts some j ≡ get_or ts j (0, 0)) same (rw (new_mark 0) (sym at));
      })

  pub somewhere : (more : List ℕ) (after : List Target) (t : Target) → more ≡ marks ++ (length some - last_of firsts + 1) ∷ [] → after ≡ some ++ t ∷ [] → get_or ts k (0, 0) ≡ t
      → Packs ts (k + 1) more firsts after
  somewhere more after t is after_is at =
      let mark = length some - last_of firsts + 1 in
      let low_now = p.low in
      let last = p.last in
      let room_now = p.room in
      let len : length (some ++ t ∷ []) ≡ length some + 1 = length-append some (t ∷ []) in
      let here : get_or firsts (k / 128) 0 ≡ last_of firsts = ap (λ (i : ℕ). get_or firsts i 0) in_group in
      let place : last_of firsts + (mark - 1) ≡ length some = omega (arith, low_now) in
      let marked : (mark == 0) ≡ false = ne_eqb mark 0 (omega arith) in
      let there : (j : ℕ) → j < k → IsThere (some ++ t ∷ []) (get_or firsts (j / 128) 0) (get_or (marks ++ mark ∷ []) j 0) =
      λ j lt. rw (old_mark mark j lt) (there_still some (t ∷ []) (get_or firsts (j / 128) 0) (get_or marks j 0) (p.there j lt)) in
      let same : (j : ℕ) → j < k → look (marks ++ mark ∷ []) firsts (some ++ t ∷ []) j ≡ get_or ts j (0, 0) =
      λ j lt. rw (old_mark mark j lt) (placed_still some (t ∷ []) (get_or firsts (j / 128) 0) (get_or marks j 0) (p.there j lt) ∙ p.same j lt) in
      let newest : placed (some ++ t ∷ []) (last_of firsts) mark ≡ t =
      rw marked (ap (λ (i : ℕ). get_or (some ++ t ∷ []) i (0, 0)) place ∙ get_or-append_seam some t [] (0, 0)) in
      rw (is, after_is) (record {
        count = len_marks mark;
        begun = omega (arith, room);
        last = omega (arith, last);
        low = omega (arith, len, low_now);
        room = omega (arith, len, room_now);
        there = up_to (λ j. IsThere (some ++ t ∷ []) (get_or firsts (j / 128) 0) (get_or (marks ++ mark ∷ []) j 0)) there
            (rw (new_mark mark, here) (λ (lead : 0 < mark). omega (arith, len, place)));
        same = up_to (λ j. look (marks ++ mark ∷ []) firsts (some ++ t ∷ []) j ≡ get_or ts j (0, 0)) same (rw (new_mark mark, here) (newest ∙ sym at));
      })

-- when all are packed they are the targets
pub all_packed : (ts : List Target) (k : ℕ) (marks firsts : List ℕ) (some : List Target) → Packs ts k marks firsts some → k ≡ length ts → unpacked_of marks firsts some ≡ ts
all_packed ts k marks firsts some p is =
    let count = p.count in
    let len = length-tabulate (look marks firsts some) 0 (length marks) in
    ext_get_or (0, 0) (unpacked_of marks firsts some) ts (omega (arith, len, count, is)) (λ i lt.
    let low : i < length marks = omega (arith, len, lt) in
    let below : i < k = omega (arith, count, low) in
    get_or-table (look marks firsts some) (length marks) i (0, 0) low ∙ p.same i below)

-- how many there are
pub length_unpacked : (marks firsts : List ℕ) (some : List Target) → length (unpacked_of marks firsts some) ≡ length marks
length_unpacked marks firsts some = length-tabulate (look marks firsts some) 0 (length marks)

-- a target by its index, (0, 0) past the last
pub unpacked_at : (marks firsts : List ℕ) (some : List Target) (i : ℕ) → get_or (unpacked_of marks firsts some) i (0, 0) ≡ look marks firsts some i
unpacked_at marks firsts some i =
    let len = length_unpacked marks firsts some in
    elim (cases_lt i (length marks)) [
      | inl low ↦ get_or-table (look marks firsts some) (length marks) i (0, 0) low
      | inr high ↦
          let none : get_or marks i 0 ≡ 0 = get_or_past marks i 0 high in
          get_or_past (unpacked_of marks firsts some) i (0, 0) (omega (arith, len, high)) ∙ sym (ap (λ (m : ℕ). placed some (get_or firsts (i / 128) 0) m) none)
    ]
