-- The lines of what came or went by a call, as far as a loop has come.
use Rattle.std.proofs.Common.{◌≡◌, false, ℕ, zero, suc, ◌+◌, ◌-◌, ◌<◌, ◌≤◌, List, [], ◌∷◌, ◌++◌, length, take, drop, get_or, Option, ap, subst, sym, ◌∙◌, refl, arith, append-nil, append_assoc, length-append}
use Rattle.std.proofs.lemmas.Grind.{flat_map-append}
use Rattle.std.proofs.lemmas.List.{length-replicate, take-append-drop, take_all}
use Rattle.std.proofs.lemmas.List.Folds.{length-flat_map-take}
use Rattle.std.proofs.Math.Seq.{take-suc}
use Rattle.std.specs.Prelude.{flat_map, replicate}
use Rattle.o2_outer.specs.declared.sink.Put.{Put}
use Rattle.o2_outer.specs.declared.sink.Put.TheVariants.{Done, Failed}
use Rattle.o2_outer.specs.Answers.{OnFailed}
use Rattle.o2_outer.specs.Texts.{Gains, GainsSome, IsPrefix}
use Rattle.o2_run.specs.Pieces.{FailsInLine}
use Rattle.o2_run.proofs.FailedLines.{fails_before, fails_behind, fails_first}
use Rattle.o2_world.specs.Rulings.{indexes}
use Rattle.o2_world.specs.Text.{line_text, lines_text}
use Rattle.o2_world.specs.World.{Line}
use Rattle.o2_gate.specs.declared.moves.Block.{Block}
use Rattle.o2_gate.specs.MovedLines.{AreInside, lines_at}

-- Of a list whose items have some lines each.
module _ {X : Type 0} (f : X → List Line) (xs : List X) (k : ℕ) (d : X) (less : k < length xs) where
  more : flat_map f (take (k + 1) xs) ≡ flat_map f (take k xs) ++ f (get_or xs k d)
  more =
      let next : k + 1 ≡ suc k = omega arith in
      ap (λ (n : ℕ). flat_map f (take n xs)) next
      ∙ ap (flat_map f) (take-suc xs k d less)
      ∙ flat_map-append f (take k xs) (get_or xs k d ∷ [])
      ∙ ap (λ (ls : List Line). flat_map f (take k xs) ++ ls) (append-nil (f (get_or xs k d)))

  pub text_more : lines_text (flat_map f (take (k + 1) xs)) ≡ lines_text (flat_map f (take k xs)) ++ lines_text (f (get_or xs k d))
  text_more = ap lines_text more ∙ flat_map-append line_text (flat_map f (take k xs)) (f (get_or xs k d))

  pub count_more : length (flat_map f (take (k + 1) xs)) ≡ length (flat_map f (take k xs)) + length (f (get_or xs k d))
  count_more = ap (λ (ls : List Line). length ls) more ∙ length-append (flat_map f (take k xs)) (f (get_or xs k d))

  whole : flat_map f xs ≡ flat_map f (take (k + 1) xs) ++ flat_map f (drop (k + 1) xs)
  whole = ap (flat_map f) (sym (take-append-drop (k + 1) xs)) ∙ flat_map-append f (take (k + 1) xs) (drop (k + 1) xs)

  pub text_split : lines_text (flat_map f xs) ≡ lines_text (flat_map f (take k xs)) ++ (lines_text (f (get_or xs k d)) ++ lines_text (flat_map f (drop (k + 1) xs)))
  text_split =
      ap lines_text whole
      ∙ flat_map-append line_text (flat_map f (take (k + 1) xs)) (flat_map f (drop (k + 1) xs))
      ∙ ap (λ (t : List ℕ). t ++ lines_text (flat_map f (drop (k + 1) xs))) text_more
      ∙ append_assoc (lines_text (flat_map f (take k xs))) (lines_text (f (get_or xs k d))) (lines_text (flat_map f (drop (k + 1) xs)))

  -- a line of this item failed
  pub item_fails : (r m q : Option (List ℕ)) (before mid now : ℕ) → Gains r m (lines_text (flat_map f (take k xs))) → mid ≡ before + length (flat_map f (take k xs))
      → FailsInLine (f (get_or xs k d)) m q mid now → FailsInLine (flat_map f xs) r q before now
  item_fails r m q before mid now put count fails =
      subst (λ (ls : List Line). FailsInLine ls r q before now) (sym (whole ∙ ap (λ (ls : List Line). ls ++ flat_map f (drop (k + 1) xs)) more))
      (fails_before (flat_map f (take k xs) ++ f (get_or xs k d)) (flat_map f (drop (k + 1) xs)) r q before now
      (fails_behind (flat_map f (take k xs)) (f (get_or xs k d)) r m q before mid now put count fails))

-- One line again and again.
pub times_split : (n k : ℕ) (l : Line) → k < n → lines_text (replicate n l) ≡ lines_text (replicate k l) ++ (lines_text (l ∷ []) ++ lines_text (replicate (n - (k + 1)) l))
times_split zero k l less = absurd (omega (arith, less))
times_split (suc n) zero l less =
    let rest : n ≡ suc n - (0 + 1) = omega arith in
    ap (λ (m : ℕ). line_text l ++ lines_text (replicate m l)) rest
    ∙ ap (λ (t : List ℕ). t ++ lines_text (replicate (suc n - (0 + 1)) l)) (sym (append-nil (line_text l)))
times_split (suc n) (suc k) l less =
    let rest : n - (k + 1) ≡ suc n - (suc k + 1) = omega arith in
    ap (λ (t : List ℕ). line_text l ++ t) (times_split n k l (omega (arith, less)))
    ∙ sym (append_assoc (line_text l) (lines_text (replicate k l)) (lines_text (l ∷ []) ++ lines_text (replicate (n - (k + 1)) l)))
    ∙ ap (λ (m : ℕ). lines_text (replicate (suc k) l) ++ (lines_text (l ∷ []) ++ lines_text (replicate m l))) rest

times_list : (n k : ℕ) (l : Line) → k < n → replicate n l ≡ replicate k l ++ (l ∷ replicate (n - (k + 1)) l)
times_list zero k l less = absurd (omega (arith, less))
times_list (suc n) zero l less = let rest : n ≡ suc n - (0 + 1) = omega arith in ap (λ (m : ℕ). l ∷ replicate m l) rest
times_list (suc n) (suc k) l less =
    let rest : n - (k + 1) ≡ suc n - (suc k + 1) = omega arith in
    ap (λ (ls : List Line). l ∷ ls) (times_list n k l (omega (arith, less)))
    ∙ ap (λ (m : ℕ). replicate (suc k) l ++ (l ∷ replicate m l)) rest

-- one of them failed
pub times_fails : (n k : ℕ) (l : Line) → k < n → (r m q : Option (List ℕ)) (before mid now : ℕ) → Gains r m (lines_text (replicate k l)) → mid ≡ before + k
    → GainsSome m q (λ front. IsPrefix front (lines_text (l ∷ []))) → now ≡ mid + 1 → FailsInLine (replicate n l) r q before now
times_fails n k l less r m q before mid now put count front one =
    subst (λ (ls : List Line). FailsInLine ls r q before now) (sym (times_list n k l less))
    (fails_behind (replicate k l) (l ∷ replicate (n - (k + 1)) l) r m q before mid now put (count ∙ ap (λ (i : ℕ). before + i) (sym (length-replicate k l)))
    (fails_first l (replicate (n - (k + 1)) l) m q mid now front one))

-- the first line failed, or one behind it
pub reply_fails : (l : Line) (rest : List Line) (r m q : Option (List ℕ)) (before mid now : ℕ) (p : Put) → Gains r m (lines_text (l ∷ [])) → mid ≡ before + 1
    → OnFailed p (FailsInLine rest m q mid now) → OnFailed p (FailsInLine (l ∷ rest) r q before now)
reply_fails l rest r m q before mid now Done put one h = tt
reply_fails l rest r m q before mid now Failed put one h = fails_behind (l ∷ []) rest r m q before mid now put one h

-- The indexes of a block.
pub indexes_length : (first n : ℕ) → length (indexes first n) ≡ n
indexes_length first zero = refl
indexes_length first (suc n) = ap suc (indexes_length (first + 1) n)

pub index_at : (first n k : ℕ) → k < n → get_or (indexes first n) k 0 ≡ first + k
index_at first zero k less = absurd (omega (arith, less))
index_at first (suc n) zero less = omega arith
index_at first (suc n) (suc k) less = index_at (first + 1) n k (omega (arith, less)) ∙ omega arith

-- what stands for an item behind the last one
abbrev pub no_block : Block
no_block = record { process = 0; index = 0; count = 0; holds = 0; came = false }

-- each block of a list lies in the table
pub inside_at : (bs : List Block) (k : ℕ) (d : Block) → AreInside bs → k < length bs → (get_or bs k d).index + (get_or bs k d).count ≤ 8192
inside_at [] k d all less = absurd (omega (arith, less))
inside_at (b ∷ bs) zero d all less = all.0
inside_at (b ∷ bs) (suc k) d all less = inside_at bs k d all.1 (omega (arith, less))

-- The lines of a block, one index more.
module _ (cause : List ℕ) (b : Block) (k : ℕ) (less : k < b.count) where
  abbrev pub is : List ℕ
  is = indexes b.index b.count

  within : k < length is
  within = let e = indexes_length b.index b.count in omega (arith, e, less)

  at : get_or is k 0 ≡ b.index + k
  at = index_at b.index b.count k less

  pub block_more : lines_text (flat_map (lines_at cause b) (take (k + 1) is)) ≡ lines_text (flat_map (lines_at cause b) (take k is)) ++ lines_text (lines_at cause b (b.index + k))
  block_more =
      text_more (lines_at cause b) is k 0 within
      ∙ ap (λ (i : ℕ). lines_text (flat_map (lines_at cause b) (take k is)) ++ lines_text (lines_at cause b i)) at

  pub block_split : lines_text (flat_map (lines_at cause b) is) ≡ lines_text (flat_map (lines_at cause b) (take k is)) ++ (lines_text (lines_at cause b (b.index + k)) ++ lines_text (flat_map (lines_at cause b) (drop (k + 1) is)))
  block_split =
      text_split (lines_at cause b) is k 0 within
      ∙ ap (λ (i : ℕ). lines_text (flat_map (lines_at cause b) (take k is)) ++ (lines_text (lines_at cause b i) ++ lines_text (flat_map (lines_at cause b) (drop (k + 1) is)))) at

  pub block_fails : (r m q : Option (List ℕ)) (before mid now : ℕ) → Gains r m (lines_text (flat_map (lines_at cause b) (take k is))) → mid ≡ before + length (flat_map (lines_at cause b) (take k is))
      → FailsInLine (lines_at cause b (b.index + k)) m q mid now → FailsInLine (flat_map (lines_at cause b) is) r q before now
  block_fails r m q before mid now put count fails =
      item_fails (lines_at cause b) is k 0 within r m q before mid now put count (subst (λ (i : ℕ). FailsInLine (lines_at cause b i) m q mid now) (sym at) fails)

  pub block_count : length (flat_map (lines_at cause b) (take (k + 1) is)) ≡ length (flat_map (lines_at cause b) (take k is)) + length (lines_at cause b (b.index + k))
  block_count =
      count_more (lines_at cause b) is k 0 within
      ∙ ap (λ (i : ℕ). length (flat_map (lines_at cause b) (take k is)) + length (lines_at cause b i)) at

  pub block_within : length (flat_map (lines_at cause b) (take k is)) + length (lines_at cause b (b.index + k)) ≤ length (flat_map (lines_at cause b) is)
  block_within =
      subst (λ (i : ℕ). length (flat_map (lines_at cause b) (take k is)) + length (lines_at cause b i) ≤ length (flat_map (lines_at cause b) is)) at
      (length-flat_map-take (lines_at cause b) is k 0 within)

-- all of them
pub block_whole : (cause : List ℕ) (b : Block) (k : ℕ) → b.count ≤ k → flat_map (lines_at cause b) (take k (indexes b.index b.count)) ≡ flat_map (lines_at cause b) (indexes b.index b.count)
block_whole cause b k most =
    ap (flat_map (lines_at cause b)) (take_all k (indexes b.index b.count) (let e = indexes_length b.index b.count in omega (arith, e, most)))
