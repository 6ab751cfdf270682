-- What segments over the same bytes share: whether their records pass, and what the file has of them.
use Rattle.std.proofs.Common.{◌≡◌, ℕ, zero, suc, ◌+◌, ◌<◌, ◌≤◌, ◌&&◌, ◌||◌, ◌==◌, Bool, true, false, not, List, [], ◌∷◌, get_or, length, Result, Ok, Err, refl, sym, ◌∙◌, arith, subst, take}
use Rattle.std.specs.Prelude.{if◌then◌else◌, nat_le, replicate, OnOk}
use Rattle.std.specs.List.{list_any}
use Rattle.std.proofs.lemmas.Bool.{eqb-true}
use Rattle.std.proofs.lemmas.List.{get_or-take, length-take-le}
use Rattle.o2_base.specs.declared.faults.ModuleFault.{ModuleFault}
use Rattle.o2_base.specs.declared.memory.Fail.{Fail}
use Rattle.o2_ne.specs.declared.head.Head.{Head}
use Rattle.o2_ne.specs.declared.entries.Entry.{Entry}
use Rattle.o2_ne.specs.Checks.{all_hold, or_fault, ◌>>=◌}
use Rattle.o2_ne.specs.Steps.{Gives, over, steps}
use Rattle.o2_ne.specs.Words.{word_at}
use Rattle.o2_ne.proofs.Binding.{bind_ok}
use Rattle.o2_ne_segs.specs.declared.reloc.Reloc.{Reloc}
use Rattle.o2_ne_segs.specs.declared.segment.Segment.{Segment}
use Rattle.o2_ne_segs.specs.Records.{counted, relocs_in}
use Rattle.o2_image.specs.Alike.{Passes, is_alike}
use Rattle.o2_image.specs.Chains.{Marks, Walk, any_patched, chain, chain_step, single}
use Rattle.o2_image.specs.Faults.{under_seg}
use Rattle.o2_image.specs.Records.{Checking, bytes_of, has_one_place, marks_after, record_step, segment_step}
use Rattle.o2_image.specs.Targets.{has_target, is_fixup, is_source, width_of}
use Rattle.o2_image.specs.Whole.{HasSegment}

-- what passes in the one passes in the other
abbrev Same : {X F : Type 0} → Result X F → Result X F → Type 0
Same {X} r q = (x : X) → r ≡ Ok x → q ≡ Ok x

bind_same : {A B F : Type 0} (r q : Result A F) (f g : A → Result B F) → Same r q → ((a : A) → Same (f a) (g a)) → Same (r >>= f) (q >>= g)
bind_same r q f g same next y h =
    let one = bind_ok r f y h in
    let there = same one.0 one.1 in
    rw there (next one.0 y one.2)

over_same : {X S F : Type 0} (f g : X → S → Result S F) → ((x : X) (s : S) → Same (f x s) (g x s)) → (xs : List X) (s : S) → Same (over f xs s) (over g xs s)
unfolding over
over_same f g same [] s y h = h
over_same f g same (x ∷ xs) s y h = bind_same (f x s) (g x s) (over f xs) (over g xs) (same x s) (over_same f g same xs) y h

steps_same : {S F : Type 0} (f g : S → Result S F) → ((s : S) → Same (f s) (g s)) → (n : ℕ) (s : S) → Same (steps f n s) (steps g n s)
unfolding steps
steps_same f g same zero s y h = h
steps_same f g same (suc n) s y h = bind_same (f s) (g s) (steps f n) (steps g n) (same s) (steps_same f g same n) y h

one_check : {F : Type 0} (b : Bool) (e d : F) → Same (all_hold (or_fault b e ∷ [])) (all_hold (or_fault b d ∷ []))
one_check true e d x h = h
one_check false e d x h = absurd cc

two_checks : {F : Type 0} (a b : Bool) (e d f g : F) → Same (all_hold (or_fault a e ∷ or_fault b f ∷ [])) (all_hold (or_fault a d ∷ or_fault b g ∷ []))
two_checks true true e d f g x h = h
two_checks true false e d f g x h = absurd cc
two_checks false b e d f g x h = absurd cc

refl_same : {X F : Type 0} (r : Result X F) → Same r r
refl_same r x h = h

module _ (seg other : ℕ) (bytes : List ℕ) where
  single_same : (width p : ℕ) (marks : Marks) → Same (single seg bytes width p marks) (single other bytes width p marks)
  single_same width p marks =
      bind_same _ _ _ _ (two_checks (nat_le (p + width) (length bytes)) (not (any_patched marks p width)) _ _ _ _) (λ a. refl_same _)

  step_same : (width : ℕ) (w : Walk) → Same (chain_step seg bytes width w) (chain_step other bytes width w)
  unfolding chain_step
  step_same width w = go w.ended
    where
      go : (b : Bool) → Same (if b then Ok w else (single seg bytes width w.next w.marks >>= (λ (m : Marks). Ok (record { marks = m; next = word_at bytes w.next; ended = word_at bytes w.next == 65535 }))))
          (if b then Ok w else (single other bytes width w.next w.marks >>= (λ (m : Marks). Ok (record { marks = m; next = word_at bytes w.next; ended = word_at bytes w.next == 65535 }))))
      go true = refl_same _
      go false = bind_same _ _ _ _ (single_same width w.next w.marks) (λ a. refl_same _)

  chain_same : (width p : ℕ) (marks : Marks) → Same (chain seg bytes width p marks) (chain other bytes width p marks)
  unfolding chain
  chain_same width p marks =
      bind_same _ _ _ _ (steps_same _ _ (step_same width) 65536 (record { marks = marks; next = p; ended = false })) (λ a. refl_same _)

  marks_same : (r : Reloc) (marks : Marks) → Same (marks_after seg bytes r marks) (marks_after other bytes r marks)
  marks_same r marks = go (is_fixup r) (has_one_place r)
    where
      go : (a b : Bool) → Same (if a then Ok marks else (if b then single seg bytes (width_of r.source) r.place marks else chain seg bytes (width_of r.source) r.place marks))
          (if a then Ok marks else (if b then single other bytes (width_of r.source) r.place marks else chain other bytes (width_of r.source) r.place marks))
      go true b = refl_same _
      go false true = single_same (width_of r.source) r.place marks
      go false false = chain_same (width_of r.source) r.place marks

  record_same : (file : List ℕ) (h : Head) (es : List Entry) (r : Reloc) (c : Checking) → Same (record_step file h es seg bytes r c) (record_step file h es other bytes r c)
  unfolding record_step
  record_same file h es r c =
      bind_same _ _ _ _ (one_check (is_source r.source && has_target file h es r) _ _) (λ a. bind_same _ _ _ _ (marks_same r c.marks) (λ b. refl_same _))

-- a segment's records pass whatever its number
pub passes_all : (file : List ℕ) (h : Head) (es : List Entry) (s : Segment) (seg x : ℕ) → segment_step file h es s seg ≡ Ok x → Passes file h es s
unfolding segment_step
passes_all file h es s seg x e n =
    let start : Checking = record { marks = replicate s.file_len false; number = 0 } in
    let one = bind_ok (under_seg (counted file s)) (λ c. over (record_step file h es seg (bytes_of file s)) (relocs_in file s) start >>= (λ d. Ok (seg + 1))) x e in
    let two = bind_ok (over (record_step file h es seg (bytes_of file s)) (relocs_in file s) start) (λ d. Ok (seg + 1)) x one.2 in
    let same = over_same (record_step file h es seg (bytes_of file s)) (record_step file h es n (bytes_of file s)) (record_same seg n (bytes_of file s) file h es) (relocs_in file s) start two.0 two.1 in
    rw (one.1, same) refl

-- a check that passed, whatever the number
pub passes_given : (file : List ℕ) (h : Head) (es : List Entry) (s : Segment) (seg : ℕ) (r : Result (Unit {0}) (Fail ModuleFault)) → Gives (λ u. seg + 1) r (segment_step file h es s seg)
    → OnOk r (Passes file h es s)
passes_given file h es s seg (Ok u) e = passes_all file h es s seg (seg + 1) e
passes_given file h es s seg (Err f) e = tt

record Alike (a b : Segment) : Type 0 where
  first : a.relocs ≡ true
  second : b.relocs ≡ true
  at : a.file_at ≡ b.file_at
  len : a.file_len ≡ b.file_len

parts : (a b : Bool) → (a && b) ≡ true → (a ≡ true) × (b ≡ true)
parts true b h = (refl, h)
parts false b h = absurd cc

alike : (a b : Segment) → is_alike a b ≡ true → Alike a b
alike a b h =
    let one = parts (a.relocs && b.relocs && a.file_at == b.file_at) (a.file_len == b.file_len) h in
    let two = parts (a.relocs && b.relocs) (a.file_at == b.file_at) one.0 in
    let three = parts a.relocs b.relocs two.0 in
    record {
      first = three.0;
      second = three.1;
      at = eqb-true _ _ two.1;
      len = eqb-true _ _ one.1;
    }

abbrev Found : {X : Type 0} → (X → Bool) → X → List X → Type 0
Found p d xs = (k : ℕ) × (k < length xs) × (p (get_or xs k d) ≡ true)

found : {X : Type 0} (p : X → Bool) (xs : List X) (d : X) → list_any p xs ≡ true → Found p d xs
found p [] d h = absurd cc
found p (x ∷ xs) d h = go (p x) refl (found p xs d) h
  where
    go : (b : Bool) → p x ≡ b → (list_any p xs ≡ true → Found p d xs) → (b || list_any p xs) ≡ true → Found p d (x ∷ xs)
    go true e rest q = (0, omega arith, e)
    go false e rest q = let r = rest q in (suc r.0, omega (arith, r.1), r.2)

step_is : (file : List ℕ) (h : Head) (es : List Entry) (a b : Segment) (n : ℕ) → Alike a b → segment_step file h es b n ≡ segment_step file h es a n
unfolding segment_step
step_is file h es a b n like = rw (like.first, like.second, like.at, like.len) refl

-- one that is alike passes too
pub alike_passes : (file : List ℕ) (h : Head) (es : List Entry) (earlier : List Segment) (s : Segment) → ((k : ℕ) (d : Segment) → k < length earlier → Passes file h es (get_or earlier k d))
    → list_any (λ e. is_alike e s) earlier ≡ true → Passes file h es s
alike_passes file h es earlier s passed any n =
    let at = found (λ e. is_alike e s) earlier s any in
    let like = alike (get_or earlier at.0 s) s at.2 in
    step_is file h es (get_or earlier at.0 s) s n like ∙ passed at.0 s at.1 n

has : (file : List ℕ) (a b : Segment) → Alike a b → HasSegment file a → HasSegment file b
has file a b like h = record {
  bytes = rw (← like.at, ← like.len) h.bytes;
  count = λ t. rw (← like.at, ← like.len) (h.count like.first);
  relocs = rw (← like.at, ← like.len, like.second) (rw like.first at h.relocs);
  places = rw (← like.at, ← like.len, like.second) (rw like.first at h.places);
}

-- and the file has its records
pub alike_has : (file : List ℕ) (earlier : List Segment) (s : Segment) → ((k : ℕ) (d : Segment) → k < length earlier → HasSegment file (get_or earlier k d))
    → list_any (λ e. is_alike e s) earlier ≡ true → HasSegment file s
alike_has file earlier s whole any =
    let at = found (λ e. is_alike e s) earlier s any in
    has file (get_or earlier at.0 s) s (alike (get_or earlier at.0 s) s at.2) (whole at.0 s at.1)

-- what holds of those before index i, of the front that they make
pub of_front : {X : Type 0} (P : X → Type 0) (xs : List X) (i : ℕ) → i ≤ length xs → ((k : ℕ) (d : X) → k < i → P (get_or xs k d))
    → (k : ℕ) (d : X) → k < length (take i xs) → P (get_or (take i xs) k d)
of_front P xs i le h k d lt =
    let len = length-take-le i xs le in
    let low : k < i = omega arith in
    subst P (sym (get_or-take i xs k d low)) (h k d low)
