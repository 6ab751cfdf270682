-- What is known of records, as marks are added.
use Rattle.std.proofs.Common.{◌≡◌, ℕ, Bool, true, false, List, get_or, length, replicate, set, sym, ap, ◌∙◌, arith, inl, inr}
use Rattle.std.proofs.lemmas.List.{get_or-replicate, get_or_past, get_or-set_other, length-replicate}
use Rattle.std.proofs.lemmas.Bool.{cases_eq, cases_lt}
use Rattle.o2_ne.specs.declared.head.Head.{Head}
use Rattle.o2_ne.specs.declared.entries.Entry.{Entry}
use Rattle.o2_ne_segs.specs.Records.{reloc_at}
use Rattle.o2_image.specs.Known.{AreKnown}
use Rattle.o2_image.specs.Targets.{leads}

unmarked : (known : List Bool) (n : ℕ) → known ≡ replicate n false → (i : ℕ) → get_or known i false ≡ false
unmarked known n is i =
    let len : length known ≡ n = ap length is ∙ length-replicate n false in
    elim (cases_lt i n) [
      | inl lt ↦ ap (λ xs. get_or xs i false) is ∙ get_or-replicate n i false false lt
      | inr le ↦ get_or_past known i false (omega (arith, len, le))
    ]

-- without a mark nothing is known
pub none_known : (file : List ℕ) (h : Head) (es : List Entry) (known : List Bool) (n : ℕ) → known ≡ replicate n false → AreKnown file h es known
none_known file h es known n is = record {
  at = λ p held. absurd (let bad = sym (unmarked known n is p) ∙ held in cc);
}

-- one more is marked
pub one_more : (file : List ℕ) (h : Head) (es : List Entry) (known after : List Bool) (i : ℕ) → AreKnown file h es known
    → leads file h es (reloc_at file i) ≡ true → after ≡ set known i true → AreKnown file h es after
one_more file h es known after i are here is = record { at = at }
  where
    at : (p : ℕ) → get_or after p false ≡ true → leads file h es (reloc_at file p) ≡ true
    at p held = elim (cases_eq p i) [
      | inl same ↦ rw same here
      | inr other ↦ are.at p (sym (get_or-set_other known i p true false other) ∙ (ap (λ xs. get_or xs p false) (sym is) ∙ held))
    ]
