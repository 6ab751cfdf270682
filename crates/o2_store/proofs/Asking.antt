-- Which swap blocks are asked for.
use Rattle.std.proofs.Common.{◌≡◌, ℕ, ◌+◌, ◌<◌, ◌≤◌, Bool, List, [], ◌∷◌, ◌++◌, length, take, get_or, IsSome, sym, ap, ◌∙◌, refl, arith}
use Rattle.std.specs.List.{filter}
use Rattle.std.proofs.lemmas.List.{append-nil, append_assoc, take_all}
use Rattle.std.proofs.lemmas.List.Elements.{filter_agree, filter_more}
use Rattle.o2_entries.specs.Tables.{slot_at}
use Rattle.o2_swapmap.specs.Piles.{blocks_of}
use Rattle.o2_store.specs.Asked.{AsksFor}
use Rattle.o2_store.specs.Shelf.{Shelf, IsShelf, entry}
use Rattle.o2_store.proofs.Tables.{within_at}

-- one more of an owner's blocks, by a device that knows the same ones as at first
pub asked_more : (known now : ℕ → Bool) (owned before mid after : List ℕ) (k b : ℕ) → k < length owned → b ≡ get_or owned k 0 → ((n : ℕ) → now n ≡ known n)
    → mid ≡ before ++ filter known (take k owned) → after ≡ mid ++ filter now (b ∷ []) → after ≡ before ++ filter known (take (k + 1) owned)
asked_more known now owned before mid after k b l e alike same more =
    more ∙ ap (λ (xs : List ℕ). mid ++ xs) (filter_agree now known alike (b ∷ []) ∙ ap (λ (x : ℕ). filter known (x ∷ [])) e)
    ∙ ap (λ (xs : List ℕ). xs ++ filter known (get_or owned k 0 ∷ [])) same
    ∙ append_assoc before (filter known (take k owned)) (filter known (get_or owned k 0 ∷ []))
    ∙ ap (λ (xs : List ℕ). before ++ xs) (sym (filter_more known owned k 0 l))

pub asked_none : (known : ℕ → Bool) (owned before : List ℕ) → before ≡ before ++ filter known (take 0 owned)
asked_none known owned before = sym (append-nil before)

-- so many of them, by a device that knows the same ones at last
pub asked_first : {done : Type 0} (known last : ℕ → Bool) (owned before after : List ℕ) (k : ℕ) → ((n : ℕ) → last n ≡ known n) → (done → length owned ≤ k)
    → after ≡ before ++ filter known (take k owned) → AsksFor last owned before after done
asked_first known last owned before after k alike l same = record {
  count = k;
  asked = same ∙ ap (λ (xs : List ℕ). before ++ xs) (sym (filter_agree last known alike (take k owned)));
  all = λ d. take_all k owned (l d);
}

-- none, where nothing was asked for
pub asks_nothing : (known : ℕ → Bool) (owned before after : List ℕ) (done : Type 0) → after ≡ before → (done → owned ≡ []) → AsksFor known owned before after done
asks_nothing known owned before after done same none = record { count = 0; asked = same ∙ asked_none known owned before; all = λ d. sym (none d) }

-- behind calls that ask for none, of an owner whose blocks stay
pub asks_behind : (known : ℕ → Bool) (owned blocks before mid after : List ℕ) (done wanted : Type 0) → blocks ≡ owned → mid ≡ before → (wanted → done)
    → AsksFor known blocks mid after done → AsksFor known owned before after wanted
asks_behind known owned blocks before mid after done wanted same still by a = record {
  count = a.count;
  asked = a.asked ∙ ap (λ (xs : List ℕ). xs ++ filter known (take a.count blocks)) still ∙ ap (λ (xs : List ℕ). before ++ filter known (take a.count xs)) same;
  all = λ t. ap (λ (xs : List ℕ). take a.count xs) (sym same) ∙ a.all (by t) ∙ same;
}

nothing_long : (xs : List ℕ) → length xs ≡ 0 → xs ≡ []
nothing_long [] e = refl
nothing_long (x ∷ xs) e = absurd (omega (arith, e))

-- a segment that comes from an image has no block
pub none_owned : (s : Shelf) (key : ℕ) → IsShelf s → IsSome (slot_at s.entries key) → IsSome (entry s key).image → blocks_of s.swap key ≡ []
none_owned s key h live i = nothing_long (blocks_of s.swap key) ((h.each key (within_at s.entries key live)).pure i)
