-- What is left of segments that leave the memory.
use Rattle.std.proofs.Common.{◌≡◌, ◌≢◌, ◌⊎◌, inl, inr, ℕ, ◌+◌, ◌-◌, ◌<◌, List, length, get_or, set, Option, Some, None, is_some, IsSome, true, false, refl, sym, ap, ◌∙◌, subst, arith}
use Rattle.std.proofs.lemmas.Bool.{cases_eq}
use Rattle.o2_entries.specs.declared.Entry.{Entry}
use Rattle.o2_entries.specs.declared.Attr.{Attr}
use Rattle.o2_entries.specs.Tables.{slot_at}
use Rattle.o2_place.specs.Layout.{Changes}
use Rattle.o2_store.specs.Shelf.{Shelf, SameTables, entry, entry_or, place_of}
use Rattle.o2_store.specs.Leaving.{IsWrittenOut, WritesOut, Evicts}
use Rattle.o2_store.proofs.Tables.{place-same, place-other, slot-set_same}
use Rattle.o2_store.proofs.Keeping.{same_at}

pub some_not_none : (o : Option (ℕ × ℕ)) → IsSome o → o ≡ None → ⊥
some_not_none o i n = let f : false ≡ true = sym (ap is_some n) ∙ i in cc

-- presence as a case
pub by_presence : (o : Option (ℕ × ℕ)) → (o ≡ None) ⊎ IsSome o
by_presence None = inl refl
by_presence (Some r) = inr refl

-- what stays in memory and what was out of it don't matter
pub out_transfer : (s t u : Shelf) (k : ℕ) → slot_at u.entries k ≡ slot_at t.entries k → IsWrittenOut s t k → IsWrittenOut s u k
out_transfer s t u k slot w = record {
  image = ap (λ (o : Option Entry). (entry_or o).image) slot ∙ w.image;
  last = λ at len e l. (let q : (entry u k).kept ≡ (entry t k).kept = ap (λ (o : Option Entry). (entry_or o).kept) slot in
      let m : 0 < (entry t k).kept = omega (arith, q, l) in
      λ z. w.last at len e m (ap (λ (n : ℕ). get_or s.memory (at + (n - 1)) 0) (sym q) ∙ z));
}

pub evicts_refl : (s : Shelf) → Evicts s s
evicts_refl s = record { memory = refl; places = λ k i. refl; entries = λ k e. refl; written = λ k i n c. absurd (some_not_none (place_of s k) i n) }

pub stays_out : (s t : Shelf) (k : ℕ) → Evicts s t → place_of s k ≡ None → place_of t k ≡ None
stays_out s t k v e = elim (by_presence (place_of t k)) [ inl n ↦ n | inr i ↦ v.places k i ∙ e ]

pub evicts_trans : (s t u : Shelf) → SameTables s t → Evicts s t → Evicts t u → Evicts s u
evicts_trans s t u same p q = record {
  memory = q.memory ∙ p.memory;
  places = λ k i. (let e = q.places k i in let j : IsSome (place_of t k) = sym (ap is_some e) ∙ i in e ∙ p.places k j);
  entries = λ k e. q.entries k (stays_out s t k p e) ∙ p.entries k e;
  written = λ k i n c. elim (by_presence (place_of t k)) [
    | inl out ↦ out_transfer s t u k (q.entries k out) (p.written k i out c)
    | inr here ↦
        (let r = q.written k here n (ap (λ (a : Attr). a.clean) (same.same k).attr ∙ c) in
        let e : place_of t k ≡ place_of s k = p.places k here in
        record {
          image = r.image;
          last = λ at len f l z. r.last at len (e ∙ f) l (ap (λ (xs : List ℕ). get_or xs (at + ((entry u k).kept - 1)) 0) p.memory ∙ z);
        })
  ];
}

-- one segment leaves the memory
pub leaves : (s t : Shelf) (key : ℕ) → t.memory ≡ s.memory → Changes s.places t.places key None → ((k : ℕ) → k ≢ key → slot_at t.entries k ≡ slot_at s.entries k) → IsSome (place_of s key)
    → ((entry s key).attr.clean ≡ false → IsWrittenOut s t key) → Evicts s t
leaves s t key memory c slots placed written = record {
  memory = memory;
  places = λ k i. place-other s.places t.places key k None c (λ e. some_not_none (place_of t k) i (ap (place_of t) e ∙ place-same s.places t.places key None c));
  entries = λ k n. slots k (λ e. some_not_none (place_of s key) placed (ap (place_of s) (sym e) ∙ n));
  written = λ k i n clean. elim (cases_eq k key) [
    | inl e ↦ subst (λ (x : ℕ). IsWrittenOut s t x) (sym e) (written (subst (λ (x : ℕ). (entry s x).attr.clean ≡ false) e clean))
    | inr d ↦ absurd (some_not_none (place_of s k) i (sym (place-other s.places t.places key k None c d) ∙ n))
  ];
}

-- a segment whose blocks keep its bytes up to the last one that isn't zero
pub written_is : (s t : Shelf) (key at len kept : ℕ) → key < length s.entries → t.entries ≡ set s.entries key (Some (record (entry s key) { kept = kept; image = None }))
    → place_of s key ≡ Some (at, len) → (0 < kept → get_or s.memory (at + (kept - 1)) 0 ≢ 0) → IsWrittenOut s t key
written_is s t key at len kept l entries place last =
    let f : Entry = record (entry s key) { kept = kept; image = None } in
    let slot : slot_at t.entries key ≡ Some f = rw entries (slot-set_same s.entries key (Some f) l) in
    record {
      image = ap (λ (o : Option Entry). (entry_or o).image) slot;
      last = λ to n e m z. (let k : (entry t key).kept ≡ kept = ap (λ (o : Option Entry). (entry_or o).kept) slot in
          let a : at ≡ to = same_at at len to n (sym place ∙ e) in
          last (omega (arith, k, m)) (ap (λ (x : ℕ). get_or s.memory (x + (kept - 1)) 0) a ∙ ap (λ (x : ℕ). get_or s.memory (to + (x - 1)) 0) (sym k) ∙ z));
    }

-- a segment comes in, and none leaves
pub written_in : (s t u : Shelf) → WritesOut s t → u.entries ≡ t.entries → ((k : ℕ) → IsSome (place_of t k) → IsSome (place_of u k)) → WritesOut s u
written_in s t u w entries stay k i n c = elim (by_presence (place_of t k)) [
  | inl out ↦ out_transfer s t u k (ap (λ (es : List (Option Entry)). slot_at es k) entries) (w k i out c)
  | inr here ↦ absurd (some_not_none (place_of u k) (stay k here) n)
]

-- the numbers of a call don't matter
pub keys_written : (s t u : Shelf) → t ≡ record s { keys = t.keys } → WritesOut t u → WritesOut s u
keys_written s t u e w k i n c =
    let q : WritesOut (record s { keys = t.keys }) u = subst (λ (x : Shelf). WritesOut x u) e w in
    let r = q k i n c in
    record { image = r.image; last = r.last }

-- segments leave, and then one gets a size
pub written_after : (s t u : Shelf) (key : ℕ) → Evicts s t → ((k : ℕ) → is_some (place_of u k) ≡ is_some (place_of t k)) → ((k : ℕ) → k ≢ key → slot_at u.entries k ≡ slot_at t.entries k)
    → (k : ℕ) → k ≢ key → IsSome (place_of s k) → place_of u k ≡ None → (entry s k).attr.clean ≡ false → IsWrittenOut s u k
written_after s t u key v presence slots k d i n c = elim (by_presence (place_of t k)) [
  | inl out ↦ out_transfer s t u k (slots k d) (v.written k i out c)
  | inr here ↦ absurd (some_not_none (place_of u k) (presence k ∙ here) n)
]
