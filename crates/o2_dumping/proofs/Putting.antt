-- How a text is put in parts, and what a device keeps that is read.
use Rattle.std.proofs.Common.{◌≡◌, ℕ, ◌+◌, ◌≤◌, List, [], ◌++◌, Option, Bool, ◌-◌, ◌^◌, min, refl, sym, ap, ◌∙◌, append_assoc, append-nil, subst, arith}
use Rattle.o2_outer.specs.declared.sink.Put.{Put}
use Rattle.o2_outer.specs.declared.sink.Put.TheVariants as put
use Rattle.o2_outer.specs.Texts.{Gains, GainsSome, IsPrefix}
use Rattle.o2_outer.specs.Answers.{Takes}
use Rattle.o2_outer.proofs.TextLemmas.{gains_none, puts_more, puts_second}
use Rattle.o2_dumping.specs.declared.parts.Wrote.{Wrote}
use Rattle.o2_dumping.specs.declared.parts.Wrote.TheVariants.{Done, SinkFault, SwapFault}
use Rattle.o2_dumping.specs.Puts.{Caused, HasCauses, IsPutBut, IsRead, Writes}

-- ---- a text

pub none_put : (a : Option (List ℕ)) (whole : List ℕ) → IsPutBut a a whole whole
none_put a whole = record { so_far = []; gains = gains_none a; splits = refl }

-- the next part was put
pub more_put : (a b c : Option (List ℕ)) (whole left part rest : List ℕ) → IsPutBut a b whole left → left ≡ part ++ rest → Gains b c part → IsPutBut a c whole rest
more_put a b c whole left part rest h e g = record {
  so_far = h.so_far ++ part;
  gains = puts_more h.so_far part a b c put.Done h.gains g;
  splits = h.splits ∙ (ap (λ (z : List ℕ). h.so_far ++ z) e ∙ sym (append_assoc h.so_far part rest));
}

-- a front of it was put
pub front_put : (a b c : Option (List ℕ)) (whole left part rest : List ℕ) → IsPutBut a b whole left → left ≡ part ++ rest
    → GainsSome b c (λ front. IsPrefix front part) → GainsSome a c (λ front. IsPrefix front whole)
front_put a b c whole left part rest h e g =
    let splits : h.so_far ++ (part ++ rest) ≡ whole = sym (h.splits ∙ ap (λ (z : List ℕ). h.so_far ++ z) e) in
    subst (λ (w : List ℕ). GainsSome a c (λ front. IsPrefix front w)) splits (puts_second h.so_far part rest a b c h.gains g)

-- all was put
pub all_put : (a b : Option (List ℕ)) (whole left : List ℕ) → IsPutBut a b whole left → left ≡ [] → Gains a b whole
all_put a b whole left h e =
    subst (λ (w : List ℕ). Gains a b w) (sym (h.splits ∙ (ap (λ (z : List ℕ). h.so_far ++ z) e ∙ append-nil h.so_far))) h.gains

-- the last part, by the answer of its put
pub last_put : (a b c : Option (List ℕ)) (whole part : List ℕ) (r : Put) → IsPutBut a b whole part → Takes b c part r → Takes a c whole r
last_put a b c whole part put.Done h g = all_put a c whole [] (more_put a b c whole part part [] h (sym (append-nil part)) g) refl
last_put a b c whole part put.Failed h g = front_put a b c whole part part [] h (sym (append-nil part)) g

-- the same of a part that may want the device
pub last_written : (a b c : Option (List ℕ)) (whole part : List ℕ) (r : Wrote) → IsPutBut a b whole part → Writes b c part r → Writes a c whole r
last_written a b c whole part Done h g = last_put a b c whole part put.Done h g
last_written a b c whole part SinkFault h g = last_put a b c whole part put.Failed h g
last_written a b c whole part SwapFault h g = last_put a b c whole part put.Failed h g

-- a part that wasn't put whole
pub part_written : (a b c : Option (List ℕ)) (whole left part rest : List ℕ) (r : Wrote) → (r ≡ Done → ⊥) → IsPutBut a b whole left → left ≡ part ++ rest
    → Writes b c part r → Writes a c whole r
part_written a b c whole left part rest Done n h e g = absurd (n refl)
part_written a b c whole left part rest SinkFault n h e g = front_put a b c whole left part rest h e g
part_written a b c whole left part rest SwapFault n h e g = front_put a b c whole left part rest h e g

-- a first part, and what follows it
pub first_front : (a b : Option (List ℕ)) (whole part rest : List ℕ) → whole ≡ part ++ rest → GainsSome a b (λ front. IsPrefix front part)
    → GainsSome a b (λ front. IsPrefix front whole)
first_front a b whole part rest e g = front_put a a b whole whole part rest (none_put a whole) e g

pub then_rest : (a b c : Option (List ℕ)) (whole part rest : List ℕ) (r : Put) → whole ≡ part ++ rest → Gains a b part → Takes b c rest r → Takes a c whole r
then_rest a b c whole part rest r e g h = last_put a b c whole rest r (more_put a a b whole whole part rest (none_put a whole) e g) h

pub then_written : (a b c : Option (List ℕ)) (whole part rest : List ℕ) (r : Wrote) → whole ≡ part ++ rest → Gains a b part → Writes b c rest r → Writes a c whole r
then_written a b c whole part rest r e g h = last_written a b c whole rest r (more_put a a b whole whole part rest (none_put a whole) e g) h

-- the same text by another name
pub takes_as : (a b : Option (List ℕ)) (part whole : List ℕ) (r : Put) → part ≡ whole → Takes a b part r → Takes a b whole r
takes_as a b part whole r e g = subst (λ (w : List ℕ). Takes a b w r) e g

-- ---- a device

pub read_more : (n m k : ℕ) (t u v : Bool) (f g h : ℕ → List ℕ) → IsRead n m t u f g → IsRead m k u v g h → IsRead n k t v f h
read_more n m k t u v f g h a b = record {
  count = b.count ∙ a.count;
  earlier = λ z. a.earlier (b.earlier z);
  same = λ z. b.same z ∙ a.same (b.earlier z);
}

-- ---- counts of faults

rose_since : (a b c m : ℕ) → a ≤ b → min (b + 1) m ≤ c → min (a + 1) m ≤ c
rose_since a b c m h g = omega arith

pub since : (s s1 s2 w w1 w2 : ℕ) (r : Wrote) → s ≤ s1 → w ≤ w1 → HasCauses s1 s2 w1 w2 r → HasCauses s s2 w w2 r
since s s1 s2 w w1 w2 r a b h = record { sinks = omega (arith, h.sinks); swaps = omega (arith, h.swaps); caused = by_answer r h.caused }
  where
    by_answer : (q : Wrote) → Caused s1 s2 w1 w2 q → Caused s s2 w w2 q
    by_answer Done g = g
    by_answer SinkFault g = rose_since s s1 s2 (2 ^ 64 - 1) a g
    by_answer SwapFault g = rose_since w w1 w2 (2 ^ 64 - 1) b g
