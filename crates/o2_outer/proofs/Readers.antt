-- What a reader of the standard library gives, as a source sees it.
use Rattle.std.proofs.Common.{◌≡◌, Bool, true, false, ◌+◌, ◌≤◌, ◌<◌, min, drop, [], arith, ℕ, List, ◌++◌, Option, Some, None, length, take, ap, sym, subst, ◌∙◌, append_assoc, append-nil, refl, unwrap_or}
use Rattle.std.proofs.lemmas.List.{take-take, take-append-le, length-take-le, length-append, drop-append-le}
use Rattle.std.proofs.Math.Seq.{take-append-add}
use borrow.Rule.Slice.PartMut.{put_mid, post_of}
use Rattle.std.specs.Io.KnownBytes.{Consumes, Keeps, IsAtEnd}
use Rattle.o2_outer.specs.Reads.{bytes_left, left_behind}

-- bytes that a read consumed and that are held now
pub held_more : (held more : List ℕ) (old new : Option (List ℕ)) (t : List ℕ) → Consumes old new more → bytes_left held old ≡ Some t → bytes_left (held ++ more) new ≡ Some t
held_more held more None new t c e = absurd (cc)
held_more held more (Some xs) None t c e = absurd c
held_more held more (Some xs) (Some ys) t c e = ap Some (append_assoc held more ys ∙ ap (λ (z : List ℕ). held ++ z) (sym c)) ∙ e

-- a read that failed
pub held_same : (held : List ℕ) (old new : Option (List ℕ)) (t : List ℕ) → Keeps old new → bytes_left held old ≡ Some t → bytes_left held new ≡ Some t
held_same held None new t k e = absurd (cc)
held_same held (Some xs) None t k e = absurd k
held_same held (Some xs) (Some ys) t k e = ap (λ (z : List ℕ). Some (held ++ z)) k ∙ e

-- what stands in front, and then the first bytes that were read behind it
pub take_behind : (a k c : ℕ) (xs ys : List ℕ) → a ≤ length xs → c ≤ length ys → take (a + c) (put_mid a k xs ys) ≡ take a xs ++ take c ys
take_behind a k c xs ys within some =
    let front : List ℕ = take a xs in
    ap (λ (n : ℕ). take (n + c) (front ++ (ys ++ post_of a k xs))) (sym (length-take-le a xs within))
    ∙ take-append-add front (ys ++ post_of a k xs) c
    ∙ ap (λ (z : List ℕ). front ++ z) (take-append-le c ys (post_of a k xs) some)

-- the shorter of two lengths stays, where the one that grows isn't the shorter
min_grown : (i h y : ℕ) → (h < i → y ≡ 0) → min i h ≡ min i (h + y)
min_grown i h y same = grind arith

-- a take of the bytes held, all of them only where the reader has no more
gives_held : (held rest into : List ℕ) (remaining : Option (List ℕ)) (n : ℕ) (t : List ℕ) → bytes_left held remaining ≡ Some t
    → n ≡ min (length into) (length held) → take n into ≡ take n held → rest ≡ drop n held → (length held < length into → IsAtEnd remaining)
    → (n ≡ min (length into) (length t)) × (take n into ≡ take n t) × (bytes_left rest remaining ≡ Some (drop n t))
gives_held held rest into None n t e count given left ends = absurd (cc)
gives_held held rest into (Some ys) n t e count given left ends =
    let whole : held ++ ys ≡ t = ap (λ (o : Option (List ℕ)). unwrap_or o []) e in
    let fits : n ≤ length held = omega (arith, count) in
    subst (λ (x : List ℕ). (n ≡ min (length into) (length x)) × (take n into ≡ take n x) × (Some (rest ++ ys) ≡ Some (drop n x))) whole (
      count ∙ min_grown (length into) (length held) (length ys) (λ less. ap (λ (z : List ℕ). length z) (ends less)) ∙ ap (λ (k : ℕ). min (length into) k) (sym (length-append held ys)),
      given ∙ sym (take-append-le n held ys fits),
      ap Some (ap (λ (z : List ℕ). z ++ ys) left ∙ sym (drop-append-le n held ys fits)),
    )

-- bytes held are all that is left of a reader that has no more
all_held : (held : List ℕ) (remaining : Option (List ℕ)) (t : List ℕ) → IsAtEnd remaining → bytes_left held remaining ≡ Some t → Some held ≡ Some t
all_held held None t end e = absurd (cc)
all_held held (Some ys) t end e = ap (λ (z : List ℕ). Some z) (sym (append-nil held) ∙ ap (λ (z : List ℕ). held ++ z) (sym end)) ∙ e

-- the reader's end is seen, or it isn't
pub left_seen : (ended : Bool) (held : List ℕ) (remaining : Option (List ℕ)) (t : List ℕ) → (ended ≡ true → IsAtEnd remaining) → bytes_left held remaining ≡ Some t → left_behind ended held remaining ≡ Some t
left_seen true held remaining t end e = all_held held remaining t (end refl) e
left_seen false held remaining t end e = e

pub left_unseen : (ended : Bool) (held : List ℕ) (remaining : Option (List ℕ)) (t : List ℕ) → ended ≡ false → left_behind ended held remaining ≡ Some t → bytes_left held remaining ≡ Some t
left_unseen true held remaining t is e = absurd (cc)
left_unseen false held remaining t is e = e

-- a take of the bytes held, all of them only where the reader's end is seen
pub gives_behind : (ended : Bool) (held rest into : List ℕ) (remaining : Option (List ℕ)) (n : ℕ) (t : List ℕ) → left_behind ended held remaining ≡ Some t
    → n ≡ min (length into) (length held) → take n into ≡ take n held → rest ≡ drop n held → (length held < length into → ended ≡ true)
    → (n ≡ min (length into) (length t)) × (take n into ≡ take n t) × (left_behind ended rest remaining ≡ Some (drop n t))
gives_behind true held rest into remaining n t e count given left ends =
    subst (λ (x : List ℕ). (n ≡ min (length into) (length x)) × (take n into ≡ take n x) × (Some rest ≡ Some (drop n x))) (ap (λ (o : Option (List ℕ)). unwrap_or o []) e)
    (count, given, ap (λ (z : List ℕ). Some z) left)
gives_behind false held rest into remaining n t e count given left ends = gives_held held rest into remaining n t e count given left (λ less. let never : false ≡ true = ends less in absurd (cc))

-- a front of what a lent buffer holds behind a call
pub front_lent : (k l : ℕ) (xs ys : List ℕ) → k ≤ l → k ≤ length xs → take k (take l (xs ++ ys)) ≡ take k xs
front_lent k l xs ys within fits = take-take k l (xs ++ ys) within ∙ take-append-le k xs ys fits
