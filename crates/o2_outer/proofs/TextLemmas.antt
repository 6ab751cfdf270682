-- How texts grow put by put.
use Rattle.std.proofs.Common.{List, ℕ, [], ◌++◌, Option, Some, ap, sym, ◌∙◌, append_assoc, append-nil, refl}
use Rattle.o2_outer.specs.declared.sink.Put.{Put}
use Rattle.o2_outer.specs.declared.sink.Put.TheVariants as put
use Rattle.o2_outer.specs.Texts.{Gains, GainsSome, IsPrefix, Continues, ContinuesBetween}
use Rattle.o2_outer.specs.Answers.{Takes}

-- one put more behind what was gained
pub puts_more : (p q : List ℕ) (a b c : Option (List ℕ)) (r : Put) → Gains a b p → Takes b c q r → Takes a c (p ++ q) r
puts_more p q a b c put.Done g h = λ t e. h (t ++ p) (g t e) ∙ ap Some (append_assoc t p q)
puts_more p q a b c put.Failed g h = λ t e.
    let x = h (t ++ p) (g t e) in
    (p ++ x.0, x.1 ∙ ap Some (append_assoc t p x.0), (x.2.0, ap (λ z. p ++ z) x.2.1 ∙ sym (append_assoc p x.0 x.2.0)))

-- a front of the first part is a front of all
pub puts_front : (p q : List ℕ) (a b : Option (List ℕ)) → GainsSome a b (λ front. IsPrefix front p) → GainsSome a b (λ front. IsPrefix front (p ++ q))
puts_front p q a b g = λ t e.
    let x = g t e in
    (x.0, x.1, (x.2.0 ++ q, ap (λ z. z ++ q) x.2.1 ∙ append_assoc x.0 x.2.0 q))

-- nothing is a front of anything
pub puts_none : (p : List ℕ) (a : Option (List ℕ)) → GainsSome a a (λ front. IsPrefix front p)
puts_none p a = λ t e. ([], e ∙ ap Some (sym (append-nil t)), (p, refl))

pub gains_none : (a : Option (List ℕ)) → Gains a a []
gains_none a = λ t e. e ∙ ap Some (sym (append-nil t))

pub takes_none : (a : Option (List ℕ)) (r : Put) → Takes a a [] r
takes_none a put.Done = gains_none a
takes_none a put.Failed = puts_none [] a

pub gains_some : (p : List ℕ) (a b : Option (List ℕ)) → Gains a b p → GainsSome a b (λ front. IsPrefix front p)
gains_some p a b g = λ t e. (p, g t e, ([], sym (append-nil p)))

pub continues_by : (p low : List ℕ) (a b : Option (List ℕ)) → Gains a b p → Continues a b low (low ++ p)
continues_by p low a b g = λ t e. g (t ++ low) e ∙ ap Some (append_assoc t low p)

pub continues_in_part : (p low : List ℕ) (a b : Option (List ℕ)) → GainsSome a b (λ front. IsPrefix front p) → ContinuesBetween a b low (low ++ p)
continues_in_part p low a b g = λ t e.
    let x = g (t ++ low) e in
    (low ++ x.0, x.1 ∙ ap Some (append_assoc t low x.0), ((x.0, refl), (x.2.0, ap (λ z. low ++ z) x.2.1 ∙ sym (append_assoc low x.0 x.2.0))))

-- a first put that was done, and a second that failed
pub puts_second : (p q z : List ℕ) (a b c : Option (List ℕ)) → Gains a b p → GainsSome b c (λ front. IsPrefix front q) → GainsSome a c (λ front. IsPrefix front (p ++ (q ++ z)))
puts_second p q z a b c g h = puts_more p (q ++ z) a b c put.Failed g (puts_front q z b c h)
