-- What a writer of the standard library does, as a sink sees it.
use Rattle.std.proofs.Common.{List, ℕ, [], ◌+◌, ◌++◌, Option, Some, None, ap, sym, ◌∙◌, append-nil, take, drop, take-add, subst, unwrap_or, take-append-drop}
use Rattle.std.specs.Io.KnownBytes.{Appends, Keeps}
use Rattle.o2_outer.specs.declared.sink.Put.TheVariants as put
use Rattle.o2_outer.specs.Texts.{Gains, GainsSome, IsPrefix}
use Rattle.o2_outer.proofs.TextLemmas.{puts_more}

pub appends_gains : (old new : Option (List ℕ)) (bs : List ℕ) → Appends old new bs → Gains old new bs
appends_gains None new bs a = λ t e. absurd (cc)
appends_gains (Some xs) None bs a = absurd a
appends_gains (Some xs) (Some ys) bs a = λ t e. ap Some (a ∙ ap (λ (o : Option (List ℕ)). unwrap_or o [] ++ bs) e)

pub keeps_gains : (old new : Option (List ℕ)) → Keeps old new → Gains old new []
keeps_gains None new k = λ t e. absurd (cc)
keeps_gains (Some xs) None k = absurd k
keeps_gains (Some xs) (Some ys) k = λ t e. ap Some (k ∙ ap (λ (o : Option (List ℕ)). unwrap_or o []) e ∙ sym (append-nil t))

-- one write more
pub written_more : (p : List ℕ) (n m : ℕ) (a b c : Option (List ℕ)) → Gains a b (take n p) → Appends b c (take m (drop n p)) → Gains a c (take (n + m) p)
written_more p n m a b c g h = subst (λ x. Gains a c x) (sym (take-add n m p)) (puts_more (take n p) (take m (drop n p)) a b c put.Done g (appends_gains b c _ h))

-- a write that failed, or that took nothing
pub written_same : (front : List ℕ) (a b c : Option (List ℕ)) → Gains a b front → Gains b c [] → Gains a c front
written_same front a b c g h = subst (λ x. Gains a c x) (append-nil front) (puts_more front [] a b c put.Done g h)

-- a part that was written is a front of the piece
pub written_in_part : (p : List ℕ) (n : ℕ) (a b : Option (List ℕ)) → Gains a b (take n p) → GainsSome a b (λ front. IsPrefix front p)
written_in_part p n a b g = λ t e. (take n p, g t e, (drop n p, sym (take-append-drop n p)))
