-- What holds of each value of a reading.
use Rattle.std.proofs.Common.{◌≡◌, Bool, true, false, cond, List, [], ◌∷◌, refl}
use Rattle.std.specs.Prelude.{IfOk, Result, Ok, Err}
use Rattle.o2_base.specs.declared.faults.NeFault.{NeFault}
use Rattle.o2_base.specs.declared.faults.SegFault.{SegFault}
use Rattle.o2_ne.specs.Checks.{Check, all_hold, ◌>>=◌}
use Rattle.o2_image.specs.Faults.{under_ne, under_seg}

pub then_ok : {A B F : Type 0} (P : A → Type 0) (Q : B → Type 0) (r : Result A F) (k : A → Result B F) → IfOk r P → ((x : A) → P x → IfOk (k x) Q) → IfOk (r >>= k) Q
then_ok P Q (Ok x) k h next = next x h
then_ok P Q (Err f) k h next = tt

-- whatever comes first
pub any_ok : {A B F : Type 0} (Q : B → Type 0) (r : Result A F) (k : A → Result B F) → ((x : A) → IfOk (k x) Q) → IfOk (r >>= k) Q
any_ok Q (Ok x) k next = next x
any_ok Q (Err f) k next = tt

pub ne_ok : {X : Type 0} (P : X → Type 0) (r : Result X NeFault) → IfOk r P → IfOk (under_ne r) P
ne_ok P (Ok x) h = h
ne_ok P (Err f) h = tt

pub seg_ok : {X : Type 0} (P : X → Type 0) (r : Result X SegFault) → IfOk r P → IfOk (under_seg r) P
seg_ok P (Ok x) h = h
seg_ok P (Err f) h = tt

pub more_ok : {X F : Type 0} (P Q : X → Type 0) (r : Result X F) → ((x : X) → P x → Q x) → IfOk r P → IfOk r Q
more_ok P Q (Ok x) f h = f x h
more_ok P Q (Err e) f h = tt

-- each of some checks held
abbrev pub Hold : {F : Type 0} → List (Check F) → Type 0
Hold [] = Unit {0}
Hold (c ∷ cs) = (c.holds ≡ true) × Hold cs

pub checks_ok : {F : Type 0} (cs : List (Check F)) → IfOk (all_hold cs) (λ (u : Unit {0}). Hold cs)
checks_ok [] = tt
checks_ok {F} (c ∷ cs) = go c.holds refl (checks_ok cs)
  where
    go : (b : Bool) → c.holds ≡ b → IfOk (all_hold cs) (λ (u : Unit {0}). Hold cs) → IfOk {E = F} (cond b (all_hold cs) (Err c.fault)) (λ (u : Unit {0}). Hold (c ∷ cs))
    go true e rest = more_ok (λ (u : Unit {0}). Hold cs) (λ (u : Unit {0}). Hold (c ∷ cs)) (all_hold cs) (λ u h. (e, h)) rest
    go false e rest = tt
