-- A test has one answer.
use Rattle.std.proofs.Common.{◌≡◌, Bool, true, false}

pub two_answers : (P : Type 0) (a : Bool) → a ≡ true → a ≡ false → P
two_answers P true t f = absurd (cc)
two_answers P false t f = absurd (cc)
