-- Which swap blocks a call asks for.
use Rattle.std.specs.Prelude.{◌≡◌, ℕ, ◌++◌, Bool, List, take, filter}

-- it asks for those that are known of the first ones of an owner's blocks, in their order, each once, and for no other; where it is
-- done for those of all
pub record AsksFor (known : ℕ → Bool) (owned before after : List ℕ) (done : Type 0) : Type 0 where
  pub count : ℕ
  pub asked : after ≡ before ++ filter known (take count owned)
  pub all : done → take count owned ≡ owned
