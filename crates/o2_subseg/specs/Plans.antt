-- What a plan of a call on a heap says.
use Rattle.std.specs.Prelude.{◌≡◌, ℕ, ◌+◌, ◌-◌, ◌≤◌, List, [], ◌∷◌, length, take}
use Rattle.o2_subseg.specs.declared.plan.Plan.{Plan}
use Rattle.o2_world.specs.Heaps.{put_words}
use Rattle.o2_world.specs.HeapRulings.{HeapRuling}

-- the words of a plan, each with its place
abbrev pub words_of : Plan → List (ℕ × ℕ)
words_of p = take p.count p.words

-- each word lies within so many bytes
abbrev pub AreInside : ℕ → List (ℕ × ℕ) → Type 0
AreInside size [] = Unit {0}
AreInside size ((at, w) ∷ ws) = (at + 2 ≤ size) × AreInside size ws

-- the plan's answer is a ruling's, its words lie within the bytes, and with them the bytes are the ruling's
pub record Plans (p : Plan) (r : HeapRuling) (bytes : List ℕ) : Type 0 where
  pub error : p.answer.error ≡ r.error
  pub value : p.answer.value ≡ r.value
  pub few : p.count ≤ 6
  pub inside : AreInside (length bytes) (words_of p)
  pub after : put_words bytes (words_of p) ≡ r.bytes

-- the words of a heap with nothing taken
abbrev pub fresh_words : ℕ → List (ℕ × ℕ)
fresh_words size = (0, 0x4253) ∷ (2, size) ∷ (6, 0) ∷ (4, 8) ∷ (10, size - 8) ∷ (8, 0) ∷ []
