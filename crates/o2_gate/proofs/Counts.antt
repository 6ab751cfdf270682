-- Each pointer of a call on segments is for some bytes.
use Rattle.std.proofs.Common.{◌≡◌, ℕ, ◌≤◌, ◌==◌, ◌&&◌, Bool, true, false, List, [], ◌∷◌, ap, ◌∙◌, refl, arith}
use Rattle.o2_world.specs.declared.types.Slot.{Slot}
use Rattle.o2_world.specs.declared.types.Slot.TheVariants.{Word, Long, Reads, Writes, Text, ToWord, ToLong, ToWords, Heap}
use Rattle.o2_world.specs.Calls.{row_of}
use Rattle.o2_world.specs.Slots.{Pointer}
use Rattle.o2_gate.specs.declared.arguments.Arguments.{Arguments}
use Rattle.o2_gate.specs.declared.requests.SegmentArguments.{SegmentArguments}
use Rattle.o2_gate.specs.declared.requests.SegmentArguments.TheVariants as call
use Rattle.o2_gate.specs.declared.requests.HugeArguments.TheVariants as huge
use Rattle.o2_gate.specs.declared.requests.SharedArguments.TheVariants as shared
use Rattle.o2_gate.specs.Given.{word_in}
use Rattle.o2_gate.specs.Requests.{request_of}
use Rattle.o2_gate.specs.Rows.{slots_by}
use Rattle.o2_gate.specs.Targets.{looked_in, target_in, targets}
use Rattle.o2_gate.proofs.TextTests.{size_some}

abbrev pub AreSome : List Pointer → Type 0
AreSome [] = Unit {0}
AreSome (p ∷ ps) = ((p.count == 0) ≡ false) × AreSome ps

-- a text, or a value
abbrev is_sized : Slot → Bool
is_sized Word = true
is_sized Long = true
is_sized Reads = false
is_sized Writes = false
is_sized Text = true
is_sized ToWord = true
is_sized ToLong = true
is_sized (ToWords count) = false
is_sized Heap = true

abbrev are_sized : List Slot → Bool
are_sized [] = true
are_sized (s ∷ ss) = is_sized s && are_sized ss

first : (a b : Bool) → (a && b) ≡ true → a ≡ true
first a b e = grind arith

last : (a b : Bool) → (a && b) ≡ true → b ≡ true
last a b e = grind arith

not_none : (n : ℕ) → 1 ≤ n → (n == 0) ≡ false
not_none n e = grind arith

some_in : (ss : List Slot) (looked : ℕ) (a : ℕ → ℕ) → 1 ≤ looked → are_sized ss ≡ true → AreSome (target_in ss looked a)
some_in [] looked a some e = tt
some_in (s ∷ ss) looked a some e = go s (first (is_sized s) (are_sized ss) e) (some_in ss looked a some (last (is_sized s) (are_sized ss) e))
  where
    go : (t : Slot) → is_sized t ≡ true → AreSome (target_in ss looked a) → AreSome (target_in (t ∷ ss) looked a)
    go Word e rest = rest
    go Long e rest = rest
    go Reads e rest = absurd (let z : false ≡ true = e in cc)
    go Writes e rest = absurd (let z : false ≡ true = e in cc)
    go Text e rest = (not_none looked some, rest)
    go ToWord e rest = (refl, rest)
    go ToLong e rest = (refl, rest)
    go (ToWords count) e rest = absurd (let z : false ≡ true = e in cc)
    go Heap e rest = rest

record IsSized (q : SegmentArguments) : Type 0 where
  sized : are_sized (slots_by (row_of (request_of q).service)) ≡ true
  looks : 1 ≤ looked_in q

of_one : (q : SegmentArguments) → are_sized (slots_by (row_of (request_of q).service)) ≡ true → looked_in q ≡ 1 → IsSized q
of_one q e one = record { sized = e; looks = omega (arith, one) }

sizes : (q : SegmentArguments) → IsSized q
unfolding row_of
sizes (call.Alloc size flags) = of_one _ refl refl
sizes (call.Realloc size selector) = of_one _ refl refl
sizes (call.Free selector) = of_one _ refl refl
sizes (call.Size selector) = of_one _ refl refl
sizes (call.Lock selector) = of_one _ refl refl
sizes (call.Unlock selector) = of_one _ refl refl
sizes (call.Alias selector) = of_one _ refl refl
sizes (call.Shared (shared.Name size t)) = record { sized = refl; looks = size_some 129 t.bytes (omega arith) }
sizes (call.Shared (shared.Share t)) = record { sized = refl; looks = size_some 129 t.bytes (omega arith) }
sizes (call.Shared (shared.Give selector pid)) = of_one _ refl refl
sizes (call.Shared (shared.Get selector)) = of_one _ refl refl
sizes (call.Huge (huge.Alloc segs part most flags)) = of_one _ refl refl
sizes (call.Huge (huge.Realloc segs part selector)) = of_one _ refl refl
sizes (call.Huge huge.Shift) = of_one _ refl refl

pub targets_some : (x : Arguments) → AreSome (targets x)
targets_some x =
    let q = sizes x.request in
    some_in (slots_by (row_of x.service)) (looked_in x.request) (word_in x.words) q.looks
    (ap (λ (n : ℕ). are_sized (slots_by (row_of n))) x.same ∙ q.sized)
