-- What goes for the slots of every call on segments: each argument is a word, a pointer to a text, or a pointer for a value.
use Rattle.std.proofs.Common.{◌≡◌, ℕ, suc, ◌==◌, Bool, true, false, if◌then◌else◌, List, [], ◌∷◌, refl, sym, subst, arith}
use Rattle.o2_world.specs.declared.types.Slot.{Slot}
use Rattle.o2_world.specs.declared.types.Slot.TheVariants.{Word, Long, Reads, Writes, Text, ToWord, ToLong, ToWords, Heap}
use Rattle.o2_world.specs.Calls.{row_of}
use Rattle.o2_world.specs.SharedNames.{looked_at}
use Rattle.o2_world.specs.Slots.{Pointer}
use Rattle.o2_gate.specs.declared.arguments.Arguments.{Arguments}
use Rattle.o2_gate.specs.declared.requests.SegmentArguments.{SegmentArguments}
use Rattle.o2_gate.specs.declared.requests.SegmentArguments.TheVariants.{Alloc, Realloc, Free, Size, Lock, Unlock, Alias, Shared, Huge}
use Rattle.o2_gate.specs.declared.requests.HugeArguments.TheVariants as huge
use Rattle.o2_gate.specs.declared.requests.SharedArguments.TheVariants.{Name, Share, Give, Get}
use Rattle.o2_gate.specs.declared.text.TextArgument.{TextArgument}
use Rattle.o2_gate.specs.Given.{word_in}
use Rattle.o2_gate.specs.Replies.{FitsIn, IsValue}
use Rattle.o2_gate.specs.Requests.{request_of}
use Rattle.o2_gate.specs.Rows.{slots_by}
use Rattle.o2_gate.specs.Targets.{looked_in, slots_of, target_in, targets}
use Rattle.o2_regions.specs.declared.answer.Answer.{Answer}
use Rattle.o2_regions.specs.declared.answer.Roomed.TheVariants.{Done}
use Rattle.o2_calls.specs.Stops.{IsGivable}

abbrev pub AreForValues : List Slot → Type 0
AreForValues [] = Unit {0}
AreForValues (Word ∷ ss) = AreForValues ss
AreForValues (Long ∷ ss) = ⊥
AreForValues (Reads ∷ ss) = ⊥
AreForValues (Writes ∷ ss) = ⊥
AreForValues (Text ∷ ss) = AreForValues ss
AreForValues (ToWord ∷ ss) = AreForValues ss
AreForValues (ToLong ∷ ss) = AreForValues ss
AreForValues (ToWords count ∷ ss) = ⊥
AreForValues (Heap ∷ ss) = ⊥

-- by the service, which is that of what is asked for
by_request : (P : SegmentArguments → List Slot → Type 0) → ((x : SegmentArguments) → P x (slots_by (row_of (request_of x).service))) → (a : Arguments) → P a.request (slots_of a)
by_request P each a = subst (λ (n : ℕ). P a.request (slots_by (row_of n))) (sym a.same) (each a.request)

pub for_values : (a : Arguments) → AreForValues (slots_of a)
unfolding row_of
for_values a = by_request (λ (x : SegmentArguments) (ss : List Slot). AreForValues ss) each a
  where
    each : (x : SegmentArguments) → AreForValues (slots_by (row_of (request_of x).service))
    each (Alloc size flags) = tt
    each (Realloc size z) = tt
    each (Free z) = tt
    each (Size z) = tt
    each (Lock z) = tt
    each (Unlock z) = tt
    each (Alias z) = tt
    each (Shared (Name size t)) = tt
    each (Shared (Share t)) = tt
    each (Shared (Give z to)) = tt
    each (Shared (Get z)) = tt
    each (Huge (huge.Alloc segs part most flags)) = tt
    each (Huge (huge.Realloc segs part z)) = tt
    each (Huge huge.Shift) = tt

-- a value that is given is a word where a word is written
pub value_of : (a : Arguments) (x : Answer) → IsGivable a.request (Done x) → IsValue a x.value
unfolding row_of
value_of a x = by_request (λ (y : SegmentArguments) (ss : List Slot). IsGivable y (Done x) → FitsIn ss x.value) each a
  where
    each : (y : SegmentArguments) → IsGivable y (Done x) → FitsIn (slots_by (row_of (request_of y).service)) x.value
    each (Alloc size flags) h = (tt, (h, (tt, tt)))
    each (Realloc size z) h = (tt, (tt, tt))
    each (Free z) h = (tt, tt)
    each (Size z) h = (tt, (tt, tt))
    each (Lock z) h = (tt, tt)
    each (Unlock z) h = (tt, tt)
    each (Alias z) h = (tt, (h, tt))
    each (Shared (Name size t)) h = (tt, (tt, (h, tt)))
    each (Shared (Share t)) h = (tt, (h, tt))
    each (Shared (Give z to)) h = (tt, (tt, (h, tt)))
    each (Shared (Get z)) h = (tt, tt)
    each (Huge (huge.Alloc segs part most flags)) h = (tt, (tt, (h, (tt, (tt, tt)))))
    each (Huge (huge.Realloc segs part z)) h = (tt, (tt, (tt, tt)))
    each (Huge huge.Shift) h = (h, tt)

-- of a text some bytes are looked at
text_some : (x : TextArgument) → (looked_at 129 x.bytes == 0) ≡ false
text_some x = go x.bytes
  where
    past : (k : ℕ) → (suc k == 0) ≡ false
    past k = grind arith

    by : (b : Bool) (k : ℕ) → ((if b then 1 else suc k) == 0) ≡ false
    by true k = refl
    by false k = past k

    go : (xs : List ℕ) → (looked_at 129 xs == 0) ≡ false
    go [] = refl
    go (y ∷ xs) = by (y == 0) (looked_at 128 xs)

looked_some : (x : SegmentArguments) → (looked_in x == 0) ≡ false
looked_some (Alloc size flags) = refl
looked_some (Realloc size z) = refl
looked_some (Free z) = refl
looked_some (Size z) = refl
looked_some (Lock z) = refl
looked_some (Unlock z) = refl
looked_some (Alias z) = refl
looked_some (Shared (Name size t)) = text_some t
looked_some (Shared (Share t)) = text_some t
looked_some (Shared (Give z to)) = refl
looked_some (Shared (Get z)) = refl
looked_some (Huge y) = refl

-- behind each pointer are some bytes
abbrev pub AreSome : List Pointer → Type 0
AreSome [] = Unit {0}
AreSome (p ∷ ps) = ((p.count == 0) ≡ false) × AreSome ps

slots_some : (ss : List Slot) (looked : ℕ) (a : ℕ → ℕ) → AreForValues ss → (looked == 0) ≡ false → AreSome (target_in ss looked a)
slots_some [] looked a plain some = tt
slots_some (Word ∷ ss) looked a plain some = slots_some ss looked a plain some
slots_some (Long ∷ ss) looked a plain some = absurd plain
slots_some (Reads ∷ ss) looked a plain some = absurd plain
slots_some (Writes ∷ ss) looked a plain some = absurd plain
slots_some (Text ∷ ss) looked a plain some = (some, slots_some ss looked a plain some)
slots_some (ToWord ∷ ss) looked a plain some = (refl, slots_some ss looked a plain some)
slots_some (ToLong ∷ ss) looked a plain some = (refl, slots_some ss looked a plain some)
slots_some (ToWords count ∷ ss) looked a plain some = absurd plain
slots_some (Heap ∷ ss) looked a plain some = absurd plain

pub targets_some : (a : Arguments) → AreSome (targets a)
targets_some a = slots_some (slots_of a) (looked_in a.request) (word_in a.words) (for_values a) (looked_some a.request)
