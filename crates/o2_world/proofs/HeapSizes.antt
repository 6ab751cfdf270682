-- The calls on a heap inside a segment keep the number of the segment's bytes.
use Rattle.std.proofs.Common.{◌≡◌, ℕ, ◌+◌, ◌-◌, ◌/◌, ◌%◌, Bool, true, false, cond, ◌==◌, ◌||◌, nat_lt, List, [], ◌∷◌, length, set, Option, Some, None, refl, ◌∙◌}
use Rattle.std.proofs.lemmas.List.{length-set}
use Rattle.o2_world.specs.Heaps.{Heap, heap_of, put_word, put_words, controls, with_controls}
use Rattle.o2_world.specs.HeapRulings.{HeapRuling, refuses, leaves, rounded, area_of, take_from, insert, meets, fresh, grown, growing, setting_up, taken, taking_of, taking, is_outside, giving_back_to, giving_back}

pub put_length : (bytes : List ℕ) (w : ℕ × ℕ) → length (put_word bytes w) ≡ length bytes
unfolding put_word
put_length bytes (at, w) = length-set (set bytes at (w % 256)) (at + 1) (w / 256) ∙ length-set bytes at (w % 256)

pub words_length : (bytes : List ℕ) (ws : List (ℕ × ℕ)) → length (put_words bytes ws) ≡ length bytes
words_length bytes [] = refl
words_length bytes (w ∷ ws) = words_length (put_word bytes w) ws ∙ put_length bytes w

-- as many bytes as before
abbrev pub KeepsCount : List ℕ → HeapRuling → Type 0
KeepsCount bytes r = length r.bytes ≡ length bytes

left_count : (value : ℕ) (h : Heap) (bytes : List ℕ) → KeepsCount bytes (leaves value h bytes)
unfolding with_controls
left_count value h bytes = words_length bytes (controls h)

either : (t : Bool) (bytes : List ℕ) (r q : HeapRuling) → KeepsCount bytes r → KeepsCount bytes q → KeepsCount bytes (cond t r q)
either true bytes r q h k = h
either false bytes r q h k = k

growing_count : (o : Option Heap) (size : ℕ) (bytes : List ℕ) → KeepsCount bytes (growing o size bytes)
unfolding growing
growing_count None size bytes = refl
growing_count (Some h) size bytes = either (nat_lt size h.size) bytes (refuses 310 bytes) (leaves 0 (grown h size) bytes) refl (left_count 0 (grown h size) bytes)

pub setting_count : (flags size : ℕ) (bytes : List ℕ) → KeepsCount bytes (setting_up flags size bytes)
unfolding setting_up
setting_count flags size bytes =
    either (nat_lt 1 flags) bytes _ _ refl
    (either (nat_lt (area_of size) 12 || nat_lt (length bytes) (area_of size)) bytes _ _ refl
    (either (flags == 1) bytes _ _ (left_count 0 (fresh (area_of size)) bytes) (growing_count (heap_of bytes) (area_of size) bytes)))

taken_count : (o : Option (ℕ × List (ℕ × ℕ))) (size : ℕ) (bytes : List ℕ) → KeepsCount bytes (taken o size bytes)
unfolding taken
taken_count None size bytes = refl
taken_count (Some t) size bytes = left_count t.0 (record { size = size; blocks = t.1 }) bytes

taking_of_count : (o : Option Heap) (size : ℕ) (bytes : List ℕ) → KeepsCount bytes (taking_of o size bytes)
unfolding taking_of
taking_of_count None size bytes = refl
taking_of_count (Some h) size bytes =
    either ((size == 0) || nat_lt (h.size - 8) size) bytes _ _ refl (taken_count (take_from (rounded size) h.blocks) h.size bytes)

pub taking_count : (size : ℕ) (bytes : List ℕ) → KeepsCount bytes (taking size bytes)
unfolding taking
taking_count size bytes = taking_of_count (heap_of bytes) size bytes

giving_to_count : (o : Option Heap) (offset size : ℕ) (bytes : List ℕ) → KeepsCount bytes (giving_back_to o offset size bytes)
unfolding giving_back_to
giving_to_count None offset size bytes = refl
giving_to_count (Some h) offset size bytes =
    either (is_outside size offset (rounded size) h.size) bytes _ _ refl
    (either (meets offset (offset + rounded size) h.blocks) bytes _ _ refl
    (left_count 0 (record { size = h.size; blocks = insert (offset, rounded size) h.blocks }) bytes))

pub giving_count : (offset size : ℕ) (bytes : List ℕ) → KeepsCount bytes (giving_back offset size bytes)
unfolding giving_back
giving_count offset size bytes = giving_to_count (heap_of bytes) offset size bytes
