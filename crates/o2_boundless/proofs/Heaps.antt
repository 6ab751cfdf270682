-- A call on a heap by what is answered over its bytes.
use Rattle.std.proofs.Common.{◌≡◌, ℕ, true, cond, Bool, List, [], ap, sym, ◌∙◌}
use Rattle.std.specs.Prelude.{Result, Ok, Err, IfOk}
use Rattle.o2_world.specs.declared.types.Slot.{Slot}
use Rattle.o2_world.specs.Calls.{Before, by_heap, heap_bytes, on_heap}
use Rattle.o2_world.specs.HeapRulings.{HeapRuling}
use Rattle.o2_world.specs.Outcomes.{Fails}
use Rattle.o2_world.specs.Slots.{may_have_heap}

pub ok_more : {X E : Type 0} {P Q : X → Type 0} (r : Result X E) → ((x : X) → P x → Q x) → IfOk r P → IfOk r Q
ok_more (Ok x) more e = more x e
ok_more (Err e) more p = tt

pub ruling_made : (m : HeapRuling) (error value : ℕ) (bytes : List ℕ) → error ≡ m.error → value ≡ m.value → bytes ≡ m.bytes
    → record { error = error; value = value; bytes = bytes } ≡ m
ruling_made m error value bytes e v b =
    ap (λ (x : ℕ). record { error = x; value = value; bytes = bytes }) e
    ∙ ap (λ (x : ℕ). record { error = m.error; value = x; bytes = bytes }) v
    ∙ ap (λ (bs : List ℕ). record { error = m.error; value = m.value; bytes = bs }) b

pub on_heap_is : (b : Before) (slots : List Slot) (s : ℕ) (ruling : List ℕ → HeapRuling) → may_have_heap b.view s ≡ true
    → by_heap slots b (ruling (heap_bytes b s)) ≡ on_heap slots b s ruling
on_heap_is b slots s ruling may = sym (ap (λ (c : Bool). cond c (by_heap slots b (ruling (heap_bytes b s))) (Fails 315 [])) may)
