-- Two heaps with one list of units are one.
use Rattle.std.proofs.Common.{◌≡◌, ◌⊎◌, ℕ, ◌*◌, ◌/◌, ◌%◌, ◌<◌, ◌≤◌, false, List, get_or, refl, sym, ap, subst, ◌∙◌, inl, inr, arith}
use Rattle.o2_world.specs.Heaps.{Heap, units, is_free}
use Rattle.o2_subseg.proofs.Chains.{AreLaid, IsHeap}
use Rattle.o2_subseg.proofs.Units.{none_behind, one_form}
use Rattle.o2_subseg.proofs.Done.{unit_is, lt_or}

same_byte : (g h : Heap) (x : ℕ) → AreLaid g.size 8 g.blocks → AreLaid h.size 8 h.blocks → g.size ≡ h.size → g.size % 4 ≡ 0 → units g ≡ units h → x % 4 ≡ 0
    → (x / 4 < g.size / 4) ⊎ (g.size / 4 ≤ x / 4) → is_free g.blocks x ≡ is_free h.blocks x
same_byte g h x l m sized whole same w (inl inside) =
    let k = x / 4 in
    let x_is : 4 * k ≡ x = omega (arith, w) in
    let P : ℕ → Type 0 = λ y. is_free g.blocks y ≡ is_free h.blocks y in
    let other : k < h.size / 4 = omega (arith, inside, sized) in
    subst P x_is (sym (unit_is g k inside) ∙ ap (λ us. get_or us k false) same ∙ unit_is h k other)
same_byte g h x l m sized whole same w (inr past) =
    none_behind g.size 8 x g.blocks l (omega (arith, past, whole, w)) ∙ sym (none_behind h.size 8 x h.blocks m (omega (arith, past, whole, w, sized)))

record_same : (s t : ℕ) (bs cs : List (ℕ × ℕ)) → s ≡ t → bs ≡ cs → ◌≡◌ {A = Heap} (record { size = s; blocks = bs }) (record { size = t; blocks = cs })
record_same s t bs cs e f = rw (e, f) refl

-- two good heaps with one list of units have one form
pub heaps_same : (b c : List ℕ) (g h : Heap) → IsHeap b g → IsHeap c h → g.size ≡ h.size → units g ≡ units h → g ≡ h
heaps_same b c g h i j sized same =
    let P : ℕ → Type 0 = λ n. AreLaid n 8 h.blocks in
    let laid = subst P (sym sized) j.chain.laid in
    let blocks = one_form g.size 8 g.blocks h.blocks i.chain.laid laid
    (λ x w. same_byte g h x i.chain.laid j.chain.laid sized i.whole same w (lt_or (x / 4) (g.size / 4))) in
    record_same g.size h.size g.blocks h.blocks sized blocks
