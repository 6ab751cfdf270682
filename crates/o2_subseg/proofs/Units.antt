-- Free bytes of blocks: behind a block that is taken, behind a range that is freed, and that one list of them has one form.
use Rattle.std.proofs.Common.{◌≡◌, ◌≢◌, ◌⊎◌, ℕ, ◌+◌, ◌-◌, ◌%◌, ◌<◌, ◌≤◌, Bool, true, false, not, ◌&&◌, ◌||◌, ◌==◌, nat_le, nat_lt, List, [], ◌∷◌, Option, Some, None, option_map, if◌then◌else◌, refl, sym, ap, subst, ◌∙◌, inl, inr, arith}
use Rattle.std.proofs.lemmas.Bool.{cases_lt}
use Rattle.std.proofs.lemmas.Bool.Decides.{nat_tests}
use Rattle.o2_world.specs.Heaps.{is_free}
use Rattle.o2_world.specs.HeapRulings.{take_from, insert, join, meets}
use Rattle.o2_subseg.proofs.Chains.{IsBlock, AreLaid, laid_before}
use Rattle.o2_subseg.proofs.Joinings.{is_le, lt_true, clear_first, clear_rest, clear_behind, ends_before, begins_behind}
use Rattle.o2_subseg.proofs.Searches.{lt_false}

-- a byte lies in a range
abbrev pub lies_in : ℕ → ℕ → ℕ → Bool
lies_in at len x = nat_le at x && nat_lt x (at + len)

pub in_range : (at len x : ℕ) → at ≤ x → x < at + len → lies_in at len x ≡ true
in_range at len x h k = grind (arith, nat_tests)

pub before_range : (at len x : ℕ) → x < at → lies_in at len x ≡ false
before_range at len x h = grind (arith, nat_tests)

pub behind_range : (at len x : ℕ) → at + len ≤ x → lies_in at len x ≡ false
behind_range at len x h = grind (arith, nat_tests)

place_arms : (at len x : ℕ) → (x < at) ⊎ (at ≤ x) → (x < at + len) ⊎ (at + len ≤ x) → (x < at) ⊎ (((at ≤ x) × (x < at + len)) ⊎ (at + len ≤ x))
place_arms at len x (inl h) k = inl h
place_arms at len x (inr h) (inl k) = inr (inl (h, k))
place_arms at len x (inr h) (inr k) = inr (inr k)

-- where a byte lies beside a range
pub place_cases : (at len x : ℕ) → (x < at) ⊎ (((at ≤ x) × (x < at + len)) ⊎ (at + len ≤ x))
place_cases at len x = place_arms at len x (cases_lt x at) (cases_lt x (at + len))

-- no byte before blocks is free
pub none_before : (size low x : ℕ) (bs : List (ℕ × ℕ)) → AreLaid size low bs → x < low → is_free bs x ≡ false
none_before size low x [] laid h = refl
none_before size low x ((at, len) ∷ bs) laid h =
    let b = laid.0 in
    rw (before_range at len x (omega (arith, b.behind, h)), none_before size (at + len + 1) x bs laid.1 (omega (arith, b.behind, h))) refl

-- no byte behind the heap is free
pub none_behind : (size low x : ℕ) (bs : List (ℕ × ℕ)) → AreLaid size low bs → size ≤ x → is_free bs x ≡ false
none_behind size low x [] laid h = refl
none_behind size low x ((at, len) ∷ bs) laid h =
    rw (behind_range at len x (omega (arith, laid.0.within, h)), none_behind size (at + len + 1) x bs laid.1 h) refl

differ : true ≡ false → ⊥
differ e = cc

-- the first byte of a first block is free
first_free : (at len : ℕ) (bs : List (ℕ × ℕ)) → 4 ≤ len → is_free ((at, len) ∷ bs) at ≡ true
first_free at len bs h = rw (in_range at len at (omega arith) (omega (arith, h))) refl

or_false : (a b : Bool) → (a || b) ≡ false → a ≡ false
or_false true b h = absurd (differ h)
or_false false b h = refl

or_true : (a b : Bool) → a ≡ true → (a || b) ≡ true
or_true a b h = rw h refl

order_arms : (a b : ℕ) → (a < b → ⊥) → (b < a → ⊥) → (a < b) ⊎ (b ≤ a) → (b < a) ⊎ (a ≤ b) → a ≡ b
order_arms a b h k (inl x) y = absurd (h x)
order_arms a b h k (inr x) (inl y) = absurd (k y)
order_arms a b h k (inr x) (inr y) = omega (arith, x, y)

no_order : (a b : ℕ) → (a < b → ⊥) → (b < a → ⊥) → a ≡ b
no_order a b h k = order_arms a b h k (cases_lt a b) (cases_lt b a)

less_arms : (a b : ℕ) → (a < b → ⊥) → (a < b) ⊎ (b ≤ a) → b ≤ a
less_arms a b h (inl x) = absurd (h x)
less_arms a b h (inr x) = x

no_less : (a b : ℕ) → (a < b → ⊥) → b ≤ a
no_less a b h = less_arms a b h (cases_lt a b)

or_tail : (a b : Bool) → a ≡ false → (a || b) ≡ b
or_tail a b h = rw h refl

equal : (a b : ℕ) → (a == b) ≡ true → a ≡ b
equal a b h = grind (arith, nat_tests)

apart : (a b : ℕ) → (a == b) ≡ false → a ≢ b
apart a b h = grind (arith, nat_tests)

less : (a b : ℕ) → (a == b) ≡ false → a ≤ b → a < b
less a b e h = grind (arith, nat_tests)

at_most : (a b : ℕ) → nat_le a b ≡ true → a ≤ b
at_most a b h = grind (arith, nat_tests)

lies_before : (at len x : ℕ) → lies_in at len x ≡ true → x < at + len
lies_before at len x h = grind (arith, nat_tests)

or_right : (a b : Bool) → b ≡ true → (a || b) ≡ true
or_right true b h = refl
or_right false b h = h

-- blocks that lie from a place on lie from each one before it
lower : (size low lower_place : ℕ) (bs : List (ℕ × ℕ)) → lower_place ≤ low → AreLaid size low bs → AreLaid size lower_place bs
lower size low lower_place bs h l = laid_before size low lower_place bs h l

begins_earlier : (size low at len p n : ℕ) (bs cs : List (ℕ × ℕ)) → AreLaid size low ((at, len) ∷ bs) → AreLaid size low ((p, n) ∷ cs)
    → is_free ((at, len) ∷ bs) at ≡ is_free ((p, n) ∷ cs) at → at < p → ⊥
begins_earlier size low at len p n bs cs l m same h =
    let moved : AreLaid size p ((p, n) ∷ cs) =
    (record { whole = m.0.whole; behind = omega arith; whole_length = m.0.whole_length; long = m.0.long; within = m.0.within }, m.1) in
    differ (sym (first_free at len bs l.0.long) ∙ same ∙ none_before size p at ((p, n) ∷ cs) moved h)

same_start : (size low at len p n : ℕ) (bs cs : List (ℕ × ℕ)) → AreLaid size low ((at, len) ∷ bs) → AreLaid size low ((p, n) ∷ cs)
    → ((x : ℕ) → x % 4 ≡ 0 → is_free ((at, len) ∷ bs) x ≡ is_free ((p, n) ∷ cs) x) → at ≡ p
same_start size low at len p n bs cs l m same =
    let earlier = begins_earlier size low at len p n bs cs l m (same at l.0.whole) in
    let later = begins_earlier size low p n at len cs bs m l (sym (same p m.0.whole)) in
    no_order at p earlier later

-- the byte behind a block isn't free
pub end_taken : (size low at len : ℕ) (bs : List (ℕ × ℕ)) → AreLaid size low ((at, len) ∷ bs) → is_free ((at, len) ∷ bs) (at + len) ≡ false
end_taken size low at len bs l =
    rw (behind_range at len (at + len) (omega arith), none_before size (at + len + 1) (at + len) bs l.1 (omega arith)) refl

ends_earlier : (size low at len p n : ℕ) (bs cs : List (ℕ × ℕ)) → AreLaid size low ((at, len) ∷ bs)
    → is_free ((at, len) ∷ bs) (at + len) ≡ is_free ((p, n) ∷ cs) (at + len) → at ≡ p → at + len < p + n → ⊥
ends_earlier size low at len p n bs cs l same e h =
    let here = in_range p n (at + len) (omega (arith, e)) h in
    differ (sym (or_true (lies_in p n (at + len)) (is_free cs (at + len)) here) ∙ sym same ∙ end_taken size low at len bs l)

same_end : (size low at len p n : ℕ) (bs cs : List (ℕ × ℕ)) → AreLaid size low ((at, len) ∷ bs) → AreLaid size low ((p, n) ∷ cs)
    → ((x : ℕ) → x % 4 ≡ 0 → is_free ((at, len) ∷ bs) x ≡ is_free ((p, n) ∷ cs) x) → at ≡ p → at + len ≡ p + n
same_end size low at len p n bs cs l m same e =
    let a = l.0 in
    let b = m.0 in
    let one : (at + len) % 4 ≡ 0 = omega (arith, a.whole, a.whole_length) in
    let two : (p + n) % 4 ≡ 0 = omega (arith, b.whole, b.whole_length) in
    let earlier = ends_earlier size low at len p n bs cs l (same (at + len) one) e in
    let later = ends_earlier size low p n at len cs bs m (sym (same (p + n) two)) (sym e) in
    no_order (at + len) (p + n) earlier later

tail_at : (size low at len p n x : ℕ) (bs cs : List (ℕ × ℕ)) → AreLaid size low ((at, len) ∷ bs) → AreLaid size low ((p, n) ∷ cs)
    → is_free ((at, len) ∷ bs) x ≡ is_free ((p, n) ∷ cs) x → at + len ≡ p + n → (x < at + len + 1) ⊎ (at + len + 1 ≤ x)
    → is_free bs x ≡ is_free cs x
tail_at size low at len p n x bs cs l m same e (inl h) =
    none_before size (at + len + 1) x bs l.1 h ∙ sym (none_before size (p + n + 1) x cs m.1 (omega (arith, e, h)))
tail_at size low at len p n x bs cs l m same e (inr h) =
    sym (or_tail (lies_in at len x) (is_free bs x) (behind_range at len x (omega (arith, h)))) ∙ same
    ∙ or_tail (lies_in p n x) (is_free cs x) (behind_range p n x (omega (arith, e, h)))

same_tail : (size low at len p n : ℕ) (bs cs : List (ℕ × ℕ)) → AreLaid size low ((at, len) ∷ bs) → AreLaid size low ((p, n) ∷ cs)
    → ((x : ℕ) → x % 4 ≡ 0 → is_free ((at, len) ∷ bs) x ≡ is_free ((p, n) ∷ cs) x) → at ≡ p → at + len ≡ p + n
    → (x : ℕ) → x % 4 ≡ 0 → is_free bs x ≡ is_free cs x
same_tail size low at len p n bs cs l m same s e x w = tail_at size low at len p n x bs cs l m (same x w) e (cases_lt x (at + len + 1))

pair_same : (at len p n : ℕ) (bs cs : List (ℕ × ℕ)) → at ≡ p → len ≡ n → bs ≡ cs → (at, len) ∷ bs ≡ (p, n) ∷ cs
pair_same at len p n bs cs e f g = rw (e, f, g) refl

-- two lists of blocks with the same free bytes, at each multiple of 4, are one
pub one_form : (size low : ℕ) (bs cs : List (ℕ × ℕ)) → AreLaid size low bs → AreLaid size low cs
    → ((x : ℕ) → x % 4 ≡ 0 → is_free bs x ≡ is_free cs x) → bs ≡ cs
one_form size low [] [] l m same = refl
one_form size low [] ((p, n) ∷ cs) l m same =
    absurd (differ (sym (same p m.0.whole ∙ first_free p n cs m.0.long)))
one_form size low ((at, len) ∷ bs) [] l m same =
    absurd (differ (sym (first_free at len bs l.0.long) ∙ same at l.0.whole))
one_form size low ((at, len) ∷ bs) ((p, n) ∷ cs) l m same =
    let a = l.0 in
    let b = m.0 in
    let starts = same_start size low at len p n bs cs l m same in
    let ends = same_end size low at len p n bs cs l m same starts in
    let P : ℕ → Type 0 = λ k. AreLaid size (k + 1) cs in
    let tail = one_form size (at + len + 1) bs cs l.1 (subst P (sym ends) m.1) (same_tail size low at len p n bs cs l m same starts ends) in
    pair_same at len p n bs cs starts (omega (arith, starts, ends)) tail

-- a byte is free behind a block that was taken exactly where it was and doesn't lie in what was taken
abbrev pub LeavesFree : ℕ → List (ℕ × ℕ) → ℕ → Option (ℕ × List (ℕ × ℕ)) → ℕ → Type 0
LeavesFree low bs count None x = Unit {0}
LeavesFree low bs count (Some t) x = (low ≤ t.0) × (is_free t.1 x ≡ (is_free bs x && not (lies_in t.0 count x)))

and_true : (a : Bool) → (a && true) ≡ a
and_true true = refl
and_true false = refl

front_at : (at len count x : ℕ) (rest : Bool) → count < len → (x < at + len + 1 → rest ≡ false)
    → (x < at) ⊎ (((at ≤ x) × (x < at + count)) ⊎ (at + count ≤ x)) → (x < at) ⊎ (((at ≤ x) × (x < at + len)) ⊎ (at + len ≤ x))
    → (lies_in (at + count) (len - count) x || rest) ≡ ((lies_in at len x || rest) && not (lies_in at count x))
front_at at len count x rest h none (inl a) w =
    rw (before_range (at + count) (len - count) x (omega (arith, a)), before_range at len x a, before_range at count x a) (sym (and_true rest))
front_at at len count x rest h none (inr (inl k)) w =
    rw (before_range (at + count) (len - count) x k.1, in_range at len x k.0 (omega (arith, k.1, h)), in_range at count x k.0 k.1) (none (omega (arith, k.1, h)))
front_at at len count x rest h none (inr (inr a)) (inl b) = absurd (omega (arith, a, b))
front_at at len count x rest h none (inr (inr a)) (inr (inl k)) =
    rw (in_range (at + count) (len - count) x a (omega (arith, k.1, h)), in_range at len x k.0 k.1, behind_range at count x a) refl
front_at at len count x rest h none (inr (inr a)) (inr (inr b)) =
    rw (behind_range (at + count) (len - count) x (omega (arith, b, h)), behind_range at len x b, behind_range at count x a) (sym (and_true rest))

-- free bytes behind a block that is taken whole: `rest` says of those behind it
whole_gone : (at len x : ℕ) (rest : Bool) → (x < at + len + 1 → rest ≡ false) → (x < at) ⊎ (((at ≤ x) × (x < at + len)) ⊎ (at + len ≤ x))
    → rest ≡ ((lies_in at len x || rest) && not (lies_in at len x))
whole_gone at len x rest none (inl a) = rw (before_range at len x a) (sym (and_true rest))
whole_gone at len x rest none (inr (inl k)) = rw (in_range at len x k.0 k.1) (none (omega (arith, k.1)))
whole_gone at len x rest none (inr (inr b)) = rw (behind_range at len x b) (sym (and_true rest))

taken_here : (at len count x : ℕ) (bs : List (ℕ × ℕ)) (same : Bool) → (count == len) ≡ same → count ≤ len → (x < at + len + 1 → is_free bs x ≡ false)
    → is_free (if same then bs else (at + count, len - count) ∷ bs) x ≡ ((lies_in at len x || is_free bs x) && not (lies_in at count x))
taken_here at len count x bs true e h none =
    let P : ℕ → Type 0 = λ n. is_free bs x ≡ ((lies_in at len x || is_free bs x) && not (lies_in at n x)) in
    subst P (sym (equal count len e)) (whole_gone at len x (is_free bs x) none (place_cases at len x))
taken_here at len count x bs false e h none =
    front_at at len count x (is_free bs x) (less count len e h) none (place_cases at count x) (place_cases at len x)

later_arm : (a b c d : Bool) → (a ≡ true → d ≡ false) → b ≡ (c && not d) → (a || b) ≡ ((a || c) && not d)
later_arm true b c d f e = rw (f refl) refl
later_arm false b c d f e = e

is_before : (at len x v count : ℕ) → at + len + 1 ≤ v → lies_in at len x ≡ true → lies_in v count x ≡ false
is_before at len x v count h e = before_range v count x (omega (arith, lies_before at len x e, h))

later_free : (size low at len count x : ℕ) (bs : List (ℕ × ℕ)) (r : Option (ℕ × List (ℕ × ℕ))) → low ≤ at → LeavesFree (at + len + 1) bs count r x
    → LeavesFree low ((at, len) ∷ bs) count (option_map (λ t. (t.0, (at, len) ∷ t.1)) r) x
later_free size low at len count x bs None h t = tt
later_free size low at len count x bs (Some (v, left)) h t = (
  omega (arith, h, t.0),
  later_arm (lies_in at len x) (is_free left x) (is_free bs x) (lies_in v count x) (is_before at len x v count t.0) t.1,
)

taken_arms : (size low at len count x : ℕ) (bs : List (ℕ × ℕ)) (fits : Bool) → nat_le count len ≡ fits → AreLaid size low ((at, len) ∷ bs)
    → LeavesFree (at + len + 1) bs count (take_from count bs) x
    → LeavesFree low ((at, len) ∷ bs) count (if fits then Some (at, (if count == len then bs else (at + count, len - count) ∷ bs)) else option_map (λ t. (t.0, (at, len) ∷ t.1)) (take_from count bs)) x
taken_arms size low at len count x bs true e l later =
    (l.0.behind, taken_here at len count x bs (count == len) refl (at_most count len e) (none_before size (at + len + 1) x bs l.1))
taken_arms size low at len count x bs false e l later = later_free size low at len count x bs (take_from count bs) l.0.behind later

-- what is free behind a block that was taken
pub taken_free : (size low count x : ℕ) (bs : List (ℕ × ℕ)) → AreLaid size low bs → LeavesFree low bs count (take_from count bs) x
taken_free size low count x [] l = tt
taken_free size low count x ((at, len) ∷ bs) l =
    taken_arms size low at len count x bs (nat_le count len) refl l (taken_free size (at + len + 1) count x bs l.1)

-- what is left behind a block that was taken lies as blocks do
abbrev pub AreLeft : ℕ → ℕ → Option (ℕ × List (ℕ × ℕ)) → Type 0
AreLeft size low None = Unit {0}
AreLeft size low (Some t) = (low ≤ t.0) × AreLaid size low t.1

left_here : (size low at len count : ℕ) (bs : List (ℕ × ℕ)) (same : Bool) → (count == len) ≡ same → count ≤ len → count % 4 ≡ 0
    → AreLaid size low ((at, len) ∷ bs) → AreLaid size low (if same then bs else (at + count, len - count) ∷ bs)
left_here size low at len count bs true e h w l = lower size (at + len + 1) low bs (omega (arith, l.0.behind)) l.1
left_here size low at len count bs false e h w l =
    let b = l.0 in
    let k = less count len e h in
    let block : IsBlock size low (at + count) (len - count) = record {
      whole = omega (arith, b.whole, w);
      behind = omega (arith, b.behind);
      whole_length = omega (arith, b.whole_length, w);
      long = omega (arith, b.whole_length, w, k);
      within = omega (arith, b.within, k);
    } in
    (block, lower size (at + len + 1) ((at + count) + (len - count) + 1) bs (omega (arith, k)) l.1)

left_later : (size low at len : ℕ) (r : Option (ℕ × List (ℕ × ℕ))) → IsBlock size low at len → AreLeft size (at + len + 1) r
    → AreLeft size low (option_map (λ t. (t.0, (at, len) ∷ t.1)) r)
left_later size low at len None b a = tt
left_later size low at len (Some (v, left)) b a = (omega (arith, b.behind, a.0), (b, a.1))

left_arms : (size low at len count : ℕ) (bs : List (ℕ × ℕ)) (fits : Bool) → nat_le count len ≡ fits → count % 4 ≡ 0 → AreLaid size low ((at, len) ∷ bs)
    → AreLeft size (at + len + 1) (take_from count bs)
    → AreLeft size low (if fits then Some (at, (if count == len then bs else (at + count, len - count) ∷ bs)) else option_map (λ t. (t.0, (at, len) ∷ t.1)) (take_from count bs))
left_arms size low at len count bs true e w l later = (l.0.behind, left_here size low at len count bs (count == len) refl (at_most count len e) w l)
left_arms size low at len count bs false e w l later = left_later size low at len (take_from count bs) l.0 later

pub taken_laid : (size low count : ℕ) (bs : List (ℕ × ℕ)) → count % 4 ≡ 0 → AreLaid size low bs → AreLeft size low (take_from count bs)
taken_laid size low count [] w l = tt
taken_laid size low count ((at, len) ∷ bs) w l =
    left_arms size low at len count bs (nat_le count len) refl w l (taken_laid size (at + len + 1) count bs w l.1)

-- a block was taken that begins at a place or before it
pub record IsTakenBy (count x : ℕ) (r : Option (ℕ × List (ℕ × ℕ))) : Type 0 where
  pub value : ℕ
  pub left : List (ℕ × ℕ)
  pub is : r ≡ Some (value, left)
  pub low : value ≤ x

run_here : (at count len x : ℕ) (bs : List (ℕ × ℕ)) (fits : Bool) → nat_le count len ≡ fits → at ≤ x → (fits ≡ false → IsTakenBy count x (take_from count bs))
    → IsTakenBy count x (if fits then Some (at, (if count == len then bs else (at + count, len - count) ∷ bs)) else option_map (λ t. (t.0, (at, len) ∷ t.1)) (take_from count bs))
run_here at count len x bs true e h later =
    record { value = at; left = if count == len then bs else (at + count, len - count) ∷ bs; is = refl; low = h }
run_here at count len x bs false e h later =
    let t = later refl in
    record { value = t.value; left = (at, len) ∷ t.left; is = ap (option_map (λ t. (t.0, (at, len) ∷ t.1))) t.is; low = t.low }

run_arms : (size low count x at len : ℕ) (bs : List (ℕ × ℕ)) → AreLaid size low ((at, len) ∷ bs) → x % 4 ≡ 0 → 4 ≤ count
    → ((y : ℕ) → y % 4 ≡ 0 → x ≤ y → y < x + count → is_free ((at, len) ∷ bs) y ≡ true)
    → (x < at) ⊎ (((at ≤ x) × (x < at + len)) ⊎ (at + len ≤ x)) → (at + len ≤ x → IsTakenBy count x (take_from count bs))
    → IsTakenBy count x (take_from count ((at, len) ∷ bs))
run_arms size low count x at len bs l w long run (inl h) later =
    let b = l.0 in
    let moved : AreLaid size at ((at, len) ∷ bs) =
    (record { whole = b.whole; behind = omega arith; whole_length = b.whole_length; long = b.long; within = b.within }, l.1) in
    absurd (differ (sym (run x w (omega arith) (omega (arith, long))) ∙ none_before size at x ((at, len) ∷ bs) moved h))
run_arms size low count x at len bs l w long run (inr (inl k)) later =
    let b = l.0 in
    let end : (at + len) % 4 ≡ 0 = omega (arith, b.whole, b.whole_length) in
    let short : at + len < x + count → ⊥ = λ h. differ (sym (run (at + len) end (omega (arith, k.1)) h) ∙ end_taken size low at len bs l) in
    let fits : count ≤ len = no_less len count (λ h. short (omega (arith, h, k.0))) in
    run_here at count len x bs (nat_le count len) refl k.0 (λ e. absurd (differ (sym (is_le count len fits) ∙ e)))
run_arms size low count x at len bs l w long run (inr (inr h)) later =
    run_here at count len x bs (nat_le count len) refl (omega (arith, h)) (λ e. later h)

-- where so many bytes in a row are free, a block is taken that begins there or before
pub run_taken : (size low count x : ℕ) (bs : List (ℕ × ℕ)) → AreLaid size low bs → x % 4 ≡ 0 → 4 ≤ count
    → ((y : ℕ) → y % 4 ≡ 0 → x ≤ y → y < x + count → is_free bs y ≡ true) → IsTakenBy count x (take_from count bs)
run_taken size low count x [] l w long run = absurd (differ (sym (run x w (omega arith) (omega (arith, long)))))
run_taken size low count x ((at, len) ∷ bs) l w long run =
    run_arms size low count x at len bs l w long run (place_cases at len x)
    (λ h. run_taken size (at + len + 1) count x bs l.1 w long (λ y v a b. sym (or_tail (lies_in at len y) (is_free bs y) (behind_range at len y (omega (arith, h, a)))) ∙ run y v a b))

-- what is taken was free
abbrev pub WasFree : ℕ → List (ℕ × ℕ) → Option (ℕ × List (ℕ × ℕ)) → ℕ → Type 0
WasFree count bs None y = Unit {0}
WasFree count bs (Some t) y = t.0 ≤ y → y < t.0 + count → is_free bs y ≡ true

was_later : (at len count y : ℕ) (bs : List (ℕ × ℕ)) (r : Option (ℕ × List (ℕ × ℕ))) → WasFree count bs r y
    → WasFree count ((at, len) ∷ bs) (option_map (λ t. (t.0, (at, len) ∷ t.1)) r) y
was_later at len count y bs None t = tt
was_later at len count y bs (Some (v, left)) t = λ a b. or_right (lies_in at len y) (is_free bs y) (t a b)

was_arms : (at len count y : ℕ) (bs : List (ℕ × ℕ)) (fits : Bool) → nat_le count len ≡ fits → WasFree count bs (take_from count bs) y
    → WasFree count ((at, len) ∷ bs) (if fits then Some (at, (if count == len then bs else (at + count, len - count) ∷ bs)) else option_map (λ t. (t.0, (at, len) ∷ t.1)) (take_from count bs)) y
was_arms at len count y bs true e later = λ a b. or_true (lies_in at len y) (is_free bs y) (in_range at len y a (omega (arith, b, at_most count len e)))
was_arms at len count y bs false e later = was_later at len count y bs (take_from count bs) later

pub was_free : (count y : ℕ) (bs : List (ℕ × ℕ)) → WasFree count bs (take_from count bs) y
was_free count y [] = tt
was_free count y ((at, len) ∷ bs) = was_arms at len count y bs (nat_le count len) refl (was_free count y bs)

span_behind : (at len more x : ℕ) (rest : Bool) → at + len ≤ x → (x < at + len) ⊎ (((at + len ≤ x) × (x < (at + len) + more)) ⊎ ((at + len) + more ≤ x))
    → (lies_in at (len + more) x || rest) ≡ (lies_in (at + len) more x || rest)
span_behind at len more x rest b (inl a) = absurd (omega (arith, a, b))
span_behind at len more x rest b (inr (inl k)) = rw (in_range at (len + more) x (omega (arith, b)) (omega (arith, k.1)), in_range (at + len) more x k.0 k.1) refl
span_behind at len more x rest b (inr (inr c)) = rw (behind_range at (len + more) x (omega (arith, c)), behind_range (at + len) more x c) refl

-- free bytes of two ranges that touch are those of one
span : (at len more x : ℕ) (rest : Bool) → (x < at) ⊎ (((at ≤ x) × (x < at + len)) ⊎ (at + len ≤ x)) → (lies_in at (len + more) x || rest)
    ≡ (lies_in at len x || (lies_in (at + len) more x || rest))
span at len more x rest (inl a) = rw (before_range at (len + more) x a, before_range at len x a, before_range (at + len) more x (omega (arith, a))) refl
span at len more x rest (inr (inl k)) = rw (in_range at (len + more) x k.0 (omega (arith, k.1)), in_range at len x k.0 k.1) refl
span at len more x rest (inr (inr b)) = rw (behind_range at len x b) (span_behind at len more x rest b (place_cases (at + len) more x))

join_arm : (at len p l x : ℕ) (bs : List (ℕ × ℕ)) (touch : Bool) → (at + len == p) ≡ touch
    → is_free (if touch then (at, len + l) ∷ bs else (at, len) ∷ (p, l) ∷ bs) x ≡ (lies_in at len x || is_free ((p, l) ∷ bs) x)
join_arm at len p l x bs true e =
    let P : ℕ → Type 0 = λ k. (lies_in at (len + l) x || is_free bs x) ≡ (lies_in at len x || (lies_in k l x || is_free bs x)) in
    subst P (equal (at + len) p e) (span at len l x (is_free bs x) (place_cases at len x))
join_arm at len p l x bs false e = refl

-- what is free behind a join
joined_free : (at len x : ℕ) (bs : List (ℕ × ℕ)) → is_free (join (at, len) bs) x ≡ (lies_in at len x || is_free bs x)
joined_free at len x [] = refl
joined_free at len x ((p, l) ∷ bs) = join_arm at len p l x bs (at + len == p) refl

swapped : (a b c : Bool) → (a || (b || c)) ≡ (b || (a || c))
swapped true true c = refl
swapped true false c = refl
swapped false true c = refl
swapped false false c = refl

insert_arm : (p l o c x : ℕ) (bs : List (ℕ × ℕ)) (touch below : Bool) → (p + l == o) ≡ touch → is_free (insert (o, c) bs) x ≡ (lies_in o c x || is_free bs x)
    → is_free (if touch then join (p, l + c) bs else if below then (p, l) ∷ insert (o, c) bs else join (o, c) ((p, l) ∷ bs)) x
    ≡ (lies_in o c x || (lies_in p l x || is_free bs x))
insert_arm p l o c x bs true below e later =
    let P : ℕ → Type 0 = λ k. (lies_in p (l + c) x || is_free bs x) ≡ (lies_in p l x || (lies_in k c x || is_free bs x)) in
    joined_free p (l + c) x bs ∙ subst P (equal (p + l) o e) (span p l c x (is_free bs x) (place_cases p l x)) ∙ swapped (lies_in p l x) (lies_in o c x) (is_free bs x)
insert_arm p l o c x bs false true e later =
    ap (λ r. lies_in p l x || r) later ∙ swapped (lies_in p l x) (lies_in o c x) (is_free bs x)
insert_arm p l o c x bs false false e later = joined_free o c x ((p, l) ∷ bs)

-- what is free behind a range that is freed
pub inserted_free : (o c x : ℕ) (bs : List (ℕ × ℕ)) → is_free (insert (o, c) bs) x ≡ (lies_in o c x || is_free bs x)
inserted_free o c x [] = refl
inserted_free o c x ((p, l) ∷ bs) = insert_arm p l o c x bs (p + l == o) (nat_lt p o) refl (inserted_free o c x bs)

join_laid_arm : (size low at len p l : ℕ) (bs : List (ℕ × ℕ)) (touch : Bool) → (at + len == p) ≡ touch → IsBlock size low at len → AreLaid size (at + len) ((p, l) ∷ bs)
    → AreLaid size low (if touch then (at, len + l) ∷ bs else (at, len) ∷ (p, l) ∷ bs)
join_laid_arm size low at len p l bs true e b laid =
    let c = laid.0 in
    let same = equal (at + len) p e in (
      record { whole = b.whole; behind = b.behind; whole_length = omega (arith, b.whole_length, c.whole_length); long = omega (arith, b.long); within = omega (arith, c.within, same) },
      lower size (p + l + 1) (at + (len + l) + 1) bs (omega (arith, same)) laid.1,
    )
join_laid_arm size low at len p l bs false e b laid =
    let c = laid.0 in
    let far = apart (at + len) p e in
    (b, (record { whole = c.whole; behind = omega (arith, c.behind, far); whole_length = c.whole_length; long = c.long; within = c.within }, laid.1))

joined_laid : (size low at len : ℕ) (bs : List (ℕ × ℕ)) → IsBlock size low at len → AreLaid size (at + len) bs → AreLaid size low (join (at, len) bs)
joined_laid size low at len [] b laid = (b, tt)
joined_laid size low at len ((p, l) ∷ bs) b laid = join_laid_arm size low at len p l bs (at + len == p) refl b laid

insert_laid_arm : (size low p l o c : ℕ) (bs : List (ℕ × ℕ)) (touch below : Bool) → (p + l == o) ≡ touch → nat_lt p o ≡ below
    → AreLaid size low ((p, l) ∷ bs) → IsBlock size low o c → meets o (o + c) ((p, l) ∷ bs) ≡ false
    → (p + l < o → meets o (o + c) bs ≡ false → AreLaid size (p + l + 1) (insert (o, c) bs))
    → AreLaid size low (if touch then join (p, l + c) bs else if below then (p, l) ∷ insert (o, c) bs else join (o, c) ((p, l) ∷ bs))
insert_laid_arm size low p l o c bs true below t u laid b clear later =
    let a = laid.0 in
    let same = equal (p + l) o t in
    let behind = clear_behind size (p + l + 1) o c bs (omega (arith, same)) laid.1 (clear_rest (nat_lt p (o + c) && nat_lt o (p + l)) (meets o (o + c) bs) clear) in
    joined_laid size low p (l + c) bs
    (record { whole = a.whole; behind = a.behind; whole_length = omega (arith, a.whole_length, b.whole_length); long = omega (arith, a.long); within = omega (arith, b.within, same) })
    (lower size (o + c) (p + (l + c)) bs (omega (arith, same)) behind)
insert_laid_arm size low p l o c bs false true t u laid b clear later =
    let f = clear_first (nat_lt p (o + c) && nat_lt o (p + l)) (meets o (o + c) bs) clear in
    (laid.0, later (ends_before p l o c f t (lt_true p o u)) (clear_rest (nat_lt p (o + c) && nat_lt o (p + l)) (meets o (o + c) bs) clear))
insert_laid_arm size low p l o c bs false false t u laid b clear later =
    let a = laid.0 in
    let f = clear_first (nat_lt p (o + c) && nat_lt o (p + l)) (meets o (o + c) bs) clear in
    joined_laid size low o c ((p, l) ∷ bs) b
    (record { whole = a.whole; behind = begins_behind p l o c f (lt_false p o u) a.long; whole_length = a.whole_length; long = a.long; within = a.within }, laid.1)

-- blocks with a range that doesn't meet them lie as blocks do
pub inserted_laid : (size low o c : ℕ) (bs : List (ℕ × ℕ)) → AreLaid size low bs → IsBlock size low o c → meets o (o + c) bs ≡ false
    → AreLaid size low (insert (o, c) bs)
inserted_laid size low o c [] laid b clear = (b, tt)
inserted_laid size low o c ((p, l) ∷ bs) laid b clear =
    insert_laid_arm size low p l o c bs (p + l == o) (nat_lt p o) refl refl laid b clear
    (λ far rest. inserted_laid size (p + l + 1) o c bs laid.1
    (record { whole = b.whole; behind = omega arith; whole_length = b.whole_length; long = b.long; within = b.within }) rest)
