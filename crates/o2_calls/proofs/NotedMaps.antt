-- What is noted, as far as loops have come, and where it lies.
use Rattle.std.proofs.Common.{◌≡◌, ℕ, zero, suc, ◌+◌, ◌-◌, ◌<◌, ◌≤◌, ◌&&◌, nat_le, nat_lt, Bool, true, false, cond, List, [], ◌∷◌, ◌++◌, Option, Some, None, refl, sym, ap, ◌∙◌, arith, append-nil}
use Rattle.std.specs.Prelude.{flat_map}
use Rattle.std.specs.List.{list_all}
use Rattle.std.proofs.lemmas.Grind.{flat_map-append}
use Rattle.o2_regions.specs.declared.held.Held.{Held}
use Rattle.o2_regions.specs.Maps.{Maps, held_at}
use Rattle.o2_world.specs.Rulings.{indexes}
use Rattle.o2_gate.specs.declared.moves.Block.{Block}
use Rattle.o2_gate.specs.MovedLines.{AreInside}
use Rattle.o2_huge.specs.Growth.{is_of_run}
use Rattle.o2_huge.specs.Resized.{is_member_in}
use Rattle.o2_calls.specs.Noted.{came, grown, in_table, is_inside, members_from, share_block}

-- Members are counted one by one.

pub from_next : (m : Maps) (pid first j c : ℕ) → 0 < c → is_member_in m pid first j ≡ true → members_from m pid first j c ≡ suc (members_from m pid first (j + 1) (c - 1))
from_next m pid first j zero some is = absurd (omega (arith, some))
from_next m pid first j (suc c) some is =
    let rest : suc c - 1 ≡ c = omega arith in
    ap (λ (b : Bool). cond b (suc (members_from m pid first (j + 1) c)) 0) is ∙ sym (ap (λ (d : ℕ). suc (members_from m pid first (j + 1) d)) rest)

-- as many were passed, and the rest is to be counted
abbrev pub SoMany : Maps → (pid first index count place : ℕ) → Type 0
SoMany m pid first i c n = (n ≤ c) × (members_from m pid first i c ≡ n + members_from m pid first (i + n) (c - n))

pub many_first : (m : Maps) (pid first i c : ℕ) → SoMany m pid first i c 0
many_first m pid first i c =
    let a : i + 0 ≡ i = omega arith in
    let b : c - 0 ≡ c = omega arith in
    let e : members_from m pid first (i + 0) (c - 0) ≡ members_from m pid first i c = ap (λ (j : ℕ). members_from m pid first j (c - 0)) a ∙ ap (members_from m pid first i) b in
    (omega arith, omega (arith, e))

pub many_next : (m : Maps) (pid first i c n : ℕ) → n < c → is_member_in m pid first (i + n) ≡ true → SoMany m pid first i c n → SoMany m pid first i c (n + 1)
many_next m pid first i c n less is many =
    let step = from_next m pid first (i + n) (c - n) (omega (arith, less)) is in
    let a : i + n + 1 ≡ i + (n + 1) = omega arith in
    let b : c - n - 1 ≡ c - (n + 1) = omega arith in
    let e : members_from m pid first (i + n + 1) (c - n - 1) ≡ members_from m pid first (i + (n + 1)) (c - (n + 1)) = ap (λ (j : ℕ). members_from m pid first j (c - n - 1)) a ∙ ap (members_from m pid first (i + (n + 1))) b in
    let was = many.1 in
    (omega (arith, less), omega (arith, was, step, e))

-- Blocks of the processes that hold a run, one process more.

indexes_more : (a n : ℕ) → indexes a (n + 1) ≡ indexes a n ++ (a + n) ∷ []
indexes_more a n = ap (indexes a) (let e : n + 1 ≡ suc n = omega arith in e) ∙ rises a n
  where
    rises : (a n : ℕ) → indexes a (suc n) ≡ indexes a n ++ (a + n) ∷ []
    rises a zero = let e : a + 0 ≡ a = omega arith in ap (λ (x : ℕ). x ∷ []) (sym e)
    rises a (suc n) = ap (λ (is : List ℕ). a ∷ is) (rises (a + 1) n ∙ ap (λ (x : ℕ). indexes (a + 1) n ++ x ∷ []) (let e : a + 1 + n ≡ a + suc n = omega arith in e))

abbrev pub so_far : Maps → (first index count n : ℕ) → List Block
so_far m first i c n = flat_map (λ (q : ℕ). share_block first i c q (held_at m q first)) (indexes 1 n)

pub next_shares : (m : Maps) (first i c n : ℕ) → so_far m first i c (n + 1) ≡ so_far m first i c n ++ share_block first i c (n + 1) (held_at m (n + 1) first)
next_shares m first i c n =
    let f : ℕ → List Block = λ q. share_block first i c q (held_at m q first) in
    let e : 1 + n ≡ n + 1 = omega arith in
    ap (flat_map f) (indexes_more 1 n)
    ∙ (flat_map-append f (indexes 1 n) ((1 + n) ∷ [])
    ∙ (ap (λ (bs : List Block). flat_map f (indexes 1 n) ++ bs) (append-nil (f (1 + n)))
    ∙ ap (λ (q : ℕ). flat_map f (indexes 1 n) ++ f q) e))

-- Where they lie.

le_is : (a b : ℕ) → a ≤ b → nat_le a b ≡ true
le_is a b e = grind arith

le_of : (a b : ℕ) → nat_le a b ≡ true → a ≤ b
le_of a b e = grind arith

over_is : (a b : ℕ) → b < a → nat_le a b ≡ false
over_is a b e = grind arith

all_inside : (bs : List Block) → AreInside bs → list_all is_inside bs ≡ true
all_inside [] are = refl
all_inside (b ∷ bs) are = ap (λ (t : Bool). t && list_all is_inside bs) (le_is (b.index + b.count) 8192 are.0) ∙ all_inside bs are.1

pub all_in_table : (bs : List Block) → AreInside bs → in_table bs ≡ bs
all_in_table bs are = ap (λ (t : Bool). cond t bs []) (all_inside bs are)

inside_of : (bs : List Block) → list_all is_inside bs ≡ true → AreInside bs
inside_of [] is = tt
inside_of (b ∷ bs) is = go (nat_le (b.index + b.count) 8192) refl is (inside_of bs)
  where
    go : (t : Bool) → nat_le (b.index + b.count) 8192 ≡ t → (t && list_all is_inside bs) ≡ true → (list_all is_inside bs ≡ true → AreInside bs) → (b.index + b.count ≤ 8192) × AreInside bs
    go true e f rest = (le_of (b.index + b.count) 8192 e, rest f)
    go false e f rest = absurd (cc)

pub table_inside : (bs : List Block) → AreInside (in_table bs)
table_inside bs = go (list_all is_inside bs) refl
  where
    go : (t : Bool) → list_all is_inside bs ≡ t → AreInside (cond t bs [])
    go true e = inside_of bs e
    go false e = tt

pub one_outside : (b : Block) → 8192 < b.index + b.count → [] ≡ in_table (b ∷ [])
one_outside b high = sym (ap (λ (t : Bool). cond (t && true) (b ∷ []) []) (over_is (b.index + b.count) 8192 high))

-- the blocks of a run's holders have one stretch
stretch_inside : (first i c q : ℕ) (o : Option Held) (bs : List Block) → i + c ≤ 8192 → AreInside bs → AreInside (share_block first i c q o ++ bs)
stretch_inside first i c q None bs low are = are
stretch_inside first i c q (Some h) bs low are = go (is_of_run first h)
  where
    go : (t : Bool) → AreInside (cond t (came q i c h.holds ∷ []) [] ++ bs)
    go true = (low, are)
    go false = are

pub shares_inside : (m : Maps) (first i c : ℕ) → i + c ≤ 8192 → (ns : List ℕ) → AreInside (flat_map (λ (q : ℕ). share_block first i c q (held_at m q first)) ns)
shares_inside m first i c low [] = tt
shares_inside m first i c low (q ∷ ns) = stretch_inside first i c q (held_at m q first) _ low (shares_inside m first i c low ns)

pub shares_outside : (m : Maps) (first i c : ℕ) → 8192 < i + c → (ns : List ℕ) → in_table (flat_map (λ (q : ℕ). share_block first i c q (held_at m q first)) ns) ≡ []
shares_outside m first i c high [] = refl
shares_outside m first i c high (q ∷ ns) = one (held_at m q first) (shares_outside m first i c high ns)
  where
    rest : List Block
    rest = flat_map (λ (p : ℕ). share_block first i c p (held_at m p first)) ns

    one : (o : Option Held) → in_table rest ≡ [] → in_table (share_block first i c q o ++ rest) ≡ []
    one None none = none
    one (Some h) none = go (is_of_run first h)
      where
        go : (t : Bool) → in_table (cond t (came q i c h.holds ∷ []) [] ++ rest) ≡ []
        go true = ap (λ (t : Bool). cond (t && list_all is_inside rest) (came q i c h.holds ∷ rest) []) (over_is (i + c) 8192 high)
        go false = none

-- the blocks of new members, by where the stretch ends

pub grown_outside : (m : Maps) (pid first there wanted holds : ℕ) → there < wanted → 8192 < first + wanted → [] ≡ in_table (grown m pid first (first + there) (wanted - there) holds)
grown_outside m pid first there wanted holds less high = sym (go (nat_lt first 4096))
  where
    over : 8192 < first + there + (wanted - there)
    over = omega (arith, less, high)

    go : (t : Bool) → in_table (cond t (came pid (first + there) (wanted - there) holds ∷ []) (flat_map (λ (q : ℕ). share_block first (first + there) (wanted - there) q (held_at m q first)) (indexes 1 m.processes))) ≡ []
    go true = sym (one_outside (came pid (first + there) (wanted - there) holds) over)
    go false = shares_outside m first (first + there) (wanted - there) over (indexes 1 m.processes)

pub grown_shared : (m : Maps) (pid first there wanted holds : ℕ) → 4096 ≤ first → there < wanted → first + wanted ≤ 8192
    → flat_map (λ (q : ℕ). share_block first (first + there) (wanted - there) q (held_at m q first)) (indexes 1 m.processes) ≡ in_table (grown m pid first (first + there) (wanted - there) holds)
grown_shared m pid first there wanted holds high less low =
    sym (ap (λ (t : Bool). in_table (cond t (came pid (first + there) (wanted - there) holds ∷ []) (flat_map (λ (q : ℕ). share_block first (first + there) (wanted - there) q (held_at m q first)) (indexes 1 m.processes)))) (not_less first 4096 high)
    ∙ all_in_table _ (shares_inside m first (first + there) (wanted - there) (omega (arith, less, low)) (indexes 1 m.processes)))
  where
    not_less : (a b : ℕ) → b ≤ a → nat_lt a b ≡ false
    not_less a b e = grind arith
