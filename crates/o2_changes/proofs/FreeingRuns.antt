-- The indexes of a run are free one by one.
use Rattle.std.proofs.Common.{◌≡◌, ℕ, ◌+◌, ◌<◌, ◌≤◌, ◌==◌, ◌&&◌, nat_le, nat_lt, not, Bool, true, false, refl, sym, ap, ◌∙◌, arith, if◌then◌else◌}
use Rattle.o2_regions.specs.declared.held.Region.{Region}
use Rattle.o2_regions.specs.Maps.{IsRegion, Maps, end_of, first_of, is_held, is_taken, region_of, same_region}
use Rattle.o2_changes.specs.Holding.{FreesIndex, FreesRun}
use Rattle.o2_changes.proofs.Freeing.{held_same}
use Rattle.o2_changes.proofs.HoldsStand.{region_same}

-- the indexes below one may be chosen again where nobody of their region holds them
abbrev pub FreesBelow : Maps → Maps → (pid first end : ℕ) → Type 0
FreesBelow old new pid first end = (g : Region) (j : ℕ) → IsRegion old g → first_of g ≤ j → j < end_of g
    → is_taken new g j ≡ (if same_region g (region_of pid j) && (nat_le first j && nat_lt j end) then is_held old g j else is_taken old g j)

no_and : (b : Bool) → (b && false) ≡ false
no_and true = refl
no_and false = refl

empty : (f e j : ℕ) → e ≤ f → (nat_le f j && nat_lt j e) ≡ false
empty f e j l = grind arith

pub below_none : (m : Maps) (pid first end : ℕ) → end ≤ first → FreesBelow m m pid first end
below_none m pid first end l g j rg from to =
    sym (ap (λ (b : Bool). if same_region g (region_of pid j) && b then is_held m g j else is_taken m g j) (empty first end j l)
    ∙ ap (λ (b : Bool). if b then is_held m g j else is_taken m g j) (no_and (same_region g (region_of pid j))))

pub below_more : (l m n : Maps) (pid first k : ℕ) → first ≤ k → m ≡ record l { reserved = m.reserved } → n ≡ record m { reserved = n.reserved } → FreesBelow l m pid first k → FreesIndex m n pid k
    → FreesBelow l n pid first (k + 1)
below_more l m n pid first k low em en a b g j rg from to = go (j == k) refl
  where
    held_n : is_held n g j ≡ is_held l g j
    held_n =
        held_same m n g j (ap (λ (x : Maps). x.held) en) (ap (λ (x : Maps). x.processes) en)
        ∙ held_same l m g j (ap (λ (x : Maps). x.held) em) (ap (λ (x : Maps). x.processes) em)

    behind : is_taken n g j ≡ (if same_region g (region_of pid k) && (j == k) then is_held n g j else is_taken m g j)
    behind = b g j (region_same m l g (sym (ap (λ (x : Maps). x.processes) em)) rg) from to

    number_is : (x y : ℕ) → (x == y) ≡ true → x ≡ y
    number_is x y e = grind arith

    here : (f k j : ℕ) → f ≤ k → (j == k) ≡ true → (nat_le f j && nat_lt j (k + 1)) ≡ true
    here f k j l e = grind arith

    not_yet : (f k j : ℕ) → (j == k) ≡ true → (nat_le f j && nat_lt j k) ≡ false
    not_yet f k j e = grind arith

    other : (f k j : ℕ) → (j == k) ≡ false → (nat_le f j && nat_lt j (k + 1)) ≡ (nat_le f j && nat_lt j k)
    other f k j e = grind arith

    split : (s h t : Bool) → (if s && true then h else t) ≡ (if s then h else t)
    split true h t = refl
    split false h t = refl

    was : is_taken m g j ≡ (if same_region g (region_of pid j) && (nat_le first j && nat_lt j k) then is_held l g j else is_taken l g j)
    was = a g j rg from to

    go : (c : Bool) → (j == k) ≡ c → is_taken n g j ≡ (if same_region g (region_of pid j) && (nat_le first j && nat_lt j (k + 1)) then is_held l g j else is_taken l g j)
    go false e =
        behind
        ∙ (ap (λ (c : Bool). if same_region g (region_of pid k) && c then is_held n g j else is_taken m g j) e
        ∙ (ap (λ (c : Bool). if c then is_held n g j else is_taken m g j) (no_and (same_region g (region_of pid k)))
        ∙ (was ∙ ap (λ (c : Bool). if same_region g (region_of pid j) && c then is_held l g j else is_taken l g j) (sym (other first k j e)))))
    go true e =
        behind
        ∙ (ap (λ (c : Bool). if same_region g (region_of pid k) && c then is_held n g j else is_taken m g j) e
        ∙ (ap (λ (c : Bool). if same_region g (region_of pid k) && true then c else is_taken m g j) held_n
        ∙ (ap (λ (c : Bool). if same_region g (region_of pid k) && true then is_held l g j else c)
        (was ∙ (ap (λ (c : Bool). if same_region g (region_of pid j) && c then is_held l g j else is_taken l g j) (not_yet first k j e)
        ∙ ap (λ (c : Bool). if c then is_held l g j else is_taken l g j) (no_and (same_region g (region_of pid j)))))
        ∙ (ap (λ (x : ℕ). if same_region g (region_of pid x) && true then is_held l g j else is_taken l g j) (sym (number_is j k e))
        ∙ ap (λ (c : Bool). if same_region g (region_of pid j) && c then is_held l g j else is_taken l g j) (sym (here first k j low e))))))

-- all of them, where nobody of the region holds the first one
pub below_run : (l n : Maps) (pid first end : ℕ) → n ≡ record l { reserved = n.reserved } → is_held l (region_of pid first) first ≡ false → FreesBelow l n pid first end → FreesRun l n pid first end
below_run l n pid first end is none a g j rg from to =
    a g j rg from to
    ∙ (ap (λ (h : Bool). if same_region g (region_of pid j) && (nat_le first j && nat_lt j end) then h else is_taken l g j)
    (sym (held_same l n g j (ap (λ (x : Maps). x.held) is) (ap (λ (x : Maps). x.processes) is)))
    ∙ ap (λ (c : Bool). if not c && (same_region g (region_of pid j) && (nat_le first j && nat_lt j end)) then is_held n g j else is_taken l g j) (sym none))

-- and none, where somebody does, or where there is none
pub held_run : (l : Maps) (pid first end : ℕ) → is_held l (region_of pid first) first ≡ true → FreesRun l l pid first end
held_run l pid first end held g j rg from to =
    sym (ap (λ (c : Bool). if not c && (same_region g (region_of pid j) && (nat_le first j && nat_lt j end)) then is_held l g j else is_taken l g j) held)

pub no_run : (l : Maps) (pid first end : ℕ) → end ≤ first → FreesRun l l pid first end
no_run l pid first end less g j rg from to =
    sym (ap (λ (b : Bool). if not (is_held l (region_of pid first) first) && (same_region g (region_of pid j) && b) then is_held l g j else is_taken l g j) (empty first end j less)
    ∙ (ap (λ (b : Bool). if not (is_held l (region_of pid first) first) && b then is_held l g j else is_taken l g j) (no_and (same_region g (region_of pid j)))
    ∙ ap (λ (b : Bool). if b then is_held l g j else is_taken l g j) (no_and (not (is_held l (region_of pid first) first)))))
