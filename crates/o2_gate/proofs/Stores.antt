-- Ranges that were found good: what is read there, and what a write leaves.
use Rattle.std.proofs.Common.{◌≡◌, ℕ, ◌+◌, ◌≤◌, Bool, true, false, cond, ◌&&◌, ◌||◌, ◌==◌, nat_le, List, [], length, take, drop, Option, Some, None, ap, sym, ◌∙◌, refl, subst, arith}
use Rattle.std.proofs.lemmas.Grind.{common_steps}
use Rattle.o2_isa.specs.Parts.{put_part}
use Rattle.o2_isa.specs.View.{View, Hold, Filling, whole, bound_in, is_readable, is_writable}
use Rattle.o2_isa.specs.Pointers.{has_present_range, is_ready, range_in, range_of, put_in, put_at_pointer, with_part, KeepsAllButBytes}

first : (a b : Bool) → (a && b) ≡ true → a ≡ true
first a b e = grind arith

last : (a b c : Bool) → (a && (b && c)) ≡ true → c ≡ true
last a b c e = grind arith

le_of : (n m : ℕ) → nat_le n m ≡ true → n ≤ m
le_of n m e = grind arith

pub whole_at : (f : Filling) (v : View) (h : Hold) → v.present h.name ≡ true → (whole f v).bytes h.name ≡ v.bytes h.name
whole_at f v h here = ap (λ (b : Bool). cond b (v.bytes h.name) (v.hidden.away h.name f.blocks)) here

-- a range that is ready is that of the boundless machine
pub range_whole : (f : Filling) (v : View) (s o n : ℕ) → is_ready is_readable v s o n ≡ true → range_of v.held v.bytes s o n ≡ range_of v.held (whole f v).bytes s o n
unfolding is_ready range_of
range_whole f v s o n ready = go (n == 0) (bound_in v.held s) ready
  where
    go : (z : Bool) (h : Option Hold) → (z || has_present_range is_readable v o n h) ≡ true → cond z [] (range_in v.bytes o n h) ≡ cond z [] (range_in (whole f v).bytes o n h)
    go true h e = refl
    go false None e = refl
    go false (Some h) e = ap (λ (bs : List ℕ). take n (drop o bs)) (sym (whole_at f v h (first _ _ e)))

pub no_range : (held : ℕ → Option Hold) (bytes : ℕ → List ℕ) (s o n : ℕ) → (n == 0) ≡ true → [] ≡ range_of held bytes s o n
unfolding range_of
no_range held bytes s o n e = ap (λ (z : Bool). cond z [] (range_in bytes o n (bound_in held s))) (sym e)

-- A write.

nothing_put : (bytes : List ℕ) (at : ℕ) → put_part bytes at [] ≡ bytes
nothing_put bytes at = grind (arith, common_steps)

empty : (part : List ℕ) → (length part == 0) ≡ true → part ≡ []
empty part e = grind (arith, common_steps)

-- one of no bytes
pub put_nothing : (held : ℕ → Option Hold) (bytes : ℕ → List ℕ) (s o : ℕ) (part : List ℕ) (n : ℕ) → (length part == 0) ≡ true → bytes n ≡ put_at_pointer held bytes s o part n
unfolding put_at_pointer
put_nothing held bytes s o part n e = go (bound_in held s)
  where
    same : (b : Bool) → bytes n ≡ cond b (put_part (bytes n) o part) (bytes n)
    same true = sym (ap (put_part (bytes n) o) (empty part e) ∙ nothing_put (bytes n) o)
    same false = refl

    go : (h : Option Hold) → bytes n ≡ put_in bytes o part h n
    go None = refl
    go (Some h) = same (n == h.name)

same_name : (n m : ℕ) → (n == m) ≡ true → n ≡ m
same_name n m e = grind arith

module _ (f : Filling) (v : View) (s o : ℕ) (part : List ℕ) (some : (length part == 0) ≡ false) (ready : is_ready is_writable v s o (length part) ≡ true) where
  pub held_range : has_present_range is_writable v o (length part) (bound_in v.held s) ≡ true
  unfolding is_ready
  held_range = behind (length part == 0) _ some ready
    where
      behind : (a b : Bool) → a ≡ false → (a || b) ≡ true → b ≡ true
      behind a b e g = grind arith

  -- in the boundless machine it is the same
  pub put_whole : (n : ℕ) → (whole f (with_part v s o part)).bytes n ≡ put_at_pointer v.held (whole f v).bytes s o part n
  unfolding put_at_pointer
  put_whole n = go (bound_in v.held s) held_range
    where
      at_name : (h : Hold) (b : Bool) → (n == h.name) ≡ b → v.present h.name ≡ true
          → cond (v.present n) (cond b (put_part (v.bytes n) o part) (v.bytes n)) (v.hidden.away n f.blocks) ≡ cond b (put_part ((whole f v).bytes n) o part) ((whole f v).bytes n)
      at_name h true is here =
          let there : v.present n ≡ true = ap v.present (same_name n h.name is) ∙ here in
          ap (λ (x : Bool). cond x (put_part (v.bytes n) o part) (v.hidden.away n f.blocks)) there
          ∙ sym (ap (λ (x : Bool). put_part (cond x (v.bytes n) (v.hidden.away n f.blocks)) o part) there)
      at_name h false is here = refl

      go : (h : Option Hold) → has_present_range is_writable v o (length part) h ≡ true
          → cond (v.present n) (put_in v.bytes o part h n) (v.hidden.away n f.blocks) ≡ put_in (whole f v).bytes o part h n
      go None e = absurd (cc)
      go (Some h) e = at_name h (n == h.name) refl (first _ _ e)

put_length : (bytes : List ℕ) (at : ℕ) (part : List ℕ) → at + length part ≤ length bytes → length (put_part bytes at part) ≡ length bytes
put_length bytes at part h = grind (arith, common_steps)

module _ (v : View) (s o : ℕ) (part : List ℕ) (some : (length part == 0) ≡ false) (ready : is_ready is_writable v s o (length part) ≡ true) where
  kept : (q : ℕ) (h : Option Hold) → has_present_range is_writable v o (length part) h ≡ true → length (put_in v.bytes o part h q) ≡ length (v.bytes q)
  kept q None e = absurd (cc)
  kept q (Some h) e = go (q == h.name) refl
    where
      within : o + length part ≤ length (v.bytes h.name)
      within = le_of _ _ (last (v.present h.name) (is_writable h.rights) _ e)

      go : (b : Bool) → (q == h.name) ≡ b → length (cond b (put_part (v.bytes q) o part) (v.bytes q)) ≡ length (v.bytes q)
      go true is = put_length (v.bytes q) o part (subst (λ (n : ℕ). o + length part ≤ length (v.bytes n)) (sym (same_name q h.name is)) within)
      go false is = refl

  pub put_lengths : (q : ℕ) → length (put_at_pointer v.held v.bytes s o part q) ≡ length (v.bytes q)
  unfolding put_at_pointer
  put_lengths q = kept q (bound_in v.held s) (held_range (record { blocks = λ n. []; hidden = v.hidden }) v s o part some ready)

  -- what is ready before it is ready behind it
  pub ready_behind : (ok : ℕ → Bool) (t p n : ℕ) → is_ready ok (with_part v s o part) t p n ≡ is_ready ok v t p n
  unfolding is_ready
  ready_behind ok t p n = ap (λ (x : Bool). (n == 0) || x) (go (bound_in v.held t))
    where
      go : (h : Option Hold) → has_present_range ok (with_part v s o part) p n h ≡ has_present_range ok v p n h
      go None = refl
      go (Some h) = ap (λ (k : ℕ). v.present h.name && (ok h.rights && nat_le (p + n) k)) (put_lengths h.name)

pub keeps_same : (v w : View) → w ≡ v → KeepsAllButBytes v w
keeps_same v w e = subst (λ (x : View). x ≡ record v { bytes = x.bytes }) (sym e) refl

pub keeps_then : (v w x : View) → KeepsAllButBytes v w → KeepsAllButBytes w x → KeepsAllButBytes v x
keeps_then v w x e g = g ∙ ap (λ (y : View). record y { bytes = x.bytes }) e

-- fewer bytes from the same place on
fewer_bytes : (a b : Bool) (o n m len : ℕ) → m ≤ n → (a && (b && nat_le (o + n) len)) ≡ true → (a && (b && nat_le (o + m) len)) ≡ true
fewer_bytes a b o n m len le e = grind arith

none_or : (n m : ℕ) (a b : Bool) → m ≤ n → (a ≡ true → b ≡ true) → ((n == 0) || a) ≡ true → ((m == 0) || b) ≡ true
none_or n m a b le f e = grind arith

pub ready_fewer : (ok : ℕ → Bool) (v : View) (s o n m : ℕ) → m ≤ n → is_ready ok v s o n ≡ true → is_ready ok v s o m ≡ true
unfolding is_ready
ready_fewer ok v s o n m le e = none_or n m _ _ le (go (bound_in v.held s)) e
  where
    go : (h : Option Hold) → has_present_range ok v o n h ≡ true → has_present_range ok v o m h ≡ true
    go None e = e
    go (Some h) e = fewer_bytes (v.present h.name) (ok h.rights) o n m (length (v.bytes h.name)) le e

-- a write over bytes that are the same name by name
pub put_over : (held : ℕ → Option Hold) (f g : ℕ → List ℕ) (s o : ℕ) (part : List ℕ) (n : ℕ) → g n ≡ f n → put_at_pointer held g s o part n ≡ put_at_pointer held f s o part n
unfolding put_at_pointer
put_over held f g s o part n same = go (bound_in held s)
  where
    go : (h : Option Hold) → put_in g o part h n ≡ put_in f o part h n
    go None = same
    go (Some h) = ap (λ (bytes : List ℕ). cond (n == h.name) (put_part bytes o part) bytes) same
