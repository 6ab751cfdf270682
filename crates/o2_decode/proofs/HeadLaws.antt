-- Heads: what is read is known, what is known is read, what is begun can be finished, what is refused stays refused.
use Rattle.std.proofs.Common.{◌≡◌, ◌⊎◌, inl, inr, refl, ◌∙◌, ℕ, zero, suc, ◌+◌, ◌<◌, Bool, true, false, cond, ◌&&◌, List, [], ◌∷◌, ◌++◌, length, slice_index_or, arith, add-zero}
use Rattle.std.specs.Prelude.{Option, Some, None, is_some}
use Rattle.o2_isa.specs.declared.rows.Entry.{Entry}
use Rattle.o2_isa.specs.declared.rows.Entry.TheVariants.{Unused, Bare, Modrm, Group}
use Rattle.o2_isa.specs.declared.rows.Row.{Row}
use Rattle.o2_isa.specs.Operands.{Plan}
use Rattle.o2_isa.specs.Reading.{More, Bad, Whole}
use Rattle.o2_isa.specs.Table.{table, table_0f, groups}
use Rattle.std.specs.List.{AllByRecursion}
use Rattle.o2_isa.specs.Spelling.{IsByte, row_of, with_modrm, plan_after}
use Rattle.o2_isa.specs.Reading.{head_with, head_modrm, head_after}

-- which way a test went
pub chosen : {A : Type 0} (b : Bool) (x y z : A) → cond b x y ≡ z → ((b ≡ true) × (x ≡ z)) ⊎ ((b ≡ false) × (y ≡ z))
chosen true x y z e = inl (refl, e)
chosen false x y z e = inr (refl, e)

-- the front of the bytes is a head with n bytes of opcode before it
pub record After (e : Entry) (n : ℕ) (bs : List ℕ) (p : Plan) (m : ℕ) : Type 0 where
  pub head : List ℕ
  pub rest : List ℕ
  pub whole : bs ≡ head ++ rest
  pub size : m ≡ n + length head
  pub known : plan_after e head ≡ Some p

with_modrm_sound : (r : Option Row) (b : ℕ) (bs : List ℕ) (n : ℕ) (p : Plan) (m : ℕ) → head_with r b (n + 1) ≡ Whole p m → (with_modrm r b ≡ Some p) × (m ≡ n + 1)
with_modrm_sound None b bs n p m h = cc
with_modrm_sound (Some row) b bs n p m h = (cc, cc)

after_modrm_sound : (e : Entry) → ((b : ℕ) → plan_after e (b ∷ []) ≡ with_modrm (row_of e b) b) → (bs : List ℕ) (n : ℕ) (p : Plan) (m : ℕ) → head_modrm e bs n ≡ Whole p m → After e n bs p m
after_modrm_sound e same [] n p m h = cc
after_modrm_sound e same (b ∷ bs) n p m h =
    let s = with_modrm_sound (row_of e b) b bs n p m h in
    record { head = b ∷ []; rest = bs; whole = refl; size = s.1; known = same b ∙ s.0 }

pub after_sound : (e : Entry) (bs : List ℕ) (n : ℕ) (p : Plan) (m : ℕ) → head_after e bs n ≡ Whole p m → After e n bs p m
after_sound Unused bs n p m h = cc
after_sound (Bare row) bs n p m h = record { head = []; rest = bs; whole = refl; size = omega (arith, size_of h); known = cc }
  where
    size_of : Whole (record { row = row; modrm = 0 }) n ≡ Whole p m → n ≡ m
    size_of q = cc
after_sound (Modrm row) bs n p m h = after_modrm_sound (Modrm row) (λ b. refl) bs n p m h
after_sound (Group k) bs n p m h = after_modrm_sound (Group k) (λ b. refl) bs n p m h

with_modrm_again : (r : Option Row) (b n : ℕ) (p : Plan) → with_modrm r b ≡ Some p → head_with r b n ≡ Whole p n
with_modrm_again None b n p h = cc
with_modrm_again (Some row) b n p h = cc

after_modrm_again : (e : Entry) (b n : ℕ) (rest : List ℕ) (p : Plan) → ((bs : List ℕ) → head_after e bs n ≡ head_modrm e bs n) → with_modrm (row_of e b) b ≡ Some p → head_after e (b ∷ rest) n ≡ Whole p (n + 1)
after_modrm_again e b n rest p same h = same (b ∷ rest) ∙ with_modrm_again (row_of e b) b (n + 1) p h

pub after_again : (e : Entry) (head rest : List ℕ) (n : ℕ) (p : Plan) → plan_after e head ≡ Some p → head_after e (head ++ rest) n ≡ Whole p (n + length head)
after_again Unused [] rest n p h = cc
after_again Unused (b ∷ []) rest n p h = cc
after_again Unused (b ∷ c ∷ bs) rest n p h = cc
after_again (Bare row) [] rest n p h = rw (add-zero) cc
after_again (Bare row) (b ∷ []) rest n p h = cc
after_again (Bare row) (b ∷ c ∷ bs) rest n p h = cc
after_again (Modrm row) [] rest n p h = cc
after_again (Modrm row) (b ∷ []) rest n p h = after_modrm_again (Modrm row) b n rest p (λ _. refl) h
after_again (Modrm row) (b ∷ c ∷ bs) rest n p h = cc
after_again (Group k) [] rest n p h = cc
after_again (Group k) (b ∷ []) rest n p h = after_modrm_again (Group k) b n rest p (λ _. refl) h
after_again (Group k) (b ∷ c ∷ bs) rest n p h = cc

pub after_bad : (e : Entry) (bs more : List ℕ) (n : ℕ) → head_after e bs n ≡ Bad → head_after e (bs ++ more) n ≡ Bad
after_bad Unused bs more n h = refl
after_bad (Bare row) bs more n h = cc
after_bad (Modrm row) [] more n h = cc
after_bad (Modrm row) (b ∷ bs) more n h = h
after_bad (Group k) [] more n h = cc
after_bad (Group k) (b ∷ bs) more n h = h

-- an entry that takes a ModRM byte can be finished by the byte 0
abbrev pub can_finish : Entry → Bool
can_finish Unused = true
can_finish (Bare row) = true
can_finish (Modrm row) = is_some (row_of (Modrm row) 0)
can_finish (Group k) = is_some (row_of (Group k) 0)

abbrev all_finish : List Entry → Bool
all_finish [] = true
all_finish (e ∷ es) = can_finish e && all_finish es

and_true : (a b : Bool) → (a && b) ≡ true → (a ≡ true) × (b ≡ true)
and_true true b h = (refl, h)
and_true false b h = cc

finish_at : (es : List Entry) (b : ℕ) → all_finish es ≡ true → can_finish (slice_index_or es b Unused) ≡ true
finish_at [] b h = refl
finish_at (e ∷ es) zero h = (and_true _ _ h).0
finish_at (e ∷ es) (suc b) h = finish_at es b (and_true _ _ h).1

pub table_finish : (b : ℕ) → can_finish (slice_index_or table b Unused) ≡ true
unfolding table groups
table_finish b = finish_at table b refl

pub table_0f_finish : (b : ℕ) → can_finish (slice_index_or table_0f b Unused) ≡ true
unfolding table_0f groups
table_0f_finish b = finish_at table_0f b refl

-- the bytes can go on to a head
pub record Goes (e : Entry) (bs : List ℕ) : Type 0 where
  pub more : List ℕ
  pub some_more : 0 < length more
  pub each : AllByRecursion IsByte more
  pub plan : Plan
  pub known : plan_after e (bs ++ more) ≡ Some plan

some_plan : (r : Option Row) (b : ℕ) → is_some r ≡ true → (p : Plan) × (with_modrm r b ≡ Some p)
some_plan None b h = cc
some_plan (Some row) b h = (record { row = row; modrm = b }, refl)

goes_modrm : (e : Entry) → ((b : ℕ) → plan_after e (b ∷ []) ≡ with_modrm (row_of e b) b) → is_some (row_of e 0) ≡ true → Goes e []
goes_modrm e same h =
    let s = some_plan (row_of e 0) 0 h in
    record { more = 0 ∷ []; some_more = omega arith; each = (omega arith, tt); plan = s.0; known = same 0 ∙ s.1 }

no_more : (r : Option Row) (b n : ℕ) → head_with r b n ≡ More → ⊥
no_more None b n h = cc
no_more (Some row) b n h = cc

pub after_more : (e : Entry) (bs : List ℕ) (n : ℕ) → can_finish e ≡ true → head_after e bs n ≡ More → Goes e bs
after_more Unused bs n f h = cc
after_more (Bare row) bs n f h = cc
after_more (Modrm row) [] n f h = goes_modrm (Modrm row) (λ _. refl) f
after_more (Modrm row) (b ∷ bs) n f h = absurd (no_more _ _ _ h)
after_more (Group k) [] n f h = goes_modrm (Group k) (λ _. refl) f
after_more (Group k) (b ∷ bs) n f h = absurd (no_more _ _ _ h)
