-- Each row of the table gives instructions with canonical fields.
use Rattle.std.proofs.Common.{◌≡◌, ◌⊎◌, inl, inr, refl, sym, subst, ℕ, zero, suc, Bool, true, false, cond, eqb, ◌&&◌, ◌||◌, List, [], ◌∷◌, slice_index_or}
use Rattle.std.specs.Prelude.{Option, Some, None, not}
use Rattle.o2_isa.specs.declared.rows.Entry.{Entry}
use Rattle.o2_isa.specs.declared.rows.Entry.TheVariants.{Unused, Bare, Modrm, Group}
use Rattle.o2_isa.specs.declared.rows.Row.{Row}
use Rattle.o2_isa.specs.declared.rows.Repeat.{Repeat}
use Rattle.o2_isa.specs.declared.rows.Repeat.TheVariants.{Never, Always, WhileZero}
use Rattle.o2_isa.specs.declared.rows.Prefixes.{Prefixes}
use Rattle.o2_isa.specs.declared.instr.Instr.{Instr}
use Rattle.o2_isa.specs.declared.instr.Width.{Width}
use Rattle.o2_isa.specs.declared.instr.Width.TheVariants.{Byte, Word}
use Rattle.o2_isa.specs.declared.instr.Rep.{Rep}
use Rattle.o2_isa.specs.declared.instr.Rep.TheVariants.{No, Equal, NotEqual}
use Rattle.o2_isa.specs.declared.instr.Sreg.TheVariants.{Ds}
use Rattle.o2_isa.specs.Table.{table, table_0f, groups}
use Rattle.o2_isa.specs.Operands.{Plan, reg_of, row_takes, is_source, source_segment, rep_of, instr_of}
use Rattle.o2_isa.specs.Spelling.{Spells, plan_of, plan_two, plan_after, with_modrm, row_of, checked}
use Rattle.o2_decode.proofs.HeadLaws.{chosen}
use Rattle.o2_isa.specs.Canonical.{is_string, compares, has_source, has_bytes, IsCanonical}

abbrev is_never : Repeat → Bool
is_never Never = true
is_never _ = false

abbrev is_while_zero : Repeat → Bool
is_while_zero WhileZero = true
is_while_zero _ = false

abbrev is_word : Width → Bool
is_word Word = true
is_word Byte = false

abbrev fits : Row → Bool
fits r = (has_source r.op || not (is_source r.left || is_source r.right)) && ((is_string r.op || is_never r.repeat) && ((compares r.op || not (is_while_zero r.repeat)) && (has_bytes r.op || is_word r.width)))

abbrev entry_fits : Entry → Bool
entry_fits Unused = true
entry_fits (Bare r) = fits r
entry_fits (Modrm r) = fits r
entry_fits (Group k) = true

abbrev found_fits : Option Row → Bool
found_fits None = true
found_fits (Some r) = fits r

abbrev all_entries : List Entry → Bool
all_entries [] = true
all_entries (e ∷ es) = entry_fits e && all_entries es

abbrev all_found : List (Option Row) → Bool
all_found [] = true
all_found (r ∷ rs) = found_fits r && all_found rs

abbrev all_groups : List (List (Option Row)) → Bool
all_groups [] = true
all_groups (g ∷ gs) = all_found g && all_groups gs

both : (a b : Bool) → (a && b) ≡ true → (a ≡ true) × (b ≡ true)
both true b h = (refl, h)
both false b h = cc

entry_at : (es : List Entry) (b : ℕ) → all_entries es ≡ true → entry_fits (slice_index_or es b Unused) ≡ true
entry_at [] b h = refl
entry_at (e ∷ es) zero h = (both _ _ h).0
entry_at (e ∷ es) (suc b) h = entry_at es b (both _ _ h).1

found_at : (rs : List (Option Row)) (b : ℕ) → all_found rs ≡ true → found_fits (slice_index_or rs b None) ≡ true
found_at [] b h = refl
found_at (r ∷ rs) zero h = (both _ _ h).0
found_at (r ∷ rs) (suc b) h = found_at rs b (both _ _ h).1

group_at : (gs : List (List (Option Row))) (b : ℕ) → all_groups gs ≡ true → all_found (slice_index_or gs b []) ≡ true
group_at [] b h = refl
group_at (g ∷ gs) zero h = (both _ _ h).0
group_at (g ∷ gs) (suc b) h = group_at gs b (both _ _ h).1

table_fits : (b : ℕ) → entry_fits (slice_index_or table b Unused) ≡ true
unfolding table
table_fits b = entry_at table b refl

table_0f_fits : (b : ℕ) → entry_fits (slice_index_or table_0f b Unused) ≡ true
unfolding table_0f
table_0f_fits b = entry_at table_0f b refl

groups_fit : (k r : ℕ) → found_fits (slice_index_or (slice_index_or groups k []) r None) ≡ true
unfolding groups
groups_fit k r = found_at (slice_index_or groups k []) r (group_at groups k refl)

checked_fits : (r : Option Row) (m : ℕ) → found_fits r ≡ true → found_fits (checked r m) ≡ true
checked_fits None m h = refl
checked_fits (Some row) m h = elim (chosen_row (row_takes row m) row) [ inl e ↦ rw e h | inr e ↦ rw e refl ]
  where
    chosen_row : (b : Bool) (row : Row) → (cond b (Some row) None ≡ Some row) ⊎ (cond b (Some row) None ≡ None)
    chosen_row true row = inl refl
    chosen_row false row = inr refl

row_of_fits : (e : Entry) (m : ℕ) → entry_fits e ≡ true → found_fits (row_of e m) ≡ true
row_of_fits Unused m h = refl
row_of_fits (Bare r) m h = refl
row_of_fits (Modrm r) m h = checked_fits (Some r) m h
row_of_fits (Group k) m h = checked_fits (slice_index_or (slice_index_or groups k []) (reg_of m) None) m (groups_fit k (reg_of m))

with_fits : (r : Option Row) (m : ℕ) (p : Plan) → found_fits r ≡ true → with_modrm r m ≡ Some p → fits p.row ≡ true
with_fits None m p h e = cc
with_fits (Some row) m p h e = subst (λ (x : Plan). fits x.row ≡ true) (same e) h
  where
    same : {x y : Plan} → Some x ≡ Some y → x ≡ y
    same q = cc

after_fits : (e : Entry) (bs : List ℕ) (p : Plan) → entry_fits e ≡ true → plan_after e bs ≡ Some p → fits p.row ≡ true
after_fits (Bare row) [] p h e = subst (λ (x : Plan). fits x.row ≡ true) (same e) h
  where
    same : {x y : Plan} → Some x ≡ Some y → x ≡ y
    same q = cc
after_fits (Bare row) (m ∷ []) p h e = cc
after_fits (Bare row) (m ∷ n ∷ bs) p h e = cc
after_fits Unused [] p h e = cc
after_fits Unused (m ∷ []) p h e = cc
after_fits Unused (m ∷ n ∷ bs) p h e = cc
after_fits (Modrm row) [] p h e = cc
after_fits (Modrm row) (m ∷ []) p h e = with_fits (row_of (Modrm row) m) m p (row_of_fits (Modrm row) m h) e
after_fits (Modrm row) (m ∷ n ∷ bs) p h e = cc
after_fits (Group k) [] p h e = cc
after_fits (Group k) (m ∷ []) p h e = with_fits (row_of (Group k) m) m p (row_of_fits (Group k) m h) e
after_fits (Group k) (m ∷ n ∷ bs) p h e = cc

two_fits : (bs : List ℕ) (p : Plan) → plan_two bs ≡ Some p → fits p.row ≡ true
two_fits [] p e = cc
two_fits (b ∷ bs) p e = after_fits (slice_index_or table_0f b Unused) bs p (table_0f_fits b) e

plan_fits : (bs : List ℕ) (p : Plan) → plan_of bs ≡ Some p → fits p.row ≡ true
plan_fits [] p e = cc
plan_fits (b ∷ bs) p e =
    elim (chosen (eqb b 15) (plan_two bs) (plan_after (slice_index_or table b Unused) bs) (Some p) e) [
      | inl w ↦ two_fits bs p w.1
      | inr w ↦ after_fits (slice_index_or table b Unused) bs p (table_fits b) w.1
    ]

or_false : (a b : Bool) → (a || b) ≡ true → a ≡ false → b ≡ true
or_false true b h e = cc
or_false false b h e = h

not_true : (b : Bool) → not b ≡ true → b ≡ false
not_true true h = cc
not_true false h = refl

segment_is : (p : Prefixes) (row : Row) → (is_source row.left || is_source row.right) ≡ false → source_segment p row ≡ Ds
segment_is p row e = rw e refl

rep_is : (x : Repeat) (r : Rep) → is_never x ≡ true → rep_of x r ≡ No
rep_is Never r e = refl
rep_is Always r e = cc
rep_is WhileZero r e = cc

no_repne : (x : Repeat) (r : Rep) → is_while_zero x ≡ false → rep_of x r ≡ NotEqual → ⊥
no_repne Never r e q = cc
no_repne Always No e q = cc
no_repne Always Equal e q = cc
no_repne Always NotEqual e q = cc
no_repne WhileZero r e q = cc

width_is : (w : Width) → is_word w ≡ true → w ≡ Word
width_is Word e = refl
width_is Byte e = cc

row_gives : (p : Prefixes) (plan : Plan) (t : List ℕ) → fits plan.row ≡ true → IsCanonical (instr_of p plan t)
row_gives p plan t h =
    let a = both _ _ h in
    let b = both _ _ a.1 in
    let c = both _ _ b.1 in
    record {
      seg = λ e. segment_is p plan.row (not_true _ (or_false _ _ a.0 e));
      rep = λ e. rep_is plan.row.repeat p.rep (or_false _ _ b.0 e);
      repne = λ e. no_repne plan.row.repeat p.rep (not_true _ (or_false _ _ c.0 e));
      width = λ e. width_is plan.row.width (or_false _ _ c.1 e);
    }

pub canonical : (bytes : List ℕ) (i : Instr) → Spells bytes i → IsCanonical i
canonical bytes i s = subst (λ (x : Instr). IsCanonical x) (sym s.means) (row_gives _ s.plan s.tail (plan_fits s.head s.plan s.known))
