-- No bytes spell a MOV or a POP to CS, so each step leaves selectors that passed the load rules of their registers.
use Rattle.std.proofs.Common.{◌≡◌, ◌⊎◌, refl, sym, subst, inl, inr, ℕ, zero, suc, ◌+◌, ◌%◌, Bool, true, false, cond, ◌==◌, ◌&&◌, List, [], ◌∷◌, length, take}
use Rattle.std.specs.Prelude.{Option, Some, None, Ok, Err, drop, nat_lt, not, slice_index_or}
use Rattle.std.specs.List.{list_all}
use Rattle.o2_isa.specs.declared.instr.Width.{Width}
use Rattle.o2_isa.specs.declared.instr.Width.TheVariants.{Byte, Word}
use Rattle.o2_isa.specs.declared.instr.Instr.{Instr}
use Rattle.o2_isa.specs.declared.instr.Arg.TheVariants as arg
use Rattle.o2_isa.specs.declared.instr.Sreg.TheVariants.{Es, Cs, Ss, Ds}
use Rattle.o2_isa.specs.declared.rows.Row.{Row}
use Rattle.o2_isa.specs.declared.rows.Prefixes.{Prefixes}
use Rattle.o2_isa.specs.declared.rows.Slot.{Slot}
use Rattle.o2_isa.specs.declared.rows.Slot.TheVariants.{Absent, ModRm, Memory, Register, Segment, SegmentNotCs, Fixed, FixedByte, FixedWord, FixedSegment, ImmByte, ImmWord, ImmSigned, FarImm, Offset, Constant, Source}
use Rattle.o2_isa.specs.declared.rows.Entry.{Entry}
use Rattle.o2_isa.specs.declared.rows.Entry.TheVariants.{Unused, Bare, Modrm, Group as GroupEntry}
use Rattle.o2_isa.specs.declared.rows.Decoded.{Decoded}
use Rattle.o2_isa.specs.declared.rows.Decoded.TheVariants.{One, Invalid, TooLong, Need}
use Rattle.o2_isa.specs.declared.cpu.Cpu.{Cpu}
use Rattle.o2_isa.specs.declared.cpu.Outcome.{Outcome}
use Rattle.o2_isa.specs.declared.cpu.Outcome.TheVariants as outcome
use Rattle.o2_isa.specs.declared.cpu.Stop.TheVariants as stop
use Rattle.o2_isa.specs.Table.{table, table_0f, groups}
use Rattle.o2_isa.specs.Operands.{Plan, mod_of, reg_of, rm_of, register, sreg_of, slot_takes, ea_of, arg_of, tail_len, instr_of}
use Rattle.o2_isa.specs.Spelling.{is_prefix, no_prefixes, mark, checked}
use Rattle.o2_isa.specs.Reading.{Head, More, Bad, Whole, head_with, head_modrm, head_after, head_two, head_of, read_tail, read, limited, decoded}
use Rattle.o2_isa.specs.View.{View}
use Rattle.o2_isa.specs.Steps.{State}
use Rattle.o2_isa.specs.Meaning.{behind, steps_of}
use Rattle.o2_isa.specs.OpRows.{op_steps}
use Rattle.o2_isa.specs.Step.{Answers, seen, steps_at, step_steps, step_names, stepped}
use Rattle.o2_isa.specs.declared.instr.Sreg.{Sreg}
use Rattle.o2_isa.specs.SegmentLoads.{Passes, IsNamed, rules_for, LoadsByRules, BindsLoaded}
use Rattle.o2_isa.proofs.Backing.{Ground, IsBacked, LoadsGranted, run_ruled}
use Rattle.o2_isa.proofs.BackedData.{names_cs, puts_selector}
use Rattle.o2_isa.proofs.BackedRows.{op_backed}
use Rattle.o2_isa.proofs.StepLaws.{row_of_step}

-- a MOV or a POP to CS
abbrev puts_cs : Instr → Bool
puts_cs i = puts_selector i.op && names_cs i.left

-- Rows of the table.

abbrev may_be_cs : Slot → Bool
may_be_cs Segment = true
may_be_cs (FixedSegment s) = names_cs (arg.S s)
may_be_cs _ = false

abbrev fits_row : Row → Bool
fits_row row = not (puts_selector row.op && may_be_cs row.left)

abbrev fits_some : Option Row → Bool
fits_some None = true
fits_some (Some row) = fits_row row

abbrev fits_entry : Entry → Bool
fits_entry Unused = true
fits_entry (Bare row) = fits_row row
fits_entry (Modrm row) = fits_row row
fits_entry (GroupEntry k) = true

table_fits : list_all fits_entry table ≡ true
unfolding table
table_fits = refl

table_0f_fits : list_all fits_entry table_0f ≡ true
unfolding table_0f
table_0f_fits = refl

groups_fit : list_all (list_all fits_some) groups ≡ true
unfolding groups
groups_fit = refl

both : (a b : Bool) → (a && b) ≡ true → (a ≡ true) × (b ≡ true)
both true b e = (refl, e)
both false b e = cc

at_index : {X : Type 0} (p : X → Bool) (xs : List X) (i : ℕ) (d : X) → p d ≡ true → list_all p xs ≡ true → p (slice_index_or xs i d) ≡ true
at_index p [] i d none e = none
at_index p (x ∷ xs) zero d none e = (both _ _ e).0
at_index p (x ∷ xs) (suc i) d none e = at_index p xs i d none (both _ _ e).1

-- Operands.

register_free : (w : Width) (n : ℕ) → names_cs (register w n) ≡ false
register_free Byte n = refl
register_free Word n = refl

not_cs : (n : ℕ) → (nat_lt n 4 && not (n == 1)) ≡ true → names_cs (arg.S (sreg_of n)) ≡ false
not_cs n e = go (n == 0) (n == 1) (n == 2) (nat_lt n 4) e
  where
    go : (a b c d : Bool) → (d && not b) ≡ true → names_cs (arg.S (cond a Es (cond b Cs (cond c Ss Ds)))) ≡ false
    go true b c d e = refl
    go false true c true e = cc
    go false true c false e = cc
    go false false true d e = refl
    go false false false d e = refl

arg_free : (s : Slot) (w : Width) (p : Prefixes) (m : ℕ) (t : List ℕ) (k : ℕ) → may_be_cs s ≡ false → slot_takes s m ≡ true → names_cs (arg_of s w p m t k) ≡ false
arg_free Absent w p m t k f e = refl
arg_free ModRm w p m t k f e = by_mod (mod_of m == 3)
  where
    by_mod : (b : Bool) → names_cs (cond b (register w (rm_of m)) (arg.M (ea_of p m t))) ≡ false
    by_mod true = register_free w (rm_of m)
    by_mod false = refl
arg_free Memory w p m t k f e = refl
arg_free Register w p m t k f e = register_free w (reg_of m)
arg_free Segment w p m t k f e = cc
arg_free SegmentNotCs w p m t k f e = not_cs (reg_of m) e
arg_free (Fixed n) w p m t k f e = register_free w n
arg_free (FixedByte n) w p m t k f e = refl
arg_free (FixedWord n) w p m t k f e = refl
arg_free (FixedSegment s) w p m t k f e = f
arg_free ImmByte w p m t k f e = refl
arg_free ImmWord w p m t k f e = refl
arg_free ImmSigned w p m t k f e = refl
arg_free FarImm w p m t k f e = refl
arg_free Offset w p m t k f e = refl
arg_free (Constant n) w p m t k f e = refl
arg_free Source w p m t k f e = refl

-- Heads.

-- a plan from a row that fits, with a ModRM byte that its left operand takes
record IsFree (plan : Plan) : Type 0 where
  pub fits : fits_row plan.row ≡ true
  pub takes : slot_takes plan.row.left plan.modrm ≡ true

plan_free : (plan : Plan) → IsFree plan → (p : Prefixes) (t : List ℕ) → puts_cs (instr_of p plan t) ≡ false
plan_free plan free p t = go (puts_selector plan.row.op) (may_be_cs plan.row.left) free.fits (λ f. arg_free plan.row.left _ p plan.modrm t _ f free.takes)
  where
    go : (a b : Bool) → not (a && b) ≡ true → (b ≡ false → names_cs (instr_of p plan t).left ≡ false) → (a && names_cs (instr_of p plan t).left) ≡ false
    go true true e h = cc
    go true false e h = h refl
    go false b e h = refl

abbrev IsFreeHead : Head → Type 0
IsFreeHead More = Unit {0}
IsFreeHead Bad = Unit {0}
IsFreeHead (Whole plan n) = IsFree plan

row_checked : (row : Row) (m n : ℕ) → fits_row row ≡ true → IsFreeHead (head_with (checked (Some row) m) m n)
row_checked row m n f = go (slot_takes row.left m) (slot_takes row.right m) refl
  where
    go : (a b : Bool) → slot_takes row.left m ≡ a → IsFreeHead (head_with (cond (a && b) (Some row) None) m n)
    go true true e = record { fits = f; takes = e }
    go true false e = tt
    go false b e = tt

some_checked : (o : Option Row) (m n : ℕ) → fits_some o ≡ true → IsFreeHead (head_with (checked o m) m n)
some_checked None m n f = tt
some_checked (Some row) m n f = row_checked row m n f

in_group : (k m : ℕ) → fits_some (slice_index_or (slice_index_or groups k []) (reg_of m) None) ≡ true
in_group k m = at_index fits_some (slice_index_or groups k []) (reg_of m) None refl (at_index (list_all fits_some) groups k [] refl groups_fit)

modrm_free : (e : Entry) (bs : List ℕ) (n : ℕ) → fits_entry e ≡ true → IsFreeHead (head_modrm e bs n)
modrm_free e [] n f = tt
modrm_free Unused (m ∷ bs) n f = tt
modrm_free (Bare row) (m ∷ bs) n f = tt
modrm_free (Modrm row) (m ∷ bs) n f = row_checked row m (n + 1) f
modrm_free (GroupEntry k) (m ∷ bs) n f = some_checked _ m (n + 1) (in_group k m)

bare_takes : (s : Slot) → slot_takes s 0 ≡ true
bare_takes Memory = refl
bare_takes Segment = refl
bare_takes SegmentNotCs = refl
bare_takes _ = refl

after_free : (e : Entry) (bs : List ℕ) (n : ℕ) → fits_entry e ≡ true → IsFreeHead (head_after e bs n)
after_free Unused bs n f = tt
after_free (Bare row) bs n f = record { fits = f; takes = bare_takes row.left }
after_free (Modrm row) bs n f = modrm_free (Modrm row) bs n f
after_free (GroupEntry k) bs n f = modrm_free (GroupEntry k) bs n f

two_free : (bs : List ℕ) → IsFreeHead (head_two bs)
two_free [] = tt
two_free (b ∷ bs) = after_free _ bs 2 (at_index fits_entry table_0f b Unused refl table_0f_fits)

head_free : (bs : List ℕ) → IsFreeHead (head_of bs)
unfolding head_of
head_free [] = tt
head_free (b ∷ bs) = go (b == 15)
  where
    go : (x : Bool) → IsFreeHead (cond x (head_two bs) (head_after (slice_index_or table b Unused) bs 1))
    go true = two_free bs
    go false = after_free _ bs 1 (at_index fits_entry table b Unused refl table_fits)

-- What is read.

abbrev IsFreeOne : Decoded → Type 0
IsFreeOne (One i n) = puts_cs i ≡ false
IsFreeOne _ = Unit {0}

tail_free : (h : Head) (p : Prefixes) (k : ℕ) (bs : List ℕ) → IsFreeHead h → IsFreeOne (read_tail h p k bs)
tail_free More p k bs f = tt
tail_free Bad p k bs f = tt
tail_free (Whole plan n) p k bs f = go (nat_lt (length bs) (n + tail_len plan))
  where
    go : (b : Bool) → IsFreeOne (cond b Need (One (instr_of p plan (take (tail_len plan) (drop n bs))) (k + (n + tail_len plan))))
    go true = tt
    go false = plan_free plan f p _

read_free : (p : Prefixes) (k : ℕ) (bs : List ℕ) → IsFreeOne (read p k bs)
read_free p k [] = tt
read_free p k (b ∷ bs) = go (is_prefix b) (read_free (mark p b) (k + 1) bs)
  where
    go : (x : Bool) → IsFreeOne (read (mark p b) (k + 1) bs) → IsFreeOne (cond x (read (mark p b) (k + 1) bs) (read_tail (head_of (b ∷ bs)) p k (b ∷ bs)))
    go true h = h
    go false h = tail_free (head_of (b ∷ bs)) p k (b ∷ bs) (head_free (b ∷ bs))

limited_free : (len : ℕ) (d : Decoded) → IsFreeOne d → IsFreeOne (limited len d)
limited_free len (One i n) f = f
limited_free len Invalid f = tt
limited_free len TooLong f = tt
limited_free len Need f = go (nat_lt len 10)
  where
    go : (b : Bool) → IsFreeOne (cond b Need TooLong)
    go true = tt
    go false = tt

decoded_free : (bs : List ℕ) → IsFreeOne (decoded bs)
unfolding decoded
decoded_free bs = limited_free (length bs) (read no_prefixes 0 bs) (read_free no_prefixes 0 bs)

-- Steps.

steps_backed : (v : Ground) (c : Cpu) (i : Instr) (next : ℕ) → puts_cs i ≡ false → IsBacked v (steps_of c i next)
unfolding steps_of
steps_backed v c i next f = by_lock i.lock
  where
    by_lock : (b : Bool) → IsBacked v (behind (cond b (Err (stop.Trap 13 0)) (Ok 0)) (op_steps i.op c i next))
    by_lock true = tt
    by_lock false = op_backed v i.op c i next f

at_backed : (v : Ground) (c : Cpu) (d : Decoded) → IsFreeOne d → IsBacked v (steps_at c d)
at_backed v c (One i n) f = steps_backed v c i ((c.ip + n) % 65536) f
at_backed v c Invalid f = tt
at_backed v c TooLong f = tt
at_backed v c Need f = tt

abbrev pub inside : State → Ground
inside s = record { view = s.view; names = step_names s }

same_ruled : (new old : State) → new ≡ old → LoadsGranted (inside old) old.cpu new.cpu
same_ruled new old e = subst (λ (z : State). LoadsGranted (inside old) old.cpu z.cpu) (sym e) (λ r. inl refl)

-- a step leaves in each segment register what was there, or a selector that passed its rules and whose name the step loaded
pub stepped_granted : (o : Outcome) (new old : State) → Answers o new old (stepped old) → LoadsGranted (inside old) old.cpu new.cpu
unfolding stepped step_names
stepped_granted outcome.Done new old a = run_ruled (inside old) old.cpu 1 (step_steps old) new (row_of_step old) (at_backed (inside old) old.cpu (decoded (seen old)) (decoded_free (seen old))) (λ n i. i) a
stepped_granted (outcome.Miss s) new old a = same_ruled new old a.1
stepped_granted (outcome.Trap n code) new old a = same_ruled new old a.1
stepped_granted (outcome.Gate k next) new old a = same_ruled new old a.1

rules_of : (v : View) (a b : ℕ) (r : Sreg) (names : List ℕ) → (a ≡ b) ⊎ (Passes v (rules_for r) a × IsNamed v names a) → (a ≡ b) ⊎ Passes v (rules_for r) a
rules_of v a b r names (inl e) = inl e
rules_of v a b r names (inr p) = inr p.0

names_of : (v : View) (a b : ℕ) (r : Sreg) (names : List ℕ) → (a ≡ b) ⊎ (Passes v (rules_for r) a × IsNamed v names a) → (a ≡ b) ⊎ IsNamed v names a
names_of v a b r names (inl e) = inl e
names_of v a b r names (inr p) = inr p.1

pub stepped_ruled : (o : Outcome) (new old : State) → Answers o new old (stepped old) → LoadsByRules old.view old.cpu new.cpu
stepped_ruled o new old a = λ r. rules_of old.view _ _ r _ (stepped_granted o new old a r)

pub stepped_named : (o : Outcome) (new old : State) → Answers o new old (stepped old) → BindsLoaded old.view (step_names old) old.cpu new.cpu
stepped_named o new old a = λ r. names_of old.view _ _ r _ (stepped_granted o new old a r)
