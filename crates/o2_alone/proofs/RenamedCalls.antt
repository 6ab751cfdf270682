-- A call does the same with other numbers for names, where its row comes out alike.
use Rattle.std.proofs.Common.{◌≡◌, refl, sym, ◌∙◌, ap, subst, ℕ, zero, suc, ◌+◌, ◌*◌, ◌%◌, Bool, true, false, cond, ◌==◌, ◌&&◌, ◌||◌, List, [], ◌∷◌, length}
use Rattle.std.specs.Prelude.{Option, Some, None, option_map, Result, is_ok, nat_le, take, drop}
use Rattle.std.specs.Result.{result_unwrap_or}
use mathlib.Core.Path.{fun_ext}
use Rattle.o2_isa.specs.declared.instr.Sreg.TheVariants.{Ss}
use Rattle.o2_isa.specs.declared.instr.Width.TheVariants.{Word as WordWide}
use Rattle.o2_isa.specs.declared.cpu.Purpose.TheVariants.{DataReg}
use Rattle.o2_isa.specs.Parts.{put_part}
use Rattle.o2_isa.specs.View.{View, Hold, bound_in, is_readable, is_writable}
use Rattle.o2_isa.specs.Pointers.{is_passed, is_for_es, has_range, is_good, range_in, range_of, put_in, put_at_pointer}
use Rattle.o2_world.specs.declared.types.Slot.{Slot}
use Rattle.o2_world.specs.declared.types.Slot.TheVariants.{Word, Long, Reads, Writes, Text, ToWord, ToLong, ToWords, Heap}
use Rattle.o2_world.specs.World.{Line, Calls}
use Rattle.o2_world.specs.Known.{Known}
use Rattle.o2_world.specs.CallParts.{Before, Effect, trapped, word_of, argument, has_arguments, returned}
use Rattle.o2_world.specs.HugeRulings.{without}
use Rattle.o2_world.specs.SharedNames.{bytes_at, bytes_from, looked_at, name_most, text_size}
use Rattle.o2_world.specs.Slots.{Pointer, are_good, is_for_writing, may_have_heap, pointers_in, put_all, shown_in, targets_in, words_in}
use Rattle.o2_world.specs.Outcomes as outcome
use Rattle.o2_world.specs.Outcomes.{CallRow, Outcome, come_out, served, worded}
use Rattle.o2_world.specs.RowLaws.{IsLawful, OutcomeMoves}
use Rattle.o2_world.proofs.Sparing.{moves_spare}
use Rattle.o2_alone.specs.Renaming.{Asking, GoesAlike, Renaming, renamed_hold, renamed_changes, IsIn, SameBytes, IsRenamedView, IsRenamedKnown, IsRenamedEffect}
use Rattle.o2_alone.proofs.RenamedViews.{same_test, bound_renamed, bound_is_in, read_renamed, probe_renamed}
use Rattle.o2_alone.proofs.RenamedRulings.{gone_renamed, moved_renamed}

-- what a step starts from, and the same with other numbers for names
pub record Twins : Type 0 where
  pub names : Renaming
  pub one : Before
  pub view : View
  pub known : Known
  pub input : List ℕ
  pub views : IsRenamedView names one.view view
  pub knows : IsRenamedKnown names one.number one.known known

abbrev pub other : Twins → Before
other t = record { number = t.one.number; cpu = t.one.cpu; view = t.view; known = t.known; input = t.input }

-- both do the same
abbrev pub Does : Twins → Effect → Effect → Type 0
Does t e d = IsRenamedEffect t.names t.one (other t) e d

-- Parts of calls.

pub either : (t : Twins) (b : Bool) (e d x y : Effect) → (b ≡ true → Does t e d) → Does t x y → Does t (cond b e x) (cond b d y)
either t b e d x y same rest = go b refl
  where
    go : (c : Bool) → b ≡ c → Does t (cond c e x) (cond c d y)
    go true is = same is
    go false is = rest

-- a test that comes out alike
tested : (t : Twins) (a b : Bool) (e d x y : Effect) → b ≡ a → (a ≡ true → Does t e d) → Does t x y → Does t (cond a e x) (cond b d y)
tested t a b e d x y is same rest = subst (λ (c : Bool). Does t (cond a e x) (cond c d y)) (sym is) (either t a e d x y same rest)

pub trapped_renamed : (t : Twins) (vector : ℕ) → Does t (trapped t.one vector) (trapped (other t) vector)
trapped_renamed t vector = record { cpu = refl; state = refl; bytes = t.views.bytes; changes = refl; input = λ e. e; piece = refl; lines = refl; waits = refl }

word_same : (t : Twins) (i : ℕ) → word_of t.view t.one.cpu i ≡ word_of t.one.view t.one.cpu i
word_same t i = read_renamed t.names t.one.view t.view t.views Ss ((t.one.cpu.sp + 2 * i) % 65536) WordWide

pub arguments_same : (t : Twins) → argument t.view t.one.cpu ≡ argument t.one.view t.one.cpu
unfolding argument
arguments_same t = fun_ext (λ (i : ℕ). ap (λ (r : Result ℕ (ℕ × ℕ)). result_unwrap_or r 0) (word_same t i))

pub has_same : (t : Twins) (n : ℕ) → has_arguments t.view t.one.cpu n ≡ has_arguments t.one.view t.one.cpu n
has_same t zero = refl
has_same t (suc n) =
    ap (λ (b : Bool). b && is_ok (word_of t.view t.one.cpu n)) (has_same t n)
    ∙ ap (λ (r : Result ℕ (ℕ × ℕ)). has_arguments t.one.view t.one.cpu n && is_ok r) (word_same t n)

pub good_same : (t : Twins) (ok : ℕ → Bool) (s offset count : ℕ) → is_good ok t.view s offset count ≡ is_good ok t.one.view s offset count
unfolding is_good
good_same t ok s offset count =
    ap (λ (b : Bool). (count == 0) || (b && has_range t.view.bytes ok offset count (bound_in t.view.held s))) (ap is_passed (probe_renamed t.names t.one.view t.view t.views DataReg s))
    ∙ ap (λ (b : Bool). (count == 0) || (is_for_es t.one.view s && b))
    (ap (has_range t.view.bytes ok offset count) (bound_renamed t.names t.one.view.held t.view.held t.views.held s) ∙ by_hold (bound_in t.one.view.held s) (bound_is_in t.one.view.held s))
  where
    by_hold : (x : Option Hold) → ((h : Hold) → x ≡ Some h → IsIn t.one.view.held h)
        → has_range t.view.bytes ok offset count (option_map (renamed_hold t.names) x) ≡ has_range t.one.view.bytes ok offset count x
    by_hold None there = refl
    by_hold (Some h) there = ap (λ (bs : List ℕ). ok h.rights && nat_le (offset + count) (length bs)) (t.views.bytes h (there h refl))

pub heap_same : (t : Twins) (s : ℕ) → may_have_heap t.view s ≡ may_have_heap t.one.view s
heap_same t s =
    ap (λ (b : Bool). b && is_for_writing (bound_in t.view.held s)) (ap is_passed (probe_renamed t.names t.one.view t.view t.views DataReg s))
    ∙ ap (λ (b : Bool). is_for_es t.one.view s && b) (ap is_for_writing (bound_renamed t.names t.one.view.held t.view.held t.views.held s) ∙ by_hold (bound_in t.one.view.held s))
  where
    by_hold : (x : Option Hold) → is_for_writing (option_map (renamed_hold t.names) x) ≡ is_for_writing x
    by_hold None = refl
    by_hold (Some h) = refl

put_same : (t : Twins) (bytes others : ℕ → List ℕ) (s offset : ℕ) (part : List ℕ) → SameBytes t.names t.one.view.held bytes others
    → SameBytes t.names t.one.view.held (put_at_pointer t.one.view.held bytes s offset part) (put_at_pointer t.view.held others s offset part)
unfolding put_at_pointer
put_same t bytes others s offset part same h hi =
    ap (λ (x : Option Hold). put_in others offset part x (t.names h.name)) (bound_renamed t.names t.one.view.held t.view.held t.views.held s) ∙ by_hold (bound_in t.one.view.held s) (bound_is_in t.one.view.held s)
  where
    by_hold : (x : Option Hold) → ((g : Hold) → x ≡ Some g → IsIn t.one.view.held g)
        → put_in others offset part (option_map (renamed_hold t.names) x) (t.names h.name) ≡ put_in bytes offset part x h.name
    by_hold None there = same h hi
    by_hold (Some g) there =
        ap (λ (b : Bool). cond b (put_part (others (t.names h.name)) offset part) (others (t.names h.name))) (same_test t.names t.one.view.held t.views.apart g h (there g refl) hi)
        ∙ ap (λ (bs : List ℕ). cond (h.name == g.name) (put_part bs offset part) bs) (same h hi)

pub range_same : (t : Twins) (s offset count : ℕ) → range_of t.view.held t.view.bytes s offset count ≡ range_of t.one.view.held t.one.view.bytes s offset count
unfolding range_of
range_same t s offset count =
    ap (λ (bs : List ℕ). cond (count == 0) [] bs)
    (ap (range_in t.view.bytes offset count) (bound_renamed t.names t.one.view.held t.view.held t.views.held s) ∙ by_hold (bound_in t.one.view.held s) (bound_is_in t.one.view.held s))
  where
    by_hold : (x : Option Hold) → ((h : Hold) → x ≡ Some h → IsIn t.one.view.held h)
        → range_in t.view.bytes offset count (option_map (renamed_hold t.names) x) ≡ range_in t.one.view.bytes offset count x
    by_hold None there = refl
    by_hold (Some h) there = ap (λ (bs : List ℕ). take count (drop offset bs)) (t.views.bytes h (there h refl))

-- the text behind a pointer
text_same : (t : Twins) (s offset : ℕ) → text_size t.view s offset ≡ text_size t.one.view s offset
unfolding bytes_at
text_same t s offset =
    ap (looked_at (name_most + 1)) (ap (bytes_from t.view.bytes offset) (bound_renamed t.names t.one.view.held t.view.held t.views.held s) ∙ by_hold (bound_in t.one.view.held s) (bound_is_in t.one.view.held s))
  where
    by_hold : (x : Option Hold) → ((h : Hold) → x ≡ Some h → IsIn t.one.view.held h)
        → bytes_from t.view.bytes offset (option_map (renamed_hold t.names) x) ≡ bytes_from t.one.view.bytes offset x
    by_hold None there = refl
    by_hold (Some h) there = ap (drop offset) (t.views.bytes h (there h refl))

-- Pointers and parts by slot.

each_good : (t : Twins) (ok : ℕ → Bool) (s offset count : ℕ) (ps qs : List Pointer) → are_good t.view ps ≡ are_good t.one.view qs
    → (is_good ok t.view s offset count && are_good t.view ps) ≡ (is_good ok t.one.view s offset count && are_good t.one.view qs)
each_good t ok s offset count ps qs rest =
    ap (λ (b : Bool). b && are_good t.view ps) (good_same t ok s offset count) ∙ ap (λ (b : Bool). is_good ok t.one.view s offset count && b) rest

pub are_good_same : (t : Twins) (ss : List Slot) (a : ℕ → ℕ) → are_good t.view (pointers_in ss t.view a) ≡ are_good t.one.view (pointers_in ss t.one.view a)
are_good_same t [] a = refl
are_good_same t (Word ∷ ss) a = are_good_same t ss a
are_good_same t (Long ∷ ss) a = are_good_same t ss a
are_good_same t (Reads ∷ ss) a = each_good t is_readable _ _ _ (pointers_in ss t.view a) (pointers_in ss t.one.view a) (are_good_same t ss a)
are_good_same t (Writes ∷ ss) a = each_good t is_writable _ _ _ (pointers_in ss t.view a) (pointers_in ss t.one.view a) (are_good_same t ss a)
are_good_same t (Text ∷ ss) a =
    let n = words_in ss in
    ap (λ (count : ℕ). is_good is_readable t.view (a (n + 1)) (a n) count && are_good t.view (pointers_in ss t.view a)) (text_same t (a (n + 1)) (a n))
    ∙ each_good t is_readable _ _ _ (pointers_in ss t.view a) (pointers_in ss t.one.view a) (are_good_same t ss a)
are_good_same t (ToWord ∷ ss) a = each_good t is_writable _ _ _ (pointers_in ss t.view a) (pointers_in ss t.one.view a) (are_good_same t ss a)
are_good_same t (ToLong ∷ ss) a = each_good t is_writable _ _ _ (pointers_in ss t.view a) (pointers_in ss t.one.view a) (are_good_same t ss a)
are_good_same t (ToWords count ∷ ss) a = each_good t is_writable _ _ _ (pointers_in ss t.view a) (pointers_in ss t.one.view a) (are_good_same t ss a)
are_good_same t (Heap ∷ ss) a = are_good_same t ss a

put_all_same : (t : Twins) (ps : List Pointer) (parts : List (List ℕ)) (bytes others : ℕ → List ℕ) → SameBytes t.names t.one.view.held bytes others
    → SameBytes t.names t.one.view.held (put_all t.one.view.held ps parts bytes) (put_all t.view.held ps parts others)
put_all_same t [] parts bytes others same = same
put_all_same t (p ∷ ps) [] bytes others same = same
put_all_same t (p ∷ ps) (part ∷ parts) bytes others same = put_all_same t ps parts _ _ (put_same t bytes others p.selector p.offset part same)

-- A row comes out alike: with other numbers for names in what changes, and with the same input left, where it began with the same.
abbrev pub ComesAlike : Twins → Outcome → Outcome → Type 0
ComesAlike t (outcome.Fails error values) q = q ≡ outcome.Fails error values
ComesAlike t (outcome.Does d) q = (input : List ℕ) × (q ≡ outcome.Does (record d { changes = renamed_changes t.names d.changes; input = input })) × (t.input ≡ t.one.input → input ≡ d.input)
ComesAlike t outcome.Waits q = q ≡ outcome.Waits
ComesAlike t (outcome.Leaves action code) q = q ≡ outcome.Leaves action code

come_renamed : (t : Twins) (r : CallRow) (next : ℕ) (a : ℕ → ℕ) (o q : Outcome) → OutcomeMoves t.one (returned t.one.cpu next (words_in r.slots) 0) o → ComesAlike t o q
    → Does t (come_out r t.one next a o) (come_out r (other t) next a q)
come_renamed t r next a (outcome.Fails error values) q moves is =
    subst (λ (q : Outcome). Does t (come_out r t.one next a (outcome.Fails error values)) (come_out r (other t) next a q)) (sym is)
    (record { cpu = refl; state = refl; bytes = t.views.bytes; changes = refl; input = λ e. e; piece = refl; lines = refl; waits = refl })
come_renamed t r next a outcome.Waits q moves is =
    subst (λ (q : Outcome). Does t (come_out r t.one next a outcome.Waits) (come_out r (other t) next a q)) (sym is)
    (record { cpu = refl; state = refl; bytes = t.views.bytes; changes = refl; input = λ e. e; piece = refl; lines = refl; waits = refl })
come_renamed t r next a (outcome.Leaves action code) q moves is =
    subst (λ (q : Outcome). Does t (come_out r t.one next a (outcome.Leaves action code)) (come_out r (other t) next a q)) (sym is)
    (record { cpu = refl; state = refl; bytes = t.views.bytes; changes = refl; input = λ e. e; piece = refl; lines = refl; waits = refl })
come_renamed t r next a (outcome.Does d) q moves is =
    subst (λ (q : Outcome). Does t (come_out r t.one next a (outcome.Does d)) (come_out r (other t) next a q)) (sym is.1)
    (record {
      cpu = ap (without (returned t.one.cpu next (words_in r.slots) 0)) (gone_renamed t.names t.one.number t.one.known t.known t.knows d.changes (moves_spare t.one _ d.changes moves));
      state = refl;
      bytes = put_all_same t (targets_in r.slots a) d.parts t.one.view.bytes t.view.bytes t.views.bytes;
      changes = refl;
      input = is.2;
      piece = refl;
      lines = ap (λ (ls : List Line). Calls t.one.number r.name (shown_in r.slots a) 0 d.values ∷ ls) (moved_renamed t.names r.name d.changes);
      waits = refl;
    })

-- what a row goes by is alike, so it comes out alike
pub record IsRowAlike (asking : Asking) (r : CallRow) : Type 0 where
  pub alike : (t : Twins) (a : ℕ → ℕ) → GoesAlike t.names asking a (asking.segments t.one a) t.one (other t) → ComesAlike t (r.outcome t.one a) (r.outcome (other t) a)

pub called_renamed : (t : Twins) (r : CallRow) (asking : Asking) (next : ℕ) → IsLawful r → IsRowAlike asking r
    → (let a : ℕ → ℕ = argument t.one.view t.one.cpu in (has_arguments t.one.view t.one.cpu (words_in r.slots) ≡ true → are_good t.one.view (pointers_in r.slots t.one.view a) ≡ true
    → GoesAlike t.names asking a (asking.segments t.one a) t.one (other t)))
    → Does t (served r t.one next) (served r (other t) next)
unfolding served
called_renamed t r asking next law row goes =
    tested t (has_arguments t.one.view t.one.cpu n) (has_arguments t.view t.one.cpu n) _ _ _ _ (has_same t n)
    (λ lies. subst (λ (x : ℕ → ℕ). Does t (worded r t.one next a) (worded r (other t) next x)) (sym (arguments_same t))
    (tested t (are_good t.one.view (pointers_in r.slots t.one.view a)) (are_good t.view (pointers_in r.slots t.view a)) _ _ _ _ (are_good_same t r.slots a)
    (λ good. come_renamed t r next a (r.outcome t.one a) (r.outcome (other t) a)
    (law.moves t.one a (returned t.one.cpu next n 0) (record { es = refl; cs = refl; ss = refl; ds = refl })) (row.alike t a (goes lies good)))
    (trapped_renamed t 13)))
    (trapped_renamed t 12)
  where
    a : ℕ → ℕ
    a = argument t.one.view t.one.cpu

    n : ℕ
    n = words_in r.slots
