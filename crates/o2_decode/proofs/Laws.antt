-- Reading: what is read is spelled so, what is spelled so is read, what is begun can be finished, what is refused stays refused.
use Rattle.std.proofs.Common.{◌≡◌, ◌⊎◌, ◌↔◌, inl, inr, refl, sym, ◌∙◌, ap, subst, ℕ, zero, suc, ◌+◌, ◌-◌, ◌<◌, ◌≤◌, Bool, true, false, cond, ◌||◌, eqb, nat_lt, List, []}
use Rattle.std.proofs.Common.{◌∷◌, ◌++◌, length, take, drop, replicate, slice_index_or, arith, append_assoc, length-append}
use Rattle.std.specs.Prelude.{Some}
use Rattle.std.specs.List.{AllByRecursion}
use Rattle.std.proofs.lemmas.Bool.{eqb-true, ltb-true, ltb-false, lt-ltb, le-ltb}
use Rattle.std.proofs.lemmas.List.{length-replicate, append-nil, take-append-drop}
use Rattle.std.proofs.lemmas.Grind.{common_steps}
use Rattle.std.proofs.Math.Seq.{take-append_seam}
use Rattle.o2_isa.specs.declared.rows.Entry.TheVariants.{Unused}
use Rattle.o2_isa.specs.declared.rows.Prefixes.{Prefixes}
use Rattle.o2_isa.specs.Operands.{Plan}
use Rattle.o2_isa.specs.declared.instr.Instr.{Instr}
use Rattle.o2_isa.specs.Reading.{Head, More, Bad, Whole}
use Rattle.o2_isa.specs.declared.rows.Decoded.{Decoded}
use Rattle.o2_isa.specs.declared.rows.Decoded.TheVariants.{One, Invalid, TooLong, Need}
use Rattle.o2_isa.specs.Table.{table, table_0f}
use Rattle.o2_isa.specs.Operands.{tail_len, instr_of}
use Rattle.o2_isa.specs.Spelling.{is_prefix, no_prefixes, mark, marks, plan_after, plan_two, plan_of, IsPrefix, IsByte, SpellsAfter, Spells, IsFront, IsUndefined}
use Rattle.o2_isa.specs.Reading.{IsWithin, head_after, head_two, head_of, read_tail, read, limited, decoded}
use Rattle.o2_decode.proofs.HeadLaws.{chosen, after_sound, after_again, after_bad, after_more, table_finish, table_0f_finish}

-- Heads with their opcode.

pub record HeadOf (bs : List ℕ) (p : Plan) (m : ℕ) : Type 0 where
  pub head : List ℕ
  pub rest : List ℕ
  pub whole : bs ≡ head ++ rest
  pub size : m ≡ length head
  pub known : plan_of head ≡ Some p

cond_true : {A : Type 0} (b : Bool) (x y : A) → b ≡ true → cond b x y ≡ x
cond_true b x y h = rw h refl

cond_false : {A : Type 0} (b : Bool) (x y : A) → b ≡ false → cond b x y ≡ y
cond_false b x y h = rw h refl

two_sound : (bs : List ℕ) (p : Plan) (m : ℕ) → head_two bs ≡ Whole p m → (h : List ℕ) × (rest : List ℕ) × (bs ≡ h ++ rest) × (m ≡ 1 + length h) × (plan_two h ≡ Some p)
two_sound [] p m e = cc
two_sound (b ∷ bs) p m e =
    let a = after_sound (slice_index_or table_0f b Unused) bs 2 p m e in
    (b ∷ a.head, a.rest, ap (λ x. b ∷ x) a.whole, omega (arith, a.size), a.known)

head_sound : (bs : List ℕ) (p : Plan) (m : ℕ) → head_of bs ≡ Whole p m → HeadOf bs p m
unfolding head_of
head_sound [] p m e = cc
head_sound (b ∷ bs) p m e =
    elim (chosen (eqb b 15) (head_two bs) (head_after (slice_index_or table b Unused) bs 1) (Whole p m) e) [
      | inl w ↦ (let s = two_sound bs p m w.1 in
          record { head = b ∷ s.0; rest = s.1; whole = ap (λ x. b ∷ x) s.2; size = omega (arith, s.3); known = cond_true (eqb b 15) _ _ w.0 ∙ s.4 })
      | inr w ↦ (let a = after_sound (slice_index_or table b Unused) bs 1 p m w.1 in
          record { head = b ∷ a.head; rest = a.rest; whole = ap (λ x. b ∷ x) a.whole; size = omega (arith, a.size); known = cond_false (eqb b 15) _ _ w.0 ∙ a.known })
    ]

two_again : (h rest : List ℕ) (p : Plan) → plan_two h ≡ Some p → head_two (h ++ rest) ≡ Whole p (1 + length h)
two_again [] rest p e = cc
two_again (b ∷ h) rest p e = after_again (slice_index_or table_0f b Unused) h rest 2 p e ∙ ap (λ n. Whole p n) (omega arith)

pub head_again : (h rest : List ℕ) (p : Plan) → plan_of h ≡ Some p → head_of (h ++ rest) ≡ Whole p (length h)
unfolding head_of
head_again [] rest p e = cc
head_again (b ∷ h) rest p e =
    elim (chosen (eqb b 15) (plan_two h) (plan_after (slice_index_or table b Unused) h) (Some p) e) [
      | inl w ↦ cond_true (eqb b 15) _ _ w.0 ∙ (two_again h rest p w.1 ∙ ap (λ n. Whole p n) (omega arith))
      | inr w ↦ cond_false (eqb b 15) _ _ w.0 ∙ (after_again (slice_index_or table b Unused) h rest 1 p w.1 ∙ ap (λ n. Whole p n) (omega arith))
    ]

two_bad : (bs more : List ℕ) → head_two bs ≡ Bad → head_two (bs ++ more) ≡ Bad
two_bad [] more e = cc
two_bad (b ∷ bs) more e = after_bad (slice_index_or table_0f b Unused) bs more 2 e

pub head_bad : (bs more : List ℕ) → head_of bs ≡ Bad → head_of (bs ++ more) ≡ Bad
unfolding head_of
head_bad [] more e = cc
head_bad (b ∷ bs) more e =
    elim (chosen (eqb b 15) (head_two bs) (head_after (slice_index_or table b Unused) bs 1) Bad e) [
      | inl w ↦ cond_true (eqb b 15) _ _ w.0 ∙ two_bad bs more w.1
      | inr w ↦ cond_false (eqb b 15) _ _ w.0 ∙ after_bad (slice_index_or table b Unused) bs more 1 w.1
    ]

pub record Begun (bs : List ℕ) : Type 0 where
  pub more : List ℕ
  pub some_more : 0 < length more
  pub each : AllByRecursion IsByte more
  pub plan : Plan
  pub known : plan_of (bs ++ more) ≡ Some plan

two_known : (b : ℕ) (h : List ℕ) (p : Plan) → (eqb b 15 ≡ true) → plan_two h ≡ Some p → plan_of (b ∷ h) ≡ Some p
two_known b h p t e = cond_true (eqb b 15) _ _ t ∙ e

clts : (p : Plan) × (plan_two (6 ∷ []) ≡ Some p)
unfolding table_0f
clts = (_, refl)

nop : (p : Plan) × (plan_of (144 ∷ []) ≡ Some p) × (0 ≡ tail_len p)
unfolding table
nop = (_, refl, refl)

two_more : (bs : List ℕ) → head_two bs ≡ More → (more : List ℕ) × (0 < length more) × (AllByRecursion IsByte more) × (p : Plan) × (plan_two (bs ++ more) ≡ Some p)
two_more [] e = (6 ∷ [], omega arith, (omega arith, tt), clts.0, clts.1)
two_more (b ∷ bs) e =
    let g = after_more (slice_index_or table_0f b Unused) bs 2 (table_0f_finish b) e in
    (g.more, g.some_more, g.each, g.plan, g.known)

pub head_more : (bs : List ℕ) → head_of bs ≡ More → Begun bs
unfolding head_of
head_more [] e = record { more = 144 ∷ []; some_more = omega arith; each = (omega arith, tt); plan = nop.0; known = nop.1 }
head_more (b ∷ bs) e =
    elim (chosen (eqb b 15) (head_two bs) (head_after (slice_index_or table b Unused) bs 1) More e) [
      | inl w ↦ (let g = two_more bs w.1 in record { more = g.0; some_more = g.1; each = g.2; plan = g.3; known = cond_true (eqb b 15) _ _ w.0 ∙ g.4 })
      | inr w ↦ (let g = after_more (slice_index_or table b Unused) bs 1 (table_finish b) w.1 in
          record { more = g.more; some_more = g.some_more; each = g.each; plan = g.plan; known = cond_false (eqb b 15) _ _ w.0 ∙ g.known })
    ]

-- A head begins with no prefix.

or_either : (a b : Bool) → (a || b) ≡ true → (a ≡ true) ⊎ (b ≡ true)
or_either true b h = inl refl
or_either false b h = inr h

unused_plan : (bs : List ℕ) (p : Plan) → plan_after Unused bs ≡ Some p → ⊥
unused_plan [] p e = cc
unused_plan (b ∷ []) p e = cc
unused_plan (b ∷ c ∷ bs) p e = cc

at_38 : (bs : List ℕ) (p : Plan) → plan_of (38 ∷ bs) ≡ Some p → ⊥
unfolding table
at_38 bs p e = unused_plan bs p e

at_46 : (bs : List ℕ) (p : Plan) → plan_of (46 ∷ bs) ≡ Some p → ⊥
unfolding table
at_46 bs p e = unused_plan bs p e

at_54 : (bs : List ℕ) (p : Plan) → plan_of (54 ∷ bs) ≡ Some p → ⊥
unfolding table
at_54 bs p e = unused_plan bs p e

at_62 : (bs : List ℕ) (p : Plan) → plan_of (62 ∷ bs) ≡ Some p → ⊥
unfolding table
at_62 bs p e = unused_plan bs p e

at_240 : (bs : List ℕ) (p : Plan) → plan_of (240 ∷ bs) ≡ Some p → ⊥
unfolding table
at_240 bs p e = unused_plan bs p e

at_242 : (bs : List ℕ) (p : Plan) → plan_of (242 ∷ bs) ≡ Some p → ⊥
unfolding table
at_242 bs p e = unused_plan bs p e

at_243 : (bs : List ℕ) (p : Plan) → plan_of (243 ∷ bs) ≡ Some p → ⊥
unfolding table
at_243 bs p e = unused_plan bs p e

at_byte : (k b : ℕ) (bs : List ℕ) (p : Plan) → eqb b k ≡ true → ((p : Plan) → plan_of (k ∷ bs) ≡ Some p → ⊥) → plan_of (b ∷ bs) ≡ Some p → ⊥
at_byte k b bs p t h e = h p (subst (λ (x : ℕ). plan_of (x ∷ bs) ≡ Some p) (eqb-true b k t) e)

is_no_head : (b : ℕ) (bs : List ℕ) (p : Plan) → is_prefix b ≡ true → plan_of (b ∷ bs) ≡ Some p → ⊥
is_no_head b bs p t e =
    elim (or_either _ _ t) [
      | inr l ↦ at_byte 243 b bs p l (at_243 bs) e
      | inl t6 ↦
          elim (or_either _ _ t6) [
            | inr l ↦ at_byte 242 b bs p l (at_242 bs) e
            | inl t5 ↦
                elim (or_either _ _ t5) [
                  | inr l ↦ at_byte 240 b bs p l (at_240 bs) e
                  | inl t4 ↦
                      elim (or_either _ _ t4) [
                        | inr l ↦ at_byte 62 b bs p l (at_62 bs) e
                        | inl t3 ↦
                            elim (or_either _ _ t3) [
                              | inr l ↦ at_byte 54 b bs p l (at_54 bs) e
                              | inl t2 ↦
                                  elim (or_either _ _ t2) [ inr l ↦ at_byte 46 b bs p l (at_46 bs) e | inl l ↦ at_byte 38 b bs p l (at_38 bs) e ]
                            ]
                      ]
                ]
          ]
    ]

pub not_prefix : (b : ℕ) (bs : List ℕ) (p : Plan) → plan_of (b ∷ bs) ≡ Some p → is_prefix b ≡ false
not_prefix b bs p e = false_of (is_prefix b) (λ t. is_no_head b bs p t e)
  where
    false_of : (x : Bool) → (x ≡ true → ⊥) → x ≡ false
    false_of true h = absurd (h refl)
    false_of false h = refl

-- Reading with the prefixes p, and k bytes before.

-- the front of the bytes spells i
pub record Read (p : Prefixes) (k : ℕ) (bs : List ℕ) (i : Instr) (n : ℕ) : Type 0 where
  pub front : List ℕ
  pub rest : List ℕ
  pub whole : bs ≡ front ++ rest
  pub size : n ≡ k + length front
  pub spells : SpellsAfter p front i

one_instr : (i j : Instr) (m n : ℕ) → One i m ≡ One j n → i ≡ j
one_instr i j m n e = cc

one_size : (i j : Instr) (m n : ℕ) → One i m ≡ One j n → m ≡ n
one_size i j m n e = cc

length-take-le : (n : ℕ) (xs : List ℕ) → n ≤ length xs → length (take n xs) ≡ n
length-take-le n xs h = grind (arith, common_steps)

drop-append_seam : (xs ys : List ℕ) → drop (length xs) (xs ++ ys) ≡ ys
drop-append_seam xs ys = grind (arith, common_steps)

-- the tail of a whole head
pub tail_sound : (plan : Plan) (m : ℕ) (p : Prefixes) (k : ℕ) (bs : List ℕ) (i : Instr) (n : ℕ) → HeadOf bs plan m → read_tail (Whole plan m) p k bs ≡ One i n → Read p k bs i n
tail_sound plan m p k bs i n h e =
    elim (chosen (nat_lt (length bs) (m + tail_len plan)) Need (One (instr_of p plan (take (tail_len plan) (drop m bs))) (k + (m + tail_len plan))) (One i n) e) [
      | inl w ↦ (let f : ⊥ = never w.1 in absurd f)
      | inr w ↦ (
          let is_rest : drop m bs ≡ h.rest = rw (h.size, h.whole) (drop-append_seam h.head h.rest) in
          let room : m + tail_len plan ≤ length bs = ltb-false _ _ w.0 in
          let size : length bs ≡ length h.head + length h.rest = ap length h.whole ∙ length-append h.head h.rest in
          let s = h.size in
          let enough : tail_len plan ≤ length h.rest = omega arith in
          let tail_size : length (take (tail_len plan) h.rest) ≡ tail_len plan = length-take-le _ _ enough in
          record {
            front = h.head ++ take (tail_len plan) h.rest;
            rest = drop (tail_len plan) h.rest;
            whole = h.whole ∙ (ap (λ x. h.head ++ x) (sym (take-append-drop (tail_len plan) h.rest)) ∙ sym (append_assoc h.head _ _));
            size = sym (one_size _ _ _ _ w.1) ∙ front_size (length-append h.head (take (tail_len plan) h.rest)) tail_size s;
            spells = record {
              prefixes = [];
              each = tt;
              head = h.head;
              plan = plan;
              known = h.known;
              tail = take (tail_len plan) h.rest;
              whole = tail_size;
              spelled = refl;
              means = sym (one_instr _ _ _ _ w.1) ∙ ap (λ x. instr_of p plan (take (tail_len plan) x)) is_rest;
            };
          })
    ]
  where
    never : Need ≡ One i n → ⊥
    never q = cc

    front_size : {a t l : ℕ} → a ≡ length h.head + t → t ≡ l → m ≡ length h.head → k + (m + l) ≡ k + a
    front_size x y z = omega arith

body_sound : (h : Head) (p : Prefixes) (k : ℕ) (bs : List ℕ) (i : Instr) (n : ℕ) → head_of bs ≡ h → read_tail h p k bs ≡ One i n → Read p k bs i n
body_sound More p k bs i n q e = cc
body_sound Bad p k bs i n q e = cc
body_sound (Whole plan m) p k bs i n q e = tail_sound plan m p k bs i n (head_sound bs plan m q) e

pub read_sound : (bs : List ℕ) (p : Prefixes) (k : ℕ) (i : Instr) (n : ℕ) → read p k bs ≡ One i n → Read p k bs i n
read_sound [] p k i n e = cc
read_sound (b ∷ bs) p k i n e =
    elim (chosen (is_prefix b) (read (mark p b) (k + 1) bs) (read_tail (head_of (b ∷ bs)) p k (b ∷ bs)) (One i n) e) [
      | inl w ↦ (let r = read_sound bs (mark p b) (k + 1) i n w.1 in
          record {
            front = b ∷ r.front;
            rest = r.rest;
            whole = ap (λ x. b ∷ x) r.whole;
            size = omega (arith, r.size);
            spells = record {
              prefixes = b ∷ r.spells.prefixes;
              each = (w.0, r.spells.each);
              head = r.spells.head;
              plan = r.spells.plan;
              known = r.spells.known;
              tail = r.spells.tail;
              whole = r.spells.whole;
              spelled = ap (λ x. b ∷ x) r.spells.spelled;
              means = r.spells.means;
            };
          })
      | inr w ↦ body_sound (head_of (b ∷ bs)) p k (b ∷ bs) i n refl w.1
    ]

take_seam : (xs ys : List ℕ) (n : ℕ) → length xs ≡ n → take n (xs ++ ys) ≡ xs
take_seam xs ys n e = rw (← e) (take-append_seam xs ys)

body_again : (head tail rest : List ℕ) (p : Prefixes) (k : ℕ) (plan : Plan) → plan_of head ≡ Some plan → length tail ≡ tail_len plan → read_tail (head_of (head ++ (tail ++ rest))) p k (head ++ (tail ++ rest)) ≡ One (instr_of p plan tail) (k + (length head + tail_len plan))
body_again head tail rest p k plan known whole =
    ap (λ h. read_tail h p k (head ++ (tail ++ rest))) (head_again head (tail ++ rest) plan known)
    ∙ (cond_false (nat_lt (length (head ++ (tail ++ rest))) (length head + tail_len plan)) _ _ (le-ltb _ _ room)
    ∙ ap (λ t. One (instr_of p plan t) (k + (length head + tail_len plan))) (ap (λ x. take (tail_len plan) x) (drop-append_seam head (tail ++ rest)) ∙ take_seam tail rest (tail_len plan) whole))
  where
    room : length head + tail_len plan ≤ length (head ++ (tail ++ rest))
    room = omega (arith, length-append head (tail ++ rest), length-append tail rest, whole)

start_again : (ps head tail rest : List ℕ) (p : Prefixes) (k : ℕ) (plan : Plan) → AllByRecursion IsPrefix ps → plan_of head ≡ Some plan
    → length tail ≡ tail_len plan → read p k (ps ++ (head ++ (tail ++ rest)))
    ≡ One (instr_of (marks p ps) plan tail) (k + (length ps + (length head + tail_len plan)))
start_again [] [] tail rest p k plan each known whole = cc
start_again [] (b ∷ head) tail rest p k plan each known whole =
    cond_false (is_prefix b) _ _ (not_prefix b head plan known)
    ∙ (body_again (b ∷ head) tail rest p k plan known whole ∙ ap (λ n. One (instr_of p plan tail) n) (omega arith))
start_again (b ∷ ps) head tail rest p k plan each known whole =
    cond_true (is_prefix b) _ _ each.0
    ∙ (start_again ps head tail rest (mark p b) (k + 1) plan each.1 known whole ∙ ap (λ n. One (instr_of (marks (mark p b) ps) plan tail) n) (omega arith))

pub read_again : (front rest : List ℕ) (p : Prefixes) (k : ℕ) (i : Instr) → SpellsAfter p front i → read p k (front ++ rest) ≡ One i (k + length front)
read_again front rest p k i s =
    ap (λ x. read p k x) regrouped
    ∙ (start_again s.prefixes s.head s.tail rest p k s.plan s.each s.known s.whole
    ∙ (ap (λ n. One (instr_of (marks p s.prefixes) s.plan s.tail) n) size ∙ ap (λ x. One x (k + length front)) (sym s.means)))
  where
    regrouped : front ++ rest ≡ s.prefixes ++ (s.head ++ (s.tail ++ rest))
    regrouped = ap (λ x. x ++ rest) s.spelled ∙ (append_assoc s.prefixes (s.head ++ s.tail) rest ∙ ap (λ x. s.prefixes ++ x) (append_assoc s.head s.tail rest))

    size : k + (length s.prefixes + (length s.head + tail_len s.plan)) ≡ k + length front
    size = omega (arith, ap length s.spelled, length-append s.prefixes (s.head ++ s.tail), length-append s.head s.tail, s.whole)

zeros_are_bytes : (n : ℕ) → AllByRecursion IsByte (replicate n 0)
zeros_are_bytes zero = tt
zeros_are_bytes (suc n) = (omega arith, zeros_are_bytes n)

bytes_and_bytes : (xs ys : List ℕ) → AllByRecursion IsByte xs → AllByRecursion IsByte ys → AllByRecursion IsByte (xs ++ ys)
bytes_and_bytes [] ys a b = b
bytes_and_bytes (x ∷ xs) ys a b = (a.0, bytes_and_bytes xs ys a.1 b)

pub record Goes_on (p : Prefixes) (bs : List ℕ) : Type 0 where
  pub more : List ℕ
  pub some_more : 0 < length more
  pub each : AllByRecursion IsByte more
  pub instr : Instr
  pub spells : SpellsAfter p (bs ++ more) instr

-- a head with zeros behind it
finished : (head : List ℕ) (plan : Plan) (p : Prefixes) (tail : List ℕ) (bs : List ℕ) → plan_of head ≡ Some plan → length tail ≡ tail_len plan → bs ≡ head ++ tail → SpellsAfter p bs (instr_of p plan tail)
finished head plan p tail bs known whole e = record { prefixes = []; each = tt; head = head; plan = plan; known = known; tail = tail; whole = whole; spelled = e; means = refl }

short_tail : (plan : Plan) (m : ℕ) (p : Prefixes) (bs : List ℕ) → HeadOf bs plan m → length bs < m + tail_len plan → Goes_on p bs
short_tail plan m p bs h short = record {
  more = zeros;
  some_more = some;
  each = zeros_are_bytes _;
  instr = instr_of p plan (h.rest ++ zeros);
  spells = finished h.head plan p (h.rest ++ zeros) (bs ++ zeros) h.known full (ap (λ x. x ++ zeros) h.whole ∙ append_assoc h.head h.rest zeros);
}
  where
    zeros : List ℕ
    zeros = replicate (tail_len plan - length h.rest) 0

    sizes : length bs ≡ length h.head + length h.rest
    sizes = ap length h.whole ∙ length-append h.head h.rest

    long : length zeros ≡ tail_len plan - length h.rest
    long = length-replicate (tail_len plan - length h.rest) 0

    some : 0 < length zeros
    some = omega (arith, long, sizes, h.size, short)

    full : length (h.rest ++ zeros) ≡ tail_len plan
    full = omega (arith, length-append h.rest zeros, long, sizes, h.size, short)

begun_goes : (p : Prefixes) (bs : List ℕ) → Begun bs → Goes_on p bs
begun_goes p bs b = record {
  more = b.more ++ zeros;
  some_more = omega (arith, length-append b.more zeros, b.some_more);
  each = bytes_and_bytes b.more zeros b.each (zeros_are_bytes _);
  instr = instr_of p b.plan zeros;
  spells = finished (bs ++ b.more) b.plan p zeros (bs ++ (b.more ++ zeros)) b.known (length-replicate (tail_len b.plan) 0) (sym (append_assoc bs b.more zeros));
}
  where
    zeros : List ℕ
    zeros = replicate (tail_len b.plan) 0

body_more : (h : Head) (p : Prefixes) (k : ℕ) (bs : List ℕ) → head_of bs ≡ h → read_tail h p k bs ≡ Need → Goes_on p bs
body_more More p k bs q e = begun_goes p bs (head_more bs q)
body_more Bad p k bs q e = cc
body_more (Whole plan m) p k bs q e =
    elim (chosen (nat_lt (length bs) (m + tail_len plan)) Need (One (instr_of p plan (take (tail_len plan) (drop m bs))) (k + (m + tail_len plan))) Need e) [
      | inl w ↦ short_tail plan m p bs (head_sound bs plan m q) (ltb-true _ _ w.0)
      | inr w ↦ (let f : ⊥ = never _ _ w.1 in absurd f)
    ]
  where
    never : (i : Instr) (n : ℕ) → One i n ≡ Need → ⊥
    never i n q = cc

pub read_more : (bs : List ℕ) (p : Prefixes) (k : ℕ) → read p k bs ≡ Need → Goes_on p bs
read_more [] p k e = record { more = 144 ∷ []; some_more = omega arith; each = (omega arith, tt); instr = instr_of p nop.0 []; spells = finished (144 ∷ []) nop.0 p [] (144 ∷ []) nop.1 nop.2 refl }
read_more (b ∷ bs) p k e =
    elim (chosen (is_prefix b) (read (mark p b) (k + 1) bs) (read_tail (head_of (b ∷ bs)) p k (b ∷ bs)) Need e) [
      | inl w ↦ (let r = read_more bs (mark p b) (k + 1) w.1 in
          record {
            more = r.more;
            some_more = r.some_more;
            each = r.each;
            instr = r.instr;
            spells = record {
              prefixes = b ∷ r.spells.prefixes;
              each = (w.0, r.spells.each);
              head = r.spells.head;
              plan = r.spells.plan;
              known = r.spells.known;
              tail = r.spells.tail;
              whole = r.spells.whole;
              spelled = ap (λ x. b ∷ x) r.spells.spelled;
              means = r.spells.means;
            };
          })
      | inr w ↦ body_more (head_of (b ∷ bs)) p k (b ∷ bs) refl w.1
    ]

body_bad : (h : Head) (p : Prefixes) (k : ℕ) (bs more : List ℕ) → head_of bs ≡ h → read_tail h p k bs ≡ Invalid → read_tail (head_of (bs ++ more)) p k (bs ++ more) ≡ Invalid
body_bad More p k bs more q e = cc
body_bad Bad p k bs more q e = ap (λ h. read_tail h p k (bs ++ more)) (head_bad bs more q)
body_bad (Whole plan m) p k bs more q e =
    elim (chosen (nat_lt (length bs) (m + tail_len plan)) Need (One (instr_of p plan (take (tail_len plan) (drop m bs))) (k + (m + tail_len plan))) Invalid e) [
      | inl w ↦ (let f : ⊥ = needs w.1 in absurd f)
      | inr w ↦ (let f : ⊥ = never _ _ w.1 in absurd f)
    ]
  where
    needs : Need ≡ Invalid → ⊥
    needs q = cc

    never : (i : Instr) (n : ℕ) → One i n ≡ Invalid → ⊥
    never i n q = cc

pub read_bad : (bs more : List ℕ) (p : Prefixes) (k : ℕ) → read p k bs ≡ Invalid → read p k (bs ++ more) ≡ Invalid
read_bad [] more p k e = cc
read_bad (b ∷ bs) more p k e =
    elim (chosen (is_prefix b) (read (mark p b) (k + 1) bs) (read_tail (head_of (b ∷ bs)) p k (b ∷ bs)) Invalid e) [
      | inl w ↦ cond_true (is_prefix b) _ _ w.0 ∙ read_bad bs more (mark p b) (k + 1) w.1
      | inr w ↦ cond_false (is_prefix b) _ _ w.0 ∙ body_bad (head_of (b ∷ bs)) p k (b ∷ bs) more refl w.1
    ]

body_no_limit : (h : Head) (p : Prefixes) (k : ℕ) (bs : List ℕ) → read_tail h p k bs ≡ TooLong → ⊥
body_no_limit More p k bs e = cc
body_no_limit Bad p k bs e = cc
body_no_limit (Whole plan m) p k bs e =
    elim (chosen (nat_lt (length bs) (m + tail_len plan)) Need (One (instr_of p plan (take (tail_len plan) (drop m bs))) (k + (m + tail_len plan))) TooLong e) [
      | inl w ↦ needs w.1
      | inr w ↦ never _ _ w.1
    ]
  where
    needs : Need ≡ TooLong → ⊥
    needs q = cc

    never : (i : Instr) (n : ℕ) → One i n ≡ TooLong → ⊥
    never i n q = cc

pub read_no_limit : (bs : List ℕ) (p : Prefixes) (k : ℕ) → read p k bs ≡ TooLong → ⊥
read_no_limit [] p k e = cc
read_no_limit (b ∷ bs) p k e =
    elim (chosen (is_prefix b) (read (mark p b) (k + 1) bs) (read_tail (head_of (b ∷ bs)) p k (b ∷ bs)) TooLong e) [
      | inl w ↦ read_no_limit bs (mark p b) (k + 1) w.1
      | inr w ↦ body_no_limit (head_of (b ∷ bs)) p k (b ∷ bs) w.1
    ]

-- Both sides.

read_whole : (front rest : List ℕ) (i : Instr) → Spells front i → read no_prefixes 0 (front ++ rest) ≡ One i (length front)
read_whole front rest i s = read_again front rest no_prefixes 0 i s ∙ ap (λ n. One i n) (omega arith)

pub one_exactly : (bs : List ℕ) (i : Instr) (n : ℕ) → (read no_prefixes 0 bs ≡ One i n) ↔ ((n ≤ length bs) × Spells (take n bs) i)
one_exactly bs i n = (there, back)
  where
    there : read no_prefixes 0 bs ≡ One i n → (n ≤ length bs) × Spells (take n bs) i
    there e =
        let r = read_sound bs no_prefixes 0 i n e in
        let sizes : length bs ≡ length r.front + length r.rest = ap length r.whole ∙ length-append r.front r.rest in
        let size = r.size in
        let is_front : take n bs ≡ r.front = ap (λ x. take n x) r.whole ∙ take_seam r.front r.rest n (omega arith) in
        (omega arith, subst (λ (x : List ℕ). Spells x i) (sym is_front) r.spells)

    back : ((n ≤ length bs) × Spells (take n bs) i) → read no_prefixes 0 bs ≡ One i n
    back h = ap (λ x. read no_prefixes 0 x) (sym (take-append-drop n bs)) ∙ (read_whole (take n bs) (drop n bs) i h.1 ∙ ap (λ m. One i m) (length-take-le n bs h.0))

front_needs : (bs : List ℕ) (r : Decoded) → read no_prefixes 0 bs ≡ r → IsFront bs → r ≡ Need
front_needs bs Need q f = refl
front_needs bs TooLong q f = absurd (read_no_limit bs no_prefixes 0 q)
front_needs bs Invalid q f = absurd (never (sym (read_bad bs f.more no_prefixes 0 q) ∙ (ap (λ x. read no_prefixes 0 x) (sym (append-nil (bs ++ f.more))) ∙ read_whole (bs ++ f.more) [] f.instr f.spells)))
  where
    never : Invalid ≡ One f.instr (length (bs ++ f.more)) → ⊥
    never e = cc
front_needs bs (One i n) q f = absurd (omega (arith, sizes, same, r.size, ap length r.whole, length-append r.front r.rest, f.some_more))
  where
    r : Read no_prefixes 0 bs i n
    r = read_sound bs no_prefixes 0 i n q

    sizes : length (bs ++ f.more) ≡ length bs + length f.more
    sizes = length-append bs f.more

    longer : read no_prefixes 0 (bs ++ f.more) ≡ One f.instr (length (bs ++ f.more))
    longer = ap (λ x. read no_prefixes 0 x) (sym (append-nil (bs ++ f.more))) ∙ read_whole (bs ++ f.more) [] f.instr f.spells

    shorter : read no_prefixes 0 (bs ++ f.more) ≡ One i (length r.front)
    shorter = ap (λ x. read no_prefixes 0 (x ++ f.more)) r.whole ∙ (ap (λ x. read no_prefixes 0 x) (append_assoc r.front r.rest f.more) ∙ read_whole r.front (r.rest ++ f.more) i r.spells)

    same : length (bs ++ f.more) ≡ length r.front
    same = one_size _ _ _ _ (sym longer ∙ shorter)

pub need_exactly : (bs : List ℕ) → (read no_prefixes 0 bs ≡ Need) ↔ IsFront bs
need_exactly bs = (there, λ f. front_needs bs (read no_prefixes 0 bs) refl f)
  where
    there : read no_prefixes 0 bs ≡ Need → IsFront bs
    there e = let g = read_more bs no_prefixes 0 e in record { more = g.more; some_more = g.some_more; each = g.each; instr = g.instr; spells = g.spells }

limited_one : (r : Decoded) (len : ℕ) (i : Instr) (n : ℕ) → (limited len r ≡ One i n) ↔ (r ≡ One i n)
limited_one Need len i n = (λ e. elim (chosen (nat_lt len 10) Need TooLong (One i n) e) [ inl w ↦ w.1 | inr w ↦ absurd (never w.1) ], λ e. absurd (needs e))
  where
    never : TooLong ≡ One i n → ⊥
    never e = cc

    needs : Need ≡ One i n → ⊥
    needs e = cc
limited_one (One j m) len i n = (λ e. e, λ e. e)
limited_one Invalid len i n = (λ e. e, λ e. e)
limited_one TooLong len i n = (λ e. e, λ e. e)

limited_need : (r : Decoded) (len : ℕ) → (limited len r ≡ Need) ↔ ((len < 10) × (r ≡ Need))
limited_need Need len = (λ e. elim (chosen (nat_lt len 10) Need TooLong Need e) [ inl w ↦ (ltb-true _ _ w.0, refl) | inr w ↦ absurd (never w.1) ], λ h. cond_true (nat_lt len 10) _ _ (lt-ltb _ _ h.0))
  where
    never : TooLong ≡ Need → ⊥
    never e = cc
limited_need (One j m) len = (λ e. absurd (never e), λ h. h.1)
  where
    never : One j m ≡ Need → ⊥
    never e = cc
limited_need Invalid len = (λ e. absurd (never e), λ h. h.1)
  where
    never : Invalid ≡ Need → ⊥
    never e = cc
limited_need TooLong len = (λ e. absurd (never e), λ h. h.1)
  where
    never : TooLong ≡ Need → ⊥
    never e = cc

limited_long : (r : Decoded) (len : ℕ) → (r ≡ TooLong → ⊥) → (limited len r ≡ TooLong) ↔ ((10 ≤ len) × (r ≡ Need))
limited_long Need len other = (λ e. elim (chosen (nat_lt len 10) Need TooLong TooLong e) [ inl w ↦ absurd (never w.1) | inr w ↦ (ltb-false _ _ w.0, refl) ], λ h. cond_false (nat_lt len 10) _ _ (le-ltb _ _ h.0))
  where
    never : Need ≡ TooLong → ⊥
    never e = cc
limited_long (One j m) len other = (λ e. absurd (other e), λ h. absurd (never h.1))
  where
    never : One j m ≡ Need → ⊥
    never e = cc
limited_long Invalid len other = (λ e. absurd (other e), λ h. absurd (never h.1))
  where
    never : Invalid ≡ Need → ⊥
    never e = cc
limited_long TooLong len other = (λ e. absurd (other refl), λ h. absurd (never h.1))
  where
    never : TooLong ≡ Need → ⊥
    never e = cc

less_or_not : (a b : ℕ) → (a < b) ⊎ (b ≤ a)
less_or_not a b = elim (either_way (nat_lt a b)) [ inl t ↦ inl (ltb-true _ _ t) | inr f ↦ inr (ltb-false _ _ f) ]
  where
    either_way : (x : Bool) → (x ≡ true) ⊎ (x ≡ false)
    either_way true = inl refl
    either_way false = inr refl

pub one_law : (bs : List ℕ) (len : ℕ) (i : Instr) (n : ℕ) → (limited len (read no_prefixes 0 bs) ≡ One i n) ↔ ((n ≤ length bs) × Spells (take n bs) i)
one_law bs len i n =
    let l = limited_one (read no_prefixes 0 bs) len i n in
    let x = one_exactly bs i n in
    (λ e. x.0 (l.0 e), λ h. l.1 (x.1 h))

pub need_law : (bs : List ℕ) (len : ℕ) → (limited len (read no_prefixes 0 bs) ≡ Need) ↔ ((len < 10) × IsFront bs)
need_law bs len =
    let l = limited_need (read no_prefixes 0 bs) len in
    let x = need_exactly bs in
    (λ e. (let h = l.0 e in (h.0, x.0 h.1)), λ h. l.1 (h.0, x.1 h.1))

pub long_law : (bs : List ℕ) (len : ℕ) → (limited len (read no_prefixes 0 bs) ≡ TooLong) ↔ ((10 ≤ len) × IsFront bs)
long_law bs len =
    let l = limited_long (read no_prefixes 0 bs) len (read_no_limit bs no_prefixes 0) in
    let x = need_exactly bs in
    (λ e. (let h = l.0 e in (h.0, x.0 h.1)), λ h. l.1 (h.0, x.1 h.1))

pub invalid_law : (bs : List ℕ) (len : ℕ) → (limited len (read no_prefixes 0 bs) ≡ Invalid) ↔ IsUndefined bs
invalid_law bs len = (there, λ u. back (limited len (read no_prefixes 0 bs)) refl u)
  where
    there : limited len (read no_prefixes 0 bs) ≡ Invalid → IsUndefined bs
    there e = record {
      no_instruction = λ i n h s. never_one i n (sym e ∙ (one_law bs len i n).1 (h, s));
      no_front = λ f. elim (less_or_not len 10) [
        | inl l ↦ never_need (sym e ∙ (need_law bs len).1 (l, f))
        | inr l ↦ never_long (sym e ∙ (long_law bs len).1 (l, f))
      ];
    }
      where
        never_one : (i : Instr) (n : ℕ) → Invalid ≡ One i n → ⊥
        never_one i n q = cc

        never_need : Invalid ≡ Need → ⊥
        never_need q = cc

        never_long : Invalid ≡ TooLong → ⊥
        never_long q = cc

    back : (r : Decoded) → limited len (read no_prefixes 0 bs) ≡ r → IsUndefined bs → limited len (read no_prefixes 0 bs) ≡ Invalid
    back (One i n) e u = (let h = (one_law bs len i n).0 e in absurd (u.no_instruction i n h.0 h.1))
    back Invalid e u = e
    back TooLong e u = absurd (u.no_front ((long_law bs len).0 e).1)
    back Need e u = absurd (u.no_front ((need_law bs len).0 e).1)

pub within_law : (bs : List ℕ) (len : ℕ) (r : Decoded) → r ≡ limited len (read no_prefixes 0 bs) → IsWithin r (length bs)
within_law bs len (One i n) e = (let h = (one_law bs len i n).0 (sym e) in h.0)
within_law bs len Invalid e = tt
within_law bs len TooLong e = tt
within_law bs len Need e = tt

pub one_meaning : (bs : List ℕ) (i j : Instr) → Spells bs i → Spells bs j → i ≡ j
one_meaning bs i j a b = one_instr i j _ _ (sym (read_whole bs [] i a) ∙ read_whole bs [] j b)

empty : (bs : List ℕ) → length bs ≡ 0 → bs ≡ []
empty [] e = refl
empty (b ∷ bs) e = absurd (omega arith)

pub no_front : (a b : List ℕ) (i j : Instr) → Spells a i → Spells (a ++ b) j → b ≡ []
no_front a b i j s t = empty b (omega (arith, same, length-append a b))
  where
    same : length (a ++ b) ≡ length a
    same = one_size j i _ _ (sym (read_whole (a ++ b) [] j t) ∙ (ap (λ x. read no_prefixes 0 x) (append-nil (a ++ b)) ∙ read_whole a b i s))

pub decoded_law : (bytes : List ℕ) → limited (length bytes) (read no_prefixes 0 bytes) ≡ decoded bytes
unfolding decoded
decoded_law bytes = refl
