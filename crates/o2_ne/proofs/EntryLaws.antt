-- The entries that a reading found stand in the file.
use Rattle.std.proofs.Common.{◌≡◌, ◌≢◌, ℕ, zero, suc, ◌+◌, ◌*◌, ◌<◌, ◌≤◌, ◌==◌, ◌||◌, ◌⊎◌, List, [], ◌∷◌, ◌++◌, Bool, true, false, Result, Ok, Err, refl, sym, subst, ap, ◌∙◌, arith, append_assoc, eqb-true, inl, inr, rules}
use Rattle.std.specs.Prelude.{nat_le, if◌then◌else◌}
use Rattle.std.proofs.lemmas.List.{append-nil}
use Rattle.std.proofs.lemmas.Bool.{leb-true, leb-false}
use Rattle.o2_base.specs.declared.faults.NeFault.{NeFault}
use Rattle.o2_ne.specs.declared.entries.Entry.{Entry}
use Rattle.o2_ne.specs.Checks.{all_hold, in_file, ◌>>=◌}
use Rattle.o2_ne.specs.EntryPlaces.{BundlesStand, at_end, at_zero, skipped, bundle, bundle_entries}
use Rattle.o2_ne.specs.EntryTable.{Table, bundle as bundle_of, bundle_from, kind_checks, entry_at, entry_checks, entry_step, next_entry, size_of, table_step}
use Rattle.o2_ne.specs.Steps.{steps, tabulate}
use Rattle.o2_ne.specs.Words.{byte_at}
use Rattle.o2_ne.proofs.Binding.{bind_ok}
use Rattle.o2_ne.proofs.Stepwise.{stays}

abbrev ok_of : {B F : Type 0} → B → Result B F
ok_of x = Ok x

bind_last : {A B F : Type 0} (r : Result A F) (x y : B) → (r >>= (λ (a : A). ok_of {B = B} {F = F} x)) ≡ Ok y → y ≡ x
bind_last (Ok a) x y h = cc
bind_last (Err f) x y h = absurd cc

step_place : (p size i q : ℕ) → q ≡ p + size * i → q + size ≡ p + size * (i + 1)
step_place p size i q h = omega arith

-- an entry that passed leads behind it
entry_is : (file : List ℕ) (segments kind : ℕ) (t after : Table) → entry_step file segments kind t ≡ Ok after → after ≡ next_entry file kind t
entry_is file segments kind t after e = bind_last (all_hold (entry_checks file segments kind t)) (next_entry file kind t) after e

-- entry j of a bundle whose entries begin at this place and ordinal
abbrev nth_entry : List ℕ → ℕ → ℕ → ℕ → ℕ → Entry
nth_entry file kind n p j = entry_at file kind (n + j) (p + size_of kind * j)

-- m entries of a bundle from entry i on
pub record Went (file : List ℕ) (kind n p i m : ℕ) (t after : Table) : Type 0 where
  found : after.found ≡ t.found ++ tabulate (nth_entry file kind n p) i m
  ordinal : after.ordinal ≡ n + (i + m)
  place : after.place ≡ p + size_of kind * (i + m)
  ended : after.ended ≡ t.ended

entries_went : (file : List ℕ) (segments kind n p i m : ℕ) (t after : Table) → t.ordinal ≡ n + i → t.place ≡ p + size_of kind * i
    → steps (entry_step file segments kind) m t ≡ Ok after → Went file kind n p i m t after
unfolding steps tabulate
entries_went file segments kind n p i zero t after at_n at_p e =
    let is : t ≡ after = cc in
    record {
      found = ap (λ (v : Table). v.found) (sym is) ∙ sym (append-nil t.found);
      ordinal = ap (λ (v : Table). v.ordinal) (sym is) ∙ at_n ∙ omega arith;
      place = ap (λ (v : Table). v.place) (sym is) ∙ at_p ∙ ap (λ (k : ℕ). p + size_of kind * k) (omega arith);
      ended = ap (λ (v : Table). v.ended) (sym is);
    }
entries_went file segments kind n p i (suc m) t after at_n at_p e =
    let b = bind_ok (entry_step file segments kind t) (steps (entry_step file segments kind) m) after e in
    let is = entry_is file segments kind t b.0 b.1 in
    let n1 : b.0.ordinal ≡ n + (i + 1) = ap (λ (v : Table). v.ordinal) is ∙ omega arith in
    let p1 : b.0.place ≡ p + size_of kind * (i + 1) = ap (λ (v : Table). v.place) is ∙ step_place p (size_of kind) i t.place at_p in
    let more = entries_went file segments kind n p (i + 1) m b.0 after n1 p1 b.2 in
    let here : entry_at file kind t.ordinal t.place ≡ nth_entry file kind n p i =
    ap (λ (k : ℕ). entry_at file kind k t.place) at_n ∙ ap (λ (q : ℕ). entry_at file kind (n + i) q) at_p in
    let sum : i + 1 + m ≡ i + suc m = omega arith in
    record {
      found = more.found ∙ ap (λ (v : Table). v.found ++ tabulate (nth_entry file kind n p) (i + 1) m) is
          ∙ append_assoc t.found (entry_at file kind t.ordinal t.place ∷ []) (tabulate (nth_entry file kind n p) (i + 1) m)
          ∙ ap (λ (x : Entry). t.found ++ (x ∷ tabulate (nth_entry file kind n p) (i + 1) m)) here;
      ordinal = more.ordinal ∙ ap (λ (k : ℕ). n + k) sum;
      place = more.place ∙ ap (λ (k : ℕ). p + size_of kind * k) sum;
      ended = more.ended ∙ ap (λ (v : Table). v.ended) is;
    }

abbrev count_then : List ℕ → ℕ → Table → Result Table NeFault
count_then file segments t =
    if byte_at file t.place == 0 then Ok (record t { ended = true }) else bundle_from file segments t.place t

-- what a step of a table that has not ended found
data Step (file : List ℕ) (end : ℕ) (t after : Table) : Type 0 where
  still : end ≤ t.place → after ≡ t → Step file end t after
  ends : t.place < end → byte_at file t.place ≡ 0 → after ≡ record t { ended = true } → Step file end t after
  skips : t.place < end → byte_at file t.place ≢ 0 → byte_at file (t.place + 1) ≡ 0
      → after ≡ record t { ordinal = t.ordinal + byte_at file t.place; place = t.place + 2 } → Step file end t after
  goes : t.place < end → byte_at file t.place ≢ 0 → byte_at file (t.place + 1) ≢ 0
      → Went file (byte_at file (t.place + 1)) t.ordinal (t.place + 2) 0 (byte_at file t.place) (record t { place = t.place + 2 }) after → Step file end t after

not_zero : (n : ℕ) → (n == 0) ≡ false → n ≢ 0
not_zero zero h e = cc
not_zero (suc n) h e = omega arith

bundle_is : (file : List ℕ) (segments end : ℕ) (t after : Table) → t.place < end → byte_at file t.place ≢ 0
    → bundle_of file segments (byte_at file t.place) (byte_at file (t.place + 1)) (record t { place = t.place + 2 }) ≡ Ok after
    → (b : Bool) → (byte_at file (t.place + 1) == 0) ≡ b → Step file end t after
bundle_is file segments end t after lt some e true z =
    let got = rw z at e in
    skips lt some (eqb-true _ _ z) cc
bundle_is file segments end t after lt some e false z =
    let got = rw z at e in
    let b = bind_ok (all_hold (kind_checks segments (byte_at file (t.place + 1))))
    (λ (u : Unit {0}). steps (entry_step file segments (byte_at file (t.place + 1))) (byte_at file t.place) (record t { place = t.place + 2 })) after got in
    goes lt some (not_zero _ z)
    (entries_went file segments (byte_at file (t.place + 1)) t.ordinal (t.place + 2) 0 (byte_at file t.place) (record t { place = t.place + 2 }) after (omega arith) (omega arith) b.2)

inside_is : (file : List ℕ) (segments end : ℕ) (t after : Table) → t.place < end
    → count_then file segments t ≡ Ok after → (b : Bool) → (byte_at file t.place == 0) ≡ b → Step file end t after
inside_is file segments end t after lt e true z =
    let got = rw z at e in
    ends lt (eqb-true _ _ z) cc
inside_is file segments end t after lt e false z =
    let got = rw z at e in
    let b = bind_ok (all_hold (in_file file (t.place + 1) 1 ∷ []))
    (λ (u : Unit {0}). bundle_of file segments (byte_at file t.place) (byte_at file (t.place + 1)) (record t { place = t.place + 2 })) after got in
    bundle_is file segments end t after lt (not_zero _ z) b.2 (byte_at file (t.place + 1) == 0) refl

step_is : (file : List ℕ) (segments end : ℕ) (t after : Table) → t.ended ≡ false → table_step file segments end t ≡ Ok after
    → (b : Bool) → nat_le end t.place ≡ b → Step file end t after
unfolding table_step
step_is file segments end t after going e true le =
    let over : (t.ended || nat_le end t.place) ≡ true = rw (going, le) refl in
    let got = rw over at e in
    still (leb-true _ _ le) cc
step_is file segments end t after going e false le =
    let over : (t.ended || nat_le end t.place) ≡ false = rw (going, le) refl in
    let got = rw over at e in
    let b = bind_ok (all_hold (in_file file t.place 1 ∷ [])) (λ (u : Unit {0}). count_then file segments t) after got in
    inside_is file segments end t after (leb-false _ _ le) b.2 (byte_at file t.place == 0) refl

-- the bundles behind what was found, where the table ended
pub record Rest (file : List ℕ) (end : ℕ) (t after : Table) : Type 0 where
  pub rest : List Entry
  pub found : after.found ≡ t.found ++ rest
  pub stands : BundlesStand file end t.place t.ordinal rest

no_more : (file : List ℕ) (end : ℕ) (t after : Table) → after.found ≡ t.found → BundlesStand file end t.place t.ordinal [] → Rest file end t after
no_more file end t after same stands = record { rest = []; found = same ∙ sym (append-nil t.found); stands = stands }

abbrev table_ok : Table → Result Table NeFault
table_ok t = Ok t

table_eq : (t u : Table) → table_ok t ≡ table_ok u → t ≡ u
table_eq t u h = cc

ended_stays : (file : List ℕ) (segments end : ℕ) (t : Table) → t.ended ≡ true → table_step file segments end t ≡ Ok t
unfolding table_step
ended_stays file segments end t h =
    let over : (t.ended || nat_le end t.place) ≡ true = rw h refl in
    rw over refl

past_stays : (file : List ℕ) (segments end : ℕ) (t : Table) → end ≤ t.place → table_step file segments end t ≡ Ok t
unfolding table_step
past_stays file segments end t h = go (t.ended) refl
  where
    go : (b : Bool) → t.ended ≡ b → table_step file segments end t ≡ Ok t
    go true e = ended_stays file segments end t e
    go false e =
        let le : nat_le end t.place ≡ true = search rules in
        let over : (t.ended || nat_le end t.place) ≡ true = rw (e, le) refl in
        rw over refl

-- where a step changes nothing, the walk ends as it is
same_end : (file : List ℕ) (segments end n : ℕ) (t after : Table) → table_step file segments end t ≡ Ok t → steps (table_step file segments end) n t ≡ Ok after → after ≡ t
same_end file segments end n t after h e = table_eq after t (sym e ∙ stays (table_step file segments end) n t h)

skip_rest : (file : List ℕ) (end : ℕ) (t next after : Table) → t.place < end → byte_at file t.place ≢ 0 → byte_at file (t.place + 1) ≡ 0
    → next ≡ record t { ordinal = t.ordinal + byte_at file t.place; place = t.place + 2 } → Rest file end next after → Rest file end t after
skip_rest file end t next after lt some none is r =
    let moved = subst (λ (v : Table). BundlesStand file end v.place v.ordinal r.rest) is r.stands in
    record {
      rest = r.rest;
      found = r.found ∙ ap (λ (v : Table). v.found ++ r.rest) is;
      stands = skipped lt some none moved;
    }

bundle_rest : (file : List ℕ) (end : ℕ) (t next after : Table) → t.place < end → byte_at file t.place ≢ 0 → byte_at file (t.place + 1) ≢ 0
    → Went file (byte_at file (t.place + 1)) t.ordinal (t.place + 2) 0 (byte_at file t.place) (record t { place = t.place + 2 }) next
    → Rest file end next after → Rest file end t after
bundle_rest file end t next after lt some kind went r =
    let here = bundle_entries file (byte_at file (t.place + 1)) (byte_at file t.place) (t.place + 2) t.ordinal in
    let count : 0 + byte_at file t.place ≡ byte_at file t.place = omega arith in
    let place : next.place ≡ t.place + 2 + size_of (byte_at file (t.place + 1)) * byte_at file t.place =
    went.place ∙ ap (λ (k : ℕ). t.place + 2 + size_of (byte_at file (t.place + 1)) * k) count in
    let ordinal : next.ordinal ≡ t.ordinal + byte_at file t.place = went.ordinal ∙ ap (λ (k : ℕ). t.ordinal + k) count in
    let moved = subst (λ (q : ℕ). BundlesStand file end q (t.ordinal + byte_at file t.place) r.rest) place (subst (λ (k : ℕ). BundlesStand file end next.place k r.rest) ordinal r.stands) in
    record {
      rest = bundle_entries file (byte_at file (t.place + 1)) (byte_at file t.place) (t.place + 2) t.ordinal ++ r.rest;
      found = r.found ∙ ap (λ (xs : List Entry). xs ++ r.rest) went.found
          ∙ append_assoc t.found (bundle_entries file (byte_at file (t.place + 1)) (byte_at file t.place) (t.place + 2) t.ordinal) r.rest;
      stands = bundle lt some kind refl moved;
    }

true_not_false : true ≡ false → ⊥
true_not_false h = cc

-- the walk is over: the end was met, or no bundle begins before the table's end
abbrev pub Over : ℕ → Table → Type 0
Over end t = (t.ended ≡ true) ⊎ (end ≤ t.place)

by_step : (file : List ℕ) (segments end n : ℕ) (t next after : Table) → t.ended ≡ false → Over end after → steps (table_step file segments end) n next ≡ Ok after → Step file end t next
    → (next.ended ≡ false → Rest file end next after) → Rest file end t after
by_step file segments end n t next after going over e (still past is) more =
    let place : next.place ≡ t.place = ap (λ (v : Table). v.place) is in
    let same = same_end file segments end n next after (past_stays file segments end next (omega arith)) e in
    no_more file end t after (ap (λ (v : Table). v.found) (same ∙ is)) (at_end past)
by_step file segments end n t next after going over e (ends lt none is) more =
    let same = same_end file segments end n next after (ended_stays file segments end next (ap (λ (v : Table). v.ended) is)) e in
    no_more file end t after (ap (λ (v : Table). v.found) (same ∙ is)) (at_zero lt none)
by_step file segments end n t next after going over e (skips lt some none is) more =
    skip_rest file end t next after lt some none is (more (ap (λ (v : Table). v.ended) is ∙ going))
by_step file segments end n t next after going over e (goes lt some kind went) more =
    bundle_rest file end t next after lt some kind went (more (went.ended ∙ going))

pub rest_stands : (file : List ℕ) (segments end n : ℕ) (t after : Table) → t.ended ≡ false → Over end after → steps (table_step file segments end) n t ≡ Ok after → Rest file end t after
unfolding steps
rest_stands file segments end zero t after going over e =
    let is : t ≡ after = table_eq t after e in
    let same : t.ended ≡ after.ended = ap (λ (v : Table). v.ended) is in
    let place : t.place ≡ after.place = ap (λ (v : Table). v.place) is in
    elim over [
      | inl ended ↦ absurd (true_not_false (sym ended ∙ sym same ∙ going))
      | inr past ↦ no_more file end t after (ap (λ (v : Table). v.found) (sym is)) (at_end (omega arith))
    ]
rest_stands file segments end (suc n) t after going over e =
    let b = bind_ok (table_step file segments end t) (steps (table_step file segments end) n) after e in
    by_step file segments end n t b.0 after going over b.2 (step_is file segments end t b.0 going b.1 (nat_le end t.place) refl)
    (λ next_going. rest_stands file segments end n b.0 after next_going over b.2)

far_by_step : (file : List ℕ) (segments end n : ℕ) (t next after : Table) → t.ended ≡ false → steps (table_step file segments end) n next ≡ Ok after → Step file end t next
    → (next.ended ≡ false → Over end after ⊎ (next.place + 2 * n ≤ after.place)) → Over end after ⊎ (t.place + 2 * suc n ≤ after.place)
far_by_step file segments end n t next after going e (still past is) more =
    let place : next.place ≡ t.place = ap (λ (v : Table). v.place) is in
    let same = same_end file segments end n next after (past_stays file segments end next (omega arith)) e in
    let there : after.place ≡ next.place = ap (λ (v : Table). v.place) same in
    inl (inr (omega arith))
far_by_step file segments end n t next after going e (ends lt none is) more =
    let ended : next.ended ≡ true = ap (λ (v : Table). v.ended) is in
    let same = same_end file segments end n next after (ended_stays file segments end next ended) e in
    inl (inl (ap (λ (v : Table). v.ended) same ∙ ended))
far_by_step file segments end n t next after going e (skips lt some none is) more =
    let place : next.place ≡ t.place + 2 = ap (λ (v : Table). v.place) is in
    elim (more (ap (λ (v : Table). v.ended) is ∙ going)) [ inl over ↦ inl over | inr far ↦ inr (omega arith) ]
far_by_step file segments end n t next after going e (goes lt some kind went) more =
    let place = went.place in
    elim (more (went.ended ∙ going)) [ inl over ↦ inl over | inr far ↦ inr (omega arith) ]

-- each bundle takes two bytes or more
goes_far : (file : List ℕ) (segments end n : ℕ) (t after : Table) → t.ended ≡ false → steps (table_step file segments end) n t ≡ Ok after → Over end after ⊎ (t.place + 2 * n ≤ after.place)
unfolding steps
goes_far file segments end zero t after going e =
    let place : t.place ≡ after.place = ap (λ (v : Table). v.place) (table_eq t after e) in
    inr (omega arith)
goes_far file segments end (suc n) t after going e =
    let b = bind_ok (table_step file segments end t) (steps (table_step file segments end) n) after e in
    far_by_step file segments end n t b.0 after going b.2 (step_is file segments end t b.0 going b.1 (nat_le end t.place) refl)
    (λ next_going. goes_far file segments end n b.0 after next_going b.2)

-- the entries that a walk of a table of `len` bytes found stand in its bundles
pub entries_stand : (file : List ℕ) (segments start end len : ℕ) (after : Table) → end ≡ start + len
    → steps (table_step file segments end) len (record { found = []; ordinal = 1; place = start; ended = false }) ≡ Ok after
    → BundlesStand file end start 1 after.found
entries_stand file segments start end len after is e =
    let t : Table = record { found = []; ordinal = 1; place = start; ended = false } in
    let over : Over end after = elim (goes_far file segments end len t after refl e) [ inl o ↦ o | inr far ↦ inr (omega arith) ] in
    let r = rest_stands file segments end len t after refl over e in
    subst (λ (xs : List Entry). BundlesStand file end start 1 xs) (sym r.found) r.stands
