-- The names that a reading found stand in the file.
use Rattle.std.proofs.Common.{◌≡◌, ℕ, zero, suc, ◌+◌, ◌-◌, ◌*◌, ◌<◌, ◌≤◌, ◌==◌, List, [], ◌∷◌, ◌++◌, Bool, true, false, Result, Ok, length, drop, refl, sym, subst, ap, ◌∙◌, arith, append_assoc, eqb-true, inl, inr, ◌⊎◌}
use Rattle.std.proofs.lemmas.List.{append-nil, length-take-le, length-drop}
use Rattle.o2_base.specs.declared.faults.NeFault.{NeFault}
use Rattle.o2_ne.specs.declared.names.Name.{Name}
use Rattle.o2_ne.specs.Checks.{all_hold, in_file}
use Rattle.o2_ne.specs.NamePlaces.{NameStands, NamesStand, StringStands}
use Rattle.o2_ne.specs.NameTable.{Walk, name_at, name_step, named}
use Rattle.o2_ne.specs.Steps.{steps}
use Rattle.o2_ne.specs.Words.{byte_at, string_at, word_at}
use Rattle.o2_ne.proofs.Binding.{bind_ok, in_file_holds, lies_inside}
use Rattle.o2_ne.proofs.NameSteps.{is_over}

-- the length of a string that lies in the file
length_string : (file : List ℕ) (p n : ℕ) → p + n ≤ length file → length (string_at file p n) ≡ n
length_string file p n le =
    let d = length-drop p file in
    length-take-le n (drop p file) (omega arith)

pub string_stands : (file : List ℕ) (p : ℕ) → p < length file → 0 < byte_at file p → p + 1 + (byte_at file p + 2) ≤ length file → StringStands file p (string_at file (p + 1) (byte_at file p))
string_stands file p lt some le =
    let len : length (string_at file (p + 1) (byte_at file p)) ≡ byte_at file p = length_string file (p + 1) (byte_at file p) (omega arith) in
    record {
      some = omega arith;
      len = sym len;
      bytes = ap (λ (n : ℕ). string_at file (p + 1) n) (sym len);
      inside = omega arith;
    }

-- the walk behind the name at its place
abbrev walked : List ℕ → Walk → Walk
walked file w = record {
  found = w.found ++ name_at file (w.place + 1) (byte_at file w.place) ∷ [];
  place = w.place + 1 + byte_at file w.place + 2;
  ended = false;
}

abbrev found_at : List ℕ → Walk → Result Walk NeFault
found_at file w = Ok (walked file w)

-- what a step of a table that goes on found: its end, or a name
abbrev Ends : List ℕ → Walk → Walk → Type 0
Ends file w after = (w.place < length file) × (byte_at file w.place ≡ 0) × (after ≡ record w { ended = true })

abbrev Finds : List ℕ → Walk → Walk → Type 0
Finds file w after = NameStands file w.place (name_at file (w.place + 1) (byte_at file w.place)) × (after ≡ walked file w)

positive : (n : ℕ) → (n == 0) ≡ false → 0 < n
positive zero h = absurd cc
positive (suc n) h = omega arith

named_is : (file : List ℕ) (w after : Walk) → w.place < length file → named file (byte_at file w.place) w ≡ Ok after
    → (c : Bool) → (byte_at file w.place == 0) ≡ c → Ends file w after ⊎ Finds file w after
named_is file w after lt e true z =
    let zero_is : byte_at file w.place ≡ 0 = eqb-true _ _ z in
    let got = rw z at e in
    let is : after ≡ record w { ended = true } = cc in
    inl (lt, zero_is, is)
named_is file w after lt e false z =
    let some : 0 < byte_at file w.place = positive (byte_at file w.place) z in
    let got = rw z at e in
    let b = bind_ok (all_hold (in_file file (w.place + 1) (byte_at file w.place + 2) ∷ [])) (λ (u : Unit {0}). found_at file w) after got in
    let le = lies_inside file (w.place + 1) (byte_at file w.place + 2) (omega arith) (in_file_holds file (w.place + 1) (byte_at file w.place + 2) _ b.1) in
    let text = string_stands file w.place lt some (omega arith) in
    let len : byte_at file w.place ≡ length (string_at file (w.place + 1) (byte_at file w.place)) = text.len in
    let name : NameStands file w.place (name_at file (w.place + 1) (byte_at file w.place)) =
    record { text = text; ordinal = ap (λ (k : ℕ). word_at file (w.place + 1 + k)) len } in
    let is : after ≡ walked file w = cc in
    inr (name, is)

step_is : (file : List ℕ) (w after : Walk) → w.ended ≡ false → name_step file w ≡ Ok after → Ends file w after ⊎ Finds file w after
unfolding name_step
step_is file w after going e =
    let got = rw going at e in
    let b = bind_ok (all_hold (in_file file w.place 1 ∷ [])) (λ (u : Unit {0}). named file (byte_at file w.place) w) after got in
    let le = lies_inside file w.place 1 (omega arith) (in_file_holds file w.place 1 _ b.1) in
    named_is file w after (omega arith) b.2 (byte_at file w.place == 0) refl

abbrev walk_ok : Walk → Result Walk NeFault
walk_ok w = Ok w

-- the names behind what was found, where the table's end was met
pub Rest : List ℕ → Walk → Walk → Type 0
Rest file w after = (rest : List Name) × (after.found ≡ w.found ++ rest) × NamesStand file w.place rest

ended_is : (w v : Walk) → walk_ok w ≡ walk_ok v → w.ended ≡ v.ended
ended_is w v h = let is : w ≡ v = cc in ap (λ (x : Walk). x.ended) is

found_is : (w v : Walk) → walk_ok w ≡ walk_ok v → w.found ≡ v.found
found_is w v h = let is : w ≡ v = cc in ap (λ (x : Walk). x.found) is

after_end : (file : List ℕ) (n : ℕ) (w next after : Walk) → Ends file w next → steps (name_step file) n next ≡ Ok after → Rest file w after
unfolding Rest
after_end file n w next after ends e =
    let over : next.ended ≡ true = ap (λ (v : Walk). v.ended) ends.2 in
    let same = is_over file n next (Ok after) over e in
    let found : after.found ≡ next.found = found_is after next same in
    ([], found ∙ ap (λ (v : Walk). v.found) ends.2 ∙ sym (append-nil w.found), (ends.0, ends.1))

after_name : (file : List ℕ) (w next after : Walk) → Finds file w next → Rest file next after → Rest file w after
unfolding Rest
after_name file w next after finds rest =
    let name = name_at file (w.place + 1) (byte_at file w.place) in
    let found = rest.1 ∙ ap (λ (v : Walk). v.found ++ rest.0) finds.1 ∙ append_assoc w.found (name_at file (w.place + 1) (byte_at file w.place) ∷ []) rest.0 in
    let place : next.place ≡ w.place + 1 + length (string_at file (w.place + 1) (byte_at file w.place)) + 2 =
    ap (λ (v : Walk). v.place) finds.1 ∙ ap (λ (k : ℕ). w.place + 1 + k + 2) (finds.0).text.len in
    (name_at file (w.place + 1) (byte_at file w.place) ∷ rest.0, found, (finds.0, subst (λ (q : ℕ). NamesStand file q rest.0) place rest.2))

pub rest_stands : (file : List ℕ) (n : ℕ) (w after : Walk) → w.ended ≡ false → after.ended ≡ true → steps (name_step file) n w ≡ Ok after → Rest file w after
unfolding steps
rest_stands file zero w after going over e =
    let is : w ≡ after = cc in
    let same : w.ended ≡ after.ended = ap (λ (v : Walk). v.ended) is in
    absurd (let bad : true ≡ false = sym over ∙ sym same ∙ going in cc)
rest_stands file (suc n) w after going over e =
    let b = bind_ok (name_step file w) (steps (name_step file) n) after e in
    elim (step_is file w b.0 going b.1) [
      | inl ends ↦ after_end file n w b.0 after ends b.2
      | inr finds ↦ after_name file w b.0 after finds (rest_stands file n b.0 after (ap (λ (v : Walk). v.ended) finds.1) over b.2)
    ]

-- a walk that goes on after n steps went four places or more with each, and is still in the file
goes_far : (file : List ℕ) (n : ℕ) (w after : Walk) → w.ended ≡ false → after.ended ≡ false → w.place ≤ length file → steps (name_step file) n w ≡ Ok after
    → (w.place + 4 * n ≤ after.place) × (after.place ≤ length file)
unfolding steps
goes_far file zero w after going goes le e =
    let is : w ≡ after = cc in
    let place : w.place ≡ after.place = ap (λ (v : Walk). v.place) is in
    (omega arith, omega arith)
goes_far file (suc n) w after going goes le e =
    let b = bind_ok (name_step file w) (steps (name_step file) n) after e in
    elim (step_is file w b.0 going b.1) [
      | inl ends ↦
          let over : b.0.ended ≡ true = ap (λ (v : Walk). v.ended) ends.2 in
          let same = is_over file n b.0 (Ok after) over b.2 in
          let ended : after.ended ≡ b.0.ended = ended_is after b.0 same in
          absurd (let bad : true ≡ false = sym over ∙ sym ended ∙ goes in cc)
      | inr finds ↦
          let place : b.0.place ≡ w.place + 1 + byte_at file w.place + 2 = ap (λ (v : Walk). v.place) finds.1 in
          let some = (finds.0).text.some in
          let len = (finds.0).text.len in
          let inside = (finds.0).text.inside in
          let more = goes_far file n b.0 after (ap (λ (v : Walk). v.ended) finds.1) goes (omega arith) b.2 in
          let first = more.0 in
          let second = more.1 in
          (omega arith, omega arith)
    ]

-- a walk of a step or more begins in the file
begins : (file : List ℕ) (n : ℕ) (w after : Walk) → w.ended ≡ false → steps (name_step file) (suc n) w ≡ Ok after → w.place < length file
unfolding steps
begins file n w after going e =
    let b = bind_ok (name_step file w) (steps (name_step file) n) after e in
    elim (step_is file w b.0 going b.1) [
      | inl ends ↦ ends.0
      | inr finds ↦ let inside = (finds.0).text.inside in omega arith
    ]

stand_by : (file : List ℕ) (w after : Walk) → w.ended ≡ false → w.place ≤ length file → 0 < length file
    → steps (name_step file) (length file) w ≡ Ok after → (b : Bool) → after.ended ≡ b → Rest file w after
stand_by file w after going le some e true over = rest_stands file (length file) w after going over e
stand_by file w after going le some e false goes =
    let far = goes_far file (length file) w after going goes le e in
    let first = far.0 in
    let second = far.1 in
    absurd (omega arith)

-- the names that a walk of a file found from place p on stand there
pub names_stand : (file : List ℕ) (p : ℕ) (after : Walk) → 0 < length file
    → steps (name_step file) (length file) (record { found = []; place = p; ended = false }) ≡ Ok after → NamesStand file p after.found
unfolding Rest
names_stand file p after some e =
    let w : Walk = record { found = []; place = p; ended = false } in
    let one : length file ≡ suc (length file - 1) = omega arith in
    let lt : p < length file = begins file (length file - 1) w after refl (rw one at e) in
    let rest = stand_by file w after refl (omega arith) some e (after.ended) refl in
    subst (λ (xs : List Name). NamesStand file p xs) (sym rest.1) rest.2
