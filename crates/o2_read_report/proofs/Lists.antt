-- Two lists of lines with one text are the same, whatever comes behind them that begins with no digit.
use Rattle.std.proofs.Common.{◌≡◌, refl, sym, ap, ap₂, ◌∙◌, ℕ, ◌+◌, ◌≤◌, ◌==◌, not, Bool, true, false, List, [], ◌∷◌, ◌++◌, map, arith, if◌then◌else◌, append_assoc}
use Rattle.std.specs.Prelude.{codes}
use Rattle.o2_world.specs.World.{World, Line}
use Rattle.o2_world.specs.Text.{line_text, lines_text, process_of, rest_of}
use Rattle.o2_world.specs.Run.{any_lives, last_line, report}
use Rattle.o2_read_report.specs.Plain.{ArePlain, shown}
use Rattle.o2_read_report.proofs.Splits.{char}
use Rattle.o2_read_report.proofs.Digits.{is_digit, decimal_begins}
use Rattle.o2_read_report.proofs.Reading.{line_is, line_read, read, room}

-- so long are the lists of all lines at most
abbrev room_of : List Line → ℕ
room_of [] = 0
room_of (l ∷ ls) = room l + room_of ls

line_digit : (l : Line) (x : List ℕ) → is_digit (char 0 (line_text l ++ x)) ≡ true
line_digit l x = ap (λ (t : List ℕ). is_digit (char 0 t)) (line_is l x) ∙ decimal_begins (process_of l) (rest_of l ++ 10 ∷ x)

lines_digit : (l : Line) (ls : List Line) (x : List ℕ) → is_digit (char 0 (lines_text (l ∷ ls) ++ x)) ≡ true
lines_digit l ls x =
    ap (λ (t : List ℕ). is_digit (char 0 t)) (append_assoc (line_text l) (lines_text ls) x) ∙ line_digit l (lines_text ls ++ x)

not_both : (b : Bool) → b ≡ true → b ≡ false → ⊥
not_both b p q = cc

lines_same : (n : ℕ) (ls ms : List Line) (x y : List ℕ) → room_of ls ≤ n → room_of ms ≤ n → ArePlain ls → ArePlain ms
    → is_digit (char 0 x) ≡ false → is_digit (char 0 y) ≡ false → lines_text ls ++ x ≡ lines_text ms ++ y → map shown ls ≡ map shown ms
lines_same n [] [] x y few fewer plain plainer ends stops e = refl
lines_same n [] (m ∷ ms) x y few fewer plain plainer ends stops e =
    absurd (not_both (is_digit (char 0 x)) (ap (λ (t : List ℕ). is_digit (char 0 t)) e ∙ lines_digit m ms y) ends)
lines_same n (l ∷ ls) [] x y few fewer plain plainer ends stops e =
    absurd (not_both (is_digit (char 0 y)) (ap (λ (t : List ℕ). is_digit (char 0 t)) (sym e) ∙ lines_digit l ls x) stops)
lines_same n (l ∷ ls) (m ∷ ms) x y few fewer plain plainer ends stops e =
    let same : line_text l ++ (lines_text ls ++ x) ≡ line_text m ++ (lines_text ms ++ y) =
    sym (append_assoc (line_text l) (lines_text ls) x) ∙ e ∙ append_assoc (line_text m) (lines_text ms) y in
    let r = sym (line_read n l (lines_text ls ++ x) plain.0 (omega (arith, few))) ∙ ap (read n) same ∙ line_read n m (lines_text ms ++ y) plainer.0 (omega (arith, fewer)) in
    ap₂ (λ (a : Line) (rest : List Line). a ∷ rest) (ap (λ (q : Line × List ℕ). q.0) r)
    (lines_same n ls ms x y (omega (arith, few)) (omega (arith, fewer)) plain.1 plainer.1 ends stops (ap (λ (q : Line × List ℕ). q.1) r))

pub texts_same : (ls ms : List Line) (x y : List ℕ) → ArePlain ls → ArePlain ms → is_digit (char 0 x) ≡ false → is_digit (char 0 y) ≡ false
    → lines_text ls ++ x ≡ lines_text ms ++ y → map shown ls ≡ map shown ms
texts_same ls ms x y plain plainer ends stops e = lines_same (room_of ls + room_of ms) ls ms x y (omega arith) (omega arith) plain plainer ends stops e

pub one_text : (ls ms : List Line) → ArePlain ls → ArePlain ms → lines_text ls ≡ lines_text ms → map shown ls ≡ map shown ms
one_text ls ms plain plainer e = texts_same ls ms [] [] plain plainer refl refl (ap (λ (t : List ℕ). t ++ []) e)

-- the last line of a report begins with no digit
last_stops : (w : World) → is_digit (char 0 (last_line w)) ≡ false
last_stops w = by (not (any_lives w.processes)) (w.dispatch.budget == 0)
  where
    by : (a b : Bool) → is_digit (char 0 (if a then codes "all ended" ++ 10 ∷ [] else (if b then codes "budget spent" ++ 10 ∷ [] else []))) ≡ false
    by true b = refl
    by false true = refl
    by false false = refl

pub one_report : (u v : World) → ArePlain u.lines → ArePlain v.lines → report u ≡ report v → map shown u.lines ≡ map shown v.lines
one_report u v plain plainer e = texts_same u.lines v.lines (last_line u) (last_line v) plain plainer (last_stops u) (last_stops v) e
