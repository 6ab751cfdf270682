-- A line is read back from a text that begins with it.
use Rattle.std.proofs.Common.{◌≡◌, refl, sym, ap, ◌∙◌, ℕ, ◌+◌, ◌≤◌, ◌==◌, Bool, true, false, List, [], ◌∷◌, ◌++◌, length, arith, if◌then◌else◌, append_assoc, subst}
use Rattle.std.specs.Prelude.{flat_map, decimal, codes}
use Rattle.std.specs.Str.Parse.{digits_value}
use Rattle.o2_world.specs.declared.types.Argument.{Argument}
use Rattle.o2_world.specs.declared.types.Argument.TheVariants.{Word, Long, Far}
use Rattle.o2_world.specs.World.{Line, Starts, HoldsBy, DropsBy, Calls, Exits, Ends, Traps}
use Rattle.o2_world.specs.Text.{hex4, far, argument_text, values_text, rest_of, process_of, line_text}
use Rattle.o2_read_report.specs.Plain.{HasPlainNames, IsPlain, shown, shown_number}
use Rattle.o2_read_report.proofs.Splits.{char, skip, before, from, before_mark, from_mark}
use Rattle.o2_read_report.proofs.Digits.{hex, hex_read, number, after_number, number_read, behind_number, number_shown}
use Rattle.o2_read_report.proofs.Arguments.{arguments, arguments_read}

-- behind the mark
abbrev pub behind : ℕ → List ℕ → List ℕ
behind c t = skip 1 (from c t)

abbrev pub with_values : ℕ → List ℕ → List Argument → ℕ → List Argument × List ℕ → Line × List ℕ
with_values p name args error r = (Calls p name args error r.0, skip 1 r.1)

abbrev pub with_error : ℕ → ℕ → List ℕ → List Argument → List ℕ → Line × List ℕ
with_error n p name args t = with_values p name args (digits_value 10 (number t)) (arguments n (after_number t))

-- without an equals sign it is DosExit
abbrev pub with_arguments : ℕ → ℕ → List ℕ → List ℕ → List Argument × List ℕ → Line × List ℕ
with_arguments n p t name r =
    if char 0 r.1 == 10 then (Exits p (hex (skip 14 t)) (hex (skip 19 t)), skip 1 r.1)
    else with_error n p name r.0 (skip 3 r.1)

abbrev pub a_call : ℕ → ℕ → List ℕ → Line × List ℕ
a_call n p t = with_arguments n p t (before 32 (skip 6 t)) (arguments n (from 32 (skip 6 t)))

abbrev pub an_end : ℕ → List ℕ → Line × List ℕ
an_end p t = (Ends p (digits_value 10 (number t)), skip 1 (after_number t))

abbrev pub a_trap : ℕ → ℕ → List ℕ → Line × List ℕ
a_trap p vector t = (Traps p vector (hex (skip 4 t)) (hex (skip 9 t)), skip 14 t)

abbrev pub by_letter : ℕ → ℕ → List ℕ → ℕ → Line × List ℕ
by_letter n p t c =
    if c == 115 then (Starts p (before 10 (skip 7 t)), behind 10 (skip 7 t))
    else (if c == 104 then (HoldsBy p (hex (skip 6 t)) (before 10 (skip 14 t)), behind 10 (skip 14 t))
    else (if c == 100 then (DropsBy p (hex (skip 6 t)) (before 10 (skip 14 t)), behind 10 (skip 14 t))
    else (if c == 99 then a_call n p t
    else (if char 5 t == 101 then an_end p (skip 10 t)
    else a_trap p (digits_value 10 (number (skip 10 t))) (after_number (skip 10 t))))))

abbrev pub behind_process : ℕ → ℕ → List ℕ → Line × List ℕ
behind_process n p t = by_letter n p t (char 1 t)

-- the line with which a text begins, whose lists have at most n members, and what comes behind it
abbrev pub read : ℕ → List ℕ → Line × List ℕ
read n t = behind_process n (digits_value 10 (number t)) (after_number t)

-- so long are its lists at most
abbrev pub room : Line → ℕ
room (Starts p name) = 0
room (HoldsBy p s cause) = 0
room (DropsBy p s cause) = 0
room (Calls p name args error values) = length args + length values
room (Exits p action code) = 2
room (Ends p code) = 0
room (Traps p vector s o) = 0

-- Each kind of line.

start_read : (n p : ℕ) (name x : List ℕ) → HasPlainNames (Starts p name)
    → behind_process n p (codes " start " ++ (name ++ 10 ∷ x)) ≡ (Starts p name, x)
start_read n p name x h =
    ap (λ (t : List ℕ). (Starts p t, behind 10 (name ++ 10 ∷ x))) (before_mark 10 name x h) ∙ ap (λ (t : List ℕ). (Starts p name, skip 1 t)) (from_mark 10 name x h)

hold_read : (n p s : ℕ) (cause x : List ℕ) → HasPlainNames (HoldsBy p s cause)
    → behind_process n p (codes " hold " ++ (hex4 s ++ (codes " by " ++ (cause ++ 10 ∷ x)))) ≡ (HoldsBy p s cause, x)
unfolding hex4
hold_read n p s cause x h =
    ap (λ (m : ℕ). (HoldsBy p m (before 10 (cause ++ 10 ∷ x)), behind 10 (cause ++ 10 ∷ x))) (hex_read s (codes " by " ++ (cause ++ 10 ∷ x)))
    ∙ ap (λ (t : List ℕ). (HoldsBy p s t, behind 10 (cause ++ 10 ∷ x))) (before_mark 10 cause x h) ∙ ap (λ (t : List ℕ). (HoldsBy p s cause, skip 1 t)) (from_mark 10 cause x h)

drop_read : (n p s : ℕ) (cause x : List ℕ) → HasPlainNames (DropsBy p s cause)
    → behind_process n p (codes " drop " ++ (hex4 s ++ (codes " by " ++ (cause ++ 10 ∷ x)))) ≡ (DropsBy p s cause, x)
unfolding hex4
drop_read n p s cause x h =
    ap (λ (m : ℕ). (DropsBy p m (before 10 (cause ++ 10 ∷ x)), behind 10 (cause ++ 10 ∷ x))) (hex_read s (codes " by " ++ (cause ++ 10 ∷ x)))
    ∙ ap (λ (t : List ℕ). (DropsBy p s t, behind 10 (cause ++ 10 ∷ x))) (before_mark 10 cause x h) ∙ ap (λ (t : List ℕ). (DropsBy p s cause, skip 1 t)) (from_mark 10 cause x h)

end_read : (n p code : ℕ) (x : List ℕ) → behind_process n p (codes " end exit " ++ (decimal code ++ 10 ∷ x)) ≡ (Ends p (shown_number code), x)
end_read n p code x =
    ap (λ (t : List ℕ). (Ends p (digits_value 10 t), skip 1 (after_number (decimal code ++ 10 ∷ x)))) (number_read code 10 x refl)
    ∙ ap (λ (t : List ℕ). (Ends p (shown_number code), skip 1 t)) (behind_number code 10 x refl)

trap_at : (p v s o : ℕ) (x : List ℕ) → a_trap p v (codes " at " ++ (hex4 s ++ (58 ∷ (hex4 o ++ 10 ∷ x)))) ≡ (Traps p v s o, x)
unfolding hex4
trap_at p v s o x =
    ap (λ (m : ℕ). (Traps p v m (hex (hex4 o ++ 10 ∷ x)), x)) (hex_read s (58 ∷ (hex4 o ++ 10 ∷ x))) ∙ ap (λ (m : ℕ). (Traps p v s m, x)) (hex_read o (10 ∷ x))

trap_read : (n p vector s o : ℕ) (x : List ℕ)
    → behind_process n p (codes " end trap " ++ (decimal vector ++ (codes " at " ++ (hex4 s ++ (58 ∷ (hex4 o ++ 10 ∷ x)))))) ≡ (Traps p (shown_number vector) s o, x)
trap_read n p vector s o x =
    let rest = codes " at " ++ (hex4 s ++ (58 ∷ (hex4 o ++ 10 ∷ x))) in
    ap (λ (t : List ℕ). a_trap p (digits_value 10 t) (after_number (decimal vector ++ rest))) (number_read vector 32 (skip 1 rest) refl)
    ∙ ap (a_trap p (shown_number vector)) (behind_number vector 32 (skip 1 rest) refl) ∙ trap_at p (shown_number vector) s o x

exit_read : (n p action code : ℕ) (x : List ℕ) → 2 ≤ n
    → behind_process n p (codes " call DosExit " ++ (hex4 action ++ (32 ∷ (hex4 code ++ 10 ∷ x)))) ≡ (Exits p action code, x)
unfolding hex4
exit_read n p action code x some =
    let t = codes " call DosExit " ++ (hex4 action ++ (32 ∷ (hex4 code ++ 10 ∷ x))) in
    ap (with_arguments n p t (codes "DosExit")) (arguments_read (Word action ∷ Word code ∷ []) n (10 ∷ x) some refl refl)
    ∙ ap (λ (m : ℕ). (Exits p m (hex (hex4 code ++ 10 ∷ x)), x)) (hex_read action (32 ∷ (hex4 code ++ 10 ∷ x))) ∙ ap (λ (m : ℕ). (Exits p action m, x)) (hex_read code (10 ∷ x))

values_are : (error : ℕ) (values : List Argument) → values_text error values ≡ flat_map argument_text (if error == 0 then values else [])
values_are error values = by (error == 0)
  where
    by : (b : Bool) → (if b then flat_map argument_text values else []) ≡ flat_map argument_text (if b then values else [])
    by true = refl
    by false = refl

no_more : (b : Bool) (values : List Argument) (n : ℕ) → length values ≤ n → length (if b then values else []) ≤ n
no_more true values n few = few
no_more false values n few = omega arith

-- an argument begins with a blank
argument_blank : (a : Argument) (rest : List Argument) (y : List ℕ) → (r : List ℕ) × (flat_map argument_text (a ∷ rest) ++ y ≡ 32 ∷ r)
argument_blank (Word m) rest y = (skip 1 (flat_map argument_text (Word m ∷ rest) ++ y), refl)
argument_blank (Long high low) rest y = (skip 1 (flat_map argument_text (Long high low ∷ rest) ++ y), refl)
argument_blank (Far s o) rest y = (skip 1 (flat_map argument_text (Far s o ∷ rest) ++ y), refl)

-- so do arguments with what comes behind them
arguments_blank : (rest : List Argument) (y : List ℕ) → (r : List ℕ) × (flat_map argument_text rest ++ (codes " = " ++ y) ≡ 32 ∷ r)
arguments_blank [] y = (skip 1 (codes " = " ++ y), refl)
arguments_blank (a ∷ rest) y = argument_blank a rest (codes " = " ++ y)

-- a decimal number is read up to this text
abbrev pub IsBehind : ℕ → List ℕ → Type 0
IsBehind n y = (number (decimal n ++ y) ≡ decimal n) × (after_number (decimal n ++ y) ≡ y)

-- behind an error a blank or the line's end comes
after_error : (error : ℕ) (rest : List Argument) (x : List ℕ) → IsBehind error (flat_map argument_text rest ++ 10 ∷ x)
after_error error [] x = (number_read error 10 x refl, behind_number error 10 x refl)
after_error error (a ∷ rest) x = let b = argument_blank a rest (10 ∷ x) in subst (IsBehind error) (sym b.1) (number_read error 32 b.0 refl, behind_number error 32 b.0 refl)

error_read : (n p : ℕ) (name : List ℕ) (args : List Argument) (error : ℕ) (values : List Argument) (x : List ℕ) → length values ≤ n
    → with_error n p name args (decimal error ++ (values_text error values ++ 10 ∷ x))
    ≡ (Calls p name args (shown_number error) (if error == 0 then values else []), x)
error_read n p name args error values x few =
    let given = if error == 0 then values else [] in
    let rest = flat_map argument_text given ++ 10 ∷ x in
    let a = after_error error given x in
    ap (λ (t : List ℕ). with_error n p name args (decimal error ++ (t ++ 10 ∷ x))) (values_are error values)
    ∙ ap (λ (t : List ℕ). with_values p name args (digits_value 10 t) (arguments n (after_number (decimal error ++ rest)))) a.0
    ∙ ap (λ (t : List ℕ). with_values p name args (shown_number error) (arguments n t)) a.1
    ∙ ap (with_values p name args (shown_number error)) (arguments_read given n (10 ∷ x) (no_more (error == 0) values n few) refl refl)

-- over plain lists
three_parts : (a b c x : List ℕ) → a ++ b ++ c ++ x ≡ a ++ (b ++ (c ++ x))
three_parts a b c x = simp append_assoc

five_parts : (a b c d e x : List ℕ) → a ++ b ++ c ++ d ++ e ++ x ≡ a ++ (b ++ (c ++ (d ++ (e ++ x))))
five_parts a b c d e x = simp append_assoc

call_read : (n p : ℕ) (name : List ℕ) (args : List Argument) (error : ℕ) (values : List Argument) (x : List ℕ)
    → HasPlainNames (Calls p name args error values) → length args + length values ≤ n
    → behind_process n p (codes " call " ++ (name ++ (flat_map argument_text args ++ (codes " = " ++ (decimal error ++ (values_text error values ++ 10 ∷ x))))))
    ≡ (Calls p name args (shown_number error) (if error == 0 then values else []), x)
call_read n p name args error values x h few =
    let last = decimal error ++ (values_text error values ++ 10 ∷ x) in
    let rest = flat_map argument_text args ++ (codes " = " ++ last) in
    let t = codes " call " ++ (name ++ rest) in
    let b = arguments_blank args last in
    ap (λ (u : List ℕ). with_arguments n p t (before 32 (name ++ u)) (arguments n (from 32 (name ++ u)))) b.1
    ∙ ap (λ (u : List ℕ). with_arguments n p t u (arguments n (from 32 (name ++ 32 ∷ b.0)))) (before_mark 32 name b.0 h)
    ∙ ap (λ (u : List ℕ). with_arguments n p t name (arguments n u)) (from_mark 32 name b.0 h)
    ∙ ap (λ (u : List ℕ). with_arguments n p t name (arguments n u)) (sym b.1)
    ∙ ap (with_arguments n p t name) (arguments_read args n (codes " = " ++ last) (omega (arith, few)) refl refl)
    ∙ error_read n p name args error values x (omega (arith, few))

-- Every line.

rest_read : (n : ℕ) (l : Line) (x : List ℕ) → HasPlainNames l → room l ≤ n → behind_process n (process_of l) (rest_of l ++ 10 ∷ x) ≡ (shown l, x)
unfolding hex4
rest_read n (Starts p name) x names few = start_read n p name x names
rest_read n (HoldsBy p s cause) x names few = hold_read n p s cause x names
rest_read n (DropsBy p s cause) x names few = drop_read n p s cause x names
rest_read n (Calls p name args error values) x names few =
    ap (λ (t : List ℕ). behind_process n p (codes " call " ++ t)) (five_parts name (flat_map argument_text args) (codes " = ") (decimal error) (values_text error values) (10 ∷ x))
    ∙ call_read n p name args error values x names few
rest_read n (Exits p action code) x names few = exit_read n p action code x few
rest_read n (Ends p code) x names few = end_read n p code x
rest_read n (Traps p vector s o) x names few =
    ap (λ (t : List ℕ). behind_process n p (codes " end trap " ++ t)) (three_parts (decimal vector) (codes " at ") (far s o) (10 ∷ x))
    ∙ trap_read n p vector s o x

-- what comes behind the number of the process begins with a blank
rest_blank : (l : Line) (x : List ℕ) → (r : List ℕ) × (rest_of l ++ 10 ∷ x ≡ 32 ∷ r)
rest_blank (Starts p name) x = (skip 1 (rest_of (Starts p name) ++ 10 ∷ x), refl)
rest_blank (HoldsBy p s cause) x = (skip 1 (rest_of (HoldsBy p s cause) ++ 10 ∷ x), refl)
rest_blank (DropsBy p s cause) x = (skip 1 (rest_of (DropsBy p s cause) ++ 10 ∷ x), refl)
rest_blank (Calls p name args error values) x = (skip 1 (rest_of (Calls p name args error values) ++ 10 ∷ x), refl)
rest_blank (Exits p action code) x = (skip 1 (rest_of (Exits p action code) ++ 10 ∷ x), refl)
rest_blank (Ends p code) x = (skip 1 (rest_of (Ends p code) ++ 10 ∷ x), refl)
rest_blank (Traps p vector s o) x = (skip 1 (rest_of (Traps p vector s o) ++ 10 ∷ x), refl)

pub line_is : (l : Line) (x : List ℕ) → line_text l ++ x ≡ decimal (process_of l) ++ (rest_of l ++ 10 ∷ x)
unfolding line_text
line_is l x = three_parts (decimal (process_of l)) (rest_of l) (10 ∷ []) x

pub line_read : (n : ℕ) (l : Line) (x : List ℕ) → IsPlain l → room l ≤ n → read n (line_text l ++ x) ≡ (shown l, x)
line_read n l x plain few =
    let p = process_of l in
    let b = rest_blank l x in
    ap (read n) (line_is l x)
    ∙ ap (λ (t : List ℕ). read n (decimal p ++ t)) b.1
    ∙ ap (λ (t : List ℕ). behind_process n (digits_value 10 t) (after_number (decimal p ++ 32 ∷ b.0))) (number_read p 32 b.0 refl)
    ∙ ap (behind_process n (shown_number p)) (behind_number p 32 b.0 refl)
    ∙ ap (behind_process n (shown_number p)) (sym b.1)
    ∙ ap (λ (m : ℕ). behind_process n m (rest_of l ++ 10 ∷ x)) (number_shown p plain.process)
    ∙ rest_read n l x plain.names few
