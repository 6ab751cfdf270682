-- The lines of a call on segments, and that of exception 1 behind them.
use Rattle.std.proofs.Common.{◌≡◌, ℕ, ◌+◌, ◌*◌, ◌≤◌, Bool, true, false, List, [], ◌∷◌, ◌++◌, length, Option, ap, sym, ◌∙◌, refl, arith, subst, append-nil, length-append}
use Rattle.std.proofs.lemmas.Grind.{flat_map-append}
use Rattle.std.proofs.lemmas.List.{length-replicate}
use Rattle.std.proofs.lemmas.List.Sums.{sum_by-cons}
use Rattle.std.proofs.Math.Nat.{suc-mul}
use Rattle.std.specs.Prelude.{flat_map, map}
use Rattle.o2_outer.specs.declared.sink.Put.TheVariants as put
use Rattle.o2_outer.specs.Texts.{Gains, GainsSome, IsPrefix}
use Rattle.o2_outer.proofs.TextLemmas.{puts_more, puts_front}
use Rattle.o2_isa.specs.declared.cpu.Cpu.{Cpu}
use Rattle.o2_world.specs.declared.types.State.TheVariants.{Live, Trapped}
use Rattle.o2_world.specs.Effect.{has_trap_flag}
use Rattle.o2_world.specs.Text.{line_text, lines_text}
use Rattle.o2_world.specs.World.{Line, Traps}
use Rattle.o2_gate.specs.declared.arguments.Arguments.{Arguments}
use Rattle.o2_world.specs.Rulings.{indexes}
use Rattle.o2_gate.specs.declared.moves.Block.{Block}
use Rattle.o2_gate.specs.MovedLines.{all_lines, block_lines, line_at, line_number, lines_at}
use Rattle.o2_gate.specs.Replies.{lines_of}
use Rattle.o2_gate.specs.Targets.{name_of}
use Rattle.o2_gate.proofs.MovedLines.{indexes_length}
use Rattle.o2_run.specs.Pieces.{Counts, counts, FailsInLine}
use Rattle.o2_run.proofs.FailedLines.{fails_before, fails_behind, fails_first}
use Rattle.o2_stepping.specs.Pieces.{HandsWhole}
use Rattle.o2_stepping.specs.Ran.{TakesText}
use Rattle.o2_stepping.specs.Replied.{state_behind, trap_lines}

-- How many lines a call has.

index_lines : (cause : List ℕ) (b : Block) (is : List ℕ) → length (flat_map (lines_at cause b) is) ≡ length is * b.holds
index_lines cause b [] = omega arith
index_lines cause b (i ∷ is) =
    (let whole = length-append (lines_at cause b i) (flat_map (lines_at cause b) is) in
    let one = length-replicate b.holds (line_at cause b i) in
    let rest = index_lines cause b is in
    let more = suc-mul (length is) b.holds in
    omega (arith, whole, one, rest, more))

block_number : (cause : List ℕ) (b : Block) → length (block_lines cause b) ≡ b.count * b.holds
block_number cause b = index_lines cause b (indexes b.index b.count) ∙ ap (λ (n : ℕ). n * b.holds) (indexes_length b.index b.count)

blocks_number : (cause : List ℕ) (bs : List Block) → length (all_lines cause bs) ≡ line_number bs
unfolding all_lines
blocks_number cause [] = refl
blocks_number cause (b ∷ bs) =
    (let whole = length-append (block_lines cause b) (flat_map (block_lines cause) bs) in
    let one = block_number cause b in
    let rest = blocks_number cause bs in
    let sums = sum_by-cons (λ (n : ℕ). n) (b.count * b.holds) (map (λ (x : Block). x.count * x.holds) bs) in
    omega (arith, whole, one, rest, sums))

pub call_lines : (a : Arguments) (pid error value : ℕ) (bs : List Block) → 1 + line_number bs ≡ length (lines_of a pid error value bs)
call_lines a pid error value bs = (let e = blocks_number (name_of a) bs in omega (arith, e))

-- They are put, and nothing more.

pub all_put : (c r q lines : ℕ) → q ≡ r + lines → HandsWhole true (counts c c r q 0) 0 lines
all_put c r q lines e = record { to_console = omega arith; to_report = omega (arith, e) }

pub some_put : (c r q lines : ℕ) → (r ≤ q) × (q ≤ r + lines) → HandsWhole false (counts c c r q 0) 0 lines
some_put c r q lines x = (let a = x.0 in let b = x.1 in record { to_console = omega arith; at_least = omega (arith, a); at_most = omega (arith, b) })

-- Exception 1, or none.

module _ (number : ℕ) (c : Cpu) (flag : has_trap_flag c.flags ≡ false) where
  pub clear_state : Live ≡ state_behind c
  clear_state = rw flag refl

  clear_lines : (ls : List Line) → ls ++ trap_lines number c ≡ ls
  clear_lines ls = rw flag (append-nil ls)

  pub clear_count : (ls : List Line) (n : ℕ) → n ≡ length ls → n ≡ length (ls ++ trap_lines number c)
  clear_count ls n e = e ∙ ap (λ (l : List Line). length l) (sym (clear_lines ls))

  pub clear_report : (ls : List Line) (whole : Bool) (r q : Option (List ℕ)) → TakesText whole r q (lines_text ls) → TakesText whole r q (lines_text (ls ++ trap_lines number c))
  clear_report ls whole r q h = subst (λ (l : List Line). TakesText whole r q (lines_text l)) (sym (clear_lines ls)) h

  pub clear_fails : (ls : List Line) (r q : Option (List ℕ)) (before now : ℕ) → FailsInLine ls r q before now → FailsInLine (ls ++ trap_lines number c) r q before now
  clear_fails ls r q before now h = subst (λ (l : List Line). FailsInLine l r q before now) (sym (clear_lines ls)) h

pub hands_as : (whole : Bool) (n : Counts) (a b : ℕ) → b ≡ a → HandsWhole whole n 0 a → HandsWhole whole n 0 b
hands_as whole n a b e h = subst (λ (k : ℕ). HandsWhole whole n 0 k) (sym e) h

module _ (number : ℕ) (c : Cpu) (flag : has_trap_flag c.flags ≡ true) where
  abbrev trap : List Line
  trap = Traps number 1 c.cs c.ip ∷ []

  pub set_state : Trapped 1 ≡ state_behind c
  set_state = rw flag refl

  set_lines : trap_lines number c ≡ trap
  set_lines = rw flag refl

  pub set_count : (ls : List Line) (n m : ℕ) → n ≡ length ls → m ≡ n + 1 → m ≡ length (ls ++ trap_lines number c)
  set_count ls n m e f =
      f ∙ (ap (λ (k : ℕ). k + 1) e ∙ (sym (length-append ls trap) ∙ ap (λ (l : List Line). length (ls ++ l)) (sym set_lines)))

  more_lines : (ls : List Line) → lines_text (ls ++ trap_lines number c) ≡ lines_text ls ++ lines_text trap
  more_lines ls = ap (λ (l : List Line). lines_text (ls ++ l)) set_lines ∙ flat_map-append line_text ls trap

  -- a line of the call failed
  pub set_failed : (ls : List Line) (r q : Option (List ℕ)) → GainsSome r q (λ front. IsPrefix front (lines_text ls)) → GainsSome r q (λ front. IsPrefix front (lines_text (ls ++ trap_lines number c)))
  set_failed ls r q h =
      subst (λ (t : List ℕ). GainsSome r q (λ front. IsPrefix front t)) (sym (more_lines ls)) (puts_front (lines_text ls) (lines_text trap) r q h)

  -- the line of the exception failed, or none
  pub set_late : (ls : List Line) (r s q : Option (List ℕ)) → Gains r s (lines_text ls) → GainsSome s q (λ front. IsPrefix front (lines_text trap))
      → GainsSome r q (λ front. IsPrefix front (lines_text (ls ++ trap_lines number c)))
  set_late ls r s q g h =
      subst (λ (t : List ℕ). GainsSome r q (λ front. IsPrefix front t)) (sym (more_lines ls)) (puts_more (lines_text ls) (lines_text trap) r s q put.Failed g h)

  pub set_whole : (ls : List Line) (r s q : Option (List ℕ)) → Gains r s (lines_text ls) → Gains s q (lines_text trap) → Gains r q (lines_text (ls ++ trap_lines number c))
  set_whole ls r s q g h = subst (λ (t : List ℕ). Gains r q t) (sym (more_lines ls)) (puts_more (lines_text ls) (lines_text trap) r s q put.Done g h)

  pub late_fails : (ls : List Line) (r s q : Option (List ℕ)) (before mid now : ℕ) → Gains r s (lines_text ls) → mid ≡ before + length ls → GainsSome s q (λ front. IsPrefix front (lines_text trap))
      → now ≡ mid + 1 → FailsInLine (ls ++ trap_lines number c) r q before now
  late_fails ls r s q before mid now put count front one =
      fails_behind ls (trap_lines number c) r s q before mid now put count
      (subst (λ (l : List Line). FailsInLine l s q mid now) (sym set_lines) (fails_first (Traps number 1 c.cs c.ip) [] s q mid now front one))

-- a line of the call failed, whatever line would follow
pub call_fails : (number : ℕ) (c : Cpu) (ls : List Line) (r q : Option (List ℕ)) (before now : ℕ) → FailsInLine ls r q before now → FailsInLine (ls ++ trap_lines number c) r q before now
call_fails number c ls r q before now h = fails_before ls (trap_lines number c) r q before now h

-- how many were put whole
pub whole_count : (w : Bool) (c r q lines : ℕ) → w ≡ true → HandsWhole w (counts c c r q 0) 0 lines → q ≡ r + lines
whole_count true c r q lines e h = (let put = h.to_report in omega (arith, put))
whole_count false c r q lines e h = absurd (cc)

-- the lines are put, and then one more, or none where one had failed
module _ (c r s q n m k : ℕ) (same : k ≡ n) (more : m ≡ n + 1) where
  pub late_put : HandsWhole true (counts c c r s 0) 0 k → q ≡ s + 1 → HandsWhole true (counts c c r q 0) 0 m
  late_put h e = (let a = h.to_report in record { to_console = h.to_console; to_report = omega (arith, a, e, same, more) })

  pub part_put : HandsWhole true (counts c c r s 0) 0 k → q ≡ s + 1 → HandsWhole false (counts c c r q 0) 0 m
  part_put h e = (let a = h.to_report in record { to_console = h.to_console; at_least = omega (arith, a, e); at_most = omega (arith, a, e, same, more) })

  pub failed_put : HandsWhole false (counts c c r s 0) 0 k → HandsWhole false (counts c c r s 0) 0 m
  failed_put h = (let a = h.at_least in let b = h.at_most in record { to_console = h.to_console; at_least = a; at_most = omega (arith, b, same, more) })

-- by whether the lines of the call were put whole
pub whole_then : (w : Bool) (r q : Option (List ℕ)) (text : List ℕ) → w ≡ true → TakesText w r q text → Gains r q text
whole_then true r q text e h = h
whole_then false r q text e h = absurd (cc)

pub failed_then : (w : Bool) (r q : Option (List ℕ)) (text : List ℕ) → w ≡ false → TakesText w r q text → GainsSome r q (λ front. IsPrefix front text)
failed_then true r q text e h = absurd (cc)
failed_then false r q text e h = h

pub hands_then : (w v : Bool) (n : Counts) (lines : ℕ) → w ≡ v → HandsWhole w n 0 lines → HandsWhole v n 0 lines
hands_then w v n lines e h = subst (λ (z : Bool). HandsWhole z n 0 lines) e h
