-- The lines of a step are plain, where the numbers of the processes that it touches have few digits.
use Rattle.std.proofs.Common.{◌≡◌, refl, ℕ, zero, suc, ◌^◌, ◌<◌, ◌&&◌, not, nat_le, Bool, true, false, List, [], ◌∷◌, ◌++◌, replicate, if◌then◌else◌}
use Rattle.std.specs.Prelude.{Result, Ok, Err, flat_map}
use Rattle.std.specs.List.{list_all}
use Rattle.std.proofs.lemmas.Bool.{and_parts, not-true}
use Rattle.o2_base.specs.Selectors.{selector_of}
use Rattle.o2_isa.specs.declared.cpu.Stop.{Stop}
use Rattle.o2_isa.specs.declared.cpu.Stop.TheVariants as stop
use Rattle.o2_isa.specs.Steps.{State as Machine, state}
use Rattle.o2_isa.specs.Step.{stepped}
use Rattle.o2_world.specs.declared.types.State.TheVariants.{Trapped}
use Rattle.o2_world.specs.World.{Line, HoldsBy, DropsBy, Traps, is_live}
use Rattle.o2_world.specs.Changes.{Change, Makes, Resizes, Locks, Marks, Holds, Drops, Finishes, Reserves, Frees, Names, among, drop_lines_of, hold_lines_of, in_order, key_of, moved_lines}
use Rattle.o2_world.specs.CallParts.{Before, Effect, trapped}
use Rattle.o2_world.specs.Outcomes.{CallRow, Does, Fails, Waits, Leaves, Outcome, come_out}
use Rattle.o2_world.specs.Calls.{rows, serviced}
use Rattle.o2_world.specs.RowLaws.{EachRow}
use Rattle.o2_world.specs.Effect.{answered, effect, has_trap_flag, single_stepped}
use Rattle.o2_world.proofs.RunParts.{AllBy}
use Rattle.o2_world.proofs.Serving.{by_service}
use Rattle.o2_read_report.specs.Plain.{ArePlain, IsPlain, has}

pub plain_append : (xs ys : List Line) → ArePlain xs → ArePlain ys → ArePlain (xs ++ ys)
plain_append [] ys a b = b
plain_append (x ∷ xs) ys a b = (a.0, plain_append xs ys a.1 b)

plain_times : (n : ℕ) (l : Line) → IsPlain l → ArePlain (replicate n l)
plain_times zero l plain = tt
plain_times (suc n) l plain = (plain, plain_times n l plain)

plain_either : (b : Bool) (xs ys : List Line) → ArePlain xs → ArePlain ys → ArePlain (if b then xs else ys)
plain_either true xs ys a b = a
plain_either false xs ys a b = b

among_plain : (l : Line) (ls : List Line) → IsPlain l → ArePlain ls → ArePlain (among l ls)
among_plain l [] plain all = (plain, tt)
among_plain l (x ∷ xs) plain all =
    plain_either (nat_le (key_of l) (key_of x)) (l ∷ x ∷ xs) (x ∷ among l xs) (plain, all) (all.0, among_plain l xs plain all.1)

in_order_plain : (ls : List Line) → ArePlain ls → ArePlain (in_order ls)
in_order_plain [] all = tt
in_order_plain (l ∷ ls) all = among_plain l (in_order ls) all.0 (in_order_plain ls all.1)

-- the process that a hold comes to, or goes from, has a number of few digits
abbrev pub IsNumbered : Change → Type 0
IsNumbered (Makes g) = Unit {0}
IsNumbered (Resizes m size) = Unit {0}
IsNumbered (Locks m count) = Unit {0}
IsNumbered (Marks m d) = Unit {0}
IsNumbered (Holds p i h) = p < 10 ^ 64
IsNumbered (Drops p i count) = p < 10 ^ 64
IsNumbered (Finishes p state) = Unit {0}
IsNumbered (Reserves r) = Unit {0}
IsNumbered (Frees r first) = Unit {0}
IsNumbered (Names text m) = Unit {0}

module _ (cause : List ℕ) (free : has 10 cause ≡ false) where
  holds_plain : (c : Change) → IsNumbered c → ArePlain (hold_lines_of cause c)
  holds_plain (Makes g) small = tt
  holds_plain (Resizes m size) small = tt
  holds_plain (Locks m count) small = tt
  holds_plain (Marks m d) small = tt
  holds_plain (Holds p i h) small = plain_times h.holds (HoldsBy p (selector_of i) cause) (record { process = small; names = free })
  holds_plain (Drops p i count) small = tt
  holds_plain (Finishes p state) small = tt
  holds_plain (Reserves r) small = tt
  holds_plain (Frees r first) small = tt
  holds_plain (Names text m) small = tt

  drops_plain : (c : Change) → IsNumbered c → ArePlain (drop_lines_of cause c)
  drops_plain (Makes g) small = tt
  drops_plain (Resizes m size) small = tt
  drops_plain (Locks m count) small = tt
  drops_plain (Marks m d) small = tt
  drops_plain (Holds p i h) small = tt
  drops_plain (Drops p i count) small = plain_times count (DropsBy p (selector_of i) cause) (record { process = small; names = free })
  drops_plain (Finishes p state) small = tt
  drops_plain (Reserves r) small = tt
  drops_plain (Frees r first) small = tt
  drops_plain (Names text m) small = tt

  all_holds_plain : (cs : List Change) → AllBy IsNumbered cs → ArePlain (flat_map (hold_lines_of cause) cs)
  all_holds_plain [] all = tt
  all_holds_plain (c ∷ cs) all = plain_append (hold_lines_of cause c) (flat_map (hold_lines_of cause) cs) (holds_plain c all.0) (all_holds_plain cs all.1)

  all_drops_plain : (cs : List Change) → AllBy IsNumbered cs → ArePlain (flat_map (drop_lines_of cause) cs)
  all_drops_plain [] all = tt
  all_drops_plain (c ∷ cs) all = plain_append (drop_lines_of cause c) (flat_map (drop_lines_of cause) cs) (drops_plain c all.0) (all_drops_plain cs all.1)

  moved_plain : (cs : List Change) → AllBy IsNumbered cs → ArePlain (moved_lines cause cs)
  unfolding moved_lines
  moved_plain cs all =
      plain_append (in_order (flat_map (hold_lines_of cause) cs)) (in_order (flat_map (drop_lines_of cause) cs))
      (in_order_plain (flat_map (hold_lines_of cause) cs) (all_holds_plain cs all)) (in_order_plain (flat_map (drop_lines_of cause) cs) (all_drops_plain cs all))

-- Calls: the name of each row has neither a blank nor a line end.

abbrev IsPlainRow : CallRow → Type 0
IsPlainRow r = (has 32 r.name ≡ false) × (has 10 r.name ≡ false)

abbrev is_plain_row : ℕ × CallRow → Bool
is_plain_row e = not (has 32 e.1.name) && not (has 10 e.1.name)

each_plain : (es : List (ℕ × CallRow)) → list_all is_plain_row es ≡ true → EachRow IsPlainRow es
each_plain [] h = tt
each_plain (e ∷ es) h =
    let p = and_parts _ _ h in
    let q = and_parts _ _ p.0 in
    ((not-true (has 32 e.1.name) q.0, not-true (has 10 e.1.name) q.1), each_plain es p.1)

rows_plain : EachRow IsPlainRow rows
rows_plain = each_plain rows refl

-- an effect with plain lines, where its changes touch processes with numbers of few digits
abbrev HasPlainLines : Effect → Type 0
HasPlainLines e = AllBy IsNumbered e.changes → ArePlain e.lines

module _ (b : Before) (small : b.number < 10 ^ 64) where
  trapped_plain : (vector : ℕ) → HasPlainLines (trapped b vector)
  trapped_plain vector all = (record { process = small; names = tt }, tt)

  out_plain : (r : CallRow) (next : ℕ) (a : ℕ → ℕ) (o : Outcome) → IsPlainRow r → HasPlainLines (come_out r b next a o)
  out_plain r next a (Fails error values) plain all = (record { process = small; names = plain.0 }, tt)
  out_plain r next a (Does d) plain all = (record { process = small; names = plain.0 }, moved_plain r.name plain.1 d.changes all)
  out_plain r next a Waits plain all = tt
  out_plain r next a (Leaves action code) plain all = (record { process = small; names = tt }, (record { process = small; names = tt }, tt))

  service_plain : (service next : ℕ) → HasPlainLines (serviced b service next)
  service_plain service next =
      by_service HasPlainLines IsPlainRow b next rows_plain (trapped_plain 12) (trapped_plain 13)
      (λ r plain a good. out_plain r next a (r.outcome b a) plain) service

  answered_plain : (r : Result Machine Stop) → HasPlainLines (answered b r)
  answered_plain (Ok s) all = tt
  answered_plain (Err (stop.Trap vector code)) all = trapped_plain vector all
  answered_plain (Err (stop.Gate service next)) all = service_plain service next all
  answered_plain (Err (stop.Miss s)) all = trapped_plain 11 all

  by_flag : (e : Effect) → HasPlainLines e → (t : Bool)
      → HasPlainLines (if t then record e { state = Trapped 1; lines = e.lines ++ Traps b.number 1 b.cpu.cs b.cpu.ip ∷ [] } else e)
  by_flag e plain true all = plain_append e.lines (Traps b.number 1 b.cpu.cs b.cpu.ip ∷ []) (plain all) (record { process = small; names = tt }, tt)
  by_flag e plain false all = plain all

  single_plain : (e : Effect) → HasPlainLines e → HasPlainLines (single_stepped b e)
  single_plain e plain = by_flag e plain (has_trap_flag b.cpu.flags && (is_live e.state && not e.waits))

  pub effect_plain : HasPlainLines (effect b)
  unfolding effect
  effect_plain = single_plain (answered b (stepped (state b.cpu b.view))) (answered_plain (stepped (state b.cpu b.view)))
