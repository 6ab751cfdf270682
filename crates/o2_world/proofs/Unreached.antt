-- A step writes no name that is behind no segment register and no good pointer.
use Rattle.std.proofs.Common.{◌≡◌, ◌≢◌, ◌⊎◌, inl, inr, refl, sym, ◌∙◌, ap, ℕ, ◌+◌, Bool, true, false, not, cond, ◌==◌, ◌&&◌, ◌||◌, List, [], ◌∷◌, ◌++◌, length, arith}
use Rattle.std.specs.Prelude.{Option, Some, None, Result, Ok, Err, take, drop, nat_le}
use Rattle.std.proofs.lemmas.Bool.{eqb-true}
use Rattle.std.proofs.lemmas.List.{take-append-drop}
use Rattle.o2_isa.specs.declared.cpu.Outcome.TheVariants as outcome
use Rattle.o2_isa.specs.declared.cpu.Stop.{Stop}
use Rattle.o2_isa.specs.declared.cpu.Stop.TheVariants as stop
use Rattle.o2_isa.specs.declared.instr.Sreg.{Sreg}
use Rattle.o2_isa.specs.Parts.{put_part}
use Rattle.o2_isa.specs.View.{Hold, View, in_register, is_writable, bound_in}
use Rattle.o2_isa.specs.Pointers.{has_range, is_for_es, put_in, put_at_pointer}
use Rattle.o2_isa.specs.Steps.{State as Machine, state}
use Rattle.o2_isa.specs.Step.{stepped}
use Rattle.o2_isa.proofs.Writes.{stepped_writes}
use Rattle.o2_isa.specs.Writes.{HoldsAsWritable}
use Rattle.o2_world.specs.World.{is_live}
use Rattle.o2_world.specs.CallParts.{Before, Effect}
use Rattle.o2_world.specs.Slots.{Pointer, put_all, targets_in}
use Rattle.o2_world.specs.Outcomes.{CallRow, Does, Fails, Waits, Leaves, Outcome, come_out}
use Rattle.o2_world.specs.Calls.{serviced}
use Rattle.o2_world.specs.RowLaws.{AreFitParts, IsFitOutcome, IsLawful, fits_at}
use Rattle.o2_world.proofs.Lawful.{lawful}
use Rattle.o2_world.proofs.Serving.{by_service}
use Rattle.o2_world.specs.Effect.{has_trap_flag, answered, single_stepped, effect}

-- neither a segment register nor a selector that may be loaded into ES has the name as data that can be written
pub record IsUnreached (v : View) (n : ℕ) : Type 0 where
  pub registers : (r : Sreg) (h : Hold) → in_register v.registers r ≡ Some h → is_writable h.rights ≡ true → h.name ≢ n
  pub pointers : (s : ℕ) (h : Hold) → bound_in v.held s ≡ Some h → is_for_es v s ≡ true → is_writable h.rights ≡ true → h.name ≢ n

nothing_between : (xs ys : List ℕ) → xs ++ [] ++ ys ≡ xs ++ ys
nothing_between [] ys = refl
nothing_between (x ∷ xs) ys = ap (λ (zs : List ℕ). x ∷ zs) (nothing_between xs ys)

put_nothing : (bytes : List ℕ) (at : ℕ) (part : List ℕ) → part ≡ [] → put_part bytes at part ≡ bytes
put_nothing bytes at part e =
    let same : at + 0 ≡ at = omega arith in
    ap (λ (xs : List ℕ). put_part bytes at xs) e
    ∙ (nothing_between (take at bytes) (drop (at + 0) bytes) ∙ (ap (λ (k : ℕ). take at bytes ++ drop k bytes) same ∙ take-append-drop at bytes))

is_written : (c e w l : Bool) → (c || (e && (w && l))) ≡ true → c ≡ false → (e ≡ true) × (w ≡ true)
is_written true e w l g f = absurd (cc)
is_written false true true l g f = (refl, refl)
is_written false true false l g f = absurd (cc)
is_written false false w l g f = absurd (cc)

put_elsewhere : (v : View) (bytes others : ℕ → List ℕ) (s offset count : ℕ) (part : List ℕ) (n : ℕ) → IsUnreached v n
    → ((count == 0) || (is_for_es v s && has_range others is_writable offset count (bound_in v.held s))) ≡ true → ((count == 0) ≡ true → part ≡ [])
    → put_in bytes offset part (bound_in v.held s) n ≡ bytes n
put_elsewhere v bytes others s offset count part n unreached good none = by_hold (bound_in v.held s) (unreached.pointers s) good
  where
    by_hold : (x : Option Hold) → ((h : Hold) → x ≡ Some h → is_for_es v s ≡ true → is_writable h.rights ≡ true → h.name ≢ n)
        → ((count == 0) || (is_for_es v s && has_range others is_writable offset count x)) ≡ true
        → put_in bytes offset part x n ≡ bytes n
    by_hold None there good = refl
    by_hold (Some h) there good = go (n == h.name) (count == 0) refl refl
      where
        go : (b c : Bool) → (n == h.name) ≡ b → (count == 0) ≡ c → cond b (put_part (bytes n) offset part) (bytes n) ≡ bytes n
        go false c is zero = refl
        go true true is zero = put_nothing (bytes n) offset part (none zero)
        go true false is zero =
            let both = is_written (count == 0) (is_for_es v s) (is_writable h.rights) (nat_le (offset + count) (length (others h.name))) good zero in
            absurd (there h refl both.0 both.1 (sym (eqb-true n h.name is)))

module _ (b : Before) (n : ℕ) (unreached : IsUnreached b.view n) where
  abbrev Keeps : Effect → Type 0
  Keeps e = e.bytes n ≡ b.view.bytes n

  none_in : (part : List ℕ) → (length part == 0) ≡ true → part ≡ []
  none_in [] e = refl
  none_in (x ∷ xs) e = absurd (let none : length (x ∷ xs) ≡ 0 = eqb-true (length (x ∷ xs)) 0 e in omega (arith, none))

  pointer : (bytes : ℕ → List ℕ) (s offset : ℕ) (part : List ℕ) → fits_at b.view b.view.bytes s offset (length part) ≡ true
      → put_at_pointer b.view.held bytes s offset part n ≡ bytes n
  unfolding put_at_pointer
  pointer bytes s offset part good = put_elsewhere b.view bytes b.view.bytes s offset (length part) part n unreached good (none_in part)

  by_test : (t : Bool) (e f : Effect) → (t ≡ true → Keeps e) → Keeps f → Keeps (cond t e f)
  by_test true e f h k = h refl
  by_test false e f h k = k

  put_all_keeps : (ps : List Pointer) (parts : List (List ℕ)) (bytes : ℕ → List ℕ) → AreFitParts b.view b.view.bytes ps parts
      → put_all b.view.held ps parts bytes n ≡ bytes n
  put_all_keeps [] parts bytes fit = refl
  put_all_keeps (p ∷ ps) [] bytes fit = refl
  put_all_keeps (p ∷ ps) (part ∷ parts) bytes fit =
      put_all_keeps ps parts (put_at_pointer b.view.held bytes p.selector p.offset part) fit.1 ∙ pointer bytes p.selector p.offset part fit.0

  come_keeps : (r : CallRow) (next : ℕ) (a : ℕ → ℕ) (o : Outcome) → IsFitOutcome b.view (targets_in r.slots a) o → Keeps (come_out r b next a o)
  come_keeps r next a (Fails error values) fit = refl
  come_keeps r next a (Does d) fit = put_all_keeps (targets_in r.slots a) d.parts b.view.bytes fit
  come_keeps r next a Waits fit = refl
  come_keeps r next a (Leaves action code) fit = refl

  served_keeps : (service : ℕ) (next : ℕ) → Keeps (serviced b service next)
  served_keeps service next = by_service Keeps IsLawful b next lawful refl refl (λ r law a good. come_keeps r next a (r.outcome b a) (law.fits b a good)) service

  single_keeps : (e : Effect) → Keeps e → Keeps (single_stepped b e)
  single_keeps e k = by_test (has_trap_flag b.cpu.flags && (is_live e.state && not e.waits)) _ e (λ _. k) k

  answered_keeps : (r : Result Machine Stop) → stepped (state b.cpu b.view) ≡ r → Keeps (answered b r)
  answered_keeps (Ok s) e = by_write (stepped_writes outcome.Done s (state b.cpu b.view) e n)
    where
      by_write : (s.view.bytes n ≡ b.view.bytes n) ⊎ HoldsAsWritable b.view n → s.view.bytes n ≡ b.view.bytes n
      by_write (inl same) = same
      by_write (inr held) = absurd (unreached.registers held.register held.hold held.there held.writable held.named)
  answered_keeps (Err (stop.Trap vector code)) e = refl
  answered_keeps (Err (stop.Gate service next)) e = served_keeps service next
  answered_keeps (Err (stop.Miss s)) e = refl

  pub effect_keeps : (effect b).bytes n ≡ b.view.bytes n
  unfolding effect
  effect_keeps = single_keeps (answered b (stepped (state b.cpu b.view))) (answered_keeps (stepped (state b.cpu b.view)) refl)
