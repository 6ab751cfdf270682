-- The image that is written is one of the machine's world.
use Rattle.std.proofs.Common.{◌≡◌, ℕ, suc, ◌+◌, ◌-◌, ◌==◌, ◌∙◌, List, [], ◌∷◌, Option, Some, None, Ok, ap, arith, length, map, min, option_map, refl, sym, subst}
use Rattle.std.specs.Prelude.{slice_get}
use Rattle.o2_regions.specs.Maps.{Maps}
use Rattle.o2_store.specs.Pictures.{HasPicture, picture}
use Rattle.o2_store.specs.Shelf.{HasAll, Shelf}
use Rattle.o2_swapmap.specs.Piles.{all_of}
use Rattle.o2_world.specs.declared.types.State.{State}
use Rattle.o2_world.specs.declared.types.State.TheVariants.{Live, Exited, Trapped}
use Rattle.o2_world.specs.World.{Process, World, Setting}
use Rattle.o2_world.specs.Run.{console, steps_done}
use Rattle.o2_world.proofs.MapLemmas.{if_no}
use Rattle.o2_world.proofs.Numbers.{not_zero}
use Rattle.o2_dump.specs.declared.reader.Core.{Core}
use Rattle.o2_dump.specs.CoreBytes.{core_bytes}
use Rattle.o2_dump.specs.CoreImage.{core_of}
use Rattle.o2_dumping.specs.Apart.{IsApart}
use Rattle.o2_dumping.proofs.Naming.{segments_named}
use Rattle.o2_dumping.specs.declared.parts.Wrote.{Wrote}
use Rattle.o2_dumping.specs.declared.parts.Wrote.TheVariants as wrote
use Rattle.o2_dumping.specs.Puts.{Writes}
use Rattle.o2_dumping.specs.Told.{Row, core_told, numbers}
use Rattle.o2_dump_laws.specs.Whole.{IsWhole}
use Rattle.o2_dump_worlds.specs.Rows.{number_shown, row_of}
use Rattle.o2_dump_worlds.specs.StandsFor.{ImageStandsFor, code_shown}
use Rattle.o2_dump_worlds.proofs.Standing.{image_stands}
use Rattle.o2_space.specs.Parts.{parts_in, running_at, running_in}
use Rattle.o2_space.specs.declared.space.Proc.{Proc}
use Rattle.o2_stands.specs.Parts.{Running, running_of}
use Rattle.o2_stands.specs.Stands.{AreLawful}
use Rattle.o2_stands.proofs.Worlds.{number_is}
use Rattle.o2_machine.specs.declared.machine.Machine.{Machine}
use Rattle.o2_machine.specs.Shown.{end_code, shown_proc, state_number}
use Rattle.o2_machine.specs.StandsFor.{StandsFor}
use Rattle.o2_cli.specs.DumpTexts.{GainsByWrote, IsImageOf}

-- ---- the processes of a machine are those of its world

number_same : (x : State) → state_number x ≡ number_shown x
number_same Live = refl
number_same (Exited code) = refl
number_same (Trapped vector) = refl

code_same : (x : State) → end_code x ≡ code_shown x
code_same Live = refl
code_same (Exited code) = refl
code_same (Trapped vector) = refl

abbrev row_in : Running → Row
row_in r = (r.cpu, number_shown r.state, code_shown r.state)

abbrev unwrapped : Running → Option Running → Running
unwrapped r None = r
unwrapped r (Some x) = x

one_row : (p : Proc) (q : Process) → option_map running_of (Some q) ≡ option_map running_in (Some p) → shown_proc p ≡ row_of q
one_row p q e =
    ap (λ (n : ℕ). (p.cpu, n, end_code p.state)) (number_same p.state)
    ∙ ap (λ (n : ℕ). (p.cpu, number_shown p.state, n)) (code_same p.state)
    ∙ sym (ap (λ (o : Option Running). row_in (unwrapped (running_of q) o)) e)

no_more : (p : Proc) → option_map running_of None ≡ option_map running_in (Some p) → ⊥
no_more p e = cc

no_less : (q : Process) → option_map running_of (Some q) ≡ option_map running_in None → ⊥
no_less q e = cc

rows_of : (ps : List Proc) (qs : List Process) → ((k : ℕ) → option_map running_of (slice_get qs k) ≡ option_map running_in (slice_get ps k)) → map shown_proc ps ≡ map row_of qs
rows_of [] [] same = refl
rows_of [] (q ∷ qs) same = absurd (no_less q (same 0))
rows_of (p ∷ ps) [] same = absurd (no_more p (same 0))
rows_of (p ∷ ps) (q ∷ qs) same =
    ap (λ (r : Row). r ∷ map shown_proc ps) (one_row p q (same 0))
    ∙ ap (λ (rs : List Row). row_of q ∷ rs) (rows_of ps qs (λ k. same (suc k)))

at_place : (ps : List Proc) (k : ℕ) → running_at ps (k + 1) ≡ option_map running_in (slice_get ps k)
at_place ps k =
    if_no ((k + 1) == 0) None (option_map running_in (slice_get ps (k + 1 - 1))) (not_zero (k + 1) (omega arith))
    ∙ ap (λ (n : ℕ). option_map running_in (slice_get ps n)) (omega arith)

module _ (m : Machine) (device : ℕ) (block : ℕ → List ℕ) (s : Setting) (w : World) (stands : StandsFor m device block s w) where
  rows_are : map shown_proc m.space.procs.items ≡ map row_of w.processes
  rows_are =
      rows_of m.space.procs.items w.processes
      (λ k. sym (ap (option_map running_of) (number_is w.processes k)) ∙ (stands.space.processes (k + 1) ∙ at_place m.space.procs.items k))

  -- parts that are those of the machine, and numbers that are those of the world
  module _ (shelf : Shelf) (maps : Maps) (rows : List Row) (blocks steps bytes : ℕ) (lawful : AreLawful shelf maps)
      (a : shelf ≡ m.space.store) (b : maps ≡ m.space.regions) (c : rows ≡ map shown_proc m.space.procs.items)
      (d : blocks ≡ min s.swap device) (e : steps ≡ steps_done s w) (f : bytes ≡ length (console w)) where
    abbrev told : Core
    told = core_told shelf maps rows block blocks steps bytes

    told_is : told ≡ core_told m.space.store m.space.regions (map row_of w.processes) block (all_of m.space.store.swap) (steps_done s w) (length w.console)
    told_is =
        ap (λ (x : Shelf). core_told x maps rows block blocks steps bytes) a
        ∙ ap (λ (x : Maps). core_told m.space.store x rows block blocks steps bytes) b
        ∙ ap (λ (x : List Row). core_told m.space.store m.space.regions x block blocks steps bytes) (c ∙ rows_are)
        ∙ ap (λ (x : ℕ). core_told m.space.store m.space.regions (map row_of w.processes) block x steps bytes) (d ∙ sym stands.set.blocks)
        ∙ ap (λ (x : ℕ). core_told m.space.store m.space.regions (map row_of w.processes) block (all_of m.space.store.swap) x bytes) e
        ∙ ap (λ (x : ℕ). core_told m.space.store m.space.regions (map row_of w.processes) block (all_of m.space.store.swap) (steps_done s w) x) f

    lawful_there : AreLawful m.space.store m.space.regions
    lawful_there = subst (λ (x : Shelf). AreLawful x m.space.regions) a (subst (λ (x : Maps). AreLawful shelf x) b lawful)

    stands_there : ImageStandsFor (picture m.space.images) s device (steps_done s w) told w
    stands_there =
        subst (λ (x : Core). ImageStandsFor (picture m.space.images) s device (steps_done s w) x w) (sym told_is)
        (image_stands (parts_in m.space device block) s w (steps_done s w) lawful_there stands.space stands.set)

    image_is : IsApart told → HasAll (HasPicture m.space.images) shelf → IsImageOf m.space.images device s w (core_bytes told)
    image_is apart all =
        record { core = told; stands = stands_there; bytes = refl; apart = apart; named = segments_named shelf block (HasPicture m.space.images) all (numbers shelf) }

    -- what is written of the image
    pub gains_image : (old new : Option (List ℕ)) (result : Wrote) → IsApart told → HasAll (HasPicture m.space.images) shelf → Writes old new (core_bytes told) result → (result ≡ wrote.Done → IsWhole told × (core_of (core_bytes told) ≡ Ok told))
        → GainsByWrote m.space.images device s w old new result
    unfolding image_is
    gains_image old new wrote.Done apart all writes read = λ t is. (core_bytes told, writes t is, record { image_of = image_is apart all; whole = (read refl).0; read = (read refl).1 })
    gains_image old new wrote.SinkFault apart all writes read = λ t is. let g = writes t is in (g.0, g.1, (core_bytes told, image_is apart all, g.2))
    gains_image old new wrote.SwapFault apart all writes read = λ t is. let g = writes t is in (g.0, g.1, (core_bytes told, image_is apart all, g.2))
