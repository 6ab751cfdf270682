-- Processes that have started over byte vectors.
use Rattle.std.proofs.Common.{◌≡◌, ℕ, ◌+◌, length, map, Option, Some, None, ap, sym, ◌∙◌, refl, subst}
use Rattle.std.proofs.lemmas.List.{length-map}
use Rattle.std.specs.Prelude.{slice_get, option_map}
use Rattle.o2_isa.specs.declared.cpu.Cpu.{Cpu}
use Rattle.o2_isa.specs.View.{Hold}
use Rattle.o2_bus.specs.Plain.{held_in, bytes_in, shown_in, count_in}
use Rattle.o2_bus.specs.declared.plain.Plain.{Plain}
use Rattle.o2_dynlink.specs.Outcome.{LinkedParts}
use Rattle.o2_world.specs.World.{Process}
use Rattle.o2_world.specs.Views.{hold_of, segment_bytes}
use Rattle.o2_world.specs.Starts.{Built}
use Rattle.o2_load.specs.declared.begun.Begun.{Begun}
use Rattle.o2_load.specs.declared.progress.Progress.{Progress}
use Rattle.o2_load.specs.declared.vectors.Vectors.{Vectors}
use Rattle.o2_load.specs.Beginnings.{IsBegun, IsFirstAt, lines_from}
use Rattle.o2_load.specs.Progresses.{HasCome, IsStartedAt, course}
use Rattle.o2_load.specs.ByVectors.{AreFilled, by_load, vectors_seen}

back : (o : Option Hold) → option_map hold_of (option_map by_load o) ≡ o
back None = refl
back (Some h) = refl

none_loaded : (o : Option Hold) → None ≡ option_map by_load o → None ≡ o
none_loaded None e = refl
none_loaded (Some h) e = cc

first_at : (o : Option Cpu) (holds : ℕ → Option Hold) (u : Option Process) → IsStartedAt o (λ j. option_map by_load (holds j)) u → IsFirstAt o holds u
first_at (Some c) holds (Some p) is = record { cpu = is.cpu; state = is.state; held = λ j. ap (option_map hold_of) (is.held j) ∙ back (holds j) }
first_at None holds None is = λ j. none_loaded (holds j) (is j)
first_at (Some c) holds None is = absurd is
first_at None holds (Some p) is = absurd is

pub begun_by : (p : Progress Vectors) (m : Begun) (l : LinkedParts) (b : Built) (most : ℕ) → m.plain ≡ p.build.segments.plain → m.cpus ≡ p.cpus → m.starts ≡ p.starts → AreFilled p.build.segments
    → HasCome (λ n o. segment_bytes o ≡ bytes_in p.build.segments.plain n) (course (vectors_seen p.build.segments) p) l most b → IsBegun m l b
begun_by p m l b most plain cpus starts filled is = record {
  count = ap count_in plain ∙ is.count;
  bytes = λ n. is.named n ∙ ap (λ (x : Plain). bytes_in x n) (sym plain);
  shown = λ n. ap (λ (x : Plain). shown_in x n) plain ∙ filled.shown n;
  none = λ j. none_loaded (held_in p.build.segments.plain 0 j) (is.none j) ∙ ap (λ (x : Plain). held_in x 0 j) (sym plain);
  places = λ i.
      subst (λ (x : Plain). IsFirstAt (slice_get m.cpus.items i) (held_in x (i + 1)) (slice_get b.processes i)) (sym plain)
      (subst (λ cs. IsFirstAt (slice_get cs i) (held_in p.build.segments.plain (i + 1)) (slice_get b.processes i)) (sym (ap (λ v. v.items) cpus))
      (first_at (slice_get p.cpus.items i) (held_in p.build.segments.plain (i + 1)) (slice_get b.processes i) (is.places i)));
  same = is.same ∙ ap (λ v. length v.items) (sym cpus);
  rows = ap (λ v. length v.items) starts ∙ sym (length-map p.starts.items (λ v. v.items)) ∙ is.rows ∙ ap (λ v. length v.items) (sym cpus);
  lines = is.lines ∙ ap (λ v. lines_from l 1 (map (λ w. w.items) v.items)) (sym starts);
}
