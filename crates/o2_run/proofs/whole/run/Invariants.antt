use Rattle.std.proofs.Common.{◌≡◌, ◌≤◌, IsTrue, false, ℕ, List, length, Option, Some, None}
use Rattle.o2_outer.specs.Texts.{Gains}
use Rattle.o2_outer.specs.Inputs.{GoesOn, IsSeenAs, left_as}
use Rattle.o2_world.specs.World.{World, Setting}
use Rattle.o2_world.specs.Text.{lines_text}
use Rattle.o2_world.specs.Run.{console}
use Rattle.o2_run.specs.Pieces.{counts}
use Rattle.o2_run.specs.Ended.{AllFitRun, HasReached}
use Rattle.o2_run.proofs.whole.run.Given as goal

abbrev pub invariant-steps : goal.invariant-steps
invariant-steps g l = record {
  fresh : g.M.Steps.stopped l.fn.machine ≡ None → g.M.Steps.stopped l.machine ≡ None;
  goes_on : GoesOn (g.I.Source.past l.fn.input) (g.I.Source.past l.input);
  reached : g.M.Steps.stopped l.fn.machine ≡ None → IsTrue (g.S.SwapDevice.told l.swap) → (text : Option (List ℕ))
      → IsSeenAs text (g.I.Source.past l.input) → (s : Setting) (w : World) (c r : Option (List ℕ))
      → g.M.Steps.stands l.fn.machine (g.S.SwapDevice.blocks l.fn.swap) (g.S.SwapDevice.block l.fn.swap) s w
      → left_as text (g.I.Source.left l.fn.input) (g.I.Source.past l.fn.input) ≡ Some w.input
      → Gains c (g.C.Sink.taken l.fn.console) (console w) → Gains r (g.R.Sink.taken l.fn.report) (lines_text w.lines)
      → HasReached (g.M.Steps.stands l.machine (g.S.SwapDevice.blocks l.swap) (g.S.SwapDevice.block l.swap) s) g.M.Steps.swaps s w (left_as text (g.I.Source.left l.input) (g.I.Source.past l.input)) c (g.C.Sink.taken l.console) r (g.R.Sink.taken l.report)
      (counts (g.C.Sink.puts l.fn.console) (g.C.Sink.puts l.console) (g.R.Sink.puts l.fn.report) (g.R.Sink.puts l.report) (length w.lines));
  device : g.M.Steps.fits l.machine (g.S.SwapDevice.blocks l.swap);
  input_count : g.I.Source.faults l.fn.input ≤ g.I.Source.faults l.input;
  console_count : g.C.Sink.faults l.fn.console ≤ g.C.Sink.faults l.console;
  report_count : g.R.Sink.faults l.fn.report ≤ g.R.Sink.faults l.report;
  swap_count : g.S.SwapDevice.faults l.fn.swap ≤ g.S.SwapDevice.faults l.swap;
  swap_blocks : g.S.SwapDevice.blocks l.swap ≡ g.S.SwapDevice.blocks l.fn.swap;
  fixed : g.M.Steps.fixed l.machine ≡ g.M.Steps.fixed l.fn.machine;
  swap_told : IsTrue (g.S.SwapDevice.told l.swap) → IsTrue (g.S.SwapDevice.told l.fn.swap);
  unswapped : g.M.Steps.swaps ≡ false → l.swap ≡ l.fn.swap;
  idle : g.M.Steps.stopped l.fn.machine ≡ None → IsTrue (g.S.SwapDevice.told l.fn.swap) → (text : Option (List ℕ))
      → IsSeenAs text (g.I.Source.past l.input) → (s : Setting) (w : World)
      → g.M.Steps.stands l.fn.machine (g.S.SwapDevice.blocks l.fn.swap) (g.S.SwapDevice.block l.fn.swap) s w
      → left_as text (g.I.Source.left l.fn.input) (g.I.Source.past l.fn.input) ≡ Some w.input → g.M.Steps.none_swapped l.fn.machine
      → AllFitRun s w → (l.swap ≡ l.fn.swap) × g.M.Steps.none_swapped l.machine;
}

abbrev pub decreases-steps : goal.decreases-steps
decreases-steps g l = g.M.Steps.left l.machine
