use Rattle.std.proofs.Common.{◌∙◌, ◌++◌, ap, arith, length, map, sym}
use Rattle.std.specs.Prelude.{option_map, option_to_list, slice_get}
use Rattle.std.proofs.lemmas.List.{take_all}
use Rattle.o2_machine.specs.Shown.{shown_proc}
use Rattle.o2_cli.proofs.Filling.{one_at_most, shown_more}
use Rattle.o2_cli.proofs.dump.fill.Goals as goal

pub loop-k-preserved : goal.loop-k-preserved
loop-k-preserved c =
    let xs = c.args.machine.now.space.procs.items in
    record {
      so_far = c.add_process.ensures.items ∙ ap (λ ys. ys ++ option_to_list (option_map shown_proc (slice_get xs c.loop-k.k))) c.loop-k.invariant.so_far ∙ sym (shown_more xs c.loop-k.k);
      room = omega (arith, c.loop-k.invariant.room, c.add_process.ensures.room);
      few = let more = ap length c.add_process.ensures.items in one_at_most c.loop-k.rows.items _ c.loop-k.k _ more c.loop-k.invariant.few;
    }

pub returns : goal.returns
returns c =
    c.loop-k.invariant.so_far
    ∙ ap (map shown_proc) (take_all c.loop-k.k c.args.machine.now.space.procs.items (omega (arith, c.loop-k-test.false, c.requires.few)))
