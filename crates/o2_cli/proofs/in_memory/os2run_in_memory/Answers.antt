-- The files are the same ones at the end of the call.
use Rattle.std.proofs.Common.{refl}
use Rattle.o2_outer.specs.Contents.{file_in}
use Rattle.o2_outer.specs.Plans.{mem_files, mem_fetch_faults, mem_names_asked}
use Rattle.o2_cli.proofs.Telling.{over_told}
use Rattle.o2_cli.proofs.in_memory.os2run_in_memory.Goals as goal

pub returns : goal.returns
returns g c = record {
  promises =
      over_told c.args.words.now (λ f. file_in (mem_files f)) mem_names_asked mem_fetch_faults _ _ _ _ _ _ g.S.SwapDevice.told _ _ _ c.os2run.result c.requires.tells c.os2run.ensures.promises
      (c.os2run.ensures.promises.files_earlier (file_in (mem_files c.os2run.new.files)) refl);
}
