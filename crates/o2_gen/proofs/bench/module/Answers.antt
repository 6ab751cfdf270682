use Rattle.o2_gen.specs.BenchCode.{bench_code, bench_data}
use Rattle.o2_gen.specs.BenchFile.{bench_file}
use Rattle.o2_gen.proofs.BenchReads.{read_so}
use Rattle.o2_gen.proofs.bench.module.Goals as goal

pub returns-clause-reads : goal.returns-clause-reads
unfolding bench_file bench_code bench_data
returns-clause-reads c = read_so c.from_slice.result c.from_slice.ensures
