use Rattle.std.proofs.Common.{refl}
use Rattle.o2_gen.specs.BenchCode.{bench_code, bench_data}
use Rattle.o2_gen.specs.BenchFile.{bench_file}
use Rattle.o2_gen.proofs.BenchReads.{reads, code_bytes, data_bytes}
use Rattle.o2_gen.proofs.laws.bench_file_is_read.Goals as goal

pub returns-clause-reads : goal.returns-clause-reads
returns-clause-reads c = reads

pub returns-clause-code : goal.returns-clause-code
returns-clause-code c = code_bytes

pub returns-clause-data : goal.returns-clause-data
returns-clause-data c = data_bytes

pub returns-clause-file_size : goal.returns-clause-file_size
unfolding bench_file bench_code bench_data
returns-clause-file_size c = refl

pub returns-clause-code_size : goal.returns-clause-code_size
unfolding bench_code
returns-clause-code_size c = refl

pub returns-clause-data_size : goal.returns-clause-data_size
unfolding bench_data
returns-clause-data_size c = refl
