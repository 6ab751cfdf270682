-- The file of a bench is small enough to be read.
use Rattle.std.proofs.Common.{◌≡◌, ◌≤◌, ℕ, List, arith, ap, length, refl}
use Rattle.o2_gen.specs.BenchCode.{bench_code, bench_data}
use Rattle.o2_gen.specs.BenchFile.{bench_file}

file_size : length bench_file ≡ 384
unfolding bench_file bench_code bench_data
file_size = refl

pub small : (file : List ℕ) → file ≡ bench_file → length file ≤ 4194304
small file is = let size : length file ≡ length bench_file = ap length is in omega (arith, size, file_size)
