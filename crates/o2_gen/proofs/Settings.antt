-- The processes of a bench, and the limits of its setting.
use Rattle.std.proofs.Common.{◌≡◌, ℕ, ◌+◌, ◌≤◌, ◌++◌, List, [], ◌∷◌, All, length, replicate, refl, ap, ◌∙◌, arith}
use Rattle.std.specs.Prelude.{codes}
use Rattle.std.proofs.lemmas.List.{length-replicate, replicate-append-replicate}
use Rattle.std.proofs.lemmas.List.Elements.{All-replicate}
use Rattle.o2_conf.specs.declared.process.Process.{Process}
use Rattle.o2_conf.specs.Alone.{bare_process}
use Rattle.o2_conf.specs.Limits.{HasEnvironment, IsFrom, IsWithinLimits}
use Rattle.o2_gen.specs.BenchSetting.{bench_setting}

-- one process more
pub pushed : (n : ℕ) (p : Process) (old new : List Process) (x : Process) → new ≡ old ++ x ∷ [] → x ≡ p → old ≡ replicate n p → new ≡ replicate (n + 1) p
pushed n p old new x e is so_far =
    e ∙ ap (λ (o : List Process). o ++ x ∷ []) so_far ∙ ap (λ (y : Process). replicate n p ++ y ∷ []) is ∙ replicate-append-replicate n 1 p

long : (n : ℕ) (p : Process) → 1 ≤ n → n ≤ 64 → IsFrom 1 64 (length (replicate n p))
long n p some few = let e : length (replicate n p) ≡ n = length-replicate n p in rw e (some, few)

fit : (n : ℕ) → All HasEnvironment (replicate n (bare_process (codes "BENCH")))
fit n = let e : 9 ≤ 65536 = omega arith in All-replicate HasEnvironment n (bare_process (codes "BENCH")) e

pub within : (n : ℕ) → 1 ≤ n → n ≤ 64 → IsWithinLimits (bench_setting n)
within n some few =
    let memory : (4096 ≤ 32768) × (32768 ≤ 16777216) = (omega arith, omega arith) in
    let swap : 16384 ≤ 65536 = omega arith in
    let segments : (1 ≤ 2048) × (2048 ≤ 65535) = (omega arith, omega arith) in
    let budget : 1000000 ≤ 4000000000 = omega arith in
    let quantum : (1 ≤ 7) × (7 ≤ 1000000) = (omega arith, omega arith) in
    let one : (1 ≤ 1) × (1 ≤ 64) = (omega arith, omega arith) in
    let none : 0 ≤ 100000 = omega arith in
    record {
      memory = memory;
      paragraphs = refl;
      swap = swap;
      segments = segments;
      budget = budget;
      quantum = quantum;
      modules = one;
      process = long n (bare_process (codes "BENCH")) some few;
      environments = fit n;
      script = none;
    }
