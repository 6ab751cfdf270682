use Rattle.std.proofs.Common.{arith}
use Rattle.o2_world.specs.Calls.{row_of}
use Rattle.o2_gate.proofs.Gathered.{on_asked}
use Rattle.o2_gate.proofs.Heaps.{below, not_between}
use Rattle.o2_gate.proofs.Serves.{row_at}
use Rattle.o2_gate.proofs.gate.serve.Goals as goal

pub returns-then-service-ge25-clause-does : goal.returns-then-service-ge25-clause-does
returns-then-service-ge25-clause-does g c = λ f bytes known i r e avail there. c.serve_semaphore.ensures.does f bytes known i _ r e there

pub returns-then-service-ge25-clause-part : goal.returns-then-service-ge25-clause-part
returns-then-service-ge25-clause-part g c = λ f bytes known r avail there. c.serve_semaphore.ensures.part f bytes known _ r there

pub returns-then-service-ge25-clause-aims : goal.returns-then-service-ge25-clause-aims
returns-then-service-ge25-clause-aims g c = on_asked (λ a e. absurd e) c.serve_semaphore.result c.serve_semaphore.ensures.never_asked

pub returns-then-service-ge25-clause-puts : goal.returns-then-service-ge25-clause-puts
returns-then-service-ge25-clause-puts g c = c.serve_semaphore.ensures.puts _

pub serve_early-requires-clause-last : goal.serve_early-requires-clause-last
unfolding row_of
serve_early-requires-clause-last g c =
    let n = c.args.service in
    let x = c.args.row.now in
    let no_24 = below n 24 (λ e. row_at x n 24 e c.requires.row) (omega (arith, c.if-service-ge25.false)) in
    let no_23 = below n 23 (λ e. row_at x n 23 e c.requires.row) (omega (arith, no_24)) in
    let early = not_between n c.requires.no_heap no_23 in omega (arith, early)
