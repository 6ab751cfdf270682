-- Each process has a whole table.
use Rattle.std.proofs.Common.{◌≡◌, ℕ, length, ◌∙◌, arith}
use Rattle.o2_regions.specs.Maps.{Maps, table_of}
use Rattle.o2_space.specs.Stands.{AreWhole}

pub whole_same : (m n : Maps) → n.processes ≡ m.processes → ((pid : ℕ) → length (table_of n pid) ≡ length (table_of m pid)) → AreWhole m → AreWhole n
whole_same m n same lengths whole pid process = lengths pid ∙ whole pid (process.0, (let l = process.1 in omega (arith, l, same)))
