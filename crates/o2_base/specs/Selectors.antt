-- Selectors of the local descriptor table (Intel 80286 Programmer's Reference Manual, 6.3).
use Rattle.std.specs.Prelude.{ℕ, ◌+◌, ◌*◌}

-- the selector of an index of the local descriptor table, with privilege level 3
abbrev pub selector_of : ℕ → ℕ
selector_of index = 8 * index + 7
