-- Where the names of a module stand in its file.
use Rattle.std.specs.Prelude.{◌≡◌, ℕ, ◌+◌, ◌<◌, ◌≤◌, List, [], ◌∷◌, ◌++◌, length}
use Rattle.o2_ne.specs.declared.head.Head.{Head}
use Rattle.o2_ne.specs.declared.names.Name.{Name}
use Rattle.o2_ne.specs.NameTable.{Exports}
use Rattle.o2_ne.specs.Words.{byte_at, string_at, word_at}

-- a string at place p: its length, which isn't 0, its bytes, and an ordinal behind them
pub record StringStands (file : List ℕ) (p : ℕ) (text : List ℕ) : Type 0 where
  pub some : 0 < length text
  pub len : byte_at file p ≡ length text
  pub bytes : text ≡ string_at file (p + 1) (length text)
  pub inside : p + 1 + length text + 2 ≤ length file

pub record NameStands (file : List ℕ) (p : ℕ) (n : Name) : Type 0 where
  pub text : StringStands file p n.text
  pub ordinal : n.ordinal ≡ word_at file (p + 1 + length n.text)

-- these names from place p on, one behind the other, up to the length 0 that ends their table
abbrev pub NamesStand : List ℕ → ℕ → List Name → Type 0
NamesStand file p [] = (p < length file) × (byte_at file p ≡ 0)
NamesStand file p (n ∷ ns) = NameStands file p n × NamesStand file (p + 1 + length n.text + 2) ns

-- the module's name and the resident names in one table, the nonresident names, where there are any, in another
pub record ExportsStand (file : List ℕ) (h : Head) (x : Exports) : Type 0 where
  pub resident : List Name
  pub others : List Name
  pub own : StringStands file (h.at + h.resident_at) x.own
  pub names : x.names ≡ resident ++ others
  pub first : NamesStand file (h.at + h.resident_at + length x.own + 3) resident
  pub none : h.nonresident_len ≡ 0 → others ≡ []
  pub second : 0 < h.nonresident_len → NamesStand file h.nonresident_at others
