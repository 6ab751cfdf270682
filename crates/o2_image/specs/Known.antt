-- What is known of the records of a file while its segments are checked.
use Rattle.std.specs.Prelude.{◌≡◌, ℕ, Bool, true, false, List, get_or}
use Rattle.o2_ne.specs.declared.head.Head.{Head}
use Rattle.o2_ne.specs.declared.entries.Entry.{Entry}
use Rattle.o2_ne_segs.specs.Records.{reloc_at}
use Rattle.o2_image.specs.Targets.{leads}

-- the record at each marked place of the file leads somewhere
pub record AreKnown (file : List ℕ) (h : Head) (es : List Entry) (known : List Bool) : Type 0 where
  pub at : (p : ℕ) → get_or known p false ≡ true → leads file h es (reloc_at file p) ≡ true
