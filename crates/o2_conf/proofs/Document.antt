-- The table that bytes are a text of.
use Rattle.std.proofs.Common.{◌≡◌, ℕ, List, Bool, true, false, Some, None, Ok, Err, refl}
use Rattle.std.specs.Str.{IsUtf8, is_utf8}
use Rattle.std.proofs.lemmas.Str.{IsUtf8-from_is_utf8, is_utf8-from_IsUtf8}
use Rattle.toml.specs.Data.{Members}
use Rattle.toml.specs.Parse.{parse_document}
use Rattle.o2_base.specs.declared.faults.MachineFault.TheVariants.{BadToml}
use Rattle.o2_conf.specs.Values.{document_of}

pub is_document : (bytes : List ℕ) (t : Members) → IsUtf8 bytes → parse_document bytes ≡ Some t → document_of bytes ≡ Ok t
is_document bytes t text parsed = rw (is_utf8-from_IsUtf8 bytes text, parsed) refl

pub no_document : (bytes : List ℕ) → (IsUtf8 bytes → parse_document bytes ≡ None) → document_of bytes ≡ Err BadToml
no_document bytes none = go (is_utf8 bytes) refl
  where
    go : (b : Bool) → is_utf8 bytes ≡ b → document_of bytes ≡ Err BadToml
    go true e = rw (e, none (IsUtf8-from_is_utf8 bytes e)) refl
    go false e = rw e refl
