-- What `check` writes: a line for each module of the machine file, in its order.
use Rattle.std.specs.Prelude.{◌≡◌, ℕ, Bool, true, false, List, [], ◌∷◌, ◌++◌, Option, Some, None, Ok, String, codes, decimal, flat_map, length, if◌then◌else◌}
use Rattle.std.specs.declared.alloc.Global.{Global}
use Rattle.o2_words.specs.declared.words.Verb.TheVariants.{Check}
use Rattle.o2_words.specs.Words.{IsCommandFor}
use Rattle.o2_image.specs.Getters.{is_library, reloc_total}
use Rattle.o2_image.specs.Parts.{Parts}
use Rattle.o2_dynlink.specs.Outcome.{modules_of}
use Rattle.o2_dynlink.specs.Reached.{answers}
use Rattle.o2_outer.specs.Texts.{Gains, GainsSome, IsPrefix}
use Rattle.o2_open.specs.declared.session.Session.{Session}
use Rattle.o2_open.specs.Loads.{Contents, IsOfStart, loaded}
use Rattle.o2_cli.specs.declared.status.Status.{Status}
use Rattle.o2_cli.specs.declared.status.Status.TheVariants as status
use Rattle.o2_cli.specs.Top.{Possible}

abbrev pub kind_text : Parts → List ℕ
kind_text m = if is_library m then codes " library, " else codes " program, "

-- whose the entries are: the module's own, or those of the services' module too
abbrev pub entries_text : Bool → List ℕ
entries_text false = codes " entries"
entries_text true = codes " entries for DOSCALLS"

-- its segments, the relocation records of all of them, and its defined ordinals
abbrev pub counts_text : Option (List ℕ) → Parts → List ℕ
counts_text shim m =
    decimal (length m.segments) ++ codes " segments, " ++ decimal (reloc_total m) ++ codes " relocations, " ++ decimal (length m.entries) ++ entries_text (answers shim m)

abbrev pub module_line : Option (List ℕ) → Parts → List ℕ
module_line shim m = m.names.own ++ kind_text m ++ counts_text shim m ++ 10 ∷ []

-- one line more, where there is a module
abbrev pub with_line : Option (List ℕ) → List ℕ → Option Parts → List ℕ
with_line shim text None = text
with_line shim text (Some m) = text ++ module_line shim m

abbrev pub module_lines : Option (List ℕ) → List Parts → List ℕ
module_lines shim ms = flat_map (module_line shim) ms

-- the lines of all modules that were linked
abbrev pub session_lines : Session → List ℕ
session_lines s = module_lines s.conf.shim (modules_of s.linked.images)

-- what the console gains for a session, by the status: the lines, or a front of them
abbrev pub ShowsLines : Session → (console_old console_new : Option (List ℕ)) → Status → Type 0
ShowsLines s c d status.Fine = Gains c d (session_lines s)
ShowsLines s c d status.SinkFault = GainsSome c d (λ front. IsPrefix front (session_lines s))
ShowsLines s c d status.NoMemory = d ≡ c
ShowsLines s c d _ = ⊥

-- the machine file and its modules are read and linked, and P holds of them
pub record Links (contents : Contents) (name : List ℕ) (P : Session → Type 0) : Type 0 where
  pub session : Session
  pub links : loaded Check contents name ≡ Ok session
  pub shows : P session

-- what a status of `check` says of the console
abbrev pub ChecksFile : List ℕ → Possible → (console_old console_new : Option (List ℕ)) → Status → Type 0
ChecksFile name may c d status.Fine = (contents : Contents) → may contents → Links contents name (λ s. Gains c d (session_lines s))
ChecksFile name may c d status.SinkFault = (contents : Contents) → may contents → Links contents name (λ s. GainsSome c d (λ front. IsPrefix front (session_lines s)))
ChecksFile name may c d status.InputFault = ⊥
ChecksFile name may c d status.NoRoom = ⊥
ChecksFile name may c d status.SwapFull = ⊥
ChecksFile name may c d status.SwapFault = ⊥
ChecksFile name may c d _ = d ≡ c

-- where the words are `check` and the name of a file
abbrev pub Checks : List (String Global) → Possible → (console_old console_new : Option (List ℕ)) → Status → Type 0
Checks words may c d s = (name : List ℕ) → IsCommandFor words Check name → ChecksFile name may c d s

-- no refusal of a start
abbrev pub IsUnstarted : Status → Type 0
IsUnstarted (status.BadModule name fault) = IsOfStart fault → ⊥
IsUnstarted _ = Unit {0}
