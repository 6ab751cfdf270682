-- The bytes that a step changed.
use Rattle.std.specs.Prelude.{ℕ, Bool, true, false, ◌+◌, ◌==◌, if◌then◌else◌, List, [], ◌∷◌, ◌++◌, map, codes}
use Rattle.o2_tool.specs.Text.{hex4, hex_text}
use Rattle.o2_trace.specs.declared.changes.Change.{Change}

-- those bytes of a segment, from an offset on, that aren't what they were
abbrev pub changes_of : ℕ → ℕ → List ℕ → List ℕ → List Change
changes_of sel a (o ∷ os) (n ∷ ns) =
    if n == o then changes_of sel (a + 1) os ns
    else record { selector = sel; offset = a; old = o; new = n } ∷ changes_of sel (a + 1) os ns
changes_of sel a _ _ = []

-- the bytes of a run of changes, as they were or as they are
abbrev pub bytes_of : Bool → List Change → List ℕ
bytes_of is_new cs = map (λ (c : Change). if is_new then c.new else c.old) cs

-- where the first of a run lies, what they were, and what they are
abbrev pub line_text : Change → List Change → List ℕ
line_text first run = hex4 first.selector ++ (codes ":" ++ (hex4 first.offset ++ (codes " "
    ++ (hex_text (bytes_of false run) ++ (codes " -> " ++ (hex_text (bytes_of true run) ++ codes "\n"))))))
