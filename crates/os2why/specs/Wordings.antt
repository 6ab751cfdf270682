-- How a sentence is written.
use Rattle.std.specs.Prelude.{ℕ, true, List, [], ◌++◌, codes}
use Rattle.std.specs.Fmt.{decimal, digits}
use Rattle.o2_tool.specs.Text.{hex4, shown_text}
use Rattle.os2why.specs.declared.wording.Part.{Part}
use Rattle.os2why.specs.declared.wording.Part.TheVariants as part
use Rattle.os2why.specs.declared.wording.Wording.{Wording}
use Rattle.os2why.specs.declared.verdict.Verdict.{Verdict}
use Rattle.os2why.specs.declared.verdict.Verdict.TheVariants as verdict

abbrev pub part_text : Part → List ℕ
part_text part.Nothing = []
part_text (part.Text text) = text.now
part_text (part.Name name) = shown_text name.now
part_text (part.Number number) = decimal number
part_text (part.Hexadecimal number) = digits 16 true number
part_text (part.Offset place) = hex4 place
part_text (part.Line number) = codes " (line " ++ (decimal number ++ codes ")")
part_text (part.Lines first last) = codes " (lines " ++ (decimal first ++ (codes " to " ++ (decimal last ++ codes ")")))

abbrev pub wording_text : Wording → List ℕ
wording_text w = w.front.now ++ (part_text w.first ++ (w.middle.now ++ (part_text w.second ++ (w.end.now ++ (part_text w.third ++ part_text w.rest)))))

abbrev pub verdict_text : Verdict → List ℕ
verdict_text verdict.Opens = codes "it opens"
verdict_text (verdict.Machine number key why) = codes "it isn't opened: " ++ (codes "the machine file is refused\n  "
    ++ (codes "reason " ++ (number.now ++ (key.now ++ (codes ": " ++ wording_text why)))))
verdict_text (verdict.Module head number why beside) = codes "it isn't opened: " ++ (wording_text head
    ++ (codes "\n  " ++ (codes "reason " ++ (number.now ++ (codes ": " ++ (wording_text why ++ wording_text beside))))))
verdict_text (verdict.Other why) = codes "it isn't opened: " ++ wording_text why
