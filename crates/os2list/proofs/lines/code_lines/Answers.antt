use Rattle.std.proofs.Common.{◌≡◌, ◌+◌, List, [], ◌∷◌, ◌++◌, sym, subst, arith}
use Rattle.os2list.specs.declared.lines.CodeLine.{CodeLine}
use Rattle.os2list.specs.Listing.{Shows}
use Rattle.os2list.proofs.Showing.{shown_more}
use Rattle.os2list.proofs.lines.code_lines.Goals as goal

pub listing-preserved : goal.listing-preserved
listing-preserved c =
    let line = c.in_ok-line.line in
    let pushed : c.push.new.self.items ≡ c.listing.lines.items ++ line ∷ [] = c.in_ok-push.ensures.items in
    let more = shown_more c.args.bytes.now c.listing.lines.items 0 c.listing.next line c.listing.invariant.0 (record { at = c.in_ok-line.ensures.at; count = c.in_ok-line.ensures.count; text = c.in_ok-line.ensures.text }) in
    (subst (λ (ls : List CodeLine). Shows c.args.bytes.now 0 ls (c.listing.next + line.count)) (sym pushed) more, c.in_ok-line.ensures.within)

pub listing-smaller : goal.listing-smaller
listing-smaller c = omega (arith, c.in_ok-line.ensures.some, c.in_ok-line.ensures.within)
