use Rattle.std.proofs.Common.{◌≡◌, ◌+◌, ◌*◌, ◌++◌, [], ◌∷◌, ap, ◌∙◌, rules}
use Rattle.o2_ne.proofs.Tabulated.{goes_on, is_done, table_items, table_length}
use Rattle.o2_ne_segs.specs.declared.reloc.Reloc.{Reloc}
use Rattle.o2_ne_segs.specs.Records.{reloc_at}
use Rattle.o2_ne_segs.proofs.reloc.relocs_from.Goals as goal

pub loop-k-preserved : goal.loop-k-preserved
loop-k-preserved c =
    let row : c.reloc_at.result ≡ reloc_at c.args.file.now (c.args.at + 8 * c.loop-k.k) = search rules in
    let items : c.push.new.self.items ≡ c.loop-k.found.items ++ reloc_at c.args.file.now (c.args.at + 8 * c.loop-k.k) ∷ [] =
    c.in_ok-push.ensures.items ∙ ap (λ (r : Reloc). c.loop-k.found.items ++ r ∷ []) row in
    rw items (goes_on _ _ _ _ _ c.loop-k-test.true c.loop-k.invariant)

pub returns-clause-exact : goal.returns-clause-exact
returns-clause-exact c = is_done _ _ _ _ _ c.loop-k-test.false c.loop-k.invariant

pub returns-clause-count : goal.returns-clause-count
returns-clause-count c = table_length _ _ _ (is_done _ _ _ _ _ c.loop-k-test.false c.loop-k.invariant)

pub returns-clause-rows : goal.returns-clause-rows
returns-clause-rows c = table_items _ _ _ (is_done _ _ _ _ _ c.loop-k-test.false c.loop-k.invariant)
