use Rattle.std.proofs.Common.{◌≡◌, length, arith, rules, ap, ◌∙◌, sym}
use Rattle.o2_store.specs.Needs.{all_need}
use Rattle.o2_store.proofs.Collecting.{empty_keys, need-none, need_bound, any-more}
use Rattle.o2_store.proofs.keys.collect.Goals as goal

pub add_key-requires-clause-keys : goal.add_key-requires-clause-keys
add_key-requires-clause-keys c = rw c.clear.ensures.items (empty_keys (length c.args.entries.now))

pub overflow_add-total : goal.overflow_add-total
overflow_add-total c =
    let z : all_need c.args.entries.now c.clear.new.self.items ≡ c.args.locked = ap (all_need c.args.entries.now) c.clear.ensures.items ∙ need-none c.args.entries.now ∙ sym c.requires.locked in
    let b = need_bound c.args.entries.now c.add_key.new.keys.items c.requires.sizes in
    omega (arith, z, b, c.add_key.ensures.need, c.requires.few)

pub loop-id-init : goal.loop-id-init
loop-id-init c =
    let z : all_need c.args.entries.now c.clear.new.self.items ≡ c.args.locked = ap (all_need c.args.entries.now) c.clear.ensures.items ∙ need-none c.args.entries.now ∙ sym c.requires.locked in
    record {
      once = c.add_key.ensures.keys;
      capacity = search rules;
      need = omega (arith, z, c.add_key.ensures.need);
      any = λ k. c.add_key.ensures.any k ∙ rw c.clear.ensures.items (search rules);
    }

pub overflow_add-total-in-loop-id : goal.overflow_add-total-in-loop-id
overflow_add-total-in-loop-id c =
    let b = need_bound c.args.entries.now c.add_named-total.new.keys.items c.requires.sizes in
    omega (arith, b, c.add_named-total.ensures.need, c.loop-id.invariant.need, c.requires.few)

pub loop-id-preserved : goal.loop-id-preserved
loop-id-preserved c =
    let i = c.loop-id.invariant in
    let e = c.add_named-total.ensures in
    record {
      once = e.keys;
      capacity = e.capacity ∙ i.capacity;
      need = omega (arith, e.need, i.need);
      any = λ k. any-more c.args.entries.now c.loop-id.keys.items c.add_named-total.new.keys.items c.args.keep.now c.args.key c.loop-id.id-index k (record { key = 0; age = 0 }) c.loop-id-test.true (i.any k) (e.any k);
    }
