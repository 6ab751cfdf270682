use Rattle.std.proofs.Common.{◌≡◌, ◌+◌, ◌-◌, ◌*◌, ◌<◌, ◌≤◌, length, take, get_or, arith, ◌∙◌, ap, min}
use Rattle.std.proofs.lemmas.List.{length-take-le}
use Rattle.o2_swapmap.specs.Piles.{blocks_of}
use Rattle.o2_phys.proofs.Parts.{length-with_part}
use Rattle.o2_store.specs.Shelf.{stored_byte}
use Rattle.o2_store.proofs.Asking.{asked_first, asked_more}
use Rattle.o2_store.proofs.Bytes.{outside_step, read_step, block_step}
use Rattle.o2_store.proofs.blocks.read_in.Goals as goal

pub loop-k-preserved : goal.loop-k-preserved
loop-k-preserved g c =
    let i = c.loop-k.invariant in
    let list_k = get_or c.list.new.into c.loop-k.k 0 in
    let few : c.loop-k.k < length (blocks_of c.args.map.now c.args.key) = omega arith in
    let is_k : list_k ≡ get_or (blocks_of c.args.map.now c.args.key) c.loop-k.k 0 = c.list.ensures.blocks c.loop-k.k few in
    let ys = take c.min-n.result c.read_block.new.into in
    let n : c.min-n.result ≡ min (c.args.kept - 512 * c.loop-k.k) 512 = c.min-n.ensures in
    let l : length ys ≡ c.min-n.result = length-take-le c.min-n.result c.read_block.new.into (omega (arith, c.read_block.array_long)) in
    let w : c.args.at + c.args.kept ≤ length c.loop-k.phys = omega (arith, i.size_of_memory) in
    record {
      untouched = λ e. absurd (let z = ap length e in omega (arith, few, z));
      blocks = c.read_block.ensures.blocks ∙ i.blocks;
      told = λ t. i.told (c.read_block.ensures.earlier t);
      faults = omega (arith, i.faults, c.read_block.ensures.cause.later);
      asked = asked_more _ _ (blocks_of c.args.map.now c.args.key) _ _ _ c.loop-k.k list_k few is_k i.knows i.asked c.read_block.ensures.asked;
      knows = λ b. c.read_block.ensures.knows b ∙ i.knows b;
      size_of_buffer = c.read_block.array_long;
      size_of_memory = rw c.write.ensures.written (length-with_part c.loop-k.phys ys (c.args.at + 512 * c.loop-k.k) (omega arith) ∙ i.size_of_memory);
      same = λ t b. c.read_block.ensures.same t b ∙ i.same (c.read_block.ensures.earlier t) b;
      outside = rw c.write.ensures.written (outside_step c.args.phys.now c.loop-k.phys ys c.args.at c.args.kept (512 * c.loop-k.k) (omega arith) w i.outside);
      read = rw c.write.ensures.written (λ t. read_step c.loop-k.phys ys (stored_byte c.args.map.now (g.S.SwapDevice.block c.args.swap.now) c.args.key) c.args.at c.args.kept c.loop-k.k c.min-n.result n (omega arith) l w (i.read (c.read_block.ensures.earlier t))
          (block_step c.read_block.new.into (g.S.SwapDevice.block c.args.swap.now) c.args.map.now c.args.key c.loop-k.k c.min-n.result list_k (omega arith) (c.read_block.ensures.read t c.in_default.is ∙ i.same (c.read_block.ensures.earlier t) list_k) is_k));
    }

-- a read that fails has been asked for too
pub returns-in-Failed-clause-asks : goal.returns-in-Failed-clause-asks
returns-in-Failed-clause-asks g c =
    let i = c.loop-k.invariant in
    let list_k = get_or c.list.new.into c.loop-k.k 0 in
    let few : c.loop-k.k < length (blocks_of c.args.map.now c.args.key) = omega arith in
    let is_k : list_k ≡ get_or (blocks_of c.args.map.now c.args.key) c.loop-k.k 0 = c.list.ensures.blocks c.loop-k.k few in
    asked_first _ _ (blocks_of c.args.map.now c.args.key) _ _ (c.loop-k.k + 1) (λ b. c.read_block.ensures.knows b ∙ i.knows b) (λ e. absurd cc)
    (asked_more _ _ (blocks_of c.args.map.now c.args.key) _ _ _ c.loop-k.k list_k few is_k i.knows i.asked c.read_block.ensures.asked)

pub returns-clause-asks : goal.returns-clause-asks
returns-clause-asks g c =
    let i = c.loop-k.invariant in
    asked_first _ _ (blocks_of c.args.map.now c.args.key) _ _ c.loop-k.k i.knows (λ d. omega arith) i.asked
