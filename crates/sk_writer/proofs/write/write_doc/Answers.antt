use Rattle.std.proofs.Common.{arith}
use Rattle.sk_writer.proofs.Texts.{blocks_more}
use Rattle.sk_writer.proofs.write.write_doc.Goals as goal

pub loop-block-preserved : goal.loop-block-preserved
loop-block-preserved c =
    blocks_more c.write_lines.new.out.items c.loop-block.out.items c.write_block.new.out.items c.as_slice-block-items.result.now c.loop-block.block-index c.block-item.result
    (omega arith) c.block-item.is c.loop-block.invariant c.in_ok-write_block.ensures
