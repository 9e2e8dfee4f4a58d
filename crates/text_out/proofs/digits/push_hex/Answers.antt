use Rattle.std.proofs.Common.{arith, rules, take, drop}
use Rattle.hex.specs.Hex.{encode_lower}
use Rattle.text_out.proofs.Hex.{part_on, all_parts, kept_on}
use Rattle.text_out.proofs.digits.push_hex.Goals as goal

pub parts-preserved : goal.parts-preserved
parts-preserved c =
    let kept = kept_on c.parts.output.items c.push_part.new.output.items c.args.output.now.items (encode_lower (take c.min-count.result (drop c.parts.from c.args.bytes.now))) c.len-before.result (search rules) c.parts.invariant.grown c.parts.invariant.kept in
    record {
      within = omega arith;
      so_far = part_on c.parts.output.items c.push_part.new.output.items c.args.output.now.items c.args.bytes.now c.parts.from c.min-count.result (search rules) c.parts.invariant.so_far;
      before = c.parts.invariant.before;
      grown = kept.0;
      kept = kept.1;
    }

pub returns-clause-ok : goal.returns-clause-ok
returns-clause-ok c = all_parts c.parts.output.items c.args.output.now.items c.args.bytes.now c.parts.from (omega arith) c.parts.invariant.so_far
