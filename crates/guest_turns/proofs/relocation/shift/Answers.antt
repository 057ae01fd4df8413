use Rattle.std.proofs.Common.{rules}
use Rattle.guest_turns.proofs.Shifting.{same_machine, then_hosted}
use Rattle.guest_turns.proofs.relocation.shift.Goals as goal

pub returns : goal.returns
returns c =
    let moved = c.move_block-part.ensures in
    record {
      shifted = record {
        hosted =
            then_hosted c.args.guest.now c.args.memory.now c.move_block-part.new.mem c.args.i c.args.to c.move_block-part.result c.move_block-part.new.pool c.requires.hosted
            moved.part c.names_each_once.ensures moved.held moved.ram moved.pool moved.spaces moved.tidy;
        part = moved.part;
        machine =
            same_machine c.args.guest.now c.args.memory.now c.move_block-part.new.mem c.args.i c.args.to c.move_block-part.result c.move_block-part.new.pool c.requires.hosted
            moved.part c.names_each_once.ensures moved.held moved.ram moved.pool moved.spaces moved.tidy;
        zeros = search rules;
        only = search rules;
      };
    }
