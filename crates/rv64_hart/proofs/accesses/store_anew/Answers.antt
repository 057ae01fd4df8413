use Rattle.std.proofs.Common.{rules}
use Rattle.op_defs.specs.declared.ops.Purpose.TheVariants.{Store}
use Rattle.rv64_hart.proofs.Kept.{serves_after}
use Rattle.rv64_hart.proofs.accesses.store_anew.Goals as goal

pub returns-in-Some-clause-left : goal.returns-in-Some-clause-left
returns-in-Some-clause-left c =
    record {
      stays = tt;
      serves = serves_after c.open.new.self c.access_place.new.state c.store.new.state c.args.memory.now c.store.new.mem c.args.width (Store c.args.value) c.in-Some.place
          (c.open.ensures.serves c.access_place.new.state.virt.first c.access_place.new.state.tag c.access_place.new.state.virt.csrs c.access_place.new.state.virt.mode c.args.memory.now c.access_place.ensures.serves)
          c.open.ensures.apart c.in-Some.ensures.fits c.store.ensures.state c.store.ensures.memory.bytes;
      plain = search rules;
    }
