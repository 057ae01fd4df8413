use Rattle.guest_save.proofs.Buffering.{put_at_once}
use Rattle.guest_save.proofs.buffers.append_whole.Goals as goal

pub returns : goal.returns
returns g c =
    let put = c.put.ensures in
    put_at_once g.O.Sink tt c.put.result c.args.out.now c.flush.new.out c.put.new.self c.args.held.now.items c.flush.new.held.items c.args.piece.now c.in_ok-flush.ensures.put
    (record { bytes = put.bytes; cause = put.cause; count = put.count; stays = put.stays }) c.in_ok-flush.ensures.left
