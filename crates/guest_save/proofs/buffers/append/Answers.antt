use Rattle.std.proofs.Common.{◌≡◌, ℕ, List, ◌++◌, ap, ◌∙◌, rules}
use Rattle.guest_save.proofs.Buffering.{kept_after}
use Rattle.guest_save.proofs.buffers.append.Goals as goal

pub returns : goal.returns
returns g c =
    let added : c.try_extend_from_slice-2.new.self.items ≡ c.flush.new.held.items ++ c.args.piece.now = search rules in
    kept_after g.O.Sink tt c.args.out.now c.flush.new.out c.args.held.now.items c.try_extend_from_slice-2.new.self.items c.args.piece.now c.in_ok-flush.ensures.put
    (added ∙ ap (λ (xs : List ℕ). xs ++ c.args.piece.now) c.in_ok-flush.ensures.left)
