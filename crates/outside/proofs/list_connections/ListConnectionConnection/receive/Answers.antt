use Rattle.std.proofs.Common.{arith, ◌∙◌, drop, ap, sym}
use Rattle.std.proofs.lemmas.Grind.{common_steps}
use Rattle.outside.specs.ListConnections.{ListState}
use Rattle.outside.proofs.Transfers.{came_front, made_came}
use Rattle.outside.proofs.list_connections.ListConnectionConnection.receive.Goals as goal

pub returns-clause-made : goal.returns-clause-made
returns-clause-made c =
    let out = ap (λ (held : ListState). held.out) c.self.view_is in
    let made = ap (λ (held : ListState). held.made) c.self.view_is in
    made_came c.args.self.now _ c.min-came.result _ (grind (arith, common_steps)) out
    (grind (arith, common_steps, out, made, c.push_reserved.ensures.items, c.bytes.ensures))

pub returns-clause-came : goal.returns-clause-came
returns-clause-came c =
    let coming = ap (λ (held : ListState). held.coming) c.self.view_is in
    let after = c.copy_from_slice.ensures.after in
    record {
      within = grind (arith, common_steps);
      came = sym coming ∙ came_front c.self.inside.coming.items c.copy_from_slice.new.self (drop c.min-came.result c.args.room.now) c.self.inside.place c.min-came.result
          (grind (arith, common_steps, after)) (grind (arith, common_steps));
      end = λ none. grind (arith, common_steps, coming, none);
    }
