use Rattle.std.proofs.Common.{◌≡◌, Some, rules}
use Rattle.std.specs.List.{position}
use Rattle.guest_turns.proofs.Flags.{lowest_found, some_counted}
use Rattle.guest_turns.proofs.free_blocks.FreeBlocks.lowest.Goals as goal

pub returns-in-Some-clause-none : goal.returns-in-Some-clause-none
returns-in-Some-clause-none c =
    let found : position (λ flag. flag) c.args.self.now ≡ Some c.in-Some.block = search rules in
    (λ e. absurd cc, λ none. absurd (some_counted c.args.self.now c.in-Some.block (lowest_found c.args.self.now c.in-Some.block found).1 none))
