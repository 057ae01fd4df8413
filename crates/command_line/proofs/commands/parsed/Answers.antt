use Rattle.std.proofs.Common.{rules, ◌≢◌, ◌∙◌, sym}
use Rattle.std.proofs.lemmas.List.{map-id}
use Rattle.clap.specs.Words.{kind_of}
use Rattle.clap.specs.declared.error.kind.ErrorKind.TheVariants.{OutOfMemory}
use Rattle.command_line.proofs.Words.{parse_gives, parse_refuses}
use Rattle.command_line.proofs.commands.parsed.Goals as goal

pub returns-in-Ok-clause-request : goal.returns-in-Ok-clause-request
returns-in-Ok-clause-request c = c.request_by.ensures.request
    ∙ parse_gives _ c.args.words.now _ _ c.in_ok-command_line.ensures (map-id c.args.words.now) c.requires.some c.requires.plain
    c.in-Ok.ensures.kinds c.in-Ok.ensures.matches

pub returns-clause-request : goal.returns-clause-request
returns-clause-request c =
    let other : kind_of c.in-Err.error ≢ OutOfMemory = search rules in
    sym (parse_refuses _ c.args.words.now _ _ c.in_ok-command_line.ensures (map-id c.args.words.now) c.requires.some c.requires.plain
    other c.in-Err.ensures.kinds)
