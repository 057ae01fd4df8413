-- The words of a log as those of a save.
use Rattle.std.proofs.Common.{◌≡◌, refl, ℕ, List, None}
use Rattle.command_line.specs.Commands.{command_of}
use Rattle.trace_top.specs.Tracing.{asked_in, trace_command}

pub unasked : (words : List (List ℕ)) → asked_in words ≡ None → trace_command words ≡ None
unfolding command_of
unasked words none = rw (none) refl
