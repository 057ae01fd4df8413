-- The command that a request stands for.
use Rattle.std.specs.Prelude.{ℕ, ◌<◌, ◌≤◌, ◌^◌, ⊤}
use Rattle.command_line.specs.declared.commands.FileRequest.{FileRequest}
use Rattle.command_line.specs.declared.commands.FileRequest.TheVariants as file_request
use Rattle.command_line.specs.declared.commands.Request.{Request}
use Rattle.command_line.specs.declared.commands.Request.TheVariants as request
use Rattle.command_line.specs.Commands.{Command, FileCommand, OnFiles, Run, Replay, Check, Save, Work}

abbrev pub file_command_seen : FileRequest → FileCommand
file_command_seen (file_request.Run config) = Run config.now
file_command_seen (file_request.Replay config report) = Replay config.now report.now
file_command_seen (file_request.Check config) = Check config.now
file_command_seen (file_request.Save config guest) = Save config.now guest

abbrev pub command_seen : Request → Command
command_seen (request.OnFiles command) = OnFiles (file_command_seen command)
command_seen (request.Work seed size) = Work seed size

-- a seed and a size of which guests can be generated
pub record IsWork (seed size : ℕ) : Type 0 where
  pub seed_most : seed < 2 ^ 31
  pub size_some : 1 ≤ size
  pub size_most : size ≤ 10000

abbrev pub IsRequest : Request → Type 0
IsRequest (request.OnFiles command) = ⊤
IsRequest (request.Work seed size) = IsWork seed size
