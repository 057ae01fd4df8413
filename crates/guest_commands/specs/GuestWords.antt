-- Words that name a configuration and a guest, as those of a save do.
use Rattle.std.specs.Prelude.{ℕ, List, [], ◌∷◌, Option, codes}
use Rattle.command_line.specs.Commands.{Command, FileCommand, Save, command_of}
use Rattle.guest_commands.specs.declared.guest_words.GuestRequest.{GuestRequest}

-- the words after the program's name are a configuration and a guest's number, as those of a save are
abbrev pub saving_words : List (List ℕ) → List (List ℕ)
saving_words [] = []
saving_words (name ∷ words) = name ∷ codes "save" ∷ words

-- what the words of a save ask for
abbrev pub saving_command : List (List ℕ) → Option Command
saving_command words = command_of (saving_words words)

-- the save of a guest that is asked for
abbrev pub guest_command : GuestRequest → FileCommand
guest_command request = Save request.config.now request.guest
