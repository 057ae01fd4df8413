-- The command of words with that of a save behind the program's name.
use Rattle.std.proofs.Common.{ℕ, Bool, true, false, List, [], ◌∷◌, Option, Some, None, option_map}
use Rattle.std.specs.Prelude.{⊤, codes, if◌then◌else◌}
use Rattle.std.specs.List.{list_all}
use Rattle.command_line.specs.Commands.{Command, OnFiles, Run, Replay, Check, Save, Work, asked_by, command_of, guest_number, is_plain}
use Rattle.guest_commands.specs.GuestWords.{saving_command}
use Rattle.nesthv_top.specs.Endings.{IsReplay}

-- if anything, it saves a guest
abbrev Saves : Option Command → Type 0
Saves (Some (OnFiles (Save config guest))) = ⊤
Saves (Some other) = ⊥
Saves None = ⊤

of_guest : (config : List ℕ) (guest : Option ℕ) → Saves (option_map (λ g. OnFiles (Save config g)) guest)
of_guest config (Some guest) = tt
of_guest config None = tt

by_words : (words : List (List ℕ)) → Saves (asked_by (codes "save" ∷ words))
by_words [] = tt
by_words (config ∷ []) = tt
by_words (config ∷ guest ∷ []) = of_guest config (guest_number guest)
by_words (config ∷ guest ∷ more ∷ words) = tt

if_plain : (plain : Bool) (words : List (List ℕ)) → Saves (if plain then asked_by (codes "save" ∷ words) else None)
if_plain true words = by_words words
if_plain false words = tt

by_all : (words : List (List ℕ)) → Saves (saving_command words)
unfolding command_of
by_all [] = tt
by_all (name ∷ words) = if_plain (list_all is_plain (codes "save" ∷ words)) words

-- no such words are a replay
not_saved : (command : Option Command) → Saves command → IsReplay command → ⊥
not_saved (Some (OnFiles (Run file))) saves is = saves
not_saved (Some (OnFiles (Replay file other))) saves is = saves
not_saved (Some (OnFiles (Check file))) saves is = saves
not_saved (Some (OnFiles (Save file guest))) saves (config, report, is) = cc
not_saved (Some (Work seed size)) saves is = saves
not_saved None saves (config, report, is) = cc

pub never_replayed : (words : List (List ℕ)) → IsReplay (saving_command words) → ⊥
never_replayed words is = not_saved (saving_command words) (by_all words) is
