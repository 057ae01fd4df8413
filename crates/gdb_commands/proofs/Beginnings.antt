-- A command by its first letter.
use Rattle.std.proofs.Common.{arith, ◌≡◌, ℕ, ◌<◌, ◌≤◌, List, [], ◌∷◌, length, drop, slice_index, refl, not, ◌==◌}
use Rattle.std.proofs.lemmas.List.Sums.{prefix_len-le-length}
use Rattle.gdb_commands.specs.declared.commands.Command.TheVariants as command
use Rattle.gdb_commands.specs.Commands.{comma_place, command_in, lettered}

pub comma_within : (bytes : List ℕ) → comma_place bytes ≤ length bytes
comma_within bytes = prefix_len-le-length (λ b. not (b == 0x2C)) bytes

pub command_none : (payload : List ℕ) → length payload ≡ 0 → command_in payload ≡ command.Unknown
unfolding command_in
command_none [] none = refl
command_none (b ∷ rest) none = absurd (omega (arith, none))

pub command_some : (payload : List ℕ) → 0 < length payload → command_in payload ≡ lettered (slice_index payload 0) (drop 1 payload)
unfolding command_in
command_some [] some = absurd (omega (arith, some))
command_some (b ∷ rest) some = refl

pub ruleset commands = (command_none, command_some)
