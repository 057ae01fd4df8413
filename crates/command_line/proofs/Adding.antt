-- The program's commands, one added after the other.
use Rattle.std.proofs.Common.{◌≡◌, ◌∙◌, ap, subst, Result}
use Rattle.std.specs.Prelude.{IfOk}
use Rattle.clap.specs.Words.{App, Shape, app_of, with_subcommand}
use Rattle.clap.specs.declared.builder.command.Command.{Command}

-- a command that is added to a known program
pub known : (a a' : App) (s s' : Shape) → a ≡ a' → s ≡ s' → with_subcommand a s ≡ with_subcommand a' s'
known a a' s s' above added = ap (λ (x : App). with_subcommand x s) above ∙ ap (λ (x : Shape). with_subcommand a' x) added

-- the same where memory may have been short
pub known_if : {E : Type 0} (result : Result Command E) (a a' : App) (s s' : Shape) → a ≡ a' → s ≡ s'
    → IfOk result (λ c. app_of c ≡ with_subcommand a s) → IfOk result (λ c. app_of c ≡ with_subcommand a' s')
known_if result a a' s s' above added is =
    subst (λ (x : App). IfOk result (λ c. app_of c ≡ x)) (known a a' s s' above added) is
