-- What is known of a try where a kind is asked for.
use Rattle.std.specs.Prelude.{◌||◌}
use Rattle.std.proofs.Common.{◌≡◌, refl, Bool, true, false}
use Rattle.log_lines.specs.declared.kinds.Kinds.{Kinds}
use Rattle.step_logs.specs.Tries.{If, needs_word}

by_steps : (steps calls fences : Bool) (P : Type 0) → fences ≡ true → If (steps || calls || fences) P → P
by_steps true calls fences P asked has = has
by_steps false true fences P asked has = has
by_steps false false true P asked has = has
by_steps false false false P asked has = absurd cc

pub fences_need : (kinds : Kinds) (P : Type 0) → kinds.fences ≡ true → If (needs_word kinds) P → P
fences_need kinds P asked has = by_steps kinds.steps kinds.calls kinds.fences P asked has
