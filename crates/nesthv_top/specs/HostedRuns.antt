-- What a host has done when it has run a plan.
use Rattle.std.specs.Prelude.{◌≡◌, ℕ, ◌+◌, ◌^◌, ◌<◌, ◌≤◌, false, List, length, Option, IfSome, Result, OnErr, OnOk}
use Rattle.std.specs.List.{All}
use Rattle.arch_defs.specs.Frames.{most_frames}
use Rattle.guest_turns.specs.Hosted.{Hosted, is_set}
use Rattle.guest_turns.specs.Sources.{AreBootableSources, needs_of_sources}
use Rattle.guest_turns.specs.TurnLists.{with_turns}
use Rattle.run_config.specs.Configurations.{IsTurnWithin}
use Rattle.rv64_hart.specs.Counts.{Counts}
use Rattle.nesthv_top.specs.Moving.{retires, retires_by, shares_of, with_moves, HasMovedBy}
use Rattle.nesthv_top.specs.Plans.{Plan, machines_of, plan_frames}
use Rattle.nesthv_top.specs.Runnings.{hosted_as, moves_for, CountsTurns}

-- a plan can be run: its guests can be booted beside its spare blocks, its turns are few and theirs, and the
-- guest that is kept is one of them
pub record CanRun (plan : Plan) (kept : Option ℕ) : Type 0 where
  pub sources : AreBootableSources plan.sources
  pub spare : plan.spare ≤ 32
  pub frames : plan_frames plan ≤ most_frames
  pub few : length plan.turns ≤ 2 ^ 20
  pub short : All (IsTurnWithin (length plan.sources)) plan.turns
  pub there : IfSome kept (λ g. g < length plan.sources)

-- a host has made these turns, after each of which a block has moved: each machine is as its turns leave it,
-- who has retired, and who has what of machine memory
pub record HasMadeTurns (kept : Option ℕ) (turns : List (ℕ × ℕ)) (old new : Hosted) : Type 0 where
  pub machines : new.machines ≡ hosted_as new.retired (with_turns turns old.machines)
  pub there : IfSome kept (λ g. is_set new.retired g ≡ false)
  pub retired : (g : ℕ) → g < length old.machines → is_set new.retired g ≡ retires kept turns g
  pub shares : shares_of new ≡ with_moves kept 0 turns (shares_of old)

-- a plan has been run: each machine is as its turns leave it, who has retired, and who has what of machine
-- memory
pub record HasRunPlan (plan : Plan) (kept : Option ℕ) (host : Hosted) : Type 0 where
  pub machines : host.machines ≡ hosted_as host.retired (with_turns plan.turns (machines_of plan))
  pub active : plan.spare ≡ 0 → (g : ℕ) → is_set host.retired g ≡ false
  pub retired : (g : ℕ) → g < length plan.sources
      → is_set host.retired g ≡ retires_by plan.spare kept plan.turns g
  pub shares : HasMovedBy (needs_of_sources plan.sources) plan.spare kept plan.turns host
  pub there : IfSome kept (λ g. is_set host.retired g ≡ false)

-- the account and the moves of its turns; where memory ran out, nothing was run
pub record HasCounted {A E : Type 0} (plan : Plan) (result : Result A E) (old new : Counts) (moves moves' : ℕ)
    : Type 0 where
  pub account : OnOk result (CountsTurns plan old new)
  pub moved : OnOk result (moves' ≡ moves + moves_for plan)
  pub idle : OnErr result ((new ≡ old) × (moves' ≡ moves))
