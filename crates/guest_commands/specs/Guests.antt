-- The guest that a command is about.
use Rattle.std.specs.Prelude.{◌≡◌, ◌≤◌, ◌^◌, ℕ, Option, Some, IsSomeAnd}
use Rattle.guest_turns.specs.Hosted.{machine_at}
use Rattle.guest_turns.specs.Sources.{machine_of_source, IsBootableSource}
use Rattle.guest_turns.specs.TurnLists.{own_steps}
use Rattle.outside.specs.Files.{Files}
use Rattle.nesthv_top.specs.Plans.{Plan, machines_of, planned}
use Rattle.guest_commands.specs.declared.guest_words.GuestRequest.{GuestRequest}
use Rattle.guest_commands.specs.declared.lone_guests.LoneGuest.{LoneGuest}
use Rattle.guest_commands.specs.GuestWords.{guest_command}

-- it is the guest of this number of a plan, with the steps of its own turns
pub record IsGuestOf (plan : Plan) (guest : ℕ) (lone : LoneGuest) : Type 0 where
  pub machine : machine_of_source lone.source ≡ machine_at (machines_of plan) guest
  pub steps : lone.steps ≡ own_steps guest plan.turns

-- it can be run, and where the store tells its files, it is that of the plan that these say
pub record IsGuestFor (told : Option Files) (request : GuestRequest) (lone : LoneGuest) : Type 0 where
  pub source : IsBootableSource lone.source
  pub few : lone.steps ≤ 2 ^ 52
  pub plan : (files : Files) → told ≡ Some files
      → IsSomeAnd (planned files (guest_command request)) (λ plan. IsGuestOf plan request.guest lone)
