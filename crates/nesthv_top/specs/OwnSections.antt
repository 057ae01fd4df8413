-- What a guest's section is made of: what the guest is given, and the sum of its own turns.
use Rattle.std.specs.Prelude.{◌≡◌, ℕ, ◌<◌, List, [], Ok, Some, get_or, length}
use Rattle.std.specs.List.{flat_map, range_with_len}
use Rattle.command_line.specs.Commands.{FileCommand}
use Rattle.guest_turns.specs.TurnLists.{own_steps}
use Rattle.machine_defs.specs.Report.{section_of}
use Rattle.outside.specs.Files.{Files}
use Rattle.run_config.specs.declared.guests.GuestSettings.{GuestSettings}
use Rattle.run_config.specs.declared.guests.Origin.{Origin}
use Rattle.run_config.specs.declared.guests.Origin.TheVariants.{Fresh, Saved}
use Rattle.run_config.specs.Accept.{accept}
use Rattle.run_config.specs.Configurations.{Configuration}
use Rattle.nesthv_top.specs.Contents.{config_of, image_of, records_in, resumed_of}
use Rattle.nesthv_top.specs.Plans.{Plan, machine_after, plan_names, planned, report_of}

-- the section of the guest of this number: its name, and its lone machine after the steps of its own turns
abbrev pub section_in : Plan → ℕ → List ℕ
section_in plan g = section_of (get_or (plan_names plan) g []) (machine_after plan g)

-- the report is the sections of all guests, in their order
abbrev pub ReportIsSections : Type 0
ReportIsSections = (plan : Plan)
    → report_of plan ≡ flat_map (section_in plan) (range_with_len 0 (length plan.sources))

-- the settings of the guest of this number, and those of one that there is not
abbrev pub no_settings : GuestSettings
no_settings = record { name = []; weight = 0; origin = Saved [] }

abbrev pub settings_at : Configuration → ℕ → GuestSettings
settings_at c g = get_or c.guests g no_settings

-- a command on a store has this plan, by this configuration, which is accepted
pub record IsPlanOf (files : Files) (command : FileCommand) (c : Configuration) (plan : Plan) : Type 0 where
  pub accepted : accept (config_of files command) ≡ Ok c
  pub planned : planned files command ≡ Some plan

-- the same is read of the files that a guest begins with
abbrev pub IsReadAlike : Files → Files → Origin → Type 0
IsReadAlike files files' (Fresh guest) = (image_of files guest ≡ image_of files' guest)
    × (records_in files guest.input ≡ records_in files' guest.input)
IsReadAlike files files' (Saved name) = resumed_of files name ≡ resumed_of files' name

-- two configurations, each on a store of its own, give a guest the same: its name and its settings, what is
-- read of the files that these name, and the sum of the steps of its own turns. Nothing is said of its number
-- and its weight, nor of the other guests: how many there are, what they are given, and what they do
pub record IsGivenTheSame (files files' : Files) (c c' : Configuration) (g g' : ℕ) : Type 0 where
  pub inside : g < length c.guests
  pub inside' : g' < length c'.guests
  pub name : (settings_at c g).name ≡ (settings_at c' g').name
  pub origin : (settings_at c g).origin ≡ (settings_at c' g').origin
  pub read : IsReadAlike files files' (settings_at c g).origin
  pub steps : own_steps g c.turns ≡ own_steps g' c'.turns

-- the guests of two plans end alike: with the same machine, and so with the same form, and the same section
pub record EndsAlike (plan plan' : Plan) (g g' : ℕ) : Type 0 where
  pub machine : machine_after plan g ≡ machine_after plan' g'
  pub section : section_in plan g ≡ section_in plan' g'

-- a guest's section is its own: what two configurations give the same ends alike, whatever the other guests
-- are, do or hold
abbrev pub SectionsAreOwn : Type 0
SectionsAreOwn = (files files' : Files) (command command' : FileCommand) (c c' : Configuration)
    (plan plan' : Plan) (g g' : ℕ)
    → IsPlanOf files command c plan → IsPlanOf files' command' c' plan'
    → IsGivenTheSame files files' c c' g g' → EndsAlike plan plan' g g'
