-- What a `Config` keeps.
use Rattle.run_config.specs.Configurations.{Configuration}
use Rattle.run_config.specs.declared.configuration.Config.TheInside.{Inside}

abbrev pub kept : Inside → Configuration
kept c = record { guests = c.guests.items; turns = c.turns; spare = c.spare }
