-- What a saved machine needs of machine memory.
use Rattle.guest_save.specs.Headers.{blocks_of}
use Rattle.guest_settings.specs.declared.needs.Need.{Need}
use Rattle.machine_defs.specs.Machine.{Machine}

-- its RAM in blocks, and tables for as many spaces, and entries in each, as it has room for
abbrev pub machine_need : Machine → Need
machine_need m = record { blocks = blocks_of m; spaces = m.space_room; entries = m.entry_room }
