-- The limits of guests (own).
use Rattle.std.specs.Prelude.{ℕ}

-- how many guests a host has at most
abbrev pub most_guests : ℕ
most_guests = 16

-- the blocks of RAM of a guest
abbrev pub most_blocks : ℕ
most_blocks = 32

-- its cached spaces, and the entries of each
abbrev pub most_spaces : ℕ
most_spaces = 8

abbrev pub least_entries : ℕ
least_entries = 16

abbrev pub most_entries : ℕ
most_entries = 256

-- the bytes that its console keeps, and its inputs
abbrev pub most_console : ℕ
most_console = 1048576

abbrev pub most_inputs : ℕ
most_inputs = 65536
