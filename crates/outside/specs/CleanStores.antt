use Rattle.std.specs.Prelude.{ℕ, List, true}
use Rattle.outside.specs.Files.{Files}
use Rattle.outside.specs.Named.{content_of}

-- the files as each store tells them; a name outside them reads as no bytes
abbrev pub clean_files_of : List (List ℕ × List ℕ) → Files
clean_files_of files = record { bytes_of = content_of files; absent_is_empty = true }
