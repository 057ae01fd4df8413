-- The versions of a form: the first is of machines that have no device page, the first and the second of
-- those that have no first-stage translations cached; the third tells both (own).
use Rattle.std.specs.Prelude.{ℕ, ◌≡◌, ⊤, false, List, [], take, codes, bytes_eq, if◌then◌else◌}
use Rattle.guest_save.specs.declared.versions.Version.{Version}
use Rattle.guest_save.specs.declared.versions.Version.TheVariants.{First, Second, Third}
use Rattle.machine_defs.specs.Machine.{Machine}

-- the letters that a form begins with
abbrev pub version_letters : Version → List ℕ
version_letters First = codes "NESTHV01"
version_letters Second = codes "NESTHV02"
version_letters Third = codes "NESTHV03"

-- the version of bytes: the one with whose letters they begin, else the third
unfoldable pub version_in : List ℕ → Version
version_in bytes = let begin = take 8 bytes in
    if bytes_eq begin (version_letters First) then First
    else if bytes_eq begin (version_letters Second) then Second
    else Third

-- where the numbers behind the sizes and the device page begin, and where the header ends: behind the letters
-- and 72 or 73 numbers
abbrev pub later_begin : Version → ℕ
later_begin First = 40
later_begin Second = 48
later_begin Third = 48

abbrev pub header_end : Version → ℕ
header_end First = 584
header_end Second = 592
header_end Third = 592

-- a version tells all of a machine
abbrev pub CanTell : Version → Machine → Type 0
CanTell First m = (m.device ≡ false) × (m.platform.virt.first ≡ [])
CanTell Second m = m.platform.virt.first ≡ []
CanTell Third m = ⊤
