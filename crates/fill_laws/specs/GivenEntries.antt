-- What a table under a value of hgatp can give to be cached.
use Rattle.std.specs.Prelude.{ℕ, ◌<◌, ◌^◌}
use Rattle.arch_defs.specs.declared.cached.Entry.{Entry}
use Rattle.arch_defs.specs.declared.roots.GuestMode.{GuestMode}
use Rattle.arch_defs.specs.declared.roots.GuestMode.TheVariants as guest_mode
use Rattle.arch_defs.specs.declared.roots.GuestRoot.{GuestRoot}
use Rattle.arch_defs.specs.declared.roots.GuestRoot.TheVariants as guest_root
use Rattle.arch_defs.specs.Roots.{guest_shape}
use Rattle.arch_defs.specs.Walk.{levels}

-- the bits of a guest physical page by MODE: an address has 41 bits under Sv39x4 and 50 under Sv48x4, without
-- the 12 of an offset (8.5.1)
abbrev pub page_bits : GuestMode → ℕ
page_bits guest_mode.Sv39x4 = 29
page_bits guest_mode.Sv48x4 = 38

-- an entry is one that a table of this value can give: its MODE translates the page and has the level
abbrev pub IsOfTable : GuestRoot → Entry → Type 0
IsOfTable guest_root.Bare e = ⊥
IsOfTable (guest_root.Table mode vmid ppn) e =
    (e.page < 2 ^ page_bits mode) × (e.level < levels (guest_shape mode))
