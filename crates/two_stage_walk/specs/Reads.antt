-- Where the entries lie that the second stage reads (own).
use Rattle.std.specs.Prelude.{ℕ}
use Rattle.arch_defs.specs.declared.modes.Access.{Access}
use Rattle.arch_defs.specs.declared.roots.GuestRoot.{GuestRoot}
use Rattle.arch_defs.specs.declared.roots.GuestRoot.TheVariants as guest
use Rattle.arch_defs.specs.Frames.{Frames}
use Rattle.arch_defs.specs.Memory.{Memory}
use Rattle.arch_defs.specs.Roots.{guest_shape}
use Rattle.arch_defs.specs.SecondStage.{guest_root_frame, memory_words}
use Rattle.arch_defs.specs.Walk.{path}
use Rattle.stage_walk.specs.Reads.{Each, LiesIn}

-- the entries that the second stage reads for an address lie in these frames
abbrev pub SecondReads : Frames → Memory → ℕ → Access → GuestRoot → Type 0
SecondReads frames memory address kind guest.Bare = Unit {0}
SecondReads frames memory address kind (guest.Table mode vmid ppn) =
    Each (LiesIn frames)
    (path (memory_words memory) (guest_root_frame ppn) (guest_shape mode) address kind)
