-- What a table of a pool is to specs: its space, and the value of hgatp that this is for, if it is in use.
use Rattle.std.specs.Prelude.{Option}
use Rattle.arch_defs.specs.declared.roots.GuestRoot.{GuestRoot}
use Rattle.shadow_space.specs.Shadows.{Shadow}

pub record Slotted : Type 0 where
  pub key : Option GuestRoot
  pub space : Shadow
