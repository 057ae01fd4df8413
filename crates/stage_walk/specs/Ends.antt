-- The numbers in an entry's parts, and in a walk's end.
use Rattle.std.specs.Prelude.{ℕ, ◌≡◌, ◌%◌, ◌^◌, ◌<◌}
use Rattle.arch_defs.specs.declared.walks.Pte.{Pte}
use Rattle.arch_defs.specs.declared.walks.LeafPte.{LeafPte}
use Rattle.arch_defs.specs.declared.walks.WalkEnd.{WalkEnd}
use Rattle.arch_defs.specs.declared.walks.WalkEnd.TheVariants.{Leaf, PageFault, FetchEnd}
use Rattle.arch_defs.specs.declared.walks.Next.{Next}
use Rattle.arch_defs.specs.declared.walks.Next.TheVariants.{Ends, Below}
use Rattle.arch_defs.specs.TableEntries.{leaf_with, span}

-- an entry has 44 bits for the physical page number, and 10 reserved bits (Privileged Architecture 20211203,
-- 4.4.1)
pub record PteFits (e : Pte) : Type 0 where
  pub frame : e.frame < 2 ^ 44
  pub reserved : e.reserved < 2 ^ 10

-- a leaf's frame is a physical page number and the first of its page, and its level is one of that many
pub record LeafFits (levels : ℕ) (leaf : LeafPte) : Type 0 where
  pub frame : leaf.frame < 2 ^ 44
  pub level : leaf.level < levels
  pub aligned : leaf.frame % span leaf.level ≡ 0

-- and the place of an entry that could not be read is a multiple of its size
abbrev pub EndFits : ℕ → WalkEnd → Type 0
EndFits levels (Leaf frame level r w x u) = LeafFits levels (leaf_with frame level r w x u)
EndFits levels PageFault = Unit {0}
EndFits levels (FetchEnd place trap) = place % 8 ≡ 0

abbrev pub NextFits : ℕ → Next → Type 0
NextFits levels (Ends end) = EndFits levels end
NextFits levels (Below frame) = frame < 2 ^ 44
