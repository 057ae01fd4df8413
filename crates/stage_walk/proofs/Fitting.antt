-- The numbers in a walk's end.
use Rattle.std.proofs.Common.{ℕ, ◌≤◌, arith}
use Rattle.arch_defs.specs.declared.walks.WalkEnd.{WalkEnd}
use Rattle.arch_defs.specs.declared.walks.WalkEnd.TheVariants.{Leaf, PageFault, FetchEnd}
use Rattle.stage_walk.specs.Ends.{EndFits}

-- what fits some levels fits more
pub end_fits : (fewer more : ℕ) (end : WalkEnd) → EndFits fewer end → fewer ≤ more → EndFits more end
end_fits fewer more (Leaf frame level r w x u) fits less = record { frame = fits.frame; level = omega (arith, fits.level); aligned = fits.aligned }
end_fits fewer more PageFault fits less = tt
end_fits fewer more (FetchEnd place trap) fits less = fits
