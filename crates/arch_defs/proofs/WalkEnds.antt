-- The leaf at which a walk ends.
use Rattle.std.specs.Prelude.{◌≡◌}
use Rattle.std.proofs.Common.{ap}
use Rattle.arch_defs.specs.declared.walks.LeafPte.{LeafPte}
use Rattle.arch_defs.specs.declared.walks.Next.{Next}
use Rattle.arch_defs.specs.declared.walks.Next.TheVariants.{Ends, Below}
use Rattle.arch_defs.specs.declared.walks.WalkEnd.TheVariants.{Leaf, PageFault, FetchEnd}
use Rattle.arch_defs.specs.TableEntries.{end_at_leaf, leaf_with}

leaf_ended : LeafPte → Next → LeafPte
leaf_ended other (Ends (Leaf frame level r w x u)) = leaf_with frame level r w x u
leaf_ended other (Ends PageFault) = other
leaf_ended other (Ends (FetchEnd place trap)) = other
leaf_ended other (Below table) = other

-- is told by the end
pub same_leaf : (one leaf : LeafPte) → Ends (end_at_leaf one) ≡ Ends (end_at_leaf leaf) → one ≡ leaf
unfolding leaf_ended
same_leaf one leaf same = ap (leaf_ended leaf) same
