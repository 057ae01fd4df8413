-- The addresses of one page have their places in one frame.
use Rattle.std.proofs.Common.{cond, ◌≡◌, ℕ, ◌+◌, ◌*◌, ◌/◌, ◌%◌, ◌^◌, ◌<◌, ◌∙◌, Bool, true, false, List, Some, None, refl, ap, arith}
use Rattle.std.specs.Prelude.{nat_le, nat_lt, ◌&&◌, not, length}
use Rattle.std.proofs.lemmas.Bool.{le-leb, lt-ltb, ltb-true}
use Rattle.std.proofs.lemmas.Nat.{mod-pow-add}
use Rattle.arch_defs.specs.declared.modes.Access.{Access}
use Rattle.arch_defs.specs.declared.roots.GuestRoot.{GuestRoot}
use Rattle.arch_defs.specs.declared.roots.GuestRoot.TheVariants as guest
use Rattle.arch_defs.specs.declared.second_walks.SecondWalkEnd.TheVariants.{GuestPageFault, AccessFault}
use Rattle.arch_defs.specs.declared.second_walks.SecondWalkEnd.TheVariants as walk_end
use Rattle.arch_defs.specs.declared.walks.LeafPte.{LeafPte}
use Rattle.arch_defs.specs.declared.walks.Shape.{Shape}
use Rattle.arch_defs.specs.declared.walks.WalkEnd.{WalkEnd}
use Rattle.arch_defs.specs.declared.walks.WalkEnd.TheVariants.{Leaf, PageFault, FetchEnd}
use Rattle.arch_defs.specs.Devices.{is_on_device}
use Rattle.arch_defs.specs.Memory.{bare, machine_memory}
use Rattle.arch_defs.specs.Permits.{permits_second}
use Rattle.arch_defs.specs.Roots.{guest_shape}
use Rattle.arch_defs.specs.SecondStage.{guest_root_frame, has_frame_of, memory_words, place_under, second_end, second_under, second_walk, walked}
use Rattle.arch_defs.specs.TableEntries.{leaf_with}
use Rattle.arch_defs.specs.Walk.{leaf_address, walk}
use Rattle.arch_defs.proofs.SamePages.{frame_same, walks_same}

-- each keeps its offset under a leaf
remainder : (f p r n : ℕ) → n ≡ p * 4096 + r % 4096 → (4096 * f + n) % 4096 ≡ r % 4096
remainder f p r n is = omega arith

turned : (level : ℕ) → 12 + 9 * level ≡ 9 * level + 12
turned level = omega arith

offset_under : (leaf : LeafPte) (n : ℕ) → leaf_address leaf n % 4096 ≡ n % 4096
offset_under leaf n = rw (turned leaf.level) (remainder leaf.frame (n / 4096 % 2 ^ (9 * leaf.level)) n (n % 2 ^ (9 * leaf.level + 12)) (mod-pow-add n (9 * leaf.level) 12))

whole : (n q r : ℕ) → n / 4096 ≡ q → n % 4096 ≡ r → n ≡ 4096 * q + r
whole n q r quot rest = omega (arith, quot, rest)

under_near : (leaf : LeafPte) (a b : ℕ) → a / 4096 ≡ b / 4096 → leaf_address leaf a ≡ 4096 * (leaf_address leaf b / 4096) + a % 4096
under_near leaf a b same = whole (leaf_address leaf a) (leaf_address leaf b / 4096) (a % 4096) (frame_same leaf a b same) (offset_under leaf a)

pub same_some : (a b : ℕ) → Some a ≡ Some b → a ≡ b
same_some a b same = cc

bare_near : (near va address : ℕ) → near / 4096 ≡ va / 4096 → va ≡ address → near ≡ 4096 * (address / 4096) + near % 4096
bare_near near va address same is = omega (arith, same, is)

-- the second stage
end_near : (memory : List ℕ) (mxr : Bool) (kind : Access) (near address place : ℕ) (end : WalkEnd) → near / 4096 ≡ address / 4096
    → place_under address (second_end (machine_memory memory) mxr address kind end) ≡ Some place → place_under near (second_end (machine_memory memory) mxr near kind end) ≡ Some (4096 * (place / 4096) + near % 4096)
end_near memory mxr kind near address place (Leaf frame level r w x u) same is =
    rw (frame_same leaf near address same) (by (not (permits_second mxr kind leaf)) (has_frame_of (machine_memory memory) (leaf_address leaf address)) (is_on_device (leaf_address leaf address)) is)
  where
    leaf : LeafPte
    leaf = leaf_with frame level r w x u

    by : (denied inside device : Bool) → place_under address (cond denied GuestPageFault (cond inside (walk_end.Leaf leaf) (cond device (walk_end.Device leaf) AccessFault))) ≡ Some place
        → place_under near (cond denied GuestPageFault (cond inside (walk_end.Leaf leaf) (cond device (walk_end.Device leaf) AccessFault))) ≡ Some (4096 * (place / 4096) + near % 4096)
    by true inside device is = absurd cc
    by false true device is = ap Some (under_near leaf near address same ∙ ap (λ n. 4096 * (n / 4096) + near % 4096) (same_some (leaf_address leaf address) place is))
    by false false true is = absurd cc
    by false false false is = absurd cc
end_near memory mxr kind near address place PageFault same is = absurd cc
end_near memory mxr kind near address place (FetchEnd at trap) same is = absurd cc

bare_inside : (near address size : ℕ) → size % 4096 ≡ 0 → near / 4096 ≡ address / 4096 → address < size → near < size
bare_inside near address size is same less = omega (arith, is, same, less)

near_bare : (memory : List ℕ) (near address place : ℕ) (kind : Access) → length memory % 4096 ≡ 0 → near / 4096 ≡ address / 4096
    → bare (machine_memory memory) address kind ≡ Some place → bare (machine_memory memory) near kind ≡ Some (4096 * (place / 4096) + near % 4096)
near_bare memory near address place kind size same is =
    let whole : (0 + length memory) % 4096 ≡ 0 = omega (arith, size) in
    by (nat_le 0 address) (nat_lt address (0 + length memory)) (nat_le 0 near) (nat_lt near (0 + length memory))
    (le-leb 0 near (omega arith)) (λ inside. lt-ltb near (0 + length memory) (bare_inside near address (0 + length memory) whole same (ltb-true address (0 + length memory) inside))) is
  where
    by : (from to near_from near_to : Bool) → near_from ≡ true → (to ≡ true → near_to ≡ true) → cond (from && to) (Some address) None ≡ Some place
        → cond (near_from && near_to) (Some near) None ≡ Some (4096 * (place / 4096) + near % 4096)
    by true true near_from near_to begins ends is = rw (begins, ends refl) (ap Some (bare_near near address place same (same_some address place is)))
    by true false near_from near_to begins ends is = absurd cc
    by false to near_from near_to begins ends is = absurd cc

walked_near : (memory : List ℕ) (mxr : Bool) (shape : Shape) (ppn near address place : ℕ) (kind : Access) → near / 4096 ≡ address / 4096
    → walked (machine_memory memory) mxr shape ppn address kind ≡ Some place → walked (machine_memory memory) mxr shape ppn near kind ≡ Some (4096 * (place / 4096) + near % 4096)
unfolding second_walk
walked_near memory mxr shape ppn near address place kind same is =
    rw (walks_same (memory_words (machine_memory memory)) shape (guest_root_frame ppn) kind near address same)
    (end_near memory mxr kind near address place (walk (memory_words (machine_memory memory)) (guest_root_frame ppn) shape address kind) same is)

pub second_near : (memory : List ℕ) (mxr : Bool) (root : GuestRoot) (near address place : ℕ) (kind : Access) → length memory % 4096 ≡ 0 → near / 4096 ≡ address / 4096
    → second_under (machine_memory memory) mxr root address kind ≡ Some place → second_under (machine_memory memory) mxr root near kind ≡ Some (4096 * (place / 4096) + near % 4096)
second_near memory mxr guest.Bare near address place kind size same is = near_bare memory near address place kind size same is
second_near memory mxr (guest.Table mode vmid ppn) near address place kind size same is = walked_near memory mxr (guest_shape mode) ppn near address place kind same is
