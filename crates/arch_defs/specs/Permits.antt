-- Whether a leaf permits an access (Privileged Architecture 20211203, 4.1.1, 4.3.1, 4.3.2 step 5, 8.3.1 and
-- 8.5.1).
use Rattle.std.specs.Prelude.{Bool, false, not, ◌&&◌, ◌||◌, if◌then◌else◌}
use Rattle.arch_defs.specs.declared.modes.Access.{Access}
use Rattle.arch_defs.specs.declared.modes.Access.TheVariants.{Fetch, Load, Store, ExecLoad, Implicit}
use Rattle.arch_defs.specs.declared.walks.LeafPte.{LeafPte}
use Rattle.arch_defs.specs.declared.walks.Privilege.{Privilege}

-- the right that each kind of access needs: with MXR a page that can be executed can be loaded from (4.1.1);
-- HLVX needs X in place of R, whatever MXR is (8.3.1); MXR has no part in implicit reads (own)
abbrev pub has_right : Bool → Access → LeafPte → Bool
has_right mxr Fetch leaf = leaf.x
has_right mxr Load leaf = leaf.r || (mxr && leaf.x)
has_right mxr Store leaf = leaf.w
has_right mxr ExecLoad leaf = leaf.x
has_right mxr Implicit leaf = leaf.r

-- supervisor mode never executes a page with U, and reads or writes one only with SUM (4.3.1)
abbrev pub may_touch_user_page : Bool → Access → Bool
may_touch_user_page sum Fetch = false
may_touch_user_page sum Load = sum
may_touch_user_page sum Store = sum
may_touch_user_page sum ExecLoad = sum
may_touch_user_page sum Implicit = sum

-- user mode needs U (4.3.1)
abbrev pub is_open_to : Privilege → Access → LeafPte → Bool
is_open_to privilege access leaf =
    if leaf.u then privilege.user || may_touch_user_page privilege.sum access else not privilege.user

-- the first stage
unfoldable pub permits_first : Privilege → Access → LeafPte → Bool
permits_first privilege access leaf = is_open_to privilege access leaf && has_right privilege.mxr access leaf

-- the second stage: every access is as if from user mode, so each leaf needs U (8.5.1)
unfoldable pub permits_second : Bool → Access → LeafPte → Bool
permits_second mxr access leaf = leaf.u && has_right mxr access leaf
