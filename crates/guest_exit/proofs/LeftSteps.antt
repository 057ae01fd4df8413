-- Which step a trap of the hart leaves.
use Rattle.std.specs.Prelude.{◌-◌, ◌^◌, ◌<◌, ◌==◌, nat_lt}
use Rattle.std.proofs.Common.{◌≡◌, Bool, true, false, refl, arith}
use Rattle.arch_defs.specs.declared.modes.Trap.{Trap}
use Rattle.arch_defs.specs.declared.modes.TheConstants.{VIRTUAL_INSTRUCTION}
use Rattle.arch_defs.specs.declared.registers.Virtual.{Virtual}
use Rattle.arch_defs.specs.Traps.{is_virtual}
use Rattle.arch_defs.specs.Walk.{guest_bits}
use Rattle.arch_defs.specs.WalkedEntries.{folds}
use Rattle.hosted_steps.specs.ExitCases.{exit_of, is_guest_page_code, missing_place_exit, other_exit}
use Rattle.hosted_steps.proofs.ExitCases.{other_exit_is, page_exit_is}
use Rattle.guest_exit.specs.LeftSteps.{IsLeftSo, missing_step, other_step}

-- a guest-page fault leaves an access without a place
pub page_left : (v : Virtual) (trap : Trap) → is_guest_page_code trap.cause ≡ true → IsLeftSo (missing_step trap.tval2) v trap
page_left v trap code = by (nat_lt trap.tval2 (2 ^ (guest_bits - 2))) refl (page_exit_is v trap code)
  where
    by : (near : Bool) → nat_lt trap.tval2 (2 ^ (guest_bits - 2)) ≡ near → exit_of v trap ≡ missing_place_exit v trap (folds v) → IsLeftSo (missing_step trap.tval2) v trap
    by true is exit = let small : trap.tval2 < 2 ^ (guest_bits - 2) = grind (arith, is) in rw is (small, rw is at exit)
    by false is exit = rw is (rw is at exit)

-- and another trap a call, or itself
pub other_left : (v : Virtual) (trap : Trap) → is_guest_page_code trap.cause ≡ false → (trap.cause == VIRTUAL_INSTRUCTION) ≡ false → IsLeftSo (other_step (is_virtual v.mode)) v trap
other_left v trap page code = by (is_virtual v.mode) (other_exit_is v trap page code)
  where
    by : (nested : Bool) → exit_of v trap ≡ other_exit trap nested → IsLeftSo (other_step nested) v trap
    by true exit = exit
    by false exit = exit
