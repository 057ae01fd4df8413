-- Which exit a trap of the hart is.
use Rattle.std.specs.Prelude.{◌==◌, ◌&&◌, nat_lt, option_and_then}
use Rattle.std.proofs.Common.{◌≡◌, ℕ, ◌^◌, ◌<◌, Bool, true, false, List, Option, Some, refl, arith}
use Rattle.arch_defs.specs.declared.cached.Entry.{Entry}
use Rattle.arch_defs.specs.declared.first.FirstEntry.{FirstEntry}
use Rattle.arch_defs.specs.declared.modes.Trap.{Trap}
use Rattle.arch_defs.specs.declared.modes.TheConstants.{VIRTUAL_INSTRUCTION}
use Rattle.arch_defs.specs.declared.registers.Virtual.{Virtual}
use Rattle.arch_defs.specs.Traps.{is_virtual}
use Rattle.arch_defs.specs.WalkedEntries.{folds}
use Rattle.op_defs.specs.declared.ops.Op.{Op}
use Rattle.op_defs.specs.Table.{op_of}
use Rattle.machine_defs.specs.Fills.{missing_entry}
use Rattle.machine_defs.specs.Machine.{Machine, Tried}
use Rattle.hosted_steps.specs.ExitCases.{Exit, Instruction, IsLeft, decided_at, decided_in, entry_for_exit, exit_of, if_decided, instruction_exit, is_guest_page_code, missing_place_exit, other_exit, try_at}

-- a trap of none of the host's codes, by the guest's V
pub other_exit_is : (v : Virtual) (trap : Trap) → is_guest_page_code trap.cause ≡ false → (trap.cause == VIRTUAL_INSTRUCTION) ≡ false → exit_of v trap ≡ other_exit trap (is_virtual v.mode)
unfolding exit_of
other_exit_is v trap page code = rw (page, code) refl

-- one of code 22
pub instruction_exit_is : (v : Virtual) (trap : Trap) (o : Op) → is_guest_page_code trap.cause ≡ false → (trap.cause == VIRTUAL_INSTRUCTION) ≡ true
    → trap.tval < 2 ^ 32 → decided_in trap.tval ≡ Some o → exit_of v trap ≡ Instruction o
unfolding exit_of
instruction_exit_is v trap o page code small is =
    let word : nat_lt trap.tval (2 ^ 32) ≡ true = grind (arith, small) in rw (page, code, word, is) refl

pub word_exit_is : (v : Virtual) (trap : Trap) → trap.cause ≡ VIRTUAL_INSTRUCTION → exit_of v trap ≡ instruction_exit trap (decided_at trap.tval)
unfolding exit_of
word_exit_is v trap code = rw code refl

pub decided_by_op : (word : ℕ) (given : Option Op) → op_of word ≡ given → decided_in word ≡ option_and_then if_decided given
unfolding decided_in
decided_by_op word given is = rw is refl

-- a guest-page fault
pub page_exit_is : (v : Virtual) (trap : Trap) → is_guest_page_code trap.cause ≡ true → exit_of v trap ≡ missing_place_exit v trap (folds v)
unfolding exit_of
page_exit_is v trap page = rw page refl

-- where it is read so, the step that is left is so
pub left_as : (m : Machine) (found : List FirstEntry) (tried : Tried) (lacks : Option Entry) (trap : Trap) (left : Exit) → exit_of m.platform.virt trap ≡ left → tried ≡ try_at found m left
    → lacks ≡ entry_for_exit m left → IsLeft m found tried lacks (exit_of m.platform.virt trap)
left_as m found tried lacks trap left is step missing_entry = rw is (record { step = step; fills = missing_entry })

-- where an entry is filled, the access is not on the device page, and the walk of the guest's own table gives it
pub and_false : (b : Bool) → (b && false) ≡ false
and_false true = refl
and_false false = refl
