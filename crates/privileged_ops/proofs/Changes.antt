-- An instruction that changes a register, by what its number names to a write: to a read it names the same.
use Rattle.std.specs.Prelude.{nat_le, if◌then◌else◌}
use Rattle.std.proofs.Common.{◌≡◌, ℕ, Bool, true, false, None, Ok, Err, refl}
use Rattle.arch_defs.specs.declared.csr_names.CsrEnd.{CsrEnd}
use Rattle.arch_defs.specs.declared.csr_names.CsrEnd.TheVariants.{Illegal}
use Rattle.arch_defs.specs.declared.csr_names.Register.{Register}
use Rattle.arch_defs.specs.declared.modes.Mode.{Mode}
use Rattle.arch_defs.specs.declared.registers.Csrs.{Csrs}
use Rattle.arch_defs.specs.declared.registers.Virtual.{Virtual}
use Rattle.arch_defs.specs.CsrAccess.{named, named_to_write, read_csr, shown, value_of, write_csr, written}
use Rattle.op_defs.specs.declared.ops.CsrOp.{CsrOp}
use Rattle.machine_defs.specs.declared.events.Event.TheVariants.{System}
use Rattle.machine_defs.specs.Outcomes.{Done}
use Rattle.machine_defs.specs.Privileges.{csr_accessed, refused}
use Rattle.privileged_ops.specs.PrivilegedEnds.{with_register}

read_so : (csrs : Csrs) (mode : Mode) (number : ℕ) (r : Register) → named_to_write csrs mode number ≡ Ok r → read_csr csrs mode number ≡ Ok (shown csrs r)
unfolding named_to_write read_csr
read_so csrs mode number r is = by (nat_le 0xC00 number) is
  where
    by : (past : Bool) → (if past then Err Illegal else named csrs mode number) ≡ Ok r → value_of csrs (named csrs mode number) ≡ Ok (shown csrs r)
    by true is = absurd (cc)
    by false is = rw is refl

written_so : (csrs : Csrs) (mode : Mode) (number value : ℕ) (r : Register) → named_to_write csrs mode number ≡ Ok r → write_csr csrs mode number value ≡ Ok (written csrs r value)
unfolding write_csr
written_so csrs mode number value r is = rw is refl

refused_so : (csrs : Csrs) (mode : Mode) (number value : ℕ) (end : CsrEnd) → named_to_write csrs mode number ≡ Err end → write_csr csrs mode number value ≡ Err end
unfolding write_csr
refused_so csrs mode number value end is = rw is refl

pub accessed : (s : Virtual) (word : ℕ) (op : CsrOp) (number operand rd : ℕ) (r : Register) → named_to_write s.csrs s.mode number ≡ Ok r
    → csr_accessed s word op number operand true rd ≡ Done (with_register s op r operand rd) None System
accessed s word op number operand rd r is =
    rw (read_so s.csrs s.mode number r is, written_so s.csrs s.mode number _ r is) refl

pub refused_access : (s : Virtual) (word : ℕ) (op : CsrOp) (number operand rd : ℕ) (end : CsrEnd) → named_to_write s.csrs s.mode number ≡ Err end
    → csr_accessed s word op number operand true rd ≡ refused s word end
refused_access s word op number operand rd end is = rw (refused_so s.csrs s.mode number _ end is) refl
