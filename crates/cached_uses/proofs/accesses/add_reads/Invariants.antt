use Rattle.std.proofs.Common.{◌≡◌, ◌+◌, ◌≤◌, ◌++◌, take}
use Rattle.std.specs.List.{flat_map}
use Rattle.arrayvec.specs.ArrayVec.{array_vec_len}
use Rattle.arch_defs.specs.declared.modes.Access.TheVariants.{Implicit}
use Rattle.run_log.specs.Uses.{second_uses}
use Rattle.cached_uses.proofs.accesses.add_reads.Given as goal

abbrev pub invariant-loop-i : goal.invariant-loop-i
invariant-loop-i l = record {
  items : l.uses.items ≡ l.fn.uses.items ++ flat_map (λ place. second_uses l.virt l.entries place Implicit) (take l.i l.places);
  few : array_vec_len l.uses ≤ array_vec_len l.fn.uses + l.i;
}
