-- The leaf of a walk, as the log shows it.
use Rattle.std.proofs.Common.{◌≡◌, ap, ◌∙◌, ℕ, Some, option_map}
use Rattle.arch_defs.specs.declared.first.Tag.{Tag}
use Rattle.arch_defs.specs.declared.modes.Access.{Access}
use Rattle.arch_defs.specs.declared.registers.Virtual.{Virtual}
use Rattle.arch_defs.specs.declared.walks.LeafPte.{LeafPte}
use Rattle.arch_defs.specs.FirstEntries.{first_entry}
use Rattle.arch_defs.specs.Memory.{Mmu}
use Rattle.arch_defs.specs.Translation.{privilege_of, supervisor_of}
use Rattle.log_lines.specs.declared.translations.Leaf.{Leaf}
use Rattle.machine_defs.specs.FirstLeaves.{entry_walked, leaf_under}
use Rattle.run_log.specs.Fills.{leaf_of_first}

pub walked_shown : (tag : Tag) (through : Mmu) (virt : Virtual) (va : ℕ) (access : Access) (leaf : LeafPte) (shown : Leaf)
    → shown ≡ leaf_of_first (first_entry tag (supervisor_of virt.csrs virt.mode).atp va leaf)
    → Some leaf ≡ leaf_under through (privilege_of virt.csrs virt.mode) va access (supervisor_of virt.csrs virt.mode).atp
    → Some shown ≡ option_map leaf_of_first (entry_walked tag through virt va access)
unfolding entry_walked
walked_shown tag through virt va access leaf shown is found =
    ap Some is ∙ ap (λ o. option_map leaf_of_first (option_map (first_entry tag (supervisor_of virt.csrs virt.mode).atp va) o)) found
