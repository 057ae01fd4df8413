-- What a hit stands for.
use Rattle.std.proofs.Common.{cond, ◌≡◌, ℕ, ◌%◌, Bool, true, false, List, [], Option, Some, None, refl, ap}
use Rattle.std.specs.Prelude.{◌==◌, option_map}
use Rattle.std.proofs.lemmas.Bool.{eq-eqb}
use Rattle.arch_defs.specs.declared.first.FirstEntry.{FirstEntry}
use Rattle.arch_defs.specs.declared.first.Tag.{Tag}
use Rattle.arch_defs.specs.declared.modes.Access.{Access}
use Rattle.arch_defs.specs.declared.modes.Mode.{Mode}
use Rattle.arch_defs.specs.declared.roots.SupervisorRoot.{SupervisorRoot}
use Rattle.arch_defs.specs.declared.roots.SupervisorRoot.TheVariants as root
use Rattle.arch_defs.specs.declared.walks.Privilege.{Privilege}
use Rattle.arch_defs.specs.FirstEntries.{first_entry, known_under}
use Rattle.arch_defs.specs.Memory.{Reading, SecondStage, machine_memory, reading_of}
use Rattle.arch_defs.specs.SecondStage.{second_by_walk}
use Rattle.arch_defs.specs.Translation.{first_stage, found_under, privilege_of, supervisor_of}
use Rattle.arch_defs.specs.Widths.{bytes_in}
use Rattle.machine_defs.specs.Core.{At, found_with, located_at, located_by}
use Rattle.machine_defs.specs.FirstLeaves.{entries_of, entry_walked, leaf_under, unless_known}
use Rattle.translation_buffer.specs.Laws.{HitIsPlace, HitsFindNothing, mmu_by}
use Rattle.translation_buffer.specs.Places.{passed_by, placed_at}

-- where no table is walked, the place is that of the second stage
placed : (second : SecondStage) (mode : Mode) (va address place : ℕ) (access : Access) → second address access ≡ Some place → located_at mode va access address (second address access) ≡ At place
placed second mode va address place access is = rw is refl

by_root : (first : List FirstEntry) (tag : Tag) (second : SecondStage) (reading : Reading) (mode : Mode) (privilege : Privilege) (va place : ℕ) (access : Access) (atp : SupervisorRoot)
    → placed_at second access (passed_by first tag privilege atp va access) ≡ Some place
    → located_by second mode va access (found_with (known_under first tag privilege atp va access) (found_under second reading privilege va access atp)) ≡ At place
unfolding known_under
by_root first tag second reading mode privilege va place access root.Bare is = placed second mode va va place access is
by_root first tag second reading mode privilege va place access (root.Table table asid ppn) is = by (known_under first tag privilege (root.Table table asid ppn) va access) is
  where
    by : (there : Option ℕ) → placed_at second access there ≡ Some place
        → located_by second mode va access (found_with there (found_under second reading privilege va access (root.Table table asid ppn))) ≡ At place
    by (Some address) is = placed second mode va address place access is
    by None is = absurd cc

pub hit_is_place : HitIsPlace
unfolding first_stage
hit_is_place first tag virt memory va place width access whole is = rw (eq-eqb (va % bytes_in width) 0 whole)
    (by_root first tag (second_by_walk virt.csrs virt.mode (machine_memory memory)) (reading_of (machine_memory memory)) virt.mode (privilege_of virt.csrs virt.mode) va place access (supervisor_of virt.csrs virt.mode).atp is)

-- and nothing is walked for it
none_by_root : (first : List FirstEntry) (tag : Tag) (second : SecondStage) (reading : Reading) (privilege : Privilege) (va place : ℕ) (access : Access) (atp : SupervisorRoot) (found : SupervisorRoot → Option FirstEntry)
    → found root.Bare ≡ None → placed_at second access (passed_by first tag privilege atp va access) ≡ Some place
    → unless_known (known_under first tag privilege atp va access) (found atp) ≡ []
unfolding known_under
none_by_root first tag second reading privilege va place access root.Bare found bare is = ap entries_of bare
none_by_root first tag second reading privilege va place access (root.Table table asid ppn) found bare is = by (known_under first tag privilege (root.Table table asid ppn) va access) is
  where
    by : (there : Option ℕ) → placed_at second access there ≡ Some place → unless_known there (found (root.Table table asid ppn)) ≡ []
    by (Some address) is = refl
    by None is = absurd cc

pub hits_find_nothing : HitsFindNothing
unfolding entry_walked
hits_find_nothing first tag virt memory va place width access is = by (va % bytes_in width == 0)
  where
    privilege : Privilege
    privilege = privilege_of virt.csrs virt.mode

    found : SupervisorRoot → Option FirstEntry
    found atp = option_map (first_entry tag atp va) (leaf_under (mmu_by first tag virt memory) privilege va access atp)

    by : (whole : Bool)
        → cond whole (unless_known (known_under first tag privilege (supervisor_of virt.csrs virt.mode).atp va access) (found (supervisor_of virt.csrs virt.mode).atp)) [] ≡ []
    by true = none_by_root first tag (second_by_walk virt.csrs virt.mode (machine_memory memory)) (reading_of (machine_memory memory)) privilege va place access (supervisor_of virt.csrs virt.mode).atp found refl is
    by false = refl
