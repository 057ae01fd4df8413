-- Uses that are added behind others.
use Rattle.std.proofs.Common.{◌≡◌, sym, ap, ◌∙◌, ℕ, ◌%◌, ◌==◌, true, false, List, [], ◌∷◌, ◌++◌, append_assoc, Some, None}
use Rattle.std.proofs.lemmas.List.{append-nil}
use Rattle.arch_defs.specs.declared.cached.Entry.{Entry}
use Rattle.arch_defs.specs.declared.first.FirstEntry.{FirstEntry}
use Rattle.arch_defs.specs.declared.modes.Access.{Access}
use Rattle.arch_defs.specs.declared.registers.Virtual.{Virtual}
use Rattle.arch_defs.specs.declared.roots.SupervisorMode.{SupervisorMode}
use Rattle.arch_defs.specs.declared.roots.SupervisorRoot.TheVariants as root
use Rattle.arch_defs.specs.declared.widths.Width.{Width}
use Rattle.arch_defs.specs.FirstEntries.{first_leaf}
use Rattle.arch_defs.specs.Memory.{Memory}
use Rattle.arch_defs.specs.Roots.{supervisor_shape}
use Rattle.arch_defs.specs.Translation.{supervisor_of}
use Rattle.arch_defs.specs.Walk.{leaf_address}
use Rattle.arch_defs.specs.WalkedEntries.{folds}
use Rattle.arch_defs.specs.Widths.{bytes_in}
use Rattle.run_log.specs.declared.uses.Use.{Use}
use Rattle.run_log.specs.declared.uses.Use.TheVariants.{First}
use Rattle.run_log.specs.Uses.{access_uses, second_uses, uses_if_known}
use Rattle.cached_uses.specs.Serving.{first_served, mmu_through, walked_uses}
use Rattle.cached_uses.proofs.KnownAddresses.{misaligned, served, under_bare, under_table, unfolded, unserved}

pub nothing_added : (uses : List Use) → uses ≡ uses ++ []
nothing_added uses = sym (append-nil uses)

pub both_added : (old first second middle after : List Use) → middle ≡ old ++ first → after ≡ middle ++ second → after ≡ old ++ (first ++ second)
both_added old first second middle after one two = two ∙ ap (λ us. us ++ second) one ∙ append_assoc old first second

module _ (virt : Virtual) (entries : List Entry) (memory : Memory) (va : ℕ) (access : Access) where
  pub unfolded_added : (uses : List Use) → folds virt ≡ false
      → uses ≡ uses ++ uses_if_known virt entries (mmu_through virt entries memory) va access None
  unfolded_added uses not_folding = nothing_added uses ∙ ap (λ us. uses ++ us) (unfolded virt entries memory va access not_folding)

  pub bare_added : (old after : List Use) → (supervisor_of virt.csrs virt.mode).atp ≡ root.Bare → after ≡ old ++ second_uses virt entries va access
      → after ≡ old ++ uses_if_known virt entries (mmu_through virt entries memory) va access None
  bare_added old after bare added = added ∙ ap (λ us. old ++ us) (under_bare virt entries memory va access bare)

  pub table_added : (old after : List Use) (mode : SupervisorMode) (asid ppn : ℕ) → folds virt ≡ true
      → (supervisor_of virt.csrs virt.mode).atp ≡ root.Table mode asid ppn
      → after ≡ old ++ walked_uses virt entries memory (supervisor_shape mode) ppn va access
      → after ≡ old ++ uses_if_known virt entries (mmu_through virt entries memory) va access None
  table_added old after mode asid ppn folding table added =
      added ∙ ap (λ us. old ++ us) (under_table virt entries memory va access mode asid ppn folding table)

  pub misaligned_added : (uses : List Use) (width : Width) → (va % bytes_in width == 0) ≡ false
      → uses ≡ uses ++ access_uses virt entries (mmu_through virt entries memory) va width access
  misaligned_added uses width not_aligned = nothing_added uses ∙ ap (λ us. uses ++ us) (misaligned virt entries memory va width access not_aligned)

  pub served_added : (old after : List Use) (width : Width) (e : FirstEntry) → (va % bytes_in width == 0) ≡ true → first_served virt va access ≡ Some e
      → after ≡ old ++ First e va access ∷ second_uses virt entries (leaf_address (first_leaf e) va) access
      → after ≡ old ++ access_uses virt entries (mmu_through virt entries memory) va width access
  served_added old after width e aligned is added =
      added ∙ ap (λ us. old ++ us) (sym (served virt entries memory va width access e aligned is))

  pub unserved_added : (old after : List Use) (width : Width) → (va % bytes_in width == 0) ≡ true → first_served virt va access ≡ None
      → after ≡ old ++ uses_if_known virt entries (mmu_through virt entries memory) va access None
      → after ≡ old ++ access_uses virt entries (mmu_through virt entries memory) va width access
  unserved_added old after width aligned is added =
      added ∙ ap (λ us. old ++ us) (sym (unserved virt entries memory va width access aligned is))

pub ruleset added_rules = (nothing_added, both_added, unfolded_added, bare_added, table_added)

pub ruleset access_rules = (misaligned_added, served_added, unserved_added)
