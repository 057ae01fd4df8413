-- The uses of an access, by whether its address is known.
use Rattle.std.proofs.Common.{◌≡◌, refl, sym, ap, ap₂, ◌∙◌, ℕ, ◌/◌, ◌%◌, ◌==◌, Bool, true, false, cond, List, [], ◌∷◌, ◌++◌, Option, Some, None, find, option_map}
use Rattle.arch_defs.specs.declared.cached.Entry.{Entry}
use Rattle.arch_defs.specs.declared.first.FirstEntry.{FirstEntry}
use Rattle.arch_defs.specs.declared.modes.Access.{Access}
use Rattle.arch_defs.specs.declared.modes.Access.TheVariants.{Implicit}
use Rattle.arch_defs.specs.declared.registers.Virtual.{Virtual}
use Rattle.arch_defs.specs.declared.roots.SupervisorMode.{SupervisorMode}
use Rattle.arch_defs.specs.declared.roots.SupervisorRoot.{SupervisorRoot}
use Rattle.arch_defs.specs.declared.roots.SupervisorRoot.TheVariants as root
use Rattle.arch_defs.specs.declared.walks.Found.{Found}
use Rattle.arch_defs.specs.declared.walks.Found.TheVariants.{Passes, PageFaults, MissesEntry}
use Rattle.arch_defs.specs.declared.widths.Width.{Width}
use Rattle.arch_defs.specs.FirstEntries.{first_leaf, is_first_of, known_by, known_under}
use Rattle.arch_defs.specs.Memory.{Memory}
use Rattle.arch_defs.specs.Permits.{permits_first}
use Rattle.arch_defs.specs.Roots.{supervisor_shape}
use Rattle.arch_defs.specs.Translation.{first_stage, privilege_of, supervisor_of}
use Rattle.arch_defs.specs.Walk.{leaf_address}
use Rattle.arch_defs.specs.WalkedEntries.{folds}
use Rattle.arch_defs.specs.Widths.{bytes_in}
use Rattle.machine_defs.specs.FirstLeaves.{known_of, tag_of}
use Rattle.run_log.specs.declared.uses.Use.TheVariants.{First}
use Rattle.run_log.specs.Uses.{access_uses, entries_read, first_if, first_under, first_uses, passed_uses, second_uses, uses_if_known}
use Rattle.run_log.proofs.Uncached.{none_of_each}
use Rattle.cached_uses.specs.Serving.{first_list, first_permitted, first_served, first_served_under, mmu_through, walked_uses}

-- in a state that does not fold no use is one of the second stage
second_unfolded : (virt : Virtual) (entries : List Entry) (address : ℕ) (kind : Access) → folds virt ≡ false → second_uses virt entries address kind ≡ []
second_unfolded virt entries address kind not_folding = rw not_folding refl

passed_unfolded : (virt : Virtual) (entries : List Entry) (access : Access) (found : Found) → folds virt ≡ false → passed_uses virt entries access found ≡ []
passed_unfolded virt entries access (Passes address) not_folding = second_unfolded virt entries address access not_folding
passed_unfolded virt entries access PageFaults not_folding = refl
passed_unfolded virt entries access (MissesEntry place) not_folding = refl

pub unfolded : (virt : Virtual) (entries : List Entry) (memory : Memory) (va : ℕ) (access : Access) → folds virt ≡ false
    → [] ≡ uses_if_known virt entries (mmu_through virt entries memory) va access None
unfolded virt entries memory va access not_folding =
    let through = mmu_through virt entries memory in
    sym (ap₂ (λ a b. a ++ b)
    (none_of_each (λ place. second_uses virt entries place Implicit) (λ place. second_unfolded virt entries place Implicit not_folding)
    (entries_read through va access (supervisor_of virt.csrs virt.mode).atp))
    (passed_unfolded virt entries access (first_stage through.second through.reading virt.csrs virt.mode va access) not_folding))

pub under_bare : (virt : Virtual) (entries : List Entry) (memory : Memory) (va : ℕ) (access : Access)
    → (supervisor_of virt.csrs virt.mode).atp ≡ root.Bare
    → second_uses virt entries va access ≡ uses_if_known virt entries (mmu_through virt entries memory) va access None
unfolding first_stage
under_bare virt entries memory va access bare = rw bare refl

pub under_table : (virt : Virtual) (entries : List Entry) (memory : Memory) (va : ℕ) (access : Access) (mode : SupervisorMode) (asid ppn : ℕ)
    → folds virt ≡ true → (supervisor_of virt.csrs virt.mode).atp ≡ root.Table mode asid ppn
    → walked_uses virt entries memory (supervisor_shape mode) ppn va access ≡ uses_if_known virt entries (mmu_through virt entries memory) va access None
unfolding first_stage
under_table virt entries memory va access mode asid ppn folding table = rw (folding, table) refl

-- what is known is by the translation that serves the access
known_is : (virt : Virtual) (va : ℕ) (access : Access)
    → known_of virt.first (tag_of virt) virt va access ≡ option_map (λ e. leaf_address (first_leaf e) va) (first_served virt va access)
unfolding known_under
known_is virt va access = by (supervisor_of virt.csrs virt.mode).atp
  where
    both : (e : FirstEntry) (right : Bool)
        → cond right (Some (leaf_address (first_leaf e) va)) None ≡ option_map (λ one. leaf_address (first_leaf one) va) (cond right (Some e) None)
    both e true = refl
    both e false = refl

    found : (e : Option FirstEntry) → known_by (privilege_of virt.csrs virt.mode) va access e
        ≡ option_map (λ one. leaf_address (first_leaf one) va) (first_permitted (privilege_of virt.csrs virt.mode) access e)
    found (Some e) = both e (permits_first (privilege_of virt.csrs virt.mode) access (first_leaf e))
    found None = refl

    by : (atp : SupervisorRoot) → known_under virt.first (tag_of virt) (privilege_of virt.csrs virt.mode) atp va access
        ≡ option_map (λ one. leaf_address (first_leaf one) va) (first_served_under virt va access atp)
    by root.Bare = refl
    by (root.Table mode asid ppn) = found (find (is_first_of (tag_of virt) (root.Table mode asid ppn) (va / 4096)) virt.first)

first_is : (virt : Virtual) (va : ℕ) (access : Access) → first_uses virt va access ≡ first_list va access (first_served virt va access)
first_is virt va access = by (supervisor_of virt.csrs virt.mode).atp
  where
    both : (e : FirstEntry) (right : Bool) → cond right (First e va access ∷ []) [] ≡ first_list va access (cond right (Some e) None)
    both e true = refl
    both e false = refl

    found : (e : Option FirstEntry) → first_if virt va access e ≡ first_list va access (first_permitted (privilege_of virt.csrs virt.mode) access e)
    found (Some e) = both e (permits_first (privilege_of virt.csrs virt.mode) access (first_leaf e))
    found None = refl

    by : (atp : SupervisorRoot) → first_under virt va access atp ≡ first_list va access (first_served_under virt va access atp)
    by root.Bare = refl
    by (root.Table mode asid ppn) = found (find (is_first_of (tag_of virt) (root.Table mode asid ppn) (va / 4096)) virt.first)

pub misaligned : (virt : Virtual) (entries : List Entry) (memory : Memory) (va : ℕ) (width : Width) (access : Access)
    → (va % bytes_in width == 0) ≡ false → [] ≡ access_uses virt entries (mmu_through virt entries memory) va width access
misaligned virt entries memory va width access not_aligned = rw not_aligned refl

aligned : (virt : Virtual) (entries : List Entry) (memory : Memory) (va : ℕ) (width : Width) (access : Access) (known : Option ℕ)
    → (va % bytes_in width == 0) ≡ true → known_of virt.first (tag_of virt) virt va access ≡ known
    → access_uses virt entries (mmu_through virt entries memory) va width access ≡ uses_if_known virt entries (mmu_through virt entries memory) va access known
aligned virt entries memory va width access known is_multiple is =
    rw is_multiple (ap (uses_if_known virt entries (mmu_through virt entries memory) va access) is)

pub served : (virt : Virtual) (entries : List Entry) (memory : Memory) (va : ℕ) (width : Width) (access : Access) (e : FirstEntry)
    → (va % bytes_in width == 0) ≡ true → first_served virt va access ≡ Some e
    → access_uses virt entries (mmu_through virt entries memory) va width access
    ≡ First e va access ∷ second_uses virt entries (leaf_address (first_leaf e) va) access
served virt entries memory va width access e is_multiple is =
    let address = leaf_address (first_leaf e) va in
    aligned virt entries memory va width access (Some address) is_multiple
    (known_is virt va access ∙ ap (option_map (λ one. leaf_address (first_leaf one) va)) is)
    ∙ ap (λ us. us ++ second_uses virt entries address access) (first_is virt va access ∙ ap (first_list va access) is)

pub unserved : (virt : Virtual) (entries : List Entry) (memory : Memory) (va : ℕ) (width : Width) (access : Access)
    → (va % bytes_in width == 0) ≡ true → first_served virt va access ≡ None
    → access_uses virt entries (mmu_through virt entries memory) va width access ≡ uses_if_known virt entries (mmu_through virt entries memory) va access None
unserved virt entries memory va width access is_multiple is =
    aligned virt entries memory va width access None is_multiple
    (known_is virt va access ∙ ap (option_map (λ one. leaf_address (first_leaf one) va)) is)
