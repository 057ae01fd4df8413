-- Where nothing is cached, no access goes by a cached translation.
use Rattle.std.proofs.Common.{◌≡◌, refl, ap, ap₂, ℕ, Bool, true, false, cond, List, [], ◌∷◌, ◌++◌, Option, Some, None, find, ◌/◌, ◌%◌, ◌==◌}
use Rattle.std.specs.List.{flat_map}
use Rattle.arch_defs.specs.declared.cached.Entry.{Entry}
use Rattle.arch_defs.specs.declared.modes.Access.{Access}
use Rattle.arch_defs.specs.declared.modes.Access.TheVariants.{Fetch, Implicit}
use Rattle.arch_defs.specs.declared.registers.Virtual.{Virtual}
use Rattle.arch_defs.specs.declared.roots.SupervisorRoot.{SupervisorRoot}
use Rattle.arch_defs.specs.declared.roots.SupervisorRoot.TheVariants as root
use Rattle.arch_defs.specs.declared.walks.Found.{Found}
use Rattle.arch_defs.specs.declared.walks.Found.TheVariants.{Passes, PageFaults, MissesEntry}
use Rattle.arch_defs.specs.declared.widths.Width.{Width}
use Rattle.arch_defs.specs.declared.widths.Width.TheVariants.{Word}
use Rattle.arch_defs.specs.CachedEntries.{entry_at}
use Rattle.arch_defs.specs.FirstEntries.{is_first_of}
use Rattle.arch_defs.specs.Interrupts.{due}
use Rattle.arch_defs.specs.Memory.{Mmu}
use Rattle.arch_defs.specs.Spaces.{front}
use Rattle.arch_defs.specs.WalkedEntries.{folds}
use Rattle.arch_defs.specs.Widths.{bytes_in}
use Rattle.op_defs.specs.declared.ops.DataAccess.{DataAccess}
use Rattle.machine_defs.specs.Core.{kind_of}
use Rattle.machine_defs.specs.FirstLeaves.{tag_of}
use Rattle.machine_defs.specs.Machine.{Machine}
use Rattle.machine_defs.specs.Tries.{mmu_of}
use Rattle.run_log.specs.Laws.{UncachedUsesNone}
use Rattle.run_log.specs.declared.uses.Use.{Use}
use Rattle.run_log.specs.Uses.{access_uses, data_next, data_uses, first_if, first_under, passed_uses, second_if, second_uses, uses, uses_if_known, uses_with}

pub none_of_each : (f : ℕ → List Use) → ((x : ℕ) → f x ≡ []) → (xs : List ℕ) → flat_map f xs ≡ []
none_of_each f none [] = refl
none_of_each f none (x ∷ xs) = ap₂ (λ a b. a ++ b) (none x) (none_of_each f none xs)

module _ (virt : Virtual) (no_first : virt.first ≡ []) (entries : List Entry) (no_second : entries ≡ []) where
  first_none : (va : ℕ) (access : Access) (atp : SupervisorRoot) → first_under virt va access atp ≡ []
  first_none va access root.Bare = refl
  first_none va access (root.Table mode asid ppn) =
      ap (λ first. first_if virt va access (find (is_first_of (tag_of virt) (root.Table mode asid ppn) (va / 4096)) first)) no_first

  second_none : (address : ℕ) (kind : Access) → second_uses virt entries address kind ≡ []
  second_none address kind = by (folds virt)
    where
      by : (b : Bool) → cond b (second_if virt address kind (entry_at (address / 4096) entries)) [] ≡ []
      by true = ap (λ es. second_if virt address kind (entry_at (address / 4096) es)) no_second
      by false = refl

  passed_none : (access : Access) (found : Found) → passed_uses virt entries access found ≡ []
  passed_none access (Passes address) = second_none address access
  passed_none access PageFaults = refl
  passed_none access (MissesEntry place) = refl

  known_none : (through : Mmu) (va : ℕ) (access : Access) (known : Option ℕ) → uses_if_known virt entries through va access known ≡ []
  known_none through va access (Some address) = ap₂ (λ a b. a ++ b) (first_none va access _) (second_none address access)
  known_none through va access None =
      ap₂ (λ a b. a ++ b) (none_of_each (λ place. second_uses virt entries place Implicit) (λ place. second_none place Implicit) _)
      (passed_none access _)

  access_none : (through : Mmu) (va : ℕ) (width : Width) (access : Access) → access_uses virt entries through va width access ≡ []
  access_none through va width access = by (va % bytes_in width == 0)
    where
      by : (b : Bool) → cond b (uses_if_known virt entries through va access (through.known va access)) [] ≡ []
      by true = known_none through va access _
      by false = refl

  data_none : (through : Mmu) (wanted : Option DataAccess) → data_uses virt entries through wanted ≡ []
  data_none through (Some wanted) = access_none through wanted.address wanted.width (kind_of wanted.purpose)
  data_none through None = refl

none_with : (m : Machine) → m.platform.virt.first ≡ [] → front m.spaces ≡ [] → (code : Option ℕ) → uses_with m code ≡ []
none_with m no_first no_second (Some code) = refl
none_with m no_first no_second None = let virt = m.platform.virt in let entries = front m.spaces in
    ap₂ (λ a b. a ++ b) (access_none virt no_first entries no_second (mmu_of m) virt.regs.pc Word Fetch)
    (data_none virt no_first entries no_second (mmu_of m) (data_next m))

pub uncached_uses_none : UncachedUsesNone
unfolding uses
uncached_uses_none m no_first no_second = none_with m no_first no_second (due m.platform.virt.csrs m.platform.virt.mode)
