-- What holds of all that is cached holds of what is used.
use Rattle.std.specs.List.{All, flat_map}
use Rattle.std.proofs.Common.{◌≡◌, refl, ℕ, ◌/◌, ◌%◌, ◌==◌, Bool, true, false, cond, List, [], ◌∷◌, ◌++◌, Option, Some, None, find}
use Rattle.std.proofs.lemmas.List.Elements.{All-append, All-cons, All-nil}
use Rattle.arch_defs.specs.declared.cached.Entry.{Entry}
use Rattle.arch_defs.specs.declared.first.FirstEntry.{FirstEntry}
use Rattle.arch_defs.specs.declared.modes.Access.{Access}
use Rattle.arch_defs.specs.declared.modes.Access.TheVariants.{Fetch, Implicit}
use Rattle.arch_defs.specs.declared.registers.Virtual.{Virtual}
use Rattle.arch_defs.specs.declared.roots.SupervisorRoot.{SupervisorRoot}
use Rattle.arch_defs.specs.declared.roots.SupervisorRoot.TheVariants as root
use Rattle.arch_defs.specs.declared.walks.Found.{Found}
use Rattle.arch_defs.specs.declared.walks.Found.TheVariants.{Passes, PageFaults, MissesEntry}
use Rattle.arch_defs.specs.declared.widths.Width.{Width}
use Rattle.arch_defs.specs.declared.widths.Width.TheVariants.{Word}
use Rattle.arch_defs.specs.CachedEntries.{entry_at, leaf_of}
use Rattle.arch_defs.specs.FirstEntries.{first_leaf, is_first_of}
use Rattle.arch_defs.specs.Interrupts.{due}
use Rattle.arch_defs.specs.Memory.{Mmu}
use Rattle.arch_defs.specs.Permits.{permits_first, permits_second}
use Rattle.arch_defs.specs.Spaces.{front}
use Rattle.arch_defs.specs.Translation.{first_stage, privilege_of, supervisor_of}
use Rattle.arch_defs.specs.WalkedEntries.{folds}
use Rattle.arch_defs.specs.Widths.{bytes_in}
use Rattle.op_defs.specs.declared.ops.DataAccess.{DataAccess}
use Rattle.instruction_laws.proofs.Cached.{all_found, either}
use Rattle.machine_defs.specs.Core.{kind_of}
use Rattle.machine_defs.specs.FirstLeaves.{tag_of}
use Rattle.machine_defs.specs.Machine.{Machine}
use Rattle.machine_defs.specs.Tries.{mmu_of}
use Rattle.run_log.specs.declared.uses.Use.{Use}
use Rattle.run_log.specs.declared.uses.Use.TheVariants.{First, Second}
use Rattle.run_log.specs.Uses.{access_uses, data_next, data_uses, entries_read, first_if, first_under, first_uses, passed_uses, second_if, second_uses, uses, uses_if_known, uses_with}

abbrev pub FirstHave : (Use → Type 0) → FirstEntry → Type 0
FirstHave P e = (va : ℕ) (access : Access) → P (First e va access)

abbrev pub SecondHave : (Use → Type 0) → Entry → Type 0
SecondHave P e = (address : ℕ) (kind : Access) → P (Second e address kind)

all_of_each : (P : Use → Type 0) (f : ℕ → List Use) → ((x : ℕ) → All P (f x)) → (xs : List ℕ) → All P (flat_map f xs)
all_of_each P f each [] = All-nil P
all_of_each P f each (x ∷ xs) = All-append P (f x) (flat_map f xs) (each x) (all_of_each P f each xs)

module _ (P : Use → Type 0) (virt : Virtual) (entries : List Entry) (of_first : All (FirstHave P) virt.first)
    (of_second : folds virt ≡ true → All (SecondHave P) entries) where
  first_have : (va : ℕ) (access : Access) → All P (first_uses virt va access)
  first_have va access = by (supervisor_of virt.csrs virt.mode).atp
    where
      found : (tag_atp : SupervisorRoot) (e : Option FirstEntry) → find (is_first_of (tag_of virt) tag_atp (va / 4096)) virt.first ≡ e → All P (first_if virt va access e)
      found atp None is = All-nil P
      found atp (Some e) is = either (All P) (permits_first (privilege_of virt.csrs virt.mode) access (first_leaf e)) (First e va access ∷ []) []
          (All-cons P (First e va access) [] (all_found (FirstHave P) (is_first_of (tag_of virt) atp (va / 4096)) virt.first e of_first is va access) (All-nil P)) (All-nil P)

      by : (atp : SupervisorRoot) → All P (first_under virt va access atp)
      by root.Bare = All-nil P
      by (root.Table mode asid ppn) = found (root.Table mode asid ppn) (find (is_first_of (tag_of virt) (root.Table mode asid ppn) (va / 4096)) virt.first) refl

  second_have : (address : ℕ) (kind : Access) → All P (second_uses virt entries address kind)
  second_have address kind = by (folds virt) refl
    where
      found : All (SecondHave P) entries → (e : Option Entry) → entry_at (address / 4096) entries ≡ e → All P (second_if virt address kind e)
      found have None is = All-nil P
      found have (Some e) is = either (All P) (permits_second virt.csrs.hs.status.mxr kind (leaf_of e)) (Second e address kind ∷ []) []
          (All-cons P (Second e address kind) [] (all_found (SecondHave P) (λ (x : Entry). x.page == address / 4096) entries e have is address kind) (All-nil P)) (All-nil P)

      by : (folding : Bool) → folds virt ≡ folding → All P (cond folding (second_if virt address kind (entry_at (address / 4096) entries)) [])
      by true is = found (of_second is) (entry_at (address / 4096) entries) refl
      by false is = All-nil P

  passed_have : (access : Access) (found : Found) → All P (passed_uses virt entries access found)
  passed_have access (Passes address) = second_have address access
  passed_have access PageFaults = All-nil P
  passed_have access (MissesEntry place) = All-nil P

  known_have : (through : Mmu) (va : ℕ) (access : Access) (known : Option ℕ) → All P (uses_if_known virt entries through va access known)
  known_have through va access (Some address) = All-append P (first_uses virt va access) (second_uses virt entries address access) (first_have va access) (second_have address access)
  known_have through va access None =
      let places = entries_read through va access (supervisor_of virt.csrs virt.mode).atp in
      let found = first_stage through.second through.reading virt.csrs virt.mode va access in
      All-append P (flat_map (λ place. second_uses virt entries place Implicit) places) (passed_uses virt entries access found)
      (all_of_each P (λ place. second_uses virt entries place Implicit) (λ place. second_have place Implicit) places) (passed_have access found)

  access_have : (through : Mmu) (va : ℕ) (width : Width) (access : Access) → All P (access_uses virt entries through va width access)
  access_have through va width access = either (All P) (va % bytes_in width == 0) (uses_if_known virt entries through va access (through.known va access)) []
      (known_have through va access (through.known va access)) (All-nil P)

  data_have : (through : Mmu) (wanted : Option DataAccess) → All P (data_uses virt entries through wanted)
  data_have through None = All-nil P
  data_have through (Some wanted) = access_have through wanted.address wanted.width (kind_of wanted.purpose)

pub used_have : (P : Use → Type 0) (m : Machine) → All (FirstHave P) m.platform.virt.first → (folds m.platform.virt ≡ true → All (SecondHave P) (front m.spaces)) → All P (uses m)
unfolding uses
used_have P m of_first of_second = by (due m.platform.virt.csrs m.platform.virt.mode)
  where
    by : (code : Option ℕ) → All P (uses_with m code)
    by (Some code) = All-nil P
    by None = let virt = m.platform.virt in let entries = front m.spaces in
        All-append P (access_uses virt entries (mmu_of m) virt.regs.pc Word Fetch) (data_uses virt entries (mmu_of m) (data_next m))
        (access_have P virt entries of_first of_second (mmu_of m) virt.regs.pc Word Fetch)
        (data_have P virt entries of_first of_second (mmu_of m) (data_next m))
