-- A step's accesses go by few cached translations: for each access, one of the first stage and one of the
-- second, or one of the second for each entry that its walk reads and one for what that passes on.
use Rattle.std.proofs.Common.{arith, ℕ, zero, suc, ◌+◌, ◌≤◌, Bool, true, false, cond, List, [], ◌∷◌, Option, Some, None, find, length, length-append, ◌/◌, ◌%◌, ◌^◌, ◌==◌}
use Rattle.std.proofs.lemmas.List.{length-map}
use Rattle.std.specs.List.{flat_map}
use Rattle.arch_defs.specs.declared.cached.Entry.{Entry}
use Rattle.arch_defs.specs.declared.first.FirstEntry.{FirstEntry}
use Rattle.arch_defs.specs.declared.modes.Access.{Access}
use Rattle.arch_defs.specs.declared.modes.Access.TheVariants.{Fetch, Implicit}
use Rattle.arch_defs.specs.declared.registers.Virtual.{Virtual}
use Rattle.arch_defs.specs.declared.roots.SupervisorRoot.{SupervisorRoot}
use Rattle.arch_defs.specs.declared.roots.SupervisorRoot.TheVariants as root
use Rattle.arch_defs.specs.declared.walks.Found.{Found}
use Rattle.arch_defs.specs.declared.walks.Found.TheVariants.{Passes, PageFaults, MissesEntry}
use Rattle.arch_defs.specs.declared.walks.Next.{Next}
use Rattle.arch_defs.specs.declared.walks.Next.TheVariants.{Ends, Below}
use Rattle.arch_defs.specs.declared.walks.Shape.{Shape}
use Rattle.arch_defs.specs.declared.widths.Width.{Width}
use Rattle.arch_defs.specs.declared.widths.Width.TheVariants.{Word}
use Rattle.arch_defs.specs.CachedEntries.{entry_at, leaf_of}
use Rattle.arch_defs.specs.FirstEntries.{first_leaf, is_first_of}
use Rattle.arch_defs.specs.Interrupts.{due}
use Rattle.arch_defs.specs.Memory.{Mmu}
use Rattle.arch_defs.specs.Permits.{permits_first, permits_second}
use Rattle.arch_defs.specs.Roots.{supervisor_shape}
use Rattle.arch_defs.specs.Spaces.{front}
use Rattle.arch_defs.specs.Translation.{entry_words_through, first_stage, privilege_of, supervisor_of}
use Rattle.arch_defs.specs.Walk.{EntryReading, is_canonical, later, levels, met_in, most_levels, next_of, path, path_from}
use Rattle.arch_defs.specs.WalkedEntries.{folds}
use Rattle.arch_defs.specs.Widths.{bytes_in}
use Rattle.arch_defs.proofs.Shapes.{few_levels}
use Rattle.op_defs.specs.declared.ops.DataAccess.{DataAccess}
use Rattle.machine_defs.specs.Core.{kind_of}
use Rattle.machine_defs.specs.Fills.{needed}
use Rattle.machine_defs.specs.FirstLeaves.{tag_of}
use Rattle.machine_defs.specs.Machine.{Machine}
use Rattle.machine_defs.specs.Tries.{mmu_of}
use Rattle.run_log.specs.Laws.{UsesAreFew}
use Rattle.run_log.specs.declared.uses.Use.{Use}
use Rattle.run_log.specs.declared.uses.Use.TheVariants.{First, Second}
use Rattle.run_log.specs.Uses.{access_uses, data_next, data_uses, entries_read, first_if, first_under, first_uses, passed_uses, second_if, second_uses, uses, uses_if_known, uses_with}

-- a walk meets at most one entry a level
met_few : (reading : EntryReading) (shape : Shape) (va : ℕ) (access : Access) (level table : ℕ) → length (path_from reading shape va access level table) ≤ level
unfolding path_from
met_few reading shape va access zero table = omega arith
met_few reading shape va access (suc level) table = by (next_of access (met_in reading shape va level table)) (λ t. met_few reading shape va access level t)
  where
    by : (next : Next) → ((t : ℕ) → length (path_from reading shape va access level t) ≤ level)
        → suc (length (later (path_from reading shape va access level) next)) ≤ suc level
    by (Ends end) below = omega arith
    by (Below t) below = let few = below t in omega arith

path_few : (reading : EntryReading) (page : ℕ) (shape : Shape) (va : ℕ) (access : Access) → length (path reading page shape va access) ≤ most_levels
unfolding path
path_few reading page shape va access = by (is_canonical shape va)
  where
    by : (right : Bool) → length (cond right (path_from reading shape va access (levels shape) page) []) ≤ most_levels
    by true = let few = met_few reading shape va access (levels shape) page in omega (arith, few, few_levels shape)
    by false = omega arith

entries_few : (through : Mmu) (va : ℕ) (access : Access) (atp : SupervisorRoot) → length (entries_read through va access atp) ≤ most_levels
entries_few through va access root.Bare = omega arith
entries_few through va access (root.Table mode asid ppn) =
    let words = entry_words_through through.second through.reading in
    let met = path words (ppn % 2 ^ 44) (supervisor_shape mode) va access in
    let same = length-map met (λ one. one.place) in
    let few = path_few words (ppn % 2 ^ 44) (supervisor_shape mode) va access in omega (arith, same, few)

-- one for each at most comes to no more than there are
one_each : (f : ℕ → List Use) → ((x : ℕ) → length (f x) ≤ 1) → (xs : List ℕ) → length (flat_map f xs) ≤ length xs
one_each f one [] = omega arith
one_each f one (x ∷ xs) =
    let here = one x in
    let others = one_each f one xs in
    let both = length-append (f x) (flat_map f xs) in omega (arith, here, others, both)

first_one : (virt : Virtual) (va : ℕ) (access : Access) → length (first_uses virt va access) ≤ 1
first_one virt va access = under (supervisor_of virt.csrs virt.mode).atp
  where
    permitted : (e : FirstEntry) (right : Bool) → length (cond right (First e va access ∷ []) []) ≤ 1
    permitted e true = omega arith
    permitted e false = omega arith

    found : (e : Option FirstEntry) → length (first_if virt va access e) ≤ 1
    found (Some e) = permitted e (permits_first (privilege_of virt.csrs virt.mode) access (first_leaf e))
    found None = omega arith

    under : (atp : SupervisorRoot) → length (first_under virt va access atp) ≤ 1
    under root.Bare = omega arith
    under (root.Table mode asid ppn) = found (find (is_first_of (tag_of virt) (root.Table mode asid ppn) (va / 4096)) virt.first)

second_one : (virt : Virtual) (entries : List Entry) (address : ℕ) (kind : Access) → length (second_uses virt entries address kind) ≤ 1
second_one virt entries address kind = by (folds virt)
  where
    permitted : (e : Entry) (right : Bool) → length (cond right (Second e address kind ∷ []) []) ≤ 1
    permitted e true = omega arith
    permitted e false = omega arith

    found : (e : Option Entry) → length (second_if virt address kind e) ≤ 1
    found (Some e) = permitted e (permits_second virt.csrs.hs.status.mxr kind (leaf_of e))
    found None = omega arith

    by : (folding : Bool) → length (cond folding (second_if virt address kind (entry_at (address / 4096) entries)) []) ≤ 1
    by true = found (entry_at (address / 4096) entries)
    by false = omega arith

passed_one : (virt : Virtual) (entries : List Entry) (access : Access) (found : Found) → length (passed_uses virt entries access found) ≤ 1
passed_one virt entries access (Passes address) = second_one virt entries address access
passed_one virt entries access PageFaults = omega arith
passed_one virt entries access (MissesEntry place) = omega arith

-- an access goes by at most five, one more than a table has levels
known_few : (virt : Virtual) (entries : List Entry) (through : Mmu) (va : ℕ) (access : Access) (known : Option ℕ)
    → length (uses_if_known virt entries through va access known) ≤ most_levels + 1
known_few virt entries through va access (Some address) =
    let first = first_one virt va access in
    let second = second_one virt entries address access in
    let both = length-append (first_uses virt va access) (second_uses virt entries address access) in omega (arith, first, second, both)
known_few virt entries through va access None =
    let atp = (supervisor_of virt.csrs virt.mode).atp in
    let found = first_stage through.second through.reading virt.csrs virt.mode va access in
    let few = entries_few through va access atp in
    let each = one_each (λ place. second_uses virt entries place Implicit) (λ place. second_one virt entries place Implicit) (entries_read through va access atp) in
    let passed = passed_one virt entries access found in
    let both = length-append (flat_map (λ place. second_uses virt entries place Implicit) (entries_read through va access atp)) (passed_uses virt entries access found) in
    omega (arith, few, each, passed, both)

pub access_few : (virt : Virtual) (entries : List Entry) (through : Mmu) (va : ℕ) (width : Width) (access : Access)
    → length (access_uses virt entries through va width access) ≤ most_levels + 1
access_few virt entries through va width access = by (va % bytes_in width == 0)
  where
    by : (aligned : Bool) → length (cond aligned (uses_if_known virt entries through va access (through.known va access)) []) ≤ most_levels + 1
    by true = known_few virt entries through va access (through.known va access)
    by false = omega arith

data_few : (virt : Virtual) (entries : List Entry) (through : Mmu) (wanted : Option DataAccess)
    → length (data_uses virt entries through wanted) ≤ most_levels + 1
data_few virt entries through (Some wanted) = access_few virt entries through wanted.address wanted.width (kind_of wanted.purpose)
data_few virt entries through None = omega arith

pub uses_are_few : UsesAreFew
unfolding uses
uses_are_few m = by (due m.platform.virt.csrs m.platform.virt.mode)
  where
    by : (code : Option ℕ) → length (uses_with m code) ≤ needed
    by (Some code) = omega arith
    by None =
        let virt = m.platform.virt in
        let entries = front m.spaces in
        let fetch = access_few virt entries (mmu_of m) virt.regs.pc Word Fetch in
        let data_too = data_few virt entries (mmu_of m) (data_next m) in
        let both = length-append (access_uses virt entries (mmu_of m) virt.regs.pc Word Fetch) (data_uses virt entries (mmu_of m) (data_next m)) in
        omega (arith, fetch, data_too, both)
