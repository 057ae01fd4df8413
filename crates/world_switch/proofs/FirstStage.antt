-- First-stage translations of the hart that stands for a guest: it knows the same, and finds the same.
use Rattle.std.specs.Prelude.{◌==◌, option_map}
use Rattle.std.proofs.Common.{cond, ◌≡◌, ℕ, ◌%◌, ◌∙◌, Bool, true, false, [], ◌++◌, Option, Some, None, refl, ap}
use Rattle.arch_defs.specs.declared.first.FirstEntry.{FirstEntry}
use Rattle.arch_defs.specs.declared.first.Tag.{Tag}
use Rattle.arch_defs.specs.declared.modes.Access.{Access}
use Rattle.arch_defs.specs.declared.modes.Access.TheVariants.{Fetch}
use Rattle.arch_defs.specs.declared.modes.Mode.{Mode}
use Rattle.arch_defs.specs.declared.modes.Mode.TheVariants.{HS, U, VS, VU}
use Rattle.arch_defs.specs.declared.registers.Csrs.{Csrs}
use Rattle.arch_defs.specs.declared.registers.Virtual.{Virtual}
use Rattle.arch_defs.specs.declared.roots.GuestRoot.{GuestRoot}
use Rattle.arch_defs.specs.declared.roots.SupervisorRoot.{SupervisorRoot}
use Rattle.arch_defs.specs.declared.walks.Found.{Found}
use Rattle.arch_defs.specs.declared.walks.Found.TheVariants.{Passes, PageFaults, MissesEntry}
use Rattle.arch_defs.specs.declared.walks.Privilege.{Privilege}
use Rattle.arch_defs.specs.declared.widths.Width.{Width}
use Rattle.arch_defs.specs.declared.widths.Width.TheVariants.{Word}
use Rattle.arch_defs.specs.FirstEntries.{first_entry, known_under}
use Rattle.arch_defs.specs.Memory.{Mmu, SecondStage}
use Rattle.arch_defs.specs.Traps.{exception, faults_of, is_virtual}
use Rattle.arch_defs.specs.Translation.{first_stage, privilege_of, supervisor_of}
use Rattle.arch_defs.specs.Widths.{bytes_in}
use Rattle.op_defs.specs.declared.ops.Effect.{Effect}
use Rattle.op_defs.specs.declared.ops.Effect.TheVariants.{Sets, Raises, Data, Calls, Privileged}
use Rattle.op_defs.specs.declared.ops.Op.{Op}
use Rattle.op_defs.specs.Meaning.{meaning}
use Rattle.op_defs.specs.Table.{op_of}
use Rattle.machine_defs.specs.Core.{At, Fails, Failure, Faults, Located, accessed, fetch_place, found_with, kind_of, located_at, located_by, word_at}
use Rattle.machine_defs.specs.FirstLeaves.{entry_walked, found_at, found_by_effect, found_by_op, found_for, leaf_under, leaves_found, unless_known}
use Rattle.world_switch.specs.Hosting.{hart_state_of, hosted_csrs, hosted_mode}
use Rattle.world_switch.specs.Laws.{FindsAlike, KnowsAlike}
use Rattle.world_switch.proofs.Undone.{or_false, translates_alike}

-- the hart accesses as whom the guest does, by the same satp or vsatp
same_privilege : (root : GuestRoot) (csrs : Csrs) (mode : Mode) → privilege_of (hosted_csrs root (is_virtual mode) csrs) (hosted_mode mode) ≡ privilege_of csrs mode
same_privilege root csrs HS = ap (λ mxr. record { user = false; sum = csrs.hs.status.sum; mxr = mxr }) (or_false csrs.hs.status.mxr)
same_privilege root csrs U = ap (λ mxr. record { user = true; sum = csrs.hs.status.sum; mxr = mxr }) (or_false csrs.hs.status.mxr)
same_privilege root csrs VS = refl
same_privilege root csrs VU = refl

same_atp : (root : GuestRoot) (csrs : Csrs) (mode : Mode) → (supervisor_of (hosted_csrs root (is_virtual mode) csrs) (hosted_mode mode)).atp ≡ (supervisor_of csrs mode).atp
same_atp root csrs HS = refl
same_atp root csrs U = refl
same_atp root csrs VS = refl
same_atp root csrs VU = refl

pub knows_alike : KnowsAlike
knows_alike root v first tag = ap (λ privilege. known_under first tag privilege (supervisor_of (hosted_csrs root (is_virtual v.mode) v.csrs) (hosted_mode v.mode)).atp) (same_privilege root v.csrs v.mode)
    ∙ ap (known_under first tag (privilege_of v.csrs v.mode)) (same_atp root v.csrs v.mode)

-- so what an access finds is the same
abbrev walked_under : Tag → Mmu → ℕ → Access → Privilege → SupervisorRoot → Option FirstEntry
walked_under tag through va access privilege atp = option_map (first_entry tag atp va) (leaf_under through privilege va access atp)

walked_alike : (root : GuestRoot) (v : Virtual) (tag : Tag) (through : Mmu) (va : ℕ) (access : Access)
    → entry_walked tag through (hart_state_of root v) va access ≡ entry_walked tag through v va access
unfolding entry_walked
walked_alike root v tag through va access =
    ap (λ privilege. walked_under tag through va access privilege (supervisor_of (hosted_csrs root (is_virtual v.mode) v.csrs) (hosted_mode v.mode)).atp) (same_privilege root v.csrs v.mode)
    ∙ ap (walked_under tag through va access (privilege_of v.csrs v.mode)) (same_atp root v.csrs v.mode)

access_alike : (root : GuestRoot) (v : Virtual) (tag : Tag) (through : Mmu) (va : ℕ) (width : Width) (access : Access)
    → found_for tag through (hart_state_of root v) va width access ≡ found_for tag through v va width access
access_alike root v tag through va width access =
    ap (λ e. cond (va % bytes_in width == 0) (unless_known (through.known va access) e) []) (walked_alike root v tag through va access)

effect_alike : (root : GuestRoot) (v : Virtual) (tag : Tag) (through : Mmu) (effect : Effect)
    → found_by_effect tag through (hart_state_of root v) effect ≡ found_by_effect tag through v effect
effect_alike root v tag through (Data wanted) = access_alike root v tag through wanted.address wanted.width (kind_of wanted.purpose)
effect_alike root v tag through (Sets rd value next) = refl
effect_alike root v tag through (Raises cause tval) = refl
effect_alike root v tag through Calls = refl
effect_alike root v tag through (Privileged effect) = refl

op_alike : (root : GuestRoot) (v : Virtual) (tag : Tag) (through : Mmu) (o : Option Op)
    → found_by_op tag through (hart_state_of root v) o ≡ found_by_op tag through v o
op_alike root v tag through (Some o) = effect_alike root v tag through (meaning o v.regs)
op_alike root v tag through None = refl

-- and an access that has a place has the same, while one that has none has none
abbrev PlacedAlike : Located → Located → Type 0
PlacedAlike (At place) other = other ≡ At place
PlacedAlike (Fails failure) other = (another : Failure) × (other ≡ Fails another)

found_placed : (second : SecondStage) (mode other : Mode) (va : ℕ) (access : Access) (found : Found)
    → PlacedAlike (located_by second mode va access found) (located_by second other va access found)
found_placed second mode other va access (Passes address) = by (second address access)
  where
    by : (there : Option ℕ) → PlacedAlike (located_at mode va access address there) (located_at other va access address there)
    by (Some place) = refl
    by None = (_, refl)
found_placed second mode other va access PageFaults = (_, refl)
found_placed second mode other va access (MissesEntry place) = (_, refl)

accessed_placed : (root : GuestRoot) (v : Virtual) (through : Mmu) (va : ℕ) (width : Width) (access : Access)
    → PlacedAlike (accessed through v.csrs v.mode va width access)
    (accessed through (hosted_csrs root (is_virtual v.mode) v.csrs) (hosted_mode v.mode) va width access)
accessed_placed root v through va width access = rw (translates_alike root through.second through.reading v.csrs v.mode va access) (by (va % bytes_in width == 0))
  where
    found : Found
    found = found_with (through.known va access) (first_stage through.second through.reading v.csrs v.mode va access)

    by : (whole : Bool)
        → PlacedAlike (cond whole (located_by through.second v.mode va access found) (Fails (Faults (exception v.mode (faults_of access).misaligned va))))
        (cond whole (located_by through.second (hosted_mode v.mode) va access found) (Fails (Faults (exception (hosted_mode v.mode) (faults_of access).misaligned va))))
    by true = found_placed through.second v.mode (hosted_mode v.mode) va access found
    by false = (_, refl)

at_alike : (root : GuestRoot) (v : Virtual) (tag : Tag) (through : Mmu) (a b : Located) → PlacedAlike a b
    → found_at tag through (hart_state_of root v) b ≡ found_at tag through v a
at_alike root v tag through (At place) b e = rw e (op_alike root v tag through (op_of (word_at through.reading place)))
at_alike root v tag through (Fails failure) b (another, e) = rw e refl

pub finds_alike : FindsAlike
unfolding leaves_found
finds_alike root v tag through =
    ap (λ front. front ++ found_at tag through (hart_state_of root v) (fetch_place through (hart_state_of root v))) (access_alike root v tag through v.regs.pc Word Fetch)
    ∙ ap (λ behind. found_for tag through v v.regs.pc Word Fetch ++ behind)
    (at_alike root v tag through (fetch_place through v) (fetch_place through (hart_state_of root v)) (accessed_placed root v through v.regs.pc Word Fetch))
