-- What an instruction finds of the first stage under two second stages, of which one gives fewer places: the
-- same, where the instruction stops at no access to which the other gives a place.
use Rattle.std.specs.Prelude.{◌==◌, option_map}
use Rattle.std.proofs.Common.{cond, ◌≡◌, ℕ, ◌%◌, ◌^◌, ◌∙◌, Bool, true, false, List, [], ◌++◌, Option, Some, None, refl, ap}
use Rattle.arch_defs.specs.declared.first.Tag.{Tag}
use Rattle.arch_defs.specs.declared.modes.Access.{Access}
use Rattle.arch_defs.specs.declared.modes.Access.TheVariants.{Fetch, Implicit}
use Rattle.arch_defs.specs.declared.modes.Mode.{Mode}
use Rattle.arch_defs.specs.declared.modes.Trap.{Trap}
use Rattle.arch_defs.specs.declared.registers.Virtual.{Virtual}
use Rattle.arch_defs.specs.declared.roots.SupervisorRoot.{SupervisorRoot}
use Rattle.arch_defs.specs.declared.roots.SupervisorRoot.TheVariants as root
use Rattle.arch_defs.specs.declared.walks.MissingPlace.{MissingPlace}
use Rattle.arch_defs.specs.declared.walks.Privilege.{Privilege}
use Rattle.arch_defs.specs.declared.walks.WalkEnd.{WalkEnd}
use Rattle.arch_defs.specs.declared.walks.WalkEnd.TheVariants.{Leaf, PageFault, FetchEnd}
use Rattle.arch_defs.specs.declared.widths.Width.{Width}
use Rattle.arch_defs.specs.declared.widths.Width.TheVariants.{Word}
use Rattle.arch_defs.specs.FirstEntries.{first_entry}
use Rattle.arch_defs.specs.Memory.{Known, Reading, SecondStage, mmu}
use Rattle.arch_defs.specs.Roots.{supervisor_shape}
use Rattle.arch_defs.specs.Traps.{exception, faults_of}
use Rattle.arch_defs.specs.Translation.{entry_words_through, first_stage, found_by, found_under, privilege_of, supervisor_of}
use Rattle.arch_defs.specs.Walk.{walk}
use Rattle.arch_defs.specs.Widths.{bytes_in}
use Rattle.op_defs.specs.declared.ops.Effect.{Effect}
use Rattle.op_defs.specs.declared.ops.Effect.TheVariants.{Sets, Raises, Data, Calls, Privileged}
use Rattle.op_defs.specs.declared.ops.Op.{Op}
use Rattle.op_defs.specs.Meaning.{meaning}
use Rattle.op_defs.specs.Table.{op_of}
use Rattle.machine_defs.specs.Core.{At, Fails, Faults, Located, Misses, accessed, at_place, completed, core, decoded, done, event_of, executed, fetch_place, found_with, instruction, kind_of, located_by, word_at}
use Rattle.machine_defs.specs.FirstLeaves.{entries_of, entry_walked, found_at, found_by_effect, found_by_op, found_for, leaf_if, leaf_under, leaves_found, unless_known}
use Rattle.machine_defs.specs.Outcomes.{Missed, Outcome}
use Rattle.instruction_laws.proofs.Asking.{EndsAlike, IsWithin, PlacesAlike, accessed_alike, walks_alike}

-- the larger gives no place to an access that is missed, nor to one at which an instruction stops
abbrev NoneAt : SecondStage → Located → Type 0
NoneAt large a = (missing : MissingPlace) → a ≡ Fails (Misses missing) → large missing.address missing.kind ≡ None

abbrev pub NoneAtStop : SecondStage → Outcome → Type 0
NoneAtStop large o = (missing : MissingPlace) (wanted : _) → o ≡ Missed missing wanted → large missing.address missing.kind ≡ None

-- so an access is made alike
same_place : (small large : SecondStage) (asked : List ℕ) (a other : Located) → PlacesAlike small large asked a other → NoneAt large a → other ≡ a
same_place small large asked (At place) other alike none = alike
same_place small large asked (Fails (Faults trap)) other alike none = alike
same_place small large asked (Fails (Misses missing)) other alike none = alike.2 (none missing refl)

-- and the walk for it ends alike
same_end : (small large : SecondStage) (asked : List ℕ) (end other : WalkEnd) → EndsAlike small large asked end other
    → ((place : ℕ) (trap : Trap) → end ≡ FetchEnd place trap → large place Implicit ≡ None) → other ≡ end
same_end small large asked (Leaf frame level r w x u) other alike none = alike
same_end small large asked PageFault other alike none = alike
same_end small large asked (FetchEnd place trap) other alike none = alike.2 (none place trap refl)

leaf_same : (small large : SecondStage) → IsWithin small large → (known : Known) (reading : Reading) (mode : Mode) (privilege : Privilege) (va : ℕ) (access : Access) (atp : SupervisorRoot)
    → NoneAt large (located_by small mode va access (found_under small reading privilege va access atp))
    → leaf_under (mmu known large reading) privilege va access atp ≡ leaf_under (mmu known small reading) privilege va access atp
leaf_same small large w known reading mode privilege va access root.Bare none = refl
leaf_same small large w known reading mode privilege va access (root.Table table asid ppn) none =
    ap (leaf_if privilege access) (same_end small large _ (walk (entry_words_through small reading) (ppn % 2 ^ 44) (supervisor_shape table) va access) _
    (walks_alike small large w reading (ppn % 2 ^ 44) (supervisor_shape table) va access)
    (λ place trap is. none (record { address = place; kind = Implicit; access = access; va = va; mode = mode })
    (ap (λ end. located_by small mode va access (found_by privilege access va end)) is)))

walked_same : (small large : SecondStage) → IsWithin small large → (tag : Tag) (known : Known) (reading : Reading) (s : Virtual) (va : ℕ) (access : Access)
    → NoneAt large (located_by small s.mode va access (first_stage small reading s.csrs s.mode va access))
    → entry_walked tag (mmu known large reading) s va access ≡ entry_walked tag (mmu known small reading) s va access
unfolding entry_walked first_stage
walked_same small large w tag known reading s va access none = let atp = (supervisor_of s.csrs s.mode).atp in
    ap (option_map (first_entry tag atp va)) (leaf_same small large w known reading s.mode (privilege_of s.csrs s.mode) va access atp none)

-- so what an access finds is the same
access_same : (small large : SecondStage) → IsWithin small large → (tag : Tag) (known : Known) (reading : Reading) (s : Virtual) (va : ℕ) (width : Width) (access : Access)
    → NoneAt large (accessed (mmu known small reading) s.csrs s.mode va width access)
    → found_for tag (mmu known large reading) s va width access ≡ found_for tag (mmu known small reading) s va width access
access_same small large w tag known reading s va width access none = by (va % bytes_in width == 0) (known va access) none
  where
    by : (whole : Bool) (there : Option ℕ)
        → NoneAt large (cond whole (located_by small s.mode va access (found_with there (first_stage small reading s.csrs s.mode va access)))
        (Fails (Faults (exception s.mode (faults_of access).misaligned va))))
        → cond whole (unless_known there (entry_walked tag (mmu known large reading) s va access)) []
        ≡ cond whole (unless_known there (entry_walked tag (mmu known small reading) s va access)) []
    by true (Some address) none = refl
    by true None none = ap entries_of (walked_same small large w tag known reading s va access none)
    by false there none = refl

effect_same : (small large : SecondStage) → IsWithin small large → (tag : Tag) (known : Known) (reading : Reading) (s : Virtual) (word : ℕ) (effect : Effect)
    → NoneAtStop large (executed (mmu known small reading) s word effect)
    → found_by_effect tag (mmu known large reading) s effect ≡ found_by_effect tag (mmu known small reading) s effect
effect_same small large w tag known reading s word (Sets rd value next) none = refl
effect_same small large w tag known reading s word (Raises cause tval) none = refl
effect_same small large w tag known reading s word (Data wanted) none =
    access_same small large w tag known reading s wanted.address wanted.width (kind_of wanted.purpose)
    (λ missing is. none missing (Some wanted)
    (ap (λ a. at_place (Some wanted) a (λ place. done (event_of s.regs.pc word) (completed reading s wanted.width wanted.purpose place))) is))
effect_same small large w tag known reading s word Calls none = refl
effect_same small large w tag known reading s word (Privileged effect) none = refl

op_same : (small large : SecondStage) → IsWithin small large → (tag : Tag) (known : Known) (reading : Reading) (s : Virtual) (word : ℕ) (o : Option Op)
    → NoneAtStop large (decoded (mmu known small reading) s word o)
    → found_by_op tag (mmu known large reading) s o ≡ found_by_op tag (mmu known small reading) s o
op_same small large w tag known reading s word (Some o) none = effect_same small large w tag known reading s word (meaning o s.regs) none
op_same small large w tag known reading s word None none = refl

at_same : (small large : SecondStage) → IsWithin small large → (tag : Tag) (known : Known) (reading : Reading) (s : Virtual) (a other : Located) → other ≡ a
    → NoneAtStop large (at_place None a (λ place. instruction (mmu known small reading) s (word_at reading place)))
    → found_at tag (mmu known large reading) s other ≡ found_at tag (mmu known small reading) s a
at_same small large w tag known reading s (At place) other same none =
    rw same (op_same small large w tag known reading s (word_at reading place) (op_of (word_at reading place)) none)
at_same small large w tag known reading s (Fails failure) other same none = rw same refl

-- and all that the instruction finds
pub found_alike : (small large : SecondStage) → IsWithin small large → (tag : Tag) (known : Known) (reading : Reading) (s : Virtual)
    → NoneAtStop large (core (mmu known small reading) s)
    → leaves_found tag (mmu known large reading) s ≡ leaves_found tag (mmu known small reading) s
unfolding leaves_found core
found_alike small large w tag known reading s none =
    ap (λ front. front ++ found_at tag (mmu known large reading) s (fetch_place (mmu known large reading) s)) (access_same small large w tag known reading s s.regs.pc Word Fetch at_pc)
    ∙ ap (λ behind. found_for tag (mmu known small reading) s s.regs.pc Word Fetch ++ behind)
    (at_same small large w tag known reading s (fetch_place (mmu known small reading) s) (fetch_place (mmu known large reading) s)
    (same_place small large _ (fetch_place (mmu known small reading) s) (fetch_place (mmu known large reading) s)
    (accessed_alike small large w known reading s.csrs s.mode s.regs.pc Word Fetch) at_pc) none)
  where
    at_pc : NoneAt large (fetch_place (mmu known small reading) s)
    at_pc missing is = none missing None (ap (λ a. at_place None a (λ place. instruction (mmu known small reading) s (word_at reading place))) is)
