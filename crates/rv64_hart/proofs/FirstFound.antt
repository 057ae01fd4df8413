-- What accesses find in the first stage.
use Rattle.std.specs.Prelude.{◌||◌, not}
use Rattle.std.proofs.Common.{cond, nat_eq, ◌≡◌, ◌⊎◌, inl, inr, ℕ, ◌%◌, ◌^◌, Bool, true, false, List, [], ◌∷◌, ◌++◌, Option, Some, None, Err, refl, ap, sym, subst, ◌∙◌}
use Rattle.arch_defs.specs.declared.first.FirstEntry.{FirstEntry}
use Rattle.arch_defs.specs.declared.first.Tag.{Tag}
use Rattle.arch_defs.specs.declared.hart_states.HartState.{HartState}
use Rattle.arch_defs.specs.declared.modes.Access.{Access}
use Rattle.arch_defs.specs.declared.modes.Trap.{Trap}
use Rattle.arch_defs.specs.declared.registers.Csrs.{Csrs}
use Rattle.arch_defs.specs.declared.modes.Access.TheVariants.{Fetch}
use Rattle.arch_defs.specs.declared.registers.Virtual.{Virtual}
use Rattle.arch_defs.specs.declared.roots.SupervisorRoot.{SupervisorRoot}
use Rattle.arch_defs.specs.declared.roots.SupervisorRoot.TheVariants as root
use Rattle.arch_defs.specs.declared.walks.Found.TheVariants.{Passes, PageFaults}
use Rattle.arch_defs.specs.declared.walks.LeafPte.{LeafPte}
use Rattle.arch_defs.specs.declared.walks.Privilege.{Privilege}
use Rattle.arch_defs.specs.declared.walks.WalkEnd.{WalkEnd}
use Rattle.arch_defs.specs.declared.walks.WalkEnd.TheVariants.{Leaf, PageFault, FetchEnd}
use Rattle.arch_defs.specs.declared.widths.Width.TheVariants.{Word}
use Rattle.arch_defs.specs.FirstEntries.{all_filled, first_filled, known_under}
use Rattle.arch_defs.specs.Memory.{Mmu, Reading, SecondStage, machine_memory}
use Rattle.arch_defs.specs.Permits.{permits_first}
use Rattle.arch_defs.specs.Roots.{supervisor_shape}
use Rattle.arch_defs.specs.TableEntries.{leaf_with}
use Rattle.arch_defs.specs.Translation.{entry_words_through, found_by, found_under}
use Rattle.arch_defs.specs.Walk.{leaf_address, walk}
use Rattle.op_defs.specs.declared.ops.DataAccess.{DataAccess}
use Rattle.op_defs.specs.declared.ops.Effect.{Effect}
use Rattle.op_defs.specs.declared.ops.Effect.TheVariants.{Sets, Raises, Data, Calls, Privileged}
use Rattle.op_defs.specs.declared.ops.Op.{Op}
use Rattle.op_defs.specs.Meaning.{meaning}
use Rattle.op_defs.specs.declared.ops.Op.TheVariants.{Ecall}
use Rattle.op_defs.specs.Fields.{opcode}
use Rattle.op_defs.specs.Table.{is_system, op_of, system_of, system_op_of}
use Rattle.rv64_decode.specs.Common.{common_op_of}
use Rattle.machine_defs.specs.Answers.{answer_of}
use Rattle.machine_defs.specs.Core.{At, Completion, Fails, Faults, Located, Misses, accessed_data, at_place, called_from, completed, core, data_place, decoded, done, event_of, fetch_place, found_with, instruction, kind_of, word_at}
use Rattle.machine_defs.specs.FirstLeaves.{entries_of, found_at, found_by_effect, found_by_op, found_for, leaf_if, leaf_under, leaves_found, unless_known}
use Rattle.instruction_laws.specs.MissedPlaces.{wanted_by, wanted_of}
use Rattle.translation_buffer.specs.Places.{passed_by}
use Rattle.rv64_hart.specs.declared.endings.Ended.{Ended}
use Rattle.rv64_hart.specs.declared.endings.Ended.TheVariants as ended
use Rattle.rv64_hart.specs.Endings.{IfMade, attempt_at, attempt_by, attempt_of_effect, attempt_of_word, attempt_with}
use Rattle.rv64_hart.specs.MachineMemory.{found_by_wanted, found_on, found_over, mmu_on, reading_of_memory}
use Rattle.machine_defs.specs.declared.events.Event.{Event}
use Rattle.machine_defs.specs.declared.events.Event.TheVariants.{Plain, System}
use Rattle.rv64_hart.specs.Steps.{Attempt, Makes, attempt_of, caching, caching_found, with_found_on}

-- where no table is walked, the address is passed on, and nothing is found
pub passes : (first : List FirstEntry) (tag : Tag) (second : SecondStage) (reading : Reading) (who : Privilege) (va address : ℕ) (access : Access) (atp : SupervisorRoot)
    → Some address ≡ passed_by first tag who atp va access
    → Passes address ≡ found_with (known_under first tag who atp va access) (found_under second reading who va access atp)
unfolding known_under
passes first tag second reading who va address access root.Bare is = cc
passes first tag second reading who va address access (root.Table mode asid ppn) is = rw (sym is) refl

pub passes_without : (first : List FirstEntry) (tag : Tag) (who : Privilege) (va address : ℕ) (access : Access) (atp : SupervisorRoot) (walked : SupervisorRoot → Option FirstEntry)
    → walked root.Bare ≡ None → Some address ≡ passed_by first tag who atp va access
    → [] ≡ unless_known (known_under first tag who atp va access) (walked atp)
unfolding known_under
passes_without first tag who va address access root.Bare walked bare is = sym (ap entries_of bare)
passes_without first tag who va address access (root.Table mode asid ppn) walked bare is = rw (sym is) refl

-- else it is not known
pub not_known : (first : List FirstEntry) (tag : Tag) (who : Privilege) (va : ℕ) (access : Access) (atp : SupervisorRoot)
    → None ≡ passed_by first tag who atp va access → known_under first tag who atp va access ≡ None
not_known first tag who va access root.Bare is = absurd cc
not_known first tag who va access (root.Table mode asid ppn) is = sym is

-- and a leaf that a walk finds passes it on
leaf_by : (who : Privilege) (va : ℕ) (access : Access) (leaf : LeafPte) (end : WalkEnd) → Some leaf ≡ leaf_if who access end → Passes (leaf_address leaf va) ≡ found_by who access va end
leaf_by who va access leaf (Leaf frame level r w x u) is = by (permits_first who access own) is
  where
    own : LeafPte
    own = leaf_with frame level r w x u

    by : (fit : Bool) → Some leaf ≡ cond fit (Some own) None → Passes (leaf_address leaf va) ≡ cond fit (Passes (leaf_address own va)) PageFaults
    by true is = let same : leaf ≡ own = cc in ap (λ (l : LeafPte). Passes (leaf_address l va)) same
    by false is = absurd cc
leaf_by who va access leaf PageFault is = absurd cc
leaf_by who va access leaf (FetchEnd place trap) is = absurd cc

pub leaf_passes : (through : Mmu) (who : Privilege) (va : ℕ) (access : Access) (leaf : LeafPte) (atp : SupervisorRoot) → Some leaf ≡ leaf_under through who va access atp
    → Passes (leaf_address leaf va) ≡ found_under through.second through.reading who va access atp
leaf_passes through who va access leaf root.Bare is = absurd cc
leaf_passes through who va access leaf (root.Table mode asid ppn) is =
    leaf_by who va access leaf (walk (entry_words_through through.second through.reading) (ppn % 2 ^ 44) (supervisor_shape mode) va access) is

-- what the access to data finds that a word wants
effect_found : (s : HartState) (memory : List ℕ) (effect : Effect) → found_by_effect s.tag (mmu_on s memory) s.virt effect ≡ found_by_wanted s memory (wanted_by effect)
effect_found s memory (Sets rd value next) = refl
effect_found s memory (Raises cause tval) = refl
effect_found s memory (Data wanted) = refl
effect_found s memory Calls = refl
effect_found s memory (Privileged effect) = refl

pub op_found : (s : HartState) (memory : List ℕ) (op : Option Op) → found_by_wanted s memory (wanted_of s.virt op) ≡ found_by_op s.tag (mmu_on s memory) s.virt op
op_found s memory None = refl
op_found s memory (Some op) = sym (effect_found s memory (meaning op s.virt.regs))

-- all that an instruction finds, by where its word is
pub leaves_at : (tag : Tag) (through : Mmu) (virt : Virtual) (place : ℕ) (at_pc of_data : List FirstEntry) → fetch_place through virt ≡ At place
    → at_pc ≡ found_for tag through virt virt.regs.pc Word Fetch → of_data ≡ found_by_op tag through virt (op_of (word_at through.reading place))
    → at_pc ++ of_data ≡ leaves_found tag through virt
unfolding leaves_found
leaves_at tag through virt place at_pc of_data at one two = ap (λ xs. xs ++ of_data) one
    ∙ ap (λ xs. found_for tag through virt virt.regs.pc Word Fetch ++ xs) (two ∙ ap (found_at tag through virt) (sym at))

pub leaves_nowhere : (tag : Tag) (through : Mmu) (virt : Virtual) (at_pc : List FirstEntry) → found_at tag through virt (fetch_place through virt) ≡ []
    → at_pc ≡ found_for tag through virt virt.regs.pc Word Fetch → at_pc ++ [] ≡ leaves_found tag through virt
unfolding leaves_found
leaves_nowhere tag through virt at_pc none one = ap (λ xs. xs ++ []) one ∙ ap (λ xs. found_for tag through virt virt.regs.pc Word Fetch ++ xs) (sym none)

pub found_nowhere : (tag : Tag) (through : Mmu) (virt : Virtual) (csrs : Csrs) (memory : List ℕ) (located : Located) (trap : Trap)
    → Err trap ≡ answer_of false csrs (machine_memory memory) located → found_at tag through virt located ≡ []
found_nowhere tag through virt csrs memory (At place) trap e = absurd cc
found_nowhere tag through virt csrs memory (Fails failure) trap e = refl

-- fills one after another
pub filled_both : (entries found more : List FirstEntry) → all_filled entries (found ++ more) ≡ all_filled (all_filled entries found) more
unfolding all_filled
filled_both entries [] more = refl
filled_both entries (e ∷ es) more = filled_both (first_filled entries e) es more

pub nothing_filled : (entries found : List FirstEntry) → found ≡ [] → entries ≡ all_filled entries found
unfolding all_filled
nothing_filled entries found none = rw none refl

-- an instruction at its place
pub goes_on_at : (s : HartState) (memory : List ℕ) (place : ℕ) (found : List FirstEntry) → fetch_place (mmu_on s memory) s.virt ≡ At place
    → found_over memory s s.virt.regs.pc Word Fetch ≡ found
    → attempt_of (with_found_on s memory) memory (core (mmu_on s memory) s.virt) ≡ attempt_at found s memory (word_at (reading_of_memory memory) place)
unfolding core found_on leaves_found
goes_on_at s memory place found at is =
    rw (at, is) (ap (λ (first : List FirstEntry). attempt_of (caching s first) memory (instruction (mmu_on s memory) s.virt (word_at (reading_of_memory memory) place)))
    (filled_both s.virt.first found (found_by_op s.tag (mmu_on s memory) s.virt (op_of (word_at (reading_of_memory memory) place)))))

-- the instruction of a word by what it asks for
pub op_ends : (found : List FirstEntry) (s : HartState) (memory : List ℕ) (word : ℕ) (op : Op) (effect : Effect) (r : Attempt) → op_of word ≡ Some op → effect ≡ meaning op s.virt.regs
    → attempt_with found s memory word effect ≡ r → attempt_at found s memory word ≡ r
op_ends found s memory word op effect r is e ends =
    subst (λ o. attempt_of (caching_found (caching_found s found) (found_by_op s.tag (mmu_on s memory) s.virt o)) memory (decoded (mmu_on s memory) s.virt word o) ≡ r) (sym is)
    (subst (λ x. attempt_with found s memory word x ≡ r) e ends)

-- that of a call
call_of : op_of 0x00000073 ≡ Some Ecall
unfolding op_of system_of system_op_of
call_of = refl

pub call_ends : (found : List FirstEntry) (s : HartState) (memory : List ℕ) (word : ℕ) (r : Attempt) → word ≡ 0x00000073
    → attempt_of (caching_found s found) memory (called_from s.virt.mode) ≡ r → attempt_at found s memory word ≡ r
unfolding meaning all_filled
call_ends found s memory word r is ends = op_ends found s memory word Ecall Calls r (ap op_of is ∙ call_of) refl ends

pub rare_ends : (s : HartState) (memory : List ℕ) (word : ℕ) (op : Op) (r : Attempt) → op_of word ≡ Some op → attempt_at [] s memory word ≡ r → attempt_of_effect s memory word (meaning op s.virt.regs) ≡ r
unfolding all_filled
rare_ends s memory word op r is ends =
    subst (λ o. attempt_of (caching_found s (found_by_op s.tag (mmu_on s memory) s.virt o)) memory (decoded (mmu_on s memory) s.virt word o) ≡ r) is ends

pub word_ends : (s : HartState) (memory : List ℕ) (word : ℕ) → attempt_at [] s memory word ≡ attempt_of_word s memory word
unfolding all_filled
word_ends s memory word = refl

-- a common word is none of opcode SYSTEM
pub common_plain : (word : ℕ) (op : Op) → Some op ≡ common_op_of word → is_system word ≡ false
unfolding common_op_of is_system
common_plain word op is = by (nat_eq (opcode word) 0b0001111) (nat_eq (opcode word) 0b0101111) (nat_eq (opcode word) 0b1110011) is
  where
    by : (fence atomic system : Bool) → Some op ≡ cond (not (fence || (atomic || system))) (op_of word) None → system ≡ false
    by true atomic system is = absurd cc
    by false true system is = absurd cc
    by false false true is = absurd cc
    by false false false is = refl

pub data_ends : (s : HartState) (memory : List ℕ) (word : ℕ) (op : Op) (wanted : DataAccess) (r : Attempt) → meaning op s.virt.regs ≡ Data wanted
    → attempt_of (caching_found s (found_over memory s wanted.address wanted.width (kind_of wanted.purpose))) memory (accessed_data (mmu_on s memory) s.virt (event_of s.virt.regs.pc word) wanted) ≡ r
    → attempt_of_effect s memory word (meaning op s.virt.regs) ≡ r
data_ends s memory word op wanted r is ends = subst (λ effect. attempt_of_effect s memory word effect ≡ r) (sym is) ends

pub data_made : (made : Bool) (s : HartState) (memory : List ℕ) (word : ℕ) (op : Op) (wanted : DataAccess) (r : Attempt) → meaning op s.virt.regs ≡ Data wanted
    → IfMade made (attempt_of (caching_found s (found_over memory s wanted.address wanted.width (kind_of wanted.purpose))) memory (accessed_data (mmu_on s memory) s.virt (event_of s.virt.regs.pc word) wanted) ≡ r)
    → IfMade made (attempt_of_effect s memory word (meaning op s.virt.regs) ≡ r)
data_made true s memory word op wanted r is ends = data_ends s memory word op wanted r is ends
data_made false s memory word op wanted r is ends = tt

pub effect_made : (made : Bool) (s : HartState) (memory : List ℕ) (word : ℕ) (op : Op) (effect : Effect) (r : Attempt) → IfMade made (attempt_of_effect s memory word effect ≡ r) → effect ≡ meaning op s.virt.regs
    → IfMade made (attempt_of_effect s memory word (meaning op s.virt.regs) ≡ r)
effect_made made s memory word op effect r ends is = subst (λ x. IfMade made (attempt_of_effect s memory word x ≡ r)) is ends

pub word_made : (made : Bool) (s : HartState) (memory : List ℕ) (word : ℕ) (op : Op) (after : HartState) (changed : List ℕ) → Some op ≡ common_op_of word → op_of word ≡ Some op
    → IfMade made (attempt_of_effect s memory word (meaning op s.virt.regs) ≡ Makes after changed (event_of s.virt.regs.pc word))
    → IfMade made (attempt_of_word s memory word ≡ Makes after changed (Plain s.virt.regs.pc word))
word_made true s memory word op after changed common is ends =
    subst (λ o. attempt_of (caching_found s (found_by_op s.tag (mmu_on s memory) s.virt o)) memory (decoded (mmu_on s memory) s.virt word o) ≡ Makes after changed (event_of s.virt.regs.pc word)) (sym is) ends
    ∙ ap (λ b. Makes after changed (cond b System (Plain s.virt.regs.pc word))) (common_plain word op common)
word_made false s memory word op after changed common is ends = tt

-- an access to data is not of opcode SYSTEM: where it is not made, it has raised a trap
ends_plain : (s : HartState) (memory : List ℕ) (wanted : DataAccess) (located : Located) (made : ℕ → Completion) (after : HartState) (changed : List ℕ)
    → attempt_of s memory (at_place (Some wanted) located (λ place. done (Plain 0 0) (made place))) ≡ Makes after changed System → ⊥
ends_plain s memory wanted (At place) made after changed e = absurd cc
ends_plain s memory wanted (Fails (Faults trap)) made after changed e = absurd cc
ends_plain s memory wanted (Fails (Misses missing)) made after changed e = absurd cc

pub data_raised : (how : Ended) (trap : Trap) (s : HartState) (memory : List ℕ) (through : Mmu) (state : Virtual) (wanted : DataAccess) (after : HartState) (changed : List ℕ)
    → ((event : Event) → attempt_of s memory (accessed_data through state event wanted) ≡ attempt_by how trap event after changed)
    → (how ≡ ended.System) ⊎ (how ≡ ended.Raised) → how ≡ ended.Raised
data_raised how trap s memory through state wanted after changed ends (inl system) =
    absurd (ends_plain s memory wanted (data_place through state.csrs state.mode wanted) (completed through.reading state wanted.width wanted.purpose) after changed
    (ends (Plain 0 0) ∙ ap (λ end. attempt_by end trap (Plain 0 0) after changed) system))
data_raised how trap s memory through state wanted after changed ends (inr raised) = raised

-- the instruction of a word by what it asks for, where it is made
pub word_plain : (made : Bool) (s : HartState) (memory : List ℕ) (word : ℕ) (op : Op) (effect : Effect) (r : Attempt) → op_of word ≡ Some op → effect ≡ meaning op s.virt.regs
    → IfMade made (attempt_of_effect s memory word effect ≡ r) → IfMade made (attempt_of_word s memory word ≡ r)
unfolding all_filled
word_plain true s memory word op effect r is e ends = op_ends [] s memory word op effect r is e ends
word_plain false s memory word op effect r is e ends = tt
