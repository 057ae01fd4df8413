-- What a machine's next step is about to do: nothing, where an interrupt is due, and else what the hart, loaded
-- for the guest, tells of it.
use Rattle.std.specs.Prelude.{option_and_then, option_map}
use Rattle.std.proofs.Common.{◌≡◌, ℕ, ◌∙◌, false, true, List, [], Option, Some, None, refl, ap, sym, subst}
use Rattle.arch_defs.specs.declared.registers.Virtual.{Virtual}
use Rattle.arch_defs.specs.declared.widths.Width.TheVariants.{Word}
use Rattle.arch_defs.specs.declared.modes.Access.TheVariants.{Fetch}
use Rattle.arch_defs.specs.declared.roots.GuestRoot.{GuestRoot}
use Rattle.arch_defs.specs.Interrupts.{due}
use Rattle.arch_defs.specs.Layouts.{Layout}
use Rattle.arch_defs.specs.Memory.{Mmu, Reading, mmu, ram_memory, reading_of}
use Rattle.arch_defs.specs.Ram.{IsDistinct}
use Rattle.arch_defs.specs.Traps.{is_virtual}
use Rattle.op_defs.specs.declared.ops.DataAccess.{DataAccess}
use Rattle.op_defs.specs.declared.ops.Effect.{Effect}
use Rattle.op_defs.specs.declared.ops.Effect.TheVariants.{Sets, Raises, Data, Calls, Privileged}
use Rattle.op_defs.specs.declared.ops.Op.{Op}
use Rattle.op_defs.specs.Meaning.{meaning}
use Rattle.op_defs.specs.Table.{op_of}
use Rattle.machine_defs.specs.Core.{At, Fails, Faults, Located, Misses, data_place, fetch_place, kind_of, word_at}
use Rattle.machine_defs.specs.FirstLeaves.{tag_of}
use Rattle.machine_defs.specs.Machine.{Machine}
use Rattle.machine_defs.specs.Tries.{found_by_try, mmu_of, stages_of}
use Rattle.instruction_laws.specs.HostPlaces.{in_ram, memory_place}
use Rattle.instruction_laws.specs.MissedPlaces.{wanted_at, wanted_by, wanted_of}
use Rattle.instruction_laws.specs.Renaming.{Places}
use Rattle.instruction_laws.proofs.Placed.{LocatedAlike, accessed_alike}
use Rattle.rv64_hart.specs.MachineMemory.{mmu_on, reading_of_memory, second_of_memory}
use Rattle.rv64_hart.specs.NextAccesses.{access_on, placed_access, with_place, word_on, word_there}
use Rattle.shadow_pool.specs.Slots.{Pooled}
use Rattle.world_switch.specs.Hosting.{hart_state_of, loaded_in}
use Rattle.world_switch.proofs.FirstStage.{knows_alike}
use Rattle.world_switch.proofs.Undone.{own_again}
use Rattle.hosted_steps.specs.ExitCases.{data_wanted, found_next}
use Rattle.hosted_steps.specs.HartSteps.{IsAt, host_takes, is_hosts, root_for}
use Rattle.hosted_steps.proofs.Agreement.{IsFine, IsPlain, access_alike, fetch_plain, meaning_fine}
use Rattle.hosted_steps.proofs.Followed.{keeps_page, view, wanted_is}
use Rattle.hosted_steps.proofs.Stands.{SamePlace}
use Rattle.guest_exit.specs.NextSteps.{access_next, access_with, at_own_address, word_next, word_with}

-- where an interrupt is due
pub word_due : (m : Machine) {code : ℕ} → due m.platform.virt.csrs m.platform.virt.mode ≡ Some code → None ≡ word_next m
unfolding word_next
word_due m is = rw is refl

pub access_due : (m : Machine) {code : ℕ} → due m.platform.virt.csrs m.platform.virt.mode ≡ Some code → None ≡ access_next m
unfolding access_next
access_due m is = rw is refl

pub found_due : (m : Machine) {code : ℕ} → due m.platform.virt.csrs m.platform.virt.mode ≡ Some code → [] ≡ found_next m
unfolding found_by_try
found_due m is = rw is refl

-- and where none is
pub word_undue : (m : Machine) → due m.platform.virt.csrs m.platform.virt.mode ≡ None → word_with m None ≡ word_next m
unfolding word_next
word_undue m is = rw is refl

pub access_undue : (m : Machine) → due m.platform.virt.csrs m.platform.virt.mode ≡ None → access_with m None ≡ access_next m
unfolding access_next
access_undue m is = rw is refl

pub host_takes_none : (virt : Virtual) → due virt.csrs virt.mode ≡ None → host_takes virt ≡ false
host_takes_none virt is = ap (λ code. is_hosts code (is_virtual virt.mode) virt.csrs.hideleg) is

-- the word at pc
renamed_word : (h : ℕ → ℕ) (reading other : Reading) (own host : Located) → ((place : ℕ) → own ≡ At place → other (h place) 4 ≡ reading place 4)
    → (held : Places) → LocatedAlike h held 4 own host → word_there other host ≡ word_there reading own
renamed_word h reading other (At place) host same held (e, in_set, fits) = rw (e, same place refl) refl
renamed_word h reading other (Fails failure) host same held e = rw e refl

word_alike : (root : GuestRoot) (through : Mmu) (s : Virtual)
    → word_there through.reading (fetch_place through (hart_state_of root s)) ≡ word_there through.reading (fetch_place through s)
word_alike root through s = by (fetch_place through s) (fetch_place through (hart_state_of root s)) (access_alike root s through s.regs.pc Word Fetch fetch_plain)
  where
    by : (lone hart : Located) → SamePlace s lone hart → word_there through.reading hart ≡ word_there through.reading lone
    by lone (At place) e = rw e refl
    by lone (Fails (Faults trap)) (own, e, traps) = rw e refl
    by lone (Fails (Misses missing)) (e, mode, told) = rw e refl

pub word_is : (part : Layout) (pool : Pooled) (m : Machine) (memory : List ℕ) → IsAt part pool m memory
    → word_on (loaded_in part (root_for part pool m.platform.virt) m.platform.virt) memory ≡ word_with m None
word_is part pool m memory at =
    let root = root_for part pool m.platform.virt in
    let v = hart_state_of root m.platform.virt in
    let s = loaded_in part root m.platform.virt in
    let seen = view part pool m memory at in
    let place = fetch_place (mmu_of m) v in
    let alike = accessed_alike seen (stages_of m).known (keeps_page m) v.csrs v.mode v.regs.pc Word Fetch in
    ap (λ known. word_there (reading_of_memory memory) (fetch_place (mmu known (second_of_memory s.virt memory) (reading_of_memory memory)) s.virt))
    (knows_alike root m.platform.virt m.platform.virt.first (tag_of m.platform.virt))
    ∙ renamed_word (memory_place part.blocks) (reading_of (ram_memory m.ram)) (reading_of_memory memory) place _ (read_there place _ alike) (in_ram part.blocks) alike
    ∙ word_alike root (mmu_of m) m.platform.virt
  where
    read_there : (own host : Located) → LocatedAlike (memory_place part.blocks) (in_ram part.blocks) 4 own host → (place : ℕ) → own ≡ At place
        → reading_of_memory memory (memory_place part.blocks place) 4 ≡ reading_of (ram_memory m.ram) place 4
    read_there own host alike place is =
        let held = subst (λ own. LocatedAlike (memory_place part.blocks) (in_ram part.blocks) 4 own host) is alike in
        (view part pool m memory at).same place 4 held.1 held.2

-- the accesses that instructions want are such as the hart makes
fine_plain : (effect : Effect) (wanted : DataAccess) → IsFine effect → wanted_by effect ≡ Some wanted → IsPlain (kind_of wanted.purpose)
fine_plain (Data access) wanted fine is = subst (λ o. from o) is fine
  where
    from : Option DataAccess → Type 0
    from (Some access) = IsPlain (kind_of access.purpose)
    from None = Unit {0}
fine_plain (Sets rd value next) wanted fine is = absurd (cc)
fine_plain (Raises cause tval) wanted fine is = absurd (cc)
fine_plain Calls wanted fine is = absurd (cc)
fine_plain (Privileged effect) wanted fine is = absurd (cc)

op_plain : (virt : Virtual) (o : Option Op) (wanted : DataAccess) → wanted_of virt o ≡ Some wanted → IsPlain (kind_of wanted.purpose)
op_plain virt (Some o) wanted is = fine_plain (meaning o virt.regs) wanted (meaning_fine o virt.regs) is
op_plain virt None wanted is = absurd (cc)

wanted_plain : (m : Machine) (wanted : DataAccess) → data_wanted m ≡ Some wanted → IsPlain (kind_of wanted.purpose)
wanted_plain m wanted is = by (fetch_place (mmu_of m) m.platform.virt) is
  where
    by : (located : Located) → wanted_at (mmu_of m).reading m.platform.virt located ≡ Some wanted → IsPlain (kind_of wanted.purpose)
    by (At place) is = op_plain m.platform.virt (op_of (word_at (mmu_of m).reading place)) wanted is
    by (Fails failure) is = absurd (cc)

-- where one is made
back_by : (blocks : List ℕ) (wanted : DataAccess) (n : ℕ) → IsDistinct blocks → (own host : Located) → LocatedAlike (memory_place blocks) (in_ram blocks) n own host
    → option_and_then (at_own_address blocks) (with_place wanted host) ≡ with_place wanted own
back_by blocks wanted n distinct (At place) host (e, in_set, fits) = rw e (ap (option_map (λ address. (wanted, address))) (own_again blocks place distinct in_set))
back_by blocks wanted n distinct (Fails failure) host e = rw e refl

place_alike : (root : GuestRoot) (through : Mmu) (s : Virtual) (wanted : DataAccess) → IsPlain (kind_of wanted.purpose)
    → placed_access through (hart_state_of root s) (Some wanted) ≡ placed_access through s (Some wanted)
place_alike root through s wanted plain =
    by (data_place through s.csrs s.mode wanted) (data_place through (hart_state_of root s).csrs (hart_state_of root s).mode wanted)
    (access_alike root s through wanted.address wanted.width (kind_of wanted.purpose) plain)
  where
    by : (lone hart : Located) → SamePlace s lone hart → with_place wanted hart ≡ with_place wanted lone
    by lone (At place) e = rw e refl
    by lone (Fails (Faults trap)) (own, e, traps) = rw e refl
    by lone (Fails (Misses missing)) (e, mode, told) = rw e refl

-- an access to data that the next instruction wants
wanted_placed : (part : Layout) (pool : Pooled) (m : Machine) (memory : List ℕ) → IsAt part pool m memory → (wanted : Option DataAccess) → data_wanted m ≡ wanted
    → option_and_then (at_own_address part.blocks)
    (placed_access (mmu_on (loaded_in part (root_for part pool m.platform.virt) m.platform.virt) memory) (loaded_in part (root_for part pool m.platform.virt) m.platform.virt).virt wanted)
    ≡ placed_access (mmu_of m) m.platform.virt wanted
wanted_placed part pool m memory at None is = refl
wanted_placed part pool m memory at (Some wanted) is =
    let root = root_for part pool m.platform.virt in
    let v = hart_state_of root m.platform.virt in
    let s = loaded_in part root m.platform.virt in
    let alike = accessed_alike (view part pool m memory at) (stages_of m).known (keeps_page m) v.csrs v.mode wanted.address wanted.width (kind_of wanted.purpose) in
    ap (λ known. option_and_then (at_own_address part.blocks) (with_place wanted (data_place (mmu known (second_of_memory s.virt memory) (reading_of_memory memory)) s.virt.csrs s.virt.mode wanted)))
    (knows_alike root m.platform.virt m.platform.virt.first (tag_of m.platform.virt))
    ∙ back_by part.blocks wanted _ at.once.distinct (data_place (mmu_of m) v.csrs v.mode wanted) _ alike
    ∙ place_alike root (mmu_of m) m.platform.virt wanted (wanted_plain m wanted is)

pub access_is : (part : Layout) (pool : Pooled) (m : Machine) (memory : List ℕ) → IsAt part pool m memory
    → option_and_then (at_own_address part.blocks) (access_on (loaded_in part (root_for part pool m.platform.virt) m.platform.virt) memory) ≡ access_with m None
access_is part pool m memory at =
    let s = loaded_in part (root_for part pool m.platform.virt) m.platform.virt in
    ap (λ wanted. option_and_then (at_own_address part.blocks) (placed_access (mmu_on s memory) s.virt wanted)) (wanted_is part pool m memory at)
    ∙ wanted_placed part pool m memory at (data_wanted m) refl
