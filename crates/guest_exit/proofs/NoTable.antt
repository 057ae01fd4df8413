-- Where no table of the first stage translates a state's accesses, its next step finds no translation.
use Rattle.std.proofs.Common.{cond, ◌≡◌, ℕ, ◌%◌, ◌==◌, Bool, true, false, [], Option, Some, None, refl, sym}
use Rattle.arch_defs.specs.declared.first.Tag.{Tag}
use Rattle.arch_defs.specs.declared.modes.Access.{Access}
use Rattle.arch_defs.specs.declared.modes.Access.TheVariants.{Fetch}
use Rattle.arch_defs.specs.declared.registers.Virtual.{Virtual}
use Rattle.arch_defs.specs.declared.roots.SupervisorRoot.TheVariants as root
use Rattle.arch_defs.specs.declared.widths.Width.{Width}
use Rattle.arch_defs.specs.declared.widths.Width.TheVariants.{Word}
use Rattle.arch_defs.specs.Memory.{Mmu}
use Rattle.arch_defs.specs.Translation.{supervisor_of}
use Rattle.arch_defs.specs.Widths.{bytes_in}
use Rattle.op_defs.specs.declared.ops.Effect.{Effect}
use Rattle.op_defs.specs.declared.ops.Effect.TheVariants.{Sets, Raises, Data, Calls, Privileged}
use Rattle.op_defs.specs.declared.ops.Op.{Op}
use Rattle.op_defs.specs.Meaning.{meaning}
use Rattle.op_defs.specs.Table.{op_of}
use Rattle.machine_defs.specs.Core.{At, Fails, Located, fetch_place, kind_of, word_at}
use Rattle.machine_defs.specs.FirstLeaves.{entry_walked, found_at, found_by_effect, found_by_op, found_for, leaves_found, tag_of, unless_known}
use Rattle.machine_defs.specs.Machine.{Machine}
use Rattle.machine_defs.specs.Tries.{found_by_try, found_with_code, mmu_under, stages_of}
use Rattle.arch_defs.specs.Interrupts.{due}
use Rattle.rv64_hart.specs.declared.leaves.Leaves.{Leaves}
use Rattle.rv64_hart.specs.Leaves.{AreNone, leaves_list}
use Rattle.hosted_steps.specs.ExitCases.{found_next}

abbrev IsBare : Virtual → Type 0
IsBare virt = (supervisor_of virt.csrs virt.mode).atp ≡ root.Bare

none_walked : (tag : Tag) (through : Mmu) (virt : Virtual) (va : ℕ) (access : Access) → IsBare virt → entry_walked tag through virt va access ≡ None
unfolding entry_walked
none_walked tag through virt va access bare = rw bare refl

none_for : (tag : Tag) (through : Mmu) (virt : Virtual) (va : ℕ) (width : Width) (access : Access) → IsBare virt → found_for tag through virt va width access ≡ []
none_for tag through virt va width access bare =
    rw (none_walked tag through virt va access bare) (by (va % bytes_in width == 0) (through.known va access))
  where
    by : (aligned : Bool) (known : Option ℕ) → cond aligned (unless_known known None) [] ≡ []
    by true (Some address) = refl
    by true None = refl
    by false known = refl

none_by_effect : (tag : Tag) (through : Mmu) (virt : Virtual) (effect : Effect) → IsBare virt → found_by_effect tag through virt effect ≡ []
none_by_effect tag through virt (Sets rd value next) bare = refl
none_by_effect tag through virt (Raises cause tval) bare = refl
none_by_effect tag through virt (Data wanted) bare = none_for tag through virt wanted.address wanted.width (kind_of wanted.purpose) bare
none_by_effect tag through virt Calls bare = refl
none_by_effect tag through virt (Privileged effect) bare = refl

none_by_op : (tag : Tag) (through : Mmu) (virt : Virtual) (op : Option Op) → IsBare virt → found_by_op tag through virt op ≡ []
none_by_op tag through virt None bare = refl
none_by_op tag through virt (Some op) bare = none_by_effect tag through virt (meaning op virt.regs) bare

none_at : (tag : Tag) (through : Mmu) (virt : Virtual) (at : Located) → IsBare virt → found_at tag through virt at ≡ []
none_at tag through virt (At place) bare = none_by_op tag through virt (op_of (word_at through.reading place)) bare
none_at tag through virt (Fails failure) bare = refl

no_leaves : (tag : Tag) (through : Mmu) (virt : Virtual) → IsBare virt → leaves_found tag through virt ≡ []
unfolding leaves_found
no_leaves tag through virt bare =
    rw (none_for tag through virt virt.regs.pc Word Fetch bare, none_at tag through virt (fetch_place through virt) bare) refl

pub bare_finds_nothing : (m : Machine) (leaves : Leaves) → AreNone leaves → IsBare m.platform.virt → leaves_list leaves ≡ found_next m
unfolding found_by_try
bare_finds_nothing m leaves none bare = rw (none.0, none.1) (by (due m.platform.virt.csrs m.platform.virt.mode))
  where
    by : (code : Option ℕ) → [] ≡ found_with_code (stages_of m) m code
    by (Some code) = refl
    by None = sym (no_leaves (tag_of m.platform.virt) (mmu_under (stages_of m) m) m.platform.virt bare)
