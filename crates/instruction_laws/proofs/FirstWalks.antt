-- First-stage translations of a free machine: what a try finds, walks give it, and what is known by them is
-- known by one of them.
use Rattle.std.specs.Prelude.{Contains, ◌==◌, find, option_map}
use Rattle.std.specs.List.{All}
use Rattle.std.proofs.Common.{cond, ◌≡◌, ℕ, ◌/◌, ◌%◌, ◌∙◌, ◌⊎◌, inl, inr, Bool, true, false, List, [], ◌∷◌, Option, Some, None, refl, subst, ap, arith}
use Rattle.std.proofs.Math.Path.{fun_ext}
use Rattle.std.proofs.lemmas.Bool.{both_ways}
use Rattle.std.proofs.lemmas.List.Elements.{All-append, All-contains, All-cons, All-head, All-nil, All-tail, All-weaker}
use Rattle.arch_defs.specs.declared.first.FirstEntry.{FirstEntry}
use Rattle.arch_defs.specs.declared.modes.Access.{Access}
use Rattle.arch_defs.specs.declared.modes.Access.TheVariants.{Fetch}
use Rattle.arch_defs.specs.declared.registers.Virtual.{Virtual}
use Rattle.arch_defs.specs.declared.roots.SupervisorRoot.{SupervisorRoot}
use Rattle.arch_defs.specs.declared.roots.SupervisorRoot.TheVariants as root
use Rattle.arch_defs.specs.declared.widths.Width.{Width}
use Rattle.arch_defs.specs.declared.widths.Width.TheVariants.{Word}
use Rattle.arch_defs.specs.FirstEntries.{first_entry, is_first_of, known_by, known_under}
use Rattle.arch_defs.specs.Interrupts.{due}
use Rattle.arch_defs.specs.Memory.{Known, Mmu, SecondStage, mmu, nothing_known, ram_memory, reading_of}
use Rattle.arch_defs.specs.Roots.{names_table}
use Rattle.arch_defs.specs.Translation.{privilege_of, supervisor_of}
use Rattle.arch_defs.specs.Widths.{bytes_in}
use Rattle.op_defs.specs.declared.ops.Effect.{Effect}
use Rattle.op_defs.specs.declared.ops.Effect.TheVariants.{Sets, Raises, Data, Calls, Privileged}
use Rattle.op_defs.specs.declared.ops.Op.{Op}
use Rattle.op_defs.specs.Meaning.{meaning}
use Rattle.op_defs.specs.Table.{op_of}
use Rattle.machine_defs.specs.Core.{At, Fails, Located, fetch_place, kind_of, word_at}
use Rattle.machine_defs.specs.FirstLeaves.{entry_walked, found_at, found_by_effect, found_by_op, found_for, known_of, leaf_under, leaves_found, tag_of, unless_known}
use Rattle.machine_defs.specs.FreeMachines.{FreeMachine, FreeStep, IsByFirst, IsFirstWalked, MayKnow, while_active}
use Rattle.machine_defs.specs.Machine.{Machine}
use Rattle.machine_defs.specs.Tries.{Stages, found_by_try, found_with_code}

-- what an access finds, a walk gives
walked_is : (known : Known) (second : SecondStage) (virt : Virtual) (ram : List ℕ) (va : ℕ) (access : Access) (e : FirstEntry)
    → entry_walked (tag_of virt) (mmu known second (reading_of (ram_memory ram))) virt va access ≡ Some e → IsFirstWalked virt ram second e
unfolding entry_walked
walked_is known second virt ram va access e is = record { va = va; access = access; walked = is }

access_walked : (known : Known) (second : SecondStage) (virt : Virtual) (ram : List ℕ) (va : ℕ) (width : Width) (access : Access)
    → All (IsFirstWalked virt ram second) (found_for (tag_of virt) (mmu known second (reading_of (ram_memory ram))) virt va width access)
access_walked known second virt ram va width access =
    by (va % bytes_in width == 0) (known va access) (entry_walked (tag_of virt) (mmu known second (reading_of (ram_memory ram))) virt va access)
    (λ e is. walked_is known second virt ram va access e is)
  where
    by : (whole : Bool) (there : Option ℕ) (found : Option FirstEntry) → ((e : FirstEntry) → found ≡ Some e → IsFirstWalked virt ram second e)
        → All (IsFirstWalked virt ram second) (cond whole (unless_known there found) [])
    by true None (Some e) walked = All-cons (IsFirstWalked virt ram second) e [] (walked e refl) (All-nil (IsFirstWalked virt ram second))
    by true None None walked = All-nil (IsFirstWalked virt ram second)
    by true (Some address) found walked = All-nil (IsFirstWalked virt ram second)
    by false there found walked = All-nil (IsFirstWalked virt ram second)

effect_walked : (known : Known) (second : SecondStage) (virt : Virtual) (ram : List ℕ) (effect : Effect)
    → All (IsFirstWalked virt ram second) (found_by_effect (tag_of virt) (mmu known second (reading_of (ram_memory ram))) virt effect)
effect_walked known second virt ram (Data wanted) = access_walked known second virt ram wanted.address wanted.width (kind_of wanted.purpose)
effect_walked known second virt ram (Sets rd value next) = All-nil (IsFirstWalked virt ram second)
effect_walked known second virt ram (Raises cause tval) = All-nil (IsFirstWalked virt ram second)
effect_walked known second virt ram Calls = All-nil (IsFirstWalked virt ram second)
effect_walked known second virt ram (Privileged effect) = All-nil (IsFirstWalked virt ram second)

op_walked : (known : Known) (second : SecondStage) (virt : Virtual) (ram : List ℕ) (o : Option Op)
    → All (IsFirstWalked virt ram second) (found_by_op (tag_of virt) (mmu known second (reading_of (ram_memory ram))) virt o)
op_walked known second virt ram (Some o) = effect_walked known second virt ram (meaning o virt.regs)
op_walked known second virt ram None = All-nil (IsFirstWalked virt ram second)

at_walked : (known : Known) (second : SecondStage) (virt : Virtual) (ram : List ℕ) (a : Located)
    → All (IsFirstWalked virt ram second) (found_at (tag_of virt) (mmu known second (reading_of (ram_memory ram))) virt a)
at_walked known second virt ram (At place) = op_walked known second virt ram (op_of (word_at (reading_of (ram_memory ram)) place))
at_walked known second virt ram (Fails failure) = All-nil (IsFirstWalked virt ram second)

all_walked : (known : Known) (second : SecondStage) (virt : Virtual) (ram : List ℕ)
    → All (IsFirstWalked virt ram second) (leaves_found (tag_of virt) (mmu known second (reading_of (ram_memory ram))) virt)
unfolding leaves_found
all_walked known second virt ram = let through = mmu known second (reading_of (ram_memory ram)) in
    All-append (IsFirstWalked virt ram second) (found_for (tag_of virt) through virt virt.regs.pc Word Fetch) (found_at (tag_of virt) through virt (fetch_place through virt))
    (access_walked known second virt ram virt.regs.pc Word Fetch) (at_walked known second virt ram (fetch_place through virt))

-- so all that a try finds
pub tried_walked : (m : Machine) (stages : Stages) → All (IsFirstWalked m.platform.virt m.ram stages.second) (found_by_try stages m)
unfolding found_by_try
tried_walked m stages = by (due m.platform.virt.csrs m.platform.virt.mode)
  where
    by : (code : Option ℕ) → All (IsFirstWalked m.platform.virt m.ram stages.second) (found_with_code stages m code)
    by (Some code) = All-nil (IsFirstWalked m.platform.virt m.ram stages.second)
    by None = all_walked stages.known stages.second m.platform.virt m.ram

-- a translation that is found is held, and is the one that was looked for
found_is : (test : FirstEntry → Bool) (P : FirstEntry → Type 0) (entries : List FirstEntry) (e : FirstEntry) → All P entries → find test entries ≡ Some e
    → P e × (test e ≡ true)
found_is test P [] e all is = absurd cc
found_is test P (x ∷ xs) e all is = by (test x) refl is (λ rest. found_is test P xs e (All-tail P x xs all) rest)
  where
    by : (b : Bool) → test x ≡ b → cond b (Some x) (find test xs) ≡ Some e → (find test xs ≡ Some e → P e × (test e ≡ true)) → P e × (test e ≡ true)
    by true passes is deeper = let same : x ≡ e = cc in rw (← same) (All-head P x xs all, passes)
    by false fails is deeper = deeper is

-- what a machine knows by its translations, a free one may know by them and others
may_know_under : (virt : Virtual) (first held : List FirstEntry) → All (Contains held) first → (atp : SupervisorRoot) → (supervisor_of virt.csrs virt.mode).atp ≡ atp
    → MayKnow virt held (known_under first (tag_of virt) (privilege_of virt.csrs virt.mode) atp)
unfolding known_under
may_know_under virt first held all root.Bare is = λ va access. inr refl
may_know_under virt first held all (root.Table table asid ppn) is = λ va access. by va access (find (is_first_of (tag_of virt) (root.Table table asid ppn) (va / 4096)) first) refl
  where
    by : (va : ℕ) (access : Access) (there : Option FirstEntry) → find (is_first_of (tag_of virt) (root.Table table asid ppn) (va / 4096)) first ≡ there
        → IsByFirst virt held va access (known_by (privilege_of virt.csrs virt.mode) va access there)
        ⊎ (known_by (privilege_of virt.csrs virt.mode) va access there ≡ None)
    by va access None none = inr refl
    by va access (Some e) found = let both = found_is (is_first_of (tag_of virt) (root.Table table asid ppn) (va / 4096)) (Contains held) first e all found in
        inl (record {
          table = ap names_table is;
          entry = e;
          held = both.0;
          key = ap (λ atp. is_first_of (tag_of virt) atp (va / 4096) e) is ∙ both.1;
          place = refl;
        })

pub may_know : (virt : Virtual) (first held : List FirstEntry) → All (Contains held) first → MayKnow virt held (known_of first (tag_of virt) virt)
may_know virt first held all = may_know_under virt first held all (supervisor_of virt.csrs virt.mode).atp refl

-- where none can serve, nothing is known
pub nothing_by_none : (virt : Virtual) (first : List FirstEntry) (known : Known) → MayKnow virt first known
    → ((va : ℕ) (access : Access) (answer : Option ℕ) → IsByFirst virt first va access answer → ⊥) → known ≡ nothing_known
nothing_by_none virt first known may never = fun_ext (λ va. fun_ext (λ access. by va access (may va access)))
  where
    by : (va : ℕ) (access : Access) → IsByFirst virt first va access (known va access) ⊎ (known va access ≡ None) → known va access ≡ None
    by va access (inl one) = absurd (never va access (known va access) one)
    by va access (inr none) = none

pub bare_knows : (virt : Virtual) (first : List FirstEntry) (known : Known) → MayKnow virt first known → (supervisor_of virt.csrs virt.mode).atp ≡ root.Bare → known ≡ nothing_known
bare_knows virt first known may bare = nothing_by_none virt first known may
    (λ va access answer one. both_ways (names_table (supervisor_of virt.csrs virt.mode).atp) (ap names_table bare) one.table)

-- and under Bare none can be walked, so none is cached after a step, if none was before it
none_walked : (virt : Virtual) (ram : List ℕ) (second : SecondStage) (e : FirstEntry) → (supervisor_of virt.csrs virt.mode).atp ≡ root.Bare
    → IsFirstWalked virt ram second e → ⊥
unfolding entry_walked
none_walked virt ram second e bare walk = by (supervisor_of virt.csrs virt.mode).atp bare walk.walked
  where
    through : Mmu
    through = mmu nothing_known second (reading_of (ram_memory ram))

    by : (atp : SupervisorRoot) → atp ≡ root.Bare
        → option_map (first_entry (tag_of virt) atp walk.va) (leaf_under through (privilege_of virt.csrs virt.mode) walk.va walk.access atp) ≡ Some e → ⊥
    by root.Bare is walked = absurd cc
    by (root.Table table asid ppn) is walked = absurd cc

all_gone : (entries : List FirstEntry) → All (λ e. ⊥) entries → entries ≡ []
all_gone [] all = refl
all_gone (e ∷ es) all = absurd (All-head (λ (e : FirstEntry). ⊥) e es all)

pub bare_empties : (f g : FreeMachine) (s : FreeStep while_active f g) → f.platform.virt.first ≡ [] → (supervisor_of f.platform.virt.csrs f.platform.virt.mode).atp ≡ root.Bare → g.platform.virt.first ≡ []
bare_empties f g s none bare = all_gone g.platform.virt.first (All-weaker (Contains s.first) (λ e. ⊥) (λ e held. held_never e (All-contains Held s.first e s.first_allowed held)) g.platform.virt.first s.first_kept)
  where
    Held : FirstEntry → Type 0
    Held e = Contains f.platform.virt.first e ⊎ IsFirstWalked f.platform.virt f.ram s.stages.second e

    empty_never : (e : FirstEntry) → Contains [] e → ⊥
    empty_never e held = absurd (omega (arith, held.1))

    held_never : (e : FirstEntry) → Held e → ⊥
    held_never e (inl held) = empty_never e (subst (λ first. Contains first e) none held)
    held_never e (inr walk) = none_walked f.platform.virt f.ram s.stages.second e bare walk
