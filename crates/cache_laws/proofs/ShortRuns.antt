-- Short runs.
use Rattle.std.specs.List.{All, Contains}
use Rattle.std.proofs.Common.{◌≡◌, ◌∙◌, ◌⊎◌, inl, inr, true, false, List, [], ◌∷◌, Option, Some, None, refl, sym, subst, ap, arith}
use Rattle.std.proofs.lemmas.List.Elements.{All-contains, All-head, All-nil, All-weaker}
use Rattle.arch_defs.specs.declared.cached.Fence.{Fence}
use Rattle.machine_defs.specs.Machine.{Platform}
use Rattle.machine_defs.specs.FreeMachines.{CachedTranslation, FreeMachine, FreeMove, FreeStep, IsWalked, free_of, is_named, left_under, uncached, while_active, while_folding, without_buffer}
use Rattle.cache_laws.specs.Caching.{by_walks}
use Rattle.fill_laws.specs.Keeping.{IsOrderly}
use Rattle.cache_laws.proofs.FreeRuns.{runs_are_architectural}
use Rattle.instruction_laws.proofs.FirstWalks.{bare_empties, bare_knows}
use Rattle.cache_laws.proofs.FreeSteps.{flat_steps, steps_by, walked_steps}
use Rattle.arch_defs.specs.CachedEntries.{device_by_entries, second_by}
use Rattle.arch_defs.specs.CsrBits.{guest_root_of}
use Rattle.arch_defs.specs.FirstEntries.{all_filled, first_filled, known_under, unnamed_first}
use Rattle.arch_defs.specs.Interrupts.{due, due_for_hs, due_for_vs}
use Rattle.arch_defs.specs.Memory.{nothing_known}
use Rattle.arch_defs.specs.SecondStage.{second_walk}
use Rattle.arch_defs.specs.Spaces.{entered, fenced}
use Rattle.arch_defs.specs.Translation.{first_stage}
use Rattle.arch_defs.specs.Traps.{entered_hs, returned, target}
use Rattle.arch_defs.specs.Permits.{permits_first, permits_second}
use Rattle.arch_defs.specs.Walk.{end_of, path, path_from, walk}
use Rattle.arch_defs.specs.WalkedEntries.{entry_by_walk}
use Rattle.op_defs.specs.Arithmetic.{alu}
use Rattle.op_defs.specs.Meaning.{meaning}
use Rattle.op_defs.specs.Table.{fence_op_of, immediate_arithmetic_of, immediate_op_of, is_system, op_of, system_of, system_op_of}
use Rattle.machine_defs.specs.Core.{core}
use Rattle.machine_defs.specs.Fills.{after_fills, missing_entry, missing_entry_under}
use Rattle.machine_defs.specs.FirstLeaves.{entry_walked, leaves_found}
use Rattle.machine_defs.specs.Privileges.{privileged, refusal}
use Rattle.machine_defs.specs.Runs.{run, step}
use Rattle.machine_defs.specs.Tries.{fence_under, try_under}
use Rattle.cache_laws.specs.ShortRuns.{FencedFaults, FencedFaultsFreely, FencedFirstFaults, HasFaulted, MayDropStale, MayUseStale, OtherFencesKeepFirst, StaleFirstIsUsed, StaleIsUsed, csrs_before, fence_bytes, first_machine, nop, stale_atp, stale_entry, stale_first, stale_machine, stale_root}

pub stale_is_used : StaleIsUsed
unfolding run step try_under after_fills missing_entry missing_entry_under core due due_for_hs due_for_vs first_stage op_of system_of system_op_of fence_op_of immediate_arithmetic_of immediate_op_of alu meaning privileged refusal fenced entered returned second_by guest_root_of csrs_before stale_machine stale_root stale_entry entry_by_walk second_walk walk path path_from end_of target entered_hs is_system permits_second device_by_entries known_under
stale_is_used = record { mode = refl; value = refl }

pub fenced_faults : FencedFaults
unfolding run step try_under after_fills missing_entry missing_entry_under core due due_for_hs due_for_vs first_stage op_of system_of system_op_of fence_op_of immediate_arithmetic_of immediate_op_of alu meaning privileged refusal fenced entered returned second_by guest_root_of csrs_before stale_machine stale_root stale_entry entry_by_walk second_walk walk path path_from end_of target entered_hs is_system permits_second device_by_entries known_under
fenced_faults = record { mode = refl; cause = refl }

-- the lone machine's run is free
nop_is_orderly : IsOrderly (stale_machine nop)
unfolding stale_machine
nop_is_orderly = record { entries = omega arith; spaces = omega arith; front = λ folding. absurd cc }

pub may_use_stale : MayUseStale
may_use_stale = (free_of (run (stale_machine nop) 3), runs_are_architectural (stale_machine nop) 3 nop_is_orderly, stale_is_used)

-- so is one that drops each translation at once
abbrev dropped : FreeMachine → FreeMachine
dropped f = let left = left_under (by_walks f nothing_known) f in
    record { platform = without_buffer left.platform; ram = left.ram; cache = []; device = f.device }

-- a platform without first-stage translations is what is left where they are left out
no_buffer : (p q : Platform) → without_buffer p ≡ without_buffer q → p.virt.first ≡ [] → p ≡ without_buffer q
no_buffer p q same none = ap (λ first. record p { virt = record p.virt { first = first } }) none ∙ same

drops : (f : FreeMachine) → FreeStep while_folding f (dropped f)
drops f = record {
  cache = [];
  allowed = All-nil _;
  stages = by_walks f nothing_known;
  first = [];
  first_allowed = All-nil _;
  translates = record { known = λ va access. inr refl; answers = λ address kind. inr (record { place = refl; on_device = refl }) };
  platform = refl;
  ram = refl;
  device = refl;
  kept = All-nil _;
  fenced = All-nil _;
  first_kept = All-nil _;
  first_fenced = All-nil _;
}

pub may_drop_stale : MayDropStale
unfolding run step try_under after_fills missing_entry missing_entry_under core due due_for_hs due_for_vs first_stage op_of system_of system_op_of fence_op_of immediate_arithmetic_of immediate_op_of alu meaning privileged refusal fenced entered returned second_by guest_root_of csrs_before stale_machine stale_root stale_entry entry_by_walk second_walk walk path path_from end_of target entered_hs is_system permits_second device_by_entries known_under
may_drop_stale = let f = free_of (stale_machine nop) in let g = dropped f in let h = dropped g in
    (dropped h, (g, drops f, (h, drops g, (dropped h, drops h, refl))), record { mode = refl; cause = refl })

-- after the fence nothing is cached
abbrev all_named : Option Fence
all_named = Some (record { vmid = None; page = None })

emptied : (fence : Option Fence) → fence ≡ all_named → (cache : List CachedTranslation) → All (λ c. is_named fence c.vmid c.entry ≡ false) cache → cache ≡ []
emptied fence is [] unnamed = refl
emptied fence is (c ∷ cs) unnamed =
    let one : is_named fence c.vmid c.entry ≡ false = All-head (λ c. is_named fence c.vmid c.entry ≡ false) c cs unnamed in
    let never : true ≡ false = sym (ap (λ o. is_named o c.vmid c.entry) is) ∙ one in absurd cc

after_fence : (g : FreeMachine) → FreeStep while_active (free_of (stale_machine fence_bytes)) g → g ≡ dropped (free_of (stale_machine fence_bytes))
unfolding run step try_under after_fills missing_entry missing_entry_under core due due_for_hs due_for_vs first_stage op_of system_of system_op_of fence_op_of immediate_arithmetic_of immediate_op_of alu meaning privileged refusal fenced entered returned second_by guest_root_of csrs_before stale_machine stale_root stale_entry entry_by_walk second_walk walk path path_from end_of target entered_hs is_system permits_second device_by_entries known_under fence_under
after_fence g s = let f = free_of (stale_machine fence_bytes) in
    let known : s.stages.known ≡ nothing_known = bare_knows f.platform.virt s.first s.stages.known s.translates.known refl in
    let same : s.stages ≡ by_walks f nothing_known = flat_steps f g s refl ∙ ap (by_walks f) known in
    let by = steps_by f g s (by_walks f nothing_known) same in
    let fence : fence_under s.stages (uncached f) ≡ all_named = ap (λ stages. fence_under stages (uncached f)) same in
    let none = emptied (fence_under s.stages (uncached f)) fence g.cache s.fenced in
    let platform = no_buffer g.platform (left_under (by_walks f nothing_known) f).platform by.platform (bare_empties f g s refl refl) in
    λ i. record { platform = platform i; ram = by.ram i; cache = none i; device = s.device i }

-- so after the SRET only walks of now are cached: no register that they depend on has changed, nor RAM
abbrev fenced_end : FreeMachine
fenced_end = dropped (free_of (stale_machine fence_bytes))

abbrev entered_end : FreeMachine
entered_end = dropped fenced_end

abbrev WalkedBy : FreeMachine → CachedTranslation → Type 0
WalkedBy f = IsWalked while_active f.device f.platform.virt f.ram

abbrev IsEntered : FreeMachine → Type 0
IsEntered g =
    (g.platform ≡ entered_end.platform) × (g.ram ≡ entered_end.ram) × (g.device ≡ entered_end.device) × All (WalkedBy entered_end) g.cache

same_walk : (c : CachedTranslation) → WalkedBy fenced_end c → WalkedBy entered_end c
unfolding run step try_under after_fills missing_entry missing_entry_under core due due_for_hs due_for_vs first_stage op_of system_of system_op_of fence_op_of immediate_arithmetic_of immediate_op_of alu meaning privileged refusal fenced entered returned second_by guest_root_of csrs_before stale_machine stale_root stale_entry entry_by_walk second_walk walk path path_from end_of target entered_hs is_system permits_second device_by_entries known_under
same_walk c walk = record { active = refl; vmid = walk.vmid; address = walk.address; kind = walk.kind; walked = walk.walked }

after_sret : (g : FreeMachine) → FreeStep while_active fenced_end g → IsEntered g
unfolding run step try_under after_fills missing_entry missing_entry_under core due due_for_hs due_for_vs first_stage op_of system_of system_op_of fence_op_of immediate_arithmetic_of immediate_op_of alu meaning privileged refusal fenced entered returned second_by guest_root_of csrs_before stale_machine stale_root stale_entry entry_by_walk second_walk walk path path_from end_of target entered_hs is_system permits_second device_by_entries known_under
after_sret g s =
    let known : s.stages.known ≡ nothing_known = bare_knows fenced_end.platform.virt s.first s.stages.known s.translates.known refl in
    let by = steps_by fenced_end g s (by_walks fenced_end nothing_known) (flat_steps fenced_end g s refl ∙ ap (by_walks fenced_end) known) in
    let left = left_under (by_walks fenced_end nothing_known) fenced_end in
    (no_buffer g.platform left.platform by.platform (bare_empties fenced_end g s refl refl), by.ram, s.device, All-weaker (Contains s.cache) (WalkedBy entered_end) walked g.cache s.kept)
  where
    from : (c : CachedTranslation) → Contains [] c ⊎ WalkedBy fenced_end c → WalkedBy entered_end c
    from c (inl held) = absurd (omega (arith, held.1))
    from c (inr walk) = same_walk c walk

    walked : (c : CachedTranslation) → Contains s.cache c → WalkedBy entered_end c
    walked c held = from c (All-contains (λ c. Contains [] c ⊎ WalkedBy fenced_end c) s.cache c s.allowed held)

-- and the third step is by the walk of now, which has no translation
after_fault : (g h : FreeMachine) → IsEntered g → FreeMove while_active g.platform.status g h → HasFaulted h.platform
unfolding run step try_under after_fills missing_entry missing_entry_under core due due_for_hs due_for_vs first_stage op_of system_of system_op_of fence_op_of immediate_arithmetic_of immediate_op_of alu meaning privileged refusal fenced entered returned second_by guest_root_of csrs_before stale_machine stale_root stale_entry entry_by_walk second_walk walk path path_from end_of target entered_hs is_system permits_second device_by_entries known_under
after_fault g h (platform, ram, device, walked) move =
    of_registers h.platform (subst (λ p. HasFaulted p) (sym (steps_by last h step (by_walks last nothing_known) (walked_steps last h step walked ∙ ap (by_walks last) known)).platform) (record { mode = refl; cause = refl }))
  where
    of_registers : (p : Platform) → HasFaulted (without_buffer p) → HasFaulted p
    of_registers p has = record { mode = has.mode; cause = has.cause }

    last : FreeMachine
    last = record { platform = entered_end.platform; ram = entered_end.ram; cache = g.cache; device = entered_end.device }

    same : g ≡ last
    same = λ i. record { platform = platform i; ram = ram i; cache = g.cache; device = device i }

    step : FreeStep while_active last h
    step = subst (λ f. FreeMove while_active f.platform.status f h) same move

    known : step.stages.known ≡ nothing_known
    known = bare_knows last.platform.virt step.first step.stages.known step.translates.known refl

pub fenced_faults_freely : FencedFaultsFreely
unfolding run step try_under after_fills missing_entry missing_entry_under core due due_for_hs due_for_vs first_stage op_of system_of system_op_of fence_op_of immediate_arithmetic_of immediate_op_of alu meaning privileged refusal fenced entered returned second_by guest_root_of csrs_before stale_machine stale_root stale_entry entry_by_walk second_walk walk path path_from end_of target entered_hs is_system permits_second device_by_entries known_under
fenced_faults_freely end (g, first, (h, second, (last, third, is))) =
    let entered : IsEntered h = after_sret h (subst (λ f. FreeMove while_active f.platform.status f h) (after_fence g first) second) in
    subst (λ (f : FreeMachine). HasFaulted f.platform) (sym is) (after_fault h last entered third)

-- the first stage
pub stale_first_is_used : StaleFirstIsUsed
unfolding run step try_under after_fills missing_entry core due due_for_hs due_for_vs first_stage op_of system_of system_op_of fence_op_of immediate_arithmetic_of immediate_op_of alu meaning privileged refusal fenced walk path path_from end_of target entered_hs is_system permits_first known_under leaves_found entry_walked all_filled first_filled unnamed_first first_machine stale_first stale_atp
stale_first_is_used = record { mode = refl; value = refl }

pub other_fences_keep_first : OtherFencesKeepFirst
unfolding run step try_under after_fills missing_entry core due due_for_hs due_for_vs first_stage op_of system_of system_op_of fence_op_of immediate_arithmetic_of immediate_op_of alu meaning privileged refusal fenced walk path path_from end_of target entered_hs is_system permits_first known_under leaves_found entry_walked all_filled first_filled unnamed_first first_machine stale_first stale_atp
other_fences_keep_first = (record { mode = refl; value = refl }, record { mode = refl; value = refl })

pub fenced_first_faults : FencedFirstFaults
unfolding run step try_under after_fills missing_entry core due due_for_hs due_for_vs first_stage op_of system_of system_op_of fence_op_of immediate_arithmetic_of immediate_op_of alu meaning privileged refusal fenced walk path path_from end_of target entered_hs is_system permits_first known_under leaves_found entry_walked all_filled first_filled unnamed_first first_machine stale_first stale_atp
fenced_first_faults = record { mode = refl; cause = refl }
