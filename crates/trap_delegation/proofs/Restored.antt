-- SRET after trap entry, and what trap entry leaves.
use Rattle.std.specs.Prelude.{refl}
use Rattle.arch_defs.specs.declared.modes.Mode.TheVariants.{HS, U, VS, VU}
use Rattle.arch_defs.specs.Traps.{entered_hs, entered_vs, returned, target}
use Rattle.trap_delegation.specs.Laws.{HsGivesModeBack, HsGivesSieBack, HsGivesRegsBack, VsGivesModeBack, VsGivesSieBack, VsGivesRegsBack, VsEntryLeavesHs, HsEntryLeavesVs, SpvpStays, GoesToHs}

pub hs_gives_mode_back : HsGivesModeBack
unfolding entered_hs returned
hs_gives_mode_back csrs regs HS trap = refl
hs_gives_mode_back csrs regs U trap = refl
hs_gives_mode_back csrs regs VS trap = refl
hs_gives_mode_back csrs regs VU trap = refl

pub hs_gives_sie_back : HsGivesSieBack
unfolding entered_hs returned
hs_gives_sie_back csrs regs mode trap = refl

pub hs_gives_regs_back : HsGivesRegsBack
unfolding entered_hs returned
hs_gives_regs_back csrs regs mode trap = refl

pub vs_gives_mode_back : VsGivesModeBack
unfolding entered_vs returned
vs_gives_mode_back csrs regs HS trap p = absurd cc
vs_gives_mode_back csrs regs U trap p = absurd cc
vs_gives_mode_back csrs regs VS trap p = refl
vs_gives_mode_back csrs regs VU trap p = refl

pub vs_gives_sie_back : VsGivesSieBack
unfolding entered_vs returned
vs_gives_sie_back csrs regs mode trap = refl

pub vs_gives_regs_back : VsGivesRegsBack
unfolding entered_vs returned
vs_gives_regs_back csrs regs mode trap = refl

pub vs_entry_leaves_hs : VsEntryLeavesHs
unfolding entered_vs
vs_entry_leaves_hs csrs regs mode trap = refl

pub hs_entry_leaves_vs : HsEntryLeavesVs
unfolding entered_hs
hs_entry_leaves_vs csrs regs mode trap = refl

pub spvp_stays : SpvpStays
unfolding entered_hs
spvp_stays csrs regs HS trap p = refl
spvp_stays csrs regs U trap p = refl
spvp_stays csrs regs VS trap p = absurd cc
spvp_stays csrs regs VU trap p = absurd cc

pub goes_to_hs : GoesToHs
unfolding target
goes_to_hs csrs HS trap p = refl
goes_to_hs csrs U trap p = refl
goes_to_hs csrs VS trap p = absurd cc
goes_to_hs csrs VU trap p = absurd cc
