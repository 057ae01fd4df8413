-- The place of an access for which no table of the first stage is walked, as a function of memory, of the
-- first-stage translations that are cached, of the roots and of whom the access is made for.
use Rattle.std.specs.Prelude.{ℕ, ◌≡◌, ◌==◌, ◌||◌, not, Bool, List, Option, Some, None}
use Rattle.arch_defs.specs.declared.first.FirstEntry.{FirstEntry}
use Rattle.arch_defs.specs.declared.first.Tag.{Tag}
use Rattle.arch_defs.specs.declared.hart_states.HartState.{HartState}
use Rattle.arch_defs.specs.declared.modes.Access.{Access}
use Rattle.arch_defs.specs.declared.modes.Mode.{Mode}
use Rattle.arch_defs.specs.declared.registers.Csrs.{Csrs}
use Rattle.arch_defs.specs.declared.roots.SupervisorRoot.{SupervisorRoot}
use Rattle.arch_defs.specs.declared.roots.SupervisorRoot.TheVariants as root
use Rattle.arch_defs.specs.declared.walks.Privilege.{Privilege}
use Rattle.arch_defs.specs.FirstEntries.{known_under}
use Rattle.arch_defs.specs.Frames.{Frames}
use Rattle.arch_defs.specs.Memory.{SecondStage, machine_memory}
use Rattle.arch_defs.specs.SecondStage.{second_root_of, second_under}
use Rattle.arch_defs.specs.Translation.{privilege_of, supervisor_of}
use Rattle.two_stage_walk.specs.Reads.{SecondReads}
use Rattle.translation_buffer.specs.declared.contexts.Context.{Context}

-- what the translations of a mode are made under: the roots of both stages, and sstatus.MXR, which counts in
-- the second stage too (Privileged Architecture 20211203, 8.5.1)
abbrev pub context_of : Csrs → Mode → Context
context_of csrs mode = record {
  first = (supervisor_of csrs mode).atp;
  second = second_root_of csrs mode;
  mxr = csrs.hs.status.mxr;
}

abbrev pub second_in : Context → List ℕ → SecondStage
second_in context memory = second_under (machine_memory memory) context.mxr context.second

-- by what an address is translated: the first-stage translations that are cached, whose accesses are made,
-- and what they are made under
pub record Translator : Type 0 where
  pub first : List FirstEntry
  pub owner : Tag
  pub context : Context

abbrev pub translator : List FirstEntry → Tag → Context → Translator
translator first owner context = record { first = first; owner = owner; context = context }

-- the guest physical address of an access for which no table of the first stage is walked: by the cached
-- translation of its page, if that permits the access; Bare passes each address on
abbrev pub passed_by : List FirstEntry → Tag → Privilege → SupervisorRoot → ℕ → Access
    → Option ℕ
passed_by first owner who root.Bare va access = Some va
passed_by first owner who (root.Table mode asid ppn) va access =
    known_under first owner who (root.Table mode asid ppn) va access

abbrev pub passed_under : Translator → Privilege → ℕ → Access → Option ℕ
passed_under under who va access = passed_by under.first under.owner who under.context.first va access

-- its place, by the second stage
abbrev pub placed_at : SecondStage → Access → Option ℕ → Option ℕ
placed_at second access None = None
placed_at second access (Some address) = second address access

-- the place of such an access at a virtual address, if the second stage gives one. Translations are kept for
-- this function of memory alone
abbrev pub translated_place : Translator → Privilege → List ℕ → ℕ → Access → Option ℕ
translated_place under who memory va access =
    placed_at (second_in under.context memory) access (passed_under under who va access)

-- that of an access that the hart makes
abbrev pub place_on_hart : HartState → List ℕ → ℕ → Access → Option ℕ
place_on_hart s memory va access =
    let under = translator s.virt.first s.tag (context_of s.virt.csrs s.virt.mode) in
    translated_place under (privilege_of s.virt.csrs s.virt.mode) memory va access

-- all entries that the second stage reads for it lie in these frames
abbrev pub Reads : Frames → Translator → Privilege → List ℕ → ℕ → Access → Type 0
Reads frames under who memory va access = (address : ℕ)
    → passed_under under who va access ≡ Some address
    → SecondReads frames (machine_memory memory) address access under.context.second

-- whether a cached translation is of a page, or not named
abbrev pub spares : (FirstEntry → Bool) → ℕ → FirstEntry → Bool
spares named page e = e.page == page || not (named e)
