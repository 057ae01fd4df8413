-- What is looked up for an access for which no table of the first stage is walked (own).
use Rattle.std.specs.Prelude.{ℕ, ⊤, List, Option, Some, None}
use Rattle.arch_defs.specs.declared.hart_states.HartState.{HartState}
use Rattle.arch_defs.specs.declared.modes.Access.{Access}
use Rattle.arch_defs.specs.declared.walks.Privilege.{Privilege}
use Rattle.arch_defs.specs.Memory.{machine_memory}
use Rattle.arch_defs.specs.Translation.{privilege_of}
use Rattle.two_stage_walk.specs.declared.second_answers.SecondAnswer.{SecondAnswer}
use Rattle.two_stage_walk.specs.declared.second_answers.SecondAnswer.TheVariants as answer
use Rattle.two_stage_walk.specs.Places.{IsPlaceOf}
use Rattle.two_stage_walk.specs.SecondAnswers.{answer_under}
use Rattle.translation_buffer.specs.declared.contexts.Context.{Context}
use Rattle.translation_buffer.specs.declared.lookups.Lookup.{Lookup}
use Rattle.translation_buffer.specs.declared.lookups.Lookup.TheVariants.{InMemory, GuestPageFault, AccessFault, NotPassed}
use Rattle.translation_buffer.specs.Places.{Translator, context_of, passed_under, translator}

-- by what the second stage makes of its guest physical address; the hart has no device page
abbrev pub lookup_by : ℕ → SecondAnswer → Lookup
lookup_by address (answer.InMemory place) = InMemory place
lookup_by address answer.OnDevice = AccessFault
lookup_by address answer.GuestPageFault = GuestPageFault address
lookup_by address answer.AccessFault = AccessFault

-- by whether it is passed on to an address
abbrev pub lookup_at : Context → List ℕ → Access → Option ℕ → Lookup
lookup_at context memory access None = NotPassed
lookup_at context memory access (Some address) =
    lookup_by address (answer_under (machine_memory memory) context.mxr context.second address access)

-- at a virtual address
abbrev pub lookup_under : Translator → Privilege → List ℕ → ℕ → Access → Lookup
lookup_under under who memory va access =
    lookup_at under.context memory access (passed_under under who va access)

-- for an access that the hart makes
abbrev pub lookup_on_hart : HartState → List ℕ → ℕ → Access → Lookup
lookup_on_hart s memory va access =
    let under = translator s.virt.first s.tag (context_of s.virt.csrs s.virt.mode) in
    lookup_under under (privilege_of s.virt.csrs s.virt.mode) memory va access

-- the place in memory
abbrev pub lookup_place : Lookup → Option ℕ
lookup_place (InMemory place) = Some place
lookup_place (GuestPageFault address) = None
lookup_place AccessFault = None
lookup_place NotPassed = None

-- a place in memory is there, at the offset of the address
abbrev pub LookupIn : List ℕ → ℕ → Lookup → Type 0
LookupIn memory va (InMemory place) = IsPlaceOf (machine_memory memory) va place
LookupIn memory va (GuestPageFault address) = ⊤
LookupIn memory va AccessFault = ⊤
LookupIn memory va NotPassed = ⊤
