-- The place of an access by what is looked up for it.
use Rattle.std.proofs.Common.{◌≡◌, ℕ, List, Option, Some, None, refl, ◌∙◌}
use Rattle.arch_defs.specs.declared.modes.Access.{Access}
use Rattle.arch_defs.specs.declared.walks.Privilege.{Privilege}
use Rattle.arch_defs.specs.Memory.{machine_memory}
use Rattle.two_stage_walk.specs.declared.second_answers.SecondAnswer.{SecondAnswer}
use Rattle.two_stage_walk.specs.declared.second_answers.SecondAnswer.TheVariants as answer
use Rattle.two_stage_walk.specs.SecondAnswers.{answer_under, place_in_memory}
use Rattle.two_stage_walk.proofs.SecondAnswers.{place_alike}
use Rattle.translation_buffer.specs.declared.contexts.Context.{Context}
use Rattle.translation_buffer.specs.declared.lookups.Lookup.{Lookup}
use Rattle.translation_buffer.specs.declared.lookups.Lookup.TheVariants.{InMemory, GuestPageFault, AccessFault, NotPassed}
use Rattle.translation_buffer.specs.Lookups.{lookup_by, lookup_at, lookup_under, lookup_place}
use Rattle.translation_buffer.specs.Places.{Translator, passed_under, placed_at, second_in, translated_place}

place_answered : (address : ℕ) (answer : SecondAnswer) → lookup_place (lookup_by address answer) ≡ place_in_memory answer
place_answered address (answer.InMemory place) = refl
place_answered address answer.OnDevice = refl
place_answered address answer.GuestPageFault = refl
place_answered address answer.AccessFault = refl

place_at : (context : Context) (memory : List ℕ) (access : Access) (passed : Option ℕ)
    → lookup_place (lookup_at context memory access passed) ≡ placed_at (second_in context memory) access passed
place_at context memory access None = refl
place_at context memory access (Some address) =
    place_answered address (answer_under (machine_memory memory) context.mxr context.second address access)
    ∙ place_alike (machine_memory memory) context.mxr context.second address access

there : (lookup : Lookup) (place : ℕ) → lookup_place lookup ≡ Some place → lookup ≡ InMemory place
there (InMemory own) place is = cc
there (GuestPageFault address) place is = absurd cc
there AccessFault place is = absurd cc
there NotPassed place is = absurd cc

-- the place that is looked up, and the lookup of a place
pub place_looked_up : (under : Translator) (who : Privilege) (memory : List ℕ) (va : ℕ) (access : Access)
    → lookup_place (lookup_under under who memory va access) ≡ translated_place under who memory va access
place_looked_up under who memory va access = place_at under.context memory access (passed_under under who va access)

pub looked_up_at : (under : Translator) (who : Privilege) (memory : List ℕ) (va : ℕ) (access : Access) (place : ℕ)
    → translated_place under who memory va access ≡ Some place → lookup_under under who memory va access ≡ InMemory place
looked_up_at under who memory va access place is =
    there (lookup_under under who memory va access) place (place_looked_up under who memory va access ∙ is)
