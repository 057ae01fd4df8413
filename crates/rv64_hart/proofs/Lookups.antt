-- What the lookup of an access tells of it.
use Rattle.std.proofs.Common.{◌≡◌, ℕ, ◌%◌, false, List, [], Option, Some, None, Err, refl, ap, sym, subst, ◌∙◌}
use Rattle.std.specs.Prelude.{option_map}
use Rattle.std.proofs.lemmas.Bool.{eq-eqb}
use Rattle.arch_defs.specs.declared.hart_states.HartState.{HartState}
use Rattle.arch_defs.specs.declared.modes.Access.{Access}
use Rattle.arch_defs.specs.declared.widths.Width.{Width}
use Rattle.arch_defs.specs.FirstEntries.{first_entry}
use Rattle.arch_defs.specs.Memory.{machine_memory}
use Rattle.arch_defs.specs.SecondStage.{second_root_of}
use Rattle.arch_defs.specs.Translation.{first_stage, privilege_of, supervisor_of}
use Rattle.arch_defs.specs.Widths.{bytes_in}
use Rattle.phys_mem.specs.MemoryBytes.{IsWhole}
use Rattle.machine_defs.specs.Answers.{answer_of}
use Rattle.machine_defs.specs.Core.{At, located_at, located_by}
use Rattle.machine_defs.specs.FirstLeaves.{entry_walked, leaf_under}
use Rattle.two_stage_walk.specs.declared.second_answers.SecondAnswer.{SecondAnswer}
use Rattle.two_stage_walk.specs.declared.second_answers.SecondAnswer.TheVariants as answer
use Rattle.two_stage_walk.specs.SecondAnswers.{answer_under, place_in_memory, trap_of}
use Rattle.two_stage_walk.proofs.SecondAnswers.{place_alike, trap_alike}
use Rattle.data_access.specs.Places.{IsPlaceFor}
use Rattle.data_access.proofs.Fitting.{fits_at}
use Rattle.translation_buffer.specs.declared.lookups.Lookup.{Lookup}
use Rattle.translation_buffer.specs.declared.lookups.Lookup.TheVariants as own
use Rattle.translation_buffer.specs.Lookups.{LookupIn, lookup_by, lookup_at, lookup_on_hart, lookup_place}
use Rattle.translation_buffer.specs.Places.{context_of, passed_under, place_on_hart, placed_at, translator}
use Rattle.rv64_hart.specs.Lookups.{IsMadeAt, LookupTells, Traps, missing_at}
use Rattle.rv64_hart.specs.MachineMemory.{access_over, found_over, mmu_on, reading_of_memory, second_of_memory}
use Rattle.rv64_hart.proofs.FirstFound.{not_known, passes, passes_without}
use Rattle.rv64_hart.proofs.Places.{at_place_found, nothing_found}

-- the trap of an access without a place, by what the second stage makes of its address
missed : (s : HartState) (memory : List ℕ) (va address : ℕ) (access : Access) (answer : SecondAnswer) → place_in_memory answer ≡ None
    → answer_under (machine_memory memory) s.virt.csrs.hs.status.mxr (second_root_of s.virt.csrs s.virt.mode) address access ≡ answer
    → answer_of false s.virt.csrs (machine_memory memory) (located_at s.virt.mode va access address (second_of_memory s.virt memory address access))
    ≡ Err (trap_of (missing_at s va access address) answer)
missed s memory va address access answer none is =
    let nowhere : second_of_memory s.virt memory address access ≡ None =
    sym (place_alike (machine_memory memory) s.virt.csrs.hs.status.mxr (second_root_of s.virt.csrs s.virt.mode) address access) ∙ ap place_in_memory is ∙ none in
    rw (nowhere) (ap Err (sym (trap_alike (machine_memory memory) s.virt.csrs.hs.status.mxr (missing_at s va access address) (second_root_of s.virt.csrs s.virt.mode))
    ∙ ap (trap_of (missing_at s va access address)) is))

-- an aligned access that is passed on is made by the second stage, and finds nothing
passed_at : (s : HartState) (memory : List ℕ) (va address : ℕ) (width : Width) (access : Access) → va % bytes_in width ≡ 0
    → passed_under (translator s.virt.first s.tag (context_of s.virt.csrs s.virt.mode)) (privilege_of s.virt.csrs s.virt.mode) va access ≡ Some address
    → access_over memory s va width access ≡ located_at s.virt.mode va access address (second_of_memory s.virt memory address access)
unfolding first_stage
passed_at s memory va address width access aligned is = rw (eq-eqb (va % bytes_in width) 0 aligned)
    (ap (located_by (second_of_memory s.virt memory) s.virt.mode va access)
    (sym (passes s.virt.first s.tag (second_of_memory s.virt memory) (reading_of_memory memory) (privilege_of s.virt.csrs s.virt.mode) va address access (supervisor_of s.virt.csrs s.virt.mode).atp (sym is))))

finds_nothing : (s : HartState) (memory : List ℕ) (va address : ℕ) (width : Width) (access : Access) → va % bytes_in width ≡ 0
    → passed_under (translator s.virt.first s.tag (context_of s.virt.csrs s.virt.mode)) (privilege_of s.virt.csrs s.virt.mode) va access ≡ Some address
    → found_over memory s va width access ≡ []
unfolding entry_walked
finds_nothing s memory va address width access aligned is = rw (eq-eqb (va % bytes_in width) 0 aligned)
    (sym (passes_without s.virt.first s.tag (privilege_of s.virt.csrs s.virt.mode) va address access (supervisor_of s.virt.csrs s.virt.mode).atp
    (λ root. option_map (first_entry s.tag (supervisor_of s.virt.csrs s.virt.mode).atp va) (leaf_under (mmu_on s memory) (privilege_of s.virt.csrs s.virt.mode) va access root))
    refl (sym is)))

traps_at : (s : HartState) (memory : List ℕ) (va address : ℕ) (width : Width) (access : Access) (answer : SecondAnswer) → va % bytes_in width ≡ 0
    → passed_under (translator s.virt.first s.tag (context_of s.virt.csrs s.virt.mode)) (privilege_of s.virt.csrs s.virt.mode) va access ≡ Some address
    → place_in_memory answer ≡ None
    → answer_under (machine_memory memory) s.virt.csrs.hs.status.mxr (second_root_of s.virt.csrs s.virt.mode) address access ≡ answer
    → Traps s memory va width access (trap_of (missing_at s va access address) answer)
traps_at s memory va address width access answer aligned passed none is = record {
  raises = sym (ap (answer_of false s.virt.csrs (machine_memory memory)) (passed_at s memory va address width access aligned passed) ∙ missed s memory va address access answer none is);
  none = finds_nothing s memory va address width access aligned passed;
}

made_at : (s : HartState) (memory : List ℕ) (va : ℕ) (width : Width) (access : Access) (place : ℕ) → va % bytes_in width ≡ 0 → IsWhole (machine_memory memory)
    → Some place ≡ place_on_hart s memory va access → LookupIn memory va (own.InMemory place) → IsMadeAt s memory va width access place
made_at s memory va width access place aligned whole is inside = record {
  located = at_place_found s memory va width access place aligned is;
  none = nothing_found s memory va width access place is;
  fits = fits_at (machine_memory memory) width va place whole inside aligned;
}

told_answered : (s : HartState) (memory : List ℕ) (va address : ℕ) (width : Width) (access : Access) (answer : SecondAnswer) → va % bytes_in width ≡ 0 → IsWhole (machine_memory memory)
    → passed_under (translator s.virt.first s.tag (context_of s.virt.csrs s.virt.mode)) (privilege_of s.virt.csrs s.virt.mode) va access ≡ Some address
    → answer_under (machine_memory memory) s.virt.csrs.hs.status.mxr (second_root_of s.virt.csrs s.virt.mode) address access ≡ answer
    → LookupIn memory va (lookup_by address answer) → LookupTells s memory va width access (lookup_by address answer)
told_answered s memory va address width access (answer.InMemory place) aligned whole passed is inside =
    made_at s memory va width access place aligned whole
    (sym (ap (placed_at (second_of_memory s.virt memory) access) passed
    ∙ sym (place_alike (machine_memory memory) s.virt.csrs.hs.status.mxr (second_root_of s.virt.csrs s.virt.mode) address access) ∙ ap place_in_memory is))
    inside
told_answered s memory va address width access answer.OnDevice aligned whole passed is inside = traps_at s memory va address width access answer.OnDevice aligned passed refl is
told_answered s memory va address width access answer.GuestPageFault aligned whole passed is inside = traps_at s memory va address width access answer.GuestPageFault aligned passed refl is
told_answered s memory va address width access answer.AccessFault aligned whole passed is inside = traps_at s memory va address width access answer.AccessFault aligned passed refl is

told_passed : (s : HartState) (memory : List ℕ) (va : ℕ) (width : Width) (access : Access) (passed : Option ℕ) → va % bytes_in width ≡ 0 → IsWhole (machine_memory memory)
    → passed_under (translator s.virt.first s.tag (context_of s.virt.csrs s.virt.mode)) (privilege_of s.virt.csrs s.virt.mode) va access ≡ passed
    → LookupIn memory va (lookup_at (context_of s.virt.csrs s.virt.mode) memory access passed)
    → LookupTells s memory va width access (lookup_at (context_of s.virt.csrs s.virt.mode) memory access passed)
told_passed s memory va width access None aligned whole passed inside = λ again.
    not_known s.virt.first s.tag (privilege_of s.virt.csrs s.virt.mode) va access (supervisor_of s.virt.csrs s.virt.mode).atp (sym passed)
told_passed s memory va width access (Some address) aligned whole passed inside =
    told_answered s memory va address width access (answer_under (machine_memory memory) s.virt.csrs.hs.status.mxr (second_root_of s.virt.csrs s.virt.mode) address access) aligned whole passed refl inside

pub told : (s : HartState) (memory : List ℕ) (va : ℕ) (width : Width) (access : Access) (lookup : Lookup) → va % bytes_in width ≡ 0 → IsWhole (machine_memory memory)
    → lookup ≡ lookup_on_hart s memory va access → LookupIn memory va lookup → LookupTells s memory va width access lookup
told s memory va width access lookup aligned whole is inside = subst (LookupTells s memory va width access) (sym is)
    (told_passed s memory va width access (passed_under (translator s.virt.first s.tag (context_of s.virt.csrs s.virt.mode)) (privilege_of s.virt.csrs s.virt.mode) va access) aligned whole refl
    (subst (LookupIn memory va) is inside))

-- by a lookup that is a place
pub made_by : (s : HartState) (memory : List ℕ) (va : ℕ) (width : Width) (access : Access) (lookup : Lookup) (place : ℕ)
    → Some place ≡ lookup_place lookup → LookupTells s memory va width access lookup → IsMadeAt s memory va width access place
made_by s memory va width access (own.InMemory at) place is made = let same : at ≡ place = cc in subst (IsMadeAt s memory va width access) same made
made_by s memory va width access (own.GuestPageFault address) place is told = absurd cc
made_by s memory va width access own.AccessFault place is told = absurd cc
made_by s memory va width access own.NotPassed place is told = absurd cc

pub located_there : (s : HartState) (memory : List ℕ) (va : ℕ) (width : Width) (access : Access) (lookup : Lookup) (place : ℕ)
    → Some place ≡ lookup_place lookup → LookupTells s memory va width access lookup → access_over memory s va width access ≡ At place
located_there s memory va width access lookup place is told = (made_by s memory va width access lookup place is told).located

pub nothing_there : (s : HartState) (memory : List ℕ) (va : ℕ) (width : Width) (access : Access) (lookup : Lookup) (place : ℕ)
    → Some place ≡ lookup_place lookup → LookupTells s memory va width access lookup → found_over memory s va width access ≡ []
nothing_there s memory va width access lookup place is told = (made_by s memory va width access lookup place is told).none

pub fits_there : (s : HartState) (memory : List ℕ) (va : ℕ) (width : Width) (access : Access) (lookup : Lookup) (place : ℕ)
    → Some place ≡ lookup_place lookup → LookupTells s memory va width access lookup → IsPlaceFor (machine_memory memory) width place
fits_there s memory va width access lookup place is told = (made_by s memory va width access lookup place is told).fits
