-- A guest's section is its own.
use Rattle.std.proofs.Common.{◌≡◌, ◌∙◌, ℕ, ◌+◌, ◌<◌, List, [], ◌∷◌, ◌++◌, Option, Some, None, Ok, length, map, get_or, refl, ap, sym, subst, arith, append_assoc, length-append}
use Rattle.std.proofs.Math.Seq.{get_or-append_seam}
use Rattle.std.proofs.lemmas.List.{get_or-map, length-map}
use Rattle.std.proofs.lemmas.List.Concat.{flat_map-cons}
use Rattle.std.specs.List.{flat_map, range_with_len}
use Rattle.command_line.specs.Commands.{FileCommand}
use Rattle.guest_turns.specs.declared.sources.Source.{Source}
use Rattle.guest_turns.specs.declared.sources.Source.TheVariants as source
use Rattle.guest_turns.specs.Hosted.{machine_at, no_machine}
use Rattle.guest_turns.specs.Sources.{machine_of_source, machines_of_sources}
use Rattle.guest_turns.specs.TurnLists.{own_steps}
use Rattle.machine_defs.specs.Report.{section_of}
use Rattle.machine_defs.specs.Runs.{run}
use Rattle.outside.specs.Files.{Files}
use Rattle.run_config.specs.declared.faults.ConfigFault.{ConfigFault}
use Rattle.run_config.specs.declared.guests.GuestSettings.{GuestSettings}
use Rattle.run_config.specs.declared.guests.Origin.{Origin}
use Rattle.run_config.specs.declared.guests.Origin.TheVariants.{Fresh, Saved}
use Rattle.run_config.specs.Configurations.{Configuration}
use Rattle.nesthv_top.specs.Contents.{source_by}
use Rattle.nesthv_top.specs.OwnSections.{no_settings, section_in, settings_at, EndsAlike, IsGivenTheSame, IsPlanOf, IsReadAlike, ReportIsSections, SectionsAreOwn}
use Rattle.nesthv_top.specs.Plans.{Plan, machine_after, machines_of, name_of_source, plan_by, plan_if, plan_names, planned, report_of, sections}
use Rattle.nesthv_top.specs.Reads.{file_steps}
use Rattle.nesthv_top.specs.Steps.{fault_in}

-- the sections of the guests behind some others
abbrev plan_of_all : List Source → List (ℕ × ℕ) → ℕ → Plan
plan_of_all all turns spare = record { sources = all; turns = turns; spare = spare }

section_there : (before rest : List Source) (source : Source) (turns : List (ℕ × ℕ)) (spare : ℕ)
    → section_in (plan_of_all (before ++ source ∷ rest) turns spare) (length before) ≡ section_of (name_of_source source) (run (machine_of_source source) (own_steps (length before) turns))
section_there before rest source turns spare =
    let all = before ++ source ∷ rest in
    let inside : length before < length all = omega (arith, length-append before (source ∷ rest)) in
    let name : get_or (map name_of_source all) (length before) [] ≡ name_of_source source =
    get_or-map name_of_source all (length before) source [] inside ∙ ap name_of_source (get_or-append_seam before source rest source) in
    let machine : machine_at (machines_of_sources all) (length before) ≡ machine_of_source source =
    get_or-map machine_of_source all (length before) source no_machine inside ∙ ap machine_of_source (get_or-append_seam before source rest source) in
    rw (name, machine) refl

sections_behind : (before rest : List Source) (turns : List (ℕ × ℕ)) (spare : ℕ)
    → sections (length before) (map name_of_source rest) (map machine_of_source rest) turns
    ≡ flat_map (section_in (plan_of_all (before ++ rest) turns spare)) (range_with_len (length before) (length rest))
unfolding sections
sections_behind before [] turns spare = refl
sections_behind before (source ∷ rest) turns spare =
    let all = before ++ source ∷ rest in
    let more = before ++ source ∷ [] in
    let longer : length more ≡ length before + 1 = length-append before (source ∷ []) in
    let next : sections (length before + 1) (map name_of_source rest) (map machine_of_source rest) turns
    ≡ flat_map (section_in (plan_of_all all turns spare)) (range_with_len (length before + 1) (length rest)) =
    subst (λ n. sections n (map name_of_source rest) (map machine_of_source rest) turns ≡ flat_map (section_in (plan_of_all all turns spare)) (range_with_len n (length rest))) longer
    (subst (λ all. sections (length more) (map name_of_source rest) (map machine_of_source rest) turns ≡ flat_map (section_in (plan_of_all all turns spare)) (range_with_len (length more) (length rest)))
    (append_assoc before (source ∷ []) rest) (sections_behind more rest turns spare)) in
    ap (λ text. section_of (name_of_source source) (run (machine_of_source source) (own_steps (length before) turns)) ++ text) next
    ∙ ap (λ text. text ++ flat_map (section_in (plan_of_all all turns spare)) (range_with_len (length before + 1) (length rest))) (sym (section_there before rest source turns spare))
    ∙ sym (flat_map-cons (section_in (plan_of_all all turns spare)) (length before) (range_with_len (length before + 1) (length rest)))

pub report_is_sections : ReportIsSections
unfolding report_of
report_is_sections plan = sections_behind [] plan.sources plan.turns plan.spare

-- where a guest comes from is what it is given
read_alike : (files files' : Files) (name : List ℕ) (origin : Origin) → IsReadAlike files files' origin → source_by files name origin ≡ source_by files' name origin
read_alike files files' name (Fresh guest) (image, records) = rw (image, records) refl
read_alike files files' name (Saved file) same = ap (source.Kept name) same

same_source : (files files' : Files) (s s' : GuestSettings) → s.name ≡ s'.name → s.origin ≡ s'.origin → IsReadAlike files files' s.origin
    → source_by files s.name s.origin ≡ source_by files' s'.name s'.origin
same_source files files' s s' name origin read =
    read_alike files files' s.name s.origin read ∙ ap (λ name. source_by files' name s.origin) name ∙ ap (source_by files' s'.name) origin

-- the plan is that of the configuration
plan_some : (files : Files) (fault : Option ConfigFault) (c : Configuration) (plan : Plan) → plan_if files fault (Ok c) ≡ Some plan → plan_by files c ≡ plan
plan_some files None c plan is = cc
plan_some files (Some found) c plan is = cc

plan_is : (files : Files) (command : FileCommand) (c : Configuration) (plan : Plan) → IsPlanOf files command c plan → plan_by files c ≡ plan
unfolding planned
plan_is files command c plan is = plan_some files (fault_in (file_steps files command)) c plan (rw is.accepted at is.planned)

-- the guest of this number in it

name_there : (files : Files) (c : Configuration) (g : ℕ) → g < length c.guests → get_or (plan_names (plan_by files c)) g [] ≡ name_of_source (source_by files (settings_at c g).name (settings_at c g).origin)
name_there files c g inside =
    let made = λ (guest : GuestSettings). source_by files guest.name guest.origin in
    get_or-map name_of_source (map made c.guests) g (made no_settings) [] (rw (length-map c.guests made) inside)
    ∙ ap name_of_source (get_or-map made c.guests g no_settings (made no_settings) inside)

machine_there : (files : Files) (c : Configuration) (g : ℕ) → g < length c.guests
    → machine_at (machines_of (plan_by files c)) g ≡ machine_of_source (source_by files (settings_at c g).name (settings_at c g).origin)
machine_there files c g inside =
    let made = λ (guest : GuestSettings). source_by files guest.name guest.origin in
    get_or-map machine_of_source (map made c.guests) g (made no_settings) no_machine (rw (length-map c.guests made) inside)
    ∙ ap machine_of_source (get_or-map made c.guests g no_settings (made no_settings) inside)

ends_alike : (files files' : Files) (c c' : Configuration) (g g' : ℕ) → IsGivenTheSame files files' c c' g g' → EndsAlike (plan_by files c) (plan_by files' c') g g'
ends_alike files files' c c' g g' same =
    let source = same_source files files' (settings_at c g) (settings_at c' g') same.name same.origin same.read in
    let machine : machine_after (plan_by files c) g ≡ machine_after (plan_by files' c') g' =
    ap (λ m. run m (own_steps g c.turns)) (machine_there files c g same.inside ∙ ap machine_of_source source ∙ sym (machine_there files' c' g' same.inside'))
    ∙ ap (run (machine_at (machines_of (plan_by files' c')) g')) same.steps in
    let name = name_there files c g same.inside ∙ ap name_of_source source ∙ sym (name_there files' c' g' same.inside') in
    record {
      machine = machine;
      section = ap (λ name. section_of name (machine_after (plan_by files c) g)) name ∙ ap (section_of (get_or (plan_names (plan_by files' c')) g' [])) machine;
    }

pub sections_are_own : SectionsAreOwn
sections_are_own files files' command command' c c' plan plan' g g' is is' same =
    subst (λ plan. EndsAlike plan plan' g g') (plan_is files command c plan is)
    (subst (λ plan'. EndsAlike (plan_by files c) plan' g g') (plan_is files' command' c' plan' is') (ends_alike files files' c c' g g' same))
