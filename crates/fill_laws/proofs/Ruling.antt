-- The try that ends a step, as one under a rule without fills.
use Rattle.std.specs.Prelude.{◌&&◌}
use Rattle.std.proofs.Common.{cond, Bool, false, ◌≡◌, ℕ, ◌/◌, ◌∙◌, true, List, [], ◌∷◌, Option, Some, None, refl, ap, sym}
use Rattle.std.proofs.Math.Path.{fun_ext}
use Rattle.std.proofs.lemmas.Bool.{and_from, and_parts}
use Rattle.arch_defs.specs.declared.cached.Entry.{Entry}
use Rattle.arch_defs.specs.declared.modes.Access.{Access}
use Rattle.arch_defs.specs.declared.registers.Virtual.{Virtual}
use Rattle.arch_defs.specs.declared.roots.GuestRoot.{GuestRoot}
use Rattle.arch_defs.specs.declared.roots.GuestRoot.TheVariants as root
use Rattle.arch_defs.specs.declared.walks.MissingPlace.{MissingPlace}
use Rattle.arch_defs.specs.CachedEntries.{device_by, device_by_entries, entry_at, leaf_of, place_by, second_by}
use Rattle.arch_defs.specs.Devices.{is_on_device}
use Rattle.arch_defs.specs.FirstEntries.{all_filled}
use Rattle.arch_defs.specs.Interrupts.{due}
use Rattle.arch_defs.specs.Memory.{Known, SecondStage, bare, ram_memory, reading_of}
use Rattle.arch_defs.specs.Permits.{permits_second}
use Rattle.arch_defs.specs.Roots.{is_table}
use Rattle.arch_defs.specs.SecondStage.{OnDevice, device_by_walk, device_under, second_by_walk, second_root_of, second_under}
use Rattle.arch_defs.specs.Spaces.{Space, front}
use Rattle.arch_defs.specs.Traps.{is_virtual}
use Rattle.arch_defs.specs.WalkedEntries.{entry_by_walk, folds}
use Rattle.op_defs.specs.declared.ops.DataAccess.{DataAccess}
use Rattle.machine_defs.specs.Fills.{missing_entry, missing_entry_at, missing_entry_under, most_fills, ready}
use Rattle.machine_defs.specs.FirstLeaves.{known_of, tag_of}
use Rattle.machine_defs.specs.Machine.{Machine, with_first}
use Rattle.machine_defs.specs.Outcomes.{Outcome, Done, Trapped, Missed, Called, Waits, Fenced, FirstFenced, Accesses}
use Rattle.machine_defs.specs.Runs.{left_by}
use Rattle.machine_defs.specs.Tries.{Stages, apply_outcome, device_of, outcome_under, second_of, stages_of, tried_with, try, try_under, unplaced, with_found}
use Rattle.instruction_laws.specs.FrontSpaces.{FrontIs}
use Rattle.fill_laws.specs.Keeping.{IsOrderly}
use Rattle.fill_laws.specs.Laws.{FlatIsRam, FoldsByFront, FrontGivesPlaces, MissingEntriesAreRead, StepsEndByRule, StopsAreFaults, TriesEndByRule, has_own, is_permitted, ruled}
use Rattle.instruction_laws.proofs.Asking.{IsWithin, else_alike, stops}
use Rattle.instruction_laws.proofs.Cached.{place_given, placed}
use Rattle.fill_laws.proofs.FoundAlike.{found_alike}
use Rattle.fill_laws.proofs.Filling.{machine, missing_entry_front, suffices}
use Rattle.fill_laws.proofs.Orderly.{filled_orderly}
use Rattle.fill_laws.proofs.Running.{step_running}
use Rattle.fill_laws.proofs.Walks.{fills_are_devices, fills_are_walks}

-- stages by their parts, and what a machine knows
abbrev staged : Known → SecondStage → OnDevice → Stages
staged known second device = record { known = known; second = second; device = device }

abbrev knows : Machine → Known
knows m = known_of m.platform.virt.first (tag_of m.platform.virt) m.platform.virt

-- where an instruction stops, a rule has no place either, and has the access on the device page alike
record Agree (device rule_device : OnDevice) (rule : SecondStage) (u : MissingPlace) : Type 0 where
  pub none : rule u.address u.kind ≡ None
  pub served : rule_device u.address u.kind ≡ device u.address u.kind

-- an outcome is the same to a machine that has the stopped access on the device page alike
applied_ruled : (m : Machine) (device rule_device : OnDevice) (o : Outcome)
    → ((u : MissingPlace) (wanted : Option DataAccess) → o ≡ Missed u wanted → rule_device u.address u.kind ≡ device u.address u.kind)
    → apply_outcome device m o ≡ apply_outcome rule_device m o
applied_ruled m device rule_device (Missed u wanted) same = ap (unplaced m u wanted) (sym (same u wanted refl))
applied_ruled m device rule_device (Done state stored event) same = refl
applied_ruled m device rule_device (Trapped trap) same = refl
applied_ruled m device rule_device Called same = refl
applied_ruled m device rule_device (Waits state) same = refl
applied_ruled m device rule_device (Fenced state fence) same = refl
applied_ruled m device rule_device (FirstFenced state named fence) same = refl
applied_ruled m device rule_device (Accesses wanted) same = refl

-- so a try is one under the rule, if the two agree wherever the instruction stops
abbrev AgreeAtStops : Machine → Known → SecondStage → SecondStage → OnDevice → OnDevice → Type 0
AgreeAtStops m known own rule device rule_device = (u : MissingPlace) (wanted : Option DataAccess)
    → outcome_under (staged known own device) m ≡ Missed u wanted → own u.address u.kind ≡ None → Agree device rule_device rule u

try_ruled : (m : Machine) (known : Known) (own rule : SecondStage) (device rule_device : OnDevice) → IsWithin own rule
    → (due m.platform.virt.csrs m.platform.virt.mode ≡ None → AgreeAtStops m known own rule device rule_device)
    → try_under (staged known own device) m ≡ try_under (staged known rule rule_device) m
unfolding try_under
try_ruled m known own rule device rule_device within agree = by (due m.platform.virt.csrs m.platform.virt.mode) agree
  where
    virt : Virtual
    virt = m.platform.virt

    itself : IsWithin own own
    itself = record { gives = λ address place kind found. found }

    alike : AgreeAtStops m known own rule device rule_device → (u : MissingPlace) (wanted : Option DataAccess)
        → outcome_under (staged known own device) m ≡ Missed u wanted → Agree device rule_device rule u
    alike agrees u wanted is = agrees u wanted is (stops own own itself known (reading_of (ram_memory m.ram)) virt u wanted is).none

    by : (code : Option ℕ) → (code ≡ None → AgreeAtStops m known own rule device rule_device)
        → tried_with (staged known own device) m code ≡ tried_with (staged known rule rule_device) m code
    by (Some code) agree = refl
    by None agree =
        applied_ruled (with_found (staged known own device) m) device rule_device (outcome_under (staged known own device) m) (λ u wanted is. (alike (agree refl) u wanted is).served)
        ∙ ap (apply_outcome rule_device (with_found (staged known own device) m))
        (sym (else_alike own rule within known (reading_of (ram_memory m.ram)) virt (λ u wanted is. (alike (agree refl) u wanted is).none)))
        ∙ ap (λ found. apply_outcome rule_device (with_first m (all_filled m.platform.virt.first found)) (outcome_under (staged known rule rule_device) m))
        (sym (found_alike own rule within (tag_of virt) known (reading_of (ram_memory m.ram)) virt (λ u wanted is. (alike (agree refl) u wanted is).none)))

-- a machine's own second stage
pub folds_by_front : FoldsByFront
folds_by_front m folding = ap (λ b. cond b (second_by (front m.spaces) m.platform.virt.csrs.hs.status.mxr) (bare (ram_memory m.ram))) folding

pub front_gives_places : FrontGivesPlaces
unfolding second_by
front_gives_places m address kind e folding there permits off = let mxr = m.platform.virt.csrs.hs.status.mxr in
    ap (λ (second : SecondStage). second address kind) (folds_by_front m folding)
    ∙ ap (place_by mxr address kind) there ∙ place_given mxr address kind e permits off

pub flat_is_ram : FlatIsRam
flat_is_ram m flat = ap (λ b. cond b (second_by (front m.spaces) m.platform.virt.csrs.hs.status.mxr) (bare (ram_memory m.ram))) flat

-- and which accesses it has on the device page
abbrev device_if : Machine → ℕ → Access → Bool → Bool
device_if m address kind b =
    m.device && cond b (device_by_entries (front m.spaces) m.platform.virt.csrs.hs.status.mxr address kind) (is_on_device address)

pub front_device : (m : Machine) (address : ℕ) (kind : Access) → folds m.platform.virt ≡ true
    → device_of m address kind ≡ (m.device && device_by_entries (front m.spaces) m.platform.virt.csrs.hs.status.mxr address kind)
front_device m address kind folding = ap (device_if m address kind) folding

flat_device : (m : Machine) (address : ℕ) (kind : Access) → folds m.platform.virt ≡ false → device_of m address kind ≡ (m.device && is_on_device address)
flat_device m address kind flat = ap (device_if m address kind) flat

own_front : (m : Machine) (s : Space) (ss : List Space) → folds m.platform.virt ≡ true
    → second_of (machine m (s ∷ ss)) ≡ second_by s.entries m.platform.virt.csrs.hs.status.mxr
own_front m s ss folding = folds_by_front (machine m (s ∷ ss)) folding

-- so what it lacks is read off its own second stage
read_front : (m : Machine) (s : Space) (ss : List Space) → folds m.platform.virt ≡ true → due m.platform.virt.csrs m.platform.virt.mode ≡ None
    → missing_entry (machine m (s ∷ ss))
    ≡ missing_entry_at m.device m.platform.virt.csrs m.ram s.entries (outcome_under (stages_of (machine m (s ∷ ss))) (machine m (s ∷ ss)))
unfolding missing_entry_under
read_front m s ss folding none = missing_entry_front m s ss folding none
    ∙ sym (ap (λ own. missing_entry_at m.device m.platform.virt.csrs m.ram s.entries (outcome_under (staged (knows m) own (device_of (machine m (s ∷ ss)))) (machine m (s ∷ ss))))
    (own_front m s ss folding))

pub missing_entries_are_read : MissingEntriesAreRead
missing_entries_are_read m is folding none = by m.spaces (is.front folding)
  where
    by : (spaces : List Space) → FrontIs m.platform.virt.csrs.hgatp spaces
        → missing_entry (machine m spaces)
        ≡ missing_entry_at m.device m.platform.virt.csrs m.ram (front spaces) (outcome_under (stages_of (machine m spaces)) (machine m spaces))
    by (t ∷ ts) front = read_front m t ts folding none
    by [] front = absurd front

-- where it lacks nothing and stops off the device page, the walk gives nothing to be cached
pub stops_are_faults : StopsAreFaults
stops_are_faults m u wanted is folding no_interrupt none stuck off = let virt : Virtual = m.platform.virt in
    let lacks : missing_entry_at m.device virt.csrs m.ram (front m.spaces) (outcome_under (stages_of m) m) ≡ None =
    sym (missing_entries_are_read m is folding no_interrupt) ∙ none in
    sym (ap (λ b. cond b None (entry_by_walk m.device virt.csrs m.ram u.address u.kind)) off)
    ∙ sym (ap (missing_entry_at m.device virt.csrs m.ram (front m.spaces)) stuck) ∙ lacks

-- an entry of the front space that permits an access
pub has_permitted : (m : Machine) (address : ℕ) (kind : Access) → has_own m address kind ≡ true
    → (folds m.platform.virt ≡ true) × ((e : Entry) × (entry_at (address / 4096) (front m.spaces) ≡ Some e)
    × (permits_second m.platform.virt.csrs.hs.status.mxr kind (leaf_of e) ≡ true))
has_permitted m address kind own = (both.0, by (entry_at (address / 4096) (front m.spaces)) refl both.1)
  where
    mxr : Bool
    mxr = m.platform.virt.csrs.hs.status.mxr

    both : (folds m.platform.virt ≡ true) × (is_permitted mxr kind (entry_at (address / 4096) (front m.spaces)) ≡ true)
    both = and_parts (folds m.platform.virt) (is_permitted mxr kind (entry_at (address / 4096) (front m.spaces))) own

    by : (there : Option Entry) → entry_at (address / 4096) (front m.spaces) ≡ there → is_permitted mxr kind there ≡ true
        → (e : Entry) × (entry_at (address / 4096) (front m.spaces) ≡ Some e) × (permits_second mxr kind (leaf_of e) ≡ true)
    by (Some e) there permits = (e, there, permits)
    by None there permits = absurd cc

-- where it has a place by the front space, or is on the device page by it, there is one
placed_own : (m : Machine) (address place : ℕ) (kind : Access) → folds m.platform.virt ≡ true → second_of m address kind ≡ Some place → has_own m address kind ≡ true
unfolding second_by
placed_own m address place kind folding is = let mxr = m.platform.virt.csrs.hs.status.mxr in
    let held = placed mxr address place kind (entry_at (address / 4096) (front m.spaces)) (sym (ap (λ (second : SecondStage). second address kind) (folds_by_front m folding)) ∙ is) in
    and_from (folds m.platform.virt) (is_permitted mxr kind (entry_at (address / 4096) (front m.spaces))) folding (ap (is_permitted mxr kind) held.1 ∙ held.2)

device_own : (m : Machine) (address : ℕ) (kind : Access) → folds m.platform.virt ≡ true
    → device_by_entries (front m.spaces) m.platform.virt.csrs.hs.status.mxr address kind ≡ true → has_own m address kind ≡ true
unfolding device_by_entries
device_own m address kind folding is = let mxr = m.platform.virt.csrs.hs.status.mxr in
    and_from (folds m.platform.virt) (is_permitted mxr kind (entry_at (address / 4096) (front m.spaces))) folding
    (by mxr (entry_at (address / 4096) (front m.spaces)) is)
  where
    by : (mxr : Bool) (there : Option Entry) → device_by mxr kind there ≡ true → is_permitted mxr kind there ≡ true
    by mxr (Some e) is = (and_parts (permits_second mxr kind (leaf_of e)) _ is).0
    by mxr None is = absurd cc

-- the rule by whether there is one
abbrev place_if : Machine → ℕ → Access → Bool → Option ℕ
place_if m address kind own = let virt = m.platform.virt in
    cond own (second_of m address kind) (second_by_walk virt.csrs virt.mode (ram_memory m.ram) address kind)

abbrev on_device_if : Machine → ℕ → Access → Bool → Bool
on_device_if m address kind own = let virt = m.platform.virt in
    cond own (device_of m address kind) (m.device && device_by_walk virt.csrs virt.mode (ram_memory m.ram) address kind)

pub ruled_place : (m : Machine) (address : ℕ) (kind : Access) (own : Bool) → has_own m address kind ≡ own → (ruled m).second address kind ≡ place_if m address kind own
ruled_place m address kind own is = ap (place_if m address kind) is

pub ruled_device : (m : Machine) (address : ℕ) (kind : Access) (own : Bool) → has_own m address kind ≡ own → (ruled m).device address kind ≡ on_device_if m address kind own
ruled_device m address kind own is = ap (on_device_if m address kind) is

within_rule : (m : Machine) → folds m.platform.virt ≡ true → IsWithin (second_of m) (ruled m).second
within_rule m folding = record { gives = λ address place kind is. ruled_place m address kind true (placed_own m address place kind folding is) ∙ is }

-- a machine that lacks nothing stops where the rule does
agree : (m : Machine) → IsOrderly m → missing_entry m ≡ None → folds m.platform.virt ≡ true → due m.platform.virt.csrs m.platform.virt.mode ≡ None
    → (u : MissingPlace) (wanted : Option DataAccess) → outcome_under (stages_of m) m ≡ Missed u wanted → second_of m u.address u.kind ≡ None
    → Agree (device_of m) (ruled m).device (ruled m).second u
agree m is none folding no_interrupt u wanted stuck absent = by (has_own m u.address u.kind) refl
  where
    virt : Virtual
    virt = m.platform.virt

    mxr : Bool
    mxr = virt.csrs.hs.status.mxr

    off : has_own m u.address u.kind ≡ false → (on : Bool) → device_by_entries (front m.spaces) mxr u.address u.kind ≡ on
        → device_by_entries (front m.spaces) mxr u.address u.kind ≡ false
    off no_own true on = let own = device_own m u.address u.kind folding on in absurd cc
    off no_own false on = on

    by : (own : Bool) → has_own m u.address u.kind ≡ own → Agree (device_of m) (ruled m).device (ruled m).second u
    by true own = record { none = ruled_place m u.address u.kind true own ∙ absent; served = ruled_device m u.address u.kind true own }
    by false own =
        let elsewhere = off own (device_by_entries (front m.spaces) mxr u.address u.kind) refl in
        let now = stops_are_faults m u wanted is folding no_interrupt none stuck elsewhere in
        record {
          none = ruled_place m u.address u.kind false own
              ∙ sym (fills_are_walks m.device virt m.ram u.address u.kind folding) ∙ ap (place_by mxr u.address u.kind) now;
          served = ruled_device m u.address u.kind false own
              ∙ sym (fills_are_devices m.device virt m.ram u.address u.kind folding) ∙ ap (λ there. m.device && device_by mxr u.kind there) now
              ∙ sym (front_device m u.address u.kind folding ∙ ap (λ b. m.device && b) elsewhere);
        }

ends_folding : (m : Machine) → IsOrderly m → missing_entry m ≡ None → folds m.platform.virt ≡ true → try m ≡ try_under (ruled m) m
ends_folding m is none folding = try_ruled m (knows m) (second_of m) (ruled m).second (device_of m) (ruled m).device (within_rule m folding) (agree m is none folding)

-- a machine that does not fold has RAM as it is
flat_root : (virt : Virtual) → folds virt ≡ false → second_root_of virt.csrs virt.mode ≡ root.Bare
flat_root virt flat = by virt.csrs.hgatp (is_virtual virt.mode) flat
  where
    by : (hgatp : GuestRoot) (virtual : Bool) → (virtual && is_table hgatp) ≡ false → cond virtual hgatp root.Bare ≡ root.Bare
    by (root.Table mode vmid ppn) true is = absurd cc
    by (root.Table mode vmid ppn) false is = refl
    by root.Bare true is = refl
    by root.Bare false is = refl

flat_now : (virt : Virtual) (ram : List ℕ) → folds virt ≡ false → second_by_walk virt.csrs virt.mode (ram_memory ram) ≡ bare (ram_memory ram)
flat_now virt ram flat = ap (second_under (ram_memory ram) virt.csrs.hs.status.mxr) (flat_root virt flat)

flat_device_now : (virt : Virtual) (ram : List ℕ) (address : ℕ) (kind : Access) → folds virt ≡ false
    → device_by_walk virt.csrs virt.mode (ram_memory ram) address kind ≡ is_on_device address
flat_device_now virt ram address kind flat = ap (λ hgatp. device_under (ram_memory ram) virt.csrs.hs.status.mxr hgatp address kind) (flat_root virt flat)

pub stages_same : (stages other : Stages) → stages.known ≡ other.known → stages.second ≡ other.second → stages.device ≡ other.device → stages ≡ other
stages_same stages other known second device = rw (known, second, device) refl

flat_rule : (m : Machine) → folds m.platform.virt ≡ false → ruled m ≡ stages_of m
flat_rule m flat = stages_same (ruled m) (stages_of m) refl (fun_ext (λ address. fun_ext (λ kind. place address kind))) (fun_ext (λ address. fun_ext (λ kind. device address kind)))
  where
    virt : Virtual
    virt = m.platform.virt

    none : (address : ℕ) (kind : Access) → has_own m address kind ≡ false
    none address kind = ap (λ b. b && is_permitted virt.csrs.hs.status.mxr kind (entry_at (address / 4096) (front m.spaces))) flat

    place : (address : ℕ) (kind : Access) → (ruled m).second address kind ≡ second_of m address kind
    place address kind = ruled_place m address kind false (none address kind)
        ∙ ap (λ (second : SecondStage). second address kind) (flat_now virt m.ram flat ∙ sym (flat_is_ram m flat))

    device : (address : ℕ) (kind : Access) → (ruled m).device address kind ≡ device_of m address kind
    device address kind = ruled_device m address kind false (none address kind)
        ∙ ap (λ b. m.device && b) (flat_device_now virt m.ram address kind flat) ∙ sym (flat_device m address kind flat)

pub tries_end_by_rule : TriesEndByRule
tries_end_by_rule m is none = by (folds m.platform.virt) refl
  where
    by : (b : Bool) → folds m.platform.virt ≡ b → try m ≡ try_under (ruled m) m
    by true folding = ends_folding m is none folding
    by false flat = ap (λ stages. try_under stages m) (sym (flat_rule m flat))

pub steps_end_by_rule : StepsEndByRule
steps_end_by_rule m is going = step_running m going
    ∙ ap (left_by (ready m)) (tries_end_by_rule (ready m) (filled_orderly (most_fills m) m is) (suffices m is.entries))
