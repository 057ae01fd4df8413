-- Every run is architectural.
use Rattle.std.specs.Prelude.{Contains, ◌&&◌, ◌%◌, flat_map, map}
use Rattle.std.specs.List.{All}
use Rattle.std.proofs.Common.{cond, ◌≡◌, ℕ, zero, suc, ◌/◌, ◌∙◌, ◌==◌, ◌⊎◌, inl, inr, Bool, true, false, List, [], ◌∷◌, ◌++◌, Option, Some, None, refl, sym, subst, ap}
use Rattle.std.proofs.lemmas.Bool.{and_parts}
use Rattle.std.proofs.lemmas.List.Elements.{All-append, All-cons, All-contains_itself, All-head, All-map, All-nil, All-tail, All-weaker}
use Rattle.arch_defs.specs.declared.cached.Entry.{Entry}
use Rattle.arch_defs.specs.declared.first.FirstEntry.{FirstEntry}
use Rattle.arch_defs.specs.declared.modes.Access.{Access}
use Rattle.arch_defs.specs.declared.modes.Mode.{Mode}
use Rattle.arch_defs.specs.declared.modes.Mode.TheVariants.{HS, U, VS, VU}
use Rattle.arch_defs.specs.declared.roots.GuestRoot.{GuestRoot}
use Rattle.arch_defs.specs.declared.registers.HypervisorStatus.{HypervisorStatus}
use Rattle.arch_defs.specs.declared.registers.Virtual.{Virtual}
use Rattle.arch_defs.specs.declared.walks.MissingPlace.{MissingPlace}
use Rattle.arch_defs.specs.declared.widths.Width.{Width}
use Rattle.arch_defs.specs.CachedEntries.{device_by, device_by_entries, entry_at, place_by, second_by}
use Rattle.arch_defs.specs.Inputs.{next_input}
use Rattle.arch_defs.specs.Interrupts.{due}
use Rattle.arch_defs.specs.Memory.{SecondStage, ram_memory}
use Rattle.arch_defs.specs.SecondStage.{OnDevice, is_implicit}
use Rattle.arch_defs.specs.Roots.{is_table, vmid_of}
use Rattle.arch_defs.specs.Spaces.{Space, front}
use Rattle.arch_defs.specs.Traps.{is_virtual, missing_place_fault}
use Rattle.arch_defs.specs.Waits.{wake_moment}
use Rattle.arch_defs.specs.WalkedEntries.{folds}
use Rattle.machine_defs.specs.declared.events.Event.TheVariants as event
use Rattle.guest_settings.specs.declared.statuses.Status.{Status}
use Rattle.guest_settings.specs.declared.statuses.Status.TheVariants.{Running, Waiting, Stopped}
use Rattle.op_defs.specs.declared.ops.DataAccess.{DataAccess}
use Rattle.op_defs.specs.declared.ops.Purpose.{Purpose}
use Rattle.machine_defs.specs.DeviceSteps.{DeviceCompletion, device_completed, device_step, device_wanted, served}
use Rattle.machine_defs.specs.Fills.{most_fills, ready}
use Rattle.machine_defs.specs.FreeMachines.{Answer, CachedTranslation, FreeMachine, FreeMove, FreeStep, IsByCache, IsByWalk, IsFirstWalked, IsWalked, MayTranslate, answer_by, cached_in, free_of, is_active, is_named, uncached, while_active, while_folding, without_buffer}
use Rattle.machine_defs.specs.HlvAccesses.{HlvEnd, Completes, Device, Traps, hlv_outcome}
use Rattle.machine_defs.specs.Machine.{Machine, has_enabled_interrupt, start, stepped_to, trapped, waited_until, with_first, with_registers}
use Rattle.machine_defs.specs.Outcomes.{Outcome, Done, Trapped, Missed, Called, Waits, Fenced, FirstFenced, Accesses}
use Rattle.machine_defs.specs.Runs.{left_by, run, step}
use Rattle.machine_defs.specs.Tries.{Stages, apply_outcome, fence_under, fence_with, found_by_try, hlv_committed, named_by_try, named_with_code, outcome_under, tried_with, try_under, unplaced, with_found}
use Rattle.cache_laws.specs.Caching.{FoldingRunsAreActive, GuestsAreArchitectural, RunsAreArchitectural}
use Rattle.fill_laws.specs.EachEntry.{EachEntry}
use Rattle.instruction_laws.specs.FrontSpaces.{FrontIs}
use Rattle.fill_laws.specs.Keeping.{IsOrderly}
use Rattle.fill_laws.specs.Laws.{has_own, ruled}
use Rattle.instruction_laws.proofs.Cached.{all_found}
use Rattle.fill_laws.proofs.Counting.{found_page}
use Rattle.fill_laws.proofs.Filling.{only_spaces}
use Rattle.fill_laws.proofs.EachEntry.{tried_each}
use Rattle.cache_laws.proofs.KeyedEntries.{HoldsOfWalks, fills_each, tried_unnamed}
use Rattle.fill_laws.proofs.Orderly.{filled_orderly, start_is_orderly, stays_orderly}
use Rattle.fill_laws.proofs.Ruling.{folds_by_front, front_device, has_permitted, ruled_device, ruled_place, steps_end_by_rule}
use Rattle.fill_laws.proofs.Running.{step_idle}
use Rattle.instruction_laws.proofs.FirstTries.{found_if_ends, tried_keeps_first, tried_unnamed_first}
use Rattle.instruction_laws.proofs.FirstWalks.{may_know, tried_walked}

-- the translations in spaces, and the entries with their keys
abbrev translation : GuestRoot → Entry → CachedTranslation
translation key e = record { vmid = vmid_of key; entry = e }

pub all_cached : (Q : CachedTranslation → Type 0) (spaces : List Space) → EachEntry (λ key e. Q (translation key e)) spaces → All Q (flat_map cached_in spaces)
all_cached Q [] all = All-nil Q
all_cached Q (s ∷ ss) all = let Holds : Space → Type 0 = λ s. All (λ e. Q (translation s.key e)) s.entries in
    All-append Q (cached_in s) (flat_map cached_in ss) (All-map Q (translation s.key) s.entries (All-head Holds s ss all)) (all_cached Q ss (All-tail Holds s ss all))

split_first : (Q : FirstEntry → Type 0) (xs ys : List FirstEntry) → All Q (xs ++ ys) → All Q xs × All Q ys
split_first Q [] ys all = (All-nil Q, all)
split_first Q (x ∷ xs) ys all = let rest = split_first Q xs ys (All-tail Q x (xs ++ ys) all) in (All-cons Q x xs (All-head Q x (xs ++ ys) all) rest.0, rest.1)

split_all : (Q : CachedTranslation → Type 0) (xs ys : List CachedTranslation) → All Q (xs ++ ys) → All Q xs × All Q ys
split_all Q [] ys all = (All-nil Q, all)
split_all Q (x ∷ xs) ys all = let rest = split_all Q xs ys (All-tail Q x (xs ++ ys) all) in (All-cons Q x xs (All-head Q x (xs ++ ys) all) rest.0, rest.1)

from_map : (Q : CachedTranslation → Type 0) (key : GuestRoot) (entries : List Entry) → All Q (map (translation key) entries) → All (λ e. Q (translation key e)) entries
from_map Q key [] all = All-nil (λ e. Q (translation key e))
from_map Q key (e ∷ es) all = All-cons (λ e. Q (translation key e)) e es (All-head Q (translation key e) (map (translation key) es) all)
    (from_map Q key es (All-tail Q (translation key e) (map (translation key) es) all))

each_of_cached : (Q : CachedTranslation → Type 0) (spaces : List Space) → All Q (flat_map cached_in spaces) → EachEntry (λ key e. Q (translation key e)) spaces
each_of_cached Q [] all = All-nil (λ (s : Space). All (λ e. Q (translation s.key e)) s.entries)
each_of_cached Q (s ∷ ss) all = let both = split_all Q (cached_in s) (flat_map cached_in ss) all in
    All-cons (λ (s : Space). All (λ e. Q (translation s.key e)) s.entries) s ss (from_map Q s.key s.entries both.0) (each_of_cached Q ss both.1)

each_cached : (spaces : List Space) → EachEntry (λ key e. Contains (flat_map cached_in spaces) (translation key e)) spaces
each_cached spaces = each_of_cached (Contains (flat_map cached_in spaces)) spaces (All-contains_itself (flat_map cached_in spaces))

-- a try leaves the same platform and RAM whatever the spaces are, and leaves whether there is a device page
abbrev SameBeside : Bool → Machine → Machine → Type 0
SameBeside device a b = (a.platform ≡ b.platform) × (a.ram ≡ b.ram) × (a.device ≡ device)

abbrev stripped : Machine → Machine
stripped m = uncached (free_of m)

waited_beside : (m : Machine) (first : List FirstEntry) (virt : Virtual) (moment : Option ℕ)
    → SameBeside m.device (left_by m (waited_until (with_first m first) virt moment)) (left_by (stripped m) (waited_until (with_first (stripped m) first) virt moment))
waited_beside m first virt (Some moment) = (refl, refl, refl)
waited_beside m first virt None = (refl, refl, refl)

waits_beside : (m : Machine) (first : List FirstEntry) (virt : Virtual) (b : Bool) (moment : Option ℕ)
    → SameBeside m.device (left_by m (cond b (stepped_to (with_first m first) (with_registers (with_first m first).platform virt) event.System) (waited_until (with_first m first) virt moment)))
    (left_by (stripped m) (cond b (stepped_to (with_first (stripped m) first) (with_registers (with_first m first).platform virt) event.System) (waited_until (with_first (stripped m) first) virt moment)))
waits_beside m first virt true moment = (refl, refl, refl)
waits_beside m first virt false moment = waited_beside m first virt moment

served_beside : (m : Machine) (first : List FirstEntry) (missing : MissingPlace) (completion : Option DeviceCompletion)
    → SameBeside m.device (left_by m (served (with_first m first) missing completion)) (left_by (stripped m) (served (with_first (stripped m) first) missing completion))
served_beside m first missing (Some completion) = (refl, refl, refl)
served_beside m first missing None = (refl, refl, refl)

device_beside : (m : Machine) (first : List FirstEntry) (missing : MissingPlace) (width : Width) (purpose : Purpose)
    → SameBeside m.device (left_by m (device_step (with_first m first) missing width purpose)) (left_by (stripped m) (device_step (with_first (stripped m) first) missing width purpose))
device_beside m first missing width purpose = let p = (with_first m first).platform in
    served_beside m first missing (device_completed p.virt p.console p.clock.time (missing.address % 4096) width purpose)

wanted_beside : (m : Machine) (first : List FirstEntry) (missing : MissingPlace) (wanted : Option DataAccess)
    → SameBeside m.device (left_by m (device_wanted (with_first m first) missing wanted)) (left_by (stripped m) (device_wanted (with_first (stripped m) first) missing wanted))
wanted_beside m first missing (Some wanted) = device_beside m first missing wanted.width wanted.purpose
wanted_beside m first missing None = (refl, refl, refl)

unplaced_beside : (m : Machine) (first : List FirstEntry) (missing : MissingPlace) (wanted : Option DataAccess) (on : Bool)
    → SameBeside m.device (left_by m (unplaced (with_first m first) missing wanted on)) (left_by (stripped m) (unplaced (with_first (stripped m) first) missing wanted on))
unplaced_beside m first missing wanted false = (refl, refl, refl)
unplaced_beside m first missing wanted true = by (is_implicit missing.kind)
  where
    by : (implicit : Bool) → SameBeside m.device (left_by m (cond implicit (trapped (with_first m first) (missing_place_fault missing)) (device_wanted (with_first m first) missing wanted)))
        (left_by (stripped m) (cond implicit (trapped (with_first (stripped m) first) (missing_place_fault missing)) (device_wanted (with_first (stripped m) first) missing wanted)))
    by true = (refl, refl, refl)
    by false = wanted_beside m first missing wanted

hlv_beside : (m : Machine) (first : List FirstEntry) (wanted : DataAccess) (end : HlvEnd)
    → SameBeside m.device (left_by m (hlv_committed (with_first m first) wanted end)) (left_by (stripped m) (hlv_committed (with_first (stripped m) first) wanted end))
hlv_beside m first wanted (Completes completion) = (refl, refl, refl)
hlv_beside m first wanted (Device missing) = device_beside m first missing wanted.width wanted.purpose
hlv_beside m first wanted (Traps trap) = (refl, refl, refl)

concluded_beside : (m : Machine) (first : List FirstEntry) (device : OnDevice) (o : Outcome)
    → SameBeside m.device (left_by m (apply_outcome device (with_first m first) o)) (left_by (stripped m) (apply_outcome device (with_first (stripped m) first) o))
concluded_beside m first device (Done virt stored event) = (refl, refl, refl)
concluded_beside m first device (Trapped trap) = (refl, refl, refl)
concluded_beside m first device (Missed missing wanted) = unplaced_beside m first missing wanted (device missing.address missing.kind)
concluded_beside m first device Called = (refl, refl, refl)
concluded_beside m first device (Waits virt) = waits_beside m first virt (has_enabled_interrupt m.platform.virt.csrs)
    (wake_moment m.platform.virt.csrs.sie m.platform.clock.timer (next_input m.platform.console.inputs))
concluded_beside m first device (Fenced virt fence) = (refl, refl, refl)
concluded_beside m first device (FirstFenced virt named fence) = (refl, refl, refl)
concluded_beside m first device (Accesses wanted) = hlv_beside m first wanted (hlv_outcome m.device (ram_memory m.ram) (with_first m first).platform.virt wanted)

tried_beside : (m : Machine) (stages : Stages) → SameBeside m.device (left_by m (try_under stages m)) (left_by (stripped m) (try_under stages (stripped m)))
unfolding try_under
tried_beside m stages = by (due m.platform.virt.csrs m.platform.virt.mode)
  where
    by : (code : Option ℕ) → SameBeside m.device (left_by m (tried_with stages m code)) (left_by (stripped m) (tried_with stages (stripped m) code))
    by (Some code) = (refl, refl, refl)
    by None = concluded_beside m (with_found stages m).platform.virt.first stages.device (outcome_under stages m)

-- and is the same fence
fence_beside : (m : Machine) (stages : Stages) → fence_under stages m ≡ fence_under stages (stripped m)
unfolding fence_under
fence_beside m stages = by (due m.platform.virt.csrs m.platform.virt.mode)
  where
    by : (code : Option ℕ) → fence_with stages m code ≡ fence_with stages (stripped m) code
    by (Some code) = refl
    by None = refl

-- and names the same
named_beside : (m : Machine) (stages : Stages) (e : FirstEntry) → named_by_try stages m e ≡ named_by_try stages (stripped m) e
unfolding named_by_try
named_beside m stages e = by (due m.platform.virt.csrs m.platform.virt.mode)
  where
    by : (code : Option ℕ) → named_with_code stages m code e ≡ named_with_code stages (stripped m) code e
    by (Some code) = refl
    by None = refl

-- hgatp is active with V = 1
active : (hstatus : HypervisorStatus) (mode : Mode) → is_virtual mode ≡ true → is_active hstatus mode ≡ true
active hstatus HS virtual = refl
active hstatus U virtual = absurd cc
active hstatus VS virtual = refl
active hstatus VU virtual = refl

folds_virtual : (virt : Virtual) → folds virt ≡ true → is_virtual virt.mode ≡ true
folds_virtual virt folding = (and_parts (is_virtual virt.mode) (is_table virt.csrs.hgatp) folding).0

-- what was cached, or is walked
abbrev IsHeld : Machine → CachedTranslation → Type 0
IsHeld m c = Contains (free_of m).cache c ⊎ IsWalked while_folding m.device m.platform.virt m.ram c

held_walks : (m : Machine) → HoldsOfWalks (λ key e. IsHeld m (translation key e)) m.device m.platform.virt m.ram
held_walks m folding address kind e is = inr (record {
  active = folding;
  vmid = refl;
  address = address;
  kind = kind;
  walked = is;
})

held_ready : (m : Machine) → IsOrderly m → All (IsHeld m) (flat_map cached_in (ready m).spaces)
held_ready m is = all_cached (IsHeld m) (ready m).spaces
    (fills_each (λ key e. IsHeld m (translation key e)) (most_fills m) m is (held_walks m) held_before)
  where
    held_before : EachEntry (λ key e. IsHeld m (translation key e)) m.spaces
    held_before = each_of_cached (IsHeld m) m.spaces (All-weaker (Contains (free_of m).cache) (IsHeld m) (λ c held. inl held) (free_of m).cache (All-contains_itself (free_of m).cache))

-- the entry of the front space for a page is cached under hgatp's VMID
front_cached : (key : GuestRoot) (spaces : List Space) (page : ℕ) (e : Entry) → FrontIs key spaces → entry_at page (front spaces) ≡ Some e
    → Contains (flat_map cached_in spaces) (translation key e)
front_cached key [] page e there is = absurd there
front_cached key (s ∷ ss) page e there is = let cache = flat_map cached_in (s ∷ ss) in
    subst (λ k. Contains cache (translation k e)) there
    (all_found (λ x. Contains cache (translation s.key x)) (λ x. x.page == page) s.entries e
    (All-head (λ (t : Space). All (λ x. Contains cache (translation t.key x)) t.entries) s ss (each_cached (s ∷ ss))) is)

-- the rule by which a step ends is of stages that the free machine may have
by_own : (m : Machine) (address : ℕ) (kind : Access) → IsOrderly m → has_own m address kind ≡ true
    → IsByCache while_folding m.device m.platform.virt (flat_map cached_in m.spaces) address kind (answer_by (ruled m) address kind)
unfolding second_by device_by_entries
by_own m address kind is own = let virt = m.platform.virt in let mxr = virt.csrs.hs.status.mxr in
    let there = has_permitted m address kind own in
    let e = there.1.0 in
    record {
      serving = there.0;
      cached = translation virt.csrs.hgatp e;
      held = front_cached virt.csrs.hgatp m.spaces (address / 4096) e (is.front there.0) there.1.1;
      vmid = refl;
      page = found_page (address / 4096) (front m.spaces) e there.1.1;
      permits = there.1.2;
      place = ruled_place m address kind true own ∙ ap (λ (second : SecondStage). second address kind) (folds_by_front m there.0)
          ∙ ap (place_by mxr address kind) there.1.1;
      on_device = ruled_device m address kind true own ∙ front_device m address kind there.0 ∙ ap (λ o. m.device && device_by mxr kind o) there.1.1;
    }

ruled_by_cache : (m : Machine) → IsOrderly m → (first : List FirstEntry) → All (Contains first) m.platform.virt.first
    → MayTranslate while_folding m.device m.platform.virt m.ram (flat_map cached_in m.spaces) first (ruled m)
ruled_by_cache m is first all = record { known = may_know m.platform.virt m.platform.virt.first first all; answers = λ address kind. by address kind (has_own m address kind) refl }
  where
    by : (address : ℕ) (kind : Access) (own : Bool) → has_own m address kind ≡ own
        → IsByCache while_folding m.device m.platform.virt (flat_map cached_in m.spaces) address kind (answer_by (ruled m) address kind)
        ⊎ IsByWalk m.device m.platform.virt m.ram address kind (answer_by (ruled m) address kind)
    by address kind true own = inl (by_own m address kind is own)
    by address kind false none = inr (record { place = ruled_place m address kind false none; on_device = ruled_device m address kind false none })

-- what is cached after a try was cached before, and the try does not name it as a fence
try_keeps : (m : Machine) (stages : Stages) → All (Contains (flat_map cached_in m.spaces)) (flat_map cached_in (left_by m (try_under stages m)).spaces)
try_keeps m stages = let cache = flat_map cached_in m.spaces in
    all_cached (Contains cache) (left_by m (try_under stages m)).spaces (tried_each (λ key e. Contains cache (translation key e)) m stages (each_cached m.spaces))

try_fences : (m : Machine) (stages : Stages)
    → All (λ c. is_named (fence_under stages (stripped m)) c.vmid c.entry ≡ false) (flat_map cached_in (left_by m (try_under stages m)).spaces)
try_fences m stages = let after = (left_by m (try_under stages m)).spaces in
    subst (λ fence. All (λ c. is_named fence c.vmid c.entry ≡ false) (flat_map cached_in after)) (fence_beside m stages)
    (all_cached (λ c. is_named (fence_under stages m) c.vmid c.entry ≡ false) after (tried_unnamed m stages))

-- of the first stage, those before a try and those that it finds
abbrev first_held : Machine → Stages → List FirstEntry
first_held m stages = m.platform.virt.first ++ found_by_try stages m

first_before : (m : Machine) (stages : Stages) → All (Contains (first_held m stages)) m.platform.virt.first × All (Contains (first_held m stages)) (found_by_try stages m)
first_before m stages = split_first (Contains (first_held m stages)) m.platform.virt.first (found_by_try stages m) (All-contains_itself (first_held m stages))

first_allowed : (m : Machine) (stages : Stages)
    → All (λ e. Contains (free_of m).platform.virt.first e ⊎ IsFirstWalked m.platform.virt m.ram stages.second e) (first_held m stages)
first_allowed m stages = let Held : FirstEntry → Type 0 = λ e. Contains m.platform.virt.first e ⊎ IsFirstWalked m.platform.virt m.ram stages.second e in
    All-append Held m.platform.virt.first (found_by_try stages m)
    (All-weaker (Contains m.platform.virt.first) Held (λ e held. inl held) m.platform.virt.first (All-contains_itself m.platform.virt.first))
    (All-weaker (IsFirstWalked m.platform.virt m.ram stages.second) Held (λ e walk. inr walk) (found_by_try stages m) (tried_walked m stages))

first_kept : (m : Machine) (stages : Stages) → All (Contains (first_held m stages)) (left_by m (try_under stages m)).platform.virt.first
first_kept m stages = tried_keeps_first (Contains (first_held m stages)) m stages (first_before m stages).0
    (found_if_ends (Contains (first_held m stages)) (found_by_try stages m) (try_under stages m) (first_before m stages).1)

first_unnamed : (m : Machine) (stages : Stages) → All (λ e. named_by_try stages (stripped m) e ≡ false) (left_by m (try_under stages m)).platform.virt.first
first_unnamed m stages = All-weaker (λ e. named_by_try stages m e ≡ false) (λ e. named_by_try stages (stripped m) e ≡ false)
    (λ e unnamed. sym (named_beside m stages e) ∙ unnamed) (left_by m (try_under stages m)).platform.virt.first (tried_unnamed_first m stages)

-- a step from a machine at its last try, whose cached translations the free machine had or has walked
step_freely : (m : Machine) (spaces : List Space) (next : Machine) → IsOrderly (record m { spaces = spaces }) → All (IsHeld m) (flat_map cached_in spaces)
    → next ≡ left_by (record m { spaces = spaces }) (try_under (ruled (record m { spaces = spaces })) (record m { spaces = spaces }))
    → FreeStep while_folding (free_of m) (free_of next)
step_freely m spaces next is held ends = let last = record m { spaces = spaces } in let stages = ruled last in record {
  cache = flat_map cached_in spaces;
  allowed = held;
  stages = stages;
  first = first_held last stages;
  first_allowed = first_allowed last stages;
  translates = ruled_by_cache last is (first_held last stages) (first_before last stages).0;
  platform = ap without_buffer (ap (λ (t : Machine). t.platform) ends ∙ (tried_beside last stages).0);
  ram = ap (λ (t : Machine). t.ram) ends ∙ (tried_beside last stages).1;
  device = ap (λ (t : Machine). t.device) ends ∙ (tried_beside last stages).2;
  kept = subst (λ (t : Machine). All (Contains (flat_map cached_in spaces)) (flat_map cached_in t.spaces)) (sym ends) (try_keeps last stages);
  fenced = subst (λ (t : Machine). All (λ c. is_named (fence_under stages (stripped last)) c.vmid c.entry ≡ false) (flat_map cached_in t.spaces))
      (sym ends) (try_fences last stages);
  first_kept = subst (λ (t : Machine). All (Contains (first_held last stages)) t.platform.virt.first) (sym ends) (first_kept last stages);
  first_fenced = subst (λ (t : Machine). All (λ e. named_by_try stages (stripped last) e ≡ false) t.platform.virt.first) (sym ends) (first_unnamed last stages);
}

running_freely : (m : Machine) → IsOrderly m → m.platform.status ≡ Running → FreeStep while_folding (free_of m) (free_of (step m))
running_freely m is going = let same = only_spaces m (most_fills m) in
    step_freely m (ready m).spaces (step m) (subst IsOrderly same (filled_orderly (most_fills m) m is)) (held_ready m is)
    (steps_end_by_rule m is going ∙ ap (λ t. left_by t (try_under (ruled t) t)) same)

moves_freely : (m : Machine) → IsOrderly m → (s : Status) → m.platform.status ≡ s → FreeMove while_folding s (free_of m) (free_of (step m))
moves_freely m is Running going = running_freely m is going
moves_freely m is Waiting going = ap free_of (step_idle m (λ running. absurd (by (sym going ∙ running))))
  where
    by : Waiting ≡ Running → ⊥
    by same = absurd cc
moves_freely m is Stopped going = ap free_of (step_idle m (λ running. absurd (by (sym going ∙ running))))
  where
    by : Stopped ≡ Running → ⊥
    by same = absurd cc

next_orderly : (m : Machine) → IsOrderly m → IsOrderly (step m)
unfolding run
next_orderly m is = stays_orderly m 1 is

pub runs_are_architectural : RunsAreArchitectural
unfolding run
runs_are_architectural m zero is = refl
runs_are_architectural m (suc steps) is =
    (free_of (step m), moves_freely m is m.platform.status refl, runs_are_architectural (step m) steps (next_orderly m is))

pub guests_are_architectural : GuestsAreArchitectural
guests_are_architectural guest steps entries spaces = runs_are_architectural (start guest) steps (start_is_orderly guest entries spaces)

-- what a machine may cache and go by while it folds, it may where hgatp is active
walked_while_active : (device : Bool) (virt : Virtual) (ram : List ℕ) (c : CachedTranslation) → IsWalked while_folding device virt ram c → IsWalked while_active device virt ram c
walked_while_active device virt ram c walk = record {
  active = active virt.csrs.hstatus virt.mode (folds_virtual virt walk.active);
  vmid = walk.vmid;
  address = walk.address;
  kind = walk.kind;
  walked = walk.walked;
}

served_while_active : (device : Bool) (virt : Virtual) (cache : List CachedTranslation) (address : ℕ) (kind : Access) (answer : Answer)
    → IsByCache while_folding device virt cache address kind answer → IsByCache while_active device virt cache address kind answer
served_while_active device virt cache address kind answer by = record {
  serving = folds_virtual virt by.serving;
  cached = by.cached;
  held = by.held;
  vmid = by.vmid;
  page = by.page;
  permits = by.permits;
  place = by.place;
  on_device = by.on_device;
}

step_while_active : (f g : FreeMachine) → FreeStep while_folding f g → FreeStep while_active f g
step_while_active f g s = record {
  cache = s.cache;
  allowed = All-weaker (λ c. Contains f.cache c ⊎ IsWalked while_folding f.device f.platform.virt f.ram c)
      (λ c. Contains f.cache c ⊎ IsWalked while_active f.device f.platform.virt f.ram c) allowed s.cache s.allowed;
  stages = s.stages;
  first = s.first;
  first_allowed = s.first_allowed;
  translates = record { known = s.translates.known; answers = λ address kind. answers address kind (s.translates.answers address kind) };
  platform = s.platform;
  ram = s.ram;
  device = s.device;
  kept = s.kept;
  fenced = s.fenced;
  first_kept = s.first_kept;
  first_fenced = s.first_fenced;
}
  where
    virt : Virtual
    virt = f.platform.virt

    allowed : (c : CachedTranslation) → Contains f.cache c ⊎ IsWalked while_folding f.device virt f.ram c → Contains f.cache c ⊎ IsWalked while_active f.device virt f.ram c
    allowed c (inl held) = inl held
    allowed c (inr walk) = inr (walked_while_active f.device virt f.ram c walk)

    answers : (address : ℕ) (kind : Access)
        → IsByCache while_folding f.device virt s.cache address kind (answer_by s.stages address kind) ⊎ IsByWalk f.device virt f.ram address kind (answer_by s.stages address kind)
        → IsByCache while_active f.device virt s.cache address kind (answer_by s.stages address kind) ⊎ IsByWalk f.device virt f.ram address kind (answer_by s.stages address kind)
    answers address kind (inl by) = inl (served_while_active f.device virt s.cache address kind (answer_by s.stages address kind) by)
    answers address kind (inr now) = inr now

move_while_active : (s : Status) (f g : FreeMachine) → FreeMove while_folding s f g → FreeMove while_active s f g
move_while_active Running f g moves = step_while_active f g moves
move_while_active Waiting f g moves = moves
move_while_active Stopped f g moves = moves

pub folding_runs_are_active : FoldingRunsAreActive
folding_runs_are_active f h zero runs = runs
folding_runs_are_active f h (suc steps) (g, moves, runs) =
    (g, move_while_active f.platform.status f g moves, folding_runs_are_active g h steps runs)
