-- What holds of each cached translation, fences, steps and runs keep, if each fill has it.
use Rattle.std.specs.Prelude.{find}
use Rattle.std.specs.List.{All}
use Rattle.std.proofs.Common.{◌≡◌, ℕ, List, [], ◌∷◌, ◌++◌, Option, Some, None, refl, sym, subst}
use Rattle.std.proofs.lemmas.List.Elements.{All-cons, All-drop, All-filter, All-head, All-map, All-nil, All-push, All-tail, All-take, All-weaker}
use Rattle.arch_defs.specs.declared.cached.Entry.{Entry}
use Rattle.arch_defs.specs.declared.cached.Fence.{Fence}
use Rattle.arch_defs.specs.declared.roots.GuestRoot.{GuestRoot}
use Rattle.arch_defs.specs.declared.registers.Virtual.{Virtual}
use Rattle.arch_defs.specs.CachedEntries.{filled, without}
use Rattle.arch_defs.specs.Spaces.{Space, entered, fenced, fenced_space, found_or_empty, is_for}
use Rattle.machine_defs.specs.Fills.{fill, filled_front, missing_entry}
use Rattle.machine_defs.specs.Machine.{Machine, Tried, Ended, WaitsForGood}
use Rattle.machine_defs.specs.Runs.{left_after, left_by, run}
use Rattle.machine_defs.specs.Tries.{Stages, enters, fence_under, stages_of, try_under}
use Rattle.fill_laws.specs.EachEntry.{EachEntry, FrontHas}
use Rattle.instruction_laws.specs.FrontSpaces.{FrontIs}
use Rattle.fill_laws.specs.Keeping.{IsOrderly}
use Rattle.fill_laws.specs.Laws.{spaces_left}
use Rattle.instruction_laws.proofs.Cached.{all_found, either, lacked}
use Rattle.fill_laws.proofs.Changing.{SpacesAre, try_spaces}
use Rattle.instruction_laws.proofs.KeptByRuns.{IsKept, kept_by_runs}
use Rattle.fill_laws.proofs.Orderly.{fill_stays_orderly, try_stays_orderly}

-- what holds of a space where it holds of each entry, with the key
abbrev Has : (GuestRoot → Entry → Type 0) → Space → Type 0
Has P s = All (P s.key) s.entries

-- after a fill of the front space
filled_each : (P : Entry → Type 0) (most : ℕ) (entries : List Entry) (e : Entry) → All P entries → P e → All P (filled most entries e)
unfolding filled
filled_each P most entries e all one = All-drop P _ (without e.page entries ++ e ∷ []) (All-push P (without e.page entries) e (All-filter _ P entries all) one)

pub front_each : (P : GuestRoot → Entry → Type 0) (most : ℕ) (spaces : List Space) (e : Entry) → EachEntry P spaces → FrontHas (λ key. P key e) spaces
    → EachEntry P (filled_front most spaces e)
front_each P most [] e all one = all
front_each P most (s ∷ ss) e all one = All-cons (Has P) (record s { entries = filled most s.entries e }) ss
    (filled_each (P s.key) most s.entries e (All-head (Has P) s ss all) one) (All-tail (Has P) s ss all)

-- after a fence
pub fenced_each : (P : GuestRoot → Entry → Type 0) (fence : Fence) (spaces : List Space) → EachEntry P spaces → EachEntry P (fenced fence spaces)
unfolding fenced
fenced_each P fence spaces all = All-map (Has P) (fenced_space fence) spaces
    (All-weaker (Has P) (λ (s : Space). Has P (fenced_space fence s)) (λ s of_s. All-filter _ (P s.key) s.entries of_s) spaces all)

-- after the entering of a space
own_each : (P : GuestRoot → Entry → Type 0) (key : GuestRoot) (spaces : List Space) (there : Option Space) → find (is_for key) spaces ≡ there → EachEntry P spaces
    → Has P (found_or_empty key there)
own_each P key spaces (Some s) is all = all_found (Has P) (is_for key) spaces s all is
own_each P key spaces None is all = All-nil (P key)

pub entered_each : (P : GuestRoot → Entry → Type 0) (room : ℕ) (key : GuestRoot) (spaces : List Space) → EachEntry P spaces → EachEntry P (entered room key spaces)
unfolding entered
entered_each P room key spaces all = All-take (Has P) room _ (All-cons (Has P) _ _
    (own_each P key spaces (find (is_for key) spaces) refl all) (All-filter _ (Has P) spaces all))

-- and so after a try
left_each : (P : GuestRoot → Entry → Type 0) (m : Machine) (after : Virtual) (fence : Option Fence) → EachEntry P m.spaces → EachEntry P (spaces_left m after fence)
left_each P m after (Some fence) all = fenced_each P fence m.spaces all
left_each P m after None all = either (EachEntry P) (enters m.platform.virt after) _ _ (entered_each P m.space_room after.csrs.hgatp m.spaces all) all

pub tried_each : (P : GuestRoot → Entry → Type 0) (m : Machine) (stages : Stages) → EachEntry P m.spaces → EachEntry P (left_by m (try_under stages m)).spaces
tried_each P m stages all = by (try_under stages m) (try_spaces stages m)
  where
    by : (t : Tried) → SpacesAre m (fence_under stages m) t → EachEntry P (left_by m t).spaces
    by (Ended after event) are = subst (EachEntry P) (sym are) (left_each P m after.platform.virt (fence_under stages m) all)
    by WaitsForGood are = all

-- if each fill has P, with what else fills and tries keep, so do all entries of all spaces after each fill
-- and each try, and so after each run
pub each_kept : (P : GuestRoot → Entry → Type 0) (Also : Machine → Type 0)
    → ((m : Machine) (e : Entry) → Also m → EachEntry P m.spaces → missing_entry m ≡ Some e → FrontHas (λ key. P key e) m.spaces)
    → ((m : Machine) (e : Entry) → Also m → EachEntry P m.spaces → missing_entry m ≡ Some e → Also (fill m e))
    → ((m : Machine) → Also m → EachEntry P m.spaces → Also (left_after m))
    → IsKept (λ m. EachEntry P m.spaces × Also m)
each_kept P Also has filled tried = record {
  filled = λ m e (all, also) is. (front_each P m.entry_room m.spaces e all (has m e also all is), filled m e also all is);
  tried = λ m (all, also). (tried_each P m (stages_of m) all, tried m also all);
}

-- where the front space is hgatp's, a fill is one for hgatp
pub front_has : (Q : GuestRoot → Type 0) (key : GuestRoot) (spaces : List Space) → FrontIs key spaces → Q key → FrontHas Q spaces
front_has Q key [] front has = tt
front_has Q key (s ∷ ss) front has = subst Q (sym front) has

-- so if each fill of an orderly machine has P with hgatp, all entries of all spaces have it after each run
pub each_after_runs : (P : GuestRoot → Entry → Type 0) → ((m : Machine) (e : Entry) → IsOrderly m → missing_entry m ≡ Some e → P m.platform.virt.csrs.hgatp e)
    → (m : Machine) (n : ℕ) → IsOrderly m → EachEntry P m.spaces → EachEntry P (run m n).spaces
each_after_runs P has m n is all = (kept_by_runs (λ (t : Machine). EachEntry P t.spaces × IsOrderly t)
    (each_kept P IsOrderly fills (λ t e orderly each lacks. fill_stays_orderly t e orderly lacks) (λ t orderly each. try_stays_orderly t orderly)) m n (all, is)).0
  where
    fills : (t : Machine) (e : Entry) → IsOrderly t → EachEntry P t.spaces → missing_entry t ≡ Some e → FrontHas (λ key. P key e) t.spaces
    fills t e orderly each lacks = front_has (λ key. P key e) t.platform.virt.csrs.hgatp t.spaces (orderly.front (lacked t e lacks).0) (has t e orderly lacks)
