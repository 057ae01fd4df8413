-- Each space is for a value of hgatp that can be stored and names a table, and has what such a table gives.
use Rattle.std.specs.Prelude.{find, not}
use Rattle.std.specs.List.{All}
use Rattle.std.proofs.Common.{cond, ◌≡◌, ℕ, Bool, true, false, List, [], ◌∷◌, Option, Some, None, refl, sym, subst, ap}
use Rattle.std.proofs.lemmas.Bool.{and_parts}
use Rattle.std.proofs.lemmas.List.Elements.{All-cons, All-filter, All-head, All-map, All-nil, All-tail, All-take, All-weaker}
use Rattle.arch_defs.specs.declared.cached.Entry.{Entry}
use Rattle.arch_defs.specs.declared.cached.Fence.{Fence}
use Rattle.arch_defs.specs.declared.roots.GuestRoot.{GuestRoot}
use Rattle.arch_defs.specs.declared.registers.Virtual.{Virtual}
use Rattle.arch_defs.specs.CachedEntries.{filled}
use Rattle.arch_defs.specs.Roots.{is_table}
use Rattle.arch_defs.specs.Spaces.{Space, entered, fenced, fenced_space, found_or_empty, is_for}
use Rattle.arch_defs.specs.Traps.{is_virtual}
use Rattle.arch_defs.specs.WalkedEntries.{folds}
use Rattle.machine_defs.specs.Fills.{filled_front, missing_entry}
use Rattle.machine_defs.specs.Machine.{Machine, Tried, Ended, WaitsForGood, start}
use Rattle.machine_defs.specs.Runs.{left_after, left_by}
use Rattle.machine_defs.specs.Tries.{enters, fence_under, stages_of, try}
use Rattle.fill_laws.specs.Keeping.{IsOrderly}
use Rattle.run_laws.specs.Keys.{HaveKeys, IsKey, RunKeepsKeys, RunKeepsTables, StartHasKeys}
use Rattle.fill_laws.specs.GivenEntries.{IsOfTable}
use Rattle.fill_laws.specs.Laws.{spaces_left}
use Rattle.run_laws.specs.StorableStates.{IsStorable}
use Rattle.instruction_laws.proofs.Cached.{all_found, lacked}
use Rattle.fill_laws.proofs.Changing.{SpacesAre, try_spaces}
use Rattle.fill_laws.proofs.EachEntry.{each_after_runs}
use Rattle.instruction_laws.proofs.KeptByRuns.{IsKept, kept_by_runs}
use Rattle.fill_laws.proofs.Leaves.{of_table}
use Rattle.run_laws.proofs.StorableRuns.{fill_stays_storable, try_stays_storable}

abbrev HasKey : Space → Type 0
HasKey s = IsKey s.key

-- a fill and a fence leave the keys
keys_filled : (most : ℕ) (spaces : List Space) (e : Entry) → HaveKeys spaces → HaveKeys (filled_front most spaces e)
keys_filled most [] e all = all
keys_filled most (s ∷ ss) e all =
    All-cons HasKey (record s { entries = filled most s.entries e }) ss (All-head HasKey s ss all) (All-tail HasKey s ss all)

keys_fenced : (fence : Fence) (spaces : List Space) → HaveKeys spaces → HaveKeys (fenced fence spaces)
unfolding fenced
keys_fenced fence spaces all = All-map HasKey (fenced_space fence) spaces
    (All-weaker HasKey (λ (s : Space). HasKey (fenced_space fence s)) (λ s has. has) spaces all)

-- the entering of a space adds its own alone
own_key : (key : GuestRoot) → IsKey key → (spaces : List Space) (there : Option Space) → find (is_for key) spaces ≡ there → HaveKeys spaces
    → HasKey (found_or_empty key there)
own_key key own spaces (Some s) is all = all_found HasKey (is_for key) spaces s all is
own_key key own spaces None is all = own

keys_entered : (room : ℕ) (key : GuestRoot) → IsKey key → (spaces : List Space) → HaveKeys spaces → HaveKeys (entered room key spaces)
unfolding entered
keys_entered room key own spaces all = All-take HasKey room _ (All-cons HasKey _ _
    (own_key key own spaces (find (is_for key) spaces) refl all) (All-filter _ HasKey spaces all))

-- and that is hgatp's, where a state that can be stored folds
key_of : (virt : Virtual) → IsStorable virt → folds virt ≡ true → IsKey virt.csrs.hgatp
key_of virt is folding = record {
  stored = ap (λ c. c.hgatp) is.csrs;
  table = (and_parts (is_virtual virt.mode) (is_table virt.csrs.hgatp) folding).1;
}

left_keys : (m : Machine) (after : Virtual) (fence : Option Fence) → IsStorable after → HaveKeys m.spaces → HaveKeys (spaces_left m after fence)
left_keys m after (Some fence) is all = keys_fenced fence m.spaces all
left_keys m after None is all = by (enters m.platform.virt after) refl
  where
    by : (b : Bool) → enters m.platform.virt after ≡ b → HaveKeys (cond b (entered m.space_room after.csrs.hgatp m.spaces) m.spaces)
    by true sets = let folding = (and_parts (not (is_virtual m.platform.virt.mode)) (folds after) sets).1 in
        keys_entered m.space_room after.csrs.hgatp (key_of after is folding) m.spaces all
    by false stays = all

-- so a try keeps them, and a run
tried_keys : (m : Machine) → IsStorable m.platform.virt → HaveKeys m.spaces → HaveKeys (left_after m).spaces
tried_keys m is all = by (try m) (try_spaces (stages_of m) m) (try_stays_storable m is)
  where
    by : (t : Tried) → SpacesAre m (fence_under (stages_of m) m) t → IsStorable (left_by m t).platform.virt → HaveKeys (left_by m t).spaces
    by (Ended after event) are virt = subst HaveKeys (sym are) (left_keys m after.platform.virt (fence_under (stages_of m) m) virt all)
    by WaitsForGood are virt = all

abbrev IsKeyed : Machine → Type 0
IsKeyed m = HaveKeys m.spaces × IsStorable m.platform.virt

keyed_kept : IsKept IsKeyed
keyed_kept = record {
  filled = λ m e (keys, is) lacks. (keys_filled m.entry_room m.spaces e keys, fill_stays_storable m e is);
  tried = λ m (keys, is). (tried_keys m is keys, try_stays_storable m is);
}

pub keys_stay : RunKeepsKeys
keys_stay m n is keys = (kept_by_runs IsKeyed keyed_kept m n (keys, is)).0

-- each fill is what a walk of hgatp's table gives
fills_of_table : (m : Machine) (e : Entry) → IsOrderly m → missing_entry m ≡ Some e → IsOfTable m.platform.virt.csrs.hgatp e
fills_of_table m e orderly lacks = let at = (lacked m e lacks).1 in
    of_table m.device m.platform.virt.csrs m.ram at.0.address at.0.kind e at.1

pub tables_stay : RunKeepsTables
tables_stay = each_after_runs IsOfTable fills_of_table

pub start_has_keys : StartHasKeys
unfolding start
start_has_keys guest = (All-nil HasKey, All-nil (λ (s : Space). All (IsOfTable s.key) s.entries))
