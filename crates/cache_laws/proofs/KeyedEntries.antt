-- Cached entries with their keys: what holds of them after fills, and that none is left that a try names as a
-- fence.
use Rattle.std.specs.Prelude.{not, filter, get_or, map}
use Rattle.std.specs.List.{All}
use Rattle.std.proofs.Common.{cond, ◌≡◌, ℕ, zero, suc, Bool, true, false, List, [], ◌∷◌, Option, Some, None, refl}
use Rattle.std.proofs.lemmas.List.Elements.{All-cons, All-nil}
use Rattle.arch_defs.specs.declared.cached.Entry.{Entry}
use Rattle.arch_defs.specs.declared.cached.Fence.{Fence}
use Rattle.arch_defs.specs.declared.modes.Access.{Access}
use Rattle.arch_defs.specs.declared.roots.GuestRoot.{GuestRoot}
use Rattle.arch_defs.specs.declared.registers.Virtual.{Virtual}
use Rattle.arch_defs.specs.Roots.{vmid_of}
use Rattle.arch_defs.specs.Spaces.{Space, fenced, fenced_space, names}
use Rattle.arch_defs.specs.WalkedEntries.{entry_by_walk, folds}
use Rattle.machine_defs.specs.Fills.{after_fill, after_fills, fill, missing_entry}
use Rattle.machine_defs.specs.FreeMachines.{is_named}
use Rattle.machine_defs.specs.Machine.{Machine, Tried}
use Rattle.machine_defs.specs.Runs.{left_by}
use Rattle.machine_defs.specs.Tries.{Stages, fence_under, spaces_after, try_under}
use Rattle.fill_laws.specs.EachEntry.{EachEntry}
use Rattle.fill_laws.specs.Keeping.{IsOrderly}
use Rattle.instruction_laws.proofs.Cached.{lacked}
use Rattle.fill_laws.proofs.EachEntry.{front_each, front_has}
use Rattle.fill_laws.proofs.Orderly.{fill_stays_orderly}
use Rattle.instruction_laws.proofs.Rooting.{RootEnd, root_end}
use Rattle.instruction_laws.proofs.TryEnds.{Calls, Fences, Halts, Makes, Passes, Serves, Takes}

-- what follows from two properties
pub each_both : (P Q R : GuestRoot → Entry → Type 0) → ((key : GuestRoot) (e : Entry) → P key e → Q key e → R key e)
    → (spaces : List Space) → EachEntry P spaces → EachEntry Q spaces → EachEntry R spaces
each_both P Q R both spaces all_p all_q i s inside k e within =
    both (get_or spaces i s).key (get_or (get_or spaces i s).entries k e) (all_p i s inside k e within) (all_q i s inside k e within)

-- it holds, for hgatp, of what a walk gives as registers and RAM are
abbrev pub HoldsOfWalks : (GuestRoot → Entry → Type 0) → Bool → Virtual → List ℕ → Type 0
HoldsOfWalks P device virt ram =
    folds virt ≡ true → (address : ℕ) (kind : Access) (e : Entry) → entry_by_walk device virt.csrs ram address kind ≡ Some e → P virt.csrs.hgatp e

pub fills_each : (P : GuestRoot → Entry → Type 0) (n : ℕ) (m : Machine) → IsOrderly m → HoldsOfWalks P m.device m.platform.virt m.ram → EachEntry P m.spaces → EachEntry P (after_fills n m).spaces
unfolding after_fills
fills_each P zero m is now all = all
fills_each P (suc n) m is now all = by (missing_entry m) refl (λ t. fills_each P n t)
  where
    by : (there : Option Entry) → missing_entry m ≡ there
        → ((t : Machine) → IsOrderly t → HoldsOfWalks P t.device t.platform.virt t.ram → EachEntry P t.spaces → EachEntry P (after_fills n t).spaces)
        → EachEntry P (after_fill (after_fills n) m there).spaces
    by None none deeper = all
    by (Some e) lacks deeper = let at = lacked m e lacks in let here = now at.0 at.1.0.address at.1.0.kind e at.1.1 in
        deeper (fill m e) (fill_stays_orderly m e is lacks) now
        (front_each P m.entry_room m.spaces e all (front_has (λ key. P key e) m.platform.virt.csrs.hgatp m.spaces (is.front at.0) here))

-- the entries that a fence leaves, it does not name
passing : (test : Entry → Bool) (b : Bool) (e : Entry) (es : List Entry) → test e ≡ b → All (λ x. test x ≡ false) es → All (λ x. test x ≡ false) (cond (not b) (e ∷ es) es)
passing test true e es is all = all
passing test false e es is all = All-cons (λ x. test x ≡ false) e es is all

all_passing : (test : Entry → Bool) (entries : List Entry) → All (λ x. test x ≡ false) (filter (λ e. not (test e)) entries)
all_passing test [] = All-nil (λ x. test x ≡ false)
all_passing test (e ∷ es) = passing test (test e) e _ refl (all_passing test es)

abbrev IsUnnamed : Option Fence → GuestRoot → Entry → Type 0
IsUnnamed fence key e = is_named fence (vmid_of key) e ≡ false

fenced_unnamed : (fence : Fence) (spaces : List Space) → EachEntry (IsUnnamed (Some fence)) (fenced fence spaces)
unfolding fenced
fenced_unnamed fence [] = All-nil (λ (s : Space). All (IsUnnamed (Some fence) s.key) s.entries)
fenced_unnamed fence (s ∷ ss) = All-cons (λ (s : Space). All (IsUnnamed (Some fence) s.key) s.entries) (fenced_space fence s) (map (fenced_space fence) ss)
    (all_passing (names fence (vmid_of s.key)) s.entries) (fenced_unnamed fence ss)

-- and so those that a try leaves
pub none_named : (spaces : List Space) → EachEntry (λ key e. is_named None (vmid_of key) e ≡ false) spaces
none_named spaces i s inside k e within = refl

ended_unnamed : (m : Machine) {t : Tried} {fence : Option Fence} → RootEnd m t fence → EachEntry (IsUnnamed fence) (left_by m t).spaces
ended_unnamed m (Takes first trap) = none_named m.spaces
ended_unnamed m (Makes first completion event keeps) = none_named (spaces_after m completion.state)
ended_unnamed m (Calls first) = none_named m.spaces
ended_unnamed m (Serves first rd value console has) = none_named m.spaces
ended_unnamed m (Passes first virt moment keeps) = none_named m.spaces
ended_unnamed m Halts = none_named m.spaces
ended_unnamed m (Fences first virt fence keeps) = fenced_unnamed fence m.spaces

pub tried_unnamed : (m : Machine) (stages : Stages)
    → EachEntry (λ key e. is_named (fence_under stages m) (vmid_of key) e ≡ false) (left_by m (try_under stages m)).spaces
tried_unnamed m stages = ended_unnamed m (root_end m stages)
