-- A machine that folds has the space of hgatp in front.
use Rattle.std.specs.Prelude.{◌==◌, ◌&&◌, not}
use Rattle.std.proofs.Common.{cond, ◌≡◌, ℕ, ◌≤◌, ◌∙◌, Bool, true, false, List, [], ◌∷◌, Option, refl, sym, subst, ap}
use Rattle.std.proofs.lemmas.Bool.{and_from, and_parts}
use Rattle.arch_defs.specs.declared.cached.Entry.{Entry}
use Rattle.arch_defs.specs.declared.cached.Fence.{Fence}
use Rattle.arch_defs.specs.declared.levels.Level.{Level}
use Rattle.arch_defs.specs.declared.levels.Level.TheVariants.{HS, VS}
use Rattle.arch_defs.specs.declared.modes.Trap.{Trap}
use Rattle.arch_defs.specs.declared.roots.GuestRoot.{GuestRoot}
use Rattle.arch_defs.specs.declared.registers.Virtual.{Virtual}
use Rattle.arch_defs.specs.Traps.{entered_at, entered_hs, entered_vs, is_delegated, is_virtual, target}
use Rattle.arch_defs.specs.Spaces.{Space, entered, fenced}
use Rattle.instruction_laws.specs.FrontSpaces.{FrontIs}
use Rattle.arch_defs.specs.Registers.{read, a7, sets}
use Rattle.arch_defs.specs.Roots.{is_table}
use Rattle.arch_defs.specs.WalkedEntries.{folds}
use Rattle.machine_defs.specs.Fills.{after_fills, filled_front}
use Rattle.machine_defs.specs.Machine.{Machine, Platform, Tried, called, start, with_first}
use Rattle.machine_defs.specs.Runs.{left_by, run}
use Rattle.machine_defs.specs.Tries.{spaces_after, stages_of}
use Rattle.fill_laws.specs.Keeping.{FillKeepsOrderly, IsOrderly, RunKeepsOrderly, StartIsOrderly, TryKeepsOrderly}
use Rattle.fill_laws.specs.Laws.{FillsSufficeForGuests}
use Rattle.instruction_laws.proofs.FrontSpaces.{in_front}
use Rattle.instruction_laws.proofs.Cached.{either}
use Rattle.fill_laws.proofs.Filling.{suffices}
use Rattle.instruction_laws.proofs.KeptByRuns.{IsKept, kept_by_fills, kept_by_runs}
use Rattle.instruction_laws.proofs.Rooting.{KeepsModeAndRoot, RootEnd, root_end}
use Rattle.instruction_laws.proofs.TryEnds.{Calls, Fences, Halts, Makes, Passes, Serves, Takes}

-- the front of a machine's spaces, if its state folds
abbrev FrontOf : Virtual → List Space → Type 0
FrontOf virt spaces = folds virt ≡ true → FrontIs virt.csrs.hgatp spaces

-- after a fill and a fence the same key is in front
front_same : (key : GuestRoot) (most : ℕ) (spaces : List Space) (e : Entry) → FrontIs key spaces → FrontIs key (filled_front most spaces e)
front_same key most [] e front = front
front_same key most (s ∷ ss) e front = front

fenced_same : (key : GuestRoot) (fence : Fence) (spaces : List Space) → FrontIs key spaces → FrontIs key (fenced fence spaces)
unfolding fenced
fenced_same key fence [] front = front
fenced_same key fence (s ∷ ss) front = front

-- a trap goes to HS, or from V = 1 to VS, and leaves hgatp
trap_front : (s : Virtual) (spaces : List Space) → FrontOf s spaces → (trap : Trap) (level : Level) → (level ≡ VS → is_virtual s.mode ≡ true) → FrontOf (entered_at s trap level) spaces
unfolding entered_hs entered_vs
trap_front s spaces front trap HS from = λ folding. absurd cc
trap_front s spaces front trap VS from = λ folding. front (and_from (is_virtual s.mode) (is_table s.csrs.hgatp) (from refl) folding)

pub goes_to : (s : Virtual) (trap : Trap) → target s.csrs s.mode trap ≡ VS → is_virtual s.mode ≡ true
unfolding target
goes_to s trap is = by (is_virtual s.mode) (is_delegated s.csrs trap.interrupt trap.cause) is
  where
    by : (virtual delegated : Bool) → cond (virtual && delegated) VS HS ≡ VS → virtual ≡ true
    by true delegated is = refl
    by false delegated is = absurd cc

-- a call leaves the mode and hgatp
pub called_same : (p : Platform) → KeepsModeAndRoot p.virt (called p).virt
called_same p = either (λ (q : Platform). KeepsModeAndRoot p.virt q.virt) (read p.virt.regs a7 == 8) _ _ (refl, refl) (refl, refl)

stays_front : (s after : Virtual) (spaces : List Space) → after.mode ≡ s.mode → after.csrs.hgatp ≡ s.csrs.hgatp → FrontOf s spaces → FrontOf after spaces
stays_front s after spaces mode root front folding =
    let before : folds s ≡ true = ap (λ m. is_virtual m && is_table s.csrs.hgatp) (sym mode) ∙ ap (λ r. is_virtual after.mode && is_table r) (sym root) ∙ folding in
    subst (λ key. FrontIs key spaces) (sym root) (front before)

-- an instruction that sets V enters a space, and another leaves hgatp where V is 1
made_front : (m : Machine) → 1 ≤ m.space_room → FrontOf m.platform.virt m.spaces → (virt : Virtual)
    → (is_virtual m.platform.virt.mode ≡ true → virt.csrs.hgatp ≡ m.platform.virt.csrs.hgatp) → FrontOf virt (spaces_after m virt)
made_front m some front virt keeps folding = by (is_virtual m.platform.virt.mode) refl (folds virt) folding
  where
    before : is_virtual m.platform.virt.mode ≡ true → is_table virt.csrs.hgatp ≡ true → folds m.platform.virt ≡ true
    before virtual table = and_from (is_virtual m.platform.virt.mode) (is_table m.platform.virt.csrs.hgatp) virtual (ap is_table (sym (keeps virtual)) ∙ table)

    by : (virtual : Bool) → is_virtual m.platform.virt.mode ≡ virtual → (after : Bool) → after ≡ true
        → FrontIs virt.csrs.hgatp (cond (not virtual && after) (entered m.space_room virt.csrs.hgatp m.spaces) m.spaces)
    by true is after same = subst (λ key. FrontIs key m.spaces) (sym (keeps is)) (front (before is (and_parts (is_virtual virt.mode) (is_table virt.csrs.hgatp) folding).1))
    by false is true same = in_front m.space_room virt.csrs.hgatp m.spaces some
    by false is false same = absurd cc

-- so a try leaves an orderly machine
with_front : (m after : Machine) → IsOrderly m → after.entry_room ≡ m.entry_room → after.space_room ≡ m.space_room → FrontOf after.platform.virt after.spaces → IsOrderly after
with_front m after is entries spaces front = record { entries = rw entries is.entries; spaces = rw spaces is.spaces; front = front }

ended_orderly : (m : Machine) → IsOrderly m → {t : Tried} {fence : Option Fence} → RootEnd m t fence → IsOrderly (left_by m t)
ended_orderly m is (Takes first trap) = let s = (with_first m first).platform.virt in
    with_front m _ is refl refl (trap_front s m.spaces is.front trap (target s.csrs s.mode trap) (goes_to s trap))
ended_orderly m is (Makes first completion event keeps) = with_front m _ is refl refl (made_front m is.spaces is.front completion.state keeps)
ended_orderly m is (Calls first) = let p = (with_first m first).platform in let same = called_same p in
    with_front m _ is refl refl (stays_front p.virt (called p).virt m.spaces same.0 same.1 is.front)
ended_orderly m is (Serves first rd value console has) = with_front m _ is refl refl (stays_front m.platform.virt (sets m.platform.virt rd value) m.spaces refl refl is.front)
ended_orderly m is (Passes first virt moment (mode, root)) = with_front m _ is refl refl (stays_front m.platform.virt virt m.spaces mode root is.front)
ended_orderly m is Halts = with_front m _ is refl refl is.front
ended_orderly m is (Fences first virt fence (mode, root)) = with_front m _ is refl refl (stays_front m.platform.virt virt (fenced fence m.spaces) mode root
    (λ folding. fenced_same m.platform.virt.csrs.hgatp fence m.spaces (is.front folding)))

pub try_stays_orderly : TryKeepsOrderly
try_stays_orderly m is = ended_orderly m is (root_end m (stages_of m))

pub fill_stays_orderly : FillKeepsOrderly
fill_stays_orderly m e is lacks =
    with_front m _ is refl refl (λ folding. front_same m.platform.virt.csrs.hgatp m.entry_room m.spaces e (is.front folding))

-- so do fills and runs
pub orderly_kept : IsKept IsOrderly
orderly_kept = record { filled = fill_stays_orderly; tried = try_stays_orderly }

pub filled_orderly : (n : ℕ) (m : Machine) → IsOrderly m → IsOrderly (after_fills n m)
filled_orderly = kept_by_fills IsOrderly orderly_kept

pub stays_orderly : RunKeepsOrderly
stays_orderly = kept_by_runs IsOrderly orderly_kept

pub start_is_orderly : StartIsOrderly
unfolding start
start_is_orderly guest entries spaces = record { entries = entries; spaces = spaces; front = λ folding. absurd cc }

-- so the fills of a guest's machine suffice after each run
pub fills_suffice_for_guests : FillsSufficeForGuests
fills_suffice_for_guests guest k entries spaces = suffices (run (start guest) k) (stays_orderly (start guest) k (start_is_orderly guest entries spaces)).entries
