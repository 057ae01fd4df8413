-- How a try changes the spaces.
use Rattle.std.specs.Prelude.{◌&&◌, not}
use Rattle.std.proofs.Common.{cond, ◌≡◌, ◌∙◌, Bool, true, false, Option, refl, sym, ap}
use Rattle.arch_defs.specs.declared.cached.Fence.{Fence}
use Rattle.arch_defs.specs.declared.levels.Level.{Level}
use Rattle.arch_defs.specs.declared.levels.Level.TheVariants.{HS, VS}
use Rattle.arch_defs.specs.declared.modes.Trap.{Trap}
use Rattle.arch_defs.specs.declared.registers.Virtual.{Virtual}
use Rattle.arch_defs.specs.Registers.{sets}
use Rattle.arch_defs.specs.Spaces.{entered}
use Rattle.arch_defs.specs.Traps.{entered_at, entered_hs, entered_vs, is_virtual, target}
use Rattle.fill_laws.specs.Laws.{TriesChangeSpaces, spaces_left}
use Rattle.arch_defs.specs.Roots.{is_table}
use Rattle.machine_defs.specs.Machine.{Ended, Machine, Tried, WaitsForGood, called, with_first}
use Rattle.machine_defs.specs.Tries.{Stages, enters, fence_under, spaces_after, try_under}
use Rattle.fill_laws.proofs.Orderly.{called_same, goes_to}
use Rattle.instruction_laws.proofs.Rooting.{RootEnd, root_end}
use Rattle.instruction_laws.proofs.TryEnds.{Calls, Fences, Halts, Makes, Passes, Serves, Takes}

-- the spaces of a try that ends
abbrev pub SpacesAre : Machine → Option Fence → Tried → Type 0
SpacesAre m fence (Ended after event) = after.spaces ≡ spaces_left m after.platform.virt fence
SpacesAre m fence WaitsForGood = Unit {0}

-- where no space is entered they stay
stay : (m : Machine) (after : Virtual) → enters m.platform.virt after ≡ false → m.spaces ≡ spaces_after m after
stay m after none = sym (ap (λ b. cond b (entered m.space_room after.csrs.hgatp m.spaces) m.spaces) none)

flat : (virtual : Bool) → (not virtual && false) ≡ false
flat true = refl
flat false = refl

-- a trap goes to HS, or from V = 1 to VS
trap_enters : (s : Virtual) (trap : Trap) (level : Level) → (level ≡ VS → is_virtual s.mode ≡ true) → enters s (entered_at s trap level) ≡ false
unfolding entered_hs entered_vs
trap_enters s trap HS from = flat (is_virtual s.mode)
trap_enters s trap VS from = ap (λ virtual. not virtual && is_table s.csrs.hgatp) (from refl)

-- a call leaves the mode, and so does a wait
same_mode : (s after : Virtual) → after.mode ≡ s.mode → enters s after ≡ false
same_mode s after same = ap (λ mode. not (is_virtual s.mode) && (is_virtual mode && is_table after.csrs.hgatp)) same ∙ by (is_virtual s.mode)
  where
    by : (virtual : Bool) → (not virtual && (virtual && is_table after.csrs.hgatp)) ≡ false
    by true = refl
    by false = refl

-- by how it ends
ended_spaces : (m : Machine) {t : Tried} {fence : Option Fence} → RootEnd m t fence → SpacesAre m fence t
ended_spaces m (Takes first trap) = let s = (with_first m first).platform.virt in
    stay m (entered_at s trap (target s.csrs s.mode trap)) (trap_enters s trap (target s.csrs s.mode trap) (goes_to s trap))
ended_spaces m (Makes first completion event keeps) = refl
ended_spaces m (Serves first rd value console leaves) = stay m (sets m.platform.virt rd value) (same_mode m.platform.virt (sets m.platform.virt rd value) refl)
ended_spaces m (Calls first) = let p = (with_first m first).platform in stay m (called p).virt (same_mode p.virt (called p).virt (called_same p).0)
ended_spaces m (Passes first virt moment (mode, root)) = stay m virt (same_mode m.platform.virt virt mode)
ended_spaces m Halts = tt
ended_spaces m (Fences first virt fence keeps) = refl

pub try_spaces : (stages : Stages) (m : Machine) → SpacesAre m (fence_under stages m) (try_under stages m)
try_spaces stages m = ended_spaces m (root_end m stages)

pub tries_change_spaces : TriesChangeSpaces
tries_change_spaces m after stages event is = rw is at (try_spaces stages m)
