-- The guests of the tests of exits and of hosts.
use Rattle.std.proofs.Common.{◌≡◌, ◌≤◌, [], ◌∷◌, ap, arith, refl}
use Rattle.arch_defs.specs.CsrBits.{epc_bits, guest_root_of, hedeleg_bits, hgatp_bits, satp_bits, supervisor_root_of, tvec_bits}
use Rattle.arch_defs.specs.Memory.{ram_base}
use Rattle.arch_defs.specs.Registers.{virtual_at}
use Rattle.arch_defs.specs.declared.modes.Mode.TheVariants.{HS}
use Rattle.run_laws.specs.StorableStates.{IsStorable}
use Rattle.std.proofs.lemmas.List.Elements.{All-cons, All-nil}
use Rattle.frame_split.specs.Shares.{frames_with}
use Rattle.guest_settings.specs.Needs.{frames_needed, need_of}
use Rattle.guest_settings.specs.declared.guests.GuestSpec.{GuestSpec}
use Rattle.guest_turns.specs.Limits.{AreBootable, frames_for}
use Rattle.machine_defs.specs.Bootable.{IsBootable}
use Rattle.guest_turns.specs.Sources.{AreBootableSources, IsBootableSource, need_of_source, needs_of_sources}
use Rattle.guest_turns.specs.declared.sources.Source.{Source}

abbrev IsSmall : GuestSpec → Type 0
IsSmall spec = need_of spec ≡ record { blocks = 1; spaces = 1; entries = 16 }

-- two guests of one block
pub two_fit : (a b : GuestSpec) → IsSmall a → IsSmall b → frames_for (a ∷ b ∷ []) ≤ 1138
two_fit a b one other = omega (arith, ap frames_needed one, ap frames_needed other)

pub two_boot : (a b : GuestSpec) → IsBootable a → IsBootable b → IsSmall a → IsSmall b → AreBootable (a ∷ b ∷ [])
two_boot a b boots too one other = record {
  some = omega arith;
  few = omega arith;
  each = All-cons IsBootable a (b ∷ []) boots (All-cons IsBootable b [] too (All-nil IsBootable));
  frames = omega (arith, two_fit a b one other);
}

-- one guest, wherever it comes from
pub one_boots : (source : Source) → IsBootableSource source → AreBootableSources (source ∷ [])
one_boots source is = record {
  some = omega arith;
  few = omega arith;
  each = All-cons IsBootableSource source [] is (All-nil IsBootableSource);
}

pub one_fits : (source : Source) → need_of_source source ≡ record { blocks = 1; spaces = 1; entries = 16 } → frames_with (needs_of_sources (source ∷ [])) 1 ≤ 1081
one_fits source is = omega (arith, ap frames_needed is)

-- a guest that has made no step holds what its registers can store
pub storable_at_start : IsStorable (virtual_at HS ram_base)
unfolding tvec_bits epc_bits hedeleg_bits supervisor_root_of satp_bits guest_root_of hgatp_bits
storable_at_start = record { x0 = refl; pc = (refl, omega arith); csrs = refl; reservation = tt }
