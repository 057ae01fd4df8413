-- The line of a trap, by what its entry sets.
use Rattle.std.proofs.Common.{arith, ◌≡◌, refl, ap, ap₂, ◌∙◌, ℕ, ◌+◌, ◌*◌, ◌/◌, ◌%◌, ◌^◌, ◌<◌, ◌==◌, Bool, true, false, cond, not, ◌&&◌, ◌-◌, [], ◌∷◌, Some, None, eq-eqb, ne_eqb}
use Rattle.std.specs.List.{list_any}
use Rattle.arch_defs.specs.declared.levels.Level.TheVariants as level
use Rattle.arch_defs.specs.declared.modes.Trap.{Trap}
use Rattle.arch_defs.specs.Bits.{bit}
use Rattle.arch_defs.specs.Traps.{cause_of, entered_hs, entered_vs, htinst_of, vs_code_of}
use Rattle.log_lines.specs.declared.traps.Cause.{Cause}
use Rattle.log_lines.specs.declared.traps.Taken.TheVariants as taken
use Rattle.run_log.specs.Laws.{TellsCause, TellsHs, TellsValue}
use Rattle.run_log.specs.Traps.{guest_physical}

abbrev the_cause : Bool → ℕ → Cause
the_cause interrupt code = record { interrupt = interrupt; code = code }

abbrev is_fault : Bool → ℕ → Bool
is_fault interrupt code = not interrupt && list_any (λ c. c == code) (20 ∷ 21 ∷ 23 ∷ [])

-- scause and vscause give interrupt and code back
bit_back : (interrupt : Bool) (code : ℕ) → code < 2 ^ 63 → bit 63 (cause_of interrupt code) ≡ interrupt
bit_back true code small = eq-eqb ((2 ^ 63 + code % 2 ^ 63) / 2 ^ 63 % 2 ^ 1) 1 (omega arith)
bit_back false code small = ne_eqb (code / 2 ^ 63 % 2 ^ 1) 1 (λ e. omega arith)

code_back : (interrupt : Bool) (code : ℕ) → code < 2 ^ 63 → cause_of interrupt code % 2 ^ 63 ≡ code
code_back true code small = omega arith
code_back false code small = omega arith

cause_back : (interrupt : Bool) (code : ℕ) → code < 2 ^ 63
    → the_cause (bit 63 (cause_of interrupt code)) (cause_of interrupt code % 2 ^ 63) ≡ the_cause interrupt code
cause_back interrupt code small = ap₂ the_cause (bit_back interrupt code small) (code_back interrupt code small)

vs_code_small : (trap : Trap) → trap.cause < 2 ^ 63 → vs_code_of trap < 2 ^ 63
vs_code_small trap small = by trap.interrupt
  where
    by : (b : Bool) → cond b (trap.cause - 1) trap.cause < 2 ^ 63
    by true = omega (arith, small)
    by false = small

pub tells_cause : TellsCause
unfolding entered_hs entered_vs
tells_cause virt trap head level.HS small = cause_back trap.interrupt trap.cause small
tells_cause virt trap head level.VS small = cause_back trap.interrupt (vs_code_of trap) (vs_code_small trap small)

pub tells_value : TellsValue
unfolding entered_hs entered_vs
tells_value virt trap head level.HS = refl
tells_value virt trap head level.VS = refl

-- htval is the address of a guest-page fault where the cause is one
address_by : (interrupt : Bool) (code address : ℕ) → guest_physical (the_cause interrupt code) (cond (is_fault interrupt code) address 0)
    ≡ cond (is_fault interrupt code) (Some (4 * address % 2 ^ 64)) None
address_by interrupt code address = by (is_fault interrupt code)
  where
    by : (b : Bool) → cond b (Some (4 * cond b address 0 % 2 ^ 64)) None ≡ cond b (Some (4 * address % 2 ^ 64)) None
    by true = refl
    by false = refl

pub tells_hs : TellsHs
unfolding entered_hs
tells_hs virt trap head small =
    ap (λ c. taken.HS (guest_physical c (cond (is_fault trap.interrupt trap.cause) trap.tval2 0)) trap.gva (htinst_of trap)) (cause_back trap.interrupt trap.cause small)
    ∙ ap (λ a. taken.HS a trap.gva (htinst_of trap)) (address_by trap.interrupt trap.cause trap.tval2)
