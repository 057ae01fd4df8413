-- One instruction under a renaming of places.
use Rattle.std.specs.Prelude.{◌==◌, ◌&&◌, Result, Ok, Err}
use Rattle.std.specs.Option.{option_map}
use Rattle.std.proofs.Common.{◌≡◌, ℕ, ◌+◌, ◌%◌, ◌≤◌, Bool, true, false, Option, Some, None, refl, ap}
use Rattle.std.proofs.lemmas.Bool.{eq-eqb, eqb-false, eqb-true, ne_eqb}
use Rattle.arch_defs.specs.declared.csr_names.CsrEnd.{CsrEnd}
use Rattle.arch_defs.specs.declared.modes.Access.TheVariants.{Fetch}
use Rattle.arch_defs.specs.declared.modes.Mode.{Mode}
use Rattle.arch_defs.specs.declared.modes.Mode.TheVariants.{HS, U, VS, VU}
use Rattle.arch_defs.specs.declared.registers.Csrs.{Csrs}
use Rattle.arch_defs.specs.declared.registers.Virtual.{Virtual}
use Rattle.arch_defs.specs.declared.widths.Width.{Width}
use Rattle.arch_defs.specs.declared.widths.Width.TheVariants.{Word}
use Rattle.arch_defs.specs.CsrAccess.{read_csr, write_csr}
use Rattle.arch_defs.specs.Memory.{Known, Reading, SecondStage, mmu}
use Rattle.arch_defs.specs.Widths.{bytes_in}
use Rattle.op_defs.specs.declared.ops.CsrOp.{CsrOp}
use Rattle.op_defs.specs.declared.ops.DataAccess.{DataAccess}
use Rattle.op_defs.specs.declared.ops.Effect.{Effect}
use Rattle.op_defs.specs.declared.ops.Effect.TheVariants.{Sets, Raises, Data, Calls, Privileged as Decides}
use Rattle.op_defs.specs.declared.ops.Op.{Op}
use Rattle.op_defs.specs.declared.ops.Privileged.{Privileged}
use Rattle.op_defs.specs.declared.ops.Privileged.TheVariants.{Csr, Sret, Wfi, SfenceVma, HfenceVvma, HfenceGvma, HlvAccess}
use Rattle.op_defs.specs.declared.ops.Purpose.{Purpose}
use Rattle.op_defs.specs.declared.ops.Purpose.TheVariants.{Load, LoadCode, Store, Reserve, StoreReserved, Modify}
use Rattle.op_defs.specs.Meaning.{meaning}
use Rattle.op_defs.specs.Table.{op_of}
use Rattle.machine_defs.specs.declared.events.Event.{Event}
use Rattle.machine_defs.specs.Core.{Completion, accessed_data, called_from, completed, core, decoded, done, event_of, executed, is_reserved, kind_of, stored_if, word_at}
use Rattle.machine_defs.specs.Privileges.{combined, csr_accessed, csr_changed, csr_shown, decided, performed, privileged, refusal, value_or_zero as shown}
use Rattle.instruction_laws.specs.Renaming.{CoreKeepsWithin, GivesWithin, IsRenamed, KeepsPage, Places, RenamedCore, ReservesWithin, StoresWithin, renamed, reservation_renamed, stored_renamed}
use Rattle.instruction_laws.proofs.Placed.{EndsAlike, accessed_alike, at_alike}

-- SC finds the same reserved, since no two places get one name
same_test : {h : ℕ → ℕ} {held : Places} {own : SecondStage} {reading : Reading} {host : SecondStage} {other : Reading}
    → IsRenamed h held own reading host other → (a b : ℕ) → held a ≡ true → held b ≡ true → (h a == h b) ≡ (a == b)
same_test {h = h} r a b a_in b_in = by (a == b) refl
  where
    by : (same : Bool) → (a == b) ≡ same → (h a == h b) ≡ same
    by true e = eq-eqb (h a) (h b) (ap h (eqb-true a b e))
    by false e = ne_eqb (h a) (h b) (λ same. eqb-false a b e (r.apart a b a_in b_in same))

is_reserved_alike : {h : ℕ → ℕ} {held : Places} {own : SecondStage} {reading : Reading} {host : SecondStage} {other : Reading}
    → IsRenamed h held own reading host other → (reservation : Option (ℕ × ℕ)) → ReservesWithin held reservation → (at : ℕ) (width : Width) → held at ≡ true
    → is_reserved (reservation_renamed h reservation) (h at) width ≡ is_reserved reservation at width
is_reserved_alike r (Some (place, bytes)) kept at width in_set = ap (λ same. same && (bytes == bytes_in width)) (same_test r place at kept in_set)
is_reserved_alike r None kept at width in_set = refl

-- what an instruction leaves that completes, under both names
pub record CompletedAlike (h : ℕ → ℕ) (held : Places) (own host : Completion) : Type 0 where
  pub state : host.state ≡ renamed h own.state
  pub stored : host.stored ≡ stored_renamed h own.stored
  pub stores : StoresWithin held own.stored
  pub reserves : ReservesWithin held own.state.reservation

stored_if_alike : (h : ℕ → ℕ) (held : Places) (s : Virtual) → ReservesWithin held s.reservation → (reserved : Bool) (width : Width) (value rd a : ℕ)
    → StoresWithin held (Some (record { place = a; width = bytes_in width; value = value }))
    → CompletedAlike h held (stored_if reserved s width value rd a) (stored_if reserved (renamed h s) width value rd (h a))
stored_if_alike h held s kept true width value rd a in_set = record { state = refl; stored = refl; stores = in_set; reserves = tt }
stored_if_alike h held s kept false width value rd a in_set = record { state = refl; stored = refl; stores = tt; reserves = tt }

-- by the purpose of the access
pub completed_alike : {h : ℕ → ℕ} {held : Places} {own : SecondStage} {reading : Reading} {host : SecondStage} {other : Reading}
    → IsRenamed h held own reading host other → (s : Virtual) → ReservesWithin held s.reservation → (width : Width) (purpose : Purpose) (place : ℕ)
    → held place ≡ true → place % 4096 + bytes_in width ≤ 4096
    → CompletedAlike h held (completed reading s width purpose place) (completed other (renamed h s) width purpose (h place))
completed_alike r s kept width (Load signed rd) place in_set fits =
    rw (r.same place (bytes_in width) in_set fits) (record { state = refl; stored = refl; stores = tt; reserves = kept })
completed_alike r s kept width (LoadCode rd) place in_set fits =
    rw (r.same place (bytes_in width) in_set fits) (record { state = refl; stored = refl; stores = tt; reserves = kept })
completed_alike r s kept width (Store value) place in_set fits = record { state = refl; stored = refl; stores = (in_set, fits); reserves = kept }
completed_alike r s kept width (Reserve rd) place in_set fits =
    rw (r.same place (bytes_in width) in_set fits) (record { state = refl; stored = refl; stores = tt; reserves = in_set })
completed_alike {h = h} {held = held} r s kept width (StoreReserved value rd) place in_set fits =
    rw (is_reserved_alike r s.reservation kept place width in_set) (stored_if_alike h held s kept (is_reserved s.reservation place width) width value rd place (in_set, fits))
completed_alike r s kept width (Modify op operand rd) place in_set fits =
    rw (r.same place (bytes_in width) in_set fits) (record { state = refl; stored = refl; stores = (in_set, fits); reserves = kept })

done_alike : (h : ℕ → ℕ) (held : Places) (event : Event) (own host : Completion) → CompletedAlike h held own host → EndsAlike h held (done event own) (done event host)
done_alike h held event own host alike = rw (alike.state, alike.stored) (refl, (alike.stores, alike.reserves))

accessed_data_alike : {h : ℕ → ℕ} {held : Places} {own : SecondStage} {reading : Reading} {host : SecondStage} {other : Reading}
    → IsRenamed h held own reading host other → (known : Known) → KeepsPage known → (s : Virtual) → ReservesWithin held s.reservation → (event : Event) (wanted : DataAccess)
    → EndsAlike h held (accessed_data (mmu known own reading) s event wanted) (accessed_data (mmu known host other) (renamed h s) event wanted)
accessed_data_alike {h = h} {held = held} r known keeps s kept event wanted = at_alike h held (bytes_in wanted.width) (Some wanted) _ _
    (λ place in_set fits. done_alike h held event _ _ (completed_alike r s kept wanted.width wanted.purpose place in_set fits)) _ _
    (accessed_alike r known keeps s.csrs s.mode wanted.address wanted.width (kind_of wanted.purpose))

-- a call of the environment
called_alike : (h : ℕ → ℕ) (held : Places) (mode : Mode) → EndsAlike h held (called_from mode) (called_from mode)
called_alike h held HS = (refl, tt)
called_alike h held U = (refl, tt)
called_alike h held VS = (refl, tt)
called_alike h held VU = (refl, tt)

-- what the mode decides on stores nothing and leaves the reservation: a register is shown, and changed
shown_alike : (h : ℕ → ℕ) (held : Places) (s : Virtual) → ReservesWithin held s.reservation → (word rd : ℕ) (value : Result ℕ CsrEnd)
    → EndsAlike h held (csr_shown s word rd value) (csr_shown (renamed h s) word rd value)
shown_alike h held s kept word rd (Ok value) = (refl, (tt, kept))
shown_alike h held s kept word rd (Err end) = (refl, tt)

changed_alike : (h : ℕ → ℕ) (held : Places) (s : Virtual) → ReservesWithin held s.reservation → (word rd value : ℕ) (csrs : Result Csrs CsrEnd)
    → EndsAlike h held (csr_changed s word rd value csrs) (csr_changed (renamed h s) word rd value csrs)
changed_alike h held s kept word rd value (Ok csrs) = (refl, (tt, kept))
changed_alike h held s kept word rd value (Err end) = (refl, tt)

csr_alike : (h : ℕ → ℕ) (held : Places) (s : Virtual) → ReservesWithin held s.reservation → (word : ℕ) (o : CsrOp) (number operand : ℕ) (writes : Bool) (rd : ℕ)
    → EndsAlike h held (csr_accessed s word o number operand writes rd) (csr_accessed (renamed h s) word o number operand writes rd)
csr_alike h held s kept word o number operand true rd = let before = shown (read_csr s.csrs s.mode number) in
    changed_alike h held s kept word rd before (write_csr s.csrs s.mode number (combined o before operand))
csr_alike h held s kept word o number operand false rd = shown_alike h held s kept word rd (read_csr s.csrs s.mode number)

-- each instruction that is allowed, and one by its refusal
performed_alike : (h : ℕ → ℕ) (held : Places) (s : Virtual) → ReservesWithin held s.reservation → (word : ℕ) (p : Privileged)
    → EndsAlike h held (performed s word p) (performed (renamed h s) word p)
performed_alike h held s kept word (Csr o number operand writes rd) = csr_alike h held s kept word o number operand writes rd
performed_alike h held s kept word Sret = (refl, (tt, kept))
performed_alike h held s kept word Wfi = (refl, kept)
performed_alike h held s kept word (SfenceVma fence) = (refl, kept)
performed_alike h held s kept word (HfenceVvma fence) = (refl, kept)
performed_alike h held s kept word (HfenceGvma fence) = (refl, kept)
performed_alike h held s kept word (HlvAccess wanted) = (refl, tt)

privileged_alike : (h : ℕ → ℕ) (held : Places) (s : Virtual) → ReservesWithin held s.reservation → (word : ℕ) (p : Privileged)
    → EndsAlike h held (privileged s word p) (privileged (renamed h s) word p)
unfolding privileged
privileged_alike h held s kept word p = by (refusal p s.csrs.hstatus s.mode)
  where
    by : (refusal : Option CsrEnd) → EndsAlike h held (decided s word p refusal) (decided (renamed h s) word p refusal)
    by (Some end) = (refl, tt)
    by None = performed_alike h held s kept word p

-- by the effect
executed_alike : {h : ℕ → ℕ} {held : Places} {own : SecondStage} {reading : Reading} {host : SecondStage} {other : Reading}
    → IsRenamed h held own reading host other → (known : Known) → KeepsPage known → (s : Virtual) → ReservesWithin held s.reservation → (word : ℕ) (effect : Effect)
    → EndsAlike h held (executed (mmu known own reading) s word effect) (executed (mmu known host other) (renamed h s) word effect)
executed_alike r known keeps s kept word (Sets rd value next) = (refl, (tt, kept))
executed_alike r known keeps s kept word (Raises cause tval) = (refl, tt)
executed_alike r known keeps s kept word (Data wanted) = accessed_data_alike r known keeps s kept (event_of s.regs.pc word) wanted
executed_alike {h = h} {held = held} r known keeps s kept word Calls = called_alike h held s.mode
executed_alike {h = h} {held = held} r known keeps s kept word (Decides p) = privileged_alike h held s kept word p

decoded_alike : {h : ℕ → ℕ} {held : Places} {own : SecondStage} {reading : Reading} {host : SecondStage} {other : Reading}
    → IsRenamed h held own reading host other → (known : Known) → KeepsPage known → (s : Virtual) → ReservesWithin held s.reservation → (word : ℕ) (o : Option Op)
    → EndsAlike h held (decoded (mmu known own reading) s word o) (decoded (mmu known host other) (renamed h s) word o)
decoded_alike r known keeps s kept word (Some o) = executed_alike r known keeps s kept word (meaning o s.regs)
decoded_alike r known keeps s kept word None = (refl, tt)

core_alike : {h : ℕ → ℕ} {held : Places} {own : SecondStage} {reading : Reading} {host : SecondStage} {other : Reading}
    → IsRenamed h held own reading host other → (known : Known) → KeepsPage known → (s : Virtual) → ReservesWithin held s.reservation
    → EndsAlike h held (core (mmu known own reading) s) (core (mmu known host other) (renamed h s))
unfolding core
core_alike {h = h} {held = held} {reading = reading} r known keeps s kept = at_alike h held 4 None _ _
    (λ place in_set fits. rw (r.same place 4 in_set fits) (decoded_alike r known keeps s kept (word_at reading place) (op_of (word_at reading place)))) _ _
    (accessed_alike r known keeps s.csrs s.mode s.regs.pc Word Fetch)

pub renamed_core : RenamedCore
renamed_core = λ h held known own reading host other s keeps r kept. (core_alike r known keeps s kept).0

-- what one instruction leaves, by the renaming that leaves each place as it is
same_place : (place : Option ℕ) → place ≡ option_map (λ p. p) place
same_place (Some place) = refl
same_place None = refl

pub unchanged : {held : Places} {second : SecondStage} (reading : Reading) → GivesWithin held second → IsRenamed (λ p. p) held second reading second reading
unchanged {second = second} reading gives = record {
  places = λ address access. same_place (second address access);
  inside = gives;
  same = λ place n in_set fits. refl;
  apart = λ a b a_in b_in e. e;
}

pub stays_held : CoreKeepsWithin
stays_held = λ held through s keeps gives kept. (core_alike (unchanged through.reading gives) through.known keeps s kept).1
