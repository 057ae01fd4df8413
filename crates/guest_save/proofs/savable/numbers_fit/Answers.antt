use Rattle.std.specs.List.{All}
use Rattle.std.proofs.Common.{ℕ, [], ◌∷◌, ◌++◌, subst, arith}
use Rattle.std.proofs.lemmas.List.Elements.{All-append}
use Rattle.guest_save.specs.declared.versions.Version.TheVariants.{Third}
use Rattle.guest_save.specs.Headers.{device_numbers, later_numbers, numbered, progress_numbers, reservation_numbers, size_numbers, state_numbers}
use Rattle.guest_save.specs.Registers.{csr_numbers}
use Rattle.guest_save.specs.Savable.{Fits}
use Rattle.guest_save.proofs.savable.numbers_fit.Goals as goal

pub returns-clause-numbers : goal.returns-clause-numbers
returns-clause-numbers c =
    let h = c.args.header in
    let sizes : All Fits (size_numbers h) = rw c.sizes.ensures at c.fit.ensures in
    let device : All Fits (device_numbers Third h) = subst (λ (n : ℕ). All Fits (n ∷ [])) c.device_number.ensures c.fit-2.ensures in
    let progress : All Fits (progress_numbers h) = rw c.progress.ensures at c.fit-3.ensures in
    let csrs : All Fits (csr_numbers h.state.csrs) = rw c.csr_numbers.ensures at c.fit-4.ensures in
    let reservation : All Fits (reservation_numbers h.state.reservation) = rw c.reservation_numbers.ensures at c.fit-5.ensures in
    All-append Fits (size_numbers h) (device_numbers Third h ++ later_numbers h) sizes
    (All-append Fits (device_numbers Third h) (later_numbers h) device
    (All-append Fits (progress_numbers h) (numbered h.state.regs ++ state_numbers h.state) progress
    (All-append Fits (numbered h.state.regs) (state_numbers h.state) c.registers_fit.ensures
    (All-append Fits (csr_numbers h.state.csrs) (reservation_numbers h.state.reservation) csrs reservation))))

pub returns-clause-registers : goal.returns-clause-registers
returns-clause-registers c = omega arith

pub returns-clause-pc : goal.returns-clause-pc
returns-clause-pc c = omega arith
