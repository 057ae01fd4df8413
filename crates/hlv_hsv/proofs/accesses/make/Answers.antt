use Rattle.std.proofs.Common.{◌∙◌, Ok, ap, sym, subst}
use Rattle.hcsr_emulation.specs.declared.registers.Accessed.TheVariants.{Done}
use Rattle.hlv_hsv.specs.Ends.{EndsAs, hlv_left, hlv_state}
use Rattle.hlv_hsv.proofs.InMemory.{in_memory}
use Rattle.hlv_hsv.proofs.OnPage.{on_page}
use Rattle.hlv_hsv.proofs.accesses.make.Goals as goal

pub returns-in-Ok-InMemory-clause-ends : goal.returns-in-Ok-InMemory-clause-ends
returns-in-Ok-InMemory-clause-ends g c =
    let memory = g.M.Mem.memory c.args.mem.now in
    subst (λ end. EndsAs (hlv_left c.args.wanted (hlv_state c.args.state.now memory c.args.console.now) end) Done (hlv_state c.complete.new.state (g.M.Mem.memory c.complete.new.mem) c.args.console.now))
    (sym (in_memory c.args.device memory c.args.state.now c.args.wanted c.in-Ok-InMemory.place _ c.hlv_mode-mode.ensures (sym c.in-Ok-InMemory.ensures.answer ∙ ap Ok c.in-Ok-InMemory.field-0-is)))
    (λ i. record {
      virt = c.complete.ensures.state i;
      memory = record { base = c.complete.ensures.memory.base i; bytes = c.complete.ensures.memory.bytes i };
      console = c.args.console.now;
    })

pub returns-in-Ok-OnDevice-clause-ends : goal.returns-in-Ok-OnDevice-clause-ends
returns-in-Ok-OnDevice-clause-ends g c =
    let memory = g.M.Mem.memory c.args.mem.now in
    let ends = c.serve_or_fault.ensures.ends memory in
    subst (λ left. EndsAs left c.serve_or_fault.result (hlv_state c.serve_or_fault.new.state memory c.serve_or_fault.new.console))
    (sym (on_page c.args.device memory c.args.state.now c.args.console.now c.args.wanted c.in-Ok-OnDevice.offset _ c.hlv_mode-mode.ensures (sym c.in-Ok-OnDevice.ensures.answer ∙ ap Ok c.in-Ok-OnDevice.field-0-is)))
    (rw (← c.hlv_mode-mode.ensures) ends)
