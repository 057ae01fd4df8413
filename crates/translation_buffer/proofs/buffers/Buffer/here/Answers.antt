use Rattle.std.proofs.Common.{rules, ◌≡◌, ◌+◌, ◌%◌, ◌^◌, ◌<◌, sym}
use Rattle.arch_defs.specs.declared.modes.Access.TheVariants.{Fetch}
use Rattle.arch_defs.specs.Translation.{privilege_of}
use Rattle.translation_buffer.specs.Places.{context_of, translator}
use Rattle.translation_buffer.specs.Tags.{start_of}
use Rattle.translation_buffer.proofs.KeptPages.{page_served}
use Rattle.translation_buffer.proofs.PlacesInside.{placed_inside}
use Rattle.translation_buffer.proofs.buffers.Buffer.here.Goals as goal

pub returns-then-pc-self-clause-place : goal.returns-then-pc-self-clause-place
returns-then-pc-self-clause-place c =
    let small : c.args.pc < 2 ^ 64 = search rules in
    let is : start_of c.args.pc ≡ c.args.self.now.page.start = search rules in
    sym (page_served c.args.self.now c.args.state.now.virt.first c.args.state.now.tag c.args.state.now.virt.csrs c.args.state.now.virt.mode c.args.memory.now c.args.pc c.requires.serves small is)

pub returns-then-pc-self-clause-inside : goal.returns-then-pc-self-clause-inside
returns-then-pc-self-clause-inside c =
    let small : c.args.pc < 2 ^ 64 = search rules in
    let is : start_of c.args.pc ≡ c.args.self.now.page.start = search rules in
    placed_inside (translator c.args.state.now.virt.first c.args.state.now.tag (context_of c.args.state.now.virt.csrs c.args.state.now.virt.mode)) (privilege_of c.args.state.now.virt.csrs c.args.state.now.virt.mode) c.args.memory.now c.args.pc
    ((c.args.pc + c.args.self.now.page.delta) % 2 ^ 64) Fetch c.is_whole.ensures.size
    (page_served c.args.self.now c.args.state.now.virt.first c.args.state.now.tag c.args.state.now.virt.csrs c.args.state.now.virt.mode c.args.memory.now c.args.pc c.requires.serves small is)
