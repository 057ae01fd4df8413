use Rattle.std.proofs.Common.{sym}
use Rattle.arch_defs.specs.Translation.{privilege_of}
use Rattle.translation_buffer.specs.Places.{context_of, translator}
use Rattle.translation_buffer.proofs.LookedUp.{looked_up_at}
use Rattle.translation_buffer.proofs.PlacesInside.{placed_inside}
use Rattle.translation_buffer.proofs.buffers.Buffer.look_up.Goals as goal

pub returns-in-Some-clause-lookup : goal.returns-in-Some-clause-lookup
returns-in-Some-clause-lookup c =
    sym (looked_up_at (translator c.args.state.now.virt.first c.args.state.now.tag (context_of c.args.state.now.virt.csrs c.args.state.now.virt.mode)) (privilege_of c.args.state.now.virt.csrs c.args.state.now.virt.mode) c.args.memory.now c.args.va c.args.access c.in-Some.place
    (c.in-Some.ensures c.args.state.now.virt.first c.args.state.now.tag c.args.state.now.virt.csrs c.args.state.now.virt.mode c.args.memory.now c.requires.serves))

pub returns-in-Some-clause-inside : goal.returns-in-Some-clause-inside
returns-in-Some-clause-inside c =
    placed_inside (translator c.args.state.now.virt.first c.args.state.now.tag (context_of c.args.state.now.virt.csrs c.args.state.now.virt.mode)) (privilege_of c.args.state.now.virt.csrs c.args.state.now.virt.mode) c.args.memory.now c.args.va c.in-Some.place c.args.access
    c.is_whole.ensures.size (c.in-Some.ensures c.args.state.now.virt.first c.args.state.now.tag c.args.state.now.virt.csrs c.args.state.now.virt.mode c.args.memory.now c.requires.serves)
