use Rattle.std.proofs.Common.{ap, refl, ◌∙◌}
use Rattle.arch_defs.specs.Spaces.{entered}
use Rattle.shadow_pool.specs.Slots.{room_of, spaces_of}
use Rattle.guest_exit.proofs.Alone.{caches_same, holds_with, made_enters}
use Rattle.guest_exit.specs.HartExit.{with_state}
use Rattle.guest_exit.proofs.system.enter_space.Goals as goal

pub returns-clause-step : goal.returns-clause-step
returns-clause-step c = λ before own same.
    let guest = c.args.guest.now in
    let pool = c.tick.ensures.goes.keeps.pool in
    made_enters (with_state guest before) c.tick.new.self c.args.memory.now c.enter.new.mem guest.virt (rw (own, c.requires.folds) refl) (holds_with guest before c.args.memory.now c.requires.can.holds)
    c.tick.ensures.goes.keeps.part c.tick.ensures.goes.keeps.device (rw pool c.enter.ensures.keeps) (c.tick.ensures.platform ∙ caches_same guest before.first same)
    (rw pool (c.enter.ensures.spaces ∙ ap (λ key. entered (room_of guest.pool) key (spaces_of guest.pool)) (c.of.ensures ∙ ap (λ csrs. csrs.hgatp) c.requires.can.storable.csrs)))
