use Rattle.std.proofs.Common.{None, refl}
use Rattle.step_logs.specs.Tries.{held_of}
use Rattle.step_logs.proofs.Told.{fence_told}
use Rattle.step_logs.proofs.step_texts.fence_line_after.Goals as goal

pub returns-in-Fences : goal.returns-in-Fences
returns-in-Fences g c = λ s is acts held after.
    fence_told s c.args.before.now c.args.tried.now.act c.args.tried.now.held c.held_by.result (g.R.TryRunner.machine c.args.runner.now) c.fence_line.result
    (rw c.head.ensures at c.fence_line.ensures) is acts held c.held_by.ensures after

pub returns-in-Calls : goal.returns-in-Calls
returns-in-Calls g c = λ s is acts held after.
    fence_told s c.args.before.now c.args.tried.now.act c.args.tried.now.held (held_of s.after) s.after None (rw c.in-Calls.is refl) is acts held refl refl

pub returns-in-Waits : goal.returns-in-Waits
returns-in-Waits g c = λ s is acts held after.
    fence_told s c.args.before.now c.args.tried.now.act c.args.tried.now.held (held_of s.after) s.after None (rw c.in-Waits.is refl) is acts held refl refl

pub returns-in-Accesses : goal.returns-in-Accesses
returns-in-Accesses g c = λ s is acts held after.
    fence_told s c.args.before.now c.args.tried.now.act c.args.tried.now.held (held_of s.after) s.after None (rw c.in-Accesses.is refl) is acts held refl refl

pub returns-in-Other : goal.returns-in-Other
returns-in-Other g c = λ s is acts held after.
    fence_told s c.args.before.now c.args.tried.now.act c.args.tried.now.held (held_of s.after) s.after None (rw c.in-Other.is refl) is acts held refl refl
