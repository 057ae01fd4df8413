use Rattle.guest_logs.proofs.Alone.{last_is, some_counted}
use Rattle.guest_logs.proofs.host_tries.last_entry.Goals as goal

pub overflow_sub-len : goal.overflow_sub-len
overflow_sub-len c = some_counted c.view-view.result c.len.result c.len.ensures (rw c.view-view.ensures c.requires.some)

pub returns : goal.returns
returns c = λ others e is.
    last_is c.view-view.result c.len.result c.entry.result c.len.ensures c.entry.ensures others e (rw c.view-view.ensures is)
