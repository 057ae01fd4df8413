use Rattle.rv64_hart.proofs.accesses.fetch_lookup.Goals as goal

pub returns-in-Some-clause-told : goal.returns-in-Some-clause-told
returns-in-Some-clause-told c = record { located = c.in-Some.ensures.located; none = c.in-Some.ensures.none; fits = c.in-Some.ensures.place }
