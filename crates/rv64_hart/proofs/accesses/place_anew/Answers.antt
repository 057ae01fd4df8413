use Rattle.std.proofs.Common.{refl, ap, sym, ◌∙◌}
use Rattle.std.specs.Prelude.{ok_or}
use Rattle.arch_defs.specs.FirstEntries.{all_filled}
use Rattle.machine_defs.specs.FirstLeaves.{entries_of}
use Rattle.rv64_hart.specs.Steps.{caching}
use Rattle.rv64_hart.proofs.Places.{failed, found}
use Rattle.rv64_hart.proofs.accesses.place_anew.Goals as goal

pub returns-in-Some : goal.returns-in-Some
returns-in-Some c =
    let s = c.args.state.now in
    let memory = c.args.memory.now in
    let reached = c.reach_by.ensures in
    record {
      located = found s.virt.csrs memory _ c.in-Some.place (ap (λ r. ok_or r c.reach_by.new.trap) (sym c.in-Some.is) ∙ reached.place);
      found = ap (caching s) (c.cache.ensures.filled ∙ ap (all_filled s.virt.first) (ap entries_of c.as_ref.ensures.value ∙ reached.entry));
      stays = tt;
      fits = rw c.in-Some.is at reached.inside;
      serves = c.cache.ensures.serves s.tag s.virt.csrs s.virt.mode memory c.requires.serves;
    }

pub returns-in-None : goal.returns-in-None
returns-in-None c = record {
  located = failed c.args.state.now c.args.memory.now _ c.reach_by.new.trap (ap (λ r. ok_or r c.reach_by.new.trap) (sym c.in-None.is) ∙ c.reach_by.ensures.place);
  found = tt;
  stays = refl;
  fits = tt;
  serves = c.requires.serves;
}
