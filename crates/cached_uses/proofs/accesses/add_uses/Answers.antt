use Rattle.std.proofs.Common.{rules, ◌≡◌, ◌∙◌, ◌%◌, ◌==◌, sym, true}
use Rattle.arch_defs.specs.Widths.{bytes_in}
use Rattle.cached_uses.proofs.Added.{served_added}
use Rattle.cached_uses.proofs.accesses.add_uses.Goals as goal

pub returns-in-Some : goal.returns-in-Some
returns-in-Some g c =
    let aligned : (c.args.va % bytes_in c.args.width == 0) ≡ true = search rules in
    let mmu = c.args.mmu.now in
    record {
      items =
          served_added mmu.virt.now mmu.entries.now (g.M.Mem.memory mmu.mem.now) c.args.va c.args.access c.args.uses.now.items c.add_known.new.uses.items
          c.args.width c.in-Some.entry aligned (sym c.first_served.ensures.value ∙ c.in-Some.is) c.add_known.ensures.items;
      few = c.add_known.ensures.few;
    }
