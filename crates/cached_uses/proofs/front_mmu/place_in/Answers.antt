use Rattle.std.proofs.Common.{rules, ◌≡◌, arith, ◌/◌, false}
use Rattle.arch_defs.specs.CachedEntries.{is_device}
use Rattle.cached_uses.proofs.Places.{place_fits, place_lies}
use Rattle.cached_uses.proofs.front_mmu.place_in.Goals as goal

pub overflow_mul-result : goal.overflow_mul-result
overflow_mul-result g c =
    let fits = place_fits (g.M.Mem.memory c.args.mmu.now.mem.now) c.args.mmu.now.entries.now (c.args.address / 4096) c.in-Some.entry.now c.args.address
    c.requires.inside c.in-Some.ensures in omega (arith, fits)

pub overflow_add-result : goal.overflow_add-result
overflow_add-result g c =
    let fits = place_fits (g.M.Mem.memory c.args.mmu.now.mem.now) c.args.mmu.now.entries.now (c.args.address / 4096) c.in-Some.entry.now c.args.address
    c.requires.inside c.in-Some.ensures in omega (arith, fits)

pub returns-then-entry-ne-DEVICE_FRAME-clause-inside : goal.returns-then-entry-ne-DEVICE_FRAME-clause-inside
returns-then-entry-ne-DEVICE_FRAME-clause-inside g c =
    let other : is_device c.in-Some.entry.now ≡ false = search rules in
    place_lies (g.M.Mem.memory c.args.mmu.now.mem.now) c.args.mmu.now.entries.now (c.args.address / 4096) c.in-Some.entry.now c.args.address
    c.requires.inside c.in-Some.ensures other
