use Rattle.std.proofs.Common.{rules, ◌≡◌, ◌+◌, ◌-◌, ◌/◌, true, false, ap, sym, subst, ◌∙◌, arith}
use Rattle.arch_defs.specs.declared.walks.Next.TheVariants.{Ends, Below}
use Rattle.arch_defs.specs.Walk.{is_canonical, met_in, next_of, place_of}
use Rattle.stage_walk.specs.ByLevels.{walk_from}
use Rattle.stage_walk.proofs.Levels.{from_below, from_ends, walk_starts}
use Rattle.stage_walk.proofs.NotedWalks.{Goes, goes_below, goes_end, goes_none, goes_out, goes_start}
use Rattle.stage_walk.proofs.walking.walk_noted.Goals as goal

pub returns-then-not-is_canonical-clause-noted : goal.returns-then-not-is_canonical-clause-noted
returns-then-not-is_canonical-clause-noted g c =
    let wrong : is_canonical c.args.shape c.args.va ≡ false = search rules in
    λ frames more. goes_none (g.F.Fetch.reading c.args.fetch.now) c.args.shape c.args.va c.args.access frames c.args.root wrong

pub loop-level-init : goal.loop-level-init
loop-level-init g c =
    let reading = g.F.Fetch.reading c.args.fetch.now in
    let right : is_canonical c.args.shape c.args.va ≡ true = search rules in
    record {
      walk = walk_starts reading c.args.root c.args.shape c.args.va c.args.access right
          ∙ ap (λ n. walk_from reading c.args.shape c.args.va c.args.access n c.args.root) (sym c.levels-level.ensures.value);
      level = omega (arith, c.levels-level.ensures.value);
      table = c.requires.root;
      more = λ frame named. named;
      recent = λ frame named. named;
      noted = subst (λ n. Goes reading c.args.shape c.args.va c.args.access (g.N.Notes.recent c.args.notes.now) c.args.root n c.args.root)
          (sym c.levels-level.ensures.value)
          (goes_start reading c.args.shape c.args.va c.args.access (g.N.Notes.recent c.args.notes.now) c.args.root right);
    }

pub returns-in-Last-clause-end : goal.returns-in-Last-clause-end
returns-in-Last-clause-end g c =
    let reading = g.F.Fetch.reading c.args.fetch.now in
    let one : c.loop-level.level ≡ c.loop-level.level - 1 + 1 = omega (arith, c.loop-level-test.true) in
    let says : next_of c.args.access (met_in reading c.args.shape c.args.va (c.loop-level.level - 1) c.loop-level.table) ≡ Ends c.last_end.result = search rules in
    sym (c.loop-level.invariant.walk
    ∙ from_ends reading c.args.shape c.args.va c.args.access c.loop-level.level (c.loop-level.level - 1) c.loop-level.table c.last_end.result one says)

pub returns-in-Last-clause-noted : goal.returns-in-Last-clause-noted
returns-in-Last-clause-noted g c =
    let reading = g.F.Fetch.reading c.args.fetch.now in
    let says : next_of c.args.access (met_in reading c.args.shape c.args.va (c.loop-level.level - 1) c.loop-level.table) ≡ Ends c.last_end.result = search rules in
    let here : g.N.Notes.recent c.visit.new.notes (place_of c.args.shape (c.loop-level.level - 1) c.loop-level.table c.args.va / 4096) ≡ true = search rules in
    goes_end reading c.args.shape c.args.va c.args.access (g.N.Notes.recent c.loop-level.notes) (g.N.Notes.recent c.visit.new.notes)
    c.args.root c.loop-level.level (c.loop-level.level - 1) c.loop-level.table c.last_end.result (omega (arith, c.loop-level-test.true)) says
    c.visit.ensures.recent here c.loop-level.invariant.noted

pub returns-in-Unread-clause-noted : goal.returns-in-Unread-clause-noted
returns-in-Unread-clause-noted g c =
    let reading = g.F.Fetch.reading c.args.fetch.now in
    let says : next_of c.args.access (met_in reading c.args.shape c.args.va (c.loop-level.level - 1) c.loop-level.table) ≡ Ends c.unread_end.result = search rules in
    let here : g.N.Notes.recent c.visit.new.notes (place_of c.args.shape (c.loop-level.level - 1) c.loop-level.table c.args.va / 4096) ≡ true = search rules in
    goes_end reading c.args.shape c.args.va c.args.access (g.N.Notes.recent c.loop-level.notes) (g.N.Notes.recent c.visit.new.notes)
    c.args.root c.loop-level.level (c.loop-level.level - 1) c.loop-level.table c.unread_end.result (omega (arith, c.loop-level-test.true)) says
    c.visit.ensures.recent here c.loop-level.invariant.noted

pub loop-level-preserved : goal.loop-level-preserved
loop-level-preserved g c =
    let reading = g.F.Fetch.reading c.args.fetch.now in
    let one : c.loop-level.level ≡ c.loop-level.level - 1 + 1 = omega (arith, c.loop-level-test.true) in
    let says : next_of c.args.access (met_in reading c.args.shape c.args.va (c.loop-level.level - 1) c.loop-level.table) ≡ Below c.in-Below.frame = search rules in
    let here : g.N.Notes.recent c.visit.new.notes (place_of c.args.shape (c.loop-level.level - 1) c.loop-level.table c.args.va / 4096) ≡ true = search rules in
    record {
      walk = c.loop-level.invariant.walk
          ∙ from_below reading c.args.shape c.args.va c.args.access c.loop-level.level (c.loop-level.level - 1) c.loop-level.table c.in-Below.frame one says;
      level = omega (arith, c.loop-level.invariant.level);
      table = c.in-Below.ensures.fits;
      more = λ frame named. c.visit.ensures.more frame (c.loop-level.invariant.more frame named);
      recent = λ frame named. c.visit.ensures.recent frame (c.loop-level.invariant.recent frame named);
      noted = goes_below reading c.args.shape c.args.va c.args.access (g.N.Notes.recent c.loop-level.notes) (g.N.Notes.recent c.visit.new.notes)
          c.args.root c.loop-level.level (c.loop-level.level - 1) c.loop-level.table c.in-Below.frame one says
          c.visit.ensures.recent here c.loop-level.invariant.noted;
    }

pub returns-clause-noted : goal.returns-clause-noted
returns-clause-noted g c =
    goes_out (g.F.Fetch.reading c.args.fetch.now) c.args.shape c.args.va c.args.access (g.N.Notes.recent c.loop-level.notes)
    c.args.root c.loop-level.level c.loop-level.table (omega (arith, c.loop-level-test.false)) c.loop-level.invariant.noted
