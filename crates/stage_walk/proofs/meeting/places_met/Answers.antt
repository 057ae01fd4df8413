use Rattle.std.proofs.Common.{rules, ◌≡◌, sym, ◌∙◌, ℕ, ◌+◌, ◌-◌, ◌<◌, ◌≤◌, map, List, Option, None, arith}
use Rattle.arch_defs.specs.Walk.{met_in, next_of, path}
use Rattle.stage_walk.specs.Meeting.{table_below}
use Rattle.stage_walk.proofs.MetPlaces.{met_all, met_last}
use Rattle.stage_walk.proofs.meeting.places_met.Goals as goal

pub returns-in-None : goal.returns-in-None
returns-in-None g c =
    let reading = g.F.Fetch.reading c.args.fetch.now in
    let one : c.loop-level.level ≡ (c.loop-level.level - 1) + 1 = omega (arith, c.loop-level-test.true) in
    c.push.ensures.items
    ∙ rw c.place_of.ensures.value (met_last reading c.args.shape c.args.va c.args.access c.loop-level.level (c.loop-level.level - 1) c.loop-level.table
    (map (λ met. met.place) (path reading c.args.root c.args.shape c.args.va c.args.access)) c.loop-level.places.items one
    (sym c.below.ensures.next ∙ c.in-None.is) c.loop-level.invariant.met)

pub returns : goal.returns
returns g c =
    let reading = g.F.Fetch.reading c.args.fetch.now in
    let none : c.loop-level.level ≤ 0 = search rules in
    met_all reading c.args.shape c.args.va c.args.access c.loop-level.level c.loop-level.table
    (map (λ met. met.place) (path reading c.args.root c.args.shape c.args.va c.args.access)) c.loop-level.places.items none c.loop-level.invariant.met
