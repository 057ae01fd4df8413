use Rattle.std.proofs.Common.{arith, ◌+◌, ◌<◌, IfSome, subst, sym}
use Rattle.run_positions.specs.Positions.{begin_of}
use Rattle.run_positions.specs.Stops.{IsFoundFrom}
use Rattle.run_positions.proofs.Moving.{keeps_then}
use Rattle.run_positions.proofs.positions.Positions.scan.Goals as goal

pub loop-self-preserved : goal.loop-self-preserved
loop-self-preserved g c =
    let R = g.R.Runner in
    let p = c.args.self.now in
    let q = c.loop-self.self in
    let stops = c.args.stops.now in
    let result = c.noted-found.result in
    let before = subst (λ origin. IsFoundFrom origin stops p.place q.place c.loop-self.found) (sym c.loop-self.invariant.keeps.origin) c.loop-self.invariant.found in
    let after = subst (λ origin. IsFoundFrom origin stops p.place (q.place + 1) result) c.loop-self.invariant.keeps.origin (c.noted-found.ensures.found p.place before) in
    record {
      keeps = keeps_then R p q c.run_on.new.self c.loop-self.invariant.keeps c.run_on.ensures.keeps;
      within = omega (arith, c.run_on.ensures.place, c.loop-self-test.true);
      found = subst (λ n. IsFoundFrom (begin_of R p) stops p.place n result) (sym c.run_on.ensures.place) after;
      early = subst (λ n. IfSome result (λ place. place < n)) (sym c.run_on.ensures.place) c.noted-found.ensures.early;
    }
