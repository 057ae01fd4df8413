use Rattle.std.proofs.Common.{arith, ◌≡◌, ◌∙◌, ◌∷◌, [], ap, subst, rules, map, List}
use Rattle.std.specs.Prelude.{Err}
use Rattle.std.specs.Map.Iter.{deref}
use Rattle.std.proofs.lemmas.Map.Iter.{rest_all, rest_more}
use Rattle.log_lines.specs.declared.lines.CountLine.{CountLine}
use Rattle.log_lines.specs.declared.lines.Line.TheVariants as line
use Rattle.outside.specs.Pieces.{Puts}
use Rattle.run_log.specs.Log.{text_of_lines}
use Rattle.log_writer.proofs.Putting.{rest_none, rest_stopped, rest_then}
use Rattle.log_writer.proofs.counts.Counts.put.Goals as goal

pub loop-line-init : goal.loop-line-init
loop-line-init g c =
    let all = c.into_iter-line-iterator.ensures.into_iter_gives ∙ c.values-line-items.ensures.rest ∙ c.self.view_is in
    record {
      left = λ new ok puts.
          subst (λ (counts : List CountLine). Puts g.O.Sink.stands_for c.args.out.now new ok (text_of_lines (map line.Count counts))) all puts;
      count = omega arith;
    }

pub loop-line-preserved : goal.loop-line-preserved
loop-line-preserved g c = record {
  left =
      rest_then g.O.Sink.stands_for c.args.out.now c.loop-line.out c.put_line.new.out (map line.Count c.loop-line.line-iterator)
      (line.Count c.in-Some.line.now ∷ []) (map line.Count c.next.new.self) (map line.Count c.args.self.now)
      (ap (λ (counts : List CountLine). map line.Count counts) (rest_more deref c.loop-line.line-iterator c.next.new.self c.next.result c.in-Some.line c.in-Some.is c.next.ensures.steps))
      c.loop-line.invariant.left c.in_ok-put_line.ensures.bytes;
  count = omega (arith, c.loop-line.invariant.count, c.put_line.ensures.count);
}

pub returns-in_err-put_line-clause-bytes : goal.returns-in_err-put_line-clause-bytes
returns-in_err-put_line-clause-bytes g c =
    let failed : c.from_residual.result ≡ Err c.in_err-put_line.field-0.0 = search rules in
    rw failed (rest_stopped g.O.Sink.stands_for c.args.out.now c.loop-line.out c.put_line.new.out (map line.Count c.loop-line.line-iterator)
    (line.Count c.in-Some.line.now ∷ []) (map line.Count c.next.new.self) (map line.Count c.args.self.now)
    (ap (λ (counts : List CountLine). map line.Count counts) (rest_more deref c.loop-line.line-iterator c.next.new.self c.next.result c.in-Some.line c.in-Some.is c.next.ensures.steps))
    c.loop-line.invariant.left c.in_err-put_line.ensures.bytes)

pub returns-clause-bytes : goal.returns-clause-bytes
returns-clause-bytes g c =
    rest_none g.O.Sink.stands_for c.args.out.now c.loop-line.out _ _
    (ap (λ (counts : List CountLine). map line.Count counts) (rest_all deref c.loop-line.line-iterator c.next.new.self c.next.result c.in-None.is c.next.ensures.steps))
    c.loop-line.invariant.left
