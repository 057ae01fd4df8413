use Rattle.std.proofs.Common.{arith, ap, sym, ◌∙◌}
use Rattle.log_lines.specs.Kinds.{kinds_into, kinds_of}
use Rattle.log_lines.proofs.Names.{kinds_into_none, kinds_into_some, name_at, no_name}
use Rattle.log_lines.proofs.kinds.kinds_of.Goals as goal

pub returns-in-None : goal.returns-in-None
unfolding kinds_of
returns-in-None c =
    let l = c.loop-place in
    let names = name_at c.args.word.now l.place _ c.loop-place-test.true c.name_length.ensures.value in
    sym (kinds_into_none _ _ l.kinds (sym c.kind_named.ensures ∙ c.in-None.is))
    ∙ ap (λ names. kinds_into names l.kinds) (sym names) ∙ l.invariant.1

pub loop-place-preserved : goal.loop-place-preserved
loop-place-preserved c =
    let l = c.loop-place in
    let names = name_at c.args.word.now l.place _ c.loop-place-test.true c.name_length.ensures.value in (
      omega (arith, c.name_length.ensures.within),
      ap (kinds_into _) c.with-kinds.ensures
          ∙ sym (kinds_into_some _ _ l.kinds c.in-Some.kind (sym c.kind_named.ensures ∙ c.in-Some.is))
          ∙ ap (λ names. kinds_into names l.kinds) (sym names) ∙ l.invariant.1,
    )

pub returns : goal.returns
unfolding kinds_into kinds_of
returns c =
    let l = c.loop-place in
    ap (λ names. kinds_into names l.kinds) (sym (no_name c.args.word.now l.place c.loop-place-test.false)) ∙ l.invariant.1
