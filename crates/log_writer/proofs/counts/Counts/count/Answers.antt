use Rattle.std.proofs.Common.{arith, ◌≡◌, ◌∙◌, ◌+◌, ap, sym, subst, suc, ℕ, List}
use Rattle.std.proofs.lemmas.Grind.{common_steps}
use Rattle.std.specs.BTreeMap.{values}
use Rattle.log_lines.specs.declared.lines.CountLine.{CountLine}
use Rattle.run_log.specs.Counts.{AreCounts}
use Rattle.log_writer.specs.Counting.{count_at}
use Rattle.log_writer.specs.declared.counts.Place.{Place}
use Rattle.log_writer.proofs.CountLines.{count_of, inserted_in, lines_in, put_in, stay_placed}
use Rattle.log_writer.proofs.Counting.{count_found, counts_more, few_times}
use Rattle.log_writer.proofs.counts.Counts.count.Goals as goal

pub invariant_of-self-2 : goal.invariant_of-self-2
invariant_of-self-2 c =
    let line : CountLine = record { key = c.args.key.now; count = c.saturating_add.result } in
    stay_placed c.insert.new.self.entries (put_in (values c.self.inside.lines) line)
    (inserted_in c.self.inside.lines.entries c.insert.new.self.entries (values c.self.inside.lines) c.count_place-place.result line c.self.invariant
    c.count_place-place.ensures c.in_ok-insert.ensures.entries)

pub returns : goal.returns
returns c = λ origin from steps few key made are.
    let line : CountLine = record { key = c.args.key.now; count = c.saturating_add.result } in
    let kept : values c.insert.new.self ≡ put_in c.args.self.now line =
    lines_in c.insert.new.self.entries (put_in (values c.self.inside.lines) line)
    (inserted_in c.self.inside.lines.entries c.insert.new.self.entries (values c.self.inside.lines) c.count_place-place.result line c.self.invariant
    c.count_place-place.ensures c.in_ok-insert.ensures.entries)
    ∙ ap (λ (l : List CountLine). put_in l line) c.self.view_is in
    let so_far : c.so_far.result ≡ count_of c.args.self.now c.args.key.now =
    c.so_far.ensures ∙ ap (λ (place : Place). count_at c.args.self.now place) c.count_place-place.ensures in
    let found = count_found origin from steps c.args.self.now are c.args.key.now in
    let most = few_times origin from steps c.args.key.now in
    let more : c.saturating_add.result ≡ count_of c.args.self.now c.args.key.now + 1 =
    grind (arith, common_steps, c.saturating_add.ensures, so_far, found, most, few) in
    let next : suc steps ≡ steps + 1 = omega arith in
    subst (λ (n : ℕ). AreCounts origin from n (values c.insert.new.self)) next
    (subst (λ (l : List CountLine). AreCounts origin from (suc steps) l) (sym kept)
    (counts_more origin from steps c.args.self.now line made key more are))
