use Rattle.std.proofs.Common.{◌≡◌, ◌<◌, ◌∙◌, length, get_or, rules, sym, arith, Err}
use Rattle.machine_defs.specs.Report.{section_of}
use Rattle.nesthv_top.specs.Seen.{names_in}
use Rattle.nesthv_top.proofs.Sectioning.{name_is, names_count, put_further, put_none, stopped_at}
use Rattle.nesthv_top.proofs.running.put_sections.Goals as goal
use Rattle.outside.proofs.Faults.{rose_since}

pub loop-i-init : goal.loop-i-init
loop-i-init g c = record {
  put = put_none g.O.Sink.stands_for c.args.out.now section_of (names_in c.args.guests.now) c.args.host.now.machines;
  count = omega arith;
  stays = search rules;
}

pub returns-in_err-section : goal.returns-in_err-section
returns-in_err-section g c =
    let is : c.from_residual.result ≡ Err c.in_err-section.field-0.0 = search rules in
    let put = rw (c.status.ensures, c.steps.ensures, c.console.ensures) at c.in_err-section.ensures.bytes in
    let as_many : length c.args.host.now.machines ≡ length (names_in c.args.guests.now) = c.requires.count ∙ sym (names_count c.args.guests.now) in
    let inside : c.loop-i.i < length (names_in c.args.guests.now) = rw (names_count c.args.guests.now) c.loop-i-test.true in
    rw is (record {
      bytes = stopped_at g.O.Sink.stands_for c.args.out.now c.loop-i.out c.section.new.out section_of (names_in c.args.guests.now) c.args.host.now.machines c.loop-i.i
          (get_or c.args.guests.now c.loop-i.i c.index-guests-i.result).name as_many inside (name_is c.args.guests.now c.loop-i.i c.index-guests-i.result c.loop-i-test.true) c.loop-i.invariant.put put;
      cause = rose_since _ _ _ c.loop-i.invariant.count c.in_err-section.ensures.cause;
      count = omega (arith, c.loop-i.invariant.count, c.section.ensures.count);
      stays = c.section.ensures.stays ∙ c.loop-i.invariant.stays;
    })

pub loop-i-preserved : goal.loop-i-preserved
loop-i-preserved g c =
    let put = rw (c.status.ensures, c.steps.ensures, c.console.ensures) at c.in_ok-section.ensures.bytes in
    let as_many : length c.args.host.now.machines ≡ length (names_in c.args.guests.now) = c.requires.count ∙ sym (names_count c.args.guests.now) in
    let inside : c.loop-i.i < length (names_in c.args.guests.now) = rw (names_count c.args.guests.now) c.loop-i-test.true in
    record {
      put = put_further g.O.Sink.stands_for c.args.out.now c.loop-i.out c.section.new.out section_of (names_in c.args.guests.now) c.args.host.now.machines c.loop-i.i
          (get_or c.args.guests.now c.loop-i.i c.index-guests-i.result).name as_many inside (name_is c.args.guests.now c.loop-i.i c.index-guests-i.result c.loop-i-test.true) c.loop-i.invariant.put put;
      count = omega (arith, c.loop-i.invariant.count, c.section.ensures.count);
      stays = c.section.ensures.stays ∙ c.loop-i.invariant.stays;
    }
