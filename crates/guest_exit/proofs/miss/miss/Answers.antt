use Rattle.std.proofs.Common.{rules, ◌≡◌, ◌∙◌, true, false, refl, ap, sym}
use Rattle.machine_defs.specs.Runs.{event_in, left_by}
use Rattle.machine_defs.specs.Tries.{device_of, unplaced}
use Rattle.hosted_steps.specs.ExitCases.{data_wanted, found_next, having_found}
use Rattle.guest_exit.specs.View.{machine_of}
use Rattle.shadow_pool.specs.Slots.{spaces_of}
use Rattle.shadow_pool.proofs.Filling.{filled_in_front, front_held}
use Rattle.guest_exit.proofs.Missed.{can_fill, fill_made, folding_front, none_on_device, unplaced_is_quiet}
use Rattle.guest_exit.proofs.miss.miss.Goals as goal

pub key-key-requires : goal.key-key-requires
key-key-requires c =
    (folding_front c.args.guest.now c.args.memory.now c.args.access.now c.in-Some.entry c.requires.left.can.placed (sym c.entry_for.ensures.entry ∙ c.in-Some.is)).some

pub fill-requires-clause-entry : goal.fill-requires-clause-entry
fill-requires-clause-entry c =
    let front = folding_front c.args.guest.now c.args.memory.now c.args.access.now c.in-Some.entry c.requires.left.can.placed (sym c.entry_for.ensures.entry ∙ c.in-Some.is) in
    record {
      held = rw c.key-key.ensures (front_held _ (spaces_of c.args.guest.now.pool) front.first);
      entry = can_fill c.args.guest.now c.args.memory.now c.args.access.now c.in-Some.entry c.requires.left.can.placed (sym c.entry_for.ensures.entry ∙ c.in-Some.is);
    }

pub returns-in-Some-clause-made : goal.returns-in-Some-clause-made
returns-in-Some-clause-made c =
    let m = machine_of c.args.guest.now c.args.memory.now in
    record {
      makes = record {
        ready = λ went. absurd (went refl);
        step = λ went. absurd (went refl);
        fill = λ retry.
            fill_made c.args.guest.now (record c.args.guest.now { pool = c.fill.new.self }) c.args.memory.now c.fill.new.mem c.args.access.now c.in-Some.entry
            c.requires.left.can.placed (sym c.entry_for.ensures.entry ∙ c.in-Some.is)
            refl refl (rw c.entry_for.ensures.stays at c.fill.ensures.keeps) refl
            (c.fill.ensures.spaces ∙ filled_in_front c.key-key.result c.args.guest.now.pool.most (spaces_of c.args.guest.now.pool) c.in-Some.entry
            (rw c.key-key.ensures (folding_front c.args.guest.now c.args.memory.now c.args.access.now c.in-Some.entry c.requires.left.can.placed (sym c.entry_for.ensures.entry ∙ c.in-Some.is)).first));
      };
      stops = (λ e. absurd (cc), λ stop. absurd (cc));
      quiet = unplaced_is_quiet (having_found (found_next m) m) c.args.access.now (data_wanted m) (device_of m c.args.access.now.address c.args.access.now.kind);
      event = λ went. absurd (went refl);
      told = search rules;
      within = search rules;
    }

-- on the device page nothing is missing
pub returns-then-has_on_device-clause-made : goal.returns-then-has_on_device-clause-made
returns-then-has_on_device-clause-made c =
    let m = machine_of c.args.guest.now c.args.memory.now in
    let missing = c.args.access.now in
    let on : device_of m missing.address missing.kind ≡ true = sym (c.has_on_device.ensures c.args.memory.now) ∙ c.if-has_on_device.true in
    let device = c.access_device.ensures in
    record {
      makes = record {
        ready = λ went. none_on_device m missing on;
        step = λ went. device.made.step c.args.memory.now ∙ ap (λ b. left_by m (unplaced (having_found (found_next m) m) missing (data_wanted m) b)) (sym on);
        fill = λ retry. absurd (device.went retry);
      };
      stops = (λ e. absurd (device.runs e), λ stop. absurd (cc));
      quiet = unplaced_is_quiet (having_found (found_next m) m) missing (data_wanted m) (device_of m missing.address missing.kind);
      event = λ went. ap (λ b. event_in (unplaced (having_found (found_next m) m) missing (data_wanted m) b)) on ∙ device.made.event c.args.memory.now;
      told = device.made.told;
      within = search rules;
    }

pub returns-in-None-clause-made : goal.returns-in-None-clause-made
returns-in-None-clause-made c =
    let m = machine_of c.args.guest.now c.args.memory.now in
    let missing = c.args.access.now in
    let off : device_of m missing.address missing.kind ≡ false = sym (c.has_on_device.ensures c.args.memory.now) ∙ c.if-has_on_device.false in
    let fault = c.raise_fault.ensures in
    record {
      makes = rw (fault.stays, c.entry_for.ensures.stays) (record {
        ready = λ went. sym c.entry_for.ensures.entry ∙ c.in-None.is;
        step = λ went. (rw c.entry_for.ensures.stays at fault.made.step c.args.memory.now)
            ∙ ap (λ b. left_by m (unplaced (having_found (found_next m) m) missing (data_wanted m) b)) (sym off);
        fill = λ retry. absurd (fault.went retry);
      });
      stops = (λ e. absurd (fault.runs e), λ stop. absurd (cc));
      quiet = unplaced_is_quiet (having_found (found_next m) m) missing (data_wanted m) (device_of m missing.address missing.kind);
      event = λ went. ap (λ b. event_in (unplaced (having_found (found_next m) m) missing (data_wanted m) b)) off
          ∙ (rw c.entry_for.ensures.stays at fault.made.event c.args.memory.now);
      told = fault.made.told;
      within = search rules;
    }
