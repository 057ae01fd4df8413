use Rattle.std.proofs.Common.{◌≡◌, ◌<◌, length, get_or, subst, sym, ◌∙◌, arith}
use Rattle.std.proofs.lemmas.Iterator.Adapters.{YieldsList-from_vec}
use Rattle.std.proofs.lemmas.Iterator.Consumers.{YieldsList-turn}
use Rattle.std.proofs.lemmas.List.{length_push}
use Rattle.shadow_space.specs.Shadows.{AreZeros}
use Rattle.guest_turns.specs.Hosting.{space_tables}
use Rattle.guest_turns.proofs.Starting.{blocks_lie, laid_made, made_more, part_for, parts_count}
use Rattle.guest_turns.proofs.booting.guests_from.Goals as goal

pub loop-source-preserved : goal.loop-source-preserved
loop-source-preserved c =
    let gives = c.into_iter-source-iterator.ensures.into_iter_gives in
    let turn = YieldsList-turn (YieldsList-from_vec c.args.sources.items gives.0 (gives.1 ∙ c.args.sources.ok.0)) c.loop-source.yielded c.loop-source.source-iterator c.loop-source.yielded_by c.next.result c.next.new.self c.in-Some.source c.in-Some.is c.next.ensures.steps in
    let all = c.args.sources.items in
    let parts = c.args.parts.now in
    let part = c.index-parts-i.result in
    let inside : c.loop-source.i < length all = omega (arith, turn.0, c.loop-source.invariant.index) in
    let source_is : c.in-Some.source ≡ get_or all c.loop-source.i c.in-Some.source = rw c.loop-source.invariant.index turn.1 in
    let split = c.requires.parts.split in
    let count = parts_count all parts c.requires.parts.frames split in
    let part_in : c.loop-source.i < length parts = omega (arith, count, inside) in
    let for = part_for all parts c.requires.parts.frames c.loop-source.i c.in-Some.source part c.requires.each split inside source_is c.index-parts-i.is in
    let length_is = length_push c.loop-source.yielded c.in-Some.source in
    let only = c.in_ok-guest_from.ensures.only in
    record {
      can_next = tt;
      finite = tt;
      index = omega (arith, length_is, c.loop-source.invariant.index);
      made =
          rw c.in_ok-push.ensures.items
          (made_more c.loop-source.yielded parts c.loop-source.i part c.loop-source.memory c.guest_from.new.memory part_in c.index-parts-i.is split.apart only
          c.loop-source.guests.items c.in-Some.source c.in_ok-guest_from.field-0 c.loop-source.invariant.index c.loop-source.invariant.made c.in_ok-guest_from.ensures.made);
      laid =
          laid_made c.loop-source.yielded parts c.loop-source.i part c.loop-source.memory c.guest_from.new.memory part_in c.index-parts-i.is split.apart only
          all (sym count) for.once (blocks_lie all parts c.requires.parts.frames c.loop-source.memory split (c.loop-source.invariant.size ∙ c.requires.parts.whole)) c.loop-source.invariant.laid;
      size = only.size ∙ c.loop-source.invariant.size;
    }

pub guest_from-requires-clause-bootable : goal.guest_from-requires-clause-bootable
guest_from-requires-clause-bootable c =
    let gives = c.into_iter-source-iterator.ensures.into_iter_gives in
    let turn = YieldsList-turn (YieldsList-from_vec c.args.sources.items gives.0 (gives.1 ∙ c.args.sources.ok.0)) c.loop-source.yielded c.loop-source.source-iterator c.loop-source.yielded_by c.next.result c.next.new.self c.in-Some.source c.in-Some.is c.next.ensures.steps in
    let inside : c.loop-source.i < length c.args.sources.items = omega (arith, turn.0, c.loop-source.invariant.index) in
    let source_is : c.in-Some.source ≡ get_or c.args.sources.items c.loop-source.i c.in-Some.source = rw c.loop-source.invariant.index turn.1 in
    (part_for c.args.sources.items c.args.parts.now c.requires.parts.frames c.loop-source.i c.in-Some.source c.index-parts-i.result c.requires.each c.requires.parts.split inside source_is c.index-parts-i.is).bootable

pub guest_from-requires-clause-meets : goal.guest_from-requires-clause-meets
guest_from-requires-clause-meets c =
    let gives = c.into_iter-source-iterator.ensures.into_iter_gives in
    let turn = YieldsList-turn (YieldsList-from_vec c.args.sources.items gives.0 (gives.1 ∙ c.args.sources.ok.0)) c.loop-source.yielded c.loop-source.source-iterator c.loop-source.yielded_by c.next.result c.next.new.self c.in-Some.source c.in-Some.is c.next.ensures.steps in
    let inside : c.loop-source.i < length c.args.sources.items = omega (arith, turn.0, c.loop-source.invariant.index) in
    let source_is : c.in-Some.source ≡ get_or c.args.sources.items c.loop-source.i c.in-Some.source = rw c.loop-source.invariant.index turn.1 in
    (part_for c.args.sources.items c.args.parts.now c.requires.parts.frames c.loop-source.i c.in-Some.source c.index-parts-i.result c.requires.each c.requires.parts.split inside source_is c.index-parts-i.is).meets

pub guest_from-requires-clause-lies : goal.guest_from-requires-clause-lies
guest_from-requires-clause-lies c =
    let gives = c.into_iter-source-iterator.ensures.into_iter_gives in
    let turn = YieldsList-turn (YieldsList-from_vec c.args.sources.items gives.0 (gives.1 ∙ c.args.sources.ok.0)) c.loop-source.yielded c.loop-source.source-iterator c.loop-source.yielded_by c.next.result c.next.new.self c.in-Some.source c.in-Some.is c.next.ensures.steps in
    let inside : c.loop-source.i < length c.args.sources.items = omega (arith, turn.0, c.loop-source.invariant.index) in
    let source_is : c.in-Some.source ≡ get_or c.args.sources.items c.loop-source.i c.in-Some.source = rw c.loop-source.invariant.index turn.1 in
    let size = c.loop-source.invariant.size ∙ c.requires.parts.whole in
    rw size (part_for c.args.sources.items c.args.parts.now c.requires.parts.frames c.loop-source.i c.in-Some.source c.index-parts-i.result c.requires.each c.requires.parts.split inside source_is c.index-parts-i.is).lies

pub guest_from-requires-clause-zeros : goal.guest_from-requires-clause-zeros
guest_from-requires-clause-zeros c =
    let gives = c.into_iter-source-iterator.ensures.into_iter_gives in
    let turn = YieldsList-turn (YieldsList-from_vec c.args.sources.items gives.0 (gives.1 ∙ c.args.sources.ok.0)) c.loop-source.yielded c.loop-source.source-iterator c.loop-source.yielded_by c.next.result c.next.new.self c.in-Some.source c.in-Some.is c.next.ensures.steps in
    let inside : c.loop-source.i < length c.args.sources.items = omega (arith, turn.0, c.loop-source.invariant.index) in
    let part_in : c.loop-source.i < length c.args.parts.now = omega (arith, parts_count c.args.sources.items c.args.parts.now c.requires.parts.frames c.requires.parts.split, inside) in
    subst (λ part. AreZeros (space_tables part) c.loop-source.memory) (sym c.index-parts-i.is) (c.loop-source.invariant.laid.spaces c.loop-source.i c.index-parts-i.result (omega arith) part_in)
