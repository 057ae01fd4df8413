use Rattle.std.proofs.Common.{ap, arith, subst}
use Rattle.shadow_space.specs.Held.{HasMovedUp}
use Rattle.shadow_space.proofs.TakingOut.{has_taken, leaf_room, taking}
use Rattle.table_words.proofs.Words.{changed_then}
use Rattle.shadow_space.proofs.cached.CachedTable.take_out.Goals as goal

pub clear_leaf-requires-clause-inside : goal.clear_leaf-requires-clause-inside
clear_leaf-requires-clause-inside c =
    leaf_room c.args.tables.now c.args.self.now.part.blocks c.args.self.now.most c.args.self.now.entries c.args.self.now.frames c.args.mem.now c.args.i c.at-page.result
    c.requires.holds c.requires.index c.at-page.result.page c.place.result (ap (λ e. e.page) c.at-page.ensures) c.place.ensures

pub way_to-way-requires : goal.way_to-way-requires
way_to-way-requires c =
    let first = taking c.args.tables.now c.args.self.now c.args.mem.now c.args.i c.at-page.result c.requires.holds c.requires.index c.at-page.result.page c.place.result (ap (λ e. e.page) c.at-page.ensures) c.place.ensures c.remove.new.self c.remove.ensures c.drop_place.new.self c.clear_leaf.new.mem c.drop_place.ensures.rest
    (subst (λ n. HasMovedUp c.args.self.now.frames.places c.drop_place.new.self.places c.args.i n) c.len.ensures.value c.drop_place.ensures.places) c.clear_leaf.ensures.memory in
    record { page = first.small; room = first.room; stands = first.stands }

pub leave_tables-requires : goal.leave_tables-requires
leave_tables-requires c =
    let first = taking c.args.tables.now c.args.self.now c.args.mem.now c.args.i c.at-page.result c.requires.holds c.requires.index c.at-page.result.page c.place.result (ap (λ e. e.page) c.at-page.ensures) c.place.ensures c.remove.new.self c.remove.ensures c.drop_place.new.self c.clear_leaf.new.mem c.drop_place.ensures.rest
    (subst (λ n. HasMovedUp c.args.self.now.frames.places c.drop_place.new.self.places c.args.i n) c.len.ensures.value c.drop_place.ensures.places) c.clear_leaf.ensures.memory in
    record { page = first.small; room = first.room; stands = c.way_to-way.ensures }

pub returns-clause-keeps : goal.returns-clause-keeps
returns-clause-keeps c =
    (has_taken c.args.tables.now c.args.self.now c.args.mem.now c.args.i c.at-page.result c.requires.holds c.requires.index c.at-page.result.page c.place.result (ap (λ e. e.page) c.at-page.ensures) c.place.ensures c.remove.new.self c.remove.ensures c.drop_place.new.self c.clear_leaf.new.mem c.leave_tables.new.self c.leave_tables.new.mem c.way_to-way.result
    (taking c.args.tables.now c.args.self.now c.args.mem.now c.args.i c.at-page.result c.requires.holds c.requires.index c.at-page.result.page c.place.result (ap (λ e. e.page) c.at-page.ensures) c.place.ensures c.remove.new.self c.remove.ensures c.drop_place.new.self c.clear_leaf.new.mem c.drop_place.ensures.rest
    (subst (λ n. HasMovedUp c.args.self.now.frames.places c.drop_place.new.self.places c.args.i n) c.len.ensures.value c.drop_place.ensures.places) c.clear_leaf.ensures.memory)
    c.leave_tables.ensures.rest c.leave_tables.ensures.stands c.leave_tables.ensures.only).keeps

pub returns-clause-holds : goal.returns-clause-holds
returns-clause-holds c =
    (has_taken c.args.tables.now c.args.self.now c.args.mem.now c.args.i c.at-page.result c.requires.holds c.requires.index c.at-page.result.page c.place.result (ap (λ e. e.page) c.at-page.ensures) c.place.ensures c.remove.new.self c.remove.ensures c.drop_place.new.self c.clear_leaf.new.mem c.leave_tables.new.self c.leave_tables.new.mem c.way_to-way.result
    (taking c.args.tables.now c.args.self.now c.args.mem.now c.args.i c.at-page.result c.requires.holds c.requires.index c.at-page.result.page c.place.result (ap (λ e. e.page) c.at-page.ensures) c.place.ensures c.remove.new.self c.remove.ensures c.drop_place.new.self c.clear_leaf.new.mem c.drop_place.ensures.rest
    (subst (λ n. HasMovedUp c.args.self.now.frames.places c.drop_place.new.self.places c.args.i n) c.len.ensures.value c.drop_place.ensures.places) c.clear_leaf.ensures.memory)
    c.leave_tables.ensures.rest c.leave_tables.ensures.stands c.leave_tables.ensures.only).list

pub returns-clause-changed : goal.returns-clause-changed
returns-clause-changed c =
    let first = taking c.args.tables.now c.args.self.now c.args.mem.now c.args.i c.at-page.result c.requires.holds c.requires.index c.at-page.result.page c.place.result (ap (λ e. e.page) c.at-page.ensures) c.place.ensures c.remove.new.self c.remove.ensures c.drop_place.new.self c.clear_leaf.new.mem c.drop_place.ensures.rest
    (subst (λ n. HasMovedUp c.args.self.now.frames.places c.drop_place.new.self.places c.args.i n) c.len.ensures.value c.drop_place.ensures.places) c.clear_leaf.ensures.memory in
    omega (
      arith,
      changed_then c.args.mem.now c.clear_leaf.new.mem c.leave_tables.new.mem first.only.size,
      c.clear_leaf.ensures.changed,
      c.leave_tables.ensures.changed,
    )
