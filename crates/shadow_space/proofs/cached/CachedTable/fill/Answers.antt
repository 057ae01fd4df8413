use Rattle.std.proofs.Common.{ap, arith, length, remove, sym, ◌<◌, ◌∙◌, ◌++◌, ◌∷◌, []}
use Rattle.std.proofs.lemmas.List.Edits.{length-remove}
use Rattle.arch_defs.specs.CachedEntries.{HasOtherPage}
use Rattle.shadow_space.proofs.Dropping.{absent, found_inside, found_page, none_room, others_left}
use Rattle.shadow_space.proofs.Editing.{all_removed, filled_found, filled_full, filled_room}
use Rattle.shadow_space.proofs.Putting.{can_put}
use Rattle.table_words.proofs.Words.{changed_none, changed_then}
use Rattle.shadow_space.proofs.cached.CachedTable.fill.Goals as goal

pub put-requires : goal.put-requires
put-requires c =
    let inside = found_inside c.args.self.now.entries c.args.entry.page c.place_of.result c.in-Some.i c.args.entry c.in-Some.is c.place_of.ensures.found in
    let count = length-remove c.args.self.now.entries c.in-Some.i inside in
    can_put c.args.tables.now c.args.self.now c.take_out.new.self c.args.mem.now c.take_out.new.mem c.args.entry (remove c.args.self.now.entries c.in-Some.i) c.requires.entry c.take_out.ensures.entries
    (omega (arith, count, c.requires.holds.few))
    (others_left c.args.self.now.entries c.in-Some.i c.args.entry.page c.args.entry inside c.requires.holds.pages (found_page c.args.self.now.entries c.args.entry.page c.place_of.result c.in-Some.i c.args.entry c.in-Some.is c.place_of.ensures.found))
    c.take_out.ensures.keeps c.take_out.ensures.holds

pub put-requires-in-None : goal.put-requires-in-None
put-requires-in-None c = record {
  holds = c.requires.holds;
  room = omega (arith, c.len.ensures.value, c.if-len-self.true);
  entry = c.requires.entry;
  others = absent c.args.self.now.entries c.args.entry.page c.place_of.result c.in-None.is c.place_of.ensures.absent;
}

pub put-requires-in-None-2 : goal.put-requires-in-None-2
put-requires-in-None-2 c =
    let some : 0 < length c.args.self.now.entries = omega (arith, c.len.ensures.value, c.if-len-self.false, c.if-self-gt0.true) in
    let count = length-remove c.args.self.now.entries 0 some in
    can_put c.args.tables.now c.args.self.now c.drop_oldest.new.self c.args.mem.now c.drop_oldest.new.mem c.args.entry (remove c.args.self.now.entries 0) c.requires.entry c.drop_oldest.ensures.entries
    (omega (arith, count, c.requires.holds.few))
    (all_removed (λ e. HasOtherPage e c.args.entry) c.args.self.now.entries 0 some (absent c.args.self.now.entries c.args.entry.page c.place_of.result c.in-None.is c.place_of.ensures.absent))
    c.drop_oldest.ensures.keeps c.drop_oldest.ensures.holds

pub returns-in-Some-clause-entries : goal.returns-in-Some-clause-entries
returns-in-Some-clause-entries c =
    c.put.ensures.entries ∙ ap (λ xs. xs ++ c.args.entry ∷ []) c.take_out.ensures.entries
    ∙ sym (filled_found c.args.self.now.most c.args.self.now.entries c.args.entry c.args.entry c.in-Some.i (found_inside c.args.self.now.entries c.args.entry.page c.place_of.result c.in-Some.i c.args.entry c.in-Some.is c.place_of.ensures.found) c.requires.holds.few c.requires.holds.pages (found_page c.args.self.now.entries c.args.entry.page c.place_of.result c.in-Some.i c.args.entry c.in-Some.is c.place_of.ensures.found))

pub returns-in-Some-clause-changed : goal.returns-in-Some-clause-changed
returns-in-Some-clause-changed c = omega (arith, changed_then c.args.mem.now c.take_out.new.mem c.put.new.mem c.take_out.ensures.keeps.only.size, c.take_out.ensures.changed, c.put.ensures.changed)

pub returns-in-None-clause-entries : goal.returns-in-None-clause-entries
returns-in-None-clause-entries c = c.put-in-None.ensures.entries ∙ sym (filled_room c.args.self.now.most c.args.self.now.entries c.args.entry (omega (arith, c.len.ensures.value, c.if-len-self.true)) (absent c.args.self.now.entries c.args.entry.page c.place_of.result c.in-None.is c.place_of.ensures.absent))

pub returns-in-None-2-clause-entries : goal.returns-in-None-2-clause-entries
returns-in-None-2-clause-entries c =
    c.put-in-None-2.ensures.entries ∙ ap (λ xs. xs ++ c.args.entry ∷ []) c.drop_oldest.ensures.entries
    ∙ sym (filled_full c.args.self.now.most c.args.self.now.entries c.args.entry (omega (arith, c.len.ensures.value, c.if-len-self.false, c.requires.holds.few)) (omega (arith, c.if-self-gt0.true)) (absent c.args.self.now.entries c.args.entry.page c.place_of.result c.in-None.is c.place_of.ensures.absent))

pub returns-in-None-2-clause-changed : goal.returns-in-None-2-clause-changed
returns-in-None-2-clause-changed c = omega (arith, changed_then c.args.mem.now c.drop_oldest.new.mem c.put-in-None-2.new.mem c.drop_oldest.ensures.keeps.only.size, c.drop_oldest.ensures.changed, c.put-in-None-2.ensures.changed)

pub returns-in-None-3-clause-entries : goal.returns-in-None-3-clause-entries
returns-in-None-3-clause-entries c = sym (none_room c.args.self.now.most c.args.self.now.entries c.args.entry (omega (arith, c.if-self-gt0.false)) c.requires.holds.few)

pub returns-in-None-3-clause-changed : goal.returns-in-None-3-clause-changed
returns-in-None-3-clause-changed c = omega (arith, changed_none c.args.mem.now)
