use Rattle.std.proofs.Common.{rules, ◌≡◌, ◌%◌, ◌^◌, ◌<◌, Some, length, ap, sym, ◌∙◌}
use Rattle.arch_defs.specs.declared.walks.Privilege.{Privilege}
use Rattle.arch_defs.specs.Translation.{privilege_of}
use Rattle.translation_buffer.specs.Holding.{has_among, has_frame}
use Rattle.translation_buffer.specs.Places.{Translator, translated_place, translator}
use Rattle.translation_buffer.proofs.KeptPages.{page_more}
use Rattle.translation_buffer.proofs.KeptSlots.{all_more, kept_page, kept_tag, kept_up_to, recent_among, walk_stands}
use Rattle.translation_buffer.specs.Lookups.{lookup_place}
use Rattle.translation_buffer.proofs.LookedUp.{place_looked_up}
use Rattle.translation_buffer.proofs.buffers.Buffer.walk.Goals as goal

pub returns-in-Some-clause-serves : goal.returns-in-Some-clause-serves
returns-in-Some-clause-serves c =
    let who : Privilege = privilege_of c.args.state.now.virt.csrs c.args.state.now.virt.mode in
    let under : Translator = translator c.args.state.now.virt.first c.args.state.now.tag c.args.self.now.context in
    let whole : length c.args.memory.now % 4096 ≡ 0 = search rules in
    let small : c.args.va < 2 ^ 64 = search rules in
    let is : translated_place under who c.args.memory.now c.args.va c.args.access ≡ Some c.in-Some.place =
    sym (place_looked_up under who c.args.memory.now c.args.va c.args.access) ∙ ap lookup_place (sym c.lookup_noted-lookup.ensures.lookup) ∙ sym c.in-Some.ensures in
    record {
      context = c.requires.serves.context;
      who = c.requires.serves.who;
      slots = c.keep.ensures.stand c.lookup_noted-lookup.new.read c.args.memory.now under c.args.self.now.run
          (walk_stands (has_among c.lookup_noted-lookup.new.read c.recent.result) c.args.memory.now under c.args.self.now.run who c.args.va c.in-Some.place c.args.access _ whole small
          (c.lookup_noted-lookup.ensures.noted (has_among c.lookup_noted-lookup.new.read c.recent.result) (recent_among c.lookup_noted-lookup.new.read c.recent.result c.recent.ensures)) is
          (kept_tag c.args.self.now c.args.state.now.virt.first c.args.state.now.tag c.args.state.now.virt.csrs c.args.state.now.virt.mode c.args.memory.now c.args.va c.requires.serves small) c.delta.ensures)
          (all_more c.args.self.now.read c.lookup_noted-lookup.new.read c.args.memory.now under c.args.self.now.run c.args.self.now.slots
          (λ frame named. c.lookup_noted-lookup.ensures.more frame (c.begin.ensures.same frame ∙ named)) c.requires.serves.slots);
      page = page_more (has_frame c.args.self.now.read) (has_frame c.lookup_noted-lookup.new.read) c.args.memory.now (translator c.args.state.now.virt.first c.args.state.now.tag c.args.self.now.context) (privilege_of c.args.state.now.virt.csrs c.args.state.now.virt.mode) c.args.self.now.page
          (λ frame named. c.lookup_noted-lookup.ensures.more frame (c.begin.ensures.same frame ∙ named)) c.requires.serves.page;
    }

pub returns-in-None-clause-serves : goal.returns-in-None-clause-serves
returns-in-None-clause-serves c = record {
  context = c.requires.serves.context;
  who = c.requires.serves.who;
  slots = all_more c.args.self.now.read c.lookup_noted-lookup.new.read c.args.memory.now (translator c.args.state.now.virt.first c.args.state.now.tag c.args.self.now.context) c.args.self.now.run c.args.self.now.slots
      (λ frame named. c.lookup_noted-lookup.ensures.more frame (c.begin.ensures.same frame ∙ named)) c.requires.serves.slots;
  page = page_more (has_frame c.args.self.now.read) (has_frame c.lookup_noted-lookup.new.read) c.args.memory.now (translator c.args.state.now.virt.first c.args.state.now.tag c.args.self.now.context) (privilege_of c.args.state.now.virt.csrs c.args.state.now.virt.mode) c.args.self.now.page
      (λ frame named. c.lookup_noted-lookup.ensures.more frame (c.begin.ensures.same frame ∙ named)) c.requires.serves.page;
}

pub invariant_of-self : goal.invariant_of-self
invariant_of-self c =
    let small : c.args.va < 2 ^ 64 = search rules in
    record {
      few = c.args.self.now.few;
      tags = c.keep.ensures.tags c.args.self.now.run
          (kept_up_to c.args.self.now c.args.state.now.virt.first c.args.state.now.tag c.args.state.now.virt.csrs c.args.state.now.virt.mode c.args.memory.now c.args.va c.requires.serves small)
          c.args.self.now.tags;
      homes = c.keep.ensures.homes
          (kept_page c.args.self.now c.args.state.now.virt.first c.args.state.now.tag c.args.state.now.virt.csrs c.args.state.now.virt.mode c.args.memory.now c.args.va c.requires.serves small)
          c.args.self.now.homes;
    }
