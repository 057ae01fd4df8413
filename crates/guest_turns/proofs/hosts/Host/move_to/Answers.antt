use Rattle.std.proofs.Common.{◌<◌, true, false, length, set, slice_index, ap, subst, sym, ◌∙◌}
use Rattle.guest_turns.specs.Hosted.{is_set}
use Rattle.guest_turns.proofs.Among.{active_of, among, host_part}
use Rattle.guest_turns.proofs.Shifting.{from_small, has_moved, hosted, still_hosted, to_apart}
use Rattle.guest_turns.proofs.hosts.Host.move_to.Goals as goal

pub shift-requires-clause-hosted : goal.shift-requires-clause-hosted
shift-requires-clause-hosted c =
    let host = c.self.inside in
    let inside = among host.guests.items host.memory host.free host.retired _ c.args.g c.self.view_is c.requires.block.guest.there in
    let active = active_of host.guests.items host.memory host.free host.retired _ c.args.g c.self.view_is c.requires.block.guest.active in
    let part = host_part host.guests.items host.memory host.free host.retired _ c.args.g c.index_mut-guest.result.now c.self.view_is inside c.index_mut-guest.ensures.value in
    let index = subst (λ part. c.args.block < length part.blocks) part c.requires.block.block in
    let flag = ap (λ host. is_set host.free c.args.to) c.self.view_is ∙ c.requires.free in
    hosted host.guests.items host.retired host.free host.memory c.self.invariant c.args.g inside active c.has_each_block.ensures c.index_mut-guest.result.now c.index_mut-guest.ensures.value c.args.block c.args.to index flag

pub shift-requires-clause-free : goal.shift-requires-clause-free
shift-requires-clause-free c =
    let host = c.self.inside in
    let inside = among host.guests.items host.memory host.free host.retired _ c.args.g c.self.view_is c.requires.block.guest.there in
    let active = active_of host.guests.items host.memory host.free host.retired _ c.args.g c.self.view_is c.requires.block.guest.active in
    let part = host_part host.guests.items host.memory host.free host.retired _ c.args.g c.index_mut-guest.result.now c.self.view_is inside c.index_mut-guest.ensures.value in
    let index = subst (λ part. c.args.block < length part.blocks) part c.requires.block.block in
    let flag = ap (λ host. is_set host.free c.args.to) c.self.view_is ∙ c.requires.free in
    to_apart host.guests.items host.retired host.free host.memory c.self.invariant c.args.g inside active c.has_each_block.ensures c.index_mut-guest.result.now c.index_mut-guest.ensures.value c.args.block c.args.to index flag

pub exchange-requires-clause-given : goal.exchange-requires-clause-given
exchange-requires-clause-given c =
    let host = c.self.inside in
    let inside = among host.guests.items host.memory host.free host.retired _ c.args.g c.self.view_is c.requires.block.guest.there in
    let active = active_of host.guests.items host.memory host.free host.retired _ c.args.g c.self.view_is c.requires.block.guest.active in
    let part = host_part host.guests.items host.memory host.free host.retired _ c.args.g c.index_mut-guest.result.now c.self.view_is inside c.index_mut-guest.ensures.value in
    let index = subst (λ part. c.args.block < length part.blocks) part c.requires.block.block in
    let flag = ap (λ host. is_set host.free c.args.to) c.self.view_is ∙ c.requires.free in
    subst (λ blocks. slice_index blocks c.args.block < 256) (sym c.blocks-2.ensures.value) (from_small host.guests.items host.retired host.free host.memory c.self.invariant c.args.g inside active c.has_each_block.ensures c.index_mut-guest.result.now c.index_mut-guest.ensures.value c.args.block c.args.to index flag)

pub invariant_of-self : goal.invariant_of-self
invariant_of-self c =
    let host = c.self.inside in
    let inside = among host.guests.items host.memory host.free host.retired _ c.args.g c.self.view_is c.requires.block.guest.there in
    let active = active_of host.guests.items host.memory host.free host.retired _ c.args.g c.self.view_is c.requires.block.guest.active in
    let part = host_part host.guests.items host.memory host.free host.retired _ c.args.g c.index_mut-guest.result.now c.self.view_is inside c.index_mut-guest.ensures.value in
    let index = subst (λ part. c.args.block < length part.blocks) part c.requires.block.block in
    let flag = ap (λ host. is_set host.free c.args.to) c.self.view_is ∙ c.requires.free in
    let from = ap (λ blocks. slice_index blocks c.args.block) c.blocks-2.ensures.value in
    let free = c.exchange.ensures ∙ ap (λ b. set (set host.free c.args.to false) b true) from in
    still_hosted host.guests.items host.retired host.free host.memory c.self.invariant c.args.g inside active c.has_each_block.ensures c.index_mut-guest.result.now c.index_mut-guest.ensures.value c.args.block c.args.to index flag
    c.shift.new.guest c.shift.new.memory c.exchange.new.self c.shift.ensures.shifted.hosted c.shift.ensures.shifted.part c.shift.ensures.shifted.machine c.shift.ensures.shifted.zeros c.shift.ensures.shifted.only free

pub returns : goal.returns
returns c =
    let host = c.self.inside in
    let inside = among host.guests.items host.memory host.free host.retired _ c.args.g c.self.view_is c.requires.block.guest.there in
    let active = active_of host.guests.items host.memory host.free host.retired _ c.args.g c.self.view_is c.requires.block.guest.active in
    let part = host_part host.guests.items host.memory host.free host.retired _ c.args.g c.index_mut-guest.result.now c.self.view_is inside c.index_mut-guest.ensures.value in
    let index = subst (λ part. c.args.block < length part.blocks) part c.requires.block.block in
    let flag = ap (λ host. is_set host.free c.args.to) c.self.view_is ∙ c.requires.free in
    let from = ap (λ blocks. slice_index blocks c.args.block) c.blocks-2.ensures.value in
    let free = c.exchange.ensures ∙ ap (λ b. set (set host.free c.args.to false) b true) from in
    has_moved host.guests.items host.retired host.free host.memory c.self.invariant c.args.g inside active c.has_each_block.ensures c.index_mut-guest.result.now c.index_mut-guest.ensures.value c.args.block c.args.to index flag
    c.shift.new.guest c.shift.new.memory c.exchange.new.self c.shift.ensures.shifted.hosted c.shift.ensures.shifted.part c.shift.ensures.shifted.machine c.shift.ensures.shifted.zeros c.shift.ensures.shifted.only free c.args.self.now c.self.view_is
