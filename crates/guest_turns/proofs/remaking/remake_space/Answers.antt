use Rattle.std.proofs.Common.{◌≡◌, ◌+◌, ◌*◌, ◌<◌, drop, length, slice_index_or, ap, subst, sym, ◌∙◌, arith}
use Rattle.arch_defs.specs.CachedEntries.{CanFill}
use Rattle.arch_defs.specs.CsrBits.{guest_root_of, hgatp_bits}
use Rattle.arch_defs.specs.Memory.{block_size}
use Rattle.arch_defs.specs.Spaces.{entered}
use Rattle.guest_save.specs.Savable.{IsSavableEntry, IsSavableSpace}
use Rattle.guest_save.proofs.GoingOn.{savable_is_filled}
use Rattle.machine_defs.specs.Fills.{filled_front}
use Rattle.shadow_pool.specs.Slots.{no_space, space_at, spaces_of}
use Rattle.shadow_pool.proofs.Filling.{filled_in_front, front_held}
use Rattle.guest_turns.specs.Remaking.{partly}
use Rattle.guest_turns.proofs.Remade.{enters_before, fills_next, fills_whole, fits_after, keeps_both}
use Rattle.guest_turns.proofs.ShownBlocks.{same_space}
use Rattle.guest_turns.proofs.remaking.remake_space.Goals as goal

pub loop-j-init : goal.loop-j-init
loop-j-init c =
    let m = c.args.saved.now.machine in
    let s = space_at m.spaces c.args.i in
    let own : IsSavableSpace (length m.ram) m.entry_room m.device s = c.can_be_saved.ensures.spaces c.args.i no_space c.requires.space in
    let key : c.of-key.result ≡ s.key = c.of-key.ensures ∙ ap (λ key. guest_root_of (hgatp_bits key)) (c.key.ensures no_space) ∙ own.key.stored in
    record {
      within = omega arith;
      spaces =
          c.enter.ensures.spaces ∙ ap (λ n. entered n c.of-key.result (spaces_of c.args.pool.now)) c.requires.fits.spaces
          ∙ ap (λ key. entered m.space_room key (spaces_of c.args.pool.now)) key
          ∙ ap (entered m.space_room s.key) c.requires.behind
          ∙ enters_before m.space_room c.args.i m.spaces no_space c.can_be_saved.ensures.few c.requires.space c.can_be_saved.ensures.keys;
      fits = fits_after m c.args.pool.now c.enter.new.self c.args.memory.now c.enter.new.mem c.requires.fits c.enter.ensures.keeps;
      keeps = c.enter.ensures.keeps;
      tidy = c.enter.ensures.folded.tidy;
    }

pub entry-requires-clause-place : goal.entry-requires-clause-place
entry-requires-clause-place c d =
    let same = same_space c.args.saved.now.machine.spaces c.args.i d no_space c.requires.space in
    omega (arith, c.loop-j-test.true, c.len-j-end.ensures no_space, ap (λ s. length s.entries) same)

pub fill-requires-clause-entry : goal.fill-requires-clause-entry
fill-requires-clause-entry c =
    let m = c.args.saved.now.machine in
    let s = space_at m.spaces c.args.i in
    let own : IsSavableSpace (length m.ram) m.entry_room m.device s = c.can_be_saved.ensures.spaces c.args.i no_space c.requires.space in
    let key : c.of-key.result ≡ s.key = c.of-key.ensures ∙ ap (λ key. guest_root_of (hgatp_bits key)) (c.key.ensures no_space) ∙ own.key.stored in
    let inside : c.loop-j.j < length s.entries = omega (arith, c.loop-j-test.true, c.len-j-end.ensures no_space) in
    let size : length m.ram ≡ length c.loop-j.pool.part.blocks * block_size = c.can_be_saved.ensures.sizes.whole ∙ ap (λ n. n * block_size) (sym c.loop-j.invariant.fits.blocks) in
    let entry = own.entries c.loop-j.j c.entry.result inside in
    record {
      held = rw c.loop-j.invariant.spaces (front_held c.of-key.result (partly c.loop-j.j s (drop (c.args.i + 1) m.spaces)) (sym key));
      entry = subst (CanFill c.loop-j.pool.part.blocks) (sym (c.entry.ensures no_space))
          (savable_is_filled s.key c.loop-j.pool.part.blocks m.device (slice_index_or s.entries c.loop-j.j c.entry.result) (subst (λ n. IsSavableEntry s.key n m.device (slice_index_or s.entries c.loop-j.j c.entry.result)) size entry));
    }

pub loop-j-preserved : goal.loop-j-preserved
loop-j-preserved c =
    let m = c.args.saved.now.machine in
    let s = space_at m.spaces c.args.i in
    let others = drop (c.args.i + 1) m.spaces in
    let own : IsSavableSpace (length m.ram) m.entry_room m.device s = c.can_be_saved.ensures.spaces c.args.i no_space c.requires.space in
    let inside : c.loop-j.j < length s.entries = omega (arith, c.loop-j-test.true, c.len-j-end.ensures no_space) in
    let key : c.of-key.result ≡ s.key = c.of-key.ensures ∙ ap (λ key. guest_root_of (hgatp_bits key)) (c.key.ensures no_space) ∙ own.key.stored in
    record {
      within = omega (arith, inside);
      spaces =
          c.fill.ensures.spaces
          ∙ filled_in_front c.of-key.result c.loop-j.pool.most (spaces_of c.loop-j.pool) c.entry.result
          (rw c.loop-j.invariant.spaces (sym key))
          ∙ ap (λ n. filled_front n (spaces_of c.loop-j.pool) c.entry.result) c.loop-j.invariant.fits.entries
          ∙ ap (λ spaces. filled_front m.entry_room spaces c.entry.result) c.loop-j.invariant.spaces
          ∙ ap (filled_front m.entry_room (partly c.loop-j.j s others)) (c.entry.ensures no_space)
          ∙ fills_next m.entry_room c.loop-j.j s others c.entry.result own.few inside own.pages;
      fits = fits_after m c.loop-j.pool c.fill.new.self c.loop-j.memory c.fill.new.mem c.loop-j.invariant.fits c.fill.ensures.keeps;
      keeps = keeps_both c.args.pool.now c.loop-j.pool c.fill.new.self c.args.memory.now c.loop-j.memory c.fill.new.mem c.loop-j.invariant.keeps c.fill.ensures.keeps;
      tidy = c.fill.ensures.folded.tidy;
    }

pub returns : goal.returns
returns c =
    let m = c.args.saved.now.machine in
    let s = space_at m.spaces c.args.i in
    let all : c.loop-j.j ≡ length s.entries = omega (arith, c.loop-j-test.false, c.len-j-end.ensures no_space, c.loop-j.invariant.within) in
    record {
      remade = record {
        spaces =
            c.loop-j.invariant.spaces ∙ ap (λ k. partly k s (drop (c.args.i + 1) m.spaces)) all
            ∙ fills_whole c.args.i m.spaces no_space c.requires.space;
        keeps = c.loop-j.invariant.keeps;
        tidy = c.loop-j.invariant.tidy;
      };
    }
