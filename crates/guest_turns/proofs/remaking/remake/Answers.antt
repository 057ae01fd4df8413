use Rattle.std.proofs.Common.{◌≡◌, ◌+◌, ◌-◌, [], drop, ap, sym, ◌∙◌, arith}
use Rattle.std.proofs.Math.Seq.{drop-length}
use Rattle.guest_turns.proofs.Remade.{fits_after, keeps_both, keeps_none}
use Rattle.guest_turns.proofs.remaking.remake.Goals as goal

pub loop-i-init : goal.loop-i-init
loop-i-init c =
    let all : drop c.held-i.result c.args.saved.now.machine.spaces ≡ [] = ap (λ n. drop n c.args.saved.now.machine.spaces) c.held-i.ensures ∙ drop-length c.args.saved.now.machine.spaces in
    record {
      within = omega (arith, c.held-i.ensures);
      spaces = c.requires.empty ∙ sym all;
      fits = c.requires.fits;
      keeps = keeps_none c.args.pool.now c.args.memory.now;
      tidy = c.requires.tidy;
    }

pub remake_space-requires-clause-behind : goal.remake_space-requires-clause-behind
remake_space-requires-clause-behind c =
    let next : c.loop-i.i ≡ c.loop-i.i - 1 + 1 = omega (arith, c.loop-i-test.true) in
    c.loop-i.invariant.spaces ∙ ap (λ n. drop n c.args.saved.now.machine.spaces) next

pub loop-i-preserved : goal.loop-i-preserved
loop-i-preserved c = record {
  within = omega (arith, c.loop-i.invariant.within);
  spaces = c.remake_space.ensures.remade.spaces;
  fits = fits_after c.args.saved.now.machine c.loop-i.pool c.remake_space.new.pool c.loop-i.memory c.remake_space.new.memory c.loop-i.invariant.fits c.remake_space.ensures.remade.keeps;
  keeps = keeps_both c.args.pool.now c.loop-i.pool c.remake_space.new.pool c.args.memory.now c.loop-i.memory c.remake_space.new.memory c.loop-i.invariant.keeps c.remake_space.ensures.remade.keeps;
  tidy = c.remake_space.ensures.remade.tidy;
}

pub returns-clause-spaces : goal.returns-clause-spaces
returns-clause-spaces c =
    let none : c.loop-i.i ≡ 0 = omega (arith, c.loop-i-test.false) in
    c.loop-i.invariant.spaces ∙ ap (λ n. drop n c.args.saved.now.machine.spaces) none
