use Rattle.std.proofs.Common.{ℕ, List, ◌∷◌, drop, get_or, ap, ◌∙◌, arith}
use Rattle.std.proofs.lemmas.List.{append-nil, length-drop, take_all}
use Rattle.guest_save.specs.Headers.{header_in}
use Rattle.guest_save.specs.Registers.{csrs_in}
use Rattle.guest_save.proofs.headers.Header.of.Goals as goal

pub returns : goal.returns
unfolding header_in
returns c =
    let sizes = c.args.sizes.now in
    let ns = c.args.numbers.now in
    let x = ap (λ (xs : List ℕ). 0 ∷ xs) (append-nil c.copy_from_slice.new.self ∙ c.copy_from_slice.ensures.after) in
    let csrs = c.csrs_in.ensures ∙ ap csrs_in (take_all 31 (drop 37 ns) (omega (arith, length-drop 37 ns, c.told-numbers))) in
    λ i. record {
      blocks = get_or sizes 0 0;
      spaces = get_or sizes 1 0;
      entries = get_or sizes 2 0;
      console = get_or sizes 3 0;
      device = c.args.device;
      status = c.status_of.ensures i;
      steps = get_or ns 1 0;
      time = get_or ns 2 0;
      timer = get_or ns 3 0;
      state = record {
        regs = record { x = x i; pc = get_or ns 5 0 };
        csrs = csrs i;
        mode = c.mode_of.ensures i;
        reservation = c.reservation_of.ensures i;
        first = c.new.ensures i;
      };
    }
