use Rattle.std.proofs.Common.{◌≡◌, [], ◌∷◌, true, false, refl, arith}
use Rattle.std.proofs.lemmas.List.Elements.{All-cons, All-nil}
use Rattle.outside.specs.Asks.{Ask}
use Rattle.nesthv_top.specs.Reads.{ask}
use Rattle.nesthv_top.proofs.reads.Reads.read.Goals as goal

pub returns-in-Ok-clause-leaves : goal.returns-in-Ok-clause-leaves
returns-in-Ok-clause-leaves g c = record {
  files = c.in-Ok.ensures.stays;
  cause = tt;
  count = c.in-Ok.ensures.count;
  answers =
      let read = ask c.args.name.now c.args.most in
      record {
        reads = read ∷ [];
        asked = c.in-Ok.ensures.asked;
        none = All-cons (λ (read : Ask). read.failed ≡ false) read [] refl (All-nil (λ (read : Ask). read.failed ≡ false));
        number = omega arith;
      };
  numbers = (omega arith, omega arith);
}

pub returns-in-Err-Failed-clause-leaves : goal.returns-in-Err-Failed-clause-leaves
returns-in-Err-Failed-clause-leaves g c = record {
  files = c.in-Err-Failed.ensures.stays;
  cause = c.in-Err-Failed.ensures.cause (rw c.in-Err-Failed.field-0-is refl);
  count = c.in-Err-Failed.ensures.count;
  answers = record {
    passed = [];
    failing = record (ask c.args.name.now c.args.most) { failed = true };
    asked = rw c.in-Err-Failed.field-0-is at c.in-Err-Failed.ensures.asked;
    none = All-nil (λ (read : Ask). read.failed ≡ false);
    failed = refl;
    number = omega arith;
  };
  numbers = (omega arith, omega arith);
}
