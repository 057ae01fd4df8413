-- Steps, one list after the other.
use Rattle.std.proofs.Common.{◌≡◌, ◌∙◌, ℕ, ◌+◌, ◌≤◌, List, [], ◌∷◌, ◌++◌, length, map, Option, Some, None, ◌⊎◌, inl, inr, Result, Ok, Err, Bool, false, true, refl, ap, sym, subst, arith, append_assoc, length-append}
use Rattle.std.proofs.lemmas.List.{append-nil}
use Rattle.std.proofs.lemmas.List.Elements.{All-append, All-nil}
use Rattle.outside.specs.Asks.{Ask}
use Rattle.run_config.specs.declared.faults.ConfigFault.{ConfigFault}
use Rattle.run_config.specs.Tests.{first_fault}
use Rattle.nesthv_top.specs.declared.ends.LoadEnd.{LoadEnd}
use Rattle.nesthv_top.specs.declared.ends.LoadEnd.TheVariants.{Refused, ReadFault, NoMemory}
use Rattle.nesthv_top.specs.Reads.{making, reading}
use Rattle.nesthv_top.specs.Steps.{Step, asks_by, asks_in, asks_unless, fault_in, made_of, ArePassed, AreAnswered, AskedMore, EndAs, IsFailed, IsLastFailed, IsShort, ReadAs, ReadStopsAs, StopAnswers, StopAs, TakesMemory}

-- what is asked in two parts
pub asked_none : (before : Option (List Ask)) → AskedMore [] before before
asked_none (Some asks) = ap Some (sym (append-nil asks))
asked_none None = refl

pub asked_then : (xs ys : List Ask) (before between after : Option (List Ask)) → AskedMore xs before between → AskedMore ys between after → AskedMore (xs ++ ys) before after
asked_then xs ys (Some asks) between after first second = rw (second, first) (ap Some (append_assoc asks xs ys))
asked_then xs ys None between after first second = rw (second, first) refl

-- the reads of two parts, none of which failed, or the last one of the second
pub answered_none : (made : ℕ) (before : Option (List Ask)) → AreAnswered made before made before
answered_none made before = record { reads = []; asked = asked_none before; none = All-nil (λ (read : Ask). read.failed ≡ false); number = omega arith }

pub answered_then : (made made' made'' : ℕ) (before between after : Option (List Ask)) → AreAnswered made before made' between → AreAnswered made' between made'' after → AreAnswered made before made'' after
answered_then made made' made'' before between after one two = record {
  reads = one.reads ++ two.reads;
  asked = asked_then one.reads two.reads before between after one.asked two.asked;
  none = All-append (λ (read : Ask). read.failed ≡ false) one.reads two.reads one.none two.none;
  number = omega (arith, one.number, two.number, length-append one.reads two.reads);
}

last_failed_then : (made made' n : ℕ) (before between after : Option (List Ask)) → AreAnswered made before made' between → IsLastFailed made' n between after → IsLastFailed made n before after
last_failed_then made made' n before between after one two = record {
  passed = one.reads ++ two.passed;
  failing = two.failing;
  asked = rw (append_assoc one.reads two.passed (two.failing ∷ [])) (asked_then one.reads (two.passed ++ two.failing ∷ []) before between after one.asked two.asked);
  none = All-append (λ (read : Ask). read.failed ≡ false) one.reads two.passed one.none two.none;
  failed = two.failed;
  number = omega (arith, one.number, two.number, length-append one.reads two.passed);
}

pub stop_answers_then : (end : LoadEnd) (made made' made'' : ℕ) (before between after : Option (List Ask)) → AreAnswered made before made' between → StopAnswers made' between end made'' after
    → StopAnswers made before end made'' after
stop_answers_then (Refused found) made made' made'' before between after one two = answered_then made made' made'' before between after one two
stop_answers_then (ReadFault n) made made' made'' before between after one two = last_failed_then made made' n before between after one two
stop_answers_then (NoMemory n) made made' made'' before between after one two = answered_then made made' n before between after one two

-- the first fault
none_then : (one : Option ConfigFault) (rest more : List (Option ConfigFault)) (all : Option ConfigFault) → first_fault (one ∷ rest) ≡ None
    → (first_fault rest ≡ None → first_fault more ≡ all) → first_fault (one ∷ more) ≡ all
none_then None rest more all none next = next none
none_then (Some found) rest more all none next = cc

pub fault_then : (xs ys : List Step) → fault_in xs ≡ None → fault_in (xs ++ ys) ≡ fault_in ys
fault_then [] ys none = refl
fault_then (x ∷ xs) ys none =
    none_then x.fault (map (λ step. step.fault) xs) (map (λ step. step.fault) (xs ++ ys)) (fault_in ys) none (fault_then xs ys)

some_then : (one : Option ConfigFault) (rest more : List (Option ConfigFault)) (found : ConfigFault) → first_fault (one ∷ rest) ≡ Some found
    → (first_fault rest ≡ Some found → first_fault more ≡ Some found) → first_fault (one ∷ more) ≡ Some found
some_then None rest more found some next = next some
some_then (Some one) rest more found some next = some

pub fault_found : (xs ys : List Step) (found : ConfigFault) → fault_in xs ≡ Some found → fault_in (xs ++ ys) ≡ Some found
fault_found [] ys found some = cc
fault_found (x ∷ xs) ys found some =
    some_then x.fault (map (λ step. step.fault) xs) (map (λ step. step.fault) (xs ++ ys)) found some (fault_found xs ys found)

-- the reads
pub asks_then : (xs ys : List Step) → asks_in (xs ++ ys) ≡ asks_in xs ++ asks_in ys
asks_then [] ys = refl
asks_then (x ∷ xs) ys = ap (λ asks. asks_by x.ask ++ asks) (asks_then xs ys) ∙ sym (append_assoc (asks_by x.ask) (asks_in xs) (asks_in ys))

made_next : (one : Option ConfigFault) (rest : List (Option ConfigFault)) (first more all made : List Ask) → first_fault (one ∷ rest) ≡ None
    → (first_fault rest ≡ None → more ≡ all ++ made) → first ++ asks_unless one more ≡ (first ++ all) ++ made
made_next None rest first more all made none next = ap (λ asks. first ++ asks) (next none) ∙ sym (append_assoc first all made)
made_next (Some found) rest first more all made none next = cc

pub made_passed : (xs ys : List Step) → fault_in xs ≡ None → made_of (xs ++ ys) ≡ asks_in xs ++ made_of ys
made_passed [] ys none = refl
made_passed (x ∷ xs) ys none =
    made_next x.fault (map (λ step. step.fault) xs) (asks_by x.ask) (made_of (xs ++ ys)) (asks_in xs) (made_of ys) none (made_passed xs ys)

made_last : (one : Option ConfigFault) (rest : List (Option ConfigFault)) (first more made : List Ask) (found : ConfigFault) → first_fault (one ∷ rest) ≡ Some found
    → (first_fault rest ≡ Some found → more ≡ made) → first ++ asks_unless one more ≡ first ++ asks_unless one made
made_last None rest first more made found some next = ap (λ asks. first ++ asks) (next some)
made_last (Some one) rest first more made found some next = refl

pub made_found : (xs ys : List Step) (found : ConfigFault) → fault_in xs ≡ Some found → made_of (xs ++ ys) ≡ made_of xs
made_found [] ys found some = cc
made_found (x ∷ xs) ys found some =
    made_last x.fault (map (λ step. step.fault) xs) (asks_by x.ask) (made_of (xs ++ ys)) (made_of xs) found some (made_found xs ys found)

pub made_all : (xs : List Step) → fault_in xs ≡ None → made_of xs ≡ asks_in xs
made_all xs none = subst (λ steps. made_of steps ≡ asks_in xs) (append-nil xs) (made_passed xs [] none ∙ append-nil (asks_in xs))

-- passed, and passed again
pub none_passed : (made : ℕ) (before : Option (List Ask)) → ArePassed [] made before made before
none_passed made before = record { fault = refl; asked = asked_none before; number = omega arith }

pub passed_then : (xs ys : List Step) (made made' made'' : ℕ) (before between after : Option (List Ask)) → ArePassed xs made before made' between → ArePassed ys made' between made'' after
    → ArePassed (xs ++ ys) made before made'' after
passed_then xs ys made made' made'' before between after one two = record {
  fault = fault_then xs ys one.fault ∙ two.fault;
  asked = subst (λ asks. AskedMore asks before after) (sym (asks_then xs ys)) (asked_then (asks_in xs) (asks_in ys) before between after one.asked two.asked);
  number = rw (asks_then xs ys) (omega (arith, one.number, two.number, length-append (asks_in xs) (asks_in ys)));
}

-- passed, and then stopped
failed_later : (xs ys : List Step) (made made' n : ℕ) (before between after : Option (List Ask)) → ArePassed xs made before made' between → IsFailed ys made' n between after
    → IsFailed (xs ++ ys) made n before after
failed_later xs ys made made' n before between after one two =
    let failing : List Ask = record two.failing { failed = true } ∷ [] in
    record {
      passed = xs ++ two.passed;
      failing = two.failing;
      takes = two.takes;
      found = two.found;
      rest = two.rest;
      split = ap (λ steps. xs ++ steps) two.split ∙ sym (append_assoc xs two.passed (record { ask = Some two.failing; takes = two.takes; fault = two.found } ∷ two.rest));
      fault = fault_then xs two.passed one.fault ∙ two.fault;
      asked = rw (asks_then xs two.passed, append_assoc (asks_in xs) (asks_in two.passed) failing)
          (asked_then (asks_in xs) (asks_in two.passed ++ failing) before between after one.asked two.asked);
      number = rw (asks_then xs two.passed) (omega (arith, one.number, two.number, length-append (asks_in xs) (asks_in two.passed)));
    }

short_later : (xs ys : List Step) (made made' n : ℕ) (before between after : Option (List Ask)) → ArePassed xs made before made' between → IsShort ys made' n between after
    → IsShort (xs ++ ys) made n before after
short_later xs ys made made' n before between after one two = record {
  passed = xs ++ two.passed;
  rest = two.rest;
  split = ap (λ steps. xs ++ steps) two.split ∙ sym (append_assoc xs two.passed two.rest);
  fault = fault_then xs two.passed one.fault ∙ two.fault;
  asked = rw (asks_then xs two.passed) (asked_then (asks_in xs) (asks_in two.passed) before between after one.asked two.asked);
  number = rw (asks_then xs two.passed) (omega (arith, one.number, two.number, length-append (asks_in xs) (asks_in two.passed)));
  left = two.left;
}

pub stopped_later : (xs ys : List Step) (made made' : ℕ) (end : LoadEnd) (before between after : Option (List Ask)) → ArePassed xs made before made' between → StopAs ys made' between end after
    → StopAs (xs ++ ys) made before end after
stopped_later xs ys made made' (Refused found) before between after one two = (
  fault_then xs ys one.fault ∙ two.0,
  subst (λ asks. AskedMore asks before after) (sym (made_passed xs ys one.fault)) (asked_then (asks_in xs) (made_of ys) before between after one.asked two.1),
)
stopped_later xs ys made made' (ReadFault n) before between after one two = failed_later xs ys made made' n before between after one two
stopped_later xs ys made made' (NoMemory n) before between after one two = short_later xs ys made made' n before between after one two

-- what is left of steps is left of more
takes_then : (xs ys : List Step) → TakesMemory xs → TakesMemory (xs ++ ys)
takes_then [] ys takes = absurd takes
takes_then (x ∷ xs) ys takes = takes

left_then : (xs ys : List Step) → (1 ≤ length (asks_in xs)) ⊎ TakesMemory xs → (1 ≤ length (asks_in (xs ++ ys))) ⊎ TakesMemory (xs ++ ys)
left_then xs ys (inl left) = inl (rw (asks_then xs ys) (omega (arith, left, length-append (asks_in xs) (asks_in ys))))
left_then xs ys (inr takes) = inr (takes_then xs ys takes)

-- stopped, whatever comes after
pub stopped_first : (xs ys : List Step) (made : ℕ) (end : LoadEnd) (before after : Option (List Ask)) → StopAs xs made before end after → StopAs (xs ++ ys) made before end after
stopped_first xs ys made (Refused found) before after one = (
  fault_found xs ys found one.0,
  subst (λ asks. AskedMore asks before after) (sym (made_found xs ys found one.0)) one.1,
)
stopped_first xs ys made (ReadFault n) before after one =
    let failing : Step = record { ask = Some one.failing; takes = one.takes; fault = one.found } in
    record {
      passed = one.passed;
      failing = one.failing;
      takes = one.takes;
      found = one.found;
      rest = one.rest ++ ys;
      split = ap (λ steps. steps ++ ys) one.split ∙ append_assoc one.passed (failing ∷ one.rest) ys;
      fault = one.fault;
      asked = one.asked;
      number = one.number;
    }
stopped_first xs ys made (NoMemory n) before after one = record {
  passed = one.passed;
  rest = one.rest ++ ys;
  split = ap (λ steps. steps ++ ys) one.split ∙ append_assoc one.passed one.rest ys;
  fault = one.fault;
  asked = one.asked;
  number = one.number;
  left = λ some. left_then one.rest ys (one.left some);
}

-- a step of one read
pub one_passed : (a : Ask) (fault : Option ConfigFault) (made made' : ℕ) (before after : Option (List Ask)) → (made' ≡ made + 1) × AskedMore (a ∷ []) before after → fault ≡ None
    → ArePassed (reading a fault ∷ []) made before made' after
one_passed a fault made made' before after read none = record { fault = rw none refl; asked = read.1; number = read.0 }

pub one_refused : (a : Ask) (fault : Option ConfigFault) (found : ConfigFault) (made : ℕ) (before after : Option (List Ask)) → AskedMore (a ∷ []) before after → fault ≡ Some found
    → StopAs (reading a fault ∷ []) made before (Refused found) after
one_refused a fault found made before after read some = (rw some refl, rw some read)

pub one_stopped : (a : Ask) (fault : Option ConfigFault) (made : ℕ) (end : LoadEnd) (before after : Option (List Ask)) → ReadStopsAs a made before end after
    → StopAs (reading a fault ∷ []) made before end after
one_stopped a fault made (Refused found) before after read = absurd read
one_stopped a fault made (ReadFault n) before after read = record {
  passed = [];
  failing = a;
  takes = false;
  found = fault;
  rest = [];
  split = refl;
  fault = refl;
  asked = read.1;
  number = omega (arith, read.0);
}
one_stopped a fault made (NoMemory n) before after read = record {
  passed = [];
  rest = reading a fault ∷ [];
  split = refl;
  fault = refl;
  asked = read.1;
  number = omega (arith, read.0);
  left = λ some. inl (omega arith);
}

pub one_ended : {A : Type 0} (a : Ask) (made made' : ℕ) (result : Result A LoadEnd) (before after : Option (List Ask)) → ReadAs a made before result made' after
    → EndAs (reading a None ∷ []) made before result made' after
one_ended a made made' (Ok value) before after read = one_passed a None made made' before after read refl
one_ended a made made' (Err end) before after stopped = one_stopped a None made end before after stopped

-- a step that tests alone
pub step_passed : (takes : Bool) (fault : Option ConfigFault) (made : ℕ) (before : Option (List Ask)) → fault ≡ None
    → ArePassed (record { ask = None; takes = takes; fault = fault } ∷ []) made before made before
step_passed takes fault made before none = record { fault = rw none refl; asked = asked_none before; number = omega arith }

pub step_refused : (takes : Bool) (fault : Option ConfigFault) (found : ConfigFault) (made : ℕ) (before : Option (List Ask)) → fault ≡ Some found
    → StopAs (record { ask = None; takes = takes; fault = fault } ∷ []) made before (Refused found) before
step_refused takes fault found made before some = (rw some refl, rw some (asked_none before))

-- out of memory before a test that takes some
pub making_short : (fault : Option ConfigFault) (made : ℕ) (before : Option (List Ask)) → StopAs (making fault ∷ []) made before (NoMemory made) before
making_short fault made before = record {
  passed = [];
  rest = making fault ∷ [];
  split = refl;
  fault = refl;
  asked = asked_none before;
  number = omega arith;
  left = λ some. inr refl;
}
