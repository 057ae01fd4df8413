-- What has been read: one part after the other, and one read or one test alone.
use Rattle.std.proofs.Common.{◌≡◌, ◌∙◌, ℕ, ◌+◌, ◌≤◌, List, [], ◌∷◌, ◌++◌, Option, Some, None, Result, Ok, Err, IfOk, Bool, sym, subst, arith}
use Rattle.outside.specs.declared.stores.Store as stores
use Rattle.outside.specs.Asks.{Ask}
use Rattle.outside.specs.Files.{Files}
use Rattle.run_config.specs.declared.faults.ConfigFault.{ConfigFault}
use Rattle.nesthv_top.specs.declared.ends.LoadEnd.{LoadEnd}
use Rattle.nesthv_top.specs.declared.ends.LoadEnd.TheVariants.{Refused, NoMemory}
use Rattle.nesthv_top.specs.Ends.{HasRead, Leaves}
use Rattle.nesthv_top.specs.Reads.{making, reading}
use Rattle.nesthv_top.specs.Steps.{Step, ArePassed, ReadAs, ReadStopsAs, StopAs}
use Rattle.nesthv_top.proofs.CommandReads.{left_as, left_first, left_none, left_passed, left_refused, left_short, left_stopped}
use Rattle.nesthv_top.proofs.StepLists.{making_short, none_passed, one_ended, one_passed, one_refused, one_stopped, passed_then, step_passed, step_refused, stopped_first, stopped_later}

-- passed, and then passed
pub read_passed : {X A B C : Type 0} (S : stores.Ghosts X) (one two steps : Files → List Step) (m n most : ℕ) (P : Files → A → Type 0) (Q : Files → B → Type 0) (R : Files → C → Type 0)
    (a : A) (b : B) (c : C) (old mid new : X) (made made' made'' : ℕ) → m + n ≤ most
    → ((f : Files) → S.files old ≡ Some f → steps f ≡ one f ++ two f) → ((f : Files) → S.files old ≡ Some f → R f c)
    → HasRead S one m P (Ok a) old mid made made' → HasRead S two n Q (Ok b) mid new made' made'' → HasRead S steps most R (Ok c) old new made made''
read_passed S one two steps m n most P Q R a b c old mid new made made' made'' within split says first second = record {
  ends = λ f told. subst (λ all. ArePassed all made (S.asked old) made'' (S.asked new)) (sym (split f told))
      (passed_then (one f) (two f) made made' made'' (S.asked old) (S.asked mid) (S.asked new) (first.ends f told) (second.ends f (first.leaves.files ∙ told)));
  says = says;
  leaves = left_passed S m n most a b c old mid new made made' made'' within first.leaves second.leaves;
}

-- passed, and then stopped
pub read_stopped : {X A B C : Type 0} (S : stores.Ghosts X) (one two steps : Files → List Step) (m n most : ℕ) (P : Files → A → Type 0) (Q : Files → B → Type 0) (R : Files → C → Type 0)
    (a : A) (end : LoadEnd) (old mid new : X) (made made' made'' : ℕ) → m + n ≤ most → ((f : Files) → S.files old ≡ Some f → steps f ≡ one f ++ two f)
    → HasRead S one m P (Ok a) old mid made made' → HasRead S two n Q (Err end) mid new made' made'' → HasRead S steps most R (Err end) old new made made''
read_stopped S one two steps m n most P Q R a end old mid new made made' made'' within split first second = record {
  ends = λ f told. subst (λ all. StopAs all made (S.asked old) end (S.asked new)) (sym (split f told))
      (stopped_later (one f) (two f) made made' end (S.asked old) (S.asked mid) (S.asked new) (first.ends f told) (second.ends f (first.leaves.files ∙ told)));
  says = λ f told. tt;
  leaves = left_stopped S m n most a end old mid new made made' made'' within first.leaves second.leaves;
}

-- stopped, whatever comes after
pub read_first : {X A C : Type 0} (S : stores.Ghosts X) (one rest steps : Files → List Step) (m most : ℕ) (P : Files → A → Type 0) (R : Files → C → Type 0)
    (end : LoadEnd) (old new : X) (made made' : ℕ) → m ≤ most → ((f : Files) → S.files old ≡ Some f → steps f ≡ one f ++ rest f)
    → HasRead S one m P (Err end) old new made made' → HasRead S steps most R (Err end) old new made made'
read_first S one rest steps m most P R end old new made made' within split first = record {
  ends = λ f told. subst (λ all. StopAs all made (S.asked old) end (S.asked new)) (sym (split f told))
      (stopped_first (one f) (rest f) made end (S.asked old) (S.asked new) (first.ends f told));
  says = λ f told. tt;
  leaves = left_first S m most end old new made made' within first.leaves;
}

-- no step
pub read_none : {X C : Type 0} (S : stores.Ghosts X) (steps : Files → List Step) (most : ℕ) (R : Files → C → Type 0) (c : C) (store : X) (made : ℕ)
    → ((f : Files) → S.files store ≡ Some f → steps f ≡ []) → ((f : Files) → S.files store ≡ Some f → R f c) → HasRead S steps most R (Ok c) store store made made
read_none S steps most R c store made none says = record {
  ends = λ f told. subst (λ all. ArePassed all made (S.asked store) made (S.asked store)) (sym (none f told)) (none_passed made (S.asked store));
  says = says;
  leaves = left_passed S 0 0 most c c c store store store made made made (omega arith) (left_none S c store made) (left_none S c store made);
}

-- a test alone, which may take memory
pub test_read : {X C : Type 0} (S : stores.Ghosts X) (takes : Bool) (fault : Files → Option ConfigFault) (R : Files → C → Type 0) (c : C) (store : X) (made : ℕ)
    → ((f : Files) → S.files store ≡ Some f → fault f ≡ None) → ((f : Files) → S.files store ≡ Some f → R f c)
    → HasRead S (λ f. record { ask = None; takes = takes; fault = fault f } ∷ []) 0 R (Ok c) store store made made
test_read S takes fault R c store made none says = record {
  ends = λ f told. step_passed takes (fault f) made (S.asked store) (none f told);
  says = says;
  leaves = left_none S c store made;
}

pub test_refused : {X C : Type 0} (S : stores.Ghosts X) (takes : Bool) (fault : Files → Option ConfigFault) (R : Files → C → Type 0) (found : ConfigFault) (store : X) (made : ℕ)
    → ((f : Files) → S.files store ≡ Some f → fault f ≡ Some found)
    → HasRead S (λ f. record { ask = None; takes = takes; fault = fault f } ∷ []) 0 R (Err (Refused found)) store store made made
test_refused S takes fault R found store made some = record {
  ends = λ f told. step_refused takes (fault f) found made (S.asked store) (some f told);
  says = λ f told. tt;
  leaves = left_refused {A = ℕ} S 0 0 found store store made made (left_none S 0 store made);
}

pub test_short : {X C : Type 0} (S : stores.Ghosts X) (fault : Files → Option ConfigFault) (R : Files → C → Type 0) (store : X) (made : ℕ)
    → HasRead S (λ f. making (fault f) ∷ []) 0 R (Err (NoMemory made)) store store made made
test_short S fault R store made = record {
  ends = λ f told. making_short (fault f) made (S.asked store);
  says = λ f told. tt;
  leaves = left_short {A = ℕ} S 0 0 store store made made (left_none S 0 store made);
}

-- a read with its test
pub ask_read : {X A C : Type 0} (S : stores.Ghosts X) (asked : Ask) (fault : Files → Option ConfigFault) (R : Files → C → Type 0) (a : A) (c : C) (old new : X) (made made' : ℕ)
    → ReadAs {A = A} asked made (S.asked old) (Ok a) made' (S.asked new) → Leaves S 1 (Ok a) old new made made'
    → ((f : Files) → S.files old ≡ Some f → fault f ≡ None) → ((f : Files) → S.files old ≡ Some f → R f c)
    → HasRead S (λ f. reading asked (fault f) ∷ []) 1 R (Ok c) old new made made'
ask_read S asked fault R a c old new made made' read left none says = record {
  ends = λ f told. one_passed asked (fault f) made made' (S.asked old) (S.asked new) read (none f told);
  says = says;
  leaves = left_as S 1 a c old new made made' left;
}

pub ask_refused : {X A C : Type 0} (S : stores.Ghosts X) (asked : Ask) (fault : Files → Option ConfigFault) (R : Files → C → Type 0) (a : A) (found : ConfigFault) (old new : X) (made made' : ℕ)
    → ReadAs {A = A} asked made (S.asked old) (Ok a) made' (S.asked new) → Leaves S 1 (Ok a) old new made made'
    → ((f : Files) → S.files old ≡ Some f → fault f ≡ Some found) → HasRead S (λ f. reading asked (fault f) ∷ []) 1 R (Err (Refused found)) old new made made'
ask_refused S asked fault R a found old new made made' read left some = record {
  ends = λ f told. one_refused asked (fault f) found made (S.asked old) (S.asked new) read.1 (some f told);
  says = λ f told. tt;
  leaves = left_refused S 1 a found old new made made' left;
}

pub ask_stopped : {X A C : Type 0} (S : stores.Ghosts X) (asked : Ask) (fault : Files → Option ConfigFault) (R : Files → C → Type 0) (end : LoadEnd) (old new : X) (made made' : ℕ)
    → ReadStopsAs asked made (S.asked old) end (S.asked new) → Leaves {X = X} {A = A} S 1 (Err end) old new made made'
    → HasRead S (λ f. reading asked (fault f) ∷ []) 1 R (Err end) old new made made'
ask_stopped {A = A} S asked fault R end old new made made' stopped left = record {
  ends = λ f told. one_stopped asked (fault f) made end (S.asked old) (S.asked new) stopped;
  says = λ f told. tt;
  leaves = left_first {A = A} S 1 1 end old new made made' (omega arith) left;
}

-- a read alone, however it ends
pub ask_ended : {X A : Type 0} (S : stores.Ghosts X) (asked : Ask) (R : Files → A → Type 0) (result : Result A LoadEnd) (old new : X) (made made' : ℕ)
    → ReadAs asked made (S.asked old) result made' (S.asked new) → ((f : Files) → S.files old ≡ Some f → IfOk result (R f)) → Leaves S 1 result old new made made'
    → HasRead S (λ f. reading asked None ∷ []) 1 R result old new made made'
ask_ended S asked R result old new made made' read says left =
    record { ends = λ f told. one_ended asked made made' result (S.asked old) (S.asked new) read; says = says; leaves = left }
