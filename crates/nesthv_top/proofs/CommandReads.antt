-- The reads of a whole command, and what its ends say of them.
use Rattle.std.specs.List.{All}
use Rattle.std.proofs.Common.{◌≡◌, ◌∙◌, ◌⊎◌, inl, inr, ℕ, zero, suc, ◌+◌, ◌<◌, ◌≤◌, List, [], ◌∷◌, ◌++◌, Option, Some, None, Result, Ok, Err, Bool, true, false, nat_le, length, map, refl, ap, sym, subst, arith}
use Rattle.std.specs.Str.{is_utf8}
use Rattle.command_line.specs.Commands.{Command, FileCommand, OnFiles, Work}
use Rattle.std.specs.Borrow.{Bor}
use Rattle.command_line.specs.declared.commands.FileRequest.{FileRequest}
use Rattle.command_line.specs.declared.commands.FileRequest.TheVariants as request
use Rattle.command_line.specs.Seen.{file_command_seen}
use Rattle.frame_split.specs.Shares.{frames_with}
use Rattle.guest_turns.specs.Sources.{IsBootableSource, needs_of_sources}
use Rattle.outside.specs.declared.stores.Store as stores
use Rattle.outside.specs.Asks.{Ask}
use Rattle.outside.specs.Faults.{Rose}
use Rattle.outside.specs.Files.{Files}
use Rattle.run_config.specs.declared.ends.ReadEnd.{ReadEnd}
use Rattle.run_config.specs.declared.ends.ReadEnd.TheVariants as read_end
use Rattle.run_config.specs.declared.faults.ConfigFault.{ConfigFault}
use Rattle.run_config.specs.Faults as fault
use Rattle.run_config.specs.Accept.{accept}
use Rattle.run_config.specs.Configurations.{Configuration, IsWithinLimits}
use Rattle.run_config.specs.Tests.{first_fault}
use Rattle.nesthv_top.specs.declared.ends.Ended.TheVariants as ended
use Rattle.nesthv_top.specs.declared.ends.Job.{Job}
use Rattle.nesthv_top.specs.declared.ends.FilesRead.{FilesRead}
use Rattle.nesthv_top.specs.declared.ends.GuestFiles.{GuestFiles}
use Rattle.nesthv_top.specs.declared.ends.LoadEnd.{LoadEnd}
use Rattle.nesthv_top.specs.declared.ends.LoadEnd.TheVariants.{Refused, ReadFault, NoMemory}
use Rattle.nesthv_top.specs.Contents.{config_most, config_name, config_of, sources_of, stored_of}
use Rattle.nesthv_top.specs.Endings.{IsFirstRead, SaysOfReads}
use Rattle.nesthv_top.specs.Ends.{ended_by, IfFailed, Leaves}
use Rattle.nesthv_top.specs.Loads.{frames_read, source_read, HasPassed, IsAllRead, IsTested}
use Rattle.nesthv_top.specs.Plans.{planned}
use Rattle.nesthv_top.specs.Reads.{accepted_steps, ask, config_steps, fault_by, file_steps, absent_guest_fault, making, reading, report_steps, steps_for, testing, text_fault, BeginsWithConfig}
use Rattle.nesthv_top.specs.Seen.{names_of_sources, plan_seen, IsJob}
use Rattle.nesthv_top.specs.Steps.{asks_unless, fault_in, made_of, AreAnswered, ArePassed, AskedMore, IsNumberAfter, ReadStopsAs, StopAs}
use Rattle.nesthv_top.proofs.GuestReads.{all_bootable, made_names}
use Rattle.nesthv_top.proofs.StepLists.{answered_none, answered_then, asked_none, asked_then, made_all, one_passed, one_stopped, passed_then, step_passed, step_refused, stop_answers_then, stopped_first, stopped_later}
use Rattle.outside.proofs.Faults.{rose_since}

-- what reads leave of a store, one after the other
pub left_none : {X A : Type 0} (S : stores.Ghosts X) (a : A) (store : X) (made : ℕ) → Leaves S 0 (Ok a) store store made made
left_none S a store made = record {
  files = refl;
  cause = tt;
  count = omega arith;
  answers = answered_none made (S.asked store);
  numbers = (omega arith, omega arith);
}

rose_later : (end : LoadEnd) (before between after : ℕ) → before ≤ between → IfFailed end (Rose between after) → IfFailed end (Rose before after)
rose_later (Refused found) before between after le rose = tt
rose_later (ReadFault n) before between after le rose = rose_since before between after le rose
rose_later (NoMemory n) before between after le rose = tt

numbers_later : (first most all : ℕ) (end : LoadEnd) (made made' : ℕ) → made ≤ made' → made' ≤ made + first → first + most ≤ all
    → IsNumberAfter most made' end → IsNumberAfter all made end
numbers_later first most all (Refused found) made made' least few within numbers = tt
numbers_later first most all (ReadFault n) made made' least few within numbers =
    (omega (arith, least, numbers.0), omega (arith, few, within, numbers.1))
numbers_later first most all (NoMemory n) made made' least few within numbers = omega (arith, least, numbers)

-- passed, and then passed or stopped
pub left_passed : {X A B C : Type 0} (S : stores.Ghosts X) (first most all : ℕ) (a : A) (b : B) (c : C) (old mid new : X) (made made' made'' : ℕ) → first + most ≤ all
    → Leaves S first (Ok a) old mid made made' → Leaves S most (Ok b) mid new made' made'' → Leaves S all (Ok c) old new made made''
left_passed S first most all a b c old mid new made made' made'' within one two = record {
  files = two.files ∙ one.files;
  cause = tt;
  count = omega (arith, one.count, two.count);
  answers = answered_then made made' made'' (S.asked old) (S.asked mid) (S.asked new) one.answers two.answers;
  numbers = (omega (arith, one.numbers.0, two.numbers.0), omega (arith, within, one.numbers.1, two.numbers.1));
}

pub left_stopped : {X A B C : Type 0} (S : stores.Ghosts X) (first most all : ℕ) (a : A) (end : LoadEnd) (old mid new : X) (made made' made'' : ℕ) → first + most ≤ all
    → Leaves S first (Ok a) old mid made made' → Leaves {X = X} {A = B} S most (Err end) mid new made' made'' → Leaves {X = X} {A = C} S all (Err end) old new made made''
left_stopped S first most all a end old mid new made made' made'' within one two = record {
  files = two.files ∙ one.files;
  cause = rose_later end (S.faults old) (S.faults mid) (S.faults new) one.count two.cause;
  count = omega (arith, one.count, two.count);
  answers = stop_answers_then end made made' made'' (S.asked old) (S.asked mid) (S.asked new) one.answers two.answers;
  numbers = numbers_later first most all end made made' one.numbers.0 one.numbers.1 within two.numbers;
}

-- the same of another answer, of a test that refuses after it, and where memory ran out after it
pub left_as : {X A B : Type 0} (S : stores.Ghosts X) (most : ℕ) (a : A) (b : B) (old new : X) (made made' : ℕ) → Leaves S most (Ok a) old new made made' → Leaves S most (Ok b) old new made made'
left_as S most a b old new made made' left =
    record { files = left.files; cause = tt; count = left.count; answers = left.answers; numbers = left.numbers }

pub left_refused : {X A B : Type 0} (S : stores.Ghosts X) (most : ℕ) (a : A) (found : ConfigFault) (old new : X) (made made' : ℕ)
    → Leaves S most (Ok a) old new made made' → Leaves {X = X} {A = B} S most (Err (Refused found)) old new made made'
left_refused S most a found old new made made' left = record {
  files = left.files;
  cause = tt;
  count = left.count;
  answers = left.answers;
  numbers = tt;
}

pub left_short : {X A B : Type 0} (S : stores.Ghosts X) (most : ℕ) (a : A) (old new : X) (made made' : ℕ)
    → Leaves S most (Ok a) old new made made' → Leaves {X = X} {A = B} S most (Err (NoMemory made')) old new made made'
left_short S most a old new made made' left =
    record { files = left.files; cause = tt; count = left.count; answers = left.answers; numbers = left.numbers.0 }

-- stopped at once
pub left_first : {X A B : Type 0} (S : stores.Ghosts X) (most all : ℕ) (end : LoadEnd) (old new : X) (made made' : ℕ) → most ≤ all
    → Leaves {X = X} {A = A} S most (Err end) old new made made' → Leaves {X = X} {A = B} S all (Err end) old new made made'
left_first S most all end old new made made' within one =
    left_stopped {A = ℕ} S 0 most all 0 end old old new made made made' (omega (arith, within)) (left_none S 0 old made) one

-- the first read was that of the configuration
begins_more : {X : Type 0} (S : stores.Ghosts X) (command : FileCommand) (more : List Ask) (old mid new : X) → BeginsWithConfig (Some (OnFiles command)) (S.asked old) (S.asked mid)
    → AskedMore more (S.asked mid) (S.asked new) → BeginsWithConfig (Some (OnFiles command)) (S.asked old) (S.asked new)
begins_more S command more old mid new (failed, rest, begins) asked =
    (failed, rest ++ more, asked_then (record { name = config_name command; most = 65537; failed = failed } ∷ rest) more (S.asked old) (S.asked mid) (S.asked new) begins asked)

pub begins_then : {X : Type 0} (S : stores.Ghosts X) (command : FileCommand) (made made' : ℕ) (old mid new : X) → BeginsWithConfig (Some (OnFiles command)) (S.asked old) (S.asked mid)
    → AreAnswered made (S.asked mid) made' (S.asked new) → BeginsWithConfig (Some (OnFiles command)) (S.asked old) (S.asked new)
begins_then S command made made' old mid new begins answered = begins_more S command answered.reads old mid new begins answered.asked

pub later_first : {X : Type 0} (S : stores.Ghosts X) (command : FileCommand) (n : ℕ) (old new : X) → 1 ≤ n → BeginsWithConfig (Some (OnFiles command)) (S.asked old) (S.asked new)
    → IsFirstRead S (Some (OnFiles command)) (ended.NoMemory n) old new
later_first S command zero old new some begins = absurd (omega (arith, some))
later_first S command (suc n) old new some begins = begins

pub first_then : {X A : Type 0} (S : stores.Ghosts X) (command : FileCommand) (most made made' : ℕ) (end : LoadEnd) (old mid new : X)
    → BeginsWithConfig (Some (OnFiles command)) (S.asked old) (S.asked mid) → 1 ≤ made → Leaves {X = X} {A = A} S most (Err end) mid new made made'
    → IsFirstRead S (Some (OnFiles command)) (ended_by end) old new
first_then S command most made made' (Refused found) old mid new begins some left = begins_then S command made made' old mid new begins left.answers
first_then S command most made made' (ReadFault n) old mid new begins some left =
    begins_more S command (left.answers.passed ++ left.answers.failing ∷ []) old mid new begins left.answers.asked
first_then S command most made made' (NoMemory n) old mid new begins some left =
    later_first S command n old new (omega (arith, some, left.numbers)) (begins_then S command made n old mid new begins left.answers)

-- the reading of a configuration: whether its bytes are text
at_most : (n : ℕ) → nat_le n 65536 ≡ true → n ≤ 65536
at_most n e = grind (arith, e)

above : (n : ℕ) → nat_le n 65536 ≡ false → 65536 < n
above n e = grind (arith, e)

text_passes : {A : Type 0} (bytes : List ℕ) (result : Result A ReadEnd) (short utf8 : Bool) → nat_le (length bytes) 65536 ≡ short → is_utf8 bytes ≡ utf8
    → (65536 < length bytes → result ≡ Err (read_end.Refused fault.too_long)) → (length bytes ≤ 65536 → is_utf8 bytes ≡ false → result ≡ Err (read_end.Refused fault.not_toml))
    → (text_fault bytes ≡ None) ⊎ ((found : ConfigFault) × (text_fault bytes ≡ Some found) × (result ≡ Err (read_end.Refused found)))
text_passes bytes result false utf8 e e' long no_text = inr (fault.too_long, rw e refl, long (above (length bytes) e))
text_passes bytes result true false e e' long no_text = inr (fault.not_toml, rw (e, e') refl, no_text (at_most (length bytes) e) e')
text_passes bytes result true true e e' long no_text = inl (rw (e, e') refl)

abbrev TextFault : {A : Type 0} → List ℕ → Result A ReadEnd → Type 0
TextFault bytes result = (text_fault bytes ≡ None) ⊎ ((found : ConfigFault) × (text_fault bytes ≡ Some found) × (result ≡ Err (read_end.Refused found)))

pub text_tested : {A : Type 0} (bytes : List ℕ) (result : Result A ReadEnd)
    → (65536 < length bytes → result ≡ Err (read_end.Refused fault.too_long)) → (length bytes ≤ 65536 → is_utf8 bytes ≡ false → result ≡ Err (read_end.Refused fault.not_toml))
    → TextFault bytes result
text_tested bytes result long no_text = text_passes bytes result (nat_le (length bytes) 65536) (is_utf8 bytes) refl refl long no_text

no_fault_if_ok : {A : Type 0} (bytes : List ℕ) (result : Result A ReadEnd) (a : A) → TextFault bytes result → result ≡ Ok a → text_fault bytes ≡ None
no_fault_if_ok bytes result a (inl none) ok = none
no_fault_if_ok bytes result a (inr (found, is, refused)) ok = cc

no_fault_if_short : {A : Type 0} (bytes : List ℕ) (result : Result A ReadEnd) → TextFault bytes result → result ≡ Err read_end.NoMemory → text_fault bytes ≡ None
no_fault_if_short bytes result (inl none) short = none
no_fault_if_short bytes result (inr (found, is, refused)) short = cc

refused_first : {A : Type 0} (bytes : List ℕ) (result : Result A ReadEnd) (found : ConfigFault) (last : Option ConfigFault) → TextFault bytes result → result ≡ Err (read_end.Refused found)
    → first_fault (text_fault bytes ∷ Some found ∷ last ∷ []) ≡ Some found
refused_first bytes result found last (inl none) refused = rw none refl
refused_first bytes result found last (inr (other, is, refused')) refused =
    let same : other ≡ found = cc in
    rw (is, same) refl

-- it is passed, refused, or memory runs out for reading it
pub config_stopped : (f : Files) (command : FileCommand) (end : LoadEnd) (before after : Option (List Ask))
    → ReadStopsAs (ask (config_name command) config_most) 0 before end after → StopAs (config_steps f command) 0 before end after
config_stopped f command end before after stopped =
    let text = text_fault (config_of f command) in
    let accepted = accept (config_of f command) in
    stopped_first (reading (ask (config_name command) config_most) text ∷ []) (making (fault_by accepted) ∷ testing (absent_guest_fault command accepted) ∷ []) 0 end before after
    (one_stopped (ask (config_name command) config_most) text 0 end before after stopped)

-- its text was passed, and it was accepted
text_passed : {A : Type 0} (f : Files) (command : FileCommand) (c : Configuration) (result : Result A ReadEnd) (a : A) (made : ℕ) (before after : Option (List Ask))
    → TextFault (config_of f command) result → result ≡ Ok a → accept (config_of f command) ≡ Ok c
    → (made ≡ 0 + 1) × AskedMore (ask (config_name command) config_most ∷ []) before after
    → ArePassed (reading (ask (config_name command) config_most) (text_fault (config_of f command)) ∷ making (fault_by (accept (config_of f command))) ∷ []) 0 before made after
text_passed f command c result a made before after text ok accepted read =
    let found = text_fault (config_of f command) in
    let first = one_passed (ask (config_name command) config_most) found 0 made before after read (no_fault_if_ok (config_of f command) result a text ok) in
    let last = step_passed true (fault_by (accept (config_of f command))) made after (rw accepted refl) in
    passed_then (reading (ask (config_name command) config_most) found ∷ []) (making (fault_by (accept (config_of f command))) ∷ []) 0 made made before after after first last

pub config_passed : {A : Type 0} (f : Files) (command : FileCommand) (c : Configuration) (result : Result A ReadEnd) (a : A) (made : ℕ) (before after : Option (List Ask))
    → TextFault (config_of f command) result → result ≡ Ok a → accept (config_of f command) ≡ Ok c → absent_guest_fault command (Ok c) ≡ None
    → (made ≡ 0 + 1) × AskedMore (ask (config_name command) config_most ∷ []) before after → ArePassed (config_steps f command) 0 before made after
config_passed f command c result a made before after text ok accepted none read =
    let found = absent_guest_fault command (accept (config_of f command)) in
    passed_then (reading (ask (config_name command) config_most) (text_fault (config_of f command)) ∷ making (fault_by (accept (config_of f command))) ∷ []) (testing found ∷ [])
    0 made made before after after (text_passed f command c result a made before after text ok accepted read) (step_passed false found made after (rw accepted none))

pub config_lacks_guest : {A : Type 0} (f : Files) (command : FileCommand) (c : Configuration) (found : ConfigFault) (result : Result A ReadEnd) (a : A) (made : ℕ) (before after : Option (List Ask))
    → TextFault (config_of f command) result → result ≡ Ok a → accept (config_of f command) ≡ Ok c → absent_guest_fault command (Ok c) ≡ Some found
    → (made ≡ 0 + 1) × AskedMore (ask (config_name command) config_most ∷ []) before after → StopAs (config_steps f command) 0 before (Refused found) after
config_lacks_guest f command c found result a made before after text ok accepted lacks read =
    let last = absent_guest_fault command (accept (config_of f command)) in
    stopped_later (reading (ask (config_name command) config_most) (text_fault (config_of f command)) ∷ making (fault_by (accept (config_of f command))) ∷ []) (testing last ∷ [])
    0 made (Refused found) before after after (text_passed f command c result a made before after text ok accepted read) (step_refused false last found made after (rw accepted lacks))

pub config_refused : {A : Type 0} (f : Files) (command : FileCommand) (found : ConfigFault) (result : Result A ReadEnd) (before after : Option (List Ask))
    → TextFault (config_of f command) result → result ≡ Err (read_end.Refused found) → accept (config_of f command) ≡ Err found
    → AskedMore (ask (config_name command) config_most ∷ []) before after → StopAs (config_steps f command) 0 before (Refused found) after
config_refused f command found result before after text refused accepted read = (
  rw accepted (refused_first (config_of f command) result found (absent_guest_fault command (Err found)) text refused),
  subst (λ asks. AskedMore (ask (config_name command) config_most ∷ asks) before after)
      (sym (nothing_else (text_fault (config_of f command)) (fault_by (accept (config_of f command))) (absent_guest_fault command (accept (config_of f command))))) read,
)
  where
    nothing_else : (one two three : Option ConfigFault) → asks_unless one (made_of (making two ∷ testing three ∷ [])) ≡ []
    nothing_else None None None = refl
    nothing_else None None (Some found) = refl
    nothing_else None (Some found) three = refl
    nothing_else (Some found) two three = refl

pub config_short : {A : Type 0} (f : Files) (command : FileCommand) (result : Result A ReadEnd) (before after : Option (List Ask))
    → TextFault (config_of f command) result → result ≡ Err read_end.NoMemory → AskedMore (ask (config_name command) config_most ∷ []) before after
    → StopAs (config_steps f command) 0 before (NoMemory 1) after
config_short f command result before after text short read = record {
  passed = reading (ask (config_name command) config_most) (text_fault (config_of f command)) ∷ [];
  rest = making (fault_by (accept (config_of f command))) ∷ testing (absent_guest_fault command (accept (config_of f command))) ∷ [];
  split = refl;
  fault = rw (no_fault_if_short (config_of f command) result text short) refl;
  asked = read;
  number = omega arith;
  left = λ some. inr refl;
}

-- a command that names no report
abbrev NamesNoReport : FileRequest → Type 0
NamesNoReport r = ((config : Bor (List ℕ)) × (r ≡ request.Run config))
    ⊎ (((config : Bor (List ℕ)) × (r ≡ request.Check config)) ⊎ ((config : Bor (List ℕ)) × (guest : ℕ) × (r ≡ request.Save config guest)))

pub nothing_stored : (r : FileRequest) → NamesNoReport r → (report_steps (file_command_seen r) ≡ []) × ((f : Files) → stored_of f (file_command_seen r) ≡ [])
nothing_stored r (inl (config, is)) = rw is (refl, λ f. refl)
nothing_stored r (inr (inl (config, is))) = rw is (refl, λ f. refl)
nothing_stored r (inr (inr (config, guest, is))) = rw is (refl, λ f. refl)

-- the frames that the files ask for
abbrev pub file_frames : Files → Configuration → ℕ
file_frames f c = frames_with (needs_of_sources (sources_of f c.guests)) c.spare

-- the steps of a configuration that is accepted, and those of any
pub steps_are : (f : Files) (command : FileCommand) (c : Configuration) → accept (config_of f command) ≡ Ok c
    → file_steps f command ≡ config_steps f command ++ accepted_steps f command (Ok c)
unfolding file_steps
steps_are f command c accepted = ap (λ accepted. config_steps f command ++ accepted_steps f command accepted) accepted

pub steps_begin : (f : Files) (command : FileCommand) → file_steps f command ≡ config_steps f command ++ accepted_steps f command (accept (config_of f command))
unfolding file_steps
steps_begin f command = refl

-- what the ends say of the reads
pub stopped_says : {X A : Type 0} (S : stores.Ghosts X) (command : FileCommand) (end : LoadEnd) (old new : X) (made' : ℕ)
    → ((f : Files) → S.files old ≡ Some f → StopAs (file_steps f command) 0 (S.asked old) end (S.asked new))
    → IsFirstRead S (Some (OnFiles command)) (ended_by end) old new → Leaves {X = X} {A = A} S 34 (Err end) old new 0 made' → SaysOfReads S (Some (OnFiles command)) (ended_by end) old new
stopped_says S command (Refused found) old new made' ends first left = record {
  first = first;
  reads = λ f told. (ends f told).1;
  answers = (made', left.answers);
  number = tt;
  fault = λ f told. (ends f told).0;
  stays = left.files;
  count = left.count;
}
stopped_says S command (ReadFault n) old new made' ends first left = record {
  first = first;
  reads = λ f told. ends f told;
  answers = left.answers;
  number = (omega (arith, left.numbers.0), omega (arith, left.numbers.1));
  fault = λ f told. tt;
  stays = left.files;
  count = left.count;
}
stopped_says S command (NoMemory n) old new made' ends first left = record {
  first = first;
  reads = λ f told. inl (ends f told);
  answers = left.answers;
  number = tt;
  fault = λ f told. tt;
  stays = left.files;
  count = left.count;
}

pub passed_says : {X A : Type 0} (S : stores.Ghosts X) (command : FileCommand) (a : A) (old new : X) (made' : ℕ)
    → ((f : Files) → S.files old ≡ Some f → ArePassed (file_steps f command) 0 (S.asked old) made' (S.asked new))
    → IsFirstRead S (Some (OnFiles command)) ended.Done old new → Leaves S 34 (Ok a) old new 0 made' → SaysOfReads S (Some (OnFiles command)) ended.Done old new
passed_says S command a old new made' passed first left = record {
  first = first;
  reads = λ f told.
      let all = passed f told in
      subst (λ asks. AskedMore asks (S.asked old) (S.asked new)) (sym (made_all (file_steps f command) all.fault)) all.asked;
  answers = (made', left.answers);
  number = tt;
  fault = λ f told. tt;
  stays = left.files;
  count = left.count;
}

-- memory ran out after all reads
pub wanting_says : {X : Type 0} (S : stores.Ghosts X) (command : FileCommand) (made : ℕ) (old new : X) → HasPassed S command made old new
    → SaysOfReads S (Some (OnFiles command)) ended.Done old new → SaysOfReads S (Some (OnFiles command)) (ended.NoMemory made) old new
wanting_says S command made old new passed says = record {
  first = later_first S command made old new passed.some says.first;
  reads = λ f told. inr (passed.steps f told);
  answers = passed.answered;
  number = tt;
  fault = λ f told. tt;
  stays = says.stays;
  count = says.count;
}

-- no read was made, as memory ran out before
pub nothing_read : {X : Type 0} (S : stores.Ghosts X) (command : Option Command) (store : X) → SaysOfReads S command (ended.NoMemory 0) store store
nothing_read S command store = record {
  first = asked_none (S.asked store);
  reads = λ f told. inl (record {
    passed = [];
    rest = steps_for f command;
    split = refl;
    fault = refl;
    asked = asked_none (S.asked store);
    number = omega arith;
    left = λ two. absurd (omega (arith, two));
  });
  answers = answered_none 0 (S.asked store);
  number = tt;
  fault = λ f told. tt;
  stays = refl;
  count = omega arith;
}

-- words that are not a command read nothing
pub no_command_says : {X : Type 0} (S : stores.Ghosts X) (command : Option Command) (store : X) → command ≡ None → SaysOfReads S command ended.NoCommand store store
no_command_says S command store none = rw none (record {
  first = refl;
  reads = λ f told. asked_none (S.asked store);
  answers = (0, answered_none 0 (S.asked store));
  number = tt;
  fault = λ f told. tt;
  stays = refl;
  count = omega arith;
})

-- a work reads nothing
pub work_done : {X : Type 0} (S : stores.Ghosts X) (seed size : ℕ) (store : X) → SaysOfReads S (Some (Work seed size)) ended.Done store store
work_done S seed size store = record {
  first = asked_none (S.asked store);
  reads = λ f told. asked_none (S.asked store);
  answers = (0, answered_none 0 (S.asked store));
  number = tt;
  fault = λ f told. tt;
  stays = refl;
  count = omega arith;
}

pub work_unwritten : {X : Type 0} (S : stores.Ghosts X) (seed size : ℕ) (store : X) → SaysOfReads S (Some (Work seed size)) ended.WriteFault store store
work_unwritten S seed size store = record {
  first = asked_none (S.asked store);
  reads = λ f told. asked_none (S.asked store);
  answers = (0, answered_none 0 (S.asked store));
  number = tt;
  fault = λ f told. tt;
  stays = refl;
  count = omega arith;
}

-- the frames, the plan and the job of what was read
pub frames_are : (f : Files) (c : Configuration) (read : List GuestFiles) (spare : ℕ) → map source_read read ≡ sources_of f c.guests → spare ≡ c.spare → frames_read read spare ≡ file_frames f c
frames_are f c read spare made is = ap (λ sources. frames_with (needs_of_sources sources) spare) made ∙ ap (λ n. frames_with (needs_of_sources (sources_of f c.guests)) n) is

pub plan_read : (f : Files) (command : FileCommand) (job : Job) (read : FilesRead) → accept (config_of f command) ≡ Ok job.config → IsAllRead f command job.config read
    → fault_in (file_steps f command) ≡ None → job.sources.items ≡ map source_read read.guests.items → planned f command ≡ Some (plan_seen job)
unfolding planned
plan_read f command job read accepted is none sources =
    let made : job.sources.items ≡ sources_of f job.config.guests = sources ∙ is.guests in
    rw (none, accepted) (rw made refl)

pub job_read : (job : Job) (read : FilesRead) → IsWithinLimits job.config → IsTested job.config read → job.sources.items ≡ map source_read read.guests.items → job.frames ≡ read.frames → IsJob job
job_read job read limits tested sources frames = record {
  limits = limits;
  names = ap names_of_sources sources ∙ made_names read.guests.items ∙ tested.guests.names;
  sources = subst (All IsBootableSource) (sym sources) (all_bootable read.guests.items tested.guests.fitting);
  frames = rw (frames, sources) tested.frames;
  few = rw frames tested.few;
}
