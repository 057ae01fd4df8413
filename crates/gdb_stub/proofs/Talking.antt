-- A talk, transfer by transfer.
use Rattle.std.proofs.Common.{◌≡◌, ◌∙◌, ℕ, List, [], ◌∷◌, ◌++◌, drop, take, refl, ap, sym, subst, Option, Some, None, Result, Ok, Err, IsErrOf, option_map, Bool, true, false, not, if◌then◌else◌}
use Rattle.std.proofs.lemmas.List.{append_assoc, append-nil, take-append-drop}
use Rattle.std.specs.Io.KnownBytes.{Consumes, IsAtEnd}
use Rattle.gdb_packets.specs.declared.messages.Message.{Message}
use Rattle.gdb_packets.specs.declared.messages.Received.{Received}
use Rattle.gdb_packets.specs.Frames.{message_in}
use Rattle.gdb_packets.specs.Streams.{behind, messages_in}
use Rattle.gdb_packets.proofs.Streams.{messages_heard, messages_over}
use Rattle.outside.specs.Connections.{came_in, sent_in, Sends}
use Rattle.outside.specs.Pieces.{Appends}
use Rattle.outside.specs.declared.connections.Connection as connections
use Rattle.outside.specs.declared.connections.Transfer.{Transfer}
use Rattle.outside.specs.declared.connections.Transfer.TheVariants.{Came, Sent}
use Rattle.outside.proofs.Pieces.{appends_then}
use Rattle.outside.proofs.Transfers.{came_append, sent_append}
use Rattle.gdb_stub.specs.Sessions.{Recording}
use Rattle.gdb_stub.specs.Talks.{after_message, all_said, is_last_message, is_whole, said_to, said_to_all, AreSent, HasCome, HasGoneOn, HasHeard, HasSaid, HasTalked, IsFront, IsPart, IsPrompt, OnlySends, TalkedTo, TalkState}
use Rattle.gdb_stub.specs.declared.talks.TalkEnd.{TalkEnd}
use Rattle.gdb_stub.specs.declared.talks.TalkEnd.TheVariants.{ReadFault, WriteFault, NoMemory}

-- what is said to a message and those behind it
said_next : (r : Recording) (t : TalkState) (message : Message) (rest : List Message)
    → said_to_all r t (message ∷ rest) ≡ said_to r t message ++ (if is_last_message message then [] else said_to_all r (after_message r t message) rest)
unfolding said_to_all
said_next r t message rest = refl

said_none : (r : Recording) (t : TalkState) → said_to_all r t [] ≡ []
unfolding said_to_all
said_none r t = refl

not_true : (b : Bool) → true ≡ not b → b ≡ false
not_true true is = cc
not_true false is = refl

not_false : (b : Bool) → false ≡ not b → b ≡ true
not_false true is = refl
not_false false is = cc

-- known bytes of which none is taken, and those of two reads
consumes_none : (known : Option (List ℕ)) → Consumes known known []
consumes_none None = tt
consumes_none (Some xs) = refl

consumes_kept : (old new : Option (List ℕ)) → new ≡ old → Consumes old new []
consumes_kept old new is = subst (λ (known : Option (List ℕ)). Consumes old known []) (sym is) (consumes_none old)

consumes_then : (a b c : Option (List ℕ)) (xs ys : List ℕ) → Consumes a b xs → Consumes b c ys → Consumes a c (xs ++ ys)
consumes_then None b c xs ys first next = tt
consumes_then (Some known) None c xs ys first next = absurd first
consumes_then (Some known) (Some bs) None xs ys first next = absurd next
consumes_then (Some known) (Some bs) (Some cs) xs ys first next =
    first ∙ ap (λ (rest : List ℕ). xs ++ rest) next ∙ sym (append_assoc xs ys cs)

consumes_some : (a b : Option (List ℕ)) (xs left : List ℕ) → a ≡ Some left → Consumes a b xs → (rest : List ℕ) × (b ≡ Some rest) × (left ≡ xs ++ rest)
consumes_some None b xs left is gone = absurd cc
consumes_some (Some known) None xs left is gone = absurd gone
consumes_some (Some known) (Some bs) xs left is gone = let same : known ≡ left = cc in (bs, refl, sym same ∙ gone)

consumes_all : (a b : Option (List ℕ)) (left : List ℕ) → a ≡ Some left → Consumes a b [] → IsAtEnd b → left ≡ []
consumes_all None b left is gone over = absurd cc
consumes_all (Some known) None left is gone over = absurd gone
consumes_all (Some known) (Some bs) left is gone over = let same : known ≡ left = cc in sym same ∙ gone ∙ over

-- nothing is transferred
appends_none : {S A : Type 0} (made : S → List A → Type 0) (s : S) → Appends made s s []
appends_none made s = λ before is. subst (λ items. made s items) (sym (append-nil before)) is

-- parts of texts
part_after : (all : Bool) (first part text : List ℕ) → IsPart all part text → IsPart all (first ++ part) (first ++ text)
part_after true first part text is = ap (λ (rest : List ℕ). first ++ rest) is
part_after false first part text (rest, is) = (rest, append_assoc first part rest ∙ ap (λ (rest : List ℕ). first ++ rest) is)

part_front : (all : Bool) (part text more : List ℕ) → all ≡ false → IsPart all part text → IsFront part (text ++ more)
part_front true part text more is holds = absurd cc
part_front false part text more is (rest, holds) =
    (rest ++ more, sym (append_assoc part rest more) ∙ ap (λ (front : List ℕ). front ++ more) holds)

module _ {C : Type 0} (K : connections.Ghosts C) where
  -- a text that is sent
  pub says_sent : (old new : C) (all : Bool) (piece text : List ℕ) → Sends K.made old new all piece → K.coming new ≡ K.coming old → piece ≡ text
      → HasSaid K all text old new
  says_sent old new true piece text sends kept is = record {
    transfers = Sent piece ∷ [];
    made = sends;
    kept = kept;
    silent = tt;
    said = append-nil piece ∙ is;
  }
  says_sent old new false piece text (n, within, sends) kept is = record {
    transfers = Sent (take n piece) ∷ [];
    made = sends;
    kept = kept;
    silent = tt;
    said = (drop n piece, ap (λ (front : List ℕ). front ++ drop n piece) (append-nil (take n piece)) ∙ take-append-drop n piece ∙ is);
  }

  -- or of which nothing is
  pub says_none : (c : C) (text : List ℕ) → HasSaid K false text c c
  says_none c text = record { transfers = []; made = appends_none K.made c; kept = refl; silent = tt; said = (text, refl) }

  pub says_empty : (c : C) → HasSaid K true [] c c
  says_empty c = record { transfers = []; made = appends_none K.made c; kept = refl; silent = tt; said = refl }

-- transfers without a read
module _ (r : Recording) (t : TalkState) where
  prompt_sent : (come said : List ℕ) (transfers : List Transfer) → AreSent transfers → IsPrompt r t come said transfers
  prompt_sent come said [] silent = tt
  prompt_sent come said (Came piece ∷ rest) silent = absurd silent
  prompt_sent come said (Sent piece ∷ rest) silent = prompt_sent come (said ++ piece) rest silent

  prompt_then : (come said : List ℕ) (a b : List Transfer) → IsPrompt r t come said a → IsPrompt r t (come ++ came_in a) (said ++ sent_in a) b
      → IsPrompt r t come said (a ++ b)
  prompt_then come said [] b first next =
      subst (λ (text : List ℕ). IsPrompt r t come text b) (append-nil said)
      (subst (λ (bytes : List ℕ). IsPrompt r t bytes (said ++ []) b) (append-nil come) next)
  prompt_then come said (Came piece ∷ a) b (answered, first) next = (
    answered,
    prompt_then (come ++ piece) said a b first
        (subst (λ (bytes : List ℕ). IsPrompt r t bytes (said ++ sent_in a) b) (sym (append_assoc come piece (came_in a))) next),
  )
  prompt_then come said (Sent piece ∷ a) b first next =
      prompt_then come (said ++ piece) a b first
      (subst (λ (text : List ℕ). IsPrompt r t (come ++ came_in a) text b) (sym (append_assoc said piece (sent_in a))) next)

no_came : (transfers : List Transfer) → AreSent transfers → came_in transfers ≡ []
no_came [] silent = refl
no_came (Came piece ∷ rest) silent = absurd silent
no_came (Sent piece ∷ rest) silent = no_came rest silent

-- transfers that are prompt from a part of a talk on are so from its start on
prompt_moved : (r : Recording) (t t' : TalkState) (front before come' more said : List ℕ) (b : List Transfer)
    → ((later : List ℕ) → all_said r t (front ++ later) ≡ before ++ all_said r t' (come' ++ later))
    → IsPrompt r t' (come' ++ more) said b → IsPrompt r t (front ++ more) (before ++ said) b
prompt_moved r t t' front before come' more said [] rest prompt = tt
prompt_moved r t t' front before come' more said (Came piece ∷ b) rest (answered, prompt) = (
  ap (λ (text : List ℕ). before ++ text) answered ∙ sym (rest more),
  subst (λ (bytes : List ℕ). IsPrompt r t bytes (before ++ said) b) (sym (append_assoc front more piece))
      (prompt_moved r t t' front before come' (more ++ piece) said b rest
      (subst (λ (bytes : List ℕ). IsPrompt r t' bytes said b) (append_assoc come' more piece) prompt)),
)
prompt_moved r t t' front before come' more said (Sent piece ∷ b) rest prompt =
    subst (λ (text : List ℕ). IsPrompt r t (front ++ more) text b) (sym (append_assoc before said piece))
    (prompt_moved r t t' front before come' more (said ++ piece) b rest prompt)

module _ {C : Type 0} (K : connections.Ghosts C) (r : Recording) (t : TalkState) where
  -- a message that has come whole, and what comes later
  next_said : (come : List ℕ) (received : Received) (later : List ℕ) → message_in come ≡ Some received
      → all_said r t (come ++ later) ≡ said_to r t received.message
      ++ (if is_last_message received.message then [] else all_said r (after_message r t received.message) (drop received.length come ++ later))
  next_said come received later is = ap (λ (all : List Message). said_to_all r t all) (messages_heard come later received is)
      ∙ said_next r t received.message (messages_in (drop received.length come ++ later))

  -- gdb stays after a message
  heard_stays : (old new : C) (come : List ℕ) (received : Received) (after : TalkState)
      → message_in come ≡ Some received → is_last_message received.message ≡ false → after ≡ after_message r t received.message
      → HasSaid K true (said_to r t received.message) old new
      → TalkedTo K r t after come (drop received.length come) old new
  heard_stays old new come received after is stays goes says =
      let none = no_came says.transfers says.silent in
      record {
        transfers = says.transfers;
        made = says.made;
        comes = subst (λ (bytes : List ℕ). Consumes (K.coming old) (K.coming new) bytes) (sym none) (consumes_kept (K.coming old) (K.coming new) says.kept);
        prompt = prompt_sent r t come [] says.transfers says.silent;
        rest = λ later. ap (λ (bytes : List ℕ). all_said r t (come ++ bytes ++ later)) none
            ∙ ap (λ (front : List ℕ). all_said r t (front ++ later)) (append-nil come)
            ∙ next_said come received later is ∙ rw (stays, goes, says.said) refl;
      }

  -- or it has left
  heard_last : (old new : C) (come : List ℕ) (received : Received) → message_in come ≡ Some received → is_last_message received.message ≡ true
      → HasSaid K true (said_to r t received.message) old new → HasTalked K r t come None old new
  heard_last old new come received is ends says =
      let none = no_came says.transfers says.silent in
      let all : (later : List ℕ) → sent_in says.transfers ≡ all_said r t (come ++ later) =
      λ later. says.said ∙ sym (next_said come received later is ∙ rw (ends) (append-nil (said_to r t received.message))) in
      record {
        transfers = says.transfers;
        made = says.made;
        comes = subst (λ (bytes : List ℕ). Consumes (K.coming old) (K.coming new) bytes) (sym none) (consumes_kept (K.coming old) (K.coming new) says.kept);
        prompt = prompt_sent r t come [] says.transfers says.silent;
        said = all (came_in says.transfers);
        done = λ none left told. all left;
      }

  -- or not all could be said
  heard_cut : (old new : C) (come : List ℕ) (received : Received) (end : TalkEnd) → message_in come ≡ Some received → is_whole (Some end) ≡ false
      → HasSaid K false (said_to r t received.message) old new → HasTalked K r t come (Some end) old new
  heard_cut old new come received end is cut says =
      let none = no_came says.transfers says.silent in
      record {
        transfers = says.transfers;
        made = says.made;
        comes = subst (λ (bytes : List ℕ). Consumes (K.coming old) (K.coming new) bytes) (sym none) (consumes_kept (K.coming old) (K.coming new) says.kept);
        prompt = prompt_sent r t come [] says.transfers says.silent;
        said = rw (cut, next_said come received (came_in says.transfers) is)
            (part_front false (sent_in says.transfers) (said_to r t received.message)
            (if is_last_message received.message then [] else all_said r (after_message r t received.message) (drop received.length come ++ came_in says.transfers)) refl says.said);
        done = λ none. absurd cc;
      }

  heard_by : (old new : C) (come : List ℕ) (received : Received) (after : TalkState) (result : Result Bool TalkEnd)
      → message_in come ≡ Some received → HasHeard K r t after received.message result old new → ¬ IsErrOf result ReadFault
      → HasGoneOn K r t after come (drop received.length come) result old new
  heard_by old new come received after (Ok true) is hears no_read = heard_stays old new come received after is (not_true _ hears.last) hears.after hears.said
  heard_by old new come received after (Ok false) is hears no_read = heard_last old new come received is (not_false _ hears.last) hears.said
  heard_by old new come received after (Err ReadFault) is hears no_read = absurd (no_read refl)
  heard_by old new come received after (Err WriteFault) is hears no_read = heard_cut old new come received WriteFault is refl hears.said
  heard_by old new come received after (Err NoMemory) is hears no_read = heard_cut old new come received NoMemory is refl hears.said

  -- so what answering the next message leaves of the talk
  pub heard : (old new : C) (come come' : List ℕ) (message : Message) (after : TalkState) (result : Result Bool TalkEnd)
      → Some message ≡ option_map (λ (received : Received). received.message) (message_in come) → come' ≡ behind (message_in come) come
      → HasHeard K r t after message result old new → OnlySends K result old new
      → HasGoneOn K r t after come come' result old new
  heard old new come come' message after result found rest hears sends = by (message_in come) refl found rest
    where
      by : (o : Option Received) → message_in come ≡ o → Some message ≡ option_map (λ (received : Received). received.message) o → come' ≡ behind o come
          → HasGoneOn K r t after come come' result old new
      by None is found rest = absurd cc
      by (Some received) is found rest =
          let same : message ≡ received.message = cc in
          subst (λ (bytes : List ℕ). HasGoneOn K r t after come bytes result old new) (sym rest)
          (heard_by old new come received after result is
          (subst (λ (m : Message). HasHeard K r t after m result old new) same hears) sends.no_read)

  -- nothing is to be said to bytes that hold no message
  none_said : (come : List ℕ) → message_in come ≡ None → all_said r t come ≡ []
  none_said come nothing = ap (λ (all : List Message). said_to_all r t all) (messages_over come nothing) ∙ said_none r t

  none_more : (come : List ℕ) → message_in come ≡ None → all_said r t (come ++ []) ≡ []
  none_more come nothing = ap (λ (bytes : List ℕ). all_said r t bytes) (append-nil come) ∙ none_said come nothing

  -- what a read leaves of it
  came_by : (old new : C) (come come' : List ℕ) (result : Result Bool TalkEnd) → message_in come ≡ None → HasCome K come come' result old new
      → HasGoneOn K r t t come come' result old new
  came_by old new come come' (Ok true) nothing (piece, more, made, comes) = record {
    transfers = Came piece ∷ [];
    made = made;
    comes = subst (λ (bytes : List ℕ). Consumes (K.coming old) (K.coming new) bytes) (sym (append-nil piece)) comes;
    prompt = (sym (none_said come nothing), tt);
    rest = λ later. ap (λ (bytes : List ℕ). all_said r t (come ++ bytes ++ later)) (append-nil piece)
        ∙ ap (λ (bytes : List ℕ). all_said r t (bytes ++ later)) (sym more);
  }
  came_by old new come come' (Ok false) nothing (made, comes, over) = record {
    transfers = Came [] ∷ [];
    made = made;
    comes = comes;
    prompt = (sym (none_said come nothing), tt);
    said = sym (none_more come nothing);
    done = λ none left told. sym (ap (λ (bytes : List ℕ). all_said r t (come ++ bytes)) (consumes_all (K.coming old) (K.coming new) left told comes over)
        ∙ none_more come nothing);
  }
  came_by old new come come' (Err ReadFault) nothing (made, kept) = record {
    transfers = [];
    made = made;
    comes = consumes_kept (K.coming old) (K.coming new) kept;
    prompt = tt;
    said = sym (none_more come nothing);
    done = λ none. absurd cc;
  }
  came_by old new come come' (Err WriteFault) nothing came = absurd came
  came_by old new come come' (Err NoMemory) nothing (piece, made, comes) = record {
    transfers = Came piece ∷ [];
    made = made;
    comes = subst (λ (bytes : List ℕ). Consumes (K.coming old) (K.coming new) bytes) (sym (append-nil piece)) comes;
    prompt = (sym (none_said come nothing), tt);
    said = (all_said r t (come ++ (piece ++ [])), refl);
    done = λ none. absurd cc;
  }

  pub came : (old new : C) (come mid come' : List ℕ) (result : Result Bool TalkEnd)
      → None ≡ option_map (λ (received : Received). received.message) (message_in come) → mid ≡ behind (message_in come) come
      → HasCome K mid come' result old new → HasGoneOn K r t t come come' result old new
  came old new come mid come' result none rest has = by (message_in come) refl none rest
    where
      by : (o : Option Received) → message_in come ≡ o → None ≡ option_map (λ (received : Received). received.message) o → mid ≡ behind o come
          → HasGoneOn K r t t come come' result old new
      by None is none rest = came_by old new come come' result is (subst (λ (bytes : List ℕ). HasCome K bytes come' result old new) rest has)
      by (Some received) is none rest = absurd cc

  -- memory ran out before anything was transferred
  pub stopped : (c : C) (come : List ℕ) → HasTalked K r t come (Some NoMemory) c c
  stopped c come = record {
    transfers = [];
    made = appends_none K.made c;
    comes = consumes_none (K.coming c);
    prompt = tt;
    said = (all_said r t (come ++ []), refl);
    done = λ none. absurd cc;
  }

  -- no part of a talk yet
  pub begins : (c : C) (come : List ℕ) → TalkedTo K r t t come come c c
  begins c come = record {
    transfers = [];
    made = appends_none K.made c;
    comes = consumes_none (K.coming c);
    prompt = tt;
    rest = λ later. ap (λ (front : List ℕ). all_said r t (front ++ later)) (append-nil come);
  }

  -- two parts
  module _ (old mid new : C) (t' : TalkState) (come come' : List ℕ) where
    prompt_on : (first : TalkedTo K r t t' come come' old mid) (b : List Transfer) → IsPrompt r t' come' [] b → IsPrompt r t come [] (first.transfers ++ b)
    prompt_on first b next =
        let bytes = came_in first.transfers in
        prompt_then r t come [] first.transfers b first.prompt
        (subst (λ (front : List ℕ). IsPrompt r t front (sent_in first.transfers) b) (append-nil (come ++ bytes))
        (subst (λ (text : List ℕ). IsPrompt r t ((come ++ bytes) ++ []) text b) (append-nil (sent_in first.transfers))
        (prompt_moved r t t' (come ++ bytes) (sent_in first.transfers) come' [] [] b
        first.rest
        (subst (λ (front : List ℕ). IsPrompt r t' front [] b) (sym (append-nil come')) next))))

    came_both : (a b : List Transfer) → come ++ came_in (a ++ b) ≡ (come ++ came_in a) ++ came_in b
    came_both a b = ap (λ (bytes : List ℕ). come ++ bytes) (came_append a b) ∙ sym (append_assoc come (came_in a) (came_in b))

    came_on : (a b : List Transfer) (later : List ℕ) → (come ++ came_in (a ++ b)) ++ later ≡ (come ++ came_in a) ++ (came_in b ++ later)
    came_on a b later = ap (λ (bytes : List ℕ). bytes ++ later) (came_both a b) ∙ append_assoc (come ++ came_in a) (came_in b) later

    comes_on : (a b : List Transfer) → Consumes (K.coming old) (K.coming mid) (came_in a) → Consumes (K.coming mid) (K.coming new) (came_in b)
        → Consumes (K.coming old) (K.coming new) (came_in (a ++ b))
    comes_on a b first next = subst (λ (bytes : List ℕ). Consumes (K.coming old) (K.coming new) bytes) (sym (came_append a b))
        (consumes_then (K.coming old) (K.coming mid) (K.coming new) (came_in a) (came_in b) first next)

    pub talked_then : (t'' : TalkState) (come'' : List ℕ) → TalkedTo K r t t' come come' old mid → TalkedTo K r t' t'' come' come'' mid new
        → TalkedTo K r t t'' come come'' old new
    talked_then t'' come'' first next = record {
      transfers = first.transfers ++ next.transfers;
      made = appends_then K.made old mid new first.transfers next.transfers first.made next.made;
      comes = comes_on first.transfers next.transfers first.comes next.comes;
      prompt = prompt_on first next.transfers next.prompt;
      rest = λ later. ap (λ (bytes : List ℕ). all_said r t bytes) (came_on first.transfers next.transfers later)
          ∙ first.rest (came_in next.transfers ++ later)
          ∙ ap (λ (bytes : List ℕ). sent_in first.transfers ++ all_said r t' bytes) (sym (append_assoc come' (came_in next.transfers) later))
          ∙ ap (λ (text : List ℕ). sent_in first.transfers ++ text) (next.rest later)
          ∙ sym (append_assoc (sent_in first.transfers) (sent_in next.transfers) (all_said r t'' (come'' ++ later)))
          ∙ ap (λ (text : List ℕ). text ++ all_said r t'' (come'' ++ later)) (sym (sent_append first.transfers next.transfers));
    }

    said_on : (first : TalkedTo K r t t' come come' old mid) (b : List Transfer)
        → all_said r t (come ++ came_in (first.transfers ++ b)) ≡ sent_in first.transfers ++ all_said r t' (come' ++ came_in b)
    said_on first b = ap (λ (bytes : List ℕ). all_said r t bytes) (came_both first.transfers b) ∙ first.rest (came_in b)

    pub talked_over : (end : Option TalkEnd) → TalkedTo K r t t' come come' old mid → HasTalked K r t' come' end mid new → HasTalked K r t come end old new
    talked_over end first next = record {
      transfers = first.transfers ++ next.transfers;
      made = appends_then K.made old mid new first.transfers next.transfers first.made next.made;
      comes = comes_on first.transfers next.transfers first.comes next.comes;
      prompt = prompt_on first next.transfers next.prompt;
      said = subst (λ (text : List ℕ). IsPart (is_whole end) (sent_in (first.transfers ++ next.transfers)) text) (sym (said_on first next.transfers))
          (subst (λ (part : List ℕ). IsPart (is_whole end) part (sent_in first.transfers ++ all_said r t' (come' ++ came_in next.transfers)))
          (sym (sent_append first.transfers next.transfers))
          (part_after (is_whole end) (sent_in first.transfers) (sent_in next.transfers) (all_said r t' (come' ++ came_in next.transfers)) next.said));
      done = λ none left told. done_on first next none left (consumes_some (K.coming old) (K.coming mid) (came_in first.transfers) left told first.comes);
    }
      where
        done_on : (first : TalkedTo K r t t' come come' old mid) (next : HasTalked K r t' come' end mid new) → end ≡ None → (left : List ℕ)
            → (rest : List ℕ) × (K.coming mid ≡ Some rest) × (left ≡ came_in first.transfers ++ rest)
            → sent_in (first.transfers ++ next.transfers) ≡ all_said r t (come ++ left)
        done_on first next none left (rest, told, is) = sent_append first.transfers next.transfers
            ∙ ap (λ (text : List ℕ). sent_in first.transfers ++ text) (next.done none rest told)
            ∙ sym (ap (λ (bytes : List ℕ). all_said r t (come ++ bytes)) is
            ∙ ap (λ (bytes : List ℕ). all_said r t bytes) (sym (append_assoc come (came_in first.transfers) rest)) ∙ first.rest rest)

    pub ended_then : (r' : Recording) (end : Option TalkEnd) → r' ≡ r → TalkedTo K r t t' come come' old mid → HasTalked K r' t' come' end mid new
        → HasTalked K r t come end old new
    ended_then r' end same first next = talked_over end first (subst (λ (rec : Recording). HasTalked K rec t' come' end mid new) same next)

pub ruleset talkings = (heard, came, stopped, begins, talked_then, talked_over)

pub ruleset sayings = (says_sent, says_none, says_empty)

-- what a read of a connection leaves
module _ {C : Type 0} (K : connections.Ghosts C) (old new : C) where
  pub came_piece : (come come' piece : List ℕ) → come' ≡ come ++ piece → Appends K.made old new (Came piece ∷ []) → Consumes (K.coming old) (K.coming new) piece
      → HasCome K come come' (Ok true) old new
  came_piece come come' piece is made comes = (piece, is, made, comes)

pub ruleset comings = (came_piece)
