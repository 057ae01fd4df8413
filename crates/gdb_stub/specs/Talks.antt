-- What a stub says to what gdb says (manual of gdb, "Overview" of the remote protocol).
use Rattle.std.specs.Prelude.{◌≡◌, ◌≤◌, ℕ, ⊤, Bool, true, false, List, [], ◌∷◌, ◌++◌, codes, is_ok, not, Option, Some, None, Result, Ok, Err, IfOk, IsErrOf, OnOk, if◌then◌else◌}
use Rattle.std.specs.Io.KnownBytes.{Consumes, IsAtEnd}
use Rattle.gdb_commands.specs.declared.commands.Command.{Command}
use Rattle.gdb_commands.specs.declared.commands.Command.TheVariants as command
use Rattle.gdb_commands.specs.Commands.{command_in}
use Rattle.gdb_packets.specs.declared.messages.Message.{Message}
use Rattle.gdb_packets.specs.declared.messages.Message.TheVariants.{Packet, BadSum, BadEscape, Nack}
use Rattle.gdb_packets.specs.Frames.{framed}
use Rattle.gdb_packets.specs.Streams.{messages_in}
use Rattle.outside.specs.Connections.{came_in, sent_in}
use Rattle.outside.specs.Faults.{Rose}
use Rattle.outside.specs.Pieces.{Appends}
use Rattle.outside.specs.declared.connections.Connection as connections
use Rattle.outside.specs.declared.connections.Transfer.{Transfer}
use Rattle.outside.specs.declared.connections.Transfer.TheVariants.{Came, Sent}
use Rattle.gdb_stub.specs.Answers.{answer_to}
use Rattle.gdb_stub.specs.Sessions.{state_after, session_state, Recording, SessionState}
use Rattle.gdb_stub.specs.declared.talks.Talk.{Talk}
use Rattle.gdb_stub.specs.declared.talks.TalkEnd.{TalkEnd}
use Rattle.gdb_stub.specs.declared.talks.TalkEnd.TheVariants.{ReadFault, WriteFault, NoMemory}

-- a session, and the packet that was sent last
pub record TalkState : Type 0 where
  pub session : SessionState
  pub sent : List ℕ

-- gdb waits for no answer where it kills
abbrev pub is_kill : Command → Bool
is_kill command.Kill = true
is_kill other = false

-- the packet that answers a command
abbrev pub packet_for : Recording → SessionState → Command → List ℕ
packet_for r s c = if is_kill c then [] else framed (answer_to r s c)

-- a session ends where gdb leaves
abbrev pub is_last : Command → Bool
is_last command.Detach = true
is_last command.Kill = true
is_last other = false

-- what a command leaves, and what is said to it: that its packet has come, and the answer
abbrev pub after_command : Recording → TalkState → Command → TalkState
after_command r t c =
    record { session = state_after r t.session c; sent = packet_for r t.session c }

abbrev pub said_to_command : Recording → TalkState → Command → List ℕ
said_to_command r t c = codes "+" ++ packet_for r t.session c

-- the same of a message: a packet that is wrong is to be sent again, and what was sent last is sent again
-- where it is asked for
abbrev pub said_to : Recording → TalkState → Message → List ℕ
said_to r t (Packet payload) = said_to_command r t (command_in payload)
said_to r t BadSum = codes "-"
said_to r t BadEscape = codes "-"
said_to r t Nack = t.sent
said_to r t other = []

abbrev pub after_message : Recording → TalkState → Message → TalkState
after_message r t (Packet payload) = after_command r t (command_in payload)
after_message r t other = t

abbrev pub is_last_message : Message → Bool
is_last_message (Packet payload) = is_last (command_in payload)
is_last_message other = false

-- all that is said to messages, one after the other, up to the one at which gdb leaves
unfoldable pub said_to_all : Recording → TalkState → List Message → List ℕ
said_to_all r t [] = []
said_to_all r t (message ∷ rest) = said_to r t message
    ++ (if is_last_message message then [] else said_to_all r (after_message r t message) rest)

-- all that is said to the messages of bytes
abbrev pub all_said : Recording → TalkState → List ℕ → List ℕ
all_said r t bytes = said_to_all r t (messages_in bytes)

-- a session at the start of a run, without a stop
abbrev pub at_begin : TalkState
at_begin = record { session = record { place = 0; pcs = []; watched = [] }; sent = [] }

-- what contracts see of a talk
abbrev pub talk_of : {Y : Type 0} → Talk Y → TalkState
talk_of t = record { session = session_state t.session; sent = t.sent.items }

-- no read is among transfers
abbrev pub AreSent : List Transfer → Type 0
AreSent [] = ⊤
AreSent (Came piece ∷ rest) = ⊥
AreSent (Sent piece ∷ rest) = AreSent rest

-- each read among transfers was made only when all that had come before it was answered: this came before the
-- first of them, and this was said
abbrev pub IsPrompt : Recording → TalkState → List ℕ → List ℕ → List Transfer → Type 0
IsPrompt r t come said [] = ⊤
IsPrompt r t come said (Came piece ∷ rest) =
    (said ≡ all_said r t come) × IsPrompt r t (come ++ piece) said rest
IsPrompt r t come said (Sent piece ∷ rest) = IsPrompt r t come (said ++ piece) rest

-- a text begins with this
abbrev pub IsFront : List ℕ → List ℕ → Type 0
IsFront front text = (rest : List ℕ) × (front ++ rest ≡ text)

-- this is all of a text, or otherwise a front of it
abbrev pub IsPart : Bool → List ℕ → List ℕ → Type 0
IsPart true part text = part ≡ text
IsPart false part text = IsFront part text

-- what was said of a text at an end of a talk: all of it where gdb has left, the stream has ended or a read
-- has failed, and otherwise a front of it
abbrev pub is_whole : Option TalkEnd → Bool
is_whole None = true
is_whole (Some ReadFault) = true
is_whole (Some WriteFault) = false
is_whole (Some NoMemory) = false

-- the end of a talk, if it has ended before gdb left
abbrev pub early_end : {A : Type 0} → Result A TalkEnd → Option TalkEnd
early_end (Ok a) = None
early_end (Err end) = Some end

-- a text was sent, all of it or otherwise a front of it, and nothing was read
pub record HasSaid {C : Type 0} (K : connections.Ghosts C) (all : Bool) (text : List ℕ) (old new : C)
    : Type 0 where
  pub transfers : List Transfer
  pub made : Appends K.made old new transfers
  pub kept : K.coming new ≡ K.coming old
  pub silent : AreSent transfers
  pub said : IsPart all (sent_in transfers) text

-- a message has been answered: what was said to it, what it leaves, and whether gdb stays
pub record HasHeard {C : Type 0} (K : connections.Ghosts C) (r : Recording) (t t' : TalkState)
    (message : Message) (result : Result Bool TalkEnd) (old new : C) : Type 0 where
  pub said : HasSaid K (is_ok result) (said_to r t message) old new
  pub after : OnOk result (t' ≡ after_message r t message)
  pub last : IfOk result (λ stays. stays ≡ not (is_last_message message))

-- why a read or a write failed, by the counts of faults, which never fall
pub record HasCauses {C A : Type 0} (K : connections.Ghosts C) (result : Result A TalkEnd) (old new : C)
    : Type 0 where
  pub read : IsErrOf result ReadFault → Rose (K.read_faults old) (K.read_faults new)
  pub read_count : K.read_faults old ≤ K.read_faults new
  pub write : IsErrOf result WriteFault → Rose (K.write_faults old) (K.write_faults new)
  pub write_count : K.write_faults old ≤ K.write_faults new

-- the same where nothing was read
pub record OnlySends {C A : Type 0} (K : connections.Ghosts C) (result : Result A TalkEnd) (old new : C)
    : Type 0 where
  pub no_read : ¬ IsErrOf result ReadFault
  pub read_count : K.read_faults new ≡ K.read_faults old
  pub write : IsErrOf result WriteFault → Rose (K.write_faults old) (K.write_faults new)
  pub write_count : K.write_faults old ≤ K.write_faults new

-- what a read leaves of a connection and of the bytes that have come: more of these, or the end
abbrev pub HasCome : {C : Type 0} → connections.Ghosts C → List ℕ → List ℕ → Result Bool TalkEnd
    → C → C → Type 0
HasCome K come come' (Ok true) old new = (piece : List ℕ) × (come' ≡ come ++ piece)
    × Appends K.made old new (Came piece ∷ []) × Consumes (K.coming old) (K.coming new) piece
HasCome K come come' (Ok false) old new = Appends K.made old new (Came [] ∷ [])
    × Consumes (K.coming old) (K.coming new) [] × IsAtEnd (K.coming new)
HasCome K come come' (Err ReadFault) old new =
    Appends K.made old new [] × (K.coming new ≡ K.coming old)
HasCome K come come' (Err WriteFault) old new = ⊥
HasCome K come come' (Err NoMemory) old new = (piece : List ℕ)
    × Appends K.made old new (Came piece ∷ []) × Consumes (K.coming old) (K.coming new) piece

-- a part of a talk: what was transferred; and whatever comes later, what is to be said is what was said in
-- this part, and then what is to be said from there on
pub record TalkedTo {C : Type 0} (K : connections.Ghosts C) (r : Recording) (t t' : TalkState)
    (come come' : List ℕ) (old new : C) : Type 0 where
  pub transfers : List Transfer
  pub made : Appends K.made old new transfers
  pub comes : Consumes (K.coming old) (K.coming new) (came_in transfers)
  pub prompt : IsPrompt r t come [] transfers
  pub rest : (later : List ℕ) → all_said r t (come ++ came_in transfers ++ later)
      ≡ sent_in transfers ++ all_said r t' (come' ++ later)

-- a talk up to its end: what was transferred, each read only when all that had come was answered; what was
-- said to what came; and where it was done, that nothing more is to be said to what is left
pub record HasTalked {C : Type 0} (K : connections.Ghosts C) (r : Recording) (t : TalkState) (come : List ℕ)
    (end : Option TalkEnd) (old new : C) : Type 0 where
  pub transfers : List Transfer
  pub made : Appends K.made old new transfers
  pub comes : Consumes (K.coming old) (K.coming new) (came_in transfers)
  pub prompt : IsPrompt r t come [] transfers
  pub said : IsPart (is_whole end) (sent_in transfers) (all_said r t (come ++ came_in transfers))
  pub done : end ≡ None → (left : List ℕ) → K.coming old ≡ Some left
      → sent_in transfers ≡ all_said r t (come ++ left)

-- a step of a talk: gdb stays, or it has ended
abbrev pub HasGoneOn : {C : Type 0} → connections.Ghosts C → Recording → TalkState → TalkState
    → List ℕ → List ℕ → Result Bool TalkEnd → C → C → Type 0
HasGoneOn K r t t' come come' (Ok true) old new = TalkedTo K r t t' come come' old new
HasGoneOn K r t t' come come' (Ok false) old new = HasTalked K r t come None old new
HasGoneOn K r t t' come come' (Err end) old new = HasTalked K r t come (Some end) old new
