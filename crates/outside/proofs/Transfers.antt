-- Transfers, one after the other.
use Rattle.std.proofs.Common.{arith, ◌≡◌, ◌∙◌, ℕ, ◌+◌, ◌≤◌, List, [], ◌∷◌, ◌++◌, drop, drop-drop, length, take, refl, ap, sym, Bool, true, false, Option, Some, None}
use Rattle.std.proofs.lemmas.Grind.{common_steps}
use Rattle.std.proofs.lemmas.List.{append_assoc, append-nil, length-append, length-take, take-append-drop}
use Rattle.std.proofs.Math.Seq.{take-append_seam}
use Rattle.std.specs.Io.KnownBytes.{Consumes, Keeps}
use Rattle.outside.specs.Connections.{came_in, sent_in, Sends}
use Rattle.outside.specs.ListConnections.{reads_in, IsMadeBy, ListState}
use Rattle.outside.specs.ListSinks.{SinkState}
use Rattle.outside.specs.Pieces.{Appends, Puts}
use Rattle.outside.specs.declared.connections.Transfer.{Transfer}
use Rattle.outside.specs.declared.connections.Transfer.TheVariants.{Came, Sent}
use Rattle.outside.specs.declared.list_connections.ReadMade.{ReadMade}

pub sent_append : (a b : List Transfer) → sent_in (a ++ b) ≡ sent_in a ++ sent_in b
sent_append [] b = refl
sent_append (Came piece ∷ a) b = sent_append a b
sent_append (Sent piece ∷ a) b =
    ap (λ (rest : List ℕ). piece ++ rest) (sent_append a b) ∙ sym (append_assoc piece (sent_in a) (sent_in b))

pub came_append : (a b : List Transfer) → came_in (a ++ b) ≡ came_in a ++ came_in b
came_append [] b = refl
came_append (Came piece ∷ a) b =
    ap (λ (rest : List ℕ). piece ++ rest) (came_append a b) ∙ sym (append_assoc piece (came_in a) (came_in b))
came_append (Sent piece ∷ a) b = came_append a b

reads_append : (n : ℕ) (a b : List Transfer) → reads_in n (a ++ b) ≡ reads_in n a ++ reads_in (n + length (sent_in a)) b
reads_append n [] b = ap (λ (k : ℕ). reads_in k b) (omega arith)
reads_append n (Came piece ∷ a) b =
    ap (λ (rest : List ReadMade). record { sent = n; came = length piece } ∷ rest) (reads_append n a b)
reads_append n (Sent piece ∷ a) b = reads_append (n + length piece) a b
    ∙ ap (λ (k : ℕ). reads_in (n + length piece) a ++ reads_in k b) (omega (arith, length-append piece (sent_in a)))

-- a read that gave the first n bytes of its room
pub made_came : (old new : ListState) (n : ℕ) (room : List ℕ) → n ≤ length room → new.out ≡ old.out
    → new.made ≡ old.made ++ record { sent = length old.out.bytes; came = n } ∷ [] → Appends IsMadeBy old new (Came (take n room) ∷ [])
made_came old new n room within out made = λ transfers before.
    let piece = take n room in
    let size : length piece ≡ n = grind (arith, common_steps, length-take n room, within) in
    let all : length (sent_in transfers) ≡ 0 + length (sent_in transfers) = omega arith in
    record {
      sent = ap (λ (sink : SinkState). sink.bytes) out ∙ before.sent ∙ sym (sent_append transfers (Came piece ∷ []) ∙ append-nil (sent_in transfers));
      reads = made
          ∙ ap (λ (reads : List ReadMade). reads ++ record { sent = length old.out.bytes; came = n } ∷ []) before.reads
          ∙ ap (λ (k : ℕ). reads_in 0 transfers ++ record { sent = k; came = n } ∷ []) (ap (λ (sent : List ℕ). length sent) before.sent ∙ all)
          ∙ ap (λ (k : ℕ). reads_in 0 transfers ++ record { sent = 0 + length (sent_in transfers); came = k } ∷ []) (sym size)
          ∙ sym (reads_append 0 transfers (Came piece ∷ []));
    }

-- a read that failed
pub made_none : (old new : ListState) → new.out ≡ old.out → new.made ≡ old.made → Appends IsMadeBy old new []
made_none old new out made = λ transfers before. record {
  sent = ap (λ (sink : SinkState). sink.bytes) out ∙ before.sent ∙ ap (λ (all : List Transfer). sent_in all) (sym (append-nil transfers));
  reads = made ∙ before.reads ∙ ap (λ (all : List Transfer). reads_in 0 all) (sym (append-nil transfers));
}

-- a piece that was sent
made_sent : (old new : ListState) (piece : List ℕ) → new.out.bytes ≡ old.out.bytes ++ piece → new.made ≡ old.made
    → Appends IsMadeBy old new (Sent piece ∷ [])
made_sent old new piece bytes made = λ transfers before. record {
  sent = bytes ∙ ap (λ (sent : List ℕ). sent ++ piece) before.sent
      ∙ sym (sent_append transfers (Sent piece ∷ []) ∙ ap (λ (last : List ℕ). sent_in transfers ++ last) (append-nil piece));
  reads = made ∙ before.reads ∙ sym (reads_append 0 transfers (Sent piece ∷ []) ∙ append-nil (reads_in 0 transfers));
}

-- so what a put into the sink leaves
pub made_put : (old new : ListState) (ok : Bool) (piece : List ℕ) → new.made ≡ old.made
    → Puts (λ (sink : SinkState) (bytes : List ℕ). sink.bytes ≡ bytes) old.out new.out ok piece → Sends IsMadeBy old new ok piece
made_put old new true piece made puts = made_sent old new piece (puts old.out.bytes refl) made
made_put old new false piece made (n, within, puts) = (n, within, made_sent old new (take n piece) (puts old.out.bytes refl) made)

pub ruleset made_rules = (made_came, made_none, made_put)

-- known bytes that stay, before those that are read
module _ (old mid new : Option (List ℕ)) where
  pub kept_then : Keeps old mid → Keeps mid new → Keeps old new
  kept_then first next = by old mid new first next
    where
      by : (a b c : Option (List ℕ)) → Keeps a b → Keeps b c → Keeps a c
      by None b c first next = tt
      by (Some xs) None c first next = absurd first
      by (Some xs) (Some ys) None first next = absurd next
      by (Some xs) (Some ys) (Some zs) first next = next ∙ first

  pub read_then : (bytes : List ℕ) → Keeps old mid → Consumes mid new bytes → Consumes old new bytes
  read_then bytes first next = by old mid new first next
    where
      by : (a b c : Option (List ℕ)) → Keeps a b → Consumes b c bytes → Consumes a c bytes
      by None b c first next = tt
      by (Some xs) None c first next = absurd first
      by (Some xs) (Some ys) None first next = absurd next
      by (Some xs) (Some ys) (Some zs) first next = sym first ∙ next

pub kept_same : (known : Option (List ℕ)) → Keeps known known
kept_same None = tt
kept_same (Some xs) = refl

pub ruleset readings = (kept_then, read_then, kept_same)

-- the bytes that are still to come, once some of them were copied
pub came_front : (all copied rest : List ℕ) (place n : ℕ) → copied ≡ take n (drop place all) → length copied ≡ n
    → drop place all ≡ take n (copied ++ rest) ++ drop (place + n) all
came_front all copied rest place n is size =
    sym (take-append-drop n (drop place all))
    ∙ ap (λ (front : List ℕ). front ++ drop n (drop place all)) (sym (ap (λ (k : ℕ). take k (copied ++ rest)) (sym size) ∙ take-append_seam copied rest ∙ is))
    ∙ ap (λ (back : List ℕ). take n (copied ++ rest) ++ back) (drop-drop n place all)
