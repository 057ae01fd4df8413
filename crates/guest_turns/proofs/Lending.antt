-- A guest that a host lends to a call: what is known of it before, and of the host after.
use Rattle.std.proofs.Common.{◌≡◌, ℕ, Bool, List, get_or, set, ap, sym, subst, ◌∙◌}
use Rattle.arch_defs.specs.Frames.{Only}
use Rattle.arch_defs.specs.Layouts.{named_by}
use Rattle.machine_defs.specs.Machine.{Machine}
use Rattle.machine_defs.specs.Runs.{run}
use Rattle.guest_exit.specs.declared.guests.Guest.{Guest}
use Rattle.guest_exit.specs.View.{machine_of}
use Rattle.guest_turns.specs.Account.{IsTurn, KeepsRoom}
use Rattle.guest_turns.specs.Hosted.{Hosted, IsActive, KeepsShares, machine_at, part_at}
use Rattle.guest_turns.specs.Hosting.{AreHosted, CountsTurn, HasRun, IsHosted, StaysHosted}
use Rattle.guest_turns.specs.TurnLists.{updated}
use Rattle.guest_turns.proofs.Among.{active_of, among, host_machine, host_part, machines_of, seen_of, turned_by, written_machine}
use Rattle.guest_turns.proofs.Placing.{only_in_part}

-- the guest g of a host, before the call
pub record IsLent (host : Hosted) (g : ℕ) (guest : Guest) (memory : List ℕ) : Type 0 where
  pub hosted : IsHosted guest memory
  pub machine : machine_at host.machines g ≡ machine_of guest memory

pub lent : {guests : List Guest} {retired free : List Bool} {memory : List ℕ} {host : Hosted} {g : ℕ} {guest : Guest} → AreHosted guests retired free memory
    → seen_of guests memory free retired ≡ host → IsActive host g → guest ≡ get_or guests g guest → IsLent host g guest memory
lent {guests} {retired} {free} {memory} {host} {g} {guest} all is can at =
    let inside = among guests memory free retired host g is can.there in
    record {
      hosted = subst (λ guest. IsHosted guest memory) (sym at) (all.each g guest inside (active_of guests memory free retired host g is can.active));
      machine = host_machine guests memory free retired host g guest is inside at;
    }

-- and after it, which has changed the machine of the guest so: the others, and what is shared out, stay
pub record HasChanged (guests : List Guest) (retired free : List Bool) (host : Hosted) (g : ℕ) (change : Machine → Machine) (new : Guest) (changed : List ℕ)
    : Type 0 where
  pub hosted : AreHosted (set guests g new) retired free changed
  pub machines : machines_of (set guests g new) changed ≡ updated g change host.machines
  pub shares : KeepsShares host (seen_of (set guests g new) changed free retired)
  pub isolated : Only (named_by (part_at host.parts g)) host.memory changed
  pub machine : machine_at (machines_of (set guests g new) changed) g ≡ machine_of new changed

pub has_changed : {guests : List Guest} {retired free : List Bool} {memory changed : List ℕ} {host : Hosted} {g : ℕ} {old new : Guest}
    → AreHosted guests retired free memory → seen_of guests memory free retired ≡ host → IsActive host g → old ≡ get_or guests g old
    → StaysHosted old memory new changed → (change : Machine → Machine) → machine_of new changed ≡ change (machine_of old memory)
    → HasChanged guests retired free host g change new changed
has_changed {guests} {retired} {free} {memory} {changed} {host} {g} {old} {new} all is can at stays change made =
    let inside = among guests memory free retired host g is can.there in
    let active = active_of guests memory free retired host g is can.active in
    let part = host_part guests memory free retired host g old is inside at in
    let before = lent all is can at in
    let only = only_in_part old memory changed before.hosted.placed stays.only in
    let turned = turned_by guests retired free memory g change old new changed all inside active at made stays.keeps stays.only stays.hosted in
    record {
      hosted = turned.hosted;
      machines = turned.machines ∙ ap (λ host. updated g change host.machines) is;
      shares = record { parts = turned.parts ∙ ap (λ host. host.parts) is; free = ap (λ host. host.free) is; retired = ap (λ host. host.retired) is };
      isolated = rw part (subst (λ host. Only (named_by old.part) host.memory changed) is only);
      machine = written_machine guests changed g new inside;
    }

-- it has run for k steps
pub has_run : {guests : List Guest} {retired free : List Bool} {memory changed : List ℕ} {host : Hosted} {g k : ℕ} {old new : Guest}
    → AreHosted guests retired free memory → seen_of guests memory free retired ≡ host → IsActive host g → old ≡ get_or guests g old
    → HasRun old memory k new changed → HasChanged guests retired free host g (λ m. run m k) new changed
has_run {k = k} all is can at ran =
    has_changed all is can at (record { hosted = ran.hosted; keeps = ran.keeps; only = ran.only }) (λ m. run m k) ran.machine

-- what the steps of a turn are to the machines, and that the room of its spaces stays
pub is_turn : {m next : Machine} {old new : Guest} {memory changed : List ℕ} {k made : ℕ} → m ≡ machine_of old memory → next ≡ machine_of new changed
    → HasRun old memory k new changed → CountsTurn old k new made → IsTurn m k next made
is_turn before after ran counts =
    rw (before, after) (record { steps = counts.steps; most = counts.most; fewer = counts.fewer; room = ran.keeps.entry_room })

pub keeps_room : {m next : Machine} {old new : Guest} {memory changed : List ℕ} → m ≡ machine_of old memory → next ≡ machine_of new changed
    → IsHosted old memory → StaysHosted old memory new changed → KeepsRoom m next
keeps_room before after hosted stays = rw (before, after) (record { enough = hosted.placed.orderly.entries; same = stays.keeps.entry_room })
