use Rattle.std.specs.Prelude.{⊤}
use Rattle.std.proofs.Common.{rules, ℕ, List, ◌≡◌, ◌∙◌, ◌+◌, ◌*◌, ◌++◌, [], ◌∷◌, suc, drop, map, take, Err, refl, ap, sym, arith, add-one}
use Rattle.std.proofs.lemmas.List.{append-nil, take_all}
use Rattle.outside.specs.Files.{Files}
use Rattle.nesthv_top.specs.Contents.{sources_of}
use Rattle.nesthv_top.specs.Loads.{source_read}
use Rattle.nesthv_top.specs.Reads.{guest_steps, guests_steps}
use Rattle.nesthv_top.specs.Steps.{Step}
use Rattle.nesthv_top.proofs.GuestReads.{none_steps, read_for_all, read_for_more, read_for_none, short_first, sources_next, steps_next, steps_split}
use Rattle.nesthv_top.proofs.CommandReads.{left_first, left_none, left_short}
use Rattle.nesthv_top.proofs.Readings.{read_first, read_none, read_passed, read_stopped}
use Rattle.nesthv_top.proofs.loading.read_guests.Goals as goal

pub returns-in_default-clause-read : goal.returns-in_default-clause-read
returns-in_default-clause-read g c =
    rw c.no_memory.ensures (record {
      ends = λ files told. short_first files c.args.settings.now c.args.reads.now.made (g.S.Store.asked c.args.store.now) c.requires.some;
      says = λ files told. tt;
      leaves = left_first {A = ℕ} g.S.Store 0 32 _ _ _ _ _ (omega arith) (left_short {A = ℕ} g.S.Store 0 0 c.args.store.now c.args.store.now _ _ (left_none {A = ℕ} g.S.Store 0 c.args.store.now c.args.reads.now.made));
    })

pub loop-i-init : goal.loop-i-init
loop-i-init g c = record {
  read = read_none g.S.Store (λ f. guests_steps f 0 []) 0 (λ f guests. map source_read guests.items ≡ sources_of f []) c.in-Ok.guests c.args.store.now c.args.reads.now.made
      (λ f told. none_steps f) (λ f told. rw c.in-Ok.ensures.items refl);
  fitting = rw c.in-Ok.ensures.items read_for_none;
  room = omega (arith, c.in-Ok.ensures.capacity);
  count = rw c.in-Ok.ensures.items refl;
}

pub read_guest-requires-clause-few : goal.read_guest-requires-clause-few
read_guest-requires-clause-few g c = omega (arith, c.requires.early, c.requires.few, c.loop-i-test.true, c.loop-i.invariant.read.leaves.numbers.1)

pub returns-in_err-read_guest-clause-read : goal.returns-in_err-read_guest-clause-read
returns-in_err-read_guest-clause-read g c =
    let i = c.loop-i.i in
    let settings = c.args.settings.now in
    let guest = c.index-settings-i.result in
    let before : Files → List Step = λ f. guests_steps f 0 (take i settings) in
    let others : Files → List Step = λ f. guests_steps f (i + 1) (drop (suc i) settings) in
    let split : (f : Files) → guests_steps f 0 settings ≡ before f ++ (guest_steps f i guest ++ others f) =
    λ f. steps_split f 0 i i settings guest c.loop-i-test.true (omega arith) ∙ ap (λ g. before f ++ (guest_steps f i g ++ others f)) (sym c.index-settings-i.is) in
    let is : c.from_residual.result ≡ Err c.in_err-read_guest.field-0.0 = search rules in
    rw is (read_stopped {B = ℕ} g.S.Store before (λ f. guest_steps f i guest ++ others f) (λ f. guests_steps f 0 settings) (2 * i) 2 32 _ _ _ c.loop-i.guests c.in_err-read_guest.field-0.0
    _ _ _ _ _ _ (omega (arith, c.loop-i-test.true, c.requires.few)) (λ f told. split f) c.loop-i.invariant.read
    (read_first g.S.Store (λ f. guest_steps f i guest) others (λ f. guest_steps f i guest ++ others f) 2 2 _ (λ f none. ⊤) c.in_err-read_guest.field-0.0 _ _ _ _ (omega arith)
    (λ f told. refl) c.in_err-read_guest.ensures.read))

pub loop-i-preserved : goal.loop-i-preserved
loop-i-preserved g c =
    let i = c.loop-i.i in
    let settings = c.args.settings.now in
    let guest = c.index-settings-i.result in
    let inv = c.loop-i.invariant in
    let one = c.in_ok-read_guest.ensures in
    let items = c.push_reserved.ensures.items in
    record {
      read = rw (add-one i) (read_passed g.S.Store (λ f. guests_steps f 0 (take i settings)) (λ f. guest_steps f i guest) (λ f. guests_steps f 0 (take (suc i) settings)) (2 * i) 2 (2 * (suc i))
          _ _ (λ f guests. map source_read guests.items ≡ sources_of f (take (suc i) settings)) c.loop-i.guests c.in_ok-read_guest.field-0 _ _ _ _ _ _ _ (omega arith)
          (λ f told. steps_next f 0 i i settings guest c.loop-i-test.true (omega arith) ∙ ap (λ g. guests_steps f 0 (take i settings) ++ guest_steps f i g) (sym c.index-settings-i.is))
          (λ f told. rw items (sources_next f settings i guest c.loop-i.guests.items c.in_ok-read_guest.field-0 c.loop-i-test.true c.index-settings-i.is
          (inv.read.says f told) (one.read.says f (inv.read.leaves.files ∙ told)))) inv.read one.read);
      fitting = rw items (read_for_more settings i guest c.loop-i.guests.items c.in_ok-read_guest.field-0 c.loop-i-test.true c.index-settings-i.is inv.fitting one.name one.fitting);
      room = omega (arith, c.push_reserved.ensures.capacity, inv.room);
      count = omega (arith, c.push_reserved.ensures.len, inv.count);
    }

pub returns-clause-read : goal.returns-clause-read
returns-clause-read g c =
    let settings = c.args.settings.now in
    let all : take c.loop-i.i settings ≡ settings = take_all c.loop-i.i settings c.loop-i-test.false in
    read_passed g.S.Store (λ f. guests_steps f 0 settings) (λ f. []) (λ f. guests_steps f 0 settings) (2 * c.loop-i.i) 0 32 _ (λ f none. ⊤) (λ f guests. map source_read guests.items ≡ sources_of f settings)
    c.loop-i.guests c.loop-i.guests c.loop-i.guests _ _ _ _ _ _ (omega (arith, c.requires.few, c.loop-i.invariant.count)) (λ f told. sym (append-nil (guests_steps f 0 settings)))
    (λ f told. rw all at (c.loop-i.invariant.read.says f told)) (rw all at c.loop-i.invariant.read)
    (read_none g.S.Store (λ f. []) 0 (λ f none. ⊤) c.loop-i.guests _ _ (λ f told. refl) (λ f told. tt))

pub returns-clause-fitting : goal.returns-clause-fitting
returns-clause-fitting g c = read_for_all c.args.settings.now c.loop-i.i c.loop-i.guests.items c.loop-i-test.false c.loop-i.invariant.fitting
