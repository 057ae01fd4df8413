-- A machine that can be saved goes on, and that of each guest can be saved at its start.
use Rattle.std.specs.List.{All, list_all}
use Rattle.std.specs.Prelude.{nat_lt}
use Rattle.std.proofs.Common.{◌≡◌, ℕ, ◌+◌, ◌-◌, ◌*◌, ◌^◌, ◌<◌, ◌≤◌, inl, inr, Bool, true, false, List, [], ◌∷◌, ◌++◌, length, refl, ap, ◌∙◌, sym, arith}
use Rattle.std.proofs.lemmas.Bool.{and_parts, ltb-true, true≢false}
use Rattle.std.proofs.lemmas.List.{length-replicate}
use Rattle.std.proofs.lemmas.List.Elements.{All-append, All-cons, All-nil, All-weaker}
use Rattle.arch_defs.specs.declared.cached.Entry.{Entry}
use Rattle.arch_defs.specs.declared.roots.GuestMode.TheVariants.{Sv39x4, Sv48x4}
use Rattle.arch_defs.specs.declared.roots.GuestRoot.{GuestRoot}
use Rattle.arch_defs.specs.declared.roots.GuestRoot.TheVariants.{Bare, Table}
use Rattle.arch_defs.specs.CsrAccess.{enable_shown, hypervisor_shown, interrupts_shown, shown, supervisor_shown}
use Rattle.arch_defs.specs.CsrBits.{epc_bits, hedeleg_bits, hgatp_bits, hip_bits, hstatus_bits, satp_bits, sip_bits, sstatus_bits, tvec_bits}
use Rattle.arch_defs.specs.Bits.{bit_number}
use Rattle.arch_defs.specs.CachedEntries.{IsReachable}
use Rattle.arch_defs.specs.Memory.{block_size}
use Rattle.arch_defs.specs.Spaces.{Space}
use Rattle.guest_save.proofs.RoundTrip.{round_trip}
use Rattle.guest_save.specs.declared.headers.Header.{Header}
use Rattle.guest_save.specs.declared.versions.Version.TheVariants.{Third}
use Rattle.guest_save.specs.Headers.{blocks_of, device_numbers, header_numbers, header_of, later_numbers, numbered, progress_numbers, size_numbers, state_numbers}
use Rattle.guest_save.specs.Laws.{ResumedGoesOn, SavableGoesOn, SavableIsFilled, SavedFirstFresh, SavedUseFresh, StartIsSavable}
use Rattle.machine_defs.specs.Bootable.{IsBootable}
use Rattle.guest_save.specs.Savable.{Fits, IsInReach, IsSavableEntry, IsSavableSpace, pages_of, top_level_of}
use Rattle.guest_save.specs.Saves.{SavedMachine}
use Rattle.guest_settings.specs.declared.guests.GuestSpec.{GuestSpec}
use Rattle.machine_defs.specs.Machine.{start}
use Rattle.machine_defs.specs.Runs.{run}
use Rattle.run_laws.proofs.FirstKeys.{start_has_first}
use Rattle.cache_laws.proofs.FirstRuns.{runs_first_fresh}
use Rattle.cache_laws.proofs.FreshRuns.{runs_use_fresh}
use Rattle.run_laws.proofs.InRam.{start_is_in_ram}
use Rattle.fill_laws.proofs.Running.{runs_compose}
use Rattle.run_laws.proofs.StorableRuns.{start_is_storable}
use Rattle.run_laws.specs.Reservations.{HasPlace}
use Rattle.arch_defs.proofs.Images.{length_loaded}

in_place : (size : ℕ) (device : Bool) (e : Entry) → IsInReach size device e → HasPlace size e
in_place size device e (inl ram) = inl ram
in_place size device e (inr page) = inr page.1

entry_in_place : (key : GuestRoot) (size : ℕ) (device : Bool) (e : Entry) → IsSavableEntry key size device e → HasPlace size e
entry_in_place key size device e is = in_place size device e is.frame

space_in_place : (size room : ℕ) (device : Bool) (s : Space) → IsSavableSpace size room device s → All (HasPlace size) s.entries
space_in_place size room device s is =
    All-weaker (IsSavableEntry s.key size device) (HasPlace size) (entry_in_place s.key size device) s.entries is.entries

pub savable_goes_on : SavableGoesOn
savable_goes_on m savable = record {
  orderly = record {
    entries = omega (arith, savable.sizes.some_entries);
    spaces = savable.sizes.some_space;
    front = savable.front;
  };
  caches = All-weaker (IsSavableSpace (length m.ram) m.entry_room m.device) (λ s. All (HasPlace (length m.ram)) s.entries)
      (space_in_place (length m.ram) m.entry_room m.device) m.spaces savable.spaces;
  reserves = savable.reservation;
  whole = omega (arith, savable.sizes.whole);
}

pages_few : (key : GuestRoot) → pages_of key ≤ 2 ^ 38
pages_few Bare = omega arith
pages_few (Table Sv39x4 vmid ppn) = omega arith
pages_few (Table Sv48x4 vmid ppn) = omega arith

level_low : (key : GuestRoot) → top_level_of key ≤ 3
level_low Bare = omega arith
level_low (Table Sv39x4 vmid ppn) = omega arith
level_low (Table Sv48x4 vmid ppn) = omega arith

reachable : (blocks : List ℕ) (device : Bool) (e : Entry) → IsInReach (length blocks * block_size) device e → IsReachable blocks e.frame
reachable blocks device e (inl ram) = inl (omega (arith, ram.0), omega (arith, ram.1))
reachable blocks device e (inr page) = inr page.1

pub savable_is_filled : SavableIsFilled
savable_is_filled key blocks device e is = record {
  page = omega (arith, is.page, pages_few key);
  frame = reachable blocks device e is.frame;
  level = omega (arith, is.level, level_low key);
  right = is.right;
  write = is.write;
}

-- the numbers of the start
fit_by_test : (ns : List ℕ) → list_all (λ n. nat_lt n (2 ^ 64)) ns ≡ true → All Fits ns
fit_by_test [] is = All-nil Fits
fit_by_test (n ∷ ns) is =
    let parts = and_parts (nat_lt n (2 ^ 64)) (list_all (λ n. nat_lt n (2 ^ 64)) ns) is in
    All-cons Fits n ns (ltb-true n (2 ^ 64) parts.0) (fit_by_test ns parts.1)

sizes_fit : (guest : GuestSpec) → IsBootable guest → blocks_of (start guest) ≡ guest.blocks → All Fits (size_numbers (header_of (start guest)))
unfolding start
sizes_fit guest can blocks =
    All-cons Fits (blocks_of (start guest)) (guest.spaces ∷ guest.entries ∷ guest.console ∷ []) (omega (arith, blocks, can.blocks))
    (All-cons Fits guest.spaces (guest.entries ∷ guest.console ∷ []) (omega (arith, can.spaces))
    (All-cons Fits guest.entries (guest.console ∷ []) (omega (arith, can.entries))
    (All-cons Fits guest.console [] (omega (arith, can.console)) (All-nil Fits))))

device_fits : (h : Header) → All Fits (device_numbers Third h)
device_fits h = All-cons Fits (bit_number 0 h.device) [] (small h.device) (All-nil Fits)
  where
    small : (device : Bool) → bit_number 0 device < 2 ^ 64
    small true = omega arith
    small false = omega arith

progress_fits : (guest : GuestSpec) → All Fits (progress_numbers (header_of (start guest)))
unfolding start
progress_fits guest = fit_by_test (progress_numbers (header_of (start guest))) refl

rest_fit : (guest : GuestSpec) → All Fits (numbered (start guest).platform.virt.regs ++ state_numbers (start guest).platform.virt)
unfolding start shown supervisor_shown interrupts_shown enable_shown hypervisor_shown sstatus_bits sip_bits tvec_bits epc_bits satp_bits hstatus_bits hedeleg_bits hip_bits hgatp_bits
rest_fit guest = fit_by_test (numbered (start guest).platform.virt.regs ++ state_numbers (start guest).platform.virt) refl

numbers_fit : (guest : GuestSpec) → IsBootable guest → blocks_of (start guest) ≡ guest.blocks → All Fits (header_numbers Third (header_of (start guest)))
numbers_fit guest can blocks =
    let h = header_of (start guest) in
    All-append Fits (size_numbers h) (device_numbers Third h ++ later_numbers h) (sizes_fit guest can blocks)
    (All-append Fits (device_numbers Third h) (later_numbers h) (device_fits h)
    (All-append Fits (progress_numbers h) (numbered h.state.regs ++ state_numbers h.state) (progress_fits guest) (rest_fit guest)))

pub start_is_savable : StartIsSavable
unfolding start
start_is_savable guest can =
    let m = start guest in
    let ram : length m.ram ≡ guest.blocks * 2097152 = length_loaded (guest.blocks * 2097152) guest.image can.image in
    let blocks : blocks_of m ≡ guest.blocks = omega (arith, ram) in
    record {
      sizes = record {
        whole = omega (arith, ram, blocks);
        some_block = omega (arith, blocks, can.some_block);
        most_blocks = omega (arith, blocks, can.blocks);
        some_space = can.some_space;
        most_spaces = can.spaces;
        some_entries = can.some_entries;
        most_entries = can.entries;
        most_console = can.console;
      };
      console = omega arith;
      inputs = can.inputs;
      registers = length-replicate {A = ℕ} 32 0;
      virt = start_is_storable guest;
      numbers = numbers_fit guest can blocks;
      lines = refl;
      steps = omega arith;
      clock = omega arith;
      reservation = (start_is_in_ram guest).1;
      few = omega arith;
      spaces = All-nil (IsSavableSpace (length m.ram) m.entry_room m.device);
      keys = λ i j d before within. absurd (omega arith);
      front = λ folds. absurd (true≢false (sym folds));
      first = (start_has_first guest).0;
      storable = (start_has_first guest).1;
    }

-- a machine that was read goes on as the one that was saved
pub resumed_goes_on : ResumedGoesOn
resumed_goes_on m a b savable =
    ap (λ (read : SavedMachine). run read.machine b) (round_trip Third (run m a) savable tt) ∙ runs_compose m a b

pub saved_use_fresh : SavedUseFresh
saved_use_fresh saved n m k orderly none is = runs_use_fresh m (k + n) orderly none

pub saved_first_fresh : SavedFirstFresh
saved_first_fresh saved n m k none is = runs_first_fresh m (k + n) none
