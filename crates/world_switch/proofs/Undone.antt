-- Loading, saving, translations and traps.
use Rattle.std.specs.Prelude.{◌||◌, ◌&&◌, ◌==◌, ◌*◌, ◌/◌, ◌%◌, ◌^◌, ◌≤◌, ◌<◌, List, Option, Some, None, get_or, length, min, nat_le, nat_lt, option_map, if◌then◌else◌}
use Rattle.std.specs.List.{position, position_or_len}
use Rattle.std.proofs.lemmas.List.Sums.{position_or_len_is}
use Rattle.std.proofs.lemmas.Bool.{and_parts, eqb-true, eq-eqb, leb-true, lt-ltb, ltb-true, ne_eqb}
use Rattle.std.proofs.lemmas.Nat.Bits.{bit_at_and}
use Rattle.std.proofs.Common.{cond, ◌≡◌, ◌∙◌, ℕ, ◌+◌, ◌-◌, Bool, true, false, refl, ap, sym, arith}
use Rattle.arch_defs.specs.declared.levels.Level.TheVariants as level
use Rattle.arch_defs.specs.declared.modes.Access.{Access}
use Rattle.arch_defs.specs.declared.modes.Mode.{Mode}
use Rattle.arch_defs.specs.declared.modes.Mode.TheVariants.{HS, U, VS, VU}
use Rattle.arch_defs.specs.declared.modes.Trap.{Trap}
use Rattle.arch_defs.specs.declared.registers.Csrs.{Csrs}
use Rattle.arch_defs.specs.declared.roots.GuestRoot.{GuestRoot}
use Rattle.arch_defs.specs.declared.registers.Virtual.{Virtual}
use Rattle.arch_defs.specs.Bits.{bit}
use Rattle.arch_defs.specs.CsrBits.{hedeleg_bits}
use Rattle.arch_defs.specs.Interrupts.{interrupt_of}
use Rattle.arch_defs.specs.Layouts.{Layout}
use Rattle.arch_defs.specs.Memory.{Reading, SecondStage, block_size, ram_base}
use Rattle.arch_defs.specs.Ram.{IsDistinct}
use Rattle.arch_defs.specs.Translation.{first_stage, found_under}
use Rattle.arch_defs.specs.Traps.{entered_at, entered_hs, entered_vs, exception, is_delegated, is_guest_page_fault, is_virtual, target}
use Rattle.csr_file.proofs.Statuses.{hedeleg_under}
use Rattle.instruction_laws.specs.HostPlaces.{in_ram, memory_place}
use Rattle.instruction_laws.specs.Renaming.{ReservesWithin, reservation_renamed}
use Rattle.world_switch.specs.Hosting.{after_hs_trap, guest_state_after, guest_state_of, hart_state_of, hosted_csrs, hosted_level, hosted_mode, own_address, saved_csrs, saved_mode, saved_reservation}
use Rattle.world_switch.specs.Laws.{ExceptionsAlike, InterruptsAlike, IsVirtual, LoadAfterSave, NestedTrapsAlike, SaveAfterLoad, SavesBack, SavesOwn, TakesAlike, TranslatesAlike, hidden}

-- modes
pub virtual_mode : (mode : Mode) → is_virtual (hosted_mode mode) ≡ true
virtual_mode HS = refl
virtual_mode U = refl
virtual_mode VS = refl
virtual_mode VU = refl

pub same_mode : (mode : Mode) → saved_mode (is_virtual mode) (hosted_mode mode) ≡ mode
same_mode HS = refl
same_mode U = refl
same_mode VS = refl
same_mode VU = refl

hosted_again : (virtual : Bool) (mode : Mode) → is_virtual mode ≡ true → hosted_mode (saved_mode virtual mode) ≡ mode
hosted_again virtual HS on = cc
hosted_again virtual U on = cc
hosted_again false VS on = refl
hosted_again false VU on = refl
hosted_again true VS on = refl
hosted_again true VU on = refl

-- what is saved has the guest's V
pub saved_v : (virtual : Bool) (mode : Mode) → is_virtual (saved_mode virtual mode) ≡ virtual
saved_v false HS = refl
saved_v false U = refl
saved_v false VS = refl
saved_v false VU = refl
saved_v true HS = refl
saved_v true U = refl
saved_v true VS = refl
saved_v true VU = refl

pub is_virtual_on_hart : IsVirtual
is_virtual_on_hart = record {
  hs = λ root v is. ap hosted_mode is;
  u = λ root v is. ap hosted_mode is;
  vs = λ root v is. ap hosted_mode is;
  vu = λ root v is. ap hosted_mode is;
}

-- registers that were loaded and saved
pub same_csrs : (root : GuestRoot) (virtual : Bool) (csrs : Csrs) → saved_csrs virtual (hosted_csrs root virtual csrs) csrs ≡ csrs
same_csrs root false csrs = refl
same_csrs root true csrs = refl

pub save_after_load : SaveAfterLoad
save_after_load = λ root v. rw (same_mode v.mode, same_csrs root (is_virtual v.mode) v.csrs) refl

-- a place of a guest's RAM in machine memory is that of one guest physical address
inside : (blocks : List ℕ) (x : ℕ) → in_ram blocks x ≡ true → (ram_base ≤ x) × (x < ram_base + length blocks * block_size)
inside blocks x held = let both = and_parts (nat_le ram_base x) (nat_lt x (ram_base + length blocks * block_size)) held in
    (leb-true ram_base x both.0, ltb-true x (ram_base + length blocks * block_size) both.1)

at_block : (blocks : List ℕ) (k n : ℕ) → IsDistinct blocks → k < length blocks → n ≡ get_or blocks k 0 → position (λ block. block == n) blocks ≡ Some k
at_block blocks k n distinct there is =
    let first : position_or_len (λ block. block == n) blocks ≡ k = position_or_len_is (λ block. block == n) blocks k 0 (omega (arith, there))
    (λ j before. ne_eqb (get_or blocks j 0) n (λ same. absurd (omega (arith, before, distinct j k (omega (arith, before, there)) there (same ∙ is)))))
    (λ below. eq-eqb (get_or blocks k 0) n (sym is)) in
    rw (first, lt-ltb k (length blocks) there) refl

pub own_again : (blocks : List ℕ) (x : ℕ) → IsDistinct blocks → in_ram blocks x ≡ true → own_address blocks (memory_place blocks x) ≡ Some x
own_again blocks x distinct held =
    let k : ℕ = (x - ram_base) / block_size in
    let block : ℕ = get_or blocks k 0 in
    let bounds = inside blocks x held in
    let there : k < length blocks = omega (arith, bounds) in
    let number : (block * block_size + (x - ram_base) % block_size) / block_size ≡ block = omega arith in
    ap (option_map (λ i. ram_base + i * block_size + memory_place blocks x % block_size)) (at_block blocks k (memory_place blocks x / block_size) distinct there number)
    ∙ ap Some (omega (arith, bounds))

reservation_again : (part : Layout) → IsDistinct part.blocks → (reservation : Option (ℕ × ℕ)) → ReservesWithin (in_ram part.blocks) reservation
    → saved_reservation part (reservation_renamed (memory_place part.blocks) reservation) ≡ reservation
reservation_again part distinct None held = refl
reservation_again part distinct (Some (x, bytes)) held = ap (option_map (λ address. (address, bytes))) (own_again part.blocks x distinct held)

-- so with the reservation at its place in machine memory
pub saves_own : SavesOwn
saves_own = λ part own before names held.
    ap (λ reservation. record (guest_state_of own before) { reservation = reservation }) (reservation_again part names.distinct own.reservation held)

pub saves_back : SavesBack
saves_back = λ part root v names held. saves_own part (hart_state_of root v) v names held ∙ save_after_load root v

-- registers that were saved and loaded
csrs_again : (root : GuestRoot) (virtual : Bool) (csrs hart : Csrs) → hidden hart ≡ hidden (hosted_csrs root virtual csrs)
    → hosted_csrs root virtual (saved_csrs virtual hart csrs) ≡ hart
csrs_again root false csrs hart same = ap {A = Csrs} (λ c. record c {
  vs = hart.vs;
  hie = hart.hie;
  hvip = hart.hvip;
  scounteren_tm = hart.scounteren_tm;
  senvcfg_fiom = hart.senvcfg_fiom;
}) (sym same)
csrs_again root true csrs hart same = ap {A = Csrs} (λ c. record c {
  vs = hart.vs;
  hie = hart.hie;
  hvip = hart.hvip;
  scounteren_tm = hart.scounteren_tm;
  senvcfg_fiom = hart.senvcfg_fiom;
}) (sym same)

-- the registers of what is loaded after that, by its V
loaded_again : (root : GuestRoot) (virtual other : Bool) (csrs hart : Csrs) → other ≡ virtual → hidden hart ≡ hidden (hosted_csrs root virtual csrs)
    → hosted_csrs root other (saved_csrs virtual hart csrs) ≡ hart
loaded_again root virtual other csrs hart e same = rw e (csrs_again root virtual csrs hart same)

pub load_after_save : LoadAfterSave
load_after_save = λ root v hart same on.
    let v_is = saved_v (is_virtual v.mode) hart.mode in
    rw (loaded_again root (is_virtual v.mode) _ v.csrs hart.csrs v_is same, hosted_again (is_virtual v.mode) hart.mode on) refl

-- with V = 0 the hart has no sstatus.MXR of its own
pub or_false : (b : Bool) → (b || false) ≡ b
or_false true = refl
or_false false = refl

-- an access is translated alike
translated : (root : GuestRoot) (second : SecondStage) (reading : Reading) (csrs : Csrs) (mode : Mode) (va : ℕ) (access : Access)
    → first_stage second reading (hosted_csrs root (is_virtual mode) csrs) (hosted_mode mode) va access ≡ first_stage second reading csrs mode va access
unfolding first_stage
translated root second reading csrs HS va access =
    ap (λ mxr. found_under second reading (record { user = false; sum = csrs.hs.status.sum; mxr = mxr }) va access csrs.hs.atp) (or_false csrs.hs.status.mxr)
translated root second reading csrs U va access =
    ap (λ mxr. found_under second reading (record { user = true; sum = csrs.hs.status.sum; mxr = mxr }) va access csrs.hs.atp) (or_false csrs.hs.status.mxr)
translated root second reading csrs VS va access = refl
translated root second reading csrs VU va access = refl

pub translates_alike : TranslatesAlike
translates_alike = translated

-- an exception without a guest physical address gives htval 0, whatever its code is
no_address : (b : Bool) → ◌≡◌ {A = ℕ} (cond b 0 0) 0
no_address true = refl
no_address false = refl

-- with V = 0 an entry into VS, fixed up, is one into the guest's HS
exception_entered : (root : GuestRoot) (v : Virtual) (mode : Mode) (cause tval : ℕ) → is_virtual mode ≡ false
    → after_hs_trap (guest_state_of (entered_at (hart_state_of root (record v { mode = mode })) (exception (hosted_mode mode) cause tval) level.VS) (record v { mode = mode }))
    ≡ entered_at (record v { mode = mode }) (exception mode cause tval) level.HS
unfolding entered_hs entered_vs
exception_entered root v HS cause tval own =
    rw (no_address (is_guest_page_fault (exception HS cause tval))) refl
exception_entered root v U cause tval own =
    rw (no_address (is_guest_page_fault (exception U cause tval))) refl
exception_entered root v VS cause tval own = cc
exception_entered root v VU cause tval own = cc

pub exception_taken : (root : GuestRoot) (v : Virtual) (cause tval : ℕ) → is_virtual v.mode ≡ false
    → after_hs_trap (guest_state_of (entered_at (hart_state_of root v) (exception (hosted_mode v.mode) cause tval) level.VS) v)
    ≡ entered_at v (exception v.mode cause tval) level.HS
exception_taken root v cause tval own = exception_entered root v v.mode cause tval own

-- the code that VS sees
one_less : (code : ℕ) → code + 1 - 1 ≡ code
one_less code = omega arith

interrupt_entered : (root : GuestRoot) (v : Virtual) (mode : Mode) (code : ℕ) → is_virtual mode ≡ false
    → after_hs_trap (guest_state_of (entered_at (hart_state_of root (record v { mode = mode })) (interrupt_of (code + 1)) level.VS) (record v { mode = mode }))
    ≡ entered_at (record v { mode = mode }) (interrupt_of code) level.HS
unfolding entered_hs entered_vs
interrupt_entered root v HS code own = rw (one_less code) refl
interrupt_entered root v U code own = rw (one_less code) refl
interrupt_entered root v VS code own = cc
interrupt_entered root v VU code own = cc

pub interrupt_taken : (root : GuestRoot) (v : Virtual) (code : ℕ) → is_virtual v.mode ≡ false
    → after_hs_trap (guest_state_of (entered_at (hart_state_of root v) (interrupt_of (code + 1)) level.VS) v)
    ≡ entered_at v (interrupt_of code) level.HS
interrupt_taken root v code own = interrupt_entered root v v.mode code own

-- with V = 1 it is one into the guest's VS
nested_entered : (root : GuestRoot) (v : Virtual) (mode : Mode) (trap : Trap) → is_virtual mode ≡ true
    → guest_state_of (entered_at (hart_state_of root (record v { mode = mode })) trap level.VS) (record v { mode = mode })
    ≡ entered_at (record v { mode = mode }) trap level.VS
unfolding entered_vs
nested_entered root v HS trap on = cc
nested_entered root v U trap on = cc
nested_entered root v VS trap on = refl
nested_entered root v VU trap on = refl

pub nested_trap_taken : (root : GuestRoot) (v : Virtual) (trap : Trap) → is_virtual v.mode ≡ true
    → guest_state_of (entered_at (hart_state_of root v) trap level.VS) v ≡ entered_at v trap level.VS
nested_trap_taken root v trap on = nested_entered root v v.mode trap on

-- what is taken back after a trap into VS, by the guest's V
pub back_own : (hart before : Virtual) → is_virtual before.mode ≡ false → guest_state_after true hart before ≡ after_hs_trap (guest_state_of hart before)
back_own hart before own = rw own refl

pub back_nested : (hart before : Virtual) → is_virtual before.mode ≡ true → guest_state_after true hart before ≡ guest_state_of hart before
back_nested hart before on = rw on refl

-- with V = 0 each trap goes to HS, for which the hart's VS stands
own_level : (csrs : Csrs) (mode : Mode) (trap : Trap) → is_virtual mode ≡ false → target csrs mode trap ≡ hosted_level (is_virtual mode)
unfolding target
own_level csrs HS trap own = refl
own_level csrs U trap own = refl
own_level csrs VS trap own = cc
own_level csrs VU trap own = cc

own_trap : (root : GuestRoot) (v : Virtual) (on_hart trap : Trap) → is_virtual v.mode ≡ false
    → after_hs_trap (guest_state_of (entered_at (hart_state_of root v) on_hart level.VS) v) ≡ entered_at v trap level.HS
    → TakesAlike root v on_hart trap
own_trap root v on_hart trap own same = record {
  goes = λ given. own_level v.csrs v.mode trap own;
  state = back_own (entered_at (hart_state_of root v) on_hart level.VS) v own ∙ same ∙ sym (ap (λ virtual. entered_at v trap (hosted_level virtual)) own);
}

pub exceptions_alike : ExceptionsAlike
exceptions_alike = λ root v cause tval own. own_trap root v _ _ own (exception_taken root v cause tval own)

pub interrupts_alike : InterruptsAlike
interrupts_alike = λ root v code own. own_trap root v _ _ own (interrupt_taken root v code own)

-- with V = 1 the hart delegates what the guest does
kept_code : (code hedeleg : ℕ) → bit code (hedeleg_bits hedeleg) ≡ true → bit code hedeleg ≡ true
kept_code code hedeleg given =
    let kept : hedeleg_bits hedeleg / 2 ^ code % 2 ≡ min (hedeleg / 2 ^ code % 2) (0xB1FF / 2 ^ code % 2) = rw (← hedeleg_under hedeleg) (bit_at_and hedeleg 0xB1FF code) in
    let one = eqb-true (hedeleg_bits hedeleg / 2 ^ code % 2) 1 given in
    eq-eqb (hedeleg / 2 ^ code % 2) 1 (omega (arith, kept, one))

second : (a b c : Bool) → (b ≡ true → c ≡ true) → (a && b) ≡ true → (a && c) ≡ true
second true b c kept given = kept given
second false b c kept given = given

to_vs : (b c : Bool) → (b ≡ true → c ≡ true) → (if b then level.VS else level.HS) ≡ level.VS → (if c then level.VS else level.HS) ≡ level.VS
to_vs true c kept given = rw (kept refl) refl
to_vs false c kept given = cc

nested_delegated : (root : GuestRoot) (csrs : Csrs) (interrupt : Bool) (code : ℕ)
    → is_delegated (hosted_csrs root true csrs) interrupt code ≡ true → is_delegated csrs interrupt code ≡ true
nested_delegated root csrs true code given = given
nested_delegated root csrs false code given = second (nat_lt code 64) _ _ (kept_code code csrs.hedeleg) given

nested_level : (root : GuestRoot) (csrs : Csrs) (mode : Mode) (trap : Trap) → is_virtual mode ≡ true
    → target (hosted_csrs root (is_virtual mode) csrs) (hosted_mode mode) trap ≡ level.VS → target csrs mode trap ≡ hosted_level (is_virtual mode)
unfolding target
nested_level root csrs HS trap on given = cc
nested_level root csrs U trap on given = cc
nested_level root csrs VS trap on given = to_vs _ _ (nested_delegated root csrs trap.interrupt trap.cause) given
nested_level root csrs VU trap on given = to_vs _ _ (nested_delegated root csrs trap.interrupt trap.cause) given

pub nested_traps_alike : NestedTrapsAlike
nested_traps_alike = λ root v trap on. record {
  goes = nested_level root v.csrs v.mode trap on;
  state =
      back_nested (entered_at (hart_state_of root v) trap level.VS) v on ∙ nested_trap_taken root v trap on
      ∙ sym (ap (λ virtual. entered_at v trap (hosted_level virtual)) on);
}
