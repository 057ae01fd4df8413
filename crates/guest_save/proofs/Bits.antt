-- Registers and flags as numbers, read again.
use Rattle.std.proofs.Common.{◌≡◌, ℕ, ◌+◌, ◌*◌, ◌/◌, ◌%◌, ◌^◌, ◌<◌, ◌≤◌, Bool, true, false, refl, arith}
use Rattle.arch_defs.specs.declared.cached.Entry.{Entry}
use Rattle.arch_defs.specs.declared.first.FirstEntry.{FirstEntry}
use Rattle.arch_defs.specs.declared.registers.HypervisorStatus.{HypervisorStatus}
use Rattle.arch_defs.specs.declared.registers.Interrupts.{Interrupts}
use Rattle.arch_defs.specs.declared.registers.SupervisorStatus.{SupervisorStatus}
use Rattle.arch_defs.specs.Bits.{bit, bit_number, field}
use Rattle.arch_defs.specs.CsrBits.{hip_bits, hstatus_bits, hstatus_of, sip_bits, sstatus_bits, sstatus_of, supervisor_interrupts, virtual_interrupts}
use Rattle.guest_save.specs.Forms.{first_flags_of, flags_of}

abbrev one : Bool → ℕ
one true = 1
one false = 0

one_small : (b : Bool) → one b ≤ 1
one_small true = omega arith
one_small false = omega arith

worth : (i : ℕ) (b : Bool) → bit_number i b ≡ 2 ^ i * one b
worth i true = omega arith
worth i false = omega arith

bit_is : (i v : ℕ) (b : Bool) → v / 2 ^ i % 2 ≡ one b → bit i v ≡ b
bit_is i v true is = rw is refl
bit_is i v false is = rw is refl

five_fields : (v a b c d e : ℕ) → a ≤ 1 → b ≤ 1 → c ≤ 1 → d ≤ 1 → e ≤ 1 → v ≡ 2 * a + 32 * b + 256 * c + 262144 * d + 524288 * e + 8589934592
    → (v / 2 % 2 ≡ a) × (v / 32 % 2 ≡ b) × (v / 256 % 2 ≡ c) × (v / 262144 % 2 ≡ d) × (v / 524288 % 2 ≡ e)
five_fields v a b c d e of_a of_b of_c of_d of_e is = (omega arith, omega arith, omega arith, omega arith, omega arith)

pub sstatus_again : (s : SupervisorStatus) → sstatus_of (sstatus_bits s) ≡ s
unfolding sstatus_of sstatus_bits
sstatus_again s =
    let f = five_fields (sstatus_bits s) (one s.sie) (one s.spie) (one s.spp) (one s.sum) (one s.mxr)
    (one_small s.sie) (one_small s.spie) (one_small s.spp) (one_small s.sum) (one_small s.mxr)
    (omega (arith, worth 1 s.sie, worth 5 s.spie, worth 8 s.spp, worth 18 s.sum, worth 19 s.mxr)) in
    let sie = bit_is 1 (sstatus_bits s) s.sie f.0 in
    let spie = bit_is 5 (sstatus_bits s) s.spie f.1 in
    let spp = bit_is 8 (sstatus_bits s) s.spp f.2 in
    let sum = bit_is 18 (sstatus_bits s) s.sum f.3 in
    let mxr = bit_is 19 (sstatus_bits s) s.mxr f.4 in
    λ i. record { sie = sie i; spie = spie i; spp = spp i; sum = sum i; mxr = mxr i }

seven_fields : (v a b c d e f g : ℕ) → a ≤ 1 → b ≤ 1 → c ≤ 1 → d ≤ 1 → e ≤ 1 → f ≤ 1 → g ≤ 1
    → v ≡ 64 * a + 128 * b + 256 * c + 512 * d + 1048576 * e + 2097152 * f + 4194304 * g + 8589934592
    → (v / 64 % 2 ≡ a) × (v / 128 % 2 ≡ b) × (v / 256 % 2 ≡ c) × (v / 512 % 2 ≡ d) × (v / 1048576 % 2 ≡ e) × (v / 2097152 % 2 ≡ f) × (v / 4194304 % 2 ≡ g)
seven_fields v a b c d e f g of_a of_b of_c of_d of_e of_f of_g is =
    (omega arith, omega arith, omega arith, omega arith, omega arith, omega arith, omega arith)

pub hstatus_again : (s : HypervisorStatus) → hstatus_of (hstatus_bits s) ≡ s
unfolding hstatus_of hstatus_bits
hstatus_again s =
    let f = seven_fields (hstatus_bits s) (one s.gva) (one s.spv) (one s.spvp) (one s.hu) (one s.vtvm) (one s.vtw) (one s.vtsr)
    (one_small s.gva) (one_small s.spv) (one_small s.spvp) (one_small s.hu) (one_small s.vtvm) (one_small s.vtw) (one_small s.vtsr)
    (omega (arith, worth 6 s.gva, worth 7 s.spv, worth 8 s.spvp, worth 9 s.hu, worth 20 s.vtvm, worth 21 s.vtw, worth 22 s.vtsr)) in
    let gva = bit_is 6 (hstatus_bits s) s.gva f.0 in
    let spv = bit_is 7 (hstatus_bits s) s.spv f.1 in
    let spvp = bit_is 8 (hstatus_bits s) s.spvp f.2 in
    let hu = bit_is 9 (hstatus_bits s) s.hu f.3 in
    let vtvm = bit_is 20 (hstatus_bits s) s.vtvm f.4 in
    let vtw = bit_is 21 (hstatus_bits s) s.vtw f.5 in
    let vtsr = bit_is 22 (hstatus_bits s) s.vtsr f.6 in
    λ i. record { gva = gva i; spv = spv i; spvp = spvp i; hu = hu i; vtvm = vtvm i; vtw = vtw i; vtsr = vtsr i }

supervisor_fields : (v a b c : ℕ) → a ≤ 1 → b ≤ 1 → c ≤ 1 → v ≡ 2 * a + 32 * b + 512 * c → (v / 2 % 2 ≡ a) × (v / 32 % 2 ≡ b) × (v / 512 % 2 ≡ c)
supervisor_fields v a b c of_a of_b of_c is = (omega arith, omega arith, omega arith)

pub supervisor_interrupts_again : (s : Interrupts) → supervisor_interrupts (sip_bits s) ≡ s
unfolding supervisor_interrupts sip_bits
supervisor_interrupts_again s =
    let f = supervisor_fields (sip_bits s) (one s.software) (one s.timer) (one s.external) (one_small s.software) (one_small s.timer) (one_small s.external)
    (omega (arith, worth 1 s.software, worth 5 s.timer, worth 9 s.external)) in
    let software = bit_is 1 (sip_bits s) s.software f.0 in
    let timer = bit_is 5 (sip_bits s) s.timer f.1 in
    let external = bit_is 9 (sip_bits s) s.external f.2 in
    λ i. record { software = software i; timer = timer i; external = external i }

virtual_fields : (v a b c : ℕ) → a ≤ 1 → b ≤ 1 → c ≤ 1 → v ≡ 4 * a + 64 * b + 1024 * c → (v / 4 % 2 ≡ a) × (v / 64 % 2 ≡ b) × (v / 1024 % 2 ≡ c)
virtual_fields v a b c of_a of_b of_c is = (omega arith, omega arith, omega arith)

pub virtual_interrupts_again : (s : Interrupts) → virtual_interrupts (hip_bits s) ≡ s
unfolding virtual_interrupts hip_bits
virtual_interrupts_again s =
    let f = virtual_fields (hip_bits s) (one s.software) (one s.timer) (one s.external) (one_small s.software) (one_small s.timer) (one_small s.external)
    (omega (arith, worth 2 s.software, worth 6 s.timer, worth 10 s.external)) in
    let software = bit_is 2 (hip_bits s) s.software f.0 in
    let timer = bit_is 6 (hip_bits s) s.timer f.1 in
    let external = bit_is 10 (hip_bits s) s.external f.2 in
    λ i. record { software = software i; timer = timer i; external = external i }

-- a register of one bit
pub first_again : (b : Bool) → bit 0 (bit_number 0 b) ≡ b
first_again true = refl
first_again false = refl

pub second_again : (b : Bool) → bit 1 (bit_number 1 b) ≡ b
second_again true = refl
second_again false = refl

-- what an entry permits, and its level
permissions : (v a b c l : ℕ) → a ≤ 1 → b ≤ 1 → c ≤ 1 → l < 256 → v ≡ a + 2 * b + 4 * c + 8 * l → (v / 1 % 2 ≡ a) × (v / 2 % 2 ≡ b) × (v / 4 % 2 ≡ c) × (v / 8 % 256 ≡ l)
permissions v a b c l of_a of_b of_c of_l is = (omega arith, omega arith, omega arith, omega arith)

pub record AreFlags (e : Entry) (flags : ℕ) : Type 0 where
  pub r : bit 0 flags ≡ e.r
  pub w : bit 1 flags ≡ e.w
  pub x : bit 2 flags ≡ e.x
  pub level : field 3 8 flags ≡ e.level

pub flags_again : (e : Entry) → e.level < 256 → AreFlags e (flags_of e)
flags_again e small =
    let f = permissions (flags_of e) (one e.r) (one e.w) (one e.x) e.level (one_small e.r) (one_small e.w) (one_small e.x) small
    (omega (arith, worth 0 e.r, worth 1 e.w, worth 2 e.x)) in
    record { r = bit_is 0 (flags_of e) e.r f.0; w = bit_is 1 (flags_of e) e.w f.1; x = bit_is 2 (flags_of e) e.x f.2; level = f.3 }

pub flags_small : (e : Entry) → e.level < 256 → flags_of e < 2 ^ 64
flags_small e small =
    omega (arith, worth 0 e.r, worth 1 e.w, worth 2 e.x, one_small e.r, one_small e.w, one_small e.x)

-- what a first-stage translation permits, and its level
first_permissions : (v a b c l d : ℕ) → a ≤ 1 → b ≤ 1 → c ≤ 1 → l < 4 → d ≤ 1 → v ≡ a + 2 * b + 4 * c + 8 * l + 32 * d
    → (v / 1 % 2 ≡ a) × (v / 2 % 2 ≡ b) × (v / 4 % 2 ≡ c) × (v / 8 % 4 ≡ l) × (v / 32 % 2 ≡ d)
first_permissions v a b c l d of_a of_b of_c of_l of_d is = (omega arith, omega arith, omega arith, omega arith, omega arith)

pub record AreFirstFlags (e : FirstEntry) (flags : ℕ) : Type 0 where
  pub r : bit 0 flags ≡ e.r
  pub w : bit 1 flags ≡ e.w
  pub x : bit 2 flags ≡ e.x
  pub u : bit 5 flags ≡ e.u
  pub level : field 3 2 flags ≡ e.level

pub first_flags_again : (e : FirstEntry) → e.level < 4 → AreFirstFlags e (first_flags_of e)
first_flags_again e small =
    let flags = first_flags_of e in
    let f = first_permissions flags (one e.r) (one e.w) (one e.x) e.level (one e.u) (one_small e.r) (one_small e.w) (one_small e.x) small (one_small e.u)
    (omega (arith, worth 0 e.r, worth 1 e.w, worth 2 e.x, worth 5 e.u)) in
    record { r = bit_is 0 flags e.r f.0; w = bit_is 1 flags e.w f.1; x = bit_is 2 flags e.x f.2; u = bit_is 5 flags e.u f.4; level = f.3 }

pub first_flags_small : (e : FirstEntry) → e.level < 4 → first_flags_of e < 2 ^ 64
first_flags_small e small =
    omega (arith, worth 0 e.r, worth 1 e.w, worth 2 e.x, worth 5 e.u, one_small e.r, one_small e.w, one_small e.x, one_small e.u)
