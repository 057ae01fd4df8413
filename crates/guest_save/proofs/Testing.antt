-- What tests find of a machine that was read.
use Rattle.std.specs.List.{All, AllPairs}
use Rattle.std.specs.Prelude.{◌↔◌, IsTrue}
use Rattle.std.specs.List.Sorted.{IsNonDecreasingBy}
use Rattle.std.proofs.Common.{◌≡◌, ℕ, ◌+◌, ◌-◌, ◌^◌, ◌<◌, ◌≤◌, ◌⊎◌, inl, inr, Bool, true, false, List, length, take, get_or, refl, ap, ◌∙◌, subst, sym, arith}
use Rattle.std.proofs.Math.Nat.{min-le_left}
use Rattle.std.proofs.lemmas.List.{get_or-take, get_or_default, length-take, length-take-le, take_all, take_more}
use Rattle.std.proofs.lemmas.List.Sorted.{IsNonDecreasingBy-push}
use Rattle.std.proofs.lemmas.List.Quantifiers.{all_pairs_push}
use Rattle.std.proofs.lemmas.Bool.{cases_lt, false≢true}
use Rattle.std.proofs.lemmas.List.Elements.{All-more, All-weaker}
use Rattle.arch_defs.specs.CsrBits.{guest_root_of, hgatp_bits}
use Rattle.arch_defs.specs.Spaces.{Space}
use Rattle.guest_save.specs.declared.headers.Header.{Header}
use Rattle.guest_save.specs.declared.versions.Version.TheVariants.{Third}
use Rattle.guest_save.specs.Headers.{header_numbers, header_of}
use Rattle.guest_save.specs.Savable.{Fits, HasSizes, IsSavable, IsSavableSpace}
use Rattle.guest_save.specs.Tests.{HasSoundSpaces, IsRead, IsSoundPlatform, IsSoundSpace}
use Rattle.machine_defs.specs.Machine.{Machine}
use Rattle.run_laws.specs.FirstKeys.{HasFirst}

sound_space : (size room : ℕ) (device : Bool) (s : Space) → IsSavableSpace size room device s → IsSoundSpace size room device s
sound_space size room device s is = record { table = is.key.table; few = is.few; entries = is.entries; pages = is.pages }

savable_spaces : (size room : ℕ) (device : Bool) (spaces : List Space) → All (λ s. guest_root_of (hgatp_bits s.key) ≡ s.key) spaces → All (IsSoundSpace size room device) spaces
    → All (IsSavableSpace size room device) spaces
savable_spaces size room device spaces stored sound = λ k d within.
    let is = sound k d within in record {
      key = record { stored = stored k d within; table = is.table };
      few = is.few;
      entries = is.entries;
      pages = is.pages;
    }

-- what a machine that was read has to have beside, to be one that can be saved
pub record IsSound (m : Machine) : Type 0 where
  pub sizes : HasSizes (header_of m) (length m.ram)
  pub platform : IsSoundPlatform m.platform
  pub spaces : HasSoundSpaces (length m.ram) m
  pub first : HasFirst m.platform.virt.first

pub savable_from : (m : Machine) → IsRead m → length m.platform.virt.regs.x ≡ 32 → m.platform.virt.regs.pc < 2 ^ 64
    → All Fits (header_numbers Third (header_of m)) → IsSound m → IsSavable m
savable_from m read registers pc numbers sound = record {
  sizes = sound.sizes;
  console = sound.platform.console;
  inputs = record { count = read.inputs; moments = sound.platform.moments; order = sound.platform.order };
  registers = registers;
  virt = record {
    x0 = read.x0;
    pc = (sound.platform.pc, pc);
    csrs = read.csrs;
    reservation = sound.spaces.reservation.aligned;
  };
  numbers = numbers;
  lines = read.lines;
  steps = sound.platform.steps;
  clock = sound.platform.clock;
  reservation = sound.spaces.reservation.inside;
  few = sound.spaces.few;
  spaces = savable_spaces (length m.ram) m.entry_room m.device m.spaces read.keys sound.spaces.spaces;
  keys = sound.spaces.keys;
  front = sound.spaces.front;
  first = sound.first;
  storable = read.storable;
}

pub savable_sound : (m : Machine) → IsSavable m → IsSound m
savable_sound m savable = record {
  sizes = savable.sizes;
  platform = record {
    pc = savable.virt.pc.0;
    steps = savable.steps;
    clock = savable.clock;
    console = savable.console;
    moments = savable.inputs.moments;
    order = savable.inputs.order;
  };
  spaces = record {
    reservation = record { aligned = savable.virt.reservation; inside = savable.reservation };
    few = savable.few;
    spaces = All-weaker (IsSavableSpace (length m.ram) m.entry_room m.device) (IsSoundSpace (length m.ram) m.entry_room m.device) (sound_space (length m.ram) m.entry_room m.device) m.spaces savable.spaces;
    keys = savable.keys;
    front = savable.front;
  };
  first = savable.first;
}

-- loops that test each element: one more passed, one failed, and all passed
module _ {X : Type 0} (P : X → Type 0) (xs : List X) where
  pub test_passed : (i : ℕ) (d : X) (b : Bool) → i < length xs → (IsTrue b ↔ P (get_or xs i d)) → b ≡ true → All P (take i xs) → All P (take (i + 1) xs)
  test_passed i d b inside is passed before = All-more P xs i d inside before (is.0 passed)

  pub test_failed : (i : ℕ) (d : X) (b : Bool) → i < length xs → (IsTrue b ↔ P (get_or xs i d)) → b ≡ false → IsTrue false ↔ All P xs
  test_failed i d b inside is failed = (λ (h : IsTrue false). absurd (false≢true h), λ (all : All P xs). sym failed ∙ is.1 (all i d inside))

  pub test_done : (i : ℕ) → length xs ≤ i → All P (take i xs) → IsTrue true ↔ All P xs
  test_done i all before = (λ (h : IsTrue true). rw (take_all i xs all) at before, λ (h : All P xs). refl)

-- and each pair of elements
module _ {X : Type 0} (R : X → X → Type 0) (xs : List X) where
  pub pairs_passed : (i : ℕ) (d : X) (b : Bool) → i < length xs → (IsTrue b ↔ All (λ (other : X). R other (get_or xs i d)) (take i xs)) → b ≡ true
      → AllPairs R (take i xs) → AllPairs R (take (i + 1) xs)
  pairs_passed i d b inside is passed before =
      let others : All (λ (other : X). R other (get_or xs i d)) (take i xs) = is.0 passed in
      subst (λ (ys : List X). AllPairs R ys) (sym (take_more xs i d inside)) (all_pairs_push R (take i xs) (get_or xs i d) before others)

  pub pairs_failed : (i : ℕ) (d : X) (b : Bool) → i < length xs → (IsTrue b ↔ All (λ (other : X). R other (get_or xs i d)) (take i xs)) → b ≡ false
      → IsTrue false ↔ AllPairs R xs
  pairs_failed i d b inside is failed = (λ (h : IsTrue false). absurd (false≢true h), λ (all : AllPairs R xs). sym failed ∙ is.1 (earlier all))
    where
      earlier : AllPairs R xs → All (λ (other : X). R other (get_or xs i d)) (take i xs)
      earlier all k e within =
          let below : k < i = omega (arith, length-take i xs, min-le_left i (length xs), within) in
          let same : get_or (take i xs) k e ≡ get_or xs k d = get_or-take i xs k e below ∙ get_or_default xs k e d (omega (arith, below, inside)) in
          subst (λ (x : X). R x (get_or xs i d)) (sym same) (all k i d below inside)

  pub pairs_done : (i : ℕ) → length xs ≤ i → AllPairs R (take i xs) → IsTrue true ↔ AllPairs R xs
  pairs_done i all before = (λ (h : IsTrue true). rw (take_all i xs all) at before, λ (h : AllPairs R xs). refl)

-- inputs up to a place: none is too late, and none earlier than the one before, of which this is the moment
pub record Rise (xs : List (ℕ × ℕ)) (i before : ℕ) : Type 0 where
  pub early : All (λ input. input.0 < 2 ^ 62) (take i xs)
  pub order : IsNonDecreasingBy (λ input. input.0) (take i xs)
  pub last : (d : ℕ × ℕ) → 0 < i → (get_or xs (i - 1) d).0 ≡ before
  pub none : i ≡ 0 → before ≡ 0

pub rise_none : (xs : List (ℕ × ℕ)) → Rise xs 0 0
rise_none xs = record {
  early = λ k d within. absurd (omega arith);
  order = λ i j d before within. absurd (omega arith);
  last = λ d some. absurd (omega arith);
  none = λ is. refl;
}

pub rise_more : (xs : List (ℕ × ℕ)) (i before : ℕ) (d : ℕ × ℕ) → Rise xs i before → i < length xs → (get_or xs i d).0 < 2 ^ 62 → before ≤ (get_or xs i d).0
    → Rise xs (i + 1) (get_or xs i d).0
rise_more xs i before d rise inside early later = record {
  early = All-more (λ (input : ℕ × ℕ). input.0 < 2 ^ 62) xs i d inside rise.early early;
  order = subst (λ (ys : List (ℕ × ℕ)). IsNonDecreasingBy (λ input. input.0) ys) (sym (take_more xs i d inside))
      (IsNonDecreasingBy-push (λ (input : ℕ × ℕ). input.0) (take i xs) (get_or xs i d) rise.order above);
  last = λ e some. let place : i + 1 - 1 ≡ i = omega arith in
      ap (λ (n : ℕ). (get_or xs n e).0) place ∙ ap (λ (input : ℕ × ℕ). input.0) (get_or_default xs i e d inside);
  none = λ is. absurd (omega (arith, is));
}
  where
    above : (e : ℕ × ℕ) → 0 < length (take i xs) → (get_or (take i xs) (length (take i xs) - 1) e).0 ≤ (get_or xs i d).0
    above e some =
        let size : length (take i xs) ≡ i = length-take-le i xs (omega (arith, inside)) in
        let last : get_or (take i xs) (length (take i xs) - 1) e ≡ get_or xs (i - 1) e =
        ap (λ (n : ℕ). get_or (take i xs) (n - 1) e) size ∙ get_or-take i xs (i - 1) e (omega (arith, size, some)) in
        let is : (get_or (take i xs) (length (take i xs) - 1) e).0 ≡ before = ap (λ (input : ℕ × ℕ). input.0) last ∙ rise.last e (omega (arith, size, some)) in
        omega (arith, is, later)

pub rise_falls : (xs : List (ℕ × ℕ)) (i before : ℕ) (d : ℕ × ℕ) → Rise xs i before → i < length xs → (get_or xs i d).0 < before
    → IsNonDecreasingBy (λ input. input.0) xs → ⊥
rise_falls xs i before d rise inside falls order = by (cases_lt 0 i)
  where
    by : (0 < i) ⊎ (i ≤ 0) → ⊥
    by (inl some) = omega (arith, rise.last d some, order (i - 1) i d (omega arith) inside, falls)
    by (inr none) = omega (arith, rise.none (omega (arith, none)), falls)

pub all_early : (xs : List (ℕ × ℕ)) (i before : ℕ) → Rise xs i before → length xs ≤ i → All (λ input. input.0 < 2 ^ 62) xs
all_early xs i before rise all = subst (λ (ys : List (ℕ × ℕ)). All (λ input. input.0 < 2 ^ 62) ys) (take_all i xs all) rise.early

pub all_in_order : (xs : List (ℕ × ℕ)) (i before : ℕ) → Rise xs i before → length xs ≤ i → IsNonDecreasingBy (λ input. input.0) xs
all_in_order xs i before rise all = subst (λ (ys : List (ℕ × ℕ)). IsNonDecreasingBy (λ input. input.0) ys) (take_all i xs all) rise.order

-- the four tests of a machine that was read, by its header and the size of its RAM
pub savable_by : (m : Machine) (h : Header) (size : ℕ) (b : Bool) → IsRead m → header_of m ≡ h → size ≡ length m.ram → length h.state.regs.x ≡ 32 → h.state.regs.pc < 2 ^ 64
    → All Fits (header_numbers Third h) → HasSizes h size → IsSoundPlatform m.platform → HasFirst m.platform.virt.first → (IsTrue b ↔ HasSoundSpaces size m) → IsTrue b ↔ IsSavable m
savable_by m h size b read same ram registers pc numbers sizes platform first is =
    let own_registers = ap (λ (x : Header). length x.state.regs.x) same ∙ registers in
    let own_pc : m.platform.virt.regs.pc < 2 ^ 64 = omega (arith, ap (λ (x : Header). x.state.regs.pc) same, pc) in
    let own_numbers = subst (λ (x : Header). All Fits (header_numbers Third x)) (sym same) numbers in
    let own_sizes = subst (λ (x : Header). HasSizes x (length m.ram)) (sym same) (subst (λ (n : ℕ). HasSizes h n) ram sizes) in
    let own_spaces = subst (λ (n : ℕ). IsTrue b ↔ HasSoundSpaces n m) ram is in (
      λ (holds : IsTrue b). savable_from m read own_registers own_pc own_numbers (record { sizes = own_sizes; platform = platform; spaces = own_spaces.0 holds; first = first }),
      λ (savable : IsSavable m). own_spaces.1 (savable_sound m savable).spaces,
    )
