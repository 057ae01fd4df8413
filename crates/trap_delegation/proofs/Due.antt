-- The due interrupt.
use Rattle.std.specs.Prelude.{ℕ, ◌≡◌, ◌&&◌, ◌||◌, ◌⊎◌, Bool, true, false, cond, if◌then◌else◌, Option, Some, None, List, [], ◌∷◌, find, refl}
use Rattle.std.proofs.Common.{inl, inr, arith, ap, ◌∙◌}
use Rattle.std.proofs.lemmas.Bool.Decides.{nat_tests}
use Rattle.std.specs.Option.{option_or}
use Rattle.arch_defs.specs.declared.levels.Level.TheVariants as level
use Rattle.arch_defs.specs.declared.modes.Mode.{Mode}
use Rattle.arch_defs.specs.declared.modes.Mode.TheVariants.{HS, U, VS, VU}
use Rattle.arch_defs.specs.declared.registers.Csrs.{Csrs}
use Rattle.arch_defs.specs.declared.registers.Interrupts.{Interrupts}
use Rattle.arch_defs.specs.Interrupts.{due, due_for_hs, due_for_vs, vs_bit, supervisor_bit, is_enabled, is_pending, is_ready_for_hs, is_ready_for_vs, hs_order, vs_order, takes}
use Rattle.arch_defs.specs.Registers.{clear_interrupts}
use Rattle.arch_defs.specs.Traps.{is_virtual, target}
use Rattle.trap_delegation.specs.Laws.{DueIsPending, DueIsEnabled, DueIsTaken, DueGoesToItsLevel, NothingDue, NoneIsMissed}

clash : (b : Bool) → b ≡ true → b ≡ false → ⊥
clash true p q = absurd cc
clash false p q = absurd cc

affirmed : (b : Bool) → (if b then false else true) ≡ false → b ≡ true
affirmed true h = refl
affirmed false h = absurd cc

-- what a search finds passes its test
found_passes : (p : ℕ → Bool) (y : ℕ) (ys : List ℕ) (x : ℕ) (b : Bool) → p y ≡ b → cond b (Some y) (find p ys) ≡ Some x → (find p ys ≡ Some x → p x ≡ true) → p x ≡ true
found_passes p y ys x true e h later = let same : y ≡ x = cc in cc
found_passes p y ys x false e h later = later h

find_passes : (p : ℕ → Bool) (xs : List ℕ) (x : ℕ) → find p xs ≡ Some x → p x ≡ true
find_passes p [] x h = absurd cc
find_passes p (y ∷ ys) x h = found_passes p y ys x (p y) refl h (find_passes p ys x)

all_three : (a b c : Bool) → (a && b && c) ≡ true → (a ≡ true) × (b ≡ true) × (c ≡ true)
all_three true true true h = (refl, refl, refl)
all_three true true false h = absurd cc
all_three true false c h = absurd cc
all_three false b c h = absurd cc

either : (a b : Option ℕ) (x : ℕ) → option_or a b ≡ Some x → (a ≡ Some x) ⊎ (b ≡ Some x)
either (Some y) b x h = inl h
either None b x h = inr h

open_gate : (t : Bool) (o : Option ℕ) (x : ℕ) → (if t then o else None) ≡ Some x → (t ≡ true) × (o ≡ Some x)
open_gate true o x h = (refl, h)
open_gate false o x h = absurd cc

negated : (b : Bool) → (if b then false else true) ≡ true → b ≡ false
negated true h = absurd cc
negated false h = refl

-- a due interrupt is ready for a level that takes it
record IsReady (csrs : Csrs) (mode : Mode) (code : ℕ) (delegated : Bool) : Type 0 where
  pending : is_pending csrs code ≡ true
  enabled : is_enabled csrs code ≡ true
  owned : vs_bit csrs.hideleg code ≡ delegated
  taken : takes csrs mode (if delegated then level.VS else level.HS) ≡ true

ready_for_hs : (csrs : Csrs) (mode : Mode) (code : ℕ) → due_for_hs csrs mode ≡ Some code → IsReady csrs mode code false
unfolding due_for_hs
ready_for_hs csrs mode code h =
    let gate = open_gate (takes csrs mode level.HS) (find (is_ready_for_hs csrs) hs_order) code h in
    let parts = all_three (is_pending csrs code) (is_enabled csrs code) (if vs_bit csrs.hideleg code then false else true) (find_passes (is_ready_for_hs csrs) hs_order code gate.1) in
    record { pending = parts.0; enabled = parts.1; owned = negated (vs_bit csrs.hideleg code) parts.2; taken = gate.0 }

ready_for_vs : (csrs : Csrs) (mode : Mode) (code : ℕ) → due_for_vs csrs mode ≡ Some code → IsReady csrs mode code true
unfolding due_for_vs
ready_for_vs csrs mode code h =
    let gate = open_gate (takes csrs mode level.VS) (find (is_ready_for_vs csrs) vs_order) code h in
    let parts = all_three (is_pending csrs code) (is_enabled csrs code) (vs_bit csrs.hideleg code) (find_passes (is_ready_for_vs csrs) vs_order code gate.1) in
    record { pending = parts.0; enabled = parts.1; owned = parts.2; taken = gate.0 }

due_is_ready : (csrs : Csrs) (mode : Mode) (code : ℕ) → due csrs mode ≡ Some code → (delegated : Bool) × IsReady csrs mode code delegated
unfolding due
due_is_ready csrs mode code h =
    elim (either (due_for_hs csrs mode) (due_for_vs csrs mode) code h)
    [ inl e ↦ (false, ready_for_hs csrs mode code e) | inr e ↦ (true, ready_for_vs csrs mode code e) ]

pub due_is_pending : DueIsPending
due_is_pending csrs mode code h = (due_is_ready csrs mode code h).1.pending

pub due_is_enabled : DueIsEnabled
due_is_enabled csrs mode code h = (due_is_ready csrs mode code h).1.enabled

taken_at : (csrs : Csrs) (mode : Mode) (a b : Bool) → a ≡ b → takes csrs mode (if b then level.VS else level.HS) ≡ true → takes csrs mode (if a then level.VS else level.HS) ≡ true
taken_at csrs mode true true e h = h
taken_at csrs mode false false e h = h
taken_at csrs mode true false e h = absurd cc
taken_at csrs mode false true e h = absurd cc

pub due_is_taken : DueIsTaken
due_is_taken csrs mode code h =
    let ready = due_is_ready csrs mode code h in
    taken_at csrs mode (vs_bit csrs.hideleg code) ready.0 ready.1.owned ready.1.taken

-- with V = 0 VS takes nothing
goes_at : (csrs : Csrs) (mode : Mode) (b : Bool) → takes csrs mode (if b then level.VS else level.HS) ≡ true → (if is_virtual mode && b then level.VS else level.HS) ≡ (if b then level.VS else level.HS)
goes_at csrs HS true h = absurd cc
goes_at csrs U true h = absurd cc
goes_at csrs VS true h = refl
goes_at csrs VU true h = refl
goes_at csrs HS false h = refl
goes_at csrs U false h = refl
goes_at csrs VS false h = refl
goes_at csrs VU false h = refl

pub due_goes_to_its_level : DueGoesToItsLevel
unfolding target
due_goes_to_its_level csrs mode code h = goes_at csrs mode (vs_bit csrs.hideleg code) (due_is_taken csrs mode code h)

-- a search that finds nothing
none_at : (b : Bool) (y : ℕ) (o : Option ℕ) → cond b (Some y) o ≡ None → (b ≡ false) × (o ≡ None)
none_at true y o h = absurd cc
none_at false y o h = (refl, h)

none_here : (p : ℕ → Bool) (y : ℕ) (ys : List ℕ) → find p (y ∷ ys) ≡ None → (p y ≡ false) × (find p ys ≡ None)
none_here p y ys h = none_at (p y) y (find p ys) h

-- the codes that have a bit
guest_codes : (bits : Interrupts) (code : ℕ) → vs_bit bits code ≡ true → (code ≡ 2) ⊎ (code ≡ 6) ⊎ (code ≡ 10)
guest_codes bits code h = grind (arith, nat_tests)

supervisor_codes : (bits : Interrupts) (code : ℕ) → supervisor_bit bits code ≡ true → (code ≡ 1) ⊎ (code ≡ 5) ⊎ (code ≡ 9)
supervisor_codes bits code h = grind (arith, nat_tests)

-- nothing is enabled where no bit is set
supervisor_clear : (bits : Interrupts) (code : ℕ) → bits ≡ clear_interrupts → supervisor_bit bits code ≡ true → ⊥
supervisor_clear bits code e h =
    let a : bits.software ≡ false = ap (λ (b : Interrupts). b.software) e in
    let b : bits.timer ≡ false = ap (λ (b : Interrupts). b.timer) e in
    let c : bits.external ≡ false = ap (λ (b : Interrupts). b.external) e in
    grind (arith, nat_tests)

guest_clear : (bits : Interrupts) (code : ℕ) → bits ≡ clear_interrupts → vs_bit bits code ≡ true → ⊥
guest_clear bits code e h =
    let a : bits.software ≡ false = ap (λ (b : Interrupts). b.software) e in
    let b : bits.timer ≡ false = ap (λ (b : Interrupts). b.timer) e in
    let c : bits.external ≡ false = ap (λ (b : Interrupts). b.external) e in
    grind (arith, nat_tests)

one_of : (a b : Bool) → (a || b) ≡ true → (a ≡ true) ⊎ (b ≡ true)
one_of true b h = inl refl
one_of false b h = inr h

none_of : (o : Option ℕ) → ((x : ℕ) → o ≡ Some x → ⊥) → o ≡ None
none_of (Some x) never = absurd (never x refl)
none_of None never = refl

pub nothing_due : NothingDue
nothing_due csrs mode e f = none_of (due csrs mode) (λ code h.
    elim (one_of (supervisor_bit csrs.sie code) (vs_bit csrs.hie code) (due_is_enabled csrs mode code h))
    [ inl p ↦ supervisor_clear csrs.sie code e p | inr p ↦ guest_clear csrs.hie code f p ])

-- and nothing where nothing is pending
pub nothing_pending : (csrs : Csrs) (mode : Mode) → csrs.sip ≡ clear_interrupts → csrs.hvip ≡ clear_interrupts → due csrs mode ≡ None
nothing_pending csrs mode e f = none_of (due csrs mode) (λ code h.
    elim (one_of (supervisor_bit csrs.sip code) (vs_bit csrs.hvip code) (due_is_pending csrs mode code h))
    [ inl p ↦ supervisor_clear csrs.sip code e p | inr p ↦ guest_clear csrs.hvip code f p ])

-- an interrupt that the orders hold and that is ready is found
neither : (a b : Option ℕ) → option_or a b ≡ None → (a ≡ None) × (b ≡ None)
neither (Some y) b h = absurd cc
neither None b h = (refl, h)

shut_gate : (t : Bool) (o : Option ℕ) → (if t then o else None) ≡ None → (t ≡ false) ⊎ (o ≡ None)
shut_gate true o h = inr h
shut_gate false o h = inl refl

not_found_for_vs : (p : ℕ → Bool) (code : ℕ) → find p vs_order ≡ None → (code ≡ 2) ⊎ (code ≡ 6) ⊎ (code ≡ 10) → p code ≡ false
not_found_for_vs p code h e =
    let one = none_here p 10 (2 ∷ 6 ∷ []) h in
    let two = none_here p 2 (6 ∷ []) one.1 in
    let three = none_here p 6 [] two.1 in
    elim e [ inl a ↦ ap p a ∙ two.0 | inr (inl b) ↦ ap p b ∙ three.0 | inr (inr c) ↦ ap p c ∙ one.0 ]

not_found_for_hs : (p : ℕ → Bool) (code : ℕ) → find p hs_order ≡ None → ((code ≡ 1) ⊎ (code ≡ 5) ⊎ (code ≡ 9)) ⊎ ((code ≡ 2) ⊎ (code ≡ 6) ⊎ (code ≡ 10)) → p code ≡ false
not_found_for_hs p code h e =
    let one = none_here p 9 (1 ∷ 5 ∷ vs_order) h in
    let two = none_here p 1 (5 ∷ vs_order) one.1 in
    let three = none_here p 5 vs_order two.1 in
    elim e [
      | inl (inl a) ↦ ap p a ∙ two.0
      | inl (inr (inl b)) ↦ ap p b ∙ three.0
      | inl (inr (inr c)) ↦ ap p c ∙ one.0
      | inr g ↦ not_found_for_vs p code three.1 g
    ]

pending_codes : (csrs : Csrs) (code : ℕ) → is_pending csrs code ≡ true → ((code ≡ 1) ⊎ (code ≡ 5) ⊎ (code ≡ 9)) ⊎ ((code ≡ 2) ⊎ (code ≡ 6) ⊎ (code ≡ 10))
pending_codes csrs code h =
    elim (one_of (supervisor_bit csrs.sip code) (vs_bit csrs.hvip code) h)
    [ inl p ↦ inl (supervisor_codes csrs.sip code p) | inr p ↦ inr (guest_codes csrs.hvip code p) ]

unready : (a b c : Bool) → a ≡ true → b ≡ true → (a && b && c) ≡ false → c ≡ false
unready true true c p q h = h
unready true false c p q h = absurd cc
unready false b c p q h = absurd cc

untaken_by_vs : (csrs : Csrs) (mode : Mode) (code : ℕ) → due_for_vs csrs mode ≡ None → is_pending csrs code ≡ true → is_enabled csrs code ≡ true → vs_bit csrs.hideleg code ≡ true → takes csrs mode level.VS ≡ false
unfolding due_for_vs
untaken_by_vs csrs mode code h p q r =
    elim (shut_gate (takes csrs mode level.VS) (find (is_ready_for_vs csrs) vs_order) h) [
      | inl shut ↦ shut
      | inr none ↦
          let missed = not_found_for_vs (is_ready_for_vs csrs) code none (guest_codes csrs.hideleg code r) in
          let owned = unready (is_pending csrs code) (is_enabled csrs code) (vs_bit csrs.hideleg code) p q missed in
          absurd (clash (vs_bit csrs.hideleg code) r owned)
    ]

untaken_by_hs : (csrs : Csrs) (mode : Mode) (code : ℕ) → due_for_hs csrs mode ≡ None → is_pending csrs code ≡ true → is_enabled csrs code ≡ true → vs_bit csrs.hideleg code ≡ false → takes csrs mode level.HS ≡ false
unfolding due_for_hs
untaken_by_hs csrs mode code h p q r =
    elim (shut_gate (takes csrs mode level.HS) (find (is_ready_for_hs csrs) hs_order) h) [
      | inl shut ↦ shut
      | inr none ↦
          let missed = not_found_for_hs (is_ready_for_hs csrs) code none (pending_codes csrs code p) in
          let owned = unready (is_pending csrs code) (is_enabled csrs code) (if vs_bit csrs.hideleg code then false else true) p q missed in
          absurd (clash (vs_bit csrs.hideleg code) (affirmed (vs_bit csrs.hideleg code) owned) r)
    ]

untaken_at : (csrs : Csrs) (mode : Mode) (b : Bool) → (b ≡ true → takes csrs mode level.VS ≡ false) → (b ≡ false → takes csrs mode level.HS ≡ false) → takes csrs mode (if b then level.VS else level.HS) ≡ false
untaken_at csrs mode true f g = f refl
untaken_at csrs mode false f g = g refl

pub none_is_missed : NoneIsMissed
unfolding due
none_is_missed csrs mode code h p q =
    let parts = neither (due_for_hs csrs mode) (due_for_vs csrs mode) h in
    untaken_at csrs mode (vs_bit csrs.hideleg code) (untaken_by_vs csrs mode code parts.1 p q) (untaken_by_hs csrs mode code parts.0 p q)
