-- The interrupt that is due on the lone machine, and on the hart.
use Rattle.std.specs.Prelude.{◌&&◌, ◌||◌, find, not, if◌then◌else◌}
use Rattle.std.specs.Option.{option_or}
use Rattle.std.proofs.Common.{cond, ◌≡◌, ℕ, ◌+◌, Option, Some, None, Bool, true, false, refl, ap, ◌∙◌, subst, sym}
use Rattle.std.proofs.Math.Bool.{and-false}
use Rattle.arch_defs.specs.declared.modes.Mode.{Mode}
use Rattle.arch_defs.specs.declared.modes.Mode.TheVariants.{HS, U, VS, VU}
use Rattle.arch_defs.specs.declared.registers.Csrs.{Csrs}
use Rattle.arch_defs.specs.declared.roots.GuestRoot.{GuestRoot}
use Rattle.arch_defs.specs.declared.registers.Interrupts.{Interrupts}
use Rattle.arch_defs.specs.Interrupts.{due, due_for_hs, due_for_vs, hs_order, is_ready_for_hs, is_ready_for_vs, vs_bit, vs_order}
use Rattle.arch_defs.specs.Registers.{clear_interrupts}
use Rattle.arch_defs.specs.Traps.{is_virtual}
use Rattle.machine_defs.specs.Machine.{with_lines}
use Rattle.hosted_steps.specs.HartSteps.{is_hosts}
use Rattle.world_switch.specs.Hosting.{all_interrupts, hosted_csrs, hosted_mode, saved_csrs, saved_mode}
use Rattle.world_switch.specs.Laws.{KeepsHidden, waits_for_hs}
use Rattle.world_switch.proofs.Undone.{saved_v}

-- what is due on the hart, by what is due on the lone machine and by its V: with V = 0 VS's interrupt for HS's, which is one less,
-- with V = 1 the same, which is delegated
abbrev pub IsDue : Option ℕ → Bool → Interrupts → Option ℕ → Type 0
IsDue None virtual hideleg hart = hart ≡ None
IsDue (Some code) false hideleg hart = (hart ≡ Some (code + 1)) × (vs_bit all_interrupts (code + 1) ≡ true)
IsDue (Some code) true hideleg hart = (hart ≡ Some code) × (vs_bit hideleg code ≡ true)

-- with V = 0 VS takes none on the lone machine
or_none : (o : Option ℕ) → option_or o None ≡ o
or_none None = refl
or_none (Some code) = refl

-- HS takes none on the hart
none_for_host : (root : GuestRoot) (csrs : Csrs) → find (is_ready_for_hs (hosted_csrs root false csrs)) hs_order ≡ None
none_for_host root csrs =
    rw (and-false (csrs.sip.external && csrs.sie.external), and-false (csrs.sip.software && csrs.sie.software), and-false (csrs.sip.timer && csrs.sie.timer))

-- VS's on the hart are those of the lone machine's HS
same_ready : (pending enabled : Bool) → (pending && enabled && true) ≡ ((pending || false) && (enabled || false) && true)
same_ready true true = refl
same_ready true false = refl
same_ready false enabled = refl

-- the interrupts of VS, which the hart does not take from the lone machine, come last in the order
abbrev IsGuests : Option ℕ → Interrupts → Type 0
IsGuests None hideleg = Unit {0}
IsGuests (Some code) hideleg = is_hosts (Some code) false hideleg ≡ true

guests : (hideleg : Interrupts) (a b c : Bool) → IsGuests (cond a (Some 10) (cond b (Some 2) (cond c (Some 6) None))) hideleg
guests hideleg true b c = refl
guests hideleg false true c = refl
guests hideleg false false true = refl
guests hideleg false false false = tt

no_more : (hideleg : Interrupts) (o : Option ℕ) → IsGuests o hideleg → is_hosts o false hideleg ≡ false → IsDue o false hideleg None
no_more hideleg None guests e = refl
no_more hideleg (Some code) guests e = cc

in_order : (hideleg : Interrupts) (a b c : Bool) (rest : Option ℕ) → IsGuests rest hideleg
    → is_hosts (cond a (Some 9) (cond b (Some 1) (cond c (Some 5) rest))) false hideleg ≡ false
    → IsDue (cond a (Some 9) (cond b (Some 1) (cond c (Some 5) rest))) false hideleg (cond a (Some 10) (cond b (Some 2) (cond c (Some 6) None)))
in_order hideleg true b c rest guests e = (refl, refl)
in_order hideleg false true c rest guests e = (refl, refl)
in_order hideleg false false true rest guests e = (refl, refl)
in_order hideleg false false false rest guests e = no_more hideleg rest guests e

-- the first that is ready on both, by which are ready
first_alike : (hideleg : Interrupts) (f g : ℕ → Bool) → g 10 ≡ f 9 → g 2 ≡ f 1 → g 6 ≡ f 5 → is_hosts (find f hs_order) false hideleg ≡ false
    → IsDue (find f hs_order) false hideleg (find g vs_order)
first_alike hideleg f g external software timer e =
    rw (external, software, timer) (in_order hideleg (f 9) (f 1) (f 5) _ (guests hideleg (f 10) (f 2) (f 6)) e)

-- by whether the level takes interrupts now
due_by : (root : GuestRoot) (csrs : Csrs) (taken : Bool) → is_hosts (option_or (cond taken (find (is_ready_for_hs csrs) hs_order) None) None) false csrs.hideleg ≡ false
    → IsDue (option_or (cond taken (find (is_ready_for_hs csrs) hs_order) None) None) false csrs.hideleg
    (option_or (find (is_ready_for_hs (hosted_csrs root false csrs)) hs_order) (cond taken (find (is_ready_for_vs (hosted_csrs root false csrs)) vs_order) None))
due_by root csrs true e =
    rw (or_none (find (is_ready_for_hs csrs) hs_order), none_for_host root csrs)
    (first_alike csrs.hideleg (is_ready_for_hs csrs) (is_ready_for_vs (hosted_csrs root false csrs)) (same_ready csrs.sip.external csrs.sie.external)
    (same_ready csrs.sip.software csrs.sie.software) (same_ready csrs.sip.timer csrs.sie.timer) (rw (or_none (find (is_ready_for_hs csrs) hs_order)) at e))
due_by root csrs false e = rw (none_for_host root csrs) refl

-- where no interrupt of VS is ready for HS, none is due
none_of_guests : (hideleg : Interrupts) (a b c d e f : Bool) → (d || e || f) ≡ false
    → is_hosts (cond a (Some 9) (cond b (Some 1) (cond c (Some 5) (cond d (Some 10) (cond e (Some 2) (cond f (Some 6) None)))))) false hideleg ≡ false
none_of_guests hideleg true b c d e f h = refl
none_of_guests hideleg false true c d e f h = refl
none_of_guests hideleg false false true d e f h = refl
none_of_guests hideleg false false false true e f h = cc
none_of_guests hideleg false false false false true f h = cc
none_of_guests hideleg false false false false false true h = cc
none_of_guests hideleg false false false false false false h = refl

none_due : (csrs : Csrs) (taken : Bool) → waits_for_hs csrs ≡ false
    → is_hosts (option_or (cond taken (find (is_ready_for_hs csrs) hs_order) None) None) false csrs.hideleg ≡ false
none_due csrs true h =
    let f = is_ready_for_hs csrs in
    rw (or_none (find f hs_order)) (none_of_guests csrs.hideleg (f 9) (f 1) (f 5) (f 10) (f 2) (f 6) h)
none_due csrs false h = refl

never_due : (csrs : Csrs) (mode : Mode) → is_virtual mode ≡ false → waits_for_hs csrs ≡ false → is_hosts (due csrs mode) false csrs.hideleg ≡ false
unfolding due due_for_hs due_for_vs
never_due csrs HS own h = none_due csrs csrs.hs.status.sie h
never_due csrs U own h = none_due csrs true h
never_due csrs VS own h = cc
never_due csrs VU own h = cc

-- with V = 1 each that is ready for HS is one that the host must take, so none of the six is
record AllFalse (a b c d e f : Bool) : Type 0 where
  first : a ≡ false
  second : b ≡ false
  third : c ≡ false
  fourth : d ≡ false
  fifth : e ≡ false
  sixth : f ≡ false

all_false : (hideleg : Interrupts) (a b c d e f : Bool) (rest : Option ℕ)
    → (d ≡ true → hideleg.external ≡ false) → (e ≡ true → hideleg.software ≡ false) → (f ≡ true → hideleg.timer ≡ false)
    → is_hosts (option_or (cond a (Some 9) (cond b (Some 1) (cond c (Some 5) (cond d (Some 10) (cond e (Some 2) (cond f (Some 6) None)))))) rest) true hideleg ≡ false
    → AllFalse a b c d e f
all_false hideleg true b c d e f rest p q r free = cc
all_false hideleg false true c d e f rest p q r free = cc
all_false hideleg false false true d e f rest p q r free = cc
all_false hideleg false false false true e f rest p q r free = let never : not false ≡ false = rw (p refl) at free in cc
all_false hideleg false false false false true f rest p q r free = let never : not false ≡ false = rw (q refl) at free in cc
all_false hideleg false false false false false true rest p q r free = let never : not false ≡ false = rw (r refl) at free in cc
all_false hideleg false false false false false false rest p q r free = record { first = refl; second = refl; third = refl; fourth = refl; fifth = refl; sixth = refl }

-- what is ready for HS is not delegated, and what is ready for VS is
not_delegated : (pending enabled delegated : Bool) → (pending && enabled && (if delegated then false else true)) ≡ true → delegated ≡ false
not_delegated true true true e = cc
not_delegated true true false e = refl
not_delegated true false delegated e = cc
not_delegated false enabled delegated e = cc

is_given : (pending enabled delegated : Bool) → (pending && enabled && delegated) ≡ true → delegated ≡ true
is_given true true delegated e = e
is_given true false delegated e = cc
is_given false enabled delegated e = cc

none_ready : (csrs : Csrs) (rest : Option ℕ) → is_hosts (option_or (find (is_ready_for_hs csrs) hs_order) rest) true csrs.hideleg ≡ false
    → AllFalse (is_ready_for_hs csrs 9) (is_ready_for_hs csrs 1) (is_ready_for_hs csrs 5) (is_ready_for_hs csrs 10) (is_ready_for_hs csrs 2) (is_ready_for_hs csrs 6)
none_ready csrs rest free =
    all_false csrs.hideleg _ _ _ _ _ _ rest
    (not_delegated csrs.hvip.external csrs.hie.external csrs.hideleg.external)
    (not_delegated csrs.hvip.software csrs.hie.software csrs.hideleg.software)
    (not_delegated csrs.hvip.timer csrs.hie.timer csrs.hideleg.timer) free

-- the first of VS's, which is delegated
given : (hideleg : Interrupts) (a b c : Bool) → (a ≡ true → hideleg.external ≡ true) → (b ≡ true → hideleg.software ≡ true) → (c ≡ true → hideleg.timer ≡ true)
    → IsDue (cond a (Some 10) (cond b (Some 2) (cond c (Some 6) None))) true hideleg (cond a (Some 10) (cond b (Some 2) (cond c (Some 6) None)))
given hideleg true b c p q r = (refl, p refl)
given hideleg false true c p q r = (refl, q refl)
given hideleg false false true p q r = (refl, r refl)
given hideleg false false false p q r = refl

first_given : (csrs : Csrs) (taken : Bool)
    → IsDue (cond taken (find (is_ready_for_vs csrs) vs_order) None) true csrs.hideleg (cond taken (find (is_ready_for_vs csrs) vs_order) None)
first_given csrs true =
    given csrs.hideleg (is_ready_for_vs csrs 10) (is_ready_for_vs csrs 2) (is_ready_for_vs csrs 6)
    (is_given csrs.hvip.external csrs.hie.external csrs.hideleg.external)
    (is_given csrs.hvip.software csrs.hie.software csrs.hideleg.software)
    (is_given csrs.hvip.timer csrs.hie.timer csrs.hideleg.timer)
first_given csrs false = refl

-- which is none that the host must take
not_hosts : (hideleg : Interrupts) (o hart : Option ℕ) → IsDue o true hideleg hart → is_hosts o true hideleg ≡ false
not_hosts hideleg None hart e = refl
not_hosts hideleg (Some code) hart (e, given) = rw given refl

-- with V = 1 what is due is due for VS, on both
nested_by : (root : GuestRoot) (csrs : Csrs) (taken : Bool)
    → is_hosts (option_or (find (is_ready_for_hs csrs) hs_order) (cond taken (find (is_ready_for_vs csrs) vs_order) None)) true csrs.hideleg ≡ false
    → IsDue (option_or (find (is_ready_for_hs csrs) hs_order) (cond taken (find (is_ready_for_vs csrs) vs_order) None)) true csrs.hideleg
    (option_or (find (is_ready_for_hs (hosted_csrs root true csrs)) hs_order) (cond taken (find (is_ready_for_vs (hosted_csrs root true csrs)) vs_order) None))
nested_by root csrs taken free =
    let none = none_ready csrs _ free in
    rw (none.first, none.second, none.third, none.fourth, none.fifth, none.sixth) (first_given csrs taken)

-- the interrupt that is due on both
pub due_alike : (root : GuestRoot) (csrs : Csrs) (mode : Mode) → is_hosts (due csrs mode) (is_virtual mode) csrs.hideleg ≡ false
    → IsDue (due csrs mode) (is_virtual mode) csrs.hideleg (due (hosted_csrs root (is_virtual mode) csrs) (hosted_mode mode))
unfolding due due_for_hs due_for_vs
due_alike root csrs HS e = due_by root csrs csrs.hs.status.sie e
due_alike root csrs U e = due_by root csrs true e
due_alike root csrs VS e = nested_by root csrs csrs.vs.status.sie e
due_alike root csrs VU e = nested_by root csrs true e

-- with V = 1 no step of the hart makes an interrupt ready for HS
abbrev NoneReady : Csrs → Type 0
NoneReady csrs =
    AllFalse (is_ready_for_hs csrs 9) (is_ready_for_hs csrs 1) (is_ready_for_hs csrs 5) (is_ready_for_hs csrs 10) (is_ready_for_hs csrs 2) (is_ready_for_hs csrs 6)

nested_ready : (csrs : Csrs) (mode : Mode) → is_virtual mode ≡ true → is_hosts (due csrs mode) true csrs.hideleg ≡ false → NoneReady csrs
unfolding due due_for_hs due_for_vs
nested_ready csrs HS on free = cc
nested_ready csrs U on free = cc
nested_ready csrs VS on free = none_ready csrs _ free
nested_ready csrs VU on free = none_ready csrs _ free

nested_due : (csrs : Csrs) (mode : Mode) → is_virtual mode ≡ true → NoneReady csrs → is_hosts (due csrs mode) true csrs.hideleg ≡ false
unfolding due due_for_hs due_for_vs
nested_due csrs HS on none = cc
nested_due csrs U on none = cc
nested_due csrs VS on none =
    rw (none.first, none.second, none.third, none.fourth, none.fifth, none.sixth) (not_hosts csrs.hideleg _ _ (first_given csrs csrs.vs.status.sie))
nested_due csrs VU on none =
    rw (none.first, none.second, none.third, none.fourth, none.fifth, none.sixth) (not_hosts csrs.hideleg _ _ (first_given csrs true))

none_of_three : (d e f : Bool) → (d || e || f) ≡ false → AllFalse false false false d e f
none_of_three true e f h = cc
none_of_three false true f h = cc
none_of_three false false true h = cc
none_of_three false false false h = record { first = refl; second = refl; third = refl; fourth = refl; fifth = refl; sixth = refl }

-- the registers after steps of the hart, with V = 1
nested_after : (root : GuestRoot) (before hart : Csrs) (mode : Mode) (clock : ℕ) (timer external : Bool) → is_virtual mode ≡ true → KeepsHidden root true before hart
    → timer ≡ before.sip.timer → external ≡ before.sip.external → is_hosts (due before mode) true before.hideleg ≡ false → waits_for_hs before ≡ false
    → NoneReady (with_lines (saved_csrs true hart before) clock timer external)
nested_after root before hart mode clock timer external on keeps t e own waits =
    let none = nested_ready before mode on own in
    let hideleg : hart.hideleg ≡ before.hideleg = ap {A = Csrs} (λ c. c.hideleg) keeps.rest in
    let same = rw hideleg at keeps.waits in
    let three = none_of_three _ _ _ (same ∙ waits) in
    record {
      first = rw e none.first;
      second = none.second;
      third = rw t none.third;
      fourth = three.fourth;
      fifth = three.fifth;
      sixth = three.sixth;
    }

-- what is due after steps of the hart is none that the host must take, by the guest's V
pub own_after : (root : GuestRoot) (virtual : Bool) (before hart : Csrs) (mode after : Mode) (clock : ℕ) (timer external : Bool) → is_virtual mode ≡ virtual
    → KeepsHidden root virtual before hart → timer ≡ before.sip.timer → external ≡ before.sip.external
    → is_hosts (due before mode) virtual before.hideleg ≡ false → waits_for_hs before ≡ false
    → is_hosts (due (with_lines (saved_csrs virtual hart before) clock timer external) (saved_mode virtual after)) (is_virtual (saved_mode virtual after))
    (saved_csrs virtual hart before).hideleg ≡ false
own_after root false before hart mode after clock timer external is keeps t e own waits =
    rw (saved_v false after) (never_due (with_lines (saved_csrs false hart before) clock timer external) (saved_mode false after) (saved_v false after) waits)
own_after root true before hart mode after clock timer external is keeps t e own waits =
    rw (saved_v true after) (nested_due (with_lines (saved_csrs true hart before) clock timer external) (saved_mode true after) (saved_v true after)
    (nested_after root before hart mode clock timer external is keeps t e own waits))

-- none of VS waits for HS while no bit of hip is set
pub none_pending_waits : (csrs : Csrs) → csrs.hvip ≡ clear_interrupts → waits_for_hs csrs ≡ false
none_pending_waits csrs hip = subst (λ hvip. waits_for_hs (record csrs { hvip = hvip }) ≡ false) (sym hip) refl
