-- Interrupts that are pending and enabled, by the level that has them.
use Rattle.std.proofs.Common.{◌≡◌, ◌||◌, ◌&&◌, ◌∙◌, Bool, true, false, refl}
use Rattle.arch_defs.specs.declared.registers.Csrs.{Csrs}
use Rattle.arch_defs.specs.declared.registers.Interrupts.{Interrupts}
use Rattle.machine_defs.specs.Machine.{has_enabled_interrupt}

-- whether one is pending and enabled: external, software, timer
abbrev pub in_both : Interrupts → Interrupts → Bool
in_both pending enabled =
    pending.external && enabled.external || pending.software && enabled.software || pending.timer && enabled.timer

or_none : (a b : Bool) → (a && b) ≡ ((a || false) && (b || false))
or_none true true = refl
or_none true false = refl
or_none false b = refl

after_none : (a b c x y z : Bool) → (a || b || c) ≡ false → (x || y || z) ≡ (a || (b || (c || (x || (y || (z || false))))))
after_none true b c x y z none = cc
after_none false true c x y z none = cc
after_none false false true x y z none = cc
after_none false false false true y z none = refl
after_none false false false false true z none = refl
after_none false false false false false true none = refl
after_none false false false false false false none = refl

-- where HS has none, those of VS tell
pub by_second_level : (csrs : Csrs) → in_both csrs.sip csrs.sie ≡ false → in_both csrs.hvip csrs.hie ≡ has_enabled_interrupt csrs
by_second_level csrs none = let p = csrs.sip in let e = csrs.sie in let v = csrs.hvip in let w = csrs.hie in
    after_none (p.external && e.external) (p.software && e.software) (p.timer && e.timer) (v.external && w.external) (v.software && w.software) (v.timer && w.timer) none
    ∙ (λ i. or_none p.external e.external i || (or_none p.software e.software i || (or_none p.timer e.timer i || (v.external && w.external || (v.software && w.software || (v.timer && w.timer || false))))))
