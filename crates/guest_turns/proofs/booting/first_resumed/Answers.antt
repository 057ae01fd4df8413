use Rattle.std.proofs.Common.{ℕ, ◌≡◌, ◌+◌, ◌<◌, List, length, take, get_or, ap, arith, subst, ◌∙◌}
use Rattle.std.proofs.lemmas.List.{take_all}
use Rattle.arch_defs.specs.declared.first.FirstEntry.{FirstEntry}
use Rattle.arch_defs.specs.FirstEntries.{HasGuestFrame, first_filled}
use Rattle.run_laws.specs.FirstKeys.{HasFirst}
use Rattle.guest_turns.proofs.Remade.{first_next}
use Rattle.guest_turns.proofs.booting.first_resumed.Goals as goal

frame_at : (entries all : List FirstEntry) (i : ℕ) (d : FirstEntry) → entries ≡ all → HasFirst all → i < length entries → HasGuestFrame (get_or entries i d)
frame_at entries all i d same has inside = rw same ((has.tables i d (subst (λ xs. i < length xs) same inside)).frame)

next : (first entries all : List FirstEntry) (i : ℕ) (d : FirstEntry) → entries ≡ all → HasFirst all → i < length entries → first ≡ take i all
    → first_filled first (get_or entries i d) ≡ take (i + 1) all
next first entries all i d same has inside before = rw (before, same) (first_next i all d has (subst (λ xs. i < length xs) same inside))

pub fill-requires : goal.fill-requires
fill-requires c = frame_at c.first-entries.result.now c.args.saved.now.machine.platform.virt.first c.loop-i.i _ c.first-entries.ensures c.can_be_saved.ensures.first c.loop-i-test.true

pub loop-i-preserved : goal.loop-i-preserved
loop-i-preserved c =
    c.fill.ensures.filled
    ∙ next c.loop-i.first c.first-entries.result.now c.args.saved.now.machine.platform.virt.first c.loop-i.i _ c.first-entries.ensures c.can_be_saved.ensures.first c.loop-i-test.true c.loop-i.invariant

pub returns : goal.returns
returns c =
    let all = c.args.saved.now.machine.platform.virt.first in
    c.loop-i.invariant ∙ take_all c.loop-i.i all (omega (arith, c.loop-i-test.false, ap length c.first-entries.ensures))
