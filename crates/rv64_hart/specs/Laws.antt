-- A law of the hart's steps.
use Rattle.std.specs.Prelude.{ℕ, ◌≡◌, ◌<◌, ◌^◌, List}
use Rattle.arch_defs.specs.declared.hart_states.HartState.{HartState}
use Rattle.arch_defs.specs.declared.walks.MissingPlace.{MissingPlace}
use Rattle.arch_defs.specs.SecondStage.{guest_page_trap}
use Rattle.rv64_hart.specs.Steps.{Exits, Raises, end_by}

-- a guest-page fault, of a fetch, a load or a store (20, 21, 23), goes to the hart's HS: hedeleg has no bit
-- above 15 (Privileged Architecture 20211203, 8.2.2)
abbrev pub GuestPageFaultsExit : Type 0
GuestPageFaultsExit =
    (s : HartState) (memory : List ℕ) (missing : MissingPlace) → s.virt.csrs.hedeleg < 2 ^ 16
    → end_by s memory (Raises (guest_page_trap missing)) ≡ Exits (guest_page_trap missing)
