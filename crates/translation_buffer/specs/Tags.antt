-- Tags: of which page a kept translation is, for whom, and of which run of the hart (own).
use Rattle.std.specs.Prelude.{ℕ, ◌≡◌, ◌≢◌, ◌+◌, ◌*◌, ◌/◌, ◌%◌, ◌^◌, ◌<◌, ◌⊎◌, Bool, true, false, List, [], get_or, length}
use Rattle.std.specs.List.{All}
use Rattle.arch_defs.specs.declared.modes.Access.{Access}
use Rattle.arch_defs.specs.declared.modes.Access.TheVariants.{Fetch, Load, Store, ExecLoad, Implicit}
use Rattle.arch_defs.specs.declared.walks.Privilege.{Privilege}
use Rattle.translation_buffer.specs.declared.slots.Slot.{Slot}
use Rattle.translation_buffer.specs.declared.slots.Slots.{Slots}

-- for whom an access is made, above the 52 bits of a page's number
abbrev pub bit_of : Bool → ℕ
bit_of true = 1
bit_of false = 0

abbrev pub who_bits : Privilege → ℕ
who_bits who = 2 ^ 52 * (bit_of who.user + 2 * bit_of who.sum + 4 * bit_of who.mxr)

-- the number of a run above these 55 bits. One is added to it, so no tag of a page is 0
abbrev pub run_bits : ℕ → ℕ
run_bits run = 2 ^ 55 * (run + 1)

-- the tag of the page of an address in a run, for whom the access is made
abbrev pub page_tag : ℕ → Privilege → ℕ → ℕ
page_tag run who va = run_bits run + who_bits who + va / 4096

-- the start of an address's page, if the address is a multiple of 4, and else no start of a page
abbrev pub start_of : ℕ → ℕ
start_of va = va / 4096 * 4096 + va % 4

-- the slots of a kind of access; there are none for HLVX and for entries
abbrev pub slots_of : Slots → Access → List Slot
slots_of slots Fetch = slots.fetches
slots_of slots Load = slots.loads
slots_of slots Store = slots.stores
slots_of slots ExecLoad = []
slots_of slots Implicit = []

-- no slot is of a run after this one
abbrev pub IsUpTo : ℕ → Slot → Type 0
IsUpTo run slot = slot.tag < run_bits (run + 1)

abbrev pub AllUpTo : ℕ → Slots → Type 0
AllUpTo run slots = (kind : Access) → All (IsUpTo run) (slots_of slots kind)

-- each slot is as it was, or none
abbrev pub AreLeft : List Slot → List Slot → Type 0
AreLeft old new = (at : ℕ) (d : Slot)
    → (get_or new at d ≡ get_or old at d) ⊎ ((get_or new at d).tag ≡ 0)

-- a slot is empty, or stands at the low bits of its page's number
abbrev pub IsAtHome : ℕ → ℕ → Slot → Type 0
IsAtHome size at slot = slot.tag ≢ 0 → slot.tag % 2 ^ 52 % size ≡ at

abbrev pub AreAtHome : List Slot → Type 0
AreAtHome slots = (at : ℕ) (d : Slot) → at < length slots
    → IsAtHome (length slots) at (get_or slots at d)

abbrev pub AllAtHome : Slots → Type 0
AllAtHome slots = (kind : Access) → AreAtHome (slots_of slots kind)
