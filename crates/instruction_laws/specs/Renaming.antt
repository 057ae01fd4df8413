-- The same bytes at other places: an instruction does the same, and each place that it names is renamed.
use Rattle.std.specs.Prelude.{List, ℕ, ◌≡◌, ◌+◌, ◌%◌, ◌≤◌, Bool, true, Option, Some, None}
use Rattle.std.specs.Option.{option_map}
use Rattle.arch_defs.specs.declared.modes.Access.{Access}
use Rattle.arch_defs.specs.declared.first.FirstEntry.{FirstEntry}
use Rattle.arch_defs.specs.declared.first.Tag.{Tag}
use Rattle.arch_defs.specs.declared.registers.Virtual.{Virtual}
use Rattle.arch_defs.specs.Memory.{Known, Mmu, Reading, SecondStage, Stored, mmu}
use Rattle.machine_defs.specs.Core.{Completion, core}
use Rattle.machine_defs.specs.FirstLeaves.{known_of, leaves_found}
use Rattle.machine_defs.specs.Outcomes.{Outcome, Done, Trapped, Missed, Called, Waits, Fenced, FirstFenced, Accesses}
use Rattle.instruction_laws.specs.InstructionEnds.{OutcomeHas}

-- a reservation at its place's new name
abbrev pub reservation_renamed : (ℕ → ℕ) → Option (ℕ × ℕ) → Option (ℕ × ℕ)
reservation_renamed h (Some (place, bytes)) = Some (h place, bytes)
reservation_renamed h None = None

-- a state, whose reservation alone names a place
abbrev pub renamed : (ℕ → ℕ) → Virtual → Virtual
renamed h state = record state { reservation = reservation_renamed h state.reservation }

-- what is stored, at its place's new name
abbrev pub stored_renamed : (ℕ → ℕ) → Option Stored → Option Stored
stored_renamed h (Some s) = Some (record s { place = h s.place })
stored_renamed h None = None

-- an outcome. An access that has no place names a guest physical address, which stays
abbrev pub outcome_renamed : (ℕ → ℕ) → Outcome → Outcome
outcome_renamed h (Done state stored event) = Done (renamed h state) (stored_renamed h stored) event
outcome_renamed h (Trapped trap) = Trapped trap
outcome_renamed h (Missed missing wanted) = Missed missing wanted
outcome_renamed h Called = Called
outcome_renamed h (Waits state) = Waits (renamed h state)
outcome_renamed h (Fenced state fence) = Fenced (renamed h state) fence
outcome_renamed h (FirstFenced state named fence) = FirstFenced (renamed h state) named fence
outcome_renamed h (Accesses wanted) = Accesses wanted

-- a set of places
abbrev pub Places : Type 0
Places = ℕ → Bool

-- a second stage gives places of this set alone, and keeps the offset in a page of 4,096 bytes
abbrev pub GivesWithin : Places → SecondStage → Type 0
GivesWithin held second = (address place : ℕ) (access : Access) → second address access ≡ Some place
    → (held place ≡ true) × (place % 4096 ≡ address % 4096)

-- a second stage and a reading, own and reading, and a pair that has its places of a set at new names, host
-- and other
pub record IsRenamed (h : ℕ → ℕ) (held : Places) (own : SecondStage) (reading : Reading)
    (host : SecondStage) (other : Reading) : Type 0 where
  -- an address has a place under the other where it has one, and that is the place's new name
  pub places : (address : ℕ) (access : Access) → host address access ≡ option_map h (own address access)
  -- each place is of the set, and keeps its address's offset
  pub inside : GivesWithin held own
  -- the bytes at a place, up to the end of its page, are those at its new name
  pub same : (place n : ℕ) → held place ≡ true → place % 4096 + n ≤ 4096 → other (h place) n ≡ reading place n
  -- no two places of the set get one name
  pub apart : (a b : ℕ) → held a ≡ true → held b ≡ true → h a ≡ h b → a ≡ b

-- what is reserved, if anything is, is a place of the set
abbrev pub ReservesWithin : Places → Option (ℕ × ℕ) → Type 0
ReservesWithin held (Some (place, bytes)) = held place ≡ true
ReservesWithin held None = Unit {0}

-- what is stored, if anything is, begins at a place of the set and ends in the same page
abbrev pub StoresWithin : Places → Option Stored → Type 0
StoresWithin held (Some s) = (held s.place ≡ true) × (s.place % 4096 + s.width ≤ 4096)
StoresWithin held None = Unit {0}

-- so it is of what an instruction leaves that completes
abbrev pub CompletionWithin : Places → Completion → Type 0
CompletionWithin held completion =
    StoresWithin held completion.stored × ReservesWithin held completion.state.reservation

-- an outcome stores and reserves in the set alone
abbrev pub LeavesWithin : Places → Outcome → Type 0
LeavesWithin held o =
    OutcomeHas (CompletionWithin held) (λ state. ReservesWithin held state.reservation) (λ wanted. Unit {0}) o

-- what is known of a virtual address keeps the offset in its page
abbrev pub KeepsPage : Known → Type 0
KeepsPage known =
    (va address : ℕ) (access : Access) → known va access ≡ Some address → address % 4096 ≡ va % 4096

-- so it is of what first-stage translations say
abbrev pub CachedKeepsPage : Type 0
CachedKeepsPage = (first : List FirstEntry) (tag : Tag) (virt : Virtual) → KeepsPage (known_of first tag virt)

-- one instruction of the renamed state, under the renamed second stage and reading, is the renamed one. What
-- is known of virtual addresses is the same, since it names no place
abbrev pub RenamedCore : Type 0
RenamedCore = (h : ℕ → ℕ) (held : Places) (known : Known) (own : SecondStage) (reading : Reading)
    (host : SecondStage) (other : Reading) (state : Virtual)
    → KeepsPage known → IsRenamed h held own reading host other → ReservesWithin held state.reservation
    → core (mmu known host other) (renamed h state) ≡ outcome_renamed h (core (mmu known own reading) state)

-- and finds the same first-stage translations, which name no place either
abbrev pub RenamedLeaves : Type 0
RenamedLeaves = (h : ℕ → ℕ) (held : Places) (tag : Tag) (known : Known) (own : SecondStage)
    (reading : Reading) (host : SecondStage) (other : Reading) (state : Virtual)
    → KeepsPage known → IsRenamed h held own reading host other
    → leaves_found tag (mmu known host other) (renamed h state)
    ≡ leaves_found tag (mmu known own reading) state

-- under a second stage that gives places of a set alone, one instruction stores and reserves in it alone
abbrev pub CoreKeepsWithin : Type 0
CoreKeepsWithin = (held : Places) (through : Mmu) (state : Virtual)
    → KeepsPage through.known → GivesWithin held through.second → ReservesWithin held state.reservation
    → LeavesWithin held (core through state)
