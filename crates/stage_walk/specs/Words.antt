-- What a walk finds at the place of an entry (own).
use Rattle.std.specs.Prelude.{ℕ, ◌≡◌, ◌<◌, ◌^◌, ⊤, Bool, false, not, ◌&&◌, ◌||◌, nat_lt}
use Rattle.arch_defs.specs.declared.modes.Access.{Access}
use Rattle.arch_defs.specs.declared.walks.Next.{Next}
use Rattle.arch_defs.specs.declared.walks.Next.TheVariants as next
use Rattle.arch_defs.specs.declared.walks.Pte.{Pte}
use Rattle.arch_defs.specs.declared.walks.WalkEnd.TheVariants.{FetchEnd}
use Rattle.arch_defs.specs.TableEntries.{entry_next, is_leaf, is_valid, pte_of}
use Rattle.stage_walk.specs.declared.entries.Visit.{Visit}
use Rattle.stage_walk.specs.declared.entries.Visit.TheVariants.{Below, Last, Unread}

-- a pointer to a table (Privileged Architecture 20211203, 4.3.1): a valid entry that can neither be read nor
-- executed, with A, D and U clear
abbrev pub is_pointer : Pte → Bool
is_pointer e = is_valid e && not (is_leaf e) && not (e.a || e.d || e.u)

-- above the last level it leads to the table
abbrev pub leads_below : ℕ → Pte → Bool
leads_below level e = nat_lt 0 level && is_pointer e

-- what this says to the walk
abbrev pub visit_next : Access → ℕ → ℕ → Visit → Next
visit_next access level place (Below frame) = next.Below frame
visit_next access level place (Last word) = entry_next level access (pte_of word)
visit_next access level place (Unread trap) = next.Ends (FetchEnd place trap)

-- a frame is a physical page number, and a last entry leads to no table
abbrev pub VisitFits : ℕ → Visit → Type 0
VisitFits level (Below frame) = frame < 2 ^ 44
VisitFits level (Last word) = leads_below level (pte_of word) ≡ false
VisitFits level (Unread trap) = ⊤
