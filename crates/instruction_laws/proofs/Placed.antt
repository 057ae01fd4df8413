-- Where an access is made, under a renaming of places.
use Rattle.std.specs.Prelude.{find, ◌/◌, List, ◌==◌, Ok}
use Rattle.std.specs.Option.{option_map}
use Rattle.std.proofs.Common.{cond, ◌≡◌, ℕ, ◌+◌, ◌*◌, ◌%◌, ◌^◌, ◌≤◌, Bool, true, false, Option, Some, None, refl, ap, arith}
use Rattle.std.proofs.lemmas.Bool.{eqb-true}
use Rattle.std.proofs.Math.Pow.{mod-mod-pow}
use Rattle.arch_defs.specs.declared.first.FirstEntry.{FirstEntry}
use Rattle.arch_defs.specs.declared.first.Tag.{Tag}
use Rattle.arch_defs.specs.declared.modes.Access.{Access}
use Rattle.arch_defs.specs.declared.modes.Access.TheVariants.{Implicit}
use Rattle.arch_defs.specs.declared.modes.Mode.{Mode}
use Rattle.arch_defs.specs.declared.registers.Csrs.{Csrs}
use Rattle.arch_defs.specs.declared.roots.SupervisorRoot.{SupervisorRoot}
use Rattle.arch_defs.specs.declared.roots.SupervisorRoot.TheVariants as root
use Rattle.arch_defs.specs.declared.walks.Found.{Found}
use Rattle.arch_defs.specs.declared.walks.Found.TheVariants.{Passes, PageFaults, MissesEntry}
use Rattle.arch_defs.specs.declared.walks.Privilege.{Privilege}
use Rattle.arch_defs.specs.declared.walks.WalkEnd.{WalkEnd}
use Rattle.arch_defs.specs.declared.walks.WalkEnd.TheVariants.{Leaf, PageFault, FetchEnd}
use Rattle.arch_defs.specs.declared.widths.Width.{Width}
use Rattle.arch_defs.specs.declared.widths.Width.TheVariants.{Byte, Half, Word, Double}
use Rattle.arch_defs.specs.FirstEntries.{first_leaf, is_first_of, known_by, known_under}
use Rattle.arch_defs.specs.Memory.{Known, Reading, SecondStage, mmu, nothing_known}
use Rattle.arch_defs.specs.Roots.{supervisor_shape}
use Rattle.arch_defs.specs.Permits.{permits_first}
use Rattle.arch_defs.specs.TableEntries.{leaf_with}
use Rattle.arch_defs.specs.Translation.{entry_word_at, entry_words_through, first_stage, found_by, found_under, privilege_of, supervisor_of}
use Rattle.arch_defs.specs.Traps.{exception, faults_of}
use Rattle.arch_defs.specs.Walk.{leaf_address, walk}
use Rattle.arch_defs.specs.Widths.{bytes_in}
use Rattle.op_defs.specs.declared.ops.DataAccess.{DataAccess}
use Rattle.machine_defs.specs.Core.{Faults, Misses, Located, At, Fails, accessed, at_place, found_with, located, located_at, located_by}
use Rattle.machine_defs.specs.Outcomes.{Outcome}
use Rattle.instruction_laws.specs.Renaming.{CachedKeepsPage, IsRenamed, KeepsPage, LeavesWithin, Places, outcome_renamed}
use Rattle.instruction_laws.proofs.AlikeWalks.{walks_alike}

-- an outcome is the renamed one of another, which keeps to the places of the set
abbrev pub EndsAlike : (ℕ → ℕ) → Places → Outcome → Outcome → Type 0
EndsAlike h held own host = (host ≡ outcome_renamed h own) × LeavesWithin held own

-- an access of n bytes is made at a place of the set, up to the end of its page, and at that place's new name;
-- or both fail alike
abbrev pub LocatedAlike : (ℕ → ℕ) → Places → ℕ → Located → Located → Type 0
LocatedAlike h held n (At own) host = (host ≡ At (h own)) × (held own ≡ true) × (own % 4096 + n ≤ 4096)
LocatedAlike h held n (Fails failure) host = host ≡ Fails failure

-- an instruction that goes on alike at alike places ends alike
pub at_alike : (h : ℕ → ℕ) (held : Places) (n : ℕ) (wanted : Option DataAccess) (rest rest' : ℕ → Outcome)
    → ((place : ℕ) → held place ≡ true → place % 4096 + n ≤ 4096 → EndsAlike h held (rest place) (rest' (h place)))
    → (own host : Located) → LocatedAlike h held n own host → EndsAlike h held (at_place wanted own rest) (at_place wanted host rest')
at_alike h held n wanted rest rest' goes (At place) host (e, in_set, fits) = rw e (goes place in_set fits)
at_alike h held n wanted rest rest' goes (Fails (Faults trap)) host e = rw e (refl, tt)
at_alike h held n wanted rest rest' goes (Fails (Misses missing)) host e = rw e (refl, tt)

-- the bytes of an entry end in its page
entry_fits : (place at : ℕ) → place % 4096 ≡ at % 4096 → at % 8 ≡ 0 → place % 4096 + 8 ≤ 4096
entry_fits place at offset eighth = grind arith

-- entries are read alike
pub entries_alike : {h : ℕ → ℕ} {held : Places} {own : SecondStage} {reading : Reading} {host : SecondStage} {other : Reading}
    → IsRenamed h held own reading host other → (at : ℕ) → at % 8 ≡ 0 → entry_words_through host other at ≡ entry_words_through own reading at
entries_alike {h = h} {own = own} {reading = reading} {other = other} r at eighth = rw (r.places at Implicit) (by (own at Implicit) refl)
  where
    by : (place : Option ℕ) → own at Implicit ≡ place → entry_word_at other at (option_map h place) ≡ entry_word_at reading at place
    by (Some place) e = let is = r.inside at place Implicit e in ap Ok (r.same place 8 is.0 (entry_fits place at is.1 eighth))
    by None e = refl

-- the first stage translates alike
under_alike : {h : ℕ → ℕ} {held : Places} {own : SecondStage} {reading : Reading} {host : SecondStage} {other : Reading}
    → IsRenamed h held own reading host other → (privilege : Privilege) (va : ℕ) (access : Access) (atp : SupervisorRoot)
    → found_under host other privilege va access atp ≡ found_under own reading privilege va access atp
under_alike r privilege va access root.Bare = refl
under_alike {own = own} {reading = reading} {host = host} {other = other} r privilege va access (root.Table table asid ppn) =
    ap (found_by privilege access va) (walks_alike (entry_words_through own reading) (entry_words_through host other) (entries_alike r) (ppn % 2 ^ 44) (supervisor_shape table) va access)

first_alike : {h : ℕ → ℕ} {held : Places} {own : SecondStage} {reading : Reading} {host : SecondStage} {other : Reading}
    → IsRenamed h held own reading host other → (csrs : Csrs) (mode : Mode) (va : ℕ) (access : Access)
    → first_stage host other csrs mode va access ≡ first_stage own reading csrs mode va access
unfolding first_stage
first_alike r csrs mode va access = under_alike r (privilege_of csrs mode) va access (supervisor_of csrs mode).atp

-- and keeps the offset in the page
abbrev pub KeepsOffset : ℕ → Found → Type 0
KeepsOffset va (Passes address) = address % 4096 ≡ va % 4096
KeepsOffset va PageFaults = Unit {0}
KeepsOffset va (MissesEntry place) = Unit {0}

added : (frame part va : ℕ) → part % 4096 ≡ va % 4096 → (4096 * frame + part) % 4096 ≡ va % 4096
added frame part va same = omega arith

pub leaf_keeps : (frame level va : ℕ) → (4096 * frame + va % 2 ^ (12 + 9 * level)) % 4096 ≡ va % 4096
leaf_keeps frame level va = added frame (va % 2 ^ (12 + 9 * level)) va
    (let turned : 12 + 9 * level ≡ 9 * level + 12 = omega arith in rw turned (mod-mod-pow va (9 * level) 12))

by_keeps : (privilege : Privilege) (access : Access) (va : ℕ) (end : WalkEnd) → KeepsOffset va (found_by privilege access va end)
by_keeps privilege access va (Leaf frame level r w x u) = let leaf = leaf_with frame level r w x u in elim (permits_first privilege access leaf) as (λ b. KeepsOffset va (cond b (Passes (leaf_address leaf va)) PageFaults))
    [ true ↦ leaf_keeps leaf.frame leaf.level va | false ↦ tt ]
by_keeps privilege access va PageFault = tt
by_keeps privilege access va (FetchEnd place trap) = tt

under_keeps : (second : SecondStage) (reading : Reading) (privilege : Privilege) (va : ℕ) (access : Access) (atp : SupervisorRoot)
    → KeepsOffset va (found_under second reading privilege va access atp)
under_keeps second reading privilege va access root.Bare = refl
under_keeps second reading privilege va access (root.Table table asid ppn) =
    by_keeps privilege access va (walk (entry_words_through second reading) (ppn % 2 ^ 44) (supervisor_shape table) va access)

pub first_keeps : (second : SecondStage) (reading : Reading) (csrs : Csrs) (mode : Mode) (va : ℕ) (access : Access)
    → KeepsOffset va (first_stage second reading csrs mode va access)
unfolding first_stage
first_keeps second reading csrs mode va access = under_keeps second reading (privilege_of csrs mode) va access (supervisor_of csrs mode).atp

-- so does what is known of an address, and else the first stage
pub with_known_keeps : (known : Known) → KeepsPage known → (va : ℕ) (access : Access) (found : Found) → KeepsOffset va found → KeepsOffset va (found_with (known va access) found)
with_known_keeps known keeps va access found first = by (known va access) refl
  where
    by : (there : Option ℕ) → known va access ≡ there → KeepsOffset va (found_with there found)
    by (Some address) is = keeps va address access is
    by None is = first

-- what first-stage translations say keeps it
by_entry_keeps : (privilege : Privilege) (va address : ℕ) (access : Access) (there : Option FirstEntry) → known_by privilege va access there ≡ Some address
    → address % 4096 ≡ va % 4096
by_entry_keeps privilege va address access None is = absurd cc
by_entry_keeps privilege va address access (Some e) is = by (permits_first privilege access (first_leaf e)) is
  where
    by : (permits : Bool) → cond permits (Some (leaf_address (first_leaf e) va)) None ≡ Some address → address % 4096 ≡ va % 4096
    by true is = let same : leaf_address (first_leaf e) va ≡ address = cc in rw (← same) (leaf_keeps e.frame 0 va)
    by false is = absurd cc

under_entries_keeps : (first : List FirstEntry) (tag : Tag) (privilege : Privilege) (atp : SupervisorRoot) → KeepsPage (known_under first tag privilege atp)
unfolding known_under
under_entries_keeps first tag privilege root.Bare = λ va address access is. absurd cc
under_entries_keeps first tag privilege (root.Table table asid ppn) = λ va address access is.
    by_entry_keeps privilege va address access (find (is_first_of tag (root.Table table asid ppn) (va / 4096)) first) is

pub cached_keeps_page : CachedKeepsPage
cached_keeps_page first tag virt = under_entries_keeps first tag (privilege_of virt.csrs virt.mode) (supervisor_of virt.csrs virt.mode).atp

pub nothing_keeps : KeepsPage nothing_known
nothing_keeps = λ va address access is. absurd cc

-- the bytes at a multiple of their width end in its page
width_fits : (width : Width) (place address va : ℕ) → place % 4096 ≡ address % 4096 → address % 4096 ≡ va % 4096 → va % bytes_in width ≡ 0
    → place % 4096 + bytes_in width ≤ 4096
width_fits Byte place address va second first whole = grind arith
width_fits Half place address va second first whole = grind arith
width_fits Word place address va second first whole = grind arith
width_fits Double place address va second first whole = grind arith

-- by the second stage, and by both
by_alike : {h : ℕ → ℕ} {held : Places} {own : SecondStage} {reading : Reading} {host : SecondStage} {other : Reading}
    → IsRenamed h held own reading host other → (mode : Mode) (va : ℕ) (width : Width) (access : Access) (found : Found) → KeepsOffset va found
    → va % bytes_in width ≡ 0 → LocatedAlike h held (bytes_in width) (located_by own mode va access found) (located_by host mode va access found)
by_alike {h = h} {held = held} {own = own} r mode va width access (Passes address) keeps whole = rw (r.places address access) (by (own address access) refl)
  where
    by : (place : Option ℕ) → own address access ≡ place
        → LocatedAlike h held (bytes_in width) (located_at mode va access address place) (located_at mode va access address (option_map h place))
    by (Some place) e = let is = r.inside address place access e in (refl, is.0, width_fits width place address va is.1 keeps whole)
    by None e = refl
by_alike r mode va width access PageFaults keeps whole = refl
by_alike r mode va width access (MissesEntry place) keeps whole = refl

located_alike : {h : ℕ → ℕ} {held : Places} {own : SecondStage} {reading : Reading} {host : SecondStage} {other : Reading}
    → IsRenamed h held own reading host other → (known : Known) → KeepsPage known → (csrs : Csrs) (mode : Mode) (va : ℕ) (width : Width) (access : Access) → va % bytes_in width ≡ 0
    → LocatedAlike h held (bytes_in width) (located (mmu known own reading) csrs mode va access) (located (mmu known host other) csrs mode va access)
located_alike {own = own} {reading = reading} r known keeps csrs mode va width access whole =
    rw (first_alike r csrs mode va access)
    (by_alike r mode va width access (found_with (known va access) (first_stage own reading csrs mode va access))
    (with_known_keeps known keeps va access (first_stage own reading csrs mode va access) (first_keeps own reading csrs mode va access)) whole)

pub accessed_alike : {h : ℕ → ℕ} {held : Places} {own : SecondStage} {reading : Reading} {host : SecondStage} {other : Reading}
    → IsRenamed h held own reading host other → (known : Known) → KeepsPage known → (csrs : Csrs) (mode : Mode) (va : ℕ) (width : Width) (access : Access)
    → LocatedAlike h held (bytes_in width) (accessed (mmu known own reading) csrs mode va width access) (accessed (mmu known host other) csrs mode va width access)
accessed_alike {h = h} {held = held} {own = own} {reading = reading} {host = host} {other = other} r known keeps csrs mode va width access =
    by (va % bytes_in width == 0) (eqb-true (va % bytes_in width) 0)
  where
    by : (b : Bool) → (b ≡ true → va % bytes_in width ≡ 0)
        → LocatedAlike h held (bytes_in width) (cond b (located (mmu known own reading) csrs mode va access) (Fails (Faults (exception mode (faults_of access).misaligned va))))
        (cond b (located (mmu known host other) csrs mode va access) (Fails (Faults (exception mode (faults_of access).misaligned va))))
    by true whole = located_alike r known keeps csrs mode va width access (whole refl)
    by false whole = refl
