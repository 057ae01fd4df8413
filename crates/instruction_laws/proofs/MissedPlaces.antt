-- What the stop of an instruction tells.
use Rattle.std.specs.Prelude.{◌==◌, Result, Ok, Err}
use Rattle.std.proofs.Common.{cond, ◌≡◌, ℕ, zero, suc, ◌+◌, ◌*◌, ◌/◌, ◌%◌, ◌^◌, ◌⊎◌, ◌∙◌, inl, inr, Bool, true, false, [], Option, Some, None, refl, ap, sym, arith}
use Rattle.arch_defs.specs.declared.modes.Access.{Access}
use Rattle.arch_defs.specs.declared.modes.Access.TheVariants.{Fetch, Implicit}
use Rattle.arch_defs.specs.declared.modes.Mode.{Mode}
use Rattle.arch_defs.specs.declared.modes.Trap.{Trap}
use Rattle.arch_defs.specs.declared.registers.Csrs.{Csrs}
use Rattle.arch_defs.specs.declared.registers.Virtual.{Virtual}
use Rattle.arch_defs.specs.declared.roots.SupervisorRoot.{SupervisorRoot}
use Rattle.arch_defs.specs.declared.roots.SupervisorRoot.TheVariants as root
use Rattle.arch_defs.specs.declared.walks.Found.{Found}
use Rattle.arch_defs.specs.declared.walks.Found.TheVariants.{Passes, PageFaults, MissesEntry}
use Rattle.arch_defs.specs.declared.walks.LeafPte.{LeafPte}
use Rattle.arch_defs.specs.declared.walks.MissingPlace.{MissingPlace}
use Rattle.arch_defs.specs.declared.walks.Next.{Next}
use Rattle.arch_defs.specs.declared.walks.Next.TheVariants.{Ends, Below}
use Rattle.arch_defs.specs.declared.walks.Privilege.{Privilege}
use Rattle.arch_defs.specs.declared.walks.Shape.{Shape}
use Rattle.arch_defs.specs.declared.walks.WalkEnd.{WalkEnd}
use Rattle.arch_defs.specs.declared.walks.WalkEnd.TheVariants.{Leaf, PageFault, FetchEnd}
use Rattle.arch_defs.specs.declared.widths.Width.{Width}
use Rattle.arch_defs.specs.declared.widths.Width.TheVariants.{Word}
use Rattle.arch_defs.specs.Memory.{Mmu, Reading, SecondStage}
use Rattle.arch_defs.specs.Permits.{permits_first}
use Rattle.arch_defs.specs.Roots.{supervisor_shape}
use Rattle.arch_defs.specs.SecondStage.{guest_page_trap, is_implicit}
use Rattle.arch_defs.specs.TableEntries.{entry_next, leaf_with, pte_of}
use Rattle.arch_defs.specs.Translation.{entry_words_through, first_stage, found_by, found_under, privilege_of, supervisor_of}
use Rattle.arch_defs.specs.Traps.{exception, faults_of}
use Rattle.arch_defs.specs.Walk.{EntryReading, end_of, index, is_canonical, later, leaf_address, levels, met_in, next_of, or_else, path, path_from, place_of, read_next, walk}
use Rattle.arch_defs.specs.Widths.{bytes_in}
use Rattle.op_defs.specs.declared.ops.DataAccess.{DataAccess}
use Rattle.op_defs.specs.declared.ops.Effect.{Effect}
use Rattle.op_defs.specs.declared.ops.Effect.TheVariants.{Sets, Raises, Data, Calls, Privileged as Decides}
use Rattle.op_defs.specs.declared.ops.Op.{Op}
use Rattle.op_defs.specs.declared.ops.Purpose.{Purpose}
use Rattle.op_defs.specs.declared.ops.Purpose.TheVariants.{Load, LoadCode, Store, Reserve, StoreReserved, Modify}
use Rattle.op_defs.specs.Meaning.{meaning}
use Rattle.op_defs.specs.Table.{op_of}
use Rattle.machine_defs.specs.Core.{At, Fails, Faults, Located, Misses, accessed, at_place, called_from, completed, core, data_place, decoded, done, event_of, executed, fetch_place, found_with, instruction, kind_of, located, located_at, located_by, word_at}
use Rattle.machine_defs.specs.Outcomes.{Outcome, Done, Trapped, Missed, Called, Waits, Fenced, FirstFenced, Accesses}
use Rattle.machine_defs.specs.Privileges.{privileged}
use Rattle.instruction_laws.specs.MissedPlaces.{MissedIsTold, MissedIsWanted, MissedOffset, access_of, told_place, wanted_at, wanted_by, wanted_of}
use Rattle.instruction_laws.specs.Renaming.{KeepsPage}
use Rattle.instruction_laws.proofs.Asking.{IsDecided, IsRead, called_decided, is_read, privileged_decided}
use Rattle.instruction_laws.proofs.Placed.{KeepsOffset, first_keeps, with_known_keeps}
use Rattle.arch_defs.proofs.SamePages.{eighth}

-- Q holds of the place that an access misses, if it does
abbrev LocatedMisses : (MissingPlace → Type 0) → Located → Type 0
LocatedMisses Q (At place) = Unit {0}
LocatedMisses Q (Fails (Faults trap)) = Unit {0}
LocatedMisses Q (Fails (Misses missing)) = Q missing

-- an outcome that stops wanted this, and Q holds of the place that it misses
abbrev StopsWith : (MissingPlace → Type 0) → Option DataAccess → Outcome → Type 0
StopsWith Q wants (Missed missing wanted) = (wanted ≡ wants) × Q missing
StopsWith Q wants (Done state stored event) = Unit {0}
StopsWith Q wants (Trapped trap) = Unit {0}
StopsWith Q wants Called = Unit {0}
StopsWith Q wants (Waits state) = Unit {0}
StopsWith Q wants (Fenced state fence) = Unit {0}
StopsWith Q wants (FirstFenced state named fence) = Unit {0}
StopsWith Q wants (Accesses wanted) = Unit {0}

decided_stops : (Q : MissingPlace → Type 0) (wants : Option DataAccess) (o : Outcome) → IsDecided o → StopsWith Q wants o
decided_stops Q wants (Missed missing wanted) is = absurd is
decided_stops Q wants (Done state stored event) is = tt
decided_stops Q wants (Trapped trap) is = tt
decided_stops Q wants Called is = tt
decided_stops Q wants (Waits state) is = tt
decided_stops Q wants (Fenced state fence) is = tt
decided_stops Q wants (FirstFenced state named fence) is = tt
decided_stops Q wants (Accesses wanted) is = tt

-- no instruction makes an implicit access of its own
never_implicit : (purpose : Purpose) → is_implicit (kind_of purpose) ≡ false
never_implicit (Load signed rd) = refl
never_implicit (LoadCode rd) = refl
never_implicit (Store value) = refl
never_implicit (Reserve rd) = refl
never_implicit (StoreReserved value rd) = refl
never_implicit (Modify op operand rd) = refl

-- what holds of each access that is not made holds of an instruction that stops there
abbrev EachMisses : (MissingPlace → Type 0) → Mmu → Virtual → Type 0
EachMisses Q through s = (va : ℕ) (width : Width) (access : Access) → is_implicit access ≡ false
    → LocatedMisses Q (accessed through s.csrs s.mode va width access)

data_stops : (Q : MissingPlace → Type 0) (wanted : DataAccess) (rest : ℕ → Outcome) → ((place : ℕ) → StopsWith Q (Some wanted) (rest place))
    → (a : Located) → LocatedMisses Q a → StopsWith Q (Some wanted) (at_place (Some wanted) a rest)
data_stops Q wanted rest goes (At place) has = goes place
data_stops Q wanted rest goes (Fails (Faults trap)) has = tt
data_stops Q wanted rest goes (Fails (Misses missing)) has = (refl, has)

executed_stops : (Q : MissingPlace → Type 0) (through : Mmu) (s : Virtual) → EachMisses Q through s → (word : ℕ) (effect : Effect)
    → StopsWith Q (wanted_by effect) (executed through s word effect)
executed_stops Q through s each word (Sets rd value next) = tt
executed_stops Q through s each word (Raises cause tval) = tt
executed_stops Q through s each word (Data wanted) =
    data_stops Q wanted (λ place. done (event_of s.regs.pc word) (completed through.reading s wanted.width wanted.purpose place)) (λ place. tt)
    (data_place through s.csrs s.mode wanted) (each wanted.address wanted.width (kind_of wanted.purpose) (never_implicit wanted.purpose))
executed_stops Q through s each word Calls = decided_stops Q None (called_from s.mode) (called_decided s.mode)
executed_stops Q through s each word (Decides effect) = decided_stops Q None (privileged s word effect) (privileged_decided s word effect)

decoded_stops : (Q : MissingPlace → Type 0) (through : Mmu) (s : Virtual) → EachMisses Q through s → (word : ℕ) (o : Option Op)
    → StopsWith Q (wanted_of s o) (decoded through s word o)
decoded_stops Q through s each word (Some o) = executed_stops Q through s each word (meaning o s.regs)
decoded_stops Q through s each word None = tt

core_stops : (Q : MissingPlace → Type 0) (through : Mmu) (s : Virtual) → EachMisses Q through s
    → StopsWith Q (wanted_at through.reading s (fetch_place through s)) (core through s)
unfolding core
core_stops Q through s each = by (fetch_place through s) (each s.regs.pc Word Fetch refl)
  where
    by : (a : Located) → LocatedMisses Q a
        → StopsWith Q (wanted_at through.reading s a) (at_place None a (λ place. instruction through s (word_at through.reading place)))
    by (At place) has = decoded_stops Q through s each (word_at through.reading place) (op_of (word_at through.reading place))
    by (Fails (Faults trap)) has = tt
    by (Fails (Misses missing)) has = (refl, has)

-- what was wanted
abbrev Any : MissingPlace → Type 0
Any missing = Unit {0}

any_misses : (a : Located) → LocatedMisses Any a
any_misses (At place) = tt
any_misses (Fails (Faults trap)) = tt
any_misses (Fails (Misses missing)) = tt

pub missed_is_wanted : MissedIsWanted
missed_is_wanted through s missing wanted is =
    let stops = core_stops Any through s (λ va width access plain. any_misses (accessed through s.csrs s.mode va width access)) in
    (rw is at stops).0

-- an entry that a walk cannot read is at a multiple of 8
abbrev EndsWhole : WalkEnd → Type 0
EndsWhole (Leaf frame level r w x u) = Unit {0}
EndsWhole PageFault = Unit {0}
EndsWhole (FetchEnd place trap) = place % 8 ≡ 0

abbrev NextWhole : Next → Type 0
NextWhole (Ends end) = EndsWhole end
NextWhole (Below table) = Unit {0}

read_whole : (next : Next) → IsRead next → NextWhole next
read_whole (Ends (Leaf frame level r w x u)) read = tt
read_whole (Ends PageFault) read = tt
read_whole (Ends (FetchEnd place trap)) read = absurd read
read_whole (Below table) read = tt

met_whole : (level place : ℕ) (access : Access) (read : Result ℕ Trap) → place % 8 ≡ 0 → NextWhole (read_next level place access read)
met_whole level place access (Ok word) whole = read_whole (entry_next level access (pte_of word)) (is_read level access (pte_of word))
met_whole level place access (Err trap) whole = whole

paths_whole : (reading : EntryReading) (shape : Shape) (va : ℕ) (access : Access) (level table : ℕ) → EndsWhole (end_of access (path_from reading shape va access level table))
unfolding path_from end_of
paths_whole reading shape va access zero table = tt
paths_whole reading shape va access (suc level) table =
    by (next_of access (met_in reading shape va level table))
    (met_whole level (place_of shape level table va) access (reading (place_of shape level table va)) (eighth table (index shape level va)))
    (λ t. paths_whole reading shape va access level t)
  where
    by : (next : Next) → NextWhole next → ((t : ℕ) → EndsWhole (end_of access (path_from reading shape va access level t)))
        → EndsWhole (or_else (end_of access (later (path_from reading shape va access level) next)) next)
    by (Ends end) whole below = whole
    by (Below t) whole below = below t

walk_whole : (reading : EntryReading) (page : ℕ) (shape : Shape) (va : ℕ) (access : Access) → EndsWhole (walk reading page shape va access)
unfolding walk path end_of
walk_whole reading page shape va access = by (is_canonical shape va)
  where
    by : (right : Bool) → EndsWhole (end_of access (cond right (path_from reading shape va access (levels shape) page) []))
    by true = paths_whole reading shape va access (levels shape) page
    by false = tt

-- so it is of the first stage
abbrev FoundWhole : Found → Type 0
FoundWhole (Passes address) = Unit {0}
FoundWhole PageFaults = Unit {0}
FoundWhole (MissesEntry place) = place % 8 ≡ 0

by_whole : (privilege : Privilege) (access : Access) (va : ℕ) (end : WalkEnd) → EndsWhole end → FoundWhole (found_by privilege access va end)
by_whole privilege access va (Leaf frame level r w x u) whole = by (permits_first privilege access leaf)
  where
    leaf : LeafPte
    leaf = leaf_with frame level r w x u

    by : (b : Bool) → FoundWhole (cond b (Passes (leaf_address leaf va)) PageFaults)
    by true = tt
    by false = tt
by_whole privilege access va PageFault whole = tt
by_whole privilege access va (FetchEnd place trap) whole = whole

under_whole : (second : SecondStage) (reading : Reading) (privilege : Privilege) (va : ℕ) (access : Access) (atp : SupervisorRoot)
    → FoundWhole (found_under second reading privilege va access atp)
under_whole second reading privilege va access root.Bare = tt
under_whole second reading privilege va access (root.Table table asid ppn) =
    by_whole privilege access va _ (walk_whole (entry_words_through second reading) (ppn % 2 ^ 44) (supervisor_shape table) va access)

with_known_whole : (known : Option ℕ) (found : Found) → FoundWhole found → FoundWhole (found_with known found)
with_known_whole (Some address) found whole = tt
with_known_whole None found whole = whole

-- a missing place is that of the read of an entry, or that of the access itself, with its offset
pub record IsTelling (mode : Mode) (missing : MissingPlace) : Type 0 where
  pub made_as : missing.mode ≡ mode
  pub tells : ((missing.kind ≡ Implicit) × (missing.address % 8 ≡ 0))
      ⊎ ((missing.kind ≡ missing.access) × (is_implicit missing.access ≡ false) × (missing.address % 4096 ≡ missing.va % 4096))

by_telling : (second : SecondStage) (mode : Mode) (va : ℕ) (access : Access) → is_implicit access ≡ false → (found : Found) → KeepsOffset va found → FoundWhole found
    → LocatedMisses (IsTelling mode) (located_by second mode va access found)
by_telling second mode va access plain (Passes address) keeps whole = by (second address access)
  where
    by : (place : Option ℕ) → LocatedMisses (IsTelling mode) (located_at mode va access address place)
    by (Some place) = tt
    by None = record { made_as = refl; tells = inr (refl, plain, keeps) }
by_telling second mode va access plain PageFaults keeps whole = tt
by_telling second mode va access plain (MissesEntry place) keeps whole = record { made_as = refl; tells = inl (refl, whole) }

located_telling : (through : Mmu) → KeepsPage through.known → (csrs : Csrs) (mode : Mode) (va : ℕ) (access : Access) → is_implicit access ≡ false
    → LocatedMisses (IsTelling mode) (located through csrs mode va access)
unfolding first_stage
located_telling through keeps csrs mode va access plain = let found = first_stage through.second through.reading csrs mode va access in
    by_telling through.second mode va access plain (found_with (through.known va access) found)
    (with_known_keeps through.known keeps va access found (first_keeps through.second through.reading csrs mode va access))
    (with_known_whole (through.known va access) found (under_whole through.second through.reading (privilege_of csrs mode) va access (supervisor_of csrs mode).atp))

accessed_telling : (through : Mmu) → KeepsPage through.known → (csrs : Csrs) (mode : Mode) (va : ℕ) (width : Width) (access : Access) → is_implicit access ≡ false
    → LocatedMisses (IsTelling mode) (accessed through csrs mode va width access)
accessed_telling through keeps csrs mode va width access plain = by (va % bytes_in width == 0)
  where
    by : (b : Bool) → LocatedMisses (IsTelling mode) (cond b (located through csrs mode va access) (Fails (Faults (exception mode (faults_of access).misaligned va))))
    by true = located_telling through keeps csrs mode va access plain
    by false = tt

pub telling : (through : Mmu) (s : Virtual) (missing : MissingPlace) (wanted : Option DataAccess) → KeepsPage through.known
    → core through s ≡ Missed missing wanted → IsTelling s.mode missing
telling through s missing wanted keeps is = let stops = core_stops (IsTelling s.mode) through s (accessed_telling through keeps s.csrs s.mode) in
    (rw is at stops).1

-- so the offset is known
pub missed_offset : MissedOffset
missed_offset through s missing wanted keeps is plain = by (telling through s missing wanted keeps is).tells
  where
    by : ((missing.kind ≡ Implicit) × (missing.address % 8 ≡ 0))
        ⊎ ((missing.kind ≡ missing.access) × (is_implicit missing.access ≡ false) × (missing.address % 4096 ≡ missing.va % 4096))
        → missing.address % 4096 ≡ missing.va % 4096
    by (inl (implicit, whole)) = let never : false ≡ true = sym plain ∙ ap is_implicit implicit in absurd cc
    by (inr (kind, plain, offset)) = offset

-- and the place
fourth : (address : ℕ) → address % 8 ≡ 0 → address / 4 * 4 ≡ address
fourth address whole = omega arith

with_offset : (address va : ℕ) → address % 4096 ≡ va % 4096 → address / 4 * 4 / 4096 * 4096 + va % 4096 ≡ address
with_offset address va offset = omega arith

told : (mode : Mode) (missing : MissingPlace) → IsTelling mode missing → access_of (faults_of missing.access).guest_page ≡ missing.access
    → told_place mode (guest_page_trap missing) ≡ missing
told mode missing is same = by is.tells
  where
    by : ((missing.kind ≡ Implicit) × (missing.address % 8 ≡ 0))
        ⊎ ((missing.kind ≡ missing.access) × (is_implicit missing.access ≡ false) × (missing.address % 4096 ≡ missing.va % 4096))
        → told_place mode (guest_page_trap missing) ≡ missing
    by (inl (implicit, whole)) = let b : is_implicit missing.kind ≡ true = ap is_implicit implicit in λ i. record {
      address = (ap (λ b. cond b (missing.address / 4 * 4) (missing.address / 4 * 4 / 4096 * 4096 + missing.va % 4096)) b ∙ fourth missing.address whole) i;
      kind = (ap (λ b. cond b Implicit (access_of (faults_of missing.access).guest_page)) b ∙ sym implicit) i;
      access = same i;
      va = missing.va;
      mode = sym is.made_as i;
    }
    by (inr (kind, plain, offset)) = let b : is_implicit missing.kind ≡ false = ap is_implicit kind ∙ plain in λ i. record {
      address = (ap (λ b. cond b (missing.address / 4 * 4) (missing.address / 4 * 4 / 4096 * 4096 + missing.va % 4096)) b ∙ with_offset missing.address missing.va offset) i;
      kind = (ap (λ b. cond b Implicit (access_of (faults_of missing.access).guest_page)) b ∙ same ∙ sym kind) i;
      access = same i;
      va = missing.va;
      mode = sym is.made_as i;
    }

pub missed_is_told : MissedIsTold
missed_is_told through s missing wanted keeps is same = told s.mode missing (telling through s missing wanted keeps is) same
