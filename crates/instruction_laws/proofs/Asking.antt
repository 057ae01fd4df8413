-- What one instruction asks a second stage: at most ten addresses. Under a second stage that gives fewer
-- places than another, but no others, it ends as under the other, or stops at one of what it asks the other.
use Rattle.std.specs.Prelude.{Result, Ok, Err, ◌==◌, ◌&&◌, ◌||◌}
use Rattle.std.proofs.Common.{◌+◌, cond, ◌≡◌, ℕ, zero, suc, ◌%◌, ◌^◌, ◌≤◌, ◌⊎◌, inl, inr, Bool, true, false, List, [], ◌∷◌, ◌++◌, length, Option, Some, None, refl, arith, length-append}
use Rattle.arch_defs.specs.declared.csr_names.CsrEnd.{CsrEnd}
use Rattle.arch_defs.specs.declared.modes.Access.{Access}
use Rattle.arch_defs.specs.declared.modes.Access.TheVariants.{Fetch, Implicit}
use Rattle.arch_defs.specs.declared.modes.Mode.{Mode}
use Rattle.arch_defs.specs.declared.modes.Mode.TheVariants.{HS, U, VS, VU}
use Rattle.arch_defs.specs.declared.registers.Csrs.{Csrs}
use Rattle.arch_defs.specs.declared.roots.SupervisorRoot.{SupervisorRoot}
use Rattle.arch_defs.specs.declared.roots.SupervisorRoot.TheVariants as root
use Rattle.arch_defs.specs.declared.registers.Virtual.{Virtual}
use Rattle.arch_defs.specs.declared.walks.Found.{Found}
use Rattle.arch_defs.specs.declared.walks.Found.TheVariants.{Passes, PageFaults, MissesEntry}
use Rattle.arch_defs.specs.declared.walks.LeafPte.{LeafPte}
use Rattle.arch_defs.specs.declared.walks.Next.{Next}
use Rattle.arch_defs.specs.declared.walks.Next.TheVariants.{Ends, Below}
use Rattle.arch_defs.specs.declared.walks.Privilege.{Privilege}
use Rattle.arch_defs.specs.declared.walks.Shape.{Shape}
use Rattle.arch_defs.specs.declared.walks.Pte.{Pte}
use Rattle.arch_defs.specs.declared.walks.MissingPlace.{MissingPlace}
use Rattle.arch_defs.specs.declared.walks.WalkEnd.{WalkEnd}
use Rattle.arch_defs.specs.declared.walks.WalkEnd.TheVariants.{Leaf, PageFault, FetchEnd}
use Rattle.arch_defs.specs.declared.widths.Width.{Width}
use Rattle.arch_defs.specs.declared.widths.Width.TheVariants.{Word}
use Rattle.arch_defs.specs.CsrAccess.{read_csr, write_csr}
use Rattle.arch_defs.specs.Memory.{Known, Mmu, Reading, SecondStage, mmu}
use Rattle.arch_defs.specs.Permits.{permits_first}
use Rattle.arch_defs.specs.Roots.{supervisor_shape}
use Rattle.arch_defs.specs.TableEntries.{end_at_leaf, entry_next, is_aligned, is_leaf, is_marked, is_valid, leaf_next, leaf_pte, leaf_with, pointer_next, pte_of}
use Rattle.arch_defs.specs.Traps.{exception, faults_of}
use Rattle.arch_defs.specs.Translation.{entry_word_at, entry_words_through, first_stage, found_by, found_under, privilege_of, supervisor_of}
use Rattle.arch_defs.specs.Walk.{EntryReading, Met, end_of, is_canonical, later, leaf_address, levels, met_in, most_levels, next_of, or_else, path, path_from, place_of, read_next, walk}
use Rattle.arch_defs.specs.Widths.{bytes_in}
use Rattle.arch_defs.proofs.Shapes.{few_levels}
use Rattle.op_defs.specs.declared.ops.CsrOp.{CsrOp}
use Rattle.op_defs.specs.declared.ops.DataAccess.{DataAccess}
use Rattle.op_defs.specs.declared.ops.Effect.{Effect}
use Rattle.op_defs.specs.declared.ops.Effect.TheVariants.{Sets, Raises, Data, Calls, Privileged as Decides}
use Rattle.op_defs.specs.declared.ops.Op.{Op}
use Rattle.op_defs.specs.declared.ops.Privileged.{Privileged}
use Rattle.op_defs.specs.declared.ops.Privileged.TheVariants.{Csr, Sret, Wfi, SfenceVma, HfenceVvma, HfenceGvma, HlvAccess}
use Rattle.op_defs.specs.Meaning.{meaning}
use Rattle.op_defs.specs.Table.{op_of}
use Rattle.machine_defs.specs.Fills.{needed}
use Rattle.machine_defs.specs.Outcomes.{Outcome, Done, Trapped, Missed, Called, Waits, Fenced, FirstFenced, Accesses}
use Rattle.machine_defs.specs.Core.{At, Fails, Faults, Located, Misses, accessed, at_place, called_from, core, decoded, executed, fetch_place, found_with, kind_of, located, located_at, located_by, word_at}
use Rattle.machine_defs.specs.Privileges.{combined, csr_accessed, csr_changed, csr_shown, decided, performed, privileged, refusal, value_or_zero}
use Rattle.instruction_laws.proofs.Cached.{either}

-- a number is one of these
abbrev pub In : ℕ → List ℕ → Type 0
In p [] = ⊥
In p (q ∷ qs) = (q ≡ p) ⊎ In p qs

in_left : (p : ℕ) (qs rs : List ℕ) → In p qs → In p (qs ++ rs)
in_left p [] rs h = absurd h
in_left p (q ∷ qs) rs (inl e) = inl e
in_left p (q ∷ qs) rs (inr h) = inr (in_left p qs rs h)

in_right : (p : ℕ) (qs rs : List ℕ) → In p rs → In p (qs ++ rs)
in_right p [] rs h = h
in_right p (q ∷ qs) rs h = inr (in_right p qs rs h)

-- a second stage gives no place that another does not
pub record IsWithin (small large : SecondStage) : Type 0 where
  pub gives : (address place : ℕ) (kind : Access) → small address kind ≡ Some place → large address kind ≡ Some place

-- an access has no place under the smaller, and is one of these; and where it has none under the larger,
-- something is so
abbrev pub StopsAt : SecondStage → SecondStage → List ℕ → ℕ → Access → Type 0 → Type 0
StopsAt small large asked address kind same =
    In address asked × (small address kind ≡ None) × (large address kind ≡ None → same)

stops_more : (small large : SecondStage) (asked more : List ℕ) (address : ℕ) (kind : Access) (same same' : Type 0)
    → (In address asked → In address more) → (same → same') → StopsAt small large asked address kind same → StopsAt small large more address kind same'
stops_more small large asked more address kind same same' wider then (inside, none, also) = (wider inside, none, λ n. then (also n))

-- the ends of two walks
abbrev pub EndsAlike : SecondStage → SecondStage → List ℕ → WalkEnd → WalkEnd → Type 0
EndsAlike small large asked (Leaf frame level r w x u) other = other ≡ Leaf frame level r w x u
EndsAlike small large asked PageFault other = other ≡ PageFault
EndsAlike small large asked (FetchEnd place trap) other = StopsAt small large asked place Implicit (other ≡ FetchEnd place trap)

ends_more : (small large : SecondStage) (asked : List ℕ) (at : ℕ) (end other : WalkEnd)
    → EndsAlike small large asked end other → EndsAlike small large (at ∷ asked) end other
ends_more small large asked at (Leaf frame level r w x u) other alike = alike
ends_more small large asked at PageFault other alike = alike
ends_more small large asked at (FetchEnd place trap) other alike =
    stops_more small large asked (at ∷ asked) place Implicit (other ≡ FetchEnd place trap) (other ≡ FetchEnd place trap) (λ h. inr h) (λ e. e) alike

-- an entry that was read is not an end of reading
abbrev pub IsRead : Next → Type 0
IsRead (Ends (Leaf frame level r w x u)) = Unit {0}
IsRead (Ends PageFault) = Unit {0}
IsRead (Ends (FetchEnd place trap)) = ⊥
IsRead (Below table) = Unit {0}

leaf_is_read : (level : ℕ) (access : Access) (e : Pte) → IsRead (leaf_next level access e)
leaf_is_read level access e = either IsRead (is_aligned level e.frame && is_marked access e) (Ends (end_at_leaf (leaf_pte level e))) (Ends PageFault) tt tt

pointer_is_read : (level : ℕ) (e : Pte) → IsRead (pointer_next level e)
pointer_is_read level e = either IsRead (e.a || e.d || e.u || level == 0) (Ends PageFault) (Below e.frame) tt tt

pub is_read : (level : ℕ) (access : Access) (e : Pte) → IsRead (entry_next level access e)
unfolding entry_next
is_read level access e = either IsRead (is_valid e) (cond (is_leaf e) (leaf_next level access e) (pointer_next level e)) (Ends PageFault)
    (either IsRead (is_leaf e) (leaf_next level access e) (pointer_next level e) (leaf_is_read level access e) (pointer_is_read level e)) tt

-- the places of the entries met
abbrev pub places_of : List Met → List ℕ
places_of [] = []
places_of (m ∷ ms) = m.place ∷ places_of ms

-- the walks from one entry on that was read
next_alike : (small large : SecondStage) (access : Access) (at : ℕ) (from_small from_large : ℕ → List Met)
    → ((table : ℕ) → EndsAlike small large (places_of (from_large table)) (end_of access (from_small table)) (end_of access (from_large table)))
    → (next : Next) → IsRead next
    → EndsAlike small large (at ∷ places_of (later from_large next)) (or_else (end_of access (later from_small next)) next) (or_else (end_of access (later from_large next)) next)
next_alike small large access at from_small from_large below (Ends (Leaf frame level r w x u)) read = refl
next_alike small large access at from_small from_large below (Ends PageFault) read = refl
next_alike small large access at from_small from_large below (Ends (FetchEnd place trap)) read = absurd read
next_alike small large access at from_small from_large below (Below table) read =
    ends_more small large (places_of (from_large table)) at (end_of access (from_small table)) (end_of access (from_large table)) (below table)

-- the walks from one entry on, by what the smaller has for it
paths_alike : (small large : SecondStage) → IsWithin small large → (reading : Reading) (shape : Shape) (va : ℕ) (access : Access) (level table : ℕ)
    → EndsAlike small large (places_of (path_from (entry_words_through large reading) shape va access level table))
    (end_of access (path_from (entry_words_through small reading) shape va access level table))
    (end_of access (path_from (entry_words_through large reading) shape va access level table))
unfolding path_from end_of
paths_alike small large w reading shape va access zero table = refl
paths_alike small large w reading shape va access (suc level) table =
    by (place_of shape level table va) (small (place_of shape level table va) Implicit) refl (λ t. paths_alike small large w reading shape va access level t)
  where
    by : (at : ℕ) (place : Option ℕ) → small at Implicit ≡ place
        → ((t : ℕ) → EndsAlike small large (places_of (path_from (entry_words_through large reading) shape va access level t))
        (end_of access (path_from (entry_words_through small reading) shape va access level t))
        (end_of access (path_from (entry_words_through large reading) shape va access level t)))
        → EndsAlike small large
        (at ∷ places_of (later (path_from (entry_words_through large reading) shape va access level) (read_next level at access (entry_word_at reading at (large at Implicit)))))
        (or_else (end_of access (later (path_from (entry_words_through small reading) shape va access level) (read_next level at access (entry_word_at reading at (small at Implicit)))))
        (read_next level at access (entry_word_at reading at (small at Implicit))))
        (or_else (end_of access (later (path_from (entry_words_through large reading) shape va access level) (read_next level at access (entry_word_at reading at (large at Implicit)))))
        (read_next level at access (entry_word_at reading at (large at Implicit))))
    by at (Some place) e below = rw (e, w.gives at place Implicit e)
        (next_alike small large access at _ _ below (entry_next level access (pte_of (reading place 8))) (is_read level access (pte_of (reading place 8))))
    by at None e below = rw e (inl refl, e, λ none. rw none refl)

pub walks_alike : (small large : SecondStage) → IsWithin small large → (reading : Reading) (page : ℕ) (shape : Shape) (va : ℕ) (access : Access)
    → EndsAlike small large (places_of (path (entry_words_through large reading) page shape va access))
    (walk (entry_words_through small reading) page shape va access) (walk (entry_words_through large reading) page shape va access)
unfolding walk path end_of
walks_alike small large w reading page shape va access = by (is_canonical shape va)
  where
    by : (right : Bool)
        → EndsAlike small large (places_of (cond right (path_from (entry_words_through large reading) shape va access (levels shape) page) []))
        (end_of access (cond right (path_from (entry_words_through small reading) shape va access (levels shape) page) []))
        (end_of access (cond right (path_from (entry_words_through large reading) shape va access (levels shape) page) []))
    by true = paths_alike small large w reading shape va access (levels shape) page
    by false = refl

-- the first stage: the places of the entries that it reads
abbrev pub read_for : SecondStage → Reading → ℕ → Access → SupervisorRoot → List ℕ
read_for second reading va access root.Bare = []
read_for second reading va access (root.Table table asid ppn) =
    places_of (path (entry_words_through second reading) (ppn % 2 ^ 44) (supervisor_shape table) va access)

abbrev FindsAlike : SecondStage → SecondStage → List ℕ → Found → Found → Type 0
FindsAlike small large asked (Passes address) other = other ≡ Passes address
FindsAlike small large asked PageFaults other = other ≡ PageFaults
FindsAlike small large asked (MissesEntry place) other = StopsAt small large asked place Implicit (other ≡ MissesEntry place)

found_alike : (small large : SecondStage) (asked : List ℕ) (privilege : Privilege) (access : Access) (va : ℕ) (end other : WalkEnd)
    → EndsAlike small large asked end other → FindsAlike small large asked (found_by privilege access va end) (found_by privilege access va other)
found_alike small large asked privilege access va (Leaf frame level r w x u) other alike = rw alike (both (permits_first privilege access leaf))
  where
    leaf : LeafPte
    leaf = leaf_with frame level r w x u

    both : (permits : Bool) → FindsAlike small large asked (cond permits (Passes (leaf_address leaf va)) PageFaults) (cond permits (Passes (leaf_address leaf va)) PageFaults)
    both true = refl
    both false = refl
found_alike small large asked privilege access va PageFault other alike = rw alike refl
found_alike small large asked privilege access va (FetchEnd place trap) other alike =
    stops_more small large asked asked place Implicit (other ≡ FetchEnd place trap) (found_by privilege access va other ≡ MissesEntry place) (λ h. h) (λ e. rw e refl) alike

under_alike : (small large : SecondStage) → IsWithin small large → (reading : Reading) (privilege : Privilege) (va : ℕ) (access : Access) (atp : SupervisorRoot)
    → FindsAlike small large (read_for large reading va access atp) (found_under small reading privilege va access atp) (found_under large reading privilege va access atp)
under_alike small large w reading privilege va access root.Bare = refl
under_alike small large w reading privilege va access (root.Table table asid ppn) =
    found_alike small large _ privilege access va _ _ (walks_alike small large w reading (ppn % 2 ^ 44) (supervisor_shape table) va access)

-- what is known of an address is so for both
known_alike : (small large : SecondStage) (asked : List ℕ) (known : Option ℕ) (found other : Found)
    → FindsAlike small large asked found other → FindsAlike small large asked (found_with known found) (found_with known other)
known_alike small large asked (Some address) found other alike = refl
known_alike small large asked None found other alike = alike

-- an outcome, and whether something is so where it stops at no access
abbrev OutcomeAlike : SecondStage → SecondStage → List ℕ → Outcome → Type 0 → Type 0
OutcomeAlike small large asked (Missed missing wanted) same = StopsAt small large asked missing.address missing.kind same
OutcomeAlike small large asked (Done state stored event) same = same
OutcomeAlike small large asked (Trapped trap) same = same
OutcomeAlike small large asked Called same = same
OutcomeAlike small large asked (Waits state) same = same
OutcomeAlike small large asked (Fenced state fence) same = same
OutcomeAlike small large asked (FirstFenced state named fence) same = same
OutcomeAlike small large asked (Accesses access) same = same

outcome_more : (small large : SecondStage) (asked more : List ℕ) (o : Outcome) (same same' : Type 0)
    → ((p : ℕ) → In p asked → In p more) → (same → same') → OutcomeAlike small large asked o same → OutcomeAlike small large more o same'
outcome_more small large asked more (Missed missing wanted) same same' wider then alike =
    stops_more small large asked more missing.address missing.kind same same' (wider missing.address) then alike
outcome_more small large asked more (Done state stored event) same same' wider then alike = then alike
outcome_more small large asked more (Trapped trap) same same' wider then alike = then alike
outcome_more small large asked more Called same same' wider then alike = then alike
outcome_more small large asked more (Waits state) same same' wider then alike = then alike
outcome_more small large asked more (Fenced state fence) same same' wider then alike = then alike
outcome_more small large asked more (FirstFenced state named fence) same same' wider then alike = then alike
outcome_more small large asked more (Accesses access) same same' wider then alike = then alike

-- where an access is made: it asks for the entries, and for the address that they give
abbrev pub final : Found → List ℕ
final (Passes address) = address ∷ []
final PageFaults = []
final (MissesEntry place) = []

abbrev pub asked_for : Mmu → Csrs → Mode → ℕ → Access → List ℕ
asked_for through csrs mode va access =
    read_for through.second through.reading va access (supervisor_of csrs mode).atp
    ++ final (found_with (through.known va access) (first_stage through.second through.reading csrs mode va access))

abbrev pub PlacesAlike : SecondStage → SecondStage → List ℕ → Located → Located → Type 0
PlacesAlike small large asked (At place) other = other ≡ At place
PlacesAlike small large asked (Fails (Faults trap)) other = other ≡ Fails (Faults trap)
PlacesAlike small large asked (Fails (Misses missing)) other = StopsAt small large asked missing.address missing.kind (other ≡ Fails (Misses missing))

by_alike : (small large : SecondStage) → IsWithin small large → (asked : List ℕ) (mode : Mode) (va : ℕ) (access : Access) (found other : Found)
    → FindsAlike small large asked found other
    → PlacesAlike small large (asked ++ final other) (located_by small mode va access found) (located_by large mode va access other)
by_alike small large w asked mode va access (Passes address) other alike = rw alike (by (small address access) refl)
  where
    by : (place : Option ℕ) → small address access ≡ place
        → PlacesAlike small large (asked ++ address ∷ []) (located_at mode va access address place) (located_at mode va access address (large address access))
    by (Some place) e = rw (w.gives address place access e) refl
    by None e = (in_right address asked (address ∷ []) (inl refl), e, λ none. rw none refl)
by_alike small large w asked mode va access PageFaults other alike = rw alike refl
by_alike small large w asked mode va access (MissesEntry place) other alike =
    stops_more small large asked (asked ++ final other) place Implicit (other ≡ MissesEntry place)
    (located_by large mode va access other ≡ Fails (Misses (record { address = place; kind = Implicit; access = access; va = va; mode = mode })))
    (in_left place asked (final other)) (λ e. rw e refl) alike

located_alike : (small large : SecondStage) → IsWithin small large → (known : Known) (reading : Reading) (csrs : Csrs) (mode : Mode) (va : ℕ) (access : Access)
    → PlacesAlike small large (asked_for (mmu known large reading) csrs mode va access) (located (mmu known small reading) csrs mode va access)
    (located (mmu known large reading) csrs mode va access)
unfolding first_stage
located_alike small large w known reading csrs mode va access = by_alike small large w _ mode va access _ _
    (known_alike small large _ (known va access) _ _ (under_alike small large w reading (privilege_of csrs mode) va access (supervisor_of csrs mode).atp))

pub accessed_alike : (small large : SecondStage) → IsWithin small large → (known : Known) (reading : Reading) (csrs : Csrs) (mode : Mode) (va : ℕ) (width : Width) (access : Access)
    → PlacesAlike small large (asked_for (mmu known large reading) csrs mode va access) (accessed (mmu known small reading) csrs mode va width access)
    (accessed (mmu known large reading) csrs mode va width access)
accessed_alike small large w known reading csrs mode va width access = by (va % bytes_in width == 0)
  where
    by : (whole : Bool) → PlacesAlike small large (asked_for (mmu known large reading) csrs mode va access)
        (cond whole (located (mmu known small reading) csrs mode va access) (Fails (Faults (exception mode (faults_of access).misaligned va))))
        (cond whole (located (mmu known large reading) csrs mode va access) (Fails (Faults (exception mode (faults_of access).misaligned va))))
    by true = located_alike small large w known reading csrs mode va access
    by false = refl

-- an instruction that goes on alike at each place: it asks what its access asks, and what it asks from there on
at_alike : (small large : SecondStage) (asked : List ℕ) (more : Located → List ℕ) (wanted : Option DataAccess) (rest rest' : ℕ → Outcome) → ((other : Located) (p : ℕ) → In p asked → In p (more other))
    → ((place : ℕ) → OutcomeAlike small large (more (At place)) (rest place) (rest' place ≡ rest place)) → (own other : Located) → PlacesAlike small large asked own other
    → OutcomeAlike small large (more other) (at_place wanted own rest) (at_place wanted other rest' ≡ at_place wanted own rest)
at_alike small large asked more wanted rest rest' wider goes (At place) other alike = rw alike (goes place)
at_alike small large asked more wanted rest rest' wider goes (Fails (Faults trap)) other alike = rw alike refl
at_alike small large asked more wanted rest rest' wider goes (Fails (Misses missing)) other alike =
    stops_more small large asked (more other) missing.address missing.kind (other ≡ Fails (Misses missing)) (at_place wanted other rest' ≡ Missed missing wanted)
    (wider other missing.address) (λ e. rw e refl) alike

-- what the mode decides on stops at no access
abbrev pub IsDecided : Outcome → Type 0
IsDecided (Missed missing wanted) = ⊥
IsDecided (Done state stored event) = Unit {0}
IsDecided (Trapped trap) = Unit {0}
IsDecided Called = Unit {0}
IsDecided (Waits state) = Unit {0}
IsDecided (Fenced state fence) = Unit {0}
IsDecided (FirstFenced state named fence) = Unit {0}
IsDecided (Accesses access) = Unit {0}

decided_alike : (small large : SecondStage) (asked : List ℕ) (o : Outcome) (same : Type 0) → IsDecided o → same → OutcomeAlike small large asked o same
decided_alike small large asked (Missed missing wanted) same is held = absurd is
decided_alike small large asked (Done state stored event) same is held = held
decided_alike small large asked (Trapped trap) same is held = held
decided_alike small large asked Called same is held = held
decided_alike small large asked (Waits state) same is held = held
decided_alike small large asked (Fenced state fence) same is held = held
decided_alike small large asked (FirstFenced state named fence) same is held = held
decided_alike small large asked (Accesses access) same is held = held

shown_decided : (s : Virtual) (word rd : ℕ) (value : Result ℕ CsrEnd) → IsDecided (csr_shown s word rd value)
shown_decided s word rd (Ok value) = tt
shown_decided s word rd (Err end) = tt

changed_decided : (s : Virtual) (word rd value : ℕ) (csrs : Result Csrs CsrEnd) → IsDecided (csr_changed s word rd value csrs)
changed_decided s word rd value (Ok csrs) = tt
changed_decided s word rd value (Err end) = tt

csr_decided : (s : Virtual) (word : ℕ) (o : CsrOp) (number operand : ℕ) (writes : Bool) (rd : ℕ) → IsDecided (csr_accessed s word o number operand writes rd)
csr_decided s word o number operand true rd = let before = value_or_zero (read_csr s.csrs s.mode number) in
    changed_decided s word rd before (write_csr s.csrs s.mode number (combined o before operand))
csr_decided s word o number operand false rd = shown_decided s word rd (read_csr s.csrs s.mode number)

-- each instruction that is allowed, and one by its refusal
performed_decided : (s : Virtual) (word : ℕ) (p : Privileged) → IsDecided (performed s word p)
performed_decided s word (Csr o number operand writes rd) = csr_decided s word o number operand writes rd
performed_decided s word Sret = tt
performed_decided s word Wfi = tt
performed_decided s word (SfenceVma fence) = tt
performed_decided s word (HfenceVvma fence) = tt
performed_decided s word (HfenceGvma fence) = tt
performed_decided s word (HlvAccess wanted) = tt

pub privileged_decided : (s : Virtual) (word : ℕ) (p : Privileged) → IsDecided (privileged s word p)
unfolding privileged
privileged_decided s word p = by (refusal p s.csrs.hstatus s.mode)
  where
    by : (refusal : Option CsrEnd) → IsDecided (decided s word p refusal)
    by (Some end) = tt
    by None = performed_decided s word p

pub called_decided : (mode : Mode) → IsDecided (called_from mode)
called_decided HS = tt
called_decided U = tt
called_decided VS = tt
called_decided VU = tt

-- an effect
abbrev pub asked_by_effect : Mmu → Virtual → Effect → List ℕ
asked_by_effect through state (Data wanted) = asked_for through state.csrs state.mode wanted.address (kind_of wanted.purpose)
asked_by_effect through state _ = []

executed_alike : (small large : SecondStage) → IsWithin small large → (known : Known) (reading : Reading) (s : Virtual) (word : ℕ) (effect : Effect)
    → OutcomeAlike small large (asked_by_effect (mmu known large reading) s effect) (executed (mmu known small reading) s word effect)
    (executed (mmu known large reading) s word effect ≡ executed (mmu known small reading) s word effect)
executed_alike small large w known reading s word (Sets rd value next) = refl
executed_alike small large w known reading s word (Raises cause tval) = refl
executed_alike small large w known reading s word (Data wanted) = let asked = asked_for (mmu known large reading) s.csrs s.mode wanted.address (kind_of wanted.purpose) in
    at_alike small large asked (λ other. asked) (Some wanted) _ _ (λ other p h. h) (λ place. refl) _ _
    (accessed_alike small large w known reading s.csrs s.mode wanted.address wanted.width (kind_of wanted.purpose))
executed_alike small large w known reading s word Calls = decided_alike small large [] (called_from s.mode) _ (called_decided s.mode) refl
executed_alike small large w known reading s word (Decides effect) = decided_alike small large [] (privileged s word effect) _ (privileged_decided s word effect) refl

-- an instruction
abbrev pub asked_by_op : Mmu → Virtual → Option Op → List ℕ
asked_by_op through state (Some o) = asked_by_effect through state (meaning o state.regs)
asked_by_op through state None = []

abbrev pub asked_at : Mmu → Virtual → Located → List ℕ
asked_at through state (At place) = asked_by_op through state (op_of (word_at through.reading place))
asked_at through state (Fails failure) = []

pub asked : Mmu → Virtual → List ℕ
asked through state = asked_for through state.csrs state.mode state.regs.pc Fetch
    ++ asked_at through state (fetch_place through state)

decoded_alike : (small large : SecondStage) → IsWithin small large → (known : Known) (reading : Reading) (s : Virtual) (word : ℕ) (o : Option Op)
    → OutcomeAlike small large (asked_by_op (mmu known large reading) s o) (decoded (mmu known small reading) s word o)
    (decoded (mmu known large reading) s word o ≡ decoded (mmu known small reading) s word o)
decoded_alike small large w known reading s word (Some o) = executed_alike small large w known reading s word (meaning o s.regs)
decoded_alike small large w known reading s word None = refl

core_alike : (small large : SecondStage) → IsWithin small large → (known : Known) (reading : Reading) (s : Virtual)
    → OutcomeAlike small large (asked (mmu known large reading) s) (core (mmu known small reading) s) (core (mmu known large reading) s ≡ core (mmu known small reading) s)
unfolding core asked
core_alike small large w known reading s = let front = asked_for (mmu known large reading) s.csrs s.mode s.regs.pc Fetch in
    at_alike small large front (λ other. front ++ asked_at (mmu known large reading) s other) None _ _ (λ other p. in_left p front (asked_at (mmu known large reading) s other))
    (λ place. behind front (word_at reading place) (op_of (word_at reading place))) _ _ (accessed_alike small large w known reading s.csrs s.mode s.regs.pc Word Fetch)
  where
    behind : (front : List ℕ) (word : ℕ) (o : Option Op) → OutcomeAlike small large (front ++ asked_by_op (mmu known large reading) s o) (decoded (mmu known small reading) s word o)
        (decoded (mmu known large reading) s word o ≡ decoded (mmu known small reading) s word o)
    behind front word o = outcome_more small large (asked_by_op (mmu known large reading) s o) (front ++ asked_by_op (mmu known large reading) s o)
        (decoded (mmu known small reading) s word o) (decoded (mmu known large reading) s word o ≡ decoded (mmu known small reading) s word o)
        (decoded (mmu known large reading) s word o ≡ decoded (mmu known small reading) s word o)
        (λ p. in_right p front (asked_by_op (mmu known large reading) s o)) (λ e. e) (decoded_alike small large w known reading s word o)

-- at most ten
few_met : (reading : EntryReading) (shape : Shape) (va : ℕ) (access : Access) (level table : ℕ) → length (places_of (path_from reading shape va access level table)) ≤ level
unfolding path_from
few_met reading shape va access zero table = omega arith
few_met reading shape va access (suc level) table = by (next_of access (met_in reading shape va level table)) (λ t. few_met reading shape va access level t)
  where
    by : (next : Next) → ((t : ℕ) → length (places_of (path_from reading shape va access level t)) ≤ level)
        → suc (length (places_of (later (path_from reading shape va access level) next))) ≤ suc level
    by (Ends end) below = omega arith
    by (Below t) below = let few = below t in omega arith

few_read : (second : SecondStage) (reading : Reading) (va : ℕ) (access : Access) (atp : SupervisorRoot) → length (read_for second reading va access atp) ≤ most_levels
unfolding path
few_read second reading va access root.Bare = omega arith
few_read second reading va access (root.Table table asid ppn) = by (is_canonical (supervisor_shape table) va)
  where
    by : (right : Bool)
        → length (places_of (cond right (path_from (entry_words_through second reading) (supervisor_shape table) va access (levels (supervisor_shape table)) (ppn % 2 ^ 44)) [])) ≤ most_levels
    by true =
        let met = few_met (entry_words_through second reading) (supervisor_shape table) va access (levels (supervisor_shape table)) (ppn % 2 ^ 44) in
        omega (arith, met, few_levels (supervisor_shape table))
    by false = omega arith

few_final : (found : Found) → length (final found) ≤ 1
few_final (Passes address) = omega arith
few_final PageFaults = omega arith
few_final (MissesEntry place) = omega arith

few_for : (through : Mmu) (csrs : Csrs) (mode : Mode) (va : ℕ) (access : Access) → length (asked_for through csrs mode va access) ≤ most_levels + 1
few_for through csrs mode va access =
    let entries = few_read through.second through.reading va access (supervisor_of csrs mode).atp in
    let found = found_with (through.known va access) (first_stage through.second through.reading csrs mode va access) in
    let one = few_final found in
    let both = length-append (read_for through.second through.reading va access (supervisor_of csrs mode).atp) (final found) in omega arith

few_by_effect : (through : Mmu) (s : Virtual) (effect : Effect) → length (asked_by_effect through s effect) ≤ most_levels + 1
few_by_effect through s (Data wanted) = few_for through s.csrs s.mode wanted.address (kind_of wanted.purpose)
few_by_effect through s _ = omega arith

few_by_op : (through : Mmu) (s : Virtual) (o : Option Op) → length (asked_by_op through s o) ≤ most_levels + 1
few_by_op through s (Some o) = few_by_effect through s (meaning o s.regs)
few_by_op through s None = omega arith

few_at : (through : Mmu) (s : Virtual) (a : Located) → length (asked_at through s a) ≤ most_levels + 1
few_at through s (At place) = few_by_op through s (op_of (word_at through.reading place))
few_at through s (Fails failure) = omega arith

pub few_asked : (through : Mmu) (s : Virtual) → length (asked through s) ≤ needed
unfolding asked
few_asked through s =
    let fetch = few_for through s.csrs s.mode s.regs.pc Fetch in
    let data_too = few_at through s (fetch_place through s) in
    let both = length-append (asked_for through s.csrs s.mode s.regs.pc Fetch) (asked_at through s (fetch_place through s)) in omega arith

-- where it stops under the smaller: at one of what it asks the larger; and if that has no place there either, it stops there too
pub record Stops (known : Known) (small large : SecondStage) (reading : Reading) (s : Virtual) (missing : MissingPlace) : Type 0 where
  pub inside : In missing.address (asked (mmu known large reading) s)
  pub none : small missing.address missing.kind ≡ None
  pub also : large missing.address missing.kind ≡ None → core (mmu known large reading) s ≡ core (mmu known small reading) s

pub stops : (small large : SecondStage) → IsWithin small large → (known : Known) (reading : Reading) (s : Virtual) (missing : MissingPlace) (wanted : Option DataAccess)
    → core (mmu known small reading) s ≡ Missed missing wanted → Stops known small large reading s missing
stops small large w known reading s missing wanted e = by (core (mmu known small reading) s) e (core_alike small large w known reading s)
  where
    by : (o : Outcome) → o ≡ Missed missing wanted
        → OutcomeAlike small large (asked (mmu known large reading) s) o (core (mmu known large reading) s ≡ core (mmu known small reading) s)
        → Stops known small large reading s missing
    by o is alike = let at = rw is at alike in record { inside = at.0; none = at.1; also = at.2 }

-- and else it ends as under the larger
pub else_alike : (small large : SecondStage) → IsWithin small large → (known : Known) (reading : Reading) (s : Virtual)
    → ((missing : MissingPlace) (wanted : Option DataAccess) → core (mmu known small reading) s ≡ Missed missing wanted → large missing.address missing.kind ≡ None)
    → core (mmu known large reading) s ≡ core (mmu known small reading) s
else_alike small large w known reading s none = by (core (mmu known small reading) s) refl (core_alike small large w known reading s)
  where
    by : (o : Outcome) → core (mmu known small reading) s ≡ o
        → OutcomeAlike small large (asked (mmu known large reading) s) o (core (mmu known large reading) s ≡ core (mmu known small reading) s)
        → core (mmu known large reading) s ≡ core (mmu known small reading) s
    by (Missed missing wanted) is (inside, lacks, also) = also (none missing wanted is)
    by (Done state stored event) is same = same
    by (Trapped trap) is same = same
    by Called is same = same
    by (Waits state) is same = same
    by (Fenced state fence) is same = same
    by (FirstFenced state named fence) is same = same
    by (Accesses access) is same = same
