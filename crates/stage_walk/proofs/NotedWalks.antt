-- What a walk notes, level by level.
use Rattle.std.proofs.Common.{◌≡◌, ℕ, zero, suc, ◌+◌, ◌/◌, ◌≤◌, true, false, sym, subst, ◌∷◌, arith}
use Rattle.arch_defs.specs.declared.modes.Access.{Access}
use Rattle.arch_defs.specs.declared.walks.Next.TheVariants.{Ends, Below}
use Rattle.arch_defs.specs.declared.walks.Shape.{Shape}
use Rattle.arch_defs.specs.declared.walks.WalkEnd.{WalkEnd}
use Rattle.arch_defs.specs.Frames.{Frames, Within}
use Rattle.arch_defs.specs.Walk.{EntryReading, is_canonical, later, levels, met_in, next_of, path, path_from, place_of}
use Rattle.stage_walk.specs.Reads.{Each, LiesIn}

-- where the entries from this table on lie in frames that have those noted so far, so do all of the walk
abbrev pub Goes : EntryReading → Shape → ℕ → Access → Frames → ℕ → ℕ → ℕ → Type 0
Goes reading shape va access noted root level table = (frames : Frames) → Within noted frames
    → Each (LiesIn frames) (path_from reading shape va access level table) → Each (LiesIn frames) (path reading root shape va access)

-- at the root
pub goes_start : (reading : EntryReading) (shape : Shape) (va : ℕ) (access : Access) (noted : Frames) (root : ℕ)
    → is_canonical shape va ≡ true → Goes reading shape va access noted root (levels shape) root
unfolding path
goes_start reading shape va access noted root right frames more from = rw right from

-- an address with wrong upper bits meets none
pub goes_none : (reading : EntryReading) (shape : Shape) (va : ℕ) (access : Access) (frames : Frames) (root : ℕ)
    → is_canonical shape va ≡ false → Each (LiesIn frames) (path reading root shape va access)
unfolding path
goes_none reading shape va access frames root wrong = rw wrong tt

-- an entry and those after it
step_below : (holds : ℕ → Type 0) (reading : EntryReading) (shape : Shape) (va : ℕ) (access : Access) (level table next : ℕ)
    → next_of access (met_in reading shape va level table) ≡ Below next → holds (place_of shape level table va)
    → Each holds (path_from reading shape va access level next) → Each holds (path_from reading shape va access (suc level) table)
unfolding path_from
step_below holds reading shape va access level table next says own from =
    subst (λ n. Each holds (met_in reading shape va level table ∷ later (path_from reading shape va access level) n)) (sym says) (own, from)

step_end : (holds : ℕ → Type 0) (reading : EntryReading) (shape : Shape) (va : ℕ) (access : Access) (level table : ℕ) (end : WalkEnd)
    → next_of access (met_in reading shape va level table) ≡ Ends end → holds (place_of shape level table va)
    → Each holds (path_from reading shape va access (suc level) table)
unfolding path_from
step_end holds reading shape va access level table end says own =
    subst (λ n. Each holds (met_in reading shape va level table ∷ later (path_from reading shape va access level) n)) (sym says) (own, tt)

-- one level down
pub goes_below : (reading : EntryReading) (shape : Shape) (va : ℕ) (access : Access) (noted more : Frames) (root level below table next : ℕ)
    → level ≡ below + 1 → next_of access (met_in reading shape va below table) ≡ Below next → Within noted more
    → more (place_of shape below table va / 4096) ≡ true
    → Goes reading shape va access noted root level table → Goes reading shape va access more root below next
unfolding path_from
goes_below reading shape va access noted more root zero below table next one says within here goes frames fewer from = absurd (omega arith)
goes_below reading shape va access noted more root (suc level) below table next one says within here goes frames fewer from =
    let same : below ≡ level = omega (arith, one) in
    goes frames (λ frame named. fewer frame (within frame named))
    (step_below (LiesIn frames) reading shape va access level table next
    (subst (λ n. next_of access (met_in reading shape va n table) ≡ Below next) same says)
    (subst (λ n. LiesIn frames (place_of shape n table va)) same (fewer (place_of shape below table va / 4096) here))
    (subst (λ n. Each (LiesIn frames) (path_from reading shape va access n next)) same from))

-- the walk's end
pub goes_end : (reading : EntryReading) (shape : Shape) (va : ℕ) (access : Access) (noted more : Frames) (root level below table : ℕ) (end : WalkEnd)
    → level ≡ below + 1 → next_of access (met_in reading shape va below table) ≡ Ends end → Within noted more
    → more (place_of shape below table va / 4096) ≡ true → Goes reading shape va access noted root level table
    → (frames : Frames) → Within more frames → Each (LiesIn frames) (path reading root shape va access)
unfolding path_from
goes_end reading shape va access noted more root zero below table end one says within here goes frames fewer = absurd (omega arith)
goes_end reading shape va access noted more root (suc level) below table end one says within here goes frames fewer =
    let same : below ≡ level = omega (arith, one) in
    goes frames (λ frame named. fewer frame (within frame named))
    (step_end (LiesIn frames) reading shape va access level table end
    (subst (λ n. next_of access (met_in reading shape va n table) ≡ Ends end) same says)
    (subst (λ n. LiesIn frames (place_of shape n table va)) same (fewer (place_of shape below table va / 4096) here)))

-- without a level left
pub goes_out : (reading : EntryReading) (shape : Shape) (va : ℕ) (access : Access) (noted : Frames) (root level table : ℕ)
    → level ≤ 0 → Goes reading shape va access noted root level table
    → (frames : Frames) → Within noted frames → Each (LiesIn frames) (path reading root shape va access)
unfolding path_from
goes_out reading shape va access noted root zero table none goes frames fewer = goes frames fewer tt
goes_out reading shape va access noted root (suc level) table none goes frames fewer = absurd (omega arith)
