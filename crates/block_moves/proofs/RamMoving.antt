-- RAM with one of its blocks elsewhere.
use Rattle.std.proofs.Common.{◌≡◌, ◌≢◌, ℕ, zero, suc, ◌+◌, ◌*◌, ◌<◌, ◌≤◌, List, [], ◌∷◌, ◌++◌, length, slice_index, slice_set, take, drop, refl, sym, ap, ◌∙◌, arith}
use Rattle.std.proofs.lemmas.List.{append-nil}
use Rattle.arch_defs.specs.Memory.{block_size}
use Rattle.arch_defs.specs.Ram.{SlicesLieIn, slices}
use Rattle.arch_defs.proofs.RamBlocks.{ram_kept}
use Rattle.block_moves.specs.Laws.{BlockStays, RamMoves}

-- a slice of memory, and slices that are the same one by one
abbrev slice : ℕ → List ℕ → ℕ → List ℕ
slice size memory n = take size (drop (n * size) memory)

slices_same : (size : ℕ) (ns old new : List ℕ) → ((j : ℕ) → j < length ns → slice size new (slice_index ns j) ≡ slice size old (slice_index ns j)) → slices size ns new ≡ slices size ns old
unfolding slices
slices_same size [] old new same = refl
slices_same size (n ∷ ns) old new same =
    ap (λ bytes. bytes ++ slices size ns new) (same 0 (omega arith))
    ∙ ap (λ bytes. slice size old n ++ bytes) (slices_same size ns old new (λ j h. same (suc j) (omega (arith, h))))

slices_moved : (size : ℕ) (ns old new : List ℕ) (i to : ℕ) → i < length ns → slice size new to ≡ slice size old (slice_index ns i)
    → ((j : ℕ) → j < length ns → j ≢ i → slice size new (slice_index ns j) ≡ slice size old (slice_index ns j)) → slices size (slice_set ns i to) new ≡ slices size ns old
unfolding slices
slices_moved size [] old new i to inside here others = absurd (omega (arith, inside))
slices_moved size (n ∷ ns) old new zero to inside here others =
    ap (λ bytes. bytes ++ slices size ns new) here
    ∙ ap (λ bytes. slice size old n ++ bytes) (slices_same size ns old new (λ j h. others (suc j) (omega (arith, h)) (λ e. omega (arith, e))))
slices_moved size (n ∷ ns) old new (suc i) to inside here others =
    ap (λ bytes. bytes ++ slices size (slice_set ns i to) new) (others 0 (omega arith) (λ e. omega (arith, e)))
    ∙ ap (λ bytes. slice size old n ++ bytes)
    (slices_moved size ns old new i to (omega (arith, inside)) here (λ j h other. others (suc j) (omega (arith, h)) (λ e. other (omega (arith, e)))))

pub ram_moves : RamMoves
ram_moves blocks old new i to inside here others = slices_moved block_size blocks old new i to inside here others

one_slice : (size n : ℕ) (memory : List ℕ) → slices size (n ∷ []) memory ≡ slice size memory n
unfolding slices
one_slice size n memory = append-nil (slice size memory n)

one_lies : (size n most : ℕ) → n * size + size ≤ most → SlicesLieIn size (n ∷ []) most
one_lies size n most fits zero h = fits
one_lies size n most fits (suc i) h = absurd (omega (arith, h))

pub block_stays : BlockStays
block_stays block old new fits same =
    sym (one_slice block_size block new)
    ∙ ram_kept (block ∷ []) old new (one_lies block_size block (length old) fits) same
    ∙ one_slice block_size block old
