use Rattle.std.specs.Prelude.{ℕ, ◌≤◌, List, ◌++◌, length, take, Bool, true, false}

-- each list that the old sink stood for, followed by these items, is one that the new sink stands for
abbrev pub Appends : {S A : Type 0} → (S → List A → Type 0) → S → S → List A → Type 0
Appends {A = A} stands_for old new items =
    (before : List A) → stands_for old before → stands_for new (before ++ items)

-- the whole piece was appended, or otherwise a front of it
abbrev pub Puts : {S : Type 0} → (S → List ℕ → Type 0) → S → S → Bool → List ℕ → Type 0
Puts stands_for old new true piece = Appends stands_for old new piece
Puts stands_for old new false piece = (n : ℕ) × (n ≤ length piece) × Appends stands_for old new (take n piece)
