-- Positions of a run, and what is kept of it.
use Rattle.std.specs.Prelude.{ℕ, ◌≡◌, ◌+◌, ◌^◌, ◌<◌, ◌≤◌, List, [], ◌∷◌, ◌++◌, length}
use Rattle.std.specs.List.{All, slice_index_or}
use Rattle.form_pool.specs.Forms.{Forms}
use Rattle.machine_defs.specs.Machine.{Machine}
use Rattle.machine_defs.specs.Runs.{run}
use Rattle.run_positions.specs.declared.runners.Runner as runners
use Rattle.run_positions.specs.declared.kept.Kept.{Kept}
use Rattle.run_positions.specs.declared.positions.Positions.{Positions}

-- a form that is kept, by its number
abbrev pub form_at : List (List ℕ) → ℕ → List ℕ
form_at kept number = slice_index_or kept number []

-- the machine that the run begins with, whose form is kept first
abbrev pub begin_of : {Y : Type 0} → runners.Ghosts Y → Positions Y → Machine
begin_of R p = R.machine_in (form_at p.forms.kept 0)

-- the machine that is shown
abbrev pub shown_of : {Y : Type 0} → runners.Ghosts Y → Positions Y → Machine
shown_of R p = R.machine p.runner

-- one more form is kept, which brings the machine back
pub record HasKept {Y : Type 0} (R : runners.Ghosts Y) (m : Machine) (old new : Forms) : Type 0 where
  pub form : List ℕ
  pub more : new.kept ≡ old.kept ++ form ∷ []
  pub is_form : R.is_form form
  pub machine : R.machine_in form ≡ m

-- a state that is kept is that of the run at its place, and its form is among those that are kept
pub record IsKeptState {Y : Type 0} (R : runners.Ghosts Y) (origin : Machine) (kept : List (List ℕ))
    (state : Kept) : Type 0 where
  pub inside : state.form < length kept
  pub is_form : R.is_form (form_at kept state.form)
  pub machine : R.machine_in (form_at kept state.form) ≡ run origin state.place
  pub early : (run origin state.place).platform.steps ≤ 2 ^ 60
  pub few : state.place ≤ 2 ^ 52

-- the machine that is shown is that of the run after as many steps as the position says, and so is each that
-- is kept
pub record IsShown {Y : Type 0} (R : runners.Ghosts Y) (p : Positions Y) : Type 0 where
  pub some : 0 < length p.forms.kept
  pub form : R.is_form (form_at p.forms.kept 0)
  pub begin : (begin_of R p).platform.steps ≤ 2 ^ 60
  pub machine : shown_of R p ≡ run (begin_of R p) p.place
  pub few : p.place ≤ 2 ^ 52
  pub early : (shown_of R p).platform.steps ≤ 2 ^ 60 + p.place
  pub kept : All (IsKeptState R (begin_of R p) p.forms.kept) p.kept.items

-- the run stays the same, whatever its position is
pub record KeepsRun {Y : Type 0} (R : runners.Ghosts Y) (old new : Positions Y) : Type 0 where
  pub origin : begin_of R new ≡ begin_of R old
  pub held : IsShown R new
