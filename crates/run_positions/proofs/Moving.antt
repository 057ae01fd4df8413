-- A run is held at its start, at its next positions, and where it is brought back to.
use Rattle.std.proofs.Common.{arith, ◌≡◌, ◌∙◌, ◌⊎◌, inl, inr, ℕ, ◌+◌, ◌^◌, ◌<◌, ◌≤◌, List, [], ◌∷◌, ◌++◌, length, ap, sym, refl, subst}
use Rattle.std.specs.Global.{Vec}
use Rattle.std.specs.List.{All, slice_index_or}
use Rattle.std.proofs.Math.Seq.{get_or-append_seam}
use Rattle.std.proofs.lemmas.List.{get_or_append_left, length-append}
use Rattle.std.proofs.lemmas.List.Elements.{All-append, All-cons}
use Rattle.form_pool.specs.Forms.{Forms, no_forms}
use Rattle.machine_defs.specs.Machine.{Machine}
use Rattle.machine_defs.specs.Runs.{run}
use Rattle.fill_laws.proofs.Running.{runs_compose}
use Rattle.run_positions.specs.declared.kept.Kept.{Kept}
use Rattle.run_positions.specs.declared.runners.Runner as runners
use Rattle.run_positions.specs.declared.positions.Positions.{Positions}
use Rattle.run_positions.specs.Positions.{begin_of, form_at, HasKept, IsShown, IsKeptState, KeepsRun}

no_step : (m : Machine) → run m 0 ≡ m
unfolding run
no_step m = refl

none_kept : {Y : Type 0} (R : runners.Ghosts Y) (origin : Machine) (forms : List (List ℕ)) → All (IsKeptState R origin forms) []
none_kept R origin forms k d few = absurd (omega (arith, few))

-- a form that is kept stays where more are
form_still : (kept : List (List ℕ)) (form : List ℕ) (n : ℕ) → n < length kept → form_at (kept ++ form ∷ []) n ≡ form_at kept n
form_still kept form n inside = get_or_append_left kept (form ∷ []) [] n inside

one_more : (kept : List (List ℕ)) (form : List ℕ) (n : ℕ) → n < length kept → n < length (kept ++ form ∷ [])
one_more kept form n inside = rw (length-append kept (form ∷ [])) (omega (arith, inside))

same_state : (states : List Kept) (state : Kept) (place form : ℕ) → state.place ≡ place → state.form ≡ form
    → states ++ state ∷ [] ≡ states ++ record { place = place; form = form } ∷ []
same_state states state place form is_place is_form = rw (sym is_place, sym is_form) refl

module _ {Y : Type 0} (R : runners.Ghosts Y) where
  pub kept_form : (m : Machine) (old mid new : Forms) → R.is_form mid.partial → R.machine_in mid.partial ≡ m → mid.kept ≡ old.kept
      → new.kept ≡ mid.kept ++ mid.partial ∷ [] → HasKept R m old new
  kept_form m old mid new is_form is same more = record {
    form = mid.partial;
    more = more ∙ ap (λ (kept : List (List ℕ)). kept ++ mid.partial ∷ []) same;
    is_form = is_form;
    machine = is;
  }

  pub begun : (runner : Y) (forms : Forms) (kept : Vec Kept) (bytes : Vec ℕ) (next gap : ℕ) → HasKept R (R.machine runner) no_forms forms
      → (R.machine runner).platform.steps ≤ 2 ^ 60 → kept.items ≡ []
      → IsShown R (record { runner = runner; place = 0; forms = forms; kept = kept; bytes = bytes; next = next; gap = gap })
  begun runner forms kept bytes next gap has early none =
      let first : form_at forms.kept 0 ≡ has.form = ap (λ (kept : List (List ℕ)). form_at kept 0) has.more in
      let is : R.machine_in (form_at forms.kept 0) ≡ R.machine runner = ap (λ (form : List ℕ). R.machine_in form) first ∙ has.machine in
      record {
        some = subst (λ (kept : List (List ℕ)). 0 < length kept) (sym has.more) (omega arith);
        form = subst (λ (form : List ℕ). R.is_form form) (sym first) has.is_form;
        begin = subst (λ (m : Machine). m.platform.steps ≤ 2 ^ 60) (sym is) early;
        machine = sym is ∙ sym (no_step (R.machine_in (form_at forms.kept 0)));
        few = omega arith;
        early = omega (arith, early);
        kept = subst (λ (states : List Kept). All (IsKeptState R (R.machine_in (form_at forms.kept 0)) forms.kept) states) (sym none)
            (none_kept R (R.machine_in (form_at forms.kept 0)) forms.kept);
      }

  pub moved : (p : Positions Y) (runner : Y) (k : ℕ) → IsShown R p → p.place + k ≤ 2 ^ 52
      → R.machine runner ≡ run (R.machine p.runner) k → (R.machine runner).platform.steps ≤ (R.machine p.runner).platform.steps + k
      → KeepsRun R p (record p { runner = runner; place = p.place + k })
  moved p runner k held few is most = record {
    origin = refl;
    held = record {
      some = held.some;
      form = held.form;
      begin = held.begin;
      machine = is ∙ ap (λ (m : Machine). run m k) held.machine ∙ runs_compose (begin_of R p) p.place k;
      few = few;
      early = omega (arith, most, held.early);
      kept = held.kept;
    };
  }

  -- the start is kept
  pub begin_is_kept : (p : Positions Y) → IsShown R p → IsKeptState R (begin_of R p) p.forms.kept (record { place = 0; form = 0 })
  begin_is_kept p held = record {
    inside = held.some;
    is_form = held.form;
    machine = sym (no_step (begin_of R p));
    early = subst (λ (m : Machine). m.platform.steps ≤ 2 ^ 60) (sym (no_step (begin_of R p))) held.begin;
    few = omega arith;
  }

  -- a state that is kept stays so where one more form is
  still_kept : (origin : Machine) (kept : List (List ℕ)) (form : List ℕ) (state : Kept) → IsKeptState R origin kept state
      → IsKeptState R origin (kept ++ form ∷ []) state
  still_kept origin kept form state is =
      let same : form_at (kept ++ form ∷ []) state.form ≡ form_at kept state.form = form_still kept form state.form is.inside in
      record {
        inside = one_more kept form state.form is.inside;
        is_form = subst (λ (form : List ℕ). R.is_form form) (sym same) is.is_form;
        machine = ap (λ (form : List ℕ). R.machine_in form) same ∙ is.machine;
        early = is.early;
        few = is.few;
      }

  -- one more form is kept, and the states stay
  form_added : (p : Positions Y) (forms : Forms) (form : List ℕ) (next gap : ℕ) → IsShown R p → forms.kept ≡ p.forms.kept ++ form ∷ []
      → KeepsRun R p (record p { forms = forms; next = next; gap = gap })
  form_added p forms form next gap held more =
      let first : form_at forms.kept 0 ≡ form_at p.forms.kept 0 =
      ap (λ (kept : List (List ℕ)). form_at kept 0) more ∙ form_still p.forms.kept form 0 held.some in
      let begin : R.machine_in (form_at forms.kept 0) ≡ begin_of R p = ap (λ (form : List ℕ). R.machine_in form) first in
      record {
        origin = begin;
        held = record {
          some = subst (λ (kept : List (List ℕ)). 0 < length kept) (sym more) (one_more p.forms.kept form 0 held.some);
          form = subst (λ (form : List ℕ). R.is_form form) (sym first) held.form;
          begin = subst (λ (m : Machine). m.platform.steps ≤ 2 ^ 60) (sym begin) held.begin;
          machine = held.machine ∙ ap (λ (m : Machine). run m p.place) (sym begin);
          few = held.few;
          early = held.early;
          kept = subst (λ (origin : Machine). All (IsKeptState R origin forms.kept) p.kept.items) (sym begin)
              (subst (λ (kept : List (List ℕ)). All (IsKeptState R (begin_of R p) kept) p.kept.items) (sym more)
              (λ k d within. still_kept (begin_of R p) p.forms.kept form (slice_index_or p.kept.items k d) (held.kept k d within)));
        };
      }

  form_kept : (p : Positions Y) (forms : Forms) (kept : Vec Kept) (next gap : ℕ) → IsShown R p
      → HasKept R (R.machine p.runner) p.forms forms → kept.items ≡ p.kept.items
      → KeepsRun R p (record p { forms = forms; kept = kept; next = next; gap = gap })
  form_kept p forms kept next gap held has same =
      let keeps = form_added p forms has.form next gap held has.more in
      record {
        origin = keeps.origin;
        held = record {
          some = keeps.held.some;
          form = keeps.held.form;
          begin = keeps.held.begin;
          machine = keeps.held.machine;
          few = held.few;
          early = held.early;
          kept = subst (λ (states : List Kept). All (IsKeptState R (R.machine_in (form_at forms.kept 0)) forms.kept) states) (sym same) keeps.held.kept;
        };
      }

  -- one more state is kept, and whenever the next is to be
  kept_more : (p : Positions Y) (forms : Forms) (kept : Vec Kept) (next gap : ℕ) → IsShown R p
      → HasKept R (R.machine p.runner) p.forms forms → (R.machine p.runner).platform.steps ≤ 2 ^ 60
      → kept.items ≡ p.kept.items ++ record { place = p.place; form = length p.forms.kept } ∷ []
      → KeepsRun R p (record p { forms = forms; kept = kept; next = next; gap = gap })
  kept_more p forms kept next gap held has early more =
      let keeps = form_added p forms has.form next gap held has.more in
      let origin = R.machine_in (form_at forms.kept 0) in
      let last : form_at forms.kept (length p.forms.kept) ≡ has.form =
      ap (λ (kept : List (List ℕ)). form_at kept (length p.forms.kept)) has.more ∙ get_or-append_seam p.forms.kept has.form [] [] in
      let shown : R.machine p.runner ≡ run origin p.place = keeps.held.machine in
      let one : IsKeptState R origin forms.kept (record { place = p.place; form = length p.forms.kept }) = record {
        inside = subst (λ (kept : List (List ℕ)). length p.forms.kept < length kept) (sym has.more)
            (rw (length-append p.forms.kept (has.form ∷ [])) (omega arith));
        is_form = subst (λ (form : List ℕ). R.is_form form) (sym last) has.is_form;
        machine = ap (λ (form : List ℕ). R.machine_in form) last ∙ has.machine ∙ shown;
        early = subst (λ (m : Machine). m.platform.steps ≤ 2 ^ 60) shown early;
        few = held.few;
      } in
      record {
        origin = keeps.origin;
        held = record {
          some = keeps.held.some;
          form = keeps.held.form;
          begin = keeps.held.begin;
          machine = keeps.held.machine;
          few = held.few;
          early = held.early;
          kept = subst (λ (states : List Kept). All (IsKeptState R origin forms.kept) states) (sym more)
              (All-append (IsKeptState R origin forms.kept) p.kept.items (record { place = p.place; form = length p.forms.kept } ∷ []) keeps.held.kept
              (All-cons (IsKeptState R origin forms.kept) (record { place = p.place; form = length p.forms.kept }) [] one
              (none_kept R origin forms.kept)));
        };
      }

  -- one more form is kept, and its state where there was memory for it
  pub state_kept : (p : Positions Y) (forms : Forms) (kept : Vec Kept) (state : Kept) (next gap : ℕ) → IsShown R p
      → HasKept R (R.machine p.runner) p.forms forms → (R.machine p.runner).platform.steps ≤ 2 ^ 60
      → state.place ≡ p.place → state.form ≡ length p.forms.kept
      → (kept.items ≡ p.kept.items) ⊎ (kept.items ≡ p.kept.items ++ state ∷ [])
      → KeepsRun R p (record p { forms = forms; kept = kept; next = next; gap = gap })
  state_kept p forms kept state next gap held has early place form (inl same) = form_kept p forms kept next gap held has same
  state_kept p forms kept state next gap held has early place form (inr more) =
      kept_more p forms kept next gap held has early (more ∙ same_state p.kept.items state p.place (length p.forms.kept) place form)

  -- no form is kept, whatever was written
  pub none_added : (p : Positions Y) (forms : Forms) (next gap : ℕ) → IsShown R p → forms.kept ≡ p.forms.kept
      → KeepsRun R p (record p { forms = forms; next = next; gap = gap })
  none_added p forms next gap held same = record {
    origin = ap (λ (kept : List (List ℕ)). R.machine_in (form_at kept 0)) same;
    held = record {
      some = subst (λ (kept : List (List ℕ)). 0 < length kept) (sym same) held.some;
      form = subst (λ (kept : List (List ℕ)). R.is_form (form_at kept 0)) (sym same) held.form;
      begin = subst (λ (kept : List (List ℕ)). (R.machine_in (form_at kept 0)).platform.steps ≤ 2 ^ 60) (sym same) held.begin;
      machine = held.machine ∙ ap (λ (kept : List (List ℕ)). run (R.machine_in (form_at kept 0)) p.place) (sym same);
      few = held.few;
      early = held.early;
      kept = subst (λ (kept : List (List ℕ)). All (IsKeptState R (R.machine_in (form_at kept 0)) kept) p.kept.items) (sym same) held.kept;
    };
  }

  pub none_kept_yet : (p : Positions Y) (next gap : ℕ) → IsShown R p → KeepsRun R p (record p { next = next; gap = gap })
  none_kept_yet p next gap held = none_added p p.forms next gap held refl

  -- brought back to a state that is kept
  pub brought : (p : Positions Y) (runner : Y) (bytes : Vec ℕ) (state : Kept) → IsShown R p → IsKeptState R (begin_of R p) p.forms.kept state
      → R.machine runner ≡ R.machine_in (form_at p.forms.kept state.form)
      → KeepsRun R p (record p { runner = runner; place = state.place; bytes = bytes })
  brought p runner bytes state held is_kept is = record {
    origin = refl;
    held = record {
      some = held.some;
      form = held.form;
      begin = held.begin;
      machine = is ∙ is_kept.machine;
      few = is_kept.few;
      early = subst (λ (m : Machine). m.platform.steps ≤ 2 ^ 60 + state.place) (sym (is ∙ is_kept.machine)) (omega (arith, is_kept.early));
      kept = held.kept;
    };
  }

  -- where nothing could be brought back, all is as it was, whatever was written for it
  pub left : (p : Positions Y) (runner : Y) (bytes : Vec ℕ) → IsShown R p → R.machine runner ≡ R.machine p.runner
      → KeepsRun R p (record p { runner = runner; bytes = bytes })
  left p runner bytes held is = record {
    origin = refl;
    held = record {
      some = held.some;
      form = held.form;
      begin = held.begin;
      machine = is ∙ held.machine;
      few = held.few;
      early = subst (λ (m : Machine). m.platform.steps ≤ 2 ^ 60 + p.place) (sym is) held.early;
      kept = held.kept;
    };
  }

  pub left_unread : (p : Positions Y) (bytes : Vec ℕ) → IsShown R p → KeepsRun R p (record p { bytes = bytes })
  left_unread p bytes held = left p p.runner bytes held refl

  pub left_alone : (p : Positions Y) (runner : Y) → IsShown R p → R.machine runner ≡ R.machine p.runner
      → KeepsRun R p (record p { runner = runner })
  left_alone p runner held is = left p runner p.bytes held is

module _ {Y : Type 0} (R : runners.Ghosts Y) where
  -- a run that is kept twice is kept, and one that is held is
  pub keeps_none : (p : Positions Y) → IsShown R p → KeepsRun R p p
  keeps_none p held = record { origin = refl; held = held }

  pub keeps_then : (p q r : Positions Y) → KeepsRun R p q → KeepsRun R q r → KeepsRun R p r
  keeps_then p q r first next = record { origin = next.origin ∙ first.origin; held = next.held }

pub ruleset keepings = (keeps_none, keeps_then)

pub ruleset forms_kept = (kept_form)

pub ruleset no_state_kept = (none_added, none_kept_yet)

pub ruleset bringings = (brought, left, left_unread)
