-- Machines as a host has them, some of whose guests have retired.
use Rattle.std.proofs.Common.{◌≡◌, ◌∙◌, ℕ, zero, suc, ◌<◌, Bool, true, false, List, [], ◌∷◌, ◌++◌, length, set, Option, Some, None, refl, ap, arith}
use Rattle.std.specs.Prelude.{IfSome}
use Rattle.guest_turns.specs.Hosted.{is_set, machine_at}
use Rattle.guest_turns.specs.Moves.{emptied}
use Rattle.guest_turns.specs.TurnLists.{updated}
use Rattle.machine_defs.specs.Machine.{Machine}
use Rattle.machine_defs.specs.Report.{section_of}
use Rattle.nesthv_top.specs.Runnings.{hosted_as, hosted_one, said_of, sections_of}

-- where none has retired, they are the lone machines
pub none_retired : (retired : List Bool) (machines : List Machine) → ((g : ℕ) → is_set retired g ≡ false) → hosted_as retired machines ≡ machines
unfolding hosted_as
none_retired retired [] none = refl
none_retired [] (m ∷ machines) none = refl
none_retired (flag ∷ retired) (m ∷ machines) none =
    ap (λ flag. hosted_one flag m ∷ hosted_as retired machines) (none 0) ∙ ap (λ ms. m ∷ ms) (none_retired retired machines (λ g. none (suc g)))

pub as_many_hosted : (retired : List Bool) (machines : List Machine) → length (hosted_as retired machines) ≡ length machines
unfolding hosted_as
as_many_hosted retired [] = refl
as_many_hosted [] (m ∷ machines) = refl
as_many_hosted (flag ∷ retired) (m ∷ machines) = ap suc (as_many_hosted retired machines)

-- the machine of a guest that has not retired
pub active_one : (retired : List Bool) (machines : List Machine) (g : ℕ) → is_set retired g ≡ false → machine_at (hosted_as retired machines) g ≡ machine_at machines g
unfolding hosted_as
active_one retired [] g active = refl
active_one [] (m ∷ machines) g active = refl
active_one (flag ∷ retired) (m ∷ machines) zero active = ap (λ flag. hosted_one flag m) active
active_one (flag ∷ retired) (m ∷ machines) (suc g) active = active_one retired machines g active

pub active_turn : (change : Machine → Machine) (retired : List Bool) (machines : List Machine) (g : ℕ) → is_set retired g ≡ false
    → updated g change (hosted_as retired machines) ≡ hosted_as retired (updated g change machines)
unfolding hosted_as
active_turn change retired [] g active = refl
active_turn change [] (m ∷ machines) zero active = refl
active_turn change [] (m ∷ machines) (suc g) active = refl
active_turn change (true ∷ retired) (m ∷ machines) zero active = cc
active_turn change (false ∷ retired) (m ∷ machines) zero active = refl
active_turn change (flag ∷ retired) (m ∷ machines) (suc g) active = ap (λ ms. hosted_one flag m ∷ ms) (active_turn change retired machines g active)

-- one guest more retires
pub one_retires : (retired : List Bool) (machines : List Machine) (g : ℕ) → g < length retired → is_set retired g ≡ false
    → updated g emptied (hosted_as retired machines) ≡ hosted_as (set retired g true) machines
unfolding hosted_as
one_retires [] machines g inside active = absurd (omega (arith, inside))
one_retires (flag ∷ retired) [] zero inside active = refl
one_retires (flag ∷ retired) [] (suc g) inside active = refl
one_retires (true ∷ retired) (m ∷ machines) zero inside active = cc
one_retires (false ∷ retired) (m ∷ machines) zero inside active = refl
one_retires (flag ∷ retired) (m ∷ machines) (suc g) inside active = ap (λ ms. hosted_one flag m ∷ ms) (one_retires retired machines g (omega (arith, inside)) active)

-- what the report says of a machine is said of it without its RAM
section_one : (name : List ℕ) (flag : Bool) (m : Machine) → section_of name (hosted_one flag m) ≡ section_of name m
section_one name true m = refl
section_one name false m = refl

pub sections_same : (names : List (List ℕ)) (retired : List Bool) (machines : List Machine) → sections_of names (hosted_as retired machines) ≡ sections_of names machines
unfolding hosted_as said_of
sections_same [] retired machines = refl
sections_same (name ∷ names) retired [] = refl
sections_same (name ∷ names) [] (m ∷ machines) = refl
sections_same (name ∷ names) (flag ∷ retired) (m ∷ machines) =
    ap (λ text. text ++ sections_of names (hosted_as retired machines)) (section_one name flag m) ∙ ap (λ text. section_of name m ++ text) (sections_same names retired machines)

-- where none has retired, the one that is kept has not
pub all_active : (kept : Option ℕ) (retired : List Bool) → ((g : ℕ) → is_set retired g ≡ false) → IfSome kept (λ g. is_set retired g ≡ false)
all_active None retired active = tt
all_active (Some kept) retired active = active kept
