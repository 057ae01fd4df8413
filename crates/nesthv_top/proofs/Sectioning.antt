-- What is said of machines, one after the other.
use Rattle.std.proofs.Common.{◌≡◌, ℕ, zero, suc, ◌+◌, ◌<◌, List, [], ◌∷◌, ◌++◌, length, take, drop, get_or, false, refl, ap, subst, sym, ◌∙◌, arith, append_assoc, add-one}
use Rattle.std.proofs.lemmas.List.{append-nil, get_or-map}
use Rattle.machine_defs.specs.Machine.{Machine}
use Rattle.outside.specs.Pieces.{Appends, Puts}
use Rattle.outside.proofs.Pieces.{appends_then, puts_stopped, puts_then}
use Rattle.guest_turns.specs.Hosted.{machine_at}
use Rattle.run_config.specs.declared.guests.GuestSettings.{GuestSettings}
use Rattle.nesthv_top.specs.Runnings.{said_of}
use Rattle.nesthv_top.specs.Seen.{names_in}

-- what is said of the first i machines, of the next one, and of the others
abbrev pub said_to : (List ℕ → Machine → List ℕ) → List (List ℕ) → List Machine → ℕ → List ℕ
said_to say names machines i = said_of say (take i names) (take i machines)

none : (say : List ℕ → Machine → List ℕ) (machines : List Machine) → said_of say [] machines ≡ []
unfolding said_of
none say machines = refl

split : (say : List ℕ → Machine → List ℕ) (names : List (List ℕ)) (machines : List Machine) (i : ℕ) (d : List ℕ) → length machines ≡ length names → i < length names
    → said_of say names machines ≡ said_to say names machines i ++ (say (get_or names i d) (machine_at machines i)
    ++ said_of say (drop (suc i) names) (drop (suc i) machines))
unfolding said_of
split say [] machines i d same inside = absurd (omega (arith, inside))
split say (name ∷ names) [] i d same inside = absurd (omega (arith, same))
split say (name ∷ names) (m ∷ machines) zero d same inside = refl
split say (name ∷ names) (m ∷ machines) (suc i) d same inside =
    ap (λ text. say name m ++ text) (split say names machines i d (omega (arith, same)) (omega (arith, inside)))
    ∙ sym (append_assoc (say name m) (said_to say names machines i) _)

more : (say : List ℕ → Machine → List ℕ) (names : List (List ℕ)) (machines : List Machine) (i : ℕ) (d : List ℕ) → length machines ≡ length names → i < length names
    → said_to say names machines (suc i) ≡ said_to say names machines i ++ say (get_or names i d) (machine_at machines i)
unfolding said_of
more say [] machines i d same inside = absurd (omega (arith, inside))
more say (name ∷ names) [] i d same inside = absurd (omega (arith, same))
more say (name ∷ names) (m ∷ machines) zero d same inside = append-nil (say name m)
more say (name ∷ names) (m ∷ machines) (suc i) d same inside =
    ap (λ text. say name m ++ text) (more say names machines i d (omega (arith, same)) (omega (arith, inside)))
    ∙ sym (append_assoc (say name m) (said_to say names machines i) _)

said_more : (say : List ℕ → Machine → List ℕ) (names : List (List ℕ)) (machines : List Machine) (i : ℕ) (name : List ℕ) → length machines ≡ length names
    → i < length names → get_or names i [] ≡ name → said_to say names machines (i + 1) ≡ said_to say names machines i ++ say name (machine_at machines i)
said_more say names machines i name same inside is = rw (add-one i, ← is) (more say names machines i [] same inside)

said_split : (say : List ℕ → Machine → List ℕ) (names : List (List ℕ)) (machines : List Machine) (i : ℕ) (name : List ℕ) → length machines ≡ length names
    → i < length names → get_or names i [] ≡ name
    → (rest : List ℕ) × (said_of say names machines ≡ said_to say names machines i ++ say name (machine_at machines i) ++ rest)
said_split say names machines i name same inside is =
    let rest = said_of say (drop (suc i) names) (drop (suc i) machines) in (
      rest,
      rw (append_assoc (said_to say names machines i) (say name (machine_at machines i)) rest, ← is) (split say names machines i [] same inside),
    )

-- nothing is said of no machine
pub put_none : {S : Type 0} (stands_for : S → List ℕ → Type 0) (sink : S) (say : List ℕ → Machine → List ℕ) (names : List (List ℕ)) (machines : List Machine)
    → Appends stands_for sink sink (said_to say names machines 0)
put_none stands_for sink say names machines = λ before stood. rw (none say (take 0 machines), append-nil before) stood

-- what was not put whole of one machine leaves a front of what is said of all
pub stopped_at : {S : Type 0} (stands_for : S → List ℕ → Type 0) (old mid new : S) (say : List ℕ → Machine → List ℕ) (names : List (List ℕ)) (machines : List Machine)
    (i : ℕ) (name : List ℕ) → length machines ≡ length names → i < length names → get_or names i [] ≡ name → Appends stands_for old mid (said_to say names machines i)
    → Puts stands_for mid new false (say name (machine_at machines i)) → Puts stands_for old new false (said_of say names machines)
stopped_at stands_for old mid new say names machines i name same inside is before stopped =
    let split = said_split say names machines i name same inside is in
    let one = say name (machine_at machines i) in
    subst (Puts stands_for old new false) (sym split.1)
    (puts_stopped stands_for old new (said_to say names machines i ++ one) split.0 (puts_then stands_for old mid new false (said_to say names machines i) one before stopped))

pub put_further : {S : Type 0} (stands_for : S → List ℕ → Type 0) (old mid new : S) (say : List ℕ → Machine → List ℕ) (names : List (List ℕ)) (machines : List Machine)
    (i : ℕ) (name : List ℕ) → length machines ≡ length names → i < length names → get_or names i [] ≡ name → Appends stands_for old mid (said_to say names machines i)
    → Appends stands_for mid new (say name (machine_at machines i)) → Appends stands_for old new (said_to say names machines (i + 1))
put_further stands_for old mid new say names machines i name same inside is before put =
    subst (Appends stands_for old new) (sym (said_more say names machines i name same inside is))
    (appends_then stands_for old mid new (said_to say names machines i) (say name (machine_at machines i)) before put)

-- the names of guests with these settings
pub name_is : (guests : List GuestSettings) (i : ℕ) (g : GuestSettings) → i < length guests → get_or (names_in guests) i [] ≡ (get_or guests i g).name
name_is guests i g inside = get_or-map (λ guest. guest.name) guests i g [] inside

pub names_count : (guests : List GuestSettings) → length (names_in guests) ≡ length guests
names_count [] = refl
names_count (guest ∷ rest) = ap suc (names_count rest)
