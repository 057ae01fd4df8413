-- The lines of a check, one after the other.
use Rattle.std.proofs.Common.{◌≡◌, ℕ, zero, suc, ◌+◌, ◌<◌, ◌≤◌, List, [], ◌∷◌, ◌++◌, length, take, drop, get_or, false, refl, ap, subst, sym, ◌∙◌, arith, append_assoc, add-one}
use Rattle.std.specs.List.{All}
use Rattle.std.proofs.lemmas.List.{append-nil, get_or-map, length-map}
use Rattle.guest_turns.specs.declared.sources.Source.{Source}
use Rattle.outside.specs.Pieces.{Appends, Puts}
use Rattle.outside.proofs.Pieces.{appends_then, puts_stopped, puts_then}
use Rattle.run_config.specs.declared.guests.GuestSettings.{GuestSettings}
use Rattle.run_config.specs.declared.guests.Origin.TheVariants.{Saved}
use Rattle.nesthv_top.specs.declared.ends.Job.{Job}
use Rattle.nesthv_top.specs.Plans.{name_of_source}
use Rattle.nesthv_top.specs.Seen.{IsJob}
use Rattle.nesthv_top.specs.Texts.{guest_check, guest_checks}

-- the lines of the first i guests, the next one, and the others
more : (guests : List Source) (i : ℕ) (d : Source) → i < length guests → guest_checks (take (suc i) guests) ≡ guest_checks (take i guests) ++ guest_check (get_or guests i d)
more [] i d inside = absurd (omega (arith, inside))
more (guest ∷ rest) zero d inside = append-nil (guest_check guest)
more (guest ∷ rest) (suc i) d inside =
    ap (λ text. guest_check guest ++ text) (more rest i d (omega (arith, inside))) ∙ sym (append_assoc (guest_check guest) (guest_checks (take i rest)) _)

split : (guests : List Source) (i : ℕ) (d : Source) → i < length guests
    → guest_checks guests ≡ guest_checks (take i guests) ++ (guest_check (get_or guests i d) ++ guest_checks (drop (suc i) guests))
split [] i d inside = absurd (omega (arith, inside))
split (guest ∷ rest) zero d inside = refl
split (guest ∷ rest) (suc i) d inside =
    ap (λ text. guest_check guest ++ text) (split rest i d (omega (arith, inside))) ∙ sym (append_assoc (guest_check guest) (guest_checks (take i rest)) _)

pub put_none : {S : Type 0} (stands_for : S → List ℕ → Type 0) (sink : S) → Appends stands_for sink sink []
put_none stands_for sink = λ before stood. rw (append-nil before) stood

pub put_further : {S : Type 0} (stands_for : S → List ℕ → Type 0) (old mid new : S) (guests : List Source) (i : ℕ) (guest : Source)
    → i < length guests → guest ≡ get_or guests i guest → Appends stands_for old mid (guest_checks (take i guests)) → Appends stands_for mid new (guest_check guest)
    → Appends stands_for old new (guest_checks (take (i + 1) guests))
put_further stands_for old mid new guests i guest inside is before put =
    let one = subst (λ g. Appends stands_for mid new (guest_check g)) is put in
    rw (add-one i, more guests i guest inside) (appends_then stands_for old mid new (guest_checks (take i guests)) (guest_check (get_or guests i guest)) before one)

-- a line that was not put whole leaves a front of all
pub stopped_at : {S : Type 0} (stands_for : S → List ℕ → Type 0) (old mid new : S) (guests : List Source) (i : ℕ) (guest : Source)
    → i < length guests → guest ≡ get_or guests i guest → Appends stands_for old mid (guest_checks (take i guests)) → Puts stands_for mid new false (guest_check guest)
    → Puts stands_for old new false (guest_checks guests)
stopped_at stands_for old mid new guests i guest inside is before put =
    let one = subst (λ g. Puts stands_for mid new false (guest_check g)) is put in
    let here = guest_check (get_or guests i guest) in
    subst (Puts stands_for old new false) (sym (split guests i guest inside))
    (puts_then stands_for old mid new false (guest_checks (take i guests)) (here ++ guest_checks (drop (suc i) guests)) before
    (puts_stopped stands_for mid new here (guest_checks (drop (suc i) guests)) one))

-- the names of a job's guests are short, and the guests few
pub few_guests : (job : Job) → IsJob job → length job.sources.items ≤ 16
few_guests job is =
    let as_many : length job.sources.items ≡ length job.config.guests =
    sym (length-map job.sources.items name_of_source) ∙ ap length is.names ∙ length-map job.config.guests (λ guest. guest.name) in
    omega (arith, as_many, is.limits.guests_most)

pub short_names : (job : Job) → IsJob job → All (λ guest. length (name_of_source guest) ≤ 32) job.sources.items
short_names job is i d inside =
    let as_many : length job.sources.items ≡ length job.config.guests =
    sym (length-map job.sources.items name_of_source) ∙ ap length is.names ∙ length-map job.config.guests (λ guest. guest.name) in
    let there : i < length job.config.guests = omega (arith, inside, as_many) in
    let s = no_settings in
    let name : name_of_source (get_or job.sources.items i d) ≡ (get_or job.config.guests i s).name =
    sym (get_or-map name_of_source job.sources.items i d [] inside) ∙ ap (λ names. get_or names i []) is.names
    ∙ get_or-map (λ guest. guest.name) job.config.guests i s [] there in
    rw name (is.limits.each_guest i s there).name_most
  where
    no_settings : GuestSettings
    no_settings = record { name = []; weight = 0; origin = Saved [] }

pub ruleset jobs = (few_guests, short_names)
