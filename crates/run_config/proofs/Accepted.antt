-- What is accepted is within its limits: the turns, the guests, and the whole configuration.
use Rattle.std.proofs.Common.{◌≡◌, ℕ, ◌*◌, ◌-◌, ◌^◌, ◌≤◌, nat_le, Bool, true, false, ◌&&◌, List, [], length, map, Option, Some, None, Ok, is_some, is_none, unwrap_or, option_map, if◌then◌else◌, refl, ap, ◌∙◌, sym, subst, arith}
use Rattle.std.proofs.lemmas.Bool.{and_parts}
use Rattle.std.proofs.lemmas.Bool.Decides.{nat_tests}
use Rattle.std.proofs.lemmas.List.{length-map}
use Rattle.std.proofs.lemmas.List.Elements.{All-get_or, All-weaker}
use Rattle.std.proofs.lemmas.Option.{option_and_then_some, same_Some}
use Rattle.std.specs.List.{All}
use Rattle.toml.specs.Data.{Members, as_array, as_integer}
use Rattle.turn_plan.proofs.Facts.{each_weighted_turn, length-weighted_rounds}
use Rattle.run_config.specs.declared.formats.Format.{Format}
use Rattle.run_config.specs.declared.formats.Format.TheVariants.{One, Two}
use Rattle.run_config.specs.declared.keys.ConfigKey.TheVariants as key
use Rattle.run_config.specs.declared.faults.ConfigFault.{ConfigFault}
use Rattle.run_config.specs.declared.guests.GuestSettings.{GuestSettings}
use Rattle.run_config.specs.declared.schedules.Schedule.{Schedule}
use Rattle.run_config.specs.declared.schedules.Schedule.TheVariants.{Listed, Rounds}
use Rattle.run_config.specs.Accept.{accept, body_fault, configuration_fault, configuration_of, document_fault, document_of, format_in, guests_at, guests_in, head_fault, schedule_in, settings_in, spare_at, tree_of, unless_fault, weights_of}
use Rattle.run_config.specs.Configurations.{Configuration, IsGuestWithin, IsTurnWithin, IsWithinLimits}
use Rattle.run_config.specs.Guests.{guests_fault, settings_of}
use Rattle.run_config.specs.declared.rows.Kind.TheVariants.{IntegerOf}
use Rattle.run_config.specs.Tables.{document_keys, document_options, row}
use Rattle.run_config.specs.Tests.{unless, out_of_range, wrong_among}
use Rattle.run_config.specs.Turns.{listed_turns, quantum_and_rounds, schedule_at, schedule_fault, turns_of}
use Rattle.run_config.specs.Values.{has_only, natural, number_within, pairs_within, passes_if, tables_of, value_at}
use Rattle.run_config.proofs.Within.{IsAtMost, first_none, guests_within, holds-some, is_some_value, optional_row, pairs_at_most, unless_none}
use Rattle.run_config.proofs.Weighing.{all_light}

record AreTurns (guests : ℕ) (turns : List (ℕ × ℕ)) : Type 0 where
  few : length turns ≤ 2 ^ 20
  each : All (IsTurnWithin guests) turns

-- a schedule of that many guests: few turns that are within their limits, or few rounds
abbrev IsScheduleOf : ℕ → Schedule → Type 0
IsScheduleOf guests (Listed turns) = AreTurns guests turns
IsScheduleOf guests (Rounds quantum rounds) = guests * rounds ≤ 2 ^ 20

listed_within : (n : ℕ) (t : Members) (schedule : Schedule) → 1 ≤ n → listed_turns n t ≡ Some schedule → IsScheduleOf n schedule
unfolding listed_turns
listed_within n t schedule some e =
    option_and_then_some _ (passes_if (is_none (value_at key.Quantum t) && is_none (value_at key.Rounds t))) schedule e (λ _ _ e.
    option_and_then_some _ (value_at key.Turns t) schedule e (λ value _ e.
    option_and_then_some _ (as_array value) schedule e (λ items _ e.
    option_and_then_some _ (pairs_within (n - 1) (2 ^ 32) items) schedule e (λ pairs is_pairs e.
    option_and_then_some _ (passes_if (nat_le (length pairs) (2 ^ 20))) schedule e (λ u held e.
    let test = holds-some _ u held in
    let few : length pairs ≤ 2 ^ 20 = grind (arith, nat_tests, test) in
    let weaker : (p : ℕ × ℕ) → IsAtMost (n - 1) (2 ^ 32) p → IsTurnWithin n p = λ p most. record { guest = omega (arith, some, most.0); steps = most.1 } in
    subst (IsScheduleOf n) (same_Some (Listed pairs) schedule e) (record { few = few; each = All-weaker (IsAtMost (n - 1) (2 ^ 32)) (IsTurnWithin n) weaker pairs (pairs_at_most _ _ items pairs is_pairs) }))))))

rounds_within : (n : ℕ) (t : Members) (schedule : Schedule) → quantum_and_rounds n t ≡ Some schedule → IsScheduleOf n schedule
unfolding quantum_and_rounds
rounds_within n t schedule e =
    option_and_then_some _ (value_at key.Quantum t) schedule e (λ value _ e.
    option_and_then_some _ (number_within 0 (2 ^ 32) value) schedule e (λ quantum _ e.
    option_and_then_some _ (value_at key.Rounds t) schedule e (λ rounds_value _ e.
    option_and_then_some _ (as_integer rounds_value) schedule e (λ integer _ e.
    option_and_then_some _ (natural integer) schedule e (λ rounds _ e.
    option_and_then_some _ (passes_if (nat_le (n * rounds) (2 ^ 20))) schedule e (λ u held e.
    let test = holds-some _ u held in
    let few : n * rounds ≤ 2 ^ 20 = grind (arith, nat_tests, test) in
    subst (IsScheduleOf n) (same_Some (Rounds quantum rounds) schedule e) few))))))

schedule_within : (n : ℕ) (t : Members) (schedule : Schedule) → 1 ≤ n → schedule_at n t ≡ Some schedule → IsScheduleOf n schedule
unfolding schedule_at
schedule_within n t schedule some e = by_form (is_some (value_at key.Turns t)) e
  where
    by_form : (b : Bool) → (if b then listed_turns n t else quantum_and_rounds n t) ≡ Some schedule → IsScheduleOf n schedule
    by_form true e = listed_within n t schedule some e
    by_form false e = rounds_within n t schedule e

turns_within : (weights : List ℕ) (schedule : Schedule) → IsScheduleOf (length weights) schedule → schedule_fault weights schedule ≡ None → AreTurns (length weights) (turns_of weights schedule)
turns_within weights (Listed turns) are none = are
turns_within weights (Rounds quantum rounds) few none = record {
  few = rw (length-weighted_rounds weights quantum rounds) few;
  each = each_weighted_turn (IsTurnWithin (length weights)) weights quantum rounds (λ g below. record { guest = below; steps = All-get_or (λ weight. weight * quantum ≤ 2 ^ 32) weights g 0 below (all_light weights quantum none) });
}

guests_few : (t : Members) (gs : List Members) → guests_at t ≡ Some gs → (1 ≤ length gs) × (length gs ≤ 16)
unfolding guests_at
guests_few t gs e =
    option_and_then_some _ (value_at key.Guest t) gs e (λ value _ e.
    option_and_then_some _ (as_array value) gs e (λ items _ e.
    option_and_then_some _ (tables_of items) gs e (λ guests _ e.
    option_and_then_some _ (passes_if (nat_le 1 (length guests) && nat_le (length guests) 16)) gs e (λ u held e.
    let parts = and_parts (nat_le 1 (length guests)) (nat_le (length guests) 16) (holds-some _ u held) in
    let least : 1 ≤ length guests = grind (arith, nat_tests, parts.0) in
    let most : length guests ≤ 16 = grind (arith, nat_tests, parts.1) in
    subst (λ ts. (1 ≤ length ts) × (length ts ≤ 16)) (same_Some guests gs e) (least, most)))))

guests_in_few : (t : Members) → is_some (guests_at t) ≡ true → (1 ≤ length (guests_in t)) × (length (guests_in t) ≤ 16)
unfolding guests_in
guests_in_few t there =
    let (gs, is) = is_some_value (guests_at t) there in
    rw is (guests_few t gs is)

spare_within : (format : Format) (t : Members) → wrong_among None t (document_options format) ≡ None → spare_at format t ≤ 32
unfolding spare_at
spare_within One t e = omega arith
spare_within Two t e =
    let (fits, _) = first_none (out_of_range None t (row key.Spare (IntegerOf 0 32))) _ e in
    (optional_row 0 0 32 None t key.Spare (omega arith) (omega arith) fits).1

-- guests without a fault, a schedule of that many guests, and spare blocks
settled : (format : Format) (t : Members) (gs : List Members) (schedule : Schedule) → (1 ≤ length gs) × (length gs ≤ 16) → wrong_among None t (document_options format) ≡ None → guests_fault format [] gs ≡ None → schedule_at (length gs) t ≡ Some schedule → schedule_fault (weights_of (map (settings_of format) gs)) schedule ≡ None
    → IsWithinLimits (record { guests = map (settings_of format) gs; turns = turns_of (weights_of (map (settings_of format) gs)) schedule; spare = spare_at format t })
settled format t gs schedule few fits guests is none =
    let count = length-map gs (settings_of format) in
    let weights = weights_of (map (settings_of format) gs) in
    let many : length weights ≡ length gs = length-map (map (settings_of format) gs) (λ g. g.weight) ∙ count in
    let are : IsScheduleOf (length gs) schedule = schedule_within (length gs) t schedule few.0 is in
    let turns : AreTurns (length gs) (turns_of weights schedule) = subst (λ n. AreTurns n (turns_of weights schedule)) many (turns_within weights schedule (subst (λ n. IsScheduleOf n schedule) (sym many) are) none) in
    record {
      guests_some = rw count few.0;
      guests_most = rw count few.1;
      each_guest = guests_within format [] gs guests;
      turns_most = turns.few;
      each_turn = rw count turns.each;
      spare_most = spare_within format t fits;
    }

-- the same of what is kept
pub kept_within : (format : Format) (t : Members) (gs : List Members) (guests : List GuestSettings) (schedule : Schedule) (turns : List (ℕ × ℕ)) (spare count : ℕ) → 1 ≤ length guests → length guests ≤ 16 → wrong_among None t (document_options format) ≡ None → guests_fault format [] gs ≡ None → guests ≡ map (settings_of format) gs → count ≡ length guests → schedule_at count t ≡ Some schedule → schedule_fault (weights_of guests) schedule ≡ None → turns ≡ turns_of (weights_of guests) schedule → spare ≡ spare_at format t
    → IsWithinLimits (record { guests = guests; turns = turns; spare = spare })
kept_within format t gs guests schedule turns spare count some few fits passed is_guests is_count is_schedule none is_turns is_spare =
    let same : length guests ≡ length gs = ap length is_guests ∙ length-map gs (settings_of format) in
    let at_count : schedule_at (length gs) t ≡ Some schedule = rw (← (is_count ∙ same)) is_schedule in
    let none_of : schedule_fault (weights_of (map (settings_of format) gs)) schedule ≡ None = rw is_guests at none in
    let all = settled format t gs schedule (omega arith, omega arith) fits passed at_count none_of in
    rw (is_turns, is_guests, is_spare) all

-- the weights of guests without a fault
pub kept_light : (format : Format) (gs : List Members) (guests : List GuestSettings) → guests_fault format [] gs ≡ None → guests ≡ map (settings_of format) gs → All (λ g. g.weight ≤ 1000) guests
kept_light format gs guests passed is =
    subst (All (λ g. g.weight ≤ 1000)) (sym is) (All-weaker IsGuestWithin (λ g. g.weight ≤ 1000) (λ g within. within.weight_most) _ (guests_within format [] gs passed))

pub document_within : (t : Members) → document_fault t ≡ None → IsWithinLimits (configuration_of t)
unfolding document_fault body_fault configuration_of settings_in schedule_in
document_within t none =
    let (_, after_head) = first_none (head_fault t) _ none in
    let (body, _) = first_none (body_fault t) _ after_head in
    let (there, after_range) = first_none (unless (is_some (guests_at t)) _) _ body in
    let (fits, after_spare) = first_none (wrong_among None t (document_options (format_in t))) _ after_range in
    let (guests, after_guests) = first_none (guests_fault (format_in t) [] (guests_in t)) _ after_spare in
    let (turns, after_turns) = first_none (unless (is_some (schedule_at (length (guests_in t)) t)) _) _ after_guests in
    let (_, after_extra) = first_none (unless (has_only (document_keys (format_in t)) t) _) _ after_turns in
    let (schedule, is) = is_some_value (schedule_at (length (guests_in t)) t) (unless_none _ _ turns) in
    let (light, _) = first_none (schedule_fault (weights_of (map (settings_of (format_in t)) (guests_in t))) schedule) _ (rw is at after_extra) in
    let all = settled (format_in t) t (guests_in t) schedule (guests_in_few t (unless_none _ _ there)) fits guests is light in
    subst (λ o. IsWithinLimits (record { guests = map (settings_of (format_in t)) (guests_in t); turns = unwrap_or (option_map (turns_of (weights_of (map (settings_of (format_in t)) (guests_in t)))) o) []; spare = spare_at (format_in t) t })) (sym is) all

unless_fault-ok : (o : Option ConfigFault) (c d : Configuration) → unless_fault o c ≡ Ok d → (o ≡ None) × (c ≡ d)
unless_fault-ok None c d e = (refl, cc)
unless_fault-ok (Some f) c d e = cc

pub accepted_within : (bytes : List ℕ) (c : Configuration) → accept bytes ≡ Ok c → IsWithinLimits c
unfolding accept configuration_fault
accepted_within bytes c e =
    let (none, is) = unless_fault-ok (configuration_fault bytes) (configuration_of (document_of bytes)) c e in
    let (_, r) = first_none (unless (nat_le (length bytes) 65536) _) _ none in
    let (_, r) = first_none (unless (is_some (tree_of bytes)) _) _ r in
    let (fits, _) = first_none (document_fault (document_of bytes)) _ r in
    subst IsWithinLimits is (document_within (document_of bytes) fits)
