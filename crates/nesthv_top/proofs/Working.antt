-- The guests of a seed and a size, their turns, and their lines.
use Rattle.std.proofs.Common.{cond, ◌≡◌, ℕ, zero, suc, ◌+◌, ◌*◌, ◌<◌, ◌≤◌, ◌^◌, ◌==◌, List, [], ◌∷◌, ◌++◌, length, map, get_or, None, refl, ap, sym, subst, ◌∙◌, arith}
use Rattle.std.specs.List.{All, flat_map}
use Rattle.std.proofs.lemmas.List.{length-map}
use Rattle.std.proofs.lemmas.List.Elements.{All-nil, All-cons}
use Rattle.std.proofs.lemmas.List.Sums.{sum_by-cons}
use Rattle.guest_turns.specs.declared.sources.Source.TheVariants.{Fresh}
use Rattle.guest_turns.specs.Limits.{AreBootable}
use Rattle.machine_defs.specs.Bootable.{IsBootable}
use Rattle.guest_turns.specs.Sources.{AreBootableSources, IsBootableSource}
use Rattle.guest_turns.proofs.Savables.{fresh_each, fresh_needs}
use Rattle.guest_turns.specs.TurnLists.{own_steps, with_turns}
use Rattle.machine_defs.specs.Machine.{Machine, start}
use Rattle.machine_defs.specs.Runs.{run}
use Rattle.run_config.specs.Configurations.{IsTurnWithin}
use Rattle.turn_plan.specs.Turns.{rounds_of}
use Rattle.turn_plan.proofs.Facts.{each_turn, length-rounds_of}
use Rattle.work_images.specs.Guests.{guest, guest_name, guests}
use Rattle.work_images.proofs.Images.{image_length}
use Rattle.nesthv_top.specs.HostedRuns.{CanRun}
use Rattle.nesthv_top.specs.Runnings.{lines_of, said_of, work_names}
use Rattle.nesthv_top.specs.Seen.{plan_with}
use Rattle.nesthv_top.specs.Works.{line_after, line_of, work_heading, work_text}
use Rattle.nesthv_top.proofs.TurnEvents.{with_turns_are}

-- a guest's part of a turn, and of a round
abbrev part_of : ℕ → ℕ × ℕ → ℕ
part_of g turn = cond (turn.0 == g) turn.1 0

round_steps : (g : ℕ) (turns : List (ℕ × ℕ))
    → own_steps g ((0, 1000) ∷ (1, 1000) ∷ (2, 1000) ∷ (3, 1000) ∷ turns) ≡ part_of g (0, 1000) + part_of g (1, 1000) + part_of g (2, 1000) + part_of g (3, 1000) + own_steps g turns
round_steps g turns =
    let d = sum_by-cons (part_of g) (3, 1000) turns in
    let c = sum_by-cons (part_of g) (2, 1000) ((3, 1000) ∷ turns) in
    let b = sum_by-cons (part_of g) (1, 1000) ((2, 1000) ∷ (3, 1000) ∷ turns) in
    let a = sum_by-cons (part_of g) (0, 1000) ((1, 1000) ∷ (2, 1000) ∷ (3, 1000) ∷ turns) in
    omega (arith, a, b, c, d)

steps_of_0 : (size : ℕ) → own_steps 0 (rounds_of 4 1000 size) ≡ 1000 * size
unfolding rounds_of
steps_of_0 zero = refl
steps_of_0 (suc n) = omega (arith, round_steps 0 (rounds_of 4 1000 n), steps_of_0 n)

steps_of_1 : (size : ℕ) → own_steps 1 (rounds_of 4 1000 size) ≡ 1000 * size
unfolding rounds_of
steps_of_1 zero = refl
steps_of_1 (suc n) = omega (arith, round_steps 1 (rounds_of 4 1000 n), steps_of_1 n)

steps_of_2 : (size : ℕ) → own_steps 2 (rounds_of 4 1000 size) ≡ 1000 * size
unfolding rounds_of
steps_of_2 zero = refl
steps_of_2 (suc n) = omega (arith, round_steps 2 (rounds_of 4 1000 n), steps_of_2 n)

steps_of_3 : (size : ℕ) → own_steps 3 (rounds_of 4 1000 size) ≡ 1000 * size
unfolding rounds_of
steps_of_3 zero = refl
steps_of_3 (suc n) = omega (arith, round_steps 3 (rounds_of 4 1000 n), steps_of_3 n)

-- the lines of four machines, each after the steps of its own turns
four_lines : (names : List (List ℕ)) (a b c d : Machine) (n i j k l : ℕ) → i ≡ n → j ≡ n → k ≡ n → l ≡ n
    → said_of line_of names (run a i ∷ run b j ∷ run c k ∷ run d l ∷ []) ≡ said_of line_of names (run a n ∷ run b n ∷ run c n ∷ run d n ∷ [])
four_lines names a b c d n i j k l e f g h = rw (e, f, g, h) refl

lines_are : (seed size : ℕ) → lines_of (with_turns (rounds_of 4 1000 size) (map start (guests seed size))) ≡ flat_map (line_after (1000 * size)) (guests seed size)
unfolding guests said_of
lines_are seed size =
    ap lines_of (with_turns_are (rounds_of 4 1000 size) (map start (guests seed size)))
    ∙ four_lines work_names (start (guest seed size 0)) (start (guest seed size 1)) (start (guest seed size 2)) (start (guest seed size 3)) (1000 * size) _ _ _ _
    (steps_of_0 size) (steps_of_1 size) (steps_of_2 size) (steps_of_3 size)

pub text_is : (seed size : ℕ) (machines : List Machine) → machines ≡ with_turns (rounds_of 4 1000 size) (map start (guests seed size))
    → work_heading seed size ++ lines_of machines ≡ work_text seed size
text_is seed size machines is = ap (λ lines. work_heading seed size ++ lines) (ap lines_of is ∙ lines_are seed size)

-- there is a name for each
pub as_many : length work_names ≡ 4
as_many = refl

pub name_at : (i : ℕ) → i < 4 → get_or work_names i [] ≡ guest_name i
name_at zero inside = refl
name_at (suc zero) inside = refl
name_at (suc (suc zero)) inside = refl
name_at (suc (suc (suc zero))) inside = refl
name_at (suc (suc (suc (suc i)))) inside = absurd (omega (arith, inside))

-- there are four
pub four_guests : (seed size : ℕ) → length (guests seed size) ≡ 4
unfolding guests
four_guests seed size = refl

-- the guests can be booted
one_bootable : (seed size g : ℕ) → size ≤ 10000 → IsBootable (guest seed size g)
one_bootable seed size g most = record {
  some_block = omega arith;
  blocks = omega arith;
  some_space = omega arith;
  spaces = omega arith;
  some_entries = omega arith;
  entries = omega arith;
  console = omega arith;
  image = omega (arith, image_length seed size g, most);
  inputs = record {
    count = omega arith;
    moments = λ k d inside. absurd (omega (arith, inside));
    order = λ i j d before inside. absurd (omega (arith, inside));
  };
}

pub all_bootable : (seed size : ℕ) → size ≤ 10000 → All IsBootable (guests seed size)
unfolding guests
all_bootable seed size most =
    All-cons IsBootable (guest seed size 0) (guest seed size 1 ∷ guest seed size 2 ∷ guest seed size 3 ∷ []) (one_bootable seed size 0 most)
    (All-cons IsBootable (guest seed size 1) (guest seed size 2 ∷ guest seed size 3 ∷ []) (one_bootable seed size 1 most)
    (All-cons IsBootable (guest seed size 2) (guest seed size 3 ∷ []) (one_bootable seed size 2 most)
    (All-cons IsBootable (guest seed size 3) [] (one_bootable seed size 3 most) (All-nil IsBootable))))

pub are_bootable : (seed size : ℕ) → size ≤ 10000 → AreBootable (guests seed size)
unfolding guests
are_bootable seed size most = record { some = omega (arith, four_guests seed size); few = omega (arith, four_guests seed size); each = all_bootable seed size most; frames = omega arith }

-- and so their sources
pub sources_bootable : (seed size : ℕ) → size ≤ 10000 → All IsBootableSource (map Fresh (guests seed size))
sources_bootable seed size most = fresh_each (guests seed size) (all_bootable seed size most)

pub are_sources : (seed size : ℕ) → size ≤ 10000 → AreBootableSources (map Fresh (guests seed size))
are_sources seed size most = record {
  some = omega (arith, four_guests seed size, length-map (guests seed size) Fresh);
  few = omega (arith, four_guests seed size, length-map (guests seed size) Fresh);
  each = sources_bootable seed size most;
}

-- few rounds are few turns, of short lengths
pub few_turns : (size : ℕ) → size ≤ 10000 → length (rounds_of 4 1000 size) ≤ 2 ^ 20
few_turns size most = omega (arith, length-rounds_of 4 1000 size, most)

pub turns_within : (size : ℕ) → All (IsTurnWithin 4) (rounds_of 4 1000 size)
turns_within size = each_turn (IsTurnWithin 4) 4 1000 size (λ g below. record { guest = below; steps = omega arith })

-- so their plan can be run
pub work_runs : (seed size : ℕ) → size ≤ 10000 → CanRun (plan_with (map Fresh (guests seed size)) (rounds_of 4 1000 size) 0) None
work_runs seed size most = record {
  sources = are_sources seed size most;
  spare = omega arith;
  frames = rw (fresh_needs (guests seed size)) (omega (arith, (are_bootable seed size most).frames));
  few = few_turns size most;
  short = subst (λ n. All (IsTurnWithin n) (rounds_of 4 1000 size)) (sym (length-map (guests seed size) Fresh ∙ four_guests seed size)) (turns_within size);
  there = tt;
}
