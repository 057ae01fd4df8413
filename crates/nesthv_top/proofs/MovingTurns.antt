-- Turns after each of which a block moves, one after the other.
use Rattle.std.proofs.Common.{◌≡◌, ◌≢◌, ◌∙◌, ℕ, zero, suc, ◌+◌, ◌-◌, ◌^◌, ◌<◌, ◌≤◌, ◌==◌, ◌⊎◌, inl, inr, Bool, true, false, cond, List, [], ◌∷◌, ◌++◌, length, take, drop, get_or, replicate, set, Option, Some, None, refl, ap, sym, subst, arith}
use Rattle.std.proofs.lemmas.Bool.{cases_Bool, eqb-true, eq-eqb, both_ways}
use Rattle.std.proofs.lemmas.List.{get_or-set_other, get_or-set_same, length-set, take_more}
use Rattle.std.proofs.lemmas.List.Sums.{sum_by-cons}
use Rattle.std.specs.List.{All}
use Rattle.std.specs.Prelude.{IfSome}
use Rattle.arch_defs.specs.Layouts.{no_part}
use Rattle.block_moves.specs.Moves.{with_block, without_blocks}
use Rattle.guest_turns.specs.Account.{Accounted, IsTurn}
use Rattle.guest_turns.specs.Hosted.{Hosted, KeepsShares, count_set, is_set, machine_at, no_machine, part_at}
use Rattle.guest_turns.specs.Moves.{HasMoved, HasRetired, emptied}
use Rattle.guest_turns.specs.TurnLists.{updated, with_turn, with_turns}
use Rattle.guest_turns.proofs.Updating.{length_updated, updated_other, updated_same}
use Rattle.machine_defs.specs.Machine.{Machine}
use Rattle.machine_defs.specs.Runs.{run}
use Rattle.rv64_hart.specs.Counts.{Counts}
use Rattle.nesthv_top.specs.Moving.{turns_due, kept_turn, own_turns}
use Rattle.nesthv_top.specs.Runnings.{hosted_as, HaveBlocks}
use Rattle.nesthv_top.proofs.RetiredMachines.{active_one, active_turn, none_retired, one_retires}
use Rattle.nesthv_top.proofs.Turning.{TurnsLeft, left_is, left_next}

-- the lone machines after the first t turns
abbrev pub lone : List (ℕ × ℕ) → List Machine → ℕ → List Machine
lone turns first t = with_turns (take t turns) first

turns_then : (turns : List (ℕ × ℕ)) (g k : ℕ) (machines : List Machine) → with_turns (turns ++ (g, k) ∷ []) machines ≡ with_turn g k (with_turns turns machines)
turns_then [] g k machines = refl
turns_then ((h, j) ∷ turns) g k machines = turns_then turns g k (with_turn h j machines)

lone_next : (turns : List (ℕ × ℕ)) (first : List Machine) (t g k : ℕ) (d : ℕ × ℕ) → t < length turns → get_or turns t d ≡ (g, k) → lone turns first (t + 1) ≡ with_turn g k (lone turns first t)
lone_next turns first t g k d inside is =
    ap (λ turns. with_turns turns first) (take_more turns t d inside ∙ ap (λ turn. take t turns ++ turn ∷ []) is) ∙ turns_then (take t turns) g k first

-- a guest's own turns, of which one is made
abbrev one_if : Bool → ℕ
one_if b = cond b 1 0

pub own_one : (g k : ℕ) (turns : List (ℕ × ℕ)) → own_turns g ((g, k) ∷ turns) ≡ own_turns g turns + 1
own_one g k turns =
    let first : one_if (g == g) ≡ 1 = ap one_if (eq-eqb g g refl) in
    omega (arith, sum_by-cons (λ (turn : ℕ × ℕ). one_if (turn.0 == g)) (g, k) turns, first)

pub own_other : (g h k : ℕ) (turns : List (ℕ × ℕ)) → h ≢ g → own_turns g ((h, k) ∷ turns) ≡ own_turns g turns
own_other g h k turns other =
    let first : one_if (h == g) ≡ 0 = ap one_if (not_equal (h == g) refl) in
    omega (arith, sum_by-cons (λ (turn : ℕ × ℕ). one_if (turn.0 == g)) (h, k) turns, first)
  where
    not_equal : (b : Bool) → (h == g) ≡ b → (h == g) ≡ false
    not_equal true e = absurd (other (eqb-true h g e))
    not_equal false e = e

due_one : (kept : Option ℕ) (g k : ℕ) (turns : List (ℕ × ℕ)) → turns_due kept g ((g, k) ∷ turns) ≡ turns_due kept g turns + 1
due_one kept g k turns = omega (arith, own_one g k turns)

due_other : (kept : Option ℕ) (g h k : ℕ) (turns : List (ℕ × ℕ)) → h ≢ g → turns_due kept g ((h, k) ∷ turns) ≡ turns_due kept g turns
due_other kept g h k turns other = omega (arith, own_other g h k turns other)

-- what holds after the first t turns
pub record Moving (kept : Option ℕ) (turns : List (ℕ × ℕ)) (first : List Machine) (began : Counts) (moved t : ℕ) (host : Hosted) (left : List ℕ) (tally : Counts) (moves : ℕ) : Type 0 where
  pub machines : host.machines ≡ hosted_as host.retired (lone turns first t)
  pub turns_left : TurnsLeft turns first began t (lone turns first t) tally
  pub flags : length host.retired ≡ 16
  pub size : length left ≡ 16
  pub own : (g : ℕ) → g < 16 → get_or left g 0 ≡ turns_due kept g (drop t turns)
  pub gone : (g : ℕ) → is_set host.retired g ≡ true → turns_due kept g (drop t turns) ≡ 0
  pub blocks : HaveBlocks host
  pub free : 1 ≤ count_set host.free
  pub counted : moves ≡ moved + t

-- between a turn and what follows its move
pub record Between (kept : Option ℕ) (turns : List (ℕ × ℕ)) (first : List Machine) (began : Counts) (moved t g : ℕ) (host : Hosted) (left : List ℕ) (tally : Counts) (moves : ℕ) : Type 0 where
  pub machines : host.machines ≡ hosted_as host.retired (lone turns first (t + 1))
  pub turns_left : TurnsLeft turns first began (t + 1) (lone turns first (t + 1)) tally
  pub flags : length host.retired ≡ 16
  pub size : length left ≡ 16
  pub active : is_set host.retired g ≡ false
  pub one : get_or left g 0 ≡ turns_due kept g (drop (t + 1) turns) + 1
  pub others : (h : ℕ) → h < 16 → h ≢ g → get_or left h 0 ≡ turns_due kept h (drop (t + 1) turns)
  pub gone : (h : ℕ) → is_set host.retired h ≡ true → turns_due kept h (drop (t + 1) turns) ≡ 0
  pub blocks : HaveBlocks host
  pub free : 1 ≤ count_set host.free
  pub counted : moves ≡ moved + (t + 1)

-- the guest of the next turn has not retired
pub next_active : (kept : Option ℕ) (turns : List (ℕ × ℕ)) (first : List Machine) (began : Counts) (moved t g k : ℕ) (host : Hosted) (left : List ℕ) (tally : Counts) (moves : ℕ) (d : ℕ × ℕ)
    → t < length turns → get_or turns t d ≡ (g, k) → Moving kept turns first began moved t host left tally moves → is_set host.retired g ≡ false
next_active kept turns first began moved t g k host left tally moves d inside is inv = by (cases_Bool (is_set host.retired g))
  where
    more : turns_due kept g (drop t turns) ≡ turns_due kept g (drop (t + 1) turns) + 1
    more = ap (turns_due kept g) (left_is turns t g k d inside is) ∙ due_one kept g k (drop (t + 1) turns)

    by : (is_set host.retired g ≡ true) ⊎ (is_set host.retired g ≡ false) → is_set host.retired g ≡ false
    by (inl retired) = absurd (omega (arith, inv.gone g retired, more))
    by (inr active) = active

-- the blocks of all guests, after a turn and after a move
pub turned_blocks : (old new : Hosted) → length new.machines ≡ length old.machines → new.parts ≡ old.parts → new.retired ≡ old.retired → HaveBlocks old → HaveBlocks new
turned_blocks old new machines parts retired have = record {
  count = ap length parts ∙ have.count ∙ sym machines;
  some = λ h inside active. subst (λ ps. 1 ≤ length (part_at ps h).blocks) (sym parts) (have.some h (omega (arith, inside, machines)) (rw retired at active));
}

moved_blocks : (old new : Hosted) (g block to : ℕ) → HasMoved old g block to new → HaveBlocks old → HaveBlocks new
moved_blocks old new g block to is have = record {
  count = ap length is.parts ∙ length_updated g (λ part. with_block part block to) old.parts ∙ have.count ∙ sym (ap length is.machines);
  some = λ h inside active.
      let there : h < length old.machines = rw is.machines at inside in
      let before = have.some h there (rw is.retired at active) in
      by h (cases_Bool (g == h)) (rw (sym have.count) at there) before;
}
  where
    by : (h : ℕ) → ((g == h) ≡ true) ⊎ ((g == h) ≡ false) → h < length old.parts → 1 ≤ length (part_at old.parts h).blocks → 1 ≤ length (part_at new.parts h).blocks
    by h (inl same) inside before =
        let e : g ≡ h = eqb-true g h same in
        let part : part_at new.parts h ≡ with_block (part_at old.parts h) block to =
        ap (λ ps. part_at ps h) is.parts ∙ ap (λ i. part_at (updated i (λ part. with_block part block to) old.parts) h) e
        ∙ updated_same h (λ part. with_block part block to) old.parts no_part inside in
        rw (part, length-set (part_at old.parts h).blocks block to) before
    by h (inr other) inside before =
        let apart : g ≢ h = λ e. both_ways (g == h) other (rw e (eq-eqb h h refl)) in
        rw (is.parts, updated_other g h (λ part. with_block part block to) old.parts no_part apart) before

-- a turn and a move
pub turned_and_moved : (kept : Option ℕ) (turns : List (ℕ × ℕ)) (first : List Machine) (began : Counts) (moved t g k taken block to : ℕ) (host turned after : Hosted) (left : List ℕ)
    (tally later : Counts) (moves more : ℕ) (d : ℕ × ℕ) → t < length turns → get_or turns t d ≡ (g, k) → Moving kept turns first began moved t host left tally moves
    → turned.machines ≡ with_turn g k host.machines → IsTurn (machine_at host.machines g) k (machine_at turned.machines g) taken
    → Accounted (machine_at host.machines g) k taken tally later → KeepsShares host turned → HasMoved turned g block to after
    → more ≡ moves + 1 → g < 16 → Between kept turns first began moved t g after left later more
turned_and_moved kept turns first began moved t g k taken block to host turned after left tally later moves more d inside is inv machines made account shares move raised guest =
    let active = next_active kept turns first began moved t g k host left tally moves d inside is inv in
    let ms = lone turns first t in
    let next = lone_next turns first t g k d inside is in
    let here : machine_at host.machines g ≡ machine_at ms g = ap (λ ms. machine_at ms g) inv.machines ∙ active_one host.retired ms g active in
    let all : turned.machines ≡ hosted_as host.retired (lone turns first (t + 1)) =
    machines ∙ ap (with_turn g k) inv.machines ∙ active_turn (λ m. run m k) host.retired ms g active ∙ ap (hosted_as host.retired) (sym next) in
    let there : machine_at turned.machines g ≡ machine_at (lone turns first (t + 1)) g =
    ap (λ ms. machine_at ms g) all ∙ active_one host.retired (lone turns first (t + 1)) g active in
    let flags : after.retired ≡ host.retired = move.retired ∙ shares.retired in
    let left_now = left_is turns t g k d inside is in
    record {
      machines = move.machines ∙ all ∙ ap (λ flags. hosted_as flags (lone turns first (t + 1))) (sym flags);
      turns_left = left_next turns first began t g k taken d ms tally (lone turns first (t + 1)) later inside is inv.turns_left next
          (rw (here, there) at made) (rw here at account);
      flags = ap length flags ∙ inv.flags;
      size = inv.size;
      active = rw flags active;
      one = inv.own g guest ∙ ap (turns_due kept g) left_now ∙ due_one kept g k (drop (t + 1) turns);
      others = λ h few other. inv.own h few ∙ ap (turns_due kept h) left_now ∙ due_other kept h g k (drop (t + 1) turns) (λ e. other (sym e));
      gone = λ h is_gone.
          let before = inv.gone h (rw flags at is_gone) in
          let apart : g ≢ h = λ e. both_ways (is_set host.retired g) active (rw (e, ← flags) is_gone) in
          sym (due_other kept h g k (drop (t + 1) turns) apart) ∙ ap (turns_due kept h) (sym left_now) ∙ before;
      blocks = moved_blocks turned after g block to move (turned_blocks host turned (ap length machines ∙ length_updated g (λ m. run m k) host.machines) shares.parts shares.retired inv.blocks);
      free = omega (arith, move.count, ap count_set shares.free, inv.free);
      counted = omega (arith, raised, inv.counted);
    }

-- the turns that are counted as left
own_now : (kept : Option ℕ) (left : List ℕ) (g h : ℕ) (turns : List (ℕ × ℕ)) → g < 16 → length left ≡ 16 → get_or left g 0 ≡ turns_due kept g turns + 1
    → (h ≢ g → get_or left h 0 ≡ turns_due kept h turns) → get_or (set left g (get_or left g 0 - 1)) h 0 ≡ turns_due kept h turns
own_now kept left g h turns few size one others = by (cases_Bool (h == g))
  where
    by : ((h == g) ≡ true) ⊎ ((h == g) ≡ false) → get_or (set left g (get_or left g 0 - 1)) h 0 ≡ turns_due kept h turns
    by (inl same) =
        let e : h ≡ g = eqb-true h g same in
        rw e (get_or-set_same left g (get_or left g 0 - 1) 0 (omega (arith, few, size)) ∙ omega (arith, one))
    by (inr other) =
        let apart : h ≢ g = λ e. both_ways (h == g) other (rw e (eq-eqb g g refl)) in
        get_or-set_other left g h (get_or left g 0 - 1) 0 apart ∙ others apart

pub left_now : (kept : Option ℕ) (turns : List (ℕ × ℕ)) (first : List Machine) (began : Counts) (moved t g : ℕ) (host : Hosted) (left : List ℕ) (tally : Counts) (moves : ℕ)
    → g < 16 → Between kept turns first began moved t g host left tally moves → get_or (set left g (get_or left g 0 - 1)) g 0 ≡ turns_due kept g (drop (t + 1) turns)
left_now kept turns first began moved t g host left tally moves guest between =
    own_now kept left g g (drop (t + 1) turns) guest between.size between.one (λ other. absurd (other refl))

-- the guest has turns left
pub goes_on : (kept : Option ℕ) (turns : List (ℕ × ℕ)) (first : List Machine) (began : Counts) (moved t g : ℕ) (host : Hosted) (left : List ℕ) (tally : Counts) (moves : ℕ)
    → g < 16 → Between kept turns first began moved t g host left tally moves → Moving kept turns first began moved (t + 1) host (set left g (get_or left g 0 - 1)) tally moves
goes_on kept turns first began moved t g host left tally moves guest between = record {
  machines = between.machines;
  turns_left = between.turns_left;
  flags = between.flags;
  size = length-set left g _ ∙ between.size;
  own = λ h few. own_now kept left g h (drop (t + 1) turns) guest between.size between.one (between.others h few);
  gone = between.gone;
  blocks = between.blocks;
  free = between.free;
  counted = between.counted;
}

-- it was its last turn
retired_blocks : (old new : Hosted) (g : ℕ) → HasRetired old g new → is_set old.retired g ≡ false → g < length old.retired → HaveBlocks old → HaveBlocks new
retired_blocks old new g is active inside have = record {
  count = ap length is.parts ∙ length_updated g without_blocks old.parts ∙ have.count ∙ sym (ap length is.machines ∙ length_updated g emptied old.machines);
  some = λ h in_host active_now.
      let apart : g ≢ h = λ e. both_ways (is_set new.retired h) active_now (rw (is.retired, ← e) (get_or-set_same old.retired g true false inside)) in
      let before : is_set old.retired h ≡ false = sym (get_or-set_other old.retired g h true false (λ e. apart (sym e))) ∙ ap (λ flags. is_set flags h) (sym is.retired) ∙ active_now in
      let there : h < length old.machines = rw (is.machines, length_updated g emptied old.machines) at in_host in
      rw (is.parts, updated_other g h without_blocks old.parts no_part apart) (have.some h there before);
}

pub retires : (kept : Option ℕ) (turns : List (ℕ × ℕ)) (first : List Machine) (began : Counts) (moved t g : ℕ) (host after : Hosted) (left : List ℕ) (tally : Counts) (moves : ℕ)
    → g < 16 → Between kept turns first began moved t g host left tally moves → get_or (set left g (get_or left g 0 - 1)) g 0 ≡ 0 → HasRetired host g after
    → Moving kept turns first began moved (t + 1) after (set left g (get_or left g 0 - 1)) tally moves
retires kept turns first began moved t g host after left tally moves guest between last is =
    let inside : g < length host.retired = omega (arith, between.flags, guest) in
    record {
      machines = is.machines ∙ ap (updated g emptied) between.machines ∙ one_retires host.retired (lone turns first (t + 1)) g inside between.active
          ∙ ap (λ flags. hosted_as flags (lone turns first (t + 1))) (sym is.retired);
      turns_left = between.turns_left;
      flags = ap length is.retired ∙ length-set host.retired g true ∙ between.flags;
      size = length-set left g _ ∙ between.size;
      own = λ h few. own_now kept left g h (drop (t + 1) turns) guest between.size between.one (between.others h few);
      gone = λ h is_gone. by h (cases_Bool (g == h)) is_gone;
      blocks = retired_blocks host after g is between.active inside between.blocks;
      free = omega (arith, is.count, between.free);
      counted = between.counted;
    }
  where
    by : (h : ℕ) → ((g == h) ≡ true) ⊎ ((g == h) ≡ false) → is_set after.retired h ≡ true → turns_due kept h (drop (t + 1) turns) ≡ 0
    by h (inl same) is_gone =
        let e : g ≡ h = eqb-true g h same in
        let none : turns_due kept g (drop (t + 1) turns) ≡ 0 = sym (left_now kept turns first began moved t g host left tally moves guest between) ∙ last in rw e at none
    by h (inr other) is_gone =
        let apart : h ≢ g = λ e. both_ways (g == h) other (rw e (eq-eqb g g refl)) in
        between.gone h (sym (get_or-set_other host.retired g h true false apart) ∙ ap (λ flags. is_set flags h) (sym is.retired) ∙ is_gone)

-- nothing has moved yet
pub moving_begins : (kept : Option ℕ) (turns : List (ℕ × ℕ)) (began : Counts) (moved : ℕ) (host : Hosted) (left : List ℕ) → length host.retired ≡ 16 → length left ≡ 16
    → ((g : ℕ) → g < 16 → get_or left g 0 ≡ turns_due kept g turns) → ((g : ℕ) → is_set host.retired g ≡ false) → TurnsLeft turns host.machines began 0 host.machines began
    → HaveBlocks host → 1 ≤ count_set host.free → Moving kept turns host.machines began moved 0 host left began moved
moving_begins kept turns began moved host left flags size own active begin blocks free = record {
  machines = sym (none_retired host.retired host.machines active);
  turns_left = begin;
  flags = flags;
  size = size;
  own = own;
  gone = λ g retired. absurd (both_ways (is_set host.retired g) (active g) retired);
  blocks = blocks;
  free = free;
  counted = omega arith;
}

-- before the first turn
pub left_before : (turns : List (ℕ × ℕ)) (first : List Machine) (began : Counts) → All (λ m. m.platform.steps ≤ 2 ^ 60) first → TurnsLeft turns first began 0 first began
left_before turns first began fresh = record {
  machines = refl;
  count = refl;
  steps = λ g inside. omega (arith, fresh g no_machine inside);
  entries_grow = omega arith;
  rooms = λ g. refl;
  entries_most = omega arith;
  taken_most = omega arith;
  taken_least = omega arith;
  trace = refl;
}

-- the guest whose turn it is has a turn left
pub one_left : (kept : Option ℕ) (turns : List (ℕ × ℕ)) (t g k : ℕ) (left : List ℕ) (d : ℕ × ℕ) → t < length turns → get_or turns t d ≡ (g, k) → get_or left g 0 ≡ turns_due kept g (drop t turns) → 1 ≤ get_or left g 0
one_left kept turns t g k left d inside is own =
    let one = ap (turns_due kept g) (left_is turns t g k d inside is) ∙ due_one kept g k (drop (t + 1) turns) in
    omega (arith, own, one)

-- the guest that is kept has not retired
pub still_there : (kept : Option ℕ) (turns : List (ℕ × ℕ)) (first : List Machine) (began : Counts) (moved t : ℕ) (host : Hosted) (left : List ℕ) (tally : Counts) (moves : ℕ)
    → Moving kept turns first began moved t host left tally moves → IfSome kept (λ g. is_set host.retired g ≡ false)
still_there None turns first began moved t host left tally moves inv = tt
still_there (Some kept) turns first began moved t host left tally moves inv = by (cases_Bool (is_set host.retired kept))
  where
    one : kept_turn (Some kept) kept ≡ 1
    one = rw (eq-eqb kept kept refl) refl

    by : (is_set host.retired kept ≡ true) ⊎ (is_set host.retired kept ≡ false) → is_set host.retired kept ≡ false
    by (inl retired) = absurd (omega (arith, inv.gone kept retired, one))
    by (inr active) = active

-- one turn of the guest that is kept, and none of each other
pub one_alone : (left : List ℕ) (kept g : ℕ) → kept < length left → ((h : ℕ) → get_or left h 0 ≡ 0) → get_or (set left kept 1) g 0 ≡ kept_turn (Some kept) g
one_alone left kept g inside none = by (cases_Bool (kept == g))
  where
    by : ((kept == g) ≡ true) ⊎ ((kept == g) ≡ false) → get_or (set left kept 1) g 0 ≡ kept_turn (Some kept) g
    by (inl same) =
        let e : kept ≡ g = eqb-true kept g same in
        rw same (rw (sym e) (get_or-set_same left kept 1 0 inside))
    by (inr other) =
        let apart : g ≢ kept = λ e. both_ways (kept == g) other (rw e (eq-eqb kept kept refl)) in
        rw other (get_or-set_other left kept g 1 0 apart ∙ none g)

abbrev pub zeros : ℕ → List ℕ
zeros n = replicate n 0

pub zero_in : (n h : ℕ) → get_or (zeros n) h 0 ≡ 0
zero_in zero h = refl
zero_in (suc n) zero = refl
zero_in (suc n) (suc h) = zero_in n h
