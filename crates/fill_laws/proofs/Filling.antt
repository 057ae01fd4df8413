-- The fills of a machine: how many its next step needs, and that more change nothing.
use Rattle.std.proofs.Common.{cond, ◌≡◌, ℕ, zero, suc, ◌+◌, ◌-◌, ◌<◌, ◌≤◌, ◌∙◌, Bool, true, false, List, [], ◌∷◌, Option, Some, None, refl, ap, sym, arith, suc-add, zero-add}
use Rattle.arch_defs.specs.declared.cached.Entry.{Entry}
use Rattle.arch_defs.specs.Interrupts.{due}
use Rattle.arch_defs.specs.Spaces.{Space}
use Rattle.arch_defs.specs.CachedEntries.{filled}
use Rattle.arch_defs.specs.WalkedEntries.{folds}
use Rattle.machine_defs.specs.Fills.{after_fill, after_fills, counted, fill, filled_front, fills, missing_entry, missing_entry_under, missing_entry_with, most_fills, needed}
use Rattle.machine_defs.specs.FirstLeaves.{known_of, tag_of}
use Rattle.machine_defs.specs.Machine.{Machine}
use Rattle.fill_laws.specs.Laws.{FewFills, FillsGoOn, FillsSuffice, FlatMissesNothing, InterruptedMissesNothing, MoreChangeNothing, OnlySpaces}
use Rattle.fill_laws.proofs.Counting.{filling, next_filled}
use Rattle.fill_laws.proofs.Fresh.{list_suffices}

-- a machine that lacks nothing stays as it is
pub no_fills : (n : ℕ) (m : Machine) → missing_entry m ≡ None → after_fills n m ≡ m
unfolding after_fills
no_fills zero m e = refl
no_fills (suc n) m e = rw e refl

-- a machine that lacks an entry
pub one_fill : (n : ℕ) (m : Machine) (e : Entry) → missing_entry m ≡ Some e → after_fills (suc n) m ≡ after_fills n (fill m e)
unfolding after_fills
one_fill n m e is = rw is refl

-- a machine with these spaces, and what it lacks under entries
abbrev pub machine : Machine → List Space → Machine
machine m spaces = record m { spaces = spaces }

abbrev pub lacks_by : Machine → List Entry → Option Entry
lacks_by m = missing_entry_under m.device (known_of m.platform.virt.first (tag_of m.platform.virt) m.platform.virt) m.platform.virt m.ram

-- what it lacks is what its front space's list does, if it folds and no interrupt is due
pub missing_entry_front : (m : Machine) (s : Space) (ss : List Space) → folds m.platform.virt ≡ true → due m.platform.virt.csrs m.platform.virt.mode ≡ None
    → missing_entry (machine m (s ∷ ss)) ≡ lacks_by m s.entries
unfolding missing_entry
missing_entry_front m s ss folding none = by (folds m.platform.virt) (due m.platform.virt.csrs m.platform.virt.mode) folding none
  where
    by : (b : Bool) (code : Option ℕ) → b ≡ true → code ≡ None → cond b (missing_entry_with m.device (known_of m.platform.virt.first (tag_of m.platform.virt) m.platform.virt) m.platform.virt m.ram (s ∷ ss) code) None ≡ lacks_by m s.entries
    by true None folding none = refl
    by true (Some code) folding none = absurd cc
    by false code folding none = absurd cc

pub flat_misses_nothing : FlatMissesNothing
unfolding missing_entry
flat_misses_nothing m flat = rw flat refl

pub interrupted_misses_nothing : InterruptedMissesNothing
unfolding missing_entry
interrupted_misses_nothing m code is = by (folds m.platform.virt) m.spaces (due m.platform.virt.csrs m.platform.virt.mode) is
  where
    by : (b : Bool) (spaces : List Space) (there : Option ℕ) → there ≡ Some code → cond b (missing_entry_with m.device (known_of m.platform.virt.first (tag_of m.platform.virt) m.platform.virt) m.platform.virt m.ram spaces there) None ≡ None
    by true (s ∷ ss) None is = absurd cc
    by true (s ∷ ss) (Some other) is = refl
    by true [] there is = refl
    by false spaces there is = refl

-- and so are its fills
fills_front : (m : Machine) (ss : List Space) → folds m.platform.virt ≡ true → due m.platform.virt.csrs m.platform.virt.mode ≡ None → (n : ℕ) (s : Space)
    → after_fills n (machine m (s ∷ ss)) ≡ machine m (record s { entries = filling (lacks_by m) m.entry_room n s.entries } ∷ ss)
unfolding after_fills filling
fills_front m ss folding none zero s = refl
fills_front m ss folding none (suc n) s = rw (missing_entry_front m s ss folding none) (by (lacks_by m s.entries) (λ t. fills_front m ss folding none n t))
  where
    by : (there : Option Entry)
        → ((t : Space) → after_fills n (machine m (t ∷ ss)) ≡ machine m (record t { entries = filling (lacks_by m) m.entry_room n t.entries } ∷ ss))
        → after_fill (after_fills n) (machine m (s ∷ ss)) there
        ≡ machine m (record s { entries = next_filled (filling (lacks_by m) m.entry_room n) m.entry_room s.entries there } ∷ ss)
    by None deeper = refl
    by (Some e) deeper = deeper (record s { entries = filled m.entry_room s.entries e })

-- that many suffice
nothing_to_fill : (n : ℕ) (m : Machine) → missing_entry m ≡ None → missing_entry (after_fills n m) ≡ None
nothing_to_fill n m e = rw (no_fills n m e) e

suffices_by : (m : Machine) (spaces : List Space) → needed ≤ m.entry_room → missing_entry (after_fills (m.entry_room + needed) (machine m spaces)) ≡ None
unfolding missing_entry
suffices_by m spaces room = by spaces (folds m.platform.virt) (due m.platform.virt.csrs m.platform.virt.mode) refl refl
  where
    most : ℕ
    most = m.entry_room + needed

    by : (spaces : List Space) (b : Bool) (code : Option ℕ) → folds m.platform.virt ≡ b → due m.platform.virt.csrs m.platform.virt.mode ≡ code
        → missing_entry (after_fills most (machine m spaces)) ≡ None
    by (s ∷ ss) true None folding none = rw (fills_front m ss folding none most s)
        (missing_entry_front m (record s { entries = filling (lacks_by m) m.entry_room most s.entries }) ss folding none
        ∙ list_suffices m.device (known_of m.platform.virt.first (tag_of m.platform.virt) m.platform.virt) m.platform.virt m.ram m.entry_room s.entries room)
    by (s ∷ ss) true (Some code) folding is = nothing_to_fill most (machine m (s ∷ ss)) (rw (folding, is) refl)
    by [] true code folding is = nothing_to_fill most (machine m []) (rw folding refl)
    by spaces false code flat is = nothing_to_fill most (machine m spaces) (rw flat refl)

pub suffices : FillsSuffice
suffices m room = suffices_by m m.spaces room

-- more change nothing
fills_add : (a b : ℕ) (m : Machine) → missing_entry (after_fills a m) ≡ None → after_fills (a + b) m ≡ after_fills a m
unfolding after_fills
fills_add zero b m e = rw (zero-add b) (no_fills b m e)
fills_add (suc a) b m e = rw (suc-add a b) (by (missing_entry m) (λ t. fills_add a b t) e)
  where
    by : (there : Option Entry) → ((t : Machine) → missing_entry (after_fills a t) ≡ None → after_fills (a + b) t ≡ after_fills a t)
        → missing_entry (after_fill (after_fills a) m there) ≡ None → after_fill (after_fills (a + b)) m there ≡ after_fill (after_fills a) m there
    by None deeper e = refl
    by (Some x) deeper e = deeper (fill m x) e

pub more_change_nothing : MoreChangeNothing
more_change_nothing m n room more = let over : most_fills m + (n - most_fills m) ≡ n = omega arith in
    rw (← over) (fills_add (most_fills m) (n - most_fills m) m (suffices m room))

-- fills change the spaces alone
only_by : (m : Machine) (n : ℕ) (spaces : List Space) → after_fills n (machine m spaces) ≡ machine m (after_fills n (machine m spaces)).spaces
unfolding after_fills
only_by m zero spaces = refl
only_by m (suc n) spaces = by (missing_entry (machine m spaces)) (λ t. only_by m n t)
  where
    by : (there : Option Entry) → ((t : List Space) → after_fills n (machine m t) ≡ machine m (after_fills n (machine m t)).spaces)
        → after_fill (after_fills n) (machine m spaces) there ≡ machine m (after_fill (after_fills n) (machine m spaces) there).spaces
    by None deeper = refl
    by (Some e) deeper = deeper (filled_front m.entry_room spaces e)

pub only_spaces : OnlySpaces
only_spaces m n = only_by m n m.spaces

-- a step makes few fills
pub few_fills : FewFills
unfolding fills
few_fills m zero = omega arith
few_fills m (suc n) = by (missing_entry m) (λ t. few_fills t n)
  where
    by : (there : Option Entry) → ((t : Machine) → fills n t ≤ n) → counted (fills n) m there ≤ suc n
    by None deeper = omega arith
    by (Some e) deeper = let few = deeper (fill m e) in omega arith

pub none_left : (n : ℕ) (m : Machine) → missing_entry m ≡ None → fills n m ≡ 0
unfolding fills
none_left zero m e = refl
none_left (suc n) m e = rw e refl

one_left : (n : ℕ) (m : Machine) (e : Entry) → missing_entry m ≡ Some e → fills (suc n) m ≡ fills n (fill m e) + 1
unfolding fills
one_left n m e is = rw is refl

counts_add : (a b : ℕ) (m : Machine) → missing_entry (after_fills a m) ≡ None → fills (a + b) m ≡ fills a m
unfolding after_fills fills
counts_add zero b m e = rw (zero-add b) (none_left b m e)
counts_add (suc a) b m e = rw (suc-add a b) (by (missing_entry m) (λ t. counts_add a b t) e)
  where
    by : (there : Option Entry) → ((t : Machine) → missing_entry (after_fills a t) ≡ None → fills (a + b) t ≡ fills a t)
        → missing_entry (after_fill (after_fills a) m there) ≡ None → counted (fills (a + b)) m there ≡ counted (fills a) m there
    by None deeper e = refl
    by (Some x) deeper e = ap (λ n. n + 1) (deeper (fill m x) e)

-- after a fill the same is left, and one fill less
goes_on : (most : ℕ) → 0 < most → (m : Machine) (e : Entry) → missing_entry m ≡ Some e → missing_entry (after_fills most m) ≡ None
    → (after_fills most (fill m e) ≡ after_fills most m) × (fills most m ≡ fills most (fill m e) + 1)
goes_on zero some m e is enough = absurd (omega arith)
goes_on (suc n) some m e is enough =
    let first = one_fill n m e is in
    let rest : missing_entry (after_fills n (fill m e)) ≡ None = rw first at enough in
    let more : n + 1 ≡ suc n = omega arith in
    let same : after_fills (suc n) (fill m e) ≡ after_fills n (fill m e) = rw (← more) (fills_add n 1 (fill m e) rest) in
    let count : fills (suc n) (fill m e) ≡ fills n (fill m e) = rw (← more) (counts_add n 1 (fill m e) rest) in
    (same ∙ sym first, one_left n m e is ∙ ap (λ k. k + 1) (sym count))

pub fills_go_on : FillsGoOn
fills_go_on m e room is = let both = goes_on (most_fills m) (omega arith) m e is (suffices m room) in record { same = both.0; fewer = both.1 }
