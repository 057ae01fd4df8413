-- First-stage translations are few, no two are of the same page for the same accesses, each is what a table can
-- give, and what it is for is what registers can store.
use Rattle.std.specs.Prelude.{nat_lt, not, filter, option_map}
use Rattle.std.specs.List.{All, AllPairs}
use Rattle.std.proofs.Common.{cond, ◌≡◌, ℕ, zero, suc, ◌+◌, ◌-◌, ◌*◌, ◌/◌, ◌%◌, ◌^◌, ◌<◌, ◌≤◌, Bool, true, false, List, [], ◌∷◌, ◌++◌, length, drop, Option, Some, None, refl, ap, arith, length-drop}
use Rattle.std.proofs.lemmas.Bool.{eqb-true}
use Rattle.std.proofs.lemmas.List.Elements.{All-get_or, All-nil, All-weaker, filter_passes}
use Rattle.std.proofs.lemmas.List.Kept.{AllPairs-filter}
use Rattle.std.proofs.lemmas.List.Quantifiers.{all_pairs_push}
use Rattle.arch_defs.specs.declared.first.FirstEntry.{FirstEntry}
use Rattle.arch_defs.specs.declared.first.Tag.{Tag}
use Rattle.arch_defs.specs.declared.modes.Access.{Access}
use Rattle.arch_defs.specs.declared.modes.Mode.{Mode}
use Rattle.arch_defs.specs.declared.modes.Mode.TheVariants.{HS, U, VS, VU}
use Rattle.arch_defs.specs.declared.registers.Csrs.{Csrs}
use Rattle.arch_defs.specs.declared.registers.Virtual.{Virtual}
use Rattle.arch_defs.specs.declared.roots.GuestRoot.{GuestRoot}
use Rattle.arch_defs.specs.declared.roots.SupervisorMode.{SupervisorMode}
use Rattle.arch_defs.specs.declared.roots.SupervisorMode.TheVariants.{Sv39, Sv48}
use Rattle.arch_defs.specs.declared.roots.SupervisorRoot.{SupervisorRoot}
use Rattle.arch_defs.specs.declared.roots.SupervisorRoot.TheVariants as root
use Rattle.arch_defs.specs.declared.walks.LeafPte.{LeafPte}
use Rattle.arch_defs.specs.declared.walks.Privilege.{Privilege}
use Rattle.arch_defs.specs.declared.walks.Shape.{Shape}
use Rattle.arch_defs.specs.declared.walks.WalkEnd.{WalkEnd}
use Rattle.arch_defs.specs.declared.walks.WalkEnd.TheVariants.{Leaf, PageFault, FetchEnd}
use Rattle.arch_defs.specs.Bits.{field, sign_extend}
use Rattle.arch_defs.specs.CsrBits.{guest_root_of, hgatp_bits}
use Rattle.arch_defs.specs.FirstEntries.{all_filled, first_entry, first_filled, first_room, is_first_of, unnamed_first, without_first}
use Rattle.arch_defs.specs.Memory.{Mmu, SecondStage, mmu, nothing_known, ram_memory, reading_of}
use Rattle.arch_defs.specs.Permits.{permits_first}
use Rattle.arch_defs.specs.Roots.{supervisor_shape}
use Rattle.arch_defs.specs.TableEntries.{end_at_leaf, leaf_with}
use Rattle.arch_defs.specs.Translation.{entry_words_through, privilege_of, supervisor_of}
use Rattle.arch_defs.specs.Walk.{EntryReading, end_of, is_canonical, levels, path, path_from, walk}
use Rattle.arch_defs.proofs.Shapes.{few_levels}
use Rattle.machine_defs.specs.FirstLeaves.{entry_walked, leaf_if, leaf_under, tag_for, tag_of}
use Rattle.machine_defs.specs.FreeMachines.{IsFirstWalked}
use Rattle.machine_defs.specs.Machine.{Machine, start}
use Rattle.machine_defs.specs.Runs.{left_after}
use Rattle.machine_defs.specs.Tries.{found_by_try, stages_of, try_under}
use Rattle.run_laws.specs.FirstKeys.{AreApart, AreStorable, HasFirst, IsOfFirstTable, IsStorableFirst, IsStorableTag, RunKeepsFirst, RunKeepsFirstStorable, StartHasFirst}
use Rattle.instruction_laws.proofs.FirstTries.{found_if_ends, tried_keeps_first, tried_keeps_list}
use Rattle.instruction_laws.proofs.FirstWalks.{tried_walked}
use Rattle.instruction_laws.proofs.KeptByRuns.{IsKept, kept_by_runs}
use Rattle.fill_laws.proofs.Leaves.{IsSound, sound_path}
use Rattle.run_laws.proofs.StorableRuns.{fill_stays_storable, try_stays_storable}
use Rattle.run_laws.proofs.StoredForms.{AtpStored}
use Rattle.run_laws.specs.StorableStates.{IsStorable, stored_form}

-- they are few
filter_few : (test : FirstEntry → Bool) (xs : List FirstEntry) → length (filter test xs) ≤ length xs
filter_few test [] = omega arith
filter_few test (x ∷ xs) = by (test x) (filter_few test xs)
  where
    by : (b : Bool) → length (filter test xs) ≤ length xs → length (cond b (x ∷ filter test xs) (filter test xs)) ≤ suc (length xs)
    by true rest = omega arith
    by false rest = omega arith

unnamed_few : (named : FirstEntry → Bool) (xs : List FirstEntry) → length xs ≤ first_room → length (unnamed_first named xs) ≤ first_room
unfolding unnamed_first
unnamed_few named xs few = let less = filter_few (λ e. not (named e)) xs in omega arith

filled_few : (entries : List FirstEntry) (e : FirstEntry) → length (first_filled entries e) ≤ first_room
unfolding first_filled
filled_few entries e = omega (arith, length-drop (length (without_first e entries ++ e ∷ []) - first_room) (without_first e entries ++ e ∷ []))

all_few : (entries found : List FirstEntry) → length entries ≤ first_room → length (all_filled entries found) ≤ first_room
unfolding all_filled
all_few entries [] few = few
all_few entries (e ∷ es) few = all_few (first_filled entries e) es (filled_few entries e)

-- no two have one key
pairs_tail : (x : FirstEntry) (xs : List FirstEntry) → AllPairs AreApart (x ∷ xs) → AllPairs AreApart xs
pairs_tail x xs pairs i j d before h = pairs (suc i) (suc j) d (omega arith) (omega (arith, h))

pairs_drop : (n : ℕ) (xs : List FirstEntry) → AllPairs AreApart xs → AllPairs AreApart (drop n xs)
pairs_drop zero xs pairs = pairs
pairs_drop (suc n) [] pairs = pairs
pairs_drop (suc n) (x ∷ xs) pairs = pairs_drop n xs (pairs_tail x xs pairs)

others : (e : FirstEntry) (xs : List FirstEntry) → All (λ x. AreApart x e) (without_first e xs)
others e xs = All-weaker (λ x. not (is_first_of e.tag e.atp e.page x) ≡ true) (λ x. AreApart x e) (λ x is. by (is_first_of e.tag e.atp e.page x) is)
    (without_first e xs) (filter_passes (λ x. not (is_first_of e.tag e.atp e.page x)) xs)
  where
    by : (b : Bool) → not b ≡ true → b ≡ false
    by true is = absurd cc
    by false is = refl

filled_apart : (entries : List FirstEntry) (e : FirstEntry) → AllPairs AreApart entries → AllPairs AreApart (first_filled entries e)
unfolding first_filled
filled_apart entries e pairs = pairs_drop (length (without_first e entries ++ e ∷ []) - first_room) (without_first e entries ++ e ∷ [])
    (all_pairs_push AreApart (without_first e entries) e (AllPairs-filter AreApart _ entries pairs)
    (λ k d inside. All-get_or (λ x. AreApart x e) (without_first e entries) k d inside (others e entries)))

all_apart : (entries found : List FirstEntry) → AllPairs AreApart entries → AllPairs AreApart (all_filled entries found)
unfolding all_filled
all_apart entries [] pairs = pairs
all_apart entries (e ∷ es) pairs = all_apart (first_filled entries e) es (filled_apart entries e pairs)

unnamed_apart : (named : FirstEntry → Bool) (xs : List FirstEntry) → AllPairs AreApart xs → AllPairs AreApart (unnamed_first named xs)
unfolding unnamed_first
unnamed_apart named xs pairs = AllPairs-filter AreApart _ xs pairs

-- each is what a table can give
small_address : (mode : SupervisorMode) (va : ℕ) → is_canonical (supervisor_shape mode) va ≡ true → va < 2 ^ 64
small_address Sv39 va is = let same = eqb-true (sign_extend 39 (field 0 39 va)) va is in rw (← same) (by (nat_lt (field 0 39 va) (2 ^ 38)) (field 0 39 va) (omega arith))
  where
    by : (b : Bool) (x : ℕ) → x < 2 ^ 39 → cond b x (x + (2 ^ 64 - 2 ^ 39)) < 2 ^ 64
    by true x small = omega arith
    by false x small = omega arith
small_address Sv48 va is = let same = eqb-true (sign_extend 48 (field 0 48 va)) va is in rw (← same) (by (nat_lt (field 0 48 va) (2 ^ 47)) (field 0 48 va) (omega arith))
  where
    by : (b : Bool) (x : ℕ) → x < 2 ^ 48 → cond b x (x + (2 ^ 64 - 2 ^ 48)) < 2 ^ 64
    by true x small = omega arith
    by false x small = omega arith

small_frame : (level frame va : ℕ) → level < 4 → frame < 2 ^ 44 → frame % 2 ^ (9 * level) ≡ 0 → (4096 * frame + va % 2 ^ (12 + 9 * level)) / 4096 < 2 ^ 44
small_frame zero frame va low small aligned = omega arith
small_frame (suc zero) frame va low small aligned = omega arith
small_frame (suc (suc zero)) frame va low small aligned = omega arith
small_frame (suc (suc (suc zero))) frame va low small aligned = omega arith
small_frame (suc (suc (suc (suc level)))) frame va low small aligned = absurd (omega arith)

sound_first : (reading : EntryReading) (mode : SupervisorMode) (page va : ℕ) (access : Access) (leaf : LeafPte) → walk reading page (supervisor_shape mode) va access ≡ end_at_leaf leaf
    → (va < 2 ^ 64) × IsSound (levels (supervisor_shape mode)) leaf
unfolding walk path end_of
sound_first reading mode page va access leaf is = by (is_canonical (supervisor_shape mode) va) refl is
  where
    shape : Shape
    shape = supervisor_shape mode

    by : (right : Bool) → is_canonical (supervisor_shape mode) va ≡ right → end_of access (cond right (path_from reading shape va access (levels shape) page) []) ≡ end_at_leaf leaf
        → (va < 2 ^ 64) × IsSound (levels shape) leaf
    by true canonical is = (small_address mode va canonical, sound_path (levels shape) reading shape va access leaf (levels shape) page (omega arith) is)
    by false canonical is = absurd cc

table_given : (tag : Tag) (va : ℕ) (e : FirstEntry) (reading : EntryReading) (mode : SupervisorMode) (asid ppn page : ℕ) (privilege : Privilege) (access : Access) (end : WalkEnd)
    → walk reading page (supervisor_shape mode) va access ≡ end → option_map (first_entry tag (root.Table mode asid ppn) va) (leaf_if privilege access end) ≡ Some e
    → IsOfFirstTable e
table_given tag va e reading mode asid ppn page privilege access (Leaf frame level r w x u) ends is = by (permits_first privilege access leaf) is
  where
    leaf : LeafPte
    leaf = leaf_with frame level r w x u

    both : (va < 2 ^ 64) × IsSound (levels (supervisor_shape mode)) leaf
    both = sound_first reading mode page va access leaf ends

    sound : IsSound (levels (supervisor_shape mode)) leaf
    sound = both.1

    by : (permits : Bool) → option_map (first_entry tag (root.Table mode asid ppn) va) (cond permits (Some leaf) None) ≡ Some e → IsOfFirstTable e
    by true is = let same : first_entry tag (root.Table mode asid ppn) va leaf ≡ e = cc in
        let low = sound.level in
        let few = few_levels (supervisor_shape mode) in
        let small = both.0 in
        rw (← same) (record {
          table = refl;
          page = omega (arith, small);
          frame = small_frame leaf.level leaf.frame va (omega (arith, low, few)) sound.frame (eqb-true (leaf.frame % 2 ^ (9 * leaf.level)) 0 sound.aligned);
          level = sound.level;
          right = sound.right;
          write = sound.write;
        })
    by false is = absurd cc
table_given tag va e reading mode asid ppn page privilege access PageFault ends is = absurd cc
table_given tag va e reading mode asid ppn page privilege access (FetchEnd place trap) ends is = absurd cc

walked_of_table : (virt : Virtual) (ram : List ℕ) (second : SecondStage) (e : FirstEntry) → IsFirstWalked virt ram second e → IsOfFirstTable e
unfolding entry_walked
walked_of_table virt ram second e found = by (supervisor_of virt.csrs virt.mode).atp found.walked
  where
    through : Mmu
    through = mmu nothing_known second (reading_of (ram_memory ram))

    privilege : Privilege
    privilege = privilege_of virt.csrs virt.mode

    by : (atp : SupervisorRoot) → option_map (first_entry (tag_of virt) atp found.va) (leaf_under through privilege found.va found.access atp) ≡ Some e → IsOfFirstTable e
    by root.Bare is = absurd cc
    by (root.Table mode asid ppn) is = table_given (tag_of virt) found.va e (entry_words_through second (reading_of (ram_memory ram))) mode asid ppn (ppn % 2 ^ 44) privilege found.access _ refl is

-- so a try keeps it, and a run
try_keeps : (m : Machine) → HasFirst m.platform.virt.first → HasFirst (left_after m).platform.virt.first
try_keeps m has = let stages = stages_of m in let found = found_by_try stages m in record {
  few = tried_keeps_list (λ first. length first ≤ first_room) unnamed_few m stages has.few (all_few m.platform.virt.first found has.few);
  apart = tried_keeps_list (AllPairs AreApart) unnamed_apart m stages has.apart (all_apart m.platform.virt.first found has.apart);
  tables = tried_keeps_first IsOfFirstTable m stages has.tables (found_if_ends IsOfFirstTable found (try_under stages m)
      (All-weaker (IsFirstWalked m.platform.virt m.ram stages.second) IsOfFirstTable (λ e walk. walked_of_table m.platform.virt m.ram stages.second e walk) found (tried_walked m stages)));
}

first_kept : IsKept (λ m. HasFirst m.platform.virt.first)
first_kept = record { filled = λ m e has lacks. has; tried = try_keeps }

pub first_stays : RunKeepsFirst
first_stays m n has = kept_by_runs (λ (t : Machine). HasFirst t.platform.virt.first) first_kept m n has

-- what they are for is what registers have, which can be stored
tag_storable : (mode : Mode) (hgatp : GuestRoot) → guest_root_of (hgatp_bits hgatp) ≡ hgatp → IsStorableTag (tag_for mode hgatp)
tag_storable HS hgatp is = tt
tag_storable U hgatp is = tt
tag_storable VS hgatp is = is
tag_storable VU hgatp is = is

atp_storable : (csrs : Csrs) (mode : Mode) → stored_form csrs ≡ csrs → AtpStored (supervisor_of csrs mode).atp
atp_storable csrs HS is = ap (λ (c : Csrs). c.hs.atp) is
atp_storable csrs U is = ap (λ (c : Csrs). c.hs.atp) is
atp_storable csrs VS is = ap (λ (c : Csrs). c.vs.atp) is
atp_storable csrs VU is = ap (λ (c : Csrs). c.vs.atp) is

walked_storable : (virt : Virtual) (ram : List ℕ) (second : SecondStage) (e : FirstEntry) → IsStorable virt → IsFirstWalked virt ram second e → IsStorableFirst e
unfolding entry_walked
walked_storable virt ram second e is found = by (leaf_under (mmu nothing_known second (reading_of (ram_memory ram))) (privilege_of virt.csrs virt.mode) found.va found.access atp) found.walked
  where
    atp : SupervisorRoot
    atp = (supervisor_of virt.csrs virt.mode).atp

    by : (leaf : Option LeafPte) → option_map (first_entry (tag_of virt) atp found.va) leaf ≡ Some e → IsStorableFirst e
    by (Some leaf) is_entry = let same : first_entry (tag_of virt) atp found.va leaf ≡ e = cc in
        rw (← same) (record { tag = tag_storable virt.mode virt.csrs.hgatp (ap (λ (c : Csrs). c.hgatp) is.csrs); atp = atp_storable virt.csrs virt.mode is.csrs })
    by None is_entry = absurd cc

try_keeps_storable : (m : Machine) → IsStorable m.platform.virt → AreStorable m.platform.virt.first → AreStorable (left_after m).platform.virt.first
try_keeps_storable m is all = let stages = stages_of m in let found = found_by_try stages m in
    tried_keeps_first IsStorableFirst m stages all (found_if_ends IsStorableFirst found (try_under stages m)
    (All-weaker (IsFirstWalked m.platform.virt m.ram stages.second) IsStorableFirst (λ e walk. walked_storable m.platform.virt m.ram stages.second e is walk) found (tried_walked m stages)))

storable_kept : IsKept (λ m. AreStorable m.platform.virt.first × IsStorable m.platform.virt)
storable_kept = record {
  filled = λ m e (all, is) lacks. (all, fill_stays_storable m e is);
  tried = λ m (all, is). (try_keeps_storable m is all, try_stays_storable m is);
}

pub first_stays_storable : RunKeepsFirstStorable
first_stays_storable m n is all = (kept_by_runs (λ (t : Machine). AreStorable t.platform.virt.first × IsStorable t.platform.virt) storable_kept m n (all, is)).0

pub start_has_first : StartHasFirst
unfolding start
start_has_first guest = (
  record { few = omega arith; apart = λ i j d before inside. absurd (omega (arith, inside)); tables = All-nil IsOfFirstTable },
  All-nil IsStorableFirst,
)
