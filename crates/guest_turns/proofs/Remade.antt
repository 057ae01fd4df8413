-- The spaces of a saved machine, made again.
use Rattle.std.proofs.Common.{◌≡◌, ◌≢◌, ℕ, ◌+◌, ◌-◌, ◌==◌, ◌<◌, ◌≤◌, ◌⊎◌, inl, inr, true, false, not, List, [], ◌∷◌, ◌++◌, None, length, get_or, take, drop, refl, ap, sym, subst, ◌∙◌, arith, length-take-le}
use Rattle.std.specs.List.{All, AllPairs, filter, find}
use Rattle.std.proofs.lemmas.Bool.Decides.{eqb_tells}
use Rattle.std.proofs.lemmas.List.{drop_more, get_or_default, get_or-drop, get_or-take, length-drop, length_push, take_all, take_more}
use Rattle.std.proofs.lemmas.List.Elements.{All-head, All-tail}
use Rattle.arch_defs.specs.declared.first.FirstEntry.{FirstEntry}
use Rattle.arch_defs.specs.FirstEntries.{first_filled, first_room, is_first_of, without_first}
use Rattle.run_laws.specs.FirstKeys.{HasFirst}
use Rattle.arch_defs.specs.declared.cached.Entry.{Entry}
use Rattle.arch_defs.specs.declared.roots.GuestRoot.{GuestRoot}
use Rattle.arch_defs.specs.CachedEntries.{HasOtherPage, filled, without}
use Rattle.arch_defs.specs.Spaces.{Space, entered, is_for}
use Rattle.arch_defs.proofs.FrameSets.{only_both, only_none}
use Rattle.arch_defs.specs.Frames.{Only}
use Rattle.guest_save.specs.Savable.{HasOtherKey}
use Rattle.machine_defs.specs.Fills.{filled_front}
use Rattle.machine_defs.specs.Machine.{Machine}
use Rattle.shadow_pool.specs.Slots.{KeepsPool, Pooled, pool_frames, room_of, table_frames_for}
use Rattle.guest_turns.specs.Remaking.{FitsPool, partly}

-- a value of hgatp that no space is for is entered in front of them
none_for : (key : GuestRoot) (spaces : List Space) → All (λ s. is_for key s ≡ false) spaces
    → (find (is_for key) spaces ≡ None) × (filter (λ s. not (is_for key s)) spaces ≡ spaces)
none_for key [] none = (refl, refl)
none_for key (s ∷ spaces) none =
    let first = All-head (λ s. is_for key s ≡ false) s spaces none in
    let rest = none_for key spaces (All-tail (λ s. is_for key s ≡ false) s spaces none) in
    (rw first rest.0, rw first (ap (λ xs. s ∷ xs) rest.1))

entered_before : (room : ℕ) (key : GuestRoot) (others : List Space) → length others < room → All (λ s. is_for key s ≡ false) others
    → entered room key others ≡ record { key = key; entries = [] } ∷ others
unfolding entered
entered_before room key others few none =
    let found = none_for key others none in
    rw (found.0, found.1) (take_all room (record { key = key; entries = [] } ∷ others) (omega (arith, few)))

-- so it is with a space's own value, where the spaces behind it are there
behind : (i : ℕ) (spaces : List Space) (d : Space) → i < length spaces → AllPairs HasOtherKey spaces
    → All (λ s. is_for (get_or spaces i d).key s ≡ false) (drop (i + 1) spaces)
behind i spaces d inside keys j e h =
    let later : i + 1 + j < length spaces = omega (arith, h, length-drop (i + 1) spaces, inside) in
    let same = get_or_default spaces i d e inside in
    rw (get_or-drop (i + 1) spaces j e, same) (keys i (i + 1 + j) e (omega arith) later)

pub enters_before : (room i : ℕ) (spaces : List Space) (d : Space) → length spaces ≤ room → i < length spaces → AllPairs HasOtherKey spaces
    → entered room (get_or spaces i d).key (drop (i + 1) spaces) ≡ partly 0 (get_or spaces i d) (drop (i + 1) spaces)
enters_before room i spaces d few inside keys =
    entered_before room (get_or spaces i d).key (drop (i + 1) spaces) (omega (arith, few, inside, length-drop (i + 1) spaces)) (behind i spaces d inside keys)

-- entries of other pages stay
differs : (a b : ℕ) → a ≢ b → (a == b) ≡ false
differs a b other = by (eqb_tells a b)
  where
    by : (((a == b) ≡ true) × (a ≡ b)) ⊎ (((a == b) ≡ false) × (a ≢ b)) → (a == b) ≡ false
    by (inl (is, same)) = absurd (other same)
    by (inr (is, apart)) = is

without_none : (page : ℕ) (entries : List Entry) → All (λ e. e.page ≢ page) entries → without page entries ≡ entries
without_none page [] none = refl
without_none page (e ∷ entries) none =
    let first = differs e.page page (All-head (λ e. e.page ≢ page) e entries none) in
    rw first (ap (λ xs. e ∷ xs) (without_none page entries (All-tail (λ e. e.page ≢ page) e entries none)))

-- so one entry more is filled behind those before it
filled_next : (most k : ℕ) (entries : List Entry) (d : Entry) → length entries ≤ most → k < length entries → AllPairs HasOtherPage entries
    → filled most (take k entries) (get_or entries k d) ≡ take (k + 1) entries
unfolding filled
filled_next most k entries d few inside pages =
    let e = get_or entries k d in
    let before = length-take-le k entries (omega (arith, inside)) in
    let others = without_none e.page (take k entries) (λ j c h.
    let early : j < k = omega (arith, h, before) in
    let same = get_or_default entries k d c inside in
    rw (get_or-take k entries j c early, same) (pages j k c early inside)) in
    let none : length (take k entries ++ e ∷ []) - most ≡ 0 = omega (arith, length_push (take k entries) e, before, few, inside) in
    rw (others, none) (sym (take_more entries k d inside))

pub fills_next : (most k : ℕ) (s : Space) (others : List Space) (d : Entry) → length s.entries ≤ most → k < length s.entries → AllPairs HasOtherPage s.entries
    → filled_front most (partly k s others) (get_or s.entries k d) ≡ partly (k + 1) s others
fills_next most k s others d few inside pages =
    ap (λ entries. record s { entries = entries } ∷ others) (filled_next most k s.entries d few inside pages)

-- and after its last the space is there
pub fills_whole : (i : ℕ) (spaces : List Space) (d : Space) → i < length spaces
    → partly (length (get_or spaces i d).entries) (get_or spaces i d) (drop (i + 1) spaces) ≡ drop i spaces
fills_whole i spaces d inside =
    let s = get_or spaces i d in
    ap (λ entries. record s { entries = entries } ∷ drop (i + 1) spaces) (take_all (length s.entries) s.entries (omega arith))
    ∙ sym (drop_more spaces i d inside)

-- a first-stage translation of another page than those before it is filled behind them
none_taken_out : (e : FirstEntry) (entries : List FirstEntry) → All (λ x. is_first_of e.tag e.atp e.page x ≡ false) entries → without_first e entries ≡ entries
none_taken_out e [] none = refl
none_taken_out e (x ∷ xs) none =
    let first = All-head (λ x. is_first_of e.tag e.atp e.page x ≡ false) x xs none in
    rw first (ap (λ xs. x ∷ xs) (none_taken_out e xs (All-tail (λ x. is_first_of e.tag e.atp e.page x ≡ false) x xs none)))

pub first_next : (k : ℕ) (entries : List FirstEntry) (d : FirstEntry) → HasFirst entries → k < length entries
    → first_filled (take k entries) (get_or entries k d) ≡ take (k + 1) entries
unfolding first_filled
first_next k entries d has inside =
    let e = get_or entries k d in
    let before = length-take-le k entries (omega (arith, inside)) in
    let others = none_taken_out e (take k entries) (λ j c h.
    let early : j < k = omega (arith, h, before) in
    let same = get_or_default entries k d c inside in
    rw (get_or-take k entries j c early, same) (has.apart j k c early inside)) in
    let none : length (take k entries ++ e ∷ []) - first_room ≡ 0 = omega (arith, length_push (take k entries) e, before, has.few, inside) in
    rw (others, none) (sym (take_more entries k d inside))

-- what calls on a pool keep, one after the other
pub keeps_none : (pool : Pooled) (memory : List ℕ) → KeepsPool pool memory pool memory
keeps_none pool memory = record { part = refl; most = refl; room = refl; only = only_none (pool_frames pool) memory }

pub keeps_both : (old between new : Pooled) (memory changed last : List ℕ) → KeepsPool old memory between changed → KeepsPool between changed new last
    → KeepsPool old memory new last
keeps_both old between new memory changed last first second = record {
  part = second.part ∙ first.part;
  most = second.most ∙ first.most;
  room = second.room ∙ first.room;
  only = only_both (pool_frames old) memory changed last first.only (subst (λ frames. Only frames changed last) same second.only);
}
  where
    same : pool_frames between ≡ pool_frames old
    same = ap (λ part. table_frames_for part (room_of between)) first.part ∙ ap (table_frames_for old.part) first.room

pub fits_after : (m : Machine) (old new : Pooled) (memory changed : List ℕ) → FitsPool m old → KeepsPool old memory new changed → FitsPool m new
fits_after m old new memory changed fits keeps = record {
  blocks = ap (λ part. length part.blocks) keeps.part ∙ fits.blocks;
  spaces = keeps.room ∙ fits.spaces;
  entries = keeps.most ∙ fits.entries;
}
