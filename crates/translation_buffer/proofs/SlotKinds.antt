-- What is known of the slots of each kind of access.
use Rattle.std.proofs.Common.{◌≡◌, ℕ, ◌<◌, ◌⊎◌, inl, inr, List, length, get_or, set, replicate, subst, sym, arith}
use Rattle.std.specs.List.{All}
use Rattle.std.proofs.lemmas.List.{get_or-replicate, length-replicate}
use Rattle.std.proofs.lemmas.List.Elements.{All-set}
use Rattle.arch_defs.specs.declared.modes.Access.{Access}
use Rattle.arch_defs.specs.declared.modes.Access.TheVariants.{Fetch, Load, Store, ExecLoad, Implicit}
use Rattle.translation_buffer.specs.declared.slots.Slot.{Slot}
use Rattle.translation_buffer.specs.declared.slots.Slots.{Slots}
use Rattle.translation_buffer.specs.Tags.{AllUpTo, AreLeft, IsUpTo, slots_of}
use Rattle.translation_buffer.proofs.PageTags.{none_up_to}

pub each_kind : (P : Access → Slot → Type 0) (slots : Slots) → All (P Fetch) slots.fetches → All (P Load) slots.loads → All (P Store) slots.stores → (kind : Access) → All (P kind) (slots_of slots kind)
each_kind P slots fetches loads stores Fetch = fetches
each_kind P slots fetches loads stores Load = loads
each_kind P slots fetches loads stores Store = stores
each_kind P slots fetches loads stores ExecLoad = λ k d inside. absurd (omega (arith, inside))
each_kind P slots fetches loads stores Implicit = λ k d inside. absurd (omega (arith, inside))

-- the same slot throughout
pub all_alike : (P : Slot → Type 0) (slot : Slot) (n : ℕ) → P slot → All P (replicate n slot)
all_alike P slot n is k d inside = rw (get_or-replicate n k slot d (inside_of n k inside)) is
  where
    inside_of : (n k : ℕ) → k < length (replicate n slot) → k < n
    inside_of n k inside = rw (length-replicate n slot) at inside

-- one more
pub fetch_kept : (P : Access → Slot → Type 0) (slots : Slots) (at : ℕ) (slot : Slot) → P Fetch slot → ((kind : Access) → All (P kind) (slots_of slots kind))
    → (kind : Access) → All (P kind) (slots_of (record slots { fetches = set slots.fetches at slot }) kind)
fetch_kept P slots at slot is all = each_kind P (record slots { fetches = set slots.fetches at slot }) (All-set (P Fetch) slots.fetches at slot is (all Fetch)) (all Load) (all Store)

pub load_kept : (P : Access → Slot → Type 0) (slots : Slots) (at : ℕ) (slot : Slot) → P Load slot → ((kind : Access) → All (P kind) (slots_of slots kind))
    → (kind : Access) → All (P kind) (slots_of (record slots { loads = set slots.loads at slot }) kind)
load_kept P slots at slot is all = each_kind P (record slots { loads = set slots.loads at slot }) (all Fetch) (All-set (P Load) slots.loads at slot is (all Load)) (all Store)

pub store_kept : (P : Access → Slot → Type 0) (slots : Slots) (at : ℕ) (slot : Slot) → P Store slot → ((kind : Access) → All (P kind) (slots_of slots kind))
    → (kind : Access) → All (P kind) (slots_of (record slots { stores = set slots.stores at slot }) kind)
store_kept P slots at slot is all = each_kind P (record slots { stores = set slots.stores at slot }) (all Fetch) (all Load) (All-set (P Store) slots.stores at slot is (all Store))

-- what is left
all_left : (P : Slot → Type 0) → ((slot : Slot) → slot.tag ≡ 0 → P slot) → (old new : List Slot) → length new ≡ length old → AreLeft old new → All P old → All P new
all_left P none old new size left all k d inside = by (left k d)
  where
    by : (get_or new k d ≡ get_or old k d) ⊎ ((get_or new k d).tag ≡ 0) → P (get_or new k d)
    by (inl same) = subst P (sym same) (all k d (subst (λ n. k < n) size inside))
    by (inr gone) = none (get_or new k d) gone

pub kinds_left : (P : Access → Slot → Type 0) → ((kind : Access) (slot : Slot) → slot.tag ≡ 0 → P kind slot) → (old new : Slots)
    → length new.fetches ≡ length old.fetches → AreLeft old.fetches new.fetches → length new.loads ≡ length old.loads → AreLeft old.loads new.loads → length new.stores ≡ length old.stores → AreLeft old.stores new.stores
    → ((kind : Access) → All (P kind) (slots_of old kind)) → (kind : Access) → All (P kind) (slots_of new kind)
kinds_left P none old new fetches fetches_left loads loads_left stores stores_left all = each_kind P new
    (all_left (P Fetch) (none Fetch) old.fetches new.fetches fetches fetches_left (all Fetch))
    (all_left (P Load) (none Load) old.loads new.loads loads loads_left (all Load))
    (all_left (P Store) (none Store) old.stores new.stores stores stores_left (all Store))

-- those of no later run
pub alike_up_to : (slot : Slot) (n : ℕ) → slot.tag ≡ 0 → (run : ℕ) → All (IsUpTo run) (replicate n slot)
alike_up_to slot n none run = all_alike (IsUpTo run) slot n (none_up_to run slot none)

pub all_up_to : (run : ℕ) (slots : Slots) → All (IsUpTo run) slots.fetches → All (IsUpTo run) slots.loads → All (IsUpTo run) slots.stores → AllUpTo run slots
all_up_to run slots fetches loads stores = each_kind (λ kind. IsUpTo run) slots fetches loads stores
