-- Places by cached entries, and what the walk of hgatp's table gives to be cached.
use Rattle.std.specs.Prelude.{not, ◌&&◌, ◌||◌, find}
use Rattle.std.specs.List.{All}
use Rattle.std.proofs.Common.{cond, ◌≡◌, ℕ, ◌⊎◌, inl, inr, ⊎_elim, Bool, true, false, List, [], ◌∷◌, Option, Some, None, refl, ap}
use Rattle.std.proofs.lemmas.Bool.{and_from}
use Rattle.std.proofs.lemmas.List.Elements.{All-head, All-tail}
use Rattle.arch_defs.specs.declared.cached.Entry.{Entry}
use Rattle.arch_defs.specs.declared.second_walks.SecondWalkEnd.TheVariants.{GuestPageFault, AccessFault}
use Rattle.arch_defs.specs.declared.second_walks.SecondWalkEnd.TheVariants as guest
use Rattle.arch_defs.specs.declared.modes.Access.{Access}
use Rattle.arch_defs.specs.declared.registers.Csrs.{Csrs}
use Rattle.arch_defs.specs.declared.walks.LeafPte.{LeafPte}
use Rattle.arch_defs.specs.declared.walks.Shape.{Shape}
use Rattle.arch_defs.specs.declared.walks.MissingPlace.{MissingPlace}
use Rattle.arch_defs.specs.declared.walks.WalkEnd.{WalkEnd}
use Rattle.arch_defs.specs.declared.walks.WalkEnd.TheVariants.{Leaf, PageFault, FetchEnd}
use Rattle.arch_defs.specs.CachedEntries.{device_by_entries, is_device, leaf_of, place_by}
use Rattle.arch_defs.specs.Devices.{is_on_device}
use Rattle.arch_defs.specs.Interrupts.{due}
use Rattle.arch_defs.specs.Memory.{ram_memory}
use Rattle.arch_defs.specs.Spaces.{Space}
use Rattle.arch_defs.specs.Permits.{permits_second}
use Rattle.arch_defs.specs.SecondStage.{guest_root_frame, has_frame_of, memory_words, second_end, second_walk}
use Rattle.arch_defs.specs.TableEntries.{end_at_leaf, leaf_with}
use Rattle.arch_defs.specs.Walk.{leaf_address, walk}
use Rattle.arch_defs.specs.WalkedEntries.{entry_by_end, entry_by_walk, entry_under, folds}
use Rattle.op_defs.specs.declared.ops.DataAccess.{DataAccess}
use Rattle.machine_defs.specs.Fills.{missing_entry, missing_entry_at, missing_entry_under, missing_entry_with}
use Rattle.machine_defs.specs.FirstLeaves.{known_of, tag_of}
use Rattle.machine_defs.specs.Machine.{Machine}
use Rattle.machine_defs.specs.Outcomes.{Outcome, Done, Trapped, Missed, Called, Waits, Fenced, FirstFenced, Accesses}

-- what holds of both holds of either
pub either : {A : Type 0} (P : A → Type 0) (b : Bool) (x y : A) → P x → P y → P (cond b x y)
either P true x y of_x of_y = of_x
either P false x y of_x of_y = of_y

-- what holds of each element holds of one that is found
moved : {X : Type 0} (P : X → Type 0) (x y : X) → x ≡ y → P x → P y
moved P x y same held = rw (← same) held

found_first : {X : Type 0} (b : Bool) (x y : X) (others : Option X) → cond b (Some x) others ≡ Some y → (x ≡ y) ⊎ (others ≡ Some y)
found_first true x y others is = let one : x ≡ y = cc in inl one
found_first false x y others is = inr is

pub all_found : {X : Type 0} (P : X → Type 0) (test : X → Bool) (xs : List X) (x : X) → All P xs → find test xs ≡ Some x → P x
all_found P test [] x all is = absurd cc
all_found P test (y ∷ xs) x all is = ⊎_elim (λ (here : y ≡ x). moved P y x here (All-head P y xs all))
    (λ (later : find test xs ≡ Some x). all_found P test xs x (All-tail P y xs all) later) (found_first (test y) y x (find test xs) is)

-- a place by an entry is one by an entry that permits the access and is not of the device page
pub placed : (mxr : Bool) (address place : ℕ) (kind : Access) (there : Option Entry) → place_by mxr address kind there ≡ Some place
    → (e : Entry) × (there ≡ Some e) × (permits_second mxr kind (leaf_of e) ≡ true) × (is_device e ≡ false)
placed mxr address place kind None is = absurd cc
placed mxr address place kind (Some e) is = by (permits_second mxr kind (leaf_of e)) (is_device e) refl refl is
  where
    by : (permits device : Bool) → permits_second mxr kind (leaf_of e) ≡ permits → is_device e ≡ device
        → cond (permits && not device) (Some (leaf_address (leaf_of e) address)) None ≡ Some place
        → (e' : Entry) × (Some e ≡ Some e') × (permits_second mxr kind (leaf_of e') ≡ true) × (is_device e' ≡ false)
    by true false permits off is = (e, refl, permits, off)
    by true true permits on is = absurd cc
    by false device permits off is = absurd cc

-- such an entry gives the place under its leaf
pub place_given : (mxr : Bool) (address : ℕ) (kind : Access) (e : Entry) → permits_second mxr kind (leaf_of e) ≡ true → is_device e ≡ false
    → place_by mxr address kind (Some e) ≡ Some (leaf_address (leaf_of e) address)
place_given mxr address kind e permits off = ap (λ b. cond b (Some (leaf_address (leaf_of e) address)) None)
    (and_from (permits_second mxr kind (leaf_of e)) (not (is_device e)) permits (ap not off))

-- what a state lacks, it stops at, and no entry has that on the device page
pub record IsStopped (device : Bool) (csrs : Csrs) (ram : List ℕ) (entries : List Entry) (o : Outcome) (e : Entry) : Type 0 where
  pub missing : MissingPlace
  pub wanted : Option DataAccess
  pub ends : o ≡ Missed missing wanted
  pub off : device_by_entries entries csrs.hs.status.mxr missing.address missing.kind ≡ false
  pub walked : entry_by_walk device csrs ram missing.address missing.kind ≡ Some e

pub stopped : (device : Bool) (csrs : Csrs) (ram : List ℕ) (entries : List Entry) (o : Outcome) (e : Entry) → missing_entry_at device csrs ram entries o ≡ Some e
    → IsStopped device csrs ram entries o e
stopped device csrs ram entries (Missed u wanted) e is = by (device_by_entries entries csrs.hs.status.mxr u.address u.kind) refl is
  where
    by : (on : Bool) → device_by_entries entries csrs.hs.status.mxr u.address u.kind ≡ on → cond on None (entry_by_walk device csrs ram u.address u.kind) ≡ Some e
        → IsStopped device csrs ram entries (Missed u wanted) e
    by false off is = record { missing = u; wanted = wanted; ends = refl; off = off; walked = is }
    by true on is = absurd cc
stopped device csrs ram entries (Done state stored event) e is = absurd cc
stopped device csrs ram entries (Trapped trap) e is = absurd cc
stopped device csrs ram entries Called e is = absurd cc
stopped device csrs ram entries (Waits state) e is = absurd cc
stopped device csrs ram entries (Fenced state fence) e is = absurd cc
stopped device csrs ram entries (FirstFenced state named fence) e is = absurd cc
stopped device csrs ram entries (Accesses wanted) e is = absurd cc

-- what a machine lacks is what a walk gives, and it folds
pub lacked : (m : Machine) (e : Entry) → missing_entry m ≡ Some e
    → (folds m.platform.virt ≡ true) × ((u : MissingPlace) × (entry_by_walk m.device m.platform.virt.csrs m.ram u.address u.kind ≡ Some e))
unfolding missing_entry missing_entry_under
lacked m e is = by (folds m.platform.virt) refl m.spaces (due m.platform.virt.csrs m.platform.virt.mode) is
  where
    by : (b : Bool) → folds m.platform.virt ≡ b → (spaces : List Space) (code : Option ℕ)
        → cond b (missing_entry_with m.device (known_of m.platform.virt.first (tag_of m.platform.virt) m.platform.virt) m.platform.virt m.ram spaces code) None ≡ Some e
        → (folds m.platform.virt ≡ true) × ((u : MissingPlace) × (entry_by_walk m.device m.platform.virt.csrs m.ram u.address u.kind ≡ Some e))
    by true folding (s ∷ ss) None is = let at = stopped m.device m.platform.virt.csrs m.ram s.entries _ e is in (folding, (at.missing, at.walked))
    by true folding (s ∷ ss) (Some code) is = absurd cc
    by true folding [] code is = absurd cc
    by false flat spaces code is = absurd cc

-- whether a place is one that an entry can be filled for: in RAM, or on the device page of a machine that has it
abbrev pub serves : Bool → List ℕ → ℕ → Bool
serves device ram place = has_frame_of (ram_memory ram) place || (device && is_on_device place)

-- what an entry of now comes from
pub record IsGiven (device mxr : Bool) (ram : List ℕ) (shape : Shape) (ppn address : ℕ) (kind : Access) (e : Entry) (leaf : LeafPte) : Type 0 where
  pub walked : walk (memory_words (ram_memory ram)) (guest_root_frame ppn) shape address kind ≡ end_at_leaf leaf
  pub permits : permits_second mxr kind leaf ≡ true
  pub inside : serves device ram (leaf_address leaf address) ≡ true
  pub is : e ≡ entry_under leaf address

pub given : (device mxr : Bool) (ram : List ℕ) (shape : Shape) (ppn address : ℕ) (kind : Access) (e : Entry)
    → entry_by_end device address (second_walk (ram_memory ram) mxr shape ppn address kind) ≡ Some e
    → (leaf : LeafPte) × IsGiven device mxr ram shape ppn address kind e leaf
unfolding second_walk
given device mxr ram shape ppn address kind e is = by (walk (memory_words (ram_memory ram)) (guest_root_frame ppn) shape address kind) refl is
  where
    found : (leaf : LeafPte) (has inside on : Bool)
        → entry_by_end has address (cond inside (guest.Leaf leaf) (cond on (guest.Device leaf) AccessFault)) ≡ Some e
        → ((inside || (has && on)) ≡ true) × (e ≡ entry_under leaf address)
    found leaf has true on is = let same : e ≡ entry_under leaf address = cc in (refl, same)
    found leaf true false true is = let same : e ≡ entry_under leaf address = cc in (refl, same)
    found leaf false false true is = absurd cc
    found leaf has false false is = absurd cc

    at : (leaf : LeafPte) (permits : Bool) → permits_second mxr kind leaf ≡ permits
        → walk (memory_words (ram_memory ram)) (guest_root_frame ppn) shape address kind ≡ end_at_leaf leaf
        → entry_by_end device address (cond (not permits) GuestPageFault (cond (has_frame_of (ram_memory ram) (leaf_address leaf address)) (guest.Leaf leaf)
        (cond (is_on_device (leaf_address leaf address)) (guest.Device leaf) AccessFault))) ≡ Some e
        → (leaf : LeafPte) × IsGiven device mxr ram shape ppn address kind e leaf
    at leaf true permitted ends is =
        let both = found leaf device (has_frame_of (ram_memory ram) (leaf_address leaf address)) (is_on_device (leaf_address leaf address)) is in
        (leaf, record { walked = ends; permits = permitted; inside = both.0; is = both.1 })
    at leaf false permitted ends is = absurd cc

    by : (end : WalkEnd) → walk (memory_words (ram_memory ram)) (guest_root_frame ppn) shape address kind ≡ end
        → entry_by_end device address (second_end (ram_memory ram) mxr address kind end) ≡ Some e
        → (leaf : LeafPte) × IsGiven device mxr ram shape ppn address kind e leaf
    by (Leaf frame level r w x u) ends is = let leaf = leaf_with frame level r w x u in at leaf (permits_second mxr kind leaf) refl ends is
    by PageFault ends is = absurd cc
    by (FetchEnd place trap) ends is = absurd cc
