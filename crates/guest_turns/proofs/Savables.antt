-- The machines of sources: each can be saved.
use Rattle.std.proofs.Common.{◌≡◌, ℕ, ◌*◌, ◌^◌, ◌-◌, ◌<◌, ◌≤◌, inl, inr, Bool, List, [], ◌∷◌, ◌++◌, length, get_or, map, replicate, refl, ap, ◌∙◌, arith}
use Rattle.std.specs.List.{All}
use Rattle.std.proofs.lemmas.List.{append-nil, get_or-map, length-map}
use Rattle.std.proofs.lemmas.List.Elements.{All-weaker}
use Rattle.arch_defs.specs.declared.cached.Entry.{Entry}
use Rattle.arch_defs.specs.declared.roots.GuestRoot.{GuestRoot}
use Rattle.arch_defs.specs.Memory.{block_size, loaded, zeros}
use Rattle.arch_defs.specs.Spaces.{Space}
use Rattle.frame_split.specs.Shares.{AreNeeds}
use Rattle.hosted_steps.specs.DevicePages.{CachesOwnDevice, IsOfDevice}
use Rattle.guest_save.specs.Headers.{blocks_of}
use Rattle.guest_save.specs.Savable.{IsInReach, IsSavable, IsSavableEntry, IsSavableSpace}
use Rattle.guest_save.proofs.GoingOn.{start_is_savable}
use Rattle.guest_settings.specs.declared.guests.GuestSpec.{GuestSpec}
use Rattle.guest_settings.specs.Needs.{IsNeed}
use Rattle.machine_defs.specs.Machine.{Machine, start}
use Rattle.guest_turns.specs.declared.sources.Source.{Source}
use Rattle.guest_turns.specs.declared.sources.Source.TheVariants.{Fresh, Kept}
use Rattle.guest_turns.specs.Limits.{needs_of}
use Rattle.machine_defs.specs.Bootable.{IsBootable}
use Rattle.guest_turns.specs.Sources.{IsBootableSource, machine_of_source, machines_of_sources, need_of_source, needs_of_sources}

pub savable : (source : Source) → IsBootableSource source → IsSavable (machine_of_source source)
savable (Fresh spec) is = start_is_savable spec is
savable (Kept name kept) is = is

-- a machine that can be saved caches the device page only where it has one
reach_of_device : (key : GuestRoot) (size : ℕ) (device : Bool) (e : Entry) → IsInReach size device e → IsOfDevice device key e
reach_of_device key size device e (inl ram) page = absurd (omega (arith, ram.0, page))
reach_of_device key size device e (inr has) page = has.0

entry_of_device : (key : GuestRoot) (size : ℕ) (device : Bool) (e : Entry) → IsSavableEntry key size device e → IsOfDevice device key e
entry_of_device key size device e is = reach_of_device key size device e is.frame

entries_of_device : (size room : ℕ) (device : Bool) (s : Space) → IsSavableSpace size room device s → All (IsOfDevice device s.key) s.entries
entries_of_device size room device s is =
    All-weaker (IsSavableEntry s.key size device) (IsOfDevice device s.key) (entry_of_device s.key size device) s.entries is.entries

pub of_own_device : (m : Machine) → IsSavable m → CachesOwnDevice m
of_own_device m is = All-weaker (IsSavableSpace (length m.ram) m.entry_room m.device) (λ (s : Space). All (IsOfDevice m.device s.key) s.entries)
    (entries_of_device (length m.ram) m.entry_room m.device) m.spaces is.spaces

-- what a guest needs is within the limits
pub is_need : (source : Source) → IsBootableSource source → IsNeed (need_of_source source)
is_need (Fresh spec) is = record { blocks = is.blocks; spaces = is.spaces; entries = is.entries }
is_need (Kept name kept) is = record { blocks = is.sizes.most_blocks; spaces = is.sizes.most_spaces; entries = is.sizes.most_entries }

pub are_needs : (sources : List Source) → All IsBootableSource sources → AreNeeds (needs_of_sources sources)
are_needs [] each i d h = absurd (omega (arith, h))
are_needs (source ∷ sources) each i d h =
    let inside : i < length (source ∷ sources) = rw (length-map (source ∷ sources) need_of_source) at h in
    rw (get_or-map need_of_source (source ∷ sources) i source d inside) (is_need (get_or (source ∷ sources) i source) (each i source inside))

-- and is what its machine has room for
pub space_room : (source : Source) → (machine_of_source source).space_room ≡ (need_of_source source).spaces
unfolding start
space_room (Fresh spec) = refl
space_room (Kept name kept) = refl

pub entry_room : (source : Source) → (machine_of_source source).entry_room ≡ (need_of_source source).entries
unfolding start
entry_room (Fresh spec) = refl
entry_room (Kept name kept) = refl

-- RAM of all bytes is loaded as it is
pub loaded_whole : (size : ℕ) (ram : List ℕ) → length ram ≡ size → loaded size ram ≡ ram
unfolding loaded zeros
loaded_whole size ram is =
    let none : size - length ram ≡ 0 = omega (arith, is) in
    ap (λ n. ram ++ replicate n 0) none ∙ append-nil ram

-- so the RAM of a saved machine is an image, and an image of a guest at its start is its RAM
pub kept_ram : (m : Machine) → IsSavable m → loaded (blocks_of m * block_size) m.ram ≡ m.ram
kept_ram m is = loaded_whole (blocks_of m * block_size) m.ram is.sizes.whole

pub kept_fits : (m : Machine) → IsSavable m → length m.ram ≤ blocks_of m * block_size
kept_fits m is = omega (arith, is.sizes.whole)

pub fresh_ram : (spec : GuestSpec) → loaded (spec.blocks * block_size) spec.image ≡ (start spec).ram
unfolding start
fresh_ram spec = refl

-- guests from what they are given
pub fresh_needs : (specs : List GuestSpec) → needs_of_sources (map Fresh specs) ≡ needs_of specs
fresh_needs [] = refl
fresh_needs (spec ∷ specs) = ap (λ needs. need_of_source (Fresh spec) ∷ needs) (fresh_needs specs)

pub fresh_machines : (specs : List GuestSpec) → machines_of_sources (map Fresh specs) ≡ map start specs
fresh_machines [] = refl
fresh_machines (spec ∷ specs) = ap (λ machines. start spec ∷ machines) (fresh_machines specs)

pub fresh_each : (specs : List GuestSpec) → All IsBootable specs → All IsBootableSource (map Fresh specs)
fresh_each [] each i d h = absurd (omega (arith, h))
fresh_each (spec ∷ specs) each i d h =
    let inside : i < length (spec ∷ specs) = rw (length-map (spec ∷ specs) Fresh) at h in
    rw (get_or-map Fresh (spec ∷ specs) i spec d inside) (each i spec inside)

-- no machine has made too many steps
pub steps_small : (sources : List Source) → All IsBootableSource sources → All (λ m. m.platform.steps ≤ 2 ^ 60) (machines_of_sources sources)
steps_small [] each i d h = absurd (omega (arith, h))
steps_small (source ∷ sources) each i d h =
    let inside : i < length (source ∷ sources) = rw (length-map (source ∷ sources) machine_of_source) at h in
    rw (get_or-map machine_of_source (source ∷ sources) i source d inside)
    (savable (get_or (source ∷ sources) i source) (each i source inside)).steps
