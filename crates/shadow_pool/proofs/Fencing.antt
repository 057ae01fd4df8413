-- Entries after a fence.
use Rattle.std.proofs.Common.{◌≡◌, ℕ, true, false, Bool, not, ◌&&◌, List, [], ◌∷◌, Option, Some, None, refl, sym, ap, subst, ◌∙◌}
use Rattle.std.specs.List.{filter}
use Rattle.std.specs.Option.{option_map}
use Rattle.arch_defs.specs.declared.cached.Entry.{Entry}
use Rattle.arch_defs.specs.declared.cached.Fence.{Fence}
use Rattle.arch_defs.specs.declared.roots.GuestRoot.{GuestRoot}
use Rattle.arch_defs.specs.CachedEntries.{cut_by}
use Rattle.shadow_pool.specs.declared.slots.Slot.{Slot}
use Rattle.shadow_pool.specs.Slots.{space_if, space_of}
use Rattle.arch_defs.specs.Roots.{vmid_of}
use Rattle.arch_defs.specs.Spaces.{fenced_space, names_page, names_vmid, unnamed_by}

-- a filter by what is the same for all entries
none_named : (page : Option ℕ) (es : List Entry) → filter (λ e. not (false && names_page page e)) es ≡ es
none_named page [] = refl
none_named page (e ∷ es) = ap (λ xs. e ∷ xs) (none_named page es)

all_named : (es : List Entry) → filter (λ e. not (true && names_page None e)) es ≡ []
all_named [] = refl
all_named (e ∷ es) = all_named es

-- the entries that are left, by whether the VMID is named
abbrev left_if : Bool → Option ℕ → List Entry → List Entry
left_if named page es = filter (λ e. not (named && names_page page e)) es

other_vmid : (fence : Fence) (key : GuestRoot) (es : List Entry) → names_vmid fence.vmid (vmid_of key) ≡ false → unnamed_by fence (vmid_of key) es ≡ es
other_vmid fence key es is = ap (λ named. left_if named fence.page es) is ∙ none_named fence.page es

every_page : (fence : Fence) (key : GuestRoot) (es : List Entry) → names_vmid fence.vmid (vmid_of key) ≡ true → fence.page ≡ None → unnamed_by fence (vmid_of key) es ≡ []
every_page fence key es is page = ap (λ named. left_if named fence.page es) is ∙ ap (λ page. left_if true page es) page ∙ all_named es

one_page : (fence : Fence) (key : GuestRoot) (es : List Entry) (page : ℕ) → names_vmid fence.vmid (vmid_of key) ≡ true → fence.page ≡ Some page → unnamed_by fence (vmid_of key) es ≡ cut_by page es
unfolding cut_by
one_page fence key es page is named = ap (λ named. left_if named fence.page es) is ∙ ap (λ page. left_if true page es) named

-- the space of a table after a fence
fenced_to : (fence : Fence) (o : Option GuestRoot) (key : GuestRoot) (es after : List Entry) → o ≡ Some key → unnamed_by fence (vmid_of key) es ≡ after
    → space_if o after ≡ option_map (fenced_space fence) (space_if o es)
fenced_to fence o key es after is left =
    subst (λ o. space_if o after ≡ option_map (fenced_space fence) (space_if o es)) (sym is) (ap (λ es. Some (record { key = key; entries = es })) (sym left))

-- of another VMID, of one whose space is wiped, and of one whose space is cut
pub unnamed : (fence : Fence) (slot : Slot) (key : GuestRoot) (vmid : ℕ) (named : Bool) → slot.key ≡ Some key → vmid ≡ vmid_of key → named ≡ names_vmid fence.vmid vmid → named ≡ false
    → space_of slot ≡ option_map (fenced_space fence) (space_of slot)
unnamed fence slot key vmid named is same has not_named =
    fenced_to fence slot.key key slot.space.entries slot.space.entries is (other_vmid fence key slot.space.entries (ap (names_vmid fence.vmid) (sym same) ∙ sym has ∙ not_named))

pub wiped : (fence : Fence) (slot : Slot) (key : GuestRoot) (vmid : ℕ) (named : Bool) (after : List Entry) → slot.key ≡ Some key → vmid ≡ vmid_of key → named ≡ names_vmid fence.vmid vmid → named ≡ true → fence.page ≡ None
    → after ≡ [] → space_if slot.key after ≡ option_map (fenced_space fence) (space_of slot)
wiped fence slot key vmid named after is same has is_named page entries =
    fenced_to fence slot.key key slot.space.entries after is (every_page fence key slot.space.entries (ap (names_vmid fence.vmid) (sym same) ∙ sym has ∙ is_named) page ∙ sym entries)

pub cut : (fence : Fence) (slot : Slot) (key : GuestRoot) (vmid : ℕ) (named : Bool) (after : List Entry) (page : ℕ) → slot.key ≡ Some key → vmid ≡ vmid_of key → named ≡ names_vmid fence.vmid vmid → named ≡ true → fence.page ≡ Some page
    → after ≡ cut_by page slot.space.entries → space_if slot.key after ≡ option_map (fenced_space fence) (space_of slot)
cut fence slot key vmid named after page is same has is_named names entries =
    fenced_to fence slot.key key slot.space.entries after is (one_page fence key slot.space.entries page (ap (names_vmid fence.vmid) (sym same) ∙ sym has ∙ is_named) names ∙ sym entries)
