-- What a state lacks under entries of now: only the pages that it asks for, and none that has an entry of now.
use Rattle.std.proofs.Common.{◌≡◌, ℕ, suc, ◌+◌, ◌/◌, ◌≤◌, ◌∙◌, inl, inr, Bool, true, false, List, [], ◌∷◌, length, Some, None, refl, ap, sym, arith}
use Rattle.std.specs.Prelude.{◌==◌}
use Rattle.std.specs.List.{All}
use Rattle.std.proofs.lemmas.Bool.{and_from, both_ways}
use Rattle.arch_defs.specs.declared.cached.Entry.{Entry}
use Rattle.arch_defs.specs.declared.modes.Access.{Access}
use Rattle.arch_defs.specs.declared.registers.Csrs.{Csrs}
use Rattle.arch_defs.specs.declared.registers.Virtual.{Virtual}
use Rattle.arch_defs.specs.Memory.{Known, SecondStage, mmu, ram_memory, reading_of}
use Rattle.arch_defs.specs.Permits.{permits_second}
use Rattle.arch_defs.specs.Walk.{leaf_address}
use Rattle.arch_defs.specs.CachedEntries.{device_by, device_by_entries, entry_at, is_device, leaf_of, place_by, second_by}
use Rattle.arch_defs.specs.WalkedEntries.{entry_by_walk}
use Rattle.machine_defs.specs.Fills.{missing_entry_under, needed}
use Rattle.instruction_laws.proofs.Asking.{In, IsWithin, asked, few_asked, stops}
use Rattle.instruction_laws.proofs.Cached.{all_found, place_given, placed, stopped}
use Rattle.fill_laws.proofs.Counting.{Counts, enough, filling, found_page}
use Rattle.fill_laws.proofs.Walks.{now_for, now_one, now_page, now_permits, now_same}

-- an entry of now
pub record IsFresh (device : Bool) (csrs : Csrs) (ram : List ℕ) (e : Entry) : Type 0 where
  pub address : ℕ
  pub kind : Access
  pub found : entry_by_walk device csrs ram address kind ≡ Some e

-- it is that of each access to its page that it permits
fresh_for : (device : Bool) (csrs : Csrs) (ram : List ℕ) (e : Entry) → IsFresh device csrs ram e → (address : ℕ) (kind : Access) → e.page ≡ address / 4096
    → permits_second csrs.hs.status.mxr kind (leaf_of e) ≡ true → entry_by_walk device csrs ram address kind ≡ Some e
fresh_for device csrs ram e fresh address kind page permits =
    let same : address / 4096 ≡ fresh.address / 4096 = sym page ∙ now_page device csrs ram fresh.address fresh.kind e fresh.found in
    now_same device csrs ram address fresh.address kind same ∙ now_for device csrs ram fresh.address fresh.kind kind e fresh.found permits

-- the second stage by the entries of now
pub second_by_walk : Bool → Csrs → List ℕ → SecondStage
second_by_walk device csrs ram address kind = place_by csrs.hs.status.mxr address kind (entry_by_walk device csrs ram address kind)

-- a second stage by fresh entries alone lies within it
fresh_within : (device : Bool) (csrs : Csrs) (ram : List ℕ) (entries : List Entry) → All (IsFresh device csrs ram) entries
    → IsWithin (second_by entries csrs.hs.status.mxr) (second_by_walk device csrs ram)
unfolding second_by second_by_walk
fresh_within device csrs ram entries fresh = record {
  gives = λ address place kind is.
      let held = placed csrs.hs.status.mxr address place kind (entry_at (address / 4096) entries) is in
      let one = all_found (IsFresh device csrs ram) (λ x. x.page == address / 4096) entries held.0 fresh held.1 in
      let now : entry_by_walk device csrs ram address kind ≡ Some held.0 =
      fresh_for device csrs ram held.0 one address kind (found_page (address / 4096) entries held.0 held.1) held.2 in
      ap (place_by csrs.hs.status.mxr address kind) (now ∙ sym held.1) ∙ is;
}

-- the pages of addresses
pub pages_of : List ℕ → List ℕ
pages_of [] = []
pages_of (address ∷ addresses) = address / 4096 ∷ pages_of addresses

in_pages : (address : ℕ) (addresses : List ℕ) → In address addresses → In (address / 4096) (pages_of addresses)
unfolding pages_of
in_pages address [] is = is
in_pages address (a ∷ addresses) (inl e) = inl (ap (λ n. n / 4096) e)
in_pages address (a ∷ addresses) (inr is) = inr (in_pages address addresses is)

pages_few : (addresses : List ℕ) → length (pages_of addresses) ≡ length addresses
unfolding pages_of
pages_few [] = refl
pages_few (a ∷ addresses) = ap suc (pages_few addresses)

within_itself : (second : SecondStage) → IsWithin second second
within_itself second = record { gives = λ address place kind is. is }

-- an access to a page that has a fresh entry has a place or is on the device page, if an entry of now permits it
has_place : (device : Bool) (csrs : Csrs) (ram : List ℕ) (entries : List Entry) (address : ℕ) (kind : Access) (e held : Entry)
    → entry_by_walk device csrs ram address kind ≡ Some e → entry_at (address / 4096) entries ≡ Some held → IsFresh device csrs ram held
    → second_by entries csrs.hs.status.mxr address kind ≡ None → device_by_entries entries csrs.hs.status.mxr address kind ≡ false → ⊥
unfolding second_by device_by_entries
has_place device csrs ram entries address kind e held now there fresh none off = by (is_device held) refl
  where
    mxr : Bool
    mxr = csrs.hs.status.mxr

    permits : permits_second mxr kind (leaf_of held) ≡ true
    permits =
        let page : held.page ≡ address / 4096 = found_page (address / 4096) entries held there in
        let same : address / 4096 ≡ fresh.address / 4096 = sym page ∙ now_page device csrs ram fresh.address fresh.kind held fresh.found in
        let here : entry_by_walk device csrs ram address fresh.kind ≡ Some held = now_same device csrs ram address fresh.address fresh.kind same ∙ fresh.found in
        let one : e ≡ held = now_one device csrs ram address kind fresh.kind e held now here in
        rw (← one) (now_permits device csrs ram address kind e now)

    by : (b : Bool) → is_device held ≡ b → ⊥
    by true on = both_ways (device_by mxr kind (Some held)) (sym (ap (device_by mxr kind) there) ∙ off)
        (and_from (permits_second mxr kind (leaf_of held)) (is_device held) permits on)
    by false elsewhere =
        let never : Some (leaf_address (leaf_of held) address) ≡ None =
        sym (ap (place_by mxr address kind) there ∙ place_given mxr address kind held permits elsewhere) ∙ none in
        absurd cc

pub counts : (device : Bool) (known : Known) (virt : Virtual) (ram : List ℕ)
    → Counts (IsFresh device virt.csrs ram) (missing_entry_under device known virt ram)
    (pages_of (asked (mmu known (second_by_walk device virt.csrs ram) (reading_of (ram_memory ram))) virt))
unfolding missing_entry_under
counts device known virt ram = record {
  missing = λ entries e held is there fresh.
      let by = second_by entries virt.csrs.hs.status.mxr in
      let at = stopped device virt.csrs ram entries _ e is in
      let u = at.missing in
      let page : e.page ≡ u.address / 4096 = now_page device virt.csrs ram u.address u.kind e at.walked in
      let none = (stops by by (within_itself by) known (reading_of (ram_memory ram)) virt u at.wanted at.ends).none in
      has_place device virt.csrs ram entries u.address u.kind e held at.walked (rw page at there) fresh none at.off;
  fresh = λ entries e is.
      let at = stopped device virt.csrs ram entries _ e is in record { address = at.missing.address; kind = at.missing.kind; found = at.walked };
  few = λ entries e fresh is.
      let at = stopped device virt.csrs ram entries _ e is in
      let u = at.missing in
      let page : e.page ≡ u.address / 4096 = now_page device virt.csrs ram u.address u.kind e at.walked in
      let among = (stops (second_by entries virt.csrs.hs.status.mxr) (second_by_walk device virt.csrs ram) (fresh_within device virt.csrs ram entries fresh)
      known (reading_of (ram_memory ram)) virt u at.wanted at.ends).inside in
      rw page (in_pages u.address _ among);
}

-- that many fills suffice for the list of a state
pub list_suffices : (device : Bool) (known : Known) (virt : Virtual) (ram : List ℕ) (most : ℕ) (entries : List Entry) → needed ≤ most
    → missing_entry_under device known virt ram (filling (missing_entry_under device known virt ram) most (most + needed) entries) ≡ None
list_suffices device known virt ram most entries room =
    let addresses = asked (mmu known (second_by_walk device virt.csrs ram) (reading_of (ram_memory ram))) virt in
    let few : length (pages_of addresses) ≤ needed =
    omega (arith, pages_few addresses, few_asked (mmu known (second_by_walk device virt.csrs ram) (reading_of (ram_memory ram))) virt) in
    enough (counts device known virt ram) most needed few room (omega arith) entries
