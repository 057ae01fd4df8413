-- Where nothing is cached, and after a fence, accesses of a free machine go by walks of RAM as it is.
use Rattle.std.specs.Prelude.{Contains, ◌&&◌}
use Rattle.std.specs.List.{All}
use Rattle.std.proofs.Common.{◌≡◌, ℕ, ◌/◌, ◌∙◌, ◌⊎◌, inl, inr, Bool, true, false, List, [], Option, Some, None, refl, sym, subst, ap, arith}
use Rattle.std.proofs.Math.Path.{fun_ext}
use Rattle.std.proofs.lemmas.Bool.{and_from, both_ways, eq-eqb, eqb-true}
use Rattle.std.proofs.lemmas.List.Elements.{All-contains, All-nil}
use Rattle.arch_defs.specs.declared.cached.Entry.{Entry}
use Rattle.arch_defs.specs.declared.cached.Fence.{Fence}
use Rattle.arch_defs.specs.declared.first.FirstEntry.{FirstEntry}
use Rattle.arch_defs.specs.declared.modes.Access.{Access}
use Rattle.arch_defs.specs.declared.registers.Csrs.{Csrs}
use Rattle.arch_defs.specs.declared.roots.GuestRoot.{GuestRoot}
use Rattle.arch_defs.specs.declared.roots.GuestRoot.TheVariants as root
use Rattle.arch_defs.specs.declared.registers.Virtual.{Virtual}
use Rattle.arch_defs.specs.Memory.{Known, ram_memory}
use Rattle.arch_defs.specs.SecondStage.{device_by_walk, second_by_walk}
use Rattle.arch_defs.specs.Spaces.{names, names_page, names_vmid}
use Rattle.arch_defs.specs.TableEntries.{span}
use Rattle.arch_defs.specs.Traps.{is_virtual}
use Rattle.arch_defs.specs.Roots.{is_table}
use Rattle.arch_defs.specs.WalkedEntries.{entry_by_table, entry_by_walk, folds}
use Rattle.machine_defs.specs.FreeMachines.{Answer, CachedTranslation, FreeMachine, FreeStep, IsByCache, IsByWalk, IsWalked, answer_by, is_named, left_under, uncached, while_active, without_buffer}
use Rattle.machine_defs.specs.Tries.{Stages, fence_under}
use Rattle.cache_laws.specs.Caching.{FencedByWalks, IsStepUnder, NothingIsKnown, UncachedByWalks, by_walks, names_address}
use Rattle.instruction_laws.proofs.FirstWalks.{nothing_by_none}
use Rattle.fill_laws.proofs.Ruling.{stages_same}
use Rattle.fill_laws.proofs.Walks.{fills_serve_the_device, fills_serve_the_page, now_page}

-- a walk that gives an entry is one of a table
walks_table : (device : Bool) (csrs : Csrs) (ram : List ℕ) (address : ℕ) (kind : Access) (e : Entry) → entry_by_walk device csrs ram address kind ≡ Some e → is_table csrs.hgatp ≡ true
unfolding entry_by_walk
walks_table device csrs ram address kind e is = by csrs.hgatp is
  where
    by : (hgatp : GuestRoot) → entry_by_table device csrs.hs.status.mxr ram address kind hgatp ≡ Some e → is_table hgatp ≡ true
    by root.Bare is = absurd cc
    by other is = refl

-- an answer by its parts
answer_is : (answer : Answer) (place : Option ℕ) (on : Bool) → answer.place ≡ place → answer.device ≡ on → answer ≡ record { place = place; device = on }
answer_is answer place on same_place same_device = rw (← same_place, ← same_device) refl

-- the answer of the walk of hgatp's table as RAM is
abbrev answer_now : Bool → Virtual → List ℕ → ℕ → Access → Answer
answer_now device virt ram address kind = record {
  place = second_by_walk virt.csrs virt.mode (ram_memory ram) address kind;
  device = device && device_by_walk virt.csrs virt.mode (ram_memory ram) address kind;
}

by_walk_is : (device : Bool) (virt : Virtual) (ram : List ℕ) (address : ℕ) (kind : Access) (answer : Answer) → IsByWalk device virt ram address kind answer
    → answer ≡ answer_now device virt ram address kind
by_walk_is device virt ram address kind answer now = answer_is answer _ _ now.place now.on_device

-- an answer by what is walked now is the walk's
walked_is_by_walk : (device : Bool) (virt : Virtual) (ram : List ℕ) (cache : List CachedTranslation) (address : ℕ) (kind : Access) (answer : Answer)
    → (by : IsByCache while_active device virt cache address kind answer) → IsWalked while_active device virt ram by.cached
    → answer ≡ answer_now device virt ram address kind
walked_is_by_walk device virt ram cache address kind answer by walk = let e = by.cached.entry in
    let folding : folds virt ≡ true = and_from (is_virtual virt.mode) (is_table virt.csrs.hgatp) by.serving
    (walks_table device virt.csrs ram walk.address walk.kind e walk.walked) in
    let same : address / 4096 ≡ walk.address / 4096 = sym by.page ∙ now_page device virt.csrs ram walk.address walk.kind e walk.walked in
    answer_is answer _ _ (by.place ∙ fills_serve_the_page device virt ram walk.address address walk.kind kind e folding walk.walked same)
    (by.on_device ∙ fills_serve_the_device device virt ram walk.address address walk.kind kind e folding walk.walked same)

-- the stages of these answers, where this is known of virtual addresses
abbrev stages_now : Bool → Virtual → List ℕ → Known → Stages
stages_now device virt ram known = record {
  known = known;
  second = λ address kind. (answer_now device virt ram address kind).place;
  device = λ address kind. (answer_now device virt ram address kind).device;
}

-- stages whose answers are those of others, and which know the same, are the others
stages_are : (stages : Stages) (device : Bool) (virt : Virtual) (ram : List ℕ)
    → ((address : ℕ) (kind : Access) → answer_by stages address kind ≡ answer_now device virt ram address kind)
    → stages ≡ stages_now device virt ram stages.known
stages_are stages device virt ram same = stages_same stages (stages_now device virt ram stages.known) refl
    (fun_ext (λ address. fun_ext (λ kind. ap (λ (answer : Answer). answer.place) (same address kind))))
    (fun_ext (λ address. fun_ext (λ kind. ap (λ (answer : Answer). answer.device) (same address kind))))

-- where all that is cached is what walks of RAM as it is give, each access goes by these
pub walked_steps : (f g : FreeMachine) (s : FreeStep while_active f g) → All (IsWalked while_active f.device f.platform.virt f.ram) f.cache → s.stages ≡ by_walks f s.stages.known
walked_steps f g s all = stages_are s.stages f.device virt f.ram (λ address kind. at address kind (s.translates.answers address kind))
  where
    virt : Virtual
    virt = f.platform.virt

    walked : (c : CachedTranslation) → Contains f.cache c ⊎ IsWalked while_active f.device virt f.ram c → IsWalked while_active f.device virt f.ram c
    walked c (inl held) = All-contains (IsWalked while_active f.device virt f.ram) f.cache c all held
    walked c (inr is) = is

    at : (address : ℕ) (kind : Access)
        → IsByCache while_active f.device virt s.cache address kind (answer_by s.stages address kind) ⊎ IsByWalk f.device virt f.ram address kind (answer_by s.stages address kind)
        → answer_by s.stages address kind ≡ answer_now f.device virt f.ram address kind
    at address kind (inl by) = walked_is_by_walk f.device virt f.ram s.cache address kind (answer_by s.stages address kind) by
        (walked by.cached (All-contains (λ c. Contains f.cache c ⊎ IsWalked while_active f.device virt f.ram c) s.cache by.cached s.allowed by.held))
    at address kind (inr now) = by_walk_is f.device virt f.ram address kind (answer_by s.stages address kind) now

-- and so where V = 0, whatever is cached
pub flat_steps : (f g : FreeMachine) (s : FreeStep while_active f g) → is_virtual f.platform.virt.mode ≡ false → s.stages ≡ by_walks f s.stages.known
flat_steps f g s flat = stages_are s.stages f.device virt f.ram (λ address kind. at address kind (s.translates.answers address kind))
  where
    virt : Virtual
    virt = f.platform.virt

    at : (address : ℕ) (kind : Access)
        → IsByCache while_active f.device virt s.cache address kind (answer_by s.stages address kind) ⊎ IsByWalk f.device virt f.ram address kind (answer_by s.stages address kind)
        → answer_by s.stages address kind ≡ answer_now f.device virt f.ram address kind
    at address kind (inl by) = absurd (both_ways (is_virtual virt.mode) flat by.serving)
    at address kind (inr now) = by_walk_is f.device virt f.ram address kind (answer_by s.stages address kind) now

-- a step under stages
pub steps_by : (f g : FreeMachine) (s : FreeStep while_active f g) (now : Stages) → s.stages ≡ now → IsStepUnder now f g
steps_by f g s now same = record {
  platform = s.platform ∙ ap (λ stages. without_buffer (left_under stages f).platform) same;
  ram = s.ram ∙ ap (λ stages. (left_under stages f).ram) same;
}

pub uncached_by_walks : UncachedByWalks
uncached_by_walks f g s none = steps_by f g s (by_walks f s.stages.known)
    (walked_steps f g s (subst (All (IsWalked while_active f.device f.platform.virt f.ram)) (sym none) (All-nil (IsWalked while_active f.device f.platform.virt f.ram))))

-- and where none of the first stage is cached, it knows nothing
pub nothing_is_known : NothingIsKnown
nothing_is_known f g s none = nothing_by_none f.platform.virt s.first s.stages.known s.translates.known
    (λ va access answer one. by one.entry (subst (λ first. Contains first one.entry) none one.held))
  where
    by : (e : FirstEntry) → Contains [] e → ⊥
    by e held = absurd (omega (arith, held.1))

-- a fence names each cached translation of its VMID for an address of its page
names_cached : (fence : Fence) (address vmid : ℕ) (e : Entry) → e.page ≡ address / 4096 → names_vmid fence.vmid vmid ≡ true → names_address fence.page address ≡ true
    → names fence vmid e ≡ true
names_cached fence address vmid e page of_vmid of_page = and_from (names_vmid fence.vmid vmid) (names_page fence.page e) of_vmid (by fence.page of_page)
  where
    by : (named : Option ℕ) → names_address named address ≡ true → names_page named e ≡ true
    by None is = refl
    by (Some named) is = let same : e.page ≡ named = page ∙ sym (eqb-true named (address / 4096) is) in
        rw same (eq-eqb (named / span e.level) (named / span e.level) refl)

pub fenced_by_walks : FencedByWalks
fenced_by_walks f g h before after fence address kind fences of_vmid of_page = at (after.translates.answers address kind)
  where
    virt : Virtual
    virt = g.platform.virt

    answer : Answer
    answer = answer_by after.stages address kind

    walked : (by : IsByCache while_active g.device virt after.cache address kind answer) → Contains g.cache by.cached ⊎ IsWalked while_active g.device virt g.ram by.cached
        → IsWalked while_active g.device virt g.ram by.cached
    walked by (inr is) = is
    walked by (inl held) =
        let unnamed : is_named (fence_under before.stages (uncached f)) by.cached.vmid by.cached.entry ≡ false =
        All-contains (λ c. is_named (fence_under before.stages (uncached f)) c.vmid c.entry ≡ false) g.cache by.cached before.fenced held in
        let named : names fence by.cached.vmid by.cached.entry ≡ true = names_cached fence address by.cached.vmid by.cached.entry by.page
        (ap (names_vmid fence.vmid) by.vmid ∙ of_vmid) of_page in
        absurd (both_ways (names fence by.cached.vmid by.cached.entry) (sym (ap (λ o. is_named o by.cached.vmid by.cached.entry) fences) ∙ unnamed) named)

    at : IsByCache while_active g.device virt after.cache address kind answer ⊎ IsByWalk g.device virt g.ram address kind answer
        → answer ≡ answer_now g.device virt g.ram address kind
    at (inl by) = walked_is_by_walk g.device virt g.ram after.cache address kind answer by
        (walked by (All-contains (λ c. Contains g.cache c ⊎ IsWalked while_active g.device virt g.ram c) after.cache by.cached after.allowed by.held))
    at (inr now) = by_walk_is g.device virt g.ram address kind answer now
