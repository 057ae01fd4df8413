-- A place stays while the frames are the same that were read for it.
use Rattle.std.proofs.Common.{cond, ◌≡◌, ℕ, zero, suc, ◌+◌, ◌-◌, ◌*◌, ◌/◌, ◌%◌, ◌<◌, ◌≤◌, ◌∙◌, Bool, true, false, List, [], Option, Some, None, refl, ap, sym, arith}
use Rattle.std.specs.Prelude.{find, length}
use Rattle.arch_defs.specs.declared.first.FirstEntry.{FirstEntry}
use Rattle.arch_defs.specs.declared.first.Tag.{Tag}
use Rattle.arch_defs.specs.declared.modes.Access.{Access}
use Rattle.arch_defs.specs.declared.roots.GuestRoot.{GuestRoot}
use Rattle.arch_defs.specs.declared.roots.GuestRoot.TheVariants as guest
use Rattle.arch_defs.specs.declared.roots.SupervisorRoot.{SupervisorRoot}
use Rattle.arch_defs.specs.declared.roots.SupervisorRoot.TheVariants as supervisor
use Rattle.arch_defs.specs.declared.walks.Next.{Next}
use Rattle.arch_defs.specs.declared.walks.Next.TheVariants.{Ends, Below}
use Rattle.arch_defs.specs.declared.walks.Privilege.{Privilege}
use Rattle.arch_defs.specs.declared.walks.Shape.{Shape}
use Rattle.arch_defs.specs.declared.walks.WalkEnd.{WalkEnd}
use Rattle.arch_defs.specs.declared.walks.WalkEnd.TheVariants.{Leaf, PageFault, FetchEnd}
use Rattle.arch_defs.specs.FirstEntries.{first_leaf, is_first_of, known_by, known_under}
use Rattle.arch_defs.specs.Frames.{Frames, Same}
use Rattle.arch_defs.specs.Memory.{load, machine_memory}
use Rattle.arch_defs.specs.Permits.{permits_first}
use Rattle.arch_defs.specs.Roots.{guest_shape}
use Rattle.arch_defs.specs.SecondStage.{guest_root_frame, memory_words, place_under, second_end, second_under, second_walk, walked}
use Rattle.arch_defs.specs.Walk.{EntryReading, index, is_canonical, later, leaf_address, levels, met_in, next_of, path, path_from, place_of, walk}
use Rattle.arch_defs.proofs.FrameSets.{load_kept}
use Rattle.arch_defs.proofs.SamePages.{eighth}
use Rattle.stage_walk.specs.Laws.{SameOn}
use Rattle.stage_walk.specs.Reads.{Each, LiesIn}
use Rattle.stage_walk.proofs.Chains.{walks_alike}
use Rattle.two_stage_walk.specs.Reads.{SecondReads}
use Rattle.translation_buffer.specs.Laws.{TranslationsStay}
use Rattle.translation_buffer.specs.Places.{passed_under, passed_by, placed_at, second_in, translated_place}
use Rattle.translation_buffer.proofs.OnePage.{same_some, second_near}

-- readings that agree where something holds of a multiple of 8 agree on entries of which it holds
same_from : (holds : ℕ → Type 0) (reading other : EntryReading) → ((at : ℕ) → at % 8 ≡ 0 → holds at → other at ≡ reading at) → (shape : Shape) (va : ℕ) (access : Access) (level table : ℕ)
    → Each holds (path_from reading shape va access level table) → SameOn other (path_from reading shape va access level table)
unfolding path_from
same_from holds reading other agree shape va access zero table each = tt
same_from holds reading other agree shape va access (suc level) table (here, after) = (
  agree (place_of shape level table va) (eighth table (index shape level va)) here,
  by (same_from holds reading other agree shape va access level) (next_of access (met_in reading shape va level table)) after,
)
  where
    by : ((below : ℕ) → Each holds (path_from reading shape va access level below) → SameOn other (path_from reading shape va access level below)) → (next : Next)
        → Each holds (later (path_from reading shape va access level) next) → SameOn other (later (path_from reading shape va access level) next)
    by below_too (Ends end) each = tt
    by below_too (Below below) each = below_too below each

same_on : (holds : ℕ → Type 0) (reading other : EntryReading) → ((at : ℕ) → at % 8 ≡ 0 → holds at → other at ≡ reading at) → (root : ℕ) (shape : Shape) (va : ℕ) (access : Access)
    → Each holds (path reading root shape va access) → SameOn other (path reading root shape va access)
unfolding path
same_on holds reading other agree root shape va access = by (is_canonical shape va)
  where
    by : (right : Bool) → Each holds (cond right (path_from reading shape va access (levels shape) root) []) → SameOn other (cond right (path_from reading shape va access (levels shape) root) [])
    by true each = same_from holds reading other agree shape va access (levels shape) root each
    by false each = tt

walk_kept : (holds : ℕ → Type 0) (reading other : EntryReading) → ((at : ℕ) → at % 8 ≡ 0 → holds at → other at ≡ reading at) → (root : ℕ) (shape : Shape) (va : ℕ) (access : Access)
    → Each holds (path reading root shape va access) → walk other root shape va access ≡ walk reading root shape va access
walk_kept holds reading other agree root shape va access each = walks_alike reading other root shape va access (same_on holds reading other agree root shape va access each)

-- words of memory
one_frame : (at place : ℕ) → at % 8 ≡ 0 → at ≤ place → place < at + 8 → place / 4096 ≡ at / 4096
one_frame at place aligned from to = omega (arith, aligned, from, to)

number_kept : (frames : Frames) (memory other : List ℕ) (at : ℕ) → Same frames memory other → at % 8 ≡ 0 → LiesIn frames at → load other at 8 ≡ load memory at 8
number_kept frames memory other at same aligned inside =
    load_kept frames memory other at 8 same (λ place from to. ap frames (one_frame at place aligned from to) ∙ inside)

no_base : (at : ℕ) → at - 0 ≡ at
no_base at = omega arith

word_kept : (frames : Frames) (memory other : List ℕ) (at : ℕ) → Same frames memory other → at % 8 ≡ 0 → LiesIn frames at → memory_words (machine_memory other) at ≡ memory_words (machine_memory memory) at
word_kept frames memory other at same aligned inside = rw (no_base at, same.size, number_kept frames memory other at same aligned inside) refl

-- the second stage
end_kept : (memory other : List ℕ) (mxr : Bool) (address : ℕ) (kind : Access) (end : WalkEnd) → length other ≡ length memory
    → second_end (machine_memory other) mxr address kind end ≡ second_end (machine_memory memory) mxr address kind end
end_kept memory other mxr address kind (Leaf frame level r w x u) size = rw size refl
end_kept memory other mxr address kind PageFault size = refl
end_kept memory other mxr address kind (FetchEnd place trap) size = refl

walked_kept : (frames : Frames) (memory other : List ℕ) (mxr : Bool) (shape : Shape) (ppn address : ℕ) (kind : Access) → Same frames memory other
    → Each (LiesIn frames) (path (memory_words (machine_memory memory)) (guest_root_frame ppn) shape address kind)
    → walked (machine_memory other) mxr shape ppn address kind ≡ walked (machine_memory memory) mxr shape ppn address kind
unfolding second_walk
walked_kept frames memory other mxr shape ppn address kind same reads = ap (place_under address)
    (ap (second_end (machine_memory other) mxr address kind) (walk_kept (LiesIn frames) (memory_words (machine_memory memory)) (memory_words (machine_memory other))
    (λ at aligned inside. word_kept frames memory other at same aligned inside) (guest_root_frame ppn) shape address kind reads)
    ∙ end_kept memory other mxr address kind (walk (memory_words (machine_memory memory)) (guest_root_frame ppn) shape address kind) same.size)

pub second_kept : (frames : Frames) (memory other : List ℕ) (mxr : Bool) (root : GuestRoot) (address : ℕ) (kind : Access) → Same frames memory other
    → SecondReads frames (machine_memory memory) address kind root → second_under (machine_memory other) mxr root address kind ≡ second_under (machine_memory memory) mxr root address kind
second_kept frames memory other mxr guest.Bare address kind same reads = rw same.size refl
second_kept frames memory other mxr (guest.Table mode vmid ppn) address kind same reads = walked_kept frames memory other mxr (guest_shape mode) ppn address kind same reads

-- a place is at the offset of its address
offset_near : (a place : ℕ) → Some (4096 * (place / 4096) + a % 4096) ≡ Some place → place % 4096 ≡ a % 4096
offset_near a place is = let same : 4096 * (place / 4096) + a % 4096 ≡ place = cc in omega (arith, same)

pub second_keeps : (memory : List ℕ) (mxr : Bool) (root : GuestRoot) (address place : ℕ) (kind : Access) → length memory % 4096 ≡ 0
    → second_under (machine_memory memory) mxr root address kind ≡ Some place → place % 4096 ≡ address % 4096
second_keeps memory mxr root address place kind size is = offset_near address place (sym (second_near memory mxr root address address place kind size refl is) ∙ is)

-- the address that is passed on for another one of the page
bare_passed : (near va : ℕ) → near / 4096 ≡ va / 4096 → near ≡ 4096 * (va / 4096) + near % 4096
bare_passed near va one = omega (arith, one)

own_page : (frame va near : ℕ) → 4096 * frame + near % 4096 ≡ 4096 * ((4096 * frame + va % 4096) / 4096) + near % 4096
own_page frame va near = omega arith

known_near : (who : Privilege) (va near address : ℕ) (access : Access) (e : Option FirstEntry) → known_by who va access e ≡ Some address
    → known_by who near access e ≡ Some (4096 * (address / 4096) + near % 4096)
known_near who va near address access None is = absurd cc
known_near who va near address access (Some e) is = by (permits_first who access (first_leaf e)) is
  where
    by : (fit : Bool) → cond fit (Some (leaf_address (first_leaf e) va)) None ≡ Some address
        → cond fit (Some (leaf_address (first_leaf e) near)) None ≡ Some (4096 * (address / 4096) + near % 4096)
    by true is = ap Some (own_page e.frame va near ∙ ap (λ n. 4096 * (n / 4096) + near % 4096) (same_some (leaf_address (first_leaf e) va) address is))
    by false is = absurd cc

pub passed_near : (first : List FirstEntry) (owner : Tag) (who : Privilege) (va near address : ℕ) (access : Access) (atp : SupervisorRoot) → near / 4096 ≡ va / 4096
    → passed_by first owner who atp va access ≡ Some address → passed_by first owner who atp near access ≡ Some (4096 * (address / 4096) + near % 4096)
unfolding known_under
passed_near first owner who va near address access supervisor.Bare one is =
    ap Some (bare_passed near va one ∙ ap (λ n. 4096 * (n / 4096) + near % 4096) (same_some va address is))
passed_near first owner who va near address access (supervisor.Table mode asid ppn) one is =
    rw one (known_near who va near address access (find (is_first_of owner (supervisor.Table mode asid ppn) (va / 4096)) first) is)

pub none_passed : {P : Type 0} (address : ℕ) → None ≡ Some address → P
none_passed address is = absurd cc

-- the law: first at the other address, and then in the other memory
same_offset : (near address : ℕ) → (4096 * (address / 4096) + near % 4096) / 4096 ≡ address / 4096
same_offset near address = omega arith

own_offset : (near address place : ℕ) → 4096 * (place / 4096) + (4096 * (address / 4096) + near % 4096) % 4096 ≡ 4096 * (place / 4096) + near % 4096
own_offset near address place = omega arith

pub translations_stay : TranslationsStay
translations_stay frames under who memory other va near place access size reads is same one =
    by (passed_under under who va access) refl is
  where
    by : (found : Option ℕ) → passed_under under who va access ≡ found → placed_at (second_in under.context memory) access found ≡ Some place
        → translated_place under who other near access ≡ Some (4096 * (place / 4096) + near % 4096)
    by (Some address) at placed =
        let whole : length other % 4096 ≡ 0 = rw same.size size in
        let then' : second_in under.context other address access ≡ Some place = second_kept frames memory other under.context.mxr under.context.second address access same (reads address at) ∙ placed in
        ap (placed_at (second_in under.context other) access) (passed_near under.first under.owner who va near address access under.context.first one at)
        ∙ second_near other under.context.mxr under.context.second (4096 * (address / 4096) + near % 4096) address place access whole (same_offset near address) then'
        ∙ ap Some (own_offset near address place)
    by None at placed = absurd cc
