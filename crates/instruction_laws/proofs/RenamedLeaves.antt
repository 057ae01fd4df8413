-- The first-stage translations that one instruction finds, under a renaming of places.
use Rattle.std.specs.Prelude.{◌==◌, option_map}
use Rattle.std.proofs.Common.{cond, ◌≡◌, ℕ, ◌%◌, ◌^◌, ◌∙◌, [], ◌++◌, Option, Some, None, refl, ap}
use Rattle.arch_defs.specs.declared.first.Tag.{Tag}
use Rattle.arch_defs.specs.declared.modes.Access.{Access}
use Rattle.arch_defs.specs.declared.modes.Access.TheVariants.{Fetch}
use Rattle.arch_defs.specs.declared.registers.Virtual.{Virtual}
use Rattle.arch_defs.specs.declared.roots.SupervisorRoot.{SupervisorRoot}
use Rattle.arch_defs.specs.declared.roots.SupervisorRoot.TheVariants as root
use Rattle.arch_defs.specs.declared.walks.Privilege.{Privilege}
use Rattle.arch_defs.specs.declared.widths.Width.{Width}
use Rattle.arch_defs.specs.declared.widths.Width.TheVariants.{Word}
use Rattle.arch_defs.specs.FirstEntries.{first_entry}
use Rattle.arch_defs.specs.Memory.{Known, Reading, SecondStage, mmu}
use Rattle.arch_defs.specs.Roots.{supervisor_shape}
use Rattle.arch_defs.specs.Translation.{entry_words_through, privilege_of, supervisor_of}
use Rattle.arch_defs.specs.Widths.{bytes_in}
use Rattle.op_defs.specs.declared.ops.Effect.{Effect}
use Rattle.op_defs.specs.declared.ops.Effect.TheVariants.{Sets, Raises, Data, Calls, Privileged}
use Rattle.op_defs.specs.declared.ops.Op.{Op}
use Rattle.op_defs.specs.Meaning.{meaning}
use Rattle.op_defs.specs.Table.{op_of}
use Rattle.machine_defs.specs.Core.{At, Fails, Located, fetch_place, kind_of, word_at}
use Rattle.machine_defs.specs.FirstLeaves.{entry_walked, found_at, found_by_effect, found_by_op, found_for, leaf_if, leaf_under, leaves_found, unless_known}
use Rattle.instruction_laws.specs.Renaming.{IsRenamed, Places, RenamedLeaves, renamed}
use Rattle.instruction_laws.proofs.AlikeWalks.{walks_alike}
use Rattle.instruction_laws.proofs.Placed.{LocatedAlike, accessed_alike, entries_alike}

-- the leaf of an access, and its translation
leaf_alike : {h : ℕ → ℕ} {held : Places} {own : SecondStage} {reading : Reading} {host : SecondStage} {other : Reading}
    → IsRenamed h held own reading host other → (known : Known) (privilege : Privilege) (va : ℕ) (access : Access) (atp : SupervisorRoot)
    → leaf_under (mmu known host other) privilege va access atp ≡ leaf_under (mmu known own reading) privilege va access atp
leaf_alike r known privilege va access root.Bare = refl
leaf_alike {own = own} {reading = reading} {host = host} {other = other} r known privilege va access (root.Table table asid ppn) =
    ap (leaf_if privilege access)
    (walks_alike (entry_words_through own reading) (entry_words_through host other) (entries_alike r) (ppn % 2 ^ 44) (supervisor_shape table) va access)

entry_alike : {h : ℕ → ℕ} {held : Places} {own : SecondStage} {reading : Reading} {host : SecondStage} {other : Reading}
    → IsRenamed h held own reading host other → (tag : Tag) (known : Known) (s : Virtual) (va : ℕ) (access : Access)
    → entry_walked tag (mmu known host other) (renamed h s) va access ≡ entry_walked tag (mmu known own reading) s va access
unfolding entry_walked
entry_alike r tag known s va access = let atp = (supervisor_of s.csrs s.mode).atp in
    ap (option_map (first_entry tag atp va)) (leaf_alike r known (privilege_of s.csrs s.mode) va access atp)

-- what an access finds
access_alike : {h : ℕ → ℕ} {held : Places} {own : SecondStage} {reading : Reading} {host : SecondStage} {other : Reading}
    → IsRenamed h held own reading host other → (tag : Tag) (known : Known) (s : Virtual) (va : ℕ) (width : Width) (access : Access)
    → found_for tag (mmu known host other) (renamed h s) va width access ≡ found_for tag (mmu known own reading) s va width access
access_alike r tag known s va width access =
    ap (λ e. cond (va % bytes_in width == 0) (unless_known (known va access) e) []) (entry_alike r tag known s va access)

effect_alike : {h : ℕ → ℕ} {held : Places} {own : SecondStage} {reading : Reading} {host : SecondStage} {other : Reading}
    → IsRenamed h held own reading host other → (tag : Tag) (known : Known) (s : Virtual) (effect : Effect)
    → found_by_effect tag (mmu known host other) (renamed h s) effect ≡ found_by_effect tag (mmu known own reading) s effect
effect_alike r tag known s (Sets rd value next) = refl
effect_alike r tag known s (Raises cause tval) = refl
effect_alike r tag known s (Data wanted) = access_alike r tag known s wanted.address wanted.width (kind_of wanted.purpose)
effect_alike r tag known s Calls = refl
effect_alike r tag known s (Privileged effect) = refl

op_alike : {h : ℕ → ℕ} {held : Places} {own : SecondStage} {reading : Reading} {host : SecondStage} {other : Reading}
    → IsRenamed h held own reading host other → (tag : Tag) (known : Known) (s : Virtual) (o : Option Op)
    → found_by_op tag (mmu known host other) (renamed h s) o ≡ found_by_op tag (mmu known own reading) s o
op_alike r tag known s (Some o) = effect_alike r tag known s (meaning o s.regs)
op_alike r tag known s None = refl

at_alike : {h : ℕ → ℕ} {held : Places} {own : SecondStage} {reading : Reading} {host : SecondStage} {other : Reading}
    → IsRenamed h held own reading host other → (tag : Tag) (known : Known) (s : Virtual) (a b : Located) → LocatedAlike h held 4 a b
    → found_at tag (mmu known host other) (renamed h s) b ≡ found_at tag (mmu known own reading) s a
at_alike {reading = reading} r tag known s (At place) b (e, in_set, fits) =
    rw e (rw (r.same place 4 in_set fits) (op_alike r tag known s (op_of (word_at reading place))))
at_alike r tag known s (Fails failure) b e = rw e refl

-- and all that the instruction finds
pub renamed_leaves : RenamedLeaves
unfolding leaves_found
renamed_leaves h held tag known own reading host other s keeps r =
    ap (λ front. front ++ found_at tag (mmu known host other) (renamed h s) (fetch_place (mmu known host other) (renamed h s))) (access_alike r tag known s s.regs.pc Word Fetch)
    ∙ ap (λ behind. found_for tag (mmu known own reading) s s.regs.pc Word Fetch ++ behind)
    (at_alike r tag known s (fetch_place (mmu known own reading) s) (fetch_place (mmu known host other) (renamed h s))
    (accessed_alike r known keeps s.csrs s.mode s.regs.pc Word Fetch))
