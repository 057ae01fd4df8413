-- Items without a fault have words, and no fault is out of memory.
use Rattle.std.proofs.Common.{◌≡◌, ℕ, ◌+◌, Bool, true, false, if◌then◌else◌, List, [], ◌∷◌, Option, Some, None, refl}
use Rattle.std.specs.Option.{option_or}
use Rattle.op_defs.specs.declared.ops.Op.{Op}
use Rattle.rv64_asm.specs.declared.faults.AsmFault.{AsmFault}
use Rattle.rv64_asm.specs.declared.faults.AsmFault.TheVariants.{NoMemory}
use Rattle.rv64_asm.specs.Fitting.{fits}
use Rattle.rv64_asm.specs.Plans.{Item, Label, distance, fault_at, fault_of_target, first_item_fault, index_of, item_fault, reaching, with_offset}

-- where a test is what keeps a fault away, it holds
holds_unless : (test : Bool) (fault : AsmFault) → (if test then None else Some fault) ≡ None → test ≡ true
holds_unless true fault e = refl
holds_unless false fault e = cc

pub reaching_fits : (index id : ℕ) (o : Op) (to : Option ℕ) → fault_at index o id to ≡ None → fits (reaching index o to) ≡ true
reaching_fits index id o None e = cc
reaching_fits index id o (Some to) e =
    holds_unless (fits (with_offset (distance index to) o)) _ e

-- out of memory is not a fault of an item

offset_wants_none : (test : Bool) (fault : AsmFault) → (fault ≡ NoMemory → ⊥) → (if test then None else Some fault) ≡ Some NoMemory → ⊥
offset_wants_none true fault h e = cc
offset_wants_none false fault h e = h cc

at_wants_none : (index id : ℕ) (o : Op) (to : Option ℕ) → fault_at index o id to ≡ Some NoMemory → ⊥
at_wants_none index id o None e = cc
at_wants_none index id o (Some to) e = offset_wants_none (fits (with_offset (distance index to) o)) _ (λ f. cc) e

target_wants_none : (labels : List Label) (index : ℕ) (o : Op) (target : Option ℕ) → fault_of_target labels index o target ≡ Some NoMemory → ⊥
target_wants_none labels index o None e = cc
target_wants_none labels index o (Some id) e = at_wants_none index id o (index_of labels id) e

either_wants_none : (here rest : Option AsmFault) → (here ≡ Some NoMemory → ⊥) → (rest ≡ Some NoMemory → ⊥) → option_or here rest ≡ Some NoMemory → ⊥
either_wants_none None rest h k e = k e
either_wants_none (Some fault) rest h k e = h e

pub wants_none : (labels : List Label) (index : ℕ) (items : List Item) → first_item_fault labels index items ≡ Some NoMemory → ⊥
unfolding first_item_fault item_fault
wants_none labels index [] e = cc
wants_none labels index (item ∷ items) e =
    either_wants_none (item_fault labels index item) (first_item_fault labels (index + 1) items)
    (target_wants_none labels index item.op item.target) (wants_none labels (index + 1) items) e
