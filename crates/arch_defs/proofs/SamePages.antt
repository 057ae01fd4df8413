-- The addresses of one page have one walk, and one frame under a leaf.
use Rattle.std.proofs.Common.{cond, ◌≡◌, ℕ, zero, suc, ◌+◌, ◌*◌, ◌/◌, ◌%◌, ◌^◌, ◌∙◌, Bool, true, false, [], ◌∷◌, refl, ap, sym, arith}
use Rattle.std.proofs.lemmas.Nat.{mod-pow-add, pow-add}
use Rattle.std.proofs.Math.Nat.{div-div-eq-div-mul}
use Rattle.arch_defs.specs.declared.modes.Access.{Access}
use Rattle.arch_defs.specs.declared.walks.LeafPte.{LeafPte}
use Rattle.arch_defs.specs.declared.walks.Next.{Next}
use Rattle.arch_defs.specs.declared.walks.Next.TheVariants.{Ends, Below}
use Rattle.arch_defs.specs.declared.walks.Shape.{Shape}
use Rattle.arch_defs.specs.Walk.{EntryReading, end_of, index, index_bits, is_canonical, later, leaf_address, levels, met_in, next_of, path, path_from, walk}
use Rattle.arch_defs.proofs.Shapes.{canonical_same}

pub index_same : (shape : Shape) (level a b : ℕ) → a / 4096 ≡ b / 4096 → index shape level a ≡ index shape level b
index_same shape level a b same = ap (λ n. n % 2 ^ index_bits shape level) (split a ∙ ap (λ n. n / 2 ^ (9 * level)) same ∙ sym (split b))
  where
    split : (n : ℕ) → n / 2 ^ (12 + 9 * level) ≡ n / 4096 / 2 ^ (9 * level)
    split n = rw (pow-add 2 12 (9 * level)) (sym (div-div-eq-div-mul n 4096 (2 ^ (9 * level))))

pub paths_same : (reading : EntryReading) (shape : Shape) (kind : Access) (a b : ℕ) → a / 4096 ≡ b / 4096 → (level table : ℕ)
    → path_from reading shape a kind level table ≡ path_from reading shape b kind level table
unfolding path_from
paths_same reading shape kind a b same zero table = refl
paths_same reading shape kind a b same (suc level) table = rw (index_same shape level a b same)
    (ap (λ ms. met_in reading shape b level table ∷ ms) (by (next_of kind (met_in reading shape b level table)) (λ t. paths_same reading shape kind a b same level t)))
  where
    by : (next : Next) → ((t : ℕ) → path_from reading shape a kind level t ≡ path_from reading shape b kind level t)
        → later (path_from reading shape a kind level) next ≡ later (path_from reading shape b kind level) next
    by (Ends end) deeper = refl
    by (Below t) deeper = deeper t

pub walks_same : (reading : EntryReading) (shape : Shape) (ppn : ℕ) (kind : Access) (a b : ℕ) → a / 4096 ≡ b / 4096 → walk reading ppn shape a kind ≡ walk reading ppn shape b kind
unfolding walk path
walks_same reading shape ppn kind a b same = rw (canonical_same shape a b same) (by (is_canonical shape b))
  where
    by : (right : Bool) → end_of kind (cond right (path_from reading shape a kind (levels shape) ppn) []) ≡ end_of kind (cond right (path_from reading shape b kind (levels shape) ppn) [])
    by true = ap (end_of kind) (paths_same reading shape kind a b same (levels shape) ppn)
    by false = refl

-- one frame under a leaf
pub frame_same : (leaf : LeafPte) (a b : ℕ) → a / 4096 ≡ b / 4096 → leaf_address leaf a / 4096 ≡ leaf_address leaf b / 4096
frame_same leaf a b same = split a ∙ ap (λ n. leaf.frame + n % 2 ^ (9 * leaf.level)) same ∙ sym (split b)
  where
    quotient : (f p r n : ℕ) → n ≡ p * 4096 + r % 4096 → (4096 * f + n) / 4096 ≡ f + p
    quotient f p r n is = omega arith

    turned : 12 + 9 * leaf.level ≡ 9 * leaf.level + 12
    turned = omega arith

    split : (n : ℕ) → leaf_address leaf n / 4096 ≡ leaf.frame + n / 4096 % 2 ^ (9 * leaf.level)
    split n = rw turned (quotient leaf.frame (n / 4096 % 2 ^ (9 * leaf.level)) n (n % 2 ^ (9 * leaf.level + 12)) (mod-pow-add n (9 * leaf.level) 12))

-- entries of a table stand at multiples of eight bytes
pub eighth : (table part : ℕ) → (4096 * table + 8 * part) % 8 ≡ 0
eighth table part = omega arith
