-- RAM that is appended block by block, and what is appended before it.
use Rattle.std.specs.List.{flat_map}
use Rattle.std.specs.Prelude.{Ok, Err}
use Rattle.std.proofs.Common.{◌≡◌, ℕ, ◌+◌, ◌*◌, ◌≤◌, List, [], ◌++◌, length, take, drop, ap, ◌∙◌, subst, sym, arith}
use Rattle.std.proofs.Math.Seq.{take-add}
use Rattle.std.proofs.lemmas.List.{append-nil, take-append-drop, take_all}
use Rattle.arch_defs.specs.declared.roots.GuestRoot.TheVariants.{Bare}
use Rattle.arch_defs.specs.Memory.{block_size}
use Rattle.arch_defs.specs.Spaces.{Space}
use Rattle.guest_save.proofs.Buffering.{buffers_stopped, buffers_then}
use Rattle.guest_save.specs.declared.versions.Version.TheVariants.{Third}
use Rattle.guest_save.specs.Buffers.{Buffers}
use Rattle.guest_save.specs.Forms.{first_entry_form, first_form}
use Rattle.guest_save.specs.Numbers.{number_bytes}
use Rattle.machine_defs.specs.Machine.{Machine}
use Rattle.outside.specs.declared.sinks.Sink as sinks

-- a space that is none
pub no_space : Space
no_space = record { key = Bare; entries = [] }

-- first-stage translations, with nothing behind them
pub first_whole : (m : Machine) → first_form Third m [] ≡ number_bytes (length m.platform.virt.first) ++ flat_map first_entry_form m.platform.virt.first
unfolding first_form
first_whole m = ap (λ (bytes : List ℕ). number_bytes (length m.platform.virt.first) ++ bytes) (append-nil (flat_map first_entry_form m.platform.virt.first))

module _ (ram : List ℕ) where
  next_block : (n : ℕ) → take ((n + 1) * block_size) ram ≡ take (n * block_size) ram ++ take block_size (drop (n * block_size) ram)
  next_block n =
      let more : (n + 1) * block_size ≡ n * block_size + block_size = omega arith in
      ap (λ (k : ℕ). take k ram) more ∙ take-add (n * block_size) block_size ram

  all_blocks : (n : ℕ) → ram ≡ (take (n * block_size) ram ++ take block_size (drop (n * block_size) ram)) ++ drop ((n + 1) * block_size) ram
  all_blocks n = sym (take-append-drop ((n + 1) * block_size) ram) ∙ ap (λ (front : List ℕ). front ++ drop ((n + 1) * block_size) ram) (next_block n)

module _ {Y A E : Type 0} (O : sinks.Ghosts Y) (ram : List ℕ) where
  pub ram_more : (x y : A) (old mid new : Y) (held between left : List ℕ) (n : ℕ)
      → Buffers {E = E} O (Ok x) old held mid between (take (n * block_size) ram) → Buffers {E = E} O (Ok y) mid between new left (take block_size (drop (n * block_size) ram))
      → Buffers {E = E} O (Ok y) old held new left (take ((n + 1) * block_size) ram)
  ram_more x y old mid new held between left n first next =
      subst (λ (bytes : List ℕ). Buffers {E = E} O (Ok y) old held new left bytes) (sym (next_block ram n)) (buffers_then O x (Ok y) old mid new held between left (take (n * block_size) ram) (take block_size (drop (n * block_size) ram)) first next)

  pub ram_stopped : (x : A) (e : E) (old mid new : Y) (held between left : List ℕ) (n : ℕ)
      → Buffers {E = E} O (Ok x) old held mid between (take (n * block_size) ram) → Buffers {A = A} O (Err e) mid between new left (take block_size (drop (n * block_size) ram))
      → Buffers {A = A} O (Err e) old held new left ram
  ram_stopped x e old mid new held between left n first next =
      subst (λ (bytes : List ℕ). Buffers {A = A} O (Err e) old held new left bytes) (sym (all_blocks ram n))
      (buffers_stopped O e old new held left (take (n * block_size) ram ++ take block_size (drop (n * block_size) ram)) (drop ((n + 1) * block_size) ram)
      (buffers_then O x (Err e) old mid new held between left (take (n * block_size) ram) (take block_size (drop (n * block_size) ram)) first next))

  pub ram_done : (x : A) (old new : Y) (held left : List ℕ) (n : ℕ) → length ram ≤ n * block_size
      → Buffers {E = E} O (Ok x) old held new left (take (n * block_size) ram) → Buffers {E = E} O (Ok x) old held new left ram
  ram_done x old new held left n all first = rw (take_all (n * block_size) ram all) at first
