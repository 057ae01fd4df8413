-- Memory in doublewords.
use Rattle.std.specs.Prelude.{ℕ, zero, suc, ◌+◌, ◌*◌, ◌/◌, ◌==◌, List, length, if◌then◌else◌}
use Rattle.byteorder.specs.Endian.{little_bytes}
use Rattle.arch_defs.specs.Memory.{load, pasted}

-- the doubleword with this number, and memory with another value there
abbrev pub doubleword_at : List ℕ → ℕ → ℕ
doubleword_at memory i = load memory (8 * i) 8

abbrev pub with_word : List ℕ → ℕ → ℕ → List ℕ
with_word memory i value = pasted memory (8 * i) (little_bytes 8 value)

-- how many of the first n doublewords differ
unfoldable pub changed_below : ℕ → List ℕ → List ℕ → ℕ
changed_below zero old new = 0
changed_below (suc n) old new =
    (if doubleword_at new n == doubleword_at old n then 0 else 1) + changed_below n old new

-- how many doublewords of memory differ
abbrev pub changed : List ℕ → List ℕ → ℕ
changed old new = changed_below (length old / 8) old new
