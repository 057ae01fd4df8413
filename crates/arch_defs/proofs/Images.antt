-- Memory with an image in it.
use Rattle.std.proofs.Common.{◌≡◌, ℕ, ◌-◌, ◌≤◌, List, length, arith, length-append}
use Rattle.std.proofs.lemmas.List.{length-replicate}
use Rattle.arch_defs.specs.Memory.{loaded, zeros}

pub length_zeros : (n : ℕ) → length (zeros n) ≡ n
unfolding zeros
length_zeros n = length-replicate n 0

-- an image with zeros behind it is as long as it is to be
pub length_loaded : (size : ℕ) (image : List ℕ) → length image ≤ size → length (loaded size image) ≡ size
unfolding loaded
length_loaded size image fits =
    omega (arith, length-append image (zeros (size - length image)), length_zeros (size - length image), fits)
