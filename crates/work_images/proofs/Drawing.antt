-- Numbers that follow one another, and the commands drawn by them.
use Rattle.std.proofs.Common.{◌≡◌, ℕ, zero, suc, ◌+◌, ◌*◌, List, [], ◌∷◌, ◌++◌, length, refl, ap, sym, ◌∙◌, arith, append_assoc, length-append}
use Rattle.std.proofs.Math.Nat.{mul-add}
use Rattle.std.specs.Prelude.{map}
use Rattle.std.specs.List.{flat_map, range_with_len}
use Rattle.std.proofs.lemmas.List.FromFn.{length-map-range_with_len, map-range_with_len_more}
use Rattle.std.proofs.lemmas.List.{flat_map_more}
use Rattle.work_images.specs.declared.commands.Command.{Command}
use Rattle.work_images.specs.Numbers.{draw, following, number}
use Rattle.work_images.specs.Noise.{noise}
use Rattle.work_images.specs.Commands.{command_bytes, command_from, commands_from, list_bytes}
use Rattle.byteorder.specs.Endian.{little_bytes}

pub number_after : (x a b : ℕ) → number (number x a) b ≡ number x (a + b)
unfolding number
number_after x a zero = ap (λ n. number x n) (omega arith)
number_after x a (suc b) = let e : a + suc b ≡ suc (a + b) = omega arith in rw e (ap following (number_after x a b))

-- one more command
pub one_command_more : (x i y : ℕ) (c : Command) (before after : List ℕ) → y ≡ number x (4 * i) → c ≡ command_from y
    → before ≡ flat_map command_bytes (commands_from x i) → after ≡ before ++ command_bytes c
    → after ≡ flat_map command_bytes (commands_from x (i + 1))
unfolding commands_from
one_command_more x i y c before after e f g h =
    let each : ℕ → Command = λ k. command_from (number x (4 * k)) in
    let first = map each (range_with_len 0 i) in
    h ∙ ap (λ b. b ++ command_bytes c) g
    ∙ flat_map_more command_bytes [] first c
    ∙ ap (λ o. flat_map command_bytes (first ++ o ∷ [])) (f ∙ ap command_from e)
    ∙ ap (flat_map command_bytes) (sym (map-range_with_len_more each 0 i i (omega arith)))

pub next_number : (x i y z : ℕ) → y ≡ number x (4 * i) → z ≡ number y 4 → z ≡ number x (4 * (i + 1))
next_number x i y z e f = f ∙ ap (λ n. number n 4) e ∙ number_after x (4 * i) 4 ∙ ap (λ n. number x n) (omega arith)

-- the number that a guest's commands begin after
pub next_guest : (seed count g y z : ℕ) → y ≡ number seed (4 * (count * g)) → z ≡ number y (4 * count)
    → z ≡ number seed (4 * (count * (g + 1)))
next_guest seed count g y z e f =
    let m : count * (g + 1) ≡ count * g + count * 1 = mul-add count g 1 in
    f ∙ ap (λ n. number n (4 * count)) e ∙ number_after seed (4 * (count * g)) (4 * count) ∙ ap (λ n. number seed n) (omega arith)

pub no_commands : (x : ℕ) → [] ≡ flat_map command_bytes (commands_from x 0)
unfolding commands_from
no_commands x = refl

pub length_commands : (commands : List Command) → length (flat_map command_bytes commands) ≡ 32 * length commands
length_commands [] = refl
length_commands (c ∷ commands) =
    length-append (command_bytes c) (flat_map command_bytes commands) ∙ omega (arith, length_commands commands)

pub length_list : (x count : ℕ) → length (list_bytes (commands_from x count)) ≡ 32 * count + 8
unfolding commands_from
length_list x count =
    length-append (flat_map command_bytes (commands_from x count)) (little_bytes 8 0)
    ∙ omega (arith, length_commands (commands_from x count), length-map-range_with_len (λ i. command_from (number x (4 * i))) 0 count)

pub one_number_more : (x i y z : ℕ) → y ≡ number x i → z ≡ following y → z ≡ number x (i + 1)
unfolding number
one_number_more x i y z e f = let m : i + 1 ≡ suc i = omega arith in rw m (f ∙ ap following e)

pub no_noise : (seed : ℕ) → [] ≡ noise seed 0
unfolding noise
no_noise seed = refl

-- one more byte of noise
pub one_byte_more : (seed i byte : ℕ) (before after : List ℕ) → byte ≡ draw seed i 256 → before ≡ noise seed i
    → after ≡ before ++ byte ∷ [] → after ≡ noise seed (i + 1)
unfolding noise
one_byte_more seed i byte before after e f g =
    let each : ℕ → ℕ = λ k. draw seed k 256 in
    g ∙ ap (λ b. b ++ byte ∷ []) f
    ∙ ap (λ b. map each (range_with_len 0 i) ++ b ∷ []) e
    ∙ sym (map-range_with_len_more each 0 i i (omega arith))

-- bytes appended behind those that were appended before
appended : (old done more before after : List ℕ) → before ≡ old ++ done → after ≡ before ++ more → after ≡ old ++ (done ++ more)
appended old done more before after so_far is = is ∙ ap (λ b. b ++ more) so_far ∙ append_assoc old done more

-- a command's doublewords, appended one after the other
pub command_appended : (c : Command) (old b1 b2 b3 b4 : List ℕ) → b1 ≡ old ++ little_bytes 8 c.address → b2 ≡ b1 ++ little_bytes 8 c.value
    → b3 ≡ b2 ++ little_bytes 8 c.fence → b4 ≡ b3 ++ little_bytes 8 c.pointer → b4 ≡ old ++ command_bytes c
command_appended c old b1 b2 b3 b4 h1 h2 h3 h4 =
    let address = little_bytes 8 c.address in
    let value = little_bytes 8 c.value in
    let fence = little_bytes 8 c.fence in
    let two = appended old address value b1 b2 h1 h2 in
    let three = appended old (address ++ value) fence b2 b3 two h3 in
    appended old (address ++ value ++ fence) (little_bytes 8 c.pointer) b3 b4 three h4
