-- The bytes of an image, and the list of guests.
use Rattle.std.proofs.Common.{◌≡◌, ℕ, ◌+◌, ◌*◌, ◌<◌, List, [], ◌∷◌, ◌++◌, length, ap, sym, ◌∙◌, arith}
use Rattle.std.specs.Prelude.{map}
use Rattle.std.specs.List.{range_with_len}
use Rattle.std.proofs.lemmas.List.{ext_get_or}
use Rattle.std.proofs.lemmas.List.FromFn.{length-map-range_with_len, get_or-map-range_with_len, map-range_with_len_more}
use Rattle.guest_settings.specs.declared.guests.GuestSpec.{GuestSpec}
use Rattle.rv64_asm.specs.Plans.{ImagePlan, IsImage, byte_at, size}
use Rattle.work_images.specs.Numbers.{number}
use Rattle.work_images.specs.Commands.{commands_from, list_bytes}
use Rattle.work_images.specs.Program.{image_plan}
use Rattle.work_images.specs.Guests.{guest, guest_name, guest_with, guests, image_from, image_bytes}
use Rattle.work_images.proofs.Drawing.{length_list}
use Rattle.work_images.proofs.Parts.{size_is}

-- an image has one list of bytes
pub image_is : (plan : ImagePlan) (image : List ℕ) → IsImage plan image → image ≡ image_bytes plan
unfolding image_bytes
image_is plan image h = ext_get_or 0 image (map (byte_at plan) (range_with_len 0 (size plan)))
    (h.ends ∙ sym (length-map-range_with_len (byte_at plan) 0 (size plan)))
    (λ i below. let here : i < size plan = omega (arith, h.ends) in
    h.bytes i here ∙ sym (get_or-map-range_with_len (byte_at plan) 0 (size plan) i i 0 here (omega arith)))

pub one_guest_more : (seed count g y : ℕ) (image : List ℕ) (made : GuestSpec) (before after : List GuestSpec)
    → y ≡ number seed (4 * (count * g)) → image ≡ image_from y count
    → made ≡ guest_with (guest_name g) image → before ≡ map (guest seed count) (range_with_len 0 g) → after ≡ before ++ made ∷ []
    → after ≡ map (guest seed count) (range_with_len 0 (g + 1))
one_guest_more seed count g y image made before after e f h k l =
    l ∙ ap (λ b. b ++ made ∷ []) k
    ∙ ap (λ m. map (guest seed count) (range_with_len 0 g) ++ m ∷ [])
    (h ∙ ap (guest_with (guest_name g)) (f ∙ ap (λ x. image_from x count) e))
    ∙ sym (map-range_with_len_more (guest seed count) 0 g g (omega arith))

pub image_length : (seed count g : ℕ) → length (guest seed count g).image ≡ 131072 + 32 * count + 8
unfolding image_bytes
image_length seed count g =
    let commands = list_bytes (commands_from (number seed (4 * (count * g))) count) in
    let n : length commands ≡ 32 * count + 8 = length_list (number seed (4 * (count * g))) count in
    length-map-range_with_len (byte_at (image_plan commands)) 0 (size (image_plan commands))
    ∙ size_is commands (omega arith) ∙ omega arith

pub all_guests : (seed count g : ℕ) (made : List GuestSpec) → g ≡ 4 → made ≡ map (guest seed count) (range_with_len 0 g) → made ≡ guests seed count
unfolding guests
all_guests seed count g made e f = f ∙ ap (λ n. map (guest seed count) (range_with_len 0 n)) e
