-- What reading gives by itself, whatever the bytes are.
use Rattle.std.specs.List.{All}
use Rattle.std.specs.Prelude.{nat_le, slice_index, ◌==◌}
use Rattle.std.proofs.Common.{◌≡◌, ℕ, zero, suc, ◌+◌, ◌-◌, ◌*◌, ◌≤◌, Bool, List, length, take, drop, min, refl, ap, ◌∙◌, sym, arith}
use Rattle.std.proofs.Math.Nat.{min-le_right}
use Rattle.std.proofs.lemmas.Bool.{cond_both, leb-true}
use Rattle.std.proofs.lemmas.List.{drop-drop, drop_min, length-drop}
use Rattle.std.proofs.lemmas.List.Elements.{All-cons, All-nil}
use Rattle.arch_defs.specs.declared.first.FirstEntry.{FirstEntry}
use Rattle.arch_defs.specs.declared.first.Tag.{Tag}
use Rattle.arch_defs.specs.declared.first.Tag.TheVariants.{Flat, Nested}
use Rattle.arch_defs.specs.declared.roots.SupervisorRoot.TheVariants.{Bare}
use Rattle.arch_defs.specs.CsrBits.{guest_root_of, hgatp_bits}
use Rattle.guest_save.proofs.Eights.{items_length}
use Rattle.guest_save.proofs.StoredRegisters.{read_is_stored}
use Rattle.guest_save.specs.declared.versions.Version.{Version}
use Rattle.guest_save.specs.declared.versions.Version.TheVariants.{First, Second, Third}
use Rattle.guest_save.specs.Headers.{header_in}
use Rattle.guest_save.specs.Numbers.{items_in, number_in, leading_numbers}
use Rattle.guest_save.specs.Reading.{after_first, after_space, after_spaces, capped, count_in, device_in, first_entries_in, first_entry_in, first_in, from_console, from_inputs, from_spaces, input_of, leading_inputs, machine_by, machine_with, space_in, leading_spaces, tag_in}
use Rattle.guest_save.specs.Registers.{csrs_in}
use Rattle.guest_save.specs.Tests.{IsRead}
use Rattle.guest_save.specs.Versions.{header_end, later_begin}
use Rattle.machine_defs.specs.Machine.{Machine, with_lines}
use Rattle.run_laws.proofs.StoredForms.{atp_bare, atp_stored, hgatp_stored}
use Rattle.run_laws.specs.FirstKeys.{AreStorable, IsStorableFirst, IsStorableTag}
use Rattle.run_laws.specs.StorableStates.{stored_form}

capped_most : (most n : ℕ) → capped most n ≤ most
capped_most most n = cond_both (nat_le n most) n most (λ (x : ℕ). x ≤ most) (λ is. leb-true n most is) (λ is. omega arith)

lines_stored : (ns : List ℕ) (time : ℕ) (timer external : Bool) → stored_form (with_lines (csrs_in ns) time timer external) ≡ with_lines (csrs_in ns) time timer external
lines_stored ns time timer external = let is = read_is_stored ns in let lines = with_lines (csrs_in ns) time timer external in
    λ i. record (is i) { sip = lines.sip; time = time }

keys_stored : (count : ℕ) (bytes : List ℕ) → All (λ s. guest_root_of (hgatp_bits s.key) ≡ s.key) (leading_spaces count bytes)
unfolding leading_spaces
keys_stored zero bytes = All-nil (λ s. guest_root_of (hgatp_bits s.key) ≡ s.key)
keys_stored (suc count) bytes =
    All-cons (λ s. guest_root_of (hgatp_bits s.key) ≡ s.key) (space_in bytes) (leading_spaces count (after_space bytes))
    (hgatp_stored (number_in bytes)) (keys_stored count (after_space bytes))

tag_storable : (v hgatp : ℕ) → IsStorableTag (tag_in v hgatp)
tag_storable v hgatp = cond_both (v == 0) Flat (Nested (guest_root_of hgatp)) (λ (tag : Tag). IsStorableTag tag) (λ is. tt) (λ is. hgatp_stored hgatp)

entries_storable : (count : ℕ) (bytes : List ℕ) → AreStorable (first_entries_in count bytes)
unfolding items_in
entries_storable zero bytes = All-nil IsStorableFirst
entries_storable (suc count) bytes =
    let ns = leading_numbers 6 bytes in
    All-cons IsStorableFirst (first_entry_in bytes) (first_entries_in count (drop 48 bytes))
    (record { tag = tag_storable (slice_index ns 0) (slice_index ns 1); atp = atp_stored Bare (slice_index ns 2) atp_bare })
    (entries_storable count (drop 48 bytes))

first_storable : (version : Version) (bytes : List ℕ) → AreStorable (first_in version bytes)
first_storable First bytes = All-nil IsStorableFirst
first_storable Second bytes = All-nil IsStorableFirst
first_storable Third bytes = entries_storable (count_in 32 bytes) (drop 8 bytes)

parts_read : (sizes : List ℕ) (device : Bool) (ns console : List ℕ) (count : ℕ) (bytes : List ℕ) (spaces : ℕ) (rest : List ℕ) (first : List FirstEntry) (ram : List ℕ)
    → count ≤ 65536 → AreStorable first
    → IsRead (machine_with (header_in sizes device ns) console (leading_inputs count bytes) (leading_spaces spaces rest) first ram)
unfolding header_in
parts_read sizes device ns console count bytes spaces rest first ram few storable = record {
  x0 = refl;
  csrs = lines_stored (drop 37 ns) _ _ _;
  lines = refl;
  inputs = omega (arith, items_length input_of 9 count bytes, few);
  keys = keys_stored spaces rest;
  storable = storable;
}

pub read_is : (version : Version) (bytes : List ℕ) → IsRead (machine_by version bytes)
unfolding machine_by from_console from_inputs from_spaces
read_is version bytes =
    let first = drop (header_end version) bytes in
    let console = count_in 1048576 first in
    let second = drop console (drop 8 first) in
    let inputs = count_in 65536 second in
    let third = drop (9 * inputs) (drop 8 second) in
    let spaces = count_in 8 third in
    let last = after_spaces spaces (drop 8 third) in
    parts_read (leading_numbers 4 (drop 8 bytes)) (device_in version bytes) (leading_numbers 68 (drop (later_begin version) bytes)) (take console (drop 8 first)) inputs (drop 8 second) spaces (drop 8 third)
    (first_in version last) (after_first version last) (capped_most 65536 (number_in second)) (first_storable version last)

-- RAM is an end of the bytes
abbrev pub IsEnd : List ℕ → List ℕ → Type 0
IsEnd rest bytes = (k : ℕ) × (k ≤ length bytes) × (rest ≡ drop k bytes)

end_all : (bytes : List ℕ) → IsEnd bytes bytes
end_all bytes = (0, omega arith, refl)

end_drop : (n : ℕ) (rest bytes : List ℕ) → IsEnd rest bytes → IsEnd (drop n rest) bytes
end_drop n rest bytes (k, within, is) =
    (min (k + n) (length bytes), min-le_right (k + n) (length bytes), ap (λ (xs : List ℕ). drop n xs) is ∙ drop-drop n k bytes ∙ sym (drop_min (k + n) bytes))

end_spaces : (count : ℕ) (rest bytes : List ℕ) → IsEnd rest bytes → IsEnd (after_spaces count rest) bytes
unfolding after_spaces
end_spaces zero rest bytes is = is
end_spaces (suc count) rest bytes is = end_spaces count (after_space rest) bytes (end_drop _ _ bytes (end_drop 16 rest bytes is))

end_first : (version : Version) (rest bytes : List ℕ) → IsEnd rest bytes → IsEnd (after_first version rest) bytes
end_first First rest bytes is = is
end_first Second rest bytes is = is
end_first Third rest bytes is = end_drop _ _ bytes (end_drop 8 rest bytes is)

pub ram_is_end : (version : Version) (bytes : List ℕ) → IsEnd (machine_by version bytes).ram bytes
unfolding machine_by from_console from_inputs from_spaces
ram_is_end version bytes =
    end_first version _ bytes (end_spaces _ _ bytes (end_drop 8 _ bytes (end_drop _ _ bytes (end_drop 8 _ bytes (end_drop _ _ bytes (end_drop 8 _ bytes (end_drop (header_end version) bytes bytes (end_all bytes))))))))

-- so it begins where as many bytes are left as it has
pub ram_begins : (version : Version) (bytes : List ℕ) (m : Machine) → m ≡ machine_by version bytes → (length m.ram ≤ length bytes) × (m.ram ≡ drop (length bytes - length m.ram) bytes)
ram_begins version bytes m is = by m (rw is (ram_is_end version bytes))
  where
    by : (m : Machine) → IsEnd m.ram bytes → (length m.ram ≤ length bytes) × (m.ram ≡ drop (length bytes - length m.ram) bytes)
    by m (k, within, is) =
        let size : length m.ram ≡ length bytes - k = ap length is ∙ length-drop k bytes in
        let place : k ≡ length bytes - length m.ram = omega (arith, size, within) in
        (omega (arith, size), is ∙ ap (λ (n : ℕ). drop n bytes) place)
