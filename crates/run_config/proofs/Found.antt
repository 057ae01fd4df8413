-- What is found at a key.
use Rattle.std.proofs.Common.{◌≡◌, ℕ, nat_le, ◌&&◌, List, Some, refl}
use Rattle.std.proofs.lemmas.Option.{option_and_then_some}
use Rattle.toml.specs.Data.{Data, Members, as_integer, as_str}
use Rattle.run_config.specs.declared.keys.ConfigKey.{ConfigKey}
use Rattle.run_config.specs.Values.{◌>>=◌, passes_if, natural, natural_or, number_within, text_at, value_at}

number_of_value : (low high : ℕ) (value : Data) (n : ℕ) → number_within low high value ≡ Some n → (as_integer value >>= natural) ≡ Some n
unfolding number_within
number_of_value low high value n e =
    option_and_then_some _ (as_integer value) n e (λ z is e.
    option_and_then_some _ (natural z) n e (λ m is_m e.
    option_and_then_some _ (passes_if (nat_le low m && nat_le m high)) n e (λ _ _ e.
    rw (is, is_m) e)))

pub number_found : (absent : ℕ) (k : ConfigKey) (table : Members) (low high : ℕ) (value : Data) (n : ℕ) → value_at k table ≡ Some value → number_within low high value ≡ Some n → n ≡ natural_or absent k table
unfolding natural_or
number_found absent k table low high value n e is = rw (e, number_of_value low high value n is) refl

pub text_found : (k : ConfigKey) (table : Members) (value : Data) (text : List ℕ) → value_at k table ≡ Some value → as_str value ≡ Some text → text ≡ text_at k table
unfolding text_at
text_found k table value text e is = rw (e, is) refl
