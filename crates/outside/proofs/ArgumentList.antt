-- The words of arguments, one after the other.
use Rattle.std.proofs.Common.{◌≡◌, ℕ, zero, suc, ◌+◌, List, [], ◌∷◌, ◌++◌, map, take, Option, Some, None, slice_get, option_map, refl, ap, ◌∙◌, add-one}
use Rattle.std.proofs.lemmas.Str.{IsUtf8-from_is_utf8, is_utf8-from_IsUtf8}
use Rattle.outside.specs.Arguments.{word_of, IsWord, AreFirst, AreWords}

-- the first n words and the next one
more : (arguments : List (List ℕ)) (n : ℕ) (word : List ℕ) → Some word ≡ option_map word_of (slice_get arguments n)
    → map word_of (take n arguments) ++ word ∷ [] ≡ map word_of (take (suc n) arguments)
more [] n word e = cc
more (first ∷ rest) zero word e = cc
more (first ∷ rest) (suc n) word e = ap (λ words. word_of first ∷ words) (more rest n word e)

-- all words where there is no next one
done : (arguments : List (List ℕ)) (n : ℕ) → None ≡ option_map word_of (slice_get arguments n)
    → map word_of (take n arguments) ≡ map word_of arguments
done [] zero e = refl
done [] (suc n) e = refl
done (first ∷ rest) zero e = cc
done (first ∷ rest) (suc n) e = ap (λ words. word_of first ∷ words) (done rest n e)

pub words_more : (given : Option (List (List ℕ))) (n : ℕ) (words : List (List ℕ)) (word : List ℕ)
    → AreFirst given n words → IsWord given n (Some word) → AreFirst given (n + 1) (words ++ word ∷ [])
words_more (Some arguments) n words word first next =
    rw (add-one n, first) (more arguments n word next)
words_more None n words word first next = tt

pub words_done : (given : Option (List (List ℕ))) (n : ℕ) (words : List (List ℕ))
    → AreFirst given n words → IsWord given n None → AreWords given words
words_done (Some arguments) n words first next = first ∙ done arguments n next
words_done None n words first next = tt

pub ruleset word_texts = (IsUtf8-from_is_utf8, is_utf8-from_IsUtf8)
