-- Chunks that are added leave the bytes of all forms as they were.
use Rattle.std.proofs.Common.{arith, ◌≡◌, ◌∙◌, ℕ, ◌<◌, List, [], ◌∷◌, ◌++◌, length, map, refl, ap, sym, subst}
use Rattle.std.specs.Global.{Vec}
use Rattle.std.specs.List.{All, slice_index_or}
use Rattle.std.proofs.lemmas.Grind.{common_steps, flat_map-append}
use Rattle.std.proofs.lemmas.List.{append-nil, get_or_append_left, map-append}
use Rattle.std.proofs.Math.Seq.{get_or-append_seam}
use Rattle.std.proofs.lemmas.List.Elements.{All-append, All-cons, All-head, All-nil, All-tail}
use Rattle.form_pool.specs.Forms.{AreStillThere, IsNumberOf, bytes_of}
use Rattle.form_pool.specs.declared.pools.FormPool.TheInside.{Inside}
use Rattle.form_pool.specs.declared.trails.Trail.{Trail}
use Rattle.form_pool.specs.View.{AreNumbers, HasChunks, forms_of}

-- a chunk is added
pub still_with_more : (chunks : List (List ℕ)) (bytes : List ℕ) → AreStillThere chunks (chunks ++ bytes ∷ [])
still_with_more chunks bytes = record {
  more = grind (arith, common_steps);
  same = λ number inside. get_or_append_left chunks (bytes ∷ []) [] number inside;
}

pub still_alike : (chunks : List (List ℕ)) → AreStillThere chunks chunks
still_alike chunks = record { more = omega arith; same = λ number inside. refl }

pub last_number : (chunks : List (List ℕ)) (bytes : List ℕ) → IsNumberOf (chunks ++ bytes ∷ []) bytes (length chunks)
last_number chunks bytes = record {
  inside = grind (arith, common_steps);
  same = get_or-append_seam chunks bytes [] [];
}

pub ruleset chunks_added = (still_with_more, still_alike, last_number)

pub none_number : (chunks : List (List ℕ)) → AreNumbers chunks []
none_number chunks = All-nil (λ number. number < length chunks)

pub none_kept : (chunks : List (List ℕ)) → All (AreNumbers chunks) []
none_kept chunks = All-nil (AreNumbers chunks)

pub ruleset none_numbered = (none_number, none_kept)

-- chunks that are still there give the same bytes
bytes_still : (old new : List (List ℕ)) (numbers : List ℕ) → AreStillThere old new → AreNumbers old numbers → bytes_of new numbers ≡ bytes_of old numbers
bytes_still old new [] there inside = refl
bytes_still old new (n ∷ numbers) there inside =
    let same : slice_index_or new n [] ≡ slice_index_or old n [] = there.same n (All-head (λ number. number < length old) n numbers inside) in
    let rest : bytes_of new numbers ≡ bytes_of old numbers =
    bytes_still old new numbers there (All-tail (λ number. number < length old) n numbers inside) in
    rw same (rw rest refl)

kept_still : (old new : List (List ℕ)) (kept : List (List ℕ)) → AreStillThere old new → All (AreNumbers old) kept
    → map (bytes_of new) kept ≡ map (bytes_of old) kept
kept_still old new [] there inside = refl
kept_still old new (form ∷ kept) there inside =
    let same : bytes_of new form ≡ bytes_of old form = bytes_still old new form there (All-head (AreNumbers old) form kept inside) in
    let rest : map (bytes_of new) kept ≡ map (bytes_of old) kept = kept_still old new kept there (All-tail (AreNumbers old) form kept inside) in
    rw same (rw rest refl)

numbers_still : (old new : List (List ℕ)) (numbers : List ℕ) → AreStillThere old new → AreNumbers old numbers → AreNumbers new numbers
numbers_still old new numbers there inside = λ k d within. omega (arith, inside k d within, there.more)

kept_numbers_still : (old new : List (List ℕ)) (kept : List (List ℕ)) → AreStillThere old new → All (AreNumbers old) kept → All (AreNumbers new) kept
kept_numbers_still old new kept there inside = λ k d within. numbers_still old new (slice_index_or kept k d) there (inside k d within)

bytes_with_one : (chunks : List (List ℕ)) (bytes : List ℕ) (numbers : List ℕ) (n : ℕ) → IsNumberOf chunks bytes n
    → bytes_of chunks (numbers ++ n ∷ []) ≡ bytes_of chunks numbers ++ bytes
bytes_with_one chunks bytes numbers n is =
    flat_map-append (λ number. slice_index_or chunks number []) numbers (n ∷ [])
    ∙ ap (λ (more : List ℕ). bytes_of chunks numbers ++ more) (append-nil (slice_index_or chunks n []) ∙ is.same)

-- a number is appended to the partial form, or none, and chunks may be added
pub has_appended : (p : Inside) (chunks : List (List ℕ)) (numbers : Vec ℕ) (trail : Trail) (bytes : List ℕ) (n : ℕ) → HasChunks p
    → AreStillThere p.chunks chunks → IsNumberOf chunks bytes n → numbers.items ≡ p.partial.items ++ n ∷ []
    → HasChunks (record p { chunks = chunks; partial = numbers; trail = trail })
has_appended p chunks numbers trail bytes n has there is more = record {
  kept = kept_numbers_still p.chunks chunks p.kept.items there has.kept;
  partial = subst (λ (numbers : List ℕ). AreNumbers chunks numbers) (sym more)
      (All-append (λ number. number < length chunks) p.partial.items (n ∷ []) (numbers_still p.chunks chunks p.partial.items there has.partial)
      (All-cons (λ number. number < length chunks) n [] is.inside (none_number chunks)));
}

pub is_appended : (p : Inside) (chunks : List (List ℕ)) (numbers : Vec ℕ) (trail : Trail) (bytes : List ℕ) (n : ℕ) → HasChunks p
    → AreStillThere p.chunks chunks → IsNumberOf chunks bytes n → numbers.items ≡ p.partial.items ++ n ∷ []
    → forms_of (record p { chunks = chunks; partial = numbers; trail = trail })
    ≡ record (forms_of p) { partial = bytes_of p.chunks p.partial.items ++ bytes }
is_appended p chunks numbers trail bytes n has there is more =
    let kept : map (bytes_of chunks) p.kept.items ≡ map (bytes_of p.chunks) p.kept.items = kept_still p.chunks chunks p.kept.items there has.kept in
    let partial : bytes_of chunks numbers.items ≡ bytes_of p.chunks p.partial.items ++ bytes =
    ap (λ (numbers : List ℕ). bytes_of chunks numbers) more ∙ bytes_with_one chunks bytes p.partial.items n is
    ∙ ap (λ (front : List ℕ). front ++ bytes) (bytes_still p.chunks chunks p.partial.items there has.partial) in
    rw kept (rw partial refl)

pub has_added : (p : Inside) (chunks : List (List ℕ)) (numbers : Vec ℕ) → HasChunks p → AreStillThere p.chunks chunks → numbers.items ≡ p.partial.items
    → HasChunks (record p { chunks = chunks; partial = numbers })
has_added p chunks numbers has there same = record {
  kept = kept_numbers_still p.chunks chunks p.kept.items there has.kept;
  partial = subst (λ (numbers : List ℕ). AreNumbers chunks numbers) (sym same) (numbers_still p.chunks chunks p.partial.items there has.partial);
}

pub is_added : (p : Inside) (chunks : List (List ℕ)) (numbers : Vec ℕ) → HasChunks p → AreStillThere p.chunks chunks → numbers.items ≡ p.partial.items
    → forms_of (record p { chunks = chunks; partial = numbers }) ≡ forms_of p
is_added p chunks numbers has there same =
    let kept : map (bytes_of chunks) p.kept.items ≡ map (bytes_of p.chunks) p.kept.items = kept_still p.chunks chunks p.kept.items there has.kept in
    let partial : bytes_of chunks numbers.items ≡ bytes_of p.chunks p.partial.items =
    ap (λ (numbers : List ℕ). bytes_of chunks numbers) same ∙ bytes_still p.chunks chunks p.partial.items there has.partial in
    rw kept (rw partial refl)

-- the partial form is kept
pub has_kept : (p : Inside) (kept : Vec (List ℕ)) (none : Vec ℕ) (numbers : List ℕ) → HasChunks p → kept.items ≡ p.kept.items ++ numbers ∷ []
    → numbers ≡ p.partial.items → none.items ≡ [] → HasChunks (record p { kept = kept; partial = none })
has_kept p kept none numbers has more same empty = record {
  kept = subst (λ (forms : List (List ℕ)). All (AreNumbers p.chunks) forms) (sym more)
      (All-append (AreNumbers p.chunks) p.kept.items (numbers ∷ []) has.kept
      (All-cons (AreNumbers p.chunks) numbers [] (subst (λ (numbers : List ℕ). AreNumbers p.chunks numbers) (sym same) has.partial)
      (none_kept p.chunks)));
  partial = subst (λ (numbers : List ℕ). AreNumbers p.chunks numbers) (sym empty) (none_number p.chunks);
}

pub is_kept : (p : Inside) (kept : Vec (List ℕ)) (none : Vec ℕ) (numbers : List ℕ) → kept.items ≡ p.kept.items ++ numbers ∷ []
    → numbers ≡ p.partial.items → none.items ≡ []
    → forms_of (record p { kept = kept; partial = none })
    ≡ record { kept = map (bytes_of p.chunks) p.kept.items ++ bytes_of p.chunks p.partial.items ∷ []; partial = []; faults = p.faults }
is_kept p kept none numbers more same empty =
    let forms : map (bytes_of p.chunks) kept.items ≡ map (bytes_of p.chunks) p.kept.items ++ bytes_of p.chunks p.partial.items ∷ [] =
    ap (λ (forms : List (List ℕ)). map (bytes_of p.chunks) forms) more ∙ map-append (bytes_of p.chunks) p.kept.items (numbers ∷ [])
    ∙ ap (λ (numbers : List ℕ). map (bytes_of p.chunks) p.kept.items ++ bytes_of p.chunks numbers ∷ []) same in
    rw forms (rw empty refl)

pub has_same : (p : Inside) (kept : Vec (List ℕ)) → HasChunks p → kept.items ≡ p.kept.items → HasChunks (record p { kept = kept })
has_same p kept has same = record {
  kept = subst (λ (forms : List (List ℕ)). All (AreNumbers p.chunks) forms) (sym same) has.kept;
  partial = has.partial;
}

pub ruleset forms_shared = (has_appended, is_appended, has_added, is_added, has_kept, is_kept, has_same)
